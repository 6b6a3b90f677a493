use Rattle.std.proofs.Common.{arith, subst, List, []}
use Rattle.go_syntax.specs.declared.tree.Name.{Name}
use Rattle.go_typing.specs.Declare.{const_spec, counting}
use Rattle.go_assign.specs.Outcome.{Does}
use Rattle.go_items.specs.ItemView.{type_in, values_in}
use Rattle.go_body.proofs.LocalConstsSpecLemmas.{specs_step, specs_end}
use Rattle.go_body.proofs.local_consts.specs.const_specs.Goals as goal

pub const_spec-requires-clause-depth : goal.const_spec-requires-clause-depth
const_spec-requires-clause-depth c = let d = (c.loop-spec.invariant.does []).depth in let r = c.requires.depth in omega (arith, d, r)

pub loop-spec-preserved : goal.loop-spec-preserved
loop-spec-preserved c =
    record {
      does = λ out.
          specs_step c.args.at c.args.specs.now c.loop-spec.spec-index c.loop-spec.number c.in_ok-number.number c.spec-item.result (type_in c.loop-spec.source) (type_in c.source_of-source.result) (values_in c.loop-spec.source) (values_in c.source_of-source.result) c.args.walk.now c.loop-spec.walk c.const_spec.new.walk
          c.args.flaws.now.items c.loop-spec.flaws.items c.const_spec.new.flaws.items out c.loop-spec-test.true c.spec-item.is c.in_ok-number.ensures.value (c.source_of-source.ensures.value c.args.at c.loop-spec.number) (c.loop-spec.invariant.does out)
          (subst (λ (ns : List Name). Does (λ w. const_spec c.args.at (counting c.loop-spec.number w) ns (type_in c.source_of-source.result) (values_in c.source_of-source.result) w) c.loop-spec.walk c.const_spec.new.walk c.loop-spec.flaws.items c.const_spec.new.flaws.items out out) c.as_slice.ensures.value (c.in_ok-const_spec.ensures.does out));
      plain = c.in_ok-const_spec.ensures.plain;
    }

pub returns-clause-does : goal.returns-clause-does
returns-clause-does c =
    λ out. specs_end c.args.at c.args.specs.now c.loop-spec.spec-index c.loop-spec.number (type_in c.loop-spec.source) (values_in c.loop-spec.source) c.args.walk.now c.loop-spec.walk c.args.flaws.now.items c.loop-spec.flaws.items out c.loop-spec-test.false (c.loop-spec.invariant.does out)

use Rattle.std.proofs.Common.{arith, ◌∙◌, sym, subst}
use Rattle.std.specs.Prelude.{IfSome, ◌<◌}
use Rattle.go_type.specs.Table.{size}
use Rattle.go_type.specs.declared.table.TypeTable.{TypeTable}
use Rattle.go_calls.specs.Words.{types_of}
use Rattle.go_assign.specs.SpecView.{spec_view}
use Rattle.go_body.proofs.NameLemmas.{zeros_step, zeros_end}
use Rattle.go_body.proofs.local_vars.zero.zeros.Goals as goal

pub one_zero-requires-clause-depth : goal.one_zero-requires-clause-depth
one_zero-requires-clause-depth c = let d = c.loop-n.invariant.left.depth in let r = c.requires.depth in omega (arith, d, r)

pub one_zero-requires-clause-below : goal.one_zero-requires-clause-below
one_zero-requires-clause-below c =
    subst (λ (t : TypeTable). IfSome c.zero_of-ty.result (λ i. i.0 < size t)) (sym c.loop-n.invariant.table) c.zero_of-ty.ensures.within

pub loop-n-preserved : goal.loop-n-preserved
loop-n-preserved c =
    let a = c.args.walk.now in
    record {
      left = zeros_step (spec_view (types_of a.env) c.args.s) c.args.names.now c.loop-n.n-index c.n-item.result c.zero_of-ty.result a c.loop-n.walk c.one_zero.new.walk c.args.flaws.now.items c.loop-n.flaws.items c.one_zero.new.flaws.items c.args.out.now.items c.loop-n.out.items c.one_zero.new.out.items
          c.zero_of-ty.ensures.value c.loop-n.invariant.table c.loop-n-test.true c.n-item.is c.loop-n.invariant.left c.in_ok-one_zero.ensures.does;
      table = c.in_ok-one_zero.ensures.table ∙ c.loop-n.invariant.table;
    }

pub returns : goal.returns
returns c =
    let a = c.args.walk.now in
    record {
      does = zeros_end (spec_view (types_of a.env) c.args.s) c.args.names.now c.loop-n.n-index a c.loop-n.walk c.args.flaws.now.items c.loop-n.flaws.items c.args.out.now.items c.loop-n.out.items c.loop-n-test.false c.loop-n.invariant.left;
    }

use Rattle.std.proofs.Common.{◌≡◌, ◌∙◌, ◌+◌, ◌++◌, List, refl, sym, ap, subst, drop, map}
use Rattle.std.proofs.lemmas.List.{append-nil}
use Rattle.go_operands.specs.AnswerView.{flaw_view}
use Rattle.go_assign.proofs.GrowLemmas.{grows_not, grows_on, same_walk}
use Rattle.go_items.specs.ItemView.{type_in, values_in, names_in}
use Rattle.go_typing.specs.Told.{spec_told, specs_told}
use Rattle.go_typing.specs.Declare.{counting}
use Rattle.go_syntax.specs.Tree as t
use Rattle.go_syntax.specs.View.{value_spec_view, joined}
use Rattle.go_syntax.specs.declared.tree.Name.{Name}
use Rattle.go_syntax.specs.declared.tree.ValueSpec.{ValueSpec}
use Rattle.go_walk.specs.WalkView.{walk_outside}
use Rattle.go_decls.proofs.DeclsSteps.{next_at, past}
use Rattle.go_decls.proofs.DeclsConstantLemmas.{specs_goes}
use Rattle.go_decls.proofs.DeclLemmas.{iota_none}
use Rattle.go_decls.proofs.decls.constants.specs_told.Goals as goal

pub spec_told-requires : goal.spec_told-requires
spec_told-requires c = record { none = iota_none c.args.env.now c.loop-spec.env c.loop-spec.invariant.grows c.requires.none }

pub loop-spec-init : goal.loop-spec-init
loop-spec-init c = record { told = refl; grows = grows_not c.args.env.now }

pub loop-spec-preserved : goal.loop-spec-preserved
loop-spec-preserved c =
    let a = c.args.env.now in
    let b = c.loop-spec.env in
    let w = walk_outside a in
    let at = c.args.at in
    let i = c.loop-spec.spec-index in
    let specs = c.args.specs.now in
    let now = map flaw_view c.loop-spec.flaws.items in
    let src = c.source_of-source.result in
    let rest = joined (map value_spec_view (drop (i + 1) specs)) t.NoValues in
    record {
      told =
          specs_goes at c.loop-spec.number c.in_ok-number.number w (walk_outside b) (type_in c.loop-spec.source) (type_in src) (values_in c.loop-spec.source) (values_in src) (names_in c.spec-item.result) (value_spec_view c.spec-item.result rest) rest _ now
          (map flaw_view c.spec_told.new.flaws.items) (same_walk a b c.loop-spec.invariant.grows) c.in_ok-number.ensures.value (c.source_of-source.ensures.value at c.loop-spec.number w rest)
          (c.in_ok-spec_told.ensures.told ∙ ap (λ (ns : List Name). now ++ spec_told at (counting c.loop-spec.number (walk_outside b)) ns (type_in src) (values_in src)) c.as_slice.ensures.value)
          (ap (λ (ss : List ValueSpec). now ++ specs_told at c.loop-spec.number w (type_in c.loop-spec.source) (values_in c.loop-spec.source) (joined (map value_spec_view ss) t.NoValues)) (sym (next_at specs i c.spec-item.result c.loop-spec-test.true c.spec-item.is))
          ∙ c.loop-spec.invariant.told);
      grows = grows_on a b c.spec_told.new.env c.loop-spec.invariant.grows c.in_ok-spec_told.ensures.grows;
    }

pub returns : goal.returns
returns c =
    let w = walk_outside c.args.env.now in
    let now = map flaw_view c.loop-spec.flaws.items in
    record {
      told =
          sym (append-nil now)
          ∙ ap (λ (ss : List ValueSpec). now ++ specs_told c.args.at c.loop-spec.number w (type_in c.loop-spec.source) (values_in c.loop-spec.source) (joined (map value_spec_view ss) t.NoValues))
          (sym (past c.args.specs.now c.loop-spec.spec-index c.loop-spec-test.false))
          ∙ c.loop-spec.invariant.told;
      grows = c.loop-spec.invariant.grows;
    }

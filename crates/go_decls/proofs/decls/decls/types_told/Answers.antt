use Rattle.std.proofs.Common.{◌≡◌, ◌∙◌, ◌+◌, ◌++◌, List, sym, ap, drop, map}
use Rattle.std.proofs.lemmas.List.{append-nil}
use Rattle.go_operands.specs.AnswerView.{flaw_view}
use Rattle.go_typing.specs.Told.{types_told}
use Rattle.go_syntax.specs.Tree as t
use Rattle.go_syntax.specs.View.{type_spec_view, joined}
use Rattle.go_syntax.specs.declared.tree.TypeSpec.{TypeSpec}
use Rattle.go_typing.specs.Answer.{Flaw}
use Rattle.go_walk.specs.WalkView.{walk_outside}
use Rattle.go_decls.proofs.DeclsSteps.{next_at, past}
use Rattle.go_decls.proofs.DeclLemmas.{goes_first, goes_step, type_goes}
use Rattle.go_decls.proofs.decls.decls.types_told.Goals as goal

pub loop-spec-init : goal.loop-spec-init
loop-spec-init c = goes_first types_told c.args.env.now (joined (map type_spec_view c.args.specs.now) t.NoTypes) (map flaw_view c.args.flaws.now.items)

pub loop-spec-preserved : goal.loop-spec-preserved
loop-spec-preserved c =
    let specs = c.args.specs.now in
    let i = c.loop-spec.spec-index in
    let now = map flaw_view c.loop-spec.flaws.items in
    goes_step types_told c.args.env.now c.loop-spec.env c.type_found.new.env (joined (map type_spec_view (drop i specs)) t.NoTypes) (joined (map type_spec_view (drop (i + 1) specs)) t.NoTypes) (joined (map type_spec_view specs) t.NoTypes)
    (map flaw_view c.args.flaws.now.items) now (map flaw_view c.move_flaws.new.flaws.items)
    (type_goes (walk_outside c.loop-spec.env) c.spec-item.result (joined (map type_spec_view (drop (i + 1) specs)) t.NoTypes) now (map flaw_view c.move_flaws.new.flaws.items)
    (c.in_ok-move_flaws.ensures.told ∙ ap (λ (fs : List Flaw). now ++ fs) c.in_ok-found.ensures.told)
    ∙ ap (λ (ss : List TypeSpec). now ++ types_told (walk_outside c.loop-spec.env) (joined (map type_spec_view ss) t.NoTypes)) (sym (next_at specs i c.spec-item.result c.loop-spec-test.true c.spec-item.is)))
    c.in_ok-found.ensures.grows c.loop-spec.invariant

pub returns : goal.returns
returns c = record {
  told =
      sym (append-nil (map flaw_view c.loop-spec.flaws.items))
      ∙ ap (λ (ss : List TypeSpec). map flaw_view c.loop-spec.flaws.items ++ types_told (walk_outside c.args.env.now) (joined (map type_spec_view ss) t.NoTypes)) (sym (past c.args.specs.now c.loop-spec.spec-index c.loop-spec-test.false))
      ∙ c.loop-spec.invariant.told_so;
  grows = c.loop-spec.invariant.grows;
}

use Rattle.std.proofs.Common.{◌≡◌, ◌∙◌, ◌+◌, sym, ap, subst, arith}
use Rattle.std.proofs.lemmas.Bool.{eqb-true}
use Rattle.std.specs.Prelude.{List, [], ◌∷◌, drop, length, map}
use Rattle.go_type.specs.Tree.{Ty}
use Rattle.go_core.specs.CoreTree.{CoreProgram, Expr, Exprs}
use Rattle.go_core.specs.CoreView.{expr_view, exprs_of, target_view}
use Rattle.go_core.specs.TypeOf.{all_types}
use Rattle.go_core.specs.SoundNode.{Around}
use Rattle.go_core.specs.Sound.{SoundTargets}
use Rattle.go_core.specs.declared.node.CoreExpr.{CoreExpr}
use Rattle.go_core.specs.declared.statement.Target.{Target}
use Rattle.go_sound_nodes.specs.Around.{around, program_in, trees_in}
use Rattle.go_sound_nodes.proofs.TargetLemmas.{next_at, none_left, operands_are}
use Rattle.go_sound_nodes.proofs.judge.Judge.all_take.Goals as goal

-- no left side is left where no value is
none_take : (p : CoreProgram) (a : Around) (ts : List Ty) (xs : List Target) → length xs ≡ 0 → SoundTargets p a (map (target_view ts) xs) []
none_take p a ts [] h = tt
none_take p a ts (x ∷ xs) h = absurd (omega (arith, h))

pub loop-e-preserved : goal.loop-e-preserved
loop-e-preserved c = λ known left.
    let j = c.args.self.now in
    let ts = trees_in j in
    let es = c.deref-e-items.result.now in
    c.loop-e.invariant known
    (subst (λ (xs : List Expr). SoundTargets (program_in j) (around j c.args.round.now) (map (target_view ts) c.loop-e.rest.now) (all_types (program_in j).names (exprs_of xs)))
    (sym (next_at (expr_view ts) es c.loop-e.e-index c.e-item.result c.loop-e-test.true c.e-item.is))
    (c.in-Some.ensures.is known (all_types (program_in j).names (exprs_of (map (expr_view ts) (drop (c.loop-e.e-index + 1) es)))) left))

pub returns : goal.returns
returns c = record {
  is = λ known h.
      let j = c.args.self.now in
      let ts = trees_in j in
      let p = program_in j in
      let a = around j c.args.round.now in
      let es = c.deref-e-items.result.now in
      subst (λ (x : Exprs). SoundTargets p a (map (target_view ts) c.args.targets.now.items.items) (all_types p.names x))
      (sym (operands_are ts c.args.list.now ∙ ap (λ (ys : List CoreExpr). exprs_of (map (expr_view ts) ys)) (sym c.deref-e-items.ensures.value)))
      (c.loop-e.invariant known
      (subst (λ (ys : List CoreExpr). SoundTargets p a (map (target_view ts) c.loop-e.rest.now) (all_types p.names (exprs_of (map (expr_view ts) ys))))
      (sym (none_left es c.loop-e.e-index (omega (arith, c.loop-e-test.false))))
      (none_take p a ts c.loop-e.rest.now (eqb-true _ _ (sym c.is_empty.ensures ∙ h)))));
}

use Rattle.std.proofs.Common.{◌∙◌, ◌+◌, sym, ap, ℕ, List, drop, cond}
use Rattle.std.specs.Borrow.{Bor}
use Rattle.go_operands.specs.EnvView.{env_of}
use Rattle.go_typing.specs.Env.{lookup}
use Rattle.go_typing.specs.Scopes.{visible}
use Rattle.go_typing.specs.Walk.{is_untyped, count_untyped}
use Rattle.go_walk.specs.Texts.{texts}
use Rattle.go_walk.proofs.PartLemmas.{none_more, both_more}
use Rattle.go_walk.proofs.WalkSteps.{next_at, past}
use Rattle.go_walk.proofs.walk.uses.count_names.Goals as goal

pub loop-x-preserved : goal.loop-x-preserved
loop-x-preserved c =
    let ss = visible (env_of c.args.env.now) in
    let x = c.x-item.result.now in
    let rest = count_untyped (texts (drop (c.loop-x.x-index + 1) c.args.names.now)) ss in
    ap (λ (n : ℕ). n + rest) c.in_ok-count_name.ensures.value
    ∙ both_more c.loop-x.lost (cond (is_untyped (lookup x ss)) 1 0) rest
    ∙ ap (λ (xs : List (Bor (List ℕ))). c.loop-x.lost + count_untyped (texts xs) ss) (sym (next_at c.args.names.now c.loop-x.x-index c.x-item.result c.loop-x-test.true c.x-item.is))
    ∙ c.loop-x.invariant

pub returns : goal.returns
returns c = record {
  value =
      let ss = visible (env_of c.args.env.now) in
      none_more c.loop-x.lost
      ∙ ap (λ (xs : List (Bor (List ℕ))). c.loop-x.lost + count_untyped (texts xs) ss) (sym (past c.args.names.now c.loop-x.x-index c.loop-x-test.false))
      ∙ c.loop-x.invariant;
}

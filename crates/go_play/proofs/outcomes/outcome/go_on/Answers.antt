use Rattle.std.proofs.Common.{◌∙◌, ap, sym, subst, ◌∷◌, ℕ, true}
use Rattle.std.specs.Prelude.{Result}
use Rattle.go_type.specs.Levels.{tree_of}
use Rattle.go_core.specs.Goroutine.{moved}
use Rattle.go_values.specs.declared.operators.did.Stop.{Stop}
use Rattle.go_state.proofs.TodoLemmas.{if_ok}
use Rattle.go_state.specs.StateSeen.{frame_of, state_of}
use Rattle.go_partners.specs.Moves.{frames_below}
use Rattle.go_play.specs.Outcomes.{WentOn}
use Rattle.go_play.proofs.outcomes.outcome.go_on.Goals as goal

pub returns-in_ok-put_back-in-Ok : goal.returns-in_ok-put_back-in-Ok
returns-in_ok-put_back-in-Ok c = record {
  value = λ ts.
      let g = c.args.g in
      let s = state_of ts c.args.state.now in
      let below = frames_below g s in
      let f = frame_of ts c.args.f in
      subst (λ (r : Result ℕ Stop). WentOn (tree_of ts c.args.hidden) ts g r true c.args.f c.args.state.now c.put_back.new.state) (sym c.in-Ok.is)
      (c.in_ok-put_back-in-Ok.ensures.value ts ∙ ap (λ (n : ℕ). moved g (f ∷ below) n s) c.in_ok-all-in-Ok.ensures.value);
}

pub returns-in-Err : goal.returns-in-Err
returns-in-Err c = record {
  value = if_ok c.halt.result (λ b h ts. subst (λ (r : Result ℕ Stop). WentOn (tree_of ts c.args.hidden) ts c.args.g r b c.args.f c.args.state.now c.halt.new.state) (sym c.in-Err.is) (h ts)) c.halt.ensures.value;
}

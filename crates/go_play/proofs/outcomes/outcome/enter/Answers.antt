use Rattle.std.proofs.Common.{◌∙◌, ap, sym, subst, ◌∷◌, ℕ, List, true}
use Rattle.std.specs.Prelude.{Result}
use Rattle.go_type.specs.Levels.{tree_of}
use Rattle.go_core.specs.Goroutine as defined
use Rattle.go_core.specs.Goroutine.{able, moved}
use Rattle.go_entries.specs.declared.entries.enter.Entered as entering
use Rattle.go_values.specs.declared.operators.did.Stop.{Stop}
use Rattle.go_state.proofs.TodoLemmas.{if_ok}
use Rattle.go_state.specs.StateSeen.{frame_of, state_of}
use Rattle.go_partners.specs.Moves.{frames_below}
use Rattle.go_play.specs.Outcomes.{HasEntered}
use Rattle.go_play.proofs.outcomes.outcome.enter.Goals as goal

pub returns-in_ok-put_back-in-Ok : goal.returns-in_ok-put_back-in-Ok
returns-in_ok-put_back-in-Ok c = record {
  value = λ ts.
      let g = c.args.g in
      let s = state_of ts c.args.state.now in
      let below = frames_below g s in
      let f = frame_of ts c.args.f in
      subst (λ (r : Result entering.Entered Stop). HasEntered (tree_of ts c.args.hidden) ts g r true c.args.f c.args.state.now c.put_back.new.state) (sym c.in-Ok.is)
      (let over = c.in_ok-put_over-in-Ok.ensures.value ts in
      let e = frame_of ts c.in-Ok.entered.frame in
      c.in_ok-put_back-in-Ok.ensures.value ts
      ∙ over.1 (e ∷ frames_below g (state_of ts c.put_over.new.state)) able c.in_ok-all-in-Ok.all
      ∙ ap (λ (fs : List defined.Frame). moved g (e ∷ fs) c.in_ok-all-in-Ok.all s) over.0
      ∙ ap (λ (n : ℕ). moved g (e ∷ f ∷ below) n s) c.in_ok-all-in-Ok.ensures.value);
}

pub returns-in-Err : goal.returns-in-Err
returns-in-Err c = record {
  value = if_ok c.halt.result (λ b h ts. subst (λ (r : Result entering.Entered Stop). HasEntered (tree_of ts c.args.hidden) ts c.args.g r b c.args.f c.args.state.now c.halt.new.state) (sym c.in-Err.is) (h ts)) c.halt.ensures.value;
}

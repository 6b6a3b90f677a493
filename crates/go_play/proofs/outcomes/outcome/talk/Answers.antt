use Rattle.std.proofs.Common.{◌∙◌, ap, sym, subst, List, true}
use Rattle.std.specs.Prelude.{Result}
use Rattle.go_type.specs.Levels.{tree_of}
use Rattle.go_core.specs.Goroutine as defined
use Rattle.go_partners.specs.Talks.{settled}
use Rattle.go_partners.specs.declared.selects.reach.Talked.{Talked}
use Rattle.go_values.specs.declared.operators.did.Stop.{Stop}
use Rattle.go_state.proofs.TodoLemmas.{if_ok}
use Rattle.go_state.specs.StateSeen.{frame_of, state_of, waiting_of}
use Rattle.go_partners.specs.Moves.{frames_below}
use Rattle.go_play.specs.Outcomes.{HasTalked}
use Rattle.go_play.proofs.outcomes.outcome.talk.Goals as goal

pub returns-in_ok-wait_for-in-Ok : goal.returns-in_ok-wait_for-in-Ok
returns-in_ok-wait_for-in-Ok c = record {
  value = λ ts.
      let g = c.args.g in
      let s = state_of ts c.args.state.now in
      let below = frames_below g s in
      let f = frame_of ts c.args.f in
      subst (λ (r : Result Talked Stop). HasTalked (tree_of ts c.args.hidden) ts g r true c.args.f c.args.state.now c.wait_for.new.state) (sym c.in-Ok.is)
      (let over = c.in_ok-put_over-in-Ok.ensures.value ts in
      let w = waiting_of ts c.in-Ok.talked.waiting in
      let u = c.in-Ok.talked.units in
      c.in_ok-wait_for-in-Ok.ensures.value ts
      ∙ over.1 (frames_below g (state_of ts c.put_over.new.state)) w u
      ∙ ap (λ (fs : List defined.Frame). settled g fs w u s) over.0);
}

pub returns-in-Err : goal.returns-in-Err
returns-in-Err c = record {
  value = if_ok c.halt.result (λ b h ts. subst (λ (r : Result Talked Stop). HasTalked (tree_of ts c.args.hidden) ts c.args.g r b c.args.f c.args.state.now c.halt.new.state) (sym c.in-Err.is) (h ts)) c.halt.ensures.value;
}

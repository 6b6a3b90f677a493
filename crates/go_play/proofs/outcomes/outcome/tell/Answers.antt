use Rattle.std.proofs.Common.{ap, sym, subst, true}
use Rattle.std.specs.Prelude.{Result}
use Rattle.go_type.specs.Levels.{tree_of}
use Rattle.go_core.specs.Goroutine as defined
use Rattle.go_state.specs.declared.state.state.End.{End}
use Rattle.go_values.specs.declared.operators.did.Stop.{Stop}
use Rattle.go_state.proofs.TodoLemmas.{if_ok}
use Rattle.go_state.specs.StateSeen.{end_of, frame_of, state_of}
use Rattle.go_partners.specs.Moves.{frames_below}
use Rattle.go_play.specs.Outcomes.{HasTold, with_end}
use Rattle.go_play.proofs.outcomes.outcome.tell.Goals as goal

pub returns-in_ok-put_back-in-Ok : goal.returns-in_ok-put_back-in-Ok
returns-in_ok-put_back-in-Ok c = record {
  value = λ ts.
      let g = c.args.g in
      let s = state_of ts c.args.state.now in
      let below = frames_below g s in
      let f = frame_of ts c.args.f in
      subst (λ (r : Result End Stop). HasTold (tree_of ts c.args.hidden) ts g r true c.args.f c.args.state.now (record c.put_back.new.state { end = c.in-Ok.end })) (sym c.in-Ok.is)
      (ap (λ (t : defined.State). with_end (end_of c.in-Ok.end) t) (c.in_ok-put_back-in-Ok.ensures.value ts));
}

pub returns-in-Err : goal.returns-in-Err
returns-in-Err c = record {
  value = if_ok c.halt.result (λ b h ts. subst (λ (r : Result End Stop). HasTold (tree_of ts c.args.hidden) ts c.args.g r b c.args.f c.args.state.now c.halt.new.state) (sym c.in-Err.is) (h ts)) c.halt.ensures.value;
}

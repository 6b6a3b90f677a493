use Rattle.std.proofs.Common.{◌∙◌, ap, sym}
use Rattle.std.specs.Prelude.{Some}
use Rattle.go_type.specs.Table.{places}
use Rattle.go_core.specs.Goroutine as core
use Rattle.go_core.specs.Goroutine.{exit}
use Rattle.go_state.specs.StateSeen.{state_of}
use Rattle.go_partners.specs.Moves.{frames_below}
use Rattle.go_partners.proofs.WakeLemmas.{moved_over}
use Rattle.go_play.specs.Outcomes.{with_end}
use Rattle.go_play.proofs.dispatch.calling.finish_task.Goals as goal

pub returns : goal.returns
returns c = record {
  value = λ fs.
      let ts = places c.args.game.p.now.types in
      let g = c.args.g in
      let s = state_of ts c.args.state.now in
      ap (λ (t : core.State). Some (with_end (exit 0) t)) (moved_over g fs (frames_below g s) 1 s)
      ∙ ap (λ (t : core.State). Some t) (sym (c.in_ok-finish.ensures.value ts));
}

use Rattle.std.proofs.Common.{◌∙◌, ap, List}
use Rattle.go_core.specs.Goroutine as defined
use Rattle.go_core.specs.Goroutine.{able, moved}
use Rattle.go_state.specs.StateSeen.{state_of}
use Rattle.go_partners.specs.Moves.{frames_below}
use Rattle.go_play.proofs.outcomes.over.put_back.Goals as goal

pub returns : goal.returns
returns c = record {
  value = λ ts.
      let g = c.args.g in
      let over = c.in_ok-put_over.ensures.value ts in
      c.in_ok-count_move.ensures.value ts
      ∙ over.1 (frames_below g (state_of ts c.put_over.new.state)) able c.args.units
      ∙ ap (λ (fs : List defined.Frame). moved g fs c.args.units (state_of ts c.args.state.now)) over.0;
}

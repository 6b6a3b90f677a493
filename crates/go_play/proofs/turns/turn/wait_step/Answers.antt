use Rattle.std.specs.Prelude.{slice_get}
use Rattle.go_type.specs.Table.{places}
use Rattle.go_core.specs.Communicate as talking
use Rattle.go_core.specs.CoreView.{program_view}
use Rattle.go_partners.specs.Moves.{waiting_in}
use Rattle.go_state.specs.StateSeen.{move_of, state_of}
use Rattle.go_state.proofs.TodoLemmas.{if_ok}
use Rattle.go_play.proofs.PlaysLemmas.{plays_talked, same_below}
use Rattle.go_play.proofs.turns.turn.wait_step.Goals as goal

pub returns : goal.returns
returns c =
    let q = program_view c.args.game.p.now in
    let ts = places c.args.game.p.now.types in
    let g = c.args.g in
    let s = c.args.state.now in
    let m = c.waiting_step-came.new.state in
    record {
      value =
          if_ok c.talk.result (λ b h. plays_talked q ts g c.waiting_step-came.result b c.args.frame c.waiting_step-came.new.f s m c.talk.new.state (λ x below t. talking.waiting_step q g (move_of c.args.game.free) (waiting_in (slice_get (state_of ts s).goroutines g)) x below t)
          (c.waiting_step-came.ensures.value q ts) (same_below ts s.goroutines.items m.goroutines.items g c.waiting_step-came.ensures.own) (h ts)) c.talk.ensures.value;
    }

use Rattle.std.proofs.Common.{◌∙◌, ap, sym, map}
use Rattle.std.specs.Prelude.{Option}
use Rattle.go_type.specs.Table.{places}
use Rattle.go_core.specs.CoreView.{init_step_view, program_view}
use Rattle.go_core.specs.Goroutine as core
use Rattle.go_core.specs.Run.{after}
use Rattle.go_state.specs.StateSeen.{move_of, state_of}
use Rattle.go_play.proofs.RunLemmas.{was_made, was_refused}
use Rattle.go_play.proofs.play.play.play.Goals as goal

pub returns-then-made : goal.returns-then-made
returns-then-made c = record {
  value =
      let q = program_view c.args.p.now in
      let ts = places c.args.p.now.types in
      let run : core.State → Option core.State = λ t. after q c.args.choices.now (map move_of c.args.moves.now) t in
      sym (ap run c.in_ok-begun.ensures.value) ∙ was_made ts c.in_ok-made.made c.advance.new.state (run (state_of ts c.in_ok-begun.begun)) c.if-made.true c.in_ok-made.ensures.value;
}

pub returns : goal.returns
returns c = record {
  value =
      let q = program_view c.args.p.now in
      let ts = places c.args.p.now.types in
      let run : core.State → Option core.State = λ t. after q c.args.choices.now (map move_of c.args.moves.now) t in
      sym (ap run c.in_ok-begun.ensures.value) ∙ was_refused ts c.in_ok-made.made c.advance.new.state (run (state_of ts c.in_ok-begun.begun)) c.if-made.false c.in_ok-made.ensures.value;
}

use Rattle.std.proofs.Common.{◌≡◌, ◌<◌, ◌≤◌, ◌∙◌, refl, ap, sym, arith, length}
use Rattle.std.specs.Prelude.{Option}
use Rattle.std.proofs.lemmas.List.{nil_from_length}
use Rattle.go_type.specs.Table.{places}
use Rattle.go_core.specs.CoreView.{program_view}
use Rattle.go_core.specs.Goroutine as core
use Rattle.go_core.specs.GoStep as steps
use Rattle.go_state.specs.StateSeen.{goroutine_of, move_of, state_of}
use Rattle.go_state.specs.declared.state.state.Goroutine.{Goroutine}
use Rattle.go_state.proofs.TodoLemmas.{if_ok}
use Rattle.go_state.proofs.ListsLemmas.{get_past}
use Rattle.go_play.proofs.TurnLemmas.{turn_steps, none_steps}
use Rattle.go_play.proofs.turns.turn.goroutine_step.Goals as goal

pub returns-then-game-len : goal.returns-then-game-len
returns-then-game-len c = record {
  value =
      let q = program_view c.args.game.p.now in
      let ts = places c.args.game.p.now.types in
      let free = move_of c.args.game.free in
      let xs = c.args.state.now.goroutines.items in
      let counted = c.args.state.now.goroutines.ok.0 in
      let l : length xs ≤ c.args.game.free.goroutine = omega (arith, c.if-game-len.true, c.len.ensures, counted) in
      ap (λ (o : Option core.Goroutine). steps.goroutine_step q c.args.game.choices.now free c.args.game.free.goroutine o (state_of ts c.args.state.now)) (get_past (goroutine_of ts) xs c.args.game.free.goroutine l);
}

pub returns-in-Some : goal.returns-in-Some
returns-in-Some c =
    let q = program_view c.args.game.p.now in
    let ts = places c.args.game.p.now.types in
    let free = move_of c.args.game.free in
    let g = c.args.game.free.goroutine in
    let xs = c.args.state.now.goroutines.items in
    let counted = c.args.state.now.goroutines.ok.0 in
    let l : g < length xs = omega (arith, c.if-game-len.false, c.len.ensures, counted) in
    let x = c.index_mut.result.now in
    let y : Goroutine = record { frames = c.pop.new.self; waiting = x.waiting } in
    record {
      value =
          if_ok c.frame_step.result (λ b h. turn_steps ts g c.args.state.now _ x y c.in-Some.f l c.index_mut.ensures.value refl c.in-Some.ensures.items refl q c.args.game.choices.now free b c.frame_step.new.state h) c.frame_step.ensures.value;
    }

pub returns-in-None : goal.returns-in-None
returns-in-None c = record {
  value =
      let q = program_view c.args.game.p.now in
      let ts = places c.args.game.p.now.types in
      let free = move_of c.args.game.free in
      let g = c.args.game.free.goroutine in
      let xs = c.args.state.now.goroutines.items in
      let counted = c.args.state.now.goroutines.ok.0 in
      let l : g < length xs = omega (arith, c.if-game-len.false, c.len.ensures, counted) in
      let x = c.index_mut.result.now in
      none_steps ts q c.args.game.choices.now free g c.args.state.now x l c.index_mut.ensures.value (nil_from_length _ (sym x.frames.ok.0 ∙ c.in-None.ensures.cases.0));
}

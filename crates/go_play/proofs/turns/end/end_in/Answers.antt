use Rattle.std.proofs.Common.{◌<◌, refl, arith, length}
use Rattle.go_type.specs.Table.{places}
use Rattle.go_core.specs.CoreView.{program_view}
use Rattle.go_state.specs.declared.state.state.Goroutine.{Goroutine}
use Rattle.go_play.proofs.EndLemmas.{ends_in}
use Rattle.go_play.proofs.turns.end.end_in.Goals as goal

pub returns-clause-value : goal.returns-clause-value
returns-clause-value c =
    let q = program_view c.args.p.now in
    let ts = places c.args.p.now.types in
    let xs = c.args.state.now.goroutines.items in
    let x = c.index_mut-goroutine.result.now in
    let y : Goroutine = record { frames = c.end_step.new.below; waiting = x.waiting } in
    let counted = c.args.state.now.goroutines.ok.0 in
    let l : c.args.g < length xs = omega (arith, c.requires.goroutine, counted) in
    ends_in q ts c.args.g c.end_step.result c.args.frame c.args.state.now _ c.end_step.new.m x y l c.index_mut-goroutine.ensures.value refl c.end_step.ensures.value

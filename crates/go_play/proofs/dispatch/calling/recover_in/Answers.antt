use Rattle.std.proofs.Common.{◌<◌, refl, arith, length}
use Rattle.go_state.specs.declared.state.state.Goroutine.{Goroutine}
use Rattle.go_play.proofs.RecoverLemmas.{recovers}
use Rattle.go_play.proofs.dispatch.calling.recover_in.Goals as goal

pub returns-clause-value : goal.returns-clause-value
returns-clause-value c = λ p ts.
    let xs = c.args.state.now.goroutines.items in
    let x = c.index_mut.result.now in
    let y : Goroutine = record { frames = c.recover_step.new.below; waiting = x.waiting } in
    let counted = c.args.state.now.goroutines.ok.0 in
    let l : c.args.g < length xs = omega (arith, c.requires.goroutine, counted) in
    recovers p ts c.args.g c.recover_step.result c.args.f.now c.recover_step.new.f c.args.state.now _ x y l c.index_mut.ensures.value refl (c.recover_step.ensures.value p ts)

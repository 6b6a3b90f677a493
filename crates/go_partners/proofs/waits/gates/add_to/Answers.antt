use Rattle.std.proofs.Common.{◌∙◌, ap, sym, rules}
use Rattle.std.proofs.lemmas.Int.{to_z-of_z}
use Rattle.std.specs.Int.{w128}
use Rattle.std.specs.Int.RustNames.{FitsSigned}
use Rattle.std.specs.Prelude.{ℤ, Option, Some}
use Rattle.go_core.specs.Communicate.{gate_added, gate_number}
use Rattle.go_state.specs.StateSeen.{frame_of, state_of}
use Rattle.go_partners.specs.Moves.{TalkStep, frames_below, with_frames}
use Rattle.go_partners.proofs.ReachLemmas.{talks_from}
use Rattle.go_partners.proofs.waits.gates.add_to.Goals as goal

pub returns-in-Some-clause-value : goal.returns-in-Some-clause-value
returns-in-Some-clause-value c =
    let n : FitsSigned w128 c.in-Some.n = search rules in
    let fits : FitsSigned w128 c.args.k = search rules in
    let added = simp to_z-of_z at c.add_number.ensures.value in
    λ p ts free.
    let g = c.args.g in
    let s = state_of ts c.args.state.now in
    let base = c.args.base in
    let k = c.args.k in
    let step : TalkStep = λ x below t. gate_added p g free (gate_number p g free base t) k base x below t in
    let other : TalkStep = λ x below t. gate_added p g free (Some c.in-Some.n) k base x below t in
    talks_from p ts g c.add_number.result c.args.f.now c.args.f.now _ c.args.state.now c.add_number.new.state step other
    (λ fs. ap (λ (o : Option ℤ). gate_added p g free o k base (frame_of ts c.args.f.now) (frames_below g s) (with_frames g fs s)) (sym (c.gate_number.ensures.value ts p g free) ∙ c.in-Some.is))
    (added p ts free)

pub returns-in-None-clause-value : goal.returns-in-None-clause-value
returns-in-None-clause-value c = λ p ts free fs.
    let g = c.args.g in
    let s = state_of ts c.args.state.now in
    ap (λ (o : Option ℤ). gate_added p g free o c.args.k c.args.base (frame_of ts c.args.f.now) (frames_below g s) (with_frames g fs s)) (sym (c.gate_number.ensures.value ts p g free) ∙ c.in-None.is)

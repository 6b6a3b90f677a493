use Rattle.std.proofs.Common.{◌∙◌, ap, sym, [], ◌∷◌, pos, rules}
use Rattle.std.proofs.lemmas.Int.{to_z-of_z}
use Rattle.std.specs.Int.{w128}
use Rattle.std.specs.Int.RustNames.{FitsSigned}
use Rattle.std.specs.Prelude.{ℤ, Option}
use Rattle.go_core.specs.Communicate.{gate_taken}
use Rattle.go_core.specs.Goroutine.{State}
use Rattle.go_core.specs.Memory as core
use Rattle.go_core.specs.Memory.{with_written}
use Rattle.go_values.proofs.ScalarLemmas.{whole_seen}
use Rattle.go_values.specs.ValuesSeen.{memory_of}
use Rattle.go_state.specs.StateSeen.{frame_of, state_of}
use Rattle.go_partners.specs.Moves.{frames_below, with_frames}
use Rattle.go_partners.proofs.ReachLemmas.{talks_same}
use Rattle.go_partners.proofs.WaitsGateLemmas.{taken_waits, taken_sets}
use Rattle.go_partners.proofs.waits.gates.take_gate.Goals as goal

pub returns-else-is_open-clause-value : goal.returns-else-is_open-clause-value
returns-else-is_open-clause-value c =
    let fits : FitsSigned w128 c.in-Some.n = search rules in
    let opened = simp to_z-of_z at c.is_open.ensures.value in
    λ p ts free fs.
    let g = c.args.g in
    let s = state_of ts c.args.state.now in
    let f = frame_of ts c.args.f.now in
    let below = frames_below g s in
    let run : Option ℤ → Option State = λ o. gate_taken p g free o c.args.base f below (with_frames g fs s) in
    talks_same p ts g _ c.waits.result _ (f ∷ below) s c.waits.ensures.value
    (ap run (sym (c.gate_number.ensures.value ts p g free) ∙ c.in-Some.is)
    ∙ taken_waits p g free c.args.base fs below f s c.in-Some.n (sym opened ∙ c.if-is_open.false))

pub returns-then-is_open-clause-value : goal.returns-then-is_open-clause-value
returns-then-is_open-clause-value c =
    let fits : FitsSigned w128 c.in-Some.n = search rules in
    let opened = simp to_z-of_z at c.is_open.ensures.value in
    λ p ts free fs.
    let g = c.args.g in
    let s = state_of ts c.args.state.now in
    let f = frame_of ts c.args.f.now in
    let below = frames_below g s in
    let run : Option ℤ → Option State = λ o. gate_taken p g free o c.args.base f below (with_frames g fs s) in
    talks_same p ts g _ c.able.result _ _ _ c.able.ensures.value
    (ap run (sym (c.gate_number.ensures.value ts p g free) ∙ c.in-Some.is)
    ∙ taken_sets p g free c.args.base fs below f s c.in-Some.n (memory_of ts c.set_gate.new.m) (sym opened ∙ c.if-is_open.true) (c.set_gate.ensures.value ts ∙ ap (λ (x : core.Scalar). with_written (memory_of ts c.args.state.now.memory) c.args.base (x ∷ [])) (whole_seen ts (pos 1))))

pub returns-in-None-clause-value : goal.returns-in-None-clause-value
returns-in-None-clause-value c = λ p ts free fs.
    let g = c.args.g in
    let s = state_of ts c.args.state.now in
    let f = frame_of ts c.args.f.now in
    let below = frames_below g s in
    let run : Option ℤ → Option State = λ o. gate_taken p g free o c.args.base f below (with_frames g fs s) in
    ap run (sym (c.gate_number.ensures.value ts p g free) ∙ c.in-None.is)

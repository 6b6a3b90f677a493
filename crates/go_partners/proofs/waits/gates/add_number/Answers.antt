use Rattle.std.proofs.Common.{◌∙◌, ap, sym, rules, ℕ, ◌+◌, List, ◌∷◌, [], map}
use Rattle.std.specs.Int.{w128}
use Rattle.std.specs.Int.RustNames.{FitsSigned}
use Rattle.std.proofs.lemmas.Int.{to_z-of_z}
use Rattle.go_core.specs.Frames.{with_more}
use Rattle.go_core.specs.Memory as core
use Rattle.go_core.specs.Memory.{with_written}
use Rattle.go_values.proofs.ScalarLemmas.{whole_seen}
use Rattle.go_values.specs.ValuesSeen.{memory_of}
use Rattle.go_state.specs.StateSeen.{frame_of, goroutine_of, state_of}
use Rattle.go_state.specs.declared.state.state.Goroutine.{Goroutine}
use Rattle.go_partners.specs.Moves.{frames_below}
use Rattle.go_partners.proofs.ReachLemmas.{talks_same}
use Rattle.go_partners.proofs.WaitsGateLemmas.{added_there}
use Rattle.go_partners.proofs.waits.gates.add_number.Goals as goal

pub returns-clause-value : goal.returns-clause-value
returns-clause-value c =
    let total = c.in_ok-total.total in
    let n : FitsSigned w128 c.args.n = search rules in
    let k : FitsSigned w128 c.args.k = search rules in
    let t : FitsSigned w128 total = search rules in
    let summed = simp to_z-of_z at c.in_ok-total.ensures.value in
    let counted = simp to_z-of_z at c.woken.ensures.value in
    let written = simp to_z-of_z at c.set_gate.ensures.value in
    let given = simp to_z-of_z at c.in_ok-give_scalar.ensures.value in
    λ p ts free fs.
    let g = c.args.g in
    let s = state_of ts c.args.state.now in
    let f = frame_of ts c.args.f.now in
    let below = frames_below g s in
    talks_same p ts g _ c.able.result _ _ _ c.able.ensures.value
    (added_there p g free c.args.base fs below f s c.args.n c.args.k total (frame_of ts c.give_scalar.new.f) c.in_ok-units.units (memory_of ts c.set_gate.new.m) summed
    (given ts ∙ ap (λ (x : core.Scalar). with_more ((x ∷ []) ∷ []) f) (whole_seen ts total))
    (c.in_ok-units.ensures.value ∙ ap (λ (k : ℕ). 1 + k) (counted ts p g free s (ap (λ (xs : List Goroutine). map (goroutine_of ts) xs) (sym c.as_slice.ensures.value))))
    (written ts ∙ ap (λ (x : core.Scalar). with_written (memory_of ts c.args.state.now.memory) c.args.base (x ∷ [])) (whole_seen ts total)))

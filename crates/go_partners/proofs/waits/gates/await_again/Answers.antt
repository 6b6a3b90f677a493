use Rattle.std.proofs.Common.{◌∙◌, ap, sym, rules}
use Rattle.std.proofs.lemmas.Int.{to_z-of_z}
use Rattle.std.specs.Int.{w128}
use Rattle.std.specs.Int.RustNames.{FitsSigned}
use Rattle.std.specs.Prelude.{ℤ, Option, None}
use Rattle.go_core.specs.Communicate.{gate_again}
use Rattle.go_core.specs.Goroutine.{State}
use Rattle.go_state.specs.StateSeen.{frame_of, state_of}
use Rattle.go_partners.specs.Moves.{frames_below, with_frames}
use Rattle.go_partners.proofs.ReachLemmas.{talks_same}
use Rattle.go_partners.proofs.WaitsGateLemmas.{again_not, again_goes}
use Rattle.go_partners.proofs.waits.gates.await_again.Goals as goal

pub returns-else-is_open : goal.returns-else-is_open
returns-else-is_open c =
    let fits : FitsSigned w128 c.in-Some.n = search rules in
    let opened = simp to_z-of_z at c.is_open.ensures.value in
    record {
      value = λ p ts free fs.
          let g = c.args.g in
          let s = state_of ts c.args.state.now in
          let f = frame_of ts c.args.f.now in
          let below = frames_below g s in
          let run : Option ℤ → Option State = λ o. gate_again p g free o None c.args.base f below (with_frames g fs s) in
          ap run (sym (c.gate_number.ensures.value ts p g free) ∙ c.in-Some.is)
          ∙ again_not p g free c.args.base fs below f s c.in-Some.n (None) (sym opened ∙ c.if-is_open.false);
    }

pub returns-then-is_open : goal.returns-then-is_open
returns-then-is_open c =
    let fits : FitsSigned w128 c.in-Some.n = search rules in
    let opened = simp to_z-of_z at c.is_open.ensures.value in
    record {
      value = λ p ts free fs.
          let g = c.args.g in
          let s = state_of ts c.args.state.now in
          let f = frame_of ts c.args.f.now in
          let below = frames_below g s in
          let run : Option ℤ → Option State = λ o. gate_again p g free o None c.args.base f below (with_frames g fs s) in
          talks_same p ts g _ c.able.result _ _ _ c.able.ensures.value
          (ap run (sym (c.gate_number.ensures.value ts p g free) ∙ c.in-Some.is)
          ∙ again_goes p g free c.args.base fs below f s c.in-Some.n (sym opened ∙ c.if-is_open.true));
    }

pub returns-in-None : goal.returns-in-None
returns-in-None c = record {
  value = λ p ts free fs.
      let g = c.args.g in
      let s = state_of ts c.args.state.now in
      let f = frame_of ts c.args.f.now in
      let below = frames_below g s in
      let run : Option ℤ → Option State = λ o. gate_again p g free o None c.args.base f below (with_frames g fs s) in
      ap run (sym (c.gate_number.ensures.value ts p g free) ∙ c.in-None.is);
}

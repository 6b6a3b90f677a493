use Rattle.std.proofs.Common.{◌≡◌, ◌∙◌, ap, sym, arith, length, Bool, true, false}
use Rattle.std.specs.Prelude.{◌&&◌, vec_len}
use Rattle.std.proofs.lemmas.Bool.{eq-eqb}
use Rattle.go_core.specs.Communicate.{waiting_ready}
use Rattle.go_state.specs.StateSeen.{frame_of, state_of, waiting_of}
use Rattle.go_partners.proofs.ReadyLemmas.{frames_there}
use Rattle.go_partners.proofs.partners.moves.able.Goals as goal

pub returns : goal.returns
returns c = record {
  value = λ ts.
      let goroutine = c.args.goroutine.now in
      let counted = goroutine.frames.ok.0 in
      let there : length goroutine.frames.items ≡ 0 → ⊥ = λ h. let e : true ≡ false = sym (eq-eqb (vec_len goroutine.frames) 0 (omega (arith, h, counted))) ∙ sym c.is_empty.ensures ∙ c.if-is_empty.false in cc in
      c.waiting_ready.ensures.value ts
      ∙ sym (ap (λ (b : Bool). b && waiting_ready c.args.g (state_of ts c.args.state.now) (waiting_of ts goroutine.waiting)) (frames_there (frame_of ts) goroutine.frames.items there));
}

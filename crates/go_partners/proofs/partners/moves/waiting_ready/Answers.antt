use Rattle.std.proofs.Common.{◌∙◌, ap, sym, map, List}
use Rattle.go_core.specs.Communicate.{any_ready, waiting_ready}
use Rattle.go_state.specs.StateSeen.{offer_of, state_of, waiting_of}
use Rattle.go_state.specs.declared.state.state.Offer.{Offer}
use Rattle.go_state.specs.declared.state.state.Waiting.{Waiting}
use Rattle.go_partners.proofs.partners.moves.waiting_ready.Goals as goal

pub returns-in-AtChannels : goal.returns-in-AtChannels
returns-in-AtChannels c = record {
  value = λ ts.
      let s = state_of ts c.args.state.now in
      c.any_ready.ensures.value ts
      ∙ ap (λ (os : List Offer). any_ready c.args.g s (map (offer_of ts) os)) c.as_slice.ensures.value
      ∙ sym (ap (λ (w : Waiting). waiting_ready c.args.g s (waiting_of ts w)) c.in-AtChannels.is);
}

pub returns-in-AtTake : goal.returns-in-AtTake
returns-in-AtTake c = record {
  value = λ ts. c.is_open_gate.ensures.value ts ∙ sym (ap (λ (w : Waiting). waiting_ready c.args.g (state_of ts c.args.state.now) (waiting_of ts w)) c.in-AtTake.is);
}

pub returns-in-AtAwait : goal.returns-in-AtAwait
returns-in-AtAwait c = record {
  value = λ ts. c.is_open_gate-in-AtAwait.ensures.value ts ∙ sym (ap (λ (w : Waiting). waiting_ready c.args.g (state_of ts c.args.state.now) (waiting_of ts w)) c.in-AtAwait.is);
}

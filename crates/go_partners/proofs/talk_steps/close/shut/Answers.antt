use Rattle.std.proofs.Common.{◌<◌, refl, ap, arith, length, List, true}
use Rattle.go_core.specs.Memory as core
use Rattle.go_values.specs.ValuesSeen.{memory_of}
use Rattle.go_values.specs.declared.values.memory.Channel.{Channel}
use Rattle.go_partners.proofs.StopLemmas.{channel_is}
use Rattle.go_partners.proofs.CloseLemmas.{shut_there}
use Rattle.go_partners.proofs.talk_steps.close.shut.Goals as goal

pub returns : goal.returns
returns c = record {
  value = λ ts k h.
      let chans = c.args.m.now.channels.items in
      let old = c.index_mut.result.now in
      let counted = c.args.m.now.channels.ok.0 in
      let l : c.args.name < length chans = omega (arith, c.requires.name, counted) in
      let new : Channel = record { capacity = old.capacity; values = old.values; closed = true } in
      ap (λ (xs : List core.Channel). let m : core.Memory = record (memory_of ts c.args.m.now) { channels = xs } in m)
      (shut_there ts chans c.args.name old new k (channel_is ts chans c.args.name old k l c.index_mut.ensures.value h) refl);
}

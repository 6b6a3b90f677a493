use Rattle.std.proofs.Common.{◌≡◌, ◌∙◌, ◌∷◌, [], sym, ap, arith, length, ℕ, false}
use Rattle.std.proofs.lemmas.List.{length-map}
use Rattle.go_core.specs.Did.{gives}
use Rattle.go_core.specs.Memory as core
use Rattle.go_core.specs.Memory.{Value, with_channel}
use Rattle.go_values.specs.ValuesSeen.{channel_of, memory_of}
use Rattle.go_slices.proofs.SlicesScalarLemmas.{channel_seen}
use Rattle.go_slices.proofs.slices.makes.made_channel.Goals as goal

pub returns : goal.returns
returns c = record {
  value = λ ts.
      let s = memory_of ts c.args.m.now in
      let n : length c.args.m.now.channels.items ≡ length s.channels = sym (length-map c.args.m.now.channels.items (channel_of ts)) in
      let name = c.in_ok-channel.ensures.value ts ∙ ap (λ (x : core.Scalar). x ∷ []) (channel_seen ts _ ∙ ap (λ (k : ℕ). core.channel k) (let counted = c.args.m.now.channels.ok.0 in omega (arith, c.len.ensures, counted, n))) in
      ap (λ (v : Value). gives (v ∷ []) (with_channel s (record { capacity = c.args.capacity; values = []; closed = false })) 1) (sym name);
}

use Rattle.std.proofs.Common.{◌≡◌, ◌∙◌, ap, sym, arith, length, false, Bool}
use Rattle.std.specs.Prelude.{◌||◌, nat_lt}
use Rattle.std.proofs.lemmas.Bool.{le-ltb}
use Rattle.std.proofs.lemmas.List.{length-map}
use Rattle.go_core.specs.Communicate.{meets}
use Rattle.go_values.specs.ValuesSeen.{channel_of, value_of, values_of}
use Rattle.go_partners.proofs.partners.ready.send_ready.Goals as goal

pub returns : goal.returns
returns c = record {
  value = λ ts.
      let xs = c.args.channel.now.values.items in
      let room = nat_lt (length (values_of ts xs)) c.args.channel.now.capacity in
      let more = meets (channel_of ts c.args.channel.now) c.args.partner in
      let counted = c.args.channel.now.values.ok.0 in
      let full : room ≡ false = le-ltb (length (values_of ts xs)) c.args.channel.now.capacity (omega (arith, c.if-len-channel.false, c.len.ensures, counted, length-map xs (λ v. value_of ts v.now))) in
      c.meets.ensures.value ts ∙ sym (ap (λ (b : Bool). (b || room) || more) c.if-channel.false ∙ ap (λ (b : Bool). b || more) full);
}

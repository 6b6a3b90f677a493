use Rattle.std.proofs.Common.{◌∙◌, sym, ap, List}
use Rattle.go_core.specs.Communicate.{named_channel}
use Rattle.go_values.specs.ValuesSeen.{value_of}
use Rattle.go_values.specs.declared.values.scalar.Scalar.{Scalar}
use Rattle.go_partners.proofs.Only.{only}
use Rattle.go_partners.proofs.partners.partners.named_channel.Goals as goal

pub returns-in-len1 : goal.returns-in-len1
returns-in-len1 c =
    let e = only c.args.x.now c.x-item.result c.in-len1.len_at_least c.in-len1.len_below c.x-item.is in
    record { value = λ ts. c.channel_in.ensures.value ts ∙ sym (ap (λ (xs : List Scalar). named_channel (value_of ts xs)) e) }

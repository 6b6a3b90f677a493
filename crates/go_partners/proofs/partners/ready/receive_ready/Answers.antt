use Rattle.std.proofs.Common.{◌≡◌, ◌∙◌, ap, sym, arith, [], Bool, List}
use Rattle.std.specs.Prelude.{◌||◌, not}
use Rattle.std.specs.Borrow.{Bor}
use Rattle.std.proofs.lemmas.List.{nil_from_length}
use Rattle.std.proofs.lemmas.Bool.{eqb-true}
use Rattle.go_core.specs.Communicate.{is_empty, meets}
use Rattle.go_values.specs.ValuesSeen.{channel_of, values_of}
use Rattle.go_values.specs.declared.values.scalar.Scalar.{Scalar}
use Rattle.go_partners.proofs.partners.ready.receive_ready.Goals as goal

pub returns : goal.returns
returns c = record {
  value = λ ts.
      let xs = c.args.channel.now.values.items in
      let more = meets (channel_of ts c.args.channel.now) c.args.partner in
      let counted = c.args.channel.now.values.ok.0 in
      let zero = eqb-true _ _ (sym c.is_empty.ensures ∙ c.if-not-is_empty.false) in
      let e : xs ≡ [] = nil_from_length xs (omega (arith, zero, counted)) in
      c.meets.ensures.value ts
      ∙ sym (ap (λ (ys : List (Bor (List Scalar))). (not (is_empty (values_of ts ys)) || c.args.channel.now.closed) || more) e ∙ ap (λ (b : Bool). b || more) c.if-channel.false);
}

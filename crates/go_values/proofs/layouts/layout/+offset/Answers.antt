use Rattle.std.proofs.Common.{◌≡◌, sym, subst, ℕ}
use Rattle.std.specs.Prelude.{IfOk}
use Rattle.go_core.specs.Layout.{Shape, offset_in, part_of}
use Rattle.go_values.proofs.layouts.layout.+offset.Goals as goal

pub named_offset-returns-in-Some : goal.named_offset-returns-in-Some
named_offset-returns-in-Some t c = record {
  value = subst (λ (s : Shape). IfOk c.offset_at.result (λ (n : ℕ). n ≡ offset_in (part_of s c.args.number))) (sym c.in-Some.ensures.some) c.offset_at.ensures.value;
}

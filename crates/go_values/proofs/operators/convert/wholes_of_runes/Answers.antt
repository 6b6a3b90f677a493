use Rattle.std.proofs.Common.{◌≡◌, ◌∙◌, ◌++◌, ap, subst, map, ℕ, List}
use Rattle.std.specs.Prelude.{IfOk}
use Rattle.go_type.specs.Tree.{Ty}
use Rattle.go_core.specs.StepNumbers.{whole_of}
use Rattle.go_core.specs.Text.{runes}
use Rattle.go_values.specs.ValuesSeen.{value_of}
use Rattle.go_values.proofs.operators.convert.wholes_of_runes.Goals as goal

pub returns : goal.returns
returns c = record {
  value = subst (λ (ns : List ℕ). IfOk c.wholes_of_codes.result (λ v. (ts : List Ty) → value_of ts v.now ≡ map whole_of ns))
      (c.as_slice.ensures.value ∙ c.in_ok-push_runes.ensures.value ∙ ap (λ (old : List ℕ). old ++ runes c.args.bytes.now) c.new-codes.ensures.items) c.wholes_of_codes.ensures.value;
}

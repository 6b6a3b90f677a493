use Rattle.std.proofs.Common.{◌≡◌, ◌∙◌, refl, sym, subst, ℤ}
use Rattle.std.specs.Prelude.{Option, Some, None, option_map}
use Rattle.go_core.specs.Arithmetic.{wrapped}
use Rattle.go_core.specs.StepNumbers.{number_or}
use Rattle.go_values.specs.OperatorsSeen.{Stops}
use Rattle.go_values.proofs.operators.numbers.number_or.Goals as goal

none_of : (f : ℤ → ℤ) (r : Option ℤ) → None ≡ option_map f r → r ≡ None
none_of f None h = refl
none_of f (Some n) h = absurd (cc)

pub returns-in-None : goal.returns-in-None
returns-in-None c = record {
  value = λ ts m kind r h. subst (λ (q : Option ℤ). Stops c.no_number.result (number_or c.args.op kind m q)) (sym (none_of (wrapped kind) r (sym c.in-None.is ∙ h))) (c.no_number.ensures.value kind m);
}

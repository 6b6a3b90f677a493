-- What the definitions' scalar is of a function and of a method with its receiver.
use Rattle.std.proofs.Common.{◌≡◌, ◌∙◌, sym, ap, List, ℕ}
use Rattle.std.specs.Borrow.{Bor}
use Rattle.go_type.specs.Tree.{Ty}
use Rattle.go_core.specs.Memory as core
use Rattle.go_core.specs.Memory.{packed}
use Rattle.go_values.specs.ValuesSeen.{scalar_of, scalar_step, value_of}
use Rattle.go_values.specs.declared.values.scalar.Scalar.{Scalar, Scalar-F}
use Rattle.go_values.specs.declared.values.scalar.Scalar.TheVariants as held
use Rattle.go_values.specs.declared.values.scalar.Scalar.TheVariants.{rolls-Function, rolls-BoundMethod}
use Rattle.go_values.specs.declared.values.scalar.Scalar.TheFolds.{fold-roll-Scalar}

module _ (ts : List Ty) where
  pub function_seen : (func : ℕ) (bases : Bor (List ℕ)) → scalar_of ts (held.Function func bases) ≡ core.function func bases.now
  function_seen func bases = ap (scalar_of ts) (sym (rolls-Function func bases)) ∙ fold-roll-Scalar core.Scalar (scalar_step ts) (Scalar-F.Function func bases)

  pub bound_seen : (row : ℕ) (receiver : Bor (List Scalar)) → scalar_of ts (held.BoundMethod row receiver) ≡ core.bound_method row (packed (value_of ts receiver.now))
  bound_seen row receiver = ap (scalar_of ts) (sym (rolls-BoundMethod row receiver)) ∙ fold-roll-Scalar core.Scalar (scalar_step ts) (Scalar-F.BoundMethod row receiver)

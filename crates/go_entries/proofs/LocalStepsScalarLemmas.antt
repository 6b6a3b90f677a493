-- The definitions' scalar of a function.
use Rattle.std.proofs.Common.{◌≡◌, ◌∙◌, sym, ap, List, ℕ}
use Rattle.std.specs.Borrow.{Bor}
use Rattle.go_type.specs.Tree.{Ty}
use Rattle.go_core.specs.Memory as core
use Rattle.go_values.specs.ValuesSeen.{scalar_of, scalar_step}
use Rattle.go_values.specs.declared.values.scalar.Scalar.{Scalar-F}
use Rattle.go_values.specs.declared.values.scalar.Scalar.TheVariants as held
use Rattle.go_values.specs.declared.values.scalar.Scalar.TheVariants.{rolls-Function}
use Rattle.go_values.specs.declared.values.scalar.Scalar.TheFolds.{fold-roll-Scalar}

pub function_seen : (ts : List Ty) (func : ℕ) (bases : Bor (List ℕ)) → scalar_of ts (held.Function func bases) ≡ core.function func bases.now
function_seen ts func bases = ap (scalar_of ts) (sym (rolls-Function func bases)) ∙ fold-roll-Scalar core.Scalar (scalar_step ts) (Scalar-F.Function func bases)

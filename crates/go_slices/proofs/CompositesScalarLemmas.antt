-- What the definitions' scalar is of an interface value.
use Rattle.std.proofs.Common.{◌≡◌, ◌∙◌, sym, ap, List}
use Rattle.std.specs.Borrow.{Bor}
use Rattle.go_type.specs.Tree.{Ty}
use Rattle.go_type.specs.Levels.{tree_of}
use Rattle.go_type.specs.declared.types.TypeId.{TypeId}
use Rattle.go_core.specs.Memory as core
use Rattle.go_core.specs.Memory.{packed}
use Rattle.go_values.specs.ValuesSeen.{scalar_of, scalar_step, value_of}
use Rattle.go_values.specs.declared.values.scalar.Scalar.{Scalar, Scalar-F}
use Rattle.go_values.specs.declared.values.scalar.Scalar.TheVariants as held
use Rattle.go_values.specs.declared.values.scalar.Scalar.TheVariants.{rolls-Interface}
use Rattle.go_values.specs.declared.values.scalar.Scalar.TheFolds.{fold-roll-Scalar}

module _ (ts : List Ty) where
  pub interface_seen : (t : TypeId) (content : Bor (List Scalar)) → scalar_of ts (held.Interface t content) ≡ core.interface (tree_of ts t) (packed (value_of ts content.now))
  interface_seen t content = ap (scalar_of ts) (sym (rolls-Interface t content)) ∙ fold-roll-Scalar core.Scalar (scalar_step ts) (Scalar-F.Interface t content)

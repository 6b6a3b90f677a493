-- What the definitions' scalar is of a map.
use Rattle.std.proofs.Common.{◌≡◌, ◌∙◌, sym, ap, List, ℕ}
use Rattle.go_type.specs.Tree.{Ty}
use Rattle.go_core.specs.Memory as core
use Rattle.go_values.specs.ValuesSeen.{scalar_of, scalar_step}
use Rattle.go_values.specs.declared.values.scalar.Scalar.{Scalar-F}
use Rattle.go_values.specs.declared.values.scalar.Scalar.TheVariants as held
use Rattle.go_values.specs.declared.values.scalar.Scalar.TheVariants.{rolls-Map}
use Rattle.go_values.specs.declared.values.scalar.Scalar.TheFolds.{fold-roll-Scalar}

module _ (ts : List Ty) where
  pub map_seen : (name : ℕ) → scalar_of ts (held.Map name) ≡ core.map name
  map_seen name = ap (scalar_of ts) (sym (rolls-Map name)) ∙ fold-roll-Scalar core.Scalar (scalar_step ts) (Scalar-F.Map name)

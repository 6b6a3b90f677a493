-- What the definitions' scalar is of the kinds that operators do not make.
use Rattle.std.proofs.Common.{◌≡◌, ◌∙◌, sym, ap, List, ℕ}
use Rattle.std.specs.Borrow.{Bor}
use Rattle.go_type.specs.Tree.{Ty}
use Rattle.go_core.specs.Memory as core
use Rattle.go_values.specs.ValuesSeen.{scalar_of, scalar_step}
use Rattle.go_values.specs.declared.values.scalar.Scalar.{Scalar-F}
use Rattle.go_values.specs.declared.values.scalar.Scalar.TheVariants as held
use Rattle.go_values.specs.declared.values.scalar.Scalar.TheVariants.{rolls-Text, rolls-Nil, rolls-Map, rolls-Channel}
use Rattle.go_values.specs.declared.values.scalar.Scalar.TheFolds.{fold-roll-Scalar}

module _ (ts : List Ty) where
  pub text_seen : (bytes : Bor (List ℕ)) → scalar_of ts (held.Text bytes) ≡ core.text bytes.now
  text_seen bytes = ap (scalar_of ts) (sym (rolls-Text bytes)) ∙ fold-roll-Scalar core.Scalar (scalar_step ts) (Scalar-F.Text bytes)

  pub nil_seen : scalar_of ts held.Nil ≡ core.nil
  nil_seen = ap (scalar_of ts) (sym rolls-Nil) ∙ fold-roll-Scalar core.Scalar (scalar_step ts) Scalar-F.Nil

  pub map_seen : (name : ℕ) → scalar_of ts (held.Map name) ≡ core.map name
  map_seen name = ap (scalar_of ts) (sym (rolls-Map name)) ∙ fold-roll-Scalar core.Scalar (scalar_step ts) (Scalar-F.Map name)

  pub channel_seen : (name : ℕ) → scalar_of ts (held.Channel name) ≡ core.channel name
  channel_seen name = ap (scalar_of ts) (sym (rolls-Channel name)) ∙ fold-roll-Scalar core.Scalar (scalar_step ts) (Scalar-F.Channel name)

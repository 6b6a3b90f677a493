-- Where methods are looked for, by ids.
use Rattle.std.specs.Prelude.{◌≡◌, ◌<◌, ℕ, Bool, false, not, ◌||◌, ◌&&◌, List, Option, Some, None}
use Rattle.go_type.specs.Tree.{Ty}
use Rattle.go_type.specs.Levels.{tree_of}
use Rattle.go_type.specs.Named.{NamedTy}
use Rattle.go_type.specs.MethodSet.{nowhere, from, receiver_of}
use Rattle.go_type.specs.declared.types.TypeId.{TypeId}
use Rattle.go_type.specs.declared.types.Sig.{Sig}
use Rattle.go_type.specs.declared.hits.Hit.{Hit}
use Rattle.go_type.specs.declared.hits.Hit.TheVariants.{Method}
use Rattle.go_type.specs.Same.{sig_eq}

abbrev pub Begins : ℕ → List Ty → List NamedTy → Ty → Option (TypeId × Bool) → Type 0
Begins n ts ns t None = receiver_of ns t ≡ nowhere
Begins n ts ns t (Some r) = (receiver_of ns t ≡ from (tree_of ts r.0) r.1) × (r.0.0 < n)

-- a hit is a method of the signature that is reached
abbrev pub fits : Hit → Bool → Sig → Bool
fits (Method id on_pointer follows own) indirect sig = (not on_pointer || (follows || indirect)) && sig_eq own.now sig
fits _ indirect sig = false

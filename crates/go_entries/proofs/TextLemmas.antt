-- Texts that are told.
use Rattle.std.proofs.Common.{◌≡◌, refl, ℕ, List, [], ◌∷◌}
use Rattle.std.specs.Prelude.{Option, Some, None}
use Rattle.go_type.specs.Tree.{Ty, str}
use Rattle.go_type.specs.Levels.{level}
use Rattle.go_type.specs.declared.types.GoType.{GoType}
use Rattle.go_type.specs.declared.types.GoType.TheVariants as go
use Rattle.go_type.specs.declared.types.IntName.{IntName}
use Rattle.go_core.specs.CoreTree.{CoreProgram}
use Rattle.go_core.specs.Memory as core
use Rattle.go_core.specs.Memory.{Value}
use Rattle.go_core.specs.Goroutine.{State, moved, panicked}
use Rattle.go_core.specs.Panics.{reported}
use Rattle.go_core.specs.StepInterfaces.{content_text, composite_text}
use Rattle.go_entries.specs.Told.{told_of}

-- what is told, by the text, if any
abbrev pub tells : Option (List ℕ) → State → Option State
tells None s = None
tells (Some bytes) s = Some (record s { end = panicked bytes })

module _ (p : CoreProgram) (g : ℕ) (s : State) where
  abbrev Tells : List Value → Type 0
  Tells vs = reported p g vs s ≡ tells (told_of vs) (moved g [] 1 s)

  one_told : (v : Value) → Tells (v ∷ [])
  one_told [] = refl
  one_told (core.text bytes ∷ []) = refl
  one_told (x ∷ []) = refl
  one_told (core.text bytes ∷ y ∷ ys) = refl
  one_told (x ∷ y ∷ ys) = refl

  many_told : (v w : Value) (vs : List Value) → Tells (v ∷ w ∷ vs)
  many_told [] w vs = refl
  many_told (core.text bytes ∷ []) w vs = refl
  many_told (core.text bytes ∷ y ∷ ys) w vs = refl
  many_told (x ∷ ys) w vs = refl

  pub reported_by : (vs : List Value) → Tells vs
  reported_by [] = refl
  reported_by (v ∷ []) = one_told v
  reported_by (v ∷ w ∷ vs) = many_told v w vs

-- at a level that is neither a boolean, an integer nor a string
pub other_level : (ts : List Ty) (g : GoType) (xs : core.Scalars) → (g ≡ go.Bool → ⊥) → ((name : IntName) → g ≡ go.Int name → ⊥) → (g ≡ go.Str → ⊥) → composite_text ≡ content_text (level ts g) xs
other_level ts go.Bool xs a b c = absurd (a refl)
other_level ts (go.Int name) xs a b c = absurd (b name refl)
other_level ts go.Str xs a b c = absurd (c refl)
other_level ts g xs a b c = refl

pub empty_text : (t : Ty) → composite_text ≡ content_text t core.no_scalars
empty_text t = by_type t
  where
    by_type : (t : Ty) → composite_text ≡ content_text t core.no_scalars
    by_type str = refl
    by_type t = refl

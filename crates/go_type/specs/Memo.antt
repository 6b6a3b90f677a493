-- What was found of parts by value, by id and by how deep it was looked.
use Rattle.std.specs.Prelude.{◌≡◌, ℕ, Bool, true, false, ◌&&◌, ◌||◌, List, [], ◌∷◌, Option, Some, None, if◌then◌else◌, min, get_or, nat_eq}
use Rattle.std.specs.List.{AllByRecursion}
use Rattle.go_type.specs.Tree.{Ty, bool}
use Rattle.go_type.specs.Named.{NamedTy}
use Rattle.go_type.specs.Parts.{holds_within, size_within}

-- the test holds of each of these
abbrev pub Remembers : (Ty → Bool) → List NamedTy → List Ty → List (ℕ × ℕ) → Type 0
Remembers test ns ts es = AllByRecursion (λ (e : ℕ × ℕ). holds_within test ns e.1 (get_or ts e.0 bool) ≡ true) es

abbrev pub is_known : ℕ → ℕ → List (ℕ × ℕ) → Bool
is_known id left [] = false
is_known id left (e ∷ es) = (nat_eq id e.0 && nat_eq left e.1) || is_known id left es

-- each has so many scalars, up to the cap
abbrev pub RemembersSizes : ℕ → List NamedTy → List Ty → List (ℕ × ℕ × ℕ) → Type 0
RemembersSizes cap ns ts es = AllByRecursion (λ (e : ℕ × ℕ × ℕ). e.2 ≡ min (size_within ns e.1 (get_or ts e.0 bool)) cap) es

abbrev pub size_known : ℕ → ℕ → List (ℕ × ℕ × ℕ) → Option ℕ
size_known id left [] = None
size_known id left (e ∷ es) = if (nat_eq id e.0 && nat_eq left e.1) then Some e.2 else size_known id left es

-- Types by id that are reached through embedded fields.
use Rattle.std.specs.Prelude.{◌≡◌, ℕ, ◌<◌, List, ◌++◌, nat_eq, true, get_or}
use Rattle.std.specs.List.{AllByRecursion, IsDistinct, list_any}
use Rattle.go_type.specs.Tree.{Ty, bool}
use Rattle.go_type.specs.Named.{NamedTy}
use Rattle.go_type.specs.Chains.{embeds}

-- one of the ids
abbrev pub Holds : List ℕ → ℕ → Type 0
Holds ids i = list_any (nat_eq i) ids ≡ true

-- one of the ids stands for the tree
pub record Reaches (ts : List Ty) (ids : List ℕ) (t : Ty) : Type 0 where
  pub id : ℕ
  pub held : Holds ids id
  pub tree : get_or ts id bool ≡ t

-- each is among the first n, and stands once
pub record AreIds (n : ℕ) (ids : List ℕ) : Type 0 where
  pub below : (i : ℕ) → Holds ids i → i < n
  pub distinct : IsDistinct nat_eq ids

-- each type that one of the ids embeds has an id there
pub record IsClosed (ns : List NamedTy) (ts : List Ty) (ids : List ℕ) : Type 0 where
  pub at : (i : ℕ) → Holds ids i → AllByRecursion (Reaches ts ids) (embeds ns (get_or ts i bool))

-- ids were added at the end
pub record Extends (old new : List ℕ) : Type 0 where
  pub more : List ℕ
  pub is : new ≡ old ++ more

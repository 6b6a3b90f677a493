-- When an environment of the code has what is known of a package: its named types, and its scope, in which no block is open.
use Rattle.std.specs.Prelude.{◌≡◌, ℕ, zero, suc, List, [], ◌∷◌, true, Option, Some, None, slice_get, slice_set}
use Rattle.go_type.specs.Tree.{Ty}
use Rattle.go_type.specs.Named.{NamedTy, with_under}
use Rattle.go_typing.specs.Env.{universe}
use Rattle.go_typing.specs.Scopes.{Env, has_package, package_scopes}
use Rattle.go_typing.specs.Items.{Item}
use Rattle.go_typing.specs.Known.{Known}
use Rattle.go_walk.specs.SetsHas.{number_of}
use Rattle.go_walk.specs.declared.sets.numbers.NameMap.{NameMap}
use Rattle.go_items.specs.Leads.{first_number}
use Rattle.go_sound.specs.Rows.{Row, items_in}

-- the package is entered
abbrev pub IsEntered : Env → Option (List ℕ) → Type 0
IsEntered e None = ⊥
IsEntered e (Some path) = has_package path e.packages ≡ true

pub record Stands (k : Known) (e : Env) : Type 0 where
  pub names : e.named_types ≡ k.names
  pub universe : e.universe_scope ≡ universe None
  pub iota : e.iota ≡ None
  pub blocks : e.blocks ≡ []
  pub entered : IsEntered e e.current
  pub scope : package_scopes e e.current ≡ k.binds ∷ []

-- the row of a number is that of this declaration
abbrev pub IsRow : List Row → ℕ → Item → Type 0
IsRow [] n i = ⊥
IsRow (r ∷ rs) zero i = r.item ≡ i
IsRow (r ∷ rs) (suc n) i = IsRow rs n i

-- each name has the number of its first declaration
abbrev pub AreNumbers : NameMap → List Row → Type 0
AreNumbers numbers rs = (x : List ℕ) → number_of x numbers ≡ first_number x (items_in rs)

-- the named type of this number is set, and no other
pub record IsSetAt (at : ℕ) (u : Ty) (old new : List NamedTy) : Type 0 where
  pub row : NamedTy
  pub was : slice_get old at ≡ Some row
  pub now : new ≡ slice_set old at (with_under u row)

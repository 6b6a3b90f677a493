-- The declarations of a package, as they are typed one after the other.
use Rattle.std.specs.Prelude.{◌≡◌, ◌⊎◌, ℕ, zero, suc, List, [], ◌∷◌, Bool, true, false}
use Rattle.go_syntax.specs.Tree as t
use Rattle.go_typing.specs.Env.{unknown}
use Rattle.go_typing.specs.Scopes.{Env}
use Rattle.go_typing.specs.Items.{Item, items_of}
use Rattle.go_typing.specs.Known.{Known, first_names, decl_of}
use Rattle.go_items.specs.Leads.{first_number}
use Rattle.go_walk.specs.SetsHas.{number_of}
use Rattle.go_walk.specs.declared.sets.numbers.NameMap.{NameMap}
use Rattle.go_sound.specs.Rows.{Row, unset_rows, known_by, one_typed, rows_after}
use Rattle.go_items.specs.Stands.{Stands, IsRow}

-- before anything is declared
abbrev pub at_first : Known
at_first = record { binds = []; names = first_names }

-- these are the declarations of a package, and each name has the number of its first one
pub record Named (ds : List t.Decl) (is : List Item) (numbers : NameMap) : Type 0 where
  pub items : is ≡ items_of ds
  pub first : (x : List ℕ) → number_of x numbers ≡ first_number x is

-- those of these numbers were typed, one after the other
abbrev pub rows_of : List Item → List ℕ → List Row
rows_of is ns = rows_after ns (unset_rows is)

abbrev pub Reached : List Item → List ℕ → Env → Type 0
Reached is ns e = Stands (known_by (rows_of is ns)) e

-- by what is known, the declaration of a number isn't typed
abbrev pub CantBeTyped : List Row → ℕ → Type 0
CantBeTyped rs n = (i : Item) → IsRow rs n i → decl_of (known_by rs) i ≡ unknown

-- one more is typed, or can't be
abbrev pub Turned : Bool → List Item → List ℕ → ℕ → Env → Type 0
Turned true is ns n e = (i : Item) × IsRow (rows_of is ns) n i × (decl_of (known_by (rows_of is ns)) i ≡ unknown → ⊥) × Stands (known_by (one_typed n (rows_of is ns))) e
Turned false is ns n e = CantBeTyped (rows_of is ns) n × Reached is ns e

abbrev pub Has : List ℕ → ℕ → Type 0
Has [] m = ⊥
Has (n ∷ ns) m = (n ≡ m) ⊎ Has ns m

abbrev pub IsUntyped : List Row → ℕ → Type 0
IsUntyped [] m = ⊥
IsUntyped (r ∷ rs) zero = r.what ≡ unknown
IsUntyped (r ∷ rs) (suc m) = IsUntyped rs m

-- each one that isn't typed is among those that are left or among those that come next; where no other was typed
-- meanwhile, those that are left can't be
pub record Passed (is : List Item) (left next : List ℕ) (changed : Bool) (e : Env) : Type 0 where
  pub typed : List ℕ
  pub reached : Reached is typed e
  pub untyped : (m : ℕ) → IsUntyped (rows_of is typed) m → Has left m ⊎ Has next m
  pub stuck : changed ≡ false → (m : ℕ) → Has left m → CantBeTyped (rows_of is typed) m

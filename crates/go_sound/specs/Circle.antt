-- Go specification (as of Go 1.17), "Declarations and scope"; own: names that need themselves, by any number of steps.
use Rattle.std.specs.Prelude.{◌≡◌, ◌↔◌, ℕ, List, [], ◌∷◌, true, map}
use Rattle.go_typing.specs.Env.{Bind}
use Rattle.go_typing.specs.Items.{Item, name_of}
use Rattle.go_typing.specs.Cycles.{is_among, needs_of, needs_named, needs_itself}

-- the names that are declared
abbrev pub texts : List Item → List (List ℕ)
texts is = map (λ i. (name_of i).text) is

-- a name needs another one, by its first declaration
abbrev pub Needs : List (List Bind) → List Item → List ℕ → List ℕ → Type 0
Needs ss all x y = is_among y (needs_named ss all x all) ≡ true

-- by these names, one after the other
abbrev pub NeedsBy : List (List Bind) → List Item → List ℕ → List (List ℕ) → List ℕ → Type 0
NeedsBy ss all x [] y = x ≡ y
NeedsBy ss all x (z ∷ zs) y = Needs ss all x z × NeedsBy ss all z zs y

-- a name leads back to itself, by one step or more
abbrev pub NeedsItself : List (List Bind) → List Item → List ℕ → Type 0
NeedsItself ss all x = (z : List ℕ) × (zs : List (List ℕ)) × Needs ss all x z × NeedsBy ss all z zs x

-- of the first declaration of a name, that it needs itself within as many steps as there are declarations says whether its
-- name does, by however many
abbrev pub ReachesItself : Type 0
ReachesItself =
    (ss : List (List Bind)) (all : List Item) (i : Item) → is_among (name_of i).text (texts all) ≡ true → needs_named ss all (name_of i).text all ≡ needs_of ss i
    → (needs_itself ss all i ≡ true) ↔ NeedsItself ss all (name_of i).text

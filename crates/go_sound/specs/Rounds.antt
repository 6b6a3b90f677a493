-- Go specification (as of Go 1.17), "Declarations and scope": declarations stand in any order, so what the names of a package
-- stand for is the least that follows from them.
use Rattle.std.specs.Prelude.{◌≡◌, ◌≤◌, ◌⊎◌, ℕ, suc, length, List, [], ◌∷◌}
use Rattle.go_syntax.specs.Tree as t
use Rattle.go_typing.specs.Env.{unknown}
use Rattle.go_typing.specs.Items.{Item, items_of}
use Rattle.go_typing.specs.Known.{Known, decl_of, round, after_rounds}
use Rattle.go_typing.specs.Checked.{known_in}

abbrev pub IsItem : Item → List Item → Type 0
IsItem i [] = ⊥
IsItem i (j ∷ is) = (j ≡ i) ⊎ IsItem i is

-- by the one knowledge the declaration isn't typed, or it is typed as by the other
abbrev pub TypesNoMore : Known → Known → Item → Type 0
TypesNoMore k l i = (decl_of k i ≡ unknown) ⊎ (decl_of k i ≡ decl_of l i)

-- another round changes nothing
abbrev pub IsFixed : Type 0
IsFixed = (ds : List t.Decl) → round (items_of ds) (known_in ds) ≡ known_in ds

-- nor do more rounds
abbrev pub IsReached : Type 0
IsReached = (ds : List t.Decl) (n : ℕ) → length (items_of ds) ≤ n → after_rounds n (items_of ds) ≡ known_in ds

-- what is typed in a round is typed as the same in the next one
abbrev pub StaysSo : Type 0
StaysSo =
    (ds : List t.Decl) (n : ℕ) (i : Item) → IsItem i (items_of ds)
    → TypesNoMore (after_rounds n (items_of ds)) (after_rounds (suc n) (items_of ds)) i

-- whatever another round doesn't change types all that is typed here, and as the same
abbrev pub IsLeastFixed : Type 0
IsLeastFixed = (ds : List t.Decl) (l : Known) → round (items_of ds) l ≡ l → (i : Item) → IsItem i (items_of ds) → TypesNoMore (known_in ds) l i

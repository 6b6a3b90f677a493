-- Go specification (as of Go 1.17), "Declarations and scope": declarations by their numbers, each with those that it needs.
use Rattle.std.specs.Prelude.{◌≡◌, ℕ, zero, suc, List, [], ◌∷◌, Bool, true, false, if◌then◌else◌, Option, Some, None, bytes_eq, get_or}
use Rattle.go_typing.specs.Env.{Bind}
use Rattle.go_typing.specs.Items.{Item, name_of}
use Rattle.go_typing.specs.Cycles.{is_among, needs_of, needs_itself}
use Rattle.go_graph.specs.Order.{StandsBefore}

-- the number of a name's first declaration, where the list begins with this number
abbrev pub number_from : ℕ → List ℕ → List Item → Option ℕ
number_from n x [] = None
number_from n x (i ∷ is) = if bytes_eq x (name_of i).text then Some n else number_from (suc n) x is

abbrev pub first_number : List ℕ → List Item → Option ℕ
first_number x is = number_from 0 x is

-- what the declaration of a number needs
abbrev pub needs_at : List (List Bind) → List Item → ℕ → List (List ℕ)
needs_at ss [] n = []
needs_at ss (i ∷ is) zero = needs_of ss i
needs_at ss (i ∷ is) (suc n) = needs_at ss is n

-- a declaration needs a name whose first declaration is the other one
abbrev pub Leads : List (List Bind) → List Item → ℕ → ℕ → Type 0
Leads ss all n m = (x : List ℕ) × (is_among x (needs_at ss all n) ≡ true) × (first_number x all ≡ Some m)

-- of the first declaration of each name a list says whether it needs itself; these names stood before
abbrev pub TellsFrom : List (List Bind) → List Item → List Bool → ℕ → List (List ℕ) → List Item → Type 0
TellsFrom ss all told n seen [] = Unit {0}
TellsFrom ss all told n seen (i ∷ is) =
    (is_among (name_of i).text seen ≡ false → get_or told n false ≡ needs_itself ss all i) × TellsFrom ss all told (suc n) ((name_of i).text ∷ seen) is

abbrev pub Tells : List (List Bind) → List Item → List Bool → Type 0
Tells ss all told = TellsFrom ss all told 0 [] all

-- one that isn't told comes after each that it needs
abbrev pub IsInOrder : List (List Bind) → List Item → List Bool → List ℕ → Type 0
IsInOrder ss all told nodes = (n m : ℕ) → Leads ss all n m → get_or told n false ≡ false → StandsBefore nodes m n

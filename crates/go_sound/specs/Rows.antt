-- Go specification (as of Go 1.17), "Declarations and scope", "Type definitions"; own: the declarations of a package as they
-- are typed one after the other, each by what is known then.
use Rattle.std.specs.Prelude.{◌≡◌, ℕ, zero, suc, List, [], ◌∷◌, ◌++◌, Option, None, option_map}
use Rattle.go_syntax.specs.Tree as t
use Rattle.go_type.specs.Tree.{Ty}
use Rattle.go_type.specs.Named.{NamedTy}
use Rattle.go_type.specs.Underlying.{underlying}
use Rattle.go_typing.specs.Env.{Decl, unknown, Bind}
use Rattle.go_typing.specs.Items.{Item, constant_item, type_item, alias_item, function_item, variable_item, init_item, name_of, items_of}
use Rattle.go_typing.specs.Known.{Known, first_names, type_found, decl_of, with_item}
use Rattle.go_typing.specs.Checked.{known_in}

-- a declaration, what its name stands for, and of a type what that stands for
pub record Row : Type 0 where
  pub item : Item
  pub what : Decl
  pub under : Option Ty

abbrev pub unset_row : Item → Row
unset_row i = record { item = i; what = unknown; under = None }

-- nothing is typed yet
abbrev pub unset_rows : List Item → List Row
unset_rows [] = []
unset_rows (i ∷ is) = unset_row i ∷ unset_rows is

abbrev pub items_in : List Row → List Item
items_in [] = []
items_in (r ∷ rs) = r.item ∷ items_in rs

-- ---- what is known by them

abbrev pub binds_by : List Row → List Bind → List Bind
binds_by [] bs = bs
binds_by (r ∷ rs) bs = binds_by rs (with_item (name_of r.item) r.what bs)

abbrev pub named_row : Item → Option Ty → List NamedTy → List NamedTy
named_row (type_item n number e) u ns = record { name = n.text; package_ = []; under = u; methods = [] } ∷ ns
named_row (constant_item n number u y all) o ns = ns
named_row (alias_item n e) o ns = ns
named_row (function_item n id s) o ns = ns
named_row (variable_item n) o ns = ns
named_row (init_item n) o ns = ns

abbrev pub types_by : List Row → List NamedTy
types_by [] = []
types_by (r ∷ rs) = named_row r.item r.under (types_by rs)

abbrev pub known_by : List Row → Known
known_by rs = record { binds = binds_by rs []; names = first_names ++ types_by rs }

-- ---- one after the other

-- what a type stands for, by what is known
abbrev pub under_of : Known → Item → Option Ty
under_of k (type_item n number e) = option_map (underlying k.names) (type_found k e)
under_of k (constant_item n number u y all) = None
under_of k (alias_item n e) = None
under_of k (function_item n id s) = None
under_of k (variable_item n) = None
under_of k (init_item n) = None

abbrev pub typed_row : Known → Row → Row
typed_row k r = record { item = r.item; what = decl_of k r.item; under = under_of k r.item }

-- that of this number is typed by what is known
abbrev pub typed_at : Known → ℕ → List Row → List Row
typed_at k n [] = []
typed_at k zero (r ∷ rs) = typed_row k r ∷ rs
typed_at k (suc n) (r ∷ rs) = r ∷ typed_at k n rs

abbrev pub one_typed : ℕ → List Row → List Row
one_typed n rs = typed_at (known_by rs) n rs

-- those of these numbers, one after the other
abbrev pub rows_after : List ℕ → List Row → List Row
rows_after [] rs = rs
rows_after (n ∷ ns) rs = rows_after ns (one_typed n rs)

-- ---- the end

-- what isn't typed isn't by what is known
abbrev pub IsDone : Known → List Row → Type 0
IsDone k [] = Unit {0}
IsDone k (r ∷ rs) = (r.what ≡ unknown → decl_of k r.item ≡ unknown) × IsDone k rs

-- where that is so, no more rounds make any more known, and all that is known is what the rounds reach
abbrev pub ReachesKnown : Type 0
ReachesKnown =
    (ds : List t.Decl) (ns : List ℕ) → IsDone (known_by (rows_after ns (unset_rows (items_of ds)))) (rows_after ns (unset_rows (items_of ds)))
    → known_by (rows_after ns (unset_rows (items_of ds))) ≡ known_in ds

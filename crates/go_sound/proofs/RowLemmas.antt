-- What is known by rows.
use Rattle.std.proofs.Common.{◌≡◌, inr, ℕ, zero, suc, ◌+◌, length, List, [], ◌∷◌, ◌++◌, refl, sym, subst, ap, ◌∙◌, append_assoc, arith, Option, Some, None}
use Rattle.go_syntax.specs.declared.tree.Name.{Name}
use Rattle.go_type.specs.Tree.{Ty}
use Rattle.go_type.specs.Named.{NamedTy}
use Rattle.go_type.specs.Underlying.{under_at, under_in}
use Rattle.go_typing.specs.Env.{Decl, unknown, Bind, find}
use Rattle.go_typing.specs.Items.{Item, constant_item, type_item, alias_item, function_item, variable_item, init_item, name_of}
use Rattle.go_typing.specs.Known.{Known, first_names, decl_of, with_item, binds_from, named_by, round, names_alone, unset, nothing_known}
use Rattle.go_sound.proofs.AgreeTyping.{DeclAgrees, OptionAgrees}
use Rattle.go_sound.proofs.KnownWords.{LessDecl, LessBinds, fill_less, found_less, OfOption, AllBinds, fill_all, found_all, LessUnder, LessNames, names_less, first_less, NumberedTo, seam, one_longer}
use Rattle.go_sound.proofs.Grown.{IsSet, KnowsLess}
use Rattle.go_sound.specs.Rows.{Row, unset_rows, items_in, binds_by, named_row, types_by, known_by, under_of, typed_row, typed_at}

-- ---- each row

abbrev pub AllRows : (Row → Type 0) → List Row → Type 0
AllRows Q [] = Unit {0}
AllRows Q (r ∷ rs) = Q r × AllRows Q rs

pub all_rows : (Q R : Row → Type 0) → ((r : Row) → Q r → R r) → (rs : List Row) → AllRows Q rs → AllRows R rs
all_rows Q R f [] h = tt
all_rows Q R f (r ∷ rs) h = (f r h.0, all_rows Q R f rs h.1)

-- ---- rows that know less

abbrev pub RowLess : Row → Row → Type 0
RowLess r s = (r.item ≡ s.item) × LessDecl r.what s.what × LessUnder r.under s.under

abbrev pub RowsLess : List Row → List Row → Type 0
RowsLess [] [] = Unit {0}
RowsLess (r ∷ rs) (s ∷ ss) = RowLess r s × RowsLess rs ss
RowsLess [] (s ∷ ss) = ⊥
RowsLess (r ∷ rs) [] = ⊥

pub same_rows : (rs : List Row) → RowsLess rs rs
same_rows [] = tt
same_rows (r ∷ rs) = ((refl, inr refl, inr refl), same_rows rs)

one_less : (i : Item) (d e : Decl) (bs cs : List Bind) → LessDecl d e → LessBinds bs cs → LessBinds (with_item (name_of i) d bs) (with_item (name_of i) e cs)
one_less i d e bs cs h l = fill_less (λ (j : Item). d) (λ (j : Item). e) (i ∷ []) bs cs (h, tt) l

binds_less : (rs ss : List Row) (bs cs : List Bind) → RowsLess rs ss → LessBinds bs cs → LessBinds (binds_by rs bs) (binds_by ss cs)
binds_less [] [] bs cs h l = l
binds_less [] (s ∷ ss) bs cs h l = absurd h
binds_less (r ∷ rs) [] bs cs h l = absurd h
binds_less (r ∷ rs) (s ∷ ss) bs cs h l =
    binds_less rs ss (with_item (name_of r.item) r.what bs) (with_item (name_of s.item) s.what cs) h.1
    (subst (λ (j : Item). LessBinds (with_item (name_of r.item) r.what bs) (with_item (name_of j) s.what cs)) h.0.0 (one_less r.item r.what s.what bs cs h.0.1 l))

one_all : (Q : Decl → Type 0) (i : Item) (d : Decl) (bs : List Bind) → Q d → AllBinds Q bs → AllBinds Q (with_item (name_of i) d bs)
one_all Q i d bs h k = fill_all Q (λ (j : Item). d) (i ∷ []) bs (h, tt) k

binds_all : (Q : Decl → Type 0) (rs : List Row) (bs : List Bind) → AllRows (λ (r : Row). Q r.what) rs → AllBinds Q bs → AllBinds Q (binds_by rs bs)
binds_all Q [] bs h k = k
binds_all Q (r ∷ rs) bs h k = binds_all Q rs (with_item (name_of r.item) r.what bs) h.1 (one_all Q r.item r.what bs h.0 k)

named_less : (i : Item) (o p : Option Ty) (ns ms : List NamedTy) → LessUnder o p → LessNames ns ms → LessNames (named_row i o ns) (named_row i p ms)
named_less (type_item n number e) o p ns ms h l = (h, l)
named_less (constant_item n number u y all) o p ns ms h l = l
named_less (alias_item n e) o p ns ms h l = l
named_less (function_item n id s) o p ns ms h l = l
named_less (variable_item n) o p ns ms h l = l
named_less (init_item n) o p ns ms h l = l

types_less : (rs ss : List Row) → RowsLess rs ss → LessNames (types_by rs) (types_by ss)
types_less [] [] h = tt
types_less [] (s ∷ ss) h = absurd h
types_less (r ∷ rs) [] h = absurd h
types_less (r ∷ rs) (s ∷ ss) h =
    subst (λ (j : Item). LessNames (named_row r.item r.under (types_by rs)) (named_row j s.under (types_by ss))) h.0.0 (named_less r.item r.under s.under (types_by rs) (types_by ss) h.0.2 (types_less rs ss h.1))

option_set : (ns : List NamedTy) (o : Option Decl) → OfOption (DeclAgrees (IsSet ns)) o → OptionAgrees (IsSet ns) o
option_set ns None h = tt
option_set ns (Some d) h = h

pub rows_know : (rs ss : List Row) → RowsLess rs ss → AllRows (λ (r : Row). DeclAgrees (IsSet (first_names ++ types_by rs)) r.what) rs → KnowsLess (known_by rs) (known_by ss)
rows_know rs ss h a = record {
  less = λ x. found_less x (binds_by rs []) (binds_by ss []) (binds_less rs ss [] [] h tt);
  set = λ x. option_set (first_names ++ types_by rs) (find x (binds_by rs [])) (found_all (DeclAgrees (IsSet (first_names ++ types_by rs))) x (binds_by rs []) (binds_all (DeclAgrees (IsSet (first_names ++ types_by rs))) rs [] a tt));
  grows = λ id. names_less (first_names ++ types_by rs) (first_names ++ types_by ss) id (first_less first_names (types_by rs) (types_by ss) (types_less rs ss h));
}

-- ---- a round

abbrev pub typed_rows : Known → List Row → List Row
typed_rows k [] = []
typed_rows k (r ∷ rs) = typed_row k r ∷ typed_rows k rs

typed_binds : (k : Known) (rs : List Row) (bs : List Bind) → binds_by (typed_rows k rs) bs ≡ binds_from k (items_in rs) bs
typed_binds k [] bs = refl
typed_binds k (r ∷ rs) bs = typed_binds k rs (with_item (name_of r.item) (decl_of k r.item) bs)

typed_name : (k : Known) (i : Item) (is : List Item) → named_row i (under_of k i) (named_by k is) ≡ named_by k (i ∷ is)
typed_name k (type_item n number e) is = refl
typed_name k (constant_item n number u y all) is = refl
typed_name k (alias_item n e) is = refl
typed_name k (function_item n id s) is = refl
typed_name k (variable_item n) is = refl
typed_name k (init_item n) is = refl

typed_names : (k : Known) (rs : List Row) → types_by (typed_rows k rs) ≡ named_by k (items_in rs)
typed_names k [] = refl
typed_names k (r ∷ rs) = ap (named_row r.item (under_of k r.item)) (typed_names k rs) ∙ typed_name k r.item (items_in rs)

abbrev known_of : List Bind → List NamedTy → Known
known_of bs ns = record { binds = bs; names = first_names ++ ns }

pub typed_round : (k : Known) (rs : List Row) → known_by (typed_rows k rs) ≡ round (items_in rs) k
typed_round k rs =
    ap (λ (bs : List Bind). known_of bs (types_by (typed_rows k rs))) (typed_binds k rs [])
    ∙ ap (λ (ns : List NamedTy). known_of (binds_from k (items_in rs) []) ns) (typed_names k rs)

-- ---- at first

unset_binds : (is : List Item) (bs : List Bind) → binds_by (unset_rows is) bs ≡ names_alone is bs
unset_binds [] bs = refl
unset_binds (i ∷ is) bs = unset_binds is (with_item (name_of i) unknown bs)

unset_name : (i : Item) (is : List Item) → named_row i None (unset is) ≡ unset (i ∷ is)
unset_name (type_item n number e) is = refl
unset_name (constant_item n number u y all) is = refl
unset_name (alias_item n e) is = refl
unset_name (function_item n id s) is = refl
unset_name (variable_item n) is = refl
unset_name (init_item n) is = refl

unset_names : (is : List Item) → types_by (unset_rows is) ≡ unset is
unset_names [] = refl
unset_names (i ∷ is) = ap (named_row i None) (unset_names is) ∙ unset_name i is

pub unset_known : (is : List Item) → known_by (unset_rows is) ≡ nothing_known is
unset_known is =
    ap (λ (bs : List Bind). known_of bs (types_by (unset_rows is))) (unset_binds is [])
    ∙ ap (λ (ns : List NamedTy). known_of (names_alone is []) ns) (unset_names is)

pub unset_items : (is : List Item) → items_in (unset_rows is) ≡ is
unset_items [] = refl
unset_items (i ∷ is) = ap (λ (js : List Item). i ∷ js) (unset_items is)

-- ---- the items stay

pub typed_items : (k : Known) (n : ℕ) (rs : List Row) → items_in (typed_at k n rs) ≡ items_in rs
typed_items k n [] = refl
typed_items k zero (r ∷ rs) = refl
typed_items k (suc n) (r ∷ rs) = ap (λ (is : List Item). r.item ∷ is) (typed_items k n rs)

-- ---- a type's place has what its row has

abbrev pub RowAt : ℕ → List NamedTy → Item → Option Ty → Type 0
RowAt base ns (type_item n number e) o = under_at ns (base + number) ≡ o
RowAt base ns (constant_item n number u y all) o = Unit {0}
RowAt base ns (alias_item n e) o = Unit {0}
RowAt base ns (function_item n id s) o = Unit {0}
RowAt base ns (variable_item n) o = Unit {0}
RowAt base ns (init_item n) o = Unit {0}

abbrev pub AllAt : ℕ → List NamedTy → List Row → Type 0
AllAt base ns rs = AllRows (λ (r : Row). RowAt base ns r.item r.under) rs

abbrev named_by_row : Name → Option Ty → NamedTy
named_by_row n o = record { name = n.text; package_ = []; under = o; methods = [] }

pub rows_at : (base k m : ℕ) (ps : List NamedTy) (rs : List Row) → length ps ≡ base + k → NumberedTo k (items_in rs) m → AllAt base (ps ++ types_by rs) rs
rows_at base k m ps [] l h = tt
rows_at base k m ps (r ∷ rs) l h = by_item r.item h (λ j qs e g. rows_at base j m qs rs e g)
  where
    by_item : (i : Item) → NumberedTo k (i ∷ items_in rs) m → ((j : ℕ) (qs : List NamedTy) → length qs ≡ base + j → NumberedTo j (items_in rs) m → AllAt base (qs ++ types_by rs) rs)
        → RowAt base (ps ++ named_row i r.under (types_by rs)) i r.under × AllAt base (ps ++ named_row i r.under (types_by rs)) rs
    by_item (type_item n number e) g f = (here, subst (λ (ns : List NamedTy). AllAt base ns rs) (append_assoc ps (named_by_row n r.under ∷ []) (types_by rs)) (f (suc k) (ps ++ named_by_row n r.under ∷ []) longer g.1))
      where
        here : under_at (ps ++ named_by_row n r.under ∷ types_by rs) (base + number) ≡ r.under
        here =
            ap (λ (j : ℕ). under_at (ps ++ named_by_row n r.under ∷ types_by rs) (base + j)) g.0 ∙ ap (under_at (ps ++ named_by_row n r.under ∷ types_by rs)) (sym l)
            ∙ ap under_in (seam ps (named_by_row n r.under) (types_by rs))

        longer : length (ps ++ named_by_row n r.under ∷ []) ≡ base + suc k
        longer = let a = one_longer ps (named_by_row n r.under) in omega arith
    by_item (constant_item n number u y all) g f = (tt, f k ps l g)
    by_item (alias_item n e) g f = (tt, f k ps l g)
    by_item (function_item n id s) g f = (tt, f k ps l g)
    by_item (variable_item n) g f = (tt, f k ps l g)
    by_item (init_item n) g f = (tt, f k ps l g)

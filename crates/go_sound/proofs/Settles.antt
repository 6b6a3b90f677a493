-- Declarations that are typed one after the other come to what the rounds reach.
use Rattle.std.proofs.Common.{◌≡◌, ◌⊎◌, inl, inr, ℕ, zero, suc, ◌+◌, length, List, [], ◌∷◌, ◌++◌, refl, sym, subst, ap, ◌∙◌, true, false, Option, Some, None, option_map}
use Rattle.go_type.specs.Tree.{Ty}
use Rattle.go_type.specs.Underlying.{underlying, under_at}
use Rattle.go_typing.specs.Env.{Decl, unknown, type_name}
use Rattle.go_typing.specs.Items.{Item, constant_item, type_item, alias_item, function_item, variable_item, init_item, items_of}
use Rattle.go_typing.specs.Known.{Known, first_names, named_type, type_found, type_decl, decl_of, round, known}
use Rattle.go_sound.proofs.AgreeTyping.{DeclAgrees}
use Rattle.go_sound.proofs.KnownWords.{LessDecl, LessUnder, NumberedTo, under_found}
use Rattle.go_sound.proofs.Numbered.{items_numbered}
use Rattle.go_sound.proofs.Grown.{IsSet, KnowsLess, set_grows, decl_more, ItemLess, item_less}
use Rattle.go_sound.proofs.RoundsEnd.{is_unknown, is_fixed, below}
use Rattle.go_sound.specs.Rows.{Row, unset_rows, items_in, types_by, known_by, under_of, typed_row, typed_at, one_typed, rows_after, IsDone, ReachesKnown}
use Rattle.go_sound.proofs.RowLemmas.{AllRows, all_rows, RowsLess, same_rows, rows_know, typed_rows, typed_round, unset_items, typed_items, RowAt, AllAt, rows_at}

-- ---- less and less again

decl_through : (d e f : Decl) → LessDecl d e → LessDecl e f → LessDecl d f
decl_through d e f (inl h) k = inl h
decl_through d e f (inr h) (inl k) = inl (h ∙ k)
decl_through d e f (inr h) (inr k) = inr (h ∙ k)

decl_both : (d e : Decl) → LessDecl d e → LessDecl e d → d ≡ e
decl_both d e (inr h) k = h
decl_both d e (inl h) (inl k) = h ∙ sym k
decl_both d e (inl h) (inr k) = sym k

under_through : (o p q : Option Ty) → LessUnder o p → LessUnder p q → LessUnder o q
under_through o p q (inl h) k = inl h
under_through o p q (inr h) (inl k) = inl (h ∙ k)
under_through o p q (inr h) (inr k) = inr (h ∙ k)

under_both : (o p : Option Ty) → LessUnder o p → LessUnder p o → o ≡ p
under_both o p (inr h) k = h
under_both o p (inl h) (inl k) = h ∙ sym k
under_both o p (inl h) (inr k) = sym k

-- ---- by what knows less, what a type stands for is less

under_less : (k l : Known) → KnowsLess k l → (i : Item) → LessUnder (under_of k i) (under_of l i)
under_less k l know (type_item n number e) = by_case (by_item (item_less k l know (type_item n number e)))
  where
    by_item : ItemLess k l know (type_item n number e) → (type_found k e ≡ None) ⊎ (type_found k e ≡ type_found l e) × (under_found k e ≡ under_found l e)
    by_item h = h.types

    by_case : (type_found k e ≡ None) ⊎ (type_found k e ≡ type_found l e) × (under_found k e ≡ under_found l e) → LessUnder (under_found k e) (under_found l e)
    by_case (inl f) = inl (ap (option_map (underlying k.names)) f)
    by_case (inr f) = inr f.1
under_less k l know (constant_item n number u y all) = inr refl
under_less k l know (alias_item n e) = inr refl
under_less k l know (function_item n id s) = inr refl
under_less k l know (variable_item n) = inr refl
under_less k l know (init_item n) = inr refl

what_less : (k l : Known) → KnowsLess k l → (i : Item) → LessDecl (decl_of k i) (decl_of l i)
what_less k l know i = let h = item_less k l know i in h.less

-- ---- what holds of each row

-- it isn't typed, or is as by what is known; its types are set
pub record RowKnown (k : Known) (r : Row) : Type 0 where
  pub less : LessDecl r.what (decl_of k r.item)
  pub under : LessUnder r.under (under_of k r.item)
  pub agrees : DeclAgrees (IsSet k.names) r.what

-- as by what the rounds reach
pub record RowBelow (l : Known) (r : Row) : Type 0 where
  pub less : LessDecl r.what (decl_of l r.item)
  pub under : LessUnder r.under (under_of l r.item)

pub record Rows (l : Known) (is : List Item) (rs : List Row) : Type 0 where
  pub items : items_in rs ≡ is
  pub known : AllRows (RowKnown (known_by rs)) rs
  pub below : AllRows (RowBelow l) rs

agree_all : (k : Known) (rs : List Row) → AllRows (RowKnown k) rs → AllRows (λ (r : Row). DeclAgrees (IsSet k.names) r.what) rs
agree_all k rs h = all_rows (RowKnown k) (λ (r : Row). DeclAgrees (IsSet k.names) r.what) (λ r a. a.agrees) rs h

below_rows : (l : Known) (rs : List Row) → AllRows (RowBelow l) rs → RowsLess rs (typed_rows l rs)
below_rows l [] h = tt
below_rows l (r ∷ rs) h = ((refl, h.0.less, h.0.under), below_rows l rs h.1)

-- what is known by rows is less than what the rounds reach
below_all : (l : Known) (is : List Item) → round is l ≡ l → (rs : List Row) → Rows l is rs → KnowsLess (known_by rs) l
below_all l is e rs h =
    subst (KnowsLess (known_by rs)) (typed_round l rs ∙ ap (λ (js : List Item). round js l) h.items ∙ e)
    (rows_know rs (typed_rows l rs) (below_rows l rs h.below) (agree_all (known_by rs) rs h.known))

-- ---- at first

unset_all : (k l : Known) (is : List Item) → AllRows (RowKnown k) (unset_rows is) × AllRows (RowBelow l) (unset_rows is)
unset_all k l [] = (tt, tt)
unset_all k l (i ∷ is) = let r = unset_all k l is in ((record { less = inl refl; under = inl refl; agrees = tt }, r.0), (record { less = inl refl; under = inl refl }, r.1))

at_first : (l : Known) (is : List Item) → Rows l is (unset_rows is)
at_first l is = let r = unset_all (known_by (unset_rows is)) l is in record { items = unset_items is; known = r.0; below = r.1 }

-- ---- one more

step_less : (k : Known) (n : ℕ) (rs : List Row) → AllRows (RowKnown k) rs → RowsLess rs (typed_at k n rs)
step_less k n [] h = tt
step_less k zero (r ∷ rs) h = ((refl, h.0.less, h.0.under), same_rows rs)
step_less k (suc n) (r ∷ rs) h = ((refl, inr refl, inr refl), step_less k n rs h.1)

module _ (k l : Known) (know : KnowsLess k l) where
  stays_known : (r : Row) → RowKnown k r → RowKnown l r
  stays_known r h = record {
    less = decl_through r.what (decl_of k r.item) (decl_of l r.item) h.less (what_less k l know r.item);
    under = under_through r.under (under_of k r.item) (under_of l r.item) h.under (under_less k l know r.item);
    agrees = decl_more (IsSet k.names) (IsSet l.names) (set_grows k.names l.names know.grows) r.what h.agrees;
  }

  set_there : (number : ℕ) (o : Option Ty) → under_at l.names (length first_names + number) ≡ option_map (underlying k.names) o → DeclAgrees (IsSet l.names) (type_decl (named_type number) o)
  set_there number None h = tt
  set_there number (Some u) h = (underlying k.names u, h)

  -- the types of a row that was typed are set, its own too
  typed_set : (i : Item) → ItemLess k l know i → RowAt (length first_names) l.names i (under_of k i) → DeclAgrees (IsSet l.names) (decl_of k i)
  typed_set (type_item n number e) h a = set_there number (type_found k e) a
  typed_set (constant_item n j u y all) h a = decl_more (IsSet k.names) (IsSet l.names) (set_grows k.names l.names know.grows) (decl_of k (constant_item n j u y all)) h.agrees
  typed_set (alias_item n e) h a = decl_more (IsSet k.names) (IsSet l.names) (set_grows k.names l.names know.grows) (decl_of k (alias_item n e)) h.agrees
  typed_set (function_item n id s) h a = decl_more (IsSet k.names) (IsSet l.names) (set_grows k.names l.names know.grows) (decl_of k (function_item n id s)) h.agrees
  typed_set (variable_item n) h a = tt
  typed_set (init_item n) h a = tt

  typed_known : (r : Row) → RowAt (length first_names) l.names r.item (under_of k r.item) → RowKnown l (typed_row k r)
  typed_known r a = record {
    less = what_less k l know r.item;
    under = under_less k l know r.item;
    agrees = typed_set r.item (item_less k l know r.item) a;
  }

  all_known : (n : ℕ) (rs : List Row) → AllRows (RowKnown k) rs → AllAt (length first_names) l.names (typed_at k n rs) → AllRows (RowKnown l) (typed_at k n rs)
  all_known n [] h a = tt
  all_known zero (r ∷ rs) h a = (typed_known r a.0, all_rows (RowKnown k) (RowKnown l) stays_known rs h.1)
  all_known (suc n) (r ∷ rs) h a = (stays_known r h.0, all_known n rs h.1 a.1)

  typed_below : (n : ℕ) (rs : List Row) → AllRows (RowBelow l) rs → AllRows (RowBelow l) (typed_at k n rs)
  typed_below n [] h = tt
  typed_below zero (r ∷ rs) h = (record { less = what_less k l know r.item; under = under_less k l know r.item }, h.1)
  typed_below (suc n) (r ∷ rs) h = (h.0, typed_below n rs h.1)

one_more : (l : Known) (is : List Item) (m : ℕ) → NumberedTo 0 is m → round is l ≡ l → (n : ℕ) (rs : List Row) → Rows l is rs → Rows l is (one_typed n rs)
one_more l is m numbered e n rs h = record {
  items = same;
  known = all_known (known_by rs) (known_by (one_typed n rs)) know n rs h.known placed;
  below = typed_below (known_by rs) l (below_all l is e rs h) n rs h.below;
}
  where
    same : items_in (one_typed n rs) ≡ is
    same = typed_items (known_by rs) n rs ∙ h.items

    know : KnowsLess (known_by rs) (known_by (one_typed n rs))
    know = rows_know rs (one_typed n rs) (step_less (known_by rs) n rs h.known) (agree_all (known_by rs) rs h.known)

    placed : AllAt (length first_names) (first_names ++ types_by (one_typed n rs)) (one_typed n rs)
    placed = rows_at (length first_names) 0 m first_names (one_typed n rs) refl (subst (λ (js : List Item). NumberedTo 0 js m) (sym same) numbered)

after_all : (l : Known) (is : List Item) (m : ℕ) → NumberedTo 0 is m → round is l ≡ l → (ns : List ℕ) (rs : List Row) → Rows l is rs → Rows l is (rows_after ns rs)
after_all l is m numbered e [] rs h = h
after_all l is m numbered e (n ∷ ns) rs h = after_all l is m numbered e ns (one_typed n rs) (one_more l is m numbered e n rs h)

-- ---- the end

row_same : (k : Known) (r : Row) → r.what ≡ decl_of k r.item → r.under ≡ under_of k r.item → r ≡ typed_row k r
row_same k r h g =
    ap (λ (d : Decl). record { item = r.item; what = d; under = r.under }) h
    ∙ ap (λ (o : Option Ty). record { item = r.item; what = decl_of k r.item; under = o }) g

done_what : (d e : Decl) → LessDecl d e → (d ≡ unknown → e ≡ unknown) → d ≡ e
done_what d e (inr h) f = h
done_what d e (inl h) f = h ∙ sym (f h)

not_unknown : (u : Ty) → type_name u ≡ unknown → ⊥
not_unknown u h = let e : is_unknown (type_name u) ≡ is_unknown unknown = ap is_unknown h in let f : false ≡ true = e in cc

-- a type that is typed is set
done_type : (k : Known) (number : ℕ) (d : Decl) (o : Option Ty) (f : Option Ty) → d ≡ type_decl (named_type number) f → DeclAgrees (IsSet k.names) d → under_at k.names (length first_names + number) ≡ o
    → o ≡ None → None ≡ option_map (underlying k.names) f
done_type k number d o None h a p q = refl
done_type k number d o (Some u) h a p q =
    let set : IsSet k.names (length first_names + number) = subst (DeclAgrees (IsSet k.names)) h a in
    let e : None ≡ Some set.0 = sym q ∙ sym p ∙ set.1 in cc

done_under : (k : Known) (i : Item) (d : Decl) (o : Option Ty) → d ≡ decl_of k i → LessUnder o (under_of k i) → DeclAgrees (IsSet k.names) d → RowAt (length first_names) k.names i o → o ≡ under_of k i
done_under k i d o h (inr g) a p = g
done_under k (type_item n number e) d o h (inl g) a p = g ∙ done_type k number d o (type_found k e) h a p g
done_under k (constant_item n j u y all) d o h (inl g) a p = g
done_under k (alias_item n e) d o h (inl g) a p = g
done_under k (function_item n id s) d o h (inl g) a p = g
done_under k (variable_item n) d o h (inl g) a p = g
done_under k (init_item n) d o h (inl g) a p = g

pub record RowDone (k : Known) (r : Row) : Type 0 where
  pub what : r.what ≡ decl_of k r.item
  pub under : r.under ≡ under_of k r.item

done_all : (k : Known) (rs : List Row) → AllRows (RowKnown k) rs → AllAt (length first_names) k.names rs → IsDone k rs → AllRows (RowDone k) rs
done_all k [] h a d = tt
done_all k (r ∷ rs) h a d = (one (done_what r.what (decl_of k r.item) h.0.less d.0), done_all k rs h.1 a.1 d.1)
  where
    one : r.what ≡ decl_of k r.item → RowDone k r
    one e = record { what = e; under = done_under k r.item r.what r.under e h.0.under h.0.agrees a.0 }

rows_done : (k : Known) (rs : List Row) → AllRows (RowDone k) rs → rs ≡ typed_rows k rs
rows_done k [] h = refl
rows_done k (r ∷ rs) h = ap (λ (s : Row). s ∷ rs) (row_same k r h.0.what h.0.under) ∙ ap (λ (ss : List Row). typed_row k r ∷ ss) (rows_done k rs h.1)

-- as by what knows more, and below that: the same
both_done : (k l : Known) → KnowsLess l k → (rs : List Row) → AllRows (RowDone k) rs → AllRows (RowBelow l) rs → AllRows (RowDone l) rs
both_done k l know [] h b = tt
both_done k l know (r ∷ rs) h b = (
  record {
    what = decl_both r.what (decl_of l r.item) b.0.less (decl_through (decl_of l r.item) (decl_of k r.item) r.what (what_less l k know r.item) (inr (sym h.0.what)));
    under = under_both r.under (under_of l r.item) b.0.under (under_through (under_of l r.item) (under_of k r.item) r.under (under_less l k know r.item) (inr (sym h.0.under)));
  },
  both_done k l know rs h.1 b.1,
)

by_rounds : (k : Known) (is : List Item) (rs : List Row) → items_in rs ≡ is → rs ≡ typed_rows k rs → known_by rs ≡ round is k
by_rounds k is rs h e = ap known_by e ∙ typed_round k rs ∙ ap (λ (js : List Item). round js k) h

pub reaches_known : ReachesKnown
reaches_known ds ns done = by_rounds l is rs all.items (rows_done l rs (both_done k l least rs ended all.below)) ∙ is_fixed ds
  where
    is : List Item
    is = items_of ds

    l : Known
    l = known is

    rs : List Row
    rs = rows_after ns (unset_rows is)

    k : Known
    k = known_by rs

    numbered : NumberedTo 0 is (items_numbered ds).last
    numbered = let r = items_numbered ds in r.numbered

    all : Rows l is rs
    all = after_all l is (items_numbered ds).last numbered (is_fixed ds) ns (unset_rows is) (at_first l is)

    placed : AllAt (length first_names) (first_names ++ types_by rs) rs
    placed = rows_at (length first_names) 0 (items_numbered ds).last first_names rs refl (subst (λ (js : List Item). NumberedTo 0 js (items_numbered ds).last) (sym all.items) numbered)

    ended : AllRows (RowDone k) rs
    ended = done_all k rs all.known placed done

    still : round is k ≡ k
    still = sym (by_rounds k is rs all.items (rows_done k rs ended))

    least : KnowsLess l k
    least = below is (items_numbered ds).last numbered k still (length is)

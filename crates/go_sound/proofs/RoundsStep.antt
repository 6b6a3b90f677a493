-- A round of what is known, from one that knows less: what it gives knows less.
use Rattle.std.proofs.Common.{◌≡◌, ◌⊎◌, inl, inr, ℕ, ◌+◌, length, List, [], ◌++◌, refl, sym, subst, ap, ◌∙◌, Option, Some, None, option_map}
use Rattle.go_syntax.specs.Tree as t
use Rattle.go_type.specs.Tree.{Ty}
use Rattle.go_type.specs.Named.{NamedTy}
use Rattle.go_type.specs.Underlying.{underlying, under_at}
use Rattle.go_typing.specs.Env.{Decl, unknown, Bind, find}
use Rattle.go_typing.specs.Items.{Item, constant_item, type_item, alias_item, function_item, variable_item, init_item}
use Rattle.go_typing.specs.Known.{Known, first_names, named_type, type_found, type_decl, decl_of, named_by, unset, round, nothing_known}
use Rattle.go_sound.proofs.AgreeTyping.{DeclAgrees, OptionAgrees}
use Rattle.go_sound.proofs.KnownWords.{AllItems, all_items, every_item, all_both, fill, binds_filled, alone_filled, nothing, LessDecl, fill_less, found_less, OfOption, fill_all, found_all, under_found, named_filled, unset_filled, no_type, types_from, OfType, LessUnder, names_less, types_less, first_less, NumberedTo, IsAt, all_at}
use Rattle.go_sound.proofs.Grown.{IsSet, KnowsLess, set_grows, decl_more, ItemLess, item_less}

-- ---- the state that declarations and types make

abbrev pub state : (Item → Decl) → (t.Expr → Option Ty) → List Item → Known
state f g is = record { binds = fill f is []; names = first_names ++ types_from g is }

abbrev pub known_of : List Bind → List NamedTy → Known
known_of bs ns = record { binds = bs; names = first_names ++ ns }

pub round_state : (k : Known) (is : List Item) → round is k ≡ state (decl_of k) (under_found k) is
round_state k is =
    ap (λ (bs : List Bind). known_of (bs) (named_by k is)) (binds_filled k is [])
    ∙ ap (λ (ns : List NamedTy). known_of (fill (decl_of k) is []) (ns)) (named_filled k is)

pub nothing_state : (is : List Item) → nothing_known is ≡ state nothing no_type is
nothing_state is =
    ap (λ (bs : List Bind). known_of (bs) (unset is)) (alone_filled is [])
    ∙ ap (λ (ns : List NamedTy). known_of (fill nothing is []) (ns)) (unset_filled is)

-- ---- one knows less

found_placed : (k : Known) (ns : List NamedTy) (number : ℕ) (o : Option Ty) → under_at ns (length first_names + number) ≡ option_map (underlying k.names) o → DeclAgrees (IsSet ns) (type_decl (named_type number) o)
found_placed k ns number None h = tt
found_placed k ns number (Some u) h = (underlying k.names u, h)

-- the declarations of a round speak of types that are set in it
declared_set : (k : Known) (ns : List NamedTy) → ((id : ℕ) → IsSet k.names id → IsSet ns id) → (l : Known) (know : KnowsLess k l) (i : Item)
    → ItemLess k l know i → IsAt (under_found k) (length first_names) ns i → DeclAgrees (IsSet ns) (decl_of k i)
declared_set k ns g l know (type_item n number e) h a = found_placed k ns number (type_found k e) a
declared_set k ns g l know (constant_item n j u y all) h a = decl_more (IsSet k.names) (IsSet ns) g (decl_of k (constant_item n j u y all)) h.agrees
declared_set k ns g l know (alias_item n e) h a = decl_more (IsSet k.names) (IsSet ns) g (decl_of k (alias_item n e)) h.agrees
declared_set k ns g l know (function_item n id s) h a = decl_more (IsSet k.names) (IsSet ns) g (decl_of k (function_item n id s)) h.agrees
declared_set k ns g l know (variable_item n) h a = tt
declared_set k ns g l know (init_item n) h a = tt

under_less : (k l : Known) (know : KnowsLess k l) (i : Item) → ItemLess k l know i → OfType (λ (e : t.Expr). LessUnder (under_found k e) (under_found l e)) i
under_less k l know (type_item n number e) h = by_case h.types
  where
    by_case : (type_found k e ≡ None) ⊎ (type_found k e ≡ type_found l e) × (under_found k e ≡ under_found l e) → LessUnder (under_found k e) (under_found l e)
    by_case (inl f) = inl (ap (option_map (underlying k.names)) f)
    by_case (inr f) = inr f.1
under_less k l know (constant_item n j u y all) h = tt
under_less k l know (alias_item n e) h = tt
under_less k l know (function_item n id s) h = tt
under_less k l know (variable_item n) h = tt
under_less k l know (init_item n) h = tt

option_set : (ns : List NamedTy) (o : Option Decl) → OfOption (DeclAgrees (IsSet ns)) o → OptionAgrees (IsSet ns) o
option_set ns None h = tt
option_set ns (Some d) h = h

-- of two states that are made of items, one item's declaration and type after the other
pub states_less : (f h : Item → Decl) (g j : t.Expr → Option Ty) (is : List Item) → AllItems (λ (i : Item). LessDecl (f i) (h i)) is
    → AllItems (OfType (λ (e : t.Expr). LessUnder (g e) (j e))) is → AllItems (λ (i : Item). DeclAgrees (IsSet (first_names ++ types_from g is)) (f i)) is → KnowsLess (state f g is) (state h j is)
states_less f h g j is a b c = record {
  less = λ x. found_less x (fill f is []) (fill h is []) (fill_less f h is [] [] a tt);
  set = λ x. option_set (first_names ++ types_from g is) (find x (fill f is [])) (found_all (DeclAgrees (IsSet (first_names ++ types_from g is))) x (fill f is []) (fill_all (DeclAgrees (IsSet (first_names ++ types_from g is))) f is [] c tt));
  grows = λ id. names_less (first_names ++ types_from g is) (first_names ++ types_from j is) id (first_less first_names (types_from g is) (types_from j is) (types_less g j is b));
}

-- a round keeps what is less, where it forgets no type
pub round_less : (is : List Item) (m : ℕ) → NumberedTo 0 is m → (k l : Known) → KnowsLess k l → ((id : ℕ) → LessUnder (under_at k.names id) (under_at (round is k).names id)) → KnowsLess (round is k) (round is l)
round_less is m numbered k l know grown =
    subst (λ (a : Known). KnowsLess a (round is l)) (sym (round_state k is)) (subst (KnowsLess (state (decl_of k) (under_found k) is)) (sym (round_state l is))
    (states_less (decl_of k) (decl_of l) (under_found k) (under_found l) is
    (all_items (ItemLess k l know) (λ (i : Item). LessDecl (decl_of k i) (decl_of l i)) (λ i h. h.less) is items)
    (all_items (ItemLess k l know) (OfType (λ (e : t.Expr). LessUnder (under_found k e) (under_found l e))) (λ i h. under_less k l know i h) is items)
    (all_both (ItemLess k l know) (IsAt (under_found k) (length first_names) made) (λ (i : Item). DeclAgrees (IsSet made) (decl_of k i)) (λ i h a. declared_set k made kept l know i h a) is items placed)))
  where
    made : List NamedTy
    made = first_names ++ types_from (under_found k) is

    items : AllItems (ItemLess k l know) is
    items = every_item (ItemLess k l know) (item_less k l know) is

    placed : AllItems (IsAt (under_found k) (length first_names) made) is
    placed = all_at (under_found k) (length first_names) 0 m first_names is refl numbered

    same_names : (round is k).names ≡ made
    same_names = ap (λ (a : Known). a.names) (round_state k is)

    kept : (id : ℕ) → IsSet k.names id → IsSet made id
    kept id h = set_grows k.names made (λ j. subst (λ (ns : List NamedTy). LessUnder (under_at k.names j) (under_at ns j)) same_names (grown j)) id h

-- nothing is known at first
nothing_types : (g : t.Expr → Option Ty) (i : Item) → OfType (λ (e : t.Expr). LessUnder (no_type e) (g e)) i
nothing_types g (type_item n number e) = inl refl
nothing_types g (constant_item n j u y all) = tt
nothing_types g (alias_item n e) = tt
nothing_types g (function_item n id s) = tt
nothing_types g (variable_item n) = tt
nothing_types g (init_item n) = tt

pub first_less_round : (is : List Item) (l : Known) → KnowsLess (nothing_known is) (round is l)
first_less_round is l =
    subst (λ (a : Known). KnowsLess a (round is l)) (sym (nothing_state is)) (subst (KnowsLess (state nothing no_type is)) (sym (round_state l is))
    (states_less nothing (decl_of l) no_type (under_found l) is (every_item (λ (i : Item). LessDecl unknown (decl_of l i)) (λ i. inl refl) is)
    (every_item (OfType (λ (e : t.Expr). LessUnder (no_type e) (under_found l e))) (λ i. nothing_types (under_found l) i) is)
    (every_item (λ (i : Item). DeclAgrees (IsSet (first_names ++ types_from no_type is)) unknown) (λ i. tt) is)))

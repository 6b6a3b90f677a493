-- A node is typed, or a fault is told of it, where each name that it needs is typed.
use Rattle.std.proofs.Common.{◌≡◌, ◌⊎◌, inl, inr, ℕ, pos, List, [], ◌∷◌, ◌++◌, ◌&&◌, refl, sym, subst, ap, ◌∙◌, Bool, true, false, Option, Some, None, if◌then◌else◌, bytes_eq, codes}
use Rattle.gj_base.specs.declared.place.Place.{Place}
use Rattle.go_syntax.specs.Tree.{Expr, NameExpr, IntExpr, RuneExpr, StrExpr, ParenExpr, UnaryExpr, BinaryExpr, IndexExpr, SliceExpr, CallExpr, MaybeExpr, NoExpr, AnExpr, Exprs, NoExprs, MoreExprs}
use Rattle.go_syntax.specs.declared.tree.Prefix.{Prefix}
use Rattle.go_syntax.specs.declared.tree.Prefix.TheVariants as «prefix»
use Rattle.go_const.specs.declared.constant.Const.TheVariants as form
use Rattle.go_type.specs.declared.types.Basis.TheVariants as basis
use Rattle.go_type.specs.Tree as ty
use Rattle.go_type.specs.Named.{NamedTy}
use Rattle.go_typing.specs.Env.{Len, Print, Println, Decl, constant, unknown, Bind, find, lookup, or_in, is_blank}
use Rattle.go_typing.specs.Answer.{Flaw, blank, is_known, all_known, own, Part}
use Rattle.go_typing.specs.Operand.{single}
use Rattle.go_typing.specs.Index.{is_known_bound, bound_no_value, edge_of}
use Rattle.go_typing.specs.Typing.{Callee, a_function, a_built_in, by_value, declared_callee, callee_of, declared_row, place_of, typing, flaws, bound_flaws, all_flaws, bound_part, parts, prefix_row, call_row, is_built_prefix, where_true, call_flaws}
use Rattle.go_typing.specs.Declare.{with_iota}
use Rattle.go_typing.specs.Cycles.{call_needs, needed, needed_bound, needed_all, is_among}
use Rattle.go_sound.proofs.RoundsEnd.{is_unknown, unknown_is}
use Rattle.go_sound.proofs.Decided.{IsDecided, decided, index_decided, slice_decided}
use Rattle.go_sound.proofs.NothingLost.{Either, both_either, four, outcome, by_parts, declared_decided, paren_either, prefix_either, operator_either, function_either, built_in_either, value_either}
use Rattle.go_sound.proofs.Circles.{bytes_same, or_first, or_second}

-- ---- names that aren't typed

module _ (ss : List (List Bind)) where
  abbrev pub NoneUnknown : List (List ℕ) → Type 0
  NoneUnknown [] = Unit {0}
  NoneUnknown (x ∷ xs) = (lookup x ss ≡ Some unknown → ⊥) × NoneUnknown xs

  pub none_left : (xs ys : List (List ℕ)) → NoneUnknown (xs ++ ys) → NoneUnknown xs
  none_left [] ys h = tt
  none_left (x ∷ xs) ys h = (h.0, none_left xs ys h.1)

  pub none_right : (xs ys : List (List ℕ)) → NoneUnknown (xs ++ ys) → NoneUnknown ys
  none_right [] ys h = h
  none_right (x ∷ xs) ys h = none_right xs ys h.1

  abbrev is_lost : Option Decl → Bool
  is_lost None = false
  is_lost (Some d) = is_unknown d

  lost_is : (o : Option Decl) → is_lost o ≡ true → o ≡ Some unknown
  lost_is None h = let e : false ≡ true = h in cc
  lost_is (Some d) h = ap (λ (e : Decl). Some e) (unknown_is d h)

  -- one of them isn't typed, or none
  pub either_unknown : (xs : List (List ℕ)) → NoneUnknown xs ⊎ (y : List ℕ) × (is_among y xs ≡ true) × (lookup y ss ≡ Some unknown)
  either_unknown [] = inl tt
  either_unknown (x ∷ xs) = by_test (is_lost (lookup x ss)) refl (either_unknown xs)
    where
      by_test : (b : Bool) → is_lost (lookup x ss) ≡ b → NoneUnknown xs ⊎ (y : List ℕ) × (is_among y xs ≡ true) × (lookup y ss ≡ Some unknown) → NoneUnknown (x ∷ xs) ⊎ (y : List ℕ) × (is_among y (x ∷ xs) ≡ true) × (lookup y ss ≡ Some unknown)
      by_test true e h = inr (x, or_first (bytes_eq x x) (is_among x xs) (bytes_same x), lost_is (lookup x ss) e)
      by_test false e (inl h) = inl (λ f. let g : false ≡ true = sym e ∙ ap is_lost f in cc, h)
      by_test false e (inr h) = inr (h.0, or_second (bytes_eq x h.0) (is_among h.0 xs) h.1, h.2)

-- ---- nodes, typed in ts; their names stand in ss, but for `iota`

module _ (ns : List NamedTy) (ss ts : List (List Bind)) (callees : (f : Expr) → callee_of ts f ≡ callee_of ss f) (lost : (x : List ℕ) → lookup x ts ≡ Some unknown → lookup x ss ≡ Some unknown) where
  abbrev part : Expr → Part
  part x = record { place = place_of x; answer = typing ns ts x }

  name_known : (at : Place) (x : List ℕ) (c : Bool) → NoneUnknown ss (if c then [] else x ∷ []) → IsDecided (if c then blank else declared_row at x (lookup x ts))
  name_known at x true n = decided _ tt
  name_known at x false n = declared_decided at x (lookup x ts) (λ e. n.0 (lost x e))

  prefix_known : (at : Place) (op : Prefix) (x : Expr) → NoneUnknown ss (if is_built_prefix op then needed ss x else []) → (NoneUnknown ss (needed ss x) → Either (is_known (typing ns ts x)) (flaws ns ts x))
      → Either (is_known (prefix_row ns at op (part x))) (where_true (is_built_prefix op) (flaws ns ts x) ++ own (prefix_row ns at op (part x)))
  prefix_known at «prefix».Plus x n f = prefix_either ns at «prefix».Plus (part x) (flaws ns ts x) (f n)
  prefix_known at «prefix».Neg x n f = prefix_either ns at «prefix».Neg (part x) (flaws ns ts x) (f n)
  prefix_known at «prefix».Not x n f = prefix_either ns at «prefix».Not (part x) (flaws ns ts x) (f n)
  prefix_known at «prefix».Compl x n f = prefix_either ns at «prefix».Compl (part x) (flaws ns ts x) (f n)
  prefix_known at «prefix».Star x n f = inr (_, inl refl)
  prefix_known at «prefix».Address x n f = inr (_, inl refl)
  prefix_known at «prefix».Receive x n f = inr (_, inl refl)

  call_known : (at : Place) (c : Callee) (f : Part) (spread : Bool) (xs : List Part) (gs fs : List Flaw) (nf nx : List (List ℕ)) → NoneUnknown ss (call_needs c nf nx) → (NoneUnknown ss nf → Either (is_known f.answer) gs)
      → (NoneUnknown ss nx → Either (all_known xs) fs) → Either (is_known (call_row ns at c f spread xs)) (call_flaws c gs fs ++ own (call_row ns at c f spread xs))
  call_known at (a_function id ps rs v) f spread xs gs fs nf nx n h k = function_either ns at id ps rs v spread xs fs (k (none_right ss nf nx n))
  call_known at (a_built_in Len) f spread xs gs fs nf nx n h k = built_in_either ns at Len spread xs fs (k n)
  call_known at (a_built_in Print) f spread xs gs fs nf nx n h k = built_in_either ns at Print spread xs fs (k n)
  call_known at (a_built_in Println) f spread xs gs fs nf nx n h k = built_in_either ns at Println spread xs fs (k n)
  call_known at (a_built_in _) f spread xs gs fs nf nx n h k = inr (_, inl refl)
  call_known at by_value f spread xs gs fs nf nx n h k = value_either ns at f spread xs gs fs (h (none_left ss nf nx n)) (k (none_right ss nf nx n))

  mutual
    pub nodes : (e : Expr) → NoneUnknown ss (needed ss e) → Either (is_known (typing ns ts e)) (flaws ns ts e)
    nodes (NameExpr at x) n = outcome (typing ns ts (NameExpr at x)) (name_known at x (is_blank x) n)
    nodes (IntExpr at x) n = inl refl
    nodes (RuneExpr at x) n = inl refl
    nodes (StrExpr at x) n = inl refl
    nodes (ParenExpr at x) n = paren_either (typing ns ts x) (flaws ns ts x) (nodes x n)
    nodes (UnaryExpr at op x) n = prefix_known at op x n (λ m. nodes x m)
    nodes (BinaryExpr at x op y) n =
        operator_either ns at op (part x) (part y) (flaws ns ts x ++ flaws ns ts y) (both_either (is_known (typing ns ts x)) (is_known (typing ns ts y)) (flaws ns ts x) (flaws ns ts y) (nodes x (none_left ss (needed ss x) (needed ss y) n)) (nodes y (none_right ss (needed ss x) (needed ss y) n)))
    nodes (IndexExpr at x y) n =
        by_parts (is_known (typing ns ts x) && is_known (typing ns ts y)) _ (flaws ns ts x ++ flaws ns ts y)
        (both_either (is_known (typing ns ts x)) (is_known (typing ns ts y)) (flaws ns ts x) (flaws ns ts y) (nodes x (none_left ss (needed ss x) (needed ss y) n)) (nodes y (none_right ss (needed ss x) (needed ss y) n)))
        (index_decided ns at (place_of x) (single (typing ns ts x)) (place_of y) (single (typing ns ts y)))
    nodes (SliceExpr at x l h m) n =
        by_parts (is_known (typing ns ts x) && is_known_bound (bound_part ns ts l) && is_known_bound (bound_part ns ts h) && is_known_bound (bound_part ns ts m)) _
        (flaws ns ts x ++ (bound_flaws ns ts l ++ (bound_flaws ns ts h ++ bound_flaws ns ts m)))
        (four (is_known (typing ns ts x)) (is_known_bound (bound_part ns ts l)) (is_known_bound (bound_part ns ts h)) (is_known_bound (bound_part ns ts m)) (flaws ns ts x) (bound_flaws ns ts l) (bound_flaws ns ts h) (bound_flaws ns ts m)
        (nodes x (none_left ss (needed ss x) (needed_bound ss l) (none_left ss (needed ss x ++ needed_bound ss l) (needed_bound ss h) (none_left ss (needed ss x ++ needed_bound ss l ++ needed_bound ss h) (needed_bound ss m) n))))
        (bounds l (none_right ss (needed ss x) (needed_bound ss l) (none_left ss (needed ss x ++ needed_bound ss l) (needed_bound ss h) (none_left ss (needed ss x ++ needed_bound ss l ++ needed_bound ss h) (needed_bound ss m) n))))
        (bounds h (none_right ss (needed ss x ++ needed_bound ss l) (needed_bound ss h) (none_left ss (needed ss x ++ needed_bound ss l ++ needed_bound ss h) (needed_bound ss m) n)))
        (bounds m (none_right ss (needed ss x ++ needed_bound ss l ++ needed_bound ss h) (needed_bound ss m) n)))
        (slice_decided ns at (place_of x) (single (typing ns ts x)) (bound_no_value (bound_part ns ts l) ++ bound_no_value (bound_part ns ts h) ++ bound_no_value (bound_part ns ts m))
        (edge_of ns (bound_part ns ts l)) (edge_of ns (bound_part ns ts h)) (edge_of ns (bound_part ns ts m)))
    nodes (CallExpr at f xs spread) n =
        call_known at (callee_of ts f) (part f) spread (parts ns ts xs) (flaws ns ts f) (all_flaws ns ts xs) (needed ss f) (needed_all ss xs)
        (subst (λ (c : Callee). NoneUnknown ss (call_needs c (needed ss f) (needed_all ss xs))) (sym (callees f)) n) (λ m. nodes f m) (λ m. all_nodes xs m)
    nodes _ n = inr (_, inl refl)

    bounds : (b : MaybeExpr) → NoneUnknown ss (needed_bound ss b) → Either (is_known_bound (bound_part ns ts b)) (bound_flaws ns ts b)
    bounds NoExpr n = inl refl
    bounds (AnExpr x) n = nodes x n

    pub all_nodes : (es : Exprs) → NoneUnknown ss (needed_all ss es) → Either (all_known (parts ns ts es)) (all_flaws ns ts es)
    all_nodes NoExprs n = inl refl
    all_nodes (MoreExprs x xs) n =
        both_either (is_known (typing ns ts x)) (all_known (parts ns ts xs)) (flaws ns ts x) (all_flaws ns ts xs) (nodes x (none_left ss (needed ss x) (needed_all ss xs) n)) (all_nodes xs (none_right ss (needed ss x) (needed_all ss xs) n))

-- ---- `iota` changes nothing else

abbrev pub iota_decl : ℕ → Decl
iota_decl n = constant (form.Int (pos n)) (ty.untyped basis.Int)

iota_found : (x : List ℕ) (n : ℕ) (s : List Bind) (b : Bind) → (find x (s ++ b ∷ []) ≡ find x s) ⊎ (find x s ≡ None) × (find x (s ++ b ∷ []) ≡ Some b.what)
iota_found x n [] b = by_test (bytes_eq b.name x)
  where
    by_test : (c : Bool) → ((if c then Some b.what else None) ≡ None) ⊎ (find x [] ≡ None) × ((if c then Some b.what else None) ≡ Some b.what)
    by_test true = inr (refl, refl)
    by_test false = inl refl
iota_found x n (d ∷ s) b = by_test (bytes_eq d.name x) (iota_found x n s b)
  where
    by_test : (c : Bool) → (find x (s ++ b ∷ []) ≡ find x s) ⊎ (find x s ≡ None) × (find x (s ++ b ∷ []) ≡ Some b.what)
        → ((if c then Some d.what else find x (s ++ b ∷ [])) ≡ (if c then Some d.what else find x s)) ⊎ ((if c then Some d.what else find x s) ≡ None) × ((if c then Some d.what else find x (s ++ b ∷ [])) ≡ Some b.what)
    by_test true h = inl refl
    by_test false h = h

pub iota_looked_up : (x : List ℕ) (n : ℕ) (ss : List (List Bind)) → (lookup x (with_iota n ss) ≡ lookup x ss) ⊎ (lookup x ss ≡ None) × (lookup x (with_iota n ss) ≡ Some (iota_decl n))
iota_looked_up x n [] = inl refl
iota_looked_up x n (s ∷ ss) = by_found (lookup x ss) (iota_found x n s (record { name = codes "iota"; place = record { file = 0; offset = 0 }; what = iota_decl n }))
  where
    b : Bind
    b = record { name = codes "iota"; place = record { file = 0; offset = 0 }; what = iota_decl n }

    by_found : (o : Option Decl) → (find x (s ++ b ∷ []) ≡ find x s) ⊎ (find x s ≡ None) × (find x (s ++ b ∷ []) ≡ Some (iota_decl n))
        → (or_in o (find x (s ++ b ∷ [])) ≡ or_in o (find x s)) ⊎ (or_in o (find x s) ≡ None) × (or_in o (find x (s ++ b ∷ [])) ≡ Some (iota_decl n))
    by_found (Some d) h = inl refl
    by_found None h = h

pub iota_lost : (n : ℕ) (ss : List (List Bind)) (x : List ℕ) → lookup x (with_iota n ss) ≡ Some unknown → lookup x ss ≡ Some unknown
iota_lost n ss x h = by_case (iota_looked_up x n ss)
  where
    by_case : (lookup x (with_iota n ss) ≡ lookup x ss) ⊎ (lookup x ss ≡ None) × (lookup x (with_iota n ss) ≡ Some (iota_decl n)) → lookup x ss ≡ Some unknown
    by_case (inl e) = sym e ∙ h
    by_case (inr e) = let f : false ≡ true = ap (is_lost ss) (sym e.1 ∙ h) in cc

pub iota_callees : (n : ℕ) (ss : List (List Bind)) (f : Expr) → callee_of (with_iota n ss) f ≡ callee_of ss f
iota_callees n ss (NameExpr at x) = ap (λ (c : Callee). if is_blank x then by_value else c) (by_case (iota_looked_up x n ss))
  where
    by_case : (lookup x (with_iota n ss) ≡ lookup x ss) ⊎ (lookup x ss ≡ None) × (lookup x (with_iota n ss) ≡ Some (iota_decl n)) → declared_callee (lookup x (with_iota n ss)) ≡ declared_callee (lookup x ss)
    by_case (inl e) = ap declared_callee e
    by_case (inr e) = ap declared_callee e.1 ∙ sym (ap declared_callee e.0)
iota_callees n ss (ParenExpr at x) = iota_callees n ss x
iota_callees n ss _ = refl

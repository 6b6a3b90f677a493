-- What is typed stays so as more declarations are typed.
use Rattle.std.proofs.Common.{◌≡◌, ◌⊎◌, inl, inr, ℕ, List, ◌∷◌, ◌&&◌, refl, subst, ap, ◌∙◌, Bool, true, false, Option, Some, if◌then◌else◌}
use Rattle.gj_base.specs.declared.place.Place.{Place}
use Rattle.go_syntax.specs.Tree.{Expr, NameExpr, ParenExpr, UnaryExpr, BinaryExpr, IndexExpr, SliceExpr, CallExpr, MaybeExpr, NoExpr, AnExpr, Exprs, NoExprs, MoreExprs}
use Rattle.go_syntax.specs.declared.tree.Prefix.{Prefix}
use Rattle.go_syntax.specs.declared.tree.Prefix.TheVariants as «prefix»
use Rattle.go_type.specs.Named.{NamedTy}
use Rattle.go_typing.specs.Env.{Decl, Bind, Builtin, unknown, lookup, is_blank}
use Rattle.go_typing.specs.Answer.{Answer, blank, untyped_part, is_known, all_known, Part}
use Rattle.go_typing.specs.Index.{is_known_bound, index_row, slice_row}
use Rattle.go_typing.specs.Call.{is_built, function_row, built_in_row, called_row}
use Rattle.go_typing.specs.Typing.{Callee, a_function, a_built_in, by_value, callee_of, declared_callee, declared_row, place_of, typing, bound_part, parts, paren_row, prefix_row, operator_row, call_row}
use Rattle.go_typing.specs.Unknown.{LessKnown, Less, StaysTyped}
use Rattle.go_typing.proofs.Around.{where_false, first_false, second_false, operator_false, function_false, called_false, called_all_false}

-- a part at a place
abbrev part_at : Place → Answer → Part
part_at p a = record { place = p; answer = a }

not_known : (a : Answer) → a ≡ untyped_part → is_known a ≡ false
not_known a h = ap is_known h

paren_less : (a b : Answer) → Less a b → Less (paren_row a) (paren_row b)
paren_less a b (inl h) = inl (ap paren_row h)
paren_less a b (inr h) = inr (ap paren_row h)

-- a row that is strict in its part
strict_less : (row : Answer → Answer) → row untyped_part ≡ untyped_part → (a b : Answer) → Less a b → Less (row a) (row b)
strict_less row s a b (inl h) = inl (ap row h ∙ s)
strict_less row s a b (inr h) = inr (ap row h)

prefix_less : (ns : List NamedTy) (at p : Place) (op : Prefix) (a b : Answer) → Less a b → Less (prefix_row ns at op (part_at p a)) (prefix_row ns at op (part_at p b))
prefix_less ns at p «prefix».Plus a b l = strict_less (λ (c : Answer). prefix_row ns at «prefix».Plus (part_at p c)) refl a b l
prefix_less ns at p «prefix».Neg a b l = strict_less (λ (c : Answer). prefix_row ns at «prefix».Neg (part_at p c)) refl a b l
prefix_less ns at p «prefix».Not a b l = strict_less (λ (c : Answer). prefix_row ns at «prefix».Not (part_at p c)) refl a b l
prefix_less ns at p «prefix».Compl a b l = strict_less (λ (c : Answer). prefix_row ns at «prefix».Compl (part_at p c)) refl a b l
prefix_less ns at p «prefix».Star a b l = inr refl
prefix_less ns at p «prefix».Address a b l = inr refl
prefix_less ns at p «prefix».Receive a b l = inr refl

-- two parts
two_less : (row : Part → Part → Answer) → ((x y : Part) → (is_known x.answer && is_known y.answer) ≡ false → row x y ≡ untyped_part)
    → (p q : Place) (a b c d : Answer) → Less a b → Less c d → Less (row (part_at p a) (part_at q c)) (row (part_at p b) (part_at q d))
two_less row s p q a b c d (inl h) m = inl (s (part_at p a) (part_at q c) (first_false (is_known a) (is_known c) (not_known a h)))
two_less row s p q a b c d (inr h) (inl k) = inl (s (part_at p a) (part_at q c) (second_false (is_known a) (is_known c) (not_known c k)))
two_less row s p q a b c d (inr h) (inr k) = inr (ap (λ (e : Answer). row (part_at p e) (part_at q c)) h ∙ ap (λ (e : Answer). row (part_at p b) (part_at q e)) k)

-- several parts
abbrev AllLess : List Part → List Part → Type 0
AllLess xs ys = (all_known xs ≡ false) ⊎ (xs ≡ ys)

abbrev BoundLess : Option Part → Option Part → Type 0
BoundLess x y = (is_known_bound x ≡ false) ⊎ (x ≡ y)

all_less : (row : List Part → Answer) → ((xs : List Part) → all_known xs ≡ false → row xs ≡ untyped_part) → (xs ys : List Part) → AllLess xs ys → Less (row xs) (row ys)
all_less row s xs ys (inl h) = inl (s xs h)
all_less row s xs ys (inr h) = inr (ap row h)

built_in_less : (ns : List NamedTy) (at : Place) (b : Builtin) (s : Bool) (xs ys : List Part) → AllLess xs ys → Less (built_in_row ns at b s xs) (built_in_row ns at b s ys)
built_in_less ns at b s xs ys (inr h) = inr (ap (built_in_row ns at b s) h)
built_in_less ns at b s xs ys (inl h) = by_test (is_built b) _ _ _ (where_false (all_known xs) _ h)
  where
    by_test : (t : Bool) (x y z : Answer) → x ≡ untyped_part → Less (if t then x else z) (if t then y else z)
    by_test true x y z e = inl e
    by_test false x y z e = inr refl

slice_false : (ns : List NamedTy) (at : Place) (x : Part) (a b c : Option Part) → (is_known x.answer && is_known_bound a && is_known_bound b && is_known_bound c) ≡ false → slice_row ns at x a b c ≡ untyped_part
slice_false ns at x a b c h = where_false (is_known x.answer && is_known_bound a && is_known_bound b && is_known_bound c) _ h

slice_less : (ns : List NamedTy) (at p : Place) (a b : Answer) (l m h i u v : Option Part) → Less a b → BoundLess l m → BoundLess h i → BoundLess u v
    → Less (slice_row ns at (part_at p a) l h u) (slice_row ns at (part_at p b) m i v)
slice_less ns at p a b l m h i u v (inl e) f g k =
    inl (slice_false ns at (part_at p a) l h u (first_false _ _ (first_false _ _ (first_false (is_known a) (is_known_bound l) (not_known a e)))))
slice_less ns at p a b l m h i u v (inr e) (inl f) g k =
    inl (slice_false ns at (part_at p a) l h u (first_false _ _ (first_false _ _ (second_false (is_known a) (is_known_bound l) f))))
slice_less ns at p a b l m h i u v (inr e) (inr f) (inl g) k =
    inl (slice_false ns at (part_at p a) l h u (first_false _ _ (second_false (is_known a && is_known_bound l) (is_known_bound h) g)))
slice_less ns at p a b l m h i u v (inr e) (inr f) (inr g) (inl k) =
    inl (slice_false ns at (part_at p a) l h u (second_false (is_known a && is_known_bound l && is_known_bound h) (is_known_bound u) k))
slice_less ns at p a b l m h i u v (inr e) (inr f) (inr g) (inr k) = inr (
    ap (λ (x : Answer). slice_row ns at (part_at p x) l h u) e ∙ ap (λ (x : Option Part). slice_row ns at (part_at p b) x h u) f
    ∙ ap (λ (x : Option Part). slice_row ns at (part_at p b) m x u) g ∙ ap (λ (x : Option Part). slice_row ns at (part_at p b) m i x) k)

call_less : (ns : List NamedTy) (at p : Place) (c : Callee) (a b : Answer) (s : Bool) (xs ys : List Part) → Less a b → AllLess xs ys
    → Less (call_row ns at c (part_at p a) s xs) (call_row ns at c (part_at p b) s ys)
call_less ns at p (a_function id ps rs v) a b s xs ys l m = all_less (function_row ns at id ps rs v s) (function_false ns at id ps rs v s) xs ys m
call_less ns at p (a_built_in d) a b s xs ys l m = built_in_less ns at d s xs ys m
call_less ns at p by_value a b s xs ys (inl h) m = inl (called_false ns at (part_at p a) s xs (not_known a h))
call_less ns at p by_value a b s xs ys (inr h) (inl k) = inl (called_all_false ns at (part_at p a) s xs k)
call_less ns at p by_value a b s xs ys (inr h) (inr k) = inr (ap (λ (x : Answer). called_row ns at (part_at p x) s xs) h ∙ ap (λ (zs : List Part). called_row ns at (part_at p b) s zs) k)

declared_less : (at : Place) (x : List ℕ) (o r : Option Decl) → (o ≡ Some unknown) ⊎ (o ≡ r) → Less (declared_row at x o) (declared_row at x r)
declared_less at x o r (inl h) = inl (ap (declared_row at x) h)
declared_less at x o r (inr h) = inr (ap (declared_row at x) h)

blank_less : (t : Bool) (a b : Answer) → Less a b → Less (if t then blank else a) (if t then blank else b)
blank_less true a b l = inr refl
blank_less false a b l = l

-- what is called is the same, or it isn't typed in the one
abbrev CalleeLess : Callee → Callee → Answer → Type 0
CalleeLess c d a = ((c ≡ by_value) × (a ≡ untyped_part)) ⊎ (c ≡ d)

blank_callee : (t : Bool) (c d : Callee) (a : Answer) → CalleeLess c d a → CalleeLess (if t then by_value else c) (if t then by_value else d) (if t then blank else a)
blank_callee true c d a l = inr refl
blank_callee false c d a l = l

name_callee : (at : Place) (x : List ℕ) (o r : Option Decl) → (o ≡ Some unknown) ⊎ (o ≡ r) → CalleeLess (declared_callee o) (declared_callee r) (declared_row at x o)
name_callee at x o r (inl h) = inl (ap declared_callee h, ap (declared_row at x) h)
name_callee at x o r (inr h) = inr (ap declared_callee h)

paren_callee : (c d : Callee) (a : Answer) → CalleeLess c d a → CalleeLess c d (paren_row a)
paren_callee c d a (inl h) = inl (h.0, ap paren_row h.1)
paren_callee c d a (inr h) = inr h

called_less : (ns : List NamedTy) (at p : Place) (c d : Callee) (a b : Answer) (s : Bool) (xs ys : List Part) → CalleeLess c d a → Less a b → AllLess xs ys
    → Less (call_row ns at c (part_at p a) s xs) (call_row ns at d (part_at p b) s ys)
called_less ns at p c d a b s xs ys (inl h) l m =
    inl (ap (λ (e : Callee). call_row ns at e (part_at p a) s xs) h.0 ∙ called_false ns at (part_at p a) s xs (not_known a h.1))
called_less ns at p c d a b s xs ys (inr h) l m =
    subst (λ (e : Callee). Less (call_row ns at c (part_at p a) s xs) (call_row ns at e (part_at p b) s ys)) h (call_less ns at p c a b s xs ys l m)

module _ (ns : List NamedTy) (ss rs : List (List Bind)) (less : LessKnown ss rs) where
  callee_less : (f : Expr) → CalleeLess (callee_of ss f) (callee_of rs f) (typing ns ss f)
  callee_less (NameExpr at x) = blank_callee (is_blank x) (declared_callee (lookup x ss)) (declared_callee (lookup x rs)) (declared_row at x (lookup x ss)) (name_callee at x (lookup x ss) (lookup x rs) (less x))
  callee_less (ParenExpr at x) = paren_callee (callee_of ss x) (callee_of rs x) (typing ns ss x) (callee_less x)
  callee_less _ = inr refl

  mutual
    more : (e : Expr) → Less (typing ns ss e) (typing ns rs e)
    more (NameExpr at x) = blank_less (is_blank x) (declared_row at x (lookup x ss)) (declared_row at x (lookup x rs)) (declared_less at x (lookup x ss) (lookup x rs) (less x))
    more (ParenExpr at x) = paren_less (typing ns ss x) (typing ns rs x) (more x)
    more (UnaryExpr at op x) = prefix_less ns at (place_of x) op (typing ns ss x) (typing ns rs x) (more x)
    more (BinaryExpr at x op y) = two_less (operator_row ns at op) (operator_false ns at op) (place_of x) (place_of y) (typing ns ss x) (typing ns rs x) (typing ns ss y) (typing ns rs y) (more x) (more y)
    more (IndexExpr at x y) = two_less (index_row ns at) (λ x y h. where_false (is_known x.answer && is_known y.answer) _ h) (place_of x) (place_of y) (typing ns ss x) (typing ns rs x) (typing ns ss y) (typing ns rs y) (more x) (more y)
    more (SliceExpr at x a b c) =
        slice_less ns at (place_of x) (typing ns ss x) (typing ns rs x) (bound_part ns ss a) (bound_part ns rs a) (bound_part ns ss b) (bound_part ns rs b) (bound_part ns ss c) (bound_part ns rs c)
        (more x) (more_bound a) (more_bound b) (more_bound c)
    more (CallExpr at f xs spread) =
        called_less ns at (place_of f) (callee_of ss f) (callee_of rs f) (typing ns ss f) (typing ns rs f) spread (parts ns ss xs) (parts ns rs xs) (callee_less f) (more f) (more_parts xs)
    more _ = inr refl

    more_bound : (b : MaybeExpr) → BoundLess (bound_part ns ss b) (bound_part ns rs b)
    more_bound NoExpr = inr refl
    more_bound (AnExpr x) = elim (more x) [
      | inl h ↦ inl (not_known (typing ns ss x) h)
      | inr h ↦ inr (ap (λ (a : Answer). Some (part_at (place_of x) a)) h)
    ]

    more_parts : (es : Exprs) → AllLess (parts ns ss es) (parts ns rs es)
    more_parts NoExprs = inr refl
    more_parts (MoreExprs x xs) = elim (more x) [
      | inl h ↦ inl (first_false (is_known (typing ns ss x)) _ (not_known (typing ns ss x) h))
      | inr h ↦ elim (more_parts xs) [
        | inl k ↦ inl (second_false (is_known (typing ns ss x)) _ k)
        | inr k ↦ inr (ap (λ (a : Answer). part_at (place_of x) a ∷ parts ns ss xs) h ∙ ap (λ (zs : List Part). part_at (place_of x) (typing ns rs x) ∷ zs) k)
      ]
    ]

pub stays_typed : StaysTyped
stays_typed ns ss rs less e = more ns ss rs less e

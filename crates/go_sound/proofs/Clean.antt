-- A node that is typed has no fault in it.
use Rattle.std.proofs.Common.{◌≡◌, inl, inr, List, [], ◌++◌, refl, ap, ◌∙◌, Bool, true, false, Some, None}
use Rattle.gj_base.specs.declared.place.Place.{Place}
use Rattle.go_syntax.specs.Tree.{Expr, NameExpr, IntExpr, RuneExpr, StrExpr, ParenExpr, UnaryExpr, BinaryExpr, IndexExpr, SliceExpr, CallExpr, MaybeExpr, NoExpr, AnExpr, Exprs, NoExprs, MoreExprs}
use Rattle.go_type.specs.Named.{NamedTy}
use Rattle.go_type.specs.Tree.{Ty}
use Rattle.go_typing.specs.Env.{Bind}
use Rattle.go_typing.specs.Answer.{Flaw, Answer, value, pending, type_, package_, built_in, blank, does, wrong, untyped_part, is_known, own}
use Rattle.go_typing.specs.Wanted.{wanted_type}
use Rattle.go_typing.specs.Call.{is_built}
use Rattle.go_typing.specs.Typing.{Callee, a_function, a_built_in, by_value, callee_of, place_of, typing, flaws, bound_flaws, all_flaws, where_true, is_built_prefix, call_flaws}
use Rattle.go_typing.specs.Faulty.{InCall, IsBound, IsOneOf, IsPart}
use Rattle.go_typing.proofs.Around.{none_around}
use Rattle.go_typing.specs.Expressions.{type_of}

own_known : (a : Answer) → is_known a ≡ true → own a ≡ []
own_known (wrong f fs) h = let e : false ≡ true = h in cc
own_known untyped_part h = refl
own_known (value c t v) h = refl
own_known (pending p b) h = refl
own_known (type_ t) h = refl
own_known (package_ p) h = refl
own_known (built_in b) h = refl
own_known blank h = refl
own_known (does s) h = refl

pub both_empty : (fs gs : List Flaw) → fs ≡ [] → gs ≡ [] → fs ++ gs ≡ []
both_empty fs gs h k = ap (λ (hs : List Flaw). hs ++ gs) h ∙ k

where_true_empty : (b : Bool) (fs : List Flaw) → (b ≡ true → fs ≡ []) → where_true b fs ≡ []
where_true_empty true fs h = h refl
where_true_empty false fs h = refl

module _ (ns : List NamedTy) (ss : List (List Bind)) where
  abbrev IsTypedNode : Expr → Type 0
  IsTypedNode e = is_known (typing ns ss e) ≡ true

  -- a part of a typed node is typed
  part_known : (m n : Expr) → IsPart ss m n → IsTypedNode n → IsTypedNode m
  part_known m n i h = by_test (is_known (typing ns ss m)) refl
    where
      by_test : (b : Bool) → is_known (typing ns ss m) ≡ b → is_known (typing ns ss m) ≡ true
      by_test true e = e
      by_test false e = let u : is_known (typing ns ss n) ≡ false = ap is_known (none_around ns ss m n i e) in cc

  call_empty : (c : Callee) (f : Expr) (xs : Exprs) (fs gs : List Flaw) → ((m : Expr) → InCall c (m ≡ f) (IsOneOf ss m xs) → IsTypedNode m)
      → (IsTypedNode f → fs ≡ []) → (((m : Expr) → IsOneOf ss m xs → IsTypedNode m) → gs ≡ []) → call_flaws c fs gs ≡ []
  call_empty (a_function id ps rs v) f xs fs gs k a b = b (λ m i. k m i)
  call_empty (a_built_in d) f xs fs gs k a b = where_true_empty (is_built d) gs (λ t. b (λ m i. k m (t, i)))
  call_empty by_value f xs fs gs k a b = both_empty fs gs (a (k f (inl refl))) (b (λ m i. k m (inr i)))

  mutual
    pub clean : (e : Expr) → is_known (typing ns ss e) ≡ true → flaws ns ss e ≡ []
    clean (NameExpr at x) h = own_known (typing ns ss (NameExpr at x)) h
    clean (IntExpr at x) h = refl
    clean (RuneExpr at x) h = refl
    clean (StrExpr at x) h = refl
    clean (ParenExpr at x) h = clean x (part_known x (ParenExpr at x) refl h)
    clean (UnaryExpr at op x) h =
        both_empty (where_true (is_built_prefix op) (flaws ns ss x)) _
        (where_true_empty (is_built_prefix op) (flaws ns ss x) (λ t. clean x (part_known x (UnaryExpr at op x) (t, refl) h))) (own_known (typing ns ss (UnaryExpr at op x)) h)
    clean (BinaryExpr at x op y) h =
        both_empty (flaws ns ss x ++ flaws ns ss y) _
        (both_empty (flaws ns ss x) (flaws ns ss y) (clean x (part_known x (BinaryExpr at x op y) (inl refl) h)) (clean y (part_known y (BinaryExpr at x op y) (inr refl) h)))
        (own_known (typing ns ss (BinaryExpr at x op y)) h)
    clean (IndexExpr at x y) h =
        both_empty (flaws ns ss x ++ flaws ns ss y) _
        (both_empty (flaws ns ss x) (flaws ns ss y) (clean x (part_known x (IndexExpr at x y) (inl refl) h)) (clean y (part_known y (IndexExpr at x y) (inr refl) h)))
        (own_known (typing ns ss (IndexExpr at x y)) h)
    clean (SliceExpr at x a b c) h =
        both_empty (flaws ns ss x ++ (bound_flaws ns ss a ++ (bound_flaws ns ss b ++ bound_flaws ns ss c))) _
        (both_empty (flaws ns ss x) _ (clean x (part_known x (SliceExpr at x a b c) (inl refl) h))
        (both_empty (bound_flaws ns ss a) _ (bound_clean a (λ m i. part_known m (SliceExpr at x a b c) (inr (inl i)) h))
        (both_empty (bound_flaws ns ss b) _ (bound_clean b (λ m i. part_known m (SliceExpr at x a b c) (inr (inr (inl i))) h)) (bound_clean c (λ m i. part_known m (SliceExpr at x a b c) (inr (inr (inr i))) h)))))
        (own_known (typing ns ss (SliceExpr at x a b c)) h)
    clean (CallExpr at f xs spread) h =
        both_empty (call_flaws (callee_of ss f) (flaws ns ss f) (all_flaws ns ss xs)) _
        (call_empty (callee_of ss f) f xs (flaws ns ss f) (all_flaws ns ss xs) (λ m i. part_known m (CallExpr at f xs spread) i h) (λ k. clean f k) (λ k. all_clean xs k))
        (own_known (typing ns ss (CallExpr at f xs spread)) h)
    clean _ h = let e : false ≡ true = h in cc

    bound_clean : (b : MaybeExpr) → ((m : Expr) → IsBound ss m b → IsTypedNode m) → bound_flaws ns ss b ≡ []
    bound_clean NoExpr k = refl
    bound_clean (AnExpr x) k = clean x (k x refl)

    all_clean : (xs : Exprs) → ((m : Expr) → IsOneOf ss m xs → IsTypedNode m) → all_flaws ns ss xs ≡ []
    all_clean NoExprs k = refl
    all_clean (MoreExprs x xs) k = both_empty (flaws ns ss x) (all_flaws ns ss xs) (clean x (k x (inl refl))) (all_clean xs (λ m i. k m (inr i)))

-- where a type is found nothing is told
record TypeIsClean (p : Place) (a : Answer) : Type 0 where
  pub known : is_known a ≡ true
  pub none : own (wanted_type p a) ≡ []

found_clean : (p : Place) (a : Answer) (t : Ty) → type_of (wanted_type p a) ≡ Some t → TypeIsClean p a
found_clean p (type_ u) t h = record { known = refl; none = refl }
found_clean p (wrong f fs) t h = let e : None ≡ Some t = h in cc
found_clean p untyped_part t h = let e : None ≡ Some t = h in cc
found_clean p (value c u v) t h = let e : None ≡ Some t = h in cc
found_clean p (pending q b) t h = let e : None ≡ Some t = h in cc
found_clean p (package_ q) t h = let e : None ≡ Some t = h in cc
found_clean p (built_in b) t h = let e : None ≡ Some t = h in cc
found_clean p blank t h = let e : None ≡ Some t = h in cc
found_clean p (does s) t h = let e : None ≡ Some t = h in cc

pub type_clean : (ns : List NamedTy) (ss : List (List Bind)) (e : Expr) (t : Ty) → type_of (wanted_type (place_of e) (typing ns ss e)) ≡ Some t
    → flaws ns ss e ++ own (wanted_type (place_of e) (typing ns ss e)) ≡ []
type_clean ns ss e t h = let c = found_clean (place_of e) (typing ns ss e) t h in both_empty (flaws ns ss e) _ (clean ns ss e c.known) c.none

-- The list of faults has exactly those of the faulty nodes.
use Rattle.std.proofs.Common.{◌≡◌, ◌⊎◌, inl, inr, List, [], ◌∷◌, ◌++◌, refl, subst, IsTrue, Bool, true, false}
use Rattle.go_syntax.specs.Tree.{Expr, NameExpr, IntExpr, RuneExpr, StrExpr, ParenExpr, UnaryExpr, BinaryExpr, SelectExpr, IndexExpr, SliceExpr, AssertExpr, CallExpr, LiteralExpr, FuncExpr, ArrayType, SliceType, StructType, FuncType, InterfaceType, MapType, ChanType, MaybeExpr, NoExpr, AnExpr, Exprs, NoExprs, MoreExprs}
use Rattle.go_type.specs.Named.{NamedTy}
use Rattle.go_typing.specs.Env.{Bind}
use Rattle.go_typing.specs.Answer.{Flaw, Answer, value, pending, type_, package_, built_in, blank, does, wrong, untyped_part, own}
use Rattle.go_typing.specs.Call.{is_built}
use Rattle.go_typing.specs.Typing.{Callee, a_function, a_built_in, by_value, callee_of, typing, flaws, bound_flaws, all_flaws, where_true, call_flaws, paren_row, is_built_prefix}
use Rattle.go_typing.specs.Faulty.{IsIn, Inside, InsideBound, InsideAny, InCall, ListsExactly, ListsExactlyAt}

in_left : (f : Flaw) (xs ys : List Flaw) → IsIn f xs → IsIn f (xs ++ ys)
in_left f [] ys h = elim h [ ]
in_left f (x ∷ xs) ys (inl e) = inl e
in_left f (x ∷ xs) ys (inr h) = inr (in_left f xs ys h)

in_right : (f : Flaw) (xs ys : List Flaw) → IsIn f ys → IsIn f (xs ++ ys)
in_right f [] ys h = h
in_right f (x ∷ xs) ys h = inr (in_right f xs ys h)

in_either : (f : Flaw) (xs ys : List Flaw) → IsIn f (xs ++ ys) → IsIn f xs ⊎ IsIn f ys
in_either f [] ys h = inr h
in_either f (x ∷ xs) ys (inl e) = inl (inl e)
in_either f (x ∷ xs) ys (inr h) = elim (in_either f xs ys h) [ inl a ↦ inl (inr a) | inr b ↦ inr b ]

in_where : (f : Flaw) (b : Bool) (xs : List Flaw) → IsTrue b → IsIn f xs → IsIn f (where_true b xs)
in_where f true xs t h = h
in_where f false xs t h = let e : false ≡ true = t in cc

where_in : (f : Flaw) (b : Bool) (xs : List Flaw) → IsIn f (where_true b xs) → IsTrue b × IsIn f xs
where_in f true xs h = (refl, h)
where_in f false xs h = absurd h

-- parentheses have no fault
no_paren : (f : Flaw) (a : Answer) → IsIn f (own (paren_row a)) → ⊥
no_paren f (value c t v) h = h
no_paren f (pending p b) h = h
no_paren f (type_ t) h = h
no_paren f (package_ p) h = h
no_paren f (built_in b) h = h
no_paren f blank h = h
no_paren f (does s) h = h
no_paren f (wrong g gs) h = h
no_paren f untyped_part h = h

-- a call's parts, as far as they are looked at
in_call : (f : Flaw) (c : Callee) (F X : Type 0) (xs ys : List Flaw) → (F → IsIn f xs) → (X → IsIn f ys) → InCall c F X → IsIn f (call_flaws c xs ys)
in_call f (a_function id ps rs v) F X xs ys p q h = q h
in_call f (a_built_in b) F X xs ys p q h = in_where f (is_built b) ys h.0 (q h.1)
in_call f by_value F X xs ys p q (inl h) = in_left f xs ys (p h)
in_call f by_value F X xs ys p q (inr h) = in_right f xs ys (q h)

-- what is so of a node found in a call's parts
module _ (f : Flaw) (Is : Expr → Type 0) where
  call_in : (c : Callee) (F X : Expr → Type 0) (xs ys : List Flaw)
      → (IsIn f xs → (n : Expr) × F n × Is n) → (IsIn f ys → (n : Expr) × X n × Is n)
      → IsIn f (call_flaws c xs ys) → (n : Expr) × InCall c (F n) (X n) × Is n
  call_in (a_function id ps rs v) F X xs ys p q h = q h
  call_in (a_built_in b) F X xs ys p q h = let w = where_in f (is_built b) ys h in let r = q w.1 in (r.0, (w.0, r.1), r.2)
  call_in by_value F X xs ys p q h = elim (in_either f xs ys h) [
    | inl k ↦ (let r = p k in (r.0, inl r.1, r.2))
    | inr k ↦ (let r = q k in (r.0, inr r.1, r.2))
  ]

module _ (ns : List NamedTy) (ss : List (List Bind)) (f : Flaw) where
  self : (e : Expr) → Inside ss e e
  self (NameExpr at x) = refl
  self (IntExpr at x) = refl
  self (RuneExpr at x) = refl
  self (StrExpr at x) = refl
  self (ParenExpr at x) = inl refl
  self (UnaryExpr at op x) = inl refl
  self (BinaryExpr at x op y) = inl refl
  self (SelectExpr at x name) = refl
  self (IndexExpr at x i) = inl refl
  self (SliceExpr at x low high most) = inl refl
  self (AssertExpr at x t) = refl
  self (CallExpr at g xs spread) = inl refl
  self (LiteralExpr at t es) = refl
  self (FuncExpr at sig b) = refl
  self (ArrayType at n t) = refl
  self (SliceType at t) = refl
  self (StructType at fs) = refl
  self (FuncType at sig) = refl
  self (InterfaceType at ms) = refl
  self (MapType at k t) = refl
  self (ChanType at d t) = refl

  -- the faults of a node that is this one
  is_own : (n e : Expr) → n ≡ e → IsIn f (own (typing ns ss n)) → IsIn f (own (typing ns ss e))
  is_own n e i h = subst (λ (m : Expr). IsIn f (own (typing ns ss m))) i h

  mutual
    told : (n e : Expr) → Inside ss n e → IsIn f (own (typing ns ss n)) → IsIn f (flaws ns ss e)
    told n (NameExpr at x) i h = is_own n (NameExpr at x) i h
    told n (IntExpr at x) i h = is_own n (IntExpr at x) i h
    told n (RuneExpr at x) i h = is_own n (RuneExpr at x) i h
    told n (StrExpr at x) i h = is_own n (StrExpr at x) i h
    told n (ParenExpr at x) (inl i) h = absurd (no_paren f (typing ns ss x) (is_own n (ParenExpr at x) i h))
    told n (ParenExpr at x) (inr i) h = told n x i h
    told n (UnaryExpr at op x) (inl i) h = in_right f (where_true (is_built_prefix op) (flaws ns ss x)) _ (is_own n (UnaryExpr at op x) i h)
    told n (UnaryExpr at op x) (inr i) h = in_left f (where_true (is_built_prefix op) (flaws ns ss x)) _ (in_where f (is_built_prefix op) (flaws ns ss x) i.0 (told n x i.1 h))
    told n (BinaryExpr at x op y) (inl i) h = in_right f (flaws ns ss x ++ flaws ns ss y) _ (is_own n (BinaryExpr at x op y) i h)
    told n (BinaryExpr at x op y) (inr (inl i)) h = in_left f (flaws ns ss x ++ flaws ns ss y) _ (in_left f (flaws ns ss x) _ (told n x i h))
    told n (BinaryExpr at x op y) (inr (inr i)) h = in_left f (flaws ns ss x ++ flaws ns ss y) _ (in_right f (flaws ns ss x) _ (told n y i h))
    told n (SelectExpr at x name) i h = is_own n (SelectExpr at x name) i h
    told n (IndexExpr at x y) (inl i) h = in_right f (flaws ns ss x ++ flaws ns ss y) _ (is_own n (IndexExpr at x y) i h)
    told n (IndexExpr at x y) (inr (inl i)) h = in_left f (flaws ns ss x ++ flaws ns ss y) _ (in_left f (flaws ns ss x) _ (told n x i h))
    told n (IndexExpr at x y) (inr (inr i)) h = in_left f (flaws ns ss x ++ flaws ns ss y) _ (in_right f (flaws ns ss x) _ (told n y i h))
    told n (SliceExpr at x a b c) (inl i) h =
        in_right f (flaws ns ss x ++ (bound_flaws ns ss a ++ (bound_flaws ns ss b ++ bound_flaws ns ss c))) _ (is_own n (SliceExpr at x a b c) i h)
    told n (SliceExpr at x a b c) (inr (inl i)) h =
        in_left f (flaws ns ss x ++ (bound_flaws ns ss a ++ (bound_flaws ns ss b ++ bound_flaws ns ss c))) _ (in_left f (flaws ns ss x) _ (told n x i h))
    told n (SliceExpr at x a b c) (inr (inr (inl i))) h =
        in_left f (flaws ns ss x ++ (bound_flaws ns ss a ++ (bound_flaws ns ss b ++ bound_flaws ns ss c))) _ (in_right f (flaws ns ss x) _ (in_left f (bound_flaws ns ss a) _ (bound_told n a i h)))
    told n (SliceExpr at x a b c) (inr (inr (inr (inl i)))) h =
        in_left f (flaws ns ss x ++ (bound_flaws ns ss a ++ (bound_flaws ns ss b ++ bound_flaws ns ss c))) _
        (in_right f (flaws ns ss x) _ (in_right f (bound_flaws ns ss a) _ (in_left f (bound_flaws ns ss b) _ (bound_told n b i h))))
    told n (SliceExpr at x a b c) (inr (inr (inr (inr i)))) h =
        in_left f (flaws ns ss x ++ (bound_flaws ns ss a ++ (bound_flaws ns ss b ++ bound_flaws ns ss c))) _
        (in_right f (flaws ns ss x) _ (in_right f (bound_flaws ns ss a) _ (in_right f (bound_flaws ns ss b) _ (bound_told n c i h))))
    told n (AssertExpr at x t) i h = is_own n (AssertExpr at x t) i h
    told n (CallExpr at g xs spread) (inl i) h = in_right f (call_flaws (callee_of ss g) (flaws ns ss g) (all_flaws ns ss xs)) _ (is_own n (CallExpr at g xs spread) i h)
    told n (CallExpr at g xs spread) (inr i) h =
        in_left f (call_flaws (callee_of ss g) (flaws ns ss g) (all_flaws ns ss xs)) _
        (in_call f (callee_of ss g) (Inside ss n g) (InsideAny ss n xs) (flaws ns ss g) (all_flaws ns ss xs) (λ i. told n g i h) (λ i. all_told n xs i h) i)
    told n (LiteralExpr at t es) i h = is_own n (LiteralExpr at t es) i h
    told n (FuncExpr at sig b) i h = is_own n (FuncExpr at sig b) i h
    told n (ArrayType at m t) i h = is_own n (ArrayType at m t) i h
    told n (SliceType at t) i h = is_own n (SliceType at t) i h
    told n (StructType at fs) i h = is_own n (StructType at fs) i h
    told n (FuncType at sig) i h = is_own n (FuncType at sig) i h
    told n (InterfaceType at ms) i h = is_own n (InterfaceType at ms) i h
    told n (MapType at k t) i h = is_own n (MapType at k t) i h
    told n (ChanType at d t) i h = is_own n (ChanType at d t) i h

    bound_told : (n : Expr) (b : MaybeExpr) → InsideBound ss n b → IsIn f (own (typing ns ss n)) → IsIn f (bound_flaws ns ss b)
    bound_told n NoExpr i h = absurd i
    bound_told n (AnExpr x) i h = told n x i h

    all_told : (n : Expr) (es : Exprs) → InsideAny ss n es → IsIn f (own (typing ns ss n)) → IsIn f (all_flaws ns ss es)
    all_told n NoExprs i h = absurd i
    all_told n (MoreExprs x xs) (inl i) h = in_left f (flaws ns ss x) _ (told n x i h)
    all_told n (MoreExprs x xs) (inr i) h = in_right f (flaws ns ss x) _ (all_told n xs i h)

  mutual
    there : (e : Expr) → IsIn f (flaws ns ss e) → (n : Expr) × Inside ss n e × IsIn f (own (typing ns ss n))
    there (NameExpr at x) h = (NameExpr at x, refl, h)
    there (IntExpr at x) h = absurd h
    there (RuneExpr at x) h = absurd h
    there (StrExpr at x) h = absurd h
    there (ParenExpr at x) h = let r = there x h in (r.0, inr r.1, r.2)
    there (UnaryExpr at op x) h = elim (in_either f (where_true (is_built_prefix op) (flaws ns ss x)) _ h) [
      | inl k ↦ (let w = where_in f (is_built_prefix op) (flaws ns ss x) k in let r = there x w.1 in (r.0, inr (w.0, r.1), r.2))
      | inr k ↦ (UnaryExpr at op x, inl refl, k)
    ]
    there (BinaryExpr at x op y) h = elim (in_either f (flaws ns ss x ++ flaws ns ss y) _ h) [
      | inl k ↦ elim (in_either f (flaws ns ss x) _ k) [
        | inl l ↦ (let r = there x l in (r.0, inr (inl r.1), r.2))
        | inr l ↦ (let r = there y l in (r.0, inr (inr r.1), r.2))
      ]
      | inr k ↦ (BinaryExpr at x op y, inl refl, k)
    ]
    there (SelectExpr at x name) h = (SelectExpr at x name, refl, h)
    there (IndexExpr at x y) h = elim (in_either f (flaws ns ss x ++ flaws ns ss y) _ h) [
      | inl k ↦ elim (in_either f (flaws ns ss x) _ k) [
        | inl l ↦ (let r = there x l in (r.0, inr (inl r.1), r.2))
        | inr l ↦ (let r = there y l in (r.0, inr (inr r.1), r.2))
      ]
      | inr k ↦ (IndexExpr at x y, inl refl, k)
    ]
    there (SliceExpr at x a b c) h = elim (in_either f (flaws ns ss x ++ (bound_flaws ns ss a ++ (bound_flaws ns ss b ++ bound_flaws ns ss c))) _ h) [
      | inl k ↦ elim (in_either f (flaws ns ss x) _ k) [
        | inl l ↦ (let r = there x l in (r.0, inr (inl r.1), r.2))
        | inr l ↦ elim (in_either f (bound_flaws ns ss a) _ l) [
          | inl m ↦ (let r = bound_there a m in (r.0, inr (inr (inl r.1)), r.2))
          | inr m ↦ elim (in_either f (bound_flaws ns ss b) _ m) [
            | inl o ↦ (let r = bound_there b o in (r.0, inr (inr (inr (inl r.1))), r.2))
            | inr o ↦ (let r = bound_there c o in (r.0, inr (inr (inr (inr r.1))), r.2))
          ]
        ]
      ]
      | inr k ↦ (SliceExpr at x a b c, inl refl, k)
    ]
    there (AssertExpr at x t) h = (AssertExpr at x t, refl, h)
    there (CallExpr at g xs spread) h = elim (in_either f (call_flaws (callee_of ss g) (flaws ns ss g) (all_flaws ns ss xs)) _ h) [
      | inl k ↦ (let r = call_in f (λ (n : Expr). IsIn f (own (typing ns ss n))) (callee_of ss g) (λ n. Inside ss n g) (λ n. InsideAny ss n xs) (flaws ns ss g) (all_flaws ns ss xs) (λ l. there g l) (λ l. all_there xs l) k in (r.0, inr r.1, r.2))
      | inr k ↦ (CallExpr at g xs spread, inl refl, k)
    ]
    there (LiteralExpr at t es) h = (LiteralExpr at t es, refl, h)
    there (FuncExpr at sig b) h = (FuncExpr at sig b, refl, h)
    there (ArrayType at m t) h = (ArrayType at m t, refl, h)
    there (SliceType at t) h = (SliceType at t, refl, h)
    there (StructType at fs) h = (StructType at fs, refl, h)
    there (FuncType at sig) h = (FuncType at sig, refl, h)
    there (InterfaceType at ms) h = (InterfaceType at ms, refl, h)
    there (MapType at k t) h = (MapType at k t, refl, h)
    there (ChanType at d t) h = (ChanType at d t, refl, h)

    bound_there : (b : MaybeExpr) → IsIn f (bound_flaws ns ss b) → (n : Expr) × InsideBound ss n b × IsIn f (own (typing ns ss n))
    bound_there NoExpr h = absurd h
    bound_there (AnExpr x) h = there x h

    all_there : (es : Exprs) → IsIn f (all_flaws ns ss es) → (n : Expr) × InsideAny ss n es × IsIn f (own (typing ns ss n))
    all_there NoExprs h = absurd h
    all_there (MoreExprs x xs) h = elim (in_either f (flaws ns ss x) _ h) [
      | inl k ↦ (let r = there x k in (r.0, inl r.1, r.2))
      | inr k ↦ (let r = all_there xs k in (r.0, inr r.1, r.2))
    ]

pub lists_exactly : ListsExactly
lists_exactly ns ss e f = (λ h. there ns ss f e h, λ r. told ns ss f r.0 e r.1 r.2)

pub lists_exactly_at : ListsExactlyAt
lists_exactly_at ns ss t e f = (
  λ h. elim (in_either f (flaws ns ss e) _ h) [ inl k ↦ inl (there ns ss f e k) | inr k ↦ inr k ],
  λ r. elim r [
    | inl k ↦ in_left f (flaws ns ss e) _ (told ns ss f k.0 e k.1 k.2)
    | inr k ↦ in_right f (flaws ns ss e) _ k
  ],
)

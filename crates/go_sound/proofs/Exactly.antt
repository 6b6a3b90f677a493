-- Exactly: what is in lists that are put together.
use Rattle.std.proofs.Common.{◌≡◌, ◌⊎◌, ◌↔◌, inl, inr, List, [], ◌∷◌, ◌++◌, refl, sym, Bool, true, false, if◌then◌else◌}
use Rattle.go_syntax.specs.Tree as t
use Rattle.go_typing.specs.Answer.{Flaw}
use Rattle.go_typing.specs.Faulty.{IsIn, HasFault}
use Rattle.go_typing.proofs.Exact.{lists_exactly}
use Rattle.go_typing.specs.Walk.{Walk}
use Rattle.go_typing.specs.Expressions.{flaws_in}

-- ---- lists of faults

pub in_left : (f : Flaw) (xs ys : List Flaw) → IsIn f xs → IsIn f (xs ++ ys)
in_left f [] ys h = absurd h
in_left f (x ∷ xs) ys (inl e) = inl e
in_left f (x ∷ xs) ys (inr h) = inr (in_left f xs ys h)

pub in_right : (f : Flaw) (xs ys : List Flaw) → IsIn f ys → IsIn f (xs ++ ys)
in_right f [] ys h = h
in_right f (x ∷ xs) ys h = inr (in_right f xs ys h)

pub in_either : (f : Flaw) (xs ys : List Flaw) → IsIn f (xs ++ ys) → IsIn f xs ⊎ IsIn f ys
in_either f [] ys h = inr h
in_either f (x ∷ xs) ys (inl e) = inl (inl e)
in_either f (x ∷ xs) ys (inr h) = by_case (in_either f xs ys h)
  where
    by_case : IsIn f xs ⊎ IsIn f ys → IsIn f (x ∷ xs) ⊎ IsIn f ys
    by_case (inl a) = inl (inr a)
    by_case (inr b) = inr b

-- ---- what is said of them

module _ (f : Flaw) where
  pub both : (xs ys : List Flaw) (A B : Type 0) → (IsIn f xs ↔ A) → (IsIn f ys ↔ B) → IsIn f (xs ++ ys) ↔ (A ⊎ B)
  both xs ys A B p q = (λ h. there (in_either f xs ys h), λ r. back r)
    where
      there : IsIn f xs ⊎ IsIn f ys → A ⊎ B
      there (inl h) = inl (p.0 h)
      there (inr h) = inr (q.0 h)

      back : A ⊎ B → IsIn f (xs ++ ys)
      back (inl a) = in_left f xs ys (p.1 a)
      back (inr b) = in_right f xs ys (q.1 b)

  pub same : (A : Type 0) → A ↔ A
  same A = (λ h. h, λ h. h)

  pub one : (g : Flaw) → IsIn f (g ∷ []) ↔ (f ≡ g)
  one g = (λ h. there h, λ e. inl (sym e))
    where
      there : IsIn f (g ∷ []) → f ≡ g
      there (inl e) = sym e
      there (inr h) = absurd h

  -- a fault where a test passes
  pub where_passes : (c : Bool) (g : Flaw) → IsIn f (if c then g ∷ [] else []) ↔ ((c ≡ true) × (f ≡ g))
  where_passes true g = (λ h. (refl, (one g).0 h), λ r. (one g).1 r.1)
  where_passes false g = (λ h. absurd h, λ r. let e : false ≡ true = r.0 in cc)

  pub where_both : (b c : Bool) (g : Flaw) → IsIn f (if b then (if c then g ∷ [] else []) else []) ↔ ((b ≡ true) × (c ≡ true) × (f ≡ g))
  where_both true c g = (λ h. (let r = (where_passes c g).0 h in (refl, r.0, r.1)), λ r. (where_passes c g).1 (r.1, r.2))
  where_both false c g = (λ h. absurd h, λ r. let e : false ≡ true = r.0 in cc)

  pub node_exact : (w : Walk) (e : t.Expr) → IsIn f (flaws_in w e) ↔ HasFault w.names w.scopes e f
  node_exact w e = lists_exactly w.names w.scopes e f

-- The list of faults has exactly those of the faulty nodes and of the place that wants the value.
use Rattle.std.proofs.Common.{◌⊎◌, inl, inr, List, [], ◌∷◌, ◌++◌}
use Rattle.go_typing.specs.Answer.{Flaw}
use Rattle.go_typing.specs.Typing.{flaws}
use Rattle.go_typing.specs.Faulty.{IsIn}
use Rattle.go_typing.proofs.Exact.{lists_exactly}
use Rattle.go_expr.specs.Typed.{ListsFaults}

in_left : (f : Flaw) (xs ys : List Flaw) → IsIn f xs → IsIn f (xs ++ ys)
in_left f [] ys h = elim h [ ]
in_left f (x ∷ xs) ys (inl e) = inl e
in_left f (x ∷ xs) ys (inr h) = inr (in_left f xs ys h)

in_right : (f : Flaw) (xs ys : List Flaw) → IsIn f ys → IsIn f (xs ++ ys)
in_right f [] ys h = h
in_right f (x ∷ xs) ys h = inr (in_right f xs ys h)

in_either : (f : Flaw) (xs ys : List Flaw) → IsIn f (xs ++ ys) → IsIn f xs ⊎ IsIn f ys
in_either f [] ys h = inr h
in_either f (x ∷ xs) ys (inl e) = inl (inl e)
in_either f (x ∷ xs) ys (inr h) = elim (in_either f xs ys h) [ inl a ↦ inl (inr a) | inr b ↦ inr b ]

pub lists_faults : ListsFaults
lists_faults ns ss t e f = (
  λ h. elim (in_either f (flaws ns ss e) _ h) [ inl k ↦ inl ((lists_exactly ns ss e f).0 k) | inr k ↦ inr k ],
  λ r. elim r [
    | inl k ↦ in_left f (flaws ns ss e) _ ((lists_exactly ns ss e f).1 k)
    | inr k ↦ in_right f (flaws ns ss e) _ k
  ],
)

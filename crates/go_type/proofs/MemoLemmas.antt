-- What is remembered holds.
use Rattle.std.proofs.Common.{◌≡◌, ℕ, Bool, true, false, List, [], ◌∷◌, ◌++◌, Some, get_or, min, refl, ap, sym, ◌∙◌, subst}
use Rattle.std.specs.Prelude.{◌||◌, ◌&&◌, nat_eq, if◌then◌else◌}
use Rattle.std.specs.Bool.{OnTrue}
use Rattle.std.specs.List.{AllByRecursion}
use Rattle.std.proofs.lemmas.Bool.{eqb-true}
use Rattle.go_type.specs.Tree.{Ty, bool}
use Rattle.go_type.specs.Named.{NamedTy}
use Rattle.go_type.specs.Parts.{holds_within, size_within}
use Rattle.go_type.specs.Memo.{Remembers, is_known, RemembersSizes, size_known}

both : (a b : Bool) → (a && b) ≡ true → (a ≡ true) × (b ≡ true)
both true b h = (refl, h)
both false b h = cc

module _ {X : Type 0} (P : X → Type 0) where
  pushed : (xs : List X) (x : X) → AllByRecursion P xs → P x → AllByRecursion P (xs ++ x ∷ [])
  pushed [] x a p = (p, tt)
  pushed (y ∷ xs) x a p = (a.0, pushed xs x a.1 p)

  pub all_kept : (b : Bool) (old new : List X) (x : X) → OnTrue b (new ≡ old ++ x ∷ []) → (b ≡ false → new ≡ old) → AllByRecursion P old → P x → AllByRecursion P new
  all_kept true old new x e s a p = subst (AllByRecursion P) (sym e) (pushed old x a p)
  all_kept false old new x e s a p = subst (AllByRecursion P) (sym (s refl)) a

pub known_holds : (test : Ty → Bool) (ns : List NamedTy) (ts : List Ty) (id left : ℕ) (es : List (ℕ × ℕ)) → Remembers test ns ts es → is_known id left es ≡ true → holds_within test ns left (get_or ts id bool) ≡ true
known_holds test ns ts id left [] a h = cc
known_holds test ns ts id left (e ∷ es) a h = by (λ g. known_holds test ns ts id left es a.1 g) (nat_eq id e.0 && nat_eq left e.1) refl h
  where
    by : (is_known id left es ≡ true → holds_within test ns left (get_or ts id bool) ≡ true) → (b : Bool) → (nat_eq id e.0 && nat_eq left e.1) ≡ b → (b || is_known id left es) ≡ true → holds_within test ns left (get_or ts id bool) ≡ true
    by rest true g h =
        let k = both (nat_eq id e.0) (nat_eq left e.1) g in
        ap (λ (n : ℕ). holds_within test ns n (get_or ts id bool)) (eqb-true left e.1 k.1) ∙ ap (λ (i : ℕ). holds_within test ns e.1 (get_or ts i bool)) (eqb-true id e.0 k.0) ∙ a.0
    by rest false g h = rest h

pub known_size : (cap : ℕ) (ns : List NamedTy) (ts : List Ty) (id left : ℕ) (es : List (ℕ × ℕ × ℕ)) (v : ℕ) → RemembersSizes cap ns ts es → size_known id left es ≡ Some v → v ≡ min (size_within ns left (get_or ts id bool)) cap
known_size cap ns ts id left [] v a h = cc
known_size cap ns ts id left (e ∷ es) v a h = by (λ g. known_size cap ns ts id left es v a.1 g) (nat_eq id e.0 && nat_eq left e.1) refl h
  where
    by : (size_known id left es ≡ Some v → v ≡ min (size_within ns left (get_or ts id bool)) cap) → (b : Bool) → (nat_eq id e.0 && nat_eq left e.1) ≡ b → (if b then Some e.2 else size_known id left es) ≡ Some v → v ≡ min (size_within ns left (get_or ts id bool)) cap
    by rest true g h =
        let k = both (nat_eq id e.0) (nat_eq left e.1) g in
        let q : e.2 ≡ v = cc in
        sym q ∙ a.0 ∙ sym (ap (λ (n : ℕ). min (size_within ns n (get_or ts id bool)) cap) (eqb-true left e.1 k.1) ∙ ap (λ (i : ℕ). min (size_within ns e.1 (get_or ts i bool)) cap) (eqb-true id e.0 k.0))
    by rest false g h = rest h

-- Types of which each may be known, from the first to the last.
use Rattle.std.proofs.Common.{arith, ◌≡◌, ◌<◌, ◌≤◌, ◌+◌, ℕ, zero, suc, ◌∙◌, sym, ap, subst, List, [], ◌∷◌, ◌++◌, append_assoc, length, map, drop, get_or, Option, Some, None}
use Rattle.std.proofs.Math.Seq.{drop-cons}
use Rattle.std.proofs.lemmas.List.{append-nil}
use Rattle.go_type.specs.Tree.{Ty}
use Rattle.go_type.specs.Levels.{tree_of, trees_of, IdsBelow}
use Rattle.go_type.specs.declared.types.TypeId.{TypeId}
use Rattle.go_typing.specs.Signature.{and_type}
use Rattle.go_decls.specs.Bound.{type_view, TypesBelow}
use Rattle.go_decls.specs.SigView.{all_of}
use Rattle.go_decls.proofs.SignaturesSteps.{past}

next_in : {X : Type 0} (xs : List X) (i : ℕ) (d : X) → i < length xs → drop i xs ≡ get_or xs i d ∷ drop (i + 1) xs
next_in {X} xs i d h =
    let one : suc i ≡ i + 1 = omega arith in
    drop-cons xs i d h ∙ ap (λ (n : ℕ). get_or xs i d ∷ drop n xs) one

next_is : (xs : List (Option TypeId)) (i : ℕ) (d o : Option TypeId) → i < length xs → get_or xs i d ≡ o → drop i xs ≡ o ∷ drop (i + 1) xs
next_is xs i d o h e = next_in xs i d h ∙ ap (λ (x : Option TypeId). x ∷ drop (i + 1) xs) e

pub some_step : (ts : List Ty) (xs : List (Option TypeId)) (i : ℕ) (d : Option TypeId) (t : TypeId) (old new : List TypeId) → i < length xs → get_or xs i d ≡ Some t → new ≡ old ++ t ∷ []
    → ((us : List TypeId) → all_of (map (type_view ts) (drop i xs)) ≡ Some (trees_of ts us) → all_of (map (type_view ts) xs) ≡ Some (trees_of ts (old ++ us)))
    → (us : List TypeId) → all_of (map (type_view ts) (drop (i + 1) xs)) ≡ Some (trees_of ts us) → all_of (map (type_view ts) xs) ≡ Some (trees_of ts (new ++ us))
some_step ts xs i d t old new h e q f us g =
    f (t ∷ us) (ap (λ (ys : List (Option TypeId)). all_of (map (type_view ts) ys)) (next_is xs i d (Some t) h e) ∙ ap (and_type (Some (tree_of ts t))) g)
    ∙ ap (λ (is : List TypeId). Some (trees_of ts is)) (sym (append_assoc old (t ∷ []) us) ∙ ap (λ (is : List TypeId). is ++ us) (sym q))

pub none_step : (ts : List Ty) (xs : List (Option TypeId)) (i : ℕ) (d : Option TypeId) (t : TypeId) → i < length xs → get_or xs i d ≡ Some t
    → (all_of (map (type_view ts) (drop i xs)) ≡ None → all_of (map (type_view ts) xs) ≡ None) → all_of (map (type_view ts) (drop (i + 1) xs)) ≡ None → all_of (map (type_view ts) xs) ≡ None
none_step ts xs i d t h e f g = f (ap (λ (ys : List (Option TypeId)). all_of (map (type_view ts) ys)) (next_is xs i d (Some t) h e) ∙ ap (and_type (Some (tree_of ts t))) g)

pub none_here : (ts : List Ty) (xs : List (Option TypeId)) (i : ℕ) (d : Option TypeId) → i < length xs → get_or xs i d ≡ None → (all_of (map (type_view ts) (drop i xs)) ≡ None → all_of (map (type_view ts) xs) ≡ None)
    → None ≡ all_of (map (type_view ts) xs)
none_here ts xs i d h e f = sym (f (ap (λ (ys : List (Option TypeId)). all_of (map (type_view ts) ys)) (next_is xs i d None h e)))

pub some_end : (ts : List Ty) (xs : List (Option TypeId)) (i : ℕ) (ids : List TypeId) → length xs ≤ i
    → ((us : List TypeId) → all_of (map (type_view ts) (drop i xs)) ≡ Some (trees_of ts us) → all_of (map (type_view ts) xs) ≡ Some (trees_of ts (ids ++ us))) → Some (trees_of ts ids) ≡ all_of (map (type_view ts) xs)
some_end ts xs i ids h f =
    sym (f [] (ap (λ (ys : List (Option TypeId)). all_of (map (type_view ts) ys)) (past xs i h)) ∙ ap (λ (is : List TypeId). Some (trees_of ts is)) (append-nil ids))

below_at : (n : ℕ) (xs : List (Option TypeId)) (i : ℕ) (d : Option TypeId) (t : TypeId) → i < length xs → get_or xs i d ≡ Some t → TypesBelow n xs → t.0 < n
below_at n [] i d t h e l = absurd (omega arith)
below_at n (None ∷ xs) zero d t h e l = let e2 : None ≡ Some t = e in absurd (cc)
below_at n (Some u ∷ xs) zero d t h e l = subst (λ (x : TypeId). x.0 < n) (let e2 : Some u ≡ Some t = e in cc) l.0
below_at n (x ∷ xs) (suc i) d t h e l = below_at n xs i d t (omega arith) e l.1

below_more : (n : ℕ) (is : List TypeId) (t : TypeId) → IdsBelow n is → t.0 < n → IdsBelow n (is ++ t ∷ [])
below_more n [] t l h = (h, tt)
below_more n (i ∷ is) t l h = (l.0, below_more n is t l.1 h)

pub below_step : (n : ℕ) (xs : List (Option TypeId)) (i : ℕ) (d : Option TypeId) (t : TypeId) (old new : List TypeId) → i < length xs → get_or xs i d ≡ Some t → new ≡ old ++ t ∷ [] → TypesBelow n xs → IdsBelow n old → IdsBelow n new
below_step n xs i d t old new h e q l k = subst (IdsBelow n) (sym q) (below_more n old t k (below_at n xs i d t h e l))

-- Code of which each part is made of parts before it.
use Rattle.std.proofs.Common.{◌≡◌, refl, sym, ap, subst, ◌∙◌, ℕ, zero, suc, List, [], ◌∷◌, ◌++◌, Some, length, slice_get}
use Rattle.js_code.specs.Places.{Table}
use Rattle.js_code.specs.Parts.{Part, with_part}
use Rattle.js_code.specs.PartClauses.{parts_in, AreBelow, IsPlaced, IsCode}
use Rattle.js_simple.specs.Simple.{IsSomeCode}

-- what holds of each element, and of one more
each_more : {A : Type 0} (P : ℕ → A → Type 0) (xs : List A) (a : A) → ((i : ℕ) (b : A) → slice_get xs i ≡ Some b → P i b) → P (length xs) a
    → (i : ℕ) (b : A) → slice_get (xs ++ a ∷ []) i ≡ Some b → P i b
each_more P [] a h k zero b e = let same : a ≡ b = cc in subst (P 0) same k
each_more P [] a h k (suc i) b e = cc
each_more P (x ∷ xs) a h k zero b e = h 0 b e
each_more P (x ∷ xs) a h k (suc i) b e = each_more (λ j. P (suc j)) xs a (λ j c q. h (suc j) c q) k i b e

-- no part is code, whatever its names
pub none_made : (ps : List Part) → ps ≡ [] → IsSomeCode ps
none_made ps e = (record { functions = []; globals = []; locals = [] }, subst (IsCode (record { functions = []; globals = []; locals = [] })) (sym e) (record { before = λ i p h. cc; placed = λ i p h. cc }))

-- one part more, which has no name in it
pub part_made : (ps qs : List Part) (p : Part) (n : ℕ) → (length ps ≡ n) × IsSomeCode ps → AreBelow n (parts_in p) → ((t : Table) → IsPlaced t p) → qs ≡ with_part ps p → (length qs ≡ suc n) × IsSomeCode qs
part_made ps qs p n s below placed e =
    let t = s.1.0 in
    let more : IsCode t (with_part ps p) = record {
      before = each_more (λ i q. AreBelow i (parts_in q)) ps p s.1.1.before (subst (λ (k : ℕ). AreBelow k (parts_in p)) (sym s.0) below);
      placed = each_more (λ i q. IsPlaced t q) ps p s.1.1.placed (placed t);
    } in
    let long : length qs ≡ suc n = ap length e ∙ grown ps p ∙ ap suc s.0 in
    (long, (t, subst (IsCode t) (sym e) more))
  where
    grown : (xs : List Part) (p : Part) → length (xs ++ p ∷ []) ≡ suc (length xs)
    grown [] p = refl
    grown (x ∷ xs) p = ap suc (grown xs p)

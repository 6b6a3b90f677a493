-- Edges that lead to the node's own component.
use Rattle.std.proofs.Common.{arith, ◌≡◌, ◌<◌, ◌+◌, ℕ, zero, suc, refl, sym, subst, List, [], ◌∷◌, ◌++◌, Bool, false, Some, length, get_or, slice_get, inl, inr, ◌∙◌}
use Rattle.std.specs.Prelude.{IsTrue, ◌↔◌}
use Rattle.go_graph.specs.Joined.{Stays, StaysFrom}
use Rattle.go_graph.proofs.ListLemmas.{before_next}

pub stays_is : (es : List (List ℕ)) (of : List ℕ) (i : ℕ) (js : List ℕ) → get_or es i [] ≡ js → (b : Bool) → (IsTrue b ↔ StaysFrom of i js) → (IsTrue b ↔ Stays es of i)
stays_is es of i js e b h = (
  λ t. (let s = h.0 t in (s.1, (s.0, subst (λ (xs : List ℕ). slice_get xs s.0 ≡ Some s.1) (sym e) s.2), s.3)),
  λ s. h.1 (s.1.0, s.0, subst (λ (xs : List ℕ). slice_get xs s.1.0 ≡ Some s.0) e s.1.1, s.2),
)

last_one : {X : Type 0} (bs : List X) (b d : X) (i : ℕ) → length bs ≡ i → get_or (bs ++ b ∷ []) i d ≡ b
last_one [] b d zero h = refl
last_one [] b d (suc i) h = absurd (omega arith)
last_one (c ∷ bs) b d zero h = absurd (omega arith)
last_one (c ∷ bs) b d (suc i) h = last_one bs b d i (omega arith)

one_before : {X : Type 0} (bs : List X) (b d : X) (i : ℕ) → i < length bs → get_or (bs ++ b ∷ []) i d ≡ get_or bs i d
one_before [] b d i h = absurd (omega arith)
one_before (c ∷ bs) b d zero h = refl
one_before (c ∷ bs) b d (suc i) h = one_before bs b d i (omega arith)

pub length_more : {X : Type 0} (bs : List X) (b : X) (n : ℕ) → length bs ≡ n → length (bs ++ b ∷ []) ≡ n + 1
length_more [] b n h = omega arith
length_more (c ∷ bs) b zero h = absurd (omega arith)
length_more (c ∷ bs) b (suc n) h = let rest : length (bs ++ b ∷ []) ≡ n + 1 = length_more bs b n (omega arith) in omega (arith, rest)

-- one more answer
pub more : (P : ℕ → Type 0) (bs : List Bool) (b : Bool) (n : ℕ) → length bs ≡ n → ((i : ℕ) → i < n → (IsTrue (get_or bs i false) ↔ P i)) → (IsTrue b ↔ P n)
    → (i : ℕ) → i < n + 1 → (IsTrue (get_or (bs ++ b ∷ []) i false) ↔ P i)
more P bs b n e each now i h =
    elim (before_next i n h) [
      | inl m ↦ subst (λ (c : Bool). IsTrue c ↔ P i) (sym (one_before bs b false i (omega (arith, m, e)))) (each i m)
      | inr m ↦ subst (λ (c : Bool). IsTrue c ↔ P i) (sym (last_one bs b false i (e ∙ sym m))) (subst (λ (k : ℕ). IsTrue b ↔ P k) (sym m) now)
    ]

-- one more number
pub more_numbers : (P : ℕ → ℕ → Type 0) (xs : List ℕ) (x n : ℕ) → length xs ≡ n → ((i : ℕ) → i < n → P i (get_or xs i 0)) → P n x → (i : ℕ) → i < n + 1 → P i (get_or (xs ++ x ∷ []) i 0)
more_numbers P xs x n e each now i h =
    elim (before_next i n h) [
      | inl m ↦ subst (λ (y : ℕ). P i y) (sym (one_before xs x 0 i (omega (arith, m, e)))) (each i m)
      | inr m ↦ subst (λ (y : ℕ). P i y) (sym (last_one xs x 0 i (e ∙ sym m))) (subst (λ (k : ℕ). P k x) (sym m) now)
    ]

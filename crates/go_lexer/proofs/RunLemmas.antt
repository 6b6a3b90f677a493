-- Lemmas on specs/Runs.antt: a run piece by piece.
use Rattle.std.proofs.Common.{◌≡◌, ◌≤◌, ◌<◌, ◌+◌, ◌-◌, ℕ, zero, suc, List, [], ◌∷◌, length, drop, min, refl, sym, ap, ◌∙◌, arith, take, length-drop}
use Rattle.std.proofs.lemmas.List.{drop_all, take_all, drop-drop}
use Rattle.go_lexer.specs.Runs.{run_after, run_len, width_of}
use Rattle.go_lexer.specs.declared.run.Class.{Class}

module _ (width : List ℕ → ℕ) where
  -- what is passed over comes first
  pub run_after-over : (over : ℕ) (text : List ℕ) → run_after width over text ≡ min over (length text) + run_after width 0 (drop over text)
  run_after-over zero text = omega arith
  run_after-over (suc over) [] = omega arith
  run_after-over (suc over) (b ∷ text) = let h = run_after-over over text in omega arith

  abbrev taken : List ℕ → ℕ → ℕ
  taken text w = elim w [ zero ↦ 0 | suc n ↦ suc (run_after width n text) ]

  -- one step of a run
  pub run_after-step : (text : List ℕ) (m : ℕ) → 0 < length text → width text ≡ suc m → run_after width 0 text ≡ min (suc m) (length text) + run_after width 0 (drop (suc m) text)
  run_after-step [] m some e = absurd (omega arith)
  run_after-step (b ∷ text) m some e =
      let h = run_after-over m text in
      let first : run_after width 0 (b ∷ text) ≡ suc (run_after width m text) = ap (taken text) e in
      omega arith

  -- a run stops where it takes nothing
  pub run_after-stops : (text : List ℕ) → width text ≡ 0 → run_after width 0 text ≡ 0
  run_after-stops [] e = refl
  run_after-stops (b ∷ text) e = ap (taken text) e

-- what `&text[n..]` is
pub rest_at : (text : List ℕ) (n : ℕ) → take (length text - n) (drop n text) ≡ drop n text
rest_at text n = take_all (length text - n) (drop n text) (let h = length-drop n text in omega arith)

module _ (width : List ℕ → ℕ) (text : List ℕ) (n more : ℕ) (within : n < length text) (is : more ≡ width (take (length text - n) (drop n text))) (done : run_after width 0 text ≡ min n (length text) + run_after width 0 (drop n text)) where
  width_is : width (drop n text) ≡ more
  width_is = sym (is ∙ ap width (rest_at text n))

  -- one turn of the loop
  pub run_after-turn : (more ≡ 0 → ⊥) → run_after width 0 text ≡ min (n + more) (length text) + run_after width 0 (drop (n + more) text)
  run_after-turn some =
      let len : length (drop n text) ≡ length text - n = length-drop n text in
      let pred : more ≡ suc (more - 1) = omega arith in
      let h = run_after-step width (drop n text) (more - 1) (omega arith) (width_is ∙ pred) in
      let d : drop (suc (more - 1)) (drop n text) ≡ drop (n + more) text = ap (λ k. drop k (drop n text)) (sym pred) ∙ drop-drop more n text in
      let e : run_after width 0 (drop (suc (more - 1)) (drop n text)) ≡ run_after width 0 (drop (n + more) text) = ap (run_after width 0) d in
      omega arith

  -- the loop's end where the run stops
  pub run_after-end : more ≡ 0 → run_after width 0 text ≡ min n (length text)
  run_after-end none = let h = run_after-stops width (drop n text) (width_is ∙ none) in omega arith

-- the loop's end where the text ends
pub run_after-all : (width : List ℕ → ℕ) (text : List ℕ) (n : ℕ) → length text ≤ n → run_after width 0 text ≡ min n (length text) + run_after width 0 (drop n text) → run_after width 0 text ≡ min n (length text)
run_after-all width text n past done = let e : run_after width 0 (drop n text) ≡ 0 = ap (run_after width 0) (drop_all n text past) in omega arith

-- what a run takes after a first width stays within the text
taken-le : (width : List ℕ → ℕ) (text : List ℕ) (w : ℕ) → ((n : ℕ) → run_after width n text ≤ length text) → taken width text w ≤ suc (length text)
taken-le width text zero h = omega arith
taken-le width text (suc n) h = let le = h n in omega arith

-- a run stays within the text
pub run_after-le : (width : List ℕ → ℕ) (over : ℕ) (text : List ℕ) → run_after width over text ≤ length text
run_after-le width over [] = omega arith
run_after-le width (suc over) (b ∷ text) = let h = run_after-le width over text in omega arith
run_after-le width zero (b ∷ text) = taken-le width text (width (b ∷ text)) (λ n. run_after-le width n text)

pub run_len-le : (class : Class) (text : List ℕ) → run_len class text ≤ length text
unfolding run_len
run_len-le class text = run_after-le (width_of class) 0 text

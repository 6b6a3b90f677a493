-- Values of variables that are written, read and weighed, one after another.
use Rattle.std.proofs.Common.{refl, sym, ap, ◌∙◌, arith}
use Rattle.std.specs.Prelude.{◌≡◌, ◌≤◌, ℕ, ◌+◌, List, [], ◌∷◌, ◌++◌, length, take, drop, Option, Some, None, option_map, option_and_then}
use Rattle.std.proofs.lemmas.List.{drop_all, take_all, append-nil}
use Rattle.go_core.specs.CoreTree as tree
use Rattle.go_core.specs.CoreTree.{CoreProgram}
use Rattle.go_core.specs.Layout.{shape_of, size, weight}
use Rattle.go_core.specs.Memory as core
use Rattle.go_core.specs.Memory.{Value, read_cells, with_written}
use Rattle.go_core.specs.Goroutine as defined
use Rattle.go_core.specs.Goroutine.{base_in}
use Rattle.go_core.specs.Calls.{weights, with_stored, results_of}
use Rattle.go_state.proofs.Lists.{gathered}

-- what is written through a borrow of all of a vector
pub refilled : {A : Type 0} (n : ℕ) (xs ys : List A) → length xs ≡ n → length ys ≡ n → take n (xs ++ drop (length xs) ys) ≡ xs
refilled {A} n xs ys h k =
    ap (λ (zs : List A). take n (xs ++ zs)) (drop_all (length xs) ys (omega (arith, h, k)))
    ∙ ap (take n) (append-nil xs)
    ∙ take_all n xs (omega (arith, h))

module _ (p : CoreProgram) (g : ℕ) (vs : List tree.Var) where
  pub weights_step : (i before one next all : ℕ) (v : tree.Var) → drop i vs ≡ v ∷ drop (i + 1) vs → next ≡ before + one → one ≡ weight (shape_of p.names v.type_)
      → before + weights p g (drop i vs) ≡ all → next + weights p g (drop (i + 1) vs) ≡ all
  weights_step i before one next all v d e f k = let h = ap (weights p g) d in omega (arith, h, e, f, k)

  pub weights_end : (i before all : ℕ) → length vs ≤ i → before + weights p g (drop i vs) ≡ all → before ≡ all
  weights_end i before all h k = let e = ap (weights p g) (drop_all i vs h) in omega (arith, e, k)

  module _ (at : List defined.Place) where
    module _ (xs : List Value) (o : Option core.Memory) where
      abbrev next_stored : ℕ → Value → core.Memory → Option ℕ → Option core.Memory
      next_stored i x m q = option_and_then (λ (b : ℕ). with_stored p g (drop (i + 1) vs) (drop (i + 1) xs) at (with_written m b x)) q

      pub stored_step : (i b : ℕ) (v : tree.Var) (x : Value) (m n : core.Memory) → drop i vs ≡ v ∷ drop (i + 1) vs → drop i xs ≡ x ∷ drop (i + 1) xs
          → base_in v.id at ≡ Some b → n ≡ with_written m b x → with_stored p g (drop i vs) (drop i xs) at m ≡ o → with_stored p g (drop (i + 1) vs) (drop (i + 1) xs) at n ≡ o
      stored_step i b v x m n d e f w k =
          ap (with_stored p g (drop (i + 1) vs) (drop (i + 1) xs) at) w
          ∙ sym (ap (next_stored i x m) f)
          ∙ sym (ap (λ (ys : List Value). with_stored p g (v ∷ drop (i + 1) vs) ys at m) e)
          ∙ sym (ap (λ (us : List tree.Var). with_stored p g us (drop i xs) at m) d)
          ∙ k

      pub stored_none : (i : ℕ) (v : tree.Var) (x : Value) (m : core.Memory) → drop i vs ≡ v ∷ drop (i + 1) vs → drop i xs ≡ x ∷ drop (i + 1) xs
          → base_in v.id at ≡ None → with_stored p g (drop i vs) (drop i xs) at m ≡ o → o ≡ None
      stored_none i v x m d e f k =
          sym k
          ∙ ap (λ (us : List tree.Var). with_stored p g us (drop i xs) at m) d
          ∙ ap (λ (ys : List Value). with_stored p g (v ∷ drop (i + 1) vs) ys at m) e
          ∙ ap (next_stored i x m) f

      pub stored_end : (i : ℕ) (m : core.Memory) → length vs ≤ i → length xs ≤ i → with_stored p g (drop i vs) (drop i xs) at m ≡ o → o ≡ Some m
      stored_end i m h j k =
          sym k
          ∙ ap (λ (us : List tree.Var). with_stored p g us (drop i xs) at m) (drop_all i vs h)
          ∙ ap (λ (ys : List Value). with_stored p g [] ys at m) (drop_all i xs j)

    module _ (m : core.Memory) (o : Option (List Value)) where
      abbrev value_at : tree.Var → ℕ → Value
      value_at v b = read_cells b (size (shape_of p.names v.type_)) m.cells

      abbrev next_result : List Value → ℕ → tree.Var → Option ℕ → Option (List Value)
      next_result held i v q =
          option_map (λ (ys : List Value). held ++ ys) (option_and_then (λ (b : ℕ). option_and_then (λ (xs : List Value). Some (value_at v b ∷ xs)) (results_of p g (drop (i + 1) vs) at m)) q)

      pub results_step : (i b : ℕ) (v : tree.Var) (held more : List Value) → drop i vs ≡ v ∷ drop (i + 1) vs → base_in v.id at ≡ Some b → more ≡ held ++ value_at v b ∷ []
          → option_map (λ (ys : List Value). held ++ ys) (results_of p g (drop i vs) at m) ≡ o → option_map (λ (ys : List Value). more ++ ys) (results_of p g (drop (i + 1) vs) at m) ≡ o
      results_step i b v held more d f e k =
          ap (λ (xs : List Value). option_map (λ (ys : List Value). xs ++ ys) (results_of p g (drop (i + 1) vs) at m)) e
          ∙ sym (gathered held (value_at v b) (results_of p g (drop (i + 1) vs) at m))
          ∙ sym (ap (next_result held i v) f)
          ∙ sym (ap (λ (us : List tree.Var). option_map (λ (ys : List Value). held ++ ys) (results_of p g us at m)) d)
          ∙ k

      pub results_none : (i : ℕ) (v : tree.Var) (held : List Value) → drop i vs ≡ v ∷ drop (i + 1) vs → base_in v.id at ≡ None
          → option_map (λ (ys : List Value). held ++ ys) (results_of p g (drop i vs) at m) ≡ o → o ≡ None
      results_none i v held d f k =
          sym k ∙ ap (λ (us : List tree.Var). option_map (λ (ys : List Value). held ++ ys) (results_of p g us at m)) d ∙ ap (next_result held i v) f

      pub results_end : (i : ℕ) (held : List Value) → length vs ≤ i → option_map (λ (ys : List Value). held ++ ys) (results_of p g (drop i vs) at m) ≡ o → o ≡ Some held
      results_end i held h k =
          sym k ∙ ap (λ (us : List tree.Var). option_map (λ (ys : List Value). held ++ ys) (results_of p g us at m)) (drop_all i vs h) ∙ ap (λ (us : List Value). Some us) (append-nil held)

none_after : (f : ℕ → Option core.Memory) → ((b : ℕ) → f b ≡ None) → (o : Option ℕ) → option_and_then f o ≡ None
none_after f h None = refl
none_after f h (Some b) = h b

pub stored_unequal : (p : CoreProgram) (g : ℕ) (vs : List tree.Var) (xs : List Value) (at : List defined.Place) (m : core.Memory) → ¬ (length vs ≡ length xs) → with_stored p g vs xs at m ≡ None
stored_unequal p g [] [] at m h = absurd (h refl)
stored_unequal p g [] (x ∷ xs) at m h = refl
stored_unequal p g (v ∷ vs) [] at m h = refl
stored_unequal p g (v ∷ vs) (x ∷ xs) at m h =
    none_after (λ (b : ℕ). with_stored p g vs xs at (with_written m b x)) (λ b. stored_unequal p g vs xs at (with_written m b x) (λ e. h (omega (arith, e)))) (base_in v.id at)

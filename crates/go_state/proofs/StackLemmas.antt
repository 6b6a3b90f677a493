-- Stacks that lie with their top last.
use Rattle.std.proofs.Common.{◌≡◌, ◌+◌, ◌-◌, ◌<◌, ◌≤◌, refl, ap, sym, ◌∙◌, arith, ℕ, zero, suc, List, [], ◌∷◌, ◌++◌, length, take, drop}
use Rattle.std.specs.Prelude.{Bool, Some, None, ◌==◌, if◌then◌else◌}
use Rattle.std.specs.List.{fold}
use Rattle.std.specs.Borrow.{Bor}
use Rattle.std.proofs.lemmas.Bool.{eq-eqb, ne_eqb}
use Rattle.std.proofs.lemmas.List.Sums.{fold-append}
use Rattle.std.proofs.lemmas.List.{append-nil, take-append-drop, length-drop, length-map}
use Rattle.go_type.specs.Tree.{Ty}
use Rattle.go_core.specs.Memory.{Value}
use Rattle.go_core.specs.Goroutine as defined
use Rattle.go_core.specs.Goroutine.{Popped, popped, popped_before, pushed, base_in}
use Rattle.go_values.specs.ValuesSeen.{value_of, values_of}
use Rattle.go_values.specs.declared.values.scalar.Scalar.{Scalar}
use Rattle.go_state.specs.StateSeen.{stack_of, place_of, places_of}
use Rattle.go_state.specs.declared.state.frame.Place.{Place}

-- ---- of values

pub pushed_append : (xs ys : List Value) (st : List Value) → pushed (xs ++ ys) st ≡ pushed ys (pushed xs st)
pushed_append [] ys st = refl
pushed_append (x ∷ xs) ys st = pushed_append xs ys (x ∷ st)

length_pushed : (xs st : List Value) → length (pushed xs st) ≡ length xs + length st
length_pushed [] st = omega arith
length_pushed (x ∷ xs) st = let e = length_pushed xs (x ∷ st) in omega (arith, e)

popped_few : (n : ℕ) (st vs : List Value) → length st < n → popped_before n st vs ≡ None
popped_few zero st vs l = absurd (omega arith)
popped_few (suc n) [] vs l = refl
popped_few (suc n) (v ∷ st) vs l = popped_few n st (v ∷ vs) (omega arith)

popped_on : (xs : List Value) (k n : ℕ) (st vs : List Value) → n ≡ length xs + k → popped_before n (pushed xs st) vs ≡ popped_before k st (xs ++ vs)
popped_on [] k n st vs e = ap (λ m. popped_before m st vs) (omega (arith, e))
popped_on (x ∷ xs) k n st vs e = popped_on xs (suc k) n (x ∷ st) vs (omega (arith, e))

pub popped_all : (xs st : List Value) (n : ℕ) → n ≡ length xs → popped n (pushed xs st) ≡ Some (record { operands = xs; others = st })
popped_all xs st n e = popped_on xs 0 n st [] (omega (arith, e)) ∙ ap (λ (us : List Value). Some (record { operands = us; others = st })) (append-nil xs)

pub popped_none : (xs st : List Value) (n : ℕ) → length xs + length st < n → popped n (pushed xs st) ≡ None
popped_none xs st n l = popped_few n (pushed xs st) [] (let e = length_pushed xs st in omega (arith, e))

drop_none : (k : ℕ) (vs : List Value) → vs ≡ [] → drop k vs ≡ []
drop_none zero vs e = e
drop_none (suc k) [] e = refl
drop_none (suc k) (v ∷ vs) e = absurd (cc)

dropped_on : (xs : List Value) (k n : ℕ) (st : List Value) → n ≡ length xs + k → drop n (pushed xs st) ≡ drop k st
dropped_on [] k n st e = ap (λ m. drop m st) (omega (arith, e))
dropped_on (x ∷ xs) k n st e = dropped_on xs (suc k) n (x ∷ st) (omega (arith, e))

-- ---- of the values of a program

module _ (ts : List Ty) where
  pub stack_pushed : (xs : List (Bor (List Scalar))) → stack_of ts xs ≡ pushed (values_of ts xs) []
  stack_pushed xs = onto xs []
    where
      onto : (xs : List (Bor (List Scalar))) (st : List Value) → fold (λ rest v. value_of ts v.now ∷ rest) st xs ≡ pushed (values_of ts xs) st
      onto [] st = refl
      onto (x ∷ xs) st = onto xs (value_of ts x.now ∷ st)

  -- values on top
  pub stack_append : (xs ys : List (Bor (List Scalar))) → stack_of ts (xs ++ ys) ≡ pushed (values_of ts ys) (stack_of ts xs)
  stack_append xs ys =
      fold-append (λ (rest : List Value) (v : Bor (List Scalar)). value_of ts v.now ∷ rest) [] xs ys ∙ onto ys (stack_of ts xs)
    where
      onto : (xs : List (Bor (List Scalar))) (st : List Value) → fold (λ rest v. value_of ts v.now ∷ rest) st xs ≡ pushed (values_of ts xs) st
      onto [] st = refl
      onto (x ∷ xs) st = onto xs (value_of ts x.now ∷ st)

  -- cut in two
  stack_cut : (xs : List (Bor (List Scalar))) (n : ℕ) → stack_of ts xs ≡ pushed (values_of ts (drop n xs)) (stack_of ts (take n xs))
  stack_cut xs n = ap (stack_of ts) (sym (take-append-drop n xs)) ∙ stack_append (take n xs) (drop n xs)

  length_values : (xs : List (Bor (List Scalar))) → length (values_of ts xs) ≡ length xs
  length_values xs = length-map xs (λ v. value_of ts v.now)

  pub stack_popped : (xs : List (Bor (List Scalar))) (count n : ℕ) → count + n ≡ length xs
      → popped count (stack_of ts xs) ≡ Some (record { operands = values_of ts (drop n xs); others = stack_of ts (take n xs) })
  stack_popped xs count n e =
      ap (popped count) (stack_cut xs n)
      ∙ popped_all (values_of ts (drop n xs)) (stack_of ts (take n xs)) count (let k = length_values (drop n xs) in let d = length-drop n xs in omega (arith, e, k, d))

  pub stack_few : (xs : List (Bor (List Scalar))) (count : ℕ) → length xs < count → popped count (stack_of ts xs) ≡ None
  stack_few xs count l = ap (popped count) (stack_pushed xs) ∙ popped_none (values_of ts xs) [] count (let k = length_values xs in omega (arith, l, k))

  pub stack_dropped : (xs : List (Bor (List Scalar))) (count n : ℕ) → count + n ≡ length xs → drop count (stack_of ts xs) ≡ stack_of ts (take n xs)
  stack_dropped xs count n e =
      ap (drop count) (stack_cut xs n)
      ∙ dropped_on (values_of ts (drop n xs)) 0 count (stack_of ts (take n xs)) (let k = length_values (drop n xs) in let d = length-drop n xs in omega (arith, e, k, d))

  pub stack_emptied : (xs : List (Bor (List Scalar))) (count : ℕ) → length xs ≤ count → drop count (stack_of ts xs) ≡ []
  stack_emptied xs count l =
      ap (drop count) (stack_pushed xs)
      ∙ dropped_on (values_of ts xs) (count - length xs) count [] (let k = length_values xs in omega (arith, l, k))
      ∙ drop_none (count - length xs) [] refl

  -- ---- by what the program has done

  pub stack_split : (xs ys zs : List (Bor (List Scalar))) (count n : ℕ) → count + n ≡ length xs → ys ≡ take n xs → zs ≡ drop n xs
      → popped count (stack_of ts xs) ≡ Some (record { operands = values_of ts zs; others = stack_of ts ys })
  stack_split xs ys zs count n e t d =
      stack_popped xs count n e
      ∙ ap (λ (us : List (Bor (List Scalar))). Some (record { operands = values_of ts us; others = stack_of ts (take n xs) })) (sym d)
      ∙ ap (λ (us : List (Bor (List Scalar))). Some (record { operands = values_of ts zs; others = stack_of ts us })) (sym t)

  pub stack_kept : (xs ys : List (Bor (List Scalar))) (count n : ℕ) → count + n ≡ length xs → ys ≡ take n xs → stack_of ts ys ≡ drop count (stack_of ts xs)
  stack_kept xs ys count n e t = ap (stack_of ts) t ∙ sym (stack_dropped xs count n e)

  pub stack_cleared : (xs ys : List (Bor (List Scalar))) (count : ℕ) → length xs ≤ count → ys ≡ [] → stack_of ts ys ≡ drop count (stack_of ts xs)
  stack_cleared xs ys count l e = ap (stack_of ts) e ∙ sym (stack_emptied xs count l)

-- ---- places of variables

pub base_popped : (v : ℕ) (ps qs : List Place) (p : Place) → ps ≡ qs ++ p ∷ []
    → base_in v (places_of ps) ≡ (if p.var.0 == v then Some p.base else base_in v (places_of qs))
base_popped v ps qs p e =
    ap (λ (rs : List Place). base_in v (places_of rs)) e
    ∙ ap (base_in v) (fold-append (λ (rest : List defined.Place) (q : Place). place_of q ∷ rest) [] qs (p ∷ []))

pub base_here : (v : ℕ) (ps qs : List Place) (p : Place) → ps ≡ qs ++ p ∷ [] → p.var.0 ≡ v → base_in v (places_of ps) ≡ Some p.base
base_here v ps qs p e h = base_popped v ps qs p e ∙ ap (λ (c : Bool). if c then Some p.base else base_in v (places_of qs)) (eq-eqb p.var.0 v h)

pub base_past : (v : ℕ) (ps qs : List Place) (p : Place) → ps ≡ qs ++ p ∷ [] → (p.var.0 ≡ v → ⊥) → base_in v (places_of ps) ≡ base_in v (places_of qs)
base_past v ps qs p e h = base_popped v ps qs p e ∙ ap (λ (c : Bool). if c then Some p.base else base_in v (places_of qs)) (ne_eqb p.var.0 v h)

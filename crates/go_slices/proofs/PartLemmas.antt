-- Parts of composite literals, and package variables, one after another.
use Rattle.std.proofs.Common.{refl, sym, ap, ◌∙◌, arith}
use Rattle.std.specs.Prelude.{◌≡◌, ◌<◌, ◌≤◌, ℕ, suc, ◌+◌, ◌-◌, List, [], ◌∷◌, length, drop}
use Rattle.std.proofs.lemmas.List.{drop_all}
use Rattle.go_type.specs.Named.{NamedTy}
use Rattle.go_core.specs.CoreTree.{PackageVar}
use Rattle.go_core.specs.Layout.{shape_of, size}
use Rattle.go_core.specs.Memory.{Value, written}
use Rattle.go_core.specs.StepMemory.{with_elements, global_base}

module _ (f : ℕ → ℕ) where
  pub parts_step : (is : List ℕ) (vs : List Value) (i k : ℕ) (v xs ys all : Value) → drop i is ≡ k ∷ drop (i + 1) is → drop i vs ≡ v ∷ drop (i + 1) vs
      → ys ≡ written xs (f k) v → with_elements f (drop i is) (drop i vs) xs ≡ all → with_elements f (drop (i + 1) is) (drop (i + 1) vs) ys ≡ all
  parts_step is vs i k v xs ys all d e w h =
      ap (with_elements f (drop (i + 1) is) (drop (i + 1) vs)) w
      ∙ sym (ap (λ (us : List Value). with_elements f (k ∷ drop (i + 1) is) us xs) e)
      ∙ sym (ap (λ (js : List ℕ). with_elements f js (drop i vs) xs) d)
      ∙ h

  no_values : (is : List ℕ) (xs : Value) → with_elements f is [] xs ≡ xs
  no_values [] xs = refl
  no_values (i ∷ is) xs = refl

  no_indexes : (vs : List Value) (xs : Value) → with_elements f [] vs xs ≡ xs
  no_indexes [] xs = refl
  no_indexes (v ∷ vs) xs = refl

  pub parts_out : (is : List ℕ) (vs : List Value) (i : ℕ) (xs all : Value) → length vs ≤ i → with_elements f (drop i is) (drop i vs) xs ≡ all → xs ≡ all
  parts_out is vs i xs all h k =
      sym (no_values (drop i is) xs) ∙ sym (ap (λ (us : List Value). with_elements f (drop i is) us xs) (drop_all i vs h)) ∙ k

  pub parts_end : (is : List ℕ) (vs : List Value) (i : ℕ) (xs all : Value) → length is ≤ i → with_elements f (drop i is) (drop i vs) xs ≡ all → xs ≡ all
  parts_end is vs i xs all h k =
      sym (no_indexes (drop i vs) xs) ∙ sym (ap (λ (js : List ℕ). with_elements f js (drop i vs) xs) (drop_all i is h)) ∙ k

-- ---- package variables

module _ (ns : List NamedTy) (all : List PackageVar) where
  pub base_step : (i n base next : ℕ) (g : PackageVar) → i < n → drop i all ≡ g ∷ drop (i + 1) all → next ≡ base + size (shape_of ns g.type_)
      → base + global_base ns (drop i all) (n - i) ≡ global_base ns all n → next + global_base ns (drop (i + 1) all) (n - (i + 1)) ≡ global_base ns all n
  base_step i n base next g h d e k =
      let s : n - i ≡ suc (n - (i + 1)) = omega (arith, h) in
      let more = global_base ns (drop (i + 1) all) (n - (i + 1)) in
      let one : ℕ = size (shape_of ns g.type_) in
      let sum : next + more ≡ base + (one + more) = omega (arith, e) in
      sum
      ∙ sym (ap (λ (j : ℕ). base + global_base ns (g ∷ drop (i + 1) all) j) s)
      ∙ sym (ap (λ (gs : List PackageVar). base + global_base ns gs (n - i)) d)
      ∙ k

  first_base : (gs : List PackageVar) → global_base ns gs 0 ≡ 0
  first_base [] = refl
  first_base (g ∷ gs) = refl

  pub base_out : (i n base : ℕ) → n ≤ i → base + global_base ns (drop i all) (n - i) ≡ global_base ns all n → base ≡ global_base ns all n
  base_out i n base h k =
      let z : n - i ≡ 0 = omega (arith, h) in
      let f = ap (global_base ns (drop i all)) z ∙ first_base (drop i all) in
      omega (arith, f, k)

  pub base_end : (i n base : ℕ) → length all ≤ i → base + global_base ns (drop i all) (n - i) ≡ global_base ns all n → base ≡ global_base ns all n
  base_end i n base h k =
      let f = ap (λ (gs : List PackageVar). global_base ns gs (n - i)) (drop_all i all h) in
      let z : global_base ns [] (n - i) ≡ 0 = refl in
      omega (arith, f, z, k)

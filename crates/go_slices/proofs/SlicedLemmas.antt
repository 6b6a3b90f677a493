-- What has no part: values that are not one scalar.
use Rattle.std.proofs.Common.{refl}
use Rattle.std.specs.Prelude.{◌≡◌, ℕ, List, [], ◌∷◌, length}
use Rattle.go_type.specs.Tree.{Ty, bool, str, int, nil, untyped, array, slice, struct, pointer, func, interface, mapping, chan, named, tuple}
use Rattle.go_type.specs.Named.{NamedTy}
use Rattle.go_core.specs.Memory as core
use Rattle.go_core.specs.Memory.{Value, Memory}
use Rattle.go_core.specs.Did.{Did, no_step}
use Rattle.go_core.specs.StepSlices.{Bounds, sliced}

module _ (ns : List NamedTy) (bounds : ℕ → ℕ → (Bounds → Did) → Did) (m : Memory) where
  no_text : (xs : Value) → ¬ (length xs ≡ 1) → sliced ns str bounds xs m ≡ no_step
  no_text [] h = refl
  no_text (x ∷ []) h = absurd (h refl)
  no_text ((core.truth b) ∷ y ∷ xs) h = refl
  no_text ((core.whole n) ∷ y ∷ xs) h = refl
  no_text ((core.text bs) ∷ y ∷ xs) h = refl
  no_text (core.nil ∷ y ∷ xs) h = refl
  no_text ((core.pointer base) ∷ y ∷ xs) h = refl
  no_text ((core.slice base n k) ∷ y ∷ xs) h = refl
  no_text ((core.function f bs) ∷ y ∷ xs) h = refl
  no_text ((core.bound_method row r) ∷ y ∷ xs) h = refl
  no_text ((core.interface u ys) ∷ y ∷ xs) h = refl
  no_text ((core.map n) ∷ y ∷ xs) h = refl
  no_text ((core.channel n) ∷ y ∷ xs) h = refl

  no_elements : (t : Ty) (xs : Value) → ¬ (length xs ≡ 1) → sliced ns (slice t) bounds xs m ≡ no_step
  no_elements t [] h = refl
  no_elements t (x ∷ []) h = absurd (h refl)
  no_elements t ((core.truth b) ∷ y ∷ xs) h = refl
  no_elements t ((core.whole n) ∷ y ∷ xs) h = refl
  no_elements t ((core.text bs) ∷ y ∷ xs) h = refl
  no_elements t (core.nil ∷ y ∷ xs) h = refl
  no_elements t ((core.pointer base) ∷ y ∷ xs) h = refl
  no_elements t ((core.slice base n k) ∷ y ∷ xs) h = refl
  no_elements t ((core.function f bs) ∷ y ∷ xs) h = refl
  no_elements t ((core.bound_method row r) ∷ y ∷ xs) h = refl
  no_elements t ((core.interface u ys) ∷ y ∷ xs) h = refl
  no_elements t ((core.map n) ∷ y ∷ xs) h = refl
  no_elements t ((core.channel n) ∷ y ∷ xs) h = refl

  no_array : (t : Ty) (xs : Value) → ¬ (length xs ≡ 1) → sliced ns (pointer t) bounds xs m ≡ no_step
  no_array t [] h = refl
  no_array t (x ∷ []) h = absurd (h refl)
  no_array t ((core.truth b) ∷ y ∷ xs) h = refl
  no_array t ((core.whole n) ∷ y ∷ xs) h = refl
  no_array t ((core.text bs) ∷ y ∷ xs) h = refl
  no_array t (core.nil ∷ y ∷ xs) h = refl
  no_array t ((core.pointer base) ∷ y ∷ xs) h = refl
  no_array t ((core.slice base n k) ∷ y ∷ xs) h = refl
  no_array t ((core.function f bs) ∷ y ∷ xs) h = refl
  no_array t ((core.bound_method row r) ∷ y ∷ xs) h = refl
  no_array t ((core.interface u ys) ∷ y ∷ xs) h = refl
  no_array t ((core.map n) ∷ y ∷ xs) h = refl
  no_array t ((core.channel n) ∷ y ∷ xs) h = refl

  pub no_part : (t : Ty) (xs : Value) → ¬ (length xs ≡ 1) → sliced ns t bounds xs m ≡ no_step
  no_part bool xs h = refl
  no_part str xs h = no_text xs h
  no_part (int name) xs h = refl
  no_part nil xs h = refl
  no_part (untyped b) xs h = refl
  no_part (array n t) xs h = refl
  no_part (slice t) xs h = no_elements t xs h
  no_part (struct fs) xs h = refl
  no_part (pointer t) xs h = no_array t xs h
  no_part (func ps rs v) xs h = refl
  no_part (interface ms) xs h = refl
  no_part (mapping k v) xs h = refl
  no_part (chan d t) xs h = refl
  no_part (named id) xs h = refl
  no_part (tuple ts) xs h = refl

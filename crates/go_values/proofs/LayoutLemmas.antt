-- A layout that grows, and what shapes have of scalars.
use Rattle.std.proofs.Common.{refl, sym, ap, ◌∙◌, arith}
use Rattle.std.specs.Prelude.{◌≡◌, ◌<◌, ℕ, zero, suc, ◌+◌, ◌-◌, ◌*◌, List, [], ◌∷◌, ◌++◌, Bool, true, false, ◌&&◌, length, replicate}
use Rattle.std.proofs.lemmas.List.{append_assoc, append-nil, length-append, length-map}
use Rattle.std.proofs.Math.Nat.{suc-mul}
use Rattle.go_type.specs.Tree.{Ty}
use Rattle.go_core.specs.Layout.{ScalarKind, Shape, one, many, Parts, no_parts, part, size, parts_size, at_least_one, composites, parts_composites, flags, parts_flags, padded_flags}
use Rattle.go_core.specs.Memory.{Scalar, Value, zeros, parts_zeros, zero_scalar, padded}
use Rattle.go_values.specs.ValuesSeen.{value_of}
use Rattle.go_values.specs.Laid.{masked, Adds, AddsParts, IsLaid}
use Rattle.go_values.specs.declared.layouts.layout.Layout.{Layout}

length_replicate : (n : ℕ) (b : Bool) → length (replicate n b) ≡ n
length_replicate zero b = refl
length_replicate (suc n) b = ap suc (length_replicate n b)

masked_append : (b : Bool) (fs gs : List Bool) → masked b (fs ++ gs) ≡ masked b fs ++ masked b gs
masked_append true fs gs = refl
masked_append false [] gs = refl
masked_append false (f ∷ fs) gs = ap (λ (xs : List Bool). false ∷ xs) (masked_append false fs gs)

masked_twice : (b c : Bool) (fs : List Bool) → masked b (masked c fs) ≡ masked (b && c) fs
masked_twice true c fs = refl
masked_twice false true fs = refl
masked_twice false false fs = ap (λ (n : ℕ). replicate n false) (length_replicate (length fs) false)

length_padded_flags : (fs : List Bool) → length (padded_flags fs) ≡ at_least_one (length fs)
length_padded_flags [] = refl
length_padded_flags (f ∷ fs) = refl

length_padded : (xs : Value) → length (padded xs) ≡ at_least_one (length xs)
length_padded [] = refl
length_padded (x ∷ xs) = refl

mutual
  length_flags : (s : Shape) → length (flags s) ≡ size s
  length_flags (one kind) = refl
  length_flags (many ps) = length_padded_flags (parts_flags ps) ∙ ap at_least_one (length_parts_flags ps)

  pub length_parts_flags : (ps : Parts) → length (parts_flags ps) ≡ parts_size ps
  length_parts_flags no_parts = refl
  length_parts_flags (part true s ps) = length-append (flags s) (parts_flags ps) ∙ ap (λ (n : ℕ). n + length (parts_flags ps)) (length_flags s) ∙ ap (λ (n : ℕ). size s + n) (length_parts_flags ps)
  length_parts_flags (part false s ps) = length-append (replicate (size s) false) (parts_flags ps) ∙ ap (λ (n : ℕ). n + length (parts_flags ps)) (length_replicate (size s) false) ∙ ap (λ (n : ℕ). size s + n) (length_parts_flags ps)

mutual
  pub length_zeros : (s : Shape) → length (zeros s) ≡ size s
  length_zeros (one kind) = refl
  length_zeros (many ps) = length_padded (parts_zeros ps) ∙ ap at_least_one (length_parts_zeros ps)

  pub length_parts_zeros : (ps : Parts) → length (parts_zeros ps) ≡ parts_size ps
  length_parts_zeros no_parts = refl
  length_parts_zeros (part c s ps) = length-append (zeros s) (parts_zeros ps) ∙ ap (λ (n : ℕ). n + length (parts_zeros ps)) (length_zeros s) ∙ ap (λ (n : ℕ). size s + n) (length_parts_zeros ps)

part_flags : (c : Bool) (s : Shape) (ps : Parts) → parts_flags (part c s ps) ≡ masked c (flags s) ++ parts_flags ps
part_flags true s ps = refl
part_flags false s ps = ap (λ (n : ℕ). replicate n false ++ parts_flags ps) (sym (length_flags s))

-- with the rest, the layout will have these parts more than it had
pub record Onward (ts : List Ty) (start now : Layout) (looked : Bool) (rest all : Parts) : Type 0 where
  pub zeros_ : value_of ts now.zeros.items ++ parts_zeros rest ≡ value_of ts start.zeros.items ++ parts_zeros all
  pub flags_ : now.flags.items ++ masked looked (parts_flags rest) ≡ start.flags.items ++ masked looked (parts_flags all)
  pub composites_ : now.composites + parts_composites rest ≡ start.composites + parts_composites all

pub onward_start : (ts : List Ty) (l : Layout) (looked : Bool) (ps : Parts) → Onward ts l l looked ps ps
onward_start ts l looked ps = record { zeros_ = refl; flags_ = refl; composites_ = refl }

masked_part : (looked c : Bool) (s : Shape) (ps : Parts) → masked looked (parts_flags (part c s ps)) ≡ masked (looked && c) (flags s) ++ masked looked (parts_flags ps)
masked_part looked c s ps =
    ap (masked looked) (part_flags c s ps)
    ∙ masked_append looked (masked c (flags s)) (parts_flags ps)
    ∙ ap (λ (fs : List Bool). fs ++ masked looked (parts_flags ps)) (masked_twice looked c (flags s))

pub onward_step : (ts : List Ty) (start now next : Layout) (looked c d : Bool) (s : Shape) (rest all : Parts) → d ≡ (looked && c)
    → Onward ts start now looked (part c s rest) all → Adds ts now next d s → Onward ts start next looked rest all
onward_step ts start now next looked c d s rest all e h a = record {
  zeros_ =
      ap (λ (xs : Value). xs ++ parts_zeros rest) a.zeros_
      ∙ append_assoc (value_of ts now.zeros.items) (zeros s) (parts_zeros rest)
      ∙ h.zeros_;
  flags_ =
      ap (λ (fs : List Bool). fs ++ masked looked (parts_flags rest)) a.flags_
      ∙ append_assoc now.flags.items (masked d (flags s)) (masked looked (parts_flags rest))
      ∙ ap (λ (b : Bool). now.flags.items ++ (masked b (flags s) ++ masked looked (parts_flags rest))) e
      ∙ ap (λ (fs : List Bool). now.flags.items ++ fs) (sym (masked_part looked c s rest))
      ∙ h.flags_;
  composites_ =
      let e1 : next.composites ≡ now.composites + composites s = a.composites_ in
      let e2 : now.composites + (composites s + parts_composites rest) ≡ start.composites + parts_composites all = h.composites_ in
      omega (arith, e1, e2);
}

pub onward_end : (ts : List Ty) (start now : Layout) (looked : Bool) (all : Parts) → Onward ts start now looked no_parts all → AddsParts ts start now looked all
onward_end ts start now looked all h = record {
  zeros_ = sym (append-nil (value_of ts now.zeros.items)) ∙ h.zeros_;
  flags_ = by_flags looked h.flags_;
  composites_ = let e : now.composites + 0 ≡ start.composites + parts_composites all = h.composites_ in omega (arith, e);
}
  where
    by_flags : (b : Bool) → now.flags.items ++ masked b [] ≡ start.flags.items ++ masked b (parts_flags all) → now.flags.items ≡ start.flags.items ++ masked b (parts_flags all)
    by_flags true e = sym (append-nil now.flags.items) ∙ e
    by_flags false e = sym (append-nil now.flags.items) ∙ e

-- ---- the measure of the recursion

pub falls : (left n u : ℕ) → 0 < left → u < n → 2 * ((left - 1) * n + u) + 1 < 2 * (left * n)
falls zero n u h k = absurd (omega (arith, h))
falls (suc m) n u h k =
    let e : (suc m - 1) ≡ m = omega arith in
    let d : (suc m - 1) * n ≡ m * n = ap (λ (x : ℕ). x * n) e in
    let f : suc m * n ≡ m * n + n = suc-mul m n in
    omega (arith, k, d, f)

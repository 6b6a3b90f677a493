-- Which samples have all their types in their tables.
use Rattle.std.proofs.Common.{refl, subst, arith}
use Rattle.std.specs.Prelude.{◌≡◌, zero, suc, List, [], ◌∷◌, Bool, true, false, ◌||◌, ◌&&◌, All, Contains}
use Rattle.std.proofs.lemmas.List.Elements.{All-nil, All-cons}
use Rattle.go_type.specs.Tree as ty
use Rattle.go_type.specs.Tree.{Ty}
use Rattle.go_type.specs.Named.{NamedTy}
use Rattle.go_core.specs.SameType.{same_type}
use Rattle.go_core.specs.MeaningWords.{int, hidden}
use Rattle.go_core.specs.Listed.{mentioned, parts_of}
use Rattle.go_core.specs.ListedSample.{with_types, sample_types, SampleIsListed, MentionedAreListed, types_of_no_comparison, NodesAreListed, types_without_part, PartsAreListed}
use Rattle.go_core.proofs.SameTypeLemmas.{first_true, second_true, type_one}

-- ---- tests

abbrev is_in : List Ty → Ty → Bool
is_in [] t = false
is_in (u ∷ us) t = same_type u t || is_in us t

abbrev are_in : List Ty → List Ty → Bool
are_in us [] = true
are_in us (t ∷ ts) = is_in us t && are_in us ts

abbrev parts_in : List NamedTy → List Ty → List Ty → Bool
parts_in ns us [] = true
parts_in ns us (t ∷ ts) = are_in us (parts_of ns t) && parts_in ns us ts

first_or_later : (u t : Ty) (us : List Ty) (b : Bool) → same_type u t ≡ b → (b || is_in us t) ≡ true → (is_in us t ≡ true → Contains us t) → Contains (u ∷ us) t
first_or_later u t us true e h later = (0, omega arith, type_one u t e)
first_or_later u t us false e h later = let c = later h in let l = c.1 in (suc c.0, omega (arith, l), c.2)

found : (us : List Ty) (t : Ty) → is_in us t ≡ true → Contains us t
found [] t h = absurd (cc)
found (u ∷ us) t h = first_or_later u t us (same_type u t) refl h (found us t)

all_found : (us ts : List Ty) → are_in us ts ≡ true → All (Contains us) ts
all_found us [] h = All-nil (Contains us)
all_found us (t ∷ ts) h = All-cons (Contains us) t ts (found us t (first_true (is_in us t) (are_in us ts) h)) (all_found us ts (second_true (is_in us t) (are_in us ts) h))

parts_found : (ns : List NamedTy) (us ts : List Ty) → parts_in ns us ts ≡ true → (t : Ty) → Contains ts t → All (Contains us) (parts_of ns t)
parts_found ns us [] h t (i, lt, e) = absurd (omega (arith, lt))
parts_found ns us (u ∷ ts) h t (zero, lt, e) = subst (λ x. All (Contains us) (parts_of ns x)) e (all_found us (parts_of ns u) (first_true (are_in us (parts_of ns u)) (parts_in ns us ts) h))
parts_found ns us (u ∷ ts) h t (suc i, lt, e) = parts_found ns us ts (second_true (are_in us (parts_of ns u)) (parts_in ns us ts) h) t (i, omega (arith, lt), e)

-- ---- the samples

pub sample_listed : SampleIsListed
sample_listed = record {
  mentioned_listed = all_found sample_types (mentioned (with_types sample_types)) refl;
  parts_listed = parts_found (with_types sample_types).names sample_types sample_types refl;
}

none_there : (t : Ty) → Contains [] t → ⊥
none_there t (i, lt, e) = absurd (omega (arith, lt))

pub mentioned_are_listed : MentionedAreListed
mentioned_are_listed h = none_there hidden (h.mentioned_listed 0 hidden (omega arith))

no_truth : Contains types_of_no_comparison ty.bool → ⊥
no_truth (zero, lt, e) = absurd (cc)
no_truth (suc zero, lt, e) = absurd (cc)
no_truth (suc (suc zero), lt, e) = absurd (cc)
no_truth (suc (suc (suc i)), lt, e) = absurd (omega (arith, lt))

-- the comparison's own type is the sixth that is mentioned
pub nodes_are_listed : NodesAreListed
nodes_are_listed h = no_truth (h.mentioned_listed 6 hidden (omega arith))

no_pointer : Contains types_without_part (ty.pointer int) → ⊥
no_pointer (zero, lt, e) = absurd (cc)
no_pointer (suc zero, lt, e) = absurd (cc)
no_pointer (suc (suc zero), lt, e) = absurd (cc)
no_pointer (suc (suc (suc zero)), lt, e) = absurd (cc)
no_pointer (suc (suc (suc (suc zero))), lt, e) = absurd (cc)
no_pointer (suc (suc (suc (suc (suc i)))), lt, e) = absurd (omega (arith, lt))

pub parts_are_listed : PartsAreListed
parts_are_listed h = no_pointer (h.parts_listed (ty.slice (ty.pointer int)) (0, omega arith, refl) 0 (ty.pointer int) (omega arith))

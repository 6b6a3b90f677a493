-- The samples that no source gives are not Sound.
use Rattle.std.proofs.Common.{inl, inr, refl, sym, subst, arith}
use Rattle.std.specs.Prelude.{◌≡◌, [], ◌∷◌, false, codes}
use Rattle.go_type.specs.Tree as ty
use Rattle.go_type.specs.Tree.{Ty, no_tys}
use Rattle.go_type.specs.Underlying.{underlying}
use Rattle.go_type.specs.Assignability.{identical, shares_underlying, implements, goes_to_channel, is_nil_to, is_constant_to}
use Rattle.go_core.specs.MeaningWords.{int, ints}
use Rattle.go_core.specs.RowsCalls.{number, getter, int_results}
use Rattle.go_core.specs.SoundNode.{MayBe, IsConversion}
use Rattle.go_core.specs.SoundSample.{runtime_method, sample_of, TwoRowsAreNot, array_pointer, ranges_func, RangesWithoutValueAreNot, asserts_func, AssertionsWithoutMethodAreNot, pointer_names, pointer_type, pointers_func, NamedPointersAreNot, numbers_func, NumbersAreNoRunes, nil_func, ValuesOfNilAreNot}

pub two_rows : TwoRowsAreNot
two_rows h = h.rows_differ 1 2 runtime_method (omega arith) (omega arith) refl refl refl

pub ranges_without_value : RangesWithoutValueAreNot
ranges_without_value h = (h.functions 0 ranges_func refl).sound_body.0.9

-- `int` has no row for `Get`
no_get : MayBe (sample_of [] [] asserts_func []) int getter → ⊥
no_get (inl i) = i
no_get (inr a) = let r = a (codes "Get") [] (record { params = no_tys; results = int_results; variadic = false }) refl in let e = r.found in absurd (cc)

list_one : (t u : Ty) → t ∷ [] ≡ u ∷ [] → t ≡ u
list_one t u e = cc

pub assertions_without_method : AssertionsWithoutMethodAreNot
assertions_without_method h =
    let g = (h.functions 0 asserts_func refl).sound_body.0.0.0.1 in
    no_get (subst (λ u. MayBe (sample_of [] [] asserts_func []) int (underlying (sample_of [] [] asserts_func []).names u)) (sym (list_one getter g.0 g.1)) g.2)

no_conversion : IsConversion (sample_of pointer_names [] pointers_func []) (ty.pointer number) pointer_type → ⊥
no_conversion (inl e) = absurd (cc)
no_conversion (inr (inl c)) = c
no_conversion (inr (inr (inl c))) = c
no_conversion (inr (inr (inr (identical e, i, y, a)))) = absurd (cc)
no_conversion (inr (inr (inr (shares_underlying e, i, y, a)))) = let f = e.0 in absurd (cc)
no_conversion (inr (inr (inr (implements c, i, y, a)))) = c.1
no_conversion (inr (inr (inr (goes_to_channel c, i, y, a)))) = c.0
no_conversion (inr (inr (inr (is_nil_to c, i, y, a)))) = let e = c.0 in absurd (cc)
no_conversion (inr (inr (inr (is_constant_to c, i, y, a)))) = c

pub named_pointers : NamedPointersAreNot
named_pointers h = no_conversion ((h.functions 0 pointers_func refl).sound_body.0.0.0.0.3)

no_text : IsConversion (sample_of [] [] numbers_func []) ints ty.str → ⊥
no_text (inl e) = absurd (cc)
no_text (inr (inl c)) = c
no_text (inr (inr (inl c))) = c
no_text (inr (inr (inr (identical e, i, y, a)))) = absurd (cc)
no_text (inr (inr (inr (shares_underlying e, i, y, a)))) = let f = e.0 in absurd (cc)
no_text (inr (inr (inr (implements c, i, y, a)))) = c.1
no_text (inr (inr (inr (goes_to_channel c, i, y, a)))) = c.0
no_text (inr (inr (inr (is_nil_to c, i, y, a)))) = let e = c.0 in absurd (cc)
no_text (inr (inr (inr (is_constant_to c, i, y, a)))) = c

pub numbers_are_no_runes : NumbersAreNoRunes
numbers_are_no_runes h = no_text ((h.functions 0 numbers_func refl).sound_body.0.0.0.3)

no_value : IsConversion (sample_of [] [] nil_func []) ty.nil array_pointer → ⊥
no_value (inl e) = absurd (cc)
no_value (inr (inl c)) = c
no_value (inr (inr (inl c))) = c
no_value (inr (inr (inr c))) = c.2

pub values_of_nil : ValuesOfNilAreNot
values_of_nil h = no_value ((h.functions 0 nil_func refl).sound_body.0.0.0.0.3)

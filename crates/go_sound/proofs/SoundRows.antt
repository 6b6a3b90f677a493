-- Rows whose cores have a meaning: operators, indexes and slices.
use Rattle.std.proofs.Common.{◌≡◌, ◌⊎◌, inl, inr, List, [], ◌∷◌, ◌++◌, ◌&&◌, refl, sym, subst, ℤ, pos, negsuc, Bool, true, false, Option, Some, None, Result, Ok, Err, if◌then◌else◌}
use Rattle.gj_base.specs.declared.place.Place.{Place}
use Rattle.gj_base.specs.declared.kind.Op.{Op}
use Rattle.gj_base.specs.declared.kind.Op.TheVariants as operator
use Rattle.go_const.specs.declared.constant.Const.{Const}
use Rattle.go_const.specs.declared.constant.Const.TheVariants as form
use Rattle.go_const.specs.declared.constant.ConstRefusal.{ConstRefusal}
use Rattle.go_const.specs.declared.constant.ConstRefusal.TheVariants.{Code, NoMemory}
use Rattle.go_const.specs.Operation.{whole_of}
use Rattle.go_const.specs.Answer.{holds, unary_answer, binary_answer, shift_of}
use Rattle.gj_base.specs.declared.kind.Kind.TheVariants.{U32}
use Rattle.go_type.specs.declared.types.Basis.{Basis}
use Rattle.go_type.specs.declared.types.IntName.{IntName}
use Rattle.go_type.specs.declared.types.IntName.TheVariants as integer
use Rattle.go_core.specs.Layout.{kind_of}
use Rattle.go_type.specs.Tree as ty
use Rattle.go_type.specs.Tree.{Ty, Tys}
use Rattle.go_type.specs.Underlying.{underlying}
use Rattle.go_core.specs.SameType.{same_type}
use Rattle.go_core.specs.CoreTree as core
use Rattle.go_core.specs.CoreTree.{CoreProgram, no_bound, bound}
use Rattle.go_core.specs.SoundNode.{Around, IsInt, IsBool, IsText, Fits, IsUnary, IsArithmetic, IsShift, IsOrder, IsOrdered}
use Rattle.go_core.proofs.SameTypeLemmas.{type_one, second_true}
use Rattle.go_typing.specs.Env.{uint_type}
use Rattle.go_typing.specs.Answer.{Flaw, flaw, value, pending, bad, unless, Pending, fixed, shifted, further, signed, joined}
use Rattle.go_typing.specs.Operand.{Operand, typed, constant_operand, truth_operand, pending_operand, nil_operand, folded_untyped, truth_value, constant_at, constant_of, is_int, is_bool, is_number, number_kind, default_type, pending_flaws, pending_at, Passed, passed, refused, unassignable, goes_to, as_type, basis_of, later_basis}
use Rattle.go_typing.specs.Wanted.{no_type}
use Rattle.go_typing.specs.Unary.{has_operator, constant_has_operator, is_not, with_operator, unary_value, unary_operand}
use Rattle.go_typing.specs.Shift as shift
use Rattle.go_typing.specs.Shift.{Count, known_count, not_negative, held_count, fit_count, count_of, shift_typed, shift_constant, shift_counted, can_shift, shift_operands, shift_single}
use Rattle.go_typing.specs.Binary as bin
use Rattle.go_typing.specs.Binary.{OpClass, Match, differ, one_kind, is_add, is_equality, unless_unfit, right_taken, left_taken, pending_differs, pending_beside, constant_beside, beside_other_truth, two_untyped, two_typed, typed_beside, untyped_beside, matched, divides_by_zero, integers, texts, sum_of, sum_of_constants, sum_of_numbers, arithmetic, compared, has_comparison, constant_has_comparison, comparison_value, comparison, joined_by, logical_value, logical_constants, logical, on_operands, on_singles}
use Rattle.go_sound.specs.SoundTyped.{IsScalarType}
use Rattle.go_sound.proofs.SoundConstants.{ResultFits, unary_fits, binary_fits, text_fits, truth_fits, shift_fits}
use Rattle.go_sound.proofs.Wrapped.{number_fits}
use Rattle.go_sound.proofs.SoundWords.{scalar_compares, int_form, bool_form, IsValue, IsTruth, IsCount, SoundPending, HasShift, OperandSound, SingleSound, IsSound, sound, value_sound, sound_bad, sound_if, sound_test, sound_unless, sound_folded, pending_value, pending_int_value, pending_is_int, passed_sound, IsPassed, goes_sound}

module _ (p : CoreProgram) (a : Around) where
  pub untyped_sound : (at : Place) (r : Result Const ConstRefusal) → IsSound p a (folded_untyped at r)
  untyped_sound at (Ok k) = sound p a _ tt
  untyped_sound at (Err (Code n)) = sound p a _ tt
  untyped_sound at (Err NoMemory) = sound p a _ tt

  -- ---- before an operand

  -- `!` and the operators of integers
  abbrev pub IsPrefixOp : Op → Type 0
  IsPrefixOp operator.Not = Unit {0}
  IsPrefixOp op = IsUnary op

  without : (c : core.Expr) (t : Ty) (v : Option Const) → IsValue p a c t v → IsValue p a c t None
  without c t v h = record { sound = h.sound; gives = h.gives; scalar = h.scalar; fits = tt }

  is_truth_form : (u : Ty) → is_bool u ≡ true → IsBool u
  is_truth_form ty.bool h = tt
  is_truth_form _ h = let e : false ≡ true = h in cc

  pub is_text_form : (u : Ty) → u ≡ ty.str → IsText u
  is_text_form u h = subst IsText (sym h) tt

  with_value : (op : Op) (c : core.Expr) (t : Ty) (v : Option Const) → IsPrefixOp op → IsValue p a c t v → has_operator op (underlying p.names t) ≡ true → IsValue p a (with_operator op t c) t None
  with_value operator.Not c t v k h e = record { sound = (h.sound, h.gives, is_truth_form (underlying p.names t) e); gives = refl; scalar = h.scalar; fits = tt }
  with_value operator.Plus c t v k h e = record { sound = (h.sound, k, h.gives, int_form (underlying p.names t) e); gives = refl; scalar = h.scalar; fits = tt }
  with_value operator.Neg c t v k h e = record { sound = (h.sound, k, h.gives, int_form (underlying p.names t) e); gives = refl; scalar = h.scalar; fits = tt }
  with_value operator.Compl c t v k h e = record { sound = (h.sound, k, h.gives, int_form (underlying p.names t) e); gives = refl; scalar = h.scalar; fits = tt }
  with_value _ c t v k h e = absurd k

  unary_value_sound : (at : Place) (op : Op) (c : core.Expr) (t : Ty) (v : Option Const) → IsPrefixOp op → IsValue p a c t v → has_operator op (underlying p.names t) ≡ true → IsSound p a (unary_value p.names at op c t v)
  unary_value_sound at op c t None k h e = value_sound p a _ t None (with_value op c t None k h e)
  unary_value_sound at op c t (Some l) k h e = sound_folded p a at t _ h.scalar (unary_fits op (underlying p.names t) l h.fits)

  truth_sound : (c : core.Expr) → IsTruth p a c → IsSound p a (truth_value c)
  truth_sound c h = sound p a _ h

  not_prefix : (op : Op) → IsPrefixOp op → is_not op ≡ false → IsUnary op
  not_prefix operator.Not k e = let f : true ≡ false = e in cc
  not_prefix operator.Plus k e = k
  not_prefix operator.Neg k e = k
  not_prefix operator.Compl k e = k
  not_prefix _ k e = absurd k

  pub unary_sound : (at : Place) (op : Op) (q : Place) (x : Option Operand) → IsPrefixOp op → SingleSound p a x → IsSound p a (unary_operand p.names at op q x)
  unary_sound at op q None k h = sound_bad p a _ _
  unary_sound at op q (Some (typed c t v)) k h = sound_test p a (has_operator op (underlying p.names t)) _ _ (λ e. unary_value_sound at op c t v k h e) (sound_bad p a at 54)
  unary_sound at op q (Some (constant_operand l)) k h = sound_if p a (constant_has_operator op l) _ _ (untyped_sound at (unary_answer op None l)) (sound_bad p a at 54)
  unary_sound at op q (Some (truth_operand c)) k h =
      sound_if p a (is_not op) (truth_value (core.not_ ty.bool c)) (bad at 54) (truth_sound (core.not_ ty.bool c) (record { sound = (h.sound, h.gives, tt); gives = refl })) (sound_bad p a at 54)
  unary_sound at op q (Some (pending_operand x b)) k h = by_test (is_not op) refl
    where
      by_test : (c : Bool) → is_not op ≡ c → IsSound p a (if c then unless (pending_flaws p.names (default_type b) x) (bad at 54) else pending (signed op x) b)
      by_test true e = sound_unless p a (pending_flaws p.names (default_type b) x) (bad at 54) (λ f. sound_bad p a at 54)
      by_test false e = sound p a _ ((h.0, not_prefix op k e), h.1)
  unary_sound at op q (Some nil_operand) k h = sound_bad p a _ _

  -- ---- shifts

  abbrev CountSound : Count → Type 0
  CountSound (shift.counted d w) = IsCount p a d
  CountSound shift.negative = Unit {0}
  CountSound shift.no_integer = Unit {0}
  CountSound (shift.unfit f fs) = Unit {0}

  record IsCounted (n : Count) : Type 0 where
    pub is_counted : CountSound n

  pub integer_count : (c : core.Expr) (t : Ty) (v : Option Const) → IsValue p a c t v → is_int (underlying p.names t) ≡ true → IsCount p a c
  integer_count c t v h e = record { sound = h.sound; gives = (t, h.gives, int_form (underlying p.names t) e) }

  not_negative_counted : (z : Option ℤ) (n : Count) → IsCounted n → IsCounted (not_negative z n)
  not_negative_counted (Some (negsuc m)) n h = record { is_counted = tt }
  not_negative_counted (Some (pos m)) n h = h
  not_negative_counted None n h = h

  known_counted : (c : core.Expr) (v : Option Const) → IsCount p a c → IsCounted (known_count c v)
  known_counted c None h = record { is_counted = h }
  known_counted c (Some k) h = not_negative_counted (whole_of k) (shift.counted c (Some k)) (record { is_counted = h })

  same_whole : (x z : ℤ) → Some x ≡ Some z → z ≡ x
  same_whole x z e = cc

  -- a constant that `uint` holds
  pub whole_constant : (name : IntName) (k : Const) (z : ℤ) → whole_of k ≡ Some z → holds (Some (kind_of name)) z ≡ true → Fits (ty.int name) (constant_of k)
  whole_constant name (form.Int x) z e h = number_fits (kind_of name) x (subst (λ (y : ℤ). holds (Some (kind_of name)) y ≡ true) (same_whole x z e) h)
  whole_constant name (form.Rune x) z e h = number_fits (kind_of name) x (subst (λ (y : ℤ). holds (Some (kind_of name)) y ≡ true) (same_whole x z e) h)
  whole_constant name (form.Bool b) z e h = cc
  whole_constant name (form.Text s) z e h = cc

  held_counted : (at : Place) (k : Const) (z : Option ℤ) → whole_of k ≡ z → IsCounted (held_count at k z)
  held_counted at k None e = record { is_counted = tt }
  held_counted at k (Some (negsuc n)) e = record { is_counted = tt }
  held_counted at k (Some (pos n)) e = by_test (holds (Some U32) (pos n)) refl
    where
      by_test : (b : Bool) → holds (Some U32) (pos n) ≡ b → IsCounted (if b then shift.counted (constant_at uint_type k) (Some k) else shift.unfit (flaw at 32) [])
      by_test true h = record { is_counted = record { sound = whole_constant integer.Uint k (pos n) e h; gives = (uint_type, refl, tt) } }
      by_test false h = record { is_counted = tt }

  fit_counted : (fs : List Flaw) (c : core.Expr) → (fs ≡ [] → IsCount p a c) → IsCounted (fit_count fs c)
  fit_counted [] c h = record { is_counted = h refl }
  fit_counted (f ∷ fs) c h = record { is_counted = tt }

  count_test : (b : Bool) (n : Count) → (b ≡ true → IsCounted n) → IsCounted (if b then n else shift.no_integer)
  count_test true n h = h refl
  count_test false n h = record { is_counted = tt }

  pub pending_count : (t : Ty) (q : Pending) → SoundPending p a q → HasShift p a q → pending_flaws p.names t q ≡ [] → IsCount p a (pending_at t q)
  pending_count t q s h e = let v = pending_value p a t q s h e in record { sound = v.sound; gives = (t, v.gives, int_form (underlying p.names t) (pending_is_int p a t q h e)) }

  count_sound : (q : Place) (y : Operand) → OperandSound p a y → IsCounted (count_of p.names q y)
  count_sound q (typed c t v) h = count_test (is_int (underlying p.names t)) (known_count c v) (λ e. known_counted c v (integer_count c t v h e))
  count_sound q (constant_operand k) h = held_counted q k (whole_of k) refl
  count_sound q (truth_operand c) h = record { is_counted = tt }
  count_sound q (pending_operand x b) h = fit_counted (pending_flaws p.names uint_type x) (pending_at uint_type x) (λ e. pending_count uint_type x h.0 h.1 e)
  count_sound q nil_operand h = record { is_counted = tt }

  shift_value : (op : Op) (t : Ty) (c : core.Expr) (v : Option Const) (d : core.Expr) → IsShift op → IsValue p a c t v → IsCount p a d → is_int (underlying p.names t) ≡ true → IsSound p a (value (core.binary op t c d) t None)
  shift_value op t c v d k h n e = value_sound p a _ t None (record { sound = (h.sound, n.sound, int_form (underlying p.names t) e, inr (k, h.gives, n.gives)); gives = refl; scalar = h.scalar; fits = tt })

  folded_shift : (at : Place) (op : Op) (t u : Ty) (k n : Const) → underlying p.names t ≡ u → is_int u ≡ true → IsScalarType p t → Fits u (constant_of k) → ResultFits u (shift_of op (number_kind u) k n)
  folded_shift at op t (ty.int name) k n e i s f = shift_fits op name k n f
  folded_shift at op t _ k n e i s f = let g : false ≡ true = i in cc

  shift_typed_sound : (at : Place) (op : Op) (t : Ty) (c : core.Expr) (v : Option Const) (d : core.Expr) (w : Option Const) → IsShift op → IsValue p a c t v → IsCount p a d → is_int (underlying p.names t) ≡ true
      → IsSound p a (shift_typed p.names at op t c v d w)
  shift_typed_sound at op t c (Some k) d (Some n) s h m e = sound_folded p a at t _ h.scalar (folded_shift at op t (underlying p.names t) k n refl e h.scalar h.fits)
  shift_typed_sound at op t c (Some k) d None s h m e = shift_value op t c (Some k) d s h m e
  shift_typed_sound at op t c None d w s h m e = shift_value op t c None d s h m e

  shift_constant_sound : (at : Place) (op : Op) (k : Const) (d : core.Expr) (w : Option Const) → IsShift op → IsCount p a d → IsSound p a (shift_constant p.names at op k d w)
  shift_constant_sound at op k d (Some n) s m = untyped_sound at (shift_of op None k n)
  shift_constant_sound at op k d None s m = sound p a _ ((s, m), tt)

  shift_counted_sound : (at : Place) (op : Op) (x : Operand) (d : core.Expr) (w : Option Const) → IsShift op → OperandSound p a x → IsCount p a d → IsSound p a (shift_counted p.names at op x d w)
  shift_counted_sound at op (typed c t v) d w s h m = sound_test p a (is_int (underlying p.names t)) _ _ (λ e. shift_typed_sound at op t c v d w s h m e) (sound_bad p a at 57)
  shift_counted_sound at op (constant_operand k) d w s h m = sound_if p a (is_number k) _ _ (shift_constant_sound at op k d w s m) (sound_bad p a at 57)
  shift_counted_sound at op (truth_operand c) d w s h m = sound_bad p a _ _
  shift_counted_sound at op (pending_operand x b) d w s h m = sound p a _ ((h.0, s, m), h.1)
  shift_counted_sound at op nil_operand d w s h m = sound_bad p a _ _

  shift_operands_sound : (at : Place) (op : Op) (x : Operand) (q : Place) (n : Count) → IsShift op → OperandSound p a x → IsCounted n → IsSound p a (shift_operands p.names at op x q n)
  shift_operands_sound at op x q (shift.counted d w) s h m = shift_counted_sound at op x d w s h m.is_counted
  shift_operands_sound at op x q shift.negative s h m = sound_if p a (can_shift p.names x) _ _ (sound_bad p a q 33) (sound_bad p a at 57)
  shift_operands_sound at op x q shift.no_integer s h m = sound_bad p a _ _
  shift_operands_sound at op x q (shift.unfit f fs) s h m = sound p a _ tt

  pub shift_sound : (at : Place) (op : Op) (q : Place) (x : Option Operand) (r : Place) (y : Option Operand) → IsShift op → SingleSound p a x → SingleSound p a y → IsSound p a (shift_single p.names at op q x r y)
  shift_sound at op q (Some x) r (Some y) s h k = sound_unless p a (no_type q x) _ (λ e. shift_operands_sound at op x r (count_of p.names r y) s h (count_sound r y k))
  shift_sound at op q (Some x) r None s h k = sound p a _ tt
  shift_sound at op q None r y s h k = sound p a _ tt

  -- ---- both operands at one type

  abbrev MatchSound : Match → Type 0
  MatchSound (bin.alike t c v d w) = IsValue p a c t v × IsValue p a d t w
  MatchSound (bin.constants k l) = Unit {0}
  MatchSound (bin.truths c d) = IsTruth p a c × IsTruth p a d
  MatchSound (bin.numbers x y b) = SoundPending p a x × SoundPending p a y × (HasShift p a x ⊎ HasShift p a y)
  MatchSound (bin.unfit f fs) = Unit {0}
  MatchSound bin.differ = Unit {0}

  record IsMatch (m : Match) : Type 0 where
    pub is_match : MatchSound m

  matches : (m : Match) → MatchSound m → IsMatch m
  matches m h = record { is_match = h }

  match_test : (b : Bool) (x y : Match) → (b ≡ true → IsMatch x) → (b ≡ false → IsMatch y) → IsMatch (if b then x else y)
  match_test true x y h k = h refl
  match_test false x y h k = k refl

  match_unless : (fs : List Flaw) (m : Match) → IsMatch m → IsMatch (unless_unfit fs m)
  match_unless [] m h = h
  match_unless (f ∷ fs) m h = matches _ tt

  right_taken_sound : (t : Ty) (c : core.Expr) (v : Option Const) (x : Passed) → IsValue p a c t v → IsPassed p a t x → IsMatch (right_taken t c v x)
  right_taken_sound t c v (passed d w) h k = matches _ (h, k.is_passed)
  right_taken_sound t c v (refused f fs) h k = matches _ tt
  right_taken_sound t c v unassignable h k = matches _ tt

  left_taken_sound : (x : Passed) (u : Ty) (d : core.Expr) (w : Option Const) → IsPassed p a u x → IsValue p a d u w → IsMatch (left_taken x u d w)
  left_taken_sound (passed c v) u d w h k = matches _ (h.is_passed, k)
  left_taken_sound (refused f fs) u d w h k = matches _ tt
  left_taken_sound unassignable u d w h k = matches _ tt

  pending_differs_sound : (x : Pending) (b : Basis) → IsMatch (pending_differs p.names x b)
  pending_differs_sound x b = match_unless (pending_flaws p.names (default_type b) x) differ (matches _ tt)

  pending_beside_sound : (x : Pending) (b : Basis) (q : Place) (y : Operand) → SoundPending p a x → HasShift p a x → OperandSound p a y → IsMatch (pending_beside p.names x b q y)
  pending_beside_sound x b q (typed d u w) s h k = matches _ tt
  pending_beside_sound x b q (constant_operand l) s h k = match_test (is_number l) (bin.numbers x (fixed q l) (later_basis b (basis_of l))) _ (λ e. matches _ (s, tt, inl h)) (λ e. pending_differs_sound x b)
  pending_beside_sound x b q (truth_operand d) s h k = pending_differs_sound x b
  pending_beside_sound x b q (pending_operand r e) s h k = matches _ (s, k.0, inl h)
  pending_beside_sound x b q nil_operand s h k = matches _ tt

  constant_truth : (b : Bool) → IsTruth p a (constant_at ty.bool (form.Bool b))
  constant_truth b = record { sound = tt; gives = refl }

  truth_beside_sound : (k : Const) (d : core.Expr) → IsTruth p a d → IsMatch (bin.truth_beside k d)
  truth_beside_sound (form.Bool b) d h = matches _ (constant_truth b, h)
  truth_beside_sound (form.Int z) d h = matches _ tt
  truth_beside_sound (form.Rune z) d h = matches _ tt
  truth_beside_sound (form.Text s) d h = matches _ tt

  beside_truth_sound : (c : core.Expr) (k : Const) → IsTruth p a c → IsMatch (bin.beside_truth c k)
  beside_truth_sound c (form.Bool b) h = matches _ (h, constant_truth b)
  beside_truth_sound c (form.Int z) h = matches _ tt
  beside_truth_sound c (form.Rune z) h = matches _ tt
  beside_truth_sound c (form.Text s) h = matches _ tt

  constant_beside_sound : (q : Place) (k : Const) (y : Operand) → OperandSound p a y → IsMatch (constant_beside p.names q k y)
  constant_beside_sound q k (typed d u w) h = matches _ tt
  constant_beside_sound q k (constant_operand l) h = match_test (one_kind k l) (bin.constants k l) differ (λ e. matches _ tt) (λ e. matches _ tt)
  constant_beside_sound q k (truth_operand d) h = truth_beside_sound k d h
  constant_beside_sound q k (pending_operand r e) h = match_test (is_number k) (bin.numbers (fixed q k) r (later_basis (basis_of k) e)) _ (λ f. matches _ (tt, h.0, inr h.1)) (λ f. pending_differs_sound r e)
  constant_beside_sound q k nil_operand h = matches _ tt

  other_truth_sound : (c : core.Expr) (y : Operand) → IsTruth p a c → OperandSound p a y → IsMatch (beside_other_truth p.names c y)
  other_truth_sound c (typed d u w) h k = matches _ tt
  other_truth_sound c (constant_operand l) h k = beside_truth_sound c l h
  other_truth_sound c (truth_operand d) h k = matches _ (h, k)
  other_truth_sound c (pending_operand r e) h k = pending_differs_sound r e
  other_truth_sound c nil_operand h k = matches _ tt

  two_untyped_sound : (q : Place) (x : Operand) (r : Place) (y : Operand) → OperandSound p a x → OperandSound p a y → IsMatch (two_untyped p.names q x r y)
  two_untyped_sound q (typed c t v) r y h k = matches _ tt
  two_untyped_sound q (constant_operand l) r y h k = constant_beside_sound q l y k
  two_untyped_sound q (truth_operand c) r y h k = other_truth_sound c y h k
  two_untyped_sound q (pending_operand x b) r y h k = pending_beside_sound x b r y h.0 h.1 k
  two_untyped_sound q nil_operand r y h k = matches _ tt

  two_typed_sound : (compares : Bool) (c : core.Expr) (t : Ty) (v : Option Const) (d : core.Expr) (u : Ty) (w : Option Const) → IsValue p a c t v → IsValue p a d u w → IsMatch (two_typed p.names compares c t v d u w)
  two_typed_sound compares c t v d u w h k =
      match_test (same_type t u) (bin.alike t c v d w) _ (λ e. matches _ (h, subst (λ (s : Ty). IsValue p a d s w) (sym (type_one t u e)) k))
      (λ n. match_test (compares && goes_to p.names t u) (bin.alike u (as_type c t u) v d w) _ (λ e. matches _ (goes_sound p a c t u v h k.scalar (second_true compares (goes_to p.names t u) e), k))
      (λ m. match_test (compares && goes_to p.names u t) (bin.alike t c v (as_type d u t) w) differ (λ e. matches _ (h, goes_sound p a d u t w k h.scalar (second_true compares (goes_to p.names u t) e))) (λ e. matches differ tt)))

  typed_beside_sound : (compares : Bool) (c : core.Expr) (t : Ty) (v : Option Const) (q : Place) (y : Operand) → IsValue p a c t v → OperandSound p a y → IsMatch (typed_beside p.names compares c t v q y)
  typed_beside_sound compares c t v q (typed d u w) h k = two_typed_sound compares c t v d u w h k
  typed_beside_sound compares c t v q (constant_operand l) h k = right_taken_sound t c v _ h (passed_sound p a q t (constant_operand l) h.scalar k)
  typed_beside_sound compares c t v q (truth_operand d) h k = right_taken_sound t c v _ h (passed_sound p a q t (truth_operand d) h.scalar k)
  typed_beside_sound compares c t v q (pending_operand r e) h k = right_taken_sound t c v _ h (passed_sound p a q t (pending_operand r e) h.scalar k)
  typed_beside_sound compares c t v q nil_operand h k = right_taken_sound t c v _ h (passed_sound p a q t nil_operand h.scalar k)

  untyped_beside_sound : (q : Place) (x : Operand) (r : Place) (y : Operand) → OperandSound p a x → OperandSound p a y → IsMatch (untyped_beside p.names q x r y)
  untyped_beside_sound q x r (typed d u w) h k = left_taken_sound _ u d w (passed_sound p a q u x k.scalar h) k
  untyped_beside_sound q x r (constant_operand l) h k = match_unless (no_type q x ++ no_type r (constant_operand l)) _ (two_untyped_sound q x r (constant_operand l) h k)
  untyped_beside_sound q x r (truth_operand d) h k = match_unless (no_type q x ++ no_type r (truth_operand d)) _ (two_untyped_sound q x r (truth_operand d) h k)
  untyped_beside_sound q x r (pending_operand y e) h k = match_unless (no_type q x ++ no_type r (pending_operand y e)) _ (two_untyped_sound q x r (pending_operand y e) h k)
  untyped_beside_sound q x r nil_operand h k = match_unless (no_type q x ++ no_type r nil_operand) _ (two_untyped_sound q x r nil_operand h k)

  matched_sound : (compares : Bool) (q : Place) (x : Operand) (r : Place) (y : Operand) → OperandSound p a x → OperandSound p a y → IsMatch (matched p.names compares q x r y)
  matched_sound compares q (typed c t v) r y h k = typed_beside_sound compares c t v r y h k
  matched_sound compares q (constant_operand l) r y h k = untyped_beside_sound q (constant_operand l) r y h k
  matched_sound compares q (truth_operand c) r y h k = untyped_beside_sound q (truth_operand c) r y h k
  matched_sound compares q (pending_operand x b) r y h k = untyped_beside_sound q (pending_operand x b) r y h k
  matched_sound compares q nil_operand r y h k = untyped_beside_sound q nil_operand r y h k

  -- ---- arithmetic

  folded_numbers : (op : Op) (u : Ty) (name : IntName) (k l : Const) → u ≡ ty.int name → IsArithmetic op → Fits u (constant_of k) → Fits u (constant_of l) → ResultFits u (binary_answer op (number_kind u) k l)
  folded_numbers op u name k l e i f g =
      subst (λ (w : Ty). ResultFits w (binary_answer op (number_kind w) k l)) (sym e) (binary_fits op name k l i (subst (λ (w : Ty). Fits w (constant_of k)) e f) (subst (λ (w : Ty). Fits w (constant_of l)) e g))

  sum_value : (op : Op) (t : Ty) (c : core.Expr) (v : Option Const) (d : core.Expr) (w : Option Const) (name : IntName) → underlying p.names t ≡ ty.int name → IsArithmetic op → IsValue p a c t v → IsValue p a d t w
      → IsSound p a (value (core.binary op t c d) t None)
  sum_value op t c v d w name e i h k =
      value_sound p a _ t None (record { sound = (h.sound, k.sound, subst IsInt (sym e) tt, inl (i, h.gives, k.gives)); gives = refl; scalar = h.scalar; fits = tt })

  integers_sound : (at : Place) (op : Op) (t : Ty) (c : core.Expr) (v : Option Const) (d : core.Expr) (w : Option Const) (name : IntName) → underlying p.names t ≡ ty.int name → IsArithmetic op → IsValue p a c t v → IsValue p a d t w
      → IsSound p a (integers p.names at op t c v d w)
  integers_sound at op t c (Some k) d (Some l) name e i h g = sound_folded p a at t _ h.scalar (folded_numbers op (underlying p.names t) name k l e i h.fits g.fits)
  integers_sound at op t c (Some k) d None name e i h g = sum_value op t c (Some k) d None name e i h g
  integers_sound at op t c None d w name e i h g = sum_value op t c None d w name e i h g

  concat_value : (t : Ty) (c : core.Expr) (v : Option Const) (d : core.Expr) (w : Option Const) → underlying p.names t ≡ ty.str → IsValue p a c t v → IsValue p a d t w → IsSound p a (value (core.concat t c d) t None)
  concat_value t c v d w e h k = value_sound p a _ t None (record { sound = (h.sound, k.sound, h.gives, k.gives, is_text_form (underlying p.names t) e); gives = refl; scalar = h.scalar; fits = tt })

  texts_sound : (at : Place) (t : Ty) (c : core.Expr) (v : Option Const) (d : core.Expr) (w : Option Const) → underlying p.names t ≡ ty.str → IsValue p a c t v → IsValue p a d t w → IsSound p a (texts p.names at t c v d w)
  texts_sound at t c (Some k) d (Some l) e h g =
      sound_folded p a at t _ h.scalar (subst (λ (u : Ty). ResultFits u (binary_answer operator.Add None k l)) (sym e) (text_fits k l (subst (λ (u : Ty). Fits u (constant_of k)) e h.fits) (subst (λ (u : Ty). Fits u (constant_of l)) e g.fits)))
  texts_sound at t c (Some k) d None e h g = concat_value t c (Some k) d None e h g
  texts_sound at t c None d w e h g = concat_value t c None d w e h g

  sum_sound : (at : Place) (op : Op) (q : Place) (u t : Ty) (c : core.Expr) (v : Option Const) (d : core.Expr) (w : Option Const) → underlying p.names t ≡ u → IsArithmetic op → IsValue p a c t v → IsValue p a d t w
      → IsSound p a (sum_of p.names at op q u t c v d w)
  sum_sound at op q (ty.int name) t c v d w e i h k = sound_if p a (divides_by_zero p.names op w) (bad q 30) (integers p.names at op t c v d w) (sound_bad p a q 30) (integers_sound at op t c v d w name e i h k)
  sum_sound at op q ty.str t c v d w e i h k = sound_if p a (is_add op) (texts p.names at t c v d w) (bad at 55) (texts_sound at t c v d w e h k) (sound_bad p a at 55)
  sum_sound at op q _ t c v d w e i h k = sound_bad p a _ _

  sum_of_constants_sound : (at : Place) (op : Op) (q : Place) (k l : Const) → IsSound p a (sum_of_constants p.names at op q k l)
  sum_of_constants_sound at op q (form.Bool b) l = sound_bad p a _ _
  sum_of_constants_sound at op q (form.Text s) l = sound_if p a (is_add op) _ (bad at 55) (untyped_sound at (binary_answer op None (form.Text s) l)) (sound_bad p a at 55)
  sum_of_constants_sound at op q (form.Int z) l = sound_if p a (divides_by_zero p.names op (Some l)) (bad q 30) _ (sound_bad p a q 30) (untyped_sound at (binary_answer op None (form.Int z) l))
  sum_of_constants_sound at op q (form.Rune z) l = sound_if p a (divides_by_zero p.names op (Some l)) (bad q 30) _ (sound_bad p a q 30) (untyped_sound at (binary_answer op None (form.Rune z) l))

  sum_of_numbers_sound : (op : Op) (q : Place) (x y : Pending) (b : Basis) → IsArithmetic op → SoundPending p a x → SoundPending p a y → HasShift p a x ⊎ HasShift p a y → IsSound p a (sum_of_numbers p.names op q x y b)
  sum_of_numbers_sound op q x (fixed r l) b i s k h = sound_if p a (divides_by_zero p.names op (Some l)) (bad q 30) (pending (joined op x (fixed r l)) b) (sound_bad p a q 30) (sound p a _ ((s, k, i), h))
  sum_of_numbers_sound op q x (shifted r o l n) b i s k h = sound p a _ ((s, k, i), h)
  sum_of_numbers_sound op q x (further o y n) b i s k h = sound p a _ ((s, k, i), h)
  sum_of_numbers_sound op q x (signed o y) b i s k h = sound p a _ ((s, k, i), h)
  sum_of_numbers_sound op q x (joined o y z) b i s k h = sound p a _ ((s, k, i), h)

  arithmetic_sound : (at : Place) (op : Op) (q : Place) (m : Match) → IsArithmetic op → MatchSound m → IsSound p a (arithmetic p.names at op q m)
  arithmetic_sound at op q (bin.alike t c v d w) i h = sum_sound at op q (underlying p.names t) t c v d w refl i h.0 h.1
  arithmetic_sound at op q (bin.constants k l) i h = sum_of_constants_sound at op q k l
  arithmetic_sound at op q (bin.truths c d) i h = sound_bad p a _ _
  arithmetic_sound at op q (bin.numbers x y b) i h = sum_of_numbers_sound op q x y b i h.0 h.1 h.2
  arithmetic_sound at op q (bin.unfit f fs) i h = sound p a _ tt
  arithmetic_sound at op q bin.differ i h = sound_bad p a _ _

  -- ---- comparisons

  -- `==` and `!=`, or an order
  abbrev pub IsComparisonOp : Op → Type 0
  IsComparisonOp operator.Eq = Unit {0}
  IsComparisonOp operator.Ne = Unit {0}
  IsComparisonOp op = IsOrder op

  ordered : (op : Op) (u : Ty) → is_equality op ≡ false → has_comparison p.names op u ≡ true → IsOrdered u
  ordered op ty.bool e h = cc
  ordered op (ty.int name) e h = tt
  ordered op ty.str e h = tt
  ordered op _ e h = let f : false ≡ true = h in cc

  compared_truth : (op : Op) (t : Ty) (c : core.Expr) (v : Option Const) (d : core.Expr) (w : Option Const) → IsComparisonOp op → has_comparison p.names op (underlying p.names t) ≡ true → IsValue p a c t v → IsValue p a d t w
      → IsTruth p a (compared p.names op t c d)
  compared_truth operator.Eq t c v d w i e h k = record { sound = (h.sound, k.sound, h.gives, k.gives, inl (scalar_compares p t h.scalar), tt); gives = refl }
  compared_truth operator.Ne t c v d w i e h k = record { sound = (h.sound, k.sound, h.gives, k.gives, inl (scalar_compares p t h.scalar), tt); gives = refl }
  compared_truth operator.Lt t c v d w i e h k = record { sound = (h.sound, k.sound, i, h.gives, k.gives, ordered operator.Lt (underlying p.names t) refl e, tt); gives = refl }
  compared_truth operator.Le t c v d w i e h k = record { sound = (h.sound, k.sound, i, h.gives, k.gives, ordered operator.Le (underlying p.names t) refl e, tt); gives = refl }
  compared_truth operator.Gt t c v d w i e h k = record { sound = (h.sound, k.sound, i, h.gives, k.gives, ordered operator.Gt (underlying p.names t) refl e, tt); gives = refl }
  compared_truth operator.Ge t c v d w i e h k = record { sound = (h.sound, k.sound, i, h.gives, k.gives, ordered operator.Ge (underlying p.names t) refl e, tt); gives = refl }
  compared_truth _ t c v d w i e h k = absurd i

  comparison_value_sound : (at : Place) (op : Op) (t : Ty) (c : core.Expr) (v : Option Const) (d : core.Expr) (w : Option Const) → IsComparisonOp op → has_comparison p.names op (underlying p.names t) ≡ true
      → IsValue p a c t v → IsValue p a d t w → IsSound p a (comparison_value p.names at op t c v d w)
  comparison_value_sound at op t c (Some k) d (Some l) i e h g = untyped_sound at (binary_answer op None k l)
  comparison_value_sound at op t c (Some k) d None i e h g = truth_sound _ (compared_truth op t c (Some k) d None i e h g)
  comparison_value_sound at op t c None d w i e h g = truth_sound _ (compared_truth op t c None d w i e h g)

  as_truth : (c : core.Expr) → IsTruth p a c → IsValue p a c ty.bool None
  as_truth c h = record { sound = h.sound; gives = h.gives; scalar = refl; fits = tt }

  first_none : (fs gs : List Flaw) → fs ++ gs ≡ [] → fs ≡ []
  first_none [] gs h = refl
  first_none (f ∷ fs) gs h = cc

  second_none : (fs gs : List Flaw) → fs ++ gs ≡ [] → gs ≡ []
  second_none [] gs h = h
  second_none (f ∷ fs) gs h = cc

  int_compares : (op : Op) (u : Ty) → is_int u ≡ true → has_comparison p.names op u ≡ true
  int_compares op (ty.int name) h = refl
  int_compares op _ h = let e : false ≡ true = h in cc

  -- of two numbers one of which is a shift, both at the default type
  number_value : (t : Ty) (x : Pending) → SoundPending p a x → is_int (underlying p.names t) ≡ true → pending_flaws p.names t x ≡ [] → IsValue p a (pending_at t x) t None
  number_value t x s i e = pending_int_value p a t x i s e

  numbers_sound : (op : Op) (t : Ty) (x y : Pending) → IsComparisonOp op → SoundPending p a x → SoundPending p a y → is_int (underlying p.names t) ≡ true
      → (pending_flaws p.names t x ++ pending_flaws p.names t y) ≡ [] → IsTruth p a (compared p.names op t (pending_at t x) (pending_at t y))
  numbers_sound op t x y i s k n e =
      compared_truth op t (pending_at t x) None (pending_at t y) None i (int_compares op (underlying p.names t) n) (number_value t x s n (first_none (pending_flaws p.names t x) (pending_flaws p.names t y) e))
      (number_value t y k n (second_none (pending_flaws p.names t x) (pending_flaws p.names t y) e))

  either_int : (t : Ty) (x y : Pending) → HasShift p a x ⊎ HasShift p a y → (pending_flaws p.names t x ++ pending_flaws p.names t y) ≡ [] → is_int (underlying p.names t) ≡ true
  either_int t x y (inl h) e = pending_is_int p a t x h (first_none (pending_flaws p.names t x) (pending_flaws p.names t y) e)
  either_int t x y (inr h) e = pending_is_int p a t y h (second_none (pending_flaws p.names t x) (pending_flaws p.names t y) e)

  comparison_sound : (at : Place) (op : Op) (m : Match) → IsComparisonOp op → MatchSound m → IsSound p a (comparison p.names at op m)
  comparison_sound at op (bin.alike t c v d w) i h = sound_test p a (has_comparison p.names op (underlying p.names t)) (comparison_value p.names at op t c v d w) (bad at 56) (λ e. comparison_value_sound at op t c v d w i e h.0 h.1) (sound_bad p a at 56)
  comparison_sound at op (bin.constants k l) i h = sound_if p a (constant_has_comparison p.names op k) _ (bad at 56) (untyped_sound at (binary_answer op None k l)) (sound_bad p a at 56)
  comparison_sound at op (bin.truths c d) i h =
      sound_test p a (is_equality op) (truth_value (compared p.names op ty.bool c d)) (bad at 56) (λ e. truth_sound _ (compared_truth op ty.bool c None d None i e (as_truth c h.0) (as_truth d h.1))) (sound_bad p a at 56)
  comparison_sound at op (bin.numbers x y b) i h =
      sound_unless p a (pending_flaws p.names (default_type b) x ++ pending_flaws p.names (default_type b) y) _
      (λ e. truth_sound _ (numbers_sound op (default_type b) x y i h.0 h.1 (either_int (default_type b) x y h.2 e) e))
  comparison_sound at op (bin.unfit f fs) i h = sound p a _ tt
  comparison_sound at op bin.differ i h = sound_bad p a _ _

  -- ---- and, or

  joined_value : (op : Op) (t : Ty) (c : core.Expr) (v : Option Const) (d : core.Expr) (w : Option Const) → is_bool (underlying p.names t) ≡ true → IsValue p a c t v → IsValue p a d t w → IsValue p a (joined_by p.names op t c d) t None
  joined_value operator.AndThen t c v d w e h k = record { sound = (h.sound, k.sound, h.gives, k.gives, is_truth_form (underlying p.names t) e); gives = refl; scalar = h.scalar; fits = tt }
  joined_value _ t c v d w e h k = record { sound = (h.sound, k.sound, h.gives, k.gives, is_truth_form (underlying p.names t) e); gives = refl; scalar = h.scalar; fits = tt }

  logical_value_sound : (at : Place) (op : Op) (t : Ty) (c : core.Expr) (v : Option Const) (d : core.Expr) (w : Option Const) → is_bool (underlying p.names t) ≡ true → IsValue p a c t v → IsValue p a d t w → IsSound p a (logical_value p.names at op t c v d w)
  logical_value_sound at op t c (Some k) d (Some l) e h g =
      let f = bool_form (underlying p.names t) e in
      sound_folded p a at t _ h.scalar (subst (λ (u : Ty). ResultFits u (binary_answer op None k l)) (sym f) (truth_fits op k l (subst (λ (u : Ty). Fits u (constant_of k)) f h.fits) (subst (λ (u : Ty). Fits u (constant_of l)) f g.fits)))
  logical_value_sound at op t c (Some k) d None e h g = value_sound p a _ t None (joined_value op t c (Some k) d None e h g)
  logical_value_sound at op t c None d w e h g = value_sound p a _ t None (joined_value op t c None d w e h g)

  logical_constants_sound : (at : Place) (op : Op) (k l : Const) → IsSound p a (logical_constants p.names at op k l)
  logical_constants_sound at op (form.Bool b) l = untyped_sound at (binary_answer op None (form.Bool b) l)
  logical_constants_sound at op _ l = sound_bad p a _ _

  logical_sound : (at : Place) (op : Op) (m : Match) → MatchSound m → IsSound p a (logical p.names at op m)
  logical_sound at op (bin.alike t c v d w) h = sound_test p a (is_bool (underlying p.names t)) (logical_value p.names at op t c v d w) (bad at 55) (λ e. logical_value_sound at op t c v d w e h.0 h.1) (sound_bad p a at 55)
  logical_sound at op (bin.constants k l) h = logical_constants_sound at op k l
  logical_sound at op (bin.truths c d) h = let v = joined_value op ty.bool c None d None refl (as_truth c h.0) (as_truth d h.1) in truth_sound _ (record { sound = v.sound; gives = v.gives })
  logical_sound at op (bin.numbers x y b) h = sound_unless p a (pending_flaws p.names (default_type b) x ++ pending_flaws p.names (default_type b) y) (bad at 55) (λ e. sound_bad p a at 55)
  logical_sound at op (bin.unfit f fs) h = sound p a _ tt
  logical_sound at op bin.differ h = sound_bad p a _ _

  -- an operator of the class
  abbrev pub OfClass : OpClass → Op → Type 0
  OfClass bin.Arithmetic op = IsArithmetic op
  OfClass bin.Comparison op = IsComparisonOp op
  OfClass bin.Logical op = Unit {0}

  operands_sound : (class : OpClass) (at : Place) (op : Op) (q : Place) (x : Operand) (r : Place) (y : Operand) → OfClass class op → OperandSound p a x → OperandSound p a y → IsSound p a (on_operands p.names class at op q x r y)
  operands_sound bin.Arithmetic at op q x r y i h k = let m = matched_sound false q x r y h k in arithmetic_sound at op r (matched p.names false q x r y) i m.is_match
  operands_sound bin.Comparison at op q x r y i h k = let m = matched_sound true q x r y h k in comparison_sound at op (matched p.names true q x r y) i m.is_match
  operands_sound bin.Logical at op q x r y i h k = let m = matched_sound false q x r y h k in logical_sound at op (matched p.names false q x r y) m.is_match

  pub singles_sound : (class : OpClass) (at : Place) (op : Op) (q : Place) (x : Option Operand) (r : Place) (y : Option Operand) → OfClass class op → SingleSound p a x → SingleSound p a y → IsSound p a (on_singles p.names class at op q x r y)
  singles_sound class at op q (Some x) r (Some y) i h k = operands_sound class at op q x r y i h k
  singles_sound class at op q (Some x) r None i h k = sound p a _ tt
  singles_sound class at op q None r y i h k = sound p a _ tt

-- Rows whose cores have a meaning: indexes, slices, conversions and calls.
use Rattle.std.proofs.Common.{◌≡◌, ◌⊎◌, inl, inr, ℕ, ℤ, pos, negsuc, List, [], ◌∷◌, ◌++◌, refl, sym, subst, ap, ◌∙◌, Bool, true, false, Option, Some, None, if◌then◌else◌, slice_get, length}
use Rattle.gj_base.specs.declared.place.Place.{Place}
use Rattle.gj_base.specs.declared.kind.Kind.TheVariants.{I32}
use Rattle.go_const.specs.declared.constant.Const.{Const}
use Rattle.go_const.specs.declared.constant.Const.TheVariants as form
use Rattle.go_const.specs.declared.constant.Basic.TheVariants as basic
use Rattle.go_const.specs.Operation.{whole_of}
use Rattle.go_const.specs.Answer.{holds, conversion_of}
use Rattle.go_type.specs.declared.types.IntName.TheVariants as integer
use Rattle.go_type.specs.Tree as ty
use Rattle.go_type.specs.Tree.{Ty, Tys, no_tys, more_tys}
use Rattle.go_type.specs.Underlying.{underlying}
use Rattle.go_core.specs.SameType.{same_types}
use Rattle.go_core.specs.Untagged.{untagged}
use Rattle.go_core.specs.Layout.{kind_of}
use Rattle.go_core.specs.CoreTree as core
use Rattle.go_core.specs.CoreTree.{CoreProgram, no_bound, bound}
use Rattle.go_core.specs.TypeOf.{types_of, all_types, listed_types}
use Rattle.go_core.specs.SoundNode.{Around, IsPrintable, Converts, IsConversion, SlicesTo, CallsFunction, IsRowOf, HasLength}
use Rattle.go_core.specs.Sound.{SoundExpr, SoundExprs, SoundBound, ArePrintable}
use Rattle.go_core.proofs.SameTypeLemmas.{type_one, types_one}
use Rattle.go_typing.specs.Env.{Builtin, Len, Print, Println, int_type, byte_type, name_of_builtin}
use Rattle.go_typing.specs.Answer.{Flaw, Answer, value, pending, type_, package_, built_in, blank, does, wrong, untyped_part, bad, bad_name, all_known, Part}
use Rattle.go_typing.specs.Operand.{Operand, typed, constant_operand, truth_operand, pending_operand, nil_operand, single, constant_at, truth_at, is_int, is_bool, default_type, pending_flaws, pending_at, settled_at, settled_alone, passed_at, Passed, passed, refused, unassignable, Settled, settled, unsettled}
use Rattle.go_typing.specs.Wanted.{no_values, operand_in, operands_of}
use Rattle.go_typing.specs.Index as indexes
use Rattle.go_typing.specs.Index.{Indexed, of_text, of_unbuilt, of_other, length_of, indexed_typed, indexed_constant, indexed_of, other_unless, indexed_flaws, Index, index, no_index, unfit_index, whole_index, known_index, fit_index, index_of, index_flaws, is_below, byte_at, index_fit, index_known, index_single, Edge, no_edge, edge, edge_flaws, edge_value, edge_bound, edge_at, edge_of, past_end, out_of_order, has_edge, slice_text, slice_fit, slice_known, slice_single}
use Rattle.go_typing.specs.Convert.{converts, is_scalar, converted_constant, converted, conversion_of_all, conversion_row}
use Rattle.go_typing.specs.Call as calls
use Rattle.go_typing.specs.Call.{given, given_each, values_of, no_givens_unless, same_count, one_count, only_value, values_at, values_alone, and_settled, more_values, more_unfit, all_printable, all_scalar, is_printable, ends_line, Given, each, several, no_givens, Values, values, call_value, call_with, print_with, function_given, spread_given, function_row, constant_length, length_of_typed, length_of_constant, length_row, length_given, print_given, built_in_call, built_in_row, called_value, called_known, is_built}
use Rattle.go_sound.specs.SoundTyped.{IsScalarType, AreScalarTypes}
use Rattle.go_sound.proofs.SoundConstants.{ResultFits, settled_fits}
use Rattle.go_sound.proofs.SoundWords.{scalar_good, IsValue, IsCount, OperandSound, SingleSound, AnswerSound, IsSound, sound, sound_single, value_sound, sound_bad, sound_if, sound_test, sound_unless, sound_known, sound_folded, pending_value, passed_sound, truth_value_at, IsSettled, settled_sound, alone_sound}
use Rattle.go_sound.proofs.SoundRows.{whole_constant, integer_count, pending_count, is_text_form}

append-nil_types : (ts : List Ty) → ts ++ [] ≡ ts
append-nil_types [] = refl
append-nil_types (t ∷ ts) = ap (λ (us : List Ty). t ∷ us) (append-nil_types ts)

module _ (p : CoreProgram) (a : Around) where
  -- ---- indexes

  record IsTextValue (c : core.Expr) (t : Ty) : Type 0 where
    pub value_ : IsValue p a c t None
    pub text : underlying p.names t ≡ ty.str

  abbrev IndexedSound : Indexed → Type 0
  IndexedSound (of_text c t limit) = IsTextValue c t
  IndexedSound of_unbuilt = Unit {0}
  IndexedSound of_other = Unit {0}
  IndexedSound (indexes.unfit f fs) = Unit {0}

  record IsIndexed (x : Indexed) : Type 0 where
    pub is_indexed : IndexedSound x

  without : (c : core.Expr) (t : Ty) (v : Option Const) → IsValue p a c t v → IsValue p a c t None
  without c t v h = record { sound = h.sound; gives = h.gives; scalar = h.scalar; fits = tt }

  indexed_typed_sound : (u : Ty) (c : core.Expr) (t : Ty) (v : Option Const) → underlying p.names t ≡ u → IsValue p a c t v → IsIndexed (indexed_typed u c t v)
  indexed_typed_sound ty.str c t v e h = record { is_indexed = record { value_ = without c t v h; text = e } }
  indexed_typed_sound (ty.array n w) c t v e h = record { is_indexed = tt }
  indexed_typed_sound (ty.slice w) c t v e h = record { is_indexed = tt }
  indexed_typed_sound (ty.pointer w) c t v e h = record { is_indexed = tt }
  indexed_typed_sound (ty.mapping k w) c t v e h = record { is_indexed = tt }
  indexed_typed_sound _ c t v e h = record { is_indexed = tt }

  indexed_constant_sound : (k : Const) → IsIndexed (indexed_constant k)
  indexed_constant_sound (form.Text s) = record { is_indexed = record { value_ = record { sound = tt; gives = refl; scalar = refl; fits = tt }; text = refl } }
  indexed_constant_sound (form.Bool b) = record { is_indexed = tt }
  indexed_constant_sound (form.Int z) = record { is_indexed = tt }
  indexed_constant_sound (form.Rune z) = record { is_indexed = tt }

  other_unless_sound : (fs : List Flaw) → IsIndexed (other_unless fs)
  other_unless_sound [] = record { is_indexed = tt }
  other_unless_sound (f ∷ fs) = record { is_indexed = tt }

  indexed_sound : (q : Place) (x : Operand) → OperandSound p a x → IsIndexed (indexed_of p.names q x)
  indexed_sound q (typed c t v) h = indexed_typed_sound (underlying p.names t) c t v refl h
  indexed_sound q (constant_operand k) h = indexed_constant_sound k
  indexed_sound q (truth_operand c) h = record { is_indexed = tt }
  indexed_sound q (pending_operand x b) h = other_unless_sound (pending_flaws p.names (default_type b) x)
  indexed_sound q nil_operand h = record { is_indexed = tt }

  abbrev pub IndexSound : Index → Type 0
  IndexSound (index d n) = IsCount p a d
  IndexSound no_index = Unit {0}
  IndexSound (unfit_index f fs) = Unit {0}

  pub record IsIndex (i : Index) : Type 0 where
    pub is_index : IndexSound i

  whole_index_sound : (c : core.Expr) (z : Option ℤ) → ((n : ℕ) → z ≡ Some (pos n) → holds (Some I32) (pos n) ≡ true → IsCount p a c) → IsIndex (whole_index c z)
  whole_index_sound c None h = record { is_index = tt }
  whole_index_sound c (Some (negsuc n)) h = record { is_index = tt }
  whole_index_sound c (Some (pos n)) h = by_test (holds (Some I32) (pos n)) refl
    where
      by_test : (b : Bool) → holds (Some I32) (pos n) ≡ b → IsIndex (if b then index c (Some n) else no_index)
      by_test true e = record { is_index = h n refl e }
      by_test false e = record { is_index = tt }

  known_index_sound : (c : core.Expr) (v : Option Const) → IsCount p a c → IsIndex (known_index c v)
  known_index_sound c None h = record { is_index = h }
  known_index_sound c (Some k) h = whole_index_sound c (whole_of k) (λ n e f. h)

  fit_index_sound : (fs : List Flaw) (c : core.Expr) → (fs ≡ [] → IsCount p a c) → IsIndex (fit_index fs c)
  fit_index_sound [] c h = record { is_index = h refl }
  fit_index_sound (f ∷ fs) c h = record { is_index = tt }

  index_test : (b : Bool) (i : Index) → (b ≡ true → IsIndex i) → IsIndex (if b then i else no_index)
  index_test true i h = h refl
  index_test false i h = record { is_index = tt }

  index_sound_of : (q : Place) (y : Operand) → OperandSound p a y → IsIndex (index_of p.names q y)
  index_sound_of q (typed c t v) h = index_test (is_int (underlying p.names t)) (known_index c v) (λ e. known_index_sound c v (integer_count p a c t v h e))
  index_sound_of q (constant_operand k) h =
      whole_index_sound (constant_at int_type k) (whole_of k) (λ n e f. record { sound = whole_constant p a integer.Int k (pos n) e f; gives = (int_type, refl, tt) })
  index_sound_of q (truth_operand c) h = record { is_index = tt }
  index_sound_of q (pending_operand x b) h = fit_index_sound (pending_flaws p.names int_type x) (pending_at int_type x) (λ e. pending_count p a int_type x h.0 h.1 e)
  index_sound_of q nil_operand h = record { is_index = tt }

  byte_sound : (q : Place) (c : core.Expr) (t : Ty) (limit : Option ℕ) (i : Index) → IsTextValue c t → IsIndex i → IsSound p a (byte_at q c limit i)
  byte_sound q c t limit (index d n) h k = sound_if p a (is_below n limit) (value (core.byte_at c d) byte_type None) (bad q 65) (value_sound p a (core.byte_at c d) byte_type None byte) (sound_bad p a q 65)
    where
      byte : IsValue p a (core.byte_at c d) byte_type None
      byte = let v = h.value_ in let n = k.is_index in record { sound = (v.sound, n.sound, (t, v.gives, is_text_form p a (underlying p.names t) h.text), n.gives); gives = refl; scalar = refl; fits = tt }
  byte_sound q c t limit no_index h k = sound_bad p a _ _
  byte_sound q c t limit (unfit_index f fs) h k = sound p a _ tt

  index_fit_sound : (at : Place) (x : Indexed) (q : Place) (i : Index) → IsIndexed x → IsIndex i → IsSound p a (index_fit at x q i)
  index_fit_sound at (of_text c t limit) q i h k = byte_sound q c t limit i h.is_indexed k
  index_fit_sound at of_unbuilt q i h k = sound_bad p a _ _
  index_fit_sound at of_other q i h k = sound_bad p a _ _
  index_fit_sound at (indexes.unfit f fs) q i h k = sound p a _ tt

  pub index_sound : (at q : Place) (x : Option Operand) (r : Place) (y : Option Operand) → SingleSound p a x → SingleSound p a y → IsSound p a (index_single p.names at q x r y)
  index_sound at q (Some x) r (Some y) h k =
      sound_unless p a (indexed_flaws (indexed_of p.names q x) ++ index_flaws (index_of p.names r y)) (index_fit at (indexed_of p.names q x) r (index_of p.names r y))
      (λ e. index_fit_sound at (indexed_of p.names q x) r (index_of p.names r y) (indexed_sound q x h) (index_sound_of r y k))
  index_sound at q (Some x) r None h k = sound p a _ tt
  index_sound at q None r y h k = sound p a _ tt

  -- ---- slices

  abbrev pub EdgeSound : Edge → Type 0
  EdgeSound no_edge = Unit {0}
  EdgeSound (edge q i) = IsIndex i

  pub record IsEdge (x : Edge) : Type 0 where
    pub is_edge : EdgeSound x

  edge_at_sound : (q : Place) (y : Option Operand) → SingleSound p a y → IsEdge (edge_at p.names q y)
  edge_at_sound q None h = record { is_edge = tt }
  edge_at_sound q (Some y) h = record { is_edge = index_sound_of q y h }

  abbrev pub BoundSound : Option Part → Type 0
  BoundSound None = Unit {0}
  BoundSound (Some x) = IsSound p a x.answer

  pub edge_sound : (b : Option Part) → BoundSound b → IsEdge (edge_of p.names b)
  edge_sound None h = record { is_edge = tt }
  edge_sound (Some x) h = edge_at_sound x.place (single x.answer) (sound_single p a x.answer h)

  index_bound : (q : Place) (i : Index) → IsIndex i → SoundBound p a (edge_bound (edge q i))
  index_bound q (index d n) h = let c = h.is_index in (c.sound, c.gives)
  index_bound q no_index h = tt
  index_bound q (unfit_index f fs) h = tt

  bound_sound : (x : Edge) → IsEdge x → SoundBound p a (edge_bound x)
  bound_sound no_edge h = tt
  bound_sound (edge q i) h = index_bound q i h.is_edge

  slice_text_sound : (c : core.Expr) (t : Ty) (limit : Option ℕ) (low high : Edge) → IsTextValue c t → IsEdge low → IsEdge high → IsSound p a (slice_text c t limit low high)
  slice_text_sound c t limit low high h k l =
      sound_unless p a (past_end limit low ++ past_end limit high) _ (λ e. sound_unless p a (out_of_order (edge_value low) high) (value (core.slice_of t t c (edge_bound low) (edge_bound high) core.no_bound) t None)
      (λ f. value_sound p a (core.slice_of t t c (edge_bound low) (edge_bound high) core.no_bound) t None part))
    where
      part : IsValue p a (core.slice_of t t c (edge_bound low) (edge_bound high) core.no_bound) t None
      part = let v = h.value_ in record {
        sound = (v.sound, bound_sound low k, bound_sound high l, tt, v.gives, subst (λ (u : Ty). SlicesTo p u t t) (sym h.text) refl);
        gives = refl;
        scalar = v.scalar;
        fits = tt;
      }

  slice_fit_sound : (at : Place) (x : Indexed) (low high most : Edge) → IsIndexed x → IsEdge low → IsEdge high → IsSound p a (slice_fit at x low high most)
  slice_fit_sound at (of_text c t limit) low high most h k l = sound_if p a (has_edge most) (bad at 64) (slice_text c t limit low high) (sound_bad p a at 64) (slice_text_sound c t limit low high h.is_indexed k l)
  slice_fit_sound at of_unbuilt low high most h k l = sound_bad p a _ _
  slice_fit_sound at of_other low high most h k l = sound_bad p a _ _
  slice_fit_sound at (indexes.unfit f fs) low high most h k l = sound p a _ tt

  pub slice_sound : (at q : Place) (x : Option Operand) (fs : List Flaw) (low high most : Edge) → SingleSound p a x → IsEdge low → IsEdge high → IsSound p a (slice_single p.names at q x fs low high most)
  slice_sound at q (Some x) [] low high most h k l =
      sound_unless p a (indexed_flaws (indexed_of p.names q x) ++ edge_flaws low ++ edge_flaws high ++ edge_flaws most) (slice_fit at (indexed_of p.names q x) low high most)
      (λ e. slice_fit_sound at (indexed_of p.names q x) low high most (indexed_sound q x h) k l)
  slice_sound at q (Some x) (f ∷ fs) low high most h k l = sound p a _ tt
  slice_sound at q None fs low high most h k l = sound p a _ tt

  -- ---- conversions

  converted_constant_sound : (at q : Place) (t u : Ty) (k : Const) → underlying p.names t ≡ u → IsScalarType p t → IsSound p a (converted_constant at q t u k)
  converted_constant_sound at q t ty.bool (form.Bool b) e h = sound_folded p a q t (conversion_of (form.Bool b) basic.Bool) h (subst (λ (w : Ty). ResultFits w (conversion_of (form.Bool b) basic.Bool)) (sym e) tt)
  converted_constant_sound at q t ty.str (form.Text s) e h = sound_folded p a q t (conversion_of (form.Text s) basic.Str) h (subst (λ (w : Ty). ResultFits w (conversion_of (form.Text s) basic.Str)) (sym e) tt)
  converted_constant_sound at q t ty.str (form.Int z) e h = sound_folded p a q t (conversion_of (form.Int z) basic.Str) h (subst (λ (w : Ty). ResultFits w (conversion_of (form.Int z) basic.Str)) (sym e) tt)
  converted_constant_sound at q t ty.str (form.Rune z) e h = sound_folded p a q t (conversion_of (form.Rune z) basic.Str) h (subst (λ (w : Ty). ResultFits w (conversion_of (form.Rune z) basic.Str)) (sym e) tt)
  converted_constant_sound at q t (ty.int name) (form.Int z) e h =
      sound_folded p a q t (conversion_of (form.Int z) (basic.Int (kind_of name))) h (subst (λ (w : Ty). ResultFits w (conversion_of (form.Int z) (basic.Int (kind_of name)))) (sym e) (settled_fits name false z))
  converted_constant_sound at q t (ty.int name) (form.Rune z) e h =
      sound_folded p a q t (conversion_of (form.Rune z) (basic.Int (kind_of name))) h (subst (λ (w : Ty). ResultFits w (conversion_of (form.Rune z) (basic.Int (kind_of name)))) (sym e) (settled_fits name false z))
  converted_constant_sound at q t _ k e h = sound_bad p a _ _

  -- what converts is a conversion
  is_conversion : (u w : Ty) → converts u w ≡ true → (u ≡ w) ⊎ Converts p u w
  is_conversion (ty.int x) (ty.int y) h = inr tt
  is_conversion (ty.int x) ty.str h = inr tt
  is_conversion (ty.int x) _ h = let e : false ≡ true = h in cc
  is_conversion ty.bool w h = inl (type_one ty.bool w h)
  is_conversion ty.str w h = inl (type_one ty.str w h)
  is_conversion ty.nil w h = inl (type_one ty.nil w h)
  is_conversion (ty.untyped b) w h = inl (type_one (ty.untyped b) w h)
  is_conversion (ty.array n t) w h = inl (type_one (ty.array n t) w h)
  is_conversion (ty.slice t) w h = inl (type_one (ty.slice t) w h)
  is_conversion (ty.struct fs) w h = inl (type_one (ty.struct fs) w h)
  is_conversion (ty.pointer t) w h = inl (type_one (ty.pointer t) w h)
  is_conversion (ty.func ps rs v) w h = inl (type_one (ty.func ps rs v) w h)
  is_conversion (ty.interface ms) w h = inl (type_one (ty.interface ms) w h)
  is_conversion (ty.mapping k v) w h = inl (type_one (ty.mapping k v) w h)
  is_conversion (ty.chan d t) w h = inl (type_one (ty.chan d t) w h)
  is_conversion (ty.named id) w h = inl (type_one (ty.named id) w h)
  is_conversion (ty.tuple ts) w h = inl (type_one (ty.tuple ts) w h)

  conversion_here : (u t : Ty) → (underlying p.names u ≡ underlying p.names t) ⊎ Converts p (underlying p.names u) (underlying p.names t) → IsConversion p u t
  conversion_here u t (inl h) = inl (ap untagged h)
  conversion_here u t (inr h) = inr (inl h)

  converted_value : (t : Ty) (c : core.Expr) (u : Ty) (v : Option Const) → IsScalarType p t → IsValue p a c u v → converts (underlying p.names u) (underlying p.names t) ≡ true → IsValue p a (core.convert u t c) t None
  converted_value t c u v s h e = record {
    sound = (h.sound, h.gives, scalar_good p t s, conversion_here u t (is_conversion (underlying p.names u) (underlying p.names t) e));
    gives = refl;
    scalar = s;
    fits = tt;
  }

  converted_sound : (at : Place) (t : Ty) (q : Place) (x : Operand) → IsScalarType p t → OperandSound p a x → IsSound p a (converted p.names at t q x)
  converted_sound at t q (typed c u None) s h =
      sound_test p a (converts (underlying p.names u) (underlying p.names t)) (value (core.convert u t c) t None) (bad at 58) (λ e. value_sound p a (core.convert u t c) t None (converted_value t c u None s h e)) (sound_bad p a at 58)
  converted_sound at t q (typed c u (Some l)) s h = converted_constant_sound at q t (underlying p.names t) l refl s
  converted_sound at t q (constant_operand l) s h = converted_constant_sound at q t (underlying p.names t) l refl s
  converted_sound at t q (truth_operand c) s h =
      sound_test p a (is_bool (underlying p.names t)) (value (truth_at t c) t None) (bad at 58) (λ e. value_sound p a (truth_at t c) t None (truth_value_at p a t c h e s)) (sound_bad p a at 58)
  converted_sound at t q (pending_operand x b) s h = sound_unless p a (pending_flaws p.names t x) (value (pending_at t x) t None) (λ e. value_sound p a (pending_at t x) t None (pending_value p a t x h.0 h.1 e))
  converted_sound at t q nil_operand s h = sound_bad p a _ _

  abbrev pub OperandsSound : List (Place × Operand) → Type 0
  OperandsSound [] = Unit {0}
  OperandsSound (x ∷ xs) = OperandSound p a x.1 × OperandsSound xs

  conversion_all_sound : (at : Place) (t : Ty) (xs : List (Place × Operand)) → IsScalarType p t → OperandsSound xs → IsSound p a (conversion_of_all p.names at t xs)
  conversion_all_sound at t [] h k = sound_bad p a _ _
  conversion_all_sound at t (x ∷ []) h k = sound_if p a (is_scalar (underlying p.names t)) (converted p.names at t x.0 x.1) (bad at 0) (converted_sound at t x.0 x.1 h k.0) (sound_bad p a at 0)
  conversion_all_sound at t (x ∷ y ∷ ys) h k = sound_bad p a _ _

  abbrev pub PartsSound : List Part → Type 0
  PartsSound [] = Unit {0}
  PartsSound (x ∷ xs) = IsSound p a x.answer × PartsSound xs

  more_sound : (q : Place) (x : Option Operand) (xs : List (Place × Operand)) → SingleSound p a x → OperandsSound xs → OperandsSound (operand_in q x ++ xs)
  more_sound q None xs h k = k
  more_sound q (Some x) xs h k = (h, k)

  operands_sound : (xs : List Part) → PartsSound xs → OperandsSound (operands_of xs)
  operands_sound [] h = tt
  operands_sound (x ∷ xs) h = more_sound x.place (single x.answer) (operands_of xs) (sound_single p a x.answer h.0) (operands_sound xs h.1)

  conversion_sound : (at : Place) (t : Ty) (spread : Bool) (xs : List Part) → IsScalarType p t → PartsSound xs → IsSound p a (conversion_row p.names at t spread xs)
  conversion_sound at t spread xs h k =
      sound_known p a (all_known xs) _ (sound_unless p a (no_values xs) _ (λ e. sound_if p a spread (bad at 60) (conversion_of_all p.names at t (operands_of xs)) (sound_bad p a at 60) (conversion_all_sound at t (operands_of xs) h (operands_sound xs k))))

  -- ---- what a call is given

  record AreSeveral (c : core.Expr) (ts : Tys) : Type 0 where
    pub sound : SoundExpr p a c
    pub gives : types_of p.names c ≡ listed_types ts
    pub scalar : AreScalarTypes p ts

  abbrev GivenSound : Given → Type 0
  GivenSound (each xs) = OperandsSound xs
  GivenSound (several q c ts) = AreSeveral c ts
  GivenSound (no_givens f fs) = Unit {0}

  record IsGiven (g : Given) : Type 0 where
    pub is_given : GivenSound g

  unless_given : (fs : List Flaw) (g : Given) → IsGiven g → IsGiven (no_givens_unless fs g)
  unless_given [] g h = h
  unless_given (f ∷ fs) g h = record { is_given = tt }

  each_sound : (xs : List Part) → PartsSound xs → IsGiven (given_each xs)
  each_sound xs h = unless_given (no_values xs) (each (operands_of xs)) (record { is_given = operands_sound xs h })

  abbrev ValuesAre : Option (core.Expr × Tys) → Type 0
  ValuesAre None = Unit {0}
  ValuesAre (Some vs) = AreSeveral vs.0 vs.1

  values_are : (x : Answer) → AnswerSound p a x → ValuesAre (values_of x)
  values_are (value c (ty.tuple no_tys) v) h = tt
  values_are (value c (ty.tuple (more_tys t no_tys)) v) h = tt
  values_are (value c (ty.tuple (more_tys t (more_tys u ts))) v) h = record { sound = h.0; gives = h.1; scalar = h.2 }
  values_are (value c (ty.untyped b) None) h = tt
  values_are (value c (ty.untyped b) (Some k)) h = tt
  values_are (value c _ v) h = tt
  values_are (pending q b) h = tt
  values_are (type_ t) h = tt
  values_are (package_ q) h = tt
  values_are (built_in b) h = tt
  values_are blank h = tt
  values_are (does st) h = tt
  values_are (wrong f fs) h = tt
  values_are untyped_part h = tt

  one_sound : (x : Part) (vs : Option (core.Expr × Tys)) → IsSound p a x.answer → ValuesAre vs → IsGiven (calls.given_one x vs)
  one_sound x None h k = each_sound (x ∷ []) (h, tt)
  one_sound x (Some vs) h k = record { is_given = k }

  given_sound : (xs : List Part) → PartsSound xs → IsGiven (given xs)
  given_sound [] h = each_sound [] h
  given_sound (x ∷ []) h = let k = h.0 in one_sound x (values_of x.answer) k (values_are x.answer k.is_sound)
  given_sound (x ∷ y ∷ ys) h = each_sound (x ∷ y ∷ ys) h

  -- ---- the values that are passed

  record ArePassed (ts : Tys) (es : core.Exprs) : Type 0 where
    pub sound : SoundExprs p a es
    pub give : all_types p.names es ≡ listed_types ts

  abbrev ValuesSound : Tys → Values → Type 0
  ValuesSound ts (values es) = ArePassed ts es
  ValuesSound ts (calls.unfit f fs) = Unit {0}

  record AreValues (ts : Tys) (vs : Values) : Type 0 where
    pub are_values : ValuesSound ts vs

  more_passed : (c : core.Expr) (t : Ty) (v : Option Const) (ts : Tys) (vs : Values) → IsValue p a c t v → AreValues ts vs → AreValues (more_tys t ts) (more_values c vs)
  more_passed c t v ts (values es) h k = let r = k.are_values in record { are_values = record { sound = (h.sound, r.sound); give = ap (λ (us : List Ty). us ++ all_types p.names es) h.gives ∙ ap (λ (us : List Ty). t ∷ us) r.give } }
  more_passed c t v ts (calls.unfit f fs) h k = record { are_values = tt }

  less_passed : (ts : Tys) (f : Flaw) (fs : List Flaw) (vs : Values) → AreValues ts (more_unfit f fs vs)
  less_passed ts f fs (values es) = record { are_values = tt }
  less_passed ts f fs (calls.unfit g gs) = record { are_values = tt }

  -- a value that was settled at a type
  abbrev HasType : Ty → Settled → Type 0
  HasType t (settled c u v) = u ≡ t
  HasType t (unsettled f fs) = Unit {0}

  settled_more : (t : Ty) (ts : Tys) (x : Settled) (vs : Values) → IsSettled p a x → HasType t x → AreValues ts vs → AreValues (more_tys t ts) (and_settled x vs)
  settled_more t ts (settled c u v) vs h k l = more_passed c t v ts vs (subst (λ (w : Ty). IsValue p a c w v) k h.is_settled) l
  settled_more t ts (unsettled f fs) vs h k l = less_passed (more_tys t ts) f fs vs

  at_type : (q : Place) (t : Ty) (x : Passed) → HasType t (settled_at q t x)
  at_type q t (passed c v) = refl
  at_type q t (refused f fs) = tt
  at_type q t unassignable = tt

  values_sound : (ts : Tys) (xs : List (Place × Operand)) → same_count ts xs ≡ true → AreScalarTypes p ts → OperandsSound xs → AreValues ts (values_at p.names ts xs)
  values_sound no_tys [] e h k = record { are_values = record { sound = tt; give = refl } }
  values_sound no_tys (x ∷ xs) e h k = let f : false ≡ true = e in cc
  values_sound (more_tys t ts) [] e h k = let f : false ≡ true = e in cc
  values_sound (more_tys t ts) (x ∷ xs) e h k =
      settled_more t ts (settled_at x.0 t (passed_at p.names x.0 t x.1)) (values_at p.names ts xs) (settled_sound p a x.0 t (passed_at p.names x.0 t x.1) (passed_sound p a x.0 t x.1 h.0 k.0)) (at_type x.0 t (passed_at p.names x.0 t x.1))
      (values_sound ts xs e h.1 k.1)

  -- ---- functions

  -- a function that may be called with operands of these types
  pub record IsCallable (id : ℕ) (ps rs : Tys) : Type 0 where
    pub calls_it : CallsFunction (slice_get p.funcs id) a.vars (listed_types ps) rs
    pub no_row : IsRowOf p id → ⊥
    pub params_scalar : AreScalarTypes p ps
    pub results_scalar : AreScalarTypes p rs

  call_sound : (rs : Tys) (c : core.Expr) → AreScalarTypes p rs → SoundExpr p a c → types_of p.names c ≡ listed_types rs → IsSound p a (call_value rs c)
  call_sound no_tys c h s e = sound p a _ (s, e, tt, refl)
  call_sound (more_tys t no_tys) c h s e = value_sound p a c t None (record { sound = s; gives = e; scalar = h.0; fits = tt })
  call_sound (more_tys t (more_tys u us)) c h s e = sound p a _ (s, e, h, refl)

  call_with_sound : (id : ℕ) (ps rs : Tys) (vs : Values) → IsCallable id ps rs → AreValues ps vs → IsSound p a (call_with id rs vs)
  call_with_sound id ps rs (values es) h k =
      let r = k.are_values in
      call_sound rs (core.call rs (core.function id) es) h.results_scalar
      (tt, r.sound, (subst (λ (us : List Ty). CallsFunction (slice_get p.funcs id) a.vars us rs) (sym r.give) h.calls_it, h.no_row)) refl
  call_with_sound id ps rs (calls.unfit f fs) h k = sound p a _ tt

  only_passed : (c : core.Expr) (ts : Tys) → AreSeveral c ts → AreValues ts (values (only_value c))
  only_passed c ts h = record { are_values = record { sound = (h.sound, tt); give = append-nil_types (types_of p.names c) ∙ h.gives } }

  function_given_sound : (at : Place) (id : ℕ) (ps rs : Tys) (g : Given) → IsCallable id ps rs → IsGiven g → IsSound p a (function_given p.names at id ps rs g)
  function_given_sound at id ps rs (each xs) h k =
      sound_test p a (same_count ps xs) (call_with id rs (values_at p.names ps xs)) (bad at 60) (λ e. call_with_sound id ps rs (values_at p.names ps xs) h (values_sound ps xs e h.params_scalar k.is_given)) (sound_bad p a at 60)
  function_given_sound at id ps rs (several q c ts) h k =
      sound_if p a (one_count ps ts) _ (bad at 60)
      (sound_test p a (same_types ps ts) (call_with id rs (values (only_value c))) (bad q 61)
      (λ e. call_with_sound id ps rs (values (only_value c)) h (subst (λ (us : Tys). AreValues us (values (only_value c))) (sym (types_one ps ts e)) (only_passed c ts k.is_given))) (sound_bad p a q 61))
      (sound_bad p a at 60)
  function_given_sound at id ps rs (no_givens f fs) h k = sound p a _ tt

  spread_sound : (at : Place) (g : Given) → IsSound p a (spread_given p.names at g)
  spread_sound at (no_givens f fs) = sound p a _ tt
  spread_sound at (each xs) = sound_bad p a _ _
  spread_sound at (several q c ts) = sound_bad p a _ _

  abbrev pub CallsSound : ℕ → Tys → Tys → Bool → Type 0
  CallsSound id ps rs true = Unit {0}
  CallsSound id ps rs false = IsCallable id ps rs

  pub function_sound : (at : Place) (id : ℕ) (ps rs : Tys) (variadic spread : Bool) (xs : List Part) → CallsSound id ps rs variadic → PartsSound xs → IsSound p a (function_row p.names at id ps rs variadic spread xs)
  function_sound at id ps rs true spread xs h k = sound_known p a (all_known xs) (bad at 0) (sound_bad p a at 0)
  function_sound at id ps rs false true xs h k = sound_known p a (all_known xs) _ (spread_sound at (given xs))
  function_sound at id ps rs false false xs h k = sound_known p a (all_known xs) _ (function_given_sound at id ps rs (given xs) h (given_sound xs k))

  -- ---- `len`

  constant_length_sound : (at : Place) (bytes : List ℕ) → IsSound p a (constant_length at bytes)
  constant_length_sound at bytes = sound_folded p a at int_type _ refl (settled_fits integer.Int false (pos (length bytes)))

  length_value : (c : core.Expr) (t : Ty) (v : Option Const) → IsValue p a c t v → underlying p.names t ≡ ty.str → IsSound p a (value (core.len t c) int_type None)
  length_value c t v h e = value_sound p a (core.len t c) int_type None (record { sound = (h.sound, h.gives, subst (HasLength p) (sym e) tt); gives = refl; scalar = refl; fits = tt })

  length_typed_sound : (at : Place) (c : core.Expr) (t u : Ty) (v : Option Const) → underlying p.names t ≡ u → IsValue p a c t v → IsSound p a (length_of_typed p.names at c t u v)
  length_typed_sound at c t ty.str (Some (form.Text s)) e h = constant_length_sound at s
  length_typed_sound at c t ty.str (Some (form.Bool b)) e h = length_value c t (Some (form.Bool b)) h e
  length_typed_sound at c t ty.str (Some (form.Int z)) e h = length_value c t (Some (form.Int z)) h e
  length_typed_sound at c t ty.str (Some (form.Rune z)) e h = length_value c t (Some (form.Rune z)) h e
  length_typed_sound at c t ty.str None e h = length_value c t None h e
  length_typed_sound at c t _ v e h = sound p a _ tt

  length_constant_sound : (at : Place) (k : Const) → IsSound p a (length_of_constant p.names at k)
  length_constant_sound at (form.Text s) = constant_length_sound at s
  length_constant_sound at _ = sound p a _ tt

  length_sound : (at q : Place) (x : Operand) → OperandSound p a x → IsSound p a (length_row p.names at q x)
  length_sound at q (typed c t v) h = length_typed_sound at c t (underlying p.names t) v refl h
  length_sound at q (constant_operand k) h = length_constant_sound at k
  length_sound at q (truth_operand c) h = sound p a _ tt
  length_sound at q (pending_operand x b) h = sound_unless p a (pending_flaws p.names (default_type b) x) (bad_name at 72 (name_of_builtin Len)) (λ e. sound p a _ tt)
  length_sound at q nil_operand h = sound_bad p a _ _

  length_given_sound : (at : Place) (g : Given) → IsGiven g → IsSound p a (length_given p.names at g)
  length_given_sound at (each []) h = sound_bad p a _ _
  length_given_sound at (each (x ∷ [])) h = let k = h.is_given in length_sound at x.0 x.1 k.0
  length_given_sound at (each (x ∷ y ∷ ys)) h = sound_bad p a _ _
  length_given_sound at (several q c ts) h = sound_bad p a _ _
  length_given_sound at (no_givens f fs) h = sound p a _ tt

  -- ---- `print` and `println`

  printable : (u : Ty) → is_scalar u ≡ true → IsPrintable u
  printable ty.bool h = tt
  printable ty.str h = tt
  printable (ty.int name) h = tt
  printable _ h = let e : false ≡ true = h in cc

  record ArePrinted (es : core.Exprs) : Type 0 where
    pub sound : SoundExprs p a es
    pub printable_all : ArePrintable p (all_types p.names es)

  abbrev PrintedValues : Values → Type 0
  PrintedValues (values es) = ArePrinted es
  PrintedValues (calls.unfit f fs) = Unit {0}

  record IsPrinted (vs : Values) : Type 0 where
    pub is_printed : PrintedValues vs

  more_printed : (c : core.Expr) (t : Ty) (v : Option Const) (vs : Values) → IsValue p a c t v → IsPrinted vs → IsPrinted (more_values c vs)
  more_printed c t v (values es) h k =
      let r = k.is_printed in
      record { is_printed = record { sound = (h.sound, r.sound); printable_all = subst (λ (us : List Ty). ArePrintable p (us ++ all_types p.names es)) (sym h.gives) (printable (underlying p.names t) h.scalar, r.printable_all) } }
  more_printed c t v (calls.unfit f fs) h k = record { is_printed = tt }

  less_printed : (f : Flaw) (fs : List Flaw) (vs : Values) → IsPrinted (more_unfit f fs vs)
  less_printed f fs (values es) = record { is_printed = tt }
  less_printed f fs (calls.unfit g gs) = record { is_printed = tt }

  settled_printed : (x : Settled) (vs : Values) → IsSettled p a x → IsPrinted vs → IsPrinted (and_settled x vs)
  settled_printed (settled c t v) vs h k = more_printed c t v vs h.is_settled k
  settled_printed (unsettled f fs) vs h k = less_printed f fs vs

  all_printed : (xs : List (Place × Operand)) → OperandsSound xs → IsPrinted (values_alone p.names xs)
  all_printed [] h = record { is_printed = record { sound = tt; printable_all = tt } }
  all_printed (x ∷ xs) h = settled_printed (settled_alone p.names x.0 x.1) (values_alone p.names xs) (alone_sound p a x.0 x.1 h.0) (all_printed xs h.1)

  listed_printable : (ts : Tys) → AreScalarTypes p ts → ArePrintable p (listed_types ts)
  listed_printable no_tys h = tt
  listed_printable (more_tys t ts) h = (printable (underlying p.names t) h.0, listed_printable ts h.1)

  several_printed : (c : core.Expr) (ts : Tys) → AreSeveral c ts → IsPrinted (values (only_value c))
  several_printed c ts h = record { is_printed = record { sound = (h.sound, tt); printable_all = subst (ArePrintable p) (sym (append-nil_types (types_of p.names c) ∙ h.gives)) (listed_printable ts h.scalar) } }

  print_with_sound : (ends : Bool) (vs : Values) → IsPrinted vs → IsSound p a (print_with ends vs)
  print_with_sound ends (values es) h = let r = h.is_printed in sound p a _ ((r.sound, r.printable_all), tt)
  print_with_sound ends (calls.unfit f fs) h = sound p a _ tt

  print_sound : (at : Place) (b : Builtin) (g : Given) → IsGiven g → IsSound p a (print_given p.names at b g)
  print_sound at b (each xs) h =
      sound_if p a (all_printable p.names xs) (print_with (ends_line b) (values_alone p.names xs)) (bad_name at 72 (name_of_builtin b)) (print_with_sound (ends_line b) (values_alone p.names xs) (all_printed xs h.is_given)) (sound p a _ tt)
  print_sound at b (several q c ts) h =
      sound_if p a (all_scalar p.names ts) (print_with (ends_line b) (values (only_value c))) (bad_name at 72 (name_of_builtin b)) (print_with_sound (ends_line b) (values (only_value c)) (several_printed c ts h.is_given)) (sound p a _ tt)
  print_sound at b (no_givens f fs) h = sound p a _ tt

  built_in_call_sound : (at : Place) (b : Builtin) (g : Given) → IsGiven g → IsSound p a (built_in_call p.names at b g)
  built_in_call_sound at Len g h = length_given_sound at g h
  built_in_call_sound at Print g h = print_sound at Print g h
  built_in_call_sound at Println g h = print_sound at Println g h
  built_in_call_sound at _ g h = sound_bad p a _ _

  pub built_in_sound : (at : Place) (b : Builtin) (spread : Bool) (xs : List Part) → PartsSound xs → IsSound p a (built_in_row p.names at b spread xs)
  built_in_sound at b spread xs h =
      sound_if p a (is_built b) _ (bad at 0)
      (sound_known p a (all_known xs) _ (sound_if p a spread (spread_given p.names at (given xs)) (built_in_call p.names at b (given xs)) (spread_sound at (given xs)) (built_in_call_sound at b (given xs) (given_sound xs h))))
      (sound_bad p a at 0)

  called_value_sound : (at q : Place) (u : Ty) → IsSound p a (called_value p.names at q u)
  called_value_sound at q (ty.func ps rs v) = sound_bad p a _ _
  called_value_sound at q (ty.tuple ts) = sound_bad p a _ _
  called_value_sound at q _ = sound_bad p a _ _

  pub called_sound : (at q : Place) (x : Answer) (spread : Bool) (xs : List Part) → IsSound p a x → PartsSound xs → IsSound p a (called_known p.names at q x spread xs)
  called_sound at q (value c t v) spread xs h k = sound_known p a (all_known xs) _ (called_value_sound at q (underlying p.names t))
  called_sound at q (pending x b) spread xs h k = sound_known p a (all_known xs) _ (sound_unless p a (pending_flaws p.names (default_type b) x) (bad q 59) (λ e. sound_bad p a q 59))
  called_sound at q (type_ t) spread xs h k = conversion_sound at t spread xs h.is_sound k
  called_sound at q (wrong f fs) spread xs h k = sound p a _ tt
  called_sound at q untyped_part spread xs h k = sound p a _ tt
  called_sound at q (package_ path) spread xs h k = sound_known p a (all_known xs) (bad q 52) (sound_bad p a q 52)
  called_sound at q (built_in b) spread xs h k = sound_known p a (all_known xs) (bad q 52) (sound_bad p a q 52)
  called_sound at q blank spread xs h k = sound_known p a (all_known xs) (bad q 52) (sound_bad p a q 52)
  called_sound at q (does st) spread xs h k = sound_known p a (all_known xs) (bad q 52) (sound_bad p a q 52)

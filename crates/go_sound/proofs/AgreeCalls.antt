-- Two lists of named types that agree on the types at hand: indexes, slices, conversions and calls are the same with both.
use Rattle.std.proofs.Common.{◌≡◌, ℕ, List, [], ◌∷◌, ◌++◌, ◌&&◌, refl, subst, ap, ◌∙◌, Bool, true, false, Option, Some, None, if◌then◌else◌}
use Rattle.gj_base.specs.declared.place.Place.{Place}
use Rattle.go_const.specs.declared.constant.Const.{Const}
use Rattle.go_const.specs.declared.constant.Const.TheVariants as form
use Rattle.go_const.specs.declared.constant.Basic.TheVariants as basic
use Rattle.go_const.specs.Answer.{conversion_of}
use Rattle.go_type.specs.Tree as ty
use Rattle.go_type.specs.Tree.{Ty, Tys, no_tys, more_tys}
use Rattle.go_type.specs.Named.{NamedTy}
use Rattle.go_type.specs.Underlying.{underlying}
use Rattle.go_core.specs.SameType.{same_types}
use Rattle.go_core.specs.Layout.{kind_of}
use Rattle.go_core.specs.CoreTree as core
use Rattle.go_typing.specs.Env.{Builtin, Len, Print, Println, int_type, byte_type, name_of_builtin}
use Rattle.go_typing.specs.Answer.{Flaw, Answer, value, pending, type_, package_, built_in, blank, does, wrong, untyped_part, bad, bad_name, all_known, Part}
use Rattle.go_typing.specs.Operand.{Operand, typed, constant_operand, truth_operand, pending_operand, nil_operand, single, truth_at, is_int, is_bool, default_type, pending_flaws, pending_at, settled_at, settled_alone, passed_at, Passed, Settled}
use Rattle.go_typing.specs.Wanted.{no_values, operand_in, operands_of}
use Rattle.go_typing.specs.Index as indexes
use Rattle.go_typing.specs.Index.{Indexed, of_text, of_unbuilt, of_other, indexed_typed, indexed_constant, indexed_of, other_unless, indexed_flaws, Index, index, no_index, unfit_index, known_index, fit_index, index_of, index_flaws, is_below, byte_at, index_fit, index_known, index_single, Edge, edge, edge_flaws, edge_value, edge_bound, edge_at, edge_of, past_end, out_of_order, has_edge, slice_text, slice_fit, slice_known, slice_single, is_known_bound, bound_no_value}
use Rattle.go_typing.specs.Convert.{converts, is_scalar, converted_constant, converted, conversion_of_all, conversion_row}
use Rattle.go_typing.specs.Call as calls
use Rattle.go_typing.specs.Call.{given, given_each, values_of, no_givens_unless, same_count, one_count, only_value, values_at, values_alone, and_settled, all_printable, all_scalar, is_printable, ends_line, Given, each, several, no_givens, Values, values, call_value, call_with, print_with, function_given, spread_given, function_row, constant_length, length_of_typed, length_of_constant, length_row, length_given, print_given, built_in_call, built_in_row, called_value, called_known, is_built}
use Rattle.go_sound.proofs.Agree.{Agrees, AllAgree, under_same, AnswerAgrees, OperandAgrees, SingleAgrees, Alike, alike, alike_bad, alike_test, alike_if, alike_unless, alike_known, alike_folded, pending_same, default_same, passed_same, settled_same, single_agrees}
use Rattle.go_sound.proofs.AgreeRows.{under_alike}

module _ (ns ms : List NamedTy) (P : ℕ → Type 0) (s : (id : ℕ) → P id → underlying ns (ty.named id) ≡ underlying ms (ty.named id)) where
  -- ---- indexes and slices

  abbrev IndexedAgrees : Indexed → Type 0
  IndexedAgrees (of_text c t limit) = Agrees P t
  IndexedAgrees _ = Unit {0}

  indexed_typed_agrees : (u : Ty) (c : core.Expr) (t : Ty) (v : Option Const) → Agrees P t → IndexedAgrees (indexed_typed u c t v)
  indexed_typed_agrees ty.str c t v h = h
  indexed_typed_agrees (ty.array n e) c t v h = tt
  indexed_typed_agrees (ty.slice e) c t v h = tt
  indexed_typed_agrees (ty.pointer e) c t v h = tt
  indexed_typed_agrees (ty.mapping k e) c t v h = tt
  indexed_typed_agrees _ c t v h = tt

  indexed_constant_agrees : (k : Const) → IndexedAgrees (indexed_constant k)
  indexed_constant_agrees (form.Text text) = tt
  indexed_constant_agrees _ = tt

  other_unless_agrees : (fs : List Flaw) → IndexedAgrees (other_unless fs)
  other_unless_agrees [] = tt
  other_unless_agrees (f ∷ fs) = tt

  indexed_agrees : (p : Place) (x : Operand) → OperandAgrees P x → IndexedAgrees (indexed_of ns p x)
  indexed_agrees p (typed c t v) h = indexed_typed_agrees (underlying ns t) c t v h
  indexed_agrees p (constant_operand k) h = indexed_constant_agrees k
  indexed_agrees p (truth_operand c) h = tt
  indexed_agrees p (pending_operand x b) h = other_unless_agrees (pending_flaws ns (default_type b) x)
  indexed_agrees p nil_operand h = tt

  indexed_same : (p : Place) (x : Operand) → OperandAgrees P x → indexed_of ns p x ≡ indexed_of ms p x
  indexed_same p (typed c t v) h = ap (λ (u : Ty). indexed_typed u c t v) (under_same ns ms P s t h)
  indexed_same p (constant_operand k) h = refl
  indexed_same p (truth_operand c) h = refl
  indexed_same p (pending_operand x b) h = ap other_unless (default_same ns ms P s b x)
  indexed_same p nil_operand h = refl

  index_same : (q : Place) (y : Operand) → OperandAgrees P y → index_of ns q y ≡ index_of ms q y
  index_same q (typed c t v) h = ap (λ (u : Ty). if is_int u then known_index c v else no_index) (under_same ns ms P s t h)
  index_same q (constant_operand k) h = refl
  index_same q (truth_operand c) h = refl
  index_same q (pending_operand x b) h = ap (λ (fs : List Flaw). fit_index fs (pending_at int_type x)) (pending_same ns ms P s int_type x tt)
  index_same q nil_operand h = refl

  byte_alike : (q : Place) (c : core.Expr) (limit : Option ℕ) (i : Index) → Alike ns ms P s (byte_at q c limit i) (byte_at q c limit i)
  byte_alike q c limit (index d n) = alike_if ns ms P s (is_below n limit) (value (core.byte_at c d) byte_type None) (bad q 65) (value (core.byte_at c d) byte_type None) (bad q 65) (alike ns ms P s _ tt) (alike_bad ns ms P s q 65)
  byte_alike q c limit no_index = alike_bad ns ms P s _ _
  byte_alike q c limit (unfit_index f fs) = alike ns ms P s _ tt

  index_fit_alike : (at : Place) (x : Indexed) (q : Place) (i : Index) → Alike ns ms P s (index_fit at x q i) (index_fit at x q i)
  index_fit_alike at (of_text c t limit) q i = byte_alike q c limit i
  index_fit_alike at of_unbuilt q i = alike_bad ns ms P s _ _
  index_fit_alike at of_other q i = alike_bad ns ms P s _ _
  index_fit_alike at (indexes.unfit f fs) q i = alike ns ms P s _ tt

  index_known_alike : (at : Place) (x y : Indexed) (q : Place) (i j : Index) → x ≡ y → i ≡ j → Alike ns ms P s (index_known at x q i) (index_known at y q j)
  index_known_alike at x y q i j e f =
      let r : Alike ns ms P s (index_known at x q i) (index_known at x q i) = alike_unless ns ms P s (indexed_flaws x ++ index_flaws i) _ _ _ refl (index_fit_alike at x q i) in
      let r2 : Alike ns ms P s (index_known at x q i) (index_known at y q i) = subst (λ (z : Indexed). Alike ns ms P s (index_known at x q i) (index_known at z q i)) e r in
      subst (λ (z : Index). Alike ns ms P s (index_known at x q i) (index_known at y q z)) f r2

  pub index_alike : (at p : Place) (x : Option Operand) (q : Place) (y : Option Operand) → SingleAgrees P x → SingleAgrees P y → Alike ns ms P s (index_single ns at p x q y) (index_single ms at p x q y)
  index_alike at p (Some x) q (Some y) h k = index_known_alike at _ _ q _ _ (indexed_same p x h) (index_same q y k)
  index_alike at p (Some x) q None h k = alike ns ms P s _ tt
  index_alike at p None q y h k = alike ns ms P s _ tt

  abbrev pub BoundAgrees : Option Part → Type 0
  BoundAgrees None = Unit {0}
  BoundAgrees (Some x) = AnswerAgrees P x.answer

  edge_at_same : (q : Place) (y : Option Operand) → SingleAgrees P y → edge_at ns q y ≡ edge_at ms q y
  edge_at_same q None h = refl
  edge_at_same q (Some y) h = ap (edge q) (index_same q y h)

  pub edge_same : (b : Option Part) → BoundAgrees b → edge_of ns b ≡ edge_of ms b
  edge_same None h = refl
  edge_same (Some x) h = edge_at_same x.place (single x.answer) (single_agrees ns ms P s x.answer h)

  slice_text_alike : (c : core.Expr) (t : Ty) (limit : Option ℕ) (low high : Edge) → Agrees P t → Alike ns ms P s (slice_text c t limit low high) (slice_text c t limit low high)
  slice_text_alike c t limit low high h =
      alike_unless ns ms P s (past_end limit low ++ past_end limit high) _ _ _ refl
      (alike_unless ns ms P s (out_of_order (edge_value low) high) (out_of_order (edge_value low) high) (value (core.slice_of t t c (edge_bound low) (edge_bound high) core.no_bound) t None) (value (core.slice_of t t c (edge_bound low) (edge_bound high) core.no_bound) t None) refl (alike ns ms P s _ h))

  slice_fit_alike : (at : Place) (x : Indexed) (low high most : Edge) → IndexedAgrees x → Alike ns ms P s (slice_fit at x low high most) (slice_fit at x low high most)
  slice_fit_alike at (of_text c t limit) low high most h = alike_if ns ms P s (has_edge most) (bad at 64) _ (bad at 64) _ (alike_bad ns ms P s at 64) (slice_text_alike c t limit low high h)
  slice_fit_alike at of_unbuilt low high most h = alike_bad ns ms P s _ _
  slice_fit_alike at of_other low high most h = alike_bad ns ms P s _ _
  slice_fit_alike at (indexes.unfit f fs) low high most h = alike ns ms P s _ tt

  slice_known_alike : (at : Place) (x y : Indexed) (low low2 high high2 most most2 : Edge) → IndexedAgrees x → x ≡ y → low ≡ low2 → high ≡ high2 → most ≡ most2
      → Alike ns ms P s (slice_known at x low high most) (slice_known at y low2 high2 most2)
  slice_known_alike at x y low low2 high high2 most most2 h e f g k =
      let r : Alike ns ms P s (slice_known at x low high most) (slice_known at x low high most) =
      alike_unless ns ms P s (indexed_flaws x ++ edge_flaws low ++ edge_flaws high ++ edge_flaws most) _ _ _ refl (slice_fit_alike at x low high most h)
      in
      let r2 : Alike ns ms P s (slice_known at x low high most) (slice_known at y low high most) = subst (λ (z : Indexed). Alike ns ms P s (slice_known at x low high most) (slice_known at z low high most)) e r in
      let r3 : Alike ns ms P s (slice_known at x low high most) (slice_known at y low2 high most) = subst (λ (z : Edge). Alike ns ms P s (slice_known at x low high most) (slice_known at y z high most)) f r2 in
      let r4 : Alike ns ms P s (slice_known at x low high most) (slice_known at y low2 high2 most) = subst (λ (z : Edge). Alike ns ms P s (slice_known at x low high most) (slice_known at y low2 z most)) g r3 in
      subst (λ (z : Edge). Alike ns ms P s (slice_known at x low high most) (slice_known at y low2 high2 z)) k r4

  pub slice_alike : (at p : Place) (x : Option Operand) (fs : List Flaw) (low low2 high high2 most most2 : Edge) → SingleAgrees P x → low ≡ low2 → high ≡ high2 → most ≡ most2
      → Alike ns ms P s (slice_single ns at p x fs low high most) (slice_single ms at p x fs low2 high2 most2)
  slice_alike at p (Some x) [] low low2 high high2 most most2 h f g k = slice_known_alike at _ _ low low2 high high2 most most2 (indexed_agrees p x h) (indexed_same p x h) f g k
  slice_alike at p (Some x) (y ∷ ys) low low2 high high2 most most2 h f g k = alike ns ms P s _ tt
  slice_alike at p None fs low low2 high high2 most most2 h f g k = alike ns ms P s _ tt

  -- ---- conversions

  converted_constant_alike : (at p : Place) (t u : Ty) (k : Const) → Agrees P t → Alike ns ms P s (converted_constant at p t u k) (converted_constant at p t u k)
  converted_constant_alike at p t ty.bool (form.Bool b) h = alike_folded ns ms P s p t (conversion_of (form.Bool b) basic.Bool) _ refl h
  converted_constant_alike at p t ty.str (form.Text text) h = alike_folded ns ms P s p t (conversion_of (form.Text text) basic.Str) _ refl h
  converted_constant_alike at p t ty.str (form.Int z) h = alike_folded ns ms P s p t (conversion_of (form.Int z) basic.Str) _ refl h
  converted_constant_alike at p t ty.str (form.Rune z) h = alike_folded ns ms P s p t (conversion_of (form.Rune z) basic.Str) _ refl h
  converted_constant_alike at p t (ty.int name) (form.Int z) h = alike_folded ns ms P s p t (conversion_of (form.Int z) (basic.Int (kind_of name))) _ refl h
  converted_constant_alike at p t (ty.int name) (form.Rune z) h = alike_folded ns ms P s p t (conversion_of (form.Rune z) (basic.Int (kind_of name))) _ refl h
  converted_constant_alike at p t _ k h = alike_bad ns ms P s _ _

  converts_same : (u t : Ty) → Agrees P u → Agrees P t → converts (underlying ns u) (underlying ns t) ≡ converts (underlying ms u) (underlying ms t)
  converts_same u t h k = ap (λ (a : Ty). converts a (underlying ns t)) (under_same ns ms P s u h) ∙ ap (converts (underlying ms u)) (under_same ns ms P s t k)

  converted_alike : (at : Place) (t : Ty) (p : Place) (x : Operand) → Agrees P t → OperandAgrees P x → Alike ns ms P s (converted ns at t p x) (converted ms at t p x)
  converted_alike at t p (typed c u None) h k =
      alike_test ns ms P s (converts (underlying ns u) (underlying ns t)) (converts (underlying ms u) (underlying ms t)) (value (core.convert u t c) t None) (bad at 58) (value (core.convert u t c) t None) (bad at 58)
      (converts_same u t k h) (alike ns ms P s _ h) (alike_bad ns ms P s at 58)
  converted_alike at t p (typed c u (Some l)) h k = under_alike ns ms P s (λ (a : Ty). converted_constant at p t a l) t _ h (converted_constant_alike at p t (underlying ns t) l h)
  converted_alike at t p (constant_operand l) h k = under_alike ns ms P s (λ (a : Ty). converted_constant at p t a l) t _ h (converted_constant_alike at p t (underlying ns t) l h)
  converted_alike at t p (truth_operand c) h k =
      alike_test ns ms P s (is_bool (underlying ns t)) (is_bool (underlying ms t)) (value (truth_at t c) t None) (bad at 58) (value (truth_at t c) t None) (bad at 58)
      (ap is_bool (under_same ns ms P s t h)) (alike ns ms P s _ h) (alike_bad ns ms P s at 58)
  converted_alike at t p (pending_operand x b) h k =
      alike_unless ns ms P s _ _ (value (pending_at t x) t None) (value (pending_at t x) t None) (pending_same ns ms P s t x h) (alike ns ms P s _ h)
  converted_alike at t p nil_operand h k = alike_bad ns ms P s _ _

  abbrev pub OperandsAgree : List (Place × Operand) → Type 0
  OperandsAgree [] = Unit {0}
  OperandsAgree (x ∷ xs) = OperandAgrees P x.1 × OperandsAgree xs

  conversion_all_alike : (at : Place) (t : Ty) (xs : List (Place × Operand)) → Agrees P t → OperandsAgree xs → Alike ns ms P s (conversion_of_all ns at t xs) (conversion_of_all ms at t xs)
  conversion_all_alike at t [] h k = alike_bad ns ms P s _ _
  conversion_all_alike at t (x ∷ []) h k =
      alike_test ns ms P s (is_scalar (underlying ns t)) (is_scalar (underlying ms t)) _ (bad at 0) _ (bad at 0) (ap is_scalar (under_same ns ms P s t h)) (converted_alike at t x.0 x.1 h k.0) (alike_bad ns ms P s at 0)
  conversion_all_alike at t (x ∷ y ∷ ys) h k = alike_bad ns ms P s _ _

  -- the answers of parts
  abbrev pub PartsAgree : List Part → Type 0
  PartsAgree [] = Unit {0}
  PartsAgree (x ∷ xs) = AnswerAgrees P x.answer × PartsAgree xs

  more_agree : (p : Place) (x : Option Operand) (xs : List (Place × Operand)) → SingleAgrees P x → OperandsAgree xs → OperandsAgree (operand_in p x ++ xs)
  more_agree p None xs h k = k
  more_agree p (Some x) xs h k = (h, k)

  operands_agree : (xs : List Part) → PartsAgree xs → OperandsAgree (operands_of xs)
  operands_agree [] h = tt
  operands_agree (x ∷ xs) h = more_agree x.place (single x.answer) (operands_of xs) (single_agrees ns ms P s x.answer h.0) (operands_agree xs h.1)

  conversion_alike : (at : Place) (t : Ty) (spread : Bool) (xs : List Part) → Agrees P t → PartsAgree xs → Alike ns ms P s (conversion_row ns at t spread xs) (conversion_row ms at t spread xs)
  conversion_alike at t spread xs h k =
      alike_known ns ms P s (all_known xs) _ _ (alike_unless ns ms P s (no_values xs) _ _ _ refl
      (alike_if ns ms P s spread (bad at 60) _ (bad at 60) _ (alike_bad ns ms P s at 60) (conversion_all_alike at t (operands_of xs) h (operands_agree xs k))))

  -- ---- calls

  abbrev GivenAgrees : Given → Type 0
  GivenAgrees (each xs) = OperandsAgree xs
  GivenAgrees (several p c ts) = AllAgree P ts
  GivenAgrees (no_givens f fs) = Unit {0}

  unless_given : (fs : List Flaw) (g : Given) → GivenAgrees g → GivenAgrees (no_givens_unless fs g)
  unless_given [] g h = h
  unless_given (f ∷ fs) g h = tt

  each_agrees : (xs : List Part) → PartsAgree xs → GivenAgrees (given_each xs)
  each_agrees xs h = unless_given (no_values xs) (each (operands_of xs)) (operands_agree xs h)

  abbrev ValuesAgree : Option (core.Expr × Tys) → Type 0
  ValuesAgree None = Unit {0}
  ValuesAgree (Some vs) = AllAgree P vs.1

  values_agree : (a : Answer) → AnswerAgrees P a → ValuesAgree (values_of a)
  values_agree (value c (ty.tuple no_tys) v) h = tt
  values_agree (value c (ty.tuple (more_tys t no_tys)) v) h = tt
  values_agree (value c (ty.tuple (more_tys t (more_tys u ts))) v) h = h
  values_agree (value c _ v) h = tt
  values_agree (pending p b) h = tt
  values_agree (type_ t) h = tt
  values_agree (package_ p) h = tt
  values_agree (built_in b) h = tt
  values_agree blank h = tt
  values_agree (does st) h = tt
  values_agree (wrong f fs) h = tt
  values_agree untyped_part h = tt

  one_agrees : (x : Part) (vs : Option (core.Expr × Tys)) → AnswerAgrees P x.answer → ValuesAgree vs → GivenAgrees (calls.given_one x vs)
  one_agrees x None h k = each_agrees (x ∷ []) (h, tt)
  one_agrees x (Some vs) h k = k

  given_agrees : (xs : List Part) → PartsAgree xs → GivenAgrees (given xs)
  given_agrees [] h = each_agrees [] h
  given_agrees (x ∷ []) h = one_agrees x (values_of x.answer) h.0 (values_agree x.answer h.0)
  given_agrees (x ∷ y ∷ ys) h = each_agrees (x ∷ y ∷ ys) h

  values_same : (ts : Tys) (xs : List (Place × Operand)) → AllAgree P ts → OperandsAgree xs → values_at ns ts xs ≡ values_at ms ts xs
  values_same no_tys [] h k = refl
  values_same no_tys (x ∷ xs) h k = refl
  values_same (more_tys t ts) [] h k = refl
  values_same (more_tys t ts) (x ∷ xs) h k =
      ap (λ (a : Passed). and_settled (settled_at x.0 t a) (values_at ns ts xs)) (passed_same ns ms P s x.0 t x.1 h.0 k.0)
      ∙ ap (and_settled (settled_at x.0 t (passed_at ms x.0 t x.1))) (values_same ts xs h.1 k.1)

  alone_same : (xs : List (Place × Operand)) → values_alone ns xs ≡ values_alone ms xs
  alone_same [] = refl
  alone_same (x ∷ xs) =
      ap (λ (a : Settled). and_settled a (values_alone ns xs)) (settled_same ns ms P s x.0 x.1) ∙ ap (and_settled (settled_alone ms x.0 x.1)) (alone_same xs)

  call_value_agrees : (rs : Tys) (c : core.Expr) → AllAgree P rs → AnswerAgrees P (call_value rs c)
  call_value_agrees no_tys c h = tt
  call_value_agrees (more_tys t no_tys) c h = h.0
  call_value_agrees (more_tys t (more_tys u us)) c h = h

  call_with_alike : (id : ℕ) (rs : Tys) (vs ws : Values) → vs ≡ ws → AllAgree P rs → Alike ns ms P s (call_with id rs vs) (call_with id rs ws)
  call_with_alike id rs vs ws e h = record { same = ap (call_with id rs) e; agrees = by_case vs }
    where
      by_case : (us : Values) → AnswerAgrees P (call_with id rs us)
      by_case (values es) = call_value_agrees rs (core.call rs (core.function id) es) h
      by_case (calls.unfit f fs) = tt

  function_given_alike : (at : Place) (id : ℕ) (ps rs : Tys) (g : Given) → AllAgree P ps → AllAgree P rs → GivenAgrees g → Alike ns ms P s (function_given ns at id ps rs g) (function_given ms at id ps rs g)
  function_given_alike at id ps rs (each xs) h k l =
      alike_if ns ms P s (same_count ps xs) _ (bad at 60) _ (bad at 60) (call_with_alike id rs _ _ (values_same ps xs h l) k) (alike_bad ns ms P s at 60)
  function_given_alike at id ps rs (several p c ts) h k l =
      alike_if ns ms P s (one_count ps ts) _ (bad at 60) _ (bad at 60)
      (alike_if ns ms P s (same_types ps ts) _ (bad p 61) _ (bad p 61) (call_with_alike id rs (values (only_value c)) _ refl k) (alike_bad ns ms P s p 61)) (alike_bad ns ms P s at 60)
  function_given_alike at id ps rs (no_givens f fs) h k l = alike ns ms P s _ tt

  spread_alike : (at : Place) (g : Given) → Alike ns ms P s (spread_given ns at g) (spread_given ms at g)
  spread_alike at (no_givens f fs) = alike ns ms P s _ tt
  spread_alike at (each xs) = alike_bad ns ms P s _ _
  spread_alike at (several p c ts) = alike_bad ns ms P s _ _

  pub function_alike : (at : Place) (id : ℕ) (ps rs : Tys) (variadic spread : Bool) (xs : List Part) → AllAgree P ps → AllAgree P rs → PartsAgree xs
      → Alike ns ms P s (function_row ns at id ps rs variadic spread xs) (function_row ms at id ps rs variadic spread xs)
  function_alike at id ps rs true spread xs h k l = alike_known ns ms P s (all_known xs) (bad at 0) (bad at 0) (alike_bad ns ms P s at 0)
  function_alike at id ps rs false true xs h k l = alike_known ns ms P s (all_known xs) _ _ (spread_alike at (given xs))
  function_alike at id ps rs false false xs h k l = alike_known ns ms P s (all_known xs) _ _ (function_given_alike at id ps rs (given xs) h k (given_agrees xs l))

  constant_length_alike : (at : Place) (bytes : List ℕ) → Alike ns ms P s (constant_length at bytes) (constant_length at bytes)
  constant_length_alike at bytes = alike_folded ns ms P s at int_type _ _ refl tt

  length_typed_alike : (at : Place) (c : core.Expr) (t u : Ty) (v : Option Const) → Alike ns ms P s (length_of_typed ns at c t u v) (length_of_typed ms at c t u v)
  length_typed_alike at c t ty.str (Some (form.Text text)) = constant_length_alike at text
  length_typed_alike at c t ty.str (Some (form.Bool b)) = alike ns ms P s _ tt
  length_typed_alike at c t ty.str (Some (form.Int z)) = alike ns ms P s _ tt
  length_typed_alike at c t ty.str (Some (form.Rune z)) = alike ns ms P s _ tt
  length_typed_alike at c t ty.str None = alike ns ms P s _ tt
  length_typed_alike at c t _ v = alike ns ms P s _ tt

  length_constant_alike : (at : Place) (k : Const) → Alike ns ms P s (length_of_constant ns at k) (length_of_constant ms at k)
  length_constant_alike at (form.Text text) = constant_length_alike at text
  length_constant_alike at _ = alike ns ms P s _ tt

  length_alike : (at p : Place) (x : Operand) → OperandAgrees P x → Alike ns ms P s (length_row ns at p x) (length_row ms at p x)
  length_alike at p (typed c t v) h = under_alike ns ms P s (λ (u : Ty). length_of_typed ms at c t u v) t _ h (length_typed_alike at c t (underlying ns t) v)
  length_alike at p (constant_operand k) h = length_constant_alike at k
  length_alike at p (truth_operand c) h = alike ns ms P s _ tt
  length_alike at p (pending_operand x b) h = alike_unless ns ms P s _ _ (bad_name at 72 (name_of_builtin Len)) (bad_name at 72 (name_of_builtin Len)) (default_same ns ms P s b x) (alike ns ms P s _ tt)
  length_alike at p nil_operand h = alike_bad ns ms P s _ _

  length_given_alike : (at : Place) (g : Given) → GivenAgrees g → Alike ns ms P s (length_given ns at g) (length_given ms at g)
  length_given_alike at (each []) h = alike_bad ns ms P s _ _
  length_given_alike at (each (x ∷ [])) h = length_alike at x.0 x.1 h.0
  length_given_alike at (each (x ∷ y ∷ ys)) h = alike_bad ns ms P s _ _
  length_given_alike at (several p c ts) h = alike_bad ns ms P s _ _
  length_given_alike at (no_givens f fs) h = alike ns ms P s _ tt

  printable_same : (x : Operand) → OperandAgrees P x → is_printable ns x ≡ is_printable ms x
  printable_same (typed c t v) h = ap is_scalar (under_same ns ms P s t h)
  printable_same (constant_operand k) h = refl
  printable_same (truth_operand c) h = refl
  printable_same (pending_operand x b) h = refl
  printable_same nil_operand h = refl

  all_printable_same : (xs : List (Place × Operand)) → OperandsAgree xs → all_printable ns xs ≡ all_printable ms xs
  all_printable_same [] h = refl
  all_printable_same (x ∷ xs) h = ap (λ (b : Bool). b && all_printable ns xs) (printable_same x.1 h.0) ∙ ap (λ (b : Bool). is_printable ms x.1 && b) (all_printable_same xs h.1)

  scalar_same : (ts : Tys) → AllAgree P ts → all_scalar ns ts ≡ all_scalar ms ts
  scalar_same no_tys h = refl
  scalar_same (more_tys t ts) h = ap (λ (u : Ty). is_scalar u && all_scalar ns ts) (under_same ns ms P s t h.0) ∙ ap (λ (b : Bool). is_scalar (underlying ms t) && b) (scalar_same ts h.1)

  print_with_alike : (ends : Bool) (vs ws : Values) → vs ≡ ws → Alike ns ms P s (print_with ends vs) (print_with ends ws)
  print_with_alike ends vs ws e = record { same = ap (print_with ends) e; agrees = by_case vs }
    where
      by_case : (us : Values) → AnswerAgrees P (print_with ends us)
      by_case (values es) = tt
      by_case (calls.unfit f fs) = tt

  print_alike : (at : Place) (b : Builtin) (g : Given) → GivenAgrees g → Alike ns ms P s (print_given ns at b g) (print_given ms at b g)
  print_alike at b (each xs) h =
      alike_test ns ms P s (all_printable ns xs) (all_printable ms xs) _ (bad_name at 72 (name_of_builtin b)) _ (bad_name at 72 (name_of_builtin b)) (all_printable_same xs h) (print_with_alike (ends_line b) _ _ (alone_same xs)) (alike ns ms P s _ tt)
  print_alike at b (several p c ts) h =
      alike_test ns ms P s (all_scalar ns ts) (all_scalar ms ts) _ (bad_name at 72 (name_of_builtin b)) _ (bad_name at 72 (name_of_builtin b)) (scalar_same ts h) (print_with_alike (ends_line b) (values (only_value c)) _ refl) (alike ns ms P s _ tt)
  print_alike at b (no_givens f fs) h = alike ns ms P s _ tt

  built_in_call_alike : (at : Place) (b : Builtin) (g : Given) → GivenAgrees g → Alike ns ms P s (built_in_call ns at b g) (built_in_call ms at b g)
  built_in_call_alike at Len g h = length_given_alike at g h
  built_in_call_alike at Print g h = print_alike at Print g h
  built_in_call_alike at Println g h = print_alike at Println g h
  built_in_call_alike at _ g h = alike_bad ns ms P s _ _

  pub built_in_alike : (at : Place) (b : Builtin) (spread : Bool) (xs : List Part) → PartsAgree xs → Alike ns ms P s (built_in_row ns at b spread xs) (built_in_row ms at b spread xs)
  built_in_alike at b spread xs h =
      alike_if ns ms P s (is_built b) _ (bad at 0) _ (bad at 0)
      (alike_known ns ms P s (all_known xs) _ _ (alike_if ns ms P s spread (spread_given ns at (given xs)) (built_in_call ns at b (given xs)) (spread_given ms at (given xs)) (built_in_call ms at b (given xs)) (spread_alike at (given xs)) (built_in_call_alike at b (given xs) (given_agrees xs h))))
      (alike_bad ns ms P s at 0)

  called_value_alike : (at p : Place) (u : Ty) → Alike ns ms P s (called_value ns at p u) (called_value ms at p u)
  called_value_alike at p (ty.func ps rs v) = alike_bad ns ms P s _ _
  called_value_alike at p (ty.tuple ts) = alike_bad ns ms P s _ _
  called_value_alike at p _ = alike_bad ns ms P s _ _

  pub called_alike : (at p : Place) (a : Answer) (spread : Bool) (xs : List Part) → AnswerAgrees P a → PartsAgree xs → Alike ns ms P s (called_known ns at p a spread xs) (called_known ms at p a spread xs)
  called_alike at p (value c t v) spread xs h k =
      alike_known ns ms P s (all_known xs) _ _ (under_alike ns ms P s (called_value ms at p) t _ (called_agrees t h) (called_value_alike at p (underlying ns t)))
    where
      called_agrees : (u : Ty) → Agrees P u → Agrees P u
      called_agrees u e = e
  called_alike at p (pending x b) spread xs h k = alike_known ns ms P s (all_known xs) _ _ (alike_unless ns ms P s _ _ (bad p 59) (bad p 59) (default_same ns ms P s b x) (alike_bad ns ms P s p 59))
  called_alike at p (type_ t) spread xs h k = conversion_alike at t spread xs h k
  called_alike at p (wrong f fs) spread xs h k = alike ns ms P s _ tt
  called_alike at p untyped_part spread xs h k = alike ns ms P s _ tt
  called_alike at p (package_ path) spread xs h k = alike_known ns ms P s (all_known xs) (bad p 52) (bad p 52) (alike_bad ns ms P s p 52)
  called_alike at p (built_in b) spread xs h k = alike_known ns ms P s (all_known xs) (bad p 52) (bad p 52) (alike_bad ns ms P s p 52)
  called_alike at p blank spread xs h k = alike_known ns ms P s (all_known xs) (bad p 52) (bad p 52) (alike_bad ns ms P s p 52)
  called_alike at p (does st) spread xs h k = alike_known ns ms P s (all_known xs) (bad p 52) (bad p 52) (alike_bad ns ms P s p 52)

-- Operators on interface values and method values give values of their types.
use Rattle.std.proofs.Common.{refl, sym, ap, ◌∙◌, subst}
use Rattle.std.specs.Prelude.{◌≡◌, ℕ, zero, suc, List, [], ◌∷◌, Bool, true, false, ◌&&◌, bytes_eq, if◌then◌else◌, Option, Some, None, slice_get}
use Rattle.std.specs.List.{AllByRecursion}
use Rattle.std.proofs.lemmas.List.Elements.{recursion_from_All}
use Rattle.go_type.specs.Tree as ty
use Rattle.go_type.specs.Tree.{Ty, Tys, Specs, no_specs, more_specs}
use Rattle.go_type.specs.Underlying.{underlying}
use Rattle.go_core.specs.Layout.{shape_of, weight}
use Rattle.go_core.specs.Memory as cell
use Rattle.go_core.specs.Memory.{Scalar, Scalars, Value, Memory, zeros, packed, listed}
use Rattle.go_core.specs.CoreTree.{CoreFunc, MethodName, MethodRow, CoreProgram}
use Rattle.go_core.specs.SameType.{same_type, same_types, same_truth}
use Rattle.go_core.specs.Untagged.{untagged, untagged_types, untagged_list, AreAlike}
use Rattle.go_core.specs.TypeOf.{listed_types, with_truth, Signature, spec_in, method_in}
use Rattle.go_core.specs.SoundNode.{IsInterface, HasRow, Answers, AnswersTo, HasMethodType, IsSignature}
use Rattle.go_core.specs.Sound.{empty_interface}
use Rattle.go_core.specs.SoundProgram.{Sound, SoundRow}
use Rattle.go_core.specs.Did.{Did, gives}
use Rattle.go_core.specs.StepMaps as d
use Rattle.go_core.specs.StepInterfaces as i
use Rattle.go_core.specs.StepInterfaces.{row_of}
use Rattle.go_core.specs.Leaves.{leaf, leaf_of, leaves_of}
use Rattle.go_core.specs.Typed.{World, Takes, AreAt, AnswersLike, interface_typed, nil_typed, IsOf, ScalarTyped, ScalarsTyped, MemoryTyped}
use Rattle.go_core.specs.Applies.{Slot, a_value, values_of_types}
use Rattle.go_core.specs.TypingLaws.{DidTyped}
use Rattle.go_core.proofs.UntaggedLemmas.{types_alike, takes_alike, answers_like}
use Rattle.go_core.proofs.LeavesLemmas.{under_leaves, zeros_of}
use Rattle.go_core.proofs.MemoryLemmas.{to_lists, from_lists}
use Rattle.go_core.proofs.SameTypeLemmas.{first_true, second_true, bytes_one, truth_one, type_one, types_one, row_found}
use Rattle.go_core.proofs.TypedScalars.{interface_in, as_interface, as_method, one_scalar, down, up, kept}
use Rattle.go_core.proofs.OperatorsMaps.{with_ok_typed}

some_inj : {A : Type 0} (x y : A) → Some x ≡ Some y → x ≡ y
some_inj x y e = cc

tail_one : (x y : Ty) (xs ys : List Ty) → x ∷ xs ≡ y ∷ ys → xs ≡ ys
tail_one x y xs ys e = cc

interface_is : (u : Ty) → IsInterface u → (ms : Specs) × (u ≡ ty.interface ms)
interface_is (ty.interface ms) h = (ms, refl)
interface_is _ h = absurd h

-- ---- rows

nth_of : {A : Type 0} (Q : A → Type 0) (xs : List A) (k : ℕ) (x : A) → AllByRecursion Q xs → slice_get xs k ≡ Some x → Q x
nth_of Q [] k x h e = absurd (cc)
nth_of Q (y ∷ ys) zero x h e = subst Q (some_inj y x e) h.0
nth_of Q (y ∷ ys) (suc k) x h e = nth_of Q ys k x h.1 e

module _ (p : CoreProgram) (sound : Sound p) where
  pub row_sound : (at : ℕ) (row : MethodRow) → slice_get p.methods at ≡ Some row → SoundRow p row
  row_sound at row e = nth_of (SoundRow p) p.methods at row (recursion_from_All (SoundRow p) p.methods sound.rows) e

  -- a row's function takes the receiver and its parameters, and captures nothing
  pub row_takes : (w : World) (at : ℕ) (row : MethodRow) (f : CoreFunc) → slice_get p.methods at ≡ Some row → slice_get p.funcs row.func ≡ Some f
      → Takes p w.cells row.func [] (Some at) (row.type_ ∷ listed_types f.params) (listed_types f.results)
  row_takes w at row f e g =
      let s = row_sound at row e in
      let same : s.function ≡ f = some_inj s.function f (sym s.is_function ∙ g) in
      let none : f.captured ≡ [] = ap (λ (x : CoreFunc). x.captured) (sym same) ∙ s.captures_nothing in
      record { function = f; is_function = g; captured_lie = subst (λ vs. AreAt p w.cells vs []) (sym none) tt; operands_fit = (row, e, refl, refl); results_fit = refl }

  -- ---- what a type implements

  pub has_row : (t : Ty) (name package_ : List ℕ) (params results : Tys) (variadic : Bool) (o : Option ℕ) → row_of p (record { type_ = t; name = name; package_ = package_ }) ≡ o
      → i.has_signature params results variadic (i.func_of_row p o) ≡ true → HasRow p t (record { name = name; package_ = package_ }) params results variadic
  has_row t name package_ params results variadic None e h = absurd (cc)
  has_row t name package_ params results variadic (Some at) e h = by_row (slice_get p.methods at) refl h
    where
      by_func : (row : MethodRow) (o : Option CoreFunc) → slice_get p.methods at ≡ Some row → slice_get p.funcs row.func ≡ o → i.has_signature params results variadic o ≡ true
          → HasRow p t (record { name = name; package_ = package_ }) params results variadic
      by_func row None f g k = absurd (cc)
      by_func row (Some c) f g k =
          let a = first_true (same_types c.params params && same_types c.results results) (same_truth c.variadic variadic) k in
          record {
            at = at;
            row = row;
            function = c;
            found = e;
            is_row = f;
            is_function = g;
            params_fit = types_one c.params params (first_true (same_types c.params params) (same_types c.results results) a);
            results_fit = types_one c.results results (second_true (same_types c.params params) (same_types c.results results) a);
            variadic_fits = truth_one c.variadic variadic (second_true (same_types c.params params && same_types c.results results) (same_truth c.variadic variadic) k);
          }

      by_row : (o : Option MethodRow) → slice_get p.methods at ≡ o → i.has_signature params results variadic (i.func_in p o) ≡ true → HasRow p t (record { name = name; package_ = package_ }) params results variadic
      by_row None f k = absurd (cc)
      by_row (Some row) f k = by_func row (slice_get p.funcs row.func) f refl k

  pub implements_answers : (t : Ty) (ms : Specs) → i.implements p t ms ≡ true → Answers p t ms
  implements_answers t no_specs h name package_ s e = absurd (cc)
  implements_answers t (more_specs n q ps rs v ms) h name package_ s e =
      by_name (bytes_eq n name && bytes_eq q package_) refl e
      (has_row t n q ps rs v (row_of p (record { type_ = t; name = n; package_ = q })) refl (first_true (i.has_signature ps rs v (i.func_of_row p (row_of p (record { type_ = t; name = n; package_ = q })))) (i.implements p t ms) h))
      (implements_answers t ms (second_true (i.has_signature ps rs v (i.func_of_row p (row_of p (record { type_ = t; name = n; package_ = q })))) (i.implements p t ms) h) name package_ s)
    where
      by_name : (b : Bool) → (bytes_eq n name && bytes_eq q package_) ≡ b → (if b then Some (record { params = ps; results = rs; variadic = v }) else spec_in name package_ ms) ≡ Some s
          → HasRow p t (record { name = n; package_ = q }) ps rs v → (spec_in name package_ ms ≡ Some s → HasRow p t (record { name = name; package_ = package_ }) s.params s.results s.variadic)
          → HasRow p t (record { name = name; package_ = package_ }) s.params s.results s.variadic
      by_name true f g k next =
          let a = bytes_one n name (first_true (bytes_eq n name) (bytes_eq q package_) f) in
          let b = bytes_one q package_ (second_true (bytes_eq n name) (bytes_eq q package_) f) in
          let made : Signature = record { params = ps; results = rs; variadic = v } in
          let c : made ≡ s = some_inj made s g in
          subst (λ (z : Signature). HasRow p t (record { name = name; package_ = package_ }) z.params z.results z.variadic) c
          (subst (λ x. HasRow p t (record { name = x; package_ = package_ }) ps rs v) a (subst (λ x. HasRow p t (record { name = n; package_ = x }) ps rs v) b k))
      by_name false f g k next = next g

module _ (p : CoreProgram) (sound : Sound p) (w : World) (m : Memory) (mt : MemoryTyped p w m) where
  abbrev D : Ty → Did → Type 0
  D t d = DidTyped p w (a_value t ∷ []) d

  ok : (t : Ty) (x : Value) (u : ℕ) → IsOf p w t x → D t (gives (x ∷ []) m u)
  ok t x u h = kept p w m mt (a_value t ∷ []) (x ∷ []) u (h, tt)

  by_wrap : (from t u : Ty) (x : Value) → underlying p.names t ≡ u → AnswersTo p from u → IsOf p w from x → D t (i.wrap_step p.names from x m)
  by_wrap from t (ty.interface ms) x e a h =
      ok t (cell.interface from (packed x) ∷ []) (weight (shape_of p.names from)) (up p w sound.names_set t (ty.interface ms) (cell.interface from (packed x) ∷ []) e (as_interface p w ms from (packed x) (answers_like p from ms a) (from_lists p w (leaves_of p.names from) x h), tt))
  by_wrap from t _ x e a h = absurd a

  pub wraps : (from t : Ty) (x : Value) → AnswersTo p from (underlying p.names t) → IsOf p w from x → D t (i.wrap_step p.names from x m)
  wraps from t x a h = by_wrap from t (underlying p.names t) x refl a h

  -- ---- assertions

  fails : (ok_ : Bool) (t : Ty) → DidTyped p w (values_of_types (with_truth ok_ (Some t))) (i.failed ok_ (shape_of p.names t) m)
  fails true t = kept p w m mt (values_of_types (with_truth true (Some t))) (d.with_ok true (zeros (shape_of p.names t)) false) (weight (shape_of p.names t)) (with_ok_typed p w true t (zeros (shape_of p.names t)) false (zeros_of p w p.names t))
  fails false t = tt

  passes : (ok_ : Bool) (t : Ty) (x : Value) (units : ℕ) → IsOf p w t x → DidTyped p w (values_of_types (with_truth ok_ (Some t))) (gives (d.with_ok ok_ x true) m units)
  passes ok_ t x units h = kept p w m mt (values_of_types (with_truth ok_ (Some t))) (d.with_ok ok_ x true) units (with_ok_typed p w ok_ t x true h)

  if_step : (outs : List Slot) (b : Bool) (d e : Did) → (b ≡ true → DidTyped p w outs d) → DidTyped p w outs e → DidTyped p w outs (if b then d else e)
  if_step outs true d e h k = h refl
  if_step outs false d e h k = k

  to_same : (to : Ty) (ok_ : Bool) (t : Ty) (xs : Scalars) → ScalarsTyped p w (leaves_of p.names t) xs
      → DidTyped p w (values_of_types (with_truth ok_ (Some to))) (if same_type t to then gives (d.with_ok ok_ (listed xs) true) m (weight (shape_of p.names to)) else i.failed ok_ (shape_of p.names to) m)
  to_same to ok_ t xs h =
      if_step (values_of_types (with_truth ok_ (Some to))) (same_type t to) _ _
      (λ e. passes ok_ to (listed xs) (weight (shape_of p.names to)) (subst (λ u. IsOf p w u (listed xs)) (type_one t to e) (to_lists p w (leaves_of p.names t) xs h))) (fails ok_ to)

  by_assert : (to u : Ty) (ok_ : Bool) (ms : Specs) (x : Scalar) → underlying p.names to ≡ u → ScalarTyped p w (leaf_of (ty.interface ms)) x
      → DidTyped p w (values_of_types (with_truth ok_ (Some to))) (i.asserted p to u ok_ x m)
  by_assert to (ty.interface ns) ok_ ms x e h =
      interface_in p w ms x (λ y. DidTyped p w (values_of_types (with_truth ok_ (Some to))) (i.asserted p to (ty.interface ns) ok_ y m)) h (fails ok_ to)
      (λ t xs a k. if_step (values_of_types (with_truth ok_ (Some to))) (i.implements p t ns) _ _
      (λ f. passes ok_ to (cell.interface t xs ∷ []) 1 (up p w sound.names_set to (ty.interface ns) (cell.interface t xs ∷ []) e (as_interface p w ns t xs (answers_like p t ns (implements_answers p sound t ns f)) k, tt))) (fails ok_ to))
  by_assert to u ok_ ms x e h =
      interface_in p w ms x (λ y. DidTyped p w (values_of_types (with_truth ok_ (Some to))) (i.asserted p to u ok_ y m)) h (fails ok_ to) (λ t xs a k. to_same to ok_ t xs k)

  pub asserts : (from to : Ty) (ok_ : Bool) (x : Value) → IsInterface (underlying p.names from) → IsOf p w from x → DidTyped p w (values_of_types (with_truth ok_ (Some to))) (i.assert_step p to ok_ x m)
  asserts from to ok_ x a h =
      let f = interface_is (underlying p.names from) a in
      one_scalar p w (leaf_of (ty.interface f.0)) x (λ y. DidTyped p w (values_of_types (with_truth ok_ (Some to))) (i.assert_step p to ok_ y m)) (down p w sound.names_set from (ty.interface f.0) x f.1 h)
      (λ y k. by_assert to (underlying p.names to) ok_ f.0 y refl k)

  basic_leaves : (t u : Ty) → underlying p.names t ≡ u → leaves_of p.names t ≡ leaves_of p.names (i.basic_type t u)
  basic_leaves t ty.bool e = under_leaves p sound.names_set t ∙ ap (leaves_of p.names) e
  basic_leaves t (ty.int name) e = under_leaves p sound.names_set t ∙ ap (leaves_of p.names) e
  basic_leaves t ty.str e = under_leaves p sound.names_set t ∙ ap (leaves_of p.names) e
  basic_leaves t _ e = refl

  none_asked : (t : Ty) → AnswersLike p t no_specs
  none_asked t name package_ s e = absurd (cc)

  pub basics : (t : Ty) (x : Value) → underlying p.names t ≡ empty_interface → IsOf p w t x → D t (i.basic_step p.names x m)
  basics t x e h =
      one_scalar p w (leaf empty_interface) x (λ y. D t (i.basic_step p.names y m)) (down p w sound.names_set t empty_interface x e h)
      (λ y k. interface_in p w no_specs y (λ z. D t (i.basic_step p.names (z ∷ []) m)) k
      (ok t (cell.nil ∷ []) 1 (up p w sound.names_set t empty_interface (cell.nil ∷ []) e (nil_typed (leaf empty_interface) refl, tt)))
      (λ u xs a g. ok t (cell.interface (i.basic_type u (underlying p.names u)) xs ∷ []) (weight (shape_of p.names u))
      (up p w sound.names_set t empty_interface (cell.interface (i.basic_type u (underlying p.names u)) xs ∷ []) e
      (interface_typed no_specs (i.basic_type u (underlying p.names u)) xs (none_asked (i.basic_type u (underlying p.names u))) (subst (λ ls. ScalarsTyped p w ls xs) (basic_leaves u (underlying p.names u) refl) g), tt))))

  -- ---- method values

  -- a row's function, bound to a receiver of the method's type
  bound : (n : MethodName) (at : ℕ) (row : MethodRow) (ps rs : Tys) (v : Bool) (x : Value) (units : ℕ) → row_of p n ≡ Some at → slice_get p.methods at ≡ Some row
      → Takes p w.cells row.func [] (Some at) (row.type_ ∷ listed_types ps) (listed_types rs) → IsOf p w n.type_ x → D (ty.func ps rs v) (i.bound_or_not m units x (row_of p n))
  bound n at row ps rs v x units e g k h =
      let r = row_found n p.methods at e in
      let same : r.row ≡ row = some_inj r.row row (sym r.is_at ∙ g) in
      let type_is : row.type_ ≡ n.type_ = ap (λ (y : MethodRow). y.type_) (sym same) ∙ r.of_type in
      subst (λ o. D (ty.func ps rs v) (i.bound_or_not m units x o)) (sym e)
      (ok (ty.func ps rs v) (cell.bound_method at (packed x) ∷ []) units
      (as_method p w ps rs v at (packed x) row g k (subst (λ t. ScalarsTyped p w (leaves_of p.names t) (packed x)) (sym type_is) (from_lists p w (leaves_of p.names n.type_) x h)), tt))

  takes_as : (at : ℕ) (row : MethodRow) (f : CoreFunc) (ps rs : List Ty) → slice_get p.methods at ≡ Some row → slice_get p.funcs row.func ≡ Some f → AreAlike ps (listed_types f.params) → AreAlike rs (listed_types f.results)
      → Takes p w.cells row.func [] (Some at) (row.type_ ∷ ps) rs
  takes_as at row f ps rs e g a b =
      takes_alike p w.cells row.func [] (Some at) (row.type_ ∷ ps) (row.type_ ∷ listed_types f.params) rs (listed_types f.results) (ap (λ ts. untagged row.type_ ∷ ts) a) b (row_takes p sound w at row f e g)

  pub binds : (n : MethodName) (t : Ty) (x : Value) → HasMethodType p n t → IsOf p w n.type_ x → D t (i.bind_step p n x m)
  binds n t x h k =
      let c = h.1 in
      subst (λ u. D u (i.bind_step p n x m)) (sym h.2)
      (bound n c.at c.row h.0.params h.0.results h.0.variadic x (weight (shape_of p.names n.type_)) c.found c.is_row
      (takes_as c.at c.row c.function (listed_types h.0.params) (listed_types h.0.results) c.is_row c.is_function (ap untagged_list (tail_one n.type_ n.type_ (listed_types h.0.params) (listed_types c.function.params) c.operands_fit)) (ap (λ ts. untagged_list (listed_types ts)) c.results_fit)) k)

  by_spec : (t : Ty) (name package_ : List ℕ) (ms : Specs) (o : Option Signature) (x : Scalar) → spec_in name package_ ms ≡ o → IsSignature o t → ScalarTyped p w (leaf_of (ty.interface ms)) x
      → D t (i.bind_dynamic_step p name package_ (x ∷ []) m)
  by_spec t name package_ ms None x e s h = absurd s
  by_spec t name package_ ms (Some f) x e s h =
      interface_in p w ms x (λ y. D t (i.bind_dynamic_step p name package_ (y ∷ []) m)) h tt
      (λ q xs a k. let z = a name package_ f e in
      let r = z.has_row in
      subst (λ u. D u (i.bind_dynamic_step p name package_ (cell.interface q xs ∷ []) m)) (sym s)
      (bound (record { type_ = q; name = name; package_ = package_ }) r.at r.row f.params f.results f.variadic (listed xs) (weight (shape_of p.names q)) r.found r.is_row
      (takes_as r.at r.row r.function (listed_types f.params) (listed_types f.results) r.is_row r.is_function
      (sym (types_alike r.function.params f.params (ap untagged_types r.params_fit ∙ z.params_alike))) (sym (types_alike r.function.results f.results (ap untagged_types r.results_fit ∙ z.results_alike))))
      (to_lists p w (leaves_of p.names q) xs k)))

  by_dynamic : (from t u : Ty) (name package_ : List ℕ) (x : Value) → underlying p.names from ≡ u → IsSignature (method_in name package_ u) t → IsOf p w from x → D t (i.bind_dynamic_step p name package_ x m)
  by_dynamic from t (ty.interface ms) name package_ x e s h =
      one_scalar p w (leaf_of (ty.interface ms)) x (λ y. D t (i.bind_dynamic_step p name package_ y m)) (down p w sound.names_set from (ty.interface ms) x e h)
      (λ y k. by_spec t name package_ ms (spec_in name package_ ms) y refl s k)
  by_dynamic from t _ name package_ x e s h = absurd s

  pub binds_dynamic : (from t : Ty) (name package_ : List ℕ) (x : Value) → IsSignature (method_in name package_ (underlying p.names from)) t → IsOf p w from x → D t (i.bind_dynamic_step p name package_ x m)
  binds_dynamic from t name package_ x s h = by_dynamic from t (underlying p.names from) name package_ x refl s h

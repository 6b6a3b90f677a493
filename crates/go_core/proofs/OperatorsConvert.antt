-- Conversions, lengths and composite values are of their types.
use Rattle.std.proofs.Common.{◌⊎◌, inl, inr, refl, sym, ap, ◌∙◌, subst, arith, suc-mul}
use Rattle.std.specs.Prelude.{◌≡◌, ◌<◌, ℕ, zero, suc, ◌+◌, ◌*◌, pos, List, [], ◌∷◌, IsTrue, nat_lt, length, map, Some, slice_get}
use Rattle.go_type.specs.declared.types.IntName.{IntName}
use Rattle.go_type.specs.declared.types.IntName.TheVariants as integer
use Rattle.go_type.specs.declared.types.Dir.TheVariants as dir
use Rattle.go_type.specs.Tree as ty
use Rattle.go_type.specs.Tree.{Ty, Specs}
use Rattle.go_type.specs.Underlying.{underlying}
use Rattle.go_type.specs.Assignability.{IsAssignable, identical, shares_underlying, implements, goes_to_channel, is_nil_to, is_constant_to, IsChannelOf, IsConstantTo, has_nil, is_nil}
use Rattle.go_type.specs.MethodSet.{IsInterfaceOf}
use Rattle.go_core.specs.Layout.{kind_of, Shape, shape_of, size, weight, copies, nth_part, offset_in, located, further}
use Rattle.go_core.specs.Untagged.{untagged, IsAlike}
use Rattle.go_core.specs.Arithmetic.{wrapped}
use Rattle.go_core.specs.Text.{encoded_number}
use Rattle.go_core.specs.Memory as cell
use Rattle.go_core.specs.Memory.{Scalar, Value, Memory, zeros, with_fresh, next_base, written}
use Rattle.go_core.specs.CoreTree.{CoreProgram}
use Rattle.go_core.specs.TypeOf.{int_type}
use Rattle.go_core.specs.SoundNode.{IsText, IsInterface, IsByteOrRune, Converts, ConvertsPointer, IsConversion, IsTyped, AsksNoMore, HasLength, HasCapacity, BuildsPart, IsBuilt}
use Rattle.go_core.specs.SoundProgram.{AreSet}
use Rattle.go_core.specs.RunPanic.{bad_size}
use Rattle.go_core.specs.Did.{Did, gives, panics}
use Rattle.go_core.specs.StepNumbers as n
use Rattle.go_core.specs.StepMemory as s
use Rattle.go_core.specs.StepMemory.{repeated}
use Rattle.go_core.specs.StepSlices as l
use Rattle.go_core.specs.Leaves.{Leaf, leaf, leaf_of, leaves_of, times, Spans}
use Rattle.go_core.specs.Typed.{World, whole_typed, nil_typed, Lists, IsOf, ScalarTyped, MemoryTyped}
use Rattle.go_core.specs.Applies.{a_value, values_of_types, AreIn, BuildsParts}
use Rattle.go_core.specs.TypingLaws.{DidTyped}
use Rattle.go_core.proofs.UntaggedLemmas.{leaves_alike}
use Rattle.go_core.proofs.LeavesLemmas.{size_leaves, zeros_of, under_leaves, under_shape, unfilled, element_first, field_first}
use Rattle.go_core.proofs.MemoryLemmas.{whole, written_over}
use Rattle.go_core.proofs.TypedScalars.{whole_in, text_in, pointer_in, slice_in, map_in, channel_in, interface_in, as_pointer, as_slice, as_channel, as_interface, one_scalar, down, up, if_did, kept}
use Rattle.go_core.proofs.OperatorsNumbers.{made}
use Rattle.go_core.proofs.OperatorsSlices.{all_whole, new_slice, repeated_zeros}

module _ (p : CoreProgram) (w : World) (set : AreSet p) (m : Memory) (mt : MemoryTyped p w m) where
  abbrev D : Ty → Did → Type 0
  D t d = DidTyped p w (a_value t ∷ []) d

  ok : (t : Ty) (x : Value) (u : ℕ) → IsOf p w t x → D t (gives (x ∷ []) m u)
  ok t x u h = kept p w m mt (a_value t ∷ []) (x ∷ []) u (h, tt)

  of_text : (t : Ty) → underlying p.names t ≡ ty.str → (bytes : List ℕ) → D t (n.made_text m bytes)
  of_text t e bytes = made p w set m mt t bytes (subst (λ u. IsText u) (sym e) tt)

  number : (t : Ty) (name a : IntName) (x : Value) → underlying p.names t ≡ ty.int name → Lists p w (leaf (ty.int a) ∷ []) x → D t (n.converted p.names (ty.int a) (ty.int name) x m)
  number t name a x e h =
      one_scalar p w (leaf (ty.int a)) x (λ y. D t (n.converted p.names (ty.int a) (ty.int name) y m)) h
      (λ y k. whole_in p w a y (λ z. D t (n.converted p.names (ty.int a) (ty.int name) (z ∷ []) m)) k
      (λ v. ok t (cell.whole (wrapped (kind_of name) v) ∷ []) 0 (up p w set t (ty.int name) _ e (whole_typed name (wrapped (kind_of name) v), tt))))

  -- a value of one type that is one of the other too
  as_it_is : (t u : Ty) (x : Value) → underlying p.names t ≡ u → Lists p w (leaves_of p.names u) x → D t (gives (x ∷ []) m 0)
  as_it_is t u x e h = ok t x 0 (up p w set t u x e h)

  -- between types that differ in tags alone
  alike : (t u v : Ty) (x : Value) → underlying p.names t ≡ v → IsAlike u v → Lists p w (leaves_of p.names u) x → D t (n.converted p.names u v x m)
  alike t (ty.int a) (ty.int b) x e g h = number t b a x e h
  alike t (ty.int a) ty.str x e g h = absurd (cc)
  alike t (ty.slice a) ty.str x e g h = absurd (cc)
  alike t ty.str (ty.slice a) x e g h = absurd (cc)
  alike t u v x e g h = as_it_is t v x e (subst (λ ls. Lists p w ls x) (leaves_alike p.names u v g) h)

  -- ---- texts and slices

  numbers_made : (t a : Ty) (name : IntName) (ks : List ℕ) → underlying p.names t ≡ ty.slice a → underlying p.names a ≡ ty.int name → D t (n.made_slice m ks)
  numbers_made t a name [] e g = ok t (cell.slice (next_base m) 0 0 ∷ []) 1 (up p w set t (ty.slice a) (cell.slice (next_base m) 0 0 ∷ []) e (as_slice p w a (next_base m) 0 0 (omega arith) tt, tt))
  numbers_made t a name (k ∷ ks) e g =
      if_did (D t) (nat_lt n.most_elements (length (k ∷ ks))) (panics bad_size 0) _ (λ q. tt)
      (λ q. new_slice p w set m mt t a (length (k ∷ ks)) (length (k ∷ ks)) (length (k ∷ ks)) (map n.whole_of (k ∷ ks)) e (omega arith)
      (subst (λ ls. Lists p w (times (length (k ∷ ks)) ls) (map n.whole_of (k ∷ ks))) (sym (under_leaves p set a ∙ ap (leaves_of p.names) g)) (all_whole p w name (k ∷ ks))))

  text_slice : (t a u : Ty) (x : Value) → underlying p.names t ≡ ty.slice a → underlying p.names a ≡ u → IsByteOrRune u → Lists p w (leaf ty.str ∷ []) x → D t (n.text_to_slice u x m)
  text_slice t a (ty.int name) x e g b h =
      one_scalar p w (leaf ty.str) x (λ y. D t (n.text_to_slice (ty.int name) y m)) h
      (λ y k. text_in p w y (λ z. D t (n.text_to_slice (ty.int name) (z ∷ []) m)) k (λ bytes. numbers_made t a name (n.elements_of (kind_of name) bytes) e g))
  text_slice t a _ x e g b h = absurd b

  slice_text : (t a u : Ty) (x : Value) → underlying p.names t ≡ ty.str → IsByteOrRune u → Lists p w (leaf_of (ty.slice a) ∷ []) x → D t (n.slice_to_text p.names u x m)
  slice_text t a (ty.int name) x e b h =
      one_scalar p w (leaf_of (ty.slice a)) x (λ y. D t (n.slice_to_text p.names (ty.int name) y m)) h
      (λ y k. slice_in p w a y (λ z. D t (n.slice_to_text p.names (ty.int name) (z ∷ []) m)) k (of_text t e []) (λ base len capacity le sp. of_text t e _))
  slice_text t a _ x e b h = absurd b

  number_text : (t : Ty) (a : IntName) (x : Value) → underlying p.names t ≡ ty.str → Lists p w (leaf (ty.int a) ∷ []) x → D t (n.converted p.names (ty.int a) ty.str x m)
  number_text t a x e h =
      one_scalar p w (leaf (ty.int a)) x (λ y. D t (n.converted p.names (ty.int a) ty.str y m)) h
      (λ y k. whole_in p w a y (λ z. D t (n.converted p.names (ty.int a) ty.str (z ∷ []) m)) k (λ v. of_text t e (encoded_number v)))

  pointers : (t a b : Ty) (x : Value) → underlying p.names t ≡ ty.pointer b → IsAlike (underlying p.names a) (underlying p.names b) → Lists p w (leaf_of (ty.pointer a) ∷ []) x → D t (gives (x ∷ []) m 0)
  pointers t a b x e g h =
      one_scalar p w (leaf_of (ty.pointer a)) x (λ y. D t (gives (y ∷ []) m 0)) h
      (λ y k. pointer_in p w a y (λ z. D t (gives ((z ∷ []) ∷ []) m 0)) k (as_it_is t (ty.pointer b) (cell.nil ∷ []) e (nil_typed (leaf_of (ty.pointer b)) refl, tt))
      (λ base sp. as_it_is t (ty.pointer b) (cell.pointer base ∷ []) e (as_pointer p w b base (subst (Spans w.cells base) (under_leaves p set a ∙ leaves_alike p.names (underlying p.names a) (underlying p.names b) g ∙ sym (under_leaves p set b)) sp), tt)))

  by_kinds : (t u v : Ty) (x : Value) → underlying p.names t ≡ v → Converts p u v → Lists p w (leaves_of p.names u) x → D t (n.converted p.names u v x m)
  by_kinds t (ty.int a) (ty.int b) x e c h = number t b a x e h
  by_kinds t (ty.int a) ty.str x e c h = number_text t a x e h
  by_kinds t ty.str (ty.slice a) x e c h = text_slice t a (underlying p.names a) x e refl c h
  by_kinds t (ty.slice a) ty.str x e c h = slice_text t a (underlying p.names a) x e c h
  by_kinds t _ _ x e c h = absurd c

  by_pointers : (from t : Ty) (x : Value) → ConvertsPointer p from t → IsOf p w from x → D t (n.convert_step p.names from t x m)
  by_pointers (ty.pointer a) (ty.pointer b) x c h = pointers (ty.pointer b) a b x refl c h
  by_pointers _ _ x c h = absurd c

  -- ---- by assignability

  channels : (t u v : Ty) (x : Value) → underlying p.names t ≡ v → IsChannelOf u v → Lists p w (leaves_of p.names u) x → D t (n.converted p.names u v x m)
  channels t (ty.chan dir.Both a) (ty.chan d b) x e c h =
      one_scalar p w (leaf_of (ty.chan dir.Both a)) x (λ y. D t (gives (y ∷ []) m 0)) h
      (λ y k. channel_in p w dir.Both a y (λ z. D t (gives ((z ∷ []) ∷ []) m 0)) k (as_it_is t (ty.chan d b) (cell.nil ∷ []) e (nil_typed (leaf_of (ty.chan d b)) refl, tt))
      (λ name at. as_it_is t (ty.chan d b) (cell.channel name ∷ []) e (as_channel p w d b name (subst (λ q. slice_get w.channels name ≡ Some (untagged q)) c at), tt)))
  channels t _ _ x e c h = absurd c

  interfaces : (t u v : Ty) (ms : Specs) (x : Value) → underlying p.names t ≡ v → IsInterfaceOf v ms → IsInterface u → AsksNoMore u v → Lists p w (leaves_of p.names u) x → D t (n.converted p.names u v x m)
  interfaces t (ty.interface ns) (ty.interface more) ms x e c i a h =
      one_scalar p w (leaf_of (ty.interface ns)) x (λ y. D t (gives (y ∷ []) m 0)) h
      (λ y k. interface_in p w ns y (λ z. D t (gives ((z ∷ []) ∷ []) m 0)) k (as_it_is t (ty.interface more) (cell.nil ∷ []) e (nil_typed (leaf_of (ty.interface more)) refl, tt))
      (λ q xs g f. as_it_is t (ty.interface more) (cell.interface q xs ∷ []) e (as_interface p w more q xs (λ name package_ s r. g name package_ s (a name package_ s r)) f, tt)))
  interfaces t (ty.interface ns) _ ms x e c i a h = absurd c
  interfaces t _ _ ms x e c i a h = absurd i

  nil_alone : (x : Scalar) (Q : Scalar → Type 0) → ScalarTyped p w (leaf ty.nil) x → Q cell.nil → Q x
  nil_alone x Q (nil_typed k e) f = f

  nils : (t v : Ty) (x : Value) → underlying p.names t ≡ v → IsTrue (has_nil v) → Lists p w (leaf ty.nil ∷ []) x → D t (n.converted p.names ty.nil v x m)
  nils t v x e c h =
      one_scalar p w (leaf ty.nil) x (λ y. D t (n.converted p.names ty.nil v y m)) h (λ y k. nil_alone y (λ z. D t (n.converted p.names ty.nil v (z ∷ []) m)) k (nil_to v e c))
    where
      nil_to : (v : Ty) → underlying p.names t ≡ v → IsTrue (has_nil v) → D t (n.converted p.names ty.nil v (cell.nil ∷ []) m)
      nil_to (ty.pointer a) e c = as_it_is t (ty.pointer a) (cell.nil ∷ []) e (nil_typed (leaf_of (ty.pointer a)) refl, tt)
      nil_to (ty.func ps rs u) e c = as_it_is t (ty.func ps rs u) (cell.nil ∷ []) e (nil_typed (leaf_of (ty.func ps rs u)) refl, tt)
      nil_to (ty.slice a) e c = as_it_is t (ty.slice a) (cell.nil ∷ []) e (nil_typed (leaf_of (ty.slice a)) refl, tt)
      nil_to (ty.mapping a b) e c = as_it_is t (ty.mapping a b) (cell.nil ∷ []) e (nil_typed (leaf_of (ty.mapping a b)) refl, tt)
      nil_to (ty.chan d a) e c = as_it_is t (ty.chan d a) (cell.nil ∷ []) e (nil_typed (leaf_of (ty.chan d a)) refl, tt)
      nil_to (ty.interface ms) e c = as_it_is t (ty.interface ms) (cell.nil ∷ []) e (nil_typed (leaf_of (ty.interface ms)) refl, tt)
      nil_to _ e c = absurd (cc)

  nil_type : (from : Ty) → IsTrue (is_nil from) → from ≡ ty.nil
  nil_type ty.nil e = refl
  nil_type _ e = absurd (cc)

  not_constant : (from t : Ty) → IsConstantTo p.names from t → IsTyped (underlying p.names from) → ⊥
  not_constant (ty.untyped b) t c h = h
  not_constant _ t c h = c

  is_interface : (u : Ty) (ms : Specs) → IsInterfaceOf u ms → IsInterface u
  is_interface (ty.interface ns) ms h = tt
  is_interface _ ms h = absurd h

  by_alike : (from t : Ty) (x : Value) → IsAlike (underlying p.names from) (underlying p.names t) → IsOf p w from x → D t (n.convert_step p.names from t x m)
  by_alike from t x e h = alike t (underlying p.names from) (underlying p.names t) x refl e (down p w set from (underlying p.names from) x refl h)

  by_assign : (from t : Ty) (x : Value) → IsAssignable p.names from t → IsInterface (underlying p.names from) ⊎ (IsInterface (underlying p.names t) → ⊥) → IsTyped (underlying p.names from)
      → AsksNoMore (underlying p.names from) (underlying p.names t) → IsOf p w from x → D t (n.convert_step p.names from t x m)
  by_assign from t x (identical e) i y a h = by_alike from t x (ap (λ u. untagged (underlying p.names u)) e) h
  by_assign from t x (shares_underlying e) i y a h = by_alike from t x (ap untagged e.0) h
  by_assign from t x (implements c) (inl i) y a h = interfaces t (underlying p.names from) (underlying p.names t) c.0 x refl c.1 i a (down p w set from (underlying p.names from) x refl h)
  by_assign from t x (implements c) (inr i) y a h = absurd (i (is_interface (underlying p.names t) c.0 c.1))
  by_assign from t x (goes_to_channel c) i y a h = channels t (underlying p.names from) (underlying p.names t) x refl c.0 (down p w set from (underlying p.names from) x refl h)
  by_assign from t x (is_nil_to c) i y a h =
      let z = nil_type from c.0 in
      subst (λ q. D t (n.convert_step p.names q t x m)) (sym z) (nils t (underlying p.names t) x refl c.1 (subst (λ q. IsOf p w q x) z h))
  by_assign from t x (is_constant_to c) i y a h = absurd (not_constant from t c y)

  pub converts : (from t : Ty) (x : Value) → IsConversion p from t → IsOf p w from x → D t (n.convert_step p.names from t x m)
  converts from t x (inl e) h = by_alike from t x e h
  converts from t x (inr (inl c)) h = by_kinds t (underlying p.names from) (underlying p.names t) x refl c (down p w set from (underlying p.names from) x refl h)
  converts from t x (inr (inr (inl c))) h = by_pointers from t x c h
  converts from t x (inr (inr (inr c))) h = by_assign from t x c.0 c.1 c.2 c.3 h

  -- ---- lengths

  int_of : (k : ℕ) → D int_type (l.number_step m k)
  int_of k = ok int_type (cell.whole (pos k) ∷ []) 0 (whole_typed integer.Int (pos k), tt)

  by_length : (from u : Ty) (x : Value) → underlying p.names from ≡ u → HasLength p u → IsOf p w from x → D int_type (l.measured p.names u l.scalar_length x m)
  by_length from ty.str x e c h =
      one_scalar p w (leaf ty.str) x (λ y. D int_type (l.scalar_length y m)) (down p w set from ty.str x e h) (λ y k. text_in p w y (λ z. D int_type (l.scalar_length (z ∷ []) m)) k (λ bytes. int_of (length bytes)))
  by_length from (ty.slice a) x e c h =
      one_scalar p w (leaf_of (ty.slice a)) x (λ y. D int_type (l.scalar_length y m)) (down p w set from (ty.slice a) x e h)
      (λ y k. slice_in p w a y (λ z. D int_type (l.scalar_length (z ∷ []) m)) k (int_of 0) (λ base len capacity le sp. int_of len))
  by_length from (ty.array k a) x e c h = int_of k
  by_length from (ty.mapping a b) x e c h =
      one_scalar p w (leaf_of (ty.mapping a b)) x (λ y. D int_type (l.scalar_length y m)) (down p w set from (ty.mapping a b) x e h)
      (λ y k. map_in p w a b y (λ z. D int_type (l.scalar_length (z ∷ []) m)) k (int_of 0) (λ name at. int_of (l.entry_count (slice_get m.maps name))))
  by_length from (ty.chan d a) x e c h =
      one_scalar p w (leaf_of (ty.chan d a)) x (λ y. D int_type (l.scalar_length y m)) (down p w set from (ty.chan d a) x e h)
      (λ y k. channel_in p w d a y (λ z. D int_type (l.scalar_length (z ∷ []) m)) k (int_of 0) (λ name at. int_of (l.buffered (slice_get m.channels name))))
  by_length from (ty.pointer a) x e c h = int_of (s.count_of (underlying p.names a))
  by_length from _ x e c h = absurd c

  pub lengths : (from : Ty) (x : Value) → HasLength p (underlying p.names from) → IsOf p w from x → D int_type (l.len_step p.names from x m)
  lengths from x c h = by_length from (underlying p.names from) x refl c h

  by_capacity : (from u : Ty) (x : Value) → underlying p.names from ≡ u → HasCapacity p u → IsOf p w from x → D int_type (l.measured p.names u l.scalar_capacity x m)
  by_capacity from (ty.slice a) x e c h =
      one_scalar p w (leaf_of (ty.slice a)) x (λ y. D int_type (l.scalar_capacity y m)) (down p w set from (ty.slice a) x e h)
      (λ y k. slice_in p w a y (λ z. D int_type (l.scalar_capacity (z ∷ []) m)) k (int_of 0) (λ base len capacity le sp. int_of capacity))
  by_capacity from (ty.array k a) x e c h = int_of k
  by_capacity from (ty.chan d a) x e c h =
      one_scalar p w (leaf_of (ty.chan d a)) x (λ y. D int_type (l.scalar_capacity y m)) (down p w set from (ty.chan d a) x e h)
      (λ y k. channel_in p w d a y (λ z. D int_type (l.scalar_capacity (z ∷ []) m)) k (int_of 0) (λ name at. int_of (l.capacity_of (slice_get m.channels name))))
  by_capacity from (ty.pointer a) x e c h = int_of (s.count_of (underlying p.names a))
  by_capacity from _ x e c h = absurd c

  pub capacities : (from : Ty) (x : Value) → HasCapacity p (underlying p.names from) → IsOf p w from x → D int_type (l.cap_step p.names from x m)
  capacities from x c h = by_capacity from (underlying p.names from) x refl c h

  -- ---- composite values

  elements_typed : (t u : Ty) (count : ℕ) (ls : List Leaf) (offset : ℕ → ℕ) (is : List ℕ) (us : List Ty) (vs : List Value) (xs : Value)
      → ((i : ℕ) (q : Ty) → BuildsPart p t u count i (Some q) → Spans ls (offset i) (leaves_of p.names q)) → underlying p.names t ≡ u → BuildsParts p t count is us → AreIn p w (values_of_types us) vs
      → Lists p w ls xs → Lists p w ls (s.with_elements offset is vs xs)
  elements_typed t u count ls offset [] [] vs xs at e b h k = k
  elements_typed t u count ls offset [] (q ∷ us) vs xs at e b h k = absurd b
  elements_typed t u count ls offset (i ∷ is) [] vs xs at e b h k = absurd b
  elements_typed t u count ls offset (i ∷ is) (q ∷ us) [] xs at e b h k = absurd h
  elements_typed t u count ls offset (i ∷ is) (q ∷ us) (v ∷ vs) xs at e b h k =
      elements_typed t u count ls offset is us vs (written xs (offset i) v) at e b.1 h.1
      (written_over p w ls xs (offset i) (leaves_of p.names q) v k (at i q (subst (λ z. BuildsPart p t z count i (Some q)) e b.0)) h.0)

  copy_at : (k i : ℕ) (q : Shape) → i < k → offset_in (nth_part (copies k q) i) ≡ i * size q
  copy_at k i q lt = ap offset_in (located_at k i q lt)
    where
      located_at : (k i : ℕ) (q : Shape) → i < k → nth_part (copies k q) i ≡ located q (i * size q)
      located_at zero i q lt = absurd (omega arith)
      located_at (suc k) zero q lt = ap (located q) (omega arith)
      located_at (suc k) (suc i) q lt = ap (further (size q)) (located_at k i q (omega arith)) ∙ ap (located q) (let e : suc i * size q ≡ i * size q + size q = suc-mul i (size q) in omega (arith, e))

  by_build : (t u : Ty) (count : ℕ) (is : List ℕ) (us : List Ty) (vs : List Value) → underlying p.names t ≡ u → IsBuilt u → BuildsParts p t count is us → AreIn p w (values_of_types us) vs
      → D t (s.build_step p.names t u count is vs m)
  by_build t (ty.slice a) count is us vs e i b h =
      let ls = times count (leaves_of p.names a) in
      let xs = repeated count (zeros (shape_of p.names a)) in
      if_did (D t) (nat_lt n.most_elements count) (panics bad_size 0) _ (λ q. tt)
      (λ q. new_slice p w set m mt t a count count (1 + count * weight (shape_of p.names a)) (s.with_elements (λ k. k * size (shape_of p.names a)) is vs xs) e (omega arith)
      (elements_typed t (ty.slice a) count ls (λ k. k * size (shape_of p.names a)) is us vs xs
      (λ k r c. subst (λ z. Spans ls (k * z) (leaves_of p.names r)) (sym (size_leaves p.names a)) (subst (λ z. Spans ls (k * length (leaves_of p.names a)) (leaves_of p.names z)) c.1
      (element_first ls (leaves_of p.names a) count k c.0 (whole ls)))) e b h
      (repeated_zeros p w count (shape_of p.names a) (leaves_of p.names a) (zeros_of p w p.names a))))
  by_build t (ty.array k a) count is us vs e i b h =
      let q = under_shape p set t ∙ ap (shape_of p.names) e in
      let g = under_leaves p set t ∙ ap (leaves_of p.names) e in
      let ls = leaves_of p.names (ty.array k a) in
      ok t (s.with_elements (s.part_offset (shape_of p.names t)) is vs (zeros (shape_of p.names t))) (weight (shape_of p.names t))
      (elements_typed t (ty.array k a) count (leaves_of p.names t) (s.part_offset (shape_of p.names t)) is us vs (zeros (shape_of p.names t))
      (λ j r c. subst (λ z. Spans z (s.part_offset (shape_of p.names t) j) (leaves_of p.names r)) (sym g) (subst (λ z. Spans ls (s.part_offset z j) (leaves_of p.names r)) (sym q)
      (subst (λ z. Spans ls z (leaves_of p.names r)) (sym (copy_at k j (shape_of p.names a) c.0 ∙ ap (λ z. j * z) (size_leaves p.names a)))
      (subst (λ z. Spans ls (j * length (leaves_of p.names a)) (leaves_of p.names z)) c.1 (element_first ls (leaves_of p.names a) k j c.0 (unfilled ls 0 (times k (leaves_of p.names a)) (whole ls))))))) e b h
      (zeros_of p w p.names t))
  by_build t (ty.struct fs) count is us vs e i b h =
      let q = under_shape p set t ∙ ap (shape_of p.names) e in
      let g = under_leaves p set t ∙ ap (leaves_of p.names) e in
      let ls = leaves_of p.names (ty.struct fs) in
      ok t (s.with_elements (s.part_offset (shape_of p.names t)) is vs (zeros (shape_of p.names t))) (weight (shape_of p.names t))
      (elements_typed t (ty.struct fs) count (leaves_of p.names t) (s.part_offset (shape_of p.names t)) is us vs (zeros (shape_of p.names t))
      (λ j r c. subst (λ z. Spans z (s.part_offset (shape_of p.names t) j) (leaves_of p.names r)) (sym g) (subst (λ z. Spans ls (s.part_offset z j) (leaves_of p.names r)) (sym q)
      (subst (λ z. Spans ls (s.part_offset (shape_of p.names (ty.struct fs)) j) (leaves_of p.names z)) c.2 (field_first p.names fs j c.0 ls c.1 (whole ls))))) e b h
      (zeros_of p w p.names t))
  by_build t _ count is us vs e i b h = absurd i

  pub builds : (t : Ty) (count : ℕ) (is : List ℕ) (us : List Ty) (vs : List Value) → IsBuilt (underlying p.names t) → BuildsParts p t count is us → AreIn p w (values_of_types us) vs
      → D t (s.build_step p.names t (underlying p.names t) count is vs m)
  builds t count is us vs i b h = by_build t (underlying p.names t) count is us vs refl i b h

-- The places of left sides, found among their operands, and the entries that an assignment sets.
use Rattle.std.proofs.Common.{refl, sym, ap, ◌∙◌, subst, arith}
use Rattle.std.specs.Prelude.{◌≡◌, ◌<◌, ℕ, ◌+◌, ◌*◌, ℤ, pos, negsuc, List, [], ◌∷◌, ◌++◌, length, nat_lt, Option, Some, None, slice_get}
use Rattle.std.proofs.lemmas.List.{append_assoc, length-append}
use Rattle.std.proofs.lemmas.Bool.{ltb-true}
use Rattle.go_type.specs.Tree as ty
use Rattle.go_type.specs.Tree.{Ty}
use Rattle.go_type.specs.Underlying.{underlying}
use Rattle.go_core.specs.Layout.{shape_of, size, weight}
use Rattle.go_core.specs.Memory as cell
use Rattle.go_core.specs.Memory.{Value, Memory, MapState}
use Rattle.go_core.specs.CoreTree as core
use Rattle.go_core.specs.CoreTree.{CorePlace, Target, CoreProgram}
use Rattle.go_core.specs.TypeOf.{FieldTy, field_in}
use Rattle.go_core.specs.SoundNode.{IsInt}
use Rattle.go_core.specs.SoundProgram.{AreSet}
use Rattle.go_core.specs.RunPanic.{RunPanic, bad_index}
use Rattle.go_core.specs.Did.{Did, gives, panics, no_step}
use Rattle.go_core.specs.StepMemory as s
use Rattle.go_core.specs.StepMaps as d
use Rattle.go_core.specs.Goroutine.{Place}
use Rattle.go_core.specs.Assign as a
use Rattle.go_core.specs.Leaves.{leaf_of, leaves_of, times, Spans}
use Rattle.go_core.specs.Typed.{World, IsOf, MemoryTyped, untagged_map}
use Rattle.go_core.specs.Applies.{Slot, a_value, AreIn}
use Rattle.go_core.specs.TasksTyped.{HasVar, PlaceTyped, local_place, global_place, deref_place, field_place, elem_place, slice_place, TargetTyped, blank_target, place_target, entry_target, TargetsTyped, no_target, more_targets}
use Rattle.go_core.specs.WellFormed.{ids_of, PlacesTyped, GlobalsLie}
use Rattle.go_core.proofs.LeavesLemmas.{size_leaves, under_shape, under_leaves, field_spans, unfilled, spans_element}
use Rattle.go_core.proofs.MemoryLemmas.{map_found, sets_map}
use Rattle.go_core.proofs.TypedScalars.{pointer_in, slice_in, map_in, one_scalar, down, on_int, if_did}
use Rattle.go_core.proofs.OperatorsNumbers.{struct_is}
use Rattle.go_core.proofs.OperatorsMaps.{StateTyped, entry_typed}
use Rattle.go_core.proofs.LocalFrames.{base_found}

pub indexed : (Q : Did → Type 0) (index : ℤ) (n : ℕ) (f : ℕ → Did) → ((q : RunPanic) → Q (panics q 0)) → ((k : ℕ) → k < n → Q (f k)) → Q (s.on_index index n f)
indexed Q (pos i) n f h k = if_did Q (nat_lt i n) (f i) (panics (bad_index (pos i) n) 0) (λ e. k i (ltb-true i n e)) (λ e. h (bad_index (pos i) n))
indexed Q (negsuc i) n f h k = h (bad_index (negsuc i) n)

module _ (p : CoreProgram) (w : World) where
  -- a value of the type lies at the place, and the operands after its own are there
  abbrev pub FoundTyped : Ty → List Slot → a.Found → Type 0
  FoundTyped t us (a.found base others) = Spans w.cells base (leaves_of p.names t) × AreIn p w us others
  FoundTyped t us (a.fails q) = Unit {0}
  FoundTyped t us a.lost = ⊥

  abbrev F : Ty → List Slot → List Value → Did → Type 0
  F t us others d = FoundTyped t us (a.found_with d others)

  abbrev pub SetTyped : Did → Type 0
  SetTyped (gives vs m u) = MemoryTyped p w m
  SetTyped (panics q u) = Unit {0}
  SetTyped no_step = ⊥

module _ (p : CoreProgram) (w : World) (set : AreSet p) (m : Memory) (qs : List Place) where
  deref : (q t : Ty) (us : List Slot) (x : Value) (others : List Value) → underlying p.names q ≡ ty.pointer t → IsOf p w q x → AreIn p w us others → F p w t us others (s.deref_step x m)
  deref q t us x others e h k =
      one_scalar p w (leaf_of (ty.pointer t)) x (λ y. F p w t us others (s.deref_step y m)) (down p w set q (ty.pointer t) x e h)
      (λ y g. pointer_in p w t y (λ z. F p w t us others (s.deref_step (z ∷ []) m)) g tt (λ base l. (l, k)))

  field : (t : Ty) (n : ℕ) (f : FieldTy) (us : List Slot) (o : a.Found) → field_in (underlying p.names t) n ≡ Some f → FoundTyped p w t us o → FoundTyped p w f.type_ us (a.in_field p qs m t n o)
  field t n f us (a.found base others) e h =
      let g = struct_is (underlying p.names t) n f e in
      let sh = under_shape p set t ∙ ap (shape_of p.names) g.1 in
      let ls = under_leaves p set t ∙ ap (leaves_of p.names) g.1 in
      let e2 : field_in (ty.struct g.0) n ≡ Some f = ap (λ u. field_in u n) (sym g.1) ∙ e in
      subst (λ q. F p w f.type_ us others (s.field_step q n (cell.pointer base ∷ []) m)) (sym sh)
      (field_spans p.names g.0 n f w.cells base e2 (subst (Spans w.cells base) ls h.0), h.1)
  field t n f us (a.fails q) e h = tt
  field t n f us a.lost e h = absurd h

  elem : (t i u : Ty) (n : ℕ) (us : List Slot) (o : a.Found) → underlying p.names t ≡ ty.array n u → IsInt (underlying p.names i) → FoundTyped p w t (a_value i ∷ us) o
      → FoundTyped p w u us (a.in_elem p qs m t o)
  elem t i u n us (a.found base []) e j h = absurd h.1
  elem t i u n us (a.found base (y ∷ others)) e j h =
      let ls = under_leaves p set t ∙ ap (leaves_of p.names) e in
      subst (λ v. F p w u us others (s.elem_step p.names v (cell.pointer base ∷ []) y m)) (sym e)
      (on_int p w set i y (F p w u us others) _ j h.1.0
      (λ index. indexed (F p w u us others) index n _ (λ q. tt)
      (λ at lt. (
        subst (λ z. Spans w.cells (base + at * z) (leaves_of p.names u)) (sym (size_leaves p.names u))
            (spans_element w.cells (leaves_of p.names u) base n at lt (unfilled w.cells base (times n (leaves_of p.names u)) (subst (Spans w.cells base) ls h.0))),
        h.1.1,
      ))))
  elem t i u n us (a.fails q) e j h = tt
  elem t i u n us a.lost e j h = absurd h

  slice_elem : (t i u : Ty) (us : List Slot) (x y : Value) (others : List Value) → underlying p.names t ≡ ty.slice u → IsInt (underlying p.names i) → IsOf p w t x → IsOf p w i y → AreIn p w us others
      → F p w u us others (s.slice_elem_step p.names (underlying p.names t) x y m)
  slice_elem t i u us x y others e j h g k =
      subst (λ v. F p w u us others (s.slice_elem_step p.names v x y m)) (sym e)
      (on_int p w set i y (F p w u us others) _ j g
      (λ index. one_scalar p w (leaf_of (ty.slice u)) x (λ z. F p w u us others (s.slice_elem_at (size (shape_of p.names u)) z index m)) (down p w set t (ty.slice u) x e h)
      (λ z l. slice_in p w u z (λ v. F p w u us others (s.slice_elem_at (size (shape_of p.names u)) (v ∷ []) index m)) l
      (indexed (F p w u us others) index 0 _ (λ q. tt) (λ at lt. absurd (omega arith)))
      (λ base len capacity le q. indexed (F p w u us others) index len _ (λ r. tt)
      (λ at lt. (
        subst (λ z. Spans w.cells (base + at * z) (leaves_of p.names u)) (sym (size_leaves p.names u))
            (spans_element w.cells (leaves_of p.names u) base capacity at (omega (arith, lt, le)) q),
        k,
      ))))))

  two_first : (i k : Slot) (us : List Slot) (vs : List Value) (Q : List Value → Type 0) → AreIn p w (i ∷ k ∷ us) vs → ((x y : Value) (others : List Value) → AreIn p w (i ∷ k ∷ us) (x ∷ y ∷ others) → Q (x ∷ y ∷ others)) → Q vs
  two_first i k us [] Q h f = absurd h
  two_first i k us (x ∷ []) Q h f = absurd h.1
  two_first i k us (x ∷ y ∷ others) Q h f = f x y others h

  pub places_found : (gl : GlobalsLie p w) (pt : PlacesTyped p w qs) (had : List ℕ) → ids_of qs ≡ had → (c : CorePlace) (ss : List Slot) (t : Ty) → PlaceTyped p had c ss t → (us : List Slot) (vs : List Value) → AreIn p w (ss ++ us) vs
      → FoundTyped p w t us (a.found_place p qs m c vs)
  places_found gl pt had e _ _ _ (local_place v t hv) us vs h =
      let b = base_found p w qs v t pt (subst (λ is. HasVar p is v t) (sym e) hv) in
      subst (λ o. FoundTyped p w t us (a.local_found p qs m o vs)) (sym b.is_base) (b.lies, h)
  places_found gl pt had e _ _ _ (global_place n t k) us vs h = (gl n t k, h)
  places_found gl pt had e _ _ _ (deref_place c q t k) us [] h = absurd h
  places_found gl pt had e _ _ _ (deref_place c q t k) us (x ∷ vs) h = deref q t us x vs k h.0 h.1
  places_found gl pt had e _ _ _ (field_place t n c ss f k i) us vs h = field t n f us (a.found_place p qs m c vs) i (places_found gl pt had e c ss t k us vs h)
  places_found gl pt had e _ _ _ (elem_place t u i n c x ss k r j) us vs h =
      elem t i u n us (a.found_place p qs m c vs) r j
      (places_found gl pt had e c ss t k (a_value i ∷ us) vs (subst (λ ks. AreIn p w ks vs) (append_assoc ss (a_value i ∷ []) us) h))
  places_found gl pt had e _ _ _ (slice_place t u i x y r j) us vs h =
      two_first (a_value t) (a_value i) us vs (λ os. FoundTyped p w u us (a.found_place p qs m (core.slice_elem t x y) os)) h
      (λ b c others k. slice_elem t i u us b c others r j k.0 k.1.0 k.1.1)

-- ---- how many operands

module _ (p : CoreProgram) (g : ℕ) (had : List ℕ) where
  place_count : (c : CorePlace) (ss : List Slot) (t : Ty) → PlaceTyped p had c ss t → length ss ≡ a.operand_count p g c
  place_count _ _ _ (local_place v t hv) = refl
  place_count _ _ _ (global_place n t k) = refl
  place_count _ _ _ (deref_place c q t k) = refl
  place_count _ _ _ (field_place t n c ss f k i) = place_count c ss t k
  place_count _ _ _ (elem_place t u i n c x ss k r j) = let z = place_count c ss t k in let l = length-append ss (a_value i ∷ []) in omega (arith, z, l)
  place_count _ _ _ (slice_place t u i x y r j) = refl

  target_count : (x : Target) (xs : List Target) (ss : List Slot) (t : Ty) → TargetTyped p had x ss t → length ss + a.target_operands p g xs ≡ a.target_operands p g (x ∷ xs)
  target_count _ xs _ _ (blank_target t) = omega arith
  target_count _ xs _ _ (place_target t c ss h) = ap (λ n. n + a.target_operands p g xs) (place_count c ss t h)
  target_count _ xs _ _ (entry_target m k t e key r) = refl

  pub targets_count : (xs : List Target) (ss : List Slot) (us : List Ty) → TargetsTyped p had xs ss us → length ss ≡ a.target_operands p g xs
  targets_count _ _ _ no_target = refl
  targets_count _ _ _ (more_targets x xs ss us t ts h k) =
      length-append ss us ∙ ap (λ n. length ss + n) (targets_count xs us ts k) ∙ target_count x xs ss t h

-- ---- entries of maps

module _ (p : CoreProgram) (w : World) (set : AreSet p) (m : Memory) (mt : MemoryTyped p w m) (k v : Ty) where
  set_or_not : (name units : ℕ) (o : Option MapState) → slice_get w.maps name ≡ Some (untagged_map (record { key = k; value = v })) → StateTyped p w k v o → SetTyped p w (d.set_or_not m name units o)
  set_or_not name units None e h = tt
  set_or_not name units (Some st) e h = sets_map p w m name (record { key = k; value = v }) st mt e h

  pub entry_set : (t : Ty) (x key value : Value) → underlying p.names t ≡ ty.mapping k v → IsOf p w t x → IsOf p w k key → IsOf p w v value → SetTyped p w (d.map_set_step p.names (underlying p.names t) x key value m)
  entry_set t x key value e h a b =
      subst (λ u. SetTyped p w (d.map_set_step p.names u x key value m)) (sym e)
      (one_scalar p w (leaf_of (ty.mapping k v)) x (λ y. SetTyped p w (d.map_set_step p.names (ty.mapping k v) y key value m)) (down p w set t (ty.mapping k v) x e h)
      (λ y g. map_in p w k v y (λ z. SetTyped p w (d.map_set_step p.names (ty.mapping k v) (z ∷ []) key value m)) g tt
      (λ name at. let f = map_found p w w.maps m.maps name (record { key = k; value = v }) mt.maps_typed at in
      subst (λ o. SetTyped p w (d.entry_set p.names k v key value name o m)) (sym f.is_at)
      (set_or_not name (weight (shape_of p.names k) + weight (shape_of p.names v)) (d.with_entry p.names k key value f.at) at (entry_typed p w k v key value f.at a b f.typed)))))

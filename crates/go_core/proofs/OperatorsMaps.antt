-- Operators on maps give values of their types, and keep the entries of a map typed.
use Rattle.std.proofs.Common.{sym, subst}
use Rattle.std.specs.Prelude.{◌≡◌, ℕ, zero, suc, ◌+◌, List, [], ◌∷◌, ◌++◌, Bool, true, false, if◌then◌else◌, nat_le, length, Option, Some, None, slice_get, option_and_then}
use Rattle.go_type.specs.Tree as ty
use Rattle.go_type.specs.Tree.{Ty}
use Rattle.go_type.specs.Underlying.{underlying}
use Rattle.go_core.specs.Layout.{shape_of, weight}
use Rattle.go_core.specs.Memory as cell
use Rattle.go_core.specs.Memory.{Scalar, Value, Memory, Entry, MapState, zeros, with_map, set_map}
use Rattle.go_core.specs.CoreTree.{CoreProgram}
use Rattle.go_core.specs.TypeOf.{with_truth}
use Rattle.go_core.specs.SoundProgram.{AreSet}
use Rattle.go_core.specs.Equality.{same_key}
use Rattle.go_core.specs.StepNumbers.{most_elements}
use Rattle.go_core.specs.StepMaps as d
use Rattle.go_core.specs.Leaves.{leaf_of}
use Rattle.go_core.specs.Typed.{World, MapTypes, untagged_map, truth_typed, IsOf, EntriesOf, MemoryTyped}
use Rattle.go_core.specs.Applies.{a_value, values_of_types, pair_slots, AreIn}
use Rattle.go_core.specs.TypingLaws.{DidTyped}
use Rattle.go_core.proofs.LeavesLemmas.{zeros_of}
use Rattle.go_core.proofs.MemoryLemmas.{same_world, with_map_types, map_extends, fresh_map, last_one, maps_length, map_found, sets_map}
use Rattle.go_core.proofs.TypedScalars.{map_in, as_map, one_scalar, down, up, kept}

module _ (p : CoreProgram) (w : World) where
  pub with_ok_typed : (ok : Bool) (t : Ty) (x : Value) (b : Bool) → IsOf p w t x → AreIn p w (values_of_types (with_truth ok (Some t))) (d.with_ok ok x b)
  with_ok_typed true t x b h = (h, ((truth_typed b, tt), tt))
  with_ok_typed false t x b h = (h, tt)

module _ (p : CoreProgram) (w : World) (k v : Ty) where
  found_typed : (key : Value) (es : List Entry) → EntriesOf p w k v es → IsOf p w v (d.found_value (shape_of p.names v) (d.looked_up p.names k key es))
  found_typed key [] h = zeros_of p w p.names v
  found_typed key (e ∷ es) h = by_key (same_key p.names k e.key key) (found_typed key es h.1)
    where
      by_key : (b : Bool) → IsOf p w v (d.found_value (shape_of p.names v) (d.looked_up p.names k key es)) → IsOf p w v (d.found_value (shape_of p.names v) (if b then Some e.value else d.looked_up p.names k key es))
      by_key true i = h.0.1
      by_key false i = i

  replaced_typed : (key value : Value) (es : List Entry) → IsOf p w v value → EntriesOf p w k v es → EntriesOf p w k v (d.replaced p.names k key value es)
  replaced_typed key value [] g h = tt
  replaced_typed key value (e ∷ es) g h = by_key (same_key p.names k e.key key) (replaced_typed key value es g h.1)
    where
      by_key : (b : Bool) → EntriesOf p w k v (d.replaced p.names k key value es) → EntriesOf p w k v (if b then record e { value = value } ∷ es else e ∷ d.replaced p.names k key value es)
      by_key true i = ((h.0.0, g), h.1)
      by_key false i = (h.0, i)

  without_typed : (key : Value) (es : List Entry) → EntriesOf p w k v es → EntriesOf p w k v (d.without p.names k key es)
  without_typed key [] h = tt
  without_typed key (e ∷ es) h = by_key (same_key p.names k e.key key) (without_typed key es h.1)
    where
      by_key : (b : Bool) → EntriesOf p w k v (d.without p.names k key es) → EntriesOf p w k v (if b then es else e ∷ d.without p.names k key es)
      by_key true i = h.1
      by_key false i = (h.0, i)

  more_typed : (es : List Entry) (e : Entry) → EntriesOf p w k v es → IsOf p w k e.key → IsOf p w v e.value → EntriesOf p w k v (es ++ e ∷ [])
  more_typed [] e h a b = ((a, b), tt)
  more_typed (x ∷ es) e h a b = (h.0, more_typed es e h.1 a b)

  abbrev pub StateTyped : Option MapState → Type 0
  StateTyped None = Unit {0}
  StateTyped (Some s) = EntriesOf p w k v s.entries

  pub entry_typed : (key value : Value) (s : MapState) → IsOf p w k key → IsOf p w v value → EntriesOf p w k v s.entries → StateTyped (d.with_entry p.names k key value s)
  entry_typed key value s a b h = by_old (d.looked_up p.names k key s.entries)
    where
      by_room : (r : Bool) → StateTyped (if r then None else Some (d.with_new p.names k key value s))
      by_room true = tt
      by_room false = more_typed s.entries (record { key = key; value = value; birth = s.next_birth }) h a b

      by_old : (o : Option Value) → StateTyped (d.put_entry p.names k key value s o)
      by_old (Some old) = replaced_typed key value s.entries b h
      by_old None = by_room (nat_le most_elements (length s.entries))

  pairs_typed : (n : ℕ) (vs : List Value) (s : MapState) → AreIn p w (pair_slots n k v) vs → EntriesOf p w k v s.entries → StateTyped (d.with_pairs p.names k vs s)
  pairs_typed zero [] s h g = g
  pairs_typed zero (x ∷ vs) s h g = absurd h
  pairs_typed (suc n) [] s h g = absurd h
  pairs_typed (suc n) (x ∷ []) s h g = absurd h.1
  pairs_typed (suc n) (x ∷ y ∷ vs) s h g = by_state (d.with_entry p.names k x y s) (entry_typed x y s h.0 h.1.0 g) (λ t i. pairs_typed n vs t h.1.1 i)
    where
      by_state : (o : Option MapState) → StateTyped o → ((t : MapState) → EntriesOf p w k v t.entries → StateTyped (d.with_pairs p.names k vs t)) → StateTyped (option_and_then (d.with_pairs p.names k vs) o)
      by_state None i next = tt
      by_state (Some t) i next = next t i

module _ (p : CoreProgram) (w : World) (set : AreSet p) (m : Memory) (mt : MemoryTyped p w m) (k v : Ty) where
  got : (ok : Bool) (key : Value) (x : Scalar) → EntriesOf p w k v (d.entries_at (x ∷ []) m) → DidTyped p w (values_of_types (with_truth ok (Some v))) (d.map_get_step p.names (ty.mapping k v) ok (x ∷ []) key m)
  got ok key x h =
      kept p w m mt (values_of_types (with_truth ok (Some v)))
      (d.with_ok ok (d.found_value (shape_of p.names v) (d.looked_up p.names k key (d.entries_at (x ∷ []) m))) (d.is_found (d.looked_up p.names k key (d.entries_at (x ∷ []) m))))
      (weight (shape_of p.names k) + weight (shape_of p.names v))
      (with_ok_typed p w ok v (d.found_value (shape_of p.names v) (d.looked_up p.names k key (d.entries_at (x ∷ []) m))) (d.is_found (d.looked_up p.names k key (d.entries_at (x ∷ []) m))) (found_typed p w k v key (d.entries_at (x ∷ []) m) h))

  pub gets : (t : Ty) (ok : Bool) (x key : Value) → underlying p.names t ≡ ty.mapping k v → IsOf p w t x → DidTyped p w (values_of_types (with_truth ok (Some v))) (d.map_get_step p.names (ty.mapping k v) ok x key m)
  gets t ok x key e h =
      one_scalar p w (leaf_of (ty.mapping k v)) x (λ y. DidTyped p w (values_of_types (with_truth ok (Some v))) (d.map_get_step p.names (ty.mapping k v) ok y key m)) (down p w set t (ty.mapping k v) x e h)
      (λ y g. map_in p w k v y (λ z. DidTyped p w (values_of_types (with_truth ok (Some v))) (d.map_get_step p.names (ty.mapping k v) ok (z ∷ []) key m)) g (got ok key cell.nil tt)
      (λ name at. let f = map_found p w w.maps m.maps name (record { key = k; value = v }) mt.maps_typed at in
      got ok key (cell.map name) (subst (λ o. EntriesOf p w k v (d.entries_in o)) (sym f.is_at) f.typed)))

  pub deletes : (t : Ty) (x key : Value) → underlying p.names t ≡ ty.mapping k v → IsOf p w t x → DidTyped p w [] (d.map_delete_step p.names (ty.mapping k v) x key m)
  deletes t x key e h =
      one_scalar p w (leaf_of (ty.mapping k v)) x (λ y. DidTyped p w [] (d.map_delete_step p.names (ty.mapping k v) y key m)) (down p w set t (ty.mapping k v) x e h)
      (λ y g. map_in p w k v y (λ z. DidTyped p w [] (d.map_delete_step p.names (ty.mapping k v) (z ∷ []) key m)) g (kept p w m mt [] [] (weight (shape_of p.names k) + weight (shape_of p.names v)) tt)
      (λ name at. let f = map_found p w w.maps m.maps name (record { key = k; value = v }) mt.maps_typed at in
      subst (λ o. DidTyped p w [] (d.entry_deleted p.names k v key name o m)) (sym f.is_at)
      (w, same_world w, sets_map p w m name (record { key = k; value = v }) (record f.at { entries = d.without p.names k key f.at.entries }) mt at (without_typed p w k v key f.at.entries f.typed), tt)))

  new_or_not : (t : Ty) (units : ℕ) (o : Option MapState) → underlying p.names t ≡ ty.mapping k v → StateTyped p w k v o → DidTyped p w (a_value t ∷ []) (d.new_map_or_not m units o)
  new_or_not t units None e h = tt
  new_or_not t units (Some s) e h =
      let us : MapTypes = untagged_map (record { key = k; value = v }) in
      let z = maps_length p w w.maps m.maps mt.maps_typed in (
        with_map_types w us,
        map_extends w us,
        fresh_map p w m (record { key = k; value = v }) s mt h,
        (
          up p (with_map_types w us) set t (ty.mapping k v) (cell.map (length m.maps) ∷ []) e
              (as_map p (with_map_types w us) k v (length m.maps) (subst (λ n. slice_get (w.maps ++ us ∷ []) n ≡ Some us) (sym z) (last_one w.maps us)), tt),
          tt,
        ),
      )

  pub builds_map : (t : Ty) (n : ℕ) (vs : List Value) → underlying p.names t ≡ ty.mapping k v → AreIn p w (pair_slots n k v) vs → DidTyped p w (a_value t ∷ []) (d.build_map_step p.names (ty.mapping k v) vs m)
  builds_map t n vs e h = new_or_not t _ (d.with_pairs p.names k vs (record { entries = []; next_birth = 0 })) e (pairs_typed p w k v n vs (record { entries = []; next_birth = 0 }) h tt)

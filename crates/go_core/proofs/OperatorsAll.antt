-- Operands of an operator's types always have a step: one case for each operator.
use Rattle.std.proofs.Common.{refl, sym, ap, subst, arith}
use Rattle.std.specs.Prelude.{◌≡◌, ◌<◌, ℕ, zero, suc, List, [], ◌∷◌, ◌++◌, Bool, Some, pos, slice_set, length}
use Rattle.std.proofs.lemmas.Option.{slice_get_within}
use Rattle.go_type.specs.declared.types.IntName.TheVariants as integer
use Rattle.go_type.specs.Tree as ty
use Rattle.go_type.specs.Tree.{Ty}
use Rattle.go_type.specs.Underlying.{underlying}
use Rattle.go_core.specs.Memory as cell
use Rattle.go_core.specs.Memory.{Value, Memory, Scalar, zeros, read_cells, next_base, with_written, with_fresh}
use Rattle.go_core.specs.CoreTree.{CoreProgram}
use Rattle.go_core.specs.TypeOf.{int_type, with_truth}
use Rattle.go_core.specs.Layout.{shape_of}
use Rattle.go_core.specs.SoundNode.{IsInt, IsSlice, SlicesTo}
use Rattle.go_core.specs.StepMemory.{new_step}
use Rattle.go_core.specs.SoundProgram.{Sound}
use Rattle.go_core.specs.Equality.{compared}
use Rattle.go_core.specs.StepMaps.{map_get_step, map_delete_step, build_map_step}
use Rattle.go_core.specs.Operator as o
use Rattle.go_core.specs.Operator.{Operator, operated, gate_at, gate_step}
use Rattle.go_core.specs.Leaves.{leaf, leaves_of, Spans}
use Rattle.go_core.specs.Typed.{World, Lists, MemoryTyped, ScalarTyped, whole_typed, pointer_typed}
use Rattle.go_core.specs.Applies.{Slot, a_value, a_place, values_of_types, slot_if, AreIn, PlaceOf, Applies, constant_applies, zero_applies, global_applies, pointer_applies, field_applies, elem_applies, slice_elem_applies, read_applies, address_applies, place_applies, unary_applies, binary_applies, concat_applies, not_applies, equal_applies, less_applies, convert_applies, byte_applies, slice_applies, build_applies, build_map_applies, bind_applies, bind_dynamic_applies, get_applies, delete_applies, len_applies, cap_applies, append_applies, copy_applies, new_slice_applies, new_map_applies, new_channel_applies, new_applies, wrap_applies, assert_applies, basic_applies, gate_applies}
use Rattle.go_core.specs.WellFormed.{GlobalsLie}
use Rattle.go_core.specs.TypingLaws.{DidTyped}
use Rattle.go_core.proofs.LeavesLemmas.{zeros_of}
use Rattle.go_core.proofs.TypedGrowth.{spans}
use Rattle.go_core.proofs.MemoryLemmas.{lists_length, reads, writes, fresh, fresh_lies, with_cells, cells_extend}
use Rattle.go_core.proofs.TypedScalars.{none_in, one_in, two_in, place_in, as_pointer, one_scalar, pointer_in, kept}
use Rattle.go_core.proofs.OperatorsNumbers as n
use Rattle.go_core.proofs.OperatorsSlices as l
use Rattle.go_core.proofs.OperatorsMaps as d
use Rattle.go_core.proofs.OperatorsInterfaces as i
use Rattle.go_core.proofs.OperatorsConvert as c

set_front : (xs ys : List Scalar) (k : ℕ) (x : Scalar) → k < length xs → slice_set (xs ++ ys) k x ≡ slice_set xs k x ++ ys
set_front [] ys k x lt = absurd (omega arith)
set_front (z ∷ xs) ys zero x lt = refl
set_front (z ∷ xs) ys (suc k) x lt = ap (λ l. z ∷ l) (set_front xs ys k x (omega arith))

module _ (p : CoreProgram) (sound : Sound p) (w : World) (m : Memory) (mt : MemoryTyped p w m) where
  base_within : (base : ℕ) → Spans w.cells base (leaf (ty.pointer int_type) ∷ []) → base < length m.cells
  base_within base at = let a = slice_get_within w.cells base (leaf (ty.pointer int_type)) at.0 in let e = lists_length p w w.cells m.cells mt.cells_typed in omega (arith, a, e)

  -- the pointer is written first, to where the cell will lie
  swapped : (base : ℕ) → Spans w.cells base (leaf (ty.pointer int_type) ∷ []) → MemoryTyped p (with_cells w (leaf int_type ∷ [])) (with_fresh (with_written m base (cell.pointer (next_base m) ∷ [])) (cell.whole (pos 0) ∷ []))
  swapped base at =
      let ls = leaf int_type ∷ [] in
      let v = with_cells w ls in
      let x = cells_extend w ls in
      let f = fresh p w m ls (cell.whole (pos 0) ∷ []) mt (whole_typed integer.Int (pos 0), tt) in
      let there = writes p v (with_fresh m (cell.whole (pos 0) ∷ [])) base (leaf (ty.pointer int_type) ∷ []) (cell.pointer (next_base m) ∷ []) f (spans p w v x base (leaf (ty.pointer int_type) ∷ []) at) (pointer_typed int_type (next_base m) (fresh_lies p w m ls mt), tt) in
      record {
        cells_typed = subst (λ cs. Lists p v v.cells cs) (set_front m.cells (cell.whole (pos 0) ∷ []) base (cell.pointer (next_base m)) (base_within base at)) there.cells_typed;
        maps_typed = there.maps_typed;
        channels_typed = there.channels_typed;
      }

  -- a gate's cell, made where there is none
  by_pointer : (base : ℕ) (x : Scalar) → Spans w.cells base (leaf (ty.pointer int_type) ∷ []) → ScalarTyped p w (leaf (ty.pointer int_type)) x → DidTyped p w (a_place int_type ∷ []) (gate_at base (x ∷ []) m)
  by_pointer base x at h =
      pointer_in p w int_type x (λ y. DidTyped p w (a_place int_type ∷ []) (gate_at base (y ∷ []) m)) h
      (let ls = leaf int_type ∷ [] in
      let v = with_cells w ls in
      let lies = fresh_lies p w m ls mt in
      (v, cells_extend w ls, swapped base at, (lies, tt)))
      (λ gate l. kept p w m mt (a_place int_type ∷ []) ((cell.pointer gate ∷ []) ∷ []) 1 (l, tt))

  gate : (x : Value) → PlaceOf p w (ty.pointer int_type) x → DidTyped p w (a_place int_type ∷ []) (gate_step x m)
  gate x h =
      place_in p w (ty.pointer int_type) x (λ y. DidTyped p w (a_place int_type ∷ []) (gate_step y m)) h
      (λ base at. one_scalar p w (leaf (ty.pointer int_type)) (read_cells base 1 m.cells) (λ y. DidTyped p w (a_place int_type ∷ []) (gate_at base y m))
      (reads p w m base 1 (leaf (ty.pointer int_type) ∷ []) mt at refl) (λ s k. by_pointer base s at k))

  new_pointer : (t : Ty) → DidTyped p w (a_value (ty.pointer t) ∷ []) (new_step (shape_of p.names t) m)
  new_pointer t =
      let ls = leaves_of p.names t in
      (with_cells w ls, cells_extend w ls, fresh p w m ls (zeros (shape_of p.names t)) mt (zeros_of p w p.names t), ((as_pointer p (with_cells w ls) t (next_base m) (fresh_lies p w m ls mt), tt), tt))

  by_slice : (wanted : ℕ) (vs : List Value) (from t : Ty) (low high limit : Bool) (j k q : Ty) → IsInt (underlying p.names j) → IsInt (underlying p.names k) → IsInt (underlying p.names q) → SlicesTo p (underlying p.names from) from t
      → AreIn p w (a_value from ∷ slot_if low j ++ slot_if high k ++ slot_if limit q) vs → DidTyped p w (a_value t ∷ []) (operated p wanted (o.to_slice from low high limit) vs m)
  by_slice wanted [] from t low high limit j k q a b c e h = absurd h
  by_slice wanted (x ∷ vs) from t low high limit j k q a b c e h = l.slices p w sound.names_set m mt from t low high limit j k q x vs e a b c h.0 h.1

  by_new_slice : (wanted : ℕ) (vs : List Value) (t j : Ty) (has : Bool) (k : Ty) → IsInt (underlying p.names j) → IsInt (underlying p.names k) → IsSlice (underlying p.names t)
      → AreIn p w (a_value j ∷ slot_if has k) vs → DidTyped p w (a_value t ∷ []) (operated p wanted (o.to_new_slice t) vs m)
  by_new_slice wanted [] t j has k a b e h = absurd h
  by_new_slice wanted (x ∷ vs) t j has k a b e h = l.makes_slice p w sound.names_set m mt t j has k x vs a b e h.0 h.1

  pub all : (q : Operator) (ins outs : List Slot) (wanted : ℕ) (vs : List Value) → GlobalsLie p w → Applies p q ins outs → AreIn p w ins vs → DidTyped p w outs (operated p wanted q vs m)
  all _ _ _ wanted vs gl (constant_applies k t e) h = none_in p w vs (λ us. DidTyped p w (a_value t ∷ []) (operated p wanted (o.give_constant k) us m)) h (n.constant p w sound.names_set m mt t k e)
  all _ _ _ wanted vs gl (zero_applies t) h = none_in p w vs (λ us. DidTyped p w (a_value t ∷ []) (operated p wanted (o.give_zero t) us m)) h (n.zero_value p w sound.names_set m mt t)
  all _ _ _ wanted vs gl (global_applies k t e) h = none_in p w vs (λ us. DidTyped p w (a_place t ∷ []) (operated p wanted (o.at_global k) us m)) h (n.global p w sound.names_set m mt gl k t e)
  all _ _ _ wanted vs gl (pointer_applies q t e) h = one_in p w (a_value q) vs (λ us. DidTyped p w (a_place t ∷ []) (operated p wanted (o.at_pointer) us m)) h (λ x f. n.deref p w sound.names_set m mt q t x e f)
  all _ _ _ wanted vs gl (field_applies t k q e) h = one_in p w (a_place t) vs (λ us. DidTyped p w (a_place q.type_ ∷ []) (operated p wanted (o.at_field t k) us m)) h (λ x f. n.field p w sound.names_set m mt t k q x e f)
  all _ _ _ wanted vs gl (elem_applies t j u k e a) h = two_in p w (a_place t) (a_value j) vs (λ us. DidTyped p w (a_place u ∷ []) (operated p wanted (o.at_elem t) us m)) h (λ x y f g. n.elem p w sound.names_set m mt t j u k x y e a f g)
  all _ _ _ wanted vs gl (slice_elem_applies t j u e a) h = two_in p w (a_value t) (a_value j) vs (λ us. DidTyped p w (a_place u ∷ []) (operated p wanted (o.at_slice_elem t) us m)) h (λ x y f g. n.slice_elem p w sound.names_set m mt t j u x y e a f g)
  all _ _ _ wanted vs gl (read_applies t) h = one_in p w (a_place t) vs (λ us. DidTyped p w (a_value t ∷ []) (operated p wanted (o.read_place t) us m)) h (λ x f. n.read p w sound.names_set m mt t x f)
  all _ _ _ wanted vs gl (address_applies t) h = one_in p w (a_place t) vs (λ us. DidTyped p w (a_value (ty.pointer t) ∷ []) (operated p wanted (o.to_address) us m)) h (λ x f. n.address p w sound.names_set m mt t x f)
  all _ _ _ wanted vs gl (place_applies t) h = one_in p w (a_place t) vs (λ us. DidTyped p w (a_place t ∷ []) (operated p wanted (o.to_address) us m)) h (λ x f. n.place p w sound.names_set m mt t x f)
  all _ _ _ wanted vs gl (unary_applies q t a) h = one_in p w (a_value t) vs (λ us. DidTyped p w (a_value t ∷ []) (operated p wanted (o.to_unary q t) us m)) h (λ x f. n.unary p w sound.names_set m mt q t x a f)
  all _ _ _ wanted vs gl (binary_applies q t u a b) h = two_in p w (a_value t) (a_value u) vs (λ us. DidTyped p w (a_value t ∷ []) (operated p wanted (o.to_binary q t) us m)) h (λ x y f g. n.binary p w sound.names_set m mt q t u x y a b f g)
  all _ _ _ wanted vs gl (concat_applies t a) h = two_in p w (a_value t) (a_value t) vs (λ us. DidTyped p w (a_value t ∷ []) (operated p wanted (o.to_concat) us m)) h (λ x y f g. n.concat p w sound.names_set m mt t x y a f g)
  all _ _ _ wanted vs gl (not_applies t a) h = one_in p w (a_value t) vs (λ us. DidTyped p w (a_value t ∷ []) (operated p wanted (o.to_not) us m)) h (λ x f. n.negation p w sound.names_set m mt t x a f)
  all _ _ _ wanted vs gl (equal_applies negated t u a) h = two_in p w (a_value t) (a_value t) vs (λ us. DidTyped p w (a_value u ∷ []) (operated p wanted (o.to_equal negated t) us m)) h (λ x y f g. n.equals p w sound.names_set m mt negated (compared p.names t x y) u a)
  all _ _ _ wanted vs gl (less_applies q t u a b) h = two_in p w (a_value t) (a_value t) vs (λ us. DidTyped p w (a_value u ∷ []) (operated p wanted (o.to_less q t) us m)) h (λ x y f g. n.less p w sound.names_set m mt q t u x y a b f g)
  all _ _ _ wanted vs gl (convert_applies from t a) h = one_in p w (a_value from) vs (λ us. DidTyped p w (a_value t ∷ []) (operated p wanted (o.to_converted from t) us m)) h (λ x f. c.converts p w sound.names_set m mt from t x a f)
  all _ _ _ wanted vs gl (byte_applies q j a b) h = two_in p w (a_value q) (a_value j) vs (λ us. DidTyped p w (a_value (ty.int integer.Uint8) ∷ []) (operated p wanted (o.to_byte) us m)) h (λ x y f g. n.byte_at p w sound.names_set m mt q j x y a b f g)
  all _ _ _ wanted vs gl (slice_applies from t low high limit j k q a b r e) h = by_slice wanted vs from t low high limit j k q a b r e h
  all _ _ _ wanted vs gl (build_applies t count is us b e) h = c.builds p w sound.names_set m mt t count is us vs e b h
  all _ _ _ wanted vs gl (build_map_applies t k v j e) h = subst (λ u. DidTyped p w (a_value t ∷ []) (build_map_step p.names u vs m)) (sym e) (d.builds_map p w sound.names_set m mt k v t j vs e h)
  all _ _ _ wanted vs gl (bind_applies q t a) h = one_in p w (a_value q.type_) vs (λ us. DidTyped p w (a_value t ∷ []) (operated p wanted (o.to_bound q) us m)) h (λ x f. i.binds p sound w m mt q t x a f)
  all _ _ _ wanted vs gl (bind_dynamic_applies name package_ j t a) h = one_in p w (a_value j) vs (λ us. DidTyped p w (a_value t ∷ []) (operated p wanted (o.to_bound_dynamic name package_) us m)) h (λ x f. i.binds_dynamic p sound w m mt j t name package_ x a f)
  all _ _ _ wanted vs gl (get_applies t k v ok e) h = two_in p w (a_value t) (a_value k) vs (λ us. DidTyped p w (values_of_types (with_truth ok (Some v))) (operated p wanted (o.get_entry t ok) us m)) h (λ x y f g. subst (λ u. DidTyped p w (values_of_types (with_truth ok (Some v))) (map_get_step p.names u ok x y m)) (sym e) (d.gets p w sound.names_set m mt k v t ok x y e f))
  all _ _ _ wanted vs gl (delete_applies t k v e) h = two_in p w (a_value t) (a_value k) vs (λ us. DidTyped p w ([]) (operated p wanted (o.delete_entry t) us m)) h (λ x y f g. subst (λ u. DidTyped p w [] (map_delete_step p.names u x y m)) (sym e) (d.deletes p w sound.names_set m mt k v t x y e f))
  all _ _ _ wanted vs gl (len_applies from a) h = one_in p w (a_value from) vs (λ us. DidTyped p w (a_value int_type ∷ []) (operated p wanted (o.to_len from) us m)) h (λ x f. c.lengths p w sound.names_set m mt from x a f)
  all _ _ _ wanted vs gl (cap_applies from a) h = one_in p w (a_value from) vs (λ us. DidTyped p w (a_value int_type ∷ []) (operated p wanted (o.to_cap from) us m)) h (λ x f. c.capacities p w sound.names_set m mt from x a f)
  all _ _ _ wanted vs gl (append_applies t from a) h = two_in p w (a_value t) (a_value from) vs (λ us. DidTyped p w (a_value t ∷ []) (operated p wanted (o.to_appended t) us m)) h (λ x y f g. l.appends p w sound.names_set m mt t from wanted x y a f g)
  all _ _ _ wanted vs gl (copy_applies t from a) h = two_in p w (a_value t) (a_value from) vs (λ us. DidTyped p w (a_value int_type ∷ []) (operated p wanted (o.to_copied t) us m)) h (λ x y f g. l.copies p w sound.names_set m mt t from x y a f g)
  all _ _ _ wanted vs gl (new_slice_applies t j has k a b e) h = by_new_slice wanted vs t j has k a b e h
  all _ _ _ wanted vs gl (new_map_applies t has k a b) h = l.makes_map p w sound.names_set m mt t has k vs a b h
  all _ _ _ wanted vs gl (new_channel_applies t has k a b) h = l.makes_channel p w sound.names_set m mt t has k vs a b h
  all _ _ _ wanted vs gl (new_applies t) h = none_in p w vs (λ us. DidTyped p w (a_value (ty.pointer t) ∷ []) (operated p wanted (o.to_new t) us m)) h (new_pointer t)
  all _ _ _ wanted vs gl (wrap_applies from t a) h = one_in p w (a_value from) vs (λ us. DidTyped p w (a_value t ∷ []) (operated p wanted (o.to_interface from) us m)) h (λ x f. i.wraps p sound w m mt from t x a f)
  all _ _ _ wanted vs gl (assert_applies j t ok a) h = one_in p w (a_value j) vs (λ us. DidTyped p w (values_of_types (with_truth ok (Some t))) (operated p wanted (o.to_asserted t ok) us m)) h (λ x f. i.asserts p sound w m mt j t ok x a f)
  all _ _ _ wanted vs gl (basic_applies t e) h = one_in p w (a_value t) vs (λ us. DidTyped p w (a_value t ∷ []) (operated p wanted (o.to_basic) us m)) h (λ x f. i.basics p sound w m mt t x e f)
  all _ _ _ wanted vs gl (gate_applies) h = one_in p w (a_place (ty.pointer int_type)) vs (λ us. DidTyped p w (a_place int_type ∷ []) (operated p wanted (o.to_gate) us m)) h (λ x f. gate x f)

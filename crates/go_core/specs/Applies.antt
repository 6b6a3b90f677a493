-- Go specification (as of Go 1.17), "Expressions", "Order of evaluation": what each operator takes from a frame's
-- values and what it gives, by types.
use Rattle.std.specs.Prelude.{◌≡◌, ℕ, zero, suc, List, [], ◌∷◌, ◌++◌, Bool, true, false, Some, slice_get}
use Rattle.gj_base.specs.declared.kind.Op.{Op}
use Rattle.go_type.specs.declared.types.IntName.TheVariants as integer
use Rattle.go_type.specs.Tree as ty
use Rattle.go_type.specs.Tree.{Ty}
use Rattle.go_type.specs.Underlying.{underlying}
use Rattle.go_core.specs.Memory as cell
use Rattle.go_core.specs.Memory.{Value}
use Rattle.go_core.specs.CoreTree.{Constant, MethodName, CoreProgram}
use Rattle.go_core.specs.TypeOf.{FieldTy, field_in, int_type, with_truth, global_type, method_in}
use Rattle.go_core.specs.SoundNode.{Fits, IsInt, IsBool, IsText, IsInterface, IsMap, IsChannel, IsSlice, IsOrdered, IsConversion, SlicesTo, HasMethodType, IsSignature, AnswersTo, GoesInto, HasLength, HasCapacity, BuildsPart, IsBuilt}
use Rattle.go_core.specs.Sound.{empty_interface}
use Rattle.go_core.specs.Operator as op
use Rattle.go_core.specs.Operator.{Operator}
use Rattle.go_core.specs.Leaves.{leaves_of, Spans}
use Rattle.go_core.specs.Typed.{World, IsOf}

-- one of a frame's values: a value of a type, or a place where one lies, given as the pointer to it
pub data Slot : Type 0 where
  a_value : (type_ : Ty) → Slot
  a_place : (type_ : Ty) → Slot

abbrev pub values_of_types : List Ty → List Slot
values_of_types [] = []
values_of_types (t ∷ ts) = a_value t ∷ values_of_types ts

-- slots, left to right, go onto a stack, as values do
abbrev pub pushed_slots : List Slot → List Slot → List Slot
pushed_slots [] stack = stack
pushed_slots (s ∷ ss) stack = pushed_slots ss (s ∷ stack)

module _ (p : CoreProgram) (w : World) where
  -- a place is never nil
  abbrev pub PlaceOf : Ty → Value → Type 0
  PlaceOf t (cell.pointer base ∷ []) = Spans w.cells base (leaves_of p.names t)
  PlaceOf t _ = ⊥

  abbrev pub IsIn : Slot → Value → Type 0
  IsIn (a_value t) x = IsOf p w t x
  IsIn (a_place t) x = PlaceOf t x

  abbrev pub AreIn : List Slot → List Value → Type 0
  AreIn [] [] = Unit {0}
  AreIn (s ∷ ss) (x ∷ xs) = IsIn s x × AreIn ss xs
  AreIn _ _ = ⊥

-- elements at their indexes are of the types of those parts
abbrev pub BuildsParts : CoreProgram → Ty → ℕ → List ℕ → List Ty → Type 0
BuildsParts p t count [] [] = Unit {0}
BuildsParts p t count (i ∷ is) (u ∷ us) = BuildsPart p t (underlying p.names t) count i (Some u) × BuildsParts p t count is us
BuildsParts p t count _ _ = ⊥

-- keys and values by turns
abbrev pub pair_slots : ℕ → Ty → Ty → List Slot
pair_slots zero k v = []
pair_slots (suc n) k v = a_value k ∷ a_value v ∷ pair_slots n k v

-- an operand that may be missing
abbrev pub slot_if : Bool → Ty → List Slot
slot_if false t = []
slot_if true t = a_value t ∷ []

-- one line for each operator: its operands, from the left, and its values
pub data Applies (p : CoreProgram) : Operator → List Slot → List Slot → Type 0 where
  constant_applies : (c : Constant) (t : Ty) → Fits (underlying p.names t) c → Applies p (op.give_constant c) [] (a_value t ∷ [])
  zero_applies : (t : Ty) → Applies p (op.give_zero t) [] (a_value t ∷ [])
  global_applies : (n : ℕ) (t : Ty) → global_type (slice_get p.globals n) ≡ Some t → Applies p (op.at_global n) [] (a_place t ∷ [])
  pointer_applies : (s t : Ty) → underlying p.names s ≡ ty.pointer t → Applies p op.at_pointer (a_value s ∷ []) (a_place t ∷ [])
  field_applies : (t : Ty) (n : ℕ) (f : FieldTy) → field_in (underlying p.names t) n ≡ Some f → Applies p (op.at_field t n) (a_place t ∷ []) (a_place f.type_ ∷ [])
  elem_applies : (t i u : Ty) (n : ℕ) → underlying p.names t ≡ ty.array n u → IsInt (underlying p.names i)
      → Applies p (op.at_elem t) (a_place t ∷ a_value i ∷ []) (a_place u ∷ [])
  slice_elem_applies : (t i u : Ty) → underlying p.names t ≡ ty.slice u → IsInt (underlying p.names i)
      → Applies p (op.at_slice_elem t) (a_value t ∷ a_value i ∷ []) (a_place u ∷ [])
  read_applies : (t : Ty) → Applies p (op.read_place t) (a_place t ∷ []) (a_value t ∷ [])
  address_applies : (t : Ty) → Applies p op.to_address (a_place t ∷ []) (a_value (ty.pointer t) ∷ [])
  -- the address of a place is no nil pointer
  place_applies : (t : Ty) → Applies p op.to_address (a_place t ∷ []) (a_place t ∷ [])
  unary_applies : (o : Op) (t : Ty) → IsInt (underlying p.names t) → Applies p (op.to_unary o t) (a_value t ∷ []) (a_value t ∷ [])
  binary_applies : (o : Op) (t u : Ty) → IsInt (underlying p.names t) → IsInt (underlying p.names u)
      → Applies p (op.to_binary o t) (a_value t ∷ a_value u ∷ []) (a_value t ∷ [])
  concat_applies : (t : Ty) → IsText (underlying p.names t) → Applies p op.to_concat (a_value t ∷ a_value t ∷ []) (a_value t ∷ [])
  not_applies : (t : Ty) → IsBool (underlying p.names t) → Applies p op.to_not (a_value t ∷ []) (a_value t ∷ [])
  equal_applies : (negated : Bool) (t u : Ty) → IsBool (underlying p.names u)
      → Applies p (op.to_equal negated t) (a_value t ∷ a_value t ∷ []) (a_value u ∷ [])
  less_applies : (o : Op) (t u : Ty) → IsOrdered (underlying p.names t) → IsBool (underlying p.names u)
      → Applies p (op.to_less o t) (a_value t ∷ a_value t ∷ []) (a_value u ∷ [])
  convert_applies : (from t : Ty) → IsConversion p from t → Applies p (op.to_converted from t) (a_value from ∷ []) (a_value t ∷ [])
  byte_applies : (s i : Ty) → IsText (underlying p.names s) → IsInt (underlying p.names i)
      → Applies p op.to_byte (a_value s ∷ a_value i ∷ []) (a_value (ty.int integer.Uint8) ∷ [])
  slice_applies : (from t : Ty) (low high limit : Bool) (l h k : Ty) → IsInt (underlying p.names l) → IsInt (underlying p.names h) → IsInt (underlying p.names k)
      → SlicesTo p (underlying p.names from) from t
      → Applies p (op.to_slice from low high limit) (a_value from ∷ slot_if low l ++ slot_if high h ++ slot_if limit k) (a_value t ∷ [])
  build_applies : (t : Ty) (count : ℕ) (is : List ℕ) (us : List Ty) → BuildsParts p t count is us → IsBuilt (underlying p.names t)
      → Applies p (op.to_built t count is) (values_of_types us) (a_value t ∷ [])
  build_map_applies : (t k v : Ty) (n : ℕ) → underlying p.names t ≡ ty.mapping k v → Applies p (op.to_built_map t) (pair_slots n k v) (a_value t ∷ [])
  bind_applies : (n : MethodName) (t : Ty) → HasMethodType p n t → Applies p (op.to_bound n) (a_value n.type_ ∷ []) (a_value t ∷ [])
  bind_dynamic_applies : (name package_ : List ℕ) (i t : Ty) → IsSignature (method_in name package_ (underlying p.names i)) t
      → Applies p (op.to_bound_dynamic name package_) (a_value i ∷ []) (a_value t ∷ [])
  get_applies : (t k v : Ty) (ok : Bool) → underlying p.names t ≡ ty.mapping k v
      → Applies p (op.get_entry t ok) (a_value t ∷ a_value k ∷ []) (values_of_types (with_truth ok (Some v)))
  delete_applies : (t k v : Ty) → underlying p.names t ≡ ty.mapping k v → Applies p (op.delete_entry t) (a_value t ∷ a_value k ∷ []) []
  len_applies : (from : Ty) → HasLength p (underlying p.names from) → Applies p (op.to_len from) (a_value from ∷ []) (a_value int_type ∷ [])
  cap_applies : (from : Ty) → HasCapacity p (underlying p.names from) → Applies p (op.to_cap from) (a_value from ∷ []) (a_value int_type ∷ [])
  append_applies : (t from : Ty) → GoesInto p (underlying p.names t) (underlying p.names from)
      → Applies p (op.to_appended t) (a_value t ∷ a_value from ∷ []) (a_value t ∷ [])
  copy_applies : (t from : Ty) → GoesInto p (underlying p.names t) (underlying p.names from)
      → Applies p (op.to_copied t) (a_value t ∷ a_value from ∷ []) (a_value int_type ∷ [])
  new_slice_applies : (t i : Ty) (with_capacity : Bool) (k : Ty) → IsInt (underlying p.names i) → IsInt (underlying p.names k) → IsSlice (underlying p.names t)
      → Applies p (op.to_new_slice t) (a_value i ∷ slot_if with_capacity k) (a_value t ∷ [])
  new_map_applies : (t : Ty) (with_count : Bool) (k : Ty) → IsInt (underlying p.names k) → IsMap (underlying p.names t)
      → Applies p op.to_new_map (slot_if with_count k) (a_value t ∷ [])
  new_channel_applies : (t : Ty) (with_capacity : Bool) (k : Ty) → IsInt (underlying p.names k) → IsChannel (underlying p.names t)
      → Applies p op.to_new_channel (slot_if with_capacity k) (a_value t ∷ [])
  new_applies : (t : Ty) → Applies p (op.to_new t) [] (a_value (ty.pointer t) ∷ [])
  wrap_applies : (from t : Ty) → AnswersTo p from (underlying p.names t) → Applies p (op.to_interface from) (a_value from ∷ []) (a_value t ∷ [])
  assert_applies : (i t : Ty) (ok : Bool) → IsInterface (underlying p.names i)
      → Applies p (op.to_asserted t ok) (a_value i ∷ []) (values_of_types (with_truth ok (Some t)))
  basic_applies : (t : Ty) → underlying p.names t ≡ empty_interface → Applies p op.to_basic (a_value t ∷ []) (a_value t ∷ [])
  gate_applies : Applies p op.to_gate (a_place (ty.pointer int_type) ∷ []) (a_place int_type ∷ [])

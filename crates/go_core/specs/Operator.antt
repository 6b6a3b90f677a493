-- Go specification (as of Go 1.17), "Expressions", "Order of evaluation": the kinds of nodes whose step looks at
-- its operands and the memory alone, one line each.
use Rattle.std.specs.Prelude.{ℕ, pos, List, [], ◌∷◌, Bool}
use Rattle.gj_base.specs.declared.kind.Op.{Op}
use Rattle.go_type.specs.Tree.{Ty}
use Rattle.go_type.specs.Underlying.{underlying}
use Rattle.go_core.specs.Layout.{shape_of}
use Rattle.go_core.specs.Memory as cell
use Rattle.go_core.specs.Memory.{Value, Memory}
use Rattle.go_core.specs.CoreTree.{Constant, MethodName, CoreProgram}
use Rattle.go_core.specs.Equality.{compared}
use Rattle.go_core.specs.Did.{Did, gives, no_step, value_of, on_none, on_one, on_two, on_place}
use Rattle.go_core.specs.StepNumbers.{unary_step, binary_step, concat_step, not_step, equal_step, less_step, convert_step}
use Rattle.go_core.specs.StepMemory.{global_base, constant_step, zero_step, deref_step, field_step, elem_step, slice_elem_step, read_step, byte_at_step, new_step, build_step}
use Rattle.go_core.specs.StepSlices.{slice_step, append_step, copy_step, make_slice_step, make_map_step, make_channel_step, len_step, cap_step}
use Rattle.go_core.specs.StepMaps.{map_get_step, map_delete_step, build_map_step}
use Rattle.go_core.specs.StepInterfaces.{wrap_step, assert_step, basic_step, bind_step, bind_dynamic_step}

pub data Operator : Type 0 where
  give_constant : (value : Constant) → Operator
  give_zero : (type_ : Ty) → Operator
  at_global : (number : ℕ) → Operator
  at_pointer : Operator
  at_field : (struct_type : Ty) (number : ℕ) → Operator
  at_elem : (array_type : Ty) → Operator
  at_slice_elem : (slice_type : Ty) → Operator
  read_place : (type_ : Ty) → Operator
  -- a place is given as the pointer to it already
  to_address : Operator
  to_unary : (op : Op) (type_ : Ty) → Operator
  to_binary : (op : Op) (type_ : Ty) → Operator
  to_concat : Operator
  to_not : Operator
  to_equal : (negated : Bool) (operands : Ty) → Operator
  to_less : (op : Op) (operands : Ty) → Operator
  to_converted : (from to : Ty) → Operator
  to_byte : Operator
  to_slice : (from : Ty) (has_low has_high has_limit : Bool) → Operator
  to_built : (type_ : Ty) (count : ℕ) (indexes : List ℕ) → Operator
  to_built_map : (type_ : Ty) → Operator
  to_bound : (method : MethodName) → Operator
  to_bound_dynamic : (name package_ : List ℕ) → Operator
  get_entry : (map_type : Ty) (ok : Bool) → Operator
  delete_entry : (map_type : Ty) → Operator
  to_len : (from : Ty) → Operator
  to_cap : (from : Ty) → Operator
  to_appended : (type_ : Ty) → Operator
  to_copied : (type_ : Ty) → Operator
  to_new_slice : (type_ : Ty) → Operator
  to_new_map : Operator
  to_new_channel : Operator
  to_new : (type_ : Ty) → Operator
  to_interface : (from : Ty) → Operator
  to_asserted : (type_ : Ty) (ok : Bool) → Operator
  to_basic : Operator
  to_gate : Operator

-- what a hidden pointer holds: the gate's cell, which is made where there is none
abbrev pub gate_at : ℕ → Value → Memory → Did
gate_at base (cell.pointer gate ∷ []) m = value_of m (cell.pointer gate) 1
gate_at base (cell.nil ∷ []) m =
    value_of (cell.with_fresh (cell.with_written m base (cell.pointer (cell.next_base m) ∷ [])) (cell.whole (pos 0) ∷ [])) (cell.pointer (cell.next_base m)) 1
gate_at base _ m = no_step

abbrev pub gate_step : Value → Memory → Did
gate_step p m = on_place p λ base. gate_at base (cell.read_cells base 1 m.cells) m

-- with the capacity that a growing append wants, where Go leaves it open
module _ (p : CoreProgram) (wanted : ℕ) where
  -- a step of this kind, with these operands, from the left
  abbrev pub operated : Operator → List Value → Memory → Did
  operated (give_constant c) vs m = on_none vs (constant_step c m)
  operated (give_zero t) vs m = on_none vs (zero_step (shape_of p.names t) m)
  operated (at_global n) vs m = on_none vs (value_of m (cell.pointer (global_base p.names p.globals n)) 0)
  operated at_pointer vs m = on_one vs λ x. deref_step x m
  operated (at_field t n) vs m = on_one vs λ x. field_step (shape_of p.names t) n x m
  operated (at_elem t) vs m = on_two vs λ x i. elem_step p.names (underlying p.names t) x i m
  operated (at_slice_elem t) vs m = on_two vs λ x i. slice_elem_step p.names (underlying p.names t) x i m
  operated (read_place t) vs m = on_one vs λ x. read_step (shape_of p.names t) x m
  operated to_address vs m = on_one vs λ x. gives (x ∷ []) m 0
  operated (to_unary op t) vs m = on_one vs λ x. unary_step p.names op t x m
  operated (to_binary op t) vs m = on_two vs λ x y. binary_step p.names op t x y m
  operated to_concat vs m = on_two vs λ x y. concat_step x y m
  operated to_not vs m = on_one vs λ x. not_step x m
  operated (to_equal negated t) vs m = on_two vs λ x y. equal_step negated (compared p.names t x y) m
  operated (to_less op t) vs m = on_two vs λ x y. less_step op (underlying p.names t) x y m
  operated (to_converted from to) vs m = on_one vs λ x. convert_step p.names from to x m
  operated to_byte vs m = on_two vs λ x i. byte_at_step x i m
  operated (to_slice from has_low has_high has_limit) vs m = slice_step p.names from has_low has_high has_limit vs m
  operated (to_built t count indexes) vs m = build_step p.names t (underlying p.names t) count indexes vs m
  operated (to_built_map t) vs m = build_map_step p.names (underlying p.names t) vs m
  operated (to_bound n) vs m = on_one vs λ x. bind_step p n x m
  operated (to_bound_dynamic name package_) vs m = on_one vs λ x. bind_dynamic_step p name package_ x m
  operated (get_entry t ok) vs m = on_two vs λ x key. map_get_step p.names (underlying p.names t) ok x key m
  operated (delete_entry t) vs m = on_two vs λ x key. map_delete_step p.names (underlying p.names t) x key m
  operated (to_len from) vs m = on_one vs λ x. len_step p.names from x m
  operated (to_cap from) vs m = on_one vs λ x. cap_step p.names from x m
  operated (to_appended t) vs m = on_two vs λ x y. append_step p.names (underlying p.names t) wanted x y m
  operated (to_copied t) vs m = on_two vs λ x y. copy_step p.names (underlying p.names t) x y m
  operated (to_new_slice t) vs m = make_slice_step p.names (underlying p.names t) vs m
  operated to_new_map vs m = make_map_step vs m
  operated to_new_channel vs m = make_channel_step vs m
  operated (to_new t) vs m = on_none vs (new_step (shape_of p.names t) m)
  operated (to_interface from) vs m = on_one vs λ x. wrap_step p.names from x m
  operated (to_asserted t ok) vs m = on_one vs λ x. assert_step p t ok x m
  operated to_basic vs m = on_one vs λ x. basic_step p.names x m
  operated to_gate vs m = on_one vs λ x. gate_step x m

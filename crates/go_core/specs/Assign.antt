-- Go specification (as of Go 1.17), "Assignments", "Variable declarations": variables, and both phases of an
-- assignment. own: checks of a left side come in the second phase, from left to right.
use Rattle.std.specs.Prelude.{ℕ, suc, ◌+◌, List, [], ◌∷◌, Option, Some, None, length, slice_get}
use Rattle.go_type.specs.Tree.{Ty}
use Rattle.go_type.specs.Underlying.{underlying}
use Rattle.go_core.specs.Layout.{shape_of, weight}
use Rattle.go_core.specs.Memory as cell
use Rattle.go_core.specs.Memory.{Value, Memory, zeros, with_written}
use Rattle.go_core.specs.CoreTree as core
use Rattle.go_core.specs.CoreTree.{Var, Target, CorePlace, PackageVar, CoreProgram}
use Rattle.go_core.specs.RunPanic.{RunPanic}
use Rattle.go_core.specs.Did.{Did, gives, panics, no_step}
use Rattle.go_core.specs.StepMemory.{global_base, deref_step, field_step, elem_step, slice_elem_step}
use Rattle.go_core.specs.StepMaps.{map_set_step}
use Rattle.go_core.specs.Goroutine.{assign_rest, Frame, Place, State, base_in, moved, with_memory}
use Rattle.go_core.specs.Frames.{panic_step, on_operands}
use Rattle.go_core.specs.Calls.{Bindings, with_var, with_vars}

-- a place among operands that have been evaluated, and the operands after its own
pub data Found : Type 0 where
  found : (base : ℕ) (others : List Value) → Found
  fails : (panic : RunPanic) → Found
  lost : Found

abbrev pub found_with : Did → List Value → Found
found_with (gives ((cell.pointer base ∷ []) ∷ []) m units) others = found base others
found_with (panics q units) others = fails q
found_with _ others = lost

-- how many places, one in another
abbrev pub depth : CorePlace → ℕ
depth (core.local_ v) = 1
depth (core.global n) = 1
depth (core.deref e) = 1
depth (core.field t n place) = suc (depth place)
depth (core.elem t place i) = suc (depth place)
depth (core.slice_elem t e i) = 1

module _ (p : CoreProgram) (places : List Place) (m : Memory) where
  abbrev pub local_found : Option ℕ → List Value → Found
  local_found None vs = lost
  local_found (Some base) vs = found base vs

  abbrev pub in_field : Ty → ℕ → Found → Found
  in_field t n (found base vs) = found_with (field_step (shape_of p.names t) n (cell.pointer base ∷ []) m) vs
  in_field t n other = other

  abbrev pub in_elem : Ty → Found → Found
  in_elem t (found base (i ∷ vs)) = found_with (elem_step p.names (underlying p.names t) (cell.pointer base ∷ []) i m) vs
  in_elem t (found base []) = lost
  in_elem t other = other

  -- each place as a step of its kind would give it
  abbrev pub found_place : CorePlace → List Value → Found
  found_place (core.local_ v) vs = local_found (base_in v places) vs
  found_place (core.global n) vs = found (global_base p.names p.globals n) vs
  found_place (core.deref e) (x ∷ vs) = found_with (deref_step x m) vs
  found_place (core.deref e) [] = lost
  found_place (core.field t n place) vs = in_field t n (found_place place vs)
  found_place (core.elem t place i) vs = in_elem t (found_place place vs)
  found_place (core.slice_elem t e i) (x ∷ y ∷ vs) = found_with (slice_elem_step p.names (underlying p.names t) x y m) vs
  found_place (core.slice_elem t e i) _ = lost

module _ (p : CoreProgram) (g : ℕ) where
  -- what remains of the assignment comes first
  abbrev pub rest_first : List Target → List Value → List Value → Frame → Frame
  rest_first [] operands values f = f
  rest_first (t ∷ ts) operands values f = record f { tasks = assign_rest (t ∷ ts) operands values ∷ f.tasks }

  abbrev pub stored_at : Found → Ty → ℕ → List Target → Value → List Value → Frame → List Frame → State → Option State
  stored_at (found base others) t nodes ts x xs f below s =
      Some (with_memory (with_written s.memory base x) (moved g (rest_first ts others xs f ∷ below) (1 + nodes + weight (shape_of p.names t)) s))
  stored_at (fails q) t nodes ts x xs f below s = panic_step p.hidden g q nodes f below s
  stored_at lost t nodes ts x xs f below s = None

  abbrev pub entry_stored : Did → List Target → List Value → List Value → Frame → List Frame → State → Option State
  entry_stored (gives vs m units) ts others xs f below s =
      Some (with_memory m (moved g (rest_first ts others xs f ∷ below) (1 + units) s))
  entry_stored (panics q units) ts others xs f below s = panic_step p.hidden g q units f below s
  entry_stored no_step ts others xs f below s = None

  -- "Assignments", the second phase: the next left side takes the next value
  abbrev pub assign_step : List Target → List Value → List Value → Frame → List Frame → State → Option State
  assign_step [] operands values f below s = Some (moved g (f ∷ below) 1 s)
  assign_step (core.blank ∷ ts) operands (x ∷ xs) f below s = Some (moved g (rest_first ts operands xs f ∷ below) 1 s)
  assign_step (core.to_place t place ∷ ts) operands (x ∷ xs) f below s =
      stored_at (found_place p f.places s.memory place operands) t (depth place) ts x xs f below s
  assign_step (core.to_entry t e key ∷ ts) (y ∷ k ∷ others) (x ∷ xs) f below s =
      entry_stored (map_set_step p.names (underlying p.names t) y k x s.memory) ts others xs f below s
  assign_step _ operands values f below s = None

  abbrev pub operand_count : CorePlace → ℕ
  operand_count (core.local_ v) = 0
  operand_count (core.global n) = 0
  operand_count (core.deref e) = 1
  operand_count (core.field t n place) = operand_count place
  operand_count (core.elem t place i) = suc (operand_count place)
  operand_count (core.slice_elem t e i) = 2

  abbrev pub target_operands : List Target → ℕ
  target_operands [] = 0
  target_operands (core.blank ∷ ts) = target_operands ts
  target_operands (core.to_place t place ∷ ts) = operand_count place + target_operands ts
  target_operands (core.to_entry t e key ∷ ts) = 2 + target_operands ts

  abbrev pub begin_assign : List Target → ℕ → Frame → List Frame → State → Option State
  begin_assign ts n f below s =
      on_operands n f λ xs f'. on_operands (target_operands ts) f' λ operands f''. assign_step ts operands xs f'' below s

  -- "Variable declarations": a fresh variable at each execution
  abbrev pub bound_step : Option Bindings → Frame → List Frame → State → Option State
  bound_step None f below s = None
  bound_step (Some b) f below s = Some (with_memory b.memory (moved g (record f { places = b.places } ∷ below) (1 + b.units) s))

  abbrev pub bindings : Frame → State → Bindings
  bindings f s = record { places = f.places; memory = s.memory; units = 0 }

  abbrev pub declare_step : Var → Frame → List Frame → State → Option State
  declare_step v f below s = bound_step (Some (with_var p.names v (zeros (shape_of p.names v.type_)) (bindings f s))) f below s

  abbrev pub bind_step : List Var → Frame → List Frame → State → Option State
  bind_step vs f below s = on_operands (length vs) f λ xs f'. bound_step (with_vars p.names vs xs (bindings f' s)) f' below s

  -- "Package initialization": package variables take their values
  abbrev pub set_global_cells : List ℕ → List Value → Memory → Memory
  set_global_cells (n ∷ ns) (x ∷ xs) m = set_global_cells ns xs (with_written m (global_base p.names p.globals n) x)
  set_global_cells _ _ m = m

  abbrev pub global_weights : List ℕ → ℕ
  global_weights [] = 0
  global_weights (n ∷ ns) = of_variable (slice_get p.globals n) + global_weights ns
    where
      of_variable : Option PackageVar → ℕ
      of_variable None = 0
      of_variable (Some x) = weight (shape_of p.names x.type_)

  abbrev pub set_globals_step : List ℕ → Frame → List Frame → State → Option State
  set_globals_step ns f below s =
      on_operands (length ns) f λ xs f'. Some (with_memory (set_global_cells ns xs s.memory) (moved g (f' ∷ below) (1 + global_weights ns) s))

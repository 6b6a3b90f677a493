-- Go specification (as of Go 1.17), "Calls", "Function literals", "Method values", "Return statements", "Go
-- statements", "Defer statements": new frames and results.
use Rattle.std.specs.Prelude.{ℕ, zero, suc, ◌+◌, List, [], ◌∷◌, ◌++◌, if◌then◌else◌, Option, Some, None, slice_get, take, drop, length, option_and_then}
use Rattle.go_type.specs.Tree.{pointer}
use Rattle.go_type.specs.Named.{NamedTy}
use Rattle.go_core.specs.Layout.{shape_of, size, weight}
use Rattle.go_core.specs.SameType.{same_type}
use Rattle.go_core.specs.Memory as cell
use Rattle.go_core.specs.Memory.{Scalar, Value, Memory, listed, zeros, next_base, with_fresh, with_written, read_cells}
use Rattle.go_core.specs.CoreTree.{Var, CoreFunc, MethodRow, CoreProgram}
use Rattle.go_core.specs.RunPanic.{nil_used}
use Rattle.go_core.specs.StepInterfaces.{row_of}
use Rattle.go_core.specs.Opened.{all_opened, type_count}
use Rattle.go_core.specs.Goroutine.{Task, push_value, receive_through, Called, the_function, the_method, the_value, the_dynamic, Invocation, invoke, nothing_to_invoke, normal, returning, Purpose, called, Place, Frame, able, State, base_in, moved, with_memory}
use Rattle.go_core.specs.Frames.{panic_step, on_operands, on_operand}

-- variables with their bases, and the memory that holds them
pub record Bindings : Type 0 where
  pub places : List Place
  pub memory : Memory
  pub units : ℕ

-- a fresh variable with a value
abbrev pub with_var : List NamedTy → Var → Value → Bindings → Bindings
with_var ns v x b = record {
  places = record { var = v.id; base = next_base b.memory } ∷ b.places;
  memory = with_fresh b.memory x;
  units = b.units + weight (shape_of ns v.type_);
}

-- fresh variables with values, one each
abbrev pub with_vars : List NamedTy → List Var → List Value → Bindings → Option Bindings
with_vars ns [] [] b = Some b
with_vars ns (v ∷ vs) (x ∷ xs) b = with_vars ns vs xs (with_var ns v x b)
with_vars ns _ _ b = None

abbrev pub with_zeros : List NamedTy → List Var → Bindings → Bindings
with_zeros ns [] b = b
with_zeros ns (v ∷ vs) b = with_zeros ns vs (with_var ns v (zeros (shape_of ns v.type_)) b)

abbrev pub captured_places : List ℕ → List ℕ → List Place
captured_places (v ∷ vs) (b ∷ bs) = record { var = v; base = b } ∷ captured_places vs bs
captured_places _ _ = []

-- ---- receivers: a row's function may take the value where the row's type is its pointer, or the pointer where the row's type is the value

pub data Receiver : Type 0 where
  as_it_is : Receiver
  -- read through the pointer, as the new frame's first step
  through : (var : Var) → Receiver
  -- a pointer to a fresh copy
  to_a_copy : Receiver

abbrev pub receiver_of : Option MethodRow → List Var → Receiver
receiver_of (Some r) (v ∷ vs) =
    if same_type r.type_ (pointer v.type_) then through v
    else (if same_type v.type_ (pointer r.type_) then to_a_copy else as_it_is)
receiver_of _ _ = as_it_is

-- the operands as the function takes them, what the frame does first, and the memory
pub record Adapted : Type 0 where
  pub operands : List Value
  pub first : List Task
  pub memory : Memory

abbrev pub adapted : List NamedTy → Receiver → List Value → Memory → Adapted
adapted ns (through v) (x ∷ xs) m =
    record { operands = zeros (shape_of ns v.type_) ∷ xs; first = push_value x ∷ receive_through v ∷ []; memory = m }
adapted ns to_a_copy (x ∷ xs) m =
    record { operands = (cell.pointer (next_base m) ∷ []) ∷ xs; first = []; memory = with_fresh m x }
adapted ns _ xs m = record { operands = xs; first = []; memory = m }

-- ---- a new frame

pub record Entered : Type 0 where
  pub frame : Frame
  pub memory : Memory
  -- the size of parameters and results
  pub units : ℕ

abbrev pub result_vars : CoreFunc → ℕ → List Var
result_vars f n = take (type_count f.results) (drop n f.vars)

abbrev pub frame_of : ℕ → CoreFunc → Purpose → List Task → List Var → Bindings → Entered
frame_of func f purpose first results b = record {
  frame = record {
    func = Some func;
    tasks = first ++ all_opened f.body [];
    values = [];
    places = b.places;
    deferred_calls = [];
    results = results;
    mode = normal;
    purpose = purpose;
  };
  memory = b.memory;
  units = b.units;
}

abbrev pub with_results : List NamedTy → ℕ → CoreFunc → Purpose → Adapted → Option Bindings → Option Entered
with_results ns func f purpose a None = None
with_results ns func f purpose a (Some b) =
    let results = result_vars f (length a.operands) in
    Some (frame_of func f purpose a.first results (with_zeros ns results b))

abbrev pub entered_with : List NamedTy → ℕ → CoreFunc → List ℕ → Purpose → Adapted → Option Entered
entered_with ns func f bases purpose a =
    with_results ns func f purpose a
    (with_vars ns (take (length a.operands) f.vars) a.operands (record { places = captured_places f.captured bases; memory = a.memory; units = 0 }))

abbrev pub row_at : CoreProgram → Option ℕ → Option MethodRow
row_at p None = None
row_at p (Some k) = slice_get p.methods k

abbrev pub entered_at : CoreProgram → ℕ → Option CoreFunc → List ℕ → Option ℕ → List Value → Purpose → Memory → Option Entered
entered_at p func None bases row vs purpose m = None
entered_at p func (Some f) bases row vs purpose m =
    entered_with p.names func f bases purpose (adapted p.names (receiver_of (row_at p row) f.vars) vs m)

-- parameters hold the operands, and results are zero
abbrev pub entered : CoreProgram → ℕ → List ℕ → Option ℕ → List Value → Purpose → Memory → Option Entered
entered p func bases row vs purpose m = entered_at p func (slice_get p.funcs func) bases row vs purpose m

-- ---- what is called

pub data Resolved : Type 0 where
  ready : (func : ℕ) (bases : List ℕ) (row : Option ℕ) (operands : List Value) → Resolved
  nil_function : Resolved
  nil_interface : Resolved
  unresolved : Resolved

abbrev pub bases_of : List ℕ → List Place → Option (List ℕ)
bases_of [] places = Some []
bases_of (v ∷ vs) places = option_and_then (λ b. option_and_then (λ bs. Some (b ∷ bs)) (bases_of vs places)) (base_in v places)

abbrev pub captured_by : CoreProgram → ℕ → List Place → Option (List ℕ)
captured_by p func places = option_and_then (λ (f : CoreFunc). bases_of f.captured places) (slice_get p.funcs func)

abbrev pub function_with : ℕ → List Value → Option (List ℕ) → Resolved
function_with func vs None = unresolved
function_with func vs (Some bases) = ready func bases None vs

-- by the row at a place
abbrev pub row_with : List Value → ℕ → Option MethodRow → Resolved
row_with vs k None = unresolved
row_with vs k (Some r) = ready r.func [] (Some k) vs

abbrev pub method_with : CoreProgram → List Value → Option ℕ → Resolved
method_with p vs None = unresolved
method_with p vs (Some k) = row_with vs k (slice_get p.methods k)

abbrev pub resolved : CoreProgram → Called → List Place → List Value → Resolved
resolved p (the_function func) places vs = function_with func vs (captured_by p func places)
resolved p (the_method n) places vs = method_with p vs (row_of p n)
resolved p the_value places ((cell.function func bases ∷ []) ∷ vs) = ready func bases None vs
resolved p the_value places ((cell.bound_method row receiver ∷ []) ∷ vs) = method_with p (listed receiver ∷ vs) (Some row)
resolved p the_value places ((cell.nil ∷ []) ∷ vs) = nil_function
resolved p (the_dynamic name package_) places ((cell.interface t xs ∷ []) ∷ vs) =
    method_with p (listed xs ∷ vs) (row_of p (record { type_ = t; name = name; package_ = package_ }))
resolved p (the_dynamic name package_) places ((cell.nil ∷ []) ∷ vs) = nil_interface
resolved p _ places vs = unresolved

module _ (p : CoreProgram) (g : ℕ) where
  abbrev pub entered_above : Option Entered → Frame → List Frame → State → Option State
  entered_above None f below s = None
  entered_above (Some e) f below s = Some (with_memory e.memory (moved g (e.frame ∷ f ∷ below) (1 + e.units) s))

  -- "Calls": a nil function, and a method of a nil interface value, panic
  abbrev pub called_step : Resolved → Frame → List Frame → State → Option State
  called_step (ready func bases row vs) f below s = entered_above (entered p func bases row vs called s.memory) f below s
  called_step nil_function f below s = panic_step p.hidden g nil_used 0 f below s
  called_step nil_interface f below s = panic_step p.hidden g nil_used 0 f below s
  called_step unresolved f below s = None

  abbrev pub call_step : Called → ℕ → Frame → List Frame → State → Option State
  call_step c n f below s = on_operands n f λ vs f'. called_step (resolved p c f'.places vs) f' below s

  -- "Go statements": a new goroutine
  abbrev pub started : Option Entered → Frame → List Frame → State → Option State
  started None f below s = None
  started (Some e) f below s =
      let s' = with_memory e.memory (moved g (f ∷ below) (1 + e.units) s) in
      Some (record s' { goroutines = s'.goroutines ++ record { frames = e.frame ∷ []; waiting = able } ∷ [] })

  abbrev pub go_resolved : Resolved → Frame → List Frame → State → Option State
  go_resolved (ready func bases row vs) f below s = started (entered p func bases row vs called s.memory) f below s
  go_resolved nil_function f below s = panic_step p.hidden g nil_used 0 f below s
  go_resolved nil_interface f below s = panic_step p.hidden g nil_used 0 f below s
  go_resolved unresolved f below s = None

  abbrev pub go_step : Called → ℕ → Frame → List Frame → State → Option State
  go_step c n f below s = on_operands n f λ vs f'. go_resolved (resolved p c f'.places vs) f' below s

  -- the size of values of these variables' types
  abbrev pub weights : List Var → ℕ
  weights [] = 0
  weights (v ∷ vs) = weight (shape_of p.names v.type_) + weights vs

  -- the size of what a function takes and gives
  abbrev pub frame_weights : Option CoreFunc → ℕ → ℕ
  frame_weights None n = 0
  frame_weights (Some f) n = weights (take n f.vars) + weights (result_vars f n)

  -- "Defer statements": the last one that is deferred comes first. It pays for parameters and results here
  abbrev pub with_deferred : Invocation → ℕ → Frame → List Frame → State → Option State
  with_deferred i units f below s = Some (moved g (record f { deferred_calls = i ∷ f.deferred_calls } ∷ below) (1 + units) s)

  abbrev pub defer_resolved : Resolved → Frame → List Frame → State → Option State
  defer_resolved (ready func bases row vs) f below s = with_deferred (invoke func bases row vs) (frame_weights (slice_get p.funcs func) (length vs)) f below s
  defer_resolved nil_function f below s = with_deferred nothing_to_invoke 0 f below s
  defer_resolved nil_interface f below s = panic_step p.hidden g nil_used 0 f below s
  defer_resolved unresolved f below s = None

  abbrev pub defer_step : Called → ℕ → Frame → List Frame → State → Option State
  defer_step c n f below s = on_operands n f λ vs f'. defer_resolved (resolved p c f'.places vs) f' below s

  abbrev pub receiver_read : Var → ℕ → Option ℕ → Frame → List Frame → State → Option State
  receiver_read v base None f below s = None
  receiver_read v base (Some own_base) f below s =
      let t = shape_of p.names v.type_ in
      Some (with_memory (with_written s.memory own_base (read_cells base (size t) s.memory.cells)) (moved g (f ∷ below) (1 + weight t) s))

  abbrev pub read_through : Var → List Frame → State → Value → Frame → Option State
  read_through v below s (cell.pointer base ∷ []) f = receiver_read v base (base_in v.id f.places) f below s
  read_through v below s (cell.nil ∷ []) f = panic_step p.hidden g nil_used 0 f below s
  read_through v below s _ f = None

  -- the receiver is read through the pointer; through nil it panics
  abbrev pub receive_through_step : Var → Frame → List Frame → State → Option State
  receive_through_step v f below s = on_operand f (read_through v below s)

  -- ---- results

  abbrev pub with_stored : List Var → List Value → List Place → Memory → Option Memory
  with_stored [] [] places m = Some m
  with_stored (v ∷ vs) (x ∷ xs) places m =
      option_and_then (λ b. with_stored vs xs places (with_written m b x)) (base_in v.id places)
  with_stored _ _ places m = None

  -- "Return statements": the results are set, then the deferred calls are due; a bare return leaves them
  abbrev pub returned_with : Option Memory → ℕ → Frame → List Frame → State → Option State
  returned_with None units f below s = None
  returned_with (Some m) units f below s =
      Some (with_memory m (moved g (record f { tasks = []; values = []; mode = returning } ∷ below) (1 + units) s))

  abbrev pub return_step : ℕ → Frame → List Frame → State → Option State
  return_step zero f below s = returned_with (Some s.memory) 0 f below s
  return_step (suc n) f below s =
      on_operands (suc n) f λ vs f'. returned_with (with_stored f'.results vs f'.places s.memory) (weights f'.results) f' below s

  -- what the results are
  abbrev pub results_of : List Var → List Place → Memory → Option (List Value)
  results_of [] places m = Some []
  results_of (v ∷ vs) places m =
      option_and_then (λ b. option_and_then (λ xs. Some (read_cells b (size (shape_of p.names v.type_)) m.cells ∷ xs)) (results_of vs places m)) (base_in v.id places)

-- Go specification (as of Go 1.17), "Go statements", "Defer statements", "Program execution": goroutines, their
-- frames, and what remains of a frame's body, as a list of tasks.
use Rattle.std.specs.Prelude.{ℕ, zero, suc, ◌+◌, List, [], ◌∷◌, Bool, Option, Some, None, ◌==◌, if◌then◌else◌, slice_set}
use Rattle.go_type.specs.Tree.{Ty}
use Rattle.go_core.specs.Memory.{Scalar, Value, Memory}
use Rattle.go_core.specs.CoreTree.{Expr, Bound, Stmts, Tests, Clauses, Target, BranchKind, Var, MethodName}
use Rattle.go_core.specs.Operator.{Operator}

-- what is called, where its operands have been evaluated
pub data Called : Type 0 where
  the_function : (func : ℕ) → Called
  the_method : (name : MethodName) → Called
  -- the first value is the function
  the_value : Called
  -- the first value is the interface value
  the_dynamic : (name package_ : List ℕ) → Called

-- how far a range has come
pub data Cursor : Type 0 where
  -- so many numbers
  numbers : (next count : ℕ) → Cursor
  -- the elements of an array's copy
  copied : (next : ℕ) (left : Value) → Cursor
  -- the elements that lie from a base on
  elements : (next count base : ℕ) → Cursor
  -- characters of what is left of a text
  characters : (offset : ℕ) (left : List ℕ) → Cursor
  -- a map's entries: those of these births have been produced, and those from this birth on were born since
  entries : (map : Option ℕ) (produced : List ℕ) (since : ℕ) → Cursor

-- what a range goes over, and where its key and value go
pub record Ranged : Type 0 where
  pub label : ℕ
  pub from : Ty
  pub key : Option Var
  pub value : Option Var
  pub body : Stmts

-- a clause of a select that receives has fresh variables
pub data CaseKind : Type 0 where
  case_sends : (channel : Ty) → CaseKind
  case_receives : (channel : Ty) (vars : List Var) → CaseKind

pub record Case : Type 0 where
  pub kind : CaseKind
  pub body : Stmts

-- what a frame has to do next; `count` values are taken from the stack
pub data Task : Type 0 where
  operate : (operator : Operator) (count : ℕ) → Task
  at_local : (var : ℕ) → Task
  make_closure : (func : ℕ) → Task
  -- the right side only where the left one is true
  only_where_true : (right : Expr) → Task
  only_where_false : (right : Expr) → Task
  -- fresh variables take the values
  bind_vars : (vars : List Var) → Task
  -- values are dropped, which is no step
  drop_values : (count : ℕ) → Task
  -- a value that is there already, which is no step
  push_value : (value : Value) → Task
  declare_var : (var : Var) → Task
  -- operands of the left sides and the right sides have been evaluated
  assign : (targets : List Target) (values : ℕ) → Task
  assign_rest : (targets : List Target) (operands values : List Value) → Task
  -- package variables take the values
  set_globals : (numbers : List ℕ) → Task
  choose : (when_true when_false : Stmts) → Task
  -- the condition of a loop has been evaluated
  turn : (label : ℕ) (condition : Bound) (body post : Stmts) → Task
  -- a turn of a loop is done
  turn_again : (label : ℕ) (condition : Bound) (body post : Stmts) → Task
  -- a test of a switch has been evaluated
  choose_clause : (clause : ℕ) (others : Tests) (clauses : Clauses) (default_ : Option ℕ) → Task
  choose_default : (clauses : Clauses) (default_ : Option ℕ) → Task
  begin_range : (range : Ranged) → Task
  next_range : (range : Ranged) (cursor : Cursor) → Task
  -- where a `break` leads, which is no step
  leave : (label : ℕ) → Task
  branch_to : (kind : BranchKind) (label : ℕ) → Task
  call_with : (called : Called) (count : ℕ) → Task
  go_with : (called : Called) (count : ℕ) → Task
  defer_with : (called : Called) (count : ℕ) → Task
  -- a receiver is read through the pointer to it
  receive_through : (var : Var) → Task
  return_with : (count : ℕ) → Task
  panic_with : Task
  recover_here : Task
  send_to : (channel : Ty) → Task
  receive_from : (channel : Ty) (ok : Bool) → Task
  close_channel : Task
  select_from : (label : ℕ) (cases : List Case) (count : ℕ) (has_default : Bool) (default_ : Stmts) → Task
  take_gate : Task
  add_to_gate : Task
  await_gate : Task
  yield_turn : Task
  print_values : (count : ℕ) (ends_line : Bool) → Task
  exit_with : Task
  fatal_with : Task
  -- `main` has returned
  finish : Task

-- what a deferred call will be: a function with the bases that it captured, or a nil function
pub data Invocation : Type 0 where
  invoke : (func : ℕ) (bases : List ℕ) (row : Option ℕ) (operands : List Value) → Invocation
  nothing_to_invoke : Invocation

pub data Mode : Type 0 where
  normal : Mode
  returning : Mode
  panicking : (value : Scalar) → Mode

-- what comes of a frame's results
pub data Purpose : Type 0 where
  -- they go to the frame below
  called : Purpose
  -- a deferred call of the frame below: they are dropped
  deferred : Purpose
  -- the method `Error` of a panic's value: the result is told, and the run ends
  reporting : Purpose

-- a variable's base
pub record Place : Type 0 where
  pub var : ℕ
  pub base : ℕ

pub record Frame : Type 0 where
  -- none for the frame that runs initialisers
  pub func : Option ℕ
  pub tasks : List Task
  -- the last one first
  pub values : List Value
  -- the last one that was declared first
  pub places : List Place
  -- the next one first
  pub deferred_calls : List Invocation
  -- the variables of its results
  pub results : List Var
  pub mode : Mode
  pub purpose : Purpose

-- one way in which a waiting operation can proceed, with what is done then
pub data Offer : Type 0 where
  sending : (channel : Option ℕ) (value : Value) (units : ℕ) (after : List Task) → Offer
  -- gives so many of: what was received, and whether it was sent
  receiving : (channel : Option ℕ) (zero : Value) (units : ℕ) (values : ℕ) (after : List Task) → Offer

pub data Waiting : Type 0 where
  able : Waiting
  at_channels : (offers : List Offer) → Waiting
  at_take : (gate : ℕ) → Waiting
  at_await : (gate : ℕ) → Waiting

-- the frames of a goroutine, the running one first; it has ended where there is none
pub record Goroutine : Type 0 where
  pub frames : List Frame
  pub waiting : Waiting

pub data End : Type 0 where
  going : End
  -- `main` has returned, or the program has asked for an end with this status
  exit : (status : ℕ) → End
  -- nobody recovered from a panic with this text
  panicked : (text : List ℕ) → End
  -- a fatal error with this text
  fatal : (text : List ℕ) → End

-- a moment of a run
pub record State : Type 0 where
  pub goroutines : List Goroutine
  pub memory : Memory
  pub printed : List ℕ
  -- how many numbers of the list of choices were taken
  pub taken : ℕ
  pub units : ℕ
  pub end : End

-- what Go leaves free at a step
pub record Move : Type 0 where
  -- which goroutine moves
  pub goroutine : ℕ
  -- which of its ready ways a waiting goroutine takes
  pub way : ℕ
  -- which goroutine is the partner, and which of its ways is meant
  pub partner : ℕ
  pub partner_way : ℕ
  -- the capacity of the new array of an append
  pub capacity : ℕ
  -- the birth of the next entry of a map's range, or none for its end
  pub birth : Option ℕ

-- ---- changes

-- values, left to right, go onto the stack
abbrev pub pushed : List Value → List Value → List Value
pushed [] stack = stack
pushed (v ∷ vs) stack = pushed vs (v ∷ stack)

-- values that are taken from the stack, left to right, and what is left there
pub record Popped : Type 0 where
  pub operands : List Value
  pub others : List Value

abbrev pub popped_before : ℕ → List Value → List Value → Option Popped
popped_before zero stack vs = Some (record { operands = vs; others = stack })
popped_before (suc n) [] vs = None
popped_before (suc n) (v ∷ stack) vs = popped_before n stack (v ∷ vs)

abbrev pub popped : ℕ → List Value → Option Popped
popped n stack = popped_before n stack []

abbrev pub base_in : ℕ → List Place → Option ℕ
base_in v [] = None
base_in v (p ∷ ps) = if p.var == v then Some p.base else base_in v ps

-- the state in which this goroutine has these frames and is able, after so many units
abbrev pub moved : ℕ → List Frame → ℕ → State → State
moved g frames units s =
    record s { goroutines = slice_set s.goroutines g (record { frames = frames; waiting = able }); units = s.units + units }

abbrev pub with_memory : Memory → State → State
with_memory m s = record s { memory = m }

-- the frame with these tasks and values
abbrev pub onward : Frame → List Task → List Value → Frame
onward f tasks values = record f { tasks = tasks; values = values }

-- Go specification (as of Go 1.17), "Program execution", "Statements": one step of a goroutine, and one case for
-- each task.
use Rattle.std.specs.Prelude.{ℕ, ◌+◌, List, [], ◌∷◌, ◌++◌, Bool, Option, Some, None, slice_get, drop, length}
use Rattle.go_core.specs.Arithmetic.{residue}
use Rattle.go_core.specs.Memory as cell
use Rattle.go_core.specs.Memory.{Value, Memory}
use Rattle.go_core.specs.CoreTree.{CoreFunc, CoreProgram}
use Rattle.go_core.specs.Text.{output_of}
use Rattle.go_core.specs.Operator.{Operator, operated}
use Rattle.go_core.specs.Goroutine.{Task, Frame, Goroutine, Waiting, able, State, End, exit, fatal, going, Move, base_in, moved, with_memory}
use Rattle.go_core.specs.Goroutine as task
use Rattle.go_core.specs.Frames.{did_step, on_operands, on_operand, with_more}
use Rattle.go_core.specs.Calls.{bases_of, call_step, go_step, defer_step, receive_through_step, return_step}
use Rattle.go_core.specs.Assign.{begin_assign, assign_step, declare_step, bind_step, set_globals_step}
use Rattle.go_core.specs.Control.{where_true_step, where_false_step, choose_step, turn_step, again_step, clause_step, default_step, begin_range_step, next_range_step, branched}
use Rattle.go_core.specs.Panics.{panic_with_step, recover_step, ended_step}
use Rattle.go_core.specs.Communicate.{send_step, receive_step, close_step, select_step, take_gate_step, add_gate_step, await_gate_step, waiting_step}

-- with these choices: the numbers that `select` statements take, one after another, and then zeros
module _ (p : CoreProgram) (choices : List ℕ) (move : Move) (g : ℕ) where
  abbrev pub operate_step : Operator → ℕ → Frame → List Frame → State → Option State
  operate_step o n f below s = on_operands n f λ vs f'. did_step p.hidden g (operated p move.capacity o vs s.memory) f' below s

  abbrev pub local_step : Option ℕ → Frame → List Frame → State → Option State
  local_step None f below s = None
  local_step (Some base) f below s = Some (moved g (with_more ((cell.pointer base ∷ []) ∷ []) f ∷ below) 1 s)

  abbrev pub closure_with : ℕ → Option (List ℕ) → Frame → List Frame → State → Option State
  closure_with func None f below s = None
  closure_with func (Some bases) f below s = Some (moved g (with_more ((cell.function func bases ∷ []) ∷ []) f ∷ below) (1 + length bases) s)

  -- "Function literals": a closure shares the variables that it captures
  abbrev pub closure_step : ℕ → Option CoreFunc → Frame → List Frame → State → Option State
  closure_step func None f below s = None
  closure_step func (Some c) f below s = closure_with func (bases_of c.captured f.places) f below s

  abbrev pub with_printed : List ℕ → Frame → List Frame → State → Option State
  with_printed output f below s = Some (record (moved g (f ∷ below) (1 + length output) s) { printed = s.printed ++ output })

  abbrev pub print_step : ℕ → Bool → Frame → List Frame → State → Option State
  print_step n ends_line f below s = on_operands n f λ vs f'. with_printed (output_of ends_line vs) f' below s

  -- own: the low 8 bits
  abbrev pub exited : List Frame → State → Value → Frame → Option State
  exited below s (cell.whole n ∷ []) f = Some (record (moved g (f ∷ below) 1 s) { end = exit (residue 256 n) })
  exited below s _ f = None

  abbrev pub exit_step : Frame → List Frame → State → Option State
  exit_step f below s = on_operand f (exited below s)

  abbrev pub failed_fatally : List Frame → State → Value → Frame → Option State
  failed_fatally below s (cell.text bytes ∷ []) f = Some (record (moved g (f ∷ below) 1 s) { end = fatal bytes })
  failed_fatally below s _ f = None

  abbrev pub fatal_step : Frame → List Frame → State → Option State
  fatal_step f below s = on_operand f (failed_fatally below s)

  -- one case for each task that is a step
  abbrev pub task_step : Task → Frame → List Frame → State → Option State
  task_step (task.operate o n) f below s = operate_step o n f below s
  task_step (task.at_local v) f below s = local_step (base_in v f.places) f below s
  task_step (task.make_closure func) f below s = closure_step func (slice_get p.funcs func) f below s
  task_step (task.only_where_true e) f below s = where_true_step p g e f below s
  task_step (task.only_where_false e) f below s = where_false_step p g e f below s
  task_step (task.bind_vars vs) f below s = bind_step p g vs f below s
  task_step (task.declare_var v) f below s = declare_step p g v f below s
  task_step (task.assign ts n) f below s = begin_assign p g ts n f below s
  task_step (task.assign_rest ts operands values) f below s = assign_step p g ts operands values f below s
  task_step (task.set_globals ns) f below s = set_globals_step p g ns f below s
  task_step (task.choose a b) f below s = choose_step p g a b f below s
  task_step (task.turn label c body post) f below s = turn_step p g label c body post f below s
  task_step (task.turn_again label c body post) f below s = again_step p g label c body post f below s
  task_step (task.choose_clause n ts clauses default_) f below s = clause_step p g n ts clauses default_ f below s
  task_step (task.choose_default clauses default_) f below s = default_step p g clauses default_ f below s
  task_step (task.begin_range r) f below s = begin_range_step p g r f below s
  task_step (task.next_range r c) f below s = next_range_step p g move.birth r c f below s
  task_step (task.branch_to kind label) f below s = Some (moved g (record f { tasks = branched kind label f.tasks } ∷ below) 1 s)
  task_step (task.call_with c n) f below s = call_step p g c n f below s
  task_step (task.go_with c n) f below s = go_step p g c n f below s
  task_step (task.defer_with c n) f below s = defer_step p g c n f below s
  task_step (task.receive_through v) f below s = receive_through_step p g v f below s
  task_step (task.return_with n) f below s = return_step p g n f below s
  task_step task.panic_with f below s = panic_with_step p g f below s
  task_step task.recover_here f below s = recover_step p g f below s
  task_step (task.send_to t) f below s = send_step p g move choices t f below s
  task_step (task.receive_from t ok) f below s = receive_step p g move choices t ok f below s
  task_step task.close_channel f below s = close_step p g move f below s
  task_step (task.select_from label cases n has_default body) f below s = select_step p g move choices cases n has_default body f below s
  task_step task.take_gate f below s = take_gate_step p g move f below s
  task_step task.add_to_gate f below s = add_gate_step p g move f below s
  task_step task.await_gate f below s = await_gate_step p g move f below s
  task_step task.yield_turn f below s = Some (moved g (f ∷ below) 1 s)
  task_step (task.print_values n ends_line) f below s = print_step n ends_line f below s
  task_step task.exit_with f below s = exit_step f below s
  task_step task.fatal_with f below s = fatal_step f below s
  task_step task.finish f below s = Some (record (moved g below 1 s) { end = exit 0 })
  -- the others are no steps
  task_step (task.drop_values n) f below s = None
  task_step (task.push_value x) f below s = None
  task_step (task.leave label) f below s = None

  -- what is no step is passed over
  abbrev pub tasks_step : List Task → Frame → List Frame → State → Option State
  tasks_step [] f below s = ended_step p g f.deferred_calls (record f { tasks = []; values = [] }) below s
  tasks_step (task.drop_values n ∷ ts) f below s = tasks_step ts (record f { values = drop n f.values }) below s
  tasks_step (task.push_value x ∷ ts) f below s = tasks_step ts (record f { values = x ∷ f.values }) below s
  tasks_step (task.leave label ∷ ts) f below s = tasks_step ts f below s
  tasks_step (t ∷ ts) f below s = task_step t (record f { tasks = ts }) below s

  abbrev pub by_waiting : Waiting → Frame → List Frame → State → Option State
  by_waiting able f below s = tasks_step f.tasks f below s
  by_waiting w f below s = waiting_step p g move w f below s

  -- an ended goroutine has no step
  abbrev pub frames_step : Waiting → List Frame → State → Option State
  frames_step w [] s = None
  frames_step w (f ∷ below) s = by_waiting w f below s

  abbrev pub goroutine_step : Option Goroutine → State → Option State
  goroutine_step None s = None
  goroutine_step (Some x) s = frames_step x.waiting x.frames s

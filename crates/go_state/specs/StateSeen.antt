-- The frames, the goroutines and the state of the definitions that those of the program stand for. Stacks lie with
-- their next element last.
use Rattle.std.specs.Prelude.{List, [], ◌∷◌, map, Option, Some, None}
use Rattle.std.specs.List.{fold}
use Rattle.std.specs.Borrow.{Bor}
use Rattle.go_type.specs.Tree.{Ty}
use Rattle.go_type.specs.Levels.{tree_of}
use Rattle.go_core.specs.CoreTree as core
use Rattle.go_core.specs.Goroutine as defined
use Rattle.go_core.specs.Memory.{Value}
use Rattle.go_core.specs.Opened.{all_opened}
use Rattle.go_core.specs.CoreView.{var_of, stmts_view, option_var}
use Rattle.go_core.specs.declared.node.Var.{Var}
use Rattle.go_values.specs.ValuesSeen.{scalar_of, value_of, values_of, memory_of}
use Rattle.go_values.specs.declared.values.scalar.Scalar.{Scalar}
use Rattle.go_state.specs.TasksSeen.{first_of, targets_from}
use Rattle.go_state.specs.declared.state.frame.Todo.{Todo}
use Rattle.go_state.specs.declared.state.frame.Todo.TheVariants as held
use Rattle.go_state.specs.declared.state.frame.Place.{Place}
use Rattle.go_state.specs.declared.state.frame.Cursor.{Cursor}
use Rattle.go_state.specs.declared.state.frame.Cursor.TheVariants as cursor
use Rattle.go_state.specs.declared.state.frame.Range.{Range}
use Rattle.go_state.specs.declared.state.frame.Invocation.{Invocation}
use Rattle.go_state.specs.declared.state.frame.Invocation.TheVariants as invocation
use Rattle.go_state.specs.declared.state.frame.Mode.{Mode}
use Rattle.go_state.specs.declared.state.frame.Mode.TheVariants as mode
use Rattle.go_state.specs.declared.state.frame.Purpose.{Purpose}
use Rattle.go_state.specs.declared.state.frame.Purpose.TheVariants as purpose
use Rattle.go_state.specs.declared.state.frame.Frame.{Frame}
use Rattle.go_state.specs.declared.state.state.Clause.{Clause}
use Rattle.go_state.specs.declared.state.state.Offer.{Offer}
use Rattle.go_state.specs.declared.state.state.Offer.TheVariants as offer
use Rattle.go_state.specs.declared.state.state.Waiting.{Waiting}
use Rattle.go_state.specs.declared.state.state.Waiting.TheVariants as waiting
use Rattle.go_state.specs.declared.state.state.Goroutine.{Goroutine}
use Rattle.go_state.specs.declared.state.state.End.{End}
use Rattle.go_state.specs.declared.state.state.End.TheVariants as end
use Rattle.go_state.specs.declared.state.state.State.{State}
use Rattle.go_state.specs.declared.state.state.Move.{Move}

-- a stack that lies with its top last, seen from its top on
abbrev pub stacked : {A B : Type 0} → (A → B) → List A → List B
stacked f xs = fold (λ rest x. f x ∷ rest) [] xs

abbrev pub place_of : Place → defined.Place
place_of p = record { var = p.var.0; base = p.base }

abbrev pub places_of : List Place → List defined.Place
places_of ps = stacked place_of ps

abbrev pub move_of : Move → defined.Move
move_of m = record { goroutine = m.goroutine; way = m.way; partner = m.partner; partner_way = m.partner_way; capacity = m.capacity; birth = m.birth }

abbrev pub purpose_of : Purpose → defined.Purpose
purpose_of purpose.Called = defined.called
purpose_of purpose.Deferred = defined.deferred
purpose_of purpose.Reporting = defined.reporting

abbrev pub end_of : End → defined.End
end_of end.Going = defined.going
end_of (end.Exit status) = defined.exit status
end_of (end.Panicked text) = defined.panicked text.now
end_of (end.Fatal text) = defined.fatal text.now

-- variables that take values before what remains
abbrev pub bound_first : List core.Var → List defined.Task → List defined.Task
bound_first [] rest = rest
bound_first (v ∷ vs) rest = defined.bind_vars (v ∷ vs) ∷ rest

-- with the trees of the table's types
module _ (ts : List Ty) where
  -- the values on a stack, from its top on
  abbrev pub stack_of : List (Bor (List Scalar)) → List Value
  stack_of vs = stacked (λ v. value_of ts v.now) vs

  abbrev pub vars_of : List Var → List core.Var
  vars_of vs = map (var_of ts) vs

  abbrev pub cursor_of : Cursor → defined.Cursor
  cursor_of (cursor.Numbers next count) = defined.numbers next count
  cursor_of (cursor.Copied next left) = defined.copied next (value_of ts left.now)
  cursor_of (cursor.Elements next count base) = defined.elements next count base
  cursor_of (cursor.Characters offset left) = defined.characters offset left.now
  cursor_of (cursor.Entries map_ produced since) = defined.entries map_ produced.now since

  abbrev pub ranged_of : Range → defined.Ranged
  ranged_of r = record { label = r.label.0; from = tree_of ts r.from; key = option_var ts r.key; value = option_var ts r.value; body = stmts_view ts r.body.now }

  -- the tasks of what is to be done, before what remains
  abbrev pub todo_first : Todo → List defined.Task → List defined.Task
  todo_first (held.Text t) rest = first_of ts t rest
  todo_first (held.Push x) rest = defined.push_value (value_of ts x.now) ∷ rest
  todo_first (held.ReceiveThrough v) rest = defined.receive_through (var_of ts v) ∷ rest
  todo_first (held.AssignRest targets from operands values) rest =
      defined.assign_rest (targets_from ts targets.now from) (values_of ts operands.now) (values_of ts values.now) ∷ rest
  todo_first (held.NextRange range c) rest = defined.next_range (ranged_of range) (cursor_of c) ∷ rest
  todo_first (held.BindVars vs) rest = defined.bind_vars (vars_of vs.now) ∷ rest
  todo_first (held.SetGlobals ns) rest = defined.set_globals ns.now ∷ rest
  todo_first (held.Call f) rest = defined.call_with (defined.the_function f.0) 0 ∷ rest
  todo_first held.Finish rest = defined.finish ∷ rest

  abbrev pub tasks_of : List Todo → List defined.Task
  tasks_of todos = fold (λ rest t. todo_first t rest) [] todos

  abbrev pub invocation_of : Invocation → defined.Invocation
  invocation_of (invocation.Invoke func bases row operands) = defined.invoke func bases.now row (values_of ts operands.now)
  invocation_of invocation.Nothing = defined.nothing_to_invoke

  abbrev pub mode_of : Mode → defined.Mode
  mode_of mode.Normal = defined.normal
  mode_of mode.Returning = defined.returning
  mode_of (mode.Panicking x) = defined.panicking (scalar_of ts x)

  abbrev pub frame_of : Frame → defined.Frame
  frame_of f = record {
    func = f.func;
    tasks = tasks_of f.tasks.items;
    values = stack_of f.values.items;
    places = places_of f.places.items;
    deferred_calls = stacked invocation_of f.deferred.items;
    results = vars_of f.results.now;
    mode = mode_of f.mode;
    purpose = purpose_of f.purpose;
  }

  abbrev pub after_of : Option Clause → List defined.Task
  after_of None = []
  after_of (Some c) = bound_first (vars_of c.vars.now) (all_opened (stmts_view ts c.body.now) [])

  abbrev pub offer_of : Offer → defined.Offer
  offer_of (offer.Sending channel value units after) = defined.sending channel (value_of ts value.now) units (after_of after)
  offer_of (offer.Receiving channel zero units values after) = defined.receiving channel (value_of ts zero.now) units values (after_of after)

  abbrev pub waiting_of : Waiting → defined.Waiting
  waiting_of waiting.Able = defined.able
  waiting_of (waiting.AtChannels offers) = defined.at_channels (map offer_of offers.items)
  waiting_of (waiting.AtTake gate) = defined.at_take gate
  waiting_of (waiting.AtAwait gate) = defined.at_await gate

  abbrev pub goroutine_of : Goroutine → defined.Goroutine
  goroutine_of g = record { frames = stacked frame_of g.frames.items; waiting = waiting_of g.waiting }

  abbrev pub state_of : State → defined.State
  state_of s = record {
    goroutines = map goroutine_of s.goroutines.items;
    memory = memory_of ts s.memory;
    printed = s.printed.items;
    taken = s.taken;
    units = s.units;
    end = end_of s.end;
  }

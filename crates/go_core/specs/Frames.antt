-- A goroutine's step, as what comes of its frames, of the memory and of the units. The frame that moves has been
-- freed of the task that it does.
use Rattle.std.specs.Prelude.{ℕ, ◌+◌, List, [], ◌∷◌, Option, Some, None}
use Rattle.go_type.specs.Tree.{Ty}
use Rattle.go_core.specs.Memory.{Scalar, Value}
use Rattle.go_core.specs.RunPanic.{RunPanic, panic_value}
use Rattle.go_core.specs.Did.{Did, gives, panics, no_step}
use Rattle.go_core.specs.Goroutine.{Frame, panicking, State, Popped, popped, pushed, moved, with_memory}

-- "Handling panics": what was left of its body will not be done
abbrev pub to_panicking : Scalar → Frame → Frame
to_panicking v f = record f { tasks = []; values = []; mode = panicking v }

-- the frame with values taken off
abbrev pub with_values : List Value → Frame → Frame
with_values vs f = record f { values = vs }

abbrev pub with_more : List Value → Frame → Frame
with_more vs f = record f { values = pushed vs f.values }

module _ (hidden : Ty) (g : ℕ) where
  -- the step panics: its frame does
  abbrev pub panic_step : RunPanic → ℕ → Frame → List Frame → State → Option State
  panic_step q units f below s = Some (moved g (to_panicking (panic_value hidden q) f ∷ below) (1 + units) s)

  abbrev pub did_step : Did → Frame → List Frame → State → Option State
  did_step (gives vs m units) f below s = Some (with_memory m (moved g (with_more vs f ∷ below) (1 + units) s))
  did_step (panics q units) f below s = panic_step q units f below s
  did_step no_step f below s = None

abbrev pub with_popped : Option Popped → Frame → (List Value → Frame → Option State) → Option State
with_popped None f k = None
with_popped (Some q) f k = k q.operands (with_values q.others f)

-- with so many operands, from the left
abbrev pub on_operands : ℕ → Frame → (List Value → Frame → Option State) → Option State
on_operands n f k = with_popped (popped n f.values) f k

abbrev pub with_one : (Value → Frame → Option State) → List Value → Frame → Option State
with_one k (x ∷ []) f = k x f
with_one k _ f = None

abbrev pub on_operand : Frame → (Value → Frame → Option State) → Option State
on_operand f k = on_operands 1 f (with_one k)

abbrev pub with_two : (Value → Value → Frame → Option State) → List Value → Frame → Option State
with_two k (x ∷ y ∷ []) f = k x y f
with_two k _ f = None

abbrev pub on_pair : Frame → (Value → Value → Frame → Option State) → Option State
on_pair f k = on_operands 2 f (with_two k)

-- Go specification (as of Go 1.17), "Select statements": one of the clauses that can proceed is chosen. Where a step is
-- such a choice. own: a choice is the next number of a list, modulo how many clauses can proceed.
use Rattle.std.specs.Prelude.{ℕ, List, [], ◌∷◌, Bool, true, false, Option, Some, None, slice_get, drop}
use Rattle.go_core.specs.CoreTree.{CoreProgram}
use Rattle.go_core.specs.Goroutine as task
use Rattle.go_core.specs.Goroutine.{Task, Case, Frame, Offer, Waiting, able, Goroutine, State, End, going, Move, Popped, popped}
use Rattle.go_core.specs.Frames.{with_values}
use Rattle.go_core.specs.Communicate.{offers_from, ready_ways}

-- a `select` that a goroutine has come to: the ways of its clauses, and the frames without its task and operands
pub record Selecting : Type 0 where
  pub offers : List Offer
  pub clauses : List Case
  pub frame : Frame
  pub below : List Frame

abbrev pub several : List ℕ → Bool
several (v ∷ w ∷ ws) = true
several ws = false

module _ (p : CoreProgram) (move : Move) where
  abbrev pub with_offers : List Case → Option (List Offer) → Frame → List Frame → Option Selecting
  with_offers clauses None f below = None
  with_offers clauses (Some offers) f below = Some (record { offers = offers; clauses = clauses; frame = f; below = below })

  abbrev pub with_operands : List Case → Option Popped → Frame → List Frame → Option Selecting
  with_operands clauses None f below = None
  with_operands clauses (Some q) f below =
      with_offers clauses (offers_from p move.goroutine move clauses q.operands) (with_values q.others f) below

  -- a task that is a select
  abbrev pub select_at : Task → Frame → List Frame → Option Selecting
  select_at (task.select_from label clauses n has_default default_) f below = with_operands clauses (popped n f.values) f below
  select_at t f below = None

  -- a frame with these tasks comes to a select; what is no step is passed over
  abbrev pub select_in : List Task → Frame → List Frame → Option Selecting
  select_in [] f below = None
  select_in (task.drop_values n ∷ ts) f below = select_in ts (record f { values = drop n f.values }) below
  select_in (task.push_value x ∷ ts) f below = select_in ts (record f { values = x ∷ f.values }) below
  select_in (task.leave label ∷ ts) f below = select_in ts f below
  select_in (t ∷ ts) f below = select_at t (record f { tasks = ts }) below

  -- a goroutine that waits has come to none
  abbrev pub select_of : Waiting → List Frame → Option Selecting
  select_of able (f ∷ below) = select_in f.tasks f below
  select_of w fs = None

  abbrev pub select_by : Option Goroutine → Option Selecting
  select_by None = None
  select_by (Some x) = select_of x.waiting x.frames

  abbrev pub where_going : End → Option Selecting → Option Selecting
  where_going going c = c
  where_going e c = None

  -- the select that the goroutine that moves has come to, if any
  abbrev pub selecting : State → Option Selecting
  selecting s = where_going s.end (select_by (slice_get s.goroutines move.goroutine))

  abbrev pub ways_of : Option Selecting → State → List ℕ
  ways_of None s = []
  ways_of (Some c) s = ready_ways move.goroutine s 0 c.offers

  -- those of its clauses that can proceed, by their places
  abbrev pub ready_clauses : State → List ℕ
  ready_clauses s = ways_of (selecting s) s

  -- several of them can proceed, so one is chosen
  abbrev pub chooses : State → Bool
  chooses s = several (ready_clauses s)

-- Go specification (as of Go 1.17), "Send statements", "Receive operator", "Select statements", "Close", "Channel
-- types": communication. Gates are own. There are no waiting lists: a goroutine waits at its operation.
use Rattle.std.specs.Prelude.{ℕ, zero, suc, ◌+◌, ◌%◌, ◌==◌, ℤ, pos, ◌+ℤ◌, List, [], ◌∷◌, ◌++◌, Bool, true, false, ◌&&◌, ◌||◌, not, if◌then◌else◌, nat_lt, Option, Some, None, slice_get, slice_set, get_or, length, option_and_then}
use Rattle.gj_base.specs.declared.kind.Kind.TheVariants.{I32}
use Rattle.go_type.specs.Tree.{Ty, chan}
use Rattle.go_type.specs.Underlying.{underlying}
use Rattle.go_core.specs.Layout.{Shape, shape_of, weight}
use Rattle.go_core.specs.Arithmetic.{wrapped}
use Rattle.go_core.specs.Memory as cell
use Rattle.go_core.specs.Memory.{Scalar, truth, Value, Memory, Channel, zeros, set_channel, with_written, read_cells}
use Rattle.go_core.specs.CoreTree.{Var, Stmts, CoreProgram}
use Rattle.go_core.specs.RunPanic.{send_on_closed, closed_twice, closed_nil}
use Rattle.go_core.specs.Opened.{all_opened}
use Rattle.go_core.specs.Goroutine.{Task, bind_vars, Case, CaseKind, case_sends, case_receives, Frame, Offer, sending, receiving, Waiting, able, at_channels, at_take, at_await, Goroutine, State, Move, moved, with_memory}
use Rattle.go_core.specs.Frames.{panic_step, on_operand, on_operands, on_pair, with_more}
use Rattle.go_core.specs.Control.{with_first}

-- a nil channel has no name
abbrev pub named_channel : Value → Option (Option ℕ)
named_channel (cell.channel name ∷ []) = Some (Some name)
named_channel (cell.nil ∷ []) = Some None
named_channel _ = None

abbrev pub channel_at : Option ℕ → Memory → Option Channel
channel_at None m = None
channel_at (Some name) m = slice_get m.channels name

-- ---- partners

abbrev pub same_name : Option ℕ → ℕ → Bool
same_name None n = false
same_name (Some m) n = m == n

abbrev pub sends_to : ℕ → Offer → Bool
sends_to name (sending c x units after) = same_name c name
sends_to name _ = false

abbrev pub receives_from : ℕ → Offer → Bool
receives_from name (receiving c zero_ units n after) = same_name c name
receives_from name _ = false

abbrev pub any_offer : (Offer → Bool) → List Offer → Bool
any_offer test [] = false
any_offer test (o ∷ os) = test o || any_offer test os

abbrev pub offers_of : Waiting → List Offer
offers_of (at_channels os) = os
offers_of _ = []

-- another goroutine, from the k-th on, that is waiting so
abbrev pub has_partner : (Offer → Bool) → ℕ → ℕ → List Goroutine → Bool
has_partner test g k [] = false
has_partner test g k (x ∷ xs) = (not (g == k) && any_offer test (offers_of x.waiting)) || has_partner test g (suc k) xs

-- ---- when an operation is ready

-- a partner counts on an open channel of capacity 0
abbrev pub meets : Channel → Bool → Bool
meets c partner = (c.capacity == 0) && not c.closed && partner

abbrev pub is_empty : List Value → Bool
is_empty [] = true
is_empty (x ∷ xs) = false

-- it is closed, or has room, or has a partner
abbrev pub send_ready : Option Channel → Bool → Bool
send_ready None partner = false
send_ready (Some c) partner = c.closed || nat_lt (length c.values) c.capacity || meets c partner

-- it holds a value, or is closed, or has a partner
abbrev pub receive_ready : Option Channel → Bool → Bool
receive_ready None partner = false
receive_ready (Some c) partner = not (is_empty c.values) || c.closed || meets c partner

abbrev pub partner_for : (ℕ → Offer → Bool) → Option ℕ → ℕ → State → Bool
partner_for test None g s = false
partner_for test (Some name) g s = has_partner (test name) g 0 s.goroutines

abbrev pub offer_ready : ℕ → State → Offer → Bool
offer_ready g s (sending c x units after) = send_ready (channel_at c s.memory) (partner_for receives_from c g s)
offer_ready g s (receiving c zero_ units n after) = receive_ready (channel_at c s.memory) (partner_for sends_to c g s)

-- the places of those that are ready, from the k-th on
abbrev pub ready_ways : ℕ → State → ℕ → List Offer → List ℕ
ready_ways g s k [] = []
ready_ways g s k (o ∷ os) = if offer_ready g s o then k ∷ ready_ways g s (suc k) os else ready_ways g s (suc k) os

abbrev pub any_ready : ℕ → State → List Offer → Bool
any_ready g s [] = false
any_ready g s (o ∷ os) = offer_ready g s o || any_ready g s os

-- ---- taking

-- so many of what was received and whether it was sent
abbrev pub received : ℕ → Value → Bool → List Value
received zero v ok = []
received (suc zero) v ok = v ∷ []
received (suc (suc n)) v ok = v ∷ (truth ok ∷ []) ∷ []

-- an operation is done: its values are there, and its tasks come first
abbrev pub done_with : List Value → List Task → Frame → Frame
done_with vs after f = with_more vs (with_first (λ rest. after ++ rest) f)

abbrev pub frames_of : Option Goroutine → List Frame
frames_of None = []
frames_of (Some x) = x.frames

abbrev pub resumed_at : List Value → List Task → ℕ → List Frame → State → Option State
resumed_at vs after g [] s = None
resumed_at vs after g (f ∷ below) s = Some (moved g (done_with vs after f ∷ below) 0 s)

-- a waiting goroutine goes on
abbrev pub resumed : List Value → List Task → ℕ → State → Option State
resumed vs after g s = resumed_at vs after g (frames_of (slice_get s.goroutines g)) s

abbrev pub offer_of : ℕ → Option Goroutine → Option Offer
offer_of way None = None
offer_of way (Some x) = slice_get (offers_of x.waiting) way

-- the partner's way, where it is another goroutine that waits so
abbrev pub partner_offer : ℕ → Move → State → Option Offer
partner_offer g move s = if g == move.partner then None else offer_of move.partner_way (slice_get s.goroutines move.partner)

module _ (p : CoreProgram) (g : ℕ) (move : Move) where
  -- both move in one step: the partner receives what is sent
  abbrev pub to_partner : ℕ → Value → Option Offer → State → Option State
  to_partner name x (Some (receiving c zero_ units n after)) s =
      if same_name c name then resumed (received n x true) after move.partner s else None
  to_partner name x _ s = None

  abbrev pub from_partner : ℕ → ℕ → List Task → Option Offer → Frame → List Frame → ℕ → State → Option State
  from_partner name n after (Some (sending c x units after')) f below u s =
      if same_name c name
      then resumed [] after' move.partner (moved g (done_with (received n x true) after f ∷ below) (1 + u) s)
      else None
  from_partner name n after _ f below u s = None

  abbrev pub with_sent : Value → Channel → Channel
  with_sent x c = record c { values = c.values ++ x ∷ [] }

  -- "Send statements": a send on a closed channel panics
  abbrev pub sent : ℕ → Value → ℕ → List Task → Channel → Frame → List Frame → State → Option State
  sent name x u after c f below s =
      if c.closed then panic_step p.hidden g send_on_closed 0 f below s
      else (if nat_lt (length c.values) c.capacity
      then Some (with_memory (set_channel s.memory name (with_sent x c)) (moved g (done_with [] after f ∷ below) (1 + u) s))
      else (if c.capacity == 0
      then to_partner name x (partner_offer g move s) (moved g (done_with [] after f ∷ below) (1 + u) s)
      else None))

  -- "Receive operator": the front value; of a closed channel without values, zero and false
  abbrev pub taken_from : List Value → ℕ → Value → ℕ → ℕ → List Task → Channel → Frame → List Frame → State → Option State
  taken_from (x ∷ xs) name zero_ u n after c f below s =
      Some (with_memory (set_channel s.memory name (record c { values = xs })) (moved g (done_with (received n x true) after f ∷ below) (1 + u) s))
  taken_from [] name zero_ u n after c f below s =
      if c.closed then Some (moved g (done_with (received n zero_ false) after f ∷ below) (1 + u) s)
      else (if c.capacity == 0 then from_partner name n after (partner_offer g move s) f below u s else None)

  abbrev pub on_channel : Option ℕ → State → (ℕ → Channel → Option State) → Option State
  on_channel None s k = None
  on_channel (Some name) s k = option_and_then (k name) (slice_get s.memory.channels name)

  abbrev pub offer_taken : Option Offer → Frame → List Frame → State → Option State
  offer_taken None f below s = None
  offer_taken (Some (sending c x u after)) f below s = on_channel c s λ name state. sent name x u after state f below s
  offer_taken (Some (receiving c zero_ u n after)) f below s = on_channel c s λ name state. taken_from state.values name zero_ u n after state f below s

  abbrev pub way_taken : ℕ → List Offer → Frame → List Frame → State → Option State
  way_taken way offers f below s = offer_taken (slice_get offers way) f below s

  -- ---- reaching an operation

  abbrev pub waits : Waiting → ℕ → Frame → List Frame → State → Option State
  waits w u f below s =
      Some (record s { goroutines = slice_set s.goroutines g (record { frames = f ∷ below; waiting = w }); units = s.units + 1 + u })

  -- "Select statements": own: of several ready ones the choice is the next number, modulo how many they are; one
  -- takes no number; without one it takes `default`, or waits
  abbrev pub reached : List ℕ → Option (List Task → List Task) → ℕ → List Offer → List ℕ → Frame → List Frame → State → Option State
  reached choices (Some default_) u offers [] f below s = Some (moved g (with_first default_ f ∷ below) (1 + u) s)
  reached choices None u offers [] f below s = waits (at_channels offers) u f below s
  reached choices default_ u offers (w ∷ []) f below s = way_taken w offers f below (record s { units = s.units + u })
  reached choices default_ u offers (w ∷ ws) f below s =
      way_taken (get_or (w ∷ ws) (get_or choices s.taken 0 % length (w ∷ ws)) w) offers f below (record s { units = s.units + u; taken = suc s.taken })

  abbrev pub reach : List ℕ → Option (List Task → List Task) → ℕ → List Offer → Frame → List Frame → State → Option State
  reach choices default_ u offers f below s = reached choices default_ u offers (ready_ways g s 0 offers) f below s

  abbrev pub shape_in : Ty → Shape
  shape_in (chan d u) = shape_of p.names u
  shape_in u = shape_of p.names u

  -- the shape of a channel's elements
  abbrev pub element_shape : Ty → Shape
  element_shape t = shape_in (underlying p.names t)

  abbrev pub send_offer : Ty → Option ℕ → Value → List Task → Offer
  send_offer t c x after = sending c x (weight (element_shape t)) after

  abbrev pub receive_offer : Ty → Option ℕ → ℕ → List Task → Offer
  receive_offer t c n after = receiving c (zeros (element_shape t)) (weight (element_shape t)) n after

  abbrev pub send_step : List ℕ → Ty → Frame → List Frame → State → Option State
  send_step choices t f below s = on_pair f λ c x f'. option_and_then (λ name. reach choices None 0 (send_offer t name x [] ∷ []) f' below s) (named_channel c)

  abbrev pub one_or_two : Bool → ℕ
  one_or_two false = 1
  one_or_two true = 2

  abbrev pub receive_step : List ℕ → Ty → Bool → Frame → List Frame → State → Option State
  receive_step choices t ok f below s = on_operand f λ c f'. option_and_then (λ name. reach choices None 0 (receive_offer t name (one_or_two ok) [] ∷ []) f' below s) (named_channel c)

  -- ---- select

  -- what a clause does once its communication is done
  abbrev pub clause_tasks : List Var → Stmts → List Task
  clause_tasks [] body = all_opened body []
  clause_tasks (v ∷ vs) body = bind_vars (v ∷ vs) ∷ all_opened body []

  abbrev pub with_offer : Offer → Option (List Offer) → Option (List Offer)
  with_offer o None = None
  with_offer o (Some os) = Some (o ∷ os)

  abbrev pub offer_before : Option Offer → Option (List Offer) → Option (List Offer)
  offer_before None rest = None
  offer_before (Some o) rest = with_offer o rest

  -- a way of a clause that takes these operands, before those of the others
  abbrev pub offers_by : CaseKind → Stmts → List Value → (List Value → Option (List Offer)) → Option (List Offer)
  offers_by (case_sends t) body (c ∷ x ∷ vs) others =
      offer_before (option_and_then (λ name. Some (send_offer t name x (clause_tasks [] body))) (named_channel c)) (others vs)
  offers_by (case_receives t vars) body (c ∷ vs) others =
      offer_before (option_and_then (λ name. Some (receive_offer t name (length vars) (clause_tasks vars body))) (named_channel c)) (others vs)
  offers_by _ body vs others = None

  -- the ways of the clauses, in the order of the text
  abbrev pub offers_from : List Case → List Value → Option (List Offer)
  offers_from [] [] = Some []
  offers_from [] (v ∷ vs) = None
  offers_from (c ∷ cs) vs = offers_by c.kind c.body vs (offers_from cs)

  abbrev pub case_count : List Case → ℕ
  case_count [] = 0
  case_count (c ∷ cs) = suc (case_count cs)

  abbrev pub default_tasks : Bool → Stmts → Option (List Task → List Task)
  default_tasks false body = None
  default_tasks true body = Some (all_opened body)

  -- adds the cases
  abbrev pub select_with : List ℕ → ℕ → Bool → Stmts → Option (List Offer) → Frame → List Frame → State → Option State
  select_with choices u has_default body None f below s = None
  select_with choices u has_default body (Some offers) f below s = reach choices (default_tasks has_default body) u offers f below s

  abbrev pub select_step : List ℕ → List Case → ℕ → Bool → Stmts → Frame → List Frame → State → Option State
  select_step choices cases n has_default body f below s =
      on_operands n f λ vs f'. select_with choices (case_count cases) has_default body (offers_from cases vs) f' below s

  -- ---- "Close"

  abbrev pub is_at : ℕ → Offer → Bool
  is_at name o = sends_to name o || receives_from name o

  -- how many goroutines wait at an operation on the channel
  abbrev pub waiting_at : ℕ → List Goroutine → ℕ
  waiting_at name [] = 0
  waiting_at name (x ∷ xs) = if any_offer (is_at name) (offers_of x.waiting) then suc (waiting_at name xs) else waiting_at name xs

  abbrev pub closed_at : ℕ → Channel → Frame → List Frame → State → Option State
  closed_at name c f below s =
      if c.closed then panic_step p.hidden g closed_twice 0 f below s
      else Some (with_memory (set_channel s.memory name (record c { closed = true })) (moved g (f ∷ below) (1 + waiting_at name s.goroutines) s))

  abbrev pub close_named : Option ℕ → Frame → List Frame → State → Option State
  close_named None f below s = panic_step p.hidden g closed_nil 0 f below s
  close_named (Some name) f below s = on_channel (Some name) s λ n c. closed_at n c f below s

  abbrev pub close_step : Frame → List Frame → State → Option State
  close_step f below s = on_operand f λ c f'. option_and_then (λ name. close_named name f' below s) (named_channel c)

  -- ---- own: gates

  abbrev pub number_in : Value → Option ℤ
  number_in (cell.whole n ∷ []) = Some n
  number_in _ = None

  abbrev pub gate_number : ℕ → State → Option ℤ
  gate_number base s = number_in (read_cells base 1 s.memory.cells)

  abbrev pub set_gate : ℕ → ℤ → State → State
  set_gate base n s = with_memory (with_written s.memory base (cell.whole n ∷ [])) s

  abbrev pub with_gate : (ℕ → Frame → Option State) → Value → Frame → Option State
  with_gate k (cell.pointer base ∷ []) f = k base f
  with_gate k _ f = None

  abbrev pub on_gate : Frame → (ℕ → Frame → Option State) → Option State
  on_gate f k = on_operand f (with_gate k)

  -- a take waits for 0 and sets 1
  abbrev pub gate_taken : Option ℤ → ℕ → Frame → List Frame → State → Option State
  gate_taken None base f below s = None
  gate_taken (Some (pos zero)) base f below s = Some (set_gate base (pos 1) (moved g (f ∷ below) 1 s))
  gate_taken (Some n) base f below s = waits (at_take base) 0 f below s

  -- an await waits for 0
  abbrev pub gate_awaited : Option ℤ → ℕ → Frame → List Frame → State → Option State
  gate_awaited None base f below s = None
  gate_awaited (Some (pos zero)) base f below s = Some (moved g (f ∷ below) 1 s)
  gate_awaited (Some n) base f below s = waits (at_await base) 0 f below s

  abbrev pub take_gate_step : Frame → List Frame → State → Option State
  take_gate_step f below s = on_gate f λ base f'. gate_taken (gate_number base s) base f' below s

  abbrev pub await_gate_step : Frame → List Frame → State → Option State
  await_gate_step f below s = on_gate f λ base f'. gate_awaited (gate_number base s) base f' below s

  abbrev pub is_at_gate : ℕ → Waiting → Bool
  is_at_gate base (at_take b) = b == base
  is_at_gate base (at_await b) = b == base
  is_at_gate base _ = false

  abbrev pub waiting_at_gate : ℕ → List Goroutine → ℕ
  waiting_at_gate base [] = 0
  waiting_at_gate base (x ∷ xs) = if is_at_gate base x.waiting then suc (waiting_at_gate base xs) else waiting_at_gate base xs

  -- those that wait there are woken by 0
  abbrev pub woken : ℤ → ℕ → State → ℕ
  woken (pos zero) base s = waiting_at_gate base s.goroutines
  woken n base s = 0

  -- an add is always ready, and answers the new value, which wraps
  abbrev pub gate_added : Option ℤ → ℤ → ℕ → Frame → List Frame → State → Option State
  gate_added None k base f below s = None
  gate_added (Some n) k base f below s =
      let sum = wrapped I32 (n +ℤ k) in
      Some (set_gate base sum (moved g (with_more ((cell.whole sum ∷ []) ∷ []) f ∷ below) (1 + woken sum base s) s))

  abbrev pub gate_adds : List Frame → State → Value → Value → Frame → Option State
  gate_adds below s (cell.pointer base ∷ []) (cell.whole k ∷ []) f = gate_added (gate_number base s) k base f below s
  gate_adds below s _ _ f = None

  abbrev pub add_gate_step : Frame → List Frame → State → Option State
  add_gate_step f below s = on_pair f (gate_adds below s)

  -- ---- a goroutine that waits

  -- it may proceed as soon as it is ready, with any ready way, and takes no number
  abbrev pub gate_again : Option ℤ → Option ℤ → ℕ → Frame → List Frame → State → Option State
  gate_again (Some (pos zero)) None base f below s = Some (moved g (f ∷ below) 1 s)
  gate_again (Some (pos zero)) (Some n) base f below s = Some (set_gate base n (moved g (f ∷ below) 1 s))
  gate_again _ next base f below s = None

  abbrev pub way_if_ready : Option Offer → List Offer → Frame → List Frame → State → Option State
  way_if_ready None offers f below s = None
  way_if_ready (Some o) offers f below s = if offer_ready g s o then offer_taken (Some o) f below s else None

  abbrev pub waiting_step : Waiting → Frame → List Frame → State → Option State
  waiting_step able f below s = None
  waiting_step (at_channels offers) f below s = way_if_ready (slice_get offers move.way) offers f below s
  waiting_step (at_take base) f below s = gate_again (gate_number base s) (Some (pos 1)) base f below s
  waiting_step (at_await base) f below s = gate_again (gate_number base s) None base f below s

-- ---- who can move

abbrev pub is_zero : Value → Bool
is_zero (cell.whole (pos zero) ∷ []) = true
is_zero _ = false

abbrev pub waiting_ready : ℕ → State → Waiting → Bool
waiting_ready g s able = true
waiting_ready g s (at_channels offers) = any_ready g s offers
waiting_ready g s (at_take base) = is_zero (read_cells base 1 s.memory.cells)
waiting_ready g s (at_await base) = is_zero (read_cells base 1 s.memory.cells)

abbrev pub has_frames : List Frame → Bool
has_frames [] = false
has_frames (f ∷ fs) = true

abbrev pub can_move : ℕ → State → Goroutine → Bool
can_move g s x = has_frames x.frames && waiting_ready g s x.waiting

-- some goroutine, from the k-th on, can move
abbrev pub any_moves : ℕ → List Goroutine → State → Bool
any_moves k [] s = false
any_moves k (x ∷ xs) s = can_move k s x || any_moves (suc k) xs s

-- The numbers that the step of a goroutine takes: one at a select with several clauses that can proceed, else none.
use Rattle.std.proofs.Common.{refl}
use Rattle.std.specs.Prelude.{◌≡◌, ℕ, suc, ◌+◌, ◌%◌, List, [], ◌∷◌, length, Bool, true, false, not, Option, Some, None, drop, get_or}
use Rattle.go_type.specs.Underlying.{underlying}
use Rattle.go_core.specs.CoreTree.{Stmts, CoreProgram}
use Rattle.go_core.specs.Goroutine as gr
use Rattle.go_core.specs.Goroutine.{Task, Case, Frame, Offer, Goroutine, Waiting, State, Move, Popped, popped}
use Rattle.go_core.specs.Text.{output_of}
use Rattle.go_core.specs.Operator.{operated}
use Rattle.go_core.specs.Frames as f
use Rattle.go_core.specs.Calls as c
use Rattle.go_core.specs.Assign as a
use Rattle.go_core.specs.Control as k
use Rattle.go_core.specs.Panics as q
use Rattle.go_core.specs.Communicate as t
use Rattle.go_core.specs.GoStep as g
use Rattle.go_laws.specs.Selecting.{Selecting, with_offers, with_operands, select_at, select_in, select_of, select_by, ways_of, several}
use Rattle.go_laws.specs.Numbers.{number_at}
use Rattle.go_laws.proofs.Combine.{Taken, operands, operand, pair, choice, gate, did, and_taken, and_same, operand_same, pair_same}
use Rattle.go_laws.proofs.TakenStays as own
use Rattle.go_laws.proofs.TalkTakes as talk
use Rattle.go_laws.proofs.TalkTakes.{taken_after, Agree}

-- what a step by a select that a goroutine has come to is
abbrev pub By : CoreProgram → Move → List ℕ → Selecting → List ℕ → State → Option State → Type 0
By p move choices c (v ∷ w ∷ ws) s o =
    o ≡ t.way_taken p move.goroutine move (get_or (v ∷ w ∷ ws) (number_at choices s.taken % length (v ∷ w ∷ ws)) v) c.offers c.frame c.below
    (record s { units = s.units + t.case_count p move.goroutine move c.clauses; taken = suc s.taken })
By p move choices c ws s o = Unit {0}

abbrev pub Chosen : CoreProgram → Move → List ℕ → Option Selecting → State → Option State → Type 0
Chosen p move choices None s o = Unit {0}
Chosen p move choices (Some c) s o = By p move choices c (t.ready_ways move.goroutine s 0 c.offers) s o

module _ (p : CoreProgram) (move : Move) where
  -- ---- a select: how many numbers it takes

  offered : (choices : List ℕ) (cases : List Case) (b : Bool) (body : Stmts) (o : Option (List Offer)) (fr : Frame) (below : List Frame) (s : State)
      → Taken (taken_after (several (ways_of p move (with_offers p move cases o fr below) s)) s.taken)
      (t.select_with p move.goroutine move choices (t.case_count p move.goroutine move cases) b body o fr below s)
  offered choices cases b body None fr below s = tt
  offered choices cases b body (Some os) fr below s =
      talk.reached p move.goroutine move choices (t.default_tasks p move.goroutine move b body) (t.case_count p move.goroutine move cases) os
      (t.ready_ways move.goroutine s 0 os) fr below s

  selects : (choices : List ℕ) (cases : List Case) (b : Bool) (body : Stmts) (o : Option Popped) (fr : Frame) (below : List Frame) (s : State)
      → Taken (taken_after (several (ways_of p move (with_operands p move cases o fr below) s)) s.taken)
      (f.with_popped o fr λ vs f'. t.select_with p move.goroutine move choices (t.case_count p move.goroutine move cases) b body (t.offers_from p move.goroutine move cases vs) f' below s)
  selects choices cases b body None fr below s = tt
  selects choices cases b body (Some q) fr below s = offered choices cases b body (t.offers_from p move.goroutine move cases q.operands) (f.with_values q.others fr) below s

  -- ---- which way it takes

  by_ways : (choices : List ℕ) (cases : List Case) (d : Option (List Task → List Task)) (os : List Offer) (ws : List ℕ) (fr : Frame) (below : List Frame) (s : State)
      → By p move choices (record { offers = os; clauses = cases; frame = fr; below = below }) ws s
      (t.reached p move.goroutine move choices d (t.case_count p move.goroutine move cases) os ws fr below s)
  by_ways choices cases d os [] fr below s = tt
  by_ways choices cases d os (w ∷ []) fr below s = tt
  by_ways choices cases d os (v ∷ w ∷ ws) fr below s = talk.chosen p move.goroutine move choices d (t.case_count p move.goroutine move cases) os v w ws fr below s

  offers_chosen : (choices : List ℕ) (cases : List Case) (b : Bool) (body : Stmts) (o : Option (List Offer)) (fr : Frame) (below : List Frame) (s : State)
      → Chosen p move choices (with_offers p move cases o fr below) s
      (t.select_with p move.goroutine move choices (t.case_count p move.goroutine move cases) b body o fr below s)
  offers_chosen choices cases b body None fr below s = tt
  offers_chosen choices cases b body (Some os) fr below s =
      by_ways choices cases (t.default_tasks p move.goroutine move b body) os (t.ready_ways move.goroutine s 0 os) fr below s

  select_chosen : (choices : List ℕ) (cases : List Case) (b : Bool) (body : Stmts) (o : Option Popped) (fr : Frame) (below : List Frame) (s : State)
      → Chosen p move choices (with_operands p move cases o fr below) s
      (f.with_popped o fr λ vs f'. t.select_with p move.goroutine move choices (t.case_count p move.goroutine move cases) b body (t.offers_from p move.goroutine move cases vs) f' below s)
  select_chosen choices cases b body None fr below s = tt
  select_chosen choices cases b body (Some q) fr below s = offers_chosen choices cases b body (t.offers_from p move.goroutine move cases q.operands) (f.with_values q.others fr) below s

  -- ---- with other choices

  offers_same : (choices choices' : List ℕ) (cases : List Case) (b : Bool) (body : Stmts) (o : Option (List Offer)) (fr : Frame) (below : List Frame) (s : State)
      → Agree (several (ways_of p move (with_offers p move cases o fr below) s)) s.taken choices choices'
      → t.select_with p move.goroutine move choices (t.case_count p move.goroutine move cases) b body o fr below s
      ≡ t.select_with p move.goroutine move choices' (t.case_count p move.goroutine move cases) b body o fr below s
  offers_same choices choices' cases b body None fr below s h = refl
  offers_same choices choices' cases b body (Some os) fr below s h =
      talk.agreed p move.goroutine move choices choices' (t.default_tasks p move.goroutine move b body) (t.case_count p move.goroutine move cases) os
      (t.ready_ways move.goroutine s 0 os) fr below s h

  select_same : (choices choices' : List ℕ) (cases : List Case) (b : Bool) (body : Stmts) (o : Option Popped) (fr : Frame) (below : List Frame) (s : State)
      → Agree (several (ways_of p move (with_operands p move cases o fr below) s)) s.taken choices choices'
      → f.with_popped o fr (λ vs f'. t.select_with p move.goroutine move choices (t.case_count p move.goroutine move cases) b body (t.offers_from p move.goroutine move cases vs) f' below s)
      ≡ f.with_popped o fr (λ vs f'. t.select_with p move.goroutine move choices' (t.case_count p move.goroutine move cases) b body (t.offers_from p move.goroutine move cases vs) f' below s)
  select_same choices choices' cases b body None fr below s h = refl
  select_same choices choices' cases b body (Some q) fr below s h =
      offers_same choices choices' cases b body (t.offers_from p move.goroutine move cases q.operands) (f.with_values q.others fr) below s h

  -- ---- one case for each task

  task : (choices : List ℕ) (x : Task) (fr : Frame) (below : List Frame) (s : State)
      → Taken (taken_after (several (ways_of p move (select_at p move x fr below) s)) s.taken) (g.task_step p choices move move.goroutine x fr below s)
  task choices (gr.operate op j) fr below s = operands s.taken j fr _ λ vs fr'. did p.hidden move.goroutine (operated p move.capacity op vs s.memory) fr' below s
  task choices (gr.at_local v) fr below s = own.local_var p choices move move.goroutine _ fr below s
  task choices (gr.make_closure func) fr below s = own.closure p choices move move.goroutine func _ fr below s
  task choices (gr.only_where_true e) fr below s = choice s.taken fr _ λ b fr'. own.right_or p move.goroutine b false e fr' below s
  task choices (gr.only_where_false e) fr below s = choice s.taken fr _ λ b fr'. own.right_or p move.goroutine (not b) true e fr' below s
  task choices (gr.bind_vars vs) fr below s = own.binds p move.goroutine vs fr below s
  task choices (gr.declare_var v) fr below s = own.declares p move.goroutine v fr below s
  task choices (gr.assign ts j) fr below s = operands s.taken j fr _ λ xs fr'. operands s.taken (a.target_operands p move.goroutine ts) fr' _ λ os fr''. own.assigns p move.goroutine ts os xs fr'' below s
  task choices (gr.assign_rest ts os vs) fr below s = own.assigns p move.goroutine ts os vs fr below s
  task choices (gr.set_globals ns) fr below s = own.sets_globals p move.goroutine ns fr below s
  task choices (gr.choose x y) fr below s = choice s.taken fr _ λ b fr'. refl
  task choices (gr.turn label cond body post) fr below s = own.turns p move.goroutine label cond body post fr below s
  task choices (gr.turn_again label cond body post) fr below s = refl
  task choices (gr.choose_clause j ts cs d) fr below s = choice s.taken fr _ λ b fr'. own.clause p move.goroutine b j ts cs d fr' below s
  task choices (gr.choose_default cs d) fr below s = own.default p move.goroutine cs d fr below s
  task choices (gr.begin_range rg) fr below s = operand s.taken fr _ λ x fr'. own.begun_with p move.goroutine (k.is_nil_array p move.goroutine (underlying p.names rg.from) x) x rg fr' below s
  task choices (gr.next_range rg cur) fr below s = own.range_on p move.goroutine (k.next_of p move.goroutine (underlying p.names rg.from) move.birth cur s.memory) rg fr below s
  task choices (gr.branch_to kind label) fr below s = refl
  task choices (gr.call_with x j) fr below s = operands s.taken j fr _ λ vs fr'. own.calls p move.goroutine (c.resolved p x fr'.places vs) fr' below s
  task choices (gr.go_with x j) fr below s = operands s.taken j fr _ λ vs fr'. own.starts p move.goroutine (c.resolved p x fr'.places vs) fr' below s
  task choices (gr.defer_with x j) fr below s = operands s.taken j fr _ λ vs fr'. own.defers p move.goroutine (c.resolved p x fr'.places vs) fr' below s
  task choices (gr.receive_through v) fr below s = operand s.taken fr (c.read_through p move.goroutine v below s) (own.read_through p move.goroutine v below s)
  task choices (gr.return_with j) fr below s = own.returns p move.goroutine j fr below s
  task choices gr.panic_with fr below s = operand s.taken fr (q.raised p move.goroutine below s) (own.raised p move.goroutine below s)
  task choices gr.recover_here fr below s = own.recovered p move.goroutine fr.purpose fr below s
  task choices (gr.send_to ty) fr below s =
      pair s.taken fr _ λ x y fr'. and_taken s.taken (t.named_channel x) _ λ name. talk.single p move.goroutine move choices (t.send_offer p move.goroutine move ty name y []) fr' below s
  task choices (gr.receive_from ty ok) fr below s =
      operand s.taken fr _ λ x fr'. and_taken s.taken (t.named_channel x) _ λ name. talk.single p move.goroutine move choices (t.receive_offer p move.goroutine move ty name (t.one_or_two p move.goroutine move ok) []) fr' below s
  task choices gr.close_channel fr below s = operand s.taken fr _ λ x fr'. and_taken s.taken (t.named_channel x) _ λ name. talk.closes p move.goroutine move name fr' below s
  task choices (gr.select_from label cases j b body) fr below s = selects choices cases b body (popped j fr.values) fr below s
  task choices gr.take_gate fr below s = gate s.taken p move.goroutine move fr _ λ b fr'. talk.takes_gate p move.goroutine move _ b fr' below s
  task choices gr.add_to_gate fr below s = pair s.taken fr (t.gate_adds p move.goroutine move below s) (talk.gate_adds p move.goroutine move below s)
  task choices gr.await_gate fr below s = gate s.taken p move.goroutine move fr _ λ b fr'. talk.awaits_gate p move.goroutine move _ b fr' below s
  task choices gr.yield_turn fr below s = refl
  task choices (gr.print_values j ends_line) fr below s = operands s.taken j fr _ λ vs fr'. own.prints p choices move move.goroutine (output_of ends_line vs) fr' below s
  task choices gr.exit_with fr below s = operand s.taken fr (g.exited p choices move move.goroutine below s) (own.exits p choices move move.goroutine below s)
  task choices gr.fatal_with fr below s = operand s.taken fr (g.failed_fatally p choices move move.goroutine below s) (own.fails_fatally p choices move move.goroutine below s)
  task choices gr.finish fr below s = refl
  task choices (gr.drop_values j) fr below s = tt
  task choices (gr.push_value x) fr below s = tt
  task choices (gr.leave label) fr below s = tt

  task_chosen : (choices : List ℕ) (x : Task) (fr : Frame) (below : List Frame) (s : State)
      → Chosen p move choices (select_at p move x fr below) s (g.task_step p choices move move.goroutine x fr below s)
  task_chosen choices (gr.select_from label cases j b body) fr below s = select_chosen choices cases b body (popped j fr.values) fr below s
  task_chosen choices x fr below s = tt

  task_same : (choices choices' : List ℕ) (x : Task) (fr : Frame) (below : List Frame) (s : State)
      → Agree (several (ways_of p move (select_at p move x fr below) s)) s.taken choices choices'
      → g.task_step p choices move move.goroutine x fr below s ≡ g.task_step p choices' move move.goroutine x fr below s
  task_same choices choices' (gr.select_from label cases j b body) fr below s h = select_same choices choices' cases b body (popped j fr.values) fr below s h
  task_same choices choices' (gr.send_to ty) fr below s h =
      pair_same fr _ _ λ x y fr'. and_same (t.named_channel x) _ _ λ name. talk.single_same p move.goroutine move choices choices' (t.send_offer p move.goroutine move ty name y []) fr' below s
  task_same choices choices' (gr.receive_from ty ok) fr below s h =
      operand_same fr _ _ λ x fr'. and_same (t.named_channel x) _ _ λ name. talk.single_same p move.goroutine move choices choices' (t.receive_offer p move.goroutine move ty name (t.one_or_two p move.goroutine move ok) []) fr' below s
  task_same choices choices' x fr below s h = refl

  -- ---- what is no step is passed over

  tasks : (choices : List ℕ) (ts : List Task) (fr : Frame) (below : List Frame) (s : State)
      → Taken (taken_after (several (ways_of p move (select_in p move ts fr below) s)) s.taken) (g.tasks_step p choices move move.goroutine ts fr below s)
  tasks choices [] fr below s = own.ends p move.goroutine fr.deferred_calls _ below s
  tasks choices (gr.drop_values j ∷ ts) fr below s = tasks choices ts (record fr { values = drop j fr.values }) below s
  tasks choices (gr.push_value x ∷ ts) fr below s = tasks choices ts (record fr { values = x ∷ fr.values }) below s
  tasks choices (gr.leave label ∷ ts) fr below s = tasks choices ts fr below s
  tasks choices (x ∷ ts) fr below s = task choices x (record fr { tasks = ts }) below s

  tasks_chosen : (choices : List ℕ) (ts : List Task) (fr : Frame) (below : List Frame) (s : State)
      → Chosen p move choices (select_in p move ts fr below) s (g.tasks_step p choices move move.goroutine ts fr below s)
  tasks_chosen choices [] fr below s = tt
  tasks_chosen choices (gr.drop_values j ∷ ts) fr below s = tasks_chosen choices ts (record fr { values = drop j fr.values }) below s
  tasks_chosen choices (gr.push_value x ∷ ts) fr below s = tasks_chosen choices ts (record fr { values = x ∷ fr.values }) below s
  tasks_chosen choices (gr.leave label ∷ ts) fr below s = tasks_chosen choices ts fr below s
  tasks_chosen choices (x ∷ ts) fr below s = task_chosen choices x (record fr { tasks = ts }) below s

  tasks_same : (choices choices' : List ℕ) (ts : List Task) (fr : Frame) (below : List Frame) (s : State)
      → Agree (several (ways_of p move (select_in p move ts fr below) s)) s.taken choices choices'
      → g.tasks_step p choices move move.goroutine ts fr below s ≡ g.tasks_step p choices' move move.goroutine ts fr below s
  tasks_same choices choices' [] fr below s h = refl
  tasks_same choices choices' (gr.drop_values j ∷ ts) fr below s h = tasks_same choices choices' ts (record fr { values = drop j fr.values }) below s h
  tasks_same choices choices' (gr.push_value x ∷ ts) fr below s h = tasks_same choices choices' ts (record fr { values = x ∷ fr.values }) below s h
  tasks_same choices choices' (gr.leave label ∷ ts) fr below s h = tasks_same choices choices' ts fr below s h
  tasks_same choices choices' (x ∷ ts) fr below s h = task_same choices choices' x (record fr { tasks = ts }) below s h

  -- ---- a goroutine

  frames : (choices : List ℕ) (w : Waiting) (fs : List Frame) (s : State)
      → Taken (taken_after (several (ways_of p move (select_of p move w fs) s)) s.taken) (g.frames_step p choices move move.goroutine w fs s)
  frames choices gr.able [] s = tt
  frames choices gr.able (fr ∷ below) s = tasks choices fr.tasks fr below s
  frames choices (gr.at_channels os) [] s = tt
  frames choices (gr.at_channels os) (fr ∷ below) s = talk.waiting p move.goroutine move (gr.at_channels os) fr below s
  frames choices (gr.at_take b) [] s = tt
  frames choices (gr.at_take b) (fr ∷ below) s = talk.waiting p move.goroutine move (gr.at_take b) fr below s
  frames choices (gr.at_await b) [] s = tt
  frames choices (gr.at_await b) (fr ∷ below) s = talk.waiting p move.goroutine move (gr.at_await b) fr below s

  frames_chosen : (choices : List ℕ) (w : Waiting) (fs : List Frame) (s : State)
      → Chosen p move choices (select_of p move w fs) s (g.frames_step p choices move move.goroutine w fs s)
  frames_chosen choices gr.able [] s = tt
  frames_chosen choices gr.able (fr ∷ below) s = tasks_chosen choices fr.tasks fr below s
  frames_chosen choices (gr.at_channels os) fs s = tt
  frames_chosen choices (gr.at_take b) fs s = tt
  frames_chosen choices (gr.at_await b) fs s = tt

  frames_same : (choices choices' : List ℕ) (w : Waiting) (fs : List Frame) (s : State)
      → Agree (several (ways_of p move (select_of p move w fs) s)) s.taken choices choices'
      → g.frames_step p choices move move.goroutine w fs s ≡ g.frames_step p choices' move move.goroutine w fs s
  frames_same choices choices' gr.able [] s h = refl
  frames_same choices choices' gr.able (fr ∷ below) s h = tasks_same choices choices' fr.tasks fr below s h
  frames_same choices choices' (gr.at_channels os) [] s h = refl
  frames_same choices choices' (gr.at_channels os) (fr ∷ below) s h = refl
  frames_same choices choices' (gr.at_take b) [] s h = refl
  frames_same choices choices' (gr.at_take b) (fr ∷ below) s h = refl
  frames_same choices choices' (gr.at_await b) [] s h = refl
  frames_same choices choices' (gr.at_await b) (fr ∷ below) s h = refl

  pub takes : (choices : List ℕ) (x : Option Goroutine) (s : State)
      → Taken (taken_after (several (ways_of p move (select_by p move x) s)) s.taken) (g.goroutine_step p choices move move.goroutine x s)
  takes choices None s = tt
  takes choices (Some x) s = frames choices x.waiting x.frames s

  pub chosen : (choices : List ℕ) (x : Option Goroutine) (s : State)
      → Chosen p move choices (select_by p move x) s (g.goroutine_step p choices move move.goroutine x s)
  chosen choices None s = tt
  chosen choices (Some x) s = frames_chosen choices x.waiting x.frames s

  pub same : (choices choices' : List ℕ) (x : Option Goroutine) (s : State)
      → Agree (several (ways_of p move (select_by p move x) s)) s.taken choices choices'
      → g.goroutine_step p choices move move.goroutine x s ≡ g.goroutine_step p choices' move move.goroutine x s
  same choices choices' None s h = refl
  same choices choices' (Some x) s h = frames_same choices choices' x.waiting x.frames s h

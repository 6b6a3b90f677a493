-- No number is taken by a step that is no communication: calls, results, assignments, control, panics, output.
use Rattle.std.proofs.Common.{refl}
use Rattle.std.specs.Prelude.{ℕ, zero, suc, List, [], ◌∷◌, length, Bool, true, false, Option, Some, None}
use Rattle.go_type.specs.Tree.{Ty}
use Rattle.go_core.specs.Memory as cell
use Rattle.go_core.specs.Memory.{Scalar, Value, Memory}
use Rattle.go_core.specs.CoreTree as core
use Rattle.go_core.specs.CoreTree.{Expr, Bound, no_bound, Stmts, Tests, Clauses, Target, Var, CoreFunc, MethodRow, CoreProgram}
use Rattle.go_core.specs.Did.{Did, gives, panics, no_step}
use Rattle.go_core.specs.Goroutine.{Frame, State, Move, Purpose, called, deferred, reporting, Mode, normal, returning, panicking, Invocation, invoke, nothing_to_invoke, Ranged, Cursor}
use Rattle.go_core.specs.Calls as c
use Rattle.go_core.specs.Calls.{Bindings, Entered, Resolved, ready, nil_function, nil_interface, unresolved}
use Rattle.go_core.specs.Assign as a
use Rattle.go_core.specs.Assign.{Found, found, fails, lost}
use Rattle.go_core.specs.Control as k
use Rattle.go_core.specs.Panics as q
use Rattle.go_core.specs.GoStep as g
use Rattle.go_laws.proofs.Combine.{Taken, operands, choice}

module _ (p : CoreProgram) (n : ℕ) where
  -- ---- calls and results

  above : (e : Option Entered) (fr : Frame) (below : List Frame) (s : State)
      → Taken s.taken (c.entered_above p n e fr below s)
  above None fr below s = tt
  above (Some e) fr below s = refl

  started : (e : Option Entered) (fr : Frame) (below : List Frame) (s : State)
      → Taken s.taken (c.started p n e fr below s)
  started None fr below s = tt
  started (Some e) fr below s = refl

  pub calls : (x : Resolved) (fr : Frame) (below : List Frame) (s : State)
      → Taken s.taken (c.called_step p n x fr below s)
  calls (ready func bases row vs) fr below s = above _ fr below s
  calls nil_function fr below s = refl
  calls nil_interface fr below s = refl
  calls unresolved fr below s = tt

  pub starts : (x : Resolved) (fr : Frame) (below : List Frame) (s : State)
      → Taken s.taken (c.go_resolved p n x fr below s)
  starts (ready func bases row vs) fr below s = started _ fr below s
  starts nil_function fr below s = refl
  starts nil_interface fr below s = refl
  starts unresolved fr below s = tt

  pub defers : (x : Resolved) (fr : Frame) (below : List Frame) (s : State)
      → Taken s.taken (c.defer_resolved p n x fr below s)
  defers (ready func bases row vs) fr below s = refl
  defers nil_function fr below s = refl
  defers nil_interface fr below s = refl
  defers unresolved fr below s = tt

  receiver_read : (v : Var) (b : ℕ) (o : Option ℕ) (fr : Frame) (below : List Frame) (s : State)
      → Taken s.taken (c.receiver_read p n v b o fr below s)
  receiver_read v b None fr below s = tt
  receiver_read v b (Some d) fr below s = refl

  pub read_through : (v : Var) (below : List Frame) (s : State) (x : Value) (fr : Frame)
      → Taken s.taken (c.read_through p n v below s x fr)
  read_through v below s (cell.pointer b ∷ []) fr = receiver_read v b _ fr below s
  read_through v below s (cell.nil ∷ []) fr = refl
  read_through v below s _ fr = tt

  returned : (o : Option Memory) (u : ℕ) (fr : Frame) (below : List Frame) (s : State)
      → Taken s.taken (c.returned_with p n o u fr below s)
  returned None u fr below s = tt
  returned (Some m) u fr below s = refl

  pub returns : (j : ℕ) (fr : Frame) (below : List Frame) (s : State) → Taken s.taken (c.return_step p n j fr below s)
  returns zero fr below s = refl
  returns (suc j) fr below s = operands s.taken (suc j) fr _ λ vs fr'. returned _ _ fr' below s

  -- ---- assignments and declarations

  stored_at : (x : Found) (ty : Ty) (nodes : ℕ) (ts : List Target) (v : Value) (vs : List Value) (fr : Frame) (below : List Frame) (s : State)
      → Taken s.taken (a.stored_at p n x ty nodes ts v vs fr below s)
  stored_at (found base others) ty nodes ts v vs fr below s = refl
  stored_at (fails x) ty nodes ts v vs fr below s = refl
  stored_at lost ty nodes ts v vs fr below s = tt

  entry_stored : (d : Did) (ts : List Target) (others vs : List Value) (fr : Frame) (below : List Frame) (s : State)
      → Taken s.taken (a.entry_stored p n d ts others vs fr below s)
  entry_stored (gives ws m u) ts others vs fr below s = refl
  entry_stored (panics x u) ts others vs fr below s = refl
  entry_stored no_step ts others vs fr below s = tt

  pub assigns : (ts : List Target) (os vs : List Value) (fr : Frame) (below : List Frame) (s : State)
      → Taken s.taken (a.assign_step p n ts os vs fr below s)
  assigns [] os vs fr below s = refl
  assigns (core.blank ∷ ts) os (x ∷ xs) fr below s = refl
  assigns (core.blank ∷ ts) os [] fr below s = tt
  assigns (core.to_place ty place ∷ ts) os (x ∷ xs) fr below s = stored_at (a.found_place p fr.places s.memory place os) ty (a.depth place) ts x xs fr below s
  assigns (core.to_place ty place ∷ ts) os [] fr below s = tt
  assigns (core.to_entry ty e key ∷ ts) (y ∷ z ∷ others) (x ∷ xs) fr below s = entry_stored _ ts others xs fr below s
  assigns (core.to_entry ty e key ∷ ts) _ _ fr below s = tt

  bound : (b : Option Bindings) (fr : Frame) (below : List Frame) (s : State)
      → Taken s.taken (a.bound_step p n b fr below s)
  bound None fr below s = tt
  bound (Some b) fr below s = refl

  pub declares : (v : Var) (fr : Frame) (below : List Frame) (s : State)
      → Taken s.taken (a.declare_step p n v fr below s)
  declares v fr below s = refl

  pub binds : (vs : List Var) (fr : Frame) (below : List Frame) (s : State)
      → Taken s.taken (a.bind_step p n vs fr below s)
  binds vs fr below s = operands s.taken (length vs) fr _ λ xs fr'. bound (c.with_vars p.names vs xs (a.bindings p n fr' s)) fr' below s

  pub sets_globals : (ns : List ℕ) (fr : Frame) (below : List Frame) (s : State)
      → Taken s.taken (a.set_globals_step p n ns fr below s)
  sets_globals ns fr below s = operands s.taken (length ns) fr _ λ xs fr'. refl

  -- ---- control

  pub right_or : (b v : Bool) (e : Expr) (fr : Frame) (below : List Frame) (s : State)
      → Taken s.taken (k.right_or p n b v e fr below s)
  right_or true v e fr below s = refl
  right_or false v e fr below s = refl

  turned : (b : Bool) (label : ℕ) (cond : Bound) (body post : Stmts) (fr : Frame) (below : List Frame) (s : State)
      → Taken s.taken (k.turned p n b label cond body post fr below s)
  turned true label cond body post fr below s = refl
  turned false label cond body post fr below s = refl

  pub turns : (label : ℕ) (cond : Bound) (body post : Stmts) (fr : Frame) (below : List Frame) (s : State)
      → Taken s.taken (k.turn_step p n label cond body post fr below s)
  turns label no_bound body post fr below s = refl
  turns label (core.bound e) body post fr below s = choice s.taken fr _ λ b fr'. turned b label (core.bound e) body post fr' below s

  pub clause : (b : Bool) (j : ℕ) (ts : Tests) (cs : Clauses) (d : Option ℕ) (fr : Frame) (below : List Frame) (s : State)
      → Taken s.taken (k.clause_or_next p n b j ts cs d fr below s)
  clause true j ts cs d fr below s = refl
  clause false j ts cs d fr below s = refl

  pub default : (cs : Clauses) (d : Option ℕ) (fr : Frame) (below : List Frame) (s : State)
      → Taken s.taken (k.default_step p n cs d fr below s)
  default cs None fr below s = refl
  default cs (Some j) fr below s = refl

  begun : (x : Option Cursor) (rg : Ranged) (fr : Frame) (below : List Frame) (s : State)
      → Taken s.taken (k.range_begun p n x rg fr below s)
  begun None rg fr below s = tt
  begun (Some x) rg fr below s = refl

  pub begun_with : (b : Bool) (x : Value) (rg : Ranged) (fr : Frame) (below : List Frame) (s : State)
      → Taken s.taken (k.begun_with p n b x rg fr below s)
  begun_with true x rg fr below s = refl
  begun_with false x rg fr below s = begun _ rg fr below s

  range_turn : (o : Option Memory) (rg : Ranged) (cur : Cursor) (fr : Frame) (below : List Frame) (s : State)
      → Taken s.taken (k.range_turn p n o rg cur fr below s)
  range_turn None rg cur fr below s = tt
  range_turn (Some m) rg cur fr below s = refl

  pub range_on : (x : k.Next p n) (rg : Ranged) (fr : Frame) (below : List Frame) (s : State)
      → Taken s.taken (k.range_on p n x rg fr below s)
  range_on (k.next key v cur) rg fr below s = range_turn _ rg cur fr below s
  range_on k.over rg fr below s = refl
  range_on k.not_so rg fr below s = tt

  -- ---- panics and ends

  pub raised : (below : List Frame) (s : State) (x : Value) (fr : Frame) → Taken s.taken (q.raised p n below s x fr)
  raised below s [] fr = tt
  raised below s (x ∷ []) fr = refl
  raised below s (x ∷ y ∷ xs) fr = tt

  recovered_from : (mode : Mode) (fr fr' : Frame) (below : List Frame) (s : State)
      → Taken s.taken (q.recovered_from p n mode fr fr' below s)
  recovered_from (panicking v) fr fr' below s = refl
  recovered_from normal fr fr' below s = refl
  recovered_from returning fr fr' below s = refl

  pub recovered : (purpose : Purpose) (fr : Frame) (below : List Frame) (s : State)
      → Taken s.taken (q.recovered p n purpose fr below s)
  recovered deferred fr (fr' ∷ below) s = recovered_from fr'.mode fr fr' below s
  recovered deferred fr [] s = refl
  recovered called fr below s = refl
  recovered reporting fr below s = refl

  deferred_above : (e : Option Entered) (fr : Frame) (below : List Frame) (s : State)
      → Taken s.taken (q.deferred_above p n e fr below s)
  deferred_above None fr below s = tt
  deferred_above (Some e) fr below s = refl

  deferred_runs : (i : Invocation) (fr : Frame) (below : List Frame) (s : State)
      → Taken s.taken (q.deferred_step p n i fr below s)
  deferred_runs (invoke func bases row vs) fr below s = deferred_above _ fr below s
  deferred_runs nothing_to_invoke fr below s = refl

  given_below : (vs : List Value) (below : List Frame) (s : State) → Taken s.taken (q.given_below p n vs below s)
  given_below vs [] s = refl
  given_below vs (fr ∷ below) s = refl

  reported : (vs : List Value) (s : State) → Taken s.taken (q.reported p n vs s)
  reported ((cell.text bytes ∷ []) ∷ []) s = refl
  reported _ s = tt

  ended_with : (purpose : Purpose) (vs : Option (List Value)) (below : List Frame) (s : State)
      → Taken s.taken (q.ended_with p n purpose vs below s)
  ended_with purpose None below s = tt
  ended_with called (Some vs) below s = given_below vs below s
  ended_with deferred (Some vs) below s = refl
  ended_with reporting (Some vs) below s = reported vs s

  report_with : (v : Scalar) (e : Option Entered) (s : State) → Taken s.taken (q.report_with p n v e s)
  report_with v None s = tt
  report_with v (Some e) s = refl

  report_by : (row : Option MethodRow) (j : ℕ) (v : Scalar) (s : State) → Taken s.taken (q.report_by p n row j v s)
  report_by None j v s = tt
  report_by (Some row) j v s = report_with v _ s

  report_begun : (v : Scalar) (row : Option ℕ) (s : State) → Taken s.taken (q.report_begun p n v row s)
  report_begun v None s = refl
  report_begun v (Some j) s = report_by _ j v s

  removed : (purpose : Purpose) (v : Scalar) (below : List Frame) (s : State)
      → Taken s.taken (q.removed_panicking p n purpose v below s)
  removed reporting v below s = refl
  removed called v (fr ∷ below) s = refl
  removed called v [] s = report_begun v _ s
  removed deferred v (fr ∷ below) s = refl
  removed deferred v [] s = report_begun v _ s

  end_by_mode : (mode : Mode) (fr : Frame) (below : List Frame) (s : State)
      → Taken s.taken (q.end_by_mode p n mode fr below s)
  end_by_mode (panicking v) fr below s = removed fr.purpose v below s
  end_by_mode normal fr below s = ended_with fr.purpose _ below s
  end_by_mode returning fr below s = ended_with fr.purpose _ below s

  pub ends : (is : List Invocation) (fr : Frame) (below : List Frame) (s : State)
      → Taken s.taken (q.ended_step p n is fr below s)
  ends [] fr below s = end_by_mode fr.mode fr below s
  ends (i ∷ is) fr below s = deferred_runs i _ below s

-- ---- variables, closures, output, ends

module _ (p : CoreProgram) (choices : List ℕ) (move : Move) (n : ℕ) where
  pub local_var : (o : Option ℕ) (fr : Frame) (below : List Frame) (s : State)
      → Taken s.taken (g.local_step p choices move n o fr below s)
  local_var None fr below s = tt
  local_var (Some b) fr below s = refl

  closes_over : (func : ℕ) (o : Option (List ℕ)) (fr : Frame) (below : List Frame) (s : State)
      → Taken s.taken (g.closure_with p choices move n func o fr below s)
  closes_over func None fr below s = tt
  closes_over func (Some bases) fr below s = refl

  pub closure : (func : ℕ) (o : Option CoreFunc) (fr : Frame) (below : List Frame) (s : State)
      → Taken s.taken (g.closure_step p choices move n func o fr below s)
  closure func None fr below s = tt
  closure func (Some fn) fr below s = closes_over func _ fr below s

  pub prints : (output : List ℕ) (fr : Frame) (below : List Frame) (s : State)
      → Taken s.taken (g.with_printed p choices move n output fr below s)
  prints output fr below s = refl

  pub exits : (below : List Frame) (s : State) (x : Value) (fr : Frame)
      → Taken s.taken (g.exited p choices move n below s x fr)
  exits below s (cell.whole j ∷ []) fr = refl
  exits below s _ fr = tt

  pub fails_fatally : (below : List Frame) (s : State) (x : Value) (fr : Frame)
      → Taken s.taken (g.failed_fatally p choices move n below s x fr)
  fails_fatally below s (cell.text bytes ∷ []) fr = refl
  fails_fatally below s _ fr = tt

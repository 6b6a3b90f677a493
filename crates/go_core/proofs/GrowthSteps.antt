-- That a state only grows under each step.
use Rattle.std.proofs.Common.{refl, ap, ◌∙◌, arith}
use Rattle.std.specs.Prelude.{◌≡◌, ◌≤◌, ℕ, zero, suc, ◌+◌, ◌%◌, ◌==◌, ℤ, pos, negsuc, ◌+ℤ◌, List, [], ◌∷◌, ◌++◌, length, Bool, true, false, not, if◌then◌else◌, nat_lt, Option, Some, None, slice_get, take, drop, get_or, option_and_then}
use Rattle.std.proofs.lemmas.List.{append_assoc}
use Rattle.go_type.specs.Tree.{Ty}
use Rattle.go_type.specs.Named.{NamedTy}
use Rattle.go_type.specs.Underlying.{underlying}
use Rattle.go_core.specs.Layout.{shape_of, size}
use Rattle.go_core.specs.Memory as cell
use Rattle.go_core.specs.Memory.{Scalar, Value, Memory, Channel, with_written, read_cells, zeros, set_channel}
use Rattle.go_core.specs.CoreTree as core
use Rattle.go_core.specs.CoreTree.{Expr, Bound, no_bound, Stmts, Tests, Clauses, Target, Var, CoreFunc, MethodRow, CoreProgram}
use Rattle.gj_base.specs.declared.kind.Kind.TheVariants.{I32}
use Rattle.go_core.specs.Arithmetic.{wrapped}
use Rattle.go_core.specs.Did.{Did, gives, panics, no_step}
use Rattle.go_core.specs.Goroutine as gr
use Rattle.go_core.specs.Goroutine.{Task, Frame, Goroutine, Waiting, Offer, sending, receiving, Place, Popped, popped, State, End, going, exit, panicked, fatal, Move, moved, with_memory, Purpose, called, deferred, reporting, Mode, normal, returning, panicking, Invocation, invoke, nothing_to_invoke, Called, Ranged, Cursor, Case}
use Rattle.go_core.specs.Frames as f
use Rattle.go_core.specs.Calls as c
use Rattle.go_core.specs.Calls.{Bindings, Entered, Adapted, Receiver, as_it_is, through, to_a_copy, Resolved, ready, nil_function, nil_interface, unresolved}
use Rattle.go_core.specs.StepMemory.{global_base}
use Rattle.go_core.specs.Assign as a
use Rattle.go_core.specs.Assign.{Found, found, fails, lost}
use Rattle.go_core.specs.Control as k
use Rattle.go_core.specs.Panics as q
use Rattle.go_core.specs.Communicate as t
use Rattle.go_core.specs.GoStep as g
use Rattle.go_core.specs.Run as r
use Rattle.go_core.specs.Growth.{MemoryGrows, Grows, OnStep, StepsGrow, RunsGrow}
use Rattle.go_core.proofs.GrowthLemmas.{same, later, writes, makes, sets_channel, DidGrow}
use Rattle.go_core.proofs.GrowthOperators.{operators, map_set}

nil_right : (xs : List ℕ) → xs ≡ xs ++ []
nil_right [] = refl
nil_right (x ∷ xs) = ap (λ ys. x ∷ ys) (nil_right xs)

at_most : (x : ℕ) → x ≤ x
at_most x = omega arith

with_more : (x u : ℕ) → x ≤ x + u
with_more x u = omega arith

one_more : (x : ℕ) → x ≤ suc x
one_more x = omega arith

chain : (x y z : ℕ) → x ≤ y → y ≤ z → x ≤ z
chain x y z h l = omega arith

-- nothing is printed, and no number is taken
to : (s : State) (gs : List Goroutine) (m : Memory) (u : ℕ) (e : End) → MemoryGrows s.memory m
    → Grows s (record { goroutines = gs; memory = m; printed = s.printed; taken = s.taken; units = s.units + u; end = e })
to s gs m u e h = record { memory_grows = h; more = []; printed_grows = nil_right s.printed; taken_rises = at_most s.taken; units_rise = with_more s.units u }

-- the memory stays too
kept : (s : State) (gs : List Goroutine) (u : ℕ) (e : End)
    → Grows s (record { goroutines = gs; memory = s.memory; printed = s.printed; taken = s.taken; units = s.units + u; end = e })
kept s gs u e = to s gs s.memory u e (same s.memory)

then_grows : (x y z : State) → Grows x y → Grows y z → Grows x z
then_grows x y z h l = record {
  memory_grows = later x.memory y.memory z.memory h.memory_grows l.memory_grows;
  more = h.more ++ l.more;
  printed_grows = l.printed_grows ∙ ap (λ ys. ys ++ l.more) h.printed_grows ∙ append_assoc x.printed h.more l.more;
  taken_rises = chain _ _ _ h.taken_rises l.taken_rises;
  units_rise = chain _ _ _ h.units_rise l.units_rise;
}

after_it : (x y : State) (o : Option State) → Grows x y → OnStep y o → OnStep x o
after_it x y None h l = tt
after_it x y (Some z) h l = then_grows x y z h l

if_step : (s : State) (b : Bool) (x y : Option State) → OnStep s x → OnStep s y → OnStep s (if b then x else y)
if_step s true x y h l = h
if_step s false x y h l = l

and_step : {A : Type 0} (s : State) (o : Option A) (next : A → Option State) → ((x : A) → OnStep s (next x)) → OnStep s (option_and_then next o)
and_step s None next h = tt
and_step s (Some x) next h = h x

-- ---- operands

popped_step : (s : State) (o : Option Popped) (fr : Frame) (next : List Value → Frame → Option State) → ((vs : List Value) (fr' : Frame) → OnStep s (next vs fr')) → OnStep s (f.with_popped o fr next)
popped_step s None fr next h = tt
popped_step s (Some p) fr next h = h _ _

operands : (s : State) (n : ℕ) (fr : Frame) (next : List Value → Frame → Option State) → ((vs : List Value) (fr' : Frame) → OnStep s (next vs fr')) → OnStep s (f.on_operands n fr next)
operands s n fr next h = popped_step s (popped n fr.values) fr next h

one_step : (s : State) (next : Value → Frame → Option State) → ((x : Value) (fr : Frame) → OnStep s (next x fr)) → (vs : List Value) (fr : Frame) → OnStep s (f.with_one next vs fr)
one_step s next h [] fr = tt
one_step s next h (x ∷ []) fr = h x fr
one_step s next h (x ∷ y ∷ vs) fr = tt

operand : (s : State) (fr : Frame) (next : Value → Frame → Option State) → ((x : Value) (fr' : Frame) → OnStep s (next x fr')) → OnStep s (f.on_operand fr next)
operand s fr next h = operands s 1 fr (f.with_one next) (one_step s next h)

two_step : (s : State) (next : Value → Value → Frame → Option State) → ((x y : Value) (fr : Frame) → OnStep s (next x y fr)) → (vs : List Value) (fr : Frame) → OnStep s (f.with_two next vs fr)
two_step s next h [] fr = tt
two_step s next h (x ∷ []) fr = tt
two_step s next h (x ∷ y ∷ []) fr = h x y fr
two_step s next h (x ∷ y ∷ z ∷ vs) fr = tt

pair : (s : State) (fr : Frame) (next : Value → Value → Frame → Option State) → ((x y : Value) (fr' : Frame) → OnStep s (next x y fr')) → OnStep s (f.on_pair fr next)
pair s fr next h = operands s 2 fr (f.with_two next) (two_step s next h)

choice_step : (s : State) (next : Bool → Frame → Option State) → ((b : Bool) (fr : Frame) → OnStep s (next b fr)) → (x : Value) (fr : Frame) → OnStep s (k.with_choice next x fr)
choice_step s next h (cell.truth b ∷ []) fr = h b fr
choice_step s next h _ fr = tt

choice : (s : State) (fr : Frame) (next : Bool → Frame → Option State) → ((b : Bool) (fr' : Frame) → OnStep s (next b fr')) → OnStep s (k.on_choice fr next)
choice s fr next h = operand s fr (k.with_choice next) (choice_step s next h)

module _ (p : CoreProgram) (n : ℕ) (move : Move) where
  gate_step : (s : State) (next : ℕ → Frame → Option State) → ((b : ℕ) (fr : Frame) → OnStep s (next b fr)) → (x : Value) (fr : Frame) → OnStep s (t.with_gate p n move next x fr)
  gate_step s next h (cell.pointer b ∷ []) fr = h b fr
  gate_step s next h _ fr = tt

  gate : (s : State) (fr : Frame) (next : ℕ → Frame → Option State) → ((b : ℕ) (fr' : Frame) → OnStep s (next b fr')) → OnStep s (t.on_gate p n move fr next)
  gate s fr next h = operand s fr (t.with_gate p n move next) (gate_step s next h)

did : (hidden : Ty) (n : ℕ) (d : Did) (fr : Frame) (below : List Frame) (s : State) → DidGrow s.memory d → OnStep s (f.did_step hidden n d fr below s)
did hidden n (gives vs m u) fr below s h = to s _ m (1 + u) s.end h
did hidden n (panics x u) fr below s h = kept s _ (1 + u) s.end
did hidden n no_step fr below s h = tt

-- ---- new frames

BindingsGrow : Memory → Option Bindings → Type 0
BindingsGrow m None = Unit {0}
BindingsGrow m (Some b) = MemoryGrows m b.memory

with_vars : (ns : List NamedTy) (vs : List Var) (xs : List Value) (b : Bindings) (m : Memory) → MemoryGrows m b.memory → BindingsGrow m (c.with_vars ns vs xs b)
unfolding BindingsGrow
with_vars ns [] [] b m h = h
with_vars ns [] (x ∷ xs) b m h = tt
with_vars ns (v ∷ vs) [] b m h = tt
with_vars ns (v ∷ vs) (x ∷ xs) b m h = with_vars ns vs xs (c.with_var ns v x b) m (later m b.memory (c.with_var ns v x b).memory h (makes b.memory x))

with_zeros : (ns : List NamedTy) (vs : List Var) (b : Bindings) (m : Memory) → MemoryGrows m b.memory → MemoryGrows m (c.with_zeros ns vs b).memory
with_zeros ns [] b m h = h
with_zeros ns (v ∷ vs) b m h =
    with_zeros ns vs (c.with_var ns v (zeros (shape_of ns v.type_)) b) m (later m b.memory (c.with_var ns v (zeros (shape_of ns v.type_)) b).memory h (makes b.memory (zeros (shape_of ns v.type_))))

adapted : (ns : List NamedTy) (how : Receiver) (xs : List Value) (m : Memory) → MemoryGrows m (c.adapted ns how xs m).memory
adapted ns (through v) (x ∷ xs) m = same m
adapted ns (through v) [] m = same m
adapted ns to_a_copy (x ∷ xs) m = makes m x
adapted ns to_a_copy [] m = same m
adapted ns as_it_is xs m = same m

EntersGrow : Memory → Option Entered → Type 0
EntersGrow m None = Unit {0}
EntersGrow m (Some e) = MemoryGrows m e.memory

with_results : (ns : List NamedTy) (func : ℕ) (fn : CoreFunc) (purpose : Purpose) (x : Adapted) (b : Option Bindings) (m : Memory) → BindingsGrow m b → EntersGrow m (c.with_results ns func fn purpose x b)
unfolding BindingsGrow EntersGrow
with_results ns func fn purpose x None m h = tt
with_results ns func fn purpose x (Some b) m h = with_zeros ns (c.result_vars fn (length x.operands)) b m h

entered_at : (p : CoreProgram) (func : ℕ) (fn : Option CoreFunc) (bases : List ℕ) (row : Option ℕ) (vs : List Value) (purpose : Purpose) (m : Memory) → EntersGrow m (c.entered_at p func fn bases row vs purpose m)
unfolding EntersGrow
entered_at p func None bases row vs purpose m = tt
entered_at p func (Some fn) bases row vs purpose m =
    let x = c.adapted p.names (c.receiver_of (c.row_at p row) fn.vars) vs m in
    let b : Bindings = record { places = c.captured_places fn.captured bases; memory = x.memory; units = 0 } in
    with_results p.names func fn purpose x (c.with_vars p.names (take (length x.operands) fn.vars) x.operands b) m
    (with_vars p.names (take (length x.operands) fn.vars) x.operands b m (adapted p.names (c.receiver_of (c.row_at p row) fn.vars) vs m))

entered : (p : CoreProgram) (func : ℕ) (bases : List ℕ) (row : Option ℕ) (vs : List Value) (purpose : Purpose) (m : Memory) → EntersGrow m (c.entered p func bases row vs purpose m)
entered p func bases row vs purpose m = entered_at p func (slice_get p.funcs func) bases row vs purpose m

module _ (p : CoreProgram) (n : ℕ) where
  above : (e : Option Entered) (fr : Frame) (below : List Frame) (s : State) → EntersGrow s.memory e → OnStep s (c.entered_above p n e fr below s)
  unfolding EntersGrow
  above None fr below s h = tt
  above (Some e) fr below s h = to s _ e.memory (1 + e.units) s.end h

  started : (e : Option Entered) (fr : Frame) (below : List Frame) (s : State) → EntersGrow s.memory e → OnStep s (c.started p n e fr below s)
  unfolding EntersGrow
  started None fr below s h = tt
  started (Some e) fr below s h = to s _ e.memory (1 + e.units) s.end h

  calls : (x : Resolved) (fr : Frame) (below : List Frame) (s : State) → OnStep s (c.called_step p n x fr below s)
  calls (ready func bases row vs) fr below s = above _ fr below s (entered p func bases row vs called s.memory)
  calls nil_function fr below s = kept s _ 1 s.end
  calls nil_interface fr below s = kept s _ 1 s.end
  calls unresolved fr below s = tt

  starts : (x : Resolved) (fr : Frame) (below : List Frame) (s : State) → OnStep s (c.go_resolved p n x fr below s)
  starts (ready func bases row vs) fr below s = started _ fr below s (entered p func bases row vs called s.memory)
  starts nil_function fr below s = kept s _ 1 s.end
  starts nil_interface fr below s = kept s _ 1 s.end
  starts unresolved fr below s = tt

  defers : (x : Resolved) (fr : Frame) (below : List Frame) (s : State) → OnStep s (c.defer_resolved p n x fr below s)
  defers (ready func bases row vs) fr below s = kept s _ _ s.end
  defers nil_function fr below s = kept s _ 1 s.end
  defers nil_interface fr below s = kept s _ 1 s.end
  defers unresolved fr below s = tt

  receiver_read : (v : Var) (b : ℕ) (o : Option ℕ) (fr : Frame) (below : List Frame) (s : State) → OnStep s (c.receiver_read p n v b o fr below s)
  receiver_read v b None fr below s = tt
  receiver_read v b (Some d) fr below s = to s _ _ _ s.end (writes s.memory d (read_cells b (size (shape_of p.names v.type_)) s.memory.cells))

  read_through : (v : Var) (below : List Frame) (s : State) (x : Value) (fr : Frame) → OnStep s (c.read_through p n v below s x fr)
  read_through v below s (cell.pointer b ∷ []) fr = receiver_read v b _ fr below s
  read_through v below s (cell.nil ∷ []) fr = kept s _ 1 s.end
  read_through v below s _ fr = tt

  StoresGrow : Memory → Option Memory → Type 0
  StoresGrow m None = Unit {0}
  StoresGrow m (Some m') = MemoryGrows m m'

  stored_then : (m : Memory) (o : Option ℕ) (next : ℕ → Option Memory) → ((b : ℕ) → StoresGrow m (next b)) → StoresGrow m (option_and_then next o)
  unfolding StoresGrow
  stored_then m None next h = tt
  stored_then m (Some b) next h = h b

  stored : (vs : List Var) (xs : List Value) (places : List Place) (m m' : Memory) → MemoryGrows m m' → StoresGrow m (c.with_stored p n vs xs places m')
  unfolding StoresGrow
  stored [] [] places m m' h = h
  stored [] (x ∷ xs) places m m' h = tt
  stored (v ∷ vs) [] places m m' h = tt
  stored (v ∷ vs) (x ∷ xs) places m m' h =
      stored_then m (gr.base_in v.id places) (λ b. c.with_stored p n vs xs places (with_written m' b x)) λ b. stored vs xs places m (with_written m' b x) (later m m' (with_written m' b x) h (writes m' b x))

  returned : (o : Option Memory) (u : ℕ) (fr : Frame) (below : List Frame) (s : State) → StoresGrow s.memory o → OnStep s (c.returned_with p n o u fr below s)
  unfolding StoresGrow
  returned None u fr below s h = tt
  returned (Some m) u fr below s h = to s _ m (1 + u) s.end h

  returns : (j : ℕ) (fr : Frame) (below : List Frame) (s : State) → OnStep s (c.return_step p n j fr below s)
  unfolding StoresGrow
  returns zero fr below s = kept s _ 1 s.end
  returns (suc j) fr below s = operands s (suc j) fr _ λ vs fr'. returned _ _ fr' below s (stored fr'.results vs fr'.places s.memory s.memory (same s.memory))

  -- ---- assignments and declarations

  stored_at : (x : Found) (ty : Ty) (nodes : ℕ) (ts : List Target) (v : Value) (vs : List Value) (fr : Frame) (below : List Frame) (s : State) → OnStep s (a.stored_at p n x ty nodes ts v vs fr below s)
  stored_at (found base others) ty nodes ts v vs fr below s = to s _ _ _ s.end (writes s.memory base v)
  stored_at (fails x) ty nodes ts v vs fr below s = kept s _ (1 + nodes) s.end
  stored_at lost ty nodes ts v vs fr below s = tt

  entry_stored : (d : Did) (ts : List Target) (others vs : List Value) (fr : Frame) (below : List Frame) (s : State) → DidGrow s.memory d → OnStep s (a.entry_stored p n d ts others vs fr below s)
  entry_stored (gives ws m u) ts others vs fr below s h = to s _ m (1 + u) s.end h
  entry_stored (panics x u) ts others vs fr below s h = kept s _ (1 + u) s.end
  entry_stored no_step ts others vs fr below s h = tt

  assigns : (ts : List Target) (os vs : List Value) (fr : Frame) (below : List Frame) (s : State) → OnStep s (a.assign_step p n ts os vs fr below s)
  assigns [] os vs fr below s = kept s _ 1 s.end
  assigns (core.blank ∷ ts) os (x ∷ xs) fr below s = kept s _ 1 s.end
  assigns (core.blank ∷ ts) os [] fr below s = tt
  assigns (core.to_place ty place ∷ ts) os (x ∷ xs) fr below s = stored_at (a.found_place p fr.places s.memory place os) ty (a.depth place) ts x xs fr below s
  assigns (core.to_place ty place ∷ ts) os [] fr below s = tt
  assigns (core.to_entry ty e key ∷ ts) (y ∷ z ∷ others) (x ∷ xs) fr below s = entry_stored _ ts others xs fr below s (map_set p.names (underlying p.names ty) y z x s.memory)
  assigns (core.to_entry ty e key ∷ ts) _ _ fr below s = tt

  bound : (b : Option Bindings) (fr : Frame) (below : List Frame) (s : State) → BindingsGrow s.memory b → OnStep s (a.bound_step p n b fr below s)
  unfolding BindingsGrow
  bound None fr below s h = tt
  bound (Some b) fr below s h = to s _ b.memory (1 + b.units) s.end h

  declares : (v : Var) (fr : Frame) (below : List Frame) (s : State) → OnStep s (a.declare_step p n v fr below s)
  declares v fr below s = to s _ _ _ s.end (makes s.memory (zeros (shape_of p.names v.type_)))

  binds : (vs : List Var) (fr : Frame) (below : List Frame) (s : State) → OnStep s (a.bind_step p n vs fr below s)
  binds vs fr below s = operands s (length vs) fr _ λ xs fr'. bound (c.with_vars p.names vs xs (a.bindings p n fr' s)) fr' below s (with_vars p.names vs xs (a.bindings p n fr' s) s.memory (same s.memory))

  globals : (ns : List ℕ) (xs : List Value) (m m' : Memory) → MemoryGrows m m' → MemoryGrows m (a.set_global_cells p n ns xs m')
  globals [] xs m m' h = h
  globals (k ∷ ks) [] m m' h = h
  globals (k ∷ ks) (x ∷ xs) m m' h =
      let m'' = with_written m' (base_of k) x in globals ks xs m m'' (later m m' m'' h (writes m' (base_of k) x))
    where
      base_of : ℕ → ℕ
      base_of j = global_base p.names p.globals j

  sets_globals : (ns : List ℕ) (fr : Frame) (below : List Frame) (s : State) → OnStep s (a.set_globals_step p n ns fr below s)
  sets_globals ns fr below s = operands s (length ns) fr _ λ xs fr'. to s _ _ _ s.end (globals ns xs s.memory s.memory (same s.memory))

  -- ---- control

  right_or : (b v : Bool) (e : Expr) (fr : Frame) (below : List Frame) (s : State) → OnStep s (k.right_or p n b v e fr below s)
  right_or true v e fr below s = kept s _ 1 s.end
  right_or false v e fr below s = kept s _ 1 s.end

  turned : (b : Bool) (label : ℕ) (cond : Bound) (body post : Stmts) (fr : Frame) (below : List Frame) (s : State) → OnStep s (k.turned p n b label cond body post fr below s)
  turned true label cond body post fr below s = kept s _ 1 s.end
  turned false label cond body post fr below s = kept s _ 1 s.end

  turns : (label : ℕ) (cond : Bound) (body post : Stmts) (fr : Frame) (below : List Frame) (s : State) → OnStep s (k.turn_step p n label cond body post fr below s)
  turns label no_bound body post fr below s = kept s _ 1 s.end
  turns label (core.bound e) body post fr below s = choice s fr _ λ b fr'. turned b label (core.bound e) body post fr' below s

  clause : (b : Bool) (j : ℕ) (ts : Tests) (cs : Clauses) (d : Option ℕ) (fr : Frame) (below : List Frame) (s : State) → OnStep s (k.clause_or_next p n b j ts cs d fr below s)
  clause true j ts cs d fr below s = kept s _ 2 s.end
  clause false j ts cs d fr below s = kept s _ 2 s.end

  default : (cs : Clauses) (d : Option ℕ) (fr : Frame) (below : List Frame) (s : State) → OnStep s (k.default_step p n cs d fr below s)
  default cs None fr below s = kept s _ 1 s.end
  default cs (Some j) fr below s = kept s _ 1 s.end

  begun : (x : Option Cursor) (rg : Ranged) (fr : Frame) (below : List Frame) (s : State) → OnStep s (k.range_begun p n x rg fr below s)
  begun None rg fr below s = tt
  begun (Some x) rg fr below s = kept s _ 1 s.end

  begun_with : (b : Bool) (x : Value) (rg : Ranged) (fr : Frame) (below : List Frame) (s : State) → OnStep s (k.begun_with p n b x rg fr below s)
  begun_with true x rg fr below s = kept s _ 1 s.end
  begun_with false x rg fr below s = begun _ rg fr below s

  range_turn : (o : Option Memory) (rg : Ranged) (cur : Cursor) (fr : Frame) (below : List Frame) (s : State) → StoresGrow s.memory o → OnStep s (k.range_turn p n o rg cur fr below s)
  unfolding StoresGrow
  range_turn None rg cur fr below s h = tt
  range_turn (Some m) rg cur fr below s h = to s _ m _ s.end h

  var_written : (v : Option Var) (x : Value) (places : List Place) (m m' : Memory) → MemoryGrows m m' → StoresGrow m (k.var_written p n v x places m')
  unfolding StoresGrow
  var_written None x places m m' h = h
  var_written (Some v) x places m m' h = stored_then m (gr.base_in v.id places) (λ b. Some (with_written m' b x)) λ b. later m m' (with_written m' b x) h (writes m' b x)

  written_twice : (o : Option Memory) (v : Option Var) (x : Value) (places : List Place) (m : Memory) → StoresGrow m o → StoresGrow m (option_and_then (k.var_written p n v x places) o)
  unfolding StoresGrow
  written_twice None v x places m h = tt
  written_twice (Some m') v x places m h = var_written v x places m m' h

  range_on : (x : k.Next p n) (rg : Ranged) (fr : Frame) (below : List Frame) (s : State) → OnStep s (k.range_on p n x rg fr below s)
  range_on (k.next key v cur) rg fr below s =
      range_turn _ rg cur fr below s (written_twice (k.var_written p n rg.key key fr.places s.memory) rg.value v fr.places s.memory (var_written rg.key key fr.places s.memory s.memory (same s.memory)))
  range_on k.over rg fr below s = kept s _ 1 s.end
  range_on k.not_so rg fr below s = tt

  -- ---- panics and ends

  raised : (below : List Frame) (s : State) (x : Value) (fr : Frame) → OnStep s (q.raised p n below s x fr)
  raised below s [] fr = tt
  raised below s (x ∷ []) fr = kept s _ 2 s.end
  raised below s (x ∷ y ∷ xs) fr = tt

  recovered_from : (mode : Mode) (fr fr' : Frame) (below : List Frame) (s : State) → OnStep s (q.recovered_from p n mode fr fr' below s)
  recovered_from (panicking v) fr fr' below s = kept s _ 1 s.end
  recovered_from normal fr fr' below s = kept s _ 1 s.end
  recovered_from returning fr fr' below s = kept s _ 1 s.end

  recovered : (purpose : Purpose) (fr : Frame) (below : List Frame) (s : State) → OnStep s (q.recovered p n purpose fr below s)
  recovered deferred fr (fr' ∷ below) s = recovered_from fr'.mode fr fr' below s
  recovered deferred fr [] s = kept s _ 1 s.end
  recovered called fr below s = kept s _ 1 s.end
  recovered reporting fr below s = kept s _ 1 s.end

  deferred_above : (e : Option Entered) (fr : Frame) (below : List Frame) (s : State) → EntersGrow s.memory e → OnStep s (q.deferred_above p n e fr below s)
  unfolding EntersGrow
  deferred_above None fr below s h = tt
  deferred_above (Some e) fr below s h = to s _ e.memory 1 s.end h

  deferred_runs : (i : Invocation) (fr : Frame) (below : List Frame) (s : State) → OnStep s (q.deferred_step p n i fr below s)
  deferred_runs (invoke func bases row vs) fr below s = deferred_above _ fr below s (entered p func bases row vs deferred s.memory)
  deferred_runs nothing_to_invoke fr below s = kept s _ 1 s.end

  given_below : (vs : List Value) (below : List Frame) (s : State) → OnStep s (q.given_below p n vs below s)
  given_below vs [] s = kept s _ 1 s.end
  given_below vs (fr ∷ below) s = kept s _ 1 s.end

  reported : (vs : List Value) (s : State) → OnStep s (q.reported p n vs s)
  reported ((cell.text bytes ∷ []) ∷ []) s = kept s _ 1 (panicked bytes)
  reported _ s = tt

  ended_with : (purpose : Purpose) (vs : Option (List Value)) (below : List Frame) (s : State) → OnStep s (q.ended_with p n purpose vs below s)
  ended_with purpose None below s = tt
  ended_with called (Some vs) below s = given_below vs below s
  ended_with deferred (Some vs) below s = kept s _ 1 s.end
  ended_with reporting (Some vs) below s = reported vs s

  report_with : (v : Scalar) (e : Option Entered) (s : State) → EntersGrow s.memory e → OnStep s (q.report_with p n v e s)
  unfolding EntersGrow
  report_with v None s h = tt
  report_with v (Some e) s h = to s _ e.memory 1 s.end h

  report_by : (row : Option MethodRow) (j : ℕ) (v : Scalar) (s : State) → OnStep s (q.report_by p n row j v s)
  report_by None j v s = tt
  report_by (Some row) j v s = report_with v _ s (entered p row.func [] (Some j) (q.content_of p n v) reporting s.memory)

  report_begun : (v : Scalar) (row : Option ℕ) (s : State) → OnStep s (q.report_begun p n v row s)
  report_begun v None s = kept s _ 1 _
  report_begun v (Some j) s = report_by _ j v s

  removed : (purpose : Purpose) (v : Scalar) (below : List Frame) (s : State) → OnStep s (q.removed_panicking p n purpose v below s)
  removed reporting v below s = kept s _ 1 _
  removed called v (fr ∷ below) s = kept s _ 1 s.end
  removed called v [] s = report_begun v _ s
  removed deferred v (fr ∷ below) s = kept s _ 1 s.end
  removed deferred v [] s = report_begun v _ s

  end_by_mode : (mode : Mode) (fr : Frame) (below : List Frame) (s : State) → OnStep s (q.end_by_mode p n mode fr below s)
  end_by_mode (panicking v) fr below s = removed fr.purpose v below s
  end_by_mode normal fr below s = ended_with fr.purpose _ below s
  end_by_mode returning fr below s = ended_with fr.purpose _ below s

  ends : (is : List Invocation) (fr : Frame) (below : List Frame) (s : State) → OnStep s (q.ended_step p n is fr below s)
  ends [] fr below s = end_by_mode fr.mode fr below s
  ends (i ∷ is) fr below s = deferred_runs i _ below s

-- ---- communication

resumed_at : (vs : List Value) (after : List Task) (j : ℕ) (fs : List Frame) (s : State) → OnStep s (t.resumed_at vs after j fs s)
resumed_at vs after j [] s = tt
resumed_at vs after j (fr ∷ below) s = kept s _ 0 s.end

module _ (p : CoreProgram) (n : ℕ) (move : Move) where
  to_partner : (name : ℕ) (x : Value) (o : Option Offer) (s : State) → OnStep s (t.to_partner p n move name x o s)
  to_partner name x None s = tt
  to_partner name x (Some (sending c' v u after)) s = tt
  to_partner name x (Some (receiving c' z u j after)) s = if_step s (t.same_name c' name) (t.resumed (t.received j x true) after move.partner s) None (resumed_at (t.received j x true) after move.partner (t.frames_of (slice_get s.goroutines move.partner)) s) tt

  from_partner : (name j : ℕ) (after : List Task) (o : Option Offer) (fr : Frame) (below : List Frame) (u : ℕ) (s : State) → OnStep s (t.from_partner p n move name j after o fr below u s)
  from_partner name j after None fr below u s = tt
  from_partner name j after (Some (receiving c' z u' j' after')) fr below u s = tt
  from_partner name j after (Some (sending c' x u' after')) fr below u s =
      let s' = moved n (t.done_with (t.received j x true) after fr ∷ below) (1 + u) s in
      if_step s (t.same_name c' name) (t.resumed [] after' move.partner s') None (after_it s s' (t.resumed [] after' move.partner s') (kept s _ (1 + u) s.end) (resumed_at [] after' move.partner (t.frames_of (slice_get s'.goroutines move.partner)) s')) tt

  sent : (name : ℕ) (x : Value) (u : ℕ) (after : List Task) (ch : Channel) (fr : Frame) (below : List Frame) (s : State) → OnStep s (t.sent p n move name x u after ch fr below s)
  sent name x u after ch fr below s =
      let s' = moved n (t.done_with [] after fr ∷ below) (1 + u) s in
      if_step s ch.closed _ _ (kept s _ 1 s.end)
      (if_step s (nat_lt (length ch.values) ch.capacity) _ _ (to s _ _ _ s.end (sets_channel s.memory name (t.with_sent p n move x ch)))
      (if_step s (ch.capacity == 0) _ None (after_it s s' (t.to_partner p n move name x (t.partner_offer n move s) s') (kept s _ (1 + u) s.end) (to_partner name x (t.partner_offer n move s) s')) tt))

  taken : (vs : List Value) (name : ℕ) (z : Value) (u j : ℕ) (after : List Task) (ch : Channel) (fr : Frame) (below : List Frame) (s : State) → OnStep s (t.taken_from p n move vs name z u j after ch fr below s)
  taken (x ∷ xs) name z u j after ch fr below s = to s _ _ _ s.end (sets_channel s.memory name (record ch { values = xs }))
  taken [] name z u j after ch fr below s =
      if_step s ch.closed _ _ (kept s _ (1 + u) s.end)
      (if_step s (ch.capacity == 0) _ None (from_partner name j after (t.partner_offer n move s) fr below u s) tt)

  on_channel : (name : Option ℕ) (s : State) (next : ℕ → Channel → Option State) → ((j : ℕ) (ch : Channel) → OnStep s (next j ch)) → OnStep s (t.on_channel p n move name s next)
  on_channel None s next h = tt
  on_channel (Some name) s next h = and_step s (slice_get s.memory.channels name) (next name) (h name)

  offer : (o : Option Offer) (fr : Frame) (below : List Frame) (s : State) → OnStep s (t.offer_taken p n move o fr below s)
  offer None fr below s = tt
  offer (Some (sending c' x u after)) fr below s = on_channel c' s _ λ name ch. sent name x u after ch fr below s
  offer (Some (receiving c' z u j after)) fr below s = on_channel c' s _ λ name ch. taken ch.values name z u j after ch fr below s

  waits : (w : Waiting) (u : ℕ) (fr : Frame) (below : List Frame) (s : State) → OnStep s (t.waits p n move w u fr below s)
  waits w u fr below s = record { memory_grows = same s.memory; more = []; printed_grows = nil_right s.printed; taken_rises = at_most s.taken; units_rise = chain _ _ _ (with_more s.units 1) (with_more (s.units + 1) u) }

  numbered : (u j : ℕ) (s : State) → s.taken ≤ j → Grows s (record s { units = s.units + u; taken = j })
  numbered u j s h = record { memory_grows = same s.memory; more = []; printed_grows = nil_right s.printed; taken_rises = h; units_rise = with_more s.units u }

  reached : (choices : List ℕ) (d : Option (List Task → List Task)) (u : ℕ) (os : List Offer) (ws : List ℕ) (fr : Frame) (below : List Frame) (s : State) → OnStep s (t.reached p n move choices d u os ws fr below s)
  reached choices (Some d) u os [] fr below s = kept s _ (1 + u) s.end
  reached choices None u os [] fr below s = waits (gr.at_channels os) u fr below s
  reached choices d u os (w ∷ []) fr below s =
      let s' : State = record s { units = s.units + u } in
      after_it s s' (t.way_taken p n move w os fr below s') (numbered u s.taken s (at_most s.taken)) (offer (slice_get os w) fr below s')
  reached choices d u os (w ∷ v ∷ ws) fr below s =
      let s' : State = record s { units = s.units + u; taken = suc s.taken } in
      let way = get_or (w ∷ v ∷ ws) (get_or choices s.taken 0 % length (w ∷ v ∷ ws)) w in
      after_it s s' (t.way_taken p n move way os fr below s') (numbered u (suc s.taken) s (one_more s.taken)) (offer (slice_get os way) fr below s')

  reach : (choices : List ℕ) (d : Option (List Task → List Task)) (u : ℕ) (os : List Offer) (fr : Frame) (below : List Frame) (s : State) → OnStep s (t.reach p n move choices d u os fr below s)
  reach choices d u os fr below s = reached choices d u os (t.ready_ways n s 0 os) fr below s

  selects : (choices : List ℕ) (u : ℕ) (b : Bool) (body : Stmts) (os : Option (List Offer)) (fr : Frame) (below : List Frame) (s : State) → OnStep s (t.select_with p n move choices u b body os fr below s)
  selects choices u b body None fr below s = tt
  selects choices u b body (Some os) fr below s = reach choices (t.default_tasks p n move b body) u os fr below s

  closed_at : (name : ℕ) (ch : Channel) (fr : Frame) (below : List Frame) (s : State) → OnStep s (t.closed_at p n move name ch fr below s)
  closed_at name ch fr below s = if_step s ch.closed _ _ (kept s _ 1 s.end) (to s _ _ _ s.end (sets_channel s.memory name (record ch { closed = true })))

  closes : (name : Option ℕ) (fr : Frame) (below : List Frame) (s : State) → OnStep s (t.close_named p n move name fr below s)
  closes None fr below s = kept s _ 1 s.end
  closes (Some name) fr below s = on_channel (Some name) s _ λ j ch. closed_at j ch fr below s

  takes_gate : (x : Option ℤ) (b : ℕ) (fr : Frame) (below : List Frame) (s : State) → OnStep s (t.gate_taken p n move x b fr below s)
  takes_gate None b fr below s = tt
  takes_gate (Some (pos zero)) b fr below s = to s _ _ 1 s.end (writes s.memory b (cell.whole (pos 1) ∷ []))
  takes_gate (Some (pos (suc j))) b fr below s = waits (gr.at_take b) 0 fr below s
  takes_gate (Some (negsuc j)) b fr below s = waits (gr.at_take b) 0 fr below s

  awaits_gate : (x : Option ℤ) (b : ℕ) (fr : Frame) (below : List Frame) (s : State) → OnStep s (t.gate_awaited p n move x b fr below s)
  awaits_gate None b fr below s = tt
  awaits_gate (Some (pos zero)) b fr below s = kept s _ 1 s.end
  awaits_gate (Some (pos (suc j))) b fr below s = waits (gr.at_await b) 0 fr below s
  awaits_gate (Some (negsuc j)) b fr below s = waits (gr.at_await b) 0 fr below s

  adds_gate : (x : Option ℤ) (j : ℤ) (b : ℕ) (fr : Frame) (below : List Frame) (s : State) → OnStep s (t.gate_added p n move x j b fr below s)
  adds_gate None j b fr below s = tt
  adds_gate (Some x) j b fr below s = to s _ _ _ s.end (writes s.memory b (cell.whole (wrapped I32 (x +ℤ j)) ∷ []))

  gate_adds : (below : List Frame) (s : State) (x y : Value) (fr : Frame) → OnStep s (t.gate_adds p n move below s x y fr)
  gate_adds below s (cell.pointer b ∷ []) (cell.whole j ∷ []) fr = adds_gate _ j b fr below s
  gate_adds below s _ _ fr = tt

  gate_again : (x next : Option ℤ) (b : ℕ) (fr : Frame) (below : List Frame) (s : State) → OnStep s (t.gate_again p n move x next b fr below s)
  gate_again (Some (pos zero)) None b fr below s = kept s _ 1 s.end
  gate_again (Some (pos zero)) (Some j) b fr below s = to s _ _ 1 s.end (writes s.memory b (cell.whole j ∷ []))
  gate_again (Some (pos (suc j))) next b fr below s = tt
  gate_again (Some (negsuc j)) next b fr below s = tt
  gate_again None next b fr below s = tt

  way_if_ready : (o : Option Offer) (os : List Offer) (fr : Frame) (below : List Frame) (s : State) → OnStep s (t.way_if_ready p n move o os fr below s)
  way_if_ready None os fr below s = tt
  way_if_ready (Some o) os fr below s = if_step s (t.offer_ready n s o) _ None (offer (Some o) fr below s) tt

  waiting : (w : Waiting) (fr : Frame) (below : List Frame) (s : State) → OnStep s (t.waiting_step p n move w fr below s)
  waiting gr.able fr below s = tt
  waiting (gr.at_channels os) fr below s = way_if_ready (slice_get os move.way) os fr below s
  waiting (gr.at_take b) fr below s = gate_again (t.gate_number p n move b s) (Some (pos 1)) b fr below s
  waiting (gr.at_await b) fr below s = gate_again (t.gate_number p n move b s) None b fr below s

-- ---- one case for each task

module _ (p : CoreProgram) (choices : List ℕ) (move : Move) (n : ℕ) where
  local_var : (o : Option ℕ) (fr : Frame) (below : List Frame) (s : State) → OnStep s (g.local_step p choices move n o fr below s)
  local_var None fr below s = tt
  local_var (Some b) fr below s = kept s _ 1 s.end

  closes_over : (func : ℕ) (o : Option (List ℕ)) (fr : Frame) (below : List Frame) (s : State) → OnStep s (g.closure_with p choices move n func o fr below s)
  closes_over func None fr below s = tt
  closes_over func (Some bases) fr below s = kept s _ _ s.end

  closure : (func : ℕ) (o : Option CoreFunc) (fr : Frame) (below : List Frame) (s : State) → OnStep s (g.closure_step p choices move n func o fr below s)
  closure func None fr below s = tt
  closure func (Some fn) fr below s = closes_over func _ fr below s

  prints : (output : List ℕ) (fr : Frame) (below : List Frame) (s : State) → OnStep s (g.with_printed p choices move n output fr below s)
  prints output fr below s = record { memory_grows = same s.memory; more = output; printed_grows = refl; taken_rises = at_most s.taken; units_rise = with_more s.units (1 + length output) }

  exits : (below : List Frame) (s : State) (x : Value) (fr : Frame) → OnStep s (g.exited p choices move n below s x fr)
  exits below s (cell.whole j ∷ []) fr = kept s _ 1 _
  exits below s _ fr = tt

  fails_fatally : (below : List Frame) (s : State) (x : Value) (fr : Frame) → OnStep s (g.failed_fatally p choices move n below s x fr)
  fails_fatally below s (cell.text bytes ∷ []) fr = kept s _ 1 _
  fails_fatally below s _ fr = tt

  task : (x : Task) (fr : Frame) (below : List Frame) (s : State) → OnStep s (g.task_step p choices move n x fr below s)
  task (gr.operate op j) fr below s = operands s j fr _ λ vs fr'. did p.hidden n _ fr' below s (operators p move.capacity op vs s.memory)
  task (gr.at_local v) fr below s = local_var _ fr below s
  task (gr.make_closure func) fr below s = closure func _ fr below s
  task (gr.only_where_true e) fr below s = choice s fr _ λ b fr'. right_or p n b false e fr' below s
  task (gr.only_where_false e) fr below s = choice s fr _ λ b fr'. right_or p n (not b) true e fr' below s
  task (gr.bind_vars vs) fr below s = binds p n vs fr below s
  task (gr.declare_var v) fr below s = declares p n v fr below s
  task (gr.assign ts j) fr below s = operands s j fr _ λ xs fr'. operands s (a.target_operands p n ts) fr' _ λ os fr''. assigns p n ts os xs fr'' below s
  task (gr.assign_rest ts os vs) fr below s = assigns p n ts os vs fr below s
  task (gr.set_globals ns) fr below s = sets_globals p n ns fr below s
  task (gr.choose x y) fr below s = choice s fr _ λ b fr'. kept s _ 1 s.end
  task (gr.turn label cond body post) fr below s = turns p n label cond body post fr below s
  task (gr.turn_again label cond body post) fr below s = kept s _ 1 s.end
  task (gr.choose_clause j ts cs d) fr below s = choice s fr _ λ b fr'. clause p n b j ts cs d fr' below s
  task (gr.choose_default cs d) fr below s = default p n cs d fr below s
  task (gr.begin_range rg) fr below s = operand s fr _ λ x fr'. begun_with p n (k.is_nil_array p n (underlying p.names rg.from) x) x rg fr' below s
  task (gr.next_range rg cur) fr below s = range_on p n (k.next_of p n (underlying p.names rg.from) move.birth cur s.memory) rg fr below s
  task (gr.branch_to kind label) fr below s = kept s _ 1 s.end
  task (gr.call_with x j) fr below s = operands s j fr _ λ vs fr'. calls p n (c.resolved p x fr'.places vs) fr' below s
  task (gr.go_with x j) fr below s = operands s j fr _ λ vs fr'. starts p n (c.resolved p x fr'.places vs) fr' below s
  task (gr.defer_with x j) fr below s = operands s j fr _ λ vs fr'. defers p n (c.resolved p x fr'.places vs) fr' below s
  task (gr.receive_through v) fr below s = operand s fr (c.read_through p n v below s) (read_through p n v below s)
  task (gr.return_with j) fr below s = returns p n j fr below s
  task gr.panic_with fr below s = operand s fr (q.raised p n below s) (raised p n below s)
  task gr.recover_here fr below s = recovered p n fr.purpose fr below s
  task (gr.send_to ty) fr below s =
      pair s fr _ λ x y fr'. and_step s (t.named_channel x) _ λ name. reach p n move choices None 0 (t.send_offer p n move ty name y [] ∷ []) fr' below s
  task (gr.receive_from ty ok) fr below s =
      operand s fr _ λ x fr'. and_step s (t.named_channel x) _ λ name. reach p n move choices None 0 (t.receive_offer p n move ty name (t.one_or_two p n move ok) [] ∷ []) fr' below s
  task gr.close_channel fr below s = operand s fr _ λ x fr'. and_step s (t.named_channel x) _ λ name. closes p n move name fr' below s
  task (gr.select_from label cases j b body) fr below s = operands s j fr _ λ vs fr'. selects p n move choices (t.case_count p n move cases) b body (t.offers_from p n move cases vs) fr' below s
  task gr.take_gate fr below s = gate p n move s fr _ λ b fr'. takes_gate p n move _ b fr' below s
  task gr.add_to_gate fr below s = pair s fr (t.gate_adds p n move below s) (gate_adds p n move below s)
  task gr.await_gate fr below s = gate p n move s fr _ λ b fr'. awaits_gate p n move _ b fr' below s
  task gr.yield_turn fr below s = kept s _ 1 s.end
  task (gr.print_values j ends_line) fr below s = operands s j fr _ λ vs fr'. prints _ fr' below s
  task gr.exit_with fr below s = operand s fr (g.exited p choices move n below s) (exits below s)
  task gr.fatal_with fr below s = operand s fr (g.failed_fatally p choices move n below s) (fails_fatally below s)
  task gr.finish fr below s = kept s _ 1 _
  task (gr.drop_values j) fr below s = tt
  task (gr.push_value x) fr below s = tt
  task (gr.leave label) fr below s = tt

  -- what is no step is passed over
  tasks : (ts : List Task) (fr : Frame) (below : List Frame) (s : State) → OnStep s (g.tasks_step p choices move n ts fr below s)
  tasks [] fr below s = ends p n fr.deferred_calls _ below s
  tasks (gr.drop_values j ∷ ts) fr below s = tasks ts (record fr { values = drop j fr.values }) below s
  tasks (gr.push_value x ∷ ts) fr below s = tasks ts (record fr { values = x ∷ fr.values }) below s
  tasks (gr.leave label ∷ ts) fr below s = tasks ts fr below s
  tasks (x ∷ ts) fr below s = task x (record fr { tasks = ts }) below s

  by_waiting : (w : Waiting) (fr : Frame) (below : List Frame) (s : State) → OnStep s (g.by_waiting p choices move n w fr below s)
  by_waiting gr.able fr below s = tasks fr.tasks fr below s
  by_waiting (gr.at_channels os) fr below s = waiting p n move (gr.at_channels os) fr below s
  by_waiting (gr.at_take b) fr below s = waiting p n move (gr.at_take b) fr below s
  by_waiting (gr.at_await b) fr below s = waiting p n move (gr.at_await b) fr below s

  frames : (w : Waiting) (fs : List Frame) (s : State) → OnStep s (g.frames_step p choices move n w fs s)
  frames w [] s = tt
  frames w (fr ∷ below) s = by_waiting w fr below s

  goroutine : (x : Option Goroutine) (s : State) → OnStep s (g.goroutine_step p choices move n x s)
  goroutine None s = tt
  goroutine (Some x) s = frames x.waiting x.frames s

while_going : (e : End) (s : State) (o : Option State) → OnStep s o → OnStep s (r.while_going e o)
while_going going s o h = h
while_going (exit j) s o h = tt
while_going (panicked text) s o h = tt
while_going (fatal text) s o h = tt

pub steps : StepsGrow
steps p choices move s =
    while_going s.end s _ (if_step s (t.any_moves 0 s.goroutines s) _ (Some (r.deadlocked s)) (goroutine p choices move move.goroutine (slice_get s.goroutines move.goroutine) s) (kept s s.goroutines 1 (fatal r.deadlock_text)))

after_step : (p : CoreProgram) (choices : List ℕ) (moves : List Move) (s : State) (o : Option State) → OnStep s o → ((s' : State) → OnStep s' (r.after p choices moves s')) → OnStep s (option_and_then (r.after p choices moves) o)
after_step p choices moves s None h next = tt
after_step p choices moves s (Some s') h next = after_it s s' (r.after p choices moves s') h (next s')

pub runs : RunsGrow
runs p choices [] s = record { memory_grows = same s.memory; more = []; printed_grows = nil_right s.printed; taken_rises = at_most s.taken; units_rise = at_most s.units }
runs p choices (move ∷ moves) s = after_step p choices moves s (r.step p choices move s) (steps p choices move s) (runs p choices moves)

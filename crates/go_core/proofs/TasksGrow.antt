-- What remains of a frame's body stays typed in a world that has more in it, and for a frame that has more variables.
use Rattle.std.proofs.Common.{inl, inr}
use Rattle.std.specs.Prelude.{ℕ, List, [], ◌∷◌, Option, Some, None}
use Rattle.go_type.specs.Tree as ty
use Rattle.go_type.specs.Tree.{Ty}
use Rattle.go_type.specs.Underlying.{underlying}
use Rattle.go_core.specs.CoreTree.{CoreProgram, Var, CorePlace, Target, Bound, Stmts}
use Rattle.go_core.specs.SoundNode.{Around}
use Rattle.go_core.specs.Goroutine.{Task, Called, Case, Ranged, Cursor, numbers, copied, elements, characters, entries}
use Rattle.go_core.specs.Typed.{World, Extends}
use Rattle.go_core.specs.Applies.{Slot}
use Rattle.go_core.specs.TasksTyped.{IsHad, AreHad, with_ids, HasVar, HasVars, ScopeTyped, PlaceTyped, local_place, global_place, deref_place, field_place, elem_place, slice_place, TargetTyped, blank_target, place_target, entry_target, TargetsTyped, no_target, more_targets, CallTyped, calls_function, calls_method, calls_value, calls_dynamic, HasIfThere, RangeTyped, CursorTyped, TasksTyped, LabelsTyped, LoopTyped, CasesTyped, no_task, operate_typed, local_typed, closure_typed, where_true_typed, where_false_typed, bind_typed, drop_typed, push_typed, declare_typed, assign_typed, assign_rest_typed, globals_typed, choose_typed, turn_typed, endless_typed, again_typed, clause_typed, default_typed, begin_range_typed, next_range_typed, leave_typed, branch_typed, call_typed, go_typed, defer_typed, through_typed, bare_return_typed, return_typed, panic_typed, recover_typed, send_typed, receive_typed, close_typed, select_typed, select_default_typed, take_typed, add_typed, await_typed, yield_typed, print_typed, exit_typed, fatal_typed, finish_typed, labels_typed, loop_typed, no_case, send_case, receive_case}
use Rattle.go_core.proofs.TypedGrowth.{lists_grow, are_in_grow, spans, map_at}

-- each variable that the one has, the other has
abbrev pub Within : List ℕ → List ℕ → Type 0
Within has more = (v : ℕ) → IsHad has v → IsHad more v

pub one_more : (v : ℕ) (has more : List ℕ) → Within has more → Within (v ∷ has) (v ∷ more)
one_more v has more i u (inl e) = inl e
one_more v has more i u (inr h) = inr (i u h)

pub more_ids : (vs : List Var) (has more : List ℕ) → Within has more → Within (with_ids vs has) (with_ids vs more)
more_ids [] has more i = i
more_ids (v ∷ vs) has more i = more_ids vs (v.id ∷ has) (v.id ∷ more) (one_more v.id has more i)

pub are_had : (has more vs : List ℕ) → Within has more → AreHad has vs → AreHad more vs
are_had has more [] i h = tt
are_had has more (v ∷ vs) i h = (i v h.0, are_had has more vs i h.1)

module _ (p : CoreProgram) where
  has_var : (has more : List ℕ) (v : ℕ) (t : Ty) → Within has more → HasVar p has v t → HasVar p more v t
  has_var has more v t i h = (i v h.0, h.1)

  pub has_vars : (has more : List ℕ) (vs : List Var) → Within has more → HasVars p has vs → HasVars p more vs
  has_vars has more [] i h = tt
  has_vars has more (v ∷ vs) i h = (has_var has more v.id v.type_ i h.0, has_vars has more vs i h.1)

  pub scope : (has more : List ℕ) → Within has more → (a : Around) → ScopeTyped p has a → ScopeTyped p more a
  scope has more i a h = record { in_scope = has_vars has more a.vars i h.in_scope; declarable = h.declarable }

  module _ (has more : List ℕ) (i : Within has more) where
    place : (c : CorePlace) (ss : List Slot) (t : Ty) → PlaceTyped p has c ss t → PlaceTyped p more c ss t
    place _ _ _ (local_place v t h) = local_place v t (has_var has more v t i h)
    place _ _ _ (global_place n t h) = global_place n t h
    place _ _ _ (deref_place e s t h) = deref_place e s t h
    place _ _ _ (field_place t n c ss f h k) = field_place t n c ss f (place _ _ _ h) k
    place _ _ _ (elem_place t u j n c e ss h k l) = elem_place t u j n c e ss (place _ _ _ h) k l
    place _ _ _ (slice_place t u j e k h l) = slice_place t u j e k h l

    target : (x : Target) (ss : List Slot) (t : Ty) → TargetTyped p has x ss t → TargetTyped p more x ss t
    target _ _ _ (blank_target t) = blank_target t
    target _ _ _ (place_target t c ss h) = place_target t c ss (place _ _ _ h)
    target _ _ _ (entry_target m k t e key h) = entry_target m k t e key h

    pub targets : (xs : List Target) (ss : List Slot) (ts : List Ty) → TargetsTyped p has xs ss ts → TargetsTyped p more xs ss ts
    targets _ _ _ no_target = no_target
    targets _ _ _ (more_targets x xs ss us t ts h k) = more_targets x xs ss us t ts (target _ _ _ h) (targets _ _ _ k)

    call : (c : Called) (os gs : List Ty) → CallTyped p has c os gs → CallTyped p more c os gs
    call _ _ _ (calls_function func f h k l) = calls_function func f h (are_had has more _ i k) l
    call _ _ _ (calls_method n os rs h) = calls_method n os rs h
    call _ _ _ (calls_value t ps rs v h) = calls_value t ps rs v h
    call _ _ _ (calls_dynamic t name package_ s h) = calls_dynamic t name package_ s h

    if_there : (v : Option Var) → HasIfThere p has v → HasIfThere p more v
    if_there None h = tt
    if_there (Some v) h = has_var has more v.id v.type_ i h

    range : (a : Around) (r : Ranged) → RangeTyped p has a r → RangeTyped p more a r
    range a r h =
        record { around = scope has more i a h.around; ranged = h.ranged; key_had = if_there r.key h.key_had; value_had = if_there r.value h.value_had; key_fits = h.key_fits; value_fits = h.value_fits; body_sound = h.body_sound }

module _ (p : CoreProgram) (w w' : World) (x : Extends w w') where
  cursor : (t : Ty) (c : Cursor) → CursorTyped p w t c → CursorTyped p w' t c
  cursor (ty.int name) (numbers n count) h = tt
  cursor (ty.slice u) (numbers n count) h = h
  cursor (ty.pointer t) (numbers n count) h = h
  cursor (ty.array n u) (copied k left_) h = (h.0, lists_grow p w w' x _ _ h.1)
  cursor (ty.slice u) (elements n count base) h = spans p w w' x base _ h
  cursor (ty.pointer t) (elements n count base) h = (h.0, h.1, h.2, spans p w w' x base _ h.3)
  cursor ty.str (characters offset left_) h = tt
  cursor (ty.mapping k v) (entries None produced since) h = tt
  cursor (ty.mapping k v) (entries (Some name) produced since) h = map_at p w w' x name _ h
  cursor _ _ h = absurd h

module _ (p : CoreProgram) (w w' : World) (results : List Ty) (grown : Extends w w') where
  mutual
    pub tasks_grow : (has : List ℕ) (st : List Slot) (ts : List Task) → TasksTyped p w results has st ts → (more : List ℕ) → Within has more → TasksTyped p w' results more st ts
    tasks_grow _ _ _ (no_task has st) more i = no_task more st
    tasks_grow _ _ _ (operate_typed has ins outs st o n ts h0 h1 h2) more i = operate_typed more ins outs st o n ts h0 h1 (tasks_grow _ _ _ h2 more i)
    tasks_grow _ _ _ (local_typed has st v t ts h0 h1) more i = local_typed more st v t ts (has_var p has more v _ i h0) (tasks_grow _ _ _ h1 more i)
    tasks_grow _ _ _ (closure_typed has st func f ts h0 h1 h2 h3) more i = closure_typed more st func f ts h0 (are_had has more _ i h1) h2 (tasks_grow _ _ _ h3 more i)
    tasks_grow _ _ _ (where_true_typed has st t e ts h0 h1 h2) more i = where_true_typed more st t e ts h0 (tasks_grow _ _ _ h1 more i) (tasks_grow _ _ _ h2 more i)
    tasks_grow _ _ _ (where_false_typed has st t e ts h0 h1 h2) more i = where_false_typed more st t e ts h0 (tasks_grow _ _ _ h1 more i) (tasks_grow _ _ _ h2 more i)
    tasks_grow _ _ _ (bind_typed has st vs ts h0 h1) more i = bind_typed more st vs ts h0 (tasks_grow _ _ _ h1 (with_ids vs more) (more_ids vs has more i))
    tasks_grow _ _ _ (drop_typed has ss st n ts h0 h1) more i = drop_typed more ss st n ts h0 (tasks_grow _ _ _ h1 more i)
    tasks_grow _ _ _ (push_typed has st t x ts h0 h1) more i = push_typed more st t x ts (lists_grow p w w' grown _ _ h0) (tasks_grow _ _ _ h1 more i)
    tasks_grow _ _ _ (declare_typed has st v ts h0 h1) more i = declare_typed more st v ts h0 (tasks_grow _ _ _ h1 (v.id ∷ more) (one_more v.id has more i))
    tasks_grow _ _ _ (assign_typed has ss st xs us n ts h0 h1 h2) more i = assign_typed more ss st xs us n ts (targets p has more i _ _ _ h0) h1 (tasks_grow _ _ _ h2 more i)
    tasks_grow _ _ _ (assign_rest_typed has ss st xs us operands values ts h0 h1 h2 h3) more i = assign_rest_typed more ss st xs us operands values ts (targets p has more i _ _ _ h0) (are_in_grow p w w' grown _ _ h1) (are_in_grow p w w' grown _ _ h2) (tasks_grow _ _ _ h3 more i)
    tasks_grow _ _ _ (globals_typed has st ns us ts h0 h1) more i = globals_typed more st ns us ts h0 (tasks_grow _ _ _ h1 more i)
    tasks_grow _ _ _ (choose_typed has st t a b ts h0 h1 h2) more i = choose_typed more st t a b ts h0 (tasks_grow _ _ _ h1 more i) (tasks_grow _ _ _ h2 more i)
    tasks_grow _ _ _ (turn_typed has a label e t body post ts h0 h1) more i = turn_typed more a label e t body post ts h0 (loops_grow _ _ _ _ _ _ _ h1 more i)
    tasks_grow _ _ _ (endless_typed has a label body post ts h0) more i = endless_typed more a label body post ts (loops_grow _ _ _ _ _ _ _ h0 more i)
    tasks_grow _ _ _ (again_typed has a label c body post ts h0) more i = again_typed more a label c body post ts (loops_grow _ _ _ _ _ _ _ h0 more i)
    tasks_grow _ _ _ (clause_typed has st t n tests cl d ts h0 h1 h2) more i = clause_typed more st t n tests cl d ts h0 (tasks_grow _ _ _ h1 more i) (tasks_grow _ _ _ h2 more i)
    tasks_grow _ _ _ (default_typed has st cl d ts h0) more i = default_typed more st cl d ts (tasks_grow _ _ _ h0 more i)
    tasks_grow _ _ _ (begin_range_typed has a r ts h0 e h1 h2) more i = begin_range_typed more a r ts (range p has more i _ _ h0) e (labels_grow _ _ _ h1 more i) (tasks_grow _ _ _ h2 more i)
    tasks_grow _ _ _ (next_range_typed has a r c ts h0 e h1 h2 h3) more i = next_range_typed more a r c ts (range p has more i _ _ h0) e (cursor p w w' grown (underlying p.names r.from) c h1) (labels_grow _ _ _ h2 more i) (tasks_grow _ _ _ h3 more i)
    tasks_grow _ _ _ (leave_typed has st label ts h0) more i = leave_typed more st label ts (tasks_grow _ _ _ h0 more i)
    tasks_grow _ _ _ (branch_typed has kind label ts h0) more i = branch_typed more kind label ts (tasks_grow _ _ _ h0 more i)
    tasks_grow _ _ _ (call_typed has st c operands given n ts h0 h1 h2) more i = call_typed more st c operands given n ts (call p has more i _ _ _ h0) h1 (tasks_grow _ _ _ h2 more i)
    tasks_grow _ _ _ (go_typed has st c operands given n ts h0 h1 h2) more i = go_typed more st c operands given n ts (call p has more i _ _ _ h0) h1 (tasks_grow _ _ _ h2 more i)
    tasks_grow _ _ _ (defer_typed has st c operands given n ts h0 h1 h2) more i = defer_typed more st c operands given n ts (call p has more i _ _ _ h0) h1 (tasks_grow _ _ _ h2 more i)
    tasks_grow _ _ _ (through_typed has st v ts h0 h1) more i = through_typed more st v ts (has_var p has more v.id _ i h0) (tasks_grow _ _ _ h1 more i)
    tasks_grow _ _ _ (bare_return_typed has st ts) more i = bare_return_typed more st ts
    tasks_grow _ _ _ (return_typed has st n ts h0) more i = return_typed more st n ts h0
    tasks_grow _ _ _ (panic_typed has st t ts h0) more i = panic_typed more st t ts h0
    tasks_grow _ _ _ (recover_typed has st t ts h0 h1) more i = recover_typed more st t ts h0 (tasks_grow _ _ _ h1 more i)
    tasks_grow _ _ _ (send_typed has st t u ts h0 h1) more i = send_typed more st t u ts h0 (tasks_grow _ _ _ h1 more i)
    tasks_grow _ _ _ (receive_typed has st t u ok ts h0 h1) more i = receive_typed more st t u ok ts h0 (tasks_grow _ _ _ h1 more i)
    tasks_grow _ _ _ (close_typed has st t ts h0 h1) more i = close_typed more st t ts h0 (tasks_grow _ _ _ h1 more i)
    tasks_grow _ _ _ (select_typed has ss st label cs n body ts h0 h1) more i = select_typed more ss st label cs n body ts (cases_grow _ _ _ _ _ h0 more i) h1
    tasks_grow _ _ _ (select_default_typed has ss st label cs n body ts h0 h1 h2) more i = select_default_typed more ss st label cs n body ts (cases_grow _ _ _ _ _ h0 more i) h1 (tasks_grow _ _ _ h2 more i)
    tasks_grow _ _ _ (take_typed has st ts h0) more i = take_typed more st ts (tasks_grow _ _ _ h0 more i)
    tasks_grow _ _ _ (add_typed has st ts h0) more i = add_typed more st ts (tasks_grow _ _ _ h0 more i)
    tasks_grow _ _ _ (await_typed has st ts h0) more i = await_typed more st ts (tasks_grow _ _ _ h0 more i)
    tasks_grow _ _ _ (yield_typed has st ts h0) more i = yield_typed more st ts (tasks_grow _ _ _ h0 more i)
    tasks_grow _ _ _ (print_typed has ss st n ends_line ts h0 h1) more i = print_typed more ss st n ends_line ts h0 (tasks_grow _ _ _ h1 more i)
    tasks_grow _ _ _ (exit_typed has st t ts h0 h1) more i = exit_typed more st t ts h0 (tasks_grow _ _ _ h1 more i)
    tasks_grow _ _ _ (fatal_typed has st t ts h0 h1) more i = fatal_typed more st t ts h0 (tasks_grow _ _ _ h1 more i)
    tasks_grow _ _ _ (finish_typed has st ts h0) more i = finish_typed more st ts h0

    pub labels_grow : (has : List ℕ) (a : Around) (ts : List Task) → LabelsTyped p w results has a ts → (more : List ℕ) → Within has more → LabelsTyped p w' results more a ts
    labels_grow _ _ _ (labels_typed has a ts h0 h1) more i = labels_typed more a ts (λ label c. tasks_grow _ _ _ (h0 label c) more i) (λ label c. tasks_grow _ _ _ (h1 label c) more i)

    pub loops_grow : (has : List ℕ) (a : Around) (label : ℕ) (c : Bound) (body post : Stmts) (ts : List Task) → LoopTyped p w results has a label c body post ts → (more : List ℕ) → Within has more → LoopTyped p w' results more a label c body post ts
    loops_grow _ _ _ _ _ _ _ (loop_typed has a label c body post ts h0 e h1 h2 h3 h4 h5) more i = loop_typed more a label c body post ts (scope p has more i _ h0) e h1 h2 h3 (labels_grow _ _ _ h4 more i) (tasks_grow _ _ _ h5 more i)

    pub cases_grow : (has : List ℕ) (st : List Slot) (ts : List Task) (ss : List Slot) (cs : List Case) → CasesTyped p w results has st ts ss cs → (more : List ℕ) → Within has more → CasesTyped p w' results more st ts ss cs
    cases_grow _ _ _ _ _ (no_case has st ts) more i = no_case more st ts
    cases_grow _ _ _ _ _ (send_case has st ss ts t u body cs h0 h1 h2) more i = send_case more st ss ts t u body cs h0 (tasks_grow _ _ _ h1 more i) (cases_grow _ _ _ _ _ h2 more i)
    cases_grow _ _ _ _ _ (receive_case has st ss ts t u vars body cs h0 h1 h2 h3 h4) more i = receive_case more st ss ts t u vars body cs h0 h1 h2 (tasks_grow _ _ _ h3 more i) (cases_grow _ _ _ _ _ h4 more i)

-- Go specification (as of Go 1.17), "Statements", "Expressions", "Order of evaluation": what remains of a frame's
-- body, typed against the frame's values and the variables that it has. Where control may go on in several ways,
-- each is typed, and what comes after a branch is what its label leads to.
use Rattle.std.specs.Prelude.{◌≡◌, ◌⊎◌, ℕ, zero, List, [], ◌∷◌, ◌++◌, Bool, true, false, Option, Some, None, Contains, length, slice_get}
use Rattle.go_type.specs.Tree as ty
use Rattle.go_type.specs.Tree.{Ty, Tys}
use Rattle.go_type.specs.Underlying.{underlying}
use Rattle.go_core.specs.Memory.{Value}
use Rattle.go_core.specs.CoreTree as core
use Rattle.go_core.specs.CoreTree.{Expr, CorePlace, Bound, Stmts, Tests, Clauses, Target, BranchKind, break_, Var, MethodRow, MethodName, CoreFunc, CoreProgram}
use Rattle.go_core.specs.TypeOf.{listed_types, with_truth, global_type, field_in, FieldTy, int_type, method_in, Signature}
use Rattle.go_core.specs.SoundNode.{Around, with_loop, IsInt, IsBool, IsText, IsInterface, IsChannel, types_of_vars, IsRowOf, CallsMethod}
use Rattle.go_core.specs.Sound.{IsChannelOf, IsRanged, IfThere, RangesKey, RangesValue, ReceivesInto, SoundCondition, SoundStmts, empty_interface}
use Rattle.go_core.specs.Operator.{Operator}
use Rattle.go_core.specs.Opened.{evaluated, all_opened, tests_opened, clause_opened}
use Rattle.go_core.specs.Control.{left, continued, branched}
use Rattle.go_core.specs.Goroutine as task
use Rattle.go_core.specs.Goroutine.{Task, Called, the_function, the_method, the_value, the_dynamic, Cursor, numbers, copied, elements, characters, entries, Ranged, Case, CaseKind, case_sends, case_receives}
use Rattle.go_core.specs.Leaves.{times, leaves_of, Spans}
use Rattle.go_core.specs.Typed.{World, untagged_map, Lists, IsOf, type_of_var}
use Rattle.go_core.specs.Applies.{Slot, a_value, a_place, values_of_types, pushed_slots, AreIn, Applies}

-- ---- variables that a frame has, by their numbers

abbrev pub IsHad : List ℕ → ℕ → Type 0
IsHad [] v = ⊥
IsHad (x ∷ xs) v = (x ≡ v) ⊎ IsHad xs v

abbrev pub AreHad : List ℕ → List ℕ → Type 0
AreHad has [] = Unit {0}
AreHad has (v ∷ vs) = IsHad has v × AreHad has vs

abbrev pub with_ids : List Var → List ℕ → List ℕ
with_ids [] has = has
with_ids (v ∷ vs) has = with_ids vs (v.id ∷ has)

module _ (p : CoreProgram) where
  -- a variable of the program, of its type
  abbrev pub IsVar : Var → Type 0
  IsVar v = type_of_var p v.id ≡ Some v.type_

  abbrev pub AreVars : List Var → Type 0
  AreVars [] = Unit {0}
  AreVars (v ∷ vs) = IsVar v × AreVars vs

  -- the frame has it
  abbrev pub HasVar : List ℕ → ℕ → Ty → Type 0
  HasVar has v t = IsHad has v × (type_of_var p v ≡ Some t)

  abbrev pub HasVars : List ℕ → List Var → Type 0
  HasVars has [] = Unit {0}
  HasVars has (v ∷ vs) = HasVar has v.id v.type_ × HasVars has vs

  -- what is in scope is there, and what may be declared is of the type that it has everywhere
  pub record ScopeTyped (has : List ℕ) (a : Around) : Type 0 where
    pub in_scope : HasVars has a.vars
    pub declarable : AreVars a.declarable

  -- ---- left sides: the operands that have been evaluated, and the type of what lies there

  pub data PlaceTyped (has : List ℕ) : CorePlace → List Slot → Ty → Type 0 where
    local_place : (v : ℕ) (t : Ty) → HasVar has v t → PlaceTyped has (core.local_ v) [] t
    global_place : (n : ℕ) (t : Ty) → global_type (slice_get p.globals n) ≡ Some t → PlaceTyped has (core.global n) [] t
    deref_place : (e : Expr) (s t : Ty) → underlying p.names s ≡ ty.pointer t → PlaceTyped has (core.deref e) (a_value s ∷ []) t
    field_place : (t : Ty) (n : ℕ) (place : CorePlace) (ss : List Slot) (f : FieldTy) → PlaceTyped has place ss t → field_in (underlying p.names t) n ≡ Some f
        → PlaceTyped has (core.field t n place) ss f.type_
    elem_place : (t u i : Ty) (n : ℕ) (place : CorePlace) (e : Expr) (ss : List Slot) → PlaceTyped has place ss t → underlying p.names t ≡ ty.array n u → IsInt (underlying p.names i)
        → PlaceTyped has (core.elem t place e) (ss ++ a_value i ∷ []) u
    slice_place : (t u i : Ty) (e k : Expr) → underlying p.names t ≡ ty.slice u → IsInt (underlying p.names i)
        → PlaceTyped has (core.slice_elem t e k) (a_value t ∷ a_value i ∷ []) u

  -- the left side takes a value of this type
  pub data TargetTyped (has : List ℕ) : Target → List Slot → Ty → Type 0 where
    blank_target : (t : Ty) → TargetTyped has core.blank [] t
    place_target : (t : Ty) (place : CorePlace) (ss : List Slot) → PlaceTyped has place ss t → TargetTyped has (core.to_place t place) ss t
    entry_target : (m k t : Ty) (e key : Expr) → underlying p.names m ≡ ty.mapping k t → TargetTyped has (core.to_entry m e key) (a_value m ∷ a_value k ∷ []) t

  pub data TargetsTyped (has : List ℕ) : List Target → List Slot → List Ty → Type 0 where
    no_target : TargetsTyped has [] [] []
    more_targets : (x : Target) (xs : List Target) (ss us : List Slot) (t : Ty) (ts : List Ty) → TargetTyped has x ss t → TargetsTyped has xs us ts
        → TargetsTyped has (x ∷ xs) (ss ++ us) (t ∷ ts)

  abbrev pub GlobalsTyped : List ℕ → List Ty → Type 0
  GlobalsTyped [] [] = Unit {0}
  GlobalsTyped (n ∷ ns) (t ∷ ts) = (global_type (slice_get p.globals n) ≡ Some t) × GlobalsTyped ns ts
  GlobalsTyped _ _ = ⊥

  -- ---- calls: the operands, and the results

  pub data CallTyped (has : List ℕ) : Called → List Ty → List Ty → Type 0 where
    calls_function : (func : ℕ) (f : CoreFunc) → slice_get p.funcs func ≡ Some f → AreHad has f.captured → (IsRowOf p func → ⊥)
        → CallTyped has (the_function func) (listed_types f.params) (listed_types f.results)
    calls_method : (n : MethodName) (operands : List Ty) (results : Tys) → CallsMethod p n operands results → CallTyped has (the_method n) operands (listed_types results)
    calls_value : (t : Ty) (ps rs : Tys) (variadic : Bool) → underlying p.names t ≡ ty.func ps rs variadic → CallTyped has the_value (t ∷ listed_types ps) (listed_types rs)
    calls_dynamic : (t : Ty) (name package_ : List ℕ) (s : Signature) → method_in name package_ (underlying p.names t) ≡ Some s
        → CallTyped has (the_dynamic name package_) (t ∷ listed_types s.params) (listed_types s.results)

  -- ---- ranges

  -- how far a range over a type has come
  abbrev pub CursorTyped : World → Ty → Cursor → Type 0
  CursorTyped w (ty.int name) (numbers next count) = Unit {0}
  CursorTyped w (ty.array n u) (copied next left_) = (k : ℕ) × Lists p w (times k (leaves_of p.names u)) left_
  CursorTyped w (ty.slice u) (elements next count base) = Spans w.cells base (times count (leaves_of p.names u))
  CursorTyped w (ty.pointer t) (elements next count base) = (n : ℕ) × (u : Ty) × (underlying p.names t ≡ ty.array n u) × Spans w.cells base (times count (leaves_of p.names u))
  CursorTyped w ty.str (characters offset left_) = Unit {0}
  CursorTyped w (ty.mapping k v) (entries None produced since) = Unit {0}
  CursorTyped w (ty.mapping k v) (entries (Some name) produced since) = slice_get w.maps name ≡ Some (untagged_map (record { key = k; value = v }))
  -- what is nil has no elements
  CursorTyped w (ty.slice u) (numbers next count) = count ≡ 0
  CursorTyped w (ty.pointer t) (numbers next count) = count ≡ 0
  CursorTyped w _ _ = ⊥

  abbrev pub HasIfThere : List ℕ → Option Var → Type 0
  HasIfThere has None = Unit {0}
  HasIfThere has (Some v) = HasVar has v.id v.type_

  pub record RangeTyped (has : List ℕ) (a : Around) (r : Ranged) : Type 0 where
    pub around : ScopeTyped has a
    pub ranged : IsRanged p (underlying p.names r.from)
    pub key_had : HasIfThere has r.key
    pub value_had : HasIfThere has r.value
    pub key_fits : IfThere r.key (RangesKey (underlying p.names r.from))
    pub value_fits : IfThere r.value (RangesValue p (underlying p.names r.from))
    pub body_sound : SoundStmts p (with_loop r.label a) r.body

-- what a switch does without a clause that was chosen
abbrev pub default_opened : Clauses → Option ℕ → List Task → List Task
default_opened cs None rest = rest
default_opened cs (Some n) rest = clause_opened cs n rest

-- what a clause of a select puts before what remains, once its communication is done
abbrev pub clause_first : List Var → Stmts → List Task → List Task
clause_first [] body rest = all_opened body rest
clause_first (v ∷ vs) body rest = task.bind_vars (v ∷ vs) ∷ all_opened body rest

-- with the types of the frame's results
module _ (p : CoreProgram) (w : World) (results : List Ty) where
  mutual
    pub data TasksTyped : List ℕ → List Slot → List Task → Type 0 where
      no_task : (has : List ℕ) (st : List Slot) → TasksTyped has st []
      operate_typed : (has : List ℕ) (ins outs st : List Slot) (o : Operator) (n : ℕ) (ts : List Task) → Applies p o ins outs → length ins ≡ n
          → TasksTyped has (pushed_slots outs st) ts → TasksTyped has (pushed_slots ins st) (task.operate o n ∷ ts)
      local_typed : (has : List ℕ) (st : List Slot) (v : ℕ) (t : Ty) (ts : List Task) → HasVar p has v t
          → TasksTyped has (a_place t ∷ st) ts → TasksTyped has st (task.at_local v ∷ ts)
      closure_typed : (has : List ℕ) (st : List Slot) (func : ℕ) (f : CoreFunc) (ts : List Task) → slice_get p.funcs func ≡ Some f → AreHad has f.captured → (IsRowOf p func → ⊥)
          → TasksTyped has (a_value (ty.func f.params f.results f.variadic) ∷ st) ts → TasksTyped has st (task.make_closure func ∷ ts)
      where_true_typed : (has : List ℕ) (st : List Slot) (t : Ty) (e : Expr) (ts : List Task) → IsBool (underlying p.names t)
          → TasksTyped has st (evaluated e ts) → TasksTyped has (a_value t ∷ st) ts → TasksTyped has (a_value t ∷ st) (task.only_where_true e ∷ ts)
      where_false_typed : (has : List ℕ) (st : List Slot) (t : Ty) (e : Expr) (ts : List Task) → IsBool (underlying p.names t)
          → TasksTyped has st (evaluated e ts) → TasksTyped has (a_value t ∷ st) ts → TasksTyped has (a_value t ∷ st) (task.only_where_false e ∷ ts)
      bind_typed : (has : List ℕ) (st : List Slot) (vs : List Var) (ts : List Task) → AreVars p vs
          → TasksTyped (with_ids vs has) st ts → TasksTyped has (pushed_slots (values_of_types (types_of_vars vs)) st) (task.bind_vars vs ∷ ts)
      drop_typed : (has : List ℕ) (ss st : List Slot) (n : ℕ) (ts : List Task) → length ss ≡ n → TasksTyped has st ts → TasksTyped has (pushed_slots ss st) (task.drop_values n ∷ ts)
      push_typed : (has : List ℕ) (st : List Slot) (t : Ty) (x : Value) (ts : List Task) → IsOf p w t x → TasksTyped has (a_value t ∷ st) ts → TasksTyped has st (task.push_value x ∷ ts)
      declare_typed : (has : List ℕ) (st : List Slot) (v : Var) (ts : List Task) → IsVar p v → TasksTyped (v.id ∷ has) st ts → TasksTyped has st (task.declare_var v ∷ ts)
      assign_typed : (has : List ℕ) (ss st : List Slot) (xs : List Target) (us : List Ty) (n : ℕ) (ts : List Task) → TargetsTyped p has xs ss us → length us ≡ n
          → TasksTyped has st ts → TasksTyped has (pushed_slots (values_of_types us) (pushed_slots ss st)) (task.assign xs n ∷ ts)
      assign_rest_typed : (has : List ℕ) (ss st : List Slot) (xs : List Target) (us : List Ty) (operands values : List Value) (ts : List Task) → TargetsTyped p has xs ss us
          → AreIn p w ss operands → AreIn p w (values_of_types us) values → TasksTyped has st ts → TasksTyped has st (task.assign_rest xs operands values ∷ ts)
      globals_typed : (has : List ℕ) (st : List Slot) (ns : List ℕ) (us : List Ty) (ts : List Task) → GlobalsTyped p ns us
          → TasksTyped has st ts → TasksTyped has (pushed_slots (values_of_types us) st) (task.set_globals ns ∷ ts)
      choose_typed : (has : List ℕ) (st : List Slot) (t : Ty) (a b : Stmts) (ts : List Task) → IsBool (underlying p.names t)
          → TasksTyped has st (all_opened a ts) → TasksTyped has st (all_opened b ts) → TasksTyped has (a_value t ∷ st) (task.choose a b ∷ ts)
      -- a loop without a condition has none on the stack
      turn_typed : (has : List ℕ) (a : Around) (label : ℕ) (e : Expr) (t : Ty) (body post : Stmts) (ts : List Task) → IsBool (underlying p.names t)
          → LoopTyped has a label (core.bound e) body post ts → TasksTyped has (a_value t ∷ []) (task.turn label (core.bound e) body post ∷ ts)
      endless_typed : (has : List ℕ) (a : Around) (label : ℕ) (body post : Stmts) (ts : List Task)
          → LoopTyped has a label core.no_bound body post ts → TasksTyped has [] (task.turn label core.no_bound body post ∷ ts)
      again_typed : (has : List ℕ) (a : Around) (label : ℕ) (c : Bound) (body post : Stmts) (ts : List Task)
          → LoopTyped has a label c body post ts → TasksTyped has [] (task.turn_again label c body post ∷ ts)
      clause_typed : (has : List ℕ) (st : List Slot) (t : Ty) (n : ℕ) (tests : Tests) (clauses : Clauses) (d : Option ℕ) (ts : List Task) → IsBool (underlying p.names t)
          → TasksTyped has st (clause_opened clauses n ts) → TasksTyped has st (tests_opened tests clauses d ts)
          → TasksTyped has (a_value t ∷ st) (task.choose_clause n tests clauses d ∷ ts)
      default_typed : (has : List ℕ) (st : List Slot) (clauses : Clauses) (d : Option ℕ) (ts : List Task)
          → TasksTyped has st (default_opened clauses d ts) → TasksTyped has st (task.choose_default clauses d ∷ ts)
      begin_range_typed : (has : List ℕ) (a : Around) (r : Ranged) (ts : List Task) → RangeTyped p has a r → listed_types a.results ≡ results → LabelsTyped has a ts
          → TasksTyped has [] ts → TasksTyped has (a_value r.from ∷ []) (task.begin_range r ∷ ts)
      next_range_typed : (has : List ℕ) (a : Around) (r : Ranged) (c : Cursor) (ts : List Task) → RangeTyped p has a r → listed_types a.results ≡ results → CursorTyped p w (underlying p.names r.from) c → LabelsTyped has a ts
          → TasksTyped has [] ts → TasksTyped has [] (task.next_range r c ∷ ts)
      leave_typed : (has : List ℕ) (st : List Slot) (label : ℕ) (ts : List Task) → TasksTyped has st ts → TasksTyped has st (task.leave label ∷ ts)
      branch_typed : (has : List ℕ) (kind : BranchKind) (label : ℕ) (ts : List Task) → TasksTyped has [] (branched kind label ts) → TasksTyped has [] (task.branch_to kind label ∷ ts)
      call_typed : (has : List ℕ) (st : List Slot) (c : Called) (operands given : List Ty) (n : ℕ) (ts : List Task) → CallTyped p has c operands given → length operands ≡ n
          → TasksTyped has (pushed_slots (values_of_types given) st) ts → TasksTyped has (pushed_slots (values_of_types operands) st) (task.call_with c n ∷ ts)
      go_typed : (has : List ℕ) (st : List Slot) (c : Called) (operands given : List Ty) (n : ℕ) (ts : List Task) → CallTyped p has c operands given → length operands ≡ n
          → TasksTyped has st ts → TasksTyped has (pushed_slots (values_of_types operands) st) (task.go_with c n ∷ ts)
      defer_typed : (has : List ℕ) (st : List Slot) (c : Called) (operands given : List Ty) (n : ℕ) (ts : List Task) → CallTyped p has c operands given → length operands ≡ n
          → TasksTyped has st ts → TasksTyped has (pushed_slots (values_of_types operands) st) (task.defer_with c n ∷ ts)
      through_typed : (has : List ℕ) (st : List Slot) (v : Var) (ts : List Task) → HasVar p has v.id v.type_
          → TasksTyped has st ts → TasksTyped has (a_value (ty.pointer v.type_) ∷ st) (task.receive_through v ∷ ts)
      bare_return_typed : (has : List ℕ) (st : List Slot) (ts : List Task) → TasksTyped has st (task.return_with zero ∷ ts)
      return_typed : (has : List ℕ) (st : List Slot) (n : ℕ) (ts : List Task) → length results ≡ n → TasksTyped has (pushed_slots (values_of_types results) st) (task.return_with n ∷ ts)
      panic_typed : (has : List ℕ) (st : List Slot) (t : Ty) (ts : List Task) → IsInterface (underlying p.names t) → TasksTyped has (a_value t ∷ st) (task.panic_with ∷ ts)
      recover_typed : (has : List ℕ) (st : List Slot) (t : Ty) (ts : List Task) → underlying p.names t ≡ empty_interface
          → TasksTyped has (a_value t ∷ st) ts → TasksTyped has st (task.recover_here ∷ ts)
      send_typed : (has : List ℕ) (st : List Slot) (t u : Ty) (ts : List Task) → IsChannelOf (underlying p.names t) u
          → TasksTyped has st ts → TasksTyped has (a_value u ∷ a_value t ∷ st) (task.send_to t ∷ ts)
      receive_typed : (has : List ℕ) (st : List Slot) (t u : Ty) (ok : Bool) (ts : List Task) → IsChannelOf (underlying p.names t) u
          → TasksTyped has (pushed_slots (values_of_types (with_truth ok (Some u))) st) ts → TasksTyped has (a_value t ∷ st) (task.receive_from t ok ∷ ts)
      close_typed : (has : List ℕ) (st : List Slot) (t : Ty) (ts : List Task) → IsChannel (underlying p.names t) → TasksTyped has st ts → TasksTyped has (a_value t ∷ st) (task.close_channel ∷ ts)
      select_typed : (has : List ℕ) (ss st : List Slot) (label : ℕ) (cases : List Case) (n : ℕ) (body : Stmts) (ts : List Task)
          → CasesTyped has st ts ss cases → length ss ≡ n → TasksTyped has (pushed_slots ss st) (task.select_from label cases n false body ∷ ts)
      select_default_typed : (has : List ℕ) (ss st : List Slot) (label : ℕ) (cases : List Case) (n : ℕ) (body : Stmts) (ts : List Task)
          → CasesTyped has st ts ss cases → length ss ≡ n → TasksTyped has st (all_opened body ts)
          → TasksTyped has (pushed_slots ss st) (task.select_from label cases n true body ∷ ts)
      take_typed : (has : List ℕ) (st : List Slot) (ts : List Task) → TasksTyped has st ts → TasksTyped has (a_place int_type ∷ st) (task.take_gate ∷ ts)
      add_typed : (has : List ℕ) (st : List Slot) (ts : List Task) → TasksTyped has (a_value int_type ∷ st) ts
          → TasksTyped has (a_value int_type ∷ a_place int_type ∷ st) (task.add_to_gate ∷ ts)
      await_typed : (has : List ℕ) (st : List Slot) (ts : List Task) → TasksTyped has st ts → TasksTyped has (a_place int_type ∷ st) (task.await_gate ∷ ts)
      yield_typed : (has : List ℕ) (st : List Slot) (ts : List Task) → TasksTyped has st ts → TasksTyped has st (task.yield_turn ∷ ts)
      print_typed : (has : List ℕ) (ss st : List Slot) (n : ℕ) (ends_line : Bool) (ts : List Task) → length ss ≡ n
          → TasksTyped has st ts → TasksTyped has (pushed_slots ss st) (task.print_values n ends_line ∷ ts)
      exit_typed : (has : List ℕ) (st : List Slot) (t : Ty) (ts : List Task) → IsInt (underlying p.names t) → TasksTyped has st ts → TasksTyped has (a_value t ∷ st) (task.exit_with ∷ ts)
      fatal_typed : (has : List ℕ) (st : List Slot) (t : Ty) (ts : List Task) → IsText (underlying p.names t) → TasksTyped has st ts → TasksTyped has (a_value t ∷ st) (task.fatal_with ∷ ts)
      finish_typed : (has : List ℕ) (st : List Slot) (ts : List Task) → results ≡ [] → TasksTyped has st (task.finish ∷ ts)

    -- what the labels around lead to
    pub data LabelsTyped : List ℕ → Around → List Task → Type 0 where
      labels_typed : (has : List ℕ) (a : Around) (ts : List Task) → ((label : ℕ) → Contains a.breaks label → TasksTyped has [] (left label ts))
          → ((label : ℕ) → Contains a.continues label → TasksTyped has [] (continued label ts)) → LabelsTyped has a ts

    -- a loop, and what comes after it
    pub data LoopTyped : List ℕ → Around → ℕ → Bound → Stmts → Stmts → List Task → Type 0 where
      loop_typed : (has : List ℕ) (a : Around) (label : ℕ) (c : Bound) (body post : Stmts) (ts : List Task) → ScopeTyped p has a → listed_types a.results ≡ results
          → SoundCondition p a c → SoundStmts p (with_loop label a) body → SoundStmts p a post → LabelsTyped has a ts → TasksTyped has [] ts
          → LoopTyped has a label c body post ts

    -- the clauses of a select, with the operands of their communications
    pub data CasesTyped : List ℕ → List Slot → List Task → List Slot → List Case → Type 0 where
      no_case : (has : List ℕ) (st : List Slot) (ts : List Task) → CasesTyped has st ts [] []
      send_case : (has : List ℕ) (st ss : List Slot) (ts : List Task) (t u : Ty) (body : Stmts) (cs : List Case) → IsChannelOf (underlying p.names t) u
          → TasksTyped has st (all_opened body ts) → CasesTyped has st ts ss cs
          → CasesTyped has st ts (a_value t ∷ a_value u ∷ ss) (record { kind = case_sends t; body = body } ∷ cs)
      receive_case : (has : List ℕ) (st ss : List Slot) (ts : List Task) (t u : Ty) (vars : List Var) (body : Stmts) (cs : List Case)
          → IsChannelOf (underlying p.names t) u → ReceivesInto u vars → AreVars p vars
          → TasksTyped has (pushed_slots (values_of_types (types_of_vars vars)) st) (clause_first vars body ts) → CasesTyped has st ts ss cs
          → CasesTyped has st ts (a_value t ∷ ss) (record { kind = case_receives t vars; body = body } ∷ cs)

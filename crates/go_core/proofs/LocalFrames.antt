-- The steps that a frame takes by itself keep its state well formed.
use Rattle.std.proofs.Common.{◌⊎◌, inl, inr, refl, sym, ap, ◌∙◌, subst, arith}
use Rattle.std.specs.Prelude.{◌≡◌, ℕ, zero, suc, ◌+◌, List, [], ◌∷◌, ◌++◌, Bool, true, false, not, if◌then◌else◌, Option, Some, None, drop, length, ◌==◌, option_and_then}
use Rattle.std.proofs.lemmas.List.{append-nil}
use Rattle.std.proofs.lemmas.Bool.{eqb-true, eqb-false}
use Rattle.go_type.specs.Tree as ty
use Rattle.go_type.specs.Tree.{Ty, no_specs}
use Rattle.go_type.specs.Underlying.{underlying}
use Rattle.go_core.specs.Layout.{shape_of, weight}
use Rattle.go_core.specs.Memory as cell
use Rattle.go_core.specs.Memory.{Scalar, Value, Memory, zeros, next_base, with_fresh, with_written}
use Rattle.go_core.specs.CoreTree.{Expr, Bound, no_bound, bound as bound_, Stmts, Tests, Clauses, Var, CoreProgram}
use Rattle.go_core.specs.SoundNode.{Around, with_loop, IsBool, IsInterface, types_of_vars}
use Rattle.go_core.specs.Sound.{empty_interface}
use Rattle.go_core.specs.SoundProgram.{Sound}
use Rattle.go_core.specs.RunPanic.{RunPanic, panic_value, text_of}
use Rattle.go_core.specs.Did.{Did, gives, panics, no_step}
use Rattle.go_core.specs.Operator.{operated}
use Rattle.go_core.specs.Opened.{evaluated, all_opened, loop_opened, tests_opened, clause_opened}
use Rattle.go_core.specs.Control.{branched}
use Rattle.go_core.specs.Arithmetic.{residue}
use Rattle.go_core.specs.Text.{output_of}
use Rattle.go_core.specs.Panics as q
use Rattle.go_core.specs.Goroutine as task
use Rattle.go_core.specs.Goroutine.{Task, Popped, popped, popped_before, pushed, Place, Frame, able, Goroutine, State, Move, base_in, moved, with_memory, panicking, End, exit, fatal}
use Rattle.go_core.specs.Frames as f
use Rattle.go_core.specs.Calls as c
use Rattle.go_core.specs.Calls.{Bindings, with_var, with_vars, bases_of}
use Rattle.go_core.specs.StepMemory.{global_base}
use Rattle.go_core.specs.Assign as a
use Rattle.go_core.specs.Control as k
use Rattle.go_core.specs.GoStep as go
use Rattle.go_core.specs.Leaves.{leaf, leaf_of, leaves_of, Spans}
use Rattle.go_core.specs.Typed.{World, type_of_var, VarAt, AreAt, AnswersLike, ScalarTyped, text_typed, interface_typed, nil_typed, none_typed, more_typed, ScalarsTyped, IsOf, MemoryTyped, Extends}
use Rattle.go_core.specs.TasksTyped.{IsHad, AreHad, with_ids, IsVar, AreVars, HasVar, HasVars, GlobalsTyped, default_opened, TasksTyped, LoopTyped, no_task, operate_typed, local_typed, closure_typed, where_true_typed, where_false_typed, bind_typed, drop_typed, push_typed, declare_typed, globals_typed, choose_typed, turn_typed, endless_typed, again_typed, clause_typed, default_typed, leave_typed, branch_typed, bare_return_typed, return_typed, panic_typed, yield_typed, print_typed, exit_typed, fatal_typed, loop_typed}
use Rattle.go_core.specs.Applies.{Slot, a_value, a_place, values_of_types, pushed_slots, AreIn, IsIn}
use Rattle.go_core.specs.WellFormed.{ids_of, gives_below, PlacesTyped, FrameTyped, FramesTyped, GoroutineTyped, WellFormed}
use Rattle.go_core.specs.TypingLaws.{DidTyped}
use Rattle.go_core.specs.LocalSteps.{StartsLocal, KeepsWell, LocalStepsKeep}
use Rattle.go_core.proofs.TypedGrowth.{are_in_grow}
use Rattle.go_core.proofs.TasksGrow.{Within, tasks_grow, has_vars}
use Rattle.go_core.proofs.LeavesLemmas.{under_leaves, zeros_of}
use Rattle.go_core.proofs.MemoryLemmas.{same_world, both_worlds, with_cells, cells_extend, fresh, fresh_lies, writes}
use Rattle.go_core.proofs.TypedScalars.{is_bool, up_truth, interface_in, truth_in, whole_in, text_in, as_function, one_scalar, down, is_int, is_text, one_in}
use Rattle.go_core.proofs.OperatorsAll.{all}
use Rattle.go_core.proofs.OpenedLemmas.{values_length as types_length}
use Rattle.go_core.proofs.OpenedScope.{within_ids}
use Rattle.go_core.proofs.OpenedLabels.{over_loop, inside_loop}
use Rattle.go_core.proofs.OpenedStmts as stmts
use Rattle.go_core.proofs.FramesGrow.{places, frame, frames, goroutines, globals, goroutine_at, goroutine_set}

-- ---- values on the stack

pub record Taken (p : CoreProgram) (w : World) (ins st : List Slot) (n : ℕ) (vs : List Value) (acc : List Value) : Type 0 where
  pub operands : List Value
  pub others : List Value
  pub are_in : AreIn p w ins operands
  pub left_in : AreIn p w st others
  pub taken : popped_before (length ins + n) vs acc ≡ popped_before n others (operands ++ acc)

pub takes_off : (p : CoreProgram) (w : World) (ins st : List Slot) (n : ℕ) (vs acc : List Value) → AreIn p w (pushed_slots ins st) vs → Taken p w ins st n vs acc
takes_off p w [] st n vs acc h = let z : 0 + n ≡ n = omega arith in record { operands = []; others = vs; are_in = tt; left_in = h; taken = ap (λ j. popped_before j vs acc) z }
takes_off p w (i ∷ is) st n vs acc h = next i is st n vs acc (takes_off p w is (i ∷ st) (suc n) vs acc h)
  where
    next : (i : Slot) (is st : List Slot) (n : ℕ) (vs acc : List Value) → Taken p w is (i ∷ st) (suc n) vs acc → Taken p w (i ∷ is) st n vs acc
    next i is st n vs acc t = by_others i is st n vs acc t.operands t.others t.are_in t.left_in t.taken
      where
        by_others : (i : Slot) (is st : List Slot) (n : ℕ) (vs acc ops others : List Value) → AreIn p w is ops → AreIn p w (i ∷ st) others → popped_before (length is + suc n) vs acc ≡ popped_before (suc n) others (ops ++ acc)
            → Taken p w (i ∷ is) st n vs acc
        by_others i is st n vs acc ops [] h k e = absurd k
        by_others i is st n vs acc ops (x ∷ others) h k e =
            let z : suc (length is) + n ≡ length is + suc n = omega arith in
            record { operands = x ∷ ops; others = others; are_in = (k.0, h); left_in = k.1; taken = ap (λ j. popped_before j vs acc) z ∙ e }

pub pushes_on : (p : CoreProgram) (w : World) (outs st : List Slot) (xs vs : List Value) → AreIn p w outs xs → AreIn p w st vs → AreIn p w (pushed_slots outs st) (pushed xs vs)
pushes_on p w [] st [] vs h k = k
pushes_on p w [] st (x ∷ xs) vs h k = absurd h
pushes_on p w (o ∷ outs) st [] vs h k = absurd h
pushes_on p w (o ∷ outs) st (x ∷ xs) vs h k = pushes_on p w outs (o ∷ st) xs (x ∷ vs) h.1 (h.0, k)

pub drops_off : (p : CoreProgram) (w : World) (ss st : List Slot) (n : ℕ) (vs : List Value) → length ss ≡ n → AreIn p w (pushed_slots ss st) vs → AreIn p w st (drop n vs)
drops_off p w ss st n vs e h = subst (λ j. AreIn p w st (drop j vs)) e (off ss st vs h)
  where
    tail : (i : Slot) (st : List Slot) (n : ℕ) (vs : List Value) → AreIn p w (i ∷ st) (drop n vs) → AreIn p w st (drop (suc n) vs)
    tail i st zero [] h = absurd h
    tail i st zero (v ∷ vs) h = h.1
    tail i st (suc n) [] h = absurd h
    tail i st (suc n) (v ∷ vs) h = tail i st n vs h

    off : (ss st : List Slot) (vs : List Value) → AreIn p w (pushed_slots ss st) vs → AreIn p w st (drop (length ss) vs)
    off [] st vs h = h
    off (i ∷ is) st vs h = tail i st (length is) vs (off is (i ∷ st) vs h)

some_inj : {A : Type 0} (x y : A) → Some x ≡ Some y → x ≡ y
some_inj x y e = cc

-- ---- variables

pub record BaseFound (p : CoreProgram) (w : World) (v : ℕ) (t : Ty) (qs : List Place) : Type 0 where
  pub base : ℕ
  pub is_base : base_in v qs ≡ Some base
  pub lies : Spans w.cells base (leaves_of p.names t)

by_id : (p : CoreProgram) (w : World) (q : Place) (qs : List Place) (v : ℕ) (t : Ty) → VarAt p w.cells q.var q.base → type_of_var p v ≡ Some t → (IsHad (ids_of qs) v → BaseFound p w v t qs) → (q.var ≡ v) ⊎ IsHad (ids_of qs) v
    → (b : Bool) → (q.var == v) ≡ b → BaseFound p w v t (q ∷ qs)
by_id p w q qs v t h e next had true r =
    let same : q.var ≡ v = eqb-true q.var v r in
    let typed : h.type_ ≡ t = some_inj h.type_ t (sym h.is_known ∙ ap (type_of_var p) same ∙ e) in
    record { base = q.base; is_base = ap (λ b. if b then Some q.base else base_in v qs) r; lies = subst (λ u. Spans w.cells q.base (leaves_of p.names u)) typed h.lies }
by_id p w q qs v t h e next (inl s) false r = absurd (eqb-false q.var v r s)
by_id p w q qs v t h e next (inr s) false r = let i = next s in record { base = i.base; is_base = ap (λ b. if b then Some q.base else base_in v qs) r ∙ i.is_base; lies = i.lies }

pub base_found : (p : CoreProgram) (w : World) (qs : List Place) (v : ℕ) (t : Ty) → PlacesTyped p w qs → HasVar p (ids_of qs) v t → BaseFound p w v t qs
base_found p w [] v t h k = absurd k.0
base_found p w (q ∷ qs) v t h k = by_id p w q qs v t h.0 k.1 (λ s. base_found p w qs v t h.1 (s, k.1)) k.0 (q.var == v) refl

-- a variable that a frame has is of the program
known_var : (p : CoreProgram) (w : World) (qs : List Place) (v : ℕ) → PlacesTyped p w qs → IsHad (ids_of qs) v → (t : Ty) × (type_of_var p v ≡ Some t)
known_var p w [] v h k = absurd k
known_var p w (q ∷ qs) v h (inl e) = (h.0.type_, ap (type_of_var p) (sym e) ∙ h.0.is_known)
known_var p w (q ∷ qs) v h (inr k) = known_var p w qs v h.1 k

pub record BasesFound (p : CoreProgram) (w : World) (vs : List ℕ) (qs : List Place) : Type 0 where
  pub bases : List ℕ
  pub are_bases : bases_of vs qs ≡ Some bases
  pub lie : AreAt p w.cells vs bases

pub bases_found : (p : CoreProgram) (w : World) (qs : List Place) (vs : List ℕ) → PlacesTyped p w qs → AreHad (ids_of qs) vs → BasesFound p w vs qs
bases_found p w qs [] h k = record { bases = []; are_bases = refl; lie = tt }
bases_found p w qs (v ∷ vs) h k =
    let t = known_var p w qs v h k.0 in
    let b = base_found p w qs v t.0 h (k.0, t.1) in
    let bs = bases_found p w qs vs h k.1 in
    record {
      bases = b.base ∷ bs.bases;
      are_bases = ap (option_and_then (λ x. option_and_then (λ ys. Some (x ∷ ys)) (bases_of vs qs))) b.is_base ∙ ap (option_and_then (λ ys. Some (b.base ∷ ys))) bs.are_bases;
      lie = (record { type_ = t.0; is_known = t.1; lies = b.lies }, bs.lie);
    }

-- ---- a frame's step

module _ (p : CoreProgram) (sound : Sound p) (choices : List ℕ) (move : Move) (g : ℕ) (s : State) (wf : WellFormed p s)
    (f0 : Frame) (slots0 : List Slot) (below : List Frame) (ft : FrameTyped p wf.world slots0 f0 below) (bt : FramesTyped p wf.world (gives_below f0.purpose (types_of_vars f0.results)) below) where
  abbrev pub w : World
  w = wf.world

  abbrev pub rs : List Ty
  rs = types_of_vars f0.results

  abbrev pub T : List ℕ → List Slot → List Task → Type 0
  T had st ts = TasksTyped p w rs had st ts

  -- the frame with other tasks and values
  abbrev pub with_ : List Task → List Value → Frame
  with_ ts vs = record f0 { tasks = ts; values = vs }

  -- the state that a step leaves is well formed, where its frame is typed in the world after it
  pub keeps_in : (v : World) → Extends w v → (m : Memory) → MemoryTyped p v m → (x : Frame) → GoroutineTyped p v able (x ∷ below) → (units : ℕ) → WellFormed p (with_memory m (moved g (x ∷ below) units s))
  keeps_in v x m mt y h units = record {
    world = v;
    globals_lie = globals p w v x wf.globals_lie;
    memory_typed = mt;
    goroutines_typed = goroutine_set p v s.goroutines g (record { frames = y ∷ below; waiting = able }) (goroutines p w v x s.goroutines wf.goroutines_typed) h;
  }

  -- a frame that changed its tasks and values alone
  pub typed_in : (v : World) → Extends w v → (had : List ℕ) → ids_of f0.places ≡ had → (slots : List Slot) (ts : List Task) (vs : List Value) → AreIn p v slots vs → T had slots ts → GoroutineTyped p v able (with_ ts vs ∷ below)
  typed_in v x had e slots ts vs h t =
      let old = frame p w v x slots0 f0 below ft in (
        (
          slots,
          record { values_typed = h; places_typed = old.places_typed; results_had = old.results_had; deferred_typed = old.deferred_typed; mode_typed = old.mode_typed; purpose_fits = old.purpose_fits },
          tasks_grow p w v rs x (ids_of f0.places) slots ts (subst (λ is. T is slots ts) (sym e) t) (ids_of f0.places) (λ u k. k),
        ),
        frames p w v x (gives_below f0.purpose rs) below bt,
      )

  -- the memory stays
  pub keeps : (had : List ℕ) → ids_of f0.places ≡ had → (slots : List Slot) (ts : List Task) (vs : List Value) (units : ℕ) → AreIn p w slots vs → T had slots ts → WellFormed p (moved g (with_ ts vs ∷ below) units s)
  keeps had e slots ts vs units h t = keeps_in w (same_world w) s.memory wf.memory_typed (with_ ts vs) (typed_in w (same_world w) had e slots ts vs h t) units

  none_asked : (t : Ty) → AnswersLike p t no_specs
  none_asked t name package_ q e = absurd (cc)

  -- a run-time panic's value
  pub panic_typed_in : (v : World) (q : RunPanic) → ScalarTyped p v (leaf empty_interface) (panic_value p.hidden q)
  panic_typed_in v q =
      interface_typed no_specs p.hidden _ (none_asked p.hidden)
      (subst (λ ls. ScalarsTyped p v ls (cell.scalar (cell.text (text_of q)) cell.no_scalars)) (sym (under_leaves p sound.names_set p.hidden ∙ ap (leaves_of p.names) sound.hidden.is_text))
      (more_typed (leaf ty.str) [] (cell.text (text_of q)) cell.no_scalars (text_typed (text_of q)) none_typed))

  pub to_panic : (y : Scalar) (ts : List Task) (vs : List Value) (units : ℕ) → ScalarTyped p w (leaf empty_interface) y → WellFormed p (moved g (f.to_panicking y (with_ ts vs) ∷ below) units s)
  to_panic y ts vs units h =
      keeps_in w (same_world w) s.memory wf.memory_typed (f.to_panicking y (with_ ts vs))
      (([], record { values_typed = tt; places_typed = ft.places_typed; results_had = ft.results_had; deferred_typed = ft.deferred_typed; mode_typed = h; purpose_fits = ft.purpose_fits }, no_task (ids_of f0.places) []), bt) units

  did : (had : List ℕ) → ids_of f0.places ≡ had → (outs st : List Slot) (ts : List Task) (vs : List Value) (d : Did) → AreIn p w st vs → T had (pushed_slots outs st) ts → DidTyped p w outs d
      → KeepsWell p (f.did_step p.hidden g d (with_ ts vs) below s)
  did had e outs st ts vs (gives xs m u) h t k =
      keeps_in k.0 k.1 m k.2 (with_ ts (pushed xs vs)) (typed_in k.0 k.1 had e (pushed_slots outs st) ts (pushed xs vs) (pushes_on p k.0 outs st xs vs k.3 (are_in_grow p w k.0 k.1 st vs h)) t) (1 + u)
  did had e outs st ts vs (panics q u) h t k = to_panic (panic_value p.hidden q) ts vs (1 + u) (panic_typed_in w q)
  did had e outs st ts vs no_step h t k = absurd k

  -- operands are taken off
  pub operands : (ins st : List Slot) (n : ℕ) (ts : List Task) (vs : List Value) (next : List Value → Frame → Option State) → length ins ≡ n → AreIn p w (pushed_slots ins st) vs
      → ((ops others : List Value) → AreIn p w ins ops → AreIn p w st others → KeepsWell p (next ops (with_ ts others))) → KeepsWell p (f.on_operands n (with_ ts vs) next)
  operands ins st n ts vs next e h cont =
      let t = takes_off p w ins st 0 vs [] h in
      let z : length ins + 0 ≡ n = omega (arith, e) in
      let q : popped n vs ≡ Some (record { operands = t.operands ++ []; others = t.others }) = ap (λ j. popped_before j vs []) (sym z) ∙ t.taken in
      subst (λ o. KeepsWell p (f.with_popped o (with_ ts vs) next)) (sym q)
      (cont (t.operands ++ []) t.others (subst (AreIn p w ins) (sym (append-nil t.operands)) t.are_in) t.left_in)

  pub operand : (i : Slot) (st : List Slot) (ts : List Task) (vs : List Value) (next : Value → Frame → Option State) → AreIn p w (i ∷ st) vs
      → ((x : Value) (others : List Value) → IsIn p w i x → AreIn p w st others → KeepsWell p (next x (with_ ts others))) → KeepsWell p (f.on_operand (with_ ts vs) next)
  operand i st ts vs next h cont =
      operands (i ∷ []) st 1 ts vs (f.with_one next) refl h (λ ops others a b. one_in p w i ops (λ us. KeepsWell p (f.with_one next us (with_ ts others))) a (λ x c. cont x others c b))

  choice : (t : Ty) (st : List Slot) (ts : List Task) (vs : List Value) (next : Bool → Frame → Option State) → IsBool (underlying p.names t) → AreIn p w (a_value t ∷ st) vs
      → ((b : Bool) (others : List Value) → AreIn p w st others → KeepsWell p (next b (with_ ts others))) → KeepsWell p (k.on_choice (with_ ts vs) next)
  choice t st ts vs next i h cont =
      operand (a_value t) st ts vs (k.with_choice next) h
      (λ x others a b. one_scalar p w (leaf ty.bool) x (λ y. KeepsWell p (k.with_choice next y (with_ ts others))) (down p w sound.names_set t ty.bool x (is_bool (underlying p.names t) i) a)
      (λ y c. truth_in p w y (λ z. KeepsWell p (k.with_choice next (z ∷ []) (with_ ts others))) c (λ q. cont q others b)))

  truth_of : (t : Ty) (b : Bool) → IsBool (underlying p.names t) → IsOf p w t (cell.truth b ∷ [])
  truth_of t b i = up_truth p w sound.names_set t b i

  by_right : (right : Bool) (value : Bool) (had : List ℕ) → ids_of f0.places ≡ had → (t : Ty) (st : List Slot) (q : Expr) (ts : List Task) (vs : List Value) → IsBool (underlying p.names t) → AreIn p w st vs
      → T had st (evaluated q ts) → T had (a_value t ∷ st) ts → KeepsWell p (k.right_or p g right value q (with_ ts vs) below s)
  by_right true value had e t st q ts vs i h a b = keeps had e st (evaluated q ts) vs (1 + 0) h a
  by_right false value had e t st q ts vs i h a b = keeps had e (a_value t ∷ st) ts ((cell.truth value ∷ []) ∷ vs) 1 (truth_of t value i, h) b

  by_choice : (b : Bool) (had : List ℕ) → ids_of f0.places ≡ had → (st : List Slot) (x y : Stmts) (ts : List Task) (vs : List Value) → AreIn p w st vs → T had st (all_opened x ts) → T had st (all_opened y ts)
      → KeepsWell p (k.go_on p g (all_opened (if b then x else y)) 0 (with_ ts vs) below s)
  by_choice true had e st x y ts vs h a b = keeps had e st (all_opened x ts) vs (1 + 0) h a
  by_choice false had e st x y ts vs h a b = keeps had e st (all_opened y ts) vs (1 + 0) h b

  by_clause : (b : Bool) (had : List ℕ) → ids_of f0.places ≡ had → (st : List Slot) (n : ℕ) (tests : Tests) (cl : Clauses) (d : Option ℕ) (ts : List Task) (vs : List Value) → AreIn p w st vs
      → T had st (clause_opened cl n ts) → T had st (tests_opened tests cl d ts) → KeepsWell p (k.clause_or_next p g b n tests cl d (with_ ts vs) below s)
  by_clause true had e st n tests cl d ts vs h a b = keeps had e st (clause_opened cl n ts) vs (1 + 1) h a
  by_clause false had e st n tests cl d ts vs h a b = keeps had e st (tests_opened tests cl d ts) vs (1 + 1) h b

  by_default : (d : Option ℕ) (had : List ℕ) → ids_of f0.places ≡ had → (st : List Slot) (cl : Clauses) (ts : List Task) (vs : List Value) → AreIn p w st vs → T had st (default_opened cl d ts)
      → KeepsWell p (k.default_step p g cl d (with_ ts vs) below s)
  by_default None had e st cl ts vs h a = keeps had e st ts vs (1 + 0) h a
  by_default (Some n) had e st cl ts vs h a = keeps had e st (clause_opened cl n ts) vs (1 + 0) h a

  -- an interface value of any type is one of the empty interface
  any_interface : (t : Ty) (u : Ty) (x : Value) → underlying p.names t ≡ u → IsInterface u → IsOf p w t x → (Q : Value → Type 0) → ((y : Scalar) → ScalarTyped p w (leaf empty_interface) y → Q (y ∷ [])) → Q x
  any_interface t (ty.interface ms) x e i h Q cont =
      one_scalar p w (leaf_of (ty.interface ms)) x Q (down p w sound.names_set t (ty.interface ms) x e h)
      (λ y c. interface_in p w ms y (λ z. Q (z ∷ [])) c (cont cell.nil (nil_typed (leaf empty_interface) refl)) (λ q xs a b. cont (cell.interface q xs) (interface_typed no_specs q xs (none_asked q) b)))
  any_interface t _ x e i h Q cont = absurd i

  -- what is printed and how the run ends are no matter
  shows : (z : State) → WellFormed p z → (printed : List ℕ) (end : End) → WellFormed p (record z { printed = printed; end = end })
  shows z h printed end = record { world = h.world; globals_lie = h.globals_lie; memory_typed = h.memory_typed; goroutines_typed = h.goroutines_typed }

  declared : (had : List ℕ) → ids_of f0.places ≡ had → (st : List Slot) (v : Var) (ts : List Task) (vs : List Value) → AreIn p w st vs → IsVar p v → T (v.id ∷ had) st ts
      → KeepsWell p (a.declare_step p g v (with_ ts vs) below s)
  declared had e st v ts vs h hv t =
      let ls = leaves_of p.names v.type_ in
      let u = with_cells w ls in
      let x = cells_extend w ls in
      let old = frame p w u x slots0 f0 below ft in
      keeps_in u x (with_fresh s.memory (zeros (shape_of p.names v.type_))) (fresh p w s.memory ls (zeros (shape_of p.names v.type_)) wf.memory_typed (zeros_of p w p.names v.type_))
      (record f0 { tasks = ts; values = vs; places = record { var = v.id; base = next_base s.memory } ∷ f0.places }) (
        (
          st,
          record {
            values_typed = are_in_grow p w u x st vs h;
            places_typed = (record { type_ = v.type_; is_known = hv; lies = fresh_lies p w s.memory ls wf.memory_typed }, old.places_typed);
            results_had = has_vars p (ids_of f0.places) (v.id ∷ ids_of f0.places) f0.results (λ y c. inr c) old.results_had;
            deferred_typed = old.deferred_typed;
            mode_typed = old.mode_typed;
            purpose_fits = old.purpose_fits;
          },
          tasks_grow p w u rs x (v.id ∷ ids_of f0.places) st ts (subst (λ is. T (v.id ∷ is) st ts) (sym e) t) (v.id ∷ ids_of f0.places) (λ y c. c),
        ),
        frames p w u x (gives_below f0.purpose rs) below bt,
      )
      (1 + (0 + weight (shape_of p.names v.type_)))

  -- ---- loops

  body_typed : (had : List ℕ) (b : Around) (label : ℕ) (c : Bound) (body post : Stmts) (ts : List Task) → LoopTyped p w rs had b label c body post ts → T had [] (all_opened body (task.turn_again label c body post ∷ ts))
  body_typed _ _ _ _ _ _ _ (loop_typed had b label c body post ts sc r sound_c sound_b sound_p ls t) =
      let again = again_typed had b label c body post ts (loop_typed had b label c body post ts sc r sound_c sound_b sound_p ls t) in
      stmts.all p w rs body had (with_loop label b) (task.turn_again label c body post ∷ ts) r (record { in_scope = sc.in_scope; declarable = sc.declarable }) sound_b (inside_loop p w rs had b label c body post ts ls t again) again

  post_typed : (had : List ℕ) (b : Around) (label : ℕ) (c : Bound) (body post : Stmts) (ts : List Task) → LoopTyped p w rs had b label c body post ts → T had [] (all_opened post (loop_opened label c body post ts))
  post_typed _ _ _ _ _ _ _ (loop_typed had b label c body post ts sc r sound_c sound_b sound_p ls t) =
      stmts.all p w rs post had b (loop_opened label c body post ts) r sc sound_p (over_loop p w rs had b label c body post ts ls)
      (stmts.loop p w rs label c body post had b ts sc sound_c (loop_typed had b label c body post ts sc r sound_c sound_b sound_p ls t))

  after_typed : (had : List ℕ) (b : Around) (label : ℕ) (c : Bound) (body post : Stmts) (ts : List Task) → LoopTyped p w rs had b label c body post ts → T had [] ts
  after_typed _ _ _ _ _ _ _ (loop_typed had b label c body post ts sc r sound_c sound_b sound_p ls t) = t

  by_turn : (z : Bool) (had : List ℕ) → ids_of f0.places ≡ had → (b : Around) (label : ℕ) (c : Bound) (body post : Stmts) (ts : List Task) (vs : List Value) → AreIn p w [] vs → LoopTyped p w rs had b label c body post ts
      → KeepsWell p (k.turned p g z label c body post (with_ ts vs) below s)
  by_turn true had e b label c body post ts vs h t = keeps had e [] (all_opened body (task.turn_again label c body post ∷ ts)) vs (1 + 0) h (body_typed had b label c body post ts t)
  by_turn false had e b label c body post ts vs h t = keeps had e [] ts vs 1 h (after_typed had b label c body post ts t)

  -- ---- variables that take values

  record Bound_ (vs : List Var) (xs : List Value) (b : Bindings) : Type 0 where
    after : Bindings
    is_after : with_vars p.names vs xs b ≡ Some after
    world : World
    extends : Extends w world
    memory_typed : MemoryTyped p world after.memory
    places_typed : PlacesTyped p world after.places
    ids : ids_of after.places ≡ with_ids vs (ids_of b.places)

  binds : (vs : List Var) (xs : List Value) (b : Bindings) (u : World) → Extends w u → MemoryTyped p u b.memory → PlacesTyped p u b.places → AreVars p vs → AreIn p u (values_of_types (types_of_vars vs)) xs → Bound_ vs xs b
  binds [] [] b u x m c d h = record { after = b; is_after = refl; world = u; extends = x; memory_typed = m; places_typed = c; ids = refl }
  binds [] (y ∷ ys) b u x m c d h = absurd h
  binds (v ∷ vs) [] b u x m c d h = absurd h
  binds (v ∷ vs) (y ∷ ys) b u x m c d h =
      let ls = leaves_of p.names v.type_ in
      let u1 = with_cells u ls in
      let x1 = cells_extend u ls in
      let n = binds vs ys (with_var p.names v y b) u1 (both_worlds w u u1 x x1) (fresh p u b.memory ls y m h.0)
      (record { type_ = v.type_; is_known = d.0; lies = fresh_lies p u b.memory ls m }, places p u u1 x1 b.places c) d.1 (are_in_grow p u u1 x1 (values_of_types (types_of_vars vs)) ys h.1) in
      record { after = n.after; is_after = n.is_after; world = n.world; extends = n.extends; memory_typed = n.memory_typed; places_typed = n.places_typed; ids = n.ids }

  bound : (had : List ℕ) → ids_of f0.places ≡ had → (st : List Slot) (vs : List Var) (ts : List Task) (xs others : List Value) → AreVars p vs → AreIn p w (values_of_types (types_of_vars vs)) xs → AreIn p w st others
      → T (with_ids vs had) st ts → KeepsWell p (a.bound_step p g (with_vars p.names vs xs (a.bindings p g (with_ ts others) s)) (with_ ts others) below s)
  bound had e st vs ts xs others d h c t =
      let b = binds vs xs (a.bindings p g (with_ ts others) s) w (same_world w) wf.memory_typed ft.places_typed d h in
      let u = b.world in
      let x = b.extends in
      let old = frame p w u x slots0 f0 below ft in
      let ids : ids_of b.after.places ≡ with_ids vs had = b.ids ∙ ap (with_ids vs) e in
      let within : Within (ids_of f0.places) (ids_of b.after.places) = subst (λ is. Within (ids_of f0.places) is) (sym b.ids) (within_ids vs (ids_of f0.places)) in
      subst (λ o. KeepsWell p (a.bound_step p g o (with_ ts others) below s)) (sym b.is_after)
      (keeps_in u x b.after.memory b.memory_typed (record f0 { tasks = ts; values = others; places = b.after.places }) (
        (
          st,
          record {
            values_typed = are_in_grow p w u x st others c;
            places_typed = b.places_typed;
            results_had = has_vars p (ids_of f0.places) (ids_of b.after.places) f0.results within old.results_had;
            deferred_typed = old.deferred_typed;
            mode_typed = old.mode_typed;
            purpose_fits = old.purpose_fits;
          },
          tasks_grow p w u rs x (ids_of b.after.places) st ts (subst (λ is. T is st ts) (sym ids) t) (ids_of b.after.places) (λ y z. z),
        ),
        frames p w u x (gives_below f0.purpose rs) below bt,
      )
      (1 + b.after.units))

  vars_length : (vs : List Var) → length (values_of_types (types_of_vars vs)) ≡ length vs
  vars_length [] = refl
  vars_length (v ∷ vs) = ap suc (vars_length vs)

  -- ---- package variables, and results

  globals_set : (ns : List ℕ) (us : List Ty) (xs : List Value) (m : Memory) → MemoryTyped p w m → GlobalsTyped p ns us → AreIn p w (values_of_types us) xs → MemoryTyped p w (a.set_global_cells p g ns xs m)
  globals_set [] us xs m mt c h = mt
  globals_set (n ∷ ns) [] xs m mt c h = absurd c
  globals_set (n ∷ ns) (u ∷ us) [] m mt c h = absurd h
  globals_set (n ∷ ns) (u ∷ us) (x ∷ xs) m mt c h =
      globals_set ns us xs (with_written m (global_base p.names p.globals n) x) (writes p w m (global_base p.names p.globals n) (leaves_of p.names u) x mt (wf.globals_lie n u c.0) h.0) c.1 h.1

  globals_length : (ns : List ℕ) (us : List Ty) → GlobalsTyped p ns us → length (values_of_types us) ≡ length ns
  globals_length [] [] c = refl
  globals_length [] (u ∷ us) c = absurd c
  globals_length (n ∷ ns) [] c = absurd c
  globals_length (n ∷ ns) (u ∷ us) c = ap suc (globals_length ns us c.1)

  record Stored (vs : List Var) (xs : List Value) (m : Memory) : Type 0 where
    after : Memory
    is_after : c.with_stored p g vs xs f0.places m ≡ Some after
    typed : MemoryTyped p w after

  stores : (vs : List Var) (xs : List Value) (m : Memory) → MemoryTyped p w m → HasVars p (ids_of f0.places) vs → AreIn p w (values_of_types (types_of_vars vs)) xs → Stored vs xs m
  stores [] [] m mt d h = record { after = m; is_after = refl; typed = mt }
  stores [] (x ∷ xs) m mt d h = absurd h
  stores (v ∷ vs) [] m mt d h = absurd h
  stores (v ∷ vs) (x ∷ xs) m mt d h =
      let b = base_found p w f0.places v.id v.type_ ft.places_typed d.0 in
      let n = stores vs xs (with_written m b.base x) (writes p w m b.base (leaves_of p.names v.type_) x mt b.lies h.0) d.1 h.1 in
      record { after = n.after; is_after = ap (option_and_then (λ i. c.with_stored p g vs xs f0.places (with_written m i x))) b.is_base ∙ n.is_after; typed = n.typed }

  returned : (m : Memory) → MemoryTyped p w m → (units : ℕ) (ts : List Task) (vs : List Value) → KeepsWell p (c.returned_with p g (Some m) units (with_ ts vs) below s)
  returned m mt units ts vs =
      keeps_in w (same_world w) m mt (record f0 { tasks = []; values = []; mode = task.returning })
      (([], record { values_typed = tt; places_typed = ft.places_typed; results_had = ft.results_had; deferred_typed = ft.deferred_typed; mode_typed = tt; purpose_fits = ft.purpose_fits }, no_task (ids_of f0.places) []), bt) (1 + units)

  gives_back : (n : ℕ) (st : List Slot) (ts : List Task) (vs : List Value) → length rs ≡ n → AreIn p w (pushed_slots (values_of_types rs) st) vs → KeepsWell p (c.return_step p g n (with_ ts vs) below s)
  gives_back zero st ts vs e h = returned s.memory wf.memory_typed 0 ts vs
  gives_back (suc n) st ts vs e h =
      operands (values_of_types rs) st (suc n) ts vs (λ us fr. c.returned_with p g (c.with_stored p g fr.results us fr.places s.memory) (c.weights p g fr.results) fr below s) (types_length rs ∙ e) h
      (λ ops others x y. let d = stores f0.results ops s.memory wf.memory_typed ft.results_had x in
      subst (λ o. KeepsWell p (c.returned_with p g o (c.weights p g f0.results) (with_ ts others) below s)) (sym d.is_after) (returned d.after d.typed (c.weights p g f0.results) ts others))

  step : (had : List ℕ) (st : List Slot) (ts : List Task) → T had st ts → ids_of f0.places ≡ had → StartsLocal ts → (vs : List Value) (ts0 : List Task) → AreIn p w st vs → KeepsWell p (go.tasks_step p choices move g ts (with_ ts0 vs) below s)
  step _ _ _ (operate_typed had ins outs st o n ts ap c t) e l vs ts0 h =
      operands ins st n ts vs (λ us fr. f.did_step p.hidden g (operated p move.capacity o us s.memory) fr below s) c h
      (λ ops others x y. did had e outs st ts others (operated p move.capacity o ops s.memory) y t (all p sound w s.memory wf.memory_typed o ins outs move.capacity ops wf.globals_lie ap x))
  step _ _ _ (local_typed had st v t ts hv c) e l vs ts0 h =
      let b = base_found p w f0.places v t ft.places_typed (subst (λ is. HasVar p is v t) (sym e) hv) in
      subst (λ o. KeepsWell p (go.local_step p choices move g o (with_ ts vs) below s)) (sym b.is_base) (keeps had e (a_place t ∷ st) ts ((cell.pointer b.base ∷ []) ∷ vs) 1 (b.lies, h) c)
  step _ _ _ (closure_typed had st func c ts q ah nr t) e l vs ts0 h =
      let b = bases_found p w f0.places c.captured ft.places_typed (subst (λ is. AreHad is c.captured) (sym e) ah) in
      subst (λ o. KeepsWell p (go.closure_step p choices move g func o (with_ ts vs) below s)) (sym q)
      (subst (λ o. KeepsWell p (go.closure_with p choices move g func o (with_ ts vs) below s)) (sym b.are_bases)
      (keeps had e (a_value (ty.func c.params c.results c.variadic) ∷ st) ts ((cell.function func b.bases ∷ []) ∷ vs) (1 + length b.bases)
      ((as_function p w c.params c.results c.variadic func b.bases (record { function = c; is_function = q; captured_lie = b.lie; operands_fit = (nr, refl); results_fit = refl }), tt), h) t))
  step _ _ _ (where_true_typed had st t q ts i x y) e l vs ts0 h = choice t st ts vs (λ b fr. k.right_or p g b false q fr below s) i h (λ b others r. by_right b false had e t st q ts others i r x y)
  step _ _ _ (where_false_typed had st t q ts i x y) e l vs ts0 h = choice t st ts vs (λ b fr. k.right_or p g (not b) true q fr below s) i h (λ b others r. by_right (not b) true had e t st q ts others i r x y)
  step _ _ _ (declare_typed had st v ts hv t) e l vs ts0 h = declared had e st v ts vs h hv t
  step _ _ _ (choose_typed had st t x y ts i c d) e l vs ts0 h =
      choice t st ts vs (λ b fr. k.go_on p g (all_opened (if b then x else y)) 0 fr below s) i h (λ b others r. by_choice b had e st x y ts others r c d)
  step _ _ _ (clause_typed had st t n tests cl d ts i x y) e l vs ts0 h =
      choice t st ts vs (λ b fr. k.clause_or_next p g b n tests cl d fr below s) i h (λ b others r. by_clause b had e st n tests cl d ts others r x y)
  step _ _ _ (default_typed had st cl d ts x) e l vs ts0 h = by_default d had e st cl ts vs h x
  step _ _ _ (branch_typed had kind label ts x) e l vs ts0 h = keeps had e [] (branched kind label ts) vs 1 h x
  step _ _ _ (panic_typed had st t ts i) e l vs ts0 h =
      operand (a_value t) st ts vs (q.raised p g below s) h
      (λ x others c d. any_interface t (underlying p.names t) x refl i c (λ y. KeepsWell p (q.raised p g below s y (with_ ts others))) (λ y z. to_panic y ts others 2 z))
  step _ _ _ (yield_typed had st ts x) e l vs ts0 h = keeps had e st ts vs 1 h x
  step _ _ _ (print_typed had ss st n ends_line ts c x) e l vs ts0 h =
      operands ss st n ts vs (λ us fr. go.with_printed p choices move g (output_of ends_line us) fr below s) c h
      (λ ops others y z. shows (moved g (with_ ts others ∷ below) (1 + length (output_of ends_line ops)) s) (keeps had e st ts others (1 + length (output_of ends_line ops)) z x) (s.printed ++ output_of ends_line ops) s.end)
  step _ _ _ (exit_typed had st t ts i x) e l vs ts0 h =
      let j = is_int (underlying p.names t) i in
      operand (a_value t) st ts vs (go.exited p choices move g below s) h
      (λ y others c d. one_scalar p w (leaf (ty.int j.0)) y (λ z. KeepsWell p (go.exited p choices move g below s z (with_ ts others))) (down p w sound.names_set t (ty.int j.0) y j.1 c)
      (λ z r. whole_in p w j.0 z (λ u. KeepsWell p (go.exited p choices move g below s (u ∷ []) (with_ ts others))) r
      (λ n. shows (moved g (with_ ts others ∷ below) 1 s) (keeps had e st ts others 1 d x) s.printed (exit (residue 256 n)))))
  step _ _ _ (fatal_typed had st t ts i x) e l vs ts0 h =
      operand (a_value t) st ts vs (go.failed_fatally p choices move g below s) h
      (λ y others c d. one_scalar p w (leaf ty.str) y (λ z. KeepsWell p (go.failed_fatally p choices move g below s z (with_ ts others))) (down p w sound.names_set t ty.str y (is_text (underlying p.names t) i) c)
      (λ z r. text_in p w z (λ u. KeepsWell p (go.failed_fatally p choices move g below s (u ∷ []) (with_ ts others))) r
      (λ bytes. shows (moved g (with_ ts others ∷ below) 1 s) (keeps had e st ts others 1 d x) s.printed (fatal bytes))))
  step _ _ _ (turn_typed had b label q t body post ts i lt) e l vs ts0 h =
      choice t [] ts vs (λ z fr. k.turned p g z label (bound_ q) body post fr below s) i h (λ z others r. by_turn z had e b label (bound_ q) body post ts others r lt)
  step _ _ _ (endless_typed had b label body post ts lt) e l vs ts0 h =
      keeps had e [] (all_opened body (task.turn_again label no_bound body post ∷ ts)) vs (1 + 0) h (body_typed had b label no_bound body post ts lt)
  step _ _ _ (again_typed had b label c body post ts lt) e l vs ts0 h = keeps had e [] (all_opened post (loop_opened label c body post ts)) vs (1 + 0) h (post_typed had b label c body post ts lt)
  step _ _ _ (bind_typed had st xs ts d t) e l vs ts0 h =
      operands (values_of_types (types_of_vars xs)) st (length xs) ts vs (λ us fr. a.bound_step p g (with_vars p.names xs us (a.bindings p g fr s)) fr below s) (vars_length xs) h
      (λ ops others y z. bound had e st xs ts ops others d y z t)
  step _ _ _ (globals_typed had st ns us ts d t) e l vs ts0 h =
      operands (values_of_types us) st (length ns) ts vs (λ xs fr. Some (with_memory (a.set_global_cells p g ns xs s.memory) (moved g (fr ∷ below) (1 + a.global_weights p g ns) s))) (globals_length ns us d) h
      (λ ops others y z. keeps_in w (same_world w) (a.set_global_cells p g ns ops s.memory) (globals_set ns us ops s.memory wf.memory_typed d y) (with_ ts others) (typed_in w (same_world w) had e st ts others z t) (1 + a.global_weights p g ns))
  step _ _ _ (bare_return_typed had st ts) e l vs ts0 h = returned s.memory wf.memory_typed 0 ts vs
  step _ _ _ (return_typed had st n ts d) e l vs ts0 h = gives_back n st ts vs d h
  step _ _ _ (drop_typed had ss st n ts c x) e l vs ts0 h = step had st ts x e l (drop n vs) ts0 (drops_off p w ss st n vs c h)
  step _ _ _ (push_typed had st t v ts c x) e l vs ts0 h = step had (a_value t ∷ st) ts x e l (v ∷ vs) ts0 (c, h)
  step _ _ _ (leave_typed had st label ts x) e l vs ts0 h = step had st ts x e l vs ts0 h
  step _ _ _ _ e l vs ts0 h = absurd l

pub keep : LocalStepsKeep
keep p choices move n fr below s sound wf e l =
    let q = goroutine_at p wf.world s.goroutines n (record { frames = fr ∷ below; waiting = able }) wf.goroutines_typed e in
    subst (λ o. KeepsWell p (go.goroutine_step p choices move n o s)) (sym e)
    (step p sound choices move n s wf fr q.0.0 below q.0.1 q.1 (ids_of fr.places) q.0.0 fr.tasks q.0.2 refl l fr.values fr.tasks q.0.1.values_typed)

-- Calls, deferred calls, results, and panics that leave a frame: the steps by which frames come and go keep their state
-- well formed.
use Rattle.std.proofs.Common.{refl, sym, ap, ◌∙◌, subst}
use Rattle.std.specs.Prelude.{◌≡◌, ℕ, ◌+◌, List, [], ◌∷◌, ◌++◌, Bool, true, false, if◌then◌else◌, Option, Some, None, length, codes, slice_get, slice_set, drop, option_and_then}
use Rattle.go_type.specs.Tree as ty
use Rattle.go_type.specs.Tree.{Ty, Tys, no_tys, no_specs}
use Rattle.go_type.specs.Underlying.{underlying}
use Rattle.go_core.specs.Layout.{shape_of, size}
use Rattle.go_core.specs.Memory as cell
use Rattle.go_core.specs.Memory.{Scalar, Scalars, Value, Memory, listed, read_cells}
use Rattle.go_core.specs.CoreTree.{Var, MethodName, MethodRow, CoreProgram}
use Rattle.go_core.specs.TypeOf.{listed_types}
use Rattle.go_core.specs.SoundNode.{types_of_vars}
use Rattle.go_core.specs.Untagged.{AreAlike}
use Rattle.go_core.specs.Sound.{empty_interface}
use Rattle.go_core.specs.SoundProgram.{Sound}
use Rattle.go_core.specs.RunPanic.{nil_used, panic_value}
use Rattle.go_core.specs.StepInterfaces.{row_of, func_of_row, has_signature, one_string, error_row, plain_text}
use Rattle.go_core.specs.Goroutine.{Task, Invocation, invoke, nothing_to_invoke, Mode, normal, returning, panicking, Purpose, called, deferred, reporting, Place, Frame, able, Goroutine, State, Move, End, exit, panicked, moved, with_memory}
use Rattle.go_core.specs.Frames.{to_panicking, with_more}
use Rattle.go_core.specs.Calls as call
use Rattle.go_core.specs.Calls.{Resolved, ready, nil_function, nil_interface, unresolved, Entered}
use Rattle.go_core.specs.Panics as end
use Rattle.go_core.specs.GoStep as go
use Rattle.go_core.specs.Leaves.{leaf, leaves_of}
use Rattle.go_core.specs.Typed.{World, Takes, ScalarTyped, nil_typed, ScalarsTyped, MemoryTyped, Extends}
use Rattle.go_core.specs.TasksTyped.{HasVars, CallTyped, TasksTyped, no_task, drop_typed, push_typed, leave_typed, call_typed, go_typed, defer_typed, recover_typed, finish_typed}
use Rattle.go_core.specs.Applies.{Slot, a_value, values_of_types, pushed_slots, AreIn}
use Rattle.go_core.specs.WellFormed.{ids_of, gives_below, PlacesTyped, InvocationTyped, InvocationsTyped, ModeTyped, PurposeFits, FrameTyped, Remains, FramesTyped, GoroutineTyped, GoroutinesTyped, WellFormed}
use Rattle.go_core.specs.LocalSteps.{KeepsWell}
use Rattle.go_core.specs.CallSteps.{StartsCall, CallStepsKeep}
use Rattle.go_core.proofs.TypedGrowth.{are_in_grow}
use Rattle.go_core.proofs.UntaggedLemmas.{none_alike, are_alike}
use Rattle.go_core.proofs.LeavesLemmas.{size_leaves}
use Rattle.go_core.proofs.MemoryLemmas.{same_world, to_lists, reads}
use Rattle.go_core.proofs.SameTypeLemmas.{row_found}
use Rattle.go_core.proofs.TypedScalars.{interface_in, text_in, one_scalar, one_in, up}
use Rattle.go_core.proofs.OperatorsInterfaces.{row_takes, has_row}
use Rattle.go_core.proofs.OpenedLemmas.{values_length}
use Rattle.go_core.proofs.FramesGrow.{frames, goroutines, globals, goroutine_at, goroutine_set}
use Rattle.go_core.proofs.LocalFrames as local
use Rattle.go_core.proofs.LocalFrames.{pushes_on, drops_off, base_found}
use Rattle.go_core.proofs.EnteredTyped.{Entry, enter}
use Rattle.go_core.proofs.ResolvedTyped.{ResolvedTyped, resolves}

some_inj : {A : Type 0} (x y : A) → Some x ≡ Some y → x ≡ y
some_inj x y e = cc

-- the method that tells a panic's value
abbrev error_of : Ty → MethodName
error_of t = record { type_ = t; name = codes "Error"; package_ = [] }

module _ (p : CoreProgram) (sound : Sound p) (choices : List ℕ) (move : Move) (g : ℕ) (s : State) (wf : WellFormed p s) where
  abbrev w : World
  w = wf.world

  -- ---- the state after a step

  frames_keep : (v : World) → Extends w v → (m : Memory) → MemoryTyped p v m → (fs : List Frame) → GoroutineTyped p v able fs → (units : ℕ) → WellFormed p (with_memory m (moved g fs units s))
  frames_keep v x m mt fs h units = record {
    world = v;
    globals_lie = globals p w v x wf.globals_lie;
    memory_typed = mt;
    goroutines_typed = goroutine_set p v s.goroutines g (record { frames = fs; waiting = able }) (goroutines p w v x s.goroutines wf.goroutines_typed) h;
  }

  same_keep : (fs : List Frame) → GoroutineTyped p w able fs → (units : ℕ) → WellFormed p (moved g fs units s)
  same_keep fs h units = frames_keep w (same_world w) s.memory wf.memory_typed fs h units

  ends_with : (z : State) → WellFormed p z → (e : End) → WellFormed p (record z { end = e })
  ends_with z h e = record { world = h.world; globals_lie = h.globals_lie; memory_typed = h.memory_typed; goroutines_typed = h.goroutines_typed }

  one_more : (v : World) (gs : List Goroutine) (x : Goroutine) → GoroutinesTyped p v gs → GoroutineTyped p v x.waiting x.frames → GoroutinesTyped p v (gs ++ x ∷ [])
  one_more v [] x h k = (k, tt)
  one_more v (y ∷ ys) x h k = (h.0, one_more v ys x h.1 k)

  -- frames that are given nothing go on
  goes_on : (v : World) (fs : List Frame) → FramesTyped p v [] fs → GoroutineTyped p v able fs
  goes_on v [] h = refl
  goes_on v (f ∷ below) h = ((h.0.0, h.0.1, subst (λ ts. Remains p v f (pushed_slots (values_of_types ts) h.0.0) f.tasks) (none_alike h.0.2.0 h.0.2.1) h.0.2.2), h.1)

  -- and so they do where what they are given differs in tags alone
  below_alike : (u : Purpose) (rs given : List Ty) → AreAlike rs given → AreAlike (gives_below u rs) (gives_below u given)
  below_alike called rs given e = e
  below_alike deferred rs given e = refl
  below_alike reporting rs given e = refl

  frames_alike : (v : World) (rs given : List Ty) (fs : List Frame) → AreAlike rs given → FramesTyped p v given fs → FramesTyped p v rs fs
  frames_alike v rs given [] e h = tt
  frames_alike v rs given (f ∷ below) e h = ((h.0.0, h.0.1, (h.0.2.0, e ∙ h.0.2.1, h.0.2.2)), h.1)

  -- a new frame above others
  above : (given : List Ty) (purpose : Purpose) (o : Option Entered) (e : Entry p w given purpose o) (fs : List Frame) → PurposeFits p e.world purpose given fs → FramesTyped p w (gives_below purpose given) fs → (units : ℕ)
      → WellFormed p (with_memory e.entry.memory (moved g (e.entry.frame ∷ fs) units s))
  above given purpose o e fs fits h units =
      frames_keep e.world e.extends e.entry.memory e.memory_typed (e.entry.frame ∷ fs) (
        ([], e.frame_typed fs fits, e.remains),
        subst (λ u. FramesTyped p e.world (gives_below u (types_of_vars e.entry.frame.results)) fs) (sym e.with_purpose)
            (frames_alike e.world (gives_below purpose (types_of_vars e.entry.frame.results)) (gives_below purpose given) fs (below_alike purpose (types_of_vars e.entry.frame.results) given e.gives)
            (frames p w e.world e.extends (gives_below purpose given) fs h)),
      ) units

  -- a frame that panics
  panics_in : (v : Scalar) → ScalarTyped p w (leaf empty_interface) v → (slots : List Slot) (f : Frame) (fs : List Frame) → FrameTyped p w slots f fs → FramesTyped p w (gives_below f.purpose (types_of_vars f.results)) fs
      → GoroutineTyped p w able (to_panicking v f ∷ fs)
  panics_in v h slots f fs ft bt =
      (([], record { values_typed = tt; places_typed = ft.places_typed; results_had = ft.results_had; deferred_typed = ft.deferred_typed; mode_typed = h; purpose_fits = ft.purpose_fits }, no_task (ids_of f.places) []), bt)

  -- ---- results

  record Results (qs : List Place) (vs : List Var) : Type 0 where
    values : List Value
    are : call.results_of p g vs qs s.memory ≡ Some values
    typed : AreIn p w (values_of_types (types_of_vars vs)) values

  results : (qs : List Place) → PlacesTyped p w qs → (vs : List Var) → HasVars p (ids_of qs) vs → Results qs vs
  results qs d [] h = record { values = []; are = refl; typed = tt }
  results qs d (v ∷ vs) h =
      let b = base_found p w qs v.id v.type_ d h.0 in
      let n = results qs d vs h.1 in
      let count = size (shape_of p.names v.type_) in
      record {
        values = read_cells b.base count s.memory.cells ∷ n.values;
        are =
            ap (option_and_then (λ i. option_and_then (λ xs. Some (read_cells i count s.memory.cells ∷ xs)) (call.results_of p g vs qs s.memory))) b.is_base
            ∙ ap (option_and_then (λ xs. Some (read_cells b.base count s.memory.cells ∷ xs))) n.are;
        typed = (reads p w s.memory b.base count (leaves_of p.names v.type_) wf.memory_typed b.lies (size_leaves p.names v.type_), n.typed);
      }

  -- results go to the frame below, are dropped, or are told
  gives : (u : Purpose) (rs : List Ty) (vs : List Value) → AreIn p w (values_of_types rs) vs → (below : List Frame) → FramesTyped p w (gives_below u rs) below → PurposeFits p w u rs below
      → KeepsWell p (end.ended_with p g u (Some vs) below s)
  gives called rs vs h [] bt fits = same_keep [] refl 1
  gives called rs vs h (f ∷ fs) bt fits =
      let ft = bt.0.1 in
      same_keep (with_more vs f ∷ fs) (
        (
          pushed_slots (values_of_types bt.0.2.0) bt.0.0,
          record {
            values_typed = pushes_on p w (values_of_types bt.0.2.0) bt.0.0 vs f.values (are_alike p w rs bt.0.2.0 vs bt.0.2.1 h) ft.values_typed;
            places_typed = ft.places_typed;
            results_had = ft.results_had;
            deferred_typed = ft.deferred_typed;
            mode_typed = ft.mode_typed;
            purpose_fits = ft.purpose_fits;
          },
          bt.0.2.2,
        ),
        bt.1,
      ) 1
  gives deferred rs vs h below bt fits = same_keep below (goes_on w below bt) 1
  gives reporting rs vs h below bt fits =
      one_in p w (a_value ty.str) vs (λ us. KeepsWell p (end.reported p g us s)) (subst (λ r. AreIn p w (values_of_types r) vs) fits.0 h)
      (λ x k. one_scalar p w (leaf ty.str) x (λ y. KeepsWell p (end.reported p g (y ∷ []) s)) k
      (λ y c. text_in p w y (λ z. KeepsWell p (end.reported p g ((z ∷ []) ∷ []) s)) c (λ bytes. ends_with (moved g [] 1 s) (same_keep [] refl 1) (panicked bytes))))

  -- ---- a panic that nobody recovers from

  plain : (x : Scalar) → KeepsWell p (end.report_begun p g x None s)
  plain x = ends_with (moved g [] 1 s) (same_keep [] refl 1) (panicked (plain_text p.names x))

  by_sign : (t : Ty) (xs : Scalars) → ScalarsTyped p w (leaves_of p.names t) xs → (b : Bool) → has_signature no_tys one_string false (func_of_row p (row_of p (error_of t))) ≡ b
      → KeepsWell p (end.report_begun p g (cell.interface t xs) (if b then row_of p (error_of t) else None) s)
  by_sign t xs k false c = plain (cell.interface t xs)
  by_sign t xs k true c =
      let r = has_row p sound t (codes "Error") [] no_tys one_string false (row_of p (error_of t)) refl c in
      let found = row_found (error_of t) p.methods r.at r.found in
      let same : found.row ≡ r.row = some_inj found.row r.row (sym found.is_at ∙ r.is_row) in
      let type_is : t ≡ r.row.type_ = sym found.of_type ∙ ap (λ (y : MethodRow). y.type_) same in
      let takes : Takes p w.cells r.row.func [] (Some r.at) (r.row.type_ ∷ []) (ty.str ∷ []) =
      subst (λ rs. Takes p w.cells r.row.func [] (Some r.at) (r.row.type_ ∷ []) (listed_types rs)) r.results_fit
      (subst (λ ps. Takes p w.cells r.row.func [] (Some r.at) (r.row.type_ ∷ listed_types ps) (listed_types r.function.results)) r.params_fit (row_takes p sound w r.at r.row r.function r.is_row r.is_function)) in
      let e = enter p sound w r.row.func [] (Some r.at) (r.row.type_ ∷ []) (ty.str ∷ []) (listed xs ∷ []) reporting s.memory wf.memory_typed takes
      (subst (λ u. AreIn p w (a_value u ∷ []) (listed xs ∷ [])) type_is (to_lists p w (leaves_of p.names t) xs k, tt)) in
      subst (λ o. KeepsWell p (end.report_begun p g (cell.interface t xs) o s)) (sym r.found)
      (subst (λ o. KeepsWell p (end.report_by p g o r.at (cell.interface t xs) s)) (sym r.is_row)
      (subst (λ o. KeepsWell p (end.report_with p g (cell.interface t xs) o s)) (sym e.is_entry) (above (ty.str ∷ []) reporting _ e [] (refl, refl) tt 1)))

  reports : (v : Scalar) → ScalarTyped p w (leaf empty_interface) v → KeepsWell p (end.report_begun p g v (error_row p v) s)
  reports v h =
      interface_in p w no_specs v (λ x. KeepsWell p (end.report_begun p g x (error_row p x) s)) h (plain cell.nil)
      (λ t xs a k. by_sign t xs k (has_signature no_tys one_string false (func_of_row p (row_of p (error_of t)))) refl)

  removed : (u : Purpose) (given : List Ty) (v : Scalar) → ScalarTyped p w (leaf empty_interface) v → (below : List Frame) → FramesTyped p w given below → KeepsWell p (end.removed_panicking p g u v below s)
  removed reporting given v h below bt = ends_with (moved g [] 1 s) (same_keep [] refl 1) (panicked end.report_failed)
  removed called given v h [] bt = reports v h
  removed called given v h (f ∷ fs) bt = same_keep (to_panicking v f ∷ fs) (panics_in v h bt.0.0 f fs bt.0.1 bt.1) 1
  removed deferred given v h [] bt = reports v h
  removed deferred given v h (f ∷ fs) bt = same_keep (to_panicking v f ∷ fs) (panics_in v h bt.0.0 f fs bt.0.1 bt.1) 1

  -- ---- a frame and what is below it

  module _ (f0 : Frame) (slots0 : List Slot) (below : List Frame) (ft : FrameTyped p w slots0 f0 below) (bt : FramesTyped p w (gives_below f0.purpose (types_of_vars f0.results)) below) where
    abbrev rs : List Ty
    rs = types_of_vars f0.results

    abbrev T : List Slot → List Task → Type 0
    T st ts = TasksTyped p w rs (ids_of f0.places) st ts

    -- the frame with other tasks and values
    abbrev with_ : List Task → List Value → Frame
    with_ ts vs = record f0 { tasks = ts; values = vs }

    panic_is : ScalarTyped p w (leaf empty_interface) (panic_value p.hidden nil_used)
    panic_is = local.panic_typed_in p sound choices move g s wf f0 slots0 below ft bt w nil_used

    to_panic : (ts : List Task) (vs : List Value) → WellFormed p (moved g (to_panicking (panic_value p.hidden nil_used) (with_ ts vs) ∷ below) (1 + 0) s)
    to_panic ts vs = same_keep (to_panicking (panic_value p.hidden nil_used) (with_ ts vs) ∷ below) (panics_in (panic_value p.hidden nil_used) panic_is slots0 f0 below ft bt) (1 + 0)

    -- ---- calls

    waits : (given : List Ty) (st : List Slot) (ts : List Task) (vs : List Value) → AreIn p w st vs → T (pushed_slots (values_of_types given) st) ts → FramesTyped p w given (with_ ts vs ∷ below)
    waits given st ts vs h t =
        ((st, record { values_typed = h; places_typed = ft.places_typed; results_had = ft.results_had; deferred_typed = ft.deferred_typed; mode_typed = ft.mode_typed; purpose_fits = ft.purpose_fits }, (given, refl, t)), bt)

    calls : (given : List Ty) (st : List Slot) (ts : List Task) (vs : List Value) → AreIn p w st vs → T (pushed_slots (values_of_types given) st) ts → (r : Resolved) → ResolvedTyped p w given r
        → KeepsWell p (call.called_step p g r (with_ ts vs) below s)
    calls given st ts vs h t (ready func bases row os) k =
        let e = enter p sound w func bases row k.0 given os called s.memory wf.memory_typed k.1 k.2 in
        subst (λ o. KeepsWell p (call.entered_above p g o (with_ ts vs) below s)) (sym e.is_entry) (above given called _ e (with_ ts vs ∷ below) tt (waits given st ts vs h t) (1 + e.entry.units))
    calls given st ts vs h t nil_function k = to_panic ts vs
    calls given st ts vs h t nil_interface k = to_panic ts vs
    calls given st ts vs h t unresolved k = absurd k

    starts : (given : List Ty) (st : List Slot) (ts : List Task) (vs : List Value) → AreIn p w st vs → T st ts → (r : Resolved) → ResolvedTyped p w given r → KeepsWell p (call.go_resolved p g r (with_ ts vs) below s)
    starts given st ts vs h t (ready func bases row os) k =
        let e = enter p sound w func bases row k.0 given os called s.memory wf.memory_typed k.1 k.2 in
        let v = e.world in
        let old : Goroutine = record { frames = with_ ts vs ∷ below; waiting = able } in
        let fresh : Goroutine = record { frames = e.entry.frame ∷ []; waiting = able } in
        subst (λ o. KeepsWell p (call.started p g o (with_ ts vs) below s)) (sym e.is_entry)
        (record {
          world = v;
          globals_lie = globals p w v e.extends wf.globals_lie;
          memory_typed = e.memory_typed;
          goroutines_typed =
              one_more v (slice_set s.goroutines g old) fresh
              (goroutine_set p v s.goroutines g old (goroutines p w v e.extends s.goroutines wf.goroutines_typed)
              (local.typed_in p sound choices move g s wf f0 slots0 below ft bt v e.extends (ids_of f0.places) refl st ts vs (are_in_grow p w v e.extends st vs h) t))
              (([], e.frame_typed [] tt, e.remains), tt);
        })
    starts given st ts vs h t nil_function k = to_panic ts vs
    starts given st ts vs h t nil_interface k = to_panic ts vs
    starts given st ts vs h t unresolved k = absurd k

    one_deferred : (st : List Slot) (ts : List Task) (vs : List Value) → AreIn p w st vs → T st ts → (i : Invocation) → InvocationTyped p w i → (units : ℕ) → KeepsWell p (call.with_deferred p g i units (with_ ts vs) below s)
    one_deferred st ts vs h t i k units =
        same_keep (record f0 { tasks = ts; values = vs; deferred_calls = i ∷ f0.deferred_calls } ∷ below) (
          (st, record { values_typed = h; places_typed = ft.places_typed; results_had = ft.results_had; deferred_typed = (k, ft.deferred_typed); mode_typed = ft.mode_typed; purpose_fits = ft.purpose_fits }, t),
          bt,
        ) (1 + units)

    defers : (given : List Ty) (st : List Slot) (ts : List Task) (vs : List Value) → AreIn p w st vs → T st ts → (r : Resolved) → ResolvedTyped p w given r → KeepsWell p (call.defer_resolved p g r (with_ ts vs) below s)
    defers given st ts vs h t (ready func bases row os) k = one_deferred st ts vs h t (invoke func bases row os) (k.0, given, k.1, k.2) (call.frame_weights p g (slice_get p.funcs func) (length os))
    defers given st ts vs h t nil_function k = one_deferred st ts vs h t nothing_to_invoke tt 0
    defers given st ts vs h t nil_interface k = to_panic ts vs
    defers given st ts vs h t unresolved k = absurd k

    -- ---- the end of the body

    still : (m : Mode) → ModeTyped p w m → ModeTyped p w (end.is_returning p g m)
    still (panicking v) h = h
    still normal h = tt
    still returning h = tt

    -- with the deferred calls that are left
    abbrev ending : List Invocation → Frame
    ending is = record f0 { tasks = []; values = []; deferred_calls = is; mode = end.is_returning p g f0.mode }

    ending_typed : (is : List Invocation) → InvocationsTyped p w is → FrameTyped p w [] (ending is) below
    ending_typed is k = record { values_typed = tt; places_typed = ft.places_typed; results_had = ft.results_had; deferred_typed = k; mode_typed = still f0.mode ft.mode_typed; purpose_fits = ft.purpose_fits }

    one_runs : (i : Invocation) (is : List Invocation) → InvocationTyped p w i → InvocationsTyped p w is → KeepsWell p (end.deferred_step p g i (ending is) below s)
    one_runs (invoke func bases row os) is k ks =
        let e = enter p sound w func bases row k.0 k.1 os deferred s.memory wf.memory_typed k.2 k.3 in
        subst (λ o. KeepsWell p (end.deferred_above p g o (ending is) below s)) (sym e.is_entry)
        (above k.1 deferred _ e (ending is ∷ below) tt (([], ending_typed is ks, ([], refl, no_task (ids_of f0.places) [])), bt) 1)
    one_runs nothing_to_invoke is k ks = same_keep (to_panicking (panic_value p.hidden nil_used) (ending is) ∷ below) (panics_in (panic_value p.hidden nil_used) panic_is [] (ending is) below (ending_typed is ks) bt) 1

    gives_results : KeepsWell p (end.ended_with p g f0.purpose (call.results_of p g f0.results f0.places s.memory) below s)
    gives_results =
        let r = results f0.places ft.places_typed f0.results ft.results_had in
        subst (λ o. KeepsWell p (end.ended_with p g f0.purpose o below s)) (sym r.are) (gives f0.purpose rs r.values r.typed below bt ft.purpose_fits)

    by_mode : (m : Mode) → f0.mode ≡ m → KeepsWell p (end.end_by_mode p g m (with_ [] []) below s)
    by_mode (panicking v) c = removed f0.purpose (gives_below f0.purpose rs) v (subst (ModeTyped p w) c ft.mode_typed) below bt
    by_mode normal c = gives_results
    by_mode returning c = gives_results

    ended : (is : List Invocation) → f0.deferred_calls ≡ is → KeepsWell p (end.ended_step p g is (with_ [] []) below s)
    ended [] c = by_mode f0.mode refl
    ended (i ∷ is) c = let k = subst (InvocationsTyped p w) c ft.deferred_typed in one_runs i is k.0 k.1

    finishes : rs ≡ [] → WellFormed p (record (moved g below 1 s) { end = exit 0 })
    finishes e = ends_with (moved g below 1 s) (same_keep below (goes_on w below (subst (λ xs. FramesTyped p w xs below) (nothing f0.purpose rs e) bt)) 1) (exit 0)
      where
        nothing : (u : Purpose) (xs : List Ty) → xs ≡ [] → gives_below u xs ≡ []
        nothing called xs e = e
        nothing deferred xs e = refl
        nothing reporting xs e = refl

  -- ---- recover

  gets : (f0 : Frame) (slots0 : List Slot) (below0 : List Frame) → FrameTyped p w slots0 f0 below0 → (st : List Slot) (t : Ty) (ts : List Task) (vs : List Value) → underlying p.names t ≡ empty_interface → AreIn p w st vs
      → TasksTyped p w (types_of_vars f0.results) (ids_of f0.places) (a_value t ∷ st) ts → (x : Scalar) → ScalarTyped p w (leaf empty_interface) x → (below : List Frame) → PurposeFits p w f0.purpose (types_of_vars f0.results) below
      → FramesTyped p w (gives_below f0.purpose (types_of_vars f0.results)) below → GoroutineTyped p w able (record f0 { tasks = ts; values = (x ∷ []) ∷ vs } ∷ below)
  gets f0 slots0 below0 ft st t ts vs e h d x k below fits bt = (
    (
      a_value t ∷ st,
      record {
        values_typed = (up p w sound.names_set t empty_interface (x ∷ []) e (k, tt), h);
        places_typed = ft.places_typed;
        results_had = ft.results_had;
        deferred_typed = ft.deferred_typed;
        mode_typed = ft.mode_typed;
        purpose_fits = fits;
      },
      d,
    ),
    bt,
  )

  gets_nil : (f0 : Frame) (slots0 : List Slot) (below : List Frame) → FrameTyped p w slots0 f0 below → FramesTyped p w (gives_below f0.purpose (types_of_vars f0.results)) below → (st : List Slot) (t : Ty) (ts : List Task) (vs : List Value)
      → underlying p.names t ≡ empty_interface → AreIn p w st vs → TasksTyped p w (types_of_vars f0.results) (ids_of f0.places) (a_value t ∷ st) ts → WellFormed p (moved g (record f0 { tasks = ts; values = (cell.nil ∷ []) ∷ vs } ∷ below) 1 s)
  gets_nil f0 slots0 below ft bt st t ts vs e h d =
      same_keep (record f0 { tasks = ts; values = (cell.nil ∷ []) ∷ vs } ∷ below) (gets f0 slots0 below ft st t ts vs e h d cell.nil (nil_typed (leaf empty_interface) refl) below ft.purpose_fits bt) 1

  recovers_from : (f0 : Frame) (slots0 : List Slot) (f : Frame) (fs : List Frame) → FrameTyped p w slots0 f0 (f ∷ fs) → FramesTyped p w (gives_below f0.purpose (types_of_vars f0.results)) (f ∷ fs) → f0.purpose ≡ deferred
      → (st : List Slot) (t : Ty) (ts : List Task) (vs : List Value) → underlying p.names t ≡ empty_interface → AreIn p w st vs → TasksTyped p w (types_of_vars f0.results) (ids_of f0.places) (a_value t ∷ st) ts
      → (m : Mode) → f.mode ≡ m → KeepsWell p (end.recovered_from p g m (record f0 { tasks = ts; values = vs }) f fs s)
  recovers_from f0 slots0 f fs ft bt u st t ts vs e h d (panicking v) c =
      let old = bt.0.1 in
      let after : List Frame = record f { mode = returning } ∷ fs in
      same_keep (record f0 { tasks = ts; values = (v ∷ []) ∷ vs } ∷ after)
      (gets f0 slots0 (f ∷ fs) ft st t ts vs e h d v (subst (ModeTyped p w) c old.mode_typed) after (subst (λ y. PurposeFits p w y (types_of_vars f0.results) after) (sym u) tt) (
        (
          bt.0.0,
          record { values_typed = old.values_typed; places_typed = old.places_typed; results_had = old.results_had; deferred_typed = old.deferred_typed; mode_typed = tt; purpose_fits = old.purpose_fits },
          bt.0.2,
        ),
        bt.1,
      )) 1
  recovers_from f0 slots0 f fs ft bt u st t ts vs e h d normal c = gets_nil f0 slots0 (f ∷ fs) ft bt st t ts vs e h d
  recovers_from f0 slots0 f fs ft bt u st t ts vs e h d returning c = gets_nil f0 slots0 (f ∷ fs) ft bt st t ts vs e h d

  recovers : (f0 : Frame) (slots0 : List Slot) (below : List Frame) → FrameTyped p w slots0 f0 below → FramesTyped p w (gives_below f0.purpose (types_of_vars f0.results)) below → (st : List Slot) (t : Ty) (ts : List Task) (vs : List Value)
      → underlying p.names t ≡ empty_interface → AreIn p w st vs → TasksTyped p w (types_of_vars f0.results) (ids_of f0.places) (a_value t ∷ st) ts → (u : Purpose) → f0.purpose ≡ u
      → KeepsWell p (end.recovered p g u (record f0 { tasks = ts; values = vs }) below s)
  recovers f0 slots0 [] ft bt st t ts vs e h d deferred c = gets_nil f0 slots0 [] ft bt st t ts vs e h d
  recovers f0 slots0 (f ∷ fs) ft bt st t ts vs e h d deferred c = recovers_from f0 slots0 f fs ft bt c st t ts vs e h d f.mode refl
  recovers f0 slots0 below ft bt st t ts vs e h d called c = gets_nil f0 slots0 below ft bt st t ts vs e h d
  recovers f0 slots0 below ft bt st t ts vs e h d reporting c = gets_nil f0 slots0 below ft bt st t ts vs e h d

  -- ---- by the first task

  step : (f0 : Frame) (slots0 : List Slot) (below : List Frame) (ft : FrameTyped p w slots0 f0 below) (bt : FramesTyped p w (gives_below f0.purpose (types_of_vars f0.results)) below) (had : List ℕ) (st : List Slot) (ts : List Task)
      → TasksTyped p w (types_of_vars f0.results) had st ts → ids_of f0.places ≡ had → StartsCall ts → (vs : List Value) (ts0 : List Task) → AreIn p w st vs
      → KeepsWell p (go.tasks_step p choices move g ts (record f0 { tasks = ts0; values = vs }) below s)
  step f0 slots0 below ft bt _ _ _ (no_task had st) e l vs ts0 h = ended f0 slots0 below ft bt f0.deferred_calls refl
  step f0 slots0 below ft bt _ _ _ (call_typed had st c os given n ts d q t) e l vs ts0 h =
      local.operands p sound choices move g s wf f0 slots0 below ft bt (values_of_types os) st n ts vs (λ us fr. call.called_step p g (call.resolved p c fr.places us) fr below s) (values_length os ∙ q) h
      (λ ops others x y. calls f0 slots0 below ft bt given st ts others y (subst (λ is. TasksTyped p w (types_of_vars f0.results) is (pushed_slots (values_of_types given) st) ts) (sym e) t) (call.resolved p c f0.places ops)
      (resolves p sound w f0.places ft.places_typed c os given (subst (λ is. CallTyped p is c os given) (sym e) d) ops x))
  step f0 slots0 below ft bt _ _ _ (go_typed had st c os given n ts d q t) e l vs ts0 h =
      local.operands p sound choices move g s wf f0 slots0 below ft bt (values_of_types os) st n ts vs (λ us fr. call.go_resolved p g (call.resolved p c fr.places us) fr below s) (values_length os ∙ q) h
      (λ ops others x y. starts f0 slots0 below ft bt given st ts others y (subst (λ is. TasksTyped p w (types_of_vars f0.results) is st ts) (sym e) t) (call.resolved p c f0.places ops)
      (resolves p sound w f0.places ft.places_typed c os given (subst (λ is. CallTyped p is c os given) (sym e) d) ops x))
  step f0 slots0 below ft bt _ _ _ (defer_typed had st c os given n ts d q t) e l vs ts0 h =
      local.operands p sound choices move g s wf f0 slots0 below ft bt (values_of_types os) st n ts vs (λ us fr. call.defer_resolved p g (call.resolved p c fr.places us) fr below s) (values_length os ∙ q) h
      (λ ops others x y. defers f0 slots0 below ft bt given st ts others y (subst (λ is. TasksTyped p w (types_of_vars f0.results) is st ts) (sym e) t) (call.resolved p c f0.places ops)
      (resolves p sound w f0.places ft.places_typed c os given (subst (λ is. CallTyped p is c os given) (sym e) d) ops x))
  step f0 slots0 below ft bt _ _ _ (recover_typed had st t ts i d) e l vs ts0 h =
      recovers f0 slots0 below ft bt st t ts vs i h (subst (λ is. TasksTyped p w (types_of_vars f0.results) is (a_value t ∷ st) ts) (sym e) d) f0.purpose refl
  step f0 slots0 below ft bt _ _ _ (finish_typed had st ts r) e l vs ts0 h = finishes f0 slots0 below ft bt r
  step f0 slots0 below ft bt _ _ _ (drop_typed had ss st n ts c x) e l vs ts0 h = step f0 slots0 below ft bt had st ts x e l (drop n vs) ts0 (drops_off p w ss st n vs c h)
  step f0 slots0 below ft bt _ _ _ (push_typed had st t v ts c x) e l vs ts0 h = step f0 slots0 below ft bt had (a_value t ∷ st) ts x e l (v ∷ vs) ts0 (c, h)
  step f0 slots0 below ft bt _ _ _ (leave_typed had st label ts x) e l vs ts0 h = step f0 slots0 below ft bt had st ts x e l vs ts0 h
  step f0 slots0 below ft bt _ _ _ _ e l vs ts0 h = absurd l

pub keep : CallStepsKeep
keep p choices move n f below s sound wf e l =
    let q = goroutine_at p wf.world s.goroutines n (record { frames = f ∷ below; waiting = able }) wf.goroutines_typed e in
    subst (λ o. KeepsWell p (go.goroutine_step p choices move n o s)) (sym e)
    (step p sound choices move n s wf f q.0.0 below q.0.1 q.1 (ids_of f.places) q.0.0 f.tasks q.0.2 refl l f.values f.tasks q.0.1.values_typed)

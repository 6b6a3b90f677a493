-- The steps that store values keep their state well formed.
use Rattle.std.proofs.Common.{◌⊎◌, inl, inr, refl, sym, ap, ◌∙◌, subst}
use Rattle.std.specs.Prelude.{◌≡◌, ℕ, ◌+◌, ◌==◌, List, [], ◌∷◌, ◌++◌, Bool, true, false, if◌then◌else◌, Option, Some, None, drop, option_and_then, Contains}
use Rattle.std.proofs.lemmas.Bool.{eq-eqb}
use Rattle.go_type.specs.Tree as ty
use Rattle.go_type.specs.Tree.{Ty}
use Rattle.go_type.specs.Underlying.{underlying}
use Rattle.go_core.specs.Layout.{shape_of, size, weight}
use Rattle.go_core.specs.Memory.{Value, Memory, with_written, read_cells}
use Rattle.go_core.specs.CoreTree.{Target, Var, CoreProgram}
use Rattle.go_core.specs.TypeOf.{listed_types}
use Rattle.go_core.specs.SoundNode.{Around, with_loop, types_of_vars}
use Rattle.go_core.specs.Sound.{IfThere, RangesKey, RangesValue}
use Rattle.go_core.specs.SoundProgram.{Sound}
use Rattle.go_core.specs.RunPanic.{RunPanic, nil_used, panic_value}
use Rattle.go_core.specs.Did.{Did, gives, panics, no_step}
use Rattle.go_core.specs.Opened.{all_opened}
use Rattle.go_core.specs.StepMaps.{map_set_step}
use Rattle.go_core.specs.Goroutine as task
use Rattle.go_core.specs.Goroutine.{Task, Cursor, Ranged, Frame, able, Goroutine, State, Move, moved, with_memory}
use Rattle.go_core.specs.Frames as f
use Rattle.go_core.specs.Calls as c
use Rattle.go_core.specs.Assign as a
use Rattle.go_core.specs.Control as k
use Rattle.go_core.specs.Control.{left, continued}
use Rattle.go_core.specs.GoStep as go
use Rattle.go_core.specs.Leaves.{leaf_of, leaves_of}
use Rattle.go_core.specs.Typed.{World, IsOf, MemoryTyped}
use Rattle.go_core.specs.TasksTyped.{HasVar, CursorTyped, HasIfThere, RangeTyped, TargetTyped, TargetsTyped, blank_target, place_target, entry_target, no_target, more_targets, TasksTyped, LabelsTyped, labels_typed, drop_typed, push_typed, leave_typed, assign_typed, assign_rest_typed, begin_range_typed, next_range_typed, through_typed}
use Rattle.go_core.specs.Applies.{Slot, a_value, values_of_types, pushed_slots, AreIn}
use Rattle.go_core.specs.WellFormed.{ids_of, gives_below, FrameTyped, FramesTyped, WellFormed}
use Rattle.go_core.specs.LocalSteps.{KeepsWell}
use Rattle.go_core.specs.CommunicationSteps.{KeepsIfThere, GoesWell}
use Rattle.go_core.specs.AssignSteps.{StartsStore, StartsRangeTurn, StoresKeep, RangeTurnsKeep}
use Rattle.go_core.proofs.LeavesLemmas.{size_leaves}
use Rattle.go_core.proofs.MemoryLemmas.{same_world, reads, writes}
use Rattle.go_core.proofs.TypedScalars.{pointer_in, one_scalar, down}
use Rattle.go_core.proofs.OpenedLemmas.{values_length as types_length}
use Rattle.go_core.proofs.OpenedLabels.{contains_split, left_is, continued_is}
use Rattle.go_core.proofs.OpenedStmts as stmts
use Rattle.go_core.proofs.FramesGrow.{goroutine_at}
use Rattle.go_core.proofs.LocalFrames as local
use Rattle.go_core.proofs.LocalFrames.{base_found, drops_off}
use Rattle.go_core.proofs.CommunicationFrames.{if_there, there}
use Rattle.go_core.proofs.AssignPlaces.{FoundTyped, SetTyped, places_found, targets_count, entry_set}
use Rattle.go_core.proofs.AssignCursors.{Begun, begins, NextTyped, IsSo, goes_on, some_birth}

-- ---- labels, inside a range

module _ (p : CoreProgram) (w : World) (results : List Ty) where
  abbrev L : List ℕ → List Slot → List Task → Type 0
  L had st ts = TasksTyped p w results had st ts

  either : (had : List ℕ) (ts us : List Task) (b : Bool) → L had [] ts → L had [] us → L had [] (if b then ts else us)
  either had ts us true h i = h
  either had ts us false h i = i

  the_first : (had : List ℕ) (ts us : List Task) (b : Bool) → b ≡ true → L had [] ts → L had [] (if b then ts else us)
  the_first had ts us true e h = h
  the_first had ts us false e h = absurd (cc)

  inside_range : (had : List ℕ) (b : Around) (r : Ranged) (cur : Cursor) (rest : List Task) → LabelsTyped p w results had b rest → L had [] rest → L had [] (task.next_range r cur ∷ rest)
      → LabelsTyped p w results had (with_loop r.label b) (task.next_range r cur ∷ rest)
  inside_range had b r cur rest ls h again =
      labels_typed had (with_loop r.label b) (task.next_range r cur ∷ rest) (λ l i. by_break l (contains_split r.label b.breaks l i)) (λ l i. by_continue l (contains_split r.label b.continues l i))
    where
      by_break : (l : ℕ) → (r.label ≡ l) ⊎ Contains b.breaks l → L had [] (left l (task.next_range r cur ∷ rest))
      by_break l (inl e) = the_first had rest (left l rest) (r.label == l) (eq-eqb r.label l e) h
      by_break l (inr i) = either had rest (left l rest) (r.label == l) h (left_is p w results had b rest ls l i)

      by_continue : (l : ℕ) → (r.label ≡ l) ⊎ Contains b.continues l → L had [] (continued l (task.next_range r cur ∷ rest))
      by_continue l (inl e) = the_first had (task.next_range r cur ∷ rest) (continued l rest) (r.label == l) (eq-eqb r.label l e) again
      by_continue l (inr i) = either had (task.next_range r cur ∷ rest) (continued l rest) (r.label == l) again (continued_is p w results had b rest ls l i)

-- ---- a frame's step

module _ (p : CoreProgram) (sound : Sound p) (choices : List ℕ) (move : Move) (g : ℕ) (s : State) (wf : WellFormed p s)
    (f0 : Frame) (slots0 : List Slot) (below : List Frame) (ft : FrameTyped p wf.world slots0 f0 below) (bt : FramesTyped p wf.world (gives_below f0.purpose (types_of_vars f0.results)) below) where
  abbrev w : World
  w = wf.world

  abbrev rs : List Ty
  rs = types_of_vars f0.results

  abbrev T : List ℕ → List Slot → List Task → Type 0
  T had st ts = TasksTyped p w rs had st ts

  abbrev with_ : List Task → List Value → Frame
  with_ ts vs = record f0 { tasks = ts; values = vs }

  -- memory changes within its world
  changed : (had : List ℕ) → ids_of f0.places ≡ had → (m : Memory) → MemoryTyped p w m → (st : List Slot) (ts : List Task) (vs : List Value) (units : ℕ) → AreIn p w st vs → T had st ts
      → WellFormed p (with_memory m (moved g (with_ ts vs ∷ below) units s))
  changed had e m mt st ts vs units h t =
      local.keeps_in p sound choices move g s wf f0 slots0 below ft bt w (same_world w) m mt (with_ ts vs)
      (local.typed_in p sound choices move g s wf f0 slots0 below ft bt w (same_world w) had e st ts vs h t) units

  panicked : (q : RunPanic) (ts : List Task) (vs : List Value) (units : ℕ) → KeepsWell p (f.panic_step p.hidden g q units (with_ ts vs) below s)
  panicked q ts vs units =
      local.to_panic p sound choices move g s wf f0 slots0 below ft bt (panic_value p.hidden q) ts vs (1 + units)
      (local.panic_typed_in p sound choices move g s wf f0 slots0 below ft bt w q)

  -- ---- assignments

  module _ (had : List ℕ) (e : ids_of f0.places ≡ had) (st : List Slot) (ts : List Task) (vs : List Value) (vt : AreIn p w st vs) (rest_typed : T had st ts) where
    after : (m : Memory) → MemoryTyped p w m → (xs : List Target) (ss : List Slot) (us : List Ty) (ops values : List Value) (units : ℕ) → TargetsTyped p had xs ss us → AreIn p w ss ops → AreIn p w (values_of_types us) values
        → WellFormed p (with_memory m (moved g (a.rest_first p g xs ops values (with_ ts vs) ∷ below) units s))
    after m mt [] ss us ops values units h i j = changed had e m mt st ts vs units vt rest_typed
    after m mt (x ∷ xs) ss us ops values units h i j =
        changed had e m mt st (task.assign_rest (x ∷ xs) ops values ∷ ts) vs units vt (assign_rest_typed had ss st (x ∷ xs) us ops values ts h i j rest_typed)

    by_found : (o : a.Found) (t : Ty) (nodes : ℕ) (xs : List Target) (ss : List Slot) (us : List Ty) (x : Value) (values : List Value) → FoundTyped p w t ss o → TargetsTyped p had xs ss us → IsOf p w t x
        → AreIn p w (values_of_types us) values → KeepsWell p (a.stored_at p g o t nodes xs x values (with_ ts vs) below s)
    by_found (a.found base others) t nodes xs ss us x values h k i j =
        after (with_written s.memory base x) (writes p w s.memory base (leaves_of p.names t) x wf.memory_typed h.0 i) xs ss us others values (1 + nodes + weight (shape_of p.names t)) k h.1 j
    by_found (a.fails q) t nodes xs ss us x values h k i j = panicked q ts vs nodes
    by_found a.lost t nodes xs ss us x values h k i j = absurd h

    by_set : (o : Did) (xs : List Target) (ss : List Slot) (us : List Ty) (others values : List Value) → SetTyped p w o → TargetsTyped p had xs ss us → AreIn p w ss others → AreIn p w (values_of_types us) values
        → KeepsWell p (a.entry_stored p g o xs others values (with_ ts vs) below s)
    by_set (gives ys m u) xs ss us others values h k i j = after m h xs ss us others values (1 + u) k i j
    by_set (panics q u) xs ss us others values h k i j = panicked q ts vs u
    by_set no_step xs ss us others values h k i j = absurd h

    by_target : (y : Target) (xs : List Target) (ss us : List Slot) (t : Ty) (ys : List Ty) (ops : List Value) (x : Value) (values : List Value) → TargetTyped p had y ss t → TargetsTyped p had xs us ys → AreIn p w (ss ++ us) ops
        → IsOf p w t x → AreIn p w (values_of_types ys) values → KeepsWell p (a.assign_step p g (y ∷ xs) ops (x ∷ values) (with_ ts vs) below s)
    by_target _ xs _ us _ ys ops x values (blank_target t) k h i j = after s.memory wf.memory_typed xs us ys ops values 1 k h j
    by_target _ xs _ us _ ys ops x values (place_target t place ss d) k h i j =
        by_found (a.found_place p f0.places s.memory place ops) t (a.depth place) xs us ys x values
        (places_found p w sound.names_set s.memory f0.places wf.globals_lie ft.places_typed had e place ss t d us ops h) k i j
    by_target _ xs _ us _ ys [] x values (entry_target m keys t q r d) k h i j = absurd h
    by_target _ xs _ us _ ys (y ∷ []) x values (entry_target m keys t q r d) k h i j = absurd h.1
    by_target _ xs _ us _ ys (y ∷ z ∷ ops) x values (entry_target m keys t q r d) k h i j =
        by_set (map_set_step p.names (underlying p.names m) y z x s.memory) xs us ys ops values (entry_set p w sound.names_set s.memory wf.memory_typed keys t m y z x d h.0 h.1.0 i) k h.1.1 j

    assigns : (xs : List Target) (ss : List Slot) (us : List Ty) (ops values : List Value) → TargetsTyped p had xs ss us → AreIn p w ss ops → AreIn p w (values_of_types us) values
        → KeepsWell p (a.assign_step p g xs ops values (with_ ts vs) below s)
    assigns _ _ _ ops values no_target h i = changed had e s.memory wf.memory_typed st ts vs 1 vt rest_typed
    assigns _ _ _ ops [] (more_targets y xs ss us t ys d k) h i = absurd i
    assigns _ _ _ ops (x ∷ values) (more_targets y xs ss us t ys d k) h i = by_target y xs ss us t ys ops x values d k h i.0 i.1

  -- ---- a receiver

  receiver : (had : List ℕ) → ids_of f0.places ≡ had → (st : List Slot) (v : Var) (ts : List Task) (vs : List Value) → HasVar p had v.id v.type_ → AreIn p w (a_value (ty.pointer v.type_) ∷ st) vs → T had st ts
      → KeepsWell p (c.receive_through_step p g v (with_ ts vs) below s)
  receiver had e st v ts vs hv h t =
      local.operand p sound choices move g s wf f0 slots0 below ft bt (a_value (ty.pointer v.type_)) st ts vs (c.read_through p g v below s) h
      (λ x others i j. one_scalar p w (leaf_of (ty.pointer v.type_)) x (λ y. KeepsWell p (c.read_through p g v below s y (with_ ts others))) i
      (λ y l. pointer_in p w v.type_ y (λ z. KeepsWell p (c.read_through p g v below s (z ∷ []) (with_ ts others))) l (panicked nil_used ts others 0)
      (λ base lies. let b = base_found p w f0.places v.id v.type_ ft.places_typed (subst (λ is. HasVar p is v.id v.type_) (sym e) hv) in
      let n = size (shape_of p.names v.type_) in
      let ls = leaves_of p.names v.type_ in
      subst (λ o. KeepsWell p (c.receiver_read p g v base o (with_ ts others) below s)) (sym b.is_base)
      (changed had e (with_written s.memory b.base (read_cells base n s.memory.cells))
      (writes p w s.memory b.base ls (read_cells base n s.memory.cells) wf.memory_typed b.lies (reads p w s.memory base n ls wf.memory_typed lies (size_leaves p.names v.type_)))
      st ts others (1 + weight (shape_of p.names v.type_)) j t))))

  -- ---- ranges

  begun : (had : List ℕ) → ids_of f0.places ≡ had → (b : Around) (r : Ranged) (ts : List Task) (vs : List Value) → RangeTyped p had b r → LabelsTyped p w rs had b ts → listed_types b.results ≡ rs → T had [] ts → AreIn p w [] vs
      → (is_nil : Bool) (x : Value) → Begun p w (underlying p.names r.from) is_nil (k.cursor_of p g (underlying p.names r.from) x s.memory) → KeepsWell p (k.begun_with p g is_nil x r (with_ ts vs) below s)
  begun had e b r ts vs rt ls re t h true x i = panicked nil_used ts vs 0
  begun had e b r ts vs rt ls re t h false x i = by_cursor (k.cursor_of p g (underlying p.names r.from) x s.memory) i
    where
      by_cursor : (o : Option Cursor) → Begun p w (underlying p.names r.from) false o → KeepsWell p (k.range_begun p g o r (with_ ts vs) below s)
      by_cursor None i = absurd i
      by_cursor (Some cur) i = changed had e s.memory wf.memory_typed [] (task.next_range r cur ∷ ts) vs (1 + 0) h (next_range_typed had b r cur ts rt re i ls t)

  record WrittenTo (v : Option Var) (x : Value) (m : Memory) : Type 0 where
    after_ : Memory
    is_after : k.var_written p g v x f0.places m ≡ Some after_
    typed : MemoryTyped p w after_

  write_to : (had : List ℕ) → ids_of f0.places ≡ had → (v : Option Var) (Is : Ty → Type 0) (x : Value) (m : Memory) → HasIfThere p had v → IfThere v Is → ((t : Ty) → Is t → IsOf p w t x) → MemoryTyped p w m → WrittenTo v x m
  write_to had e None Is x m h i j mt = record { after_ = m; is_after = refl; typed = mt }
  write_to had e (Some v) Is x m h i j mt =
      let b = base_found p w f0.places v.id v.type_ ft.places_typed (subst (λ is. HasVar p is v.id v.type_) (sym e) h) in
      record {
        after_ = with_written m b.base x;
        is_after = ap (option_and_then (λ n. Some (with_written m n x))) b.is_base;
        typed = writes p w m b.base (leaves_of p.names v.type_) x mt b.lies (j v.type_ i);
      }

  -- the next turn, where there is one that Go lets come
  turns : (had : List ℕ) → ids_of f0.places ≡ had → (b : Around) (r : Ranged) (ts : List Task) (vs : List Value) → RangeTyped p had b r → LabelsTyped p w rs had b ts → listed_types b.results ≡ rs → T had [] ts → AreIn p w [] vs
      → (n : k.Next p g) → NextTyped p w g (underlying p.names r.from) n → IsSo p w g n → KeepsWell p (k.range_on p g n r (with_ ts vs) below s)
  turns had e b r ts vs rt ls re t h (k.next key value cur) i so =
      let first = write_to had e r.key (RangesKey (underlying p.names r.from)) key s.memory rt.key_had rt.key_fits i.0 wf.memory_typed in
      let second = write_to had e r.value (RangesValue p (underlying p.names r.from)) value first.after_ rt.value_had rt.value_fits i.1 first.typed in
      let again = next_range_typed had b r cur ts rt re i.2 ls t in
      subst (λ o. KeepsWell p (k.range_turn p g o r cur (with_ ts vs) below s)) (sym (ap (option_and_then (λ m. k.var_written p g r.value value f0.places m)) first.is_after ∙ second.is_after))
      (changed had e second.after_ second.typed [] (all_opened r.body (task.next_range r cur ∷ ts)) vs (1 + (k.var_weight p g r.key + k.var_weight p g r.value)) h
      (stmts.all p w rs r.body had (with_loop r.label b) (task.next_range r cur ∷ ts) re (record { in_scope = rt.around.in_scope; declarable = rt.around.declarable }) rt.body_sound
      (inside_range p w rs had b r cur ts ls t again) again))
  turns had e b r ts vs rt ls re t h k.over i so = changed had e s.memory wf.memory_typed [] ts vs 1 h t
  turns had e b r ts vs rt ls re t h k.not_so i so = absurd so

  if_so : (n : k.Next p g) (r : Ranged) (f : Frame) → (IsSo p w g n → KeepsWell p (k.range_on p g n r f below s)) → KeepsIfThere p (k.range_on p g n r f below s)
  if_so (k.next key value cur) r f h = if_there p (k.range_on p g (k.next key value cur) r f below s) (h tt)
  if_so k.over r f h = if_there p (k.range_on p g k.over r f below s) (h tt)
  if_so k.not_so r f h = tt

  goes : (had : List ℕ) → ids_of f0.places ≡ had → (b : Around) (r : Ranged) (cur : Cursor) (ts : List Task) (vs : List Value) → RangeTyped p had b r → LabelsTyped p w rs had b ts → listed_types b.results ≡ rs → T had [] ts → AreIn p w [] vs
      → CursorTyped p w (underlying p.names r.from) cur → GoesWell p g (λ each. k.next_range_step p g each.birth r cur (with_ ts vs) below s)
  goes had e b r cur ts vs rt ls re t h ct =
      let u = underlying p.names r.from in
      let some = some_birth p w s.memory wf.memory_typed g u cur ct in
      record {
        keeps = λ each. if_so (k.next_of p g u each.birth cur s.memory) r (with_ ts vs)
            (turns had e b r ts vs rt ls re t h (k.next_of p g u each.birth cur s.memory) (goes_on p w s.memory wf.memory_typed g u each.birth cur ct));
        goes = record {
          move = record { goroutine = g; way = 0; partner = 0; partner_way = 0; capacity = 0; birth = some.0 };
          is_its = refl;
          is_there = there p (k.range_on p g (k.next_of p g u some.0 cur s.memory) r (with_ ts vs) below s)
              (turns had e b r ts vs rt ls re t h (k.next_of p g u some.0 cur s.memory) (goes_on p w s.memory wf.memory_typed g u some.0 cur ct) some.1);
        };
      }

  -- ---- what is no step is passed over

  step : (had : List ℕ) (st : List Slot) (ts : List Task) → T had st ts → ids_of f0.places ≡ had → StartsStore ts → (vs : List Value) (ts0 : List Task) → AreIn p w st vs → KeepsWell p (go.tasks_step p choices move g ts (with_ ts0 vs) below s)
  step _ _ _ (assign_typed had ss st xs us n ts d z t) e l vs ts0 h =
      local.operands p sound choices move g s wf f0 slots0 below ft bt (values_of_types us) (pushed_slots ss st) n ts vs
      (λ ys fr. f.on_operands (a.target_operands p g xs) fr (λ ops rest. a.assign_step p g xs ops ys rest below s)) (types_length us ∙ z) h
      (λ ys others i j. local.operands p sound choices move g s wf f0 slots0 below ft bt ss st (a.target_operands p g xs) ts others (λ ops rest. a.assign_step p g xs ops ys rest below s) (targets_count p g had xs ss us d) j
      (λ ops below_them x y. assigns had e st ts below_them y t xs ss us ops ys d x i))
  step _ _ _ (assign_rest_typed had ss st xs us ops ys ts d i j t) e l vs ts0 h = assigns had e st ts vs h t xs ss us ops ys d i j
  step _ _ _ (through_typed had st v ts hv t) e l vs ts0 h = receiver had e st v ts vs hv h t
  step _ _ _ (begin_range_typed had b r ts rt re ls t) e l vs ts0 h =
      local.operand p sound choices move g s wf f0 slots0 below ft bt (a_value r.from) [] ts vs (λ x fr. k.begun_with p g (k.is_nil_array p g (underlying p.names r.from) x) x r fr below s) h
      (λ x others i j. begun had e b r ts others rt ls re t j (k.is_nil_array p g (underlying p.names r.from) x) x
      (begins p w s.memory wf.memory_typed g sound.names_set (underlying p.names r.from) x rt.ranged (down p w sound.names_set r.from (underlying p.names r.from) x refl i)))
  step _ _ _ (drop_typed had ss st n ts z x) e l vs ts0 h = step had st ts x e l (drop n vs) ts0 (drops_off p w ss st n vs z h)
  step _ _ _ (push_typed had st t v ts i x) e l vs ts0 h = step had (a_value t ∷ st) ts x e l (v ∷ vs) ts0 (i, h)
  step _ _ _ (leave_typed had st label ts x) e l vs ts0 h = step had st ts x e l vs ts0 h
  step _ _ _ _ e l vs ts0 h = absurd l

  turn : (had : List ℕ) (st : List Slot) (ts : List Task) → T had st ts → ids_of f0.places ≡ had → StartsRangeTurn ts → (vs : List Value) (ts0 : List Task) → AreIn p w st vs
      → GoesWell p g (λ each. go.tasks_step p choices each g ts (with_ ts0 vs) below s)
  turn _ _ _ (next_range_typed had b r cur ts rt re i ls t) e l vs ts0 h = goes had e b r cur ts vs rt ls re t h i
  turn _ _ _ (drop_typed had ss st n ts z x) e l vs ts0 h = turn had st ts x e l (drop n vs) ts0 (drops_off p w ss st n vs z h)
  turn _ _ _ (push_typed had st t v ts i x) e l vs ts0 h = turn had (a_value t ∷ st) ts x e l (v ∷ vs) ts0 (i, h)
  turn _ _ _ (leave_typed had st label ts x) e l vs ts0 h = turn had st ts x e l vs ts0 h
  turn _ _ _ _ e l vs ts0 h = absurd l

pub stores : StoresKeep
stores p choices move n fr below s sound wf e l =
    let q = goroutine_at p wf.world s.goroutines n (record { frames = fr ∷ below; waiting = able }) wf.goroutines_typed e in
    subst (λ o. KeepsWell p (go.goroutine_step p choices move n o s)) (sym e)
    (step p sound choices move n s wf fr q.0.0 below q.0.1 q.1 (ids_of fr.places) q.0.0 fr.tasks q.0.2 refl l fr.values fr.tasks q.0.1.values_typed)

pub range_turns : RangeTurnsKeep
range_turns p choices n fr below s sound wf e l =
    let q = goroutine_at p wf.world s.goroutines n (record { frames = fr ∷ below; waiting = able }) wf.goroutines_typed e in
    subst (λ o. GoesWell p n (λ each. go.goroutine_step p choices each n o s)) (sym e)
    (turn p sound choices (record { goroutine = n; way = 0; partner = 0; partner_way = 0; capacity = 0; birth = None }) n s wf fr q.0.0 below q.0.1 q.1 (ids_of fr.places) q.0.0 fr.tasks q.0.2 refl l fr.values fr.tasks q.0.1.values_typed)

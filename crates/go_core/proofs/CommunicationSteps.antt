-- The steps of communication keep their state well formed, and are there where they are to be.
use Rattle.std.proofs.Common.{refl, sym, ap, ◌∙◌, subst, arith}
use Rattle.std.specs.Prelude.{◌≡◌, ℕ, ◌+◌, List, [], ◌∷◌, ◌++◌, Bool, true, false, Option, Some, None, length, drop, option_and_then}
use Rattle.std.proofs.lemmas.List.{append-nil}
use Rattle.go_type.specs.declared.types.IntName.TheVariants as integer
use Rattle.go_type.specs.Tree.{Ty}
use Rattle.go_type.specs.Underlying.{underlying}
use Rattle.go_core.specs.Memory as cell
use Rattle.go_core.specs.Memory.{Value}
use Rattle.go_core.specs.CoreTree.{Stmts, CoreProgram}
use Rattle.go_core.specs.TypeOf.{int_type}
use Rattle.go_core.specs.SoundNode.{types_of_vars}
use Rattle.go_core.specs.Sound.{IsChannelOf}
use Rattle.go_core.specs.SoundProgram.{Sound}
use Rattle.go_core.specs.Opened.{all_opened}
use Rattle.go_core.specs.Goroutine as task
use Rattle.go_core.specs.Goroutine.{Task, Case, Popped, popped, popped_before, Frame, Waiting, able, Goroutine, State, Move}
use Rattle.go_core.specs.Frames.{with_popped, on_operands, with_one, on_operand, with_two, on_pair}
use Rattle.go_core.specs.Communicate as talk
use Rattle.go_core.specs.Communicate.{named_channel, waiting_ready}
use Rattle.go_core.specs.GoStep as go
use Rattle.go_core.specs.Leaves.{leaf}
use Rattle.go_core.specs.Typed.{World, MemoryTyped}
use Rattle.go_core.specs.TasksTyped.{TasksTyped, drop_typed, push_typed, leave_typed, send_typed, receive_typed, close_typed, select_typed, select_default_typed, take_typed, add_typed, await_typed}
use Rattle.go_core.specs.Applies.{Slot, a_value, a_place, values_of_types, pushed_slots, IsIn, AreIn}
use Rattle.go_core.specs.WellFormed.{ids_of, gives_below, GlobalsLie, FrameTyped, FramesTyped, received_types, OffersTyped, GoroutinesTyped}
use Rattle.go_core.specs.CommunicationSteps.{StartsCommunication, IsThere, KeepsIfThere, Goes, GoesWell, CommunicationsKeep, WaitingKeeps, ReadyGoes}
use Rattle.go_core.proofs.TypedScalars.{one_scalar, whole_in, one_in, two_in, place_in}
use Rattle.go_core.proofs.LocalFrames.{takes_off, drops_off}
use Rattle.go_core.proofs.FramesGrow.{goroutine_at}
use Rattle.go_core.proofs.CommunicationReach as reaching
use Rattle.go_core.proofs.CommunicationGates as gates
use Rattle.go_core.proofs.CommunicationSelects as ways

-- steps that are the same for each move
same_steps : (p : CoreProgram) (g : ℕ) (F G : Move → Option State) → ((move : Move) → F move ≡ G move) → GoesWell p g G → GoesWell p g F
same_steps p g F G e h = record {
  keeps = λ move. subst (KeepsIfThere p) (sym (e move)) (h.keeps move);
  goes = record { move = h.goes.move; is_its = h.goes.is_its; is_there = subst IsThere (sym (e h.goes.move)) h.goes.is_there };
}

module _ (p : CoreProgram) (sound : Sound p) (choices : List ℕ) (g : ℕ) (w : World) (gl : GlobalsLie p w) (s : State) (mt : MemoryTyped p w s.memory) (gt : GoroutinesTyped p w s.goroutines)
    (f0 : Frame) (slots0 : List Slot) (below : List Frame) (ft : FrameTyped p w slots0 f0 below) (bt : FramesTyped p w (gives_below f0.purpose (types_of_vars f0.results)) below) where
  abbrev T : List ℕ → List Slot → List Task → Type 0
  T had st ts = TasksTyped p w (types_of_vars f0.results) had st ts

  -- the frame with other tasks and values
  abbrev with_ : List Task → List Value → Frame
  with_ ts vs = record f0 { tasks = ts; values = vs }

  abbrev Well : (Move → Option State) → Type 0
  Well F = GoesWell p g F

  frame_with : (st : List Slot) (ts : List Task) (vs : List Value) → AreIn p w st vs → FrameTyped p w st (with_ ts vs) below
  frame_with st ts vs h = record { values_typed = h; places_typed = ft.places_typed; results_had = ft.results_had; deferred_typed = ft.deferred_typed; mode_typed = ft.mode_typed; purpose_fits = ft.purpose_fits }

  its : (had : List ℕ) → ids_of f0.places ≡ had → (st : List Slot) (ts : List Task) → T had st ts → T (ids_of f0.places) st ts
  its had e st ts t = subst (λ is. T is st ts) (sym e) t

  operands : (ins st : List Slot) (n : ℕ) (ts : List Task) (vs : List Value) (next : Move → List Value → Frame → Option State) → length ins ≡ n → AreIn p w (pushed_slots ins st) vs
      → ((ops others : List Value) → AreIn p w ins ops → AreIn p w st others → Well (λ move. next move ops (with_ ts others))) → Well (λ move. on_operands n (with_ ts vs) (next move))
  operands ins st n ts vs next e h cont =
      let t = takes_off p w ins st 0 vs [] h in
      let z : length ins + 0 ≡ n = omega (arith, e) in
      let q : popped n vs ≡ Some (record { operands = t.operands ++ []; others = t.others }) = ap (λ j. popped_before j vs []) (sym z) ∙ t.taken in
      subst (λ o. Well (λ move. with_popped o (with_ ts vs) (next move))) (sym q)
      (cont (t.operands ++ []) t.others (subst (AreIn p w ins) (sym (append-nil t.operands)) t.are_in) t.left_in)

  operand : (i : Slot) (st : List Slot) (ts : List Task) (vs : List Value) (next : Move → Value → Frame → Option State) → AreIn p w (i ∷ st) vs
      → ((x : Value) (others : List Value) → IsIn p w i x → AreIn p w st others → Well (λ move. next move x (with_ ts others))) → Well (λ move. on_operand (with_ ts vs) (next move))
  operand i st ts vs next h cont =
      operands (i ∷ []) st 1 ts vs (λ move. with_one (next move)) refl h
      (λ ops others a b. one_in p w i ops (λ us. Well (λ move. with_one (next move) us (with_ ts others))) a (λ x c. cont x others c b))

  pair : (i j : Slot) (st : List Slot) (ts : List Task) (vs : List Value) (next : Move → Value → Value → Frame → Option State) → AreIn p w (j ∷ i ∷ st) vs
      → ((x y : Value) (others : List Value) → IsIn p w i x → IsIn p w j y → AreIn p w st others → Well (λ move. next move x y (with_ ts others))) → Well (λ move. on_pair (with_ ts vs) (next move))
  pair i j st ts vs next h cont =
      operands (i ∷ j ∷ []) st 2 ts vs (λ move. with_two (next move)) refl h
      (λ ops others a b. two_in p w i j ops (λ us. Well (λ move. with_two (next move) us (with_ ts others))) a (λ x y c d. cont x y others c d b))

  -- one way alone
  one_way : (st : List Slot) (ts : List Task) (vs : List Value) → AreIn p w st vs → (o : task.Offer) → OffersTyped p w (with_ ts vs) st (o ∷ []) → (F : Move → task.Offer) → ((move : Move) → F move ≡ o)
      → Well (λ move. talk.reach p g move choices None 0 (F move ∷ []) (with_ ts vs) below s)
  one_way st ts vs h o ot F e =
      same_steps p g (λ move. talk.reach p g move choices None 0 (F move ∷ []) (with_ ts vs) below s) (λ move. talk.reach p g move choices None 0 (o ∷ []) (with_ ts vs) below s)
      (λ move. ap (λ q. talk.reach p g move choices None 0 (q ∷ []) (with_ ts vs) below s) (e move))
      (reaching.reach_well p sound w gl choices g st (with_ ts vs) below (frame_with st ts vs h) bt s mt gt 0 (o ∷ []) ot None tt)

  send : (had : List ℕ) → ids_of f0.places ≡ had → (st : List Slot) (t u : Ty) (ts : List Task) (vs : List Value) → IsChannelOf (underlying p.names t) u → AreIn p w (a_value u ∷ a_value t ∷ st) vs → T had st ts
      → Well (λ move. talk.send_step p g move choices t (with_ ts vs) below s)
  send had e st t u ts vs i h r =
      pair (a_value t) (a_value u) st ts vs (λ move c x f. option_and_then (λ name. talk.reach p g move choices None 0 (talk.send_offer p g move t name x [] ∷ []) f below s) (named_channel c)) h
      (λ c x others a b d.
      let n = ways.named p w sound t u c i a in
      subst (λ o. Well (λ move. option_and_then (λ name. talk.reach p g move choices None 0 (talk.send_offer p g move t name x [] ∷ []) (with_ ts others) below s) o)) (sym n.is_named)
      (one_way st ts others d (ways.a_send p g u n.name x []) ((u, n.fits, b, its had e st ts r), tt) (λ move. talk.send_offer p g move t n.name x []) (λ move. ways.send_is p g move t u n.name x [] i)))

  receive : (had : List ℕ) → ids_of f0.places ≡ had → (st : List Slot) (t u : Ty) (n : ℕ) (count : Move → ℕ) → ((move : Move) → count move ≡ n) → (ts : List Task) (vs : List Value) → IsChannelOf (underlying p.names t) u → AreIn p w (a_value t ∷ st) vs
      → T had (pushed_slots (values_of_types (received_types p w n u)) st) ts
      → Well (λ move. on_operand (with_ ts vs) (λ c f. option_and_then (λ name. talk.reach p g move choices None 0 (talk.receive_offer p g move t name (count move) [] ∷ []) f below s) (named_channel c)))
  receive had e st t u n count same ts vs i h r =
      operand (a_value t) st ts vs (λ move c f. option_and_then (λ name. talk.reach p g move choices None 0 (talk.receive_offer p g move t name (count move) [] ∷ []) f below s) (named_channel c)) h
      (λ c others a d.
      let q = ways.named p w sound t u c i a in
      subst (λ o. Well (λ move. option_and_then (λ name. talk.reach p g move choices None 0 (talk.receive_offer p g move t name (count move) [] ∷ []) (with_ ts others) below s) o)) (sym q.is_named)
      (one_way st ts others d (ways.a_receive p g u q.name n []) ((u, q.fits, ways.zero_of p w u, its had e (pushed_slots (values_of_types (received_types p w n u)) st) ts r), tt)
      (λ move. talk.receive_offer p g move t q.name (count move) []) (λ move. ap (λ k. talk.receive_offer p g move t q.name k []) (same move) ∙ ways.receive_is p g move t u q.name n [] i)))

  -- with this default clause
  select : (had : List ℕ) → ids_of f0.places ≡ had → (ss st : List Slot) (cases : List Case) (n : ℕ) (has_default : Bool) (default_ : Option (List Task → List Task)) (body : Stmts) (ts : List Task) (vs : List Value)
      → ((move : Move) → talk.default_tasks p g move has_default body ≡ default_)
      → ((others : List Value) (h : AreIn p w st others) → reaching.DefaultFits p sound w gl choices g st (with_ ts others) below (frame_with st ts others h) bt default_)
      → ways.C p g sound w f0 had st ts ss cases → length ss ≡ n → AreIn p w (pushed_slots ss st) vs → Well (λ move. talk.select_step p g move choices cases n has_default body (with_ ts vs) below s)
  select had e ss st cases n has_default default_ body ts vs same fits c k h =
      operands ss st n ts vs (λ move us f. talk.select_with p g move choices (talk.case_count p g move cases) has_default body (talk.offers_from p g move cases us) f below s) k h
      (λ ops others a d.
      let q = ways.select_offers p g sound w (with_ ts others) had st ts ss cases c e refl ops a in
      same_steps p g (λ move. talk.select_with p g move choices (talk.case_count p g move cases) has_default body (talk.offers_from p g move cases ops) (with_ ts others) below s)
      (λ move. talk.reach p g move choices default_ (length cases) q.offers (with_ ts others) below s)
      (λ move. ap (λ o. talk.select_with p g move choices (talk.case_count p g move cases) has_default body o (with_ ts others) below s) (q.are move)
      ∙ ap (λ j. talk.reach p g move choices (talk.default_tasks p g move has_default body) j q.offers (with_ ts others) below s) (ways.count_is p g move cases)
      ∙ ap (λ j. talk.reach p g move choices j (length cases) q.offers (with_ ts others) below s) (same move))
      (reaching.reach_well p sound w gl choices g st (with_ ts others) below (frame_with st ts others d) bt s mt gt (length cases) q.offers q.typed default_ (fits others d)))

  close : (had : List ℕ) → ids_of f0.places ≡ had → (st : List Slot) (t u : Ty) (ts : List Task) (vs : List Value) → IsChannelOf (underlying p.names t) u → AreIn p w (a_value t ∷ st) vs → T had st ts
      → Well (λ move. talk.close_step p g move (with_ ts vs) below s)
  close had e st t u ts vs i h r =
      operand (a_value t) st ts vs (λ move c f. option_and_then (λ name. talk.close_named p g move name f below s) (named_channel c)) h
      (λ c others a d.
      let n = ways.named p w sound t u c i a in
      subst (λ o. Well (λ move. option_and_then (λ name. talk.close_named p g move name (with_ ts others) below s) o)) (sym n.is_named)
      (gates.close_well p sound w gl g s mt gt st (with_ ts others) below (frame_with st ts others d) bt n.name u n.fits (its had e st ts r)))

  take : (had : List ℕ) → ids_of f0.places ≡ had → (st : List Slot) (ts : List Task) (vs : List Value) → AreIn p w (a_place int_type ∷ st) vs → T had st ts → Well (λ move. talk.take_gate_step p g move (with_ ts vs) below s)
  take had e st ts vs h r =
      operand (a_place int_type) st ts vs (λ move. talk.with_gate p g move (λ base f. talk.gate_taken p g move (talk.gate_number p g move base s) base f below s)) h
      (λ c others a d. place_in p w int_type c (λ y. Well (λ move. talk.with_gate p g move (λ base f. talk.gate_taken p g move (talk.gate_number p g move base s) base f below s) y (with_ ts others))) a
      (λ base lies. gates.take_well p sound w gl g s mt gt st (with_ ts others) below (frame_with st ts others d) bt base lies (its had e st ts r)))

  await : (had : List ℕ) → ids_of f0.places ≡ had → (st : List Slot) (ts : List Task) (vs : List Value) → AreIn p w (a_place int_type ∷ st) vs → T had st ts → Well (λ move. talk.await_gate_step p g move (with_ ts vs) below s)
  await had e st ts vs h r =
      operand (a_place int_type) st ts vs (λ move. talk.with_gate p g move (λ base f. talk.gate_awaited p g move (talk.gate_number p g move base s) base f below s)) h
      (λ c others a d. place_in p w int_type c (λ y. Well (λ move. talk.with_gate p g move (λ base f. talk.gate_awaited p g move (talk.gate_number p g move base s) base f below s) y (with_ ts others))) a
      (λ base lies. gates.await_well p sound w gl g s mt gt st (with_ ts others) below (frame_with st ts others d) bt base lies (its had e st ts r)))

  add : (had : List ℕ) → ids_of f0.places ≡ had → (st : List Slot) (ts : List Task) (vs : List Value) → AreIn p w (a_value int_type ∷ a_place int_type ∷ st) vs → T had (a_value int_type ∷ st) ts
      → Well (λ move. talk.add_gate_step p g move (with_ ts vs) below s)
  add had e st ts vs h r =
      pair (a_place int_type) (a_value int_type) st ts vs (λ move. talk.gate_adds p g move below s) h
      (λ c x others a b d. place_in p w int_type c (λ y. Well (λ move. talk.gate_adds p g move below s y x (with_ ts others))) a
      (λ base lies. one_scalar p w (leaf int_type) x (λ y. Well (λ move. talk.gate_adds p g move below s (cell.pointer base ∷ []) y (with_ ts others))) b
      (λ y k. whole_in p w integer.Int y (λ z. Well (λ move. talk.gate_adds p g move below s (cell.pointer base ∷ []) (z ∷ []) (with_ ts others))) k
      (λ n. gates.add_well p sound w gl g s mt gt st (with_ ts others) below (frame_with st ts others d) bt base lies (its had e (a_value int_type ∷ st) ts r) n))))

  step : (had : List ℕ) (st : List Slot) (ts : List Task) → T had st ts → ids_of f0.places ≡ had → StartsCommunication ts → (vs : List Value) (ts0 : List Task) → AreIn p w st vs → Well (λ move. go.tasks_step p choices move g ts (with_ ts0 vs) below s)
  step _ _ _ (send_typed had st t u ts i r) e l vs ts0 h = send had e st t u ts vs i h r
  step _ _ _ (receive_typed had st t u true ts i r) e l vs ts0 h = receive had e st t u 2 (λ move. talk.one_or_two p g move true) (λ move. refl) ts vs i h r
  step _ _ _ (receive_typed had st t u false ts i r) e l vs ts0 h = receive had e st t u 1 (λ move. talk.one_or_two p g move false) (λ move. refl) ts vs i h r
  step _ _ _ (close_typed had st t ts i r) e l vs ts0 h = let u = ways.channel_of (underlying p.names t) i in close had e st t u.0 ts vs u.1 h r
  step _ _ _ (select_typed had ss st label cases n body ts c k) e l vs ts0 h = select had e ss st cases n false None body ts vs (λ move. refl) (λ others d. tt) c k h
  step _ _ _ (select_default_typed had ss st label cases n body ts c k r) e l vs ts0 h =
      select had e ss st cases n true (Some (all_opened body)) body ts vs (λ move. refl) (λ others d. its had e st (all_opened body ts) r) c k h
  step _ _ _ (take_typed had st ts r) e l vs ts0 h = take had e st ts vs h r
  step _ _ _ (add_typed had st ts r) e l vs ts0 h = add had e st ts vs h r
  step _ _ _ (await_typed had st ts r) e l vs ts0 h = await had e st ts vs h r
  step _ _ _ (drop_typed had ss st n ts c x) e l vs ts0 h = step had st ts x e l (drop n vs) ts0 (drops_off p w ss st n vs c h)
  step _ _ _ (push_typed had st t v ts c x) e l vs ts0 h = step had (a_value t ∷ st) ts x e l (v ∷ vs) ts0 (c, h)
  step _ _ _ (leave_typed had st label ts x) e l vs ts0 h = step had st ts x e l vs ts0 h
  step _ _ _ _ e l vs ts0 h = absurd l

pub reached : CommunicationsKeep
reached p choices g fr below s sound wf e l =
    let q = goroutine_at p wf.world s.goroutines g (record { frames = fr ∷ below; waiting = able }) wf.goroutines_typed e in
    subst (λ o. GoesWell p g (λ move. go.goroutine_step p choices move g o s)) (sym e)
    (step p sound choices g wf.world wf.globals_lie s wf.memory_typed wf.goroutines_typed fr q.0.0 below q.0.1 q.1 (ids_of fr.places) q.0.0 fr.tasks q.0.2 refl l fr.values fr.tasks q.0.1.values_typed)

-- a goroutine that waits steps so
by_waits : (p : CoreProgram) (choices : List ℕ) (move : Move) (g : ℕ) (w : Waiting) (f : Frame) (below : List Frame) (s : State) → (w ≡ able → ⊥) → go.by_waiting p choices move g w f below s ≡ talk.waiting_step p g move w f below s
by_waits p choices move g able f below s h = absurd (h refl)
by_waits p choices move g (task.at_channels os) f below s h = refl
by_waits p choices move g (task.at_take base) f below s h = refl
by_waits p choices move g (task.at_await base) f below s h = refl

pub waiting : WaitingKeeps
waiting p choices move g fr below w s sound wf e n =
    let q = goroutine_at p wf.world s.goroutines g (record { frames = fr ∷ below; waiting = w }) wf.goroutines_typed e in
    subst (λ o. KeepsIfThere p (go.goroutine_step p choices move g o s)) (sym e)
    (subst (KeepsIfThere p) (sym (by_waits p choices move g w fr below s n))
    (gates.waiting_keeps p sound wf.world wf.globals_lie g s wf.memory_typed wf.goroutines_typed q.0.0 fr below q.0.1 q.1 move w q.0.2 n))

pub ready : ReadyGoes
ready p choices g fr below w s sound wf e n r =
    let q = goroutine_at p wf.world s.goroutines g (record { frames = fr ∷ below; waiting = w }) wf.goroutines_typed e in
    let k = gates.waiting_goes p sound wf.world wf.globals_lie g s wf.memory_typed wf.goroutines_typed q.0.0 fr below q.0.1 q.1 w q.0.2 n r in
    subst (λ o. Goes g (λ move. go.goroutine_step p choices move g o s)) (sym e)
    (record { move = k.move; is_its = k.is_its; is_there = subst IsThere (sym (by_waits p choices k.move g w fr below s n)) k.is_there })

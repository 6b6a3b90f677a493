-- The numbers that a communication takes: one where it chooses among several ways that are ready, else none.
use Rattle.std.proofs.Common.{refl, ap}
use Rattle.std.specs.Prelude.{◌≡◌, ℕ, zero, suc, ◌+◌, ◌%◌, ◌==◌, ℤ, pos, negsuc, List, [], ◌∷◌, length, Bool, true, false, if◌then◌else◌, nat_lt, Option, Some, None, slice_get, get_or}
use Rattle.go_core.specs.Memory as cell
use Rattle.go_core.specs.Memory.{Value, Channel}
use Rattle.go_core.specs.CoreTree.{CoreProgram}
use Rattle.go_core.specs.Goroutine as gr
use Rattle.go_core.specs.Goroutine.{Task, Frame, Offer, sending, receiving, Waiting, State, Move, moved}
use Rattle.go_core.specs.Communicate as t
use Rattle.go_laws.specs.Selecting.{several}
use Rattle.go_laws.specs.Numbers.{number_at}
use Rattle.go_laws.proofs.Combine.{Taken, if_taken, and_taken}

-- one more, where it chooses
abbrev pub taken_after : Bool → ℕ → ℕ
taken_after true n = suc n
taken_after false n = n

-- the choices agree on the next number, where it chooses
abbrev pub Agree : Bool → ℕ → List ℕ → List ℕ → Type 0
Agree true n choices choices' = number_at choices n ≡ number_at choices' n
Agree false n choices choices' = Unit {0}

resumed_at : (vs : List Value) (after : List Task) (j : ℕ) (fs : List Frame) (s : State)
    → Taken s.taken (t.resumed_at vs after j fs s)
resumed_at vs after j [] s = tt
resumed_at vs after j (fr ∷ below) s = refl

module _ (p : CoreProgram) (n : ℕ) (move : Move) where
  to_partner : (name : ℕ) (x : Value) (o : Option Offer) (s : State) → Taken s.taken (t.to_partner p n move name x o s)
  to_partner name x None s = tt
  to_partner name x (Some (sending c' v u after)) s = tt
  to_partner name x (Some (receiving c' z u j after)) s = if_taken s.taken (t.same_name c' name) (t.resumed (t.received j x true) after move.partner s) None (resumed_at (t.received j x true) after move.partner (t.frames_of (slice_get s.goroutines move.partner)) s) tt

  from_partner : (name j : ℕ) (after : List Task) (o : Option Offer) (fr : Frame) (below : List Frame) (u : ℕ) (s : State)
      → Taken s.taken (t.from_partner p n move name j after o fr below u s)
  from_partner name j after None fr below u s = tt
  from_partner name j after (Some (receiving c' z u' j' after')) fr below u s = tt
  from_partner name j after (Some (sending c' x u' after')) fr below u s =
      let s' = moved n (t.done_with (t.received j x true) after fr ∷ below) (1 + u) s in
      if_taken s.taken (t.same_name c' name) (t.resumed [] after' move.partner s') None (resumed_at [] after' move.partner (t.frames_of (slice_get s'.goroutines move.partner)) s') tt

  sent : (name : ℕ) (x : Value) (u : ℕ) (after : List Task) (ch : Channel) (fr : Frame) (below : List Frame) (s : State)
      → Taken s.taken (t.sent p n move name x u after ch fr below s)
  sent name x u after ch fr below s =
      let s' = moved n (t.done_with [] after fr ∷ below) (1 + u) s in
      if_taken s.taken ch.closed _ _ refl
      (if_taken s.taken (nat_lt (length ch.values) ch.capacity) _ _ refl
      (if_taken s.taken (ch.capacity == 0) _ None (to_partner name x (t.partner_offer n move s) s') tt))

  taken : (vs : List Value) (name : ℕ) (z : Value) (u j : ℕ) (after : List Task) (ch : Channel) (fr : Frame) (below : List Frame) (s : State)
      → Taken s.taken (t.taken_from p n move vs name z u j after ch fr below s)
  taken (x ∷ xs) name z u j after ch fr below s = refl
  taken [] name z u j after ch fr below s =
      if_taken s.taken ch.closed _ _ refl
      (if_taken s.taken (ch.capacity == 0) _ None (from_partner name j after (t.partner_offer n move s) fr below u s) tt)

  on_channel : (name : Option ℕ) (s : State) (next : ℕ → Channel → Option State) → ((j : ℕ) (ch : Channel) → Taken s.taken (next j ch))
      → Taken s.taken (t.on_channel p n move name s next)
  on_channel None s next h = tt
  on_channel (Some name) s next h = and_taken s.taken (slice_get s.memory.channels name) (next name) (h name)

  offer : (o : Option Offer) (fr : Frame) (below : List Frame) (s : State)
      → Taken s.taken (t.offer_taken p n move o fr below s)
  offer None fr below s = tt
  offer (Some (sending c' x u after)) fr below s = on_channel c' s _ λ name ch. sent name x u after ch fr below s
  offer (Some (receiving c' z u j after)) fr below s = on_channel c' s _ λ name ch. taken ch.values name z u j after ch fr below s

  waits : (w : Waiting) (u : ℕ) (fr : Frame) (below : List Frame) (s : State)
      → Taken s.taken (t.waits p n move w u fr below s)
  waits w u fr below s = refl

  -- one where several are ready
  pub reached : (choices : List ℕ) (d : Option (List Task → List Task)) (u : ℕ) (os : List Offer) (ws : List ℕ) (fr : Frame) (below : List Frame) (s : State)
      → Taken (taken_after (several ws) s.taken) (t.reached p n move choices d u os ws fr below s)
  reached choices (Some d) u os [] fr below s = refl
  reached choices None u os [] fr below s = refl
  reached choices d u os (w ∷ []) fr below s = offer (slice_get os w) fr below (record s { units = s.units + u })
  reached choices d u os (v ∷ w ∷ ws) fr below s =
      let s' : State = record s { units = s.units + u; taken = suc s.taken } in
      offer (slice_get os (get_or (v ∷ w ∷ ws) (get_or choices s.taken 0 % length (v ∷ w ∷ ws)) v)) fr below s'

  -- the way that the next number says
  pub chosen : (choices : List ℕ) (d : Option (List Task → List Task)) (u : ℕ) (os : List Offer) (v w : ℕ) (ws : List ℕ) (fr : Frame) (below : List Frame) (s : State)
      → t.reached p n move choices d u os (v ∷ w ∷ ws) fr below s
      ≡ t.way_taken p n move (get_or (v ∷ w ∷ ws) (number_at choices s.taken % length (v ∷ w ∷ ws)) v) os fr below (record s { units = s.units + u; taken = suc s.taken })
  chosen choices (Some d) u os v w ws fr below s = refl
  chosen choices None u os v w ws fr below s = refl

  -- the same with choices that agree
  pub agreed : (choices choices' : List ℕ) (d : Option (List Task → List Task)) (u : ℕ) (os : List Offer) (ws : List ℕ) (fr : Frame) (below : List Frame) (s : State)
      → Agree (several ws) s.taken choices choices' → t.reached p n move choices d u os ws fr below s ≡ t.reached p n move choices' d u os ws fr below s
  agreed choices choices' (Some d) u os [] fr below s h = refl
  agreed choices choices' None u os [] fr below s h = refl
  agreed choices choices' (Some d) u os (w ∷ []) fr below s h = refl
  agreed choices choices' None u os (w ∷ []) fr below s h = refl
  agreed choices choices' (Some d) u os (v ∷ w ∷ ws) fr below s h =
      ap (λ k. t.way_taken p n move (get_or (v ∷ w ∷ ws) (k % length (v ∷ w ∷ ws)) v) os fr below (record s { units = s.units + u; taken = suc s.taken })) h
  agreed choices choices' None u os (v ∷ w ∷ ws) fr below s h =
      ap (λ k. t.way_taken p n move (get_or (v ∷ w ∷ ws) (k % length (v ∷ w ∷ ws)) v) os fr below (record s { units = s.units + u; taken = suc s.taken })) h

  -- ---- one way alone

  reached_one : (choices : List ℕ) (o : Offer) (b : Bool) (fr : Frame) (below : List Frame) (s : State)
      → Taken s.taken (t.reached p n move choices None 0 (o ∷ []) (if b then (0 ∷ []) else []) fr below s)
  reached_one choices o true fr below s = offer (Some o) fr below (record s { units = s.units + 0 })
  reached_one choices o false fr below s = refl

  pub single : (choices : List ℕ) (o : Offer) (fr : Frame) (below : List Frame) (s : State)
      → Taken s.taken (t.reach p n move choices None 0 (o ∷ []) fr below s)
  single choices o fr below s = reached_one choices o (t.offer_ready n s o) fr below s

  agreed_one : (choices choices' : List ℕ) (o : Offer) (b : Bool) (fr : Frame) (below : List Frame) (s : State)
      → t.reached p n move choices None 0 (o ∷ []) (if b then (0 ∷ []) else []) fr below s ≡ t.reached p n move choices' None 0 (o ∷ []) (if b then (0 ∷ []) else []) fr below s
  agreed_one choices choices' o true fr below s = refl
  agreed_one choices choices' o false fr below s = refl

  pub single_same : (choices choices' : List ℕ) (o : Offer) (fr : Frame) (below : List Frame) (s : State)
      → t.reach p n move choices None 0 (o ∷ []) fr below s ≡ t.reach p n move choices' None 0 (o ∷ []) fr below s
  single_same choices choices' o fr below s = agreed_one choices choices' o (t.offer_ready n s o) fr below s

  -- ---- close, gates, and goroutines that wait

  closed_at : (name : ℕ) (ch : Channel) (fr : Frame) (below : List Frame) (s : State)
      → Taken s.taken (t.closed_at p n move name ch fr below s)
  closed_at name ch fr below s = if_taken s.taken ch.closed _ _ refl refl

  pub closes : (name : Option ℕ) (fr : Frame) (below : List Frame) (s : State)
      → Taken s.taken (t.close_named p n move name fr below s)
  closes None fr below s = refl
  closes (Some name) fr below s = on_channel (Some name) s _ λ j ch. closed_at j ch fr below s

  pub takes_gate : (x : Option ℤ) (b : ℕ) (fr : Frame) (below : List Frame) (s : State)
      → Taken s.taken (t.gate_taken p n move x b fr below s)
  takes_gate None b fr below s = tt
  takes_gate (Some (pos zero)) b fr below s = refl
  takes_gate (Some (pos (suc j))) b fr below s = waits (gr.at_take b) 0 fr below s
  takes_gate (Some (negsuc j)) b fr below s = waits (gr.at_take b) 0 fr below s

  pub awaits_gate : (x : Option ℤ) (b : ℕ) (fr : Frame) (below : List Frame) (s : State)
      → Taken s.taken (t.gate_awaited p n move x b fr below s)
  awaits_gate None b fr below s = tt
  awaits_gate (Some (pos zero)) b fr below s = refl
  awaits_gate (Some (pos (suc j))) b fr below s = waits (gr.at_await b) 0 fr below s
  awaits_gate (Some (negsuc j)) b fr below s = waits (gr.at_await b) 0 fr below s

  adds_gate : (x : Option ℤ) (j : ℤ) (b : ℕ) (fr : Frame) (below : List Frame) (s : State)
      → Taken s.taken (t.gate_added p n move x j b fr below s)
  adds_gate None j b fr below s = tt
  adds_gate (Some x) j b fr below s = refl

  pub gate_adds : (below : List Frame) (s : State) (x y : Value) (fr : Frame)
      → Taken s.taken (t.gate_adds p n move below s x y fr)
  gate_adds below s (cell.pointer b ∷ []) (cell.whole j ∷ []) fr = adds_gate _ j b fr below s
  gate_adds below s _ _ fr = tt

  gate_again : (x next : Option ℤ) (b : ℕ) (fr : Frame) (below : List Frame) (s : State)
      → Taken s.taken (t.gate_again p n move x next b fr below s)
  gate_again (Some (pos zero)) None b fr below s = refl
  gate_again (Some (pos zero)) (Some j) b fr below s = refl
  gate_again (Some (pos (suc j))) next b fr below s = tt
  gate_again (Some (negsuc j)) next b fr below s = tt
  gate_again None next b fr below s = tt

  way_if_ready : (o : Option Offer) (os : List Offer) (fr : Frame) (below : List Frame) (s : State)
      → Taken s.taken (t.way_if_ready p n move o os fr below s)
  way_if_ready None os fr below s = tt
  way_if_ready (Some o) os fr below s = if_taken s.taken (t.offer_ready n s o) _ None (offer (Some o) fr below s) tt

  pub waiting : (w : Waiting) (fr : Frame) (below : List Frame) (s : State)
      → Taken s.taken (t.waiting_step p n move w fr below s)
  waiting gr.able fr below s = tt
  waiting (gr.at_channels os) fr below s = way_if_ready (slice_get os move.way) os fr below s
  waiting (gr.at_take b) fr below s = gate_again (t.gate_number p n move b s) (Some (pos 1)) b fr below s
  waiting (gr.at_await b) fr below s = gate_again (t.gate_number p n move b s) None b fr below s

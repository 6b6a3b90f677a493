-- The ways of a select's clauses, and of a send and of a receive alone.
use Rattle.std.proofs.Common.{refl, sym, ap, ◌∙◌, subst}
use Rattle.std.specs.Prelude.{◌≡◌, ℕ, suc, List, [], ◌∷◌, ◌++◌, Option, Some, None, slice_get, length, option_and_then}
use Rattle.go_type.specs.Tree as ty
use Rattle.go_type.specs.Tree.{Ty}
use Rattle.go_type.specs.Underlying.{underlying}
use Rattle.go_core.specs.Untagged.{untagged}
use Rattle.go_core.specs.Layout.{shape_of, weight}
use Rattle.go_core.specs.Memory.{Value, zeros}
use Rattle.go_core.specs.CoreTree.{Var, Stmts, CoreProgram}
use Rattle.go_core.specs.SoundNode.{types_of_vars, IsChannel}
use Rattle.go_core.specs.Sound.{IsChannelOf, ReceivesInto}
use Rattle.go_core.specs.SoundProgram.{Sound}
use Rattle.go_core.specs.Opened.{all_opened}
use Rattle.go_core.specs.Goroutine as task
use Rattle.go_core.specs.Goroutine.{Task, Case, Frame, Offer, sending, receiving, Move}
use Rattle.go_core.specs.Communicate as talk
use Rattle.go_core.specs.Communicate.{named_channel}
use Rattle.go_core.specs.Leaves.{leaf_of, leaves_of}
use Rattle.go_core.specs.Typed.{World, IsOf, Lists}
use Rattle.go_core.specs.TasksTyped.{clause_first, TasksTyped, CasesTyped, no_case, send_case, receive_case}
use Rattle.go_core.specs.Applies.{Slot, values_of_types, pushed_slots, AreIn}
use Rattle.go_core.specs.WellFormed.{ids_of, Remains, ChannelFits, received_types, OffersTyped}
use Rattle.go_core.proofs.LeavesLemmas.{zeros_of}
use Rattle.go_core.proofs.TypedScalars.{one_scalar, down, channel_in}
use Rattle.go_core.proofs.CommunicationOpened.{opened_first}

pub channel_of : (u : Ty) → IsChannel u → (t : Ty) × IsChannelOf u t
channel_of (ty.chan d t) h = (t, refl)
channel_of _ h = absurd h

-- what comes first in a clause, before what remains
first_is : (vars : List Var) (body : Stmts) (rest : List Task) → clause_first vars body [] ++ rest ≡ clause_first vars body rest
first_is [] body rest = opened_first rest body
first_is (v ∷ vars) body rest = ap (λ l. task.bind_vars (v ∷ vars) ∷ l) (opened_first rest body)

module _ (p : CoreProgram) (w : World) where
  pub received_are : (u : Ty) (vars : List Var) → ReceivesInto u vars → types_of_vars vars ≡ received_types p w (length vars) u
  received_are u [] h = refl
  received_are u (v ∷ []) h = ap (λ t. t ∷ []) h
  received_are u (v ∷ x ∷ []) h = ap (λ t. t ∷ x.type_ ∷ []) h.0 ∙ ap (λ t. u ∷ t ∷ []) h.1
  received_are u (v ∷ x ∷ y ∷ vars) h = absurd h

  -- a channel's name
  pub record Named (c : Value) (u : Ty) : Type 0 where
    pub name : Option ℕ
    pub is_named : named_channel c ≡ Some name
    pub fits : ChannelFits p w name u

  named_by : (v u : Ty) (c : Value) → IsChannelOf v u → Lists p w (leaves_of p.names v) c → Named c u
  named_by (ty.chan d t) u c i h =
      one_scalar p w (leaf_of (ty.chan d t)) c (λ y. Named y u) h
      (λ y a. channel_in p w d t y (λ z. Named (z ∷ []) u) a (record { name = None; is_named = refl; fits = tt })
      (λ name e. record { name = Some name; is_named = refl; fits = subst (λ v. slice_get w.channels name ≡ Some (untagged v)) i e }))
  named_by _ u c i h = absurd i

  pub named : Sound p → (t u : Ty) (c : Value) → IsChannelOf (underlying p.names t) u → IsOf p w t c → Named c u
  named sound t u c i h = named_by (underlying p.names t) u c i (down p w sound.names_set t (underlying p.names t) c refl h)

  -- its zero value
  pub zero_of : (u : Ty) → IsOf p w u (zeros (shape_of p.names u))
  zero_of u = zeros_of p w p.names u

module _ (p : CoreProgram) (g : ℕ) where
  -- the shape of a channel's elements
  pub shape_is : (move : Move) (v u : Ty) → IsChannelOf v u → talk.shape_in p g move v ≡ shape_of p.names u
  shape_is move (ty.chan d t) u h = ap (shape_of p.names) h
  shape_is move _ u h = absurd h

  pub count_is : (move : Move) (cs : List Case) → talk.case_count p g move cs ≡ length cs
  count_is move [] = refl
  count_is move (c ∷ cs) = ap suc (count_is move cs)

  tasks_are : (move : Move) (vars : List Var) (body : Stmts) → talk.clause_tasks p g move vars body ≡ clause_first vars body []
  tasks_are move [] body = refl
  tasks_are move (v ∷ vars) body = refl

  abbrev pub a_send : Ty → Option ℕ → Value → List Task → Offer
  a_send u c x after = sending c x (weight (shape_of p.names u)) after

  abbrev pub a_receive : Ty → Option ℕ → ℕ → List Task → Offer
  a_receive u c n after = receiving c (zeros (shape_of p.names u)) (weight (shape_of p.names u)) n after

  pub send_is : (move : Move) (t u : Ty) (c : Option ℕ) (x : Value) (after : List Task) → IsChannelOf (underlying p.names t) u → talk.send_offer p g move t c x after ≡ a_send u c x after
  send_is move t u c x after i = ap (λ sh. sending c x (weight sh) after) (shape_is move (underlying p.names t) u i)

  pub receive_is : (move : Move) (t u : Ty) (c : Option ℕ) (n : ℕ) (after : List Task) → IsChannelOf (underlying p.names t) u → talk.receive_offer p g move t c n after ≡ a_receive u c n after
  receive_is move t u c n after i = ap (λ sh. receiving c (zeros sh) (weight sh) n after) (shape_is move (underlying p.names t) u i)

  module _ (sound : Sound p) (w : World) (fr : Frame) where
    pub record SelectOffers (slots : List Slot) (cases : List Case) (vs : List Value) : Type 0 where
      pub offers : List Offer
      pub are : (move : Move) → talk.offers_from p g move cases vs ≡ Some offers
      pub typed : OffersTyped p w fr slots offers

    abbrev pub C : List ℕ → List Slot → List Task → List Slot → List Case → Type 0
    C had slots ts ss cases = CasesTyped p w (types_of_vars fr.results) had slots ts ss cases

    abbrev T : List ℕ → List Slot → List Task → Type 0
    T had st ts = TasksTyped p w (types_of_vars fr.results) had st ts

    send_first : (slots : List Slot) (t u : Ty) (body : Stmts) (cs : List Case) (c x : Value) (vs : List Value) → IsChannelOf (underlying p.names t) u → Named p w c u → IsOf p w u x → Remains p w fr slots (all_opened body [] ++ fr.tasks) → SelectOffers slots cs vs
        → SelectOffers slots (record { kind = task.case_sends t; body = body } ∷ cs) (c ∷ x ∷ vs)
    send_first slots t u body cs c x vs i n h r q = record {
      offers = a_send u n.name x (all_opened body []) ∷ q.offers;
      are = λ move.
          ap (λ o. talk.offer_before p g move (option_and_then (λ name. Some (talk.send_offer p g move t name x (talk.clause_tasks p g move [] body))) o) (talk.offers_from p g move cs vs)) n.is_named
          ∙ ap (λ o. talk.offer_before p g move (Some (talk.send_offer p g move t n.name x (talk.clause_tasks p g move [] body))) o) (q.are move)
          ∙ ap (λ o. Some (o ∷ q.offers)) (send_is move t u n.name x (all_opened body []) i);
      typed = ((u, n.fits, h, r), q.typed);
    }

    receive_first : (slots : List Slot) (t u : Ty) (vars : List Var) (body : Stmts) (cs : List Case) (c : Value) (vs : List Value) → IsChannelOf (underlying p.names t) u → Named p w c u
        → Remains p w fr (pushed_slots (values_of_types (received_types p w (length vars) u)) slots) (clause_first vars body [] ++ fr.tasks) → SelectOffers slots cs vs
        → SelectOffers slots (record { kind = task.case_receives t vars; body = body } ∷ cs) (c ∷ vs)
    receive_first slots t u vars body cs c vs i n r q = record {
      offers = a_receive u n.name (length vars) (clause_first vars body []) ∷ q.offers;
      are = λ move.
          ap (λ o. talk.offer_before p g move (option_and_then (λ name. Some (talk.receive_offer p g move t name (length vars) (talk.clause_tasks p g move vars body))) o) (talk.offers_from p g move cs vs)) n.is_named
          ∙ ap (λ o. talk.offer_before p g move (Some (talk.receive_offer p g move t n.name (length vars) (talk.clause_tasks p g move vars body))) o) (q.are move)
          ∙ ap (λ o. Some (o ∷ q.offers)) (ap (λ l. talk.receive_offer p g move t n.name (length vars) l) (tasks_are move vars body) ∙ receive_is move t u n.name (length vars) (clause_first vars body []) i);
      typed = ((u, n.fits, zero_of p w u, r), q.typed);
    }

    pub select_offers : (had : List ℕ) (slots : List Slot) (ts : List Task) (ss : List Slot) (cases : List Case) → C had slots ts ss cases → ids_of fr.places ≡ had → fr.tasks ≡ ts → (vs : List Value) → AreIn p w ss vs → SelectOffers slots cases vs
    select_offers _ _ _ _ _ (no_case had st ts) e f [] h = record { offers = []; are = λ move. refl; typed = tt }
    select_offers _ _ _ _ _ (no_case had st ts) e f (v ∷ vs) h = absurd h
    select_offers _ _ _ _ _ (send_case had st ss ts t u body cs i b k) e f [] h = absurd h
    select_offers _ _ _ _ _ (send_case had st ss ts t u body cs i b k) e f (c ∷ []) h = absurd h.1
    select_offers _ _ _ _ _ (send_case had st ss ts t u body cs i b k) e f (c ∷ x ∷ vs) h =
        send_first st t u body cs c x vs i (named p w sound t u c i h.0) h.1.0
        (subst (λ l. T (ids_of fr.places) st l) (sym (opened_first fr.tasks body)) (subst (λ l. T (ids_of fr.places) st (all_opened body l)) (sym f) (subst (λ is. T is st (all_opened body ts)) (sym e) b)))
        (select_offers had st ts ss cs k e f vs h.1.1)
    select_offers _ _ _ _ _ (receive_case had st ss ts t u vars body cs i r a b k) e f [] h = absurd h
    select_offers _ _ _ _ _ (receive_case had st ss ts t u vars body cs i r a b k) e f (c ∷ vs) h =
        receive_first st t u vars body cs c vs i (named p w sound t u c i h.0)
        (subst (λ us. T (ids_of fr.places) (pushed_slots (values_of_types us) st) (clause_first vars body [] ++ fr.tasks)) (received_are p w u vars r)
        (subst (λ l. T (ids_of fr.places) (pushed_slots (values_of_types (types_of_vars vars)) st) l) (sym (first_is vars body fr.tasks))
        (subst (λ l. T (ids_of fr.places) (pushed_slots (values_of_types (types_of_vars vars)) st) (clause_first vars body l)) (sym f)
        (subst (λ is. T is (pushed_slots (values_of_types (types_of_vars vars)) st) (clause_first vars body ts)) (sym e) b))))
        (select_offers had st ts ss cs k e f vs h.1)

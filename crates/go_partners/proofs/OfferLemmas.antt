-- The ways of clauses, one after another.
use Rattle.std.proofs.Common.{◌≡◌, ◌<◌, ◌≤◌, refl, sym, ap, subst, ◌∙◌, ℕ, List, [], ◌∷◌, ◌++◌, append_assoc, append-nil, take, drop, length, arith}
use Rattle.std.specs.Prelude.{◌+◌, ◌-◌, Option, Some, None, option_map, option_and_then, Result, Ok, Err, IsErrAnd, get_or}
use Rattle.std.specs.Borrow.{Bor}
use Rattle.std.specs.Global.{Vec}
use Rattle.go_type.specs.Tree.{Ty}
use Rattle.go_core.specs.CoreTree as core
use Rattle.go_core.specs.CoreTree.{CoreProgram, Stmts, Var}
use Rattle.go_core.specs.CoreView.{communication_view, stmts_view}
use Rattle.go_core.specs.Communicate.{offer_before, offers_by, offers_from, clause_tasks, receive_offer}
use Rattle.go_core.specs.Goroutine.{Task, Offer, case_sends, case_receives, Move}
use Rattle.go_core.specs.Memory.{Value}
use Rattle.go_core.specs.Opened.{cases_of, case_kind, all_opened}
use Rattle.go_core.specs.declared.statement.Communication.{Communication}
use Rattle.go_core.specs.declared.statement.CoreCase.{CoreCase, out-CoreCase}
use Rattle.go_core.specs.declared.statement.CoreCases.{CoreCases, out-CoreCases}
use Rattle.go_state.specs.TasksSeen.{case_view, cases_from}
use Rattle.go_state.proofs.ListsLemmas.{case_is, cases_next, cases_end}
use Rattle.go_values.specs.declared.values.scalar.Scalar.{Scalar}
use Rattle.go_state.specs.declared.state.state.Offer as held
use Rattle.std.proofs.lemmas.List.{length-drop, length-map, take_all}
use Rattle.go_core.specs.declared.node.Var as held_var
use Rattle.go_core.specs.CoreView.{var_of}
use Rattle.go_state.specs.StateSeen.{bound_first, vars_of}
use Rattle.go_values.specs.declared.operators.did.Stop.{Stop}
use Rattle.go_values.specs.declared.operators.did.Stop.TheVariants as stop
use Rattle.go_partners.specs.Ways.{Lacks, IsOffer, IsWay, AreOffers, offers_by_first}
use Rattle.go_partners.specs.declared.selects.offers.Way.{Way}

pub clause_of_case : (ts : List Ty) (x : CoreCase) (y : Communication) → (out-CoreCase x).communication ≡ y
    → cases_of (case_view ts x core.no_cases) ≡ record { kind = case_kind (communication_view ts y); body = stmts_view ts (out-CoreCase x).body } ∷ []
clause_of_case ts x y h =
    ap cases_of (case_is ts x core.no_cases ∙ ap (λ (z : Communication). core.case (communication_view ts z) (stmts_view ts (out-CoreCase x).body) core.no_cases) h)

-- what a proof reads past the end of a list of values
abbrev pub nothing : Bor (List Scalar)
nothing = record { ref_ptr = (0, 0); now = [] }

-- the first two of a list
pub two_first : {A : Type 0} (xs : List A) (d : A) → 2 ≤ length xs → xs ≡ get_or xs 0 d ∷ get_or xs 1 d ∷ drop 2 xs
two_first {A} [] d l = absurd (omega (arith, l))
two_first {A} (a ∷ []) d l = absurd (omega (arith, l))
two_first {A} (a ∷ b ∷ xs) d l = refl

pub one_first : {A : Type 0} (xs : List A) (d : A) → 1 ≤ length xs → xs ≡ get_or xs 0 d ∷ drop 1 xs
one_first {A} [] d l = absurd (omega (arith, l))
one_first {A} (a ∷ xs) d l = refl

-- from a place on
pub rest_from : {A : Type 0} (n : ℕ) (xs : List A) → take (length xs - n) (drop n xs) ≡ drop n xs
rest_from {A} n xs = take_all (length xs - n) (drop n xs) (omega (arith, length-drop n xs))

module _ (p : CoreProgram) (g : ℕ) (move : Move) where
  pub before_found : (o : Offer) (r : Option (List Offer)) → offer_before p g move (Some o) r ≡ option_map (λ os. o ∷ os) r
  before_found o None = refl
  before_found o (Some os) = refl

  -- too few operands
  pub short_send : (t : Ty) (body : Stmts) (vs : List Value) (others : List Value → Option (List Offer)) → length vs < 2 → offers_by p g move (case_sends t) body vs others ≡ None
  short_send t body [] others l = refl
  short_send t body (v ∷ []) others l = refl
  short_send t body (v ∷ w ∷ vs) others l = absurd (omega (arith, l))

  pub short_receive : (t : Ty) (vars : List Var) (body : Stmts) (vs : List Value) (others : List Value → Option (List Offer)) → length vs ≡ 0 → offers_by p g move (case_receives t vars) body vs others ≡ None
  short_receive t vars body [] others l = refl
  short_receive t vars body (v ∷ vs) others l = absurd (omega (arith, l))

  pub tasks_of_clause : (vs : List Var) (body : Stmts) → clause_tasks p g move vs body ≡ bound_first vs (all_opened body [])
  tasks_of_clause [] body = refl
  tasks_of_clause (v ∷ vs) body = refl

  -- a receive, with its variables as they are held
  pub received_offer : (ts : List Ty) (t : Ty) (vs : List held_var.Var) (body : Stmts) (name : Option (Option ℕ))
      → option_and_then (λ n. Some (receive_offer p g move t n (length (vars_of ts vs)) (clause_tasks p g move (vars_of ts vs) body))) name
      ≡ option_and_then (λ n. Some (receive_offer p g move t n (length vs) (bound_first (vars_of ts vs) (all_opened body [])))) name
  received_offer ts t vs body name =
      ap (λ (k : ℕ). option_and_then (λ n. Some (receive_offer p g move t n k (clause_tasks p g move (vars_of ts vs) body))) name) (length-map vs (var_of ts))
      ∙ ap (λ (after : List Task). option_and_then (λ n. Some (receive_offer p g move t n (length vs) after)) name) (tasks_of_clause (vars_of ts vs) body)

-- ways that come before others
pub joined : (found : List Offer) (o : Offer) (r : Option (List Offer)) → option_map (λ os. found ++ os) (option_map (λ os. o ∷ os) r) ≡ option_map (λ os. (found ++ o ∷ []) ++ os) r
joined found o None = refl
joined found o (Some os) = ap Some (sym (append_assoc found (o ∷ []) os))

pub lacks_after : {A B : Type 0} (e : Stop) (f : A → B) (o : Option A) (q : Option B) → q ≡ option_map f o → Lacks e o → Lacks e q
lacks_after {A} {B} stop.NoMemory f o q h l = tt
lacks_after {A} {B} stop.NoStep f o q h l = h ∙ ap (option_map f) l
lacks_after {A} {B} (stop.Panics panic n) f o q h l = l

-- ---- the clauses in turn

module _ (p : CoreProgram) (g : ℕ) (move : Move) (ts : List Ty) (es : CoreCases) (xs : List CoreCase) (n : ℕ) where
  module _ (x : CoreCase) (vs : List Value) (h : xs ≡ (out-CoreCases es).items.items) (l : n < length xs) (e : x ≡ get_or xs n x) where
    -- the ways from a clause on are those of the clause, before those after it
    pub offers_at : offers_from p g move (cases_of (cases_from ts es n)) vs
        ≡ offers_by_first (offers_by p g move) (cases_of (case_view ts x core.no_cases)) vs (offers_from p g move (cases_of (cases_from ts es (n + 1))))
    offers_at =
        let rest = offers_from p g move (cases_of (cases_from ts es (n + 1))) in
        ap (λ (z : core.Cases). offers_from p g move (cases_of z) vs) (cases_next ts es xs n x h l e)
        ∙ sym (ap (λ (z : core.Cases). offers_by_first (offers_by p g move) (cases_of z) vs rest) (case_is ts x core.no_cases))

    pub offers_next : (found all : List Offer) (o : Offer) (ws : List Value) → all ≡ found ++ o ∷ []
        → ((others : List Value → Option (List Offer)) → offers_by_first (offers_by p g move) (cases_of (case_view ts x core.no_cases)) vs others ≡ option_map (λ os. o ∷ os) (others ws))
        → option_map (λ os. found ++ os) (offers_from p g move (cases_of (cases_from ts es n)) vs) ≡ option_map (λ os. all ++ os) (offers_from p g move (cases_of (cases_from ts es (n + 1))) ws)
    offers_next found all o ws a k =
        let rest = offers_from p g move (cases_of (cases_from ts es (n + 1))) in
        ap (option_map (λ os. found ++ os)) (offers_at ∙ k rest)
        ∙ joined found o (rest ws)
        ∙ ap (λ (os' : List Offer). option_map (λ os. os' ++ os) (rest ws)) (sym a)

    pub offers_lack : (r : Stop) (found : List Offer) (q : Option (List Offer)) → q ≡ option_map (λ os. found ++ os) (offers_from p g move (cases_of (cases_from ts es n)) vs)
        → ((others : List Value → Option (List Offer)) → Lacks r (offers_by_first (offers_by p g move) (cases_of (case_view ts x core.no_cases)) vs others)) → Lacks r q
    offers_lack r found q a k =
        let rest = offers_from p g move (cases_of (cases_from ts es (n + 1))) in
        lacks_after r (λ os. found ++ os) (offers_by_first (offers_by p g move) (cases_of (case_view ts x core.no_cases)) vs rest) q
        (a ∙ ap (option_map (λ os. found ++ os)) offers_at) (k rest)

  -- after the last clause no operand is left
  pub offers_end : (found : List Offer) → xs ≡ (out-CoreCases es).items.items → length xs ≤ n
      → option_map (λ os. found ++ os) (offers_from p g move (cases_of (cases_from ts es n)) []) ≡ Some found
  offers_end found h l =
      ap (λ (z : core.Cases). option_map (λ os. found ++ os) (offers_from p g move (cases_of z) [])) (cases_end ts es xs n h l) ∙ ap Some (append-nil found)

  pub offers_over : (found : List Offer) (vs : List Value) → xs ≡ (out-CoreCases es).items.items → length xs ≤ n → (length vs ≡ 0 → ⊥)
      → option_map (λ os. found ++ os) (offers_from p g move (cases_of (cases_from ts es n)) vs) ≡ None
  offers_over found [] h l k = absurd (k refl)
  offers_over found (v ∷ vs) h l k = ap (λ (z : core.Cases). option_map (λ os. found ++ os) (offers_from p g move (cases_of z) (v ∷ vs))) (cases_end ts es xs n h l)

-- before the first clause
pub before_all : (r : Option (List Offer)) → option_map (λ os. [] ++ os) r ≡ r
before_all None = refl
before_all (Some os) = refl

-- what `?` hands on
pub lacks_handed : (ts : List Ty) (r : Result (Vec held.Offer) Stop) (x : Stop) (o : Option (List Offer)) → IsErrAnd r (λ y. y ≡ x) → Lacks x o → AreOffers ts r o
lacks_handed ts (Ok a) x o i l = absurd i
lacks_handed ts (Err y) x o i l = subst (λ (z : Stop). Lacks z o) (sym i) l

pub offer_handed : (ts : List Ty) (r : Result held.Offer Stop) (x : Stop) (o : Option Offer) → IsErrAnd r (λ y. y ≡ x) → Lacks x o → IsOffer ts r o
offer_handed ts (Ok a) x o i l = absurd i
offer_handed ts (Err y) x o i l = subst (λ (z : Stop). Lacks z o) (sym i) l

pub way_handed : (ts : List Ty) (vs : List (Bor (List Scalar))) (r : Result Way Stop) (x : Stop) (ways : (List Value → Option (List Offer)) → Option (List Offer)) → IsErrAnd r (λ y. y ≡ x)
    → ((others : List Value → Option (List Offer)) → Lacks x (ways others)) → IsWay ts vs r ways
way_handed ts vs (Ok a) x ways i l = absurd i
way_handed ts vs (Err y) x ways i l = subst (λ (z : Stop). (others : List Value → Option (List Offer)) → Lacks z (ways others)) (sym i) l

-- no clause's own way, none of all
pub before_lacks : (p : CoreProgram) (g : ℕ) (move : Move) (x : Stop) (o : Option Offer) (r : Option (List Offer)) → Lacks x o → Lacks x (offer_before p g move o r)
before_lacks p g move stop.NoMemory o r l = tt
before_lacks p g move stop.NoStep o r l = ap (λ (q : Option Offer). offer_before p g move q r) l
before_lacks p g move (stop.Panics panic n) o r l = l

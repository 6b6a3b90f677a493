-- Operations that are reached, by their ways.
use Rattle.std.proofs.Common.{◌≡◌, refl, sym, ap, ◌∙◌, ℕ, suc, List, [], ◌∷◌, map, length}
use Rattle.std.specs.Prelude.{Option, None}
use Rattle.std.specs.Borrow.{Bor}
use Rattle.go_type.specs.Tree.{Ty}
use Rattle.go_core.specs.Communicate.{case_count, reach}
use Rattle.go_core.specs.CoreTree as core
use Rattle.go_core.specs.CoreTree.{CoreProgram}
use Rattle.go_core.specs.CoreView as view
use Rattle.go_core.specs.Goroutine.{Frame, State, Move, Offer}
use Rattle.go_core.specs.Opened.{cases_of}
use Rattle.go_core.specs.declared.statement.CoreCase.{CoreCase}
use Rattle.go_core.specs.declared.statement.CoreCases.{CoreCases, out-CoreCases}
use Rattle.go_core.specs.declared.statement.CoreStmts.{CoreStmts}
use Rattle.go_state.specs.TasksSeen.{case_view, cases_view}
use Rattle.go_state.proofs.ListsLemmas.{case_is, cases_whole}
use Rattle.go_values.specs.declared.operators.did.Stop.{Stop}
use Rattle.go_values.specs.declared.operators.did.Stop.TheVariants as stop
use Rattle.go_state.specs.StateSeen.{offer_of}
use Rattle.go_state.specs.declared.state.state.Offer as held
use Rattle.go_state.specs.FrameStepsFound.{NoStep}
use Rattle.go_partners.specs.Chosen.{default_of}
use Rattle.go_partners.specs.Ways.{Lacks}

-- what has no ways is no step
pub select_lacks : (x : Stop) (o : Option (List Offer)) (q : Option State) → (o ≡ None → q ≡ None) → Lacks x o → NoStep x q
select_lacks stop.NoMemory o q h l = tt
select_lacks stop.NoStep o q h l = h l
select_lacks (stop.Panics panic n) o q h l = l

module _ (p : CoreProgram) (g : ℕ) (move : Move) where
  counted : (ts : List Ty) (xs : List CoreCase) → case_count p g move (cases_of (view.cases_of (map (case_view ts) xs))) ≡ length xs
  counted ts [] = refl
  counted ts (x ∷ xs) = ap (λ (z : core.Cases). case_count p g move (cases_of z)) (case_is ts x (view.cases_of (map (case_view ts) xs))) ∙ ap suc (counted ts xs)

  pub cases_counted : (ts : List Ty) (es : CoreCases) → case_count p g move (cases_of (cases_view ts es)) ≡ length (out-CoreCases es).items.items
  cases_counted ts es = ap (λ (z : core.Cases). case_count p g move (cases_of z)) (cases_whole ts es) ∙ counted ts (out-CoreCases es).items.items

  -- the one way of an operation that is no select
  pub one_reached : (ts : List Ty) (choices : List ℕ) (d : Option (Bor CoreStmts)) (u : ℕ) (os : List held.Offer) (x : held.Offer) (o : Offer) (f : Frame) (below : List Frame) (s : State)
      → (d ≡ None) × (u ≡ 0) → os ≡ x ∷ [] → offer_of ts x ≡ o
      → reach p g move choices None 0 (o ∷ []) f below s ≡ reach p g move choices (default_of ts d) u (map (offer_of ts) os) f below s
  one_reached ts choices d u os x o f below s h k e =
      sym
      (ap (λ (b : Option (Bor CoreStmts)). reach p g move choices (default_of ts b) u (map (offer_of ts) os) f below s) h.0
      ∙ ap (λ (n : ℕ). reach p g move choices None n (map (offer_of ts) os) f below s) h.1
      ∙ ap (λ (ys : List held.Offer). reach p g move choices None 0 (map (offer_of ts) ys) f below s) k
      ∙ ap (λ (y : Offer). reach p g move choices None 0 (y ∷ []) f below s) e)

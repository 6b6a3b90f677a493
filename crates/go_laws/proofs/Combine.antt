-- How many numbers were taken after an optional state, and equal steps, through the words that take operands.
use Rattle.std.proofs.Common.{refl}
use Rattle.std.specs.Prelude.{◌≡◌, ℕ, List, [], ◌∷◌, Bool, true, false, if◌then◌else◌, Option, Some, None, option_and_then}
use Rattle.go_type.specs.Tree.{Ty}
use Rattle.go_core.specs.Memory as cell
use Rattle.go_core.specs.Memory.{Value}
use Rattle.go_core.specs.CoreTree.{CoreProgram}
use Rattle.go_core.specs.Did.{Did, gives, panics, no_step}
use Rattle.go_core.specs.Goroutine.{Frame, State, Popped, popped, Move}
use Rattle.go_core.specs.Frames as f
use Rattle.go_core.specs.Control as k
use Rattle.go_core.specs.Communicate as t

-- so many were taken in the state after a step, if there is one
abbrev pub Taken : ℕ → Option State → Type 0
Taken n None = Unit {0}
Taken n (Some s) = s.taken ≡ n

module _ (n : ℕ) where
  pub if_taken : (b : Bool) (x y : Option State) → Taken n x → Taken n y → Taken n (if b then x else y)
  if_taken true x y h l = h
  if_taken false x y h l = l

  pub and_taken : {A : Type 0} (o : Option A) (next : A → Option State) → ((x : A) → Taken n (next x)) → Taken n (option_and_then next o)
  and_taken None next h = tt
  and_taken (Some x) next h = h x

  pub popped_taken : (o : Option Popped) (fr : Frame) (next : List Value → Frame → Option State)
      → ((vs : List Value) (fr' : Frame) → Taken n (next vs fr')) → Taken n (f.with_popped o fr next)
  popped_taken None fr next h = tt
  popped_taken (Some p) fr next h = h _ _

  pub operands : (j : ℕ) (fr : Frame) (next : List Value → Frame → Option State)
      → ((vs : List Value) (fr' : Frame) → Taken n (next vs fr')) → Taken n (f.on_operands j fr next)
  operands j fr next h = popped_taken (popped j fr.values) fr next h

  one_taken : (next : Value → Frame → Option State) → ((x : Value) (fr : Frame) → Taken n (next x fr))
      → (vs : List Value) (fr : Frame) → Taken n (f.with_one next vs fr)
  one_taken next h [] fr = tt
  one_taken next h (x ∷ []) fr = h x fr
  one_taken next h (x ∷ y ∷ vs) fr = tt

  pub operand : (fr : Frame) (next : Value → Frame → Option State) → ((x : Value) (fr' : Frame) → Taken n (next x fr'))
      → Taken n (f.on_operand fr next)
  operand fr next h = operands 1 fr (f.with_one next) (one_taken next h)

  two_taken : (next : Value → Value → Frame → Option State) → ((x y : Value) (fr : Frame) → Taken n (next x y fr))
      → (vs : List Value) (fr : Frame) → Taken n (f.with_two next vs fr)
  two_taken next h [] fr = tt
  two_taken next h (x ∷ []) fr = tt
  two_taken next h (x ∷ y ∷ []) fr = h x y fr
  two_taken next h (x ∷ y ∷ z ∷ vs) fr = tt

  pub pair : (fr : Frame) (next : Value → Value → Frame → Option State) → ((x y : Value) (fr' : Frame) → Taken n (next x y fr'))
      → Taken n (f.on_pair fr next)
  pair fr next h = operands 2 fr (f.with_two next) (two_taken next h)

  choice_taken : (next : Bool → Frame → Option State) → ((b : Bool) (fr : Frame) → Taken n (next b fr))
      → (x : Value) (fr : Frame) → Taken n (k.with_choice next x fr)
  choice_taken next h (cell.truth b ∷ []) fr = h b fr
  choice_taken next h _ fr = tt

  pub choice : (fr : Frame) (next : Bool → Frame → Option State) → ((b : Bool) (fr' : Frame) → Taken n (next b fr'))
      → Taken n (k.on_choice fr next)
  choice fr next h = operand fr (k.with_choice next) (choice_taken next h)

  module _ (p : CoreProgram) (g : ℕ) (move : Move) where
    gate_taken : (next : ℕ → Frame → Option State) → ((b : ℕ) (fr : Frame) → Taken n (next b fr))
        → (x : Value) (fr : Frame) → Taken n (t.with_gate p g move next x fr)
    gate_taken next h (cell.pointer b ∷ []) fr = h b fr
    gate_taken next h _ fr = tt

    pub gate : (fr : Frame) (next : ℕ → Frame → Option State) → ((b : ℕ) (fr' : Frame) → Taken n (next b fr'))
        → Taken n (t.on_gate p g move fr next)
    gate fr next h = operand fr (t.with_gate p g move next) (gate_taken next h)

pub did : (hidden : Ty) (g : ℕ) (d : Did) (fr : Frame) (below : List Frame) (s : State) → Taken s.taken (f.did_step hidden g d fr below s)
did hidden g (gives vs m u) fr below s = refl
did hidden g (panics x u) fr below s = refl
did hidden g no_step fr below s = tt

-- ---- the same step

pub and_same : {A : Type 0} (o : Option A) (next next' : A → Option State) → ((x : A) → next x ≡ next' x)
    → option_and_then next o ≡ option_and_then next' o
and_same None next next' h = refl
and_same (Some x) next next' h = h x

popped_same : (o : Option Popped) (fr : Frame) (next next' : List Value → Frame → Option State)
    → ((vs : List Value) (fr' : Frame) → next vs fr' ≡ next' vs fr') → f.with_popped o fr next ≡ f.with_popped o fr next'
popped_same None fr next next' h = refl
popped_same (Some p) fr next next' h = h _ _

one_same : (next next' : Value → Frame → Option State) → ((x : Value) (fr : Frame) → next x fr ≡ next' x fr)
    → (vs : List Value) (fr : Frame) → f.with_one next vs fr ≡ f.with_one next' vs fr
one_same next next' h [] fr = refl
one_same next next' h (x ∷ []) fr = h x fr
one_same next next' h (x ∷ y ∷ vs) fr = refl

pub operand_same : (fr : Frame) (next next' : Value → Frame → Option State) → ((x : Value) (fr' : Frame) → next x fr' ≡ next' x fr')
    → f.on_operand fr next ≡ f.on_operand fr next'
operand_same fr next next' h = popped_same (popped 1 fr.values) fr (f.with_one next) (f.with_one next') (one_same next next' h)

two_same : (next next' : Value → Value → Frame → Option State) → ((x y : Value) (fr : Frame) → next x y fr ≡ next' x y fr)
    → (vs : List Value) (fr : Frame) → f.with_two next vs fr ≡ f.with_two next' vs fr
two_same next next' h [] fr = refl
two_same next next' h (x ∷ []) fr = refl
two_same next next' h (x ∷ y ∷ []) fr = h x y fr
two_same next next' h (x ∷ y ∷ z ∷ vs) fr = refl

pub pair_same : (fr : Frame) (next next' : Value → Value → Frame → Option State)
    → ((x y : Value) (fr' : Frame) → next x y fr' ≡ next' x y fr') → f.on_pair fr next ≡ f.on_pair fr next'
pair_same fr next next' h = popped_same (popped 2 fr.values) fr (f.with_two next) (f.with_two next') (two_same next next' h)

-- A run, move by move.
use Rattle.std.proofs.Common.{◌≡◌, ◌<◌, refl, sym, ap, ◌∙◌, ℕ, zero, suc, ◌+◌, List, [], ◌∷◌, map, length, get_or, drop, arith}
use Rattle.std.specs.Prelude.{Bool, true, false, if◌then◌else◌, Option, Some, None, option_and_then, slice_get}
use Rattle.go_type.specs.Tree.{Ty}
use Rattle.go_core.specs.Communicate.{any_moves}
use Rattle.go_core.specs.CoreTree.{CoreProgram}
use Rattle.go_core.specs.GoStep.{goroutine_step}
use Rattle.go_core.specs.Goroutine.{State, Move, fatal}
use Rattle.go_core.specs.Run.{after, step, deadlocked}
use Rattle.go_state.specs.StateSeen.{state_of}
use Rattle.go_state.specs.declared.state.state.State as held
use Rattle.go_state.proofs.ListsLemmas.{drop_here}
use Rattle.go_play.specs.Turns.{Steps}
use Rattle.go_play.specs.Comes.{free_step}

module _ (p : CoreProgram) (choices : List ℕ) where
  pub moves_free : (move : Move) (s : State) → any_moves 0 s.goroutines s ≡ true → free_step p choices move s ≡ goroutine_step p choices move move.goroutine (slice_get s.goroutines move.goroutine) s
  moves_free move s h = ap (λ (b : Bool). if b then goroutine_step p choices move move.goroutine (slice_get s.goroutines move.goroutine) s else Some (deadlocked s)) h

  pub none_free : (move : Move) (s : State) → any_moves 0 s.goroutines s ≡ false → free_step p choices move s ≡ Some (deadlocked s)
  none_free move s h = ap (λ (b : Bool). if b then goroutine_step p choices move move.goroutine (slice_get s.goroutines move.goroutine) s else Some (deadlocked s)) h

  -- a move that is made, and one that can't be made
  pub after_made : (moves rest : List Move) (move : Move) (s s' : State) → moves ≡ move ∷ rest → step p choices move s ≡ Some s' → after p choices moves s ≡ after p choices rest s'
  after_made moves rest move s s' e h = ap (λ (ms : List Move). after p choices ms s) e ∙ ap (option_and_then (after p choices rest)) h

  pub after_refused : (moves rest : List Move) (move : Move) (s : State) → moves ≡ move ∷ rest → step p choices move s ≡ None → after p choices moves s ≡ None
  after_refused moves rest move s e h = ap (λ (ms : List Move). after p choices ms s) e ∙ ap (option_and_then (after p choices rest)) h

pub steps_as : (ts : List Ty) (b : Bool) (s : held.State) (o q : Option State) → o ≡ q → Steps ts b s q → Steps ts b s o
steps_as ts true s o q e h = e ∙ h
steps_as ts false s o q e h = e ∙ h

pub was_made : (ts : List Ty) (b : Bool) (s : held.State) (o : Option State) → b ≡ true → Steps ts b s o → o ≡ Some (state_of ts s)
was_made ts true s o e h = h
was_made ts false s o e h = absurd (cc)

pub was_refused : (ts : List Ty) (b : Bool) (s : held.State) (o : Option State) → b ≡ false → Steps ts b s o → o ≡ None
was_refused ts true s o e h = absurd (cc)
was_refused ts false s o e h = h

-- a fatal end, after so many units in all
abbrev pub ended_fatal : List ℕ → ℕ → State → State
ended_fatal text n s = record s { end = fatal text; units = n }

read_same : {A : Type 0} (xs : List A) (n : ℕ) (x y : A) → n < length xs → get_or xs n x ≡ get_or xs n y
read_same {A} [] n x y l = absurd (omega arith)
read_same {A} (z ∷ zs) zero x y l = refl
read_same {A} (z ∷ zs) (suc n) x y l = read_same zs n x y (omega arith)

-- what is read from a list comes first of what remains
pub drop_read : {A B : Type 0} (f : A → B) (xs : List A) (n : ℕ) (x : A) → n < length xs → drop n (map f xs) ≡ f (get_or xs n x) ∷ drop (n + 1) (map f xs)
drop_read {A} {B} f xs n x l = drop_here f xs n (get_or xs n x) l (read_same xs n x (get_or xs n x) l)

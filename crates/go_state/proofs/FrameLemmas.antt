-- What comes of a frame by what was taken from it and put before its tasks.
use Rattle.std.proofs.Common.{◌≡◌, refl, ap, sym, ◌∙◌, subst, ℕ, zero, suc, ◌+◌, List, [], ◌∷◌, map, drop, Bool}
use Rattle.std.specs.Prelude.{Option, Some, Result, Ok, Err, IsErrAnd}
use Rattle.go_type.specs.Tree.{Ty}
use Rattle.go_core.specs.CoreTree.{CoreProgram}
use Rattle.go_core.specs.CoreView.{clauses_of}
use Rattle.go_core.specs.Memory.{Value, Memory}
use Rattle.go_core.specs.Goroutine as defined
use Rattle.go_core.specs.Goroutine.{moved, with_memory, popped, Popped}
use Rattle.go_core.specs.Control.{go_on, with_choice}
use Rattle.go_core.specs.Frames.{on_pair, on_operand, with_popped, with_one, with_two}
use Rattle.go_core.specs.Opened.{clause_opened}
use Rattle.go_core.specs.declared.statement.CoreClause.{CoreClause}
use Rattle.go_state.specs.TasksSeen.{clause_view}
use Rattle.go_state.proofs.ListsLemmas.{clause_is}
use Rattle.go_values.specs.declared.operators.did.Stop.{Stop}
use Rattle.go_state.specs.StateSeen.{frame_of}
use Rattle.go_state.specs.declared.state.frame.Frame.{Frame}
use Rattle.go_state.specs.declared.frame_steps.operands.Pair.{Pair}
use Rattle.go_state.specs.FrameStepsFound.{NoStep, Taken, PairTaken, Chooses}

-- the right operand is on top
pair_in : (vs : List Value) (f : defined.Frame) (k : Value → Value → defined.Frame → Option defined.State)
    → with_popped (popped 2 vs) f (with_two k) ≡ with_popped (popped 1 vs) f (with_one (λ y f'. on_operand f' (λ x f''. k x y f'')))
pair_in [] f k = refl
pair_in (y ∷ []) f k = refl
pair_in (y ∷ x ∷ vs) f k = refl

pub pair_by_one : (f : defined.Frame) (k : Value → Value → defined.Frame → Option defined.State)
    → on_pair f k ≡ on_operand f (λ y f'. on_operand f' (λ x f''. k x y f''))
pair_by_one f k = pair_in f.values f k

-- what `?` hands on
pub pair_missed : (ts : List Ty) (r : Result Pair Stop) (x : Stop) (f : Frame) (goes_on : (Value → Value → defined.Frame → Option defined.State) → Option defined.State)
    → IsErrAnd r (λ y. y ≡ x) → ((k : Value → Value → defined.Frame → Option defined.State) → NoStep x (goes_on k)) → PairTaken ts r f goes_on
pair_missed ts (Ok a) x f goes_on i s = absurd i
pair_missed ts (Err y) x f goes_on i s = subst (λ (z : Stop). (k : Value → Value → defined.Frame → Option defined.State) → NoStep z (goes_on k)) (sym i) s

pub missed : {A B : Type 0} (ts : List Ty) (seen : A → B) (r : Result A Stop) (x : Stop) (f : Frame) (goes_on : (B → defined.Frame → Option defined.State) → Option defined.State)
    → IsErrAnd r (λ y. y ≡ x) → ((k : B → defined.Frame → Option defined.State) → NoStep x (goes_on k)) → Taken ts seen r f goes_on
missed {A} {B} ts seen (Ok a) x f goes_on i s = absurd i
missed {A} {B} ts seen (Err y) x f goes_on i s = subst (λ (z : Stop). (k : B → defined.Frame → Option defined.State) → NoStep z (goes_on k)) (sym i) s

-- a truth value that was taken
pub chosen : (ts : List Ty) (r : Result Bool Stop) (v : Value) (f : Frame) (goes_on : (Bool → defined.Frame → Option defined.State) → Option defined.State)
    → ((k : Bool → defined.Frame → Option defined.State) → goes_on k ≡ with_choice k v (frame_of ts f)) → Chooses r v → Taken ts (λ b. b) r f goes_on
chosen ts (Ok b) v f goes_on h s = λ k. h k ∙ s k (frame_of ts f)
chosen ts (Err e) v f goes_on h s = λ k. subst (λ (o : Option defined.State). NoStep e o) (sym (h k)) (s k (frame_of ts f))

-- a clause at a place is the first one from there on
pub clause_later : (ts : List Ty) (cs : List CoreClause) (n : ℕ) (rest : List defined.Task)
    → clause_opened (clauses_of (drop n (map (clause_view ts) cs))) 0 rest ≡ clause_opened (clauses_of (map (clause_view ts) cs)) n rest
clause_later ts [] zero rest = refl
clause_later ts [] (suc n) rest = refl
clause_later ts (c ∷ cs) zero rest = refl
clause_later ts (c ∷ cs) (suc n) rest =
    clause_later ts cs n rest
    ∙ sym (ap (λ xs. clause_opened xs (suc n) rest) (clause_is ts c (clauses_of (map (clause_view ts) cs))))

-- tasks were put first that are these
pub went_first : (p : CoreProgram) (g : ℕ) (first : List defined.Task → List defined.Task) (units : ℕ) (f f' : defined.Frame) (below : List defined.Frame) (m : Memory) (s : defined.State)
    (tasks : List defined.Task) → f' ≡ record f { tasks = tasks } → tasks ≡ first f.tasks
    → go_on p g first units f below (with_memory m s) ≡ Some (with_memory m (moved g (f' ∷ below) (1 + units) s))
went_first p g first units f f' below m s tasks e t =
    ap (λ (x : defined.Frame). Some (with_memory m (moved g (x ∷ below) (1 + units) s))) (sym (e ∙ ap (λ us. record f { tasks = us }) t))

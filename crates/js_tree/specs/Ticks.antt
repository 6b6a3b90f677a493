-- What a part of a script does, fuel aside: from a state, with so many ticks more, it comes to an outcome. Own.
use Rattle.std.specs.Prelude.{◌≡◌, ◌≤◌, ◌+◌, ℕ, List, length, refl}
use Rattle.gj_base.specs.Counts.{Begins}
use Rattle.js_tree.specs.Script.{ScriptTree}
use Rattle.js_tree.specs.Value.{End, Going, Ended, Stuck, World, Frame, Outcome, gives, throws, over}
use Rattle.js_tree.specs.Evaluate.{Setting, setting, frame}
use Rattle.js_tree.specs.ScriptRun.{ScriptResult}

-- what was printed begins what is printed later, no number is given back, and no array or dictionary is taken away
pub record Precedes (w w' : World) : Type 0 where
  pub printed : Begins w.printed w'.printed
  pub taken : w.taken ≤ w'.taken
  pub objects : length w.objects ≤ length w'.objects

abbrev pub world_with : ℕ → World → World
world_with n w = record w { left = n }

-- a kind of states: the world in one, and the same state with so many ticks left
pub record States (S : Type 0) : Type 0 where
  pub world : S → World
  pub with_left : ℕ → S → S
  pub world_of_it : (n : ℕ) (s : S) → world (with_left n s) ≡ world_with n (world s)
  pub the_last_counts : (n m : ℕ) (s : S) → with_left n (with_left m s) ≡ with_left n s
  pub as_it_was : (s : S) → with_left (world s).left s ≡ s

abbrev pub worlds : States World
worlds = record {
  world = λ w. w;
  with_left = world_with;
  world_of_it = λ n w. refl;
  the_last_counts = λ n m w. refl;
  as_it_was = λ w. refl;
}

abbrev pub frames : States Frame
frames = record {
  world = λ f. f.world;
  with_left = λ n f. frame f.locals (world_with n f.world);
  world_of_it = λ n f. refl;
  the_last_counts = λ n m f. refl;
  as_it_was = λ f. refl;
}

-- the world that an outcome leaves
abbrev pub world_in : {S A : Type 0} → States S → Outcome S A → World
world_in states (gives a s) = states.world s
world_in states (throws at v s) = states.world s
world_in states (over e w) = w

-- the same outcome with so many ticks left
abbrev pub outcome_with : {S A : Type 0} → States S → ℕ → Outcome S A → Outcome S A
outcome_with states n (gives a s) = gives a (states.with_left n s)
outcome_with states n (throws at v s) = throws at v (states.with_left n s)
outcome_with states n (over e w) = over e (world_with n w)

-- with d ticks more than are left in the end, a part of a script comes to an outcome from a state. Ticks of the state and of the outcome don't matter.
pub record Comes {S A : Type 0} (states : States S) (script : ScriptTree) (choices : List ℕ) (part : Setting → S → Outcome S A) (s : S) (d : ℕ) (o : Outcome S A) : Type 0 where
  pub runs : (fuel before left : ℕ) → before ≡ left + d → before ≤ fuel
      → part (setting script choices fuel) (states.with_left before s) ≡ outcome_with states left o

abbrev pub goes_on : End → ScriptResult → ScriptResult → Type 0
goes_on Going r r' = Begins r.printed r'.printed × (r.taken ≤ r'.taken)
goes_on (Ended c t) r r' = r' ≡ r
goes_on (Stuck at) r r' = r' ≡ r

-- a run with more ticks: the same, or where no tick was left one that goes on from there
abbrev pub GoesOn : ScriptResult → ScriptResult → Type 0
GoesOn r r' = goes_on r.end r r'

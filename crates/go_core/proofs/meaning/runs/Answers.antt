use Rattle.std.proofs.Common.{refl}
use Rattle.std.specs.Prelude.{◌≡◌, ◌≢◌, [], ◌∷◌, ◌++◌, Bool, true, false, Option, Some, None, option_and_then, if◌then◌else◌}
use Rattle.go_core.specs.Communicate.{any_moves}
use Rattle.go_core.specs.Goroutine.{State, End, going, exit, panicked, fatal}
use Rattle.go_core.specs.Run.{step, after, while_going}
use Rattle.go_core.specs.RunLaws.{RunsExtend}
use Rattle.go_core.proofs.meaning.runs.Goals as goal

chained : {A : Type 0} (f g h : A → Option A) (o : Option A) → ((a : A) → f a ≡ option_and_then g (h a)) → option_and_then f o ≡ option_and_then g (option_and_then h o)
chained f g h None e = refl
chained f g h (Some a) e = e a

extends : RunsExtend
extends p choices [] ys s = refl
extends p choices (x ∷ xs) ys s = chained (after p choices (xs ++ ys)) (after p choices ys) (after p choices xs) (step p choices x s) (extends p choices xs ys)

ended : (end : End) (next : Option State) → end ≢ going → while_going end next ≡ None
ended going next h = absurd (h refl)
ended (exit k) next h = refl
ended (panicked t) next h = refl
ended (fatal t) next h = refl

asleep : (end : End) (b : Bool) (next dead : Option State) → end ≡ going → b ≡ false → while_going end (if b then next else dead) ≡ dead
asleep going false next dead e h = refl
asleep going true next dead e h = cc
asleep (exit k) b next dead e h = cc
asleep (panicked t) b next dead e h = cc
asleep (fatal t) b next dead e h = cc

pub returns : goal.returns
returns c = record {
  extend = extends;
  ends = λ p choices move s h. ended s.end _ h;
  deadlocks = λ p choices move s e b. asleep s.end (any_moves 0 s.goroutines s) _ _ e b;
}

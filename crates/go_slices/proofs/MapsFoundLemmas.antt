-- What `?` hands on, where a change of a map is found.
use Rattle.std.proofs.Common.{◌≡◌, sym, subst, List, ℕ}
use Rattle.std.specs.Prelude.{Result, Ok, Err, IsErrAnd, Option}
use Rattle.go_type.specs.Tree.{Ty}
use Rattle.go_core.specs.Memory as core
use Rattle.go_core.specs.Memory.{MapState}
use Rattle.go_core.specs.StepMaps.{set_or_not, new_map_or_not}
use Rattle.go_values.specs.OperatorsSeen.{Stops}
use Rattle.go_values.specs.declared.operators.did.Change.{Change}
use Rattle.go_values.specs.declared.operators.did.Stop.{Stop}
use Rattle.go_slices.specs.MapsFound.{ChangeFound, NewMapFound}

pub change_stopped : (ts : List Ty) (name : ℕ) (r : Result Change Stop) (x : Stop) (s : Option MapState) → IsErrAnd r (λ y. y ≡ x)
    → ((m : core.Memory) (units : ℕ) → Stops x (set_or_not m name units s)) → ChangeFound ts name r s
change_stopped ts name (Ok a) x s i h = absurd i
change_stopped ts name (Err y) x s i h = λ m units. subst (λ (z : Stop). Stops z (set_or_not m name units s)) (sym i) (h m units)

pub new_map_stopped : (ts : List Ty) (r : Result Change Stop) (x : Stop) (s : Option MapState) → IsErrAnd r (λ y. y ≡ x)
    → ((m : core.Memory) (units : ℕ) → Stops x (new_map_or_not m units s)) → NewMapFound ts r s
new_map_stopped ts (Ok a) x s i h = absurd i
new_map_stopped ts (Err y) x s i h = λ m units. subst (λ (z : Stop). Stops z (new_map_or_not m units s)) (sym i) (h m units)

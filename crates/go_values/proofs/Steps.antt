-- What `?` hands on, and what goes on after an operand was found.
use Rattle.std.proofs.Common.{◌≡◌, sym, subst, List}
use Rattle.std.specs.Prelude.{Result, Ok, Err, IsErrAnd}
use Rattle.go_type.specs.Tree.{Ty}
use Rattle.go_core.specs.Memory as core
use Rattle.go_core.specs.Did as defined
use Rattle.go_values.specs.OperatorsSeen.{Does, Stops}
use Rattle.go_values.specs.declared.operators.did.Gives.{Gives}
use Rattle.go_values.specs.declared.operators.did.Stop.{Stop}

-- the same step, said otherwise
pub goes : (ts : List Ty) (m : core.Memory) (r : Result Gives Stop) (d e : defined.Did) → d ≡ e → Does ts m r e → Does ts m r d
goes ts m r d e h s = subst (λ (x : defined.Did). Does ts m r x) (sym h) s

-- what `?` hands on stops as what it was handed
pub stopped : (ts : List Ty) (m : core.Memory) (r : Result Gives Stop) (x : Stop) (d e : defined.Did) → d ≡ e → IsErrAnd r (λ y. y ≡ x) → Stops x e → Does ts m r d
stopped ts m (Ok a) x d e h i s = absurd i
stopped ts m (Err y) x d e h i s = subst (λ (z : Stop). Stops z d) (sym i) (subst (λ (w : defined.Did). Stops x w) (sym h) s)

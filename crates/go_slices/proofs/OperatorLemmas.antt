-- A step of an operator, by its kind.
use Rattle.std.proofs.Common.{◌≡◌, refl, sym, subst, List, ℕ}
use Rattle.std.specs.Prelude.{Result, IsErrAnd}
use Rattle.std.specs.Borrow.{Bor}
use Rattle.go_type.specs.Table.{places}
use Rattle.go_core.specs.declared.program.Program.{Program}
use Rattle.go_core.specs.CoreView.{program_view}
use Rattle.go_core.specs.Did.{Did}
use Rattle.go_core.specs.Operator.{operated}
use Rattle.go_values.specs.ValuesSeen.{values_of, memory_of}
use Rattle.go_values.specs.declared.values.memory.Memory.{Memory}
use Rattle.go_values.specs.declared.values.scalar.Scalar.{Scalar}
use Rattle.go_values.specs.OperatorsSeen.{Does, Stops}
use Rattle.go_values.specs.declared.operators.did.Gives.{Gives}
use Rattle.go_values.specs.declared.operators.did.Stop.{Stop}
use Rattle.go_values.proofs.Steps.{goes, stopped}
use Rattle.go_slices.specs.Seen.{operator_of}
use Rattle.go_slices.specs.declared.composites.operator.Operator.{Operator}

module _ (q : Program) (wanted : ℕ) (m : Memory) (vs : List (Bor (List Scalar))) (r : Result Gives Stop) where
  -- what an operator does
  abbrev pub done : Operator → Did
  done o = operated (program_view q) wanted (operator_of (places q.types) o) (values_of (places q.types) vs) (memory_of (places q.types) m)

  abbrev pub DoesKind : Operator → Type 0
  DoesKind o = Does (places q.types) (memory_of (places q.types) m) r (done o)

  pub kind_goes : (o k : Operator) (d : Did) → o ≡ k → done k ≡ d → Does (places q.types) (memory_of (places q.types) m) r d → DoesKind o
  kind_goes o k d e f h = subst DoesKind (sym e) (goes (places q.types) (memory_of (places q.types) m) r (done k) d f h)

  pub kind_stops : (o k : Operator) (x : Stop) → o ≡ k → IsErrAnd r (λ y. y ≡ x) → Stops x (done k) → DoesKind o
  kind_stops o k x e i h = subst DoesKind (sym e) (stopped (places q.types) (memory_of (places q.types) m) r x (done k) (done k) refl i h)

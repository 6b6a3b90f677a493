-- What is around a statement in code, and what it stands for.
use Rattle.std.specs.Prelude.{ℕ, List, Bool, false, Option, Some, None}
use Rattle.std.specs.Borrow.{Bor}
use Rattle.go_type.specs.Tree.{Ty, Tys}
use Rattle.go_type.specs.Levels.{trees_of, IdsBelow}
use Rattle.go_type.specs.declared.types.TypeId.{TypeId}
use Rattle.go_core.specs.CoreTree as core
use Rattle.go_typing.specs.Walk as go
use Rattle.go_define.specs.declared.simple.around.Around.{Around}

abbrev pub results_of : List Ty → Option (Bor (List TypeId)) → Option Tys
results_of ts None = None
results_of ts (Some is) = Some (trees_of ts is.now)

-- the types are among the first n
abbrev pub ResultsBelow : ℕ → Option (Bor (List TypeId)) → Type 0
ResultsBelow n None = Unit {0}
ResultsBelow n (Some is) = IdsBelow n is.now

-- what may be left, and the label before the statement, stand apart
abbrev pub around_of : List Ty → Around → List go.Target → Option (List ℕ) → go.Around
around_of ts a gs label = record {
  results = results_of ts a.results;
  named_results = a.named;
  targets = gs;
  label = label;
  wrong_labels = a.wrong_labels.now;
  too_far = a.too_far;
}

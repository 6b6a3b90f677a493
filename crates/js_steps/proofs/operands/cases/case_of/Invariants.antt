use Rattle.std.proofs.Common.{◌≡◌}
use Rattle.js_tree.specs.Value as run
use Rattle.js_tree.specs.Evaluate.{Setting, Scope, exec_cases}
use Rattle.js_code.specs.Parts.{cases_at, trees_of}
use Rattle.js_value.specs.HeapSeen.{value_of}
use Rattle.js_simple.specs.Simple.{IsSomeCode}
use Rattle.js_steps.proofs.operands.cases.case_of.Given as goal

-- the cases that are left do what all do
abbrev pub invariant-loop-case : goal.invariant-loop-case
invariant-loop-case l =
    IsSomeCode l.body.code → (st : Setting) (sc : Scope) (f : run.Frame)
    → exec_cases st sc (cases_at (trees_of l.body.code) l.cases) (value_of l.v) f ≡ exec_cases st sc (cases_at (trees_of l.body.code) l.list) (value_of l.v) f

abbrev pub decreases-loop-case : goal.decreases-loop-case
decreases-loop-case l = l.list

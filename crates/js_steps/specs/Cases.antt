-- Own: the cases of a `switch` in the code, one by one.
use Rattle.std.specs.Prelude.{◌≡◌, List, Option, Some, None}
use Rattle.js_tree.specs.Script.{Stmts, Cases, case}
use Rattle.js_tree.specs.Value.{Value}
use Rattle.js_tree.specs.Value as run
use Rattle.js_tree.specs.Evaluate.{Setting, Scope, exec_cases, exec_through}
use Rattle.js_code.specs.Parts.{Tree, cases_at}
use Rattle.js_steps.specs.declared.operands.cases.Case.{Case}

-- cases that begin with one that has a number; or with none, and then a value leads to their beginning
abbrev pub IsCaseOf : List Tree → Cases → Option Case → Type 0
IsCaseOf ts cs (Some c) = (b : Stmts) × (cs ≡ case c.n b (cases_at ts c.rest))
IsCaseOf ts cs None = (st : Setting) (sc : Scope) (v : Value) (f : run.Frame) → exec_cases st sc cs v f ≡ exec_through st sc cs f

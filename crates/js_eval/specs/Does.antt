-- What parts of a script do, as the definitions say, on what the plain program has.
use Rattle.std.specs.Prelude.{◌≡◌, ℕ, List, Option, Some, None, option_map, Bool, true, false}
use Rattle.js_tree.specs.Script.{Name, Expr, Cases}
use Rattle.js_tree.specs.Script as tree
use Rattle.js_tree.specs.Value as run
use Rattle.js_tree.specs.Evaluate as part
use Rattle.js_tree.specs.View.{expr_view, exprs_view, stmt_view, stmts_view, else_view, cases_view, function_view, script_view}
use Rattle.js_tree.specs.declared.tree.JsExpr.{JsExpr}
use Rattle.js_tree.specs.declared.tree.JsExprs.{JsExprs}
use Rattle.js_tree.specs.declared.tree.JsStmt.{JsStmt}
use Rattle.js_tree.specs.declared.tree.JsStmts.{JsStmts}
use Rattle.js_tree.specs.declared.tree.JsElse.{JsElse}
use Rattle.js_tree.specs.declared.tree.JsCases.{JsCases}
use Rattle.js_tree.specs.declared.tree.JsFunction.{JsFunction}
use Rattle.js_value.specs.ValueSeen.{value_of, entries_of, values_of}
use Rattle.js_value.specs.declared.value.entries.Entry.{Entry}
use Rattle.js_value.specs.declared.value.value.Value.{Value}
use Rattle.js_eval.specs.Limited.{Deeper, enter_limited}
use Rattle.js_eval.specs.Seen.{world_of, setting_of, scope_of, frame_of}
use Rattle.js_eval.specs.declared.world.World.{World}
use Rattle.js_eval.specs.declared.state.Context.{Context}
use Rattle.js_eval.specs.declared.state.Scope.{Scope}
use Rattle.js_eval.specs.declared.state.Loop.{Loop}
use Rattle.js_eval.specs.declared.state.CallParts.{CallParts}

-- the value of an expression
abbrev pub eval_of : Context → Scope → List Entry → JsExpr → World → Deeper → run.Outcome run.World run.Value
eval_of c s ls e w d = part.eval (setting_of c d) (scope_of s) (entries_of ls) (expr_view e) (world_of w)

-- the values of expressions, from the left
abbrev pub eval_all_of : Context → Scope → List Entry → JsExprs → World → Deeper → run.Outcome run.World (List run.Value)
eval_all_of c s ls es w d = part.eval_all (setting_of c d) (scope_of s) (entries_of ls) (exprs_view es) (world_of w)

-- the values of two expressions, from the left
abbrev pub two_of : Context → Scope → List Entry → JsExpr → JsExpr → World → Deeper → run.Outcome run.World (run.Value × run.Value)
two_of c s ls a b w d =
    run.and_then (eval_of c s ls a w d) (λ u w. run.and_then (part.eval (setting_of c d) (scope_of s) (entries_of ls) (expr_view b) w) (λ v w. run.gives (u, v) w))

abbrev pub pair_of : Value × Value → run.Value × run.Value
pair_of p = (value_of p.0, value_of p.1)

-- an expression as a condition
abbrev pub condition_of : Context → Scope → List Entry → ℕ → JsExpr → World → Deeper → run.Outcome run.World Bool
condition_of c s ls at e w d = run.and_then (eval_of c s ls e w d) (part.truth_of at)

-- a call of the value of an expression
abbrev pub call_of : Context → Scope → List Entry → ℕ → JsExpr → JsExprs → World → Deeper → part.Called
call_of c s ls at f es w d =
    run.and_then (eval_of c s ls f w d) (λ u w. run.and_then (part.eval_all (setting_of c d) (scope_of s) (entries_of ls) (exprs_view es) w) (λ vs w. part.call_value (setting_of c d) at u vs w))

-- whether an expression is a call
abbrev pub is_call : Expr → Bool
is_call (tree.call at f es) = true
is_call _ = false

-- the parts of a call
abbrev pub HasParts : JsExpr → Option CallParts → Type 0
HasParts e None = is_call (expr_view e) ≡ false
HasParts e (Some p) = expr_view e ≡ tree.call e.at (expr_view p.callee.now) (exprs_view p.arguments.now)

-- an expression as a statement, which may be a call that gives no value
abbrev pub dropped_of : Context → Scope → List Entry → JsExpr → World → Deeper → part.Called
dropped_of c s ls e w d = part.eval_dropped (setting_of c d) (scope_of s) (entries_of ls) (expr_view e) (world_of w)

-- a call of a value
abbrev pub call_value_of : Context → ℕ → Value → List Value → World → Deeper → part.Called
call_value_of c at u vs w d = part.call_value (setting_of c d) at (value_of u) (values_of vs) (world_of w)

-- what a function does with arguments, after the tick of its call
abbrev pub enter_of : Context → JsFunction → List Value → World → Deeper → part.Called
enter_of c f vs w d = enter_limited d (script_view c.script.now) c.choices.now c.depth c.fuel (function_view f) (values_of vs) (world_of w)

-- what a statement does
abbrev pub exec_of : Context → Scope → List Entry → JsStmt → World → Deeper → run.Outcome run.Frame part.Flow
exec_of c s ls x w d = part.exec (setting_of c d) (scope_of s) (stmt_view x) (frame_of ls w)

-- what statements in order do
abbrev pub exec_all_of : Context → Scope → List Entry → JsStmts → World → Deeper → run.Outcome run.Frame part.Flow
exec_all_of c s ls ss w d = part.exec_all (setting_of c d) (scope_of s) (stmts_view ss) (frame_of ls w)

-- what an `if` does
abbrev pub branch_of : Context → Scope → List Entry → ℕ → JsExpr → JsStmts → JsElse → World → Deeper → run.Outcome run.Frame part.Flow
branch_of c s ls at e ss other w d =
    run.and_then (part.condition (setting_of c d) (scope_of s) at (expr_view e) (frame_of ls w)) (λ t. run.choose t (part.exec_all (setting_of c d) (scope_of s) (stmts_view ss)) (part.exec_else (setting_of c d) (scope_of s) (else_view other)))

-- what statements do, where they run at all
abbrev pub when_of : Context → Scope → List Entry → Bool → JsStmts → World → Deeper → run.Outcome run.Frame part.Flow
when_of c s ls runs ss w d = run.choose runs (part.exec_all (setting_of c d) (scope_of s) (stmts_view ss)) (run.gives part.onward) (frame_of ls w)

-- the cases of a `switch`: from here on, or from the first that has the value
abbrev pub cases_do : Bool → part.Setting → part.Scope → Cases → run.Value → run.Frame → run.Outcome run.Frame part.Flow
cases_do true st sc cases v f = part.exec_through st sc cases f
cases_do false st sc cases v f = part.exec_cases st sc cases v f

-- what the cases of a `switch` do
abbrev pub cases_of : Context → Scope → List Entry → JsCases → Value → World → Deeper → run.Outcome run.Frame part.Flow
cases_of c s ls cases v w d = part.exec_cases (setting_of c d) (scope_of s) (cases_view cases) (value_of v) (frame_of ls w)

-- a condition that may be missing: then it is true
abbrev pub test_at : part.Setting → part.Scope → ℕ → Option JsExpr → run.Frame → run.Outcome run.Frame Bool
test_at st sc at None f = run.gives true f
test_at st sc at (Some e) f = part.condition st sc at (expr_view e) f

-- the condition of a loop
abbrev pub test_in : Context → Scope → Loop → Deeper → run.Frame → run.Outcome run.Frame Bool
test_in c s l d = test_at (setting_of c d) (scope_of s) l.at (option_map (λ e. e.now) l.test)

-- what so many turns of a loop do
abbrev pub turns_in : Context → Scope → Loop → ℕ → Deeper → run.Frame → run.Outcome run.Frame part.Flow
turns_in c s l n d = part.turns n l.label.now (test_in c s l d) (part.exec_all (setting_of c d) (scope_of s) (stmts_view l.body.now))

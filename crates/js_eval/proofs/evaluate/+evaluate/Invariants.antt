use Rattle.std.proofs.Common.{◌≡◌, ◌+◌, ◌*◌, ◌-◌, ◌++◌, ℕ, drop, map, Option, Some, None}
use Rattle.std.specs.Prelude.{option_map}
use Rattle.js_tree.specs.Value as run
use Rattle.js_tree.specs.Evaluate as part
use Rattle.js_tree.specs.View.{expr_view, exprs_view, exprs_of, stmt_view, stmts_view, stmts_of, else_view, cases_view, case_view, cases_of, last_case, item_view}
use Rattle.js_tree.specs.declared.tree.JsExpr.{JsExpr}
use Rattle.js_tree.specs.declared.tree.JsCases.{out-JsCases}
use Rattle.js_value.specs.ValueSeen.{value_of, values_of, entries_of}
use Rattle.js_eval.specs.declared.state.Context.{Context}
use Rattle.js_eval.specs.Limited.{Deeper}
use Rattle.js_eval.specs.Seen.{setting_of, scope_of, world_of, frame_of}
use Rattle.js_eval.specs.Does.{cases_do, turns_in}
use Rattle.js_eval.specs.Weight.{expr_weight, exprs_weight, stmt_weight, stmts_weight, else_weight, cases_weight, items_weight}
use Rattle.js_eval.proofs.evaluate.+evaluate.Given as goal

-- a call deeper weighs more than every body
abbrev nest : Context → ℕ
nest c = c.depth * (4 * items_weight (map item_view c.script.now.items.items) + 4)

abbrev test_weight : Option JsExpr → ℕ
test_weight None = 0
test_weight (Some e) = expr_weight (expr_view e)

abbrev pub decreases-eval : goal.decreases-eval
decreases-eval l = nest l.context.now + 4 * expr_weight (expr_view l.e.now)

abbrev pub decreases-eval_all : goal.decreases-eval_all
decreases-eval_all l = nest l.context.now + 4 * exprs_weight (exprs_view l.es.now)

abbrev pub decreases-two : goal.decreases-two
decreases-two l = nest l.context.now + 4 * (expr_weight (expr_view l.a.now) + expr_weight (expr_view l.b.now)) + 1

abbrev pub decreases-condition : goal.decreases-condition
decreases-condition l = nest l.context.now + 4 * expr_weight (expr_view l.e.now) + 1

abbrev pub decreases-call : goal.decreases-call
decreases-call l = nest l.context.now + 4 * (expr_weight (expr_view l.f.now) + exprs_weight (exprs_view l.es.now)) + 2

abbrev pub decreases-dropped : goal.decreases-dropped
decreases-dropped l = nest l.context.now + 4 * expr_weight (expr_view l.e.now) + 1

abbrev pub decreases-call_value : goal.decreases-call_value
decreases-call_value l = nest l.context.now + 1

abbrev pub decreases-enter : goal.decreases-enter
decreases-enter l = nest l.context.now

abbrev pub decreases-exec : goal.decreases-exec
decreases-exec l = nest l.context.now + 4 * stmt_weight (stmt_view l.s.now)

abbrev pub decreases-exec_all : goal.decreases-exec_all
decreases-exec_all l = nest l.context.now + 4 * stmts_weight (stmts_view l.ss.now) + 1

abbrev pub decreases-branch : goal.decreases-branch
decreases-branch l = nest l.context.now + 4 * (expr_weight (expr_view l.test.now) + stmts_weight (stmts_view l.body.now) + else_weight (else_view l.other.now)) + 2

abbrev pub decreases-when : goal.decreases-when
decreases-when l = nest l.context.now + 4 * stmts_weight (stmts_view l.ss.now) + 2

abbrev pub decreases-cases : goal.decreases-cases
decreases-cases l = nest l.context.now + 4 * cases_weight (cases_view l.list.now) + 2

abbrev pub decreases-test : goal.decreases-test
decreases-test l = nest l.context.now + 4 * test_weight (option_map (λ e. e.now) l.head.now.test) + 2

abbrev pub decreases-turns : goal.decreases-turns
decreases-turns l = nest l.context.now + 4 * (test_weight (option_map (λ e. e.now) l.head.now.test) + stmts_weight (stmts_view l.head.now.body.now)) + 3

-- the values so far before those of what is left
abbrev pub invariant-eval_all-loop-e : goal.invariant-eval_all-loop-e
invariant-eval_all-loop-e l =
    (d : Deeper)
    → part.eval_all (setting_of l.context d) (scope_of l.scope) (entries_of l.locals) (exprs_of (map expr_view l.e-items)) (world_of l.initial.world)
    ≡ run.and_then (part.eval_all (setting_of l.context d) (scope_of l.scope) (entries_of l.locals) (exprs_of (map expr_view (drop l.e-index l.e-items))) (world_of l.world)) (λ vs w. run.gives (values_of l.values.items ++ vs) w)

-- what is left does what all did
abbrev pub invariant-exec_all-loop-s : goal.invariant-exec_all-loop-s
invariant-exec_all-loop-s l =
    (d : Deeper)
    → part.exec_all (setting_of l.context d) (scope_of l.scope) (stmts_of (map stmt_view l.s-items)) (frame_of l.initial.locals.items l.initial.world)
    ≡ part.exec_all (setting_of l.context d) (scope_of l.scope) (stmts_of (map stmt_view (drop l.s-index l.s-items))) (frame_of l.locals.items l.world)

abbrev pub invariant-cases-loop-c : goal.invariant-cases-loop-c
invariant-cases-loop-c l =
    (d : Deeper)
    → part.exec_cases (setting_of l.context d) (scope_of l.scope) (cases_of (map case_view l.c-items) (last_case (option_map stmts_view (out-JsCases l.list).default))) (value_of l.v) (frame_of l.initial.locals.items l.initial.world)
    ≡ cases_do l.runs (setting_of l.context d) (scope_of l.scope) (cases_of (map case_view (drop l.c-index l.c-items)) (last_case (option_map stmts_view (out-JsCases l.list).default))) (value_of l.v) (frame_of l.locals.items l.world)

-- the turns that are left do what all did
abbrev pub invariant-turns-loop-turn : goal.invariant-turns-loop-turn
invariant-turns-loop-turn l =
    (d : Deeper)
    → turns_in l.context l.scope l.head l.initial.world.left d (frame_of l.initial.locals.items l.initial.world)
    ≡ turns_in l.context l.scope l.head (l.initial.world.left - l.turn) d (frame_of l.locals.items l.world)

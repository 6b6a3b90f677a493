-- What parts do, as the definitions say of what they stand for.
use Rattle.std.specs.Prelude.{ℕ, List, ◌++◌, Some, Bool}
use Rattle.js_tree.specs.Script.{Expr, Exprs}
use Rattle.js_tree.specs.Value.{Value, World, Outcome, gives, and_then}
use Rattle.js_tree.specs.Evaluate.{eval, eval_all, truth_of}
use Rattle.js_code.specs.Held.{part_of}
use Rattle.js_code.specs.Parts.{as_expr, expr_at, exprs_at, tree_of, trees_of}
use Rattle.js_code.specs.declared.code.part.Part.{Part}
use Rattle.js_simple.specs.declared.state.Context.{Context}
use Rattle.js_simple.specs.Seen.{Point}

-- the expression that a part of a context's code stands for
abbrev pub expr_in : Context → ℕ → Expr
expr_in c i = expr_at (trees_of c.code.now) i

abbrev pub exprs_in : Context → ℕ → Exprs
exprs_in c i = exprs_at (trees_of c.code.now) i

-- the value of an expression
abbrev pub value_does : Expr → Point → World → Outcome World Value
value_does e p w = eval p.setting p.scope p.locals e w

-- the value of the expression that a part stands for
abbrev pub eval_at : Context → ℕ → Point → World → Outcome World Value
eval_at c i p w = eval p.setting p.scope p.locals (expr_at (trees_of c.code.now) i) w

-- the same by the part
abbrev pub eval_part : Context → Part → Point → World → Outcome World Value
eval_part c part p w = eval p.setting p.scope p.locals (as_expr (Some (tree_of (trees_of c.code.now) (part_of part)))) w

-- the values of the expressions that a part stands for, after those that are there
abbrev pub eval_all_at : Context → List Value → ℕ → Point → World → Outcome World (List Value)
eval_all_at c done i p w = and_then (eval_all p.setting p.scope p.locals (exprs_at (trees_of c.code.now) i) w) (λ vs w. gives (done ++ vs) w)

-- an expression as a condition
abbrev pub condition_at : Context → ℕ → ℕ → Point → World → Outcome World Bool
condition_at c at i p w = and_then (eval_at c i p w) (truth_of at)

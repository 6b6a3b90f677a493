-- Small scripts with their trees, worked out by hand.
use Rattle.std.specs.Prelude.{[], ◌∷◌, ◌++◌, codes}
use Rattle.js_tree.specs.Script.{number, string, name, unary, binary, call, no_exprs, expr, perform, no_stmts, stmt, function_item, global_item, ScriptTree}
use Rattle.js_tree.specs.Printed.{preamble}
use Rattle.js_tree.specs.Scripts.{IsScript}
use Rattle.js_tree.specs.declared.tree.UnaryOp.TheVariants.{Negate}
use Rattle.js_tree.specs.declared.tree.BinaryOp.TheVariants.{Add, Multiply}

abbrev pub greeting : ScriptTree
greeting = record {
  items = function_item (record {
    name = codes "$start";
    params = [];
    body = stmt (perform 308 (call 308 (name 308 (codes "$write")) (expr (string 315 (codes "hi")) no_exprs))) no_stmts;
    at = 290;
  }) ∷ [];
  start = codes "$start";
  start_at = 322;
}

abbrev pub sum : ScriptTree
sum = record {
  items = global_item 290 (codes "$n") (binary 299 Add (number 300 1) (binary 303 Multiply (number 303 2) (unary 305 Negate (number 306 3)))) ∷ [];
  start = codes "$n";
  start_at = 309;
}

pub record GrammarRows : Type 0 where
  pub a_greeting : IsScript (preamble ++ codes "function $start(){$write(\"hi\");}$start();") greeting
  pub a_sum : IsScript (preamble ++ codes "var $n = (1)+2*-3;\n$n();") sum

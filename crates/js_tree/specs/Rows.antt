-- Runs of small scripts, worked out by hand.
use Rattle.std.specs.Prelude.{◌≡◌, suc, refl, None, ℕ, List, [], ◌∷◌, codes}
use Rattle.js_tree.specs.Script.{Expr, Exprs, no_exprs, expr, no_stmts, stmt, Stmt, perform, throw, call, name, string, number, unary, binary, index, dictionary, decimal_of, Function, function_item, ScriptTree}
use Rattle.js_tree.specs.Value.{End, Going, Ended, Stuck, gives}
use Rattle.js_tree.specs.ScriptRun.{ScriptResult, script_run, run_all, first_world}
use Rattle.std.proofs.Common.{ap, arith}
use Rattle.js_tree.specs.Evaluate.{setting, body_does}
use Rattle.js_tree.specs.Ticks.{worlds, Comes}
use Rattle.js_tree.specs.ComesLaws.{comes_by, comes_call}
use Rattle.js_tree.specs.declared.tree.UnaryOp.TheVariants.{Negate}
use Rattle.js_tree.specs.declared.tree.BinaryOp.TheVariants.{Add, Remainder}

abbrev pub start_of : Stmt → Function
start_of s = record { name = codes "$start"; params = []; body = stmt s no_stmts; at = 0 }

-- `function $start(){ .. }$start();` with one statement
abbrev pub started : Stmt → ScriptTree
started s = record {
  items = function_item (start_of s) ∷ [];
  start = codes "$start";
  start_at = 99;
}

abbrev pub one : Expr → Exprs
one e = expr e no_exprs

-- `$write(e);` at 18
abbrev pub write_of : Expr → Stmt
write_of e = perform 18 (call 18 (name 18 (codes "$write")) (one e))

abbrev pub result : List ℕ → ℕ → End → ScriptResult
result printed ticks end = record { printed = printed; taken = 0; ticks = ticks; end = end }

-- `$write("hi");`
abbrev pub hello : ScriptTree
hello = started (write_of (string 25 (codes "hi")))

-- `$write(String(-7%2));`
abbrev pub rest : ScriptTree
rest = started (write_of (decimal_of 25 (binary 32 Remainder (unary 32 Negate (number 33 7)) (number 35 2))))

-- `$write(String(9007199254740992+1));`
abbrev pub too_large : ScriptTree
too_large = started (write_of (decimal_of 25 (binary 32 Add (number 32 9007199254740992) (number 49 1))))

-- `$end(3,"x");`
abbrev pub ended : ScriptTree
ended = started (perform 18 (call 18 (name 18 (codes "$end")) (expr (number 23 3) (one (string 25 (codes "x"))))))

-- `$write(5);`
abbrev pub prints_a_number : ScriptTree
prints_a_number = started (write_of (number 25 5))

-- `$write($write("hi"));`
abbrev pub prints_no_value : ScriptTree
prints_no_value = started (write_of (call 25 (name 25 (codes "$write")) (one (string 32 (codes "hi")))))

-- `$write(Object.create(null)["$a"]);`
abbrev pub prints_what_is_missing : ScriptTree
prints_what_is_missing = started (write_of (index 25 (dictionary 25) (string 45 (codes "$a"))))

-- `throw "hi";`
abbrev pub thrown : ScriptTree
thrown = started (throw 18 (string 24 (codes "hi")))

pub record FirstRuns : Type 0 where
  pub without_ticks : script_run hello [] 0 ≡ result [] 0 Going
  pub with_one_tick : script_run hello [] 1 ≡ result [] 1 Going
  pub with_two_ticks : script_run hello [] 2 ≡ result (codes "hi") 2 (Ended 0 [])
  pub rest_has_the_sign_of_the_dividend : script_run rest [] 9 ≡ result (codes "-1") 2 (Ended 0 [])
  pub sum_past_the_range : script_run too_large [] 9 ≡ result [] 1 (Stuck 32)
  pub ended_by_the_host : script_run ended [] 9 ≡ result [] 2 (Ended 3 (codes "x"))
  pub number_is_not_printed : script_run prints_a_number [] 9 ≡ result [] 1 (Stuck 18)
  pub call_without_a_value : script_run prints_no_value [] 9 ≡ result (codes "hi") 2 (Stuck 25)
  pub missing_key : script_run prints_what_is_missing [] 9 ≡ result [] 1 (Stuck 25)
  pub throw_that_is_not_caught : script_run thrown [] 9 ≡ result [] 1 (Stuck 18)

-- `$write("hi");` by the laws of its parts, with two ticks
pub hello_comes : Comes worlds hello [] run_all (first_world 0) 2 (gives None (record (first_world 0) { printed = codes "hi" }))
hello_comes = comes_by (λ fuel n l. refl) (comes_call 99 (codes "$start") [] {d = 1} refl refl refl (record {
  runs = λ fuel before left q l.
      let one_more : before ≡ suc left = omega arith in
      ap (λ n. body_does (setting hello [] fuel) (start_of (write_of (string 25 (codes "hi")))) [] (first_world n)) one_more;
}))

-- A tree whose names, numbers and strings have the forms fits exactly where it is not nested too deep.
use Rattle.std.proofs.Common.{◌≡◌, ◌∙◌, ap, ℕ, suc, ◌+◌, List, [], ◌∷◌, Some, None, Bool, true, false, refl}
use Rattle.std.specs.Prelude.{◌&&◌}
use Rattle.std.specs.List.{list_all}
use Rattle.js_tree.specs.Script.{Expr, number, string, name, unary, binary, both, either, choice, call, index, length_of, pop, char_code_at, substring, array, decimal_of, from_char_code, Exprs, no_exprs, expr, Stmt, declare, assign, store, perform, push, remove, branch, while, forever, switch, return, throw, break, continue, attempt, Stmts, no_stmts, stmt, Else, no_else, else_block, else_if, Cases, no_cases, default, case, Item, function_item, global_item, ScriptTree}
use Rattle.js_tree.specs.Printed.{op_level, dot_level}
use Rattle.js_tree.specs.Printable.{is_name, is_own_name, is_own_label, is_in_range, is_byte, is_call, fits, depth_within, operators, parts, expr_fits, exprs_fit, stmt_fits, stmts_fit, else_fits, cases_fit, item_fits, is_printable}
use Rattle.js_grammar.specs.Nesting.{nests, all_nest, stmt_nests, stmts_nest, else_nests, cases_nest, item_nests, script_nests}
use Rattle.js_grammar.proofs.Words.{both_true}
use Rattle.js_grammar.proofs.Forms.{has_forms, have_forms, stmt_has_forms, stmts_have_forms, else_has_forms, cases_have_forms, item_has_forms, IsFormed}
use Rattle.js_grammar.proofs.PrintedPlaces.{both_stay}

-- what holds anyhow counts for nothing beside another test
and_held : (a b : Bool) → b ≡ true → (a && b) ≡ a
and_held true b q = q
and_held false b q = refl

held_and : (a b : Bool) → a ≡ true → (a && b) ≡ b
held_and a b q = ap (λ z. z && b) q

mutual
  nests_is : (e : Expr) (d : ℕ) → has_forms e ≡ true → expr_fits d e ≡ nests d e
  nests_is (number at n) d q = and_held (fits d) (is_in_range n) q
  nests_is (string at s) d q = and_held (fits d) (list_all is_byte s) q
  nests_is (name at x) d q = and_held (fits d) (is_name x) q
  nests_is (unary at op e) d q = nests_is e (depth_within 11 (suc d) e) q
  nests_is (binary at op a b) d q =
      let f = both_true (has_forms a) (has_forms b) q in
      both_stay (nests_is a (depth_within (op_level op) d a) f.0) (nests_is b (depth_within (suc (op_level op)) (suc (d + operators (op_level op) a)) b) f.1)
  nests_is (both at a b) d q =
      let f = both_true (has_forms a) (has_forms b) q in
      both_stay (nests_is a (depth_within 2 d a) f.0) (nests_is b (depth_within 3 (suc (d + operators 2 a)) b) f.1)
  nests_is (either at a b) d q =
      let f = both_true (has_forms a) (has_forms b) q in
      both_stay (nests_is a (depth_within 1 d a) f.0) (nests_is b (depth_within 2 (suc (d + operators 1 a)) b) f.1)
  nests_is (choice at t a b) d q =
      let f = both_true (has_forms t && has_forms a) (has_forms b) q in
      let g = both_true (has_forms t) (has_forms a) f.0 in
      both_stay (both_stay (nests_is t (depth_within 1 d t) g.0) (nests_is a (suc d) g.1)) (nests_is b (suc d) f.1)
  nests_is (call at g es) d q =
      let f = both_true (has_forms g) (have_forms es) q in
      both_stay (ap (λ z. z && fits (d + parts g)) (nests_is g (depth_within 12 d g) f.0)) (all_nest_is es (suc (d + parts g)) f.1)
  nests_is (index at e i) d q =
      let f = both_true (has_forms e) (has_forms i) q in
      both_stay (nests_is e (depth_within 12 d e) f.0) (nests_is i (suc (d + parts e)) f.1)
  nests_is (length_of at e) d q = ap (λ z. z && fits (d + parts e)) (nests_is e (depth_within (dot_level e) d e) q)
  nests_is (pop at e) d q = ap (λ z. z && fits (d + parts e)) (nests_is e (depth_within (dot_level e) d e) q)
  nests_is (char_code_at at e i) d q =
      let f = both_true (has_forms e) (has_forms i) q in
      both_stay (nests_is e (depth_within (dot_level e) d e) f.0) (nests_is i (suc (d + parts e)) f.1)
  nests_is (substring at e i j) d q =
      let f = both_true (has_forms e && has_forms i) (has_forms j) q in
      let g = both_true (has_forms e) (has_forms i) f.0 in
      both_stay (both_stay (nests_is e (depth_within (dot_level e) d e) g.0) (nests_is i (suc (d + parts e)) g.1)) (nests_is j (suc (d + parts e)) f.1)
  nests_is (array at es) d q = ap (λ z. fits d && z) (all_nest_is es (suc d) q)
  nests_is (decimal_of at e) d q = nests_is e (suc d) q
  nests_is (from_char_code at e) d q = nests_is e (suc d) q
  nests_is e d q = refl

  all_nest_is : (es : Exprs) (d : ℕ) → have_forms es ≡ true → exprs_fit d es ≡ all_nest d es
  all_nest_is no_exprs d q = refl
  all_nest_is (expr e es) d q = let f = both_true (has_forms e) (have_forms es) q in both_stay (nests_is e d f.0) (all_nest_is es d f.1)

mutual
  stmt_nests_is : (s : Stmt) (d : ℕ) → stmt_has_forms s ≡ true → stmt_fits d s ≡ stmt_nests d s
  stmt_nests_is (declare at x e) d q = let f = both_true (is_own_name x) (has_forms e) q in held_and (is_own_name x) (expr_fits d e) f.0 ∙ nests_is e d f.1
  stmt_nests_is (assign at x e) d q = let f = both_true (is_own_name x) (has_forms e) q in held_and (is_own_name x) (expr_fits d e) f.0 ∙ nests_is e d f.1
  stmt_nests_is (store at e i v) d q =
      let f = both_true (has_forms e && has_forms i) (has_forms v) q in
      let g = both_true (has_forms e) (has_forms i) f.0 in
      both_stay (both_stay (nests_is e (depth_within 12 d e) g.0) (nests_is i (suc (d + parts e)) g.1)) (nests_is v d f.1)
  stmt_nests_is (perform at e) d q = let f = both_true (is_call e) (has_forms e) q in held_and (is_call e) (expr_fits d e) f.0 ∙ nests_is e d f.1
  stmt_nests_is (push at e v) d q =
      let f = both_true (has_forms e) (has_forms v) q in
      both_stay (nests_is e (depth_within (dot_level e) d e) f.0) (nests_is v (suc (d + parts e)) f.1)
  stmt_nests_is (remove at e k) d q =
      let f = both_true (has_forms e) (has_forms k) q in
      both_stay (nests_is e (depth_within 12 d e) f.0) (nests_is k (suc (d + parts e)) f.1)
  stmt_nests_is (branch at t ss other) d q =
      let f = both_true (has_forms t && stmts_have_forms ss) (else_has_forms other) q in
      let g = both_true (has_forms t) (stmts_have_forms ss) f.0 in
      both_stay (both_stay (nests_is t (suc d) g.0) (stmts_nest_is ss (suc d) g.1)) (else_nests_is other d f.1)
  stmt_nests_is (while at l t ss) d q =
      let f = both_true (is_own_label l && has_forms t) (stmts_have_forms ss) q in
      let g = both_true (is_own_label l) (has_forms t) f.0 in
      both_stay (held_and (is_own_label l) (expr_fits (suc d) t) g.0 ∙ nests_is t (suc d) g.1) (stmts_nest_is ss (suc d) f.1)
  stmt_nests_is (forever at l ss) d q =
      let f = both_true (is_own_label l) (stmts_have_forms ss) q in
      both_stay (held_and (is_own_label l) (fits (suc d)) f.0) (stmts_nest_is ss (suc d) f.1)
  stmt_nests_is (switch at l e cs) d q =
      let f = both_true (is_own_label l && has_forms e) (cases_have_forms cs) q in
      let g = both_true (is_own_label l) (has_forms e) f.0 in
      both_stay (held_and (is_own_label l) (expr_fits (suc d) e) g.0 ∙ nests_is e (suc d) g.1) (cases_nest_is cs (suc d) f.1)
  stmt_nests_is (return at None) d q = refl
  stmt_nests_is (return at (Some e)) d q = nests_is e d q
  stmt_nests_is (throw at e) d q = nests_is e d q
  stmt_nests_is (break at l) d q = and_held (fits d) (is_own_label l) q
  stmt_nests_is (continue at l) d q = and_held (fits d) (is_own_label l) q
  stmt_nests_is (attempt at ss handler) d q =
      let f = both_true (stmts_have_forms ss) (stmts_have_forms handler) q in
      both_stay (ap (λ z. fits (suc d) && z) (stmts_nest_is ss (suc d) f.0)) (stmts_nest_is handler (suc d) f.1)

  stmts_nest_is : (ss : Stmts) (d : ℕ) → stmts_have_forms ss ≡ true → stmts_fit d ss ≡ stmts_nest d ss
  stmts_nest_is no_stmts d q = refl
  stmts_nest_is (stmt s ss) d q = let f = both_true (stmt_has_forms s) (stmts_have_forms ss) q in both_stay (stmt_nests_is s d f.0) (stmts_nest_is ss d f.1)

  else_nests_is : (other : Else) (d : ℕ) → else_has_forms other ≡ true → else_fits d other ≡ else_nests d other
  else_nests_is no_else d q = refl
  else_nests_is (else_block ss) d q = ap (λ z. fits (suc d) && z) (stmts_nest_is ss (suc (suc d)) q)
  else_nests_is (else_if at t ss other) d q =
      let f = both_true (has_forms t && stmts_have_forms ss) (else_has_forms other) q in
      let g = both_true (has_forms t) (stmts_have_forms ss) f.0 in
      both_stay (both_stay (nests_is t (suc (suc d)) g.0) (stmts_nest_is ss (suc (suc d)) g.1)) (else_nests_is other (suc d) f.1)

  cases_nest_is : (cs : Cases) (d : ℕ) → cases_have_forms cs ≡ true → cases_fit d cs ≡ cases_nest d cs
  cases_nest_is no_cases d q = refl
  cases_nest_is (default ss) d q = ap (λ z. fits d && z) (stmts_nest_is ss d q)
  cases_nest_is (case n ss rest) d q =
      let f = both_true (is_in_range n && stmts_have_forms ss) (cases_have_forms rest) q in
      let g = both_true (is_in_range n) (stmts_have_forms ss) f.0 in
      both_stay (both_stay (and_held (fits d) (is_in_range n) g.0) (stmts_nest_is ss d g.1)) (cases_nest_is rest d f.1)

item_nests_is : (i : Item) → item_has_forms i ≡ true → item_fits i ≡ item_nests i
item_nests_is (function_item f) q =
    let g = both_true (is_own_name f.name && list_all is_own_name f.params) (stmts_have_forms f.body) q in
    held_and (is_own_name f.name && list_all is_own_name f.params) (stmts_fit 1 f.body) g.0 ∙ stmts_nest_is f.body 1 g.1
item_nests_is (global_item at x e) q = let f = both_true (is_own_name x) (has_forms e) q in held_and (is_own_name x) (expr_fits 0 e) f.0 ∙ nests_is e 0 f.1

items_nest_is : (items : List Item) → list_all item_has_forms items ≡ true → list_all item_fits items ≡ list_all item_nests items
items_nest_is [] q = refl
items_nest_is (i ∷ items) q = let f = both_true (item_has_forms i) (list_all item_has_forms items) q in both_stay (item_nests_is i f.0) (items_nest_is items f.1)

pub script_nests_is : (s : ScriptTree) → IsFormed s → is_printable s ≡ script_nests s
script_nests_is s q =
    let f = both_true (list_all item_has_forms s.items) (is_name s.start) q in
    and_held (list_all item_fits s.items) (is_name s.start) f.1 ∙ items_nest_is s.items f.0

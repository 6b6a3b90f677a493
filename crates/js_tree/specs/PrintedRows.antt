-- Texts of small trees, worked out by hand from the style's rules, and which trees have a text.
use Rattle.std.specs.Prelude.{◌≡◌, ℕ, zero, suc, [], ◌∷◌, ◌++◌, Some, None, true, false, codes}
use Rattle.js_tree.specs.Script.{Expr, number, string, null, name, unary, binary, both, either, choice, call, index, length_of, pop, char_code_at, substring, array, dictionary, decimal_of, from_char_code, no_exprs, expr, Stmt, assign, store, perform, push, remove, branch, while, forever, switch, return, throw, break, continue, attempt, Stmts, no_stmts, stmt, else_block, else_if, default, case, function_item, global_item, ScriptTree}
use Rattle.js_tree.specs.Printed.{expr_text, stmt_text, plain, preamble}
use Rattle.js_tree.specs.Printable.{is_name, is_own_name, is_in_range, expr_fits, is_printable}
use Rattle.js_tree.specs.declared.tree.UnaryOp.TheVariants.{Negate, Complement, Not}
use Rattle.js_tree.specs.declared.tree.BinaryOp.TheVariants.{Add, Subtract, Multiply, BitAnd, Same, In}

abbrev pub a : Expr
a = name 0 (codes "$a")

abbrev pub b : Expr
b = name 0 (codes "$b")

abbrev pub one : Stmt → Stmts
one s = stmt s no_stmts

abbrev pub stop : Stmt
stop = break 0 None

-- a bracket around a bracket, so many times
abbrev pub nested : ℕ → Expr → Expr
nested zero e = e
nested (suc n) e = array 0 (expr (nested n e) no_exprs)

-- `$write` is called with a string, twice
abbrev pub twice : ScriptTree
twice = record {
  items = global_item 0 (codes "$n") (number 0 1) ∷ function_item (record {
    name = codes "$start";
    params = codes "$a" ∷ codes "$b" ∷ [];
    body = stmt (perform 0 (call 0 (name 0 (codes "$write")) (expr (string 0 (codes "a\n")) no_exprs))) (one (while 0 (Some (codes "$l")) a (one (continue 0 (Some (codes "$l"))))));
    at = 0;
  }) ∷ [];
  start = codes "$start";
  start_at = 0;
}

pub record PrintedRows : Type 0 where
  pub minus_of_a_negated_number : stmt_text [] (assign 0 (codes "$a") (binary 0 Subtract b (unary 0 Negate (number 0 1)))) ≡ codes "$a = $b - -1;"
  pub minus_of_a_minus : expr_text (unary 0 Negate (unary 0 Negate (number 0 1))) ≡ codes "- -1"
  pub minus_of_a_sum : expr_text (unary 0 Negate (binary 0 Add a b)) ≡ codes "-($a + $b)"
  pub other_signs_join : expr_text (unary 0 Not (unary 0 Complement (unary 0 Negate a))) ≡ codes "!~-$a"
  pub left_operands_need_none : expr_text (binary 0 Subtract (binary 0 Add a b) a) ≡ codes "$a + $b - $a"
  pub right_operands_of_one_level : expr_text (binary 0 Subtract a (binary 0 Add b a)) ≡ codes "$a - ($b + $a)"
  pub equality_binds_tighter_than_and : expr_text (binary 0 Same (binary 0 BitAnd a b) a) ≡ codes "($a & $b) === $a"
  pub and_of_an_equality : expr_text (binary 0 BitAnd a (binary 0 Same b a)) ≡ codes "$a & $b === $a"
  pub a_choice_in_a_choice : expr_text (choice 0 (choice 0 a b a) (choice 0 a b a) (choice 0 a b a)) ≡ codes "($a ? $b : $a) ? $a ? $b : $a : $a ? $b : $a"
  pub or_of_ands : expr_text (either 0 (both 0 a b) (both 0 a (either 0 a b))) ≡ codes "$a && $b || $a && ($a || $b)"
  pub a_word_between : expr_text (binary 0 In a b) ≡ codes "$a in $b"
  pub a_number_before_a_dot : expr_text (length_of 0 (number 0 5)) ≡ codes "(5).length"
  pub a_number_before_a_bracket : expr_text (index 0 (number 0 5) (number 0 0)) ≡ codes "5[0]"
  pub calls_and_indices : expr_text (call 0 (index 0 a (pop 0 b)) (expr (number 0 1) (expr (null 0) no_exprs))) ≡ codes "$a[$b.pop()](1, null)"
  pub parts_of_a_string : expr_text (char_code_at 0 (substring 0 (string 0 []) (number 0 0) (number 0 0)) (number 0 0)) ≡ codes "\"\".substring(0, 0).charCodeAt(0)"
  pub an_operator_before_a_dot : expr_text (length_of 0 (binary 0 Add a b)) ≡ codes "($a + $b).length"
  pub texts_of_numbers : expr_text (decimal_of 0 (from_char_code 0 a)) ≡ codes "String(String.fromCharCode($a))"
  pub new_objects : expr_text (array 0 (expr (dictionary 0) (expr (array 0 no_exprs) no_exprs))) ≡ codes "[Object.create(null), []]"
  pub bytes_of_a_string : expr_text (string 0 (34 ∷ 92 ∷ 10 ∷ 0 ∷ 127 ∷ 255 ∷ 32 ∷ 126 ∷ [])) ≡ codes "\"\\\"\\\\\\x0a\\x00\\x7f\\xff ~\""
  pub a_word_after_return : stmt_text [] (return 0 (Some (binary 0 Multiply a b))) ≡ codes "return $a * $b;"
  pub a_sign_after_return : stmt_text [] (return 0 (Some (unary 0 Negate a))) ≡ codes "return-$a;"
  pub a_string_after_throw : stmt_text [] (throw 0 (string 0 (codes "x"))) ≡ codes "throw\"x\";"
  pub a_deleted_key : stmt_text [] (remove 0 a b) ≡ codes "delete $a[$b];"
  pub a_stored_element : stmt_text [] (store 0 a (number 0 0) b) ≡ codes "$a[0] = $b;"
  pub a_pushed_value : stmt_text [] (push 0 a b) ≡ codes "$a.push($b);"
  pub an_else_if : stmt_text (codes " ") (branch 0 a (one stop) (else_if 0 b no_stmts (else_block (one stop)))) ≡ codes "if($a){\n   break;\n }else if($b){\n }else{\n   break;\n }"
  pub a_switch : stmt_text [] (switch 0 (Some (codes "$l")) a (case 7 (one stop) (default (one (break 0 (Some (codes "$l"))))))) ≡ codes "$l:switch($a){\n  case 7:\n  break;\n  default:\n  break $l;\n}"
  pub a_try : stmt_text [] (attempt 0 (one (forever 0 None no_stmts)) (one (return 0 None))) ≡ codes "try{\n  for(;;){\n  }\n}catch($catch){\n  return;\n}"
  pub a_script : plain twice ≡ preamble ++ codes "var $n = 1;\nfunction $start($a, $b){\n  $write(\"a\\x0a\");\n  $l:while($a){\n    continue $l;\n  }\n}\n$start();\n"
  pub a_name : is_name (codes "$aZ_9$") ≡ true
  pub a_name_without_its_sign : is_name (codes "aZ") ≡ false
  pub a_name_with_a_dot : is_name (codes "$a.b") ≡ false
  pub the_caught_value_is_only_read : is_own_name (codes "$catch") ≡ false
  pub the_largest_number : is_in_range 9007199254740992 ≡ true
  pub a_larger_number : is_in_range 9007199254740993 ≡ false
  pub a_printable_script : is_printable twice ≡ true
  pub as_deep_as_may_be : expr_fits 995 (nested 5 a) ≡ true
  pub one_too_deep : expr_fits 995 (nested 6 a) ≡ false
  pub operators_of_a_chain_count : expr_fits 999 (binary 0 Add (binary 0 Add a b) a) ≡ false
  pub parts_of_a_chain_count : expr_fits 999 (pop 0 (pop 0 a)) ≡ true

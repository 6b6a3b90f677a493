-- Scripts that node and mujs ran as these rows say: bytes_in_quotes to loops. Written by bench/engines/trees.py.
use Rattle.std.specs.Prelude.{[], ◌∷◌, Some, None, codes}
use Rattle.js_tree.specs.Script.{number, string, name, binary, choice, call, index, length_of, pop, array, dictionary, decimal_of, no_exprs, expr, declare, assign, store, perform, push, remove, branch, while, return, break, continue, no_stmts, stmt, no_else, function_item, global_item, ScriptTree}
use Rattle.js_tree.specs.Agrees.{Agrees}
use Rattle.js_tree.specs.declared.tree.BinaryOp.TheVariants.{Same, Less, In, Add, Subtract, Multiply}

abbrev pub bytes_in_quotes : ScriptTree
bytes_in_quotes = record { items = function_item (record { name = (codes "$start"); params = []; body = (stmt (perform 0 (call 0 (name 0 (codes "$write")) (expr (string 0 (97 ∷ 34 ∷ 98 ∷ 92 ∷ 99 ∷ 10 ∷ 9 ∷ 127 ∷ 128 ∷ 255 ∷ 126 ∷ 32 ∷ [])) no_exprs))) no_stmts); at = 0 }) ∷ []; start = (codes "$start"); start_at = 0 }

abbrev pub elements : ScriptTree
elements = record { items = function_item (record { name = (codes "$start"); params = []; body = (stmt (declare 0 (codes "$a") (array 0 (expr (number 0 1) (expr (number 0 2) (expr (number 0 3) no_exprs))))) (stmt (perform 0 (call 0 (name 0 (codes "$write")) (expr (binary 0 Add (decimal_of 0 (binary 0 Add (index 0 (name 0 (codes "$a")) (number 0 0)) (index 0 (name 0 (codes "$a")) (number 0 2)))) (string 0 (codes " "))) no_exprs))) (stmt (store 0 (name 0 (codes "$a")) (number 0 1) (binary 0 Add (index 0 (name 0 (codes "$a")) (number 0 0)) (number 0 9))) (stmt (perform 0 (call 0 (name 0 (codes "$write")) (expr (binary 0 Add (decimal_of 0 (index 0 (name 0 (codes "$a")) (number 0 1))) (string 0 (codes " "))) no_exprs))) (stmt (store 0 (name 0 (codes "$a")) (number 0 0) (name 0 (codes "$a"))) (stmt (perform 0 (call 0 (name 0 (codes "$write")) (expr (choice 0 (binary 0 Same (index 0 (name 0 (codes "$a")) (number 0 0)) (name 0 (codes "$a"))) (string 0 (codes "T")) (string 0 (codes "F"))) no_exprs))) (stmt (perform 0 (call 0 (name 0 (codes "$write")) (expr (binary 0 Add (decimal_of 0 (index 0 (index 0 (index 0 (name 0 (codes "$a")) (number 0 0)) (number 0 0)) (number 0 2))) (string 0 (codes " "))) no_exprs))) no_stmts))))))); at = 0 }) ∷ []; start = (codes "$start"); start_at = 0 }

abbrev pub pushes_and_pops : ScriptTree
pushes_and_pops = record { items = function_item (record { name = (codes "$start"); params = []; body = (stmt (declare 0 (codes "$a") (array 0 no_exprs)) (stmt (push 0 (name 0 (codes "$a")) (number 0 5)) (stmt (push 0 (name 0 (codes "$a")) (string 0 (codes "x"))) (stmt (perform 0 (call 0 (name 0 (codes "$write")) (expr (binary 0 Add (decimal_of 0 (length_of 0 (name 0 (codes "$a")))) (string 0 (codes " "))) no_exprs))) (stmt (perform 0 (call 0 (name 0 (codes "$write")) (expr (pop 0 (name 0 (codes "$a"))) no_exprs))) (stmt (perform 0 (call 0 (name 0 (codes "$write")) (expr (binary 0 Add (decimal_of 0 (length_of 0 (name 0 (codes "$a")))) (string 0 (codes " "))) no_exprs))) (stmt (perform 0 (call 0 (name 0 (codes "$write")) (expr (binary 0 Add (decimal_of 0 (pop 0 (name 0 (codes "$a")))) (string 0 (codes " "))) no_exprs))) (stmt (perform 0 (call 0 (name 0 (codes "$write")) (expr (binary 0 Add (decimal_of 0 (length_of 0 (name 0 (codes "$a")))) (string 0 (codes " "))) no_exprs))) (stmt (push 0 (name 0 (codes "$a")) (number 0 7)) (stmt (perform 0 (pop 0 (name 0 (codes "$a")))) (stmt (perform 0 (call 0 (name 0 (codes "$write")) (expr (binary 0 Add (decimal_of 0 (length_of 0 (name 0 (codes "$a")))) (string 0 (codes " "))) no_exprs))) no_stmts))))))))))); at = 0 }) ∷ []; start = (codes "$start"); start_at = 0 }

abbrev pub arrays_are_shared : ScriptTree
arrays_are_shared = record { items = function_item (record { name = (codes "$start"); params = []; body = (stmt (declare 0 (codes "$a") (array 0 (expr (array 0 (expr (number 0 1) no_exprs)) (expr (array 0 (expr (number 0 2) no_exprs)) no_exprs)))) (stmt (declare 0 (codes "$b") (index 0 (name 0 (codes "$a")) (number 0 0))) (stmt (store 0 (name 0 (codes "$b")) (number 0 0) (number 0 8)) (stmt (store 0 (name 0 (codes "$a")) (number 0 1) (name 0 (codes "$b"))) (stmt (push 0 (name 0 (codes "$b")) (number 0 9)) (stmt (perform 0 (call 0 (name 0 (codes "$write")) (expr (binary 0 Add (decimal_of 0 (index 0 (index 0 (name 0 (codes "$a")) (number 0 0)) (number 0 0))) (string 0 (codes " "))) no_exprs))) (stmt (perform 0 (call 0 (name 0 (codes "$write")) (expr (binary 0 Add (decimal_of 0 (length_of 0 (index 0 (name 0 (codes "$a")) (number 0 1)))) (string 0 (codes " "))) no_exprs))) (stmt (perform 0 (call 0 (name 0 (codes "$write")) (expr (binary 0 Add (decimal_of 0 (index 0 (index 0 (name 0 (codes "$a")) (number 0 1)) (number 0 1))) (string 0 (codes " "))) no_exprs))) no_stmts)))))))); at = 0 }) ∷ []; start = (codes "$start"); start_at = 0 }

abbrev pub dictionaries : ScriptTree
dictionaries = record { items = function_item (record { name = (codes "$start"); params = []; body = (stmt (declare 0 (codes "$d") (dictionary 0)) (stmt (store 0 (name 0 (codes "$d")) (string 0 (codes "$a")) (number 0 1)) (stmt (store 0 (name 0 (codes "$d")) (string 0 (codes "$")) (string 0 (codes "e"))) (stmt (store 0 (name 0 (codes "$d")) (string 0 (codes "$length")) (number 0 3)) (stmt (store 0 (name 0 (codes "$d")) (string 0 (codes "$a")) (binary 0 Add (index 0 (name 0 (codes "$d")) (string 0 (codes "$a"))) (number 0 1))) (stmt (perform 0 (call 0 (name 0 (codes "$write")) (expr (binary 0 Add (decimal_of 0 (index 0 (name 0 (codes "$d")) (string 0 (codes "$a")))) (string 0 (codes " "))) no_exprs))) (stmt (perform 0 (call 0 (name 0 (codes "$write")) (expr (index 0 (name 0 (codes "$d")) (string 0 (codes "$"))) no_exprs))) (stmt (perform 0 (call 0 (name 0 (codes "$write")) (expr (binary 0 Add (decimal_of 0 (index 0 (name 0 (codes "$d")) (string 0 (codes "$length")))) (string 0 (codes " "))) no_exprs))) (stmt (perform 0 (call 0 (name 0 (codes "$write")) (expr (choice 0 (binary 0 In (string 0 (codes "$a")) (name 0 (codes "$d"))) (string 0 (codes "T")) (string 0 (codes "F"))) no_exprs))) (stmt (perform 0 (call 0 (name 0 (codes "$write")) (expr (choice 0 (binary 0 In (string 0 (codes "$b")) (name 0 (codes "$d"))) (string 0 (codes "T")) (string 0 (codes "F"))) no_exprs))) no_stmts)))))))))); at = 0 }) ∷ []; start = (codes "$start"); start_at = 0 }

abbrev pub deleted_keys : ScriptTree
deleted_keys = record { items = function_item (record { name = (codes "$start"); params = []; body = (stmt (declare 0 (codes "$d") (dictionary 0)) (stmt (store 0 (name 0 (codes "$d")) (string 0 (codes "$a")) (number 0 1)) (stmt (store 0 (name 0 (codes "$d")) (string 0 (codes "$b")) (number 0 2)) (stmt (remove 0 (name 0 (codes "$d")) (string 0 (codes "$a"))) (stmt (remove 0 (name 0 (codes "$d")) (string 0 (codes "$c"))) (stmt (perform 0 (call 0 (name 0 (codes "$write")) (expr (choice 0 (binary 0 In (string 0 (codes "$a")) (name 0 (codes "$d"))) (string 0 (codes "T")) (string 0 (codes "F"))) no_exprs))) (stmt (perform 0 (call 0 (name 0 (codes "$write")) (expr (choice 0 (binary 0 In (string 0 (codes "$b")) (name 0 (codes "$d"))) (string 0 (codes "T")) (string 0 (codes "F"))) no_exprs))) (stmt (store 0 (name 0 (codes "$d")) (string 0 (codes "$a")) (number 0 3)) (stmt (perform 0 (call 0 (name 0 (codes "$write")) (expr (binary 0 Add (decimal_of 0 (binary 0 Add (index 0 (name 0 (codes "$d")) (string 0 (codes "$a"))) (index 0 (name 0 (codes "$d")) (string 0 (codes "$b"))))) (string 0 (codes " "))) no_exprs))) no_stmts))))))))); at = 0 }) ∷ []; start = (codes "$start"); start_at = 0 }

abbrev pub new_objects_each_time : ScriptTree
new_objects_each_time = record { items = function_item (record { name = (codes "$new"); params = []; body = (stmt (return 0 (Some (dictionary 0))) no_stmts); at = 0 }) ∷ function_item (record { name = (codes "$start"); params = []; body = (stmt (declare 0 (codes "$a") (array 0 (expr (call 0 (name 0 (codes "$new")) no_exprs) (expr (call 0 (name 0 (codes "$new")) no_exprs) no_exprs)))) (stmt (store 0 (index 0 (name 0 (codes "$a")) (number 0 0)) (string 0 (codes "$k")) (number 0 1)) (stmt (perform 0 (call 0 (name 0 (codes "$write")) (expr (choice 0 (binary 0 In (string 0 (codes "$k")) (index 0 (name 0 (codes "$a")) (number 0 0))) (string 0 (codes "T")) (string 0 (codes "F"))) no_exprs))) (stmt (perform 0 (call 0 (name 0 (codes "$write")) (expr (choice 0 (binary 0 In (string 0 (codes "$k")) (index 0 (name 0 (codes "$a")) (number 0 1))) (string 0 (codes "T")) (string 0 (codes "F"))) no_exprs))) no_stmts)))); at = 0 }) ∷ []; start = (codes "$start"); start_at = 0 }

abbrev pub calls : ScriptTree
calls = record { items = function_item (record { name = (codes "$add"); params = (codes "$a") ∷ (codes "$b") ∷ []; body = (stmt (return 0 (Some (binary 0 Add (name 0 (codes "$a")) (name 0 (codes "$b"))))) no_stmts); at = 0 }) ∷ function_item (record { name = (codes "$start"); params = []; body = (stmt (perform 0 (call 0 (name 0 (codes "$write")) (expr (binary 0 Add (decimal_of 0 (call 0 (name 0 (codes "$add")) (expr (number 0 2) (expr (number 0 3) no_exprs)))) (string 0 (codes " "))) no_exprs))) (stmt (perform 0 (call 0 (name 0 (codes "$write")) (expr (binary 0 Add (decimal_of 0 (call 0 (name 0 (codes "$add")) (expr (call 0 (name 0 (codes "$add")) (expr (number 0 1) (expr (number 0 2) no_exprs))) (expr (call 0 (name 0 (codes "$add")) (expr (number 0 3) (expr (number 0 4) no_exprs))) no_exprs)))) (string 0 (codes " "))) no_exprs))) no_stmts)); at = 0 }) ∷ []; start = (codes "$start"); start_at = 0 }

abbrev pub recursion : ScriptTree
recursion = record { items = function_item (record { name = (codes "$fact"); params = (codes "$n") ∷ []; body = (stmt (return 0 (Some (choice 0 (binary 0 Less (name 0 (codes "$n")) (number 0 2)) (number 0 1) (binary 0 Multiply (name 0 (codes "$n")) (call 0 (name 0 (codes "$fact")) (expr (binary 0 Subtract (name 0 (codes "$n")) (number 0 1)) no_exprs)))))) no_stmts); at = 0 }) ∷ function_item (record { name = (codes "$fib"); params = (codes "$n") ∷ []; body = (stmt (branch 0 (binary 0 Less (name 0 (codes "$n")) (number 0 2)) (stmt (return 0 (Some (name 0 (codes "$n")))) no_stmts) no_else) (stmt (return 0 (Some (binary 0 Add (call 0 (name 0 (codes "$fib")) (expr (binary 0 Subtract (name 0 (codes "$n")) (number 0 1)) no_exprs)) (call 0 (name 0 (codes "$fib")) (expr (binary 0 Subtract (name 0 (codes "$n")) (number 0 2)) no_exprs))))) no_stmts)); at = 0 }) ∷ function_item (record { name = (codes "$start"); params = []; body = (stmt (perform 0 (call 0 (name 0 (codes "$write")) (expr (binary 0 Add (decimal_of 0 (call 0 (name 0 (codes "$fact")) (expr (number 0 10) no_exprs))) (string 0 (codes " "))) no_exprs))) (stmt (perform 0 (call 0 (name 0 (codes "$write")) (expr (binary 0 Add (decimal_of 0 (call 0 (name 0 (codes "$fib")) (expr (number 0 12) no_exprs))) (string 0 (codes " "))) no_exprs))) no_stmts)); at = 0 }) ∷ []; start = (codes "$start"); start_at = 0 }

abbrev pub calls_without_a_value : ScriptTree
calls_without_a_value = record { items = function_item (record { name = (codes "$f"); params = (codes "$n") ∷ []; body = (stmt (branch 0 (binary 0 Same (name 0 (codes "$n")) (number 0 1)) (stmt (perform 0 (call 0 (name 0 (codes "$write")) (expr (string 0 (codes "one")) no_exprs))) (stmt (return 0 None) no_stmts)) no_else) (stmt (perform 0 (call 0 (name 0 (codes "$write")) (expr (string 0 (codes "two")) no_exprs))) no_stmts)); at = 0 }) ∷ function_item (record { name = (codes "$start"); params = []; body = (stmt (perform 0 (call 0 (name 0 (codes "$f")) (expr (number 0 1) no_exprs))) (stmt (perform 0 (call 0 (name 0 (codes "$f")) (expr (number 0 2) no_exprs))) (stmt (perform 0 (call 0 (name 0 (codes "$write")) (expr (string 0 (codes ".")) no_exprs))) no_stmts))); at = 0 }) ∷ []; start = (codes "$start"); start_at = 0 }

abbrev pub functions_as_values : ScriptTree
functions_as_values = record { items = function_item (record { name = (codes "$inc"); params = (codes "$n") ∷ []; body = (stmt (return 0 (Some (binary 0 Add (name 0 (codes "$n")) (number 0 1)))) no_stmts); at = 0 }) ∷ function_item (record { name = (codes "$twice"); params = (codes "$f") ∷ (codes "$n") ∷ []; body = (stmt (return 0 (Some (call 0 (name 0 (codes "$f")) (expr (call 0 (name 0 (codes "$f")) (expr (name 0 (codes "$n")) no_exprs)) no_exprs)))) no_stmts); at = 0 }) ∷ function_item (record { name = (codes "$start"); params = []; body = (stmt (declare 0 (codes "$a") (array 0 (expr (name 0 (codes "$inc")) (expr (name 0 (codes "$twice")) no_exprs)))) (stmt (perform 0 (call 0 (name 0 (codes "$write")) (expr (binary 0 Add (decimal_of 0 (call 0 (index 0 (name 0 (codes "$a")) (number 0 0)) (expr (number 0 4) no_exprs))) (string 0 (codes " "))) no_exprs))) (stmt (perform 0 (call 0 (name 0 (codes "$write")) (expr (binary 0 Add (decimal_of 0 (call 0 (index 0 (name 0 (codes "$a")) (number 0 1)) (expr (index 0 (name 0 (codes "$a")) (number 0 0)) (expr (number 0 4) no_exprs)))) (string 0 (codes " "))) no_exprs))) (stmt (declare 0 (codes "$w") (name 0 (codes "$write"))) (stmt (perform 0 (call 0 (name 0 (codes "$w")) (expr (string 0 (codes "!")) no_exprs))) no_stmts))))); at = 0 }) ∷ []; start = (codes "$start"); start_at = 0 }

abbrev pub order_of_evaluation : ScriptTree
order_of_evaluation = record { items = function_item (record { name = (codes "$say"); params = (codes "$n") ∷ []; body = (stmt (perform 0 (call 0 (name 0 (codes "$write")) (expr (decimal_of 0 (name 0 (codes "$n"))) no_exprs))) (stmt (return 0 (Some (name 0 (codes "$n")))) no_stmts)); at = 0 }) ∷ function_item (record { name = (codes "$f"); params = (codes "$a") ∷ (codes "$b") ∷ []; body = no_stmts; at = 0 }) ∷ function_item (record { name = (codes "$start"); params = []; body = (stmt (declare 0 (codes "$a") (array 0 (expr (call 0 (name 0 (codes "$say")) (expr (number 0 1) no_exprs)) (expr (call 0 (name 0 (codes "$say")) (expr (number 0 2) no_exprs)) no_exprs)))) (stmt (store 0 (name 0 (codes "$a")) (call 0 (name 0 (codes "$say")) (expr (number 0 0) no_exprs)) (binary 0 Add (call 0 (name 0 (codes "$say")) (expr (number 0 3) no_exprs)) (call 0 (name 0 (codes "$say")) (expr (number 0 4) no_exprs)))) (stmt (perform 0 (call 0 (name 0 (codes "$f")) (expr (call 0 (name 0 (codes "$say")) (expr (number 0 5) no_exprs)) (expr (call 0 (name 0 (codes "$say")) (expr (number 0 6) no_exprs)) no_exprs)))) (stmt (perform 0 (call 0 (name 0 (codes "$write")) (expr (binary 0 Add (decimal_of 0 (index 0 (name 0 (codes "$a")) (number 0 0))) (string 0 (codes " "))) no_exprs))) no_stmts)))); at = 0 }) ∷ []; start = (codes "$start"); start_at = 0 }

abbrev pub locals_and_parameters : ScriptTree
locals_and_parameters = record { items = function_item (record { name = (codes "$f"); params = (codes "$x") ∷ (codes "$y") ∷ []; body = (stmt (branch 0 (binary 0 Less (name 0 (codes "$x")) (name 0 (codes "$y"))) (stmt (declare 0 (codes "$z") (binary 0 Subtract (name 0 (codes "$y")) (name 0 (codes "$x")))) (stmt (assign 0 (codes "$x") (binary 0 Multiply (name 0 (codes "$z")) (number 0 10))) no_stmts)) no_else) (stmt (return 0 (Some (name 0 (codes "$x")))) no_stmts)); at = 0 }) ∷ function_item (record { name = (codes "$start"); params = []; body = (stmt (declare 0 (codes "$x") (number 0 1)) (stmt (assign 0 (codes "$x") (call 0 (name 0 (codes "$f")) (expr (name 0 (codes "$x")) (expr (number 0 5) no_exprs)))) (stmt (perform 0 (call 0 (name 0 (codes "$write")) (expr (binary 0 Add (decimal_of 0 (name 0 (codes "$x"))) (string 0 (codes " "))) no_exprs))) (stmt (perform 0 (call 0 (name 0 (codes "$write")) (expr (binary 0 Add (decimal_of 0 (call 0 (name 0 (codes "$f")) (expr (number 0 2) (expr (number 0 2) no_exprs)))) (string 0 (codes " "))) no_exprs))) no_stmts)))); at = 0 }) ∷ []; start = (codes "$start"); start_at = 0 }

abbrev pub top_level_variables : ScriptTree
top_level_variables = record { items = global_item 0 (codes "$a") (number 0 2) ∷ global_item 0 (codes "$b") (binary 0 Add (call 0 (name 0 (codes "$double")) (expr (name 0 (codes "$a")) no_exprs)) (number 0 1)) ∷ function_item (record { name = (codes "$double"); params = (codes "$n") ∷ []; body = (stmt (return 0 (Some (binary 0 Multiply (name 0 (codes "$n")) (number 0 2)))) no_stmts); at = 0 }) ∷ function_item (record { name = (codes "$bump"); params = []; body = (stmt (assign 0 (codes "$a") (binary 0 Add (name 0 (codes "$a")) (name 0 (codes "$b")))) no_stmts); at = 0 }) ∷ function_item (record { name = (codes "$start"); params = []; body = (stmt (perform 0 (call 0 (name 0 (codes "$write")) (expr (binary 0 Add (decimal_of 0 (name 0 (codes "$a"))) (string 0 (codes " "))) no_exprs))) (stmt (perform 0 (call 0 (name 0 (codes "$write")) (expr (binary 0 Add (decimal_of 0 (name 0 (codes "$b"))) (string 0 (codes " "))) no_exprs))) (stmt (perform 0 (call 0 (name 0 (codes "$bump")) no_exprs)) (stmt (perform 0 (call 0 (name 0 (codes "$bump")) no_exprs)) (stmt (perform 0 (call 0 (name 0 (codes "$write")) (expr (binary 0 Add (decimal_of 0 (name 0 (codes "$a"))) (string 0 (codes " "))) no_exprs))) no_stmts))))); at = 0 }) ∷ []; start = (codes "$start"); start_at = 0 }

abbrev pub loops : ScriptTree
loops = record { items = function_item (record { name = (codes "$start"); params = []; body = (stmt (declare 0 (codes "$i") (number 0 0)) (stmt (declare 0 (codes "$s") (number 0 0)) (stmt (while 0 None (binary 0 Less (name 0 (codes "$i")) (number 0 5)) (stmt (assign 0 (codes "$i") (binary 0 Add (name 0 (codes "$i")) (number 0 1))) (stmt (branch 0 (binary 0 Same (name 0 (codes "$i")) (number 0 2)) (stmt (continue 0 None) no_stmts) no_else) (stmt (branch 0 (binary 0 Same (name 0 (codes "$i")) (number 0 5)) (stmt (break 0 None) no_stmts) no_else) (stmt (assign 0 (codes "$s") (binary 0 Add (name 0 (codes "$s")) (name 0 (codes "$i")))) no_stmts))))) (stmt (perform 0 (call 0 (name 0 (codes "$write")) (expr (binary 0 Add (decimal_of 0 (name 0 (codes "$s"))) (string 0 (codes " "))) no_exprs))) (stmt (perform 0 (call 0 (name 0 (codes "$write")) (expr (binary 0 Add (decimal_of 0 (name 0 (codes "$i"))) (string 0 (codes " "))) no_exprs))) no_stmts))))); at = 0 }) ∷ []; start = (codes "$start"); start_at = 0 }

pub record Engine3 : Type 0 where
  pub bytes_in_quotes : Agrees bytes_in_quotes [] (codes "function $start(){\n  $write(\"a\\\"b\\\\c\\x0a\\x09\\x7f\\x80\\xff~ \");\n}\n$start();\n") (97 ∷ 34 ∷ 98 ∷ 92 ∷ 99 ∷ 10 ∷ 9 ∷ 127 ∷ 128 ∷ 255 ∷ 126 ∷ 32 ∷ []) 0 []
  pub elements : Agrees elements [] (codes "function $start(){\n  var $a = [1, 2, 3];\n  $write(String($a[0] + $a[2]) + \" \");\n  $a[1] = $a[0] + 9;\n  $write(String($a[1]) + \" \");\n  $a[0] = $a;\n  $write($a[0] === $a ? \"T\" : \"F\");\n  $write(String($a[0][0][2]) + \" \");\n}\n$start();\n") (codes "4 10 T3 ") 0 []
  pub pushes_and_pops : Agrees pushes_and_pops [] (codes "function $start(){\n  var $a = [];\n  $a.push(5);\n  $a.push(\"x\");\n  $write(String($a.length) + \" \");\n  $write($a.pop());\n  $write(String($a.length) + \" \");\n  $write(String($a.pop()) + \" \");\n  $write(String($a.length) + \" \");\n  $a.push(7);\n  $a.pop();\n  $write(String($a.length) + \" \");\n}\n$start();\n") (codes "2 x1 5 0 0 ") 0 []
  pub arrays_are_shared : Agrees arrays_are_shared [] (codes "function $start(){\n  var $a = [[1], [2]];\n  var $b = $a[0];\n  $b[0] = 8;\n  $a[1] = $b;\n  $b.push(9);\n  $write(String($a[0][0]) + \" \");\n  $write(String($a[1].length) + \" \");\n  $write(String($a[1][1]) + \" \");\n}\n$start();\n") (codes "8 2 9 ") 0 []
  pub dictionaries : Agrees dictionaries [] (codes "function $start(){\n  var $d = Object.create(null);\n  $d[\"$a\"] = 1;\n  $d[\"$\"] = \"e\";\n  $d[\"$length\"] = 3;\n  $d[\"$a\"] = $d[\"$a\"] + 1;\n  $write(String($d[\"$a\"]) + \" \");\n  $write($d[\"$\"]);\n  $write(String($d[\"$length\"]) + \" \");\n  $write(\"$a\" in $d ? \"T\" : \"F\");\n  $write(\"$b\" in $d ? \"T\" : \"F\");\n}\n$start();\n") (codes "2 e3 TF") 0 []
  pub deleted_keys : Agrees deleted_keys [] (codes "function $start(){\n  var $d = Object.create(null);\n  $d[\"$a\"] = 1;\n  $d[\"$b\"] = 2;\n  delete $d[\"$a\"];\n  delete $d[\"$c\"];\n  $write(\"$a\" in $d ? \"T\" : \"F\");\n  $write(\"$b\" in $d ? \"T\" : \"F\");\n  $d[\"$a\"] = 3;\n  $write(String($d[\"$a\"] + $d[\"$b\"]) + \" \");\n}\n$start();\n") (codes "FT5 ") 0 []
  pub new_objects_each_time : Agrees new_objects_each_time [] (codes "function $new(){\n  return Object.create(null);\n}\nfunction $start(){\n  var $a = [$new(), $new()];\n  $a[0][\"$k\"] = 1;\n  $write(\"$k\" in $a[0] ? \"T\" : \"F\");\n  $write(\"$k\" in $a[1] ? \"T\" : \"F\");\n}\n$start();\n") (codes "TF") 0 []
  pub calls : Agrees calls [] (codes "function $add($a, $b){\n  return $a + $b;\n}\nfunction $start(){\n  $write(String($add(2, 3)) + \" \");\n  $write(String($add($add(1, 2), $add(3, 4))) + \" \");\n}\n$start();\n") (codes "5 10 ") 0 []
  pub recursion : Agrees recursion [] (codes "function $fact($n){\n  return $n < 2 ? 1 : $n * $fact($n - 1);\n}\nfunction $fib($n){\n  if($n < 2){\n    return $n;\n  }\n  return $fib($n - 1) + $fib($n - 2);\n}\nfunction $start(){\n  $write(String($fact(10)) + \" \");\n  $write(String($fib(12)) + \" \");\n}\n$start();\n") (codes "3628800 144 ") 0 []
  pub calls_without_a_value : Agrees calls_without_a_value [] (codes "function $f($n){\n  if($n === 1){\n    $write(\"one\");\n    return;\n  }\n  $write(\"two\");\n}\nfunction $start(){\n  $f(1);\n  $f(2);\n  $write(\".\");\n}\n$start();\n") (codes "onetwo.") 0 []
  pub functions_as_values : Agrees functions_as_values [] (codes "function $inc($n){\n  return $n + 1;\n}\nfunction $twice($f, $n){\n  return $f($f($n));\n}\nfunction $start(){\n  var $a = [$inc, $twice];\n  $write(String($a[0](4)) + \" \");\n  $write(String($a[1]($a[0], 4)) + \" \");\n  var $w = $write;\n  $w(\"!\");\n}\n$start();\n") (codes "5 6 !") 0 []
  pub order_of_evaluation : Agrees order_of_evaluation [] (codes "function $say($n){\n  $write(String($n));\n  return $n;\n}\nfunction $f($a, $b){\n}\nfunction $start(){\n  var $a = [$say(1), $say(2)];\n  $a[$say(0)] = $say(3) + $say(4);\n  $f($say(5), $say(6));\n  $write(String($a[0]) + \" \");\n}\n$start();\n") (codes "12034567 ") 0 []
  pub locals_and_parameters : Agrees locals_and_parameters [] (codes "function $f($x, $y){\n  if($x < $y){\n    var $z = $y - $x;\n    $x = $z * 10;\n  }\n  return $x;\n}\nfunction $start(){\n  var $x = 1;\n  $x = $f($x, 5);\n  $write(String($x) + \" \");\n  $write(String($f(2, 2)) + \" \");\n}\n$start();\n") (codes "40 2 ") 0 []
  pub top_level_variables : Agrees top_level_variables [] (codes "var $a = 2;\nvar $b = $double($a) + 1;\nfunction $double($n){\n  return $n * 2;\n}\nfunction $bump(){\n  $a = $a + $b;\n}\nfunction $start(){\n  $write(String($a) + \" \");\n  $write(String($b) + \" \");\n  $bump();\n  $bump();\n  $write(String($a) + \" \");\n}\n$start();\n") (codes "2 5 12 ") 0 []
  pub loops : Agrees loops [] (codes "function $start(){\n  var $i = 0;\n  var $s = 0;\n  while($i < 5){\n    $i = $i + 1;\n    if($i === 2){\n      continue;\n    }\n    if($i === 5){\n      break;\n    }\n    $s = $s + $i;\n  }\n  $write(String($s) + \" \");\n  $write(String($i) + \" \");\n}\n$start();\n") (codes "8 5 ") 0 []

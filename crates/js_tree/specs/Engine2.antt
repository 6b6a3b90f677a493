-- Scripts that node and mujs ran as these rows say: strict_equality to strings_of_one_byte. Written by bench/engines/trees.py.
use Rattle.std.specs.Prelude.{[], ◌∷◌, Some, true, false, codes}
use Rattle.js_tree.specs.Script.{number, string, boolean, null, name, unary, binary, both, either, choice, call, length_of, char_code_at, substring, array, dictionary, decimal_of, from_char_code, no_exprs, expr, declare, perform, return, no_stmts, stmt, function_item, ScriptTree}
use Rattle.js_tree.specs.Agrees.{Agrees}
use Rattle.js_tree.specs.declared.tree.BinaryOp.TheVariants.{BitOr, BitXor, BitAnd, Same, Different, Less, ShiftLeft, Add, Subtract, Multiply, Remainder}
use Rattle.js_tree.specs.declared.tree.UnaryOp.TheVariants.{Negate, Not}

abbrev pub strict_equality : ScriptTree
strict_equality = record { items = function_item (record { name = (codes "$start"); params = []; body = (stmt (perform 0 (call 0 (name 0 (codes "$write")) (expr (choice 0 (binary 0 Same (number 0 1) (number 0 1)) (string 0 (codes "T")) (string 0 (codes "F"))) no_exprs))) (stmt (perform 0 (call 0 (name 0 (codes "$write")) (expr (choice 0 (binary 0 Same (number 0 1) (string 0 (codes "1"))) (string 0 (codes "T")) (string 0 (codes "F"))) no_exprs))) (stmt (perform 0 (call 0 (name 0 (codes "$write")) (expr (choice 0 (binary 0 Same (boolean 0 true) (boolean 0 true)) (string 0 (codes "T")) (string 0 (codes "F"))) no_exprs))) (stmt (perform 0 (call 0 (name 0 (codes "$write")) (expr (choice 0 (binary 0 Same (boolean 0 true) (number 0 1)) (string 0 (codes "T")) (string 0 (codes "F"))) no_exprs))) (stmt (perform 0 (call 0 (name 0 (codes "$write")) (expr (choice 0 (binary 0 Same (null 0) (null 0)) (string 0 (codes "T")) (string 0 (codes "F"))) no_exprs))) (stmt (perform 0 (call 0 (name 0 (codes "$write")) (expr (choice 0 (binary 0 Same (null 0) (boolean 0 false)) (string 0 (codes "T")) (string 0 (codes "F"))) no_exprs))) (stmt (perform 0 (call 0 (name 0 (codes "$write")) (expr (choice 0 (binary 0 Same (string 0 (codes "ab")) (string 0 (codes "ab"))) (string 0 (codes "T")) (string 0 (codes "F"))) no_exprs))) (stmt (perform 0 (call 0 (name 0 (codes "$write")) (expr (choice 0 (binary 0 Same (string 0 []) (null 0)) (string 0 (codes "T")) (string 0 (codes "F"))) no_exprs))) no_stmts)))))))); at = 0 }) ∷ []; start = (codes "$start"); start_at = 0 }

abbrev pub strict_difference : ScriptTree
strict_difference = record { items = function_item (record { name = (codes "$start"); params = []; body = (stmt (perform 0 (call 0 (name 0 (codes "$write")) (expr (choice 0 (binary 0 Different (number 0 1) (number 0 2)) (string 0 (codes "T")) (string 0 (codes "F"))) no_exprs))) (stmt (perform 0 (call 0 (name 0 (codes "$write")) (expr (choice 0 (binary 0 Different (number 0 2) (number 0 2)) (string 0 (codes "T")) (string 0 (codes "F"))) no_exprs))) (stmt (perform 0 (call 0 (name 0 (codes "$write")) (expr (choice 0 (binary 0 Different (string 0 (codes "a")) (string 0 (codes "b"))) (string 0 (codes "T")) (string 0 (codes "F"))) no_exprs))) (stmt (perform 0 (call 0 (name 0 (codes "$write")) (expr (choice 0 (binary 0 Different (null 0) (number 0 0)) (string 0 (codes "T")) (string 0 (codes "F"))) no_exprs))) no_stmts)))); at = 0 }) ∷ []; start = (codes "$start"); start_at = 0 }

abbrev pub arrays_by_identity : ScriptTree
arrays_by_identity = record { items = function_item (record { name = (codes "$start"); params = []; body = (stmt (declare 0 (codes "$a") (array 0 (expr (number 0 1) no_exprs))) (stmt (declare 0 (codes "$b") (name 0 (codes "$a"))) (stmt (perform 0 (call 0 (name 0 (codes "$write")) (expr (choice 0 (binary 0 Same (name 0 (codes "$a")) (name 0 (codes "$b"))) (string 0 (codes "T")) (string 0 (codes "F"))) no_exprs))) (stmt (perform 0 (call 0 (name 0 (codes "$write")) (expr (choice 0 (binary 0 Same (name 0 (codes "$a")) (array 0 (expr (number 0 1) no_exprs))) (string 0 (codes "T")) (string 0 (codes "F"))) no_exprs))) (stmt (perform 0 (call 0 (name 0 (codes "$write")) (expr (choice 0 (binary 0 Different (name 0 (codes "$a")) (array 0 (expr (number 0 1) no_exprs))) (string 0 (codes "T")) (string 0 (codes "F"))) no_exprs))) (stmt (perform 0 (call 0 (name 0 (codes "$write")) (expr (choice 0 (binary 0 Same (array 0 no_exprs) (array 0 no_exprs)) (string 0 (codes "T")) (string 0 (codes "F"))) no_exprs))) (stmt (perform 0 (call 0 (name 0 (codes "$write")) (expr (choice 0 (binary 0 Same (dictionary 0) (dictionary 0)) (string 0 (codes "T")) (string 0 (codes "F"))) no_exprs))) no_stmts))))))); at = 0 }) ∷ []; start = (codes "$start"); start_at = 0 }

abbrev pub functions_by_name : ScriptTree
functions_by_name = record { items = function_item (record { name = (codes "$f"); params = []; body = no_stmts; at = 0 }) ∷ function_item (record { name = (codes "$g"); params = []; body = no_stmts; at = 0 }) ∷ function_item (record { name = (codes "$start"); params = []; body = (stmt (perform 0 (call 0 (name 0 (codes "$write")) (expr (choice 0 (binary 0 Same (name 0 (codes "$f")) (name 0 (codes "$f"))) (string 0 (codes "T")) (string 0 (codes "F"))) no_exprs))) (stmt (perform 0 (call 0 (name 0 (codes "$write")) (expr (choice 0 (binary 0 Same (name 0 (codes "$f")) (name 0 (codes "$g"))) (string 0 (codes "T")) (string 0 (codes "F"))) no_exprs))) (stmt (perform 0 (call 0 (name 0 (codes "$write")) (expr (choice 0 (binary 0 Same (name 0 (codes "$f")) (null 0)) (string 0 (codes "T")) (string 0 (codes "F"))) no_exprs))) no_stmts))); at = 0 }) ∷ []; start = (codes "$start"); start_at = 0 }

abbrev pub one_zero : ScriptTree
one_zero = record { items = function_item (record { name = (codes "$start"); params = []; body = (stmt (perform 0 (call 0 (name 0 (codes "$write")) (expr (choice 0 (binary 0 Same (number 0 0) (unary 0 Negate (number 0 0))) (string 0 (codes "T")) (string 0 (codes "F"))) no_exprs))) (stmt (perform 0 (call 0 (name 0 (codes "$write")) (expr (choice 0 (binary 0 Less (unary 0 Negate (number 0 0)) (number 0 0)) (string 0 (codes "T")) (string 0 (codes "F"))) no_exprs))) (stmt (perform 0 (call 0 (name 0 (codes "$write")) (expr (binary 0 Add (decimal_of 0 (unary 0 Negate (number 0 0))) (string 0 (codes " "))) no_exprs))) (stmt (perform 0 (call 0 (name 0 (codes "$write")) (expr (binary 0 Add (decimal_of 0 (binary 0 Multiply (number 0 0) (unary 0 Negate (number 0 5)))) (string 0 (codes " "))) no_exprs))) (stmt (perform 0 (call 0 (name 0 (codes "$write")) (expr (binary 0 Add (decimal_of 0 (binary 0 Remainder (unary 0 Negate (number 0 4)) (number 0 4))) (string 0 (codes " "))) no_exprs))) (stmt (perform 0 (call 0 (name 0 (codes "$write")) (expr (choice 0 (binary 0 Same (binary 0 Multiply (number 0 0) (unary 0 Negate (number 0 1))) (number 0 0)) (string 0 (codes "T")) (string 0 (codes "F"))) no_exprs))) no_stmts)))))); at = 0 }) ∷ []; start = (codes "$start"); start_at = 0 }

abbrev pub conditions_not : ScriptTree
conditions_not = record { items = function_item (record { name = (codes "$start"); params = []; body = (stmt (perform 0 (call 0 (name 0 (codes "$write")) (expr (choice 0 (unary 0 Not (boolean 0 true)) (string 0 (codes "T")) (string 0 (codes "F"))) no_exprs))) (stmt (perform 0 (call 0 (name 0 (codes "$write")) (expr (choice 0 (unary 0 Not (boolean 0 false)) (string 0 (codes "T")) (string 0 (codes "F"))) no_exprs))) (stmt (perform 0 (call 0 (name 0 (codes "$write")) (expr (choice 0 (unary 0 Not (binary 0 Less (number 0 1) (number 0 2))) (string 0 (codes "T")) (string 0 (codes "F"))) no_exprs))) no_stmts))); at = 0 }) ∷ []; start = (codes "$start"); start_at = 0 }

abbrev pub both_and_either : ScriptTree
both_and_either = record { items = function_item (record { name = (codes "$say"); params = (codes "$s") ∷ (codes "$b") ∷ []; body = (stmt (perform 0 (call 0 (name 0 (codes "$write")) (expr (name 0 (codes "$s")) no_exprs))) (stmt (return 0 (Some (name 0 (codes "$b")))) no_stmts)); at = 0 }) ∷ function_item (record { name = (codes "$start"); params = []; body = (stmt (perform 0 (call 0 (name 0 (codes "$write")) (expr (choice 0 (both 0 (call 0 (name 0 (codes "$say")) (expr (string 0 (codes "a")) (expr (boolean 0 true) no_exprs))) (call 0 (name 0 (codes "$say")) (expr (string 0 (codes "b")) (expr (boolean 0 false) no_exprs)))) (string 0 (codes "T")) (string 0 (codes "F"))) no_exprs))) (stmt (perform 0 (call 0 (name 0 (codes "$write")) (expr (choice 0 (both 0 (call 0 (name 0 (codes "$say")) (expr (string 0 (codes "c")) (expr (boolean 0 false) no_exprs))) (call 0 (name 0 (codes "$say")) (expr (string 0 (codes "d")) (expr (boolean 0 true) no_exprs)))) (string 0 (codes "T")) (string 0 (codes "F"))) no_exprs))) (stmt (perform 0 (call 0 (name 0 (codes "$write")) (expr (choice 0 (either 0 (call 0 (name 0 (codes "$say")) (expr (string 0 (codes "e")) (expr (boolean 0 true) no_exprs))) (call 0 (name 0 (codes "$say")) (expr (string 0 (codes "f")) (expr (boolean 0 true) no_exprs)))) (string 0 (codes "T")) (string 0 (codes "F"))) no_exprs))) (stmt (perform 0 (call 0 (name 0 (codes "$write")) (expr (choice 0 (either 0 (call 0 (name 0 (codes "$say")) (expr (string 0 (codes "g")) (expr (boolean 0 false) no_exprs))) (call 0 (name 0 (codes "$say")) (expr (string 0 (codes "h")) (expr (boolean 0 true) no_exprs)))) (string 0 (codes "T")) (string 0 (codes "F"))) no_exprs))) no_stmts)))); at = 0 }) ∷ []; start = (codes "$start"); start_at = 0 }

abbrev pub last_side_is_given : ScriptTree
last_side_is_given = record { items = function_item (record { name = (codes "$start"); params = []; body = (stmt (perform 0 (call 0 (name 0 (codes "$write")) (expr (both 0 (boolean 0 true) (string 0 (codes "x"))) no_exprs))) (stmt (perform 0 (call 0 (name 0 (codes "$write")) (expr (either 0 (boolean 0 false) (string 0 (codes "y"))) no_exprs))) (stmt (perform 0 (call 0 (name 0 (codes "$write")) (expr (either 0 (both 0 (boolean 0 true) (boolean 0 false)) (string 0 (codes "z"))) no_exprs))) no_stmts))); at = 0 }) ∷ []; start = (codes "$start"); start_at = 0 }

abbrev pub choices_of_values : ScriptTree
choices_of_values = record { items = function_item (record { name = (codes "$start"); params = []; body = (stmt (perform 0 (call 0 (name 0 (codes "$write")) (expr (choice 0 (boolean 0 true) (string 0 (codes "a")) (string 0 (codes "b"))) no_exprs))) (stmt (perform 0 (call 0 (name 0 (codes "$write")) (expr (choice 0 (boolean 0 false) (string 0 (codes "a")) (choice 0 (boolean 0 true) (string 0 (codes "c")) (string 0 (codes "d")))) no_exprs))) (stmt (perform 0 (call 0 (name 0 (codes "$write")) (expr (choice 0 (choice 0 (boolean 0 false) (boolean 0 true) (boolean 0 false)) (string 0 (codes "e")) (string 0 (codes "f"))) no_exprs))) no_stmts))); at = 0 }) ∷ []; start = (codes "$start"); start_at = 0 }

abbrev pub precedence : ScriptTree
precedence = record { items = function_item (record { name = (codes "$start"); params = []; body = (stmt (perform 0 (call 0 (name 0 (codes "$write")) (expr (binary 0 Add (decimal_of 0 (binary 0 ShiftLeft (binary 0 Add (number 0 2) (number 0 3)) (number 0 1))) (string 0 (codes " "))) no_exprs))) (stmt (perform 0 (call 0 (name 0 (codes "$write")) (expr (binary 0 Add (decimal_of 0 (binary 0 Add (number 0 2) (binary 0 ShiftLeft (number 0 3) (number 0 1)))) (string 0 (codes " "))) no_exprs))) (stmt (perform 0 (call 0 (name 0 (codes "$write")) (expr (binary 0 Add (decimal_of 0 (binary 0 BitOr (number 0 1) (binary 0 BitXor (number 0 2) (binary 0 BitAnd (number 0 3) (number 0 4))))) (string 0 (codes " "))) no_exprs))) (stmt (perform 0 (call 0 (name 0 (codes "$write")) (expr (binary 0 Add (decimal_of 0 (binary 0 BitAnd (binary 0 BitOr (number 0 1) (binary 0 BitXor (number 0 2) (number 0 3))) (number 0 4))) (string 0 (codes " "))) no_exprs))) (stmt (perform 0 (call 0 (name 0 (codes "$write")) (expr (choice 0 (binary 0 Same (binary 0 Less (number 0 1) (number 0 2)) (boolean 0 true)) (string 0 (codes "T")) (string 0 (codes "F"))) no_exprs))) (stmt (perform 0 (call 0 (name 0 (codes "$write")) (expr (choice 0 (binary 0 Same (binary 0 BitAnd (number 0 5) (number 0 4)) (number 0 4)) (string 0 (codes "T")) (string 0 (codes "F"))) no_exprs))) (stmt (perform 0 (call 0 (name 0 (codes "$write")) (expr (binary 0 Add (decimal_of 0 (unary 0 Negate (unary 0 Negate (number 0 1)))) (string 0 (codes " "))) no_exprs))) (stmt (perform 0 (call 0 (name 0 (codes "$write")) (expr (binary 0 Add (decimal_of 0 (binary 0 Subtract (number 0 1) (unary 0 Negate (number 0 1)))) (string 0 (codes " "))) no_exprs))) (stmt (perform 0 (call 0 (name 0 (codes "$write")) (expr (binary 0 Add (decimal_of 0 (unary 0 Negate (binary 0 Subtract (number 0 2) (number 0 5)))) (string 0 (codes " "))) no_exprs))) no_stmts))))))))); at = 0 }) ∷ []; start = (codes "$start"); start_at = 0 }

abbrev pub lengths_of_strings : ScriptTree
lengths_of_strings = record { items = function_item (record { name = (codes "$start"); params = []; body = (stmt (perform 0 (call 0 (name 0 (codes "$write")) (expr (binary 0 Add (decimal_of 0 (length_of 0 (string 0 []))) (string 0 (codes " "))) no_exprs))) (stmt (perform 0 (call 0 (name 0 (codes "$write")) (expr (binary 0 Add (decimal_of 0 (length_of 0 (string 0 (codes "abc")))) (string 0 (codes " "))) no_exprs))) (stmt (perform 0 (call 0 (name 0 (codes "$write")) (expr (binary 0 Add (decimal_of 0 (length_of 0 (binary 0 Add (string 0 (codes "a")) (string 0 (codes "bc"))))) (string 0 (codes " "))) no_exprs))) (stmt (perform 0 (call 0 (name 0 (codes "$write")) (expr (binary 0 Add (decimal_of 0 (length_of 0 (string 0 (0 ∷ 255 ∷ [])))) (string 0 (codes " "))) no_exprs))) no_stmts)))); at = 0 }) ∷ []; start = (codes "$start"); start_at = 0 }

abbrev pub bytes_of_strings : ScriptTree
bytes_of_strings = record { items = function_item (record { name = (codes "$start"); params = []; body = (stmt (perform 0 (call 0 (name 0 (codes "$write")) (expr (binary 0 Add (decimal_of 0 (char_code_at 0 (string 0 (codes "abc")) (number 0 0))) (string 0 (codes " "))) no_exprs))) (stmt (perform 0 (call 0 (name 0 (codes "$write")) (expr (binary 0 Add (decimal_of 0 (char_code_at 0 (string 0 (codes "abc")) (number 0 2))) (string 0 (codes " "))) no_exprs))) (stmt (perform 0 (call 0 (name 0 (codes "$write")) (expr (binary 0 Add (decimal_of 0 (char_code_at 0 (string 0 (255 ∷ 0 ∷ [])) (number 0 0))) (string 0 (codes " "))) no_exprs))) (stmt (perform 0 (call 0 (name 0 (codes "$write")) (expr (binary 0 Add (decimal_of 0 (char_code_at 0 (string 0 (codes "\"\\\n")) (number 0 1))) (string 0 (codes " "))) no_exprs))) no_stmts)))); at = 0 }) ∷ []; start = (codes "$start"); start_at = 0 }

abbrev pub parts_of_strings : ScriptTree
parts_of_strings = record { items = function_item (record { name = (codes "$start"); params = []; body = (stmt (perform 0 (call 0 (name 0 (codes "$write")) (expr (substring 0 (string 0 (codes "hello")) (number 0 1) (number 0 3)) no_exprs))) (stmt (perform 0 (call 0 (name 0 (codes "$write")) (expr (substring 0 (string 0 (codes "hello")) (number 0 2) (number 0 2)) no_exprs))) (stmt (perform 0 (call 0 (name 0 (codes "$write")) (expr (substring 0 (string 0 (codes "hello")) (number 0 0) (number 0 5)) no_exprs))) (stmt (perform 0 (call 0 (name 0 (codes "$write")) (expr (substring 0 (string 0 (codes "hello")) (number 0 5) (number 0 5)) no_exprs))) no_stmts)))); at = 0 }) ∷ []; start = (codes "$start"); start_at = 0 }

abbrev pub texts_of_numbers : ScriptTree
texts_of_numbers = record { items = function_item (record { name = (codes "$start"); params = []; body = (stmt (perform 0 (call 0 (name 0 (codes "$write")) (expr (decimal_of 0 (number 0 0)) no_exprs))) (stmt (perform 0 (call 0 (name 0 (codes "$write")) (expr (decimal_of 0 (unary 0 Negate (number 0 0))) no_exprs))) (stmt (perform 0 (call 0 (name 0 (codes "$write")) (expr (decimal_of 0 (number 0 120)) no_exprs))) (stmt (perform 0 (call 0 (name 0 (codes "$write")) (expr (decimal_of 0 (unary 0 Negate (number 0 9007199254740992))) no_exprs))) (stmt (perform 0 (call 0 (name 0 (codes "$write")) (expr (decimal_of 0 (number 0 9007199254740992)) no_exprs))) no_stmts))))); at = 0 }) ∷ []; start = (codes "$start"); start_at = 0 }

abbrev pub strings_of_one_byte : ScriptTree
strings_of_one_byte = record { items = function_item (record { name = (codes "$start"); params = []; body = (stmt (perform 0 (call 0 (name 0 (codes "$write")) (expr (from_char_code 0 (number 0 65)) no_exprs))) (stmt (perform 0 (call 0 (name 0 (codes "$write")) (expr (from_char_code 0 (number 0 0)) no_exprs))) (stmt (perform 0 (call 0 (name 0 (codes "$write")) (expr (from_char_code 0 (number 0 255)) no_exprs))) (stmt (perform 0 (call 0 (name 0 (codes "$write")) (expr (choice 0 (binary 0 Same (from_char_code 0 (number 0 97)) (string 0 (codes "a"))) (string 0 (codes "T")) (string 0 (codes "F"))) no_exprs))) no_stmts)))); at = 0 }) ∷ []; start = (codes "$start"); start_at = 0 }

pub record Engine2 : Type 0 where
  pub strict_equality : Agrees strict_equality [] (codes "function $start(){\n  $write(1 === 1 ? \"T\" : \"F\");\n  $write(1 === \"1\" ? \"T\" : \"F\");\n  $write(true === true ? \"T\" : \"F\");\n  $write(true === 1 ? \"T\" : \"F\");\n  $write(null === null ? \"T\" : \"F\");\n  $write(null === false ? \"T\" : \"F\");\n  $write(\"ab\" === \"ab\" ? \"T\" : \"F\");\n  $write(\"\" === null ? \"T\" : \"F\");\n}\n$start();\n") (codes "TFTFTFTF") 0 []
  pub strict_difference : Agrees strict_difference [] (codes "function $start(){\n  $write(1 !== 2 ? \"T\" : \"F\");\n  $write(2 !== 2 ? \"T\" : \"F\");\n  $write(\"a\" !== \"b\" ? \"T\" : \"F\");\n  $write(null !== 0 ? \"T\" : \"F\");\n}\n$start();\n") (codes "TFTT") 0 []
  pub arrays_by_identity : Agrees arrays_by_identity [] (codes "function $start(){\n  var $a = [1];\n  var $b = $a;\n  $write($a === $b ? \"T\" : \"F\");\n  $write($a === [1] ? \"T\" : \"F\");\n  $write($a !== [1] ? \"T\" : \"F\");\n  $write([] === [] ? \"T\" : \"F\");\n  $write(Object.create(null) === Object.create(null) ? \"T\" : \"F\");\n}\n$start();\n") (codes "TFTFF") 0 []
  pub functions_by_name : Agrees functions_by_name [] (codes "function $f(){\n}\nfunction $g(){\n}\nfunction $start(){\n  $write($f === $f ? \"T\" : \"F\");\n  $write($f === $g ? \"T\" : \"F\");\n  $write($f === null ? \"T\" : \"F\");\n}\n$start();\n") (codes "TFF") 0 []
  pub one_zero : Agrees one_zero [] (codes "function $start(){\n  $write(0 === -0 ? \"T\" : \"F\");\n  $write(-0 < 0 ? \"T\" : \"F\");\n  $write(String(-0) + \" \");\n  $write(String(0 * -5) + \" \");\n  $write(String(-4 % 4) + \" \");\n  $write(0 * -1 === 0 ? \"T\" : \"F\");\n}\n$start();\n") (codes "TF0 0 0 T") 0 []
  pub conditions_not : Agrees conditions_not [] (codes "function $start(){\n  $write(!true ? \"T\" : \"F\");\n  $write(!false ? \"T\" : \"F\");\n  $write(!(1 < 2) ? \"T\" : \"F\");\n}\n$start();\n") (codes "FTF") 0 []
  pub both_and_either : Agrees both_and_either [] (codes "function $say($s, $b){\n  $write($s);\n  return $b;\n}\nfunction $start(){\n  $write($say(\"a\", true) && $say(\"b\", false) ? \"T\" : \"F\");\n  $write($say(\"c\", false) && $say(\"d\", true) ? \"T\" : \"F\");\n  $write($say(\"e\", true) || $say(\"f\", true) ? \"T\" : \"F\");\n  $write($say(\"g\", false) || $say(\"h\", true) ? \"T\" : \"F\");\n}\n$start();\n") (codes "abFcFeTghT") 0 []
  pub last_side_is_given : Agrees last_side_is_given [] (codes "function $start(){\n  $write(true && \"x\");\n  $write(false || \"y\");\n  $write(true && false || \"z\");\n}\n$start();\n") (codes "xyz") 0 []
  pub choices_of_values : Agrees choices_of_values [] (codes "function $start(){\n  $write(true ? \"a\" : \"b\");\n  $write(false ? \"a\" : true ? \"c\" : \"d\");\n  $write((false ? true : false) ? \"e\" : \"f\");\n}\n$start();\n") (codes "acf") 0 []
  pub precedence : Agrees precedence [] (codes "function $start(){\n  $write(String(2 + 3 << 1) + \" \");\n  $write(String(2 + (3 << 1)) + \" \");\n  $write(String(1 | 2 ^ 3 & 4) + \" \");\n  $write(String((1 | 2 ^ 3) & 4) + \" \");\n  $write(1 < 2 === true ? \"T\" : \"F\");\n  $write((5 & 4) === 4 ? \"T\" : \"F\");\n  $write(String(- -1) + \" \");\n  $write(String(1 - -1) + \" \");\n  $write(String(-(2 - 5)) + \" \");\n}\n$start();\n") (codes "10 8 3 0 TT1 2 3 ") 0 []
  pub lengths_of_strings : Agrees lengths_of_strings [] (codes "function $start(){\n  $write(String(\"\".length) + \" \");\n  $write(String(\"abc\".length) + \" \");\n  $write(String((\"a\" + \"bc\").length) + \" \");\n  $write(String(\"\\x00\\xff\".length) + \" \");\n}\n$start();\n") (codes "0 3 3 2 ") 0 []
  pub bytes_of_strings : Agrees bytes_of_strings [] (codes "function $start(){\n  $write(String(\"abc\".charCodeAt(0)) + \" \");\n  $write(String(\"abc\".charCodeAt(2)) + \" \");\n  $write(String(\"\\xff\\x00\".charCodeAt(0)) + \" \");\n  $write(String(\"\\\"\\\\\\x0a\".charCodeAt(1)) + \" \");\n}\n$start();\n") (codes "97 99 255 92 ") 0 []
  pub parts_of_strings : Agrees parts_of_strings [] (codes "function $start(){\n  $write(\"hello\".substring(1, 3));\n  $write(\"hello\".substring(2, 2));\n  $write(\"hello\".substring(0, 5));\n  $write(\"hello\".substring(5, 5));\n}\n$start();\n") (codes "elhello") 0 []
  pub texts_of_numbers : Agrees texts_of_numbers [] (codes "function $start(){\n  $write(String(0));\n  $write(String(-0));\n  $write(String(120));\n  $write(String(-9007199254740992));\n  $write(String(9007199254740992));\n}\n$start();\n") (codes "00120-90071992547409929007199254740992") 0 []
  pub strings_of_one_byte : Agrees strings_of_one_byte [] (codes "function $start(){\n  $write(String.fromCharCode(65));\n  $write(String.fromCharCode(0));\n  $write(String.fromCharCode(255));\n  $write(String.fromCharCode(97) === \"a\" ? \"T\" : \"F\");\n}\n$start();\n") (65 ∷ 0 ∷ 255 ∷ 84 ∷ []) 0 []

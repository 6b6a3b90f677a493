-- Scripts that node and mujs ran as these rows say: prints to orders_of_strings. Written by bench/engines/trees.py.
use Rattle.std.specs.Prelude.{[], ◌∷◌, codes}
use Rattle.js_tree.specs.Script.{number, string, name, unary, binary, choice, call, decimal_of, no_exprs, expr, perform, no_stmts, stmt, function_item, ScriptTree}
use Rattle.js_tree.specs.Agrees.{Agrees}
use Rattle.js_tree.specs.declared.tree.BinaryOp.TheVariants.{BitOr, BitXor, BitAnd, Less, LessEqual, Greater, GreaterEqual, ShiftLeft, ShiftRight, ShiftRightUnsigned, Add, Subtract, Multiply, Divide, Remainder}
use Rattle.js_tree.specs.declared.tree.UnaryOp.TheVariants.{Negate, Complement}

abbrev pub prints : ScriptTree
prints = record { items = function_item (record { name = (codes "$start"); params = []; body = (stmt (perform 0 (call 0 (name 0 (codes "$write")) (expr (string 0 (codes "hi")) no_exprs))) no_stmts); at = 0 }) ∷ []; start = (codes "$start"); start_at = 0 }

abbrev pub sums_and_products : ScriptTree
sums_and_products = record { items = function_item (record { name = (codes "$start"); params = []; body = (stmt (perform 0 (call 0 (name 0 (codes "$write")) (expr (binary 0 Add (decimal_of 0 (binary 0 Subtract (binary 0 Add (number 0 2) (binary 0 Multiply (number 0 3) (number 0 4))) (number 0 5))) (string 0 (codes " "))) no_exprs))) (stmt (perform 0 (call 0 (name 0 (codes "$write")) (expr (binary 0 Add (decimal_of 0 (binary 0 Multiply (binary 0 Add (number 0 2) (number 0 3)) (number 0 4))) (string 0 (codes " "))) no_exprs))) (stmt (perform 0 (call 0 (name 0 (codes "$write")) (expr (binary 0 Add (decimal_of 0 (binary 0 Subtract (number 0 2) (binary 0 Subtract (number 0 3) (number 0 4)))) (string 0 (codes " "))) no_exprs))) no_stmts))); at = 0 }) ∷ []; start = (codes "$start"); start_at = 0 }

abbrev pub quotients : ScriptTree
quotients = record { items = function_item (record { name = (codes "$start"); params = []; body = (stmt (perform 0 (call 0 (name 0 (codes "$write")) (expr (binary 0 Add (decimal_of 0 (binary 0 Divide (number 0 84) (unary 0 Negate (number 0 7)))) (string 0 (codes " "))) no_exprs))) (stmt (perform 0 (call 0 (name 0 (codes "$write")) (expr (binary 0 Add (decimal_of 0 (binary 0 Divide (unary 0 Negate (number 0 84)) (number 0 7))) (string 0 (codes " "))) no_exprs))) (stmt (perform 0 (call 0 (name 0 (codes "$write")) (expr (binary 0 Add (decimal_of 0 (binary 0 Divide (number 0 0) (number 0 5))) (string 0 (codes " "))) no_exprs))) (stmt (perform 0 (call 0 (name 0 (codes "$write")) (expr (binary 0 Add (decimal_of 0 (binary 0 Divide (number 0 9007199254740992) (number 0 2))) (string 0 (codes " "))) no_exprs))) no_stmts)))); at = 0 }) ∷ []; start = (codes "$start"); start_at = 0 }

abbrev pub remainders : ScriptTree
remainders = record { items = function_item (record { name = (codes "$start"); params = []; body = (stmt (perform 0 (call 0 (name 0 (codes "$write")) (expr (binary 0 Add (decimal_of 0 (binary 0 Remainder (unary 0 Negate (number 0 7)) (number 0 2))) (string 0 (codes " "))) no_exprs))) (stmt (perform 0 (call 0 (name 0 (codes "$write")) (expr (binary 0 Add (decimal_of 0 (binary 0 Remainder (number 0 7) (unary 0 Negate (number 0 2)))) (string 0 (codes " "))) no_exprs))) (stmt (perform 0 (call 0 (name 0 (codes "$write")) (expr (binary 0 Add (decimal_of 0 (binary 0 Remainder (unary 0 Negate (number 0 7)) (unary 0 Negate (number 0 2)))) (string 0 (codes " "))) no_exprs))) (stmt (perform 0 (call 0 (name 0 (codes "$write")) (expr (binary 0 Add (decimal_of 0 (binary 0 Remainder (unary 0 Negate (number 0 4)) (number 0 2))) (string 0 (codes " "))) no_exprs))) (stmt (perform 0 (call 0 (name 0 (codes "$write")) (expr (binary 0 Add (decimal_of 0 (binary 0 Remainder (number 0 7) (number 0 9))) (string 0 (codes " "))) no_exprs))) no_stmts))))); at = 0 }) ∷ []; start = (codes "$start"); start_at = 0 }

abbrev pub largest_numbers : ScriptTree
largest_numbers = record { items = function_item (record { name = (codes "$start"); params = []; body = (stmt (perform 0 (call 0 (name 0 (codes "$write")) (expr (binary 0 Add (decimal_of 0 (binary 0 Add (number 0 9007199254740991) (number 0 1))) (string 0 (codes " "))) no_exprs))) (stmt (perform 0 (call 0 (name 0 (codes "$write")) (expr (binary 0 Add (decimal_of 0 (unary 0 Negate (number 0 9007199254740992))) (string 0 (codes " "))) no_exprs))) (stmt (perform 0 (call 0 (name 0 (codes "$write")) (expr (binary 0 Add (decimal_of 0 (binary 0 Add (binary 0 Multiply (number 0 3002399751580330) (number 0 3)) (number 0 2))) (string 0 (codes " "))) no_exprs))) no_stmts))); at = 0 }) ∷ []; start = (codes "$start"); start_at = 0 }

abbrev pub joined_strings : ScriptTree
joined_strings = record { items = function_item (record { name = (codes "$start"); params = []; body = (stmt (perform 0 (call 0 (name 0 (codes "$write")) (expr (binary 0 Add (binary 0 Add (binary 0 Add (string 0 (codes "a")) (string 0 (codes "b"))) (string 0 [])) (string 0 (codes "c"))) no_exprs))) no_stmts); at = 0 }) ∷ []; start = (codes "$start"); start_at = 0 }

abbrev pub bits_or : ScriptTree
bits_or = record { items = function_item (record { name = (codes "$start"); params = []; body = (stmt (perform 0 (call 0 (name 0 (codes "$write")) (expr (binary 0 Add (decimal_of 0 (binary 0 BitOr (number 0 5) (number 0 3))) (string 0 (codes " "))) no_exprs))) (stmt (perform 0 (call 0 (name 0 (codes "$write")) (expr (binary 0 Add (decimal_of 0 (binary 0 BitOr (number 0 4294967295) (number 0 0))) (string 0 (codes " "))) no_exprs))) (stmt (perform 0 (call 0 (name 0 (codes "$write")) (expr (binary 0 Add (decimal_of 0 (binary 0 BitOr (unary 0 Negate (number 0 1)) (number 0 0))) (string 0 (codes " "))) no_exprs))) (stmt (perform 0 (call 0 (name 0 (codes "$write")) (expr (binary 0 Add (decimal_of 0 (binary 0 BitOr (number 0 9007199254740992) (number 0 1))) (string 0 (codes " "))) no_exprs))) (stmt (perform 0 (call 0 (name 0 (codes "$write")) (expr (binary 0 Add (decimal_of 0 (binary 0 BitOr (number 0 2147483648) (number 0 0))) (string 0 (codes " "))) no_exprs))) no_stmts))))); at = 0 }) ∷ []; start = (codes "$start"); start_at = 0 }

abbrev pub bits_and : ScriptTree
bits_and = record { items = function_item (record { name = (codes "$start"); params = []; body = (stmt (perform 0 (call 0 (name 0 (codes "$write")) (expr (binary 0 Add (decimal_of 0 (binary 0 BitAnd (number 0 12) (number 0 10))) (string 0 (codes " "))) no_exprs))) (stmt (perform 0 (call 0 (name 0 (codes "$write")) (expr (binary 0 Add (decimal_of 0 (binary 0 BitAnd (unary 0 Negate (number 0 1)) (number 0 255))) (string 0 (codes " "))) no_exprs))) (stmt (perform 0 (call 0 (name 0 (codes "$write")) (expr (binary 0 Add (decimal_of 0 (binary 0 BitAnd (unary 0 Negate (number 0 256)) (number 0 511))) (string 0 (codes " "))) no_exprs))) (stmt (perform 0 (call 0 (name 0 (codes "$write")) (expr (binary 0 Add (decimal_of 0 (binary 0 BitAnd (number 0 4294967297) (number 0 3))) (string 0 (codes " "))) no_exprs))) no_stmts)))); at = 0 }) ∷ []; start = (codes "$start"); start_at = 0 }

abbrev pub bits_xor : ScriptTree
bits_xor = record { items = function_item (record { name = (codes "$start"); params = []; body = (stmt (perform 0 (call 0 (name 0 (codes "$write")) (expr (binary 0 Add (decimal_of 0 (binary 0 BitXor (number 0 12) (number 0 10))) (string 0 (codes " "))) no_exprs))) (stmt (perform 0 (call 0 (name 0 (codes "$write")) (expr (binary 0 Add (decimal_of 0 (binary 0 BitXor (unary 0 Negate (number 0 1)) (number 0 1))) (string 0 (codes " "))) no_exprs))) (stmt (perform 0 (call 0 (name 0 (codes "$write")) (expr (binary 0 Add (decimal_of 0 (binary 0 BitXor (unary 0 Negate (number 0 5)) (unary 0 Negate (number 0 6)))) (string 0 (codes " "))) no_exprs))) no_stmts))); at = 0 }) ∷ []; start = (codes "$start"); start_at = 0 }

abbrev pub complements : ScriptTree
complements = record { items = function_item (record { name = (codes "$start"); params = []; body = (stmt (perform 0 (call 0 (name 0 (codes "$write")) (expr (binary 0 Add (decimal_of 0 (unary 0 Complement (number 0 5))) (string 0 (codes " "))) no_exprs))) (stmt (perform 0 (call 0 (name 0 (codes "$write")) (expr (binary 0 Add (decimal_of 0 (unary 0 Complement (unary 0 Negate (number 0 1)))) (string 0 (codes " "))) no_exprs))) (stmt (perform 0 (call 0 (name 0 (codes "$write")) (expr (binary 0 Add (decimal_of 0 (unary 0 Complement (number 0 4294967295))) (string 0 (codes " "))) no_exprs))) (stmt (perform 0 (call 0 (name 0 (codes "$write")) (expr (binary 0 Add (decimal_of 0 (unary 0 Complement (number 0 2147483648))) (string 0 (codes " "))) no_exprs))) no_stmts)))); at = 0 }) ∷ []; start = (codes "$start"); start_at = 0 }

abbrev pub shifts_left : ScriptTree
shifts_left = record { items = function_item (record { name = (codes "$start"); params = []; body = (stmt (perform 0 (call 0 (name 0 (codes "$write")) (expr (binary 0 Add (decimal_of 0 (binary 0 ShiftLeft (number 0 1) (number 0 31))) (string 0 (codes " "))) no_exprs))) (stmt (perform 0 (call 0 (name 0 (codes "$write")) (expr (binary 0 Add (decimal_of 0 (binary 0 ShiftLeft (number 0 1) (number 0 33))) (string 0 (codes " "))) no_exprs))) (stmt (perform 0 (call 0 (name 0 (codes "$write")) (expr (binary 0 Add (decimal_of 0 (binary 0 ShiftLeft (number 0 5) (unary 0 Negate (number 0 1)))) (string 0 (codes " "))) no_exprs))) (stmt (perform 0 (call 0 (name 0 (codes "$write")) (expr (binary 0 Add (decimal_of 0 (binary 0 ShiftLeft (unary 0 Negate (number 0 1)) (number 0 4))) (string 0 (codes " "))) no_exprs))) no_stmts)))); at = 0 }) ∷ []; start = (codes "$start"); start_at = 0 }

abbrev pub shifts_right : ScriptTree
shifts_right = record { items = function_item (record { name = (codes "$start"); params = []; body = (stmt (perform 0 (call 0 (name 0 (codes "$write")) (expr (binary 0 Add (decimal_of 0 (binary 0 ShiftRight (unary 0 Negate (number 0 8)) (number 0 1))) (string 0 (codes " "))) no_exprs))) (stmt (perform 0 (call 0 (name 0 (codes "$write")) (expr (binary 0 Add (decimal_of 0 (binary 0 ShiftRight (unary 0 Negate (number 0 1)) (number 0 31))) (string 0 (codes " "))) no_exprs))) (stmt (perform 0 (call 0 (name 0 (codes "$write")) (expr (binary 0 Add (decimal_of 0 (binary 0 ShiftRight (number 0 4294967296) (number 0 0))) (string 0 (codes " "))) no_exprs))) (stmt (perform 0 (call 0 (name 0 (codes "$write")) (expr (binary 0 Add (decimal_of 0 (binary 0 ShiftRight (number 0 2147483648) (number 0 30))) (string 0 (codes " "))) no_exprs))) (stmt (perform 0 (call 0 (name 0 (codes "$write")) (expr (binary 0 Add (decimal_of 0 (binary 0 ShiftRight (number 0 9) (number 0 33))) (string 0 (codes " "))) no_exprs))) no_stmts))))); at = 0 }) ∷ []; start = (codes "$start"); start_at = 0 }

abbrev pub shifts_right_unsigned : ScriptTree
shifts_right_unsigned = record { items = function_item (record { name = (codes "$start"); params = []; body = (stmt (perform 0 (call 0 (name 0 (codes "$write")) (expr (binary 0 Add (decimal_of 0 (binary 0 ShiftRightUnsigned (unary 0 Negate (number 0 1)) (number 0 0))) (string 0 (codes " "))) no_exprs))) (stmt (perform 0 (call 0 (name 0 (codes "$write")) (expr (binary 0 Add (decimal_of 0 (binary 0 ShiftRightUnsigned (unary 0 Negate (number 0 1)) (number 0 28))) (string 0 (codes " "))) no_exprs))) (stmt (perform 0 (call 0 (name 0 (codes "$write")) (expr (binary 0 Add (decimal_of 0 (binary 0 ShiftRightUnsigned (number 0 8) (number 0 33))) (string 0 (codes " "))) no_exprs))) (stmt (perform 0 (call 0 (name 0 (codes "$write")) (expr (binary 0 Add (decimal_of 0 (binary 0 ShiftRightUnsigned (number 0 4294967298) (number 0 1))) (string 0 (codes " "))) no_exprs))) no_stmts)))); at = 0 }) ∷ []; start = (codes "$start"); start_at = 0 }

abbrev pub orders_of_numbers : ScriptTree
orders_of_numbers = record { items = function_item (record { name = (codes "$start"); params = []; body = (stmt (perform 0 (call 0 (name 0 (codes "$write")) (expr (choice 0 (binary 0 Less (number 0 1) (number 0 2)) (string 0 (codes "T")) (string 0 (codes "F"))) no_exprs))) (stmt (perform 0 (call 0 (name 0 (codes "$write")) (expr (choice 0 (binary 0 Less (number 0 2) (number 0 2)) (string 0 (codes "T")) (string 0 (codes "F"))) no_exprs))) (stmt (perform 0 (call 0 (name 0 (codes "$write")) (expr (choice 0 (binary 0 LessEqual (number 0 2) (number 0 2)) (string 0 (codes "T")) (string 0 (codes "F"))) no_exprs))) (stmt (perform 0 (call 0 (name 0 (codes "$write")) (expr (choice 0 (binary 0 Greater (unary 0 Negate (number 0 1)) (unary 0 Negate (number 0 2))) (string 0 (codes "T")) (string 0 (codes "F"))) no_exprs))) (stmt (perform 0 (call 0 (name 0 (codes "$write")) (expr (choice 0 (binary 0 Greater (number 0 2) (number 0 2)) (string 0 (codes "T")) (string 0 (codes "F"))) no_exprs))) (stmt (perform 0 (call 0 (name 0 (codes "$write")) (expr (choice 0 (binary 0 GreaterEqual (number 0 2) (number 0 3)) (string 0 (codes "T")) (string 0 (codes "F"))) no_exprs))) no_stmts)))))); at = 0 }) ∷ []; start = (codes "$start"); start_at = 0 }

abbrev pub orders_of_strings : ScriptTree
orders_of_strings = record { items = function_item (record { name = (codes "$start"); params = []; body = (stmt (perform 0 (call 0 (name 0 (codes "$write")) (expr (choice 0 (binary 0 Less (string 0 (codes "a")) (string 0 (codes "b"))) (string 0 (codes "T")) (string 0 (codes "F"))) no_exprs))) (stmt (perform 0 (call 0 (name 0 (codes "$write")) (expr (choice 0 (binary 0 Less (string 0 (codes "a")) (string 0 (codes "aa"))) (string 0 (codes "T")) (string 0 (codes "F"))) no_exprs))) (stmt (perform 0 (call 0 (name 0 (codes "$write")) (expr (choice 0 (binary 0 Less (string 0 (codes "Z")) (string 0 (codes "a"))) (string 0 (codes "T")) (string 0 (codes "F"))) no_exprs))) (stmt (perform 0 (call 0 (name 0 (codes "$write")) (expr (choice 0 (binary 0 Less (string 0 (codes "a")) (string 0 [])) (string 0 (codes "T")) (string 0 (codes "F"))) no_exprs))) (stmt (perform 0 (call 0 (name 0 (codes "$write")) (expr (choice 0 (binary 0 LessEqual (string 0 (codes "b")) (string 0 (codes "ab"))) (string 0 (codes "T")) (string 0 (codes "F"))) no_exprs))) (stmt (perform 0 (call 0 (name 0 (codes "$write")) (expr (choice 0 (binary 0 Greater (string 0 (255 ∷ [])) (string 0 (codes "z"))) (string 0 (codes "T")) (string 0 (codes "F"))) no_exprs))) (stmt (perform 0 (call 0 (name 0 (codes "$write")) (expr (choice 0 (binary 0 GreaterEqual (string 0 (codes "a")) (string 0 (codes "a"))) (string 0 (codes "T")) (string 0 (codes "F"))) no_exprs))) no_stmts))))))); at = 0 }) ∷ []; start = (codes "$start"); start_at = 0 }

pub record Engine1 : Type 0 where
  pub prints : Agrees prints [] (codes "function $start(){\n  $write(\"hi\");\n}\n$start();\n") (codes "hi") 0 []
  pub sums_and_products : Agrees sums_and_products [] (codes "function $start(){\n  $write(String(2 + 3 * 4 - 5) + \" \");\n  $write(String((2 + 3) * 4) + \" \");\n  $write(String(2 - (3 - 4)) + \" \");\n}\n$start();\n") (codes "9 20 3 ") 0 []
  pub quotients : Agrees quotients [] (codes "function $start(){\n  $write(String(84 / -7) + \" \");\n  $write(String(-84 / 7) + \" \");\n  $write(String(0 / 5) + \" \");\n  $write(String(9007199254740992 / 2) + \" \");\n}\n$start();\n") (codes "-12 -12 0 4503599627370496 ") 0 []
  pub remainders : Agrees remainders [] (codes "function $start(){\n  $write(String(-7 % 2) + \" \");\n  $write(String(7 % -2) + \" \");\n  $write(String(-7 % -2) + \" \");\n  $write(String(-4 % 2) + \" \");\n  $write(String(7 % 9) + \" \");\n}\n$start();\n") (codes "-1 1 -1 0 7 ") 0 []
  pub largest_numbers : Agrees largest_numbers [] (codes "function $start(){\n  $write(String(9007199254740991 + 1) + \" \");\n  $write(String(-9007199254740992) + \" \");\n  $write(String(3002399751580330 * 3 + 2) + \" \");\n}\n$start();\n") (codes "9007199254740992 -9007199254740992 9007199254740992 ") 0 []
  pub joined_strings : Agrees joined_strings [] (codes "function $start(){\n  $write(\"a\" + \"b\" + \"\" + \"c\");\n}\n$start();\n") (codes "abc") 0 []
  pub bits_or : Agrees bits_or [] (codes "function $start(){\n  $write(String(5 | 3) + \" \");\n  $write(String(4294967295 | 0) + \" \");\n  $write(String(-1 | 0) + \" \");\n  $write(String(9007199254740992 | 1) + \" \");\n  $write(String(2147483648 | 0) + \" \");\n}\n$start();\n") (codes "7 -1 -1 1 -2147483648 ") 0 []
  pub bits_and : Agrees bits_and [] (codes "function $start(){\n  $write(String(12 & 10) + \" \");\n  $write(String(-1 & 255) + \" \");\n  $write(String(-256 & 511) + \" \");\n  $write(String(4294967297 & 3) + \" \");\n}\n$start();\n") (codes "8 255 256 1 ") 0 []
  pub bits_xor : Agrees bits_xor [] (codes "function $start(){\n  $write(String(12 ^ 10) + \" \");\n  $write(String(-1 ^ 1) + \" \");\n  $write(String(-5 ^ -6) + \" \");\n}\n$start();\n") (codes "6 -2 1 ") 0 []
  pub complements : Agrees complements [] (codes "function $start(){\n  $write(String(~5) + \" \");\n  $write(String(~-1) + \" \");\n  $write(String(~4294967295) + \" \");\n  $write(String(~2147483648) + \" \");\n}\n$start();\n") (codes "-6 0 0 2147483647 ") 0 []
  pub shifts_left : Agrees shifts_left [] (codes "function $start(){\n  $write(String(1 << 31) + \" \");\n  $write(String(1 << 33) + \" \");\n  $write(String(5 << -1) + \" \");\n  $write(String(-1 << 4) + \" \");\n}\n$start();\n") (codes "-2147483648 2 -2147483648 -16 ") 0 []
  pub shifts_right : Agrees shifts_right [] (codes "function $start(){\n  $write(String(-8 >> 1) + \" \");\n  $write(String(-1 >> 31) + \" \");\n  $write(String(4294967296 >> 0) + \" \");\n  $write(String(2147483648 >> 30) + \" \");\n  $write(String(9 >> 33) + \" \");\n}\n$start();\n") (codes "-4 -1 0 -2 4 ") 0 []
  pub shifts_right_unsigned : Agrees shifts_right_unsigned [] (codes "function $start(){\n  $write(String(-1 >>> 0) + \" \");\n  $write(String(-1 >>> 28) + \" \");\n  $write(String(8 >>> 33) + \" \");\n  $write(String(4294967298 >>> 1) + \" \");\n}\n$start();\n") (codes "4294967295 15 4 1 ") 0 []
  pub orders_of_numbers : Agrees orders_of_numbers [] (codes "function $start(){\n  $write(1 < 2 ? \"T\" : \"F\");\n  $write(2 < 2 ? \"T\" : \"F\");\n  $write(2 <= 2 ? \"T\" : \"F\");\n  $write(-1 > -2 ? \"T\" : \"F\");\n  $write(2 > 2 ? \"T\" : \"F\");\n  $write(2 >= 3 ? \"T\" : \"F\");\n}\n$start();\n") (codes "TFTTFF") 0 []
  pub orders_of_strings : Agrees orders_of_strings [] (codes "function $start(){\n  $write(\"a\" < \"b\" ? \"T\" : \"F\");\n  $write(\"a\" < \"aa\" ? \"T\" : \"F\");\n  $write(\"Z\" < \"a\" ? \"T\" : \"F\");\n  $write(\"a\" < \"\" ? \"T\" : \"F\");\n  $write(\"b\" <= \"ab\" ? \"T\" : \"F\");\n  $write(\"\\xff\" > \"z\" ? \"T\" : \"F\");\n  $write(\"a\" >= \"a\" ? \"T\" : \"F\");\n}\n$start();\n") (codes "TTTFFTT") 0 []

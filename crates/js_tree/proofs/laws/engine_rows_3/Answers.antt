use Rattle.std.proofs.Common.{refl, [], ◌∷◌, codes}
use Rattle.std.specs.Fmt.{digits}
use Rattle.js_tree.specs.Agrees.{Agrees}
use Rattle.js_tree.specs.Printed.{char_code_at_word, substring_word, dictionary_word, string_word, from_char_code_word, catch_word, preamble}
use Rattle.js_tree.specs.Engine3.{bytes_in_quotes, elements, pushes_and_pops, arrays_are_shared, dictionaries, deleted_keys, new_objects_each_time, calls, recursion, calls_without_a_value, functions_as_values, order_of_evaluation, locals_and_parameters, top_level_variables, loops}
use Rattle.js_tree.proofs.laws.engine_rows_3.Goals as goal

bytes_in_quotes_agrees : Agrees bytes_in_quotes [] (codes "function $start(){\n  $write(\"a\\\"b\\\\c\\x0a\\x09\\x7f\\x80\\xff~ \");\n}\n$start();\n") (97 ∷ 34 ∷ 98 ∷ 92 ∷ 99 ∷ 10 ∷ 9 ∷ 127 ∷ 128 ∷ 255 ∷ 126 ∷ 32 ∷ []) 0 []
unfolding digits char_code_at_word substring_word dictionary_word string_word from_char_code_word catch_word preamble
bytes_in_quotes_agrees = record { text = refl; printable = refl; prints = refl; ends = refl }

elements_agrees : Agrees elements [] (codes "function $start(){\n  var $a = [1, 2, 3];\n  $write(String($a[0] + $a[2]) + \" \");\n  $a[1] = $a[0] + 9;\n  $write(String($a[1]) + \" \");\n  $a[0] = $a;\n  $write($a[0] === $a ? \"T\" : \"F\");\n  $write(String($a[0][0][2]) + \" \");\n}\n$start();\n") (codes "4 10 T3 ") 0 []
unfolding digits char_code_at_word substring_word dictionary_word string_word from_char_code_word catch_word preamble
elements_agrees = record { text = refl; printable = refl; prints = refl; ends = refl }

pushes_and_pops_agrees : Agrees pushes_and_pops [] (codes "function $start(){\n  var $a = [];\n  $a.push(5);\n  $a.push(\"x\");\n  $write(String($a.length) + \" \");\n  $write($a.pop());\n  $write(String($a.length) + \" \");\n  $write(String($a.pop()) + \" \");\n  $write(String($a.length) + \" \");\n  $a.push(7);\n  $a.pop();\n  $write(String($a.length) + \" \");\n}\n$start();\n") (codes "2 x1 5 0 0 ") 0 []
unfolding digits char_code_at_word substring_word dictionary_word string_word from_char_code_word catch_word preamble
pushes_and_pops_agrees = record { text = refl; printable = refl; prints = refl; ends = refl }

arrays_are_shared_agrees : Agrees arrays_are_shared [] (codes "function $start(){\n  var $a = [[1], [2]];\n  var $b = $a[0];\n  $b[0] = 8;\n  $a[1] = $b;\n  $b.push(9);\n  $write(String($a[0][0]) + \" \");\n  $write(String($a[1].length) + \" \");\n  $write(String($a[1][1]) + \" \");\n}\n$start();\n") (codes "8 2 9 ") 0 []
unfolding digits char_code_at_word substring_word dictionary_word string_word from_char_code_word catch_word preamble
arrays_are_shared_agrees = record { text = refl; printable = refl; prints = refl; ends = refl }

dictionaries_agrees : Agrees dictionaries [] (codes "function $start(){\n  var $d = Object.create(null);\n  $d[\"$a\"] = 1;\n  $d[\"$\"] = \"e\";\n  $d[\"$length\"] = 3;\n  $d[\"$a\"] = $d[\"$a\"] + 1;\n  $write(String($d[\"$a\"]) + \" \");\n  $write($d[\"$\"]);\n  $write(String($d[\"$length\"]) + \" \");\n  $write(\"$a\" in $d ? \"T\" : \"F\");\n  $write(\"$b\" in $d ? \"T\" : \"F\");\n}\n$start();\n") (codes "2 e3 TF") 0 []
unfolding digits char_code_at_word substring_word dictionary_word string_word from_char_code_word catch_word preamble
dictionaries_agrees = record { text = refl; printable = refl; prints = refl; ends = refl }

deleted_keys_agrees : Agrees deleted_keys [] (codes "function $start(){\n  var $d = Object.create(null);\n  $d[\"$a\"] = 1;\n  $d[\"$b\"] = 2;\n  delete $d[\"$a\"];\n  delete $d[\"$c\"];\n  $write(\"$a\" in $d ? \"T\" : \"F\");\n  $write(\"$b\" in $d ? \"T\" : \"F\");\n  $d[\"$a\"] = 3;\n  $write(String($d[\"$a\"] + $d[\"$b\"]) + \" \");\n}\n$start();\n") (codes "FT5 ") 0 []
unfolding digits char_code_at_word substring_word dictionary_word string_word from_char_code_word catch_word preamble
deleted_keys_agrees = record { text = refl; printable = refl; prints = refl; ends = refl }

new_objects_each_time_agrees : Agrees new_objects_each_time [] (codes "function $new(){\n  return Object.create(null);\n}\nfunction $start(){\n  var $a = [$new(), $new()];\n  $a[0][\"$k\"] = 1;\n  $write(\"$k\" in $a[0] ? \"T\" : \"F\");\n  $write(\"$k\" in $a[1] ? \"T\" : \"F\");\n}\n$start();\n") (codes "TF") 0 []
unfolding digits char_code_at_word substring_word dictionary_word string_word from_char_code_word catch_word preamble
new_objects_each_time_agrees = record { text = refl; printable = refl; prints = refl; ends = refl }

calls_agrees : Agrees calls [] (codes "function $add($a, $b){\n  return $a + $b;\n}\nfunction $start(){\n  $write(String($add(2, 3)) + \" \");\n  $write(String($add($add(1, 2), $add(3, 4))) + \" \");\n}\n$start();\n") (codes "5 10 ") 0 []
unfolding digits char_code_at_word substring_word dictionary_word string_word from_char_code_word catch_word preamble
calls_agrees = record { text = refl; printable = refl; prints = refl; ends = refl }

recursion_agrees : Agrees recursion [] (codes "function $fact($n){\n  return $n < 2 ? 1 : $n * $fact($n - 1);\n}\nfunction $fib($n){\n  if($n < 2){\n    return $n;\n  }\n  return $fib($n - 1) + $fib($n - 2);\n}\nfunction $start(){\n  $write(String($fact(10)) + \" \");\n  $write(String($fib(12)) + \" \");\n}\n$start();\n") (codes "3628800 144 ") 0 []
unfolding digits char_code_at_word substring_word dictionary_word string_word from_char_code_word catch_word preamble
recursion_agrees = record { text = refl; printable = refl; prints = refl; ends = refl }

calls_without_a_value_agrees : Agrees calls_without_a_value [] (codes "function $f($n){\n  if($n === 1){\n    $write(\"one\");\n    return;\n  }\n  $write(\"two\");\n}\nfunction $start(){\n  $f(1);\n  $f(2);\n  $write(\".\");\n}\n$start();\n") (codes "onetwo.") 0 []
unfolding digits char_code_at_word substring_word dictionary_word string_word from_char_code_word catch_word preamble
calls_without_a_value_agrees = record { text = refl; printable = refl; prints = refl; ends = refl }

functions_as_values_agrees : Agrees functions_as_values [] (codes "function $inc($n){\n  return $n + 1;\n}\nfunction $twice($f, $n){\n  return $f($f($n));\n}\nfunction $start(){\n  var $a = [$inc, $twice];\n  $write(String($a[0](4)) + \" \");\n  $write(String($a[1]($a[0], 4)) + \" \");\n  var $w = $write;\n  $w(\"!\");\n}\n$start();\n") (codes "5 6 !") 0 []
unfolding digits char_code_at_word substring_word dictionary_word string_word from_char_code_word catch_word preamble
functions_as_values_agrees = record { text = refl; printable = refl; prints = refl; ends = refl }

order_of_evaluation_agrees : Agrees order_of_evaluation [] (codes "function $say($n){\n  $write(String($n));\n  return $n;\n}\nfunction $f($a, $b){\n}\nfunction $start(){\n  var $a = [$say(1), $say(2)];\n  $a[$say(0)] = $say(3) + $say(4);\n  $f($say(5), $say(6));\n  $write(String($a[0]) + \" \");\n}\n$start();\n") (codes "12034567 ") 0 []
unfolding digits char_code_at_word substring_word dictionary_word string_word from_char_code_word catch_word preamble
order_of_evaluation_agrees = record { text = refl; printable = refl; prints = refl; ends = refl }

locals_and_parameters_agrees : Agrees locals_and_parameters [] (codes "function $f($x, $y){\n  if($x < $y){\n    var $z = $y - $x;\n    $x = $z * 10;\n  }\n  return $x;\n}\nfunction $start(){\n  var $x = 1;\n  $x = $f($x, 5);\n  $write(String($x) + \" \");\n  $write(String($f(2, 2)) + \" \");\n}\n$start();\n") (codes "40 2 ") 0 []
unfolding digits char_code_at_word substring_word dictionary_word string_word from_char_code_word catch_word preamble
locals_and_parameters_agrees = record { text = refl; printable = refl; prints = refl; ends = refl }

top_level_variables_agrees : Agrees top_level_variables [] (codes "var $a = 2;\nvar $b = $double($a) + 1;\nfunction $double($n){\n  return $n * 2;\n}\nfunction $bump(){\n  $a = $a + $b;\n}\nfunction $start(){\n  $write(String($a) + \" \");\n  $write(String($b) + \" \");\n  $bump();\n  $bump();\n  $write(String($a) + \" \");\n}\n$start();\n") (codes "2 5 12 ") 0 []
unfolding digits char_code_at_word substring_word dictionary_word string_word from_char_code_word catch_word preamble
top_level_variables_agrees = record { text = refl; printable = refl; prints = refl; ends = refl }

loops_agrees : Agrees loops [] (codes "function $start(){\n  var $i = 0;\n  var $s = 0;\n  while($i < 5){\n    $i = $i + 1;\n    if($i === 2){\n      continue;\n    }\n    if($i === 5){\n      break;\n    }\n    $s = $s + $i;\n  }\n  $write(String($s) + \" \");\n  $write(String($i) + \" \");\n}\n$start();\n") (codes "8 5 ") 0 []
unfolding digits char_code_at_word substring_word dictionary_word string_word from_char_code_word catch_word preamble
loops_agrees = record { text = refl; printable = refl; prints = refl; ends = refl }

pub returns : goal.returns
returns c = record {
  rows = record {
    bytes_in_quotes = bytes_in_quotes_agrees;
    elements = elements_agrees;
    pushes_and_pops = pushes_and_pops_agrees;
    arrays_are_shared = arrays_are_shared_agrees;
    dictionaries = dictionaries_agrees;
    deleted_keys = deleted_keys_agrees;
    new_objects_each_time = new_objects_each_time_agrees;
    calls = calls_agrees;
    recursion = recursion_agrees;
    calls_without_a_value = calls_without_a_value_agrees;
    functions_as_values = functions_as_values_agrees;
    order_of_evaluation = order_of_evaluation_agrees;
    locals_and_parameters = locals_and_parameters_agrees;
    top_level_variables = top_level_variables_agrees;
    loops = loops_agrees;
  };
}

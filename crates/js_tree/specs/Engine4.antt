-- Scripts that node and mujs ran as these rows say: labels to picks. Written by bench/engines/trees.py.
use Rattle.std.specs.Prelude.{[], ◌∷◌, Some, None, true, codes}
use Rattle.js_tree.specs.Script.{number, string, boolean, name, binary, call, index, array, decimal_of, no_exprs, expr, declare, assign, perform, branch, while, forever, switch, return, throw, break, continue, attempt, no_stmts, stmt, no_else, else_block, else_if, no_cases, default, case, function_item, ScriptTree}
use Rattle.js_tree.specs.Agrees.{Agrees}
use Rattle.js_tree.specs.declared.tree.BinaryOp.TheVariants.{Same, Less, Add, Subtract}

abbrev pub labels : ScriptTree
labels = record { items = function_item (record { name = (codes "$start"); params = []; body = (stmt (declare 0 (codes "$i") (number 0 0)) (stmt (while 0 (Some (codes "$outer")) (binary 0 Less (name 0 (codes "$i")) (number 0 3)) (stmt (assign 0 (codes "$i") (binary 0 Add (name 0 (codes "$i")) (number 0 1))) (stmt (declare 0 (codes "$j") (number 0 0)) (stmt (while 0 None (boolean 0 true) (stmt (assign 0 (codes "$j") (binary 0 Add (name 0 (codes "$j")) (number 0 1))) (stmt (branch 0 (binary 0 Same (name 0 (codes "$j")) (number 0 3)) (stmt (continue 0 (Some (codes "$outer"))) no_stmts) no_else) (stmt (branch 0 (binary 0 Same (name 0 (codes "$i")) (number 0 3)) (stmt (break 0 (Some (codes "$outer"))) no_stmts) no_else) (stmt (perform 0 (call 0 (name 0 (codes "$write")) (expr (binary 0 Add (binary 0 Add (decimal_of 0 (name 0 (codes "$i"))) (decimal_of 0 (name 0 (codes "$j")))) (string 0 (codes " "))) no_exprs))) no_stmts))))) no_stmts)))) (stmt (perform 0 (call 0 (name 0 (codes "$write")) (expr (binary 0 Add (decimal_of 0 (name 0 (codes "$i"))) (string 0 (codes " "))) no_exprs))) no_stmts))); at = 0 }) ∷ []; start = (codes "$start"); start_at = 0 }

abbrev pub a_break_leaves_one_loop : ScriptTree
a_break_leaves_one_loop = record { items = function_item (record { name = (codes "$start"); params = []; body = (stmt (declare 0 (codes "$i") (number 0 0)) (stmt (while 0 None (binary 0 Less (name 0 (codes "$i")) (number 0 2)) (stmt (assign 0 (codes "$i") (binary 0 Add (name 0 (codes "$i")) (number 0 1))) (stmt (forever 0 None (stmt (break 0 None) no_stmts)) (stmt (perform 0 (call 0 (name 0 (codes "$write")) (expr (string 0 (codes "x")) no_exprs))) no_stmts)))) no_stmts)); at = 0 }) ∷ []; start = (codes "$start"); start_at = 0 }

abbrev pub loops_without_a_condition : ScriptTree
loops_without_a_condition = record { items = function_item (record { name = (codes "$start"); params = []; body = (stmt (declare 0 (codes "$i") (number 0 0)) (stmt (forever 0 (Some (codes "$l")) (stmt (assign 0 (codes "$i") (binary 0 Add (name 0 (codes "$i")) (number 0 1))) (stmt (forever 0 None (stmt (branch 0 (binary 0 Less (name 0 (codes "$i")) (number 0 4)) (stmt (continue 0 (Some (codes "$l"))) no_stmts) no_else) (stmt (break 0 (Some (codes "$l"))) no_stmts))) no_stmts))) (stmt (perform 0 (call 0 (name 0 (codes "$write")) (expr (binary 0 Add (decimal_of 0 (name 0 (codes "$i"))) (string 0 (codes " "))) no_exprs))) no_stmts))); at = 0 }) ∷ []; start = (codes "$start"); start_at = 0 }

abbrev pub switches : ScriptTree
switches = record { items = function_item (record { name = (codes "$f"); params = (codes "$n") ∷ []; body = (stmt (switch 0 None (name 0 (codes "$n")) (case 1 (stmt (perform 0 (call 0 (name 0 (codes "$write")) (expr (string 0 (codes "a")) no_exprs))) no_stmts) (case 2 (stmt (perform 0 (call 0 (name 0 (codes "$write")) (expr (string 0 (codes "b")) no_exprs))) (stmt (break 0 None) no_stmts)) (case 3 (stmt (perform 0 (call 0 (name 0 (codes "$write")) (expr (string 0 (codes "c")) no_exprs))) no_stmts) (default (stmt (perform 0 (call 0 (name 0 (codes "$write")) (expr (string 0 (codes "d")) no_exprs))) no_stmts)))))) (stmt (perform 0 (call 0 (name 0 (codes "$write")) (expr (string 0 (codes " ")) no_exprs))) no_stmts)); at = 0 }) ∷ function_item (record { name = (codes "$start"); params = []; body = (stmt (perform 0 (call 0 (name 0 (codes "$f")) (expr (number 0 1) no_exprs))) (stmt (perform 0 (call 0 (name 0 (codes "$f")) (expr (number 0 2) no_exprs))) (stmt (perform 0 (call 0 (name 0 (codes "$f")) (expr (number 0 3) no_exprs))) (stmt (perform 0 (call 0 (name 0 (codes "$f")) (expr (number 0 4) no_exprs))) (stmt (perform 0 (call 0 (name 0 (codes "$f")) (expr (string 0 (codes "1")) no_exprs))) no_stmts))))); at = 0 }) ∷ []; start = (codes "$start"); start_at = 0 }

abbrev pub switches_without_a_default : ScriptTree
switches_without_a_default = record { items = function_item (record { name = (codes "$f"); params = (codes "$n") ∷ []; body = (stmt (switch 0 None (name 0 (codes "$n")) (case 0 no_stmts (case 1 (stmt (perform 0 (call 0 (name 0 (codes "$write")) (expr (string 0 (codes "low")) no_exprs))) no_stmts) no_cases))) (stmt (perform 0 (call 0 (name 0 (codes "$write")) (expr (string 0 (codes ".")) no_exprs))) no_stmts)); at = 0 }) ∷ function_item (record { name = (codes "$start"); params = []; body = (stmt (perform 0 (call 0 (name 0 (codes "$f")) (expr (number 0 0) no_exprs))) (stmt (perform 0 (call 0 (name 0 (codes "$f")) (expr (number 0 9) no_exprs))) no_stmts)); at = 0 }) ∷ []; start = (codes "$start"); start_at = 0 }

abbrev pub jumps_out_of_a_switch : ScriptTree
jumps_out_of_a_switch = record { items = function_item (record { name = (codes "$start"); params = []; body = (stmt (declare 0 (codes "$i") (number 0 0)) (stmt (while 0 (Some (codes "$l")) (binary 0 Less (name 0 (codes "$i")) (number 0 4)) (stmt (assign 0 (codes "$i") (binary 0 Add (name 0 (codes "$i")) (number 0 1))) (stmt (switch 0 None (name 0 (codes "$i")) (case 1 (stmt (continue 0 None) no_stmts) (case 2 (stmt (break 0 None) no_stmts) (case 3 (stmt (break 0 (Some (codes "$l"))) no_stmts) no_cases)))) (stmt (perform 0 (call 0 (name 0 (codes "$write")) (expr (decimal_of 0 (name 0 (codes "$i"))) no_exprs))) no_stmts)))) (stmt (perform 0 (call 0 (name 0 (codes "$write")) (expr (binary 0 Add (decimal_of 0 (name 0 (codes "$i"))) (string 0 (codes " "))) no_exprs))) no_stmts))); at = 0 }) ∷ []; start = (codes "$start"); start_at = 0 }

abbrev pub a_labelled_switch : ScriptTree
a_labelled_switch = record { items = function_item (record { name = (codes "$start"); params = []; body = (stmt (switch 0 (Some (codes "$s")) (number 0 1) (case 1 (stmt (while 0 None (boolean 0 true) (stmt (break 0 (Some (codes "$s"))) no_stmts)) (stmt (perform 0 (call 0 (name 0 (codes "$write")) (expr (string 0 (codes "no")) no_exprs))) no_stmts)) no_cases)) (stmt (perform 0 (call 0 (name 0 (codes "$write")) (expr (string 0 (codes "done")) no_exprs))) no_stmts)); at = 0 }) ∷ []; start = (codes "$start"); start_at = 0 }

abbrev pub branches : ScriptTree
branches = record { items = function_item (record { name = (codes "$f"); params = (codes "$n") ∷ []; body = (stmt (branch 0 (binary 0 Same (name 0 (codes "$n")) (number 0 1)) (stmt (perform 0 (call 0 (name 0 (codes "$write")) (expr (string 0 (codes "a")) no_exprs))) no_stmts) (else_if 0 (binary 0 Same (name 0 (codes "$n")) (number 0 2)) (stmt (perform 0 (call 0 (name 0 (codes "$write")) (expr (string 0 (codes "b")) no_exprs))) no_stmts) (else_block (stmt (perform 0 (call 0 (name 0 (codes "$write")) (expr (string 0 (codes "c")) no_exprs))) no_stmts)))) (stmt (branch 0 (binary 0 Less (name 0 (codes "$n")) (number 0 3)) no_stmts (else_block (stmt (perform 0 (call 0 (name 0 (codes "$write")) (expr (string 0 (codes "!")) no_exprs))) no_stmts))) no_stmts)); at = 0 }) ∷ function_item (record { name = (codes "$start"); params = []; body = (stmt (perform 0 (call 0 (name 0 (codes "$f")) (expr (number 0 1) no_exprs))) (stmt (perform 0 (call 0 (name 0 (codes "$f")) (expr (number 0 2) no_exprs))) (stmt (perform 0 (call 0 (name 0 (codes "$f")) (expr (number 0 3) no_exprs))) no_stmts))); at = 0 }) ∷ []; start = (codes "$start"); start_at = 0 }

abbrev pub caught_throws : ScriptTree
caught_throws = record { items = function_item (record { name = (codes "$f"); params = (codes "$n") ∷ []; body = (stmt (branch 0 (binary 0 Same (name 0 (codes "$n")) (number 0 0)) (stmt (throw 0 (string 0 (codes "zero"))) no_stmts) no_else) (stmt (perform 0 (call 0 (name 0 (codes "$write")) (expr (string 0 (codes "f")) no_exprs))) no_stmts)); at = 0 }) ∷ function_item (record { name = (codes "$start"); params = []; body = (stmt (attempt 0 (stmt (perform 0 (call 0 (name 0 (codes "$f")) (expr (number 0 1) no_exprs))) (stmt (perform 0 (call 0 (name 0 (codes "$f")) (expr (number 0 0) no_exprs))) (stmt (perform 0 (call 0 (name 0 (codes "$write")) (expr (string 0 (codes "no")) no_exprs))) no_stmts))) (stmt (perform 0 (call 0 (name 0 (codes "$write")) (expr (name 0 (codes "$catch")) no_exprs))) no_stmts)) (stmt (perform 0 (call 0 (name 0 (codes "$write")) (expr (string 0 (codes ".")) no_exprs))) no_stmts)); at = 0 }) ∷ []; start = (codes "$start"); start_at = 0 }

abbrev pub throws_across_calls : ScriptTree
throws_across_calls = record { items = function_item (record { name = (codes "$f"); params = (codes "$n") ∷ []; body = (stmt (branch 0 (binary 0 Same (name 0 (codes "$n")) (number 0 0)) (stmt (throw 0 (array 0 (expr (number 0 7) no_exprs))) no_stmts) no_else) (stmt (perform 0 (call 0 (name 0 (codes "$f")) (expr (binary 0 Subtract (name 0 (codes "$n")) (number 0 1)) no_exprs))) no_stmts)); at = 0 }) ∷ function_item (record { name = (codes "$start"); params = []; body = (stmt (attempt 0 (stmt (perform 0 (call 0 (name 0 (codes "$f")) (expr (number 0 3) no_exprs))) no_stmts) (stmt (perform 0 (call 0 (name 0 (codes "$write")) (expr (decimal_of 0 (index 0 (name 0 (codes "$catch")) (number 0 0))) no_exprs))) no_stmts)) no_stmts); at = 0 }) ∷ []; start = (codes "$start"); start_at = 0 }

abbrev pub nested_catches : ScriptTree
nested_catches = record { items = function_item (record { name = (codes "$start"); params = []; body = (stmt (attempt 0 (stmt (attempt 0 (stmt (throw 0 (string 0 (codes "a"))) no_stmts) (stmt (perform 0 (call 0 (name 0 (codes "$write")) (expr (name 0 (codes "$catch")) no_exprs))) (stmt (attempt 0 (stmt (throw 0 (string 0 (codes "b"))) no_stmts) (stmt (perform 0 (call 0 (name 0 (codes "$write")) (expr (name 0 (codes "$catch")) no_exprs))) no_stmts)) (stmt (perform 0 (call 0 (name 0 (codes "$write")) (expr (name 0 (codes "$catch")) no_exprs))) (stmt (throw 0 (string 0 (codes "c"))) no_stmts))))) no_stmts) (stmt (perform 0 (call 0 (name 0 (codes "$write")) (expr (name 0 (codes "$catch")) no_exprs))) no_stmts)) no_stmts); at = 0 }) ∷ []; start = (codes "$start"); start_at = 0 }

abbrev pub jumps_out_of_a_try : ScriptTree
jumps_out_of_a_try = record { items = function_item (record { name = (codes "$f"); params = (codes "$n") ∷ []; body = (stmt (while 0 None (boolean 0 true) (stmt (attempt 0 (stmt (branch 0 (binary 0 Same (name 0 (codes "$n")) (number 0 1)) (stmt (return 0 (Some (number 0 10))) no_stmts) no_else) (stmt (branch 0 (binary 0 Same (name 0 (codes "$n")) (number 0 2)) (stmt (break 0 None) no_stmts) no_else) (stmt (throw 0 (number 0 30)) no_stmts))) (stmt (return 0 (Some (name 0 (codes "$catch")))) no_stmts)) no_stmts)) (stmt (return 0 (Some (number 0 20))) no_stmts)); at = 0 }) ∷ function_item (record { name = (codes "$start"); params = []; body = (stmt (perform 0 (call 0 (name 0 (codes "$write")) (expr (binary 0 Add (decimal_of 0 (call 0 (name 0 (codes "$f")) (expr (number 0 1) no_exprs))) (string 0 (codes " "))) no_exprs))) (stmt (perform 0 (call 0 (name 0 (codes "$write")) (expr (binary 0 Add (decimal_of 0 (call 0 (name 0 (codes "$f")) (expr (number 0 2) no_exprs))) (string 0 (codes " "))) no_exprs))) (stmt (perform 0 (call 0 (name 0 (codes "$write")) (expr (binary 0 Add (decimal_of 0 (call 0 (name 0 (codes "$f")) (expr (number 0 3) no_exprs))) (string 0 (codes " "))) no_exprs))) no_stmts))); at = 0 }) ∷ []; start = (codes "$start"); start_at = 0 }

abbrev pub ends : ScriptTree
ends = record { items = function_item (record { name = (codes "$start"); params = []; body = (stmt (perform 0 (call 0 (name 0 (codes "$write")) (expr (string 0 (codes "a")) no_exprs))) (stmt (perform 0 (call 0 (name 0 (codes "$end")) (expr (number 0 3) (expr (string 0 (codes "x\n")) no_exprs)))) (stmt (perform 0 (call 0 (name 0 (codes "$write")) (expr (string 0 (codes "b")) no_exprs))) no_stmts))); at = 0 }) ∷ []; start = (codes "$start"); start_at = 0 }

abbrev pub an_end_is_not_caught : ScriptTree
an_end_is_not_caught = record { items = function_item (record { name = (codes "$start"); params = []; body = (stmt (attempt 0 (stmt (perform 0 (call 0 (name 0 (codes "$end")) (expr (number 0 255) (expr (string 0 []) no_exprs)))) no_stmts) (stmt (perform 0 (call 0 (name 0 (codes "$write")) (expr (string 0 (codes "no")) no_exprs))) no_stmts)) no_stmts); at = 0 }) ∷ []; start = (codes "$start"); start_at = 0 }

abbrev pub picks : ScriptTree
picks = record { items = function_item (record { name = (codes "$start"); params = []; body = (stmt (perform 0 (call 0 (name 0 (codes "$write")) (expr (binary 0 Add (decimal_of 0 (call 0 (name 0 (codes "$pick")) (expr (number 0 2) no_exprs))) (string 0 (codes " "))) no_exprs))) (stmt (perform 0 (call 0 (name 0 (codes "$write")) (expr (binary 0 Add (decimal_of 0 (call 0 (name 0 (codes "$pick")) (expr (number 0 10) no_exprs))) (string 0 (codes " "))) no_exprs))) (stmt (perform 0 (call 0 (name 0 (codes "$write")) (expr (binary 0 Add (decimal_of 0 (call 0 (name 0 (codes "$pick")) (expr (number 0 4294967295) no_exprs))) (string 0 (codes " "))) no_exprs))) (stmt (perform 0 (call 0 (name 0 (codes "$write")) (expr (binary 0 Add (decimal_of 0 (call 0 (name 0 (codes "$pick")) (expr (number 0 3) no_exprs))) (string 0 (codes " "))) no_exprs))) no_stmts)))); at = 0 }) ∷ []; start = (codes "$start"); start_at = 0 }

pub record Engine4 : Type 0 where
  pub labels : Agrees labels [] (codes "function $start(){\n  var $i = 0;\n  $outer:while($i < 3){\n    $i = $i + 1;\n    var $j = 0;\n    while(true){\n      $j = $j + 1;\n      if($j === 3){\n        continue $outer;\n      }\n      if($i === 3){\n        break $outer;\n      }\n      $write(String($i) + String($j) + \" \");\n    }\n  }\n  $write(String($i) + \" \");\n}\n$start();\n") (codes "11 12 21 22 3 ") 0 []
  pub a_break_leaves_one_loop : Agrees a_break_leaves_one_loop [] (codes "function $start(){\n  var $i = 0;\n  while($i < 2){\n    $i = $i + 1;\n    for(;;){\n      break;\n    }\n    $write(\"x\");\n  }\n}\n$start();\n") (codes "xx") 0 []
  pub loops_without_a_condition : Agrees loops_without_a_condition [] (codes "function $start(){\n  var $i = 0;\n  $l:for(;;){\n    $i = $i + 1;\n    for(;;){\n      if($i < 4){\n        continue $l;\n      }\n      break $l;\n    }\n  }\n  $write(String($i) + \" \");\n}\n$start();\n") (codes "4 ") 0 []
  pub switches : Agrees switches [] (codes "function $f($n){\n  switch($n){\n    case 1:\n    $write(\"a\");\n    case 2:\n    $write(\"b\");\n    break;\n    case 3:\n    $write(\"c\");\n    default:\n    $write(\"d\");\n  }\n  $write(\" \");\n}\nfunction $start(){\n  $f(1);\n  $f(2);\n  $f(3);\n  $f(4);\n  $f(\"1\");\n}\n$start();\n") (codes "ab b cd d d ") 0 []
  pub switches_without_a_default : Agrees switches_without_a_default [] (codes "function $f($n){\n  switch($n){\n    case 0:\n    case 1:\n    $write(\"low\");\n  }\n  $write(\".\");\n}\nfunction $start(){\n  $f(0);\n  $f(9);\n}\n$start();\n") (codes "low..") 0 []
  pub jumps_out_of_a_switch : Agrees jumps_out_of_a_switch [] (codes "function $start(){\n  var $i = 0;\n  $l:while($i < 4){\n    $i = $i + 1;\n    switch($i){\n      case 1:\n      continue;\n      case 2:\n      break;\n      case 3:\n      break $l;\n    }\n    $write(String($i));\n  }\n  $write(String($i) + \" \");\n}\n$start();\n") (codes "23 ") 0 []
  pub a_labelled_switch : Agrees a_labelled_switch [] (codes "function $start(){\n  $s:switch(1){\n    case 1:\n    while(true){\n      break $s;\n    }\n    $write(\"no\");\n  }\n  $write(\"done\");\n}\n$start();\n") (codes "done") 0 []
  pub branches : Agrees branches [] (codes "function $f($n){\n  if($n === 1){\n    $write(\"a\");\n  }else if($n === 2){\n    $write(\"b\");\n  }else{\n    $write(\"c\");\n  }\n  if($n < 3){\n  }else{\n    $write(\"!\");\n  }\n}\nfunction $start(){\n  $f(1);\n  $f(2);\n  $f(3);\n}\n$start();\n") (codes "abc!") 0 []
  pub caught_throws : Agrees caught_throws [] (codes "function $f($n){\n  if($n === 0){\n    throw\"zero\";\n  }\n  $write(\"f\");\n}\nfunction $start(){\n  try{\n    $f(1);\n    $f(0);\n    $write(\"no\");\n  }catch($catch){\n    $write($catch);\n  }\n  $write(\".\");\n}\n$start();\n") (codes "fzero.") 0 []
  pub throws_across_calls : Agrees throws_across_calls [] (codes "function $f($n){\n  if($n === 0){\n    throw[7];\n  }\n  $f($n - 1);\n}\nfunction $start(){\n  try{\n    $f(3);\n  }catch($catch){\n    $write(String($catch[0]));\n  }\n}\n$start();\n") (codes "7") 0 []
  pub nested_catches : Agrees nested_catches [] (codes "function $start(){\n  try{\n    try{\n      throw\"a\";\n    }catch($catch){\n      $write($catch);\n      try{\n        throw\"b\";\n      }catch($catch){\n        $write($catch);\n      }\n      $write($catch);\n      throw\"c\";\n    }\n  }catch($catch){\n    $write($catch);\n  }\n}\n$start();\n") (codes "abac") 0 []
  pub jumps_out_of_a_try : Agrees jumps_out_of_a_try [] (codes "function $f($n){\n  while(true){\n    try{\n      if($n === 1){\n        return 10;\n      }\n      if($n === 2){\n        break;\n      }\n      throw 30;\n    }catch($catch){\n      return $catch;\n    }\n  }\n  return 20;\n}\nfunction $start(){\n  $write(String($f(1)) + \" \");\n  $write(String($f(2)) + \" \");\n  $write(String($f(3)) + \" \");\n}\n$start();\n") (codes "10 20 30 ") 0 []
  pub ends : Agrees ends [] (codes "function $start(){\n  $write(\"a\");\n  $end(3, \"x\\x0a\");\n  $write(\"b\");\n}\n$start();\n") (codes "a") 3 (codes "x\n")
  pub an_end_is_not_caught : Agrees an_end_is_not_caught [] (codes "function $start(){\n  try{\n    $end(255, \"\");\n  }catch($catch){\n    $write(\"no\");\n  }\n}\n$start();\n") [] 255 []
  pub picks : Agrees picks (5 ∷ 23 ∷ 4294967294 ∷ []) (codes "function $start(){\n  $write(String($pick(2)) + \" \");\n  $write(String($pick(10)) + \" \");\n  $write(String($pick(4294967295)) + \" \");\n  $write(String($pick(3)) + \" \");\n}\n$start();\n") (codes "1 3 4294967294 0 ") 0 []

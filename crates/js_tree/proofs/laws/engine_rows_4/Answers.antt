use Rattle.std.proofs.Common.{refl, [], ◌∷◌, codes}
use Rattle.std.specs.Fmt.{digits}
use Rattle.js_tree.specs.Agrees.{Agrees}
use Rattle.js_tree.specs.Printed.{char_code_at_word, substring_word, dictionary_word, string_word, from_char_code_word, catch_word, preamble}
use Rattle.js_tree.specs.Engine4.{labels, a_break_leaves_one_loop, loops_without_a_condition, switches, switches_without_a_default, jumps_out_of_a_switch, a_labelled_switch, branches, caught_throws, throws_across_calls, nested_catches, jumps_out_of_a_try, ends, an_end_is_not_caught, picks}
use Rattle.js_tree.proofs.laws.engine_rows_4.Goals as goal

labels_agrees : Agrees labels [] (codes "function $start(){\n  var $i = 0;\n  $outer:while($i < 3){\n    $i = $i + 1;\n    var $j = 0;\n    while(true){\n      $j = $j + 1;\n      if($j === 3){\n        continue $outer;\n      }\n      if($i === 3){\n        break $outer;\n      }\n      $write(String($i) + String($j) + \" \");\n    }\n  }\n  $write(String($i) + \" \");\n}\n$start();\n") (codes "11 12 21 22 3 ") 0 []
unfolding digits char_code_at_word substring_word dictionary_word string_word from_char_code_word catch_word preamble
labels_agrees = record { text = refl; printable = refl; prints = refl; ends = refl }

a_break_leaves_one_loop_agrees : Agrees a_break_leaves_one_loop [] (codes "function $start(){\n  var $i = 0;\n  while($i < 2){\n    $i = $i + 1;\n    for(;;){\n      break;\n    }\n    $write(\"x\");\n  }\n}\n$start();\n") (codes "xx") 0 []
unfolding digits char_code_at_word substring_word dictionary_word string_word from_char_code_word catch_word preamble
a_break_leaves_one_loop_agrees = record { text = refl; printable = refl; prints = refl; ends = refl }

loops_without_a_condition_agrees : Agrees loops_without_a_condition [] (codes "function $start(){\n  var $i = 0;\n  $l:for(;;){\n    $i = $i + 1;\n    for(;;){\n      if($i < 4){\n        continue $l;\n      }\n      break $l;\n    }\n  }\n  $write(String($i) + \" \");\n}\n$start();\n") (codes "4 ") 0 []
unfolding digits char_code_at_word substring_word dictionary_word string_word from_char_code_word catch_word preamble
loops_without_a_condition_agrees = record { text = refl; printable = refl; prints = refl; ends = refl }

switches_agrees : Agrees switches [] (codes "function $f($n){\n  switch($n){\n    case 1:\n    $write(\"a\");\n    case 2:\n    $write(\"b\");\n    break;\n    case 3:\n    $write(\"c\");\n    default:\n    $write(\"d\");\n  }\n  $write(\" \");\n}\nfunction $start(){\n  $f(1);\n  $f(2);\n  $f(3);\n  $f(4);\n  $f(\"1\");\n}\n$start();\n") (codes "ab b cd d d ") 0 []
unfolding digits char_code_at_word substring_word dictionary_word string_word from_char_code_word catch_word preamble
switches_agrees = record { text = refl; printable = refl; prints = refl; ends = refl }

switches_without_a_default_agrees : Agrees switches_without_a_default [] (codes "function $f($n){\n  switch($n){\n    case 0:\n    case 1:\n    $write(\"low\");\n  }\n  $write(\".\");\n}\nfunction $start(){\n  $f(0);\n  $f(9);\n}\n$start();\n") (codes "low..") 0 []
unfolding digits char_code_at_word substring_word dictionary_word string_word from_char_code_word catch_word preamble
switches_without_a_default_agrees = record { text = refl; printable = refl; prints = refl; ends = refl }

jumps_out_of_a_switch_agrees : Agrees jumps_out_of_a_switch [] (codes "function $start(){\n  var $i = 0;\n  $l:while($i < 4){\n    $i = $i + 1;\n    switch($i){\n      case 1:\n      continue;\n      case 2:\n      break;\n      case 3:\n      break $l;\n    }\n    $write(String($i));\n  }\n  $write(String($i) + \" \");\n}\n$start();\n") (codes "23 ") 0 []
unfolding digits char_code_at_word substring_word dictionary_word string_word from_char_code_word catch_word preamble
jumps_out_of_a_switch_agrees = record { text = refl; printable = refl; prints = refl; ends = refl }

a_labelled_switch_agrees : Agrees a_labelled_switch [] (codes "function $start(){\n  $s:switch(1){\n    case 1:\n    while(true){\n      break $s;\n    }\n    $write(\"no\");\n  }\n  $write(\"done\");\n}\n$start();\n") (codes "done") 0 []
unfolding digits char_code_at_word substring_word dictionary_word string_word from_char_code_word catch_word preamble
a_labelled_switch_agrees = record { text = refl; printable = refl; prints = refl; ends = refl }

branches_agrees : Agrees branches [] (codes "function $f($n){\n  if($n === 1){\n    $write(\"a\");\n  }else if($n === 2){\n    $write(\"b\");\n  }else{\n    $write(\"c\");\n  }\n  if($n < 3){\n  }else{\n    $write(\"!\");\n  }\n}\nfunction $start(){\n  $f(1);\n  $f(2);\n  $f(3);\n}\n$start();\n") (codes "abc!") 0 []
unfolding digits char_code_at_word substring_word dictionary_word string_word from_char_code_word catch_word preamble
branches_agrees = record { text = refl; printable = refl; prints = refl; ends = refl }

caught_throws_agrees : Agrees caught_throws [] (codes "function $f($n){\n  if($n === 0){\n    throw\"zero\";\n  }\n  $write(\"f\");\n}\nfunction $start(){\n  try{\n    $f(1);\n    $f(0);\n    $write(\"no\");\n  }catch($catch){\n    $write($catch);\n  }\n  $write(\".\");\n}\n$start();\n") (codes "fzero.") 0 []
unfolding digits char_code_at_word substring_word dictionary_word string_word from_char_code_word catch_word preamble
caught_throws_agrees = record { text = refl; printable = refl; prints = refl; ends = refl }

throws_across_calls_agrees : Agrees throws_across_calls [] (codes "function $f($n){\n  if($n === 0){\n    throw[7];\n  }\n  $f($n - 1);\n}\nfunction $start(){\n  try{\n    $f(3);\n  }catch($catch){\n    $write(String($catch[0]));\n  }\n}\n$start();\n") (codes "7") 0 []
unfolding digits char_code_at_word substring_word dictionary_word string_word from_char_code_word catch_word preamble
throws_across_calls_agrees = record { text = refl; printable = refl; prints = refl; ends = refl }

nested_catches_agrees : Agrees nested_catches [] (codes "function $start(){\n  try{\n    try{\n      throw\"a\";\n    }catch($catch){\n      $write($catch);\n      try{\n        throw\"b\";\n      }catch($catch){\n        $write($catch);\n      }\n      $write($catch);\n      throw\"c\";\n    }\n  }catch($catch){\n    $write($catch);\n  }\n}\n$start();\n") (codes "abac") 0 []
unfolding digits char_code_at_word substring_word dictionary_word string_word from_char_code_word catch_word preamble
nested_catches_agrees = record { text = refl; printable = refl; prints = refl; ends = refl }

jumps_out_of_a_try_agrees : Agrees jumps_out_of_a_try [] (codes "function $f($n){\n  while(true){\n    try{\n      if($n === 1){\n        return 10;\n      }\n      if($n === 2){\n        break;\n      }\n      throw 30;\n    }catch($catch){\n      return $catch;\n    }\n  }\n  return 20;\n}\nfunction $start(){\n  $write(String($f(1)) + \" \");\n  $write(String($f(2)) + \" \");\n  $write(String($f(3)) + \" \");\n}\n$start();\n") (codes "10 20 30 ") 0 []
unfolding digits char_code_at_word substring_word dictionary_word string_word from_char_code_word catch_word preamble
jumps_out_of_a_try_agrees = record { text = refl; printable = refl; prints = refl; ends = refl }

ends_agrees : Agrees ends [] (codes "function $start(){\n  $write(\"a\");\n  $end(3, \"x\\x0a\");\n  $write(\"b\");\n}\n$start();\n") (codes "a") 3 (codes "x\n")
unfolding digits char_code_at_word substring_word dictionary_word string_word from_char_code_word catch_word preamble
ends_agrees = record { text = refl; printable = refl; prints = refl; ends = refl }

an_end_is_not_caught_agrees : Agrees an_end_is_not_caught [] (codes "function $start(){\n  try{\n    $end(255, \"\");\n  }catch($catch){\n    $write(\"no\");\n  }\n}\n$start();\n") [] 255 []
unfolding digits char_code_at_word substring_word dictionary_word string_word from_char_code_word catch_word preamble
an_end_is_not_caught_agrees = record { text = refl; printable = refl; prints = refl; ends = refl }

picks_agrees : Agrees picks (5 ∷ 23 ∷ 4294967294 ∷ []) (codes "function $start(){\n  $write(String($pick(2)) + \" \");\n  $write(String($pick(10)) + \" \");\n  $write(String($pick(4294967295)) + \" \");\n  $write(String($pick(3)) + \" \");\n}\n$start();\n") (codes "1 3 4294967294 0 ") 0 []
unfolding digits char_code_at_word substring_word dictionary_word string_word from_char_code_word catch_word preamble
picks_agrees = record { text = refl; printable = refl; prints = refl; ends = refl }

pub returns : goal.returns
returns c = record {
  rows = record {
    labels = labels_agrees;
    a_break_leaves_one_loop = a_break_leaves_one_loop_agrees;
    loops_without_a_condition = loops_without_a_condition_agrees;
    switches = switches_agrees;
    switches_without_a_default = switches_without_a_default_agrees;
    jumps_out_of_a_switch = jumps_out_of_a_switch_agrees;
    a_labelled_switch = a_labelled_switch_agrees;
    branches = branches_agrees;
    caught_throws = caught_throws_agrees;
    throws_across_calls = throws_across_calls_agrees;
    nested_catches = nested_catches_agrees;
    jumps_out_of_a_try = jumps_out_of_a_try_agrees;
    ends = ends_agrees;
    an_end_is_not_caught = an_end_is_not_caught_agrees;
    picks = picks_agrees;
  };
}

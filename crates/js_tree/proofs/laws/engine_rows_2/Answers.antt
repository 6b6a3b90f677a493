use Rattle.std.proofs.Common.{refl, [], ◌∷◌, codes}
use Rattle.std.specs.Fmt.{digits}
use Rattle.js_tree.specs.Agrees.{Agrees}
use Rattle.js_tree.specs.Printed.{char_code_at_word, substring_word, dictionary_word, string_word, from_char_code_word, catch_word, preamble}
use Rattle.js_tree.specs.Engine2.{strict_equality, strict_difference, arrays_by_identity, functions_by_name, one_zero, conditions_not, both_and_either, last_side_is_given, choices_of_values, precedence, lengths_of_strings, bytes_of_strings, parts_of_strings, texts_of_numbers, strings_of_one_byte}
use Rattle.js_tree.proofs.laws.engine_rows_2.Goals as goal

strict_equality_agrees : Agrees strict_equality [] (codes "function $start(){\n  $write(1 === 1 ? \"T\" : \"F\");\n  $write(1 === \"1\" ? \"T\" : \"F\");\n  $write(true === true ? \"T\" : \"F\");\n  $write(true === 1 ? \"T\" : \"F\");\n  $write(null === null ? \"T\" : \"F\");\n  $write(null === false ? \"T\" : \"F\");\n  $write(\"ab\" === \"ab\" ? \"T\" : \"F\");\n  $write(\"\" === null ? \"T\" : \"F\");\n}\n$start();\n") (codes "TFTFTFTF") 0 []
unfolding digits char_code_at_word substring_word dictionary_word string_word from_char_code_word catch_word preamble
strict_equality_agrees = record { text = refl; printable = refl; prints = refl; ends = refl }

strict_difference_agrees : Agrees strict_difference [] (codes "function $start(){\n  $write(1 !== 2 ? \"T\" : \"F\");\n  $write(2 !== 2 ? \"T\" : \"F\");\n  $write(\"a\" !== \"b\" ? \"T\" : \"F\");\n  $write(null !== 0 ? \"T\" : \"F\");\n}\n$start();\n") (codes "TFTT") 0 []
unfolding digits char_code_at_word substring_word dictionary_word string_word from_char_code_word catch_word preamble
strict_difference_agrees = record { text = refl; printable = refl; prints = refl; ends = refl }

arrays_by_identity_agrees : Agrees arrays_by_identity [] (codes "function $start(){\n  var $a = [1];\n  var $b = $a;\n  $write($a === $b ? \"T\" : \"F\");\n  $write($a === [1] ? \"T\" : \"F\");\n  $write($a !== [1] ? \"T\" : \"F\");\n  $write([] === [] ? \"T\" : \"F\");\n  $write(Object.create(null) === Object.create(null) ? \"T\" : \"F\");\n}\n$start();\n") (codes "TFTFF") 0 []
unfolding digits char_code_at_word substring_word dictionary_word string_word from_char_code_word catch_word preamble
arrays_by_identity_agrees = record { text = refl; printable = refl; prints = refl; ends = refl }

functions_by_name_agrees : Agrees functions_by_name [] (codes "function $f(){\n}\nfunction $g(){\n}\nfunction $start(){\n  $write($f === $f ? \"T\" : \"F\");\n  $write($f === $g ? \"T\" : \"F\");\n  $write($f === null ? \"T\" : \"F\");\n}\n$start();\n") (codes "TFF") 0 []
unfolding digits char_code_at_word substring_word dictionary_word string_word from_char_code_word catch_word preamble
functions_by_name_agrees = record { text = refl; printable = refl; prints = refl; ends = refl }

one_zero_agrees : Agrees one_zero [] (codes "function $start(){\n  $write(0 === -0 ? \"T\" : \"F\");\n  $write(-0 < 0 ? \"T\" : \"F\");\n  $write(String(-0) + \" \");\n  $write(String(0 * -5) + \" \");\n  $write(String(-4 % 4) + \" \");\n  $write(0 * -1 === 0 ? \"T\" : \"F\");\n}\n$start();\n") (codes "TF0 0 0 T") 0 []
unfolding digits char_code_at_word substring_word dictionary_word string_word from_char_code_word catch_word preamble
one_zero_agrees = record { text = refl; printable = refl; prints = refl; ends = refl }

conditions_not_agrees : Agrees conditions_not [] (codes "function $start(){\n  $write(!true ? \"T\" : \"F\");\n  $write(!false ? \"T\" : \"F\");\n  $write(!(1 < 2) ? \"T\" : \"F\");\n}\n$start();\n") (codes "FTF") 0 []
unfolding digits char_code_at_word substring_word dictionary_word string_word from_char_code_word catch_word preamble
conditions_not_agrees = record { text = refl; printable = refl; prints = refl; ends = refl }

both_and_either_agrees : Agrees both_and_either [] (codes "function $say($s, $b){\n  $write($s);\n  return $b;\n}\nfunction $start(){\n  $write($say(\"a\", true) && $say(\"b\", false) ? \"T\" : \"F\");\n  $write($say(\"c\", false) && $say(\"d\", true) ? \"T\" : \"F\");\n  $write($say(\"e\", true) || $say(\"f\", true) ? \"T\" : \"F\");\n  $write($say(\"g\", false) || $say(\"h\", true) ? \"T\" : \"F\");\n}\n$start();\n") (codes "abFcFeTghT") 0 []
unfolding digits char_code_at_word substring_word dictionary_word string_word from_char_code_word catch_word preamble
both_and_either_agrees = record { text = refl; printable = refl; prints = refl; ends = refl }

last_side_is_given_agrees : Agrees last_side_is_given [] (codes "function $start(){\n  $write(true && \"x\");\n  $write(false || \"y\");\n  $write(true && false || \"z\");\n}\n$start();\n") (codes "xyz") 0 []
unfolding digits char_code_at_word substring_word dictionary_word string_word from_char_code_word catch_word preamble
last_side_is_given_agrees = record { text = refl; printable = refl; prints = refl; ends = refl }

choices_of_values_agrees : Agrees choices_of_values [] (codes "function $start(){\n  $write(true ? \"a\" : \"b\");\n  $write(false ? \"a\" : true ? \"c\" : \"d\");\n  $write((false ? true : false) ? \"e\" : \"f\");\n}\n$start();\n") (codes "acf") 0 []
unfolding digits char_code_at_word substring_word dictionary_word string_word from_char_code_word catch_word preamble
choices_of_values_agrees = record { text = refl; printable = refl; prints = refl; ends = refl }

precedence_agrees : Agrees precedence [] (codes "function $start(){\n  $write(String(2 + 3 << 1) + \" \");\n  $write(String(2 + (3 << 1)) + \" \");\n  $write(String(1 | 2 ^ 3 & 4) + \" \");\n  $write(String((1 | 2 ^ 3) & 4) + \" \");\n  $write(1 < 2 === true ? \"T\" : \"F\");\n  $write((5 & 4) === 4 ? \"T\" : \"F\");\n  $write(String(- -1) + \" \");\n  $write(String(1 - -1) + \" \");\n  $write(String(-(2 - 5)) + \" \");\n}\n$start();\n") (codes "10 8 3 0 TT1 2 3 ") 0 []
unfolding digits char_code_at_word substring_word dictionary_word string_word from_char_code_word catch_word preamble
precedence_agrees = record { text = refl; printable = refl; prints = refl; ends = refl }

lengths_of_strings_agrees : Agrees lengths_of_strings [] (codes "function $start(){\n  $write(String(\"\".length) + \" \");\n  $write(String(\"abc\".length) + \" \");\n  $write(String((\"a\" + \"bc\").length) + \" \");\n  $write(String(\"\\x00\\xff\".length) + \" \");\n}\n$start();\n") (codes "0 3 3 2 ") 0 []
unfolding digits char_code_at_word substring_word dictionary_word string_word from_char_code_word catch_word preamble
lengths_of_strings_agrees = record { text = refl; printable = refl; prints = refl; ends = refl }

bytes_of_strings_agrees : Agrees bytes_of_strings [] (codes "function $start(){\n  $write(String(\"abc\".charCodeAt(0)) + \" \");\n  $write(String(\"abc\".charCodeAt(2)) + \" \");\n  $write(String(\"\\xff\\x00\".charCodeAt(0)) + \" \");\n  $write(String(\"\\\"\\\\\\x0a\".charCodeAt(1)) + \" \");\n}\n$start();\n") (codes "97 99 255 92 ") 0 []
unfolding digits char_code_at_word substring_word dictionary_word string_word from_char_code_word catch_word preamble
bytes_of_strings_agrees = record { text = refl; printable = refl; prints = refl; ends = refl }

parts_of_strings_agrees : Agrees parts_of_strings [] (codes "function $start(){\n  $write(\"hello\".substring(1, 3));\n  $write(\"hello\".substring(2, 2));\n  $write(\"hello\".substring(0, 5));\n  $write(\"hello\".substring(5, 5));\n}\n$start();\n") (codes "elhello") 0 []
unfolding digits char_code_at_word substring_word dictionary_word string_word from_char_code_word catch_word preamble
parts_of_strings_agrees = record { text = refl; printable = refl; prints = refl; ends = refl }

texts_of_numbers_agrees : Agrees texts_of_numbers [] (codes "function $start(){\n  $write(String(0));\n  $write(String(-0));\n  $write(String(120));\n  $write(String(-9007199254740992));\n  $write(String(9007199254740992));\n}\n$start();\n") (codes "00120-90071992547409929007199254740992") 0 []
unfolding digits char_code_at_word substring_word dictionary_word string_word from_char_code_word catch_word preamble
texts_of_numbers_agrees = record { text = refl; printable = refl; prints = refl; ends = refl }

strings_of_one_byte_agrees : Agrees strings_of_one_byte [] (codes "function $start(){\n  $write(String.fromCharCode(65));\n  $write(String.fromCharCode(0));\n  $write(String.fromCharCode(255));\n  $write(String.fromCharCode(97) === \"a\" ? \"T\" : \"F\");\n}\n$start();\n") (65 ∷ 0 ∷ 255 ∷ 84 ∷ []) 0 []
unfolding digits char_code_at_word substring_word dictionary_word string_word from_char_code_word catch_word preamble
strings_of_one_byte_agrees = record { text = refl; printable = refl; prints = refl; ends = refl }

pub returns : goal.returns
returns c = record {
  rows = record {
    strict_equality = strict_equality_agrees;
    strict_difference = strict_difference_agrees;
    arrays_by_identity = arrays_by_identity_agrees;
    functions_by_name = functions_by_name_agrees;
    one_zero = one_zero_agrees;
    conditions_not = conditions_not_agrees;
    both_and_either = both_and_either_agrees;
    last_side_is_given = last_side_is_given_agrees;
    choices_of_values = choices_of_values_agrees;
    precedence = precedence_agrees;
    lengths_of_strings = lengths_of_strings_agrees;
    bytes_of_strings = bytes_of_strings_agrees;
    parts_of_strings = parts_of_strings_agrees;
    texts_of_numbers = texts_of_numbers_agrees;
    strings_of_one_byte = strings_of_one_byte_agrees;
  };
}

use Rattle.std.proofs.Common.{refl, [], codes}
use Rattle.std.specs.Fmt.{digits}
use Rattle.js_tree.specs.Agrees.{Agrees}
use Rattle.js_tree.specs.Printed.{char_code_at_word, substring_word, dictionary_word, string_word, from_char_code_word, catch_word, preamble}
use Rattle.js_tree.specs.Engine1.{prints, sums_and_products, quotients, remainders, largest_numbers, joined_strings, bits_or, bits_and, bits_xor, complements, shifts_left, shifts_right, shifts_right_unsigned, orders_of_numbers, orders_of_strings}
use Rattle.js_tree.proofs.laws.engine_rows_1.Goals as goal

prints_agrees : Agrees prints [] (codes "function $start(){\n  $write(\"hi\");\n}\n$start();\n") (codes "hi") 0 []
unfolding digits char_code_at_word substring_word dictionary_word string_word from_char_code_word catch_word preamble
prints_agrees = record { text = refl; printable = refl; prints = refl; ends = refl }

sums_and_products_agrees : Agrees sums_and_products [] (codes "function $start(){\n  $write(String(2 + 3 * 4 - 5) + \" \");\n  $write(String((2 + 3) * 4) + \" \");\n  $write(String(2 - (3 - 4)) + \" \");\n}\n$start();\n") (codes "9 20 3 ") 0 []
unfolding digits char_code_at_word substring_word dictionary_word string_word from_char_code_word catch_word preamble
sums_and_products_agrees = record { text = refl; printable = refl; prints = refl; ends = refl }

quotients_agrees : Agrees quotients [] (codes "function $start(){\n  $write(String(84 / -7) + \" \");\n  $write(String(-84 / 7) + \" \");\n  $write(String(0 / 5) + \" \");\n  $write(String(9007199254740992 / 2) + \" \");\n}\n$start();\n") (codes "-12 -12 0 4503599627370496 ") 0 []
unfolding digits char_code_at_word substring_word dictionary_word string_word from_char_code_word catch_word preamble
quotients_agrees = record { text = refl; printable = refl; prints = refl; ends = refl }

remainders_agrees : Agrees remainders [] (codes "function $start(){\n  $write(String(-7 % 2) + \" \");\n  $write(String(7 % -2) + \" \");\n  $write(String(-7 % -2) + \" \");\n  $write(String(-4 % 2) + \" \");\n  $write(String(7 % 9) + \" \");\n}\n$start();\n") (codes "-1 1 -1 0 7 ") 0 []
unfolding digits char_code_at_word substring_word dictionary_word string_word from_char_code_word catch_word preamble
remainders_agrees = record { text = refl; printable = refl; prints = refl; ends = refl }

largest_numbers_agrees : Agrees largest_numbers [] (codes "function $start(){\n  $write(String(9007199254740991 + 1) + \" \");\n  $write(String(-9007199254740992) + \" \");\n  $write(String(3002399751580330 * 3 + 2) + \" \");\n}\n$start();\n") (codes "9007199254740992 -9007199254740992 9007199254740992 ") 0 []
unfolding digits char_code_at_word substring_word dictionary_word string_word from_char_code_word catch_word preamble
largest_numbers_agrees = record { text = refl; printable = refl; prints = refl; ends = refl }

joined_strings_agrees : Agrees joined_strings [] (codes "function $start(){\n  $write(\"a\" + \"b\" + \"\" + \"c\");\n}\n$start();\n") (codes "abc") 0 []
unfolding digits char_code_at_word substring_word dictionary_word string_word from_char_code_word catch_word preamble
joined_strings_agrees = record { text = refl; printable = refl; prints = refl; ends = refl }

bits_or_agrees : Agrees bits_or [] (codes "function $start(){\n  $write(String(5 | 3) + \" \");\n  $write(String(4294967295 | 0) + \" \");\n  $write(String(-1 | 0) + \" \");\n  $write(String(9007199254740992 | 1) + \" \");\n  $write(String(2147483648 | 0) + \" \");\n}\n$start();\n") (codes "7 -1 -1 1 -2147483648 ") 0 []
unfolding digits char_code_at_word substring_word dictionary_word string_word from_char_code_word catch_word preamble
bits_or_agrees = record { text = refl; printable = refl; prints = refl; ends = refl }

bits_and_agrees : Agrees bits_and [] (codes "function $start(){\n  $write(String(12 & 10) + \" \");\n  $write(String(-1 & 255) + \" \");\n  $write(String(-256 & 511) + \" \");\n  $write(String(4294967297 & 3) + \" \");\n}\n$start();\n") (codes "8 255 256 1 ") 0 []
unfolding digits char_code_at_word substring_word dictionary_word string_word from_char_code_word catch_word preamble
bits_and_agrees = record { text = refl; printable = refl; prints = refl; ends = refl }

bits_xor_agrees : Agrees bits_xor [] (codes "function $start(){\n  $write(String(12 ^ 10) + \" \");\n  $write(String(-1 ^ 1) + \" \");\n  $write(String(-5 ^ -6) + \" \");\n}\n$start();\n") (codes "6 -2 1 ") 0 []
unfolding digits char_code_at_word substring_word dictionary_word string_word from_char_code_word catch_word preamble
bits_xor_agrees = record { text = refl; printable = refl; prints = refl; ends = refl }

complements_agrees : Agrees complements [] (codes "function $start(){\n  $write(String(~5) + \" \");\n  $write(String(~-1) + \" \");\n  $write(String(~4294967295) + \" \");\n  $write(String(~2147483648) + \" \");\n}\n$start();\n") (codes "-6 0 0 2147483647 ") 0 []
unfolding digits char_code_at_word substring_word dictionary_word string_word from_char_code_word catch_word preamble
complements_agrees = record { text = refl; printable = refl; prints = refl; ends = refl }

shifts_left_agrees : Agrees shifts_left [] (codes "function $start(){\n  $write(String(1 << 31) + \" \");\n  $write(String(1 << 33) + \" \");\n  $write(String(5 << -1) + \" \");\n  $write(String(-1 << 4) + \" \");\n}\n$start();\n") (codes "-2147483648 2 -2147483648 -16 ") 0 []
unfolding digits char_code_at_word substring_word dictionary_word string_word from_char_code_word catch_word preamble
shifts_left_agrees = record { text = refl; printable = refl; prints = refl; ends = refl }

shifts_right_agrees : Agrees shifts_right [] (codes "function $start(){\n  $write(String(-8 >> 1) + \" \");\n  $write(String(-1 >> 31) + \" \");\n  $write(String(4294967296 >> 0) + \" \");\n  $write(String(2147483648 >> 30) + \" \");\n  $write(String(9 >> 33) + \" \");\n}\n$start();\n") (codes "-4 -1 0 -2 4 ") 0 []
unfolding digits char_code_at_word substring_word dictionary_word string_word from_char_code_word catch_word preamble
shifts_right_agrees = record { text = refl; printable = refl; prints = refl; ends = refl }

shifts_right_unsigned_agrees : Agrees shifts_right_unsigned [] (codes "function $start(){\n  $write(String(-1 >>> 0) + \" \");\n  $write(String(-1 >>> 28) + \" \");\n  $write(String(8 >>> 33) + \" \");\n  $write(String(4294967298 >>> 1) + \" \");\n}\n$start();\n") (codes "4294967295 15 4 1 ") 0 []
unfolding digits char_code_at_word substring_word dictionary_word string_word from_char_code_word catch_word preamble
shifts_right_unsigned_agrees = record { text = refl; printable = refl; prints = refl; ends = refl }

orders_of_numbers_agrees : Agrees orders_of_numbers [] (codes "function $start(){\n  $write(1 < 2 ? \"T\" : \"F\");\n  $write(2 < 2 ? \"T\" : \"F\");\n  $write(2 <= 2 ? \"T\" : \"F\");\n  $write(-1 > -2 ? \"T\" : \"F\");\n  $write(2 > 2 ? \"T\" : \"F\");\n  $write(2 >= 3 ? \"T\" : \"F\");\n}\n$start();\n") (codes "TFTTFF") 0 []
unfolding digits char_code_at_word substring_word dictionary_word string_word from_char_code_word catch_word preamble
orders_of_numbers_agrees = record { text = refl; printable = refl; prints = refl; ends = refl }

orders_of_strings_agrees : Agrees orders_of_strings [] (codes "function $start(){\n  $write(\"a\" < \"b\" ? \"T\" : \"F\");\n  $write(\"a\" < \"aa\" ? \"T\" : \"F\");\n  $write(\"Z\" < \"a\" ? \"T\" : \"F\");\n  $write(\"a\" < \"\" ? \"T\" : \"F\");\n  $write(\"b\" <= \"ab\" ? \"T\" : \"F\");\n  $write(\"\\xff\" > \"z\" ? \"T\" : \"F\");\n  $write(\"a\" >= \"a\" ? \"T\" : \"F\");\n}\n$start();\n") (codes "TTTFFTT") 0 []
unfolding digits char_code_at_word substring_word dictionary_word string_word from_char_code_word catch_word preamble
orders_of_strings_agrees = record { text = refl; printable = refl; prints = refl; ends = refl }

pub returns : goal.returns
returns c = record {
  rows = record {
    prints = prints_agrees;
    sums_and_products = sums_and_products_agrees;
    quotients = quotients_agrees;
    remainders = remainders_agrees;
    largest_numbers = largest_numbers_agrees;
    joined_strings = joined_strings_agrees;
    bits_or = bits_or_agrees;
    bits_and = bits_and_agrees;
    bits_xor = bits_xor_agrees;
    complements = complements_agrees;
    shifts_left = shifts_left_agrees;
    shifts_right = shifts_right_agrees;
    shifts_right_unsigned = shifts_right_unsigned_agrees;
    orders_of_numbers = orders_of_numbers_agrees;
    orders_of_strings = orders_of_strings_agrees;
  };
}

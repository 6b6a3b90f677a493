-- Rows by hand: conversions, calls, `len`, `print` and `println`. Go specification (as of Go 1.17), "Conversions", "Calls",
-- "Length and capacity", "Bootstrapping".
use Rattle.std.specs.Prelude.{◌≡◌, [], ◌∷◌, true, false, None, codes}
use Rattle.gj_base.specs.declared.kind.Op.TheVariants as operator
use Rattle.go_const.specs.declared.constant.Const.TheVariants as form
use Rattle.go_syntax.specs.declared.tree.Prefix.TheVariants as «prefix»
use Rattle.go_type.specs.Tree as ty
use Rattle.go_core.specs.CoreTree as core
use Rattle.go_typing.specs.Answer.{value, does}
use Rattle.go_typing.specs.Operand.{typed_constant}
use Rattle.go_typing.specs.TypingRowWords.{name, num, rune, str, paren, pre, two, call, call_spread, int, int64, uint8, int32, named_int, named_bool, named_str, one_type, two_types, typed, told, fault, named_fault, b_, i_, w_, s_, z_, a_value, whole_of, num_at, text_at, args}

pub record RowsCalls : Type 0 where
  -- conversions
  -- `N(i)`
  pub to_a_named_type : typed (call (name (codes "N") 0) ((name (codes "i") 2) ∷ [])) ≡ a_value (core.convert int named_int i_) named_int
  -- `N(4)`
  pub of_a_constant : typed (call (name (codes "N") 0) ((num (codes "4") 2) ∷ [])) ≡ whole_of named_int 4
  -- `int(c)`
  pub of_a_typed_constant : typed (call (name (codes "int") 0) ((name (codes "c") 4) ∷ [])) ≡ whole_of int 200
  -- `int(i)`
  pub to_the_same_type : typed (call (name (codes "int") 0) ((name (codes "i") 4) ∷ [])) ≡ a_value (core.convert int int i_) int
  -- `uint8(w)`
  pub to_a_narrow_type : typed (call (name (codes "uint8") 0) ((name (codes "w") 6) ∷ [])) ≡ a_value (core.convert int64 uint8 w_) uint8
  -- `uint8(255)`
  pub to_uint8 : typed (call (name (codes "uint8") 0) ((num (codes "255") 6) ∷ [])) ≡ whole_of uint8 255
  -- `S(s)`
  pub of_a_string : typed (call (name (codes "S") 0) ((name (codes "s") 2) ∷ [])) ≡ a_value (core.convert ty.str named_str s_) named_str
  -- `B(i == 4)`
  pub of_a_comparison : typed (call (name (codes "B") 0) ((two (name (codes "i") 2) operator.Eq (num (codes "4") 7)) ∷ [])) ≡ a_value (core.convert ty.bool named_bool (core.equal false int ty.bool i_ (num_at int 4))) named_bool
  -- `bool(i == 4)`
  pub of_a_comparison_to_bool : typed (call (name (codes "bool") 0) ((two (name (codes "i") 5) operator.Eq (num (codes "4") 10)) ∷ [])) ≡ a_value (core.equal false int ty.bool i_ (num_at int 4)) ty.bool
  -- `string(i)`
  pub integer_to_string : typed (call (name (codes "string") 0) ((name (codes "i") 7) ∷ [])) ≡ a_value (core.convert int ty.str i_) ty.str
  -- `string(65)`
  pub constant_integer_to_string : typed (call (name (codes "string") 0) ((num (codes "65") 7) ∷ [])) ≡ typed_constant ty.str (form.Text (codes "A"))
  -- `S('é')`
  pub rune_to_string : typed (call (name (codes "S") 0) ((rune (195 ∷ 169 ∷ []) 2) ∷ [])) ≡ typed_constant named_str (form.Text (195 ∷ 169 ∷ []))
  -- `string(-1)`
  pub negative_to_string : typed (call (name (codes "string") 0) ((pre 7 «prefix».Neg (num (codes "1") 8)) ∷ [])) ≡ typed_constant ty.str (form.Text (239 ∷ 191 ∷ 189 ∷ []))
  -- `(int64)(4)`
  pub parenthesised_type : typed (call (paren 0 (name (codes "int64") 1)) ((num (codes "4") 8) ∷ [])) ≡ whole_of int64 4
  -- constants that the type does not hold (32)
  -- `uint8(300)`
  pub past_uint8 : told (call (name (codes "uint8") 0) ((num (codes "300") 6) ∷ [])) ≡ fault 6 32 ∷ []
  -- `uint8(-1)`
  pub negative_uint8 : told (call (name (codes "uint8") 0) ((pre 6 «prefix».Neg (num (codes "1") 7)) ∷ [])) ≡ fault 6 32 ∷ []
  -- `int8(c)`
  pub typed_past_int8 : told (call (name (codes "int8") 0) ((name (codes "c") 5) ∷ [])) ≡ fault 5 32 ∷ []
  -- `x + uint8(300)`
  pub past_after_an_undefined_name : told (two (name (codes "x") 0) operator.Add (call (name (codes "uint8") 4) ((num (codes "300") 10) ∷ []))) ≡ named_fault 0 50 (codes "x") ∷ fault 10 32 ∷ []
  -- no conversions (58)
  -- `int(b)`
  pub boolean_to_integer : told (call (name (codes "int") 0) ((name (codes "b") 4) ∷ [])) ≡ fault 0 58 ∷ []
  -- `int("a")`
  pub text_to_integer : told (call (name (codes "int") 0) ((str (codes "a") 4) ∷ [])) ≡ fault 0 58 ∷ []
  -- `int(s)`
  pub string_to_integer : told (call (name (codes "int") 0) ((name (codes "s") 4) ∷ [])) ≡ fault 0 58 ∷ []
  -- `bool(1)`
  pub number_to_boolean : told (call (name (codes "bool") 0) ((num (codes "1") 5) ∷ [])) ≡ fault 0 58 ∷ []
  -- `string(true)`
  pub truth_to_string : told (call (name (codes "string") 0) ((name (codes "true") 7) ∷ [])) ≡ fault 0 58 ∷ []
  -- `string(b)`
  pub boolean_to_string : told (call (name (codes "string") 0) ((name (codes "b") 7) ∷ [])) ≡ fault 0 58 ∷ []
  -- `string(i == 4)`
  pub comparison_to_string : told (call (name (codes "string") 0) ((two (name (codes "i") 7) operator.Eq (num (codes "4") 12)) ∷ [])) ≡ fault 0 58 ∷ []
  -- `int(nil)`
  pub nil_to_integer : told (call (name (codes "int") 0) ((name (codes "nil") 4) ∷ [])) ≡ fault 0 58 ∷ []
  -- `x + int(s)`
  pub no_conversion_after_an_undefined_name : told (two (name (codes "x") 0) operator.Add (call (name (codes "int") 4) ((name (codes "s") 8) ∷ []))) ≡ named_fault 0 50 (codes "x") ∷ fault 4 58 ∷ []
  -- operands of conversions (60, 52)
  -- `int()`
  pub none : told (call (name (codes "int") 0) []) ≡ fault 0 60 ∷ []
  -- `int(4, 6)`
  pub two_operands : told (call (name (codes "int") 0) ((num (codes "4") 4) ∷ (num (codes "6") 7) ∷ [])) ≡ fault 0 60 ∷ []
  -- `int(i...)`
  pub dots_after_an_operand : told (call_spread (name (codes "int") 0) ((name (codes "i") 4) ∷ [])) ≡ fault 0 60 ∷ []
  -- `x + int()`
  pub none_after_an_undefined_name : told (two (name (codes "x") 0) operator.Add (call (name (codes "int") 4) [])) ≡ named_fault 0 50 (codes "x") ∷ fault 4 60 ∷ []
  -- `int(g())`
  pub two_results_to_convert : told (call (name (codes "int") 0) ((call (name (codes "g") 4) []) ∷ [])) ≡ fault 4 52 ∷ []
  -- `int(h())`
  pub no_result_to_convert : told (call (name (codes "int") 0) ((call (name (codes "h") 4) []) ∷ [])) ≡ fault 4 52 ∷ []
  -- `int(int)`
  pub type_to_convert : told (call (name (codes "int") 0) ((name (codes "int") 4) ∷ [])) ≡ fault 4 52 ∷ []
  -- `int(x)`
  pub undefined_operand : told (call (name (codes "int") 0) ((name (codes "x") 4) ∷ [])) ≡ named_fault 4 50 (codes "x") ∷ []
  -- calls
  -- `f(4, "a")`
  pub one_result : typed (call (name (codes "f") 0) ((num (codes "4") 2) ∷ (str (codes "a") 5) ∷ [])) ≡ a_value (core.call (one_type int) (core.function 10) (args ((num_at int 4) ∷ (text_at ty.str (codes "a")) ∷ []))) int
  -- `(f)(i, s)`
  pub function_in_parentheses : typed (call (paren 0 (name (codes "f") 1)) ((name (codes "i") 4) ∷ (name (codes "s") 7) ∷ [])) ≡ a_value (core.call (one_type int) (core.function 10) (args (i_ ∷ s_ ∷ []))) int
  -- `j("a")`
  pub result_of_a_named_type : typed (call (name (codes "j") 0) ((str (codes "a") 2) ∷ [])) ≡ a_value (core.call (one_type named_str) (core.function 15) (args ((text_at ty.str (codes "a")) ∷ []))) named_str
  -- `h()`
  pub no_result : typed (call (name (codes "h") 0) []) ≡ value (core.call (ty.no_tys) (core.function 14) core.no_exprs) (ty.tuple ty.no_tys) None
  -- `g()`
  pub two_results : typed (call (name (codes "g") 0) []) ≡ value (core.call (two_types int ty.str) (core.function 12) core.no_exprs) (ty.tuple (two_types int ty.str)) None
  -- `f(g())`
  pub results_as_arguments : typed (call (name (codes "f") 0) ((call (name (codes "g") 2) []) ∷ [])) ≡ a_value (core.call (one_type int) (core.function 10) (args ((core.call (two_types int ty.str) (core.function 12) core.no_exprs) ∷ []))) int
  -- `f(1 << i, s)`
  pub shift_as_an_argument : typed (call (name (codes "f") 0) ((two (num (codes "1") 2) operator.Shl (name (codes "i") 7)) ∷ (name (codes "s") 10) ∷ [])) ≡ a_value (core.call (one_type int) (core.function 10) (args ((core.binary operator.Shl int (num_at int 1) i_) ∷ s_ ∷ []))) int
  -- wrong numbers of arguments (60)
  -- `f(4)`
  pub too_few : told (call (name (codes "f") 0) ((num (codes "4") 2) ∷ [])) ≡ fault 0 60 ∷ []
  -- `f(4, "a", 6)`
  pub too_many : told (call (name (codes "f") 0) ((num (codes "4") 2) ∷ (str (codes "a") 5) ∷ (num (codes "6") 10) ∷ [])) ≡ fault 0 60 ∷ []
  -- `h(4)`
  pub one_for_none : told (call (name (codes "h") 0) ((num (codes "4") 2) ∷ [])) ≡ fault 0 60 ∷ []
  -- `j(g())`
  pub two_results_for_one : told (call (name (codes "j") 0) ((call (name (codes "g") 2) []) ∷ [])) ≡ fault 0 60 ∷ []
  -- `f(s...)`
  pub dots_after_an_argument : told (call_spread (name (codes "f") 0) ((name (codes "s") 2) ∷ [])) ≡ fault 0 60 ∷ []
  -- `x + f(4)`
  pub too_few_after_an_undefined_name : told (two (name (codes "x") 0) operator.Add (call (name (codes "f") 4) ((num (codes "4") 6) ∷ []))) ≡ named_fault 0 50 (codes "x") ∷ fault 4 60 ∷ []
  -- `f(x)`
  pub none_round_an_undefined_argument : told (call (name (codes "f") 0) ((name (codes "x") 2) ∷ [])) ≡ named_fault 2 50 (codes "x") ∷ []
  -- arguments that do not fit (61)
  -- `f("a", 1)`
  pub both_arguments : told (call (name (codes "f") 0) ((str (codes "a") 2) ∷ (num (codes "1") 7) ∷ [])) ≡ fault 2 61 ∷ fault 7 61 ∷ []
  -- `f(n, "a")`
  pub named_for_unnamed : told (call (name (codes "f") 0) ((name (codes "n") 2) ∷ (str (codes "a") 5) ∷ [])) ≡ fault 2 61 ∷ []
  -- `j(z)`
  pub string_for_a_named_type : told (call (name (codes "j") 0) ((name (codes "z") 2) ∷ [])) ≡ fault 2 61 ∷ []
  -- `f(5000000000, "a")`
  pub constant_past_the_parameter : told (call (name (codes "f") 0) ((num (codes "5000000000") 2) ∷ (str (codes "a") 14) ∷ [])) ≡ fault 2 32 ∷ []
  -- `x + f(n, "a")`
  pub argument_after_an_undefined_name : told (two (name (codes "x") 0) operator.Add (call (name (codes "f") 4) ((name (codes "n") 6) ∷ (str (codes "a") 9) ∷ []))) ≡ named_fault 0 50 (codes "x") ∷ fault 6 61 ∷ []
  -- `f(x, 1)`
  pub one_undefined_argument : told (call (name (codes "f") 0) ((name (codes "x") 2) ∷ (num (codes "1") 5) ∷ [])) ≡ named_fault 2 50 (codes "x") ∷ []
  -- arguments that are no values (52)
  -- `f(int, s)`
  pub type_as_an_argument : told (call (name (codes "f") 0) ((name (codes "int") 2) ∷ (name (codes "s") 7) ∷ [])) ≡ fault 2 52 ∷ []
  -- `f(int)`
  pub before_the_number : told (call (name (codes "f") 0) ((name (codes "int") 2) ∷ [])) ≡ fault 2 52 ∷ []
  -- `f(h(), "a")`
  pub no_result_as_an_argument : told (call (name (codes "f") 0) ((call (name (codes "h") 2) []) ∷ (str (codes "a") 7) ∷ [])) ≡ fault 2 52 ∷ []
  -- `f(g(), "a")`
  pub two_results_among_arguments : told (call (name (codes "f") 0) ((call (name (codes "g") 2) []) ∷ (str (codes "a") 7) ∷ [])) ≡ fault 2 52 ∷ []
  -- no functions (59)
  -- `4(6)`
  pub numbers_are_not_called : told (call (num (codes "4") 0) ((num (codes "6") 2) ∷ [])) ≡ fault 0 59 ∷ []
  -- `s(1)`
  pub strings_are_not_called : told (call (name (codes "s") 0) ((num (codes "1") 2) ∷ [])) ≡ fault 0 59 ∷ []
  -- `(i == 4)(6)`
  pub comparisons_are_not_called : told (call (paren 0 (two (name (codes "i") 1) operator.Eq (num (codes "4") 6))) ((num (codes "6") 9) ∷ [])) ≡ fault 0 59 ∷ []
  -- `(1 << i)(6)`
  pub shifts_are_not_called : told (call (paren 0 (two (num (codes "1") 1) operator.Shl (name (codes "i") 6))) ((num (codes "6") 9) ∷ [])) ≡ fault 0 59 ∷ []
  -- `nil()`
  pub nil_is_not_called : told (call (name (codes "nil") 0) []) ≡ fault 0 59 ∷ []
  -- `h()()`
  pub calls_without_results_are_not_called : told (call (call (name (codes "h") 0) []) []) ≡ fault 0 52 ∷ []
  -- `x + s(1)`
  pub no_function_after_an_undefined_name : told (two (name (codes "x") 0) operator.Add (call (name (codes "s") 4) ((num (codes "1") 6) ∷ []))) ≡ named_fault 0 50 (codes "x") ∷ fault 4 59 ∷ []
  -- `x(y)`
  pub undefined_function : told (call (name (codes "x") 0) ((name (codes "y") 2) ∷ [])) ≡ named_fault 0 50 (codes "x") ∷ named_fault 2 50 (codes "y") ∷ []
  -- length
  -- `len(s)`
  pub of_a_variable : typed (call (name (codes "len") 0) ((name (codes "s") 4) ∷ [])) ≡ a_value (core.len ty.str s_) int
  -- `len(z)`
  pub of_a_named_string : typed (call (name (codes "len") 0) ((name (codes "z") 4) ∷ [])) ≡ a_value (core.len named_str z_) int
  -- `len("abcd")`
  pub of_a_constant_string : typed (call (name (codes "len") 0) ((str (codes "abcd") 4) ∷ [])) ≡ whole_of int 4
  -- `len(S("abcd"))`
  pub of_a_typed_constant_string : typed (call (name (codes "len") 0) ((call (name (codes "S") 4) ((str (codes "abcd") 6) ∷ [])) ∷ [])) ≡ whole_of int 4
  -- arguments that it does not take (72)
  -- `len(4)`
  pub length_of_a_number : told (call (name (codes "len") 0) ((num (codes "4") 4) ∷ [])) ≡ named_fault 0 72 (codes "len") ∷ []
  -- `len(i)`
  pub length_of_an_integer : told (call (name (codes "len") 0) ((name (codes "i") 4) ∷ [])) ≡ named_fault 0 72 (codes "len") ∷ []
  -- `len(i == 4)`
  pub length_of_a_comparison : told (call (name (codes "len") 0) ((two (name (codes "i") 4) operator.Eq (num (codes "4") 9)) ∷ [])) ≡ named_fault 0 72 (codes "len") ∷ []
  -- `len(1 << i)`
  pub length_of_a_shift : told (call (name (codes "len") 0) ((two (num (codes "1") 4) operator.Shl (name (codes "i") 9)) ∷ [])) ≡ named_fault 0 72 (codes "len") ∷ []
  -- `x + len(i)`
  pub length_after_an_undefined_name : told (two (name (codes "x") 0) operator.Add (call (name (codes "len") 4) ((name (codes "i") 8) ∷ []))) ≡ named_fault 0 50 (codes "x") ∷ named_fault 4 72 (codes "len") ∷ []
  -- `len()`
  pub length_of_nothing : told (call (name (codes "len") 0) []) ≡ fault 0 60 ∷ []
  -- `len(s, s)`
  pub length_of_two : told (call (name (codes "len") 0) ((name (codes "s") 4) ∷ (name (codes "s") 7) ∷ [])) ≡ fault 0 60 ∷ []
  -- `len(g())`
  pub length_of_two_results : told (call (name (codes "len") 0) ((call (name (codes "g") 4) []) ∷ [])) ≡ fault 0 60 ∷ []
  -- `len(s...)`
  pub length_with_dots : told (call_spread (name (codes "len") 0) ((name (codes "s") 4) ∷ [])) ≡ fault 0 60 ∷ []
  -- `len(nil)`
  pub length_of_nil : told (call (name (codes "len") 0) ((name (codes "nil") 4) ∷ [])) ≡ fault 4 73 ∷ []
  -- `len(int)`
  pub length_of_a_type : told (call (name (codes "len") 0) ((name (codes "int") 4) ∷ [])) ≡ fault 4 52 ∷ []
  -- print, println
  -- `println(s, 4, b)`
  pub prints_values : typed (call (name (codes "println") 0) ((name (codes "s") 8) ∷ (num (codes "4") 11) ∷ (name (codes "b") 14) ∷ [])) ≡ does (core.print (args (s_ ∷ (num_at int 4) ∷ b_ ∷ [])) true)
  -- `print()`
  pub prints_nothing : typed (call (name (codes "print") 0) []) ≡ does (core.print core.no_exprs false)
  -- `print('a')`
  pub prints_a_rune : typed (call (name (codes "print") 0) ((rune (codes "a") 6) ∷ [])) ≡ does (core.print (args ((num_at int32 97) ∷ [])) false)
  -- `print(1 << i)`
  pub prints_a_shift : typed (call (name (codes "print") 0) ((two (num (codes "1") 6) operator.Shl (name (codes "i") 11)) ∷ [])) ≡ does (core.print (args ((core.binary operator.Shl int (num_at int 1) i_) ∷ [])) false)
  -- `println(i == 4)`
  pub prints_a_comparison : typed (call (name (codes "println") 0) ((two (name (codes "i") 8) operator.Eq (num (codes "4") 13)) ∷ [])) ≡ does (core.print (args ((core.equal false int ty.bool i_ (num_at int 4)) ∷ [])) true)
  -- `println(g())`
  pub prints_results : typed (call (name (codes "println") 0) ((call (name (codes "g") 8) []) ∷ [])) ≡ does (core.print (args ((core.call (two_types int ty.str) (core.function 12) core.no_exprs) ∷ [])) true)
  -- `println(5000000000)`
  pub prints_too_great_a_number : told (call (name (codes "println") 0) ((num (codes "5000000000") 8) ∷ [])) ≡ fault 8 32 ∷ []
  -- `println(nil)`
  pub prints_nil : told (call (name (codes "println") 0) ((name (codes "nil") 8) ∷ [])) ≡ fault 8 73 ∷ []
  -- `println(int)`
  pub prints_a_type : told (call (name (codes "println") 0) ((name (codes "int") 8) ∷ [])) ≡ fault 8 52 ∷ []
  -- `println(h())`
  pub prints_no_result : told (call (name (codes "println") 0) ((call (name (codes "h") 8) []) ∷ [])) ≡ fault 8 52 ∷ []
  -- `println(s...)`
  pub prints_with_dots : told (call_spread (name (codes "println") 0) ((name (codes "s") 8) ∷ [])) ≡ fault 0 60 ∷ []
  -- `println(x, nil, y)`
  pub prints_each_fault : told (call (name (codes "println") 0) ((name (codes "x") 8) ∷ (name (codes "nil") 11) ∷ (name (codes "y") 16) ∷ [])) ≡ named_fault 8 50 (codes "x") ∷ named_fault 16 50 (codes "y") ∷ []

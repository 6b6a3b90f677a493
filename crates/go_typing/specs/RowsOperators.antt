-- Rows by hand: operators before and between operands. Go specification (as of Go 1.17), "Operators",
-- "Arithmetic operators", "Comparison operators", "Logical operators", "String concatenation", "Constant expressions".
use Rattle.std.specs.Prelude.{◌≡◌, pos, negsuc, [], ◌∷◌, true, false, codes}
use Rattle.gj_base.specs.declared.kind.Op.TheVariants as operator
use Rattle.go_const.specs.declared.constant.Const.TheVariants as form
use Rattle.go_syntax.specs.declared.tree.Prefix.TheVariants as «prefix»
use Rattle.go_type.specs.Tree as ty
use Rattle.go_core.specs.CoreTree as core
use Rattle.go_typing.specs.Operand.{untyped_constant, constant_at}
use Rattle.go_typing.specs.TypingRowWords.{name, num, rune, str, paren, pre, two, call, int, int64, uint8, named_int, named_bool, typed, told, fault, named_fault, b_, i_, w_, u_, s_, n_, d_, a_value, a_truth, whole, whole_of, num_at, text_at}

pub record RowsOperators : Type 0 where
  -- before an operand
  -- `-i`
  pub minus : typed (pre 0 «prefix».Neg (name (codes "i") 1)) ≡ a_value (core.unary operator.Neg int i_) int
  -- `+w`
  pub plus : typed (pre 0 «prefix».Plus (name (codes "w") 1)) ≡ a_value (core.unary operator.Plus int64 w_) int64
  -- `^u`
  pub complement : typed (pre 0 «prefix».Compl (name (codes "u") 1)) ≡ a_value (core.unary operator.Compl uint8 u_) uint8
  -- `!b`
  pub not : typed (pre 0 «prefix».Not (name (codes "b") 1)) ≡ a_value (core.not_ ty.bool b_) ty.bool
  -- `!d`
  pub not_of_a_named_type : typed (pre 0 «prefix».Not (name (codes "d") 1)) ≡ a_value (core.not_ named_bool d_) named_bool
  -- `!(i == 4)`
  pub not_of_a_comparison : typed (pre 0 «prefix».Not (paren 1 (two (name (codes "i") 2) operator.Eq (num (codes "4") 7)))) ≡ a_truth (core.not_ ty.bool (core.equal false int ty.bool i_ (num_at int 4)))
  -- `-4`
  pub minus_of_a_constant : typed (pre 0 «prefix».Neg (num (codes "4") 1)) ≡ untyped_constant (form.Int (negsuc 3))
  -- `^4`
  pub complement_of_a_constant : typed (pre 0 «prefix».Compl (num (codes "4") 1)) ≡ untyped_constant (form.Int (negsuc 4))
  -- `^c`
  pub complement_of_a_byte : typed (pre 0 «prefix».Compl (name (codes "c") 1)) ≡ whole_of uint8 55
  -- `-'a'`
  pub minus_of_a_rune : typed (pre 0 «prefix».Neg (rune (codes "a") 1)) ≡ untyped_constant (form.Rune (negsuc 96))
  -- `!true`
  pub not_of_a_constant : typed (pre 0 «prefix».Not (name (codes "true") 1)) ≡ untyped_constant (form.Bool false)
  -- operators that the operand lacks (54)
  -- `-s`
  pub no_minus_of_strings : told (pre 0 «prefix».Neg (name (codes "s") 1)) ≡ fault 0 54 ∷ []
  -- `+b`
  pub no_plus_of_booleans : told (pre 0 «prefix».Plus (name (codes "b") 1)) ≡ fault 0 54 ∷ []
  -- `!i`
  pub no_not_of_integers : told (pre 0 «prefix».Not (name (codes "i") 1)) ≡ fault 0 54 ∷ []
  -- `-true`
  pub no_minus_of_truth : told (pre 0 «prefix».Neg (name (codes "true") 1)) ≡ fault 0 54 ∷ []
  -- `!4`
  pub no_not_of_numbers : told (pre 0 «prefix».Not (num (codes "4") 1)) ≡ fault 0 54 ∷ []
  -- `^"a"`
  pub no_complement_of_texts : told (pre 0 «prefix».Compl (str (codes "a") 1)) ≡ fault 0 54 ∷ []
  -- `x + -s`
  pub after_an_undefined_name : told (two (name (codes "x") 0) operator.Add (pre 4 «prefix».Neg (name (codes "s") 5))) ≡ named_fault 0 50 (codes "x") ∷ fault 4 54 ∷ []
  -- `-x`
  pub none_round_an_undefined_name : told (pre 0 «prefix».Neg (name (codes "x") 1)) ≡ named_fault 1 50 (codes "x") ∷ []
  -- `-int`
  pub no_minus_of_types : told (pre 0 «prefix».Neg (name (codes "int") 1)) ≡ fault 1 52 ∷ []
  -- `-nil`
  pub no_minus_of_nil : told (pre 0 «prefix».Neg (name (codes "nil") 1)) ≡ fault 1 73 ∷ []
  -- constants that their type does not hold (32)
  -- `-c`
  pub negative_bytes : told (pre 0 «prefix».Neg (name (codes "c") 1)) ≡ fault 0 32 ∷ []
  -- `-(c - c)`
  pub minus_of_zero : typed (pre 0 «prefix».Neg (paren 1 (two (name (codes "c") 2) operator.Sub (name (codes "c") 6)))) ≡ whole_of uint8 0
  -- `x + -c`
  pub negative_byte_after_a_name : told (two (name (codes "x") 0) operator.Add (pre 4 «prefix».Neg (name (codes "c") 5))) ≡ named_fault 0 50 (codes "x") ∷ fault 4 32 ∷ []
  -- arithmetic
  -- `i + 4`
  pub sum_takes_the_type : typed (two (name (codes "i") 0) operator.Add (num (codes "4") 4)) ≡ a_value (core.binary operator.Add int i_ (num_at int 4)) int
  -- `4 + i`
  pub sum_takes_the_type_of_the_right : typed (two (num (codes "4") 0) operator.Add (name (codes "i") 4)) ≡ a_value (core.binary operator.Add int (num_at int 4) i_) int
  -- `u + 'a'`
  pub runes_are_numbers : typed (two (name (codes "u") 0) operator.Add (rune (codes "a") 4)) ≡ a_value (core.binary operator.Add uint8 u_ (num_at uint8 97)) uint8
  -- `u * c`
  pub one_constant : typed (two (name (codes "u") 0) operator.Mul (name (codes "c") 4)) ≡ a_value (core.binary operator.Mul uint8 u_ (num_at uint8 200)) uint8
  -- `n - 4`
  pub named_types_stay : typed (two (name (codes "n") 0) operator.Sub (num (codes "4") 4)) ≡ a_value (core.binary operator.Sub named_int n_ (num_at named_int 4)) named_int
  -- `s + "a"`
  pub strings_join : typed (two (name (codes "s") 0) operator.Add (str (codes "a") 4)) ≡ a_value (core.concat ty.str s_ (text_at ty.str (codes "a"))) ty.str
  -- `"a" + "b"`
  pub constant_strings_join : typed (two (str (codes "a") 0) operator.Add (str (codes "b") 6)) ≡ untyped_constant (form.Text (codes "ab"))
  -- `1 + 'a'`
  pub rune_comes_later : typed (two (num (codes "1") 0) operator.Add (rune (codes "a") 4)) ≡ untyped_constant (form.Rune (pos 98))
  -- `-9 / 4`
  pub quotients_truncate : typed (two (pre 0 «prefix».Neg (num (codes "9") 1)) operator.Div (num (codes "4") 5)) ≡ untyped_constant (form.Int (negsuc 1))
  -- `-9 % 4`
  pub remainders_follow : typed (two (pre 0 «prefix».Neg (num (codes "9") 1)) operator.Rem (num (codes "4") 5)) ≡ untyped_constant (form.Int (negsuc 0))
  -- `12 &^ 4 | 1`
  pub bits : typed (two (two (num (codes "12") 0) operator.AndNot (num (codes "4") 6)) operator.Or (num (codes "1") 10)) ≡ whole 9
  -- `c + 55`
  pub typed_constants_fold : typed (two (name (codes "c") 0) operator.Add (num (codes "55") 4)) ≡ whole_of uint8 255
  -- operands that do not fit (55)
  -- `i + u`
  pub other_integers : told (two (name (codes "i") 0) operator.Add (name (codes "u") 4)) ≡ fault 0 55 ∷ []
  -- `n + i`
  pub named_and_unnamed : told (two (name (codes "n") 0) operator.Add (name (codes "i") 4)) ≡ fault 0 55 ∷ []
  -- `i + s`
  pub integer_and_string : told (two (name (codes "i") 0) operator.Add (name (codes "s") 4)) ≡ fault 0 55 ∷ []
  -- `i + "a"`
  pub integer_and_text : told (two (name (codes "i") 0) operator.Add (str (codes "a") 4)) ≡ fault 0 55 ∷ []
  -- `1 + "a"`
  pub number_and_text : told (two (num (codes "1") 0) operator.Add (str (codes "a") 4)) ≡ fault 0 55 ∷ []
  -- `b + b`
  pub no_sum_of_booleans : told (two (name (codes "b") 0) operator.Add (name (codes "b") 4)) ≡ fault 0 55 ∷ []
  -- `true + false`
  pub no_sum_of_truths : told (two (name (codes "true") 0) operator.Add (name (codes "false") 7)) ≡ fault 0 55 ∷ []
  -- `(i == 4) + (i == 6)`
  pub no_sum_of_comparisons : told (two (paren 0 (two (name (codes "i") 1) operator.Eq (num (codes "4") 6))) operator.Add (paren 11 (two (name (codes "i") 12) operator.Eq (num (codes "6") 17)))) ≡ fault 0 55 ∷ []
  -- `s - s`
  pub no_difference_of_strings : told (two (name (codes "s") 0) operator.Sub (name (codes "s") 4)) ≡ fault 0 55 ∷ []
  -- `"b" - "a"`
  pub no_difference_of_texts : told (two (str (codes "b") 0) operator.Sub (str (codes "a") 6)) ≡ fault 0 55 ∷ []
  -- `i + nil`
  pub nil_is_no_integer : told (two (name (codes "i") 0) operator.Add (name (codes "nil") 4)) ≡ fault 0 55 ∷ []
  -- `x + (i + s)`
  pub sum_after_an_undefined_name : told (two (name (codes "x") 0) operator.Add (paren 4 (two (name (codes "i") 5) operator.Add (name (codes "s") 9)))) ≡ named_fault 0 50 (codes "x") ∷ fault 5 55 ∷ []
  -- `u + 300`
  pub constant_past_its_type : told (two (name (codes "u") 0) operator.Add (num (codes "300") 4)) ≡ fault 4 32 ∷ []
  -- `300 + u`
  pub constant_past_its_type_on_the_left : told (two (num (codes "300") 0) operator.Add (name (codes "u") 6)) ≡ fault 0 32 ∷ []
  -- `u + 255`
  pub constant_in_its_type : typed (two (name (codes "u") 0) operator.Add (num (codes "255") 4)) ≡ a_value (core.binary operator.Add uint8 u_ (num_at uint8 255)) uint8
  -- `c + 56`
  pub sum_past_its_type : told (two (name (codes "c") 0) operator.Add (num (codes "56") 4)) ≡ fault 0 32 ∷ []
  -- `x + (c + 56)`
  pub sum_past_its_type_after_a_name : told (two (name (codes "x") 0) operator.Add (paren 4 (two (name (codes "c") 5) operator.Add (num (codes "56") 9)))) ≡ named_fault 0 50 (codes "x") ∷ fault 5 32 ∷ []
  -- no value (52)
  -- `int + 4`
  pub types_are_no_values : told (two (name (codes "int") 0) operator.Add (num (codes "4") 6)) ≡ fault 0 52 ∷ []
  -- `4 + int`
  pub types_are_no_values_on_the_right : told (two (num (codes "4") 0) operator.Add (name (codes "int") 4)) ≡ fault 4 52 ∷ []
  -- `int + int`
  pub both_are_told : told (two (name (codes "int") 0) operator.Add (name (codes "int") 6)) ≡ fault 0 52 ∷ fault 6 52 ∷ []
  -- `int(4) + 4`
  pub conversions_are_values : typed (two (call (name (codes "int") 0) ((num (codes "4") 4) ∷ [])) operator.Add (num (codes "4") 9)) ≡ whole_of int 8
  -- `h() + 4`
  pub calls_without_results : told (two (call (name (codes "h") 0) []) operator.Add (num (codes "4") 6)) ≡ fault 0 52 ∷ []
  -- `4 + g()`
  pub calls_with_two_results : told (two (num (codes "4") 0) operator.Add (call (name (codes "g") 4) [])) ≡ fault 4 52 ∷ []
  -- `4 + len`
  pub built_in_functions : told (two (num (codes "4") 0) operator.Add (name (codes "len") 4)) ≡ fault 4 52 ∷ []
  -- `_ + 4`
  pub blank_is_none : told (two (name (codes "_") 0) operator.Add (num (codes "4") 4)) ≡ fault 0 52 ∷ []
  -- `print() + 4`
  pub prints_give_none : told (two (call (name (codes "print") 0) []) operator.Add (num (codes "4") 10)) ≡ fault 0 52 ∷ []
  -- `x + -int`
  pub no_value_after_an_undefined_name : told (two (name (codes "x") 0) operator.Add (pre 4 «prefix».Neg (name (codes "int") 5))) ≡ named_fault 0 50 (codes "x") ∷ fault 5 52 ∷ []
  -- division by zero (30)
  -- `i / 0`
  pub quotient_by_zero : told (two (name (codes "i") 0) operator.Div (num (codes "0") 4)) ≡ fault 4 30 ∷ []
  -- `i % 0`
  pub remainder_by_zero : told (two (name (codes "i") 0) operator.Rem (num (codes "0") 4)) ≡ fault 4 30 ∷ []
  -- `4 / 0`
  pub constant_by_zero : told (two (num (codes "4") 0) operator.Div (num (codes "0") 4)) ≡ fault 4 30 ∷ []
  -- `c / (c - c)`
  pub typed_constant_by_zero : told (two (name (codes "c") 0) operator.Div (paren 4 (two (name (codes "c") 5) operator.Sub (name (codes "c") 9)))) ≡ fault 4 30 ∷ []
  -- `i / 4`
  pub by_four : typed (two (name (codes "i") 0) operator.Div (num (codes "4") 4)) ≡ a_value (core.binary operator.Div int i_ (num_at int 4)) int
  -- `i * 0`
  pub times_zero : typed (two (name (codes "i") 0) operator.Mul (num (codes "0") 4)) ≡ a_value (core.binary operator.Mul int i_ (num_at int 0)) int
  -- `x + i / 0`
  pub zero_after_an_undefined_name : told (two (name (codes "x") 0) operator.Add (two (name (codes "i") 4) operator.Div (num (codes "0") 8))) ≡ named_fault 0 50 (codes "x") ∷ fault 8 30 ∷ []
  -- `s / "a"`
  pub strings_have_no_quotient : told (two (name (codes "s") 0) operator.Div (str (codes "a") 4)) ≡ fault 0 55 ∷ []
  -- past 128 bits (31)
  -- `170141183460469231731687303715884105727 + 1`
  pub greatest_and_one : told (two (num (codes "170141183460469231731687303715884105727") 0) operator.Add (num (codes "1") 42)) ≡ fault 0 31 ∷ []
  -- `-170141183460469231731687303715884105727 - 1`
  pub least : typed (two (pre 0 «prefix».Neg (num (codes "170141183460469231731687303715884105727") 1)) operator.Sub (num (codes "1") 43)) ≡ untyped_constant (form.Int (negsuc 170141183460469231731687303715884105727))
  -- `-170141183460469231731687303715884105727 - 1 - 1`
  pub less_than_least : told (two (two (pre 0 «prefix».Neg (num (codes "170141183460469231731687303715884105727") 1)) operator.Sub (num (codes "1") 43)) operator.Sub (num (codes "1") 47)) ≡ fault 0 31 ∷ []
  -- `x + -(-170141183460469231731687303715884105727 - 1)`
  pub past_after_an_undefined_name : told (two (name (codes "x") 0) operator.Add (pre 4 «prefix».Neg (paren 5 (two (pre 6 «prefix».Neg (num (codes "170141183460469231731687303715884105727") 7)) operator.Sub (num (codes "1") 49))))) ≡ named_fault 0 50 (codes "x") ∷ fault 4 31 ∷ []
  -- comparisons
  -- `i == 4`
  pub equality_is_untyped : typed (two (name (codes "i") 0) operator.Eq (num (codes "4") 5)) ≡ a_truth (core.equal false int ty.bool i_ (num_at int 4))
  -- `i != 4`
  pub inequality : typed (two (name (codes "i") 0) operator.Ne (num (codes "4") 5)) ≡ a_truth (core.equal true int ty.bool i_ (num_at int 4))
  -- `4 < i`
  pub order : typed (two (num (codes "4") 0) operator.Lt (name (codes "i") 4)) ≡ a_truth (core.less operator.Lt int ty.bool (num_at int 4) i_)
  -- `s >= "b"`
  pub order_of_strings : typed (two (name (codes "s") 0) operator.Ge (str (codes "b") 5)) ≡ a_truth (core.less operator.Ge ty.str ty.bool s_ (text_at ty.str (codes "b")))
  -- `b == true`
  pub booleans_are_equal : typed (two (name (codes "b") 0) operator.Eq (name (codes "true") 5)) ≡ a_truth (core.equal false ty.bool ty.bool b_ (constant_at ty.bool (form.Bool true)))
  -- `"a" < "b"`
  pub constants_compare : typed (two (str (codes "a") 0) operator.Lt (str (codes "b") 6)) ≡ untyped_constant (form.Bool true)
  -- `c == 200`
  pub typed_constants_compare : typed (two (name (codes "c") 0) operator.Eq (num (codes "200") 5)) ≡ untyped_constant (form.Bool true)
  -- `(i == 4) == (i == 6)`
  pub comparisons_compare : typed (two (paren 0 (two (name (codes "i") 1) operator.Eq (num (codes "4") 6))) operator.Eq (paren 12 (two (name (codes "i") 13) operator.Eq (num (codes "6") 18)))) ≡ a_truth (core.equal false ty.bool ty.bool (core.equal false int ty.bool i_ (num_at int 4)) (core.equal false int ty.bool i_ (num_at int 6)))
  -- `(i == 4) == d`
  pub comparisons_take_a_type : typed (two (paren 0 (two (name (codes "i") 1) operator.Eq (num (codes "4") 6))) operator.Eq (name (codes "d") 12)) ≡ a_truth (core.equal false named_bool ty.bool (core.convert ty.bool named_bool (core.equal false int ty.bool i_ (num_at int 4))) d_)
  -- `(i == 4) != false`
  pub comparison_and_a_constant : typed (two (paren 0 (two (name (codes "i") 1) operator.Eq (num (codes "4") 6))) operator.Ne (name (codes "false") 12)) ≡ a_truth (core.equal true ty.bool ty.bool (core.equal false int ty.bool i_ (num_at int 4)) (constant_at ty.bool (form.Bool false)))
  -- values that can not be compared (56)
  -- `b < b`
  pub no_order_of_booleans : told (two (name (codes "b") 0) operator.Lt (name (codes "b") 4)) ≡ fault 0 56 ∷ []
  -- `true < false`
  pub no_order_of_truths : told (two (name (codes "true") 0) operator.Lt (name (codes "false") 7)) ≡ fault 0 56 ∷ []
  -- `(i == 4) < (i == 6)`
  pub no_order_of_comparisons : told (two (paren 0 (two (name (codes "i") 1) operator.Eq (num (codes "4") 6))) operator.Lt (paren 11 (two (name (codes "i") 12) operator.Eq (num (codes "6") 17)))) ≡ fault 0 56 ∷ []
  -- `x + (b < b)`
  pub no_order_after_an_undefined_name : told (two (name (codes "x") 0) operator.Add (paren 4 (two (name (codes "b") 5) operator.Lt (name (codes "b") 9)))) ≡ named_fault 0 50 (codes "x") ∷ fault 5 56 ∷ []
  -- `i == u`
  pub other_integers_compared : told (two (name (codes "i") 0) operator.Eq (name (codes "u") 5)) ≡ fault 0 55 ∷ []
  -- `s == 4`
  pub string_and_number_compared : told (two (name (codes "s") 0) operator.Eq (num (codes "4") 5)) ≡ fault 0 55 ∷ []
  -- `d == b`
  pub named_and_unnamed_compared : told (two (name (codes "d") 0) operator.Eq (name (codes "b") 5)) ≡ fault 0 55 ∷ []
  -- `i == nil`
  pub integer_and_nil : told (two (name (codes "i") 0) operator.Eq (name (codes "nil") 5)) ≡ fault 0 55 ∷ []
  -- `nil == nil`
  pub nil_and_nil : told (two (name (codes "nil") 0) operator.Eq (name (codes "nil") 7)) ≡ fault 0 73 ∷ fault 7 73 ∷ []
  -- `i == 5000000000`
  pub compared_with_too_great_a_constant : told (two (name (codes "i") 0) operator.Eq (num (codes "5000000000") 5)) ≡ fault 5 32 ∷ []
  -- and, or
  -- `b && b`
  pub both_booleans : typed (two (name (codes "b") 0) operator.AndThen (name (codes "b") 5)) ≡ a_value (core.and_then ty.bool b_ b_) ty.bool
  -- `d || d`
  pub named_booleans : typed (two (name (codes "d") 0) operator.OrElse (name (codes "d") 5)) ≡ a_value (core.or_else named_bool d_ d_) named_bool
  -- `i == 4 && d`
  pub comparison_takes_the_type : typed (two (two (name (codes "i") 0) operator.Eq (num (codes "4") 5)) operator.AndThen (name (codes "d") 10)) ≡ a_value (core.and_then named_bool (core.convert ty.bool named_bool (core.equal false int ty.bool i_ (num_at int 4))) d_) named_bool
  -- `i == 4 || i == 6`
  pub comparisons_stay_untyped : typed (two (two (name (codes "i") 0) operator.Eq (num (codes "4") 5)) operator.OrElse (two (name (codes "i") 10) operator.Eq (num (codes "6") 15))) ≡ a_truth (core.or_else ty.bool (core.equal false int ty.bool i_ (num_at int 4)) (core.equal false int ty.bool i_ (num_at int 6)))
  -- `true && i == 4`
  pub constant_and_comparison : typed (two (name (codes "true") 0) operator.AndThen (two (name (codes "i") 8) operator.Eq (num (codes "4") 13))) ≡ a_truth (core.and_then ty.bool (constant_at ty.bool (form.Bool true)) (core.equal false int ty.bool i_ (num_at int 4)))
  -- `true && false`
  pub constants_are_joined : typed (two (name (codes "true") 0) operator.AndThen (name (codes "false") 8)) ≡ untyped_constant (form.Bool false)
  -- `i && i`
  pub no_and_of_integers : told (two (name (codes "i") 0) operator.AndThen (name (codes "i") 5)) ≡ fault 0 55 ∷ []
  -- `4 && 6`
  pub no_and_of_numbers : told (two (num (codes "4") 0) operator.AndThen (num (codes "6") 5)) ≡ fault 0 55 ∷ []
  -- `d && b`
  pub no_and_of_other_types : told (two (name (codes "d") 0) operator.AndThen (name (codes "b") 5)) ≡ fault 0 55 ∷ []
  -- `b && 4`
  pub no_and_of_boolean_and_number : told (two (name (codes "b") 0) operator.AndThen (num (codes "4") 5)) ≡ fault 0 55 ∷ []

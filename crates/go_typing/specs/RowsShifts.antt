-- Rows by hand: shifts, and untyped constants that wait for their type. Go specification (as of Go 1.17),
-- "Operators", "Arithmetic operators", "Constant expressions".
use Rattle.std.specs.Prelude.{◌≡◌, pos, negsuc, [], ◌∷◌, false, codes}
use Rattle.gj_base.specs.declared.kind.Op.TheVariants as operator
use Rattle.go_const.specs.declared.constant.Const.TheVariants as form
use Rattle.go_syntax.specs.declared.tree.Prefix.TheVariants as «prefix»
use Rattle.go_type.specs.Tree as ty
use Rattle.go_type.specs.declared.types.Basis.TheVariants as basis
use Rattle.go_core.specs.CoreTree as core
use Rattle.go_typing.specs.Answer.{pending, shifted}
use Rattle.go_typing.specs.Operand.{untyped_constant}
use Rattle.go_typing.specs.TypingRowWords.{at, name, num, rune, str, paren, pre, two, call, int, int64, uint8, uint, int32, named_int, typed, told, typed_as, told_as, typed_alone, faulty, fault, named_fault, i_, w_, u_, a_value, a_truth, whole, whole_of, num_at}

pub record RowsShifts : Type 0 where
  -- constants
  -- `1 << 4`
  pub left : typed (two (num (codes "1") 0) operator.Shl (num (codes "4") 5)) ≡ whole 16
  -- `-9 >> 4`
  pub right : typed (two (pre 0 «prefix».Neg (num (codes "9") 1)) operator.Shr (num (codes "4") 6)) ≡ untyped_constant (form.Int (negsuc 0))
  -- `'a' << 1`
  pub runes_stay_runes : typed (two (rune (codes "a") 0) operator.Shl (num (codes "1") 7)) ≡ untyped_constant (form.Rune (pos 194))
  -- `c >> 1`
  pub typed_constants : typed (two (name (codes "c") 0) operator.Shr (num (codes "1") 5)) ≡ whole_of uint8 100
  -- `c << 1`
  pub past_its_type : told (two (name (codes "c") 0) operator.Shl (num (codes "1") 5)) ≡ fault 0 32 ∷ []
  -- `1 << 126`
  pub within_128_bits : typed (two (num (codes "1") 0) operator.Shl (num (codes "126") 5)) ≡ whole 85070591730234615865843651857942052864
  -- `1 << 127`
  pub past_128_bits : told (two (num (codes "1") 0) operator.Shl (num (codes "127") 5)) ≡ fault 0 31 ∷ []
  -- `x + 1 << 127`
  pub past_128_bits_after_a_name : told (two (name (codes "x") 0) operator.Add (two (num (codes "1") 4) operator.Shl (num (codes "127") 9))) ≡ named_fault 0 50 (codes "x") ∷ fault 4 31 ∷ []
  -- values
  -- `u << 4`
  pub by_a_constant : typed (two (name (codes "u") 0) operator.Shl (num (codes "4") 5)) ≡ a_value (core.binary operator.Shl uint8 u_ (num_at uint 4)) uint8
  -- `u >> c`
  pub by_a_typed_constant : typed (two (name (codes "u") 0) operator.Shr (name (codes "c") 5)) ≡ a_value (core.binary operator.Shr uint8 u_ (num_at uint8 200)) uint8
  -- `u << w`
  pub by_a_variable : typed (two (name (codes "u") 0) operator.Shl (name (codes "w") 5)) ≡ a_value (core.binary operator.Shl uint8 u_ w_) uint8
  -- `c << i`
  pub typed_constant_by_a_variable : typed (two (name (codes "c") 0) operator.Shl (name (codes "i") 5)) ≡ a_value (core.binary operator.Shl uint8 (num_at uint8 200) i_) uint8
  -- `u << (1 << i)`
  pub by_a_shift : typed (two (name (codes "u") 0) operator.Shl (paren 5 (two (num (codes "1") 6) operator.Shl (name (codes "i") 11)))) ≡ a_value (core.binary operator.Shl uint8 u_ (core.binary operator.Shl uint (num_at uint 1) i_)) uint8
  -- no integers (57)
  -- `s << 1`
  pub strings_are_not_shifted : told (two (name (codes "s") 0) operator.Shl (num (codes "1") 5)) ≡ fault 0 57 ∷ []
  -- `"a" << 1`
  pub texts_are_not_shifted : told (two (str (codes "a") 0) operator.Shl (num (codes "1") 7)) ≡ fault 0 57 ∷ []
  -- `(i == 4) << 1`
  pub booleans_are_not_shifted : told (two (paren 0 (two (name (codes "i") 1) operator.Eq (num (codes "4") 6))) operator.Shl (num (codes "1") 12)) ≡ fault 0 57 ∷ []
  -- `u << s`
  pub not_by_strings : told (two (name (codes "u") 0) operator.Shl (name (codes "s") 5)) ≡ fault 0 57 ∷ []
  -- `u << "a"`
  pub not_by_texts : told (two (name (codes "u") 0) operator.Shl (str (codes "a") 5)) ≡ fault 0 57 ∷ []
  -- `1 << true`
  pub not_by_truth : told (two (num (codes "1") 0) operator.Shl (name (codes "true") 5)) ≡ fault 0 57 ∷ []
  -- `x + s << 1`
  pub no_integer_after_an_undefined_name : told (two (name (codes "x") 0) operator.Add (two (name (codes "s") 4) operator.Shl (num (codes "1") 9))) ≡ named_fault 0 50 (codes "x") ∷ fault 4 57 ∷ []
  -- `1 << x`
  pub none_round_an_undefined_name : told (two (num (codes "1") 0) operator.Shl (name (codes "x") 5)) ≡ named_fault 5 50 (codes "x") ∷ []
  -- `int << 1`
  pub not_of_types : told (two (name (codes "int") 0) operator.Shl (num (codes "1") 7)) ≡ fault 0 52 ∷ []
  -- `1 << int`
  pub not_by_types : told (two (num (codes "1") 0) operator.Shl (name (codes "int") 5)) ≡ fault 5 52 ∷ []
  -- `nil << 1`
  pub not_of_nil : told (two (name (codes "nil") 0) operator.Shl (num (codes "1") 7)) ≡ fault 0 73 ∷ []
  -- counts (33, 32)
  -- `u << -1`
  pub negative_count : told (two (name (codes "u") 0) operator.Shl (pre 5 «prefix».Neg (num (codes "1") 6))) ≡ fault 5 33 ∷ []
  -- `1 << -1`
  pub negative_count_of_a_constant : told (two (num (codes "1") 0) operator.Shl (pre 5 «prefix».Neg (num (codes "1") 6))) ≡ fault 5 33 ∷ []
  -- `u << int8(-1)`
  pub negative_typed_count : told (two (name (codes "u") 0) operator.Shl (call (name (codes "int8") 5) ((pre 10 «prefix».Neg (num (codes "1") 11)) ∷ []))) ≡ fault 5 33 ∷ []
  -- `u << 0`
  pub zero_count : typed (two (name (codes "u") 0) operator.Shl (num (codes "0") 5)) ≡ a_value (core.binary operator.Shl uint8 u_ (num_at uint 0)) uint8
  -- `x + u << -1`
  pub negative_count_after_an_undefined_name : told (two (name (codes "x") 0) operator.Add (two (name (codes "u") 4) operator.Shl (pre 9 «prefix».Neg (num (codes "1") 10)))) ≡ named_fault 0 50 (codes "x") ∷ fault 9 33 ∷ []
  -- `s << -1`
  pub negative_count_of_a_string : told (two (name (codes "s") 0) operator.Shl (pre 5 «prefix».Neg (num (codes "1") 6))) ≡ fault 0 57 ∷ []
  -- `u << 4294967296`
  pub count_past_uint : told (two (name (codes "u") 0) operator.Shl (num (codes "4294967296") 5)) ≡ fault 5 32 ∷ []
  -- `0 << 4294967296`
  pub count_past_uint_of_a_constant : told (two (num (codes "0") 0) operator.Shl (num (codes "4294967296") 5)) ≡ fault 5 32 ∷ []
  -- `u << 4294967295`
  pub greatest_count : typed (two (name (codes "u") 0) operator.Shl (num (codes "4294967295") 5)) ≡ a_value (core.binary operator.Shl uint8 u_ (num_at uint 4294967295)) uint8
  -- an untyped constant by a variable count waits for its type
  -- `1 << i`
  pub waits : typed (two (num (codes "1") 0) operator.Shl (name (codes "i") 5)) ≡ pending (shifted (at 0) operator.Shl (form.Int (pos 1)) i_) basis.Int
  -- `'a' << i`
  pub waits_as_a_rune : typed (two (rune (codes "a") 0) operator.Shl (name (codes "i") 7)) ≡ pending (shifted (at 0) operator.Shl (form.Rune (pos 97)) i_) basis.Rune
  -- `1 << i`, where a value is wanted
  pub has_its_default_type : typed_alone (two (num (codes "1") 0) operator.Shl (name (codes "i") 5)) ≡ a_value (core.binary operator.Shl int (num_at int 1) i_) int
  -- `'a' << i`, where a value is wanted
  pub rune_has_its_default_type : typed_alone (two (rune (codes "a") 0) operator.Shl (name (codes "i") 7)) ≡ a_value (core.binary operator.Shl int32 (num_at int32 97) i_) int32
  -- `1 << i`, where uint8 is wanted
  pub takes_uint8 : typed_as uint8 (two (num (codes "1") 0) operator.Shl (name (codes "i") 5)) ≡ a_value (core.binary operator.Shl uint8 (num_at uint8 1) i_) uint8
  -- `1 << i`, where int64 is wanted
  pub takes_int64 : typed_as int64 (two (num (codes "1") 0) operator.Shl (name (codes "i") 5)) ≡ a_value (core.binary operator.Shl int64 (num_at int64 1) i_) int64
  -- `1 << i`, where named_int is wanted
  pub takes_a_named_type : typed_as named_int (two (num (codes "1") 0) operator.Shl (name (codes "i") 5)) ≡ a_value (core.binary operator.Shl named_int (num_at named_int 1) i_) named_int
  -- `(1 << i)`, where int64 is wanted
  pub through_parentheses : typed_as int64 (paren 0 (two (num (codes "1") 1) operator.Shl (name (codes "i") 6))) ≡ a_value (core.binary operator.Shl int64 (num_at int64 1) i_) int64
  -- `-(1 << i)`, where uint8 is wanted
  pub through_minus : typed_as uint8 (pre 0 «prefix».Neg (paren 1 (two (num (codes "1") 2) operator.Shl (name (codes "i") 7)))) ≡ a_value (core.unary operator.Neg uint8 (core.binary operator.Shl uint8 (num_at uint8 1) i_)) uint8
  -- `1 << i >> 4`, where int64 is wanted
  pub through_further_shifts : typed_as int64 (two (two (num (codes "1") 0) operator.Shl (name (codes "i") 5)) operator.Shr (num (codes "4") 10)) ≡ a_value (core.binary operator.Shr int64 (core.binary operator.Shl int64 (num_at int64 1) i_) (num_at uint 4)) int64
  -- `1 << i + 4`, where int64 is wanted
  pub through_sums : typed_as int64 (two (two (num (codes "1") 0) operator.Shl (name (codes "i") 5)) operator.Add (num (codes "4") 9)) ≡ a_value (core.binary operator.Add int64 (core.binary operator.Shl int64 (num_at int64 1) i_) (num_at int64 4)) int64
  -- `4 - 1 << i`, where int64 is wanted
  pub through_sums_on_the_right : typed_as int64 (two (num (codes "4") 0) operator.Sub (two (num (codes "1") 4) operator.Shl (name (codes "i") 9))) ≡ a_value (core.binary operator.Sub int64 (num_at int64 4) (core.binary operator.Shl int64 (num_at int64 1) i_)) int64
  -- `1 << i + 'a'`, where a value is wanted
  pub rune_in_a_sum : typed_alone (two (two (num (codes "1") 0) operator.Shl (name (codes "i") 5)) operator.Add (rune (codes "a") 9)) ≡ a_value (core.binary operator.Add int32 (core.binary operator.Shl int32 (num_at int32 1) i_) (num_at int32 97)) int32
  -- `w + 1 << i`
  pub type_of_the_other_operand : typed (two (name (codes "w") 0) operator.Add (two (num (codes "1") 4) operator.Shl (name (codes "i") 9))) ≡ a_value (core.binary operator.Add int64 w_ (core.binary operator.Shl int64 (num_at int64 1) i_)) int64
  -- `1 << i + w`
  pub type_of_the_other_operand_on_the_right : typed (two (two (num (codes "1") 0) operator.Shl (name (codes "i") 5)) operator.Add (name (codes "w") 9)) ≡ a_value (core.binary operator.Add int64 (core.binary operator.Shl int64 (num_at int64 1) i_) w_) int64
  -- `uint8(1 << i)`
  pub type_of_a_conversion : typed (call (name (codes "uint8") 0) ((two (num (codes "1") 6) operator.Shl (name (codes "i") 11)) ∷ [])) ≡ a_value (core.binary operator.Shl uint8 (num_at uint8 1) i_) uint8
  -- `1 << i == w`
  pub compared_with_a_value : typed (two (two (num (codes "1") 0) operator.Shl (name (codes "i") 5)) operator.Eq (name (codes "w") 10)) ≡ a_truth (core.equal false int64 ty.bool (core.binary operator.Shl int64 (num_at int64 1) i_) w_)
  -- `1 << i == 4`
  pub compared_with_a_number : typed (two (two (num (codes "1") 0) operator.Shl (name (codes "i") 5)) operator.Eq (num (codes "4") 10)) ≡ a_truth (core.equal false int ty.bool (core.binary operator.Shl int (num_at int 1) i_) (num_at int 4))
  -- `1 << i == 'a'`
  pub compared_with_a_rune : typed (two (two (num (codes "1") 0) operator.Shl (name (codes "i") 5)) operator.Eq (rune (codes "a") 10)) ≡ a_truth (core.equal false int32 ty.bool (core.binary operator.Shl int32 (num_at int32 1) i_) (num_at int32 97))
  -- `1 << i == 1 << u`
  pub compared_with_a_shift : typed (two (two (num (codes "1") 0) operator.Shl (name (codes "i") 5)) operator.Eq (two (num (codes "1") 10) operator.Shl (name (codes "u") 15))) ≡ a_truth (core.equal false int ty.bool (core.binary operator.Shl int (num_at int 1) i_) (core.binary operator.Shl int (num_at int 1) u_))
  -- what it is then
  -- `300 << i`, where uint8 is wanted
  pub constant_past_the_wanted_type : told_as uint8 (two (num (codes "300") 0) operator.Shl (name (codes "i") 7)) ≡ fault 0 32 ∷ []
  -- `-1 << i`, where uint8 is wanted
  pub negative_constant : told_as uint8 (two (pre 0 «prefix».Neg (num (codes "1") 1)) operator.Shl (name (codes "i") 6)) ≡ fault 0 32 ∷ []
  -- `255 << i`, where uint8 is wanted
  pub constant_in_the_wanted_type : typed_as uint8 (two (num (codes "255") 0) operator.Shl (name (codes "i") 7)) ≡ a_value (core.binary operator.Shl uint8 (num_at uint8 255) i_) uint8
  -- `u + 300 << i`
  pub constant_past_the_type_of_the_other : told (two (name (codes "u") 0) operator.Add (two (num (codes "300") 4) operator.Shl (name (codes "i") 11))) ≡ fault 4 32 ∷ []
  -- `1 << i + 300`, where uint8 is wanted
  pub constant_beside_it_past_the_type : told_as uint8 (two (two (num (codes "1") 0) operator.Shl (name (codes "i") 5)) operator.Add (num (codes "300") 9)) ≡ fault 9 32 ∷ []
  -- `5000000000 << i`, where a value is wanted
  pub constant_past_the_default_type : typed_alone (two (num (codes "5000000000") 0) operator.Shl (name (codes "i") 14)) ≡ faulty 0 32
  -- `uint8(300 << i)`
  pub constant_past_the_type_of_a_conversion : told (call (name (codes "uint8") 0) ((two (num (codes "300") 6) operator.Shl (name (codes "i") 13)) ∷ [])) ≡ fault 6 32 ∷ []
  -- `u << (5000000000 << i)`
  pub constant_past_the_type_of_counts : told (two (name (codes "u") 0) operator.Shl (paren 5 (two (num (codes "5000000000") 6) operator.Shl (name (codes "i") 20)))) ≡ fault 6 32 ∷ []
  -- `1 << i`, where ty.str is wanted
  pub type_is_no_integer : told_as ty.str (two (num (codes "1") 0) operator.Shl (name (codes "i") 5)) ≡ fault 0 57 ∷ []
  -- `s + 1 << i`
  pub type_of_the_other_is_no_integer : told (two (name (codes "s") 0) operator.Add (two (num (codes "1") 4) operator.Shl (name (codes "i") 9))) ≡ fault 4 57 ∷ []
  -- `string(1 << i)`
  pub type_of_a_conversion_is_no_integer : told (call (name (codes "string") 0) ((two (num (codes "1") 7) operator.Shl (name (codes "i") 12)) ∷ [])) ≡ fault 7 57 ∷ []
  -- `1 << i + "a"`
  pub beside_a_text : told (two (two (num (codes "1") 0) operator.Shl (name (codes "i") 5)) operator.Add (str (codes "a") 9)) ≡ fault 0 55 ∷ []
  -- `1 << i && true`
  pub beside_a_truth : told (two (two (num (codes "1") 0) operator.Shl (name (codes "i") 5)) operator.AndThen (name (codes "true") 10)) ≡ fault 0 55 ∷ []
  -- `!(1 << i)`
  pub not_of_a_shift : told (pre 0 «prefix».Not (paren 1 (two (num (codes "1") 2) operator.Shl (name (codes "i") 7)))) ≡ fault 0 54 ∷ []
  -- `1 << i / 0`
  pub shift_by_zero_divided : told (two (two (num (codes "1") 0) operator.Shl (name (codes "i") 5)) operator.Div (num (codes "0") 9)) ≡ fault 9 30 ∷ []

-- Rows by hand: where a value of a type, any value, or a type is wanted. Go specification (as of Go 1.17), "Assignability",
-- "Representability", "Constants", "Types".
use Rattle.std.specs.Prelude.{◌≡◌, [], ◌∷◌, true, false, codes}
use Rattle.gj_base.specs.declared.kind.Op.TheVariants as operator
use Rattle.go_const.specs.declared.constant.Const.TheVariants as form
use Rattle.go_type.specs.Tree as ty
use Rattle.go_core.specs.CoreTree as core
use Rattle.go_typing.specs.Answer.{type_, untyped_part}
use Rattle.go_typing.specs.Operand.{typed_constant}
use Rattle.go_typing.specs.TypingRowWords.{name, num, rune, str, paren, two, call, int, int64, uint8, int32, named_int, named_bool, named_str, typed_as, told_as, typed_alone, typed_type, faulty, fault, named_fault, i_, n_, a_value, whole_of, num_at}

pub record RowsWanted : Type 0 where
  -- a value of a type
  -- `4`, where int64 is wanted
  pub constant_takes_the_type : typed_as int64 (num (codes "4") 0) ≡ whole_of int64 4
  -- `'a'`, where uint8 is wanted
  pub rune_takes_the_type : typed_as uint8 (rune (codes "a") 0) ≡ whole_of uint8 97
  -- `4`, where named_int is wanted
  pub constant_takes_a_named_type : typed_as named_int (num (codes "4") 0) ≡ whole_of named_int 4
  -- `"a"`, where named_str is wanted
  pub text_takes_a_named_type : typed_as named_str (str (codes "a") 0) ≡ typed_constant named_str (form.Text (codes "a"))
  -- `i`, where int is wanted
  pub value_of_the_type : typed_as int (name (codes "i") 0) ≡ a_value i_ int
  -- `i == 4`, where named_bool is wanted
  pub comparison_takes_a_named_type : typed_as named_bool (two (name (codes "i") 0) operator.Eq (num (codes "4") 5)) ≡ a_value (core.convert ty.bool named_bool (core.equal false int ty.bool i_ (num_at int 4))) named_bool
  -- `c`, where uint8 is wanted
  pub typed_constant_stays : typed_as uint8 (name (codes "c") 0) ≡ whole_of uint8 200
  -- values that do not fit (61)
  -- `u`, where int is wanted
  pub other_integer : told_as int (name (codes "u") 0) ≡ fault 0 61 ∷ []
  -- `n`, where int is wanted
  pub named_for_unnamed : told_as int (name (codes "n") 0) ≡ fault 0 61 ∷ []
  -- `i`, where named_int is wanted
  pub unnamed_for_named : told_as named_int (name (codes "i") 0) ≡ fault 0 61 ∷ []
  -- `4`, where ty.str is wanted
  pub number_for_a_string : told_as ty.str (num (codes "4") 0) ≡ fault 0 61 ∷ []
  -- `"a"`, where int is wanted
  pub text_for_an_integer : told_as int (str (codes "a") 0) ≡ fault 0 61 ∷ []
  -- `true`, where int is wanted
  pub truth_for_an_integer : told_as int (name (codes "true") 0) ≡ fault 0 61 ∷ []
  -- `i == 4`, where int is wanted
  pub comparison_for_an_integer : told_as int (two (name (codes "i") 0) operator.Eq (num (codes "4") 5)) ≡ fault 0 61 ∷ []
  -- `nil`, where int is wanted
  pub nil_for_an_integer : told_as int (name (codes "nil") 0) ≡ fault 0 61 ∷ []
  -- `x`, where int is wanted
  pub none_round_an_undefined_name : told_as int (name (codes "x") 0) ≡ named_fault 0 50 (codes "x") ∷ []
  -- `lost`, where int is wanted
  pub none_of_a_lost_name : told_as int (name (codes "lost") 0) ≡ []
  -- constants that the type does not hold (32)
  -- `256`, where uint8 is wanted
  pub past_uint8 : told_as uint8 (num (codes "256") 0) ≡ fault 0 32 ∷ []
  -- `(256)`, where uint8 is wanted
  pub in_parentheses : told_as uint8 (paren 0 (num (codes "256") 1)) ≡ fault 0 32 ∷ []
  -- `255`, where uint8 is wanted
  pub in_uint8 : typed_as uint8 (num (codes "255") 0) ≡ whole_of uint8 255
  -- `2147483648`, where int is wanted
  pub past_int : told_as int (num (codes "2147483648") 0) ≡ fault 0 32 ∷ []
  -- no values (52)
  -- `int`, where int is wanted
  pub type_for_a_value : told_as int (name (codes "int") 0) ≡ fault 0 52 ∷ []
  -- `h()`, where int is wanted
  pub call_without_results : told_as int (call (name (codes "h") 0) []) ≡ fault 0 52 ∷ []
  -- `g()`, where int is wanted
  pub call_with_two_results : told_as int (call (name (codes "g") 0) []) ≡ fault 0 52 ∷ []
  -- `len`, where int is wanted
  pub built_in_for_a_value : told_as int (name (codes "len") 0) ≡ fault 0 52 ∷ []
  -- `_`, where int is wanted
  pub blank_for_a_value : told_as int (name (codes "_") 0) ≡ fault 0 52 ∷ []
  -- any value
  -- `4`, where a value is wanted
  pub number_is_an_int : typed_alone (num (codes "4") 0) ≡ whole_of int 4
  -- `'a'`, where a value is wanted
  pub rune_is_an_int32 : typed_alone (rune (codes "a") 0) ≡ whole_of int32 97
  -- `"a"`, where a value is wanted
  pub text_is_a_string : typed_alone (str (codes "a") 0) ≡ typed_constant ty.str (form.Text (codes "a"))
  -- `true`, where a value is wanted
  pub truth_is_a_bool : typed_alone (name (codes "true") 0) ≡ typed_constant ty.bool (form.Bool true)
  -- `i == 4`, where a value is wanted
  pub comparison_is_a_bool : typed_alone (two (name (codes "i") 0) operator.Eq (num (codes "4") 5)) ≡ a_value (core.equal false int ty.bool i_ (num_at int 4)) ty.bool
  -- `n`, where a value is wanted
  pub value_keeps_its_type : typed_alone (name (codes "n") 0) ≡ a_value n_ named_int
  -- `2147483648`, where a value is wanted
  pub number_past_int : typed_alone (num (codes "2147483648") 0) ≡ faulty 0 32
  -- `nil`, where a value is wanted
  pub nil_has_no_type : typed_alone (name (codes "nil") 0) ≡ faulty 0 73
  -- `int`, where a value is wanted
  pub type_is_no_value : typed_alone (name (codes "int") 0) ≡ faulty 0 52
  -- a type (51)
  -- `N`, where a type is wanted
  pub type_by_name : typed_type (name (codes "N") 0) ≡ type_ named_int
  -- `(int)`, where a type is wanted
  pub type_in_parentheses : typed_type (paren 0 (name (codes "int") 1)) ≡ type_ int
  -- `i`, where a type is wanted
  pub variable_for_a_type : typed_type (name (codes "i") 0) ≡ faulty 0 51
  -- `4`, where a type is wanted
  pub number_for_a_type : typed_type (num (codes "4") 0) ≡ faulty 0 51
  -- `len`, where a type is wanted
  pub built_in_for_a_type : typed_type (name (codes "len") 0) ≡ faulty 0 51
  -- `_`, where a type is wanted
  pub blank_for_a_type : typed_type (name (codes "_") 0) ≡ faulty 0 51
  -- `x`, where a type is wanted
  pub undefined_type : typed_type (name (codes "x") 0) ≡ untyped_part

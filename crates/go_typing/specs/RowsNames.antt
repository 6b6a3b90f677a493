-- Rows by hand: names, literals, parentheses, and what is not built yet. Go specification (as of Go 1.17),
-- "Operands", "Predeclared identifiers", "Integer literals", "Rune literals".
use Rattle.std.specs.Prelude.{◌≡◌, pos, [], ◌∷◌, true, None, codes}
use Rattle.gj_base.specs.declared.kind.Op.TheVariants as operator
use Rattle.go_const.specs.declared.constant.Const.TheVariants as form
use Rattle.go_syntax.specs.Tree as t
use Rattle.go_syntax.specs.declared.tree.Prefix.TheVariants as «prefix»
use Rattle.go_type.specs.Tree as ty
use Rattle.go_core.specs.CoreTree as core
use Rattle.go_typing.specs.Env.{Len}
use Rattle.go_typing.specs.Answer.{value, type_, built_in, blank, untyped_part}
use Rattle.go_typing.specs.Operand.{untyped_constant}
use Rattle.go_typing.specs.TypingRowWords.{at, name, num, rune, str, paren, pre, two, call, int, uint8, int32, named_int, typed, told, fault, named_fault, i_, a_value, whole, whole_of, select}

pub record RowsNames : Type 0 where
  -- names
  -- `i`
  pub variables_are_read : typed (name (codes "i") 0) ≡ a_value i_ int
  -- `c`
  pub constants_have_their_type : typed (name (codes "c") 0) ≡ whole_of uint8 200
  -- `k`
  pub constants_may_have_none : typed (name (codes "k") 0) ≡ whole 4
  -- `true`
  pub true_is_untyped : typed (name (codes "true") 0) ≡ untyped_constant (form.Bool true)
  -- `int`
  pub int_is_a_type : typed (name (codes "int") 0) ≡ type_ int
  -- `byte`
  pub byte_is_uint8 : typed (name (codes "byte") 0) ≡ type_ uint8
  -- `rune`
  pub rune_is_int32 : typed (name (codes "rune") 0) ≡ type_ int32
  -- `N`
  pub declared_types_are_types : typed (name (codes "N") 0) ≡ type_ named_int
  -- `nil`
  pub nil_has_its_own_type : typed (name (codes "nil") 0) ≡ value (core.zero_value ty.nil) ty.nil None
  -- `len`
  pub len_is_built_in : typed (name (codes "len") 0) ≡ built_in Len
  -- `_`
  pub blank_is_no_value : typed (name (codes "_") 0) ≡ blank
  -- undefined names (50)
  -- `x`
  pub names_are_declared : told (name (codes "x") 0) ≡ named_fault 0 50 (codes "x") ∷ []
  -- `iota`
  pub iota_is_of_constants : told (name (codes "iota") 0) ≡ named_fault 0 50 (codes "iota") ∷ []
  -- `x + y`
  pub each_name_is_told : told (two (name (codes "x") 0) operator.Add (name (codes "y") 4)) ≡ named_fault 0 50 (codes "x") ∷ named_fault 4 50 (codes "y") ∷ []
  -- `-s + x`
  pub operands_are_told_first : told (two (pre 0 «prefix».Neg (name (codes "s") 1)) operator.Add (name (codes "x") 5)) ≡ fault 0 54 ∷ named_fault 5 50 (codes "x") ∷ []
  -- `i + x`
  pub users_of_names_have_no_fault : told (two (name (codes "i") 0) operator.Add (name (codes "x") 4)) ≡ named_fault 4 50 (codes "x") ∷ []
  -- names whose declaration is not typed
  -- `lost`
  pub lost_names_are_not_typed : typed (name (codes "lost") 0) ≡ untyped_part
  -- `lost + int`
  pub lost_names_have_no_fault : told (two (name (codes "lost") 0) operator.Add (name (codes "int") 7)) ≡ []
  -- `lost + x`
  pub others_beside_are_told : told (two (name (codes "lost") 0) operator.Add (name (codes "x") 7)) ≡ named_fault 7 50 (codes "x") ∷ []
  -- not in the profile (71)
  -- `float32`
  pub floats_are_left_out : told (name (codes "float32") 0) ≡ fault 0 71 ∷ []
  -- `x + real`
  pub parts_of_complex_are_left_out : told (two (name (codes "x") 0) operator.Add (name (codes "real") 4)) ≡ named_fault 0 50 (codes "x") ∷ fault 4 71 ∷ []
  -- `int32(4)`
  pub integers_are_there : typed (call (name (codes "int32") 0) ((num (codes "4") 6) ∷ [])) ≡ whole_of int32 4
  -- not built yet (0)
  -- `error`
  pub error_is_not_built : told (name (codes "error") 0) ≡ fault 0 0 ∷ []
  -- `f`
  pub functions_are_not_values : told (name (codes "f") 0) ≡ fault 0 0 ∷ []
  -- `(f)`
  pub functions_in_parentheses : told (paren 0 (name (codes "f") 1)) ≡ fault 1 0 ∷ []
  -- `[]int(x)`
  pub types_of_slices : told (call (t.SliceType (at 0) (name (codes "int") 2)) ((name (codes "x") 6) ∷ [])) ≡ fault 0 0 ∷ named_fault 6 50 (codes "x") ∷ []
  -- `&x`
  pub operands_of_address : told (pre 0 «prefix».Address (name (codes "x") 1)) ≡ fault 0 0 ∷ []
  -- `-*x`
  pub operands_of_star : told (pre 0 «prefix».Neg (pre 1 «prefix».Star (name (codes "x") 2))) ≡ fault 1 0 ∷ []
  -- `x.y`
  pub selectors : told (select (name (codes "x") 0) (codes "y") 2) ≡ fault 0 0 ∷ []
  -- `append(x)`
  pub built_in_calls : told (call (name (codes "append") 0) ((name (codes "x") 7) ∷ [])) ≡ fault 0 0 ∷ []
  -- `(cap)(x)`
  pub built_in_calls_in_parentheses : told (call (paren 0 (name (codes "cap") 1)) ((name (codes "x") 6) ∷ [])) ≡ fault 0 0 ∷ []
  -- `complex(x)`
  pub complex_calls : told (call (name (codes "complex") 0) ((name (codes "x") 8) ∷ [])) ≡ fault 0 0 ∷ []
  -- `x + f`
  pub after_another_fault : told (two (name (codes "x") 0) operator.Add (name (codes "f") 4)) ≡ named_fault 0 50 (codes "x") ∷ fault 4 0 ∷ []
  -- `h()`
  pub functions_are_called : told (call (name (codes "h") 0) []) ≡ []
  -- literals
  -- `0`
  pub zero : typed (num (codes "0") 0) ≡ whole 0
  -- `1_000`
  pub decimal : typed (num (codes "1_000") 0) ≡ whole 1000
  -- `0b110`
  pub binary : typed (num (codes "0b110") 0) ≡ whole 6
  -- `0o17`
  pub octal : typed (num (codes "0o17") 0) ≡ whole 15
  -- `017`
  pub octal_by_zero : typed (num (codes "017") 0) ≡ whole 15
  -- `0_17`
  pub octal_with_a_mark : typed (num (codes "0_17") 0) ≡ whole 15
  -- `0x_1E`
  pub hexadecimal : typed (num (codes "0x_1E") 0) ≡ whole 30
  -- `0xBadFace`
  pub letters_of_hexadecimal : typed (num (codes "0xBadFace") 0) ≡ whole 195951310
  -- `170141183460469231731687303715884105727`
  pub greatest : typed (num (codes "170141183460469231731687303715884105727") 0) ≡ whole 170141183460469231731687303715884105727
  -- `'a'`
  pub rune_of_a_byte : typed (rune (codes "a") 0) ≡ untyped_constant (form.Rune (pos 97))
  -- `'é'`
  pub rune_of_two_bytes : typed (rune (195 ∷ 169 ∷ []) 0) ≡ untyped_constant (form.Rune (pos 233))
  -- `'世'`
  pub rune_of_three_bytes : typed (rune (228 ∷ 184 ∷ 150 ∷ []) 0) ≡ untyped_constant (form.Rune (pos 19990))
  -- `'😀'`
  pub rune_of_four_bytes : typed (rune (240 ∷ 159 ∷ 152 ∷ 128 ∷ []) 0) ≡ untyped_constant (form.Rune (pos 128512))
  -- `"ab"`
  pub string_of_bytes : typed (str (codes "ab") 0) ≡ untyped_constant (form.Text (codes "ab"))
  -- parentheses
  -- `((4))`
  pub parentheses_keep : typed (paren 0 (paren 1 (num (codes "4") 2))) ≡ whole 4
  -- `(int)`
  pub parentheses_of_types : typed (paren 0 (name (codes "int") 1)) ≡ type_ int
  -- `(x)`
  pub parentheses_have_no_fault : told (paren 0 (name (codes "x") 1)) ≡ named_fault 1 50 (codes "x") ∷ []

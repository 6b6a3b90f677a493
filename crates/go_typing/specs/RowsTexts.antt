-- Rows by hand: indexes and slices of strings. Go specification (as of Go 1.17), "Index expressions", "Slice expressions".
use Rattle.std.specs.Prelude.{◌≡◌, [], ◌∷◌, codes}
use Rattle.gj_base.specs.declared.kind.Op.TheVariants as operator
use Rattle.go_syntax.specs.Tree as t
use Rattle.go_syntax.specs.declared.tree.Prefix.TheVariants as «prefix»
use Rattle.go_type.specs.Tree as ty
use Rattle.go_core.specs.CoreTree as core
use Rattle.go_typing.specs.TypingRowWords.{name, num, rune, str, paren, pre, two, at_index, int, uint8, named_str, typed, told, fault, named_fault, i_, w_, s_, z_, a_value, num_at, text_at, part_of}

pub record RowsTexts : Type 0 where
  -- bytes
  -- `s[4]`
  pub by_a_constant : typed (at_index (name (codes "s") 0) (num (codes "4") 2)) ≡ a_value (core.byte_at s_ (num_at int 4)) uint8
  -- `s[w]`
  pub by_a_variable : typed (at_index (name (codes "s") 0) (name (codes "w") 2)) ≡ a_value (core.byte_at s_ w_) uint8
  -- `z[i]`
  pub of_a_named_type : typed (at_index (name (codes "z") 0) (name (codes "i") 2)) ≡ a_value (core.byte_at z_ i_) uint8
  -- `"ab"[i]`
  pub of_a_constant : typed (at_index (str (codes "ab") 0) (name (codes "i") 5)) ≡ a_value (core.byte_at (text_at ty.str (codes "ab")) i_) uint8
  -- `s[1 << i]`
  pub by_a_shift : typed (at_index (name (codes "s") 0) (two (num (codes "1") 2) operator.Shl (name (codes "i") 7))) ≡ a_value (core.byte_at s_ (core.binary operator.Shl int (num_at int 1) i_)) uint8
  -- `s['a']`
  pub by_a_rune : typed (at_index (name (codes "s") 0) (rune (codes "a") 2)) ≡ a_value (core.byte_at s_ (num_at int 97)) uint8
  -- indexes (65)
  -- `s[-1]`
  pub negative_index : told (at_index (name (codes "s") 0) (pre 2 «prefix».Neg (num (codes "1") 3))) ≡ fault 2 65 ∷ []
  -- `s["a"]`
  pub text_as_an_index : told (at_index (name (codes "s") 0) (str (codes "a") 2)) ≡ fault 2 65 ∷ []
  -- `s[b]`
  pub boolean_as_an_index : told (at_index (name (codes "s") 0) (name (codes "b") 2)) ≡ fault 2 65 ∷ []
  -- `s[2147483648]`
  pub index_past_int : told (at_index (name (codes "s") 0) (num (codes "2147483648") 2)) ≡ fault 2 65 ∷ []
  -- `s[2147483647]`
  pub greatest_index : typed (at_index (name (codes "s") 0) (num (codes "2147483647") 2)) ≡ a_value (core.byte_at s_ (num_at int 2147483647)) uint8
  -- `"abcdefghi"[9]`
  pub index_past_the_end : told (at_index (str (codes "abcdefghi") 0) (num (codes "9") 12)) ≡ fault 12 65 ∷ []
  -- `"abcdefghi"[8]`
  pub last_index : typed (at_index (str (codes "abcdefghi") 0) (num (codes "8") 12)) ≡ a_value (core.byte_at (text_at ty.str (codes "abcdefghi")) (num_at int 8)) uint8
  -- `x + s[-1]`
  pub index_after_an_undefined_name : told (two (name (codes "x") 0) operator.Add (at_index (name (codes "s") 4) (pre 6 «prefix».Neg (num (codes "1") 7)))) ≡ named_fault 0 50 (codes "x") ∷ fault 6 65 ∷ []
  -- `s[int]`
  pub index_that_is_a_type : told (at_index (name (codes "s") 0) (name (codes "int") 2)) ≡ fault 2 52 ∷ []
  -- types without indexes (64)
  -- `i[4]`
  pub integers_have_no_index : told (at_index (name (codes "i") 0) (num (codes "4") 2)) ≡ fault 0 64 ∷ []
  -- `4[i]`
  pub numbers_have_no_index : told (at_index (num (codes "4") 0) (name (codes "i") 2)) ≡ fault 0 64 ∷ []
  -- `(i == 4)[1]`
  pub comparisons_have_no_index : told (at_index (paren 0 (two (name (codes "i") 1) operator.Eq (num (codes "4") 6))) (num (codes "1") 9)) ≡ fault 0 64 ∷ []
  -- `x + i[4]`
  pub no_index_after_an_undefined_name : told (two (name (codes "x") 0) operator.Add (at_index (name (codes "i") 4) (num (codes "4") 6))) ≡ named_fault 0 50 (codes "x") ∷ fault 4 64 ∷ []
  -- `x[y]`
  pub none_round_an_undefined_name : told (at_index (name (codes "x") 0) (name (codes "y") 2)) ≡ named_fault 0 50 (codes "x") ∷ named_fault 2 50 (codes "y") ∷ []
  -- `int[4]`
  pub types_have_no_index : told (at_index (name (codes "int") 0) (num (codes "4") 4)) ≡ fault 0 52 ∷ []
  -- `nil[4]`
  pub nil_has_no_index : told (at_index (name (codes "nil") 0) (num (codes "4") 4)) ≡ fault 0 73 ∷ []
  -- slices
  -- `s[1:4]`
  pub between : typed (part_of (name (codes "s") 0) (t.AnExpr (num (codes "1") 2)) (t.AnExpr (num (codes "4") 4)) t.NoExpr) ≡ a_value (core.slice_of ty.str ty.str s_ (core.bound (num_at int 1)) (core.bound (num_at int 4)) core.no_bound) ty.str
  -- `s[:]`
  pub whole_string : typed (part_of (name (codes "s") 0) t.NoExpr t.NoExpr t.NoExpr) ≡ a_value (core.slice_of ty.str ty.str s_ core.no_bound core.no_bound core.no_bound) ty.str
  -- `z[w:]`
  pub from_a_variable : typed (part_of (name (codes "z") 0) (t.AnExpr (name (codes "w") 2)) t.NoExpr t.NoExpr) ≡ a_value (core.slice_of named_str named_str z_ (core.bound w_) core.no_bound core.no_bound) named_str
  -- `"abcdefghi"[:9]`
  pub of_a_constant_string : typed (part_of (str (codes "abcdefghi") 0) t.NoExpr (t.AnExpr (num (codes "9") 13)) t.NoExpr) ≡ a_value (core.slice_of ty.str ty.str (text_at ty.str (codes "abcdefghi")) core.no_bound (core.bound (num_at int 9)) core.no_bound) ty.str
  -- `"abcdefghi"[1:10]`
  pub past_the_end : told (part_of (str (codes "abcdefghi") 0) (t.AnExpr (num (codes "1") 12)) (t.AnExpr (num (codes "10") 14)) t.NoExpr) ≡ fault 14 65 ∷ []
  -- `s[-1:4]`
  pub negative_bound : told (part_of (name (codes "s") 0) (t.AnExpr (pre 2 «prefix».Neg (num (codes "1") 3))) (t.AnExpr (num (codes "4") 5)) t.NoExpr) ≡ fault 2 65 ∷ []
  -- `s["a":]`
  pub text_as_a_bound : told (part_of (name (codes "s") 0) (t.AnExpr (str (codes "a") 2)) t.NoExpr t.NoExpr) ≡ fault 2 65 ∷ []
  -- `s[b:-1]`
  pub both_bounds : told (part_of (name (codes "s") 0) (t.AnExpr (name (codes "b") 2)) (t.AnExpr (pre 4 «prefix».Neg (num (codes "1") 5))) t.NoExpr) ≡ fault 2 65 ∷ fault 4 65 ∷ []
  -- `s[6:4]`
  pub bounds_out_of_order : told (part_of (name (codes "s") 0) (t.AnExpr (num (codes "6") 2)) (t.AnExpr (num (codes "4") 4)) t.NoExpr) ≡ fault 4 65 ∷ []
  -- `s[4:4]`
  pub bounds_that_are_equal : typed (part_of (name (codes "s") 0) (t.AnExpr (num (codes "4") 2)) (t.AnExpr (num (codes "4") 4)) t.NoExpr) ≡ a_value (core.slice_of ty.str ty.str s_ (core.bound (num_at int 4)) (core.bound (num_at int 4)) core.no_bound) ty.str
  -- `s[1:4:6]`
  pub three_bounds : told (part_of (name (codes "s") 0) (t.AnExpr (num (codes "1") 2)) (t.AnExpr (num (codes "4") 4)) (t.AnExpr (num (codes "6") 6))) ≡ fault 0 64 ∷ []
  -- `i[1:]`
  pub slices_of_integers : told (part_of (name (codes "i") 0) (t.AnExpr (num (codes "1") 2)) t.NoExpr t.NoExpr) ≡ fault 0 64 ∷ []
  -- `s[x:y]`
  pub undefined_bounds : told (part_of (name (codes "s") 0) (t.AnExpr (name (codes "x") 2)) (t.AnExpr (name (codes "y") 4)) t.NoExpr) ≡ named_fault 2 50 (codes "x") ∷ named_fault 4 50 (codes "y") ∷ []
  -- `s[:int]`
  pub bound_that_is_a_type : told (part_of (name (codes "s") 0) t.NoExpr (t.AnExpr (name (codes "int") 3)) t.NoExpr) ≡ fault 3 52 ∷ []

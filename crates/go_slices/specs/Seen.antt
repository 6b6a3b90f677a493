-- Which operators of the definitions those of the program stand for.
use Rattle.std.specs.Prelude.{List}
use Rattle.go_type.specs.Tree.{Ty}
use Rattle.go_type.specs.Levels.{tree_of}
use Rattle.go_core.specs.CoreView.{constant_of, method_of}
use Rattle.go_core.specs.Operator as op
use Rattle.go_slices.specs.declared.composites.operator.Operator.{Operator}
use Rattle.go_slices.specs.declared.composites.operator.Operator.TheVariants as held

-- with the trees of the table's types
module _ (ts : List Ty) where
  abbrev pub operator_of : Operator → op.Operator
  operator_of (held.GiveConstant c) = op.give_constant (constant_of c.now)
  operator_of (held.GiveZero t) = op.give_zero (tree_of ts t)
  operator_of (held.AtGlobal n) = op.at_global n
  operator_of held.AtPointer = op.at_pointer
  operator_of (held.AtField t n) = op.at_field (tree_of ts t) n
  operator_of (held.AtElem t) = op.at_elem (tree_of ts t)
  operator_of (held.AtSliceElem t) = op.at_slice_elem (tree_of ts t)
  operator_of (held.ReadPlace t) = op.read_place (tree_of ts t)
  operator_of held.ToAddress = op.to_address
  operator_of (held.ToUnary o t) = op.to_unary o (tree_of ts t)
  operator_of (held.ToBinary o t) = op.to_binary o (tree_of ts t)
  operator_of held.ToConcat = op.to_concat
  operator_of held.ToNot = op.to_not
  operator_of (held.ToEqual negated t) = op.to_equal negated (tree_of ts t)
  operator_of (held.ToLess o t) = op.to_less o (tree_of ts t)
  operator_of (held.ToConverted from to) = op.to_converted (tree_of ts from) (tree_of ts to)
  operator_of held.ToByte = op.to_byte
  operator_of (held.ToSlice from written) = op.to_slice (tree_of ts from) written.low written.high written.limit
  operator_of (held.ToBuilt t count indexes) = op.to_built (tree_of ts t) count indexes.now
  operator_of (held.ToBuiltMap t) = op.to_built_map (tree_of ts t)
  operator_of (held.ToBound n) = op.to_bound (method_of ts n.now)
  operator_of (held.ToBoundDynamic name package_) = op.to_bound_dynamic name.now package_.now
  operator_of (held.GetEntry t ok) = op.get_entry (tree_of ts t) ok
  operator_of (held.DeleteEntry t) = op.delete_entry (tree_of ts t)
  operator_of (held.ToLen t) = op.to_len (tree_of ts t)
  operator_of (held.ToCap t) = op.to_cap (tree_of ts t)
  operator_of (held.ToAppended t) = op.to_appended (tree_of ts t)
  operator_of (held.ToCopied t) = op.to_copied (tree_of ts t)
  operator_of (held.ToNewSlice t) = op.to_new_slice (tree_of ts t)
  operator_of held.ToNewMap = op.to_new_map
  operator_of held.ToNewChannel = op.to_new_channel
  operator_of (held.ToNew t) = op.to_new (tree_of ts t)
  operator_of (held.ToInterface t) = op.to_interface (tree_of ts t)
  operator_of (held.ToAsserted t ok) = op.to_asserted (tree_of ts t) ok
  operator_of held.ToBasic = op.to_basic
  operator_of held.ToGate = op.to_gate

-- How values of a type are held in the script, by the type's tree.
use Rattle.std.specs.Prelude.{Bool, true, false, if◌then◌else◌}
use Rattle.gj_base.specs.declared.kind.Kind.{Kind}
use Rattle.gj_base.specs.declared.kind.Kind.TheVariants as kind
use Rattle.go_type.specs.Tree.{Ty}
use Rattle.go_type.specs.Tree as tree
use Rattle.go_type.specs.Levels.{tree_of}
use Rattle.go_type.specs.Table.{places, names}
use Rattle.go_type.specs.Underlying.{underlying}
use Rattle.go_type.specs.declared.table.TypeTable.{TypeTable}
use Rattle.go_type.specs.declared.types.TypeId.{TypeId}
use Rattle.go_type.specs.declared.types.IntName.{IntName}
use Rattle.go_type.specs.declared.types.IntName.TheVariants as int_name
use Rattle.go_type.specs.declared.types.Basis.{Basis}
use Rattle.go_type.specs.declared.types.Basis.TheVariants as basis
use Rattle.js_facts.specs.declared.held.Held.{Held}
use Rattle.js_facts.specs.declared.held.Held.TheVariants as held

-- a truth value, a string, a number of up to 32 bits, two halves, an array that is written in place, or something else
pub data How : Type 0 where
  truth : How
  text : How
  small : Kind → How
  wide : Kind → How
  block : How
  other : How

abbrev pub kind_of : IntName → Kind
kind_of int_name.Int = kind.I32
kind_of int_name.Int32 = kind.I32
kind_of int_name.Uint = kind.U32
kind_of int_name.Uint32 = kind.U32
kind_of int_name.Uintptr = kind.U32
kind_of int_name.Int8 = kind.I8
kind_of int_name.Int16 = kind.I16
kind_of int_name.Int64 = kind.I64
kind_of int_name.Uint8 = kind.U8
kind_of int_name.Uint16 = kind.U16
kind_of int_name.Uint64 = kind.U64

-- whether numbers of a kind have a sign
abbrev pub is_signed : Kind → Bool
is_signed kind.I8 = true
is_signed kind.I16 = true
is_signed kind.I32 = true
is_signed kind.I64 = true
is_signed _ = false

-- whether a number of a kind is two halves
abbrev pub is_wide : Kind → Bool
is_wide kind.I64 = true
is_wide kind.U64 = true
is_wide _ = false

abbrev pub held_int : Kind → How
held_int k = if is_wide k then wide k else small k

abbrev pub held_untyped : Basis → How
held_untyped basis.Bool = truth
held_untyped basis.Str = text
held_untyped basis.Int = small kind.I32
held_untyped basis.Rune = small kind.I32

abbrev pub held_tree : Ty → How
held_tree tree.bool = truth
held_tree tree.str = text
held_tree (tree.int name) = held_int (kind_of name)
held_tree (tree.untyped b) = held_untyped b
held_tree (tree.array n t) = block
held_tree (tree.struct fs) = block
held_tree _ = other

-- how values of a type of a table are held
abbrev pub how_held : TypeTable → TypeId → How
how_held table t = held_tree (underlying (names table) (tree_of (places table) t))

abbrev pub how : Held → How
how held.Truth = truth
how held.Str = text
how (held.Small k) = small k
how (held.Wide k) = wide k
how (held.Struct n) = block
how (held.Array n t) = block
how _ = other

abbrev pub is_block : How → Bool
is_block block = true
is_block _ = false

-- the kind of numbers that are held so; `I32` of what is no number
abbrev pub kind_held : How → Kind
kind_held (small k) = k
kind_held (wide k) = k
kind_held _ = kind.I32

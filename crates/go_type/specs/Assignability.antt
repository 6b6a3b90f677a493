-- Go specification (as of Go 1.17), "Assignability": the cases in which a value of a type V may be assigned to
-- a variable of a type T.
use Rattle.std.specs.Prelude.{◌≡◌, Bool, true, false, ◌&&◌, not, List, IsTrue}
use Rattle.go_type.specs.Tree.{Ty, bool, str, int, nil, untyped, slice, pointer, func, interface, mapping, chan, named}
use Rattle.go_type.specs.Named.{NamedTy}
use Rattle.go_type.specs.Underlying.{underlying}
use Rattle.go_type.specs.MethodSet.{Implements}
use Rattle.go_type.specs.declared.types.Basis.{Basis}
use Rattle.go_type.specs.declared.types.Basis.TheVariants as basis
use Rattle.go_type.specs.declared.types.Dir.TheVariants as dir

-- predeclared types and named types are defined
abbrev pub is_defined : Ty → Bool
is_defined bool = true
is_defined str = true
is_defined (int name) = true
is_defined (named id) = true
is_defined _ = false

abbrev pub one_undefined : Ty → Ty → Bool
one_undefined v t = not (is_defined v && is_defined t)

-- one underlying type, and not both defined
abbrev pub SharesUnderlying : List NamedTy → Ty → Ty → Type 0
SharesUnderlying ns v t = (underlying ns v ≡ underlying ns t) × IsTrue (one_undefined v t)

-- a channel of both directions goes to each channel type with its element type
abbrev pub IsChannelOf : Ty → Ty → Type 0
IsChannelOf (chan dir.Both a) (chan d b) = a ≡ b
IsChannelOf _ _ = ⊥

abbrev pub GoesToChannel : List NamedTy → Ty → Ty → Type 0
GoesToChannel ns v t = IsChannelOf (underlying ns v) (underlying ns t) × IsTrue (one_undefined v t)

-- the types that have `nil`
abbrev pub has_nil : Ty → Bool
has_nil (pointer t) = true
has_nil (func ps rs v) = true
has_nil (slice t) = true
has_nil (mapping k v) = true
has_nil (chan d t) = true
has_nil (interface ms) = true
has_nil _ = false

abbrev pub is_nil : Ty → Bool
is_nil nil = true
is_nil _ = false

abbrev pub IsNilTo : List NamedTy → Ty → Ty → Type 0
IsNilTo ns v t = IsTrue (is_nil v) × IsTrue (has_nil (underlying ns t))

-- an untyped constant goes to the types of its kind; whether the type holds its value is asked apart
abbrev pub is_of_kind : Basis → Ty → Bool
is_of_kind basis.Bool bool = true
is_of_kind basis.Int (int name) = true
is_of_kind basis.Rune (int name) = true
is_of_kind basis.Str str = true
is_of_kind _ _ = false

abbrev pub IsConstantTo : List NamedTy → Ty → Ty → Type 0
IsConstantTo ns (untyped b) t = IsTrue (is_of_kind b (underlying ns t))
IsConstantTo ns v t = ⊥

-- one case for each of the specification
pub data IsAssignable (ns : List NamedTy) (v t : Ty) : Type 0 where
  identical : v ≡ t → IsAssignable ns v t
  shares_underlying : SharesUnderlying ns v t → IsAssignable ns v t
  implements : Implements ns v t → IsAssignable ns v t
  goes_to_channel : GoesToChannel ns v t → IsAssignable ns v t
  is_nil_to : IsNilTo ns v t → IsAssignable ns v t
  is_constant_to : IsConstantTo ns v t → IsAssignable ns v t

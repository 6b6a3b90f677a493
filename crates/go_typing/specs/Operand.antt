-- Go specification (as of Go 1.17), "Constants", "Representability", "Assignability": values as operands, and what
-- they are at a type.
use Rattle.std.specs.Prelude.{ℤ, List, [], ◌∷◌, ◌++◌, Bool, true, false, ◌&&◌, ◌||◌, if◌then◌else◌, Option, Some, None, Result, Ok, Err}
use Rattle.gj_base.specs.declared.place.Place.{Place}
use Rattle.gj_base.specs.declared.kind.Kind.{Kind}
use Rattle.go_const.specs.declared.constant.Const.{Const}
use Rattle.go_const.specs.declared.constant.Const.TheVariants as form
use Rattle.go_const.specs.declared.constant.ConstRefusal.{ConstRefusal}
use Rattle.go_const.specs.declared.constant.ConstRefusal.TheVariants.{Code, NoMemory}
use Rattle.go_const.specs.Answer.{holds}
use Rattle.go_type.specs.declared.types.Basis.{Basis}
use Rattle.go_type.specs.declared.types.Basis.TheVariants as basis
use Rattle.go_type.specs.declared.types.Dir.TheVariants as dir
use Rattle.go_type.specs.Tree as ty
use Rattle.go_type.specs.Tree.{Ty, Tys, no_tys, more_tys}
use Rattle.go_type.specs.Named.{NamedTy}
use Rattle.go_type.specs.Underlying.{underlying}
use Rattle.go_type.specs.Assignability.{one_undefined, has_nil}
use Rattle.go_core.specs.Layout.{kind_of}
use Rattle.go_core.specs.SameType.{same_type}
use Rattle.go_core.specs.CoreTree as core
use Rattle.go_core.specs.CoreTree.{Constant, truth_constant, whole_constant, text_constant, Expr}
use Rattle.go_typing.specs.Env.{int_type, rune_type}
use Rattle.go_typing.specs.Answer.{Flaw, flaw, Pending, fixed, shifted, further, signed, joined, Answer, value, pending, bad, untyped_part}

-- ---- constants

abbrev pub constant_of : Const → Constant
constant_of (form.Bool b) = truth_constant b
constant_of (form.Int z) = whole_constant z
constant_of (form.Rune z) = whole_constant z
constant_of (form.Text s) = text_constant s

abbrev pub basis_of : Const → Basis
basis_of (form.Bool b) = basis.Bool
basis_of (form.Int z) = basis.Int
basis_of (form.Rune z) = basis.Rune
basis_of (form.Text s) = basis.Str

abbrev pub is_number : Const → Bool
is_number (form.Int z) = true
is_number (form.Rune z) = true
is_number _ = false

-- a constant of a type
abbrev pub constant_at : Ty → Const → Expr
constant_at t k = core.constant t (constant_of k)

abbrev pub typed_constant : Ty → Const → Answer
typed_constant t k = value (constant_at t k) t (Some k)

abbrev pub untyped_constant : Const → Answer
untyped_constant k = typed_constant (ty.untyped (basis_of k)) k

-- what constants fold to: of a type, or untyped
abbrev pub folded : Place → Ty → Result Const ConstRefusal → Answer
folded at t (Ok k) = typed_constant t k
folded at t (Err (Code n)) = bad at n
folded at t (Err NoMemory) = untyped_part

abbrev pub folded_untyped : Place → Result Const ConstRefusal → Answer
folded_untyped at (Ok k) = untyped_constant k
folded_untyped at (Err (Code n)) = bad at n
folded_untyped at (Err NoMemory) = untyped_part

-- an untyped boolean that is no constant
abbrev pub truth_value : Expr → Answer
truth_value c = value c (ty.untyped basis.Bool) None

-- "Constants": the default types
abbrev pub default_type : Basis → Ty
default_type basis.Bool = ty.bool
default_type basis.Int = int_type
default_type basis.Rune = rune_type
default_type basis.Str = ty.str

-- the one that comes later of integer and rune
abbrev pub later_basis : Basis → Basis → Basis
later_basis basis.Rune b = basis.Rune
later_basis a basis.Rune = basis.Rune
later_basis a b = a

-- "Representability": what an untyped constant, or one that is converted, is as a value of a type
pub data Held : Type 0 where
  held : Const → Held
  -- of the type's kind, but not in its range
  past : Held
  -- of another kind
  unlike : Held

abbrev pub number_in : Kind → ℤ → Held
number_in kind z = if holds (Some kind) z then held (form.Int z) else past

-- by the underlying type
abbrev pub constant_in : Ty → Const → Held
constant_in (ty.int name) (form.Int z) = number_in (kind_of name) z
constant_in (ty.int name) (form.Rune z) = number_in (kind_of name) z
constant_in ty.bool (form.Bool b) = held (form.Bool b)
constant_in ty.str (form.Text s) = held (form.Text s)
constant_in _ k = unlike

-- the kind of the numbers that a type has
abbrev pub number_kind : Ty → Option Kind
number_kind (ty.int name) = Some (kind_of name)
number_kind _ = None

abbrev pub is_int : Ty → Bool
is_int (ty.int name) = true
is_int _ = false

abbrev pub is_bool : Ty → Bool
is_bool ty.bool = true
is_bool _ = false

abbrev pub is_str : Ty → Bool
is_str ty.str = true
is_str _ = false

-- ---- operands

-- a single value
pub data Operand : Type 0 where
  typed : Expr → Ty → Option Const → Operand
  constant_operand : Const → Operand
  -- an untyped boolean that is no constant
  truth_operand : Expr → Operand
  pending_operand : Pending → Basis → Operand
  nil_operand : Operand

abbrev pub untyped_operand : Expr → Option Const → Operand
untyped_operand c (Some k) = constant_operand k
untyped_operand c None = truth_operand c

abbrev pub operand_of : Expr → Ty → Option Const → Option Operand
operand_of c (ty.untyped b) v = Some (untyped_operand c v)
operand_of c ty.nil v = Some nil_operand
operand_of c (ty.tuple ts) v = None
operand_of c t v = Some (typed c t v)

-- The value of a part. There is none where it is a type, a package, a built-in function, `_`, or a call that gives
-- no value or several.
abbrev pub single : Answer → Option Operand
single (value c t v) = operand_of c t v
single (pending p b) = Some (pending_operand p b)
single _ = None

-- an operand as a value of a type that is wanted, or what is wrong with it
pub data Passed : Type 0 where
  passed : Expr → Option Const → Passed
  refused : Flaw → List Flaw → Passed
  -- of another kind or type
  unassignable : Passed

-- a value with its type
pub data Settled : Type 0 where
  settled : Expr → Ty → Option Const → Settled
  unsettled : Flaw → List Flaw → Settled

-- ---- "Operators": untyped constants that are shifted by a count that is none, once their type is known

-- own: the shift of a constant whose type is no integer type (57)
abbrev pub shifts_at : Pending → List Flaw
shifts_at (fixed at k) = []
shifts_at (shifted at op k count) = flaw at 57 ∷ []
shifts_at (further op p count) = shifts_at p
shifts_at (signed op p) = shifts_at p
shifts_at (joined op p q) = shifts_at p ++ shifts_at q

abbrev pub unfit_at : Place → Held → List Flaw
unfit_at at (held k) = []
unfit_at at past = flaw at 32 ∷ []
unfit_at at unlike = flaw at 32 ∷ []

-- the constants that an integer type doesn't hold (32)
abbrev pub constants_past : Ty → Pending → List Flaw
constants_past u (fixed at k) = unfit_at at (constant_in u k)
constants_past u (shifted at op k count) = unfit_at at (constant_in u k)
constants_past u (further op p count) = constants_past u p
constants_past u (signed op p) = constants_past u p
constants_past u (joined op p q) = constants_past u p ++ constants_past u q

abbrev pub pending_at : Ty → Pending → Expr
pending_at t (fixed at k) = constant_at t k
pending_at t (shifted at op k count) = core.binary op t (constant_at t k) count
pending_at t (further op p count) = core.binary op t (pending_at t p) count
pending_at t (signed op p) = core.unary op t (pending_at t p)
pending_at t (joined op p q) = core.binary op t (pending_at t p) (pending_at t q)

-- ---- a value where one of a type is wanted

abbrev pub passed_pending : List Flaw → Expr → Passed
passed_pending [] c = passed c None
passed_pending (f ∷ fs) c = refused f fs

abbrev pub held_passed : Place → Ty → Held → Passed
held_passed at t (held k) = passed (constant_at t k) (Some k)
held_passed at t past = refused (flaw at 32) []
held_passed at t unlike = unassignable

abbrev pub settled_at : Place → Ty → Passed → Settled
settled_at at t (passed c v) = settled c t v
settled_at at t (refused f fs) = unsettled f fs
settled_at at t unassignable = unsettled (flaw at 61) []

-- a value of a type that goes to another, as a value of that one
abbrev pub as_type : Expr → Ty → Ty → Expr
as_type c t u = if same_type t u then c else core.convert t u c

-- an untyped boolean that is no constant, as a value of a boolean type
abbrev pub truth_at : Ty → Expr → Expr
truth_at t c = as_type c ty.bool t

-- ---- "Assignability", for types whose underlying types are no interface types
abbrev pub goes_to_channel : Ty → Ty → Bool
goes_to_channel (ty.chan dir.Both a) (ty.chan d b) = same_type a b
goes_to_channel _ _ = false

module _ (ns : List NamedTy) where
  abbrev pub goes_to : Ty → Ty → Bool
  goes_to t u =
      same_type t u
      || same_type (underlying ns t) (underlying ns u) && one_undefined t u
      || goes_to_channel (underlying ns t) (underlying ns u) && one_undefined t u

  abbrev pub pending_flaws : Ty → Pending → List Flaw
  pending_flaws t p = if is_int (underlying ns t) then constants_past (underlying ns t) p else shifts_at p

  -- ---- a value where one of a type, or of any type, is wanted

  abbrev pub pending_passed : Ty → Pending → Passed
  pending_passed t p = passed_pending (pending_flaws t p) (pending_at t p)

  abbrev pub constant_passed : Place → Ty → Const → Passed
  constant_passed at t k = held_passed at t (constant_in (underlying ns t) k)

  -- an untyped operand as one of a type, by the underlying type
  abbrev pub passed_at : Place → Ty → Operand → Passed
  passed_at at t (typed c u v) = if goes_to u t then passed (as_type c u t) v else unassignable
  passed_at at t (constant_operand k) = constant_passed at t k
  passed_at at t (truth_operand c) = if is_bool (underlying ns t) then passed (truth_at t c) None else unassignable
  passed_at at t (pending_operand p b) = pending_passed t p
  passed_at at t nil_operand = if has_nil (underlying ns t) then passed (core.zero_value t) None else unassignable

  -- where no type is wanted: an untyped value has its default type, and `nil` has none (73)
  abbrev pub settled_alone : Place → Operand → Settled
  settled_alone at (typed c t v) = settled c t v
  settled_alone at (constant_operand k) = settled_at at (default_type (basis_of k)) (constant_passed at (default_type (basis_of k)) k)
  settled_alone at (truth_operand c) = settled c ty.bool None
  settled_alone at (pending_operand p b) = settled_at at (default_type b) (pending_passed (default_type b) p)
  settled_alone at nil_operand = unsettled (flaw at 73) []

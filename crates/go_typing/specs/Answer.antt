-- What a node is typed as, and its faults.
use Rattle.std.specs.Prelude.{ℕ, List, [], ◌∷◌, Bool, true, false, ◌&&◌, Option}
use Rattle.gj_base.specs.declared.place.Place.{Place}
use Rattle.gj_base.specs.declared.kind.Op.{Op}
use Rattle.go_const.specs.declared.constant.Const.{Const}
use Rattle.go_type.specs.declared.types.Basis.{Basis}
use Rattle.go_type.specs.Tree.{Ty}
use Rattle.go_core.specs.CoreTree.{Expr, Stmt}
use Rattle.go_typing.specs.Env.{Builtin}

-- a fault: its place, its code, and the name that its text tells, if it tells one
pub record Flaw : Type 0 where
  pub place : Place
  pub code : ℕ
  pub name : List ℕ

-- Go specification (as of Go 1.17), "Operators": an untyped number that is no constant, since an untyped constant in
-- it is shifted by a count that is none. What is around it decides its type.
pub data Pending : Type 0 where
  -- an untyped constant where it stands, as an operand
  fixed : (at : Place) → Const → Pending
  -- the shift, where it and the constant stand, of an untyped constant by a count
  shifted : (at : Place) → (op : Op) → Const → (count : Expr) → Pending
  -- a further shift
  further : (op : Op) → Pending → (count : Expr) → Pending
  signed : (op : Op) → Pending → Pending
  joined : (op : Op) → Pending → Pending → Pending

-- what a node is
pub data Answer : Type 0 where
  -- A value: its core, its type, and which constant it is, if one. The type of an untyped constant is an untyped
  -- type. An untyped boolean that is no constant has a core of the type `bool`. The type of a call that gives no
  -- value or several is a tuple. `nil` has a type of its own.
  value : (core : Expr) → Ty → Option Const → Answer
  -- an untyped number whose type is pending; the basis is the one that it has if nothing decides
  pending : Pending → Basis → Answer
  type_ : Ty → Answer
  package_ : (path : List ℕ) → Answer
  built_in : Builtin → Answer
  -- `_`
  blank : Answer
  -- a call that gives no value and is a statement of its own
  does : Stmt → Answer
  -- faulty
  wrong : Flaw → List Flaw → Answer
  -- a part is faulty or isn't typed; no fault of its own
  untyped_part : Answer

abbrev pub flaw : Place → ℕ → Flaw
flaw at code = record { place = at; code = code; name = [] }

abbrev pub bad : Place → ℕ → Answer
bad at code = wrong (flaw at code) []

-- with the name that is told
abbrev pub bad_name : Place → ℕ → List ℕ → Answer
bad_name at code name = wrong (record { place = at; code = code; name = name }) []

-- the faults, or what is if there is none
abbrev pub unless : List Flaw → Answer → Answer
unless [] a = a
unless (f ∷ fs) a = wrong f fs

-- the node's own faults
abbrev pub own : Answer → List Flaw
own (wrong f fs) = f ∷ fs
own _ = []

-- typed
abbrev pub is_known : Answer → Bool
is_known (wrong f fs) = false
is_known untyped_part = false
is_known _ = true

-- a part of a node: where it stands, and what it is
pub record Part : Type 0 where
  pub place : Place
  pub answer : Answer

abbrev pub all_known : List Part → Bool
all_known [] = true
all_known (p ∷ ps) = is_known p.answer && all_known ps

-- the answer where each part is typed
abbrev pub where_known : Bool → Answer → Answer
where_known true a = a
where_known false a = untyped_part

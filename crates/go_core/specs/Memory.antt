-- Go specification (as of Go 1.17), "Variables", "Types", "The zero value": storage. One list of places that
-- only grows; a place holds one scalar. A variable is a base with its type's places after it.
use Rattle.std.specs.Prelude.{ℕ, suc, ℤ, pos, List, [], ◌∷◌, ◌++◌, Bool, false, length, take, drop, slice_set}
use Rattle.go_type.specs.Tree.{Ty}
use Rattle.go_core.specs.Layout.{ScalarKind, a_truth, a_number, a_text, Shape, one, many, Parts, no_parts, part}

mutual
  pub data Scalar : Type 0 where
    truth : (value : Bool) → Scalar
    whole : (value : ℤ) → Scalar
    text : (bytes : List ℕ) → Scalar
    nil : Scalar
    pointer : (base : ℕ) → Scalar
    slice : (base length capacity : ℕ) → Scalar
    -- a function with the bases of the variables that it captured
    function : (func : ℕ) (bases : List ℕ) → Scalar
    -- a method by the place of its row, with a copy of its receiver
    bound_method : (row : ℕ) (receiver : Scalars) → Scalar
    -- an interface value: the type of what it holds, and that
    interface : (type_ : Ty) (content : Scalars) → Scalar
    map : (name : ℕ) → Scalar
    channel : (name : ℕ) → Scalar

  pub data Scalars : Type 0 where
    no_scalars : Scalars
    scalar : (first : Scalar) (others : Scalars) → Scalars

-- what an expression gives: the scalars of its type. A place is given as the pointer to it.
abbrev pub Value : Type 0
Value = List Scalar

abbrev pub listed : Scalars → Value
listed no_scalars = []
listed (scalar x xs) = x ∷ listed xs

abbrev pub packed : Value → Scalars
packed [] = no_scalars
packed (x ∷ xs) = scalar x (packed xs)

-- an entry of a map, with its birth
pub record Entry : Type 0 where
  pub key : Value
  pub value : Value
  pub birth : ℕ

-- a map: its entries in the order of their births, and the next birth
pub record MapState : Type 0 where
  pub entries : List Entry
  pub next_birth : ℕ

pub record Channel : Type 0 where
  pub capacity : ℕ
  -- the values sent and not yet received, the front first
  pub values : List Value
  pub closed : Bool

pub record Memory : Type 0 where
  pub cells : List Scalar
  pub maps : List MapState
  pub channels : List Channel

-- "The zero value"
abbrev pub zero_scalar : ScalarKind → Scalar
zero_scalar a_truth = truth false
zero_scalar (a_number kind) = whole (pos 0)
zero_scalar a_text = text []
zero_scalar _ = nil

abbrev pub padded : Value → Value
padded [] = nil ∷ []
padded (x ∷ xs) = x ∷ xs

abbrev mutual
  pub zeros : Shape → Value
  zeros (one kind) = zero_scalar kind ∷ []
  zeros (many ps) = padded (parts_zeros ps)

  pub parts_zeros : Parts → Value
  parts_zeros no_parts = []
  parts_zeros (part compared s ps) = zeros s ++ parts_zeros ps

-- so many scalars from a base on
abbrev pub read_cells : ℕ → ℕ → List Scalar → Value
read_cells base count cells = take count (drop base cells)

-- scalars are written in place
abbrev pub written : List Scalar → ℕ → Value → List Scalar
written cells base [] = cells
written cells base (x ∷ xs) = written (slice_set cells base x) (suc base) xs

abbrev pub with_written : Memory → ℕ → Value → Memory
with_written m base xs = record m { cells = written m.cells base xs }

-- the base of the next variable
abbrev pub next_base : Memory → ℕ
next_base m = length m.cells

-- a fresh variable with this value
abbrev pub with_fresh : Memory → Value → Memory
with_fresh m xs = record m { cells = m.cells ++ xs }

abbrev pub with_map : Memory → MapState → Memory
with_map m state = record m { maps = m.maps ++ state ∷ [] }

abbrev pub with_channel : Memory → Channel → Memory
with_channel m state = record m { channels = m.channels ++ state ∷ [] }

abbrev pub set_map : Memory → ℕ → MapState → Memory
set_map m name state = record m { maps = slice_set m.maps name state }

abbrev pub set_channel : Memory → ℕ → Channel → Memory
set_channel m name state = record m { channels = slice_set m.channels name state }

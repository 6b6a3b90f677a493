-- What a name on the left of `:=` is, in code.
use Rattle.std.specs.Prelude.{ℕ, ◌<◌, List, [], ◌∷◌, Bool, true, false, ◌&&◌, Option, Some, None, map, if◌then◌else◌}
use Rattle.std.specs.List.{AllByRecursion}
use Rattle.go_syntax.specs.Tree as t
use Rattle.go_syntax.specs.declared.tree.Name.{Name}
use Rattle.go_type.specs.Tree.{Ty}
use Rattle.go_typing.specs.Walk.{Walk}
use Rattle.go_typing.specs.Assign.{Left, left_of, is_left, Fresh, new_name, old_name, blank_name, no_name, fresh_of}
use Rattle.go_assign.specs.LeftView.{left_view, LeftBelow}
use Rattle.go_define.specs.declared.define.fresh.Fresh as code
use Rattle.go_define.specs.declared.define.fresh.Fresh.TheVariants as fresh
use Rattle.go_define.specs.declared.define.fresh.Freshes.{Freshes}

-- a new name, a name that the scope has, as a left side, `_`, or what is no name
pub data Spot : Type 0 where
  new_spot : Name → Spot
  old_spot : Left → Spot
  blank_spot : Spot
  other_spot : Spot

abbrev pub spot_by : Walk → Fresh → Spot
spot_by w (new_name n) = new_spot n
spot_by w (old_name e) = old_spot (left_of w e)
spot_by w blank_name = blank_spot
spot_by w (no_name p) = other_spot

abbrev pub spot_of : Walk → t.Expr → Spot
spot_of w x = spot_by w (fresh_of w x)

abbrev pub spots_of : Walk → List t.Expr → List Spot
spots_of w xs = map (spot_of w) xs

-- ---- in code

abbrev pub fresh_view : List Ty → code.Fresh → Spot
fresh_view ts (fresh.New n) = new_spot n
fresh_view ts (fresh.Old l) = old_spot (left_view ts l)
fresh_view ts fresh.Blank = blank_spot
fresh_view ts fresh.Other = other_spot

-- in order, where the last one is held first
abbrev pub fresh_after : List Ty → List code.Fresh → List Spot → List Spot
fresh_after ts [] after = after
fresh_after ts (f ∷ fs) after = fresh_after ts fs (fresh_view ts f ∷ after)

abbrev pub freshes_view : List Ty → Freshes → List Spot
freshes_view ts fs = fresh_after ts fs.items.items []

abbrev pub FreshBelow : ℕ → code.Fresh → Type 0
FreshBelow n (fresh.Old l) = LeftBelow n l
FreshBelow n _ = Unit {0}

abbrev pub FreshesBelow : ℕ → Freshes → Type 0
FreshesBelow n fs = AllByRecursion (FreshBelow n) fs.items.items

-- a name without parentheses
abbrev pub plain_name : t.Expr → Option (List ℕ)
plain_name (t.NameExpr at x) = Some x
plain_name _ = None

-- own: what is no name has its own fault
abbrev pub is_new_spot : Spot → Bool
is_new_spot (new_spot n) = true
is_new_spot other_spot = true
is_new_spot _ = false

abbrev pub any_new_spot : List Spot → Bool
any_new_spot [] = false
any_new_spot (s ∷ ss) = if is_new_spot s then true else any_new_spot ss

-- typed where it declares a name, or can be assigned
abbrev pub spot_typed : Spot → Bool
spot_typed (old_spot l) = is_left l
spot_typed other_spot = false
spot_typed _ = true

abbrev pub spots_typed : List Spot → Bool
spots_typed [] = true
spots_typed (s ∷ ss) = spot_typed s && spots_typed ss

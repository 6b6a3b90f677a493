-- Own: what a part of a statement does to the walk, in code.
use Rattle.std.specs.Prelude.{◌≡◌, ◌≤◌, List}
use Rattle.go_type.specs.Tree.{Ty}
use Rattle.go_type.specs.Table.{size, KeepsTrees}
use Rattle.go_operands.specs.EnvView.{table_of}
use Rattle.go_typing.specs.Walk as go
use Rattle.go_expr.specs.Raw.{Grows}
use Rattle.go_walk.specs.WalkView.{walk_of, depth, Keeps}
use Rattle.go_walk.specs.declared.walk.walk.Walk.{Walk}

-- the walk goes on as f says, over each list of trees that has those of the table; open blocks and types stay
pub record Moves (f : go.Walk → go.Walk) (old new : Walk) : Type 0 where
  pub walk : (ts : List Ty) → Keeps (table_of new.env) ts → walk_of ts new ≡ f (walk_of ts old)
  pub depth : depth new ≡ depth old
  pub kept : KeepsTrees (table_of old.env) (table_of new.env)
  pub counts : size (table_of old.env) ≤ size (table_of new.env)

-- it stays as it is, but for more types
pub record Stays (old new : Walk) : Type 0 where
  pub grows : Grows old.env new.env
  pub walk : (ts : List Ty) → walk_of ts new ≡ walk_of ts old

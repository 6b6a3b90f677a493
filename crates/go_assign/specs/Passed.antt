-- Own: a walk that goes on in an environment that may have more types.
use Rattle.std.specs.Prelude.{◌≡◌, ◌≤◌, List}
use Rattle.go_type.specs.Tree.{Ty}
use Rattle.go_type.specs.Table.{size, KeepsTrees}
use Rattle.go_operands.specs.EnvView.{table_of, env_of}
use Rattle.go_typing.specs.Walk as go
use Rattle.go_walk.specs.WalkView.{walk_of}
use Rattle.go_walk.specs.declared.walk.walk.Walk.{Walk}

-- what expressions that are typed and used make of the walk; what is declared stays, and so does each type
pub record Passes (f : go.Walk → go.Walk) (old new : Walk) : Type 0 where
  pub walk : (ts : List Ty) → walk_of ts new ≡ f (walk_of ts old)
  pub env : env_of new.env ≡ env_of old.env
  pub kept : KeepsTrees (table_of old.env) (table_of new.env)
  pub counts : size (table_of old.env) ≤ size (table_of new.env)

-- what is only typed
abbrev pub stays : go.Walk → go.Walk
stays w = w

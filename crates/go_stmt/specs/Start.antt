-- Own: what a walk needs where a function of a package begins.
use Rattle.std.specs.Prelude.{◌≡◌}
use Rattle.go_typing.specs.Scopes.{visible}
use Rattle.go_operands.specs.EnvView.{table_of, env_of}
use Rattle.go_typing.specs.Walk as go
use Rattle.go_walk.specs.declared.walk.walk.Walk.{Walk}
use Rattle.go_body.specs.Plain.{IsPlain}
use Rattle.go_decls.specs.HeadView.{IsReady}
use Rattle.go_decls.specs.declared.heads.head.Head.{Head}

-- the package's scope alone is open, the function's types are in the table, and no constant specification is typed
pub record CanStart (walk : Walk) (h : Head) : Type 0 where
  pub outside : go.Walk
  pub ready : IsReady (table_of walk.env) outside h
  pub scopes : visible (env_of walk.env) ≡ outside.scopes
  pub plain : IsPlain (visible (env_of walk.env))

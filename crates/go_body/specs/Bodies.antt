-- Own: what a walk needs where a statement begins.
use Rattle.std.specs.Prelude.{◌<◌}
use Rattle.go_type.specs.Table.{size}
use Rattle.go_operands.specs.EnvView.{table_of}
use Rattle.go_calls.specs.Words.{scopes_of}
use Rattle.go_walk.specs.WalkView.{depth}
use Rattle.go_walk.specs.declared.walk.walk.Walk.{Walk}
use Rattle.go_body.specs.Plain.{IsPlain}
use Rattle.go_define.specs.AroundView.{ResultsBelow}
use Rattle.go_define.specs.declared.simple.around.Around.{Around}

-- a block is open, no constant specification is typed, and the results are types of the table
pub record Ready (a : Around) (w : Walk) : Type 0 where
  pub depth : 0 < depth w
  pub plain : IsPlain (scopes_of w.env)
  pub results : ResultsBelow (size (table_of w.env)) a.results

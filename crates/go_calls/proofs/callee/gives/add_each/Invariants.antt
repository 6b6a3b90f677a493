use Rattle.std.proofs.Common.{◌≡◌, ◌≤◌, take}
use Rattle.go_type.specs.Table.{size, name_count, KeepsTrees}
use Rattle.go_operands.specs.EnvView.{table_of, env_of, KeepsLiterals}
use Rattle.go_calls.specs.Called.{texts}
use Rattle.go_calls.specs.Words.{scopes_of}
use Rattle.go_calls.specs.ResultTypes.{AreRight, AreGiven}
use Rattle.go_calls.proofs.callee.gives.add_each.Given as goal

-- the names so far have their types
abbrev pub invariant-loop-name : goal.invariant-loop-name
invariant-loop-name l = record {
  right : AreRight (scopes_of l.env) (table_of l.env) l.gives;
  given : AreGiven (scopes_of l.env) l.gives (texts (take l.name-index l.names));
  env : env_of l.env ≡ env_of l.fn.env;
  kept : KeepsTrees (table_of l.fn.env) (table_of l.env);
  size : size (table_of l.fn.env) ≤ size (table_of l.env);
  count : name_count (table_of l.env) ≡ name_count (table_of l.fn.env);
  literals : KeepsLiterals l.fn.env l.env;
}

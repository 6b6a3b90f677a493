use Rattle.std.proofs.Common.{◌+◌, ◌≤◌, List, [], true, length, drop, map}
use Rattle.std.specs.Prelude.{if◌then◌else◌}
use Rattle.go_syntax.specs.Tree as t
use Rattle.go_items.specs.ItemView.{item_view}
use Rattle.go_operands.specs.EnvView.{env_of}
use Rattle.go_decls.specs.State.{Named, Passed}
use Rattle.go_decls.proofs.known.pass.pass.Given as goal

abbrev pub invariant-loop-n : goal.invariant-loop-n
invariant-loop-n l = record {
  value : (ds : List t.Decl) → Named ds (map item_view l.items) l.numbers → Passed (map item_view l.items) l.todo [] true (env_of l.initial.env)
      → Passed (map item_view l.items) l.left.numbers.items (drop l.n-index l.todo) l.left.changed (env_of l.env);
  count : length l.left.numbers.items + (if l.left.changed then 1 else 0) ≤ l.n-index;
}

use Rattle.std.proofs.Common.{List, [], true, length, map}
use Rattle.go_syntax.specs.Tree as t
use Rattle.go_items.specs.ItemView.{item_view}
use Rattle.go_operands.specs.EnvView.{env_of}
use Rattle.go_decls.specs.State.{Named, Passed}
use Rattle.go_decls.proofs.known.names.settle_all.Given as goal

-- those that are left
abbrev pub invariant-passes : goal.invariant-passes
invariant-passes l =
    (ds : List t.Decl) → Named ds (map item_view l.items) l.numbers → Passed (map item_view l.items) l.fn.nodes.items [] true (env_of l.initial.env) → Passed (map item_view l.items) l.todo.items [] true (env_of l.env)

abbrev pub decreases-passes : goal.decreases-passes
decreases-passes l = length l.todo.items

use Rattle.std.proofs.Common.{◌≡◌, drop}
use Rattle.go_graph.specs.Search.{visit_all}
use Rattle.go_graph.proofs.plain.visit_each.Given as goal

abbrev pub invariant-loop-target : goal.invariant-loop-target
invariant-loop-target l = visit_all (drop l.target-index l.list) l.marks.items l.queue.items ≡ visit_all l.list l.fn.marks.items l.fn.queue.items

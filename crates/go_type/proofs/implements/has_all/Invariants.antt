use Rattle.std.proofs.Common.{length}
use Rattle.std.specs.Prelude.{◌↔◌}
use Rattle.go_type.specs.Levels.{tree_of, specs_of, SpecsBelow}
use Rattle.go_type.specs.Table.{places, names, size}
use Rattle.go_type.specs.MethodSet.{Has}
use Rattle.go_type.proofs.implements.has_all.Given as goal

abbrev pub invariant-specs : goal.invariant-specs
invariant-specs l = record {
  rest : Has (names l.table) (tree_of (places l.table) l.t) (specs_of (places l.table) l.rest) ↔ Has (names l.table) (tree_of (places l.table) l.t) (specs_of (places l.table) l.specs);
  below : SpecsBelow (size l.table) l.rest;
}

abbrev pub decreases-specs : goal.decreases-specs
decreases-specs l = length l.rest

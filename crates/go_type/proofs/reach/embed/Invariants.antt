use Rattle.std.proofs.Common.{length}
use Rattle.go_type.specs.Levels.{fields_of, FieldsBelow}
use Rattle.go_type.specs.Table.{places, size}
use Rattle.go_type.specs.Chains.{bases_of}
use Rattle.go_type.specs.Reached.{AreIds, Extends}
use Rattle.go_type.proofs.ReachLemmas.{SoFar}
use Rattle.go_type.proofs.reach.embed.Given as goal

abbrev pub invariant-fields : goal.invariant-fields
invariant-fields l = record {
  reached : SoFar (places l.table) l.ids.keys (bases_of (fields_of (places l.table) l.rest)) (bases_of (fields_of (places l.table) l.fields));
  more : Extends l.fn.ids.keys l.ids.keys;
  ids : AreIds (size l.table) l.ids.keys;
  below : FieldsBelow (size l.table) l.rest;
}

abbrev pub decreases-fields : goal.decreases-fields
decreases-fields l = length l.rest

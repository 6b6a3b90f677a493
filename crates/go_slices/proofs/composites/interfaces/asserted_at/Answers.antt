use Rattle.std.proofs.Common.{subst}
use Rattle.go_type.specs.declared.table.TypeTable.{TypeTable}
use Rattle.go_type.specs.Levels.{tree_of}
use Rattle.go_type.specs.Table.{places, names}
use Rattle.go_core.specs.CoreView.{program_view}
use Rattle.go_values.specs.ValuesSeen.{value_of}
use Rattle.go_values.specs.OperatorsSeen.{Does}
use Rattle.go_values.proofs.Steps.{goes}
use Rattle.go_slices.specs.CompositesFound.{asserted_else}
use Rattle.go_slices.proofs.LevelLemmas.{asserted_level}
use Rattle.go_slices.proofs.composites.interfaces.asserted_at.Goals as goal

pub returns-in_default : goal.returns-in_default
returns-in_default c =
    let ts = places c.args.p.now.types in
    record {
      value = λ m.
          goes ts m c.asserted_type.result _ _
          (asserted_level (program_view c.args.p.now) (tree_of ts c.args.to) c.args.ok (tree_of ts c.args.t) (value_of ts c.args.content.now) m ts c.args.g.now c.in_default.not-Interface)
          (subst (λ (u : TypeTable). Does (places u) m c.asserted_type.result (asserted_else (names u) (tree_of (places u) c.args.to) c.args.ok (tree_of (places u) c.args.t) (value_of (places u) c.args.content.now) m)) c.requires (c.asserted_type.ensures.value m));
    }

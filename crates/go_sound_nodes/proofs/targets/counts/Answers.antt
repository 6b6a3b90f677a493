use Rattle.std.proofs.Common.{◌∙◌, ap, length, List}
use Rattle.std.proofs.lemmas.Bool.{eqb-true}
use Rattle.go_type.specs.Tree.{Ty}
use Rattle.go_type.specs.Table.{places}
use Rattle.go_sound_parts.specs.Given.{given_of}
use Rattle.go_sound_nodes.proofs.TargetLemmas.{count_listed}
use Rattle.go_sound_nodes.proofs.targets.counts.Goals as goal

pub returns-in-Results : goal.returns-in-Results
returns-in-Results c = record {
  is = λ h.
      let ts = places c.args.table.now in
      ap (λ (us : List Ty). length us) (c.in-Some.ensures.is ∙ ap (given_of ts) c.in-Results.is) ∙ count_listed ts c.in-Results.types.now ∙ eqb-true _ _ h;
}

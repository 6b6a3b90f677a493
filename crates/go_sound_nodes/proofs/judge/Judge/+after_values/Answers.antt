use Rattle.std.proofs.Common.{sym, subst}
use Rattle.std.proofs.lemmas.Option.{IfSome_then}
use Rattle.std.specs.Prelude.{List, ◌++◌, map}
use Rattle.go_type.specs.Levels.{trees_of}
use Rattle.go_type.specs.declared.types.TypeId.{TypeId}
use Rattle.go_core.specs.CoreView.{target_view}
use Rattle.go_core.specs.TypeOf.{listed_types}
use Rattle.go_core.specs.Sound.{SoundTargets}
use Rattle.go_sound_nodes.specs.Around.{around, program_in, trees_in}
use Rattle.go_sound_nodes.proofs.judge.Judge.+after_values.Goals as goal

pub returns-in-Some-after_value : goal.returns-in-Some-after_value
returns-in-Some-after_value t c = record {
  is = λ known.
      let j = c.args.self.now in
      let ts = trees_in j in
      IfSome_then c.after_values.result (c.after_values.ensures.is known)
      (λ rest f us h.
      subst (λ (xs : List TypeId). SoundTargets (program_in j) (around j c.args.round.now) (map (target_view ts) c.args.targets.now) (listed_types (trees_of ts xs) ++ us)) (sym c.in-Some.ensures.cases.0)
      (c.in-Some-after_value.ensures.is known (listed_types (trees_of ts c.in-Some.others.now) ++ us) (f us h)));
}

use Rattle.std.proofs.Common.{sym, subst}
use Rattle.std.proofs.lemmas.Option.{IfSome_then}
use Rattle.std.specs.Prelude.{List, ◌∷◌, ◌++◌, IfSome, map}
use Rattle.go_type.specs.Tree as ty
use Rattle.go_type.specs.Tree.{Ty}
use Rattle.go_core.specs.CoreView.{target_view}
use Rattle.go_core.specs.Sound.{SoundTargets}
use Rattle.go_sound_parts.specs.Given.{given_of}
use Rattle.go_sound_parts.specs.declared.given.Given.{Given}
use Rattle.go_sound_nodes.specs.Around.{around, program_in, trees_in}
use Rattle.go_sound_nodes.proofs.judge.Judge.after_given.Goals as goal

pub returns-in-One : goal.returns-in-One
returns-in-One c = record {
  is = λ known.
      let j = c.args.self.now in
      let ts = trees_in j in
      subst (λ (g : Given). IfSome c.after_value.result (λ rest. (us : List Ty) → SoundTargets (program_in j) (around j c.args.round.now) (map (target_view ts) rest.now) us → SoundTargets (program_in j) (around j c.args.round.now) (map (target_view ts) c.args.targets.now) (given_of ts g ++ us)))
      (sym c.in-One.is) (c.after_value.ensures.is known);
}

pub returns-in-Some : goal.returns-in-Some
returns-in-Some c = record {
  is = λ known.
      let j = c.args.self.now in
      let ts = trees_in j in
      IfSome_then c.after_value-in-Some.result (c.after_value-in-Some.ensures.is known)
      (λ rest f us h.
      subst (λ (g : Given). SoundTargets (program_in j) (around j c.args.round.now) (map (target_view ts) c.args.targets.now) (given_of ts g ++ us)) (sym c.in-WithTruth.is)
      (c.in-Some.ensures.is known (ty.bool ∷ us) (f us h)));
}

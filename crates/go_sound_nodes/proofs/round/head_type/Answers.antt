use Rattle.std.proofs.Common.{◌∙◌, ap, map}
use Rattle.std.specs.Prelude.{Option}
use Rattle.go_type.specs.Tree.{Ty}
use Rattle.go_core.specs.CoreView.{var_of}
use Rattle.go_core.specs.TypeOf.{var_type}
use Rattle.go_sound_nodes.specs.Around.{or_type}
use Rattle.go_sound_nodes.proofs.RoundLemmas.{type_append}
use Rattle.go_sound_nodes.proofs.round.head_type.Goals as goal

pub returns-in-Some : goal.returns-in-Some
returns-in-Some c = record {
  is = λ ts.
      ap (λ (o : Option Ty). or_type o (var_type c.args.v.0 (map (var_of ts) c.args.captured.now))) (c.in-Some.ensures.is ts)
      ∙ type_append c.args.v.0 (map (var_of ts) c.args.vars.now) (map (var_of ts) c.args.captured.now);
}

pub returns-in-None : goal.returns-in-None
returns-in-None c = record {
  is = λ ts.
      c.first_type-in-None.ensures.is ts
      ∙ ap (λ (o : Option Ty). or_type o (var_type c.args.v.0 (map (var_of ts) c.args.captured.now))) (c.in-None.ensures.is ts)
      ∙ type_append c.args.v.0 (map (var_of ts) c.args.vars.now) (map (var_of ts) c.args.captured.now);
}

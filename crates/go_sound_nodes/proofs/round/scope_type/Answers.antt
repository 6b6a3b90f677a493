use Rattle.std.proofs.Common.{◌∙◌, ap, map}
use Rattle.std.specs.Prelude.{Option}
use Rattle.go_type.specs.Tree.{Ty}
use Rattle.go_core.specs.CoreView.{var_of}
use Rattle.go_sound_parts.specs.Lists.{last_type}
use Rattle.go_sound_nodes.proofs.RoundLemmas.{type_onto}
use Rattle.go_sound_nodes.proofs.round.scope_type.Goals as goal

pub returns : goal.returns
returns c = record {
  is = λ ts ys h.
      c.last_type.ensures.is ts
      ∙ ap (λ (o : Option Ty). last_type c.args.v.0 (map (var_of ts) c.args.vars.now) o) h
      ∙ type_onto c.args.v.0 (map (var_of ts) c.args.vars.now) ys;
}

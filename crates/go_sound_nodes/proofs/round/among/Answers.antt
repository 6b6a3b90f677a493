use Rattle.std.proofs.Common.{◌∙◌, sym, map}
use Rattle.go_core.specs.CoreView.{var_of}
use Rattle.go_sound_nodes.specs.Around.{around, trees_in}
use Rattle.go_sound_nodes.proofs.RoundLemmas.{all_onto}
use Rattle.go_sound_nodes.proofs.round.among.Goals as goal

pub returns : goal.returns
returns c = record { is = λ j. c.with_vars.ensures.is j ∙ sym (all_onto (map (var_of (trees_in j)) c.args.vars.now) (around j c.args.round.now)) }

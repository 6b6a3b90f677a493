use Rattle.go_core.specs.CoreView.{var_of}
use Rattle.go_sound_nodes.specs.Around.{trees_in}
use Rattle.go_sound_parts.proofs.SpecLemmas.{got_there}
use Rattle.go_sound_nodes.proofs.judge.Judge.may_declare.Goals as goal

pub returns-in-Some : goal.returns-in-Some
returns-in-Some c = record {
  is = λ h.
      let ts = trees_in c.args.self.now in
      got_there (var_of ts) c.args.self.now.declarable.now c.in-Some.ensures.is.0 c.in-Some.w.now (var_of ts c.args.v) c.in-Some.ensures.is.1 (c.is_var.ensures.is h ts);
}

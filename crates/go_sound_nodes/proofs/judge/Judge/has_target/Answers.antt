use Rattle.go_sound_nodes.proofs.judge.Judge.has_target.Goals as goal

pub returns : goal.returns
returns c = record { is = λ h. c.has_target.ensures.is h c.args.self.now }

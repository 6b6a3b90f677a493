use Rattle.go_sound_nodes.proofs.judge.Judge.is_new.Goals as goal

pub returns : goal.returns
returns c = record { is = λ h. c.is_new.ensures.is h c.args.self.now }

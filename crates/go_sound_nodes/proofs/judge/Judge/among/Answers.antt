use Rattle.go_sound_nodes.proofs.judge.Judge.among.Goals as goal

pub returns : goal.returns
returns c = record { is = c.among.ensures.is c.args.self.now }

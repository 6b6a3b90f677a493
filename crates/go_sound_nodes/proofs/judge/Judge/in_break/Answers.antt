use Rattle.go_sound_nodes.proofs.judge.Judge.in_break.Goals as goal

pub returns : goal.returns
returns c = record { is = c.in_break.ensures.is c.args.self.now }

use Rattle.go_sound_nodes.proofs.judge.Judge.in_loop.Goals as goal

pub returns : goal.returns
returns c = record { is = c.in_loop.ensures.is c.args.self.now }

use Rattle.go_calls.proofs.callee.gives.add.Goals as goal

pub returns-in-None-clause-given : goal.returns-in-None-clause-given
returns-in-None-clause-given c = c.in_ok-results.ensures.none c.in-None.is c.args.gives.now

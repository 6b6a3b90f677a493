use Rattle.go_laws.proofs.RunsTake as run
use Rattle.go_laws.proofs.laws.runs.Goals as goal

pub returns : goal.returns
returns c = record { numbers = run.runs_take; first = run.runs_take_the_first; decide = run.the_first_decide }

use Rattle.go_laws.proofs.RunsTake as run
use Rattle.go_laws.proofs.laws.steps.Goals as goal

pub returns : goal.returns
returns c = record { count = run.steps_count; chosen = run.next_chooses; others = run.others_dont; nothing_else = run.nothing_else }

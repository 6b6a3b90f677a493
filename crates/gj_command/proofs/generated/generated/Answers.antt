use Rattle.gj_command.proofs.CommandLemmas.{told_is_no_usage}
use Rattle.gj_command.proofs.generated.generated.Goals as goal

pub run_generated-requires : goal.run_generated-requires
run_generated-requires g c = c.requires

pub returns-in-Ok : goal.returns-in-Ok
returns-in-Ok g c = c.run_generated.ensures

pub refuse-requires : goal.refuse-requires
refuse-requires g c = c.in-Err.ensures

pub returns-in-Err : goal.returns-in-Err
returns-in-Err g c = (c.refuse.ensures.0, told_is_no_usage c.in-Err.refused c.refuse.result c.refuse.ensures.0 c.refuse.ensures.1, c.refuse.ensures.2)

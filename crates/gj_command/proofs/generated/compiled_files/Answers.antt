use Rattle.gj_command.proofs.BuildLemmas.{err_can_be_told}
use Rattle.gj_command.proofs.generated.compiled_files.Goals as goal

pub returns : goal.returns
returns c = err_can_be_told c.compile.result _ _ _ c.compile.ensures

-- What can be told of a folder that has no script.
use Rattle.std.proofs.Common.{List, ℕ}
use Rattle.gj_base.specs.Files.{FilesState}
use Rattle.std.specs.Prelude.{Result, Ok, Err}
use Rattle.js_tree.specs.declared.tree.Script.{Script}
use Rattle.gj_compile.specs.Answers.{Compiles, IsRefused}
use Rattle.gj_compile.specs.declared.refused.Refused.{Refused}
use Rattle.gj_compile.specs.declared.refused.Refused.TheVariants as refused
use Rattle.gj_command.specs.Refusals.{CanBeTold, ErrCanBeTold}
use Rattle.gj_command.proofs.PlaceLemmas.{short}

pub can_be_told : (r : Refused) (folder : List ℕ) (old new : FilesState) → IsRefused r folder old new → CanBeTold r
can_be_told (refused.Fault fault entries) folder old new why = short entries why.2.own
can_be_told (refused.Beyond fault entries) folder old new why = tt
can_be_told refused.ReadFault folder old new why = tt
can_be_told refused.NoMemory folder old new why = tt
can_be_told refused.Internal folder old new why = tt

-- why a folder has no script can be told
pub err_can_be_told : (r : Result Script Refused) (folder : List ℕ) (old new : FilesState) → Compiles r folder old new → ErrCanBeTold r
err_can_be_told (Ok script) folder old new comes = tt
err_can_be_told (Err refused) folder old new why = can_be_told refused folder old new why

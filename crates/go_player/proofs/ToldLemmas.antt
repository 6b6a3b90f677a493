-- What can be told of a folder that has no program.
use Rattle.std.proofs.Common.{◌≤◌, ℕ, List, [], ◌∷◌, length}
use Rattle.std.specs.Prelude.{All}
use Rattle.std.specs.List.{AllByRecursion}
use Rattle.std.proofs.lemmas.List.Elements.{All-from_recursion, recursion_from_All}
use Rattle.gj_base.specs.Files.{FilesState}
use Rattle.go_load.specs.Root.{file_limit, IsOfRoot}
use Rattle.go_load.specs.declared.sources.FileEntry.{FileEntry}
use Rattle.gj_compile.specs.Answers.{IsRefused}
use Rattle.gj_compile.specs.declared.refused.Refused.{Refused}
use Rattle.gj_compile.specs.declared.refused.Refused.TheVariants as refused
use Rattle.gj_command.specs.Refusals.{CanBeTold}

short : (es : List FileEntry) → AllByRecursion IsOfRoot es → AllByRecursion (λ e. length e.bytes ≤ file_limit) es
short [] own = tt
short (e ∷ es) own = (own.0.short, short es own.1)

pub can_be_told : (r : Refused) (folder : List ℕ) (old new : FilesState) → IsRefused r folder old new → CanBeTold r
can_be_told (refused.Fault fault entries) folder old new why =
    All-from_recursion (λ (e : FileEntry). length e.bytes ≤ file_limit) entries (short entries (recursion_from_All IsOfRoot entries why.2.own))
can_be_told (refused.Beyond fault entries) folder old new why = tt
can_be_told refused.ReadFault folder old new why = tt
can_be_told refused.NoMemory folder old new why = tt
can_be_told refused.Internal folder old new why = tt

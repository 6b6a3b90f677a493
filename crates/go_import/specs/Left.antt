-- What a load leaves of the files.
use Rattle.std.specs.Prelude.{◌≡◌, ◌⊎◌, Result, Ok, Err}
use Rattle.gj_base.specs.Files.{FilesState, ReadFailed}
use Rattle.go_load.specs.declared.packages.LoadRefusal.{LoadRefusal}
use Rattle.go_load.specs.declared.packages.LoadRefusal.TheVariants as refusal

-- the files are as they were, but for a read that failed
abbrev pub Leaves : {A : Type 0} → Result A LoadRefusal → FilesState → FilesState → Type 0
Leaves (Ok _) old new = new ≡ old
Leaves (Err (refusal.Fault fault entries)) old new = new ≡ old
Leaves (Err refusal.ReadFault) old new = ReadFailed old new ⊎ (new ≡ old)
Leaves (Err refusal.NoMemory) old new = new ≡ old

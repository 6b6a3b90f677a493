-- What a load answers, and what it leaves of the files.
use Rattle.std.specs.Prelude.{◌≡◌, ◌⊎◌, ◌<◌, ℕ, true, false, List, [], ◌∷◌, Option, IfSome, Result, Ok, Err, codes, length}
use Rattle.gj_base.specs.Files.{FilesState, ReadFailed}
use Rattle.gj_base.specs.declared.fault.Fault.{Fault}
use Rattle.go_load.specs.GoFiles.{AreGoFiles}
use Rattle.go_load.specs.Root.{is_too_large, IsRead}
use Rattle.go_load.specs.Readings.{Reading, AreReadings, trees_of, AreTrees}
use Rattle.go_load.specs.Faults.{fault_in, stage_faults, IsLeast}
use Rattle.go_load.specs.Packages.{paths_view}
use Rattle.go_load.specs.declared.sources.FileEntry.{FileEntry}
use Rattle.go_load.specs.declared.packages.Packages.{Packages}
use Rattle.go_load.specs.declared.packages.LoadRefusal.{LoadRefusal}
use Rattle.go_load.specs.declared.packages.LoadRefusal.TheVariants as refusal

-- F46, at the start of the root's first file
abbrev pub too_large_fault : Fault
too_large_fault = fault_in 0 0 46

-- the fault of these files: where they are too large F46 alone, else the least of the first stage that has one
pub data IsFaultOf (entries : List FileEntry) (fault : Fault) : Type 0 where
  large : is_too_large entries ≡ true → fault ≡ too_large_fault → IsFaultOf entries fault
  staged : is_too_large entries ≡ false → (readings : List Reading) → AreReadings 0 entries readings → IsLeast fault (stage_faults readings) → IsFaultOf entries fault

-- the packages of these files, which have no fault: the root, with the trees of the files
pub record ArePackages (packages : Packages) : Type 0 where
  pub small : is_too_large packages.files ≡ false
  pub readings : List Reading
  pub are : AreReadings 0 packages.files readings
  pub none : stage_faults readings ≡ []
  pub trees : AreTrees 0 packages.files (trees_of readings)
  pub root : paths_view packages.packages ≡ ([], record { name = codes "main"; files = trees_of readings }) ∷ []

-- a read failed, or the root has no `.go` file
abbrev pub FailsToRead : List ℕ → FilesState → FilesState → Type 0
FailsToRead folder old new = ReadFailed old new ⊎ ((new ≡ old) × IfSome old.tree (λ tree. AreGoFiles tree folder []))

abbrev pub Loads : Result Packages LoadRefusal → List ℕ → FilesState → FilesState → Type 0
Loads (Ok packages) folder old new = (new ≡ old) × (0 < length packages.files) × IsRead old.tree folder packages.files × ArePackages packages
Loads (Err (refusal.Fault fault entries)) folder old new = (new ≡ old) × (0 < length entries) × IsRead old.tree folder entries × IsFaultOf entries fault
Loads (Err refusal.ReadFault) folder old new = FailsToRead folder old new
Loads (Err refusal.NoMemory) folder old new = new ≡ old

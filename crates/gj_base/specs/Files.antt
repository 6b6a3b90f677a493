-- What a call of the files does, answer by answer.
use Rattle.std.specs.Prelude.{◌≡◌, ◌⊎◌, ◌<◌, ◌≤◌, ℕ, List, length, Option, Some, None, IfSome, Result, Ok, Err, All, Vec, option_map}
use Rattle.std.specs.declared.alloc.Global.{Global}
use Rattle.gj_base.specs.Counts.{Rose, Begins}
use Rattle.gj_base.specs.Tree.{Tree, bytes_at, with_file, IsName, HasFolder, AreNamesIn}
use Rattle.gj_base.specs.declared.files.FileError.{FileError}
use Rattle.gj_base.specs.declared.files.FileError.TheVariants as file_error
use Rattle.gj_base.specs.declared.files.StoreError.{StoreError}
use Rattle.gj_base.specs.declared.files.StoreError.TheVariants as store_error

-- what files are: a tree, where it is told, and how often a read and a store have failed
pub record FilesState : Type 0 where
  pub tree : Option Tree
  pub reading_faults : ℕ
  pub storing_faults : ℕ

-- a read failed, and nothing else changed
abbrev pub ReadFailed : FilesState → FilesState → Type 0
ReadFailed old new = Rose old.reading_faults new.reading_faults × (new.tree ≡ old.tree) × (new.storing_faults ≡ old.storing_faults)

-- the names of the files directly under a folder
abbrev pub Lists : Result (Vec (List ℕ) Global) FileError → List ℕ → FilesState → FilesState → Type 0
Lists (Ok names) folder old new = (new ≡ old) × All IsName names.items × IfSome old.tree (λ tree. AreNamesIn tree folder names.items × HasFolder tree folder)
Lists (Err file_error.Missing) folder old new = (new ≡ old) × IfSome old.tree (λ tree. HasFolder tree folder → ⊥)
Lists (Err file_error.TooLong) folder old new = ⊥
Lists (Err file_error.Failed) folder old new = ReadFailed old new
Lists (Err file_error.NoMemory) folder old new = new ≡ old

-- all bytes at a path, where they are no more than the limit
abbrev pub Reads : Result (Vec ℕ Global) FileError → List ℕ → ℕ → FilesState → FilesState → Type 0
Reads (Ok bytes) path limit old new = (new ≡ old) × (length bytes.items ≤ limit) × IfSome old.tree (λ tree. bytes_at tree path ≡ Some bytes.items)
Reads (Err file_error.Missing) path limit old new = (new ≡ old) × IfSome old.tree (λ tree. bytes_at tree path ≡ None)
Reads (Err file_error.TooLong) path limit old new = (new ≡ old) × IfSome old.tree (λ tree. IfSome (bytes_at tree path) (λ bytes. limit < length bytes))
Reads (Err file_error.Failed) path limit old new = ReadFailed old new
Reads (Err file_error.NoMemory) path limit old new = new ≡ old

-- the old bytes, or a prefix of the new ones, are at the path, and nothing else changed
abbrev pub StoredInPart : List ℕ → List ℕ → Option Tree → Option Tree → Type 0
StoredInPart path bytes old new = (new ≡ old) ⊎ ((part : List ℕ) × Begins part bytes × (new ≡ option_map (λ tree. with_file tree path part) old))

-- these bytes at this path
abbrev pub Stores : Result (Unit {0}) StoreError → List ℕ → List ℕ → FilesState → FilesState → Type 0
Stores (Ok _) path bytes old new = new ≡ record old { tree = option_map (λ tree. with_file tree path bytes) old.tree }
Stores (Err store_error.Failed) path bytes old new = Rose old.storing_faults new.storing_faults × (new.reading_faults ≡ old.reading_faults) × StoredInPart path bytes old.tree new.tree
Stores (Err store_error.NoMemory) path bytes old new = new ≡ old

-- Reading the root's files, answer by answer; only private clauses cite this file.
use Rattle.std.specs.Prelude.{◌≡◌, ◌⊎◌, ◌≤◌, ◌<◌, List, [], ℕ, Bool, true, false, Option, Some, None, IfSome, Result, Ok, Err, length}
use Rattle.gj_base.specs.Tree.{Tree, bytes_at, path_in}
use Rattle.gj_base.specs.Files.{FilesState, ReadFailed}
use Rattle.go_load.specs.Root.{file_limit, is_too_large, IsOfRoot, IsEntry, IsRead}
use Rattle.go_load.specs.declared.sources.FileEntry.{FileEntry}
use Rattle.go_load.specs.declared.gather.Gathered.{Gathered}
use Rattle.go_load.specs.declared.packages.LoadRefusal.{LoadRefusal}
use Rattle.go_load.specs.declared.packages.LoadRefusal.TheVariants.{Fault, ReadFault, NoMemory}

-- the entry of a file of the root with these bytes
abbrev pub short_entry : List ℕ → List ℕ → FileEntry
short_entry name bytes = record { path = []; name = name; bytes = bytes; embedded = false; too_long = false }

-- the entry of a file of the root past the limit
abbrev pub long_entry : List ℕ → FileEntry
long_entry name = record { path = []; name = name; bytes = []; embedded = false; too_long = true }

-- a file of the root with this name, as it was read
pub record IsFileRead (told : Option Tree) (folder name : List ℕ) (entry : FileEntry) : Type 0 where
  pub named : entry.name ≡ name
  pub own : IsOfRoot entry
  pub there : IfSome told (λ tree. IsEntry tree folder entry)

-- the file with this name; none where it is missing
abbrev pub GathersFile : Result (Option FileEntry) LoadRefusal → List ℕ → List ℕ → FilesState → FilesState → Type 0
GathersFile (Ok (Some entry)) folder name old new = (new ≡ old) × IsFileRead old.tree folder name entry
GathersFile (Ok None) folder name old new = (new ≡ old) × IfSome old.tree (λ tree. bytes_at tree (path_in folder name) ≡ None)
GathersFile (Err (Fault fault entries)) folder name old new = ⊥
GathersFile (Err ReadFault) folder name old new = ReadFailed old new
GathersFile (Err NoMemory) folder name old new = new ≡ old

-- the files of the root, as far as they are read
abbrev pub GathersAll : Result Gathered LoadRefusal → List ℕ → FilesState → FilesState → Type 0
GathersAll (Ok g) folder old new = (new ≡ old) × IsRead old.tree folder g.sources × (g.too_large ≡ is_too_large g.sources)
GathersAll (Err (Fault fault entries)) folder old new = ⊥
GathersAll (Err ReadFault) folder old new = ReadFailed old new
GathersAll (Err NoMemory) folder old new = new ≡ old

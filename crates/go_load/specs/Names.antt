-- The names of the root's files, answer by answer; only private clauses cite this file.
use Rattle.std.specs.Prelude.{◌≡◌, ◌↔◌, List, ℕ, IfSome, IsTrue, Contains, Result, Ok, Err, All, Vec}
use Rattle.std.specs.declared.alloc.Global.{Global}
use Rattle.std.specs.BTreeSet.{BTreeSet}
use Rattle.std.specs.List.Sorted.{IsStrictlySortedBy}
use Rattle.std.specs.Ordering.{nat_cmp}
use Rattle.std.specs.Cmp.Lexicographic.{slice_cmp}
use Rattle.gj_base.specs.Tree.{IsName, AreNamesIn}
use Rattle.gj_base.specs.Files.{FilesState}
use Rattle.go_load.specs.GoFiles.{is_go_name, AreGoFiles}
use Rattle.go_load.specs.Load.{FailsToRead}
use Rattle.go_load.specs.declared.packages.LoadRefusal.{LoadRefusal}
use Rattle.go_load.specs.declared.packages.LoadRefusal.TheVariants.{Fault, ReadFault, NoMemory}

-- the second list is the `.go` names of the first, in byte order
pub record SortsGoNames (names go_names : List (List ℕ)) : Type 0 where
  pub rising : IsStrictlySortedBy (slice_cmp nat_cmp) go_names
  pub chosen : (name : List ℕ) → Contains go_names name ↔ (Contains names name × IsTrue (is_go_name name))

-- the names of the files in a folder
abbrev pub ListsFolder : Result (Vec (List ℕ) Global) LoadRefusal → List ℕ → FilesState → FilesState → Type 0
ListsFolder (Ok names) folder old new = (new ≡ old) × All IsName names.items × IfSome old.tree (λ tree. AreNamesIn tree folder names.items)
ListsFolder (Err (Fault fault entries)) folder old new = ⊥
ListsFolder (Err ReadFault) folder old new = FailsToRead folder old new
ListsFolder (Err NoMemory) folder old new = new ≡ old

-- the names of the `.go` files in a folder
abbrev pub ListsRoot : Result (BTreeSet (List ℕ)) LoadRefusal → List ℕ → FilesState → FilesState → Type 0
ListsRoot (Ok names) folder old new = (new ≡ old) × All IsName names.keys × IfSome old.tree (λ tree. AreGoFiles tree folder names.keys)
ListsRoot (Err (Fault fault entries)) folder old new = ⊥
ListsRoot (Err ReadFault) folder old new = FailsToRead folder old new
ListsRoot (Err NoMemory) folder old new = new ≡ old

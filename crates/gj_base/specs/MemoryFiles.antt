-- What files in memory are, and what the calls do to them, answer by answer.
use Rattle.std.specs.Prelude.{◌≡◌, ℕ, List, Some, None, IsSome, Result, Ok, Err, take, refl}
use Rattle.std.specs.FinMap as map
use Rattle.std.specs.Coded.{Coded, code_by, coded×, coded_ℕ}
use Rattle.gj_base.specs.Counts.{counted}
use Rattle.gj_base.specs.Files.{FilesState}
use Rattle.gj_base.specs.Plan.{Plan, failure_at}
use Rattle.gj_base.specs.Tree.{Tree, with_file}
use Rattle.gj_base.specs.Entries.{tree_code}
use Rattle.gj_base.specs.declared.files.FileError.{FileError}
use Rattle.gj_base.specs.declared.files.FileError.TheVariants as file_error
use Rattle.gj_base.specs.declared.files.StoreError.{StoreError}
use Rattle.gj_base.specs.declared.files.StoreError.TheVariants as store_error

-- the tree; how often a read and a store failed; how many calls were answered otherwise than by a refusal; which are told to fail
pub record MemoryFiles : Type 0 where
  pub tree : Tree
  pub reading_faults : ℕ
  pub storing_faults : ℕ
  pub calls : ℕ
  pub plan : Plan

-- files in memory are stored as the tuple of their fields
abbrev pub memory_files_code : Coded MemoryFiles
memory_files_code =
    code_by (Tree × (ℕ × (ℕ × (ℕ × Plan)))) (coded× tree_code (coded× coded_ℕ (coded× coded_ℕ (coded× coded_ℕ (map.code coded_ℕ coded_ℕ)))))
    (λ f. (f.tree, (f.reading_faults, (f.storing_faults, (f.calls, f.plan)))))
    (λ t. record { tree = t.0; reading_faults = t.1.0; storing_faults = t.1.1.0; calls = t.1.1.1.0; plan = t.1.1.1.1 })
    (λ _. refl)

-- they tell their tree
abbrev pub files_state : MemoryFiles → FilesState
files_state files = record { tree = Some files.tree; reading_faults = files.reading_faults; storing_faults = files.storing_faults }

-- no file, and nothing is told
abbrev pub no_files : MemoryFiles
no_files = record { tree = map.empty; reading_faults = 0; storing_faults = 0; calls = 0; plan = map.empty }

-- after a call that changed nothing else
abbrev pub after_call : MemoryFiles → MemoryFiles
after_call files = record files { calls = counted files.calls }

-- after a list or a read that failed
abbrev pub after_failed_read : MemoryFiles → MemoryFiles
after_failed_read files = record files { reading_faults = counted files.reading_faults; calls = counted files.calls }

-- after a store
abbrev pub after_store : MemoryFiles → List ℕ → List ℕ → MemoryFiles
after_store files path bytes = record files { tree = with_file files.tree path bytes; calls = counted files.calls }

-- after a store that failed once it had taken so many bytes, or all where there are fewer
abbrev pub after_failed_store : MemoryFiles → List ℕ → List ℕ → ℕ → MemoryFiles
after_failed_store files path bytes count =
    record files { tree = with_file files.tree path (take count bytes); storing_faults = counted files.storing_faults; calls = counted files.calls }

-- a list or a read fails exactly where it is told to, if it has the memory. A refusal isn't counted among the calls
abbrev pub ReadsInMemory : {T : Type 0} → Result T FileError → MemoryFiles → MemoryFiles → Type 0
ReadsInMemory (Ok _) old new = (failure_at old.plan old.calls ≡ None) × (new ≡ after_call old)
ReadsInMemory (Err file_error.Missing) old new = (failure_at old.plan old.calls ≡ None) × (new ≡ after_call old)
ReadsInMemory (Err file_error.TooLong) old new = (failure_at old.plan old.calls ≡ None) × (new ≡ after_call old)
ReadsInMemory (Err file_error.Failed) old new = IsSome (failure_at old.plan old.calls) × (new ≡ after_failed_read old)
ReadsInMemory (Err file_error.NoMemory) old new = new ≡ old

-- a store fails exactly where it is told to, if it has the memory
abbrev pub StoresInMemory : Result (Unit {0}) StoreError → List ℕ → List ℕ → MemoryFiles → MemoryFiles → Type 0
StoresInMemory (Ok _) path bytes old new = (failure_at old.plan old.calls ≡ None) × (new ≡ after_store old path bytes)
StoresInMemory (Err store_error.Failed) path bytes old new = (count : ℕ) × (failure_at old.plan old.calls ≡ Some count) × (new ≡ after_failed_store old path bytes count)
StoresInMemory (Err store_error.NoMemory) path bytes old new = new ≡ old

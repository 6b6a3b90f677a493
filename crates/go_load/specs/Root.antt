-- own: what is read of the root, and the limits of its size.
use Rattle.std.specs.Prelude.{◌≡◌, ◌<◌, ◌≤◌, ◌++◌, ℕ, Bool, true, false, ◌||◌, nat_lt, List, [], Option, Some, IfSome, length, take, map, All}
use Rattle.std.specs.List.{sum_by}
use Rattle.gj_base.specs.Tree.{Tree, bytes_at, path_in}
use Rattle.go_load.specs.GoFiles.{AreGoFiles}
use Rattle.go_load.specs.declared.sources.FileEntry.{FileEntry}

-- the most bytes of a file
abbrev pub file_limit : ℕ
file_limit = 4194304

-- the most bytes of a program, files past their limit aside
abbrev pub program_limit : ℕ
program_limit = 16777216

-- the most files of a program
abbrev pub count_limit : ℕ
count_limit = 65536

-- what an entry keeps of a file: all bytes, or none past the limit
abbrev pub Keeps : Bool → List ℕ → List ℕ → Type 0
Keeps false kept bytes = (length bytes ≤ file_limit) × (kept ≡ bytes)
Keeps true kept bytes = (file_limit < length bytes) × (kept ≡ [])

-- the entry is that of a file of the root's folder
pub record IsEntry (tree : Tree) (folder : List ℕ) (entry : FileEntry) : Type 0 where
  pub bytes : List ℕ
  pub there : bytes_at tree (path_in folder entry.name) ≡ Some bytes
  pub keeps : Keeps entry.too_long entry.bytes bytes

-- an entry of the root, whatever the files tell
pub record IsOfRoot (entry : FileEntry) : Type 0 where
  pub path : entry.path ≡ []
  pub own : entry.embedded ≡ false
  pub short : length entry.bytes ≤ file_limit
  pub none : entry.too_long ≡ true → entry.bytes ≡ []

-- whether a program with these files is past a limit
abbrev pub is_too_large : List FileEntry → Bool
is_too_large entries = nat_lt program_limit (sum_by (λ e. length e.bytes) entries) || nat_lt count_limit (length entries)

-- these are the root's files by name, or as many of them as show that they are too large
pub record AreRead (tree : Tree) (folder : List ℕ) (entries : List FileEntry) : Type 0 where
  -- the names of those that are not read
  pub left : List (List ℕ)
  pub names : AreGoFiles tree folder (map (λ e. e.name) entries ++ left)
  pub files : All (IsEntry tree folder) entries
  pub enough : is_too_large entries ≡ false → left ≡ []

-- what was read, and no more than shows that it is too large
pub record IsRead (told : Option Tree) (folder : List ℕ) (entries : List FileEntry) : Type 0 where
  pub own : All IsOfRoot entries
  pub files : IfSome told (λ tree. AreRead tree folder entries)
  pub no_more : (n : ℕ) → n < length entries → is_too_large (take n entries) ≡ false

-- own: what a compile of a folder comes to, answer by answer, over the files as they were.
use Rattle.std.specs.Prelude.{◌≡◌, ◌≢◌, ◌⊎◌, ◌<◌, List, [], ℕ, true, false, length, take, drop, codes, Contains, Some, None, IfSome, Result, Ok, Err}
use Rattle.gj_base.specs.Tree.{Tree}
use Rattle.gj_base.specs.Files.{FilesState, ReadFailed}
use Rattle.gj_base.specs.declared.fault.Fault.{Fault}
use Rattle.go_syntax.specs.Tree as t
use Rattle.go_load.specs.Root.{is_too_large, IsRead}
use Rattle.go_load.specs.Readings.{Reading, AreReadings, trees_of}
use Rattle.go_load.specs.Faults.{fault_in, stage_faults}
use Rattle.go_load.specs.Load.{IsFaultOf, FailsToRead}
use Rattle.go_load.specs.declared.sources.FileEntry.{FileEntry}
use Rattle.go_core.specs.CoreTree.{CoreProgram}
use Rattle.go_core.specs.CoreView.{program_view}
use Rattle.go_core.specs.SoundProgram.{Sound}
use Rattle.go_type.specs.Tree.{Ty}
use Rattle.go_typing.specs.Answer.{Flaw}
use Rattle.go_typing.specs.Checked.{told, fault_of, program_of}
use Rattle.go_stmt.specs.Checks.{fault_with}
use Rattle.go_items.specs.ItemView.{decls_of}
use Rattle.js_tree.specs.Script.{ScriptTree}
use Rattle.js_tree.specs.View.{script_view}
use Rattle.js_tree.specs.Printable.{IsPrintable}
use Rattle.js_tree.specs.declared.tree.Script.{Script}
use Rattle.js_prints.specs.Faithful.{Faithful}
use Rattle.js_prints.specs.Prints.{only_prints}
use Rattle.gj_plain.specs.Plain.{Main, plain_main}
use Rattle.gj_compile.specs.declared.front.Checked.{Checked}
use Rattle.gj_compile.specs.declared.refused.Refused.{Refused}
use Rattle.gj_compile.specs.declared.refused.Refused.TheVariants as refused

-- the files have no fault of a stage, and these are their trees
pub record HaveTrees (entries : List FileEntry) (trees : List t.File) : Type 0 where
  pub some : 0 < length entries
  pub small : is_too_large entries ≡ false
  pub readings : List Reading
  pub are : AreReadings 0 entries readings
  pub none : stage_faults readings ≡ []
  pub all : trees ≡ trees_of readings

-- the folder holds this program: its `.go` files have no fault, of their declarations nothing is told, and their package is plain
pub record HoldsProgram (tree : Tree) (folder : List ℕ) (program : CoreProgram) : Type 0 where
  pub entries : List FileEntry
  pub read : IsRead (Some tree) folder entries
  pub trees : List t.File
  pub have : HaveTrees entries trees
  pub right : told (decls_of trees) ≡ []
  pub main : Main
  pub plain : plain_main trees ≡ Some main
  -- of some table: the definition's program has none
  pub types : List Ty
  pub is : program ≡ record (program_of (decls_of trees)) { types = types }

-- F0, at the start of the root's first file
abbrev pub unbuilt_fault : Fault
unbuilt_fault = fault_in 0 0 0

-- the files have no fault of a stage, and of their declarations nothing is told, but their package is not plain
pub record AreUnbuilt (entries : List FileEntry) (fault : Fault) : Type 0 where
  pub trees : List t.File
  pub have : HaveTrees entries trees
  pub right : told (decls_of trees) ≡ []
  pub unlike : plain_main trees ≡ None
  pub is : fault ≡ unbuilt_fault

-- the files have no fault of a stage, and this is the least that is told of their declarations
pub record AreFaulty (entries : List FileEntry) (fault : Fault) : Type 0 where
  pub trees : List t.File
  pub have : HaveTrees entries trees
  pub flaw : Flaw
  pub least : fault_of (decls_of trees) ≡ Some flaw
  pub is : fault ≡ fault_with flaw

-- the fault that is told of these files: the least of the first stage that has one, else the least of their declarations, or else F0
abbrev pub IsToldFault : List FileEntry → Fault → Type 0
IsToldFault entries fault = IsFaultOf entries fault ⊎ (AreFaulty entries fault ⊎ AreUnbuilt entries fault)

-- all files of the folder were read, these are their entries, and they have this fault, which is not F0
abbrev pub FindsFault : Fault → List FileEntry → List ℕ → FilesState → FilesState → Type 0
FindsFault fault entries folder old new = (new ≡ old) × (0 < length entries) × IsRead old.tree folder entries × IsToldFault entries fault × (fault.code ≢ 0)

-- the letters `import` stand somewhere in a file
abbrev pub NamesImport : FileEntry → Type 0
NamesImport entry = (k : ℕ) × (take 6 (drop k entry.bytes) ≡ codes "import")

abbrev pub NameImport : List FileEntry → Type 0
NameImport entries = (entry : FileEntry) × Contains entries entry × NamesImport entry

-- F0 is told of the folder: an import, a form that the scalar checker doesn't have, or a package that is not plain; or another fault where a file may import a package with a fault that comes first. What comes of such a folder is defined nowhere yet
pub record IsBeyond (folder : List ℕ) (old : FilesState) : Type 0 where
  pub entries : List FileEntry
  pub some : 0 < length entries
  pub read : IsRead old.tree folder entries
  pub fault : Fault
  pub told : IsToldFault entries fault
  pub why : (fault.code ≡ 0) ⊎ NameImport entries

-- a read failed after the proved stages, or a folder was gone then
abbrev pub FailsLater : FilesState → FilesState → Type 0
FailsLater old new = ReadFailed old new ⊎ (new ≡ old)

-- why a folder has no script
abbrev pub IsRefused : Refused → List ℕ → FilesState → FilesState → Type 0
IsRefused (refused.Fault fault entries) folder old new = FindsFault fault entries folder old new
IsRefused (refused.Beyond fault entries) folder old new = (new ≡ old) × IsBeyond folder old
IsRefused refused.ReadFault folder old new = FailsToRead folder old new ⊎ (FailsLater old new × IsBeyond folder old)
IsRefused refused.NoMemory folder old new = new ≡ old
IsRefused refused.Internal folder old new = (new ≡ old) × IsBeyond folder old

-- the program is that of a plain package; or it is Sound, and the folder is beyond what is proved
abbrev pub IsChecked : Checked → List ℕ → FilesState → Type 0
IsChecked c folder old =
    ((c.is_plain ≡ true) × (only_prints (program_view c.program) ≡ true) × IfSome old.tree (λ tree. HoldsProgram tree folder (program_view c.program)))
    ⊎ ((c.is_plain ≡ false) × Sound (program_view c.program) × IsBeyond folder old)

abbrev pub Fronts : Result Checked Refused → List ℕ → FilesState → FilesState → Type 0
Fronts (Ok c) folder old new = (new ≡ old) × IsChecked c folder old
Fronts (Err refused) folder old new = IsRefused refused folder old new

-- the script is faithful to the program that the folder holds, where the tree is told; or the folder is beyond what is proved
abbrev pub IsRight : ScriptTree → List ℕ → FilesState → Type 0
IsRight s folder old = IfSome old.tree (λ tree. (program : CoreProgram) × HoldsProgram tree folder program × Faithful s program []) ⊎ IsBeyond folder old

abbrev pub Compiles : Result Script Refused → List ℕ → FilesState → FilesState → Type 0
Compiles (Ok script) folder old new = (new ≡ old) × IsPrintable (script_view script) × IsRight (script_view script) folder old
Compiles (Err refused) folder old new = IsRefused refused folder old new

-- an answer without a script: the files stay as they are, or why there is none
abbrev pub Asks : {T : Type 0} → Result T Refused → List ℕ → FilesState → FilesState → Type 0
Asks (Ok x) folder old new = new ≡ old
Asks (Err refused) folder old new = IsRefused refused folder old new

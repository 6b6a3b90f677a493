-- The stages of a compile, answer by answer; only private clauses cite this file.
use Rattle.std.specs.Prelude.{◌≡◌, ◌≢◌, ◌⊎◌, List, [], ℕ, Option, Some, None, true, false, Result, Ok, Err}
use Rattle.gj_base.specs.Files.{FilesState}
use Rattle.gj_base.specs.declared.fault.Fault.{Fault}
use Rattle.gj_base.specs.declared.fault.Refusal.{Refusal}
use Rattle.gj_base.specs.declared.fault.Refusal.TheVariants as check
use Rattle.go_syntax.specs.Tree as t
use Rattle.go_load.specs.Packages.{paths_view}
use Rattle.go_load.specs.declared.sources.FileEntry.{FileEntry}
use Rattle.go_load.specs.declared.packages.Packages.{Packages}
use Rattle.go_load.specs.declared.packages.LoadRefusal.{LoadRefusal}
use Rattle.go_load.specs.declared.packages.LoadRefusal.TheVariants as load
use Rattle.go_typing.specs.Answer.{Flaw}
use Rattle.go_items.specs.ItemView.{decls_of}
use Rattle.go_typing.specs.Checked.{told, fault_of, program_of}
use Rattle.go_stmt.specs.Checks.{root_trees, fault_with}
use Rattle.go_core.specs.CoreTree.{CoreProgram}
use Rattle.go_core.specs.CoreView.{program_view}
use Rattle.go_core.specs.SoundProgram.{Sound}
use Rattle.go_core.specs.declared.program.Program.{Program}
use Rattle.go_type.specs.Tree.{Ty}
use Rattle.js_tree.specs.View.{script_view}
use Rattle.js_tree.specs.Printable.{IsPrintable}
use Rattle.js_tree.specs.declared.tree.Script.{Script}
use Rattle.js_prints.specs.Faithful.{Faithful}
use Rattle.js_prints.specs.Prints.{only_prints}
use Rattle.gj_plain.specs.Plain as p
use Rattle.gj_plain.specs.Plain.{plain_main}
use Rattle.gj_compile.specs.Answers.{unbuilt_fault, FailsLater, NameImport}
use Rattle.gj_compile.specs.declared.front.Checked.{Checked}
use Rattle.gj_compile.specs.declared.refused.Refused.{Refused}
use Rattle.gj_compile.specs.declared.refused.Refused.TheVariants as refused

-- what the root declares
abbrev pub decls_in : Packages → List t.Decl
decls_in packages = decls_of (root_trees (paths_view packages.packages))

-- the root's `main`, where it is plain
abbrev pub main_of : Packages → Option p.Main
main_of packages = plain_main (root_trees (paths_view packages.packages))

-- nothing is told of the packages, their root is plain, and this is its program, with the types of a table
pub record IsHeld (packages : Packages) (program : CoreProgram) : Type 0 where
  pub right : told (decls_in packages) ≡ []
  pub main : p.Main
  pub is_plain : main_of packages ≡ Some main
  pub types : List Ty
  pub is : program ≡ record (program_of (decls_in packages)) { types = types }

-- the least that is told of the root's declarations
abbrev pub IsLeastOf : List t.Decl → Fault → Type 0
IsLeastOf ds fault = (w : Flaw) × (fault_of ds ≡ Some w) × (fault ≡ fault_with w)

-- nothing is told, but the root isn't plain
abbrev pub IsUnbuilt : Packages → Fault → Type 0
IsUnbuilt packages fault = (told (decls_in packages) ≡ []) × (main_of packages ≡ None) × (fault ≡ unbuilt_fault)

-- F0 is told of the packages
pub record AreBeyond (packages : Packages) : Type 0 where
  pub fault : Fault
  pub why : IsLeastOf (decls_in packages) fault ⊎ IsUnbuilt packages fault
  pub unbuilt : fault.code ≡ 0

-- packages without a fault of a stage come to this
abbrev pub FrontsPackages : Result Checked Refused → Packages → Type 0
FrontsPackages (Ok c) packages =
    ((c.is_plain ≡ true) × (only_prints (program_view c.program) ≡ true) × IsHeld packages (program_view c.program))
    ⊎ ((c.is_plain ≡ false) × Sound (program_view c.program) × AreBeyond packages)
FrontsPackages (Err (refused.Fault fault entries)) packages = (entries ≡ packages.files) × IsLeastOf (decls_in packages) fault × (fault.code ≢ 0)
FrontsPackages (Err (refused.Beyond fault entries)) packages = AreBeyond packages
FrontsPackages (Err refused.ReadFault) packages = ⊥
FrontsPackages (Err refused.NoMemory) packages = Unit {0}
FrontsPackages (Err refused.Internal) packages = AreBeyond packages

-- what the checker of the whole profile gives, and what comes of any program that isn't plain: a Sound one goes on
abbrev pub GoesOn : Result Checked Refused → Type 0
GoesOn (Ok c) = (c.is_plain ≡ false) × Sound (program_view c.program)
GoesOn (Err (refused.Fault fault entries)) = ⊥
GoesOn (Err (refused.Beyond fault entries)) = Unit {0}
GoesOn (Err refused.ReadFault) = ⊥
GoesOn (Err refused.NoMemory) = Unit {0}
GoesOn (Err refused.Internal) = Unit {0}

-- the same after imports were read
abbrev pub Imports : Result Checked Refused → FilesState → FilesState → Type 0
Imports (Ok c) old new = (c.is_plain ≡ false) × Sound (program_view c.program) × (new ≡ old)
Imports (Err (refused.Fault fault entries)) old new = ⊥
Imports (Err (refused.Beyond fault entries)) old new = new ≡ old
Imports (Err refused.ReadFault) old new = FailsLater old new
Imports (Err refused.NoMemory) old new = new ≡ old
Imports (Err refused.Internal) old new = new ≡ old

-- what a refusal of the loader of imports becomes
abbrev pub IsUnloaded : LoadRefusal → Refused → Type 0
IsUnloaded (load.Fault fault entries) why = why ≡ refused.Beyond fault entries
IsUnloaded load.ReadFault why = why ≡ refused.ReadFault
IsUnloaded load.NoMemory why = why ≡ refused.NoMemory

-- what comes of a folder that the proved loader refuses
abbrev pub FrontsUnloaded : Result Checked Refused → LoadRefusal → FilesState → FilesState → Type 0
FrontsUnloaded r (load.Fault fault entries) old new =
    ((fault.code ≢ 0) × (r ≡ Err (refused.Fault fault entries)) × (new ≡ old)) ⊎ (((fault.code ≡ 0) ⊎ NameImport entries) × Imports r old new)
FrontsUnloaded r load.ReadFault old new = (r ≡ Err refused.ReadFault) × (new ≡ old)
FrontsUnloaded r load.NoMemory old new = (r ≡ Err refused.NoMemory) × (new ≡ old)

-- what the script of a program is: that of a plain package is faithful to its program
abbrev pub Scripts : Result Script Refused → Checked → Type 0
Scripts (Ok script) c = IsPrintable (script_view script) × (c.is_plain ≡ true → Faithful (script_view script) (program_view c.program) [])
Scripts (Err (refused.Fault fault entries)) c = ⊥
Scripts (Err (refused.Beyond fault entries)) c = c.is_plain ≡ false
Scripts (Err refused.ReadFault) c = ⊥
Scripts (Err refused.NoMemory) c = Unit {0}
Scripts (Err refused.Internal) c = c.is_plain ≡ false

-- the same for a program that only prints, and for any program
abbrev pub ScriptsPlain : Result Script Refused → Program → Type 0
ScriptsPlain (Ok script) program = IsPrintable (script_view script) × Faithful (script_view script) (program_view program) []
ScriptsPlain (Err (refused.Fault fault entries)) program = ⊥
ScriptsPlain (Err (refused.Beyond fault entries)) program = ⊥
ScriptsPlain (Err refused.ReadFault) program = ⊥
ScriptsPlain (Err refused.NoMemory) program = Unit {0}
ScriptsPlain (Err refused.Internal) program = ⊥

abbrev pub ScriptsAny : Result Script Refused → Type 0
ScriptsAny (Ok script) = IsPrintable (script_view script)
ScriptsAny (Err (refused.Fault fault entries)) = ⊥
ScriptsAny (Err (refused.Beyond fault entries)) = Unit {0}
ScriptsAny (Err refused.ReadFault) = ⊥
ScriptsAny (Err refused.NoMemory) = Unit {0}
ScriptsAny (Err refused.Internal) = Unit {0}

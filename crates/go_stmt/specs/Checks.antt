-- Go specification (as of Go 1.17), "Packages", "Program execution": what the check of a package answers, by the declarations ds of its files.
use Rattle.std.specs.Prelude.{◌≡◌, ℕ, List, [], ◌∷◌, ◌++◌, Some, Result, Ok, Err}
use Rattle.gj_base.specs.declared.fault.Fault.{Fault}
use Rattle.gj_base.specs.declared.fault.Refusal.{Refusal}
use Rattle.gj_base.specs.declared.fault.Refusal.TheVariants as refusal
use Rattle.go_syntax.specs.Tree as t
use Rattle.go_type.specs.Table.{places}
use Rattle.go_core.specs.CoreView.{program_view}
use Rattle.go_core.specs.declared.program.Program.{Program}
use Rattle.go_typing.specs.Answer.{Flaw}
use Rattle.go_typing.specs.Items.{items_of}
use Rattle.go_typing.specs.Known.{outside}
use Rattle.go_typing.specs.Cycles.{cycle_flaws}
use Rattle.go_typing.specs.Told.{names_told, decls_told}
use Rattle.go_typing.specs.Checked.{known_in, told, least, fault_of, program_of}
use Rattle.go_load.specs.Packages.{PackageTree}

-- the trees of the first package, which is the root
abbrev pub root_trees : List (List ℕ × PackageTree) → List t.File
root_trees [] = []
root_trees (root ∷ others) = root.1.files

-- what is told of the names of a package
abbrev pub names_flaws : List t.Decl → List Flaw
names_flaws ds = names_told [] (items_of ds) ++ cycle_flaws (known_in ds).binds (items_of ds)

-- and of its declarations, bodies aside
abbrev pub flaws_before : List t.Decl → List Flaw
flaws_before ds = names_flaws ds ++ decls_told (outside (known_in ds)) ds

-- a fault with the name that is told of it
abbrev pub fault_with : Flaw → Fault
fault_with w = record { place = w.place; code = w.code; text = w.name }

abbrev pub Refuses : Refusal → Flaw → Type 0
Refuses (refusal.Fault f) w = f ≡ fault_with w
Refuses refusal.NoMemory w = Unit {0}

-- nothing is told, or the least is
abbrev pub Judges : Result (Unit {0}) Refusal → List Flaw → Type 0
Judges (Ok u) fs = fs ≡ []
Judges (Err (refusal.Fault f)) fs = (w : Flaw) × (least fs ≡ Some w) × (f ≡ fault_with w)
Judges (Err refusal.NoMemory) fs = Unit {0}

-- the program of these declarations, with the types of its table: the definition has none
abbrev pub IsProgramOf : List t.Decl → Program → Type 0
IsProgramOf ds p = program_view p ≡ record (program_of ds) { types = places p.types }

-- where nothing is told the program, and the least fault else
abbrev pub Checks : Result Program Refusal → List t.Decl → Type 0
Checks (Ok p) ds = (told ds ≡ []) × IsProgramOf ds p
Checks (Err (refusal.Fault f)) ds = (w : Flaw) × (fault_of ds ≡ Some w) × (f ≡ fault_with w)
Checks (Err refusal.NoMemory) ds = Unit {0}

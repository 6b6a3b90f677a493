-- own: what the top call answers, and what it leaves.
use Rattle.std.specs.Prelude.{◌≡◌, ◌⊎◌, ◌++◌, List, [], ◌∷◌, ℕ, Bool, true, false, codes, Option, Some, None, IfSome, Ok, Err}
use Rattle.gj_base.specs.Counts.{Rose}
use Rattle.gj_base.specs.Files.{FilesState, Stores, ReadFailed}
use Rattle.gj_base.specs.declared.files.StoreError.TheVariants.{Failed}
use Rattle.gj_base.specs.declared.fault.Fault.{Fault}
use Rattle.go_core.specs.CoreTree.{CoreProgram}
use Rattle.gj_words.specs.Words.{names_command}
use Rattle.gj_command.specs.Settings.{Settings, build}
use Rattle.gj_base.specs.Tree.{with_file}
use Rattle.js_tree.specs.Script.{ScriptTree}
use Rattle.js_tree.specs.Printed.{plain}
use Rattle.js_prints.specs.Faithful.{Faithful}
use Rattle.go_load.specs.declared.sources.FileEntry.{FileEntry}
use Rattle.gj_compile.specs.Answers.{HoldsProgram, FindsFault, IsBeyond, IsRefused, IsRight}
use Rattle.gj_compile.specs.declared.refused.Refused.{Refused}
use Rattle.gj_compile.specs.declared.refused.Refused.TheVariants as refused
use Rattle.gj_command.specs.FaultText.{told_fault, fault_line, whole_line}
use Rattle.gj_command.specs.declared.outcome.Outcome.{Outcome}
use Rattle.gj_command.specs.declared.outcome.Outcome.TheVariants as outcome
use Rattle.gj_command.specs.declared.outcome.Outcome.TheVariants.{Done, Ended, Usage, ReadFault, WriteFault, TooLong, BadScript, Stuck, Stopped, NoMemory, Internal}

-- where the script is stored, where the words don't say
abbrev pub out_file : List ℕ
out_file = codes "out.js"

-- the lines that tell which words there are
abbrev pub usage_lines : List ℕ
usage_lines =
    codes "usage: gopherjs build [-o FILE] [-m] [--src DIR] DIR" ++ 10 ∷ codes "       gopherjs run [--seed N] [--steps N] [--src DIR] DIR" ++ 10 ∷ codes "       gopherjs blocking [--src DIR] DIR"
    ++ 10 ∷ codes "       gopherjs exec [--seed N] [--steps N] FILE" ++ 10 ∷ codes "       gopherjs gen --size N" ++ 10 ∷ codes "       gopherjs version" ++ 10 ∷ []

abbrev pub read_failed_line : List ℕ
read_failed_line = codes "gopherjs: read failed" ++ 10 ∷ []

abbrev pub write_failed_line : List ℕ
write_failed_line = codes "gopherjs: write failed" ++ 10 ∷ []

abbrev pub out_of_memory_line : List ℕ
out_of_memory_line = codes "gopherjs: out of memory" ++ 10 ∷ []

abbrev pub internal_line : List ℕ
internal_line = codes "gopherjs: internal error" ++ 10 ∷ []

-- the text of a script, in the Plain style where it isn't to be small
abbrev pub IsTextOf : Bool → ScriptTree → List ℕ → Type 0
IsTextOf is_small s text = is_small ≡ false → text ≡ plain s

-- the text of a script that is right for the folder is stored, and all other paths stay
abbrev pub StoresScript : List ℕ → List ℕ → Bool → FilesState → FilesState → Type 0
StoresScript folder path is_small old new = (s : ScriptTree) × (text : List ℕ) × IsTextOf is_small s text × IsRight s folder old × Stores (Ok tt) path text old new

-- a store of such a text failed
abbrev pub FailsToStore : List ℕ → List ℕ → Bool → FilesState → FilesState → Type 0
FailsToStore folder path is_small old new = (s : ScriptTree) × (text : List ℕ) × IsTextOf is_small s text × IsRight s folder old × Stores (Err Failed) path text old new

-- this fault is told of the folder: the one that is defined, or of a folder beyond what is proved any one, by its line at its file
abbrev pub IsTold : Fault → List ℕ → List ℕ → FilesState → FilesState → Type 0
IsTold fault line folder old new =
    ((found : Fault) × (entries : List FileEntry) × (fault ≡ told_fault found) × (line ≡ fault_line entries found) × FindsFault found entries folder old new)
    ⊎ ((entries : List FileEntry) × (line ≡ whole_line entries fault) × (new ≡ old) × IsBeyond folder old)

-- what a build of this folder into this file comes to, and the line that tells of it
abbrev pub BuildAnswers : Outcome → List ℕ → List ℕ → List ℕ → Bool → FilesState → FilesState → Type 0
BuildAnswers Done line folder path is_small old new = StoresScript folder path is_small old new × (line ≡ [])
BuildAnswers (outcome.Fault fault) line folder path is_small old new = IsTold fault line folder old new
BuildAnswers ReadFault line folder path is_small old new = IsRefused refused.ReadFault folder old new × (line ≡ read_failed_line)
BuildAnswers WriteFault line folder path is_small old new = FailsToStore folder path is_small old new × (line ≡ write_failed_line)
BuildAnswers NoMemory line folder path is_small old new = (new ≡ old) × (line ≡ out_of_memory_line)
BuildAnswers Internal line folder path is_small old new = (new ≡ old) × IsBeyond folder old × (line ≡ internal_line)
BuildAnswers (Ended code) line folder path is_small old new = ⊥
BuildAnswers Usage line folder path is_small old new = ⊥
BuildAnswers TooLong line folder path is_small old new = ⊥
BuildAnswers (BadScript place) line folder path is_small old new = ⊥
BuildAnswers (Stuck place) line folder path is_small old new = ⊥
BuildAnswers (Stopped steps) line folder path is_small old new = ⊥

-- what any command leaves of the files
abbrev pub Leaves : Outcome → FilesState → FilesState → Type 0
Leaves Done old new = (new ≡ old) ⊎ ((path : List ℕ) × (text : List ℕ) × Stores (Ok tt) path text old new)
Leaves ReadFault old new = ReadFailed old new ⊎ (new ≡ old)
Leaves WriteFault old new = (new ≡ old) ⊎ ((path : List ℕ) × (text : List ℕ) × Stores (Err Failed) path text old new)
Leaves _ old new = new ≡ old

-- the words ask for nothing exactly where they name no command; where they name one, they may
abbrev pub TellsUsage : Outcome → List ℕ → List (List ℕ) → Type 0
TellsUsage answer line words = (answer ≡ Usage → line ≡ usage_lines) × (names_command words ≡ false → answer ≡ Usage)

-- what the words of a command come to: `build` and a folder, or others
abbrev pub Answers : Outcome → List ℕ → Option Settings → List (List ℕ) → FilesState → FilesState → Type 0
Answers answer line None words old new = Leaves answer old new × TellsUsage answer line words
Answers answer line (Some (build folder)) words old new = BuildAnswers answer line folder out_file false old new

-- no failed call is passed over: other answers leave both counts of faults
abbrev pub CountsStay : Outcome → FilesState → FilesState → Type 0
CountsStay ReadFault old new = Unit {0}
CountsStay WriteFault old new = Unit {0}
CountsStay _ old new = (new.reading_faults ≡ old.reading_faults) × (new.storing_faults ≡ old.storing_faults)

-- only what is stored changes the tree
abbrev pub TreeStays : Outcome → FilesState → FilesState → Type 0
TreeStays Done old new = Unit {0}
TreeStays WriteFault old new = Unit {0}
TreeStays _ old new = new.tree ≡ old.tree

-- where `build` and a folder answer Done, what is stored is the text of a script, and all other paths stay; the script is faithful to the program of the folder, or the folder is beyond what is proved
abbrev pub Headline : Outcome → Option Settings → FilesState → FilesState → Type 0
Headline answer settings old new = (folder : List ℕ) → settings ≡ Some (build folder) → answer ≡ Done → IfSome old.tree (λ tree. (s : ScriptTree) × (new.tree ≡ Some (with_file tree out_file (plain s)))
    × (((program : CoreProgram) × HoldsProgram tree folder program × Faithful s program []) ⊎ IsBeyond folder old))

-- where the folder holds a program of a plain package and no call fails, `build` answers Done or that memory ran out
abbrev pub IsComplete : Outcome → Option Settings → FilesState → FilesState → Type 0
IsComplete answer settings old new = (folder : List ℕ) → settings ≡ Some (build folder) → IfSome old.tree (λ tree. (program : CoreProgram) → HoldsProgram tree folder program
    → (Rose old.reading_faults new.reading_faults → ⊥) → (Rose old.storing_faults new.storing_faults → ⊥) → (answer ≡ Done) ⊎ (answer ≡ NoMemory))

-- what is told of a folder beyond what is proved
abbrev pub IsToldBeyond : Outcome → List ℕ → Type 0
IsToldBeyond (outcome.Fault fault) line = (entries : List FileEntry) × (line ≡ whole_line entries fault)
IsToldBeyond NoMemory line = line ≡ out_of_memory_line
IsToldBeyond Internal line = line ≡ internal_line
IsToldBeyond _ line = ⊥

-- what is told of a folder that has no script; want of memory may come instead
abbrev pub IsToldOf : Refused → Outcome → List ℕ → Type 0
IsToldOf refused.ReadFault answer line = (answer ≡ ReadFault) × (line ≡ read_failed_line)
IsToldOf refused.NoMemory answer line = (answer ≡ NoMemory) × (line ≡ out_of_memory_line)
IsToldOf refused.Internal answer line = (answer ≡ Internal) × (line ≡ internal_line)
IsToldOf (refused.Fault fault entries) answer line =
    ((answer ≡ outcome.Fault (told_fault fault)) × (line ≡ fault_line entries fault)) ⊎ ((answer ≡ NoMemory) × (line ≡ out_of_memory_line))
IsToldOf (refused.Beyond fault entries) answer line = IsToldBeyond answer line

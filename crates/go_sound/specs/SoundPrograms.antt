-- Go specification (as of Go 1.17), "Declarations and scope", "Program execution": a package of which nothing is told is a program
-- that has a meaning.
use Rattle.std.specs.Prelude.{◌≡◌, ◌⊎◌, ℕ, List, [], ◌∷◌, true, Some, slice_get}
use Rattle.go_syntax.specs.Tree as t
use Rattle.go_core.specs.CoreTree.{CoreFunc}
use Rattle.go_core.specs.SoundProgram.{SoundFunc, IsPlainFunc, Sound}
use Rattle.go_typing.specs.Told.{is_main}
use Rattle.go_typing.specs.Checked.{known_in, functions_in, told, program_of}
use Rattle.go_typing.specs.Known.{outside}
use Rattle.go_sound.specs.Lost.{NothingUnknown}
use Rattle.go_sound.specs.Grammar.{DeclsOfGrammar}
use Rattle.go_sound.specs.SoundFunctions.{PackageIsReady}

-- each name of the package's scope is typed
abbrev pub EachNameIsTyped : Type 0
EachNameIsTyped = (ds : List t.Decl) → DeclsOfGrammar ds → told ds ≡ [] → NothingUnknown (outside (known_in ds)).scopes

-- what the names stand for has a meaning in its program
abbrev pub PackagesAreReady : Type 0
PackagesAreReady = (ds : List t.Decl) → DeclsOfGrammar ds → told ds ≡ [] → PackageIsReady (program_of ds) (outside (known_in ds))

-- each function has a meaning in it
abbrev pub FunctionsOfPackagesAreSound : Type 0
FunctionsOfPackagesAreSound =
    (ds : List t.Decl) → DeclsOfGrammar ds → told ds ≡ [] → (k : ℕ) (f : CoreFunc) → slice_get (functions_in (known_in ds) ds).funcs k ≡ Some f → SoundFunc (program_of ds) k f

-- there is a function `main`
abbrev pub HasMain : List t.Decl → Type 0
HasMain [] = ⊥
HasMain (t.FuncDecl at n s b ∷ ds) = (is_main n ≡ true) ⊎ HasMain ds
HasMain (d ∷ ds) = HasMain ds

-- the program begins with it; it takes nothing and gives nothing
abbrev pub MainIsPlain : Type 0
MainIsPlain = (ds : List t.Decl) → told ds ≡ [] → HasMain ds → IsPlainFunc (program_of ds) (program_of ds).main

-- the whole is a program that has a meaning
abbrev pub ProgramsAreSound : Type 0
ProgramsAreSound = (ds : List t.Decl) → DeclsOfGrammar ds → told ds ≡ [] → HasMain ds → Sound (program_of ds)

-- Go specification (as of Go 1.17), "Source file organization", "Program execution": what the root of a load declares, and that it is a
-- program that has a meaning where nothing is told of it.
use Rattle.std.specs.Prelude.{◌≡◌, List, []}
use Rattle.go_syntax.specs.Tree as t
use Rattle.go_syntax.specs.Token.{Token}
use Rattle.go_grammar.specs.Files.{IsFile}
use Rattle.go_load.specs.Packages.{paths_view}
use Rattle.go_load.specs.Load.{ArePackages}
use Rattle.go_load.specs.declared.packages.Packages.{Packages}
use Rattle.go_core.specs.SoundProgram.{Sound}
use Rattle.go_typing.specs.Checked.{told, program_of}
use Rattle.go_items.specs.ItemView.{decls_of}
use Rattle.go_sound.specs.Grammar.{DeclsOfGrammar}
use Rattle.go_sound.specs.SoundPrograms.{HasMain}
use Rattle.go_stmt.specs.Checks.{root_trees}

-- what the grammar derives keeps what its trees keep
abbrev pub FilesAreOfGrammar : Type 0
FilesAreOfGrammar = (ts : List Token) (f : t.File) → IsFile ts f → DeclsOfGrammar f.decls

-- what the root declares
abbrev pub decls_in : Packages → List t.Decl
decls_in p = decls_of (root_trees (paths_view p.packages))

-- it is what the grammar gives
abbrev pub LoadedAreOfGrammar : Type 0
LoadedAreOfGrammar = (p : Packages) → ArePackages p → DeclsOfGrammar (decls_in p)

-- there is a function `main`
abbrev pub LoadedHaveMain : Type 0
LoadedHaveMain = (p : Packages) → ArePackages p → HasMain (decls_in p)

-- it is a program that has a meaning
abbrev pub LoadedAreSound : Type 0
LoadedAreSound = (p : Packages) → ArePackages p → told (decls_in p) ≡ [] → Sound (program_of (decls_in p))

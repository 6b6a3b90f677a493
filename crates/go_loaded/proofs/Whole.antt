-- What the root of a load declares.
use Rattle.std.proofs.Common.{ℕ, List, sym, subst}
use Rattle.go_load.specs.Readings.{trees_of}
use Rattle.go_load.specs.Packages.{PackageTree}
use Rattle.go_items.specs.ItemView.{decls_of}
use Rattle.go_sound.specs.Grammar.{DeclsOfGrammar}
use Rattle.go_sound.specs.SoundPrograms.{HasMain}
use Rattle.go_stmt.specs.Checks.{root_trees}
use Rattle.go_loaded.specs.Loaded.{FilesAreOfGrammar, LoadedAreOfGrammar, LoadedHaveMain}
use Rattle.go_loaded.proofs.Files.{trees_derived}
use Rattle.go_loaded.proofs.MainFound.{main_found}

pub loaded_are_of_grammar : FilesAreOfGrammar → LoadedAreOfGrammar
loaded_are_of_grammar law p a = subst (λ (ps : List (List ℕ × PackageTree)). DeclsOfGrammar (decls_of (root_trees ps))) (sym a.root) (trees_derived law 0 p.files (trees_of a.readings) a.trees)

pub loaded_have_main : LoadedHaveMain
loaded_have_main p a = subst (λ (ps : List (List ℕ × PackageTree)). HasMain (decls_of (root_trees ps))) (sym a.root) (main_found a.readings a.none)

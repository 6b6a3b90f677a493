-- What a plain package is for a checker: a program whose `main` prints texts.
use Rattle.std.specs.Prelude.{◌≡◌, ℕ, List, [], true, Some, slice_get}
use Rattle.go_syntax.specs.Tree as t
use Rattle.go_type.specs.Tree.{no_tys}
use Rattle.go_core.specs.CoreTree.{CoreFunc, CoreProgram}
use Rattle.js_prints.specs.Lines.{print_lines}
use Rattle.js_prints.specs.Prints.{only_prints}
use Rattle.go_typing.specs.Checked.{told, program_of}
use Rattle.gj_plain.specs.Plain.{Main, main_in}

-- the program's `main` prints these texts
pub record PrintsLines (p : CoreProgram) (texts : List (List ℕ)) : Type 0 where
  pub function : CoreFunc
  pub found : slice_get p.funcs p.main ≡ Some function
  pub no_results : function.results ≡ no_tys
  pub captures_none : function.captured ≡ []
  pub lines : function.body ≡ print_lines texts

-- ---- the laws

abbrev pub PlainIsRight : Type 0
PlainIsRight = (ds : List t.Decl) (main : Main) → main_in ds ≡ Some main → told ds ≡ []

abbrev pub PlainPrints : Type 0
PlainPrints = (ds : List t.Decl) (main : Main) → main_in ds ≡ Some main → PrintsLines (program_of ds) main.texts

abbrev pub PlainOnlyPrints : Type 0
PlainOnlyPrints = (ds : List t.Decl) (main : Main) → main_in ds ≡ Some main → only_prints (program_of ds) ≡ true

-- Own: what is printed is read back.
use Rattle.std.specs.Prelude.{◌≡◌, ℕ, List, false}
use Rattle.js_tree.specs.Script.{ScriptTree}
use Rattle.js_tree.specs.Erase.{erase}
use Rattle.js_tree.specs.Printed.{plain}
use Rattle.js_tree.specs.Printable.{IsPrintable, is_printable}
use Rattle.js_tree.specs.Scripts.{IsScript}

-- a script is another one, places aside: it has a text too, and the same
pub record IsSameAs (s t : ScriptTree) : Type 0 where
  pub same : erase t ≡ erase s
  pub printable : IsPrintable t
  pub text : plain t ≡ plain s

-- the text of a script is a script with the same tree, places aside
pub record IsReadBack (s : ScriptTree) : Type 0 where
  pub tree : ScriptTree
  pub is_script : IsScript (plain s) tree
  pub same : erase tree ≡ erase s

-- so it is of each script that has a text
abbrev pub ReadsBack : Type 0
ReadsBack = (s : ScriptTree) → IsPrintable s → IsReadBack s

-- whatever tree the text of a script has, it is the same, places aside
abbrev pub ReadsOnlyBack : Type 0
ReadsOnlyBack = (s t : ScriptTree) → IsPrintable s → IsScript (plain s) t → IsSameAs s t

-- bytes that are a script whose tree has no text: without its spare parentheses a token is nested too deep
pub record HasNoText : Type 0 where
  pub bytes : List ℕ
  pub tree : ScriptTree
  pub is_script : IsScript bytes tree
  pub no_text : is_printable tree ≡ false

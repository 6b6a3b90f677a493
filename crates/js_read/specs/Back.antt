-- Own: what is read is the one tree of the bytes, and what was printed to them.
use Rattle.std.specs.Prelude.{◌≡◌, ℕ, List, Result, MatchResult}
use Rattle.js_tree.specs.Script.{ScriptTree}
use Rattle.js_tree.specs.Scripts.{IsScript}
use Rattle.js_tree.specs.Printed.{plain}
use Rattle.js_tree.specs.Printable.{IsPrintable}
use Rattle.js_tree.specs.Erase.{erase}
use Rattle.js_tree.specs.View.{script_view}
use Rattle.js_tree.specs.declared.tree.Script.{Script}
use Rattle.js_grammar.specs.declared.refusal.ReadRefusal.{ReadRefusal}
use Rattle.js_grammar.specs.declared.refusal.ReadRefusal.TheVariants.{NoMemory}

-- each tree that the bytes have is this one, places included
abbrev pub HasNoOtherTree : List ℕ → ScriptTree → Type 0
HasNoOtherTree bytes s = (t : ScriptTree) → IsScript bytes t → t ≡ s

-- of a script's text that script is read, places aside, unless memory ran out
abbrev pub GivesBack : List ℕ → Result Script ReadRefusal → Type 0
GivesBack bytes r = (s : ScriptTree) → IsPrintable s → bytes ≡ plain s → MatchResult r (λ t. erase (script_view t) ≡ erase s) (λ e. e ≡ NoMemory)

-- Own: a script whose text, prints and end are given.
use Rattle.std.specs.Prelude.{◌≡◌, ◌++◌, ℕ, List, true}
use Rattle.js_tree.specs.Script.{ScriptTree}
use Rattle.js_tree.specs.Value.{Ended}
use Rattle.js_tree.specs.ScriptRun.{script_run}
use Rattle.js_tree.specs.Printed.{plain, preamble}
use Rattle.js_tree.specs.Printable.{is_printable}

-- the text after the preamble, and what a run with 1000 ticks prints and ends with
pub record Agrees (script : ScriptTree) (choices body printed : List ℕ) (status : ℕ) (message : List ℕ) : Type 0 where
  pub text : plain script ≡ preamble ++ body
  pub printable : is_printable script ≡ true
  pub prints : (script_run script choices 1000).printed ≡ printed
  pub ends : (script_run script choices 1000).end ≡ Ended status message

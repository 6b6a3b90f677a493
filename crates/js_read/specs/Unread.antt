-- Own: why bytes are not read, seen as the grammar has them.
use Rattle.std.specs.Prelude.{◌≡◌, ℕ, List, [], Ok}
use Rattle.js_tree.specs.Lexical.{Placed}
use Rattle.js_tree.specs.Script.{ScriptTree}
use Rattle.js_tree.specs.Scripts.{IsScript}
use Rattle.js_grammar.specs.declared.refusal.ReadRefusal.{ReadRefusal}
use Rattle.js_grammar.specs.declared.refusal.ReadRefusal.TheVariants.{Syntax, NoMemory}
use Rattle.js_grammar.specs.Goals.{whole}
use Rattle.js_grammar.specs.Reads.{Reads}

-- bytes are refused so: memory ran out, or they are no script
pub data Unread (bytes : List ℕ) (e : ReadRefusal) : Type 0 where
  out_of_memory : e ≡ NoMemory → Unread bytes e
  no_script : e ≡ Syntax 0 → ((s : ScriptTree) → IsScript bytes s → ⊥) → Unread bytes e

-- tokens are refused so: memory ran out, or they have no tree
pub data Treeless (ts : List Placed) (e : ReadRefusal) : Type 0 where
  out_of_room : e ≡ NoMemory → Treeless ts e
  no_tree : e ≡ Syntax 0 → ((s : ScriptTree) → Reads whole ts (Ok (s, [])) → ⊥) → Treeless ts e

-- the same refusal, at offset 0
abbrev pub at_start : ReadRefusal → ReadRefusal
at_start (Syntax n) = Syntax 0
at_start NoMemory = NoMemory

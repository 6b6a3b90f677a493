-- Own: what the lexer answers, seen as tokens of the grammar.
use Rattle.std.specs.Prelude.{◌≡◌, ℕ, List, drop, Option, Some, None, true}
use Rattle.js_tree.specs.Lexical.{Placed, Splits}
use Rattle.js_grammar.specs.declared.token.Lexeme.{Lexeme}
use Rattle.js_grammar.specs.declared.refusal.ReadRefusal.{ReadRefusal}
use Rattle.js_grammar.specs.declared.refusal.ReadRefusal.TheVariants.{Syntax, NoMemory}
use Rattle.js_grammar.specs.Scan.{Found}
use Rattle.js_grammar.specs.Tokens.{lexeme_view}

-- a token of so many bytes, and the text after it
abbrev pub found_as : Option (Lexeme × ℕ) → List ℕ → Found
found_as None text = None
found_as (Some p) text = Some (lexeme_view p.0, drop p.1 text)

-- why a text that begins at an offset was not made into tokens
pub data Unsplit (text : List ℕ) (at : ℕ) (e : ReadRefusal) : Type 0 where
  out_of_memory : e ≡ NoMemory → Unsplit text at e
  not_split : e ≡ Syntax 0 → ((ts : List Placed) → Splits true at text ts → ⊥) → Unsplit text at e

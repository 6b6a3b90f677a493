-- Own: reading gives exactly the trees of the grammar.
use Rattle.std.specs.Prelude.{◌≡◌, ℕ, List, [], Ok, Err, Some, IsTrue, true, ◌++◌, ◌⊎◌}
use Rattle.js_tree.specs.Lexical.{Token, Placed, Splits, is_token, ends, spelling}
use Rattle.js_tree.specs.Script.{ScriptTree}
use Rattle.js_tree.specs.Scripts.{Body, IsScript}
use Rattle.js_grammar.specs.Scan.{token_at}
use Rattle.js_grammar.specs.Goals.{whole}
use Rattle.js_grammar.specs.Steps.{Answer}
use Rattle.js_grammar.specs.Reads.{Reads}
use Rattle.js_grammar.specs.declared.refusal.ReadRefusal.TheVariants.{NoMemory}

-- what is read to the last token is a script, and each script is read so
abbrev pub ReadsScripts : Type 0
ReadsScripts = (ts : List Placed) (s : ScriptTree) → (Reads whole ts (Ok (s, [])) → Body ts s) × (Body ts s → Reads whole ts (Ok (s, [])))

-- a reading that comes to a tree is the only one, want of memory aside
abbrev pub ReadsOnce : Type 0
ReadsOnce = (ts : List Placed) (p : ScriptTree × List Placed) (r : Answer whole) → Reads whole ts (Ok p) → Reads whole ts r → (r ≡ Ok p) ⊎ (r ≡ Err NoMemory)

-- tokens have at most one tree
abbrev pub HaveOneTree : Type 0
HaveOneTree = (ts : List Placed) (s t : ScriptTree) → Body ts s → Body ts t → s ≡ t

-- a token that ends where it does is found at the front of a text, and what is found is one
abbrev pub FindsTokens : Type 0
FindsTokens = (text : List ℕ) (t : Token) (rest : List ℕ)
    → (IsTrue (is_token t) → IsTrue (ends t rest) → token_at (spelling t ++ rest) ≡ Some (t, rest))
    × (token_at text ≡ Some (t, rest) → (text ≡ spelling t ++ rest) × IsTrue (is_token t) × IsTrue (ends t rest))

-- a text is at most one list of tokens
abbrev pub HasOneList : Type 0
HasOneList = (text : List ℕ) (at : ℕ) (a b : List Placed) → Splits true at text a → Splits true at text b → a ≡ b

-- bytes are a script with at most one tree, places included
abbrev pub HasOneTree : Type 0
HasOneTree = (bytes : List ℕ) (s t : ScriptTree) → IsScript bytes s → IsScript bytes t → s ≡ t

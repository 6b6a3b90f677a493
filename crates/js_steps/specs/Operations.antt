-- Own: parts that are operations of expressions on the value of the first expression in them.
use Rattle.js_code.specs.Parts.{Part, unary, binary, both, either, choice, index, length_of, pop, char_code_at, substring, decimal_of, from_char_code}

-- no operation, so a statement, or a part that waits for no value
abbrev pub IsNoOperation : Part → Type 0
IsNoOperation (unary at op e) = ⊥
IsNoOperation (binary at op a b) = ⊥
IsNoOperation (both at a b) = ⊥
IsNoOperation (either at a b) = ⊥
IsNoOperation (choice at a b d) = ⊥
IsNoOperation (index at e i) = ⊥
IsNoOperation (length_of at e) = ⊥
IsNoOperation (pop at e) = ⊥
IsNoOperation (char_code_at at e i) = ⊥
IsNoOperation (substring at e i j) = ⊥
IsNoOperation (decimal_of at e) = ⊥
IsNoOperation (from_char_code at e) = ⊥
IsNoOperation _ = Unit {0}

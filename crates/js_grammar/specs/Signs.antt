-- ECMA-262 5.1, 7.7: the signs, eight by eight, as the lexer looks for them.
use Rattle.std.specs.Prelude.{ℕ, List, [], ◌∷◌, codes}
use Rattle.js_tree.specs.Lexical.{punctuators}
use Rattle.js_grammar.specs.Scan.{longest}

-- how many bytes the longest sign has that a text begins with
unfoldable pub longest_sign : List ℕ → ℕ
longest_sign text = longest punctuators 0 text

abbrev pub first_signs : List (List ℕ)
first_signs = codes "{" ∷ codes "}" ∷ codes "(" ∷ codes ")" ∷ codes "[" ∷ codes "]" ∷ codes "." ∷ codes ";" ∷ []

abbrev pub second_signs : List (List ℕ)
second_signs = codes "," ∷ codes "<" ∷ codes ">" ∷ codes "<=" ∷ codes ">=" ∷ codes "==" ∷ codes "!=" ∷ codes "===" ∷ []

abbrev pub third_signs : List (List ℕ)
third_signs = codes "!==" ∷ codes "+" ∷ codes "-" ∷ codes "*" ∷ codes "%" ∷ codes "++" ∷ codes "--" ∷ codes "<<" ∷ []

abbrev pub fourth_signs : List (List ℕ)
fourth_signs = codes ">>" ∷ codes ">>>" ∷ codes "&" ∷ codes "|" ∷ codes "^" ∷ codes "!" ∷ codes "~" ∷ codes "&&" ∷ []

abbrev pub fifth_signs : List (List ℕ)
fifth_signs = codes "||" ∷ codes "?" ∷ codes ":" ∷ codes "=" ∷ codes "+=" ∷ codes "-=" ∷ codes "*=" ∷ codes "%=" ∷ []

abbrev pub sixth_signs : List (List ℕ)
sixth_signs = codes "<<=" ∷ codes ">>=" ∷ codes ">>>=" ∷ codes "&=" ∷ codes "|=" ∷ codes "^=" ∷ codes "/" ∷ codes "/=" ∷ []

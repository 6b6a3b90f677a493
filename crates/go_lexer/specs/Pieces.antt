-- Go specification (as of Go 1.17), "Lexical elements": the pieces of a text, each as a whole.
use Rattle.std.specs.Prelude.{◌≡◌, ◌≢◌, ◌<◌, ℕ, List, [], ◌∷◌, ◌++◌, true, false, length, drop, Some, if◌then◌else◌, nat_lt}
use Rattle.go_syntax.specs.Spelling.{operator_text}
use Rattle.go_syntax.specs.declared.operator.Operator.{Operator}
use Rattle.go_syntax.specs.declared.kind.TokenKind.TheVariants as kind
use Rattle.go_lexer.specs.Chars.{byte_at, letter_width}
use Rattle.go_lexer.specs.Runs.{run_len, is_decimal}
use Rattle.go_lexer.specs.Numbers.{base_of, prefix_of, class_of, value_from, limit}
use Rattle.go_lexer.specs.Keywords.{keyword_of}
use Rattle.go_lexer.specs.Kinds.{rune_width, name_kind, is_build, is_blank}
use Rattle.go_lexer.specs.declared.run.Class.{Class}
use Rattle.go_lexer.specs.declared.run.Class.TheVariants.{Name, Quoted, Escaped, Raw, Line, General, Utf8}
use Rattle.go_lexer.specs.declared.step.Step.{Step}
use Rattle.go_lexer.specs.declared.step.Step.TheVariants.{Token, Blank, Break, Build}

-- from its front to its end, the text goes on in one way
abbrev pub IsRun : Class → List ℕ → Type 0
IsRun class text = run_len class text ≡ length text

-- what stands between the quotes
abbrev pub between : ℕ → List ℕ → List ℕ
between quote body = quote ∷ body ++ quote ∷ []

-- a comment with a newline acts like one, and a build constraint is marked
abbrev pub general_sort : List ℕ → Step
general_sort p = if nat_lt (run_len Line p) (length p) then Break (length p) else Blank (length p)

abbrev pub line_sort : List ℕ → Step
line_sort p = if is_build p then Build (length p) else Blank (length p)

-- the text is a piece of this sort: a token of a kind, or white space or a comment with a newline or without
pub data IsPiece (p : List ℕ) : Step → Type 0 where
  -- "White space"
  newline : p ≡ 10 ∷ [] → IsPiece p (Break 1)
  blank : (b : ℕ) → p ≡ b ∷ [] → is_blank b ≡ true → IsPiece p (Blank 1)
  -- "Comments"
  line : (rest : List ℕ) → p ≡ 47 ∷ 47 ∷ rest → IsRun Line p → IsRun Utf8 p → IsPiece p (line_sort p)
  general : (body : List ℕ) → p ≡ 47 ∷ 42 ∷ (body ++ 42 ∷ 47 ∷ []) → run_len General (body ++ 42 ∷ 47 ∷ []) ≡ length body → IsRun Utf8 p → IsPiece p (general_sort p)
  -- "Identifiers" and "Keywords"
  name : 0 < length p → letter_width p ≢ 0 → IsRun Name p → IsPiece p (Token (name_kind (keyword_of p)) (length p))
  -- "Operators and punctuation"
  sign : (op : Operator) → p ≡ operator_text op → IsPiece p (Token (kind.Op op) (length p))
  semicolon : p ≡ 59 ∷ [] → IsPiece p (Token kind.Semi 1)
  -- "Integer literals"
  int : (over value : ℕ) → is_decimal (byte_at p 0) ≡ true → over ≡ prefix_of (byte_at p 0) (byte_at p 1) → IsRun (class_of (base_of (byte_at p 0) (byte_at p 1))) (drop over p) → value_from (base_of (byte_at p 0) (byte_at p 1)) 0 true false (drop over p) ≡ Some value → value < limit → IsPiece p (Token kind.Int (length p))
  -- "Rune literals": exactly one character
  rune : (body : List ℕ) → p ≡ between 39 body → IsRun (Quoted 39) body → IsRun (Escaped 39) body → IsRun Utf8 body → rune_width body ≡ length body → IsPiece p (Token kind.Rune (length p))
  -- "String literals"
  string : (body : List ℕ) → p ≡ between 34 body → IsRun (Quoted 34) body → IsRun (Escaped 34) body → IsRun Utf8 body → IsPiece p (Token kind.Str (length p))
  raw : (body : List ℕ) → p ≡ between 96 body → IsRun Raw body → IsRun Utf8 body → IsPiece p (Token kind.Str (length p))

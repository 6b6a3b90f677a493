-- How the tokens of a file are kept. Only the code of `Tokens` needs these words.
use Rattle.std.specs.Prelude.{ℕ, ◌<◌, ◌≤◌, ◌^◌, List, length, map, All, slice_range}
use Rattle.go_syntax.specs.Token.{Token, token}
use Rattle.go_syntax.specs.declared.token.Mark.{Mark}

-- the token that a mark stands for
abbrev pub token_in : ℕ → List ℕ → Mark → Token
token_in file texts m = token file m.kind m.offset (slice_range texts m.start m.end)

-- the tokens that marks stand for
abbrev pub tokens_in : ℕ → List ℕ → List Mark → List Token
tokens_in file texts marks = map (token_in file texts) marks

-- the mark's text lies within so many bytes
abbrev pub IsWithin : ℕ → Mark → Type 0
IsWithin size m = (m.start ≤ m.end) × (m.end ≤ size)

-- all texts lie within the bytes that are kept, whose places have room in 32 bits
pub record AreKept (texts : List ℕ) (marks : List Mark) : Type 0 where
  pub fit : length texts < 2 ^ 32
  pub within : All (IsWithin (length texts)) marks

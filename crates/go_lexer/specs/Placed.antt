-- Where the tokens so far stand. Only private clauses need this; `lex` ends with `ArePlaced`.
use Rattle.std.specs.Prelude.{◌≡◌, ◌≢◌, ◌<◌, ◌≤◌, ℕ, IfSome, All}
use Rattle.go_syntax.specs.Token.{Token, Rise}
use Rattle.go_syntax.specs.declared.kind.TokenKind.TheVariants as kind
use Rattle.go_lexer.specs.declared.progress.Progress.{Progress}

-- the token stands in the file before this offset, and is no end
abbrev pub IsBefore : ℕ → ℕ → Token → Type 0
IsBefore file at t = (t.place.file ≡ file) × (t.place.offset < at) × (t.kind ≢ kind.End)

-- all tokens stand before this offset, their offsets rise, and so does that of an automatic semicolon
pub record IsPlaced (file at : ℕ) (p : Progress) : Type 0 where
  pub file_is : p.tokens.file ≡ file
  pub before : All (IsBefore file at) p.tokens.tokens
  pub rise : Rise p.tokens.tokens
  pub due_is : IfSome p.due (λ place. (place ≤ at) × All (IsBefore file place) p.tokens.tokens)

-- Tokens as contracts see them.
use Rattle.std.specs.Prelude.{◌≡◌, ◌≢◌, ◌<◌, ◌≤◌, ◌⊎◌, ℕ, List, [], ◌∷◌, ◌++◌, Option, All, slice_index_or}
use Rattle.gj_base.specs.declared.place.Place.{Place}
use Rattle.go_syntax.specs.declared.kind.TokenKind.{TokenKind}
use Rattle.go_syntax.specs.declared.kind.TokenKind.TheVariants as kind
use Rattle.go_syntax.specs.Spelling.{keyword_text, operator_text}

-- a token: its kind, where it stands, and its text
pub record Token : Type 0 where
  pub kind : TokenKind
  pub place : Place
  pub text : List ℕ

-- the tokens of a file, the file's number, and the place of its build constraint where it has one
pub record TokenList : Type 0 where
  pub file : ℕ
  pub tokens : List Token
  pub constraint : Option Place

-- the text of a token of this kind: a keyword, an operator and `;` as they are written, nothing for
-- an automatic semicolon and the end, and for all else the given text
abbrev pub text_of : TokenKind → List ℕ → List ℕ
text_of (kind.Word word) text = keyword_text word
text_of (kind.Op op) text = operator_text op
text_of kind.Semi text = 59 ∷ []
text_of kind.Auto text = []
text_of kind.End text = []
text_of kind.Name text = text
text_of kind.Int text = text
text_of kind.Rune text = text
text_of kind.Str text = text

-- a token of a file
abbrev pub token : ℕ → TokenKind → ℕ → List ℕ → Token
token file kind offset text = record { kind = kind; place = record { file = file; offset = offset }; text = text_of kind text }

-- the token at an index, past the last one an end
abbrev pub token_at : List Token → ℕ → Token
token_at tokens index = slice_index_or tokens index (token 0 kind.End 0 [])

-- the list with one token more
abbrev pub with_token : TokenList → TokenKind → ℕ → List ℕ → TokenList
with_token list kind offset text = record list { tokens = list.tokens ++ token list.file kind offset text ∷ [] }

-- the second may follow the first: its offset is higher, but for an end after an automatic semicolon
abbrev pub Follows : Token → Token → Type 0
Follows t u = (t.place.offset < u.place.offset) ⊎ ((t.kind ≡ kind.Auto) × (u.kind ≡ kind.End) × (t.place.offset ≡ u.place.offset))

-- each may follow the one before it
abbrev pub Rise : List Token → Type 0
Rise [] = Unit {0}
Rise (t ∷ []) = Unit {0}
Rise (t ∷ u ∷ ts) = Follows t u × Rise (u ∷ ts)

-- the last one is an end, and no other one is
abbrev pub AreEnded : List Token → Type 0
AreEnded [] = ⊥
AreEnded (t ∷ []) = t.kind ≡ kind.End
AreEnded (t ∷ u ∷ ts) = (t.kind ≢ kind.End) × AreEnded (u ∷ ts)

-- the token stands in this file, within its length
abbrev pub StandsIn : ℕ → ℕ → Token → Type 0
StandsIn file size t = (t.place.file ≡ file) × (t.place.offset ≤ size)

-- tokens of one file of this length, with rising offsets, the last of them its end
pub record ArePlaced (file size : ℕ) (tokens : List Token) : Type 0 where
  pub inside : All (StandsIn file size) tokens
  pub rise : Rise tokens
  pub ended : AreEnded tokens

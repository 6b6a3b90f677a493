-- Which tokens a text has, and which fault where it has none.
use Rattle.std.specs.Prelude.{◌≡◌, ◌<◌, ◌≤◌, ◌+◌, ℕ, List, [], ◌∷◌, length, take, drop}
use Rattle.gj_base.specs.declared.fault.Refusal.{Refusal}
use Rattle.gj_base.specs.declared.fault.Refusal.TheVariants as refusal
use Rattle.go_syntax.specs.Token.{TokenList}
use Rattle.go_lexer.specs.declared.step.Step.{Step}
use Rattle.go_lexer.specs.declared.step.Step.TheVariants.{Token, Blank, Break, Build, Bad}
use Rattle.go_lexer.specs.declared.progress.Progress.{Progress}
use Rattle.go_lexer.specs.Semicolons.{after_token, after_newline, after_build, after_end, start_of, mark_width}
use Rattle.go_lexer.specs.Pieces.{IsPiece}
use Rattle.go_lexer.specs.LexicalFault.{Row, IsAtMost}

-- how many bytes a piece of this sort has
abbrev pub size_of : Step → ℕ
size_of (Token kind width) = width
size_of (Blank width) = width
size_of (Break width) = width
size_of (Build width) = width
size_of (Bad place code) = 0

-- no row of a fault holds at the front of the text, and the longest piece that can stand there is of this sort
pub record IsNext (text : List ℕ) (sort : Step) : Type 0 where
  pub some : 0 < size_of sort
  pub within : size_of sort ≤ length text
  pub piece : IsPiece (take (size_of sort) text) sort
  pub longest : (n : ℕ) (other : Step) → n ≤ length text → IsPiece (take n text) other → n ≤ size_of sort
  pub no_fault : (k code : ℕ) → Row text k code → ⊥

-- from end to end the text splits into pieces of these sorts, each the longest that can stand at its place, and no row of a fault holds at these places
abbrev pub Splits : List Step → List ℕ → Type 0
Splits [] text = text ≡ []
Splits (sort ∷ sorts) text = IsNext text sort × Splits sorts (drop (size_of sort) text)

-- the same of the front of a text; the rest of it is what is left
abbrev pub SplitsTo : List Step → List ℕ → List ℕ → Type 0
SplitsTo [] text rest = text ≡ rest
SplitsTo (sort ∷ sorts) text rest = IsNext text sort × SplitsTo sorts (drop (size_of sort) text) rest

-- the tokens so far and one piece more, which begins the text at this offset
abbrev pub after_piece : ℕ → List ℕ → Progress → Step → Progress
after_piece at text old (Token kind width) = after_token kind width at text old
after_piece at text old (Blank width) = old
after_piece at text old (Break width) = after_newline old
after_piece at text old (Build width) = after_build at old
after_piece at text old (Bad place code) = old

-- the tokens of pieces of these sorts: "Semicolons" are added where a line ends, and the end is the last token
abbrev pub tokens_from : Progress → ℕ → List Step → List ℕ → TokenList
tokens_from old at [] text = after_end at old
tokens_from old at (sort ∷ sorts) text = tokens_from (after_piece at text old sort) (at + size_of sort) sorts (drop (size_of sort) text)

-- the text after its byte order mark, where it has one
abbrev pub body_of : List ℕ → List ℕ
body_of text = drop (mark_width text) text

-- the text of the file with this number has these tokens
pub record AreTokensOf (file : ℕ) (text : List ℕ) (tokens : TokenList) : Type 0 where
  pub sorts : List Step
  pub splits : Splits sorts (body_of text)
  pub are : tokens ≡ tokens_from (start_of file) (mark_width text) sorts (body_of text)

-- a row with this code holds at this offset: the text before some place splits, and the row holds at that place, so many bytes on
pub record HoldsAt (text : List ℕ) (offset code : ℕ) : Type 0 where
  pub sorts : List Step
  pub rest : List ℕ
  pub splits : SplitsTo sorts (body_of text) rest
  pub place : ℕ
  pub row : Row rest place code
  pub offset_is : offset + length rest ≡ length text + place

-- the fault of a text: the row at the least offset, and of several rows there the one with the least code
pub record IsFaultOf (text : List ℕ) (offset code : ℕ) : Type 0 where
  pub holds : HoldsAt text offset code
  pub least : (offset' code' : ℕ) → HoldsAt text offset' code' → IsAtMost offset code offset' code'

-- the text of the file with this number has these tokens, and no others
pub record HasTokens (file : ℕ) (text : List ℕ) (tokens : TokenList) : Type 0 where
  pub are : AreTokensOf file text tokens
  pub only : (others : TokenList) → AreTokensOf file text others → others ≡ tokens

-- the text has this fault, and so no tokens
pub record HasFault (text : List ℕ) (offset code : ℕ) : Type 0 where
  pub is : IsFaultOf text offset code
  pub none : (file : ℕ) (tokens : TokenList) → AreTokensOf file text tokens → ⊥

-- the refusal tells the text's fault, in this file and with no text of its own, or want of memory
abbrev pub TellsFault : Refusal → ℕ → List ℕ → Type 0
TellsFault (refusal.Fault fault) file text = (fault.place.file ≡ file) × (fault.text ≡ []) × HasFault text fault.place.offset fault.code
TellsFault refusal.NoMemory file text = Unit {0}

-- Each file by itself: its tokens and its tree, or its lexical or syntax fault.
use Rattle.std.specs.Prelude.{◌≡◌, ◌+◌, ℕ, true, false, List, [], ◌∷◌, Option, Some, None, option_map}
use Rattle.std.specs.List.{filter_map}
use Rattle.gj_base.specs.declared.place.Place.{Place}
use Rattle.gj_base.specs.declared.fault.Fault.{Fault}
use Rattle.go_syntax.specs.Tree as t
use Rattle.go_syntax.specs.Token.{Token, TokenList, token_at}
use Rattle.go_lexer.specs.Tokens.{HasTokens, HasFault}
use Rattle.go_grammar.specs.Files.{IsFile}
use Rattle.go_grammar.specs.Limits.{file_fits}
use Rattle.go_grammar.specs.Parsed as all
use Rattle.go_load.specs.declared.sources.FileEntry.{FileEntry}

-- what a file is by itself
pub data Reading : Type 0 where
  -- past the limit
  Long : Reading
  -- a text without tokens, with its lexical fault
  Unlexed : Fault → Reading
  -- tokens without a tree, with their syntax fault
  Unparsed : Fault → Reading
  -- a tree, with the offsets of the first token and of the build constraint
  Parsed : ℕ → Option ℕ → t.File → Reading

-- the tokens derive this tree, and it keeps the limits of nesting
pub record HasTree (tokens : List Token) (tree : t.File) : Type 0 where
  pub derived : IsFile tokens tree
  pub fits : file_fits tree ≡ true

-- the tokens of the file with this number have no tree, and this is their fault
pub record HasSyntaxFault (number : ℕ) (tokens : List Token) (fault : Fault) : Type 0 where
  pub none : (tree : t.File) → HasTree tokens tree → ⊥
  pub at : Place
  pub told : all.parsed tokens ≡ all.Fault fault.code at fault.text
  pub place : fault.place ≡ record { file = number; offset = at.offset }

-- the text of the file with this number has no tokens, and this is its fault
pub record HasLexicalFault (number : ℕ) (text : List ℕ) (fault : Fault) : Type 0 where
  pub row : HasFault text fault.place.offset fault.code
  pub place : fault.place.file ≡ number
  pub told : fault.text ≡ []

-- what comes of the tokens of the file with this number
abbrev pub ComesOf : ℕ → TokenList → Reading → Type 0
ComesOf number tokens Long = ⊥
ComesOf number tokens (Unlexed fault) = ⊥
ComesOf number tokens (Unparsed fault) = HasSyntaxFault number tokens.tokens fault
ComesOf number tokens (Parsed start constraint tree) =
    HasTree tokens.tokens tree × (start ≡ (token_at tokens.tokens 0).place.offset) × (constraint ≡ option_map (λ p. p.offset) tokens.constraint)

-- what the file with this number is
abbrev pub IsReading : ℕ → FileEntry → Reading → Type 0
IsReading number entry Long = entry.too_long ≡ true
IsReading number entry (Unlexed fault) = (entry.too_long ≡ false) × HasLexicalFault number entry.bytes fault
IsReading number entry (Unparsed fault) = (entry.too_long ≡ false) × ((tokens : TokenList) × HasTokens number entry.bytes tokens × ComesOf number tokens (Unparsed fault))
IsReading number entry (Parsed start constraint tree) = (entry.too_long ≡ false) × ((tokens : TokenList) × HasTokens number entry.bytes tokens × ComesOf number tokens (Parsed start constraint tree))

-- what the files are, of which the first has this number
abbrev pub AreReadings : ℕ → List FileEntry → List Reading → Type 0
AreReadings number [] [] = Unit {0}
AreReadings number [] (r ∷ rs) = ⊥
AreReadings number (e ∷ es) [] = ⊥
AreReadings number (e ∷ es) (r ∷ rs) = IsReading number e r × AreReadings (number + 1) es rs

-- the tree of a file, where it has one
abbrev pub tree_of : Reading → Option t.File
tree_of Long = None
tree_of (Unlexed fault) = None
tree_of (Unparsed fault) = None
tree_of (Parsed start constraint tree) = Some tree

abbrev pub trees_of : List Reading → List t.File
trees_of rs = filter_map tree_of rs

-- the trees are those of the bytes of the files, of which the first has this number
abbrev pub AreTrees : ℕ → List FileEntry → List t.File → Type 0
AreTrees number [] [] = Unit {0}
AreTrees number [] (x ∷ xs) = ⊥
AreTrees number (e ∷ es) [] = ⊥
AreTrees number (e ∷ es) (x ∷ xs) = ((tokens : TokenList) × HasTokens number e.bytes tokens × HasTree tokens.tokens x) × AreTrees (number + 1) es xs

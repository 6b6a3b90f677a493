-- The tokens of a text, or its fault, read from left to right. `specs/Tokens.antt` says what they are.
use Rattle.std.specs.Prelude.{◌≡◌, ◌<◌, ◌≤◌, ℕ, zero, suc, List, [], ◌∷◌, ◌+◌, ◌-◌, length}
use Rattle.gj_base.specs.declared.fault.Refusal.{Refusal}
use Rattle.gj_base.specs.declared.fault.Refusal.TheVariants as refusal
use Rattle.go_syntax.specs.Token.{TokenList}
use Rattle.go_lexer.specs.Steps.{step_at}
use Rattle.go_lexer.specs.declared.step.Step.TheVariants.{Token, Blank, Break, Build, Bad}
use Rattle.go_lexer.specs.declared.progress.Progress.{Progress}
unfoldable pub use Rattle.go_lexer.specs.Semicolons.{after_token, after_newline, after_build, after_end, mark_width}
pub use Rattle.go_lexer.specs.Semicolons.{word_ends_line, operator_ends_line, ends_line, passed, with_auto, with_constraint, start_of}

-- the tokens, or the offset and the code of the fault
pub data Lexed : Type 0 where
  Found : TokenList → Lexed
  Faulty : ℕ → ℕ → Lexed

-- the rest of the text at this offset, after the bytes that are passed over
abbrev pub lexed_from : Progress → ℕ → ℕ → List ℕ → Lexed
lexed_from old over at [] = Found (after_end at old)
lexed_from old (suc over) at (b ∷ text) = lexed_from old over (suc at) text
lexed_from old zero at (b ∷ text) =
    elim (step_at (b ∷ text)) [
      | Token kind width ↦ lexed_from (after_token kind width at (b ∷ text) old) (width - 1) (suc at) text
      | Blank width ↦ lexed_from old (width - 1) (suc at) text
      | Break width ↦ lexed_from (after_newline old) (width - 1) (suc at) text
      | Build width ↦ lexed_from (after_build at old) (width - 1) (suc at) text
      | Bad place code ↦ Faulty (at + place) code
    ]

unfoldable pub lexed : ℕ → List ℕ → Lexed
lexed file text = lexed_from (start_of file) (mark_width text) 0 text

-- the refusal tells this answer: the fault, in this file and with no text of its own, or want of memory
abbrev pub Tells : Refusal → ℕ → Lexed → Type 0
Tells (refusal.Fault fault) file answer = (fault.place.file ≡ file) × (fault.text ≡ []) × (answer ≡ Faulty fault.place.offset fault.code)
Tells refusal.NoMemory file answer = Unit {0}

-- after one piece: so many bytes are passed over, and the answer stays what it was
pub record Took (width at : ℕ) (text : List ℕ) (file : ℕ) (old new : Progress) : Type 0 where
  pub same : lexed_from old 0 at text ≡ lexed_from new width at text
  pub some : 0 < width
  pub within : width ≤ length text

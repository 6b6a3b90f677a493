-- What a refusal of the parser says of the tokens.
use Rattle.std.specs.Prelude.{◌≡◌, true, [], List}
use Rattle.gj_base.specs.declared.fault.Refusal.{Refusal}
use Rattle.gj_base.specs.declared.fault.Refusal.TheVariants as refusal
use Rattle.go_syntax.specs.Tree as t
use Rattle.go_syntax.specs.Token.{Token}
use Rattle.go_grammar.specs.Files.{IsFile}
use Rattle.go_grammar.specs.Limits.{file_fits}
use Rattle.go_grammar.specs.Parsed.{Outcome, Fault}

-- the refusal tells this outcome, or want of memory
abbrev pub Tells : Refusal → Outcome → Type 0
Tells (refusal.Fault x) outcome = outcome ≡ Fault x.code x.place x.text
Tells refusal.NoMemory outcome = Unit {0}

-- a fault says that the tokens derive no file within the limits
abbrev pub NoFile : Refusal → List Token → Type 0
NoFile (refusal.Fault x) us = (f : t.File) → IsFile us f → file_fits f ≡ true → ⊥
NoFile refusal.NoMemory us = Unit {0}

-- what comes of tokens that end before the file
abbrev pub no_outcome : Outcome
no_outcome = Fault 10 (record { file = 0; offset = 0 }) []

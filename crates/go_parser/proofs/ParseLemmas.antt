-- What the machine's outcome says of the grammar.
use Rattle.std.proofs.Common.{◌≡◌, List, true}
use Rattle.gj_base.specs.declared.fault.Refusal.{Refusal}
use Rattle.gj_base.specs.declared.fault.Refusal.TheVariants as refusal
use Rattle.go_syntax.specs.Tree as t
use Rattle.go_syntax.specs.Token.{Token}
use Rattle.go_grammar.specs.Files.{IsFile}
use Rattle.go_grammar.specs.Limits.{file_fits}
use Rattle.go_grammar.specs.Parsed.{parsed, Tree}
use Rattle.go_grammar.specs.Laws.{ReadsAllFiles}
use Rattle.go_parser.specs.Outcomes.{NoFile, Tells}

-- a fault of the machine says that there is no file
pub no_file : ReadsAllFiles → (us : List Token) (e : Refusal) → Tells e (parsed us) → NoFile e us
no_file all us (refusal.Fault x) told = λ (f : t.File) (is : IsFile us f) (fits : file_fits f ≡ true). let q : parsed us ≡ Tree f = all us f is fits in cc
no_file all us refusal.NoMemory told = tt

-- The laws that join the machine of `specs/Parsed.antt` with the grammar: `parsed` gives a tree exactly
-- where the tokens derive it within the limits, so that tokens have at most one tree.
use Rattle.std.specs.Prelude.{◌≡◌, true, List}
use Rattle.go_syntax.specs.Tree as t
use Rattle.go_syntax.specs.Token.{Token}
use Rattle.go_grammar.specs.Files.{IsFile}
use Rattle.go_grammar.specs.Limits.{file_fits}
use Rattle.go_grammar.specs.Parsed.{parsed, Tree}

-- a tree that is read is one that the tokens derive, within the limits
abbrev pub ReadsOnlyFiles : Type 0
ReadsOnlyFiles = (us : List Token) (f : t.File) → parsed us ≡ Tree f → IsFile us f × (file_fits f ≡ true)

-- every tree that the tokens derive within the limits is read
abbrev pub ReadsAllFiles : Type 0
ReadsAllFiles = (us : List Token) (f : t.File) → IsFile us f → file_fits f ≡ true → parsed us ≡ Tree f

-- tokens derive at most one tree within the limits
abbrev pub DerivesOneFile : Type 0
DerivesOneFile = (us : List Token) (f g : t.File) → IsFile us f → file_fits f ≡ true → IsFile us g → file_fits g ≡ true → f ≡ g

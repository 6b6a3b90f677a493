-- A text that results are, for private clauses.
use Rattle.std.specs.Prelude.{ℕ, List, [], ◌∷◌, Option, Some, None}
use Rattle.go_core.specs.Memory as core
use Rattle.go_core.specs.Memory.{Value}

abbrev pub text_scalar : core.Scalar → Option (List ℕ)
text_scalar (core.text bytes) = Some bytes
text_scalar x = None

abbrev pub text_of : Value → Option (List ℕ)
text_of (x ∷ []) = text_scalar x
text_of v = None

-- one result, a text
abbrev pub told_of : List Value → Option (List ℕ)
told_of (v ∷ []) = text_of v
told_of vs = None

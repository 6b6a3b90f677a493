-- Own: what the types of a signature in code stand for.
use Rattle.std.specs.Prelude.{ℕ, List, [], ◌∷◌, Option, Some}
use Rattle.go_type.specs.Tree.{Ty, Tys, no_tys}
use Rattle.go_type.specs.Levels.{trees_of, IdsBelow}
use Rattle.go_typing.specs.Signature.{SigTypes, and_type}
use Rattle.go_decls.specs.declared.signatures.signature.SigTypes as code

-- all types, where each is known
abbrev pub all_of : List (Option Ty) → Option Tys
all_of [] = Some no_tys
all_of (u ∷ us) = and_type u (all_of us)

abbrev pub sig_found : List Ty → code.SigTypes → SigTypes
sig_found ts s = record { params = trees_of ts s.params.items; results = trees_of ts s.results.items }

-- the types are among the first n
abbrev pub SigFoundBelow : ℕ → code.SigTypes → Type 0
SigFoundBelow n s = IdsBelow n s.params.items × IdsBelow n s.results.items

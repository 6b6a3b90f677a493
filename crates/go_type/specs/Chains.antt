-- Chains of embedded fields.
use Rattle.std.specs.Prelude.{ℕ, zero, suc, Bool, true, false, List, [], ◌∷◌, ◌++◌}
use Rattle.std.specs.List.{list_any}
use Rattle.go_type.specs.Tree.{Ty, Fields, no_fields, more_fields}
use Rattle.go_type.specs.Named.{NamedTy}
use Rattle.go_type.specs.Underlying.{underlying}
use Rattle.go_type.specs.Members.{fields_in, base_of}

abbrev pub when_embedded : Bool → Ty → List Ty
when_embedded true t = base_of t ∷ []
when_embedded false t = []

abbrev pub bases_of : Fields → List Ty
bases_of no_fields = []
bases_of (more_fields name package_ t embedded tag fs) = when_embedded embedded t ++ bases_of fs

-- the types that a type embeds
abbrev pub embeds : List NamedTy → Ty → List Ty
embeds ns t = bases_of (fields_in (underlying ns t))

-- a chain of so many embedded fields begins here
unfoldable pub goes_deep : List NamedTy → ℕ → Ty → Bool
goes_deep ns zero t = true
goes_deep ns (suc d) t = list_any (goes_deep ns d) (embeds ns t)

-- A program whose table has each type that the program mentions, and programs whose tables haven't.
use Rattle.std.specs.Prelude.{List, [], ◌∷◌}
use Rattle.go_type.specs.Tree as ty
use Rattle.go_type.specs.Tree.{Ty}
use Rattle.go_core.specs.CoreTree.{CoreProgram}
use Rattle.go_core.specs.MeaningWords.{int, hidden}
use Rattle.go_core.specs.SoundSample.{sample}
use Rattle.go_core.specs.Listed.{IsListed}

abbrev pub with_types : List Ty → CoreProgram
with_types ts = record sample { types = ts }

abbrev pub sample_types : List Ty
sample_types = hidden ∷ ty.str ∷ int ∷ ty.bool ∷ []

abbrev pub SampleIsListed : Type 0
SampleIsListed = IsListed (with_types sample_types)

-- the type of run-time panics is in no table without types
abbrev pub MentionedAreListed : Type 0
MentionedAreListed = IsListed (with_types []) → ⊥

-- `bool`, which a comparison has, is left out
abbrev pub types_of_no_comparison : List Ty
types_of_no_comparison = hidden ∷ ty.str ∷ int ∷ []

abbrev pub NodesAreListed : Type 0
NodesAreListed = IsListed (with_types types_of_no_comparison) → ⊥

-- `[]*int` without `*int`
abbrev pub types_without_part : List Ty
types_without_part = ty.slice (ty.pointer int) ∷ sample_types

abbrev pub PartsAreListed : Type 0
PartsAreListed = IsListed (with_types types_without_part) → ⊥

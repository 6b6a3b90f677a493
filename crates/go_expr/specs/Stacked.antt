-- Own: what a node does to the parts that wait and to the faults that are told.
use Rattle.std.specs.Prelude.{ℕ, ◌≡◌, List, [], ◌∷◌, ◌++◌, Bool, Option, Some, None, map, is_some, Box, if◌then◌else◌}
use Rattle.std.specs.declared.alloc.Global.{Global}
use Rattle.gj_base.specs.declared.place.Place.{Place}
use Rattle.go_type.specs.Tree.{Ty}
use Rattle.go_typing.specs.Answer.{Answer, Part, own}
use Rattle.go_operands.specs.AnswerView.{flaw_view, answer_view}
use Rattle.go_operands.specs.declared.answers.answer.Answer as code_answer
use Rattle.go_operands.specs.declared.answers.answer.Flaw as code
use Rattle.go_operands.specs.declared.operands.part.Part as code_part
use Rattle.go_operands.specs.Parts.{part, part_view}
use Rattle.go_calls.specs.CallView.{parts_view}
use Rattle.go_binary.specs.IndexView.{bound_view}

-- one part more waits, and its own faults are told
pub record Hears (ts : List Ty) (at : Place) (a : Answer) (old new : List code_part.Part) (before after : List code.Flaw) : Type 0 where
  pub parts : parts_view ts new ≡ parts_view ts old ++ part at a ∷ []
  pub flaws : map flaw_view after ≡ map flaw_view before ++ own a

-- the last one is taken away
pub record Takes (ts : List Ty) (x : code_part.Part) (old new : List code_part.Part) : Type 0 where
  pub split : (rest : List Part) (y : Part) → parts_view ts old ≡ rest ++ y ∷ [] → (parts_view ts new ≡ rest) × (part_view ts x ≡ y)

abbrev pub one_part : Option Part → List Part
one_part None = []
one_part (Some x) = x ∷ []

-- the last one is taken away, where there is one
pub record TakesBound (ts : List Ty) (there : Bool) (x : Option (Box code_part.Part Global)) (old new : List code_part.Part) : Type 0 where
  pub split : (rest : List Part) (o : Option Part) → is_some o ≡ there → parts_view ts old ≡ rest ++ one_part o → (parts_view ts new ≡ rest) × (bound_view ts x ≡ o)

-- a node takes the place of its part
pub record DoesOne (ts : List Ty) (at : Place) (row : Part → Answer) (old new : List code_part.Part) (before after : List code.Flaw) : Type 0 where
  pub parts : (rest : List Part) (x : Part) → parts_view ts old ≡ rest ++ x ∷ [] → parts_view ts new ≡ rest ++ part at (row x) ∷ []
  pub flaws : (rest : List Part) (x : Part) → parts_view ts old ≡ rest ++ x ∷ [] → map flaw_view after ≡ map flaw_view before ++ own (row x)

-- of its two parts
pub record DoesTwo (ts : List Ty) (at : Place) (row : Part → Part → Answer) (old new : List code_part.Part) (before after : List code.Flaw) : Type 0 where
  pub parts : (rest : List Part) (x y : Part) → parts_view ts old ≡ (rest ++ x ∷ []) ++ y ∷ [] → parts_view ts new ≡ rest ++ part at (row x y) ∷ []
  pub flaws : (rest : List Part) (x y : Part) → parts_view ts old ≡ (rest ++ x ∷ []) ++ y ∷ [] → map flaw_view after ≡ map flaw_view before ++ own (row x y)

abbrev pub counted : Bool → ℕ
counted b = if b then 1 else 0

-- the parts of a slice expression as they wait: what is sliced, and the bounds that there are
abbrev pub waiting : List Part → Part → (low high most : Option Part) → List Part
waiting rest x low high most = (((rest ++ x ∷ []) ++ one_part low) ++ one_part high) ++ one_part most

-- of what is sliced and its bounds
pub record DoesSlice (ts : List Ty) (at : Place) (row : Part → (low high most : Option Part) → Answer) (has_low has_high has_most : Bool) (old new : List code_part.Part) (before after : List code.Flaw) : Type 0 where
  pub parts : (rest : List Part) (x : Part) (low high most : Option Part) → is_some low ≡ has_low → is_some high ≡ has_high → is_some most ≡ has_most
      → parts_view ts old ≡ waiting rest x low high most → parts_view ts new ≡ rest ++ part at (row x low high most) ∷ []
  pub flaws : (rest : List Part) (x : Part) (low high most : Option Part) → is_some low ≡ has_low → is_some high ≡ has_high → is_some most ≡ has_most
      → parts_view ts old ≡ waiting rest x low high most → map flaw_view after ≡ map flaw_view before ++ own (row x low high most)

-- what is sliced is taken away with its lower bound; the others are there
pub record WithLow (ts : List Ty) (row : Part → (low high most : Option Part) → Answer) (has_low : Bool) (high most : Option Part) (a : code_answer.Answer) (old new : List code_part.Part) : Type 0 where
  pub split : (rest : List Part) (x : Part) (low : Option Part) → is_some low ≡ has_low → parts_view ts old ≡ (rest ++ x ∷ []) ++ one_part low
      → (parts_view ts new ≡ rest) × (answer_view ts a ≡ row x low high most)

-- with its lower bounds; the last one is there
pub record WithHigh (ts : List Ty) (row : Part → (low high most : Option Part) → Answer) (has_low has_high : Bool) (most : Option Part) (a : code_answer.Answer) (old new : List code_part.Part) : Type 0 where
  pub split : (rest : List Part) (x : Part) (low high : Option Part) → is_some low ≡ has_low → is_some high ≡ has_high → parts_view ts old ≡ ((rest ++ x ∷ []) ++ one_part low) ++ one_part high
      → (parts_view ts new ≡ rest) × (answer_view ts a ≡ row x low high most)

-- What an index and what is indexed stand for: those of the definitions, with types as trees.
use Rattle.std.specs.Prelude.{ℕ, ◌<◌, List, [], Option, Some, None, IfSome, Box}
use Rattle.std.specs.declared.alloc.Global.{Global}
use Rattle.go_type.specs.Tree.{Ty}
use Rattle.go_type.specs.Levels.{tree_of}
use Rattle.go_core.specs.CoreView.{expr_view}
use Rattle.go_type.specs.Named.{NamedTy}
use Rattle.go_typing.specs.Index as rows
use Rattle.go_typing.specs.Answer as rows_answer
use Rattle.go_typing.specs.Answer.{Flaw}
use Rattle.go_typing.specs.Wanted.{no_value}
use Rattle.go_operands.specs.AnswerView.{flaws_view, first_of, others_of}
use Rattle.go_operands.specs.declared.operands.part.Part.{Part}
use Rattle.go_operands.specs.Parts.{part_view, PartBelow}
use Rattle.go_operands.specs.Boxes.{boxes_view, BoxBelow}
use Rattle.go_binary.specs.declared.indexes.kinds.Indexed.{Indexed}
use Rattle.go_binary.specs.declared.indexes.kinds.Indexed.TheVariants as indexed
use Rattle.go_binary.specs.declared.indexes.kinds.Index.{Index}
use Rattle.go_binary.specs.declared.indexes.kinds.Index.TheVariants as «index»
use Rattle.go_binary.specs.declared.indexes.kinds.Edge.{Edge}
use Rattle.go_binary.specs.declared.indexes.kinds.Valued.{Valued}
use Rattle.go_binary.specs.declared.indexes.kinds.Edge.TheVariants as edges

abbrev pub indexed_view : List Ty → Indexed → rows.Indexed
indexed_view ts (indexed.Text c t limit) = rows.of_text (expr_view ts c) (tree_of ts t) limit
indexed_view ts indexed.Unbuilt = rows.of_unbuilt
indexed_view ts indexed.Other = rows.of_other
indexed_view ts (indexed.Unfit fs) = rows.unfit (first_of (flaws_view fs)) (others_of (flaws_view fs))

abbrev pub index_view : List Ty → Index → rows.Index
index_view ts («index».Value c n) = rows.index (expr_view ts c) n
index_view ts «index».None = rows.no_index
index_view ts («index».Unfit fs) = rows.unfit_index (first_of (flaws_view fs)) (others_of (flaws_view fs))

abbrev pub edge_view : List Ty → Edge → rows.Edge
edge_view ts edges.Open = rows.no_edge
edge_view ts (edges.At q i) = rows.edge q (index_view ts i.value)

-- the type of what is indexed is one of the first n
abbrev pub IndexedBelow : ℕ → Indexed → Type 0
IndexedBelow n (indexed.Text c t limit) = t.0 < n
IndexedBelow n _ = Unit {0}

-- a bound in its box
abbrev pub bound_view : List Ty → Option (Box Part Global) → Option rows_answer.Part
bound_view ts None = None
bound_view ts (Some p) = Some (part_view ts p.value)

abbrev pub BoundBelow : ℕ → Box Part Global → Type 0
BoundBelow n p = PartBelow n p.value

-- the faults of a bound that is no value, and the bound that it is
abbrev pub no_value_of : List Ty → Option Valued → List Flaw
no_value_of ts None = []
no_value_of ts (Some x) = no_value x.place (boxes_view ts x.value)

module _ (ts : List Ty) (ns : List NamedTy) where
  abbrev pub edge_of_valued : Option Valued → rows.Edge
  edge_of_valued None = rows.no_edge
  edge_of_valued (Some x) = rows.edge_at ns x.place (boxes_view ts x.value)

abbrev pub ValuedBelow : ℕ → Valued → Type 0
ValuedBelow n x = IfSome x.value (BoxBelow n)

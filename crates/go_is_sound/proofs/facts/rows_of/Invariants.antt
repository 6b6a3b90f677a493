use Rattle.go_core.specs.CoreView.{program_view}
use Rattle.go_sound_parts.specs.Index.{OwnRows}
use Rattle.go_is_sound.specs.Facts.{RowsKnown}
use Rattle.go_is_sound.specs.Rows.{AreDeclared}
use Rattle.go_is_sound.proofs.facts.rows_of.Given as goal

abbrev pub invariant-types : goal.invariant-types
invariant-types l =
    (OwnRows (program_view l.p) → RowsKnown l.p l.found.items l.i) × (AreDeclared (program_view l.p) l.fn.done.items → AreDeclared (program_view l.p) l.done.items)

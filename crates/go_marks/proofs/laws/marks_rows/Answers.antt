use Rattle.go_marks.proofs.MarksLemmas as marked
use Rattle.go_marks.proofs.laws.marks_rows.Goals as goal

pub returns : goal.returns
returns c = record { rows = marked.marks_rows }

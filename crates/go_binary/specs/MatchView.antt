-- What two operands at one type stand for.
use Rattle.std.specs.Prelude.{ℕ, ◌<◌, List}
use Rattle.go_type.specs.Tree.{Ty}
use Rattle.go_type.specs.Levels.{tree_of}
use Rattle.go_core.specs.CoreView.{expr_view}
use Rattle.go_typing.specs.Binary as rows
use Rattle.go_operands.specs.AnswerView.{flaws_view, first_of, others_of, pending_view}
use Rattle.go_binary.specs.declared.matched.sides.Match.{Match}
use Rattle.go_binary.specs.declared.matched.sides.Match.TheVariants as sides

abbrev pub match_view : List Ty → Match → rows.Match
match_view ts (sides.Alike t a b) = rows.alike (tree_of ts t) (expr_view ts a.core) a.value (expr_view ts b.core) b.value
match_view ts (sides.Constants k l) = rows.constants k l
match_view ts (sides.Truths c d) = rows.truths (expr_view ts c) (expr_view ts d)
match_view ts (sides.Numbers p q b) = rows.numbers (pending_view ts p) (pending_view ts q) b
match_view ts (sides.Unfit fs) = rows.unfit (first_of (flaws_view fs)) (others_of (flaws_view fs))
match_view ts sides.Differ = rows.differ

-- the type of both is one of the first n
abbrev pub MatchBelow : ℕ → Match → Type 0
MatchBelow n (sides.Alike t a b) = t.0 < n
MatchBelow n _ = Unit {0}

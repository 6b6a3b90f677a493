use Rattle.std.proofs.Common.{◌≡◌, ◌++◌, map, vec_len}
use Rattle.go_type.specs.Table.{size}
use Rattle.go_operands.specs.AnswerView.{flaw_view}
use Rattle.go_operands.specs.EnvView.{table_of}
use Rattle.go_calls.specs.Words.{types_of}
use Rattle.go_assign.specs.LeftView.{lefts_view, LeftsBelow}
use Rattle.go_assign.specs.Assigning.{all_flaws}
use Rattle.go_assign.proofs.assign.each.lefts_told.Given as goal

-- those that are left
abbrev pub invariant-loop-left : goal.invariant-loop-left
invariant-loop-left l = record {
  lefts : LeftsBelow (size (table_of l.env)) l.lefts;
  told : map flaw_view l.flaws.items ++ all_flaws (lefts_view (types_of l.env) l.lefts) ≡ map flaw_view l.initial.flaws.items ++ all_flaws (lefts_view (types_of l.env) l.initial.lefts);
}

abbrev pub decreases-loop-left : goal.decreases-loop-left
decreases-loop-left l = vec_len l.lefts.items

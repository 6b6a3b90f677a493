use Rattle.std.proofs.Common.{◌≡◌, ◌++◌, map, vec_len}
use Rattle.go_type.specs.Table.{size}
use Rattle.go_operands.specs.AnswerView.{flaw_view}
use Rattle.go_operands.specs.EnvView.{table_of}
use Rattle.go_calls.specs.Words.{types_of}
use Rattle.go_define.specs.FreshView.{freshes_view, FreshesBelow}
use Rattle.go_define.specs.Defining.{spots_flaws}
use Rattle.go_define.proofs.define.all.olds_told.Given as goal

-- those that are left
abbrev pub invariant-loop-fresh : goal.invariant-loop-fresh
invariant-loop-fresh l = record {
  freshes : FreshesBelow (size (table_of l.env)) l.freshes;
  told : map flaw_view l.flaws.items ++ spots_flaws (freshes_view (types_of l.env) l.freshes) ≡ map flaw_view l.initial.flaws.items ++ spots_flaws (freshes_view (types_of l.env) l.initial.freshes);
}

abbrev pub decreases-loop-fresh : goal.decreases-loop-fresh
decreases-loop-fresh l = vec_len l.freshes.items

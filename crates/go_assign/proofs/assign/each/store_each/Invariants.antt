use Rattle.std.proofs.Common.{vec_len}
use Rattle.go_type.specs.Table.{size}
use Rattle.go_operands.specs.EnvView.{table_of}
use Rattle.go_calls.specs.Words.{types_of, names_of}
use Rattle.go_expr.specs.Raw.{raws_view, RawsBelow}
use Rattle.go_assign.specs.LeftView.{lefts_view, LeftsBelow}
use Rattle.go_assign.specs.Assigning.{paired, Stores}
use Rattle.go_assign.proofs.assign.each.store_each.Given as goal

-- those that are left
abbrev pub invariant-loop-left : goal.invariant-loop-left
invariant-loop-left l = record {
  lefts : LeftsBelow (size (table_of l.env)) l.lefts;
  raws : RawsBelow (size (table_of l.env)) l.raws;
  stores : Stores (table_of l.env) (paired (names_of l.env) (lefts_view (types_of l.env) l.lefts) (raws_view (types_of l.env) l.raws)) (paired (names_of l.env) (lefts_view (types_of l.env) l.initial.lefts) (raws_view (types_of l.env) l.initial.raws)) l.initial.targets.items l.targets.items l.initial.cores.items l.cores.items l.initial.flaws.items l.flaws.items;
}

abbrev pub decreases-loop-left : goal.decreases-loop-left
decreases-loop-left l = vec_len l.lefts.items

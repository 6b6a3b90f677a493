use Rattle.std.proofs.Common.{◌≡◌, List, drop}
use Rattle.go_type.specs.Table.{size}
use Rattle.go_core.specs.declared.statement.CoreStmt.{CoreStmt}
use Rattle.go_operands.specs.EnvView.{table_of}
use Rattle.go_calls.specs.Words.{types_of, names_of}
use Rattle.go_expr.specs.Raw.{raws_view, RawsBelow}
use Rattle.go_assign.specs.SpecView.{spec_view}
use Rattle.go_body.specs.LocalVarsLeft.{DoesLeft}
use Rattle.go_body.specs.LocalConstsSpecs.{const_raws}
use Rattle.go_body.proofs.local_consts.consts.each_const.Given as goal

-- what was done so far, with what is left
abbrev pub invariant-loop-n : goal.invariant-loop-n
invariant-loop-n l = record {
  does : (out : List CoreStmt)
      → DoesLeft (const_raws (names_of l.initial.walk.env) (spec_view (types_of l.initial.walk.env) l.s) l.names (raws_view (types_of l.initial.walk.env) l.initial.raws)) (const_raws (names_of l.initial.walk.env) (spec_view (types_of l.initial.walk.env) l.s) (drop l.n-index l.names) (raws_view (types_of l.initial.walk.env) l.raws))
      l.initial.walk l.walk l.initial.flaws.items l.flaws.items out out;
  within : RawsBelow (size (table_of l.walk.env)) l.raws;
  table : table_of l.walk.env ≡ table_of l.initial.walk.env;
}

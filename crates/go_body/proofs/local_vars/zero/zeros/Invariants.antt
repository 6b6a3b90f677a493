use Rattle.std.proofs.Common.{◌≡◌, drop}
use Rattle.go_operands.specs.EnvView.{table_of}
use Rattle.go_calls.specs.Words.{types_of}
use Rattle.go_typing.specs.Declare.{var_zero}
use Rattle.go_assign.specs.SpecView.{spec_view}
use Rattle.go_body.specs.LocalVarsLeft.{DoesLeft}
use Rattle.go_body.proofs.local_vars.zero.zeros.Given as goal

-- what was done so far, with what is left
abbrev pub invariant-loop-n : goal.invariant-loop-n
invariant-loop-n l = record {
  left : DoesLeft (var_zero (spec_view (types_of l.initial.walk.env) l.fn.s) l.names) (var_zero (spec_view (types_of l.initial.walk.env) l.fn.s) (drop l.n-index l.names)) l.initial.walk l.walk l.initial.flaws.items l.flaws.items l.initial.out.items l.out.items;
  table : table_of l.walk.env ≡ table_of l.initial.walk.env;
}

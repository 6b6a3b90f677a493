use Rattle.std.proofs.Common.{◌≡◌, List, drop, map}
use Rattle.go_type.specs.Tree.{Ty}
use Rattle.go_syntax.specs.View.{expr_view, exprs_of}
use Rattle.go_typing.specs.Assign.{fresh_uses}
use Rattle.go_walk.specs.WalkView.{walk_of}
use Rattle.go_define.proofs.define.uses.fresh_uses.Given as goal

-- those that are left
abbrev pub invariant-loop-e : goal.invariant-loop-e
invariant-loop-e l = record {
  value : (ts : List Ty) → fresh_uses (exprs_of (map expr_view (drop l.e-index l.es))) (walk_of ts l.walk) ≡ fresh_uses (exprs_of (map expr_view l.es)) (walk_of ts l.initial.walk);
  env : l.walk.env ≡ l.initial.walk.env;
}

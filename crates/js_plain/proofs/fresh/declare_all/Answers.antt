use Rattle.std.proofs.Common.{List, subst}
use Rattle.go_core.specs.declared.node.VarId.{VarId}
use Rattle.js_plain.specs.Fresh.{RunsVars, all_declared}
use Rattle.js_plain.proofs.fresh.declare_all.Goals as goal

pub returns : goal.returns
returns c = record {
  runs = subst (λ (vs : List VarId). RunsVars c.args.b.now c.declare_each.new.b vs (all_declared vs)) c.as_slice.ensures.value c.declare_each.ensures;
  none = c.truncate.ensures.items;
}

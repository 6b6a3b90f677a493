use Rattle.std.proofs.Common.{◌≡◌, ◌≤◌, length, drop, map}
use Rattle.std.specs.Prelude.{reverse}
use Rattle.go_syntax.specs.Tree as t
use Rattle.go_syntax.specs.View.{param_view, joined}
use Rattle.go_typing.specs.Signature.{grouped, next_named}
use Rattle.go_items.specs.ParamView.{grouped_view, typed_view}
use Rattle.go_items.proofs.items.param.in_groups.Given as goal

-- those behind, from the last to the first, and the next one that has a name and a type
abbrev pub invariant-loop-i : goal.invariant-loop-i
invariant-loop-i l = record {
  within : l.i ≤ length l.params;
  groups : map grouped_view l.all.items ≡ reverse (grouped (joined (map param_view (drop l.i l.params)) t.NoParams));
  next : typed_view l.next ≡ next_named (joined (map param_view (drop l.i l.params)) t.NoParams);
}

abbrev pub decreases-loop-i : goal.decreases-loop-i
decreases-loop-i l = l.i

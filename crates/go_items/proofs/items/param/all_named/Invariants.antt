use Rattle.std.proofs.Common.{◌≡◌, drop, map}
use Rattle.go_typing.specs.Signature.{all_named}
use Rattle.go_items.specs.ParamView.{grouped_view}
use Rattle.go_items.proofs.items.param.all_named.Given as goal

abbrev pub invariant-loop-p : goal.invariant-loop-p
invariant-loop-p l = all_named (map grouped_view (drop l.p-index l.params)) ≡ all_named (map grouped_view l.params)

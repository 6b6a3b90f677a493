use Rattle.std.proofs.Common.{◌≡◌, drop, map}
use Rattle.go_typing.specs.Signature.{some_named}
use Rattle.go_items.specs.ParamView.{grouped_view}
use Rattle.go_items.proofs.items.param.some_named.Given as goal

abbrev pub invariant-loop-p : goal.invariant-loop-p
invariant-loop-p l = some_named (map grouped_view (drop l.p-index l.params)) ≡ some_named (map grouped_view l.params)

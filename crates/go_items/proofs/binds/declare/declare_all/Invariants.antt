use Rattle.std.proofs.Common.{drop, map}
use Rattle.go_items.specs.ItemView.{item_view}
use Rattle.go_typing.specs.Known.{Known}
use Rattle.go_operands.specs.EnvView.{env_of}
use Rattle.go_items.specs.Stands.{Stands}
use Rattle.go_items.proofs.StandLemmas.{Left}
use Rattle.go_items.proofs.binds.declare.declare_all.Given as goal

abbrev pub invariant-loop-item : goal.invariant-loop-item
invariant-loop-item l = (k : Known) → Stands k (env_of l.initial.env) → Left k (map item_view (drop l.item-index l.items)) (map item_view l.items) (env_of l.env)

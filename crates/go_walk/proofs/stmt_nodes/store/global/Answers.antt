use Rattle.std.proofs.Common.{ap, ◌∙◌}
use Rattle.go_type.specs.Levels.{tree_of}
use Rattle.go_core.specs.CoreTree as core
use Rattle.go_walk.proofs.Views.{global_view}
use Rattle.go_walk.proofs.stmt_nodes.store.global.Goals as goal

pub returns : goal.returns
returns c = record { value = λ ts. ap (core.to_place (tree_of ts c.args.ty)) (c.in_ok-place.ensures.value ts ∙ global_view ts c.args.number) }

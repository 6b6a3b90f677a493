use Rattle.std.proofs.Common.{drop}
use Rattle.std.specs.Prelude.{All}
use Rattle.std.specs.List.{AllByRecursion}
use Rattle.go_type.specs.Table.{places}
use Rattle.go_core.specs.declared.node.Var.{Var}
use Rattle.go_core.specs.CoreView.{program_view, var_of}
use Rattle.go_core.specs.SoundNode.{IsGoodType}
use Rattle.go_is_sound.proofs.functions.all_good_vars.Given as goal

abbrev pub invariant-loop-v : goal.invariant-loop-v
invariant-loop-v l =
    let q = program_view l.p in
    let good = λ (v : Var). IsGoodType q (var_of (places l.p.types) v).type_ in
    All (IsGoodType q) q.types → AllByRecursion good (drop l.v-index l.v-items) → AllByRecursion good l.v-items

use Rattle.std.proofs.Common.{◌∙◌, sym, ap, List}
use Rattle.std.proofs.lemmas.Result.{IfOk-weaker}
use Rattle.go_type.specs.Levels.{tree_of}
use Rattle.go_type.specs.Named.{NamedTy}
use Rattle.go_type.specs.Table.{places}
use Rattle.go_type.specs.Underlying.{underlying}
use Rattle.go_core.specs.Control.{target_size}
use Rattle.go_state.proofs.ranges.next.pointed_size.Goals as goal

pub returns : goal.returns
returns c =
    let ts = places c.args.c.now.table.now in
    record {
      value = IfOk-weaker c.target_size.result _ _ (λ n h. λ p g q.
          h p g q ∙ ap (target_size p g) c.underlying.ensures.tree ∙ ap (λ (ns : List NamedTy). target_size p g (underlying ns (tree_of ts c.args.to))) (sym q)) c.target_size.ensures.value;
    }

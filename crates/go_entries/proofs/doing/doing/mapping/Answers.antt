use Rattle.std.proofs.Common.{◌≡◌, ◌+◌, arith, ap, ◌∷◌, ℕ}
use Rattle.go_type.specs.Levels.{tree_of}
use Rattle.go_core.specs.Goroutine as defined
use Rattle.go_core.specs.Opened.{pair_count}
use Rattle.go_core.specs.Operator as op
use Rattle.go_core.specs.declared.node.CorePairs.{out-CorePairs}
use Rattle.go_state.specs.TasksSeen.{pairs_view}
use Rattle.go_entries.proofs.DoingCountLemmas.{pairs_counted}
use Rattle.go_entries.proofs.doing.doing.mapping.Goals as goal

pub returns : goal.returns
returns c = record {
  value = λ ts rest.
      let counted = (out-CorePairs c.args.pairs.now).items.ok.0 in
      let e : pair_count (pairs_view ts c.args.pairs.now) + pair_count (pairs_view ts c.args.pairs.now) ≡ c.in_ok-count.count =
      let n = pairs_counted ts c.args.pairs.now in omega (arith, n, counted, c.len.ensures, c.len-2.ensures, c.in_ok-count.ensures.value) in
      ap (λ (n : ℕ). defined.operate (op.to_built_map (tree_of ts c.args.ty)) n ∷ rest) e;
}

use Rattle.std.proofs.Common.{◌∙◌, ◌-◌, ap, map, take, ℕ}
use Rattle.std.specs.Prelude.{reverse, List}
use Rattle.go_walk.specs.declared.labels.target.Target.{Target}
use Rattle.go_walk.specs.Left.{target_of}
use Rattle.go_walk.proofs.PopLemmas.{popped}
use Rattle.go_walk.proofs.labels.target.Targets.pop.Goals as goal

pub returns : goal.returns
returns c = record {
  value =
      ap (λ (ts : List Target). reverse (map target_of ts)) c.pop.ensures.rest
      ∙ ap (λ (n : ℕ). reverse (map target_of (take (n - 1) c.args.self.now.items.items))) c.args.self.now.items.ok.0
      ∙ popped c.args.self.now.items.items;
}

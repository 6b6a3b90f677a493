use Rattle.std.proofs.Common.{arith, ◌≡◌, ◌∙◌, ap, ℕ, drop, map}
use Rattle.std.specs.Prelude.{reverse}
use Rattle.std.proofs.lemmas.List.{reverse-reverse}
use Rattle.go_syntax.specs.Tree as tree
use Rattle.go_syntax.specs.View.{param_view, joined}
use Rattle.go_typing.specs.Signature.{grouped}
use Rattle.go_items.specs.ParamView.{grouped_view}
use Rattle.go_items.proofs.ListLemmas.{map_reverse}
use Rattle.go_items.proofs.items.param.in_groups.Goals as goal

pub returns : goal.returns
returns c =
    let first : c.loop-i.i ≡ 0 = omega arith in
    record {
      value =
          ap (map grouped_view) c.reverse.ensures.items
          ∙ map_reverse grouped_view c.loop-i.all.items
          ∙ ap reverse c.loop-i.invariant.groups
          ∙ reverse-reverse (grouped (joined (map param_view (drop c.loop-i.i c.args.params.now)) tree.NoParams))
          ∙ ap (λ (n : ℕ). grouped (joined (map param_view (drop n c.args.params.now)) tree.NoParams)) first;
    }

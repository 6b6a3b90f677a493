use Rattle.std.proofs.Common.{◌-◌, ◌∙◌, ap}
use Rattle.std.specs.List.{list_any}
use Rattle.go_type.specs.Tree.{Ty}
use Rattle.go_type.specs.Table.{names}
use Rattle.go_type.specs.Members.{fields_in}
use Rattle.go_type.specs.Chains.{bases_of, goes_deep}
use Rattle.go_type.proofs.Finite.{deep_zero, deep_step}
use Rattle.go_type.proofs.search.+deep.Goals as goal

pub goes_deep-returns-then-depth-eq0 : goal.goes_deep-returns-then-depth-eq0
goes_deep-returns-then-depth-eq0 t c = deep_zero (names c.args.table.now) c.args.depth _ c.if-depth-eq0.true

pub goes_deep-returns : goal.goes_deep-returns
goes_deep-returns t c =
    c.below_goes_deep.ensures
    ∙ ap (λ (u : Ty). list_any (goes_deep (names c.args.table.now) (c.args.depth - 1)) (bases_of (fields_in u))) (c.get.ensures.tree ∙ c.underlying.ensures.tree)
    ∙ deep_step (names c.args.table.now) c.args.depth _ c.if-depth-eq0.false

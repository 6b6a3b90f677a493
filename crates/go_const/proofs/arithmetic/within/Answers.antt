use Rattle.std.proofs.Common.{◌∙◌}
use Rattle.std.specs.Int.{w128}
use Rattle.std.specs.Int.RustNames.{FitsSigned}
use Rattle.std.proofs.lemmas.Int.{to_z-of_z}
use Rattle.go_const.proofs.RangeLemmas.{settled_exact}
use Rattle.go_const.proofs.arithmetic.within.Goals as goal

pub returns : goal.returns
returns c =
    let f : FitsSigned w128 c.args.x = c.ranges.x in
    let g : FitsSigned w128 c.args.y = c.ranges.y in
    c.settled.ensures ∙ settled_exact c.args.kind c.args.rune _ _ (simp to_z-of_z at c.exact.ensures)

use Rattle.std.proofs.Common.{sym, ap}
use Rattle.js_code.specs.Parts.{as_exprs}
use Rattle.js_simple.proofs.Lists.{cell_is, no_tree}
use Rattle.js_simple.proofs.list.cell_at.Goals as goal

pub returns-in-Some : goal.returns-in-Some
returns-in-Some c = record { value = λ s. cell_is c.args.code.now c.args.i c.in-Some.part c.cell_of.result s (sym c.in-Some.ensures.value) c.cell_of.ensures.value }

pub returns-in-None : goal.returns-in-None
returns-in-None c = record { value = λ s. ap as_exprs (no_tree c.args.code.now c.args.i (sym c.in-None.ensures.value)) }

use Rattle.go_body.specs.Whole.{function_told}
use Rattle.go_body.proofs.WholeLemmas.{typed_not, typed_so}
use Rattle.go_body.proofs.leaf.whole.told_typed.Goals as goal

pub returns-then-walk-lost : goal.returns-then-walk-lost
returns-then-walk-lost c =
    let a = c.args.around.now in
    record { told = typed_so c.args.walk.now.lost c.args.lost (function_told a.results a.too_far c.args.end c.args.ends) c.args.flaws.now.items c.told_function.new.flaws.items c.if-walk-lost.true c.in_ok-told_function.ensures.told }

pub returns : goal.returns
returns c =
    let a = c.args.around.now in
    record { told = typed_not c.args.walk.now.lost c.args.lost (function_told a.results a.too_far c.args.end c.args.ends) c.args.flaws.now.items c.if-walk-lost.false }

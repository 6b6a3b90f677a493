use Rattle.go_assign.proofs.BranchLemmas.{branch_does}
use Rattle.go_assign.proofs.branch.branch.leave.Goals as goal

pub returns-in_ok-and_stmt-in_Ok-whole : goal.returns-in_ok-and_stmt-in_Ok-whole
returns-in_ok-and_stmt-in_Ok-whole c = record {
  does = λ fs.
      branch_does c.args.at c.args.kind c.args.label c.args.walk.now fs c.args.out.now.items c.and_stmt.new.items.items c.in_Ok-whole.whole c.in_ok-and_stmt-in_Ok-whole.ensures.items c.in_Ok-whole.ensures.value;
}

use Rattle.std.proofs.Common.{ap, sym}
use Rattle.std.specs.Prelude.{Some, None, option_map}
use Rattle.go_core.specs.CoreView.{branch_of}
use Rattle.go_walk.specs.Left.{label_of}
use Rattle.go_assign.proofs.BranchLemmas.{branch_found}
use Rattle.go_assign.proofs.branch.branch.branch_to.Goals as goal

pub returns-in_ok-leave-in-Some : goal.returns-in_ok-leave-in-Some
returns-in_ok-leave-in-Some c = record {
  does = branch_found c.args.at (branch_of c.args.kind) (Some c.in-Some.label.0) (option_map label_of c.args.label) c.args.walk.now c.args.flaws.now.items c.args.flaws.now.items c.args.out.now.items c.leave.new.out.items
      (ap (option_map label_of) (sym c.in-Some.is)) (c.in_ok-leave-in-Some.ensures.does c.args.flaws.now.items);
}

pub returns-in_ok-refused-in-None : goal.returns-in_ok-refused-in-None
returns-in_ok-refused-in-None c = record {
  does = branch_found c.args.at (branch_of c.args.kind) None (option_map label_of c.args.label) c.args.walk.now c.args.flaws.now.items c.refused.new.flaws.items c.args.out.now.items c.args.out.now.items
      (ap (option_map label_of) (sym c.in-None.is)) (c.in_ok-refused-in-None.ensures.does c.args.out.now.items);
}

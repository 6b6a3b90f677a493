use Rattle.std.proofs.Common.{arith, ◌≡◌, length}
use Rattle.std.proofs.lemmas.Bool.Decides.{nat_tests}
use Rattle.go_type.specs.Levels.{trees_of}
use Rattle.go_calls.specs.Words.{types_of}
use Rattle.go_define.proofs.ReturnLemmas.{no_values}
use Rattle.go_define.proofs.simple.returned.returned_to.Goals as goal

pub returns-then-is_empty : goal.returns-then-is_empty
returns-then-is_empty c =
    let ts = types_of c.args.walk.now.env in
    let none : length c.args.ys.now ≡ 0 = grind (arith, nat_tests, c.is_empty.ensures, c.if-is_empty.true) in
    record {
      does = no_values c.args.at (trees_of ts c.args.results.now) c.args.named c.args.ys.now c.args.walk.now c.args.walk.now c.args.flaws.now.items c.bare.new.flaws.items c.args.out.now.items c.bare.new.out.items none (c.in_ok-bare.ensures.does ts);
    }

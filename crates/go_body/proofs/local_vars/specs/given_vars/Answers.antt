use Rattle.std.proofs.Common.{arith, ◌≡◌, ◌<◌, length}
use Rattle.std.proofs.lemmas.Bool.Decides.{nat_tests}
use Rattle.go_calls.specs.Words.{types_of, names_of}
use Rattle.go_assign.specs.SpecView.{spec_view}
use Rattle.go_body.proofs.VarLemmas.{given_zero, given_by}
use Rattle.go_body.proofs.local_vars.specs.given_vars.Goals as goal

pub returns-then-is_empty : goal.returns-then-is_empty
returns-then-is_empty c =
    let a = c.args.walk.now in
    let ts = types_of a.env in
    let rs = c.args.raws.items.items in
    let none : length rs ≡ 0 = grind (arith, nat_tests, c.is_empty.ensures, c.if-is_empty.true, c.args.raws.items.ok.0) in
    record {
      does = given_zero (names_of a.env) c.args.at (spec_view ts c.args.s) c.args.names.now ts rs a c.zeros.new.walk c.args.flaws.now.items c.zeros.new.flaws.items c.args.out.now.items c.zeros.new.out.items none c.in_ok-zeros.ensures.does;
    }

pub returns-in_ok-by_types-in-Ok : goal.returns-in_ok-by_types-in-Ok
returns-in_ok-by_types-in-Ok c =
    let a = c.args.walk.now in
    let ts = types_of a.env in
    let rs = c.args.raws.items.items in
    let some : 0 < length rs = grind (arith, nat_tests, c.is_empty.ensures, c.if-is_empty.false, c.args.raws.items.ok.0) in
    record {
      does = given_by (names_of a.env) c.args.at (spec_view ts c.args.s) c.args.names.now ts rs a c.by_types.new.walk c.args.flaws.now.items c.by_types.new.flaws.items c.args.out.now.items c.by_types.new.out.items some c.in_ok-by_types-in-Ok.ensures.does;
    }

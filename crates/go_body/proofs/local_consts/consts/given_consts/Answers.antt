use Rattle.std.proofs.Common.{arith}
use Rattle.go_calls.specs.Words.{types_of, names_of}
use Rattle.go_assign.specs.SpecView.{spec_view}
use Rattle.go_body.proofs.ConstLemmas.{given_does}
use Rattle.go_body.proofs.local_consts.consts.given_consts.Goals as goal

pub miscounted-requires-clause-counts : goal.miscounted-requires-clause-counts
miscounted-requires-clause-counts c = λ same. let l = c.len.ensures in let b = c.if-len-names.true in omega (arith, l, b, same)

pub returns : goal.returns
returns c =
    let e = c.args.walk.now.env in
    let ts = types_of e in
    record {
      does = λ out.
          given_does (names_of e) c.args.at (spec_view ts c.args.s) c.args.names.now ts c.args.raws.items.items c.args.walk.now c.all_consts.new.walk c.args.flaws.now.items c.all_consts.new.flaws.items out (let l = c.len.ensures in let b = c.if-len-names.false in omega (arith, l, b)) (c.in_ok-all_consts.ensures.does out);
    }

use Rattle.std.proofs.Common.{arith}
use Rattle.go_calls.specs.Words.{types_of, names_of}
use Rattle.go_assign.specs.SpecView.{spec_view}
use Rattle.go_body.proofs.VarLemmas.{every_same, every_other}
use Rattle.go_body.proofs.local_vars.specs.every_var.Goals as goal

pub returns-then-len-names : goal.returns-then-len-names
returns-then-len-names c =
    let a = c.args.walk.now in
    let ts = types_of a.env in
    record {
      does = every_other (names_of a.env) c.args.at (spec_view ts c.args.s) c.args.names.now ts c.args.raws.items.items a c.miscounted.new.walk c.args.flaws.now.items c.miscounted.new.flaws.items c.args.out.now.items c.miscounted.new.out.items
          (λ same. let l = c.len.ensures in let b = c.if-len-names.true in omega (arith, l, b, same)) c.in_ok-miscounted.ensures.does;
    }

pub returns : goal.returns
returns c =
    let a = c.args.walk.now in
    let ts = types_of a.env in
    record {
      does = every_same (names_of a.env) c.args.at (spec_view ts c.args.s) c.args.names.now ts c.args.raws.items.items a c.all_vars.new.walk c.args.flaws.now.items c.all_vars.new.flaws.items c.args.out.now.items c.all_vars.new.out.items
          (let l = c.len.ensures in let b = c.if-len-names.false in omega (arith, l, b)) c.in_ok-all_vars.ensures.does;
    }

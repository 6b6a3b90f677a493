use Rattle.std.proofs.Common.{arith}
use Rattle.go_body.proofs.StandLemmas.{stood_here}
use Rattle.go_body.proofs.leaf.stand.stand.Goals as goal

pub returns-then-len-before : goal.returns-then-len-before
returns-then-len-before c = record {
  core = λ ts. stood_here ts c.args.out.now.items c.and_nothing.new.out.items c.len.result c.args.before (let u = c.len.ensures in let v = c.args.out.now.ok.0 in omega (arith, u, v)) c.if-len-before.true (c.in_ok-and_nothing.ensures.core ts);
}

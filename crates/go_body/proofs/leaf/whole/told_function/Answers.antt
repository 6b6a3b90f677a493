use Rattle.std.proofs.Common.{arith, ◌≡◌, length}
use Rattle.go_body.proofs.WholeLemmas.{function_clean, function_other}
use Rattle.go_body.proofs.leaf.whole.told_function.Goals as goal

pub returns-then-is_clean : goal.returns-then-is_clean
returns-then-is_clean c =
    let a = c.args.around.now in
    let p : c.len-before.result ≡ length c.args.flaws.now.items = let u = c.len-before.ensures in let v = c.args.flaws.now.ok.0 in omega (arith, u, v) in
    record {
      told = function_clean a.results a.too_far c.args.end c.args.ends c.is_clean.result c.len-before.result c.args.flaws.now.items c.told_missing.new.flaws.items p c.in_ok-told_missing.ensures.told c.is_clean.ensures.value c.told_far.new.flaws.items c.if-is_clean.true c.in_ok-told_far.ensures.told;
    }

pub returns : goal.returns
returns c =
    let a = c.args.around.now in
    let p : c.len-before.result ≡ length c.args.flaws.now.items = let u = c.len-before.ensures in let v = c.args.flaws.now.ok.0 in omega (arith, u, v) in
    record {
      told = function_other a.results a.too_far c.args.end c.args.ends c.is_clean.result c.len-before.result c.args.flaws.now.items c.told_missing.new.flaws.items p c.in_ok-told_missing.ensures.told c.is_clean.ensures.value c.if-is_clean.false;
    }

use Rattle.std.proofs.Common.{length, refl}
use Rattle.go_body.proofs.WholeLemmas.{ends_at}
use Rattle.go_body.proofs.leaf.whole.ends_with.Goals as goal

pub returns : goal.returns
returns c = record { value = ends_at c.args.walk.now c.table.result.now c.args.ss.now (length c.args.ss.now) c.index-ss-n.result c.is_terminating.result c.table.ensures.value refl c.if-n-eq0.false c.index-ss-n.is c.is_terminating.ensures.value }

use Rattle.std.proofs.Common.{[]}
use Rattle.go_define.proofs.define.fresh.found.Goals as goal

pub returns : goal.returns
returns c = record { value = c.there.ensures.value [] }

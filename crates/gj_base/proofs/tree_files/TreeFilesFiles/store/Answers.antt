use Rattle.std.proofs.Common.{Some, ap, inr, take}
use Rattle.gj_base.specs.MemoryFiles.{MemoryFiles}
use Rattle.gj_base.proofs.CountsLemmas.{Begins-take}
use Rattle.gj_base.proofs.tree_files.TreeFilesFiles.store.Goals as goal

pub returns-in-Ok-store_in_part-clause-stores : goal.returns-in-Ok-store_in_part-clause-stores
returns-in-Ok-store_in_part-clause-stores c =
    let did = c.in-Ok-store_in_part.ensures in
    let bytes = c.args.bytes.now in
    let stored = ap (λ (f : MemoryFiles). Some f.tree) did.value in
    (did.rose, (ap (λ (f : MemoryFiles). f.reading_faults) did.value), inr (take c.in-Some.after bytes, Begins-take c.in-Some.after bytes, stored))

use Rattle.std.proofs.Common.{inr}
use Rattle.go_load.proofs.ToldLemmas.{where_told, empty_root}
use Rattle.go_load.proofs.names.list_folder.Goals as goal

pub returns-in-Err-Missing : goal.returns-in-Err-Missing
returns-in-Err-Missing g c =
    let missing = rw c.in-Err-Missing.field-0-is at c.in-Err-Missing.ensures in
    inr (missing.0, where_told _ (λ tree none. empty_root tree c.args.folder.now none) missing.1)

use Rattle.std.proofs.Common.{◌<◌, ◌≤◌, ◌∙◌, List, [], ℕ, true, length, refl, sym, subst, arith}
use Rattle.std.specs.Prelude.{Option, Some, None, IfSome}
use Rattle.gj_base.specs.Tree.{Tree, bytes_at, path_in}
use Rattle.go_load.specs.Root.{file_limit, IsEntry}
use Rattle.go_load.specs.Gather.{IsFileRead, long_entry}
use Rattle.go_load.specs.declared.sources.FileEntry.{FileEntry}
use Rattle.go_load.proofs.GatherLemmas.{long_file}
use Rattle.go_load.proofs.gather.read_file.Goals as goal

pub returns-in-Err-TooLong : goal.returns-in-Err-TooLong
returns-in-Err-TooLong g c =
    let long = rw c.in-Err-TooLong.field-0-is at c.in-Err-TooLong.ensures in (
      long.0,
      subst (λ (e : FileEntry). IsFileRead (g.F.Files.state c.args.files.now).tree c.args.root.now c.args.name e) (sym c.long_entry.ensures)
          (long_file (g.F.Files.state c.args.files.now).tree c.args.root.now c.args.name _ (c.as_str.ensures.value ∙ c.in_ok-path.ensures) c.requires.there long.1),
    )

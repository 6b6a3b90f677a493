use Rattle.std.proofs.Common.{refl}
use Rattle.go_frames.specs.FrameView.{file_part}
use Rattle.go_parser.proofs.FileLemmas.{and_import}
use Rattle.go_parser.proofs.file.with_import.Goals as goal

pub returns-in-Ok : goal.returns-in-Ok
returns-in-Ok c = record {
  value =
      and_import (file_part c.args.part) c.args.part.imports.items c.in-Ok.imports.items c.args.import refl c.in-Ok.ensures.value;
}

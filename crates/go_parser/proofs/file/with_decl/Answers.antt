use Rattle.std.proofs.Common.{refl}
use Rattle.go_frames.specs.FrameView.{file_part}
use Rattle.go_parser.proofs.FileLemmas.{and_decl}
use Rattle.go_parser.proofs.file.with_decl.Goals as goal

pub returns-in-Ok : goal.returns-in-Ok
returns-in-Ok c = record {
  value =
      and_decl (file_part c.args.part) c.args.part.decls.items c.in-Ok.decls.items c.args.d refl c.in-Ok.ensures.value;
}

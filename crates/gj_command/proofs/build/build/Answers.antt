use Rattle.gj_command.proofs.TopLemmas.{answers_of, builds}
use Rattle.gj_command.proofs.BuildLemmas.{can_be_told}
use Rattle.gj_command.proofs.build.build.Goals as goal

pub store-requires : goal.store-requires
store-requires g c = c.in-Ok.ensures.1

pub returns-in-Ok : goal.returns-in-Ok
returns-in-Ok g c = (
  c.store.ensures.0,
  builds c.store.result c.store.ensures.0 _ c.args.folder.now c.args.out_file.now c.args.is_small (g.F.Files.state c.args.files.now) (g.F.Files.state c.compile.new.files) (g.F.Files.state c.store.new.files) c.in-Ok.ensures.0 c.in-Ok.ensures.2 c.store.ensures.1,
  c.store.ensures.2,
)

pub refuse-requires : goal.refuse-requires
refuse-requires g c = can_be_told c.in-Err.refused c.args.folder.now _ _ c.in-Err.ensures

pub returns-in-Err : goal.returns-in-Err
returns-in-Err g c = (
  c.refuse.ensures.0,
  answers_of c.in-Err.refused c.refuse.result c.refuse.ensures.0 c.args.folder.now c.args.out_file.now c.args.is_small (g.F.Files.state c.args.files.now) (g.F.Files.state c.compile.new.files) c.refuse.ensures.1 c.in-Err.ensures,
  c.refuse.ensures.2,
)

use Rattle.gj_command.proofs.BuildLemmas.{can_be_told}
use Rattle.gj_command.proofs.CommandLemmas.{left_as, refused_leaves}
use Rattle.gj_command.proofs.run.run.Goals as goal

pub returns-in-Ok : goal.returns-in-Ok
returns-in-Ok g c = (
  c.run_compiled.ensures.0,
  left_as c.run_compiled.result (g.F.Files.state c.args.files.now) (g.F.Files.state c.compile.new.files) c.in-Ok.ensures.0,
  c.run_compiled.ensures.1,
  c.run_compiled.ensures.2,
)

pub refuse-requires : goal.refuse-requires
refuse-requires g c = can_be_told c.in-Err.refused c.args.folder.now _ _ c.in-Err.ensures

pub returns-in-Err : goal.returns-in-Err
returns-in-Err g c =
    let left = refused_leaves c.in-Err.refused c.refuse.result c.refuse.ensures.0 c.args.folder.now (g.F.Files.state c.args.files.now) (g.F.Files.state c.compile.new.files) c.refuse.ensures.1 c.in-Err.ensures in
    (c.refuse.ensures.0, left.0, left.1, c.refuse.ensures.2)

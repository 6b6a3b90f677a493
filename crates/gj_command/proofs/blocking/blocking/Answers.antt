use Rattle.gj_command.proofs.BuildLemmas.{can_be_told}
use Rattle.gj_command.proofs.CommandLemmas.{left_as, refused_leaves}
use Rattle.gj_command.proofs.blocking.blocking.Goals as goal

pub returns-in-Ok : goal.returns-in-Ok
returns-in-Ok g c = (
  c.written.ensures.0,
  left_as c.written.result (g.F.Files.state c.args.files.now) (g.F.Files.state c.blocking_names.new.files) c.in-Ok.ensures,
  c.written.ensures.1,
  c.written.ensures.2,
)

pub refuse-requires : goal.refuse-requires
refuse-requires g c = can_be_told c.in-Err.refused c.args.folder.now _ _ c.in-Err.ensures

pub returns-in-Err : goal.returns-in-Err
returns-in-Err g c =
    let left = refused_leaves c.in-Err.refused c.refuse.result c.refuse.ensures.0 c.args.folder.now (g.F.Files.state c.args.files.now) (g.F.Files.state c.blocking_names.new.files) c.refuse.ensures.1 c.in-Err.ensures in
    (c.refuse.ensures.0, left.0, left.1, c.refuse.ensures.2)

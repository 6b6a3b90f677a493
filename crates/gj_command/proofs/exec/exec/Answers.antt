use Rattle.gj_command.proofs.CommandLemmas.{left_as, unread_leaves}
use Rattle.gj_command.proofs.exec.exec.Goals as goal

pub returns-in-Ok : goal.returns-in-Ok
returns-in-Ok g c = (
  c.exec_bytes.ensures.0,
  left_as c.exec_bytes.result (g.F.Files.state c.args.files.now) (g.F.Files.state c.read.new.self) c.in-Ok.ensures.0,
  c.exec_bytes.ensures.1,
  c.exec_bytes.ensures.2,
)

pub returns-in-Err : goal.returns-in-Err
returns-in-Err g c = (
  c.unread.ensures.0,
  unread_leaves c.in-Err.error c.unread.result _ _ (g.F.Files.state c.args.files.now) (g.F.Files.state c.read.new.self) c.unread.ensures.1 c.in-Err.ensures,
  c.unread.ensures.2,
  c.unread.ensures.3,
)

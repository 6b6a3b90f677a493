use Rattle.std.proofs.Common.{refl}
use Rattle.gj_command.proofs.CommandLemmas.{built_is_no_usage, left_as}
use Rattle.gj_command.proofs.TopLemmas.{leaves}
use Rattle.gj_command.proofs.top.perform.Goals as goal

pub returns-in-Build : goal.returns-in-Build
returns-in-Build g c = (
  c.build.ensures.0,
  leaves c.build.result c.build.ensures.0 _ _ _ (g.F.Files.state c.args.files.now) (g.F.Files.state c.build.new.files) c.build.ensures.1,
  built_is_no_usage c.build.result c.build.ensures.0 _ _ _ (g.F.Files.state c.args.files.now) (g.F.Files.state c.build.new.files) c.build.ensures.1,
  c.build.ensures.2,
)

pub returns-in-Gen : goal.returns-in-Gen
returns-in-Gen g c = (c.generated.ensures.0, left_as c.generated.result (g.F.Files.state c.args.files.now) _ refl, c.generated.ensures.1, c.generated.ensures.2)

pub returns-in-Version : goal.returns-in-Version
returns-in-Version g c = (c.version.ensures.0, left_as c.version.result (g.F.Files.state c.args.files.now) _ refl, c.version.ensures.1, c.version.ensures.2)

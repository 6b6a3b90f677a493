use Rattle.gj_compile.proofs.FrontLemmas.{fronts, unloaded}
use Rattle.gj_compile.proofs.front.check_folder.Goals as goal

pub returns-in-Ok : goal.returns-in-Ok
returns-in-Ok g c =
    fronts c.check_packages.result c.args.root.now c.in-Ok.packages (g.F.Files.state c.args.files.now) (g.F.Files.state c.load.new.files) c.in-Ok.ensures.0 c.in-Ok.ensures.1 c.in-Ok.ensures.2 c.in-Ok.ensures.3 c.check_packages.ensures

pub returns-in-Err : goal.returns-in-Err
returns-in-Err g c =
    unloaded c.in-Err.refusal c.check_unloaded.result c.args.root.now (g.F.Files.state c.args.files.now) (g.F.Files.state c.load.new.files) (g.F.Files.state c.check_unloaded.new.files) c.in-Err.ensures c.check_unloaded.ensures

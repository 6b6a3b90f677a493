use Rattle.gj_compile.proofs.FrontLemmas.{imported, not_imported}
use Rattle.gj_compile.proofs.whole.check_imports.Goals as goal

pub returns-in-Ok : goal.returns-in-Ok
returns-in-Ok g c = imported c.check_whole.result (g.F.Files.state c.args.files.now) (g.F.Files.state c.load_program.new.files) c.in-Ok.ensures c.check_whole.ensures

pub returns-in-Err : goal.returns-in-Err
returns-in-Err g c = not_imported c.in-Err.refusal c.unloaded.result (g.F.Files.state c.args.files.now) (g.F.Files.state c.load_program.new.files) c.unloaded.ensures c.in-Err.ensures

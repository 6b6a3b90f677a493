use Rattle.gj_compile.proofs.FrontLemmas.{compiles, prints_of, sound_of}
use Rattle.gj_compile.proofs.compiling.compile.Goals as goal

pub script_of-requires-clause-plain : goal.script_of-requires-clause-plain
script_of-requires-clause-plain g c = prints_of c.in-Ok.checked c.args.root.now (g.F.Files.state c.args.files.now) c.in-Ok.ensures.1

pub script_of-requires-clause-sound : goal.script_of-requires-clause-sound
script_of-requires-clause-sound g c = sound_of c.in-Ok.checked c.args.root.now (g.F.Files.state c.args.files.now) c.in-Ok.ensures.1

pub returns-in-Ok : goal.returns-in-Ok
returns-in-Ok g c =
    compiles c.script_of.result c.in-Ok.checked c.args.root.now (g.F.Files.state c.args.files.now) (g.F.Files.state c.check_folder.new.files) c.in-Ok.ensures.0 c.in-Ok.ensures.1 c.script_of.ensures

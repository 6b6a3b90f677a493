use Rattle.go_loaded.specs.Loaded.{decls_in}
use Rattle.go_loaded.proofs.laws.sound.Goals as goal

pub returns : goal.returns
returns c = record { sound = λ p a h. c.programs.ensures.sound (decls_in p) (c.loaded.ensures.derived p a) h (c.loaded.ensures.main p a) }

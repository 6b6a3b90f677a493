use Rattle.std.proofs.Common.{List, subst}
use Rattle.go_items.specs.ItemView.{decls_of}
use Rattle.go_load.specs.Packages.{paths_view}
use Rattle.go_syntax.specs.Tree as t
use Rattle.go_stmt.specs.Checks.{root_trees, Checks}
use Rattle.go_stmt.proofs.MadeLemmas.{sound_of}
use Rattle.go_stmt.proofs.stmt.checking.check.Goals as goal

pub returns-clause-answer : goal.returns-clause-answer
returns-clause-answer c = subst (λ (files : List t.File). Checks c.check_files.result (decls_of files)) c.root_files.ensures.trees c.check_files.ensures.answer

pub returns-clause-sound : goal.returns-clause-sound
returns-clause-sound c =
    sound_of c.programs.ensures.sound (decls_of (root_trees (paths_view c.args.packages.now.packages))) c.check_files.result
    (subst (λ (files : List t.File). Checks c.check_files.result (decls_of files)) c.root_files.ensures.trees c.check_files.ensures.answer)

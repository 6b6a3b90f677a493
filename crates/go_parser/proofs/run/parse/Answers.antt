use Rattle.go_syntax.specs.View.{file_view}
use Rattle.go_parser.proofs.run.parse.Goals as goal

pub returns-in-Ok-clause-tree : goal.returns-in-Ok-clause-tree
returns-in-Ok-clause-tree c = c.reads_only_files.ensures.sound c.args.tokens.now.tokens (file_view c.in-Ok.file) c.in-Ok.ensures.same

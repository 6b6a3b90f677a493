use Rattle.std.proofs.Common.{rules}
use Rattle.go_core.specs.CoreView.{package_row_view}
use Rattle.go_core.specs.SoundProgram.{DifferInPath}
use Rattle.go_is_sound.proofs.ListLemmas.{pairs_more}
use Rattle.go_is_sound.proofs.packages.+paths_differ.Goals as goal

pub returns-then-is_new_path : goal.returns-then-is_new_path
returns-then-is_new_path t c = record {
  is = λ h. pairs_more DifferInPath package_row_view c.args.rows.now c.in-Some.row.now c.in-Some.others.now (search rules) (c.is_new_path.ensures.is c.if-is_new_path.true) (c.paths_differ.ensures.is h);
}

use Rattle.std.proofs.Common.{rules}
use Rattle.go_core.specs.CoreView.{package_var_view}
use Rattle.go_core.specs.SoundProgram.{DifferInPackage}
use Rattle.go_is_sound.proofs.ListLemmas.{pairs_more}
use Rattle.go_is_sound.proofs.variables.+numbers_differ.Goals as goal

pub returns-then-is_new_var : goal.returns-then-is_new_var
returns-then-is_new_var t c = record {
  is = λ h ts.
      pairs_more DifferInPackage (package_var_view ts) c.args.vars.now c.in-Some.x.now c.in-Some.others.now (search rules) (c.is_new_var.ensures.is c.if-is_new_var.true) (c.numbers_differ.ensures.is h ts);
}

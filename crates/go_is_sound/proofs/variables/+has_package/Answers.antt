use Rattle.std.proofs.Common.{rules}
use Rattle.go_is_sound.proofs.VariableLemmas.{package_here, package_later}
use Rattle.go_is_sound.proofs.variables.+has_package.Goals as goal

pub returns-then-eq : goal.returns-then-eq
returns-then-eq t c = record { is = λ _. package_here c.args.rows.now c.in-Some.row.now c.in-Some.others.now c.args.path.now (search rules) (search rules) }

pub returns-else-eq : goal.returns-else-eq
returns-else-eq t c = record { is = λ h. package_later c.args.rows.now c.in-Some.row.now c.in-Some.others.now c.args.path.now (search rules) (c.has_package.ensures.is h) }

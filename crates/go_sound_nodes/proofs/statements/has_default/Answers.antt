use Rattle.std.proofs.Common.{ℕ, sym, subst}
use Rattle.std.specs.Prelude.{Option}
use Rattle.go_core.specs.Sound.{HasDefault}
use Rattle.go_sound_nodes.specs.ListView.{clauses_view}
use Rattle.go_sound_nodes.proofs.statements.has_default.Goals as goal

pub returns-in-Some : goal.returns-in-Some
returns-in-Some c = record { is = λ h ts. subst (λ (d : Option ℕ). HasDefault (clauses_view ts c.args.list.now) d) (sym c.in-Some.is) (c.has_clause.ensures.is h ts) }

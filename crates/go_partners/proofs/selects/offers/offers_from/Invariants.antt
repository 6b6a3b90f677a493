use Rattle.std.proofs.Common.{◌≡◌, ◌≤◌, ℕ, ◌++◌, drop, length, map}
use Rattle.std.specs.Prelude.{option_map}
use Rattle.go_type.specs.Table.{names, places}
use Rattle.go_core.specs.Communicate.{offers_from}
use Rattle.go_core.specs.CoreTree.{CoreProgram}
use Rattle.go_core.specs.Goroutine as core
use Rattle.go_core.specs.Opened.{cases_of}
use Rattle.go_state.specs.TasksSeen.{cases_from, cases_view}
use Rattle.go_values.specs.ValuesSeen.{values_of}
use Rattle.go_state.specs.StateSeen.{offer_of}
use Rattle.go_partners.proofs.selects.offers.offers_from.Given as goal

abbrev pub invariant-clauses : goal.invariant-clauses
invariant-clauses l = record {
  within : l.at ≤ length l.vs;
  found : (p : CoreProgram) (g : ℕ) (free : core.Move) → p.names ≡ names l.c.table.now
      → offers_from p g free (cases_of (cases_view (places l.c.table.now) l.cases)) (values_of (places l.c.table.now) l.vs)
      ≡ option_map (λ os. map (offer_of (places l.c.table.now)) l.offers.items ++ os) (offers_from p g free (cases_of (cases_from (places l.c.table.now) l.cases l.i)) (values_of (places l.c.table.now) (drop l.at l.vs)));
}

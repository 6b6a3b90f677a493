use Rattle.std.proofs.Common.{◌<◌, ◌^◌, ◌%◌, ◌+◌, length, sym, subst, arith, ap}
use Rattle.std.proofs.lemmas.Grind.{common_steps}
use Rattle.gj_base.specs.Choices.{Picks, first_numbers}
use Rattle.gj_base.specs.Listed.{ListPoint, listed, listed_taken}
use Rattle.gj_base.proofs.ChoicesLemmas.{count_fits, picks_next}
use Rattle.gj_base.proofs.choices.ListChoicesChoices.pick.Goals as goal

pub overflow_add-self : goal.overflow_add-self
overflow_add-self c =
    let room = subst (λ (p : ListPoint). length (listed_taken p) < 2 ^ 63) (sym c.self.view_is) c.requires.room in
    let few = count_fits (listed c.self.inside.numbers.items) c.self.inside.count room in
    omega arith

pub returns-clause-picks : goal.returns-clause-picks
returns-clause-picks c =
    let numbers = listed c.self.inside.numbers.items in
    subst (λ (p : ListPoint). Picks (c.unwrap_or-raw.result % c.args.k) c.args.k (listed_taken p) (first_numbers numbers (c.self.inside.count + 1))) c.self.view_is
    (picks_next numbers c.self.inside.count c.args.k _ (ap (λ raw. raw % c.args.k) (grind (arith, common_steps, c.get.ensures.lookup))))

use Rattle.std.proofs.Common.{◌+◌, ◌*◌, ◌%◌, ◌/◌, ◌^◌, ◌<◌, length, ap, arith, add-one, sym, subst, ◌∙◌}
use Rattle.gj_base.specs.Choices.{Picks, first_numbers}
use Rattle.gj_base.specs.Seeded.{SeedPoint, seeded, seeded_taken}
use Rattle.gj_base.proofs.ChoicesLemmas.{count_fits, picks_next, seeded_state-next}
use Rattle.gj_base.proofs.choices.SeedChoicesChoices.pick.Goals as goal

pub overflow_add-self : goal.overflow_add-self
overflow_add-self c =
    let room = subst (λ (p : SeedPoint). length (seeded_taken p) < 2 ^ 63) (sym c.self.view_is) c.requires.room in
    let few = count_fits (seeded c.self.inside.seed) c.self.inside.count room in
    omega arith

pub returns-clause-value : goal.returns-clause-value
returns-clause-value c =
    let next = seeded_state-next c.self.inside.seed c.self.inside.count c.self.inside.state c.self.invariant in
    ap (λ state. state / 2 ^ 33 % c.args.k) next ∙ ap (λ (p : SeedPoint). seeded p.seed p.count % c.args.k) c.self.view_is

pub returns-clause-picks : goal.returns-clause-picks
returns-clause-picks c =
    let next = seeded_state-next c.self.inside.seed c.self.inside.count c.self.inside.state c.self.invariant in
    let picked = picks_next (seeded c.self.inside.seed) c.self.inside.count c.args.k _ (ap (λ state. state / 2 ^ 33 % c.args.k) next) in
    subst (λ (p : SeedPoint). Picks ((c.self.inside.state * 6364136223846793005 % 2 ^ 64 + 1442695040888963407) % 2 ^ 64 / 2 ^ 33 % c.args.k) c.args.k (seeded_taken p) (first_numbers (seeded c.self.inside.seed) (c.self.inside.count + 1))) c.self.view_is picked

pub invariant_of-self : goal.invariant_of-self
invariant_of-self c = rw add-one (seeded_state-next c.self.inside.seed c.self.inside.count c.self.inside.state c.self.invariant)

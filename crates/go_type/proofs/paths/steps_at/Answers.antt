use Rattle.std.proofs.Common.{◌≡◌, suc, ◌-◌, [], List, sym, ◌∙◌, subst, arith}
use Rattle.go_type.specs.Tree.{Ty}
use Rattle.go_type.specs.Levels.{tree_of}
use Rattle.go_type.specs.Table.{places, names}
use Rattle.go_type.specs.Underlying.{underlying}
use Rattle.go_type.specs.Members.{Member, sought, members_at, own_members, through, fields_in}
use Rattle.go_type.specs.Paths.{LeadsTo, steps_through}
use Rattle.go_type.proofs.HitLemmas.{members_zero, members_step}
use Rattle.go_type.proofs.PathLemmas.{follow, nowhere_to, arrive}
use Rattle.go_type.proofs.paths.steps_at.Goals as goal

pub down-preserved : goal.down-preserved
down-preserved c =
    let ts = places c.args.table.now in
    let ns = names c.args.table.now in
    let f = sought c.args.name.now c.args.«package».now in
    let at = tree_of ts c.down.at in
    let p = members_at ns f (c.down.left - 1) in
    let step : through p 0 (fields_in (underlying ns at)) ≡ members_at ns f c.down.left at = members_step ns f c.down.left at (λ e. omega (arith, c.down-test.true)) in
    let leads : LeadsTo (members_at ns f c.down.left at) (steps_through c.in-Some.place c.in-Some.follows) (p (tree_of ts c.in-Some.inside)) =
    subst (λ (ms : List Member). LeadsTo ms (steps_through c.in-Some.place c.in-Some.follows) (p (tree_of ts c.in-Some.inside))) step
    (subst (λ (u : Ty). LeadsTo (through p 0 (fields_in u)) (steps_through c.in-Some.place c.in-Some.follows) (p (tree_of ts c.in-Some.inside))) (c.get-under.ensures.tree ∙ c.underlying.ensures.tree) c.in-Some.ensures.leads) in
    record {
      within = c.in-Some.ensures.within;
      quiet = c.in-Some.ensures.quiet;
      on_the_way = follow _ (members_at ns f c.down.left at) (p (tree_of ts c.in-Some.inside)) c.args.before.items c.down.steps.items (steps_through c.in-Some.place c.in-Some.follows) c.push_steps.new.steps.items c.down.invariant.on_the_way leads c.in_ok-push_steps-in-Some.ensures;
    }

pub next_below-requires-clause-quiet : goal.next_below-requires-clause-quiet
unfolding members_at
next_below-requires-clause-quiet c e l =
    let ts = places c.args.table.now in
    let ns = names c.args.table.now in
    let f = sought c.args.name.now c.args.«package».now in
    let at = tree_of ts c.down.at in
    let none : members_at ns f (suc e) at ≡ [] = c.down.invariant.quiet.at (suc e) (omega (arith, l, c.down-test.true)) in
    subst (λ (u : Ty). through (members_at ns f e) 0 (fields_in u) ≡ []) (sym (c.get-under.ensures.tree ∙ c.underlying.ensures.tree)) none

pub returns-in-None : goal.returns-in-None
returns-in-None c m e =
    let ts = places c.args.table.now in
    let ns = names c.args.table.now in
    let f = sought c.args.name.now c.args.«package».now in
    let at = tree_of ts c.down.at in
    let p = members_at ns f (c.down.left - 1) in
    let step : through p 0 (fields_in (underlying ns at)) ≡ members_at ns f c.down.left at = members_step ns f c.down.left at (λ z. omega (arith, c.down-test.true)) in
    let none : members_at ns f c.down.left at ≡ [] =
    sym step ∙ subst (λ (u : Ty). through p 0 (fields_in u) ≡ []) (c.get-under.ensures.tree ∙ c.underlying.ensures.tree) c.in-None.ensures.none in
    absurd (nowhere_to _ (members_at ns f c.down.left at) c.args.before.items c.down.steps.items m c.down.invariant.on_the_way none e)

pub returns : goal.returns
returns c =
    let ts = places c.args.table.now in
    let ns = names c.args.table.now in
    let f = sought c.args.name.now c.args.«package».now in
    let at = tree_of ts c.down.at in
    let own : own_members ns f at ≡ members_at ns f c.down.left at = members_zero ns f c.down.left at (omega (arith, c.down-test.false)) in
    arrive _ (members_at ns f c.down.left at) (own_members ns f at) c.args.before.items c.down.steps.items c.own_steps.result c.down.invariant.on_the_way own c.own_steps.ensures

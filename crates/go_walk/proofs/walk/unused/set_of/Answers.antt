use Rattle.std.proofs.Common.{◌∙◌, sym, ap, List, Bool, ◌||◌, ◌+◌, drop, get_or}
use Rattle.gj_base.specs.declared.place.Place.{Place}
use Rattle.go_typing.specs.Env.{nowhere}
use Rattle.go_walk.specs.SetsHas.{has_place}
use Rattle.go_typing.specs.Walk.{is_among, same_place}
use Rattle.go_walk.proofs.WalkSteps.{next_in, past, or_false, moved_over, other_way}
use Rattle.go_walk.proofs.walk.unused.set_of.Goals as goal

pub loop-p-init : goal.loop-p-init
loop-p-init c = λ q. ap (λ (b : Bool). b || is_among q c.args.places.now) (c.new-set.ensures q)

pub loop-p-preserved : goal.loop-p-preserved
loop-p-preserved c = λ q.
    let xs = c.args.places.now in
    let i = c.loop-p.p-index in
    let rest = drop (i + 1) xs in
    let p = get_or xs i nowhere in
    ap (λ (b : Bool). b || is_among q rest) (c.in_ok-insert.ensures.value q)
    ∙ ap (λ (b : Bool). (b || has_place q c.loop-p.set) || is_among q rest) (other_way q p)
    ∙ moved_over (has_place q c.loop-p.set) (same_place p q) (is_among q rest)
    ∙ ap (λ (zs : List Place). has_place q c.loop-p.set || is_among q zs) (sym (next_in xs i nowhere c.loop-p-test.true))
    ∙ c.loop-p.invariant q

pub returns : goal.returns
returns c = record {
  value = λ q.
      sym (or_false (has_place q c.loop-p.set))
      ∙ ap (λ (zs : List Place). has_place q c.loop-p.set || is_among q zs) (sym (past c.args.places.now c.loop-p.p-index c.loop-p-test.false))
      ∙ c.loop-p.invariant q;
}

use Rattle.std.proofs.Common.{arith, refl, ap, ◌<◌, ◌≤◌, Bool, ◌||◌, length, drop, get_or}
use Rattle.go_typing.specs.Env.{nowhere}
use Rattle.go_walk.specs.SetsHas.{has_place}
use Rattle.go_typing.specs.Walk.{is_among}
use Rattle.go_walk.proofs.PartLemmas.{set_more, set_end}
use Rattle.go_walk.proofs.walk.parts.set_from.Goals as goal

pub loop-i-init : goal.loop-i-init
loop-i-init c = λ q. ap (λ (b : Bool). b || is_among q (drop c.args.from c.args.places.now)) (c.new-set.ensures q)

pub loop-i-preserved : goal.loop-i-preserved
loop-i-preserved c = λ q.
    let xs = c.args.places.now in
    let i = c.loop-i.i in
    let h : i < length xs = omega arith in
    set_more q xs i (get_or xs i nowhere) (has_place q c.loop-i.set) (has_place q c.insert.new.self) (is_among q (drop c.args.from xs)) h refl (c.in_ok-insert.ensures.value q) (c.loop-i.invariant q)

pub returns : goal.returns
returns c = record {
  value = λ q.
      let xs = c.args.places.now in
      let h : length xs ≤ c.loop-i.i = omega arith in
      set_end q xs c.loop-i.i (has_place q c.loop-i.set) (is_among q (drop c.args.from xs)) h (c.loop-i.invariant q);
}

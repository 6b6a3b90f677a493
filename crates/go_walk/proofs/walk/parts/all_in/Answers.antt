use Rattle.std.proofs.Common.{arith, ◌∙◌, sym, refl, ◌<◌, ◌≤◌, length, drop, get_or}
use Rattle.go_typing.specs.Walk.{all_used}
use Rattle.go_walk.proofs.PartLemmas.{all_on, all_not, all_end}
use Rattle.go_walk.proofs.walk.parts.all_in.Goals as goal

pub loop-i-init : goal.loop-i-init
loop-i-init c = λ ps h. refl

pub loop-i-preserved : goal.loop-i-preserved
loop-i-preserved c = λ ps h.
    let ns = c.args.names.now in
    let n = get_or ns c.loop-i.i c.index-names-i.result in
    let l : c.loop-i.i < length ns = omega arith in
    all_on ns c.loop-i.i c.index-names-i.result ps (all_used (drop c.args.from ns) ps) l (sym (h n.place) ∙ sym c.has.ensures.value ∙ c.if-not-has.false) (c.loop-i.invariant ps h)

pub returns-then-not-has : goal.returns-then-not-has
returns-then-not-has c = record {
  value = λ ps h.
      let ns = c.args.names.now in
      let n = get_or ns c.loop-i.i c.index-names-i.result in
      let l : c.loop-i.i < length ns = omega arith in
      all_not ns c.loop-i.i c.index-names-i.result ps (all_used (drop c.args.from ns) ps) l (sym (h n.place) ∙ sym c.has.ensures.value ∙ c.if-not-has.true) (c.loop-i.invariant ps h);
}

pub returns : goal.returns
returns c = record {
  value = λ ps h.
      let ns = c.args.names.now in
      let l : length ns ≤ c.loop-i.i = omega arith in
      all_end ns c.loop-i.i ps (all_used (drop c.args.from ns) ps) l (c.loop-i.invariant ps h);
}

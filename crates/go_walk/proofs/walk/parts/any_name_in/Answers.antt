use Rattle.std.proofs.Common.{◌∙◌, sym, refl}
use Rattle.go_walk.proofs.PartLemmas.{any_named, named_on, named_here, named_end}
use Rattle.go_walk.proofs.walk.parts.any_name_in.Goals as goal

pub loop-n-init : goal.loop-n-init
loop-n-init c = λ ps h. refl

pub loop-n-preserved : goal.loop-n-preserved
loop-n-preserved c = λ ps h.
    let x = c.n-item.result in
    named_on c.args.names.now c.loop-n.n-index x ps (any_named c.args.names.now ps) c.loop-n-test.true c.n-item.is (sym (h x.now.place) ∙ sym c.has.ensures.value ∙ c.if-has.false) (c.loop-n.invariant ps h)

pub returns-then-has : goal.returns-then-has
returns-then-has c = record {
  value = λ ps h.
      let x = c.n-item.result in
      named_here c.args.names.now c.loop-n.n-index x ps (any_named c.args.names.now ps) c.loop-n-test.true c.n-item.is (sym (h x.now.place) ∙ sym c.has.ensures.value ∙ c.if-has.true) (c.loop-n.invariant ps h);
}

pub returns : goal.returns
returns c = record { value = λ ps h. named_end c.args.names.now c.loop-n.n-index ps (any_named c.args.names.now ps) c.loop-n-test.false (c.loop-n.invariant ps h) }

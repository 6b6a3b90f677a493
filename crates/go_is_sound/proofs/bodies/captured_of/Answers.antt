use Rattle.std.proofs.lemmas.List.{drop_more}
use Rattle.go_is_sound.proofs.BodyLemmas.{captured_step, captured_end}
use Rattle.go_is_sound.proofs.bodies.captured_of.Goals as goal

pub loop-v-preserved : goal.loop-v-preserved
loop-v-preserved c = λ p h.
    let vs = c.deref-v-items.result.now in
    let i = c.loop-v.v-index in
    captured_step p _ _ vs i _ (drop_more vs i _ c.loop-v-test.true) (c.in_ok-push_captured.ensures.is p h c.if-not-branch.false) (c.loop-v.invariant p h)

pub returns : goal.returns
returns c = record {
  is = λ p h.
      captured_end p c.loop-v.vars.items c.deref-v-items.result.now c.args.f.now.captured.items.items c.loop-v.v-index c.deref-v-items.ensures.value c.loop-v-test.false (c.loop-v.invariant p h);
}

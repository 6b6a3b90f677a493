use Rattle.std.proofs.Common.{sym, ap, subst, arith, [], ◌∷◌, length}
use Rattle.std.proofs.lemmas.List.{length-append}
use Rattle.js_code.specs.Parts.{trees_of}
use Rattle.js_simple.specs.Simple.{AreMarks, HasNoCall}
use Rattle.js_simple.proofs.Marked.{marked_more}
use Rattle.js_simple.proofs.marks.Marks.of.Goals as goal

pub loop-i-preserved : goal.loop-i-preserved
loop-i-preserved c =
    let e = c.in_ok-push.ensures.items in
    let n = length-append c.loop-i.simple.items (c.mark_of-mark.result ∷ []) in (
      omega (arith, ap length e, n),
      subst (AreMarks (trees_of c.args.code.now)) (sym e) (marked_more (trees_of c.args.code.now) c.loop-i.simple.items c.mark_of-mark.result c.loop-i.i c.loop-i.invariant.1 c.loop-i.invariant.0
          (λ h. subst (HasNoCall (trees_of c.args.code.now)) c.in_ok-n.ensures.value (c.mark_of-mark.ensures.value (subst (AreMarks (trees_of c.args.code.now)) (sym c.as_slice.ensures.value) c.loop-i.invariant.1) h))),
    )

use Rattle.std.proofs.Common.{◌≡◌, ap, sym, ◌∙◌, subst, Bool}
use Rattle.go_core.specs.Control as control
use Rattle.go_core.specs.Goroutine.{with_memory}
use Rattle.go_values.specs.ValuesSeen.{memory_of}
use Rattle.go_state.specs.StateSeen.{frame_of}
use Rattle.go_state.proofs.GoesLemmas.{lacked, same_step}
use Rattle.go_core.specs.CoreTree.{Bound, bound, no_bound}
use Rattle.go_core.specs.CoreView.{bound_of, expr_view, stmts_view}
use Rattle.std.specs.Prelude.{option_map}
use Rattle.go_state.specs.TasksSeen.{condition_of}
use Rattle.go_state.specs.FrameStepsFound.{NoStep}
use Rattle.go_state.proofs.frame_steps.control.turn_step.Goals as goal

pub returns-in_err-b-in-Some : goal.returns-in_err-b-in-Some
returns-in_err-b-in-Some c = record {
  value = λ p ts m.
      let l = c.args.parts.label.0 in
      let body = stmts_view ts c.args.parts.body.now in
      let post = stmts_view ts c.args.parts.post.now in
      let e = expr_view ts c.in-Some.field-0 in
      let q : condition_of ts c.args.parts ≡ bound e = ap (λ o. bound_of (option_map (expr_view ts) o)) c.in-Some.is in
      lacked p ts c.from_residual.result c.in_err-b-in-Some.field-0.0 c.args.f.now c.choice.new.f m m (λ g. control.turn_step p g l (condition_of ts c.args.parts) body post) c.from_residual.ensures.1
      (λ g below s.
      let s0 = with_memory (memory_of ts m) s in
      subst (λ (b : Bound). NoStep c.in_err-b-in-Some.field-0.0 (control.turn_step p g l b body post (frame_of ts c.args.f.now) below s0)) (sym q)
      (c.in_err-b-in-Some.ensures.value ts (λ v f'. control.turned p g v l (bound e) body post f' below s0)));
}

pub returns-in-None : goal.returns-in-None
returns-in-None c = record {
  value = λ p ts m.
      let l = c.args.parts.label.0 in
      let body = stmts_view ts c.args.parts.body.now in
      let post = stmts_view ts c.args.parts.post.now in
      let f = frame_of ts c.args.f.now in
      let q : condition_of ts c.args.parts ≡ no_bound = ap (λ o. bound_of (option_map (expr_view ts) o)) c.in-None.is in
      same_step p ts c.turn_body.result c.args.f.now c.args.f.now c.turn_body.new.f m m
      (λ g. control.turn_body p g l (condition_of ts c.args.parts) body post) (λ g. control.turn_step p g l (condition_of ts c.args.parts) body post)
      (λ g below s.
      let s0 = with_memory (memory_of ts m) s in
      ap (λ (b : Bound). control.turn_step p g l b body post f below s0) q ∙ sym (ap (λ (b : Bound). control.turn_body p g l b body post f below s0) q))
      (c.turn_body.ensures.value p ts m);
}

pub returns-then-b : goal.returns-then-b
returns-then-b c = record {
  value = λ p ts m.
      let l = c.args.parts.label.0 in
      let body = stmts_view ts c.args.parts.body.now in
      let post = stmts_view ts c.args.parts.post.now in
      let e = expr_view ts c.in-Some.field-0 in
      let f = frame_of ts c.args.f.now in
      let f1 = frame_of ts c.choice.new.f in
      let q : condition_of ts c.args.parts ≡ bound e = ap (λ o. bound_of (option_map (expr_view ts) o)) c.in-Some.is in
      same_step p ts c.turn_body-then-b.result c.args.f.now c.choice.new.f c.turn_body-then-b.new.f m m
      (λ g. control.turn_body p g l (condition_of ts c.args.parts) body post) (λ g. control.turn_step p g l (condition_of ts c.args.parts) body post)
      (λ g below s.
      let s0 = with_memory (memory_of ts m) s in
      ap (λ (b : Bound). control.turn_step p g l b body post f below s0) q
      ∙ c.in_ok-b-in-Some.ensures.value ts (λ v f'. control.turned p g v l (bound e) body post f' below s0)
      ∙ ap (λ (v : Bool). control.turned p g v l (bound e) body post f1 below s0) c.if-b.true
      ∙ sym (ap (λ (b : Bound). control.turn_body p g l b body post f1 below s0) q))
      (c.turn_body-then-b.ensures.value p ts m);
}

pub returns-else-b : goal.returns-else-b
returns-else-b c = record {
  value = λ p ts m g below s.
      let l = c.args.parts.label.0 in
      let body = stmts_view ts c.args.parts.body.now in
      let post = stmts_view ts c.args.parts.post.now in
      let e = expr_view ts c.in-Some.field-0 in
      let s0 = with_memory (memory_of ts m) s in
      let q : condition_of ts c.args.parts ≡ bound e = ap (λ o. bound_of (option_map (expr_view ts) o)) c.in-Some.is in
      ap (λ (b : Bound). control.turn_step p g l b body post (frame_of ts c.args.f.now) below s0) q
      ∙ c.in_ok-b-in-Some.ensures.value ts (λ v f'. control.turned p g v l (bound e) body post f' below s0)
      ∙ ap (λ (v : Bool). control.turned p g v l (bound e) body post (frame_of ts c.choice.new.f) below s0) c.if-b.false;
}

use Rattle.std.proofs.Common.{ap, sym, ◌∙◌, Bool}
use Rattle.std.specs.Prelude.{if◌then◌else◌}
use Rattle.go_core.specs.Control as control
use Rattle.go_core.specs.Goroutine.{with_memory}
use Rattle.go_values.specs.ValuesSeen.{memory_of}
use Rattle.go_state.specs.StateSeen.{frame_of}
use Rattle.go_state.proofs.GoesLemmas.{lacked}
use Rattle.go_core.specs.CoreTree.{Stmts}
use Rattle.go_core.specs.CoreView.{stmts_view}
use Rattle.go_core.specs.Opened.{all_opened}
use Rattle.go_state.proofs.ListsLemmas.{stmts_whole}
use Rattle.go_state.proofs.FrameLemmas.{went_first}
use Rattle.go_state.proofs.frame_steps.control.choose_step.Goals as goal

pub returns-in_err-b : goal.returns-in_err-b
returns-in_err-b c = record {
  value = λ p ts m.
      let a = stmts_view ts c.args.when_true.now in
      let b = stmts_view ts c.args.when_false.now in
      lacked p ts c.from_residual.result _ c.args.f.now c.choice.new.f m m (λ g. control.choose_step p g a b) c.from_residual.ensures.1
      (λ g below s. c.in_err-b.ensures.value ts (λ v f'. control.go_on p g (all_opened (if v then a else b)) 0 f' below (with_memory (memory_of ts m) s)));
}

pub returns-in_ok-before : goal.returns-in_ok-before
returns-in_ok-before c = record {
  value = λ p ts m g below s.
      let a = stmts_view ts c.args.when_true.now in
      let b = stmts_view ts c.args.when_false.now in
      let f1 = frame_of ts c.choice.new.f in
      let s0 = with_memory (memory_of ts m) s in
      c.in_ok-b.ensures.value ts (λ v f'. control.go_on p g (all_opened (if v then a else b)) 0 f' below s0)
      ∙ ap (λ (v : Bool). control.go_on p g (all_opened (if v then a else b)) 0 f1 below s0) c.if-b.true
      ∙ went_first p g (all_opened a) 0 f1 _ below (memory_of ts m) s _ (c.in_ok-before.ensures.value ts)
      (ap (λ (ss : Stmts). all_opened ss f1.tasks) (sym (stmts_whole ts c.args.when_true.now)));
}

pub returns-in_ok-before-2 : goal.returns-in_ok-before-2
returns-in_ok-before-2 c = record {
  value = λ p ts m g below s.
      let a = stmts_view ts c.args.when_true.now in
      let b = stmts_view ts c.args.when_false.now in
      let f1 = frame_of ts c.choice.new.f in
      let s0 = with_memory (memory_of ts m) s in
      c.in_ok-b.ensures.value ts (λ v f'. control.go_on p g (all_opened (if v then a else b)) 0 f' below s0)
      ∙ ap (λ (v : Bool). control.go_on p g (all_opened (if v then a else b)) 0 f1 below s0) c.if-b.false
      ∙ went_first p g (all_opened b) 0 f1 _ below (memory_of ts m) s _ (c.in_ok-before-2.ensures.value ts)
      (ap (λ (ss : Stmts). all_opened ss f1.tasks) (sym (stmts_whole ts c.args.when_false.now)));
}

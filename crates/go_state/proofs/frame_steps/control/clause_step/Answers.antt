use Rattle.std.proofs.Common.{ap, ◌∙◌, refl, Bool}
use Rattle.go_core.specs.Control as control
use Rattle.go_core.specs.Goroutine.{with_memory}
use Rattle.go_values.specs.ValuesSeen.{memory_of}
use Rattle.go_state.specs.StateSeen.{frame_of}
use Rattle.go_state.proofs.GoesLemmas.{lacked}
use Rattle.go_core.specs.Opened.{clause_opened, tests_opened}
use Rattle.go_core.specs.declared.statement.CoreClauses.{out-CoreClauses}
use Rattle.go_state.specs.TasksSeen.{clauses_from, tests_from}
use Rattle.go_state.proofs.FrameLemmas.{clause_later, went_first}
use Rattle.go_state.proofs.frame_steps.control.clause_step.Goals as goal

pub returns-in_err-b : goal.returns-in_err-b
returns-in_err-b c = record {
  value = λ p ts m.
      let n = c.args.clause in
      let tests = tests_from ts c.args.others.tests.now c.args.others.from in
      let cs = clauses_from ts c.args.others.clauses.now 0 in
      let d = c.args.others.default in
      lacked p ts c.from_residual.result _ c.args.f.now c.choice.new.f m m (λ g. control.clause_step p g n tests cs d) c.from_residual.ensures.1
      (λ g below s. c.in_err-b.ensures.value ts (λ v f'. control.clause_or_next p g v n tests cs d f' below (with_memory (memory_of ts m) s)));
}

pub returns-in_ok-before : goal.returns-in_ok-before
returns-in_ok-before c = record {
  value = λ p ts m g below s.
      let n = c.args.clause in
      let tests = tests_from ts c.args.others.tests.now c.args.others.from in
      let cs = clauses_from ts c.args.others.clauses.now 0 in
      let d = c.args.others.default in
      let f1 = frame_of ts c.choice.new.f in
      let s0 = with_memory (memory_of ts m) s in
      c.in_ok-b.ensures.value ts (λ v f'. control.clause_or_next p g v n tests cs d f' below s0)
      ∙ ap (λ (v : Bool). control.clause_or_next p g v n tests cs d f1 below s0) c.if-b.true
      ∙ went_first p g (clause_opened cs n) 1 f1 _ below (memory_of ts m) s _ (c.in_ok-before.ensures.value ts)
      (clause_later ts (out-CoreClauses c.args.others.clauses.now).items.items n f1.tasks);
}

pub returns-in_ok-before-2 : goal.returns-in_ok-before-2
returns-in_ok-before-2 c = record {
  value = λ p ts m g below s.
      let n = c.args.clause in
      let tests = tests_from ts c.args.others.tests.now c.args.others.from in
      let cs = clauses_from ts c.args.others.clauses.now 0 in
      let d = c.args.others.default in
      let f1 = frame_of ts c.choice.new.f in
      let s0 = with_memory (memory_of ts m) s in
      c.in_ok-b.ensures.value ts (λ v f'. control.clause_or_next p g v n tests cs d f' below s0)
      ∙ ap (λ (v : Bool). control.clause_or_next p g v n tests cs d f1 below s0) c.if-b.false
      ∙ went_first p g (tests_opened tests cs d) 1 f1 _ below (memory_of ts m) s (tests_opened tests cs d f1.tasks) (c.in_ok-before-2.ensures.value ts) refl;
}

use Rattle.std.proofs.Common.{ap, ◌∙◌}
use Rattle.go_core.specs.Control as control
use Rattle.go_core.specs.Goroutine.{with_memory}
use Rattle.go_core.specs.Opened.{clause_opened}
use Rattle.go_core.specs.declared.statement.CoreClauses.{out-CoreClauses}
use Rattle.go_state.specs.TasksSeen.{clauses_from}
use Rattle.go_values.specs.ValuesSeen.{memory_of}
use Rattle.go_state.specs.StateSeen.{frame_of}
use Rattle.go_state.proofs.FrameLemmas.{clause_later, went_first}
use Rattle.go_state.proofs.frame_steps.control.default_step.Goals as goal

pub returns-in_ok-before-in-Some : goal.returns-in_ok-before-in-Some
returns-in_ok-before-in-Some c = record {
  value = λ p ts m g below s.
      let clauses = clauses_from ts c.args.clauses.now 0 in
      let n = c.in-Some.clause in
      let f = frame_of ts c.args.f.now in
      ap (λ d. control.default_step p g clauses d f below (with_memory (memory_of ts m) s)) c.in-Some.is
      ∙ went_first p g (clause_opened clauses n) 0 f _ below (memory_of ts m) s _
      (c.in_ok-before-in-Some.ensures.value ts)
      (clause_later ts (out-CoreClauses c.args.clauses.now).items.items n f.tasks);
}

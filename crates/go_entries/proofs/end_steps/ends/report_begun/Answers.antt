use Rattle.std.proofs.Common.{◌≡◌, ◌∙◌, [], sym, ap, subst, ℕ, List}
use Rattle.std.specs.Prelude.{Option, Some}
use Rattle.go_type.specs.Table.{places, names}
use Rattle.go_type.specs.declared.table.TypeTable.{TypeTable}
use Rattle.go_core.specs.CoreView.{program_view}
use Rattle.go_core.specs.Goroutine.{moved, panicked, with_memory}
use Rattle.go_core.specs.Panics.{report_begun}
use Rattle.go_core.specs.StepInterfaces.{plain_text}
use Rattle.go_values.specs.ValuesSeen.{scalar_of, memory_of}
use Rattle.go_state.specs.StateSeen.{frame_of, stacked}
use Rattle.go_state.specs.declared.state.state.End.TheVariants as end
use Rattle.go_entries.proofs.FrameLemmas.{leaves_as, left_with}
use Rattle.go_entries.proofs.end_steps.ends.report_begun.Goals as goal

pub returns-in-Some : goal.returns-in-Some
returns-in-Some c =
    let q = program_view c.args.p.now in
    let ts = places c.args.p.now.types in
    let m = memory_of ts c.args.m.now in
    let v = scalar_of ts c.args.x in
    record {
      value =
          leaves_as ts c.report_by.result _ _ _ _ (λ g s. ap (λ (o : Option ℕ). report_begun q g v o (with_memory m s)) (sym c.error_row.ensures.value ∙ c.in-Some.is)) c.report_by.ensures.value;
    }

pub returns-in_ok-text-in-None : goal.returns-in_ok-text-in-None
returns-in_ok-text-in-None c =
    let q = program_view c.args.p.now in
    let ts = places c.args.p.now.types in
    let m = memory_of ts c.args.m.now in
    let v = scalar_of ts c.args.x in
    let text = subst (λ (w : TypeTable). c.in_ok-text-in-None.text.now ≡ plain_text (names w) (scalar_of (places w) c.args.x)) c.requires c.in_ok-text-in-None.ensures.value in
    record {
      value =
          left_with ts (Some (end.Panicked c.in_ok-text-in-None.text)) c.clear.new.self.items c.args.m.now _ [] (ap (stacked (frame_of ts)) c.clear.ensures.items)
          (λ g s.
          ap (λ (o : Option ℕ). report_begun q g v o (with_memory m s)) (sym c.error_row.ensures.value ∙ c.in-None.is)
          ∙ ap (λ (bytes : List ℕ). Some (record (moved g [] 1 (with_memory m s)) { end = panicked bytes })) (sym text));
    }

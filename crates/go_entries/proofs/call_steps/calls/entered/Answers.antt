use Rattle.std.proofs.Common.{refl, sym, subst}
use Rattle.std.specs.Prelude.{Err}
use Rattle.go_type.specs.Table.{places}
use Rattle.go_core.specs.CoreView.{program_view}
use Rattle.go_values.specs.declared.values.run_panic.RunPanic.TheVariants as panicked
use Rattle.go_values.specs.declared.operators.did.Stop.TheVariants as stop
use Rattle.go_entries.specs.EntriesSeen.{resolved_of}
use Rattle.go_entries.specs.declared.entries.resolve.Resolved.{Resolved}
use Rattle.go_entries.specs.Enters.{CallEnters}
use Rattle.go_entries.proofs.CallStepsEnterLemmas.{call_enters}
use Rattle.go_entries.proofs.call_steps.calls.entered.Goals as goal

pub returns-in-Ready : goal.returns-in-Ready
returns-in-Ready c =
    let q = program_view c.args.p.now in
    let ts = places c.args.p.now.types in
    record {
      value =
          subst (λ (r : Resolved). CallEnters q ts c.enter.result c.args.m.now c.enter.new.m (resolved_of ts r)) (sym c.in-Ready.is) (call_enters q ts c.enter.result c.args.m.now c.enter.new.m _ _ _ _ c.enter.ensures.value);
    }

pub returns-in-NilFunction : goal.returns-in-NilFunction
returns-in-NilFunction c =
    let q = program_view c.args.p.now in
    let ts = places c.args.p.now.types in
    record {
      value = subst (λ (r : Resolved). CallEnters q ts (Err (stop.Panics panicked.NilUsed 0)) c.args.m.now c.args.m.now (resolved_of ts r)) (sym c.in-NilFunction.is) (refl, refl, refl);
    }

pub returns-in-NilInterface : goal.returns-in-NilInterface
returns-in-NilInterface c =
    let q = program_view c.args.p.now in
    let ts = places c.args.p.now.types in
    record {
      value = subst (λ (r : Resolved). CallEnters q ts (Err (stop.Panics panicked.NilUsed 0)) c.args.m.now c.args.m.now (resolved_of ts r)) (sym c.in-NilInterface.is) (refl, refl, refl);
    }

pub returns-in-Unresolved : goal.returns-in-Unresolved
returns-in-Unresolved c =
    let q = program_view c.args.p.now in
    let ts = places c.args.p.now.types in
    record {
      value = subst (λ (r : Resolved). CallEnters q ts (Err stop.NoStep) c.args.m.now c.args.m.now (resolved_of ts r)) (sym c.in-Unresolved.is) tt;
    }

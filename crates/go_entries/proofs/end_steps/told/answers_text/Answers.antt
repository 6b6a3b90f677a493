use Rattle.std.proofs.Common.{◌∙◌, sym, ap, false}
use Rattle.std.specs.Prelude.{Option, option_map}
use Rattle.std.specs.Borrow.{Bor}
use Rattle.go_type.specs.Table.{places}
use Rattle.go_type.specs.Tree.{no_tys}
use Rattle.go_core.specs.CoreView.{func_view}
use Rattle.go_core.specs.StepInterfaces.{has_signature, one_string}
use Rattle.go_core.specs.declared.program.Func.{Func}
use Rattle.go_entries.proofs.end_steps.told.answers_text.Goals as goal

pub returns-in-Some : goal.returns-in-Some
returns-in-Some c =
    let ts = places c.args.table.now in
    record {
      value =
          c.has_text.ensures.value
          ∙ sym (ap (λ (o : Option (Bor Func)). has_signature no_tys one_string false (option_map (λ (f : Bor Func). func_view ts f.now) o)) c.in-Some.is);
    }

pub returns-in-None : goal.returns-in-None
returns-in-None c =
    let ts = places c.args.table.now in
    record {
      value = sym (ap (λ (o : Option (Bor Func)). has_signature no_tys one_string false (option_map (λ (f : Bor Func). func_view ts f.now) o)) c.in-None.is);
    }

use Rattle.std.proofs.Common.{◌∙◌, sym, ap, ℕ, false}
use Rattle.std.specs.Prelude.{Option, None, Bool, if◌then◌else◌}
use Rattle.go_type.specs.Table.{places}
use Rattle.go_type.specs.Tree.{no_tys}
use Rattle.go_core.specs.CoreView.{program_view}
use Rattle.go_core.specs.StepInterfaces.{func_of_row, has_signature, one_string}
use Rattle.go_entries.proofs.end_steps.told.row_of_type.Goals as goal

pub returns-then-answers_text : goal.returns-then-answers_text
returns-then-answers_text c =
    let p = program_view c.args.p.now in
    let ts = places c.args.p.now.types in
    let row = c.row_of-row.result in
    let answers : Option ℕ → Bool = λ r. has_signature no_tys one_string false (func_of_row p r) in
    let yes_ = sym (ap (has_signature no_tys one_string false) c.func_of_row-func.ensures.value) ∙ sym c.answers_text.ensures.value ∙ c.if-answers_text.true in
    record {
      value = λ xs.
          sym (ap (λ (b : Bool). if b then row else None) yes_) ∙ ap (λ (r : Option ℕ). if answers r then r else None) c.row_of-row.ensures.value;
    }

pub returns : goal.returns
returns c =
    let p = program_view c.args.p.now in
    let ts = places c.args.p.now.types in
    let row = c.row_of-row.result in
    let answers : Option ℕ → Bool = λ r. has_signature no_tys one_string false (func_of_row p r) in
    let no_ = sym (ap (has_signature no_tys one_string false) c.func_of_row-func.ensures.value) ∙ sym c.answers_text.ensures.value ∙ c.if-answers_text.false in
    record {
      value = λ xs.
          sym (ap (λ (b : Bool). if b then row else None) no_) ∙ ap (λ (r : Option ℕ). if answers r then r else None) c.row_of-row.ensures.value;
    }

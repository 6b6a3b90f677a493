use Rattle.std.proofs.Common.{◌∙◌, sym, ap}
use Rattle.go_state.proofs.TodoLemmas.{if_ok}
use Rattle.go_core.specs.Memory as core
use Rattle.go_core.specs.StepInterfaces.{content_text}
use Rattle.go_type.specs.Levels.{level}
use Rattle.go_type.specs.declared.types.GoType.{GoType}
use Rattle.go_values.specs.ValuesSeen.{scalar_of}
use Rattle.go_entries.proofs.TextLemmas.{other_level}
use Rattle.go_entries.proofs.end_steps.report.level_text.Goals as goal

pub returns-in-Bool : goal.returns-in-Bool
returns-in-Bool c = record {
  value = if_ok c.truth_in.result (λ r h ts others. h ts others ∙ sym (ap (λ (g : GoType). content_text (level ts g) (core.scalar (scalar_of ts c.args.x) others)) c.in-Bool.is)) c.truth_in.ensures.value;
}

pub returns-in-Int : goal.returns-in-Int
returns-in-Int c = record {
  value = if_ok c.number_in.result (λ r h ts others. h ts c.in-Int.field-0 others ∙ sym (ap (λ (g : GoType). content_text (level ts g) (core.scalar (scalar_of ts c.args.x) others)) c.in-Int.is)) c.number_in.ensures.value;
}

pub returns-in-Str : goal.returns-in-Str
returns-in-Str c = record {
  value = if_ok c.text_in.result (λ r h ts others. h ts others ∙ sym (ap (λ (g : GoType). content_text (level ts g) (core.scalar (scalar_of ts c.args.x) others)) c.in-Str.is)) c.text_in.ensures.value;
}

pub returns-in_default : goal.returns-in_default
returns-in_default c = record {
  value = if_ok c.other_text.result (λ r h ts others. h ∙ other_level ts c.args.g.now (core.scalar (scalar_of ts c.args.x) others) c.in_default.not-Bool c.in_default.not-Int c.in_default.not-Str) c.other_text.ensures.value;
}

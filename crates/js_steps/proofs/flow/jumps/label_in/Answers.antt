use Rattle.std.proofs.Common.{ap, sym, ◌∙◌, Some}
use Rattle.js_code.specs.Held.{part_of}
use Rattle.js_code.specs.Parts.{as_stmt, tree_of}
use Rattle.js_code.specs.declared.code.part.Part as kept
use Rattle.js_steps.specs.Stack.{loop_label}
use Rattle.js_steps.proofs.Others.{no_loop}
use Rattle.js_steps.proofs.flow.jumps.label_in.Goals as goal

pub returns-in-While : goal.returns-in-While
returns-in-While c = record { value = λ ts. c.label.ensures.value ∙ ap (λ (p : kept.Part). loop_label (as_stmt (Some (tree_of ts (part_of p))))) (sym c.in-While.is) }

pub returns-in-Forever : goal.returns-in-Forever
returns-in-Forever c = record { value = λ ts. c.label-in-Forever.ensures.value ∙ ap (λ (p : kept.Part). loop_label (as_stmt (Some (tree_of ts (part_of p))))) (sym c.in-Forever.is) }

pub returns-in_default : goal.returns-in_default
returns-in_default c = record { value = λ ts. sym (no_loop c.args.part c.in_default.not-While c.in_default.not-Forever ts) }

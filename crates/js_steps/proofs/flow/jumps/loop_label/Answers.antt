use Rattle.std.proofs.Common.{ap, sym, ◌∙◌, Option}
use Rattle.js_code.specs.Held.{part_of}
use Rattle.js_code.specs.Parts.{Tree, as_stmt, trees_of}
use Rattle.js_code.specs.PartLaws.{parts_stand}
use Rattle.js_steps.specs.Stack.{loop_label}
use Rattle.js_steps.specs.WayLaws.{no_tree}
use Rattle.js_steps.proofs.flow.jumps.loop_label.Goals as goal

pub returns-in-Some : goal.returns-in-Some
returns-in-Some c = record {
  value = λ s.
      let ps = c.args.code.now in
      c.label_in.ensures.value (trees_of ps)
      ∙ ap (λ (t : Option Tree). loop_label (as_stmt t)) (sym (parts_stand s.0 ps s.1 c.args.i (part_of c.in-Some.part) (sym c.in-Some.ensures.value)));
}

pub returns-in-None : goal.returns-in-None
returns-in-None c = record { value = λ s. sym (ap (λ (t : Option Tree). loop_label (as_stmt t)) (no_tree c.args.code.now c.args.i (sym c.in-None.ensures.value))) }

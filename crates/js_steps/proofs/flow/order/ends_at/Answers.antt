use Rattle.std.proofs.Common.{ap, sym, ◌∙◌, Some}
use Rattle.js_code.specs.Held.{part_of}
use Rattle.js_code.specs.Parts.{Part, as_stmts, tree_of, trees_of}
use Rattle.js_code.specs.PartLaws.{parts_stand}
use Rattle.js_steps.proofs.flow.order.ends_at.Goals as goal

pub returns-in-Some : goal.returns-in-Some
returns-in-Some c = record {
  value = λ s h.
      let ps = c.args.code.now in
      ap as_stmts (parts_stand s.0 ps s.1 c.args.i (part_of c.in-Some.part) (sym c.in-Some.ensures.value))
      ∙ ap (λ (p : Part). as_stmts (Some (tree_of (trees_of ps) p))) (c.is_end.ensures.value h);
}

pub returns-in-None : goal.returns-in-None
returns-in-None c = record { value = λ s h. cc }

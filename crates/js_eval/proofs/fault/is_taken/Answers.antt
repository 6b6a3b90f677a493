use Rattle.std.proofs.Common.{◌∙◌, sym, ap, cond, Bool, true}
use Rattle.js_tree.specs.Value.{holds}
use Rattle.js_tree.specs.Static.{preamble_names}
use Rattle.js_eval.specs.Seen.{names_of}
use Rattle.js_eval.proofs.Listed.{holds-append}
use Rattle.js_eval.proofs.fault.is_taken.Goals as goal

pub returns-then-holds : goal.returns-then-holds
returns-then-holds c = record {
  value = c.if-holds.true
      ∙ sym (holds-append c.args.x.now (names_of c.args.before.now) preamble_names
      ∙ ap (λ (b : Bool). cond b true (holds c.args.x.now preamble_names)) (sym c.holds.ensures.value ∙ c.if-holds.true));
}

pub returns-else-holds : goal.returns-else-holds
returns-else-holds c = record {
  value = c.is_preamble.ensures.value
      ∙ sym (holds-append c.args.x.now (names_of c.args.before.now) preamble_names
      ∙ ap (λ (b : Bool). cond b true (holds c.args.x.now preamble_names)) (sym c.holds.ensures.value ∙ c.if-holds.false));
}

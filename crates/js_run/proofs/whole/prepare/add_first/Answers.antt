use Rattle.std.proofs.Common.{refl, sym, subst, ap}
use Rattle.js_tree.specs.View.{item_view}
use Rattle.js_tree.specs.declared.tree.JsItem.{JsItem}
use Rattle.js_code.specs.Names.{names_of}
use Rattle.js_run.specs.Firsts.{AddsFirst}
use Rattle.js_run.proofs.Lists.{adds_global}
use Rattle.js_run.proofs.whole.prepare.add_first.Goals as goal

pub returns-in-Function : goal.returns-in-Function
returns-in-Function c = record {
  value = λ script n. subst (λ (y : JsItem). AddsFirst script (item_view y) c.args.made.now.items c.args.made.now.items) (sym c.in-Function.is) refl;
}

pub returns-in_ok-push-in-Global : goal.returns-in_ok-push-in-Global
returns-in_ok-push-in-Global c = record {
  value = λ script n.
      adds_global script c.args.item.now _ _ _ _ c.args.made.now.items c.push.new.self.items (names_of c.args.globals.now.set.keys) (ap item_view c.in-Global.is) c.in_ok-push-in-Global.ensures.items n.globals_are
      c.in_ok-slot-in-Global.ensures.value (c.in_ok-body-in-Global.ensures.value script n);
}

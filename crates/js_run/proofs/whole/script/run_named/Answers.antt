use Rattle.std.proofs.Common.{refl, subst, sym, ap, List, map}
use Rattle.js_tree.specs.Script.{Expr}
use Rattle.js_tree.specs.View.{item_view, script_view}
use Rattle.js_tree.specs.declared.tree.JsItem.{JsItem}
use Rattle.js_run.specs.Firsts.{IsPrepared}
use Rattle.js_run.proofs.Begun.{nothing_so}
use Rattle.js_run.proofs.whole.script.run_named.Goals as goal

pub returns : goal.returns
returns g c = record {
  runs =
      let script = script_view c.args.script.now in
      c.run_prepared.ensures.runs script c.requires.sound
      (subst (λ (e : Expr). IsPrepared script c.in_ok-prepared.prepared e) c.requires.named
      (c.in_ok-prepared.ensures.value script (ap (λ (items : List JsItem). map item_view items) (sym c.as_slice.ensures.value)) c.requires.sound)) refl;
}

pub returns-in_err-prepared : goal.returns-in_err-prepared
returns-in_err-prepared g c = record {
  runs = nothing_so (script_view c.args.script.now) c.args.budget (g.C.Choices.taken c.args.choices.now) (g.O.Sink.state c.args.out.now) c.from_residual.result c.from_residual.ensures.1;
}

use Rattle.std.proofs.Common.{sym, subst, Option, Some}
use Rattle.js_value.specs.HeapSeen.{value_of}
use Rattle.js_value.specs.declared.heap.value.Value as held
use Rattle.js_steps.specs.Stack.{handled}
use Rattle.js_steps.specs.Stands.{Steps}
use Rattle.js_steps.specs.PopLaws.{with_caught}
use Rattle.js_steps.proofs.Caught.{handles}
use Rattle.js_steps.proofs.flow.back.handle.Goals as goal

pub returns : goal.returns
returns c = record {
  keeps =
      let s = c.args.state.now in
      let stack = c.args.stack.now.items in
      let new = c.wait.new.stack.items in
      subst (λ (x : Option held.Value). Steps stack s new (with_caught s x) c.wait.result (λ st m. handled st c.args.handler (value_of c.args.v) m)) (sym c.replace-before.ensures.after)
      (handles stack new s c.wait.result c.args.handler c.args.v c.replace-before.result c.replace-before.ensures.value (c.wait.ensures.keeps (with_caught s (Some c.args.v))));
}

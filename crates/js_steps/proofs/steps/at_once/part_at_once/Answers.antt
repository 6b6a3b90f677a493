use Rattle.std.proofs.Common.{ap, sym, ◌∙◌, Some}
use Rattle.js_code.specs.Parts.{as_stmt, tree_of}
use Rattle.js_code.specs.declared.code.part.Part.TheVariants as held
use Rattle.js_code.specs.Held.{part_of}
use Rattle.js_steps.specs.Moment.{stmt_does}
use Rattle.js_steps.specs.WayLaws.{some_part, part_by}
use Rattle.js_steps.proofs.Once.{did_as}
use Rattle.js_steps.proofs.steps.at_once.part_at_once.Goals as goal

pub returns-in-Declare : goal.returns-in-Declare
returns-in-Declare c = record {
  value = λ stack i is.
      let s = c.args.state.now in
      let s1 = c.local_at_once.new.state in
      let w = held.Declare c.in-Declare.at c.in-Declare.slot c.in-Declare.e c.in-Declare.x in
      did_as stack s s1 c.local_at_once.result (λ st m. stmt_does st (as_stmt (Some (tree_of m.trees (part_of w)))) m) _
      (λ q. part_by stack stack s s1 q i c.args.part w (λ st t m. stmt_does st (as_stmt t) m) is c.in-Declare.is)
      (c.local_at_once.ensures.declares stack i c.in-Declare.at c.in-Declare.x.now (is ∙ ap some_part c.in-Declare.is));
}

pub returns-in-AssignLocal : goal.returns-in-AssignLocal
returns-in-AssignLocal c = record {
  value = λ stack i is.
      let s = c.args.state.now in
      let s1 = c.local_at_once-in-AssignLocal.new.state in
      let w = held.AssignLocal c.in-AssignLocal.at c.in-AssignLocal.slot c.in-AssignLocal.e c.in-AssignLocal.x in
      did_as stack s s1 c.local_at_once-in-AssignLocal.result (λ st m. stmt_does st (as_stmt (Some (tree_of m.trees (part_of w)))) m) _
      (λ q. part_by stack stack s s1 q i c.args.part w (λ st t m. stmt_does st (as_stmt t) m) is c.in-AssignLocal.is)
      (c.local_at_once-in-AssignLocal.ensures.assigns stack i c.in-AssignLocal.at c.in-AssignLocal.x.now (is ∙ ap some_part c.in-AssignLocal.is));
}

pub returns-in-AssignGlobal : goal.returns-in-AssignGlobal
returns-in-AssignGlobal c = record {
  value = λ stack i is.
      let s = c.args.state.now in
      let s1 = c.global_at_once.new.state in
      let w = held.AssignGlobal c.in-AssignGlobal.at c.in-AssignGlobal.slot c.in-AssignGlobal.e c.in-AssignGlobal.x in
      did_as stack s s1 c.global_at_once.result (λ st m. stmt_does st (as_stmt (Some (tree_of m.trees (part_of w)))) m) _
      (λ q. part_by stack stack s s1 q i c.args.part w (λ st t m. stmt_does st (as_stmt t) m) is c.in-AssignGlobal.is)
      (c.global_at_once.ensures.assigns stack i c.in-AssignGlobal.at c.in-AssignGlobal.x.now (is ∙ ap some_part c.in-AssignGlobal.is));
}

pub returns-in-Store : goal.returns-in-Store
returns-in-Store c = record {
  value = λ stack i is.
      let s = c.args.state.now in
      let s1 = c.store_at_once.new.state in
      let w = held.Store c.in-Store.at c.in-Store.e c.in-Store.i c.in-Store.value in
      did_as stack s s1 c.store_at_once.result (λ st m. stmt_does st (as_stmt (Some (tree_of m.trees (part_of w)))) m) _
      (λ q. part_by stack stack s s1 q i c.args.part w (λ st t m. stmt_does st (as_stmt t) m) is c.in-Store.is)
      (c.store_at_once.ensures.value stack);
}

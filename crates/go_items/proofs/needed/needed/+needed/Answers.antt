use Rattle.std.proofs.Common.{◌∙◌, sym, ap, List, map, ◌++◌}
use Rattle.std.proofs.lemmas.Result.{on_ok_weaker}
use Rattle.go_syntax.specs.View.{expr_view, exprs_of}
use Rattle.go_syntax.specs.declared.tree.Expr.{Expr}
use Rattle.go_operands.specs.EnvView.{env_of}
use Rattle.go_typing.specs.Scopes.{visible}
use Rattle.go_typing.specs.Cycles.{needed, needed_all}
use Rattle.go_items.proofs.JoinLemmas.{of_none, of_one, of_two, of_four}
use Rattle.go_items.proofs.FormLemmas.{needed_Slice, needed_look}
use Rattle.go_items.proofs.needed.needed.+needed.Goals as goal

pub needed-returns-in_ok-needed_maybe-in-Slice-2 : goal.needed-returns-in_ok-needed_maybe-in-Slice-2
needed-returns-in_ok-needed_maybe-in-Slice-2 t c =
    let e = needed_Slice (visible (env_of c.args.env.now)) c.args.e.now c.deref.result.now c.in-Slice.x c.in-Slice.low c.in-Slice.high c.in-Slice.most c.deref.ensures c.in-Slice.is in
    record { value = on_ok_weaker c.needed_maybe-in-Slice-2.result (of_four _ _ _ _ _ _ _ _ _ _ c.in_ok-needed-in-Slice.ensures.value c.in_ok-needed_maybe-in-Slice.ensures.value c.in_ok-needed_maybe-in-Slice-2.ensures.value e) c.needed_maybe-in-Slice-2.ensures.value }

pub needed-returns-in-Nothing : goal.needed-returns-in-Nothing
needed-returns-in-Nothing t c =
    let e = needed_look (visible (env_of c.args.env.now)) c.args.e.now c.deref.result.now c.in-Call.f c.in-Call.args c.in-Call.field-2 c.called.result _ c.deref.ensures c.in-Call.is c.called.ensures.value c.in-Nothing.is in
    record { value = of_none _ _ e }

pub needed-returns-in-Arguments : goal.needed-returns-in-Arguments
needed-returns-in-Arguments t c =
    let ss = visible (env_of c.args.env.now) in
    let e = needed_look ss c.args.e.now c.deref.result.now c.in-Call.f c.in-Call.args c.in-Call.field-2 c.called.result _ c.deref.ensures c.in-Call.is c.called.ensures.value c.in-Arguments.is
    ∙ ap (λ (ys : List Expr). needed_all ss (exprs_of (map expr_view ys))) (sym c.as_slice.ensures.value) in
    record { value = on_ok_weaker c.needed_all.result (of_one _ _ _ _ e) c.needed_all.ensures.value }

pub needed-returns-in_ok-needed-in-All : goal.needed-returns-in_ok-needed-in-All
needed-returns-in_ok-needed-in-All t c =
    let ss = visible (env_of c.args.env.now) in
    let e = needed_look ss c.args.e.now c.deref.result.now c.in-Call.f c.in-Call.args c.in-Call.field-2 c.called.result _ c.deref.ensures c.in-Call.is c.called.ensures.value c.in-All.is
    ∙ ap (λ (ys : List Expr). needed ss (expr_view c.in-Call.f) ++ needed_all ss (exprs_of (map expr_view ys))) (sym c.as_slice-in-All.ensures.value) in
    record { value = on_ok_weaker c.needed_all-in-All.result (of_two _ _ _ _ _ _ c.in_ok-needed-in-All.ensures.value e) c.needed_all-in-All.ensures.value }

use Rattle.std.proofs.Common.{◌∙◌, ℕ, sym, ap, List, map, ◌++◌}
use Rattle.std.specs.Prelude.{option_map}
use Rattle.std.proofs.lemmas.Result.{on_ok_weaker}
use Rattle.go_syntax.specs.Tree as tree
use Rattle.go_syntax.specs.View.{expr_view, exprs_of, elem_view, sig_view, stmt_view, block_view, clause_view, joined, maybe_expr, maybe_stmt}
use Rattle.go_syntax.specs.declared.tree.Expr.{Expr}
use Rattle.go_syntax.specs.declared.tree.Elem.{Elem}
use Rattle.go_syntax.specs.declared.tree.Clause.{Clause}
use Rattle.go_typing.specs.Uses.{names_in, names_in_bound, names_in_all, names_in_elems, names_in_sig, names_in_block, names_in_maybe, names_in_clauses}
use Rattle.go_walk.proofs.JoinLemmas.{of_two, of_three, of_four}
use Rattle.go_walk.proofs.FormLemmas.{names_Assert, names_Slice, names_Call, names_Literal, names_Func, names_ArrayT, names_MapT, names_For, names_Range, names_Switch, names_TypeSwitch, names_of_block}
use Rattle.go_walk.proofs.uses.names.+uses.Goals as goal

pub in_expr-returns-in_ok-in_bound-in-Slice-2 : goal.in_expr-returns-in_ok-in_bound-in-Slice-2
in_expr-returns-in_ok-in_bound-in-Slice-2 t c =
    let e = names_Slice c.args.e.now c.deref.result.now c.in-Slice.x c.in-Slice.low c.in-Slice.high c.in-Slice.most c.deref.ensures c.in-Slice.is in
    record { value = on_ok_weaker c.in_bound-in-Slice-2.result (of_four _ _ _ _ _ _ _ _ _ _ c.in_ok-in_expr-in-Slice.ensures.value c.in_ok-in_bound-in-Slice.ensures.value c.in_ok-in_bound-in-Slice-2.ensures.value e) c.in_bound-in-Slice-2.ensures.value }

pub in_expr-returns-in_ok-in_expr-in-Assert : goal.in_expr-returns-in_ok-in_expr-in-Assert
in_expr-returns-in_ok-in_expr-in-Assert t c =
    let e = names_Assert c.args.e.now c.deref.result.now c.in-Assert.x c.in-Assert.ty c.deref.ensures c.in-Assert.is in
    record { value = on_ok_weaker c.in_expr-in-Assert-2.result (of_two _ _ _ _ _ _ c.in_ok-in_expr-in-Assert.ensures.value e) c.in_expr-in-Assert-2.ensures.value }

pub in_expr-returns-in_ok-in_expr-in-Call : goal.in_expr-returns-in_ok-in_expr-in-Call
in_expr-returns-in_ok-in_expr-in-Call t c =
    let e = names_Call c.args.e.now c.deref.result.now c.in-Call.f c.in-Call.args c.in-Call.field-2 c.deref.ensures c.in-Call.is
    ∙ ap (λ (ys : List Expr). names_in (expr_view c.in-Call.f) ++ names_in_all (exprs_of (map expr_view ys))) (sym c.as_slice.ensures.value) in
    record { value = on_ok_weaker c.in_exprs.result (of_two _ _ _ _ _ _ c.in_ok-in_expr-in-Call.ensures.value e) c.in_exprs.ensures.value }

pub in_expr-returns-in_ok-in_bound-in-Literal : goal.in_expr-returns-in_ok-in_bound-in-Literal
in_expr-returns-in_ok-in_bound-in-Literal t c =
    let e = names_Literal c.args.e.now c.deref.result.now c.in-Literal.ty c.in-Literal.elems c.deref.ensures c.in-Literal.is
    ∙ ap (λ (ys : List Elem). names_in_bound (maybe_expr (option_map expr_view c.in-Literal.ty)) ++ names_in_elems (joined (map elem_view ys) tree.NoElems)) (sym c.as_slice-in-Literal.ensures.value) in
    record { value = on_ok_weaker c.in_elems.result (of_two _ _ _ _ _ _ c.in_ok-in_bound-in-Literal.ensures.value e) c.in_elems.ensures.value }

pub in_expr-returns-in_ok-in_sig-in-Func : goal.in_expr-returns-in_ok-in_sig-in-Func
in_expr-returns-in_ok-in_sig-in-Func t c =
    let e = names_Func c.args.e.now c.deref.result.now c.in-Func.sig c.in-Func.block c.deref.ensures c.in-Func.is
    ∙ ap (λ (z : List (List ℕ)). names_in_sig (sig_view c.in-Func.sig) ++ z) (names_of_block c.in-Func.block c.as_slice-in-Func.result.now c.as_slice-in-Func.ensures.value) in
    record { value = on_ok_weaker c.in_stmts.result (of_two _ _ _ _ _ _ c.in_ok-in_sig-in-Func.ensures.value e) c.in_stmts.ensures.value }

pub in_expr-returns-in_ok-in_bound-in-ArrayT : goal.in_expr-returns-in_ok-in_bound-in-ArrayT
in_expr-returns-in_ok-in_bound-in-ArrayT t c =
    let e = names_ArrayT c.args.e.now c.deref.result.now c.in-ArrayT.n c.in-ArrayT.ty c.deref.ensures c.in-ArrayT.is in
    record { value = on_ok_weaker c.in_expr-in-ArrayT.result (of_two _ _ _ _ _ _ c.in_ok-in_bound-in-ArrayT.ensures.value e) c.in_expr-in-ArrayT.ensures.value }

pub in_expr-returns-in_ok-in_expr-in-MapT : goal.in_expr-returns-in_ok-in_expr-in-MapT
in_expr-returns-in_ok-in_expr-in-MapT t c =
    let e = names_MapT c.args.e.now c.deref.result.now c.in-MapT.key c.in-MapT.ty c.deref.ensures c.in-MapT.is in
    record { value = on_ok_weaker c.in_expr-in-MapT-2.result (of_two _ _ _ _ _ _ c.in_ok-in_expr-in-MapT.ensures.value e) c.in_expr-in-MapT-2.ensures.value }

pub in_stmt-returns-in_ok-in_maybe-in-For-2 : goal.in_stmt-returns-in_ok-in_maybe-in-For-2
in_stmt-returns-in_ok-in_maybe-in-For-2 t c =
    let e = names_For c.args.s.now c.deref.result.now c.in-For.init c.in-For.x c.in-For.post c.in-For.b c.deref.ensures c.in-For.is
    ∙ ap (λ (z : List (List ℕ)). names_in_maybe (maybe_stmt (option_map stmt_view c.in-For.init)) ++ names_in_bound (maybe_expr (option_map expr_view c.in-For.x)) ++ names_in_maybe (maybe_stmt (option_map stmt_view c.in-For.post)) ++ z) (names_of_block c.in-For.b c.as_slice-in-For.result.now c.as_slice-in-For.ensures.value) in
    record { value = on_ok_weaker c.in_stmts-in-For.result (of_four _ _ _ _ _ _ _ _ _ _ c.in_ok-in_maybe-in-For.ensures.value c.in_ok-in_bound-in-For.ensures.value c.in_ok-in_maybe-in-For-2.ensures.value e) c.in_stmts-in-For.ensures.value }

pub in_stmt-returns-in_ok-in_expr-in-Range : goal.in_stmt-returns-in_ok-in_expr-in-Range
in_stmt-returns-in_ok-in_expr-in-Range t c =
    let e = names_Range c.args.s.now c.deref.result.now c.in-Range.xs c.in-Range.field-1 c.in-Range.y c.in-Range.b c.deref.ensures c.in-Range.is
    ∙ ap (λ (ys : List Expr). names_in_all (exprs_of (map expr_view ys)) ++ names_in (expr_view c.in-Range.y) ++ names_in_block (block_view c.in-Range.b)) (sym c.as_slice-in-Range.ensures.value)
    ∙ ap (λ (z : List (List ℕ)). names_in_all (exprs_of (map expr_view c.as_slice-in-Range.result.now)) ++ names_in (expr_view c.in-Range.y) ++ z) (names_of_block c.in-Range.b c.as_slice-in-Range-2.result.now c.as_slice-in-Range-2.ensures.value) in
    record { value = on_ok_weaker c.in_stmts-in-Range.result (of_three _ _ _ _ _ _ _ _ c.in_ok-in_exprs-in-Range.ensures.value c.in_ok-in_expr-in-Range.ensures.value e) c.in_stmts-in-Range.ensures.value }

pub in_stmt-returns-in_ok-in_bound-in-Switch : goal.in_stmt-returns-in_ok-in_bound-in-Switch
in_stmt-returns-in_ok-in_bound-in-Switch t c =
    let e = names_Switch c.args.s.now c.deref.result.now c.in-Switch.init c.in-Switch.x c.in-Switch.cs c.deref.ensures c.in-Switch.is
    ∙ ap (λ (ys : List Clause). names_in_maybe (maybe_stmt (option_map stmt_view c.in-Switch.init)) ++ names_in_bound (maybe_expr (option_map expr_view c.in-Switch.x)) ++ names_in_clauses (joined (map clause_view ys) tree.NoClauses)) (sym c.as_slice-in-Switch.ensures.value) in
    record { value = on_ok_weaker c.in_clauses.result (of_three _ _ _ _ _ _ _ _ c.in_ok-in_maybe-in-Switch.ensures.value c.in_ok-in_bound-in-Switch.ensures.value e) c.in_clauses.ensures.value }

pub in_stmt-returns-in_ok-in_expr-in-TypeSwitch : goal.in_stmt-returns-in_ok-in_expr-in-TypeSwitch
in_stmt-returns-in_ok-in_expr-in-TypeSwitch t c =
    let e = names_TypeSwitch c.args.s.now c.deref.result.now c.in-TypeSwitch.init c.in-TypeSwitch.field-1 c.in-TypeSwitch.x c.in-TypeSwitch.cs c.deref.ensures c.in-TypeSwitch.is
    ∙ ap (λ (ys : List Clause). names_in_maybe (maybe_stmt (option_map stmt_view c.in-TypeSwitch.init)) ++ names_in (expr_view c.in-TypeSwitch.x) ++ names_in_clauses (joined (map clause_view ys) tree.NoClauses)) (sym c.as_slice-in-TypeSwitch.ensures.value) in
    record { value = on_ok_weaker c.in_clauses-in-TypeSwitch.result (of_three _ _ _ _ _ _ _ _ c.in_ok-in_maybe-in-TypeSwitch.ensures.value c.in_ok-in_expr-in-TypeSwitch.ensures.value e) c.in_clauses-in-TypeSwitch.ensures.value }

use Rattle.std.proofs.Common.{◌≡◌, sym, map, true, is_some}
use Rattle.std.proofs.lemmas.Result.{on_ok_weaker}
use Rattle.go_syntax.specs.View.{expr_view, exprs_of}
use Rattle.go_typing.specs.Call.{is_built}
use Rattle.go_operands.specs.BuiltinView.{builtin_view}
use Rattle.go_calls.specs.Words.{types_of, names_of, scopes_of}
use Rattle.go_expr.proofs.ViewLemmas.{view_Paren, view_Unary, view_Binary, view_Index, view_Slice, view_Call}
use Rattle.go_expr.proofs.WalkLemmas.{paren, unary, binary, index, slice, function_call, built_in_call, value_call}
use Rattle.go_expr.proofs.expr.typing.+typing.Goals as goal

pub typing-returns-in_ok-typing-in-Paren-clause-walks : goal.typing-returns-in_ok-typing-in-Paren-clause-walks
typing-returns-in_ok-typing-in-Paren-clause-walks t c =
    on_ok_weaker c.enclosed.result
    (paren (types_of c.args.env.now) (names_of c.args.env.now) (scopes_of c.args.env.now) (expr_view c.args.e.now) c.args.e.now.place (expr_view c.in-Paren.x) _ _ _ _ _ _ (view_Paren c.args.e.now c.deref.result.now c.in-Paren.x c.deref.ensures c.in-Paren.is) c.in_ok-typing-in-Paren.ensures.walks)
    c.enclosed.ensures.does

pub typing-returns-in_ok-typing-in-Some-clause-walks : goal.typing-returns-in_ok-typing-in-Some-clause-walks
typing-returns-in_ok-typing-in-Some-clause-walks t c =
    on_ok_weaker c.prefixed.result
    (unary (types_of c.args.env.now) (names_of c.args.env.now) (scopes_of c.args.env.now) (expr_view c.args.e.now) c.args.e.now.place c.in-Unary.sign c.in-Some.op (expr_view c.in-Unary.x) _ _ _ _ _ _ (view_Unary c.args.e.now c.deref.result.now c.in-Unary.sign c.in-Unary.x c.deref.ensures c.in-Unary.is) (sym c.in-Some.ensures.value) c.in_ok-typing-in-Some.ensures.walks)
    c.prefixed.ensures.does

pub typing-returns-in_ok-typing-in-Binary-2-clause-walks : goal.typing-returns-in_ok-typing-in-Binary-2-clause-walks
typing-returns-in_ok-typing-in-Binary-2-clause-walks t c =
    on_ok_weaker c.between.result
    (binary (types_of c.args.env.now) (names_of c.args.env.now) (scopes_of c.args.env.now) (expr_view c.args.e.now) c.args.e.now.place (expr_view c.in-Binary.x) c.in-Binary.op (expr_view c.in-Binary.y) _ _ _ _ _ _ _ _ (view_Binary c.args.e.now c.deref.result.now c.in-Binary.x c.in-Binary.op c.in-Binary.y c.deref.ensures c.in-Binary.is)
    c.in_ok-typing-in-Binary.ensures.walks c.in_ok-typing-in-Binary-2.ensures.walks)
    c.between.ensures.does

pub typing-returns-in_ok-typing-in-Index-2-clause-walks : goal.typing-returns-in_ok-typing-in-Index-2-clause-walks
typing-returns-in_ok-typing-in-Index-2-clause-walks t c =
    on_ok_weaker c.indexed.result
    (index (types_of c.args.env.now) (names_of c.args.env.now) (scopes_of c.args.env.now) (expr_view c.args.e.now) c.args.e.now.place (expr_view c.in-Index.x) (expr_view c.in-Index.i) _ _ _ _ _ _ _ _ (view_Index c.args.e.now c.deref.result.now c.in-Index.x c.in-Index.i c.deref.ensures c.in-Index.is)
    c.in_ok-typing-in-Index.ensures.walks c.in_ok-typing-in-Index-2.ensures.walks)
    c.indexed.ensures.does

pub typing-returns-in_ok-bound-in-Slice-3-clause-walks : goal.typing-returns-in_ok-bound-in-Slice-3-clause-walks
typing-returns-in_ok-bound-in-Slice-3-clause-walks t c =
    let low : c.is_some-has_low.result ≡ is_some c.in-Slice.low = cc in
    let high : c.is_some-has_high.result ≡ is_some c.in-Slice.high = cc in
    let most : c.is_some-has_most.result ≡ is_some c.in-Slice.most = cc in
    on_ok_weaker c.sliced.result
    (slice (types_of c.args.env.now) (names_of c.args.env.now) (scopes_of c.args.env.now) (expr_view c.args.e.now) c.args.e.now.place (expr_view c.in-Slice.x) c.in-Slice.low c.in-Slice.high c.in-Slice.most _ _ _ _ _ _ _ _ _ _ _ _ _ _ _
    (view_Slice c.args.e.now c.deref.result.now c.in-Slice.x c.in-Slice.low c.in-Slice.high c.in-Slice.most c.deref.ensures c.in-Slice.is) low high most
    c.in_ok-typing-in-Slice.ensures.walks c.in_ok-bound-in-Slice.ensures.walks c.in_ok-bound-in-Slice-2.ensures.walks c.in_ok-bound-in-Slice-3.ensures.walks)
    c.sliced.ensures.does

pub typing-returns-in_ok-given-in-Function-clause-walks : goal.typing-returns-in_ok-given-in-Function-clause-walks
typing-returns-in_ok-given-in-Function-clause-walks t c =
    let e = view_Call c.args.e.now c.deref.result.now c.in-Call.f c.in-Call.xs c.in-Call.spread c.deref.ensures c.in-Call.is in
    on_ok_weaker c.function_called.result
    (function_call (types_of c.args.env.now) (names_of c.args.env.now) (scopes_of c.args.env.now) (expr_view c.args.e.now) c.args.e.now.place (expr_view c.in-Call.f) (exprs_of (map expr_view c.in-Call.xs.items)) c.in-Call.spread _ _ _ _ _ _ _ _ _ _ e c.in-Function.ensures.view c.in_ok-given-in-Function.ensures.given c.in_ok-given-in-Function.ensures.told)
    c.function_called.ensures.does

pub typing-returns-in_ok-given-in-BuiltIn-clause-walks : goal.typing-returns-in_ok-given-in-BuiltIn-clause-walks
typing-returns-in_ok-given-in-BuiltIn-clause-walks t c =
    let e = view_Call c.args.e.now c.deref.result.now c.in-Call.f c.in-Call.xs c.in-Call.spread c.deref.ensures c.in-Call.is in
    let i : is_built (builtin_view c.in-BuiltIn.function) ≡ true = cc in
    on_ok_weaker c.built_in_called.result
    (built_in_call (types_of c.args.env.now) (names_of c.args.env.now) (scopes_of c.args.env.now) (expr_view c.args.e.now) c.args.e.now.place (expr_view c.in-Call.f) (exprs_of (map expr_view c.in-Call.xs.items)) c.in-Call.spread _ _ _ _ _ _ _ e c.in-BuiltIn.ensures.view i c.in_ok-given-in-BuiltIn.ensures.given c.in_ok-given-in-BuiltIn.ensures.told)
    c.built_in_called.ensures.does

pub typing-returns-in_ok-given-in-Value-clause-walks : goal.typing-returns-in_ok-given-in-Value-clause-walks
typing-returns-in_ok-given-in-Value-clause-walks t c =
    let e = view_Call c.args.e.now c.deref.result.now c.in-Call.f c.in-Call.xs c.in-Call.spread c.deref.ensures c.in-Call.is in
    on_ok_weaker c.value_called.result
    (value_call (types_of c.args.env.now) (names_of c.args.env.now) (scopes_of c.args.env.now) (expr_view c.args.e.now) c.args.e.now.place (expr_view c.in-Call.f) (exprs_of (map expr_view c.in-Call.xs.items)) c.in-Call.spread _ _ _ _ _ _ _ _ e c.in-Value.ensures.view c.in_ok-typing-in-Value.ensures.walks c.in_ok-given-in-Value.ensures.given c.in_ok-given-in-Value.ensures.told)
    c.value_called.ensures.does

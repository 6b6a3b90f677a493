-- A list of operands, by its values.
use Rattle.std.proofs.Common.{◌≡◌, List, map, rules}
use Rattle.go_type.specs.Tree.{Ty}
use Rattle.go_core.specs.CoreView.{expr_view, exprs_view, exprs_of}
use Rattle.go_core.specs.declared.node.CoreExprs.{CoreExprs, out-CoreExprs, fold_out-CoreExprs}

pub operands_are : (ts : List Ty) (es : CoreExprs) → exprs_view ts es ≡ exprs_of (map (expr_view ts) (out-CoreExprs es).items.items)
operands_are ts es = search (rules, fold_out-CoreExprs)

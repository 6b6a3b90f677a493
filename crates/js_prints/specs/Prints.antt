-- own: programs that only print, the one kind that is translated so far: each statement of `main` prints constant strings.
use Rattle.std.specs.Prelude.{ℕ, List, [], ◌∷◌, Bool, true, false, not, ◌&&◌, nat_lt, length, Option, Some, None, slice_get}
use Rattle.go_type.specs.Tree.{Tys, no_tys, more_tys}
use Rattle.go_core.specs.CoreTree as core
use Rattle.go_core.specs.CoreTree.{Expr, Exprs, Stmt, Stmts, CoreFunc, CoreProgram, text_constant}
use Rattle.go_core.specs.StepNumbers.{most_bytes}

-- a constant string that a run can hold
abbrev pub is_text : Expr → Bool
is_text (core.constant t (text_constant bytes)) = not (nat_lt most_bytes (length bytes))
is_text _ = false

abbrev pub are_texts : Exprs → Bool
are_texts core.no_exprs = true
are_texts (core.expr e es) = is_text e && are_texts es

abbrev pub is_print : Stmt → Bool
is_print (core.print es ends_line) = are_texts es
is_print _ = false

abbrev pub all_print : Stmts → Bool
all_print core.no_stmts = true
all_print (core.stmt s ss) = is_print s && all_print ss

abbrev pub has_no_types : Tys → Bool
has_no_types no_tys = true
has_no_types (more_tys t ts) = false

abbrev pub has_no_numbers : List ℕ → Bool
has_no_numbers [] = true
has_no_numbers (n ∷ ns) = false

-- a function without results that captures nothing, and only prints
abbrev pub printing : CoreFunc → Bool
printing f = has_no_types f.results && (has_no_numbers f.captured && all_print f.body)

abbrev pub is_printing : Option CoreFunc → Bool
is_printing None = false
is_printing (Some f) = printing f

-- whether `main` is such a function
abbrev pub only_prints : CoreProgram → Bool
only_prints p = is_printing (slice_get p.funcs p.main)

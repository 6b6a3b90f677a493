-- The texts of statements, one by one.
use Rattle.std.proofs.Common.{◌≡◌, ◌<◌, ◌≤◌, ◌+◌, ◌++◌, ℕ, zero, suc, List, [], ◌∷◌, Bool, true, false, length, drop, get_or, map, refl, sym, ap, ◌∙◌, arith, rules, drop-cons}
use Rattle.std.specs.Prelude.{Option, Some, None, if◌then◌else◌}
use Rattle.go_syntax.specs.Tree as t
use Rattle.go_syntax.specs.View.{file_view, decl_view, stmt_view, stmts_of, expr_view, exprs_of, param_view, params_view, joined}
use Rattle.go_syntax.specs.declared.tree.Decl.{Decl}
use Rattle.go_syntax.specs.declared.tree.Expr.{Expr}
use Rattle.go_syntax.specs.declared.tree.File.{File}
use Rattle.go_syntax.specs.declared.tree.Param.{Param, fold_out-Param}
use Rattle.go_syntax.specs.declared.tree.Params.{Params, out-Params, fold_out-Params}
use Rattle.go_syntax.specs.declared.tree.Stmt.{Stmt}
use Rattle.gj_plain.specs.Plain.{Main, has_none, argument_text, call_in, is_empty, printed_text, with_text, texts_of, main_in, plain_main}

-- texts before others, where all are there
abbrev pub before : List (List ℕ) → Option (List (List ℕ)) → Option (List (List ℕ))
before [] others = others
before (text ∷ texts) others = with_text (Some text) (before texts others)

before_none : (texts : List (List ℕ)) → before texts None ≡ None
before_none [] = refl
before_none (text ∷ texts) = ap (λ (o : Option (List (List ℕ))). with_text (Some text) o) (before_none texts)

before_nothing : (texts : List (List ℕ)) → before texts (Some []) ≡ Some texts
before_nothing [] = refl
before_nothing (text ∷ texts) = ap (λ (o : Option (List (List ℕ))). with_text (Some text) o) (before_nothing texts)

before_one : (texts : List (List ℕ)) (text : List ℕ) (others : Option (List (List ℕ))) → before (texts ++ text ∷ []) others ≡ before texts (with_text (Some text) others)
before_one [] text others = refl
before_one (first ∷ texts) text others = ap (λ (o : Option (List (List ℕ))). with_text (Some first) o) (before_one texts text others)

-- the texts of the statements from an index on
pub texts_from : List Stmt → ℕ → Option (List (List ℕ))
texts_from stmts i = texts_of (stmts_of (map stmt_view (drop i stmts)))

-- those of one statement more
next : (stmts : List Stmt) (i : ℕ) (s : Stmt) → i < length stmts → s ≡ get_or stmts i s
    → texts_from stmts i ≡ (if is_empty (stmt_view s) then texts_from stmts (i + 1) else with_text (printed_text (stmt_view s)) (texts_from stmts (i + 1)))
unfolding texts_from
next stmts i s h e =
    let one : suc i ≡ i + 1 = omega arith in
    ap (λ (ss : List Stmt). texts_of (stmts_of (map stmt_view ss))) (drop-cons stmts i s h ∙ ap (λ (x : Stmt). x ∷ drop (suc i) stmts) (sym e))
    ∙ ap (λ (n : ℕ). if is_empty (stmt_view s) then texts_of (stmts_of (map stmt_view (drop n stmts))) else with_text (printed_text (stmt_view s)) (texts_of (stmts_of (map stmt_view (drop n stmts))))) one

-- an empty statement is passed over
pub passes : (stmts : List Stmt) (i : ℕ) (s : Stmt) (texts : List (List ℕ)) → i < length stmts → s ≡ get_or stmts i s → is_empty (stmt_view s) ≡ true → before texts (texts_from stmts i) ≡ before texts (texts_from stmts (i + 1))
passes stmts i s texts h e empty =
    ap (λ (o : Option (List (List ℕ))). before texts o)
    (next stmts i s h e ∙ ap (λ (b : Bool). if b then texts_from stmts (i + 1) else with_text (printed_text (stmt_view s)) (texts_from stmts (i + 1))) empty)

-- a statement that prints a text adds it
pub prints : (stmts : List Stmt) (i : ℕ) (s : Stmt) (texts : List (List ℕ)) (text : List ℕ) → i < length stmts → s ≡ get_or stmts i s → is_empty (stmt_view s) ≡ false → Some text ≡ printed_text (stmt_view s)
    → before texts (texts_from stmts i) ≡ before (texts ++ text ∷ []) (texts_from stmts (i + 1))
prints stmts i s texts text h e empty printed =
    ap (λ (o : Option (List (List ℕ))). before texts o)
    (next stmts i s h e ∙ ap (λ (b : Bool). if b then texts_from stmts (i + 1) else with_text (printed_text (stmt_view s)) (texts_from stmts (i + 1))) empty
    ∙ ap (λ (o : Option (List ℕ)). with_text o (texts_from stmts (i + 1))) (sym printed))
    ∙ sym (before_one texts text (texts_from stmts (i + 1)))

-- where a statement is neither, there are no texts
pub refuses : (stmts : List Stmt) (i : ℕ) (s : Stmt) (texts : List (List ℕ)) → i < length stmts → s ≡ get_or stmts i s → is_empty (stmt_view s) ≡ false → None ≡ printed_text (stmt_view s)
    → before texts (texts_from stmts i) ≡ None
refuses stmts i s texts h e empty printed =
    ap (λ (o : Option (List (List ℕ))). before texts o)
    (next stmts i s h e ∙ ap (λ (b : Bool). if b then texts_from stmts (i + 1) else with_text (printed_text (stmt_view s)) (texts_from stmts (i + 1))) empty
    ∙ ap (λ (o : Option (List ℕ)). with_text o (texts_from stmts (i + 1))) (sym printed))
    ∙ before_none texts

past_end : (stmts : List Stmt) (i : ℕ) → length stmts ≤ i → map stmt_view (drop i stmts) ≡ []
past_end [] zero h = refl
past_end [] (suc i) h = refl
past_end (s ∷ ss) zero h = absurd (omega arith)
past_end (s ∷ ss) (suc i) h = past_end ss i (omega arith)

-- at the end the texts are whole
pub ends : (stmts : List Stmt) (i : ℕ) (texts : List (List ℕ)) → length stmts ≤ i → before texts (texts_from stmts i) ≡ Some texts
unfolding texts_from
ends stmts i texts h = ap (λ (ss : List t.Stmt). before texts (texts_of (stmts_of ss))) (past_end stmts i h) ∙ before_nothing texts

-- those of all
pub whole : (stmts : List Stmt) → texts_from stmts 0 ≡ texts_of (stmts_of (map stmt_view stmts))
unfolding texts_from
whole stmts = refl

-- one parameter before others
some_at : (p : Param) (rest : t.Params) → false ≡ has_none (param_view p rest)
some_at p rest = search (rules, fold_out-Param)

joined_some : (ps : List Param) → 1 ≤ length ps → false ≡ has_none (joined (map param_view ps) t.NoParams)
joined_some [] h = absurd (omega (arith, h))
joined_some (p ∷ ps) h = some_at p (joined (map param_view ps) t.NoParams)

params_at : (params : Params) (ps : List Param) → ps ≡ (out-Params params).items.items → (params_view params).1 ≡ joined (map param_view ps) t.NoParams
params_at params ps e = search (rules, fold_out-Params, e)

-- parameters where there is one
pub some_params : (params : Params) (ps : List Param) → ps ≡ (out-Params params).items.items → 1 ≤ length ps → false ≡ has_none (params_view params).1
some_params params ps e h = joined_some ps h ∙ ap has_none (sym (params_at params ps e))

-- two arguments are not one string literal
pub two_arguments : (es : List Expr) → 2 ≤ length es → (let none : Option (List ℕ) = None in none) ≡ argument_text (exprs_of (map expr_view es))
two_arguments [] h = absurd (omega (arith, h))
two_arguments (e ∷ []) h = absurd (omega (arith, h))
two_arguments (e ∷ f ∷ es) h = refl

-- two expressions are not one call
pub two_calls : (es : List Expr) → 2 ≤ length es → (let none : Option (List ℕ) = None in none) ≡ call_in (exprs_of (map expr_view es))
two_calls [] h = absurd (omega (arith, h))
two_calls (e ∷ []) h = absurd (omega (arith, h))
two_calls (e ∷ f ∷ es) h = refl

-- two declarations are not one `main`
pub two_decls : (ds : List Decl) → 2 ≤ length ds → (let none : Option Main = None in none) ≡ main_in (map decl_view ds)
two_decls [] h = absurd (omega (arith, h))
two_decls (d ∷ []) h = absurd (omega (arith, h))
two_decls (d ∷ e ∷ ds) h = refl

-- two files are not one
pub two_files : (fs : List File) → 2 ≤ length fs → (let none : Option Main = None in none) ≡ plain_main (map file_view fs)
two_files [] h = absurd (omega (arith, h))
two_files (f ∷ []) h = absurd (omega (arith, h))
two_files (f ∷ g ∷ fs) h = refl

-- own: plain packages, the one kind of program that is built so far: one file whose one declaration is
-- a function `main` in which each statement is empty or prints one string literal.
use Rattle.std.specs.Prelude.{ℕ, Bool, true, false, not, ◌&&◌, nat_lt, List, [], ◌∷◌, length, Option, Some, None, codes, bytes_eq, if◌then◌else◌}
use Rattle.gj_base.specs.declared.place.Place.{Place}
use Rattle.go_syntax.specs.Tree as t

-- a `main`: where it is declared, and the texts that it prints, each on a line of its own
pub record Main : Type 0 where
  pub place : Place
  pub texts : List (List ℕ)

-- nothing between the parentheses, if there are any
abbrev pub has_none : t.Params → Bool
has_none t.NoParams = true
has_none (t.MoreParams at name spread ty others) = false

abbrev pub gives_nothing : t.Results → Bool
gives_nothing t.NoResults = true
gives_nothing (t.OneResult ty) = false
gives_nothing (t.ManyResults at params) = has_none params

-- no parameters and no results
abbrev pub is_bare : t.Sig → Bool
is_bare (t.SigOf at params results) = has_none params && gives_nothing results

abbrev pub is_println : t.Expr → Bool
is_println (t.NameExpr at name) = bytes_eq name (codes "println")
is_println _ = false

-- own: a text that isn't longer than a file may be, so no literal of a file is longer
abbrev pub short_text : List ℕ → Option (List ℕ)
short_text text = if nat_lt 4194304 (length text) then None else Some text

-- the value of a string literal
abbrev pub literal_text : t.Expr → Option (List ℕ)
literal_text (t.StrExpr at text) = short_text text
literal_text _ = None

-- the value of the one argument, a string literal
abbrev pub argument_text : t.Exprs → Option (List ℕ)
argument_text t.NoExprs = None
argument_text (t.MoreExprs e t.NoExprs) = literal_text e
argument_text (t.MoreExprs e (t.MoreExprs f others)) = None

-- the text that a call of `println` with one string literal and no `...` prints
abbrev pub call_text : t.Expr → Option (List ℕ)
call_text (t.CallExpr at callee arguments spread) = if not spread && is_println callee then argument_text arguments else None
call_text _ = None

-- the same of one expression alone
abbrev pub call_in : t.Exprs → Option (List ℕ)
call_in t.NoExprs = None
call_in (t.MoreExprs e t.NoExprs) = call_text e
call_in (t.MoreExprs e (t.MoreExprs f others)) = None

-- the same of a statement that is such a call
abbrev pub printed_text : t.Stmt → Option (List ℕ)
printed_text (t.ExprStmt at exprs) = call_in exprs
printed_text _ = None

abbrev pub is_empty : t.Stmt → Bool
is_empty (t.EmptyStmt at) = true
is_empty _ = false

-- a text before others, where all are there
abbrev pub with_text : Option (List ℕ) → Option (List (List ℕ)) → Option (List (List ℕ))
with_text None texts = None
with_text (Some text) None = None
with_text (Some text) (Some texts) = Some (text ∷ texts)

-- the texts that statements print, where each of them is empty or prints one
abbrev pub texts_of : t.Stmts → Option (List (List ℕ))
texts_of t.NoStmts = Some []
texts_of (t.MoreStmts s ss) = if is_empty s then texts_of ss else with_text (printed_text s) (texts_of ss)

abbrev pub main_printing : Place → Option (List (List ℕ)) → Option Main
main_printing at None = None
main_printing at (Some texts) = Some (record { place = at; texts = texts })

-- a declaration of a function `main` without parameters and results, whose statements print texts
abbrev pub main_of : t.Decl → Option Main
main_of (t.FuncDecl at name sig (t.BlockOf opens stmts closes)) = if bytes_eq name.text (codes "main") && is_bare sig then main_printing at (texts_of stmts) else None
main_of _ = None

abbrev pub main_in : List t.Decl → Option Main
main_in [] = None
main_in (decl ∷ []) = main_of decl
main_in (decl ∷ other ∷ others) = None

-- the `main` of a package with these files; none where it is not plain
abbrev pub plain_main : List t.File → Option Main
plain_main [] = None
plain_main (file ∷ []) = main_in file.decls
plain_main (file ∷ other ∷ others) = None

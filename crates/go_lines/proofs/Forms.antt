-- The forms that a plain package's parts have.
use Rattle.std.proofs.Common.{arith, ◌≡◌, ℕ, List, [], ◌∷◌, Bool, true, false, not, ◌&&◌, if◌then◌else◌, nat_lt, length, bytes_eq, refl, sym, ap, ◌∙◌}
use Rattle.std.specs.Prelude.{Option, Some, None, codes}
use Rattle.std.proofs.lemmas.Slice.Eq.{bytes_eq-Decides}
use Rattle.gj_base.specs.declared.place.Place.{Place}
use Rattle.go_syntax.specs.Tree as t
use Rattle.go_syntax.specs.declared.tree.Name.{Name}
use Rattle.gj_plain.specs.Plain.{Main, is_bare, is_println, literal_text, argument_text, call_text, call_in, printed_text, is_empty, with_text, texts_of, main_printing, main_in}

pub left_of : (a b : Bool) → (a && b) ≡ true → a ≡ true
left_of true b e = refl
left_of false b e = absurd (cc)

pub right_of : (a b : Bool) → (a && b) ≡ true → b ≡ true
right_of true b e = e
right_of false b e = absurd (cc)

pub same_text : (x y : List ℕ) → bytes_eq x y ≡ true → x ≡ y
same_text x y h = grind (arith, bytes_eq-Decides)

-- `println` of a string literal
abbrev pub line_expr : Place → Place → Place → List ℕ → t.Expr
line_expr at p q text = t.CallExpr at (t.NameExpr p (codes "println")) (t.MoreExprs (t.StrExpr q text) t.NoExprs) false

-- ---- what is there where a text is

-- not longer than a file
abbrev pub is_long : List ℕ → Bool
is_long text = nat_lt 4194304 (length text)

pub record IsLiteral (e : t.Expr) (text : List ℕ) : Type 0 where
  pub at : Place
  pub is : e ≡ t.StrExpr at text
  pub short : is_long text ≡ false

short : (at : Place) (s : List ℕ) (long : Bool) (text : List ℕ) → is_long s ≡ long → (if long then None else Some s) ≡ Some text → IsLiteral (t.StrExpr at s) text
short at s true text p h = absurd (cc)
short at s false text p h = let same : s ≡ text = cc in record { at = at; is = ap (t.StrExpr at) same; short = ap is_long (sym same) ∙ p }

pub a_literal : (e : t.Expr) (text : List ℕ) → literal_text e ≡ Some text → IsLiteral e text
a_literal (t.StrExpr at s) text h = short at s (is_long s) text refl h
a_literal _ text h = absurd (cc)

pub record IsArgument (es : t.Exprs) (text : List ℕ) : Type 0 where
  pub at : Place
  pub is : es ≡ t.MoreExprs (t.StrExpr at text) t.NoExprs
  pub short : is_long text ≡ false

pub an_argument : (es : t.Exprs) (text : List ℕ) → argument_text es ≡ Some text → IsArgument es text
an_argument t.NoExprs text h = absurd (cc)
an_argument (t.MoreExprs e t.NoExprs) text h = let l = a_literal e text h in record { at = l.at; is = ap (λ (x : t.Expr). t.MoreExprs x t.NoExprs) l.is; short = l.short }
an_argument (t.MoreExprs e (t.MoreExprs f others)) text h = absurd (cc)

pub record IsCallee (e : t.Expr) : Type 0 where
  pub at : Place
  pub is : e ≡ t.NameExpr at (codes "println")

pub a_callee : (e : t.Expr) → is_println e ≡ true → IsCallee e
a_callee (t.NameExpr at x) h = record { at = at; is = ap (t.NameExpr at) (same_text x (codes "println") h) }
a_callee _ h = absurd (cc)

pub record IsLine (e : t.Expr) (text : List ℕ) : Type 0 where
  pub at : Place
  pub callee : Place
  pub literal : Place
  pub is : e ≡ line_expr at callee literal text
  pub short : is_long text ≡ false

called : (at : Place) (f : t.Expr) (xs : t.Exprs) (spread is_it : Bool) (text : List ℕ) → is_println f ≡ is_it
    → (if not spread && is_it then argument_text xs else None) ≡ Some text → IsLine (t.CallExpr at f xs spread) text
called at f xs false true text p h =
    let c = a_callee f p in
    let a = an_argument xs text h in
    record {
      at = at;
      callee = c.at;
      literal = a.at;
      is = ap (λ (g : t.Expr). t.CallExpr at g xs false) c.is ∙ ap (λ (ys : t.Exprs). t.CallExpr at (t.NameExpr c.at (codes "println")) ys false) a.is;
      short = a.short;
    }
called at f xs false false text p h = absurd (cc)
called at f xs true is_it text p h = absurd (cc)

pub a_line : (e : t.Expr) (text : List ℕ) → call_text e ≡ Some text → IsLine e text
a_line (t.CallExpr at f xs spread) text h = called at f xs spread (is_println f) text refl h
a_line _ text h = absurd (cc)

pub record IsPrint (s : t.Stmt) (text : List ℕ) : Type 0 where
  pub at : Place
  pub call : Place
  pub callee : Place
  pub literal : Place
  pub is : s ≡ t.ExprStmt at (t.MoreExprs (line_expr call callee literal text) t.NoExprs)
  pub short : is_long text ≡ false

performed : (at : Place) (es : t.Exprs) (text : List ℕ) → call_in es ≡ Some text → IsPrint (t.ExprStmt at es) text
performed at t.NoExprs text h = absurd (cc)
performed at (t.MoreExprs e t.NoExprs) text h =
    let l = a_line e text h in
    record { at = at; call = l.at; callee = l.callee; literal = l.literal; is = ap (λ (x : t.Expr). t.ExprStmt at (t.MoreExprs x t.NoExprs)) l.is; short = l.short }
performed at (t.MoreExprs e (t.MoreExprs f others)) text h = absurd (cc)

pub a_print : (s : t.Stmt) (text : List ℕ) → printed_text s ≡ Some text → IsPrint s text
a_print (t.ExprStmt at es) text h = performed at es text h
a_print _ text h = absurd (cc)

pub record IsNothing (s : t.Stmt) : Type 0 where
  pub at : Place
  pub is : s ≡ t.EmptyStmt at

pub nothing : (s : t.Stmt) → is_empty s ≡ true → IsNothing s
nothing (t.EmptyStmt at) h = record { at = at; is = refl }
nothing _ h = absurd (cc)

-- a text and others, where all are there
pub record AreBoth (o : Option (List ℕ)) (os : Option (List (List ℕ))) (texts : List (List ℕ)) : Type 0 where
  pub text : List ℕ
  pub others : List (List ℕ)
  pub one : o ≡ Some text
  pub all : os ≡ Some others
  pub are : texts ≡ text ∷ others

pub both : (o : Option (List ℕ)) (os : Option (List (List ℕ))) (texts : List (List ℕ)) → with_text o os ≡ Some texts → AreBoth o os texts
both None os texts h = absurd (cc)
both (Some text) None texts h = absurd (cc)
both (Some text) (Some others) texts h = let same : text ∷ others ≡ texts = cc in record { text = text; others = others; one = refl; all = refl; are = sym same }

-- ---- the one declaration

pub record IsMain (ds : List t.Decl) (main : Main) : Type 0 where
  pub at : Place
  pub name : Place
  pub signature : t.Sig
  pub opens : Place
  pub stmts : t.Stmts
  pub closes : Place
  pub is : ds ≡ t.FuncDecl at (record { place = name; text = codes "main" }) signature (t.BlockOf opens stmts closes) ∷ []
  pub bare : is_bare signature ≡ true
  pub texts : texts_of stmts ≡ Some main.texts

printing : (at : Place) (o : Option (List (List ℕ))) (main : Main) → main_printing at o ≡ Some main → o ≡ Some main.texts
printing at None main h = absurd (cc)
printing at (Some texts) main h = let same : record { place = at; texts = texts } ≡ main = cc in ap (λ (m : Main). Some m.texts) same

declared : (at : Place) (n : Name) (s : t.Sig) (opens : Place) (ss : t.Stmts) (closes : Place) (fits : Bool) (main : Main)
    → (bytes_eq n.text (codes "main") && is_bare s) ≡ fits → (if fits then main_printing at (texts_of ss) else None) ≡ Some main
    → IsMain (t.FuncDecl at n s (t.BlockOf opens ss closes) ∷ []) main
declared at n s opens ss closes true main p h = record {
  at = at;
  name = n.place;
  signature = s;
  opens = opens;
  stmts = ss;
  closes = closes;
  is = ap (λ (x : List ℕ). t.FuncDecl at (record { place = n.place; text = x }) s (t.BlockOf opens ss closes) ∷ []) (same_text n.text (codes "main") (left_of _ _ p));
  bare = right_of (bytes_eq n.text (codes "main")) (is_bare s) p;
  texts = printing at (texts_of ss) main h;
}
declared at n s opens ss closes false main p h = absurd (cc)

pub a_main : (ds : List t.Decl) (main : Main) → main_in ds ≡ Some main → IsMain ds main
a_main [] main h = absurd (cc)
a_main (t.FuncDecl at n s (t.BlockOf opens ss closes) ∷ []) main h = declared at n s opens ss closes (bytes_eq n.text (codes "main") && is_bare s) main refl h
a_main (t.ConstDecl at vs ∷ []) main h = absurd (cc)
a_main (t.TypeDecl at ts ∷ []) main h = absurd (cc)
a_main (t.VarDecl at vs ∷ []) main h = absurd (cc)
a_main (t.MethodDecl at p rs n s b ∷ []) main h = absurd (cc)
a_main (d ∷ e ∷ ds) main h = absurd (cc)

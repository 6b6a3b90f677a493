-- The statements of a plain package's `main`.
use Rattle.std.proofs.Common.{arith, ◌≡◌, ℕ, List, [], ◌∷◌, ◌++◌, Bool, true, false, not, ◌&&◌, nat_lt, length, if◌then◌else◌, refl, sym, ap, subst, ◌∙◌}
use Rattle.std.specs.Prelude.{Some, None, codes}
use Rattle.std.proofs.lemmas.Bool.Decides.{nat_tests}
use Rattle.go_core.specs.StepNumbers.{most_bytes}
use Rattle.gj_base.specs.declared.place.Place.{Place}
use Rattle.go_syntax.specs.Tree as t
use Rattle.go_type.specs.Tree.{no_tys}
use Rattle.go_core.specs.CoreTree as core
use Rattle.go_typing.specs.Env.{universe, function}
use Rattle.go_typing.specs.Uses.{names_in}
use Rattle.go_typing.specs.Walk.{Walk, Around, Did, did, after, and_then, body, places_of}
use Rattle.go_typing.specs.Labels.{labels_in_all, branches_in_all}
use Rattle.go_typing.specs.Statements.{stmt, stmts, unlabeled}
use Rattle.go_typing.specs.Known.{first_names}
use Rattle.gj_plain.specs.Plain.{is_empty, printed_text, with_text, texts_of}
use Rattle.js_prints.specs.Lines.{print_line, print_lines}
use Rattle.js_prints.specs.Prints.{is_text, all_print}
use Rattle.go_lines.proofs.Forms.{line_expr, is_long, a_print, nothing, both}

-- what is known in `main`, which stands there, when these were used; each name is typed
abbrev pub inner : Place → List Place → Walk
inner name used = record {
  names = first_names ++ [];
  scopes = universe None ∷ (record { name = codes "main"; place = name; what = function 0 no_tys no_tys false } ∷ []) ∷ [] ∷ [];
  next = 0;
  next_label = 0;
  vars = [];
  declared = [];
  used = used;
  lost = 0;
}

abbrev pub line_stmts : List (List ℕ) → List core.Stmt
line_stmts [] = []
line_stmts (text ∷ texts) = print_line text ∷ line_stmts texts

pub bodies : (texts : List (List ℕ)) → body (line_stmts texts) ≡ print_lines texts
bodies [] = refl
bodies (text ∷ texts) = ap (core.stmt (print_line text)) (bodies texts)

-- what comes of a print, and what is used then
abbrev after_line : List Place → Place → Place → Place → Place → List ℕ → List Place
after_line used name at p q text = used ++ places_of (names_in (line_expr at p q text)) (inner name used).scopes

one_line : (a : Around) (name : Place) (used : List Place) (at call p q : Place) (text : List ℕ)
    → stmt (t.ExprStmt at (t.MoreExprs (line_expr call p q text) t.NoExprs)) a (inner name used)
    ≡ record { core = print_line text ∷ []; flaws = []; walk = inner name (after_line used name call p q text) }
one_line a name used at call p q text = refl

-- a text that isn't longer than a file is one that a run can hold
can_hold : (text : List ℕ) → is_long text ≡ false → not (nat_lt most_bytes (length text)) ≡ true
can_hold text h = grind (arith, nat_tests)

one_more : (text : List ℕ) (ss : core.Stmts) → is_long text ≡ false → all_print ss ≡ true → all_print (core.stmt (print_line text) ss) ≡ true
one_more text ss h rest = ap (λ (b : Bool). (b && true) && all_print ss) (can_hold text h) ∙ rest

-- what comes of such statements
pub record Prints (ss : t.Stmts) (texts : List (List ℕ)) (a : Around) (name : Place) (used : List Place) : Type 0 where
  pub uses : List Place
  pub did : stmts ss a (inner name used) ≡ record { core = line_stmts texts; flaws = []; walk = inner name uses }
  pub alone : all_print (print_lines texts) ≡ true
  pub labels : labels_in_all ss ≡ []
  pub branches : branches_in_all ss ≡ []

abbrev line_did : Place → List Place → List ℕ → Did
line_did name uses text = record { core = print_line text ∷ []; flaws = []; walk = inner name uses }

-- one statement before others
prints_one : (s : t.Stmt) (empty : Bool) (ss : t.Stmts) (texts : List (List ℕ)) (a : Around) (name : Place) (used : List Place)
    → ((ts : List (List ℕ)) (us : List Place) → texts_of ss ≡ Some ts → Prints ss ts a name us) → is_empty s ≡ empty
    → (if empty then texts_of ss else with_text (printed_text s) (texts_of ss)) ≡ Some texts → Prints (t.MoreStmts s ss) texts a name used
prints_one s true ss texts a name used others e h =
    let r = others texts used h in
    let n = nothing s e in
    subst (λ (x : t.Stmt). Prints (t.MoreStmts x ss) texts a name used) (sym n.is)
    (record { uses = r.uses; did = ap (λ (d : Did). after (did [] (inner name used)) d) r.did; alone = r.alone; labels = r.labels; branches = r.branches })
prints_one s false ss texts a name used others e h =
    let b = both (printed_text s) (texts_of ss) texts h in
    let p = a_print s b.text b.one in
    let uses = after_line used name p.call p.callee p.literal b.text in
    let r = others b.others uses b.all in
    let one = t.ExprStmt p.at (t.MoreExprs (line_expr p.call p.callee p.literal b.text) t.NoExprs) in
    let whole : Prints (t.MoreStmts one ss) (b.text ∷ b.others) a name used = record {
      uses = r.uses;
      did = ap (λ (d : Did). and_then d (stmts ss a)) (one_line (unlabeled a) name used p.at p.call p.callee p.literal b.text) ∙ ap (λ (d : Did). after (line_did name uses b.text) d) r.did;
      alone = one_more b.text (print_lines b.others) p.short r.alone;
      labels = r.labels;
      branches = r.branches;
    } in
    subst (λ (x : t.Stmt). Prints (t.MoreStmts x ss) texts a name used) (sym p.is)
    (subst (λ (ts : List (List ℕ)). Prints (t.MoreStmts one ss) ts a name used) (sym b.are) whole)

pub prints : (ss : t.Stmts) (texts : List (List ℕ)) (a : Around) (name : Place) (used : List Place) → texts_of ss ≡ Some texts → Prints ss texts a name used
prints t.NoStmts texts a name used h =
    let none : [] ≡ texts = cc in
    record { uses = used; did = ap (λ (ts : List (List ℕ)). record { core = line_stmts ts; flaws = []; walk = inner name used }) none; alone = ap (λ (ts : List (List ℕ)). all_print (print_lines ts)) (sym none); labels = refl; branches = refl }
prints (t.MoreStmts s ss) texts a name used h = prints_one s (is_empty s) ss texts a name used (λ ts us g. prints ss ts a name us g) refl h

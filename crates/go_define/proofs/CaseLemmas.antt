-- The cases of a `switch`.
use Rattle.std.proofs.Common.{arith, ◌≡◌, ◌<◌, ◌≤◌, ◌+◌, ◌∙◌, ℕ, zero, suc, refl, sym, ap, subst, List, [], ◌∷◌, ◌++◌, append_assoc, map, length, drop, get_or, Bool, true, false, ◌||◌}
use Rattle.std.specs.Prelude.{Option, Some, None, option_map, IfSome}
use Rattle.std.proofs.lemmas.List.{append-nil}
use Rattle.std.proofs.Math.Seq.{drop-cons}
use Rattle.gj_base.specs.declared.place.Place.{Place}
use Rattle.go_const.specs.declared.constant.Const.{Const}
use Rattle.go_const.specs.declared.constant.Const.TheVariants as form
use Rattle.go_syntax.specs.Tree as t
use Rattle.go_syntax.specs.View.{expr_view, exprs_of}
use Rattle.go_syntax.specs.declared.tree.Expr.{Expr}
use Rattle.go_type.specs.Tree as ty
use Rattle.go_type.specs.Tree.{Ty}
use Rattle.go_type.specs.Named.{NamedTy}
use Rattle.go_type.specs.Levels.{tree_of}
use Rattle.go_type.specs.Table.{places, size, KeepsTrees}
use Rattle.go_type.specs.declared.types.TypeId.{TypeId}
use Rattle.go_type.specs.declared.table.TypeTable.{TypeTable}
use Rattle.go_core.specs.CoreTree as core
use Rattle.go_core.specs.CoreView as views
use Rattle.go_core.specs.declared.node.CoreExpr.{CoreExpr}
use Rattle.go_core.specs.declared.statement.CoreTest.{CoreTest}
use Rattle.go_typing.specs.Answer as answers
use Rattle.go_typing.specs.Answer.{flaw, Answer, Part, value, own, untyped_part}
use Rattle.go_typing.specs.Operand.{constant_at}
use Rattle.go_typing.specs.Scopes as scopes
use Rattle.go_typing.specs.Typing.{operator_row, place_of, typing}
use Rattle.go_typing.specs.Wanted.{wanted}
use Rattle.go_operands.specs.EnvView.{table_of, env_of}
use Rattle.go_operands.specs.declared.scopes.env.Env.{Env}
use Rattle.go_calls.specs.Words.{types_of, names_of, scopes_of}
use Rattle.go_operands.specs.AnswerView.{flaw_view}
use Rattle.go_operands.specs.declared.answers.answer.Flaw.{Flaw}
use Rattle.go_walk.specs.CasesHas.{has_const}
use Rattle.go_walk.specs.declared.cases.seen.ConstSet.{ConstSet}
use Rattle.go_typing.specs.Walk as go
use Rattle.go_typing.specs.Expressions as expressions
use Rattle.go_typing.specs.Expressions.{Valued, core_of, constant_of, type_of}
use Rattle.go_typing.specs.Statements as statements
use Rattle.go_typing.specs.Statements.{Tests, tag_of, case_tests, case_constant, same_constant, repeated, repeated_flaws, and_constant, condition_uses}
use Rattle.go_walk.specs.WalkView.{walk_of, walk_outside, Keeps}
use Rattle.go_walk.specs.declared.walk.walk.Walk.{Walk}
use Rattle.go_expr.specs.Raw.{Raw, raw_of, Grows}
use Rattle.go_assign.specs.Settled.{alone}
use Rattle.go_assign.specs.Taken.{StandsFor}
use Rattle.go_assign.specs.Passed.{Passes, stays}
use Rattle.go_define.specs.CaseView.{part_row, case_row, tests_before, HasAll, Cases, CasesLeft}
use Rattle.go_define.proofs.PassedLemmas.{keeps_back, passes_on}

-- ---- the tests

pub tests_more : (ts : List Ty) (cs : List CoreTest) (c : CoreTest) (rest : core.Tests) → tests_before ts (cs ++ c ∷ []) rest ≡ tests_before ts cs (core.test (views.expr_view ts c.condition) c.clause rest)
tests_more ts [] c rest = refl
tests_more ts (d ∷ cs) c rest = ap (core.test (views.expr_view ts d.condition) d.clause) (tests_more ts cs c rest)

pub one_test : (ts : List Ty) (rest : core.Tests) (old new : List CoreTest) (c : CoreTest) (e : CoreExpr) (n : ℕ) → new ≡ old ++ c ∷ [] → views.expr_view ts c.condition ≡ views.expr_view ts e → c.clause ≡ n
    → tests_before ts new rest ≡ tests_before ts old (core.test (views.expr_view ts e) n rest)
one_test ts rest old new c e n p h q =
    ap (λ (x : List CoreTest). tests_before ts x rest) p ∙ tests_more ts old c rest ∙ ap (λ (x : core.Expr). tests_before ts old (core.test x c.clause rest)) h ∙ ap (λ (x : ℕ). tests_before ts old (core.test (views.expr_view ts e) x rest)) q

pub core_test : (t : TypeTable) (old new : List CoreTest) (e : CoreExpr) (c : core.Expr) (n : ℕ) → StandsFor t c e → ((ts : List Ty) (rest : core.Tests) → tests_before ts new rest ≡ tests_before ts old (core.test (views.expr_view ts e) n rest))
    → (ts : List Ty) → Keeps t ts → (rest : core.Tests) → tests_before ts new rest ≡ tests_before ts old (core.test c n rest)
core_test t old new e c n s h ts k rest = h ts rest ∙ ap (λ (x : core.Expr). tests_before ts old (core.test x n rest)) (s.stands ts k)

-- ---- the comparison

pub told_row : (f0 f1 : List Flaw) (a b : Answer) → a ≡ b → map flaw_view f1 ≡ map flaw_view f0 ++ own a → map flaw_view f1 ≡ map flaw_view f0 ++ own b
told_row f0 f1 a b p h = h ∙ ap (λ (x : Answer). map flaw_view f0 ++ own x) p

pub test_row : (t : TypeTable) (old new : List CoreTest) (a b : Answer) (n : ℕ) → a ≡ b → ((ts : List Ty) → Keeps t ts → (rest : core.Tests) → tests_before ts new rest ≡ tests_before ts old (core.test (core_of a) n rest))
    → (ts : List Ty) → Keeps t ts → (rest : core.Tests) → tests_before ts new rest ≡ tests_before ts old (core.test (core_of b) n rest)
test_row t old new a b n p h ts k rest = h ts k rest ∙ ap (λ (x : Answer). tests_before ts old (core.test (core_of x) n rest)) p

pub told_more : (f0 f1 f2 : List Flaw) (gs fs : List answers.Flaw) → map flaw_view f1 ≡ map flaw_view f0 ++ gs → map flaw_view f2 ≡ map flaw_view f1 ++ fs → map flaw_view f2 ≡ map flaw_view f0 ++ (gs ++ fs)
told_more f0 f1 f2 gs fs p q = q ∙ ap (λ (x : List answers.Flaw). x ++ fs) p ∙ append_assoc (map flaw_view f0) gs fs

-- ---- constants

-- what a value of a type is in an environment
abbrev answer_at : scopes.Env → Ty → t.Expr → Answer
answer_at v u e = wanted v.named_types (place_of e) u (typing v.named_types (scopes.visible v) e)

pub constant_before : (us : List Ty) (a : Walk) (b : Env) (i : TypeId) (e : t.Expr) (v : Valued) (k : Option Const) → Grows a.env b → i.0 < size (table_of a.env) → v ≡ expressions.value_at (walk_outside b) (tree_of (types_of b) i) e → k ≡ constant_of v.answer
    → k ≡ case_constant (walk_of us a) (Some (tree_of (types_of a.env) i)) e
constant_before us a b i e v k g h p q =
    q ∙ ap (λ (x : Valued). constant_of x.answer) p
    ∙ ap (λ (x : scopes.Env). constant_of (answer_at x (tree_of (types_of b) i) e)) g.env
    ∙ ap (λ (x : Ty). constant_of (answer_at (env_of a.env) x e)) (g.kept i h)

pub has_more : (s u : ConstSet) (k : Const) (ks : List Const) → ((q : Const) → has_const q u ≡ (same_constant q k || has_const q s)) → HasAll s ks → HasAll u (k ∷ ks)
has_more s u k ks h p = λ q. h q ∙ ap (λ (b : Bool). same_constant q k || b) (p q)

pub repeats_told : (s : ConstSet) (k : Const) (ks : List Const) (b : Bool) (at : Place) (f0 f1 : List Flaw) → b ≡ has_const k s → b ≡ true → HasAll s ks → map flaw_view f1 ≡ map flaw_view f0 ++ flaw at 92 ∷ [] → map flaw_view f1 ≡ map flaw_view f0 ++ repeated_flaws at (repeated (Some k) ks)
repeats_told s k ks b at f0 f1 p q h e = e ∙ ap (λ (c : Bool). map flaw_view f0 ++ repeated_flaws at c) (sym q ∙ p ∙ h k)

pub new_told : (s : ConstSet) (k : Const) (ks : List Const) (b : Bool) (at : Place) (f : List Flaw) → b ≡ has_const k s → b ≡ false → HasAll s ks → map flaw_view f ≡ map flaw_view f ++ repeated_flaws at (repeated (Some k) ks)
new_told s k ks b at f p q h = sym (append-nil (map flaw_view f)) ∙ ap (λ (c : Bool). map flaw_view f ++ repeated_flaws at c) (sym q ∙ p ∙ h k)

pub none_told : (f : List Flaw) → map flaw_view f ≡ map flaw_view f ++ []
none_told f = sym (append-nil (map flaw_view f))

-- ---- one case

-- one case alone, by what is told of it and by its constant
abbrev one_of : core.Expr → ℕ → List answers.Flaw → List Const → Tests
one_of c number fs ks = record { tests = λ rest. core.test c number rest; flaws = fs; seen = ks }

rows : (us : List Ty) (old m new : Walk) (i : TypeId) (tag : ℕ) (e : t.Expr) (r : Raw) → Passes stays old m → Passes stays m new → i.0 < size (table_of old.env) → r ≡ raw_of (names_of m.env) (scopes_of m.env) e
    → case_row (names_of new.env) tag (tree_of (types_of new.env) i) r ≡ statements.case_answer (walk_of us old) tag (Some (tree_of (types_of old.env) i)) e
rows us old m new i tag e r p q h k =
    let both = passes_on stays stays old m new p q in
    let here : r ≡ raw_of (names_of old.env) (scopes_of old.env) e = k ∙ ap (λ (v : scopes.Env). raw_of v.named_types (scopes.visible v) e) p.env in
    λ j. case_row (both.env j).named_types tag (both.kept i h j) (here j)

pub typed_case : (us : List Ty) (old m new : Walk) (i : TypeId) (tag number : ℕ) (e : t.Expr) (r : Raw) (k : Option Const) (f0 f1 f2 : List Flaw) (t0 t1 : List CoreTest) (s : ConstSet) (ks : List Const) → Passes stays old m → Passes stays m new
    → i.0 < size (table_of old.env) → r ≡ raw_of (names_of m.env) (scopes_of m.env) e → k ≡ case_constant (walk_of us old) (Some (tree_of (types_of old.env) i)) e
    → map flaw_view f1 ≡ map flaw_view f0 ++ (r.flaws ++ own (case_row (names_of new.env) tag (tree_of (types_of new.env) i) r))
    → ((ts : List Ty) → Keeps (table_of new.env) ts → (rest : core.Tests) → tests_before ts t1 rest ≡ tests_before ts t0 (core.test (core_of (case_row (names_of new.env) tag (tree_of (types_of new.env) i) r)) number rest))
    → map flaw_view f2 ≡ map flaw_view f1 ++ repeated_flaws r.part.place (repeated k ks) → HasAll s (and_constant k ks)
    → Cases (case_tests (walk_of us old) tag (Some (tree_of (types_of old.env) i)) number (t.MoreExprs e t.NoExprs) ks) (table_of new.env) f0 f2 t0 t1 s
typed_case us old m new i tag number e r k f0 f1 f2 t0 t1 s ks p q h hr hk told1 tests told2 seen =
    let w = walk_of us old in
    let u = tree_of (types_of old.env) i in
    let row = rows us old m new i tag e r p q h hr in
    let here : r ≡ raw_of (names_of old.env) (scopes_of old.env) e = hr ∙ ap (λ (v : scopes.Env). raw_of v.named_types (scopes.visible v) e) p.env in
    record {
      told =
          told2 ∙ ap (λ (x : List answers.Flaw). x ++ repeated_flaws r.part.place (repeated k ks)) told1
          ∙ append_assoc (map flaw_view f0) (r.flaws ++ own (case_row (names_of new.env) tag (tree_of (types_of new.env) i) r)) (repeated_flaws r.part.place (repeated k ks))
          ∙ ap (λ (a : Answer). map flaw_view f0 ++ ((r.flaws ++ own a) ++ repeated_flaws r.part.place (repeated k ks))) row
          ∙ ap (λ (x : Option Const). map flaw_view f0 ++ ((r.flaws ++ own (statements.case_answer w tag (Some u) e)) ++ repeated_flaws r.part.place (repeated x ks))) hk
          ∙ ap (λ (x : Raw). map flaw_view f0 ++ ((x.flaws ++ own (statements.case_answer w tag (Some u) e)) ++ repeated_flaws x.part.place (repeated (case_constant w (Some u) e) ks))) here
          ∙ ap (λ (x : List answers.Flaw). map flaw_view f0 ++ x) (sym (append-nil ((expressions.flaws_in w e ++ own (statements.case_answer w tag (Some u) e)) ++ repeated_flaws (place_of e) (repeated (case_constant w (Some u) e) ks))));
      tests = λ ts l rest. tests ts l rest ∙ ap (λ (a : Answer). tests_before ts t0 (core.test (core_of a) number rest)) row;
      seen = subst (λ (x : Option Const). HasAll s (and_constant x ks)) hk seen;
    }

pub lost_case : (us : List Ty) (old new : Walk) (tag number : ℕ) (e : t.Expr) (r : Raw) (f0 f1 : List Flaw) (t0 t1 : List CoreTest) (s : ConstSet) (ks : List Const) → r ≡ raw_of (names_of old.env) (scopes_of old.env) e → map flaw_view f1 ≡ map flaw_view f0 ++ r.flaws
    → ((ts : List Ty) → Keeps (table_of new.env) ts → (rest : core.Tests) → tests_before ts t1 rest ≡ tests_before ts t0 (core.test (core_of untyped_part) number rest)) → HasAll s ks
    → Cases (case_tests (walk_of us old) tag None number (t.MoreExprs e t.NoExprs) ks) (table_of new.env) f0 f1 t0 t1 s
lost_case us old new tag number e r f0 f1 t0 t1 s ks hr told tests seen =
    let w = walk_of us old in
    let fs = expressions.flaws_in w e in
    record {
      told =
          told ∙ ap (λ (x : Raw). map flaw_view f0 ++ x.flaws) hr
          ∙ ap (λ (x : List answers.Flaw). map flaw_view f0 ++ x) (sym (append-nil fs) ∙ sym (append-nil (fs ++ [])) ∙ sym (append-nil ((fs ++ []) ++ [])));
      tests = tests;
      seen = seen;
    }

-- ---- all cases

type_kept : (a b : TypeTable) (o : Option TypeId) → KeepsTrees a b → IfSome o (λ x. x.0 < size a) → option_map (tree_of (places b)) o ≡ option_map (tree_of (places a)) o
type_kept a b None k h = refl
type_kept a b (Some i) k h = ap Some (k i h)

pub below_still : (a b : TypeTable) (o : Option TypeId) → size a ≤ size b → IfSome o (λ x. x.0 < size a) → IfSome o (λ x. x.0 < size b)
below_still a b None k h = tt
below_still a b (Some i) k h = omega (arith, k, h)

-- the case is the same where the walk began
pub case_before : (us : List Ty) (old now new : Walk) (o : Option TypeId) (tag number : ℕ) (e : t.Expr) (f0 f1 : List Flaw) (t0 t1 : List CoreTest) (s : ConstSet) (ks : List Const) → Passes stays old now → IfSome o (λ x. x.0 < size (table_of old.env))
    → Cases (case_tests (walk_of us now) tag (option_map (tree_of (types_of now.env)) o) number (t.MoreExprs e t.NoExprs) ks) (table_of new.env) f0 f1 t0 t1 s
    → Cases (case_tests (walk_of us old) tag (option_map (tree_of (types_of old.env)) o) number (t.MoreExprs e t.NoExprs) ks) (table_of new.env) f0 f1 t0 t1 s
case_before us old now new o tag number e f0 f1 t0 t1 s ks p h k =
    let types : option_map (tree_of (types_of now.env)) o ≡ option_map (tree_of (types_of old.env)) o = type_kept (table_of old.env) (table_of now.env) o p.kept h in
    let k1 = subst (λ (x : go.Walk). Cases (case_tests x tag (option_map (tree_of (types_of now.env)) o) number (t.MoreExprs e t.NoExprs) ks) (table_of new.env) f0 f1 t0 t1 s) (p.walk us) k in
    subst (λ (x : Option Ty). Cases (case_tests (walk_of us old) tag x number (t.MoreExprs e t.NoExprs) ks) (table_of new.env) f0 f1 t0 t1 s) types k1

step : (w : go.Walk) (tag : ℕ) (u : Option Ty) (number : ℕ) (all : t.Exprs) (e : t.Expr) (es : t.Exprs) (known so_far : List Const) (a b : TypeTable) (f0 f1 f2 : List Flaw) (t0 t1 t2 : List CoreTest) (s2 : ConstSet) → KeepsTrees a b → size a ≤ size b
    → map flaw_view f1 ++ (case_tests w tag u number (t.MoreExprs e es) so_far).flaws ≡ map flaw_view f0 ++ (case_tests w tag u number all known).flaws
    → ((ts : List Ty) → Keeps a ts → (rest : core.Tests) → tests_before ts t1 ((case_tests w tag u number (t.MoreExprs e es) so_far).tests rest) ≡ tests_before ts t0 ((case_tests w tag u number all known).tests rest))
    → (case_tests w tag u number (t.MoreExprs e es) so_far).seen ≡ (case_tests w tag u number all known).seen
    → Cases (case_tests w tag u number (t.MoreExprs e t.NoExprs) so_far) b f1 f2 t1 t2 s2 → CasesLeft w tag u number all es known b f0 f2 t0 t2 s2
step w tag u number all e es known so_far a b f0 f1 f2 t0 t1 t2 s2 k c told tests seen h =
    let x = (expressions.flaws_in w e ++ own (statements.case_answer w tag u e)) ++ repeated_flaws (place_of e) (repeated (case_constant w u e) so_far) in
    let others = case_tests w tag u number es (and_constant (case_constant w u e) so_far) in
    record {
      so_far = and_constant (case_constant w u e) so_far;
      has = h.seen;
      told =
          ap (λ (fs : List answers.Flaw). fs ++ others.flaws) (h.told ∙ ap (λ (fs : List answers.Flaw). map flaw_view f1 ++ fs) (append-nil x))
          ∙ append_assoc (map flaw_view f1) x others.flaws ∙ told;
      tests = λ ts l rest. h.tests ts l (others.tests rest) ∙ tests ts (keeps_back a b k c ts l) rest;
      seen = seen;
    }

next_at : {X : Type 0} (xs : List X) (i : ℕ) (x : X) → i < length xs → x ≡ get_or xs i x → drop i xs ≡ x ∷ drop (i + 1) xs
next_at {X} xs i x h e =
    let one : suc i ≡ i + 1 = omega arith in
    drop-cons xs i x h ∙ ap (λ (y : X). y ∷ drop (suc i) xs) (sym e) ∙ ap (λ (n : ℕ). x ∷ drop n xs) one

past : {X : Type 0} (xs : List X) (i : ℕ) → length xs ≤ i → drop i xs ≡ []
past [] zero h = refl
past [] (suc i) h = refl
past (x ∷ xs) zero h = absurd (omega arith)
past (x ∷ xs) (suc i) h = past xs i (omega arith)

pub cases_begin : (w : go.Walk) (tag : ℕ) (u : Option Ty) (number : ℕ) (es : t.Exprs) (ks : List Const) (a : TypeTable) (f : List Flaw) (cs : List CoreTest) (s : ConstSet) → HasAll s ks → CasesLeft w tag u number es es ks a f f cs cs s
cases_begin w tag u number es ks a f cs s h = record { so_far = ks; has = h; told = refl; tests = λ ts l rest. refl; seen = refl }

abbrev left : List Expr → ℕ → t.Exprs
left xs i = exprs_of (map expr_view (drop i xs))

pub cases_step : (w : go.Walk) (tag : ℕ) (u : Option Ty) (number : ℕ) (all : t.Exprs) (xs : List Expr) (i : ℕ) (x : Expr) (known : List Const) (a b : TypeTable) (f0 f1 f2 : List Flaw) (t0 t1 t2 : List CoreTest) (s1 s2 : ConstSet) → KeepsTrees a b → size a ≤ size b
    → i < length xs → x ≡ get_or xs i x → CasesLeft w tag u number all (left xs i) known a f0 f1 t0 t1 s1
    → ((ks : List Const) → HasAll s1 ks → Cases (case_tests w tag u number (t.MoreExprs (expr_view x) t.NoExprs) ks) b f1 f2 t1 t2 s2) → CasesLeft w tag u number all (left xs (i + 1)) known b f0 f2 t0 t2 s2
cases_step w tag u number all xs i x known a b f0 f1 f2 t0 t1 t2 s1 s2 k c l e h one =
    let split : left xs i ≡ t.MoreExprs (expr_view x) (left xs (i + 1)) = ap (λ (ys : List Expr). exprs_of (map expr_view ys)) (next_at xs i x l e) in
    let m = subst (λ (es : t.Exprs). CasesLeft w tag u number all es known a f0 f1 t0 t1 s1) split h in
    step w tag u number all (expr_view x) (left xs (i + 1)) known m.so_far a b f0 f1 f2 t0 t1 t2 s2 k c m.told m.tests m.seen (one m.so_far m.has)

pub cases_end : (w : go.Walk) (tag : ℕ) (u : Option Ty) (number : ℕ) (all : t.Exprs) (xs : List Expr) (i : ℕ) (known : List Const) (a : TypeTable) (f0 f1 : List Flaw) (t0 t1 : List CoreTest) (s : ConstSet) → length xs ≤ i
    → CasesLeft w tag u number all (left xs i) known a f0 f1 t0 t1 s → Cases (case_tests w tag u number all known) a f0 f1 t0 t1 s
cases_end w tag u number all xs i known a f0 f1 t0 t1 s l h =
    let none : left xs i ≡ t.NoExprs = ap (λ (ys : List Expr). exprs_of (map expr_view ys)) (past xs i l) in
    let m = subst (λ (es : t.Exprs). CasesLeft w tag u number all es known a f0 f1 t0 t1 s) none h in
    record {
      told = sym (append-nil (map flaw_view f1)) ∙ m.told;
      tests = m.tests;
      seen = subst (HasAll s) m.seen m.has;
    }

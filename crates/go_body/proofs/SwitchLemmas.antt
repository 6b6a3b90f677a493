-- The clauses of a `switch`, one by one, and the whole.
use Rattle.std.proofs.Common.{arith, ◌≡◌, ◌<◌, ◌≤◌, ◌+◌, ◌-◌, ◌∙◌, ℕ, zero, suc, refl, sym, ap, subst, List, [], ◌∷◌, ◌++◌, append_assoc, map, length, drop, get_or, Bool, true, false, ◌||◌, ◌&&◌}
use Rattle.std.specs.Prelude.{Option, Some, None, option_map, IfSome, not, ◌==◌, is_some}
use Rattle.std.proofs.lemmas.List.{append-nil}
use Rattle.std.proofs.lemmas.Bool.Decides.{nat_tests}
use Rattle.gj_base.specs.declared.place.Place.{Place}
use Rattle.go_const.specs.declared.constant.Const.{Const}
use Rattle.go_syntax.specs.Tree as t
use Rattle.go_syntax.specs.View.{expr_view, exprs_of, stmt_view, stmts_of, clause_view, joined}
use Rattle.go_syntax.specs.declared.tree.Clause.{Clause, out-Clause}
use Rattle.go_type.specs.Tree.{Ty}
use Rattle.go_type.specs.Levels.{tree_of}
use Rattle.go_type.specs.Table.{places, size, KeepsTrees}
use Rattle.go_type.specs.declared.types.TypeId.{TypeId}
use Rattle.go_type.specs.declared.table.TypeTable.{TypeTable}
use Rattle.go_core.specs.CoreTree as core
use Rattle.go_core.specs.CoreView as views
use Rattle.go_core.specs.CoreView.{tests_of, clauses_of}
use Rattle.go_core.specs.declared.statement.CoreTest.{CoreTest}
use Rattle.go_core.specs.declared.statement.CoreClause.{CoreClause}
use Rattle.go_core.specs.declared.statement.CoreStmt.{CoreStmt}
use Rattle.go_walk.specs.ClauseView as nodes
use Rattle.go_typing.specs.Answer as typing
use Rattle.go_typing.specs.Answer.{flaw}
use Rattle.go_typing.specs.Typing.{place_of}
use Rattle.go_typing.specs.Scopes as scopes
use Rattle.go_operands.specs.EnvView.{table_of, env_of}
use Rattle.go_calls.specs.Words.{types_of}
use Rattle.go_operands.specs.AnswerView.{flaw_view}
use Rattle.go_operands.specs.declared.answers.answer.Flaw.{Flaw}
use Rattle.go_typing.specs.Walk as go
use Rattle.go_typing.specs.Walk.{Did, Target, body, fresh, uses_all, within}
use Rattle.go_typing.specs.Expressions.{core_of, flaws_in, value_alone, type_of}
use Rattle.go_typing.specs.Statements as statements
use Rattle.go_typing.specs.Statements.{Tests, Clauses, one_clause, default_from, default_flaws, is_default, falls, is_last, clauses, clause_stmts, case_tests, case_answer, case_constant, repeated, repeated_flaws, and_constant, tag_of, condition_uses, next_label, switch_did}
use Rattle.go_walk.specs.WalkView.{walk_of, depth, Keeps}
use Rattle.go_walk.specs.declared.walk.walk.Walk.{Walk}
use Rattle.go_assign.specs.Outcome.{Does}
use Rattle.go_assign.specs.Passed.{Passes}
use Rattle.go_walk.specs.declared.cases.seen.ConstSet.{ConstSet}
use Rattle.go_define.specs.AroundView.{around_of}
use Rattle.go_define.specs.CaseView.{tests_before, HasAll}
use Rattle.go_define.specs.declared.simple.around.Around.{Around}
use Rattle.go_body.specs.Bodies.{Ready}
use Rattle.go_body.specs.Made.{clauses_before, first_default, IsNothing}
use Rattle.go_body.specs.Clauses.{or_later, ClauseDoes, ClausesLeft, ClausesDo}
use Rattle.go_body.specs.Tags.{tag_type, tag_stmts, IsTagged, Tested}
use Rattle.go_body.specs.declared.leaf.made.Made.{Made}
use Rattle.go_body.specs.declared.leaf.tagged.Tagged.{Tagged}
use Rattle.go_body.proofs.KeepLemmas.{keeps_back, around_same, tag_same, tag_more}
use Rattle.go_body.proofs.FallsLemmas.{next_at, past}
use Rattle.go_body.proofs.PartLemmas.{body_is}
use Rattle.go_body.proofs.ViewLemmas.{clause_whole}

-- ---- the cases of a clause, in a walk with other types for its variables

abbrev case_step : go.Walk → ℕ → Option Ty → ℕ → t.Expr → List Const → Tests → Tests
case_step w tag u number x seen r = record {
  tests = λ ts. core.test (core_of (case_answer w tag u x)) number (r.tests ts);
  flaws = flaws_in w x ++ typing.own (case_answer w tag u x) ++ repeated_flaws (place_of x) (repeated (case_constant w u x) seen) ++ r.flaws;
  seen = r.seen;
}

tests_same : (us ts : List Ty) (w : Walk) (tag : ℕ) (u : Option Ty) (number : ℕ) (xs : t.Exprs) (ks : List Const) → case_tests (walk_of us w) tag u number xs ks ≡ case_tests (walk_of ts w) tag u number xs ks
tests_same us ts w tag None number t.NoExprs ks = refl
tests_same us ts w tag (Some v) number t.NoExprs ks = refl
tests_same us ts w tag None number (t.MoreExprs x xs) ks = ap (case_step (walk_of us w) tag None number x ks) (tests_same us ts w tag None number xs (and_constant (case_constant (walk_of us w) None x) ks))
tests_same us ts w tag (Some v) number (t.MoreExprs x xs) ks = ap (case_step (walk_of us w) tag (Some v) number x ks) (tests_same us ts w tag (Some v) number xs (and_constant (case_constant (walk_of us w) (Some v) x) ks))

-- ---- one clause

module _ (at : Place) (tag number : ℕ) (u : Option Ty) (xs : t.Exprs) (ks : List Const) (d : go.Walk → Did) (isd had onward : Bool) where
  abbrev cases : go.Walk → Tests
  cases w = case_tests w tag u number xs ks

  pub clause_does : (a b c : Walk) (f0 f1 f2 : List Flaw) (t0 t1 t2 : List CoreTest) (c0 c1 : List CoreClause) (d0 d1 : Option ℕ) (s : ConstSet) (p : List CoreStmt) → ((us : List Ty) → Tested at (cases (walk_of us a)) isd had (table_of b.env) f0 f1 t0 t1 s) → Passes (uses_all xs) a b → Does d b c f1 f2 [] p
      → t2 ≡ t1 → ((ts : List Ty) → (rest : core.Clauses) → clauses_before ts c1 rest ≡ clauses_before ts c0 (core.clause (views.stmts_of (map (views.stmt_view ts) p)) onward rest)) → d1 ≡ first_default d0 isd number
      → ClauseDoes at cases (λ w. d (uses_all xs w)) number isd had onward a c f0 f2 t0 t2 c0 c1 d0 d1
  clause_does a b c f0 f1 f2 t0 t1 t2 c0 c1 d0 d1 s p g h k e m n = record {
    told = λ ts l.
        let w = walk_of ts a in
        k.told ts l ∙ ap (λ (v : go.Walk). map flaw_view f1 ++ (d v).flaws) (h.walk ts) ∙ ap (λ (fs : List typing.Flaw). fs ++ (d (uses_all xs w)).flaws) ((g ts).told)
        ∙ append_assoc (map flaw_view f0) (default_flaws at isd had ++ (cases w).flaws) (d (uses_all xs w)).flaws;
    tests = λ ts l rest. ap (λ (zs : List CoreTest). tests_before ts zs rest) e ∙ (g ts).tests ts (back ts l) rest;
    clauses = λ ts l rest.
        let w = walk_of ts a in
        m ts rest ∙ ap (λ (z : core.Stmts). clauses_before ts c0 (core.clause z onward rest)) (ap views.stmts_of (k.core ts l ∙ ap (λ (v : go.Walk). (d v).core) (h.walk ts)) ∙ sym (body_is (d (uses_all xs w)).core));
    default_ = n;
    walk = λ ts l. k.walk ts l ∙ ap (λ (v : go.Walk). (d v).walk) (h.walk ts);
    depth = k.depth ∙ ap (λ (v : scopes.Env). length v.blocks) h.env;
    kept = λ i l. k.kept i (below i l) ∙ h.kept i l;
    counts = let x = h.counts in let y = k.counts in omega (arith, x, y);
  }
    where
      back : (ts : List Ty) → Keeps (table_of c.env) ts → Keeps (table_of b.env) ts
      back ts l = keeps_back (table_of b.env) (table_of c.env) k.kept k.counts ts l

      below : (i : TypeId) → i.0 < size (table_of a.env) → i.0 < size (table_of b.env)
      below i l = let x = h.counts in omega (arith, x, l)

-- ---- all that is left

clauses_begin : (all : go.Walk → Clauses) (a : Walk) (f : List Flaw) → ClausesLeft all all a a f f [] [] None
clauses_begin all a f = record { told = λ ts l. refl; made_tests = λ ts l. refl; made_clauses = λ ts l. refl; made_default = λ ts l. refl; walk = λ ts l. refl; depth = refl; kept = λ i l. refl; counts = omega arith }

-- the first `default` is the one
default_step : (d : Option ℕ) (b : Bool) (number : ℕ) (rest : Option ℕ) → or_later (first_default d b number) rest ≡ or_later d (default_from b number rest)
default_step None true number rest = refl
default_step None false number rest = refl
default_step (Some n) true number rest = refl
default_step (Some n) false number rest = refl

default_had : (d : Option ℕ) (b : Bool) (number : ℕ) → (b || is_some d) ≡ is_some (first_default d b number)
default_had None true number = refl
default_had None false number = refl
default_had (Some n) true number = refl
default_had (Some n) false number = refl

told_step : (x0 x1 all p q r s : List typing.Flaw) → x1 ≡ x0 ++ ((p ++ q) ++ r) → x0 ++ (((p ++ q) ++ r) ++ s) ≡ all → x1 ++ s ≡ all
told_step x0 x1 all p q r s h k = ap (λ (x : List typing.Flaw). x ++ s) h ∙ append_assoc x0 ((p ++ q) ++ r) s ∙ k

-- one clause more; the others go on with the constants so far, and know whether a `default` stood before
clauses_step : (all : go.Walk → Clauses) (at : Place) (r : go.Walk → Tests) (pre : go.Walk → go.Walk) (number : ℕ) (isd had onward : Bool) (inside : go.Walk → Did) (others : List Const → Bool → go.Walk → Clauses) (js : List Const) (a b c : Walk) (f0 f1 f2 : List Flaw) (t1 t2 : List CoreTest) (c1 c2 : List CoreClause) (d1 d2 : Option ℕ)
    → ((ts : List Ty) → (r (walk_of ts b)).seen ≡ js) → ClausesLeft all (λ w. one_clause at (r w) number isd had onward inside others (pre w)) a b f0 f1 t1 c1 d1
    → ClauseDoes at r (λ w. inside (pre w)) number isd had onward b c f1 f2 t1 t2 c1 c2 d1 d2 → ClausesLeft all (others js (isd || had)) a c f0 f2 t2 c2 d2
clauses_step all at r pre number isd had onward inside others js a b c f0 f1 f2 t1 t2 c1 c2 d1 d2 e h k = record {
  told = λ ts l.
      let v = walk_of ts b in
      let rest = others js (isd || had) in
      told_step (map flaw_view f1) (map flaw_view f2) (map flaw_view f0 ++ (all (walk_of ts a)).flaws) (default_flaws at isd had) (r v).flaws (inside (pre v)).flaws (rest (walk_of ts c)).flaws (k.told ts l)
      (ap (λ (w : go.Walk). map flaw_view f1 ++ (((default_flaws at isd had ++ (r v).flaws) ++ (inside (pre v)).flaws) ++ (rest w).flaws)) (k.walk ts l)
      ∙ ap (λ (x : List Const). map flaw_view f1 ++ (((default_flaws at isd had ++ (r v).flaws) ++ (inside (pre v)).flaws) ++ (others x (isd || had) (inside (pre v)).walk).flaws)) (sym (e ts)) ∙ h.told ts (back ts l));
  made_tests = λ ts l.
      let v = walk_of ts b in
      let rest = others js (isd || had) in
      k.tests ts l (rest (walk_of ts c)).tests ∙ ap (λ (w : go.Walk). tests_before ts t1 ((r v).tests (rest w).tests)) (k.walk ts l)
      ∙ ap (λ (x : List Const). tests_before ts t1 ((r v).tests (others x (isd || had) (inside (pre v)).walk).tests)) (sym (e ts)) ∙ h.made_tests ts (back ts l);
  made_clauses = λ ts l.
      let v = walk_of ts b in
      let rest = others js (isd || had) in
      k.clauses ts l (rest (walk_of ts c)).clauses ∙ ap (λ (w : go.Walk). clauses_before ts c1 (core.clause (body (inside (pre v)).core) onward (rest w).clauses)) (k.walk ts l)
      ∙ ap (λ (x : List Const). clauses_before ts c1 (core.clause (body (inside (pre v)).core) onward (others x (isd || had) (inside (pre v)).walk).clauses)) (sym (e ts)) ∙ h.made_clauses ts (back ts l);
  made_default = λ ts l.
      let v = walk_of ts b in
      let rest = others js (isd || had) in
      ap (λ (d : Option ℕ). or_later d (rest (walk_of ts c)).default_) k.default_ ∙ default_step d1 isd number (rest (walk_of ts c)).default_ ∙ ap (λ (w : go.Walk). or_later d1 (default_from isd number (rest w).default_)) (k.walk ts l)
      ∙ ap (λ (x : List Const). or_later d1 (default_from isd number (others x (isd || had) (inside (pre v)).walk).default_)) (sym (e ts)) ∙ h.made_default ts (back ts l);
  walk = λ ts l.
      let v = walk_of ts b in
      let rest = others js (isd || had) in
      ap (λ (w : go.Walk). (rest w).walk) (k.walk ts l) ∙ ap (λ (x : List Const). (others x (isd || had) (inside (pre v)).walk).walk) (sym (e ts)) ∙ h.walk ts (back ts l);
  depth = k.depth ∙ h.depth;
  kept = λ i l. k.kept i (below i l) ∙ h.kept i l;
  counts = let p = h.counts in let q = k.counts in omega (arith, p, q);
}
  where
    back : (ts : List Ty) → Keeps (table_of c.env) ts → Keeps (table_of b.env) ts
    back ts l = keeps_back (table_of b.env) (table_of c.env) k.kept k.counts ts l

    below : (i : TypeId) → i.0 < size (table_of a.env) → i.0 < size (table_of b.env)
    below i l = let p = h.counts in omega (arith, p, l)

-- ---- clauses, from an index on

abbrev rest_of : List Clause → t.Clauses
rest_of cs = joined (map clause_view cs) t.NoClauses

-- what the loop over clauses knows
pub record Turned (a : go.Around) (tag : ℕ) (u : Option Ty) (cs : List Clause) (i left number : ℕ) (old now : Walk) (before after : List Flaw) (made : Made) : Type 0 where
  pub so_far : List Const
  pub has : HasAll made.seen so_far
  pub count : left + i ≡ length cs
  pub is_number : number ≡ i
  pub does : ClausesLeft (clauses (rest_of cs) a tag u 0 [] false) (clauses (rest_of (drop i cs)) a tag u number so_far (is_some made.default)) old now before after made.tests.items made.clauses.items made.default

begun : (all : go.Walk → Clauses) (next : Bool → go.Walk → Clauses) (w : Walk) (f : List Flaw) (ts : List CoreTest) (ds : List CoreClause) (d : Option ℕ) → all ≡ next false → ts ≡ [] → ds ≡ [] → d ≡ None → ClausesLeft all (next (is_some d)) w w f f ts ds d
begun all next w f ts ds d e p q r =
    subst (λ (x : List CoreTest). ClausesLeft all (next (is_some d)) w w f f x ds d) (sym p)
    (subst (λ (x : List CoreClause). ClausesLeft all (next (is_some d)) w w f f [] x d) (sym q)
    (subst (λ (x : Option ℕ). ClausesLeft all (next (is_some x)) w w f f [] [] x) (sym r) (subst (λ (x : go.Walk → Clauses). ClausesLeft all x w w f f [] [] None) e (clauses_begin all w f))))

pub turned_begin : (a : go.Around) (tag : ℕ) (u : Option Ty) (cs : List Clause) (w : Walk) (f : List Flaw) (made : Made) → IsNothing made → Turned a tag u cs 0 (length cs) 0 w w f f made
turned_begin a tag u cs w f made h = record {
  so_far = [];
  has = h.seen;
  count = omega arith;
  is_number = refl;
  does = begun (clauses (rest_of cs) a tag u 0 [] false) (clauses (rest_of cs) a tag u 0 []) w f made.tests.items made.clauses.items made.default refl h.tests h.clauses h.default_;
}

-- the last clause is known by how many are left
zero_is : (n : ℕ) → n ≡ 0 → (n == 0) ≡ true
zero_is n h = grind (arith, nat_tests)

some_is : (n : ℕ) → 0 < n → (n == 0) ≡ false
some_is n h = grind (arith, nat_tests)

last_is : (cs : List Clause) (n : ℕ) → n ≡ length cs → (n == 0) ≡ is_last (rest_of cs)
last_is [] n h = zero_is n h
last_is (c ∷ cs) n h =
    let step : false ≡ is_last (rest_of (c ∷ cs)) = ap is_last (sym (clause_whole c (rest_of cs))) in
    some_is n (omega (arith, h)) ∙ step

length_rest : {X : Type 0} (xs : List X) (i : ℕ) → i ≤ length xs → length (drop i xs) + i ≡ length xs
length_rest [] zero h = omega arith
length_rest [] (suc i) h = absurd (omega (arith, h))
length_rest (x ∷ xs) zero h = omega arith
length_rest (x ∷ xs) (suc i) h = let k = length_rest xs i (omega (arith, h)) in omega (arith, k)

-- what one clause is, in the definitions' words
abbrev pub head_exprs : Clause → t.Exprs
head_exprs c = exprs_of (map expr_view (out-Clause c).exprs.items)

abbrev pub head_stmts : Clause → t.Stmts
head_stmts c = stmts_of (map stmt_view (out-Clause c).body.items)

abbrev pub head_onward : Clause → Bool → Bool
head_onward c b = falls (head_stmts c) && not b

abbrev pub head_does : go.Around → Clause → Bool → go.Walk → Did
head_does a c b = within (clause_stmts (head_onward c b) (head_stmts c) a)

module _ (a : go.Around) (tag : ℕ) (u : Option Ty) (c : Clause) where
  clause_next : (cs : List Clause) (number : ℕ) (ks : List Const) (had : Bool)
      → clauses (rest_of (c ∷ cs)) a tag u number ks had
      ≡ (λ w. one_clause (out-Clause c).place (case_tests w tag u number (head_exprs c) ks) number (is_default (head_exprs c)) had (head_onward c (is_last (rest_of cs))) (head_does a c (is_last (rest_of cs))) (clauses (rest_of cs) a tag u (suc number)) (uses_all (head_exprs c) w))
  clause_next cs number ks had = ap (λ (x : t.Clauses). clauses x a tag u number ks had) (clause_whole c (rest_of cs))

  -- what one clause is where it is known whether it is the last one
  abbrev as_one : (rest : List Clause) (number : ℕ) (ks : List Const) (had last : Bool) → go.Walk → Clauses
  as_one rest number ks had last w = one_clause (out-Clause c).place (case_tests w tag u number (head_exprs c) ks) number (is_default (head_exprs c)) had (head_onward c last) (head_does a c last) (clauses (rest_of rest) a tag u (suc number)) (uses_all (head_exprs c) w)

  is_one : (cs : List Clause) (i left number : ℕ) (ks : List Const) (had last : Bool) → i < length cs → c ≡ get_or cs i c → left + i ≡ length cs → last ≡ (left - 1 == 0) → clauses (rest_of (drop i cs)) a tag u number ks had ≡ as_one (drop (i + 1) cs) number ks had last
  is_one cs i left number ks had last h e q z =
      let rest = drop (i + 1) cs in
      let r = length_rest cs (i + 1) (omega (arith, h)) in
      let n : left - 1 ≡ length rest = omega (arith, q, r, h) in
      ap (λ (xs : List Clause). clauses (rest_of xs) a tag u number ks had) (next_at cs i c h e) ∙ clause_next rest number ks had ∙ ap (as_one rest number ks had) (sym (z ∙ last_is rest (left - 1) n))

  pub turned_step : (cs : List Clause) (i left number after : ℕ) (last : Bool) (old m n : Walk) (f0 f1 f2 : List Flaw) (made more : Made) → i < length cs → c ≡ get_or cs i c → last ≡ (left - 1 == 0) → after ≡ number + 1 → Turned a tag u cs i left number old m f0 f1 made
      → ((ks : List Const) → HasAll made.seen ks → ClauseDoes (out-Clause c).place (λ w. case_tests w tag u number (head_exprs c) ks) (λ w. head_does a c last (uses_all (head_exprs c) w)) number (is_default (head_exprs c)) (is_some made.default) (head_onward c last) m n f1 f2 made.tests.items more.tests.items made.clauses.items more.clauses.items made.default more.default)
      → ((us : List Ty) → (ks : List Const) → HasAll made.seen ks → HasAll more.seen (case_tests (walk_of us m) tag u number (head_exprs c) ks).seen) → Turned a tag u cs (i + 1) (left - 1) after old n f0 f2 more
  turned_step cs i left number after last old m n f0 f1 f2 made more h e z p g k s =
      let all = clauses (rest_of cs) a tag u 0 [] false in
      let rest = drop (i + 1) cs in
      let us = types_of m.env in
      let js = (case_tests (walk_of us m) tag u number (head_exprs c) g.so_far).seen in
      let had = is_some made.default in
      let isd = is_default (head_exprs c) in
      let now = k g.so_far g.has in
      let here : ClausesLeft all (as_one rest number g.so_far had last) old m f0 f1 made.tests.items made.clauses.items made.default = subst (λ (x : go.Walk → Clauses). ClausesLeft all x old m f0 f1 made.tests.items made.clauses.items made.default) (is_one cs i left number g.so_far had last h e g.count z) g.does in
      let then_ : ClausesLeft all (clauses (rest_of rest) a tag u (suc number) js (isd || had)) old n f0 f2 more.tests.items more.clauses.items more.default =
      clauses_step all (out-Clause c).place (λ w. case_tests w tag u number (head_exprs c) g.so_far) (uses_all (head_exprs c)) number isd had (head_onward c last) (head_does a c last) (clauses (rest_of rest) a tag u (suc number)) js old m n f0 f1 f2 made.tests.items more.tests.items
      made.clauses.items more.clauses.items made.default more.default (λ ts. ap (λ (x : Tests). x.seen) (tests_same ts us m tag u number (head_exprs c) g.so_far)) here now in
      let next : suc number ≡ after = omega (arith, p) in
      record {
        so_far = js;
        has = s us g.so_far g.has;
        count = let q = g.count in omega (arith, q, h);
        is_number = let q = g.is_number in omega (arith, p, q);
        does = subst (λ (x : ℕ). ClausesLeft all (clauses (rest_of rest) a tag u x js (is_some more.default)) old n f0 f2 more.tests.items more.clauses.items more.default) next
            (subst (λ (x : Bool). ClausesLeft all (clauses (rest_of rest) a tag u (suc number) js x) old n f0 f2 more.tests.items more.clauses.items more.default) (default_had made.default isd number ∙ ap (λ (x : Option ℕ). is_some x) (sym now.default_)) then_);
      }

-- ---- the end of the clauses

tests_whole : (ts : List Ty) (xs : List CoreTest) → tests_of ts xs ≡ tests_before ts xs core.no_tests
tests_whole ts [] = refl
tests_whole ts (x ∷ xs) = ap (core.test (views.expr_view ts x.condition) x.clause) (tests_whole ts xs)

clauses_whole : (ts : List Ty) (xs : List CoreClause) → clauses_of (map (nodes.clause_view ts) xs) ≡ clauses_before ts xs core.no_clauses
clauses_whole ts [] = refl
clauses_whole ts (x ∷ xs) = ap (nodes.clause_view ts x) (clauses_whole ts xs)

later_none : (d : Option ℕ) → d ≡ or_later d None
later_none None = refl
later_none (Some n) = refl

pub turned_end : (a : go.Around) (tag : ℕ) (u : Option Ty) (cs : List Clause) (i left number : ℕ) (old now : Walk) (f0 f1 : List Flaw) (made : Made) → length cs ≤ i → Turned a tag u cs i left number old now f0 f1 made → ClausesDo (clauses (rest_of cs) a tag u 0 [] false) old now f0 f1 made
turned_end a tag u cs i left number old now f0 f1 made h g =
    let all = clauses (rest_of cs) a tag u 0 [] false in
    let k : ClausesLeft all (clauses t.NoClauses a tag u number g.so_far (is_some made.default)) old now f0 f1 made.tests.items made.clauses.items made.default =
    subst (λ (xs : List Clause). ClausesLeft all (clauses (rest_of xs) a tag u number g.so_far (is_some made.default)) old now f0 f1 made.tests.items made.clauses.items made.default) (past cs i h) g.does in
    record {
      told = λ ts l. sym (append-nil (map flaw_view f1)) ∙ k.told ts l;
      tests = λ ts l. tests_whole ts made.tests.items ∙ k.made_tests ts l;
      clauses = λ ts l. clauses_whole ts made.clauses.items ∙ k.made_clauses ts l;
      default_ = λ ts l. later_none made.default ∙ k.made_default ts l;
      walk = k.walk;
      depth = k.depth;
      kept = k.kept;
      counts = k.counts;
    }

-- ---- the whole `switch`

-- the same with the tag's type by its own name
abbrev switch_at : t.MaybeExpr → (go.Walk → Did) → (ℕ → Option Ty → ℕ → go.Walk → Clauses) → go.Walk → Did
switch_at x init cl w =
    let d = init w in
    let g = tag_of d.walk x in
    let u = condition_uses x d.walk in
    let r = cl u.next g.type_ u.next_label (next_label (fresh (tag_type g.type_) u)) in
    record {
      core = d.core ++ core.declare (record { id = u.next; type_ = tag_type g.type_ }) ∷ core.store (core.to_place (tag_type g.type_) (core.local_ u.next) ∷ []) (core.expr g.core core.no_exprs) ∷ core.switch_on u.next_label r.tests r.clauses r.default_ ∷ [];
      flaws = d.flaws ++ g.flaws ++ r.flaws;
      walk = r.walk;
    }

abbrev var_with : ℕ → Ty → core.Var
var_with i u = record { id = i; type_ = u }

-- what the clauses do
abbrev clauses_at : t.MaybeExpr → (go.Walk → Did) → (ℕ → Option Ty → ℕ → go.Walk → Clauses) → go.Walk → Clauses
clauses_at x init cl w =
    cl (condition_uses x (init w).walk).next (tag_of (init w).walk x).type_ (condition_uses x (init w).walk).next_label (next_label (fresh (tag_type (tag_of (init w).walk x).type_) (condition_uses x (init w).walk)))

switch_typed : (e : t.Expr) (init : go.Walk → Did) (cl : ℕ → Option Ty → ℕ → go.Walk → Clauses) (w : go.Walk) (o : Option Ty) → type_of (value_alone (init w).walk e).answer ≡ o → switch_at (t.AnExpr e) init cl w ≡ switch_did (t.AnExpr e) init cl w
switch_typed e init cl w None h = rw h refl
switch_typed e init cl w (Some u) h = rw h refl

switch_is : (x : t.MaybeExpr) (init : go.Walk → Did) (cl : ℕ → Option Ty → ℕ → go.Walk → Clauses) (w : go.Walk) → switch_at x init cl w ≡ switch_did x init cl w
switch_is t.NoExpr init cl w = refl
switch_is (t.AnExpr e) init cl w = switch_typed e init cl w (type_of (value_alone (init w).walk e).answer) refl

uses_next : (x : t.MaybeExpr) (w : go.Walk) → w.next ≡ (condition_uses x w).next
uses_next t.NoExpr w = refl
uses_next (t.AnExpr e) w = refl

join_core : (o0 o1 o2 o3 d : List core.Stmt) (x y z : core.Stmt) → o1 ≡ o0 ++ d → o2 ≡ o1 ++ x ∷ y ∷ [] → o3 ≡ o2 ++ z ∷ [] → o3 ≡ o0 ++ (d ++ x ∷ y ∷ z ∷ [])
join_core o0 o1 o2 o3 d x y z p q r =
    r ∙ ap (λ (v : List core.Stmt). v ++ z ∷ []) (q ∙ ap (λ (v : List core.Stmt). v ++ x ∷ y ∷ []) p) ∙ append_assoc (o0 ++ d) (x ∷ y ∷ []) (z ∷ []) ∙ append_assoc o0 d (x ∷ y ∷ z ∷ [])

join_told : (x0 x1 x2 x3 p q r : List typing.Flaw) → x1 ≡ x0 ++ p → x2 ≡ x1 ++ q → x3 ≡ x2 ++ r → x3 ≡ x0 ++ ((p ++ q) ++ r)
join_told x0 x1 x2 x3 p q r h k m = m ∙ ap (λ (v : List typing.Flaw). v ++ r) (k ∙ ap (λ (v : List typing.Flaw). v ++ q) h ∙ append_assoc x0 p q) ∙ append_assoc x0 (p ++ q) r

pub switch_does : (x : t.MaybeExpr) (init : go.Walk → Did) (cl : ℕ → Option Ty → ℕ → go.Walk → Clauses) (number : ℕ) (tag : Tagged) (a b c m n : Walk) (f0 f1 f2 f3 : List Flaw) (o0 o1 o2 o3 : List CoreStmt) (made : Made) → Does init a b f0 f1 o0 o1 → IsTagged x b c f1 f2 o1 o2 tag → number ≡ c.next_label
    → Passes next_label c m → ClausesDo (cl tag.id.0 (option_map (tree_of (types_of m.env)) tag.ty) number) m n f2 f3 made
    → ((ts : List Ty) → map (views.stmt_view ts) o3 ≡ map (views.stmt_view ts) o2 ++ core.switch_on number (tests_of ts made.tests.items) (clauses_of (map (nodes.clause_view ts) made.clauses.items)) made.default ∷ []) → Does (switch_did x init cl) a n f0 f3 o0 o3
switch_does x init cl number tag a b c m n f0 f1 f2 f3 o0 o1 o2 o3 made h g num p k out = record {
  told = λ ts l.
      let w = walk_of ts a in
      join_told (map flaw_view f0) (map flaw_view f1) (map flaw_view f2) (map flaw_view f3) (init w).flaws (tag_of (init w).walk x).flaws (clauses_at x init cl w).flaws (h.told ts (to_b ts l)) (g.told ts ∙ ap (λ (v : go.Walk). map flaw_view f1 ++ (tag_of v x).flaws) (at_b ts l))
      (k.told ts l ∙ ap (λ (r : Clauses). map flaw_view f2 ++ r.flaws) (same ts l))
      ∙ ap (λ (d : Did). map flaw_view f0 ++ d.flaws) (switch_is x init cl w);
  core = λ ts l.
      let w = walk_of ts a in
      let u = condition_uses x (init w).walk in
      let v = tag_type (tag_of (init w).walk x).type_ in
      let r = clauses_at x init cl w in
      join_core (map (views.stmt_view ts) o0) (map (views.stmt_view ts) o1) (map (views.stmt_view ts) o2) (map (views.stmt_view ts) o3) (init w).core (core.declare (var_with u.next v)) (core.store (core.to_place v (core.local_ u.next) ∷ []) (core.expr (tag_of (init w).walk x).core core.no_exprs))
      (core.switch_on u.next_label r.tests r.clauses r.default_) (h.core ts (to_b ts l))
      (g.core ts (to_c ts l) ∙ (λ j. map (views.stmt_view ts) o1 ++ tag_stmts (id_is ts l j) (tag_type (tag_of (at_b ts l j) x).type_) (tag_of (at_b ts l j) x).core))
      (out ts ∙ (λ j. map (views.stmt_view ts) o2 ++ core.switch_on (label_is ts l j) ((k.tests ts l ∙ ap (λ (z : Clauses). z.tests) (same ts l)) j) ((k.clauses ts l ∙ ap (λ (z : Clauses). z.clauses) (same ts l)) j) ((k.default_ ts l ∙ ap (λ (z : Clauses). z.default_) (same ts l)) j) ∷ []))
      ∙ ap (λ (d : Did). map (views.stmt_view ts) o0 ++ d.core) (switch_is x init cl w);
  walk = λ ts l. k.walk ts l ∙ ap (λ (r : Clauses). r.walk) (same ts l) ∙ ap (λ (d : Did). d.walk) (switch_is x init cl (walk_of ts a));
  depth = k.depth ∙ ap (λ (v : scopes.Env). length v.blocks) p.env ∙ ap (λ (v : scopes.Env). length v.blocks) g.env ∙ h.depth;
  kept = λ j l. k.kept j (in_m j (in_c j (in_b j l))) ∙ p.kept j (in_c j (in_b j l)) ∙ g.kept j (in_b j l) ∙ h.kept j l;
  counts = let r = h.counts in let s = g.counts in let u = p.counts in let v = k.counts in omega (arith, r, s, u, v);
}
  where
    in_b : (j : TypeId) → j.0 < size (table_of a.env) → j.0 < size (table_of b.env)
    in_b j l = let u = h.counts in omega (arith, u, l)

    in_c : (j : TypeId) → j.0 < size (table_of b.env) → j.0 < size (table_of c.env)
    in_c j l = let u = g.counts in omega (arith, u, l)

    in_m : (j : TypeId) → j.0 < size (table_of c.env) → j.0 < size (table_of m.env)
    in_m j l = let u = p.counts in omega (arith, u, l)

    to_m : (ts : List Ty) → Keeps (table_of n.env) ts → Keeps (table_of m.env) ts
    to_m ts l = keeps_back (table_of m.env) (table_of n.env) k.kept k.counts ts l

    to_c : (ts : List Ty) → Keeps (table_of n.env) ts → Keeps (table_of c.env) ts
    to_c ts l = keeps_back (table_of c.env) (table_of m.env) p.kept p.counts ts (to_m ts l)

    to_b : (ts : List Ty) → Keeps (table_of n.env) ts → Keeps (table_of b.env) ts
    to_b ts l = keeps_back (table_of b.env) (table_of c.env) g.kept g.counts ts (to_c ts l)

    at_b : (ts : List Ty) → Keeps (table_of n.env) ts → walk_of ts b ≡ (init (walk_of ts a)).walk
    at_b ts l = h.walk ts (to_b ts l)

    at_c : (ts : List Ty) → Keeps (table_of n.env) ts → walk_of ts c ≡ fresh (tag_type (tag_of (init (walk_of ts a)).walk x).type_) (condition_uses x (init (walk_of ts a)).walk)
    at_c ts l = g.walk ts (to_c ts l) ∙ ap (λ (v : go.Walk). fresh (tag_type (tag_of v x).type_) (condition_uses x v)) (at_b ts l)

    id_is : (ts : List Ty) → Keeps (table_of n.env) ts → b.next ≡ (condition_uses x (init (walk_of ts a)).walk).next
    id_is ts l = ap (λ (v : go.Walk). v.next) (at_b ts l) ∙ uses_next x (init (walk_of ts a)).walk

    label_is : (ts : List Ty) → Keeps (table_of n.env) ts → number ≡ (condition_uses x (init (walk_of ts a)).walk).next_label
    label_is ts l = num ∙ ap (λ (v : go.Walk). v.next_label) (at_c ts l)

    type_is : (ts : List Ty) → Keeps (table_of n.env) ts → option_map (tree_of (types_of m.env)) tag.ty ≡ (tag_of (init (walk_of ts a)).walk x).type_
    type_is ts l = tag_same (table_of c.env) (table_of m.env) tag.ty p.kept g.below ∙ g.type_ ts ∙ ap (λ (v : go.Walk). (tag_of v x).type_) (at_b ts l)

    same : (ts : List Ty) → Keeps (table_of n.env) ts → cl tag.id.0 (option_map (tree_of (types_of m.env)) tag.ty) number (walk_of ts m) ≡ clauses_at x init cl (walk_of ts a)
    same ts l = λ j. cl ((g.number ∙ id_is ts l) j) (type_is ts l j) (label_is ts l j) ((p.walk ts ∙ ap next_label (at_c ts l)) j)

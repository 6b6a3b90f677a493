-- Readings by loops of statements, cases, items and names.
use Rattle.std.proofs.Common.{◌≡◌, sym, subst, ap, ℕ, List, [], ◌∷◌, ◌++◌, refl}
use Rattle.std.specs.Prelude.{Result, Ok, Err, Bool, true, false, ◌||◌, codes}
use Rattle.js_tree.specs.Lexical.{Placed}
use Rattle.js_tree.specs.Script as tree
use Rattle.js_tree.specs.Script.{Name, Stmt, Stmts, Cases, Item}
use Rattle.js_tree.specs.Scripts.{word}
use Rattle.js_tree.specs.View.{stmts_of, cases_of}
use Rattle.js_grammar.specs.declared.refusal.ReadRefusal.{ReadRefusal}
use Rattle.js_grammar.specs.Tokens.{is_first}
use Rattle.js_grammar.specs.Goals as goal
use Rattle.js_grammar.specs.Steps.{call, found, ends_statements, right, comma, colon}
use Rattle.js_grammar.specs.Reads.{Reads, Ends, reads, answered, called, passed, held, failed}

next_statements : (d : ℕ) (ss : List Stmt) (rr : List Stmt) (us : List Placed) (r : Result (Stmts × List Placed) ReadRefusal) → Reads (goal.statements d rr) us r → Ends (goal.statements d ss) (call (goal.statements d rr) us found) r
next_statements d ss rr us (Ok p) h = called {vs = p.1} {v = p.0} h (answered refl)
next_statements d ss rr us (Err x) h = passed h

pub statements_step : (d : ℕ) (s : Stmt) (ss rr : List Stmt) (ts us : List Placed) (r : Result (Stmts × List Placed) ReadRefusal) → ends_statements ts ≡ false → Reads (goal.statement d) ts (Ok (s, us)) → rr ≡ ss ++ s ∷ []
    → Reads (goal.statements d rr) us r → Reads (goal.statements d ss) ts r
statements_step d s ss rr ts us r q p a h = reads (failed q (called p (next_statements d ss (ss ++ s ∷ []) us r (subst (λ z. Reads (goal.statements d z) us r) a h))))

pub statements_stop : (d : ℕ) (ss : List Stmt) (ts : List Placed) (x : ReadRefusal) → ends_statements ts ≡ false → Reads (goal.statement d) ts (Err x) → Reads (goal.statements d ss) ts (Err x)
statements_stop d ss ts x q p = reads (failed q (passed p))

pub statements_end : (d : ℕ) (v : Stmts) (ss : List Stmt) (ts : List Placed) → ends_statements ts ≡ true → v ≡ stmts_of ss → Reads (goal.statements d ss) ts (Ok (v, ts))
statements_end d v ss ts q a = reads (held q (answered (ap (λ z. Ok (z, ts)) (sym a))))

next_clauses : (d : ℕ) (cs : List (Cases → Cases)) (bs : List (Cases → Cases)) (us : List Placed) (r : Result (Cases × List Placed) ReadRefusal) → Reads (goal.clauses d bs) us r → Ends (goal.clauses d cs) (call (goal.clauses d bs) us found) r
next_clauses d cs bs us (Ok p) h = called {vs = p.1} {v = p.0} h (answered refl)
next_clauses d cs bs us (Err x) h = passed h

pub clauses_step : (d : ℕ) (c : Cases → Cases) (cs bs : List (Cases → Cases)) (ts us : List Placed) (r : Result (Cases × List Placed) ReadRefusal) → is_first (word (codes "case")) ts ≡ true → Reads (goal.clause d) ts (Ok (c, us)) → bs ≡ cs ++ c ∷ []
    → Reads (goal.clauses d bs) us r → Reads (goal.clauses d cs) ts r
clauses_step d c cs bs ts us r q p a h = reads (held q (called p (next_clauses d cs (cs ++ c ∷ []) us r (subst (λ z. Reads (goal.clauses d z) us r) a h))))

pub clauses_stop : (d : ℕ) (cs : List (Cases → Cases)) (ts : List Placed) (x : ReadRefusal) → is_first (word (codes "case")) ts ≡ true → Reads (goal.clause d) ts (Err x) → Reads (goal.clauses d cs) ts (Err x)
clauses_stop d cs ts x q p = reads (held q (passed p))

pub clauses_end : (d : ℕ) (v : Cases) (cs : List (Cases → Cases)) (ts : List Placed) → is_first (word (codes "case")) ts ≡ false → is_first (word (codes "default")) ts ≡ false → v ≡ cases_of cs tree.no_cases → Reads (goal.clauses d cs) ts (Ok (v, ts))
clauses_end d v cs ts q p a = reads (failed q (failed p (answered (ap (λ z. Ok (z, ts)) (sym a)))))

pub default_word_stop : (d : ℕ) (cs : List (Cases → Cases)) (ts : List Placed) (x : ReadRefusal) → is_first (word (codes "case")) ts ≡ false → is_first (word (codes "default")) ts ≡ true
    → Reads (goal.token d (word (codes "default"))) ts (Err x) → Reads (goal.clauses d cs) ts (Err x)
default_word_stop d cs ts x q p a = reads (failed q (held p (passed a)))

pub default_colon_stop : (d : ℕ) (cs : List (Cases → Cases)) (ts us : List Placed) (x : ReadRefusal) → is_first (word (codes "case")) ts ≡ false → is_first (word (codes "default")) ts ≡ true
    → Reads (goal.token d (word (codes "default"))) ts (Ok (tt, us)) → Reads (goal.token d colon) us (Err x) → Reads (goal.clauses d cs) ts (Err x)
default_colon_stop d cs ts us x q p a b = reads (failed q (held p (called a (passed b))))

pub default_stop : (d : ℕ) (cs : List (Cases → Cases)) (ts us vs : List Placed) (x : ReadRefusal) → is_first (word (codes "case")) ts ≡ false → is_first (word (codes "default")) ts ≡ true
    → Reads (goal.token d (word (codes "default"))) ts (Ok (tt, us)) → Reads (goal.token d colon) us (Ok (tt, vs)) → Reads (goal.statements d []) vs (Err x) → Reads (goal.clauses d cs) ts (Err x)
default_stop d cs ts us vs x q p a b s = reads (failed q (held p (called a (called b (passed s)))))

pub default_end : (d : ℕ) (v : Cases) (ss : Stmts) (cs : List (Cases → Cases)) (ts us vs ws : List Placed) → is_first (word (codes "case")) ts ≡ false → is_first (word (codes "default")) ts ≡ true
    → Reads (goal.token d (word (codes "default"))) ts (Ok (tt, us)) → Reads (goal.token d colon) us (Ok (tt, vs)) → Reads (goal.statements d []) vs (Ok (ss, ws)) → v ≡ cases_of cs (tree.default ss)
    → Reads (goal.clauses d cs) ts (Ok (v, ws))
default_end d v ss cs ts us vs ws q p a b s e = reads (failed q (held p (called a (called b (called s (answered (ap (λ z. Ok (z, ws)) (sym e))))))))

next_items : (is : List Item) (js : List Item) (us : List Placed) (r : Result (List Item × List Placed) ReadRefusal) → Reads (goal.items js) us r → Ends (goal.items is) (call (goal.items js) us found) r
next_items is js us (Ok p) h = called {vs = p.1} {v = p.0} h (answered refl)
next_items is js us (Err x) h = passed h

abbrev pub begins_item : List Placed → Bool
begins_item ts = is_first (word (codes "function")) ts || is_first (word (codes "var")) ts

pub items_step : (i : Item) (is js : List Item) (ts us : List Placed) (r : Result (List Item × List Placed) ReadRefusal) → begins_item ts ≡ true → Reads goal.item ts (Ok (i, us)) → js ≡ is ++ i ∷ []
    → Reads (goal.items js) us r → Reads (goal.items is) ts r
items_step i is js ts us r q p a h = reads (held q (called p (next_items is (is ++ i ∷ []) us r (subst (λ z. Reads (goal.items z) us r) a h))))

pub items_stop : (is : List Item) (ts : List Placed) (x : ReadRefusal) → begins_item ts ≡ true → Reads goal.item ts (Err x) → Reads (goal.items is) ts (Err x)
items_stop is ts x q p = reads (held q (passed p))

pub items_end : (is : List Item) (ts : List Placed) → begins_item ts ≡ false → Reads (goal.items is) ts (Ok (is, ts))
items_end is ts q = reads (failed q (answered refl))

next_names : (xs : List Name) (ys : List Name) (us : List Placed) (r : Result (List Name × List Placed) ReadRefusal) → Reads (goal.more_parameters ys) us r → Ends (goal.more_parameters xs) (call (goal.more_parameters ys) us found) r
next_names xs ys us (Ok p) h = called {vs = p.1} {v = p.0} h (answered refl)
next_names xs ys us (Err x) h = passed h

first_names : (ys : List Name) (us : List Placed) (r : Result (List Name × List Placed) ReadRefusal) → Reads (goal.more_parameters ys) us r → Ends goal.parameters (call (goal.more_parameters ys) us found) r
first_names ys us (Ok p) h = called {vs = p.1} {v = p.0} h (answered refl)
first_names ys us (Err x) h = passed h

pub names_start : (x : Name) (ys : List Name) (ts us : List Placed) (r : Result (List Name × List Placed) ReadRefusal) → is_first right ts ≡ false → Reads (goal.own_name 1) ts (Ok (x, us)) → ys ≡ x ∷ []
    → Reads (goal.more_parameters ys) us r → Reads goal.parameters ts r
names_start x ys ts us r q p a h = reads (failed q (called p (first_names (x ∷ []) us r (subst (λ z. Reads (goal.more_parameters z) us r) a h))))

pub names_step : (x : Name) (xs ys : List Name) (ts us vs : List Placed) (r : Result (List Name × List Placed) ReadRefusal) → is_first comma ts ≡ true → Reads (goal.token 1 comma) ts (Ok (tt, us))
    → Reads (goal.own_name 1) us (Ok (x, vs)) → ys ≡ xs ++ x ∷ [] → Reads (goal.more_parameters ys) vs r → Reads (goal.more_parameters xs) ts r
names_step x xs ys ts us vs r q t p a h = reads (held q (called t (called p (next_names xs (xs ++ x ∷ []) vs r (subst (λ z. Reads (goal.more_parameters z) vs r) a h)))))

pub names_stop : (xs : List Name) (ts : List Placed) (y : ReadRefusal) → is_first comma ts ≡ true → Reads (goal.token 1 comma) ts (Err y) → Reads (goal.more_parameters xs) ts (Err y)
names_stop xs ts y q t = reads (held q (passed t))

pub names_stop_after : (xs : List Name) (ts us : List Placed) (y : ReadRefusal) → is_first comma ts ≡ true → Reads (goal.token 1 comma) ts (Ok (tt, us)) → Reads (goal.own_name 1) us (Err y) → Reads (goal.more_parameters xs) ts (Err y)
names_stop_after xs ts us y q t p = reads (held q (called t (passed p)))

pub names_end : (xs : List Name) (ts : List Placed) → is_first comma ts ≡ false → Reads (goal.more_parameters xs) ts (Ok (xs, ts))
names_end xs ts q = reads (failed q (answered refl))

-- Lists of expressions and cases of a `switch`, open and closed.
use Rattle.std.proofs.Common.{◌≡◌, ℕ, suc, List, [], ◌∷◌, ◌++◌, reverse, length, Bool, false, None, refl, sym, ap, ◌∙◌, subst, append_assoc}
use Rattle.std.proofs.lemmas.List.{append-nil, reverse-append, reverse-reverse, length-reverse}
use Rattle.std.proofs.lemmas.Grind.{reverse_onto}
use Rattle.js_tree.specs.Script as script
use Rattle.js_tree.specs.Script.{Expr, Exprs, no_exprs, expr}
use Rattle.js_pool.specs.Stands as rule
use Rattle.js_pool.specs.Stands.{Stands, StandIn, AllStand, Later, Opened, opened, AddsItem, ClosesList}
use Rattle.js_pool.specs.Says as say
use Rattle.js_pool.specs.Says.{SaysIn, AllCases, SaysSwitch, AddsCase, ClosesCases}
use Rattle.js_pool.specs.declared.node.ExprId.{ExprId}
use Rattle.js_pool.specs.declared.node.Span.{Span}
use Rattle.js_pool.specs.declared.node.Block.{Block}
use Rattle.js_pool.specs.declared.node.Case.{Case}
use Rattle.js_pool.specs.declared.node.Cases.{Cases}
use Rattle.js_pool.specs.declared.node.Stmt.{Stmt}
use Rattle.js_pool.specs.declared.pool.Pool.{Pool}
use Rattle.js_body.specs.declared.body.Operand.{Operand}
use Rattle.js_body.specs.State.{State, Around, Arm, Line, list_tree, cases_tree, with_items_of, with_item, with_arms_of, with_arm}
use Rattle.js_body.specs.Tells.{PartsTell, LinesAre, ItemsAre, no_item, more_items, ArmIs, ArmsAre, no_arm, more_arms}
use Rattle.js_body.specs.Later.{itself, stands_later}
use Rattle.js_body.specs.StepLaws.{from_here, rev_push, lines_later, items_later, items_kept, arms_later, arms_kept, values_later}

onto : {A : Type 0} (zs xs : List A) (x : A) → reverse (x ∷ zs) ++ xs ≡ reverse zs ++ x ∷ xs
onto zs xs x = ap (λ k. k ++ xs) (reverse_onto zs x []) ∙ append_assoc (reverse zs) (x ∷ []) xs

-- ---- expressions

items_stand : {p : Pool} {zs : List ExprId} {us : List Expr} → ItemsAre p zs us → (es : List ExprId) (ts : Exprs) → AllStand p es ts → AllStand p (reverse zs ++ es) (list_tree us ts)
items_stand no_item es ts h = h
items_stand {p} (more_items {a = a} {bs = zs} {t = t} {ts = us} k r) es ts h =
    subst (λ (ys : List ExprId). AllStand p ys (list_tree us (expr t ts))) (sym (onto zs es a)) (items_stand r (a ∷ es) (expr t ts) (rule.more k h))

items_length : {p : Pool} {es : List ExprId} {ts : List Expr} → ItemsAre p es ts → length es ≡ length ts
items_length no_item = refl
items_length (more_items h t) = ap suc (items_length t)

items_split : (p : Pool) (inner base : List Expr) (es : List ExprId) → ItemsAre p es (inner ++ base) → (zs : List ExprId) × (ws : List ExprId) × (es ≡ zs ++ ws) × ItemsAre p zs inner × ItemsAre p ws base
items_split p [] base es h = ([], es, refl, no_item, h)
items_split p (l ∷ ls) base _ (more_items {a = x} {bs = xs} h t) =
    let r : (zs : List ExprId) × (ws : List ExprId) × (xs ≡ zs ++ ws) × ItemsAre p zs ls × ItemsAre p ws base = items_split p ls base xs t in
    (x ∷ r.0, r.1, ap (λ (k : List ExprId). x ∷ k) r.2, more_items h r.3, r.4)

-- how many expressions open lists have
pub parts_items : (p : Pool) (o : Opened) (os : List Operand) (temps : ℕ) (ds : List Bool) (near : Around) (s : State) → PartsTell p o os temps ds near s → length o.rest ≡ length s.items
parts_items p o os temps ds near s t = sym (length-reverse o.rest) ∙ items_length t.items

-- one more expression of the innermost open list
pub parts_item : (p q : Pool) (os : List Operand) (temps : ℕ) (ds : List Bool) (near : Around) (s : State) (a : ExprId) (e : Expr)
    → AddsItem p q a → q.failed ≡ false → Stands q a e → PartsTell p (opened p) os temps ds near s → PartsTell q (opened q) os temps ds near (with_item e s)
parts_item p q os temps ds near s a e c l h t =
    let g : Later p q = from_here p q c.0 l in
    let o = c.1 q (itself q l) in
    let r : a ∷ reverse (opened p).rest ≡ reverse (opened q).rest = sym (rev_push (opened p).rest (opened q).rest a (ap (λ (z : Opened). z.rest) o)) in
    record {
      first = stands_later g t.first;
      lines = subst (λ (xs : List Stmt). LinesAre q (reverse xs) s.lines) (sym (ap (λ (z : Opened). z.lines) o)) (lines_later g t.lines);
      items = subst (λ (xs : List ExprId). ItemsAre q xs (e ∷ s.items)) r (more_items h (items_later g t.items));
      arms = arms_kept g (opened p).arms (opened q).arms s.arms (ap (λ (z : Opened). z.arms) o) t.arms;
      stack = values_later g t.stack;
      temps_are = t.temps_are;
      declared_are = t.declared_are;
      around_is = t.around_is;
    }

-- the expressions since a mark are those of a list
pub parts_listed : (p q : Pool) (os : List Operand) (temps : ℕ) (ds : List Bool) (near : Around) (s : State) (mark : ℕ) (b : Span) (inner base : List Expr)
    → s.items ≡ inner ++ base → mark ≡ length base → ClosesList p q mark b → q.failed ≡ false → PartsTell p (opened p) os temps ds near s
    → StandIn q b (list_tree inner no_exprs) × PartsTell q (opened q) os temps ds near (with_items_of base s)
parts_listed p q os temps ds near s mark b inner base e m c l t =
    let g : Later p q = from_here p q c.0 l in
    let r = items_split p inner base (reverse (opened p).rest) (subst (λ (ls : List Expr). ItemsAre p (reverse (opened p).rest) ls) e t.items) in
    let parts : (opened p).rest ≡ reverse r.1 ++ reverse r.0 = sym (reverse-reverse (opened p).rest) ∙ ap reverse r.2 ∙ reverse-append r.0 r.1 in
    let long : mark ≡ length (reverse r.1) = m ∙ sym (items_length r.4) ∙ sym (length-reverse r.1) in
    let closed = c.1 q (itself q l) (reverse r.1) (reverse r.0) parts long in
    let left : r.1 ≡ reverse (opened q).rest = sym (reverse-reverse r.1) ∙ ap (λ (z : Opened). reverse z.rest) (sym closed.0) in
    let a = subst (λ (ys : List ExprId). AllStand q ys (list_tree inner no_exprs)) (append-nil (reverse r.0)) (items_stand (items_later g r.3) [] no_exprs rule.none) in (
      closed.1 (list_tree inner no_exprs) a,
      record {
        first = stands_later g t.first;
        lines = subst (λ (xs : List Stmt). LinesAre q (reverse xs) s.lines) (sym (ap (λ (z : Opened). z.lines) closed.0)) (lines_later g t.lines);
        items = subst (λ (xs : List ExprId). ItemsAre q xs base) left (items_later g r.4);
        arms = arms_kept g (opened p).arms (opened q).arms s.arms (ap (λ (z : Opened). z.arms) closed.0) t.arms;
        stack = values_later g t.stack;
        temps_are = t.temps_are;
        declared_are = t.declared_are;
        around_is = t.around_is;
      },
    )

-- ---- cases

arm_case : (p : Pool) (c : Case) (a : Arm) → ArmIs p c a → (cs : List Case) (ds : script.Cases) → AllCases p script.no_cases cs ds → AllCases p script.no_cases (c ∷ cs) (script.case a.number a.body ds)
arm_case p c a h cs ds k = subst (λ (n : ℕ). AllCases p script.no_cases (c ∷ cs) (script.case n a.body ds)) h.number (say.more_cases (say.one_case h.body) k)

arms_say : {p : Pool} {zs : List Case} {us : List Arm} → ArmsAre p zs us → (cs : List Case) (ds : script.Cases) → AllCases p script.no_cases cs ds → AllCases p script.no_cases (reverse zs ++ cs) (cases_tree us ds)
arms_say no_arm cs ds h = h
arms_say {p} (more_arms {c = c} {cs = zs} {a = a} {bs = us} k r) cs ds h =
    subst (λ (ys : List Case). AllCases p script.no_cases ys (cases_tree us (script.case a.number a.body ds))) (sym (onto zs cs c)) (arms_say r (c ∷ cs) (script.case a.number a.body ds) (arm_case p c a k cs ds h))

arms_length : {p : Pool} {cs : List Case} {bs : List Arm} → ArmsAre p cs bs → length cs ≡ length bs
arms_length no_arm = refl
arms_length (more_arms h t) = ap suc (arms_length t)

arms_split : (p : Pool) (inner base : List Arm) (cs : List Case) → ArmsAre p cs (inner ++ base) → (zs : List Case) × (ws : List Case) × (cs ≡ zs ++ ws) × ArmsAre p zs inner × ArmsAre p ws base
arms_split p [] base cs h = ([], cs, refl, no_arm, h)
arms_split p (l ∷ ls) base _ (more_arms {c = x} {cs = xs} h t) =
    let r : (zs : List Case) × (ws : List Case) × (xs ≡ zs ++ ws) × ArmsAre p zs ls × ArmsAre p ws base = arms_split p ls base xs t in
    (x ∷ r.0, r.1, ap (λ (k : List Case). x ∷ k) r.2, more_arms h r.3, r.4)

-- how many cases each open `switch` has, in all
pub parts_arms : (p : Pool) (o : Opened) (os : List Operand) (temps : ℕ) (ds : List Bool) (near : Around) (s : State) → PartsTell p o os temps ds near s → length o.arms ≡ length s.arms
parts_arms p o os temps ds near s t = sym (length-reverse o.arms) ∙ arms_length t.arms

-- one more case of the innermost open `switch`
pub parts_arm : (p q : Pool) (os : List Operand) (temps : ℕ) (ds : List Bool) (near : Around) (s : State) (b : Block) (a : Arm)
    → AddsCase p q a.number b → q.failed ≡ false → SaysIn q b a.body → PartsTell p (opened p) os temps ds near s → PartsTell q (opened q) os temps ds near (with_arm a s)
parts_arm p q os temps ds near s b a c l h t =
    let g : Later p q = from_here p q c.0 l in
    let o = c.1 q (itself q l) in
    let x : Case = record { number = a.number; body = b } in
    let r : x ∷ reverse (opened p).arms ≡ reverse (opened q).arms = sym (rev_push (opened p).arms (opened q).arms x (ap (λ (z : Opened). z.arms) o)) in
    record {
      first = stands_later g t.first;
      lines = subst (λ (xs : List Stmt). LinesAre q (reverse xs) s.lines) (sym (ap (λ (z : Opened). z.lines) o)) (lines_later g t.lines);
      items = items_kept g (opened p).rest (opened q).rest s.items (ap (λ (z : Opened). z.rest) o) t.items;
      arms = subst (λ (xs : List Case). ArmsAre q xs (a ∷ s.arms)) r (more_arms (record { number = refl; body = h }) (arms_later g t.arms));
      stack = values_later g t.stack;
      temps_are = t.temps_are;
      declared_are = t.declared_are;
      around_is = t.around_is;
    }

-- the cases since a mark are those of a `switch`
pub parts_cased : (p q : Pool) (os : List Operand) (temps : ℕ) (ds : List Bool) (near : Around) (s : State) (mark : ℕ) (b : Cases) (inner base : List Arm)
    → s.arms ≡ inner ++ base → mark ≡ length base → ClosesCases p q mark b → q.failed ≡ false → PartsTell p (opened p) os temps ds near s
    → SaysSwitch q b None (cases_tree inner script.no_cases) × PartsTell q (opened q) os temps ds near (with_arms_of base s)
parts_cased p q os temps ds near s mark b inner base e m c l t =
    let g : Later p q = from_here p q c.0 l in
    let r = arms_split p inner base (reverse (opened p).arms) (subst (λ (ls : List Arm). ArmsAre p (reverse (opened p).arms) ls) e t.arms) in
    let parts : (opened p).arms ≡ reverse r.1 ++ reverse r.0 = sym (reverse-reverse (opened p).arms) ∙ ap reverse r.2 ∙ reverse-append r.0 r.1 in
    let long : mark ≡ length (reverse r.1) = m ∙ sym (arms_length r.4) ∙ sym (length-reverse r.1) in
    let closed = c.1 q (itself q l) (reverse r.1) (reverse r.0) parts long in
    let left : r.1 ≡ reverse (opened q).arms = sym (reverse-reverse r.1) ∙ ap (λ (z : Opened). reverse z.arms) (sym closed.0) in
    let a = subst (λ (ys : List Case). AllCases q script.no_cases ys (cases_tree inner script.no_cases)) (append-nil (reverse r.0)) (arms_say (arms_later g r.3) [] script.no_cases say.no_case) in (
      say.bare closed.1 a,
      record {
        first = stands_later g t.first;
        lines = subst (λ (xs : List Stmt). LinesAre q (reverse xs) s.lines) (sym (ap (λ (z : Opened). z.lines) closed.0)) (lines_later g t.lines);
        items = items_kept g (opened p).rest (opened q).rest s.items (ap (λ (z : Opened). z.rest) closed.0) t.items;
        arms = subst (λ (xs : List Case). ArmsAre q xs base) left (arms_later g r.4);
        stack = values_later g t.stack;
        temps_are = t.temps_are;
        declared_are = t.declared_are;
        around_is = t.around_is;
      },
    )

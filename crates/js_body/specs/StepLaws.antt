-- What a step does to what the parts of a body tell.
use Rattle.std.proofs.Common.{◌≡◌, ℕ, suc, List, [], ◌∷◌, ◌++◌, reverse, length, Bool, true, false, if◌then◌else◌, refl, sym, ap, ◌∙◌, subst, true≢false}
use Rattle.std.proofs.lemmas.List.{reverse-append, length-reverse}
use Rattle.js_tree.specs.Script.{Expr}
use Rattle.js_pool.specs.Stands.{Stands, Later, Grows, Keeps, Opened, opened}
use Rattle.js_pool.specs.Says.{AddsLine}
use Rattle.js_pool.specs.declared.node.Case.{Case}
use Rattle.js_pool.specs.declared.node.ExprId.{ExprId}
use Rattle.js_pool.specs.declared.node.Stmt.{Stmt}
use Rattle.js_pool.specs.declared.pool.Pool.{Pool}
use Rattle.js_body.specs.declared.body.Operand.{Operand}
use Rattle.js_body.specs.State.{State, Around, Arm, Value, Line, no_value, first_value, rest_of, with_line, pushed_value, last_value, popped}
use Rattle.js_body.specs.Tells.{PartsTell, LineIs, declared, assigned, said, LinesAre, no_line, more_lines, ItemsAre, no_item, more_items, ArmIs, ArmsAre, no_arm, more_arms, ValueIs, ValuesAre, no_values, more_values}
use Rattle.js_body.specs.Later.{itself, stands_later, says_later, says_in_later}

-- where memory ran out nothing comes later
pub fails : (p q : Pool) → q.failed ≡ true → Grows p q
unfolding Later
fails p q e end g = absurd (true≢false (sym e ∙ g.sound))

pub no_more : (q : Pool) → q.failed ≡ true → q.failed ≡ false → ⊥
no_more q e l = true≢false (sym e ∙ l)

pub earlier : (p q : Pool) → Grows p q → q.failed ≡ false → p.failed ≡ false
unfolding Later
earlier p q g l = (g q (itself q l)).sound

pub from_here : (p q : Pool) → Grows p q → q.failed ≡ false → Later p q
from_here p q g l = g q (itself q l)

pub line_later : {p q : Pool} → Later p q → {x : Stmt} {l : Line} → LineIs p x l → LineIs q x l
line_later g (declared a) = declared (stands_later g a)
line_later g (assigned a) = assigned (stands_later g a)
line_later g (said e s) = said e (says_later g s)

pub lines_later : {p q : Pool} → Later p q → {xs : List Stmt} {ls : List Line} → LinesAre p xs ls → LinesAre q xs ls
lines_later g no_line = no_line
lines_later g (more_lines h t) = more_lines (line_later g h) (lines_later g t)

pub value_later : {p q : Pool} → Later p q → {o : Operand} {v : Value} → ValueIs p o v → ValueIs q o v
value_later g h = record { stands = stands_later g h.stands; known = h.known }

pub values_later : {p q : Pool} → Later p q → {os : List Operand} {vs : List Value} → ValuesAre p os vs → ValuesAre q os vs
values_later g no_values = no_values
values_later g (more_values h t) = more_values (value_later g h) (values_later g t)

pub rev_push : {A : Type 0} (xs ys : List A) (x : A) → ys ≡ xs ++ x ∷ [] → reverse ys ≡ x ∷ reverse xs
rev_push xs ys x e = ap reverse e ∙ reverse-append xs (x ∷ [])

pub items_later : {p q : Pool} → Later p q → {es : List ExprId} {ts : List Expr} → ItemsAre p es ts → ItemsAre q es ts
items_later g no_item = no_item
items_later g (more_items h t) = more_items (stands_later g h) (items_later g t)

arm_later : {p q : Pool} → Later p q → {c : Case} {a : Arm} → ArmIs p c a → ArmIs q c a
arm_later g h = record { number = h.number; body = says_in_later g h.body }

pub arms_later : {p q : Pool} → Later p q → {cs : List Case} {bs : List Arm} → ArmsAre p cs bs → ArmsAre q cs bs
arms_later g no_arm = no_arm
arms_later g (more_arms h t) = more_arms (arm_later g h) (arms_later g t)

-- expressions and cases of open lists that are what they were
pub items_kept : {p q : Pool} → Later p q → (es fs : List ExprId) (ts : List Expr) → fs ≡ es → ItemsAre p (reverse es) ts → ItemsAre q (reverse fs) ts
items_kept {p} {q} g es fs ts e h = subst (λ (zs : List ExprId). ItemsAre q (reverse zs) ts) (sym e) (items_later g h)

pub arms_kept : {p q : Pool} → Later p q → (cs ds : List Case) (bs : List Arm) → ds ≡ cs → ArmsAre p (reverse cs) bs → ArmsAre q (reverse ds) bs
arms_kept {p} {q} g cs ds bs e h = subst (λ (zs : List Case). ArmsAre q (reverse zs) bs) (sym e) (arms_later g h)

module _ (p q : Pool) (os : List Operand) (temps : ℕ) (ds : List Bool) (near : Around) (s : State) where
  pub parts_later : (o : Opened) → Later p q → PartsTell p o os temps ds near s → PartsTell q o os temps ds near s
  parts_later o g t = record {
    first = stands_later g t.first;
    lines = lines_later g t.lines;
    items = items_later g t.items;
    arms = arms_later g t.arms;
    stack = values_later g t.stack;
    temps_are = t.temps_are;
    declared_are = t.declared_are;
    around_is = t.around_is;
  }

  -- nothing but expressions was added
  pub parts_kept : Keeps p q → q.failed ≡ false → PartsTell p (opened p) os temps ds near s → PartsTell q (opened q) os temps ds near s
  parts_kept k l t = subst (λ (o : Opened). PartsTell q o os temps ds near s) (sym k.1) (parts_later (opened p) (from_here p q k.0 l) t)

  -- one more statement
  pub parts_line : (x : Stmt) (l : Line) → AddsLine p q x → q.failed ≡ false → LineIs q x l → PartsTell p (opened p) os temps ds near s → PartsTell q (opened q) os temps ds near (with_line l s)
  parts_line x l a e h t =
      let g : Later p q = from_here p q a.0 e in
      let o : (opened q).lines ≡ (opened p).lines ++ x ∷ [] = ap (λ (z : Opened). z.lines) (a.1 q (itself q e)) in
      let r : x ∷ reverse (opened p).lines ≡ reverse (opened q).lines = sym (rev_push (opened p).lines (opened q).lines x o) in
      record {
        first = stands_later g t.first;
        lines = subst (λ (xs : List Stmt). LinesAre q xs (l ∷ s.lines)) r (more_lines h (lines_later g t.lines));
        items = items_kept g (opened p).rest (opened q).rest s.items (ap (λ (z : Opened). z.rest) (a.1 q (itself q e))) t.items;
        arms = arms_kept g (opened p).arms (opened q).arms s.arms (ap (λ (z : Opened). z.arms) (a.1 q (itself q e))) t.arms;
        stack = values_later g t.stack;
        temps_are = t.temps_are;
        declared_are = t.declared_are;
        around_is = t.around_is;
      }

-- one builder after another
pub keeps_then : (p m q : Pool) → Keeps p m → Keeps m q → Keeps p q
keeps_then p m q k h = (λ end g. k.0 end (h.0 end g), h.1 ∙ k.1)

-- one more value
pub parts_value : (p : Pool) (o : Opened) (os xs : List Operand) (temps : ℕ) (ds : List Bool) (near : Around) (s : State) (x : Operand) (v : Value)
    → xs ≡ os ++ x ∷ [] → ValueIs p x v → PartsTell p o os temps ds near s → PartsTell p o xs temps ds near (pushed_value v s)
parts_value p o os xs temps ds near s x v e h t = record {
  first = t.first;
  lines = t.lines;
  items = t.items;
  arms = t.arms;
  stack = subst (λ (zs : List Operand). ValuesAre p zs (v ∷ s.stack)) (sym (rev_push os xs x e)) (more_values h t.stack);
  temps_are = t.temps_are;
  declared_are = t.declared_are;
  around_is = t.around_is;
}

top_value : (p : Pool) (o : Operand) (os : List Operand) (vs : List Value) → ValuesAre p (o ∷ os) vs → ValueIs p o (first_value vs) × ValuesAre p os (rest_of vs)
top_value p o os _ (more_values h t) = (h, t)

no_top : (p : Pool) (vs : List Value) → ValuesAre p [] vs → (first_value vs ≡ no_value) × ValuesAre p [] (rest_of vs)
no_top p _ no_values = (refl, no_values)

-- one value less
pub parts_popped : (p : Pool) (o : Opened) (os xs : List Operand) (temps : ℕ) (ds : List Bool) (near : Around) (s : State) (x : Operand)
    → os ≡ xs ++ x ∷ [] → PartsTell p o os temps ds near s → ValueIs p x (last_value s) × PartsTell p o xs temps ds near (popped s)
parts_popped p o os xs temps ds near s x e t =
    let h : ValueIs p x (first_value s.stack) × ValuesAre p (reverse xs) (rest_of s.stack) = top_value p x (reverse xs) s.stack (subst (λ (zs : List Operand). ValuesAre p zs s.stack) (rev_push xs os x e) t.stack) in (
      h.0,
      record {
        first = t.first;
        lines = t.lines;
        items = t.items;
        arms = t.arms;
        stack = h.1;
        temps_are = t.temps_are;
        declared_are = t.declared_are;
        around_is = t.around_is;
      },
    )

-- none is left
pub parts_empty : (p : Pool) (o : Opened) (os xs : List Operand) (temps : ℕ) (ds : List Bool) (near : Around) (s : State) (x : Operand)
    → os ≡ [] → xs ≡ [] → x.e ≡ record { 0 = 0 } → x.known ≡ no_value.known → PartsTell p o os temps ds near s → ValueIs p x (last_value s) × PartsTell p o xs temps ds near (popped s)
parts_empty p o os xs temps ds near s x e f i k t =
    let h : (first_value s.stack ≡ no_value) × ValuesAre p [] (rest_of s.stack) = no_top p s.stack (subst (λ (zs : List Operand). ValuesAre p (reverse zs) s.stack) e t.stack) in (
      subst (λ (v : Value). ValueIs p x v) (sym h.0) (record { stands = subst (λ (a : ExprId). Stands p a no_value.tree) (sym i) t.first; known = k }),
      record {
        first = t.first;
        lines = t.lines;
        items = t.items;
        arms = t.arms;
        stack = subst (λ (zs : List Operand). ValuesAre p (reverse zs) (rest_of s.stack)) (sym f) h.1;
        temps_are = t.temps_are;
        declared_are = t.declared_are;
        around_is = t.around_is;
      },
    )

pub values_length : {p : Pool} {os : List Operand} {vs : List Value} → ValuesAre p os vs → length os ≡ length vs
values_length no_values = refl
values_length (more_values h t) = ap suc (values_length t)

pub if_true : {A : Type 0} (b : Bool) (x y : A) → b ≡ true → x ≡ (if b then x else y)
if_true true x y e = refl
if_true false x y e = absurd (true≢false (sym e))

pub if_false : {A : Type 0} (b : Bool) (x y : A) → b ≡ false → y ≡ (if b then x else y)
if_false true x y e = absurd (true≢false e)
if_false false x y e = refl

module _ (p : Pool) (o : Opened) (os : List Operand) (temps : ℕ) (ds : List Bool) (near : Around) (s : State) where
  pub parts_same : (s' : State) → s ≡ s' → PartsTell p o os temps ds near s → PartsTell p o os temps ds near s'
  parts_same s' e t = subst (λ (z : State). PartsTell p o os temps ds near z) e t

  pub parts_depth : PartsTell p o os temps ds near s → length os ≡ length s.stack
  parts_depth t = sym (length-reverse os) ∙ values_length t.stack

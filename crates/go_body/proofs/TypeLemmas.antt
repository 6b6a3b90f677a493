-- Types that a specification declares.
use Rattle.std.proofs.Common.{arith, ◌≡◌, ◌<◌, ◌≤◌, ◌∙◌, sym, ap, subst, List, [], ◌∷◌, ◌++◌, append_assoc, map, length, Bool, true, false}
use Rattle.std.specs.Prelude.{Option, Some, None, option_map, if◌then◌else◌}
use Rattle.std.proofs.lemmas.List.{append-nil}
use Rattle.gj_base.specs.declared.place.Place.{Place}
use Rattle.go_syntax.specs.Tree as t
use Rattle.go_syntax.specs.declared.tree.Name.{Name}
use Rattle.go_type.specs.Tree.{Ty}
use Rattle.go_type.specs.Levels.{tree_of}
use Rattle.go_type.specs.Named.{IsUnnamed}
use Rattle.go_type.specs.Table.{places, size, KeepsTrees}
use Rattle.go_type.specs.declared.types.TypeId.{TypeId}
use Rattle.go_type.specs.declared.table.TypeTable.{TypeTable}
use Rattle.go_core.specs.CoreView.{stmt_view}
use Rattle.go_core.specs.declared.statement.CoreStmt.{CoreStmt}
use Rattle.go_typing.specs.Answer as typing
use Rattle.go_typing.specs.Answer.{flaw}
use Rattle.go_typing.specs.Env.{Bind, is_blank, unknown}
use Rattle.go_typing.specs.Scopes as scopes
use Rattle.go_typing.specs.Scopes.{visible, last_scope, place_in}
use Rattle.go_operands.specs.EnvView.{table_of, env_of}
use Rattle.go_operands.specs.declared.scopes.env.Env.{Env}
use Rattle.go_calls.specs.Words.{types_of}
use Rattle.go_operands.specs.AnswerView.{flaw_view}
use Rattle.go_operands.specs.declared.answers.answer.Flaw.{Flaw}
use Rattle.go_typing.specs.Walk as go
use Rattle.go_typing.specs.Walk.{Did, faulty, is_there, redeclared, with_name, uses}
use Rattle.go_typing.specs.Expressions.{type_in, type_of}
use Rattle.go_typing.specs.Declare.{is_bare, declare_type, type_spec}
use Rattle.go_walk.specs.WalkView.{walk_of, depth, Keeps}
use Rattle.go_walk.specs.declared.walk.walk.Walk.{Walk}
use Rattle.go_assign.specs.Outcome.{Does}
use Rattle.go_assign.specs.Moves.{Moves, Stays}
use Rattle.go_assign.specs.SpecView.{TypeBelow}

-- ---- what is told

pub told_then : (fs gs : List typing.Flaw) (f0 f1 : List Flaw) → fs ≡ gs → map flaw_view f1 ≡ map flaw_view f0 ++ fs → map flaw_view f1 ≡ map flaw_view f0 ++ gs
told_then fs gs f0 f1 p h = h ∙ ap (λ (x : List typing.Flaw). map flaw_view f0 ++ x) p

-- ---- the name

pub unnamed_by : (u v : Ty) → u ≡ v → IsUnnamed u → IsUnnamed v
unnamed_by u v p h = subst IsUnnamed p h

pub alias_value : (n : Name) (b : Bool) (u : Ty) (v w : go.Walk) → b ≡ true → v ≡ declare_type n true (Some u) w → v ≡ declare_type n b (Some u) w
alias_value n b u v w p h = h ∙ ap (λ (c : Bool). declare_type n c (Some u) w) (sym p)

pub type_value : (n : Name) (b : Bool) (u : Ty) (v w : go.Walk) → b ≡ false → v ≡ declare_type n false (Some u) w → v ≡ declare_type n b (Some u) w
type_value n b u v w p h = h ∙ ap (λ (c : Bool). declare_type n c (Some u) w) (sym p)

abbrev tree_at : TypeId → TypeTable → Ty
tree_at i x = tree_of (places x) i

pub kept_same : (a b : TypeTable) → b ≡ a → KeepsTrees a b
kept_same a b p = λ i l. ap (tree_at i) p

pub counts_same : (a b : TypeTable) → b ≡ a → size a ≤ size b
counts_same a b p = let s : size b ≡ size a = ap size p in omega (arith, s)

pub some_value : (n : Name) (alias : Bool) (ts : List Ty) (o : Option TypeId) (i : TypeId) (v w : go.Walk) → o ≡ Some i → v ≡ declare_type n alias (Some (tree_of ts i)) w → v ≡ declare_type n alias (option_map (tree_of ts) o) w
some_value n alias ts o i v w p h = h ∙ ap (λ (x : Option TypeId). declare_type n alias (option_map (tree_of ts) x) w) (sym p)

pub none_value : (n : Name) (alias : Bool) (ts : List Ty) (o : Option TypeId) (v w : go.Walk) → o ≡ None → v ≡ with_name n unknown w → v ≡ declare_type n alias (option_map (tree_of ts) o) w
none_value n alias ts o v w p h = h ∙ ap (λ (x : Option TypeId). declare_type n alias (option_map (tree_of ts) x) w) (sym p)

-- ---- the scopes before it

abbrev there_in : Name → List (List Bind) → Option Place
there_in n ss = if is_blank n.text then None else place_in n.text (last_scope ss)

pub there_still : (n : Name) (a b c : Walk) → Stays a b → c.env ≡ b.env → ((ts : List Ty) → is_there n (walk_of ts a) ≡ None) → (ts : List Ty) → is_there n (walk_of ts c) ≡ None
there_still n a b c s p h ts = ap (λ (e : scopes.Env). there_in n (visible e)) (ap env_of p ∙ s.grows.env) ∙ h ts

pub below_still : (o : Option TypeId) (b c : Walk) → c.env ≡ b.env → TypeBelow (size (table_of b.env)) o → TypeBelow (size (table_of c.env)) o
below_still o b c p h = subst (λ (e : Env). TypeBelow (size (table_of e)) o) (sym p) h

pub depth_still : (a b c : Walk) → Stays a b → c.env ≡ b.env → 0 < depth a → 0 < depth c
depth_still a b c s p h = let d : depth c ≡ depth a = ap (λ (e : scopes.Env). length e.blocks) (ap env_of p ∙ s.grows.env) in omega (arith, d, h)

-- ---- what a specification does

-- a name that the scope has
pub again_does : (n : Name) (alias : Bool) (e : t.Expr) (at : Place) (a b c : Walk) (f0 f1 f2 : List Flaw) (o : List CoreStmt) → map flaw_view f1 ≡ map flaw_view f0 ++ redeclared n (Some at) → ((us : List Ty) → map flaw_view f2 ≡ map flaw_view f1 ++ (type_in (walk_of us a) e).flaws)
    → Stays a b → Moves (uses e) b c → Does (type_spec n alias e (Some at)) a c f0 f2 o o
again_does n alias e at a b c f0 f1 f2 o t h s m = record {
  told = λ ts l.
      h ts ∙ ap (λ (fs : List typing.Flaw). fs ++ (type_in (walk_of ts a) e).flaws) t ∙ append_assoc (map flaw_view f0) (redeclared n (Some at)) (type_in (walk_of ts a) e).flaws;
  core = λ ts l. sym (append-nil (map (stmt_view ts) o));
  walk = λ ts l. m.walk ts l ∙ ap (uses e) (s.walk ts);
  depth = m.depth ∙ ap (λ (x : scopes.Env). length x.blocks) s.grows.env;
  kept = λ i l. m.kept i (below i l) ∙ s.grows.kept i l;
  counts = let x = m.counts in let y = s.grows.counts in omega (arith, x, y);
}
  where
    below : (i : TypeId) → i.0 < size (table_of a.env) → i.0 < size (table_of b.env)
    below i l = let y = s.grows.counts in omega (arith, y, l)

abbrev choice : (d e : go.Walk → Did) → Bool → go.Walk → Did
choice d e c w = if c then d w else e w

abbrev itself : Name → t.Expr → go.Walk → Did
itself n e w = faulty (flaw n.place 74 ∷ []) (uses e (with_name n unknown w))

abbrev other : Name → Bool → t.Expr → go.Walk → Did
other n alias e w = faulty (type_in w e).flaws (declare_type n alias (type_of (type_in w e).answer) (uses e w))

-- a type that needs itself
pub bare_does : (n : Name) (alias : Bool) (e : t.Expr) (a b c : Walk) (f0 f1 : List Flaw) (o : List CoreStmt) → is_bare n.text e ≡ true → ((ts : List Ty) → walk_of ts b ≡ with_name n unknown (walk_of ts a)) → depth b ≡ depth a → table_of b.env ≡ table_of a.env
    → Moves (uses e) b c → map flaw_view f1 ≡ map flaw_view f0 ++ flaw n.place 74 ∷ [] → Does (type_spec n alias e None) a c f0 f1 o o
bare_does n alias e a b c f0 f1 o p w d x m t =
    subst (λ (q : Bool). Does (choice (itself n e) (other n alias e) q) a c f0 f1 o o) (sym p)
    (record {
      told = λ ts l. t;
      core = λ ts l. sym (append-nil (map (stmt_view ts) o));
      walk = λ ts l. m.walk ts l ∙ ap (uses e) (w ts);
      depth = m.depth ∙ d;
      kept = λ i l. m.kept i (below i l) ∙ ap (tree_at i) x;
      counts = let s : size (table_of b.env) ≡ size (table_of a.env) = ap size x in let y = m.counts in omega (arith, s, y);
    })
  where
    below : (i : TypeId) → i.0 < size (table_of a.env) → i.0 < size (table_of b.env)
    below i l = let s : size (table_of b.env) ≡ size (table_of a.env) = ap size x in omega (arith, s, l)

abbrev type_at : Option TypeId → Env → Option Ty
type_at o e = option_map (tree_of (types_of e)) o

-- a type of its own
pub new_does : (n : Name) (alias : Bool) (e : t.Expr) (i : Option TypeId) (a b c d : Walk) (f0 f1 : List Flaw) (o : List CoreStmt) → is_bare n.text e ≡ false → ((us : List Ty) → option_map (tree_of (types_of b.env)) i ≡ type_of (type_in (walk_of us a) e).answer)
    → ((us : List Ty) → map flaw_view f1 ≡ map flaw_view f0 ++ (type_in (walk_of us a) e).flaws) → Stays a b → Moves (uses e) b c → c.env ≡ b.env → ((ts : List Ty) → walk_of ts d ≡ declare_type n alias (option_map (tree_of (types_of c.env)) i) (walk_of ts c)) → depth d ≡ depth c
    → KeepsTrees (table_of c.env) (table_of d.env) → size (table_of c.env) ≤ size (table_of d.env) → Does (type_spec n alias e None) a d f0 f1 o o
new_does n alias e i a b c d f0 f1 o p ty t s m x w q k z =
    subst (λ (v : Bool). Does (choice (itself n e) (other n alias e) v) a d f0 f1 o o) (sym p)
    (record {
      told = λ ts l. t ts;
      core = λ ts l. sym (append-nil (map (stmt_view ts) o));
      walk = λ ts l.
          w ts ∙ ap (λ (u : Option Ty). declare_type n alias u (walk_of ts c)) (ap (type_at i) x ∙ ty ts)
          ∙ ap (declare_type n alias (type_of (type_in (walk_of ts a) e).answer)) (m.walk ts (back ts l) ∙ ap (uses e) (s.walk ts));
      depth = q ∙ m.depth ∙ ap (λ (v : scopes.Env). length v.blocks) s.grows.env;
      kept = λ j l. k j (in_c j (in_b j l)) ∙ m.kept j (in_b j l) ∙ s.grows.kept j l;
      counts = let g = s.grows.counts in let h = m.counts in omega (arith, g, h, z);
    })
  where
    in_b : (j : TypeId) → j.0 < size (table_of a.env) → j.0 < size (table_of b.env)
    in_b j l = let g = s.grows.counts in omega (arith, g, l)

    in_c : (j : TypeId) → j.0 < size (table_of b.env) → j.0 < size (table_of c.env)
    in_c j l = let g = m.counts in omega (arith, g, l)

    back : (ts : List Ty) → Keeps (table_of d.env) ts → Keeps (table_of c.env) ts
    back ts h = λ j l. h j (let g = z in omega (arith, g, l)) ∙ k j l

-- ---- by the name

pub spec_again : (n : Name) (alias : Bool) (e : t.Expr) (at : Place) (a b : Walk) (f0 f1 : List Flaw) (o : List CoreStmt) → ((ts : List Ty) → Some at ≡ is_there n (walk_of ts a)) → Does (type_spec n alias e (Some at)) a b f0 f1 o o
    → Does (λ w. type_spec n alias e (is_there n w) w) a b f0 f1 o o
spec_again n alias e at a b f0 f1 o p h = record {
  told = λ ts l. h.told ts l ∙ ap (λ (x : Option Place). map flaw_view f0 ++ (type_spec n alias e x (walk_of ts a)).flaws) (p ts);
  core = λ ts l. h.core ts l ∙ ap (λ (x : Option Place). map (stmt_view ts) o ++ (type_spec n alias e x (walk_of ts a)).core) (p ts);
  walk = λ ts l. h.walk ts l ∙ ap (λ (x : Option Place). (type_spec n alias e x (walk_of ts a)).walk) (p ts);
  depth = h.depth;
  kept = h.kept;
  counts = h.counts;
}

pub spec_first : (n : Name) (alias : Bool) (e : t.Expr) (a b : Walk) (f0 f1 : List Flaw) (o : List CoreStmt) → ((ts : List Ty) → None ≡ is_there n (walk_of ts a)) → Does (type_spec n alias e None) a b f0 f1 o o → Does (λ w. type_spec n alias e (is_there n w) w) a b f0 f1 o o
spec_first n alias e a b f0 f1 o p h = record {
  told = λ ts l. h.told ts l ∙ ap (λ (x : Option Place). map flaw_view f0 ++ (type_spec n alias e x (walk_of ts a)).flaws) (p ts);
  core = λ ts l. h.core ts l ∙ ap (λ (x : Option Place). map (stmt_view ts) o ++ (type_spec n alias e x (walk_of ts a)).core) (p ts);
  walk = λ ts l. h.walk ts l ∙ ap (λ (x : Option Place). (type_spec n alias e x (walk_of ts a)).walk) (p ts);
  depth = h.depth;
  kept = h.kept;
  counts = h.counts;
}

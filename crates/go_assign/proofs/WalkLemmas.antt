-- A walk that moves or stays, and what was typed in it.
use Rattle.std.proofs.Common.{arith, ◌≡◌, ℕ, ◌<◌, ◌≤◌, ◌∙◌, refl, ap, List, map, length}
use Rattle.gj_base.specs.declared.place.Place.{Place}
use Rattle.go_syntax.specs.Tree as t
use Rattle.go_syntax.specs.declared.tree.Name.{Name}
use Rattle.go_type.specs.Tree.{Ty}
use Rattle.go_type.specs.Named.{NamedTy}
use Rattle.go_type.specs.Levels.{tree_of}
use Rattle.go_type.specs.Table.{places, size, KeepsTrees}
use Rattle.go_type.specs.declared.types.TypeId.{TypeId}
use Rattle.go_type.specs.declared.table.TypeTable.{TypeTable}
use Rattle.go_core.specs.CoreTree as core
use Rattle.go_core.specs.CoreView.{var_of}
use Rattle.go_typing.specs.Env.{Bind}
use Rattle.go_typing.specs.Scopes as scopes
use Rattle.go_typing.specs.Scopes.{visible}
use Rattle.go_operands.specs.declared.scopes.env.Env.{Env}
use Rattle.go_operands.specs.EnvView.{table_of, env_of}
use Rattle.go_calls.specs.Words.{names_of, scopes_of}
use Rattle.go_typing.specs.Walk as go
use Rattle.go_walk.specs.WalkView.{walk_of, depth, Keeps}
use Rattle.go_walk.specs.declared.walk.walk.Walk.{Walk}
use Rattle.go_expr.specs.Raw.{Raw, raw_of, raws_of, Grows}
use Rattle.go_assign.specs.Moves.{Moves, Stays}

-- what has the trees of a table has those of the table that it grew from
pub keeps_back : (a b : TypeTable) → KeepsTrees a b → size a ≤ size b → (ts : List Ty) → Keeps b ts → Keeps a ts
keeps_back a b k s ts h = λ i l. h i (below i l) ∙ k i l
  where
    below : (i : TypeId) → i.0 < size a → i.0 < size b
    below i l = omega (arith, s, l)

abbrev tree_at : TypeId → TypeTable → Ty
tree_at i table = tree_of (places table) i

-- ---- an environment with more types

pub names_grown : (a b : Env) → Grows a b → names_of b ≡ names_of a
names_grown a b g = ap (λ (e : scopes.Env). e.named_types) g.env

pub scopes_grown : (a b : Env) → Grows a b → scopes_of b ≡ scopes_of a
scopes_grown a b g = ap visible g.env

pub depth_grown : (a b : Env) → Grows a b → length (env_of b).blocks ≡ length (env_of a).blocks
depth_grown a b g = ap (λ (e : scopes.Env). length e.blocks) g.env

pub grows_not : (e : Env) → Grows e e
grows_not e = record { env = refl; kept = λ i h. refl; counts = omega arith }

pub grows_on : (a b c : Env) → Grows a b → Grows b c → Grows a c
grows_on a b c h k = record {
  env = k.env ∙ h.env;
  kept = λ i l. k.kept i (below i l) ∙ h.kept i l;
  counts = let p = h.counts in let q = k.counts in omega (arith, p, q);
}
  where
    below : (i : TypeId) → i.0 < size (table_of a) → i.0 < size (table_of b)
    below i l = let p = h.counts in omega (arith, p, l)

-- what was typed in it was typed in the one before
pub raw_grown : (a b : Env) (r : Raw) (e : t.Expr) → Grows a b → r ≡ raw_of (names_of b) (scopes_of b) e → r ≡ raw_of (names_of a) (scopes_of a) e
raw_grown a b r e g h = h ∙ ap (λ (ns : List NamedTy). raw_of ns (scopes_of b) e) (names_grown a b g) ∙ ap (λ (ss : List (List Bind)). raw_of (names_of a) ss e) (scopes_grown a b g)

pub raws_grown : (a b : Env) (rs : List Raw) (es : List t.Expr) → Grows a b → rs ≡ raws_of (names_of b) (scopes_of b) es → rs ≡ raws_of (names_of a) (scopes_of a) es
raws_grown a b rs es g h = h ∙ ap (λ (ns : List NamedTy). raws_of ns (scopes_of b) es) (names_grown a b g) ∙ ap (λ (ss : List (List Bind)). raws_of (names_of a) ss es) (scopes_grown a b g)

-- ---- a walk that stays

abbrev made : List NamedTy → List (List Bind) → ℕ → ℕ → List core.Var → List Name → List Place → ℕ → go.Walk
made ns ss n l vs ds us c = record { names = ns; scopes = ss; next = n; next_label = l; vars = vs; declared = ds; used = us; lost = c }

same_outside : (ns ms : List NamedTy) (ss rs : List (List Bind)) (n l : ℕ) (vs : List core.Var) (ds : List Name) (us : List Place) (c : ℕ) → ns ≡ ms → ss ≡ rs → made ns ss n l vs ds us c ≡ made ms rs n l vs ds us c
same_outside ns ms ss rs n l vs ds us c p q = ap (λ (xs : List NamedTy). made xs ss n l vs ds us c) p ∙ ap (λ (ys : List (List Bind)). made ms ys n l vs ds us c) q

-- more types alone
pub stays_grown : (w : Walk) (e : Env) → Grows w.env e → Stays w (record w { env = e })
stays_grown w e g = record {
  grows = g;
  walk = λ ts. same_outside (names_of e) (names_of w.env) (scopes_of e) (scopes_of w.env) w.next w.next_label (map (var_of ts) w.vars.items) w.declared.items w.used.items w.lost (names_grown w.env e g) (scopes_grown w.env e g);
}

pub stays_on : (a b c : Walk) → Stays a b → Stays b c → Stays a c
stays_on a b c h k = record { grows = grows_on a.env b.env c.env h.grows k.grows; walk = λ ts. k.walk ts ∙ h.walk ts }

-- ---- a walk that moves

pub moves_stays : (a b : Walk) → Stays a b → Moves (λ w. w) a b
moves_stays a b h = record {
  walk = λ ts l. h.walk ts;
  depth = depth_grown a.env b.env h.grows;
  kept = h.grows.kept;
  counts = h.grows.counts;
}

-- the environment is the same
pub moves_from : (f : go.Walk → go.Walk) (a b : Walk) → b.env ≡ a.env → ((ts : List Ty) → walk_of ts b ≡ f (walk_of ts a)) → Moves f a b
moves_from f a b e h = record {
  walk = λ ts l. h ts;
  depth = ap (λ (x : Env). length (env_of x).blocks) e;
  kept = λ i l. ap (λ (x : Env). tree_at i (table_of x)) e;
  counts = let s : size (table_of b.env) ≡ size (table_of a.env) = ap (λ (x : Env). size (table_of x)) e in omega (arith, s);
}

pub moves_not : (a : Walk) → Moves (λ w. w) a a
moves_not a = record { walk = λ ts l. refl; depth = refl; kept = λ i l. refl; counts = omega arith }

pub moves_on : (f g : go.Walk → go.Walk) (a b c : Walk) → Moves f a b → Moves g b c → Moves (λ w. g (f w)) a c
moves_on f g a b c h k = record {
  walk = λ ts l. k.walk ts l ∙ ap g (h.walk ts (keeps_back (table_of b.env) (table_of c.env) k.kept k.counts ts l));
  depth = k.depth ∙ h.depth;
  kept = λ i l. k.kept i (below i l) ∙ h.kept i l;
  counts = let p = h.counts in let q = k.counts in omega (arith, p, q);
}
  where
    below : (i : TypeId) → i.0 < size (table_of a.env) → i.0 < size (table_of b.env)
    below i l = let p = h.counts in omega (arith, p, l)

-- a table that is the same
pub moves_in : (f : go.Walk → go.Walk) (a b : Walk) → table_of b.env ≡ table_of a.env → depth b ≡ depth a → ((ts : List Ty) → Keeps (table_of a.env) ts → walk_of ts b ≡ f (walk_of ts a)) → Moves f a b
moves_in f a b e d h = record {
  walk = λ ts l. h ts (λ i s. l i (below i s) ∙ ap (tree_at i) e);
  depth = d;
  kept = λ i l. ap (tree_at i) e;
  counts = let s : size (table_of b.env) ≡ size (table_of a.env) = ap size e in omega (arith, s);
}
  where
    below : (i : TypeId) → i.0 < size (table_of a.env) → i.0 < size (table_of b.env)
    below i l = let s : size (table_of b.env) ≡ size (table_of a.env) = ap size e in omega (arith, s, l)

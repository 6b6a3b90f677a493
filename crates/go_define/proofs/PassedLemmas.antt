-- A walk whose environment has more types, and what was typed there.
use Rattle.std.proofs.Common.{arith, ◌≡◌, ◌<◌, ◌≤◌, ◌∙◌, ℕ, refl, sym, ap, subst, List, map}
use Rattle.gj_base.specs.declared.place.Place.{Place}
use Rattle.go_syntax.specs.Tree as t
use Rattle.go_syntax.specs.declared.tree.Name.{Name}
use Rattle.go_type.specs.Tree.{Ty}
use Rattle.go_type.specs.Named.{NamedTy}
use Rattle.go_type.specs.Table.{size, KeepsTrees}
use Rattle.go_type.specs.declared.types.TypeId.{TypeId}
use Rattle.go_type.specs.declared.table.TypeTable.{TypeTable}
use Rattle.go_core.specs.CoreTree as core
use Rattle.go_core.specs.CoreView.{var_of}
use Rattle.go_typing.specs.Env.{Bind}
use Rattle.go_typing.specs.Scopes as scopes
use Rattle.go_typing.specs.Scopes.{visible}
use Rattle.go_operands.specs.EnvView.{table_of, env_of}
use Rattle.go_operands.specs.declared.scopes.env.Env.{Env}
use Rattle.go_calls.specs.Words.{names_of, scopes_of}
use Rattle.go_typing.specs.Walk as go
use Rattle.go_walk.specs.WalkView.{walk_of, Keeps}
use Rattle.go_walk.specs.declared.walk.walk.Walk.{Walk}
use Rattle.go_expr.specs.Raw.{Raw, raw_of, raws_of, Grows}
use Rattle.go_assign.specs.Passed.{Passes, stays}

-- what has the trees of a table has those of the table that it grew from
pub keeps_back : (a b : TypeTable) → KeepsTrees a b → size a ≤ size b → (ts : List Ty) → Keeps b ts → Keeps a ts
keeps_back a b k s ts h = λ i l. h i (below i l) ∙ k i l
  where
    below : (i : TypeId) → i.0 < size a → i.0 < size b
    below i l = omega (arith, s, l)

-- ---- what was typed, in the names and scopes before

pub raw_kept : (a b : Env) (e : t.Expr) (r : Raw) → Grows a b → r ≡ raw_of (names_of b) (scopes_of b) e → r ≡ raw_of (names_of a) (scopes_of a) e
raw_kept a b e r g h = h ∙ ap (λ (v : scopes.Env). raw_of v.named_types (visible v) e) g.env

pub raw_before : (a m b : Env) (e : t.Expr) (r : Raw) → m ≡ a → Grows m b → r ≡ raw_of (names_of b) (scopes_of b) e → r ≡ raw_of (names_of a) (scopes_of a) e
raw_before a m b e r p g h = raw_kept m b e r g h ∙ ap (λ (v : Env). raw_of (names_of v) (scopes_of v) e) p

pub raws_before : (a m b : Env) (es : List t.Expr) (rs : List Raw) → m ≡ a → Grows m b → rs ≡ raws_of (names_of b) (scopes_of b) es → rs ≡ raws_of (names_of a) (scopes_of a) es
raws_before a m b es rs p g h = h ∙ ap (λ (v : scopes.Env). raws_of v.named_types (visible v) es) g.env ∙ ap (λ (v : Env). raws_of (names_of v) (scopes_of v) es) p

-- ---- the walk

abbrev made : scopes.Env → ℕ → ℕ → List core.Var → List Name → List Place → ℕ → go.Walk
made e n l vs ds us lost = record { names = e.named_types; scopes = visible e; next = n; next_label = l; vars = vs; declared = ds; used = us; lost = lost }

-- a walk with more types alone stands for the same
pub walk_grown : (ts : List Ty) (a b : Walk) → Grows a.env b.env → b.next ≡ a.next → b.next_label ≡ a.next_label → b.vars ≡ a.vars → b.declared ≡ a.declared → b.used ≡ a.used → b.lost ≡ a.lost → walk_of ts b ≡ walk_of ts a
walk_grown ts a b g n l v d u m = λ j. made (g.env j) (n j) (l j) (map (var_of ts) (v j).items) (d j).items (u j).items (m j)

pub passes_typed : (a b : Walk) → Grows a.env b.env → b.next ≡ a.next → b.next_label ≡ a.next_label → b.vars ≡ a.vars → b.declared ≡ a.declared → b.used ≡ a.used → b.lost ≡ a.lost → Passes stays a b
passes_typed a b g n l v d u m = record { walk = λ ts. walk_grown ts a b g n l v d u m; env = g.env; kept = g.kept; counts = g.counts }

pub passes_grown : (f : go.Walk → go.Walk) (a m b : Walk) → m.env ≡ a.env → ((ts : List Ty) → walk_of ts m ≡ f (walk_of ts a)) → Grows m.env b.env → b.next ≡ m.next → b.next_label ≡ m.next_label → b.vars ≡ m.vars → b.declared ≡ m.declared
    → b.used ≡ m.used → b.lost ≡ m.lost → Passes f a b
passes_grown f a m b p h g n l v d u lost = record {
  walk = λ ts. walk_grown ts m b g n l v d u lost ∙ h ts;
  env = g.env ∙ ap env_of p;
  kept = subst (λ (e : Env). KeepsTrees (table_of e) (table_of b.env)) p g.kept;
  counts = subst (λ (e : Env). size (table_of e) ≤ size (table_of b.env)) p g.counts;
}

-- the environment stays
pub passes_env : (f : go.Walk → go.Walk) (a b : Walk) → b.env ≡ a.env → ((ts : List Ty) → walk_of ts b ≡ f (walk_of ts a)) → Passes f a b
passes_env f a b p h = record {
  walk = h;
  env = ap env_of p;
  kept = subst (λ (e : Env). KeepsTrees (table_of a.env) (table_of e)) (sym p) (λ i l. refl);
  counts = subst (λ (e : Env). size (table_of a.env) ≤ size (table_of e)) (sym p) (omega arith);
}

pub passes_on : (f g : go.Walk → go.Walk) (a b c : Walk) → Passes f a b → Passes g b c → Passes (λ w. g (f w)) a c
passes_on f g a b c h k = record {
  walk = λ ts. k.walk ts ∙ ap g (h.walk ts);
  env = k.env ∙ h.env;
  kept = λ i l. k.kept i (below i l) ∙ h.kept i l;
  counts = let p = h.counts in let q = k.counts in omega (arith, p, q);
}
  where
    below : (i : TypeId) → i.0 < size (table_of a.env) → i.0 < size (table_of b.env)
    below i l = let p = h.counts in omega (arith, p, l)

pub passes_not : (a : Walk) → Passes stays a a
passes_not a = record { walk = λ ts. refl; env = refl; kept = λ i l. refl; counts = omega arith }

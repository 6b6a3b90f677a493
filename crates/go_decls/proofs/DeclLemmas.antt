-- What is told of declarations, one after the other.
use Rattle.std.proofs.Common.{◌≡◌, ◌<◌, ◌≤◌, ◌∙◌, ℕ, refl, sym, ap, subst, List, [], ◌++◌, append_assoc, rules}
use Rattle.std.specs.Prelude.{Option, Some, None}
use Rattle.go_type.specs.Levels.{tree_of}
use Rattle.go_type.specs.Named.{NamedTy}
use Rattle.go_type.specs.Table.{places, size}
use Rattle.go_type.specs.declared.table.TypeTable.{TypeTable}
use Rattle.go_typing.specs.Env.{Bind}
use Rattle.go_typing.specs.Scopes.{visible}
use Rattle.go_typing.specs.Declare.{counting}
use Rattle.go_walk.proofs.ScopeLemmas.{counts}
use Rattle.go_typing.specs.Scopes as scopes
use Rattle.go_syntax.specs.Tree as t
use Rattle.go_typing.specs.Told.{types_told}
use Rattle.go_typing.specs.Expressions.{type_in}
use Rattle.go_syntax.specs.View.{expr_view, type_spec_view}
use Rattle.go_syntax.specs.declared.tree.TypeSpec.{TypeSpec, out-TypeSpec, fold_out-TypeSpec}
use Rattle.go_typing.specs.Answer.{Flaw}
use Rattle.go_operands.specs.declared.scopes.env.Env.{Env}
use Rattle.go_operands.specs.EnvView.{table_of, env_of}
use Rattle.go_typing.specs.Walk.{Walk}
use Rattle.go_walk.specs.WalkView.{walk_outside}
use Rattle.go_expr.specs.Raw.{Grows}
use Rattle.go_assign.proofs.GrowLemmas.{grows_not, grows_on, same_walk}

-- What is told with what is left is what was told before with all: `told w rest` of what is left, by what is known in w.
pub record Goes {R : Type 0} (told : Walk → R → List Flaw) (a b : Env) (rest all : R) (before now : List Flaw) : Type 0 where
  pub told_so : now ++ told (walk_outside a) rest ≡ before ++ told (walk_outside a) all
  pub grows : Grows a b

pub goes_first : {R : Type 0} (told : Walk → R → List Flaw) (a : Env) (all : R) (fs : List Flaw) → Goes told a a all all fs fs
goes_first told a all fs = record { told_so = refl; grows = grows_not a }

pub goes_step : {R : Type 0} (told : Walk → R → List Flaw) (a b c : Env) (here rest all : R) (before now next : List Flaw) → next ++ told (walk_outside b) rest ≡ now ++ told (walk_outside b) here → Grows b c → Goes told a b here all before now
    → Goes told a c rest all before next
goes_step told a b c here rest all before now next f g h = record {
  told_so = subst (λ (w : Walk). next ++ told w rest ≡ now ++ told w here) (same_walk a b h.grows) f ∙ h.told_so;
  grows = grows_on a b c h.grows g;
}

-- the environment is as it was where no constant specification is typed
pub iota_none : (a b : Env) → Grows a b → (env_of a).iota ≡ None → (env_of b).iota ≡ None
iota_none a b h q = ap (λ (e : scopes.Env). e.iota) h.env ∙ q

-- ---- in the specification of a number

abbrev walk_in : List NamedTy → List (List Bind) → Walk
walk_in ns ss = record { names = ns; scopes = ss; next = 0; next_label = 0; vars = []; declared = []; used = []; lost = 0 }

abbrev walk_at : scopes.Env → Walk
walk_at e = walk_in e.named_types (visible e)

pub counted_walk : (a b : Env) (n : ℕ) → (env_of a).iota ≡ None → env_of b ≡ scopes.counting (Some n) (env_of a) → walk_outside b ≡ counting n (walk_outside a)
counted_walk a b n h q = ap walk_at q ∙ ap (walk_in (env_of a).named_types) (counts (env_of a) n h)

pub counted_grows : (a b c d : Env) (n : ℕ) → (env_of a).iota ≡ None → env_of b ≡ scopes.counting (Some n) (env_of a) → table_of b ≡ table_of a → Grows b c → env_of d ≡ scopes.counting None (env_of c) → table_of d ≡ table_of c → Grows a d
counted_grows a b c d n h q tb g r td = record {
  env = r ∙ ap (scopes.counting None) (g.env ∙ q) ∙ ap (λ (o : Option ℕ). record (env_of a) { iota = o }) (sym h);
  kept = λ i l. ap (λ (t : TypeTable). tree_of (places t) i) td ∙ g.kept i (subst (λ (t : TypeTable). i.0 < size t) (sym tb) l) ∙ ap (λ (t : TypeTable). tree_of (places t) i) tb;
  counts = subst (λ (t : TypeTable). size (table_of a) ≤ size t) (sym td) (subst (λ (t : TypeTable). size t ≤ size (table_of c)) tb g.counts);
}

pub type_goes : (w : Walk) (s : TypeSpec) (rest : t.TypeSpecs) (old new : List Flaw) → new ≡ old ++ (type_in w (expr_view (out-TypeSpec s).ty)).flaws → new ++ types_told w rest ≡ old ++ types_told w (type_spec_view s rest)
type_goes w s rest old new h =
    ap (λ (fs : List Flaw). fs ++ types_told w rest) h ∙ append_assoc old (type_in w (expr_view (out-TypeSpec s).ty)).flaws (types_told w rest) ∙ sym (ap (λ (ts : t.TypeSpecs). old ++ types_told w ts) (whole s rest))
  where
    whole : (s : TypeSpec) (rest : t.TypeSpecs) → type_spec_view s rest ≡ t.MoreTypes (out-TypeSpec s).name (out-TypeSpec s).alias (expr_view (out-TypeSpec s).ty) rest
    whole s rest = search (rules, fold_out-TypeSpec)

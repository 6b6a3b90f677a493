-- What is known of a package, stage by stage.
use Rattle.std.proofs.Common.{arith, ◌≡◌, ◌<◌, ◌+◌, ◌∙◌, ℕ, zero, suc, refl, sym, ap, subst, List, [], ◌∷◌, ◌++◌, length, Option, Some, None, append-nil, length-append}
use Rattle.std.proofs.lemmas.List.{length-map}
use Rattle.std.specs.Prelude.{Err}
use Rattle.gj_base.specs.declared.fault.Refusal.{Refusal}
use Rattle.gj_base.specs.declared.fault.Refusal.TheVariants as refusal
use Rattle.go_syntax.specs.Tree as t
use Rattle.go_type.specs.Named.{NamedTy}
use Rattle.go_type.specs.Table.{places, names, name_count}
use Rattle.go_type.specs.declared.table.TypeTable.{TypeTable}
use Rattle.go_typing.specs.Answer.{Flaw}
use Rattle.go_typing.specs.Env.{Bind, universe, iota_in}
use Rattle.go_typing.specs.Scopes as scopes
use Rattle.go_typing.specs.Scopes.{visible, package_scopes}
use Rattle.go_operands.specs.declared.scopes.env.Env.{Env}
use Rattle.go_operands.specs.EnvView.{table_of, env_of}
use Rattle.go_typing.specs.Walk.{Walk}
use Rattle.go_typing.specs.Items.{Item, items_of}
use Rattle.go_typing.specs.Known.{Known, first_names, after_rounds, outside}
use Rattle.go_typing.specs.Checked.{known_in, least}
use Rattle.go_items.specs.Stands.{Stands}
use Rattle.go_walk.specs.WalkView.{walk_outside, Keeps}
use Rattle.go_expr.specs.Raw.{Grows}
use Rattle.go_body.specs.Plain.{IsPlain}
use Rattle.go_stmt.specs.Checks.{Refuses, Judges}

-- ---- the scope of a package

pub is_visible : (k : Known) (e : scopes.Env) → Stands k e → visible e ≡ universe None ∷ k.binds ∷ []
is_visible k e h =
    ap (λ (bs : List Bind). (bs ++ iota_in e.iota) ∷ package_scopes e e.current ++ e.blocks) h.universe
    ∙ ap (λ (o : Option ℕ). (universe None ++ iota_in o) ∷ package_scopes e e.current ++ e.blocks) h.iota
    ∙ ap (λ (bs : List Bind). bs ∷ package_scopes e e.current ++ e.blocks) (append-nil (universe None))
    ∙ ap (λ (ss : List (List Bind)). universe None ∷ ss ++ e.blocks) h.scope
    ∙ ap (λ (ss : List (List Bind)). universe None ∷ k.binds ∷ ss) h.blocks

abbrev walk_in : List NamedTy → List (List Bind) → Walk
walk_in ns ss = record { names = ns; scopes = ss; next = 0; next_label = 0; vars = []; declared = []; used = []; lost = 0 }

pub is_outside : (k : Known) (e : Env) → Stands k (env_of e) → walk_outside e ≡ outside k
is_outside k e h = ap (λ (ns : List NamedTy). walk_in ns (visible (env_of e))) h.names ∙ ap (walk_in k.names) (is_visible k (env_of e) h)

pub is_plain : (k : Known) (e : scopes.Env) → Stands k e → IsPlain (visible e)
is_plain k e h = record { outer = universe None; next = k.binds; others = []; is = is_visible k e h; plain = refl }

-- ---- the type of run-time panics

abbrev rest_of : List NamedTy → List NamedTy → Type 0
rest_of ms ns = (rest : List NamedTy) × (ns ≡ ms ++ rest)

-- each round begins with the named types before those of the package
first_in : (n : ℕ) (is : List Item) → rest_of first_names (after_rounds n is).names
first_in zero is = (_, refl)
first_in (suc n) is = (_, refl)

two_at_least : (ns rest : List NamedTy) → ns ≡ first_names ++ rest → 1 < length ns
two_at_least ns rest h =
    let n : length ns ≡ length first_names + length rest = ap length h ∙ length-append first_names rest in
    let two : length first_names ≡ 2 = refl in
    omega (arith, n, two)

pub has_hidden : (ds : List t.Decl) (e : Env) → Stands (known_in ds) (env_of e) → 1 < name_count (table_of e)
has_hidden ds e h =
    let first = first_in (length (items_of ds)) (items_of ds) in
    let two : 1 < length (names (table_of e)) = two_at_least (names (table_of e)) first.0 (h.names ∙ first.1) in
    let same : length (names (table_of e)) ≡ name_count (table_of e) = length-map _ _ in
    omega (arith, two, same)

-- ---- tables that grow

pub keeps_own : (a : TypeTable) → Keeps a (places a)
keeps_own a = λ i l. refl

pub grown : (k : Known) (a b : Env) → Grows a b → Stands k (env_of a) → Stands k (env_of b)
grown k a b g h = subst (Stands k) (sym g.env) h

pub grows_on : (a b c : Env) → Grows a b → Grows b c → Grows a c
grows_on a b c h k = record {
  env = k.env ∙ h.env;
  kept = λ i l. k.kept i (let p = h.counts in omega (arith, p, l)) ∙ h.kept i l;
  counts = let p = h.counts in let q = k.counts in omega (arith, p, q);
}

-- ---- what a user is told

pub refuses : (r : Refusal) (w : Flaw) (fs : List Flaw) → Refuses r w → least fs ≡ Some w → Judges (Err r) fs
refuses (refusal.Fault f) w fs is found = (w, found, is)
refuses refusal.NoMemory w fs is found = tt

pub none_told : (fs : List Flaw) → least fs ≡ None → fs ≡ []
none_told [] h = refl
none_told (f ∷ fs) h = absurd (cc)

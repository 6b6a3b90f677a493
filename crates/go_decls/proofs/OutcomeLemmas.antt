-- A declaration that is typed or can't be, by what its name stands for.
use Rattle.std.proofs.Common.{◌≡◌, ◌∙◌, ℕ, List, [], ◌∷◌, ◌++◌, refl, sym, subst, ap, true, false, Option, None}
use Rattle.go_type.specs.Tree.{Ty}
use Rattle.go_type.specs.Named.{NamedTy}
use Rattle.go_typing.specs.Env.{Bind, unknown, universe, iota_in}
use Rattle.go_typing.specs.Scopes.{Env, visible, package_scopes}
use Rattle.std.proofs.lemmas.List.{append-nil}
use Rattle.go_typing.specs.Walk.{Walk}
use Rattle.go_typing.specs.Items.{Item}
use Rattle.go_typing.specs.Known.{Known, first_names, decl_of, outside}
use Rattle.go_operands.specs.View as view
use Rattle.go_operands.specs.declared.scopes.declared.Declared.{Declared}
use Rattle.go_operands.specs.declared.scopes.declared.Declared.TheVariants as as_
use Rattle.go_operands.specs.declared.scopes.env.Env as code
use Rattle.go_operands.specs.EnvView.{env_of}
use Rattle.go_walk.specs.WalkView.{walk_outside}
use Rattle.go_walk.specs.declared.sets.numbers.NameMap.{NameMap}
use Rattle.go_sound.specs.Rows.{Row, binds_by, known_by, one_typed}
use Rattle.go_items.specs.Stands.{Stands}
use Rattle.go_items.proofs.TypeLemmas.{types_kept}
use Rattle.go_decls.specs.Before.{is_unknown, SetsNone, Before, Outcome}

pub unknown_is : (ts : List Ty) (d : Declared) → is_unknown d ≡ true → view.decl_of ts d ≡ unknown
unknown_is ts as_.Unknown h = refl
unknown_is ts (as_.Var v u) h = absurd (cc)
unknown_is ts (as_.Global n u) h = absurd (cc)
unknown_is ts (as_.Const k u) h = absurd (cc)
unknown_is ts (as_.TypeName u) h = absurd (cc)
unknown_is ts (as_.Func f s) h = absurd (cc)
unknown_is ts (as_.Import p) h = absurd (cc)
unknown_is ts (as_.Builtin b) h = absurd (cc)
unknown_is ts as_.Nil h = absurd (cc)
unknown_is ts (as_.Refused n) h = absurd (cc)

pub known_is : (ts : List Ty) (d : Declared) → is_unknown d ≡ false → view.decl_of ts d ≡ unknown → ⊥
known_is ts as_.Unknown h q = cc
known_is ts (as_.Var v u) h q = cc
known_is ts (as_.Global n u) h q = cc
known_is ts (as_.Const k u) h q = cc
known_is ts (as_.TypeName u) h q = cc
known_is ts (as_.Func f s) h q = cc
known_is ts (as_.Import p) h q = cc
known_is ts (as_.Builtin b) h q = cc
known_is ts as_.Nil h q = cc
known_is ts (as_.Refused n) h q = cc

pub lost : (rs : List Row) (n : ℕ) (i : Item) (numbers : NameMap) (e f : Env) → Before rs n i numbers e → f ≡ e → decl_of (known_by rs) i ≡ unknown → Outcome false rs n i f
lost rs n i numbers e f b q d = (d, subst (Stands (known_by rs)) (sym q) b.stands)

pub settled : (rs : List Row) (n : ℕ) (i : Item) (numbers : NameMap) (e f : Env) → Before rs n i numbers e → SetsNone i → (decl_of (known_by rs) i ≡ unknown → ⊥) → Stands (record (known_by rs) { binds = binds_by (one_typed n rs) [] }) f
    → Outcome true rs n i f
settled rs n i numbers e f b none d h = (d, subst (λ (ns : List NamedTy). Stands (record { binds = binds_by (one_typed n rs) []; names = first_names ++ ns }) f) (sym (types_kept (known_by rs) i rs n b.row none)) h)

-- ---- typing in such an environment is typing by what is known

pub is_visible : (k : Known) (e : Env) → Stands k e → visible e ≡ universe None ∷ k.binds ∷ []
is_visible k e h =
    ap (λ (bs : List Bind). (bs ++ iota_in e.iota) ∷ package_scopes e e.current ++ e.blocks) h.universe
    ∙ ap (λ (o : Option ℕ). (universe None ++ iota_in o) ∷ package_scopes e e.current ++ e.blocks) h.iota
    ∙ ap (λ (bs : List Bind). bs ∷ package_scopes e e.current ++ e.blocks) (append-nil (universe None))
    ∙ ap (λ (ss : List (List Bind)). universe None ∷ ss ++ e.blocks) h.scope
    ∙ ap (λ (ss : List (List Bind)). universe None ∷ k.binds ∷ ss) h.blocks

abbrev walk_in : List NamedTy → List (List Bind) → Walk
walk_in ns ss = record { names = ns; scopes = ss; next = 0; next_label = 0; vars = []; declared = []; used = []; lost = 0 }

pub is_outside : (k : Known) (e : code.Env) → Stands k (env_of e) → walk_outside e ≡ outside k
is_outside k e h = ap (λ (ns : List NamedTy). walk_in ns (visible (env_of e))) h.names ∙ ap (walk_in k.names) (is_visible k (env_of e) h)

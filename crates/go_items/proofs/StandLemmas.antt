-- What the calls of an environment change of what it has.
use Rattle.std.proofs.Common.{◌≡◌, ℕ, ◌∙◌, refl, sym, subst, ap, List, [], ◌∷◌, ◌++◌, append_assoc, Bool, true, false, if◌then◌else◌, Option, Some, None, bytes_eq}
use Rattle.std.proofs.lemmas.List.{append-nil}
use Rattle.gj_base.specs.declared.place.Place.{Place}
use Rattle.go_syntax.specs.declared.tree.Name.{Name}
use Rattle.go_type.specs.Tree.{Ty}
use Rattle.go_type.specs.Named.{NamedTy, SetsName, new_name, with_under}
use Rattle.go_typing.specs.Env.{Decl, unknown, Bind, universe, iota_in, is_blank}
use Rattle.go_typing.specs.Scopes.{Env, PackageScope, visible, scope_of, package_scopes, has_package, package_changed, outside_changed, innermost_changed, settle_in, settled, with_bind, place_in, declared_at, declared, innermost, innermost_of, outside_scope}
use Rattle.go_typing.specs.Walk.{bind_of}
use Rattle.go_typing.specs.Items.{Item, constant_item, type_item, alias_item, function_item, variable_item, init_item, name_of}
use Rattle.go_typing.specs.Known.{Known, bound_at, with_item, names_alone, unset}
use Rattle.go_operands.specs.EnvView.{with_types}
use Rattle.go_items.specs.Stands.{IsEntered, Stands, IsSetAt}

-- what is visible
pub is_visible : (k : Known) (e : Env) → Stands k e → visible e ≡ universe None ∷ k.binds ∷ []
is_visible k e h =
    ap (λ (bs : List Bind). (bs ++ iota_in e.iota) ∷ package_scopes e e.current ++ e.blocks) h.universe
    ∙ ap (λ (o : Option ℕ). (universe None ++ iota_in o) ∷ package_scopes e e.current ++ e.blocks) h.iota
    ∙ ap (λ (bs : List Bind). bs ∷ package_scopes e e.current ++ e.blocks) (append-nil (universe None))
    ∙ ap (λ (ss : List (List Bind)). universe None ∷ ss ++ e.blocks) h.scope
    ∙ ap (λ (ss : List (List Bind)). universe None ∷ k.binds ∷ ss) h.blocks

-- ---- the scope of the package changes

module _ (f : List Bind → List Bind) where
  scope_changed : (path : List ℕ) (ps : List PackageScope) → has_package path ps ≡ true → scope_of path (package_changed f path ps) ≡ f (scope_of path ps)
  scope_changed path [] h = let e : false ≡ true = h in cc
  scope_changed path (p ∷ ps) h = by_test (bytes_eq p.path path) refl h (λ k. scope_changed path ps k)
    where
      by_test : (t : Bool) → bytes_eq p.path path ≡ t → (if t then true else has_package path ps) ≡ true → (has_package path ps ≡ true → scope_of path (package_changed f path ps) ≡ f (scope_of path ps))
          → scope_of path (if t then record p { binds = f p.binds } ∷ ps else p ∷ package_changed f path ps) ≡ f (if t then p.binds else scope_of path ps)
      by_test true e k g = ap (λ (b : Bool). if b then f p.binds else scope_of path ps) e
      by_test false e k g = ap (λ (b : Bool). if b then p.binds else scope_of path (package_changed f path ps)) e ∙ g k

  still_there : (path : List ℕ) (ps : List PackageScope) → has_package path ps ≡ true → has_package path (package_changed f path ps) ≡ true
  still_there path [] h = h
  still_there path (p ∷ ps) h = by_test (bytes_eq p.path path) refl h (λ k. still_there path ps k)
    where
      by_test : (t : Bool) → bytes_eq p.path path ≡ t → (if t then true else has_package path ps) ≡ true → (has_package path ps ≡ true → has_package path (package_changed f path ps) ≡ true)
          → has_package path (if t then record p { binds = f p.binds } ∷ ps else p ∷ package_changed f path ps) ≡ true
      by_test true e k g = ap (λ (b : Bool). if b then true else has_package path ps) e
      by_test false e k g = ap (λ (b : Bool). if b then true else has_package path (package_changed f path ps)) e ∙ g k

  one_scope : (bs cs : List Bind) → bs ∷ [] ≡ cs ∷ [] → bs ≡ cs
  one_scope bs cs h = cc

  changed_at : (k : Known) (e : Env) (cur : Option (List ℕ)) → e.current ≡ cur → e.named_types ≡ k.names → e.universe_scope ≡ universe None → e.iota ≡ None → e.blocks ≡ [] → IsEntered e cur
      → package_scopes e cur ≡ k.binds ∷ [] → Stands (record k { binds = f k.binds }) (outside_changed f cur e)
  changed_at k e None q a b c d g h = absurd g
  changed_at k e (Some path) q a b c d g h = record {
    names = a;
    universe = b;
    iota = c;
    blocks = d;
    entered = subst (IsEntered (outside_changed f (Some path) e)) (sym q) (still_there path e.packages g);
    scope =
        ap (package_scopes (outside_changed f (Some path) e)) q
        ∙ ap (λ (bs : List Bind). bs ∷ []) (scope_changed path e.packages g ∙ ap f (one_scope (scope_of path e.packages) k.binds h));
  }

  pub scope_with : (k : Known) (e : Env) → Stands k e → Stands (record k { binds = f k.binds }) (innermost_changed f e.blocks e)
  scope_with k e h =
      subst (λ (ss : List (List Bind)). Stands (record k { binds = f k.binds }) (innermost_changed f ss e)) (sym h.blocks)
      (changed_at k e e.current refl h.names h.universe h.iota h.blocks h.entered h.scope)

pub settles : (k : Known) (e : Env) (x : List ℕ) (d : Decl) → Stands k e → Stands (record k { binds = settle_in x d k.binds }) (settled x d e)
settles k e x d h = scope_with (settle_in x d) k e h

-- where the scope hasn't the name
scope_is : (k : Known) (e : Env) → Stands k e → innermost e ≡ k.binds
scope_is k e h = ap (λ (ss : List (List Bind)). innermost_of ss e) h.blocks ∙ by_current e.current h.entered h.scope
  where
    by_current : (cur : Option (List ℕ)) → IsEntered e cur → package_scopes e cur ≡ k.binds ∷ [] → outside_scope cur e ≡ k.binds
    by_current None g s = absurd g
    by_current (Some path) g s = cc

pub declares : (k : Known) (e : Env) (b : Bind) → Stands k e → place_in b.name k.binds ≡ None → Stands (record k { binds = k.binds ++ b ∷ [] }) (declared b e)
declares k e b h g =
    subst (λ (o : Option Place). Stands (record k { binds = k.binds ++ b ∷ [] }) (declared_at b o e)) (sym (ap (place_in b.name) (scope_is k e h) ∙ g)) (scope_with (with_bind b) k e h)

-- where it has it
pub declares_none : (k : Known) (e : Env) (b : Bind) (at : Place) → Stands k e → place_in b.name k.binds ≡ Some at → Stands k (declared b e)
declares_none k e b at h g = subst (λ (o : Option Place). Stands k (declared_at b o e)) (sym (ap (place_in b.name) (scope_is k e h) ∙ g)) h

-- ---- the types change

pub types_with : (k : Known) (e : Env) (ns : List NamedTy) → Stands k e → Stands (record k { names = ns }) (with_types ns e)
types_with k e ns h = record {
  names = refl;
  universe = h.universe;
  iota = h.iota;
  blocks = h.blocks;
  entered = by_entered e.current h.entered;
  scope = by_scope e.current h.scope;
}
  where
    by_entered : (cur : Option (List ℕ)) → IsEntered e cur → IsEntered (with_types ns e) cur
    by_entered None g = g
    by_entered (Some path) g = g

    by_scope : (cur : Option (List ℕ)) → package_scopes e cur ≡ k.binds ∷ [] → package_scopes (with_types ns e) cur ≡ k.binds ∷ []
    by_scope None g = g
    by_scope (Some path) g = g

-- ---- one declaration that isn't typed yet

not_blank : (n : Name) (bs : List Bind) → is_blank n.text ≡ false → with_item n unknown bs ≡ bound_at (bind_of n unknown) (place_in n.text bs) bs
not_blank n bs b = ap (λ (t : Bool). if t then bs else bound_at (bind_of n unknown) (place_in n.text bs) bs) b

pub blank_kept : (k : Known) (e : Env) (n : Name) → is_blank n.text ≡ true → Stands k e → Stands (record k { binds = with_item n unknown k.binds }) e
blank_kept k e n b h = subst (λ (bs : List Bind). Stands (record k { binds = bs }) e) (sym (ap (λ (t : Bool). if t then k.binds else bound_at (bind_of n unknown) (place_in n.text k.binds) k.binds) b)) h

pub name_added : (k : Known) (e : Env) (n : Name) → is_blank n.text ≡ false → Stands k e → Stands (record k { binds = with_item n unknown k.binds }) (declared (bind_of n unknown) e)
name_added k e n b h = by_place (place_in n.text k.binds) refl
  where
    after : Env
    after = declared (bind_of n unknown) e

    by_place : (o : Option Place) → place_in n.text k.binds ≡ o → Stands (record k { binds = with_item n unknown k.binds }) after
    by_place (Some at) q =
        subst (λ (bs : List Bind). Stands (record k { binds = bs }) after) (sym (not_blank n k.binds b ∙ ap (λ (o : Option Place). bound_at (bind_of n unknown) o k.binds) q))
        (declares_none k e (bind_of n unknown) at h q)
    by_place None q =
        subst (λ (bs : List Bind). Stands (record k { binds = bs }) after) (sym (not_blank n k.binds b ∙ ap (λ (o : Option Place). bound_at (bind_of n unknown) o k.binds) q))
        (declares k e (bind_of n unknown) h q)

pub type_added : (k : Known) (e f : Env) (n : Name) (x p : List ℕ) → x ≡ n.text → p ≡ [] → f ≡ with_types (e.named_types ++ new_name x p ∷ []) e → Stands k e
    → Stands (record k { names = k.names ++ record { name = n.text; package_ = []; under = None; methods = [] } ∷ [] }) f
type_added k e f n x p a b q h =
    subst (Stands (record k { names = k.names ++ new_name n.text [] ∷ [] })) (sym q)
    (subst (λ (ns : List NamedTy). Stands (record k { names = ns }) (with_types (e.named_types ++ new_name x p ∷ []) e)) same (types_with k e (e.named_types ++ new_name x p ∷ []) h))
  where
    same : e.named_types ++ new_name x p ∷ [] ≡ k.names ++ new_name n.text [] ∷ []
    same =
        ap (λ (ns : List NamedTy). ns ++ new_name x p ∷ []) h.names ∙ ap (λ (y : List ℕ). k.names ++ new_name y p ∷ []) a ∙ ap (λ (y : List ℕ). k.names ++ new_name n.text y ∷ []) b

pub no_type_added : (k : Known) (e : Env) (i : Item) → unset (i ∷ []) ≡ [] → Stands k e → Stands (record k { names = k.names ++ unset (i ∷ []) }) e
no_type_added k e i q h = subst (λ (ns : List NamedTy). Stands (record k { names = ns }) e) (sym (ap (λ (ns : List NamedTy). k.names ++ ns) q ∙ append-nil k.names)) h

-- ---- one after the other

-- what is declared, and what with those that are left
pub record Left (k : Known) (rest all : List Item) (e : Env) : Type 0 where
  pub now : Known
  pub stands : Stands now e
  pub binds : names_alone rest now.binds ≡ names_alone all k.binds
  pub names : now.names ++ unset rest ≡ k.names ++ unset all

one_unset : (i : Item) (is : List Item) → unset (i ∷ []) ++ unset is ≡ unset (i ∷ is)
one_unset (type_item n number e) is = refl
one_unset (constant_item n number u y all) is = refl
one_unset (alias_item n e) is = refl
one_unset (function_item n id s) is = refl
one_unset (variable_item n) is = refl
one_unset (init_item n) is = refl

pub at_start : (k : Known) (all : List Item) (e : Env) → Stands k e → Left k all all e
at_start k all e h = record { now = k; stands = h; binds = refl; names = refl }

pub one_more : (k : Known) (i : Item) (rest all : List Item) (e f g : Env) (n : Name) → n ≡ name_of i → ((j : Known) → Stands j e → Stands (record j { binds = with_item n unknown j.binds }) f)
    → ((j : Known) → Stands j f → Stands (record j { names = j.names ++ unset (i ∷ []) }) g) → Left k (i ∷ rest) all e → Left k rest all g
one_more k i rest all e f g n q named typed h = record {
  now = record { binds = with_item (name_of i) unknown h.now.binds; names = h.now.names ++ unset (i ∷ []) };
  stands = typed (record h.now { binds = with_item (name_of i) unknown h.now.binds }) (subst (λ (m : Name). Stands (record h.now { binds = with_item m unknown h.now.binds }) f) q (named h.now h.stands));
  binds = h.binds;
  names = append_assoc h.now.names (unset (i ∷ [])) (unset rest) ∙ ap (λ (ns : List NamedTy). h.now.names ++ ns) (one_unset i rest) ∙ h.names;
}

pub at_end : (k : Known) (all : List Item) (e : Env) → Left k [] all e → Stands (record { binds = names_alone all k.binds; names = k.names ++ unset all }) e
at_end k all e h =
    subst (λ (bs : List Bind). Stands (record { binds = bs; names = k.names ++ unset all }) e) h.binds
    (subst (λ (ns : List NamedTy). Stands (record { binds = h.now.binds; names = ns }) e) (sym (append-nil h.now.names) ∙ h.names) h.stands)

-- ---- a type that is set

pub type_sets : (k : Known) (e f : Env) (at : ℕ) (u : Ty) (ns new : List NamedTy) → f ≡ with_types ns e → SetsName e.named_types at (with_under u) ns → Stands k e → IsSetAt at u k.names new → Stands (record k { names = new }) f
type_sets k e f at u ns new q sets h s =
    subst (Stands (record k { names = new })) (sym q) (subst (λ (ms : List NamedTy). Stands (record k { names = ms }) (with_types ns e)) same (types_with k e ns h))
  where
    there : SetsName k.names at (with_under u) ns
    there = subst (λ (ms : List NamedTy). SetsName ms at (with_under u) ns) h.names sets

    same : ns ≡ new
    same = there s.row s.was ∙ sym s.now

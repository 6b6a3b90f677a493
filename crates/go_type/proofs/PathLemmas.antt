-- The steps of one member.
use Rattle.std.proofs.Common.{◌≡◌, ℕ, ◌≤◌, Bool, true, false, List, [], ◌∷◌, ◌++◌, Option, Some, None, length, map, refl, ap, sym, ◌∙◌, subst, arith, append_assoc}
use Rattle.go_type.specs.Tree.{Ty, Tys, Specs, no_specs, more_specs, bool, str, int, nil, untyped, array, slice, struct, pointer, func, interface, mapping, chan, named, tuple}
use Rattle.go_type.specs.Members.{Member, Sought, field, method, behind, through_one, base_of, steps_to, is_sought, is_declared, spec_found, specs_found, method_found, methods_found, name_found, declared_found, shape_found, fields_found, fields_in, own_members}
use Rattle.go_type.specs.Named.{NamedTy, MethodTy}
use Rattle.go_type.specs.Underlying.{underlying}
use Rattle.std.specs.List.{slice_get}
use Rattle.std.specs.Prelude.{if◌then◌else◌, IfOk, Result, Ok, Err}
use Rattle.std.specs.declared.vec.Vec.{Vec}
use Rattle.std.specs.declared.alloc.Global.{Global}
use Rattle.go_type.specs.Hits.{has_pointer}
use Rattle.go_type.specs.Paths.{path_of, LeadsTo, LeadsOn, FindsField, Follows, steps_through}
use Rattle.go_type.specs.declared.steps.Step.{Step}
use Rattle.go_type.specs.declared.steps.Step.TheVariants as step

path_behind : (ss : List Step) (n : Member) → path_of (behind ss n) ≡ ss ++ path_of n
path_behind ss (field p) = refl
path_behind ss (method p of_ on_pointer params results variadic) = refl

through_steps : (i : ℕ) (b follows : Bool) → b ≡ follows → steps_through i b ≡ steps_through i follows
through_steps i b follows e = ap (steps_through i) e

steps_are : (i : ℕ) (t : Ty) → steps_to i t ≡ steps_through i (has_pointer (steps_to i t))
steps_are i (pointer t) = refl
steps_are i bool = refl
steps_are i str = refl
steps_are i (int name) = refl
steps_are i nil = refl
steps_are i (untyped b) = refl
steps_are i (array n t) = refl
steps_are i (slice t) = refl
steps_are i (struct fs) = refl
steps_are i (func ps rs v) = refl
steps_are i (interface ms) = refl
steps_are i (mapping k v) = refl
steps_are i (chan d t) = refl
steps_are i (named id) = refl
steps_are i (tuple ts) = refl

only : (ss : List Step) (ms others : List Member) (m : Member) → 1 ≤ length ms → map (behind ss) ms ++ others ≡ m ∷ [] → (n : Member) × (ms ≡ n ∷ []) × (path_of m ≡ ss ++ path_of n)
only ss [] others m l e = absurd (omega arith)
only ss (n ∷ []) others m l e = let f : behind ss n ≡ m = cc in (n, refl, ap path_of (sym f) ∙ path_behind ss n)
only ss (n ∷ k ∷ ms) others m l e = cc

pub leads : (p : Ty → List Member) (i : ℕ) (t : Ty) (embedded b follows : Bool) (others : List Member) (m : Member) → LeadsOn p t embedded b → b ≡ true → has_pointer (steps_to i t) ≡ follows
    → through_one p i t embedded ++ others ≡ m ∷ [] → (n : Member) × (p (base_of t) ≡ n ∷ []) × (path_of m ≡ steps_through i follows ++ path_of n)
leads p i t false b follows others m on yes_ h e = let f : true ≡ false = sym yes_ ∙ on in cc
leads p i t true false follows others m on yes_ h e = cc
leads p i t true true follows others m on yes_ h e =
    let x = only (steps_to i t) (p (base_of t)) others m on e in
    (x.0, x.1, x.2 ∙ ap (λ (ss : List Step). ss ++ path_of x.0) (steps_are i t ∙ ap (steps_through i) h))

-- steps and then steps
pub leads_on_more : (ms ns ks : List Member) (ss rs : List Step) → LeadsTo ms ss ns → LeadsTo ns rs ks → LeadsTo ms (ss ++ rs) ks
leads_on_more ms ns ks ss rs a b m e =
    let x = a m e in
    let y = b x.0 x.1 in
    (y.0, y.1, x.2 ∙ ap (λ (p : List Step). ss ++ p) y.2 ∙ sym (append_assoc ss rs (path_of y.0)))

pub leads_here : (ms : List Member) → LeadsTo ms [] ms
leads_here ms m e = (m, e, refl)

-- ---- within a type

AllBare : List Member → Type 0
AllBare [] = Unit {0}
AllBare (m ∷ ms) = (path_of m ≡ []) × AllBare ms

bare_both : (ms ns : List Member) → AllBare ms → AllBare ns → AllBare (ms ++ ns)
unfolding AllBare
bare_both [] ns a b = b
bare_both (m ∷ ms) ns a b = (a.0, bare_both ms ns a.1 b)

bare_spec : (f : Sought) (of_ : Ty) (name package_ : List ℕ) (ps rs : Tys) (v : Bool) → AllBare (spec_found f of_ name package_ ps rs v)
unfolding AllBare
bare_spec f of_ name package_ ps rs v = by (is_sought f name package_)
  where
    by : (b : Bool) → AllBare (if b then method [] of_ false ps rs v ∷ [] else [])
    by true = (refl, tt)
    by false = tt

bare_specs : (f : Sought) (of_ : Ty) (ms : Specs) → AllBare (specs_found f of_ ms)
unfolding AllBare
bare_specs f of_ no_specs = tt
bare_specs f of_ (more_specs name package_ ps rs v ms) = bare_both (spec_found f of_ name package_ ps rs v) (specs_found f of_ ms) (bare_spec f of_ name package_ ps rs v) (bare_specs f of_ ms)

bare_method : (f : Sought) (of_ : Ty) (package_ : List ℕ) (m : MethodTy) → AllBare (method_found f of_ package_ m)
unfolding AllBare
bare_method f of_ package_ m = by (is_declared f m.name package_)
  where
    by : (b : Bool) → AllBare (if b then method [] of_ m.pointer m.params m.results m.variadic ∷ [] else [])
    by true = (refl, tt)
    by false = tt

bare_methods : (f : Sought) (of_ : Ty) (package_ : List ℕ) (ms : List MethodTy) → AllBare (methods_found f of_ package_ ms)
unfolding AllBare
bare_methods f of_ package_ [] = tt
bare_methods f of_ package_ (m ∷ ms) = bare_both (method_found f of_ package_ m) (methods_found f of_ package_ ms) (bare_method f of_ package_ m) (bare_methods f of_ package_ ms)

bare_declared : (ns : List NamedTy) (f : Sought) (t : Ty) → AllBare (declared_found ns f t)
unfolding AllBare
bare_declared ns f (named id) = by (slice_get ns id)
  where
    by : (o : Option NamedTy) → AllBare (name_found f (named id) o)
    by None = tt
    by (Some x) = bare_methods f (named id) x.package_ x.methods
bare_declared ns f _ = tt

bare_shape : (f : Sought) (of_ u : Ty) → fields_found f 0 (fields_in u) ≡ [] → AllBare (shape_found f of_ u)
unfolding AllBare
bare_shape f of_ (struct fs) e = subst AllBare (sym e) tt
bare_shape f of_ (interface ms) e = bare_specs f of_ ms
bare_shape f of_ _ e = tt

bare_one : (ms : List Member) (m : Member) → AllBare ms → ms ≡ m ∷ [] → path_of m ≡ []
unfolding AllBare
bare_one [] m a e = cc
bare_one (n ∷ ms) m a e = let f : n ≡ m = cc in ap path_of (sym f) ∙ a.0

-- no field of the name: the one member is a method, and has no steps
pub own_method : (ns : List NamedTy) (f : Sought) (t : Ty) (m : Member) → fields_found f 0 (fields_in (underlying ns t)) ≡ [] → own_members ns f t ≡ m ∷ [] → path_of m ≡ []
own_method ns f t m none e =
    bare_one (own_members ns f t) m (bare_both (shape_found f t (underlying ns t)) (declared_found ns f t) (bare_shape f t (underlying ns t) none) (bare_declared ns f t)) e

field_first : (f : Sought) (of_ u : Ty) (i : ℕ) (others : List Member) (m : Member) → FindsField f (fields_in u) i → shape_found f of_ u ++ others ≡ m ∷ [] → path_of m ≡ step.Field i ∷ []
field_first f of_ (struct fs) i others m x e =
    let g : (field (step.Field i ∷ []) ∷ x.0) ++ others ≡ m ∷ [] = subst (λ (ms : List Member). ms ++ others ≡ m ∷ []) x.1 e in
    let h : field (step.Field i ∷ []) ≡ m = cc in ap path_of (sym h)
field_first f of_ _ i others m x e = let g = x.1 in cc

-- a field of the name: it is the one member
pub own_field : (ns : List NamedTy) (f : Sought) (t : Ty) (i : ℕ) (m : Member) → FindsField f (fields_in (underlying ns t)) i → own_members ns f t ≡ m ∷ [] → path_of m ≡ step.Field i ∷ []
own_field ns f t i m x e = field_first f t (underlying ns t) i (declared_found ns f t) m x e

-- ---- on the way

pub follow : (ms ns ks : List Member) (before steps more all : List Step) → Follows ms before ns steps → LeadsTo ns more ks → all ≡ steps ++ more → Follows ms before ks all
follow ms ns ks before steps more all a b d m e =
    let x = a m e in
    let y = b x.0 x.1 in
    (y.0, y.1, x.2 ∙ ap (λ (p : List Step). steps ++ p) y.2 ∙ sym (append_assoc steps more (path_of y.0)) ∙ ap (λ (p : List Step). p ++ path_of y.0) (sym d))

pub nowhere_to : (ms ns : List Member) (before steps : List Step) (m : Member) → Follows ms before ns steps → ns ≡ [] → ms ≡ m ∷ [] → ⊥
nowhere_to ms ns before steps m a none e = let x = a m e in let g = sym none ∙ x.1 in cc

pub arrive : {E : Type 0} (ms ns os : List Member) (before steps : List Step) (r : Result (Vec Step Global) E) → Follows ms before ns steps → os ≡ ns → IfOk r (λ v. (m : Member) → os ≡ m ∷ [] → v.items ≡ steps ++ path_of m) → IfOk r (λ v. (m : Member) → ms ≡ m ∷ [] → v.items ≡ before ++ path_of m)
arrive ms ns os before steps (Ok v) a own b = λ m e. let x = a m e in b x.0 (own ∙ x.1) ∙ sym x.2
arrive ms ns os before steps (Err k) a own b = tt

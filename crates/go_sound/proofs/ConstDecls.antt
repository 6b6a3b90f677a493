-- Constants and types that bodies declare, of which nothing is told.
use Rattle.std.proofs.Common.{◌≡◌, ◌⊎◌, inl, ℕ, suc, pos, length, List, [], ◌∷◌, ◌++◌, append_assoc, refl, sym, subst, ap, ◌∙◌, IsTrue, Bool, true, false, Option, Some, None, if◌then◌else◌, codes}
use Rattle.gj_base.specs.declared.place.Place.{Place}
use Rattle.go_const.specs.declared.constant.Const.{Const}
use Rattle.go_const.specs.declared.constant.Const.TheVariants as form
use Rattle.go_type.specs.declared.types.Basis.TheVariants as basis
use Rattle.go_syntax.specs.Tree as t
use Rattle.go_syntax.specs.declared.tree.Name.{Name}
use Rattle.go_type.specs.Tree as ty
use Rattle.go_type.specs.Tree.{Ty}
use Rattle.go_type.specs.Named.{NamedTy}
use Rattle.go_type.specs.Underlying.{underlying, under_in, under_at, or_else}
use Rattle.go_core.specs.CoreTree.{Var, CoreProgram}
use Rattle.go_core.specs.SoundNode as node
use Rattle.go_typing.specs.Env.{Decl, variable, constant, type_name, unknown, Bind, find, lookup, or_in, predeclared}
use Rattle.go_typing.specs.Answer.{Flaw, flaw, Answer}
use Rattle.go_typing.specs.Convert.{is_scalar}
use Rattle.go_typing.specs.Walk.{Walk, Around, Did, faulty, and_then, also, is_there, redeclared, with_name, uses, uses_all}
use Rattle.go_typing.specs.Expressions.{type_in, type_of}
use Rattle.go_typing.specs.Assign.{all_typed, all_in_flaws}
use Rattle.go_typing.specs.Declare.{SpecType, spec_type, spec_type_flaws, type_uses, names_count, spec_place, spec_known, count_told, with_iota, counting, constant_value, constant_decl, declare_constant, const_each, const_unknown, const_spec, const_specs, is_bare, new_named, declare_type, type_spec, type_specs, decl}
use Rattle.go_sound.specs.Added.{TypeIsSet}
use Rattle.go_sound.specs.GoesOn.{GoesOn}
use Rattle.go_sound.specs.SoundTyped.{HasOperators, AllHaveOperators, BoundHasOperators, IsScalarType}
use Rattle.go_sound.specs.SoundValues.{IsReady}
use Rattle.go_sound.proofs.SoundBodies.{no_first, no_second}
use Rattle.go_sound.proofs.KnownWords.{seam}
use Rattle.go_sound.proofs.GoesOnSteps.{stays}
use Rattle.go_sound.proofs.GoesOnBodies.{const_spec_on, type_spec_on, type_specs_on}
use Rattle.go_sound.specs.Grammar.{ValuesOfGrammar, TypesOfGrammar, DeclOfGrammar}
use Rattle.go_sound.specs.SoundStatements.{Holds}
use Rattle.go_sound.proofs.Words.{at_vars, after_vars}
use Rattle.go_sound.proofs.Ready.{State, Like, like_uses, found_push, ready_changed, ready_later, ready_like, NamesOf, names_of, holds_part, Done, done_none, done_then, state_on, Scoped, scoped_like, scoped_named, Quiet, done_quiet, done_also, IsBefore, like_same, Adds, adds_like, adds_then, adds_type, done_like}
use Rattle.go_sound.proofs.Here.{IsAType, type_there, SpecHere, spec_there, constant_there, never_told_with, spec_is_known, under_kept}
use Rattle.go_sound.proofs.Defines.{named_names, adds_named}
use Rattle.go_sound.proofs.VarDecls.{like_parts, var_specs_done}

-- ---- a specification of constants: `iota` is in scope

abbrev iota_decl : ℕ → Decl
iota_decl n = constant (form.Int (pos n)) (ty.untyped basis.Int)

abbrev iota_bind : ℕ → Bind
iota_bind n = predeclared (codes "iota") (iota_decl n)

found_counted : (x : List ℕ) (n : ℕ) (ss : List (List Bind)) → (lookup x (with_iota n ss) ≡ lookup x ss) ⊎ (lookup x (with_iota n ss) ≡ Some (iota_decl n))
found_counted x n [] = inl refl
found_counted x n (s ∷ ss) = by_found (lookup x ss) (found_push x s (iota_bind n))
  where
    by_found : (o : Option Decl) → (find x (s ++ iota_bind n ∷ []) ≡ find x s) ⊎ (find x (s ++ iota_bind n ∷ []) ≡ Some (iota_decl n))
        → (or_in o (find x (s ++ iota_bind n ∷ [])) ≡ or_in o (find x s)) ⊎ (or_in o (find x (s ++ iota_bind n ∷ [])) ≡ Some (iota_decl n))
    by_found (Some d) h = inl refl
    by_found None h = h

abbrev is_unknown : Decl → Bool
is_unknown unknown = true
is_unknown _ = false

abbrev is_variable : Decl → Bool
is_variable (variable id u) = true
is_variable _ = false

constant_known : (k : Const) (u : Ty) → constant k u ≡ unknown → ⊥
constant_known k u e = let f : false ≡ true = ap is_unknown e in cc

type_known : (u : Ty) → type_name u ≡ unknown → ⊥
type_known u e = let f : false ≡ true = ap is_unknown e in cc

constant_before : (n : ℕ) (k : Const) (u : Ty) → IsBefore n (constant k u)
constant_before n k u id v e = let f : false ≡ true = ap is_variable e in cc

type_before : (n : ℕ) (u : Ty) → IsBefore n (type_name u)
type_before n u id v e = let f : false ≡ true = ap is_variable e in cc

ready_counting : (p : CoreProgram) (a : node.Around) (n : ℕ) (w : Walk) → IsReady p a w → IsReady p a (counting n w)
ready_counting p a n w r = ready_changed p a w (with_iota n w.scopes) (iota_decl n) (λ x. found_counted x n w.scopes) tt tt (constant_known (form.Int (pos n)) (ty.untyped basis.Int)) r

-- ---- constants

abbrev constant_first : Name → List Flaw → Answer → Walk → Option Place → Did
constant_first n fs x u q = faulty (redeclared n q ++ fs) (declare_constant n q x u)

quiet_constants : (p : CoreProgram) (a : node.Around) (vs : List Var) (w : Walk) (r : IsReady p (at_vars a vs) w) (s : SpecType) → SpecHere p (at_vars a vs) w r s → (ns : List Name) (ys : t.Exprs) → AllHaveOperators ys → (u : Walk) → u.names ≡ w.names
    → Scoped p a vs u → (const_each w s ns ys u).flaws ≡ [] → Quiet p a vs u (const_each w s ns ys u)
quiet_constants p a vs w r s i (n ∷ ns) (t.MoreExprs y ys) o u m c h = by_place (λ v e d g. quiet_constants p a vs w r s i ns ys o.1 v e d g) (is_there n u) h
  where
    x : Answer
    x = (constant_value w s y).answer

    by_place : ((v : Walk) → v.names ≡ w.names → Scoped p a vs v → (const_each w s ns ys v).flaws ≡ [] → Quiet p a vs v (const_each w s ns ys v)) → (q : Option Place) → (redeclared n q ++ (constant_value w s y).flaws) ++ (const_each w s ns ys (declare_constant n q (constant_value w s y).answer u)).flaws ≡ []
        → Quiet p a vs u (and_then (constant_first n (constant_value w s y).flaws (constant_value w s y).answer u q) (const_each w s ns ys))
    by_place others (Some at) g = cc
    by_place others None g =
        let k = constant_there p (at_vars a vs) w r s y o.0 i (no_first (constant_value w s y).flaws _ g) in
        let d : constant_decl (constant_value w s y).answer ≡ constant k.constant_ k.type_at = ap constant_decl k.is_value in
        let e : Scoped p a vs (with_name n (constant_decl (constant_value w s y).answer) u) =
        subst (λ (z : Decl). Scoped p a vs (with_name n z u)) (sym d)
        (scoped_named p a vs u n (constant k.constant_ k.type_at) k.is_constant (subst (λ (ms : List NamedTy). TypeIsSet ms k.type_at) (sym m) k.set) (constant_known k.constant_ k.type_at) (constant_before u.next k.constant_ k.type_at) c) in
        let q = others (with_name n (constant_decl (constant_value w s y).answer) u) (named_names n (constant_decl (constant_value w s y).answer) u ∙ m) e (no_second (constant_value w s y).flaws _ g) in
        record { nothing = q.nothing; scoped = q.scoped; adds = adds_then p u (with_name n (constant_decl (constant_value w s y).answer) u) _ (adds_named p u n (constant_decl (constant_value w s y).answer)) q.adds }
quiet_constants p a vs w r s i [] ys o u m c h = record { nothing = refl; scoped = c; adds = adds_like p u u (like_same u) }
quiet_constants p a vs w r s i (n ∷ ns) t.NoExprs o u m c h = record { nothing = refl; scoped = c; adds = adds_like p u u (like_same u) }

abbrev const_spec_if : Place → Walk → List Name → t.MaybeExpr → t.Exprs → Walk → Bool → Did
const_spec_if at w ns u ys v c =
    if c then const_each w (spec_type w u) ns ys (uses_all ys (type_uses u v)) else also (count_told (spec_type w u) (spec_place ns at) (all_typed w ys) (all_in_flaws w ys)) (const_unknown ns (uses_all ys (type_uses u v)))

const_spec_done : (p : CoreProgram) (a : node.Around) (at : Place) (n : ℕ) (ns : List Name) (u : t.MaybeExpr) (ys : t.Exprs) → BoundHasOperators u → AllHaveOperators ys → (vs : List Var) (b : Around) (w : Walk) → State p a vs b w
    → (const_spec at (counting n w) ns u ys w).flaws ≡ [] → Done p a vs w (const_spec at (counting n w) ns u ys w)
const_spec_done p a at n ns u ys o q vs b w s h =
    done_also p a vs w (spec_type_flaws (counting n w) u) (const_spec_if at (counting n w) ns u ys w (names_count ns ys)) (by_count (names_count ns ys) (no_second (spec_type_flaws (counting n w) u) _ h))
  where
    ready : IsReady p (at_vars a vs) (counting n w)
    ready = ready_counting p (at_vars a vs) n w s.ready

    same : Like w (uses_all ys (type_uses u w))
    same = like_parts ys u w s.ready.all_typed

    by_count : (c : Bool) → (const_spec_if at (counting n w) ns u ys w c).flaws ≡ [] → Done p a vs w (const_spec_if at (counting n w) ns u ys w c)
    by_count true g =
        done_like p a vs w (uses_all ys (type_uses u w)) (const_each (counting n w) (spec_type (counting n w) u) ns ys (uses_all ys (type_uses u w))) same
        (done_quiet p a vs (uses_all ys (type_uses u w)) (const_each (counting n w) (spec_type (counting n w) u) ns ys (uses_all ys (type_uses u w)))
        (quiet_constants p a vs (counting n w) ready (spec_type (counting n w) u) (spec_there p (at_vars a vs) (counting n w) ready u o (no_first (spec_type_flaws (counting n w) u) _ h)) ns ys q (uses_all ys (type_uses u w)) same.names
        (scoped_like p a vs w (uses_all ys (type_uses u w)) same (record { ready = s.ready; before = s.before })) g))
    by_count false g = absurd (never_told_with p (at_vars a vs) (counting n w) ready (spec_known (spec_type (counting n w) u)) ys (flaw (spec_place ns at) 84)
        (spec_is_known p (at_vars a vs) (counting n w) ready (spec_type (counting n w) u) (spec_there p (at_vars a vs) (counting n w) ready u o (no_first (spec_type_flaws (counting n w) u) _ h)))
        (no_first (count_told (spec_type (counting n w) u) (spec_place ns at) (all_typed (counting n w) ys) (all_in_flaws (counting n w) ys)) _ g))

-- one specification, and then the others
const_then : (p : CoreProgram) (a : node.Around) (at : Place) (n : ℕ) (ns : List Name) (u : t.MaybeExpr) (ys : t.Exprs) (xs : t.ValueSpecs) → BoundHasOperators u → AllHaveOperators ys → (vs : List Var) (b : Around) (w : Walk) → State p a vs b w
    → ((us : List Var) (v : Walk) → State p a us b v → Holds p a.declarable v (const_specs at (suc n) u ys xs v).walk → (const_specs at (suc n) u ys xs v).flaws ≡ [] → Done p a us v (const_specs at (suc n) u ys xs v))
    → Holds p a.declarable w (and_then (const_spec at (counting n w) ns u ys w) (const_specs at (suc n) u ys xs)).walk → (and_then (const_spec at (counting n w) ns u ys w) (const_specs at (suc n) u ys xs)).flaws ≡ []
    → Done p a vs w (and_then (const_spec at (counting n w) ns u ys w) (const_specs at (suc n) u ys xs))
const_then p a at n ns u ys xs o q vs b w s others k h =
    done_then p a vs w d (const_specs at (suc n) u ys xs d.walk) on first
    (others (after_vars d.core vs) d.walk (state_on p a vs b w d s on first)
    (holds_part p a.declarable w d.walk (const_specs at (suc n) u ys xs d.walk).walk (const_specs at (suc n) u ys xs d.walk).walk on (stays (const_specs at (suc n) u ys xs d.walk).walk) k) (no_second d.flaws _ h))
  where
    d : Did
    d = const_spec at (counting n w) ns u ys w

    on : GoesOn w d.walk
    on = const_spec_on at (counting n w) ns u ys w

    first : Done p a vs w d
    first = const_spec_done p a at n ns u ys o q vs b w s (no_first d.flaws _ h)

const_specs_done : (p : CoreProgram) (a : node.Around) (at : Place) (n : ℕ) (u : t.MaybeExpr) (ys : t.Exprs) (xs : t.ValueSpecs) → BoundHasOperators u → AllHaveOperators ys → ValuesOfGrammar xs → (vs : List Var) (b : Around) (w : Walk) → State p a vs b w
    → Holds p a.declarable w (const_specs at n u ys xs w).walk → (const_specs at n u ys xs w).flaws ≡ [] → Done p a vs w (const_specs at n u ys xs w)
const_specs_done p a at n u ys t.NoValues o q g vs b w s k h = done_none p a vs b w s
const_specs_done p a at n u ys (t.MoreValues ns v t.NoExprs xs) o q g vs b w s k h =
    const_then p a at n ns u ys xs o q vs b w s (λ us x st l m. const_specs_done p a at (suc n) u ys xs o q g.2 us b x st l m) k h
const_specs_done p a at n u ys (t.MoreValues ns v (t.MoreExprs z zs) xs) o q g vs b w s k h =
    const_then p a at n ns v (t.MoreExprs z zs) xs g.0 g.1 vs b w s (λ us x st l m. const_specs_done p a at (suc n) v (t.MoreExprs z zs) xs g.0 g.1 g.2 us b x st l m) k h

-- ---- types

under_last : (ns more : List NamedTy) (x : NamedTy) → under_at ((ns ++ x ∷ []) ++ more) (length ns) ≡ x.under
under_last ns more x = ap (λ (ms : List NamedTy). under_at ms (length ns)) (append_assoc ns (x ∷ []) more) ∙ ap under_in (seam ns x more)

abbrev with_type : Walk → NamedTy → Walk
with_type w x = record w { names = w.names ++ x ∷ [] }

-- a type that is declared stands for a scalar type
declared_scalar : (p : CoreProgram) (a : node.Around) (w : Walk) (r : IsReady p a w) (x : List ℕ) (u : Ty) → IsScalarType p u → TypeIsSet w.names u → NamesOf p (with_type w (new_named x w u)) → IsScalarType p (ty.named (length w.names))
declared_scalar p a w r x u s t n =
    subst (λ (o : Option Ty). IsTrue (is_scalar (or_else o (ty.named (length w.names))))) (sym (ap (λ (ns : List NamedTy). under_at ns (length w.names)) n.1 ∙ under_last w.names n.0 (new_named x w u)))
    (subst (λ (v : Ty). IsTrue (is_scalar v)) (under_kept p a w r u t) s)

declared_set : (w : Walk) (x : List ℕ) (u : Ty) → TypeIsSet (with_type w (new_named x w u)).names (ty.named (length w.names))
declared_set w x u = (underlying w.names u, ap under_in (seam w.names (new_named x w u) []))

some_type : (u v : Ty) → Some u ≡ Some v → u ≡ v
some_type u v e = ap (or_this u) e
  where
    or_this : Ty → Option Ty → Ty
    or_this s None = s
    or_this s (Some x) = x

type_scoped : (p : CoreProgram) (a : node.Around) (vs : List Var) (w : Walk) (n : Name) (alias : Bool) (o : Option Ty) (i : Scoped p a vs w) → IsAType p (at_vars a vs) w i.ready o → NamesOf p (declare_type n alias o w) → Scoped p a vs (declare_type n alias o w)
type_scoped p a vs w n alias None i c m = let f = c.found in let e : None ≡ Some c.type_ = f in cc
type_scoped p a vs w n true (Some u) i c m =
    scoped_named p a vs w n (type_name u) (subst (IsScalarType p) (sym (some_type u c.type_ c.found)) c.scalar) (subst (TypeIsSet w.names) (sym (some_type u c.type_ c.found)) c.set) (type_known u) (type_before w.next u) i
type_scoped p a vs w n false (Some u) i c m =
    scoped_named p a vs (with_type w (new_named n.text w u)) n (type_name (ty.named (length w.names))) (declared_scalar p (at_vars a vs) w i.ready n.text u scalar set names) (declared_set w n.text u) (type_known (ty.named (length w.names))) (type_before w.next (ty.named (length w.names)))
    (record { ready = ready_later p (at_vars a vs) w (with_type w (new_named n.text w u)) (new_named n.text w u ∷ []) refl refl names i.ready; before = i.before })
  where
    scalar : IsScalarType p u
    scalar = subst (IsScalarType p) (sym (some_type u c.type_ c.found)) c.scalar

    set : TypeIsSet w.names u
    set = subst (TypeIsSet w.names) (sym (some_type u c.type_ c.found)) c.set

    names : NamesOf p (with_type w (new_named n.text w u))
    names = (m.0, m.1 ∙ ap (λ (ns : List NamedTy). ns ++ m.0) (named_names n (type_name (ty.named (length w.names))) (with_type w (new_named n.text w u))))

type_adds : (p : CoreProgram) (a : node.Around) (vs : List Var) (w : Walk) (n : Name) (alias : Bool) (o : Option Ty) (i : Scoped p a vs w) → IsAType p (at_vars a vs) w i.ready o → Adds p w (declare_type n alias o w)
type_adds p a vs w n alias None i c = let f = c.found in let e : None ≡ Some c.type_ = f in cc
type_adds p a vs w n true (Some u) i c = adds_named p w n (type_name u)
type_adds p a vs w n false (Some u) i c =
    adds_then p w (with_type w (new_named n.text w u)) (declare_type n false (Some u) w) (adds_type p w (with_type w (new_named n.text w u)) (new_named n.text w u) refl refl refl (underlying w.names u, refl, stands))
    (adds_named p (with_type w (new_named n.text w u)) n (type_name (ty.named (length w.names))))
  where
    e : u ≡ c.type_
    e = some_type u c.type_ c.found

    stands : IsTrue (is_scalar (underlying w.names u))
    stands =
        subst (λ (v : Ty). IsTrue (is_scalar v)) (under_kept p (at_vars a vs) w i.ready u (subst (TypeIsSet w.names) (sym e) c.set)) (subst (IsScalarType p) (sym e) c.scalar)

-- the type is found in w, and declared where its names are noted
type_spec_done : (p : CoreProgram) (a : node.Around) (n : Name) (alias : Bool) (e : t.Expr) → HasOperators e → (vs : List Var) (b : Around) (w : Walk) → State p a vs b w → (q : Option Place) → NamesOf p (type_spec n alias e q w).walk → (type_spec n alias e q w).flaws ≡ []
    → Done p a vs w (type_spec n alias e q w)
type_spec_done p a n alias e o vs b w s (Some at) m h = cc
type_spec_done p a n alias e o vs b w s None m h = by_test (is_bare n.text e) m h
  where
    scoped : Scoped p a vs (uses e w)
    scoped = record { ready = ready_like p (at_vars a vs) w (uses e w) (like_uses e w s.ready.all_typed) s.ready; before = s.before }

    typed : (type_in w e).flaws ≡ [] → IsAType p (at_vars a vs) (uses e w) scoped.ready (type_of (type_in w e).answer)
    typed g = let c = type_there p (at_vars a vs) w s.ready e o g in record { type_ = c.type_; found = c.found; scalar = c.scalar; set = c.set }

    by_test : (c : Bool) → NamesOf p (if c then faulty (flaw n.place 74 ∷ []) (uses e (with_name n unknown w)) else faulty (type_in w e).flaws (declare_type n alias (type_of (type_in w e).answer) (uses e w))).walk
        → (if c then faulty (flaw n.place 74 ∷ []) (uses e (with_name n unknown w)) else faulty (type_in w e).flaws (declare_type n alias (type_of (type_in w e).answer) (uses e w))).flaws ≡ []
        → Done p a vs w (if c then faulty (flaw n.place 74 ∷ []) (uses e (with_name n unknown w)) else faulty (type_in w e).flaws (declare_type n alias (type_of (type_in w e).answer) (uses e w)))
    by_test true k g = cc
    by_test false k g =
        done_like p a vs w (uses e w) (faulty (type_in w e).flaws (declare_type n alias (type_of (type_in w e).answer) (uses e w))) (like_uses e w s.ready.all_typed)
        (done_quiet p a vs (uses e w) (faulty (type_in w e).flaws (declare_type n alias (type_of (type_in w e).answer) (uses e w)))
        (record { nothing = refl; scoped = type_scoped p a vs (uses e w) n alias (type_of (type_in w e).answer) scoped (typed g) k; adds = type_adds p a vs (uses e w) n alias (type_of (type_in w e).answer) scoped (typed g) }))

type_specs_done : (p : CoreProgram) (a : node.Around) (xs : t.TypeSpecs) → TypesOfGrammar xs → (vs : List Var) (b : Around) (w : Walk) → State p a vs b w → Holds p a.declarable w (type_specs xs w).walk → (type_specs xs w).flaws ≡ []
    → Done p a vs w (type_specs xs w)
type_specs_done p a t.NoTypes o vs b w s k h = done_none p a vs b w s
type_specs_done p a (t.MoreTypes n alias e xs) o vs b w s k h =
    done_then p a vs w d (type_specs xs d.walk) on first
    (type_specs_done p a xs o.1 (after_vars d.core vs) b d.walk (state_on p a vs b w d s on first)
    (holds_part p a.declarable w d.walk (type_specs xs d.walk).walk (type_specs xs d.walk).walk on (stays (type_specs xs d.walk).walk) k) (no_second d.flaws _ h))
  where
    d : Did
    d = type_spec n alias e (is_there n w) w

    on : GoesOn w d.walk
    on = type_spec_on n alias e (is_there n w) w

    held : Holds p a.declarable w d.walk
    held = holds_part p a.declarable w w d.walk (type_specs xs d.walk).walk (stays w) (type_specs_on xs d.walk) k

    first : Done p a vs w d
    first = type_spec_done p a n alias e o.0 vs b w s (is_there n w) (names_of p a.declarable w d.walk held) (no_first d.flaws _ h)

-- ---- declarations in functions

pub decl_done : (p : CoreProgram) (a : node.Around) (d : t.Decl) → DeclOfGrammar d → (vs : List Var) (b : Around) (w : Walk) → State p a vs b w → Holds p a.declarable w (decl d w).walk → (decl d w).flaws ≡ [] → Done p a vs w (decl d w)
decl_done p a (t.ConstDecl at xs) o vs b w s k h = const_specs_done p a at 0 t.NoExpr t.NoExprs xs tt tt o vs b w s k h
decl_done p a (t.TypeDecl at ts) o vs b w s k h = type_specs_done p a ts o vs b w s k h
decl_done p a (t.VarDecl at xs) o vs b w s k h = var_specs_done p a at xs o vs b w s k h
decl_done p a (t.FuncDecl at n sig x) o vs b w s k h = cc
decl_done p a (t.MethodDecl at q ps n sig x) o vs b w s k h = cc

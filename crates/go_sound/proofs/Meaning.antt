-- What the names of a package stand for has a meaning in its program: round by round, as they are typed.
use Rattle.std.proofs.Common.{◌≡◌, ◌⊎◌, inl, inr, ℕ, zero, suc, ◌+◌, length, List, [], ◌∷◌, ◌++◌, refl, sym, subst, ap, ◌∙◌, IsTrue, Bool, true, false, Option, Some, None, option_map, if◌then◌else◌, bytes_eq, slice_get}
use Rattle.gj_base.specs.declared.place.Place.{Place}
use Rattle.go_const.specs.declared.constant.Const.{Const}
use Rattle.go_syntax.specs.Tree as t
use Rattle.go_syntax.specs.declared.tree.Name.{Name}
use Rattle.go_type.specs.Tree as ty
use Rattle.go_type.specs.Tree.{Ty, Tys, no_tys, more_tys}
use Rattle.go_type.specs.Named.{NamedTy}
use Rattle.go_type.specs.Underlying.{underlying, under_at, or_else}
use Rattle.go_core.specs.CoreTree as core
use Rattle.go_core.specs.CoreTree.{CoreProgram}
use Rattle.go_core.specs.TypeOf.{listed_types}
use Rattle.go_core.specs.SoundNode as node
use Rattle.go_core.specs.SoundNode.{Fits, CallsFunction, IsRowOf}
use Rattle.go_typing.specs.Env.{Decl, variable, global, constant, type_name, function, imported, nil_value, refused, unknown, Bind, find, lookup, or_in, universe}
use Rattle.go_typing.specs.Env as env
use Rattle.go_typing.specs.Answer.{Flaw, Answer, value, pending, type_, package_, built_in, blank, does, wrong, untyped_part}
use Rattle.go_typing.specs.Operand.{constant_of}
use Rattle.go_typing.specs.Convert.{is_scalar}
use Rattle.go_typing.specs.Wanted.{wanted_type}
use Rattle.go_typing.specs.Typing.{place_of}
use Rattle.go_typing.specs.Walk.{Walk}
use Rattle.go_typing.specs.Expressions.{answer_in, value_at, type_in, type_of}
use Rattle.go_typing.specs.Declare.{SpecType, no_type, of_type, lost_type, spec_type_of, spec_type, with_iota, counting, constant_value, constant_decl}
use Rattle.go_typing.specs.Signature.{Param, type_of_param, and_type, types_of, params_of, results_of, SigTypes, both, where_untold, sig_flaws, sig_types}
use Rattle.go_typing.specs.Items.{Item, constant_item, type_item, alias_item, function_item, variable_item, init_item}
use Rattle.go_typing.specs.Known.{Known, first_names, named_type, outside, type_found, type_decl, alias_decl, function_decl, decl_of, round, nothing_known, after_rounds}
use Rattle.go_sound.specs.SoundTyped.{HasOperators, BoundHasOperators, IsScalarType, AreScalarTypes, IsConstantOf, DeclIsSound, OptionIsSound, ScopesAreSound}
use Rattle.go_sound.proofs.KnownWords.{AllItems, all_items, nothing, binds_filled, alone_filled, LessUnder, under_found, named_filled, types_from, NumberedTo, IsAt, all_at}
use Rattle.go_sound.proofs.Grown.{KnowsLess, item_less}
use Rattle.go_sound.proofs.RoundsEnd.{chain, below}
use Rattle.go_sound.proofs.AddedTypes.{still_set}
use Rattle.go_sound.proofs.SoundWords.{AnswerSound, IsSound}
use Rattle.go_sound.proofs.SoundNodes.{nodes, wanted_value, IsAnswerValue}
use Rattle.go_sound.proofs.Here.{value_if}
use Rattle.go_sound.proofs.Signatures.{AllClean}
use Rattle.go_sound.proofs.Needed.{iota_looked_up, iota_decl}
use Rattle.go_sound.proofs.Items.{ItemFine, universe_of, sig_clean, SigClean}
use Rattle.go_sound.proofs.Scope.{found_item, of_first}

-- ---- a scalar type stays so where named types grow

abbrev Grows : List NamedTy → List NamedTy → Type 0
Grows ns ms = (id : ℕ) → LessUnder (under_at ns id) (under_at ms id)

scalar_kept : (ns ms : List NamedTy) → Grows ns ms → (u : Ty) → IsTrue (is_scalar (underlying ns u)) → underlying ms u ≡ underlying ns u
scalar_kept ns ms g (ty.named id) h = by_case (g id)
  where
    by_case : LessUnder (under_at ns id) (under_at ms id) → underlying ms (ty.named id) ≡ underlying ns (ty.named id)
    by_case (inl e) = let f : false ≡ true = subst (λ (o : Option Ty). IsTrue (is_scalar (or_else o (ty.named id)))) e h in cc
    by_case (inr e) = ap (λ (o : Option Ty). or_else o (ty.named id)) (sym e)
scalar_kept ns ms g _ h = refl

module _ (p : CoreProgram) where
  -- the program with these named types
  abbrev pub p_at : List NamedTy → CoreProgram
  p_at ns = record p { names = ns }

  module _ (ns ms : List NamedTy) (g : Grows ns ms) where
    type_kept : (u : Ty) → IsScalarType (p_at ns) u → IsScalarType (p_at ms) u
    type_kept u h = subst (λ (v : Ty). IsTrue (is_scalar v)) (sym (scalar_kept ns ms g u h)) h

    types_kept : (us : Tys) → AreScalarTypes (p_at ns) us → AreScalarTypes (p_at ms) us
    types_kept no_tys h = tt
    types_kept (more_tys u us) h = (type_kept u h.0, types_kept us h.1)

    constant_kept : (u : Ty) (k : Const) → IsConstantOf (p_at ns) u k → IsConstantOf (p_at ms) u k
    constant_kept (ty.untyped b) k h = tt
    constant_kept u k h = (type_kept u h.0, subst (λ (v : Ty). Fits v (constant_of k)) (sym (scalar_kept ns ms g u h.0)) h.1)

    pub decl_kept : (a : node.Around) (d : Decl) → DeclIsSound (p_at ns) a d → DeclIsSound (p_at ms) a d
    decl_kept a (variable id u) h = (type_kept u h.0, h.1)
    decl_kept a (global number u) h = (type_kept u h.0, h.1)
    decl_kept a (constant k u) h = constant_kept u k h
    decl_kept a (type_name u) h = type_kept u h
    decl_kept a (function id ps rs true) h = tt
    decl_kept a (function id ps rs false) h = (h.0, h.1, types_kept ps h.2, types_kept rs h.3)
    decl_kept a (imported path) h = tt
    decl_kept a (env.built_in b) h = tt
    decl_kept a nil_value h = tt
    decl_kept a (refused code) h = tt
    decl_kept a unknown h = tt

-- ---- the universe

abbrev pub is_plain : Decl → Bool
is_plain (constant k (ty.untyped b)) = true
is_plain (type_name u) = is_scalar u
is_plain (env.built_in b) = true
is_plain nil_value = true
is_plain (refused code) = true
is_plain _ = false

abbrev pub all_plain : List Bind → Bool
all_plain [] = true
all_plain (b ∷ bs) = if is_plain b.what then all_plain bs else false

plain_scalar : (ns : List NamedTy) (u : Ty) → is_scalar u ≡ true → is_scalar (underlying ns u) ≡ true
plain_scalar ns (ty.named id) h = let e : false ≡ true = h in cc
plain_scalar ns u h = h

plain_sound : (q : CoreProgram) (a : node.Around) (d : Decl) → is_plain d ≡ true → DeclIsSound q a d
plain_sound q a (constant k (ty.untyped b)) h = tt
plain_sound q a (constant k _) h = let e : false ≡ true = h in cc
plain_sound q a (type_name u) h = plain_scalar q.names u h
plain_sound q a (env.built_in b) h = tt
plain_sound q a nil_value h = tt
plain_sound q a (refused code) h = tt
plain_sound q a _ h = let e : false ≡ true = h in cc

pub plain_found : (q : CoreProgram) (a : node.Around) (x : List ℕ) (bs : List Bind) → all_plain bs ≡ true → OptionIsSound q a (find x bs)
plain_found q a x [] h = tt
plain_found q a x (b ∷ bs) h = by_test (λ e. plain_found q a x bs e) (is_plain b.what) refl h (bytes_eq b.name x)
  where
    by_test : (all_plain bs ≡ true → OptionIsSound q a (find x bs)) → (c : Bool) → is_plain b.what ≡ c → (if c then all_plain bs else false) ≡ true → (u : Bool) → OptionIsSound q a (if u then Some b.what else find x bs)
    by_test f true e i true = plain_sound q a b.what e
    by_test f true e i false = f i
    by_test f false e i u = cc

-- ---- what is typed has a meaning

some_ty : (u v : Ty) → Some u ≡ Some v → u ≡ v
some_ty u v e = ap (or_this u) e
  where
    or_this : Ty → Option Ty → Ty
    or_this s None = s
    or_this s (Some x) = x

some_tys : (u v : Tys) → Some u ≡ Some v → u ≡ v
some_tys u v e = ap (or_this u) e
  where
    or_this : Tys → Option Tys → Tys
    or_this s None = s
    or_this s (Some x) = x

some_sig : (u v : SigTypes) → Some u ≡ Some v → u ≡ v
some_sig u v e = ap (or_this u) e
  where
    or_this : SigTypes → Option SigTypes → SigTypes
    or_this s None = s
    or_this s (Some x) = x

type_sound : (q : CoreProgram) (a : node.Around) (at : Place) (x : Answer) (u : Ty) → type_of (wanted_type at x) ≡ Some u → IsSound q a x → IsScalarType q u
type_sound q a at (type_ v) u e h = let s = h.is_sound in subst (IsScalarType q) (some_ty v u e) s
type_sound q a at (wrong f fs) u e h = let g : None ≡ Some u = e in cc
type_sound q a at untyped_part u e h = let g : None ≡ Some u = e in cc
type_sound q a at (value c v k) u e h = let g : None ≡ Some u = e in cc
type_sound q a at (pending r b) u e h = let g : None ≡ Some u = e in cc
type_sound q a at (package_ r) u e h = let g : None ≡ Some u = e in cc
type_sound q a at (built_in b) u e h = let g : None ≡ Some u = e in cc
type_sound q a at blank u e h = let g : None ≡ Some u = e in cc
type_sound q a at (does s) u e h = let g : None ≡ Some u = e in cc

typed_constant : (q : CoreProgram) (a : node.Around) (c : core.Expr) (u : Ty) (k : Const) → AnswerSound q a (value c u (Some k)) → IsConstantOf q u k
typed_constant q a c (ty.untyped b) k h = tt
typed_constant q a c ty.nil k h = let e : Some k ≡ None = h in cc
typed_constant q a c (ty.tuple us) k h = let e : Some k ≡ None = h.3 in cc
typed_constant q a c _ k h = (h.scalar, h.fits)

constant_sound : (q : CoreProgram) (a : node.Around) (x : Answer) → IsSound q a x → DeclIsSound q a (constant_decl x)
constant_sound q a (value c u (Some k)) h = typed_constant q a c u k h.is_sound
constant_sound q a (value c u None) h = tt
constant_sound q a (wrong f fs) h = tt
constant_sound q a untyped_part h = tt
constant_sound q a (type_ u) h = tt
constant_sound q a (pending r b) h = tt
constant_sound q a (package_ r) h = tt
constant_sound q a (built_in b) h = tt
constant_sound q a blank h = tt
constant_sound q a (does s) h = tt

value_constant : (q : CoreProgram) (u : Ty) (k : Const) → IsScalarType q u → Fits (underlying q.names u) (constant_of k) → IsConstantOf q u k
value_constant q (ty.untyped b) k s f = tt
value_constant q _ k s f = (s, f)

wanted_sound : (q : CoreProgram) (a : node.Around) (x : Answer) → IsAnswerValue q a x → DeclIsSound q a (constant_decl x)
wanted_sound q a (value c u (Some k)) h = let v = h.is_value in value_constant q u k v.scalar v.fits
wanted_sound q a (value c u None) h = tt
wanted_sound q a (wrong f fs) h = tt
wanted_sound q a untyped_part h = tt
wanted_sound q a (type_ u) h = tt
wanted_sound q a (pending r b) h = tt
wanted_sound q a (package_ r) h = tt
wanted_sound q a (built_in b) h = tt
wanted_sound q a blank h = tt
wanted_sound q a (does s) h = tt

-- a function that is typed can be called
abbrev pub CallsItem : CoreProgram → Item → Decl → Type 0
CallsItem p (function_item n id s) d = (a : node.Around) (x : SigTypes) → d ≡ function_decl id (Some x) → CallsFunction (slice_get p.funcs id) a.vars (listed_types x.params) x.results × (IsRowOf p id → ⊥)
CallsItem p i d = Unit {0}

module _ (p : CoreProgram) (k : Known) (scopes : (a : node.Around) → ScopesAreSound (p_at p k.names) a (universe_of k)) where
  abbrev q : CoreProgram
  q = p_at p k.names

  counted : (a : node.Around) (j : ℕ) → ScopesAreSound q a (with_iota j (universe_of k))
  counted a j x = by_case (iota_looked_up x j (universe_of k))
    where
      by_case : (lookup x (with_iota j (universe_of k)) ≡ lookup x (universe_of k)) ⊎ (lookup x (universe_of k) ≡ None) × (lookup x (with_iota j (universe_of k)) ≡ Some (iota_decl j)) → OptionIsSound q a (lookup x (with_iota j (universe_of k)))
      by_case (inl e) = subst (OptionIsSound q a) (sym e) (scopes a x)
      by_case (inr e) = subst (OptionIsSound q a) (sym e.1) tt

  pub found_scalar : (a : node.Around) (e : t.Expr) (u : Ty) → HasOperators e → type_found k e ≡ Some u → IsScalarType q u
  found_scalar a e u o h = type_sound q a (place_of e) (answer_in (outside k) e) u h (nodes q a (universe_of k) (scopes a) e o)

  -- the type of a specification
  abbrev SpecSound : SpecType → Type 0
  SpecSound (of_type u) = IsScalarType q u
  SpecSound _ = Unit {0}

  spec_sound : (a : node.Around) (j : ℕ) (u : t.MaybeExpr) → BoundHasOperators u → SpecSound (spec_type (counting j (outside k)) u)
  spec_sound a j t.NoExpr o = tt
  spec_sound a j (t.AnExpr e) o = by_type (type_of (type_in (counting j (outside k)) e).answer) refl
    where
      by_type : (x : Option Ty) → type_of (type_in (counting j (outside k)) e).answer ≡ x → SpecSound (spec_type_of x)
      by_type None h = tt
      by_type (Some v) h = type_sound q a (place_of e) (answer_in (counting j (outside k)) e) v h (nodes q a (with_iota j (universe_of k)) (counted a j) e o)

  constant_here : (a : node.Around) (j : ℕ) (s : SpecType) (y : t.Expr) → SpecSound s → HasOperators y → DeclIsSound q a (constant_decl (constant_value (counting j (outside k)) s y).answer)
  constant_here a j no_type y s o = constant_sound q a (answer_in (counting j (outside k)) y) (nodes q a (with_iota j (universe_of k)) (counted a j) y o)
  constant_here a j lost_type y s o = tt
  constant_here a j (of_type u) y s o = by_test (is_scalar (underlying k.names u))
    where
      by_test : (b : Bool) → DeclIsSound q a (constant_decl (value_if (counting j (outside k)) u y b).answer)
      by_test true = wanted_sound q a (value_at (counting j (outside k)) u y).answer (wanted_value q a (place_of y) u (answer_in (counting j (outside k)) y) s (nodes q a (with_iota j (universe_of k)) (counted a j) y o))
      by_test false = tt

  -- ---- signatures

  and_first : (o : Option Ty) (r : Option Tys) (ts : Tys) → and_type o r ≡ Some ts → (u : Ty) × (us : Tys) × (o ≡ Some u) × (r ≡ Some us) × (more_tys u us ≡ ts)
  and_first (Some u) (Some us) ts e = (u, us, refl, refl, some_tys (more_tys u us) ts e)
  and_first (Some u) None ts e = let f : None ≡ Some ts = e in cc
  and_first None r ts e = let f : None ≡ Some ts = e in cc

  param_scalar : (a : node.Around) (x : Param) (u : Ty) → HasOperators x.type_ → type_of_param (outside k) x ≡ Some u → IsScalarType q u
  param_scalar a x u o h = by_test x.variadic h
    where
      by_test : (b : Bool) → (if b then None else type_found k x.type_) ≡ Some u → IsScalarType q u
      by_test true e = let f : None ≡ Some u = e in cc
      by_test false e = found_scalar a x.type_ u o e

  params_scalar : (a : node.Around) (w : Walk) (qs : List Param) (ts : Tys) → AllClean w qs → types_of (outside k) qs ≡ Some ts → AreScalarTypes q ts
  params_scalar a w [] ts c e = subst (AreScalarTypes q) (some_tys no_tys ts e) tt
  params_scalar a w (x ∷ qs) ts c e =
      let r = and_first (type_of_param (outside k) x) (types_of (outside k) qs) ts e in
      let f = c.0 in
      subst (AreScalarTypes q) r.4 (param_scalar a x r.0 f.operators r.2, params_scalar a w qs r.1 c.1 r.3)

  both_found : (fs : List Flaw) (o r : Option Tys) (x : SigTypes) → where_untold fs (both o r) ≡ Some x → (o ≡ Some x.params) × (r ≡ Some x.results)
  both_found [] (Some ps) (Some rs) x e = (ap (λ (s : SigTypes). Some s.params) (some_sig (record { params = ps; results = rs }) x e), ap (λ (s : SigTypes). Some s.results) (some_sig (record { params = ps; results = rs }) x e))
  both_found [] (Some ps) None x e = let f : None ≡ Some x = e in cc
  both_found [] None r x e = let f : None ≡ Some x = e in cc
  both_found (g ∷ gs) o r x e = let f : None ≡ Some x = e in cc

  function_here : (a : node.Around) (w : Walk) (n : Name) (id : ℕ) (s : t.Sig) → SigClean w s → CallsItem p (function_item n id s) (decl_of k (function_item n id s)) → DeclIsSound q a (decl_of k (function_item n id s))
  function_here a w n id s c f = by_sig (sig_types (outside k) s) refl
    where
      by_sig : (o : Option SigTypes) → sig_types (outside k) s ≡ o → DeclIsSound q a (function_decl id o)
      by_sig None e = tt
      by_sig (Some x) e =
          let g = both_found (sig_flaws (outside k) s) (types_of (outside k) (params_of s)) (types_of (outside k) (results_of s)) x e in
          let h = f a x (ap (function_decl id) e) in
          (h.0, h.1, params_scalar a w (params_of s) x.params c.params g.0, params_scalar a w (results_of s) x.results c.results g.1)

  -- a declaration that is no type of its own
  abbrev OfOthers : (Decl → Type 0) → Item → Type 0
  OfOthers Q (type_item n number e) = Unit {0}
  OfOthers Q i = Q (decl_of k i)

  others_sound : (a : node.Around) (f : Known) (i : Item) → ItemFine f i → CallsItem p i (decl_of k i) → OfOthers (DeclIsSound q a) i
  others_sound a f (constant_item n j u (Some y) all) o c = constant_here a j (spec_type (counting j (outside k)) u) y (spec_sound a j u o.0) o.1
  others_sound a f (constant_item n j u None all) o c = tt
  others_sound a f (type_item n j e) o c = tt
  others_sound a f (alias_item n e) o c = by_type (type_found k e) refl
    where
      by_type : (x : Option Ty) → type_found k e ≡ x → DeclIsSound q a (alias_decl x)
      by_type None h = tt
      by_type (Some u) h = found_scalar a e u o.0 h
  others_sound a f (function_item n id s) o c = function_here a (outside f) n id s (sig_clean f s o.0 o.1) c
  others_sound a f (variable_item n) o c = tt
  others_sound a f (init_item n) o c = tt

-- ---- round by round

module _ (p : CoreProgram) (is : List Item) (m : ℕ) (numbered : NumberedTo 0 is m) (final : Known) (fixed : round is final ≡ final) (fine : AllItems (ItemFine final) is) (calls : AllItems (λ (i : Item). CallsItem p i (decl_of final i)) is) where
  abbrev ScopeOk : Known → Type 0
  ScopeOk k = (a : node.Around) → ScopesAreSound (p_at p k.names) a (universe_of k)

  abbrev is_function_decl : Decl → Bool
  is_function_decl (function id ps rs v) = true
  is_function_decl _ = false

  call_function : (n : ℕ) (x : Name) (id : ℕ) (s : t.Sig) → CallsItem p (function_item x id s) (decl_of final (function_item x id s)) → (a : node.Around) (y : SigTypes)
      → decl_of (after_rounds n is) (function_item x id s) ≡ function_decl id (Some y) → CallsFunction (slice_get p.funcs id) a.vars (listed_types y.params) y.results × (IsRowOf p id → ⊥)
  call_function n x id s c a y e = by_case (let l = item_less (after_rounds n is) final (below is m numbered final fixed n) (function_item x id s) in l.less)
    where
      by_case : (decl_of (after_rounds n is) (function_item x id s) ≡ unknown) ⊎ (decl_of (after_rounds n is) (function_item x id s) ≡ decl_of final (function_item x id s)) → CallsFunction (slice_get p.funcs id) a.vars (listed_types y.params) y.results × (IsRowOf p id → ⊥)
      by_case (inl u) = let g : true ≡ false = ap is_function_decl (sym e ∙ u) in cc
      by_case (inr u) = c a y (sym u ∙ e)

  call_here : (n : ℕ) (i : Item) → CallsItem p i (decl_of final i) → CallsItem p i (decl_of (after_rounds n is) i)
  call_here n (function_item x id s) c = call_function n x id s c
  call_here n (constant_item x j u y all) c = tt
  call_here n (type_item x j e) c = tt
  call_here n (alias_item x e) c = tt
  call_here n (variable_item x) c = tt
  call_here n (init_item x) c = tt

  calls_here : (n : ℕ) → AllItems (λ (i : Item). CallsItem p i (decl_of (after_rounds n is) i)) is
  calls_here n = all_items (λ (i : Item). CallsItem p i (decl_of final i)) (λ (i : Item). CallsItem p i (decl_of (after_rounds n is) i)) (λ i c. call_here n i c) is calls

  -- nothing is known at first
  first_ok : ScopeOk (nothing_known is)
  first_ok a x = by_found (find x (nothing_known is).binds) refl
    where
      by_found : (o : Option Decl) → find x (nothing_known is).binds ≡ o → OptionIsSound (p_at p (nothing_known is).names) a (or_in o (find x (universe None)))
      by_found None g = plain_found (p_at p (nothing_known is).names) a x (universe None) refl
      by_found (Some d) g = let i = found_item nothing is x d (nothing_known is).binds (alone_filled is []) g in subst (DeclIsSound (p_at p (nothing_known is).names) a) i.declared tt

  next_ok : (k : Known) → KnowsLess k (round is k) → AllItems (λ (i : Item). CallsItem p i (decl_of k i)) is → ScopeOk k → ScopeOk (round is k)
  next_ok k know here ok a x = by_found (find x (round is k).binds) refl
    where
      same : (round is k).names ≡ first_names ++ types_from (under_found k) is
      same = ap (λ (ns : List NamedTy). first_names ++ ns) (named_filled k is)

      places : AllItems (IsAt (under_found k) (length first_names) (first_names ++ types_from (under_found k) is)) is
      places = all_at (under_found k) (length first_names) 0 m first_names is refl numbered

      -- a type stands for what its expression does
      own_type : (number : ℕ) (e : t.Expr) (u : Ty) → HasOperators e → type_found k e ≡ Some u → under_at (first_names ++ types_from (under_found k) is) (length first_names + number) ≡ under_found k e → IsScalarType (p_at p (round is k).names) (named_type number)
      own_type number e u o h at =
          subst (λ (r : Option Ty). IsTrue (is_scalar (or_else r (named_type number))))
          (sym (ap (λ (ns : List NamedTy). under_at ns (length first_names + number)) same ∙ at ∙ ap (option_map (underlying k.names)) h)) (found_scalar p k ok a e u o h)

      kept : (i : Item) → DeclIsSound (p_at p k.names) a (decl_of k i) → DeclIsSound (p_at p (round is k).names) a (decl_of k i)
      kept i h = decl_kept p k.names (round is k).names know.grows a (decl_of k i) h

      item_ok : (i : Item) → ItemFine final i → IsAt (under_found k) (length first_names) (first_names ++ types_from (under_found k) is) i → CallsItem p i (decl_of k i) → DeclIsSound (p_at p (round is k).names) a (decl_of k i)
      item_ok (type_item n number e) f at c = by_type (type_found k e) refl
        where
          by_type : (o : Option Ty) → type_found k e ≡ o → DeclIsSound (p_at p (round is k).names) a (type_decl (named_type number) o)
          by_type None h = tt
          by_type (Some u) h = own_type number e u f.0 h at
      item_ok (constant_item n j u y all) f at c = kept (constant_item n j u y all) (others_sound p k ok a final (constant_item n j u y all) f c)
      item_ok (alias_item n e) f at c = kept (alias_item n e) (others_sound p k ok a final (alias_item n e) f c)
      item_ok (function_item n id s) f at c = kept (function_item n id s) (others_sound p k ok a final (function_item n id s) f c)
      item_ok (variable_item n) f at c = tt
      item_ok (init_item n) f at c = tt

      by_found : (o : Option Decl) → find x (round is k).binds ≡ o → OptionIsSound (p_at p (round is k).names) a (or_in o (find x (universe None)))
      by_found None g = plain_found (p_at p (round is k).names) a x (universe None) refl
      by_found (Some d) g =
          let i = found_item (decl_of k) is x d (round is k).binds (binds_filled k is []) g in
          subst (DeclIsSound (p_at p (round is k).names) a) i.declared (item_ok i.item (of_first (ItemFine final) x is i.item fine i.first) (of_first (IsAt (under_found k) (length first_names) (first_names ++ types_from (under_found k) is)) x is i.item places i.first) (of_first (λ (j : Item). CallsItem p j (decl_of k j)) x is i.item here i.first))

  pub rounds_ok : (n : ℕ) → ScopeOk (after_rounds n is)
  rounds_ok zero = first_ok
  rounds_ok (suc n) = next_ok (after_rounds n is) (chain is m numbered n) (calls_here n) (rounds_ok n)

-- ---- and in the whole program, with the named types of its bodies

pub grows_more : (ns more : List NamedTy) → Grows ns (ns ++ more)
grows_more ns more id = by_case (under_at ns id) refl
  where
    by_case : (o : Option Ty) → under_at ns id ≡ o → LessUnder (under_at ns id) (under_at (ns ++ more) id)
    by_case None e = inl e
    by_case (Some u) e = inr (e ∙ sym (still_set ns more id u e))

pub scopes_more : (p : CoreProgram) (ns more : List NamedTy) → p.names ≡ ns ++ more → (ss : List (List Bind)) → ((a : node.Around) → ScopesAreSound (p_at p ns) a ss) → (a : node.Around) → ScopesAreSound p a ss
scopes_more p ns more e ss h a x = by_case (lookup x ss) (h a x)
  where
    by_case : (o : Option Decl) → OptionIsSound (p_at p ns) a o → OptionIsSound p a o
    by_case None s = tt
    by_case (Some d) s = decl_kept p ns p.names (subst (Grows ns) (sym e) (grows_more ns more)) a d s

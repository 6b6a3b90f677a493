-- The scope of a package of which nothing is told has a meaning in its program.
use Rattle.std.proofs.Common.{◌≡◌, ◌<◌, ◌⊎◌, inl, inr, ℕ, zero, suc, ◌+◌, length, List, [], ◌∷◌, ◌++◌, append_assoc, append-nil, refl, sym, subst, ap, ◌∙◌, arith, Bool, true, false, Option, Some, None, if◌then◌else◌, bytes_eq, slice_get, slice_index_or, codes, Contains}
use Rattle.gj_base.specs.declared.place.Place.{Place}
use Rattle.go_syntax.specs.Tree as t
use Rattle.go_syntax.specs.declared.tree.Name.{Name}
use Rattle.go_type.specs.Tree as ty
use Rattle.go_type.specs.Tree.{Ty, Tys, no_tys}
use Rattle.go_type.specs.Named.{NamedTy}
use Rattle.go_core.specs.CoreTree.{CoreFunc, CoreProgram, MethodRow}
use Rattle.go_core.specs.TypeOf.{listed_types}
use Rattle.go_core.specs.SoundNode as node
use Rattle.go_core.specs.SoundNode.{AreInScope, CallsFunction, IsRowOf}
use Rattle.go_typing.specs.Env.{Decl, variable, global, constant, type_name, function, imported, nil_value, refused, unknown, Bind, find, lookup, or_in, universe}
use Rattle.go_typing.specs.Env as env
use Rattle.go_typing.specs.Walk.{Walk}
use Rattle.go_typing.specs.Declare.{names_count}
use Rattle.go_typing.specs.Signature.{SigTypes, sig_types}
use Rattle.go_typing.specs.Items.{Item, constant_item, type_item, alias_item, function_item, variable_item, init_item, is_init, each_name, spec_items, constant_items, type_items, types_after, items_from, items_of}
use Rattle.go_typing.specs.Known.{Known, outside, function_decl, decl_of, after_rounds}
use Rattle.go_typing.specs.Told.{function_told, specs_told, types_told, decls_told}
use Rattle.go_typing.specs.Functions.{Between, Functions, results_typed, around_body, after_body, params_typed, results_or_none, core_function, function_then, functions_from}
use Rattle.go_typing.specs.Checked.{known_in, between_of, first_too_far, functions_in, count_functions, told, error_function, runtime_function, method_at, program_of}
use Rattle.go_sound.specs.Added.{DeclIsSet, ScopesAreSet}
use Rattle.go_sound.specs.SoundTyped.{ScopesAreSound}
use Rattle.go_sound.proofs.AgreeTyping.{DeclAgrees, OptionAgrees}
use Rattle.go_sound.proofs.KnownWords.{AllItems, all_items}
use Rattle.go_sound.proofs.Numbered.{IsNumbered, items_numbered}
use Rattle.go_sound.proofs.Grown.{IsSet, KnowsLess}
use Rattle.go_sound.proofs.RoundsEnd.{is_unknown, chain, is_fixed}
use Rattle.go_sound.proofs.SoundBodies.{no_first, no_second, set_again, sets_again}
use Rattle.go_sound.proofs.GoesOnBodies.{body_on}
use Rattle.go_sound.specs.Grammar.{DeclsOfGrammar}
use Rattle.go_sound.specs.SoundFunctions.{PackageIsReady}
use Rattle.go_sound.specs.SoundPrograms.{PackagesAreReady}
use Rattle.go_sound.proofs.Words.{body_at}
use Rattle.go_sound.proofs.Items.{universe_of, items_fine, items_joined, FunctionFine, function_fine}
use Rattle.go_sound.proofs.Scope.{no_decls_told, some_decl, names_typed}
use Rattle.go_sound.proofs.Meaning.{p_at, is_plain, all_plain, CallsItem, rounds_ok, scopes_more}

-- ---- functions in the program's list

pub seam : (fs : List CoreFunc) (f : CoreFunc) (gs : List CoreFunc) → slice_get (fs ++ f ∷ gs) (length fs) ≡ Some f
seam [] f gs = refl
seam (g ∷ fs) f gs = seam fs f gs

longer : (fs : List CoreFunc) (f : CoreFunc) → length (fs ++ f ∷ []) ≡ suc (length fs)
longer [] f = refl
longer (g ∷ fs) f = ap suc (longer fs f)

-- the function with a number has the types of its signature, and captures nothing
pub record FunctionAt (p : CoreProgram) (w : Walk) (id : ℕ) (s : t.Sig) : Type 0 where
  pub function : CoreFunc
  pub found : slice_get p.funcs id ≡ Some function
  pub captures : function.captured ≡ []
  pub params : function.params ≡ params_typed (sig_types w s)
  pub results : function.results ≡ results_or_none (results_typed (sig_types w s))

abbrev pub ItemAt : CoreProgram → Walk → Item → Type 0
ItemAt p w (function_item n id s) = FunctionAt p w id s × (IsRowOf p id → ⊥)
ItemAt p w i = Unit {0}

module _ (p : CoreProgram) (w : Walk) where
  each_at : (j : ℕ) (u : t.MaybeExpr) (all : t.Exprs) (ns : List Name) (ys : t.Exprs) → AllItems (ItemAt p w) (each_name j u all ns ys)
  each_at j u all [] ys = tt
  each_at j u all (n ∷ ns) t.NoExprs = (tt, each_at j u all ns t.NoExprs)
  each_at j u all (n ∷ ns) (t.MoreExprs y ys) = (tt, each_at j u all ns ys)

  constants_at : (j : ℕ) (u : t.MaybeExpr) (ys : t.Exprs) (vs : t.ValueSpecs) → AllItems (ItemAt p w) (constant_items j u ys vs)
  constants_at j u ys t.NoValues = tt
  constants_at j u ys (t.MoreValues ns v t.NoExprs vs) =
      items_joined (ItemAt p w) (spec_items j u ns ys) (constant_items (suc j) u ys vs) (each_at j u ys ns (if names_count ns ys then ys else t.NoExprs)) (constants_at (suc j) u ys vs)
  constants_at j u ys (t.MoreValues ns v (t.MoreExprs z zs) vs) =
      items_joined (ItemAt p w) (spec_items j v ns (t.MoreExprs z zs)) (constant_items (suc j) v (t.MoreExprs z zs) vs)
      (each_at j v (t.MoreExprs z zs) ns (if names_count ns (t.MoreExprs z zs) then t.MoreExprs z zs else t.NoExprs)) (constants_at (suc j) v (t.MoreExprs z zs) vs)

  types_at : (j : ℕ) (ts : t.TypeSpecs) → AllItems (ItemAt p w) (type_items j ts)
  types_at j t.NoTypes = tt
  types_at j (t.MoreTypes n true e ts) = (tt, types_at j ts)
  types_at j (t.MoreTypes n false e ts) = (tt, types_at (suc j) ts)

-- what comes of a function that is no `init`
pub and_then_functions : (far : Option Place) (w : Walk) (at : Place) (n : Name) (s : t.Sig) (b : t.Block) (ds : List t.Decl) (k : Between) → is_init n ≡ false
    → functions_from far w (t.FuncDecl at n s b ∷ ds) k ≡ function_then at n (sig_types w s) (body_at far w k at n s b) (functions_from far w ds)
and_then_functions far w at n s b ds k e = ap (λ (c : Bool). if c then functions_from far w ds k else function_then at n (sig_types w s) (body_at far w k at n s b) (functions_from far w ds)) e

module _ (far : Option Place) (p : CoreProgram) (f : Known) (total : ℕ) (rows : (j : ℕ) → j < total → IsRowOf p j → ⊥) where
  pub functions_at : (j id : ℕ) (ds : List t.Decl) (k : Between) (before after : List CoreFunc) → p.funcs ≡ before ++ (functions_from far (outside f) ds k).funcs ++ after → length before ≡ id → id + count_functions ds ≡ total
      → decls_told (outside f) ds ≡ [] → AllItems (ItemAt p (outside f)) (items_from j id ds)
  functions_at j id [] k before after e l c h = tt
  functions_at j id (t.ConstDecl at vs ∷ ds) k before after e l c h =
      items_joined (ItemAt p (outside f)) (constant_items 0 t.NoExpr t.NoExprs vs) (items_from j id ds) (constants_at p (outside f) 0 t.NoExpr t.NoExprs vs) (functions_at j id ds k before after e l c (no_second (specs_told at 0 (outside f) t.NoExpr t.NoExprs vs) _ h))
  functions_at j id (t.TypeDecl at ts ∷ ds) k before after e l c h =
      items_joined (ItemAt p (outside f)) (type_items j ts) (items_from (types_after j ts) id ds) (types_at p (outside f) j ts) (functions_at (types_after j ts) id ds k before after e l c (no_second (types_told (outside f) ts) _ h))
  functions_at j id (t.VarDecl at vs ∷ ds) k before after e l c h = cc
  functions_at j id (t.FuncDecl at n s b ∷ ds) k before after e l c h = (
    subst (λ (x : Bool). ItemAt p (outside f) (if x then init_item n else function_item n id s)) (sym fine.no_init) (here, rows id (omega arith)),
    functions_at j (suc id) ds (after_body (body_at far (outside f) k at n s b)) (before ++ core_function at n (sig_types (outside f) s) (body_at far (outside f) k at n s b) ∷ []) after whole
        (longer before (core_function at n (sig_types (outside f) s) (body_at far (outside f) k at n s b)) ∙ ap suc l) (omega arith) (no_second (function_told at n s (outside f)) (decls_told (outside f) ds) h),
  )
    where
      fine : FunctionFine f n s
      fine = function_fine f at n s (no_first (function_told at n s (outside f)) (decls_told (outside f) ds) h)

      split : p.funcs
          ≡ before
          ++ (core_function at n (sig_types (outside f) s) (body_at far (outside f) k at n s b) ∷ (functions_from far (outside f) ds (after_body (body_at far (outside f) k at n s b))).funcs) ++ after
      split = subst (λ (r : List CoreFunc). p.funcs ≡ before ++ r ++ after) (ap (λ (r : Functions). r.funcs) (and_then_functions far (outside f) at n s b ds k fine.no_init)) e

      here : FunctionAt p (outside f) id s
      here = record {
        function = core_function at n (sig_types (outside f) s) (body_at far (outside f) k at n s b);
        found = ap (λ (fs : List CoreFunc). slice_get fs id) (split ∙ append_assoc before _ after)
            ∙ ap (slice_get (before ++ core_function at n (sig_types (outside f) s) (body_at far (outside f) k at n s b) ∷ _)) (sym l) ∙ seam before _ _;
        captures = refl;
        params = refl;
        results = refl;
      }

      whole : p.funcs
          ≡ (before ++ core_function at n (sig_types (outside f) s) (body_at far (outside f) k at n s b) ∷ [])
          ++ (functions_from far (outside f) ds (after_body (body_at far (outside f) k at n s b))).funcs ++ after
      whole = split
          ∙ ap (λ (r : List CoreFunc). r ++ after)
          (sym (append_assoc before (core_function at n (sig_types (outside f) s) (body_at far (outside f) k at n s b) ∷ []) (functions_from far (outside f) ds (after_body (body_at far (outside f) k at n s b))).funcs))
  functions_at j id (t.MethodDecl at q rs n s b ∷ ds) k before after e l c h = cc

-- ---- rows of methods

either_row : (a b r : MethodRow) (i : ℕ) → i < 2 → slice_index_or (a ∷ b ∷ []) i r ≡ r → (r ≡ a) ⊎ (r ≡ b)
either_row a b r zero l e = inl (sym e)
either_row a b r (suc zero) l e = inr (sym e)
either_row a b r (suc (suc i)) l e = absurd (omega arith)

-- no row calls a function of the package
pub no_row : (ds : List t.Decl) (j : ℕ) → j < count_functions ds → IsRowOf (program_of ds) j → ⊥
no_row ds j l h = by_row (either_row (method_at (codes "Error") (count_functions ds)) (method_at (codes "RuntimeError") (suc (count_functions ds))) h.0 c.0 c.1 c.2)
  where
    c : Contains (program_of ds).methods h.0
    c = h.1

    by_row : (h.0 ≡ method_at (codes "Error") (count_functions ds)) ⊎ (h.0 ≡ method_at (codes "RuntimeError") (suc (count_functions ds))) → ⊥
    by_row (inl e) = let f : count_functions ds ≡ j = sym (ap (λ (r : MethodRow). r.func) e) ∙ h.2 in absurd (omega arith)
    by_row (inr e) = let f : suc (count_functions ds) ≡ j = sym (ap (λ (r : MethodRow). r.func) e) ∙ h.2 in absurd (omega arith)

-- ---- functions can be called

abbrev params_in : Decl → Tys
params_in (function id ps rs v) = ps
params_in d = no_tys

abbrev results_in_decl : Decl → Tys
results_in_decl (function id ps rs v) = rs
results_in_decl d = no_tys

sig_is : (id : ℕ) (x : SigTypes) (o : Option SigTypes) → function_decl id o ≡ function_decl id (Some x) → (x.params ≡ params_typed o) × (x.results ≡ results_or_none (results_typed o))
sig_is id x None e = let g : true ≡ false = ap is_unknown e in cc
sig_is id x (Some y) e = (ap params_in (sym e), ap results_in_decl (sym e))

function_calls : (p : CoreProgram) (k : Known) (n : Name) (id : ℕ) (s : t.Sig) → FunctionAt p (outside k) id s × (IsRowOf p id → ⊥) → (a : node.Around) (x : SigTypes) → decl_of k (function_item n id s) ≡ function_decl id (Some x)
    → CallsFunction (slice_get p.funcs id) a.vars (listed_types x.params) x.results × (IsRowOf p id → ⊥)
function_calls p k n id s h a x e =
    let f = h.0 in
    let g = sig_is id x (sig_types (outside k) s) e in (
      subst (λ (o : Option CoreFunc). CallsFunction o a.vars (listed_types x.params) x.results) (sym f.found)
          (subst (λ (vs : List ℕ). AreInScope vs a.vars) (sym f.captures) tt, ap listed_types (g.0 ∙ sym f.params), g.1 ∙ sym f.results),
      h.1,
    )

item_calls : (p : CoreProgram) (k : Known) (i : Item) → ItemAt p (outside k) i → CallsItem p i (decl_of k i)
item_calls p k (function_item n id s) h = function_calls p k n id s h
item_calls p k (constant_item n j u y all) h = tt
item_calls p k (type_item n j e) h = tt
item_calls p k (alias_item n e) h = tt
item_calls p k (variable_item n) h = tt
item_calls p k (init_item n) h = tt

-- ---- named types of bodies come after those of the package

pub functions_grow : (far : Option Place) (w : Walk) (ds : List t.Decl) (k : Between) → (types : List NamedTy) × ((functions_from far w ds k).between.names ≡ k.names ++ types)
functions_grow far w [] k = ([], sym (append-nil k.names))
functions_grow far w (t.FuncDecl at n s b ∷ ds) k = by_test (is_init n) (functions_grow far w ds k) (functions_grow far w ds (after_body (body_at far w k at n s b)))
  where
    by_test : (c : Bool) → (types : List NamedTy) × ((functions_from far w ds k).between.names ≡ k.names ++ types)
        → (types : List NamedTy) × ((functions_from far w ds (after_body (body_at far w k at n s b))).between.names ≡ (body_at far w k at n s b).walk.names ++ types)
        → (types : List NamedTy) × ((if c then functions_from far w ds k else function_then at n (sig_types w s) (body_at far w k at n s b) (functions_from far w ds)).between.names ≡ k.names ++ types)
    by_test true h l = h
    by_test false h l = let g = body_on w k s b (around_body far w at n s) in (g.types ++ l.0, l.1 ∙ ap (λ (ns : List NamedTy). ns ++ l.0) g.types_added ∙ append_assoc k.names g.types l.0)
functions_grow far w (t.ConstDecl at vs ∷ ds) k = functions_grow far w ds k
functions_grow far w (t.TypeDecl at ts ∷ ds) k = functions_grow far w ds k
functions_grow far w (t.VarDecl at vs ∷ ds) k = functions_grow far w ds k
functions_grow far w (t.MethodDecl at q rs n s b ∷ ds) k = functions_grow far w ds k

-- ---- types are set

found_plain : (x : List ℕ) (bs : List Bind) (d : Decl) → all_plain bs ≡ true → find x bs ≡ Some d → is_plain d ≡ true
found_plain x [] d h e = let f : None ≡ Some d = e in cc
found_plain x (b ∷ bs) d h e = by_test (λ g i. found_plain x bs d g i) (is_plain b.what) refl h (bytes_eq b.name x) e
  where
    by_test : (all_plain bs ≡ true → find x bs ≡ Some d → is_plain d ≡ true) → (c : Bool) → is_plain b.what ≡ c → (if c then all_plain bs else false) ≡ true → (u : Bool) → (if u then Some b.what else find x bs) ≡ Some d → is_plain d ≡ true
    by_test f true i g true j = subst (λ (c : Decl). is_plain c ≡ true) (some_decl b.what d j) i
    by_test f true i g false j = f g j
    by_test f false i g u j = cc

plain_set : (ns : List NamedTy) (d : Decl) → is_plain d ≡ true → DeclIsSet ns d
plain_set ns (constant k (ty.untyped b)) h = tt
plain_set ns (constant k _) h = let e : false ≡ true = h in cc
plain_set ns (type_name (ty.named id)) h = let e : false ≡ true = h in cc
plain_set ns (type_name (ty.tuple us)) h = let e : false ≡ true = h in cc
plain_set ns (type_name _) h = tt
plain_set ns (env.built_in b) h = tt
plain_set ns nil_value h = tt
plain_set ns (refused code) h = tt
plain_set ns _ h = let e : false ≡ true = h in cc

decl_set : (ns : List NamedTy) (d : Decl) → DeclAgrees (IsSet ns) d → DeclIsSet ns d
decl_set ns (variable id u) h = set_again ns u h
decl_set ns (global number u) h = set_again ns u h
decl_set ns (constant k u) h = set_again ns u h
decl_set ns (type_name u) h = set_again ns u h
decl_set ns (function id ps rs v) h = (sets_again ns ps h.0, sets_again ns rs h.1)
decl_set ns (imported path) h = tt
decl_set ns (env.built_in b) h = tt
decl_set ns nil_value h = tt
decl_set ns (refused code) h = tt
decl_set ns unknown h = tt

-- ---- the whole

module _ (ds : List t.Decl) (o : DeclsOfGrammar ds) (untold : told ds ≡ []) where
  calls : AllItems (λ (i : Item). CallsItem (program_of ds) i (decl_of (known_in ds) i)) (items_of ds)
  calls =
      all_items (ItemAt (program_of ds) (outside (known_in ds))) (λ (i : Item). CallsItem (program_of ds) i (decl_of (known_in ds) i)) (λ i h. item_calls (program_of ds) (known_in ds) i h) (items_of ds)
      (functions_at (first_too_far ds) (program_of ds) (known_in ds) (count_functions ds) (no_row ds) 0 0 ds (between_of (known_in ds)) []
      (error_function (functions_in (known_in ds) ds).between.next ∷ runtime_function ((functions_in (known_in ds) ds).between.next + 2) ∷ []) refl refl (omega arith) (no_decls_told ds untold))

  pub package_scopes : (a : node.Around) → ScopesAreSound (p_at (program_of ds) (known_in ds).names) a (universe_of (known_in ds))
  package_scopes =
      let n = items_numbered ds in
      rounds_ok (program_of ds) (items_of ds) n.last n.numbered (known_in ds) (is_fixed ds) (items_fine (known_in ds) 0 0 ds o (no_decls_told ds untold)) calls (length (items_of ds))

  scopes_set : ScopesAreSet (known_in ds).names (universe_of (known_in ds))
  scopes_set x d h = by_case (find x (known_in ds).binds) (know.set x) h
    where
      n : IsNumbered (items_of ds)
      n = items_numbered ds

      know : KnowsLess (after_rounds (length (items_of ds)) (items_of ds)) (after_rounds (suc (length (items_of ds))) (items_of ds))
      know = chain (items_of ds) n.last n.numbered (length (items_of ds))

      by_case : (c : Option Decl) → OptionAgrees (IsSet (known_in ds).names) c → or_in c (find x (universe None)) ≡ Some d → DeclIsSet (known_in ds).names d
      by_case None s e = plain_set (known_in ds).names d (found_plain x (universe None) d refl e)
      by_case (Some c) s e = subst (DeclIsSet (known_in ds).names) (some_decl c d e) (decl_set (known_in ds).names c s)

  package_ready : PackageIsReady (program_of ds) (outside (known_in ds))
  package_ready =
      let types = functions_grow (first_too_far ds) (outside (known_in ds)) ds (between_of (known_in ds)) in
      record {
        scopes = λ a. scopes_more (program_of ds) (known_in ds).names types.0 types.1 (universe_of (known_in ds)) package_scopes a;
        types_set = scopes_set;
        all_typed = names_typed ds o untold;
      }

pub packages_are_ready : PackagesAreReady
packages_are_ready ds o h = package_ready ds o h

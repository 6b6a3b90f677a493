-- Declarations of a package of which nothing is told: each is typed where the names that it needs are.
use Rattle.std.proofs.Common.{◌≡◌, inl, inr, ◌&&◌, ℕ, suc, List, [], ◌∷◌, ◌++◌, refl, sym, subst, ap, ◌∙◌, Bool, true, false, Option, Some, None, if◌then◌else◌}
use Rattle.gj_base.specs.declared.place.Place.{Place}
use Rattle.go_syntax.specs.Tree as t
use Rattle.go_syntax.specs.declared.tree.Name.{Name}
use Rattle.go_type.specs.Tree as ty
use Rattle.go_type.specs.Tree.{Ty, Tys, no_tys, more_tys}
use Rattle.go_type.specs.Underlying.{underlying}
use Rattle.go_typing.specs.Env.{Decl, unknown, Bind, universe}
use Rattle.go_typing.specs.Answer.{Flaw, flaw, Answer, value, pending, type_, package_, built_in, blank, does, wrong, untyped_part, is_known, own}
use Rattle.go_typing.specs.Convert.{is_scalar}
use Rattle.go_typing.specs.Wanted.{wanted, wanted_type}
use Rattle.go_typing.specs.Typing.{place_of, typing, flaws}
use Rattle.go_typing.specs.Faulty.{IsIn}
use Rattle.go_typing.specs.Walk.{Walk}
use Rattle.go_typing.specs.Expressions.{answer_in, flaws_in, value_at, type_in, type_of}
use Rattle.go_typing.specs.Assign.{all_typed, all_in_flaws}
use Rattle.go_typing.specs.Declare.{SpecType, no_type, of_type, lost_type, spec_type_of, spec_type, spec_type_flaws, counting, with_iota, constant_flaws, constant_value, constant_decl, spec_known, names_count, spec_place, count_told}
use Rattle.go_typing.specs.Signature.{Param, and_type, types_of, params_of, results_of, results_in, grouped, list_flaws, results_place, params_flaws, sig_flaws, SigTypes, both, where_untold, sig_types}
use Rattle.go_typing.specs.Items.{Item, constant_item, type_item, alias_item, function_item, variable_item, init_item, is_init, each_name, spec_items, constant_items, type_items, types_after, items_from}
use Rattle.go_typing.specs.Known.{Known, outside, named_type, type_found, type_decl, alias_decl, function_decl, decl_of}
use Rattle.go_typing.specs.Cycles.{needed, needed_bound, needed_all, needed_params, needs_of}
use Rattle.go_typing.specs.Told.{each_told, spec_told, specs_told, types_told, main_told, function_told, decls_told}
use Rattle.go_sound.specs.SoundTyped.{HasOperators, BoundHasOperators, AllHaveOperators}
use Rattle.go_sound.proofs.KnownWords.{AllItems}
use Rattle.go_sound.proofs.NothingLost.{Either}
use Rattle.go_sound.proofs.RoundsEnd.{is_unknown}
use Rattle.go_sound.proofs.SoundBodies.{no_first, no_second, value_of, wanted_form}
use Rattle.go_sound.specs.Grammar.{ValuesOfGrammar, TypesOfGrammar, SigOfGrammar, DeclsOfGrammar}
use Rattle.go_sound.proofs.Words.{one_of_three, two_of_three}
use Rattle.go_sound.proofs.Here.{typed_told, value_if}
use Rattle.go_sound.proofs.Signatures.{IsClean, AllClean, grouped_clean, results_clean}
use Rattle.go_sound.proofs.Needed.{NoneUnknown, none_left, none_right, nodes, iota_lost, iota_callees}

-- the scopes outside of functions
abbrev pub universe_of : Known → List (List Bind)
universe_of k = universe None ∷ k.binds ∷ []

-- ---- of each item nothing is told

abbrev pub ItemFine : Known → Item → Type 0
ItemFine k (constant_item n j u (Some y) all) =
    BoundHasOperators u × HasOperators y × (spec_type_flaws (counting j (outside k)) u ≡ []) × ((constant_value (counting j (outside k)) (spec_type (counting j (outside k)) u) y).flaws ≡ [])
ItemFine k (constant_item n j u None all) =
    (spec_type_flaws (counting j (outside k)) u ≡ []) × (at : Place) × (count_told (spec_type (counting j (outside k)) u) at (all_typed (counting j (outside k)) all) (all_in_flaws (counting j (outside k)) all) ≡ [])
ItemFine k (type_item n j e) = HasOperators e × ((type_in (outside k) e).flaws ≡ [])
ItemFine k (alias_item n e) = HasOperators e × ((type_in (outside k) e).flaws ≡ [])
ItemFine k (function_item n id s) = SigOfGrammar s × (sig_flaws (outside k) s ≡ [])
ItemFine k (variable_item n) = ⊥
ItemFine k (init_item n) = ⊥

pub items_joined : (Q : Item → Type 0) (is js : List Item) → AllItems Q is → AllItems Q js → AllItems Q (is ++ js)
items_joined Q [] js h k = k
items_joined Q (i ∷ is) js h k = (h.0, items_joined Q is js h.1 k)

-- the types of parameters and results, of which nothing is told
pub record SigClean (w : Walk) (s : t.Sig) : Type 0 where
  pub params : AllClean w (params_of s)
  pub results : AllClean w (results_of s)

pub sig_clean : (k : Known) (s : t.Sig) → SigOfGrammar s → sig_flaws (outside k) s ≡ [] → SigClean (outside k) s
sig_clean k (t.SigOf at ps rs) o h = record {
  params = grouped_clean (outside k) ps o.0 (no_first (params_flaws (outside k) (grouped ps)) _ (one_of_three (list_flaws (outside k) at (grouped ps)) (list_flaws (outside k) (results_place (t.SigOf at ps rs)) (results_in rs)) _ h));
  results = results_clean (outside k) rs o.1 (no_first (params_flaws (outside k) (results_in rs)) _ (two_of_three (list_flaws (outside k) at (grouped ps)) (list_flaws (outside k) (results_place (t.SigOf at ps rs)) (results_in rs)) _ h));
}

module _ (k : Known) where
  each_fine : (j : ℕ) (u : t.MaybeExpr) (all : t.Exprs) → BoundHasOperators u → spec_type_flaws (counting j (outside k)) u ≡ [] → (ns : List Name) (ys : t.Exprs) → AllHaveOperators ys → names_count ns ys ≡ true
      → each_told (counting j (outside k)) (spec_type (counting j (outside k)) u) ns ys ≡ [] → AllItems (ItemFine k) (each_name j u all ns ys)
  each_fine j u all o e [] ys q n h = tt
  each_fine j u all o e (x ∷ ns) t.NoExprs q n h = let f : false ≡ true = n in cc
  each_fine j u all o e (x ∷ ns) (t.MoreExprs y ys) q n h =
      let f = (constant_value (counting j (outside k)) (spec_type (counting j (outside k)) u) y).flaws in ((o, q.0, e, no_first f _ h), each_fine j u all o e ns ys q.1 n (no_second f _ h))

  lost_fine : (j : ℕ) (u : t.MaybeExpr) (all : t.Exprs) (at : Place) → spec_type_flaws (counting j (outside k)) u ≡ [] → count_told (spec_type (counting j (outside k)) u) at (all_typed (counting j (outside k)) all) (all_in_flaws (counting j (outside k)) all) ≡ [] → (ns : List Name)
      → AllItems (ItemFine k) (each_name j u all ns t.NoExprs)
  lost_fine j u all at e h [] = tt
  lost_fine j u all at e h (x ∷ ns) = ((e, at, h), lost_fine j u all at e h ns)

  spec_fine : (at : Place) (j : ℕ) (u : t.MaybeExpr) (ns : List Name) (ys : t.Exprs) → BoundHasOperators u → AllHaveOperators ys → spec_told at (counting j (outside k)) ns u ys ≡ [] → AllItems (ItemFine k) (spec_items j u ns ys)
  spec_fine at j u ns ys o q h = by_test (names_count ns ys) refl (no_second (spec_type_flaws (counting j (outside k)) u) _ h)
    where
      w : Walk
      w = counting j (outside k)

      by_test : (c : Bool) → names_count ns ys ≡ c → (if c then each_told w (spec_type w u) ns ys else count_told (spec_type w u) (spec_place ns at) (all_typed w ys) (all_in_flaws w ys)) ≡ [] → AllItems (ItemFine k) (each_name j u ys ns (if c then ys else t.NoExprs))
      by_test true e g = each_fine j u ys o (no_first (spec_type_flaws (counting j (outside k)) u) _ h) ns ys q e g
      by_test false e g = lost_fine j u ys (spec_place ns at) (no_first (spec_type_flaws (counting j (outside k)) u) _ h) g ns

  constants_fine : (at : Place) (j : ℕ) (u : t.MaybeExpr) (ys : t.Exprs) (vs : t.ValueSpecs) → BoundHasOperators u → AllHaveOperators ys → ValuesOfGrammar vs → specs_told at j (outside k) u ys vs ≡ [] → AllItems (ItemFine k) (constant_items j u ys vs)
  constants_fine at j u ys t.NoValues o q g h = tt
  constants_fine at j u ys (t.MoreValues ns v t.NoExprs vs) o q g h =
      items_joined (ItemFine k) (spec_items j u ns ys) (constant_items (suc j) u ys vs) (spec_fine at j u ns ys o q (no_first (spec_told at (counting j (outside k)) ns u ys) _ h))
      (constants_fine at (suc j) u ys vs o q g.2 (no_second (spec_told at (counting j (outside k)) ns u ys) _ h))
  constants_fine at j u ys (t.MoreValues ns v (t.MoreExprs z zs) vs) o q g h =
      items_joined (ItemFine k) (spec_items j v ns (t.MoreExprs z zs)) (constant_items (suc j) v (t.MoreExprs z zs) vs) (spec_fine at j v ns (t.MoreExprs z zs) g.0 g.1 (no_first (spec_told at (counting j (outside k)) ns v (t.MoreExprs z zs)) _ h))
      (constants_fine at (suc j) v (t.MoreExprs z zs) vs g.0 g.1 g.2 (no_second (spec_told at (counting j (outside k)) ns v (t.MoreExprs z zs)) _ h))

  types_fine : (j : ℕ) (ts : t.TypeSpecs) → TypesOfGrammar ts → types_told (outside k) ts ≡ [] → AllItems (ItemFine k) (type_items j ts)
  types_fine j t.NoTypes g h = tt
  types_fine j (t.MoreTypes n true e ts) g h = ((g.0, no_first (type_in (outside k) e).flaws _ h), types_fine j ts g.1 (no_second (type_in (outside k) e).flaws _ h))
  types_fine j (t.MoreTypes n false e ts) g h = ((g.0, no_first (type_in (outside k) e).flaws _ h), types_fine (suc j) ts g.1 (no_second (type_in (outside k) e).flaws _ h))

  -- nothing is told of a function's signature, and it isn't `init`
  pub record FunctionFine (n : Name) (s : t.Sig) : Type 0 where
    pub no_init : is_init n ≡ false
    pub sig_untold : sig_flaws (outside k) s ≡ []
    pub main_untold : main_told n (sig_types (outside k) s) ≡ []

  pub function_fine : (at : Place) (n : Name) (s : t.Sig) → function_told at n s (outside k) ≡ [] → FunctionFine n s
  function_fine at n s h = by_test (is_init n) refl h
    where
      by_test : (c : Bool) → is_init n ≡ c → (if c then flaw at 0 ∷ [] else sig_flaws (outside k) s ++ main_told n (sig_types (outside k) s)) ≡ [] → FunctionFine n s
      by_test true e g = cc
      by_test false e g = record { no_init = e; sig_untold = no_first (sig_flaws (outside k) s) _ g; main_untold = no_second (sig_flaws (outside k) s) _ g }

  pub items_fine : (j id : ℕ) (ds : List t.Decl) → DeclsOfGrammar ds → decls_told (outside k) ds ≡ [] → AllItems (ItemFine k) (items_from j id ds)
  items_fine j id [] g h = tt
  items_fine j id (t.ConstDecl at vs ∷ ds) g h =
      items_joined (ItemFine k) (constant_items 0 t.NoExpr t.NoExprs vs) (items_from j id ds) (constants_fine at 0 t.NoExpr t.NoExprs vs tt tt g.0 (no_first (specs_told at 0 (outside k) t.NoExpr t.NoExprs vs) _ h))
      (items_fine j id ds g.1 (no_second (specs_told at 0 (outside k) t.NoExpr t.NoExprs vs) _ h))
  items_fine j id (t.TypeDecl at ts ∷ ds) g h =
      items_joined (ItemFine k) (type_items j ts) (items_from (types_after j ts) id ds) (types_fine j ts g.0 (no_first (types_told (outside k) ts) _ h)) (items_fine (types_after j ts) id ds g.1 (no_second (types_told (outside k) ts) _ h))
  items_fine j id (t.VarDecl at vs ∷ ds) g h = cc
  items_fine j id (t.FuncDecl at n s b ∷ ds) g h =
      (subst (λ (c : Bool). ItemFine k (if c then init_item n else function_item n id s)) (sym f.no_init) ((g.0).0, f.sig_untold), items_fine j (suc id) ds g.1 (no_second (function_told at n s (outside k)) (decls_told (outside k) ds) h))
    where
      f : FunctionFine n s
      f = function_fine at n s (no_first (function_told at n s (outside k)) (decls_told (outside k) ds) h)
  items_fine j id (t.MethodDecl at p rs n s b ∷ ds) g h = cc

  -- ---- each item is typed where what it needs is

  untold_known : (e : t.Expr) (ts : List (List Bind)) → Either (is_known (typing k.names ts e)) (flaws k.names ts e) → flaws k.names ts e ≡ [] → is_known (typing k.names ts e) ≡ true
  untold_known e ts (inl h) f = h
  untold_known e ts (inr h) f = absurd (subst (IsIn h.0) f h.1)

  -- inside a constant specification, and outside of one
  counted_known : (j : ℕ) (e : t.Expr) → NoneUnknown (universe_of k) (needed (universe_of k) e) → flaws_in (counting j (outside k)) e ≡ [] → is_known (answer_in (counting j (outside k)) e) ≡ true
  counted_known j e n h = untold_known e (with_iota j (universe_of k)) (nodes k.names (universe_of k) (with_iota j (universe_of k)) (iota_callees j (universe_of k)) (iota_lost j (universe_of k)) e n) h

  outside_known : (e : t.Expr) → NoneUnknown (universe_of k) (needed (universe_of k) e) → flaws_in (outside k) e ≡ [] → is_known (answer_in (outside k) e) ≡ true
  outside_known e n h = untold_known e (universe_of k) (nodes k.names (universe_of k) (universe_of k) (λ f. refl) (λ x g. g) e n) h

  all_counted_known : (j : ℕ) (es : t.Exprs) → NoneUnknown (universe_of k) (needed_all (universe_of k) es) → all_in_flaws (counting j (outside k)) es ≡ [] → all_typed (counting j (outside k)) es ≡ true
  all_counted_known j t.NoExprs n h = refl
  all_counted_known j (t.MoreExprs e es) n h =
      ap (λ (b : Bool). b && all_typed (counting j (outside k)) es) (counted_known j e (none_left (universe_of k) (needed (universe_of k) e) (needed_all (universe_of k) es) n) (no_first (flaws_in (counting j (outside k)) e) _ h))
      ∙ all_counted_known j es (none_right (universe_of k) (needed (universe_of k) e) (needed_all (universe_of k) es) n) (no_second (flaws_in (counting j (outside k)) e) _ h)

  type_answer_found : (at : Place) (x : Answer) → is_known x ≡ true → own (wanted_type at x) ≡ [] → (u : Ty) × (type_of (wanted_type at x) ≡ Some u)
  type_answer_found at (type_ u) h e = (u, refl)
  type_answer_found at (wrong f fs) h e = let g : false ≡ true = h in cc
  type_answer_found at untyped_part h e = let g : false ≡ true = h in cc
  type_answer_found at (value c u v) h e = cc
  type_answer_found at (pending q b) h e = cc
  type_answer_found at (package_ q) h e = cc
  type_answer_found at (built_in b) h e = cc
  type_answer_found at blank h e = cc
  type_answer_found at (does s) h e = cc

  pub outside_type : (e : t.Expr) → NoneUnknown (universe_of k) (needed (universe_of k) e) → (type_in (outside k) e).flaws ≡ [] → (u : Ty) × (type_found k e ≡ Some u)
  outside_type e n h = type_answer_found (place_of e) (answer_in (outside k) e) (outside_known e n (no_first (flaws_in (outside k) e) _ h)) (no_second (flaws_in (outside k) e) _ h)

  counted_type : (j : ℕ) (e : t.Expr) → NoneUnknown (universe_of k) (needed (universe_of k) e) → (type_in (counting j (outside k)) e).flaws ≡ [] → (u : Ty) × (type_of (type_in (counting j (outside k)) e).answer ≡ Some u)
  counted_type j e n h = type_answer_found (place_of e) (answer_in (counting j (outside k)) e) (counted_known j e n (no_first (flaws_in (counting j (outside k)) e) _ h)) (no_second (flaws_in (counting j (outside k)) e) _ h)

  abbrev NotLost : SpecType → Type 0
  NotLost lost_type = ⊥
  NotLost _ = Unit {0}

  spec_not_lost : (j : ℕ) (u : t.MaybeExpr) → NoneUnknown (universe_of k) (needed_bound (universe_of k) u) → spec_type_flaws (counting j (outside k)) u ≡ [] → NotLost (spec_type (counting j (outside k)) u)
  spec_not_lost j t.NoExpr n h = tt
  spec_not_lost j (t.AnExpr e) n h = let f = counted_type j e n h in subst (λ (o : Option Ty). NotLost (spec_type_of o)) (sym f.1) tt

  not_lost_known : (s : SpecType) → NotLost s → spec_known s ≡ true
  not_lost_known no_type h = refl
  not_lost_known (of_type u) h = refl
  not_lost_known lost_type h = absurd h

  not_unknown : (d : Decl) → is_unknown d ≡ false → d ≡ unknown → ⊥
  not_unknown d h e = let f : true ≡ false = sym (ap is_unknown e) ∙ h in cc

  constant_known : (at : Place) (x : Answer) → is_known x ≡ true → constant_flaws at x ≡ [] → is_unknown (constant_decl x) ≡ false
  constant_known at (value c u (Some v)) h e = refl
  constant_known at (value c u None) h e = absurd (no_constant u e)
    where
      no_constant : (v : Ty) → constant_flaws at (value c v None) ≡ [] → ⊥
      no_constant (ty.tuple us) f = cc
      no_constant _ f = cc
  constant_known at (wrong f fs) h e = let g : false ≡ true = h in cc
  constant_known at untyped_part h e = let g : false ≡ true = h in cc
  constant_known at (pending q b) h e = cc
  constant_known at (type_ u) h e = cc
  constant_known at (package_ q) h e = cc
  constant_known at (built_in b) h e = cc
  constant_known at blank h e = cc
  constant_known at (does s) h e = cc

  value_known : (j : ℕ) (s : SpecType) (y : t.Expr) → NotLost s → NoneUnknown (universe_of k) (needed (universe_of k) y) → (constant_value (counting j (outside k)) s y).flaws ≡ [] → is_unknown (constant_decl (constant_value (counting j (outside k)) s y).answer) ≡ false
  value_known j no_type y l n h =
      constant_known (place_of y) (answer_in (counting j (outside k)) y) (counted_known j y n (no_first (flaws_in (counting j (outside k)) y) _ h)) (no_second (flaws_in (counting j (outside k)) y) _ h)
  value_known j lost_type y l n h = absurd l
  value_known j (of_type u) y l n h = by_test (is_scalar (underlying k.names u)) h
    where
      w : Walk
      w = counting j (outside k)

      typed : (value_at w u y).flaws ++ constant_flaws (place_of y) (value_at w u y).answer ≡ [] → is_unknown (constant_decl (value_at w u y).answer) ≡ false
      typed g =
          let f = no_first (value_at w u y).flaws _ g in
          let x = value_of (wanted k.names (place_of y) u (answer_in w y)) (wanted_form k.names (place_of y) u (answer_in w y) (counted_known j y n (no_first (flaws_in w y) _ f))) (no_second (flaws_in w y) _ f) in
          constant_known (place_of y) (value_at w u y).answer (ap is_known x.is_value) (no_second (value_at w u y).flaws _ g)

      by_test : (b : Bool) → (value_if w u y b).flaws ≡ [] → is_unknown (constant_decl (value_if w u y b).answer) ≡ false
      by_test true g = typed g
      by_test false g = let f : flaw (place_of y) 61 ∷ [] ≡ [] = no_second (flaws_in w y) _ g in cc

  params_found : (qs : List Param) → AllClean (outside k) qs → NoneUnknown (universe_of k) (needed_params (universe_of k) qs) → (ts : Tys) × (types_of (outside k) qs ≡ Some ts)
  params_found [] c n = (no_tys, refl)
  params_found (q ∷ qs) c n = more (params_found qs c.1 (none_right (universe_of k) (if q.variadic then [] else needed (universe_of k) q.type_) (needed_params (universe_of k) qs) n))
    where
      clean : IsClean (outside k) q.variadic q.type_
      clean = c.0

      first : (u : Ty) × (type_found k q.type_ ≡ Some u)
      first =
          outside_type q.type_
          (subst (λ (b : Bool). NoneUnknown (universe_of k) (if b then [] else needed (universe_of k) q.type_)) clean.single (none_left (universe_of k) (if q.variadic then [] else needed (universe_of k) q.type_) (needed_params (universe_of k) qs) n)) clean.untold

      more : (ts : Tys) × (types_of (outside k) qs ≡ Some ts) → (ts : Tys) × (types_of (outside k) (q ∷ qs) ≡ Some ts)
      more r = (
        more_tys first.0 r.0,
        ap (λ (o : Option Ty). and_type o (types_of (outside k) qs)) (ap (λ (b : Bool). if b then None else type_found k q.type_) clean.single ∙ first.1) ∙ ap (and_type (Some first.0)) r.1,
      )

  sig_known : (s : t.Sig) → SigOfGrammar s → sig_flaws (outside k) s ≡ [] → NoneUnknown (universe_of k) (needed_params (universe_of k) (params_of s) ++ needed_params (universe_of k) (results_of s)) → (x : SigTypes) × (sig_types (outside k) s ≡ Some x)
  sig_known s o h n = (
    record { params = a.0; results = b.0 },
    ap (λ (fs : List Flaw). where_untold fs (both (types_of (outside k) (params_of s)) (types_of (outside k) (results_of s)))) h ∙ ap (λ (x : Option Tys). both x (types_of (outside k) (results_of s))) a.1 ∙ ap (both (Some a.0)) b.1,
  )
    where
      c : SigClean (outside k) s
      c = sig_clean k s o h

      a : (ts : Tys) × (types_of (outside k) (params_of s) ≡ Some ts)
      a = params_found (params_of s) c.params (none_left (universe_of k) (needed_params (universe_of k) (params_of s)) (needed_params (universe_of k) (results_of s)) n)

      b : (ts : Tys) × (types_of (outside k) (results_of s) ≡ Some ts)
      b = params_found (results_of s) c.results (none_right (universe_of k) (needed_params (universe_of k) (params_of s)) (needed_params (universe_of k) (results_of s)) n)

  pub item_known : (i : Item) → ItemFine k i → NoneUnknown (universe_of k) (needs_of (universe_of k) i) → decl_of k i ≡ unknown → ⊥
  item_known (constant_item x j u (Some y) all) f n m =
      not_unknown _ (value_known j (spec_type (counting j (outside k)) u) y (spec_not_lost j u (none_left (universe_of k) (needed_bound (universe_of k) u) (needed (universe_of k) y) n) f.2) (none_right (universe_of k) (needed_bound (universe_of k) u) (needed (universe_of k) y) n) f.3) m
  item_known (constant_item x j u None all) f n m =
      let s = not_lost_known (spec_type (counting j (outside k)) u) (spec_not_lost j u (none_left (universe_of k) (needed_bound (universe_of k) u) (needed_all (universe_of k) all) n) f.0) in
      let g : flaw f.1 84 ∷ [] ≡ [] =
      typed_told (spec_known (spec_type (counting j (outside k)) u) && all_typed (counting j (outside k)) all) (all_in_flaws (counting j (outside k)) all) (flaw f.1 84 ∷ [])
      (λ h. ap (λ (b : Bool). b && all_typed (counting j (outside k)) all) s ∙ all_counted_known j all (none_right (universe_of k) (needed_bound (universe_of k) u) (needed_all (universe_of k) all) n) h) f.2 in
      cc
  item_known (type_item x j e) f n m = let u = outside_type e n f.1 in not_unknown _ (ap (λ (o : Option Ty). is_unknown (type_decl (named_type j) o)) u.1) m
  item_known (alias_item x e) f n m = let u = outside_type e n f.1 in not_unknown _ (ap (λ (o : Option Ty). is_unknown (alias_decl o)) u.1) m
  item_known (function_item x id s) f n m = let u = sig_known s f.0 f.1 n in not_unknown _ (ap (λ (o : Option SigTypes). is_unknown (function_decl id o)) u.1) m
  item_known (variable_item x) f n m = f
  item_known (init_item x) f n m = f

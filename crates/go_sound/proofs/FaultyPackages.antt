-- Exactly the faulty declarations of a package are told.
use Rattle.std.proofs.Common.{◌≡◌, ◌⊎◌, ◌↔◌, inl, inr, ℕ, suc, ◌+◌, ◌<◌, nat_lt, List, [], ◌∷◌, ◌++◌, refl, Bool, true, false, ◌&&◌, Option, Some, None, if◌then◌else◌}
use Rattle.std.proofs.lemmas.Bool.{ltb-true, lt-ltb}
use Rattle.gj_base.specs.declared.place.Place.{Place}
use Rattle.go_syntax.specs.Tree as t
use Rattle.go_syntax.specs.declared.tree.Name.{Name}
use Rattle.go_type.specs.Tree.{Ty}
use Rattle.go_type.specs.Underlying.{underlying}
use Rattle.go_typing.specs.Answer.{Flaw, flaw, own}
use Rattle.go_typing.specs.Convert.{is_scalar}
use Rattle.go_typing.specs.Wanted.{wanted_type}
use Rattle.go_typing.specs.Typing.{place_of}
use Rattle.go_typing.specs.Faulty.{IsIn, HasFault, HasFaultAt}
use Rattle.go_typing.proofs.Exact.{lists_exactly_at}
use Rattle.go_typing.specs.Walk.{Walk}
use Rattle.go_typing.specs.Expressions.{answer_in, flaws_in, value_at, type_in}
use Rattle.go_typing.specs.Assign.{where_typed, all_typed, all_in_flaws}
use Rattle.go_typing.specs.Declare.{SpecType, no_type, of_type, lost_type, spec_type, spec_type_flaws, counting, constant_flaws, constant_value, spec_known, names_count, spec_place, count_told}
use Rattle.go_typing.specs.Signature.{SigTypes, sig_flaws, sig_types, params_of, results_of, all_bound, inside}
use Rattle.go_typing.specs.Items.{is_init}
use Rattle.go_typing.specs.Items.{items_of}
use Rattle.go_typing.specs.Known.{outside}
use Rattle.go_typing.specs.Cycles.{cycle_flaws}
use Rattle.go_typing.specs.Functions.{Between, after_body, function_then, functions_from, at_start, around_body}
use Rattle.go_typing.specs.Checked.{known_in, between_of, functions_in, first_byte, first_too_far, count_functions, or_generated}
use Rattle.go_typing.specs.Told.{each_told, spec_told, specs_told, types_told, is_main, takes_something, main_told, function_told, decls_told, names_told}
use Rattle.go_sound.specs.FaultyPackages.{HasTypeFault, HasSpecTypeFault, HasTypedFault, HasConstantFault, SomeConstantFault, SomeNodeFault, HasValuesFault, HasSpecFault, SomeSpecFault, SomeTypeFault, HasMainFault, HasFunctionFault, SomeDeclFault, DeclsToldExactly, SomeBodyFault, HasPackageFault, ToldExactly}
use Rattle.go_sound.specs.FaultyNames.{SomeNameFault, SomeCircle}
use Rattle.go_sound.specs.FaultyStatements.{HasBodyFault}
use Rattle.go_sound.proofs.Words.{body_at}
use Rattle.go_sound.proofs.Exactly.{both, same, one, where_passes, where_both, node_exact}
use Rattle.go_sound.proofs.FaultyNames.{names_told_exactly}
use Rattle.go_sound.proofs.FaultyCircles.{circles_told_exactly}
use Rattle.go_sound.proofs.FaultyStatements.{bodies_told_exactly}
use Rattle.go_sound.proofs.Here.{value_if}

-- ---- constants, types and functions

module _ (f : Flaw) where
  module _ (w : Walk) where
    type_exact : (e : t.Expr) → IsIn f (type_in w e).flaws ↔ HasTypeFault w e f
    type_exact e = both f (flaws_in w e) (own (wanted_type (place_of e) (answer_in w e))) (HasFault w.names w.scopes e f) (IsIn f (own (wanted_type (place_of e) (answer_in w e)))) (node_exact f w e) (same f (IsIn f (own (wanted_type (place_of e) (answer_in w e)))))

    spec_type_exact : (u : t.MaybeExpr) → IsIn f (spec_type_flaws w u) ↔ HasSpecTypeFault w u f
    spec_type_exact t.NoExpr = same f ⊥
    spec_type_exact (t.AnExpr e) = type_exact e

    typed_exact : (u : Ty) (y : t.Expr) (c : Bool) → IsIn f (value_if w u y c).flaws ↔ HasTypedFault w u y c f
    typed_exact u y true =
        both f (value_at w u y).flaws (constant_flaws (place_of y) (value_at w u y).answer) (HasFaultAt w.names w.scopes u y f) (IsIn f (constant_flaws (place_of y) (value_at w u y).answer)) (lists_exactly_at w.names w.scopes u y f)
        (same f (IsIn f (constant_flaws (place_of y) (value_at w u y).answer)))
    typed_exact u y false = both f (flaws_in w y) (flaw (place_of y) 61 ∷ []) (HasFault w.names w.scopes y f) (f ≡ flaw (place_of y) 61) (node_exact f w y) (one f (flaw (place_of y) 61))

    constant_exact : (s : SpecType) (y : t.Expr) → IsIn f (constant_value w s y).flaws ↔ HasConstantFault w s y f
    constant_exact no_type y =
        both f (flaws_in w y) (constant_flaws (place_of y) (answer_in w y)) (HasFault w.names w.scopes y f) (IsIn f (constant_flaws (place_of y) (answer_in w y))) (node_exact f w y) (same f (IsIn f (constant_flaws (place_of y) (answer_in w y))))
    constant_exact lost_type y = node_exact f w y
    constant_exact (of_type u) y = typed_exact u y (is_scalar (underlying w.names u))

    constants_exact : (s : SpecType) (ns : List Name) (ys : t.Exprs) → IsIn f (each_told w s ns ys) ↔ SomeConstantFault w s ns ys f
    constants_exact s [] ys = same f ⊥
    constants_exact s (n ∷ ns) t.NoExprs = same f ⊥
    constants_exact s (n ∷ ns) (t.MoreExprs y ys) = both f (constant_value w s y).flaws (each_told w s ns ys) (HasConstantFault w s y f) (SomeConstantFault w s ns ys f) (constant_exact s y) (constants_exact s ns ys)

    types_exact : (ts : t.TypeSpecs) → IsIn f (types_told w ts) ↔ SomeTypeFault w ts f
    types_exact t.NoTypes = same f ⊥
    types_exact (t.MoreTypes n alias e ts) = both f (type_in w e).flaws (types_told w ts) (HasTypeFault w e f) (SomeTypeFault w ts f) (type_exact e) (types_exact ts)

    main_exact : (n : Name) (o : Option SigTypes) → IsIn f (main_told n o) ↔ HasMainFault n o f
    main_exact n None = same f ⊥
    main_exact n (Some s) = where_both f (is_main n) (takes_something s) (flaw n.place 99)

    function_exact : (at : Place) (n : Name) (s : t.Sig) (c : Bool) → IsIn f (if c then flaw at 0 ∷ [] else sig_flaws w s ++ main_told n (sig_types w s)) ↔ HasFunctionFault at n s w c f
    function_exact at n s true = one f (flaw at 0)
    function_exact at n s false = both f (sig_flaws w s) (main_told n (sig_types w s)) (IsIn f (sig_flaws w s)) (HasMainFault n (sig_types w s) f) (same f (IsIn f (sig_flaws w s))) (main_exact n (sig_types w s))

-- ---- nodes of a list, and its count

nodes_exact : (w : Walk) (ys : t.Exprs) (f : Flaw) → IsIn f (all_in_flaws w ys) ↔ SomeNodeFault w ys f
nodes_exact w t.NoExprs f = same f ⊥
nodes_exact w (t.MoreExprs y ys) f = both f (flaws_in w y) (all_in_flaws w ys) (HasFault w.names w.scopes y f) (SomeNodeFault w ys f) (node_exact f w y) (nodes_exact w ys f)

count_exact : (c : Bool) (ps : List Flaw) (A : Flaw → Type 0) → ((h : Flaw) → IsIn h ps ↔ A h) → (g f : Flaw) → IsIn f (where_typed c ps (g ∷ [])) ↔ (A f ⊎ (c ≡ true) × ((h : Flaw) → A h → ⊥) × (f ≡ g))
count_exact true [] A p g f = (λ h. inr (refl, λ k a. (p k).1 a, (one f g).0 h), λ r. back r)
  where
    back : A f ⊎ (true ≡ true) × ((h : Flaw) → A h → ⊥) × (f ≡ g) → IsIn f (g ∷ [])
    back (inl a) = absurd ((p f).1 a)
    back (inr r) = (one f g).1 r.2
count_exact false [] A p g f = (λ h. absurd h, λ r. back r)
  where
    back : A f ⊎ (false ≡ true) × ((h : Flaw) → A h → ⊥) × (f ≡ g) → ⊥
    back (inl a) = (p f).1 a
    back (inr r) = let e : false ≡ true = r.0 in cc
count_exact true (x ∷ ps) A p g f = (λ h. inl ((p f).0 h), λ r. back r)
  where
    back : A f ⊎ (true ≡ true) × ((h : Flaw) → A h → ⊥) × (f ≡ g) → IsIn f (x ∷ ps)
    back (inl a) = (p f).1 a
    back (inr r) = absurd (r.1 x ((p x).0 (inl refl)))
count_exact false (x ∷ ps) A p g f = (λ h. inl ((p f).0 h), λ r. back r)
  where
    back : A f ⊎ (false ≡ true) × ((h : Flaw) → A h → ⊥) × (f ≡ g) → IsIn f (x ∷ ps)
    back (inl a) = (p f).1 a
    back (inr r) = let e : false ≡ true = r.0 in cc

-- ---- declarations

module _ (f : Flaw) where
  spec_exact : (at : Place) (w : Walk) (ns : List Name) (u : t.MaybeExpr) (ys : t.Exprs) → IsIn f (spec_told at w ns u ys) ↔ HasSpecFault at w ns u ys f
  spec_exact at w ns u ys =
      both f (spec_type_flaws w u) (if names_count ns ys then each_told w (spec_type w u) ns ys else count_told (spec_type w u) (spec_place ns at) (all_typed w ys) (all_in_flaws w ys)) (HasSpecTypeFault w u f)
      (HasValuesFault at w ns (spec_type w u) ys (names_count ns ys) f) (spec_type_exact f w u) (by_test (names_count ns ys))
    where
      by_test : (c : Bool) → IsIn f (if c then each_told w (spec_type w u) ns ys else count_told (spec_type w u) (spec_place ns at) (all_typed w ys) (all_in_flaws w ys)) ↔ HasValuesFault at w ns (spec_type w u) ys c f
      by_test true = constants_exact f w (spec_type w u) ns ys
      by_test false = count_exact (spec_known (spec_type w u) && all_typed w ys) (all_in_flaws w ys) (SomeNodeFault w ys) (λ h. nodes_exact w ys h) (flaw (spec_place ns at) 84) f

  specs_exact : (at : Place) (k : ℕ) (w : Walk) (u : t.MaybeExpr) (ys : t.Exprs) (vs : t.ValueSpecs) → IsIn f (specs_told at k w u ys vs) ↔ SomeSpecFault at k w u ys vs f
  specs_exact at k w u ys t.NoValues = same f ⊥
  specs_exact at k w u ys (t.MoreValues ns v t.NoExprs vs) =
      both f (spec_told at (counting k w) ns u ys) (specs_told at (suc k) w u ys vs) (HasSpecFault at (counting k w) ns u ys f) (SomeSpecFault at (suc k) w u ys vs f) (spec_exact at (counting k w) ns u ys) (specs_exact at (suc k) w u ys vs)
  specs_exact at k w u ys (t.MoreValues ns v (t.MoreExprs z zs) vs) =
      both f (spec_told at (counting k w) ns v (t.MoreExprs z zs)) (specs_told at (suc k) w v (t.MoreExprs z zs) vs) (HasSpecFault at (counting k w) ns v (t.MoreExprs z zs) f) (SomeSpecFault at (suc k) w v (t.MoreExprs z zs) vs f)
      (spec_exact at (counting k w) ns v (t.MoreExprs z zs)) (specs_exact at (suc k) w v (t.MoreExprs z zs) vs)

  decls_exact : (w : Walk) (ds : List t.Decl) → IsIn f (decls_told w ds) ↔ SomeDeclFault w ds f
  decls_exact w [] = same f ⊥
  decls_exact w (t.ConstDecl at vs ∷ ds) =
      both f (specs_told at 0 w t.NoExpr t.NoExprs vs) (decls_told w ds) (SomeSpecFault at 0 w t.NoExpr t.NoExprs vs f) (SomeDeclFault w ds f) (specs_exact at 0 w t.NoExpr t.NoExprs vs) (decls_exact w ds)
  decls_exact w (t.TypeDecl at ts ∷ ds) = both f (types_told w ts) (decls_told w ds) (SomeTypeFault w ts f) (SomeDeclFault w ds f) (types_exact f w ts) (decls_exact w ds)
  decls_exact w (t.VarDecl at vs ∷ ds) = both f (flaw at 0 ∷ []) (decls_told w ds) (f ≡ flaw at 0) (SomeDeclFault w ds f) (one f (flaw at 0)) (decls_exact w ds)
  decls_exact w (t.FuncDecl at n s b ∷ ds) = both f (function_told at n s w) (decls_told w ds) (HasFunctionFault at n s w (is_init n) f) (SomeDeclFault w ds f) (function_exact f w at n s (is_init n)) (decls_exact w ds)
  decls_exact w (t.MethodDecl at p rs n s b ∷ ds) = both f (flaw at 0 ∷ []) (decls_told w ds) (f ≡ flaw at 0) (SomeDeclFault w ds f) (one f (flaw at 0)) (decls_exact w ds)

pub decls_told_exactly : DeclsToldExactly
decls_told_exactly w ds f = decls_exact f w ds

-- ---- bodies

bodies_exact : (f : Flaw) (far : Option Place) (w : Walk) (ds : List t.Decl) (k : Between) → IsIn f (functions_from far w ds k).flaws ↔ SomeBodyFault far w ds k f
bodies_exact f far w [] k = same f ⊥
bodies_exact f far w (t.FuncDecl at n s b ∷ ds) k = by_test (is_init n) (bodies_exact f far w ds k) (bodies_exact f far w ds (after_body (body_at far w k at n s b)))
  where
    by_test : (c : Bool) → (IsIn f (functions_from far w ds k).flaws ↔ SomeBodyFault far w ds k f)
        → (IsIn f (functions_from far w ds (after_body (body_at far w k at n s b))).flaws ↔ SomeBodyFault far w ds (after_body (body_at far w k at n s b)) f)
        → IsIn f (if c then functions_from far w ds k else function_then at n (sig_types w s) (body_at far w k at n s b) (functions_from far w ds)).flaws
        ↔ (((c ≡ false) × HasBodyFault b (around_body far w at n s) (all_bound w (params_of s ++ results_of s) (inside (at_start w k))) f) ⊎ SomeBodyFault far w ds (if c then k else after_body (body_at far w k at n s b)) f)
    by_test true p q = (λ h. inr (p.0 h), λ r. back r)
      where
        back : ((true ≡ false) × HasBodyFault b (around_body far w at n s) (all_bound w (params_of s ++ results_of s) (inside (at_start w k))) f) ⊎ SomeBodyFault far w ds k f → IsIn f (functions_from far w ds k).flaws
        back (inl r) = let e : true ≡ false = r.0 in cc
        back (inr r) = p.1 r
    by_test false p q =
        both f (body_at far w k at n s b).flaws (functions_from far w ds (after_body (body_at far w k at n s b))).flaws
        ((false ≡ false) × HasBodyFault b (around_body far w at n s) (all_bound w (params_of s ++ results_of s) (inside (at_start w k))) f) (SomeBodyFault far w ds (after_body (body_at far w k at n s b)) f)
        (λ h. (refl, here.0 h), λ r. here.1 r.1) q
      where
        here : IsIn f (body_at far w k at n s b).flaws ↔ HasBodyFault b (around_body far w at n s) (all_bound w (params_of s ++ results_of s) (inside (at_start w k))) f
        here = bodies_told_exactly b (around_body far w at n s) (all_bound w (params_of s ++ results_of s) (inside (at_start w k))) f
bodies_exact f far w (t.ConstDecl at vs ∷ ds) k = bodies_exact f far w ds k
bodies_exact f far w (t.TypeDecl at ts ∷ ds) k = bodies_exact f far w ds k
bodies_exact f far w (t.VarDecl at vs ∷ ds) k = bodies_exact f far w ds k
bodies_exact f far w (t.MethodDecl at p rs n s b ∷ ds) k = bodies_exact f far w ds k

-- ---- the whole

package_exact : (ds : List t.Decl) (f : Flaw) → IsIn f (names_told [] (items_of ds) ++ cycle_flaws (known_in ds).binds (items_of ds) ++ decls_told (outside (known_in ds)) ds ++ (functions_in (known_in ds) ds).flaws) ↔ HasPackageFault ds f
package_exact ds f =
    both f (names_told [] (items_of ds) ++ cycle_flaws (known_in ds).binds (items_of ds) ++ decls_told (outside (known_in ds)) ds) (functions_in (known_in ds) ds).flaws
    ((SomeNameFault (items_of ds) f ⊎ SomeCircle (outside (known_in ds)).scopes (items_of ds) f) ⊎ SomeDeclFault (outside (known_in ds)) ds f) (SomeBodyFault (first_too_far ds) (outside (known_in ds)) ds (between_of (known_in ds)) f)
    (both f (names_told [] (items_of ds) ++ cycle_flaws (known_in ds).binds (items_of ds)) (decls_told (outside (known_in ds)) ds) (SomeNameFault (items_of ds) f ⊎ SomeCircle (outside (known_in ds)).scopes (items_of ds) f)
    (SomeDeclFault (outside (known_in ds)) ds f)
    (both f (names_told [] (items_of ds)) (cycle_flaws (known_in ds).binds (items_of ds)) (SomeNameFault (items_of ds) f) (SomeCircle (outside (known_in ds)).scopes (items_of ds) f) (names_told_exactly (items_of ds) f)
    (circles_told_exactly (known_in ds).binds (items_of ds) f))
    (decls_exact f (outside (known_in ds)) ds)) (bodies_exact f (first_too_far ds) (outside (known_in ds)) ds (between_of (known_in ds)))

or_exact : (n : ℕ) (fs : List Flaw) (A : Flaw → Type 0) → ((h : Flaw) → IsIn h fs ↔ A h) → (f : Flaw) → IsIn f (or_generated n fs) ↔ (A f ⊎ (((h : Flaw) → A h → ⊥) × (65535 < n + 2) × (f ≡ flaw first_byte 79)))
or_exact n [] A p f = (λ h. (let r = (where_passes f (nat_lt 65535 (n + 2)) (flaw first_byte 79)).0 h in inr (λ k a. (p k).1 a, ltb-true 65535 (n + 2) r.0, r.1)), λ r. back r)
  where
    back : A f ⊎ (((h : Flaw) → A h → ⊥) × (65535 < n + 2) × (f ≡ flaw first_byte 79)) → IsIn f (or_generated n [])
    back (inl a) = absurd ((p f).1 a)
    back (inr r) = (where_passes f (nat_lt 65535 (n + 2)) (flaw first_byte 79)).1 (lt-ltb 65535 (n + 2) r.1, r.2)
or_exact n (g ∷ gs) A p f = (λ h. inl ((p f).0 h), λ r. back r)
  where
    back : A f ⊎ (((h : Flaw) → A h → ⊥) × (65535 < n + 2) × (f ≡ flaw first_byte 79)) → IsIn f (g ∷ gs)
    back (inl a) = (p f).1 a
    back (inr r) = absurd (r.0 g ((p g).0 (inl refl)))

pub told_exactly : ToldExactly
told_exactly ds f =
    or_exact (count_functions ds) (names_told [] (items_of ds) ++ cycle_flaws (known_in ds).binds (items_of ds) ++ decls_told (outside (known_in ds)) ds ++ (functions_in (known_in ds) ds).flaws) (HasPackageFault ds) (λ h. package_exact ds h) f

-- The types of parameters that are written once are all that the parameters need.
use Rattle.std.proofs.Common.{◌≡◌, ◌⊎◌, inl, inr, ℕ, List, [], ◌∷◌, ◌++◌, refl, sym, subst, Bool, true, false, if◌then◌else◌}
use Rattle.std.specs.Prelude.{Option, Some, None}
use Rattle.gj_base.specs.declared.place.Place.{Place}
use Rattle.go_syntax.specs.Tree as t
use Rattle.go_typing.specs.Env.{Bind}
use Rattle.go_typing.specs.Typing.{place_of}
use Rattle.go_typing.specs.Signature.{Param, Typed, alone, grouped, next_named, params_of, results_in, results_of}
use Rattle.go_typing.specs.Items.{Item, constant_item, type_item, alias_item, function_item, variable_item, init_item}
use Rattle.go_typing.specs.Cycles.{is_among, needed, needed_params, needs_of}
use Rattle.go_sound.proofs.Among.{among_left, among_right, among_either}
use Rattle.go_items.specs.Stated.{written, all_written, stated}

-- a name alone has the variadic mark and the type of the next one
abbrev IsNext : Param → Option Typed → Type 0
IsNext p o = (u : Typed) × (o ≡ Some u) × (p.variadic ≡ u.variadic) × (p.type_ ≡ u.type_)

alone_case : (at : Place) (v : Bool) (e : t.Expr) (o : Option Typed) → ((alone at v e o).has_type ≡ true) ⊎ IsNext (alone at v e o) o
alone_case at false (t.NameExpr p x) (Some u) = inr (u, refl, refl, refl)
alone_case at v e o = inl refl

some_typed : (a b : Typed) → Some a ≡ Some b → a ≡ b
some_typed a b h = cc

module _ (ss : List (List Bind)) where
  -- what one needs
  abbrev of_type : Bool → t.Expr → List (List ℕ)
  of_type v e = if v then [] else needed ss e

  abbrev own : Param → List (List ℕ)
  own p = of_type p.variadic p.type_

  written_own : (x : List ℕ) (p : Param) → is_among x (written ss p) ≡ true → is_among x (own p) ≡ true
  written_own x p h = by_test p.has_type h
    where
      by_test : (b : Bool) → is_among x (if b then own p else []) ≡ true → is_among x (own p) ≡ true
      by_test true e = e
      by_test false e = let f : false ≡ true = e in cc

  own_written : (x : List ℕ) (p : Param) → p.has_type ≡ true → is_among x (own p) ≡ true → is_among x (written ss p) ≡ true
  own_written x p h e = subst (λ (b : Bool). is_among x (if b then own p else []) ≡ true) (sym h) e

  pub written_needed : (x : List ℕ) (ps : List Param) → is_among x (all_written ss ps) ≡ true → is_among x (needed_params ss ps) ≡ true
  written_needed x [] h = h
  written_needed x (p ∷ ps) h = by_case (among_either x (written ss p) (all_written ss ps) h) (λ e. written_needed x ps e)
    where
      by_case : (is_among x (written ss p) ≡ true) ⊎ (is_among x (all_written ss ps) ≡ true) → (is_among x (all_written ss ps) ≡ true → is_among x (needed_params ss ps) ≡ true)
          → is_among x (own p ++ needed_params ss ps) ≡ true
      by_case (inl e) f = among_left x (own p) (needed_params ss ps) (written_own x p e)
      by_case (inr e) f = among_right x (own p) (needed_params ss ps) (f e)

  next_written : (x : List ℕ) (ps : t.Params) (u : Typed) → next_named ps ≡ Some u → is_among x (of_type u.variadic u.type_) ≡ true → is_among x (all_written ss (grouped ps)) ≡ true
  next_written x t.NoParams u h e = let f : None ≡ Some u = h in cc
  next_written x (t.MoreParams at (Some n) v y ps) u h e =
      among_left x (of_type v y) (all_written ss (grouped ps)) (subst (λ (w : Typed). is_among x (of_type w.variadic w.type_) ≡ true) (sym (some_typed (record { variadic = v; type_ = y }) u h)) e)
  next_written x (t.MoreParams at None v y ps) u h e = among_right x (written ss (alone at v y (next_named ps))) (all_written ss (grouped ps)) (next_written x ps u h e)

  alone_written : (x : List ℕ) (at : Place) (v : Bool) (y : t.Expr) (o : Option Typed) (rest : List Param)
      → ((u : Typed) → o ≡ Some u → is_among x (of_type u.variadic u.type_) ≡ true → is_among x (all_written ss rest) ≡ true)
      → is_among x (own (alone at v y o)) ≡ true → is_among x (all_written ss (alone at v y o ∷ rest)) ≡ true
  alone_written x at v y o rest f h = by_case (alone_case at v y o)
    where
      by_case : ((alone at v y o).has_type ≡ true) ⊎ IsNext (alone at v y o) o → is_among x (all_written ss (alone at v y o ∷ rest)) ≡ true
      by_case (inl e) = among_left x (written ss (alone at v y o)) (all_written ss rest) (own_written x (alone at v y o) e h)
      by_case (inr e) =
          among_right x (written ss (alone at v y o)) (all_written ss rest)
          (f e.0 e.1 (subst (λ (b : Bool). is_among x (of_type b e.0.type_) ≡ true) e.2 (subst (λ (w : t.Expr). is_among x (of_type (alone at v y o).variadic w) ≡ true) e.3 h)))

  pub needed_written : (x : List ℕ) (ps : t.Params) → is_among x (needed_params ss (grouped ps)) ≡ true → is_among x (all_written ss (grouped ps)) ≡ true
  needed_written x t.NoParams h = h
  needed_written x (t.MoreParams at (Some n) v y ps) h = by_case (among_either x (of_type v y) (needed_params ss (grouped ps)) h) (λ e. needed_written x ps e)
    where
      by_case : (is_among x (of_type v y) ≡ true) ⊎ (is_among x (needed_params ss (grouped ps)) ≡ true) → (is_among x (needed_params ss (grouped ps)) ≡ true → is_among x (all_written ss (grouped ps)) ≡ true)
          → is_among x (of_type v y ++ all_written ss (grouped ps)) ≡ true
      by_case (inl e) f = among_left x (of_type v y) (all_written ss (grouped ps)) e
      by_case (inr e) f = among_right x (of_type v y) (all_written ss (grouped ps)) (f e)
  needed_written x (t.MoreParams at None v y ps) h =
      by_case (among_either x (own (alone at v y (next_named ps))) (needed_params ss (grouped ps)) h) (λ e. needed_written x ps e)
    where
      by_case : (is_among x (own (alone at v y (next_named ps))) ≡ true) ⊎ (is_among x (needed_params ss (grouped ps)) ≡ true)
          → (is_among x (needed_params ss (grouped ps)) ≡ true → is_among x (all_written ss (grouped ps)) ≡ true)
          → is_among x (all_written ss (alone at v y (next_named ps) ∷ grouped ps)) ≡ true
      by_case (inl e) f = alone_written x at v y (next_named ps) (grouped ps) (λ u k i. next_written x ps u k i) e
      by_case (inr e) f = among_right x (written ss (alone at v y (next_named ps))) (all_written ss (grouped ps)) (f e)

  one_result : (x : List ℕ) (u : t.Expr) → is_among x (needed_params ss (results_in (t.OneResult u))) ≡ true → is_among x (all_written ss (results_in (t.OneResult u))) ≡ true
  one_result x u h = by_case (among_either x (own (alone (place_of u) false u None)) [] h)
    where
      none_next : (w : Typed) → None ≡ Some w → is_among x (of_type w.variadic w.type_) ≡ true → is_among x (all_written ss []) ≡ true
      none_next w e k = cc

      by_case : (is_among x (own (alone (place_of u) false u None)) ≡ true) ⊎ (false ≡ true) → is_among x (all_written ss (alone (place_of u) false u None ∷ [])) ≡ true
      by_case (inl e) = alone_written x (place_of u) false u None [] none_next e
      by_case (inr e) = cc

  results_written : (x : List ℕ) (rs : t.Results) → is_among x (needed_params ss (results_in rs)) ≡ true → is_among x (all_written ss (results_in rs)) ≡ true
  results_written x t.NoResults h = h
  results_written x (t.OneResult u) h = one_result x u h
  results_written x (t.ManyResults at ps) h = needed_written x ps h

  both_written : (x : List ℕ) (ps qs rs us : List (List ℕ)) → (is_among x ps ≡ true → is_among x rs ≡ true) → (is_among x qs ≡ true → is_among x us ≡ true)
      → is_among x (ps ++ qs) ≡ true → is_among x (rs ++ us) ≡ true
  both_written x ps qs rs us f g h = by_case (among_either x ps qs h)
    where
      by_case : (is_among x ps ≡ true) ⊎ (is_among x qs ≡ true) → is_among x (rs ++ us) ≡ true
      by_case (inl e) = among_left x rs us (f e)
      by_case (inr e) = among_right x rs us (g e)

  pub stated_needs : (x : List ℕ) (i : Item) → is_among x (stated ss i) ≡ true → is_among x (needs_of ss i) ≡ true
  stated_needs x (function_item n id s) h =
      both_written x (all_written ss (params_of s)) (all_written ss (results_of s)) (needed_params ss (params_of s)) (needed_params ss (results_of s))
      (λ e. written_needed x (params_of s) e) (λ e. written_needed x (results_of s) e) h
  stated_needs x (constant_item n k u y all) h = h
  stated_needs x (type_item n k e) h = h
  stated_needs x (alias_item n e) h = h
  stated_needs x (variable_item n) h = h
  stated_needs x (init_item n) h = h

  pub needs_stated : (x : List ℕ) (i : Item) → is_among x (needs_of ss i) ≡ true → is_among x (stated ss i) ≡ true
  needs_stated x (function_item n id (t.SigOf at ps rs)) h =
      both_written x (needed_params ss (grouped ps)) (needed_params ss (results_in rs)) (all_written ss (grouped ps)) (all_written ss (results_in rs))
      (λ e. needed_written x ps e) (λ e. results_written x rs e) h
  needs_stated x (constant_item n k u y all) h = h
  needs_stated x (type_item n k e) h = h
  needs_stated x (alias_item n e) h = h
  needs_stated x (variable_item n) h = h
  needs_stated x (init_item n) h = h

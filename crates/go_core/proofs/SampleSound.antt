-- The samples are Sound, and those that are to be refused aren't.
use Rattle.std.proofs.Common.{inl, inr, refl, ap, ◌∙◌, subst, arith}
use Rattle.std.specs.Prelude.{◌≡◌, ℕ, zero, suc, List, [], ◌∷◌, ◌++◌, Bool, true, false, ◌||◌, ◌&&◌, ◌==◌, not, if◌then◌else◌, codes, Some, All, AllPairs, Contains, slice_get}
use Rattle.std.proofs.lemmas.Bool.{eqb-false}
use Rattle.std.proofs.lemmas.List.Elements.{All-nil, All-cons}
use Rattle.std.proofs.lemmas.List.Kept.{AllPairs-cons}
use Rattle.go_type.specs.Tree as ty
use Rattle.go_type.specs.Tree.{Ty, no_tys, more_tys}
use Rattle.go_type.specs.Named.{NamedTy}
use Rattle.go_type.specs.Members.{Member, method, members_at}
use Rattle.go_type.specs.Exported.{is_exported}
use Rattle.go_core.specs.CoreTree.{Var, CoreFunc, MethodRow}
use Rattle.go_core.specs.TypeOf.{FieldTy}
use Rattle.go_core.specs.MeaningWords.{int, hidden, error_func, error_method, var_of}
use Rattle.go_core.specs.RowsMemory.{tag_a, tag_b, tagged, type_a, type_b, type_c, type_d, pointer_a, pointer_b, reader, tagged_names, read_func}
use Rattle.go_core.specs.SoundNode.{IsGoodType, IsGate, IsRowOf}
use Rattle.go_core.specs.SoundProgram.{SoundFunc, SoundRow, SoundHidden, AreSet, DifferInId, DifferInRow, all_vars}
use Rattle.go_core.specs.SoundSample.{runtime_func, runtime_method, main_func, sample_of, sample, SampleIsSound, tags_func, tags_sample, TagsAreIgnored}
use Rattle.go_core.proofs.SameTypeLemmas.{first_true, second_true}

pub some_inj : {A : Type 0} (x y : A) → Some x ≡ Some y → x ≡ y
some_inj x y e = cc

-- a method is found by its name, exported or not
pub shown : (x : Bool) (m : Member) → (if x || true then m ∷ [] else []) ++ [] ≡ m ∷ []
shown true m = refl
shown false m = refl

-- ---- variables with different numbers

abbrev is_apart : Var → List Var → Bool
is_apart v [] = true
is_apart v (w ∷ ws) = not (v.id == w.id) && is_apart v ws

abbrev are_apart : List Var → Bool
are_apart [] = true
are_apart (v ∷ vs) = is_apart v vs && are_apart vs

not_true : (b : Bool) → not b ≡ true → b ≡ false
not_true false e = refl
not_true true e = cc

apart_from : (v : Var) (ws : List Var) → is_apart v ws ≡ true → All (DifferInId v) ws
apart_from v [] e = All-nil (DifferInId v)
apart_from v (w ∷ ws) e =
    All-cons (DifferInId v) w ws (eqb-false v.id w.id (not_true (v.id == w.id) (first_true (not (v.id == w.id)) (is_apart v ws) e)))
    (apart_from v ws (second_true (not (v.id == w.id)) (is_apart v ws) e))

pub all_apart : (vs : List Var) → are_apart vs ≡ true → AllPairs DifferInId vs
all_apart [] e = λ i j d l m. absurd (omega (arith, m))
all_apart (v ∷ vs) e =
    AllPairs-cons DifferInId v vs (apart_from v vs (first_true (is_apart v vs) (are_apart vs) e)) (all_apart vs (second_true (is_apart v vs) (are_apart vs) e))

-- ---- what the samples share

module _ (names : List NamedTy) (rows : List MethodRow) (main : CoreFunc) (others : List CoreFunc) where
  pub no_row : (k : ℕ) → (1 ≡ k → ⊥) → (2 ≡ k → ⊥) → ((row : MethodRow) → Contains rows row → row.func ≡ k → ⊥) → IsRowOf (sample_of names rows main others) k → ⊥
  no_row k a b c (row, (zero, lt, e), f) = a (ap (λ (r : MethodRow). r.func) e ∙ f)
  no_row k a b c (row, (suc zero, lt, e), f) = b (ap (λ (r : MethodRow). r.func) e ∙ f)
  no_row k a b c (row, (suc (suc i), lt, e), f) = c row (i, omega (arith, lt), e) f

  pub good_int : IsGoodType (sample_of names rows main others) int
  good_int = record { is_whole = record { is_finite = refl; is_small = omega arith }; has_key = tt }

  good_text : IsGoodType (sample_of names rows main others) ty.str
  good_text = record { is_whole = record { is_finite = refl; is_small = omega arith }; has_key = tt }

  good_hidden : IsGoodType (sample_of names rows main others) hidden
  good_hidden = record { is_whole = record { is_finite = refl; is_small = omega arith }; has_key = tt }

  pub error_sound : SoundFunc (sample_of names rows main others) 1 error_func
  error_sound = record {
    receiver = hidden ∷ [];
    is_method = inr (hidden, refl, (error_method, (0, omega arith, refl), refl));
    header = 2;
    begins = refl;
    captured_known = refl;
    sound_types = All-cons (λ (v : Var). IsGoodType (sample_of names rows main others) v.type_) (var_of 900 hidden) (var_of 901 ty.str ∷ []) good_hidden
        (All-cons (λ (v : Var). IsGoodType (sample_of names rows main others) v.type_) (var_of 901 ty.str) [] good_text (All-nil (λ (v : Var). IsGoodType (sample_of names rows main others) v.type_)));
    sound_body = ((((((hidden, refl), refl), refl, good_text, inl refl), tt), refl), tt);
    terminates = inr refl;
  }

  pub runtime_sound : SoundFunc (sample_of names rows main others) 2 runtime_func
  runtime_sound = record {
    receiver = hidden ∷ [];
    is_method = inr (hidden, refl, (runtime_method, (1, omega arith, refl), refl));
    header = 1;
    begins = refl;
    captured_known = refl;
    sound_types = All-cons (λ (v : Var). IsGoodType (sample_of names rows main others) v.type_) (var_of 902 hidden) [] good_hidden (All-nil (λ (v : Var). IsGoodType (sample_of names rows main others) v.type_));
    sound_body = tt;
    terminates = inl refl;
  }

  pub error_row : SoundRow (sample_of names rows main others) error_method
  unfolding members_at
  error_row = record {
    function = error_func;
    receiver = var_of 900 hidden;
    others = var_of 901 ty.str ∷ [];
    is_function = refl;
    has_vars = refl;
    captures_nothing = refl;
    fits = inl refl;
    has_signature = record { depth = 0; path = []; of_ = hidden; on_pointer = false; shallowest = record { before = record { at = λ e lt. absurd (omega (arith, lt)) }; here = shown (is_exported error_method.name) (method [] hidden false no_tys (more_tys ty.str no_tys) false) }; reached = λ e. absurd (cc) };
  }

  pub runtime_row : SoundRow (sample_of names rows main others) runtime_method
  unfolding members_at
  runtime_row = record {
    function = runtime_func;
    receiver = var_of 902 hidden;
    others = [];
    is_function = refl;
    has_vars = refl;
    captures_nothing = refl;
    fits = inl refl;
    has_signature = record { depth = 0; path = []; of_ = hidden; on_pointer = false; shallowest = record { before = record { at = λ e lt. absurd (omega (arith, lt)) }; here = shown (is_exported runtime_method.name) (method [] hidden false no_tys no_tys false) }; reached = λ e. absurd (cc) };
  }

  pub hidden_sound : SoundHidden (sample_of names rows main others)
  hidden_sound = record {
    name = 0;
    is_named = refl;
    is_text = refl;
    has_error = record { at = 0; row = error_method; function = error_func; found = refl; is_row = refl; is_function = refl; params_fit = refl; results_fit = refl; variadic_fits = refl };
    has_runtime_error = record { at = 1; row = runtime_method; function = runtime_func; found = refl; is_row = refl; is_function = refl; params_fit = refl; results_fit = refl; variadic_fits = refl };
  }

none_else : (k : ℕ) (row : MethodRow) → Contains [] row → row.func ≡ k → ⊥
none_else k row (i, lt, e) f = absurd (omega (arith, lt))

-- the rows of the hidden type are apart
two_rows : AllPairs DifferInRow (error_method ∷ runtime_method ∷ [])
two_rows i zero d l m = absurd (omega (arith, l))
two_rows zero (suc zero) d l m = λ t n. absurd (cc)
two_rows (suc i) (suc zero) d l m = absurd (omega (arith, l))
two_rows i (suc (suc j)) d l m = absurd (omega (arith, m))

-- ---- the first one

main_sound : SoundFunc sample 0 main_func
main_sound = record {
  receiver = [];
  is_method = inl (refl, no_row [] [] main_func [] 0 (λ e. absurd (cc)) (λ e. absurd (cc)) (none_else 0));
  header = 0;
  begins = refl;
  captured_known = refl;
  sound_types = All-cons (λ (v : Var). IsGoodType sample v.type_) (var_of 1 int) [] (good_int [] [] main_func []) (All-nil (λ (v : Var). IsGoodType sample v.type_));
  sound_body = (
    ((0, omega arith, refl), good_int [] [] main_func []),
    (
      ((refl, tt), (((int, refl), refl, refl), tt)),
      (
        (
          (((int, refl), refl), refl, tt, refl, refl, tt, tt),
          (ty.bool, refl, tt),
          (((((((int, refl), refl), refl, tt, inl (tt, refl, refl)), tt), (tt, tt))), tt),
          tt,
        ),
        tt,
      ),
    ),
  );
  terminates = inl refl;
}

functions : (k : ℕ) (f : CoreFunc) → slice_get sample.funcs k ≡ Some f → SoundFunc sample k f
functions zero f e = subst (λ x. SoundFunc sample 0 x) (some_inj main_func f e) main_sound
functions (suc zero) f e = subst (λ x. SoundFunc sample 1 x) (some_inj error_func f e) (error_sound [] [] main_func [])
functions (suc (suc zero)) f e = subst (λ x. SoundFunc sample 2 x) (some_inj runtime_func f e) (runtime_sound [] [] main_func [])
functions (suc (suc (suc k))) f e = absurd (cc)

set : AreSet sample
set zero lt = refl
set (suc k) lt = absurd (omega (arith, lt))

pub sound : SampleIsSound
sound = record {
  names_set = set;
  types_fit = All-nil (IsGoodType sample);
  few_functions = omega arith;
  functions = functions;
  variables_differ = all_apart (all_vars sample) refl;
  main_fits = record { function = main_func; is_function = refl; no_params = refl; no_results = refl; captures_nothing = refl; no_method = no_row [] [] main_func [] 0 (λ e. absurd (cc)) (λ e. absurd (cc)) (none_else 0) };
  rows = All-cons (SoundRow sample) error_method (runtime_method ∷ []) (error_row [] [] main_func []) (All-cons (SoundRow sample) runtime_method [] (runtime_row [] [] main_func []) (All-nil (SoundRow sample)));
  rows_differ = two_rows;
  package_variables = λ k d lt. absurd (omega (arith, lt));
  numbers_differ = λ i j d l m. absurd (omega (arith, m));
  packages = λ k d lt. absurd (omega (arith, lt));
  paths_differ = λ i j d l m. absurd (omega (arith, m));
  hidden = hidden_sound [] [] main_func [];
}

-- ---- the one with tags

abbrev Good : Ty → Type 0
Good t = IsGoodType tags_sample t

abbrev GoodVar : Var → Type 0
GoodVar v = Good v.type_

good_a : Good type_a
good_a = record { is_whole = record { is_finite = refl; is_small = omega arith }; has_key = tt }

good_b : Good type_b
good_b = record { is_whole = record { is_finite = refl; is_small = omega arith }; has_key = tt }

good_c : Good type_c
good_c = record { is_whole = record { is_finite = refl; is_small = omega arith }; has_key = tt }

good_d : Good type_d
good_d = record { is_whole = record { is_finite = refl; is_small = omega arith }; has_key = tt }

good_pointer : (t : Ty) → Good (ty.pointer t)
good_pointer t = record { is_whole = record { is_finite = refl; is_small = omega arith }; has_key = tt }

good_slice : (t : Ty) → Good (ty.slice t)
good_slice t = record { is_whole = record { is_finite = refl; is_small = omega arith }; has_key = tt }

good_reader : (t : Ty) → Good (reader t)
good_reader t = record { is_whole = record { is_finite = refl; is_small = omega arith }; has_key = tt }

good_number : Good int
good_number = good_int tagged_names [] tags_func (read_func ∷ [])

-- a field of no package is no gate
no_gate : (name : List ℕ) (t : Ty) → IsGate (Some (record { name = name; package_ = []; type_ = t })) → ⊥
no_gate name t h = let e = h.0 in absurd (cc)

x_field : FieldTy
x_field = record { name = codes "X"; package_ = []; type_ = int }

no_method : (k : ℕ) → (1 ≡ k → ⊥) → (2 ≡ k → ⊥) → IsRowOf tags_sample k → ⊥
no_method k a b = no_row tagged_names [] tags_func (read_func ∷ []) k a b (none_else k)

tags_sound : SoundFunc tags_sample 0 tags_func
tags_sound = record {
  receiver = [];
  is_method = inl (refl, no_method 0 (λ e. absurd (cc)) (λ e. absurd (cc)));
  header = 0;
  begins = refl;
  captured_known = refl;
  sound_types =
      All-cons GoodVar (var_of 1 type_a) (var_of 2 type_b ∷ var_of 3 (ty.pointer type_b) ∷ var_of 4 type_c ∷ var_of 5 type_d ∷ var_of 6 (ty.slice pointer_b) ∷ var_of 7 (reader pointer_b) ∷ []) good_a
      (All-cons GoodVar (var_of 2 type_b) (var_of 3 (ty.pointer type_b) ∷ var_of 4 type_c ∷ var_of 5 type_d ∷ var_of 6 (ty.slice pointer_b) ∷ var_of 7 (reader pointer_b) ∷ []) good_b
      (All-cons GoodVar (var_of 3 (ty.pointer type_b)) (var_of 4 type_c ∷ var_of 5 type_d ∷ var_of 6 (ty.slice pointer_b) ∷ var_of 7 (reader pointer_b) ∷ []) (good_pointer type_b)
      (All-cons GoodVar (var_of 4 type_c) (var_of 5 type_d ∷ var_of 6 (ty.slice pointer_b) ∷ var_of 7 (reader pointer_b) ∷ []) good_c
      (All-cons GoodVar (var_of 5 type_d) (var_of 6 (ty.slice pointer_b) ∷ var_of 7 (reader pointer_b) ∷ []) good_d
      (All-cons GoodVar (var_of 6 (ty.slice pointer_b)) (var_of 7 (reader pointer_b) ∷ []) (good_slice pointer_b)
      (All-cons GoodVar (var_of 7 (reader pointer_b)) [] (good_reader pointer_b) (All-nil GoodVar)))))));
  sound_body =
      -- a := A{4}
      (
        ((0, omega arith, refl), good_a),
        (
          ((((refl, (record { name = codes "X"; package_ = []; type_ = int }, refl, refl, no_gate (codes "X") int), tt), good_a, tt), tt), (((type_a, refl), refl, refl), tt)),
          -- b := B(a)
          (
            ((1, omega arith, refl), good_b),
            (
              (((((type_a, refl), refl), refl, good_b, inl refl), tt), (((type_b, refl), refl, refl), tt)),
              -- p := (*B)(&a)
              (
                ((2, omega arith, refl), good_pointer type_b),
                (
                  (((((type_a, refl), type_a, refl, refl), refl, good_pointer type_b, inr (inr (inl refl))), tt), (((ty.pointer type_b, refl), refl, refl), tt)),
                  -- c := C{(*struct { X int "a" })(&a)}
                  (
                    ((3, omega arith, refl), good_c),
                    (
                      (((((((type_a, refl), type_a, refl, refl), refl, good_pointer (tagged tag_a), inr (inr (inl refl))), (record { name = codes "P"; package_ = []; type_ = pointer_a }, refl, refl, no_gate (codes "P") pointer_a), tt), good_c, tt), tt), (((type_c, refl), refl, refl), tt)),
                      -- d := D(c)
                      (
                        ((4, omega arith, refl), good_d),
                        (
                          (((((type_c, refl), refl), refl, good_d, inl refl), tt), (((type_d, refl), refl, refl), tt)),
                          -- the slice
                          (
                            ((5, omega arith, refl), good_slice pointer_b),
                            (
                              ((((((((type_c, refl), refl, tt, no_gate (codes "P") pointer_a), refl), (omega arith, refl), tt), good_slice pointer_a, tt), refl, good_slice pointer_b, inl refl), tt), (((ty.slice pointer_b, refl), refl, refl), tt)),
                              -- the function
                              (
                                ((6, omega arith, refl), good_reader pointer_b),
                                (
                                  (((((tt, refl), no_method 3 (λ e. absurd (cc)) (λ e. absurd (cc))), refl, good_reader pointer_b, inl refl), tt), (((reader pointer_b, refl), refl, refl), tt)),
                                  -- p.X = 8
                                  (
                                    ((refl, tt), ((((((ty.pointer type_b, refl), refl), type_b, refl), refl, tt, no_gate (codes "X") int), refl, refl), tt)),
                                    -- println
                                    (
                                      (
                                        (
                                          (((type_b, refl), refl, tt, no_gate (codes "X") int), refl),
                                          (
                                            (((((ty.pointer type_b, refl), refl), type_b, refl), refl, tt, no_gate (codes "X") int), refl),
                                            (
                                              ((((((type_d, refl), refl, tt, no_gate (codes "P") pointer_b), refl), tagged tag_b, refl), refl, tt, no_gate (codes "X") int), refl),
                                              (
                                                (((((((ty.slice pointer_b, refl), refl), refl, refl, tt, (int, refl, tt)), refl), tagged tag_b, refl), refl, tt, no_gate (codes "X") int), refl),
                                                (
                                                  (((reader pointer_b, refl), refl), ((((type_d, refl), refl, tt, no_gate (codes "P") pointer_b), refl), tt), (refl, refl)),
                                                  tt,
                                                ),
                                              ),
                                            ),
                                          ),
                                        ),
                                        (tt, (tt, (tt, (tt, (tt, tt))))),
                                      ),
                                      tt,
                                    ),
                                  ),
                                ),
                              ),
                            ),
                          ),
                        ),
                      ),
                    ),
                  ),
                ),
              ),
            ),
          ),
        ),
      );
  terminates = inl refl;
}

reads_sound : SoundFunc tags_sample 3 read_func
reads_sound = record {
  receiver = [];
  is_method = inl (refl, no_method 3 (λ e. absurd (cc)) (λ e. absurd (cc)));
  header = 2;
  begins = refl;
  captured_known = refl;
  sound_types = All-cons GoodVar (var_of 10 pointer_a) (var_of 11 int ∷ []) (good_pointer (tagged tag_a)) (All-cons GoodVar (var_of 11 int) [] good_number (All-nil GoodVar));
  sound_body = ((((((((pointer_a, refl), refl), tagged tag_a, refl), refl, tt, no_gate (codes "X") int), refl), tt), refl), tt);
  terminates = inr refl;
}

tags_functions : (k : ℕ) (f : CoreFunc) → slice_get tags_sample.funcs k ≡ Some f → SoundFunc tags_sample k f
tags_functions zero f e = subst (λ x. SoundFunc tags_sample 0 x) (some_inj tags_func f e) tags_sound
tags_functions (suc zero) f e = subst (λ x. SoundFunc tags_sample 1 x) (some_inj error_func f e) (error_sound tagged_names [] tags_func (read_func ∷ []))
tags_functions (suc (suc zero)) f e = subst (λ x. SoundFunc tags_sample 2 x) (some_inj runtime_func f e) (runtime_sound tagged_names [] tags_func (read_func ∷ []))
tags_functions (suc (suc (suc zero))) f e = subst (λ x. SoundFunc tags_sample 3 x) (some_inj read_func f e) reads_sound
tags_functions (suc (suc (suc (suc k)))) f e = absurd (cc)

tags_set : AreSet tags_sample
tags_set zero lt = refl
tags_set (suc zero) lt = refl
tags_set (suc (suc zero)) lt = refl
tags_set (suc (suc (suc zero))) lt = refl
tags_set (suc (suc (suc (suc zero)))) lt = refl
tags_set (suc (suc (suc (suc (suc k))))) lt = absurd (omega (arith, lt))

pub tags_are_ignored : TagsAreIgnored
tags_are_ignored = record {
  names_set = tags_set;
  types_fit = All-nil (IsGoodType tags_sample);
  few_functions = omega arith;
  functions = tags_functions;
  variables_differ = all_apart (all_vars tags_sample) refl;
  main_fits = record { function = tags_func; is_function = refl; no_params = refl; no_results = refl; captures_nothing = refl; no_method = no_method 0 (λ e. absurd (cc)) (λ e. absurd (cc)) };
  rows = All-cons (SoundRow tags_sample) error_method (runtime_method ∷ []) (error_row tagged_names [] tags_func (read_func ∷ []))
      (All-cons (SoundRow tags_sample) runtime_method [] (runtime_row tagged_names [] tags_func (read_func ∷ [])) (All-nil (SoundRow tags_sample)));
  rows_differ = two_rows;
  package_variables = λ k d lt. absurd (omega (arith, lt));
  numbers_differ = λ i j d l m. absurd (omega (arith, m));
  packages = λ k d lt. absurd (omega (arith, lt));
  paths_differ = λ i j d l m. absurd (omega (arith, m));
  hidden = hidden_sound tagged_names [] tags_func (read_func ∷ []);
}

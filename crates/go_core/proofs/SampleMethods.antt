-- The sample that puts a value of a type with an exported method into an interface value is Sound.
use Rattle.std.proofs.Common.{inl, inr, refl, sym, ap, ◌∙◌, subst, arith}
use Rattle.std.specs.Prelude.{◌≡◌, ℕ, zero, suc, List, [], ◌∷◌, ◌++◌, Bool, true, false, ◌||◌, ◌&&◌, if◌then◌else◌, bytes_eq, codes, Some, None, AllPairs, Contains, slice_get}
use Rattle.std.proofs.lemmas.List.Elements.{All-nil, All-cons}
use Rattle.go_type.specs.Tree.{Ty, Tys, no_tys}
use Rattle.go_type.specs.Members.{Sought, Member, method, sought, members_at, is_declared}
use Rattle.go_type.specs.Exported.{is_exported, IsHeld}
use Rattle.go_type.specs.declared.steps.Step.{Step}
use Rattle.go_core.specs.CoreTree.{Var, CoreFunc, MethodRow}
use Rattle.go_core.specs.TypeOf.{Signature}
use Rattle.go_core.specs.MeaningWords.{int, error_func, error_method, var_of}
use Rattle.go_core.specs.RowsCalls.{number, get, getter, row, int_results}
use Rattle.go_core.specs.SoundNode.{IsGoodType, IsRowOf, HasRow, HasRows, AnswersTo}
use Rattle.go_core.specs.SoundProgram.{SoundFunc, SoundRow, AreSet, DifferInRow, all_vars}
use Rattle.go_core.specs.SoundSample.{runtime_func, runtime_method, number_type, methods_func, methods_sample, ValuesWithMethodsAreWrapped}
use Rattle.go_core.proofs.SameTypeLemmas.{first_true, second_true, bytes_one}
use Rattle.go_core.proofs.SampleSound.{some_inj, shown, all_apart, no_row, good_int, error_sound, runtime_sound, error_row, runtime_row, hidden_sound}

abbrev Good : Ty → Type 0
Good t = IsGoodType methods_sample t

abbrev GoodVar : Var → Type 0
GoodVar v = Good v.type_

abbrev get_row : MethodRow
get_row = row number (codes "Get") 3

good_number : Good number
good_number = record { is_whole = record { is_finite = refl; is_small = omega arith }; has_key = tt }

good_getter : Good getter
good_getter = record { is_whole = record { is_finite = refl; is_small = omega arith }; has_key = tt }

good_plain : Good int
good_plain = good_int (number_type ∷ []) (get_row ∷ []) methods_func (get ∷ [])

not_get : (k : ℕ) → (3 ≡ k → ⊥) → (r : MethodRow) → Contains (get_row ∷ []) r → r.func ≡ k → ⊥
not_get k c r (zero, lt, e) f = c (ap (λ (x : MethodRow). x.func) e ∙ f)
not_get k c r (suc i, lt, e) f = absurd (omega (arith, lt))

no_method : IsRowOf methods_sample 0 → ⊥
no_method = no_row (number_type ∷ []) (get_row ∷ []) methods_func (get ∷ []) 0 (λ e. absurd (cc)) (λ e. absurd (cc)) (not_get 0 (λ e. absurd (cc)))

-- ---- its rows

get_has_row : HasRow methods_sample number (sought (codes "Get") []) no_tys int_results false
get_has_row = record { at = 2; row = get_row; function = get; found = refl; is_row = refl; is_function = refl; params_fit = refl; results_fit = refl; variadic_fits = refl }

abbrev get_signature : Signature
get_signature = record { params = no_tys; results = int_results; variadic = false }

signature_one : (x y : Signature) → Some x ≡ Some y → x ≡ y
signature_one x y e = cc

abbrev RowFor : List ℕ → List ℕ → Signature → Type 0
RowFor name package_ s = HasRow methods_sample number (sought name package_) s.params s.results s.variadic

by_name : (name package_ : List ℕ) (s : Signature) (b : Bool) → (bytes_eq (codes "Get") name && bytes_eq [] package_) ≡ b → (if b then Some get_signature else None) ≡ Some s → RowFor name package_ s
by_name name package_ s false e g = absurd (cc)
by_name name package_ s true e g =
    subst (RowFor name package_) (signature_one get_signature s g)
    (subst (λ q. RowFor name q get_signature) (bytes_one [] package_ (second_true (bytes_eq (codes "Get") name) (bytes_eq [] package_) e))
    (subst (λ n. RowFor n [] get_signature) (bytes_one (codes "Get") name (first_true (bytes_eq (codes "Get") name) (bytes_eq [] package_) e)) get_has_row))

answers : AnswersTo methods_sample number getter
answers name package_ s e = by_name name package_ s (bytes_eq (codes "Get") name && bytes_eq [] package_) refl e

-- `Get` is found at depth zero, and nothing deeper
abbrev get_member : Member
get_member = method [] number false no_tys int_results false

-- its package is empty, since the name is exported
package_one : (f : Sought) (c : Bool) → IsHeld f.name f.package_ → codes "Get" ≡ f.name → is_exported (codes "Get") ≡ c → (c || bytes_eq [] f.package_) ≡ true → [] ≡ f.package_
package_one f true held e x h = sym (held (subst (λ n. is_exported n ≡ true) e x))
package_one f false held e x h = bytes_one [] f.package_ h

record IsGet (f : Sought) (params results : Tys) (variadic : Bool) : Type 0 where
  is_declared_one : is_declared f (codes "Get") [] ≡ true
  no_params : no_tys ≡ params
  one_result : int_results ≡ results
  not_variadic : false ≡ variadic

member_is : (f : Sought) (path : List Step) (of_ : Ty) (on_pointer : Bool) (params results : Tys) (variadic c : Bool) → is_declared f (codes "Get") [] ≡ c
    → (if c then get_member ∷ [] else []) ++ [] ≡ method path of_ on_pointer params results variadic ∷ [] → IsGet f params results variadic
member_is f path of_ on_pointer params results variadic false e h = absurd (cc)
member_is f path of_ on_pointer params results variadic true e h = record { is_declared_one = e; no_params = cc; one_result = cc; not_variadic = cc }

found_at : (f : Sought) (d : ℕ) (path : List Step) (of_ : Ty) (on_pointer : Bool) (params results : Tys) (variadic : Bool)
    → members_at methods_sample.names f d number ≡ method path of_ on_pointer params results variadic ∷ [] → IsGet f params results variadic
unfolding members_at
found_at f zero path of_ on_pointer params results variadic h = member_is f path of_ on_pointer params results variadic (is_declared f (codes "Get") []) refl h
found_at f (suc d) path of_ on_pointer params results variadic h = absurd (cc)

has_rows : HasRows methods_sample number
has_rows f params results variadic held h =
    let g = found_at f h.depth h.path h.of_ h.on_pointer params results variadic h.shallowest.here in
    let e : codes "Get" ≡ f.name = bytes_one (codes "Get") f.name (first_true (bytes_eq (codes "Get") f.name) (is_exported (codes "Get") || bytes_eq [] f.package_) g.is_declared_one) in
    let x : (is_exported (codes "Get") || bytes_eq [] f.package_) ≡ true = second_true (bytes_eq (codes "Get") f.name) (is_exported (codes "Get") || bytes_eq [] f.package_) g.is_declared_one in
    subst (λ v. HasRow methods_sample number f params results v) g.not_variadic
    (subst (λ rs. HasRow methods_sample number f params rs false) g.one_result
    (subst (λ ps. HasRow methods_sample number f ps int_results false) g.no_params
    (subst (λ q. HasRow methods_sample number (record { name = f.name; package_ = q }) no_tys int_results false) (package_one f (is_exported (codes "Get")) held e refl x)
    (subst (λ n. HasRow methods_sample number (record { name = n; package_ = [] }) no_tys int_results false) e get_has_row))))

-- ---- the whole

methods_sound : SoundFunc methods_sample 0 methods_func
methods_sound = record {
  receiver = [];
  is_method = inl (refl, no_method);
  header = 0;
  begins = refl;
  captured_known = refl;
  sound_types = All-cons GoodVar (var_of 1 getter) [] good_getter (All-nil GoodVar);
  sound_body = (
    ((0, omega arith, refl), good_getter),
    (
      (((refl, refl, answers, λ h. h, has_rows), tt), (((getter, refl), refl, refl), tt)),
      ((((((getter, refl), refl), tt, (refl, refl)), tt), (tt, tt)), tt),
    ),
  );
  terminates = inl refl;
}

get_sound : SoundFunc methods_sample 3 get
get_sound = record {
  receiver = number ∷ [];
  is_method = inr (number, refl, (get_row, (2, omega arith, refl), refl));
  header = 2;
  begins = refl;
  captured_known = refl;
  sound_types = All-cons GoodVar (var_of 30 number) (var_of 31 int ∷ []) good_number (All-cons GoodVar (var_of 31 int) [] good_plain (All-nil GoodVar));
  sound_body = ((((((number, refl), refl), refl, good_plain, inl refl), tt), refl), tt);
  terminates = inr refl;
}

functions : (k : ℕ) (f : CoreFunc) → slice_get methods_sample.funcs k ≡ Some f → SoundFunc methods_sample k f
functions zero f e = subst (λ x. SoundFunc methods_sample 0 x) (some_inj methods_func f e) methods_sound
functions (suc zero) f e = subst (λ x. SoundFunc methods_sample 1 x) (some_inj error_func f e) (error_sound (number_type ∷ []) (get_row ∷ []) methods_func (get ∷ []))
functions (suc (suc zero)) f e = subst (λ x. SoundFunc methods_sample 2 x) (some_inj runtime_func f e) (runtime_sound (number_type ∷ []) (get_row ∷ []) methods_func (get ∷ []))
functions (suc (suc (suc zero))) f e = subst (λ x. SoundFunc methods_sample 3 x) (some_inj get f e) get_sound
functions (suc (suc (suc (suc k)))) f e = absurd (cc)

set : AreSet methods_sample
set zero lt = refl
set (suc zero) lt = refl
set (suc (suc k)) lt = absurd (omega (arith, lt))

get_row_sound : SoundRow methods_sample get_row
unfolding members_at
get_row_sound = record {
  function = get;
  receiver = var_of 30 number;
  others = var_of 31 int ∷ [];
  is_function = refl;
  has_vars = refl;
  captures_nothing = refl;
  fits = inl refl;
  has_signature = record {
    depth = 0;
    path = [];
    of_ = number;
    on_pointer = false;
    shallowest = record { before = record { at = λ e lt. absurd (omega (arith, lt)) }; here = shown (is_exported (codes "Get")) get_member };
    reached = λ e. absurd (cc);
  };
}

rows_apart : AllPairs DifferInRow (error_method ∷ runtime_method ∷ get_row ∷ [])
rows_apart i zero d l m = absurd (omega (arith, l))
rows_apart zero (suc zero) d l m = λ t n. absurd (cc)
rows_apart zero (suc (suc zero)) d l m = λ t n. absurd (cc)
rows_apart (suc zero) (suc (suc zero)) d l m = λ t n. absurd (cc)
rows_apart (suc i) (suc zero) d l m = absurd (omega (arith, l))
rows_apart (suc (suc i)) (suc (suc zero)) d l m = absurd (omega (arith, l))
rows_apart i (suc (suc (suc j))) d l m = absurd (omega (arith, m))

pub methods_are_wrapped : ValuesWithMethodsAreWrapped
methods_are_wrapped = record {
  names_set = set;
  types_fit = All-nil (IsGoodType methods_sample);
  few_functions = omega arith;
  functions = functions;
  variables_differ = all_apart (all_vars methods_sample) refl;
  main_fits = record { function = methods_func; is_function = refl; no_params = refl; no_results = refl; captures_nothing = refl; no_method = no_method };
  rows = All-cons (SoundRow methods_sample) error_method (runtime_method ∷ get_row ∷ []) (error_row (number_type ∷ []) (get_row ∷ []) methods_func (get ∷ []))
      (All-cons (SoundRow methods_sample) runtime_method (get_row ∷ []) (runtime_row (number_type ∷ []) (get_row ∷ []) methods_func (get ∷ []))
      (All-cons (SoundRow methods_sample) get_row [] get_row_sound (All-nil (SoundRow methods_sample))));
  rows_differ = rows_apart;
  package_variables = λ k d lt. absurd (omega (arith, lt));
  numbers_differ = λ i j d l m. absurd (omega (arith, m));
  packages = λ k d lt. absurd (omega (arith, lt));
  paths_differ = λ i j d l m. absurd (omega (arith, m));
  hidden = hidden_sound (number_type ∷ []) (get_row ∷ []) methods_func (get ∷ []);
}

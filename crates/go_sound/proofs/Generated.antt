-- The two functions that a program has beside those of its package: the methods of the type of run-time panics.
use Rattle.std.proofs.Common.{◌≡◌, inl, inr, ℕ, zero, suc, ◌+◌, ◌<◌, length, List, [], ◌∷◌, ◌++◌, refl, sym, subst, ap, ◌∙◌, arith, IsTrue, Bool, true, false, Some, if◌then◌else◌, slice_get, codes, All, AllPairs}
use Rattle.go_syntax.specs.Tree as t
use Rattle.go_type.specs.Tree as ty
use Rattle.go_type.specs.Tree.{Ty, no_tys, more_tys}
use Rattle.go_type.specs.Named.{NamedTy}
use Rattle.go_type.specs.Underlying.{underlying}
use Rattle.go_type.specs.Members.{method, own_members, members_at, sought}
use Rattle.go_type.specs.Exported.{is_exported}
use Rattle.go_type.specs.MethodSet.{HasMethod}
use Rattle.go_core.specs.Untagged.{untagged}
use Rattle.go_core.specs.CoreTree.{CoreFunc, CoreProgram, Var}
use Rattle.go_core.specs.TypeOf.{var_type}
use Rattle.go_core.specs.SoundNode.{IsGoodType, HasRow}
use Rattle.go_core.specs.SoundProgram.{SoundFunc, SoundRow, SoundHidden, DifferInRow}
use Rattle.go_typing.specs.Convert.{is_scalar}
use Rattle.go_typing.specs.Known.{first_names, hidden}
use Rattle.go_typing.specs.Checked.{known_in, functions_in, count_functions, var_at, error_function, runtime_function, method_at, program_of}
use Rattle.go_sound.proofs.SoundWords.{scalar_good}
use Rattle.go_sound.proofs.Words.{newest}
use Rattle.go_sound.proofs.Circles.{or_second}
use Rattle.go_sound.proofs.Package.{seam}

seam_next : (fs : List CoreFunc) (f g : CoreFunc) → slice_get (fs ++ f ∷ g ∷ []) (suc (length fs)) ≡ Some g
seam_next [] f g = refl
seam_next (h ∷ fs) f g = seam_next fs f g

module _ (ds : List t.Decl) (more : List NamedTy) (names : (program_of ds).names ≡ first_names ++ more) (counted : length (functions_in (known_in ds) ds).funcs ≡ count_functions ds) where
  abbrev p : CoreProgram
  p = program_of ds

  -- the number of the first of their variables
  abbrev next : ℕ
  next = (functions_in (known_in ds) ds).between.next

  abbrev count : ℕ
  count = count_functions ds

  under_hidden : underlying p.names hidden ≡ ty.str
  under_hidden = ap (λ (ns : List NamedTy). underlying ns hidden) names

  hidden_good : IsGoodType p hidden
  hidden_good = scalar_good p hidden (subst (λ (u : Ty). IsTrue (is_scalar u)) (sym under_hidden) refl)

  str_good : IsGoodType p ty.str
  str_good = scalar_good p ty.str refl

  pub error_at : slice_get p.funcs count ≡ Some (error_function next)
  error_at = subst (λ (i : ℕ). slice_get p.funcs i ≡ Some (error_function next)) counted (seam (functions_in (known_in ds) ds).funcs (error_function next) (runtime_function (next + 2) ∷ []))

  pub runtime_at : slice_get p.funcs (suc count) ≡ Some (runtime_function (next + 2))
  runtime_at = subst (λ (i : ℕ). slice_get p.funcs (suc i) ≡ Some (runtime_function (next + 2))) counted (seam_next (functions_in (known_in ds) ds).funcs (error_function next) (runtime_function (next + 2)))

  -- ---- the functions

  receiver_lies : var_type next (var_at next hidden ∷ var_at (suc next) ty.str ∷ []) ≡ Some hidden
  receiver_lies = newest (var_at next hidden) (var_at (suc next) ty.str ∷ [])

  error_types : All (λ (v : Var). IsGoodType p v.type_) (var_at next hidden ∷ var_at (suc next) ty.str ∷ [])
  error_types zero x l = hidden_good
  error_types (suc zero) x l = str_good
  error_types (suc (suc i)) x l = let n : suc (suc i) < 2 = l in absurd (omega arith)

  runtime_types : All (λ (v : Var). IsGoodType p v.type_) (var_at (next + 2) hidden ∷ [])
  runtime_types zero x l = hidden_good
  runtime_types (suc i) x l = let n : suc i < 1 = l in absurd (omega arith)

  pub error_sound : SoundFunc p count (error_function next)
  error_sound = record {
    receiver = hidden ∷ [];
    is_method = inr (hidden, refl, (method_at (codes "Error") count, (0, omega arith, refl), refl));
    header = 2;
    begins = refl;
    captured_known = refl;
    sound_types = error_types;
    sound_body = (((((((hidden, receiver_lies), receiver_lies), refl, str_good, inl (ap untagged under_hidden)), tt), refl), tt));
    terminates = inr refl;
  }

  pub runtime_sound : SoundFunc p (suc count) (runtime_function (next + 2))
  runtime_sound = record {
    receiver = hidden ∷ [];
    is_method = inr (hidden, refl, (method_at (codes "RuntimeError") (suc count), (1, omega arith, refl), refl));
    header = 1;
    begins = refl;
    captured_known = refl;
    sound_types = runtime_types;
    sound_body = tt;
    terminates = inl refl;
  }

  -- ---- the methods

  error_declared : members_at p.names (sought (codes "Error") []) 0 hidden ≡ method [] hidden false no_tys (more_tys ty.str no_tys) false ∷ []
  unfolding members_at
  error_declared =
      ap (λ (ns : List NamedTy). own_members ns (sought (codes "Error") []) hidden) names
      ∙ ap (λ (c : Bool). (if c then method [] hidden false no_tys (more_tys ty.str no_tys) false ∷ [] else []) ++ []) (or_second (is_exported (codes "Error")) true refl)

  runtime_declared : members_at p.names (sought (codes "RuntimeError") []) 0 hidden ≡ method [] hidden false no_tys no_tys false ∷ []
  unfolding members_at
  runtime_declared =
      ap (λ (ns : List NamedTy). own_members ns (sought (codes "RuntimeError") []) hidden) names
      ∙ ap (λ (c : Bool). (if c then method [] hidden false no_tys no_tys false ∷ [] else []) ++ []) (or_second (is_exported (codes "RuntimeError")) true refl)

  error_signature : HasMethod p.names hidden (sought (codes "Error") []) no_tys (more_tys ty.str no_tys) false
  error_signature = record { depth = 0; path = []; of_ = hidden; on_pointer = false; shallowest = record { before = record { at = λ e l. absurd (omega arith) }; here = error_declared }; reached = λ e. cc }

  runtime_signature : HasMethod p.names hidden (sought (codes "RuntimeError") []) no_tys no_tys false
  runtime_signature = record { depth = 0; path = []; of_ = hidden; on_pointer = false; shallowest = record { before = record { at = λ e l. absurd (omega arith) }; here = runtime_declared }; reached = λ e. cc }

  pub rows_sound : All (SoundRow p) p.methods
  rows_sound zero x l = record {
    function = error_function next;
    receiver = var_at next hidden;
    others = var_at (suc next) ty.str ∷ [];
    is_function = error_at;
    has_vars = refl;
    captures_nothing = refl;
    fits = inl refl;
    has_signature = error_signature;
  }
  rows_sound (suc zero) x l = record {
    function = runtime_function (next + 2);
    receiver = var_at (next + 2) hidden;
    others = [];
    is_function = runtime_at;
    has_vars = refl;
    captures_nothing = refl;
    fits = inl refl;
    has_signature = runtime_signature;
  }
  rows_sound (suc (suc i)) x l = let n : suc (suc i) < 2 = l in absurd (omega arith)

  pub rows_apart : AllPairs DifferInRow p.methods
  rows_apart i zero x l m = let n : i < 0 = l in absurd (omega arith)
  rows_apart zero (suc zero) x l m = λ t n. absurd (cc)
  rows_apart (suc i) (suc zero) x l m = let n : suc i < 1 = l in absurd (omega arith)
  rows_apart i (suc (suc j)) x l m = let n : suc (suc j) < 2 = m in absurd (omega arith)

  error_row : HasRow p p.hidden (sought (codes "Error") []) no_tys (more_tys ty.str no_tys) false
  error_row = record { at = 0; row = method_at (codes "Error") count; function = error_function next; found = refl; is_row = refl; is_function = error_at; params_fit = refl; results_fit = refl; variadic_fits = refl }

  runtime_row : HasRow p p.hidden (sought (codes "RuntimeError") []) no_tys no_tys false
  runtime_row = record { at = 1; row = method_at (codes "RuntimeError") (suc count); function = runtime_function (next + 2); found = refl; is_row = refl; is_function = runtime_at; params_fit = refl; results_fit = refl; variadic_fits = refl }

  pub hidden_sound : SoundHidden p
  hidden_sound = record { name = 1; is_named = refl; is_text = under_hidden; has_error = error_row; has_runtime_error = runtime_row }

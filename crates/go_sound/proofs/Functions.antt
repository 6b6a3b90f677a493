-- Functions of whose signatures and bodies nothing is told have a meaning.
use Rattle.std.proofs.Common.{◌≡◌, ◌≤◌, ◌<◌, ◌⊎◌, inl, inr, ℕ, zero, suc, length, take, drop, get_or, List, [], ◌∷◌, ◌++◌, append_assoc, append-nil, refl, sym, subst, ap, ◌∙◌, arith, IsTrue, Bool, true, false, Option, Some, None, if◌then◌else◌, Contains, All, ◌==◌, eq-eqb}
use Rattle.std.proofs.lemmas.List.Elements.{Contains-append_cases, Contains-get_or}
use Rattle.gj_base.specs.declared.place.Place.{Place}
use Rattle.go_syntax.specs.Tree as t
use Rattle.go_syntax.specs.declared.tree.Name.{Name}
use Rattle.go_type.specs.Tree.{Ty, Tys, no_tys, more_tys}
use Rattle.go_type.specs.Named.{NamedTy}
use Rattle.go_core.specs.CoreTree.{Var, CoreFunc, CoreProgram}
use Rattle.go_core.specs.TypeOf.{listed_types}
use Rattle.go_core.specs.Terminating.{ends_terminating}
use Rattle.go_core.specs.SoundNode as node
use Rattle.go_core.specs.SoundNode.{IsGoodType, IsRowOf, types_of_vars}
use Rattle.go_core.specs.Sound.{SoundStmts}
use Rattle.go_core.specs.SoundProgram.{SoundFunc}
use Rattle.go_typing.specs.Env.{variable, lookup}
use Rattle.go_typing.specs.Answer.{Flaw, flaw}
use Rattle.go_typing.specs.Walk.{Walk, Around, Did, body, unused}
use Rattle.go_typing.specs.Labels.{labels_told}
use Rattle.go_typing.specs.Statements.{stmts, missing_return, far_told, where_clean, where_whole, whole_told, with_labels}
use Rattle.go_typing.specs.Signature.{SigTypes, params_of, results_of, all_bound, inside, sig_flaws, sig_types, list_flaws, params_place, results_place, names_flaws}
use Rattle.go_typing.specs.Functions.{Between, at_start, results_typed, around_body, core_function}
use Rattle.go_sound.specs.Added.{TypesAreSet}
use Rattle.go_sound.specs.GoesOn.{AreNumbered, GoesOn}
use Rattle.go_sound.specs.SoundTyped.{IsScalarType, OptionIsSound}
use Rattle.go_sound.specs.SoundValues.{IsReady}
use Rattle.go_sound.proofs.SoundBodies.{no_first}
use Rattle.go_sound.proofs.SoundWords.{scalar_good}
use Rattle.go_sound.proofs.GoesOnSteps.{then_on}
use Rattle.go_sound.proofs.GoesOnBodies.{all_bound_on, stmts_on}
use Rattle.go_sound.specs.Grammar.{SigOfGrammar, BlockOfGrammar}
use Rattle.go_sound.specs.SoundStatements.{Holds}
use Rattle.go_sound.specs.SoundFunctions.{PackageIsReady, FunctionsAreSound}
use Rattle.go_sound.proofs.Words.{at_vars, body_at, three_of_three, one_of_four, four_of_four}
use Rattle.go_sound.proofs.Ready.{State, ready_later, ready_pushed, types_still, lookup_pushed, numbers_grow, Scoped, Done, Adds, adds_then}
use Rattle.go_sound.proofs.Statements.{stmts_done}
use Rattle.go_sound.proofs.Signatures.{AllTyped, all_append, tys_in, types_in, types_listed, types_joined, AreFound, all_found, IsSig, sig_here, sig_found}
use Rattle.go_sound.proofs.Headers.{Header, AllBound, all_bound_here, inside_parallel}

-- ---- lists

take_front : (xs ys : List Var) → take (length xs) (xs ++ ys) ≡ xs
take_front [] ys = refl
take_front (x ∷ xs) ys = ap (λ (zs : List Var). x ∷ zs) (take_front xs ys)

drop_front : (xs ys : List Var) → drop (length xs) (xs ++ ys) ≡ ys
drop_front [] ys = refl
drop_front (x ∷ xs) ys = drop_front xs ys

-- a numbered variable has a number before the next one
number_before : (k m : ℕ) (xs : List Var) (i : ℕ) (d : Var) → AreNumbered k xs m → i < length xs → (get_or xs i d).id < m
number_before k m [] i d h l = absurd (omega arith)
number_before k m (x ∷ xs) zero d h l = let e = h.0 in let g = numbers_grow (suc k) m xs h.1 in omega arith
number_before k m (x ∷ xs) (suc i) d h l = number_before (suc k) m xs i d h.1 (omega arith)

contained_before : (k m : ℕ) (xs : List Var) (x : Var) → AreNumbered k xs m → Contains xs x → x.id < m
contained_before k m xs x h c = subst (λ (y : Var). y.id < m) c.2 (number_before k m xs c.0 x h c.1)

-- ---- the scope of the package

abbrev nowhere : node.Around
nowhere = record { vars = []; declarable = []; results = no_tys; breaks = []; continues = [] }

-- no name of it is a variable, which would lie nowhere outside of functions
no_variable : (p : CoreProgram) (w : Walk) → PackageIsReady p w → (x : List ℕ) (id : ℕ) (u : Ty) → lookup x w.scopes ≡ Some (variable id u) → ⊥
no_variable p w pack x id u e =
    let s = subst (OptionIsSound p nowhere) e (pack.scopes nowhere x) in
    let m : None ≡ Some u = s.1 in cc

-- what is told of the whole, where nothing is told of the parts, and no name is lost
clean_untold : (parts fs : List Flaw) → parts ≡ [] → where_clean parts fs ≡ [] → fs ≡ []
clean_untold [] fs g h = h
clean_untold (p ∷ ps) fs g h = let f : p ∷ ps ≡ [] = g in cc

whole_untold : (m n : ℕ) (parts fs : List Flaw) → m ≡ n → parts ≡ [] → where_whole (m == n) parts fs ≡ [] → fs ≡ []
whole_untold m n parts fs e g h = clean_untold parts fs g (subst (λ (c : Bool). where_whole c parts fs ≡ []) (eq-eqb m n e) h)

-- ---- a function

module _ (far : Option Place) (p : CoreProgram) (w : Walk) (pack : PackageIsReady p w) (k : Between) (types further : List NamedTy) (grown : k.names ≡ w.names ++ types) (at : Place) (n : Name) (s : t.Sig) (at1 : Place) (ss : t.Stmts) (end : Place) (o : SigOfGrammar s)
    (ob : BlockOfGrammar (t.BlockOf at1 ss end)) (names : p.names ≡ (body_at far w k at n s (t.BlockOf at1 ss end)).walk.names ++ further) (sig_untold : sig_flaws w s ≡ []) (untold : (body_at far w k at n s (t.BlockOf at1 ss end)).flaws ≡ []) where
  abbrev pub v0 : Walk
  v0 = inside (at_start w k)

  -- after the parameters and results
  abbrev pub v1 : Walk
  v1 = all_bound w (params_of s ++ results_of s) v0

  -- what stands around the statements
  abbrev pub a1 : Around
  a1 = with_labels (t.BlockOf at1 ss end) (around_body far w at n s)

  abbrev pub d : Did
  d = stmts ss a1 v1

  added : GoesOn v1 d.walk
  added = stmts_on ss a1 v1

  bound_on : GoesOn v0 v1
  bound_on = all_bound_on w (params_of s ++ results_of s) v0

  all_on : GoesOn v0 d.walk
  all_on = then_on v0 v1 d.walk bound_on added

  abbrev pub header : List Var
  header = v1.vars

  -- whatever stands around, the scope of the package is ready
  package_ready : (a : node.Around) → IsReady p a w
  package_ready a = record {
    scopes = pack.scopes a;
    types_set = pack.types_set;
    all_typed = pack.all_typed;
    further = types ++ (all_on.types ++ further);
    names_kept =
        names ∙ ap (λ (ns : List NamedTy). ns ++ further) (all_on.types_added ∙ ap (λ (ns : List NamedTy). ns ++ all_on.types) grown) ∙ append_assoc (w.names ++ types) all_on.types further
        ∙ append_assoc w.names types (all_on.types ++ further);
  }

  -- the function's own scope, before its parameters
  first_ready : (a : node.Around) → IsReady p a v0
  first_ready a =
      ready_pushed p a (at_start w k) v0 refl refl
      (ready_later p a w (at_start w k) types grown refl (all_on.types ++ further, names ∙ ap (λ (ns : List NamedTy). ns ++ further) all_on.types_added ∙ append_assoc k.names all_on.types further) (package_ready a))

  -- of no name yet
  abbrev pub nothing_around : node.Around
  nothing_around = record { vars = []; declarable = []; results = no_tys; breaks = []; continues = [] }

  sig : IsSig p w nothing_around (package_ready nothing_around) s
  sig = sig_here p w nothing_around (package_ready nothing_around) s o sig_untold

  abbrev param_tys : Tys
  param_tys = tys_in p w (params_of s) sig.params

  abbrev result_tys : Tys
  result_tys = tys_in p w (results_of s) sig.results

  params : AreFound p w (params_of s) sig.params
  params = all_found p w (params_of s) sig.params

  results : AreFound p w (results_of s) sig.results
  results = all_found p w (results_of s) sig.results

  found : sig_types w s ≡ Some (record { params = param_tys; results = result_tys })
  found = sig_found p w nothing_around (package_ready nothing_around) s sig_untold sig.params sig.results params results

  -- what stands around the body
  abbrev around : node.Around
  around = record { vars = header; declarable = drop (length header) d.walk.vars; results = result_tys; breaks = []; continues = [] }

  abbrev all_typed : AllTyped p w (params_of s ++ results_of s)
  all_typed = all_append p w (params_of s) (results_of s) sig.params sig.results

  names_untold : names_flaws w (params_of s ++ results_of s) (inside w) ≡ []
  names_untold = three_of_three (list_flaws w (params_place s) (params_of s)) (list_flaws w (results_place s) (results_of s)) (names_flaws w (params_of s ++ results_of s) (inside w)) sig_untold

  start : Header p around w k.next v0
  start = record {
    scoped = record { ready = first_ready (at_vars around []); before = λ x id u e. absurd (no_variable p w pack x id u (sym (lookup_inside x) ∙ e)) };
    numbered = refl;
    types = types;
    names = grown;
  }
    where
      lookup_inside : (x : List ℕ) → lookup x v0.scopes ≡ lookup x w.scopes
      lookup_inside x = lookup_pushed x w.scopes

  bound : AllBound p around w k.next (types_in p w (params_of s ++ results_of s) all_typed) v0 v1
  bound = all_bound_here p around w k.next (params_of s ++ results_of s) all_typed (inside w) v0 (inside_parallel w (at_start w k)) names_untold start

  header_state : Header p around w k.next v1
  header_state = bound.header

  header_types : types_of_vars header ≡ listed_types param_tys ++ listed_types result_tys
  header_types =
      bound.types ∙ types_joined p w (params_of s) (results_of s) sig.params sig.results
      ∙ ap (λ (ts : List Ty). ts ++ types_in p w (results_of s) sig.results) (types_listed p w (params_of s) sig.params) ∙ ap (λ (ts : List Ty). listed_types param_tys ++ ts) (types_listed p w (results_of s) sig.results)

  scoped : Scoped p around header v1
  scoped = header_state.scoped

  state : State p around header a1 v1
  state = record {
    ready = scoped.ready;
    before = scoped.before;
    around = record {
      results = ap results_typed found;
      results_scalar = results.scalar;
      results_set = subst (λ (ns : List NamedTy). TypesAreSet ns result_tys) (sym header_state.names) (types_still w.names header_state.types result_tys results.set);
      targets = tt;
      labels_before = λ label c. let l = c.1 in absurd (omega arith);
    };
  }

  holds : Holds p around.declarable v1 d.walk
  holds = record { variables = declarable; further = further; names_kept = names }
    where
      declarable : (x : Var) → v1.next ≤ x.id → Contains d.walk.vars x → Contains (drop (length header) d.walk.vars) x
      declarable x l c =
          subst (λ (xs : List Var). Contains xs x) (sym (ap (drop (length header)) added.variables_added ∙ drop_front header added.variables))
          (by_case (Contains-append_cases header added.variables x (subst (λ (xs : List Var). Contains xs x) added.variables_added c)))
        where
          by_case : Contains header x ⊎ Contains added.variables x → Contains added.variables x
          by_case (inl e) = let m = contained_before k.next v1.next header x header_state.numbered e in absurd (omega arith)
          by_case (inr e) = e

  -- what is told of the body: of its parts, and of the whole
  abbrev parts : List Flaw
  parts = d.flaws ++ labels_told (t.BlockOf at1 ss end) ++ unused d.walk.declared d.walk.used

  abbrev whole : List Flaw
  whole = whole_told (around_body far w at n s) end d.core

  statements_untold : d.flaws ≡ []
  statements_untold = one_of_four d.flaws (labels_told (t.BlockOf at1 ss end)) (unused d.walk.declared d.walk.used) (where_whole (d.walk.lost == v1.lost) parts whole) untold

  done : Done p around header v1 d
  done = stmts_done p ss ob around a1 header v1 state holds statements_untold

  nothing_lost : d.walk.lost ≡ v1.lost
  nothing_lost = let a = done.adds in a.lost

  ends : missing_return (Some result_tys) end d.core ≡ []
  ends =
      let h = four_of_four d.flaws (labels_told (t.BlockOf at1 ss end)) (unused d.walk.declared d.walk.used) (where_whole (d.walk.lost == v1.lost) parts whole) untold in
      let g = whole_untold d.walk.lost v1.lost parts whole nothing_lost (no_first parts (where_whole (d.walk.lost == v1.lost) parts whole) untold) h in
      subst (λ (r : Option Tys). missing_return r end d.core ≡ []) (ap results_typed found)
      (no_first (missing_return (around_body far w at n s).results end d.core) (where_clean (missing_return (around_body far w at n s).results end d.core) (far_told (around_body far w at n s).too_far)) g)

  terminates_by : (rs : Tys) → missing_return (Some rs) end d.core ≡ [] → (rs ≡ no_tys) ⊎ IsTrue (ends_terminating (body d.core))
  terminates_by no_tys h = inl refl
  terminates_by (more_tys u us) h = by_test (ends_terminating (body d.core)) refl h
    where
      by_test : (c : Bool) → ends_terminating (body d.core) ≡ c → (if c then [] else flaw end 87 ∷ []) ≡ [] → (more_tys u us ≡ no_tys) ⊎ IsTrue (ends_terminating (body d.core))
      by_test true e g = inr e
      by_test false e g = cc

  all_adds : Adds p v0 d.walk
  all_adds = adds_then p v0 v1 d.walk bound.adds done.adds

  good_vars : All (λ (v : Var). IsGoodType p v.type_) d.walk.vars
  good_vars i x l = by_case (all_adds.good (get_or d.walk.vars i x) (Contains-get_or d.walk.vars i x l))
    where
      by_case : Contains [] (get_or d.walk.vars i x) ⊎ IsScalarType p (get_or d.walk.vars i x).type_ → IsGoodType p (get_or d.walk.vars i x).type_
      by_case (inl c) = let m = c.1 in absurd (omega arith)
      by_case (inr e) = scalar_good p (get_or d.walk.vars i x).type_ e

  -- a function with these types
  abbrev function_with : Option SigTypes → CoreFunc
  function_with x = core_function at n x (body_at far w k at n s (t.BlockOf at1 ss end))

  sound_with : (id : ℕ) → (IsRowOf p id → ⊥) → SoundFunc p id (function_with (Some (record { params = param_tys; results = result_tys })))
  sound_with id row = record {
    receiver = [];
    is_method = inl (refl, row);
    header = length header;
    begins = ap types_of_vars front ∙ header_types;
    captured_known = refl;
    sound_types = good_vars;
    sound_body = subst (λ (xs : List Var). SoundStmts p (record { vars = xs; declarable = drop (length header) d.walk.vars; results = result_tys; breaks = []; continues = [] }) (body d.core)) (sym (append-nil (take (length header) d.walk.vars) ∙ front)) done.is_sound;
    terminates = terminates_by result_tys ends;
  }
    where
      front : take (length header) d.walk.vars ≡ header
      front = ap (take (length header)) added.variables_added ∙ take_front header added.variables

  pub function_sound : (id : ℕ) → (IsRowOf p id → ⊥) → SoundFunc p id (function_with (sig_types w s))
  function_sound id row = subst (λ (x : Option SigTypes). SoundFunc p id (function_with x)) (sym found) (sound_with id row)

  pub function_adds : Adds p v0 d.walk
  function_adds = all_adds

pub functions_are_sound : FunctionsAreSound
functions_are_sound far p w pack k types further grown at n s (t.BlockOf at1 ss end) o ob names h g id row = function_sound far p w pack k types further grown at n s at1 ss end o ob names h g id row

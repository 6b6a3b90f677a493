-- A package of which nothing is told, and that has a function `main`, is a program that has a meaning.
use Rattle.std.proofs.Common.{◌≡◌, ◌≤◌, ◌<◌, ℕ, zero, suc, ◌+◌, length, List, [], ◌∷◌, ◌++◌, refl, sym, subst, ap, ◌∙◌, arith, Bool, true, false, Option, Some, None, if◌then◌else◌, nat_lt, slice_get, slice_index_or, All}
use Rattle.std.proofs.Math.Dec.{nltb→le}
use Rattle.std.specs.Prelude.{T, not}
use Rattle.gj_base.specs.declared.place.Place.{Place}
use Rattle.go_syntax.specs.Tree as t
use Rattle.go_core.specs.CoreTree.{CoreFunc, PackageRow}
use Rattle.go_core.specs.SoundProgram.{SoundFunc, Imports, LeadsToPackage, at_once, through, SoundPackage, Sound}
use Rattle.go_typing.specs.Answer.{Flaw, flaw}
use Rattle.go_typing.specs.Items.{items_of}
use Rattle.go_typing.specs.Known.{Known, outside}
use Rattle.go_typing.specs.Cycles.{cycle_flaws}
use Rattle.go_typing.specs.Told.{function_told, specs_told, types_told, decls_told, names_told}
use Rattle.go_typing.specs.Functions.{Between, Functions, after_body, functions_from}
use Rattle.go_typing.specs.Checked.{known_in, between_of, functions_in, first_byte, first_too_far, count_functions, or_generated, told, error_function, runtime_function, program_of}
use Rattle.go_sound.proofs.SoundBodies.{no_first, no_second}
use Rattle.go_sound.proofs.GoesOnBodies.{variables_differ}
use Rattle.go_sound.specs.Grammar.{DeclsOfGrammar}
use Rattle.go_sound.specs.SoundPrograms.{HasMain, ProgramsAreSound}
use Rattle.go_sound.proofs.Words.{body_at}
use Rattle.go_sound.proofs.Items.{FunctionFine, function_fine}
use Rattle.go_sound.proofs.Scope.{no_decls_told}
use Rattle.go_sound.proofs.Package.{and_then_functions}
use Rattle.go_sound.proofs.Bodies.{some_function, package_functions}
use Rattle.go_sound.proofs.Main.{main_is_plain}
use Rattle.go_sound.proofs.NamedTypes.{names_are_set, names_begin}
use Rattle.go_sound.proofs.Generated.{error_sound, runtime_sound, rows_sound, rows_apart, hidden_sound}

-- ---- how many functions there are

counted : (far : Option Place) (f : Known) (ds : List t.Decl) (k : Between) → decls_told (outside f) ds ≡ [] → length (functions_from far (outside f) ds k).funcs ≡ count_functions ds
counted far f [] k h = refl
counted far f (t.ConstDecl at vs ∷ ds) k h = counted far f ds k (no_second (specs_told at 0 (outside f) t.NoExpr t.NoExprs vs) _ h)
counted far f (t.TypeDecl at ts ∷ ds) k h = counted far f ds k (no_second (types_told (outside f) ts) _ h)
counted far f (t.VarDecl at vs ∷ ds) k h = cc
counted far f (t.MethodDecl at q rs n s b ∷ ds) k h = cc
counted far f (t.FuncDecl at n s b ∷ ds) k h =
    ap (λ (r : Functions). length r.funcs) (and_then_functions far (outside f) at n s b ds k fine.no_init)
    ∙ ap suc (counted far f ds (after_body (body_at far (outside f) k at n s b)) (no_second (function_told at n s (outside f)) (decls_told (outside f) ds) h))
  where
    fine : FunctionFine f n s
    fine = function_fine f at n s (no_first (function_told at n s (outside f)) (decls_told (outside f) ds) h)

two_more : (fs : List CoreFunc) (e r : CoreFunc) → length (fs ++ e ∷ r ∷ []) ≡ suc (suc (length fs))
two_more [] e r = refl
two_more (f ∷ fs) e r = ap suc (two_more fs e r)

few_enough : (n : ℕ) (fs : List Flaw) → or_generated n fs ≡ [] → n + 2 ≤ 65535
few_enough n [] h = by_test (nat_lt 65535 (n + 2)) refl h
  where
    by_test : (c : Bool) → nat_lt 65535 (n + 2) ≡ c → (if c then flaw first_byte 79 ∷ [] else []) ≡ [] → n + 2 ≤ 65535
    by_test true e g = cc
    by_test false e g = nltb→le 65535 (n + 2) (subst (λ (b : Bool). T (not b)) (sym e) tt)
few_enough n (f ∷ fs) h = cc

-- ---- which function has a number

data Split (fs : List CoreFunc) (e r : CoreFunc) (k : ℕ) (f : CoreFunc) : Type 0 where
  within : slice_get fs k ≡ Some f → Split fs e r k f
  first_after : k ≡ length fs → e ≡ f → Split fs e r k f
  second_after : k ≡ suc (length fs) → r ≡ f → Split fs e r k f

split_at : (fs : List CoreFunc) (e r : CoreFunc) (k : ℕ) (f : CoreFunc) → slice_get (fs ++ e ∷ r ∷ []) k ≡ Some f → Split fs e r k f
split_at [] e r zero f h = first_after refl (some_function e f h)
split_at [] e r (suc zero) f h = second_after refl (some_function r f h)
split_at [] e r (suc (suc k)) f h = let g : None ≡ Some f = h in cc
split_at (g ∷ fs) e r zero f h = within h
split_at (g ∷ fs) e r (suc k) f h = again (split_at fs e r k f h)
  where
    again : Split fs e r k f → Split (g ∷ fs) e r (suc k) f
    again (within u) = within u
    again (first_after u v) = first_after (ap suc u) v
    again (second_after u v) = second_after (ap suc u) v

-- ---- the package imports nothing

abbrev the_package : PackageRow
the_package = record { path = []; imports = []; inits = [] }

module _ (ds : List t.Decl) where
  no_import : (a b : List ℕ) → Imports (program_of ds) a b → ⊥
  no_import a b h = let c = h.1 in by_index c.0 c.1 c.2
    where
      by_index : (i : ℕ) → i < 1 → slice_index_or (the_package ∷ []) i h.0 ≡ h.0 → ⊥
      by_index zero l e = let d = h.3 in let m : d.0 < 0 = subst (λ (r : PackageRow). d.0 < length r.imports) (sym e) d.1 in absurd (omega arith)
      by_index (suc i) l e = absurd (omega arith)

  leads_nowhere : (a b : List ℕ) → LeadsToPackage (program_of ds) a b → ⊥
  leads_nowhere a b (at_once x y i) = no_import x y i
  leads_nowhere a b (through x y z i l) = no_import x y i

  package_sound : SoundPackage (program_of ds) the_package
  package_sound = record { inits_fit = λ i x l. let n : i < 0 = l in absurd (omega arith); imports_known = λ path c. let n : c.0 < 0 = c.1 in absurd (omega arith); no_cycle = λ l. leads_nowhere [] [] l }

  packages_sound : All (SoundPackage (program_of ds)) (program_of ds).packages
  packages_sound zero x l = package_sound
  packages_sound (suc i) x l = let n : suc i < 1 = l in absurd (omega arith)

-- ---- the whole

module _ (ds : List t.Decl) (o : DeclsOfGrammar ds) (untold : told ds ≡ []) where
  number : length (functions_in (known_in ds) ds).funcs ≡ count_functions ds
  number = counted (first_too_far ds) (known_in ds) ds (between_of (known_in ds)) (no_decls_told ds untold)

  few : length (program_of ds).funcs ≤ 65535
  few =
      let l = few_enough (count_functions ds) (names_told [] (items_of ds) ++ cycle_flaws (known_in ds).binds (items_of ds) ++ decls_told (outside (known_in ds)) ds ++ (functions_in (known_in ds) ds).flaws) untold in
      let e = two_more (functions_in (known_in ds) ds).funcs (error_function (functions_in (known_in ds) ds).between.next) (runtime_function ((functions_in (known_in ds) ds).between.next + 2)) in
      let n = number in
      omega arith

  all_functions : (k : ℕ) (f : CoreFunc) → slice_get (program_of ds).funcs k ≡ Some f → SoundFunc (program_of ds) k f
  all_functions k f e = by_place (split_at (functions_in (known_in ds) ds).funcs (error_function (functions_in (known_in ds) ds).between.next) (runtime_function ((functions_in (known_in ds) ds).between.next + 2)) k f e)
    where
      by_place : Split (functions_in (known_in ds) ds).funcs (error_function (functions_in (known_in ds) ds).between.next) (runtime_function ((functions_in (known_in ds) ds).between.next + 2)) k f → SoundFunc (program_of ds) k f
      by_place (within u) = package_functions ds o untold k f u
      by_place (first_after u v) =
          let b = names_begin ds in
          subst (λ (i : ℕ). SoundFunc (program_of ds) i f) (sym (u ∙ number)) (subst (SoundFunc (program_of ds) (count_functions ds)) v (error_sound ds b.0 b.1 number))
      by_place (second_after u v) =
          let b = names_begin ds in
          subst (λ (i : ℕ). SoundFunc (program_of ds) i f) (sym (u ∙ ap suc number)) (subst (SoundFunc (program_of ds) (suc (count_functions ds))) v (runtime_sound ds b.0 b.1 number))

  whole : HasMain ds → Sound (program_of ds)
  whole m =
      let b = names_begin ds in
      record {
        names_set = names_are_set ds o untold;
        types_fit = λ i x l. let n : i < 0 = l in absurd (omega arith);
        few_functions = few;
        functions = all_functions;
        variables_differ = variables_differ ds;
        main_fits = main_is_plain ds untold m;
        rows = rows_sound ds b.0 b.1 number;
        rows_differ = rows_apart ds b.0 b.1 number;
        package_variables = λ i x l. let n : i < 0 = l in absurd (omega arith);
        numbers_differ = λ i j x l n. let g : j < 0 = n in absurd (omega arith);
        packages = packages_sound ds;
        paths_differ = λ i j x l n. let g : j < 1 = n in absurd (omega arith);
        hidden = hidden_sound ds b.0 b.1 number;
      }

pub programs_are_sound : ProgramsAreSound
programs_are_sound ds o h m = whole ds o h m

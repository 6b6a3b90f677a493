-- The function `main` of a package of which nothing is told.
use Rattle.std.proofs.Common.{◌≡◌, ◌⊎◌, inl, inr, ℕ, suc, ◌+◌, List, [], ◌∷◌, ◌++◌, refl, sym, subst, ◌∙◌, arith, Bool, true, false, Option, Some, None, if◌then◌else◌}
use Rattle.go_syntax.specs.Tree as t
use Rattle.go_syntax.specs.declared.tree.Name.{Name}
use Rattle.go_type.specs.Tree.{Tys, no_tys, more_tys}
use Rattle.go_core.specs.CoreTree.{CoreProgram}
use Rattle.go_core.specs.SoundNode.{IsRowOf}
use Rattle.go_core.specs.SoundProgram.{IsPlainFunc}
use Rattle.go_typing.specs.Answer.{flaw}
use Rattle.go_typing.specs.Signature.{SigTypes, sig_types}
use Rattle.go_typing.specs.Items.{Item, init_item, function_item, constant_items, type_items, types_after, items_from}
use Rattle.go_typing.specs.Known.{Known, outside}
use Rattle.go_typing.specs.Told.{is_main, takes_something, main_told, function_told, specs_told, types_told, decls_told}
use Rattle.go_typing.specs.Functions.{params_typed, results_typed, results_or_none}
use Rattle.go_typing.specs.Checked.{known_in, between_of, first_too_far, functions_in, count_functions, error_function, runtime_function, main_from, program_of}
use Rattle.go_sound.proofs.KnownWords.{AllItems}
use Rattle.go_sound.proofs.SoundBodies.{no_first, no_second}
use Rattle.go_sound.specs.SoundPrograms.{HasMain, MainIsPlain}
use Rattle.go_sound.proofs.Items.{FunctionFine, function_fine}
use Rattle.go_sound.proofs.Scope.{no_decls_told}
use Rattle.go_sound.proofs.Package.{FunctionAt, ItemAt, no_row, functions_at}

-- a function `main` of which nothing is told takes nothing and gives nothing
plain_types : (n : Name) (o : Option SigTypes) → is_main n ≡ true → main_told n o ≡ [] → (params_typed o ≡ no_tys) × (results_or_none (results_typed o) ≡ no_tys)
plain_types n None e h = (refl, refl)
plain_types n (Some s) e h = by_types s.params s.results (subst (λ (c : Bool). (if c then (if takes_something s then flaw n.place 99 ∷ [] else []) else []) ≡ []) e h)
  where
    by_types : (ps rs : Tys) → (if takes_something (record { params = ps; results = rs }) then flaw n.place 99 ∷ [] else []) ≡ [] → (ps ≡ no_tys) × (rs ≡ no_tys)
    by_types no_tys no_tys g = (refl, refl)
    by_types no_tys (more_tys u us) g = let d : flaw n.place 99 ∷ [] ≡ [] = g in cc
    by_types (more_tys u us) no_tys g = let d : flaw n.place 99 ∷ [] ≡ [] = g in cc
    by_types (more_tys u us) (more_tys v vs) g = let d : flaw n.place 99 ∷ [] ≡ [] = g in cc

second_items : (Q : Item → Type 0) (is js : List Item) → AllItems Q (is ++ js) → AllItems Q js
second_items Q [] js h = h
second_items Q (i ∷ is) js h = second_items Q is js h.1

module _ (p : CoreProgram) (f : Known) where
  main_here : (j id : ℕ) (ds : List t.Decl) → HasMain ds → decls_told (outside f) ds ≡ [] → AllItems (ItemAt p (outside f)) (items_from j id ds) → IsPlainFunc p (main_from id ds)
  main_here j id [] m h a = absurd m
  main_here j id (t.ConstDecl at vs ∷ ds) m h a =
      main_here j id ds m (no_second (specs_told at 0 (outside f) t.NoExpr t.NoExprs vs) _ h) (second_items (ItemAt p (outside f)) (constant_items 0 t.NoExpr t.NoExprs vs) (items_from j id ds) a)
  main_here j id (t.TypeDecl at ts ∷ ds) m h a =
      main_here (types_after j ts) id ds m (no_second (types_told (outside f) ts) _ h) (second_items (ItemAt p (outside f)) (type_items j ts) (items_from (types_after j ts) id ds) a)
  main_here j id (t.VarDecl at vs ∷ ds) m h a = cc
  main_here j id (t.MethodDecl at q rs n s b ∷ ds) m h a = cc
  main_here j id (t.FuncDecl at n s b ∷ ds) m h a =
      by_main (is_main n) refl m (λ g. main_here j (suc id) ds g (no_second (function_told at n s (outside f)) (decls_told (outside f) ds) h) a.1)
    where
      fine : FunctionFine f n s
      fine = function_fine f at n s (no_first (function_told at n s (outside f)) (decls_told (outside f) ds) h)

      here : FunctionAt p (outside f) id s × (IsRowOf p id → ⊥)
      here = subst (λ (c : Bool). ItemAt p (outside f) (if c then init_item n else function_item n id s)) fine.no_init a.0

      plain : is_main n ≡ true → IsPlainFunc p id
      plain e =
          let r = here.0 in
          let q = plain_types n (sig_types (outside f) s) e fine.main_untold in
          record { function = r.function; is_function = r.found; no_params = r.params ∙ q.0; no_results = r.results ∙ q.1; captures_nothing = r.captures; no_method = here.1 }

      by_main : (c : Bool) → is_main n ≡ c → (is_main n ≡ true) ⊎ HasMain ds → (HasMain ds → IsPlainFunc p (main_from (suc id) ds)) → IsPlainFunc p (if c then id else main_from (suc id) ds)
      by_main true e g r = plain e
      by_main false e (inl g) r = let d : true ≡ false = sym g ∙ e in cc
      by_main false e (inr g) r = r g

pub main_is_plain : MainIsPlain
main_is_plain ds h m =
    main_here (program_of ds) (known_in ds) 0 0 ds m (no_decls_told ds h)
    (functions_at (first_too_far ds) (program_of ds) (known_in ds) (count_functions ds) (no_row ds) 0 0 ds (between_of (known_in ds)) []
    (error_function (functions_in (known_in ds) ds).between.next ∷ runtime_function ((functions_in (known_in ds) ds).between.next + 2) ∷ []) refl refl (omega arith) (no_decls_told ds h))

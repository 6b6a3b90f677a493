-- The functions of a package of which nothing is told, one after the other.
use Rattle.std.proofs.Common.{◌≡◌, ℕ, zero, suc, ◌+◌, ◌<◌, List, [], ◌∷◌, ◌++◌, append_assoc, append-nil, sym, subst, ap, ◌∙◌, arith, Option, Some, None, slice_get}
use Rattle.gj_base.specs.declared.place.Place.{Place}
use Rattle.go_syntax.specs.Tree as t
use Rattle.go_type.specs.Named.{NamedTy}
use Rattle.go_core.specs.CoreTree.{CoreFunc, CoreProgram}
use Rattle.go_core.specs.SoundNode.{IsRowOf}
use Rattle.go_core.specs.SoundProgram.{SoundFunc}
use Rattle.go_typing.specs.Signature.{inside, sig_types}
use Rattle.go_typing.specs.Known.{Known, outside}
use Rattle.go_typing.specs.Told.{function_told, specs_told, types_told, decls_told}
use Rattle.go_typing.specs.Functions.{Between, Functions, at_start, around_body, after_body, core_function, function_then, functions_from}
use Rattle.go_typing.specs.Checked.{known_in, between_of, first_too_far, functions_in, count_functions, program_of}
use Rattle.go_sound.specs.GoesOn.{GoesOn}
use Rattle.go_sound.proofs.SoundBodies.{no_first, no_second}
use Rattle.go_sound.proofs.GoesOnBodies.{body_on}
use Rattle.go_sound.specs.Grammar.{DeclsOfGrammar}
use Rattle.go_sound.specs.SoundFunctions.{PackageIsReady}
use Rattle.go_sound.specs.SoundPrograms.{FunctionsOfPackagesAreSound}
use Rattle.go_sound.proofs.Words.{body_at}
use Rattle.go_sound.proofs.Functions.{functions_are_sound}
use Rattle.go_sound.proofs.Items.{FunctionFine, function_fine}
use Rattle.go_sound.proofs.Scope.{no_decls_told, no_bodies_told}
use Rattle.go_sound.proofs.Package.{and_then_functions, no_row, functions_grow, packages_are_ready}

pub some_function : (f g : CoreFunc) → Some f ≡ Some g → f ≡ g
some_function f g e = ap (or_this f) e
  where
    or_this : CoreFunc → Option CoreFunc → CoreFunc
    or_this h None = h
    or_this h (Some i) = i

module _ (far : Option Place) (p : CoreProgram) (f : Known) (pack : PackageIsReady p (outside f)) (total : ℕ) (rows : (j : ℕ) → j < total → IsRowOf p j → ⊥) where
  all_sound : (id : ℕ) (ds : List t.Decl) → DeclsOfGrammar ds → (k : Between) (types further : List NamedTy) → k.names ≡ f.names ++ types → p.names ≡ (functions_from far (outside f) ds k).between.names ++ further
      → decls_told (outside f) ds ≡ [] → (functions_from far (outside f) ds k).flaws ≡ [] → id + count_functions ds ≡ total → (i : ℕ) (g : CoreFunc) → slice_get (functions_from far (outside f) ds k).funcs i ≡ Some g → SoundFunc p (id + i) g
  all_sound id [] o k types further e n h l c i g j = let m : None ≡ Some g = j in cc
  all_sound id (t.ConstDecl at vs ∷ ds) o k types further e n h l c i g j = all_sound id ds o.1 k types further e n (no_second (specs_told at 0 (outside f) t.NoExpr t.NoExprs vs) _ h) l c i g j
  all_sound id (t.TypeDecl at ts ∷ ds) o k types further e n h l c i g j = all_sound id ds o.1 k types further e n (no_second (types_told (outside f) ts) _ h) l c i g j
  all_sound id (t.VarDecl at vs ∷ ds) o k types further e n h l c i g j = cc
  all_sound id (t.MethodDecl at q rs x s b ∷ ds) o k types further e n h l c i g j = cc
  all_sound id (t.FuncDecl at x s b ∷ ds) o k types further e n h l c i g j =
      by_place i (subst (λ (r : Functions). slice_get r.funcs i ≡ Some g) same j)
      (λ m u. all_sound (suc id) ds o.1 (after_body (body_at far (outside f) k at x s b)) (types ++ on.types) further (on.types_added ∙ ap (λ (ns : List NamedTy). ns ++ on.types) e ∙ append_assoc f.names types on.types) names
      (no_second (function_told at x s (outside f)) (decls_told (outside f) ds) h) (no_second (body_at far (outside f) k at x s b).flaws _ bodies) (omega arith) m g u)
    where
      fine : FunctionFine f x s
      fine = function_fine f at x s (no_first (function_told at x s (outside f)) (decls_told (outside f) ds) h)

      same : functions_from far (outside f) (t.FuncDecl at x s b ∷ ds) k ≡ function_then at x (sig_types (outside f) s) (body_at far (outside f) k at x s b) (functions_from far (outside f) ds)
      same = and_then_functions far (outside f) at x s b ds k fine.no_init

      on : GoesOn (inside (at_start (outside f) k)) (body_at far (outside f) k at x s b).walk
      on = body_on (outside f) k s b (around_body far (outside f) at x s)

      names : p.names ≡ (functions_from far (outside f) ds (after_body (body_at far (outside f) k at x s b))).between.names ++ further
      names = n ∙ ap (λ (r : Functions). r.between.names ++ further) same

      bodies : (body_at far (outside f) k at x s b).flaws ++ (functions_from far (outside f) ds (after_body (body_at far (outside f) k at x s b))).flaws ≡ []
      bodies = sym (ap (λ (r : Functions). r.flaws) same) ∙ l

      more : (added : List NamedTy) × ((functions_from far (outside f) ds (after_body (body_at far (outside f) k at x s b))).between.names ≡ (body_at far (outside f) k at x s b).walk.names ++ added)
      more = functions_grow far (outside f) ds (after_body (body_at far (outside f) k at x s b))

      held : p.names ≡ (body_at far (outside f) k at x s b).walk.names ++ (more.0 ++ further)
      held = names ∙ ap (λ (ns : List NamedTy). ns ++ further) more.1 ∙ append_assoc (body_at far (outside f) k at x s b).walk.names more.0 further

      first : SoundFunc p id (core_function at x (sig_types (outside f) s) (body_at far (outside f) k at x s b))
      first =
          functions_are_sound far p (outside f) pack k types (more.0 ++ further) e at x s b (o.0).0 (o.0).1 held fine.sig_untold (no_first (body_at far (outside f) k at x s b).flaws _ bodies) id (rows id (omega arith))

      by_place : (m : ℕ) → slice_get (core_function at x (sig_types (outside f) s) (body_at far (outside f) k at x s b) ∷ (functions_from far (outside f) ds (after_body (body_at far (outside f) k at x s b))).funcs) m ≡ Some g
          → ((q : ℕ) → slice_get (functions_from far (outside f) ds (after_body (body_at far (outside f) k at x s b))).funcs q ≡ Some g → SoundFunc p (suc id + q) g) → SoundFunc p (id + m) g
      by_place zero u r = let q : id ≡ id + 0 = omega arith in subst (λ (d : ℕ). SoundFunc p d g) q (subst (SoundFunc p id) (some_function (core_function at x (sig_types (outside f) s) (body_at far (outside f) k at x s b)) g u) first)
      by_place (suc m) u r = let q : suc id + m ≡ id + suc m = omega arith in subst (λ (d : ℕ). SoundFunc p d g) q (r m u)

pub package_functions : FunctionsOfPackagesAreSound
package_functions ds o h i g e =
    let q : 0 + i ≡ i = omega arith in
    subst (λ (d : ℕ). SoundFunc (program_of ds) d g) q
    (all_sound (first_too_far ds) (program_of ds) (known_in ds) (packages_are_ready ds o h) (count_functions ds) (no_row ds) 0 ds o (between_of (known_in ds)) [] [] (sym (append-nil (known_in ds).names)) (sym (append-nil (functions_in (known_in ds) ds).between.names))
    (no_decls_told ds h) (no_bodies_told ds h) (omega arith) i g e)

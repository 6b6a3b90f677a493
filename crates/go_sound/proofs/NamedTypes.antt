-- The named types of a program: what each stands for is scalar, but for the predeclared `error`.
use Rattle.std.proofs.Common.{◌≡◌, ◌⊎◌, inl, inr, ℕ, zero, suc, ◌<◌, length, List, [], ◌∷◌, ◌++◌, append_assoc, append-nil, refl, sym, subst, ap, ◌∙◌, arith, IsTrue, Option, Some, option_map, slice_get, slice_index_or, Contains}
use Rattle.std.proofs.lemmas.List.Elements.{Contains-append_cases}
use Rattle.gj_base.specs.declared.place.Place.{Place}
use Rattle.go_syntax.specs.Tree as t
use Rattle.go_syntax.specs.declared.tree.Name.{Name}
use Rattle.go_type.specs.Tree as ty
use Rattle.go_type.specs.Tree.{Ty, Tys}
use Rattle.go_type.specs.Named.{NamedTy}
use Rattle.go_type.specs.Underlying.{underlying, under_at, under_in, or_else}
use Rattle.go_type.specs.Predeclared.{error_interface}
use Rattle.go_core.specs.Layout.{holds_with, holds_under, name_holds, holds_by_value}
use Rattle.go_core.specs.CoreTree.{CoreProgram}
use Rattle.go_core.specs.SoundNode as node
use Rattle.go_core.specs.SoundNode.{every, IsWhole, IsGoodType}
use Rattle.go_core.specs.SoundProgram.{AreSet}
use Rattle.go_typing.specs.Env.{Bind}
use Rattle.go_typing.specs.Convert.{is_scalar}
use Rattle.go_typing.specs.Walk.{Walk}
use Rattle.go_typing.specs.Signature.{sig_flaws, sig_types, inside}
use Rattle.go_typing.specs.Items.{Item, constant_item, type_item, alias_item, function_item, variable_item, init_item, items_of}
use Rattle.go_typing.specs.Known.{Known, first_names, outside, type_found, named_by, unset, after_rounds}
use Rattle.go_typing.specs.Told.{function_told, specs_told, types_told, decls_told}
use Rattle.go_typing.specs.Functions.{Between, Functions, at_start, around_body, after_body, function_then, functions_from}
use Rattle.go_typing.specs.Checked.{known_in, between_of, first_too_far, functions_in, told, program_of}
use Rattle.go_sound.specs.Lost.{NothingUnknown}
use Rattle.go_sound.specs.GoesOn.{GoesOn}
use Rattle.go_sound.proofs.KnownWords.{AllItems, all_items}
use Rattle.go_sound.proofs.RoundsEnd.{is_fixed}
use Rattle.go_sound.proofs.SoundWords.{scalar_good}
use Rattle.go_sound.proofs.SoundBodies.{no_first, no_second}
use Rattle.go_sound.proofs.GoesOnBodies.{body_on}
use Rattle.go_sound.specs.Grammar.{SigOfGrammar, BlockOfGrammar, DeclsOfGrammar}
use Rattle.go_sound.specs.SoundFunctions.{PackageIsReady}
use Rattle.go_sound.proofs.Words.{body_at}
use Rattle.go_sound.proofs.Ready.{StandsForScalar}
use Rattle.go_sound.proofs.Functions.{function_adds}
use Rattle.go_sound.proofs.Needed.{NoneUnknown}
use Rattle.go_sound.proofs.Items.{ItemFine, universe_of, items_fine, outside_type, FunctionFine, function_fine}
use Rattle.go_sound.proofs.Scope.{no_decls_told, no_bodies_told, names_typed}
use Rattle.go_sound.proofs.Meaning.{found_scalar}
use Rattle.go_sound.proofs.Package.{and_then_functions, functions_grow, package_scopes, packages_are_ready}

-- a type whose name is an interface's or a scalar type's
abbrev pub IsPlainName : NamedTy → Type 0
IsPlainName x = (x.under ≡ Some error_interface) ⊎ StandsForScalar x

-- ---- those before the package's

first_plain : (x : NamedTy) (i : ℕ) → i < 2 → slice_index_or first_names i x ≡ x → IsPlainName x
first_plain x zero l e = inl (ap (λ (y : NamedTy). y.under) (sym e))
first_plain x (suc zero) l e = inr (ty.str, ap (λ (y : NamedTy). y.under) (sym e), refl)
first_plain x (suc (suc i)) l e = absurd (omega arith)

-- ---- those of the package

none_unknown_here : (ss : List (List Bind)) → NothingUnknown ss → (xs : List (List ℕ)) → NoneUnknown ss xs
none_unknown_here ss h [] = tt
none_unknown_here ss h (x ∷ xs) = (h x, none_unknown_here ss h xs)

module _ (k : Known) where
  abbrev TypeStands : Item → Type 0
  TypeStands (type_item n number e) = (u : Ty) × (type_found k e ≡ Some u) × IsTrue (is_scalar (underlying k.names u))
  TypeStands i = Unit {0}

  named_plain : (is : List Item) → AllItems TypeStands is → (x : NamedTy) (i : ℕ) → i < length (named_by k is) → slice_index_or (named_by k is) i x ≡ x → StandsForScalar x
  named_plain [] h x i l e = absurd (omega arith)
  named_plain (type_item n number f ∷ is) h x zero l e =
      let s = h.0 in (underlying k.names s.0, ap (λ (y : NamedTy). y.under) (sym e) ∙ ap (option_map (underlying k.names)) s.1, s.2)
  named_plain (type_item n number f ∷ is) h x (suc i) l e = named_plain is h.1 x i (omega arith) e
  named_plain (constant_item n j u y all ∷ is) h x i l e = named_plain is h.1 x i l e
  named_plain (alias_item n f ∷ is) h x i l e = named_plain is h.1 x i l e
  named_plain (function_item n id s ∷ is) h x i l e = named_plain is h.1 x i l e
  named_plain (variable_item n ∷ is) h x i l e = named_plain is h.1 x i l e
  named_plain (init_item n ∷ is) h x i l e = named_plain is h.1 x i l e

-- of no name yet
abbrev nothing_here : node.Around
nothing_here = record { vars = []; declarable = []; results = ty.no_tys; breaks = []; continues = [] }

module _ (ds : List t.Decl) (o : DeclsOfGrammar ds) (untold : told ds ≡ []) where
  type_stands : (i : Item) → ItemFine (known_in ds) i → TypeStands (known_in ds) i
  type_stands (type_item n number e) f =
      let u = outside_type (known_in ds) e (none_unknown_here (universe_of (known_in ds)) (names_typed ds o untold) _) f.1 in
      (u.0, u.1, found_scalar (program_of ds) (known_in ds) (package_scopes ds o untold) nothing_here e u.0 f.0 u.1)
  type_stands (constant_item n j u y all) f = tt
  type_stands (alias_item n e) f = tt
  type_stands (function_item n id s) f = tt
  type_stands (variable_item n) f = tt
  type_stands (init_item n) f = tt

  all_stand : AllItems (TypeStands (known_in ds)) (items_of ds)
  all_stand = all_items (ItemFine (known_in ds)) (TypeStands (known_in ds)) type_stands (items_of ds) (items_fine (known_in ds) 0 0 ds o (no_decls_told ds untold))

  known_names : (known_in ds).names ≡ first_names ++ named_by (known_in ds) (items_of ds)
  known_names = sym (ap (λ (k : Known). k.names) (is_fixed ds))

  known_plain : (x : NamedTy) → Contains (known_in ds).names x → IsPlainName x
  known_plain x c = by_case (Contains-append_cases first_names (named_by (known_in ds) (items_of ds)) x (subst (λ (ns : List NamedTy). Contains ns x) known_names c))
    where
      by_case : Contains first_names x ⊎ Contains (named_by (known_in ds) (items_of ds)) x → IsPlainName x
      by_case (inl d) = first_plain x d.0 d.1 d.2
      by_case (inr d) = inr (named_plain (known_in ds) (items_of ds) all_stand x d.0 d.1 d.2)

-- ---- those of bodies

block_adds : (far : Option Place) (p : CoreProgram) (w : Walk) (pack : PackageIsReady p w) (k : Between) (types further : List NamedTy) (grown : k.names ≡ w.names ++ types) (at : Place) (n : Name) (s : t.Sig) (b : t.Block) → SigOfGrammar s → BlockOfGrammar b
    → p.names ≡ (body_at far w k at n s b).walk.names ++ further → sig_flaws w s ≡ [] → (body_at far w k at n s b).flaws ≡ [] → (x : NamedTy) → Contains (body_at far w k at n s b).walk.names x → Contains k.names x ⊎ StandsForScalar x
block_adds far p w pack k types further grown at n s (t.BlockOf at1 ss end) o ob names h g x c = let a = function_adds far p w pack k types further grown at n s at1 ss end o ob names h g in a.stands x c

module _ (far : Option Place) (p : CoreProgram) (f : Known) (pack : PackageIsReady p (outside f)) where
  bodies_plain : (ds : List t.Decl) → DeclsOfGrammar ds → (k : Between) (types further : List NamedTy) → k.names ≡ f.names ++ types → p.names ≡ (functions_from far (outside f) ds k).between.names ++ further
      → decls_told (outside f) ds ≡ [] → (functions_from far (outside f) ds k).flaws ≡ [] → (x : NamedTy) → Contains (functions_from far (outside f) ds k).between.names x → Contains k.names x ⊎ StandsForScalar x
  bodies_plain [] o k types further e n h l x c = inl c
  bodies_plain (t.ConstDecl at vs ∷ ds) o k types further e n h l x c = bodies_plain ds o.1 k types further e n (no_second (specs_told at 0 (outside f) t.NoExpr t.NoExprs vs) _ h) l x c
  bodies_plain (t.TypeDecl at ts ∷ ds) o k types further e n h l x c = bodies_plain ds o.1 k types further e n (no_second (types_told (outside f) ts) _ h) l x c
  bodies_plain (t.VarDecl at vs ∷ ds) o k types further e n h l x c = cc
  bodies_plain (t.MethodDecl at q rs y s b ∷ ds) o k types further e n h l x c = cc
  bodies_plain (t.FuncDecl at y s b ∷ ds) o k types further e n h l x c =
      by_case
      (bodies_plain ds o.1 (after_body (body_at far (outside f) k at y s b)) (types ++ on.types) further (on.types_added ∙ ap (λ (ns : List NamedTy). ns ++ on.types) e ∙ append_assoc f.names types on.types) names
      (no_second (function_told at y s (outside f)) (decls_told (outside f) ds) h) (no_second (body_at far (outside f) k at y s b).flaws _ bodies) x (subst (λ (r : Functions). Contains r.between.names x) same c))
    where
      fine : FunctionFine f y s
      fine = function_fine f at y s (no_first (function_told at y s (outside f)) (decls_told (outside f) ds) h)

      same : functions_from far (outside f) (t.FuncDecl at y s b ∷ ds) k ≡ function_then at y (sig_types (outside f) s) (body_at far (outside f) k at y s b) (functions_from far (outside f) ds)
      same = and_then_functions far (outside f) at y s b ds k fine.no_init

      on : GoesOn (inside (at_start (outside f) k)) (body_at far (outside f) k at y s b).walk
      on = body_on (outside f) k s b (around_body far (outside f) at y s)

      names : p.names ≡ (functions_from far (outside f) ds (after_body (body_at far (outside f) k at y s b))).between.names ++ further
      names = n ∙ ap (λ (r : Functions). r.between.names ++ further) same

      bodies : (body_at far (outside f) k at y s b).flaws ++ (functions_from far (outside f) ds (after_body (body_at far (outside f) k at y s b))).flaws ≡ []
      bodies = sym (ap (λ (r : Functions). r.flaws) same) ∙ l

      more : (added : List NamedTy) × ((functions_from far (outside f) ds (after_body (body_at far (outside f) k at y s b))).between.names ≡ (body_at far (outside f) k at y s b).walk.names ++ added)
      more = functions_grow far (outside f) ds (after_body (body_at far (outside f) k at y s b))

      held : p.names ≡ (body_at far (outside f) k at y s b).walk.names ++ (more.0 ++ further)
      held = names ∙ ap (λ (ns : List NamedTy). ns ++ further) more.1 ∙ append_assoc (body_at far (outside f) k at y s b).walk.names more.0 further

      by_case : Contains (body_at far (outside f) k at y s b).walk.names x ⊎ StandsForScalar x → Contains k.names x ⊎ StandsForScalar x
      by_case (inl d) = block_adds far p (outside f) pack k types (more.0 ++ further) e at y s b (o.0).0 (o.0).1 held fine.sig_untold (no_first (body_at far (outside f) k at y s b).flaws _ bodies) x d
      by_case (inr d) = inr d

-- ---- the whole

pub names_plain : (ds : List t.Decl) → DeclsOfGrammar ds → told ds ≡ [] → (x : NamedTy) → Contains (program_of ds).names x → IsPlainName x
names_plain ds o h x c =
    by_case
    (bodies_plain (first_too_far ds) (program_of ds) (known_in ds) (packages_are_ready ds o h) ds o (between_of (known_in ds)) [] [] (sym (append-nil (known_in ds).names)) (sym (append-nil (functions_in (known_in ds) ds).between.names)) (no_decls_told ds h) (no_bodies_told ds h)
    x c)
  where
    by_case : Contains (known_in ds).names x ⊎ StandsForScalar x → IsPlainName x
    by_case (inl d) = known_plain ds o h x d
    by_case (inr d) = inr d

at_index : (ns : List NamedTy) (id : ℕ) → id < length ns → (x : NamedTy) × (slice_get ns id ≡ Some x) × Contains ns x
at_index [] id l = absurd (omega arith)
at_index (y ∷ ns) zero l = (y, refl, (0, omega arith, refl))
at_index (y ∷ ns) (suc id) l = let r = at_index ns id (omega arith) in let c = r.2 in let m = c.1 in (r.0, r.1, (suc c.0, omega arith, c.2))

-- what stands for an interface holds nothing by value
interface_held : (ns : List NamedTy) (n id : ℕ) → 0 < n → under_at ns id ≡ Some error_interface → IsTrue (name_holds every ns n id)
interface_held ns zero id l e = absurd (omega arith)
interface_held ns (suc n) id l e = ap (holds_under (holds_with every (name_holds every ns n))) e

pub names_are_set : (ds : List t.Decl) → DeclsOfGrammar ds → told ds ≡ [] → AreSet (program_of ds)
names_are_set ds o h id l = by_name (names_plain ds o h a.0 a.2)
  where
    a : (x : NamedTy) × (slice_get (program_of ds).names id ≡ Some x) × Contains (program_of ds).names x
    a = at_index (program_of ds).names id l

    under : under_at (program_of ds).names id ≡ (a.0).under
    under = ap under_in a.1

    by_name : IsPlainName a.0 → IsTrue (holds_by_value every (program_of ds).names (ty.named id))
    by_name (inl e) = interface_held (program_of ds).names (length (program_of ds).names) id (omega arith) (under ∙ e)
    by_name (inr s) =
        let g = scalar_good (program_of ds) (ty.named id) (subst (λ (r : Option Ty). IsTrue (is_scalar (or_else r (ty.named id)))) (sym (under ∙ s.1)) s.2) in
        let w = g.is_whole in
        w.is_finite

-- ---- the first ones

first_kept : (n : ℕ) (is : List Item) → (more : List NamedTy) × ((after_rounds n is).names ≡ first_names ++ more)
first_kept zero is = (unset is, refl)
first_kept (suc n) is = (named_by (after_rounds n is) is, refl)

pub names_begin : (ds : List t.Decl) → (more : List NamedTy) × ((program_of ds).names ≡ first_names ++ more)
names_begin ds =
    let r = first_kept (length (items_of ds)) (items_of ds) in
    let g = functions_grow (first_too_far ds) (outside (known_in ds)) ds (between_of (known_in ds)) in
    (r.0 ++ g.0, g.1 ∙ ap (λ (ns : List NamedTy). ns ++ g.0) r.1 ∙ append_assoc first_names r.0 g.0)

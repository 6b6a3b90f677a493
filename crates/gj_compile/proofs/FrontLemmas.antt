-- What the stages of a compile say of the folder.
use Rattle.std.proofs.Common.{◌≡◌, ◌⊎◌, ◌<◌, List, [], ◌∷◌, ℕ, Bool, true, false, length, refl, sym, ap, subst, ◌∙◌, append-nil, inl, inr}
use Rattle.std.specs.Prelude.{Option, Some, None, IfSome, Result, Ok, Err, is_some, option_map}
use Rattle.gj_base.specs.Tree.{Tree}
use Rattle.gj_base.specs.Files.{FilesState}
use Rattle.gj_base.specs.declared.fault.Fault.{Fault}
use Rattle.go_load.specs.Root.{IsRead}
use Rattle.go_load.specs.Packages.{paths_view}
use Rattle.go_load.specs.Load.{Loads, ArePackages, FailsToRead}
use Rattle.go_load.specs.declared.sources.FileEntry.{FileEntry}
use Rattle.go_load.specs.declared.packages.Packages.{Packages}
use Rattle.go_load.specs.declared.packages.LoadRefusal.{LoadRefusal}
use Rattle.go_load.specs.declared.packages.LoadRefusal.TheVariants as load
use Rattle.go_core.specs.CoreTree.{CoreProgram}
use Rattle.go_syntax.specs.Tree as t
use Rattle.go_typing.specs.Checked.{told}
use Rattle.go_core.specs.CoreView.{program_view}
use Rattle.go_core.specs.SoundProgram.{Sound}
use Rattle.go_core.specs.declared.program.Program.{Program}
use Rattle.go_type.specs.Table.{places}
use Rattle.gj_plain.specs.MainView.{main_view}
use Rattle.gj_plain.specs.declared.plain.Main as code
use Rattle.go_items.specs.ItemView.{decls_of}
use Rattle.go_lines.specs.Lines.{PlainOnlyPrints}
use Rattle.js_tree.specs.Script.{ScriptTree}
use Rattle.js_tree.specs.View.{script_view}
use Rattle.js_tree.specs.declared.tree.Script.{Script}
use Rattle.js_prints.specs.Faithful.{Faithful}
use Rattle.js_prints.specs.Prints.{only_prints}
use Rattle.gj_plain.specs.Plain as p
use Rattle.gj_plain.specs.Plain.{plain_main, main_in}
use Rattle.go_stmt.specs.Checks.{root_trees, IsProgramOf}
use Rattle.gj_compile.specs.Answers.{HaveTrees, HoldsProgram, IsToldFault, unbuilt_fault, IsBeyond, IsChecked, Fronts, Compiles}
use Rattle.go_import.specs.Left.{Leaves}
use Rattle.gj_compile.specs.Fronts.{decls_in, main_of, IsHeld, IsLeastOf, IsUnbuilt, AreBeyond, FrontsPackages, GoesOn, Imports, IsUnloaded, FrontsUnloaded, Scripts}
use Rattle.gj_compile.specs.declared.front.Checked.{Checked}
use Rattle.gj_compile.specs.declared.refused.Refused.{Refused}
use Rattle.gj_compile.specs.declared.refused.Refused.TheVariants as refused

-- the trees that packages without a fault have
have_trees : (packages : Packages) → 0 < length packages.files → ArePackages packages → HaveTrees packages.files (root_trees (paths_view packages.packages))
have_trees packages some are = record {
  some = some;
  small = are.small;
  readings = are.readings;
  are = are.are;
  none = are.none;
  all = ap root_trees are.root;
}

-- the declarations of a plain package are those of its one file
the_main : (trees : List t.File) (main : p.Main) → plain_main trees ≡ Some main → main_in (decls_of trees) ≡ Some main
the_main [] main h = absurd (cc)
the_main (file ∷ []) main h = ap main_in (append-nil file.decls) ∙ h
the_main (file ∷ other ∷ others) main h = absurd (cc)

-- the program of a plain package only prints
prints_alone : PlainOnlyPrints → (packages : Packages) (q : Program) → IsProgramOf (decls_in packages) q → is_some (main_of packages) ≡ true → only_prints (program_view q) ≡ true
prints_alone law packages q of is_plain = by (main_of packages) refl is_plain
  where
    by : (o : Option p.Main) → main_of packages ≡ o → is_some o ≡ true → only_prints (program_view q) ≡ true
    by None found some = absurd (cc)
    by (Some main) found some = ap only_prints of ∙ law (decls_in packages) main (the_main (root_trees (paths_view packages.packages)) main found)

-- a package has a plain root where its view has one
pub some_viewed : (o : Option code.Main) → is_some o ≡ is_some (option_map main_view o)
some_viewed None = refl
some_viewed (Some main) = refl

-- a package whose root is plain holds its program
held : (packages : Packages) (q : Program) → told (decls_in packages) ≡ [] → IsProgramOf (decls_in packages) q → is_some (main_of packages) ≡ true → IsHeld packages (program_view q)
held packages q right of some = by (main_of packages) refl some
  where
    by : (o : Option p.Main) → main_of packages ≡ o → is_some o ≡ true → IsHeld packages (program_view q)
    by None found none = absurd (cc)
    by (Some main) found some = record { right = right; main = main; is_plain = found; types = places q.types; is = of }

none_plain : (packages : Packages) → is_some (main_of packages) ≡ false → main_of packages ≡ None
none_plain packages unlike = by (main_of packages) unlike
  where
    by : (o : Option p.Main) → is_some o ≡ false → o ≡ None
    by None none = refl
    by (Some main) none = absurd (cc)

-- what comes of packages of which nothing is told: a plain root
pub checked : PlainOnlyPrints → (packages : Packages) (c : Checked) → told (decls_in packages) ≡ [] → IsProgramOf (decls_in packages) c.program → c.is_plain ≡ true → true ≡ is_some (main_of packages) → FrontsPackages (Ok c) packages
checked law packages c right of is_plain asked = inl (is_plain, prints_alone law packages c.program of (sym asked), held packages c.program right of (sym asked))

-- F0 is told of packages whose root isn't plain
pub unplain : (packages : Packages) → told (decls_in packages) ≡ [] → false ≡ is_some (main_of packages) → AreBeyond packages
unplain packages right asked = record { fault = unbuilt_fault; why = inr (right, none_plain packages (sym asked), refl); unbuilt = refl }

-- what comes of packages that the proved checker leaves
pub went_on : (r : Result Checked Refused) (packages : Packages) → AreBeyond packages → GoesOn r → FrontsPackages r packages
went_on (Ok c) packages beyond goes = inr (goes.0, goes.1, beyond)
went_on (Err (refused.Fault fault entries)) packages beyond goes = absurd goes
went_on (Err (refused.Beyond fault entries)) packages beyond goes = beyond
went_on (Err refused.ReadFault) packages beyond goes = absurd goes
went_on (Err refused.NoMemory) packages beyond goes = tt
went_on (Err refused.Internal) packages beyond goes = beyond

-- what comes of packages that were read with their imports
pub imported : (r : Result Checked Refused) (old new : FilesState) → new ≡ old → GoesOn r → Imports r old new
imported (Ok c) old new same goes = (goes.0, goes.1, same)
imported (Err (refused.Fault fault entries)) old new same goes = absurd goes
imported (Err (refused.Beyond fault entries)) old new same goes = same
imported (Err refused.ReadFault) old new same goes = absurd goes
imported (Err refused.NoMemory) old new same goes = same
imported (Err refused.Internal) old new same goes = same

-- and of a folder that has none
pub not_imported : (refusal : LoadRefusal) (why : Refused) (old new : FilesState) → IsUnloaded refusal why → Leaves {A = Packages} (Err refusal) old new → Imports (Err why) old new
not_imported (load.Fault fault entries) why old new is left = subst (λ (r : Refused). Imports (Err r) old new) (sym is) left
not_imported load.ReadFault why old new is left = subst (λ (r : Refused). Imports (Err r) old new) (sym is) left
not_imported load.NoMemory why old new is left = subst (λ (r : Refused). Imports (Err r) old new) (sym is) left

-- the folder holds the program of its package
holds : (o : Option Tree) (folder : List ℕ) (packages : Packages) (program : CoreProgram) → 0 < length packages.files → IsRead o folder packages.files → ArePackages packages → IsHeld packages program
    → IfSome o (λ tree. HoldsProgram tree folder program)
holds None folder packages program some read are held = tt
holds (Some tree) folder packages program some read are held = record {
  entries = packages.files;
  read = read;
  trees = root_trees (paths_view packages.packages);
  have = have_trees packages some are;
  right = held.right;
  main = held.main;
  plain = held.is_plain;
  types = held.types;
  is = held.is;
}

-- the fault that packages are refused with is told of their files
told_of : (packages : Packages) (entries : List FileEntry) (fault : Fault) → HaveTrees entries (root_trees (paths_view packages.packages)) → IsLeastOf (decls_in packages) fault ⊎ IsUnbuilt packages fault → IsToldFault entries fault
told_of packages entries fault have (inl least) =
    inr (inl (record { trees = root_trees (paths_view packages.packages); have = have; flaw = least.0; least = least.1; is = least.2 }))
told_of packages entries fault have (inr unbuilt) =
    inr (inr (record { trees = root_trees (paths_view packages.packages); have = have; right = unbuilt.0; unlike = unbuilt.1; is = unbuilt.2 }))

-- what comes of the packages of a folder
pub fronts : (r : Result Checked Refused) (folder : List ℕ) (packages : Packages) (old new : FilesState) → new ≡ old → 0 < length packages.files → IsRead old.tree folder packages.files → ArePackages packages → FrontsPackages r packages
    → Fronts r folder old new
fronts r folder packages old new same some read are comes = by r comes
  where
    have : HaveTrees packages.files (root_trees (paths_view packages.packages))
    have = have_trees packages some are

    beyond : AreBeyond packages → IsBeyond folder old
    beyond b = record { entries = packages.files; some = some; read = read; fault = b.fault; told = told_of packages packages.files b.fault have b.why; why = inl b.unbuilt }

    by : (r : Result Checked Refused) → FrontsPackages r packages → Fronts r folder old new
    by (Ok c) (inl plain) = (same, inl (plain.0, plain.1, holds old.tree folder packages (program_view c.program) some read are plain.2))
    by (Ok c) (inr other) = (same, inr (other.0, other.1, beyond other.2))
    by (Err (refused.Fault fault entries)) (files, least, code) = (
      same,
      subst (λ (es : List FileEntry). 0 < length es) (sym files) some,
      subst (λ (es : List FileEntry). IsRead old.tree folder es) (sym files) read,
      told_of packages entries fault (subst (λ (es : List FileEntry). HaveTrees es (root_trees (paths_view packages.packages))) (sym files) have) (inl least),
      code,
    )
    by (Err (refused.Beyond fault entries)) b = (same, beyond b)
    by (Err refused.ReadFault) none = absurd none
    by (Err refused.NoMemory) u = same
    by (Err refused.Internal) b = (same, beyond b)

-- what comes of a folder without packages
pub unloaded : (refusal : LoadRefusal) (r : Result Checked Refused) (folder : List ℕ) (old mid new : FilesState) → Loads (Err refusal) folder old mid → FrontsUnloaded r refusal mid new → Fronts r folder old new
unloaded (load.Fault fault entries) r folder old mid new loads comes = elim comes [
  | inl told ↦ subst (λ (x : Result Checked Refused). Fronts x folder old new) (sym told.1) (told.2 ∙ loads.0, loads.1, loads.2, inl loads.3, told.0)
  | inr more ↦ later r (record { entries = entries; some = loads.1; read = loads.2; fault = fault; told = inl loads.3; why = more.0 }) (subst (λ (s : FilesState). Imports r s new) loads.0 more.1)
]
  where
    later : (r : Result Checked Refused) → IsBeyond folder old → Imports r old new → Fronts r folder old new
    later (Ok c) beyond comes = (comes.2, inr (comes.0, comes.1, beyond))
    later (Err (refused.Fault f es)) beyond none = absurd none
    later (Err (refused.Beyond f es)) beyond same = (same, beyond)
    later (Err refused.ReadFault) beyond fails = inr (fails, beyond)
    later (Err refused.NoMemory) beyond same = same
    later (Err refused.Internal) beyond same = (same, beyond)
unloaded load.ReadFault r folder old mid new loads (is, same) =
    subst (λ (x : Result Checked Refused). Fronts x folder old new) (sym is) (inl (subst (λ (s : FilesState). FailsToRead folder old s) (sym same) loads))
unloaded load.NoMemory r folder old mid new loads (is, same) = subst (λ (x : Result Checked Refused). Fronts x folder old new) (sym is) (same ∙ loads)

-- what comes of a program that was checked
pub compiles : (r : Result Script Refused) (c : Checked) (folder : List ℕ) (old new : FilesState) → new ≡ old → IsChecked c folder old → Scripts r c → Compiles r folder old new
compiles r c folder old new same checked scripts = by r scripts checked
  where
    right : (o : Option Tree) (s : ScriptTree) → IfSome o (λ tree. HoldsProgram tree folder (program_view c.program)) → Faithful s (program_view c.program) []
        → IfSome o (λ tree. (program : CoreProgram) × HoldsProgram tree folder program × Faithful s program [])
    right None s held faithful = tt
    right (Some tree) s held faithful = (program_view c.program, held, faithful)

    beyond : IsChecked c folder old → c.is_plain ≡ false → IsBeyond folder old
    beyond (inl plain) unlike = let bad : true ≡ false = sym plain.0 ∙ unlike in absurd (cc)
    beyond (inr other) unlike = other.2

    by : (r : Result Script Refused) → Scripts r c → IsChecked c folder old → Compiles r folder old new
    by (Ok script) scripts (inl plain) = (same, scripts.0, inl (right old.tree (script_view script) plain.2 (scripts.1 plain.0)))
    by (Ok script) scripts (inr other) = (same, scripts.0, inr other.2)
    by (Err (refused.Fault f es)) none checked = absurd none
    by (Err (refused.Beyond f es)) unlike checked = (same, beyond checked unlike)
    by (Err refused.ReadFault) none checked = absurd none
    by (Err refused.NoMemory) u checked = same
    by (Err refused.Internal) unlike checked = (same, beyond checked unlike)

-- the program of a plain package, where it is one, only prints
pub prints_of : (c : Checked) (folder : List ℕ) (old : FilesState) → IsChecked c folder old → c.is_plain ≡ true → only_prints (program_view c.program) ≡ true
prints_of c folder old (inl plain) is = plain.1
prints_of c folder old (inr other) is = let bad : true ≡ false = sym is ∙ other.0 in absurd (cc)

-- any other program is Sound
pub sound_of : (c : Checked) (folder : List ℕ) (old : FilesState) → IsChecked c folder old → c.is_plain ≡ false → Sound (program_view c.program)
sound_of c folder old (inl plain) unlike = let bad : true ≡ false = sym plain.0 ∙ unlike in absurd (cc)
sound_of c folder old (inr other) unlike = other.1

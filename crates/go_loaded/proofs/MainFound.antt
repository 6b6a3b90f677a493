-- A load without faults has a function `main`.
use Rattle.std.proofs.Common.{◌≡◌, ◌++◌, ℕ, ◌+◌, Bool, true, false, not, ◌||◌, List, [], ◌∷◌, refl, inl, inr}
use Rattle.std.specs.List.{list_any}
use Rattle.gj_base.specs.declared.fault.Fault.{Fault}
use Rattle.go_syntax.specs.Tree as t
use Rattle.go_load.specs.Readings.{Reading, Long, Unlexed, Unparsed, Parsed, trees_of}
use Rattle.go_load.specs.Faults.{lexical_faults, syntax_faults, fault_where, first_package, faults_of, faults_from, is_main, may_have_main, main_faults, load_faults, first_of, stage_faults}
use Rattle.go_items.specs.ItemView.{decls_of}
use Rattle.go_sound.specs.SoundPrograms.{HasMain}

-- ---- no faults

neither : (fs gs : List Fault) → first_of fs gs ≡ [] → gs ≡ []
neither [] gs h = h
neither (f ∷ fs) gs h = cc

first_empty : (fs gs : List Fault) → fs ++ gs ≡ [] → fs ≡ []
first_empty [] gs h = refl
first_empty (f ∷ fs) gs h = cc

rest_empty : (fs gs : List Fault) → fs ++ gs ≡ [] → gs ≡ []
rest_empty [] gs h = h
rest_empty (f ∷ fs) gs h = cc

holds : (b : Bool) (number offset code : ℕ) → fault_where (not b) number offset code ≡ [] → b ≡ true
holds true number offset code h = refl
holds false number offset code h = cc

-- ---- where `main` is

main_before : (ds es : List t.Decl) → list_any is_main ds ≡ true → HasMain (ds ++ es)
main_before [] es h = cc
main_before (t.FuncDecl at n s b ∷ ds) es h = by_name (is_main (t.FuncDecl at n s b)) refl h (λ other. main_before ds es other)
  where
    by_name : (c : Bool) → is_main (t.FuncDecl at n s b) ≡ c → (c || list_any is_main ds) ≡ true → (list_any is_main ds ≡ true → HasMain (ds ++ es)) → HasMain (t.FuncDecl at n s b ∷ ds ++ es)
    by_name true e p later = inl e
    by_name false e p later = inr (later p)
main_before (t.MethodDecl at q rs n s b ∷ ds) es h = main_before ds es h
main_before (t.ConstDecl at vs ∷ ds) es h = main_before ds es h
main_before (t.TypeDecl at ts ∷ ds) es h = main_before ds es h
main_before (t.VarDecl at vs ∷ ds) es h = main_before ds es h

main_after : (ds es : List t.Decl) → HasMain es → HasMain (ds ++ es)
main_after [] es h = h
main_after (t.FuncDecl at n s b ∷ ds) es h = inr (main_after ds es h)
main_after (t.MethodDecl at q rs n s b ∷ ds) es h = main_after ds es h
main_after (t.ConstDecl at vs ∷ ds) es h = main_after ds es h
main_after (t.TypeDecl at ts ∷ ds) es h = main_after ds es h
main_after (t.VarDecl at vs ∷ ds) es h = main_after ds es h

-- in the first file that may have it, as none is past the limit
main_in : (first : List ℕ) (number : ℕ) (rs : List Reading) → list_any may_have_main rs ≡ true → faults_from first number rs ≡ [] → HasMain (decls_of (trees_of rs))
main_in first number [] h g = cc
main_in first number (Long ∷ rs) h g = cc
main_in first number (Unlexed fault ∷ rs) h g = main_in first (number + 1) rs h g
main_in first number (Unparsed fault ∷ rs) h g = main_in first (number + 1) rs h g
main_in first number (Parsed start constraint tree ∷ rs) h g =
    by_file (list_any is_main tree.decls) refl h
    (λ other. main_in first (number + 1) rs other (rest_empty (faults_of first number (Parsed start constraint tree)) (faults_from first (number + 1) rs) g))
  where
    by_file : (c : Bool) → list_any is_main tree.decls ≡ c → (c || list_any may_have_main rs) ≡ true → (list_any may_have_main rs ≡ true → HasMain (decls_of (trees_of rs))) → HasMain (tree.decls ++ decls_of (trees_of rs))
    by_file true e p later = main_before tree.decls (decls_of (trees_of rs)) e
    by_file false e p later = main_after tree.decls (decls_of (trees_of rs)) (later p)

pub main_found : (rs : List Reading) → stage_faults rs ≡ [] → HasMain (decls_of (trees_of rs))
main_found rs h = main_in (first_package rs) 0 rs (holds (list_any may_have_main rs) 0 0 43 (first_empty (main_faults rs) others none)) (rest_empty (main_faults rs) others none)
  where
    others : List Fault
    others = faults_from (first_package rs) 0 rs

    none : load_faults rs ≡ []
    none = neither (syntax_faults rs) (load_faults rs) (neither (lexical_faults rs) (first_of (syntax_faults rs) (load_faults rs)) h)

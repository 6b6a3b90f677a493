-- Faults of files, one by one.
use Rattle.std.proofs.Common.{◌≡◌, ◌<◌, ◌≤◌, ◌+◌, ◌++◌, ℕ, zero, suc, List, [], ◌∷◌, Bool, true, false, ◌||◌, length, drop, get_or, refl, sym, ap, subst, ◌∙◌, arith}
use Rattle.std.specs.Prelude.{Option, Some, None, map, option_map, unwrap_or}
use Rattle.std.specs.List.{list_any, filter_map, cons_option}
use Rattle.gj_base.specs.declared.fault.Fault.{Fault}
use Rattle.go_syntax.specs.Tree as t
use Rattle.go_syntax.specs.View.{decl_view, import_view}
use Rattle.go_syntax.specs.declared.tree.Decl.{Decl}
use Rattle.go_syntax.specs.declared.tree.Import.{Import}
use Rattle.go_load.specs.Readings as r
use Rattle.go_load.specs.ReadingView.{reading_view}
use Rattle.go_load.specs.Faults.{lexical_fault, syntax_fault, package_name, first_package, may_have_main, is_main, main_faults, faults_of, faults_from, load_faults, import_faults, fault_in}
use Rattle.go_load.specs.Least.{first_in, lesser, least_from}
use Rattle.go_load.specs.declared.reading.Reading.{Reading}
use Rattle.go_load.proofs.LeastLemmas.{least_append}
use Rattle.go_load.proofs.ReadingLemmas.{next_mapped}

-- nothing is left past the end
pub past_end : {X Y : Type 0} (f : X → Y) (xs : List X) (i : ℕ) → length xs ≤ i → map f (drop i xs) ≡ []
past_end f [] zero h = refl
past_end f [] (suc i) h = refl
past_end f (x ∷ xs) zero h = absurd (omega arith)
past_end f (x ∷ xs) (suc i) h = past_end f xs i (omega arith)

-- the first that a list has of something, where the one at an index has it, or hasn't
pub first_at : {X Y : Type 0} (f : X → Y) (part : Y → Option Fault) (xs : List X) (i : ℕ) (x : X) (fault : Fault) → i < length xs → x ≡ get_or xs i x → Some fault ≡ part (f x)
    → Some fault ≡ first_in (filter_map part (map f (drop i xs)))
first_at {X} {Y} f part xs i x fault h e p =
    let rest = filter_map part (map f (drop (i + 1) xs)) in
    sym (ap (λ (ys : List Y). first_in (filter_map part ys)) (next_mapped f xs i x h e) ∙ ap (λ (o : Option Fault). first_in (cons_option o rest)) (sym p))

pub first_next : {X Y : Type 0} (f : X → Y) (part : Y → Option Fault) (xs : List X) (i : ℕ) (x : X) → i < length xs → x ≡ get_or xs i x → None ≡ part (f x)
    → filter_map part (map f (drop i xs)) ≡ filter_map part (map f (drop (i + 1) xs))
first_next {X} {Y} f part xs i x h e p =
    let rest = filter_map part (map f (drop (i + 1) xs)) in
    ap (λ (ys : List Y). filter_map part ys) (next_mapped f xs i x h e) ∙ ap (λ (o : Option Fault). cons_option o rest) (sym p)

-- the first name, likewise
pub name_at : (xs : List Reading) (i : ℕ) (x : Reading) (name : List ℕ) → i < length xs → x ≡ get_or xs i x → Some name ≡ package_name (reading_view x) → name ≡ first_package (map reading_view (drop i xs))
name_at xs i x name h e p =
    let rest = first_package (map reading_view (drop (i + 1) xs)) in
    sym (ap first_package (next_mapped reading_view xs i x h e) ∙ ap (λ (o : Option (List ℕ)). unwrap_or o rest) (sym p))

pub name_next : (xs : List Reading) (i : ℕ) (x : Reading) → i < length xs → x ≡ get_or xs i x → None ≡ package_name (reading_view x)
    → first_package (map reading_view (drop i xs)) ≡ first_package (map reading_view (drop (i + 1) xs))
name_next xs i x h e p =
    let rest = first_package (map reading_view (drop (i + 1) xs)) in
    ap first_package (next_mapped reading_view xs i x h e) ∙ ap (λ (o : Option (List ℕ)). unwrap_or o rest) (sym p)

-- whether one of a list passes a test, where the one at an index does, or doesn't
pub any_at : {X Y : Type 0} (f : X → Y) (test : Y → Bool) (xs : List X) (i : ℕ) (x : X) → i < length xs → x ≡ get_or xs i x → test (f x) ≡ true → list_any test (map f (drop i xs)) ≡ true
any_at {X} {Y} f test xs i x h e p =
    let rest = list_any test (map f (drop (i + 1) xs)) in
    ap (λ (ys : List Y). list_any test ys) (next_mapped f xs i x h e) ∙ ap (λ (b : Bool). b || rest) p

pub any_next : {X Y : Type 0} (f : X → Y) (test : Y → Bool) (xs : List X) (i : ℕ) (x : X) → i < length xs → x ≡ get_or xs i x → test (f x) ≡ false
    → list_any test (map f (drop i xs)) ≡ list_any test (map f (drop (i + 1) xs))
any_next {X} {Y} f test xs i x h e p =
    let rest = list_any test (map f (drop (i + 1) xs)) in
    ap (λ (ys : List Y). list_any test ys) (next_mapped f xs i x h e) ∙ ap (λ (b : Bool). b || rest) p

-- one import more
pub import_next : (number : ℕ) (xs : List Import) (i : ℕ) (x : Import) (least : Option Fault) → i < length xs → x ≡ get_or xs i x
    → least_from least (import_faults number (map import_view (drop i xs))) ≡ least_from (Some (lesser least (fault_in number x.place.offset 0))) (import_faults number (map import_view (drop (i + 1) xs)))
import_next number xs i x least h e = ap (λ (ys : List t.Import). least_from least (import_faults number ys)) (next_mapped import_view xs i x h e)

-- one file more
pub file_next : (first : List ℕ) (xs : List Reading) (i : ℕ) (x : Reading) (least : Option Fault) → i < length xs → x ≡ get_or xs i x
    → least_from least (faults_from first i (map reading_view (drop i xs))) ≡ least_from (least_from least (faults_of first i (reading_view x))) (faults_from first (i + 1) (map reading_view (drop (i + 1) xs)))
file_next first xs i x least h e =
    ap (λ (ys : List r.Reading). least_from least (faults_from first i ys)) (next_mapped reading_view xs i x h e)
    ∙ least_append least (faults_of first i (reading_view x)) (faults_from first (i + 1) (map reading_view (drop (i + 1) xs)))

-- those of all files, and first F43
pub all_from : (rs : List r.Reading) → least_from None (load_faults rs) ≡ least_from (least_from None (main_faults rs)) (faults_from (first_package rs) 0 rs)
all_from rs = least_append None (main_faults rs) (faults_from (first_package rs) 0 rs)

-- the faults of one tree, kind by kind
pub tree_parts : (least : Option Fault) (ws xs ys zs : List Fault) → least_from least (ws ++ xs ++ ys ++ zs) ≡ least_from (least_from (least_from (least_from least ws) xs) ys) zs
tree_parts least ws xs ys zs =
    least_append least (ws ++ xs ++ ys) zs ∙ ap (λ (o : Option Fault). least_from o zs) (least_append least (ws ++ xs) ys ∙ ap (λ (o : Option Fault). least_from o ys) (least_append least ws xs))

-- the least so far, from kind to kind
pub tree_kinds : (o a b c d : Option Fault) (ws ws' xs xs' ys ys' zs : List Fault) → a ≡ least_from o ws → ws ≡ ws' → b ≡ least_from a xs → xs ≡ xs' → c ≡ least_from b ys → ys ≡ ys' → d ≡ least_from c zs
    → d ≡ least_from o (ws' ++ xs' ++ ys' ++ zs)
tree_kinds o a b c d ws ws' xs xs' ys ys' zs ea ew eb ex ec ey ed =
    let whole = tree_parts o ws' xs' ys' zs in
    cc

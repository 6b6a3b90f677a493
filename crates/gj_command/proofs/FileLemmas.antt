-- What is read of a folder is determined: the entries, what each file is, the faults and the trees.
use Rattle.std.proofs.Common.{◌≡◌, ◌≤◌, ◌+◌, ◌++◌, ◌||◌, List, [], ◌∷◌, ℕ, Bool, true, false, length, map, refl, sym, ap, subst, ◌∙◌, append-nil, length-append, arith}
use Rattle.std.specs.Prelude.{Option, Some, nat_lt, option_map}
use Rattle.std.specs.List.{AllByRecursion, sum_by}
use Rattle.std.proofs.lemmas.List.{nil_from_length, length-map}
use Rattle.std.proofs.lemmas.List.Elements.{recursion_from_All}
use Rattle.std.proofs.lemmas.List.Sums.{sum_by-append}
use Rattle.std.proofs.lemmas.Bool.Decides.{nat_tests}
use Rattle.gj_base.specs.Tree.{Tree, bytes_at, path_in}
use Rattle.gj_base.specs.declared.fault.Fault.{Fault}
use Rattle.go_syntax.specs.Tree as t
use Rattle.go_syntax.specs.Token.{TokenList, token_at}
use Rattle.go_grammar.specs.Laws.{DerivesOneFile}
use Rattle.go_load.specs.Root.{program_limit, count_limit, Keeps, IsEntry, IsOfRoot, is_too_large, AreRead, IsRead}
use Rattle.go_load.specs.Readings.{Reading, Long, Unlexed, Unparsed, Parsed, HasTree, IsReading, AreReadings}
use Rattle.go_load.specs.Faults.{lexical_faults, syntax_faults, load_faults, faults_of, faults_from, first_package, main_faults, first_of, stage_faults}
use Rattle.go_load.specs.declared.sources.FileEntry.{FileEntry}
use Rattle.gj_command.proofs.NameLemmas.{same_names}

-- what an entry keeps of the same bytes is the same
same_kept : (long long' : Bool) (kept kept' bytes : List ℕ) → Keeps long kept bytes → Keeps long' kept' bytes → (long ≡ long') × (kept ≡ kept')
same_kept false false kept kept' bytes a b = (refl, a.1 ∙ sym b.1)
same_kept false true kept kept' bytes a b = absurd (omega (arith, a.0, b.0))
same_kept true false kept kept' bytes a b = absurd (omega (arith, a.0, b.0))
same_kept true true kept kept' bytes a b = (refl, a.1 ∙ sym b.1)

some_injective : (a b : List ℕ) → (let o : Option (List ℕ) = Some a in o) ≡ Some b → a ≡ b
some_injective a b e = cc

-- two entries of one file are the same
same_entry : (tree : Tree) (folder : List ℕ) (e f : FileEntry) → e.name ≡ f.name → IsOfRoot e → IsOfRoot f → IsEntry tree folder e → IsEntry tree folder f → e ≡ f
same_entry tree folder e f named own own' there there' =
    let at : bytes_at tree (path_in folder e.name) ≡ bytes_at tree (path_in folder f.name) = ap (λ (n : List ℕ). bytes_at tree (path_in folder n)) named in
    let bytes : there.bytes ≡ there'.bytes = some_injective _ _ (sym there.there ∙ at ∙ there'.there) in
    let keeps = same_kept e.too_long f.too_long e.bytes f.bytes there'.bytes (subst (λ (b : List ℕ). Keeps e.too_long e.bytes b) bytes there.keeps) there'.keeps in
    parts e f (own.path ∙ sym own'.path) named keeps.1 (own.own ∙ sym own'.own) keeps.0
  where
    parts : (e f : FileEntry) → e.path ≡ f.path → e.name ≡ f.name → e.bytes ≡ f.bytes → e.embedded ≡ f.embedded → e.too_long ≡ f.too_long → e ≡ f
    parts e f a b c d g =
        ap (λ (x : List ℕ). record e { path = x }) a ∙ ap (λ (x : List ℕ). record e { path = f.path; name = x }) b
        ∙ ap (λ (x : List ℕ). record e { path = f.path; name = f.name; bytes = x }) c
        ∙ ap (λ (x : Bool). record e { path = f.path; name = f.name; bytes = f.bytes; embedded = x }) d
        ∙ ap (λ (x : Bool). record e { path = f.path; name = f.name; bytes = f.bytes; embedded = f.embedded; too_long = x }) g

-- entries whose names begin the names of others are the first of these
same_entries : (tree : Tree) (folder : List ℕ) (es fs : List FileEntry) (left : List (List ℕ)) → map (λ e. e.name) es ++ left ≡ map (λ e. e.name) fs
    → AllByRecursion IsOfRoot es → AllByRecursion IsOfRoot fs → AllByRecursion (IsEntry tree folder) es → AllByRecursion (IsEntry tree folder) fs → (rest : List FileEntry) × (fs ≡ es ++ rest)
same_entries tree folder [] fs left named own own' there there' = (fs, refl)
same_entries tree folder (e ∷ es) [] left named own own' there there' = absurd (cc)
same_entries tree folder (e ∷ es) (f ∷ fs) left named own own' there there' =
    let heads : e.name ≡ f.name = cc in
    let tails : map (λ e. e.name) es ++ left ≡ map (λ e. e.name) fs = cc in
    let rest = same_entries tree folder es fs left tails own.1 own'.1 there.1 there'.1 in
    let front : e ≡ f = same_entry tree folder e f heads own.0 own'.0 there.0 there'.0 in
    (rest.0, ap (λ (x : FileEntry). x ∷ fs) (sym front) ∙ ap (λ (xs : List FileEntry). e ∷ xs) rest.1)

larger_of : (p q a b c d : ℕ) → (nat_lt p a || nat_lt q c) ≡ true → a ≤ b → c ≤ d → (nat_lt p b || nat_lt q d) ≡ true
larger_of p q a b c d large more longer = grind (arith, nat_tests)

-- more files are no smaller
larger : (es rest : List FileEntry) → is_too_large es ≡ true → is_too_large (es ++ rest) ≡ true
larger es rest large =
    let size = sum_by (λ (e : FileEntry). length e.bytes) in
    let sum = sum_by-append (λ (e : FileEntry). length e.bytes) es rest in
    let count = length-append es rest in
    larger_of program_limit count_limit (size es) (size (es ++ rest)) (length es) (length (es ++ rest)) large (omega (arith, sum)) (omega (arith, count))

-- what is read of a folder is determined, where it is small
pub same_files : (tree : Tree) (folder : List ℕ) (es fs : List FileEntry) → IsRead (Some tree) folder es → IsRead (Some tree) folder fs → is_too_large fs ≡ false → es ≡ fs
same_files tree folder es fs read read' small =
    let are : AreRead tree folder es = read.files in
    let are' : AreRead tree folder fs = read'.files in
    let all : are'.left ≡ [] = are'.enough small in
    let names : map (λ e. e.name) es ++ are.left ≡ map (λ e. e.name) fs ++ are'.left =
    same_names _ _ are.names.rising are'.names.rising (λ name. ((λ there. (are'.names.files name).1 ((are.names.files name).0 there)), (λ there. (are.names.files name).1 ((are'.names.files name).0 there)))) in
    let named : map (λ e. e.name) es ++ are.left ≡ map (λ e. e.name) fs = names ∙ ap (λ (ns : List (List ℕ)). map (λ e. e.name) fs ++ ns) all ∙ append-nil _ in
    let rest = same_entries tree folder es fs are.left named (recursion_from_All IsOfRoot es read.own) (recursion_from_All IsOfRoot fs read'.own)
    (recursion_from_All (IsEntry tree folder) es are.files) (recursion_from_All (IsEntry tree folder) fs are'.files) in
    by (is_too_large es) refl are.left named rest.0 rest.1 are.enough
  where
    by : (large : Bool) → is_too_large es ≡ large → (left : List (List ℕ)) → map (λ e. e.name) es ++ left ≡ map (λ e. e.name) fs → (rest : List FileEntry) → fs ≡ es ++ rest
        → (is_too_large es ≡ false → left ≡ []) → es ≡ fs
    by true e left named rest split enough = absurd (let l = larger es rest e in let s = ap is_too_large split in cc)
    by false e left named rest split enough =
        let ends : left ≡ [] = enough e in
        let names : map (λ e. e.name) es ≡ map (λ e. e.name) fs = sym (append-nil _) ∙ ap (λ (ns : List (List ℕ)). map (λ e. e.name) es ++ ns) (sym ends) ∙ named in
        let count : length es ≡ length fs = sym (length-map es (λ (e : FileEntry). e.name)) ∙ ap length names ∙ length-map fs (λ (e : FileEntry). e.name) in
        let none : rest ≡ [] = nil_from_length rest (let total = ap length split in let both = length-append es rest in omega (arith, total, both, count)) in
        sym (append-nil es) ∙ ap (λ (r : List FileEntry). es ++ r) (sym none) ∙ sym split

-- each file has a tree
abbrev AllParsed : List Reading → Type 0
AllParsed [] = Unit {0}
AllParsed (Long ∷ rs) = ⊥
AllParsed (Unlexed fault ∷ rs) = ⊥
AllParsed (Unparsed fault ∷ rs) = ⊥
AllParsed (Parsed start constraint tree ∷ rs) = AllParsed rs

nothing_first : (a b : List Fault) → first_of a b ≡ [] → (a ≡ []) × (b ≡ [])
nothing_first [] b e = (refl, e)
nothing_first (x ∷ xs) b e = absurd (cc)

nothing_of_both : (a b : List Fault) → a ++ b ≡ [] → (a ≡ []) × (b ≡ [])
nothing_of_both [] b e = (refl, e)
nothing_of_both (x ∷ xs) b e = absurd (cc)

-- files without a fault have trees
parsed_from : (rs : List Reading) (first : List ℕ) (number : ℕ) → lexical_faults rs ≡ [] → syntax_faults rs ≡ [] → faults_from first number rs ≡ [] → AllParsed rs
parsed_from [] first number lexical syntactic loading = tt
parsed_from (Long ∷ rs) first number lexical syntactic loading = absurd (cc)
parsed_from (Unlexed fault ∷ rs) first number lexical syntactic loading = absurd (cc)
parsed_from (Unparsed fault ∷ rs) first number lexical syntactic loading = absurd (cc)
parsed_from (Parsed start constraint tree ∷ rs) first number lexical syntactic loading =
    parsed_from rs first (number + 1) lexical syntactic (nothing_of_both (faults_of first number (Parsed start constraint tree)) (faults_from first (number + 1) rs) loading).1

all_parsed : (rs : List Reading) → stage_faults rs ≡ [] → AllParsed rs
all_parsed rs none =
    let outer = nothing_first (lexical_faults rs) (first_of (syntax_faults rs) (load_faults rs)) none in
    let middle = nothing_first (syntax_faults rs) (load_faults rs) outer.1 in
    parsed_from rs (first_package rs) 0 outer.0 middle.0 (nothing_of_both (main_faults rs) (faults_from (first_package rs) 0 rs) middle.1).1

-- a file that has a tree is nothing else
same_reading : DerivesOneFile → (number : ℕ) (e : FileEntry) (start : ℕ) (constraint : Option ℕ) (tree : t.File) (r : Reading) → IsReading number e (Parsed start constraint tree) → IsReading number e r → r ≡ Parsed start constraint tree
same_reading one number e start constraint tree Long is other = absurd (let short = is.0 in cc)
same_reading one number e start constraint tree (Unlexed fault) is other = absurd (other.1.row.none number is.1.0 is.1.1.are)
same_reading one number e start constraint tree (Unparsed fault) is other =
    let same : is.1.0 ≡ other.1.0 = other.1.1.only is.1.0 is.1.1.are in
    absurd (other.1.2.none tree (subst (λ (tokens : TokenList). HasTree tokens.tokens tree) same is.1.2.0))
same_reading one number e start constraint tree (Parsed start' constraint' tree') is other =
    let same : other.1.0 ≡ is.1.0 = is.1.1.only other.1.0 other.1.1.are in
    let has : HasTree is.1.0.tokens tree' = subst (λ (tokens : TokenList). HasTree tokens.tokens tree') same other.1.2.0 in
    let trees : tree' ≡ tree = one is.1.0.tokens tree' tree has.derived has.fits is.1.2.0.derived is.1.2.0.fits in
    let starts : start' ≡ start = other.1.2.1 ∙ ap (λ (tokens : TokenList). (token_at tokens.tokens 0).place.offset) same ∙ sym is.1.2.1 in
    let constraints : constraint' ≡ constraint = other.1.2.2 ∙ ap (λ (tokens : TokenList). option_map (λ p. p.offset) tokens.constraint) same ∙ sym is.1.2.2 in
    cc

-- files that have trees are nothing else
pub same_readings : DerivesOneFile → (number : ℕ) (es : List FileEntry) (rs others : List Reading) → AllParsed rs → AreReadings number es rs → AreReadings number es others → others ≡ rs
same_readings one number [] [] [] parsed are are' = refl
same_readings one number [] [] (r ∷ others) parsed are are' = absurd are'
same_readings one number [] (r ∷ rs) others parsed are are' = absurd are
same_readings one number (e ∷ es) [] others parsed are are' = absurd are
same_readings one number (e ∷ es) (r ∷ rs) [] parsed are are' = absurd are'
same_readings one number (e ∷ es) (Long ∷ rs) (o ∷ others) parsed are are' = absurd parsed
same_readings one number (e ∷ es) (Unlexed fault ∷ rs) (o ∷ others) parsed are are' = absurd parsed
same_readings one number (e ∷ es) (Unparsed fault ∷ rs) (o ∷ others) parsed are are' = absurd parsed
same_readings one number (e ∷ es) (Parsed start constraint tree ∷ rs) (o ∷ others) parsed are are' =
    ap (λ (x : Reading). x ∷ others) (same_reading one number e start constraint tree o are.0 are'.0)
    ∙ ap (λ (xs : List Reading). Parsed start constraint tree ∷ xs) (same_readings one (number + 1) es rs others parsed are.1 are'.1)

-- what files without a fault are is determined
pub same_faultless : DerivesOneFile → (es : List FileEntry) (rs others : List Reading) → stage_faults rs ≡ [] → AreReadings 0 es rs → AreReadings 0 es others → others ≡ rs
same_faultless one es rs others none are are' = same_readings one 0 es rs others (all_parsed rs none) are are'

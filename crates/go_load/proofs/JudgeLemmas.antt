-- What comes of files that were read.
use Rattle.std.proofs.Common.{◌≡◌, ◌<◌, ◌≤◌, ◌+◌, ℕ, suc, List, [], ◌∷◌, Bool, true, false, ◌||◌, length, refl, sym, ap, subst, ◌∙◌, inl, inr, arith}
use Rattle.std.specs.Prelude.{Option, Some, None, IfSome, MatchOption, Result, Ok, Err, All, nat_lt, codes, map}
use Rattle.std.specs.List.{sum_by}
use Rattle.std.proofs.lemmas.List.{length-map}
use Rattle.std.proofs.lemmas.List.Elements.{All-weaker}
use Rattle.std.proofs.lemmas.Bool.Decides.{nat_tests}
use Rattle.gj_base.specs.Tree.{Tree}
use Rattle.gj_base.specs.Files.{FilesState, ReadFailed}
use Rattle.gj_base.specs.declared.fault.Fault.{Fault}
use Rattle.go_load.specs.GoFiles.{AreGoFiles}
use Rattle.go_load.specs.Root.{file_limit, count_limit, program_limit, is_too_large, IsOfRoot, AreRead, IsRead}
use Rattle.go_load.specs.Readings.{Reading, AreReadings, trees_of, AreTrees}
use Rattle.go_load.specs.Faults.{fault_in, lexical_faults, syntax_faults, load_faults, stage_faults, IsLeast}
use Rattle.go_load.specs.Least.{first_in, least_from}
use Rattle.go_load.specs.Numbered.{AreNumbered}
use Rattle.go_load.specs.Packages.{PackageTree, paths_view}
use Rattle.go_load.specs.Judged.{Judges}
use Rattle.go_load.specs.Load.{IsFaultOf, large, staged, ArePackages, FailsToRead, Loads}
use Rattle.go_load.specs.ReadingView.{reading_view}
use Rattle.go_load.specs.declared.reading.Reading as d
use Rattle.go_load.specs.declared.sources.FileEntry.{FileEntry}
use Rattle.go_load.specs.declared.packages.Packages.{Packages}
use Rattle.go_load.specs.declared.packages.LoadRefusal.{LoadRefusal}
use Rattle.go_load.specs.declared.packages.LoadRefusal.TheVariants as refusal
use Rattle.go_load.proofs.LeastLemmas.{first_none, least_of, least_none}
use Rattle.go_load.proofs.ReadingLemmas.{lexical_least, syntax_least, load_stage, are_trees}

-- entries of the root are within the limit of a file
pub all_short : (entries : List FileEntry) → All IsOfRoot entries → All (λ (e : FileEntry). length e.bytes ≤ file_limit) entries
all_short entries own = All-weaker IsOfRoot (λ (e : FileEntry). length e.bytes ≤ file_limit) (λ e is. is.short) entries own

second : (a b : Bool) → (a || b) ≡ false → b ≡ false
second false b e = e
second true b e = absurd (cc)

-- files that are not too large are not too many
pub not_too_many : (entries : List FileEntry) → is_too_large entries ≡ false → length entries ≤ count_limit
not_too_many entries small =
    let test : nat_lt count_limit (length entries) ≡ false = second (nat_lt program_limit (sum_by (λ (e : FileEntry). length e.bytes) entries)) _ small in
    grind (arith, nat_tests)

-- there are as many readings as files
pub as_many : (n : ℕ) (es : List FileEntry) (rs : List Reading) → AreReadings n es rs → length rs ≡ length es
as_many n [] [] a = refl
as_many n [] (r ∷ rs) a = absurd a
as_many n (e ∷ es) [] a = absurd a
as_many n (e ∷ es) (r ∷ rs) a = ap suc (as_many (n + 1) es rs a.1)

-- the least fault, stage by stage
pub found_lexical : (rs : List Reading) (fault copy : Fault) → AreNumbered 0 rs → copy ≡ fault → Some fault ≡ first_in (lexical_faults rs) → IsLeast copy (stage_faults rs)
found_lexical rs fault copy a same e = subst (λ (f : Fault). IsLeast f (stage_faults rs)) (sym same) (lexical_least rs fault a (sym e))

pub found_syntax : (rs : List Reading) (fault copy : Fault) → AreNumbered 0 rs → copy ≡ fault → None ≡ first_in (lexical_faults rs) → Some fault ≡ first_in (syntax_faults rs) → IsLeast copy (stage_faults rs)
found_syntax rs fault copy a same none e = subst (λ (f : Fault). IsLeast f (stage_faults rs)) (sym same) (syntax_least rs fault a (first_none (lexical_faults rs) (sym none)) (sym e))

pub found_load : (rs : List Reading) (fault copy : Fault) → copy ≡ fault → None ≡ first_in (lexical_faults rs) → None ≡ first_in (syntax_faults rs) → Some fault ≡ least_from None (load_faults rs) → IsLeast copy (stage_faults rs)
found_load rs fault copy same none none' e =
    subst (λ (f : Fault). IsLeast f (stage_faults rs)) (sym same)
    (subst (λ (fs : List Fault). IsLeast fault fs) (sym (load_stage rs (first_none (lexical_faults rs) (sym none)) (first_none (syntax_faults rs) (sym none')))) (least_of (load_faults rs) fault (sym e)))

pub found_none : (rs : List Reading) → None ≡ first_in (lexical_faults rs) → None ≡ first_in (syntax_faults rs) → None ≡ least_from None (load_faults rs) → stage_faults rs ≡ []
found_none rs none none' e = load_stage rs (first_none (lexical_faults rs) (sym none)) (first_none (syntax_faults rs) (sym none')) ∙ least_none (load_faults rs) (sym e)

-- files without a fault are packages
pub packages_are : (p : Packages) (entries : List FileEntry) (rs : List Reading) → p.files ≡ entries → is_too_large entries ≡ false → AreReadings 0 entries rs → stage_faults rs ≡ []
    → paths_view p.packages ≡ ([], record { name = codes "main"; files = trees_of rs }) ∷ [] → ArePackages p
packages_are p entries rs same small are none root = record {
  small = ap is_too_large same ∙ small;
  readings = rs;
  are = subst (λ (es : List FileEntry). AreReadings 0 es rs) (sym same) are;
  none = none;
  trees = subst (λ (es : List FileEntry). AreTrees 0 es (trees_of rs)) (sym same) (are_trees entries rs are none);
  root = root;
}

-- no file was read
no_files : (told : Option Tree) (folder : List ℕ) (entries : List FileEntry) → entries ≡ [] → IsRead told folder entries → IfSome told (λ tree. AreGoFiles tree folder [])
no_files told folder [] e read = at told read.files
  where
    at : (o : Option Tree) → IfSome o (λ tree. AreRead tree folder []) → IfSome o (λ tree. AreGoFiles tree folder [])
    at None h = h
    at (Some tree) h = subst (λ (names : List (List ℕ)). AreGoFiles tree folder names) (h.enough refl) h.names
no_files told folder (x ∷ xs) e read = absurd (cc)

-- from what was read to what is answered
pub loads : (answer : Result Packages LoadRefusal) (folder : List ℕ) (entries : List FileEntry) (old new : FilesState) → new ≡ old → IsRead old.tree folder entries → Judges answer entries → Loads answer folder old new
loads (Ok p) folder entries old new same read judged =
    (same, subst (λ (es : List FileEntry). 0 < length es) (sym judged.0) judged.1, subst (λ (es : List FileEntry). IsRead old.tree folder es) (sym judged.0) read, judged.2)
loads (Err (refusal.Fault fault es)) folder entries old new same read judged =
    (same, subst (λ (xs : List FileEntry). 0 < length xs) (sym judged.0) judged.1, subst (λ (xs : List FileEntry). IsRead old.tree folder xs) (sym judged.0) read, subst (λ (xs : List FileEntry). IsFaultOf xs fault) (sym judged.0) judged.2)
loads (Err refusal.ReadFault) folder entries old new same read judged = inr (same, no_files old.tree folder entries judged read)
loads (Err refusal.NoMemory) folder entries old new same read judged = same

-- readings are not too many
pub few : (es : List FileEntry) (rs : List d.Reading) → AreReadings 0 es (map reading_view rs) → is_too_large es ≡ false → length rs ≤ count_limit
few es rs are small = subst (λ (n : ℕ). n ≤ count_limit) (sym (as_many 0 es (map reading_view rs) are) ∙ length-map rs reading_view) (not_too_many es small)

-- from the parts of an answer to the answer
pub judged_large : (es : List FileEntry) (fault : Fault) → 0 < length es → is_too_large es ≡ true → fault ≡ fault_in 0 0 46 → Judges (Err (refusal.Fault fault es)) es
judged_large es fault n is e = (refl, n, large is e)

pub judged_staged : (es : List FileEntry) (rs : List Reading) (fault : Fault) → 0 < length es → is_too_large es ≡ false → AreReadings 0 es rs → IsLeast fault (stage_faults rs) → Judges (Err (refusal.Fault fault es)) es
judged_staged es rs fault n small are least = (refl, n, staged small rs are least)

pub judged_packages : (es : List FileEntry) (rs : List Reading) (p : Packages) → 0 < length es → is_too_large es ≡ false → AreReadings 0 es rs → stage_faults rs ≡ [] → p.files ≡ es
    → paths_view p.packages ≡ ([], record { name = codes "main"; files = trees_of rs }) ∷ [] → Judges (Ok p) es
judged_packages es rs p n small are none same root = (same, n, packages_are p es rs same small are none root)

-- what the search for a fault told of the readings
pub told_least : (rs all : List d.Reading) (found : Option Fault) (fault : Fault) → rs ≡ all → found ≡ Some fault
    → MatchOption found (stage_faults (map reading_view rs) ≡ []) (λ fault. IsLeast fault (stage_faults (map reading_view rs))) → IsLeast fault (stage_faults (map reading_view all))
told_least rs all found fault same is told =
    subst (λ (xs : List d.Reading). IsLeast fault (stage_faults (map reading_view xs))) same
    (subst (λ (o : Option Fault). MatchOption o (stage_faults (map reading_view rs) ≡ []) (λ fault. IsLeast fault (stage_faults (map reading_view rs)))) is told)

pub told_none : (rs all : List d.Reading) (found : Option Fault) → rs ≡ all → found ≡ None
    → MatchOption found (stage_faults (map reading_view rs) ≡ []) (λ fault. IsLeast fault (stage_faults (map reading_view rs))) → stage_faults (map reading_view all) ≡ []
told_none rs all found same is told =
    subst (λ (xs : List d.Reading). stage_faults (map reading_view xs) ≡ []) same
    (subst (λ (o : Option Fault). MatchOption o (stage_faults (map reading_view rs) ≡ []) (λ fault. IsLeast fault (stage_faults (map reading_view rs)))) is told)

-- The files of the root, one by one.
use Rattle.std.proofs.Common.{◌≡◌, ◌<◌, ◌≤◌, ◌+◌, ◌++◌, ℕ, zero, suc, List, [], ◌∷◌, Bool, true, false, ◌||◌, ◌⊎◌, length, take, refl, sym, ap, subst, ◌∙◌, inl, inr, arith, append_assoc, length-append}
use Rattle.std.specs.Prelude.{Option, Some, None, Ok, IfSome, IsSome, Contains, All, map, nat_lt}
use Rattle.std.specs.List.{sum_by}
use Rattle.std.proofs.lemmas.List.{map-append, take-append-le}
use Rattle.std.proofs.lemmas.List.Sums.{sum_by_push}
use Rattle.std.proofs.lemmas.Bool.Decides.{nat_tests}
use Rattle.std.proofs.lemmas.List.Elements.{All-nil, All-push, All-head, All-tail}
use Rattle.gj_base.specs.Tree.{Tree, bytes_at, path_in, IsName}
use Rattle.gj_base.specs.Files.{FilesState}
use Rattle.go_load.specs.GoFiles.{AreGoFiles}
use Rattle.go_load.specs.Root.{file_limit, is_too_large, program_limit, count_limit, IsOfRoot, IsEntry, AreRead, IsRead}
use Rattle.go_load.specs.Gather.{GathersFile, IsFileRead, long_entry}
use Rattle.go_load.specs.declared.sources.FileEntry.{FileEntry}

-- what was read so far, and the names that are left
pub record IsPart (tree : Tree) (folder : List ℕ) (entries : List FileEntry) (left : List (List ℕ)) : Type 0 where
  pub names : AreGoFiles tree folder (map (λ e. e.name) entries ++ left)
  pub files : All (IsEntry tree folder) entries

pub record Progress (told : Option Tree) (folder : List ℕ) (entries : List FileEntry) (left : List (List ℕ)) : Type 0 where
  pub own : All IsOfRoot entries
  pub named : All IsName left
  pub part : IfSome told (λ tree. IsPart tree folder entries left)
  pub small : (n : ℕ) → n ≤ length entries → is_too_large (take n entries) ≡ false

take_none : (n : ℕ) → take n (let xs : List FileEntry = [] in xs) ≡ []
take_none zero = refl
take_none (suc n) = refl

-- nothing is read yet
pub start : (told : Option Tree) (folder : List ℕ) (names : List (List ℕ)) → All IsName names → IfSome told (λ tree. AreGoFiles tree folder names) → Progress told folder [] names
start told folder names named are = record {
  own = All-nil IsOfRoot;
  named = named;
  part = part told are;
  small = λ n h. ap is_too_large (take_none n);
}
  where
    part : (o : Option Tree) → IfSome o (λ tree. AreGoFiles tree folder names) → IfSome o (λ tree. IsPart tree folder [] names)
    part None a = a
    part (Some tree) a = record { names = a; files = All-nil (IsEntry tree folder) }

take_all : (xs : List FileEntry) → take (length xs) xs ≡ xs
take_all [] = refl
take_all (x ∷ xs) = ap (λ (ys : List FileEntry). x ∷ ys) (take_all xs)

-- the fronts of one entry more
fronts : (entries : List FileEntry) (entry : FileEntry) → ((n : ℕ) → n ≤ length entries → is_too_large (take n entries) ≡ false)
    → (n : ℕ) → n ≤ length entries → is_too_large (take n (entries ++ entry ∷ [])) ≡ false
fronts entries entry small n h = rw take-append-le (small n h)

names_push : (entries : List FileEntry) (entry : FileEntry) (name : List ℕ) (left : List (List ℕ)) → entry.name ≡ name
    → map (λ (e : FileEntry). e.name) entries ++ (name ∷ left) ≡ map (λ (e : FileEntry). e.name) (entries ++ entry ∷ []) ++ left
names_push entries entry name left e =
    sym (ap (λ (xs : List (List ℕ)). xs ++ left) (map-append (λ (e : FileEntry). e.name) entries (entry ∷ [])) ∙ append_assoc (map (λ (e : FileEntry). e.name) entries) (entry.name ∷ []) left ∙ ap (λ (n : List ℕ). map (λ (e : FileEntry). e.name) entries ++ n ∷ left) e)

-- the names and the entries with one file more
one_more : (told : Option Tree) (folder : List ℕ) (entries : List FileEntry) (entry : FileEntry) (name : List ℕ) (left : List (List ℕ)) → entry.name ≡ name
    → IfSome told (λ tree. IsPart tree folder entries (name ∷ left)) → IfSome told (λ tree. IsEntry tree folder entry) → IfSome told (λ tree. IsPart tree folder (entries ++ entry ∷ []) left)
one_more None folder entries entry name left e part there = part
one_more (Some tree) folder entries entry name left e part there = record {
  names = subst (λ (ns : List (List ℕ)). AreGoFiles tree folder ns) (names_push entries entry name left e) part.names;
  files = All-push (IsEntry tree folder) entries entry part.files there;
}

-- a file is read, and all are within the limits
pub read_more : (told : Option Tree) (folder : List ℕ) (entries : List FileEntry) (entry : FileEntry) (name : List ℕ) (left : List (List ℕ)) → Progress told folder entries (name ∷ left)
    → IsFileRead told folder name entry → is_too_large (entries ++ entry ∷ []) ≡ false → Progress told folder (entries ++ entry ∷ []) left
read_more told folder entries entry name left p read small = record {
  own = All-push IsOfRoot entries entry p.own read.own;
  named = All-tail IsName name left p.named;
  part = one_more told folder entries entry name left read.named p.part read.there;
  small = λ n h. by n (split n (length entries) (subst (λ (m : ℕ). n ≤ m) (length-append entries (entry ∷ [])) h));
}
  where
    split : (n m : ℕ) → n ≤ m + 1 → (n ≤ m) ⊎ (n ≡ m + 1)
    split n m h = grind arith

    by : (n : ℕ) → (n ≤ length entries) ⊎ (n ≡ length entries + 1) → is_too_large (take n (entries ++ entry ∷ [])) ≡ false
    by n (inl h) = fronts entries entry p.small n h
    by n (inr h) =
        let whole : take n (entries ++ entry ∷ []) ≡ entries ++ entry ∷ [] =
        ap (λ (m : ℕ). take m (entries ++ entry ∷ [])) (h ∙ sym (length-append entries (entry ∷ []))) ∙ take_all (entries ++ entry ∷ []) in
        ap is_too_large whole ∙ small

-- a file is read, and with it they are too large
pub read_last : (told : Option Tree) (folder : List ℕ) (entries : List FileEntry) (entry : FileEntry) (name : List ℕ) (left : List (List ℕ)) → Progress told folder entries (name ∷ left)
    → IsFileRead told folder name entry → is_too_large (entries ++ entry ∷ []) ≡ true → IsRead told folder (entries ++ entry ∷ [])
read_last told folder entries entry name left p read large = record {
  own = All-push IsOfRoot entries entry p.own read.own;
  files = told_part told (one_more told folder entries entry name left read.named p.part read.there);
  no_more = λ n h. fronts entries entry p.small n (shorter n (subst (λ (m : ℕ). n < m) (length-append entries (entry ∷ [])) h));
}
  where
    shorter : (n : ℕ) → n < length entries + 1 → n ≤ length entries
    shorter n h = omega arith

    told_part : (o : Option Tree) → IfSome o (λ tree. IsPart tree folder (entries ++ entry ∷ []) left) → IfSome o (λ tree. AreRead tree folder (entries ++ entry ∷ []))
    told_part None part = part
    told_part (Some tree) part = record { left = left; names = part.names; files = part.files; enough = λ small. let bad : true ≡ false = sym large ∙ small in absurd (cc) }

among : (xs : List (List ℕ)) (name : List ℕ) (left : List (List ℕ)) → Contains (xs ++ name ∷ left) name
among [] name left = (0, omega arith, refl)
among (x ∷ xs) name left = let there = among xs name left in (suc there.0, omega (arith, there.1), there.2)

-- a name without a file is no name of the folder
pub passed_over : (told : Option Tree) (folder : List ℕ) (entries : List FileEntry) (name : List ℕ) (left : List (List ℕ)) → Progress told folder entries (name ∷ left)
    → IfSome told (λ tree. bytes_at tree (path_in folder name) ≡ None) → Progress told folder entries left
passed_over told folder entries name left p missing = record {
  own = p.own;
  named = All-tail IsName name left p.named;
  part = part told p.part missing;
  small = p.small;
}
  where
    none : (o : Option (List ℕ)) → IsSome o → o ≡ None → ⊥
    none None some e = let bad : false ≡ true = some in cc
    none (Some bytes) some e = cc

    part : (o : Option Tree) → IfSome o (λ tree. IsPart tree folder entries (name ∷ left)) → IfSome o (λ tree. bytes_at tree (path_in folder name) ≡ None) → IfSome o (λ tree. IsPart tree folder entries left)
    part None q m = q
    part (Some tree) q m = absurd (none (bytes_at tree (path_in folder name)) ((q.names.files name).0 (among (map (λ (e : FileEntry). e.name) entries) name left)).there m)

append_none : (xs : List (List ℕ)) → xs ++ [] ≡ xs
append_none [] = refl
append_none (x ∷ xs) = ap (λ (ys : List (List ℕ)). x ∷ ys) (append_none xs)

-- all files are read
pub read_all : (told : Option Tree) (folder : List ℕ) (entries : List FileEntry) (left : List (List ℕ)) → left ≡ [] → Progress told folder entries left → IsRead told folder entries
read_all told folder entries left none p = record {
  own = p.own;
  files = part told p.part;
  no_more = λ n h. p.small n (omega arith);
}
  where
    part : (o : Option Tree) → IfSome o (λ tree. IsPart tree folder entries left) → IfSome o (λ tree. AreRead tree folder entries)
    part None q = q
    part (Some tree) q = record { left = left; names = q.names; files = q.files; enough = λ h. none }

-- all entries are within the limits
pub within : (told : Option Tree) (folder : List ℕ) (entries : List FileEntry) (left : List (List ℕ)) → Progress told folder entries left → is_too_large entries ≡ false
within told folder entries left p = sym (ap is_too_large (take_all entries)) ∙ p.small (length entries) (omega arith)

-- the bytes of one entry more
pub size_push : (entries : List FileEntry) (entry : FileEntry) → sum_by (λ (e : FileEntry). length e.bytes) (entries ++ entry ∷ []) ≡ sum_by (λ (e : FileEntry). length e.bytes) entries + length entry.bytes
size_push entries entry = sum_by_push (λ (e : FileEntry). length e.bytes) entries entry

either : (a b : Bool) → (a || b) ≡ false → a ≡ false
either false b e = refl
either true b e = e

-- a program within the limits has at most so many bytes
pub size_within : (entries : List FileEntry) (size : ℕ) → size ≡ sum_by (λ (e : FileEntry). length e.bytes) entries → is_too_large entries ≡ false → size ≤ program_limit
size_within entries size e small =
    let test : nat_lt program_limit (sum_by (λ (e : FileEntry). length e.bytes) entries) ≡ false = either _ (nat_lt count_limit (length entries)) small in
    grind (arith, nat_tests)

-- the file of a name that is left
pub is_there : (told : Option Tree) (folder : List ℕ) (entries : List FileEntry) (name : List ℕ) (left : List (List ℕ)) → Progress told folder entries (name ∷ left) → IfSome told (λ tree. IsSome (bytes_at tree (path_in folder name)))
is_there told folder entries name left p = at told p.part
  where
    at : (o : Option Tree) → IfSome o (λ tree. IsPart tree folder entries (name ∷ left)) → IfSome o (λ tree. IsSome (bytes_at tree (path_in folder name)))
    at None q = q
    at (Some tree) q = ((q.names.files name).0 (among (map (λ (e : FileEntry). e.name) entries) name left)).there

-- a file past the limit
pub long_file : (told : Option Tree) (folder name path : List ℕ) → path ≡ path_in folder name → IfSome told (λ tree. IsSome (bytes_at tree (path_in folder name)))
    → IfSome told (λ tree. IfSome (bytes_at tree path) (λ bytes. file_limit < length bytes)) → IsFileRead told folder name (long_entry name)
long_file told folder name path e there long = record { named = refl; own = record { path = refl; own = refl; short = omega arith; none = λ h. refl }; there = at told there long }
  where
    by : (tree : Tree) (o : Option (List ℕ)) → bytes_at tree (path_in folder name) ≡ o → IsSome o → IfSome o (λ bytes. file_limit < length bytes) → IsEntry tree folder (long_entry name)
    by tree None e' s h = let bad : false ≡ true = s in cc
    by tree (Some bytes) e' s h = record { bytes = bytes; there = e'; keeps = (h, refl) }

    at : (o : Option Tree) → IfSome o (λ tree. IsSome (bytes_at tree (path_in folder name))) → IfSome o (λ tree. IfSome (bytes_at tree path) (λ bytes. file_limit < length bytes))
        → IfSome o (λ tree. IsEntry tree folder (long_entry name))
    at None s h = h
    at (Some tree) s h = by tree (bytes_at tree (path_in folder name)) refl s (subst (λ (p : List ℕ). IfSome (bytes_at tree p) (λ bytes. file_limit < length bytes)) e h)

-- what a turn tells of the file, and that the files are as they were
pub file_of : (old mid new : FilesState) (folder name : List ℕ) (found : Option FileEntry) (entry : FileEntry) → mid ≡ old → found ≡ Some entry → GathersFile (Ok found) folder name mid new
    → (new ≡ old) × IsFileRead old.tree folder name entry
file_of old mid new folder name found entry same is h =
    let at = subst (λ (o : Option FileEntry). GathersFile (Ok o) folder name mid new) is h in (at.0 ∙ same, subst (λ (s : FilesState). IsFileRead s.tree folder name entry) same at.1)

pub none_of : (old mid new : FilesState) (folder name : List ℕ) (found : Option FileEntry) → mid ≡ old → found ≡ None → GathersFile (Ok found) folder name mid new
    → (new ≡ old) × IfSome old.tree (λ tree. bytes_at tree (path_in folder name) ≡ None)
none_of old mid new folder name found same is h =
    let at = subst (λ (o : Option FileEntry). GathersFile (Ok o) folder name mid new) is h in
    (at.0 ∙ same, subst (λ (s : FilesState). IfSome s.tree (λ tree. bytes_at tree (path_in folder name) ≡ None)) same at.1)

-- the size with one entry more
pub grown : (entries all : List FileEntry) (entry : FileEntry) (size : ℕ) (bytes : List ℕ) → size ≡ sum_by (λ (e : FileEntry). length e.bytes) entries → bytes ≡ entry.bytes → all ≡ entries ++ entry ∷ []
    → size + length bytes ≡ sum_by (λ (e : FileEntry). length e.bytes) all
grown entries all entry size bytes es eb ea =
    ap (λ (n : ℕ). n + length bytes) es ∙ ap (λ (xs : List ℕ). sum_by (λ (e : FileEntry). length e.bytes) entries + length xs) eb ∙ sym (size_push entries entry) ∙ sym (ap (sum_by (λ (e : FileEntry). length e.bytes)) ea)

-- whether they are too large with it
pub past_is : (all : List FileEntry) (size count : ℕ) (answer : Bool) → size ≡ sum_by (λ (e : FileEntry). length e.bytes) all → count ≡ length all → answer ≡ (nat_lt program_limit size || nat_lt count_limit count)
    → answer ≡ is_too_large all
past_is all size count answer es ec h = h ∙ ap (λ (n : ℕ). nat_lt program_limit n || nat_lt count_limit count) es ∙ ap (λ (n : ℕ). nat_lt program_limit (sum_by (λ (e : FileEntry). length e.bytes) all) || nat_lt count_limit n) ec

-- no name is left
pub none_left : (names : List (List ℕ)) → (0 < length names → IsSome (let o : Option (List ℕ) = None in o)) → names ≡ []
none_left [] h = refl
none_left (x ∷ xs) h = let bad : false ≡ true = h (omega arith) in absurd (cc)

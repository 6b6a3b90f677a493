-- The tree of a map from paths to bytes.
use Rattle.std.proofs.Common.{◌≡◌, ℕ, ◌+◌, Bool, true, false, cond, not, ◌&&◌, ◌||◌, List, [], ◌∷◌, length, drop, get_or, nat_eq, Some, None, is_some, String, string_bytes, bytes_eq, IsUtf8, All, refl, ◌<◌, sym, ap, subst, ◌∙◌, arith}
use Rattle.std.specs.List.{list_any, cons_option, IsDistinct, AllByRecursion}
use Rattle.std.specs.List.Sorted.{IsStrictlySortedBy}
use Rattle.std.specs.Ordering.{is_eq, nat_cmp, eq_by_cmp}
use Rattle.std.specs.Cmp.{nat_eq_equiv}
use Rattle.std.specs.Cmp.Lexicographic.{slice_cmp, nat_list_cmp_total, nat_list_eq_equiv}
use Rattle.std.specs.BTreeMap.{BTreeMap, is_at, Updates}
use Rattle.std.specs.String.{string_cmp}
use Rattle.std.specs.Map.{lookup, keys_of}
use Rattle.std.specs.FinMap.{slice_cmp-IsAntisymmetric, nat_cmp-IsAntisymmetric}
use Rattle.std.proofs.lemmas.Bool.{eqb-true, ne_eqb}
use Rattle.std.proofs.lemmas.Str.{IsUtf8-drop, IsCharBoundary-after_ascii, IsUtf8-string_bytes}
use Rattle.std.proofs.lemmas.Slice.Eq.{bytes_eq-Decides}
use Rattle.std.proofs.lemmas.Map.Text.{btree_map_updates_text, is_eq-slice_cmp}
use Rattle.std.proofs.lemmas.Map.Views.{list_any-from_Contains, Contains-from_any}
use Rattle.std.proofs.lemmas.Map.Keys.{IsDistinct-from_sorted}
use Rattle.std.proofs.lemmas.List.Elements.{All-nil, All-cons}
use Rattle.std.proofs.Math.Seq.{drop-append-add}
use Rattle.gj_base.specs.Tree.{slash, path_in, bytes_at, with_file, IsName, HasFolder, AreNamesIn}
use Rattle.gj_base.specs.Folder.{rest_under, is_one_part, one_part, names_under, has_under}
use Rattle.gj_base.specs.Entries.{by_path, paths_of, tree_of}
use Rattle.gj_base.proofs.PlanLemmas.{get-lookup, updated}
use Rattle.gj_base.proofs.FolderLemmas.{path_in-rest_under, lies, path-has_under, has_under-path, found_name, name_found, names-differ}

lookup-by_path : {Z : Type 0} (entries : List (String Z × List ℕ)) (path : List ℕ) → lookup (is_at (slice_cmp nat_cmp path)) (by_path entries) ≡ lookup (is_at (λ k. slice_cmp nat_cmp path (string_bytes k))) entries
lookup-by_path [] path = refl
lookup-by_path (e ∷ es) path = ap (cond (is_eq (slice_cmp nat_cmp path (string_bytes e.0))) (Some e.1)) (lookup-by_path es path)

pub bytes_at-lookup : {Z : Type 0} (entries : List (String Z × List ℕ)) (path : List ℕ) → bytes_at (tree_of entries) path ≡ lookup (is_at (λ k. slice_cmp nat_cmp path (string_bytes k))) entries
bytes_at-lookup entries path = get-lookup nat_list_cmp_total (by_path entries) path ∙ lookup-by_path entries path

pub tree_of-insert : {Z : Type 0} (old new : BTreeMap (String Z) (List ℕ)) (key : String Z) (bytes : List ℕ) → Updates string_cmp old new key (Some bytes) → tree_of new.entries ≡ with_file (tree_of old.entries) (string_bytes key) bytes
tree_of-insert old new key bytes updates =
    updated nat_list_cmp_total (slice_cmp-IsAntisymmetric nat_cmp-IsAntisymmetric) (by_path old.entries) (by_path new.entries) (string_bytes key) bytes (λ path.
    lookup-by_path new.entries path
    ∙ btree_map_updates_text (string_bytes key) old new (Some bytes) updates path
    ∙ ap (λ b. cond b (Some bytes) (lookup (is_at (λ k. slice_cmp nat_cmp path (string_bytes k))) old.entries)) (sym (is_eq-slice_cmp (string_bytes key) path))
    ∙ ap (cond (is_eq (slice_cmp nat_cmp (string_bytes key) path)) (Some bytes)) (sym (lookup-by_path old.entries path)))

-- whether the tree has a path
pub is_some-bytes_at : {Z : Type 0} (entries : List (String Z × List ℕ)) (path : List ℕ) → is_some (bytes_at (tree_of entries) path) ≡ list_any (bytes_eq path) (paths_of entries)
is_some-bytes_at entries path = ap is_some (bytes_at-lookup entries path) ∙ found entries
  where
    found : {Z : Type 0} (es : List (String Z × List ℕ)) → is_some (lookup (is_at (λ k. slice_cmp nat_cmp path (string_bytes k))) es) ≡ list_any (bytes_eq path) (paths_of es)
    found [] = refl
    found (e ∷ es) =
        ap (λ b. is_some (cond b (Some e.1) (lookup (is_at (λ k. slice_cmp nat_cmp path (string_bytes k))) es))) (is_eq-slice_cmp path (string_bytes e.0))
        ∙ elim (bytes_eq path (string_bytes e.0)) as (λ b. is_some (cond b (Some e.1) (lookup (is_at (λ k. slice_cmp nat_cmp path (string_bytes k))) es)) ≡ (b || list_any (bytes_eq path) (paths_of es))) [
          | true ↦ refl
          | false ↦ found es
        ]

-- ---- folders

pub HasFolder-has_under : {Z : Type 0} (entries : List (String Z × List ℕ)) (folder : List ℕ) → has_under folder (paths_of entries) ≡ true → HasFolder (tree_of entries) folder
HasFolder-has_under entries folder has =
    let path = path-has_under folder (paths_of entries) has in
    (path.0, is_some-bytes_at entries (path_in folder path.0) ∙ path.1)

pub has_under-HasFolder : {Z : Type 0} (entries : List (String Z × List ℕ)) (folder : List ℕ) → HasFolder (tree_of entries) folder → has_under folder (paths_of entries) ≡ true
has_under-HasFolder entries folder has = has_under-path folder (paths_of entries) has.0 (sym (is_some-bytes_at entries (path_in folder has.0)) ∙ has.1)

-- ---- names

slash_in : List ℕ → Bool
slash_in text = list_any (λ byte. nat_eq byte slash) text

slash_in-turned : (text : List ℕ) → slash_in text ≡ list_any (nat_eq slash) text
unfolding slash_in
slash_in-turned [] = refl
slash_in-turned (byte ∷ text) =
    ap (λ b. b || list_any (λ x. nat_eq x slash) text) (nat_eq_equiv.symm byte slash) ∙ ap (λ b. nat_eq slash byte || b) (slash_in-turned text)

neither : (a b : Bool) → (not a && not b) ≡ true → (a ≡ false) × (b ≡ false)
neither true b h = absurd (cc)
neither false true h = absurd (cc)
neither false false h = (refl, refl)

not_true : (b : Bool) → (b ≡ true → ⊥) → b ≡ false
not_true true h = absurd (h refl)
not_true false h = refl

one_part-IsName : (name : List ℕ) → IsUtf8 name → is_one_part name ≡ true → IsName name
unfolding slash_in
one_part-IsName name text part =
    let is = neither (nat_eq (length name) 0) (slash_in name) part in
    record {
      text = text;
      not_empty = λ e. let bad : true ≡ false = sym part ∙ ap is_one_part e in cc;
      one_part = λ h.
          let found = list_any-from_Contains nat_eq_equiv slash name h in
          let bad : true ≡ false = sym found ∙ sym (slash_in-turned name) ∙ is.1 in
          cc;
    }

IsName-one_part : (name : List ℕ) → IsName name → is_one_part name ≡ true
unfolding slash_in
IsName-one_part [] is = absurd (is.not_empty refl)
IsName-one_part (byte ∷ name) is =
    let none : slash_in (byte ∷ name) ≡ false =
    not_true _ (λ h. is.one_part (Contains-from_any (λ x y e. eqb-true x y e) slash (byte ∷ name) (sym (slash_in-turned (byte ∷ name)) ∙ h))) in
    ap (λ b. not b && not (slash_in (byte ∷ name))) (ne_eqb (length (byte ∷ name)) 0 (omega arith))
    ∙ ap (λ b. not b) none

-- what stands after a `/` in UTF-8 is UTF-8
rest_is_text : (folder path rest : List ℕ) → IsUtf8 path → path ≡ path_in folder rest → IsUtf8 rest
rest_is_text folder path rest text is =
    let under = lies folder path rest is in
    let low : get_or path (length folder) 0 < 128 = let at_end = under.at_end in omega arith in
    let after = IsUtf8-drop path (length folder + 1) text (IsCharBoundary-after_ascii path (length folder) text under.inside low) in
    subst IsUtf8 (ap (drop (length folder + 1)) is ∙ drop-append-add folder (slash ∷ rest) 1) after

pub names_are_names : {Z : Type 0} (entries : List (String Z × List ℕ)) (folder : List ℕ) → All IsName (names_under folder (paths_of entries))
names_are_names [] folder = All-nil IsName
names_are_names (e ∷ es) folder =
    let more = names_are_names es folder in
    elim (rest_under folder (string_bytes e.0)) as (λ r. rest_under folder (string_bytes e.0) ≡ r → All IsName (cons_option (one_part r) (names_under folder (paths_of es)))) [
      | None ↦ λ _. more
      | Some rest ↦ λ is. elim (is_one_part rest) as (λ b. is_one_part rest ≡ b → All IsName (cons_option (cond b (Some rest) None) (names_under folder (paths_of es)))) [
        | false ↦ λ _. more
        | true ↦ λ part.
            let text = rest_is_text folder (string_bytes e.0) rest (IsUtf8-string_bytes e.0) (path_in-rest_under folder (string_bytes e.0) rest is) in
            All-cons IsName rest _ (one_part-IsName rest text part) more
      ] refl
    ] refl

other_paths : {Z : Type 0} (key : String Z) (es : List (String Z × List ℕ)) → AllByRecursion (λ k. eq_by_cmp string_cmp key k ≡ false) (keys_of es) → AllByRecursion (λ path. bytes_eq (string_bytes key) path ≡ false) (paths_of es)
other_paths key [] differ = tt
other_paths key (e ∷ es) differ = (sym (is_eq-slice_cmp (string_bytes key) (string_bytes e.0)) ∙ differ.0, other_paths key es differ.1)

paths-differ : {Z : Type 0} (es : List (String Z × List ℕ)) → IsDistinct (eq_by_cmp string_cmp) (keys_of es) → IsDistinct bytes_eq (paths_of es)
unfolding IsDistinct
paths-differ [] distinct = tt
paths-differ (e ∷ es) distinct = (other_paths e.0 es distinct.0, paths-differ es distinct.1)

pub names_in_tree : {Z : Type 0} (entries : List (String Z × List ℕ)) (folder : List ℕ) → IsStrictlySortedBy string_cmp (keys_of entries) → AreNamesIn (tree_of entries) folder (names_under folder (paths_of entries))
names_in_tree entries folder sorted =
    let paths = paths_of entries in
    record {
      each_once = names-differ folder paths (paths-differ entries (IsDistinct-from_sorted string_cmp (keys_of entries) sorted));
      files = λ name is_in.
          let found = found_name folder paths name (list_any-from_Contains nat_list_eq_equiv name (names_under folder paths) is_in) in
          is_some-bytes_at entries (path_in folder name) ∙ found.1;
      all_files = λ name is_name has.
          Contains-from_any (λ x y e. (bytes_eq-Decides x y).0 e) name (names_under folder paths)
          (name_found folder paths name (IsName-one_part name is_name) (sym (is_some-bytes_at entries (path_in folder name)) ∙ has));
    }

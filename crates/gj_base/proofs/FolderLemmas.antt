-- What lies under a folder: the computed names and the names of the definition.
use Rattle.std.proofs.Common.{◌≡◌, ◌≢◌, ℕ, suc, ◌+◌, ◌<◌, Bool, true, false, cond, ◌&&◌, ◌||◌, List, [], ◌∷◌, ◌++◌, length, take, drop, get_or, nat_eq, Option, Some, None, is_some, refl, sym, ap, subst, ◌∙◌, arith, length-append, add-one, bytes_eq}
use Rattle.std.specs.List.{list_any, cons_option, IsDistinct, AllByRecursion}
use Rattle.std.proofs.lemmas.Bool.{eqb-true, eq-eqb, or_right}
use Rattle.std.proofs.lemmas.List.{take-append-drop}
use Rattle.std.proofs.Math.Seq.{drop-cons, take-append_seam, get_or-append_seam}
use Rattle.std.proofs.lemmas.Slice.Eq.{bytes_eq-Decides}
use Rattle.std.proofs.lemmas.Map.Keys.{IsDistinct-head, IsDistinct-tail, IsDistinct-cons}
use Rattle.gj_base.specs.Tree.{slash, path_in}
use Rattle.gj_base.specs.Folder.{rest_under, is_one_part, one_part, name_under, names_under, has_under}

-- ---- a path under a folder

pub rest_under-path_in : (folder rest : List ℕ) → rest_under folder (path_in folder rest) ≡ Some rest
rest_under-path_in [] rest = refl
rest_under-path_in (first ∷ folder) rest = rw (eq-eqb first first refl) (rest_under-path_in folder rest)

pub path_in-rest_under : (folder path rest : List ℕ) → rest_under folder path ≡ Some rest → path ≡ path_in folder rest
path_in-rest_under [] [] rest is = cc
path_in-rest_under [] (byte ∷ path) rest is =
    elim (nat_eq byte slash) as (λ b. nat_eq byte slash ≡ b → cond b (Some path) None ≡ Some rest → byte ∷ path ≡ slash ∷ rest) [
      | true ↦ λ e s. let same = eqb-true byte slash e in cc
      | false ↦ λ e s. cc
    ] refl is
path_in-rest_under (first ∷ folder) [] rest is = cc
path_in-rest_under (first ∷ folder) (byte ∷ path) rest is =
    elim (nat_eq first byte) as (λ b. nat_eq first byte ≡ b → cond b (rest_under folder path) None ≡ Some rest → byte ∷ path ≡ first ∷ path_in folder rest) [
      | true ↦ λ e s. let same = eqb-true first byte e in let rest_is = path_in-rest_under folder path rest s in cc
      | false ↦ λ e s. cc
    ] refl is

-- a path that isn't made so lies not under the folder
pub not_under : (folder path : List ℕ) → ((rest : List ℕ) → path ≢ path_in folder rest) → rest_under folder path ≡ None
not_under folder path apart =
    elim (rest_under folder path) as (λ r. rest_under folder path ≡ r → r ≡ None) [
      | None ↦ λ e. refl
      | Some rest ↦ λ e. absurd (apart rest (path_in-rest_under folder path rest e))
    ] refl

-- the folder, then a `/` at its length, then the rest
pub under_at : (folder path : List ℕ) → length folder < length path → get_or path (length folder) 0 ≡ slash → take (length folder) path ≡ folder → rest_under folder path ≡ Some (drop (length folder + 1) path)
under_at folder path inside at_end begins =
    let rest = drop (length folder + 1) path in
    let from_end : drop (length folder) path ≡ slash ∷ rest = rw (add-one, drop-cons path (length folder) 0) (ap (λ byte. byte ∷ drop (suc (length folder)) path) at_end) in
    let back : path ≡ path_in folder rest = sym (take-append-drop (length folder) path) ∙ ap (λ text. text ++ drop (length folder) path) begins ∙ ap (λ text. folder ++ text) from_end in
    ap (rest_under folder) back ∙ rest_under-path_in folder rest

pub record Lies (folder path : List ℕ) : Type 0 where
  pub inside : length folder < length path
  pub at_end : get_or path (length folder) 0 ≡ slash
  pub begins : take (length folder) path ≡ folder

pub lies : (folder path rest : List ℕ) → path ≡ path_in folder rest → Lies folder path
lies folder path rest is = subst (Lies folder) (sym is) (record { inside = omega (arith, length-append folder (slash ∷ rest)); at_end = get_or-append_seam folder slash rest 0; begins = take-append_seam folder (slash ∷ rest) })

bytes_eq-path_in : (folder x y : List ℕ) → bytes_eq (path_in folder x) (path_in folder y) ≡ bytes_eq x y
bytes_eq-path_in [] x y = refl
bytes_eq-path_in (first ∷ folder) x y = ap (λ b. b && bytes_eq (path_in folder x) (path_in folder y)) (eq-eqb first first refl) ∙ bytes_eq-path_in folder x y

-- ---- some path under a folder

-- a path that lies under the folder is among them
pub path-has_under : (folder : List ℕ) (paths : List (List ℕ)) → has_under folder paths ≡ true → (rest : List ℕ) × (list_any (bytes_eq (path_in folder rest)) paths ≡ true)
path-has_under folder [] has = absurd (cc)
path-has_under folder (path ∷ paths) has =
    elim (rest_under folder path) as (λ r. rest_under folder path ≡ r → (is_some r || has_under folder paths) ≡ true → (rest : List ℕ) × ((bytes_eq (path_in folder rest) path || list_any (bytes_eq (path_in folder rest)) paths) ≡ true)) [
      | None ↦ λ e h. let found = path-has_under folder paths h in (found.0, or_right _ _ found.1)
      | Some rest ↦ λ e h. (rest, ap (λ b. b || list_any (bytes_eq (path_in folder rest)) paths) ((bytes_eq-Decides (path_in folder rest) path).1 (sym (path_in-rest_under folder path rest e))))
    ] refl has

pub has_under-path : (folder : List ℕ) (paths : List (List ℕ)) (rest : List ℕ) → list_any (bytes_eq (path_in folder rest)) paths ≡ true → has_under folder paths ≡ true
has_under-path folder [] rest found = absurd (cc)
has_under-path folder (path ∷ paths) rest found =
    elim (bytes_eq (path_in folder rest) path) as (λ b. bytes_eq (path_in folder rest) path ≡ b → (b || list_any (bytes_eq (path_in folder rest)) paths) ≡ true → (is_some (rest_under folder path) || has_under folder paths) ≡ true) [
      | true ↦ λ e h.
          let is = (bytes_eq-Decides (path_in folder rest) path).0 e in
          ap (λ r. is_some r || has_under folder paths) (sym (ap (rest_under folder) is) ∙ rest_under-path_in folder rest)
      | false ↦ λ e h. or_right _ _ (has_under-path folder paths rest h)
    ] refl found

-- ---- the names directly under a folder

-- equal texts are one part alike
same_parts : (x y : List ℕ) → bytes_eq x y ≡ true → is_one_part x ≡ is_one_part y
same_parts x y e = ap is_one_part ((bytes_eq-Decides x y).0 e)

-- a name that is found stands in a path directly under the folder
pub found_name : (folder : List ℕ) (paths : List (List ℕ)) (name : List ℕ) → list_any (bytes_eq name) (names_under folder paths) ≡ true → (is_one_part name ≡ true) × (list_any (bytes_eq (path_in folder name)) paths ≡ true)
found_name folder [] name found = absurd (cc)
found_name folder (path ∷ paths) name found =
    let Goal : Type 0 = (is_one_part name ≡ true) × ((bytes_eq (path_in folder name) path || list_any (bytes_eq (path_in folder name)) paths) ≡ true) in
    let later : list_any (bytes_eq name) (names_under folder paths) ≡ true → Goal = λ h. let rest = found_name folder paths name h in (rest.0, or_right _ _ rest.1) in
    elim (rest_under folder path) as (λ r. rest_under folder path ≡ r → list_any (bytes_eq name) (cons_option (one_part r) (names_under folder paths)) ≡ true → Goal) [
      | None ↦ λ e h. later h
      | Some rest ↦ λ e. elim (is_one_part rest) as (λ b. is_one_part rest ≡ b → list_any (bytes_eq name) (cons_option (cond b (Some rest) None) (names_under folder paths)) ≡ true → Goal) [
        | false ↦ λ p h. later h
        | true ↦ λ p. elim (bytes_eq name rest) as (λ b. bytes_eq name rest ≡ b → (b || list_any (bytes_eq name) (names_under folder paths)) ≡ true → Goal) [
          | false ↦ λ q h. later h
          | true ↦ λ q h.
              let here : bytes_eq (path_in folder name) path ≡ true = ap (bytes_eq (path_in folder name)) (path_in-rest_under folder path rest e) ∙ bytes_eq-path_in folder name rest ∙ q in
              (same_parts name rest q ∙ p, ap (λ b. b || list_any (bytes_eq (path_in folder name)) paths) here)
        ] refl
      ] refl
    ] refl found

pub name_found : (folder : List ℕ) (paths : List (List ℕ)) (name : List ℕ) → is_one_part name ≡ true → list_any (bytes_eq (path_in folder name)) paths ≡ true → list_any (bytes_eq name) (names_under folder paths) ≡ true
name_found folder [] name part found = absurd (cc)
name_found folder (path ∷ paths) name part found =
    elim (bytes_eq (path_in folder name) path) as (λ b. bytes_eq (path_in folder name) path ≡ b → (b || list_any (bytes_eq (path_in folder name)) paths) ≡ true → list_any (bytes_eq name) (cons_option (name_under folder path) (names_under folder paths)) ≡ true) [
      | true ↦ λ e h.
          let is : name_under folder path ≡ Some name =
          ap one_part (ap (rest_under folder) (sym ((bytes_eq-Decides (path_in folder name) path).0 e)) ∙ rest_under-path_in folder name)
          ∙ ap (λ b. cond b (Some name) None) part in
          ap (λ o. list_any (bytes_eq name) (cons_option o (names_under folder paths))) is
          ∙ ap (λ b. b || list_any (bytes_eq name) (names_under folder paths)) ((bytes_eq-Decides name name).1 refl)
      | false ↦ λ e h. more_found (name_under folder path) (name_found folder paths name part h)
    ] refl found
  where
    more_found : (o : Option (List ℕ)) → list_any (bytes_eq name) (names_under folder paths) ≡ true → list_any (bytes_eq name) (cons_option o (names_under folder paths)) ≡ true
    more_found None h = h
    more_found (Some other) h = or_right _ _ h

-- where no test of a list holds, each fails, and back
each_fails : {X : Type 0} (p : X → Bool) (xs : List X) → list_any p xs ≡ false → AllByRecursion (λ x. p x ≡ false) xs
each_fails p [] none = tt
each_fails p (x ∷ xs) none =
    elim (p x) as (λ b. p x ≡ b → (b || list_any p xs) ≡ false → (p x ≡ false) × AllByRecursion (λ x. p x ≡ false) xs) [
      | true ↦ λ e h. absurd (cc)
      | false ↦ λ e h. (e, each_fails p xs h)
    ] refl none

none_holds : {X : Type 0} (p : X → Bool) (xs : List X) → AllByRecursion (λ x. p x ≡ false) xs → list_any p xs ≡ false
none_holds p [] fails = refl
none_holds p (x ∷ xs) fails = ap (λ b. b || list_any p xs) fails.0 ∙ none_holds p xs fails.1

-- paths that differ give names that differ
pub names-differ : (folder : List ℕ) (paths : List (List ℕ)) → IsDistinct bytes_eq paths → IsDistinct bytes_eq (names_under folder paths)
names-differ folder [] distinct = distinct
names-differ folder (path ∷ paths) distinct =
    let rest = names-differ folder paths (IsDistinct-tail bytes_eq path paths distinct) in
    elim (rest_under folder path) as (λ r. rest_under folder path ≡ r → IsDistinct bytes_eq (cons_option (one_part r) (names_under folder paths))) [
      | None ↦ λ e. rest
      | Some name ↦ λ e. elim (is_one_part name) as (λ b. IsDistinct bytes_eq (cons_option (cond b (Some name) None) (names_under folder paths))) [
        | false ↦ rest
        | true ↦
            IsDistinct-cons bytes_eq name _
            (each_fails (bytes_eq name) _ (not_true _ (λ found.
            let again = (found_name folder paths name found).1 in
            let alone = none_holds (bytes_eq path) paths (IsDistinct-head bytes_eq path paths distinct) in
            let is = path_in-rest_under folder path name e in
            absurd (true_not_false (sym again ∙ ap (λ p. list_any (bytes_eq p) paths) (sym is) ∙ alone)))))
            rest
      ]
    ] refl
  where
    true_not_false : true ≡ false → ⊥
    true_not_false e = cc

    not_true : (b : Bool) → (b ≡ true → ⊥) → b ≡ false
    not_true true h = absurd (h refl)
    not_true false h = refl

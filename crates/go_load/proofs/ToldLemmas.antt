-- What the tree tells of the folder, where it is told.
use Rattle.std.proofs.Common.{◌≡◌, ◌<◌, List, [], ◌∷◌, ℕ, length, refl, arith}
use Rattle.std.specs.Prelude.{Option, Some, None, IfSome, Contains, All}
use Rattle.std.proofs.lemmas.List.Elements.{All-contains, All-contains_itself, All-weaker}
use Rattle.std.specs.Cmp.Lexicographic.{nat_list_cmp_total}
use Rattle.std.proofs.lemmas.Map.Keys.{sorted_from_all_adjacent}
use Rattle.gj_base.specs.Tree.{Tree, bytes_at, path_in, IsName, HasFolder, AreNamesIn}
use Rattle.go_load.specs.GoFiles.{AreGoFiles}
use Rattle.go_load.specs.Names.{SortsGoNames}

-- a fact on the tree leads to another, where the tree is told
pub where_told : {P Q : Tree → Type 0} (o : Option Tree) → ((tree : Tree) → P tree → Q tree) → IfSome o P → IfSome o Q
where_told None f p = p
where_told (Some tree) f p = f tree p

-- the same with two facts
pub where_told_both : {P Q R : Tree → Type 0} (o : Option Tree) → ((tree : Tree) → P tree → Q tree → R tree) → IfSome o P → IfSome o Q → IfSome o R
where_told_both None f p q = p
where_told_both (Some tree) f p q = f tree p q

-- nothing is in an empty list
pub in_none : (name : List ℕ) → Contains [] name → ⊥
in_none name there = omega (arith, there.1)

-- where no path lies under the folder it has no `.go` file
pub empty_root : (tree : Tree) (folder : List ℕ) → (HasFolder tree folder → ⊥) → AreGoFiles tree folder []
empty_root tree folder none = record {
  rising = sorted_from_all_adjacent nat_list_cmp_total [] [] (λ k h. absurd (omega arith));
  files = λ name. ((λ there. absurd (in_none name there)), (λ file. absurd (none (name, file.there))));
}

-- the `.go` names among those of the folder's files are its `.go` files
pub go_files : (tree : Tree) (folder : List ℕ) (names go_names : List (List ℕ)) → All IsName names → AreNamesIn tree folder names → SortsGoNames names go_names → AreGoFiles tree folder go_names
go_files tree folder names go_names all are sorts = record {
  rising = sorts.rising;
  files = λ name. (
    (λ there. let both = (sorts.chosen name).0 there in record { name_fits = All-contains IsName names name all both.0; go_name = both.1; there = are.files name both.0 }),
    (λ file. (sorts.chosen name).1 (are.all_files name file.name_fits file.there, file.go_name)),
  );
}

-- the `.go` names are names
pub go_names_are_names : (names go_names : List (List ℕ)) → All IsName names → SortsGoNames names go_names → All IsName go_names
go_names_are_names names go_names all sorts =
    All-weaker (Contains go_names) IsName (λ name there. All-contains IsName names name all ((sorts.chosen name).0 there).0) go_names (All-contains_itself go_names)

use Rattle.std.proofs.Common.{◌≡◌, ℕ, List, ◌&&◌, ◌||◌, vec_len}
use Rattle.std.specs.Prelude.{bytes_eq}
use Rattle.std.specs.List.{list_any}
use Rattle.std.specs.BTreeSet.{contains}
use Rattle.std.specs.List.Sorted.{IsStrictlySortedBy}
use Rattle.std.specs.Ordering.{nat_cmp}
use Rattle.std.specs.Cmp.Lexicographic.{slice_cmp}
use Rattle.go_load.specs.GoFiles.{is_go_name}
use Rattle.go_load.proofs.names.sorted_go_names.Given as goal

abbrev pub invariant-loop-name : goal.invariant-loop-name
invariant-loop-name l = record {
  rising : IsStrictlySortedBy (slice_cmp nat_cmp) l.found.keys;
  chosen : (q : List ℕ) → (contains (slice_cmp nat_cmp) l.found q || (list_any (bytes_eq q) l.names.items && is_go_name q)) ≡ (list_any (bytes_eq q) l.initial.names.items && is_go_name q);
}

abbrev pub decreases-loop-name : goal.decreases-loop-name
decreases-loop-name l = vec_len l.names

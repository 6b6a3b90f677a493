-- Left sides and package variables, one after another.
use Rattle.std.proofs.Common.{◌≡◌, refl, ap, sym, ◌∙◌, arith, length, ℕ, ◌+◌, ◌<◌, ◌≤◌, List, [], ◌∷◌, drop, get_or}
use Rattle.std.proofs.lemmas.List.{drop_more, drop_all}
use Rattle.go_type.specs.Tree.{Ty}
use Rattle.go_core.specs.Assign.{target_operands, set_global_cells, global_weights}
use Rattle.go_core.specs.CoreTree as tree
use Rattle.go_core.specs.CoreTree.{CoreProgram}
use Rattle.go_core.specs.CoreView.{target_view}
use Rattle.go_core.specs.Memory as core
use Rattle.go_core.specs.Memory.{Value, with_written}
use Rattle.go_core.specs.StepMemory.{global_base}
use Rattle.go_core.specs.declared.statement.Target.{Target}
use Rattle.go_core.specs.declared.statement.Targets.{Targets}
use Rattle.go_state.specs.TasksSeen.{targets_from}
use Rattle.go_state.proofs.ListsLemmas.{targets_next, targets_end}

module _ (p : CoreProgram) (g : ℕ) where
  -- ---- operands of left sides

  one_first : (u : tree.Target) (us : List tree.Target) → target_operands p g (u ∷ us) ≡ target_operands p g (u ∷ []) + target_operands p g us
  one_first tree.blank us = omega arith
  one_first (tree.to_place t place) us = omega arith
  one_first (tree.to_entry t e key) us = omega arith

  module _ (ts : List Ty) (xs : Targets) where
    pub operands_step : (n : ℕ) (x : Target) (count count' k o : ℕ) → n < length xs.items.items → x ≡ get_or xs.items.items n x
        → k ≡ target_operands p g (target_view ts x ∷ []) → count' ≡ count + k
        → count + target_operands p g (targets_from ts xs n) ≡ o → count' + target_operands p g (targets_from ts xs (n + 1)) ≡ o
    operands_step n x count count' k o l e h c i =
        let next = ap (target_operands p g) (targets_next ts xs xs.items.items n x refl l e) in
        let one = one_first (target_view ts x) (targets_from ts xs (n + 1)) in
        omega (arith, next, one, h, c, i)

    pub operands_end : (n count o : ℕ) → length xs.items.items ≤ n → count + target_operands p g (targets_from ts xs n) ≡ o → count ≡ o
    operands_end n count o l i =
        let none = ap (target_operands p g) (targets_end ts xs xs.items.items n refl l) in omega (arith, none, i)

  -- ---- package variables

  weight_first : (n : ℕ) (ns : List ℕ) → global_weights p g (n ∷ ns) ≡ global_weights p g (n ∷ []) + global_weights p g ns
  weight_first n ns = omega arith

  module _ (ns : List ℕ) where
    next_number : (i n d : ℕ) → i < length ns → n ≡ get_or ns i d → drop i ns ≡ n ∷ drop (i + 1) ns
    next_number i n d l e = drop_more ns i d l ∙ ap (λ (k : ℕ). k ∷ drop (i + 1) ns) (sym e)

    pub weights_step : (i n d before one after all : ℕ) → i < length ns → n ≡ get_or ns i d → one ≡ global_weights p g (n ∷ []) → after ≡ before + one
        → before + global_weights p g (drop i ns) ≡ all → after + global_weights p g (drop (i + 1) ns) ≡ all
    weights_step i n d before one after all l e h c k =
        let next = ap (global_weights p g) (next_number i n d l e) in
        let first = weight_first n (drop (i + 1) ns) in
        omega (arith, next, first, h, c, k)

    pub weights_end : (i before all : ℕ) → length ns ≤ i → before + global_weights p g (drop i ns) ≡ all → before ≡ all
    weights_end i before all l k = let none = ap (global_weights p g) (drop_all i ns l) in omega (arith, none, k)

    module _ (xs : List Value) (all : core.Memory) where
      pub cells_step : (i n d : ℕ) (x : Value) (m m' : core.Memory) → i < length ns → n ≡ get_or ns i d → drop i xs ≡ x ∷ drop (i + 1) xs
          → m' ≡ with_written m (global_base p.names p.globals n) x
          → set_global_cells p g (drop i ns) (drop i xs) m ≡ all → set_global_cells p g (drop (i + 1) ns) (drop (i + 1) xs) m' ≡ all
      cells_step i n d x m m' l e h w k =
          ap (set_global_cells p g (drop (i + 1) ns) (drop (i + 1) xs)) w
          ∙ sym (ap (λ (ys : List Value). set_global_cells p g (n ∷ drop (i + 1) ns) ys m) h)
          ∙ sym (ap (λ (us : List ℕ). set_global_cells p g us (drop i xs) m) (next_number i n d l e))
          ∙ k

      none_set : (us : List ℕ) (m : core.Memory) → set_global_cells p g us [] m ≡ m
      none_set [] m = refl
      none_set (u ∷ us) m = refl

      pub cells_out : (i : ℕ) (m : core.Memory) → length xs ≤ i → set_global_cells p g (drop i ns) (drop i xs) m ≡ all → m ≡ all
      cells_out i m l k = sym (none_set (drop i ns) m) ∙ sym (ap (λ (ys : List Value). set_global_cells p g (drop i ns) ys m) (drop_all i xs l)) ∙ k

      pub cells_end : (i : ℕ) (m : core.Memory) → length ns ≤ i → set_global_cells p g (drop i ns) (drop i xs) m ≡ all → m ≡ all
      cells_end i m l k = sym (ap (λ (us : List ℕ). set_global_cells p g us (drop i xs) m) (drop_all i ns l)) ∙ k

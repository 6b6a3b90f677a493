-- How many values there are, one after another.
use Rattle.std.proofs.Common.{◌≡◌, refl, ap, ◌∙◌, arith, ℕ, suc, ◌+◌, ◌<◌, ◌≤◌, List, [], ◌∷◌, length, get_or, map}
use Rattle.go_type.specs.Tree.{Ty}
use Rattle.go_type.specs.Levels.{trees_of}
use Rattle.go_type.specs.declared.types.TypeId.{TypeId}
use Rattle.go_core.specs.Opened as opened
use Rattle.go_core.specs.Opened.{type_count, pair_count}
use Rattle.go_core.specs.CoreView.{expr_view, communication_view, pairs_of}
use Rattle.go_core.specs.declared.node.CoreExpr.{CoreExpr}
use Rattle.go_core.specs.declared.node.CoreExprs.{CoreExprs, out-CoreExprs}
use Rattle.go_core.specs.declared.node.CorePair.{CorePair}
use Rattle.go_core.specs.declared.node.CorePairs.{CorePairs, out-CorePairs}
use Rattle.go_core.specs.declared.statement.CoreCase.{CoreCase, out-CoreCase}
use Rattle.go_core.specs.declared.statement.CoreCases.{CoreCases, out-CoreCases}
use Rattle.go_state.specs.TasksSeen.{exprs_from, cases_from, pairs_view, pair_view}
use Rattle.go_state.proofs.ListsLemmas.{exprs_next, exprs_end, cases_next, cases_end, pairs_whole, pair_is}

pub types_counted : (ts : List Ty) (is : List TypeId) → type_count (trees_of ts is) ≡ length is
types_counted ts [] = refl
types_counted ts (i ∷ is) = ap suc (types_counted ts is)

module _ (ts : List Ty) where
  pub values_step : (es : CoreExprs) (n : ℕ) (x : CoreExpr) (count count' k o : ℕ) → n < length (out-CoreExprs es).items.items → x ≡ get_or (out-CoreExprs es).items.items n x
      → k ≡ opened.value_count (expr_view ts x) → count' ≡ count + k → count + opened.values_of (exprs_from ts es n) ≡ o → count' + opened.values_of (exprs_from ts es (n + 1)) ≡ o
  values_step es n x count count' k o l e h c i =
      let next = ap opened.values_of (exprs_next ts es (out-CoreExprs es).items.items n x refl l e) in omega (arith, next, h, c, i)

  pub values_end : (es : CoreExprs) (n count o : ℕ) → length (out-CoreExprs es).items.items ≤ n → count + opened.values_of (exprs_from ts es n) ≡ o → count ≡ o
  values_end es n count o l i =
      let none = ap opened.values_of (exprs_end ts es (out-CoreExprs es).items.items n refl l) in omega (arith, none, i)

  pub cases_step : (cs : CoreCases) (n : ℕ) (x : CoreCase) (count count' k o : ℕ) → n < length (out-CoreCases cs).items.items → x ≡ get_or (out-CoreCases cs).items.items n x
      → k ≡ opened.communication_count (communication_view ts (out-CoreCase x).communication) → count' ≡ count + k
      → count + opened.cases_count (cases_from ts cs n) ≡ o → count' + opened.cases_count (cases_from ts cs (n + 1)) ≡ o
  cases_step cs n x count count' k o l e h c i =
      let next = ap opened.cases_count (cases_next ts cs (out-CoreCases cs).items.items n x refl l e) in omega (arith, next, h, c, i)

  pub cases_done : (cs : CoreCases) (n count o : ℕ) → length (out-CoreCases cs).items.items ≤ n → count + opened.cases_count (cases_from ts cs n) ≡ o → count ≡ o
  cases_done cs n count o l i =
      let none = ap opened.cases_count (cases_end ts cs (out-CoreCases cs).items.items n refl l) in omega (arith, none, i)

pub pairs_counted : (ts : List Ty) (ps : CorePairs) → pair_count (pairs_view ts ps) ≡ length (out-CorePairs ps).items.items
pairs_counted ts ps = ap pair_count (pairs_whole ts ps) ∙ listed (out-CorePairs ps).items.items
  where
    listed : (xs : List CorePair) → pair_count (pairs_of (map (pair_view ts) xs)) ≡ length xs
    listed [] = refl
    listed (x ∷ xs) = ap pair_count (pair_is ts x (pairs_of (map (pair_view ts) xs))) ∙ ap suc (listed xs)

-- The places of the elements of a literal, one after another.
use Rattle.std.proofs.Common.{◌≡◌, refl, ap, sym, ◌∙◌, ℕ, ◌+◌, ◌<◌, ◌≤◌, List, [], ◌∷◌, ◌++◌, length, get_or, append_assoc}
use Rattle.std.proofs.lemmas.List.{append-nil}
use Rattle.go_type.specs.Tree.{Ty}
use Rattle.go_core.specs.CoreTree.{Elements}
use Rattle.go_core.specs.Opened.{indexes_of}
use Rattle.go_core.specs.declared.node.CoreElement.{CoreElement, out-CoreElement}
use Rattle.go_core.specs.declared.node.CoreElements.{CoreElements, out-CoreElements}
use Rattle.go_state.specs.TasksSeen.{elements_from}
use Rattle.go_state.proofs.ListsLemmas.{elements_next, elements_end}

module _ (ts : List Ty) (es : CoreElements) where
  pub indexes_step : (i : ℕ) (x : CoreElement) (found found' o : List ℕ) → i < length (out-CoreElements es).items.items → x ≡ get_or (out-CoreElements es).items.items i x
      → found' ≡ found ++ (out-CoreElement x).index ∷ [] → found ++ indexes_of (elements_from ts es i) ≡ o → found' ++ indexes_of (elements_from ts es (i + 1)) ≡ o
  indexes_step i x found found' o l e h k =
      ap (λ (is : List ℕ). is ++ indexes_of (elements_from ts es (i + 1))) h
      ∙ append_assoc found ((out-CoreElement x).index ∷ []) (indexes_of (elements_from ts es (i + 1)))
      ∙ sym (ap (λ (xs : Elements). found ++ indexes_of xs) (elements_next ts es (out-CoreElements es).items.items i x refl l e))
      ∙ k

  pub indexes_end : (i : ℕ) (found o : List ℕ) → length (out-CoreElements es).items.items ≤ i → found ++ indexes_of (elements_from ts es i) ≡ o → found ≡ o
  indexes_end i found o l k =
      sym (append-nil found) ∙ sym (ap (λ (xs : Elements). found ++ indexes_of xs) (elements_end ts es (out-CoreElements es).items.items i refl l)) ∙ k

-- Births and entries, one after another.
use Rattle.std.proofs.Common.{sym, ap, ◌∙◌, ◌+◌}
use Rattle.std.specs.Prelude.{◌≡◌, ◌≤◌, ◌==◌, ◌&&◌, ◌||◌, not, nat_le, if◌then◌else◌, ℕ, List, ◌∷◌, Bool, true, false, length, drop, Option, Some, None}
use Rattle.std.proofs.lemmas.List.{drop_all}
use Rattle.go_core.specs.CoreTree.{CoreProgram}
use Rattle.go_core.specs.Memory.{Entry}
use Rattle.go_core.specs.Control.{is_in, entry_born, all_produced}

module _ (p : CoreProgram) (g : ℕ) where
  -- ---- births

  pub in_step : (n : ℕ) (xs : List ℕ) (i y : ℕ) (b : Bool) → drop i xs ≡ y ∷ drop (i + 1) xs → (n == y) ≡ false → is_in p g n (drop i xs) ≡ b → is_in p g n (drop (i + 1) xs) ≡ b
  in_step n xs i y b d h k =
      let more = is_in p g n (drop (i + 1) xs) in
      sym (ap (λ (c : Bool). c || more) h) ∙ sym (ap (is_in p g n) d) ∙ k

  pub in_found : (n : ℕ) (xs : List ℕ) (i y : ℕ) (b : Bool) → drop i xs ≡ y ∷ drop (i + 1) xs → (n == y) ≡ true → is_in p g n (drop i xs) ≡ b → true ≡ b
  in_found n xs i y b d h k =
      let more = is_in p g n (drop (i + 1) xs) in
      sym (ap (λ (c : Bool). c || more) h) ∙ sym (ap (is_in p g n) d) ∙ k

  pub in_end : (n : ℕ) (xs : List ℕ) (i : ℕ) (b : Bool) → length xs ≤ i → is_in p g n (drop i xs) ≡ b → false ≡ b
  in_end n xs i b h k = sym (ap (is_in p g n) (drop_all i xs h)) ∙ k

  -- ---- an entry of a birth

  module _ (birth : ℕ) (produced : List ℕ) where
    pub born_step : (es : List Entry) (i : ℕ) (e : Entry) (o : Option Entry) → drop i es ≡ e ∷ drop (i + 1) es → ((e.birth == birth) && not (is_in p g birth produced)) ≡ false
        → entry_born p g birth produced (drop i es) ≡ o → entry_born p g birth produced (drop (i + 1) es) ≡ o
    born_step es i e o d h k =
        let more = entry_born p g birth produced (drop (i + 1) es) in
        sym (ap (λ (c : Bool). if c then Some e else more) h) ∙ sym (ap (entry_born p g birth produced) d) ∙ k

    pub born_found : (es : List Entry) (i : ℕ) (e : Entry) (o : Option Entry) → drop i es ≡ e ∷ drop (i + 1) es → ((e.birth == birth) && not (is_in p g birth produced)) ≡ true
        → entry_born p g birth produced (drop i es) ≡ o → Some e ≡ o
    born_found es i e o d h k =
        let more = entry_born p g birth produced (drop (i + 1) es) in
        sym (ap (λ (c : Bool). if c then Some e else more) h) ∙ sym (ap (entry_born p g birth produced) d) ∙ k

    pub born_end : (es : List Entry) (i : ℕ) (o : Option Entry) → length es ≤ i → entry_born p g birth produced (drop i es) ≡ o → None ≡ o
    born_end es i o h k = sym (ap (entry_born p g birth produced) (drop_all i es h)) ∙ k

  -- ---- entries that were produced

  module _ (produced : List ℕ) (since : ℕ) where
    pub produced_step : (es : List Entry) (i : ℕ) (e : Entry) (b : Bool) → drop i es ≡ e ∷ drop (i + 1) es → (is_in p g e.birth produced || nat_le since e.birth) ≡ true
        → all_produced p g produced since (drop i es) ≡ b → all_produced p g produced since (drop (i + 1) es) ≡ b
    produced_step es i e b d h k =
        let more = all_produced p g produced since (drop (i + 1) es) in
        sym (ap (λ (c : Bool). c && more) h) ∙ sym (ap (all_produced p g produced since) d) ∙ k

    pub produced_lacks : (es : List Entry) (i : ℕ) (e : Entry) (b : Bool) → drop i es ≡ e ∷ drop (i + 1) es → (is_in p g e.birth produced || nat_le since e.birth) ≡ false
        → all_produced p g produced since (drop i es) ≡ b → false ≡ b
    produced_lacks es i e b d h k =
        let more = all_produced p g produced since (drop (i + 1) es) in
        sym (ap (λ (c : Bool). c && more) h) ∙ sym (ap (all_produced p g produced since) d) ∙ k

    pub produced_end : (es : List Entry) (i : ℕ) (b : Bool) → length es ≤ i → all_produced p g produced since (drop i es) ≡ b → true ≡ b
    produced_end es i b h k = sym (ap (all_produced p g produced since) (drop_all i es h)) ∙ k

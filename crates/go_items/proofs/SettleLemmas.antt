-- A scope in which a name is settled, or isn't, and the rows.
use Rattle.std.proofs.Common.{arith, ◌≡◌, ◌+◌, ◌∙◌, ℕ, List, [], sym, subst, ap, inl, false, true}
use Rattle.std.specs.Prelude.{Some, refl}
use Rattle.go_walk.specs.SetsHas.{number_of}
use Rattle.go_walk.specs.declared.sets.numbers.NameMap.{NameMap}
use Rattle.go_typing.specs.Env.{Decl, Bind, is_blank}
use Rattle.go_typing.specs.Scopes.{Env, settled}
use Rattle.go_typing.specs.Items.{Item, name_of}
use Rattle.go_typing.specs.Known.{decl_of}
use Rattle.go_items.specs.Leads.{number_from}
use Rattle.go_sound.specs.Rows.{Row, items_in, known_by, binds_by, one_typed}
use Rattle.go_items.specs.Stands.{Stands, IsRow, AreNumbers}
use Rattle.go_items.proofs.BindLemmas.{first_settled, later_kept, another_kept}
use Rattle.go_items.proofs.StandLemmas.{settles}

module _ (i : Item) (rs : List Row) (n : ℕ) (e : Env) (stands : Stands (known_by rs) e) (is_row : IsRow rs n i) where
  -- the scope after it
  abbrev Settled : Env → Type 0
  Settled f = Stands (record (known_by rs) { binds = binds_by (one_typed n rs) [] }) f

  stays : binds_by (one_typed n rs) [] ≡ binds_by rs [] → Settled e
  stays h = subst (λ (bs : List Bind). Stands (record (known_by rs) { binds = bs }) e) (sym h) stands

  pub settled_blank : is_blank (name_of i).text ≡ true → Settled e
  settled_blank b = stays (later_kept (known_by rs) i rs n [] is_row (inl b))

  module _ (numbers : NameMap) (are : AreNumbers numbers rs) where
    from_number : number_of (name_of i).text numbers ≡ Some n → number_from 0 (name_of i).text (items_in rs) ≡ Some (0 + n)
    from_number h = sym (are (name_of i).text) ∙ h ∙ (let q : n ≡ 0 + n = omega arith in ap (λ (j : ℕ). Some j) q)

    to_number : number_from 0 (name_of i).text (items_in rs) ≡ Some (0 + n) → number_of (name_of i).text numbers ≡ Some n
    to_number h = are (name_of i).text ∙ h ∙ (let q : 0 + n ≡ n = omega arith in ap (λ (j : ℕ). Some j) q)

    pub settled_later : (number_of (name_of i).text numbers ≡ Some n → ⊥) → Settled e
    settled_later h = stays (another_kept (known_by rs) i rs n 0 [] is_row (λ q. h (to_number q)))

    pub settled_first : is_blank (name_of i).text ≡ false → number_of (name_of i).text numbers ≡ Some n → (d : Decl) → d ≡ decl_of (known_by rs) i → (f : Env) → f ≡ settled (name_of i).text d e → Settled f
    settled_first b h d q f g =
        subst Settled (sym (g ∙ ap (λ (c : Decl). settled (name_of i).text c e) q))
        (subst (λ (bs : List Bind). Stands (record (known_by rs) { binds = bs }) (settled (name_of i).text (decl_of (known_by rs) i) e)) (sym (first_settled (known_by rs) i rs n 0 [] is_row b refl (from_number h)))
        (settles (known_by rs) e (name_of i).text (decl_of (known_by rs) i) stands))

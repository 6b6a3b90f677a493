-- What is told of the names of a package's scope, by a set of those that stood before.
use Rattle.std.proofs.Common.{◌≡◌, ◌∙◌, ℕ, refl, sym, ap, subst, List, [], ◌∷◌, ◌++◌, append_assoc, Bool, true, false, ◌||◌, if◌then◌else◌, Option, Some, None, bytes_eq}
use Rattle.std.proofs.lemmas.List.{append-nil}
use Rattle.gj_base.specs.declared.place.Place.{Place}
use Rattle.go_syntax.specs.declared.tree.Name.{Name}
use Rattle.go_typing.specs.Answer.{Flaw}
use Rattle.go_typing.specs.Env.{Bind, is_blank, unknown}
use Rattle.go_typing.specs.Scopes.{place_in}
use Rattle.go_typing.specs.Walk.{bind_of, redeclared}
use Rattle.go_typing.specs.Items.{Item, constant_item, type_item, alias_item, function_item, variable_item, init_item, name_of}
use Rattle.go_typing.specs.Known.{bound_at, with_item}
use Rattle.go_typing.specs.Told.{init_told, names_told}
use Rattle.go_walk.specs.SetsHas.{has_name}
use Rattle.go_walk.specs.declared.sets.names.NameSet.{NameSet}
use Rattle.go_decls.specs.Seen.{is_placed, HasNames}
use Rattle.go_decls.proofs.ParamsNameLemmas.{turned, swapped, placed_more, is_none, placed}
use Rattle.go_decls.specs.Stood.{again, stood}

-- ---- one name

module _ (n : Name) (bs : List Bind) where
  again_blank : is_blank n.text ≡ true → again n bs ≡ []
  again_blank on = ap (λ (b : Bool). if b then [] else redeclared n (place_in n.text bs)) on

  again_by : (o : Option Place) → is_blank n.text ≡ false → place_in n.text bs ≡ o → again n bs ≡ redeclared n o
  again_by o off h = ap (λ (b : Bool). if b then [] else redeclared n (place_in n.text bs)) off ∙ ap (redeclared n) h

  with_blank : is_blank n.text ≡ true → with_item n unknown bs ≡ bs
  with_blank on = ap (λ (b : Bool). if b then bs else bound_at (bind_of n unknown) (place_in n.text bs) bs) on

  with_by : (o : Option Place) → is_blank n.text ≡ false → place_in n.text bs ≡ o → with_item n unknown bs ≡ bound_at (bind_of n unknown) o bs
  with_by o off h = ap (λ (b : Bool). if b then bs else bound_at (bind_of n unknown) (place_in n.text bs) bs) off ∙ ap (λ (p : Option Place). bound_at (bind_of n unknown) p bs) h

  pub told_blank : (fs : List Flaw) → is_blank n.text ≡ true → fs ≡ fs ++ again n bs
  told_blank fs on = sym (append-nil fs) ∙ sym (ap (λ (gs : List Flaw). fs ++ gs) (again_blank on))

  pub seen_blank : (set : NameSet) → is_blank n.text ≡ true → HasNames set bs → HasNames set (with_item n unknown bs)
  seen_blank set on h = subst (HasNames set) (sym (with_blank on)) h

  there_by : (set : NameSet) (b : Bool) → is_blank n.text ≡ false → has_name n.text set ≡ b → HasNames set bs → is_placed (place_in n.text bs) ≡ b
  there_by set b off q h = sym (h n.text off) ∙ q

  pub told_stood : (old new : List Flaw) (set : NameSet) → is_blank n.text ≡ false → has_name n.text set ≡ true → HasNames set bs → new ≡ old ++ record { place = n.place; code = 82; name = n.text } ∷ [] → new ≡ old ++ again n bs
  told_stood old new set off q h e = let p = placed (place_in n.text bs) (there_by set true off q h) in e ∙ sym (ap (λ (gs : List Flaw). old ++ gs) (again_by (Some p.0) off p.1))

  pub seen_stood : (set : NameSet) → is_blank n.text ≡ false → has_name n.text set ≡ true → HasNames set bs → HasNames set (with_item n unknown bs)
  seen_stood set off q h = let p = placed (place_in n.text bs) (there_by set true off q h) in subst (HasNames set) (sym (with_by (Some p.0) off p.1)) h

  pub told_free : (fs : List Flaw) (set : NameSet) → is_blank n.text ≡ false → has_name n.text set ≡ false → HasNames set bs → fs ≡ fs ++ again n bs
  told_free fs set off q h = sym (append-nil fs) ∙ sym (ap (λ (gs : List Flaw). fs ++ gs) (again_by None off (is_none (place_in n.text bs) (there_by set false off q h))))

  pub seen_free : (old new : NameSet) → is_blank n.text ≡ false → has_name n.text old ≡ false → ((y : List ℕ) → has_name y new ≡ (bytes_eq y n.text || has_name y old)) → HasNames old bs → HasNames new (with_item n unknown bs)
  seen_free old new off q f h = λ x b.
      let now : with_item n unknown bs ≡ bs ++ bind_of n unknown ∷ [] = with_by None off (is_none (place_in n.text bs) (there_by old false off q h)) in
      f x ∙ ap (λ (t : Bool). t || has_name x old) (turned x n.text) ∙ ap (λ (t : Bool). bytes_eq n.text x || t) (h x b) ∙ swapped (bytes_eq n.text x) (is_placed (place_in x bs))
      ∙ sym (ap (λ (cs : List Bind). is_placed (place_in x cs)) now ∙ placed_more x bs (bind_of n unknown))

-- ---- one declaration

joined : (old new : List Flaw) (as_ cs later : List Flaw) → new ≡ old ++ as_ ++ cs → new ++ later ≡ old ++ (as_ ++ cs ++ later)
joined old new as_ cs later h = ap (λ (fs : List Flaw). fs ++ later) (h ∙ append_assoc old as_ cs) ∙ append_assoc old (as_ ++ cs) later

abbrev pub declares : Item → Bool
declares (init_item n) = false
declares (constant_item n k u y all) = true
declares (type_item n k e) = true
declares (alias_item n e) = true
declares (function_item n id s) = true
declares (variable_item n) = true

pub item_told : (i : Item) (n : Name) (bs : List Bind) (rest : List Item) (old new : List Flaw) → n ≡ name_of i → declares i ≡ true → new ≡ old ++ again n bs ++ init_told n → new ++ names_told (stood i bs) rest ≡ old ++ names_told bs (i ∷ rest)
item_told (constant_item m k u y all) n bs rest old new q x h = joined old new (again m bs) (init_told m) (names_told (with_item m unknown bs) rest) (subst (λ (a : Name). new ≡ old ++ again a bs ++ init_told a) q h)
item_told (type_item m k e) n bs rest old new q x h = joined old new (again m bs) (init_told m) (names_told (with_item m unknown bs) rest) (subst (λ (a : Name). new ≡ old ++ again a bs ++ init_told a) q h)
item_told (alias_item m e) n bs rest old new q x h = joined old new (again m bs) (init_told m) (names_told (with_item m unknown bs) rest) (subst (λ (a : Name). new ≡ old ++ again a bs ++ init_told a) q h)
item_told (function_item m id s) n bs rest old new q x h = joined old new (again m bs) (init_told m) (names_told (with_item m unknown bs) rest) (subst (λ (a : Name). new ≡ old ++ again a bs ++ init_told a) q h)
item_told (variable_item m) n bs rest old new q x h = joined old new (again m bs) (init_told m) (names_told (with_item m unknown bs) rest) (subst (λ (a : Name). new ≡ old ++ again a bs ++ init_told a) q h)
item_told (init_item m) n bs rest old new q x h = let e : false ≡ true = x in absurd (cc)

-- ---- all

pub record Left (rest all : List Item) (before now : List Flaw) (set : NameSet) : Type 0 where
  pub scope : List Bind
  pub names : HasNames set scope
  pub told : now ++ names_told scope rest ≡ before ++ names_told [] all

pub left_first : (all : List Item) (fs : List Flaw) (set : NameSet) → ((y : List ℕ) → has_name y set ≡ false) → Left all all fs fs set
left_first all fs set h = record { scope = []; names = λ x b. h x; told = refl }

pub left_step : (i : Item) (rest all : List Item) (before now next : List Flaw) (old new : NameSet) → ((bs : List Bind) (js : List Item) → HasNames old bs → next ++ names_told (stood i bs) js ≡ now ++ names_told bs (i ∷ js))
    → ((bs : List Bind) → HasNames old bs → HasNames new (stood i bs)) → Left (i ∷ rest) all before now old → Left rest all before next new
left_step i rest all before now next old new f g h = record { scope = stood i h.scope; names = g h.scope h.names; told = f h.scope rest h.names ∙ h.told }

pub left_last : (all : List Item) (before now : List Flaw) (set : NameSet) → Left [] all before now set → now ≡ before ++ names_told [] all
left_last all before now set h = sym (append-nil now) ∙ h.told

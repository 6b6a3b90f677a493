-- In a package of which nothing is told each name is typed.
use Rattle.std.proofs.Common.{◌≡◌, ◌⊎◌, inl, inr, ℕ, List, [], ◌∷◌, ◌++◌, refl, sym, subst, ap, ◌∙◌, Bool, true, false, Option, Some, None, option_map, if◌then◌else◌, bytes_eq}
use Rattle.gj_base.specs.declared.place.Place.{Place}
use Rattle.go_syntax.specs.Tree as t
use Rattle.go_syntax.specs.declared.tree.Name.{Name}
use Rattle.go_core.proofs.SameTypeLemmas.{bytes_one}
use Rattle.go_typing.specs.Env.{Decl, unknown, Bind, find, lookup, or_in, universe, is_blank}
use Rattle.go_typing.specs.Answer.{Flaw}
use Rattle.go_typing.specs.Scopes.{place_in}
use Rattle.go_typing.specs.Walk.{bind_of}
use Rattle.go_typing.specs.Items.{Item, items_of, name_of}
use Rattle.go_typing.specs.Known.{Known, outside, decl_of, bound_at, with_item}
use Rattle.go_typing.specs.Cycles.{needs_of, is_among, cycle_flaws}
use Rattle.go_typing.specs.Told.{decls_told, names_told}
use Rattle.go_typing.specs.Checked.{known_in, functions_in, count_functions, or_generated, told}
use Rattle.go_sound.specs.Lost.{NothingUnknown}
use Rattle.go_sound.proofs.KnownWords.{AllItems, fill, binds_filled}
use Rattle.go_sound.proofs.RoundsEnd.{is_unknown, is_fixed}
use Rattle.go_sound.specs.Grammar.{DeclsOfGrammar}
use Rattle.go_sound.specs.SoundPrograms.{EachNameIsTyped}
use Rattle.go_sound.proofs.Words.{one_of_four, two_of_four, three_of_four, four_of_four}
use Rattle.go_sound.proofs.Circles.{first_named, Needs, needs_first, none_unknown}
use Rattle.go_sound.proofs.Needed.{NoneUnknown, either_unknown}
use Rattle.go_sound.proofs.Items.{ItemFine, universe_of, items_fine, item_known}

-- ---- what is told, part by part

generated_none : (n : ℕ) (fs : List Flaw) → or_generated n fs ≡ [] → fs ≡ []
generated_none n [] h = refl
generated_none n (f ∷ fs) h = cc

module _ (ds : List t.Decl) (untold : told ds ≡ []) where
  abbrev k : Known
  k = known_in ds

  all_parts : names_told [] (items_of ds) ++ cycle_flaws k.binds (items_of ds) ++ decls_told (outside k) ds ++ (functions_in k ds).flaws ≡ []
  all_parts = generated_none (count_functions ds) (names_told [] (items_of ds) ++ cycle_flaws k.binds (items_of ds) ++ decls_told (outside k) ds ++ (functions_in k ds).flaws) untold

  pub no_names_told : names_told [] (items_of ds) ≡ []
  no_names_told = one_of_four (names_told [] (items_of ds)) (cycle_flaws k.binds (items_of ds)) (decls_told (outside k) ds) (functions_in k ds).flaws all_parts

  pub no_cycles_told : cycle_flaws (known_in ds).binds (items_of ds) ≡ []
  no_cycles_told = two_of_four (names_told [] (items_of ds)) (cycle_flaws k.binds (items_of ds)) (decls_told (outside k) ds) (functions_in k ds).flaws all_parts

  pub no_decls_told : decls_told (outside (known_in ds)) ds ≡ []
  no_decls_told = three_of_four (names_told [] (items_of ds)) (cycle_flaws k.binds (items_of ds)) (decls_told (outside k) ds) (functions_in k ds).flaws all_parts

  pub no_bodies_told : (functions_in (known_in ds) ds).flaws ≡ []
  no_bodies_told = four_of_four (names_told [] (items_of ds)) (cycle_flaws k.binds (items_of ds)) (decls_told (outside k) ds) (functions_in k ds).flaws all_parts

-- ---- names in a scope that declarations fill

place_none : (x : List ℕ) (bs : List Bind) → find x bs ≡ None → place_in x bs ≡ None
place_none x [] h = refl
place_none x (b ∷ bs) h = by_test (λ e. place_none x bs e) (bytes_eq b.name x) h
  where
    by_test : (find x bs ≡ None → place_in x bs ≡ None) → (c : Bool) → (if c then Some b.what else find x bs) ≡ None → (if c then Some b.place else place_in x bs) ≡ None
    by_test f true e = cc
    by_test f false e = f e

find_kept : (x : List ℕ) (bs : List Bind) (b : Bind) (d : Decl) → find x bs ≡ Some d → find x (bs ++ b ∷ []) ≡ Some d
find_kept x [] b d h = let e : None ≡ Some d = h in cc
find_kept x (c ∷ bs) b d h = by_test (λ e. find_kept x bs b d e) (bytes_eq c.name x) h
  where
    by_test : (find x bs ≡ Some d → find x (bs ++ b ∷ []) ≡ Some d) → (u : Bool) → (if u then Some c.what else find x bs) ≡ Some d → (if u then Some c.what else find x (bs ++ b ∷ [])) ≡ Some d
    by_test f true e = e
    by_test f false e = f e

find_last : (x : List ℕ) (bs : List Bind) (b : Bind) → find x bs ≡ None → bytes_eq b.name x ≡ true → find x (bs ++ b ∷ []) ≡ Some b.what
find_last x [] b h e = ap (λ (u : Bool). if u then Some b.what else None) e
find_last x (c ∷ bs) b h e = by_test (λ g. find_last x bs b g e) (bytes_eq c.name x) h
  where
    by_test : (find x bs ≡ None → find x (bs ++ b ∷ []) ≡ Some b.what) → (u : Bool) → (if u then Some c.what else find x bs) ≡ None → (if u then Some c.what else find x (bs ++ b ∷ [])) ≡ Some b.what
    by_test f true g = cc
    by_test f false g = f g

find_other : (x : List ℕ) (bs : List Bind) (b : Bind) → bytes_eq b.name x ≡ false → find x (bs ++ b ∷ []) ≡ find x bs
find_other x [] b e = ap (λ (u : Bool). if u then Some b.what else None) e
find_other x (c ∷ bs) b e = ap (λ (o : Option Decl). if bytes_eq c.name x then Some c.what else o) (find_other x bs b e)

module _ (f : Item → Decl) where
  item_kept : (x : List ℕ) (n : Name) (d e : Decl) (bs : List Bind) → find x bs ≡ Some d → find x (with_item n e bs) ≡ Some d
  item_kept x n d e bs h = by_test (is_blank n.text) (place_in n.text bs)
    where
      by_test : (b : Bool) (o : Option Place) → find x (if b then bs else bound_at (bind_of n e) o bs) ≡ Some d
      by_test true o = h
      by_test false (Some at) = h
      by_test false None = find_kept x bs (bind_of n e) d h

  item_other : (x : List ℕ) (n : Name) (e : Decl) (bs : List Bind) → bytes_eq n.text x ≡ false → find x (with_item n e bs) ≡ find x bs
  item_other x n e bs g = by_test (is_blank n.text) (place_in n.text bs)
    where
      by_test : (b : Bool) (o : Option Place) → find x (if b then bs else bound_at (bind_of n e) o bs) ≡ find x bs
      by_test true o = refl
      by_test false (Some at) = refl
      by_test false None = find_other x bs (bind_of n e) g

  -- a name that isn't blank is declared
  item_here : (x : List ℕ) (n : Name) (e : Decl) (bs : List Bind) → bytes_eq n.text x ≡ true → is_blank x ≡ false → find x bs ≡ None → find x (with_item n e bs) ≡ Some e
  item_here x n e bs g b h = by_both (is_blank n.text) (place_in n.text bs) (ap is_blank (bytes_one n.text x g) ∙ b) (ap (λ (y : List ℕ). place_in y bs) (bytes_one n.text x g) ∙ place_none x bs h)
    where
      by_both : (c : Bool) (o : Option Place) → c ≡ false → o ≡ None → find x (if c then bs else bound_at (bind_of n e) o bs) ≡ Some e
      by_both true o i j = let m : true ≡ false = i in cc
      by_both false (Some at) i j = let m : Some at ≡ None = j in cc
      by_both false None i j = find_last x bs (bind_of n e) h g

  fill_kept : (x : List ℕ) (d : Decl) (is : List Item) (bs : List Bind) → find x bs ≡ Some d → find x (fill f is bs) ≡ Some d
  fill_kept x d [] bs h = h
  fill_kept x d (i ∷ is) bs h = fill_kept x d is (with_item (name_of i) (f i) bs) (item_kept x (name_of i) d (f i) bs h)

  pub fill_first : (x : List ℕ) → is_blank x ≡ false → (is : List Item) (bs : List Bind) → find x bs ≡ None → find x (fill f is bs) ≡ option_map f (first_named x is)
  fill_first x b [] bs h = h
  fill_first x b (i ∷ is) bs h = by_test (λ cs e. fill_first x b is cs e) (bytes_eq (name_of i).text x) refl
    where
      by_test : ((cs : List Bind) → find x cs ≡ None → find x (fill f is cs) ≡ option_map f (first_named x is)) → (c : Bool) → bytes_eq (name_of i).text x ≡ c
          → find x (fill f is (with_item (name_of i) (f i) bs)) ≡ option_map f (if c then Some i else first_named x is)
      by_test g true e = fill_kept x (f i) is (with_item (name_of i) (f i) bs) (item_here x (name_of i) (f i) bs e b h)
      by_test g false e = g (with_item (name_of i) (f i) bs) (item_other x (name_of i) (f i) bs e ∙ h)

  -- nothing is declared by `_`
  fill_blank : (x : List ℕ) → is_blank x ≡ true → (is : List Item) (bs : List Bind) → find x bs ≡ None → find x (fill f is bs) ≡ None
  fill_blank x b [] bs h = h
  fill_blank x b (i ∷ is) bs h = fill_blank x b is (with_item (name_of i) (f i) bs) (by_test (is_blank (name_of i).text) refl (place_in (name_of i).text bs))
    where
      other : is_blank (name_of i).text ≡ false → (c : Bool) → bytes_eq (name_of i).text x ≡ c → c ≡ false
      other e false g = refl
      other e true g = let m : true ≡ false = sym b ∙ sym (ap is_blank (bytes_one (name_of i).text x g)) ∙ e in cc

      by_test : (c : Bool) → is_blank (name_of i).text ≡ c → (o : Option Place) → find x (if c then bs else bound_at (bind_of (name_of i) (f i)) o bs) ≡ None
      by_test true e o = h
      by_test false e (Some at) = h
      by_test false e None = find_other x bs (bind_of (name_of i) (f i)) (other e (bytes_eq (name_of i).text x) refl) ∙ h

-- ---- the universe is known

abbrev all_known_binds : List Bind → Bool
all_known_binds [] = true
all_known_binds (b ∷ bs) = if is_unknown b.what then false else all_known_binds bs

pub some_decl : (d e : Decl) → Some d ≡ Some e → d ≡ e
some_decl d e h = ap (or_this d) h
  where
    or_this : Decl → Option Decl → Decl
    or_this c None = c
    or_this c (Some g) = g

find_known : (x : List ℕ) (bs : List Bind) → all_known_binds bs ≡ true → find x bs ≡ Some unknown → ⊥
find_known x [] a h = cc
find_known x (b ∷ bs) a h = by_test (λ c e. find_known x bs c e) (is_unknown b.what) refl a (bytes_eq b.name x) h
  where
    by_test : (all_known_binds bs ≡ true → find x bs ≡ Some unknown → ⊥) → (c : Bool) → is_unknown b.what ≡ c → (if c then false else all_known_binds bs) ≡ true → (u : Bool) → (if u then Some b.what else find x bs) ≡ Some unknown → ⊥
    by_test g true e i u j = let m : false ≡ true = i in cc
    by_test g false e i true j = let m : false ≡ true = sym e ∙ ap is_unknown (some_decl b.what unknown j) in cc
    by_test g false e i false j = g i j

-- ---- each name is typed

-- the item of a name that is found
pub record FoundItem (f : Item → Decl) (is : List Item) (x : List ℕ) (d : Decl) : Type 0 where
  pub item : Item
  pub first : first_named x is ≡ Some item
  pub not_blank : is_blank x ≡ false
  pub declared : f item ≡ d

pub found_item : (f : Item → Decl) (is : List Item) (x : List ℕ) (d : Decl) (bs : List Bind) → bs ≡ fill f is [] → find x bs ≡ Some d → FoundItem f is x d
found_item f is x d bs e h = by_blank (is_blank x) refl
  where
    g : find x (fill f is []) ≡ Some d
    g = sym (ap (find x) e) ∙ h

    by_first : (o : Option Item) → first_named x is ≡ o → is_blank x ≡ false → option_map f o ≡ Some d → FoundItem f is x d
    by_first None i b j = let m : None ≡ Some d = j in cc
    by_first (Some y) i b j = record { item = y; first = i; not_blank = b; declared = some_decl (f y) d j }

    by_blank : (c : Bool) → is_blank x ≡ c → FoundItem f is x d
    by_blank true b = let m : None ≡ Some d = sym (fill_blank f x b is [] refl) ∙ g in cc
    by_blank false b = by_first (first_named x is) refl b (sym (fill_first f x b is [] refl) ∙ g)

-- what holds of each item holds of the first one of a name
pub of_first : (Q : Item → Type 0) (x : List ℕ) (is : List Item) (i : Item) → AllItems Q is → first_named x is ≡ Some i → Q i
of_first Q x [] i a h = let e : None ≡ Some i = h in cc
of_first Q x (j ∷ is) i a h = by_test (λ g. of_first Q x is i a.1 g) (bytes_eq (name_of j).text x) h
  where
    some_item : (m n : Item) → Some m ≡ Some n → m ≡ n
    some_item m n e = ap (or_this m) e
      where
        or_this : Item → Option Item → Item
        or_this c None = c
        or_this c (Some g) = g

    by_test : (first_named x is ≡ Some i → Q i) → (c : Bool) → (if c then Some j else first_named x is) ≡ Some i → Q i
    by_test g true e = subst Q (some_item j i e) a.0
    by_test g false e = g e

pub filled : (ds : List t.Decl) → (known_in ds).binds ≡ fill (decl_of (known_in ds)) (items_of ds) []
filled ds = sym (ap (λ (l : Known). l.binds) (is_fixed ds)) ∙ binds_filled (known_in ds) (items_of ds) []

module _ (ds : List t.Decl) (o : DeclsOfGrammar ds) (untold : told ds ≡ []) where
  fine : AllItems (ItemFine (known_in ds)) (items_of ds)
  fine = items_fine (known_in ds) 0 0 ds o (no_decls_told ds untold)

  lost_item : (x : List ℕ) → lookup x (universe_of (known_in ds)) ≡ Some unknown → FoundItem (decl_of (known_in ds)) (items_of ds) x unknown
  lost_item x h = by_case (find x (known_in ds).binds) refl h
    where
      by_case : (c : Option Decl) → find x (known_in ds).binds ≡ c → or_in c (find x (universe None)) ≡ Some unknown → FoundItem (decl_of (known_in ds)) (items_of ds) x unknown
      by_case None e g = absurd (find_known x (universe None) refl g)
      by_case (Some d) e g = found_item (decl_of (known_in ds)) (items_of ds) x unknown (known_in ds).binds (filled ds) (e ∙ g)

  next : (x : List ℕ) → lookup x (universe_of (known_in ds)) ≡ Some unknown → (y : List ℕ) × Needs (universe_of (known_in ds)) (items_of ds) x y × (lookup y (universe_of (known_in ds)) ≡ Some unknown)
  next x h = by_case (either_unknown (universe_of (known_in ds)) (needs_of (universe_of (known_in ds)) i.item))
    where
      i : FoundItem (decl_of (known_in ds)) (items_of ds) x unknown
      i = lost_item x h

      by_case : NoneUnknown (universe_of (known_in ds)) (needs_of (universe_of (known_in ds)) i.item) ⊎ (y : List ℕ) × (is_among y (needs_of (universe_of (known_in ds)) i.item) ≡ true) × (lookup y (universe_of (known_in ds)) ≡ Some unknown)
          → (y : List ℕ) × Needs (universe_of (known_in ds)) (items_of ds) x y × (lookup y (universe_of (known_in ds)) ≡ Some unknown)
      by_case (inl n) = absurd (item_known (known_in ds) i.item (of_first (ItemFine (known_in ds)) x (items_of ds) i.item fine i.first) n i.declared)
      by_case (inr y) = (y.0, ap (is_among y.0) (needs_first (universe_of (known_in ds)) (items_of ds) x (items_of ds) i.item i.first) ∙ y.1, y.2)

  pub names_typed : NothingUnknown (universe_of (known_in ds))
  names_typed x h = none_unknown (universe_of (known_in ds)) (items_of ds) (no_cycles_told ds untold) (λ y g. let i = lost_item y g in (i.item, i.first, i.not_blank)) next x h

pub each_name_is_typed : EachNameIsTyped
each_name_is_typed ds o h = names_typed ds o h

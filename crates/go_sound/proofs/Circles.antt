-- A name that isn't typed leads to one that needs itself.
use Rattle.std.proofs.Common.{◌≡◌, ◌≤◌, ◌⊎◌, inl, inr, ◌||◌, ℕ, zero, suc, ◌+◌, length, List, [], ◌∷◌, ◌++◌, refl, sym, subst, ap, ◌∙◌, arith, Bool, true, false, Option, Some, None, if◌then◌else◌, bytes_eq}
use Rattle.std.proofs.lemmas.Slice.Eq.{bytes_eq-Decides}
use Rattle.go_core.proofs.SameTypeLemmas.{bytes_one}
use Rattle.go_typing.specs.Env.{unknown, Bind, lookup, is_blank}
use Rattle.go_typing.specs.Answer.{flaw}
use Rattle.go_typing.specs.Items.{Item, name_of}
use Rattle.go_typing.specs.Cycles.{needs_of, is_among, joined, needs_named, needs_all, reached, needs_itself, cycles_from}
use Rattle.go_sound.proofs.SoundBodies.{no_first, no_second}

pub bytes_same : (x : List ℕ) → bytes_eq x x ≡ true
bytes_same x = grind (arith, bytes_eq-Decides x x)

pub or_either : (b c : Bool) → (b || c) ≡ true → (b ≡ true) ⊎ (c ≡ true)
or_either true c h = inl refl
or_either false c h = inr h

pub or_second : (b c : Bool) → c ≡ true → (b || c) ≡ true
or_second true c h = refl
or_second false c h = h

pub or_first : (b c : Bool) → b ≡ true → (b || c) ≡ true
or_first true c h = refl
or_first false c h = let e : false ≡ true = h in cc

pub neither_first : (b c : Bool) → (b || c) ≡ false → b ≡ false
neither_first true c h = let e : true ≡ false = h in cc
neither_first false c h = refl

pub neither_second : (b c : Bool) → (b || c) ≡ false → c ≡ false
neither_second true c h = let e : true ≡ false = h in cc
neither_second false c h = h

-- ---- names in lists

among_left : (x : List ℕ) (xs ys : List (List ℕ)) → is_among x xs ≡ true → is_among x (xs ++ ys) ≡ true
among_left x [] ys h = let e : false ≡ true = h in cc
among_left x (z ∷ xs) ys h = by_case (λ k. among_left x xs ys k) (or_either (bytes_eq z x) (is_among x xs) h)
  where
    by_case : (is_among x xs ≡ true → is_among x (xs ++ ys) ≡ true) → (bytes_eq z x ≡ true) ⊎ (is_among x xs ≡ true) → (bytes_eq z x || is_among x (xs ++ ys)) ≡ true
    by_case f (inl e) = or_first (bytes_eq z x) (is_among x (xs ++ ys)) e
    by_case f (inr e) = or_second (bytes_eq z x) (is_among x (xs ++ ys)) (f e)

among_right : (x : List ℕ) (xs ys : List (List ℕ)) → is_among x ys ≡ true → is_among x (xs ++ ys) ≡ true
among_right x [] ys h = h
among_right x (z ∷ xs) ys h = or_second (bytes_eq z x) (is_among x (xs ++ ys)) (among_right x xs ys h)

among_if : (x : List ℕ) (c : Bool) (xs ys : List (List ℕ)) → is_among x xs ≡ true → is_among x ys ≡ true → is_among x (if c then xs else ys) ≡ true
among_if x true xs ys h k = h
among_if x false xs ys h k = k

joined_left : (x : List ℕ) (xs ys : List (List ℕ)) → is_among x xs ≡ true → is_among x (joined xs ys) ≡ true
joined_left x xs [] h = h
joined_left x xs (y ∷ ys) h = joined_left x (if is_among y xs then xs else xs ++ y ∷ []) ys (among_if x (is_among y xs) xs (xs ++ y ∷ []) h (among_left x xs (y ∷ []) h))

joined_right : (x : List ℕ) (xs ys : List (List ℕ)) → is_among x ys ≡ true → is_among x (joined xs ys) ≡ true
joined_right x xs [] h = let e : false ≡ true = h in cc
joined_right x xs (y ∷ ys) h =
    by_case (or_either (bytes_eq y x) (is_among x ys) h) (λ k. joined_right x (if is_among y xs then xs else xs ++ y ∷ []) ys k)
  where
    there : bytes_eq y x ≡ true → (c : Bool) → is_among y xs ≡ c → is_among x (if c then xs else xs ++ y ∷ []) ≡ true
    there e true f = subst (λ (z : List ℕ). is_among z xs ≡ true) (bytes_one y x e) f
    there e false f = among_right x xs (y ∷ []) (or_first (bytes_eq y x) false e)

    by_case : (bytes_eq y x ≡ true) ⊎ (is_among x ys ≡ true) → (is_among x ys ≡ true → is_among x (joined (if is_among y xs then xs else xs ++ y ∷ []) ys) ≡ true) → is_among x (joined (if is_among y xs then xs else xs ++ y ∷ []) ys) ≡ true
    by_case (inl e) f = joined_left x (if is_among y xs then xs else xs ++ y ∷ []) ys (there e (is_among y xs) refl)
    by_case (inr e) f = f e

-- ---- as many different names as there are

abbrev Distinct : List (List ℕ) → Type 0
Distinct [] = Unit {0}
Distinct (v ∷ vs) = (is_among v vs ≡ false) × Distinct vs

abbrev AllAmong : List (List ℕ) → List (List ℕ) → Type 0
AllAmong [] ys = Unit {0}
AllAmong (v ∷ vs) ys = (is_among v ys ≡ true) × AllAmong vs ys

abbrev without : List ℕ → List (List ℕ) → List (List ℕ)
without v [] = []
without v (y ∷ ys) = if bytes_eq y v then ys else y ∷ without v ys

length_without : (v : List ℕ) (ys : List (List ℕ)) → is_among v ys ≡ true → length ys ≡ suc (length (without v ys))
length_without v [] h = let e : false ≡ true = h in cc
length_without v (y ∷ ys) h = by_test (λ k. length_without v ys k) (bytes_eq y v) h
  where
    by_test : (is_among v ys ≡ true → length ys ≡ suc (length (without v ys))) → (b : Bool) → (b || is_among v ys) ≡ true → suc (length ys) ≡ suc (length (if b then ys else y ∷ without v ys))
    by_test f true k = refl
    by_test f false k = ap suc (f k)

not_same : (u v : List ℕ) → bytes_eq u v ≡ false → bytes_eq v u ≡ false
not_same u v h = by_test (bytes_eq v u) refl
  where
    by_test : (b : Bool) → bytes_eq v u ≡ b → b ≡ false
    by_test false e = refl
    by_test true e = let f : true ≡ false = sym (bytes_same v) ∙ ap (λ (z : List ℕ). bytes_eq z v) (bytes_one v u e) ∙ h in cc

among_without : (v u : List ℕ) (ys : List (List ℕ)) → bytes_eq u v ≡ false → is_among u ys ≡ true → is_among u (without v ys) ≡ true
among_without v u [] n h = h
among_without v u (y ∷ ys) n h = by_test (λ k. among_without v u ys n k) (bytes_eq y v) refl
  where
    rest : bytes_eq y u ≡ false → (bytes_eq y u || is_among u ys) ≡ true → is_among u ys ≡ true
    rest e k = subst (λ (b : Bool). (b || is_among u ys) ≡ true) e k

    by_either : (is_among u ys ≡ true → is_among u (without v ys) ≡ true) → (bytes_eq y u ≡ true) ⊎ (is_among u ys ≡ true) → (bytes_eq y u || is_among u (without v ys)) ≡ true
    by_either f (inl e) = or_first (bytes_eq y u) (is_among u (without v ys)) e
    by_either f (inr e) = or_second (bytes_eq y u) (is_among u (without v ys)) (f e)

    by_test : (is_among u ys ≡ true → is_among u (without v ys) ≡ true) → (b : Bool) → bytes_eq y v ≡ b → is_among u (if b then ys else y ∷ without v ys) ≡ true
    by_test f true e = rest (subst (λ (z : List ℕ). bytes_eq z u ≡ false) (sym (bytes_one y v e)) (not_same u v n)) h
    by_test f false e = by_either f (or_either (bytes_eq y u) (is_among u ys) h)

all_without : (v : List ℕ) (us ys : List (List ℕ)) → is_among v us ≡ false → AllAmong us ys → AllAmong us (without v ys)
all_without v [] ys n h = tt
all_without v (u ∷ us) ys n h = (among_without v u ys (neither_first (bytes_eq u v) (is_among v us) n) h.0, all_without v us ys (neither_second (bytes_eq u v) (is_among v us) n) h.1)

no_more_names : (vs ys : List (List ℕ)) → Distinct vs → AllAmong vs ys → length vs ≤ length ys
no_more_names [] ys d h = omega arith
no_more_names (v ∷ vs) ys d h =
    let e = length_without v ys h.0 in
    let l = no_more_names vs (without v ys) d.1 (all_without v vs ys d.0 h.1) in
    omega arith

-- ---- the first item of a name

abbrev pub first_named : List ℕ → List Item → Option Item
first_named x [] = None
first_named x (i ∷ is) = if bytes_eq (name_of i).text x then Some i else first_named x is

abbrev texts : List Item → List (List ℕ)
texts [] = []
texts (i ∷ is) = (name_of i).text ∷ texts is

texts_count : (is : List Item) → length (texts is) ≡ length is
texts_count [] = refl
texts_count (i ∷ is) = ap suc (texts_count is)

some_item : (i j : Item) → Some i ≡ Some j → i ≡ j
some_item i j e = ap (or_this i) e
  where
    or_this : Item → Option Item → Item
    or_this k None = k
    or_this k (Some m) = m

first_name : (x : List ℕ) (is : List Item) (i : Item) → first_named x is ≡ Some i → (name_of i).text ≡ x
first_name x [] i h = let e : None ≡ Some i = h in cc
first_name x (j ∷ is) i h = by_test (λ k. first_name x is i k) (bytes_eq (name_of j).text x) refl h
  where
    by_test : (first_named x is ≡ Some i → (name_of i).text ≡ x) → (b : Bool) → bytes_eq (name_of j).text x ≡ b → (if b then Some j else first_named x is) ≡ Some i → (name_of i).text ≡ x
    by_test f true e k = subst (λ (m : Item). (name_of m).text ≡ x) (some_item j i k) (bytes_one (name_of j).text x e)
    by_test f false e k = f k

first_among : (x : List ℕ) (is : List Item) (i : Item) → first_named x is ≡ Some i → is_among x (texts is) ≡ true
first_among x [] i h = let e : None ≡ Some i = h in cc
first_among x (j ∷ is) i h = by_test (λ k. first_among x is i k) (bytes_eq (name_of j).text x) h
  where
    by_test : (first_named x is ≡ Some i → is_among x (texts is) ≡ true) → (b : Bool) → (if b then Some j else first_named x is) ≡ Some i → (b || is_among x (texts is)) ≡ true
    by_test f true k = refl
    by_test f false k = f k

-- ---- what leads where

module _ (ss : List (List Bind)) (is : List Item) where
  abbrev pub Needs : List ℕ → List ℕ → Type 0
  Needs x y = is_among y (needs_named ss is x is) ≡ true

  abbrev pub Leads : ℕ → List ℕ → List ℕ → Type 0
  Leads zero x y = Needs x y
  Leads (suc n) x y = (z : List ℕ) × Leads n x z × Needs z y

  pub needs_first : (x : List ℕ) (js : List Item) (i : Item) → first_named x js ≡ Some i → needs_named ss is x js ≡ needs_of ss i
  needs_first x [] i h = let e : None ≡ Some i = h in cc
  needs_first x (j ∷ js) i h = by_test (λ k. needs_first x js i k) (bytes_eq (name_of j).text x) h
    where
      by_test : (first_named x js ≡ Some i → needs_named ss is x js ≡ needs_of ss i) → (b : Bool) → (if b then Some j else first_named x js) ≡ Some i → (if b then needs_of ss j else needs_named ss is x js) ≡ needs_of ss i
      by_test f true k = ap (needs_of ss) (some_item j i k)
      by_test f false k = f k

  all_needs : (z y : List ℕ) (xs : List (List ℕ)) → is_among z xs ≡ true → Needs z y → is_among y (needs_all ss is xs) ≡ true
  all_needs z y [] h k = let e : false ≡ true = h in cc
  all_needs z y (x ∷ xs) h k = by_case (λ f. all_needs z y xs f k) (or_either (bytes_eq x z) (is_among z xs) h)
    where
      by_case : (is_among z xs ≡ true → is_among y (needs_all ss is xs) ≡ true) → (bytes_eq x z ≡ true) ⊎ (is_among z xs ≡ true) → is_among y (needs_named ss is x is ++ needs_all ss is xs) ≡ true
      by_case f (inl e) = among_left y (needs_named ss is x is) (needs_all ss is xs) (subst (λ (v : List ℕ). Needs v y) (sym (bytes_one x z e)) k)
      by_case f (inr e) = among_right y (needs_named ss is x is) (needs_all ss is xs) (f e)

  pub reached_last : (n : ℕ) (xs : List (List ℕ)) → reached ss is (suc n) xs ≡ joined (reached ss is n xs) (needs_all ss is (reached ss is n xs))
  reached_last zero xs = refl
  reached_last (suc n) xs = reached_last n (joined xs (needs_all ss is xs))

  pub leads_reached : (n m : ℕ) (x y : List ℕ) → m ≤ n → Leads m x y → is_among y (reached ss is n (needs_named ss is x is)) ≡ true
  leads_reached zero zero x y l h = h
  leads_reached zero (suc m) x y l h = absurd (omega arith)
  leads_reached (suc n) zero x y l h =
      subst (λ (xs : List (List ℕ)). is_among y xs ≡ true) (sym (reached_last n (needs_named ss is x is))) (joined_left y (reached ss is n (needs_named ss is x is)) (needs_all ss is (reached ss is n (needs_named ss is x is))) (leads_reached n zero x y (omega arith) h))
  leads_reached (suc n) (suc m) x y l h =
      subst (λ (xs : List (List ℕ)). is_among y xs ≡ true) (sym (reached_last n (needs_named ss is x is)))
      (joined_right y (reached ss is n (needs_named ss is x is)) (needs_all ss is (reached ss is n (needs_named ss is x is))) (all_needs h.0 y (reached ss is n (needs_named ss is x is)) (leads_reached n m x h.0 (omega arith) h.1) h.2))

  -- the first item of a name doesn't need itself where no circle is told
  not_itself : (x : List ℕ) (seen : List (List ℕ)) (js : List Item) (i : Item) → is_blank x ≡ false → is_among x seen ≡ false → cycles_from ss is seen js ≡ [] → first_named x js ≡ Some i → needs_itself ss is i ≡ false
  not_itself x seen [] i b s c h = let e : None ≡ Some i = h in cc
  not_itself x seen (j ∷ js) i b s c h = by_test (λ n k. not_itself x ((name_of j).text ∷ seen) js i b n (no_second _ (cycles_from ss is ((name_of j).text ∷ seen) js) c) k) (bytes_eq (name_of j).text x) refl h
    where
      none_here : (t : Bool) → (if t then flaw (name_of j).place 74 ∷ [] else []) ≡ [] → t ≡ false
      none_here true k = cc
      none_here false k = refl

      told : (d e : Bool) → d ≡ false → e ≡ false → (if d || e then [] else (if needs_itself ss is j then flaw (name_of j).place 74 ∷ [] else [])) ≡ [] → needs_itself ss is j ≡ false
      told true e f g k = let m : true ≡ false = f in cc
      told false true f g k = let m : true ≡ false = g in cc
      told false false f g k = none_here (needs_itself ss is j) k

      here : (name_of j).text ≡ x → needs_itself ss is j ≡ false
      here e =
          told (is_blank (name_of j).text) (is_among (name_of j).text seen) (ap is_blank e ∙ b) (ap (λ (z : List ℕ). is_among z seen) e ∙ s)
          (no_first (if is_blank (name_of j).text || is_among (name_of j).text seen then [] else (if needs_itself ss is j then flaw (name_of j).place 74 ∷ [] else [])) (cycles_from ss is ((name_of j).text ∷ seen) js) c)

      by_test : (is_among x ((name_of j).text ∷ seen) ≡ false → first_named x js ≡ Some i → needs_itself ss is i ≡ false) → (t : Bool) → bytes_eq (name_of j).text x ≡ t → (if t then Some j else first_named x js) ≡ Some i → needs_itself ss is i ≡ false
      by_test f true e k = subst (λ (m : Item). needs_itself ss is m ≡ false) (some_item j i k) (here (bytes_one (name_of j).text x e))
      by_test f false e k = f (ap (λ (t : Bool). t || is_among x seen) e ∙ s) k

  module _ (untold : cycles_from ss is [] is ≡ []) (named : (x : List ℕ) → lookup x ss ≡ Some unknown → (i : Item) × (first_named x is ≡ Some i) × (is_blank x ≡ false))
      (next : (x : List ℕ) → lookup x ss ≡ Some unknown → (y : List ℕ) × Needs x y × (lookup y ss ≡ Some unknown)) where
    no_circle : (x : List ℕ) (m : ℕ) → lookup x ss ≡ Some unknown → m ≤ length is → Leads m x x → ⊥
    no_circle x m u l h =
        let i = named x u in
        let e : needs_itself ss is i.0 ≡ true =
        ap (λ (z : List ℕ). is_among z (reached ss is (length is) (needs_of ss i.0))) (first_name x is i.0 i.1) ∙ ap (λ (zs : List (List ℕ)). is_among x (reached ss is (length is) zs)) (sym (needs_first x is i.0 i.1))
        ∙ leads_reached (length is) m x x l h in
        let f : true ≡ false = sym e ∙ not_itself x [] is i.0 i.2 refl untold i.1 in
        cc

    -- the names before it lead to it, the last one at once
    abbrev AllLead : ℕ → List (List ℕ) → List ℕ → Type 0
    AllLead m [] x = Unit {0}
    AllLead m (v ∷ vs) x = Leads m v x × AllLead (suc m) vs x

    lead_on : (m : ℕ) (vs : List (List ℕ)) (x y : List ℕ) → Needs x y → AllLead m vs x → AllLead (suc m) vs y
    lead_on m [] x y n h = tt
    lead_on m (v ∷ vs) x y n h = ((x, h.0, n), lead_on (suc m) vs x y n h.1)

    in_circle : (m : ℕ) (vs : List (List ℕ)) (x : List ℕ) → lookup x ss ≡ Some unknown → m + length vs ≤ suc (length is) → AllLead m vs x → is_among x vs ≡ true → ⊥
    in_circle m [] x u l h k = let e : false ≡ true = k in cc
    in_circle m (v ∷ vs) x u l h k = by_case (or_either (bytes_eq v x) (is_among x vs) k) (λ e. in_circle (suc m) vs x u (omega arith) h.1 e)
      where
        by_case : (bytes_eq v x ≡ true) ⊎ (is_among x vs ≡ true) → (is_among x vs ≡ true → ⊥) → ⊥
        by_case (inl e) f = no_circle x m u (omega arith) (subst (λ (z : List ℕ). Leads m z x) (bytes_one v x e) h.0)
        by_case (inr e) f = f e

    walk : (n : ℕ) (vs : List (List ℕ)) (x : List ℕ) → length vs + n ≡ suc (length is) → Distinct vs → AllAmong vs (texts is) → AllLead 0 vs x → lookup x ss ≡ Some unknown → ⊥
    walk zero vs x l d a h u = let e = no_more_names vs (texts is) d a in let f = texts_count is in absurd (omega arith)
    walk (suc n) vs x l d a h u = by_test (λ e. walk n (x ∷ vs) y (omega arith) (e, d) (first_among x is i.0 i.1, a) (needs, lead_on 0 vs x y needs h) unknown_next) (is_among x vs) refl
      where
        i : (j : Item) × (first_named x is ≡ Some j) × (is_blank x ≡ false)
        i = named x u

        z : (v : List ℕ) × Needs x v × (lookup v ss ≡ Some unknown)
        z = next x u

        y : List ℕ
        y = z.0

        needs : Needs x y
        needs = z.1

        unknown_next : lookup y ss ≡ Some unknown
        unknown_next = z.2

        by_test : (is_among x vs ≡ false → ⊥) → (b : Bool) → is_among x vs ≡ b → ⊥
        by_test f true e = in_circle 0 vs x u (omega arith) h e
        by_test f false e = f e

    pub none_unknown : (x : List ℕ) → lookup x ss ≡ Some unknown → ⊥
    none_unknown x u = walk (suc (length is)) [] x (omega arith) tt tt tt u

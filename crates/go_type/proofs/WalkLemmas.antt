-- What is seen on a walk.
use Rattle.std.proofs.Common.{◌≡◌, ℕ, zero, suc, ◌+◌, ◌-◌, ◌<◌, ◌≤◌, Bool, true, false, List, [], ◌∷◌, ◌++◌, Some, None, get_or, length, map, refl, ap, sym, ◌∙◌, subst, arith, inl, inr}
use Rattle.std.specs.Prelude.{◌||◌, ◌⊎◌, ◌==◌, nat_eq, if◌then◌else◌, Option, IfNone, IfSome}
use Rattle.std.specs.Bool.{OnTrue}
use Rattle.std.specs.List.{list_any}
use Rattle.std.proofs.lemmas.Bool.{eqb-true, eq-eqb, cases_lt}
use Rattle.go_type.specs.Tree.{Ty, Fields, no_fields, more_fields, bool, str, int, nil, untyped, array, slice, struct, pointer, func, interface, mapping, chan, named, tuple}
use Rattle.go_type.specs.Named.{NamedTy}
use Rattle.go_type.specs.Levels.{tree_of, trees_of, fields_of}
use Rattle.go_type.specs.Members.{Member, field, method, behind, Sought, own_members, members_at, through, through_one, base_of, steps_to, NoneBefore}
use Rattle.go_type.specs.Hits.{has_pointer, Sees, IsSomething, IsIn, is_something}
use Rattle.go_type.specs.Walk.{plain_field, plain_method, Look, none, one, several, look, plus, shift, seen_in, total, Quiet, Expands, times_in, first_of, pointer_if, spread, IsShallow}
use Rattle.go_type.specs.Paths.{LeadsOn, LeadsOnTo}
use Rattle.go_type.specs.declared.steps.Step.{Step}
use Rattle.go_type.specs.declared.steps.Step.TheVariants as step
use Rattle.go_type.specs.declared.types.FieldRow.{FieldRow}
use Rattle.go_type.specs.declared.hits.Hit.{Hit}
use Rattle.go_type.specs.declared.hits.Hit.TheVariants.{Nothing, Several, Field, Method}

-- ---- looks add up

pub plus_none : (a : Look) → plus a none ≡ a
plus_none none = refl
plus_none (one m) = refl
plus_none several = refl

pub plus_assoc : (a b c : Look) → plus (plus a b) c ≡ plus a (plus b c)
plus_assoc none b c = refl
plus_assoc (one m) none c = refl
plus_assoc (one m) (one n) none = refl
plus_assoc (one m) (one n) (one k) = refl
plus_assoc (one m) (one n) several = refl
plus_assoc (one m) several c = refl
plus_assoc several b c = refl

pub shift_plus : (b : Bool) (x y : Look) → shift b (plus x y) ≡ plus (shift b x) (shift b y)
shift_plus b none y = refl
shift_plus b (one m) none = refl
shift_plus b (one m) (one n) = refl
shift_plus b (one m) several = refl
shift_plus b several y = refl

or_assoc : (a b c : Bool) → (a || (b || c)) ≡ ((a || b) || c)
or_assoc true b c = refl
or_assoc false b c = refl

pub shift_shift : (a b : Bool) (x : Look) → shift a (shift b x) ≡ shift (a || b) x
shift_shift a b none = refl
shift_shift a b several = refl
shift_shift a b (one plain_field) = refl
shift_shift a b (one (plain_method i of_ p ps rs v)) = ap (λ (x : Bool). one (plain_method x of_ p ps rs v)) (or_assoc a b i)

pub shift_false : (x : Look) → shift false x ≡ x
shift_false none = refl
shift_false several = refl
shift_false (one plain_field) = refl
shift_false (one (plain_method i of_ p ps rs v)) = refl

plus_left : (a b : Look) → plus a b ≡ none → a ≡ none
plus_left none b h = refl
plus_left (one m) none h = cc
plus_left (one m) (one n) h = cc
plus_left (one m) several h = cc
plus_left several b h = cc

plus_right : (a b : Look) → plus a b ≡ none → b ≡ none
plus_right a b h = subst (λ (x : Look). plus x b ≡ none) (plus_left a b h) h

unshifted : (b : Bool) (x : Look) → shift b x ≡ none → x ≡ none
unshifted b none h = refl
unshifted b (one m) h = cc
unshifted b several h = cc

more_several : (m n : Member) (xs ys : List Member) → look ((m ∷ xs) ++ (n ∷ ys)) ≡ several
more_several m n [] ys = refl
more_several m n (x ∷ xs) ys = refl

pub look_append : (xs ys : List Member) → look (xs ++ ys) ≡ plus (look xs) (look ys)
look_append [] ys = refl
look_append (m ∷ []) [] = refl
look_append (m ∷ []) (n ∷ []) = refl
look_append (m ∷ []) (n ∷ k ∷ ys) = refl
look_append (m ∷ n ∷ xs) ys = refl

has_both : (ss p : List Step) → has_pointer (ss ++ p) ≡ (has_pointer ss || has_pointer p)
has_both [] p = refl
has_both (step.Pointer ∷ ss) p = refl
has_both (step.Field i ∷ ss) p = has_both ss p

pub look_behind : (ss : List Step) (xs : List Member) → look (map (behind ss) xs) ≡ shift (has_pointer ss) (look xs)
look_behind ss [] = refl
look_behind ss (field p ∷ []) = refl
look_behind ss (method p of_ b ps rs v ∷ []) = ap (λ (x : Bool). one (plain_method x of_ b ps rs v)) (has_both ss p)
look_behind ss (m ∷ n ∷ xs) = refl

pub look_none : (xs : List Member) → look xs ≡ none → xs ≡ []
look_none [] h = refl
look_none (m ∷ []) h = cc
look_none (m ∷ n ∷ xs) h = cc

-- what is seen is told by the look
pub sees_look : (ts : List Ty) (xs ys : List Member) (h : Hit) → look xs ≡ look ys → Sees ts ys h → Sees ts xs h
sees_look ts xs ys Nothing e s = look_none xs (e ∙ ap look s)
sees_look ts [] [] Several e s = s
sees_look ts [] (n ∷ ys) Several e s = two ys e s
  where
    two : (ys : List Member) → none ≡ look (n ∷ ys) → 2 ≤ length (n ∷ ys) → 2 ≤ 0
    two [] e s = cc
    two (k ∷ ys) e s = cc
sees_look ts (m ∷ []) [] Several e s = cc
sees_look ts (m ∷ []) (n ∷ []) Several e s = s
sees_look ts (m ∷ []) (n ∷ k ∷ ys) Several e s = cc
sees_look ts (m ∷ l ∷ xs) ys Several e s = omega arith
sees_look ts xs ys Field e s = by xs (e ∙ ap look s.1)
  where
    by : (xs : List Member) → look xs ≡ one plain_field → Sees ts xs Field
    by [] h = cc
    by (field p ∷ []) h = (p, refl)
    by (method p of_ b ps rs v ∷ []) h = cc
    by (m ∷ n ∷ xs) h = cc
sees_look ts xs ys (Method id on_pointer indirect sig) e s = by xs (e ∙ ap look s.1)
  where
    by : (xs : List Member) → look xs ≡ look (method s.0 (tree_of ts id) on_pointer (trees_of ts sig.now.params) (trees_of ts sig.now.results) sig.now.variadic ∷ []) → Sees ts xs (Method id on_pointer indirect sig)
    by [] h = cc
    by (field p ∷ []) h = cc
    by (method p of_ b ps rs v ∷ []) h =
        let a : has_pointer p ≡ has_pointer s.0 = cc in
        let g : of_ ≡ tree_of ts id = cc in
        let c : b ≡ on_pointer = cc in
        let d : ps ≡ trees_of ts sig.now.params = cc in
        let f : rs ≡ trees_of ts sig.now.results = cc in
        let w : v ≡ sig.now.variadic = cc in
        (p, cc, a ∙ s.2)
    by (m ∷ n ∷ xs) h = cc

some_or : (x : Look) → (x ≡ none) ⊎ (x ≡ none → ⊥)
some_or none = inl refl
some_or (one m) = inr (λ h. cc)
some_or several = inr (λ h. cc)

plus_several : (a : Look) → plus a several ≡ several
plus_several none = refl
plus_several (one m) = refl
plus_several several = refl

plus_two : (a b : Look) → (a ≡ none → ⊥) → (b ≡ none → ⊥) → plus a b ≡ several
plus_two none b h g = absurd (h refl)
plus_two (one m) none h g = absurd (g refl)
plus_two (one m) (one n) h g = refl
plus_two (one m) several h g = refl
plus_two several b h g = refl

pub if_pointer : (b : Bool) → has_pointer (pointer_if b) ≡ b
if_pointer true = refl
if_pointer false = refl

pointers : (i j : ℕ) (t : Ty) → has_pointer (steps_to i t) ≡ has_pointer (steps_to j t)
pointers i j (pointer t) = refl
pointers i j bool = refl
pointers i j str = refl
pointers i j (int name) = refl
pointers i j nil = refl
pointers i j (untyped b) = refl
pointers i j (array n t) = refl
pointers i j (slice t) = refl
pointers i j (struct fs) = refl
pointers i j (func ps rs v) = refl
pointers i j (interface ms) = refl
pointers i j (mapping k v) = refl
pointers i j (chan d t) = refl
pointers i j (named id) = refl
pointers i j (tuple ts) = refl

-- where the fields stand isn't seen
index_free : (p : Ty → List Member) (fs : Fields) (i j : ℕ) → look (through p i fs) ≡ look (through p j fs)
index_free p no_fields i j = refl
index_free p (more_fields name package_ t true tag fs) i j =
    look_append (map (behind (steps_to i t)) (p (base_of t))) (through p (i + 1) fs)
    ∙ ap (λ (x : Look). plus x (look (through p (i + 1) fs))) (look_behind (steps_to i t) (p (base_of t)) ∙ ap (λ (b : Bool). shift b (look (p (base_of t)))) (pointers i j t) ∙ sym (look_behind (steps_to j t) (p (base_of t))))
    ∙ ap (plus (look (map (behind (steps_to j t)) (p (base_of t))))) (index_free p fs (i + 1) (j + 1))
    ∙ sym (look_append (map (behind (steps_to j t)) (p (base_of t))) (through p (j + 1) fs))
index_free p (more_fields name package_ t false tag fs) i j = index_free p fs (i + 1) (j + 1)

pub not_something : (ts : List Ty) (xs : List Member) (h : Hit) → is_something h ≡ false → Sees ts xs h → xs ≡ []
not_something ts xs Nothing e s = s
not_something ts xs Several e s = cc
not_something ts xs Field e s = cc
not_something ts xs (Method id b c sig) e s = cc

-- ---- types at a depth

module _ (ns : List NamedTy) (ts : List Ty) where
  total_push : (f : Sought) (k : ℕ) (es : List (ℕ × Bool)) (e : ℕ × Bool) → total ns ts f (es ++ e ∷ []) k ≡ plus (total ns ts f es k) (shift e.1 (seen_in ns ts f k e.0))
  total_push f k [] e = plus_none (shift e.1 (seen_in ns ts f k e.0))
  total_push f k (x ∷ es) e = ap (plus (shift x.1 (seen_in ns ts f k x.0))) (total_push f k es e) ∙ sym (plus_assoc (shift x.1 (seen_in ns ts f k x.0)) (total ns ts f es k) (shift e.1 (seen_in ns ts f k e.0)))

  pub expands_push : (seen : List ℕ) (id : ℕ) (follows : Bool) (old new : List (ℕ × Bool)) → new ≡ old ++ (id, follows) ∷ [] → Expands ns ts seen (λ f k. shift follows (seen_in ns ts f k id)) old new
  expands_push seen id follows old new e = record { is = λ f k q. ap (λ (es : List (ℕ × Bool)). total ns ts f es k) e ∙ total_push f k old (id, follows) }

  quiet_at : (f : Sought) (k : ℕ) (seen : List ℕ) (id : ℕ) → list_any (nat_eq id) seen ≡ true → Quiet ns ts f seen k → members_at ns f k (get_or ts id bool) ≡ []
  quiet_at f k [] id h q = cc
  quiet_at f k (i ∷ seen) id h q = by (λ g. quiet_at f k seen id g q.1) (nat_eq id i) refl h
    where
      by : (list_any (nat_eq id) seen ≡ true → members_at ns f k (get_or ts id bool) ≡ []) → (b : Bool) → nat_eq id i ≡ b → (b || list_any (nat_eq id) seen) ≡ true → members_at ns f k (get_or ts id bool) ≡ []
      by rest true e h = subst (λ (j : ℕ). members_at ns f k (get_or ts j bool) ≡ []) (sym (eqb-true id i e)) q.0
      by rest false e h = rest h

  pub expands_seen : (seen : List ℕ) (id : ℕ) (follows : Bool) (old : List (ℕ × Bool)) → list_any (nat_eq id) seen ≡ true → Expands ns ts seen (λ f k. shift follows (seen_in ns ts f k id)) old old
  expands_seen seen id follows old h = record { is = λ f k q. sym (ap (λ (ms : List Member). plus (total ns ts f old k) (shift follows (look ms))) (quiet_at f k seen id h q) ∙ plus_none (total ns ts f old k)) }

  -- a type that is there shows its members, and several where it is there twice
  shows_once : (f : Sought) (k id : ℕ) (es : List (ℕ × Bool)) → 1 ≤ times_in id es → (seen_in ns ts f k id ≡ none) ⊎ (total ns ts f es k ≡ none → ⊥)
  shows_once f k id [] l = absurd (omega arith)
  shows_once f k id (e ∷ es) l = by (shows_once f k id es) (nat_eq id e.0) refl l
    where
      by : (1 ≤ times_in id es → (seen_in ns ts f k id ≡ none) ⊎ (total ns ts f es k ≡ none → ⊥)) → (b : Bool) → nat_eq id e.0 ≡ b → 1 ≤ (if b then 1 else 0) + times_in id es
          → (seen_in ns ts f k id ≡ none) ⊎ (plus (shift e.1 (seen_in ns ts f k e.0)) (total ns ts f es k) ≡ none → ⊥)
      by rest true h l =
          let same : id ≡ e.0 = eqb-true id e.0 h in
          elim (some_or (seen_in ns ts f k id)) [
            | inl g ↦ inl g
            | inr g ↦ inr (λ q. g (ap (λ (j : ℕ). seen_in ns ts f k j) same ∙ unshifted e.1 (seen_in ns ts f k e.0) (plus_left (shift e.1 (seen_in ns ts f k e.0)) (total ns ts f es k) q)))
          ]
      by rest false h l = elim (rest (omega arith)) [ inl g ↦ inl g | inr g ↦ inr (λ q. g (plus_right (shift e.1 (seen_in ns ts f k e.0)) (total ns ts f es k) q)) ]

  shows_twice : (f : Sought) (k id : ℕ) (es : List (ℕ × Bool)) → 2 ≤ times_in id es → (seen_in ns ts f k id ≡ none) ⊎ (total ns ts f es k ≡ several)
  shows_twice f k id [] l = absurd (omega arith)
  shows_twice f k id (e ∷ es) l = by (shows_twice f k id es) (nat_eq id e.0) refl l
    where
      by : (2 ≤ times_in id es → (seen_in ns ts f k id ≡ none) ⊎ (total ns ts f es k ≡ several)) → (b : Bool) → nat_eq id e.0 ≡ b → 2 ≤ (if b then 1 else 0) + times_in id es
          → (seen_in ns ts f k id ≡ none) ⊎ (plus (shift e.1 (seen_in ns ts f k e.0)) (total ns ts f es k) ≡ several)
      by rest true h l =
          let same : id ≡ e.0 = eqb-true id e.0 h in
          elim (some_or (seen_in ns ts f k id)) [
            | inl g ↦ inl g
            | inr g ↦ elim (shows_once f k id es (omega arith)) [
              | inl q ↦ inl q
              | inr q ↦ inr (plus_two (shift e.1 (seen_in ns ts f k e.0)) (total ns ts f es k) (λ r. g (ap (λ (j : ℕ). seen_in ns ts f k j) same ∙ unshifted e.1 (seen_in ns ts f k e.0) r)) q)
            ]
          ]
      by rest false h l = elim (rest (omega arith)) [ inl g ↦ inl g | inr g ↦ inr (ap (plus (shift e.1 (seen_in ns ts f k e.0))) g ∙ plus_several (shift e.1 (seen_in ns ts f k e.0))) ]

  pub expands_twice : (seen : List ℕ) (id : ℕ) (follows : Bool) (old : List (ℕ × Bool)) → 2 ≤ times_in id old → Expands ns ts seen (λ f k. shift follows (seen_in ns ts f k id)) old old
  expands_twice seen id follows old l = record { is = λ f k q. by f k (shows_twice f k id old l) }
    where
      by : (f : Sought) (k : ℕ) → (seen_in ns ts f k id ≡ none) ⊎ (total ns ts f old k ≡ several) → total ns ts f old k ≡ plus (total ns ts f old k) (shift follows (seen_in ns ts f k id))
      by f k (inl g) = sym (ap (λ (x : Look). plus (total ns ts f old k) (shift follows x)) g ∙ plus_none (total ns ts f old k))
      by f k (inr g) = g ∙ sym (ap (λ (x : Look). plus x (shift follows (seen_in ns ts f k id))) g)

  module _ (seen : List ℕ) where
    pub expands_both : (a b : Sought → ℕ → Look) (old mid new : List (ℕ × Bool)) → Expands ns ts seen a old mid → Expands ns ts seen b mid new → Expands ns ts seen (λ f k. plus (a f k) (b f k)) old new
    expands_both a b old mid new x y = record { is = λ f k q. y.is f k q ∙ ap (λ (z : Look). plus z (b f k)) (x.is f k q) ∙ plus_assoc (total ns ts f old k) (a f k) (b f k) }

    pub expands_like : (a b : Sought → ℕ → Look) (old new : List (ℕ × Bool)) → ((f : Sought) (k : ℕ) → a f k ≡ b f k) → Expands ns ts seen a old new → Expands ns ts seen b old new
    expands_like a b old new e x = record { is = λ f k q. x.is f k q ∙ ap (plus (total ns ts f old k)) (e f k) }

    pub expands_nothing : (a : Sought → ℕ → Look) (old : List (ℕ × Bool)) → ((f : Sought) (k : ℕ) → a f k ≡ none) → Expands ns ts seen a old old
    expands_nothing a old e = record { is = λ f k q. sym (ap (plus (total ns ts f old k)) (e f k) ∙ plus_none (total ns ts f old k)) }

    -- the look of a struct's fields
    abbrev pub fields_look : Bool → List FieldRow → Sought → ℕ → Look
    fields_look follows fs f k = shift follows (look (through (members_at ns f k) 0 (fields_of ts fs)))

    pub enters_field : (follows pointer_ : Bool) (id : ℕ) (r : FieldRow) (rest fs : List FieldRow) (old mid new : List (ℕ × Bool)) → rest ≡ r ∷ fs → r.embedded ≡ true → get_or ts id bool ≡ base_of (tree_of ts r.ty) → ((i : ℕ) → has_pointer (steps_to i (tree_of ts r.ty)) ≡ pointer_)
        → Expands ns ts seen (λ f k. shift (follows || pointer_) (seen_in ns ts f k id)) old mid → Expands ns ts seen (fields_look follows fs) mid new → Expands ns ts seen (fields_look follows rest) old new
    enters_field follows pointer_ id r rest fs old mid new e h tree ptr x y =
        subst (λ (xs : List FieldRow). Expands ns ts seen (fields_look follows xs) old new) (sym e)
        (expands_like (λ f k. plus (shift (follows || pointer_) (seen_in ns ts f k id)) (fields_look follows fs f k)) (fields_look follows (r ∷ fs)) old new
        (λ f k. field_step (members_at ns f k) follows pointer_ id r fs h tree ptr) (expands_both (λ f k. shift (follows || pointer_) (seen_in ns ts f k id)) (fields_look follows fs) old mid new x y))
      where
        field_step : (p : Ty → List Member) (follows pointer_ : Bool) (id : ℕ) (r : FieldRow) (fs : List FieldRow) → r.embedded ≡ true → get_or ts id bool ≡ base_of (tree_of ts r.ty) → ((i : ℕ) → has_pointer (steps_to i (tree_of ts r.ty)) ≡ pointer_)
            → plus (shift (follows || pointer_) (look (p (get_or ts id bool)))) (shift follows (look (through p 0 (fields_of ts fs)))) ≡ shift follows (look (through p 0 (fields_of ts (r ∷ fs))))
        field_step p follows pointer_ id r fs h tree ptr =
            let u = tree_of ts r.ty in
            let back = through p 1 (fields_of ts fs) in
            let one_ : shift (follows || pointer_) (look (p (get_or ts id bool))) ≡ shift follows (look (map (behind (steps_to 0 u)) (p (base_of u)))) =
            sym (ap (shift follows) (look_behind (steps_to 0 u) (p (base_of u)) ∙ ap (λ (b : Bool). shift b (look (p (base_of u)))) (ptr 0) ∙ ap (λ (v : Ty). shift pointer_ (look (p v))) (sym tree)) ∙ shift_shift follows pointer_ (look (p (get_or ts id bool)))) in
            let two_ : look (through p 0 (fields_of ts fs)) ≡ look back = index_free p (fields_of ts fs) 0 1 in
            let sum : plus (shift follows (look (map (behind (steps_to 0 u)) (p (base_of u))))) (shift follows (look back)) ≡ shift follows (look (map (behind (steps_to 0 u)) (p (base_of u)) ++ back)) =
            sym (ap (shift follows) (look_append (map (behind (steps_to 0 u)) (p (base_of u))) back) ∙ shift_plus follows (look (map (behind (steps_to 0 u)) (p (base_of u)))) (look back)) in
            ap (λ (x : Look). plus x (shift follows (look (through p 0 (fields_of ts fs))))) one_ ∙ ap (λ (x : Look). plus (shift follows (look (map (behind (steps_to 0 u)) (p (base_of u))))) (shift follows x)) two_ ∙ sum
            ∙ sym (ap (λ (b : Bool). shift follows (look ((if b then map (behind (steps_to 0 u)) (p (base_of u)) else []) ++ back))) h)

    pub skips_field : (follows : Bool) (r : FieldRow) (rest fs : List FieldRow) (old new : List (ℕ × Bool)) → rest ≡ r ∷ fs → r.embedded ≡ false → Expands ns ts seen (fields_look follows fs) old new → Expands ns ts seen (fields_look follows rest) old new
    skips_field follows r rest fs old new e h x =
        subst (λ (xs : List FieldRow). Expands ns ts seen (fields_look follows xs) old new) (sym e)
        (expands_like (fields_look follows fs) (fields_look follows (r ∷ fs)) old new
        (λ f k. ap (shift follows) (index_free (members_at ns f k) (fields_of ts fs) 0 1) ∙ sym (ap (λ (b : Bool). shift follows (look ((if b then map (behind (steps_to 0 (tree_of ts r.ty))) (members_at ns f k (base_of (tree_of ts r.ty))) else []) ++ through (members_at ns f k) 1 (fields_of ts fs)))) h)) x)

    pub fields_end : (follows : Bool) (rest : List FieldRow) (old : List (ℕ × Bool)) → length rest ≡ 0 → Expands ns ts seen (fields_look follows rest) old old
    fields_end follows [] old e = expands_nothing (fields_look follows []) old (λ f k. refl)
    fields_end follows (r ∷ fs) old e = absurd (omega arith)

    pub level_end : (rest old : List (ℕ × Bool)) → length rest ≡ 0 → Expands ns ts seen (λ f k. total ns ts f rest (suc k)) old old
    level_end [] old e = expands_nothing (λ f k. none) old (λ f k. refl)
    level_end (x ∷ rest) old e = absurd (omega arith)

  -- ---- the walk

  spread_look : (f : Sought) (es : List (ℕ × Bool)) → look (spread ns ts f es) ≡ total ns ts f es 0
  unfolding members_at
  spread_look f [] = refl
  spread_look f (e ∷ es) =
      let own = own_members ns f (get_or ts e.0 bool) in
      look_append (map (behind (pointer_if e.1)) own) (spread ns ts f es)
      ∙ ap (λ (x : Look). plus x (look (spread ns ts f es))) (look_behind (pointer_if e.1) own ∙ ap (λ (b : Bool). shift b (look own)) (if_pointer e.1))
      ∙ ap (plus (shift e.1 (look own))) (spread_look f es)

  module _ (f : Sought) (t : Ty) where
    -- what stands at a depth and below is seen from these types, and nothing by those that were seen before
    pub record Walks (d : ℕ) (seen : List ℕ) (level : List (ℕ × Bool)) : Type 0 where
      pub before : NoneBefore ns f t d
      pub cover : (k : ℕ) → NoneBefore ns f t (d + k) → look (members_at ns f (d + k) t) ≡ total ns ts f level k
      pub quiet : (k : ℕ) → NoneBefore ns f t (d + k) → Quiet ns ts f seen k

    less : (m n : ℕ) → m ≤ n → NoneBefore ns f t n → NoneBefore ns f t m
    less m n l b = record { at = λ e h. b.at e (omega arith) }

    pub walks_start : (id : ℕ) (seen : List ℕ) (level : List (ℕ × Bool)) → seen ≡ [] → level ≡ (id, false) ∷ [] → get_or ts id bool ≡ t → Walks 0 seen level
    walks_start id seen level e g tree = subst (λ (s : List ℕ). Walks 0 s level) (sym e) (subst (Walks 0 []) (sym g) (record {
      before = record { at = λ e l. absurd (omega arith) };
      cover = λ k b. let h : 0 + k ≡ k = omega arith in ap (λ (n : ℕ). look (members_at ns f n t)) h ∙ ap (λ (u : Ty). look (members_at ns f k u)) (sym tree) ∙ sym (plus_none (shift false (seen_in ns ts f k id)) ∙ shift_false (seen_in ns ts f k id));
      quiet = λ k b. tt;
    }))

    pub sees_here : (d : ℕ) (seen : List ℕ) (level : List (ℕ × Bool)) (h : Hit) → Walks d seen level → Sees ts (spread ns ts f level) h → Sees ts (members_at ns f d t) h
    sees_here d seen level h w s =
        let z : d + 0 ≡ d = omega arith in
        let e : look (members_at ns f d t) ≡ total ns ts f level 0 = ap (λ (n : ℕ). look (members_at ns f n t)) (sym z) ∙ w.cover 0 (less (d + 0) d (omega arith) w.before) in
        sees_look ts (members_at ns f d t) (spread ns ts f level) h (e ∙ sym (spread_look f level)) s

    quiet_level : (k : ℕ) (es : List (ℕ × Bool)) → total ns ts f es k ≡ none → Quiet ns ts f (map first_of es) k
    quiet_level k [] h = tt
    quiet_level k (e ∷ es) h =
        let x = shift e.1 (seen_in ns ts f k e.0) in
        (look_none (members_at ns f k (get_or ts e.0 bool)) (unshifted e.1 (seen_in ns ts f k e.0) (plus_left x (total ns ts f es k) h)), quiet_level k es (plus_right x (total ns ts f es k) h))

    quiet_both : (k : ℕ) (xs ys : List ℕ) → Quiet ns ts f xs k → Quiet ns ts f ys k → Quiet ns ts f (xs ++ ys) k
    quiet_both k [] ys a b = b
    quiet_both k (x ∷ xs) ys a b = (a.0, quiet_both k xs ys a.1 b)

    pub walks_next : (d : ℕ) (seen all : List ℕ) (level none_ next : List (ℕ × Bool)) → Walks d seen level → members_at ns f d t ≡ [] → all ≡ seen ++ map first_of level → none_ ≡ [] → Expands ns ts all (λ s k. total ns ts s level (suc k)) none_ next → Walks (d + 1) all next
    walks_next d seen all level none_ next w empty e g x = record {
      before = record { at = λ j l. by j (cases_lt j d) l };
      cover = λ k b.
          let m : (d + 1) + k ≡ d + suc k = omega arith in
          ap (λ (n : ℕ). look (members_at ns f n t)) m ∙ w.cover (suc k) (less (d + suc k) ((d + 1) + k) (omega arith) b) ∙ sym (x.is f k (hush k b) ∙ ap (λ (es : List (ℕ × Bool)). plus (total ns ts f es k) (total ns ts f level (suc k))) g);
      quiet = hush;
    }
      where
        by : (j : ℕ) → (j < d) ⊎ (d ≤ j) → j < d + 1 → members_at ns f j t ≡ []
        by j (inl l) h = w.before.at j l
        by j (inr l) h = let q : d ≡ j = omega arith in subst (λ (n : ℕ). members_at ns f n t ≡ []) q empty

        hush : (k : ℕ) → NoneBefore ns f t ((d + 1) + k) → Quiet ns ts f all k
        hush k b =
            let low : NoneBefore ns f t (d + k) = less (d + k) ((d + 1) + k) (omega arith) b in
            let quiet : total ns ts f level k ≡ none = sym (w.cover k low) ∙ ap look (b.at (d + k) (omega arith)) in
            subst (λ (ids : List ℕ). Quiet ns ts f ids k) (sym e) (quiet_both k seen (map first_of level) (w.quiet k low) (quiet_level k level quiet))

    more : (n : ℕ) → NoneBefore ns f t n → members_at ns f n t ≡ [] → NoneBefore ns f t (suc n)
    more n b h = record { at = λ j l. by j (cases_lt j n) l }
      where
        by : (j : ℕ) → (j < n) ⊎ (n ≤ j) → j < suc n → members_at ns f j t ≡ []
        by j (inl q) l = b.at j q
        by j (inr q) l = let r : n ≡ j = omega arith in subst (λ (m : ℕ). members_at ns f m t ≡ []) r h

    module _ (d : ℕ) (seen : List ℕ) (level : List (ℕ × Bool)) (w : Walks d seen level) (over : level ≡ []) where
      here_none : (k : ℕ) → NoneBefore ns f t (d + k) → members_at ns f (d + k) t ≡ []
      here_none k b = look_none (members_at ns f (d + k) t) (w.cover k b ∙ ap (λ (es : List (ℕ × Bool)). total ns ts f es k) over)

      none_upto : (k : ℕ) → NoneBefore ns f t (d + k)
      none_upto zero = less (d + 0) d (omega arith) w.before
      none_upto (suc k) = less (d + suc k) (suc (d + k)) (omega arith) (more (d + k) (none_upto k) (here_none k (none_upto k)))

      pub walks_end : (e : ℕ) → members_at ns f e t ≡ []
      walks_end e = by (cases_lt e d)
        where
          by : (e < d) ⊎ (d ≤ e) → members_at ns f e t ≡ []
          by (inl l) = w.before.at e l
          by (inr l) = let q : d + (e - d) ≡ e = omega arith in subst (λ (n : ℕ). members_at ns f n t ≡ []) q (here_none (e - d) (none_upto (e - d)))

pub on_true : (b : Bool) (P Q : Type 0) → (P → Q) → OnTrue b P → OnTrue b Q
on_true true P Q f h = f h
on_true false P Q f h = h

-- ---- the answer of a walk, part by part

module _ (n : ℕ) (ts : List Ty) (ns : List NamedTy) (f : Sought) (t : Ty) where
  pub shallow_none : (o : Option (ℕ × Hit)) → IsShallow n ts ns f t o → IfNone o ((d : ℕ) → members_at ns f d t ≡ [])
  shallow_none None h = h
  shallow_none (Some r) h = tt

  pub shallow_before : (o : Option (ℕ × Hit)) → IsShallow n ts ns f t o → IfSome o (λ r. NoneBefore ns f t r.0)
  shallow_before None h = tt
  shallow_before (Some r) h = h.0

  pub shallow_here : (o : Option (ℕ × Hit)) → IsShallow n ts ns f t o → IfSome o (λ r. Sees ts (members_at ns f r.0 t) r.1)
  shallow_here None h = tt
  shallow_here (Some r) h = h.1

  pub shallow_something : (o : Option (ℕ × Hit)) → IsShallow n ts ns f t o → IfSome o (λ r. IsSomething r.1)
  shallow_something None h = tt
  shallow_something (Some r) h = h.2

  pub shallow_within : (o : Option (ℕ × Hit)) → IsShallow n ts ns f t o → IfSome o (λ r. IsIn n r.1)
  shallow_within None h = tt
  shallow_within (Some r) h = h.3

-- ---- whether the shallowest depth is a given one

some_there : (ts : List Ty) (xs : List Member) (h : Hit) → Sees ts xs h → IsSomething h → 1 ≤ length xs
some_there ts xs Nothing s i = absurd i
some_there ts xs Several s i = omega arith
some_there ts xs Field s i = omega (arith, ap length s.1)
some_there ts xs (Method id b c sig) s i = omega (arith, ap length s.1)

pub leads_test : (ts : List Ty) (ns : List NamedTy) (f : Sought) (u : Ty) (d at : ℕ) (h : Hit) → NoneBefore ns f u d → NoneBefore ns f u at → Sees ts (members_at ns f at u) h → IsSomething h → LeadsOnTo (members_at ns f d u) (at == d)
leads_test ts ns f u d at h before above s some = by (at == d) refl
  where
    by : (b : Bool) → (at == d) ≡ b → LeadsOnTo (members_at ns f d u) b
    by true e = let q : at ≡ d = eqb-true at d e in subst (λ (k : ℕ). 1 ≤ length (members_at ns f k u)) q (some_there ts (members_at ns f at u) h s some)
    by false e = elim (cases_lt at d) [
      | inl l ↦ let g = before.at at l in let k = some_there ts (members_at ns f at u) h s some in absurd (omega (arith, ap length g, k))
      | inr l ↦ elim (cases_lt d at) [ inl m ↦ above.at d m | inr m ↦ let q : at ≡ d = omega arith in let g = eq-eqb at d q in cc ]
    ]

-- what no field leads to, none of them leads to
pub quiet_field : (p : Ty → List Member) (i : ℕ) (t : Ty) (embedded : Bool) (others : List Member) → embedded ≡ true → through_one p i t embedded ++ others ≡ [] → p (base_of t) ≡ []
quiet_field p i t true others e h = unmapped (p (base_of t)) (front (map (behind (steps_to i t)) (p (base_of t))) others h)
  where
    front : (xs ys : List Member) → xs ++ ys ≡ [] → xs ≡ []
    front [] ys h = refl
    front (x ∷ xs) ys h = cc

    unmapped : (xs : List Member) → map (behind (steps_to i t)) xs ≡ [] → xs ≡ []
    unmapped [] h = refl
    unmapped (x ∷ xs) h = cc
quiet_field p i t false others e h = cc

pub quiet_others : (xs ys : List Member) → xs ++ ys ≡ [] → ys ≡ []
quiet_others [] ys h = h
quiet_others (x ∷ xs) ys h = cc

pub leads_embedded : (p : Ty → List Member) (t : Ty) (embedded b : Bool) → LeadsOn p t embedded b → b ≡ true → embedded ≡ true
leads_embedded p t true b l h = refl
leads_embedded p t false b l h = let e : b ≡ false = l in cc

pub leads_nowhere : (p : Ty → List Member) (i : ℕ) (t : Ty) (embedded b : Bool) → LeadsOn p t embedded b → b ≡ false → through_one p i t embedded ≡ []
leads_nowhere p i t false b l h = refl
leads_nowhere p i t true b l h = ap (map (behind (steps_to i t))) (subst (LeadsOnTo (p (base_of t))) h l)

-- How far a range has come: its beginning, its next key and value, and where it goes on.
use Rattle.std.proofs.Common.{refl, sym, ap, ◌∙◌, subst, arith}
use Rattle.std.specs.Prelude.{◌≡◌, ◌<◌, ℕ, zero, suc, ◌+◌, ◌*◌, ℤ, pos, negsuc, List, [], ◌∷◌, ◌++◌, Bool, true, false, not, ◌&&◌, ◌||◌, ◌==◌, if◌then◌else◌, nat_lt, nat_le, length, take, drop, Option, Some, None, slice_get}
use Rattle.std.proofs.lemmas.Bool.{ltb-true, eqb-false, eq-eqb}
use Rattle.go_type.specs.declared.types.IntName.TheVariants as integer
use Rattle.go_type.specs.Tree as ty
use Rattle.go_type.specs.Tree.{Ty}
use Rattle.go_type.specs.Underlying.{underlying}
use Rattle.go_core.specs.Layout.{shape_of, size}
use Rattle.go_core.specs.Memory as cell
use Rattle.go_core.specs.Memory.{Scalar, Value, Memory, Entry, read_cells}
use Rattle.go_core.specs.CoreTree.{CoreProgram}
use Rattle.go_core.specs.TypeOf.{int_type}
use Rattle.go_core.specs.SoundNode.{IsArray}
use Rattle.go_core.specs.Sound.{IsRanged, RangesKey, RangesElement, RangesValue}
use Rattle.go_core.specs.SoundProgram.{AreSet}
use Rattle.go_core.specs.Text.{rune_of}
use Rattle.go_core.specs.StepMemory.{count_of}
use Rattle.go_core.specs.StepMaps.{entries_in}
use Rattle.go_core.specs.Control as k
use Rattle.go_core.specs.Goroutine.{Cursor, numbers, copied, elements, characters, entries}
use Rattle.go_core.specs.Leaves.{Leaf, leaf, leaf_of, or_filler, times, leaves_with, leaves_under, name_leaves, leaves_of, Spans}
use Rattle.go_type.specs.Named.{NamedTy}
use Rattle.go_type.specs.Underlying.{under_at}
use Rattle.go_core.specs.Typed.{World, whole_typed, Lists, IsOf, EntriesOf, MemoryTyped, untagged_map}
use Rattle.go_core.specs.TasksTyped.{CursorTyped}
use Rattle.go_core.proofs.LeavesLemmas.{size_leaves, under_leaves, unfilled as unfilled_spans, spans_fewer, spans_element}
use Rattle.go_core.proofs.MemoryLemmas.{reads, map_found}
use Rattle.go_core.proofs.TypedScalars.{whole_in, text_in, pointer_in, slice_in, map_in, one_scalar}
use Rattle.go_core.proofs.OperatorsSlices.{front}

-- ---- each type has a leaf

abbrev AreSome : List Leaf → Type 0
AreSome [] = ⊥
AreSome (l ∷ ls) = Unit {0}

some_filled : (ls : List Leaf) → AreSome (or_filler ls)
some_filled [] = tt
some_filled (l ∷ ls) = tt

some_with : (of_name : ℕ → List Leaf) → ((id : ℕ) → AreSome (of_name id)) → (t : Ty) → AreSome (leaves_with of_name t)
some_with of_name h (ty.array n t) = some_filled _
some_with of_name h (ty.struct fs) = some_filled _
some_with of_name h (ty.named id) = h id
some_with of_name h _ = tt

some_under : (f : Ty → List Leaf) → ((t : Ty) → AreSome (f t)) → (o : Option Ty) → AreSome (leaves_under f o)
some_under f h None = tt
some_under f h (Some t) = h t

some_name : (ns : List NamedTy) (n id : ℕ) → AreSome (name_leaves ns n id)
some_name ns zero id = tt
some_name ns (suc n) id = some_under (leaves_with (name_leaves ns n)) (some_with (name_leaves ns n) (some_name ns n)) (under_at ns id)

some_leaves : (ns : List NamedTy) (t : Ty) → AreSome (leaves_of ns t)
some_leaves ns t = some_with (name_leaves ns (length ns)) (some_name ns (length ns)) t

module _ (p : CoreProgram) (w : World) where
  back : (ls ks : List Leaf) (xs : Value) → Lists p w (ls ++ ks) xs → Lists p w ks (drop (length ls) xs)
  back [] ks xs h = h
  back (l ∷ ls) ks [] h = absurd h
  back (l ∷ ls) ks (x ∷ xs) h = back ls ks xs h.1

  -- an array that has an element takes no filler
  unfilled : (n : ℕ) (ls : List Leaf) (x : Value) → AreSome ls → Lists p w (or_filler (times (suc n) ls)) x → Lists p w (times (suc n) ls) x
  unfilled n [] x h g = absurd h
  unfilled n (l ∷ ls) x h g = g

  abbrev pub Begun : Ty → Bool → Option Cursor → Type 0
  Begun u true c = Unit {0}
  Begun u false None = ⊥
  Begun u false (Some c) = CursorTyped p w u c

  abbrev pub NextTyped : (g : ℕ) → Ty → k.Next p g → Type 0
  NextTyped g u (k.next key value c) = ((t : Ty) → RangesKey u t → IsOf p w t key) × ((t : Ty) → RangesValue p u t → IsOf p w t value) × CursorTyped p w u c
  NextTyped g u k.over = Unit {0}
  NextTyped g u k.not_so = Unit {0}

  abbrev pub IsSo : (g : ℕ) → k.Next p g → Type 0
  IsSo g k.not_so = ⊥
  IsSo g _ = Unit {0}

  if_next : (g : ℕ) (Q : k.Next p g → Type 0) (b : Bool) (x y : k.Next p g) → (b ≡ true → Q x) → (b ≡ false → Q y) → Q (if b then x else y)
  if_next g Q true x y h i = h refl
  if_next g Q false x y h i = i refl

  int_value : (n : ℕ) (t : Ty) → t ≡ int_type → IsOf p w t (cell.whole (pos n) ∷ [])
  int_value n t e = subst (λ u. IsOf p w u (cell.whole (pos n) ∷ [])) (sym e) (whole_typed integer.Int (pos n), tt)

  rune_value : (n : ℕ) (t : Ty) → t ≡ ty.int integer.Int32 → IsOf p w t (cell.whole (pos n) ∷ [])
  rune_value n t e = subst (λ u. IsOf p w u (cell.whole (pos n) ∷ [])) (sym e) (whole_typed integer.Int32 (pos n), tt)

module _ (p : CoreProgram) (w : World) (m : Memory) (mt : MemoryTyped p w m) (g : ℕ) where
  -- ---- the beginning

  an_array : (b : Ty) → IsArray b → (n : ℕ) × (u : Ty) × (b ≡ ty.array n u)
  an_array (ty.array n u) h = (n, u, refl)
  an_array _ h = absurd h

  by_count : (n : ℕ) (u : Ty) (x : Value) → Lists p w (leaves_of p.names (ty.array n u)) x → (b : Bool) → (n == 0) ≡ b → Begun p w (ty.array n u) false (Some (copied 0 (if b then [] else x)))
  by_count n u x h true r = (0, tt)
  by_count zero u x h false r = absurd (eqb-false 0 0 r refl)
  by_count (suc n) u x h false r = (suc n, unfilled p w n (leaves_of p.names u) x (some_leaves p.names u) h)

  by_array : (n : ℕ) (u : Ty) (x : Value) → Lists p w (leaves_of p.names (ty.array n u)) x → Begun p w (ty.array n u) false (k.cursor_of p g (ty.array n u) x m)
  by_array n u x h = by_count n u x h (n == 0) refl

  -- through a pointer to an array
  array_at : (t : Ty) (n : ℕ) (u : Ty) (base : ℕ) → underlying p.names t ≡ ty.array n u → Spans w.cells base (times n (leaves_of p.names u)) → Begun p w (ty.pointer t) false (k.cursor_of p g (ty.pointer t) (cell.pointer base ∷ []) m)
  array_at t n u base e h =
      subst (λ v. Begun p w (ty.pointer t) false (k.over_array p g v (cell.pointer base ∷ []) 0)) (sym e) (n, u, e, h)

  no_array : (t : Ty) (n : ℕ) (u : Ty) → underlying p.names t ≡ ty.array n u → Begun p w (ty.pointer t) (k.is_nil_array p g (ty.pointer t) (cell.nil ∷ [])) (k.cursor_of p g (ty.pointer t) (cell.nil ∷ []) m)
  no_array t n u e =
      subst (λ v. Begun p w (ty.pointer t) (not (count_of v == 0)) (k.over_array p g v (cell.nil ∷ []) 0)) (sym e) (by_none (n == 0))
    where
      by_none : (b : Bool) → Begun p w (ty.pointer t) (not b) (Some (numbers 0 0))
      by_none true = refl
      by_none false = tt

  pub begins : (set : AreSet p) (u : Ty) (x : Value) → IsRanged p u → Lists p w (leaves_of p.names u) x → Begun p w u (k.is_nil_array p g u x) (k.cursor_of p g u x m)
  begins set (ty.int name) x i h =
      one_scalar p w (leaf (ty.int name)) x (λ y. Begun p w (ty.int name) (k.is_nil_array p g (ty.int name) y) (k.cursor_of p g (ty.int name) y m)) h
      (λ y c. whole_in p w name y (λ z. Begun p w (ty.int name) (k.is_nil_array p g (ty.int name) (z ∷ [])) (k.cursor_of p g (ty.int name) (z ∷ []) m)) c by_sign)
    where
      by_sign : (n : ℤ) → Begun p w (ty.int name) false (k.cursor_of p g (ty.int name) (cell.whole n ∷ []) m)
      by_sign (pos n) = tt
      by_sign (negsuc n) = tt
  begins set (ty.array n u) x i h = by_array n u x h
  begins set (ty.slice u) x i h =
      one_scalar p w (leaf_of (ty.slice u)) x (λ y. Begun p w (ty.slice u) (k.is_nil_array p g (ty.slice u) y) (k.cursor_of p g (ty.slice u) y m)) h
      (λ y c. slice_in p w u y (λ z. Begun p w (ty.slice u) (k.is_nil_array p g (ty.slice u) (z ∷ [])) (k.cursor_of p g (ty.slice u) (z ∷ []) m)) c refl
      (λ base len capacity le l. spans_fewer w.cells (leaves_of p.names u) base capacity len le l))
  begins set (ty.pointer t) x i h =
      let a = an_array (underlying p.names t) i in
      one_scalar p w (leaf_of (ty.pointer t)) x (λ y. Begun p w (ty.pointer t) (k.is_nil_array p g (ty.pointer t) y) (k.cursor_of p g (ty.pointer t) y m)) h
      (λ y c. pointer_in p w t y (λ z. Begun p w (ty.pointer t) (k.is_nil_array p g (ty.pointer t) (z ∷ [])) (k.cursor_of p g (ty.pointer t) (z ∷ []) m)) c (no_array t a.0 a.1 a.2)
      (λ base l. array_at t a.0 a.1 base a.2
      (unfilled_spans w.cells base (times a.0 (leaves_of p.names a.1)) (subst (Spans w.cells base) (under_leaves p set t ∙ ap (leaves_of p.names) a.2) l))))
  begins set ty.str x i h =
      one_scalar p w (leaf ty.str) x (λ y. Begun p w ty.str (k.is_nil_array p g ty.str y) (k.cursor_of p g ty.str y m)) h
      (λ y c. text_in p w y (λ z. Begun p w ty.str (k.is_nil_array p g ty.str (z ∷ [])) (k.cursor_of p g ty.str (z ∷ []) m)) c (λ bytes. tt))
  begins set (ty.mapping a b) x i h =
      one_scalar p w (leaf_of (ty.mapping a b)) x (λ y. Begun p w (ty.mapping a b) (k.is_nil_array p g (ty.mapping a b) y) (k.cursor_of p g (ty.mapping a b) y m)) h
      (λ y c. map_in p w a b y (λ z. Begun p w (ty.mapping a b) (k.is_nil_array p g (ty.mapping a b) (z ∷ [])) (k.cursor_of p g (ty.mapping a b) (z ∷ []) m)) c tt
      (λ name at. let f = map_found p w w.maps m.maps name (record { key = a; value = b }) mt.maps_typed at in
      subst (λ o. Begun p w (ty.mapping a b) false (k.births_of p g name o)) (sym f.is_at) at))
  begins set _ x i h = absurd i

  -- ---- the next

  copied_next : (u : Ty) (i n : ℕ) (x : Scalar) (xs : Value) → Lists p w (times n (leaves_of p.names u)) (x ∷ xs) → NextTyped p w g (ty.array n u) (k.next_of p g (ty.array n u) None (copied i (x ∷ xs)) m)
  copied_next u i zero x xs h = absurd h
  copied_next u i (suc n) x xs h =
      let ls = leaves_of p.names u in
      let e = sym (size_leaves p.names u) in (
        int_value p w i,
        (λ t q. subst (λ v. IsOf p w v (take (size (shape_of p.names u)) (x ∷ xs))) (sym q) (subst (λ j. Lists p w ls (take j (x ∷ xs))) e (front p w ls (times n ls) (x ∷ xs) h))),
        (n, subst (λ j. Lists p w (times n ls) (drop j (x ∷ xs))) e (back p w ls (times n ls) (x ∷ xs) h)),
      )

  element : (u : Ty) (one_size base n i : ℕ) → one_size ≡ size (shape_of p.names u) → i < n → Spans w.cells base (times n (leaves_of p.names u)) → IsOf p w u (read_cells (base + i * one_size) one_size m.cells)
  element u one_size base n i e lt h =
      let z = e ∙ size_leaves p.names u in
      reads p w m (base + i * one_size) one_size (leaves_of p.names u) mt
      (subst (λ j. Spans w.cells (base + i * j) (leaves_of p.names u)) (sym z) (spans_element w.cells (leaves_of p.names u) base n i lt h)) z

  abbrev EntryTyped : Ty → Ty → Option Entry → Type 0
  EntryTyped a b None = Unit {0}
  EntryTyped a b (Some e) = IsOf p w a e.key × IsOf p w b e.value

  this_or : (a b : Ty) (t : Bool) (e : Entry) (o : Option Entry) → IsOf p w a e.key × IsOf p w b e.value → EntryTyped a b o → EntryTyped a b (if t then Some e else o)
  this_or a b true e o h i = h
  this_or a b false e o h i = i

  born_typed : (a b : Ty) (birth : ℕ) (produced : List ℕ) (es : List Entry) → EntriesOf p w a b es → EntryTyped a b (k.entry_born p g birth produced es)
  born_typed a b birth produced [] h = tt
  born_typed a b birth produced (e ∷ es) h =
      this_or a b ((e.birth == birth) && not (k.is_in p g birth produced)) e (k.entry_born p g birth produced es) h.0 (born_typed a b birth produced es h.1)

  entry_typed : (a b : Ty) (name birth : ℕ) (produced : List ℕ) (since : ℕ) (o : Option Entry) → slice_get w.maps name ≡ Some (untagged_map (record { key = a; value = b })) → EntryTyped a b o
      → NextTyped p w g (ty.mapping a b) (k.entry_next p g (Some name) birth produced since o)
  entry_typed a b name birth produced since None at h = tt
  entry_typed a b name birth produced since (Some e) at h = ((λ t q. subst (λ v. IsOf p w v e.key) (sym q) h.0), (λ t q. subst (λ v. IsOf p w v e.value) (sym q) h.1), at)

  none_left : (i n : ℕ) → n ≡ 0 → nat_lt i n ≡ true → ⊥
  none_left i n z e = let lt = ltb-true i n e in omega (arith, z, lt)

  pub goes_on : (u : Ty) (birth : Option ℕ) (c : Cursor) → CursorTyped p w u c → NextTyped p w g u (k.next_of p g u birth c m)
  goes_on (ty.int name) birth (numbers i n) h =
      if_next p w g (NextTyped p w g (ty.int name)) (nat_lt i n) _ _ (λ e. (int_value p w i, (λ t q. absurd q), tt)) (λ e. tt)
  goes_on (ty.slice u) birth (numbers i n) h = if_next p w g (NextTyped p w g (ty.slice u)) (nat_lt i n) _ _ (λ e. absurd (none_left i n h e)) (λ e. tt)
  goes_on (ty.pointer t) birth (numbers i n) h = if_next p w g (NextTyped p w g (ty.pointer t)) (nat_lt i n) _ _ (λ e. absurd (none_left i n h e)) (λ e. tt)
  goes_on (ty.array n u) birth (copied i []) h = tt
  goes_on (ty.array n u) birth (copied i (x ∷ xs)) h = copied_next u i h.0 x xs h.1
  goes_on (ty.slice u) birth (elements i n base) h =
      if_next p w g (NextTyped p w g (ty.slice u)) (nat_lt i n) _ _
      (λ e. (
        int_value p w i,
        (λ t q. subst (λ v. IsOf p w v (read_cells (base + i * size (shape_of p.names u)) (size (shape_of p.names u)) m.cells)) (sym q)
            (element u (size (shape_of p.names u)) base n i refl (ltb-true i n e) h)),
        h,
      )) (λ e. tt)
  goes_on (ty.pointer t) birth (elements i n base) h =
      let each = k.target_size p g (underlying p.names t) in
      if_next p w g (NextTyped p w g (ty.pointer t)) (nat_lt i n) _ _
      (λ e. (
        int_value p w i,
        (λ v q. subst (λ v. IsOf p w v (read_cells (base + i * each) each m.cells)) (sym (subst (λ b. RangesElement b v) h.2 q))
            (element h.1 each base n i (ap (k.target_size p g) h.2) (ltb-true i n e) h.3)),
        h,
      )) (λ e. tt)
  goes_on ty.str birth (characters offset []) h = tt
  goes_on ty.str birth (characters offset (b ∷ bs)) h =
      (int_value p w offset, (λ t q. rune_value p w (rune_of b bs).code t q), tt)
  goes_on (ty.mapping a b) None (entries None produced since) h = tt
  goes_on (ty.mapping a b) (Some birth) (entries None produced since) h = tt
  goes_on (ty.mapping a b) None (entries (Some name) produced since) h = if_next p w g (NextTyped p w g (ty.mapping a b)) (k.all_produced p g produced since (k.entries_of p g (Some name) m)) _ _ (λ e. tt) (λ e. tt)
  goes_on (ty.mapping a b) (Some birth) (entries (Some name) produced since) h =
      let f = map_found p w w.maps m.maps name (record { key = a; value = b }) mt.maps_typed h in
      let es = entries_in (slice_get m.maps name) in
      entry_typed a b name birth produced since (k.entry_born p g birth produced es) h
      (born_typed a b birth produced es (subst (λ o. EntriesOf p w a b (entries_in o)) (sym f.is_at) f.typed))
  goes_on _ birth _ h = absurd h

  -- ---- some birth is there to go on with

  abbrev IsBorn : Option Entry → Type 0
  IsBorn None = ⊥
  IsBorn (Some e) = Unit {0}

  born_first : (b : Bool) (e : Entry) (o : Option Entry) → IsBorn o → IsBorn (if b then Some e else o)
  born_first true e o h = tt
  born_first false e o h = h

  born_now : (b : Bool) (e : Entry) (o : Option Entry) → b ≡ true → IsBorn (if b then Some e else o)
  born_now true e o r = tt
  born_now false e o r = absurd (cc)

  abbrev ToProduce : List ℕ → List Entry → Type 0
  ToProduce produced es = (birth : ℕ) × IsBorn (k.entry_born p g birth produced es)

  past_first : (produced : List ℕ) (e : Entry) (es : List Entry) → ToProduce produced es → ToProduce produced (e ∷ es)
  past_first produced e es i = (i.0, born_first ((e.birth == i.0) && not (k.is_in p g i.0 produced)) e (k.entry_born p g i.0 produced es) i.1)

  by_first : (produced : List ℕ) (since : ℕ) (e : Entry) (es : List Entry) → (k.all_produced p g produced since es ≡ false → ToProduce produced es) → (b : Bool) → k.is_in p g e.birth produced ≡ b
      → ((b || nat_le since e.birth) && k.all_produced p g produced since es) ≡ false → ToProduce produced (e ∷ es)
  by_first produced since e es others false q r = (
    e.birth,
    born_now ((e.birth == e.birth) && not (k.is_in p g e.birth produced)) e (k.entry_born p g e.birth produced es)
        (ap (λ c. c && not (k.is_in p g e.birth produced)) (eq-eqb e.birth e.birth refl) ∙ ap not q),
  )
  by_first produced since e es others true q r = past_first produced e es (others r)

  to_produce : (produced : List ℕ) (since : ℕ) (es : List Entry) → k.all_produced p g produced since es ≡ false → ToProduce produced es
  to_produce produced since [] r = absurd (cc)
  to_produce produced since (e ∷ es) r = by_first produced since e es (to_produce produced since es) (k.is_in p g e.birth produced) refl r

  entry_so : (name birth : ℕ) (produced : List ℕ) (since : ℕ) (o : Option Entry) → IsBorn o → IsSo p w g (k.entry_next p g (Some name) birth produced since o)
  entry_so name birth produced since None h = absurd h
  entry_so name birth produced since (Some e) h = tt

  by_produced : (name : ℕ) (produced : List ℕ) (since : ℕ) (b : Bool) → k.all_produced p g produced since (k.entries_of p g (Some name) m) ≡ b → (birth : Option ℕ) × IsSo p w g (k.next_entry p g birth (Some name) produced since m)
  by_produced name produced since true r = (None, if_next p w g (IsSo p w g) (k.all_produced p g produced since (k.entries_of p g (Some name) m)) _ _ (λ e. tt) (λ e. absurd (cc)))
  by_produced name produced since false r =
      let i = to_produce produced since (k.entries_of p g (Some name) m) r in
      (Some i.0, entry_so name i.0 produced since (k.entry_born p g i.0 produced (k.entries_of p g (Some name) m)) i.1)

  some_entry : (name : ℕ) (produced : List ℕ) (since : ℕ) → (birth : Option ℕ) × IsSo p w g (k.next_entry p g birth (Some name) produced since m)
  some_entry name produced since = by_produced name produced since (k.all_produced p g produced since (k.entries_of p g (Some name) m)) refl

  pub some_birth : (u : Ty) (c : Cursor) → CursorTyped p w u c → (birth : Option ℕ) × IsSo p w g (k.next_of p g u birth c m)
  some_birth u (numbers i n) h = (None, if_next p w g (IsSo p w g) (nat_lt i n) _ _ (λ e. tt) (λ e. tt))
  some_birth u (copied i []) h = (None, tt)
  some_birth u (copied i (x ∷ xs)) h = (None, tt)
  some_birth u (elements i n base) h = (None, if_next p w g (IsSo p w g) (nat_lt i n) _ _ (λ e. tt) (λ e. tt))
  some_birth u (characters offset []) h = (None, tt)
  some_birth u (characters offset (b ∷ bs)) h = (None, tt)
  some_birth u (entries None produced since) h = (None, tt)
  some_birth u (entries (Some name) produced since) h = some_entry name produced since

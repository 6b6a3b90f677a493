-- Operators on slices, and those that make what is new, give values of their types.
use Rattle.std.proofs.Common.{refl, sym, ap, ◌∙◌, subst, arith, suc-mul}
use Rattle.std.specs.Prelude.{◌≡◌, ◌≤◌, ℕ, zero, suc, ◌+◌, ◌*◌, ◌-◌, drop, ℤ, pos, negsuc, List, [], ◌∷◌, ◌++◌, Bool, true, false, ◌&&◌, if◌then◌else◌, nat_lt, nat_le, length, min, take, map, Some, slice_get}
use Rattle.std.proofs.lemmas.List.{length-append, append_assoc, append-nil}
use Rattle.std.proofs.lemmas.Bool.{ltb-false, leb-true}
use Rattle.go_type.specs.declared.types.IntName.{IntName}
use Rattle.go_type.specs.declared.types.IntName.TheVariants as integer
use Rattle.go_type.specs.declared.types.Dir.{Dir}
use Rattle.go_type.specs.Tree as ty
use Rattle.go_type.specs.Tree.{Ty}
use Rattle.go_type.specs.Underlying.{underlying}
use Rattle.go_core.specs.Layout.{Shape, shape_of, size, weight}
use Rattle.go_core.specs.Memory as cell
use Rattle.go_core.specs.Memory.{Scalar, Value, Memory, zeros, read_cells, with_fresh, with_written, next_base, with_channel, with_map}
use Rattle.go_core.specs.CoreTree.{CoreProgram}
use Rattle.go_core.specs.SoundNode.{IsInt, IsText, IsSlice, IsMap, IsChannel, SlicesTo, GoesInto}
use Rattle.go_core.specs.SoundProgram.{AreSet}
use Rattle.go_core.specs.Did.{Did, gives, panics, on_none}
use Rattle.go_core.specs.RunPanic.{RunPanic, bad_bounds, bad_size}
use Rattle.go_core.specs.TypeOf.{int_type}
use Rattle.go_core.specs.StepNumbers.{most_elements, whole_of}
use Rattle.go_core.specs.StepMemory.{repeated}
use Rattle.go_core.specs.StepSlices as l
use Rattle.go_core.specs.StepSlices.{Bounds}
use Rattle.go_core.specs.Leaves.{Leaf, leaf, leaf_of, leaves_of, times, Spans}
use Rattle.go_core.specs.Untagged.{untagged}
use Rattle.go_core.specs.Typed.{World, MapTypes, untagged_map, whole_typed, nil_typed, Lists, IsOf, MemoryTyped}
use Rattle.go_core.specs.Applies.{Slot, a_value, slot_if, AreIn}
use Rattle.go_core.specs.TypingLaws.{DidTyped}
use Rattle.go_core.proofs.LeavesLemmas.{size_leaves, zeros_of, under_leaves, lists_append, unfilled, spans_times, spans_fewer}
use Rattle.go_core.proofs.MemoryLemmas.{reads, writes, fresh, fresh_lies, with_cells, cells_extend, with_map_types, map_extends, fresh_map, with_channel_type, channel_extends, fresh_channel, last_one, maps_length, channels_length, same_world}
use Rattle.go_core.proofs.TypedScalars.{pointer_in, slice_in, text_in, as_slice, as_map, as_channel, one_scalar, one_in, none_in, down, up, on_int, if_did, kept}
use Rattle.go_core.proofs.OperatorsNumbers.{made}
use Rattle.go_core.proofs.SameTypeLemmas.{first_true, second_true}

slice_type : (u : Ty) → IsSlice u → (t : Ty) × (u ≡ ty.slice t)
slice_type (ty.slice t) h = (t, refl)
slice_type _ h = absurd h

map_type : (u : Ty) → IsMap u → (k : Ty) × (v : Ty) × (u ≡ ty.mapping k v)
map_type (ty.mapping k v) h = (k, v, refl)
map_type _ h = absurd h

chan_type : (u : Ty) → IsChannel u → (d : Dir) × (t : Ty) × (u ≡ ty.chan d t)
chan_type (ty.chan d t) h = (d, t, refl)
chan_type _ h = absurd h

pub all_whole : (p : CoreProgram) (w : World) (name : IntName) (bytes : List ℕ) → Lists p w (times (length bytes) (leaf (ty.int name) ∷ [])) (map whole_of bytes)
all_whole p w name [] = tt
all_whole p w name (b ∷ bs) = (whole_typed name (pos b), all_whole p w name bs)

pub times_length : (n : ℕ) (ls : List Leaf) → length (times n ls) ≡ n * length ls
times_length zero ls = omega arith
times_length (suc n) ls = let i = times_length n ls in let a : length (ls ++ times n ls) ≡ length ls + length (times n ls) = length-append ls (times n ls) in let m : suc n * length ls ≡ n * length ls + length ls = suc-mul n (length ls) in omega (arith, i, a, m)

pub times_apart : (m n : ℕ) (ls : List Leaf) → times (m + n) ls ≡ times m ls ++ times n ls
times_apart zero n ls = let e : 0 + n ≡ n = omega arith in ap (λ k. times k ls) e
times_apart (suc m) n ls =
    let e : suc m + n ≡ suc (m + n) = omega arith in ap (λ k. times k ls) e ∙ ap (λ ks. ls ++ ks) (times_apart m n ls) ∙ sym (append_assoc ls (times m ls) (times n ls))

module _ (p : CoreProgram) (w : World) where
  pub repeated_zeros : (n : ℕ) (s : Shape) (ls : List Leaf) → Lists p w ls (zeros s) → Lists p w (times n ls) (repeated n (zeros s))
  repeated_zeros zero s ls h = tt
  repeated_zeros (suc n) s ls h = lists_append p w ls (times n ls) (zeros s) (repeated n (zeros s)) h (repeated_zeros n s ls h)

  -- so many elements of a value
  pub front : (ls ks : List Leaf) (xs : Value) → Lists p w (ls ++ ks) xs → Lists p w ls (take (length ls) xs)
  front [] ks xs h = tt
  front (k ∷ ls) ks [] h = absurd h
  front (k ∷ ls) ks (x ∷ xs) h = (h.0, front ls ks xs h.1)

module _ (p : CoreProgram) (w : World) (set : AreSet p) (m : Memory) (mt : MemoryTyped p w m) where
  abbrev D : Ty → Did → Type 0
  D t d = DidTyped p w (a_value t ∷ []) d

  ok : (t : Ty) (x : Value) (u : ℕ) → IsOf p w t x → D t (gives (x ∷ []) m u)
  ok t x u h = kept p w m mt (a_value t ∷ []) (x ∷ []) u (h, tt)

  -- a slice of what is fresh
  pub new_slice : (t u : Ty) (len capacity units : ℕ) (xs : Value) → underlying p.names t ≡ ty.slice u → len ≤ capacity → Lists p w (times capacity (leaves_of p.names u)) xs
      → D t (gives ((cell.slice (next_base m) len capacity ∷ []) ∷ []) (with_fresh m xs) units)
  new_slice t u len capacity units xs e le h =
      let ls = times capacity (leaves_of p.names u) in
      let v = with_cells w ls in
      (v, cells_extend w ls, fresh p w m ls xs mt h, (up p v set t (ty.slice u) (cell.slice (next_base m) len capacity ∷ []) e (as_slice p v u (next_base m) len capacity le (fresh_lies p w m ls mt), tt), tt))

  -- ---- parts

  bounded : (Q : Did → Type 0) (has : Bool) (i : Ty) (others : List Slot) (vs : List Value) (d : ℤ) (f : ℤ → List Value → Did) → IsInt (underlying p.names i) → AreIn p w (slot_if has i ++ others) vs
      → ((n : ℤ) (us : List Value) → AreIn p w others us → Q (f n us)) → Q (l.one_or has vs d f)
  bounded Q false i others vs d f j h k = k d vs h
  bounded Q true i others [] d f j h k = absurd h
  bounded Q true i others (x ∷ vs) d f j h k = on_int p w set i x Q _ j h.0 (λ n. k n vs h.1)

  all_bounded : (Q : Did → Type 0) (low high limit : Bool) (i j k : Ty) (len capacity : ℕ) (vs : List Value) (f : Bounds → Did) → IsInt (underlying p.names i) → IsInt (underlying p.names j) → IsInt (underlying p.names k)
      → AreIn p w (slot_if low i ++ slot_if high j ++ slot_if limit k) vs → ((b : Bounds) → Q (f b)) → Q (l.on_bounds low high limit len capacity vs f)
  all_bounded Q low high limit i j k len capacity vs f a b c h g =
      bounded Q low i (slot_if high j ++ (slot_if limit k ++ [])) vs (pos 0) _ a (subst (λ ss. AreIn p w ss vs) (apart (slot_if low i) (slot_if high j) (slot_if limit k)) h)
      (λ x us hu. bounded Q high j (slot_if limit k ++ []) us (pos len) _ b hu
      (λ y ts ht. bounded Q limit k [] ts (pos capacity) _ c ht
      (λ z rs hr. none_in p w rs (λ qs. Q (on_none qs (f (record { low = x; high = y; limit = z })))) hr (g (record { low = x; high = y; limit = z })))))
    where
      apart : (xs ys zs : List Slot) → xs ++ ys ++ zs ≡ xs ++ (ys ++ (zs ++ []))
      apart xs ys zs = append_assoc xs ys zs ∙ ap (λ q. xs ++ (ys ++ q)) (sym (append-nil zs))

  in_order : (Q : Did → Type 0) (capacity : ℕ) (f : ℕ → ℕ → ℕ → Did) (low high limit : ℤ) → ((q : RunPanic) → Q (panics q 0)) → ((x y z : ℕ) → x ≤ y → y ≤ z → z ≤ capacity → Q (f x y z)) → Q (l.ordered capacity f low high limit)
  in_order Q capacity f (pos x) (pos y) (pos z) pn k =
      if_did Q (nat_le x y && nat_le y z && nat_le z capacity) (f x y z) (panics bad_bounds 0)
      (λ e. let a = first_true (nat_le x y && nat_le y z) (nat_le z capacity) e in
      k x y z (leb-true x y (first_true (nat_le x y) (nat_le y z) a)) (leb-true y z (second_true (nat_le x y) (nat_le y z) a)) (leb-true z capacity (second_true (nat_le x y && nat_le y z) (nat_le z capacity) e)))
      (λ e. pn bad_bounds)
  in_order Q capacity f (pos x) (pos y) (negsuc z) pn k = pn bad_bounds
  in_order Q capacity f (pos x) (negsuc y) z pn k = pn bad_bounds
  in_order Q capacity f (negsuc x) y z pn k = pn bad_bounds

  -- a part of what lies from a base on
  part : (t u : Ty) (base capacity low high limit : ℕ) → underlying p.names t ≡ ty.slice u → low ≤ high → high ≤ limit → limit ≤ capacity → Spans w.cells base (times capacity (leaves_of p.names u))
      → D t (l.slice_part m base (size (shape_of p.names u)) low high limit)
  part t u base capacity low high limit e a b c h =
      let ls = leaves_of p.names u in
      let moved = spans_times w.cells ls base capacity low (omega (arith, a, b, c)) h in
      let fewer = spans_fewer w.cells ls (base + low * length ls) (capacity - low) (limit - low) (omega (arith, a, b, c)) moved in
      let z = size_leaves p.names u in
      ok t _ 0 (up p w set t (ty.slice u) (cell.slice (base + low * size (shape_of p.names u)) (high - low) (limit - low) ∷ []) e
      (as_slice p w u (base + low * size (shape_of p.names u)) (high - low) (limit - low) (omega (arith, a, b)) (subst (λ k. Spans w.cells (base + low * k) (times (limit - low) ls)) (sym z) fewer), tt))

  by_sliced : (from t : Ty) (u : Ty) (low high limit : Bool) (i j k : Ty) (x : Value) (vs : List Value) → underlying p.names from ≡ u → SlicesTo p u from t
      → IsInt (underlying p.names i) → IsInt (underlying p.names j) → IsInt (underlying p.names k) → IsOf p w from x → AreIn p w (slot_if low i ++ slot_if high j ++ slot_if limit k) vs
      → D t (l.sliced p.names u (λ len capacity f. l.on_bounds low high limit len capacity vs f) x m)
  by_sliced from t ty.str low high limit i j k x vs e h a b c g q =
      one_scalar p w (leaf ty.str) x (λ y. D t (l.sliced p.names ty.str (λ len capacity f. l.on_bounds low high limit len capacity vs f) y m)) (down p w set from ty.str x e g)
      (λ y z. text_in p w y (λ r. D t (l.sliced p.names ty.str (λ len capacity f. l.on_bounds low high limit len capacity vs f) (r ∷ []) m)) z
      (λ bytes. all_bounded (D t) low high limit i j k (length bytes) (length bytes) vs _ a b c q
      (λ bs. in_order (D t) (length bytes) (λ lo hi li. l.text_part m bytes lo hi) bs.low bs.high bs.limit (λ pq. tt)
      (λ lo hi li d f v. made p w set m mt t (take (hi - lo) (drop lo bytes)) (subst (λ r. IsText (underlying p.names r)) h (subst IsText (sym e) tt))))))
  by_sliced from t (ty.slice u) low high limit i j k x vs e h a b c g q =
      let et : underlying p.names t ≡ ty.slice u = ap (underlying p.names) (sym h) ∙ e in
      one_scalar p w (leaf_of (ty.slice u)) x (λ y. D t (l.sliced p.names (ty.slice u) (λ len capacity f. l.on_bounds low high limit len capacity vs f) y m)) (down p w set from (ty.slice u) x e g)
      (λ y z. slice_in p w u y (λ r. D t (l.sliced p.names (ty.slice u) (λ len capacity f. l.on_bounds low high limit len capacity vs f) (r ∷ []) m)) z
      (all_bounded (D t) low high limit i j k 0 0 vs _ a b c q
      (λ bs. in_order (D t) 0 (λ lo hi li. gives ((cell.nil ∷ []) ∷ []) m 0) bs.low bs.high bs.limit (λ pq. tt)
      (λ lo hi li d f v. ok t (cell.nil ∷ []) 0 (up p w set t (ty.slice u) (cell.nil ∷ []) et (nil_typed (leaf_of (ty.slice u)) refl, tt)))))
      (λ base len capacity le sp. all_bounded (D t) low high limit i j k len capacity vs _ a b c q
      (λ bs. in_order (D t) capacity (λ lo hi li. l.slice_part m base (size (shape_of p.names u)) lo hi li) bs.low bs.high bs.limit (λ pq. tt)
      (λ lo hi li d f v. part t u base capacity lo hi li et d f v sp))))
  by_sliced from t (ty.pointer r) low high limit i j k x vs e h a b c g q =
      let et : underlying p.names t ≡ ty.slice h.1 = ap (underlying p.names) h.3 in
      one_scalar p w (leaf_of (ty.pointer r)) x (λ y. D t (l.sliced p.names (ty.pointer r) (λ len capacity f. l.on_bounds low high limit len capacity vs f) y m)) (down p w set from (ty.pointer r) x e g)
      (λ y z. pointer_in p w r y (λ s. D t (l.sliced p.names (ty.pointer r) (λ len capacity f. l.on_bounds low high limit len capacity vs f) (s ∷ []) m)) z tt
      (λ base sp. subst (λ v. D t (l.array_sliced p.names v (λ len capacity f. l.on_bounds low high limit len capacity vs f) base m)) (sym h.2)
      (all_bounded (D t) low high limit i j k h.0 h.0 vs _ a b c q
      (λ bs. in_order (D t) h.0 (λ lo hi li. l.slice_part m base (size (shape_of p.names h.1)) lo hi li) bs.low bs.high bs.limit (λ pq. tt)
      (λ lo hi li d f v. part t h.1 base h.0 lo hi li et d f v
      (unfilled w.cells base (times h.0 (leaves_of p.names h.1)) (subst (Spans w.cells base) (under_leaves p set r ∙ ap (leaves_of p.names) h.2) sp)))))))
  by_sliced from t _ low high limit i j k x vs e h a b c g q = absurd h

  pub slices : (from t : Ty) (low high limit : Bool) (i j k : Ty) (x : Value) (vs : List Value) → SlicesTo p (underlying p.names from) from t
      → IsInt (underlying p.names i) → IsInt (underlying p.names j) → IsInt (underlying p.names k) → IsOf p w from x → AreIn p w (slot_if low i ++ slot_if high j ++ slot_if limit k) vs
      → D t (l.slice_step p.names from low high limit (x ∷ vs) m)
  slices from t low high limit i j k x vs h a b c g q = by_sliced from t (underlying p.names from) low high limit i j k x vs refl h a b c g q

  -- ---- elements

  sized : (n : ℕ) (u : Ty) → n * size (shape_of p.names u) ≡ length (times n (leaves_of p.names u))
  sized n u = ap (λ k. n * k) (size_leaves p.names u) ∙ sym (times_length n (leaves_of p.names u))

  -- the elements of a slice, or the bytes of a text
  elements_in : (Q : Did → Type 0) (from a b : Ty) (y : Value) (f : Value → ℕ → Did) → underlying p.names from ≡ b → GoesInto p (ty.slice a) b → IsOf p w from y
      → ((more : Value) (count : ℕ) → Lists p w (times count (leaves_of p.names a)) more → Q (f more count)) → Q (l.on_elements (size (shape_of p.names a)) y m f)
  elements_in Q from a (ty.slice b) y f e h g k =
      one_scalar p w (leaf_of (ty.slice b)) y (λ z. Q (l.on_elements (size (shape_of p.names a)) z m f)) (down p w set from (ty.slice b) y e g)
      (λ z t. slice_in p w b z (λ s. Q (l.on_elements (size (shape_of p.names a)) (s ∷ []) m f)) t (k [] 0 tt)
      (λ base len capacity le sp. k (read_cells base (len * size (shape_of p.names a)) m.cells) len
      (reads p w m base (len * size (shape_of p.names a)) (times len (leaves_of p.names a)) mt
      (subst (λ c. Spans w.cells base (times len (leaves_of p.names c))) (sym h) (spans_fewer w.cells (leaves_of p.names b) base capacity len le sp)) (sized len a))))
  elements_in Q from a ty.str y f e h g k =
      one_scalar p w (leaf ty.str) y (λ z. Q (l.on_elements (size (shape_of p.names a)) z m f)) (down p w set from ty.str y e g)
      (λ z t. text_in p w z (λ s. Q (l.on_elements (size (shape_of p.names a)) (s ∷ []) m f)) t
      (λ bytes. k (map whole_of bytes) (length bytes)
      (subst (λ ls. Lists p w (times (length bytes) ls) (map whole_of bytes)) (sym (under_leaves p set a ∙ ap (leaves_of p.names) h.1)) (all_whole p w h.0 bytes))))
  elements_in Q from a _ y f e h g k = absurd h

  at_least : (needed wanted : ℕ) → needed ≤ l.new_capacity needed wanted
  at_least needed wanted = by_test (nat_le needed wanted && nat_le wanted most_elements) refl
    where
      by_test : (b : Bool) → (nat_le needed wanted && nat_le wanted most_elements) ≡ b → needed ≤ (if b then wanted else needed)
      by_test true e = leb-true needed wanted (first_true (nat_le needed wanted) (nat_le wanted most_elements) e)
      by_test false e = omega arith

  anew : (t a : Ty) (len count capacity : ℕ) (old more : Value) → underlying p.names t ≡ ty.slice a → len + count ≤ capacity
      → Lists p w (times len (leaves_of p.names a)) old → Lists p w (times count (leaves_of p.names a)) more → D t (l.appended_anew (shape_of p.names a) (len + count) capacity old more m)
  anew t a len count capacity old more e le h k =
      let ls = leaves_of p.names a in
      let rest = capacity - (len + count) in
      let all = lists_append p w (times len ls ++ times count ls) (times rest ls) (old ++ more) (repeated rest (zeros (shape_of p.names a)))
      (lists_append p w (times len ls) (times count ls) old more h k) (repeated_zeros p w rest (shape_of p.names a) ls (zeros_of p w p.names a)) in
      let z : (len + count) + rest ≡ capacity = omega (arith, le) in
      let s : times len ls ++ times count ls ++ times rest ls ≡ times capacity ls =
      ap (λ q. q ++ times rest ls) (sym (times_apart len count ls)) ∙ sym (times_apart (len + count) rest ls) ∙ ap (λ n. times n ls) z in
      new_slice t a (len + count) capacity (1 + (len + count) * weight (shape_of p.names a)) (old ++ more ++ repeated rest (zeros (shape_of p.names a))) e le (subst (λ q. Lists p w q (old ++ more ++ repeated rest (zeros (shape_of p.names a)))) s all)

  nil_appended : (t a : Ty) (wanted : ℕ) (more : Value) (count : ℕ) → underlying p.names t ≡ ty.slice a → Lists p w (times count (leaves_of p.names a)) more → D t (l.appended (shape_of p.names a) wanted (cell.nil ∷ []) more count m)
  nil_appended t a wanted more zero e h = ok t (cell.nil ∷ []) 0 (up p w set t (ty.slice a) (cell.nil ∷ []) e (nil_typed (leaf_of (ty.slice a)) refl, tt))
  nil_appended t a wanted more (suc n) e h =
      if_did (D t) (nat_lt most_elements (suc n)) (panics bad_size 0) _ (λ q. tt)
      (λ q. let z : 0 + suc n ≡ suc n = omega arith in
      subst (λ k. D t (l.appended_anew (shape_of p.names a) k (l.new_capacity (suc n) wanted) [] more m)) z
      (anew t a 0 (suc n) (l.new_capacity (suc n) wanted) [] more e (let y = at_least (suc n) wanted in omega (arith, y)) tt h))

  slice_appended : (t a : Ty) (wanted base len capacity : ℕ) (more : Value) (count : ℕ) → underlying p.names t ≡ ty.slice a → len ≤ capacity → Spans w.cells base (times capacity (leaves_of p.names a))
      → Lists p w (times count (leaves_of p.names a)) more → D t (l.appended (shape_of p.names a) wanted (cell.slice base len capacity ∷ []) more count m)
  slice_appended t a wanted base len capacity more count e le sp h =
      let ls = leaves_of p.names a in
      let z = size_leaves p.names a in
      if_did (D t) (nat_le (len + count) capacity) _ _
      (λ q. let fits = leb-true (len + count) capacity q in
      let there = spans_fewer w.cells ls (base + len * length ls) (capacity - len) count (omega (arith, fits)) (spans_times w.cells ls base capacity len le sp) in (
        w,
        same_world w,
        writes p w m (base + len * size (shape_of p.names a)) (times count ls) more mt (subst (λ k. Spans w.cells (base + len * k) (times count ls)) (sym z) there) h,
        (up p w set t (ty.slice a) (cell.slice base (len + count) capacity ∷ []) e (as_slice p w a base (len + count) capacity fits sp, tt), tt),
      ))
      (λ q. if_did (D t) (nat_lt most_elements (len + count)) (panics bad_size 0) _ (λ r. tt)
      (λ r. anew t a len count (l.new_capacity (len + count) wanted) (read_cells base (len * size (shape_of p.names a)) m.cells) more e (at_least (len + count) wanted)
      (reads p w m base (len * size (shape_of p.names a)) (times len ls) mt (spans_fewer w.cells ls base capacity len le sp) (sized len a)) h))

  by_append : (t from u : Ty) (wanted : ℕ) (x y : Value) → underlying p.names t ≡ u → GoesInto p u (underlying p.names from) → IsOf p w t x → IsOf p w from y → D t (l.append_step p.names u wanted x y m)
  by_append t from (ty.slice a) wanted x y e h g k =
      elements_in (D t) from a (underlying p.names from) y (λ more count. l.appended (shape_of p.names a) wanted x more count m) refl h k
      (λ more count q. one_scalar p w (leaf_of (ty.slice a)) x (λ z. D t (l.appended (shape_of p.names a) wanted z more count m)) (down p w set t (ty.slice a) x e g)
      (λ z r. slice_in p w a z (λ v. D t (l.appended (shape_of p.names a) wanted (v ∷ []) more count m)) r (nil_appended t a wanted more count e q)
      (λ base len capacity le sp. slice_appended t a wanted base len capacity more count e le sp q)))
  by_append t from _ wanted x y e h g k = absurd h

  pub appends : (t from : Ty) (wanted : ℕ) (x y : Value) → GoesInto p (underlying p.names t) (underlying p.names from) → IsOf p w t x → IsOf p w from y → D t (l.append_step p.names (underlying p.names t) wanted x y m)
  appends t from wanted x y h g k = by_append t from (underlying p.names t) wanted x y refl h g k

  int_value : (n : ℤ) → IsOf p w int_type (cell.whole n ∷ [])
  int_value n = (whole_typed integer.Int n, tt)

  slice_copied : (a : Ty) (base len capacity : ℕ) (more : Value) (count : ℕ) → len ≤ capacity → Spans w.cells base (times capacity (leaves_of p.names a))
      → Lists p w (times count (leaves_of p.names a)) more → D int_type (l.copied (shape_of p.names a) (cell.slice base len capacity ∷ []) more count m)
  slice_copied a base len capacity more count le sp h =
      let ls = leaves_of p.names a in
      let k = min len count in
      let kl : k ≤ capacity = omega (arith, le) in
      let z : k + (count - k) ≡ count = omega arith in
      let cut = front p w (times k ls) (times (count - k) ls) more (subst (λ q. Lists p w q more) (ap (λ n. times n ls) (sym z) ∙ times_apart k (count - k) ls) h) in (
        w,
        same_world w,
        writes p w m base (times k ls) (take (k * size (shape_of p.names a)) more) mt (spans_fewer w.cells ls base capacity k kl sp)
            (subst (λ n. Lists p w (times k ls) (take n more)) (sym (sized k a)) cut),
        (int_value (pos k), tt),
      )

  by_copy : (t from u : Ty) (x y : Value) → underlying p.names t ≡ u → GoesInto p u (underlying p.names from) → IsOf p w t x → IsOf p w from y → D int_type (l.copy_step p.names u x y m)
  by_copy t from (ty.slice a) x y e h g k =
      elements_in (D int_type) from a (underlying p.names from) y (λ more count. l.copied (shape_of p.names a) x more count m) refl h k
      (λ more count q. one_scalar p w (leaf_of (ty.slice a)) x (λ z. D int_type (l.copied (shape_of p.names a) z more count m)) (down p w set t (ty.slice a) x e g)
      (λ z r. slice_in p w a z (λ v. D int_type (l.copied (shape_of p.names a) (v ∷ []) more count m)) r (ok int_type (cell.whole (pos 0) ∷ []) 0 (int_value (pos 0)))
      (λ base len capacity le sp. slice_copied a base len capacity more count le sp q)))
  by_copy t from _ x y e h g k = absurd h

  pub copies : (t from : Ty) (x y : Value) → GoesInto p (underlying p.names t) (underlying p.names from) → IsOf p w t x → IsOf p w from y → D int_type (l.copy_step p.names (underlying p.names t) x y m)
  copies t from x y h g k = by_copy t from (underlying p.names t) x y refl h g k

  -- ---- what is new

  size_in : (t : Ty) (n : ℤ) (f : ℕ → Did) → ((k : ℕ) → D t (f k)) → D t (l.on_size n f)
  size_in t (pos n) f h = if_did (D t) (nat_lt most_elements n) (panics bad_size 0) (f n) (λ e. tt) (λ e. h n)
  size_in t (negsuc n) f h = tt

  made_of : (t u : Ty) (len capacity : ℕ) → underlying p.names t ≡ ty.slice u → D t (l.made_of (shape_of p.names u) len capacity m)
  made_of t u len capacity e =
      if_did (D t) (nat_lt capacity len) (panics bad_size 0) _ (λ q. tt)
      (λ q. new_slice t u len capacity (1 + capacity * weight (shape_of p.names u)) (repeated capacity (zeros (shape_of p.names u))) e (ltb-false capacity len q)
      (repeated_zeros p w capacity (shape_of p.names u) (leaves_of p.names u) (zeros_of p w p.names u)))

  pub makes_slice : (t i : Ty) (with_capacity : Bool) (k : Ty) (x : Value) (vs : List Value) → IsInt (underlying p.names i) → IsInt (underlying p.names k) → IsSlice (underlying p.names t)
      → IsOf p w i x → AreIn p w (slot_if with_capacity k) vs → D t (l.make_slice_step p.names (underlying p.names t) (x ∷ vs) m)
  makes_slice t i false k x vs a b c h g =
      let s = slice_type (underlying p.names t) c in
      subst (λ u. D t (l.make_slice_step p.names u (x ∷ vs) m)) (sym s.1)
      (none_in p w vs (λ us. D t (l.make_slice_step p.names (ty.slice s.0) (x ∷ us) m)) g
      (on_int p w set i x (D t) _ a h (λ n. size_in t n _ (λ len. made_of t s.0 len len s.1))))
  makes_slice t i true k x vs a b c h g =
      let s = slice_type (underlying p.names t) c in
      subst (λ u. D t (l.make_slice_step p.names u (x ∷ vs) m)) (sym s.1)
      (one_in p w (a_value k) vs (λ us. D t (l.make_slice_step p.names (ty.slice s.0) (x ∷ us) m)) g
      (λ y q. on_int p w set i x (D t) _ a h (λ n. on_int p w set k y (D t) _ b q (λ j. size_in t n _ (λ len. size_in t j _ (λ capacity. made_of t s.0 len capacity s.1))))))

  pub new_map : (t k v : Ty) → underlying p.names t ≡ ty.mapping k v → D t (l.made_map m)
  new_map t k v e =
      let ts : MapTypes = untagged_map (record { key = k; value = v }) in
      let z = maps_length p w w.maps m.maps mt.maps_typed in (
        with_map_types w ts,
        map_extends w ts,
        fresh_map p w m (record { key = k; value = v }) l.empty_map mt tt,
        (
          up p (with_map_types w ts) set t (ty.mapping k v) (cell.map (length m.maps) ∷ []) e
              (as_map p (with_map_types w ts) k v (length m.maps) (subst (λ n. slice_get (w.maps ++ ts ∷ []) n ≡ Some ts) (sym z) (last_one w.maps ts)), tt),
          tt,
        ),
      )

  counted_map : (t k v : Ty) (n : ℤ) → underlying p.names t ≡ ty.mapping k v → D t (l.map_of_count n m)
  counted_map t k v (pos n) e = new_map t k v e
  counted_map t k v (negsuc n) e = tt

  pub makes_map : (t : Ty) (with_count : Bool) (k : Ty) (vs : List Value) → IsInt (underlying p.names k) → IsMap (underlying p.names t) → AreIn p w (slot_if with_count k) vs → D t (l.make_map_step vs m)
  makes_map t false k vs a b h = let s = map_type (underlying p.names t) b in none_in p w vs (λ us. D t (l.make_map_step us m)) h (new_map t s.0 s.1 s.2)
  makes_map t true k vs a b h =
      let s = map_type (underlying p.names t) b in
      one_in p w (a_value k) vs (λ us. D t (l.make_map_step us m)) h (λ x q. on_int p w set k x (D t) _ a q (λ n. counted_map t s.0 s.1 n s.2))

  new_channel : (t : Ty) (d : Dir) (u : Ty) (n : ℕ) → underlying p.names t ≡ ty.chan d u → D t (l.made_channel m n)
  new_channel t d u n e =
      let us = untagged u in
      let z = channels_length p w w.channels m.channels mt.channels_typed in (
        with_channel_type w us,
        channel_extends w us,
        fresh_channel p w m u (record { capacity = n; values = []; closed = false }) mt tt,
        (
          up p (with_channel_type w us) set t (ty.chan d u) (cell.channel (length m.channels) ∷ []) e
              (as_channel p (with_channel_type w us) d u (length m.channels) (subst (λ k. slice_get (w.channels ++ us ∷ []) k ≡ Some us) (sym z) (last_one w.channels us)), tt),
          tt,
        ),
      )

  pub makes_channel : (t : Ty) (with_capacity : Bool) (k : Ty) (vs : List Value) → IsInt (underlying p.names k) → IsChannel (underlying p.names t) → AreIn p w (slot_if with_capacity k) vs → D t (l.make_channel_step vs m)
  makes_channel t false k vs a b h = let s = chan_type (underlying p.names t) b in none_in p w vs (λ us. D t (l.make_channel_step us m)) h (new_channel t s.0 s.1 0 s.2)
  makes_channel t true k vs a b h =
      let s = chan_type (underlying p.names t) b in
      one_in p w (a_value k) vs (λ us. D t (l.make_channel_step us m)) h (λ x q. on_int p w set k x (D t) _ a q (λ n. size_in t n _ (λ c. new_channel t s.0 s.1 c s.2)))

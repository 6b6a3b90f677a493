-- What is pushed is found at the end, and what was there stays where it was.
use Rattle.std.proofs.Common.{◌≡◌, ℕ, zero, suc, ◌+◌, ◌-◌, min, ◌<◌, List, [], ◌∷◌, ◌++◌, Some, length, take, drop, length-append, length-drop, refl, subst, ◌∙◌, sym, true, false, true≢false, arith}
use Rattle.std.proofs.Math.Seq.{take-append_seam, drop-append_seam, take-length}
use Rattle.std.specs.List.{slice_get}
use Rattle.js_pool.specs.Stands.{Holds, HeldAt, Later, Grows}
use Rattle.js_pool.specs.declared.pool.Pool.{Pool}

pub holds_same : {A : Type 0} (xs ys : List A) → ys ≡ xs → Holds xs ys
holds_same xs ys e i x h = rw e h

get_front : {A : Type 0} (xs zs : List A) (i : ℕ) (x : A) → slice_get xs i ≡ Some x → slice_get (xs ++ zs) i ≡ Some x
get_front [] zs i x h = cc
get_front (y ∷ xs) zs zero x h = h
get_front (y ∷ xs) zs (suc i) x h = get_front xs zs i x h

pub holds_more : {A : Type 0} (xs ys zs : List A) → ys ≡ xs ++ zs → Holds xs ys
holds_more xs ys zs e i x h = rw e (get_front xs zs i x h)

get_last : {A : Type 0} (xs : List A) (x : A) → slice_get (xs ++ x ∷ []) (length xs) ≡ Some x
get_last [] x = refl
get_last (y ∷ xs) x = get_last xs x

pub last_at : {A : Type 0} (xs ys : List A) (x : A) (n : ℕ) → ys ≡ xs ++ x ∷ [] → n ≡ length xs → slice_get ys n ≡ Some x
last_at xs ys x n e l = rw (e, l) (get_last xs x)

get_past : {A : Type 0} (xs zs : List A) (i : ℕ) → slice_get (xs ++ zs) (length xs + i) ≡ slice_get zs i
get_past [] zs i = let e : 0 + i ≡ i = omega arith in rw e refl
get_past (y ∷ xs) zs i = let e : suc (length xs) + i ≡ suc (length xs + i) = omega arith in rw e (get_past xs zs i)

pub past_at : {A : Type 0} (xs ys zs : List A) (n : ℕ) → ys ≡ xs ++ zs → n ≡ length xs → (i : ℕ) (x : A) → slice_get zs i ≡ Some x → slice_get ys (n + i) ≡ Some x
past_at xs ys zs n e l i x h = rw (e, l) (get_past xs zs i ∙ h)

-- what was added to a table is held there, and in each that it becomes
pub held_at : {A : Type 0} (xs ys zs end : List A) (n many : ℕ) → ys ≡ xs ++ zs → n ≡ length xs → length zs ≡ many → Holds ys end → HeldAt end n many zs
held_at xs ys zs end n many e l m h = record { all = m; each = λ i x g. h _ _ (past_at xs ys zs n e l i x g) }

pub grows_by : (p q : Pool) → (q.failed ≡ false → p.failed ≡ false) → Holds p.nodes.items q.nodes.items → Holds p.lists.items q.lists.items → Holds p.bytes.items q.bytes.items → Holds p.stmts.items q.stmts.items → Holds p.cases.items q.cases.items → Holds p.names.items q.names.items → Holds p.items.items q.items.items → Grows p q
unfolding Later
grows_by p q s a b c d e f h end g = record {
  sound = s g.sound;
  nodes = λ i x o. g.nodes i x (a i x o);
  lists = λ i x o. g.lists i x (b i x o);
  bytes = λ i x o. g.bytes i x (c i x o);
  stmts = λ i x o. g.stmts i x (d i x o);
  cases = λ i x o. g.cases i x (e i x o);
  names = λ i x o. g.names i x (f i x o);
  items = λ i x o. g.items i x (h i x o);
}

-- where memory ran out nothing comes later
pub never : (q end : Pool) → q.failed ≡ true → Later q end → ⊥
unfolding Later
never q end e g = true≢false (sym e ∙ g.sound)

pub fails_grow : (p q : Pool) → q.failed ≡ true → Grows p q
fails_grow p q e end g = absurd (never q end e g)

-- of a list that two parts make, what stands before the second and what is the second
pub front_part : {A : Type 0} (xs ys before es : List A) (n : ℕ) → ys ≡ take n xs → xs ≡ before ++ es → n ≡ length before → ys ≡ before
front_part xs ys before es n e s l = rw (e, s, l) (take-append_seam before es)

pub back_part : {A : Type 0} (xs before es : List A) (n : ℕ) → xs ≡ before ++ es → n ≡ length before → drop n xs ≡ es
back_part xs before es n s l = rw (s, l) (drop-append_seam before es)

pub back_length : {A : Type 0} (xs before es : List A) (n : ℕ) → xs ≡ before ++ es → n ≡ length before → length es ≡ length xs - n
back_length xs before es n s l =
    let a : length xs ≡ length before + length es = rw s (length-append before es) in
    omega arith

-- what moves to a table is held there, and in each that it becomes
pub moved : {A : Type 0} (xs before es table grown end : List A) (n from many : ℕ) → xs ≡ before ++ es → n ≡ length before → grown ≡ table ++ drop n xs → from ≡ length table → many ≡ length xs - n → Holds grown end → HeldAt end from many es
moved xs before es table grown end n from many s l e f m h =
    let d : drop n xs ≡ es = back_part xs before es n s l in
    let k : length es ≡ many = back_length xs before es n s l ∙ sym m in
    let g : grown ≡ table ++ es = rw (← d) e in
    held_at table grown es end from many g f k h

-- of a table that ends with a part, the part is held where it begins
pub held_last : {A : Type 0} (xs before es end : List A) (from many : ℕ) → xs ≡ before ++ es → from ≡ length before → many ≡ length xs - from → Holds xs end → HeldAt end from many es
held_last xs before es end from many s f m h = held_at before xs es end from many s f (back_length xs before es from s f ∙ sym m) h

-- a mark that stands within a list is no more than its length
pub least_mark : {A : Type 0} (xs before es : List A) (mark n begun : ℕ) → begun ≡ min mark n → n ≡ length xs → xs ≡ before ++ es → mark ≡ length before → begun ≡ length before
least_mark xs before es mark n begun b l s m =
    let a : length xs ≡ length before + length es = rw s (length-append before es) in
    omega arith

-- what is left of a list from a place on, as a slice of it
pub whole_back : {A : Type 0} (xs ys : List A) (n : ℕ) → ys ≡ xs → take (length ys - n) (drop n ys) ≡ drop n xs
whole_back xs ys n e =
    let l : length (drop n xs) ≡ length xs - n = length-drop n xs in
    rw e (rw (← l) (take-length (drop n xs)))

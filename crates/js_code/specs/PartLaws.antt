-- Lemmas: parts that are added leave what was there, and what parts of code stand for.
use Rattle.std.proofs.Common.{arith, ◌≡◌, ◌<◌, ℕ, zero, suc, ◌+◌, ◌-◌, ◌∙◌, refl, sym, ap, subst, List, [], ◌∷◌, ◌++◌, Option, Some, length, append_assoc, slice_get}
use Rattle.std.specs.List.{fold}
use Rattle.std.proofs.lemmas.List.{append-nil, length-append}
use Rattle.std.proofs.lemmas.List.Sums.{fold-append}
use Rattle.js_tree.specs.Script as tree
use Rattle.js_tree.specs.Script.{expr, stmt}
use Rattle.js_code.specs.Places.{Table}
use Rattle.js_code.specs.Parts.{Part, number, string, boolean, null, name, unary, binary, both, either, choice, call, index, length_of, pop, char_code_at, substring, array, dictionary, decimal_of, from_char_code, no_more, more, declare, assign, store, perform, push, remove, branch, while, forever, switch, return_nothing, return, throw, break, continue, attempt, done, then, no_else, else_block, else_if, no_cases, default, case, Tree, one, several, single, block, other, cases, as_expr, as_exprs, as_stmt, as_stmts, as_else, as_cases, tree_of, with_tree, trees_of, last, with_part}
use Rattle.js_code.specs.PartClauses.{parts_in, AreBelow, IsPlaced, IsCode, Adds, PartsStand}

found_before : {A : Type 0} (xs ys : List A) (i : ℕ) (a : A) → slice_get xs i ≡ Some a → slice_get (xs ++ ys) i ≡ Some a
found_before [] ys i a h = cc
found_before (x ∷ xs) ys zero a h = h
found_before (x ∷ xs) ys (suc i) a h = found_before xs ys i a h

found_last : {A : Type 0} (xs : List A) (a : A) → slice_get (xs ++ a ∷ []) (length xs) ≡ Some a
found_last [] a = refl
found_last (x ∷ xs) a = found_last xs a

found_below : {A : Type 0} (xs : List A) (i : ℕ) (a : A) → slice_get xs i ≡ Some a → i < length xs
found_below [] i a h = cc
found_below (x ∷ xs) zero a h = omega arith
found_below (x ∷ xs) (suc i) a h = let r = found_below xs i a h in omega (arith, r)

same_before : {A : Type 0} (xs ys : List A) (i : ℕ) → i < length xs → slice_get xs i ≡ slice_get (xs ++ ys) i
same_before [] ys i h = absurd (omega (arith, h))
same_before (x ∷ xs) ys zero h = refl
same_before (x ∷ xs) ys (suc i) h = same_before xs ys i (omega (arith, h))

-- what holds of each element, and of one more
each_more : {A : Type 0} (P : ℕ → A → Type 0) (xs : List A) (a : A) → ((i : ℕ) (b : A) → slice_get xs i ≡ Some b → P i b) → P (length xs) a
    → (i : ℕ) (b : A) → slice_get (xs ++ a ∷ []) i ≡ Some b → P i b
each_more P [] a h k zero b e = let same : a ≡ b = cc in subst (P 0) same k
each_more P [] a h k (suc i) b e = cc
each_more P (x ∷ xs) a h k zero b e = h 0 b e
each_more P (x ∷ xs) a h k (suc i) b e = each_more (λ j. P (suc j)) xs a (λ j c q. h (suc j) c q) k i b e

-- a list around one of its elements
parted : {A : Type 0} (xs : List A) (i : ℕ) (a : A) → slice_get xs i ≡ Some a → (front : List A) × (back : List A) × (xs ≡ front ++ a ∷ back) × (length front ≡ i)
parted [] i a h = cc
parted (x ∷ xs) zero a h = let same : x ≡ a = cc in ([], xs, ap (λ y. y ∷ xs) same, refl)
parted (x ∷ xs) (suc i) a h =
    let r = parted xs i a h in
    (x ∷ r.0, r.1, ap (λ ys. x ∷ ys) r.2, ap suc r.3)

-- parts are only added
trees_more : (trees : List Tree) (parts : List Part) → (more : List Tree) × (fold with_tree trees parts ≡ trees ++ more)
trees_more trees [] = ([], sym (append-nil trees))
trees_more trees (p ∷ ps) =
    let r = trees_more (with_tree trees p) ps in
    (tree_of trees p ∷ r.0, r.1 ∙ append_assoc trees (tree_of trees p ∷ []) r.0)

trees-append : (ps qs : List Part) → (more : List Tree) × (trees_of (ps ++ qs) ≡ trees_of ps ++ more)
trees-append ps qs =
    let r = trees_more (trees_of ps) qs in
    (r.0, fold-append with_tree [] ps qs ∙ r.1)

length_trees : (trees : List Tree) (parts : List Part) → length (fold with_tree trees parts) ≡ length trees + length parts
length_trees trees [] = omega arith
length_trees trees (p ∷ ps) =
    let r = length_trees (with_tree trees p) ps in
    let e = length-append trees (tree_of trees p ∷ []) in
    omega (arith, r, e)

-- what stood for a tree still does
kept : (ps qs : List Part) (i : ℕ) (g : Tree) → slice_get (trees_of ps) i ≡ Some g → slice_get (trees_of (ps ++ qs)) i ≡ Some g
kept ps qs i g h =
    let r = trees-append ps qs in
    subst (λ (gs : List Tree). slice_get gs i ≡ Some g) (sym r.1) (found_before (trees_of ps) r.0 i g h)

last_is : (ps : List Part) (p : Part) → last (with_part ps p) ≡ length ps
last_is ps p = omega (arith, length-append ps (p ∷ []))

-- the part that was added last
added : (ps : List Part) (p : Part) → slice_get (trees_of (with_part ps p)) (last (with_part ps p)) ≡ Some (tree_of (trees_of ps) p)
added ps p =
    let size : last (with_part ps p) ≡ length (trees_of ps) = omega (arith, length-append ps (p ∷ []), length_trees [] ps) in
    subst (λ (i : ℕ). slice_get (trees_of (with_part ps p)) i ≡ Some (tree_of (trees_of ps) p)) (sym size)
    (subst (λ (gs : List Tree). slice_get gs (length (trees_of ps)) ≡ Some (tree_of (trees_of ps) p)) (sym (fold-append with_tree [] ps (p ∷ [])))
    (found_last (trees_of ps) (tree_of (trees_of ps) p)))

sound_more : (t : Table) (ps : List Part) (p : Part) → IsCode t ps → AreBelow (length ps) (parts_in p) → IsPlaced t p → IsCode t (with_part ps p)
sound_more t ps p c below placed = record {
  before = each_more (λ i q. AreBelow i (parts_in q)) ps p c.before below;
  placed = each_more (λ i q. IsPlaced t q) ps p c.placed placed;
}

last_below : {t : Table} {ps a : List Part} {g : Tree} → Adds t ps a g → last a < length a
last_below {t} {ps} {a} {g} x =
    let found = found_below (trees_of a) (last a) g x.stands in
    let same = length_trees [] a in
    omega (arith, found, same)

later_below : {t : Table} {a b : List Part} {h : Tree} (k : ℕ) → Adds t a b h → k < length a → k < length b
later_below {t} {a} {b} {h} k y l =
    let longer : length b ≡ length (a ++ y.more) = ap length y.after in
    let sum = length-append a y.more in
    omega (arith, longer, sum, l)

both_added : {t : Table} {ps a b : List Part} {g h : Tree} → Adds t ps a g → Adds t a b h → Adds t ps b h
both_added {t} {ps} {a} {b} {g} {h} x y = record {
  more = x.more ++ y.more;
  after = y.after ∙ ap (λ (qs : List Part). qs ++ y.more) x.after ∙ append_assoc ps x.more y.more;
  stands = y.stands;
  sound = λ c. y.sound (x.sound c);
}

still : {t : Table} {ps a b : List Part} {g h : Tree} → Adds t ps a g → Adds t a b h → slice_get (trees_of b) (last a) ≡ Some g
still {t} {ps} {a} {b} {g} {h} x y = subst (λ (qs : List Part). slice_get (trees_of qs) (last a) ≡ Some g) (sym y.after) (kept a y.more (last a) g x.stands)

-- one part more, after what the first parts became
with_one : {t : Table} {ps a : List Part} {g h : Tree} (p : Part) → Adds t ps a g → AreBelow (length a) (parts_in p) → IsPlaced t p → tree_of (trees_of a) p ≡ h → Adds t ps (with_part a p) h
with_one {t} {ps} {a} {g} {h} p x below placed e = record {
  more = x.more ++ p ∷ [];
  after = ap (λ (qs : List Part). qs ++ p ∷ []) x.after ∙ append_assoc ps x.more (p ∷ []);
  stands = added a p ∙ ap Some e;
  sound = λ c. sound_more t a p (x.sound c) below placed;
}

-- a part that is made of no other
pub leaf : (t : Table) (ps : List Part) (p : Part) (g : Tree) → parts_in p ≡ [] → IsPlaced t p → tree_of (trees_of ps) p ≡ g → Adds t ps (with_part ps p) g
leaf t ps p g none placed e = record {
  more = p ∷ [];
  after = refl;
  stands = added ps p ∙ ap Some e;
  sound = λ c. sound_more t ps p c (subst (AreBelow (length ps)) (sym none) tt) placed;
}

-- a part of one, two or three parts, by what it makes of what they stand for
pub of_one : (t : Table) (ps a : List Part) (g : Tree) (p : Part) (f : Option Tree → Tree) → Adds t ps a g
    → parts_in p ≡ last a ∷ [] → IsPlaced t p → tree_of (trees_of a) p ≡ f (slice_get (trees_of a) (last a))
    → Adds t ps (with_part a p) (f (Some g))
of_one t ps a g p f x parts placed e =
    with_one p x (subst (AreBelow (length a)) (sym parts) (last_below x, tt)) placed (e ∙ ap f x.stands)

pub of_two : (t : Table) (ps a b : List Part) (g h : Tree) (p : Part) (f : Option Tree → Option Tree → Tree) → Adds t ps a g → Adds t a b h
    → parts_in p ≡ last a ∷ last b ∷ [] → IsPlaced t p → tree_of (trees_of b) p ≡ f (slice_get (trees_of b) (last a)) (slice_get (trees_of b) (last b))
    → Adds t ps (with_part b p) (f (Some g) (Some h))
of_two t ps a b g h p f x y parts placed e =
    with_one p (both_added x y) (subst (AreBelow (length b)) (sym parts) (later_below (last a) y (last_below x), (last_below y, tt))) placed
    (e ∙ ap (λ (o : Option Tree). f o (slice_get (trees_of b) (last b))) (still x y) ∙ ap (f (Some g)) y.stands)

pub of_three : (t : Table) (ps a b c : List Part) (g h k : Tree) (p : Part) (f : Option Tree → Option Tree → Option Tree → Tree)
    → Adds t ps a g → Adds t a b h → Adds t b c k
    → parts_in p ≡ last a ∷ last b ∷ last c ∷ [] → IsPlaced t p
    → tree_of (trees_of c) p ≡ f (slice_get (trees_of c) (last a)) (slice_get (trees_of c) (last b)) (slice_get (trees_of c) (last c))
    → Adds t ps (with_part c p) (f (Some g) (Some h) (Some k))
of_three t ps a b c g h k p f x y z parts placed e =
    let below_a = later_below (last a) z (later_below (last a) y (last_below x)) in
    let below_b = later_below (last b) z (last_below y) in
    with_one p (both_added x (both_added y z)) (subst (AreBelow (length c)) (sym parts) (below_a, (below_b, (last_below z, tt)))) placed
    (e ∙ ap (λ (o : Option Tree). f o (slice_get (trees_of c) (last b)) (slice_get (trees_of c) (last c))) (still x (both_added y z))
    ∙ ap (λ (o : Option Tree). f (Some g) o (slice_get (trees_of c) (last c))) (still y z)
    ∙ ap (f (Some g) (Some h)) z.stands)

two : (f : Option Tree → Option Tree → Tree) {a b c d : Option Tree} → a ≡ b → c ≡ d → f a c ≡ f b d
two f {a} {b} {c} {d} e k = ap (λ (x : Option Tree). f x c) e ∙ ap (f b) k

three : (f : Option Tree → Option Tree → Option Tree → Tree) {a b c d i j : Option Tree} → a ≡ b → c ≡ d → i ≡ j → f a c i ≡ f b d j
three f {a} {b} {c} {d} {i} {j} e k l = ap (λ (x : Option Tree). f x c i) e ∙ ap (λ (x : Option Tree). f b x i) k ∙ ap (f b d) l

-- what a part stands for is told by what its own parts stand for
same_tree : (ts us : List Tree) (n : ℕ) (p : Part) → AreBelow n (parts_in p) → ((k : ℕ) → k < n → slice_get ts k ≡ slice_get us k) → tree_of ts p ≡ tree_of us p
same_tree ts us n (number at m) b e = refl
same_tree ts us n (string at s) b e = refl
same_tree ts us n (boolean at x) b e = refl
same_tree ts us n (null at) b e = refl
same_tree ts us n (name at x place) b e = refl
same_tree ts us n (unary at op i) b e = ap (λ o. one (tree.unary at op (as_expr o))) (e i b.0)
same_tree ts us n (binary at op i j) b e = two (λ x y. one (tree.binary at op (as_expr x) (as_expr y))) (e i b.0) (e j b.1.0)
same_tree ts us n (both at i j) b e = two (λ x y. one (tree.both at (as_expr x) (as_expr y))) (e i b.0) (e j b.1.0)
same_tree ts us n (either at i j) b e = two (λ x y. one (tree.either at (as_expr x) (as_expr y))) (e i b.0) (e j b.1.0)
same_tree ts us n (choice at i j k) b e = three (λ x y z. one (tree.choice at (as_expr x) (as_expr y) (as_expr z))) (e i b.0) (e j b.1.0) (e k b.1.1.0)
same_tree ts us n (call at i j) b e = two (λ x y. one (tree.call at (as_expr x) (as_exprs y))) (e i b.0) (e j b.1.0)
same_tree ts us n (index at i j) b e = two (λ x y. one (tree.index at (as_expr x) (as_expr y))) (e i b.0) (e j b.1.0)
same_tree ts us n (length_of at i) b e = ap (λ o. one (tree.length_of at (as_expr o))) (e i b.0)
same_tree ts us n (pop at i) b e = ap (λ o. one (tree.pop at (as_expr o))) (e i b.0)
same_tree ts us n (char_code_at at i j) b e = two (λ x y. one (tree.char_code_at at (as_expr x) (as_expr y))) (e i b.0) (e j b.1.0)
same_tree ts us n (substring at i j k) b e = three (λ x y z. one (tree.substring at (as_expr x) (as_expr y) (as_expr z))) (e i b.0) (e j b.1.0) (e k b.1.1.0)
same_tree ts us n (array at i) b e = ap (λ o. one (tree.array at (as_exprs o))) (e i b.0)
same_tree ts us n (dictionary at) b e = refl
same_tree ts us n (decimal_of at i) b e = ap (λ o. one (tree.decimal_of at (as_expr o))) (e i b.0)
same_tree ts us n (from_char_code at i) b e = ap (λ o. one (tree.from_char_code at (as_expr o))) (e i b.0)
same_tree ts us n no_more b e = refl
same_tree ts us n (more i j) b e = two (λ y x. several (expr (as_expr x) (as_exprs y))) (e j b.0) (e i b.1.0)
same_tree ts us n (declare at x slot i) b e = ap (λ o. single (tree.declare at x (as_expr o))) (e i b.0)
same_tree ts us n (assign at x target i) b e = ap (λ o. single (tree.assign at x (as_expr o))) (e i b.0)
same_tree ts us n (store at i j k) b e = three (λ x y z. single (tree.store at (as_expr x) (as_expr y) (as_expr z))) (e i b.0) (e j b.1.0) (e k b.1.1.0)
same_tree ts us n (perform at i) b e = ap (λ o. single (tree.perform at (as_expr o))) (e i b.0)
same_tree ts us n (push at i j) b e = two (λ x y. single (tree.push at (as_expr x) (as_expr y))) (e i b.0) (e j b.1.0)
same_tree ts us n (remove at i j) b e = two (λ x y. single (tree.remove at (as_expr x) (as_expr y))) (e i b.0) (e j b.1.0)
same_tree ts us n (branch at i j k) b e = three (λ x y z. single (tree.branch at (as_expr x) (as_stmts y) (as_else z))) (e i b.0) (e j b.1.0) (e k b.1.1.0)
same_tree ts us n (while at l i j) b e = two (λ x y. single (tree.while at l (as_expr x) (as_stmts y))) (e i b.0) (e j b.1.0)
same_tree ts us n (forever at l i) b e = ap (λ o. single (tree.forever at l (as_stmts o))) (e i b.0)
same_tree ts us n (switch at l i j) b e = two (λ x y. single (tree.switch at l (as_expr x) (as_cases y))) (e i b.0) (e j b.1.0)
same_tree ts us n (return_nothing at) b e = refl
same_tree ts us n (return at i) b e = ap (λ o. single (tree.return at (Some (as_expr o)))) (e i b.0)
same_tree ts us n (throw at i) b e = ap (λ o. single (tree.throw at (as_expr o))) (e i b.0)
same_tree ts us n (break at l) b e = refl
same_tree ts us n (continue at l) b e = refl
same_tree ts us n (attempt at i j) b e = two (λ x y. single (tree.attempt at (as_stmts x) (as_stmts y))) (e i b.0) (e j b.1.0)
same_tree ts us n done b e = refl
same_tree ts us n (then i j) b e = two (λ y x. block (stmt (as_stmt x) (as_stmts y))) (e j b.0) (e i b.1.0)
same_tree ts us n no_else b e = refl
same_tree ts us n (else_block i) b e = ap (λ o. other (tree.else_block (as_stmts o))) (e i b.0)
same_tree ts us n (else_if at i j k) b e = three (λ x y z. other (tree.else_if at (as_expr x) (as_stmts y) (as_else z))) (e i b.0) (e j b.1.0) (e k b.1.1.0)
same_tree ts us n no_cases b e = refl
same_tree ts us n (default i) b e = ap (λ o. cases (tree.default (as_stmts o))) (e i b.0)
same_tree ts us n (case m i j) b e = two (λ y x. cases (tree.case m (as_stmts x) (as_cases y))) (e j b.0) (e i b.1.0)

pub parts_stand : PartsStand
parts_stand t ps c i p h =
    let r = parted ps i p h in
    let whole : ps ≡ with_part r.0 p ++ r.1 = r.2 ∙ sym (append_assoc r.0 (p ∷ []) r.1) in
    let here : last (with_part r.0 p) ≡ i = last_is r.0 p ∙ r.3 in
    let first : slice_get (trees_of (with_part r.0 p ++ r.1)) (last (with_part r.0 p)) ≡ Some (tree_of (trees_of r.0) p) =
    kept (with_part r.0 p) r.1 (last (with_part r.0 p)) (tree_of (trees_of r.0) p) (added r.0 p) in
    let stands : slice_get (trees_of ps) i ≡ Some (tree_of (trees_of r.0) p) =
    subst (λ (qs : List Part). slice_get (trees_of qs) i ≡ Some (tree_of (trees_of r.0) p)) (sym whole)
    (subst (λ (j : ℕ). slice_get (trees_of (with_part r.0 p ++ r.1)) j ≡ Some (tree_of (trees_of r.0) p)) here first) in
    let m = trees-append r.0 (p ∷ r.1) in
    let trees : trees_of ps ≡ trees_of r.0 ++ m.0 = ap trees_of r.2 ∙ m.1 in
    let sum = length_trees [] r.0 in
    let front_size = r.3 in
    let size : length (trees_of r.0) ≡ i = omega (arith, sum, front_size) in
    let agree : (k : ℕ) → k < i → slice_get (trees_of r.0) k ≡ slice_get (trees_of ps) k =
    λ k l. same_before (trees_of r.0) m.0 k (subst (λ (j : ℕ). k < j) (sym size) l) ∙ ap (λ (gs : List Tree). slice_get gs k) (sym trees) in
    stands ∙ ap Some (same_tree (trees_of r.0) (trees_of ps) i p (c.before i p h) agree)

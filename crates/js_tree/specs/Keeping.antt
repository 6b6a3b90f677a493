-- Lemmas, proved here for the crates above: with more ticks a part of a script does the same, or goes on from where it stopped; and no part takes back what it printed.
use Rattle.std.specs.Prelude.{◌≡◌, ◌≤◌, ◌+◌, ◌++◌, ℕ, zero, suc, List, [], Option, Some, None, Bool, true, false, refl}
use Rattle.std.proofs.Common.{sym, ◌∙◌, ap, subst, arith, le_trans, append_assoc}
use Rattle.std.proofs.lemmas.List.{append-nil}
use Rattle.gj_base.specs.Counts.{Begins}
use Rattle.js_tree.specs.Value.{Value, Going, Ended, Stuck, World, Outcome, gives, throws, over, and_then, choose, given}
use Rattle.js_tree.specs.Ticks.{Precedes, States, world_with, worlds, frames, world_in}

pub begins_all : (t : List ℕ) → Begins t t
begins_all t = ([], sym (append-nil t))

pub begins_more : (s t : List ℕ) → Begins s (s ++ t)
begins_more s t = (t, refl)

pub begins_trans : (s t u : List ℕ) → Begins s t → Begins t u → Begins s u
begins_trans s t u h j = (h.0 ++ j.0, j.1 ∙ ap (λ x. x ++ j.0) h.1 ∙ append_assoc s h.0 j.0)

pub precedes_itself : (w : World) → Precedes w w
precedes_itself w = record { printed = begins_all w.printed; taken = omega arith; objects = omega arith }

pub precedes_trans : {w v u : World} → Precedes w v → Precedes v u → Precedes w u
precedes_trans {w} {v} {u} h j = record {
  printed = begins_trans w.printed v.printed u.printed h.printed j.printed;
  taken = le_trans h.taken j.taken;
  objects = le_trans h.objects j.objects;
}

-- ticks don't matter
pub precedes_with : {w v : World} (n : ℕ) → Precedes (world_with n w) v → Precedes w v
precedes_with n h = record { printed = h.printed; taken = h.taken; objects = h.objects }

-- so many ticks more
abbrev pub more : ℕ → ℕ → ℕ
more zero n = n
more (suc k) n = suc (more k n)

pub more-suc : (k n : ℕ) → more k (suc n) ≡ suc (more k n)
more-suc zero n = refl
more-suc (suc k) n = ap suc (more-suc k n)

pub more-sum : (k n : ℕ) → more k n ≡ n + k
more-sum zero n = omega arith
more-sum (suc k) n = ap suc (more-sum k n) ∙ omega arith

abbrev pub raise : {S : Type 0} → States S → ℕ → S → S
raise st k s = st.with_left (more k (st.world s).left) s

-- what an outcome is with k ticks more; where it is Going, what comes instead goes on from there
abbrev pub Ahead : {S A : Type 0} → States S → ℕ → Outcome S A → Outcome S A → Type 0
Ahead st k (gives a s) o = o ≡ gives a (raise st k s)
Ahead st k (throws at v s) o = o ≡ throws at v (raise st k s)
Ahead st k (over Going w) o = Precedes w (world_in st o) × (k ≡ 0 → o ≡ over Going w)
Ahead st k (over (Ended c t) w) o = o ≡ over (Ended c t) (raise worlds k w)
Ahead st k (over (Stuck at) w) o = o ≡ over (Stuck at) (raise worlds k w)

-- the same, with at most t ticks left
pub record Keeps {S A : Type 0} (st : States S) (k t : ℕ) (o o' : Outcome S A) : Type 0 where
  pub few : (world_in st o).left ≤ t
  pub ahead : Ahead st k o o'

-- two parts, the second with k ticks more: the second takes nothing back, and from at most b ticks they keep together
pub record Pair {S A : Type 0} (st : States S) (b k : ℕ) (m m' : S → Outcome S A) : Type 0 where
  pub grows : (s : S) → Precedes (st.world s) (world_in st (m' s))
  pub keeps : (s : S) → (st.world s).left ≤ b → Keeps st k (st.world s).left (m s) (m' (raise st k s))

pub weaken : {S A : Type 0} {st : States S} {k t u : ℕ} {o o' : Outcome S A} → t ≤ u → Keeps st k t o o' → Keeps st k u o o'
weaken h e = record { few = le_trans e.few h; ahead = e.ahead }

-- outcomes that follow one another
pub then_grows : {S A B : Type 0} (st : States S) (w : World) (o : Outcome S A) (f : A → S → Outcome S B)
    → Precedes w (world_in st o) → ((a : A) (s : S) → Precedes (st.world s) (world_in st (f a s)))
    → Precedes w (world_in st (and_then o f))
then_grows st w (gives a s) f h g = precedes_trans h (g a s)
then_grows st w (throws at v s) f h g = h
then_grows st w (over e u) f h g = h

pub then_keeps : {S A B : Type 0} (st : States S) (k t : ℕ) (o o' : Outcome S A) (f f' : A → S → Outcome S B)
    → Keeps st k t o o' → ((a : A) (s : S) → Precedes (st.world s) (world_in st (f' a s)))
    → ((a : A) (s : S) → (st.world s).left ≤ t → Keeps st k (st.world s).left (f a s) (f' a (raise st k s)))
    → Keeps st k t (and_then o f) (and_then o' f')
then_keeps st k t (gives a s) o' f f' e g h =
    subst (λ (x : Outcome _ _). Keeps st k t (f a s) (and_then x f')) (sym e.ahead) (weaken e.few (h a s e.few))
then_keeps st k t (throws at v s) o' f f' e g h =
    subst (λ (x : Outcome _ _). Keeps st k t (throws at v s) (and_then x f')) (sym e.ahead) (record { few = e.few; ahead = refl })
then_keeps st k t (over Going w) o' f f' e g h = record {
  few = e.few;
  ahead = (precedes_trans e.ahead.0 (then_grows st (world_in st o') o' f' (precedes_itself _) g), λ z. ap (λ x. and_then x f') (e.ahead.1 z));
}
then_keeps st k t (over (Ended c u) w) o' f f' e g h =
    subst (λ (x : Outcome _ _). Keeps st k t (over (Ended c u) w) (and_then x f')) (sym e.ahead) (record { few = e.few; ahead = refl })
then_keeps st k t (over (Stuck at) w) o' f f' e g h =
    subst (λ (x : Outcome _ _). Keeps st k t (over (Stuck at) w) (and_then x f')) (sym e.ahead) (record { few = e.few; ahead = refl })

pub then_pair : {S A B : Type 0} {st : States S} {b k : ℕ} {m m' : S → Outcome S A} {f f' : A → S → Outcome S B}
    → Pair st b k m m' → ((a : A) → Pair st b k (f a) (f' a)) → Pair st b k (λ s. and_then (m s) f) (λ s. and_then (m' s) f')
then_pair {S} {A} {B} {st} {b} {k} {m} {m'} {f} {f'} p q = record {
  grows = λ s. then_grows st (st.world s) (m' s) f' (p.grows s) (λ a s. (q a).grows s);
  keeps = λ s l. then_keeps st k (st.world s).left (m s) (m' (raise st k s)) f f' (p.keeps s l) (λ a s. (q a).grows s) (λ a u j. (q a).keeps u (le_trans j l));
}

pub gives_pair : {A : Type 0} {b k : ℕ} (a : A) → Pair worlds b k (gives a) (gives a)
gives_pair a = record { grows = λ w. precedes_itself w; keeps = λ w l. record { few = omega arith; ahead = refl } }

pub gives_frame : {A : Type 0} {b k : ℕ} (a : A) → Pair frames b k (gives a) (gives a)
gives_frame a = record { grows = λ f. precedes_itself f.world; keeps = λ f l. record { few = omega arith; ahead = refl } }

pub throws_frame : {A : Type 0} {b k : ℕ} (at : ℕ) (v : Value) → Pair {A = A} frames b k (throws at v) (throws at v)
throws_frame at v = record { grows = λ f. precedes_itself f.world; keeps = λ f l. record { few = omega arith; ahead = refl } }

pub stuck_pair : {A : Type 0} {b k : ℕ} (at : ℕ) → Pair {A = A} worlds b k (over (Stuck at)) (over (Stuck at))
stuck_pair at = record { grows = λ w. precedes_itself w; keeps = λ w l. record { few = omega arith; ahead = refl } }

pub stuck_frame : {A : Type 0} {b k : ℕ} (at : ℕ) → Pair {A = A} frames b k (λ f. over (Stuck at) f.world) (λ f. over (Stuck at) f.world)
stuck_frame at = record { grows = λ f. precedes_itself f.world; keeps = λ f l. record { few = omega arith; ahead = refl } }

pub choose_pair : {S A : Type 0} {st : States S} {b k : ℕ} {l l' r r' : S → Outcome S A} (t : Bool)
    → Pair st b k l l' → Pair st b k r r' → Pair st b k (choose t l r) (choose t l' r')
choose_pair true p q = record { grows = λ s. p.grows s; keeps = λ s h. p.keeps s h }
choose_pair false p q = record { grows = λ s. q.grows s; keeps = λ s h. q.keeps s h }

pub given_one : {A : Type 0} {k : ℕ} (at : ℕ) (o : Option A) (w : World)
    → Precedes w (world_in worlds (given at o w)) × Keeps worlds k w.left (given at o w) (given at o (raise worlds k w))
given_one at None w = (precedes_itself w, record { few = omega arith; ahead = refl })
given_one at (Some a) w = (precedes_itself w, record { few = omega arith; ahead = refl })

-- an answer that doesn't look at ticks
pub given_pair : {A : Type 0} {b k : ℕ} (at : ℕ) (g : World → Option A) → ((n : ℕ) (w : World) → g (world_with n w) ≡ g w)
    → Pair worlds b k (λ w. given at (g w) w) (λ w. given at (g w) w)
given_pair {A} {b} {k} at g h = record {
  grows = λ w. (given_one {k = k} at (g w) w).0;
  keeps = λ w l. subst (λ (o : Option A). Keeps worlds k w.left (given at (g w) w) (given at o (raise worlds k w))) (sym (h (more k w.left) w)) (given_one {k = k} at (g w) w).1;
}

-- Which functions of the rows' programs are marked.
use Rattle.std.proofs.Common.{refl, sym, ap, ◌∙◌, subst, arith}
use Rattle.std.specs.Prelude.{◌≡◌, ℕ, zero, suc, List, [], ◌∷◌, Some, Contains}
use Rattle.go_core.specs.CoreTree.{CoreFunc, MethodName, MethodRow}
use Rattle.go_core.specs.MeaningWords.{error_func, error_method}
use Rattle.go_mentions.specs.Mentions.{Mention, blocks, calls_function, calls_method, calls_value, calls_dynamic, starts_function, takes_function, takes_method, takes_dynamic, in_stmts, in_bound}
use Rattle.go_marks.specs.Marks.{BodyMentions, IsMentioned, in_a_body, in_an_initialiser, signature_of, IsMethodFunc, IsNamed, IsTaken, as_function, as_method, as_dynamic, Class, of_values, of_methods, IsMember, CallsThrough, IsMarked}
use Rattle.go_marks.specs.Marks as mark
use Rattle.go_marks.specs.MarksRows.{taker_type, tagged_call, tagged_main, caller, waiter, wait, starter, waker, quiet_main, started, MarksRows}
use Rattle.go_marks.proofs.Each.{Each, of_each, some_inj}

-- ---- tags

waits_itself : IsMarked tagged_call 3
waits_itself = mark.waits_itself 3 (record { function = waiter; is_function = refl; mentioned = (0, omega arith, refl) })

is_taken : IsTaken tagged_call 3
is_taken = as_function (in_a_body 0 (record { function = tagged_main; is_function = refl; mentioned = (1, omega arith, refl) }))

is_member : IsMember tagged_call 3 (of_values (signature_of waiter))
is_member = mark.a_value waiter refl is_taken

calls_through : CallsThrough tagged_call 2 (of_values (signature_of waiter))
calls_through = mark.a_value (Some taker_type) (signature_of waiter) (record { function = caller; is_function = refl; mentioned = (0, omega arith, refl) }) refl

caller_waits : IsMarked tagged_call 2
caller_waits = mark.calls_a_class 2 3 (of_values (signature_of waiter)) calls_through is_member waits_itself

main_waits : IsMarked tagged_call 0
main_waits = mark.calls_one 0 2 (record { function = tagged_main; is_function = refl; mentioned = (0, omega arith, refl) }) caller_waits

-- ---- what is started isn't called

wait_waits : IsMarked started 2
wait_waits = mark.waits_itself 2 (record { function = wait; is_function = refl; mentioned = (0, omega arith, refl) })

waker_waits : IsMarked started 4
waker_waits = mark.calls_one 4 2 (record { function = waker; is_function = refl; mentioned = (0, omega arith, refl) }) wait_waits

-- what holds of each mention of a body
module _ (P : ℕ → Mention → Type 0) where
  body_of : Each (P 0) (calls_function 3 ∷ []) → Each (P 2) (blocks ∷ []) → Each (P 3) (starts_function 2 ∷ []) → Each (P 4) (calls_function 2 ∷ [])
      → (k : ℕ) (m : Mention) → BodyMentions started k m → P k m
  body_of a c d e zero m h =
      of_each (P 0) (calls_function 3 ∷ []) a m (subst (λ (f : CoreFunc). Contains (in_stmts started.names f.body) m) (sym (some_inj quiet_main h.function h.is_function)) h.mentioned)
  body_of a c d e (suc zero) m h =
      of_each (P 1) [] tt m (subst (λ (f : CoreFunc). Contains (in_stmts started.names f.body) m) (sym (some_inj error_func h.function h.is_function)) h.mentioned)
  body_of a c d e (suc (suc zero)) m h =
      of_each (P 2) (blocks ∷ []) c m (subst (λ (f : CoreFunc). Contains (in_stmts started.names f.body) m) (sym (some_inj wait h.function h.is_function)) h.mentioned)
  body_of a c d e (suc (suc (suc zero))) m h =
      of_each (P 3) (starts_function 2 ∷ []) d m (subst (λ (f : CoreFunc). Contains (in_stmts started.names f.body) m) (sym (some_inj starter h.function h.is_function)) h.mentioned)
  body_of a c d e (suc (suc (suc (suc zero)))) m h =
      of_each (P 4) (calls_function 2 ∷ []) e m (subst (λ (f : CoreFunc). Contains (in_stmts started.names f.body) m) (sym (some_inj waker h.function h.is_function)) h.mentioned)
  body_of a c d e (suc (suc (suc (suc (suc k))))) m h = let there = h.is_function in absurd (cc)

-- those that wait stand neither in `main` nor in the function that starts one
abbrev May : ℕ → Type 0
May k = (k ≡ 3 → ⊥) × (k ≡ 0 → ⊥)

-- no body mentions anything but a wait, a call of a function, and one that is started
module _ (x : Mention) (a : x ≡ blocks → ⊥) (b : (j : ℕ) → x ≡ calls_function j → ⊥) (c : (j : ℕ) → x ≡ starts_function j → ⊥) where
  no_more : (k : ℕ) → BodyMentions started k x → ⊥
  no_more k h = body_of (λ i m. m ≡ x → ⊥) ((λ e. b 3 (sym e)), tt) ((λ e. a (sym e)), tt) ((λ e. c 2 (sym e)), tt) ((λ e. b 2 (sym e)), tt) k x h refl

  never : IsMentioned started x → ⊥
  never (in_a_body k h) = no_more k h
  never (in_an_initialiser n y is h) = absurd (cc)

none_taken : (k : ℕ) → IsTaken started k → ⊥
none_taken k (as_function h) = never (takes_function k) (λ e. cc) (λ j e. cc) (λ j e. cc) h
none_taken k (as_method n h named) = never (takes_method n) (λ e. cc) (λ j e. cc) (λ j e. cc) h
none_taken k (as_dynamic row t signature h is leads) = never (takes_dynamic row.name row.package_ t) (λ e. cc) (λ j e. cc) (λ j e. cc) h

-- the one method row is that of `Error`
of_member : (k : ℕ) (c : Class) → IsMember started k c → May k
of_member k c (mark.a_value f is taken) = absurd (none_taken k taken)
of_member k c (mark.a_method row signature h) =
    let e : error_method.func ≡ k = of_each (λ (r : MethodRow). r.func ≡ k → error_method.func ≡ k) (error_method ∷ []) ((λ x. x), tt) row h.is_row h.leads in
    subst May e ((λ x. cc), (λ x. cc))

no_class : (k : ℕ) (c : Class) → CallsThrough started k c → ⊥
no_class k c (mark.a_value t signature h is) = no_more (calls_value t) (λ e. cc) (λ j e. cc) (λ j e. cc) k h
no_class k c (mark.a_method name package_ t signature h is) = no_more (calls_dynamic name package_ t) (λ e. cc) (λ j e. cc) (λ j e. cc) k h

-- a function that calls one that may wait
by_call : (j : ℕ) → May j → (i : ℕ) (m : Mention) → BodyMentions started i m → m ≡ calls_function j → May i
by_call j may i m h =
    body_of (λ i' m'. m' ≡ calls_function j → May i')
    ((λ e. absurd (may.0 (cc))), tt) ((λ e. absurd (cc)), tt) ((λ e. absurd (cc)), tt) ((λ e. ((λ x. cc), (λ x. cc))), tt) i m h

by_itself : (i : ℕ) → BodyMentions started i blocks → May i
by_itself i h =
    body_of (λ i' m'. m' ≡ blocks → May i')
    ((λ e. absurd (cc)), tt) ((λ e. ((λ x. cc), (λ x. cc))), tt) ((λ e. absurd (cc)), tt) ((λ e. absurd (cc)), tt) i blocks h refl

may_wait : (k : ℕ) → IsMarked started k → May k
may_wait k (mark.waits_itself i h) = by_itself i h
may_wait k (mark.calls_one i j h m) = by_call j (may_wait j m) i (calls_function j) h refl
may_wait k (mark.calls_its_method i j n h named m) = absurd (no_more (calls_method n) (λ e. cc) (λ x e. cc) (λ x e. cc) i h)
may_wait k (mark.of_its_class i j c a b m) = of_member i c a
may_wait k (mark.calls_a_class i j c h a m) = absurd (no_class i c h)

pub marks_rows : MarksRows
marks_rows = record {
  waits = waits_itself;
  calls_it = caller_waits;
  calls_the_caller = main_waits;
  is_called = waker_waits;
  is_started = λ m. (may_wait 3 m).0 refl;
  starter_is_called = λ m. (may_wait 0 m).1 refl;
}

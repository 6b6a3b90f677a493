-- A goal is read in one way: an answer with a tree is the only one, want of memory aside.
use Rattle.std.proofs.Common.{◌≡◌, ◌∙◌, sym, subst, List, Option, Some, None, Result, Ok, Err, Bool, true, false, refl, ap, inl, inr}
use Rattle.std.specs.Prelude.{◌⊎◌}
use Rattle.js_tree.specs.Lexical.{Placed}
use Rattle.js_grammar.specs.declared.refusal.ReadRefusal.{ReadRefusal}
use Rattle.js_grammar.specs.declared.refusal.ReadRefusal.TheVariants.{Syntax, NoMemory}
use Rattle.js_grammar.specs.Goals.{Goal, Gives}
use Rattle.js_grammar.specs.Steps.{Answer, Steps}
use Rattle.js_grammar.specs.Reads.{Reads, reads, Ends, answered, called, passed, held, failed, no_infix, an_infix, no_sign, a_sign, out_of_memory}

-- what another answer can be beside this one
abbrev pub Agrees : {X : Type 0} → X → Result X ReadRefusal → Type 0
Agrees p (Ok q) = p ≡ q
Agrees p (Err (Syntax at)) = ⊥
Agrees p (Err NoMemory) = Unit {0}

agrees_at : {X : Type 0} (a : Result X ReadRefusal) (p : X) (r : Result X ReadRefusal) → a ≡ Ok p → a ≡ r → Agrees p r
agrees_at a p r x y = let q : Ok p ≡ r = sym x ∙ y in subst (λ z. Agrees p z) q refl

agrees_passing : {X Y : Type 0} (p : X) (q : Y) (e : ReadRefusal) → Agrees p (Err e) → Agrees q (Err e)
agrees_passing p q (Syntax at) h = h
agrees_passing p q NoMemory h = tt

apart : {X : Type 0} (b : Bool) → b ≡ true → b ≡ false → X
apart b p q = absurd (cc)

none_is_some : {X Y : Type 0} (o : Option X) (x : X) → o ≡ None → o ≡ Some x → Y
none_is_some o x p q = absurd (cc)

some_is : {X : Type 0} (o : Option X) (x y : X) → o ≡ Some x → o ≡ Some y → x ≡ y
some_is o x y p q = cc

mutual
  pub reads_once : {g : Goal} {ts : List Placed} {p : Gives g × List Placed} {r : Answer g} → Reads g ts (Ok p) → Reads g ts r → Agrees p r
  reads_once (reads a) (reads b) = ends_once a b

  ends_once : {g : Goal} {s : Steps g} {p : Gives g × List Placed} {r : Answer g} → Ends g s (Ok p) → Ends g s r → Agrees p r
  ends_once (answered {x = a} {r = o} x) (answered {r = r} y) = agrees_at a _ r x y
  ends_once (answered x) out_of_memory = tt
  ends_once (called h e) (called {g = g} {next = next} {r = r} k f) =
      ends_once e (subst (λ z. Ends g (next z.0 z.1) r) (sym (reads_once h k)) f)
  ends_once {p = p} (called {h = m} {vs = vs} {v = v} h e) (passed {e = x} k) = let pair : Gives m × List Placed = (v, vs) in agrees_passing pair p x (reads_once h k)
  ends_once (called h e) out_of_memory = tt
  ends_once (held a e) (held b f) = ends_once e f
  ends_once (held {b = c} a e) (failed b f) = apart c a b
  ends_once (held a e) out_of_memory = tt
  ends_once (failed {b = c} a e) (held b f) = apart c b a
  ends_once (failed a e) (failed b f) = ends_once e f
  ends_once (failed a e) out_of_memory = tt
  ends_once (no_infix a e) (no_infix b f) = ends_once e f
  ends_once (no_infix {o = o} a e) (an_infix {i = i} b f) = none_is_some o i a b
  ends_once (no_infix a e) out_of_memory = tt
  ends_once (an_infix {o = o} {i = i} a e) (no_infix b f) = none_is_some o i b a
  ends_once (an_infix {g = g} {o = o} {i = i} {q = q} a e) (an_infix {i = j} {r = r} b f) =
      ends_once e (subst (λ z. Ends g (q z) r) (some_is o j i b a) f)
  ends_once (an_infix a e) out_of_memory = tt
  ends_once (no_sign a e) (no_sign b f) = ends_once e f
  ends_once (no_sign {o = o} a e) (a_sign {op = i} b f) = none_is_some o i a b
  ends_once (no_sign a e) out_of_memory = tt
  ends_once (a_sign {o = o} {op = i} a e) (no_sign b f) = none_is_some o i b a
  ends_once (a_sign {g = g} {o = o} {op = i} {q = q} a e) (a_sign {op = j} {r = r} b f) =
      ends_once e (subst (λ z. Ends g (q z) r) (some_is o j i b a) f)
  ends_once (a_sign a e) out_of_memory = tt

only : {X : Type 0} (p : X) (r : Result X ReadRefusal) → Agrees p r → (r ≡ Ok p) ⊎ (r ≡ Err NoMemory)
only p (Ok q) h = inl (ap Ok (sym h))
only p (Err (Syntax at)) h = absurd h
only p (Err NoMemory) h = inr refl

-- so another answer is the same one, or want of memory
pub only_answer : {g : Goal} {ts : List Placed} {p : Gives g × List Placed} {r : Answer g} → Reads g ts (Ok p) → Reads g ts r → (r ≡ Ok p) ⊎ (r ≡ Err NoMemory)
only_answer {p = p} {r = r} a b = only p r (reads_once a b)

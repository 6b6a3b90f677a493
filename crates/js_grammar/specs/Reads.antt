-- Own: what a reading comes to. There is one such answer, want of memory aside.
use Rattle.std.specs.Prelude.{◌≡◌, List, Option, Some, None, Result, Ok, Err, Bool, true, false, IsErrAnd}
use Rattle.std.proofs.Common.{subst, sym}
use Rattle.js_tree.specs.Lexical.{Placed}
use Rattle.js_tree.specs.declared.tree.UnaryOp.{UnaryOp}
use Rattle.js_grammar.specs.declared.token.Infix.{Infix}
use Rattle.js_grammar.specs.declared.refusal.ReadRefusal.{ReadRefusal}
use Rattle.js_grammar.specs.declared.refusal.ReadRefusal.TheVariants.{NoMemory}
use Rattle.js_grammar.specs.Goals.{Goal, Gives}
use Rattle.js_grammar.specs.Steps.{Answer, Steps, answer, call, test, on_infix, on_sign, steps}

mutual
  -- the tokens are read so for this goal
  pub data Reads : (g : Goal) (ts : List Placed) (r : Answer g) → Type 0 where
    reads : {g : Goal} {ts : List Placed} {r : Answer g} → Ends g (steps g ts) r → Reads g ts r

  -- these steps end so
  pub data Ends : (g : Goal) (s : Steps g) (r : Answer g) → Type 0 where
    answered : {g : Goal} {x r : Answer g} → x ≡ r → Ends g (answer x) r
    called : {g h : Goal} {us vs : List Placed} {v : Gives h} {next : Gives h → List Placed → Steps g} {r : Answer g}
        → Reads h us (Ok (v, vs)) → Ends g (next v vs) r → Ends g (call h us next) r
    passed : {g h : Goal} {us : List Placed} {next : Gives h → List Placed → Steps g} {e : ReadRefusal}
        → Reads h us (Err e) → Ends g (call h us next) (Err e)
    held : {g : Goal} {b : Bool} {p q : Steps g} {r : Answer g} → b ≡ true → Ends g p r → Ends g (test b p q) r
    failed : {g : Goal} {b : Bool} {p q : Steps g} {r : Answer g} → b ≡ false → Ends g q r → Ends g (test b p q) r
    no_infix : {g : Goal} {o : Option Infix} {p : Steps g} {q : Infix → Steps g} {r : Answer g}
        → o ≡ None → Ends g p r → Ends g (on_infix o p q) r
    an_infix : {g : Goal} {o : Option Infix} {i : Infix} {p : Steps g} {q : Infix → Steps g} {r : Answer g}
        → o ≡ Some i → Ends g (q i) r → Ends g (on_infix o p q) r
    no_sign : {g : Goal} {o : Option UnaryOp} {p : Steps g} {q : UnaryOp → Steps g} {r : Answer g}
        → o ≡ None → Ends g p r → Ends g (on_sign o p q) r
    a_sign : {g : Goal} {o : Option UnaryOp} {op : UnaryOp} {p : Steps g} {q : UnaryOp → Steps g} {r : Answer g}
        → o ≡ Some op → Ends g (q op) r → Ends g (on_sign o p q) r
    out_of_memory : {g : Goal} {s : Steps g} → Ends g s (Err NoMemory)

-- what the program answered, seen as trees and tokens of the grammar
abbrev pub seen : {X Y : Type 0} → (X → Y) → Result X ReadRefusal → Result Y ReadRefusal
seen view (Ok x) = Ok (view x)
seen view (Err e) = Err e

-- an answer that passes an error on
pub stop : {g : Goal} {ts : List Placed} {Y : Type 0} (view : Y → Gives g × List Placed) (r : Result Y ReadRefusal) {e : ReadRefusal}
    → IsErrAnd r (λ x. x ≡ e) → Reads g ts (Err e) → Reads g ts (seen view r)
stop {g = g} {ts = ts} view (Err x) {e = e} q h = subst (λ z. Reads g ts (Err z)) (sym q) h
stop view (Ok x) q h = absurd q

pub no_memory : {g : Goal} {ts : List Placed} {e : ReadRefusal} → e ≡ NoMemory → Reads g ts (Err e)
no_memory {g = g} {ts = ts} {e = e} q = subst (λ z. Reads g ts (Err z)) (sym q) (reads out_of_memory)

pub ruleset reading = (reads, answered, called, passed, held, failed, no_infix, an_infix, no_sign, a_sign, no_memory, stop)

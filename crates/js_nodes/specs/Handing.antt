-- Own: answers of parts, as those of the whole: lemmas with their proofs, for the readers.
use Rattle.std.specs.Prelude.{◌≡◌, List, Result, Ok, Err, IsErrAnd}
use Rattle.std.proofs.Common.{subst, sym}
use Rattle.js_tree.specs.Lexical.{Placed}
use Rattle.js_grammar.specs.declared.refusal.ReadRefusal.{ReadRefusal}
use Rattle.js_grammar.specs.declared.refusal.ReadRefusal.TheVariants.{Syntax}
use Rattle.js_grammar.specs.Goals.{Goal, Gives}
use Rattle.js_grammar.specs.Steps.{Steps, call, wrong}
use Rattle.js_grammar.specs.Reads.{Reads, Ends, called, passed, seen, stop}

-- the answer of a part, as the whole's
pub handed : {g h : Goal} {us : List Placed} {X : Type 0} {next : Gives h → List Placed → Steps g} (view : X → Gives h × List Placed) (look : X → Gives g × List Placed) (r : Result X ReadRefusal)
    → Reads h us (seen view r) → ((x : X) → Ends g (next (view x).0 (view x).1) (Ok (look x))) → Ends g (call h us next) (seen look r)
handed view look (Ok x) q f = called q (f x)
handed view look (Err e) q f = passed q

pub refused : {g : Goal} {ts : List Placed} (e : ReadRefusal) → e ≡ Syntax 0 → Reads g ts wrong → Reads g ts (Err e)
refused {g = g} {ts = ts} e q h = subst (λ z. Reads g ts (Err z)) (sym q) h

-- an answer that passes an error on
pub stopped : {g : Goal} {ts : List Placed} {Y : Type 0} (r : Result Y ReadRefusal) (view : Y → Gives g × List Placed) {e : ReadRefusal} → IsErrAnd r (λ x. x ≡ e) → Reads g ts (Err e) → Reads g ts (seen view r)
stopped r view q h = stop view r q h

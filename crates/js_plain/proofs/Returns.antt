-- Lemmas for returns: what lists keep of a state.
use Rattle.std.proofs.Common.{◌≡◌, ◌≤◌, ℕ, zero, suc, arith, List, length, Bool, true, false, if◌then◌else◌, Option, Some, None, refl, ap, ◌∙◌}
use Rattle.std.specs.List.{slice_get}
use Rattle.js_facts.specs.declared.facts.Facts.{Facts}
use Rattle.js_body.specs.declared.body.Home.{Home}
use Rattle.js_body.specs.State.{State, slot_read, mentioned}
use Rattle.js_plain.specs.Control.{values_upto, result_listed, results_upto, block_held}
use Rattle.js_plain.specs.Lines.{ScalarResults}

pub if_facts : (b : Bool) (u v : State) (f : Facts) → u.around.facts ≡ f → v.around.facts ≡ f → (if b then u else v).around.facts ≡ f
if_facts true u v f h k = h
if_facts false u v f h k = k

if_results : (b : Bool) (u v : State) (hs : List Home) → u.around.results ≡ hs → v.around.results ≡ hs → (if b then u else v).around.results ≡ hs
if_results true u v hs h k = h
if_results false u v hs h k = k

if_items : (b : Bool) (u v : State) (n : ℕ) → length u.items ≡ n → length v.items ≡ n → length (if b then u else v).items ≡ n
if_items true u v n h k = h
if_items false u v n h k = k

pub read_facts : (n : ℕ) (s : State) → (slot_read n s).around.facts ≡ s.around.facts
read_facts n s = if_facts s.around.plain (mentioned n s) s s.around.facts refl refl

read_results : (n : ℕ) (s : State) → (slot_read n s).around.results ≡ s.around.results
read_results n s = if_results s.around.plain (mentioned n s) s s.around.results refl refl

read_items : (n : ℕ) (s : State) → length (slot_read n s).items ≡ length s.items
read_items n s = if_items s.around.plain (mentioned n s) s (length s.items) refl refl

listed_facts : (o : Option Home) (s : State) → (result_listed o s).around.facts ≡ s.around.facts
listed_facts None s = refl
listed_facts (Some h) s = read_facts h.slot s

listed_results : (o : Option Home) (s : State) → (result_listed o s).around.results ≡ s.around.results
listed_results None s = refl
listed_results (Some h) s = read_results h.slot s

listed_items : (o : Option Home) (s : State) → length s.items ≤ length (result_listed o s).items
listed_items None s = omega arith
listed_items (Some h) s = omega (arith, read_items h.slot s)

upto_facts : (n : ℕ) (s : State) → (results_upto n s).around.facts ≡ s.around.facts
upto_facts zero s = refl
upto_facts (suc n) s = listed_facts (slice_get (results_upto n s).around.results n) (results_upto n s) ∙ upto_facts n s

upto_results : (n : ℕ) (s : State) → (results_upto n s).around.results ≡ s.around.results
upto_results zero s = refl
upto_results (suc n) s = listed_results (slice_get (results_upto n s).around.results n) (results_upto n s) ∙ upto_results n s

pub results_longer : (n : ℕ) (s : State) → length s.items ≤ length (results_upto n s).items
results_longer zero s = omega arith
results_longer (suc n) s =
    let a : length s.items ≤ length (results_upto n s).items = results_longer n s in
    let b : length (results_upto n s).items ≤ length (results_upto (suc n) s).items = listed_items (slice_get (results_upto n s).around.results n) (results_upto n s) in
    omega (arith, a, b)

pub values_longer : (n : ℕ) (s : State) → length s.items ≤ length (values_upto n s).items
values_longer zero s = omega arith
values_longer (suc n) s =
    let a : length s.items ≤ length (values_upto n s).items = values_longer n s in
    omega (arith, a)

-- the results that are left are no structs or arrays
pub upto_scalar : (s : State) → ScalarResults s → (n : ℕ) → block_held (slice_get (results_upto n s).around.results n) (results_upto n s).around.facts ≡ false
upto_scalar s h n =
    ap (λ (hs : List Home). block_held (slice_get hs n) (results_upto n s).around.facts) (upto_results n s) ∙
    ap (λ (f : Facts). block_held (slice_get s.around.results n) f) (upto_facts n s) ∙ h n

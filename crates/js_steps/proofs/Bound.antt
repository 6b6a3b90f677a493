-- Arguments in slots.
use Rattle.std.proofs.Common.{◌≡◌, refl, ap, sym, ◌∙◌, arith, ℕ, zero, suc, false, List, [], ◌∷◌, ◌++◌, append_assoc, map, length, drop, Option, Some, None, option_map}
use Rattle.std.specs.Prelude.{◌-◌, replicate}
use Rattle.std.proofs.lemmas.List.{map-append, length-map}
use Rattle.js_tree.specs.Script.{Name, Function, ScriptTree}
use Rattle.js_tree.specs.Value.{Value}
use Rattle.js_tree.specs.Evaluate.{bound, scope_of}
use Rattle.js_tree.specs.Static.{has_twice}
use Rattle.js_code.specs.Names.{distinct}
use Rattle.js_code.specs.Slots.{slots_of}
use Rattle.js_code.specs.SlotLaws.{binds_slots}
use Rattle.js_value.specs.HeapSeen.{value_of, values_of}
use Rattle.js_value.specs.declared.heap.value.Value as held
use Rattle.js_simple.specs.Seen.{slots_in}

-- nothing in each of so many slots
abbrev nothing_in : ℕ → List (Option Value)
nothing_in k = replicate k None

none_left : (n : ℕ) (xs : List Name) → map (λ (x : Name). let o : Option Value = None in o) (drop n xs) ≡ nothing_in (length xs - n)
none_left zero [] = refl
none_left zero (x ∷ xs) =
    let e : suc (length xs - 0) ≡ suc (length xs) - 0 = omega arith in
    ap (λ (os : List (Option Value)). None ∷ os) (none_left zero xs) ∙ ap nothing_in e
none_left (suc n) [] = let e : 0 ≡ 0 - suc n = omega arith in ap nothing_in e
none_left (suc n) (x ∷ xs) =
    let e : length xs - n ≡ suc (length xs) - suc n = omega arith in
    none_left n xs ∙ ap nothing_in e

-- what slots hold that were filled, and that were left empty
filled_slots : (vs : List held.Value) → slots_in (map Some vs) ≡ map Some (values_of vs)
filled_slots [] = refl
filled_slots (v ∷ vs) = ap (λ (os : List (Option Value)). Some (value_of v) ∷ os) (filled_slots vs)

abbrev empty_slots : ℕ → List (Option held.Value)
empty_slots n = replicate n None

slots_empty : (n : ℕ) → slots_in (empty_slots n) ≡ nothing_in n
slots_empty zero = refl
slots_empty (suc n) = ap (λ (os : List (Option Value)). None ∷ os) (slots_empty n)

pub bound_in_slots : (old mid new : List (Option held.Value)) (vs : List held.Value) (n k : ℕ) → mid ≡ old ++ map Some vs → new ≡ mid ++ empty_slots k → k ≡ n - length vs
    → slots_in new ≡ slots_in old ++ (map Some (values_of vs) ++ nothing_in (n - length vs))
bound_in_slots old mid new vs n k e h q =
    ap slots_in (h ∙ ap (λ (xs : List (Option held.Value)). xs ++ empty_slots k) e ∙ append_assoc old (map Some vs) (empty_slots k))
    ∙ map-append (option_map value_of) old (map Some vs ++ empty_slots k)
    ∙ ap (λ (os : List (Option Value)). slots_in old ++ os) (map-append (option_map value_of) (map Some vs) (empty_slots k))
    ∙ ap (λ (os : List (Option Value)). slots_in old ++ (os ++ slots_in (empty_slots k))) (filled_slots vs)
    ∙ ap (λ (os : List (Option Value)). slots_in old ++ (map Some (values_of vs) ++ os)) (slots_empty k ∙ ap nothing_in q)

-- at a call the slots hold the variables
pub bound_stand : (script : ScriptTree) (f : Function) (vs : List held.Value) (new : List (Option held.Value)) (n : ℕ) → has_twice f.params ≡ false → length vs ≡ length f.params
    → n ≡ length (distinct (scope_of f).names) → slots_in new ≡ map Some (values_of vs) ++ nothing_in (n - length vs)
    → slots_of (distinct (scope_of f).names) (bound f.params (values_of vs)) ≡ slots_in new
bound_stand script f vs new n once l q h =
    let same : length (values_of vs) ≡ length vs = length-map vs value_of in
    binds_slots script f (values_of vs) once (same ∙ l)
    ∙ ap (λ (os : List (Option Value)). map Some (values_of vs) ++ os) (none_left (length (values_of vs)) (distinct (scope_of f).names))
    ∙ ap (λ (k : ℕ). map Some (values_of vs) ++ nothing_in (k - length (values_of vs))) (sym q)
    ∙ ap (λ (k : ℕ). map Some (values_of vs) ++ nothing_in (n - k)) same
    ∙ sym h

-- Objects by their places.
use Rattle.std.proofs.Common.{arith, ◌≡◌, ◌<◌, ◌∙◌, refl, sym, ap, List, ℕ, Some, None, Option, Bool, true, false, if◌then◌else◌, length, slice_get, slice_set, option_map, get_or}
use Rattle.std.proofs.lemmas.Option.{slice_get-map, slice_get_read}
use Rattle.std.proofs.lemmas.List.{map-set}
use Rattle.std.proofs.Common.{[], ◌∷◌, ◌++◌, ◌-◌, take, length-append, length-take, cond, pos}
use Rattle.std.specs.Prelude.{Result, Ok, Err, IfOk, IfNone, option_to_list}
use Rattle.gj_base.specs.declared.memory.NoMemory.{NoMemory}
use Rattle.std.proofs.lemmas.List.{map-append, append-nil, length-map}
use Rattle.std.proofs.lemmas.Bool.{lt-ltb}
use Rattle.std.proofs.Math.Seq.{map-set_same}
use Rattle.js_value.specs.declared.value.value.Value as held
use Rattle.js_value.specs.ValueSeen.{value_of, values_of, popped_parts}
use Rattle.js_tree.specs.Value.{Value, whole, bytes, truth, nothing, object, function, Object, items, entries}
use Rattle.js_tree.specs.Operation as defined
use Rattle.js_value.specs.declared.value.heap.Object as heap
use Rattle.js_value.specs.ValueSeen.{object_of, objects_of, object_at}

pub element_is : (os : List Object) (a i : Value) → defined.element os a i ≡ defined.element_in (object_at os a) i
element_is os (whole n) i = refl
element_is os (bytes s) i = refl
element_is os (truth b) i = refl
element_is os nothing i = refl
element_is os (object id) i = refl
element_is os (function x) i = refl

pub has_key_is : (os : List Object) (a k : Value) → defined.has_key os k a ≡ defined.key_in (object_at os a) k
has_key_is os (whole n) k = refl
has_key_is os (bytes s) k = refl
has_key_is os (truth b) k = refl
has_key_is os nothing k = refl
has_key_is os (object id) k = refl
has_key_is os (function x) k = refl

-- the object in a place
pub there : (os : List heap.Object) (id : ℕ) (o : heap.Object) → id < length os → o ≡ get_or os id o → slice_get (objects_of os) id ≡ Some (object_of o)
there os id o l e = slice_get-map object_of os id ∙ ap (option_map object_of) (slice_get_read os (length os) id o refl l e)

-- another in its place, where there is one
pub replaced_if : (os : List heap.Object) (id : ℕ) (o : heap.Object) (done : Bool) (c : Option Object) → c ≡ (if done then Some (object_of o) else None)
    → defined.replaced (objects_of os) id c ≡ (if done then Some (objects_of (slice_set os id o)) else None)
replaced_if os id o true c e = ap (defined.replaced (objects_of os) id) e ∙ ap Some (sym (map-set object_of os id o))
replaced_if os id o false c e = ap (defined.replaced (objects_of os) id) e

pub stored_is : (os : List heap.Object) (id : ℕ) (o o' : heap.Object) (a i v : Value) (r : Result Bool NoMemory) → a ≡ object id → id < length os → o ≡ get_or os id o
    → IfOk r (λ done. defined.stored_in (Some (object_of o)) i v ≡ (if done then Some (object_of o') else None))
    → IfOk r (λ done. defined.stored (objects_of os) a i v ≡ (if done then Some (objects_of (slice_set os id o')) else None))
stored_is os id o o' a i v (Ok done) q l e h = ap (λ a. defined.stored (objects_of os) a i v) q ∙ replaced_if os id o' done _ (ap (λ x. defined.stored_in x i v) (there os id o l e) ∙ h)
stored_is os id o o' a i v (Err x) q l e h = tt

pub pushed_is : (os : List heap.Object) (id : ℕ) (o o' : heap.Object) (a v : Value) (r : Result Bool NoMemory) → a ≡ object id → id < length os → o ≡ get_or os id o
    → IfOk r (λ done. defined.pushed_in (Some (object_of o)) v ≡ (if done then Some (object_of o') else None))
    → IfOk r (λ done. defined.pushed (objects_of os) a v ≡ (if done then Some (objects_of (slice_set os id o')) else None))
pushed_is os id o o' a v (Ok done) q l e h = ap (λ a. defined.pushed (objects_of os) a v) q ∙ replaced_if os id o' done _ (ap (λ x. defined.pushed_in x v) (there os id o l e) ∙ h)
pushed_is os id o o' a v (Err x) q l e h = tt

pub removed_is : (os : List heap.Object) (id : ℕ) (o o' : heap.Object) (a k : Value) (done : Bool) → a ≡ object id → id < length os → o ≡ get_or os id o
    → defined.removed_in (Some (object_of o)) k ≡ (if done then Some (object_of o') else None)
    → defined.removed (objects_of os) a k ≡ (if done then Some (objects_of (slice_set os id o')) else None)
removed_is os id o o' a k done q l e h = ap (λ a. defined.removed (objects_of os) a k) q ∙ replaced_if os id o' done _ (ap (λ x. defined.removed_in x k) (there os id o l e) ∙ h)

-- what can't be told from what was there changes nothing
pub same_is : (os : List heap.Object) (id : ℕ) (o o' : heap.Object) → o ≡ get_or os id o → object_of o' ≡ object_of o → objects_of (slice_set os id o') ≡ objects_of os
same_is os id o o' e h = map-set_same object_of os id o' o (h ∙ ap object_of e)

pub same_ok : (os : List heap.Object) (id : ℕ) (o o' : heap.Object) (r : Result Bool NoMemory) → o ≡ get_or os id o → IfOk r (λ done. done ≡ false → object_of o' ≡ object_of o)
    → IfOk r (λ done. done ≡ false → objects_of (slice_set os id o') ≡ objects_of os)
same_ok os id o o' (Ok done) e h = λ f. same_is os id o o' e (h f)
same_ok os id o o' (Err x) e h = tt

-- without an object nothing is stored, pushed, removed or popped
pub stored_none : (os : List Object) (a i v : Value) → object_at os a ≡ None → defined.stored os a i v ≡ None
stored_none os (object id) i v h = ap (λ o. defined.replaced os id (defined.stored_in o i v)) h
stored_none os (whole n) i v h = refl
stored_none os (bytes s) i v h = refl
stored_none os (truth b) i v h = refl
stored_none os nothing i v h = refl
stored_none os (function x) i v h = refl

pub pushed_none : (os : List Object) (a v : Value) → object_at os a ≡ None → defined.pushed os a v ≡ None
pushed_none os (object id) v h = ap (λ o. defined.replaced os id (defined.pushed_in o v)) h
pushed_none os (whole n) v h = refl
pushed_none os (bytes s) v h = refl
pushed_none os (truth b) v h = refl
pushed_none os nothing v h = refl
pushed_none os (function x) v h = refl

pub removed_none : (os : List Object) (a k : Value) → object_at os a ≡ None → defined.removed os a k ≡ None
removed_none os (object id) k h = ap (λ o. defined.replaced os id (defined.removed_in o k)) h
removed_none os (whole n) k h = refl
removed_none os (bytes s) k h = refl
removed_none os (truth b) k h = refl
removed_none os nothing k h = refl
removed_none os (function x) k h = refl

pub popped_none : (os : List Object) (a : Value) → object_at os a ≡ None → defined.popped os a ≡ None
popped_none os (object id) h = ap (defined.popped_in os id) h
popped_none os (whole n) h = refl
popped_none os (bytes s) h = refl
popped_none os (truth b) h = refl
popped_none os nothing h = refl
popped_none os (function x) h = refl

slice_last : {A : Type 0} (xs : List A) (x : A) → slice_get (xs ++ x ∷ []) (length xs) ≡ Some x
slice_last [] x = refl
slice_last (y ∷ ys) x = slice_last ys x

take_all : {A : Type 0} (xs : List A) (x : A) → take (length xs) (xs ++ x ∷ []) ≡ xs
take_all [] x = refl
take_all (y ∷ ys) x = ap (λ z. y ∷ z) (take_all ys x)

popped_last : (xs : List Value) (x : Value) → popped_parts (items (xs ++ x ∷ [])) ≡ Some (x, items xs)
popped_last xs x =
    let k : length (xs ++ x ∷ []) - 1 ≡ length xs = omega (arith, length-append xs (x ∷ [])) in
    ap (λ n. option_map (λ v. (v, items (take n (xs ++ x ∷ [])))) (slice_get (xs ++ x ∷ []) n)) k
    ∙ ap (λ zs. option_map (λ v. (v, items zs)) (slice_get (xs ++ x ∷ []) (length xs))) (take_all xs x)
    ∙ ap (option_map (λ v. (v, items xs))) (slice_last xs x)

pub popped_parts_are : (n : ℕ) (old new : List held.Value) (r : Option held.Value) → n ≡ length old → new ≡ take (n - 1) old → old ≡ new ++ option_to_list r
    → popped_parts (items (values_of old)) ≡ option_map (λ v. (value_of v, items (values_of new))) r
popped_parts_are n old new (Some v) l t e = ap (λ z. popped_parts (items (values_of z))) e ∙ ap (λ z. popped_parts (items z)) (map-append value_of new (v ∷ [])) ∙ popped_last (values_of new) (value_of v)
popped_parts_are n [] new None l t e = refl
popped_parts_are n (x ∷ old) new None l t e =
    let k : length (x ∷ old) ≡ length new = ap length e ∙ ap length (append-nil new) in
    let m : length new ≡ length (take (n - 1) (x ∷ old)) = ap length t in
    absurd (omega (arith, l, k, m, length-take (n - 1) (x ∷ old)))

abbrev with_last : List Value → Value → Value × Object
with_last vs v = (v, items (take (length vs - 1) vs))

abbrev written_last : List Object → ℕ → List Value → Value → Value × List Object
written_last os id vs v = (v, slice_set os id (items (take (length vs - 1) vs)))

abbrev put : List Object → ℕ → Value × Object → Value × List Object
put os id p = (p.0, slice_set os id p.1)

abbrev paired : heap.Object → held.Value → Value × Object
paired o v = (value_of v, object_of o)

abbrev paired_all : List heap.Object → held.Value → Value × List Object
paired_all os v = (value_of v, objects_of os)

twice : (os : List Object) (id : ℕ) (vs : List Value) (g : Option Value)
    → option_map (written_last os id vs) g ≡ option_map (put os id) (option_map (with_last vs) g)
twice os id vs None = refl
twice os id vs (Some v) = refl

inner : (os : List Object) (id : ℕ) (c : Object) → defined.popped_in os id (Some c) ≡ option_map (put os id) (popped_parts c)
inner os id (items vs) = twice os id vs (slice_get vs (length vs - 1))
inner os id (entries es) = refl

outer : (os : List heap.Object) (id : ℕ) (o' : heap.Object) (r : Option held.Value)
    → option_map (put (objects_of os) id) (option_map (paired o') r) ≡ option_map (paired_all (slice_set os id o')) r
outer os id o' None = refl
outer os id o' (Some v) = ap (λ z. Some (value_of v, z)) (sym (map-set object_of os id o'))

parts : (os : List heap.Object) (id : ℕ) (o o' : heap.Object) (r : Option held.Value) → popped_parts (object_of o) ≡ option_map (paired o') r
    → defined.popped_in (objects_of os) id (Some (object_of o)) ≡ option_map (paired_all (slice_set os id o')) r
parts os id o o' r h = inner (objects_of os) id (object_of o) ∙ ap (option_map (put (objects_of os) id)) h ∙ outer os id o' r

pub popped_is : (os : List heap.Object) (id : ℕ) (o o' : heap.Object) (a : Value) (r : Option held.Value) → a ≡ object id → id < length os → o ≡ get_or os id o
    → popped_parts (object_of o) ≡ option_map (paired o') r
    → defined.popped (objects_of os) a ≡ option_map (paired_all (slice_set os id o')) r
popped_is os id o o' a r q l e h = ap (defined.popped (objects_of os)) q ∙ ap (defined.popped_in (objects_of os) id) (there os id o l e) ∙ parts os id o o' r h

pub same_none : (os : List heap.Object) (id : ℕ) (o o' : heap.Object) (r : Option held.Value) → o ≡ get_or os id o → IfNone r (object_of o' ≡ object_of o) → IfNone r (objects_of (slice_set os id o') ≡ objects_of os)
same_none os id o o' None e h = same_is os id o o' e h
same_none os id o o' (Some v) e h = tt

-- an element below the length is set
pub set_item_is : (vs : List held.Value) (i : ℕ) (v : held.Value) → i < length vs → defined.stored_in (Some (items (values_of vs))) (whole (pos i)) (value_of v) ≡ Some (items (values_of (slice_set vs i v)))
set_item_is vs i v l =
    ap (λ b. cond b (Some (items (slice_set (values_of vs) i (value_of v)))) None) (lt-ltb i (length (values_of vs)) (omega (arith, length-map vs value_of)))
    ∙ ap (λ z. Some (items z)) (sym (map-set value_of vs i v))

-- What the static rules say of the functions of a script that breaks none, and so of their code.
use Rattle.std.proofs.Common.{◌≡◌, refl, ap, sym, ◌∙◌, subst, ℕ, zero, suc, List, [], ◌∷◌, ◌++◌, Some, None, Bool, true, false, cond, ◌||◌, bytes_eq, codes, slice_get, true≢false, ◌<◌, ◌≤◌, ◌+◌, length, get_or, take, map, arith}
use Rattle.std.specs.List.{list_any}
use Rattle.std.proofs.lemmas.List.{append-nil, map-append, take_all}
use Rattle.std.proofs.Math.Seq.{take-suc}
use Rattle.js_tree.specs.View.{item_view}
use Rattle.std.specs.Borrow.{Bor}
use Rattle.js_tree.specs.declared.tree.JsFunction.{JsFunction}
use Rattle.js_tree.specs.declared.tree.JsItem.{JsItem}
use Rattle.js_tree.specs.declared.tree.JsItem.TheVariants as item
use Rattle.js_tree.specs.Script.{Name, Function, Item, function_item, global_item, ScriptTree}
use Rattle.js_tree.specs.Value.{holds}
use Rattle.js_tree.specs.Evaluate.{write, pick, finish, host_named, find_function}
use Rattle.js_tree.specs.Static.{fault_if, has_twice, function_faults, stmts_faults, items_faults, preamble_names, least, static_fault}
use Rattle.js_code.specs.NameLaws.{own_name, other_way}
use Rattle.js_steps.specs.declared.bodies.body.Body.{Body}
use Rattle.js_steps.specs.Bodies.{AddsBody, IsFunctionBody, IsProgram, has_name, has_name_in}
use Rattle.js_steps.proofs.BodiesMade.{AreMade, made_at, made_more}

-- the functions of a script, in order
abbrev pub functions_of : List Item → List Function
functions_of [] = []
functions_of (function_item f ∷ rest) = f ∷ functions_of rest
functions_of (global_item at x e ∷ rest) = functions_of rest

none_least : (ns : List ℕ) → least ns ≡ None → ns ≡ []
none_least [] h = refl
none_least (n ∷ ns) h = cc

both_empty : (xs ys : List ℕ) → xs ++ ys ≡ [] → (xs ≡ []) × (ys ≡ [])
both_empty [] ys h = (refl, h)
both_empty (x ∷ xs) ys h = cc

three_empty : (xs ys zs : List ℕ) → xs ++ ys ++ zs ≡ [] → (xs ≡ []) × (ys ≡ []) × (zs ≡ [])
three_empty [] [] zs h = (refl, refl, h)
three_empty [] (y ∷ ys) zs h = cc
three_empty (x ∷ xs) ys zs h = cc

unbroken : (at : ℕ) (b : Bool) → fault_if at b ≡ [] → b ≡ false
unbroken at true h = cc
unbroken at false h = refl

-- a name that is none of several
apart : (x y : Name) (ys : List Name) → holds x (y ∷ ys) ≡ false → (bytes_eq x y ≡ false) × (holds x ys ≡ false)
apart x y ys h = by (bytes_eq x y) h
  where
    by : (b : Bool) → cond b true (holds x ys) ≡ false → (b ≡ false) × (holds x ys ≡ false)
    by true h = absurd (true≢false h)
    by false h = (refl, h)

-- what the rules say of one function
pub record IsSoundIn (before : List Name) (all : List Item) (f : Function) : Type 0 where
  pub once : has_twice f.params ≡ false
  pub fresh : holds f.name before ≡ false
  pub found : find_function f.name all ≡ Some f

pub sound_at : (items : List Item) (before : List Name) (n : ℕ) (f : Function) → items_faults before items ≡ [] → slice_get (functions_of items) n ≡ Some f
    → IsSoundIn before items f
sound_at [] before n f h q = cc
sound_at (global_item at x e ∷ rest) before n f h q =
    let r = sound_at rest (x ∷ before) n f (both_empty (fault_if at (holds x before)) (items_faults (x ∷ before) rest) h).1 q in
    record { once = r.once; fresh = (apart f.name x before r.fresh).1; found = r.found }
sound_at (function_item g ∷ rest) before zero f h q =
    let k = three_empty (fault_if g.at (holds g.name before)) (function_faults g) (items_faults (g.name ∷ before) rest) h in
    let i = both_empty (fault_if g.at (has_twice g.params)) (stmts_faults [] g.body) k.1 in
    let e : g ≡ f = cc in
    subst (λ (f : Function). IsSoundIn before (function_item g ∷ rest) f) e (record {
      once = unbroken g.at (has_twice g.params) i.0;
      fresh = unbroken g.at (holds g.name before) k.0;
      found = ap (λ (b : Bool). cond b (Some g) (find_function g.name rest)) (own_name g.name);
    })
sound_at (function_item g ∷ rest) before (suc n) f h q =
    let k = three_empty (fault_if g.at (holds g.name before)) (function_faults g) (items_faults (g.name ∷ before) rest) h in
    let r = sound_at rest (g.name ∷ before) n f k.2 q in
    let a = apart f.name g.name before r.fresh in
    record { once = r.once; fresh = a.1; found = ap (λ (b : Bool). cond b (Some g) (find_function f.name rest)) a.0 ∙ r.found }

-- a name of the preamble is no function's
no_host : (x : Name) → holds x preamble_names ≡ false → host_named x ≡ None
no_host x h =
    let a = apart x (codes "$fs") (codes "$write" ∷ codes "$pick" ∷ codes "$end" ∷ []) h in
    let b = apart x (codes "$write") (codes "$pick" ∷ codes "$end" ∷ []) a.1 in
    let c = apart x (codes "$pick") (codes "$end" ∷ []) b.1 in
    let d = apart x (codes "$end") [] c.1 in
    ap (λ (t : Bool). cond t (Some write) (cond (bytes_eq x (codes "$pick")) (Some pick) (cond (bytes_eq x (codes "$end")) (Some finish) None))) b.0
    ∙ ap (λ (t : Bool). cond t (Some pick) (cond (bytes_eq x (codes "$end")) (Some finish) None)) c.0
    ∙ ap (λ (t : Bool). cond t (Some finish) None) d.0

-- the rules say of each function of a script that breaks none
pub record IsSound (script : ScriptTree) (f : Function) : Type 0 where
  pub once : has_twice f.params ≡ false
  pub found : find_function f.name script.items ≡ Some f
  pub no_host_has_it : host_named f.name ≡ None

pub sound_function : (script : ScriptTree) (n : ℕ) (f : Function) → static_fault script ≡ None → slice_get (functions_of script.items) n ≡ Some f → IsSound script f
sound_function script n f h q =
    let r = sound_at script.items preamble_names n f (none_least (items_faults preamble_names script.items) h) q in
    record { once = r.once; found = r.found; no_host_has_it = no_host f.name r.fresh }

-- where no function has a name, none is found
pub none_found : (x : Name) (items : List Item) → list_any (λ f. bytes_eq f.name x) (functions_of items) ≡ false → find_function x items ≡ None
none_found x [] h = refl
none_found x (global_item at y e ∷ rest) h = none_found x rest h
none_found x (function_item f ∷ rest) h = by (bytes_eq f.name x) (bytes_eq x f.name) (other_way f.name x) h (none_found x rest)
  where
    by : (a b : Bool) → a ≡ b → (a || list_any (λ f. bytes_eq f.name x) (functions_of rest)) ≡ false
        → (list_any (λ f. bytes_eq f.name x) (functions_of rest) ≡ false → find_function x rest ≡ None) → cond b (Some f) (find_function x rest) ≡ None
    by true b e h next = absurd (true≢false h)
    by false true e h next = absurd (true≢false (sym e))
    by false false e h next = next h

functions-append : (xs : List Item) (x : Item) → functions_of (xs ++ x ∷ []) ≡ functions_of xs ++ functions_of (x ∷ [])
functions-append [] x = refl
functions-append (function_item f ∷ xs) x = ap (λ (fs : List Function). f ∷ fs) (functions-append xs x)
functions-append (global_item at y e ∷ xs) x = functions-append xs x

-- the code of one more item
pub added_body : (script : ScriptTree) (items : List Item) (item : Item) (old new : List Body) → AreMade script (functions_of items) old → AddsBody script item old new
    → AreMade script (functions_of (items ++ item ∷ [])) new
added_body script items (function_item g) old new h k =
    subst (AreMade script (functions_of (items ++ function_item g ∷ []))) (sym k.1)
    (subst (λ (gs : List Function). AreMade script gs (old ++ k.0 ∷ [])) (sym (functions-append items (function_item g))) (made_more script (functions_of items) old g k.0 h k.2))
added_body script items (global_item at x e) old new h k =
    subst (AreMade script (functions_of (items ++ global_item at x e ∷ []))) (sym k)
    (subst (λ (gs : List Function). AreMade script gs old) (sym (functions-append items (global_item at x e) ∙ append-nil (functions_of items))) h)

-- an item that is a function
pub adds_function : (script : ScriptTree) (it : JsItem) (x : Bor JsFunction) (b : Body) (old new : List Body) → it ≡ item.Function x.now → new ≡ old ++ b ∷ [] → IsFunctionBody script b x
    → AddsBody script (item_view it) old new
adds_function script it x b old new e k h = subst (λ (y : JsItem). AddsBody script (item_view y) old new) (sym e) (b, k, (x, h, refl))

-- the code has the names of the functions
same_names : (script : ScriptTree) (x : Name) (gs : List Function) (bs : List Body) → AreMade script gs bs
    → list_any (λ f. bytes_eq f.name x) gs ≡ list_any (has_name x) bs
same_names script x [] [] h = refl
same_names script x [] (b ∷ bs) h = absurd h
same_names script x (g ∷ gs) [] h = absurd h
same_names script x (g ∷ gs) (b ∷ bs) h =
    let head : bytes_eq g.name x ≡ has_name x b =
    sym (ap (has_name_in x) h.0.1.function ∙ ap (λ (f : Function). bytes_eq f.name x) h.0.2) in
    ap (λ (t : Bool). t || list_any (λ f. bytes_eq f.name x) gs) head ∙ ap (λ (t : Bool). has_name x b || t) (same_names script x gs bs h.1)

-- the code of all functions of a script that breaks no rule
pub program : (script : ScriptTree) (bs : List Body) → static_fault script ≡ None → AreMade script (functions_of script.items) bs → IsProgram script bs
program script bs s m = record {
  each = λ n b e.
      let r = made_at script (functions_of script.items) bs n b m e in
      let k = sound_function script n r.0 s r.1 in (
        r.2.0,
        record {
          made = r.2.1;
          once = subst (λ (g : Function). has_twice g.params ≡ false) (sym r.2.2) k.once;
          found = subst (λ (g : Function). find_function g.name script.items ≡ Some g) (sym r.2.2) k.found;
          no_host = subst (λ (g : Function). host_named g.name ≡ None) (sym r.2.2) k.no_host_has_it;
        },
      );
  no_other = λ x e. none_found x script.items (same_names script x (functions_of script.items) bs m ∙ e);
}

-- one more item, and all of them
pub next_item : (items : List JsItem) (i : ℕ) (x : JsItem) → i < length items → x ≡ get_or items i x → map item_view (take i items) ++ item_view x ∷ [] ≡ map item_view (take (i + 1) items)
next_item items i x l e =
    let n : suc i ≡ i + 1 = omega arith in
    ap (λ (y : JsItem). map item_view (take i items) ++ item_view y ∷ []) e
    ∙ sym (map-append item_view (take i items) (get_or items i x ∷ []))
    ∙ ap (map item_view) (sym (take-suc items i x l))
    ∙ ap (λ (k : ℕ). map item_view (take k items)) n

pub all_items : (items : List JsItem) (i : ℕ) → length items ≤ i → map item_view (take i items) ≡ map item_view items
all_items items i l = ap (map item_view) (take_all i items l)

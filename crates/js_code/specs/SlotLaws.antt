-- Variables in slots.
use Rattle.std.proofs.Common.{arith, ◌≡◌, ℕ, zero, suc, ◌∙◌, refl, sym, ap, subst, List, [], ◌∷◌, ◌++◌, Option, Some, None, Bool, true, false, cond, ◌||◌, is_some, map, length, drop, true≢false, bytes_eq, codes, option_map, slice_get}
use Rattle.std.specs.Prelude.{option_and_then}
use Rattle.std.proofs.lemmas.List.Sums.{fold-append}
use Rattle.js_tree.specs.Script.{Name, Item, function_item, global_item}
use Rattle.js_tree.specs.Value.{Value, function, World, Locals, gives, over, Stuck, holds, lookup, with_entry}
use Rattle.js_tree.specs.Evaluate as run
use Rattle.js_tree.specs.Evaluate.{Setting, Scope, host_named, find_function, is_global, global_value, name_value, set_name, set_local, frame, Flow, onward, bound, scope_of, declared_all}
use Rattle.js_tree.specs.Static.{has_twice}
use Rattle.js_code.specs.declared.slots.place.Place.{Place}
use Rattle.js_code.specs.declared.slots.place.Place.TheVariants.{Caught, Local, Host, Function as in_function, Global, Nowhere}
use Rattle.js_code.specs.Names.{is_among, with_name, with_names, distinct, index_in, function_names, global_names}
use Rattle.js_code.specs.Places.{table_of, placed, host_here, top_place}
use Rattle.js_code.specs.Slots.{slots_of, slot_value, host_value, value_at, with_slot, OnlyGlobals, ReadsSlots, set_at, SetsPlace, SetsSlot, BindsSlots}
use Rattle.js_code.specs.NameLaws.{or_is, same_name, own_name, other_way, holds-is_among, is_among-with_names, distinct_once, with_names-once, with_names-more, index-is_among, index_found}

-- the slot of a name holds what is set under it
slot_found : (names : List Name) (entries : List (Name × Value)) (x : Name) (i : ℕ) → index_in names x ≡ Some i → slot_value (slots_of names entries) i ≡ lookup x entries
slot_found names entries x i h = ap (λ (o : Option (Option Value)). option_and_then (λ v. v) o) (through names i x (index_found names x i h))
  where
    through : (names : List Name) (i : ℕ) (x : Name) → slice_get names i ≡ Some x → slice_get (slots_of names entries) i ≡ Some (lookup x entries)
    through [] i x h = cc
    through (y ∷ ys) zero x h = ap (option_map (λ (z : Name). lookup z entries)) h
    through (y ∷ ys) (suc i) x h = through ys i x h

-- what is not among the names of a list has no slot in it
no_slot : (names : List Name) (x : Name) → is_among names x ≡ false → index_in names x ≡ None
no_slot names x h = by (index_in names x) (index-is_among names x)
  where
    by : (o : Option ℕ) → is_some o ≡ is_among names x → o ≡ None
    by None e = refl
    by (Some i) e = absurd (true≢false (e ∙ h))

some_slot : (names : List Name) (x : Name) → is_among names x ≡ true → (i : ℕ) × (index_in names x ≡ Some i)
some_slot names x h = by (index_in names x) (index-is_among names x)
  where
    by : (o : Option ℕ) → is_some o ≡ is_among names x → (i : ℕ) × (o ≡ Some i)
    by None e = absurd (true≢false (sym h ∙ sym e))
    by (Some i) e = (i, refl)

is_function : (x : Name) (items : List Item) → is_some (find_function x items) ≡ is_among (function_names items) x
is_function x [] = refl
is_function x (global_item at y e ∷ rest) = is_function x rest
is_function x (function_item f ∷ rest) = by (bytes_eq x f.name) (is_function x rest)
  where
    by : (b : Bool) → is_some (find_function x rest) ≡ is_among (function_names rest) x
        → is_some (cond b (Some f) (find_function x rest)) ≡ (b || is_among (function_names rest) x)
    by true h = refl
    by false h = h

is_variable : (x : Name) (items : List Item) → is_global x items ≡ is_among (global_names items) x
is_variable x [] = refl
is_variable x (function_item f ∷ rest) = is_variable x rest
is_variable x (global_item at y e ∷ rest) = ap (λ (b : Bool). cond (bytes_eq x y) true b) (is_variable x rest) ∙ or_is (bytes_eq x y) (is_among (global_names rest) x)

in_distinct : (xs : List Name) (x : Name) → is_among (distinct xs) x ≡ is_among xs x
in_distinct xs x = is_among-with_names [] xs x

-- a function of the host has the name by which it was found
host_known : (x : Name) (h : run.Host) → host_named x ≡ Some h → function x ≡ host_value (host_here h)
host_known x h found = by (bytes_eq x (codes "$write")) (bytes_eq x (codes "$pick")) (bytes_eq x (codes "$end")) refl refl refl found
  where
    by : (a b c : Bool) → bytes_eq x (codes "$write") ≡ a → bytes_eq x (codes "$pick") ≡ b → bytes_eq x (codes "$end") ≡ c
        → cond a (Some run.write) (cond b (Some run.pick) (cond c (Some run.finish) None)) ≡ Some h → function x ≡ host_value (host_here h)
    by true b c p q r e = let w : run.write ≡ h = cc in subst (λ (h : run.Host). function x ≡ host_value (host_here h)) w (ap function (same_name x (codes "$write") p))
    by false true c p q r e = let w : run.pick ≡ h = cc in subst (λ (h : run.Host). function x ≡ host_value (host_here h)) w (ap function (same_name x (codes "$pick") q))
    by false false true p q r e = let w : run.finish ≡ h = cc in subst (λ (h : run.Host). function x ≡ host_value (host_here h)) w (ap function (same_name x (codes "$end") r))
    by false false false p q r e = cc

-- the value in a place, with variables in slots
abbrev seen : Setting → Scope → Locals → World → Place → Option Value
seen st sc locals w p =
    value_at (table_of st.script sc.names) sc.caught (slots_of (distinct sc.names) locals) (slots_of (distinct (global_names st.script.items)) w.globals) p

reads_global : (st : Setting) (sc : Scope) (locals : Locals) (x : Name) (w : World) → OnlyGlobals st.script w.globals
    → (o : Option ℕ) → index_in (distinct (global_names st.script.items)) x ≡ o → lookup x w.globals ≡ seen st sc locals w (placed o Global Nowhere)
reads_global st sc locals x w only (Some i) e = sym (slot_found (distinct (global_names st.script.items)) w.globals x i e)
reads_global st sc locals x w only None e =
    only x (sym (in_distinct (global_names st.script.items) x) ∙ sym (index-is_among (distinct (global_names st.script.items)) x) ∙ ap is_some e)

reads_function : (st : Setting) (sc : Scope) (locals : Locals) (x : Name) (w : World) → OnlyGlobals st.script w.globals
    → (f g : Option ℕ) → index_in (distinct (function_names st.script.items)) x ≡ f → index_in (distinct (global_names st.script.items)) x ≡ g
    → cond (is_some f) (Some (function x)) (lookup x w.globals) ≡ seen st sc locals w (placed f in_function (placed g Global Nowhere))
reads_function st sc locals x w only (Some i) g q r = ap (option_map function) (sym (index_found (distinct (function_names st.script.items)) x i q))
reads_function st sc locals x w only None g q r = reads_global st sc locals x w only g r

reads_top : (st : Setting) (sc : Scope) (locals : Locals) (x : Name) (w : World) → OnlyGlobals st.script w.globals
    → (h : Option run.Host) (f g : Option ℕ) → host_named x ≡ h → index_in (distinct (function_names st.script.items)) x ≡ f
    → index_in (distinct (global_names st.script.items)) x ≡ g
    → cond (is_some h || is_some (find_function x st.script.items)) (Some (function x)) (lookup x w.globals)
    ≡ seen st sc locals w (placed h (λ h. Host (host_here h)) (placed f in_function (placed g Global Nowhere)))
reads_top st sc locals x w only (Some h) f g p q r = ap Some (host_known x h p)
reads_top st sc locals x w only None f g p q r =
    let known : is_some (find_function x st.script.items) ≡ is_some f =
    is_function x st.script.items ∙ sym (in_distinct (function_names st.script.items) x) ∙ sym (index-is_among (distinct (function_names st.script.items)) x) ∙ ap is_some q in
    ap (λ (b : Bool). cond b (Some (function x)) (lookup x w.globals)) known ∙ reads_function st sc locals x w only f g q r

is_local : (sc : Scope) (x : Name) (l : Option ℕ) → index_in (distinct sc.names) x ≡ l → holds x sc.names ≡ is_some l
is_local sc x l q = holds-is_among x sc.names ∙ sym (in_distinct sc.names x) ∙ sym (index-is_among (distinct sc.names) x) ∙ ap is_some q

reads_local : (st : Setting) (sc : Scope) (locals : Locals) (x : Name) (w : World) → OnlyGlobals st.script w.globals
    → (l : Option ℕ) → index_in (distinct sc.names) x ≡ l
    → cond (is_some l) (lookup x locals) (global_value st x w) ≡ seen st sc locals w (placed l Local (top_place (table_of st.script sc.names) x))
reads_local st sc locals x w only (Some i) q = sym (slot_found (distinct sc.names) locals x i q)
reads_local st sc locals x w only None q =
    reads_top st sc locals x w only (host_named x) (index_in (distinct (function_names st.script.items)) x) (index_in (distinct (global_names st.script.items)) x) refl refl refl

pub reads_slots : ReadsSlots
reads_slots st sc locals x w only = by (bytes_eq x (codes "$catch"))
  where
    by : (c : Bool) → cond c sc.caught (cond (holds x sc.names) (lookup x locals) (global_value st x w))
        ≡ seen st sc locals w (cond c Caught (placed (index_in (distinct sc.names) x) Local (top_place (table_of st.script sc.names) x)))
    by true = refl
    by false =
        ap (λ (b : Bool). cond b (lookup x locals) (global_value st x w)) (is_local sc x (index_in (distinct sc.names) x) refl)
        ∙ reads_local st sc locals x w only (index_in (distinct sc.names) x) refl

pub sets_place : SetsPlace
sets_place st sc at x v f = by (index_in (distinct sc.names) x) (index_in (distinct (global_names st.script.items)) x) refl refl
  where
    is_set : (g : Option ℕ) → index_in (distinct (global_names st.script.items)) x ≡ g → is_global x st.script.items ≡ is_some g
    is_set g q = is_variable x st.script.items ∙ sym (in_distinct (global_names st.script.items) x) ∙ sym (index-is_among (distinct (global_names st.script.items)) x) ∙ ap is_some q

    cases : (l g : Option ℕ)
        → cond (is_some l) (set_local x v f) (cond (is_some g) (gives onward (frame f.locals (record f.world { globals = with_entry x v f.world.globals }))) (over (Stuck at) f.world))
        ≡ set_at at (placed l Local (placed g Global Nowhere)) x v f
    cases (Some i) g = refl
    cases None (Some j) = refl
    cases None None = refl

    by : (l g : Option ℕ) → index_in (distinct sc.names) x ≡ l → index_in (distinct (global_names st.script.items)) x ≡ g
        → set_name st sc at x v f ≡ set_at at (placed l Local (placed g Global Nowhere)) x v f
    by l g p q =
        ap (λ (b : Bool). cond b (set_local x v f) (cond (is_global x st.script.items) (gives onward (frame f.locals (record f.world { globals = with_entry x v f.world.globals }))) (over (Stuck at) f.world))) (is_local sc x l p)
        ∙ ap (λ (b : Bool). cond (is_some l) (set_local x v f) (cond b (gives onward (frame f.locals (record f.world { globals = with_entry x v f.world.globals }))) (over (Stuck at) f.world))) (is_set g q)
        ∙ cases l g

-- what is set under a name is found under it, and nothing else has changed
lookup-with_entry : (x y : Name) (v : Value) (entries : List (Name × Value)) → lookup y (with_entry x v entries) ≡ cond (bytes_eq y x) (Some v) (lookup y entries)
lookup-with_entry x y v [] = refl
lookup-with_entry x y v (e ∷ es) = by (bytes_eq x e.0) (bytes_eq y x) (bytes_eq y e.0) refl refl refl (lookup-with_entry x y v es)
  where
    by : (a b c : Bool) → bytes_eq x e.0 ≡ a → bytes_eq y x ≡ b → bytes_eq y e.0 ≡ c → lookup y (with_entry x v es) ≡ cond (bytes_eq y x) (Some v) (lookup y es)
        → lookup y (cond a ((x, v) ∷ es) (e ∷ with_entry x v es)) ≡ cond b (Some v) (cond c (Some e.1) (lookup y es))
    by true true c p q r h = ap (λ (b : Bool). cond b (Some v) (lookup y es)) q
    by true false true p q r h = absurd (true≢false (sym r ∙ ap (λ (z : Name). bytes_eq y z) (sym (same_name x e.0 p)) ∙ q))
    by true false false p q r h = ap (λ (b : Bool). cond b (Some v) (lookup y es)) q
    by false true true p q r h =
        absurd (true≢false (sym q ∙ ap (λ (z : Name). bytes_eq z x) (same_name y e.0 r) ∙ other_way e.0 x ∙ p))
    by false true false p q r h = ap (λ (b : Bool). cond b (Some e.1) (lookup y (with_entry x v es))) r ∙ h ∙ ap (λ (b : Bool). cond b (Some v) (lookup y es)) q
    by false false true p q r h = ap (λ (b : Bool). cond b (Some e.1) (lookup y (with_entry x v es))) r
    by false false false p q r h = ap (λ (b : Bool). cond b (Some e.1) (lookup y (with_entry x v es))) r ∙ h ∙ ap (λ (b : Bool). cond b (Some v) (lookup y es)) q

-- names that are others than the one that is set
slots_apart : (names : List Name) (x : Name) (v : Value) (entries : List (Name × Value)) → holds x names ≡ false
    → slots_of names (with_entry x v entries) ≡ slots_of names entries
slots_apart [] x v entries h = refl
slots_apart (y ∷ ys) x v entries h = by (bytes_eq x y) refl (slots_apart ys x v entries)
  where
    by : (b : Bool) → bytes_eq x y ≡ b → (holds x ys ≡ false → slots_of ys (with_entry x v entries) ≡ slots_of ys entries) → slots_of (y ∷ ys) (with_entry x v entries) ≡ slots_of (y ∷ ys) entries
    by true p next = absurd (true≢false (sym (ap (λ (b : Bool). cond b true (holds x ys)) p) ∙ h))
    by false p next =
        let rest : holds x ys ≡ false = sym (ap (λ (b : Bool). cond b true (holds x ys)) p) ∙ h in
        let head : lookup y (with_entry x v entries) ≡ lookup y entries =
        lookup-with_entry x y v entries ∙ ap (λ (b : Bool). cond b (Some v) (lookup y entries)) (other_way y x ∙ p) in
        ap (λ (o : Option Value). o ∷ slots_of ys (with_entry x v entries)) head ∙ ap (λ (os : List (Option Value)). lookup y entries ∷ os) (next rest)

once_head : (y : Name) (ys : List Name) → has_twice (y ∷ ys) ≡ false → holds y ys ≡ false
once_head y ys h = by (holds y ys) refl
  where
    by : (b : Bool) → holds y ys ≡ b → holds y ys ≡ false
    by true p = absurd (true≢false (sym (ap (λ (b : Bool). cond b true (has_twice ys)) p) ∙ h))
    by false p = p

once_rest : (y : Name) (ys : List Name) → has_twice (y ∷ ys) ≡ false → has_twice ys ≡ false
once_rest y ys h = sym (ap (λ (b : Bool). cond b true (has_twice ys)) (once_head y ys h)) ∙ h

pub sets_slot : SetsSlot
sets_slot [] x v entries h = refl
sets_slot (y ∷ ys) x v entries h = by (bytes_eq x y) (index_in ys x) refl (sets_slot ys x v entries (once_rest y ys h))
  where
    by : (b : Bool) (o : Option ℕ) → bytes_eq x y ≡ b → slots_of ys (with_entry x v entries) ≡ with_slot o v (slots_of ys entries)
        → slots_of (y ∷ ys) (with_entry x v entries) ≡ with_slot (cond b (Some 0) (option_map suc o)) v (slots_of (y ∷ ys) entries)
    by true o p i =
        let head : lookup y (with_entry x v entries) ≡ Some v =
        lookup-with_entry x y v entries ∙ ap (λ (b : Bool). cond b (Some v) (lookup y entries)) (other_way y x ∙ p) in
        let rest : slots_of ys (with_entry x v entries) ≡ slots_of ys entries =
        slots_apart ys x v entries (subst (λ (z : Name). holds z ys ≡ false) (sym (same_name x y p)) (once_head y ys h)) in
        ap (λ (o : Option Value). o ∷ slots_of ys (with_entry x v entries)) head ∙ ap (λ (os : List (Option Value)). Some v ∷ os) rest
    by false o p i =
        let head : lookup y (with_entry x v entries) ≡ lookup y entries =
        lookup-with_entry x y v entries ∙ ap (λ (b : Bool). cond b (Some v) (lookup y entries)) (other_way y x ∙ p) in
        ap (λ (o : Option Value). o ∷ slots_of ys (with_entry x v entries)) head
        ∙ ap (λ (os : List (Option Value)). lookup y entries ∷ os) i ∙ pushed o
      where
        pushed : (o : Option ℕ) → lookup y entries ∷ with_slot o v (slots_of ys entries) ≡ with_slot (option_map suc o) v (lookup y entries ∷ slots_of ys entries)
        pushed None = refl
        pushed (Some i) = refl

-- slots of names that are not the first one of the entries
slots_past : (names : List Name) (x : Name) (v : Value) (entries : List (Name × Value)) → holds x names ≡ false
    → slots_of names ((x, v) ∷ entries) ≡ slots_of names entries
slots_past [] x v entries h = refl
slots_past (y ∷ ys) x v entries h = by (bytes_eq x y) refl (slots_past ys x v entries)
  where
    by : (b : Bool) → bytes_eq x y ≡ b → (holds x ys ≡ false → slots_of ys ((x, v) ∷ entries) ≡ slots_of ys entries) → slots_of (y ∷ ys) ((x, v) ∷ entries) ≡ slots_of (y ∷ ys) entries
    by true p next = absurd (true≢false (sym (ap (λ (b : Bool). cond b true (holds x ys)) p) ∙ h))
    by false p next =
        let rest : holds x ys ≡ false = sym (ap (λ (b : Bool). cond b true (holds x ys)) p) ∙ h in
        ap (λ (b : Bool). cond b (Some v) (lookup y entries) ∷ slots_of ys ((x, v) ∷ entries)) (other_way y x ∙ p)
        ∙ ap (λ (os : List (Option Value)). lookup y entries ∷ os) (next rest)

-- arguments fill the slots of the parameters, and leave those of the names after them
bound_slots : (ps rest : List Name) (vs : List Value) → has_twice (ps ++ rest) ≡ false → length vs ≡ length ps
    → slots_of (ps ++ rest) (bound ps vs) ≡ map Some vs ++ map (λ _. None) (drop (length vs) (ps ++ rest))
bound_slots [] rest [] h n = empty rest
  where
    empty : (names : List Name) → slots_of names [] ≡ map (λ _. None) names
    empty [] = refl
    empty (y ∷ ys) = ap (λ (os : List (Option Value)). None ∷ os) (empty ys)
bound_slots [] rest (v ∷ vs) h n = absurd (omega arith)
bound_slots (p ∷ ps) rest [] h n = absurd (omega arith)
bound_slots (p ∷ ps) rest (v ∷ vs) h n =
    ap (λ (b : Bool). cond b (Some v) (lookup p (bound ps vs)) ∷ slots_of (ps ++ rest) ((p, v) ∷ bound ps vs)) (own_name p)
    ∙ ap (λ (os : List (Option Value)). Some v ∷ os) (slots_past (ps ++ rest) p v (bound ps vs) (once_head p (ps ++ rest) h) ∙ bound_slots ps rest vs (once_rest p (ps ++ rest) h) (omega arith))

pub binds_slots : BindsSlots
binds_slots script f vs once n =
    let names : List Name = f.params ++ declared_all f.body in
    let parts = with_names-more f.params (declared_all f.body) in
    let params : distinct f.params ≡ f.params = with_names-once [] f.params once in
    let all : distinct names ≡ f.params ++ parts.0 =
    fold-append with_name [] f.params (declared_all f.body) ∙ ap (λ (xs : List Name). with_names xs (declared_all f.body)) params ∙ parts.1 in
    let once_all : has_twice (f.params ++ parts.0) ≡ false = subst (λ (xs : List Name). has_twice xs ≡ false) all (distinct_once names) in
    subst (λ (xs : List Name). slots_of xs (bound f.params vs) ≡ map Some vs ++ map (λ _. None) (drop (length vs) xs)) (sym all) (bound_slots f.params parts.0 vs once_all n)

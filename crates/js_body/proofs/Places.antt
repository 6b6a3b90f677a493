-- Values by their places on the stack.
use Rattle.std.proofs.Common.{◌≡◌, ℕ, zero, suc, Bor, List, [], ◌∷◌, ◌++◌, length, reverse, take, set, get_or, Bool, Some, None, refl, sym, ap, ◌∙◌, subst}
use Rattle.std.proofs.lemmas.List.{reverse-reverse}
use Rattle.std.proofs.lemmas.Grind.{reverse_onto}
use Rattle.std.proofs.lemmas.Option.{slice_get_read, slice_get_past}
use Rattle.std.specs.Slice.{IsItemAt}
use Rattle.std.specs.List.{slice_get}
use Rattle.js_pool.specs.Stands.{Stands, Opened}
use Rattle.js_pool.specs.declared.node.ExprId.{ExprId}
use Rattle.js_pool.specs.declared.pool.Pool.{Pool}
use Rattle.js_body.specs.declared.body.Operand.{Operand}
use Rattle.js_body.specs.State.{State, Around, Value, no_value, value_at, dropped_to, with_value}
use Rattle.js_body.specs.Tells.{PartsTell, ValueIs, ValuesAre, no_values, more_values}

values_push : {p : Pool} {os : List Operand} {vs : List Value} {o : Operand} {v : Value} → ValuesAre p os vs → ValueIs p o v → ValuesAre p (os ++ o ∷ []) (vs ++ v ∷ [])
values_push no_values h = more_values h no_values
values_push (more_values a t) h = more_values a (values_push t h)

values_reverse : {p : Pool} {os : List Operand} {vs : List Value} → ValuesAre p os vs → ValuesAre p (reverse os) (reverse vs)
values_reverse no_values = no_values
values_reverse {p} (more_values {o = o} {os = os} {v = v} {vs = vs} h t) =
    subst (λ (zs : List Operand). ValuesAre p zs (reverse (v ∷ vs))) (sym (reverse_onto os o []))
    (subst (λ (ws : List Value). ValuesAre p (reverse os ++ o ∷ []) ws) (sym (reverse_onto vs v [])) (values_push (values_reverse t) h))

values_take : {p : Pool} {os : List Operand} {vs : List Value} (n : ℕ) → ValuesAre p os vs → ValuesAre p (take n os) (take n vs)
values_take zero t = no_values
values_take (suc n) no_values = no_values
values_take (suc n) (more_values h t) = more_values h (values_take n t)

values_set : {p : Pool} {os : List Operand} {vs : List Value} (n : ℕ) (o : Operand) (v : Value) → ValueIs p o v → ValuesAre p os vs → ValuesAre p (set os n o) (set vs n v)
values_set n o v k no_values = no_values
values_set zero o v k (more_values h t) = more_values k t
values_set (suc n) o v k (more_values h t) = more_values h (values_set n o v k t)

-- what `get` gives
pub item_at : {X : Type 0} (ys xs : List X) (i : ℕ) (x : Bor X) → ys ≡ xs → IsItemAt ys i (Some x) → slice_get xs i ≡ Some x.now
item_at {X} ys xs i x e h = ap (λ (zs : List X). slice_get zs i) (sym e) ∙ slice_get_read ys (length ys) i x.now refl h.3.0 h.1

pub none_at : {X : Type 0} (ys xs : List X) (i : ℕ) → ys ≡ xs → IsItemAt ys i None → slice_get xs i ≡ None
none_at {X} ys xs i e h = ap (λ (zs : List X). slice_get zs i) (sym e) ∙ slice_get_past ys i h.3

some_is : {A : Type 0} {x y : A} → Some x ≡ Some y → x ≡ y
some_is e = cc

none_some : {A : Type 0} {x : A} → None ≡ Some x → ⊥
none_some e = absurd (cc)

some_none : {A : Type 0} {x : A} → Some x ≡ None → ⊥
some_none e = absurd (cc)

values_get : {p : Pool} {os : List Operand} {vs : List Value} (n : ℕ) (x : Operand) → ValuesAre p os vs → slice_get os n ≡ Some x → ValueIs p x (get_or vs n no_value)
values_get n x no_values e = absurd (none_some e)
values_get {p} zero x (more_values {v = v} h t) e = subst (λ (z : Operand). ValueIs p z v) (some_is e) h
values_get (suc n) x (more_values h t) e = values_get n x t e

values_past : {p : Pool} {os : List Operand} {vs : List Value} (n : ℕ) → ValuesAre p os vs → slice_get os n ≡ None → get_or vs n no_value ≡ no_value
values_past n no_values e = refl
values_past zero (more_values h t) e = absurd (some_none e)
values_past (suc n) (more_values h t) e = values_past n t e

module _ (p : Pool) (o : Opened) (os : List Operand) (temps : ℕ) (ds : List Bool) (near : Around) (s : State) where
  in_order : PartsTell p o os temps ds near s → ValuesAre p os (reverse s.stack)
  in_order t = subst (λ (zs : List Operand). ValuesAre p zs (reverse s.stack)) (reverse-reverse os) (values_reverse t.stack)

  pub parts_value_at : (place : ℕ) (x : Operand) → slice_get os place ≡ Some x → PartsTell p o os temps ds near s → ValueIs p x (value_at place s)
  parts_value_at place x e t = values_get place x (in_order t) e

  pub parts_past : (place : ℕ) (x : Operand) → slice_get os place ≡ None → x.e ≡ record { 0 = 0 } → x.known ≡ no_value.known → PartsTell p o os temps ds near s → ValueIs p x (value_at place s)
  parts_past place x e i k t = subst (λ (v : Value). ValueIs p x v) (sym (values_past place (in_order t) e)) (record { stands = subst (λ (a : ExprId). Stands p a no_value.tree) (sym i) t.first; known = k })

  pub parts_dropped_to : (place : ℕ) (xs : List Operand) → xs ≡ take place os → PartsTell p o os temps ds near s → PartsTell p o xs temps ds near (dropped_to place s)
  parts_dropped_to place xs e t = record {
    first = t.first;
    lines = t.lines;
    items = t.items;
    arms = t.arms;
    stack = subst (λ (zs : List Operand). ValuesAre p (reverse zs) (dropped_to place s).stack) (sym e) (values_reverse (values_take place (in_order t)));
    temps_are = t.temps_are;
    declared_are = t.declared_are;
    around_is = t.around_is;
  }

  pub parts_with_value : (place : ℕ) (xs : List Operand) (x : Operand) (v : Value) → xs ≡ set os place x → ValueIs p x v → PartsTell p o os temps ds near s → PartsTell p o xs temps ds near (with_value place v s)
  parts_with_value place xs x v e h t = record {
    first = t.first;
    lines = t.lines;
    items = t.items;
    arms = t.arms;
    stack = subst (λ (zs : List Operand). ValuesAre p (reverse zs) (with_value place v s).stack) (sym e) (values_reverse (values_set place x v h (in_order t)));
    temps_are = t.temps_are;
    declared_are = t.declared_are;
    around_is = t.around_is;
  }

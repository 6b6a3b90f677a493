-- Numbers, truths and arrays that are found without values on the way.
use Rattle.std.proofs.Common.{◌≡◌, refl, ap, subst, ◌∙◌, ℕ, List, Option, Some, None, slice_get, option_map}
use Rattle.std.specs.Prelude.{IfSome}
use Rattle.js_tree.specs.declared.tree.BinaryOp.{BinaryOp}
use Rattle.js_tree.specs.Operation.{binary_value, element}
use Rattle.js_tree.specs.Script as form
use Rattle.js_tree.specs.Script.{Name}
use Rattle.js_tree.specs.Value as run
use Rattle.js_tree.specs.Value.{World, Outcome, gives, given, and_then}
use Rattle.js_tree.specs.Evaluate.{eval}
use Rattle.js_code.specs.declared.slots.place.Place.{Place}
use Rattle.js_code.specs.Places.{table_of}
use Rattle.js_code.specs.Slots.{value_at}
use Rattle.js_code.specs.Held.{part_of}
use Rattle.js_code.specs.Parts.{name, as_expr, tree_of, trees_of}
use Rattle.js_code.specs.Parts
use Rattle.js_code.specs.declared.code.part.Part.{Part}
use Rattle.js_value.specs.HeapSeen.{value_of, objects_of}
use Rattle.js_value.specs.declared.heap.heap.Object.{Object}
use Rattle.js_simple.specs.declared.state.Context.{Context}
use Rattle.js_simple.specs.Seen.{Point, Stands, slots_in, world_with}
use Rattle.js_simple.specs.PartDoes.{eval_at, eval_part, expr_in, value_does}
use Rattle.js_simple.proofs.Names.{name_at}

pub if_some : {A : Type 0} (r : Option A) (P : A → Type 0) → ((a : A) → r ≡ Some a → P a) → IfSome r P
if_some (Some a) P h = h a refl
if_some None P h = tt

pub some_of : {A : Type 0} (r : Option A) (P : A → Type 0) (a : A) → IfSome r P → r ≡ Some a → P a
some_of {A} r P a h e = subst (λ (o : Option A). IfSome o P) e h

-- a variable whose slot holds a value
pub slot_gives : (c : Context) (p : Point) (os : List Object) (q : Part) (i at : ℕ) (x : Name) (place : Place) (v : run.Value) → Stands c p → slice_get c.code.now i ≡ Some (part_of q) → part_of q ≡ name at x place
    → value_at (table_of p.setting.script p.scope.names) (option_map value_of c.caught) (slots_in c.locals.now) (slots_in c.globals.now) place ≡ Some v
    → eval_part c q p (world_with os p.world) ≡ gives v (world_with os p.world)
slot_gives c p os q i at x place v s held e h =
    ap (λ (part : Parts.Part). eval p.setting p.scope p.locals (as_expr (Some (tree_of (trees_of c.code.now) part))) (world_with os p.world)) e
    ∙ name_at c p os i at x place s (held ∙ ap Some e)
    ∙ ap (λ (o : Option run.Value). given at o (world_with os p.world)) h

-- an operator between two values that are known
pub operator_gives : (c : Context) (p : Point) (os : List Object) (at : ℕ) (op : BinaryOp) (left right : ℕ) (u v x : run.Value)
    → eval_at c left p (world_with os p.world) ≡ gives u (world_with os p.world) → eval_at c right p (world_with os p.world) ≡ gives v (world_with os p.world) → binary_value (objects_of os) op u v ≡ Some x
    → value_does (form.binary at op (expr_in c left) (expr_in c right)) p (world_with os p.world) ≡ gives x (world_with os p.world)
operator_gives c p os at op left right u v x l r h =
    ap (λ (o : Outcome World run.Value). and_then o (λ u w. and_then (eval_at c right p w) (λ v w. given at (binary_value w.objects op u v) w))) l
    ∙ ap (λ (o : Outcome World run.Value). and_then o (λ v w. given at (binary_value w.objects op u v) w)) r
    ∙ ap (λ (o : Option run.Value). given at o (world_with os p.world)) h

-- an element
pub index_gives : (c : Context) (p : Point) (os : List Object) (at : ℕ) (e i : ℕ) (u v x : run.Value)
    → eval_at c e p (world_with os p.world) ≡ gives u (world_with os p.world) → eval_at c i p (world_with os p.world) ≡ gives v (world_with os p.world) → element (objects_of os) u v ≡ Some x
    → value_does (form.index at (expr_in c e) (expr_in c i)) p (world_with os p.world) ≡ gives x (world_with os p.world)
index_gives c p os at e i u v x l r h =
    ap (λ (o : Outcome World run.Value). and_then o (λ u w. and_then (eval_at c i p w) (λ v w. given at (element w.objects u v) w))) l
    ∙ ap (λ (o : Outcome World run.Value). and_then o (λ v w. given at (element w.objects u v) w)) r
    ∙ ap (λ (o : Option run.Value). given at o (world_with os p.world)) h

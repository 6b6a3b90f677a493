-- What the parts of expressions do, by their forms.
use Rattle.std.proofs.Common.{◌≡◌, ap, sym, subst, ◌∙◌, ℕ, List, Option, Some, None, true, slice_get, option_map}
use Rattle.std.specs.Prelude.{Result}
use Rattle.std.proofs.Math.Bool.{Bool-set}
use Rattle.std.proofs.Math.Logic.{∥∥₁_elim}
use Rattle.js_tree.specs.Script.{Name, Expr}
use Rattle.js_tree.specs.Value as run
use Rattle.js_tree.specs.Value.{World, Outcome, gives, given, nothing, function}
use Rattle.js_tree.specs.Evaluate.{eval}
use Rattle.js_code.specs.declared.slots.place.Place.{Place}
use Rattle.js_code.specs.declared.slots.place.Place.TheVariants.{Host, Function as in_function}
use Rattle.js_code.specs.declared.slots.place.Host as host
use Rattle.js_code.specs.Places.{table_of}
use Rattle.js_code.specs.Slots.{value_at}
use Rattle.js_code.specs.Held.{part_of}
use Rattle.js_code.specs.Parts.{name, as_expr, expr_at, tree_of, trees_of}
use Rattle.js_code.specs.Parts
use Rattle.js_code.specs.declared.code.part.Part.{Part}
use Rattle.js_value.specs.HeapSeen.{value_of}
use Rattle.js_value.specs.declared.heap.heap.Object.{Object}
use Rattle.js_value.specs.declared.heap.value.Value.{Value}
use Rattle.js_simple.specs.declared.state.Context.{Context}
use Rattle.js_simple.specs.declared.state.Halt.{Halt}
use Rattle.js_simple.specs.Simple.{is_simple, IsSomeCode, IsSimpleAt, IsSimplePart}
use Rattle.js_simple.specs.Seen.{Point, Stands, Gives, slots_in, world_with}
use Rattle.js_simple.specs.PartDoes.{eval_at, eval_part}
use Rattle.js_simple.proofs.Parts.{expr_is, simple_part}
use Rattle.js_simple.proofs.Lists.{no_tree, some_code}
use Rattle.js_simple.proofs.Names.{name_at, at_function, at_host}

-- a part of a known form does what the form does
pub part_is : (c : Context) (q q' : Part) (r : Result Value Halt) (p : Point) (new old : World) → q ≡ q'
    → Gives value_of r new (eval_part c q' p old) → Gives value_of r new (eval_part c q p old)
part_is c q q' r p new old h g = subst (λ (q : Part). Gives value_of r new (eval_part c q p old)) (sym h) g

pub part_gives : (c : Context) (q q' : Part) (p : Point) (w : World) → q ≡ q' → eval_part c q p w ≡ eval_part c q' p w
part_gives c q q' p w h = ap (λ (q : Part). eval_part c q p w) h

-- a part by its number
pub part_at : (c : Context) (q : Part) (i : ℕ) (p : Point) (w : World) → Stands c p → slice_get c.code.now i ≡ Some (part_of q) → eval_at c i p w ≡ eval_part c q p w
part_at c q i p w s held = ap (λ (e : Expr). eval p.setting p.scope p.locals e w) (expr_is c.code.now i (part_of q) (some_code c p s) held)

pub part_missing : (c : Context) (i : ℕ) (p : Point) (w : World) → slice_get c.code.now i ≡ None → eval_at c i p w ≡ gives nothing w
part_missing c i p w h = ap (λ (o : Option Parts.Tree). eval p.setting p.scope p.locals (as_expr o) w) (no_tree c.code.now i h)

-- a part of code without a call, by its number
pub is_simple_part : (c : Context) (i : ℕ) (q : Part) → ∥ IsSomeCode c.code.now ∥₁ → slice_get c.code.now i ≡ Some (part_of q) → IsSimpleAt c.code.now i
    → IsSimplePart c.code.now (part_of q)
is_simple_part c i q sound held h = record {
  simple = ∥∥₁_elim sound (Bool-set _ _) (λ s. (simple_part c.code.now i (part_of q) s held h).simple);
  number = i;
  held = held;
}

-- there is no call in a part of a known form
pub form_simple : (ps : List Parts.Part) (q q' : Part) → IsSimplePart ps (part_of q) → q ≡ q' → is_simple (as_expr (Some (tree_of (trees_of ps) (part_of q')))) ≡ true
form_simple ps q q' s h = subst (λ (q : Part). is_simple (as_expr (Some (tree_of (trees_of ps) (part_of q)))) ≡ true) h s.simple

-- a name is what its place holds
pub name_is : (c : Context) (p : Point) (os : List Object) (q : Part) (at : ℕ) (x : Name) (place : Place) → Stands c p → IsSimplePart c.code.now (part_of q)
    → part_of q ≡ name at x place
    → eval_part c q p (world_with os p.world)
    ≡ given at (value_at (table_of p.setting.script p.scope.names) (option_map value_of c.caught) (slots_in c.locals.now) (slots_in c.globals.now) place) (world_with os p.world)
name_is c p os q at x place s simple e =
    ap (λ (part : Parts.Part). eval p.setting p.scope p.locals (as_expr (Some (tree_of (trees_of c.code.now) part))) (world_with os p.world)) e
    ∙ name_at c p os simple.number at x place s (simple.held ∙ ap Some e)

pub name_does : (c : Context) (p : Point) (os : List Object) (q : Part) (at : ℕ) (x : Name) (place : Place) (r : Result Value Halt) → Stands c p → IsSimplePart c.code.now (part_of q)
    → part_of q ≡ name at x place
    → Gives value_of r (world_with os p.world) (given at (value_at (table_of p.setting.script p.scope.names) (option_map value_of c.caught) (slots_in c.locals.now) (slots_in c.globals.now) place) (world_with os p.world))
    → Gives value_of r (world_with os p.world) (eval_part c q p (world_with os p.world))
name_does c p os q at x place r s simple e g =
    subst (λ (o : Outcome World run.Value). Gives value_of r (world_with os p.world) o) (sym (name_is c p os q at x place s simple e)) g

pub function_is : (c : Context) (p : Point) (os : List Object) (q : Part) (at n : ℕ) (x : Name) → Stands c p → IsSimplePart c.code.now (part_of q)
    → part_of q ≡ name at x (in_function n) → eval_part c q p (world_with os p.world) ≡ gives (function x) (world_with os p.world)
function_is c p os q at n x s simple e =
    name_is c p os q at x (in_function n) s simple e
    ∙ ap (λ (o : Option run.Value). given at o (world_with os p.world))
    (at_function (table_of p.setting.script p.scope.names) x n (s.code.placed simple.number (name at x (in_function n)) (simple.held ∙ ap Some e)))

pub host_is : (c : Context) (p : Point) (os : List Object) (q : Part) (at : ℕ) (h : host.Host) (x : Name) → Stands c p → IsSimplePart c.code.now (part_of q)
    → part_of q ≡ name at x (Host h) → eval_part c q p (world_with os p.world) ≡ gives (function x) (world_with os p.world)
host_is c p os q at h x s simple e =
    name_is c p os q at x (Host h) s simple e
    ∙ ap (λ (v : run.Value). gives v (world_with os p.world))
    (at_host (table_of p.setting.script p.scope.names) x h (s.code.placed simple.number (name at x (Host h)) (simple.held ∙ ap Some e)))

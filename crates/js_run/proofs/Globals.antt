-- Top-level variables that are set, and what is printed by items.
use Rattle.std.proofs.Common.{◌≡◌, refl, ap, sym, ◌∙◌, subst, ℕ, suc, ◌+◌, ◌<◌, ◌≤◌, List, [], ◌∷◌, length, drop, get_or, slice_set, Option, Some, None, arith}
use Rattle.std.proofs.Math.Seq.{drop-cons}
use Rattle.std.specs.Borrow.{Bor}
use Rattle.gj_base.specs.Counts.{Begins}
use Rattle.gj_base.specs.Sink.{SinkState}
use Rattle.js_tree.specs.Script.{Name, Expr, Item, function_item, global_item, ScriptTree}
use Rattle.js_tree.specs.Value as run
use Rattle.js_tree.specs.Value.{Value, World, Outcome, gives, throws, over, and_then, given, with_entry}
use Rattle.js_tree.specs.Evaluate.{Setting, setting, Called, eval, name_value, call_value}
use Rattle.js_tree.specs.ScriptRun as whole
use Rattle.js_tree.specs.ScriptRun.{script_run, result_of, set_globals, call_start, top_scope}
use Rattle.js_tree.specs.Ticks.{worlds, world_in}
use Rattle.js_tree.specs.Steady.{steady_eval, steady_call, grows}
use Rattle.js_code.specs.Names.{distinct, global_names}
use Rattle.js_code.specs.Slots.{slots_of}
use Rattle.js_value.specs.HeapSeen.{value_of, objects_of}
use Rattle.js_value.specs.declared.heap.value.Value as held
use Rattle.js_simple.specs.Seen.{slots_in}
use Rattle.js_steps.specs.Bodies.{IsBody, names_in}
use Rattle.js_steps.specs.declared.bodies.body.Body.{Body}
use Rattle.js_steps.specs.declared.frames.state.State.{State}
use Rattle.js_steps.specs.Stands.{Before, Variables, world_of}
use Rattle.js_steps.specs.SetLaws.{SameRest, global_rest}
use Rattle.js_steps.specs.VariableLaws.{slot_set, only_globals}
use Rattle.js_run.specs.declared.whole.prepare.First.{First}
use Rattle.js_run.specs.Firsts.{IsFirst, AreFirsts}
use Rattle.js_run.specs.Points.{Rest, PrintsOn, Reached, items_left, value_then}
use Rattle.js_run.proofs.Halts.{begins_same, begins_then}

-- what an outcome leaves
pub same_world : (c : Called) → world_in worlds c ≡ whole.world_of c
same_world (gives v w) = refl
same_world (throws at v w) = refl
same_world (over e w) = refl

-- one part after the other
after_later : {A B : Type 0} (w : World) (o : Outcome World A) (more : A → World → Outcome World B) → Begins w.printed (world_in worlds o).printed
    → ((a : A) (u : World) → Begins u.printed (world_in worlds (more a u)).printed) → Begins w.printed (world_in worlds (and_then o more)).printed
after_later w (gives a u) more h k = begins_then w.printed u.printed (world_in worlds (more a u)).printed h (k a u)
after_later w (throws at v u) more h k = h
after_later w (over e u) more h k = h

given_later : {A : Type 0} (at : ℕ) (o : Option A) (w : World) → Begins w.printed (world_in worlds (given at o w)).printed
given_later at None w = begins_same w.printed
given_later at (Some a) w = begins_same w.printed

module _ (script : ScriptTree) (budget : ℕ) (choices : List ℕ) where
  abbrev st : Setting
  st = setting script choices budget

  call_later : (at : ℕ) (v : Value) (w : World) → Begins w.printed (world_in worlds (call_value st at v [] w)).printed
  call_later at v w = (grows (steady_call script choices at v []) budget w).printed

  start_later : (w : World) → Begins w.printed (world_in worlds (call_start st w)).printed
  start_later w =
      after_later w (given script.start_at (name_value st top_scope [] script.start w) w) (λ v u. call_value st script.start_at v [] u) (given_later script.start_at (name_value st top_scope [] script.start w) w)
      (λ v u. call_later script.start_at v u)

  globals_later : (items : List Item) (w : World) → Begins w.printed (world_in worlds (set_globals st items w)).printed
  globals_later [] w = begins_same w.printed
  globals_later (function_item f ∷ rest) w = globals_later rest w
  globals_later (global_item at x e ∷ rest) w =
      after_later w (eval st top_scope [] e w) (λ v u. set_globals st rest (record u { globals = with_entry x v u.globals })) (grows (steady_eval script choices top_scope [] e) budget w).printed
      (λ v u. globals_later rest (record u { globals = with_entry x v u.globals }))

  items_later : (items : List Item) (w : World) → Begins w.printed (world_in worlds (items_left items st w)).printed
  items_later items w = after_later w (set_globals st items w) (λ _ u. call_start st u) (globals_later items w) (λ _ u. start_later u)

-- a call takes nothing back of what was printed, and neither do items with the value of one before them
pub call_prints : (script : ScriptTree) (budget : ℕ) (at : ℕ) (v : Value) → PrintsOn script budget (λ st w. call_value st at v [] w)
call_prints script budget at v choices w =
    subst (λ (u : World). Begins w.printed u.printed) (same_world (call_value (setting script choices budget) at v [] w)) (call_later script budget choices at v w)

-- the value of a variable, and then the items after it
abbrev pub set_then : Name → List Item → Value → Rest
set_then x rest v st w = items_left rest st (record w { globals = with_entry x v w.globals })

pub set_prints : (script : ScriptTree) (budget : ℕ) (x : Name) (rest : List Item) (v : Value) → PrintsOn script budget (set_then x rest v)
set_prints script budget x rest v choices w =
    let u = record w { globals = with_entry x v w.globals } in
    subst (λ (y : World). Begins w.printed y.printed) (same_world (items_left rest (setting script choices budget) u)) (items_later script budget choices rest u)

-- a point of a run, with what is left said otherwise
pub reached_as : (script : ScriptTree) (budget : ℕ) (t t1 : List ℕ) (k k1 : SinkState) (s : State) (left other : Rest)
    → ((choices : List ℕ) (w : World) → other (setting script choices budget) w ≡ left (setting script choices budget) w) → Reached script budget t t1 k k1 s left
    → Reached script budget t t1 k k1 s other
reached_as script budget t t1 k k1 s left other same r = record {
  numbers = r.numbers;
  took = r.took;
  at = λ choices a.
      let p = r.at choices a in
      record { before = p.before; variables = p.variables; moves = p.moves; stands = p.stands; is = ap (result_of budget) (same choices (world_of p.before p.variables s)) ∙ p.is };
}

-- one part after two others
then_then : {A B : Type 0} (o : Outcome World A) (f : A → World → Outcome World B) (g : B → World → Called) → and_then o (λ a w. and_then (f a w) g) ≡ and_then (and_then o f) g
then_then (gives a w) f g = refl
then_then (throws at v w) f g = refl
then_then (over e w) f g = refl

-- a variable and the items after it
pub first_item : (script : ScriptTree) (budget : ℕ) (t t1 : List ℕ) (k k1 : SinkState) (s : State) (at : ℕ) (x : Name) (e : Expr) (rest : List Item) → Reached script budget t t1 k k1 s (items_left (global_item at x e ∷ rest))
    → Reached script budget t t1 k k1 s (value_then e (set_then x rest))
first_item script budget t t1 k k1 s at x e rest =
    reached_as script budget t t1 k k1 s (items_left (global_item at x e ∷ rest)) (value_then e (set_then x rest))
    (λ choices w.
    let st = setting script choices budget in
    then_then (eval st top_scope [] e w) (λ v u. set_globals st rest (record u { globals = with_entry x v u.globals })) (λ _ u. call_start st u))

-- with a variable set
abbrev with_global : Variables → Name → Value → Variables
with_global vs x v = record vs { globals = with_entry x v vs.globals }

abbrev world_in_all : Before → List (Name × Value) → ℕ → List run.Object → World
world_in_all b gs n os = record { left = n; printed = b.printed; taken = b.taken; objects = os; globals = gs }

pub global_set : (script : ScriptTree) (budget : ℕ) (t t1 : List ℕ) (k k1 : SinkState) (s s1 : State) (f : First) (x : Name) (e : Expr) (rest : List Item) (v : held.Value) → IsFirst script f x e
    → s1.globals.items ≡ slice_set s.globals.items f.slot (Some v) → s1 ≡ record s { globals = s1.globals }
    → Reached script budget t t1 k k1 s (set_then x rest (value_of v)) → Reached script budget t t1 k k1 s1 (items_left rest)
global_set script budget t t1 k k1 s s1 f x e rest v first set same r = record {
  numbers = r.numbers;
  took = r.took;
  at = λ choices a.
      let p = r.at choices a in
      let h : SameRest s s1 = global_rest s s1 same in
      let gs : List (Name × Value) = with_entry x (value_of v) p.variables.globals in
      let locals = ap (λ (y : State). y.locals) same in
      record {
        before = p.before;
        variables = with_global p.variables x (value_of v);
        moves = p.moves;
        stands = record {
          body = subst (λ (y : Bor Body). IsBody script y.now) (sym h.body) p.stands.body;
          locals = ap (λ (y : Bor Body). slots_of (distinct (names_in y.now)) p.variables.locals) h.body ∙ p.stands.locals ∙ ap (λ y. slots_in y.items) (sym locals);
          globals = slot_set (global_names script.items) x f.slot v p.variables.globals s.globals.items first.slot p.stands.globals ∙ ap slots_in (sym set);
          only = only_globals script x f.slot (value_of v) p.variables.globals first.slot p.stands.only;
          callers = p.stands.callers;
          few = subst (λ (n : ℕ). n ≤ budget) (sym h.left) p.stands.few;
        };
        is =
            ap (λ (n : ℕ). result_of budget (items_left rest (setting script choices budget) (world_in_all p.before gs n (objects_of s1.objects.items)))) h.left
            ∙ ap (λ os. result_of budget (items_left rest (setting script choices budget) (world_in_all p.before gs s.left (objects_of os.items)))) h.objects
            ∙ p.is;
      };
}

-- a point before the items whose first values are these
abbrev pub FirstsLeft : ScriptTree → ℕ → (taken taken' : List ℕ) → (sink sink' : SinkState) → State → List First → Type 0
FirstsLeft script budget taken taken' sink sink' s fs =
    (rest : List Item) × AreFirsts script rest fs × Reached script budget taken taken' sink sink' s (items_left rest)

-- the next one of them
pub record NextFirst (script : ScriptTree) (budget : ℕ) (taken taken' : List ℕ) (sink sink' : SinkState) (s : State) (f : First) (fs : List First) : Type 0 where
  pub at : ℕ
  pub name : Name
  pub value : Expr
  pub rest : List Item
  pub is : IsFirst script f name value
  pub more : AreFirsts script rest fs
  pub reached : Reached script budget taken taken' sink sink' s (items_left (global_item at name value ∷ rest))

-- a function is no variable
no_variable : (script : ScriptTree) (budget : ℕ) (t t1 : List ℕ) (k k1 : SinkState) (s : State) (items rest : List Item) → ((st : Setting) (w : World) → set_globals st rest w ≡ set_globals st items w)
    → Reached script budget t t1 k k1 s (items_left items) → Reached script budget t t1 k k1 s (items_left rest)
no_variable script budget t t1 k k1 s items rest same =
    reached_as script budget t t1 k k1 s (items_left items) (items_left rest)
    (λ choices w. let st = setting script choices budget in ap (λ o. and_then o (λ _ u. call_start st u)) (same st w))

pub next_first : (script : ScriptTree) (budget : ℕ) (t t1 : List ℕ) (k k1 : SinkState) (s : State) (f : First) (fs : List First) (rest : List Item) → AreFirsts script rest (f ∷ fs)
    → Reached script budget t t1 k k1 s (items_left rest) → NextFirst script budget t t1 k k1 s f fs
next_first script budget t t1 k k1 s f fs [] a r = absurd a
next_first script budget t t1 k k1 s f fs (function_item g ∷ rest) a r =
    next_first script budget t t1 k k1 s f fs rest a (no_variable script budget t t1 k k1 s (function_item g ∷ rest) rest (λ st w. refl) r)
next_first script budget t t1 k k1 s f fs (global_item at x e ∷ rest) a r = record { at = at; name = x; value = e; rest = rest; is = a.0; more = a.1; reached = r }

-- where no first value is left, no variable is
pub no_first : (script : ScriptTree) (budget : ℕ) (t t1 : List ℕ) (k k1 : SinkState) (s : State) (rest : List Item) → AreFirsts script rest [] → Reached script budget t t1 k k1 s (items_left rest)
    → Reached script budget t t1 k k1 s (items_left [])
no_first script budget t t1 k k1 s [] a r = r
no_first script budget t t1 k k1 s (function_item g ∷ rest) a r =
    no_first script budget t t1 k k1 s rest a (no_variable script budget t t1 k k1 s (function_item g ∷ rest) rest (λ st w. refl) r)
no_first script budget t t1 k k1 s (global_item at x e ∷ rest) a r = absurd a

pub drop_next : (fs : List First) (i : ℕ) (f : First) → i < length fs → f ≡ get_or fs i f → drop i fs ≡ f ∷ drop (i + 1) fs
drop_next fs i f l e =
    let n : suc i ≡ i + 1 = omega arith in
    drop-cons fs i f l ∙ ap (λ (y : First). y ∷ drop (suc i) fs) (sym e) ∙ ap (λ (j : ℕ). f ∷ drop j fs) n

-- Own: the first values of a script's top-level variables as code, and a script as code.
use Rattle.std.specs.Prelude.{◌≡◌, ◌++◌, ℕ, List, [], ◌∷◌, Some, None, length, replicate}
use Rattle.std.specs.Borrow.{Bor}
use Rattle.js_tree.specs.Script.{Name, Expr, Item, function_item, global_item, ScriptTree}
use Rattle.js_code.specs.Names.{distinct, index_in, global_names}
use Rattle.js_steps.specs.Bodies.{IsProgram, IsValueBody}
use Rattle.js_steps.specs.declared.bodies.body.Body.{Body}
use Rattle.js_steps.specs.declared.frames.state.State.{State}
use Rattle.js_run.specs.declared.whole.prepare.First.{First}
use Rattle.js_run.specs.declared.whole.prepare.Prepared.{Prepared}

-- the code of a variable's first value, with its slot
pub record IsFirst (script : ScriptTree) (f : First) (x : Name) (e : Expr) : Type 0 where
  pub slot : index_in (distinct (global_names script.items)) x ≡ Some f.slot
  pub body : IsValueBody script f.body e

-- those of items, in order
abbrev pub AreFirsts : ScriptTree → List Item → List First → Type 0
AreFirsts script [] [] = Unit {0}
AreFirsts script [] (f ∷ fs) = ⊥
AreFirsts script (function_item g ∷ rest) fs = AreFirsts script rest fs
AreFirsts script (global_item at x e ∷ rest) [] = ⊥
AreFirsts script (global_item at x e ∷ rest) (f ∷ fs) = IsFirst script f x e × AreFirsts script rest fs

-- that of an item is added, where it is a variable
abbrev pub AddsFirst : ScriptTree → Item → List First → List First → Type 0
AddsFirst script (function_item g) old new = new ≡ old
AddsFirst script (global_item at x e) old new = (f : First) × (new ≡ old ++ f ∷ []) × IsFirst script f x e

-- a script as code, with the expression that is called in the end
pub record IsPrepared (script : ScriptTree) (p : Prepared) (e : Expr) : Type 0 where
  pub program : IsProgram script p.functions.items
  pub firsts : AreFirsts script script.items p.firsts.items
  pub globals : p.globals ≡ length (distinct (global_names script.items))
  pub start : IsValueBody script p.start e

-- what a run begins with
pub record IsFirstState (count : ℕ) (body : Bor Body) (budget : ℕ) (s : State) : Type 0 where
  pub left : s.left ≡ budget
  pub objects : s.objects.items ≡ []
  pub globals : s.globals.items ≡ replicate count None
  pub body_is : s.body ≡ body
  pub locals : s.locals.items ≡ []
  pub caught : s.caught ≡ None

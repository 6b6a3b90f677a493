-- The code of functions, one after the other, and of one function.
use Rattle.std.proofs.Common.{◌≡◌, refl, ap, sym, ◌∙◌, subst, ℕ, zero, suc, List, [], ◌∷◌, ◌++◌, Option, Some, None, slice_get}
use Rattle.std.specs.Borrow.{Bor}
use Rattle.js_tree.specs.Script.{Name, Expr, Function, ScriptTree}
use Rattle.js_tree.specs.Evaluate.{scope_of}
use Rattle.js_tree.specs.View.{function_view}
use Rattle.js_tree.specs.declared.tree.JsFunction.{JsFunction}
use Rattle.js_code.specs.Names.{distinct, function_names}
use Rattle.js_code.specs.Places.{Table, table_of}
use Rattle.js_code.specs.Parts.{Part, trees_of, as_expr, as_stmts, last}
use Rattle.js_code.specs.PartClauses.{IsCode}
use Rattle.js_code.specs.ExprParts.{with_expr}
use Rattle.js_code.specs.StmtParts.{with_stmts}
use Rattle.js_code.specs.ExprLaws.{adds_expr}
use Rattle.js_code.specs.StmtLaws.{adds_stmts}
use Rattle.js_code.specs.FunctionCode.{table_with, IsFunctionCode, IsValueCode}
use Rattle.js_code.specs.declared.code.function.FunctionCode as held
use Rattle.js_code.specs.declared.code.function.ValueCode as value
use Rattle.js_simple.specs.Simple.{IsSomeCode}
use Rattle.js_steps.specs.declared.bodies.body.Body.{Body}
use Rattle.js_steps.specs.Bodies.{AreNames, IsBody, IsCodeOf, IsFunctionBody, IsValueBody, names_in, names_of_it}

-- no parts are code
pub no_code : (t : Table) → IsCode t []
no_code t = record { before = λ i p h. cc; placed = λ i p h. cc }

pub none_is_code : IsSomeCode []
none_is_code = (table_with [] [] [], no_code (table_with [] [] []))

-- the code of a function is code
pub function_sound : (functions globals : List Name) (f : Function) (c : held.FunctionCode) → IsFunctionCode functions globals f c
    → IsCode (table_with functions globals (distinct (scope_of f).names)) c.code
function_sound functions globals f c h =
    let t = table_with functions globals (distinct (scope_of f).names) in
    subst (IsCode t) (sym h.code) ((adds_stmts t [] f.body).sound (no_code t))

pub value_sound : (functions globals : List Name) (e : Expr) (c : value.ValueCode) → IsValueCode functions globals e c → IsCode (table_with functions globals []) c.code
value_sound functions globals e c h =
    let t = table_with functions globals [] in
    subst (IsCode t) (sym h.code) ((adds_expr t [] e).sound (no_code t))

-- the table of a script's names
table_is : (script : ScriptTree) (functions globals names : List Name) → AreNames script functions globals → table_with functions globals (distinct names) ≡ table_of script names
table_is script functions globals names n =
    ap (λ (xs : List Name). table_with xs globals (distinct names)) n.functions_are
    ∙ ap (λ (xs : List Name). table_with (distinct (function_names script.items)) xs (distinct names)) n.globals_are

stmts_there : (ps : List Part) (i : ℕ) (t : Table) (f : Function) → ps ≡ with_stmts t [] f.body → i ≡ last ps → as_stmts (slice_get (trees_of ps) i) ≡ f.body
stmts_there ps i t f h k =
    ap (λ (j : ℕ). as_stmts (slice_get (trees_of ps) j)) k
    ∙ ap (λ (qs : List Part). as_stmts (slice_get (trees_of qs) (last qs))) h
    ∙ ap as_stmts (adds_stmts t [] f.body).stands

expr_there : (ps : List Part) (i : ℕ) (t : Table) (e : Expr) → ps ≡ with_expr t [] e → i ≡ last ps → as_expr (slice_get (trees_of ps) i) ≡ e
expr_there ps i t e h k =
    ap (λ (j : ℕ). as_expr (slice_get (trees_of ps) j)) k
    ∙ ap (λ (qs : List Part). as_expr (slice_get (trees_of qs) (last qs))) h
    ∙ ap as_expr (adds_expr t [] e).stands

-- the code of a function, with its marks
pub function_body : (functions globals : List Name) (f : Bor JsFunction) (c : held.FunctionCode) (b : Body)
    → IsFunctionCode functions globals (function_view f.now) c
    → b.function ≡ Some f → b.code ≡ c.code → b.params ≡ c.params → b.slots ≡ c.slots → b.whole ≡ c.body
    → (script : ScriptTree) → AreNames script functions globals → IsFunctionBody script b f
function_body functions globals f c b h is code params slots whole script n =
    let g : Function = function_view f.now in
    record {
      function = is;
      body = record {
        code =
            subst (λ (o : Option (Bor JsFunction)). IsCode (table_of script (names_of_it o)) b.code) (sym is)
            (subst (IsCode (table_of script (scope_of g).names)) (sym code)
            (subst (λ (t : Table). IsCode t c.code) (table_is script functions globals (scope_of g).names n) (function_sound functions globals g c h)));
      };
      whole = stmts_there b.code b.whole (table_with functions globals (distinct (scope_of g).names)) g (code ∙ h.code) (whole ∙ h.body ∙ ap last (sym code));
      params = params ∙ h.params;
      slots = slots ∙ h.slots;
    }

-- the code of a first value, with its marks
pub value_body : (functions globals : List Name) (e : Expr) (c : value.ValueCode) (b : Body)
    → IsValueCode functions globals e c → b.function ≡ None → b.code ≡ c.code → b.whole ≡ c.e
    → (script : ScriptTree) → AreNames script functions globals → IsValueBody script b e
value_body functions globals e c b h is code whole script n = record {
  function = is;
  body = record {
    code = subst (λ (o : Option (Bor JsFunction)). IsCode (table_of script (names_of_it o)) b.code) (sym is)
        (subst (IsCode (table_of script [])) (sym code)
        (subst (λ (t : Table). IsCode t c.code) (table_is script functions globals [] n) (value_sound functions globals e c h)));
  };
  whole = expr_there b.code b.whole (table_with functions globals []) e (code ∙ h.code) (whole ∙ h.last_part ∙ ap last (sym code));
}

-- no code
pub empty_body : (b : Body) → b.code ≡ [] → (script : ScriptTree) → IsBody script b
empty_body b e script = record {
  code = subst (IsCode (table_of script (names_in b))) (sym e) (no_code (table_of script (names_in b)));
}

-- code of each of these functions, in order
abbrev pub AreMade : ScriptTree → List Function → List Body → Type 0
AreMade script [] [] = Unit {0}
AreMade script [] (b ∷ bs) = ⊥
AreMade script (g ∷ gs) [] = ⊥
AreMade script (g ∷ gs) (b ∷ bs) = IsCodeOf script g b × AreMade script gs bs

pub made_more : (script : ScriptTree) (gs : List Function) (bs : List Body) (g : Function) (b : Body) → AreMade script gs bs → IsCodeOf script g b
    → AreMade script (gs ++ g ∷ []) (bs ++ b ∷ [])
made_more script [] [] g b h k = (k, tt)
made_more script [] (c ∷ bs) g b h k = absurd h
made_more script (f ∷ gs) [] g b h k = absurd h
made_more script (f ∷ gs) (c ∷ bs) g b h k = (h.0, made_more script gs bs g b h.1 k)

-- a function's code is that of a function at its place
pub made_at : (script : ScriptTree) (gs : List Function) (bs : List Body) (n : ℕ) (b : Body) → AreMade script gs bs → slice_get bs n ≡ Some b
    → (g : Function) × (slice_get gs n ≡ Some g) × IsCodeOf script g b
made_at script [] [] n b h e = cc
made_at script [] (c ∷ bs) n b h e = absurd h
made_at script (g ∷ gs) [] n b h e = absurd h
made_at script (g ∷ gs) (c ∷ bs) zero b h e = let same : c ≡ b = cc in (g, refl, subst (IsCodeOf script g) same h.0)
made_at script (g ∷ gs) (c ∷ bs) (suc n) b h e = made_at script gs bs n b h.1 e

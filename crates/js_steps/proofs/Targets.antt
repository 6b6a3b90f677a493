-- Jumps to a statement with a label, or past it.
use Rattle.std.proofs.Common.{◌≡◌, ap, sym, ◌∙◌, ℕ, Option, Bool}
use Rattle.js_tree.specs.Script.{Name}
use Rattle.js_tree.specs.Value.{gives, choose}
use Rattle.js_tree.specs.Evaluate.{Setting, onward, breaks, continues, exec, is_target, after_switch}
use Rattle.js_code.specs.Parts.{stmt_at}
use Rattle.js_steps.specs.Moment.{Moment, frame_in, flowing}
use Rattle.js_steps.specs.Stack.{loop_label, turned}

-- whether the loop is the target, by the label that was found
target : (l k x : Option Name) (b r : Bool) → l ≡ k → r ≡ is_target x l → r ≡ b → is_target x k ≡ b
target l k x b r h q e = ap (is_target x) (sym h) ∙ sym q ∙ e

pub turn_breaks : (st : Setting) (m : Moment) (i : ℕ) (l x : Option Name) (b r : Bool) → l ≡ loop_label (stmt_at m.trees i) → r ≡ is_target x l → r ≡ b
    → turned st (stmt_at m.trees i) (breaks x) m ≡ flowing m (choose b (gives onward) (gives (breaks x)) (frame_in m))
turn_breaks st m i l x b r h q e = ap (λ (t : Bool). flowing m (choose t (gives onward) (gives (breaks x)) (frame_in m))) (target l (loop_label (stmt_at m.trees i)) x b r h q e)

pub turn_continues : (st : Setting) (m : Moment) (i : ℕ) (l x : Option Name) (b r : Bool) → l ≡ loop_label (stmt_at m.trees i) → r ≡ is_target x l → r ≡ b
    → turned st (stmt_at m.trees i) (continues x) m ≡ flowing m (choose b (exec st m.scope (stmt_at m.trees i)) (gives (continues x)) (frame_in m))
turn_continues st m i l x b r h q e =
    ap (λ (t : Bool). flowing m (choose t (exec st m.scope (stmt_at m.trees i)) (gives (continues x)) (frame_in m))) (target l (loop_label (stmt_at m.trees i)) x b r h q e)

pub switch_breaks : (m : Moment) (l x : Option Name) (b r : Bool) → r ≡ is_target x l → r ≡ b → flowing m (after_switch l (breaks x) (frame_in m)) ≡ flowing m (choose b (gives onward) (gives (breaks x)) (frame_in m))
switch_breaks m l x b r q e = ap (λ (t : Bool). flowing m (choose t (gives onward) (gives (breaks x)) (frame_in m))) (sym q ∙ e)

-- Parts that are of no such kind, so that nothing is done.
use Rattle.std.proofs.Common.{◌≡◌, refl, ℕ, List, Option, Some, None, true, false}
use Rattle.std.specs.Borrow.{Bor}
use Rattle.js_tree.specs.Script.{Name, Expr, Stmts, Else, else_if}
use Rattle.js_tree.specs.Value as run
use Rattle.js_tree.specs.Value.{World, Value, Outcome, whole, bytes, truth, nothing, object, function, gives, throws, over, and_then, choose}
use Rattle.js_tree.specs.Evaluate.{Setting, Flow, onward, eval, exec_all, exec_else, exec_through, frame, truth_of}
use Rattle.js_code.specs.Held.{part_of}
use Rattle.js_code.specs.Parts.{Tree, as_stmt, as_stmts, as_else, as_cases, tree_of}
use Rattle.js_code.specs.declared.code.part.Part as kept
use Rattle.js_code.specs.declared.code.part.Part.TheVariants as held
use Rattle.js_steps.specs.Moment.{Moment, flow, Out, in_world, frame_in, flowing, valued, expr_does, stmts_do, else_does, with_value, chosen}
use Rattle.js_steps.specs.PartWaits.{else_first}
use Rattle.js_steps.specs.Stack.{loop_label}

pub no_statements : (p : kept.Part) → ((s ss : ℕ) → ¬ (p ≡ held.Then s ss)) → (ts : List Tree) (st : Setting) (m : Moment) → stmts_do st (as_stmts (Some (tree_of ts (part_of p)))) m ≡ gives (flow onward) m
no_statements (held.Then s ss) h ts st m = absurd (h s ss refl)
no_statements p h ts st m = refl

pub no_else_part : (p : kept.Part) → ((b : ℕ) → ¬ (p ≡ held.ElseBlock b)) → ((at e b x : ℕ) → ¬ (p ≡ held.ElseIf at e b x))
    → (ts : List Tree) (st : Setting) (m : Moment) → else_does st (as_else (Some (tree_of ts (part_of p)))) m ≡ gives (flow onward) m
no_else_part (held.ElseBlock b) h k ts st m = absurd (h b refl)
no_else_part (held.ElseIf at e b x) h k ts st m = absurd (k at e b x refl)
no_else_part p h k ts st m = refl

pub no_case_part : (p : kept.Part) → ((b cs n : ℕ) → ¬ (p ≡ held.Case b cs n)) → ((b : ℕ) → ¬ (p ≡ held.Default b))
    → (ts : List Tree) (st : Setting) (m : Moment) → flowing m (exec_through st m.scope (as_cases (Some (tree_of ts (part_of p)))) (frame_in m)) ≡ gives (flow onward) m
no_case_part (held.Case b cs n) h k ts st m = absurd (h b cs n refl)
no_case_part (held.Default b) h k ts st m = absurd (k b refl)
no_case_part p h k ts st m = refl

pub no_loop : (p : kept.Part) → ((at e b : ℕ) (l : Bor (Option Name)) → ¬ (p ≡ held.While at e b l)) → ((at b : ℕ) (l : Bor (Option Name)) → ¬ (p ≡ held.Forever at b l))
    → (ts : List Tree) → loop_label (as_stmt (Some (tree_of ts (part_of p)))) ≡ None
no_loop (held.While at e b l) h k ts = absurd (h at e b l refl)
no_loop (held.Forever at b l) h k ts = absurd (k at b l refl)
no_loop p h k ts = refl

-- 12.5: one of two ways, by a condition
flowing_in : (m : Moment) (w : World) (o : Outcome run.Frame Flow) → flowing m o ≡ flowing (in_world m w) o
flowing_in m w (gives f s) = refl
flowing_in m w (throws at v s) = refl
flowing_in m w (over e u) = refl

by_condition : (m : Moment) (at : ℕ) (o : Outcome World Value) (left right : run.Frame → Outcome run.Frame Flow) (left' right' : Moment → Out)
    → ((w : World) → flowing m (left (frame m.locals w)) ≡ left' (in_world m w)) → ((w : World) → flowing m (right (frame m.locals w)) ≡ right' (in_world m w))
    → flowing m (and_then (run.in_frame m.locals (and_then o (truth_of at))) (λ t. choose t left right)) ≡ with_value (valued m o) (λ v. chosen at v left' right')
by_condition m at (gives (truth true) w) left right left' right' h k = h w
by_condition m at (gives (truth false) w) left right left' right' h k = k w
by_condition m at (gives (whole n) w) left right left' right' h k = refl
by_condition m at (gives (bytes s) w) left right left' right' h k = refl
by_condition m at (gives nothing w) left right left' right' h k = refl
by_condition m at (gives (object id) w) left right left' right' h k = refl
by_condition m at (gives (function x) w) left right left' right' h k = refl
by_condition m at (throws j v w) left right left' right' h k = refl
by_condition m at (over e w) left right left' right' h k = refl

pub else_if_is : (st : Setting) (m : Moment) (at : ℕ) (t : Expr) (ss : Stmts) (x : Else) → else_does st (else_if at t ss x) m ≡ with_value (expr_does st t m) (else_first st (else_if at t ss x))
else_if_is st m at t ss x =
    by_condition m at (eval st m.scope m.locals t m.world) _ _ _ _ (λ w. flowing_in m w (exec_all st m.scope ss (frame m.locals w))) (λ w. flowing_in m w (exec_else st m.scope x (frame m.locals w)))

-- Tasks that are put before those that remain.
use Rattle.std.proofs.Common.{◌≡◌, ◌+◌, ◌*◌, ap, ◌∙◌, arith, List, [], ◌∷◌, ◌++◌}
use Rattle.std.proofs.lemmas.List.Sums.{fold-append}
use Rattle.std.specs.Prelude.{Bool, true, false, Result, Ok, Err, IfOk}
use Rattle.std.specs.Bool.{OnTrue, OnFalse}
use Rattle.go_type.specs.Tree.{Ty}
use Rattle.go_core.specs.Goroutine as task
use Rattle.go_state.specs.TasksSeen.{pieces_first}
use Rattle.go_state.specs.Weight.{pieces_weight}
use Rattle.go_state.specs.declared.tasks.task.Pieces.{Pieces}
use Rattle.go_state.specs.StateSeen.{todo_first, tasks_of}
use Rattle.go_state.specs.Measure.{todo_measure, measure}
use Rattle.go_state.specs.declared.state.frame.Todo.{Todo}
use Rattle.go_state.specs.declared.state.frame.Todo.TheVariants as held

pub tasks_push : (ts : List Ty) (xs : List Todo) (x : Todo) → tasks_of ts (xs ++ x ∷ []) ≡ todo_first ts x (tasks_of ts xs)
tasks_push ts xs x = fold-append (λ (rest : List task.Task) (t : Todo). todo_first ts t rest) [] xs (x ∷ [])

pub measure_push : (xs : List Todo) (x : Todo) → measure (xs ++ x ∷ []) ≡ measure xs + todo_measure x
measure_push [] x = omega arith
measure_push (y ∷ ys) x = let e = measure_push ys x in omega (arith, e)

-- where the task on top was taken
pub tasks_popped : {B : Type 0} (k : List task.Task → B) (ts : List Ty) (xs ys : List Todo) (x : Todo) → xs ≡ ys ++ x ∷ []
    → k (tasks_of ts xs) ≡ k (todo_first ts x (tasks_of ts ys))
tasks_popped k ts xs ys x e = ap (λ (zs : List Todo). k (tasks_of ts zs)) e ∙ ap k (tasks_push ts ys x)

pub measure_popped : (xs ys : List Todo) (x : Todo) → xs ≡ ys ++ x ∷ [] → measure xs ≡ measure ys + todo_measure x
measure_popped xs ys x e = ap measure e ∙ measure_push ys x

-- the pieces of a task are put before those that remain
pub tasks_pieces : (ts : List Ty) (p : Pieces) (xs us vs ws : List Todo) → us ≡ xs ++ held.Text p.2 ∷ [] → vs ≡ us ++ held.Text p.1 ∷ [] → ws ≡ vs ++ held.Text p.0 ∷ []
    → tasks_of ts ws ≡ pieces_first ts p (tasks_of ts xs)
tasks_pieces ts p xs us vs ws e f h =
    tasks_popped (λ (z : List task.Task). z) ts ws vs (held.Text p.0) h
    ∙ tasks_popped (todo_first ts (held.Text p.0)) ts vs us (held.Text p.1) f
    ∙ tasks_popped (λ (z : List task.Task). todo_first ts (held.Text p.0) (todo_first ts (held.Text p.1) z)) ts us xs (held.Text p.2) e

pub measure_pieces : (p : Pieces) (xs us vs ws : List Todo) → us ≡ xs ++ held.Text p.2 ∷ [] → vs ≡ us ++ held.Text p.1 ∷ [] → ws ≡ vs ++ held.Text p.0 ∷ []
    → measure ws ≡ 4 * pieces_weight [] p + 3 + measure xs
measure_pieces p xs us vs ws e f h =
    let i = measure_popped us xs (held.Text p.2) e in
    let j = measure_popped vs us (held.Text p.1) f in
    let k = measure_popped ws vs (held.Text p.0) h in
    omega (arith, i, j, k)

-- ---- a fact from a fact

pub if_ok : {A E : Type 0} {P Q : A → Type 0} (r : Result A E) → ((x : A) → P x → Q x) → IfOk r P → IfOk r Q
if_ok (Ok x) f p = f x p
if_ok (Err e) f p = tt

pub on_true : {P Q : Type 0} (b : Bool) → (P → Q) → OnTrue b P → OnTrue b Q
on_true true f p = f p
on_true false f p = tt

pub on_false : {P Q : Type 0} (b : Bool) → (P → Q) → OnFalse b P → OnFalse b Q
on_false true f p = tt
on_false false f p = f p

pub when_true : {P : Type 0} (b : Bool) → b ≡ true → OnTrue b P → P
when_true true e h = h
when_true false e h = absurd (cc)

pub when_false : {P : Type 0} (b : Bool) → b ≡ false → OnFalse b P → P
when_false true e h = absurd (cc)
when_false false e h = h

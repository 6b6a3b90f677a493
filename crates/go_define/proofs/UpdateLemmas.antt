-- `x op= y` and `x++`, by what comes of their operands.
use Rattle.std.proofs.Common.{◌≡◌, ◌∙◌, refl, sym, ap, List, [], ◌∷◌, ◌++◌, append_assoc, map}
use Rattle.std.proofs.lemmas.List.{append-nil}
use Rattle.gj_base.specs.declared.place.Place.{Place}
use Rattle.gj_base.specs.declared.kind.Op.{Op}
use Rattle.go_syntax.specs.Tree as t
use Rattle.go_type.specs.Tree.{Ty}
use Rattle.go_type.specs.Named.{NamedTy}
use Rattle.go_type.specs.declared.table.TypeTable.{TypeTable}
use Rattle.go_core.specs.CoreTree as core
use Rattle.go_core.specs.CoreTree.{Target}
use Rattle.go_core.specs.CoreView.{stmt_view, target_view}
use Rattle.go_core.specs.declared.statement.CoreStmt.{CoreStmt}
use Rattle.go_core.specs.declared.statement.Target as code_target
use Rattle.go_typing.specs.Answer.{Flaw, Answer, Part, own}
use Rattle.go_typing.specs.Typing.{place_of}
use Rattle.go_typing.specs.Wanted.{wanted}
use Rattle.go_operands.specs.AnswerView.{flaw_view}
use Rattle.go_operands.specs.declared.answers.answer.Flaw as code
use Rattle.go_operands.specs.Parts.{part}
use Rattle.go_typing.specs.Walk.{Walk}
use Rattle.go_typing.specs.Expressions.{answer_in, core_of}
use Rattle.go_typing.specs.Assign.{Left, left_blank, left_place, left_wrong, update_left}
use Rattle.go_walk.specs.WalkView.{Keeps}
use Rattle.go_assign.specs.Outcome.{Adds}
use Rattle.go_assign.specs.Assigning.{Gives}
use Rattle.go_assign.proofs.SideLemmas.{gives_did}
use Rattle.go_define.specs.Updating.{updated}

pub updated_did : (w : Walk) (at : Place) (op : Op) (x : t.Expr) (y : Part) (fs : List Flaw) (l : Left) (u : Walk) → gives_did (updated w.names at op l (part (place_of x) (answer_in w x)) y fs) u ≡ update_left w at op x y fs l u
updated_did w at op x y fs left_blank u = refl
updated_did w at op x y fs (left_wrong gs) u = refl
updated_did w at op x y fs (left_place p v) u = refl

-- ---- what is told

pub told_two : (f0 f1 f2 a b : List Flaw) → f1 ≡ f0 ++ a → f2 ≡ f1 ++ b → f2 ≡ f0 ++ (a ++ b)
told_two f0 f1 f2 a b p q = q ∙ ap (λ (x : List Flaw). x ++ b) p ∙ append_assoc f0 a b

-- by the same answer
pub row_told : (f0 f1 a : List Flaw) (x r : Answer) → x ≡ r → f1 ≡ f0 ++ (a ++ own x) → f1 ≡ f0 ++ (a ++ own r)
row_told f0 f1 a x r p h = h ∙ ap (λ (y : Answer). f0 ++ (a ++ own y)) p

pub own_told : (f0 f1 : List Flaw) (x r : Answer) → x ≡ r → f1 ≡ f0 ++ own x → f1 ≡ f0 ++ own r
own_told f0 f1 x r p h = h ∙ ap (λ (y : Answer). f0 ++ own y) p

-- the operand, the operator's row, and then where its value is wanted
pub spot_told : (ns : List NamedTy) (at : Place) (u : Ty) (f0 f1 f2 a : List Flaw) (x r : Answer) → x ≡ r → f1 ≡ f0 ++ (a ++ own r) → f2 ≡ f1 ++ own (wanted ns at u x) → f2 ≡ f0 ++ ((a ++ own r) ++ own (wanted ns at u r))
spot_told ns at u f0 f1 f2 a x r p h k =
    k
    ∙ ap (λ (y : Answer). f1 ++ own (wanted ns at u y)) p
    ∙ ap (λ (fs : List Flaw). fs ++ own (wanted ns at u r)) h
    ∙ append_assoc f0 (a ++ own r) (own (wanted ns at u r))

-- ---- what is stored

pub alone_in : (ts : List Ty) (olds news : List code_target.Target) (g : Target) → olds ≡ [] → map (target_view ts) news ≡ map (target_view ts) olds ++ g ∷ [] → map (target_view ts) news ≡ g ∷ []
alone_in ts olds news g z h = h ∙ ap (λ (x : List code_target.Target). map (target_view ts) x ++ g ∷ []) z

abbrev store_one : Answer → List Target → core.Stmt
store_one a gs = core.store gs (core.expr (core_of a) core.no_exprs)

pub spot_stored : (ns : List NamedTy) (at : Place) (u : Ty) (before after : List core.Stmt) (gs hs : List Target) (x r w : Answer) → gs ≡ hs → x ≡ r → w ≡ wanted ns at u x → after ≡ before ++ core.store gs (core.expr (core_of w) core.no_exprs) ∷ []
    → after ≡ before ++ core.store hs (core.expr (core_of (wanted ns at u r)) core.no_exprs) ∷ []
spot_stored ns at u before after gs hs x r w p q e h =
    h
    ∙ ap (λ (y : List Target). before ++ store_one w y ∷ []) p
    ∙ ap (λ (a : Answer). before ++ store_one a hs ∷ []) (e ∙ ap (wanted ns at u) q)

-- ---- both

pub spot_adds : (t : TypeTable) (g : Gives) (f0 f1 : List code.Flaw) (o0 o1 : List CoreStmt) → map flaw_view f1 ≡ map flaw_view f0 ++ g.flaws → ((ts : List Ty) → Keeps t ts → map (stmt_view ts) o1 ≡ map (stmt_view ts) o0 ++ g.core) → Adds t g.flaws g.core f0 f1 o0 o1
spot_adds t g f0 f1 o0 o1 h k = record { told = h; core = k }

pub told_adds : (t : TypeTable) (fs : List Flaw) (f0 f1 : List code.Flaw) (out : List CoreStmt) → map flaw_view f1 ≡ map flaw_view f0 ++ fs → Adds t fs [] f0 f1 out out
told_adds t fs f0 f1 out h = record { told = h; core = λ ts l. sym (append-nil (map (stmt_view ts) out)) }

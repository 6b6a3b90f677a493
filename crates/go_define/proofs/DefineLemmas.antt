-- One name on the left of `:=`, with its value, with a type, or with neither.
use Rattle.std.proofs.Common.{arith, ◌≡◌, ℕ, ◌∙◌, refl, sym, ap, List, [], ◌∷◌, ◌++◌, append_assoc, map, Bool, Option, Some, None}
use Rattle.std.specs.Prelude.{if◌then◌else◌}
use Rattle.std.proofs.lemmas.List.{append-nil, map-append}
use Rattle.gj_base.specs.declared.place.Place.{Place}
use Rattle.go_syntax.specs.declared.tree.Name.{Name}
use Rattle.go_type.specs.Tree.{Ty}
use Rattle.go_core.specs.CoreTree as core
use Rattle.go_core.specs.CoreTree.{Target}
use Rattle.go_core.specs.CoreView.{stmt_view, target_view}
use Rattle.go_core.specs.declared.statement.CoreStmt.{CoreStmt}
use Rattle.go_core.specs.declared.statement.Target as code_target
use Rattle.go_typing.specs.Answer.{Flaw, flaw}
use Rattle.go_operands.specs.EnvView.{table_of}
use Rattle.go_operands.specs.AnswerView.{flaw_view}
use Rattle.go_operands.specs.declared.answers.answer.Flaw as code
use Rattle.go_typing.specs.Walk as go
use Rattle.go_typing.specs.Walk.{is_there, with_unknown}
use Rattle.go_typing.specs.Expressions.{Valued, type_of, core_of}
use Rattle.go_typing.specs.Assign.{Left, left_flaws, takes}
use Rattle.go_typing.specs.Declare.{declare_one, declare_stmts, declare_target}
use Rattle.go_walk.specs.WalkView.{walk_of, depth}
use Rattle.go_walk.specs.declared.walk.walk.Walk.{Walk}
use Rattle.go_assign.specs.Moves.{Moves}
use Rattle.go_assign.proofs.WalkLemmas.{moves_in}
use Rattle.go_define.specs.FreshView.{new_spot, old_spot}
use Rattle.go_define.specs.Defining.{spot_stmts, spot_target, spot_walk, type_flaws}

pub none_more : (ts : List Ty) (out : List CoreStmt) → map (stmt_view ts) out ≡ map (stmt_view ts) out ++ []
none_more ts out = sym (append-nil (map (stmt_view ts) out))

pub none_told : (fs : List code.Flaw) → map flaw_view fs ≡ map flaw_view fs ++ []
none_told fs = sym (append-nil (map flaw_view fs))

-- ---- by where its scope has the name

pub moves_by : (n : Name) (o : Option Ty) (at : Option Place) (a b : Walk) → ((ts : List Ty) → at ≡ is_there n (walk_of ts a)) → Moves (declare_one n at o) a b → Moves (spot_walk (new_spot n) o) a b
moves_by n o at a b h m = record {
  walk = λ ts l. m.walk ts l ∙ ap (λ (p : Option Place). declare_one n p o (walk_of ts a)) (h ts);
  depth = m.depth;
  kept = m.kept;
  counts = m.counts;
}

pub stmts_by : (n : Name) (o : Option Ty) (at : Option Place) (w : go.Walk) (before after : List core.Stmt) → at ≡ is_there n w → after ≡ before ++ declare_stmts at w o → after ≡ before ++ spot_stmts w (new_spot n) o
stmts_by n o at w before after h k = k ∙ ap (λ (p : Option Place). before ++ declare_stmts p w o) h

pub target_by : (n : Name) (o : Option Ty) (at : Option Place) (w : go.Walk) (g : Target) → at ≡ is_there n w → g ≡ declare_target at w o → g ≡ spot_target w (new_spot n) o
target_by n o at w g h k = k ∙ ap (λ (p : Option Place). declare_target p w o) h

pub unknown_new : (n : Name) (a b : Walk) → ((ts : List Ty) → None ≡ is_there n (walk_of ts a)) → table_of b.env ≡ table_of a.env → depth b ≡ depth a → ((ts : List Ty) → walk_of ts b ≡ with_unknown n (walk_of ts a)) → Moves (spot_walk (new_spot n) None) a b
unknown_new n a b h t d k = moves_in (spot_walk (new_spot n) None) a b t d (λ ts l. k ts ∙ ap (λ (p : Option Place). declare_one n p None (walk_of ts a)) (h ts))

pub unknown_there : (n : Name) (at : Place) (w : Walk) → ((ts : List Ty) → Some at ≡ is_there n (walk_of ts w)) → Moves (spot_walk (new_spot n) None) w w
unknown_there n at w h = moves_in (spot_walk (new_spot n) None) w w refl refl (λ ts l. ap (λ (p : Option Place). declare_one n p None (walk_of ts w)) (h ts))

-- ---- one left side more

pub target_more : (ts : List Ty) (olds news : List code_target.Target) (g : code_target.Target) → news ≡ olds ++ g ∷ [] → map (target_view ts) news ≡ map (target_view ts) olds ++ target_view ts g ∷ []
target_more ts olds news g p = ap (map (target_view ts)) p ∙ map-append (target_view ts) olds (g ∷ [])

pub target_at : (ts : List Ty) (olds news : List code_target.Target) (g : code_target.Target) (c : Target) → news ≡ olds ++ g ∷ [] → target_view ts g ≡ c → map (target_view ts) news ≡ map (target_view ts) olds ++ c ∷ []
target_at ts olds news g c p q = target_more ts olds news g p ∙ ap (λ (x : Target). map (target_view ts) olds ++ x ∷ []) q

-- ---- by the view of its value

pub core_same : (n : Name) (w : go.Walk) (before after : List core.Stmt) (v x : Valued) → v ≡ x → after ≡ before ++ spot_stmts w (new_spot n) (type_of v.answer) → after ≡ before ++ spot_stmts w (new_spot n) (type_of x.answer)
core_same n w before after v x p h = h ∙ ap (λ (y : Valued). before ++ spot_stmts w (new_spot n) (type_of y.answer)) p

pub target_same : (n : Name) (w : go.Walk) (before after : List Target) (v x : Valued) → v ≡ x → after ≡ before ++ spot_target w (new_spot n) (type_of v.answer) ∷ [] → after ≡ before ++ spot_target w (new_spot n) (type_of x.answer) ∷ []
target_same n w before after v x p h = h ∙ ap (λ (y : Valued). before ++ spot_target w (new_spot n) (type_of y.answer) ∷ []) p

pub value_same : (before after : List core.Expr) (v x : Valued) → v ≡ x → after ≡ before ++ core_of v.answer ∷ [] → after ≡ before ++ core_of x.answer ∷ []
value_same before after v x p h = h ∙ ap (λ (y : Valued). before ++ core_of y.answer ∷ []) p

pub told_same : (before after : List Flaw) (v x : Valued) → v ≡ x → after ≡ before ++ v.flaws → after ≡ before ++ x.flaws
told_same before after v x p h = h ∙ ap (λ (y : Valued). before ++ y.flaws) p

pub moves_same : (n : Name) (a b : Walk) (v x : Valued) → v ≡ x → Moves (spot_walk (new_spot n) (type_of v.answer)) a b → Moves (spot_walk (new_spot n) (type_of x.answer)) a b
moves_same n a b v x p m = record {
  walk = λ ts l. m.walk ts l ∙ ap (λ (y : Valued). spot_walk (new_spot n) (type_of y.answer) (walk_of ts a)) p;
  depth = m.depth;
  kept = m.kept;
  counts = m.counts;
}

pub moves_at : (n : Name) (a b : Walk) (o q : Option Ty) → o ≡ q → Moves (spot_walk (new_spot n) o) a b → Moves (spot_walk (new_spot n) q) a b
moves_at n a b o q p m = record {
  walk = λ ts l. m.walk ts l ∙ ap (λ (y : Option Ty). spot_walk (new_spot n) y (walk_of ts a)) p;
  depth = m.depth;
  kept = m.kept;
  counts = m.counts;
}

pub stmts_at : (n : Name) (w : go.Walk) (before after : List core.Stmt) (o q : Option Ty) → o ≡ q → after ≡ before ++ spot_stmts w (new_spot n) o → after ≡ before ++ spot_stmts w (new_spot n) q
stmts_at n w before after o q p h = h ∙ ap (λ (y : Option Ty). before ++ spot_stmts w (new_spot n) y) p

-- ---- a left side that its scope has

abbrev unless : Place → Bool → List Flaw
unless p b = if b then [] else flaw p 61 ∷ []

pub fits_told : (l : Left) (u : Ty) (p : Place) (b : Bool) (f0 f1 f2 : List Flaw) → b ≡ takes l u → f1 ≡ f0 ++ left_flaws l → f2 ≡ f1 ++ (if b then [] else flaw p 61 ∷ []) → f2 ≡ f0 ++ type_flaws p (old_spot l) u
fits_told l u p b f0 f1 f2 h k e =
    e
    ∙ ap (λ (c : Bool). f1 ++ unless p c) h
    ∙ ap (λ (fs : List Flaw). fs ++ unless p (takes l u)) k
    ∙ append_assoc f0 (left_flaws l) (unless p (takes l u))

-- What a branch and a fault do, and what isn't built yet.
use Rattle.std.proofs.Common.{arith, ◌≡◌, ◌∙◌, ℕ, refl, sym, ap, subst, List, [], ◌∷◌, ◌++◌, map, length}
use Rattle.std.specs.Prelude.{Option, Some}
use Rattle.std.proofs.lemmas.List.{append-nil, map-append}
use Rattle.gj_base.specs.declared.place.Place.{Place}
use Rattle.go_syntax.specs.Tree as t
use Rattle.go_type.specs.Tree.{Ty}
use Rattle.go_type.specs.declared.table.TypeTable.{TypeTable}
use Rattle.go_core.specs.CoreTree as core
use Rattle.go_core.specs.CoreView.{stmt_view, branch_of}
use Rattle.go_core.specs.declared.statement.BranchKind.{BranchKind}
use Rattle.go_core.specs.declared.statement.CoreStmt.{CoreStmt}
use Rattle.go_core.specs.declared.statement.Label.{Label}
use Rattle.go_typing.specs.Answer as typing
use Rattle.go_typing.specs.Answer.{flaw}
use Rattle.go_typing.specs.Scopes as scopes
use Rattle.go_typing.specs.Uses.{names_in_stmt}
use Rattle.go_operands.specs.EnvView.{table_of}
use Rattle.go_operands.specs.AnswerView.{flaw_view}
use Rattle.go_operands.specs.declared.answers.answer.Flaw.{Flaw}
use Rattle.go_typing.specs.Walk as go
use Rattle.go_typing.specs.Walk.{Did, faulty, with_uses}
use Rattle.go_typing.specs.Statements.{branch_did, not_built}
use Rattle.go_walk.specs.WalkView.{walk_of}
use Rattle.go_walk.specs.declared.walk.walk.Walk.{Walk}
use Rattle.go_assign.specs.Outcome.{Does, Adds}
use Rattle.go_assign.specs.Passed.{Passes, stays}

pub adds_flaws : (t : TypeTable) (fs : List typing.Flaw) (f0 f1 : List Flaw) (o : List CoreStmt) → map flaw_view f1 ≡ map flaw_view f0 ++ fs → Adds t fs [] f0 f1 o o
adds_flaws t fs f0 f1 o h = record { told = h; core = λ ts k. sym (append-nil (map (stmt_view ts) o)) }

pub one_more : (old new : List CoreStmt) (s : CoreStmt) (c : List Ty → core.Stmt) → new ≡ old ++ s ∷ [] → ((ts : List Ty) → stmt_view ts s ≡ c ts) → (ts : List Ty) → map (stmt_view ts) new ≡ map (stmt_view ts) old ++ c ts ∷ []
one_more old new s c p h ts =
    ap (map (stmt_view ts)) p ∙ map-append (stmt_view ts) old (s ∷ []) ∙ ap (λ (x : core.Stmt). map (stmt_view ts) old ++ x ∷ []) (h ts)

abbrev outcome : List core.Stmt → List typing.Flaw → go.Walk → Did
outcome ss fs w = record { core = ss; flaws = fs; walk = w }

pub does_told : (d : go.Walk → Did) (f : go.Walk → go.Walk) (a b : Walk) (f0 f1 : List Flaw) (o0 o1 : List CoreStmt) (fs : List typing.Flaw) (ss : List core.Stmt)
    → ((ts : List Ty) → d (walk_of ts a) ≡ outcome ss fs (f (walk_of ts a))) → Passes f a b → Adds (table_of b.env) fs ss f0 f1 o0 o1 → Does d a b f0 f1 o0 o1
does_told d f a b f0 f1 o0 o1 fs ss e p h = record {
  told = λ ts l. h.told ∙ ap (λ (x : Did). map flaw_view f0 ++ x.flaws) (sym (e ts));
  core = λ ts l. h.core ts l ∙ ap (λ (x : Did). map (stmt_view ts) o0 ++ x.core) (sym (e ts));
  walk = λ ts l. p.walk ts ∙ ap (λ (x : Did). x.walk) (sym (e ts));
  depth = ap (λ (x : scopes.Env). length x.blocks) p.env;
  kept = p.kept;
  counts = p.counts;
}

pub does_here : (d : go.Walk → Did) (a : Walk) (f0 f1 : List Flaw) (o0 o1 : List CoreStmt) (fs : List typing.Flaw) (ss : List core.Stmt) → ((ts : List Ty) → d (walk_of ts a) ≡ outcome ss fs (walk_of ts a)) → Adds (table_of a.env) fs ss f0 f1 o0 o1
    → Does d a a f0 f1 o0 o1
does_here d a f0 f1 o0 o1 fs ss e h = does_told d stays a a f0 f1 o0 o1 fs ss e (record { walk = λ ts. refl; env = refl; kept = λ i l. refl; counts = omega arith }) h

pub fault_does : (at : Place) (code : ℕ) (a : Walk) (f0 f1 : List Flaw) (o : List CoreStmt) → map flaw_view f1 ≡ map flaw_view f0 ++ flaw at code ∷ [] → Does (faulty (flaw at code ∷ [])) a a f0 f1 o o
fault_does at code a f0 f1 o h = does_here (faulty (flaw at code ∷ [])) a f0 f1 o o (flaw at code ∷ []) [] (λ ts. refl) (adds_flaws (table_of a.env) (flaw at code ∷ []) f0 f1 o h)

pub branch_does : (at : Place) (k : BranchKind) (l : Label) (a : Walk) (f : List Flaw) (o0 o1 : List CoreStmt) (s : CoreStmt) → o1 ≡ o0 ++ s ∷ [] → ((ts : List Ty) → stmt_view ts s ≡ core.branch (branch_of k) l.0)
    → Does (branch_did at (branch_of k) (Some l.0)) a a f f o0 o1
branch_does at k l a f o0 o1 s p h =
    does_here (branch_did at (branch_of k) (Some l.0)) a f f o0 o1 [] (core.branch (branch_of k) l.0 ∷ []) (λ ts. refl)
    (record { told = sym (append-nil (map flaw_view f)); core = λ ts j. one_more o0 o1 s (λ us. core.branch (branch_of k) l.0) p h ts })

pub branch_found : (at : Place) (k : core.BranchKind) (x y : Option ℕ) (a : Walk) (f0 f1 : List Flaw) (o0 o1 : List CoreStmt) → x ≡ y → Does (branch_did at k x) a a f0 f1 o0 o1 → Does (branch_did at k y) a a f0 f1 o0 o1
branch_found at k x y a f0 f1 o0 o1 p h = subst (λ (z : Option ℕ). Does (branch_did at k z) a a f0 f1 o0 o1) p h

pub unbuilt_does : (at : Place) (s : t.Stmt) (old new : Walk) (f0 f1 : List Flaw) (o : List CoreStmt) → Passes (with_uses (names_in_stmt s)) old new → map flaw_view f1 ≡ map flaw_view f0 ++ flaw at 0 ∷ [] → Does (not_built at s) old new f0 f1 o o
unbuilt_does at s old new f0 f1 o p h = does_told (not_built at s) (with_uses (names_in_stmt s)) old new f0 f1 o o (flaw at 0 ∷ []) [] (λ ts. refl) p (adds_flaws (table_of new.env) (flaw at 0 ∷ []) f0 f1 o h)

-- From the beginning of a function's body to its end, one after the other.
use Rattle.std.proofs.Common.{arith, ◌≡◌, ◌≤◌, ◌∙◌, ℕ, refl, sym, ap, List, [], ◌∷◌, ◌++◌, append_assoc, map}
use Rattle.std.proofs.lemmas.List.{append-nil, map-append}
use Rattle.go_syntax.specs.View.{block_view}
use Rattle.go_type.specs.Tree.{Ty}
use Rattle.go_type.specs.Named.{NamedTy}
use Rattle.go_type.specs.Table.{names, size, KeepsTrees}
use Rattle.go_type.specs.declared.table.TypeTable.{TypeTable}
use Rattle.go_core.specs.CoreTree.{CoreFunc}
use Rattle.go_core.specs.CoreView.{stmt_view, func_view}
use Rattle.go_core.specs.declared.program.Func.{Func}
use Rattle.go_core.specs.declared.statement.CoreStmt.{CoreStmt}
use Rattle.go_typing.specs.Answer as typing
use Rattle.go_typing.specs.Env.{Bind}
use Rattle.go_typing.specs.Scopes.{visible, without_last}
use Rattle.go_operands.specs.EnvView.{table_of, env_of}
use Rattle.go_operands.specs.AnswerView.{flaw_view}
use Rattle.go_operands.specs.declared.answers.answer.Flaw.{Flaw}
use Rattle.go_typing.specs.Walk.{Walk, Around, Did}
use Rattle.go_typing.specs.Statements.{function_body}
use Rattle.go_typing.specs.Signature.{all_bound, inside}
use Rattle.go_typing.specs.Functions.{Between, Functions, at_start, after_body}
use Rattle.go_items.specs.ParamView.{grouped_view}
use Rattle.go_walk.specs.WalkView.{walk_of, Keeps}
use Rattle.go_walk.specs.declared.walk.walk.Walk as code
use Rattle.go_assign.specs.Outcome.{Does}
use Rattle.go_decls.proofs.BodyLemmas.{leaves_scopes}
use Rattle.go_decls.specs.Heads as go
use Rattle.go_decls.specs.Heads.{around_head, body_by, functions_by}
use Rattle.go_decls.specs.HeadView.{head_view, now_of}
use Rattle.go_stmt.specs.Done.{FunctionDone, FunctionsLeft}
use Rattle.go_decls.specs.declared.heads.head.Head.{Head}

-- ---- before

abbrev started : List NamedTy → List (List Bind) → ℕ → Walk
started ns ss n = record { names = ns; scopes = ss ++ [] ∷ []; next = n; next_label = 0; vars = []; declared = []; used = []; lost = 0 }

pub inside_same : (ts : List Ty) (w : Walk) (v : code.Walk) → visible (env_of v.env) ≡ w.scopes → inside (walk_of ts v) ≡ inside (at_start w (now_of v))
inside_same ts w v h = ap (λ (ss : List (List Bind)). started (names (table_of v.env)) ss v.next) h

-- ---- what comes of it

pub record BodyDone (ts : List Ty) (d : Did) (new : code.Walk) (before after : List Flaw) (out : List CoreStmt) : Type 0 where
  pub told : map flaw_view after ≡ map flaw_view before ++ d.flaws
  pub core : map (stmt_view ts) out ≡ d.core
  pub walk : walk_of ts new ≡ d.walk

pub body_done : (ts : List Ty) (w : Walk) (k : Between) (h : Head) (a : Around) (mid new : code.Walk) (before after : List Flaw) (out : List CoreStmt)
    → walk_of ts mid ≡ all_bound w (map grouped_view h.params.items) (inside (at_start w k)) → a ≡ around_head (head_view ts h) → Keeps (table_of new.env) ts
    → Does (function_body (block_view h.body.now) a) mid new before after [] out → BodyDone ts (body_by w k (head_view ts h)) new before after out
body_done ts w k h a mid new before after out e f q d =
    let b = block_view h.body.now in
    let begun = all_bound w (map grouped_view h.params.items) (inside (at_start w k)) in
    let same : function_body b a (walk_of ts mid) ≡ function_body b (around_head (head_view ts h)) begun = ap (function_body b a) e ∙ ap (λ (x : Around). function_body b x begun) f in
    record {
      told = d.told ts q ∙ ap (λ (x : Did). map flaw_view before ++ x.flaws) same;
      core = d.core ts q ∙ ap (λ (x : Did). x.core) same;
      walk = d.walk ts q ∙ ap (λ (x : Did). x.walk) same;
    }

-- ---- after it

abbrev between : List NamedTy → ℕ → Between
between ns n = record { names = ns; next = n }

pub next_is : (ts : List Ty) (d : Did) (new end_ : code.Walk) → walk_of ts new ≡ d.walk → table_of end_.env ≡ table_of new.env → end_.next ≡ new.next → now_of end_ ≡ after_body d
next_is ts d new end_ e t n = ap (λ (x : List NamedTy). between x end_.next) (ap names t ∙ ap (λ (v : Walk). v.names) e) ∙ ap (between d.walk.names) (n ∙ ap (λ (v : Walk). v.next) e)

pub scopes_left : (ts : List Ty) (w : Walk) (k : Between) (h : go.Head) (new end_ : code.Walk) → walk_of ts new ≡ (body_by w k h).walk → visible (env_of end_.env) ≡ without_last (visible (env_of new.env)) → visible (env_of end_.env) ≡ w.scopes
scopes_left ts w k h new end_ e s = s ∙ ap (λ (v : Walk). without_last v.scopes) e ∙ leaves_scopes w k h

-- ---- one after the other

-- a list that keeps the later table keeps the earlier one
pub keeps_past : (a b : TypeTable) (ts : List Ty) → KeepsTrees a b → size a ≤ size b → Keeps b ts → Keeps a ts
keeps_past a b ts e n k = λ i l. k i (omega (arith, l, n)) ∙ e i l

pub kept_past : (a b c : TypeTable) → size a ≤ size b → KeepsTrees a b → KeepsTrees b c → KeepsTrees a c
kept_past a b c n e f = λ i l. f i (omega (arith, l, n)) ∙ e i l

pub functions_first : (w : Walk) (all : List Head) (v : code.Walk) (fs : List Flaw) → visible (env_of v.env) ≡ w.scopes → FunctionsLeft w v all all v fs fs []
functions_first w all v fs h = record { funcs = λ ts q. refl; told = λ ts q. refl; between = λ ts q. refl; scopes = h; kept = λ i l. refl; counts = omega arith }

pub functions_step : (w : Walk) (first : code.Walk) (h : Head) (rest all : List Head) (old new : code.Walk) (before now after : List Flaw) (done : List Func) (f : Func) → FunctionDone w old h new now after f
    → FunctionsLeft w first (h ∷ rest) all old before now done → FunctionsLeft w first rest all new before after (done ++ f ∷ [])
functions_step w first h rest all old new before now after done f d l = record {
  funcs = λ ts q.
      ap (λ (b : Between). map (func_view ts) (done ++ f ∷ []) ++ (functions_by w (map (head_view ts) rest) b).funcs) (d.next ts q)
      ∙ ap (λ (fs : List CoreFunc). fs ++ (later ts).funcs) (map-append (func_view ts) done (f ∷ [])) ∙ append_assoc (map (func_view ts) done) (func_view ts f ∷ []) (later ts).funcs
      ∙ ap (λ (g : CoreFunc). map (func_view ts) done ++ g ∷ (later ts).funcs) (d.func ts q) ∙ l.funcs ts (back ts q);
  told = λ ts q.
      ap (λ (b : Between). map flaw_view after ++ (functions_by w (map (head_view ts) rest) b).flaws) (d.next ts q) ∙ ap (λ (fs : List typing.Flaw). fs ++ (later ts).flaws) (d.told ts q)
      ∙ append_assoc (map flaw_view now) (body_by w (now_of old) (head_view ts h)).flaws (later ts).flaws ∙ l.told ts (back ts q);
  between = λ ts q. ap (λ (b : Between). (functions_by w (map (head_view ts) rest) b).between) (d.next ts q) ∙ l.between ts (back ts q);
  scopes = d.scopes;
  kept = kept_past (table_of first.env) (table_of old.env) (table_of new.env) l.counts l.kept d.kept;
  counts = let m = l.counts in let n = d.counts in omega (arith, m, n);
}
  where
    later : List Ty → Functions
    later ts = functions_by w (map (head_view ts) rest) (after_body (body_by w (now_of old) (head_view ts h)))

    back : (ts : List Ty) → Keeps (table_of new.env) ts → Keeps (table_of old.env) ts
    back ts q = keeps_past (table_of old.env) (table_of new.env) ts d.kept d.counts q

-- where none is left
pub record AllDone (w : Walk) (first : code.Walk) (all : List Head) (new : code.Walk) (before now : List Flaw) (done : List Func) (ts : List Ty) : Type 0 where
  pub funcs : map (func_view ts) done ≡ (functions_by w (map (head_view ts) all) (now_of first)).funcs
  pub told : map flaw_view now ≡ map flaw_view before ++ (functions_by w (map (head_view ts) all) (now_of first)).flaws
  pub between : now_of new ≡ (functions_by w (map (head_view ts) all) (now_of first)).between

pub functions_last : (w : Walk) (first : code.Walk) (all : List Head) (new : code.Walk) (before now : List Flaw) (done : List Func) (ts : List Ty) → Keeps (table_of new.env) ts → FunctionsLeft w first [] all new before now done
    → AllDone w first all new before now done ts
functions_last w first all new before now done ts q l = record {
  funcs = sym (append-nil (map (func_view ts) done)) ∙ l.funcs ts q;
  told = sym (append-nil (map flaw_view now)) ∙ l.told ts q;
  between = l.between ts q;
}

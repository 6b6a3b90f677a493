-- One function: what its body needs where it begins, and what comes of it.
use Rattle.std.proofs.Common.{◌≡◌, ◌≤◌, ◌∙◌, refl, sym, ap, subst, List, [], ◌∷◌, map}
use Rattle.std.specs.Prelude.{Option, None, IfSome, option_map, codes}
use Rattle.std.specs.Borrow.{Bor}
use Rattle.gj_base.specs.declared.place.Place.{Place}
use Rattle.go_syntax.specs.View.{block_view}
use Rattle.go_type.specs.Tree.{Ty, Tys}
use Rattle.go_type.specs.Table.{places, size, KeepsTrees}
use Rattle.go_type.specs.declared.types.TypeId.{TypeId}
use Rattle.go_type.specs.declared.table.TypeTable.{TypeTable}
use Rattle.go_core.specs.CoreView.{stmt_view, func_view}
use Rattle.go_core.specs.declared.program.Func.{Func}
use Rattle.go_core.specs.declared.statement.CoreStmt.{CoreStmt}
use Rattle.go_typing.specs.Env.{Bind, find}
use Rattle.go_typing.specs.Scopes.{visible, without_last}
use Rattle.go_operands.specs.EnvView.{table_of, env_of}
use Rattle.go_calls.specs.Words.{types_of}
use Rattle.go_operands.specs.declared.answers.answer.Flaw.{Flaw}
use Rattle.go_typing.specs.Walk.{Walk, Around, Did}
use Rattle.go_typing.specs.Statements.{function_body}
use Rattle.go_typing.specs.Signature.{all_bound, inside}
use Rattle.go_typing.specs.Functions.{results_typed}
use Rattle.go_items.specs.ParamView.{grouped_view}
use Rattle.go_decls.specs.SigView.{sig_found, SigFoundBelow}
use Rattle.go_walk.specs.WalkView.{walk_of, Keeps}
use Rattle.go_walk.specs.declared.walk.walk.Walk as code
use Rattle.go_assign.specs.Outcome.{Does}
use Rattle.go_sound.proofs.GoesOnSteps.{without_append}
use Rattle.go_sound.proofs.GoesOnBodies.{all_bound_on}
use Rattle.go_define.specs.AroundView.{results_of}
use Rattle.go_body.specs.Plain.{IsPlain}
use Rattle.go_decls.proofs.KeepLemmas.{sig_kept}
use Rattle.go_decls.specs.Heads.{around_head, body_by, function_with}
use Rattle.go_decls.specs.HeadView.{head_view, now_of, IsReady}
use Rattle.go_decls.specs.declared.heads.head.Head.{Head}
use Rattle.go_stmt.specs.Done.{FunctionDone}
use Rattle.go_stmt.proofs.DoneLemmas.{inside_same, body_done, BodyDone, next_is, scopes_left, keeps_past}

-- ---- a scope more leaves `iota` as it is

plain_longer : (ss rs : List (List Bind)) → without_last ss ≡ rs → IsPlain rs → IsPlain ss
plain_longer [] rs e h = absurd (empty_not (e ∙ h.is))
  where
    empty_not : [] ≡ h.outer ∷ h.next ∷ h.others → ⊥
    empty_not q = cc
plain_longer (s ∷ []) rs e h = absurd (empty_not (e ∙ h.is))
  where
    empty_not : [] ≡ h.outer ∷ h.next ∷ h.others → ⊥
    empty_not q = cc
plain_longer (s ∷ r ∷ ss) rs e h = record { outer = s; next = r; others = ss; is = refl; plain = ap (find (codes "iota")) (same (e ∙ h.is)) ∙ h.plain }
  where
    same : s ∷ without_last (r ∷ ss) ≡ h.outer ∷ h.next ∷ h.others → s ≡ h.outer
    same q = cc

-- where the parameters are bound in it
pub plain_begun : (ts : List Ty) (h : Head) (w : Walk) (old mid : code.Walk) → IsPlain (visible (env_of old.env)) → walk_of ts mid ≡ all_bound w (map grouped_view h.params.items) (inside (walk_of ts old)) → IsPlain (visible (env_of mid.env))
plain_begun ts h w old mid p e =
    let ps = map grouped_view h.params.items in
    let on = all_bound_on w ps (inside (walk_of ts old)) in
    let outer : without_last (visible (env_of mid.env)) ≡ visible (env_of old.env) = ap (λ (v : Walk). without_last v.scopes) e ∙ on.outer_kept ∙ without_append (visible (env_of old.env)) [] in
    plain_longer (visible (env_of mid.env)) (visible (env_of old.env)) outer p

-- ---- what comes of a function

abbrev around_with : Option Tys → List Place → Around → Around
around_with rs ls a = record a { results = rs; wrong_labels = ls }

pub around_same : (ts : List Ty) (h : Head) (rs : Option (Bor (List TypeId))) (ls : List Place) (t : TypeTable) → Keeps t ts → ls ≡ [] → IfSome h.sig (SigFoundBelow (size t))
    → ((us : List Ty) → results_of us rs ≡ results_typed (option_map (sig_found us) h.sig)) → around_with (results_of (places t) rs) ls (around_head (head_view ts h)) ≡ around_head (head_view ts h)
around_same ts h rs ls t k none b e =
    ap (λ (x : Option Tys). around_with x ls (around_head (head_view ts h))) (e (places t) ∙ sym (ap results_typed (sig_kept t ts h.sig k b)))
    ∙ ap (λ (x : List Place). around_with (results_typed (option_map (sig_found ts) h.sig)) x (around_head (head_view ts h))) none

-- ls: where labels stand that have a fault, of which none is known yet
module _ (w : Walk) (h : Head) (rs : Option (Bor (List TypeId))) (ls : List Place) (old mid new last : code.Walk) (before after : List Flaw) (out : List CoreStmt) (f : Func) where
  abbrev around_here : Around
  around_here = record { results = results_of (types_of mid.env) rs; named_results = h.named_results; targets = []; label = None; wrong_labels = ls; too_far = h.too_far }

  pub function_done : ls ≡ [] → visible (env_of old.env) ≡ w.scopes → IsReady (table_of old.env) w h
      → ((ts : List Ty) → Keeps (table_of old.env) ts → walk_of ts mid ≡ all_bound w (map grouped_view h.params.items) (inside (walk_of ts old))) → table_of mid.env ≡ table_of old.env
      → ((ts : List Ty) → results_of ts rs ≡ results_typed (option_map (sig_found ts) h.sig)) → Does (function_body (block_view h.body.now) around_here) mid new before after [] out
      → ((ts : List Ty) (d : Did) → map (stmt_view ts) out ≡ d.core → walk_of ts new ≡ d.walk → func_view ts f ≡ function_with (head_view ts h) d)
      → visible (env_of last.env) ≡ without_last (visible (env_of new.env)) → table_of last.env ≡ table_of new.env → last.next ≡ new.next → FunctionDone w old h last before after f
  function_done none outside ready begun same_mid results does func closed same_last same_next = record {
    told = λ ts q. (done ts q).told;
    func = λ ts q. func ts (body_by w (now_of old) (head_view ts h)) (done ts q).core (done ts q).walk;
    next = λ ts q. next_is ts (body_by w (now_of old) (head_view ts h)) new last (done ts q).walk same_last same_next;
    scopes = scopes_left trees w (now_of old) (head_view trees h) new last (done trees (λ i l. refl)).walk closed;
    kept = subst (KeepsTrees (table_of old.env)) (sym same_last) (subst (λ (t : TypeTable). KeepsTrees t (table_of new.env)) same_mid does.kept);
    counts = subst (λ (t : TypeTable). size (table_of old.env) ≤ size t) (sym same_last) (subst (λ (t : TypeTable). size t ≤ size (table_of new.env)) same_mid does.counts);
  }
    where
      trees : List Ty
      trees = types_of last.env

      keeps_mid : (ts : List Ty) → Keeps (table_of last.env) ts → Keeps (table_of mid.env) ts
      keeps_mid ts q = keeps_past (table_of mid.env) (table_of new.env) ts does.kept does.counts (subst (λ (t : TypeTable). Keeps t ts) same_last q)

      keeps_old : (ts : List Ty) → Keeps (table_of last.env) ts → Keeps (table_of old.env) ts
      keeps_old ts q = subst (λ (t : TypeTable). Keeps t ts) same_mid (keeps_mid ts q)

      done : (ts : List Ty) → Keeps (table_of last.env) ts → BodyDone ts (body_by w (now_of old) (head_view ts h)) new before after out
      done ts q =
          body_done ts w (now_of old) h around_here mid new before after out (begun ts (keeps_old ts q) ∙ ap (all_bound w (map grouped_view h.params.items)) (inside_same ts w old outside))
          (around_same ts h rs ls (table_of mid.env) (keeps_mid ts q) none (subst (λ (t : TypeTable). IfSome h.sig (SigFoundBelow (size t))) (sym same_mid) ready.sig) results) (subst (λ (t : TypeTable). Keeps t ts) same_last q) does

-- The functions that are left, the next of them last.
use Rattle.std.proofs.Common.{arith, ◌≡◌, ◌<◌, ◌≤◌, ◌∙◌, ℕ, refl, sym, ap, subst, List, [], ◌∷◌, ◌++◌}
use Rattle.std.proofs.lemmas.List.{reverse-append}
use Rattle.std.specs.Prelude.{Option, Some, None, IfSome, reverse}
use Rattle.go_type.specs.Levels.{IdsBelow}
use Rattle.go_type.specs.Table.{size, KeepsTrees}
use Rattle.go_type.specs.declared.types.TypeId.{TypeId}
use Rattle.go_type.specs.declared.table.TypeTable.{TypeTable}
use Rattle.go_core.specs.declared.program.Func.{Func}
use Rattle.go_typing.specs.Scopes.{visible}
use Rattle.go_operands.specs.EnvView.{table_of, env_of}
use Rattle.go_operands.specs.declared.answers.answer.Flaw.{Flaw}
use Rattle.go_typing.specs.Walk.{Walk}
use Rattle.go_decls.specs.Bound.{TypesBelow}
use Rattle.go_decls.specs.SigView.{SigFoundBelow}
use Rattle.go_decls.specs.declared.signatures.signature.SigTypes.{SigTypes}
use Rattle.go_walk.specs.WalkView.{walk_outside}
use Rattle.go_walk.specs.declared.walk.walk.Walk as code
use Rattle.go_body.specs.Plain.{IsPlain}
use Rattle.go_decls.specs.HeadView.{IsReady, AreReady}
use Rattle.go_decls.specs.declared.heads.head.Head.{Head}
use Rattle.go_stmt.specs.Done.{FunctionDone, FunctionsLeft}
use Rattle.go_stmt.specs.Start.{CanStart}
use Rattle.go_stmt.proofs.DoneLemmas.{keeps_past, functions_first, functions_step}

-- ---- what a table has stays in it

types_stay : (m n : ℕ) (us : List (Option TypeId)) → m ≤ n → TypesBelow m us → TypesBelow n us
types_stay m n [] h l = tt
types_stay m n (None ∷ us) h l = (tt, types_stay m n us h l.1)
types_stay m n (Some i ∷ us) h l = (let k : i.0 < m = l.0 in omega (arith, h, k), types_stay m n us h l.1)

ids_stay : (m n : ℕ) (is : List TypeId) → m ≤ n → IdsBelow m is → IdsBelow n is
ids_stay m n [] h l = tt
ids_stay m n (i ∷ is) h l = (let k : i.0 < m = l.0 in omega (arith, h, k), ids_stay m n is h l.1)

sig_stays : (m n : ℕ) (o : Option SigTypes) → m ≤ n → IfSome o (SigFoundBelow m) → IfSome o (SigFoundBelow n)
sig_stays m n None h l = tt
sig_stays m n (Some s) h l = (ids_stay m n s.params.items h l.0, ids_stay m n s.results.items h l.1)

ready_stays : (a b : TypeTable) (w : Walk) (h : Head) → KeepsTrees a b → size a ≤ size b → IsReady a w h → IsReady b w h
ready_stays a b w h k n r = record {
  count = r.count;
  types = types_stay (size a) (size b) h.types.items n r.types;
  sig = sig_stays (size a) (size b) h.sig n r.sig;
  each = λ ts q. r.each ts (keeps_past a b ts k n q);
}

all_stay : (a b : TypeTable) (w : Walk) (hs : List Head) → KeepsTrees a b → size a ≤ size b → AreReady a w hs → AreReady b w hs
all_stay a b w [] k n l = tt
all_stay a b w (h ∷ hs) k n l = (ready_stays a b w h k n l.0, all_stay a b w hs k n l.1)

-- ---- the last one

front_ready : (t : TypeTable) (w : Walk) (hs : List Head) (h : Head) → AreReady t w (hs ++ h ∷ []) → AreReady t w hs
front_ready t w [] h l = tt
front_ready t w (g ∷ hs) h l = (l.0, front_ready t w hs h l.1)

last_ready : (t : TypeTable) (w : Walk) (hs : List Head) (h : Head) → AreReady t w (hs ++ h ∷ []) → IsReady t w h
last_ready t w [] h l = l.0
last_ready t w (g ∷ hs) h l = last_ready t w hs h l.1

and_ready : (t : TypeTable) (w : Walk) (hs : List Head) (h : Head) → AreReady t w hs → IsReady t w h → AreReady t w (hs ++ h ∷ [])
and_ready t w [] h l r = (r, tt)
and_ready t w (g ∷ hs) h l r = (l.0, and_ready t w hs h l.1 r)

pub turned_ready : (t : TypeTable) (w : Walk) (hs : List Head) → AreReady t w hs → AreReady t w (reverse hs)
turned_ready t w [] l = tt
turned_ready t w (h ∷ hs) l = subst (AreReady t w) (sym (reverse-append (h ∷ []) hs)) (and_ready t w (reverse hs) h (turned_ready t w hs l.1) l.0)

-- ---- one after the other

-- all: those that there were, the first of them last
pub record Left (w : Walk) (first : code.Walk) (all waiting : List Head) (now : code.Walk) (before after : List Flaw) (done : List Func) : Type 0 where
  pub left : FunctionsLeft w first (reverse waiting) (reverse all) now before after done
  pub ready : AreReady (table_of now.env) w waiting

pub left_first : (v : code.Walk) (all : List Head) (fs : List Flaw) (done : List Func) → AreReady (table_of v.env) (walk_outside v.env) all → done ≡ [] → Left (walk_outside v.env) v all all v fs fs done
left_first v all fs done l e = record { left = subst (FunctionsLeft (walk_outside v.env) v (reverse all) (reverse all) v fs fs) (sym e) (functions_first (walk_outside v.env) (reverse all) v fs refl); ready = l }

module _ (w : Walk) (first : code.Walk) (all some left : List Head) (h : Head) (old : code.Walk) (before after : List Flaw) (done : List Func) where
  pub can_start : Left w first all some old before after done → some ≡ left ++ h ∷ [] → IsPlain (visible (env_of first.env)) → visible (env_of first.env) ≡ w.scopes → CanStart old h
  can_start l e p o = record {
    outside = w;
    ready = last_ready (table_of old.env) w left h (subst (AreReady (table_of old.env) w) e l.ready);
    scopes = l.left.scopes;
    plain = subst IsPlain (o ∙ sym l.left.scopes) p;
  }

  pub left_next : (new : code.Walk) (now : List Flaw) (more : List Func) (f : Func) → Left w first all some old before after done → some ≡ left ++ h ∷ [] → more ≡ done ++ f ∷ []
      → (visible (env_of old.env) ≡ w.scopes → IsReady (table_of old.env) w h → FunctionDone w old h new after now f) → Left w first all left new before now more
  left_next new now more f l e m d =
      let ready : AreReady (table_of old.env) w (left ++ h ∷ []) = subst (AreReady (table_of old.env) w) e l.ready in
      let one = d l.left.scopes (last_ready (table_of old.env) w left h ready) in
      let here : FunctionsLeft w first (h ∷ reverse left) (reverse all) old before after done =
      subst (λ (hs : List Head). FunctionsLeft w first hs (reverse all) old before after done) (ap reverse e ∙ reverse-append left (h ∷ [])) l.left in
      record {
        left = subst (FunctionsLeft w first (reverse left) (reverse all) new before now) (sym m) (functions_step w first h (reverse left) (reverse all) old new before after now done f one here);
        ready = all_stay (table_of old.env) (table_of new.env) w left one.kept one.counts (front_ready (table_of old.env) w left h ready);
      }

-- where none is left
pub left_end : (w : Walk) (first : code.Walk) (all left : List Head) (now : code.Walk) (before after : List Flaw) (done : List Func) → Left w first all left now before after done → left ≡ []
    → FunctionsLeft w first [] (reverse all) now before after done
left_end w first all left now before after done l e = subst (λ (hs : List Head). FunctionsLeft w first (reverse hs) (reverse all) now before after done) e l.left

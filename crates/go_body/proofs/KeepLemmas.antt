-- What stays while statements are gone through.
use Rattle.std.proofs.Common.{arith, ◌≡◌, ◌<◌, ◌≤◌, ◌+◌, ◌∙◌, ℕ, refl, sym, ap, subst, List, [], ◌∷◌, ◌++◌, map, length}
use Rattle.std.specs.Prelude.{Option, Some, None, Bool, option_map, IfSome, codes}
use Rattle.std.specs.Borrow.{Bor}
use Rattle.go_type.specs.Tree.{Ty, Tys, more_tys}
use Rattle.go_type.specs.Levels.{tree_of, trees_of, IdsBelow}
use Rattle.go_type.specs.Table.{places, size, KeepsTrees}
use Rattle.go_type.specs.declared.types.TypeId.{TypeId}
use Rattle.go_type.specs.declared.table.TypeTable.{TypeTable}
use Rattle.go_core.specs.declared.statement.CoreStmt.{CoreStmt}
use Rattle.go_typing.specs.Env.{Bind, find}
use Rattle.go_typing.specs.Scopes as scopes
use Rattle.go_typing.specs.Scopes.{visible, without_last}
use Rattle.go_operands.specs.EnvView.{table_of, env_of}
use Rattle.go_calls.specs.Words.{types_of, scopes_of}
use Rattle.go_operands.specs.declared.answers.answer.Flaw.{Flaw}
use Rattle.go_typing.specs.Walk as go
use Rattle.go_typing.specs.Walk.{Did, pushed}
use Rattle.go_walk.specs.WalkView.{walk_of, depth, Keeps}
use Rattle.go_walk.specs.declared.walk.walk.Walk.{Walk}
use Rattle.go_body.specs.Plain.{IsPlain}
use Rattle.go_assign.specs.Outcome.{Does}
use Rattle.go_define.specs.AroundView.{ResultsBelow, results_of, around_of}
use Rattle.go_define.specs.declared.simple.around.Around.{Around}
use Rattle.go_assign.specs.Passed.{Passes}
use Rattle.go_sound.specs.GoesOn.{GoesOn}
use Rattle.go_body.specs.Bodies.{Ready}

-- ---- a table that grows

pub keeps_back : (a b : TypeTable) → KeepsTrees a b → size a ≤ size b → (ts : List Ty) → Keeps b ts → Keeps a ts
keeps_back a b k s ts h = λ i l. h i (below i l) ∙ k i l
  where
    below : (i : TypeId) → i.0 < size a → i.0 < size b
    below i l = omega (arith, s, l)

ids_more : (n m : ℕ) → n ≤ m → (is : List TypeId) → IdsBelow n is → IdsBelow m is
ids_more n m h [] l = tt
ids_more n m h (i ∷ is) l = (let k = l.0 in omega (arith, h, k), ids_more n m h is l.1)

pub results_more : (n m : ℕ) → n ≤ m → (o : Option (Bor (List TypeId))) → ResultsBelow n o → ResultsBelow m o
results_more n m h None l = tt
results_more n m h (Some is) l = ids_more n m h is.now l

ids_same : (s t : TypeTable) → KeepsTrees s t → (is : List TypeId) → IdsBelow (size s) is → trees_of (places t) is ≡ trees_of (places s) is
ids_same s t k [] l = refl
ids_same s t k (i ∷ is) l = ap (λ (u : Ty). more_tys u (trees_of (places t) is)) (k i l.0) ∙ ap (more_tys (tree_of (places s) i)) (ids_same s t k is l.1)

results_same : (s t : TypeTable) → KeepsTrees s t → (o : Option (Bor (List TypeId))) → ResultsBelow (size s) o → results_of (places t) o ≡ results_of (places s) o
results_same s t k None l = refl
results_same s t k (Some is) l = ap (λ (us : Tys). Some us) (ids_same s t k is.now l)

abbrev around_with : Around → List go.Target → Option (List ℕ) → Option Tys → go.Around
around_with ar gs label rs = record { results = rs; named_results = ar.named; targets = gs; label = label; wrong_labels = ar.wrong_labels.now; too_far = ar.too_far }

pub around_same : (s t : TypeTable) (ar : Around) (gs : List go.Target) (label : Option (List ℕ)) → KeepsTrees s t → ResultsBelow (size s) ar.results → around_of (places t) ar gs label ≡ around_of (places s) ar gs label
around_same s t ar gs label k l = ap (around_with ar gs label) (results_same s t k ar.results l)

pub tag_same : (s t : TypeTable) (o : Option TypeId) → KeepsTrees s t → IfSome o (λ i. i.0 < size s) → option_map (tree_of (places t)) o ≡ option_map (tree_of (places s)) o
tag_same s t None k l = refl
tag_same s t (Some i) k l = ap (λ (u : Ty). Some u) (k i l)

pub tag_more : (s t : TypeTable) (o : Option TypeId) → size s ≤ size t → IfSome o (λ i. i.0 < size s) → IfSome o (λ i. i.0 < size t)
tag_more s t None h l = tt
tag_more s t (Some i) h l = omega (arith, h, l)

-- ---- what is around a statement, in the table before

module _ (ar : Around) (x : Walk) where
  pub does_before : (d : go.Around → go.Walk → Did) (gs hs : List go.Target) (label : Option (List ℕ)) (a b : Walk) (f0 f1 : List Flaw) (o0 o1 : List CoreStmt) → Ready ar x → KeepsTrees (table_of x.env) (table_of a.env) → hs ≡ gs
      → Does (d (around_of (types_of a.env) ar hs label)) a b f0 f1 o0 o1 → Does (d (around_of (types_of x.env) ar gs label)) a b f0 f1 o0 o1
  does_before d gs hs label a b f0 f1 o0 o1 r k p h =
      subst (λ (v : go.Around). Does (d v) a b f0 f1 o0 o1) (ap (λ (qs : List go.Target). around_of (types_of a.env) ar qs label) p ∙ around_same (table_of x.env) (table_of a.env) ar gs label k r.results) h

-- ---- scopes

plain_goes : (vs : List (List Bind)) (outer next : List Bind) (others : List (List Bind)) → without_last vs ≡ without_last (outer ∷ next ∷ others) → find (codes "iota") outer ≡ None → IsPlain vs
plain_goes [] outer next others h p = absurd (cc)
plain_goes (v ∷ []) outer next others h p = absurd (cc)
plain_goes (v ∷ r ∷ vs) outer next others h p = record {
  outer = v;
  next = r;
  others = vs;
  is = refl;
  plain = let e : v ≡ outer = cc in ap (find (codes "iota")) e ∙ p;
}

pub plain_on : (ss vs : List (List Bind)) → IsPlain ss → without_last vs ≡ without_last ss → IsPlain vs
plain_on ss vs h e = plain_goes vs h.outer h.next h.others (e ∙ ap without_last h.is) h.plain

plain_more : (ss : List (List Bind)) (outer next : List Bind) (others : List (List Bind)) (s : List Bind) → ss ≡ outer ∷ next ∷ others → find (codes "iota") outer ≡ None → IsPlain (ss ++ s ∷ [])
plain_more ss outer next others s e p = record { outer = outer; next = next; others = others ++ s ∷ []; is = ap (λ (x : List (List Bind)). x ++ s ∷ []) e; plain = p }

-- ---- a walk that is ready

module _ (ar : Around) where
  pub ready_pushed : (a b : Walk) → ((ts : List Ty) → walk_of ts b ≡ pushed (walk_of ts a)) → depth b ≡ depth a + 1 → table_of b.env ≡ table_of a.env → Ready ar a → Ready ar b
  ready_pushed a b w d t r = record {
    depth = let x = r.depth in omega (arith, d, x);
    plain = subst IsPlain (sym (ap (λ (v : go.Walk). v.scopes) (w (types_of a.env)))) (plain_more (scopes_of a.env) r.plain.outer r.plain.next r.plain.others [] r.plain.is r.plain.plain);
    results = subst (λ (x : TypeTable). ResultsBelow (size x) ar.results) (sym t) r.results;
  }

  -- an environment that has more types
  pub ready_env : (a b : Walk) → env_of b.env ≡ env_of a.env → size (table_of a.env) ≤ size (table_of b.env) → Ready ar a → Ready ar b
  ready_env a b e c r = record {
    depth = let x = r.depth in let y : depth b ≡ depth a = ap (λ (v : scopes.Env). length v.blocks) e in omega (arith, x, y);
    plain = subst IsPlain (sym (ap visible e)) r.plain;
    results = results_more (size (table_of a.env)) (size (table_of b.env)) c ar.results r.results;
  }

  pub ready_passed : (f : go.Walk → go.Walk) (a b : Walk) → Passes f a b → Ready ar a → Ready ar b
  ready_passed f a b p r = ready_env a b p.env p.counts r

  -- after what changes the innermost scope alone
  pub ready_done : (d : go.Walk → Did) (a b : Walk) (f0 f1 : List Flaw) (o0 o1 : List CoreStmt) → ((w : go.Walk) → GoesOn w (d w).walk) → Does d a b f0 f1 o0 o1 → Ready ar a → Ready ar b
  ready_done d a b f0 f1 o0 o1 g h r = record {
    depth = let x = r.depth in let y = h.depth in omega (arith, x, y);
    plain = plain_on (scopes_of a.env) (scopes_of b.env) r.plain (ap (λ (w : go.Walk). without_last w.scopes) (h.walk (types_of b.env) (λ i l. refl)) ∙ (g (walk_of (types_of b.env) a)).outer_kept);
    results = results_more (size (table_of a.env)) (size (table_of b.env)) h.counts ar.results r.results;
  }

-- where the results are the same
pub ready_other : (a b : Around) (w : Walk) → b.results ≡ a.results → Ready a w → Ready b w
ready_other a b w e r = record { depth = r.depth; plain = r.plain; results = subst (λ (o : Option (Bor (List TypeId))). ResultsBelow (size (table_of w.env)) o) (sym e) r.results }

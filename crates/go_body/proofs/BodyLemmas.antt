-- The body of a function, from what its statements do and what is told of it as a whole.
use Rattle.std.proofs.Common.{arith, ◌≡◌, ◌<◌, ◌+◌, ◌-◌, ◌∙◌, ℕ, suc, get_or, refl, sym, ap, subst, List, [], ◌∷◌, ◌++◌, append_assoc, map, length, Bool, true, false}
use Rattle.std.specs.Prelude.{Option, Some, None, if◌then◌else◌, ◌==◌}
use Rattle.std.specs.Borrow.{Bor}
use Rattle.std.proofs.lemmas.List.{append-nil}
use Rattle.std.proofs.lemmas.Bool.Decides.{nat_tests}
use Rattle.gj_base.specs.declared.place.Place.{Place}
use Rattle.go_syntax.specs.Tree as t
use Rattle.go_syntax.specs.View.{stmt_view, stmts_of, block_view}
use Rattle.go_syntax.specs.declared.tree.Block.{Block, out-Block}
use Rattle.go_syntax.specs.declared.tree.Stmt.{Stmt}
use Rattle.go_type.specs.Tree.{Ty, Tys}
use Rattle.go_type.specs.Levels.{trees_of}
use Rattle.go_type.specs.Table.{places, size}
use Rattle.go_type.specs.declared.types.TypeId.{TypeId}
use Rattle.go_type.specs.declared.table.TypeTable.{TypeTable}
use Rattle.go_core.specs.CoreTree as core
use Rattle.go_core.specs.CoreView as views
use Rattle.go_core.specs.Terminating.{is_terminating, ends_terminating}
use Rattle.go_core.specs.declared.statement.CoreStmt.{CoreStmt}
use Rattle.go_typing.specs.Answer as typing
use Rattle.go_typing.specs.Answer.{flaw}
use Rattle.go_operands.specs.EnvView.{table_of}
use Rattle.go_calls.specs.Words.{types_of}
use Rattle.go_operands.specs.AnswerView.{flaw_view}
use Rattle.go_operands.specs.declared.answers.answer.Flaw.{Flaw}
use Rattle.go_typing.specs.Walk as go
use Rattle.go_typing.specs.Walk.{Did, body, unused}
use Rattle.go_typing.specs.Labels.{labels_told}
use Rattle.go_typing.specs.Statements as statements
use Rattle.go_typing.specs.Statements.{stmts, clause_stmts, missing_return, where_clean, where_whole, whole_told, far_told, flaw_places, with_labels, function_body}
use Rattle.go_walk.specs.WalkView.{walk_of, depth, Keeps}
use Rattle.go_walk.specs.declared.walk.parts.Before.{Before}
use Rattle.go_walk.specs.declared.walk.walk.Walk.{Walk}
use Rattle.go_assign.specs.Outcome.{Does}
use Rattle.go_define.specs.AroundView.{around_of, results_of}
use Rattle.go_define.specs.declared.simple.around.Around.{Around}
use Rattle.go_body.specs.Whole.{missing, if_clean, rest_told}
use Rattle.go_body.proofs.LoopLemmas.{all_stmts}
use Rattle.go_body.proofs.PartLemmas.{body_is}
use Rattle.go_body.proofs.ViewLemmas.{block_whole}
use Rattle.go_body.proofs.ShapeLemmas.{ends_same}

abbrev if_none : Bool → List typing.Flaw → List typing.Flaw
if_none b fs = if b then [] else fs

zero_is : (n : ℕ) → n ≡ 0 → (n == 0) ≡ true
zero_is n h = grind (arith, nat_tests)

some_is : (n : ℕ) → 0 < n → (n == 0) ≡ false
some_is n h = grind (arith, nat_tests)

missing_types : (ts : List Ty) (is : List TypeId) (end : Place) (ss : List core.Stmt) → if_none (length is == 0) (if_none (ends_terminating (body ss)) (flaw end 87 ∷ [])) ≡ missing_return (Some (trees_of ts is)) end ss
missing_types ts [] end ss = ap (λ (b : Bool). if_none b (if_none (ends_terminating (body ss)) (flaw end 87 ∷ []))) (zero_is 0 refl)
missing_types ts (i ∷ is) end ss = ap (λ (b : Bool). if_none b (if_none (ends_terminating (body ss)) (flaw end 87 ∷ []))) (some_is (length (i ∷ is)) (omega arith))

missing_is : (ts : List Ty) (o : Option (Bor (List TypeId))) (end : Place) (ss : List core.Stmt) → missing o end (ends_terminating (body ss)) ≡ missing_return (results_of ts o) end ss
missing_is ts None end ss = refl
missing_is ts (Some is) end ss = missing_types ts is.now end ss

clean_is : (n : ℕ) (fs gs : List typing.Flaw) → if_clean (n + length fs == n) gs ≡ where_clean fs gs
clean_is n [] gs = ap (λ (b : Bool). if_clean b gs) (equal (n + 0) n (omega arith))
  where
    equal : (p q : ℕ) → p ≡ q → (p == q) ≡ true
    equal p q h = grind (arith, nat_tests)
clean_is n (f ∷ fs) gs = ap (λ (b : Bool). if_clean b gs) (unequal (n + length (f ∷ fs)) n (omega arith))
  where
    unequal : (p q : ℕ) → q < p → (p == q) ≡ false
    unequal p q h = grind (arith, nat_tests)

length_view : (fs : List Flaw) → length (map flaw_view fs) ≡ length fs
length_view [] = refl
length_view (f ∷ fs) = ap suc (length_view fs)

length_join : (xs ys : List typing.Flaw) → length (xs ++ ys) ≡ length xs + length ys
length_join [] ys = omega arith
length_join (x ∷ xs) ys = let k = length_join xs ys in omega (arith, k)

four : (x0 d l u w : List typing.Flaw) → (x0 ++ d) ++ (l ++ u ++ w) ≡ x0 ++ (d ++ l ++ u ++ w)
four x0 d l u w =
    append_assoc x0 d (l ++ u ++ w)
    ∙ ap (λ (v : List typing.Flaw). x0 ++ v) (sym (append_assoc d (l ++ u) w) ∙ ap (λ (v : List typing.Flaw). v ++ w) (sym (append_assoc d l u)))

-- ---- where all parts are typed

clean_none : (ps : List typing.Flaw) → where_clean ps [] ≡ []
clean_none [] = refl
clean_none (p ∷ ps) = refl

where_is : (typed : Bool) (ps fs : List typing.Flaw) → where_clean ps (if_clean typed fs) ≡ where_whole typed ps fs
where_is true ps fs = refl
where_is false ps fs = clean_none ps

whole_is : (f0 : List Flaw) (d l u fs : List typing.Flaw) (typed : Bool) → if_clean (length (map flaw_view f0 ++ d ++ l ++ u) == length f0) (if_clean typed fs) ≡ where_whole typed (d ++ l ++ u) fs
whole_is f0 d l u fs typed = ap (λ (n : ℕ). if_clean (n == length f0) (if_clean typed fs)) counted ∙ clean_is (length f0) (d ++ l ++ u) (if_clean typed fs) ∙ where_is typed (d ++ l ++ u) fs
  where
    joined : map flaw_view f0 ++ d ++ l ++ u ≡ map flaw_view f0 ++ (d ++ l ++ u)
    joined = ap (λ (v : List typing.Flaw). v ++ u) (append_assoc (map flaw_view f0) d l) ∙ append_assoc (map flaw_view f0) (d ++ l) u

    counted : length (map flaw_view f0 ++ d ++ l ++ u) ≡ length f0 + length (d ++ l ++ u)
    counted = ap (λ (v : List typing.Flaw). length v) joined ∙ length_join (map flaw_view f0) (d ++ l ++ u) ∙ ap (λ (n : ℕ). n + length (d ++ l ++ u)) (length_view f0)

-- ---- the statements

pub stmts_does : (ar : Around) (b : Block) (xs : List Stmt) (gs : List go.Target) (none : List CoreStmt) (a n : Walk) (f0 f1 : List Flaw) (out : List CoreStmt) → xs ≡ (out-Block b).stmts.items → gs ≡ [] → none ≡ []
    → Does (clause_stmts false (stmts_of (map stmt_view xs)) (around_of (types_of a.env) ar gs None)) a n f0 f1 none out → Does (stmts (stmts_of (map stmt_view (out-Block b).stmts.items)) (around_of (types_of a.env) ar [] None)) a n f0 f1 [] out
stmts_does ar b xs gs none a n f0 f1 out ex eg en h0 =
    let at = around_of (types_of a.env) ar [] None in
    let ss = stmts_of (map stmt_view (out-Block b).stmts.items) in
    let h1 : Does (clause_stmts false (stmts_of (map stmt_view xs)) (around_of (types_of a.env) ar gs None)) a n f0 f1 [] out = subst (λ (o : List CoreStmt). Does (clause_stmts false (stmts_of (map stmt_view xs)) (around_of (types_of a.env) ar gs None)) a n f0 f1 o out) en h0 in
    let h2 : Does (clause_stmts false (stmts_of (map stmt_view xs)) at) a n f0 f1 [] out = subst (λ (hs : List go.Target). Does (clause_stmts false (stmts_of (map stmt_view xs)) (around_of (types_of a.env) ar hs None)) a n f0 f1 [] out) eg h1 in
    let h : Does (clause_stmts false ss at) a n f0 f1 [] out = subst (λ (zs : List Stmt). Does (clause_stmts false (stmts_of (map stmt_view zs)) at) a n f0 f1 [] out) ex h2 in
    subst (λ (d : go.Walk → Did). Does d a n f0 f1 [] out) (all_stmts ss at) h

-- what is around them, with the labels that have a fault
inside_is : (ts : List Ty) (ar inside : Around) (b : t.Block) → inside.results ≡ ar.results → inside.named ≡ ar.named → inside.too_far ≡ ar.too_far → inside.wrong_labels.now ≡ flaw_places (labels_told b) → around_of ts inside [] None ≡ with_labels b (around_of ts ar [] None)
inside_is ts ar inside b er en et ew = λ j. record { results = results_of ts (er j); named_results = en j; targets = []; label = None; wrong_labels = ew j; too_far = et j }

-- ---- the body

pub body_does : (ar inside : Around) (b : Block) (before : Before) (labels : List Flaw) (a n : Walk) (f0 f1 f2 : List Flaw) (out zs : List CoreStmt) (ends : Bool) → zs ≡ out → ends ≡ ends_terminating (views.stmts_of (map (views.stmt_view (types_of n.env)) zs)) → before.flaws ≡ length f0 → before.lost ≡ a.lost
    → inside.results ≡ ar.results → inside.named ≡ ar.named → inside.too_far ≡ ar.too_far → inside.wrong_labels.now ≡ flaw_places (map flaw_view labels) → map flaw_view labels ≡ labels_told (block_view b)
    → Does (stmts (stmts_of (map stmt_view (out-Block b).stmts.items)) (around_of (types_of a.env) inside [] None)) a n f0 f1 [] out
    → map flaw_view f2 ≡ map flaw_view f1 ++ rest_told ar (out-Block b).end before (map flaw_view f1) (map flaw_view labels) n ends → Does (function_body (block_view b) (around_of (types_of a.env) ar [] None)) a n f0 f2 [] out
body_does ar inside b before labels a n f0 f1 f2 out zs end_is ez ee p q er en et ew el h k =
    let at = around_of (types_of a.env) ar [] None in
    let ss = stmts_of (map stmt_view (out-Block b).stmts.items) in
    let end = (out-Block b).end in
    let whole = t.BlockOf (out-Block b).place ss end in
    let told_labels : map flaw_view labels ≡ labels_told whole = el ∙ ap labels_told (block_whole b) in
    let around_is : around_of (types_of a.env) inside [] None ≡ with_labels whole at = inside_is (types_of a.env) ar inside whole er en et (ew ∙ ap flaw_places told_labels) in
    let g : Does (stmts ss (with_labels whole at)) a n f0 f1 [] out = subst (λ (v : go.Around). Does (stmts ss v) a n f0 f1 [] out) around_is h in
    subst (λ (x : t.Block). Does (function_body x at) a n f0 f2 [] out) (sym (block_whole b)) (record {
      told = λ ts l.
          let d = stmts ss (with_labels whole at) (walk_of ts a) in
          let us = unused d.walk.declared d.walk.used in
          let typed = d.walk.lost == a.lost in
          let ends : end_is ≡ ends_terminating (body d.core) = ee ∙ ap (λ (os : List CoreStmt). ends_terminating (views.stmts_of (map (views.stmt_view (types_of n.env)) os))) ez ∙ ends_same (types_of n.env) ts out ∙ ap ends_terminating (ap views.stmts_of (g.core ts l) ∙ sym (body_is d.core)) in
          let missed : missing ar.results end end_is ≡ missing_return at.results end d.core = ap (missing ar.results end) ends ∙ missing_is (types_of a.env) ar.results end d.core in
          k
          ∙ (λ j. map flaw_view f1 ++ (told_labels j ++ unused (g.walk ts l j).declared (g.walk ts l j).used
          ++ if_clean (length (map flaw_view f1 ++ told_labels j ++ unused (g.walk ts l j).declared (g.walk ts l j).used) == p j) (if_clean ((g.walk ts l j).lost == q j) (missed j ++ where_clean (missed j) (far_told ar.too_far)))))
          ∙ (λ j. g.told ts l j ++ (labels_told whole ++ us ++ if_clean (length (g.told ts l j ++ labels_told whole ++ us) == length f0) (if_clean typed (whole_told at end d.core))))
          ∙ ap (λ (fs : List typing.Flaw). (map flaw_view f0 ++ d.flaws) ++ (labels_told whole ++ us ++ fs)) (whole_is f0 d.flaws (labels_told whole) us (whole_told at end d.core) typed)
          ∙ four (map flaw_view f0) d.flaws (labels_told whole) us (where_whole typed (d.flaws ++ labels_told whole ++ us) (whole_told at end d.core));
      core = g.core;
      walk = g.walk;
      depth = g.depth;
      kept = g.kept;
      counts = g.counts;
    })

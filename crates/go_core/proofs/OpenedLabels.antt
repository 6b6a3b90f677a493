-- Looking for a label passes over what is opened of statements inside the label's own.
use Rattle.std.proofs.Common.{inl, inr, refl, sym, ◌∙◌, subst, arith}
use Rattle.std.specs.Prelude.{◌≡◌, ◌⊎◌, ℕ, zero, suc, ◌==◌, List, [], ◌∷◌, Bool, true, false, if◌then◌else◌, Option, Contains}
use Rattle.std.proofs.lemmas.Bool.{eqb-true, eq-eqb}
use Rattle.go_type.specs.Tree.{Ty}
use Rattle.go_core.specs.CoreTree as core
use Rattle.go_core.specs.CoreTree.{Var, Bound, no_bound, bound, Stmt, Stmts, no_stmts, stmt, Tests, no_tests, test, Clauses, no_clauses, clause, CoreProgram}
use Rattle.go_core.specs.SoundNode.{Around, with_var, with_break, with_loop}
use Rattle.go_core.specs.Sound.{SoundStmt, SoundStmts, SoundClauses, IsNew, after_stmt}
use Rattle.go_core.specs.Operator as operator
use Rattle.go_core.specs.Opened.{all_opened, opened, loop_opened, tests_opened, clause_opened, cases_of, cases_count, all_evaluated, evaluated, called_of, call_count, values_of}
use Rattle.go_core.specs.Control.{left, continued}
use Rattle.go_core.specs.Goroutine as task
use Rattle.go_core.specs.Goroutine.{Task, leave}
use Rattle.go_core.specs.Applies.{Slot}
use Rattle.go_core.specs.Typed.{World}
use Rattle.go_core.specs.TasksTyped.{TasksTyped, LabelsTyped, labels_typed}
use Rattle.go_core.proofs.OpenedSkips as skips
use Rattle.go_core.proofs.OpenedSkips.{is_mark}

module _ (p : CoreProgram) (S : List Task → List Task) (sk : (t : Task) (ts : List Task) → is_mark t ≡ false → S (t ∷ ts) ≡ S ts)
    (Inside : Around → Type 0) (Fine : ℕ → Type 0) (lv : (label : ℕ) (ts : List Task) → Fine label → S (leave label ∷ ts) ≡ S ts)
    (in_break : (label : ℕ) (a : Around) → Inside a → Inside (with_break label a)) (in_var : (v : Var) (a : Around) → Inside a → Inside (with_var v a))
    (fine : (label : ℕ) (a : Around) → Inside a → IsNew label a → Fine label) where
  in_after : (s : Stmt) (a : Around) → Inside a → Inside (after_stmt s a)
  in_after (core.declare v) a i = in_var v a i
  in_after _ a i = i

  pub te : (ts : Tests) (cs : Clauses) (d : Option ℕ) (rest : List Task) → S (tests_opened ts cs d rest) ≡ S rest
  te no_tests cs d rest = sk (task.choose_default cs d) rest refl
  te (test e n ts) cs d rest = skips.ev S sk e (task.choose_clause n ts cs d ∷ rest) ∙ sk (task.choose_clause n ts cs d) rest refl

  pub lp : (label : ℕ) (c : Bound) (body post : Stmts) (rest : List Task) → S (loop_opened label c body post rest) ≡ S rest
  lp label no_bound body post rest = sk (task.turn label no_bound body post) rest refl
  lp label (bound e) body post rest = skips.ev S sk e (task.turn label (bound e) body post ∷ rest) ∙ sk (task.turn label (bound e) body post) rest refl

  mutual
    pub op : (s : Stmt) (a : Around) (rest : List Task) → SoundStmt p a s → Inside a → S (opened s rest) ≡ S rest
    op (core.sequence ss) a rest h i = ao ss a rest h i
    op (core.perform e n) a rest h i = skips.ev S sk e (task.drop_values n ∷ rest) ∙ sk (task.drop_values n) rest refl
    op (core.declare v) a rest h i = sk (task.declare_var v) rest refl
    op (core.store ts es) a rest h i =
        skips.tgs S sk ts (all_evaluated es (task.assign ts (values_of es) ∷ rest)) ∙ (skips.exs S sk es (task.assign ts (values_of es) ∷ rest) ∙ sk (task.assign ts (values_of es)) rest refl)
    op (core.map_delete t e key) a rest h i =
        skips.ev S sk e (evaluated key (task.operate (operator.delete_entry t) 2 ∷ rest)) ∙ (skips.ev S sk key (task.operate (operator.delete_entry t) 2 ∷ rest) ∙ sk (task.operate (operator.delete_entry t) 2) rest refl)
    op (core.if_ e x y) a rest h i = skips.ev S sk e (task.choose x y ∷ rest) ∙ sk (task.choose x y) rest refl
    op (core.loop label c body post) a rest h i = lp label c body post rest
    op (core.switch_on label ts cs d) a rest h i = te ts cs d (leave label ∷ rest) ∙ lv label rest (fine label a i h.0)
    op (core.range_over label from e key value body) a rest h i =
        let r = task.begin_range (record { label = label; from = from; key = key; value = value; body = body }) in skips.ev S sk e (r ∷ rest) ∙ sk r rest refl
    op (core.labeled label body) a rest h i = ao body (with_break label a) (leave label ∷ rest) h.1 (in_break label a i) ∙ lv label rest (fine label a i h.0)
    op (core.branch kind label) a rest h i = sk (task.branch_to kind label) rest refl
    op (core.send t e v) a rest h i = skips.ev S sk e (evaluated v (task.send_to t ∷ rest)) ∙ (skips.ev S sk v (task.send_to t ∷ rest) ∙ sk (task.send_to t) rest refl)
    op (core.close_ e) a rest h i = skips.ev S sk e (task.close_channel ∷ rest) ∙ sk task.close_channel rest refl
    op (core.select_step label cases has_default body) a rest h i =
        let t = task.select_from label (cases_of cases) (cases_count cases) has_default body in
        skips.cf S sk cases (t ∷ leave label ∷ rest) ∙ (sk t (leave label ∷ rest) refl ∙ lv label rest (fine label a i h.0))
    op (core.gate_take e) a rest h i = skips.ev S sk e (task.take_gate ∷ rest) ∙ sk task.take_gate rest refl
    op (core.gate_await e) a rest h i = skips.ev S sk e (task.await_gate ∷ rest) ∙ sk task.await_gate rest refl
    op core.yield_ a rest h i = sk task.yield_turn rest refl
    op (core.go_call c es) a rest h i =
        let t = task.go_with (called_of c) (call_count c es) in skips.ca S sk c (all_evaluated es (t ∷ rest)) ∙ (skips.exs S sk es (t ∷ rest) ∙ sk t rest refl)
    op (core.defer_call c es) a rest h i =
        let t = task.defer_with (called_of c) (call_count c es) in skips.ca S sk c (all_evaluated es (t ∷ rest)) ∙ (skips.exs S sk es (t ∷ rest) ∙ sk t rest refl)
    op (core.return_ es) a rest h i = skips.exs S sk es (task.return_with (values_of es) ∷ rest) ∙ sk (task.return_with (values_of es)) rest refl
    op (core.panic_ e) a rest h i = skips.ev S sk e (task.panic_with ∷ rest) ∙ sk task.panic_with rest refl
    op (core.print es ends_line) a rest h i = skips.exs S sk es (task.print_values (values_of es) ends_line ∷ rest) ∙ sk (task.print_values (values_of es) ends_line) rest refl
    op (core.exit_ e) a rest h i = skips.ev S sk e (task.exit_with ∷ rest) ∙ sk task.exit_with rest refl
    op (core.fatal_ e) a rest h i = skips.ev S sk e (task.fatal_with ∷ rest) ∙ sk task.fatal_with rest refl

    pub ao : (ss : Stmts) (a : Around) (rest : List Task) → SoundStmts p a ss → Inside a → S (all_opened ss rest) ≡ S rest
    ao no_stmts a rest h i = refl
    ao (stmt s ss) a rest h i = op s a (all_opened ss rest) h.0 i ∙ ao ss (after_stmt s a) rest h.1 (in_after s a i)

  pub cl : (cs : Clauses) (n : ℕ) (a : Around) (rest : List Task) → SoundClauses p a cs → Inside a → S (clause_opened cs n rest) ≡ S rest
  cl no_clauses n a rest h i = refl
  cl (clause body falls cs) (suc n) a rest h i = cl cs n a rest h.1 i
  cl (clause body true cs) zero a rest h i = ao body a (clause_opened cs zero rest) h.0 i ∙ cl cs zero a rest h.1 i
  cl (clause body false cs) zero a rest h i = ao body a rest h.0 i

-- ---- both ways of looking

left_skips : (l : ℕ) (t : Task) (ts : List Task) → is_mark t ≡ false → left l (t ∷ ts) ≡ left l ts
left_skips l (task.leave label) ts e = absurd (cc)
left_skips l (task.turn_again label c body post) ts e = absurd (cc)
left_skips l (task.next_range r c) ts e = absurd (cc)
left_skips l _ ts e = refl

continued_skips : (l : ℕ) (t : Task) (ts : List Task) → is_mark t ≡ false → continued l (t ∷ ts) ≡ continued l ts
continued_skips l (task.leave label) ts e = absurd (cc)
continued_skips l (task.turn_again label c body post) ts e = absurd (cc)
continued_skips l (task.next_range r c) ts e = absurd (cc)
continued_skips l _ ts e = refl

by_other : (label l : ℕ) (ts : List Task) → (label ≡ l → ⊥) → (b : Bool) → (label == l) ≡ b → (if b then ts else left l ts) ≡ left l ts
by_other label l ts n true e = absurd (n (eqb-true label l e))
by_other label l ts n false e = refl

left_over : (l label : ℕ) (ts : List Task) → (label ≡ l → ⊥) → left l (leave label ∷ ts) ≡ left l ts
left_over l label ts n = by_other label l ts n (label == l) refl

pub contains_more : (x : ℕ) (xs : List ℕ) (l : ℕ) → Contains xs l → Contains (x ∷ xs) l
contains_more x xs l (k, lt, e) = (suc k, omega arith, e)

pub contains_split : (x : ℕ) (xs : List ℕ) (l : ℕ) → Contains (x ∷ xs) l → (x ≡ l) ⊎ Contains xs l
contains_split x xs l (zero, lt, e) = inl e
contains_split x xs l (suc k, lt, e) = inr (k, omega arith, e)

module _ (p : CoreProgram) (l : ℕ) where
  is_new : (label : ℕ) (a : Around) → Contains a.breaks l → IsNew label a → label ≡ l → ⊥
  is_new label a i n e = n (subst (λ x. Contains a.breaks x) (sym e) i)

  pub left_all : (ss : Stmts) (a : Around) (rest : List Task) → SoundStmts p a ss → Contains a.breaks l → left l (all_opened ss rest) ≡ left l rest
  left_all = ao p (left l) (left_skips l) (λ a. Contains a.breaks l) (λ label. label ≡ l → ⊥) (left_over l) (λ label a i. contains_more label a.breaks l i) (λ v a i. i) is_new

  pub left_clauses : (cs : Clauses) (n : ℕ) (a : Around) (rest : List Task) → SoundClauses p a cs → Contains a.breaks l → left l (clause_opened cs n rest) ≡ left l rest
  left_clauses = cl p (left l) (left_skips l) (λ a. Contains a.breaks l) (λ label. label ≡ l → ⊥) (left_over l) (λ label a i. contains_more label a.breaks l i) (λ v a i. i) is_new

  pub left_loop : (label : ℕ) (c : Bound) (body post : Stmts) (rest : List Task) → left l (loop_opened label c body post rest) ≡ left l rest
  left_loop = lp p (left l) (left_skips l) (λ a. Contains a.breaks l) (λ label. label ≡ l → ⊥) (left_over l) (λ label a i. contains_more label a.breaks l i) (λ v a i. i) is_new

  pub continued_loop : (label : ℕ) (c : Bound) (body post : Stmts) (rest : List Task) → continued l (loop_opened label c body post rest) ≡ continued l rest
  continued_loop = lp p (continued l) (continued_skips l) (λ a. Unit {0}) (λ label. Unit {0}) (λ label ts f. refl) (λ label a i. tt) (λ v a i. tt) (λ label a i n. tt)

  pub continued_all : (ss : Stmts) (a : Around) (rest : List Task) → SoundStmts p a ss → continued l (all_opened ss rest) ≡ continued l rest
  continued_all ss a rest h = ao p (continued l) (continued_skips l) (λ a. Unit {0}) (λ label. Unit {0}) (λ label ts f. refl) (λ label a i. tt) (λ v a i. tt) (λ label a i n. tt) ss a rest h tt

  pub continued_clauses : (cs : Clauses) (n : ℕ) (a : Around) (rest : List Task) → SoundClauses p a cs → continued l (clause_opened cs n rest) ≡ continued l rest
  continued_clauses cs n a rest h = cl p (continued l) (continued_skips l) (λ a. Unit {0}) (λ label. Unit {0}) (λ label ts f. refl) (λ label a i. tt) (λ v a i. tt) (λ label a i n. tt) cs n a rest h tt

-- ---- labels, typed, over what is opened

module _ (p : CoreProgram) (w : World) (results : List Ty) where
  abbrev T : List ℕ → List Slot → List Task → Type 0
  T had st ts = TasksTyped p w results had st ts

  pub left_is : (had : List ℕ) (a : Around) (ts : List Task) → LabelsTyped p w results had a ts → (l : ℕ) → Contains a.breaks l → T had [] (left l ts)
  left_is had a ts (labels_typed h b ts' f g) l c = f l c

  pub continued_is : (had : List ℕ) (a : Around) (ts : List Task) → LabelsTyped p w results had a ts → (l : ℕ) → Contains a.continues l → T had [] (continued l ts)
  continued_is had a ts (labels_typed h b ts' f g) l c = g l c

  pub over_all : (had : List ℕ) (a : Around) (b : Around) (ss : Stmts) (rest : List Task) → SoundStmts p b ss → ((l : ℕ) → Contains a.breaks l → Contains b.breaks l) → LabelsTyped p w results had a rest
      → LabelsTyped p w results had a (all_opened ss rest)
  over_all had a b ss rest h i ls =
      labels_typed had a (all_opened ss rest)
      (λ l c. subst (T had []) (sym (left_all p l ss b rest h (i l c))) (left_is had a rest ls l c))
      (λ l c. subst (T had []) (sym (continued_all p l ss b rest h)) (continued_is had a rest ls l c))

  pub over_clauses : (had : List ℕ) (a : Around) (cs : Clauses) (n : ℕ) (rest : List Task) → SoundClauses p a cs → LabelsTyped p w results had a rest
      → LabelsTyped p w results had a (clause_opened cs n rest)
  over_clauses had a cs n rest h ls =
      labels_typed had a (clause_opened cs n rest)
      (λ l c. subst (T had []) (sym (left_clauses p l cs n a rest h c)) (left_is had a rest ls l c))
      (λ l c. subst (T had []) (sym (continued_clauses p l cs n a rest h)) (continued_is had a rest ls l c))

  left_choice : (had : List ℕ) (ts us : List Task) (b : Bool) → T had [] ts → T had [] us → T had [] (if b then ts else us)
  left_choice had ts us true h k = h
  left_choice had ts us false h k = k

  left_first : (had : List ℕ) (label l : ℕ) (rest : List Task) → label ≡ l → T had [] rest → T had [] (left l (leave label ∷ rest))
  left_first had label l rest e h = subst (λ x. T had [] (left x (leave label ∷ rest))) e (subst (λ b. T had [] (if b then rest else left label rest)) (sym (eq-eqb label label refl)) h)

  -- inside a statement that `break` can leave
  pub inside : (had : List ℕ) (a : Around) (label : ℕ) (rest : List Task) → LabelsTyped p w results had a rest → T had [] rest
      → LabelsTyped p w results had (with_break label a) (leave label ∷ rest)
  inside had a label rest ls k =
      labels_typed had (with_break label a) (leave label ∷ rest) (λ l c. by_label l (contains_split label a.breaks l c)) (λ l c. continued_is had a rest ls l c)
    where
      by_label : (l : ℕ) → (label ≡ l) ⊎ Contains a.breaks l → T had [] (left l (leave label ∷ rest))
      by_label l (inl e) = left_first had label l rest e k
      by_label l (inr c) = left_choice had rest (left l rest) (label == l) k (left_is had a rest ls l c)

  pub over_loop : (had : List ℕ) (a : Around) (label : ℕ) (c : Bound) (body post : Stmts) (rest : List Task) → LabelsTyped p w results had a rest → LabelsTyped p w results had a (loop_opened label c body post rest)
  over_loop had a label c body post rest ls =
      labels_typed had a (loop_opened label c body post rest)
      (λ l i. subst (T had []) (sym (left_loop p l label c body post rest)) (left_is had a rest ls l i))
      (λ l i. subst (T had []) (sym (continued_loop p l label c body post rest)) (continued_is had a rest ls l i))

  choice_first : (had : List ℕ) (ts us : List Task) (b : Bool) → b ≡ true → T had [] ts → T had [] (if b then ts else us)
  choice_first had ts us true e h = h
  choice_first had ts us false e h = absurd (cc)

  -- inside a loop
  pub inside_loop : (had : List ℕ) (a : Around) (label : ℕ) (c : Bound) (body post : Stmts) (rest : List Task) → LabelsTyped p w results had a rest → T had [] rest
      → T had [] (task.turn_again label c body post ∷ rest) → LabelsTyped p w results had (with_loop label a) (task.turn_again label c body post ∷ rest)
  inside_loop had a label c body post rest ls k again =
      labels_typed had (with_loop label a) (task.turn_again label c body post ∷ rest) (λ l i. by_break l (contains_split label a.breaks l i)) (λ l i. by_continue l (contains_split label a.continues l i))
    where
      by_break : (l : ℕ) → (label ≡ l) ⊎ Contains a.breaks l → T had [] (left l (task.turn_again label c body post ∷ rest))
      by_break l (inl e) = choice_first had rest (left l rest) (label == l) (eq-eqb label l e) k
      by_break l (inr i) = left_choice had rest (left l rest) (label == l) k (left_is had a rest ls l i)

      by_continue : (l : ℕ) → (label ≡ l) ⊎ Contains a.continues l → T had [] (continued l (task.turn_again label c body post ∷ rest))
      by_continue l (inl e) = choice_first had (task.turn_again label c body post ∷ rest) (continued l rest) (label == l) (eq-eqb label l e) again
      by_continue l (inr i) = left_choice had (task.turn_again label c body post ∷ rest) (continued l rest) (label == l) again (continued_is had a rest ls l i)

-- The tasks of sound statements are typed where what remains is, and what the labels around lead to.
use Rattle.std.proofs.Common.{inr, refl, sym, ap, ◌∙◌, subst, arith}
use Rattle.std.specs.Prelude.{◌≡◌, ℕ, zero, suc, List, [], ◌∷◌, ◌++◌, Bool, true, false, length, Option, Some, None, Contains}
use Rattle.std.proofs.lemmas.List.{length-append}
use Rattle.go_type.specs.Tree.{Ty}
use Rattle.go_type.specs.Underlying.{underlying}
use Rattle.go_core.specs.CoreTree as core
use Rattle.go_core.specs.CoreTree.{Expr, Exprs, Bound, no_bound, bound, Callee, Var, Stmt, Stmts, no_stmts, stmt, Tests, no_tests, test, Clauses, no_clauses, clause, Cases, no_cases, case, Communication, BranchKind, break_, continue_, CoreProgram}
use Rattle.go_core.specs.TypeOf.{listed_types, types_of, all_types}
use Rattle.go_core.specs.SoundNode.{Around, with_var, with_all, with_break, types_of_vars}
use Rattle.go_core.specs.Sound.{SoundExprs, SoundCallee, SoundStmt, SoundStmts, SoundTests, SoundClauses, SoundCases, SoundCondition, InScope, Returns, labels_for, after_stmt}
use Rattle.go_core.specs.Operator as op
use Rattle.go_core.specs.Opened.{evaluated, all_evaluated, callee_first, callee_count, call_count, called_of, values_of, opened, all_opened, loop_opened, tests_opened, clause_opened, cases_first, cases_of, cases_count}
use Rattle.go_core.specs.Goroutine as task
use Rattle.go_core.specs.Goroutine.{Task, Case, case_sends, case_receives}
use Rattle.go_core.specs.Typed.{World}
use Rattle.go_core.specs.Applies.{Slot, a_value, values_of_types, pushed_slots, delete_applies}
use Rattle.go_core.specs.TasksTyped.{with_ids, AreVars, HasIfThere, ScopeTyped, clause_first, TasksTyped, LabelsTyped, LoopTyped, CasesTyped, operate_typed, bind_typed, drop_typed, declare_typed, assign_typed, choose_typed, turn_typed, endless_typed, clause_typed, default_typed, begin_range_typed, leave_typed, branch_typed, go_typed, defer_typed, bare_return_typed, return_typed, panic_typed, send_typed, close_typed, select_typed, select_default_typed, take_typed, await_typed, yield_typed, print_typed, exit_typed, fatal_typed, labels_typed, loop_typed, no_case, send_case, receive_case}
use Rattle.go_core.proofs.TasksGrow.{tasks_grow, labels_grow, Within}
use Rattle.go_core.proofs.OpenedLemmas.{values_length, map_is, scope_var}
use Rattle.go_core.proofs.OpenedScope.{same_world, within_ids, contained, declarable_vars, scope_with, scope_all}
use Rattle.go_core.proofs.OpenedExprs.{all_counted, callee_types, callee_typed, ev, exs, ca, ga, one, both}
use Rattle.go_core.proofs.OpenedTargets.{targets_open}
use Rattle.go_core.proofs.OpenedLabels.{left_is, continued_is, over_all, over_clauses, inside}

-- ---- scopes and labels that go on

-- the variables that a frame has after a statement
abbrev after_had : Stmt → List ℕ → List ℕ
after_had (core.declare v) had = v.id ∷ had
after_had s had = had

within_after : (s : Stmt) (had : List ℕ) → Within had (after_had s had)
within_after (core.declare v) had u h = inr h
within_after _ had u h = h

scope_after : (p : CoreProgram) (s : Stmt) (had : List ℕ) (a : Around) → ScopeTyped p had a → SoundStmt p a s → ScopeTyped p (after_had s had) (after_stmt s a)
scope_after p (core.declare v) had a s h = scope_with p had a v s (contained p a.declarable v s.declarable h.0)
scope_after p _ had a s h = s

breaks_of_all : (vs : List Var) (a : Around) → (with_all vs a).breaks ≡ a.breaks
breaks_of_all [] a = refl
breaks_of_all (v ∷ vs) a = breaks_of_all vs (with_var v a)

continues_of_all : (vs : List Var) (a : Around) → (with_all vs a).continues ≡ a.continues
continues_of_all [] a = refl
continues_of_all (v ∷ vs) a = continues_of_all vs (with_var v a)

results_of_all : (vs : List Var) (a : Around) → (with_all vs a).results ≡ a.results
results_of_all [] a = refl
results_of_all (v ∷ vs) a = results_of_all vs (with_var v a)

breaks_after : (s : Stmt) (a : Around) → (after_stmt s a).breaks ≡ a.breaks
breaks_after (core.declare v) a = refl
breaks_after _ a = refl

results_after : (s : Stmt) (a : Around) → (after_stmt s a).results ≡ a.results
results_after (core.declare v) a = refl
results_after _ a = refl

scope_in : (p : CoreProgram) (had : List ℕ) (a : Around) (label : ℕ) → ScopeTyped p had a → ScopeTyped p had (with_break label a)
scope_in p had a label s = record { in_scope = s.in_scope; declarable = s.declarable }

module _ (p : CoreProgram) (w : World) (results : List Ty) where
  abbrev T : List ℕ → List Slot → List Task → Type 0
  T had st ts = TasksTyped p w results had st ts

  abbrev L : List ℕ → Around → List Task → Type 0
  L had a ts = LabelsTyped p w results had a ts

  wider : (had more : List ℕ) (st : List Slot) (ts : List Task) → Within had more → T had st ts → T more st ts
  wider had more st ts i k = tasks_grow p w w results (same_world w) had st ts k more i

  labels_wider : (had more : List ℕ) (a : Around) (ts : List Task) → Within had more → L had a ts → L more a ts
  labels_wider had more a ts i k = labels_grow p w w results (same_world w) had a ts k more i

  -- the same labels lead to the same
  relabel : (had : List ℕ) (a b : Around) (ts : List Task) → b.breaks ≡ a.breaks → b.continues ≡ a.continues → L had a ts → L had b ts
  relabel had a b ts e f ls =
      labels_typed had b ts (λ l c. left_is p w results had a ts ls l (subst (λ xs. Contains xs l) e c)) (λ l c. continued_is p w results had a ts ls l (subst (λ xs. Contains xs l) f c))

  labels_after : (s : Stmt) (had : List ℕ) (a : Around) (ts : List Task) → L had a ts → L (after_had s had) (after_stmt s a) ts
  labels_after (core.declare v) had a ts ls = relabel (v.id ∷ had) a (with_var v a) ts refl refl (labels_wider had (v.id ∷ had) a ts (λ u h. inr h) ls)
  labels_after _ had a ts ls = ls

  branch : (kind : BranchKind) (label : ℕ) (had : List ℕ) (a : Around) (rest : List Task) → Contains (labels_for kind a) label → L had a rest → T had [] (task.branch_to kind label ∷ rest)
  branch break_ label had a rest c ls = branch_typed had break_ label rest (left_is p w results had a rest ls label c)
  branch continue_ label had a rest c ls = branch_typed had continue_ label rest (continued_is p w results had a rest ls label c)

  pub loop : (label : ℕ) (c : Bound) (body post : Stmts) (had : List ℕ) (a : Around) (rest : List Task) → ScopeTyped p had a → SoundCondition p a c → LoopTyped p w results had a label c body post rest
      → T had [] (loop_opened label c body post rest)
  loop label no_bound body post had a rest s h k = endless_typed had a label body post rest k
  loop label (bound e) body post had a rest s h k =
      ev p w results e had a [] (task.turn label (bound e) body post ∷ rest) s h.0 (one p w results had e h.1.0 h.1.1 [] _ (turn_typed had a label e h.1.0 body post rest h.1.2 k))

  has_there : (had : List ℕ) (a : Around) (v : Option Var) → ScopeTyped p had a → InScope a.vars v → HasIfThere p had v
  has_there had a None s h = tt
  has_there had a (Some v) s h = scope_var p had a.vars v.id v.type_ s.in_scope h

  returns : (had : List ℕ) (a : Around) (ts : List Ty) (n : ℕ) (rest : List Task) → listed_types a.results ≡ results → length ts ≡ n → Returns a.results ts → T had (pushed_slots (values_of_types ts) []) (task.return_with n ∷ rest)
  returns had a [] n rest e c h = subst (λ m. T had [] (task.return_with m ∷ rest)) c (bare_return_typed had [] rest)
  returns had a (t ∷ ts) n rest e c h =
      let g : t ∷ ts ≡ results = sym h ∙ e in
      subst (λ us. T had (pushed_slots (values_of_types us) []) (task.return_with n ∷ rest)) (sym g) (return_typed had [] n rest (ap length (sym g) ∙ c))

  -- a call that is started or deferred
  calls_open : (had : List ℕ) (a : Around) (c : Callee) (es : Exprs) (last : List Task) → ScopeTyped p had a → SoundCallee p a c → SoundExprs p a es
      → T had (pushed_slots (values_of_types (callee_types p c ++ all_types p.names es)) []) last → T had [] (callee_first c (all_evaluated es last))
  calls_open had a c es last s h g k =
      ca p w results c had a [] (all_evaluated es last) s h (exs p w results es had a (pushed_slots (values_of_types (callee_types p c)) []) last s g (both p w results had (callee_types p c) (all_types p.names es) [] last k))

  call_counted : (a : Around) (c : Callee) (es : Exprs) → length (callee_types p c) ≡ callee_count c → SoundExprs p a es → length (callee_types p c ++ all_types p.names es) ≡ call_count c es
  call_counted a c es m h = let n = all_counted p es a h in let l = length-append (callee_types p c) (all_types p.names es) in omega (arith, n, l, m)

  -- the operands of a select's communications
  record CasesOpen (had : List ℕ) (rest : List Task) (cs : Cases) : Type 0 where
    slots : List Slot
    typed : CasesTyped p w results had [] rest slots (cases_of cs)
    is_counted : length slots ≡ cases_count cs
    opens : (st : List Slot) (last : List Task) → T had (pushed_slots slots st) last → T had st (cases_first cs last)

  select : (had : List ℕ) (ss : List Slot) (label : ℕ) (cs : List Case) (n : ℕ) (has_default : Bool) (body : Stmts) (ts : List Task) → CasesTyped p w results had [] ts ss cs → length ss ≡ n
      → T had [] (all_opened body ts) → T had (pushed_slots ss []) (task.select_from label cs n has_default body ∷ ts)
  select had ss label cs n false body ts h c k = select_typed had ss [] label cs n body ts h c
  select had ss label cs n true body ts h c k = select_default_typed had ss [] label cs n body ts h c k

  -- a switch's tests, where each clause is typed
  te : (ts : Tests) (cs : Clauses) (d : Option ℕ) (had : List ℕ) (a : Around) (rest : List Task) → ScopeTyped p had a
      → SoundTests p a ts cs → ((n : ℕ) → T had [] (clause_opened cs n rest)) → T had [] rest → T had [] (tests_opened ts cs d rest)
  te no_tests cs None had a rest s h every k = default_typed had [] cs None rest k
  te no_tests cs (Some n) had a rest s h every k = default_typed had [] cs (Some n) rest (every n)
  te (test e n ts) cs d had a rest s h every k =
      ev p w results e had a [] (task.choose_clause n ts cs d ∷ rest) s h.0 (one p w results had e h.1.0 h.1.1 [] _
      (clause_typed had [] h.1.0 n ts cs d rest h.1.2 (every n) (te ts cs d had a rest s h.3 every k)))

  -- a clause that receives binds its variables first
  first : (vars : List Var) (body : Stmts) (had : List ℕ) (rest : List Task) → AreVars p vars → T (with_ids vars had) [] (all_opened body rest)
      → T had (pushed_slots (values_of_types (types_of_vars vars)) []) (clause_first vars body rest)
  first [] body had rest us k = k
  first (v ∷ vs) body had rest us k = bind_typed had [] (v ∷ vs) (all_opened body rest) us k

  mutual
    pub all : (ss : Stmts) (had : List ℕ) (a : Around) (rest : List Task) → listed_types a.results ≡ results → ScopeTyped p had a → SoundStmts p a ss → L had a rest → T had [] rest → T had [] (all_opened ss rest)
    all no_stmts had a rest r s h ls k = k
    all (stmt x xs) had a rest r s h ls k =
        op_ x had a (all_opened xs rest) r s h.0 (over_all p w results had a (after_stmt x a) xs rest h.1 (λ l c. subst (λ bs. Contains bs l) (sym (breaks_after x a)) c) ls)
        (all xs (after_had x had) (after_stmt x a) rest (ap listed_types (results_after x a) ∙ r) (scope_after p x had a s h.0) h.1 (labels_after x had a rest ls) (wider had (after_had x had) [] rest (within_after x had) k))

    op_ : (x : Stmt) (had : List ℕ) (a : Around) (rest : List Task) → listed_types a.results ≡ results → ScopeTyped p had a → SoundStmt p a x → L had a rest → T (after_had x had) [] rest → T had [] (opened x rest)
    op_ (core.sequence ss) had a rest r s h ls k = all ss had a rest r s h ls k
    op_ (core.perform e n) had a rest r s h ls k =
        ev p w results e had a [] (task.drop_values n ∷ rest) s h.0 (drop_typed had (values_of_types (types_of p.names e)) [] n rest (values_length (types_of p.names e) ∙ h.1) k)
    op_ (core.declare v) had a rest r s h ls k = declare_typed had [] v rest (contained p a.declarable v s.declarable h.0) k
    op_ (core.store ts es) had a rest r s h ls k =
        let o = targets_open p w results had a s ts (all_types p.names es) h.1 in
        o.opens [] (all_evaluated es (task.assign ts (values_of es) ∷ rest)) (exs p w results es had a (pushed_slots o.slots []) (task.assign ts (values_of es) ∷ rest) s h.0
        (assign_typed had o.slots [] ts (all_types p.names es) (values_of es) rest o.typed (all_counted p es a h.0) k))
    op_ (core.map_delete t e key) had a rest r s h ls k =
        let m = map_is (underlying p.names t) h.3 h.5 in
        ev p w results e had a [] (evaluated key (task.operate (op.delete_entry t) 2 ∷ rest)) s h.0 (one p w results had e t h.2 [] _
        (ev p w results key had a (a_value t ∷ []) (task.operate (op.delete_entry t) 2 ∷ rest) s h.1 (one p w results had key h.3 h.4 (a_value t ∷ []) _
        (operate_typed had (a_value t ∷ a_value h.3 ∷ []) [] [] (op.delete_entry t) 2 rest (delete_applies t h.3 m.0 m.1) refl k))))
    op_ (core.if_ e x y) had a rest r s h ls k =
        ev p w results e had a [] (task.choose x y ∷ rest) s h.0 (one p w results had e h.1.0 h.1.1 [] _ (choose_typed had [] h.1.0 x y rest h.1.2 (all x had a rest r s h.2 ls k) (all y had a rest r s h.3 ls k)))
    op_ (core.loop label c body post) had a rest r s h ls k = loop label c body post had a rest s h.1 (loop_typed had a label c body post rest s r h.1 h.2 h.3 ls k)
    op_ (core.switch_on label ts cs d) had a rest r s h ls k =
        let again = leave_typed had [] label rest k in
        te ts cs d had a (task.leave label ∷ rest) s h.1
        (λ n. cl cs n had (with_break label a) (task.leave label ∷ rest) r (scope_in p had a label s) h.2 (inside p w results had a label rest ls k) again) again
    op_ (core.range_over label from e key value body) had a rest r s h ls k =
        let g : task.Ranged = record { label = label; from = from; key = key; value = value; body = body } in
        ev p w results e had a [] (task.begin_range g ∷ rest) s h.1 (one p w results had e from h.2 [] _
        (begin_range_typed had a g rest (record { around = s; ranged = h.3; key_had = has_there had a key s h.4; value_had = has_there had a value s h.5; key_fits = h.6; value_fits = h.7; body_sound = h.8 }) r ls k))
    op_ (core.labeled label body) had a rest r s h ls k =
        all body had (with_break label a) (task.leave label ∷ rest) r (scope_in p had a label s) h.1 (inside p w results had a label rest ls k) (leave_typed had [] label rest k)
    op_ (core.branch kind label) had a rest r s h ls k = branch kind label had a rest h ls
    op_ (core.send t e v) had a rest r s h ls k =
        ev p w results e had a [] (evaluated v (task.send_to t ∷ rest)) s h.0 (one p w results had e t h.2 [] _
        (ev p w results v had a (a_value t ∷ []) (task.send_to t ∷ rest) s h.1 (one p w results had v h.3 h.4 (a_value t ∷ []) _ (send_typed had [] t h.3 rest h.5 k))))
    op_ (core.close_ e) had a rest r s h ls k = ev p w results e had a [] (task.close_channel ∷ rest) s h.0 (one p w results had e h.1.0 h.1.1 [] _ (close_typed had [] h.1.0 rest h.1.2 k))
    op_ (core.select_step label cs has_default body) had a rest r s h ls k =
        let again = leave_typed had [] label rest k in
        let o = ca_ cs had (with_break label a) (task.leave label ∷ rest) r (scope_in p had a label s) h.1 (inside p w results had a label rest ls k) again in
        let last = task.select_from label (cases_of cs) (cases_count cs) has_default body ∷ task.leave label ∷ rest in
        o.opens [] last (select had o.slots label (cases_of cs) (cases_count cs) has_default body (task.leave label ∷ rest) o.typed o.is_counted
        (all body had (with_break label a) (task.leave label ∷ rest) r (scope_in p had a label s) h.2 (inside p w results had a label rest ls k) again))
    op_ (core.gate_take e) had a rest r s h ls k = ga p w results e had a [] (task.take_gate ∷ rest) s h (take_typed had [] rest k)
    op_ (core.gate_await e) had a rest r s h ls k = ga p w results e had a [] (task.await_gate ∷ rest) s h (await_typed had [] rest k)
    op_ core.yield_ had a rest r s h ls k = yield_typed had [] rest k
    op_ (core.go_call c es) had a rest r s h ls k =
        let g = callee_typed p had a c (all_types p.names es) h.2 s h.3 in
        calls_open had a c es (task.go_with (called_of c) (call_count c es) ∷ rest) s h.0 h.1
        (go_typed had [] (called_of c) (callee_types p c ++ all_types p.names es) (listed_types h.2) (call_count c es) rest g.calls (call_counted a c es g.counted_before h.1) k)
    op_ (core.defer_call c es) had a rest r s h ls k =
        let g = callee_typed p had a c (all_types p.names es) h.2 s h.3 in
        calls_open had a c es (task.defer_with (called_of c) (call_count c es) ∷ rest) s h.0 h.1
        (defer_typed had [] (called_of c) (callee_types p c ++ all_types p.names es) (listed_types h.2) (call_count c es) rest g.calls (call_counted a c es g.counted_before h.1) k)
    op_ (core.return_ es) had a rest r s h ls k =
        exs p w results es had a [] (task.return_with (values_of es) ∷ rest) s h.0 (returns had a (all_types p.names es) (values_of es) rest r (all_counted p es a h.0) h.1)
    op_ (core.panic_ e) had a rest r s h ls k = ev p w results e had a [] (task.panic_with ∷ rest) s h.0 (one p w results had e h.1.0 h.1.1 [] _ (panic_typed had [] h.1.0 rest h.1.2))
    op_ (core.print es ends_line) had a rest r s h ls k =
        exs p w results es had a [] (task.print_values (values_of es) ends_line ∷ rest) s h.0
        (print_typed had (values_of_types (all_types p.names es)) [] (values_of es) ends_line rest (values_length (all_types p.names es) ∙ all_counted p es a h.0) k)
    op_ (core.exit_ e) had a rest r s h ls k = ev p w results e had a [] (task.exit_with ∷ rest) s h.0 (one p w results had e h.1.0 h.1.1 [] _ (exit_typed had [] h.1.0 rest h.1.2 k))
    op_ (core.fatal_ e) had a rest r s h ls k = ev p w results e had a [] (task.fatal_with ∷ rest) s h.0 (one p w results had e h.1.0 h.1.1 [] _ (fatal_typed had [] h.1.0 rest h.1.2 k))

    cl : (cs : Clauses) (n : ℕ) (had : List ℕ) (a : Around) (rest : List Task) → listed_types a.results ≡ results → ScopeTyped p had a → SoundClauses p a cs → L had a rest → T had [] rest → T had [] (clause_opened cs n rest)
    cl no_clauses n had a rest r s h ls k = k
    cl (clause body falls cs) (suc n) had a rest r s h ls k = cl cs n had a rest r s h.1 ls k
    cl (clause body true cs) zero had a rest r s h ls k =
        all body had a (clause_opened cs zero rest) r s h.0 (over_clauses p w results had a cs zero rest h.1 ls) (cl cs zero had a rest r s h.1 ls k)
    cl (clause body false cs) zero had a rest r s h ls k = all body had a rest r s h.0 ls k

    ca_ : (cs : Cases) (had : List ℕ) (a : Around) (rest : List Task) → listed_types a.results ≡ results → ScopeTyped p had a → SoundCases p a cs → L had a rest → T had [] rest → CasesOpen had rest cs
    ca_ no_cases had a rest r s h ls k = record { slots = []; typed = no_case had [] rest; is_counted = refl; opens = λ st last k. k }
    ca_ (case (core.sends t e v) body cs) had a rest r s h ls k =
        let o = ca_ cs had a rest r s h.2 ls k in
        let c = h.0 in
        let n = o.is_counted in
        record {
          slots = a_value t ∷ a_value c.3 ∷ o.slots;
          typed = send_case had [] o.slots rest t c.3 body (cases_of cs) c.5 (all body had a rest r s h.1 ls k) o.typed;
          is_counted = omega (arith, n);
          opens = λ st last x. ev p w results e had a st (evaluated v (cases_first cs last)) s c.0 (one p w results had e t c.2 st _
              (ev p w results v had a (a_value t ∷ st) (cases_first cs last) s c.1 (one p w results had v c.3 c.4 (a_value t ∷ st) _ (o.opens (a_value c.3 ∷ a_value t ∷ st) last x))));
        }
    ca_ (case (core.receives t e vars) body cs) had a rest r s h ls k =
        let o = ca_ cs had a rest r s h.2 ls k in
        let c = h.0 in
        let n = o.is_counted in
        let vs = declarable_vars p a.declarable vars s.declarable c.2 in
        record {
          slots = a_value t ∷ o.slots;
          typed = receive_case had [] o.slots rest t c.3 vars body (cases_of cs) c.4 c.5 vs (first vars body had rest vs
              (all body (with_ids vars had) (with_all vars a) rest (ap listed_types (results_of_all vars a) ∙ r) (scope_all p vars had a s vs) h.1
              (relabel (with_ids vars had) a (with_all vars a) rest (breaks_of_all vars a) (continues_of_all vars a) (labels_wider had (with_ids vars had) a rest (within_ids vars had) ls))
              (wider had (with_ids vars had) [] rest (within_ids vars had) k))) o.typed;
          is_counted = omega (arith, n);
          opens = λ st last x. ev p w results e had a st (cases_first cs last) s c.0 (one p w results had e t c.1 st _ (o.opens (a_value t ∷ st) last x));
        }

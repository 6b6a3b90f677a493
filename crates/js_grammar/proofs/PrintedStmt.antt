-- Each statement that fits is printed as its tokens, which are a statement with its tree, places aside.
use Rattle.std.proofs.Common.{arith, ◌≡◌, subst, ℕ, suc, ◌+◌, List, ◌++◌, length, Some, None, true, false, refl}
use Rattle.std.specs.Prelude.{◌&&◌, codes}
use Rattle.std.specs.Fmt.{decimal}
use Rattle.js_tree.specs.Lexical.{is_gap}
use Rattle.js_tree.specs.Script.{Expr, call, pop, Stmt, declare, assign, store, perform, push, remove, branch, while, forever, switch, return, throw, break, continue, attempt, Stmts, no_stmts, stmt, Else, no_else, else_block, else_if, Cases, no_cases, default, case}
use Rattle.js_tree.specs.Printed.{level, dot_level, within, before_dot, expr_text, stmt_text, stmts_text, else_text, cases_text, deeper, in_braces}
use Rattle.js_tree.specs.Printable.{is_own_name, is_own_label, is_in_range, is_call, fits, depth_within, parts, expr_fits, stmt_fits, stmts_fit, else_fits, cases_fit}
use Rattle.js_grammar.proofs.Words.{both_true}
use Rattle.js_grammar.proofs.PrintedTokens.{Shown}
use Rattle.js_grammar.proofs.PrintedLevels.{count, dotted, within_deep, step_deep, deep}
use Rattle.js_grammar.proofs.PrintedHeads.{lead, lead_within}
use Rattle.js_grammar.proofs.PrintedWithin.{alone, within_shown, dot_shown}
use Rattle.js_grammar.proofs.PrintedExpr.{show, under}
use Rattle.js_grammar.proofs.PrintedBlocks.{ShownStmt, ShownStmts, ShownElse, ShownCases, deeper_gap, own_is_name, no_lines, lines, braces, label_end, declared_shown}
use Rattle.js_grammar.proofs.PrintedSimple.{declare_shown, assign_shown, store_shown, perform_shown, push_shown, gap_end, remove_shown, return_shown, return_nothing_shown, throw_shown, break_shown, continue_shown}
use Rattle.js_grammar.proofs.PrintedCompound.{branch_shown, while_shown, forever_shown, switch_shown, attempt_shown, no_else_shown, else_block_shown, else_if_shown, no_cases_shown, default_shown, case_shown}

-- what may stand as a statement is the last part of its chain
performed : (e : Expr) (d at p : ℕ) → is_call e ≡ true → fits d ≡ true → Shown (dotted e) d (level e) (count e) at (expr_text e) e → ShownStmt d at (expr_text e ++ codes ";") (perform p e)
performed (call at f es) d start p q g x = perform_shown d (parts f) start p (expr_text (call at f es)) (call at f es) q g x
performed (pop at e) d start p q g x = perform_shown d (parts e) start p (expr_text (pop at e)) (pop at e) q g x
performed e d start p q g x = absurd (cc)

mutual
  pub show_stmt : (s : Stmt) (m : List ℕ) (d at : ℕ) → is_gap true m ≡ true → stmt_fits d s ≡ true → ShownStmt d at (stmt_text m s) s
  show_stmt (declare p x e) m d at g q =
      let f = both_true (is_own_name x) (expr_fits d e) q in
      let y = alone e d (at + 3 + 1 + length x + 1 + 1 + 1) (show e) f.1 in
      declare_shown d at p x e f.0 (declared_shown d y.n at x (expr_text e) e (deep e d f.1) (own_is_name x f.0) y.shown)
  show_stmt (assign p x e) m d at g q =
      let f = both_true (is_own_name x) (expr_fits d e) q in
      let y = alone e d (at + length x + 1 + 1 + 1) (show e) f.1 in
      assign_shown d y.n at p x e f.0 (deep e d f.1) y.shown
  show_stmt (store p e i v) m d at g q =
      let f = both_true (expr_fits (depth_within 12 d e) e && expr_fits (suc (d + parts e)) i) (expr_fits d v) q in
      let h = both_true (expr_fits (depth_within 12 d e) e) (expr_fits (suc (d + parts e)) i) f.0 in
      let x = within_shown d 12 at e (omega arith) (show e) h.0 in
      let x2 : Shown false d 12 (parts e) at (within 12 e (expr_text e)) e = subst (λ z. Shown false d 12 z at (within 12 e (expr_text e)) e) (x.parts refl) x.shown in
      let y = alone i (suc (d + parts e)) (x2.last + 1) (show i) h.1 in
      let z = alone v d (y.shown.last + 1 + 1 + 1 + 1) (show v) f.1 in
      store_shown d (parts e) y.n z.n at p (within 12 e (expr_text e)) (expr_text i) (expr_text v) e i v (under (d + parts e) i h.1) (deep v d f.1) x2 y.shown z.shown
  show_stmt (perform p e) m d at g q =
      let f = both_true (is_call e) (expr_fits d e) q in
      performed e d at p f.0 (deep e d f.1) (show e d at f.1)
  show_stmt (push p e v) m d at g q =
      let f = both_true (expr_fits (depth_within (dot_level e) d e) e) (expr_fits (suc (d + parts e)) v) q in
      let x = dot_shown d at e (show e) f.0 in
      let y = alone v (suc (d + parts e)) (x.shown.last + 1 + 4 + 1) (show v) f.1 in
      push_shown d (parts e) y.n at p (before_dot e (expr_text e)) (expr_text v) e v (under (d + parts e) v f.1) (within_deep (dot_level e) d e (deep e) f.0) x.shown y.shown
  show_stmt (remove p e k) m d at g q =
      let f = both_true (expr_fits (depth_within 12 d e) e) (expr_fits (suc (d + parts e)) k) q in
      let start = gap_end 12 e (at + 6) in
      let x = within_shown d 12 start e (omega arith) (show e) f.0 in
      let x2 : Shown false d 12 (parts e) start (within 12 e (expr_text e)) e = subst (λ z. Shown false d 12 z start (within 12 e (expr_text e)) e) (x.parts refl) x.shown in
      let y = alone k (suc (d + parts e)) (x2.last + 1) (show k) f.1 in
      remove_shown d (parts e) y.n at p (within 12 e (expr_text e)) (expr_text k) e k (under (d + parts e) k f.1) (within_deep 12 d e (deep e) f.0) (lead_within 12 d e (lead e) f.0) x2 y.shown
  show_stmt (branch p t ss other) m d at g q =
      let f = both_true (expr_fits (suc d) t && stmts_fit (suc d) ss) (else_fits d other) q in
      let h = both_true (expr_fits (suc d) t) (stmts_fit (suc d) ss) f.0 in
      let x = alone t (suc d) (at + 2 + 1) (show t) h.0 in
      let deep_here = under d t h.0 in
      let y = braces d (x.shown.last + 1) m (stmts_text (deeper m) ss) ss g deep_here (show_stmts ss (deeper m) (suc d) (x.shown.last + 1 + 1 + 1) (deeper_gap m g) h.1) in
      branch_shown d x.n at p (expr_text t) (in_braces m (stmts_text (deeper m) ss)) (else_text m other) t ss other deep_here x.shown y (show_else other m d y.last g f.1)
  show_stmt (while p l t ss) m d at g q =
      let f = both_true (is_own_label l && expr_fits (suc d) t) (stmts_fit (suc d) ss) q in
      let h = both_true (is_own_label l) (expr_fits (suc d) t) f.0 in
      let x = alone t (suc d) (label_end l at + 5 + 1) (show t) h.1 in
      let deep_here = under d t h.1 in
      while_shown l d x.n at p (expr_text t) (in_braces m (stmts_text (deeper m) ss)) t ss h.0 deep_here x.shown
      (braces d (x.shown.last + 1) m (stmts_text (deeper m) ss) ss g deep_here (show_stmts ss (deeper m) (suc d) (x.shown.last + 1 + 1 + 1) (deeper_gap m g) f.1))
  show_stmt (forever p l ss) m d at g q =
      let f = both_true (is_own_label l && fits (suc d)) (stmts_fit (suc d) ss) q in
      let h = both_true (is_own_label l) (fits (suc d)) f.0 in
      let start = label_end l at + 3 + 1 + 1 + 1 + 1 in
      forever_shown l d at p (in_braces m (stmts_text (deeper m) ss)) ss h.0 h.1
      (braces d start m (stmts_text (deeper m) ss) ss g (step_deep d h.1) (show_stmts ss (deeper m) (suc d) (start + 1 + 1) (deeper_gap m g) f.1))
  show_stmt (switch p l e cs) m d at g q =
      let f = both_true (is_own_label l && expr_fits (suc d) e) (cases_fit (suc d) cs) q in
      let h = both_true (is_own_label l) (expr_fits (suc d) e) f.0 in
      let x = alone e (suc d) (label_end l at + 6 + 1) (show e) h.1 in
      switch_shown l d x.n at p m (expr_text e) (cases_text (deeper m) cs) e cs h.0 (under d e h.1) g x.shown (show_cases cs (deeper m) (suc d) (x.shown.last + 1 + 1 + 1) (deeper_gap m g) f.1)
  show_stmt (return p None) m d at g q = return_nothing_shown d at p q
  show_stmt (return p (Some e)) m d at g q =
      let x = alone e d (gap_end 0 e (at + 6)) (show e) q in
      return_shown d x.n at p e (deep e d q) (lead e d q) x.shown
  show_stmt (throw p e) m d at g q =
      let x = alone e d (gap_end 0 e (at + 5)) (show e) q in
      throw_shown d x.n at p e (deep e d q) (lead e d q) x.shown
  show_stmt (break p l) m d at g q = let f = both_true (fits d) (is_own_label l) q in break_shown l d at p f.0 f.1
  show_stmt (continue p l) m d at g q = let f = both_true (fits d) (is_own_label l) q in continue_shown l d at p f.0 f.1
  show_stmt (attempt p ss handler) m d at g q =
      let f = both_true (fits (suc d) && stmts_fit (suc d) ss) (stmts_fit (suc d) handler) q in
      let h = both_true (fits (suc d)) (stmts_fit (suc d) ss) f.0 in
      let here = step_deep d h.0 in
      let x = braces d (at + 3) m (stmts_text (deeper m) ss) ss g here (show_stmts ss (deeper m) (suc d) (at + 3 + 1 + 1) (deeper_gap m g) h.1) in
      let start = x.last + 5 + 1 + 6 + 1 in
      attempt_shown d at p m (stmts_text (deeper m) ss) (in_braces m (stmts_text (deeper m) handler)) ss handler h.0 x
      (braces d start m (stmts_text (deeper m) handler) handler g here (show_stmts handler (deeper m) (suc d) (start + 1 + 1) (deeper_gap m g) f.1))

  pub show_stmts : (ss : Stmts) (m : List ℕ) (d at : ℕ) → is_gap true m ≡ true → stmts_fit d ss ≡ true → ShownStmts d at (stmts_text m ss) ss
  show_stmts no_stmts m d at g q = no_lines d at
  show_stmts (stmt s ss) m d at g q =
      let f = both_true (stmt_fits d s) (stmts_fit d ss) q in
      let x = show_stmt s m d (at + length m) g f.0 in
      lines d at m (stmt_text m s) (stmts_text m ss) s ss g x (show_stmts ss m d (x.last + 1) g f.1)

  pub show_else : (other : Else) (m : List ℕ) (d at : ℕ) → is_gap true m ≡ true → else_fits d other ≡ true → ShownElse d at (else_text m other) other
  show_else no_else m d at g q = no_else_shown d at
  show_else (else_block ss) m d at g q =
      let f = both_true (fits (suc d)) (stmts_fit (suc (suc d)) ss) q in
      else_block_shown d at m (stmts_text (deeper m) ss) ss (step_deep d f.0)
      (braces (suc d) (at + 4) m (stmts_text (deeper m) ss) ss g f.0 (show_stmts ss (deeper m) (suc (suc d)) (at + 4 + 1 + 1) (deeper_gap m g) f.1))
  show_else (else_if p t ss other) m d at g q =
      let f = both_true (expr_fits (suc (suc d)) t && stmts_fit (suc (suc d)) ss) (else_fits (suc d) other) q in
      let h = both_true (expr_fits (suc (suc d)) t) (stmts_fit (suc (suc d)) ss) f.0 in
      let x = alone t (suc (suc d)) (at + 4 + 1 + 2 + 1) (show t) h.0 in
      let here = under (suc d) t h.0 in
      let y = braces (suc d) (x.shown.last + 1) m (stmts_text (deeper m) ss) ss g here (show_stmts ss (deeper m) (suc (suc d)) (x.shown.last + 1 + 1 + 1) (deeper_gap m g) h.1) in
      else_if_shown d x.n at p (expr_text t) (in_braces m (stmts_text (deeper m) ss)) (else_text m other) t ss other here x.shown y (show_else other m (suc d) y.last g f.1)

  pub show_cases : (cs : Cases) (m : List ℕ) (d at : ℕ) → is_gap true m ≡ true → cases_fit d cs ≡ true → ShownCases d at (cases_text m cs) cs
  show_cases no_cases m d at g q = no_cases_shown d at
  show_cases (default ss) m d at g q =
      let f = both_true (fits d) (stmts_fit d ss) q in
      default_shown d at m (stmts_text m ss) ss g f.0 (show_stmts ss m d (at + length m + 7 + 1 + 1) g f.1)
  show_cases (case n ss cs) m d at g q =
      let f = both_true (fits d && is_in_range n && stmts_fit d ss) (cases_fit d cs) q in
      let h = both_true (fits d && is_in_range n) (stmts_fit d ss) f.0 in
      let k = both_true (fits d) (is_in_range n) h.0 in
      let x = show_stmts ss m d (at + length m + 4 + 1 + length (decimal n) + 1 + 1) g h.1 in
      case_shown d at n m (stmts_text m ss) (cases_text m cs) ss cs g k.0 k.1 x (show_cases cs m d x.last g f.1)

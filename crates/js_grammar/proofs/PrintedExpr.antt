-- Each expression that fits is printed as its tokens, which are an expression with its tree, places aside.
use Rattle.std.proofs.Common.{arith, ◌≡◌, subst, ℕ, suc, ◌+◌, length, true, false, refl}
use Rattle.std.specs.Prelude.{◌&&◌}
use Rattle.std.specs.List.{list_all}
use Rattle.js_tree.specs.Lexical.{spelling}
use Rattle.js_tree.specs.Script.{Expr, number, string, boolean, null, name, unary, binary, both, either, choice, call, index, length_of, pop, char_code_at, substring, array, dictionary, decimal_of, from_char_code, Exprs, no_exprs, expr}
use Rattle.js_tree.specs.Printed.{op_level, level, dot_level, within, before_dot, expr_text, exprs_text, more_text}
use Rattle.js_tree.specs.Printable.{is_name, is_in_range, is_byte, fits, depth_within, operators, parts, expr_fits, exprs_fit}
use Rattle.js_tree.specs.Scripts.{op_token}
use Rattle.js_grammar.proofs.Words.{both_true}
use Rattle.js_grammar.proofs.PrintedTokens.{Shown}
use Rattle.js_grammar.proofs.PrintedLevels.{count, dotted, op_bound, within_deep, step_deep, deep}
use Rattle.js_grammar.proofs.PrintedHeads.{lead, lead_within}
use Rattle.js_grammar.proofs.PrintedWithin.{alone, within_shown, dot_shown}
use Rattle.js_grammar.proofs.PrintedAtoms.{number_shown, string_shown, boolean_shown, null_shown, name_shown, array_shown, dictionary_shown, decimal_shown, from_char_code_shown, ShownList, ShownMore, no_more_shown, more_shown, no_list_shown, list_shown}
use Rattle.js_grammar.proofs.PrintedParts.{call_shown, index_shown, length_shown, pop_shown, char_code_at_shown, substring_shown}
use Rattle.js_grammar.proofs.PrintedOperators.{operand_at, unary_shown, binary_shown, both_shown, either_shown, choice_shown}

-- one nested deeper fits, and so does what stands before it
pub under : (d : ℕ) (e : Expr) → expr_fits (suc d) e ≡ true → fits d ≡ true
under d e q = step_deep d (deep e (suc d) q)

within_under : (k d : ℕ) (e : Expr) → expr_fits (depth_within k (suc d) e) e ≡ true → fits d ≡ true
within_under k d e q = step_deep d (within_deep k (suc d) e (deep e) q)

mutual
  pub show : (e : Expr) (d at : ℕ) → expr_fits d e ≡ true → Shown (dotted e) d (level e) (count e) at (expr_text e) e
  show (number p n) d at q = let b = both_true (fits d) (is_in_range n) q in number_shown d at p n b.0 b.1
  show (string p s) d at q = let b = both_true (fits d) (list_all is_byte s) q in string_shown d at p s b.0 b.1
  show (boolean p b) d at q = boolean_shown d at p b q
  show (null p) d at q = null_shown d at p q
  show (name p x) d at q = let b = both_true (fits d) (is_name x) q in name_shown d at p x b.0 b.1
  show (unary p op e) d at q =
      let x = within_shown (suc d) 11 (operand_at op e at) e (omega arith) (show e) q in
      unary_shown op d x.n at p (within 11 e (expr_text e)) e (within_under 11 d e q) (lead_within 11 (suc d) e (lead e) q) x.shown
  show (binary p op a b) d at q =
      let k = op_level op in
      let m = op_bound op in
      let f = both_true (expr_fits (depth_within k d a) a) (expr_fits (depth_within (suc k) (suc (d + operators k a)) b) b) q in
      let x = within_shown d k at a (omega (arith, m)) (show a) f.0 in
      let n : x.n ≡ operators k a = x.chain m.0 m.1 in
      let x2 : Shown false d k (operators k a) at (within k a (expr_text a)) a = subst (λ z. Shown false d k z at (within k a (expr_text a)) a) n x.shown in
      let y = within_shown (suc (d + operators k a)) (suc k) (x2.last + 1 + length (spelling (op_token op)) + 1) b (omega (arith, m)) (show b) f.1 in
      binary_shown op d (operators k a) y.n at p (within k a (expr_text a)) (within (suc k) b (expr_text b)) a b (within_under (suc k) (d + operators k a) b f.1) x2 y.shown
  show (both p a b) d at q =
      let f = both_true (expr_fits (depth_within 2 d a) a) (expr_fits (depth_within 3 (suc (d + operators 2 a)) b) b) q in
      let x = within_shown d 2 at a (omega arith) (show a) f.0 in
      let n : x.n ≡ operators 2 a = x.chain (omega arith) (omega arith) in
      let x2 : Shown false d 2 (operators 2 a) at (within 2 a (expr_text a)) a = subst (λ z. Shown false d 2 z at (within 2 a (expr_text a)) a) n x.shown in
      let y = within_shown (suc (d + operators 2 a)) 3 (x2.last + 1 + 2 + 1) b (omega arith) (show b) f.1 in
      both_shown d (operators 2 a) y.n at p (within 2 a (expr_text a)) (within 3 b (expr_text b)) a b (within_under 3 (d + operators 2 a) b f.1) x2 y.shown
  show (either p a b) d at q =
      let f = both_true (expr_fits (depth_within 1 d a) a) (expr_fits (depth_within 2 (suc (d + operators 1 a)) b) b) q in
      let x = within_shown d 1 at a (omega arith) (show a) f.0 in
      let n : x.n ≡ operators 1 a = x.chain (omega arith) (omega arith) in
      let x2 : Shown false d 1 (operators 1 a) at (within 1 a (expr_text a)) a = subst (λ z. Shown false d 1 z at (within 1 a (expr_text a)) a) n x.shown in
      let y = within_shown (suc (d + operators 1 a)) 2 (x2.last + 1 + 2 + 1) b (omega arith) (show b) f.1 in
      either_shown d (operators 1 a) y.n at p (within 1 a (expr_text a)) (within 2 b (expr_text b)) a b (within_under 2 (d + operators 1 a) b f.1) x2 y.shown
  show (choice p t a b) d at q =
      let f = both_true (expr_fits (depth_within 1 d t) t && expr_fits (suc d) a) (expr_fits (suc d) b) q in
      let g = both_true (expr_fits (depth_within 1 d t) t) (expr_fits (suc d) a) f.0 in
      let x = within_shown d 1 at t (omega arith) (show t) g.0 in
      let y = alone a (suc d) (x.shown.last + 1 + 1 + 1) (show a) g.1 in
      let z = alone b (suc d) (y.shown.last + 1 + 1 + 1) (show b) f.1 in
      choice_shown d x.n y.n z.n at p (within 1 t (expr_text t)) (expr_text a) (expr_text b) t a b (deep b (suc d) f.1) (under d b f.1) x.shown y.shown z.shown
  show (call p g es) d at q =
      let f = both_true (expr_fits (depth_within 12 d g) g && fits (d + parts g)) (exprs_fit (suc (d + parts g)) es) q in
      let h = both_true (expr_fits (depth_within 12 d g) g) (fits (d + parts g)) f.0 in
      let x = within_shown d 12 at g (omega arith) (show g) h.0 in
      let x2 : Shown false d 12 (parts g) at (within 12 g (expr_text g)) g = subst (λ z. Shown false d 12 z at (within 12 g (expr_text g)) g) (x.parts refl) x.shown in
      call_shown d (parts g) at p (within 12 g (expr_text g)) g es h.1 x2 (show_list es (suc (d + parts g)) (x2.last + 1) f.1)
  show (index p e i) d at q =
      let f = both_true (expr_fits (depth_within 12 d e) e) (expr_fits (suc (d + parts e)) i) q in
      let x = within_shown d 12 at e (omega arith) (show e) f.0 in
      let x2 : Shown false d 12 (parts e) at (within 12 e (expr_text e)) e = subst (λ z. Shown false d 12 z at (within 12 e (expr_text e)) e) (x.parts refl) x.shown in
      let y = alone i (suc (d + parts e)) (x2.last + 1) (show i) f.1 in
      index_shown d (parts e) y.n at p (within 12 e (expr_text e)) (expr_text i) e i (under (d + parts e) i f.1) x2 y.shown
  show (length_of p e) d at q =
      let f = both_true (expr_fits (depth_within (dot_level e) d e) e) (fits (d + parts e)) q in
      let x = dot_shown d at e (show e) f.0 in
      length_shown d (parts e) at p (before_dot e (expr_text e)) e f.1 x.shown
  show (pop p e) d at q =
      let f = both_true (expr_fits (depth_within (dot_level e) d e) e) (fits (d + parts e)) q in
      let x = dot_shown d at e (show e) f.0 in
      pop_shown d (parts e) at p (before_dot e (expr_text e)) e f.1 x.shown
  show (char_code_at p e i) d at q =
      let f = both_true (expr_fits (depth_within (dot_level e) d e) e) (expr_fits (suc (d + parts e)) i) q in
      let x = dot_shown d at e (show e) f.0 in
      let y = alone i (suc (d + parts e)) (x.shown.last + 1 + 10 + 1) (show i) f.1 in
      char_code_at_shown d (parts e) y.n at p (before_dot e (expr_text e)) (expr_text i) e i (under (d + parts e) i f.1) x.shown y.shown
  show (substring p e i j) d at q =
      let f = both_true (expr_fits (depth_within (dot_level e) d e) e && expr_fits (suc (d + parts e)) i) (expr_fits (suc (d + parts e)) j) q in
      let g = both_true (expr_fits (depth_within (dot_level e) d e) e) (expr_fits (suc (d + parts e)) i) f.0 in
      let x = dot_shown d at e (show e) g.0 in
      let y = alone i (suc (d + parts e)) (x.shown.last + 1 + 9 + 1) (show i) g.1 in
      let z = alone j (suc (d + parts e)) (y.shown.last + 1 + 1) (show j) f.1 in
      substring_shown d (parts e) y.n z.n at p (before_dot e (expr_text e)) (expr_text i) (expr_text j) e i j (deep i (suc (d + parts e)) g.1) x.shown y.shown z.shown
  show (array p es) d at q =
      let f = both_true (fits d) (exprs_fit (suc d) es) q in
      array_shown d at p es f.0 (show_list es (suc d) (at + 1) f.1)
  show (dictionary p) d at q = dictionary_shown d at p q
  show (decimal_of p e) d at q =
      let x = alone e (suc d) (at + 6 + 1) (show e) q in
      decimal_shown d x.n at p (expr_text e) e (under d e q) x.shown
  show (from_char_code p e) d at q =
      let x = alone e (suc d) (at + 6 + 1 + 12 + 1) (show e) q in
      from_char_code_shown d x.n at p (expr_text e) e (under d e q) x.shown

  pub show_list : (es : Exprs) (d at : ℕ) → exprs_fit d es ≡ true → ShownList d at (exprs_text es) es
  show_list no_exprs d at q = no_list_shown d at
  show_list (expr e es) d at q =
      let f = both_true (expr_fits d e) (exprs_fit d es) q in
      let x = alone e d at (show e) f.0 in
      list_shown d x.n at e es x.shown (show_more es d x.shown.last f.1)

  pub show_more : (es : Exprs) (d at : ℕ) → exprs_fit d es ≡ true → ShownMore d at (more_text es) es
  show_more no_exprs d at q = no_more_shown d at
  show_more (expr e es) d at q =
      let f = both_true (expr_fits d e) (exprs_fit d es) q in
      let x = alone e d (at + 1 + 1) (show e) f.0 in
      more_shown d x.n at e es (deep e d f.0) x.shown (show_more es d x.shown.last f.1)

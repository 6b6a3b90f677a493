-- Printed statements of one line.
use Rattle.std.proofs.Common.{arith, ◌≡◌, ◌∙◌, sym, subst, ap, ℕ, suc, ◌+◌, List, [], ◌∷◌, ◌++◌, length, Option, Some, None, Bool, true, false, refl, append_assoc}
use Rattle.std.specs.Prelude.{not, nat_lt, codes, if◌then◌else◌}
use Rattle.std.proofs.lemmas.Bool.{lt-leb}
use Rattle.js_tree.specs.Lexical.{identifier_name, Placed, Splits, goes_on}
use Rattle.js_tree.specs.Script as tree
use Rattle.js_tree.specs.Script.{Name, Expr, number, string, boolean, null, name, unary, binary, both, either, choice, call, index, length_of, pop, char_code_at, substring, array, dictionary, decimal_of, from_char_code, Stmt}
use Rattle.js_tree.specs.Erase.{erase_expr}
use Rattle.js_tree.specs.Printed.{expr_text, gap, level, begins_within, begins_with_word, declare_text, jump_text, return_text}
use Rattle.js_tree.specs.Printable.{is_own_name, is_own_label, is_call, fits, is_name_byte}
use Rattle.js_tree.specs.Scripts as rule
use Rattle.js_tree.specs.Scripts.{after, at_of, word, sign, Expression, Target}
use Rattle.js_grammar.specs.Steps.{left, right, open_bracket, close_bracket, dot, semicolon, equals}
use Rattle.js_grammar.proofs.Splitting.{put}
use Rattle.js_grammar.proofs.PrintedTokens.{first, spaced, past, past_one, two_same, Shown}
use Rattle.js_grammar.proofs.PrintedHeads.{Lead, LeadWithin}
use Rattle.js_grammar.proofs.PrintedAtoms.{four, six}
use Rattle.js_grammar.proofs.PrintedOperators.{between}
use Rattle.js_grammar.proofs.PrintedPlaces.{call_stays}
use Rattle.js_grammar.proofs.PrintedBlocks.{ShownStmt, restmt, ShownDeclared, name_piece, own_is_name, equals_between}

pub declare_shown : (d at p : ℕ) (x : Name) (e : Expr) → is_own_name x ≡ true → ShownDeclared d at (declare_text x e) x e → ShownStmt d at (declare_text x e) (tree.declare p x e)
declare_shown d at p x e q y = record {
  last = y.last;
  before = λ r rest sp.
      let o = y.before r rest sp in
      record {
        tokens = o.tokens;
        tree = tree.declare (at_of o.tokens) x o.tree;
        splits = o.splits;
        derives = rule.declare q o.head o.derives o.tail;
        same = ap (λ z. tree.declare 0 x z) o.same;
      };
}

pub assign_shown : (d n at p : ℕ) (x : Name) (e : Expr) → is_own_name x ≡ true → fits d ≡ true → Shown false d 0 n (at + length x + 1 + 1 + 1) (expr_text e) e → ShownStmt d at (x ++ codes " = " ++ expr_text e ++ codes ";") (tree.assign p x e)
assign_shown d n at p x e q f y = record {
  last = y.last + 1;
  before = λ r rest sp.
      let c = first semicolon y.last r rest refl refl sp in
      let o = y.before (59 ∷ r) (put semicolon y.last ∷ rest) refl (c true) in
      let text = expr_text e ++ (59 ∷ r) in
      let s2 = between equals (at + length x) text o.tokens equals_between o.splits in
      let t2 = put equals (at + length x + 1) ∷ o.tokens in
      let s1 = name_piece x at (codes " = " ++ text) t2 (own_is_name x q) refl s2 in
      restmt (four x (codes " = ") (expr_text e) (codes ";") r) (record {
        tokens = put (identifier_name x) at ∷ t2;
        tree = tree.assign at x o.tree;
        splits = s1;
        derives = rule.assign q (past d (identifier_name x) (equals ∷ []) at t2 o.tokens f (past_one d equals (at + length x + 1) o.tokens f)) o.derives (past_one d semicolon y.last rest f);
        same = ap (λ z. tree.assign 0 x z) o.same;
      });
}

stored : (a b c u v w : Expr) → erase_expr a ≡ erase_expr u → erase_expr b ≡ erase_expr v → erase_expr c ≡ erase_expr w → tree.store 0 (erase_expr a) (erase_expr b) (erase_expr c) ≡ tree.store 0 (erase_expr u) (erase_expr v) (erase_expr w)
stored a b c u v w p q r = cc

pub store_shown : (d n m l at p : ℕ) (w u z : List ℕ) (e i v : Expr) → fits (d + n) ≡ true → fits d ≡ true → (x : Shown false d 12 n at w e) → (y : Shown false (suc (d + n)) 0 m (x.last + 1) u i) → Shown false d 0 l (y.last + 1 + 1 + 1 + 1) z v
    → ShownStmt d at (w ++ codes "[" ++ u ++ codes "] = " ++ z ++ codes ";") (tree.store p e i v)
store_shown d n m l at p w u z e i v f g x y k = record {
  last = k.last + 1;
  before = λ r rest sp.
      let c = first semicolon k.last r rest refl refl sp in
      let o3 = k.before (59 ∷ r) (put semicolon k.last ∷ rest) refl (c true) in
      let text = z ++ (59 ∷ r) in
      let s3 = between equals (y.last + 1) text o3.tokens equals_between o3.splits in
      let t3 = put equals (y.last + 1 + 1) ∷ o3.tokens in
      let s2 = first close_bracket y.last (codes " = " ++ text) t3 refl refl s3 in
      let t2 = put close_bracket y.last ∷ t3 in
      let o2 = y.before (codes "] = " ++ text) t2 refl (s2 true) in
      let s1 = first open_bracket x.last (u ++ (codes "] = " ++ text)) o2.tokens refl refl (o2.splits true) in
      let o1 = x.before (codes "[" ++ (u ++ (codes "] = " ++ text))) (put open_bracket x.last ∷ o2.tokens) refl (s1 true) in
      restmt (six w (codes "[") u (codes "] = ") z (codes ";") r) (record {
        tokens = o1.tokens;
        tree = tree.store (at_of o1.tokens) o1.tree o2.tree o3.tree;
        splits = o1.splits;
        derives = rule.store {ts = o1.tokens} {e = o1.tree} o1.derives (past_one (d + n) open_bracket x.last o2.tokens f) o2.derives (past_one (d + n) close_bracket y.last t3 f)
            (past_one d equals (y.last + 1 + 1) o3.tokens g) o3.derives (past_one d semicolon k.last rest g);
        same = stored o1.tree o2.tree o3.tree e i v o1.same o2.same o3.same;
      });
}

pub perform_shown : (d n at p : ℕ) (w : List ℕ) (e : Expr) → is_call e ≡ true → fits d ≡ true → Shown true d 12 (suc n) at w e → ShownStmt d at (w ++ codes ";") (tree.perform p e)
perform_shown d n at p w e h f x = record {
  last = x.last + 1;
  before = λ r rest sp.
      let c = first semicolon x.last r rest refl refl sp in
      let o = x.before (59 ∷ r) (put semicolon x.last ∷ rest) refl (c true) in
      restmt (append_assoc w (codes ";") r) (record {
        tokens = o.tokens;
        tree = tree.perform (at_of o.tokens) o.tree;
        splits = o.splits;
        derives = rule.perform (sym (call_stays o.tree) ∙ (ap is_call o.same ∙ (call_stays e ∙ h))) o.derives (past_one d semicolon x.last rest f);
        same = ap (λ z. tree.perform 0 z) o.same;
      });
}

pub push_shown : (d n m at p : ℕ) (w u : List ℕ) (e v : Expr) → fits (d + n) ≡ true → fits d ≡ true → (x : Shown true d 12 n at w e) → Shown false (suc (d + n)) 0 m (x.last + 1 + 4 + 1) u v
    → ShownStmt d at (w ++ codes ".push(" ++ u ++ codes ");") (tree.push p e v)
push_shown d n m at p w u e v f g x y = record {
  last = y.last + 1 + 1;
  before = λ r rest sp.
      let c = first semicolon (y.last + 1) r rest refl refl sp in
      let t4 = put semicolon (y.last + 1) ∷ rest in
      let b = first right y.last (59 ∷ r) t4 refl refl (c true) in
      let o2 = y.before (codes ");" ++ r) (put right y.last ∷ t4) refl (b true) in
      let more = u ++ (codes ");" ++ r) in
      let t2 = put left (x.last + 1 + 4) ∷ o2.tokens in
      let t1 = put (word (codes "push")) (x.last + 1) ∷ t2 in
      let s2 = first left (x.last + 1 + 4) more o2.tokens refl refl (o2.splits true) in
      let s1 = first (word (codes "push")) (x.last + 1) (codes "(" ++ more) t2 refl refl (s2 true) in
      let s0 = first dot x.last (codes "push(" ++ more) t1 refl refl (s1 true) in
      let o1 = x.before (codes ".push(" ++ more) (put dot x.last ∷ t1) refl (s0 true) in
      restmt (four w (codes ".push(") u (codes ");") r) (record {
        tokens = o1.tokens;
        tree = tree.push (at_of o1.tokens) o1.tree o2.tree;
        splits = o1.splits;
        derives = rule.push {ts = o1.tokens} {e = o1.tree} o1.derives
            (past (d + n) dot (word (codes "push") ∷ left ∷ []) x.last t1 o2.tokens f
            (past (d + n) (word (codes "push")) (left ∷ []) (x.last + 1) t2 o2.tokens f (past_one (d + n) left (x.last + 1 + 4) o2.tokens f)))
            o2.derives (past_one (d + n) right y.last t4 f) (past_one d semicolon (y.last + 1) rest g);
        same = two_same (λ a b. tree.push 0 a b) o1.tree o2.tree e v o1.same o2.same;
      });
}

-- where an expression begins after a word
abbrev pub gap_end : ℕ → Expr → ℕ → ℕ
gap_end k e at = if begins_within k e (begins_with_word e) then at + 1 else at

gap_by : (b : Bool) (at : ℕ) (r : List ℕ) (ts : List Placed) → ((newlines : Bool) → Splits newlines (if b then at + 1 else at) r ts) → (newlines : Bool) → Splits newlines at ((if b then codes " " else []) ++ r) ts
gap_by true at r ts s = spaced at r ts s
gap_by false at r ts s = s

-- the space after a word, where there is one
gapped : (k : ℕ) (e : Expr) (at : ℕ) (r : List ℕ) (ts : List Placed) → ((newlines : Bool) → Splits newlines (gap_end k e at) r ts) → (newlines : Bool) → Splits newlines at (gap k e ++ r) ts
gapped k e at r ts s = gap_by (begins_within k e (begins_with_word e)) at r ts s

word_ends_by : (b : Bool) (c : ℕ) (cs : List ℕ) → is_name_byte c ≡ b → not (goes_on ((if b then codes " " else []) ++ (c ∷ cs))) ≡ true
word_ends_by true c cs q = refl
word_ends_by false c cs q = ap not q

-- before that a word ends
word_ends : (k : ℕ) (w : List ℕ) (e : Expr) (r : List ℕ) → LeadWithin k w e → not (goes_on (gap k e ++ (w ++ r))) ≡ true
word_ends k w e r h =
    ap (λ z. not (goes_on (gap k e ++ (z ++ r)))) h.is
    ∙ word_ends_by (begins_within k e (begins_with_word e)) h.c (h.cs ++ r) h.goes

none_under : (n : ℕ) → nat_lt n 0 ≡ false
none_under n = lt-leb (suc n) 0 (omega arith)

-- an expression by itself begins as it does
pub lead_alone : (e : Expr) → Lead (expr_text e) e → LeadWithin 0 (expr_text e) e
lead_alone e h = record {
  c = h.c;
  cs = h.cs;
  is = h.is;
  goes = h.goes ∙ sym (ap (λ b. if b then false else begins_with_word e) (none_under (level e)));
  equals = h.equals;
  minus = λ le no. absurd (omega (arith, le));
  part = λ le. absurd (omega (arith, le));
}

pub remove_shown : (d n m at p : ℕ) (w u : List ℕ) (e k : Expr) → fits (d + n) ≡ true → fits d ≡ true → LeadWithin 12 w e → (x : Shown false d 12 n (gap_end 12 e (at + 6)) w e) → Shown false (suc (d + n)) 0 m (x.last + 1) u k
    → ShownStmt d at (codes "delete" ++ gap 12 e ++ w ++ codes "[" ++ u ++ codes "];") (tree.remove p e k)
remove_shown d n m at p w u e k f g h x y = record {
  last = y.last + 1 + 1;
  before = λ r rest sp.
      let c = first semicolon (y.last + 1) r rest refl refl sp in
      let t4 = put semicolon (y.last + 1) ∷ rest in
      let b = first close_bracket y.last (59 ∷ r) t4 refl refl (c true) in
      let o2 = y.before (codes "];" ++ r) (put close_bracket y.last ∷ t4) refl (b true) in
      let more = codes "[" ++ (u ++ (codes "];" ++ r)) in
      let s2 = first open_bracket x.last (u ++ (codes "];" ++ r)) o2.tokens refl refl (o2.splits true) in
      let o1 = x.before more (put open_bracket x.last ∷ o2.tokens) refl (s2 true) in
      let s1 = gapped 12 e (at + 6) (w ++ more) o1.tokens o1.splits in
      let s0 = first (word (codes "delete")) at (gap 12 e ++ (w ++ more)) o1.tokens refl (word_ends 12 w e more h) (s1 true) in
      restmt (six (codes "delete") (gap 12 e) w (codes "[") u (codes "];") r) (record {
        tokens = put (word (codes "delete")) at ∷ o1.tokens;
        tree = tree.remove at o1.tree o2.tree;
        splits = s0;
        derives = rule.remove (past_one d (word (codes "delete")) at o1.tokens g) o1.derives (past_one (d + n) open_bracket x.last o2.tokens f)
            o2.derives (past_one (d + n) close_bracket y.last t4 f) (past_one d semicolon (y.last + 1) rest g);
        same = two_same (λ a b. tree.remove 0 a b) o1.tree o2.tree e k o1.same o2.same;
      });
}

pub return_shown : (d n at p : ℕ) (e : Expr) → fits d ≡ true → Lead (expr_text e) e → Shown false d 0 n (gap_end 0 e (at + 6)) (expr_text e) e → ShownStmt d at (return_text (Some e)) (tree.return p (Some e))
return_shown d n at p e f h x = record {
  last = x.last + 1;
  before = λ r rest sp.
      let c = first semicolon x.last r rest refl refl sp in
      let o = x.before (59 ∷ r) (put semicolon x.last ∷ rest) refl (c true) in
      let text = expr_text e ++ (59 ∷ r) in
      let s1 = gapped 0 e (at + 6) text o.tokens o.splits in
      let s0 = first (word (codes "return")) at (gap 0 e ++ text) o.tokens refl (word_ends 0 (expr_text e) e (59 ∷ r) (lead_alone e h)) (s1 false) in
      restmt (four (codes "return") (gap 0 e) (expr_text e) (codes ";") r) (record {
        tokens = put (word (codes "return")) at ∷ o.tokens;
        tree = tree.return at (Some o.tree);
        splits = s0;
        derives = rule.return (past_one d (word (codes "return")) at o.tokens f) (rule.returned o.derives) (past_one d semicolon x.last rest f);
        same = ap (λ z. tree.return 0 (Some z)) o.same;
      });
}

pub return_nothing_shown : (d at p : ℕ) → fits d ≡ true → ShownStmt d at (return_text None) (tree.return p None)
return_nothing_shown d at p f = record {
  last = at + 6 + 1;
  before = λ r rest sp.
      let c = first semicolon (at + 6) r rest refl refl sp in
      let t1 = put semicolon (at + 6) ∷ rest in
      record {
        tokens = put (word (codes "return")) at ∷ t1;
        tree = tree.return at None;
        splits = first (word (codes "return")) at (59 ∷ r) t1 refl refl (c false);
        derives = rule.return (past_one d (word (codes "return")) at t1 f) rule.nothing_returned (past_one d semicolon (at + 6) rest f);
        same = refl;
      };
}

pub throw_shown : (d n at p : ℕ) (e : Expr) → fits d ≡ true → Lead (expr_text e) e → Shown false d 0 n (gap_end 0 e (at + 5)) (expr_text e) e → ShownStmt d at (codes "throw" ++ gap 0 e ++ expr_text e ++ codes ";") (tree.throw p e)
throw_shown d n at p e f h x = record {
  last = x.last + 1;
  before = λ r rest sp.
      let c = first semicolon x.last r rest refl refl sp in
      let o = x.before (59 ∷ r) (put semicolon x.last ∷ rest) refl (c true) in
      let text = expr_text e ++ (59 ∷ r) in
      let s1 = gapped 0 e (at + 5) text o.tokens o.splits in
      let s0 = first (word (codes "throw")) at (gap 0 e ++ text) o.tokens refl (word_ends 0 (expr_text e) e (59 ∷ r) (lead_alone e h)) (s1 false) in
      restmt (four (codes "throw") (gap 0 e) (expr_text e) (codes ";") r) (record {
        tokens = put (word (codes "throw")) at ∷ o.tokens;
        tree = tree.throw at o.tree;
        splits = s0;
        derives = rule.throw (past_one d (word (codes "throw")) at o.tokens f) o.derives (past_one d semicolon x.last rest f);
        same = ap (λ z. tree.throw 0 z) o.same;
      });
}

-- a word that leads to a label, or none, before what follows
record OutJump (d at : ℕ) (w text : List ℕ) (l : Option Name) (rest : List Placed) : Type 0 where
  us : List Placed
  vs : List Placed
  splits : (newlines : Bool) → Splits newlines at text (put (word w) at ∷ us)
  head : after d (word w ∷ []) (put (word w) at ∷ us) ≡ Some us
  target : Target d us vs l
  tail : after d (semicolon ∷ []) vs ≡ Some rest

abbrev jump_end : ℕ → Option Name → ℕ
jump_end at None = at
jump_end at (Some x) = at + 1 + length x

jump_out : (l : Option Name) (w : List ℕ) (d at : ℕ) (r : List ℕ) (rest : List Placed) → fits d ≡ true → is_own_label l ≡ true → ((s : List ℕ) (ts : List Placed) → not (goes_on s) ≡ true → Splits false (at + length w) s ts → (newlines : Bool) → Splits newlines at (w ++ s) (put (word w) at ∷ ts))
    → Splits true (jump_end (at + length w) l + 1) r rest → OutJump d at w (jump_text w l ++ r) l rest
jump_out None w d at r rest f q there sp =
    let c = first semicolon (at + length w) r rest refl refl sp in
    let t1 = put semicolon (at + length w) ∷ rest in
    record {
      us = t1;
      vs = t1;
      splits = subst (λ z. (newlines : Bool) → Splits newlines at z (put (word w) at ∷ t1)) (sym (append_assoc w (codes ";") r)) (there (59 ∷ r) t1 refl (c false));
      head = past_one d (word w) at t1 f;
      target = rule.no_target;
      tail = past_one d semicolon (at + length w) rest f;
    }
jump_out (Some x) w d at r rest f q there sp =
    let c = first semicolon (at + length w + 1 + length x) r rest refl refl sp in
    let t2 = put semicolon (at + length w + 1 + length x) ∷ rest in
    let n = name_piece x (at + length w + 1) (59 ∷ r) t2 (own_is_name x q) refl (c true) in
    let t1 = put (identifier_name x) (at + length w + 1) ∷ t2 in
    let s = spaced (at + length w) (x ++ (59 ∷ r)) t1 n in
    record {
      us = t1;
      vs = t2;
      splits = subst (λ z. (newlines : Bool) → Splits newlines at z (put (word w) at ∷ t1)) (sym (four w (codes " ") x (codes ";") r)) (there (32 ∷ (x ++ (59 ∷ r))) t1 refl (s false));
      head = past_one d (word w) at t1 f;
      target = rule.target q (past_one d (identifier_name x) (at + length w + 1) t2 f);
      tail = past_one d semicolon (at + length w + 1 + length x) rest f;
    }

pub break_shown : (l : Option Name) (d at p : ℕ) → fits d ≡ true → is_own_label l ≡ true → ShownStmt d at (jump_text (codes "break") l) (tree.break p l)
break_shown l d at p f q = record {
  last = jump_end (at + 5) l + 1;
  before = λ r rest sp.
      let o = jump_out l (codes "break") d at r rest f q (λ s ts e sp. first (word (codes "break")) at s ts refl e sp) sp in
      record { tokens = put (word (codes "break")) at ∷ o.us; tree = tree.break at l; splits = o.splits; derives = rule.break o.head o.target o.tail; same = refl };
}

pub continue_shown : (l : Option Name) (d at p : ℕ) → fits d ≡ true → is_own_label l ≡ true → ShownStmt d at (jump_text (codes "continue") l) (tree.continue p l)
continue_shown l d at p f q = record {
  last = jump_end (at + 8) l + 1;
  before = λ r rest sp.
      let o = jump_out l (codes "continue") d at r rest f q (λ s ts e sp. first (word (codes "continue")) at s ts refl e sp) sp in
      record { tokens = put (word (codes "continue")) at ∷ o.us; tree = tree.continue at l; splits = o.splits; derives = rule.continue o.head o.target o.tail; same = refl };
}

-- What an expression makes of a state leaves the facts as they are and a plain function plain, and takes no statements back.
use Rattle.std.proofs.Common.{◌≡◌, ◌≤◌, ◌+◌, ◌-◌, ℕ, ℤ, zero, suc, List, [], ◌∷◌, length, drop, Bool, true, false, not, ◌||◌, if◌then◌else◌, Option, Some, None, refl, sym, ap, subst, ◌∙◌, arith}
use Rattle.std.proofs.lemmas.List.{length-drop}
use Rattle.gj_base.specs.declared.kind.Kind.{Kind}
use Rattle.gj_base.specs.declared.kind.Op.{Op}
use Rattle.go_core.specs.CoreTree as core
use Rattle.js_tree.specs.Script as script
use Rattle.js_facts.specs.declared.facts.Facts.{Facts}
use Rattle.js_facts.specs.Held as held
use Rattle.js_facts.specs.Held.{How, kind_held}
use Rattle.js_int.specs.Kinds.{has_halves}
use Rattle.js_body.specs.declared.body.Home.{Home}
use Rattle.js_body.specs.declared.body.Known.TheVariants as known
use Rattle.js_body.specs.State.{State, Around, Line, Value, Word, declares, assigns, depth, temp_number, temp_word, with_line, with_lines_of, with_declared, with_temp, set_name, set_temp, is_first, is_temporary, rest_of, declares_first, dropped_line, unset, can_join, joined_tree, set_joined, sides_joined, is_join, joined, just_set, only_set, settled, settled_value, pushed_value, lines_since, cut_to, last_value, popped, pushed, pushed_known, number_pushed, panicked, panicked_if, panic_tree, home_of, var_tree, slot_read, mentioned}
use Rattle.js_values.specs.Steps.{kind_in, by_last}
use Rattle.js_values.specs.Numbers.{zero_test, is_nonzero, zero_refused, is_division, guarded, binary_done, int_converted}
use Rattle.js_values.specs.Values.{text_pushed, long_refused, concatenated, wide_pushed, small_number, constant_done, zero_done, equal_at, less_at, is_text, wide_encoded, encoded, character_encoded, number_converted_at, number_converted, converted_at, converted}
use Rattle.js_values.specs.Logic.{side_test, side_line, logic_begun, sides_ended, logic_ended}
use Rattle.js_values.specs.Exprs.{Near, held_in, scalar_pushed, scalar_read, second_done, known_count, logic_closed, logic_done, expr_state}

-- after more statements, of which there are more before by the one number and after by the other
pub record KeptBut (m n : ℕ) (s z : State) : Type 0 where
  pub facts : z.around.facts ≡ s.around.facts
  pub plain : z.around.plain ≡ s.around.plain
  pub lines : m + length s.lines ≤ n + length z.lines

abbrev pub Kept : State → State → Type 0
Kept s z = KeptBut 0 0 s z

-- first to last
pub then_kept : {k m n : ℕ} (s y z : State) → KeptBut k m s y → KeptBut m n y z → KeptBut k n s z
then_kept s y z a b = record { facts = b.facts ∙ a.facts; plain = b.plain ∙ a.plain; lines = omega (arith, a.lines, b.lines) }

pub same : (s : State) → Kept s s
same s = record { facts = refl; plain = refl; lines = omega arith }

one_more : (s : State) (l : Line) → KeptBut 1 0 s (with_line l s)
one_more s l = record { facts = refl; plain = refl; lines = omega arith }

fewer : {m n : ℕ} (s z : State) → KeptBut m n s z → KeptBut 0 n s z
fewer s z k = record { facts = k.facts; plain = k.plain; lines = omega (arith, k.lines) }

if_kept : {m n : ℕ} (b : Bool) (s x y : State) → KeptBut m n s x → KeptBut m n s y → KeptBut m n s (if b then x else y)
if_kept true s x y k l = k
if_kept false s x y k l = l

-- ---- temporaries

-- but for the statements
around_kept : {m n : ℕ} (s y z : State) → KeptBut m n s y → z.around ≡ y.around → z.lines ≡ y.lines → KeptBut m n s z
around_kept {m} {n} s y z k a l = record {
  facts = ap (λ (r : Around). r.facts) a ∙ k.facts;
  plain = ap (λ (r : Around). r.plain) a ∙ k.plain;
  lines = subst (λ (ls : List Line). m + length s.lines ≤ n + length ls) (sym l) k.lines;
}

set_kept : (place : ℕ) (x : Word) (t : script.Expr) (s : State) → KeptBut 1 0 s (set_name place x t s)
set_kept place x t s =
    if_kept (is_first place s) s (with_line (declares x t) (with_declared place true s)) (with_line (assigns x t) s) (around_kept s (with_line (declares x t) s) _ (one_more s (declares x t)) refl refl)
    (one_more s (assigns x t))

temp_kept : (place : ℕ) (t : script.Expr) (s : State) → KeptBut 1 0 s (set_temp place t s)
temp_kept place t s =
    let k = set_kept place (temp_word place) t (with_temp (temp_number place) s) in
    record { facts = k.facts; plain = k.plain; lines = k.lines }

pushed_kept : (t : script.Expr) (s : State) → Kept s (pushed t s)
pushed_kept t s =
    let k = fewer s (set_temp (depth s) t s) (temp_kept (depth s) t s) in
    record { facts = k.facts; plain = k.plain; lines = k.lines }

-- after values are taken
pushed_after : (t : script.Expr) (s z : State) → Kept s z → Kept s (pushed t z)
pushed_after t s z k = then_kept s z (pushed t z) k (pushed_kept t z)

popped_kept : (s : State) → Kept s (popped s)
popped_kept s = record { facts = refl; plain = refl; lines = omega arith }

twice_popped : (s : State) → Kept s (popped (popped s))
twice_popped s = record { facts = refl; plain = refl; lines = omega arith }

settled_kept : (s : State) → Kept s (settled s)
settled_kept s =
    let v = last_value s in
    if_kept (is_temporary v.known) s (pushed_value v (popped s)) (pushed v.tree (popped s)) (record { facts = refl; plain = refl; lines = omega arith })
    (pushed_after v.tree s (popped s) (popped_kept s))

-- ---- operations

refused_kept : (k : Kind) (s : State) → Kept s (zero_refused k s)
refused_kept k s = if_kept (is_nonzero (last_value s).known) s s (by_last (zero_test k) (panicked_if 1) s) (same s) (fewer s (by_last (zero_test k) (panicked_if 1) s) (one_more s _))

guarded_kept : (o : Op) (k : Kind) (s : State) → Kept s (guarded o k s)
guarded_kept o k s = if_kept (is_division o) s (zero_refused k s) s (refused_kept k s) (same s)

binary_kept : (o : Op) (k : Kind) (s : State) → Kept s (binary_done o k s)
binary_kept o k s =
    let z = guarded o k s in
    pushed_after _ s (popped (popped z)) (then_kept s z (popped (popped z)) (guarded_kept o k s) (twice_popped z))

constant_kept : (k : Kind) (c : core.Constant) (s : State) → Kept s (constant_done k c s)
constant_kept k (core.truth_constant b) s = around_kept s s _ (same s) refl refl
constant_kept k (core.text_constant b) s =
    if_kept _ s (text_pushed [] (panicked (panic_tree 6) s)) (text_pushed b s) (around_kept s (panicked (panic_tree 6) s) _ (fewer s _ (one_more s _)) refl refl)
    (around_kept s s _ (same s) refl refl)
constant_kept k (core.whole_constant n) s = if_kept (has_halves k) s (wide_pushed n s) (number_pushed (small_number n) s) (pushed_kept _ s) (around_kept s s _ (same s) refl refl)

zero_kept : (h : How) (s : State) → Kept s (zero_done h s)
zero_kept held.truth s = around_kept s s _ (same s) refl refl
zero_kept held.text s = around_kept s s _ (same s) refl refl
zero_kept (held.small k) s = around_kept s s _ (same s) refl refl
zero_kept (held.wide k) s = pushed_kept _ s
zero_kept held.block s = same s
zero_kept held.other s = around_kept s s _ (same s) refl refl

read_kept : (n : ℕ) (s : State) → Kept s (slot_read n s)
read_kept n s = if_kept s.around.plain s (mentioned n s) s (record { facts = refl; plain = refl; lines = omega arith }) (same s)

scalar_kept : (h : Home) (t : script.Expr) (s : State) → Kept s (scalar_pushed h t s)
scalar_kept h t s = if_kept (h.boxed || not s.around.plain) s (pushed t s) (pushed_known known.Variable t s) (pushed_kept t s) (around_kept s s _ (same s) refl refl)

equal_kept : (o : Option Kind) (negated : Bool) (s : State) → Kept s (equal_at o negated s)
equal_kept (Some k) negated s = pushed_after _ s (popped (popped s)) (twice_popped s)
equal_kept None negated s = pushed_after _ s (popped (popped s)) (twice_popped s)

less_kept : (o : Option Kind) (op : Op) (s : State) → Kept s (less_at o op s)
less_kept (Some k) op s = pushed_after _ s (popped (popped s)) (twice_popped s)
less_kept None op s = pushed_after _ s (popped (popped s)) (twice_popped s)

concat_kept : (s : State) → Kept s (concatenated s)
concat_kept s =
    let z = popped (popped s) in
    let l = long_refused (last_value (popped s)).tree (last_value s).tree z in
    pushed_after _ s l (then_kept s z l (twice_popped s) (fewer z l (one_more z _)))

last_kept : (t : script.Expr) (s : State) → Kept s (pushed t (popped s))
last_kept t s = pushed_after t s (popped s) (popped_kept s)

encoded_kept : (k : Kind) (s : State) → Kept s (character_encoded k s)
encoded_kept k s = if_kept (has_halves k) s (wide_encoded s) (encoded s) (last_kept _ s) (last_kept _ s)

number_kept : (o : Option Kind) (k : Kind) (h : How) (s : State) → Kept s (number_converted_at o k h s)
number_kept (Some to) k h s = last_kept _ s
number_kept None k h s = if_kept (is_text h) s (character_encoded k s) s (encoded_kept k s) (same s)

converted_kept : (o : Option Kind) (h : How) (s : State) → Kept s (converted_at o h s)
converted_kept (Some k) h s = number_kept (kind_in h) k h s
converted_kept None h s = same s

second_kept : (n : Option ℤ) (f : State → State) (s : State) → Kept s (f s) → Kept s (second_done n f s)
second_kept (Some n) f s h = around_kept s s _ (same s) refl refl
second_kept None f s h = h

-- ---- `&&` and `||`

shorter : (ls : List Line) → length ls ≤ 1 + length (rest_of ls)
shorter [] = omega arith
shorter (l ∷ ls) = omega arith

unset_kept : (place : ℕ) (s : State) → KeptBut 0 1 s (unset place s)
unset_kept place s =
    let k : KeptBut 0 1 s (dropped_line s) = record { facts = refl; plain = refl; lines = omega (arith, shorter s.lines) } in
    if_kept (declares_first s.lines) s (with_declared place false (dropped_line s)) (dropped_line s) (around_kept s (dropped_line s) _ k refl refl) k

joined_kept : (place : ℕ) (both : Bool) (x y : Option script.Expr) (s : State) → Kept s (sides_joined place both x y s)
joined_kept place both (Some t) (Some u) s =
    let z = unset place s in
    if_kept (can_join t u) s (set_joined place both t u s) s (then_kept s z (set_joined place both t u s) (unset_kept place s) (temp_kept place (joined_tree both t u) z)) (same s)
joined_kept place both (Some t) None s = same s
joined_kept place both None y s = same s

ended_kept : (both : Bool) (t : script.Expr) (ls : List Line) (s : State) → Kept s (sides_ended both t ls s)
ended_kept both t ls s =
    if_kept (is_join ls s) s (joined both ls s) (with_line (side_line t ls) s) (joined_kept (depth s - 1) both (just_set s) (only_set (depth s - 1) ls) s) (fewer s _ (one_more s (side_line t ls)))

pub begun_kept : (s : State) → Kept s (logic_begun s)
begun_kept s = then_kept s (settled s) (logic_begun s) (settled_kept s) (popped_kept (settled s))

-- as many statements are left as stood before the right side
pub mark_kept : (s z : State) → Kept s z → length s.lines ≡ length (cut_to (length s.lines) (settled z)).lines
mark_kept s z k =
    let end = settled z in
    let n = length end.lines - length s.lines in
    let h : length s.lines ≤ length end.lines = omega (arith, (then_kept s z end k (settled_kept z)).lines) in
    let e : length s.lines ≡ length (drop n end.lines) = omega (arith, length-drop n end.lines, h) in
    e

cut_kept : (s z : State) → Kept s z → Kept s (cut_to (length s.lines) (settled z))
cut_kept s z k =
    let h = then_kept s z (settled z) k (settled_kept z) in
    record { facts = h.facts; plain = h.plain; lines = omega (arith, mark_kept s z k) }

logic_kept : (goes_on : Bool) (f : State → State) (s : State) → ((z : State) → Kept z (f z)) → Kept s (logic_done goes_on f s)
logic_kept goes_on f s h =
    let m = logic_begun s in
    let z = cut_to (length m.lines) (settled (f m)) in
    then_kept s m (logic_done goes_on f s) (begun_kept s)
    (then_kept m z (logic_done goes_on f s) (cut_kept m (f m) (h m)) (ended_kept goes_on (side_test goes_on (last_value (settled s)).tree) (lines_since (length m.lines) (settled (f m))) z))

-- ---- expressions

pub expr_kept : (v : core.Expr) (s : State) → Kept s (expr_state v s)
expr_kept (core.constant t c) s = constant_kept _ c s
expr_kept (core.zero_value t) s = zero_kept _ s
expr_kept (core.read t (core.local_ v)) s =
    let h = home_of (record { 0 = v }) s in
    let z = slot_read h.slot s in
    then_kept s z (scalar_read h s) (read_kept h.slot s) (scalar_kept h (var_tree h s) z)
expr_kept (core.unary o t e) s = then_kept s (expr_state e s) _ (expr_kept e s) (last_kept _ (expr_state e s))
expr_kept (core.binary o t l r) s =
    let m = expr_state l s in
    let n = second_done (known_count o r) (expr_state r) m in
    then_kept s m _ (expr_kept l s) (then_kept m n _ (second_kept (known_count o r) (expr_state r) m (expr_kept r m)) (binary_kept o _ n))
expr_kept (core.concat t l r) s =
    let m = expr_state l s in
    let n = expr_state r m in
    then_kept s m _ (expr_kept l s) (then_kept m n _ (expr_kept r m) (concat_kept n))
expr_kept (core.equal negated u t l r) s =
    let m = expr_state l s in
    let n = expr_state r m in
    then_kept s m _ (expr_kept l s) (then_kept m n _ (expr_kept r m) (equal_kept _ negated n))
expr_kept (core.less o u t l r) s =
    let m = expr_state l s in
    let n = expr_state r m in
    then_kept s m _ (expr_kept l s) (then_kept m n _ (expr_kept r m) (less_kept _ o n))
expr_kept (core.and_then t l r) s =
    let m = expr_state l s in
    then_kept s m _ (expr_kept l s) (logic_kept true (expr_state r) m (λ z. expr_kept r z))
expr_kept (core.or_else t l r) s =
    let m = expr_state l s in
    then_kept s m _ (expr_kept l s) (logic_kept false (expr_state r) m (λ z. expr_kept r z))
expr_kept (core.not_ t e) s = then_kept s (expr_state e s) _ (expr_kept e s) (last_kept _ (expr_state e s))
expr_kept (core.convert from t e) s = then_kept s (expr_state e s) _ (expr_kept e s) (converted_kept _ _ (expr_state e s))
expr_kept _ s = same s

-- the facts stay, and so does whether the function is plain
pub near_on : {f : Facts} {plain : Bool} (s z : State) → Kept s z → Near f plain s → Near f plain z
near_on s z k n = (k.facts ∙ n.0, k.plain ∙ n.1)

-- A script whose tree has no text: `String(` 999 times, and in them `($a.length)[0]`.
-- There `0` is nested 1000 deep. In `$a.length[0]` it is nested 1001 deep, since the length stands before it in its chain.
use Rattle.std.proofs.Common.{arith, ◌≡◌, ◌∙◌, subst, ap, ℕ, zero, suc, ◌+◌, List, [], ◌∷◌, ◌++◌, length, true, false, refl}
use Rattle.std.specs.Prelude.{◌&&◌, codes}
use Rattle.std.proofs.lemmas.Bool.{le-leb}
use Rattle.js_tree.specs.Script.{Name, Expr, number, name, index, length_of, decimal_of, Item, global_item, ScriptTree}
use Rattle.js_tree.specs.Printed.{expr_text, in_parentheses, string_word, preamble}
use Rattle.js_tree.specs.Printable.{fits, expr_fits, is_printable}
use Rattle.js_grammar.specs.ReadBack.{HasNoText}
use Rattle.js_grammar.proofs.PrintedTokens.{Shown}
use Rattle.js_grammar.proofs.PrintedWithin.{alone, strict, wrap, loosen}
use Rattle.js_grammar.proofs.PrintedAtoms.{decimal_shown}
use Rattle.js_grammar.proofs.PrintedParts.{index_shown}
use Rattle.js_grammar.proofs.PrintedExpr.{show}
use Rattle.js_grammar.proofs.PrintedBlocks.{declared_shown}
use Rattle.js_grammar.proofs.PrintedItems.{show_items, global_first, ended}
use Rattle.js_grammar.proofs.PrintedPlaces.{same_printable}

abbrev a : Name
a = codes "$a"

abbrev long : Expr
long = length_of 0 (name 0 a)

-- so many conversions round `$a.length[0]`
strings : ℕ → Expr
strings zero = index 0 long (number 0 0)
strings (suc n) = decimal_of 0 (strings n)

-- with spare parentheses
text : ℕ → List ℕ
text zero = in_parentheses (expr_text long) ++ codes "[" ++ expr_text (number 0 0) ++ codes "]"
text (suc n) = string_word ++ text n ++ codes ")"

record Found (d at n : ℕ) : Type 0 where
  k : ℕ
  shown : Shown false d 0 k at (text n) (strings n)

last_shown : (at : ℕ) → Shown true 999 12 1 at (in_parentheses (expr_text long) ++ codes "[" ++ expr_text (number 0 0) ++ codes "]") (index 0 long (number 0 0))
last_shown at =
    let x = alone long 1000 (at + 1) (show long) refl in
    let w : Shown false 999 12 0 at (in_parentheses (expr_text long)) long = wrap false 999 x.n at (expr_text long) long refl x.shown in
    let y = alone (number 0 0) 1000 (w.last + 1) (show (number 0 0)) refl in
    index_shown 999 0 y.n at 0 (in_parentheses (expr_text long)) (expr_text (number 0 0)) long (number 0 0) refl w y.shown

found : (n d at : ℕ) → d + n ≡ 999 → Found d at n
unfolding strings text
found zero d at q =
    let here : 999 ≡ d = omega (arith, q) in
    let x = strict true (loosen true 999 12 0 1 at (text zero) (strings zero) (omega arith) (omega arith) (last_shown at)) in
    record { k = 0; shown = subst (λ z. Shown false z 0 0 at (text zero) (strings zero)) here x }
found (suc n) d at q =
    let x = found n (suc d) (at + 6 + 1) (omega (arith, q)) in
    let f : fits d ≡ true = le-leb d 1000 (omega (arith, q)) in
    let y = decimal_shown d x.k at 0 (text n) (strings n) f x.shown in
    record { k = 0; shown = strict true (loosen true d 12 0 0 at (text (suc n)) (strings (suc n)) (omega arith) (omega arith) y) }

unfit : (n d : ℕ) → d + n ≡ 999 → expr_fits d (strings n) ≡ false
unfolding strings
unfit zero d q = let here : 999 ≡ d = omega (arith, q) in subst (λ z. expr_fits z (index 0 long (number 0 0)) ≡ false) here refl
unfit (suc n) d q = unfit n (suc d) (omega (arith, q))

-- `var $a = ` and that, and a call of `$a`
abbrev items : List Item
items = global_item 0 a (strings 999) ∷ []

abbrev script : ScriptTree
script = record { items = items; start = a; start_at = 0 }

abbrev bytes : List ℕ
bytes = preamble ++ (codes "var " ++ a ++ codes " = " ++ text 999 ++ codes ";" ++ codes "\n" ++ []) ++ a ++ codes "();\n"

no_text_of : (e : Expr) → expr_fits 0 e ≡ false → is_printable (record { items = global_item 0 a e ∷ []; start = a; start_at = 0 }) ≡ false
no_text_of e q = ap (λ z. z && true && true) q

pub has_no_text : HasNoText
has_no_text =
    let start = length preamble in
    let x = found 999 0 (start + 3 + 1 + length a + 1 + 1 + 1) refl in
    let d = declared_shown 0 x.k start a (text 999) (strings 999) refl refl x.shown in
    let y = global_first 0 start a (strings 999) [] (codes "var " ++ a ++ codes " = " ++ text 999 ++ codes ";") [] refl d (show_items [] (d.last + 1) refl) in
    let h = ended items (codes "var " ++ a ++ codes " = " ++ text 999 ++ codes ";" ++ codes "\n" ++ []) a refl y in
    record {
      bytes = bytes;
      tree = h.tree;
      is_script = h.is_script;
      no_text = same_printable script h.tree h.same ∙ no_text_of (strings 999) (unfit 999 0 refl);
    }

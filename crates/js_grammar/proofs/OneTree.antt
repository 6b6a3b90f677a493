-- A text has at most one list of tokens, and so bytes are a script with at most one tree.
use Rattle.std.proofs.Common.{arith, ◌≡◌, ◌∙◌, sym, subst, ap, ℕ, ◌+◌, List, [], ◌∷◌, ◌++◌, length, Some, Bool, true, false, refl, append_assoc, append-nil}
use Rattle.js_tree.specs.Lexical.{Token, Placed, is_gap, spelling, Splits, end, token}
use Rattle.js_tree.specs.Printed.{preamble}
use Rattle.js_tree.specs.Script.{ScriptTree}
use Rattle.js_tree.specs.Scripts.{Body, IsScript}
use Rattle.std.proofs.lemmas.List.{append_cancel_left}
use Rattle.js_grammar.specs.Scan.{token_at}
use Rattle.js_grammar.proofs.Words.{both_true}
use Rattle.js_grammar.proofs.Lexing.{token_exact}
use Rattle.js_grammar.proofs.Splitting.{put, is_space, seen, Goes, gap_back, token_back, end_back, splits_at, space_none, none_some}

-- past a gap
strip : (newlines : Bool) (at : ℕ) (gap text : List ℕ) (all : List Placed) → is_gap newlines gap ≡ true → Splits newlines at (gap ++ text) all → Splits newlines (at + length gap) text all
strip newlines at [] text all q s = let e : at ≡ at + length {A = ℕ} [] = omega arith in splits_at newlines at (at + length {A = ℕ} []) text all e s
strip newlines at (c ∷ cs) text all q s =
    let b = both_true (is_space newlines c) (is_gap newlines cs) q in
    let e : at + 1 + length cs ≡ at + length (c ∷ cs) = omega arith in
    splits_at newlines (at + 1 + length cs) (at + length (c ∷ cs)) text all e (strip newlines (at + 1) cs text all b.1 (gap_back newlines at c (cs ++ text) all b.0 (seen s)))

space_of : (newlines : Bool) (c : ℕ) (cs : List ℕ) (a : Token × List ℕ) (b : Bool) → is_space newlines c ≡ b → token_at (c ∷ cs) ≡ Some a → b ≡ false
space_of newlines c cs a true q f = none_some a (token_at (c ∷ cs)) (space_none newlines c cs q) f
space_of newlines c cs a false q f = refl

-- a token that stands first is the first of any list
first_token : (newlines : Bool) (at : ℕ) (text rest : List ℕ) (t : Token) (all : List Placed) → token_at text ≡ Some (t, rest) → Splits newlines at text all → Goes newlines at t rest all
first_token newlines at [] rest t all f s = none_some (t, rest) (token_at []) refl f
first_token newlines at (c ∷ cs) rest t all f s = token_back newlines at c cs rest t all (space_of newlines c cs (t, rest) (is_space newlines c) refl f) f (seen s)

pub one_list : {newlines : Bool} {at : ℕ} {text : List ℕ} {a : List Placed} → Splits newlines at text a → (b : List Placed) → Splits newlines at text b → a ≡ b
one_list {newlines = newlines} {at = at} (end gap q) b s =
    sym (end_back newlines (at + length gap) b (seen (strip newlines at gap [] b q (subst (λ z. Splits newlines at z b) (sym (append-nil gap)) s))))
one_list {newlines = newlines} {at = at} (token {rest = rest} {tokens = tokens} gap t q p k s) b r =
    let past = strip newlines at gap (spelling t ++ rest) b q (subst (λ z. Splits newlines at z b) (append_assoc gap (spelling t) rest) r) in
    let g = first_token newlines (at + length gap) (spelling t ++ rest) rest t b (token_exact t rest p k) past in
    ap (λ z. put t (at + length gap) ∷ z) (one_list s g.tail g.splits) ∙ sym g.is

-- bytes are a script with at most one tree
pub one_script : (one : (ts : List Placed) (s t : ScriptTree) → Body ts s → Body ts t → s ≡ t) (bytes : List ℕ) (s t : ScriptTree) → IsScript bytes s → IsScript bytes t → s ≡ t
one_script one bytes s t a b =
    let bodies : a.body ≡ b.body = append_cancel_left preamble a.body b.body (sym a.begins ∙ b.begins) in
    let tokens : a.tokens ≡ b.tokens = one_list a.splits b.tokens (subst (λ z. Splits true (length preamble) z b.tokens) (sym bodies) b.splits) in
    one a.tokens s t a.derives (subst (λ z. Body z t) (sym tokens) b.derives)

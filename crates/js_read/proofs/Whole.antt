-- From the tokens of bytes and their reading to the script that the bytes are.
use Rattle.std.proofs.Common.{arith, ◌≡◌, ◌∙◌, sym, subst, ap, inl, inr, ℕ, ◌<◌, List, [], ◌∷◌, ◌++◌, length, drop, Bool, true, false, refl, eq-eqb}
use Rattle.std.specs.Prelude.{Result, Ok, Err, MatchResult, IsErrAnd, ◌==◌, ◌&&◌, ◌⊎◌}
use Rattle.std.proofs.lemmas.Bool.{eqb-true}
use Rattle.std.proofs.Math.Seq.{drop-append_seam}
use Rattle.js_tree.specs.Lexical.{Placed, Splits, begins}
use Rattle.js_tree.specs.Printed.{preamble}
use Rattle.js_tree.specs.Script.{ScriptTree}
use Rattle.js_tree.specs.Scripts.{IsScript}
use Rattle.js_tree.specs.View.{script_view}
use Rattle.js_tree.specs.declared.tree.Script.{Script}
use Rattle.js_grammar.specs.declared.refusal.ReadRefusal.{ReadRefusal}
use Rattle.js_grammar.specs.declared.refusal.ReadRefusal.TheVariants.{Syntax, NoMemory}
use Rattle.js_grammar.specs.declared.token.Token.{Token}
use Rattle.js_grammar.specs.Tokens.{places}
use Rattle.js_grammar.specs.Goals.{whole}
use Rattle.js_grammar.specs.Laws.{ReadsScripts, ReadsOnce, HasOneList}
use Rattle.js_grammar.specs.Lexed.{Unsplit}
use Rattle.js_grammar.specs.Lexed as lexed
use Rattle.js_grammar.specs.Reads.{Reads}
use Rattle.js_read.specs.Unread.{Treeless, out_of_room, no_tree, at_start, Unread, out_of_memory, no_script}

both_true : (a b : Bool) → (a && b) ≡ true → (a ≡ true) × (b ≡ true)
both_true true b q = (refl, q)
both_true false b q = absurd (cc)

front_is : (p bytes : List ℕ) → begins p bytes ≡ true → bytes ≡ p ++ drop (length p) bytes
front_is [] bytes q = refl
front_is (c ∷ cs) [] q = absurd (cc)
front_is (c ∷ cs) (x ∷ xs) q =
    let b = both_true (c == x) (begins cs xs) q in
    ap (λ z. z ∷ xs) (sym (eqb-true c x b.0)) ∙ ap (λ z. c ∷ z) (front_is cs xs b.1)

begins_so : (p rest : List ℕ) → begins p (p ++ rest) ≡ true
begins_so [] rest = refl
begins_so (c ∷ cs) rest = ap (λ z. z && begins cs (cs ++ rest)) (eq-eqb c c refl) ∙ begins_so cs rest

clash : {X : Type 0} (b : Bool) → b ≡ true → b ≡ false → X
clash b p q = absurd (cc)

-- bytes that begin with the preamble, and whose tokens are read to the last
a_script : ReadsScripts → (bytes : List ℕ) (n : ℕ) (ts : List Placed) (s : ScriptTree) → begins preamble bytes ≡ true → n ≡ length preamble → Splits true n (drop n bytes) ts
    → Reads whole ts (Ok (s, [])) → IsScript bytes s
a_script law bytes n ts s b e p r = record {
  body = drop (length preamble) bytes;
  tokens = ts;
  begins = front_is preamble bytes b;
  splits = subst (λ z. Splits true z (drop z bytes) ts) e p;
  derives = (law ts s).0 r;
}

-- bytes without the preamble are no script
pub no_front : (bytes f : List ℕ) (b : Bool) (e : ReadRefusal) → f ≡ preamble → b ≡ begins f bytes → b ≡ false → e ≡ Syntax 0 → Unread bytes e
no_front bytes f b e p i q w = no_script w (λ s k. clash (begins preamble bytes) (ap (begins preamble) k.begins ∙ begins_so preamble k.body) (ap (λ z. begins z bytes) (sym p) ∙ (sym i ∙ q)))

splits_so : (bytes : List ℕ) (n : ℕ) (s : ScriptTree) → n ≡ length preamble → (k : IsScript bytes s) → Splits true n (drop n bytes) k.tokens
splits_so bytes n s e k =
    let body : drop (length preamble) bytes ≡ k.body = ap (drop (length preamble)) k.begins ∙ drop-append_seam preamble k.body in
    subst (λ z. Splits true z (drop z bytes) k.tokens) (sym e) (subst (λ z. Splits true (length preamble) z k.tokens) (sym body) k.splits)

-- bytes without tokens are no script
no_tokens : (bytes : List ℕ) (n : ℕ) (e : ReadRefusal) → n ≡ length preamble → Unsplit (drop n bytes) n e → Unread bytes e
no_tokens bytes n e q (lexed.out_of_memory m) = out_of_memory m
no_tokens bytes n e q (lexed.not_split m none) = no_script m (λ s k. none k.tokens (splits_so bytes n s q k))

-- so they are refused
pub unread : (bytes f : List ℕ) (n : ℕ) (r : Result Script ReadRefusal) (e : ReadRefusal) → n ≡ length f → f ≡ preamble → IsErrAnd r (λ x. x ≡ e) → Unsplit (drop n bytes) n e
    → MatchResult r (λ s. IsScript bytes (script_view s)) (λ e. Unread bytes e)
unread bytes f n (Err x) e p q h u = subst (λ z. Unread bytes z) (sym h) (no_tokens bytes n e (p ∙ ap length q) u)
unread bytes f n (Ok x) e p q h u = absurd h

-- bytes whose tokens have no tree are no script
no_body : ReadsScripts → HasOneList → (bytes : List ℕ) (n : ℕ) (ts : List Placed) → n ≡ length preamble → Splits true n (drop n bytes) ts → ((s : ScriptTree) → Reads whole ts (Ok (s, [])) → ⊥)
    → (s : ScriptTree) → IsScript bytes s → ⊥
no_body law one bytes n ts e p none s k =
    let same : ts ≡ k.tokens = one (drop n bytes) n ts k.tokens p (splits_so bytes n s e k) in
    none s (subst (λ z. Reads whole z (Ok (s, []))) (sym same) ((law k.tokens s).1 k.derives))

-- what is read of the tokens of bytes is what is read of the bytes
answer_of : ReadsScripts → HasOneList → (bytes : List ℕ) (n : ℕ) (ts : List Placed) (r : Result Script ReadRefusal) → begins preamble bytes ≡ true → n ≡ length preamble → Splits true n (drop n bytes) ts
    → MatchResult r (λ s. Reads whole ts (Ok (script_view s, []))) (λ e. Treeless ts e) → MatchResult r (λ s. IsScript bytes (script_view s)) (λ e. Unread bytes e)
answer_of law one bytes n ts (Ok s) b e p h = a_script law bytes n ts (script_view s) b e p h
answer_of law one bytes n ts (Err x) b e p (out_of_room q) = out_of_memory q
answer_of law one bytes n ts (Err x) b e p (no_tree q h) = no_script q (no_body law one bytes n ts e p h)

pub all_read : ReadsScripts → HasOneList → (bytes f : List ℕ) (t : Bool) (n : ℕ) (ts : List Placed) (r : Result Script ReadRefusal) → f ≡ preamble → t ≡ begins f bytes → t ≡ true → n ≡ length f → Splits true n (drop n bytes) ts
    → MatchResult r (λ s. Reads whole ts (Ok (script_view s, []))) (λ e. Treeless ts e) → MatchResult r (λ s. IsScript bytes (script_view s)) (λ e. Unread bytes e)
all_read law one bytes f t n ts r q i b e p h = answer_of law one bytes n ts r (ap (λ z. begins z bytes) (sym q) ∙ (sym i ∙ b)) (e ∙ ap length q) p h

neither : (n : ℕ) (p : ScriptTree × List Placed) (r : Result (ScriptTree × List Placed) ReadRefusal) → r ≡ Err (Syntax n) → (r ≡ Ok p) ⊎ (r ≡ Err NoMemory) → ⊥
neither n p r q (inl h) = cc
neither n p r q (inr h) = cc

-- tokens that are refused have no tree
refused_whole : ReadsOnce → (ts : List Placed) (n : ℕ) → Reads whole ts (Err (Syntax n)) → (s : ScriptTree) → Reads whole ts (Ok (s, [])) → ⊥
refused_whole once ts n r s k =
    let p : ScriptTree × List Placed = (s, []) in
    let x : Result (ScriptTree × List Placed) ReadRefusal = Err (Syntax n) in
    neither n p x refl (once ts p x k r)

long_empty : (us : List Token) → 0 < length us → [] ≡ places us → ⊥
long_empty [] h q = omega (arith, h)
long_empty (u ∷ us) h q = cc

one_pair : (a b : ScriptTree × List Placed) (r : Result (ScriptTree × List Placed) ReadRefusal) → r ≡ Ok a → r ≡ Ok b → a ≡ b
one_pair a b r p q = cc

same_rest : (t s : ScriptTree) (us : List Placed) (r : Result (ScriptTree × List Placed) ReadRefusal) → r ≡ Ok (t, us) → (r ≡ Ok (s, [])) ⊎ (r ≡ Err NoMemory) → [] ≡ us
same_rest t s us r q (inl h) = ap (λ (z : ScriptTree × List Placed). z.1) (one_pair (s, []) (t, us) r h q)
same_rest t s us r q (inr h) = absurd (cc)

-- nor have tokens of which some are left
pub left_over : ReadsOnce → (ts : List Placed) (us : List Token) (t : ScriptTree) (e : ReadRefusal) → Reads whole ts (Ok (t, places us)) → 0 < length us → e ≡ Syntax 0 → Treeless ts e
left_over once ts us t e r h q = no_tree q (λ s k. long_empty us h (same_rest t s (places us) (Ok (t, places us)) refl (once ts (s, []) (Ok (t, places us)) k r)))

none_left : (us : List Token) → length us ≡ 0 → places us ≡ []
none_left [] h = refl
none_left (u ∷ us) h = absurd (omega (arith, h))

-- all tokens are read
pub all_of : (ts : List Placed) (us : List Token) (t : ScriptTree) → Reads whole ts (Ok (t, places us)) → length us ≡ 0 → Reads whole ts (Ok (t, []))
all_of ts us t r h = subst (λ z. Reads whole ts (Ok (t, z))) (none_left us h) r

treeless_at : ReadsOnce → (ts : List Placed) (e : ReadRefusal) → Reads whole ts (Err e) → Treeless ts (at_start e)
treeless_at once ts (Syntax n) r = no_tree refl (refused_whole once ts n r)
treeless_at once ts NoMemory r = out_of_room refl

-- what the code answers of tokens that are refused
pub treeless : ReadsOnce → (ts : List Placed) (e z : ReadRefusal) → Reads whole ts (Err e) → z ≡ at_start e → Treeless ts z
treeless once ts e z r q = subst (λ z. Treeless ts z) (sym q) (treeless_at once ts e r)

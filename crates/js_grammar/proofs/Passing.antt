-- How the tokens that have been read stand to those of the whole text.
use Rattle.std.proofs.Common.{arith, ◌≡◌, ◌∙◌, sym, subst, ap, ℕ, ◌+◌, ◌-◌, ◌<◌, ◌≤◌, List, [], ◌∷◌, ◌++◌, length, take, drop, get_or, Some, None, Bool, true, false, refl, append_assoc, append-nil, add-one, drop-cons}
use Rattle.std.specs.Prelude.{not, Option, IfSome}
use Rattle.std.proofs.lemmas.List.{drop-drop, length-drop, drop_all, take_all}
use Rattle.std.proofs.Math.ListN.{length-append}
use Rattle.js_tree.specs.Lexical.{Token, Placed, spelling, is_restricted, Splits, end}
use Rattle.js_grammar.specs.Scan.{token_at}
use Rattle.js_grammar.specs.declared.token.Lexeme.{Lexeme}
use Rattle.js_grammar.specs.declared.token.Token as code
use Rattle.js_grammar.specs.Tokens.{lexeme_view, placed, places}
use Rattle.js_grammar.specs.Lexed.{found_as}
use Rattle.js_grammar.proofs.Lexing.{token_found}
use Rattle.js_grammar.proofs.Splitting.{put, is_space, seen, gap_step, token_step, gap_back, token_back, no_token}

-- what is left of a list of tokens after its front
pub record Rest (newlines : Bool) (at : ℕ) (text : List ℕ) (front all : List Placed) : Type 0 where
  pub tail : List Placed
  pub is : all ≡ front ++ tail
  pub splits : Splits newlines at text tail

-- the bytes up to an offset are these tokens, whatever follows
pub record Passed (bytes : List ℕ) (from at : ℕ) (newlines : Bool) (front : List Placed) : Type 0 where
  pub ahead : (tail : List Placed) → Splits newlines at (drop at bytes) tail → Splits true from (drop from bytes) (front ++ tail)
  pub back : (all : List Placed) → Splits true from (drop from bytes) all → Rest newlines at (drop at bytes) front all

pub passed_none : (bytes : List ℕ) (from : ℕ) → Passed bytes from from true []
passed_none bytes from = record { ahead = λ tail s. s; back = λ all s. record { tail = all; is = refl; splits = s } }

split_at : (bytes : List ℕ) (at : ℕ) → at < length bytes → drop at bytes ≡ get_or bytes at 0 ∷ drop (at + 1) bytes
split_at bytes at lt = drop-cons bytes at 0 lt ∙ ap (λ z. get_or bytes at 0 ∷ drop z bytes) (sym (add-one at))

-- past a byte between tokens
pub passed_space : (bytes : List ℕ) (from at : ℕ) (newlines : Bool) (front : List Placed) → at < length bytes → is_space newlines (get_or bytes at 0) ≡ true
    → Passed bytes from at newlines front → Passed bytes from (at + 1) newlines front
passed_space bytes from at newlines front lt q p =
    let split = split_at bytes at lt in
    let c = get_or bytes at 0 in
    let cs = drop (at + 1) bytes in
    record {
      ahead = λ tail s. p.ahead tail (subst (λ z. Splits newlines at z tail) (sym split) (gap_step newlines at c cs tail q s));
      back = λ all s. let r = p.back all s in record { tail = r.tail; is = r.is; splits = gap_back newlines at c cs r.tail q (seen (subst (λ z. Splits newlines at z r.tail) split r.splits)) };
    }

-- a token that leaves this text has so many bytes
as_long : (text s : List ℕ) (n : ℕ) → text ≡ s ++ drop n text → n ≤ length text → n ≡ length s
as_long text s n q le =
    let a : length text ≡ length s + length (drop n text) = ap length q ∙ length-append s (drop n text) in
    let b : length (drop n text) ≡ length text - n = length-drop n text in
    omega arith

-- past a token
pub passed_token : (bytes : List ℕ) (from at n : ℕ) (newlines : Bool) (t : Token) (front : List Placed) → at < length bytes → is_space newlines (get_or bytes at 0) ≡ false
    → token_at (drop at bytes) ≡ Some (t, drop n (drop at bytes)) → n ≤ length (drop at bytes)
    → Passed bytes from at newlines front → Passed bytes from (at + n) (not (is_restricted t)) (front ++ put t at ∷ [])
passed_token bytes from at n newlines t front lt q f le p =
    let split = split_at bytes at lt in
    let c = get_or bytes at 0 in
    let cs = drop (at + 1) bytes in
    let text = drop at bytes in
    let rest = drop n text in
    let long = as_long text (spelling t) n (token_found text t rest f).is le in
    let after : rest ≡ drop (at + n) bytes = drop-drop n at bytes in
    let f2 : token_at (c ∷ cs) ≡ Some (t, rest) = ap token_at (sym split) ∙ f in
    record {
      ahead = λ tail s.
          let s2 : Splits (not (is_restricted t)) (at + length (spelling t)) rest tail =
          subst (λ z. Splits (not (is_restricted t)) (at + z) rest tail) long (subst (λ z. Splits (not (is_restricted t)) (at + n) z tail) (sym after) s) in
          subst (λ z. Splits true from (drop from bytes) z) (sym (append_assoc front (put t at ∷ []) tail)) (p.ahead (put t at ∷ tail) (token_step newlines at text rest t tail f s2));
      back = λ all s.
          let r = p.back all s in
          let g = token_back newlines at c cs rest t r.tail q f2 (seen (subst (λ z. Splits newlines at z r.tail) split r.splits)) in
          record {
            tail = g.tail;
            is = r.is ∙ (ap (λ z. front ++ z) g.is ∙ sym (append_assoc front (put t at ∷ []) g.tail));
            splits = subst (λ z. Splits (not (is_restricted t)) (at + n) z g.tail) after (subst (λ z. Splits (not (is_restricted t)) (at + z) rest g.tail) (sym long) g.splits);
          };
    }

-- to the end
pub passed_all : (bytes : List ℕ) (from at : ℕ) (newlines : Bool) (front : List Placed) → length bytes ≤ at → Passed bytes from at newlines front → Splits true from (drop from bytes) front
passed_all bytes from at newlines front le p =
    subst (λ z. Splits true from (drop from bytes) z) (append-nil front) (p.ahead [] (subst (λ z. Splits newlines at z []) (sym (drop_all at bytes le)) (end [] refl)))

-- where no token stands the text is not made of tokens
pub passed_wrong : (bytes : List ℕ) (from at : ℕ) (newlines : Bool) (front : List Placed) → at < length bytes → is_space newlines (get_or bytes at 0) ≡ false
    → token_at (drop at bytes) ≡ None → Passed bytes from at newlines front → (all : List Placed) → Splits true from (drop from bytes) all → ⊥
passed_wrong bytes from at newlines front lt q f p all s =
    let split = split_at bytes at lt in
    let r = p.back all s in
    no_token newlines at (get_or bytes at 0) (drop (at + 1) bytes) r.tail q (ap token_at (sym split) ∙ f) (seen (subst (λ z. Splits newlines at z r.tail) split r.splits))

-- the rest of a slice from an offset on
rest_is : (bytes : List ℕ) (at : ℕ) → take (length bytes - at) (drop at bytes) ≡ drop at bytes
rest_is bytes at = let e : length (drop at bytes) ≡ length bytes - at = length-drop at bytes in take_all (length bytes - at) (drop at bytes) (omega arith)

abbrev from_on : List ℕ → ℕ → List ℕ
from_on bytes at = take (length bytes - at) (drop at bytes)

pub found_none : (bytes : List ℕ) (at : ℕ) (o : Option (Lexeme × ℕ)) → token_at (from_on bytes at) ≡ found_as o (from_on bytes at) → o ≡ None → token_at (drop at bytes) ≡ None
found_none bytes at o q e = subst (λ z. token_at z ≡ None) (rest_is bytes at) (q ∙ ap (λ z. found_as z (from_on bytes at)) e)

pub found_some : (bytes : List ℕ) (at : ℕ) (o : Option (Lexeme × ℕ)) (l : Lexeme) (n : ℕ) → token_at (from_on bytes at) ≡ found_as o (from_on bytes at) → o ≡ Some (l, n)
    → token_at (drop at bytes) ≡ Some (lexeme_view l, drop n (drop at bytes))
found_some bytes at o l n q e = subst (λ z. token_at z ≡ Some (lexeme_view l, drop n z)) (rest_is bytes at) (q ∙ ap (λ z. found_as z (from_on bytes at)) e)

pub found_within : (bytes : List ℕ) (at : ℕ) (o : Option (Lexeme × ℕ)) (l : Lexeme) (n : ℕ) → IfSome o (λ p. (0 < p.1) × (p.1 ≤ length (from_on bytes at))) → o ≡ Some (l, n) → (0 < n) × (n ≤ length (drop at bytes))
found_within bytes at o l n h e =
    subst (λ z. (0 < n) × (n ≤ length z)) (rest_is bytes at) (subst (λ (z : Option (Lexeme × ℕ)). IfSome z (λ p. (0 < p.1) × (p.1 ≤ length (from_on bytes at)))) e h)

places_more : (ts : List code.Token) (l : Lexeme) (at : ℕ) → places (ts ++ record { lexeme = l; at = at } ∷ []) ≡ places ts ++ put (lexeme_view l) at ∷ []
places_more [] l at = refl
places_more (t ∷ ts) l at = ap (λ z. placed t ∷ z) (places_more ts l at)

-- past a token of the program
pub passed_more : (bytes : List ℕ) (from at n : ℕ) (newlines r : Bool) (l : Lexeme) (ts us : List code.Token) → at < length bytes → is_space newlines (get_or bytes at 0) ≡ false
    → token_at (drop at bytes) ≡ Some (lexeme_view l, drop n (drop at bytes)) → n ≤ length (drop at bytes) → r ≡ is_restricted (lexeme_view l) → us ≡ ts ++ record { lexeme = l; at = at } ∷ []
    → Passed bytes from at newlines (places ts) → Passed bytes from (at + n) (not r) (places us)
passed_more bytes from at n newlines r l ts us lt q f le e a p =
    let step = passed_token bytes from at n newlines (lexeme_view l) (places ts) lt q f le p in
    subst (λ z. Passed bytes from (at + n) (not z) (places us)) (sym e)
    (subst (λ z. Passed bytes from (at + n) (not (is_restricted (lexeme_view l))) z) (sym (ap places a ∙ places_more ts l at)) step)

-- Readings by loops: from one turn to the next, and to the end.
use Rattle.std.proofs.Common.{◌≡◌, ◌∙◌, sym, subst, ap, ℕ, ◌+◌, List, [], ◌∷◌, ◌++◌, refl}
use Rattle.std.specs.Prelude.{Result, Ok, Err, Some, None, true, false, if◌then◌else◌, ◌==◌}
use Rattle.js_tree.specs.Lexical.{Token, Placed}
use Rattle.js_tree.specs.Script.{Expr}
use Rattle.js_tree.specs.Scripts.{at_of}
use Rattle.js_grammar.specs.declared.token.Infix.{Infix}
use Rattle.js_grammar.specs.declared.refusal.ReadRefusal.{ReadRefusal}
use Rattle.js_grammar.specs.Tokens.{is_first, infix_at, between, infix_level, joined}
use Rattle.js_grammar.specs.Goals as goal
use Rattle.js_grammar.specs.Steps.{call, found, before, begins_part, comma}
use Rattle.js_grammar.specs.Reads.{Reads, Ends, reads, answered, called, passed, held, failed, no_infix, an_infix}

-- what a reading of expressions comes to
abbrev pub Expression : Type 0
Expression = Result (Expr × List Placed) ReadRefusal

abbrev pub Counted : Type 0
Counted = Result ((Expr × ℕ) × List Placed) ReadRefusal

abbrev pub Several : Type 0
Several = Result (List Expr × List Placed) ReadRefusal

first_chain : (d least at level n : ℕ) (e : Expr) (us : List Placed) (r : Expression) → Reads (goal.chain d least at level n e) us r → Ends (goal.operation d least) (call (goal.chain d least at level n e) us found) r
first_chain d least at level n e us (Ok p) h = called {vs = p.1} {v = p.0} h (answered refl)
first_chain d least at level n e us (Err x) h = passed h

next_chain : (d least at level n k m : ℕ) (e f : Expr) (us : List Placed) (r : Expression) → Reads (goal.chain d least at level n e) us r → Ends (goal.chain d least at k m f) (call (goal.chain d least at level n e) us found) r
next_chain d least at level n k m e f us (Ok p) h = called {vs = p.1} {v = p.0} h (answered refl)
next_chain d least at level n k m e f us (Err x) h = passed h

pub chain_starts : (d least at : ℕ) (e : Expr) (ts us : List Placed) (r : Expression) → at ≡ at_of ts → Reads (goal.unary d) ts (Ok (e, us)) → Reads (goal.chain d least at 11 0 e) us r → Reads (goal.operation d least) ts r
chain_starts d least at e ts us r p q h = reads (called q (first_chain d least (at_of ts) 11 0 e us r (subst (λ z. Reads (goal.chain d least z 11 0 e) us r) p h)))

-- an operator, and what stands after it
chain_turns : (d least at level n : ℕ) (i : Infix) (e b : Expr) (ts us vs : List Placed) (r : Expression) → between least level (infix_at ts) ≡ Some i
    → Reads (goal.operator (d + before level n i)) ts (Ok (tt, us)) → Reads (goal.operation (d + before level n i + 1) (infix_level i + 1)) us (Ok (b, vs))
    → Reads (goal.chain d least at (infix_level i) (before level n i + 1) (joined i at e b)) vs r → Reads (goal.chain d least at level n e) ts r
chain_turns d least at level n i e b ts us vs r q a o h =
    reads (an_infix q (called a (called o (next_chain d least at (infix_level i) (before level n i + 1) level n (joined i at e b) e vs r h))))

pub chain_step : (d least at level n own k : ℕ) (i : Infix) (e f b : Expr) (ts us vs : List Placed) (r : Expression)
    → own ≡ infix_level i → k ≡ (if own == level then n else 0)
    → Reads (goal.operator (d + k)) ts (Ok (tt, us)) → Reads (goal.operation (d + k + 1) (own + 1)) us (Ok (b, vs)) → f ≡ joined i at e b
    → between least level (infix_at ts) ≡ Some i → Reads (goal.chain d least at own (k + 1) f) vs r → Reads (goal.chain d least at level n e) ts r
chain_step d least at level n own k i e f b ts us vs r o s a w j q h =
    let t : k ≡ before level n i = s ∙ ap (λ z. if z == level then n else 0) o in
    chain_turns d least at level n i e b ts us vs r q (subst (λ z. Reads (goal.operator (d + z)) ts (Ok (tt, us))) t a)
    (subst (λ z. Reads (goal.operation (d + before level n i + 1) (z + 1)) us (Ok (b, vs))) o (subst (λ z. Reads (goal.operation (d + z + 1) (own + 1)) us (Ok (b, vs))) t w))
    (subst (λ z. Reads (goal.chain d least at (infix_level i) (before level n i + 1) z) vs r) j
    (subst (λ z. Reads (goal.chain d least at (infix_level i) (z + 1) f) vs r) t (subst (λ z. Reads (goal.chain d least at z (k + 1) f) vs r) o h)))

pub chain_stops : (d least at level n own k : ℕ) (i : Infix) (e : Expr) (ts : List Placed) (x : ReadRefusal)
    → own ≡ infix_level i → k ≡ (if own == level then n else 0) → Reads (goal.operator (d + k)) ts (Err x) → between least level (infix_at ts) ≡ Some i → Reads (goal.chain d least at level n e) ts (Err x)
chain_stops d least at level n own k i e ts x o s a q =
    let t : k ≡ before level n i = s ∙ ap (λ z. if z == level then n else 0) o in
    reads (an_infix q (passed (subst (λ z. Reads (goal.operator (d + z)) ts (Err x)) t a)))

pub chain_stops_after : (d least at level n own k : ℕ) (i : Infix) (e : Expr) (ts us : List Placed) (x : ReadRefusal)
    → own ≡ infix_level i → k ≡ (if own == level then n else 0) → Reads (goal.operator (d + k)) ts (Ok (tt, us)) → Reads (goal.operation (d + k + 1) (own + 1)) us (Err x) → between least level (infix_at ts) ≡ Some i → Reads (goal.chain d least at level n e) ts (Err x)
chain_stops_after d least at level n own k i e ts us x o s a w q =
    let t : k ≡ before level n i = s ∙ ap (λ z. if z == level then n else 0) o in
    reads (an_infix q (called (subst (λ z. Reads (goal.operator (d + z)) ts (Ok (tt, us))) t a)
    (passed (subst (λ z. Reads (goal.operation (d + before level n i + 1) (z + 1)) us (Err x)) o (subst (λ z. Reads (goal.operation (d + z + 1) (own + 1)) us (Err x)) t w)))))

pub chain_ends : (d least at level n : ℕ) (e : Expr) (ts : List Placed) → between least level (infix_at ts) ≡ None → Reads (goal.chain d least at level n e) ts (Ok (e, ts))
chain_ends d least at level n e ts q = reads (no_infix q (answered refl))

first_parts : (d at n : ℕ) (e : Expr) (us : List Placed) (r : Counted) → Reads (goal.parts d at n e) us r → Ends (goal.post d) (call (goal.parts d at n e) us found) r
first_parts d at n e us (Ok p) h = called {vs = p.1} {v = p.0} h (answered refl)
first_parts d at n e us (Err x) h = passed h

next_parts : (d at n m : ℕ) (e f : Expr) (us : List Placed) (r : Counted) → Reads (goal.parts d at n e) us r → Ends (goal.parts d at m f) (call (goal.parts d at n e) us found) r
next_parts d at n m e f us (Ok p) h = called {vs = p.1} {v = p.0} h (answered refl)
next_parts d at n m e f us (Err x) h = passed h

pub parts_start : (d at : ℕ) (e : Expr) (ts us : List Placed) (r : Counted) → at ≡ at_of ts → Reads (goal.atom d) ts (Ok (e, us)) → Reads (goal.parts d at 0 e) us r → Reads (goal.post d) ts r
parts_start d at e ts us r p q h = reads (called q (first_parts d (at_of ts) 0 e us r (subst (λ z. Reads (goal.parts d z 0 e) us r) p h)))

pub parts_step : (d at n : ℕ) (e f : Expr) (ts us : List Placed) (r : Counted) → begins_part ts ≡ true → Reads (goal.part (d + n) at e) ts (Ok (f, us)) → Reads (goal.parts d at (n + 1) f) us r → Reads (goal.parts d at n e) ts r
parts_step d at n e f ts us r q p h = reads (held q (called p (next_parts d at (n + 1) n f e us r h)))

pub parts_stop : (d at n : ℕ) (e : Expr) (ts : List Placed) (x : ReadRefusal) → begins_part ts ≡ true → Reads (goal.part (d + n) at e) ts (Err x) → Reads (goal.parts d at n e) ts (Err x)
parts_stop d at n e ts x q p = reads (held q (passed p))

pub parts_end : (d at n : ℕ) (e : Expr) (ts : List Placed) → begins_part ts ≡ false → Reads (goal.parts d at n e) ts (Ok ((e, n), ts))
parts_end d at n e ts q = reads (failed q (answered refl))

first_more : (d : ℕ) (x : Token) (es : List Expr) (us : List Placed) (r : Several) → Reads (goal.more d x es) us r → Ends (goal.listed d x) (call (goal.more d x es) us found) r
first_more d x es us (Ok p) h = called {vs = p.1} {v = p.0} h (answered refl)
first_more d x es us (Err y) h = passed h

next_more : (d : ℕ) (x : Token) (es fs : List Expr) (us : List Placed) (r : Several) → Reads (goal.more d x es) us r → Ends (goal.more d x fs) (call (goal.more d x es) us found) r
next_more d x es fs us (Ok p) h = called {vs = p.1} {v = p.0} h (answered refl)
next_more d x es fs us (Err y) h = passed h

pub more_starts : (d : ℕ) (x : Token) (e : Expr) (es : List Expr) (ts us : List Placed) (r : Several) → is_first x ts ≡ false → Reads (goal.expression (d + 1)) ts (Ok (e, us)) → es ≡ e ∷ []
    → Reads (goal.more d x es) us r → Reads (goal.listed d x) ts r
more_starts d x e es ts us r q p a h = reads (failed q (called p (first_more d x (e ∷ []) us r (subst (λ z. Reads (goal.more d x z) us r) a h))))

pub more_step : (d : ℕ) (x : Token) (e : Expr) (es fs : List Expr) (ts us vs : List Placed) (r : Several) → is_first comma ts ≡ true → Reads (goal.token (d + 1) comma) ts (Ok (tt, us))
    → Reads (goal.expression (d + 1)) us (Ok (e, vs)) → fs ≡ es ++ e ∷ [] → Reads (goal.more d x fs) vs r → Reads (goal.more d x es) ts r
more_step d x e es fs ts us vs r q t p a h = reads (held q (called t (called p (next_more d x (es ++ e ∷ []) es vs r (subst (λ z. Reads (goal.more d x z) vs r) a h)))))

pub more_stops : (d : ℕ) (x : Token) (es : List Expr) (ts : List Placed) (y : ReadRefusal) → is_first comma ts ≡ true → Reads (goal.token (d + 1) comma) ts (Err y) → Reads (goal.more d x es) ts (Err y)
more_stops d x es ts y q t = reads (held q (passed t))

pub more_stops_after : (d : ℕ) (x : Token) (es : List Expr) (ts us : List Placed) (y : ReadRefusal) → is_first comma ts ≡ true → Reads (goal.token (d + 1) comma) ts (Ok (tt, us))
    → Reads (goal.expression (d + 1)) us (Err y) → Reads (goal.more d x es) ts (Err y)
more_stops_after d x es ts us y q t p = reads (held q (called t (passed p)))

pub more_ends : (d : ℕ) (x : Token) (es : List Expr) (ts us : List Placed) → is_first comma ts ≡ false → Reads (goal.token d x) ts (Ok (tt, us)) → Reads (goal.more d x es) ts (Ok (es, us))
more_ends d x es ts us q t = reads (failed q (called t (answered refl)))

pub more_stops_at_end : (d : ℕ) (x : Token) (es : List Expr) (ts : List Placed) (y : ReadRefusal) → is_first comma ts ≡ false → Reads (goal.token d x) ts (Err y) → Reads (goal.more d x es) ts (Err y)
more_stops_at_end d x es ts y q t = reads (failed q (passed t))

-- no expression, and the bracket
pub listed_none : (d : ℕ) (x : Token) (es : List Expr) (ts us : List Placed) → is_first x ts ≡ true → Reads (goal.token d x) ts (Ok (tt, us)) → es ≡ [] → Reads (goal.listed d x) ts (Ok (es, us))
listed_none d x es ts us q t a = subst (λ z. Reads (goal.listed d x) ts (Ok (z, us))) (sym a) (reads (held q (called t (answered refl))))

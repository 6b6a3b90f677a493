-- A string is scanned to the bytes that it stands for.
use Rattle.std.proofs.Common.{arith, ◌≡◌, ◌∙◌, sym, subst, ap, inl, inr, ℕ, suc, ◌+◌, ◌-◌, ◌*◌, ◌/◌, ◌%◌, ◌≤◌, ◌<◌, List, [], ◌∷◌, ◌++◌, Some, None, Bool, true, false, refl, append_assoc, ⊎_elim}
use Rattle.std.specs.Prelude.{not, ◌⊎◌, ◌==◌, ◌&&◌, ◌||◌, nat_le, nat_lt, codes, if◌then◌else◌}
use Rattle.std.specs.List.{list_all}
use Rattle.std.proofs.lemmas.Bool.{eqb-true, leb-true, le-leb, lt-leb, ltb-true, ltb-false}
use Rattle.js_tree.specs.Printed.{byte_text, bytes_text, escaped, hex_digit}
use Rattle.js_tree.specs.Printable.{is_byte}
use Rattle.js_grammar.specs.declared.scan.Inside.{Inside}
use Rattle.js_grammar.specs.declared.scan.Inside.TheVariants.{Plain, Escape, High, Low}
use Rattle.js_grammar.specs.declared.scan.Step.TheVariants.{Wrong, Ends, Goes, Gives}
use Rattle.js_grammar.specs.Scan.{is_plain, is_hex, hex_value, low_step, step, Scanned, with_front, on_step, scan}

-- the digits of numbers below 16
record Digit (n c : ℕ) : Type 0 where
  hex : is_hex c ≡ true
  value : hex_value c ≡ n

small_digit : (n : ℕ) → n < 10 → Digit n (n + 48)
small_digit n lt =
    let a : nat_le 48 (n + 48) ≡ true = le-leb 48 (n + 48) (omega arith) in
    let b : nat_le (n + 48) 57 ≡ true = le-leb (n + 48) 57 (omega arith) in
    let c : nat_le 97 (n + 48) ≡ false = lt-leb 97 (n + 48) (omega arith) in
    record {
      hex = ap (λ z. z && nat_le (n + 48) 57 || (nat_le 97 (n + 48) && nat_le (n + 48) 102)) a ∙ ap (λ z. z || (nat_le 97 (n + 48) && nat_le (n + 48) 102)) b;
      value = ap (λ z. if z then n + 48 - 87 else n + 48 - 48) c ∙ omega arith;
    }

large_digit : (n : ℕ) → 10 ≤ n → n < 16 → Digit n (n + 87)
large_digit n ge lt =
    let b : nat_le (n + 87) 57 ≡ false = lt-leb (n + 87) 57 (omega arith) in
    let a : nat_le 48 (n + 87) ≡ true = le-leb 48 (n + 87) (omega arith) in
    let c : nat_le 97 (n + 87) ≡ true = le-leb 97 (n + 87) (omega arith) in
    let e : nat_le (n + 87) 102 ≡ true = le-leb (n + 87) 102 (omega arith) in
    record {
      hex = ap (λ z. z && nat_le (n + 87) 57 || (nat_le 97 (n + 87) && nat_le (n + 87) 102)) a ∙ (ap (λ z. z || (nat_le 97 (n + 87) && nat_le (n + 87) 102)) b ∙ (ap (λ z. z && nat_le (n + 87) 102) c ∙ e));
      value = ap (λ z. if z then n + 87 - 87 else n + 87 - 48) c ∙ omega arith;
    }

digit_by : (b : Bool) (n : ℕ) → nat_lt n 10 ≡ b → n < 16 → Digit n (if b then n + 48 else n + 87)
digit_by true n q lt = small_digit n (ltb-true n 10 q)
digit_by false n q lt = large_digit n (ltb-false n 10 q) lt

digit_of : (n : ℕ) → n < 16 → Digit n (hex_digit n)
digit_of n lt = digit_by (nat_lt n 10) n refl lt

front_some : (c : ℕ) (o : Scanned) (bytes rest : List ℕ) → o ≡ Some (bytes, rest) → with_front (c ∷ []) o ≡ Some (c ∷ bytes, rest)
front_some c o bytes rest q = ap (with_front (c ∷ [])) q

-- a byte that stands for itself
scan_plain : (c : ℕ) (text bytes rest : List ℕ) → (c == 34) ≡ false → (c == 92) ≡ false → is_plain c ≡ true → scan Plain text ≡ Some (bytes, rest) → scan Plain (c ∷ text) ≡ Some (c ∷ bytes, rest)
scan_plain c text bytes rest a b p q =
    let s : step Plain c ≡ Gives c = ap (λ z. if z then Ends else if c == 92 then Goes Escape else if is_plain c then Gives c else Wrong) a ∙ (ap (λ z. if z then Goes Escape else if is_plain c then Gives c else Wrong) b ∙ ap (λ z. if z then Gives c else Wrong) p) in
    ap (λ z. on_step z text (λ t. scan t text)) s ∙ front_some c (scan Plain text) bytes rest q

-- a byte that is escaped by two digits
scan_low : (h l c : ℕ) (text bytes rest : List ℕ) → h < 16 → is_hex l ≡ true → 16 * h + hex_value l ≡ c → is_plain c ≡ false → (c == 34) ≡ false → (c == 92) ≡ false → scan Plain text ≡ Some (bytes, rest) → scan (Low h) (l ∷ text) ≡ Some (c ∷ bytes, rest)
scan_low h l c text bytes rest lt x v p a b q =
    let t : nat_lt h 16 ≡ true = le-leb (suc h) 16 (omega arith) in
    let u : low_step l c ≡ Gives c = ap (λ z. if z && not (is_plain c) && not (c == 34) && not (c == 92) then Gives c else Wrong) x ∙ (ap (λ z. if not z && not (c == 34) && not (c == 92) then Gives c else Wrong) p ∙ (ap (λ z. if not z && not (c == 92) then Gives c else Wrong) a ∙ ap (λ z. if not z then Gives c else Wrong) b)) in
    let s : step (Low h) l ≡ Gives c = ap (λ z. if z then low_step l (16 * h + hex_value l) else Wrong) t ∙ (ap (λ z. low_step l z) v ∙ u) in
    ap (λ z. on_step z text (λ t. scan t text)) s ∙ front_some c (scan Plain text) bytes rest q

scan_escaped : (c : ℕ) (text bytes rest : List ℕ) → c < 256 → is_plain c ≡ false → (c == 34) ≡ false → (c == 92) ≡ false → scan Plain text ≡ Some (bytes, rest) → scan Plain (escaped c ++ text) ≡ Some (c ∷ bytes, rest)
scan_escaped c text bytes rest lt p a b q =
    let high = digit_of (c / 16) (omega arith) in
    let last = digit_of (c % 16) (omega arith) in
    let v : 16 * (c / 16) + hex_value (hex_digit (c % 16)) ≡ c = ap (λ z. 16 * (c / 16) + z) last.value ∙ omega arith in
    let s : step High (hex_digit (c / 16)) ≡ Goes (Low (c / 16)) = ap (λ z. if z then Goes (Low (hex_value (hex_digit (c / 16)))) else Wrong) high.hex ∙ ap (λ z. Goes (Low z)) high.value in
    ap (λ z. on_step z (hex_digit (c % 16) ∷ text) (λ t. scan t (hex_digit (c % 16) ∷ text))) s
    ∙ scan_low (c / 16) (hex_digit (c % 16)) c text bytes rest (omega arith) last.hex v p a b q

plain_is : (c : ℕ) (b d : Bool) → (c == 34) ≡ false → (c == 92) ≡ false → (nat_le 32 c && nat_lt c 127) ≡ b → is_plain c ≡ b
plain_is c b d p q r = ap (λ z. not z && not (c == 92) && (nat_le 32 c && nat_lt c 127)) p ∙ (ap (λ z. not z && (nat_le 32 c && nat_lt c 127)) q ∙ r)

byte_by : (x y z : Bool) (c : ℕ) (text bytes rest : List ℕ) → (c == 34) ≡ x → (c == 92) ≡ y → (nat_le 32 c && nat_lt c 127) ≡ z → c < 256 → scan Plain text ≡ Some (bytes, rest)
    → scan Plain ((if x then codes "\\\"" else if y then codes "\\\\" else if z then c ∷ [] else escaped c) ++ text) ≡ Some (c ∷ bytes, rest)
byte_by true y z c text bytes rest p q r lt h = front_some 34 (scan Plain text) bytes rest h ∙ ap (λ k. Some (k ∷ bytes, rest)) (sym (eqb-true c 34 p))
byte_by false true z c text bytes rest p q r lt h = front_some 92 (scan Plain text) bytes rest h ∙ ap (λ k. Some (k ∷ bytes, rest)) (sym (eqb-true c 92 q))
byte_by false false true c text bytes rest p q r lt h = scan_plain c text bytes rest p q (plain_is c true true p q r) h
byte_by false false false c text bytes rest p q r lt h = scan_escaped c text bytes rest lt (plain_is c false true p q r) p q h

both_true : (a b : Bool) → (a && b) ≡ true → (a ≡ true) × (b ≡ true)
both_true true b q = (refl, q)
both_true false b q = absurd (cc)

-- what is spelled is scanned
pub scan_text : (bytes rest : List ℕ) → list_all is_byte bytes ≡ true → scan Plain (bytes_text bytes ++ (34 ∷ rest)) ≡ Some (bytes, rest)
scan_text [] rest q = refl
scan_text (c ∷ cs) rest q =
    let b = both_true (is_byte c) (list_all is_byte cs) q in
    ap (scan Plain) (append_assoc (byte_text c) (bytes_text cs) (34 ∷ rest))
    ∙ byte_by (c == 34) (c == 92) (nat_le 32 c && nat_lt c 127) c (bytes_text cs ++ (34 ∷ rest)) cs rest refl refl refl (ltb-true c 256 b.0) (scan_text cs rest b.1)

-- what has been read of a byte, and what was read to get there
data Reached : Inside → List ℕ → Type 0 where
  at_plain : Reached Plain []
  at_escape : Reached Escape (92 ∷ [])
  at_high : Reached High (92 ∷ 120 ∷ [])
  at_low : (c : ℕ) → is_hex c ≡ true → Reached (Low (hex_value c)) (92 ∷ 120 ∷ c ∷ [])

-- the text is that of these bytes, a quote, and what follows
pub record Spelled (text bytes rest : List ℕ) : Type 0 where
  pub is : text ≡ bytes_text bytes ++ (34 ∷ rest)
  pub each : list_all is_byte bytes ≡ true

some_pair : (a b : List ℕ × List ℕ) (o : Scanned) → o ≡ Some a → o ≡ Some b → a ≡ b
some_pair a b o p q = cc

front_back : (front : List ℕ) (o : Scanned) (bytes rest : List ℕ) → with_front front o ≡ Some (bytes, rest) → (cs : List ℕ) × (o ≡ Some (cs, rest)) × (bytes ≡ front ++ cs)
front_back front None bytes rest q = absurd (cc)
front_back front (Some p) bytes rest q =
    let e = some_pair (front ++ p.0, p.1) (bytes, rest) (Some (front ++ p.0, p.1)) refl q in
    (p.0, ap (λ z. Some (p.0, z)) (ap (λ z. z.1) e), ap (λ z. z.0) (sym e))

-- one byte more, spelled so
more : (c : ℕ) (spelling cs text bytes rest : List ℕ) → byte_text c ≡ spelling → is_byte c ≡ true → bytes ≡ c ∷ cs → Spelled text cs rest → Spelled (spelling ++ text) bytes rest
more c spelling cs text bytes rest p b q h = record {
  is = ap (λ z. z ++ text) (sym p) ∙ (ap (λ z. byte_text c ++ z) h.is ∙ (sym (append_assoc (byte_text c) (bytes_text cs) (34 ∷ rest)) ∙ ap (λ z. bytes_text z ++ (34 ∷ rest)) (sym q)));
  each = ap (list_all is_byte) q ∙ (ap (λ z. z && list_all is_byte cs) b ∙ h.each);
}

differ : {X : Type 0} (b : Bool) → b ≡ true → b ≡ false → X
differ b p q = absurd (cc)

record DigitBack (c : ℕ) : Type 0 where
  same : hex_digit (hex_value c) ≡ c
  small : hex_value c < 16

or_true : (a b : Bool) → (a || b) ≡ true → (a ≡ true) ⊎ (b ≡ true)
or_true true b q = inl refl
or_true false b q = inr q

letter_back : (c : ℕ) → 97 ≤ c → c ≤ 102 → (hex_digit (c - 87) ≡ c) × (c - 87 < 16)
letter_back c ge le =
    let f : nat_lt (c - 87) 10 ≡ false = lt-leb (suc (c - 87)) 10 (omega arith) in
    (ap (λ z. if z then c - 87 + 48 else c - 87 + 87) f ∙ omega arith, omega arith)

number_back : (c : ℕ) → 48 ≤ c → c ≤ 57 → (hex_digit (c - 48) ≡ c) × (c - 48 < 16)
number_back c ge le =
    let f : nat_lt (c - 48) 10 ≡ true = le-leb (suc (c - 48)) 10 (omega arith) in
    (ap (λ z. if z then c - 48 + 48 else c - 48 + 87) f ∙ omega arith, omega arith)

back_by : (b : Bool) (c : ℕ) → nat_le 97 c ≡ b → is_hex c ≡ true → (hex_digit (if b then c - 87 else c - 48) ≡ c) × ((if b then c - 87 else c - 48) < 16)
back_by true c q h =
    let ge = leb-true 97 c q in
    ⊎_elim
    (λ d. let p = both_true (nat_le 48 c) (nat_le c 57) d in let le = leb-true c 57 p.1 in absurd (omega (arith, le, ge)))
    (λ l. let p = both_true (nat_le 97 c) (nat_le c 102) l in letter_back c ge (leb-true c 102 p.1))
    (or_true (nat_le 48 c && nat_le c 57) (nat_le 97 c && nat_le c 102) h)
back_by false c q h =
    ⊎_elim
    (λ d. let p = both_true (nat_le 48 c) (nat_le c 57) d in number_back c (leb-true 48 c p.0) (leb-true c 57 p.1))
    (λ l. let p = both_true (nat_le 97 c) (nat_le c 102) l in absurd (differ (nat_le 97 c) p.0 q))
    (or_true (nat_le 48 c && nat_le c 57) (nat_le 97 c && nat_le c 102) h)

digit_back : (c : ℕ) → is_hex c ≡ true → DigitBack c
digit_back c h = let b = back_by (nat_le 97 c) c refl h in record { same = b.0; small = b.1 }

-- what has been read and the text are spelled so, wherever scanning stands
abbrev Scans : List ℕ → Type 0
Scans text = (s : Inside) (front : List ℕ) → Reached s front → (bytes rest : List ℕ) → scan s text ≡ Some (bytes, rest) → Spelled (front ++ text) bytes rest

plain_back : (x y z : Bool) (c : ℕ) (cs bytes rest : List ℕ) → Scans cs → (c == 34) ≡ x → (c == 92) ≡ y → is_plain c ≡ z → on_step (if x then Ends else if y then Goes Escape else if z then Gives c else Wrong) cs (λ t. scan t cs) ≡ Some (bytes, rest) → Spelled (c ∷ cs) bytes rest
plain_back true y z c cs bytes rest f p q r h =
    let e = some_pair ([], cs) (bytes, rest) (Some ([], cs)) refl h in
    let a : [] ≡ bytes = ap (λ k. k.0) e in
    let b : cs ≡ rest = ap (λ k. k.1) e in
    record {
      is = ap (λ k. k ∷ cs) (eqb-true c 34 p) ∙ (ap (λ k. 34 ∷ k) b ∙ ap (λ k. bytes_text k ++ (34 ∷ rest)) a);
      each = ap (list_all is_byte) (sym a);
    }
plain_back false true z c cs bytes rest f p q r h =
    subst (λ k. Spelled (k ∷ cs) bytes rest) (sym (eqb-true c 92 q)) (f Escape (92 ∷ []) at_escape bytes rest h)
plain_back false false true c cs bytes rest f p q r h =
    let b = front_back (c ∷ []) (scan Plain cs) bytes rest h in
    let range = (both_true (not (c == 34) && not (c == 92)) (nat_le 32 c && nat_lt c 127) r).1 in
    let under = ltb-true c 127 (both_true (nat_le 32 c) (nat_lt c 127) range).1 in
    let text : byte_text c ≡ c ∷ [] = ap (λ k. if k then codes "\\\"" else if c == 92 then codes "\\\\" else if nat_le 32 c && nat_lt c 127 then c ∷ [] else escaped c) p
    ∙ (ap (λ k. if k then codes "\\\\" else if nat_le 32 c && nat_lt c 127 then c ∷ [] else escaped c) q ∙ ap (λ k. if k then c ∷ [] else escaped c) range) in
    more c (c ∷ []) b.0 cs bytes rest text (le-leb (suc c) 256 (omega (arith, under))) b.2 (f Plain [] at_plain b.0 rest b.1)
plain_back false false false c cs bytes rest f p q r h = absurd (cc)

escape_back : (x y z : Bool) (c : ℕ) (cs bytes rest : List ℕ) → Scans cs → (c == 34) ≡ x → (c == 92) ≡ y → (c == 120) ≡ z → on_step (if x || y then Gives c else if z then Goes High else Wrong) cs (λ t. scan t cs) ≡ Some (bytes, rest) → Spelled (92 ∷ c ∷ cs) bytes rest
escape_back true y z c cs bytes rest f p q r h =
    let b = front_back (c ∷ []) (scan Plain cs) bytes rest h in
    let e = eqb-true c 34 p in
    subst (λ k. Spelled (92 ∷ k ∷ cs) bytes rest) (sym e)
    (more 34 (92 ∷ 34 ∷ []) b.0 cs bytes rest refl refl (b.2 ∙ ap (λ k. k ∷ b.0) e) (f Plain [] at_plain b.0 rest b.1))
escape_back false true z c cs bytes rest f p q r h =
    let b = front_back (c ∷ []) (scan Plain cs) bytes rest h in
    let e = eqb-true c 92 q in
    subst (λ k. Spelled (92 ∷ k ∷ cs) bytes rest) (sym e)
    (more 92 (92 ∷ 92 ∷ []) b.0 cs bytes rest refl refl (b.2 ∙ ap (λ k. k ∷ b.0) e) (f Plain [] at_plain b.0 rest b.1))
escape_back false false true c cs bytes rest f p q r h =
    subst (λ k. Spelled (92 ∷ k ∷ cs) bytes rest) (sym (eqb-true c 120 r)) (f High (92 ∷ 120 ∷ []) at_high bytes rest h)
escape_back false false false c cs bytes rest f p q r h = absurd (cc)

high_back : (x : Bool) (c : ℕ) (cs bytes rest : List ℕ) → Scans cs → is_hex c ≡ x → on_step (if x then Goes (Low (hex_value c)) else Wrong) cs (λ t. scan t cs) ≡ Some (bytes, rest) → Spelled (92 ∷ 120 ∷ c ∷ cs) bytes rest
high_back true c cs bytes rest f p h = f (Low (hex_value c)) (92 ∷ 120 ∷ c ∷ []) (at_low c p) bytes rest h
high_back false c cs bytes rest f p h = absurd (cc)

low_back : (t x y z w : Bool) (k c : ℕ) (cs bytes rest : List ℕ) → Scans cs → is_hex k ≡ true → is_hex c ≡ x → is_plain (16 * hex_value k + hex_value c) ≡ y → (16 * hex_value k + hex_value c == 34) ≡ z → (16 * hex_value k + hex_value c == 92) ≡ w
    → on_step (if t then (if x && not y && not z && not w then Gives (16 * hex_value k + hex_value c) else Wrong) else Wrong) cs (λ t. scan t cs) ≡ Some (bytes, rest) → Spelled (92 ∷ 120 ∷ k ∷ c ∷ cs) bytes rest
low_back true true false false false k c cs bytes rest f hk hc p q r h =
    let v = 16 * hex_value k + hex_value c in
    let a = digit_back k hk in
    let d = digit_back c hc in
    let b = front_back (v ∷ []) (scan Plain cs) bytes rest h in
    let range : (nat_le 32 v && nat_lt v 127) ≡ false = sym (ap (λ z. not z && not (v == 92) && (nat_le 32 v && nat_lt v 127)) q ∙ ap (λ z. not z && (nat_le 32 v && nat_lt v 127)) r) ∙ p in
    let upper : v / 16 ≡ hex_value k = omega (arith, d.small) in
    let lower : v % 16 ≡ hex_value c = omega (arith, d.small) in
    let digits : escaped v ≡ 92 ∷ 120 ∷ k ∷ c ∷ [] = ap (λ z. 92 ∷ 120 ∷ hex_digit z ∷ hex_digit (v % 16) ∷ []) upper ∙ (ap (λ z. 92 ∷ 120 ∷ z ∷ hex_digit (v % 16) ∷ []) a.same ∙ (ap (λ z. 92 ∷ 120 ∷ k ∷ hex_digit z ∷ []) lower ∙ ap (λ z. 92 ∷ 120 ∷ k ∷ z ∷ []) d.same)) in
    let text : byte_text v ≡ 92 ∷ 120 ∷ k ∷ c ∷ [] = ap (λ z. if z then codes "\\\"" else if v == 92 then codes "\\\\" else if nat_le 32 v && nat_lt v 127 then v ∷ [] else escaped v) q
    ∙ (ap (λ z. if z then codes "\\\\" else if nat_le 32 v && nat_lt v 127 then v ∷ [] else escaped v) r ∙ (ap (λ z. if z then v ∷ [] else escaped v) range ∙ digits)) in
    more v (92 ∷ 120 ∷ k ∷ c ∷ []) b.0 cs bytes rest text (le-leb (suc v) 256 (omega (arith, a.small, d.small))) b.2 (f Plain [] at_plain b.0 rest b.1)
low_back false x y z w k c cs bytes rest f hk hc p q r h = absurd (cc)
low_back true false y z w k c cs bytes rest f hk hc p q r h = absurd (cc)
low_back true true true z w k c cs bytes rest f hk hc p q r h = absurd (cc)
low_back true true false true w k c cs bytes rest f hk hc p q r h = absurd (cc)
low_back true true false false true k c cs bytes rest f hk hc p q r h = absurd (cc)

scans : (text : List ℕ) → Scans text
scans [] s front r bytes rest q = absurd (cc)
scans (c ∷ cs) s front at_plain bytes rest q = plain_back (c == 34) (c == 92) (is_plain c) c cs bytes rest (scans cs) refl refl refl q
scans (c ∷ cs) s front at_escape bytes rest q = escape_back (c == 34) (c == 92) (c == 120) c cs bytes rest (scans cs) refl refl refl q
scans (c ∷ cs) s front at_high bytes rest q = high_back (is_hex c) c cs bytes rest (scans cs) refl q
scans (c ∷ cs) s front (at_low k h) bytes rest q =
    low_back (nat_lt (hex_value k) 16) (is_hex c) (is_plain (16 * hex_value k + hex_value c)) (16 * hex_value k + hex_value c == 34) (16 * hex_value k + hex_value c == 92) k c cs bytes rest (scans cs) h refl refl refl refl q

-- what is scanned is spelled so
pub scan_is : (text bytes rest : List ℕ) → scan Plain text ≡ Some (bytes, rest) → Spelled text bytes rest
scan_is text bytes rest q = scans text Plain [] at_plain bytes rest q

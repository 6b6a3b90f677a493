-- Names and strings, as answers of their goals.
use Rattle.std.proofs.Common.{◌≡◌, ◌∙◌, sym, ap, ℕ, List, true, false}
use Rattle.std.specs.Prelude.{Ok, if◌then◌else◌}
use Rattle.js_tree.specs.Lexical.{Placed}
use Rattle.js_tree.specs.Printable.{is_own_name}
use Rattle.js_tree.specs.Script.{Name}
use Rattle.js_grammar.specs.Goals.{name, own_name, string}
use Rattle.js_grammar.specs.Steps.{wrong, name_at, own_of, string_at}
use Rattle.js_grammar.specs.Reads.{Reads, reads, answered}

pub no_name : (d : ℕ) (ts : List Placed) → name_at d ts ≡ wrong → Reads (name d) ts wrong
no_name d ts q = reads (answered q)

pub a_name : (d : ℕ) (ts us : List Placed) (x w : Name) → name_at d ts ≡ Ok (w, us) → x ≡ w → Reads (name d) ts (Ok (x, us))
a_name d ts us x w q p = reads (answered (q ∙ ap (λ z. Ok (z, us)) (sym p)))

pub no_own_name : (d : ℕ) (ts : List Placed) → name_at d ts ≡ wrong → Reads (own_name d) ts wrong
no_own_name d ts q = reads (answered (ap own_of q))

pub not_own_name : (d : ℕ) (ts us : List Placed) (w : Name) → name_at d ts ≡ Ok (w, us) → is_own_name w ≡ false → Reads (own_name d) ts wrong
not_own_name d ts us w q p = reads (answered (ap own_of q ∙ ap (λ z. if z then Ok (w, us) else wrong) p))

pub an_own_name : (d : ℕ) (ts us : List Placed) (x w : Name) → name_at d ts ≡ Ok (w, us) → is_own_name w ≡ true → x ≡ w → Reads (own_name d) ts (Ok (x, us))
an_own_name d ts us x w q p e = reads (answered (ap own_of q ∙ (ap (λ z. if z then Ok (w, us) else wrong) p ∙ ap (λ z. Ok (z, us)) (sym e))))

pub no_string : (d : ℕ) (ts : List Placed) → string_at d ts ≡ wrong → Reads (string d) ts wrong
no_string d ts q = reads (answered q)

pub a_string : (d : ℕ) (ts us : List Placed) (x w : List ℕ) → string_at d ts ≡ Ok (w, us) → x ≡ w → Reads (string d) ts (Ok (x, us))
a_string d ts us x w q p = reads (answered (q ∙ ap (λ z. Ok (z, us)) (sym p)))

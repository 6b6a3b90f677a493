use Rattle.std.proofs.Common.{◌≡◌, ◌∙◌, sym, ap, List, ℕ, false, bytes_eq, codes}
use Rattle.js_tree.specs.Value.{holds}
use Rattle.js_eval.specs.Seen.{names_of}
use Rattle.js_eval.proofs.names.name_value.Goals as goal

pub returns : goal.returns
returns c =
    let n : c.as_bytes-name.result.now ≡ c.args.x.now = c.as_bytes-name.ensures in
    let e : bytes_eq c.args.x.now (codes "$catch") ≡ false = ap (λ (n : List ℕ). bytes_eq n (codes "$catch")) (sym n) ∙ sym c.is_catch.ensures.value ∙ c.if-is_catch.false in
    let h : holds c.args.x.now (names_of c.args.scope.now.names.now) ≡ false = ap (λ (n : List ℕ). holds n (names_of c.args.scope.now.names.now)) (sym n) ∙ sym c.holds.ensures.value ∙ c.if-holds.false in
    record { value = λ d. rw (e, h) (c.in_ok-value-3.ensures.value d) }

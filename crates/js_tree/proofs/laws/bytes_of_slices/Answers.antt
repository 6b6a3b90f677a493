use Rattle.std.proofs.Common.{◌≡◌, ℕ, zero, suc, ◌<◌, true, List, [], ◌∷◌, get_or, refl, arith}
use Rattle.std.specs.List.{list_all}
use Rattle.std.proofs.lemmas.Bool.{lt-ltb}
use Rattle.js_tree.specs.Printable.{is_byte}
use Rattle.js_tree.proofs.laws.bytes_of_slices.Goals as goal

all_bytes : (xs : List ℕ) → ((k : ℕ) → get_or xs k 0 < 256) → list_all is_byte xs ≡ true
all_bytes [] h = refl
all_bytes (x ∷ xs) h = rw (lt-ltb x 256 (h zero)) (all_bytes xs (λ k. h (suc k)))

pub returns : goal.returns
returns c = record { value = all_bytes c.args.bytes.now (λ k. let f = c.type_inv.bytes k in omega arith) }

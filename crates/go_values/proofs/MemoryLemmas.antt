-- Cells that are read and written.
use Rattle.std.proofs.Common.{sym, ap, ◌∙◌, arith}
use Rattle.std.specs.Prelude.{◌≡◌, ◌<◌, ◌≤◌, ℕ, suc, ◌+◌, List, ◌∷◌, length, drop, slice_set, get_or}
use Rattle.std.proofs.lemmas.List.{drop_more, drop_all, map-set}
use Rattle.go_type.specs.Tree.{Ty}
use Rattle.go_core.specs.Memory as core
use Rattle.go_core.specs.Memory.{written}
use Rattle.go_values.specs.ValuesSeen.{scalar_of, value_of}
use Rattle.go_values.specs.declared.values.scalar.Scalar.{Scalar}

pub write_step : (ts : List Ty) (cells xs : List Scalar) (base i : ℕ) (x : Scalar) → i < length xs → x ≡ get_or xs i x
    → written (value_of ts (slice_set cells (base + i) x)) (base + (i + 1)) (value_of ts (drop (i + 1) xs)) ≡ written (value_of ts cells) (base + i) (value_of ts (drop i xs))
write_step ts cells xs base i x h e =
    let rest = value_of ts (drop (i + 1) xs) in
    let d : drop i xs ≡ x ∷ drop (i + 1) xs = drop_more xs i x h ∙ ap (λ (y : Scalar). y ∷ drop (i + 1) xs) (sym e) in
    let n : base + (i + 1) ≡ suc (base + i) = omega arith in
    ap (λ (ys : List core.Scalar). written ys (base + (i + 1)) rest) (map-set (scalar_of ts) cells (base + i) x)
    ∙ ap (λ (k : ℕ). written (slice_set (value_of ts cells) (base + i) (scalar_of ts x)) k rest) n
    ∙ ap (λ (ys : List Scalar). written (value_of ts cells) (base + i) (value_of ts ys)) (sym d)

pub write_end : (ts : List Ty) (cells xs : List Scalar) (base i : ℕ) → length xs ≤ i → value_of ts cells ≡ written (value_of ts cells) (base + i) (value_of ts (drop i xs))
write_end ts cells xs base i h = sym (ap (λ (ys : List Scalar). written (value_of ts cells) (base + i) (value_of ts ys)) (drop_all i xs h))

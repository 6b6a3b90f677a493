-- Tokens that are kept stay what they are when texts and marks are added.
use Rattle.std.proofs.Common.{◌≡◌, ◌≤◌, ◌-◌, ◌+◌, ℕ, suc, List, [], ◌∷◌, ◌++◌, length, take, drop, refl, ap, ◌∙◌, arith, length-drop}
use Rattle.std.specs.Prelude.{All, slice_range}
use Rattle.std.proofs.lemmas.List.{take-append-le, drop-append-le, map-append}
use Rattle.std.proofs.Math.Seq.{drop-append_seam, take-length}
use Rattle.go_syntax.specs.Token.{token}
use Rattle.go_syntax.specs.Marks.{token_in, tokens_in, IsWithin}
use Rattle.go_syntax.specs.declared.token.Mark.{Mark}

-- a part of a text is the same part of a longer one
slice_range-append : (xs ys : List ℕ) (i j : ℕ) → i ≤ j → j ≤ length xs → slice_range (xs ++ ys) i j ≡ slice_range xs i j
slice_range-append xs ys i j le fits =
    let len : length (drop i xs) ≡ length xs - i = length-drop i xs in
    ap (take (j - i)) (drop-append-le i xs ys (omega arith)) ∙ take-append-le (j - i) (drop i xs) ys (omega arith)

-- what was added at the end
slice_range-seam : (xs ys : List ℕ) (i j : ℕ) → i ≡ length xs → j ≡ length xs + length ys → slice_range (xs ++ ys) i j ≡ ys
slice_range-seam xs ys i j start end =
    let n : j - i ≡ length ys = omega arith in
    ap (λ k. take (j - i) (drop k (xs ++ ys))) start ∙ ap (take (j - i)) (drop-append_seam xs ys) ∙ ap (λ k. take k ys) n ∙ take-length ys

-- more texts change no token
pub tokens_in-append : (file : ℕ) (texts more : List ℕ) (marks : List Mark) → All (IsWithin (length texts)) marks → tokens_in file (texts ++ more) marks ≡ tokens_in file texts marks
tokens_in-append file texts more [] h = refl
tokens_in-append file texts more (m ∷ ms) h =
    let one : token_in file (texts ++ more) m ≡ token_in file texts m = ap (token file m.kind m.offset) (slice_range-append texts more m.start m.end (h 0 m (omega arith)).0 (h 0 m (omega arith)).1) in
    let all = tokens_in-append file texts more ms (λ k d lt. h (suc k) d (omega arith)) in
    ap (λ t. t ∷ tokens_in file (texts ++ more) ms) one ∙ ap (λ ts. token_in file texts m ∷ ts) all

-- a text and its mark are one token more
pub tokens_in-push : (file : ℕ) (texts text : List ℕ) (marks : List Mark) (m : Mark) → All (IsWithin (length texts)) marks → m.start ≡ length texts → m.end ≡ length texts + length text → tokens_in file (texts ++ text) (marks ++ m ∷ []) ≡ tokens_in file texts marks ++ token file m.kind m.offset text ∷ []
tokens_in-push file texts text marks m h start end =
    map-append (token_in file (texts ++ text)) marks (m ∷ [])
    ∙ ap (λ ts. ts ++ token_in file (texts ++ text) m ∷ []) (tokens_in-append file texts text marks h)
    ∙ ap (λ s. tokens_in file texts marks ++ token file m.kind m.offset s ∷ []) (slice_range-seam texts text m.start m.end start end)

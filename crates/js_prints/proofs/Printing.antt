-- The emitted statements can be printed.
use Rattle.std.proofs.Common.{◌≡◌, ◌++◌, ℕ, suc, List, [], ◌∷◌, Bool, true, false, ◌&&◌, get_or, refl, ap, ◌∙◌, arith}
use Rattle.std.specs.Prelude.{IsTrue}
use Rattle.std.specs.List.{list_all}
use Rattle.std.proofs.lemmas.List.Folds.{list_all-append}
use Rattle.std.proofs.lemmas.Bool.Decides.{nat_tests}
use mir.Val.{Fits}
use mir.Syntax.{w8}
use Rattle.js_tree.specs.Script.{Stmt}
use Rattle.js_tree.specs.View.{stmts_of}
use Rattle.js_tree.specs.Printable.{is_byte, stmt_fits, stmts_fit}
use Rattle.js_prints.specs.Emitted.{AllFit}

both : (a b : Bool) → a ≡ true → b ≡ true → (a && b) ≡ true
both a b p q = ap (λ (x : Bool). x && b) p ∙ q

first : (a b : Bool) → (a && b) ≡ true → a ≡ true
first true b e = refl
first false b e = e

second : (a b : Bool) → (a && b) ≡ true → b ≡ true
second true b e = e
second false b e = absurd (cc)

-- numbers that fit a byte are bytes
pub are_bytes : (xs : List ℕ) → ((i : ℕ) → Fits w8 (get_or xs i 0)) → list_all is_byte xs ≡ true
are_bytes [] fits = refl
are_bytes (x ∷ xs) fits = both (is_byte x) (list_all is_byte xs) (let fit : Fits w8 x = fits 0 in grind (arith, nat_tests)) (are_bytes xs (λ i. fits (suc i)))

-- a text of bytes with bytes after it
pub bytes_after : (xs ys zs : List ℕ) → zs ≡ xs ++ ys → list_all is_byte ys ≡ true → list_all is_byte xs ≡ true → list_all is_byte zs ≡ true
bytes_after xs ys zs e p q = ap (list_all is_byte) e ∙ list_all-append is_byte xs ys ∙ both (list_all is_byte xs) (list_all is_byte ys) q p

-- one statement more
pub fits_after : (ss ts : List Stmt) (s : Stmt) → ts ≡ ss ++ s ∷ [] → IsTrue (stmt_fits 1 s) → AllFit ss → AllFit ts
fits_after [] ts s e p q = ap (λ (all : List Stmt). stmts_fit 1 (stmts_of all)) e ∙ both (stmt_fits 1 s) true p refl
fits_after (x ∷ ss) ts s e p q =
    ap (λ (all : List Stmt). stmts_fit 1 (stmts_of all)) e
    ∙ both (stmt_fits 1 x) (stmts_fit 1 (stmts_of (ss ++ s ∷ []))) (first _ _ q) (fits_after ss (ss ++ s ∷ []) s refl p (second (stmt_fits 1 x) _ q))

-- a text with one byte after it
pub byte_after : (xs ys : List ℕ) (b : ℕ) → ys ≡ xs ++ b ∷ [] → is_byte b ≡ true → list_all is_byte xs ≡ true → list_all is_byte ys ≡ true
byte_after xs ys b e p q = bytes_after xs (b ∷ []) ys e (both (is_byte b) true p refl) q

-- The end of a clause, and lists by an index.
use Rattle.std.proofs.Common.{arith, ◌≡◌, ◌≢◌, ◌<◌, ◌≤◌, ◌+◌, ◌-◌, ◌∙◌, ℕ, zero, suc, refl, sym, ap, List, [], ◌∷◌, ◌++◌, map, length, drop, get_or, true, false}
use Rattle.std.proofs.Math.Seq.{drop-cons}
use Rattle.go_syntax.specs.Tree as t
use Rattle.go_syntax.specs.View.{stmt_view, stmts_of}
use Rattle.go_syntax.specs.declared.tree.Stmt.{Stmt}
use Rattle.go_typing.specs.Statements.{falls}
use Rattle.go_body.specs.Forms.{is_fallthrough}

-- ---- lists by an index

pub next_at : {X : Type 0} (xs : List X) (i : ℕ) (x : X) → i < length xs → x ≡ get_or xs i x → drop i xs ≡ x ∷ drop (i + 1) xs
next_at {X} xs i x h e =
    let one : suc i ≡ i + 1 = omega arith in
    drop-cons xs i x h ∙ ap (λ (y : X). y ∷ drop (suc i) xs) (sym e) ∙ ap (λ (n : ℕ). x ∷ drop n xs) one

pub past : {X : Type 0} (xs : List X) (i : ℕ) → length xs ≤ i → drop i xs ≡ []
past [] zero h = refl
past [] (suc i) h = refl
past (x ∷ xs) zero h = absurd (omega arith)
past (x ∷ xs) (suc i) h = past xs i (omega arith)

pub some_at : {X : Type 0} (xs : List X) (i : ℕ) → drop i xs ≡ [] → length xs ≤ i
some_at [] zero h = omega arith
some_at [] (suc i) h = omega arith
some_at (x ∷ xs) zero h = absurd (cc)
some_at (x ∷ xs) (suc i) h = let k = some_at xs i h in omega (arith, k)

-- ---- the end of a clause

-- only the last one falls
pub fallen_on : (s r : t.Stmt) (rs : t.Stmts) → falls (t.MoreStmts s (t.MoreStmts r rs)) ≡ falls (t.MoreStmts r rs)
fallen_on (t.FallthroughStmt at) r rs = refl
fallen_on _ r rs = refl

pub falls_alone : (s : t.Stmt) → falls (t.MoreStmts s t.NoStmts) ≡ is_fallthrough s
falls_alone (t.FallthroughStmt at) = refl
falls_alone _ = refl

falls_last : (xs : List Stmt) (s : Stmt) → falls (stmts_of (map stmt_view (xs ++ s ∷ []))) ≡ is_fallthrough (stmt_view s)
falls_last [] s = falls_alone (stmt_view s)
falls_last (x ∷ []) s = fallen_on (stmt_view x) (stmt_view s) t.NoStmts ∙ falls_alone (stmt_view s)
falls_last (x ∷ y ∷ xs) s = fallen_on (stmt_view x) (stmt_view y) (stmts_of (map stmt_view (xs ++ s ∷ []))) ∙ falls_last (y ∷ xs) s

pub falls_at : (xs : List Stmt) (n : ℕ) (s : Stmt) → n ≡ length xs → n ≢ 0 → s ≡ get_or xs (n - 1) s → is_fallthrough (stmt_view s) ≡ falls (stmts_of (map stmt_view xs))
falls_at [] n s h k e = absurd (k h)
falls_at (x ∷ []) n s h k e =
    let one : n - 1 ≡ 0 = omega (arith, h) in
    ap (λ (y : Stmt). is_fallthrough (stmt_view y)) (e ∙ ap (λ (i : ℕ). get_or (x ∷ []) i s) one) ∙ sym (falls_alone (stmt_view x))
falls_at (x ∷ y ∷ xs) n s h k e =
    let one : n - 1 ≡ suc (length xs) = omega (arith, h) in
    let less : length xs ≡ suc (length xs) - 1 = omega arith in
    let some : suc (length xs) ≢ 0 = omega arith in
    falls_at (y ∷ xs) (suc (length xs)) s refl some (e ∙ ap (λ (i : ℕ). get_or (x ∷ y ∷ xs) i s) one ∙ ap (λ (i : ℕ). get_or (y ∷ xs) i s) less)
    ∙ sym (fallen_on (stmt_view x) (stmt_view y) (stmts_of (map stmt_view xs)))

pub falls_none : (xs : List Stmt) (n : ℕ) → n ≡ length xs → n ≡ 0 → false ≡ falls (stmts_of (map stmt_view xs))
falls_none [] n h k = refl
falls_none (x ∷ xs) n h k = absurd (omega (arith, h, k))

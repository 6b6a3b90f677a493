-- Marks, one more at a time.
use Rattle.std.proofs.Common.{◌≡◌, ap, sym, subst, ◌∙◌, ℕ, zero, suc, List, [], ◌∷◌, ◌++◌, length, Some, Bool, true, slice_get}
use Rattle.js_code.specs.Parts.{Part, Tree, tree_of, trees_of}
use Rattle.js_simple.specs.Simple.{is_simple, are_simple, IsSomeCode, IsSimpleTree, HasNoCall, AreMarks, mark_at}
use Rattle.js_simple.proofs.Parts.{expr_is, exprs_is}

-- what holds of each that is marked, and of one more
each_mark : (P : ℕ → Type 0) (marks : List Bool) (m : Bool) → ((i : ℕ) → mark_at marks i ≡ true → P i) → (m ≡ true → P (length marks))
    → (i : ℕ) → mark_at (marks ++ m ∷ []) i ≡ true → P i
each_mark P [] m h k zero e = k e
each_mark P [] m h k (suc i) e = cc
each_mark P (x ∷ xs) m h k zero e = h 0 e
each_mark P (x ∷ xs) m h k (suc i) e = each_mark (λ j. P (suc j)) xs m (λ j q. h (suc j) q) k i e

pub marked_more : (trees : List Tree) (marks : List Bool) (m : Bool) (i : ℕ) → AreMarks trees marks → length marks ≡ i → (m ≡ true → HasNoCall trees i)
    → AreMarks trees (marks ++ m ∷ [])
marked_more trees marks m i h n k = each_mark (HasNoCall trees) marks m h (subst (λ (j : ℕ). m ≡ true → HasNoCall trees j) (sym n) k)

pub none_marked : (trees : List Tree) → AreMarks trees []
none_marked trees i e = cc

-- the tree of a part that is there has no call in it
pub marked_part : (ps : List Part) (i : ℕ) (p : Part) → IsSomeCode ps → slice_get ps i ≡ Some p → IsSimpleTree (tree_of (trees_of ps) p) → HasNoCall (trees_of ps) i
marked_part ps i p sound held t = (ap is_simple (expr_is ps i p sound held) ∙ t.one, ap are_simple (exprs_is ps i p sound held) ∙ t.all)

-- What begins and ends a plain function.
use Rattle.std.specs.Prelude.{◌≡◌, ◌≤◌, ℕ, List, [], ◌∷◌, ◌++◌, length, Bool, true, false, ◌&&◌, codes, decimal}
use Rattle.go_core.specs.CoreTree as core
use Rattle.js_tree.specs.Script as script
use Rattle.js_tree.specs.Script.{no_stmts}
use Rattle.js_pool.specs.Tree as tree
use Rattle.js_pool.specs.Stands.{Grows}
use Rattle.js_pool.specs.Says.{NamesAre, Tops}
use Rattle.js_pool.specs.declared.node.Block.{Block}
use Rattle.js_pool.specs.declared.node.Names.{Names}
use Rattle.js_pool.specs.declared.node.Item.{Item}
use Rattle.js_pool.specs.declared.pool.Pool.{Pool}
use Rattle.js_body.specs.declared.body.Body.{Body}
use Rattle.js_body.specs.State.{State, Line, block_tree, with_lines_of, lines_since, cut_to, slot_tree, slot_read, slot_set, slot_begun, fresh_tree}
use Rattle.js_body.specs.Tells.{Tells, Lasts, BlockIs}

-- nothing after a statement is come to, as it shows; after several, as the last one shows
abbrev mutual
  pub is_end : core.Stmt → Bool
  is_end (core.sequence ss) = ends ss
  is_end (core.if_ e a b) = ends a && ends b
  is_end (core.return_ es) = true
  is_end (core.panic_ e) = true
  is_end _ = false

  pub ends : core.Stmts → Bool
  ends core.no_stmts = false
  ends (core.stmt s core.no_stmts) = is_end s
  ends (core.stmt s (core.stmt t ss)) = ends (core.stmt t ss)

-- one `if` alone
abbrev pub is_if : core.Stmt → Bool
is_if (core.if_ e a b) = true
is_if _ = false

abbrev pub is_one_if : core.Stmts → Bool
is_one_if (core.stmt s core.no_stmts) = is_if s
is_one_if _ = false

abbrev pub func_bytes : ℕ → List ℕ
func_bytes n = codes "$f" ++ decimal n

-- what stands in a slot gets a box
abbrev pub slot_boxed : ℕ → State → State
slot_boxed n s = slot_set n (fresh_tree true (slot_tree n s)) (slot_read n s)

-- a captured variable by its place among what the function holds
abbrev pub captured_begun : ℕ → ℕ → State → State
captured_begun slot n s = slot_begun slot (tree.index (tree.name (codes "$c")) (tree.number n)) s

-- the statements of a block come again
abbrev pub included : List Line → State → State
included ls s = with_lines_of (ls ++ s.lines) s

abbrev pub func_tree : ℕ → List (List ℕ) → List Line → script.Item
func_tree n xs ls = script.function_item (record { name = func_bytes n; params = xs; body = block_tree ls no_stmts; at = 0 })

-- the last of the script's top stands for this
abbrev pub LastTop : Pool → script.Item → Type 0
LastTop q t = (x : Item) × (before : List Item) × (q.items.items ≡ before ++ x ∷ []) × Tops q x t

-- the statements since a mark, with those of a block after them, are those of a function
abbrev pub AddsFunction : Body → Body → ℕ → Names → Block → ℕ → Type 0
AddsFunction p q n l d mark =
    Grows p.pool q.pool ×
    (Lasts q → (xs : List (List ℕ)) → NamesAre p.pool l xs → (ls : List Line) → BlockIs p.pool d ls → (s : State) → Tells p s → mark ≤ length s.lines
    → LastTop q.pool (func_tree n xs (lines_since mark (included ls s))) × Tells q (cut_to mark (included ls s)))

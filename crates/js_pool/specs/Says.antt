-- The tree that a statement of the tables stands for. What is added later leaves it as it is.
use Rattle.std.specs.Prelude.{◌≡◌, ℕ, List, [], ◌∷◌, ◌++◌, length, map, Option, Some, None, option_map}
use Rattle.js_tree.specs.Script as script
use Rattle.js_tree.specs.Script.{Expr, Stmts, no_stmts, stmt}
use Rattle.js_pool.specs.Names.{name_bytes}
use Rattle.js_pool.specs.Stands.{Stands, HeldAt, Later, Opened, opened, Grows, Keeps}
use Rattle.js_pool.specs.StmtTree.{else_tree}
use Rattle.js_pool.specs.declared.name.Name.{Name}
use Rattle.js_pool.specs.declared.node.ExprId.{ExprId}
use Rattle.js_pool.specs.declared.node.Block.{Block}
use Rattle.js_pool.specs.declared.node.Cases.{Cases}
use Rattle.js_pool.specs.declared.node.Names.{Names}
use Rattle.js_pool.specs.declared.node.Item.{Item}
use Rattle.js_pool.specs.declared.node.Item.TheVariants as item
use Rattle.js_pool.specs.declared.node.Case.{Case}
use Rattle.js_pool.specs.declared.node.Else.{Else}
use Rattle.js_pool.specs.declared.node.Else.TheVariants as tail
use Rattle.js_pool.specs.declared.node.Stmt.{Stmt}
use Rattle.js_pool.specs.declared.node.Stmt.TheVariants as line
use Rattle.js_pool.specs.declared.pool.Pool.{Pool}

mutual
  -- a statement stands for this tree
  pub data Says (p : Pool) : Stmt → script.Stmt → Type 0 where
    declare : {x : Name} {a : ExprId} {e : Expr} → Stands p a e → Says p (line.Declare x a) (script.declare 0 (name_bytes x) e)
    assign : {x : Name} {a : ExprId} {e : Expr} → Stands p a e → Says p (line.Assign x a) (script.assign 0 (name_bytes x) e)
    store : {a i v : ExprId} {e j w : Expr} → Stands p a e → Stands p i j → Stands p v w → Says p (line.Store a i v) (script.store 0 e j w)
    perform : {a : ExprId} {e : Expr} → Stands p a e → Says p (line.Perform a) (script.perform 0 e)
    push : {a v : ExprId} {e w : Expr} → Stands p a e → Stands p v w → Says p (line.Push a v) (script.push 0 e w)
    remove : {a k : ExprId} {e j : Expr} → Stands p a e → Stands p k j → Says p (line.Delete a k) (script.remove 0 e j)
    branch : {a : ExprId} {b : Block} {o : Else} {e : Expr} {ss : Stmts} {other : script.Else} → Stands p a e → SaysIn p b ss → SaysElse p o other → Says p (line.If a b o) (script.branch 0 e ss other)
    while : {l : Option Name} {a : ExprId} {b : Block} {e : Expr} {ss : Stmts} → Stands p a e → SaysIn p b ss → Says p (line.While l a b) (script.while 0 (option_map name_bytes l) e ss)
    forever : {l : Option Name} {b : Block} {ss : Stmts} → SaysIn p b ss → Says p (line.Forever l b) (script.forever 0 (option_map name_bytes l) ss)
    switch : {l : Option Name} {a : ExprId} {cs : Cases} {d : Option Block} {e : Expr} {ds : script.Cases} → Stands p a e → SaysSwitch p cs d ds → Says p (line.Switch l a cs d) (script.switch 0 (option_map name_bytes l) e ds)
    give : {a : ExprId} {e : Expr} → Stands p a e → Says p (line.Return (Some a)) (script.return 0 (Some e))
    leave : Says p (line.Return None) (script.return 0 None)
    throw : {a : ExprId} {e : Expr} → Stands p a e → Says p (line.Throw a) (script.throw 0 e)
    break : {l : Option Name} → Says p (line.Break l) (script.break 0 (option_map name_bytes l))
    continue : {l : Option Name} → Says p (line.Continue l) (script.continue 0 (option_map name_bytes l))
    attempt : {b c : Block} {ss ts : Stmts} → SaysIn p b ss → SaysIn p c ts → Says p (line.Try b c) (script.attempt 0 ss ts)

  -- so do these statements
  pub data AllSay (p : Pool) : List Stmt → Stmts → Type 0 where
    none : AllSay p [] no_stmts
    more : {x : Stmt} {xs : List Stmt} {s : script.Stmt} {ss : Stmts} → Says p x s → AllSay p xs ss → AllSay p (x ∷ xs) (stmt s ss)

  -- and those of a block
  pub data SaysIn (p : Pool) : Block → Stmts → Type 0 where
    held : {b : Block} {xs : List Stmt} {ss : Stmts} → HeldAt p.stmts.items b.from b.many xs → AllSay p xs ss → SaysIn p b ss

  -- and what stands after the block of an `if`
  pub data SaysElse (p : Pool) : Else → script.Else → Type 0 where
    nothing : SaysElse p tail.Nothing script.no_else
    other : {b : Block} {ss : Stmts} → SaysIn p b ss → SaysElse p (tail.Block b) (else_tree ss)

  -- and a case, before others
  pub data SaysCase (p : Pool) : Case → (script.Cases → script.Cases) → Type 0 where
    one_case : {c : Case} {ss : Stmts} → SaysIn p c.body ss → SaysCase p c (script.case c.number ss)

  -- and these cases, before what stands after the last of them
  pub data AllCases (p : Pool) : script.Cases → List Case → script.Cases → Type 0 where
    no_case : {last : script.Cases} → AllCases p last [] last
    more_cases : {last : script.Cases} {c : Case} {cs : List Case} {f : script.Cases → script.Cases} {ds : script.Cases} → SaysCase p c f → AllCases p last cs ds → AllCases p last (c ∷ cs) (f ds)

  -- and those of a part of the table of cases, with or without `default`
  pub data SaysSwitch (p : Pool) : Cases → Option Block → script.Cases → Type 0 where
    bare : {cs : Cases} {xs : List Case} {ds : script.Cases} → HeldAt p.cases.items cs.from cs.many xs → AllCases p script.no_cases xs ds → SaysSwitch p cs None ds
    and_default : {cs : Cases} {xs : List Case} {b : Block} {ss : Stmts} {ds : script.Cases} → HeldAt p.cases.items cs.from cs.many xs → SaysIn p b ss → AllCases p (script.default ss) xs ds
        → SaysSwitch p cs (Some b) ds

-- these parameters have these names
pub data NamesAre (p : Pool) : Names → List (List ℕ) → Type 0 where
  names_are : {l : Names} {xs : List Name} → HeldAt p.names.items l.from l.many xs → NamesAre p l (map name_bytes xs)

-- what a script's top holds stands for this
pub data Tops (p : Pool) : Item → script.Item → Type 0 where
  function : {f : Name} {l : Names} {b : Block} {xs : List (List ℕ)} {ss : Stmts} → NamesAre p l xs → SaysIn p b ss
      → Tops p (item.Function f l b) (script.function_item (record { name = name_bytes f; params = xs; body = ss; at = 0 }))
  global : {x : Name} {a : ExprId} {e : Expr} → Stands p a e → Tops p (item.Global x a) (script.global_item 0 (name_bytes x) e)

-- so do these, in order
pub data AllTop (p : Pool) : List Item → List script.Item → Type 0 where
  top_none : AllTop p [] []
  top_more : {i : Item} {xs : List Item} {t : script.Item} {ts : List script.Item} → Tops p i t → AllTop p xs ts → AllTop p (i ∷ xs) (t ∷ ts)

-- the tables have only grown, and open lists are these now
abbrev pub Opens : Pool → Pool → Opened → Type 0
Opens p q o = Grows p q × ((end : Pool) → Later q end → opened q ≡ o)

abbrev pub with_lines : Opened → List Stmt → Opened
with_lines o xs = record { lines = xs; rest = o.rest; arms = o.arms }

abbrev pub with_arms : Opened → List Case → Opened
with_arms o cs = record { lines = o.lines; rest = o.rest; arms = cs }

-- one more statement of the innermost open block
abbrev pub AddsLine : Pool → Pool → Stmt → Type 0
AddsLine p q x = Opens p q (with_lines (opened p) ((opened p).lines ++ x ∷ []))

-- likewise a statement with a part that was made for it, which stands for this tree
abbrev pub AddsWith : Pool → Pool → (ExprId → Stmt) → Expr → Type 0
AddsWith p q f t = (i : ExprId) × AddsLine p q (f i) × ((end : Pool) → Later q end → Stands end i t)

-- a block that was opened after these statements is closed, and those since then are its own
abbrev pub ClosesBlock : Pool → Pool → ℕ → Block → Type 0
ClosesBlock p q mark b =
    Grows p q ×
    ((end : Pool) → Later q end → (before xs : List Stmt) → (opened p).lines ≡ before ++ xs → mark ≡ length before → (opened q ≡ with_lines (opened p) before) × HeldAt end.stmts.items b.from b.many xs)

-- the statements of a closed block, once more
abbrev pub Includes : Pool → Pool → Block → Type 0
Includes p q b =
    Grows p q ×
    ((end : Pool) → Later q end → (xs : List Stmt) → HeldAt p.stmts.items b.from b.many xs → opened q ≡ with_lines (opened p) ((opened p).lines ++ xs))

-- one more case of the innermost open `switch`
abbrev pub AddsCase : Pool → Pool → ℕ → Block → Type 0
AddsCase p q n b = Opens p q (with_arms (opened p) ((opened p).arms ++ record { number = n; body = b } ∷ []))

-- a `switch` that was opened after these cases is closed, and those since then are its own
abbrev pub ClosesCases : Pool → Pool → ℕ → Cases → Type 0
ClosesCases p q mark cs =
    Grows p q ×
    ((end : Pool) → Later q end → (before xs : List Case) → (opened p).arms ≡ before ++ xs → mark ≡ length before → (opened q ≡ with_arms (opened p) before) × HeldAt end.cases.items cs.from cs.many xs)

-- these names are added to the open list of parameters
abbrev pub PutsNames : Pool → Pool → List Name → Type 0
PutsNames p q xs = Keeps p q × ((end : Pool) → Later q end → q.names.items ≡ p.names.items ++ xs)

-- a list of parameters that was begun after these names is ended
abbrev pub ClosesNames : Pool → Pool → ℕ → Names → Type 0
ClosesNames p q mark r =
    Keeps p q × ((end : Pool) → Later q end → (before xs : List Name) → p.names.items ≡ before ++ xs → mark ≡ length before → HeldAt end.names.items r.from r.many xs)

-- these names are in the table
abbrev pub MakesNames : Pool → Names → List Name → Type 0
MakesNames q r xs = (end : Pool) → Later q end → HeldAt end.names.items r.from r.many xs

-- one more function or variable at the script's top
abbrev pub AddsTop : Pool → Pool → Item → Type 0
AddsTop p q x = Keeps p q × ((end : Pool) → Later q end → q.items.items ≡ p.items.items ++ x ∷ [])

-- one more statement, which stands for a tree of those that a block stands for
abbrev pub AddsBody : Pool → Pool → Block → (Stmts → script.Stmt) → Type 0
AddsBody p q b f =
    (x : Stmt) × AddsLine p q x × ((end : Pool) → Later q end → (ss : Stmts) → SaysIn end b ss → Says end x (f ss))

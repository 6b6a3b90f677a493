-- The tree that an expression of the tables stands for. What is added later leaves it as it is.
use Rattle.std.specs.Prelude.{◌≡◌, ℕ, ◌+◌, List, [], ◌∷◌, ◌++◌, Bool, false, Some, length}
use Rattle.std.specs.List.{slice_get}
use Rattle.js_tree.specs.Script.{Expr, Exprs, no_exprs, expr}
use Rattle.js_tree.specs.declared.tree.UnaryOp.{UnaryOp}
use Rattle.js_tree.specs.declared.tree.BinaryOp.{BinaryOp}
use Rattle.js_pool.specs.Tree as tree
use Rattle.js_pool.specs.Names.{name_bytes}
use Rattle.js_pool.specs.declared.name.Name.{Name}
use Rattle.js_pool.specs.declared.node.ExprId.{ExprId}
use Rattle.js_pool.specs.declared.node.Bytes.{Bytes}
use Rattle.js_pool.specs.declared.node.Span.{Span}
use Rattle.js_pool.specs.declared.node.Stmt.{Stmt}
use Rattle.js_pool.specs.declared.node.Case.{Case}
use Rattle.js_pool.specs.declared.node.Item.{Item}
use Rattle.js_pool.specs.declared.node.Node.{Node}
use Rattle.js_pool.specs.declared.node.Node.TheVariants as node
use Rattle.js_pool.specs.declared.pool.Pool.{Pool}

-- from here on so many elements of a table are these
pub record HeldAt {A : Type 0} (table : List A) (from many : ℕ) (xs : List A) : Type 0 where
  pub all : length xs ≡ many
  pub each : (i : ℕ) (x : A) → slice_get xs i ≡ Some x → slice_get table (from + i) ≡ Some x

mutual
  -- the expression with this number stands for this tree
  pub data Stands (p : Pool) : ExprId → Expr → Type 0 where
    at_node : {i : ExprId} {x : Node} {t : Expr} → slice_get p.nodes.items i.0 ≡ Some x → Shows p x t → Stands p i t

  -- so does a node itself
  pub data Shows (p : Pool) : Node → Expr → Type 0 where
    number : {n : ℕ} → Shows p (node.Number n) (tree.number n)
    string : {b : Bytes} {s : List ℕ} → HeldAt p.bytes.items b.from b.many s → Shows p (node.Str b) (tree.string s)
    boolean : {b : Bool} → Shows p (node.Bool b) (tree.boolean b)
    null : Shows p node.Null tree.null
    name : {x : Name} → Shows p (node.Name x) (tree.name (name_bytes x))
    unary : {op : UnaryOp} {a : ExprId} {s : Expr} → Stands p a s → Shows p (node.Unary op a) (tree.unary op s)
    binary : {op : BinaryOp} {a b : ExprId} {s t : Expr} → Stands p a s → Stands p b t → Shows p (node.Binary op a b) (tree.binary op s t)
    both : {a b : ExprId} {s t : Expr} → Stands p a s → Stands p b t → Shows p (node.And a b) (tree.both s t)
    either : {a b : ExprId} {s t : Expr} → Stands p a s → Stands p b t → Shows p (node.Or a b) (tree.either s t)
    choice : {a b c : ExprId} {s t u : Expr} → Stands p a s → Stands p b t → Stands p c u → Shows p (node.Conditional a b c) (tree.choice s t u)
    call : {f : ExprId} {l : Span} {s : Expr} {ts : Exprs} → Stands p f s → StandIn p l ts → Shows p (node.Call f l) (tree.call s ts)
    index : {a b : ExprId} {s t : Expr} → Stands p a s → Stands p b t → Shows p (node.Index a b) (tree.index s t)
    length_of : {a : ExprId} {s : Expr} → Stands p a s → Shows p (node.Length a) (tree.length_of s)
    pop : {a : ExprId} {s : Expr} → Stands p a s → Shows p (node.Pop a) (tree.pop s)
    char_code_at : {a b : ExprId} {s t : Expr} → Stands p a s → Stands p b t → Shows p (node.CharCodeAt a b) (tree.char_code_at s t)
    substring : {a b c : ExprId} {s t u : Expr} → Stands p a s → Stands p b t → Stands p c u → Shows p (node.Substring a b c) (tree.substring s t u)
    array : {l : Span} {ts : Exprs} → StandIn p l ts → Shows p (node.Array l) (tree.array ts)
    dictionary : Shows p node.Dictionary tree.dictionary
    decimal_of : {a : ExprId} {s : Expr} → Stands p a s → Shows p (node.Decimal a) (tree.decimal_of s)
    from_char_code : {a : ExprId} {s : Expr} → Stands p a s → Shows p (node.FromCharCode a) (tree.from_char_code s)

  -- so do the expressions of a part of the table of lists
  pub data StandIn (p : Pool) : Span → Exprs → Type 0 where
    held : {l : Span} {es : List ExprId} {ts : Exprs} → HeldAt p.lists.items l.from l.many es → AllStand p es ts → StandIn p l ts

  -- and these expressions
  pub data AllStand (p : Pool) : List ExprId → Exprs → Type 0 where
    none : AllStand p [] no_exprs
    more : {a : ExprId} {es : List ExprId} {t : Expr} {ts : Exprs} → Stands p a t → AllStand p es ts → AllStand p (a ∷ es) (expr t ts)

-- what a table holds another one does
abbrev pub Holds : {A : Type 0} → List A → List A → Type 0
Holds {A} xs ys = (i : ℕ) (x : A) → slice_get xs i ≡ Some x → slice_get ys i ≡ Some x

-- memory hasn't run out, and the tables have only grown
pub record Grown (p q : Pool) : Type 0 where
  pub sound : p.failed ≡ false
  pub nodes : Holds p.nodes.items q.nodes.items
  pub lists : Holds p.lists.items q.lists.items
  pub bytes : Holds p.bytes.items q.bytes.items
  pub stmts : Holds p.stmts.items q.stmts.items
  pub cases : Holds p.cases.items q.cases.items
  pub names : Holds p.names.items q.names.items
  pub items : Holds p.items.items q.items.items

-- whatever the tables become, while memory lasts
unfoldable pub Later : Pool → Pool → Type 0
Later q end = Grown q end

-- what belongs to lists that are still open
pub record Opened : Type 0 where
  pub lines : List Stmt
  pub rest : List ExprId
  pub arms : List Case

unfoldable pub opened : Pool → Opened
opened p = record { lines = p.lines.items; rest = p.rest.items; arms = p.arms.items }

-- the tables have only grown
abbrev pub Grows : Pool → Pool → Type 0
Grows p q = (end : Pool) → Later q end → Later p end

-- likewise, and open lists are what they were
abbrev pub Keeps : Pool → Pool → Type 0
Keeps p q = Grows p q × (opened q ≡ opened p)

-- what was added stands for what this node does
abbrev pub MakesNode : Pool → ExprId → Node → Type 0
MakesNode q r x = (end : Pool) → Later q end → (t : Expr) → Shows end x t → Stands end r t

-- these bytes are in the table
abbrev pub MakesBytes : Pool → Bytes → List ℕ → Type 0
MakesBytes q r s = (end : Pool) → Later q end → HeldAt end.bytes.items r.from r.many s

-- this part of the table of lists is these expressions
abbrev pub MakesList : Pool → Span → List ExprId → Type 0
MakesList q r es = (end : Pool) → Later q end → (ts : Exprs) → AllStand end es ts → StandIn end r ts

-- the tables have only grown, and what was made stands for this tree, whatever they become
abbrev pub Builds : Pool → Pool → ExprId → Expr → Type 0
Builds p q r t = Keeps p q × ((end : Pool) → Later q end → Stands end r t)

-- likewise for a tree of those that its parts stand for
abbrev pub Builds1 : Pool → Pool → ExprId → ExprId → (Expr → Expr) → Type 0
Builds1 p q r a f = Keeps p q × ((end : Pool) → Later q end → (s : Expr) → Stands end a s → Stands end r (f s))

abbrev pub Builds2 : Pool → Pool → ExprId → ExprId → ExprId → (Expr → Expr → Expr) → Type 0
Builds2 p q r a b f = Keeps p q × ((end : Pool) → Later q end → (s t : Expr) → Stands end a s → Stands end b t → Stands end r (f s t))

abbrev pub Builds3 : Pool → Pool → ExprId → ExprId → ExprId → ExprId → (Expr → Expr → Expr → Expr) → Type 0
Builds3 p q r a b c f =
    Keeps p q × ((end : Pool) → Later q end → (s t u : Expr) → Stands end a s → Stands end b t → Stands end c u → Stands end r (f s t u))

abbrev pub Builds4 : Pool → Pool → ExprId → ExprId → ExprId → ExprId → ExprId → (Expr → Expr → Expr → Expr → Expr) → Type 0
Builds4 p q r a b c d f =
    Keeps p q × ((end : Pool) → Later q end → (s t u v : Expr) → Stands end a s → Stands end b t → Stands end c u → Stands end d v → Stands end r (f s t u v))

-- a tree of those that a list of parts stands for
abbrev pub BuildsOf : Pool → Pool → ExprId → List ExprId → (Exprs → Expr) → Type 0
BuildsOf p q r es f = Keeps p q × ((end : Pool) → Later q end → (ts : Exprs) → AllStand end es ts → Stands end r (f ts))

-- a tree of the bytes of a table
abbrev pub BuildsText : Pool → Pool → ExprId → Bytes → (List ℕ → Expr) → Type 0
BuildsText p q r b f = Keeps p q × ((end : Pool) → Later q end → (s : List ℕ) → HeldAt end.bytes.items b.from b.many s → Stands end r (f s))

-- a tree of those that a part of the table of lists stands for
abbrev pub BuildsList : Pool → Pool → ExprId → Span → (Exprs → Expr) → Type 0
BuildsList p q r l f =
    Keeps p q × ((end : Pool) → Later q end → (ts : Exprs) → StandIn end l ts → Stands end r (f ts))

abbrev pub BuildsCall : Pool → Pool → ExprId → ExprId → Span → (Expr → Exprs → Expr) → Type 0
BuildsCall p q r a l f =
    Keeps p q × ((end : Pool) → Later q end → (s : Expr) (ts : Exprs) → Stands end a s → StandIn end l ts → Stands end r (f s ts))

-- one more expression of the innermost open list
abbrev pub AddsItem : Pool → Pool → ExprId → Type 0
AddsItem p q e =
    Grows p q × ((end : Pool) → Later q end → opened q ≡ record { lines = (opened p).lines; rest = (opened p).rest ++ e ∷ []; arms = (opened p).arms })

-- a list that was opened after these expressions is closed, and those since then are its own
abbrev pub ClosesList : Pool → Pool → ℕ → Span → Type 0
ClosesList p q mark r =
    Grows p q ×
    ((end : Pool) → Later q end → (before es : List ExprId) → (opened p).rest ≡ before ++ es → mark ≡ length before → (opened q ≡ record { lines = (opened p).lines; rest = before; arms = (opened p).arms }) × ((ts : Exprs) → AllStand end es ts → StandIn end r ts))

-- these bytes are added to the open string
abbrev pub Puts : Pool → Pool → List ℕ → Type 0
Puts p q s = Keeps p q × ((end : Pool) → Later q end → q.bytes.items ≡ p.bytes.items ++ s)

-- a string that was begun after these bytes is ended
abbrev pub ClosesBytes : Pool → Pool → ℕ → Bytes → Type 0
ClosesBytes p q mark r =
    Keeps p q × ((end : Pool) → Later q end → (before s : List ℕ) → p.bytes.items ≡ before ++ s → mark ≡ length before → HeldAt end.bytes.items r.from r.many s)

-- a tree that hangs on what a part stands for already
abbrev pub Sees1 : Pool → Pool → ExprId → ExprId → (Expr → Expr) → Type 0
Sees1 p q r a f = Keeps p q × ((end : Pool) → Later q end → (s : Expr) → Stands end a s → Stands p a s → Stands end r (f s))

-- a tree that hangs on what the second of two parts stands for already
abbrev pub Sees2 : Pool → Pool → ExprId → ExprId → ExprId → (Expr → Expr → Expr) → Type 0
Sees2 p q r a b f =
    Keeps p q × ((end : Pool) → Later q end → (s t : Expr) → Stands end a s → Stands end b t → Stands p b t → Stands end r (f s t))

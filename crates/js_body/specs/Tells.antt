-- A body tells a state: what its tables hold stands for the state's trees, as long as memory lasts.
use Rattle.std.specs.Prelude.{◌≡◌, ℕ, List, [], ◌∷◌, reverse, Bool, true, false, Option, Some, None}
use Rattle.js_tree.specs.Script as script
use Rattle.js_tree.specs.Script.{Expr}
use Rattle.js_pool.specs.Tree as tree
use Rattle.js_pool.specs.Stands.{Stands, HeldAt, Grows, Opened, opened}
use Rattle.js_pool.specs.Says.{Says, SaysIn, Opens, with_lines}
use Rattle.js_pool.specs.declared.name.Name.{Name}
use Rattle.js_pool.specs.declared.name.Name.TheVariants as name
use Rattle.js_pool.specs.declared.node.Block.{Block}
use Rattle.js_pool.specs.declared.node.Case.{Case}
use Rattle.js_pool.specs.declared.node.ExprId.{ExprId}
use Rattle.js_pool.specs.declared.node.Node.{Node}
use Rattle.js_pool.specs.declared.node.Node.TheVariants as node
use Rattle.js_pool.specs.declared.node.Stmt.{Stmt}
use Rattle.js_pool.specs.declared.node.Stmt.TheVariants as line
use Rattle.js_pool.specs.declared.pool.Pool.{Pool}
use Rattle.go_type.specs.declared.types.TypeId.{TypeId}
use Rattle.js_facts.specs.Held.{is_block}
use Rattle.js_body.specs.declared.body.Body.{Body}
use Rattle.js_body.specs.declared.body.Operand.{Operand}
use Rattle.js_body.specs.State.{State, Around, Arm, Value, Word, alone, numbered, Line, declares, assigns, says, rest_of, held_type}

abbrev pub word_of : Name → Word
word_of (name.Word w) = alone w.now
word_of (name.Numbered w n) = numbered w.now n

-- whether a statement sets a name
abbrev pub sets_name : Stmt → Bool
sets_name (line.Declare x a) = true
sets_name (line.Assign x a) = true
sets_name _ = false

pub data LineIs (p : Pool) : Stmt → Line → Type 0 where
  declared : {x : Name} {a : ExprId} {e : Expr} → Stands p a e → LineIs p (line.Declare x a) (declares (word_of x) e)
  assigned : {x : Name} {a : ExprId} {e : Expr} → Stands p a e → LineIs p (line.Assign x a) (assigns (word_of x) e)
  said : {x : Stmt} {s : script.Stmt} → sets_name x ≡ false → Says p x s → LineIs p x (says s)

pub data LinesAre (p : Pool) : List Stmt → List Line → Type 0 where
  no_line : LinesAre p [] []
  more_lines : {x : Stmt} {xs : List Stmt} {l : Line} {ls : List Line} → LineIs p x l → LinesAre p xs ls → LinesAre p (x ∷ xs) (l ∷ ls)

pub record ValueIs (p : Pool) (o : Operand) (v : Value) : Type 0 where
  pub stands : Stands p o.e v.tree
  pub known : o.known ≡ v.known

pub data ValuesAre (p : Pool) : List Operand → List Value → Type 0 where
  no_values : ValuesAre p [] []
  more_values : {o : Operand} {os : List Operand} {v : Value} {vs : List Value} → ValueIs p o v → ValuesAre p os vs → ValuesAre p (o ∷ os) (v ∷ vs)

-- what an answer that may be none stands for
pub data MayStand (p : Pool) : Option ExprId → Option Expr → Type 0 where
  stands_none : MayStand p None None
  stands_some : {a : ExprId} {t : Expr} → Stands p a t → MayStand p (Some a) (Some t)

pub data ItemsAre (p : Pool) : List ExprId → List Expr → Type 0 where
  no_item : ItemsAre p [] []
  more_items : {a : ExprId} {bs : List ExprId} {t : Expr} {ts : List Expr} → Stands p a t → ItemsAre p bs ts → ItemsAre p (a ∷ bs) (t ∷ ts)

pub record ArmIs (p : Pool) (c : Case) (a : Arm) : Type 0 where
  pub number : c.number ≡ a.number
  pub body : SaysIn p c.body a.body

pub data ArmsAre (p : Pool) : List Case → List Arm → Type 0 where
  no_arm : ArmsAre p [] []
  more_arms : {c : Case} {cs : List Case} {a : Arm} {bs : List Arm} → ArmIs p c a → ArmsAre p cs bs → ArmsAre p (c ∷ cs) (a ∷ bs)

-- a closed block holds these statements, the last one first
pub record BlockIs (p : Pool) (b : Block) (ls : List Line) : Type 0 where
  pub stmts : List Stmt
  pub held : HeldAt p.stmts.items b.from b.many stmts
  pub lines : LinesAre p (reverse stmts) ls

-- the parts of a body tell a state; `null` is the first expression of the tables
pub record PartsTell (p : Pool) (o : Opened) (os : List Operand) (temps : ℕ) (ds : List Bool) (near : Around) (s : State) : Type 0 where
  pub first : Stands p (record { 0 = 0 }) tree.null
  pub lines : LinesAre p (reverse o.lines) s.lines
  pub items : ItemsAre p (reverse o.rest) s.items
  pub arms : ArmsAre p (reverse o.arms) s.arms
  pub stack : ValuesAre p (reverse os) s.stack
  pub temps_are : temps ≡ s.temps
  pub declared_are : ds ≡ s.declared
  pub around_is : near ≡ s.around

abbrev pub around : Body → Around
around b = record {
  facts = b.facts;
  plain = b.plain;
  func = b.func;
  slots = b.slots.items;
  results = b.results.items;
  defers = b.defers;
  mentions_results = b.mentions_results;
  loops = b.loops;
  opened = b.slices.opened.items;
  exits = b.exits.items;
  next_case = b.next_case;
  next_slot = b.next_slot;
  open_case = b.open_case;
  open_lines = b.open_lines;
  first_case = b.first_case;
  adapters = b.adapters;
}

abbrev pub Tells : Body → State → Type 0
Tells b s = PartsTell b.pool (opened b.pool) b.stack.items b.temps b.declared.items (around b) s

-- memory hasn't run out
abbrev pub Lasts : Body → Type 0
Lasts b = b.pool.failed ≡ false

-- the tables have only grown, and a body that told a state tells what this makes of it
abbrev pub Runs : Body → Body → (State → State) → Type 0
Runs p q f = Grows p.pool q.pool × (Lasts q → (s : State) → Tells p s → Tells q (f s))

-- likewise, by the tree of an expression
abbrev pub Runs1 : Body → Body → ExprId → (Expr → State → State) → Type 0
Runs1 p q a f = Grows p.pool q.pool × (Lasts q → (t : Expr) → Stands p.pool a t → (s : State) → Tells p s → Tells q (f t s))

abbrev pub Runs2 : Body → Body → ExprId → ExprId → (Expr → Expr → State → State) → Type 0
Runs2 p q a b f =
    Grows p.pool q.pool × (Lasts q → (t u : Expr) → Stands p.pool a t → Stands p.pool b u → (s : State) → Tells p s → Tells q (f t u s))

-- likewise where no slice is to be opened before a loop
abbrev pub RunsClosed : Body → Body → (State → State) → Type 0
RunsClosed p q f = Grows p.pool q.pool × (Lasts q → (s : State) → Tells p s → s.around.opened ≡ [] → Tells q (f s))

-- likewise where a type is no struct or array
abbrev pub RunsScalar : Body → Body → (State → TypeId) → (State → State) → Type 0
RunsScalar p q t f = Grows p.pool q.pool × (Lasts q → (s : State) → Tells p s → is_block (held_type (t s) s) ≡ false → Tells q (f s))

abbrev pub GivesScalar : Body → Body → TypeId → ExprId → (State → Expr) → Type 0
GivesScalar p q t r g = Grows p.pool q.pool × (Lasts q → (s : State) → Tells p s → is_block (held_type t s) ≡ false → Stands q.pool r (g s) × Tells q s)

-- likewise, and gives what stands for the tree of an expression
abbrev pub OwnsScalar : Body → Body → TypeId → ExprId → ExprId → Type 0
OwnsScalar p q t a r =
    Grows p.pool q.pool × (Lasts q → (u : Expr) → Stands p.pool a u → (s : State) → Tells p s → is_block (held_type t s) ≡ false → Stands q.pool r u × Tells q s)

abbrev pub Runs3 : Body → Body → ExprId → ExprId → ExprId → (Expr → Expr → Expr → State → State) → Type 0
Runs3 p q a b c f =
    Grows p.pool q.pool ×
    (Lasts q → (t u v : Expr) → Stands p.pool a t → Stands p.pool b u → Stands p.pool c v → (s : State) → Tells p s → Tells q (f t u v s))

-- likewise, by what a closed block holds, and says whether something is so
abbrev pub RunsBlock : Body → Body → Block → Bool → (List Line → State → Bool) → (List Line → State → State) → Type 0
RunsBlock p q b r g f =
    Grows p.pool q.pool × (Lasts q → (ls : List Line) → BlockIs p.pool b ls → (s : State) → Tells p s → (r ≡ g ls s) × Tells q (f ls s))

-- likewise, by an expression besides
abbrev pub RunsBlock1 : Body → Body → Block → ExprId → Bool → (Expr → List Line → Bool) → (Expr → List Line → State → State) → Type 0
RunsBlock1 p q b a r g f =
    Grows p.pool q.pool ×
    (Lasts q → (t : Expr) → Stands p.pool a t → (ls : List Line) → BlockIs p.pool b ls → (s : State) → Tells p s → (r ≡ g t ls) × Tells q (f t ls s))

-- likewise, by the trees of two expressions
abbrev pub Decides2 : Body → Body → ExprId → ExprId → Bool → (Expr → Expr → Bool) → (Expr → Expr → State → State) → Type 0
Decides2 p q a b r g f =
    Grows p.pool q.pool ×
    (Lasts q → (t u : Expr) → Stands p.pool a t → Stands p.pool b u → (s : State) → Tells p s → (r ≡ g t u) × Tells q (f t u s))

-- likewise, and gives an expression
abbrev pub Gives : Body → Body → ExprId → (State → Expr) → (State → State) → Type 0
Gives p q r g f = Grows p.pool q.pool × (Lasts q → (s : State) → Tells p s → Stands q.pool r (g s) × Tells q (f s))

abbrev pub Gives1 : Body → Body → ExprId → ExprId → (Expr → State → Expr) → (Expr → State → State) → Type 0
Gives1 p q a r g f = Grows p.pool q.pool × (Lasts q → (t : Expr) → Stands p.pool a t → (s : State) → Tells p s → Stands q.pool r (g t s) × Tells q (f t s))

abbrev pub Gives2 : Body → Body → ExprId → ExprId → ExprId → (Expr → Expr → State → Expr) → (Expr → Expr → State → State) → Type 0
Gives2 p q a b r g f =
    Grows p.pool q.pool ×
    (Lasts q → (t u : Expr) → Stands p.pool a t → Stands p.pool b u → (s : State) → Tells p s → Stands q.pool r (g t u s) × Tells q (f t u s))

-- likewise, and gives a value
abbrev pub GivesValue : Body → Body → Operand → (State → Value) → (State → State) → Type 0
GivesValue p q r g f = Grows p.pool q.pool × (Lasts q → (s : State) → Tells p s → ValueIs q.pool r (g s) × Tells q (f s))

-- one more value, which is this operand
abbrev pub PutsValue : Body → Body → Operand → Type 0
PutsValue p q o = Grows p.pool q.pool × (Lasts q → (v : Value) → ValueIs p.pool o v → (s : State) → Tells p s → Tells q (record s { stack = v ∷ s.stack }))

abbrev pub is_declaration : Stmt → Bool
is_declaration (line.Declare x a) = true
is_declaration _ = false

abbrev pub first_declares : List Stmt → Bool
first_declares [] = false
first_declares (x ∷ xs) = is_declaration x

-- the last statement goes
abbrev pub DropsLine : Pool → Pool → Bool → Type 0
DropsLine p q r =
    Opens p q (with_lines (opened p) (opened q).lines) ×
    (reverse (opened q).lines ≡ rest_of (reverse (opened p).lines)) × (r ≡ first_declares (reverse (opened p).lines))

abbrev pub does_operation : Node → Bool
does_operation (node.Unary op a) = true
does_operation (node.Binary op a b) = true
does_operation (node.Index a b) = true
does_operation (node.Length a) = true
does_operation _ = false

abbrev pub joins : Node → Bool
joins (node.And a b) = true
joins (node.Or a b) = true
joins _ = false

-- likewise, and gives a number
abbrev pub GivesNumber : Body → Body → ℕ → (State → ℕ) → (State → State) → Type 0
GivesNumber p q r g f = Grows p.pool q.pool × (Lasts q → (s : State) → Tells p s → (r ≡ g s) × Tells q (f s))

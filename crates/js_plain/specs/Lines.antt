-- Laws of statements that are added, and of blocks.
use Rattle.std.proofs.Common.{◌≡◌, ◌≤◌, ℕ, List, [], ◌∷◌, ◌++◌, reverse, length, Bool, true, false, nat_eq, refl, sym, ap, ◌∙◌, subst, if◌then◌else◌, Option, Some, None}
use Rattle.std.proofs.lemmas.List.{reverse-append}
use Rattle.std.specs.List.{slice_get}
use Rattle.js_tree.specs.Script as script
use Rattle.js_tree.specs.Script.{Expr, Stmts, no_stmts}
use Rattle.js_pool.specs.Stands.{Stands, Later, Grows, Opened, opened}
use Rattle.js_pool.specs.Says as say
use Rattle.js_pool.specs.Says.{Says, SaysIn, AddsLine, AddsBody, ClosesBlock, Includes}
use Rattle.js_pool.specs.declared.node.ExprId.{ExprId}
use Rattle.js_pool.specs.declared.node.Block.{Block}
use Rattle.js_pool.specs.declared.node.Stmt.{Stmt}
use Rattle.js_pool.specs.declared.pool.Pool.{Pool}
use Rattle.js_pool.specs.declared.pool.Mark.{Mark}
use Rattle.js_body.specs.declared.body.Operand.{Operand}
use Rattle.js_body.specs.declared.body.Body.{Body}
use Rattle.js_body.specs.State.{State, depth, Around, Line, says, block_tree, with_line, with_lines_of, mark_at, lines_since, cut_to, held_type, var_tree, slot_read}
use Rattle.js_body.specs.Tells.{PartsTell, Tells, Lasts, Runs, Runs1, Gives, LinesAre, no_line, more_lines, LineIs, said, BlockIs, around}
use Rattle.js_body.specs.Later.{itself, stands_later}
use Rattle.js_facts.specs.Held.{is_block}
use Rattle.js_body.specs.declared.body.Home.{Home}
use Rattle.js_plain.specs.Control.{block_held}
use Rattle.js_body.specs.BlockLaws.{block_later, block_says, parts_since}
use Rattle.js_body.specs.StepLaws.{earlier, from_here, parts_line, lines_later, items_kept, arms_kept, values_later}

-- a `switch` sets no name
pub switch_line : {p : Pool} {x : Stmt} {l : Option (List ℕ)} {e : Expr} {ds : script.Cases} → Says p x (script.switch 0 l e ds) → LineIs p x (says (script.switch 0 l e ds))
switch_line (say.switch a c) = said refl (say.switch a c)

-- what a body with other tables is
abbrev pub over : Body → Pool → Body
over b p = record b { pool = p }

-- what is done since a mark
abbrev pub RunsSince : Body → Body → ℕ → (State → State) → Type 0
RunsSince p q mark f = Grows p.pool q.pool × (Lasts q → (s : State) → Tells p s → mark ≤ length s.lines → Tells q (f s))

-- something is given that hangs on the state
abbrev pub GivesThat : {A : Type 0} → Body → Body → A → (State → A) → (State → State) → Type 0
GivesThat p q r g f = Grows p.pool q.pool × (Lasts q → (s : State) → Tells p s → (r ≡ g s) × Tells q (f s))

-- an expression is given by what is done since a mark
abbrev pub GivesSince : Body → Body → ℕ → ExprId → (State → Expr) → (State → State) → Type 0
GivesSince p q mark r g f = Grows p.pool q.pool × (Lasts q → (s : State) → Tells p s → mark ≤ length s.lines → Stands q.pool r (g s) × Tells q (f s))

-- what is done by a tag since a mark of cases
abbrev pub RunsArms : Body → Body → ExprId → ℕ → (Expr → State → State) → Type 0
RunsArms p q a mark f = Grows p.pool q.pool × (Lasts q → (t : Expr) → Stands p.pool a t → (s : State) → Tells p s → mark ≤ length s.arms → Tells q (f t s))

-- what is done since a mark of open lists
abbrev pub RunsItems : Body → Body → ℕ → (State → State) → Type 0
RunsItems p q mark f = Grows p.pool q.pool × (Lasts q → (s : State) → Tells p s → mark ≤ length s.items → Tells q (f s))

-- what is done where no result is a struct or an array
abbrev pub ScalarResults : State → Type 0
ScalarResults s = (i : ℕ) → block_held (slice_get s.around.results i) s.around.facts ≡ false

abbrev pub RunsResults : Body → Body → (State → State) → Type 0
RunsResults p q f = Grows p.pool q.pool × (Lasts q → (s : State) → Tells p s → ScalarResults s → Tells q (f s))

-- likewise, asked where there are no values on the stack
abbrev pub Returns : Body → Body → (State → State) → Type 0
Returns p q f = Grows p.pool q.pool × (Lasts q → (s : State) → Tells p s → (nat_eq (depth s) 0 ≡ true → ScalarResults s) → Tells q (f s))

-- what is done with a variable that may be there, where it is no struct or array
abbrev pub RunsHeld : Body → Body → Option Home → (State → State) → Type 0
RunsHeld p q o f = Grows p.pool q.pool × (Lasts q → (s : State) → Tells p s → block_held o s.around.facts ≡ false → Tells q (f s))

abbrev pub RunsVar : Body → Body → Home → (State → State) → Type 0
RunsVar p q h f = Grows p.pool q.pool × (Lasts q → (s : State) → Tells p s → is_block (held_type h.ty s) ≡ false → Tells q (f s))

abbrev pub GivesVar : Body → Body → Home → ExprId → Type 0
GivesVar p q h r =
    Grows p.pool q.pool ×
    (Lasts q → (s : State) → Tells p s → is_block (held_type h.ty s) ≡ false → Stands q.pool r (var_tree h s) × Tells q (slot_read h.slot s))

-- the statements since a mark become a closed block
abbrev pub GivesArm : Body → Body → ExprId → ℕ → Block → (State → List Line) → (Expr → State → State) → Type 0
GivesArm p q a mark r g f =
    Grows p.pool q.pool ×
    (Lasts q → (t : Expr) → Stands p.pool a t → (s : State) → Tells p s → mark ≤ length s.lines → BlockIs q.pool r (g s) × Tells q (f t s))

-- what is done by a test and a closed block
abbrev pub SaysArm : Body → Body → ExprId → Block → (Expr → List Line → State → State) → Type 0
SaysArm p q a d f =
    Grows p.pool q.pool ×
    (Lasts q → (t : Expr) → Stands p.pool a t → (ls : List Line) → BlockIs p.pool d ls → (s : State) → Tells p s → Tells q (f t ls s))

-- likewise since a mark
abbrev pub SaysIf : Body → Body → ExprId → Block → ℕ → (Expr → List Line → State → State) → Type 0
SaysIf p q a d mark f =
    Grows p.pool q.pool ×
    (Lasts q → (t : Expr) → Stands p.pool a t → (ls : List Line) → BlockIs p.pool d ls → (s : State) → Tells p s → mark ≤ length s.lines → Tells q (f t ls s))

-- likewise since two marks
abbrev pub EndsIf : Body → Body → ExprId → Block → ℕ → ℕ → (Expr → List Line → State → State) → Type 0
EndsIf p q a d mark first f =
    Grows p.pool q.pool ×
    (Lasts q → (t : Expr) → Stands p.pool a t → (ls : List Line) → BlockIs p.pool d ls → (s : State) → Tells p s → mark ≤ length s.lines → first ≤ length s.lines → Tells q (f t ls s))

-- a statement is added
pub line_said : (b : Body) (p : Pool) (x : Stmt) (l : Line) → AddsLine b.pool p x → ((end : Pool) → LineIs end x l) → Runs b (over b p) (with_line l)
line_said b p x l a h = (a.0, λ e s t. parts_line b.pool p b.stack.items b.temps b.declared.items (around b) s x l a e (h p) t)

-- by the tree of an expression
pub line_said1 : (b : Body) (p : Pool) (i : ExprId) (x : Stmt) (f : Expr → Line) → AddsLine b.pool p x → ((end : Pool) (t : Expr) → Stands end i t → LineIs end x (f t)) → Runs1 b (over b p) i (λ t s. with_line (f t) s)
line_said1 b p i x f a h = (a.0, λ e t k s r. parts_line b.pool p b.stack.items b.temps b.declared.items (around b) s x (f t) a e (h p t (stands_later (from_here b.pool p a.0 e) k)) r)

-- one step after another
pub then_does : (b m q : Body) (f g : State → State) → Runs b m f → Runs m q g → Runs b q (λ s. g (f s))
then_does b m q f g x y = (λ end h. x.0 end (y.0 end h), λ l s t. y.1 l (f s) (x.1 (earlier m.pool q.pool y.0 l) s t))

lines_joined : {p : Pool} {xs ys : List Stmt} {ls ks : List Line} → LinesAre p xs ls → LinesAre p ys ks → LinesAre p (xs ++ ys) (ls ++ ks)
lines_joined no_line h = h
lines_joined (more_lines a t) h = more_lines a (lines_joined t h)

-- the statements of a closed block stand where they were
pub parts_included : (p q : Pool) (os : List Operand) (temps : ℕ) (ds : List Bool) (near : Around) (s : State) (b : Block) (ls : List Line)
    → BlockIs p b ls → Includes p q b → q.failed ≡ false → PartsTell p (opened p) os temps ds near s → PartsTell q (opened q) os temps ds near (with_lines_of (ls ++ s.lines) s)
parts_included p q os temps ds near s b ls h i l t =
    let g : Later p q = from_here p q i.0 l in
    let o = i.1 q (itself q l) h.stmts h.held in
    let e : reverse h.stmts ++ reverse (opened p).lines ≡ reverse (opened q).lines = sym (reverse-append (opened p).lines h.stmts) ∙ ap (λ (z : Opened). reverse z.lines) (sym o) in
    record {
      first = stands_later g t.first;
      lines = subst (λ (xs : List Stmt). LinesAre q xs (ls ++ s.lines)) e (lines_joined (lines_later g h.lines) (lines_later g t.lines));
      items = items_kept g (opened p).rest (opened q).rest s.items (ap (λ (z : Opened). z.rest) o) t.items;
      arms = arms_kept g (opened p).arms (opened q).arms s.arms (ap (λ (z : Opened). z.arms) o) t.arms;
      stack = values_later g t.stack;
      temps_are = t.temps_are;
      declared_are = t.declared_are;
      around_is = t.around_is;
    }

-- a mark by its number
pub mark_is : (m : Mark) (n : ℕ) → m.0 ≡ n → m ≡ mark_at n
mark_is m n e = ap mark_at e

-- what is given aside
pub only_runs : (b q : Body) (r : ExprId) (g : State → Expr) (f : State → State) → Gives b q r g f → Runs b q f
only_runs b q r g f h = (h.0, λ l s t. (h.1 l s t).1)

-- the statements since a mark become the block of one statement
pub block_closed : (b : Body) (p q : Pool) (mark : ℕ) (d : Block) (f : Stmts → script.Stmt) (g : List Line → Line)
    → ClosesBlock b.pool p mark d → AddsBody p q d f → ((end : Pool) (x : Stmt) (ls : List Line) → Says end x (f (block_tree ls no_stmts)) → LineIs end x (g ls))
    → RunsSince b (over b q) mark (λ s. with_line (g (lines_since mark s)) (cut_to mark s))
block_closed b p q mark d f g c a h = (
  λ end z. c.0 end (a.1.0 end z),
  λ e s t n.
      let m = earlier p q a.1.0 e in
      let k = parts_since b.pool p b.stack.items b.temps b.declared.items (around b) s mark d n c m t in
      let i : SaysIn q d (block_tree (lines_since mark s) no_stmts) = block_says (block_later (from_here p q a.1.0 e) k.0) in
      parts_line p q b.stack.items b.temps b.declared.items (around b) (cut_to mark s) a.0 (g (lines_since mark s)) a.1 e (h q a.0 (lines_since mark s) (a.2 q (itself q e) (block_tree (lines_since mark s) no_stmts) i)) k.1,
)

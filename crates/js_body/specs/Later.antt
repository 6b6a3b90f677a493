-- What stands for a tree does so whatever the tables become.
use Rattle.std.specs.Prelude.{◌≡◌, ℕ, List, Option, false}
use Rattle.js_tree.specs.Script as script
use Rattle.js_tree.specs.Script.{Expr, Exprs, Stmts}
use Rattle.js_pool.specs.Stands as rule
use Rattle.js_pool.specs.Stands.{Stands, Shows, StandIn, AllStand, HeldAt, Holds, Grown, Later}
use Rattle.js_pool.specs.Says as say
use Rattle.js_pool.specs.Says.{Says, AllSay, SaysIn, SaysElse, SaysCase, AllCases, SaysSwitch}
use Rattle.js_pool.specs.declared.node.ExprId.{ExprId}
use Rattle.js_pool.specs.declared.node.Node.{Node}
use Rattle.js_pool.specs.declared.node.Span.{Span}
use Rattle.js_pool.specs.declared.node.Block.{Block}
use Rattle.js_pool.specs.declared.node.Stmt.{Stmt}
use Rattle.js_pool.specs.declared.node.Else.{Else}
use Rattle.js_pool.specs.declared.node.Case.{Case}
use Rattle.js_pool.specs.declared.node.Cases.{Cases}
use Rattle.js_pool.specs.declared.pool.Pool.{Pool}

-- while memory lasts tables come after themselves
pub itself : (p : Pool) → p.failed ≡ false → Later p p
unfolding Later
itself p e = record {
  sound = e;
  nodes = λ i x h. h;
  lists = λ i x h. h;
  bytes = λ i x h. h;
  stmts = λ i x h. h;
  cases = λ i x h. h;
  names = λ i x h. h;
  items = λ i x h. h;
}

pub held_later : {A : Type 0} (xs ys zs : List A) (from many : ℕ) → Holds xs ys → HeldAt xs from many zs → HeldAt ys from many zs
held_later xs ys zs from many k h = record { all = h.all; each = λ i x e. k _ x (h.each i x e) }

pub grown : (p q : Pool) → Later p q → Grown p q
unfolding Later
grown p q g = g

mutual
  stands_grown : {p q : Pool} → Grown p q → {i : ExprId} {t : Expr} → Stands p i t → Stands q i t
  stands_grown g (rule.at_node h s) = rule.at_node (g.nodes _ _ h) (shows_grown g s)

  shows_grown : {p q : Pool} → Grown p q → {x : Node} {t : Expr} → Shows p x t → Shows q x t
  shows_grown g rule.number = rule.number
  shows_grown g (rule.string h) = rule.string (held_later _ _ _ _ _ g.bytes h)
  shows_grown g rule.boolean = rule.boolean
  shows_grown g rule.null = rule.null
  shows_grown g rule.name = rule.name
  shows_grown g (rule.unary a) = rule.unary (stands_grown g a)
  shows_grown g (rule.binary a b) = rule.binary (stands_grown g a) (stands_grown g b)
  shows_grown g (rule.both a b) = rule.both (stands_grown g a) (stands_grown g b)
  shows_grown g (rule.either a b) = rule.either (stands_grown g a) (stands_grown g b)
  shows_grown g (rule.choice a b c) = rule.choice (stands_grown g a) (stands_grown g b) (stands_grown g c)
  shows_grown g (rule.call a l) = rule.call (stands_grown g a) (stand_in_grown g l)
  shows_grown g (rule.index a b) = rule.index (stands_grown g a) (stands_grown g b)
  shows_grown g (rule.length_of a) = rule.length_of (stands_grown g a)
  shows_grown g (rule.pop a) = rule.pop (stands_grown g a)
  shows_grown g (rule.char_code_at a b) = rule.char_code_at (stands_grown g a) (stands_grown g b)
  shows_grown g (rule.substring a b c) = rule.substring (stands_grown g a) (stands_grown g b) (stands_grown g c)
  shows_grown g (rule.array l) = rule.array (stand_in_grown g l)
  shows_grown g rule.dictionary = rule.dictionary
  shows_grown g (rule.decimal_of a) = rule.decimal_of (stands_grown g a)
  shows_grown g (rule.from_char_code a) = rule.from_char_code (stands_grown g a)

  stand_in_grown : {p q : Pool} → Grown p q → {l : Span} {ts : Exprs} → StandIn p l ts → StandIn q l ts
  stand_in_grown g (rule.held h s) = rule.held (held_later _ _ _ _ _ g.lists h) (all_stand_grown g s)

  all_stand_grown : {p q : Pool} → Grown p q → {es : List ExprId} {ts : Exprs} → AllStand p es ts → AllStand q es ts
  all_stand_grown g rule.none = rule.none
  all_stand_grown g (rule.more a s) = rule.more (stands_grown g a) (all_stand_grown g s)

mutual
  says_grown : {p q : Pool} → Grown p q → {x : Stmt} {s : script.Stmt} → Says p x s → Says q x s
  says_grown g (say.declare a) = say.declare (stands_grown g a)
  says_grown g (say.assign a) = say.assign (stands_grown g a)
  says_grown g (say.store a i v) = say.store (stands_grown g a) (stands_grown g i) (stands_grown g v)
  says_grown g (say.perform a) = say.perform (stands_grown g a)
  says_grown g (say.push a v) = say.push (stands_grown g a) (stands_grown g v)
  says_grown g (say.remove a k) = say.remove (stands_grown g a) (stands_grown g k)
  says_grown g (say.branch a b o) = say.branch (stands_grown g a) (says_in_grown g b) (says_else_grown g o)
  says_grown g (say.while a b) = say.while (stands_grown g a) (says_in_grown g b)
  says_grown g (say.forever b) = say.forever (says_in_grown g b)
  says_grown g (say.switch a c) = say.switch (stands_grown g a) (says_switch_grown g c)
  says_grown g (say.give a) = say.give (stands_grown g a)
  says_grown g say.leave = say.leave
  says_grown g (say.throw a) = say.throw (stands_grown g a)
  says_grown g say.break = say.break
  says_grown g say.continue = say.continue
  says_grown g (say.attempt b c) = say.attempt (says_in_grown g b) (says_in_grown g c)

  all_say_grown : {p q : Pool} → Grown p q → {xs : List Stmt} {ss : Stmts} → AllSay p xs ss → AllSay q xs ss
  all_say_grown g say.none = say.none
  all_say_grown g (say.more x s) = say.more (says_grown g x) (all_say_grown g s)

  says_in_grown : {p q : Pool} → Grown p q → {b : Block} {ss : Stmts} → SaysIn p b ss → SaysIn q b ss
  says_in_grown g (say.held h s) = say.held (held_later _ _ _ _ _ g.stmts h) (all_say_grown g s)

  says_else_grown : {p q : Pool} → Grown p q → {o : Else} {e : script.Else} → SaysElse p o e → SaysElse q o e
  says_else_grown g say.nothing = say.nothing
  says_else_grown g (say.other b) = say.other (says_in_grown g b)

  says_case_grown : {p q : Pool} → Grown p q → {c : Case} {f : script.Cases → script.Cases} → SaysCase p c f → SaysCase q c f
  says_case_grown g (say.one_case b) = say.one_case (says_in_grown g b)

  all_cases_grown : {p q : Pool} → Grown p q → {last : script.Cases} {cs : List Case} {ds : script.Cases} → AllCases p last cs ds → AllCases q last cs ds
  all_cases_grown g say.no_case = say.no_case
  all_cases_grown g (say.more_cases c s) = say.more_cases (says_case_grown g c) (all_cases_grown g s)

  says_switch_grown : {p q : Pool} → Grown p q → {cs : Cases} {d : Option Block} {ds : script.Cases} → SaysSwitch p cs d ds → SaysSwitch q cs d ds
  says_switch_grown g (say.bare h s) = say.bare (held_later _ _ _ _ _ g.cases h) (all_cases_grown g s)
  says_switch_grown g (say.and_default h b s) = say.and_default (held_later _ _ _ _ _ g.cases h) (says_in_grown g b) (all_cases_grown g s)

pub stands_later : {p q : Pool} → Later p q → {i : ExprId} {t : Expr} → Stands p i t → Stands q i t
stands_later g s = stands_grown (grown _ _ g) s

pub says_later : {p q : Pool} → Later p q → {x : Stmt} {s : script.Stmt} → Says p x s → Says q x s
says_later g s = says_grown (grown _ _ g) s

pub says_in_later : {p q : Pool} → Later p q → {b : Block} {ss : Stmts} → SaysIn p b ss → SaysIn q b ss
says_in_later g s = says_in_grown (grown _ _ g) s

pub list_later : {p q : Pool} → Later p q → {l : Span} {ts : Exprs} → StandIn p l ts → StandIn q l ts
list_later g s = stand_in_grown (grown _ _ g) s

pub cases_later : {p q : Pool} → Later p q → {cs : Cases} {d : Option Block} {ds : script.Cases} → SaysSwitch p cs d ds → SaysSwitch q cs d ds
cases_later g s = says_switch_grown (grown _ _ g) s

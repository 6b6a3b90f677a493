-- A node stands for one tree only.
use Rattle.std.proofs.Common.{◌≡◌, List, map, Some, Option, option_map, refl, ◌∙◌, ap, ap₂, subst}
use Rattle.js_tree.specs.Script as script
use Rattle.js_tree.specs.Script.{Expr, Exprs, expr, Stmts, stmt}
use Rattle.js_pool.specs.Names.{name_bytes}
use Rattle.js_pool.specs.Tree as tree
use Rattle.js_pool.specs.Stands as stands
use Rattle.js_pool.specs.Stands.{Stands, Shows, StandIn, AllStand}
use Rattle.js_pool.specs.Says as says
use Rattle.js_pool.specs.Says.{Says, AllSay, SaysIn, SaysElse, SaysCase, AllCases, SaysSwitch, NamesAre, Tops}
use Rattle.js_pool.specs.StmtTree.{else_tree}
use Rattle.js_pool.specs.declared.node.ExprId.{ExprId}
use Rattle.js_pool.specs.declared.node.Span.{Span}
use Rattle.js_pool.specs.declared.node.Block.{Block}
use Rattle.js_pool.specs.declared.node.Cases.{Cases}
use Rattle.js_pool.specs.declared.node.Case.{Case}
use Rattle.js_pool.specs.declared.node.Else.{Else}
use Rattle.js_pool.specs.declared.node.Names.{Names}
use Rattle.js_pool.specs.declared.node.Item.{Item}
use Rattle.js_pool.specs.declared.node.Stmt.{Stmt}
use Rattle.js_pool.specs.declared.node.Node.{Node}
use Rattle.js_pool.specs.declared.pool.Pool.{Pool}
use Rattle.js_pool.proofs.Held.{held_only}

one : {A : Type 0} {o : Option A} {x y : A} → o ≡ Some x → o ≡ Some y → x ≡ y
one h k = cc

mutual
  pub only : (p : Pool) (i : ExprId) (s t : Expr) → Stands p i s → Stands p i t → s ≡ t
  only p i s t (stands.at_node {x = x} h a) (stands.at_node {x = y} k b) = only_shown p y s t (subst (λ z. Shows p z s) (one h k) a) b

  only_shown : (p : Pool) (x : Node) (s t : Expr) → Shows p x s → Shows p x t → s ≡ t
  only_shown p x s t stands.number stands.number = refl
  only_shown p x s t (stands.string h) (stands.string k) = ap tree.string (held_only _ _ _ _ _ h k)
  only_shown p x s t stands.boolean stands.boolean = refl
  only_shown p x s t stands.null stands.null = refl
  only_shown p x s t stands.name stands.name = refl
  only_shown p x s t (stands.unary a) (stands.unary b) = ap (tree.unary _) (only p _ _ _ a b)
  only_shown p x s t (stands.binary a c) (stands.binary b d) = ap₂ (tree.binary _) (only p _ _ _ a b) (only p _ _ _ c d)
  only_shown p x s t (stands.both a c) (stands.both b d) = ap₂ tree.both (only p _ _ _ a b) (only p _ _ _ c d)
  only_shown p x s t (stands.either a c) (stands.either b d) = ap₂ tree.either (only p _ _ _ a b) (only p _ _ _ c d)
  only_shown p x s t (stands.choice {u = u1} a c e) (stands.choice {s = s2} {t = t2} {u = u2} b d f) =
      ap₂ (λ x y. tree.choice x y u1) (only p _ _ _ a b) (only p _ _ _ c d) ∙ ap (tree.choice s2 t2) (only p _ _ _ e f)
  only_shown p x s t (stands.call a c) (stands.call b d) = ap₂ tree.call (only p _ _ _ a b) (only_in p _ _ _ c d)
  only_shown p x s t (stands.index a c) (stands.index b d) = ap₂ tree.index (only p _ _ _ a b) (only p _ _ _ c d)
  only_shown p x s t (stands.length_of a) (stands.length_of b) = ap tree.length_of (only p _ _ _ a b)
  only_shown p x s t (stands.pop a) (stands.pop b) = ap tree.pop (only p _ _ _ a b)
  only_shown p x s t (stands.char_code_at a c) (stands.char_code_at b d) = ap₂ tree.char_code_at (only p _ _ _ a b) (only p _ _ _ c d)
  only_shown p x s t (stands.substring {u = u1} a c e) (stands.substring {s = s2} {t = t2} {u = u2} b d f) =
      ap₂ (λ x y. tree.substring x y u1) (only p _ _ _ a b) (only p _ _ _ c d) ∙ ap (tree.substring s2 t2) (only p _ _ _ e f)
  only_shown p x s t (stands.array c) (stands.array d) = ap tree.array (only_in p _ _ _ c d)
  only_shown p x s t stands.dictionary stands.dictionary = refl
  only_shown p x s t (stands.decimal_of a) (stands.decimal_of b) = ap tree.decimal_of (only p _ _ _ a b)
  only_shown p x s t (stands.from_char_code a) (stands.from_char_code b) = ap tree.from_char_code (only p _ _ _ a b)

  only_in : (p : Pool) (l : Span) (ss ts : Exprs) → StandIn p l ss → StandIn p l ts → ss ≡ ts
  only_in p l ss ts (stands.held h a) (stands.held {es = fs} k b) = only_all p fs ss ts (subst (λ z. AllStand p z ss) (held_only _ _ _ _ _ h k) a) b

  only_all : (p : Pool) (es : List ExprId) (ss ts : Exprs) → AllStand p es ss → AllStand p es ts → ss ≡ ts
  only_all p es ss ts stands.none stands.none = refl
  only_all p es ss ts (stands.more a c) (stands.more b d) = ap₂ expr (only p _ _ _ a b) (only_all p _ _ _ c d)

mutual
  only_says : (p : Pool) (x : Stmt) (s t : script.Stmt) → Says p x s → Says p x t → s ≡ t
  only_says p x s t (says.declare {x = n} a) (says.declare b) = ap (script.declare 0 (name_bytes n)) (only p _ _ _ a b)
  only_says p x s t (says.assign {x = n} a) (says.assign b) = ap (script.assign 0 (name_bytes n)) (only p _ _ _ a b)
  only_says p x s t (says.store {w = u1} a c e) (says.store {e = s2} {j = t2} {w = u2} b d f) =
      ap₂ (λ x y. script.store 0 x y u1) (only p _ _ _ a b) (only p _ _ _ c d) ∙ ap (script.store 0 s2 t2) (only p _ _ _ e f)
  only_says p x s t (says.perform a) (says.perform b) = ap (script.perform 0) (only p _ _ _ a b)
  only_says p x s t (says.push a c) (says.push b d) = ap₂ (script.push 0) (only p _ _ _ a b) (only p _ _ _ c d)
  only_says p x s t (says.remove a c) (says.remove b d) = ap₂ (script.remove 0) (only p _ _ _ a b) (only p _ _ _ c d)
  only_says p x s t (says.branch {other = u1} a c e) (says.branch {e = s2} {ss = t2} {other = u2} b d f) =
      ap₂ (λ x y. script.branch 0 x y u1) (only p _ _ _ a b) (only_block p _ _ _ c d) ∙ ap (script.branch 0 s2 t2) (only_else p _ _ _ e f)
  only_says p x s t (says.while {l = l} a c) (says.while b d) = ap₂ (script.while 0 (option_map name_bytes l)) (only p _ _ _ a b) (only_block p _ _ _ c d)
  only_says p x s t (says.forever {l = l} c) (says.forever d) = ap (script.forever 0 (option_map name_bytes l)) (only_block p _ _ _ c d)
  only_says p x s t (says.switch {l = l} a c) (says.switch b d) = ap₂ (script.switch 0 (option_map name_bytes l)) (only p _ _ _ a b) (only_switch p _ _ _ _ c d)
  only_says p x s t (says.give a) (says.give b) = ap (λ e. script.return 0 (Some e)) (only p _ _ _ a b)
  only_says p x s t says.leave says.leave = refl
  only_says p x s t (says.throw a) (says.throw b) = ap (script.throw 0) (only p _ _ _ a b)
  only_says p x s t says.break says.break = refl
  only_says p x s t says.continue says.continue = refl
  only_says p x s t (says.attempt a c) (says.attempt b d) = ap₂ (script.attempt 0) (only_block p _ _ _ a b) (only_block p _ _ _ c d)

  only_lines : (p : Pool) (xs : List Stmt) (ss ts : Stmts) → AllSay p xs ss → AllSay p xs ts → ss ≡ ts
  only_lines p xs ss ts says.none says.none = refl
  only_lines p xs ss ts (says.more a c) (says.more b d) = ap₂ stmt (only_says p _ _ _ a b) (only_lines p _ _ _ c d)

  pub only_block : (p : Pool) (b : Block) (ss ts : Stmts) → SaysIn p b ss → SaysIn p b ts → ss ≡ ts
  only_block p b ss ts (says.held h a) (says.held {xs = ys} k c) = only_lines p ys ss ts (subst (λ z. AllSay p z ss) (held_only _ _ _ _ _ h k) a) c

  only_else : (p : Pool) (o : Else) (s t : script.Else) → SaysElse p o s → SaysElse p o t → s ≡ t
  only_else p o s t says.nothing says.nothing = refl
  only_else p o s t (says.other a) (says.other b) = ap else_tree (only_block p _ _ _ a b)

  only_case : (p : Pool) (c : Case) (f g : script.Cases → script.Cases) → SaysCase p c f → SaysCase p c g → f ≡ g
  only_case p c f g (says.one_case a) (says.one_case b) = ap {B = script.Cases → script.Cases} (λ (ss : Stmts) (d : script.Cases). script.case c.number ss d) (only_block p _ _ _ a b)

  only_cases : (p : Pool) (last : script.Cases) (xs : List Case) (s t : script.Cases) → AllCases p last xs s → AllCases p last xs t → s ≡ t
  only_cases p last xs s t says.no_case says.no_case = refl
  only_cases p last xs s t (says.more_cases a c) (says.more_cases b d) = ap₂ (λ f x. f x) (only_case p _ _ _ a b) (only_cases p _ _ _ _ c d)

  only_switch : (p : Pool) (cs : Cases) (o : Option Block) (s t : script.Cases) → SaysSwitch p cs o s → SaysSwitch p cs o t → s ≡ t
  only_switch p cs o s t (says.bare h a) (says.bare {xs = ys} k b) =
      only_cases p script.no_cases ys s t (subst (λ z. AllCases p script.no_cases z s) (held_only _ _ _ _ _ h k) a) b
  only_switch p cs o s t (says.and_default {xs = xs} {ss = ss} h c a) (says.and_default {xs = ys} {ss = ts} k d b) =
      let e : xs ≡ ys = held_only _ _ _ _ _ h k in
      only_cases p (script.default ts) ys s t (subst (λ z. AllCases p (script.default z) ys s) (only_block p _ ss ts c d) (subst (λ z. AllCases p (script.default ss) z s) e a)) b

only_names : (p : Pool) (l : Names) (xs ys : _) → NamesAre p l xs → NamesAre p l ys → xs ≡ ys
only_names p l xs ys (says.names_are h) (says.names_are k) = ap (map name_bytes) (held_only _ _ _ _ _ h k)

pub only_top : (p : Pool) (x : Item) (s t : script.Item) → Tops p x s → Tops p x t → s ≡ t
only_top p x s t (says.function {f = f} a c) (says.function b d) =
    ap₂ (λ ns ss. script.function_item (record { name = name_bytes f; params = ns; body = ss; at = 0 })) (only_names p _ _ _ a b) (only_block p _ _ _ c d)
only_top p x s t (says.global {x = n} a) (says.global b) = ap (script.global_item 0 (name_bytes n)) (only p _ _ _ a b)

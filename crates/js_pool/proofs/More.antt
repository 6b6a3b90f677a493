-- One more of what stands for trees, at the end.
use Rattle.std.proofs.Common.{◌≡◌, ℕ, List, [], ◌∷◌, ◌++◌, map, take, ◌+◌, Some, refl, sym, ◌∙◌, ap, subst, suc, length, ◌≤◌, ◌<◌, false, true≢false, arith}
use Rattle.std.specs.List.{slice_get}
use Rattle.js_tree.specs.Script as script
use Rattle.js_tree.specs.View.{expr_view, exprs_of, stmt_view, stmts_of, case_view, cases_of}
use Rattle.js_tree.specs.declared.tree.JsExpr.{JsExpr}
use Rattle.js_tree.specs.declared.tree.JsStmt.{JsStmt}
use Rattle.js_tree.specs.declared.tree.JsCase.{JsCase}
use Rattle.js_pool.specs.Stands as stands
use Rattle.js_pool.specs.Stands.{HeldAt, Stands, AllStand}
use Rattle.js_pool.specs.Says as says
use Rattle.js_pool.specs.Says.{Says, AllSay, SaysIn, SaysElse, SaysCase, AllCases}
use Rattle.js_pool.specs.Names.{name_bytes}
use Rattle.js_pool.specs.StmtTree.{else_tree, is_one_if}
use Rattle.js_pool.specs.declared.name.Name.{Name}
use Rattle.js_pool.specs.declared.node.ExprId.{ExprId}
use Rattle.js_pool.specs.declared.node.Block.{Block}
use Rattle.js_pool.specs.declared.node.Else.{Else}
use Rattle.js_pool.specs.declared.node.Else.TheVariants as tail
use Rattle.js_pool.specs.declared.node.Stmt.{Stmt}
use Rattle.js_pool.specs.declared.node.Stmt.TheVariants as line
use Rattle.js_pool.specs.declared.node.Case.{Case}
use Rattle.js_pool.specs.declared.pool.Pool.{Pool}
use Rattle.js_pool.proofs.Held.{take_more, get_below}

stand_snoc : (p : Pool) (es : List ExprId) (ys : List script.Expr) (x : ExprId) (y : script.Expr) → AllStand p es (exprs_of ys) → Stands p x y → AllStand p (es ++ x ∷ []) (exprs_of (ys ++ y ∷ []))
stand_snoc p [] [] x y stands.none s = stands.more s stands.none
stand_snoc p [] (z ∷ ys) x y h s = elim h [ ]
stand_snoc p (e ∷ es) [] x y h s = elim h [ ]
stand_snoc p (e ∷ es) (z ∷ ys) x y (stands.more a b) s = stands.more a (stand_snoc p es ys x y b s)

map_snoc : {A B : Type 0} (f : A → B) (xs : List A) (x : A) → map f (xs ++ x ∷ []) ≡ map f xs ++ f x ∷ []
map_snoc f [] x = refl
map_snoc f (y ∷ xs) x = ap (λ zs. f y ∷ zs) (map_snoc f xs x)

-- expressions up to one, and that one
pub stand_more : (p : Pool) (ids : List ExprId) (i : ℕ) (x : ExprId) (ys zs : List JsExpr) (y : JsExpr) → slice_get ids i ≡ Some x → zs ≡ ys ++ y ∷ [] → AllStand p (take i ids) (exprs_of (map expr_view ys)) → Stands p x (expr_view y)
    → AllStand p (take (i + 1) ids) (exprs_of (map expr_view zs))
stand_more p ids i x ys zs y h e a s =
    rw (take_more ids i x h, e, map_snoc expr_view ys y) (stand_snoc p (take i ids) (map expr_view ys) x (expr_view y) a s)

-- several statements after `else` are a block
many_else : (s t : script.Stmt) (ss : script.Stmts) → else_tree (script.stmt s (script.stmt t ss)) ≡ script.else_block (script.stmt s (script.stmt t ss))
many_else (script.branch at e b o) t ss = refl
many_else s t ss = refl

say_snoc : (p : Pool) (xs : List Stmt) (ys : List script.Stmt) (x : Stmt) (y : script.Stmt) → AllSay p xs (stmts_of ys) → Says p x y → AllSay p (xs ++ x ∷ []) (stmts_of (ys ++ y ∷ []))
say_snoc p [] [] x y says.none s = says.more s says.none
say_snoc p [] (z ∷ ys) x y h s = elim h [ ]
say_snoc p (e ∷ xs) [] x y h s = elim h [ ]
say_snoc p (e ∷ xs) (z ∷ ys) x y (says.more a b) s = says.more a (say_snoc p xs ys x y b s)

pub say_more : (p : Pool) (lines : List Stmt) (i : ℕ) (x : Stmt) (ys zs : List JsStmt) (y : JsStmt) → slice_get lines i ≡ Some x → zs ≡ ys ++ y ∷ [] → AllSay p (take i lines) (stmts_of (map stmt_view ys)) → Says p x (stmt_view y)
    → AllSay p (take (i + 1) lines) (stmts_of (map stmt_view zs))
say_more p lines i x ys zs y h e a s =
    rw (take_more lines i x h, e, map_snoc stmt_view ys y) (say_snoc p (take i lines) (map stmt_view ys) x (stmt_view y) a s)

cases_snoc : (fs : List (script.Cases → script.Cases)) (f : script.Cases → script.Cases) (last : script.Cases) → cases_of (fs ++ f ∷ []) last ≡ cases_of fs (f last)
cases_snoc [] f last = refl
cases_snoc (g ∷ fs) f last = ap g (cases_snoc fs f last)

case_snoc : (p : Pool) (xs : List Case) (x : Case) (f : script.Cases → script.Cases) (last next ds : script.Cases) → next ≡ f last → AllCases p next xs ds → SaysCase p x f → AllCases p last (xs ++ x ∷ []) ds
case_snoc p [] x f last next ds e says.no_case s = rw e (says.more_cases s says.no_case)
case_snoc p (c ∷ xs) x f last next ds e (says.more_cases a b) s = says.more_cases a (case_snoc p xs x f last next _ e b s)

-- cases up to one, and that one, before whatever stands after them
pub case_more : (p : Pool) (arms : List Case) (i : ℕ) (x : Case) (ys zs : List JsCase) (y : JsCase) → slice_get arms i ≡ Some x → zs ≡ ys ++ y ∷ [] → ((last : script.Cases) → AllCases p last (take i arms) (cases_of (map case_view ys) last)) → SaysCase p x (case_view y)
    → (last : script.Cases) → AllCases p last (take (i + 1) arms) (cases_of (map case_view zs) last)
case_more p arms i x ys zs y h e a s last =
    rw (take_more arms i x h, e, map_snoc case_view ys y, cases_snoc (map case_view ys) (case_view y) last) (case_snoc p (take i arms) x (case_view y) last (case_view y last) _ refl (a (case_view y last)) s)

-- one more name
pub name_more : (part : List Name) (i : ℕ) (x : Name) (ts us : List (List ℕ)) (t : List ℕ) → slice_get part i ≡ Some x → us ≡ ts ++ t ∷ [] → ts ≡ map name_bytes (take i part) → t ≡ name_bytes x → us ≡ map name_bytes (take (i + 1) part)
name_more part i x ts us t h e a n = rw (take_more part i x h, map_snoc name_bytes (take i part) x, ← a, ← n) e

-- a block of which the only statement is no `if` is no `else if`
plain_else : (p : Pool) (xs : List Stmt) (ss : script.Stmts) → is_one_if xs ≡ false → AllSay p xs ss → else_tree ss ≡ script.else_block ss
plain_else p [] ss e says.none = refl
plain_else p (x ∷ y ∷ xs) ss e (says.more a (says.more b c)) = many_else _ _ _
plain_else p (x ∷ []) ss e (says.more (says.branch a b c) says.none) = absurd (true≢false e)
plain_else p (x ∷ []) ss e (says.more (says.declare a) says.none) = refl
plain_else p (x ∷ []) ss e (says.more (says.assign a) says.none) = refl
plain_else p (x ∷ []) ss e (says.more (says.store a b c) says.none) = refl
plain_else p (x ∷ []) ss e (says.more (says.perform a) says.none) = refl
plain_else p (x ∷ []) ss e (says.more (says.push a b) says.none) = refl
plain_else p (x ∷ []) ss e (says.more (says.remove a b) says.none) = refl
plain_else p (x ∷ []) ss e (says.more (says.while a b) says.none) = refl
plain_else p (x ∷ []) ss e (says.more (says.forever b) says.none) = refl
plain_else p (x ∷ []) ss e (says.more (says.switch a b) says.none) = refl
plain_else p (x ∷ []) ss e (says.more (says.give a) says.none) = refl
plain_else p (x ∷ []) ss e (says.more says.leave says.none) = refl
plain_else p (x ∷ []) ss e (says.more (says.throw a) says.none) = refl
plain_else p (x ∷ []) ss e (says.more says.break says.none) = refl
plain_else p (x ∷ []) ss e (says.more says.continue says.none) = refl
plain_else p (x ∷ []) ss e (says.more (says.attempt a b) says.none) = refl

pub block_else : (p : Pool) (b : Block) (ss : script.Stmts) → ((xs : List Stmt) → HeldAt p.stmts.items b.from b.many xs → is_one_if xs ≡ false) → SaysIn p b ss → SaysElse p (tail.Block b) (script.else_block ss)
block_else p b ss n (says.held {xs = xs} h a) = subst (λ (o : script.Else). SaysElse p (tail.Block b) o) (plain_else p xs ss (n xs h) a) (says.other (says.held h a))

-- of a block of one statement, that one says whether it is just an `if`
no_if : (s : Stmt) → ((a : ExprId) (b : Block) (o : Else) → ¬ (s ≡ line.If a b o)) → is_one_if (s ∷ []) ≡ false
no_if (line.If a b o) h = absurd (h a b o refl)
no_if s h = refl

same_one : {A : Type 0} {x y : A} → Some x ≡ Some y → x ≡ y
same_one e = cc

pub one_plain : (table xs : List Stmt) (from many : ℕ) (s : Stmt) → many ≡ 1 → slice_get table from ≡ Some s → ((a : ExprId) (b : Block) (o : Else) → ¬ (s ≡ line.If a b o)) → HeldAt table from many xs → is_one_if xs ≡ false
one_plain table [] from many s m g n h = refl
one_plain table (x ∷ []) from many s m g n h =
    let z : from + 0 ≡ from = omega arith in
    let e : slice_get table from ≡ Some x = rw z at (h.each 0 x refl) in
    let d : s ≡ x = same_one (sym g ∙ e) in
    subst (λ (y : Stmt). is_one_if (y ∷ []) ≡ false) d (no_if s n)
one_plain table (x ∷ y ∷ xs) from many s m g n h =
    let l : suc (suc (length xs)) ≡ many = h.all in
    absurd (omega arith)

pub none_plain : (table xs : List Stmt) (from many : ℕ) → length table ≤ from → HeldAt table from many xs → is_one_if xs ≡ false
none_plain table [] from many g h = refl
none_plain table (x ∷ xs) from many g h =
    let l : from + 0 < length table = get_below table (from + 0) x (h.each 0 x refl) in
    absurd (omega arith)

-- Blocks that are closed.
use Rattle.std.proofs.Common.{◌≡◌, ◌≤◌, ◌-◌, ℕ, suc, take, drop, arith, List, [], ◌∷◌, ◌++◌, reverse, length, Bool, false, refl, sym, ap, ◌∙◌, subst, append_assoc}
use Rattle.std.proofs.lemmas.List.{append-nil, length-drop, take-append-drop, reverse-append, reverse-reverse, length-reverse}
use Rattle.std.proofs.lemmas.Grind.{reverse_onto}
use Rattle.js_tree.specs.Script as script
use Rattle.js_tree.specs.Script.{Expr, Stmts, no_stmts, stmt}
use Rattle.js_pool.specs.Names.{name_bytes}
use Rattle.js_pool.specs.Stands.{Later, Grown, HeldAt, Opened, opened}
use Rattle.js_pool.specs.Says as say
use Rattle.js_pool.specs.Says.{Says, AllSay, SaysIn, ClosesBlock, with_lines}
use Rattle.js_pool.specs.declared.name.Name.{Name}
use Rattle.js_pool.specs.declared.name.Name.TheVariants as name
use Rattle.js_pool.specs.declared.node.Block.{Block}
use Rattle.js_pool.specs.declared.node.Stmt.{Stmt}
use Rattle.js_pool.specs.declared.node.Stmt.TheVariants as line
use Rattle.js_pool.specs.declared.pool.Pool.{Pool}
use Rattle.js_body.specs.declared.body.Operand.{Operand}
use Rattle.js_body.specs.State.{State, Around, Line, word_bytes, line_tree, block_tree, with_lines_of, lines_since, cut_to}
use Rattle.js_body.specs.Tells.{BlockIs, PartsTell, word_of, LineIs, declared, assigned, said, LinesAre, no_line, more_lines}
use Rattle.js_body.specs.Later.{itself, held_later, grown, stands_later}
use Rattle.js_body.specs.StepLaws.{from_here, lines_later, items_kept, arms_kept, values_later}

name_word : (x : Name) → name_bytes x ≡ word_bytes (word_of x)
name_word (name.Word w) = refl
name_word (name.Numbered w n) = refl

pub line_says : {p : Pool} {x : Stmt} {l : Line} → LineIs p x l → Says p x (line_tree l)
line_says {p} (declared {x = x} {a = a} {e = e} h) = subst (λ (k : List ℕ). Says p (line.Declare x a) (script.declare 0 k e)) (name_word x) (say.declare h)
line_says {p} (assigned {x = x} {a = a} {e = e} h) = subst (λ (k : List ℕ). Says p (line.Assign x a) (script.assign 0 k e)) (name_word x) (say.assign h)
line_says (said f h) = h

onto : {A : Type 0} (zs xs : List A) (x : A) → reverse (x ∷ zs) ++ xs ≡ reverse zs ++ x ∷ xs
onto zs xs x = ap (λ k. k ++ xs) (reverse_onto zs x []) ∙ append_assoc (reverse zs) (x ∷ []) xs

lines_say : {p : Pool} {zs : List Stmt} {ls : List Line} → LinesAre p zs ls → (xs : List Stmt) (ss : Stmts) → AllSay p xs ss → AllSay p (reverse zs ++ xs) (block_tree ls ss)
lines_say no_line xs ss h = h
lines_say {p} (more_lines {x = x} {xs = zs} {l = l} {ls = ls} a t) xs ss h =
    subst (λ (ys : List Stmt). AllSay p ys (block_tree ls (stmt (line_tree l) ss))) (sym (onto zs xs x)) (lines_say t (x ∷ xs) (stmt (line_tree l) ss) (say.more (line_says a) h))

pub lines_length : {p : Pool} {xs : List Stmt} {ls : List Line} → LinesAre p xs ls → length xs ≡ length ls
lines_length no_line = refl
lines_length (more_lines a t) = ap suc (lines_length t)

lines_split : (p : Pool) (inner base : List Line) (xs : List Stmt) → LinesAre p xs (inner ++ base) → (zs : List Stmt) × (ws : List Stmt) × (xs ≡ zs ++ ws) × LinesAre p zs inner × LinesAre p ws base
lines_split p [] base xs h = ([], xs, refl, no_line, h)
lines_split p (l ∷ ls) base _ (more_lines {x = x} {xs = xs} h t) =
    let r : (zs : List Stmt) × (ws : List Stmt) × (xs ≡ zs ++ ws) × LinesAre p zs ls × LinesAre p ws base = lines_split p ls base xs t in
    (x ∷ r.0, r.1, ap (λ (k : List Stmt). x ∷ k) r.2, more_lines h r.3, r.4)

-- how many statements there are
pub parts_lines : (p : Pool) (o : Opened) (os : List Operand) (temps : ℕ) (ds : List Bool) (near : Around) (s : State) → PartsTell p o os temps ds near s → length o.lines ≡ length s.lines
parts_lines p o os temps ds near s t = sym (length-reverse o.lines) ∙ lines_length t.lines

held_grown : (p q : Pool) → Grown p q → (b : Block) (xs : List Stmt) → HeldAt p.stmts.items b.from b.many xs → HeldAt q.stmts.items b.from b.many xs
held_grown p q g b xs h = held_later p.stmts.items q.stmts.items xs b.from b.many g.stmts h

pub block_later : {p q : Pool} → Later p q → {b : Block} {ls : List Line} → BlockIs p b ls → BlockIs q b ls
block_later {p} {q} g {b} h = record { stmts = h.stmts; held = held_grown p q (grown p q g) b h.stmts h.held; lines = lines_later g h.lines }

-- what a block holds is what it says
pub block_says : {p : Pool} {b : Block} {ls : List Line} → BlockIs p b ls → SaysIn p b (block_tree ls no_stmts)
block_says {p} {b} {ls} h =
    let e : reverse (reverse h.stmts) ++ [] ≡ h.stmts = append-nil (reverse (reverse h.stmts)) ∙ reverse-reverse h.stmts in
    say.held h.held (subst (λ (xs : List Stmt). AllSay p xs (block_tree ls no_stmts)) e (lines_say h.lines [] no_stmts say.none))

-- the statements since a mark are those of a block
pub parts_block : (p q : Pool) (os : List Operand) (temps : ℕ) (ds : List Bool) (near : Around) (s : State) (mark : ℕ) (b : Block) (inner base : List Line)
    → s.lines ≡ inner ++ base → mark ≡ length base → ClosesBlock p q mark b → q.failed ≡ false → PartsTell p (opened p) os temps ds near s
    → BlockIs q b inner × PartsTell q (opened q) os temps ds near (with_lines_of base s)
parts_block p q os temps ds near s mark b inner base e m c l t =
    let g : Later p q = from_here p q c.0 l in
    let r = lines_split p inner base (reverse (opened p).lines) (subst (λ (ls : List Line). LinesAre p (reverse (opened p).lines) ls) e t.lines) in
    let parts : (opened p).lines ≡ reverse r.1 ++ reverse r.0 = sym (reverse-reverse (opened p).lines) ∙ ap reverse r.2 ∙ reverse-append r.0 r.1 in
    let long : mark ≡ length (reverse r.1) = m ∙ sym (lines_length r.4) ∙ sym (length-reverse r.1) in
    let closed = c.1 q (itself q l) (reverse r.1) (reverse r.0) parts long in
    let left : r.1 ≡ reverse (opened q).lines = sym (reverse-reverse r.1) ∙ ap (λ (z : Opened). reverse z.lines) (sym closed.0) in (
      record {
        stmts = reverse r.0;
        held = closed.1;
        lines = subst (λ (xs : List Stmt). LinesAre q xs inner) (sym (reverse-reverse r.0)) (lines_later g r.3);
      },
      record {
        first = stands_later g t.first;
        lines = subst (λ (xs : List Stmt). LinesAre q xs base) left (lines_later g r.4);
        items = items_kept g (opened p).rest (opened q).rest s.items (ap (λ (z : Opened). z.rest) closed.0) t.items;
        arms = arms_kept g (opened p).arms (opened q).arms s.arms (ap (λ (z : Opened). z.arms) closed.0) t.arms;
        stack = values_later g t.stack;
        temps_are = t.temps_are;
        declared_are = t.declared_are;
        around_is = t.around_is;
      },
    )

-- likewise the statements since any mark
pub parts_since : (p q : Pool) (os : List Operand) (temps : ℕ) (ds : List Bool) (near : Around) (s : State) (mark : ℕ) (b : Block)
    → mark ≤ length s.lines → ClosesBlock p q mark b → q.failed ≡ false → PartsTell p (opened p) os temps ds near s
    → BlockIs q b (lines_since mark s) × PartsTell q (opened q) os temps ds near (cut_to mark s)
parts_since p q os temps ds near s mark b h c l t =
    let k = length s.lines - mark in
    let n : mark ≡ length (drop k s.lines) = omega (arith, length-drop k s.lines, h) in
    parts_block p q os temps ds near s mark b (take k s.lines) (drop k s.lines) (sym (take-append-drop k s.lines)) n c l t

-- likewise, by what the block says
pub parts_closed : (p q : Pool) (os : List Operand) (temps : ℕ) (ds : List Bool) (near : Around) (s : State) (mark : ℕ) (b : Block) (inner base : List Line)
    → s.lines ≡ inner ++ base → mark ≡ length base → ClosesBlock p q mark b → q.failed ≡ false → PartsTell p (opened p) os temps ds near s
    → SaysIn q b (block_tree inner no_stmts) × PartsTell q (opened q) os temps ds near (with_lines_of base s)
parts_closed p q os temps ds near s mark b inner base e m c l t =
    let r = parts_block p q os temps ds near s mark b inner base e m c l t in
    (block_says r.0, r.1)

-- Lemmas for single steps.
use Rattle.std.proofs.Common.{◌≡◌, ℕ, zero, suc, ◌+◌, ◌-◌, ◌<◌, min, nat_le, nat_eq, arith, ap₂, if◌then◌else◌, List, [], ◌∷◌, ◌++◌, reverse, length, Bool, true, false, Option, Some, None, refl, sym, ap, ◌∙◌, subst, true≢false}
use Rattle.std.proofs.lemmas.List.{reverse-append, length-reverse, nil_from_length}
use Rattle.std.proofs.lemmas.Option.{slice_get_within, slice_get-get_or}
use Rattle.std.proofs.lemmas.Bool.Decides.{nat_tests}
use Rattle.std.specs.List.{slice_get}
use Rattle.js_tree.specs.Script.{Expr}
use Rattle.js_pool.specs.Stands as rule
use Rattle.js_pool.specs.Stands.{Stands, Shows, Holds, Later, Grows, Keeps, Opened, opened}
use Rattle.js_pool.specs.Says.{AddsLine}
use Rattle.js_pool.specs.Begins.{Begins}
use Rattle.js_pool.specs.declared.pool.Mark.{Mark}
use Rattle.js_pool.specs.declared.node.ExprId.{ExprId}
use Rattle.js_pool.specs.declared.name.Name.{Name}
use Rattle.js_pool.specs.declared.node.Node.{Node}
use Rattle.js_pool.specs.declared.node.Stmt.{Stmt}
use Rattle.js_pool.specs.declared.node.Stmt.TheVariants as line
use Rattle.js_body.specs.declared.body.Known.{Known}
use Rattle.js_body.specs.declared.body.Known.TheVariants as known
use Rattle.js_pool.specs.declared.pool.Pool.{Pool}
use Rattle.js_facts.specs.declared.facts.Facts.{Facts}
use Rattle.js_body.specs.declared.body.Operand.{Operand}
use Rattle.js_body.specs.declared.body.Home.{Home}
use Rattle.js_body.specs.declared.body.Exits.{Exits}
use Rattle.js_body.specs.declared.slices.Noted.{Noted}
use Rattle.js_body.specs.State.{State, Around, Value, Line, declares, assigns, says, begun_near, begun, mark_at, empty, no_function, only_set, is_joined, is_temp, set_by, declares_first, dropped_line, is_operation, pushed_known, pushed_operand, no_value, first_value, rest_of, with_line, pushed_value, last_value, popped, marked, with_declared, with_temp, with_around}
use Rattle.js_body.specs.Tells.{word_of, sets_name, is_declaration, first_declares, DropsLine, does_operation, joins, MayStand, stands_none, stands_some, PartsTell, LineIs, declared, assigned, said, LinesAre, no_line, more_lines, ItemsAre, no_item, ArmsAre, no_arm, ValueIs, ValuesAre, no_values, more_values}
use Rattle.js_body.specs.Later.{itself, stands_later, says_later}
use Rattle.js_body.specs.ListLaws.{parts_arms}
use Rattle.js_body.specs.StepLaws.{from_here, if_false, if_true, lines_later, items_kept, arms_kept, parts_empty, parts_popped, rev_push, values_later}

some_is : {A : Type 0} {x y : A} → Some x ≡ Some y → x ≡ y
some_is e = cc

none_some : {A : Type 0} {x : A} → None ≡ Some x → ⊥
none_some e = absurd (cc)

last_split : {A : Type 0} (xs : List A) (n : ℕ) (x : A) → slice_get xs n ≡ Some x → suc n ≡ length xs → (ys : List A) × (xs ≡ ys ++ x ∷ [])
last_split [] n x h e = absurd (none_some h)
last_split (y ∷ ys) zero x h e =
    let z : ys ≡ [] = nil_from_length ys (omega (arith, e)) in
    let i : y ≡ x = some_is h in
    ([], ap₂ (λ a b. a ∷ b) i z)
last_split (y ∷ ys) (suc n) x h e = let r = last_split ys n x h (omega (arith, e)) in (y ∷ r.0, ap (λ k. y ∷ k) r.1)

none_last : {A : Type 0} (xs : List A) → slice_get xs (length xs - 1) ≡ None → xs ≡ []
none_last [] h = refl
none_last (y ∷ ys) h =
    let l : length (y ∷ ys) - 1 < length (y ∷ ys) = omega arith in
    absurd (none_some (sym h ∙ slice_get-get_or (y ∷ ys) (length (y ∷ ys) - 1) y l))

module _ (p : Pool) (o : Opened) (os : List Operand) (temps : ℕ) (ds : List Bool) (near : Around) (s : State) where
  -- the last value
  pub parts_last : (x : Operand) → slice_get os (length os - 1) ≡ Some x → PartsTell p o os temps ds near s → ValueIs p x (last_value s)
  parts_last x h t =
      let w : length os - 1 < length os = slice_get_within os (length os - 1) x h in
      let r = last_split os (length os - 1) x h (omega (arith, w)) in
      (parts_popped p o os r.0 temps ds near s x r.1 t).0

  pub parts_none : (x : Operand) → slice_get os (length os - 1) ≡ None → x.e ≡ record { 0 = 0 } → x.known ≡ no_value.known → PartsTell p o os temps ds near s → ValueIs p x (last_value s)
  parts_none x h i k t = (parts_empty p o os os temps ds near s x (none_last os h) (none_last os h) i k t).0

  -- what is noted of a place
  pub parts_declared : (ds' : List Bool) (place : ℕ) (b : Bool) → ds' ≡ marked place b ds → PartsTell p o os temps ds near s → PartsTell p o os temps ds' near (with_declared place b s)
  parts_declared ds' place b e t = record {
    first = t.first;
    lines = t.lines;
    items = t.items;
    arms = t.arms;
    stack = t.stack;
    temps_are = t.temps_are;
    declared_are = e ∙ ap (marked place b) t.declared_are;
    around_is = t.around_is;
  }

  -- one temporary more
  pub parts_counted : (temps' k : ℕ) → temps' ≡ (if nat_le temps k then min (k + 1) 4294967295 else temps) → PartsTell p o os temps ds near s → PartsTell p o os temps' ds near (with_temp k s)
  parts_counted temps' k e t = record {
    first = t.first;
    lines = t.lines;
    items = t.items;
    arms = t.arms;
    stack = t.stack;
    temps_are = e ∙ ap (λ (n : ℕ). if nat_le n k then min (k + 1) 4294967295 else n) t.temps_are;
    declared_are = t.declared_are;
    around_is = t.around_is;
  }

-- ---- statements

grows_by : (p q : Pool) → (q.failed ≡ false → p.failed ≡ false) → Holds p.nodes.items q.nodes.items → Holds p.lists.items q.lists.items → Holds p.bytes.items q.bytes.items → Holds p.stmts.items q.stmts.items → Holds p.cases.items q.cases.items → Holds p.names.items q.names.items → Holds p.items.items q.items.items → Grows p q
unfolding Later
grows_by p q s a b c d e f h end g = record {
  sound = s g.sound;
  nodes = λ i x o. g.nodes i x (a i x o);
  lists = λ i x o. g.lists i x (b i x o);
  bytes = λ i x o. g.bytes i x (c i x o);
  stmts = λ i x o. g.stmts i x (d i x o);
  cases = λ i x o. g.cases i x (e i x o);
  names = λ i x o. g.names i x (f i x o);
  items = λ i x o. g.items i x (h i x o);
}

-- the same tables
pub same_tables : (p q : Pool) → q.failed ≡ p.failed → q.nodes.items ≡ p.nodes.items → q.lists.items ≡ p.lists.items → q.bytes.items ≡ p.bytes.items → q.stmts.items ≡ p.stmts.items → q.cases.items ≡ p.cases.items → q.names.items ≡ p.names.items → q.items.items ≡ p.items.items → Grows p q
same_tables p q s a b c d e f h =
    grows_by p q (λ l. sym s ∙ l) (held a) (held b) (held c) (held d) (held e) (held f) (held h)
  where
    held : {A : Type 0} {xs ys : List A} → ys ≡ xs → Holds xs ys
    held e i x h = rw e h

pub last_dropped : {A : Type 0} (xs ys : List A) (x : A) → ys ≡ xs ++ x ∷ [] → reverse xs ≡ rest_of (reverse ys)
last_dropped xs ys x e = sym (ap rest_of (rev_push xs ys x e))

pub last_declares : (xs ys : List Stmt) (x : Stmt) → ys ≡ xs ++ x ∷ [] → is_declaration x ≡ first_declares (reverse ys)
last_declares xs ys x e = sym (ap first_declares (rev_push xs ys x e))

pub none_dropped : {A : Type 0} (xs ys : List A) → ys ≡ [] → xs ≡ [] → reverse xs ≡ rest_of (reverse ys)
none_dropped xs ys e f = rw (e, f) refl

pub none_declares : (ys : List Stmt) → ys ≡ [] → false ≡ first_declares (reverse ys)
none_declares ys e = rw e refl

not_declaration : (x : Stmt) → sets_name x ≡ false → is_declaration x ≡ false
not_declaration (line.Declare x a) e = absurd (true≢false e)
not_declaration (line.Assign x a) e = absurd (true≢false e)
not_declaration _ e = refl

dropped_lines : {p : Pool} {xs : List Stmt} {ls : List Line} → LinesAre p xs ls → LinesAre p (rest_of xs) (rest_of ls) × (first_declares xs ≡ declares_first ls)
dropped_lines no_line = (no_line, refl)
dropped_lines (more_lines (declared a) t) = (t, refl)
dropped_lines (more_lines (assigned a) t) = (t, refl)
dropped_lines (more_lines {x = x} (said e s) t) = (t, not_declaration x e)

-- one statement less
pub parts_dropped : (p q : Pool) (os : List Operand) (temps : ℕ) (ds : List Bool) (near : Around) (s : State) (r : Bool)
    → DropsLine p q r → q.failed ≡ false → PartsTell p (opened p) os temps ds near s → PartsTell q (opened q) os temps ds near (dropped_line s) × (r ≡ declares_first s.lines)
parts_dropped p q os temps ds near s r d l t =
    let g : Later p q = from_here p q d.0.0 l in
    let h : LinesAre p (rest_of (reverse (opened p).lines)) (rest_of s.lines) × (first_declares (reverse (opened p).lines) ≡ declares_first s.lines) = dropped_lines t.lines in (
      record {
        first = stands_later g t.first;
        lines = subst (λ (xs : List Stmt). LinesAre q xs (rest_of s.lines)) (sym d.1) (lines_later g h.0);
        items = items_kept g (opened p).rest (opened q).rest s.items (ap (λ (z : Opened). z.rest) (d.0.1 q (itself q l))) t.items;
        arms = arms_kept g (opened p).arms (opened q).arms s.arms (ap (λ (z : Opened). z.arms) (d.0.1 q (itself q l))) t.arms;
        stack = values_later g t.stack;
        temps_are = t.temps_are;
        declared_are = t.declared_are;
        around_is = t.around_is;
      },
      d.2 ∙ h.1,
    )

assigned_line : (p : Pool) (x : Name) (a : ExprId) (l : Line) → LineIs p (line.Assign x a) l → (e : Expr) × Stands p a e × (l ≡ assigns (word_of x) e)
assigned_line p x a _ (assigned {e = e} h) = (e, h, refl)
assigned_line p x a _ (said e s) = absurd (true≢false e)

declared_line : (p : Pool) (x : Name) (a : ExprId) (l : Line) → LineIs p (line.Declare x a) l → (e : Expr) × Stands p a e × (l ≡ declares (word_of x) e)
declared_line p x a _ (declared {e = e} h) = (e, h, refl)
declared_line p x a _ (said e s) = absurd (true≢false e)

-- what a statement sets the temporary of a place to
pub assigned_here : (p : Pool) (x : Name) (a : ExprId) (place : ℕ) (l : Line) (ls : List Line) → LineIs p (line.Assign x a) l → is_temp (word_of x) place ≡ true → MayStand p (Some a) (set_by place (l ∷ ls))
assigned_here p x a place l ls h e =
    let r : (e : Expr) × Stands p a e × (l ≡ assigns (word_of x) e) = assigned_line p x a l h in
    subst (λ (k : Line). MayStand p (Some a) (set_by place (k ∷ ls))) (sym r.2) (subst (λ (z : Option Expr). MayStand p (Some a) z) (if_true (is_temp (word_of x) place) (Some r.0) None e) (stands_some r.1))

pub assigned_elsewhere : (p : Pool) (x : Name) (a : ExprId) (place : ℕ) (l : Line) (ls : List Line) → LineIs p (line.Assign x a) l → is_temp (word_of x) place ≡ false → MayStand p None (set_by place (l ∷ ls))
assigned_elsewhere p x a place l ls h e =
    let r : (e : Expr) × Stands p a e × (l ≡ assigns (word_of x) e) = assigned_line p x a l h in
    subst (λ (k : Line). MayStand p None (set_by place (k ∷ ls))) (sym r.2) (subst (λ (z : Option Expr). MayStand p None z) (if_false (is_temp (word_of x) place) (Some r.0) None e) stands_none)

pub declared_here : (p : Pool) (x : Name) (a : ExprId) (place : ℕ) (l : Line) (ls : List Line) → LineIs p (line.Declare x a) l → is_temp (word_of x) place ≡ true → MayStand p (Some a) (set_by place (l ∷ ls))
declared_here p x a place l ls h e =
    let r : (e : Expr) × Stands p a e × (l ≡ declares (word_of x) e) = declared_line p x a l h in
    subst (λ (k : Line). MayStand p (Some a) (set_by place (k ∷ ls))) (sym r.2) (subst (λ (z : Option Expr). MayStand p (Some a) z) (if_true (is_temp (word_of x) place) (Some r.0) None e) (stands_some r.1))

pub declared_elsewhere : (p : Pool) (x : Name) (a : ExprId) (place : ℕ) (l : Line) (ls : List Line) → LineIs p (line.Declare x a) l → is_temp (word_of x) place ≡ false → MayStand p None (set_by place (l ∷ ls))
declared_elsewhere p x a place l ls h e =
    let r : (e : Expr) × Stands p a e × (l ≡ declares (word_of x) e) = declared_line p x a l h in
    subst (λ (k : Line). MayStand p None (set_by place (k ∷ ls))) (sym r.2) (subst (λ (z : Option Expr). MayStand p None z) (if_false (is_temp (word_of x) place) (Some r.0) None e) stands_none)

-- another statement sets none
pub sets_nothing : (p : Pool) (x : Stmt) (place : ℕ) (l : Line) (ls : List Line) → LineIs p x l → sets_name x ≡ false → MayStand p None (set_by place (l ∷ ls))
sets_nothing p _ place _ ls (declared h) e = absurd (true≢false e)
sets_nothing p _ place _ ls (assigned h) e = absurd (true≢false e)
sets_nothing p x place _ ls (said f s) e = stands_none

first_line : (p : Pool) (x : Stmt) (xs : List Stmt) (ls : List Line) → LinesAre p (x ∷ xs) ls → (l : Line) × (ks : List Line) × (ls ≡ l ∷ ks) × LineIs p x l
first_line p x xs _ (more_lines {l = l} {ls = ls} h t) = (l, ls, refl, h)

pub last_line : (p : Pool) (xs : List Stmt) (x : Stmt) (ls : List Line) → slice_get xs (length xs - 1) ≡ Some x → LinesAre p (reverse xs) ls → (l : Line) × (ks : List Line) × (ls ≡ l ∷ ks) × LineIs p x l
last_line p xs x ls h t =
    let w : length xs - 1 < length xs = slice_get_within xs (length xs - 1) x h in
    let r = last_split xs (length xs - 1) x h (omega (arith, w)) in
    first_line p x (reverse r.0) ls (subst (λ (zs : List Stmt). LinesAre p zs ls) (rev_push r.0 xs x r.1) t)

no_lines : (p : Pool) (ls : List Line) → LinesAre p [] ls → ls ≡ []
no_lines p _ no_line = refl

pub no_last_line : (p : Pool) (xs : List Stmt) (ls : List Line) → slice_get xs (length xs - 1) ≡ None → LinesAre p (reverse xs) ls → ls ≡ []
no_last_line p xs ls h t = no_lines p ls (subst (λ (zs : List Stmt). LinesAre p (reverse zs) ls) (none_last xs h) t)

-- ---- answers that may be none

may_some : (p : Pool) (a : ExprId) (z : Option Expr) → MayStand p (Some a) z → (t : Expr) × (z ≡ Some t) × Stands p a t
may_some p a _ (stands_some {t = t} h) = (t, refl, h)

may_none : (p : Pool) (z : Option Expr) → MayStand p None z → z ≡ None
may_none p _ stands_none = refl

pub found : (p : Pool) (r : Option ExprId) (a : ExprId) (z : Option Expr) → MayStand p r z → r ≡ Some a → (t : Expr) × (z ≡ Some t) × Stands p a t
found p r a z h e = may_some p a z (subst (λ (k : Option ExprId). MayStand p k z) e h)

pub not_found : (p : Pool) (r : Option ExprId) (z : Option Expr) → MayStand p r z → r ≡ None → z ≡ None
not_found p r z h e = may_none p z (subst (λ (k : Option ExprId). MayStand p k z) e h)

pub operation_shown : {p : Pool} {x : Node} {t : Expr} → Shows p x t → does_operation x ≡ is_operation t
operation_shown rule.number = refl
operation_shown (rule.string h) = refl
operation_shown rule.boolean = refl
operation_shown rule.null = refl
operation_shown rule.name = refl
operation_shown (rule.unary a) = refl
operation_shown (rule.binary a b) = refl
operation_shown (rule.both a b) = refl
operation_shown (rule.either a b) = refl
operation_shown (rule.choice a b c) = refl
operation_shown (rule.call a l) = refl
operation_shown (rule.index a b) = refl
operation_shown (rule.length_of a) = refl
operation_shown (rule.pop a) = refl
operation_shown (rule.char_code_at a b) = refl
operation_shown (rule.substring a b c) = refl
operation_shown (rule.array l) = refl
operation_shown rule.dictionary = refl
operation_shown (rule.decimal_of a) = refl
operation_shown (rule.from_char_code a) = refl

pub other_known : (k : Known) (t : Expr) (s : State) → (k ≡ known.Nothing → ⊥) → pushed_known k t s ≡ pushed_operand k t s
other_known known.Nothing t s n = absurd (n refl)
other_known _ t s n = refl

pub not_setting : (x : Stmt) → ((n : Name) (a : ExprId) → x ≡ line.Declare n a → ⊥) → ((n : Name) (a : ExprId) → x ≡ line.Assign n a → ⊥) → sets_name x ≡ false
not_setting (line.Declare n a) d e = absurd (d n a refl)
not_setting (line.Assign n a) d e = absurd (e n a refl)
not_setting _ d e = refl

-- ---- what is around

pub parts_near : (p : Pool) (o : Opened) (os : List Operand) (temps : ℕ) (ds : List Bool) (near near' : Around) (s : State) (f : Around → Around)
    → near' ≡ f near → PartsTell p o os temps ds near s → PartsTell p o os temps ds near' (with_around (f s.around) s)
parts_near p o os temps ds near near' s f e t = record {
  first = t.first;
  lines = t.lines;
  items = t.items;
  arms = t.arms;
  stack = t.stack;
  temps_are = t.temps_are;
  declared_are = t.declared_are;
  around_is = e ∙ ap f t.around_is;
}

-- ---- how a function begins

mark_is : (m : Mark) (n : ℕ) → m.0 ≡ n → m ≡ mark_at n
mark_is m n e = ap mark_at e

pub parts_begun : (p : Pool) (os xs : List Operand) (temps : ℕ) (ds es : List Bool) (near near' : Around) (s : State) (b : Bool) (m : Mark)
    → xs ≡ [] → es ≡ [] → m.0 ≡ length (opened p).arms → near' ≡ begun_near b m near → PartsTell p (opened p) os temps ds near s → PartsTell p (opened p) xs 0 es near' (begun b s)
parts_begun p os xs temps ds es near near' s b m e f h n t =
    let k : m ≡ mark_at (length s.arms) = mark_is m (length s.arms) (h ∙ parts_arms p (opened p) os temps ds near s t) in
    record {
      first = t.first;
      lines = t.lines;
      items = t.items;
      arms = t.arms;
      stack = subst (λ (zs : List Operand). ValuesAre p (reverse zs) []) (sym e) no_values;
      temps_are = refl;
      declared_are = f;
      around_is = n ∙ ap (begun_near b m) t.around_is ∙ ap (λ (z : Mark). begun_near b z s.around) k;
    }

abbrev pub around_with : Facts → List ℕ → List Home → List Noted → List Exits → Mark → Mark → Around
around_with f slots results noted exits m k = record {
  facts = f;
  plain = false;
  func = None;
  slots = slots;
  results = results;
  defers = false;
  mentions_results = false;
  loops = 0;
  opened = noted;
  exits = exits;
  next_case = 2;
  next_slot = 8;
  open_case = 1;
  open_lines = m;
  first_case = k;
  adapters = 0;
}

pub around_new : (f : Facts) (slots : List ℕ) (results : List Home) (noted : List Noted) (exits : List Exits) (m k : Mark)
    → slots ≡ [] → results ≡ [] → noted ≡ [] → exits ≡ [] → m.0 ≡ 0 → k.0 ≡ 0 → around_with f slots results noted exits m k ≡ no_function f
around_new f slots results noted exits m k a b c d g h =
    ap (λ (z : List ℕ). around_with f z results noted exits m k) a
    ∙ ap (λ (z : List Home). around_with f [] z noted exits m k) b
    ∙ ap (λ (z : List Noted). around_with f [] [] z exits m k) c
    ∙ ap (λ (z : List Exits). around_with f [] [] [] z m k) d
    ∙ ap (λ (z : Mark). around_with f [] [] [] [] z k) (mark_is m 0 g)
    ∙ ap (λ (z : Mark). around_with f [] [] [] [] (mark_at 0) z) (mark_is k 0 h)

-- nothing is begun
pub parts_new : (p : Pool) (os : List Operand) (ds : List Bool) (near near' : Around) → Begins p → p.failed ≡ false → os ≡ [] → ds ≡ [] → near ≡ near' → PartsTell p (opened p) os 0 ds near (empty near')
parts_new p os ds near near' b l e f n = record {
  first = (b.1 p (itself p l)).1;
  lines = subst (λ (o : Opened). LinesAre p (reverse o.lines) []) (sym b.0) no_line;
  items = subst (λ (o : Opened). ItemsAre p (reverse o.rest) []) (sym b.0) no_item;
  arms = subst (λ (o : Opened). ArmsAre p (reverse o.arms) []) (sym b.0) no_arm;
  stack = subst (λ (zs : List Operand). ValuesAre p (reverse zs) []) (sym e) no_values;
  temps_are = refl;
  declared_are = f;
  around_is = n;
}

-- ---- `&&` and `||`

pub joins_shown : {p : Pool} {x : Node} {t : Expr} → Shows p x t → joins x ≡ is_joined t
joins_shown rule.number = refl
joins_shown (rule.string h) = refl
joins_shown rule.boolean = refl
joins_shown rule.null = refl
joins_shown rule.name = refl
joins_shown (rule.unary a) = refl
joins_shown (rule.binary a b) = refl
joins_shown (rule.both a b) = refl
joins_shown (rule.either a b) = refl
joins_shown (rule.choice a b c) = refl
joins_shown (rule.call a l) = refl
joins_shown (rule.index a b) = refl
joins_shown (rule.length_of a) = refl
joins_shown (rule.pop a) = refl
joins_shown (rule.char_code_at a b) = refl
joins_shown (rule.substring a b c) = refl
joins_shown (rule.array l) = refl
joins_shown rule.dictionary = refl
joins_shown (rule.decimal_of a) = refl
joins_shown (rule.from_char_code a) = refl

-- what the only statement of a block sets the temporary of a place to
pub only_here : (p : Pool) (x : Name) (a : ExprId) (place : ℕ) (l : Line) → LineIs p (line.Assign x a) l → is_temp (word_of x) place ≡ true → MayStand p (Some a) (only_set place (l ∷ []))
only_here p x a place l h e =
    let r : (e : Expr) × Stands p a e × (l ≡ assigns (word_of x) e) = assigned_line p x a l h in
    subst (λ (k : Line). MayStand p (Some a) (only_set place (k ∷ []))) (sym r.2) (subst (λ (z : Option Expr). MayStand p (Some a) z) (if_true (is_temp (word_of x) place) (Some r.0) None e) (stands_some r.1))

pub only_elsewhere : (p : Pool) (x : Name) (a : ExprId) (place : ℕ) (l : Line) → LineIs p (line.Assign x a) l → is_temp (word_of x) place ≡ false → MayStand p None (only_set place (l ∷ []))
only_elsewhere p x a place l h e =
    let r : (e : Expr) × Stands p a e × (l ≡ assigns (word_of x) e) = assigned_line p x a l h in
    subst (λ (k : Line). MayStand p None (only_set place (k ∷ []))) (sym r.2) (subst (λ (z : Option Expr). MayStand p None z) (if_false (is_temp (word_of x) place) (Some r.0) None e) stands_none)

pub not_assigned : (p : Pool) (x : Stmt) (place : ℕ) (l : Line) → LineIs p x l → ((n : Name) (a : ExprId) → x ≡ line.Assign n a → ⊥) → MayStand p None (only_set place (l ∷ []))
not_assigned p _ place _ (declared h) n = stands_none
not_assigned p _ place _ (assigned {x = x} {a = a} h) n = absurd (n x a refl)
not_assigned p x place _ (said f s) n = stands_none

equal : (m n : ℕ) → nat_eq m n ≡ true → m ≡ n
equal m n e = grind (arith, nat_tests)

equals : (m n : ℕ) → m ≡ n → nat_eq m n ≡ true
equals m n e = grind (arith, nat_tests)

pub one_line : (p : Pool) (r : Option ExprId) (place : ℕ) (l : Line) (ls : List Line) (many : ℕ) → many ≡ suc (length ls) → nat_eq many 1 ≡ true → MayStand p r (only_set place (l ∷ [])) → MayStand p r (only_set place (l ∷ ls))
one_line p r place l ls many e f h =
    let n : ls ≡ [] = nil_from_length ls (omega (arith, e, equal many 1 f)) in
    subst (λ (ks : List Line). MayStand p r (only_set place (l ∷ ks))) (sym n) h

longer : (place : ℕ) (l : Line) (ls : List Line) → (suc (length ls) ≡ 1 → ⊥) → only_set place (l ∷ ls) ≡ None
longer place l [] n = absurd (n refl)
longer place (declares x e) (k ∷ ks) n = refl
longer place (assigns x e) (k ∷ ks) n = refl
longer place (says s) (k ∷ ks) n = refl

pub more_than_one : (p : Pool) (place : ℕ) (l : Line) (ls : List Line) (many : ℕ) → many ≡ suc (length ls) → nat_eq many 1 ≡ false → MayStand p None (only_set place (l ∷ ls))
more_than_one p place l ls many e n = subst (λ (z : Option Expr). MayStand p None z) (sym (longer place l ls (λ h. true≢false (sym (equals many 1 (e ∙ h)) ∙ n)))) stands_none

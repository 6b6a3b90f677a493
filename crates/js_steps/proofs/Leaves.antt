-- Parts that stand for expressions without expressions in them, and parts that are no statements.
use Rattle.std.proofs.Common.{◌≡◌, refl, ap, ◌∙◌, ℕ, List, Option, Some, None, true, slice_get}
use Rattle.std.proofs.Math.Bool.{Bool-set}
use Rattle.std.proofs.Math.Logic.{∥∥₁_elim}
use Rattle.std.specs.Borrow.{Bor}
use Rattle.js_tree.specs.Script.{Name}
use Rattle.js_tree.specs.Value.{gives}
use Rattle.js_tree.specs.Evaluate.{Setting, breaks}
use Rattle.js_tree.specs.declared.tree.UnaryOp.{UnaryOp}
use Rattle.js_tree.specs.declared.tree.BinaryOp.{BinaryOp}
use Rattle.js_code.specs.Held.{part_of}
use Rattle.js_code.specs.Parts.{Tree, as_expr, as_stmt, tree_of, trees_of}
use Rattle.js_code.specs.PartLaws.{parts_stand}
use Rattle.js_code.specs.declared.code.part.Part as kept
use Rattle.js_code.specs.declared.code.part.Part.TheVariants as held
use Rattle.js_simple.specs.Simple.{is_simple, IsSimpleAt}
use Rattle.js_steps.specs.declared.bodies.body.Body.{Body}
use Rattle.js_steps.specs.Moment.{Moment, flow, stmt_does}

leaf : (p : kept.Part)
    → ((at : ℕ) (op : UnaryOp) (e : ℕ) → ¬ (p ≡ held.Unary at op e))
    → ((at : ℕ) (op : BinaryOp) (a b : ℕ) → ¬ (p ≡ held.Binary at op a b))
    → ((at a b : ℕ) → ¬ (p ≡ held.And at a b))
    → ((at a b : ℕ) → ¬ (p ≡ held.Or at a b))
    → ((at a b d : ℕ) → ¬ (p ≡ held.Conditional at a b d))
    → ((at f es : ℕ) → ¬ (p ≡ held.Call at f es))
    → ((at e j : ℕ) → ¬ (p ≡ held.Index at e j))
    → ((at e : ℕ) → ¬ (p ≡ held.Length at e))
    → ((at e : ℕ) → ¬ (p ≡ held.Pop at e))
    → ((at e j : ℕ) → ¬ (p ≡ held.CharCodeAt at e j))
    → ((at e j k : ℕ) → ¬ (p ≡ held.Substring at e j k))
    → ((at es : ℕ) → ¬ (p ≡ held.Array at es))
    → ((at e : ℕ) → ¬ (p ≡ held.Decimal at e))
    → ((at e : ℕ) → ¬ (p ≡ held.FromCharCode at e))
    → (ts : List Tree) → is_simple (as_expr (Some (tree_of ts (part_of p)))) ≡ true
leaf (held.Unary at op e) h0 h1 h2 h3 h4 h5 h6 h7 h8 h9 h10 h11 h12 h13 ts = absurd (h0 at op e refl)
leaf (held.Binary at op a b) h0 h1 h2 h3 h4 h5 h6 h7 h8 h9 h10 h11 h12 h13 ts = absurd (h1 at op a b refl)
leaf (held.And at a b) h0 h1 h2 h3 h4 h5 h6 h7 h8 h9 h10 h11 h12 h13 ts = absurd (h2 at a b refl)
leaf (held.Or at a b) h0 h1 h2 h3 h4 h5 h6 h7 h8 h9 h10 h11 h12 h13 ts = absurd (h3 at a b refl)
leaf (held.Conditional at a b d) h0 h1 h2 h3 h4 h5 h6 h7 h8 h9 h10 h11 h12 h13 ts = absurd (h4 at a b d refl)
leaf (held.Call at f es) h0 h1 h2 h3 h4 h5 h6 h7 h8 h9 h10 h11 h12 h13 ts = absurd (h5 at f es refl)
leaf (held.Index at e j) h0 h1 h2 h3 h4 h5 h6 h7 h8 h9 h10 h11 h12 h13 ts = absurd (h6 at e j refl)
leaf (held.Length at e) h0 h1 h2 h3 h4 h5 h6 h7 h8 h9 h10 h11 h12 h13 ts = absurd (h7 at e refl)
leaf (held.Pop at e) h0 h1 h2 h3 h4 h5 h6 h7 h8 h9 h10 h11 h12 h13 ts = absurd (h8 at e refl)
leaf (held.CharCodeAt at e j) h0 h1 h2 h3 h4 h5 h6 h7 h8 h9 h10 h11 h12 h13 ts = absurd (h9 at e j refl)
leaf (held.Substring at e j k) h0 h1 h2 h3 h4 h5 h6 h7 h8 h9 h10 h11 h12 h13 ts = absurd (h10 at e j k refl)
leaf (held.Array at es) h0 h1 h2 h3 h4 h5 h6 h7 h8 h9 h10 h11 h12 h13 ts = absurd (h11 at es refl)
leaf (held.Decimal at e) h0 h1 h2 h3 h4 h5 h6 h7 h8 h9 h10 h11 h12 h13 ts = absurd (h12 at e refl)
leaf (held.FromCharCode at e) h0 h1 h2 h3 h4 h5 h6 h7 h8 h9 h10 h11 h12 h13 ts = absurd (h13 at e refl)
leaf p h0 h1 h2 h3 h4 h5 h6 h7 h8 h9 h10 h11 h12 h13 ts = refl

pub leaf_simple : (k : Body) (i : ℕ) (p : kept.Part) → slice_get k.code i ≡ Some (part_of p)
    → ((at : ℕ) (op : UnaryOp) (e : ℕ) → ¬ (p ≡ held.Unary at op e))
    → ((at : ℕ) (op : BinaryOp) (a b : ℕ) → ¬ (p ≡ held.Binary at op a b))
    → ((at a b : ℕ) → ¬ (p ≡ held.And at a b))
    → ((at a b : ℕ) → ¬ (p ≡ held.Or at a b))
    → ((at a b d : ℕ) → ¬ (p ≡ held.Conditional at a b d))
    → ((at f es : ℕ) → ¬ (p ≡ held.Call at f es))
    → ((at e j : ℕ) → ¬ (p ≡ held.Index at e j))
    → ((at e : ℕ) → ¬ (p ≡ held.Length at e))
    → ((at e : ℕ) → ¬ (p ≡ held.Pop at e))
    → ((at e j : ℕ) → ¬ (p ≡ held.CharCodeAt at e j))
    → ((at e j k : ℕ) → ¬ (p ≡ held.Substring at e j k))
    → ((at es : ℕ) → ¬ (p ≡ held.Array at es))
    → ((at e : ℕ) → ¬ (p ≡ held.Decimal at e))
    → ((at e : ℕ) → ¬ (p ≡ held.FromCharCode at e))
    → IsSimpleAt k.code i
leaf_simple k i p there h0 h1 h2 h3 h4 h5 h6 h7 h8 h9 h10 h11 h12 h13 =
    ∥∥₁_elim k.sound (Bool-set _ _) (λ s. ap (λ (o : Option Tree). is_simple (as_expr o)) (parts_stand s.0 k.code s.1 i (part_of p) there) ∙ leaf p h0 h1 h2 h3 h4 h5 h6 h7 h8 h9 h10 h11 h12 h13 (trees_of k.code))

-- no statement, which is what a jump out of nothing stands for
pub no_statement : (p : kept.Part)
    → ((at slot e : ℕ) (x : Bor Name) → ¬ (p ≡ held.Declare at slot e x))
    → ((at e : ℕ) (x : Bor Name) → ¬ (p ≡ held.DeclareNowhere at e x))
    → ((at slot e : ℕ) (x : Bor Name) → ¬ (p ≡ held.AssignLocal at slot e x))
    → ((at slot e : ℕ) (x : Bor Name) → ¬ (p ≡ held.AssignGlobal at slot e x))
    → ((at e : ℕ) (x : Bor Name) → ¬ (p ≡ held.AssignNowhere at e x))
    → ((at e j k : ℕ) → ¬ (p ≡ held.Store at e j k))
    → ((at e : ℕ) → ¬ (p ≡ held.Perform at e))
    → ((at e k : ℕ) → ¬ (p ≡ held.Push at e k))
    → ((at e k : ℕ) → ¬ (p ≡ held.Delete at e k))
    → ((at e b o : ℕ) → ¬ (p ≡ held.If at e b o))
    → ((at e b : ℕ) (l : Bor (Option Name)) → ¬ (p ≡ held.While at e b l))
    → ((at b : ℕ) (l : Bor (Option Name)) → ¬ (p ≡ held.Forever at b l))
    → ((at e cs : ℕ) (l : Bor (Option Name)) → ¬ (p ≡ held.Switch at e cs l))
    → ((at : ℕ) → ¬ (p ≡ held.ReturnNothing at))
    → ((at e : ℕ) → ¬ (p ≡ held.Return at e))
    → ((at e : ℕ) → ¬ (p ≡ held.Throw at e))
    → ((at : ℕ) (l : Bor (Option Name)) → ¬ (p ≡ held.Break at l))
    → ((at : ℕ) (l : Bor (Option Name)) → ¬ (p ≡ held.Continue at l))
    → ((at b h : ℕ) → ¬ (p ≡ held.Try at b h))
    → (ts : List Tree) (st : Setting) (m : Moment) → stmt_does st (as_stmt (Some (tree_of ts (part_of p)))) m ≡ gives (flow (breaks None)) m
no_statement (held.Declare at slot e x) h0 h1 h2 h3 h4 h5 h6 h7 h8 h9 h10 h11 h12 h13 h14 h15 h16 h17 h18 ts st m = absurd (h0 at slot e x refl)
no_statement (held.DeclareNowhere at e x) h0 h1 h2 h3 h4 h5 h6 h7 h8 h9 h10 h11 h12 h13 h14 h15 h16 h17 h18 ts st m = absurd (h1 at e x refl)
no_statement (held.AssignLocal at slot e x) h0 h1 h2 h3 h4 h5 h6 h7 h8 h9 h10 h11 h12 h13 h14 h15 h16 h17 h18 ts st m = absurd (h2 at slot e x refl)
no_statement (held.AssignGlobal at slot e x) h0 h1 h2 h3 h4 h5 h6 h7 h8 h9 h10 h11 h12 h13 h14 h15 h16 h17 h18 ts st m = absurd (h3 at slot e x refl)
no_statement (held.AssignNowhere at e x) h0 h1 h2 h3 h4 h5 h6 h7 h8 h9 h10 h11 h12 h13 h14 h15 h16 h17 h18 ts st m = absurd (h4 at e x refl)
no_statement (held.Store at e j k) h0 h1 h2 h3 h4 h5 h6 h7 h8 h9 h10 h11 h12 h13 h14 h15 h16 h17 h18 ts st m = absurd (h5 at e j k refl)
no_statement (held.Perform at e) h0 h1 h2 h3 h4 h5 h6 h7 h8 h9 h10 h11 h12 h13 h14 h15 h16 h17 h18 ts st m = absurd (h6 at e refl)
no_statement (held.Push at e k) h0 h1 h2 h3 h4 h5 h6 h7 h8 h9 h10 h11 h12 h13 h14 h15 h16 h17 h18 ts st m = absurd (h7 at e k refl)
no_statement (held.Delete at e k) h0 h1 h2 h3 h4 h5 h6 h7 h8 h9 h10 h11 h12 h13 h14 h15 h16 h17 h18 ts st m = absurd (h8 at e k refl)
no_statement (held.If at e b o) h0 h1 h2 h3 h4 h5 h6 h7 h8 h9 h10 h11 h12 h13 h14 h15 h16 h17 h18 ts st m = absurd (h9 at e b o refl)
no_statement (held.While at e b l) h0 h1 h2 h3 h4 h5 h6 h7 h8 h9 h10 h11 h12 h13 h14 h15 h16 h17 h18 ts st m = absurd (h10 at e b l refl)
no_statement (held.Forever at b l) h0 h1 h2 h3 h4 h5 h6 h7 h8 h9 h10 h11 h12 h13 h14 h15 h16 h17 h18 ts st m = absurd (h11 at b l refl)
no_statement (held.Switch at e cs l) h0 h1 h2 h3 h4 h5 h6 h7 h8 h9 h10 h11 h12 h13 h14 h15 h16 h17 h18 ts st m = absurd (h12 at e cs l refl)
no_statement (held.ReturnNothing at) h0 h1 h2 h3 h4 h5 h6 h7 h8 h9 h10 h11 h12 h13 h14 h15 h16 h17 h18 ts st m = absurd (h13 at refl)
no_statement (held.Return at e) h0 h1 h2 h3 h4 h5 h6 h7 h8 h9 h10 h11 h12 h13 h14 h15 h16 h17 h18 ts st m = absurd (h14 at e refl)
no_statement (held.Throw at e) h0 h1 h2 h3 h4 h5 h6 h7 h8 h9 h10 h11 h12 h13 h14 h15 h16 h17 h18 ts st m = absurd (h15 at e refl)
no_statement (held.Break at l) h0 h1 h2 h3 h4 h5 h6 h7 h8 h9 h10 h11 h12 h13 h14 h15 h16 h17 h18 ts st m = absurd (h16 at l refl)
no_statement (held.Continue at l) h0 h1 h2 h3 h4 h5 h6 h7 h8 h9 h10 h11 h12 h13 h14 h15 h16 h17 h18 ts st m = absurd (h17 at l refl)
no_statement (held.Try at b h) h0 h1 h2 h3 h4 h5 h6 h7 h8 h9 h10 h11 h12 h13 h14 h15 h16 h17 h18 ts st m = absurd (h18 at b h refl)
no_statement p h0 h1 h2 h3 h4 h5 h6 h7 h8 h9 h10 h11 h12 h13 h14 h15 h16 h17 h18 ts st m = refl

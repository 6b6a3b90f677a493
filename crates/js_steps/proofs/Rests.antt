-- Parts of which nothing is left to be done with the values in them.
use Rattle.std.proofs.Common.{◌≡◌, refl, ℕ, List, Option, Some}
use Rattle.std.specs.Borrow.{Bor}
use Rattle.js_tree.specs.Script.{Name}
use Rattle.js_tree.specs.Value.{Value, gives}
use Rattle.js_tree.specs.Evaluate.{Setting}
use Rattle.js_tree.specs.declared.tree.UnaryOp.{UnaryOp}
use Rattle.js_tree.specs.declared.tree.BinaryOp.{BinaryOp}
use Rattle.js_code.specs.Held.{part_of}
use Rattle.js_code.specs.Parts.{Tree, tree_of}
use Rattle.js_code.specs.declared.code.part.Part as kept
use Rattle.js_code.specs.declared.code.part.Part.TheVariants as held
use Rattle.js_steps.specs.Moment.{Moment, value}
use Rattle.js_steps.specs.PartWaits.{first_does, second_does, third_does}
use Rattle.js_steps.specs.Operations.{IsNoOperation}

-- with three values
pub third_rest : (p : kept.Part)
    → ((at : ℕ) → (e : ℕ) → (j : ℕ) → (k : ℕ) → ¬ (p ≡ (held.Substring at e j k)))
    → ((at : ℕ) → (e : ℕ) → (j : ℕ) → (k : ℕ) → ¬ (p ≡ (held.Store at e j k)))
    → (ts : List Tree) (u v w : Value) (m : Moment) → third_does (Some (tree_of ts (part_of p))) u v w m ≡ gives (value w) m
third_rest (held.Substring at e j k) h0 h1 ts u v w m = absurd (h0 at e j k refl)
third_rest (held.Store at e j k) h0 h1 ts u v w m = absurd (h1 at e j k refl)
third_rest p h0 h1 ts u v w m = refl

-- with two values
pub second_rest : (p : kept.Part)
    → ((at : ℕ) → (op : BinaryOp) → (a : ℕ) → (b : ℕ) → ¬ (p ≡ (held.Binary at op a b)))
    → ((at : ℕ) → (e : ℕ) → (j : ℕ) → ¬ (p ≡ (held.Index at e j)))
    → ((at : ℕ) → (e : ℕ) → (j : ℕ) → ¬ (p ≡ (held.CharCodeAt at e j)))
    → ((at : ℕ) → (e : ℕ) → (j : ℕ) → (k : ℕ) → ¬ (p ≡ (held.Substring at e j k)))
    → ((at : ℕ) → (e : ℕ) → (j : ℕ) → (k : ℕ) → ¬ (p ≡ (held.Store at e j k)))
    → ((at : ℕ) → (e : ℕ) → (k : ℕ) → ¬ (p ≡ (held.Push at e k)))
    → ((at : ℕ) → (e : ℕ) → (k : ℕ) → ¬ (p ≡ (held.Delete at e k)))
    → (st : Setting) (ts : List Tree) (u v : Value) (m : Moment) → second_does st (Some (tree_of ts (part_of p))) u v m ≡ gives (value v) m
second_rest (held.Binary at op a b) h0 h1 h2 h3 h4 h5 h6 st ts u v m = absurd (h0 at op a b refl)
second_rest (held.Index at e j) h0 h1 h2 h3 h4 h5 h6 st ts u v m = absurd (h1 at e j refl)
second_rest (held.CharCodeAt at e j) h0 h1 h2 h3 h4 h5 h6 st ts u v m = absurd (h2 at e j refl)
second_rest (held.Substring at e j k) h0 h1 h2 h3 h4 h5 h6 st ts u v m = absurd (h3 at e j k refl)
second_rest (held.Store at e j k) h0 h1 h2 h3 h4 h5 h6 st ts u v m = absurd (h4 at e j k refl)
second_rest (held.Push at e k) h0 h1 h2 h3 h4 h5 h6 st ts u v m = absurd (h5 at e k refl)
second_rest (held.Delete at e k) h0 h1 h2 h3 h4 h5 h6 st ts u v m = absurd (h6 at e k refl)
second_rest p h0 h1 h2 h3 h4 h5 h6 st ts u v m = refl

-- no operation
pub no_operation : (p : kept.Part)
    → ((at : ℕ) → (op : UnaryOp) → (e : ℕ) → ¬ (p ≡ (held.Unary at op e)))
    → ((at : ℕ) → (op : BinaryOp) → (a : ℕ) → (b : ℕ) → ¬ (p ≡ (held.Binary at op a b)))
    → ((at : ℕ) → (a : ℕ) → (b : ℕ) → ¬ (p ≡ (held.And at a b)))
    → ((at : ℕ) → (a : ℕ) → (b : ℕ) → ¬ (p ≡ (held.Or at a b)))
    → ((at : ℕ) → (a : ℕ) → (b : ℕ) → (d : ℕ) → ¬ (p ≡ (held.Conditional at a b d)))
    → ((at : ℕ) → (e : ℕ) → (j : ℕ) → ¬ (p ≡ (held.Index at e j)))
    → ((at : ℕ) → (e : ℕ) → ¬ (p ≡ (held.Length at e)))
    → ((at : ℕ) → (e : ℕ) → ¬ (p ≡ (held.Pop at e)))
    → ((at : ℕ) → (e : ℕ) → (j : ℕ) → ¬ (p ≡ (held.CharCodeAt at e j)))
    → ((at : ℕ) → (e : ℕ) → (j : ℕ) → (k : ℕ) → ¬ (p ≡ (held.Substring at e j k)))
    → ((at : ℕ) → (e : ℕ) → ¬ (p ≡ (held.Decimal at e)))
    → ((at : ℕ) → (e : ℕ) → ¬ (p ≡ (held.FromCharCode at e)))
    → IsNoOperation (part_of p)
no_operation (held.Unary at op e) h0 h1 h2 h3 h4 h5 h6 h7 h8 h9 h10 h11 = absurd (h0 at op e refl)
no_operation (held.Binary at op a b) h0 h1 h2 h3 h4 h5 h6 h7 h8 h9 h10 h11 = absurd (h1 at op a b refl)
no_operation (held.And at a b) h0 h1 h2 h3 h4 h5 h6 h7 h8 h9 h10 h11 = absurd (h2 at a b refl)
no_operation (held.Or at a b) h0 h1 h2 h3 h4 h5 h6 h7 h8 h9 h10 h11 = absurd (h3 at a b refl)
no_operation (held.Conditional at a b d) h0 h1 h2 h3 h4 h5 h6 h7 h8 h9 h10 h11 = absurd (h4 at a b d refl)
no_operation (held.Index at e j) h0 h1 h2 h3 h4 h5 h6 h7 h8 h9 h10 h11 = absurd (h5 at e j refl)
no_operation (held.Length at e) h0 h1 h2 h3 h4 h5 h6 h7 h8 h9 h10 h11 = absurd (h6 at e refl)
no_operation (held.Pop at e) h0 h1 h2 h3 h4 h5 h6 h7 h8 h9 h10 h11 = absurd (h7 at e refl)
no_operation (held.CharCodeAt at e j) h0 h1 h2 h3 h4 h5 h6 h7 h8 h9 h10 h11 = absurd (h8 at e j refl)
no_operation (held.Substring at e j k) h0 h1 h2 h3 h4 h5 h6 h7 h8 h9 h10 h11 = absurd (h9 at e j k refl)
no_operation (held.Decimal at e) h0 h1 h2 h3 h4 h5 h6 h7 h8 h9 h10 h11 = absurd (h10 at e refl)
no_operation (held.FromCharCode at e) h0 h1 h2 h3 h4 h5 h6 h7 h8 h9 h10 h11 = absurd (h11 at e refl)
no_operation p h0 h1 h2 h3 h4 h5 h6 h7 h8 h9 h10 h11 = tt

-- with one value, where it is no operation
pub first_rest : (p : kept.Part)
    → ((at : ℕ) → (slot : ℕ) → (e : ℕ) → (x : Bor Name) → ¬ (p ≡ (held.Declare at slot e x)))
    → ((at : ℕ) → (e : ℕ) → (x : Bor Name) → ¬ (p ≡ (held.DeclareNowhere at e x)))
    → ((at : ℕ) → (slot : ℕ) → (e : ℕ) → (x : Bor Name) → ¬ (p ≡ (held.AssignLocal at slot e x)))
    → ((at : ℕ) → (slot : ℕ) → (e : ℕ) → (x : Bor Name) → ¬ (p ≡ (held.AssignGlobal at slot e x)))
    → ((at : ℕ) → (e : ℕ) → (x : Bor Name) → ¬ (p ≡ (held.AssignNowhere at e x)))
    → ((at : ℕ) → (e : ℕ) → (j : ℕ) → (k : ℕ) → ¬ (p ≡ (held.Store at e j k)))
    → ((at : ℕ) → (e : ℕ) → ¬ (p ≡ (held.Perform at e)))
    → ((at : ℕ) → (e : ℕ) → (k : ℕ) → ¬ (p ≡ (held.Push at e k)))
    → ((at : ℕ) → (e : ℕ) → (k : ℕ) → ¬ (p ≡ (held.Delete at e k)))
    → ((at : ℕ) → (e : ℕ) → (b : ℕ) → (o : ℕ) → ¬ (p ≡ (held.If at e b o)))
    → ((at : ℕ) → (e : ℕ) → (b : ℕ) → (o : ℕ) → ¬ (p ≡ (held.ElseIf at e b o)))
    → ((at : ℕ) → (e : ℕ) → (b : ℕ) → (l : Bor (Option Name)) → ¬ (p ≡ (held.While at e b l)))
    → ((at : ℕ) → (e : ℕ) → (cs : ℕ) → (l : Bor (Option Name)) → ¬ (p ≡ (held.Switch at e cs l)))
    → ((at : ℕ) → (e : ℕ) → ¬ (p ≡ (held.Return at e)))
    → ((at : ℕ) → (e : ℕ) → ¬ (p ≡ (held.Throw at e)))
    → IsNoOperation (part_of p)
    → (st : Setting) (ts : List Tree) (v : Value) (m : Moment) → first_does st (Some (tree_of ts (part_of p))) v m ≡ gives (value v) m
first_rest (held.Unary at op e) h0 h1 h2 h3 h4 h5 h6 h7 h8 h9 h10 h11 h12 h13 h14 q st ts v m = absurd q
first_rest (held.Binary at op a b) h0 h1 h2 h3 h4 h5 h6 h7 h8 h9 h10 h11 h12 h13 h14 q st ts v m = absurd q
first_rest (held.And at a b) h0 h1 h2 h3 h4 h5 h6 h7 h8 h9 h10 h11 h12 h13 h14 q st ts v m = absurd q
first_rest (held.Or at a b) h0 h1 h2 h3 h4 h5 h6 h7 h8 h9 h10 h11 h12 h13 h14 q st ts v m = absurd q
first_rest (held.Conditional at a b d) h0 h1 h2 h3 h4 h5 h6 h7 h8 h9 h10 h11 h12 h13 h14 q st ts v m = absurd q
first_rest (held.Index at e j) h0 h1 h2 h3 h4 h5 h6 h7 h8 h9 h10 h11 h12 h13 h14 q st ts v m = absurd q
first_rest (held.Length at e) h0 h1 h2 h3 h4 h5 h6 h7 h8 h9 h10 h11 h12 h13 h14 q st ts v m = absurd q
first_rest (held.Pop at e) h0 h1 h2 h3 h4 h5 h6 h7 h8 h9 h10 h11 h12 h13 h14 q st ts v m = absurd q
first_rest (held.CharCodeAt at e j) h0 h1 h2 h3 h4 h5 h6 h7 h8 h9 h10 h11 h12 h13 h14 q st ts v m = absurd q
first_rest (held.Substring at e j k) h0 h1 h2 h3 h4 h5 h6 h7 h8 h9 h10 h11 h12 h13 h14 q st ts v m = absurd q
first_rest (held.Decimal at e) h0 h1 h2 h3 h4 h5 h6 h7 h8 h9 h10 h11 h12 h13 h14 q st ts v m = absurd q
first_rest (held.FromCharCode at e) h0 h1 h2 h3 h4 h5 h6 h7 h8 h9 h10 h11 h12 h13 h14 q st ts v m = absurd q
first_rest (held.Declare at slot e x) h0 h1 h2 h3 h4 h5 h6 h7 h8 h9 h10 h11 h12 h13 h14 q st ts v m = absurd (h0 at slot e x refl)
first_rest (held.DeclareNowhere at e x) h0 h1 h2 h3 h4 h5 h6 h7 h8 h9 h10 h11 h12 h13 h14 q st ts v m = absurd (h1 at e x refl)
first_rest (held.AssignLocal at slot e x) h0 h1 h2 h3 h4 h5 h6 h7 h8 h9 h10 h11 h12 h13 h14 q st ts v m = absurd (h2 at slot e x refl)
first_rest (held.AssignGlobal at slot e x) h0 h1 h2 h3 h4 h5 h6 h7 h8 h9 h10 h11 h12 h13 h14 q st ts v m = absurd (h3 at slot e x refl)
first_rest (held.AssignNowhere at e x) h0 h1 h2 h3 h4 h5 h6 h7 h8 h9 h10 h11 h12 h13 h14 q st ts v m = absurd (h4 at e x refl)
first_rest (held.Store at e j k) h0 h1 h2 h3 h4 h5 h6 h7 h8 h9 h10 h11 h12 h13 h14 q st ts v m = absurd (h5 at e j k refl)
first_rest (held.Perform at e) h0 h1 h2 h3 h4 h5 h6 h7 h8 h9 h10 h11 h12 h13 h14 q st ts v m = absurd (h6 at e refl)
first_rest (held.Push at e k) h0 h1 h2 h3 h4 h5 h6 h7 h8 h9 h10 h11 h12 h13 h14 q st ts v m = absurd (h7 at e k refl)
first_rest (held.Delete at e k) h0 h1 h2 h3 h4 h5 h6 h7 h8 h9 h10 h11 h12 h13 h14 q st ts v m = absurd (h8 at e k refl)
first_rest (held.If at e b o) h0 h1 h2 h3 h4 h5 h6 h7 h8 h9 h10 h11 h12 h13 h14 q st ts v m = absurd (h9 at e b o refl)
first_rest (held.While at e b l) h0 h1 h2 h3 h4 h5 h6 h7 h8 h9 h10 h11 h12 h13 h14 q st ts v m = absurd (h11 at e b l refl)
first_rest (held.Switch at e cs l) h0 h1 h2 h3 h4 h5 h6 h7 h8 h9 h10 h11 h12 h13 h14 q st ts v m = absurd (h12 at e cs l refl)
first_rest (held.Return at e) h0 h1 h2 h3 h4 h5 h6 h7 h8 h9 h10 h11 h12 h13 h14 q st ts v m = absurd (h13 at e refl)
first_rest (held.Throw at e) h0 h1 h2 h3 h4 h5 h6 h7 h8 h9 h10 h11 h12 h13 h14 q st ts v m = absurd (h14 at e refl)
first_rest (held.ElseIf at e b o) h0 h1 h2 h3 h4 h5 h6 h7 h8 h9 h10 h11 h12 h13 h14 q st ts v m = absurd (h10 at e b o refl)
first_rest p h0 h1 h2 h3 h4 h5 h6 h7 h8 h9 h10 h11 h12 h13 h14 q st ts v m = refl

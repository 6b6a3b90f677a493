-- The invariant of the machine's run: each frame of a stack has taken some of the tokens, and with the
-- trees that it waits for it makes the tree that the frame below waits for.
use Rattle.std.proofs.Common.{◌≡◌, Bool, true, false, ℕ, List, [], ◌∷◌, ◌++◌, refl, ap, sym, ◌∙◌, subst, append_assoc, append-nil, nat_lt, if◌then◌else◌}
use Rattle.gj_base.specs.declared.place.Place.{Place}
use Rattle.go_syntax.specs.Token.{Token}
use Rattle.go_syntax.specs.declared.operator.Operator.{Operator}
use Rattle.go_grammar.specs.Classes.{IsOp}
use Rattle.go_grammar.specs.Limits.{has_room}
use Rattle.go_grammar.specs.Frames as f
use Rattle.go_grammar.specs.Frames.{Ctx, Value, Frame, OfExpr, OfPart, OfType, OfField, OfSig, OfStmt, OfControl, OfSwitch, OfDecl, OfFile, Done, Stack, Flow, Goes, Over, Stuck, Deep, Long}
use Rattle.go_grammar.specs.Nodes.{is_op}
use Rattle.go_grammar.specs.ExprSteps.{if_room, if_short, if_op, then_expr}
use Rattle.go_grammar.proofs.TokenLemmas.{op_of, by_test}
use Rattle.go_grammar.proofs.Wanted.{First, AnyFirst, Want, WNone, WFile, WUnary, Is, TakesExpr, to_expr, to_value}
use Rattle.go_grammar.proofs.HeldExprs.{HoldsExpr, operand, chain, waits_expr, first_of, HoldsPart, waits_part, HoldsType, waits_type, HoldsField, waits_field, HoldsSig, waits_sig}
use Rattle.go_grammar.proofs.HeldStmts.{HoldsStmt, waits_stmt, HoldsControl, waits_control, HoldsSwitch, waits_switch, HoldsDecl, waits_decl, HoldsFile, waits_file}

pub record DoneIs (v : Value) (ts : List Token) (w : Want) : Type 0 where
  pub is : (u : Token) → Is u w v ts

abbrev pub Holds : Frame → List Token → Want → Type 0
Holds (OfExpr f) ts w = HoldsExpr f ts w
Holds (OfPart f) ts w = HoldsPart f ts w
Holds (OfType f) ts w = HoldsType f ts w
Holds (OfField f) ts w = HoldsField f ts w
Holds (OfSig f) ts w = HoldsSig f ts w
Holds (OfStmt f) ts w = HoldsStmt f ts w
Holds (OfControl f) ts w = HoldsControl f ts w
Holds (OfSwitch f) ts w = HoldsSwitch f ts w
Holds (OfDecl f) ts w = HoldsDecl f ts w
Holds (OfFile f) ts w = HoldsFile f ts w
Holds (Done v) ts w = DoneIs v ts w

-- what a frame waits for
abbrev pub waits : Frame → Want → Want
waits (OfExpr f) w = waits_expr f w
waits (OfPart f) w = waits_part f
waits (OfType f) w = waits_type f
waits (OfField f) w = waits_field f
waits (OfSig f) w = waits_sig f
waits (OfStmt f) w = waits_stmt f w
waits (OfControl f) w = waits_control f
waits (OfSwitch f) w = waits_switch f
waits (OfDecl f) w = waits_decl f
waits (OfFile f) w = waits_file f
waits (Done v) w = WNone

-- the frames have taken the tokens, and the top one waits for the class
pub data Below : List Token → Stack → Want → Type 0 where
  ground : Below [] [] WFile
  on : {ps : List Token} {s : Stack} {w : Want} (f : Frame) (ts : List Token) → Below ps s w → Holds f ts w → Below (ps ++ ts) (f ∷ s) (waits f w)

pub data Stands : List Token → Stack → Type 0 where
  stands : {ps : List Token} {s : Stack} {w : Want} → Below ps s w → Stands ps s

-- above the stack s, which waits for w, the tokens ts are taken; a step at u goes on so
pub data Opens : Token → Want → List Token → Stack → Flow → Type 0 where
  opens : {u : Token} {w : Want} {ts : List Token} {s s' : Stack} → ((qs : List Token) → Below qs s w → Stands (qs ++ (ts ++ u ∷ [])) s') → Opens u w ts s (Goes s')
  o_stuck : {u : Token} {w : Want} {ts : List Token} {s : Stack} → Opens u w ts s Stuck
  o_deep : {u : Token} {w : Want} {ts : List Token} {s : Stack} → Opens u w ts s Deep
  o_long : {u : Token} {w : Want} {ts : List Token} {s : Stack} {at : Place} → Opens u w ts s (Long at)

-- or it is over, with a tree of the class
pub data Good : Token → Want → List Token → Stack → Flow → Type 0 where
  good : {u : Token} {w : Want} {ts : List Token} {s : Stack} {x : Flow} → Opens u w ts s x → Good u w ts s x
  over : {u : Token} {w : Want} {ts : List Token} {s s' : Stack} {v : Value} → Is u w v ts → Good u w ts s (Over v s')

pub stuck : {u : Token} {w : Want} {ts : List Token} {s : Stack} → Good u w ts s Stuck
stuck = good o_stuck

-- one frame comes, in place of the one that held the tokens
pub open_at : {u : Token} {w : Want} {ts us : List Token} {s : Stack} (f : Frame) → ts ++ u ∷ [] ≡ us → Holds f us w → Opens u w ts s (Goes (f ∷ s))
open_at {u} {w} {ts} {us} {s} f q h = opens (λ qs b. subst (λ z. Stands (qs ++ z) (f ∷ s)) (sym q) (stands (on f us b h)))

pub open_one : {u : Token} {w : Want} {ts : List Token} {s : Stack} (f : Frame) → Holds f (ts ++ u ∷ []) w → Opens u w ts s (Goes (f ∷ s))
open_one f h = open_at f refl h

-- two frames come
pub open_two : {u : Token} {w : Want} {ts : List Token} {s : Stack} (f g : Frame) (us vs : List Token) → ts ++ u ∷ [] ≡ us ++ vs → Holds f us w → Holds g vs (waits f w) → Opens u w ts s (Goes (g ∷ f ∷ s))
open_two {u} {w} {ts} {s} f g us vs q hf hg = opens (λ qs b. subst (λ z. Stands z (g ∷ f ∷ s)) (append_assoc qs us vs ∙ ap (λ z. qs ++ z) (sym q)) (stands (on g vs (on f us b hf) hg)))

-- a frame that has the token too, and a fresh one
pub open_new : {u : Token} {w : Want} {ts : List Token} {s : Stack} (f g : Frame) → Holds f (ts ++ u ∷ []) w → Holds g [] (waits f w) → Opens u w ts s (Goes (g ∷ f ∷ s))
open_new {u} {w} {ts} f g hf hg = open_two f g (ts ++ u ∷ []) [] (sym (append-nil (ts ++ u ∷ []))) hf hg

-- the frame that has the tokens, and one that has the new token
pub open_on : {u : Token} {w : Want} {ts : List Token} {s : Stack} (f g : Frame) → Holds f ts w → Holds g (u ∷ []) (waits f w) → Opens u w ts s (Goes (g ∷ f ∷ s))
open_on {u} {ts = ts} f g hf hg = open_two f g ts (u ∷ []) refl hf hg

pub takes_first : {w : Want} {h g : Bool} {r : First} → TakesExpr w h g r → first_of w ≡ r
takes_first to_expr = refl
takes_first to_value = refl

pub open_operand : {u : Token} {w : Want} {ts : List Token} {s : Stack} (x : Frame) (c : Ctx) (us : List Token) → ts ++ u ∷ [] ≡ us → Holds x us w → TakesExpr (waits x w) c.header c.guard AnyFirst → Opens u w ts s (then_expr c (x ∷ s))
open_operand {u} {w} {ts} {s} x c us q hx t =
    opens (λ qs b.
    let top : Holds (OfExpr (f.Operand c)) [] (waits (OfExpr (f.Chain c)) (waits x w)) = subst (λ r. HoldsExpr (f.Operand c) [] (WUnary 1 c.header c.guard r)) (sym (takes_first t)) operand in
    subst (λ z. Stands z (OfExpr (f.Operand c) ∷ OfExpr (f.Chain c) ∷ x ∷ s)) (append-nil ((qs ++ us) ++ []) ∙ (append-nil (qs ++ us) ∙ ap (λ z. qs ++ z) (sym q)))
    (stands (on (OfExpr (f.Operand c)) [] (on (OfExpr (f.Chain c)) [] (on x us b hx) (chain t)) top)))

-- the token is taken above a frame that has some tokens
pub within : {u : Token} {w : Want} {vs : List Token} {s : Stack} {x : Flow} (f : Frame) (ts : List Token) → Holds f ts w → Opens u (waits f w) vs (f ∷ s) x → Opens u w (ts ++ vs) s x
within {u} {vs = vs} f ts hf (opens {s' = s'} k) = opens (λ qs b. subst (λ z. Stands z s') (append_assoc qs ts (vs ++ u ∷ []) ∙ ap (λ z. qs ++ z) (sym (append_assoc ts vs (u ∷ [])))) (k (qs ++ ts) (on f ts b hf)))
within f ts hf o_stuck = o_stuck
within f ts hf o_deep = o_deep
within f ts hf o_long = o_long

pub within_new : {u : Token} {w : Want} {ts : List Token} {s : Stack} {x : Flow} (f : Frame) → Holds f ts w → Opens u (waits f w) [] (f ∷ s) x → Opens u w ts s x
within_new {u} {w} {ts} {s} {x} f hf k = subst (λ z. Opens u w z s x) (append-nil ts) (within f ts hf k)

pub good_at : {u : Token} {w : Want} {ts us : List Token} {s : Stack} {x : Flow} → ts ≡ us → Good u w us s x → Good u w ts s x
good_at {u} {w} {s = s} {x} q g = subst (λ z. Good u w z s x) (sym q) g

pub opens_at : {u : Token} {w : Want} {ts us : List Token} {s : Stack} {x : Flow} → ts ≡ us → Opens u w us s x → Opens u w ts s x
opens_at {u} {w} {s = s} {x} q g = subst (λ z. Opens u w z s x) (sym q) g

-- splitting on a test
pub good_if : {u : Token} {w : Want} {ts : List Token} {s : Stack} {x y : Flow} (b : Bool) → (b ≡ true → Good u w ts s x) → (b ≡ false → Good u w ts s y) → Good u w ts s (if b then x else y)
good_if {u} {w} {ts} {s} b m n = by_test (Good u w ts s) b m n

pub open_if : {u : Token} {w : Want} {ts : List Token} {s : Stack} {x y : Flow} (b : Bool) → (b ≡ true → Opens u w ts s x) → (b ≡ false → Opens u w ts s y) → Opens u w ts s (if b then x else y)
open_if {u} {w} {ts} {s} b m n = by_test (Opens u w ts s) b m n

pub good_op : {u : Token} {w : Want} {ts : List Token} {s : Stack} {x y : Flow} (o : Operator) → (IsOp o u → Good u w ts s x) → (is_op o u ≡ false → Good u w ts s y) → Good u w ts s (if_op o u x y)
good_op {u} o m n = good_if (is_op o u) (λ q. m (op_of q)) n

pub open_op : {u : Token} {w : Want} {ts : List Token} {s : Stack} {x y : Flow} (o : Operator) → (IsOp o u → Opens u w ts s x) → (is_op o u ≡ false → Opens u w ts s y) → Opens u w ts s (if_op o u x y)
open_op {u} o m n = open_if (is_op o u) (λ q. m (op_of q)) n

pub room : {u : Token} {w : Want} {ts : List Token} {s : Stack} {x : Flow} (c : Ctx) → Opens u w ts s x → Opens u w ts s (if_room c x)
room c h = open_if (has_room c.depth) (λ q. h) (λ q. o_deep)

pub short : {u : Token} {w : Want} {ts : List Token} {s : Stack} {x : Flow} (n : ℕ) (at : Place) → Opens u w ts s x → Opens u w ts s (if_short n at x)
short n at h = open_if (nat_lt n 500) (λ q. h) (λ q. o_long)

-- Each rule on types: its parts are read, so the whole is.
use Rattle.std.proofs.Common.{◌≡◌, ◌+◌, ℕ, true, false, List, [], ◌∷◌, ◌++◌, Some, None, refl, subst, arith}
use Rattle.std.proofs.lemmas.Bool.Decides.{nat_tests}
use Rattle.gj_base.specs.declared.place.Place.{Place}
use Rattle.go_syntax.specs.Tree as t
use Rattle.go_syntax.specs.Token.{Token}
use Rattle.go_syntax.specs.declared.kind.TokenKind.{TokenKind}
use Rattle.go_syntax.specs.declared.kind.TokenKind.TheVariants as kind
use Rattle.go_syntax.specs.declared.keyword.Keyword.TheVariants as word
use Rattle.go_syntax.specs.declared.operator.Operator.TheVariants as o
use Rattle.go_syntax.specs.declared.tree.Prefix.TheVariants as «prefix»
use Rattle.go_syntax.specs.declared.tree.ChanDir.TheVariants as dir
use Rattle.go_grammar.specs.Classes.{IsOp, IsWord, begins_type}
use Rattle.go_grammar.specs.Context.{NotArrow}
use Rattle.go_grammar.specs.Limits.{has_room, expr_fits, fields_fit, members_fit}
use Rattle.go_grammar.specs.Frames.{Ctx, inside, OfExpr, OfType, Stack, Operand, Chain, AType, TypeParens, Star, SliceOf, ArrayOf, TypeBracket, Len, Key, MapOf, ChanOpen, BothOf, SendOf, ReceiveOf, FuncOf}
use Rattle.go_grammar.specs.Grammar.{IsTypeName, plain_name, package_name}
use Rattle.go_grammar.specs.Nodes.{is_op, begins_expr}
use Rattle.go_grammar.specs.Parsed.{run}
use Rattle.go_grammar.proofs.Stepping.{ctx, of_kind, run_assoc, first_part, second_part, halts_op, halted_type}
use Rattle.go_grammar.proofs.Starting.{starts_expr, starts_type, first_is, from_first, expr_no_bracket, expr_no_dots}
use Rattle.go_grammar.proofs.Readings.{TypeReads, ExprReads, halted_expr, SigReads, FieldsRead, MembersRead}

pub room_below : (d : ℕ) → has_room (d + 1) ≡ true → has_room d ≡ true
room_below d h = grind (arith, nat_tests)

pub type_name_reads : (b : ℕ) (ts : List Token) (e : t.Expr) → IsTypeName ts e → TypeReads b ts e
type_name_reads b _ _ (plain_name {u = v} n) d h g fits u us s after = let no_dot : is_op o.Dot u ≡ false = after.1 in simp (n.name, no_dot)
type_name_reads b _ _ (package_name {u = v} {v = w} {w = x} n dot m) d h g fits u us s after = simp (n.name, dot.op, m.name)

pub type_parens_reads : (b : ℕ) (ts : List Token) (e : t.Expr) (v w : Token) → IsOp o.LeftParen v → IsOp o.RightParen w → TypeReads b ts e → TypeReads b (v ∷ ts ++ w ∷ []) (t.ParenExpr v.place e)
type_parens_reads b ts e v w hv hw ih d h g fits u us s after =
    let room : has_room d ≡ true = first_part _ _ fits in
    let within : expr_fits b (d + 1) e ≡ true = second_part _ _ fits in
    simp (hv.op, hw.op, room, run_assoc ts (w ∷ []) (u ∷ us), ih (d + 1) false false within w (u ∷ us) (OfType (TypeParens v.place) ∷ s) (halted_type e (halts_op hw refl)))

pub pointer_type_reads : (b : ℕ) (ts : List Token) (e : t.Expr) (v : Token) → IsOp o.Mul v → TypeReads b ts e → TypeReads b (v ∷ ts) (t.UnaryExpr v.place «prefix».Star e)
pointer_type_reads b ts e v hv ih d h g fits u us s after =
    let room : has_room d ≡ true = first_part _ _ fits in
    let within : expr_fits b (d + 1) e ≡ true = second_part _ _ fits in
    simp (hv.op, room, ih (d + 1) false false within u us (OfType (Star v.place) ∷ s) after)

two_more : (d : ℕ) → d + 2 ≡ d + 1 + 1
two_more d = omega arith

pub receive_type_reads : (b : ℕ) (ts : List Token) (e : t.Expr) (v w : Token) → IsOp o.Arrow v → IsWord word.Chan w → TypeReads b ts e → TypeReads b (v ∷ w ∷ ts) (t.ChanType v.place dir.Receive e)
receive_type_reads b ts e v w hv hw ih d h g fits u us s after =
    let room : has_room (d + 1) ≡ true = first_part _ _ fits in
    let room' : has_room d ≡ true = room_below d room in
    let fits' : expr_fits b (d + 1 + 1) e ≡ true = subst (λ n. expr_fits b n e ≡ true) (two_more d) (second_part _ _ fits) in
    simp (hv.op, hw.word, room', room, ih (d + 1 + 1) false false fits' u us (OfType (ReceiveOf v.place) ∷ s) after)

pub function_type_reads : (b : ℕ) (ts : List Token) (sig : t.Sig) (v : Token) → IsWord word.Func v → SigReads b ts sig → TypeReads b (v ∷ ts) (t.FuncType v.place sig)
function_type_reads b ts sig v hv ih d h g fits u us s after = simp (hv.word, ih d h g fits u us (OfType (FuncOf v.place) ∷ s) after)

pub slice_type_reads : (b : ℕ) (ts : List Token) (e : t.Expr) (v w : Token) → IsOp o.LeftBracket v → IsOp o.RightBracket w → TypeReads b ts e → TypeReads b (v ∷ w ∷ ts) (t.SliceType v.place e)
slice_type_reads b ts e v w hv hw ih d h g fits u us s after =
    let room : has_room d ≡ true = first_part _ _ fits in
    let within : expr_fits b (d + 1) e ≡ true = second_part _ _ fits in
    simp (hv.op, hw.op, room, ih (d + 1) false false within u us (OfType (SliceOf v.place) ∷ s) after)

pub counted_array_reads : (b : ℕ) (ts : List Token) (e : t.Expr) (v w x : Token) → IsOp o.LeftBracket v → IsOp o.Ellipsis w → IsOp o.RightBracket x → TypeReads b ts e → TypeReads b (v ∷ w ∷ x ∷ ts) (t.ArrayType v.place t.NoExpr e)
counted_array_reads b ts e v w x hv hw hx ih d h g fits u us s after =
    let room : has_room d ≡ true = first_part _ _ (first_part _ _ fits) in
    let within : expr_fits b (d + 1) e ≡ true = second_part _ _ fits in
    simp (hv.op, hw.op, hx.op, room, ih (d + 1) false false within u us (OfType (ArrayOf v.place None) ∷ s) after)

-- in `[`, an expression begins
pub bracket_begins : (c : Ctx) (at : Place) (s : Stack) (u : Token) (us : List Token) → begins_expr u.kind ≡ true → run (u ∷ us) (OfType (TypeBracket c at) ∷ s) ≡ run (u ∷ us) (OfExpr (Operand (inside c)) ∷ OfExpr (Chain (inside c)) ∷ OfType (Len c at) ∷ s)
bracket_begins c at s u us h =
    let not_end : is_op o.RightBracket u ≡ false = expr_no_bracket u.kind h in
    let not_dots : is_op o.Ellipsis u ≡ false = expr_no_dots u.kind h in
    starts_expr u us (OfType (TypeBracket c at)) s (OfType (Len c at) ∷ s) (inside c) (simp (not_end, not_dots))

pub array_type_reads : (b : ℕ) (ts us' : List Token) (n e : t.Expr) (v w : Token) → IsOp o.LeftBracket v → first_is begins_expr ts ≡ true → ExprReads b false ts n → IsOp o.RightBracket w → TypeReads b us' e → TypeReads b (v ∷ ts ++ w ∷ us') (t.ArrayType v.place (t.AnExpr n) e)
array_type_reads b ts us' n e v w hv first ihn hw ihe d h g fits u us s after =
    let room : has_room d ≡ true = first_part _ _ (first_part _ _ fits) in
    let within : expr_fits b (d + 1) e ≡ true = second_part _ _ fits in
    let counted : expr_fits b (d + 1) n ≡ true = second_part _ _ (first_part _ _ fits) in
    let begins : run (ts ++ (w ∷ us' ++ u ∷ us)) (OfType (TypeBracket (ctx d b h g) v.place) ∷ s) ≡ run (ts ++ (w ∷ us' ++ u ∷ us)) (OfExpr (Operand (inside (ctx d b h g))) ∷ OfExpr (Chain (inside (ctx d b h g))) ∷ OfType (Len (ctx d b h g) v.place) ∷ s) = from_first begins_expr ts _ _ first (bracket_begins (ctx d b h g) v.place s) (w ∷ us' ++ u ∷ us) in
    simp (
      hv.op,
      hw.op,
      room,
      run_assoc ts (w ∷ us') (u ∷ us),
      begins,
      ihn (d + 1) false counted w (us' ++ u ∷ us) (OfType (Len (ctx d b h g) v.place) ∷ s) (halted_expr false n (halts_op hw refl)),
      ihe (d + 1) false false within u us (OfType (ArrayOf v.place (Some n)) ∷ s) after,
    )

pub map_type_reads : (b : ℕ) (ts us' : List Token) (k e : t.Expr) (v w x : Token) → IsWord word.Map v → IsOp o.LeftBracket w → TypeReads b ts k → IsOp o.RightBracket x → TypeReads b us' e → TypeReads b (v ∷ w ∷ ts ++ x ∷ us') (t.MapType v.place k e)
map_type_reads b ts us' k e v w x hv hw ihk hx ihe d h g fits u us s after =
    let room : has_room d ≡ true = first_part _ _ (first_part _ _ fits) in
    let within : expr_fits b (d + 1) e ≡ true = second_part _ _ fits in
    let keyed : expr_fits b (d + 1) k ≡ true = second_part _ _ (first_part _ _ fits) in
    simp (
      hv.word,
      hw.op,
      hx.op,
      room,
      run_assoc ts (x ∷ us') (u ∷ us),
      ihk (d + 1) false false keyed x (us' ++ u ∷ us) (OfType (Key (ctx d b h g) v.place) ∷ s) (halted_type k (halts_op hx refl)),
      ihe (d + 1) false false within u us (OfType (MapOf v.place k) ∷ s) after,
    )

no_arrow : (k : TokenKind) → (k ≡ kind.Op o.Arrow → ⊥) → is_op o.Arrow (of_kind k) ≡ false
no_arrow (kind.Op o.Arrow) h = absurd (h refl)
no_arrow _ h = refl

chan_begins : (ts : List Token) (c : Ctx) (at : Place) (s : Stack) → NotArrow ts → first_is begins_type ts ≡ true → (rest : List Token) → run (ts ++ rest) (OfType (ChanOpen c at) ∷ s) ≡ run (ts ++ rest) (OfType (AType c) ∷ OfType (BothOf at) ∷ s)
chan_begins [] c at s h first rest = cc
chan_begins (u ∷ ts) c at s h first rest =
    let not_arrow : is_op o.Arrow u ≡ false = no_arrow u.kind (λ e. h (record { op = e })) in
    starts_type u (ts ++ rest) (OfType (ChanOpen c at)) s (OfType (BothOf at) ∷ s) c (simp not_arrow)

pub chan_type_reads : (b : ℕ) (ts : List Token) (e : t.Expr) (v : Token) → IsWord word.Chan v → NotArrow ts → first_is begins_type ts ≡ true → TypeReads b ts e → TypeReads b (v ∷ ts) (t.ChanType v.place dir.Both e)
chan_type_reads b ts e v hv apart first ih d h g fits u us s after =
    let room : has_room d ≡ true = first_part _ _ fits in
    let within : expr_fits b (d + 1) e ≡ true = second_part _ _ fits in
    simp (hv.word, room, chan_begins ts (ctx (d + 1) b false false) v.place s apart first (u ∷ us), ih (d + 1) false false within u us (OfType (BothOf v.place) ∷ s) after)

pub send_type_reads : (b : ℕ) (ts : List Token) (e : t.Expr) (v w : Token) → IsWord word.Chan v → IsOp o.Arrow w → TypeReads b ts e → TypeReads b (v ∷ w ∷ ts) (t.ChanType v.place dir.Send e)
send_type_reads b ts e v w hv hw ih d h g fits u us s after =
    let room : has_room d ≡ true = first_part _ _ fits in
    let within : expr_fits b (d + 1) e ≡ true = second_part _ _ fits in
    simp (hv.word, hw.op, room, ih (d + 1) false false within u us (OfType (SendOf v.place) ∷ s) after)

pub struct_type_reads : (b : ℕ) (ts : List Token) (xs : t.Fields) (v w x : Token) → IsWord word.Struct v → IsOp o.LeftBrace w → FieldsRead b ts xs → IsOp o.RightBrace x → TypeReads b (v ∷ w ∷ ts ++ x ∷ []) (t.StructType v.place xs)
struct_type_reads b ts xs v w x hv hw ih hx d h g fits u us s after =
    let room : has_room d ≡ true = first_part _ _ fits in
    let within : fields_fit b (d + 1) xs ≡ true = second_part _ _ fits in
    simp (hv.word, hw.op, room, run_assoc ts (x ∷ []) (u ∷ us), ih (d + 1) false false within v.place [] x (u ∷ us) s hx)

pub interface_type_reads : (b : ℕ) (ts : List Token) (xs : t.Members) (v w x : Token) → IsWord word.Interface v → IsOp o.LeftBrace w → MembersRead b ts xs → IsOp o.RightBrace x → TypeReads b (v ∷ w ∷ ts ++ x ∷ []) (t.InterfaceType v.place xs)
interface_type_reads b ts xs v w x hv hw ih hx d h g fits u us s after =
    let room : has_room d ≡ true = first_part _ _ fits in
    let within : members_fit b (d + 1) xs ≡ true = second_part _ _ fits in
    simp (hv.word, hw.op, room, run_assoc ts (x ∷ []) (u ∷ us), ih (d + 1) false false within v.place [] x (u ∷ us) s hx)

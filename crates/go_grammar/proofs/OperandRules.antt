-- Each rule on operands.
use Rattle.std.proofs.Common.{◌≡◌, ◌+◌, ℕ, true, false, ◌&&◌, List, [], ◌∷◌, ◌++◌, refl, ◌∙◌, ap, subst, append_assoc}
use Rattle.std.proofs.lemmas.Bool.{and_right}
use Rattle.gj_base.specs.declared.place.Place.{Place}
use Rattle.go_syntax.specs.Tree as t
use Rattle.go_syntax.specs.Token.{Token}
use Rattle.go_syntax.specs.declared.kind.TokenKind.TheVariants as kind
use Rattle.go_syntax.specs.declared.keyword.Keyword.TheVariants as word
use Rattle.go_syntax.specs.declared.operator.Operator.TheVariants as o
use Rattle.go_grammar.specs.Classes.{IsOp, IsWord, IsName, IsString, begins_type}
use Rattle.go_grammar.specs.Context.{type_wants_dot}
use Rattle.go_grammar.specs.Limits.{has_room, expr_fits, sig_fits, stmts_fit}
use Rattle.go_grammar.specs.Frames.{Ctx, ASig, ABlock, OfExpr, OfType, OfStmt, Done, Stack, Operand, InParens, TypeOperand, AtFunc, AtBody, AType, InBlock}
use Rattle.go_grammar.specs.Grammar.{IsBlock, block_braces, AreStmts, IsBegunType}
use Rattle.go_grammar.specs.Nodes.{is_op}
use Rattle.go_grammar.specs.Parsed.{run}
use Rattle.go_grammar.proofs.Stepping.{ctx, of_kind, run_assoc, first_part, second_part, halts_op, AfterSig}
use Rattle.go_grammar.proofs.Starting.{same_start, type_firm, from_first}
use Rattle.go_grammar.proofs.Readings.{TypeReads, ExprReads, SigReads, halted_expr}
use Rattle.go_grammar.proofs.Begins.{begins_begun, begun_first, begun_operand, begun_dot}
use Rattle.go_grammar.proofs.PartRules.{OperandReads}

-- lists of statements with so many blocks open round them are read, up to the `}` after them
abbrev pub StmtsRead : ℕ → Type 0
StmtsRead b = (at : Place) (ts : List Token) (ss : t.Stmts) → AreStmts at ts ss → stmts_fit b ss ≡ true → (at' : Place) (v : Token) (us : List Token) (s : Stack) → IsOp o.RightBrace v → v.place ≡ at → run (ts ++ v ∷ us) (OfStmt (InBlock b at' []) ∷ s) ≡ run us (Done (ABlock (t.BlockOf at' ss v.place)) ∷ s)

-- what stands in the next block is read, where it may be open
abbrev pub Inside : ℕ → Type 0
Inside b = has_room b ≡ true → StmtsRead (b + 1)

pub int_reads : (b : ℕ) (v : Token) → v.kind ≡ kind.Int → OperandReads b (v ∷ []) (t.IntExpr v.place v.text)
int_reads b v hv d h g fits u us s after = simp hv

pub rune_reads : (b : ℕ) (v : Token) → v.kind ≡ kind.Rune → OperandReads b (v ∷ []) (t.RuneExpr v.place v.text)
rune_reads b v hv d h g fits u us s after = simp hv

pub string_reads : (b : ℕ) (v : Token) → IsString v → OperandReads b (v ∷ []) (t.StrExpr v.place v.text)
string_reads b v hv d h g fits u us s after = simp hv.string

pub name_reads : (b : ℕ) (v : Token) → IsName v → OperandReads b (v ∷ []) (t.NameExpr v.place v.text)
name_reads b v hv d h g fits u us s after = simp hv.name

pub parens_reads : (b : ℕ) (ts : List Token) (e : t.Expr) (v w : Token) → IsOp o.LeftParen v → ExprReads b false ts e → IsOp o.RightParen w → OperandReads b (v ∷ ts ++ w ∷ []) (t.ParenExpr v.place e)
parens_reads b ts e v w hv ih hw d h g fits u us s after =
    let room : has_room d ≡ true = first_part _ _ fits in
    let within : expr_fits b (d + 1) e ≡ true = second_part _ _ fits in
    simp (hv.op, hw.op, room, run_assoc ts (w ∷ []) (u ∷ us), ih (d + 1) false within w (u ∷ us) (OfExpr (InParens (ctx d b h g) v.place) ∷ s) (halted_expr false e (halts_op hw refl)))

pub function_operand_reads : (b : ℕ) (ts : List Token) (sig : t.Sig) (v : Token) → IsWord word.Func v → SigReads b ts sig → OperandReads b (v ∷ ts) (t.FuncType v.place sig)
function_operand_reads b ts sig v hv ih d h g fits u us s after =
    let no_body : is_op o.LeftBrace u ≡ false = after.2 in
    simp (hv.word, ih d h g fits u us (OfExpr (AtFunc (ctx d b h g) v.place) ∷ s) (after.0, after.1), no_body)

-- a signature may be over before a `{`
pub body_after : (sig : t.Sig) (x : Token) → IsOp o.LeftBrace x → AfterSig sig x
body_after sig x hx = (and_right _ _ (ap begins_type hx.op), and_right _ _ (ap (λ k. is_op o.Dot (of_kind k)) hx.op))

pub function_reads : (b : ℕ) (ts us' : List Token) (sig : t.Sig) (bl : t.Block) (v : Token) → Inside b → IsWord word.Func v → SigReads b ts sig → IsBlock us' bl → OperandReads b (v ∷ ts ++ us') (t.FuncExpr v.place sig bl)
function_reads b ts _ sig _ v inside hv ih (block_braces {ts = body} {ss} {u = x} {v = y} hx ds hy) d h g fits u us s after =
    let room : has_room b ≡ true = first_part _ _ (second_part _ _ fits) in
    let fits_sig : sig_fits b d sig ≡ true = first_part _ _ fits in
    let fits_body : stmts_fit (b + 1) ss ≡ true = second_part _ _ (second_part _ _ fits) in
    let c : Ctx = ctx d b h g in
    let rest : List Token = body ++ (y ∷ u ∷ us) in
    let func : run (v ∷ ts ++ (x ∷ rest)) (OfExpr (Operand c) ∷ s) ≡ run (x ∷ rest) (Done (ASig sig) ∷ OfExpr (AtFunc c v.place) ∷ s) = simp (hv.word, ih d h g fits_sig x rest (OfExpr (AtFunc c v.place) ∷ s) (body_after sig x hx)) in
    let opened : run (x ∷ rest) (Done (ASig sig) ∷ OfExpr (AtFunc c v.place) ∷ s) ≡ run rest (OfStmt (InBlock (b + 1) x.place []) ∷ OfExpr (AtBody c v.place sig) ∷ s) = simp (hx.op, room) in
    run_assoc (v ∷ ts) (x ∷ body ++ y ∷ []) (u ∷ us) (OfExpr (Operand c) ∷ s)
    ∙ (ap (λ ys. run (v ∷ (ts ++ (x ∷ ys))) (OfExpr (Operand c) ∷ s)) (append_assoc body (y ∷ []) (u ∷ us))
    ∙ (func
    ∙ (opened
    ∙ inside room y.place body ss ds fits_body x.place y (u ∷ us) (OfExpr (AtBody c v.place sig) ∷ s) hy refl)))

pub type_operand_reads : (b : ℕ) (ts : List Token) (e : t.Expr) → IsBegunType ts e → TypeReads b ts e → OperandReads b ts e
type_operand_reads b ts e x ih d h g fits u us s after =
    let c : Ctx = ctx d b h g in
    let dot : (type_wants_dot e && is_op o.Dot u) ≡ false = subst (λ y. (y && is_op o.Dot u) ≡ false) (begun_dot x) after.1 in
    from_first begins_begun ts (OfExpr (Operand c) ∷ s) (OfType (AType c) ∷ OfExpr (TypeOperand c) ∷ s) (begun_first x) (λ w ws k. same_start w ws (OfExpr (Operand c)) (OfType (AType c)) s (OfExpr (TypeOperand c) ∷ s) (begun_operand w.kind w c s k) (type_firm w c (OfExpr (TypeOperand c) ∷ s))) (u ∷ us)
    ∙ ih d h g fits u us (OfExpr (TypeOperand c) ∷ s) (after.0, dot)

-- Limits: the steps of declarations and files keep the invariant.
use Rattle.std.proofs.Common.{◌≡◌, ◌&&◌, ◌||◌, not, Bool, true, false, ℕ, List, [], ◌∷◌, ◌++◌, Option, Some, None, refl, sym, ◌∙◌, subst, if◌then◌else◌}
use Rattle.gj_base.specs.declared.place.Place.{Place}
use Rattle.go_syntax.specs.Tree as t
use Rattle.go_syntax.specs.Token.{Token}
use Rattle.go_syntax.specs.View.{joined, exprs_of}
use Rattle.go_syntax.specs.declared.kind.TokenKind.{TokenKind}
use Rattle.go_syntax.specs.declared.kind.TokenKind.TheVariants as kind
use Rattle.go_syntax.specs.declared.keyword.Keyword.{Keyword}
use Rattle.go_syntax.specs.declared.keyword.Keyword.TheVariants as word
use Rattle.go_syntax.specs.declared.operator.Operator.TheVariants as o
use Rattle.go_syntax.specs.declared.tree.Name.{Name}
use Rattle.go_grammar.specs.Limits.{expr_fits, maybe_fits, exprs_fit, sig_fits, block_fits, decl_fits, values_fit, types_fit}
use Rattle.go_grammar.specs.Frames as f
use Rattle.go_grammar.specs.Frames.{Ctx, new_ctx, header_ctx, inside, deeper, Base, Braces, Elems, StructPart, InterfacePart, Embedded, Params, Role, ParamsPart, Mode, Listed, Headed, InFor, InSwitch, InTag, Spot, IfPart, ForPart, Subject, SwitchPart, SelectPart, ValuesPart, TypesPart, FilePart, ExprFrame, PartFrame, TypeFrame, FieldFrame, SigFrame, StmtFrame, ControlFrame, SwitchFrame, DeclFrame, FileFrame, Frame, OfExpr, OfPart, OfType, OfField, OfSig, OfStmt, OfControl, OfSwitch, OfDecl, OfFile, Done, Stack, Flow, Goes, Over, Stuck, Deep, Long, Value, AnExpr, AChain, AGuard, ARanging, ASig, ABlock, AStmt, ADecl}
use Rattle.go_grammar.specs.Nodes.{is_op, is_word, is_name_token, is_string, is_semicolon}
use Rattle.go_grammar.proofs.FitHeld as k
use Rattle.go_grammar.proofs.FitHeld.{TailFits, GuardFits, Bound, LNone, LFile, LUnary, LExpr, LType, LSig, LBlock, LStmt, LElse, LDecl, Fit, KExpr, l_expr, BaseFits, ElemsFit, BracesFit, KPart, l_part, KType, l_type, FieldsFit, MembersFit, StructFits, InterfaceFits, KField, l_field, ParamsFit, RoleFits, KSig, l_sig, SpotFits, KStmt, l_stmt, IfBound, KControl, l_control, SubjectFits, ClausesFit, CommsFit, SwitchFits, SelectFits, KSwitch, l_switch, ValuesFit, TypesFit, KDecl, l_decl, ReceiverFits, KFile, l_file}
use Rattle.go_grammar.proofs.FitStack.{Goal, done, stuck, Begun, b_stuck, as_goal, one, two, above, an_expr, g_if, b_if, g_op, both}
use Rattle.std.specs.List.{list_all}
use Rattle.std.proofs.lemmas.List.Folds.{list_all-append}
use Rattle.go_grammar.specs.Classes.{name_of, begins_type}
use Rattle.go_grammar.specs.StmtSteps.{value_decl, end_value, type_decl, end_type, first_value, first_type, decl_row, decl_meets_expr, with_import, import_spec, has_none, top_word, top, named_func, file_row, file_meets_sig, file_meets_block, file_meets_decl}
use Rattle.go_grammar.proofs.SigSound.{joined_more}
use Rattle.go_grammar.proofs.FitTypes.{type_begun, list_begun}
use Rattle.go_grammar.proofs.FitExprs.{block_begun, exprs_and}
use Rattle.go_grammar.proofs.FitStmts.{decl_begun}

-- declarations
value_done : (b : ℕ) (c : Bool) (at : Place) (xs : t.ValueSpecs) → values_fit b 0 xs ≡ true → decl_fits b (if c then t.ConstDecl at xs else t.VarDecl at xs) ≡ true
value_done b true at xs p = p
value_done b false at xs p = p

value_fits : (x : ValuesPart) → ValuesFit x.blocks x.specs → decl_fits x.blocks (value_decl x) ≡ true
value_fits x i = value_done x.blocks x.constant x.place (joined x.specs t.NoValues) (i.fit t.NoValues refl)

end_value_fits : (x : ValuesPart) (u : Token) (ys : List Name) (ty : t.MaybeExpr) (es : List t.Expr) (s : Stack) → ValuesFit x.blocks x.specs → maybe_fits x.blocks 0 ty ≡ true → exprs_fit x.blocks 0 (exprs_of es) ≡ true → Goal (LDecl x.blocks) s (end_value u x ys ty es s)
end_value_fits x u ys ty es s i p q =
    let node : t.ValueSpecs → t.ValueSpecs = λ rest. t.MoreValues ys ty (exprs_of es) rest in
    let y : ValuesPart = record x { specs = x.specs ++ node ∷ [] } in
    let j : ValuesFit x.blocks (x.specs ++ node ∷ []) = record { fit = λ r h. subst (λ z. values_fit x.blocks 0 z ≡ true) (sym (joined_more x.specs node r)) (i.fit (node r) (both (both p q) h)) } in
    g_if (not x.group) (λ z. done (value_fits y j)) (λ z. g_if (is_semicolon u.kind) (λ z. as_goal (one (OfDecl (f.ValueGroup y)) (k.value_group j))) (λ z. g_op u o.RightParen (as_goal (one (Done (ADecl (value_decl y))) (value_fits y j))) stuck))

end_type_fits : (x : TypesPart) (u : Token) (y : Name) (alias : Bool) (e : t.Expr) (s : Stack) → TypesFit x.blocks x.specs → expr_fits x.blocks 0 e ≡ true → Goal (LDecl x.blocks) s (end_type u x y alias e s)
end_type_fits x u y alias e s i p =
    let node : t.TypeSpecs → t.TypeSpecs = λ rest. t.MoreTypes y alias e rest in
    let v : TypesPart = record x { specs = x.specs ++ node ∷ [] } in
    let j : TypesFit x.blocks (x.specs ++ node ∷ []) = record { fit = λ r h. subst (λ z. types_fit x.blocks 0 z ≡ true) (sym (joined_more x.specs node r)) (i.fit (node r) (both p h)) } in
    g_if (not x.group) (λ z. done (j.fit t.NoTypes refl)) (λ z. g_if (is_semicolon u.kind) (λ z. as_goal (one (OfDecl (f.TypeGroup v)) (k.type_group j))) (λ z. g_op u o.RightParen (as_goal (one (Done (ADecl (type_decl v))) (j.fit t.NoTypes refl))) stuck))

first_value_begun : (x : ValuesPart) (u : Token) (s : Stack) → ValuesFit x.blocks x.specs → Begun (LDecl x.blocks) s (first_value u x s)
first_value_begun x u s i = b_if (is_name_token u.kind) (λ q. one (OfDecl (f.ValueNames x (name_of u ∷ []))) (k.value_names i)) (λ q. b_stuck)

first_type_begun : (x : TypesPart) (u : Token) (s : Stack) → TypesFit x.blocks x.specs → Begun (LDecl x.blocks) s (first_type u x s)
first_type_begun x u s i = b_if (is_name_token u.kind) (λ q. one (OfDecl (f.DeclaredName x (name_of u))) (k.declared_name i)) (λ q. b_stuck)

pub decl_row_fits : {x : DeclFrame} {w : Bound} (u : Token) (s : Stack) → KDecl x w → Goal w s (decl_row u x s)
decl_row_fits u s (k.at_values {x} i) = g_op u o.LeftParen (as_goal (one (OfDecl (f.ValueGroup (record x { group = true }))) (k.value_group i))) (as_goal (first_value_begun x u s i))
decl_row_fits u s (k.value_group {x} i) = g_op u o.RightParen (as_goal (one (Done (ADecl (value_decl x))) (value_fits x i))) (as_goal (first_value_begun x u s i))
decl_row_fits u s (k.next_value {x} {ys} i) = g_if (is_name_token u.kind) (λ q. as_goal (one (OfDecl (f.ValueNames x (ys ++ name_of u ∷ []))) (k.value_names i))) (λ q. stuck)
decl_row_fits u s (k.value_names {x} {ys} i) =
    g_op u o.Comma (as_goal (one (OfDecl (f.NextValue x ys)) (k.next_value i)))
    (g_op u o.Assign (as_goal (an_expr (OfDecl (f.ValueExprs x ys t.NoExpr [])) (new_ctx x.blocks) (k.value_exprs i refl refl) refl))
    (g_if (begins_type u.kind) (λ q. as_goal (above (OfDecl (f.ValueType x ys)) (k.value_type i) (type_begun u (new_ctx x.blocks) (OfDecl (f.ValueType x ys) ∷ s)))) (λ q.
    g_if x.constant (λ z. end_value_fits x u ys t.NoExpr [] s i refl refl) (λ z. stuck))))
decl_row_fits u s (k.at_types {x} i) = g_op u o.LeftParen (as_goal (one (OfDecl (f.TypeGroup (record x { group = true }))) (k.type_group i))) (as_goal (first_type_begun x u s i))
decl_row_fits u s (k.type_group {x} i) = g_op u o.RightParen (as_goal (one (Done (ADecl (type_decl x))) (i.fit t.NoTypes refl))) (as_goal (first_type_begun x u s i))
decl_row_fits u s (k.declared_name {x} {y} i) =
    g_op u o.Assign (as_goal (two (OfDecl (f.DeclaredType x y true)) (OfType (f.AType (new_ctx x.blocks))) (k.declared_type i) k.a_type)) (as_goal (above (OfDecl (f.DeclaredType x y false)) (k.declared_type i) (type_begun u (new_ctx x.blocks) (OfDecl (f.DeclaredType x y false) ∷ s))))
decl_row_fits u s _ = stuck

pub decl_expr_fits : {x : DeclFrame} {w : Bound} (u : Token) (e : t.Expr) (s : Stack) → KDecl x w → Fit (l_decl x) (AnExpr e) → Goal w s (decl_meets_expr u x e s)
decl_expr_fits u e s (k.value_type {x} {ys} i) j =
    g_op u o.Assign (as_goal (an_expr (OfDecl (f.ValueExprs x ys (t.AnExpr e) [])) (new_ctx x.blocks) (k.value_exprs i (j.0) refl) refl)) (g_if x.constant (λ z. stuck) (λ z. end_value_fits x u ys (t.AnExpr e) [] s i (j.0) refl))
decl_expr_fits u e s (k.value_exprs {x} {ys} {ty} {es} i p q) j =
    let z = exprs_and x.blocks 0 e es q j in
    g_op u o.Comma (as_goal (an_expr (OfDecl (f.ValueExprs x ys ty (es ++ e ∷ []))) (new_ctx x.blocks) (k.value_exprs i p z) refl)) (end_value_fits x u ys ty (es ++ e ∷ []) s i p z)
decl_expr_fits u e s (k.declared_type {x} {y} {alias} i) j = end_type_fits x u y alias e s i (j.0)
decl_expr_fits u e s _ j = stuck

-- files
spec_begun : (x : FilePart) (u : Token) (grouped : Bool) (s : Stack) → list_all (decl_fits 0) x.decls ≡ true → Begun LFile s (import_spec u x grouped s)
spec_begun x u grouped s p =
    b_if (is_string u.kind) (λ q. one (OfFile (f.ImportEnd (with_import x (record { place = u.place; name = None; path = u.text; path_place = u.place })) grouped)) (k.import_end p))
    (λ q. b_if (is_name_token u.kind || is_op o.Dot u) (λ z. one (OfFile (f.ImportName x grouped (name_of u))) (k.import_name p)) (λ z. b_stuck))

top_word_begun : (u : Token) (w : Keyword) (x : FilePart) (s : Stack) → list_all (decl_fits 0) x.decls ≡ true → Begun LFile s (top_word u w x s)
top_word_begun u word.Import x s p = b_if (has_none x.decls) (λ q. one (OfFile (f.AtImport x)) (k.at_import p)) (λ q. b_stuck)
top_word_begun u word.Const x s p = above (OfFile (f.Top x)) (k.top p) (decl_begun u 0 (OfFile (f.Top x) ∷ s))
top_word_begun u word.Type x s p = above (OfFile (f.Top x)) (k.top p) (decl_begun u 0 (OfFile (f.Top x) ∷ s))
top_word_begun u word.Var x s p = above (OfFile (f.Top x)) (k.top p) (decl_begun u 0 (OfFile (f.Top x) ∷ s))
top_word_begun u word.Func x s p = two (OfFile (f.Top x)) (OfFile (f.TopFunc u.place)) (k.top p) k.top_func
top_word_begun u _ x s p = b_stuck

top_begun : (j : TokenKind) (u : Token) (x : FilePart) (s : Stack) → list_all (decl_fits 0) x.decls ≡ true → Begun LFile s (top j u x s)
top_begun kind.End u x s p = one (OfFile (f.Whole (record { «package» = x.package; imports = x.imports; decls = x.decls }))) (k.whole p)
top_begun (kind.Word w) u x s p = top_word_begun u w x s p
top_begun _ u x s p = b_stuck

name_begun : (u : Token) (at : Place) (x : Option (Place × Params)) (s : Stack) → ReceiverFits x → Begun (LDecl 0) s (named_func u at x s)
name_begun u at x s i = b_if (is_name_token u.kind) (λ q. two (OfFile (f.FuncSig at x (name_of u))) (OfSig (f.SigOpen (new_ctx 0))) (k.func_sig i) k.sig_open) (λ q. b_stuck)

end_begun : (x : FilePart) (b : Bool) (s : Stack) → list_all (decl_fits 0) x.decls ≡ true → Begun LFile s (Goes (OfFile (if b then f.ImportGroup x else f.Top x) ∷ s))
end_begun x true s p = one (OfFile (f.ImportGroup x)) (k.import_group p)
end_begun x false s p = one (OfFile (f.Top x)) (k.top p)

pub file_row_fits : {x : FileFrame} {w : Bound} (u : Token) (s : Stack) → KFile x w → Goal w s (file_row u x s)
file_row_fits u s k.start = g_if (is_word word.Package u) (λ q. as_goal (one (OfFile f.AtPackage) k.at_package)) (λ q. stuck)
file_row_fits u s k.at_package = g_if (is_name_token u.kind) (λ q. as_goal (one (OfFile (f.PackageEnd (name_of u))) k.package_end)) (λ q. stuck)
file_row_fits u s (k.package_end {y}) = g_if (is_semicolon u.kind) (λ q. as_goal (one (OfFile (f.Top (record { «package» = y; imports = []; decls = [] }))) (k.top refl))) (λ q. stuck)
file_row_fits u s (k.top {x} p) = as_goal (top_begun u.kind u x s p)
file_row_fits u s (k.at_import {x} p) = g_op u o.LeftParen (as_goal (one (OfFile (f.ImportGroup x)) (k.import_group p))) (as_goal (spec_begun x u false s p))
file_row_fits u s (k.import_group {x} p) = g_op u o.RightParen (as_goal (one (OfFile (f.ImportEnd x false)) (k.import_end p))) (as_goal (spec_begun x u true s p))
file_row_fits u s (k.import_name {x} {grouped} {y} p) = g_if (is_string u.kind) (λ q. as_goal (one (OfFile (f.ImportEnd (with_import x (record { place = y.place; name = Some y; path = u.text; path_place = u.place })) grouped)) (k.import_end p))) (λ q. stuck)
file_row_fits u s (k.import_end {x} {grouped} p) =
    g_if (is_semicolon u.kind) (λ q. as_goal (end_begun x grouped s p)) (λ q. g_if (grouped && is_op o.RightParen u) (λ z. as_goal (one (OfFile (f.ImportEnd x false)) (k.import_end p))) (λ z. stuck))
file_row_fits u s (k.top_func {at}) = g_op u o.LeftParen (as_goal (list_begun u (new_ctx 0) s k.receiver_role)) (as_goal (name_begun u at None s k.no_receiver))
file_row_fits u s (k.func_name {at} {at'} {xs} i) = as_goal (name_begun u at (Some (at', xs)) s (k.receiver i))
file_row_fits u s _ = stuck

pub file_sig_fits : {x : FileFrame} {w : Bound} (u : Token) (sig : t.Sig) (s : Stack) → KFile x w → Fit (l_file x) (ASig sig) → Goal w s (file_meets_sig u x sig s)
file_sig_fits u sig s (k.func_sig {at} {x} {y} i) j = as_goal (above (OfFile (f.TopBody at x y sig)) (k.top_body i j) (block_begun u 0 (OfFile (f.TopBody at x y sig) ∷ s)))
file_sig_fits u sig s _ j = stuck

body_fits : (at : Place) (x : Option (Place × Params)) (y : Name) (sig : t.Sig) (b : t.Block) (s : Stack) → ReceiverFits x → sig_fits 0 0 sig ≡ true → block_fits 0 b ≡ true → Goal (LDecl 0) s (file_meets_block (f.TopBody at x y sig) b s)
body_fits at None y sig b s i p q = done (both p q)
body_fits at (Some r) y sig b s (k.receiver {at = at'} {xs} m) p q = done (both (both (m.fit t.NoParams refl) p) q)

pub file_block_fits : {x : FileFrame} {w : Bound} (b : t.Block) (s : Stack) → KFile x w → Fit (l_file x) (ABlock b) → Goal w s (file_meets_block x b s)
file_block_fits b s (k.top_body {at} {x} {y} {sig} i p) j = body_fits at x y sig b s i p j
file_block_fits b s _ j = stuck

pub file_decl_fits : {x : FileFrame} {w : Bound} (u : Token) (d : t.Decl) (s : Stack) → KFile x w → Fit (l_file x) (ADecl d) → Goal w s (file_meets_decl u x d s)
file_decl_fits u d s (k.top {x} p) j =
    g_if (is_semicolon u.kind) (λ q. as_goal (one (OfFile (f.Top (record x { decls = x.decls ++ d ∷ [] }))) (k.top (list_all-append (decl_fits 0) x.decls (d ∷ []) ∙ both p (both j refl))))) (λ q. stuck)
file_decl_fits u d s _ j = stuck

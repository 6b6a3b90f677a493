-- Statements and their lists are read, at every depth.
use Rattle.std.proofs.Common.{◌≡◌, ◌+◌, ◌≤◌, ℕ, suc, zero, true, false, List, refl, ap, arith}
use Rattle.std.proofs.lemmas.Bool.Decides.{nat_tests}
use Rattle.gj_base.specs.declared.place.Place.{Place}
use Rattle.go_syntax.specs.Tree as t
use Rattle.go_syntax.specs.Token.{Token}
use Rattle.go_syntax.specs.declared.kind.TokenKind.{TokenKind}
use Rattle.go_syntax.specs.declared.kind.TokenKind.TheVariants as kind
use Rattle.go_syntax.specs.declared.keyword.Keyword.TheVariants as word
use Rattle.go_syntax.specs.declared.operator.Operator.TheVariants as o
use Rattle.go_grammar.specs.Limits.{has_room}
use Rattle.go_grammar.specs.Grammar.{IsBlock, block_braces, AreStmts, no_stmts, last_stmt, missing_stmt, more_stmts, IsStmt, declaration, simple, label, label_of_none, block, go_expr, defer_expr, return_none, return_exprs, break_stmt, continue_stmt, fallthrough_stmt, if_stmt, for_stmt, switch_stmt, select_stmt, IsIf, without_else, with_else, IsFor, for_condition, for_clauses, for_range, for_range_assign, for_range_define, IsSwitch, expr_switch, type_switch, IsDecl, const_decl, const_group, type_decl, type_group, var_decl, var_group}
use Rattle.go_grammar.specs.Nodes.{begins_expr}
use Rattle.go_grammar.proofs.Starting.{first_is}
use Rattle.go_grammar.proofs.Begins.{first_wider}
use Rattle.go_grammar.proofs.ListRules as list
use Rattle.go_grammar.proofs.Exprs.{exprs_read, exprs_first}
use Rattle.go_grammar.proofs.Simples.{one_reads, simple_reads, simple_first, simple_labels}
use Rattle.go_grammar.proofs.StmtRules as rule
use Rattle.go_grammar.proofs.StmtRules.{StmtReads, ListReads, Lists, Below, inside_of, begins_stmt_kind}
use Rattle.go_grammar.proofs.ControlRules.{if_stmt_reads}
use Rattle.go_grammar.proofs.ForRules.{for_stmt_reads}
use Rattle.go_grammar.proofs.SwitchHeads.{switch_stmt_reads}
use Rattle.go_grammar.proofs.SelectRules.{select_stmt_reads}
use Rattle.go_grammar.proofs.DeclRules.{decl_reads, decl_place}

expr_stmt_kind : (k : TokenKind) → begins_expr k ≡ true → begins_stmt_kind k ≡ true
expr_stmt_kind kind.Name h = refl
expr_stmt_kind kind.Int h = refl
expr_stmt_kind kind.Rune h = refl
expr_stmt_kind kind.Str h = refl
expr_stmt_kind (kind.Op o.LeftParen) h = refl
expr_stmt_kind (kind.Op o.LeftBracket) h = refl
expr_stmt_kind (kind.Op o.Mul) h = refl
expr_stmt_kind (kind.Op o.Arrow) h = refl
expr_stmt_kind (kind.Op o.Add) h = refl
expr_stmt_kind (kind.Op o.Sub) h = refl
expr_stmt_kind (kind.Op o.Not) h = refl
expr_stmt_kind (kind.Op o.Xor) h = refl
expr_stmt_kind (kind.Op o.And) h = refl
expr_stmt_kind (kind.Word word.Chan) h = refl
expr_stmt_kind (kind.Word word.Func) h = refl
expr_stmt_kind (kind.Word word.Interface) h = refl
expr_stmt_kind (kind.Word word.Map) h = refl
expr_stmt_kind (kind.Word word.Struct) h = refl
expr_stmt_kind _ h = cc

decl_first : {ts : List Token} {x : t.Decl} → IsDecl ts x → first_is begins_stmt_kind ts ≡ true
decl_first (const_decl h d) = ap begins_stmt_kind h.word
decl_first (const_group h k d l) = ap begins_stmt_kind h.word
decl_first (type_decl h d) = ap begins_stmt_kind h.word
decl_first (type_group h k d l) = ap begins_stmt_kind h.word
decl_first (var_decl h d) = ap begins_stmt_kind h.word
decl_first (var_group h k d l) = ap begins_stmt_kind h.word

block_first : {ts : List Token} {x : t.Block} → IsBlock ts x → first_is begins_stmt_kind ts ≡ true
block_first (block_braces h d k) = ap begins_stmt_kind h.op

if_first : {ts : List Token} {x : t.Stmt} → IsIf ts x → first_is begins_stmt_kind ts ≡ true
if_first (without_else h a c d) = ap begins_stmt_kind h.word
if_first (with_else h a c d k e) = ap begins_stmt_kind h.word

for_first : {ts : List Token} {x : t.Stmt} → IsFor ts x → first_is begins_stmt_kind ts ≡ true
for_first (for_condition h a c) = ap begins_stmt_kind h.word
for_first (for_clauses h a c d e f g) = ap begins_stmt_kind h.word
for_first (for_range h a c d) = ap begins_stmt_kind h.word
for_first (for_range_assign h a c d e f) = ap begins_stmt_kind h.word
for_first (for_range_define h a c d e f) = ap begins_stmt_kind h.word

switch_first : {ts : List Token} {x : t.Stmt} → IsSwitch ts x → first_is begins_stmt_kind ts ≡ true
switch_first (expr_switch h a c d e f) = ap begins_stmt_kind h.word
switch_first (type_switch h a c d e f) = ap begins_stmt_kind h.word

stmt_first : {at : Place} {ts : List Token} {x : t.Stmt} → IsStmt at ts x → first_is begins_stmt_kind ts ≡ true
stmt_first (declaration d) = decl_first d
stmt_first (simple {ts} d) = first_wider begins_expr begins_stmt_kind expr_stmt_kind ts (simple_first d)
stmt_first (label h k d) = ap begins_stmt_kind h.name
stmt_first (label_of_none h k) = ap begins_stmt_kind h.name
stmt_first (block d) = block_first d
stmt_first (go_expr h d) = ap begins_stmt_kind h.word
stmt_first (defer_expr h d) = ap begins_stmt_kind h.word
stmt_first (return_none h) = ap begins_stmt_kind h.word
stmt_first (return_exprs h d) = ap begins_stmt_kind h.word
stmt_first (break_stmt h d) = ap begins_stmt_kind h.word
stmt_first (continue_stmt h d) = ap begins_stmt_kind h.word
stmt_first (fallthrough_stmt h) = ap begins_stmt_kind h.word
stmt_first (if_stmt d) = if_first d
stmt_first (for_stmt d) = for_first d
stmt_first (switch_stmt d) = switch_first d
stmt_first (select_stmt h k d l) = ap begins_stmt_kind h.word

stmt_reads : (b : ℕ) → Below b → {at : Place} {ts : List Token} {x : t.Stmt} → IsStmt at ts x → StmtReads b at ts x
stmt_reads b below (declaration {at} {ts} {d = x} d) = rule.declaration_reads b at ts x (decl_place d) (decl_reads b (inside_of b below) d)
stmt_reads b below (simple {at} {ts} {s = x} d) = rule.simple_stmt_reads b at ts x (simple_first d) (simple_labels d) (simple_reads b (inside_of b below) d)
stmt_reads b below (label {at} {ts} {s = x} {u} {v} hu hv d) = rule.label_reads b at ts x u v hu hv (stmt_reads b below d)
stmt_reads b below (label_of_none {at} {u} {v} hu hv) = rule.label_of_none_reads b at u v hu hv
stmt_reads b below (block {at} {ts} {b = bl} d) = rule.block_stmt_reads b at ts bl (inside_of b below) d
stmt_reads b below (go_expr {at} {ts} {e} {u} h d) = rule.go_reads b at ts e u h (one_reads b (inside_of b below) false ts e d)
stmt_reads b below (defer_expr {at} {ts} {e} {u} h d) = rule.defer_reads b at ts e u h (one_reads b (inside_of b below) false ts e d)
stmt_reads b below (return_none {at} {u} h) = rule.return_none_reads b at u h
stmt_reads b below (return_exprs {at} {ts} {es} {u} h d) = rule.return_reads b at ts es u h (exprs_first d) (list.exprs_whole d) (exprs_read b (inside_of b below) d)
stmt_reads b below (break_stmt {at} {ts} {x} {u} h d) = rule.break_reads b at ts x u h d
stmt_reads b below (continue_stmt {at} {ts} {x} {u} h d) = rule.continue_reads b at ts x u h d
stmt_reads b below (fallthrough_stmt {at} {u} h) = rule.fallthrough_reads b at u h
stmt_reads b below (if_stmt {at} d) = if_stmt_reads b (inside_of b below) at d
stmt_reads b below (for_stmt {at} d) = for_stmt_reads b (inside_of b below) at d
stmt_reads b below (switch_stmt {at} d) = switch_stmt_reads b below at d
stmt_reads b below (select_stmt {at} {ts} {cs} {u} {v} {w} hu hv d hw) = select_stmt_reads b below at ts cs u v w hu hv d hw

list_reads : (b : ℕ) → Below b → {at : Place} {ts : List Token} {xs : t.Stmts} → AreStmts at ts xs → ListReads b at ts xs
list_reads b below (no_stmts {at}) = rule.no_stmts_read b at
list_reads b below (last_stmt {at} {ts} {s = x} d) = rule.last_stmt_reads b at ts x (stmt_first d) (stmt_reads b below d)
list_reads b below (missing_stmt {at} {ts} {ss} {u} h d) = rule.missing_stmt_reads b at ts ss u h (list_reads b below d)
list_reads b below (more_stmts {at} {ts} {us} {s = x} {ss} {u} d h ds) = rule.more_stmts_read b at ts us x ss u (stmt_first d) (stmt_reads b below d) h (list_reads b below ds)

no_room : (b c : ℕ) → 100 ≤ b + 0 → b ≤ c → has_room c ≡ true → ⊥
no_room b c h le room = grind (arith, nat_tests)

-- as deep as blocks may be
lists_at : (n b : ℕ) → 100 ≤ b + n → Lists b
lists_at zero b h at ts xs d = list_reads b (λ c le room. absurd (no_room b c h le room)) d
lists_at (suc n) b h at ts xs d = list_reads b (λ c le room. lists_at n (c + 1) (omega arith)) d

pub all_below : (b : ℕ) → Below b
all_below b c le room = lists_at 100 (c + 1) (omega arith)

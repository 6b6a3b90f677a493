-- Constants and their specifications, one by one.
use Rattle.std.proofs.Common.{◌≡◌, ◌<◌, ◌≤◌, ◌+◌, ◌∙◌, ℕ, refl, ap, subst, List, [], ◌∷◌, length, drop, get_or}
use Rattle.go_syntax.specs.declared.tree.Name.{Name}
use Rattle.go_type.specs.Table.{places}
use Rattle.go_type.specs.Table as tables
use Rattle.go_type.specs.declared.table.TypeTable.{TypeTable}
use Rattle.go_core.specs.declared.statement.CoreStmt.{CoreStmt}
use Rattle.go_operands.specs.EnvView.{table_of}
use Rattle.go_calls.specs.Words.{types_of, names_of}
use Rattle.go_operands.specs.declared.answers.answer.Flaw.{Flaw}
use Rattle.go_typing.specs.Walk as go
use Rattle.go_typing.specs.Walk.{Did, did}
use Rattle.go_typing.specs.Declare.{const_unknown}
use Rattle.go_walk.specs.declared.walk.walk.Walk.{Walk}
use Rattle.go_expr.specs.declared.typed.raw.Raw as code
use Rattle.go_expr.specs.declared.typed.raw.Raws.{Raws}
use Rattle.go_expr.specs.Raw.{Raw, raw_view, raws_view}
use Rattle.go_assign.specs.Outcome.{Does}
use Rattle.go_assign.specs.declared.constants.types.SpecType as kinds
use Rattle.go_assign.specs.SpecView.{spec_view, constant_raw}
use Rattle.go_body.specs.LocalVarsLeft.{DoesLeft}
use Rattle.go_body.proofs.LeftLemmas.{next_at, past, left_step, left_as, left_end}
use Rattle.go_body.specs.LocalConstsSpecs.{one_constant, unknown_constant, const_raws}

-- ---- names with values

abbrev all_raws : TypeTable → kinds.SpecType → List Name → List Raw → go.Walk → Did
all_raws t s names rs = const_raws (tables.names t) (spec_view (places t) s) names rs

abbrev DoesAt : kinds.SpecType → Name → code.Raw → Walk → Walk → List Flaw → List Flaw → List CoreStmt → TypeTable → Type 0
DoesAt s n r b c f1 f2 out t = Does (one_constant n (constant_raw (tables.names t) (spec_view (places t) s) (raw_view (places t) r))) b c f1 f2 out out

pub each_step : (s : kinds.SpecType) (names : List Name) (i : ℕ) (n : Name) (r : code.Raw) (rs0 rs1 rs2 : Raws) (a b c : Walk) (f0 f1 f2 : List Flaw) (out : List CoreStmt) → table_of b.env ≡ table_of a.env → i < length names → n ≡ get_or names i n
    → raws_view (types_of b.env) rs1 ≡ raw_view (types_of b.env) r ∷ raws_view (types_of b.env) rs2
    → DoesLeft (const_raws (names_of a.env) (spec_view (types_of a.env) s) names (raws_view (types_of a.env) rs0)) (const_raws (names_of a.env) (spec_view (types_of a.env) s) (drop i names) (raws_view (types_of a.env) rs1)) a b f0 f1 out out
    → Does (one_constant n (constant_raw (names_of b.env) (spec_view (types_of b.env) s) (raw_view (types_of b.env) r))) b c f1 f2 out out
    → DoesLeft (const_raws (names_of a.env) (spec_view (types_of a.env) s) names (raws_view (types_of a.env) rs0)) (const_raws (names_of a.env) (spec_view (types_of a.env) s) (drop (i + 1) names) (raws_view (types_of a.env) rs2)) a c f0 f2 out out
each_step s names i n r rs0 rs1 rs2 a b c f0 f1 f2 out e l q v h k =
    let ta = table_of a.env in
    let all = all_raws ta s names (raws_view (places ta) rs0) in
    let there : raws_view (places ta) rs1 ≡ raw_view (places ta) r ∷ raws_view (places ta) rs2 = subst (λ (x : TypeTable). raws_view (places x) rs1 ≡ raw_view (places x) r ∷ raws_view (places x) rs2) e v in
    let rest = raws_view (places ta) rs2 in
    let split : all_raws ta s (drop i names) (raws_view (places ta) rs1) ≡ all_raws ta s (n ∷ drop (i + 1) names) (raw_view (places ta) r ∷ rest) =
    ap (λ (xs : List Name). all_raws ta s xs (raws_view (places ta) rs1)) (next_at names i n l q) ∙ ap (λ (xs : List Raw). all_raws ta s (n ∷ drop (i + 1) names) xs) there in
    left_step all (one_constant n (constant_raw (tables.names ta) (spec_view (places ta) s) (raw_view (places ta) r))) (all_raws ta s (drop (i + 1) names) rest) a b c f0 f1 f2 out out out
    (left_as all (all_raws ta s (drop i names) (raws_view (places ta) rs1)) (all_raws ta s (n ∷ drop (i + 1) names) (raw_view (places ta) r ∷ rest)) a b f0 f1 out out split h)
    (subst (DoesAt s n r b c f1 f2 out) e k)

pub each_end : (s : kinds.SpecType) (names : List Name) (i : ℕ) (rs0 rs1 : Raws) (a b : Walk) (f0 f1 : List Flaw) (out : List CoreStmt) → length names ≤ i
    → DoesLeft (const_raws (names_of a.env) (spec_view (types_of a.env) s) names (raws_view (types_of a.env) rs0)) (const_raws (names_of a.env) (spec_view (types_of a.env) s) (drop i names) (raws_view (types_of a.env) rs1)) a b f0 f1 out out
    → Does (const_raws (names_of a.env) (spec_view (types_of a.env) s) names (raws_view (types_of a.env) rs0)) a b f0 f1 out out
each_end s names i rs0 rs1 a b f0 f1 out l h =
    let ta = table_of a.env in
    let all = all_raws ta s names (raws_view (places ta) rs0) in
    left_end all a b f0 f1 out out (left_as all (all_raws ta s (drop i names) (raws_view (places ta) rs1)) (did []) a b f0 f1 out out (ap (λ (xs : List Name). all_raws ta s xs (raws_view (places ta) rs1)) (past names i l)) h)

no_raws : (t : TypeTable) (s : kinds.SpecType) (names : List Name) → all_raws t s names [] ≡ did []
no_raws t s [] = refl
no_raws t s (n ∷ names) = refl

pub each_stop : (s : kinds.SpecType) (names left : List Name) (rs0 rs1 : Raws) (a b : Walk) (f0 f1 : List Flaw) (out : List CoreStmt) → table_of b.env ≡ table_of a.env → raws_view (types_of b.env) rs1 ≡ []
    → DoesLeft (const_raws (names_of a.env) (spec_view (types_of a.env) s) names (raws_view (types_of a.env) rs0)) (const_raws (names_of a.env) (spec_view (types_of a.env) s) left (raws_view (types_of a.env) rs1)) a b f0 f1 out out
    → Does (const_raws (names_of a.env) (spec_view (types_of a.env) s) names (raws_view (types_of a.env) rs0)) a b f0 f1 out out
each_stop s names left rs0 rs1 a b f0 f1 out e v h =
    let ta = table_of a.env in
    let all = all_raws ta s names (raws_view (places ta) rs0) in
    let none : raws_view (places ta) rs1 ≡ [] = subst (λ (x : TypeTable). raws_view (places x) rs1 ≡ []) e v in
    left_end all a b f0 f1 out out (left_as all (all_raws ta s left (raws_view (places ta) rs1)) (did []) a b f0 f1 out out (ap (all_raws ta s left) none ∙ no_raws ta s left) h)

-- ---- names without values

pub unknown_step : (names : List Name) (i : ℕ) (n : Name) (a b c : Walk) (f0 f1 f2 : List Flaw) (out : List CoreStmt) → i < length names → n ≡ get_or names i n → DoesLeft (const_unknown names) (const_unknown (drop i names)) a b f0 f1 out out
    → Does (unknown_constant n) b c f1 f2 out out → DoesLeft (const_unknown names) (const_unknown (drop (i + 1) names)) a c f0 f2 out out
unknown_step names i n a b c f0 f1 f2 out l q h k =
    left_step (const_unknown names) (unknown_constant n) (const_unknown (drop (i + 1) names)) a b c f0 f1 f2 out out out
    (left_as (const_unknown names) (const_unknown (drop i names)) (const_unknown (n ∷ drop (i + 1) names)) a b f0 f1 out out (ap const_unknown (next_at names i n l q)) h) k

pub unknown_end : (names : List Name) (i : ℕ) (a b : Walk) (f0 f1 : List Flaw) (out : List CoreStmt) → length names ≤ i → DoesLeft (const_unknown names) (const_unknown (drop i names)) a b f0 f1 out out → Does (const_unknown names) a b f0 f1 out out
unknown_end names i a b f0 f1 out l h = left_end (const_unknown names) a b f0 f1 out out (left_as (const_unknown names) (const_unknown (drop i names)) (did []) a b f0 f1 out out (ap const_unknown (past names i l)) h)

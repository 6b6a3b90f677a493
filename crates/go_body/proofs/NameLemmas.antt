-- Names of variables, one by one.
use Rattle.std.proofs.Common.{◌≡◌, ◌<◌, ◌≤◌, ◌+◌, ◌∙◌, ℕ, refl, sym, ap, subst, List, [], ◌∷◌, ◌++◌, append_assoc, map, length, drop, get_or, Bool}
use Rattle.std.specs.Prelude.{Option, option_map, if◌then◌else◌}
use Rattle.std.proofs.lemmas.List.{map-append}
use Rattle.gj_base.specs.declared.place.Place.{Place}
use Rattle.go_syntax.specs.declared.tree.Name.{Name}
use Rattle.go_type.specs.Tree.{Ty, more_tys}
use Rattle.go_type.specs.Levels.{tree_of, trees_of}
use Rattle.go_type.specs.Table.{places}
use Rattle.go_type.specs.Table as tables
use Rattle.go_type.specs.declared.types.TypeId.{TypeId}
use Rattle.go_type.specs.declared.table.TypeTable.{TypeTable}
use Rattle.go_core.specs.CoreTree as core
use Rattle.go_core.specs.CoreView.{expr_view, stmt_view, target_view}
use Rattle.go_core.specs.declared.node.CoreExpr.{CoreExpr}
use Rattle.go_core.specs.declared.statement.CoreStmt.{CoreStmt}
use Rattle.go_core.specs.declared.statement.Target.{Target}
use Rattle.go_typing.specs.Answer as typing
use Rattle.go_typing.specs.Answer.{flaw}
use Rattle.go_operands.specs.EnvView.{table_of}
use Rattle.go_calls.specs.Words.{types_of, names_of}
use Rattle.go_operands.specs.AnswerView.{flaw_view}
use Rattle.go_operands.specs.declared.answers.answer.Flaw.{Flaw}
use Rattle.go_typing.specs.Walk as go
use Rattle.go_typing.specs.Walk.{did, is_there, redeclared}
use Rattle.go_typing.specs.Expressions.{Valued, core_of}
use Rattle.go_typing.specs.Assign.{Defined, no_more}
use Rattle.go_typing.specs.Declare.{SpecType, spec_var_type, spec_or, fits_spec, declare_one, declare_stmts, declare_target, zero_type, var_zero}
use Rattle.go_walk.specs.WalkView.{walk_of, depth, Keeps}
use Rattle.go_walk.specs.declared.walk.walk.Walk.{Walk}
use Rattle.go_expr.specs.declared.typed.raw.Raw as code
use Rattle.go_expr.specs.declared.typed.raw.Raws.{Raws}
use Rattle.go_expr.specs.Raw.{Raw, raw_view, raws_view}
use Rattle.go_assign.specs.Outcome.{Does}
use Rattle.go_assign.specs.Moves.{Moves}
use Rattle.go_assign.specs.declared.constants.types.SpecType as kinds
use Rattle.go_assign.specs.SpecView.{spec_view}
use Rattle.go_body.specs.LocalVarsSpecs.{declared_zero, cores_before, raw_value, with_value, var_raws, unfit, var_takes}
use Rattle.go_body.specs.LocalVarsLeft.{DoesLeft, Puts, Names, DefinesLeft}
use Rattle.go_body.proofs.LeftLemmas.{keeps_same, next_at, next_in, past, left_step, left_as, left_end, defines_step, defines_as}

abbrev tree_at : TypeId → TypeTable → Ty
tree_at i table = tree_of (places table) i

-- ---- a name alone

-- a name with its left side
pub puts_from : (n : Name) (at : Option Place) (u : Option Ty) (a b : Walk) (o0 o1 : List CoreStmt) (g0 g1 : List Target) (g : Target) → ((ts : List Ty) → Keeps (table_of a.env) ts → map (stmt_view ts) o1 ≡ map (stmt_view ts) o0 ++ declare_stmts at (walk_of ts a) u)
    → ((ts : List Ty) → Keeps (table_of a.env) ts → target_view ts g ≡ declare_target at (walk_of ts a) u) → Moves (declare_one n at u) a b → table_of b.env ≡ table_of a.env → g1 ≡ g0 ++ g ∷ [] → Puts n at u a b o0 o1 g0 g1
puts_from n at u a b o0 o1 g0 g1 g c t m e p = record {
  core = c;
  targets = λ ts l.
      ap (map (target_view ts)) p ∙ map-append (target_view ts) g0 (g ∷ []) ∙ ap (λ (x : core.Target). map (target_view ts) g0 ++ x ∷ []) (t ts l);
  walk = λ ts l. m.walk ts (keeps_same (table_of b.env) (table_of a.env) (sym e) ts l);
  depth = m.depth;
  table = e;
}

pub puts_as : (n : Name) (at : Option Place) (u v : Option Ty) (a b : Walk) (o0 o1 : List CoreStmt) (g0 g1 : List Target) → u ≡ v → Puts n at u a b o0 o1 g0 g1 → Puts n at v a b o0 o1 g0 g1
puts_as n at u v a b o0 o1 g0 g1 p h = subst (λ (x : Option Ty). Puts n at x a b o0 o1 g0 g1) p h

-- with what is told of it
told_both : (fs gs : List typing.Flaw) (f0 f1 f2 : List Flaw) → map flaw_view f1 ≡ map flaw_view f0 ++ gs → map flaw_view f2 ≡ map flaw_view f1 ++ fs → map flaw_view f2 ≡ map flaw_view f0 ++ (gs ++ fs)
told_both fs gs f0 f1 f2 p q = q ∙ ap (λ (x : List typing.Flaw). x ++ fs) p ∙ append_assoc (map flaw_view f0) gs fs

names_of_puts : (n : Name) (at : Option Place) (u : Option Ty) (fs : List typing.Flaw) (cs : List core.Expr) (a b : Walk) (f0 f1 f2 : List Flaw) (o0 o1 : List CoreStmt) (g0 g1 : List Target) (c0 c1 : List CoreExpr) → ((ts : List Ty) → at ≡ is_there n (walk_of ts a))
    → map flaw_view f1 ≡ map flaw_view f0 ++ redeclared n at → map flaw_view f2 ≡ map flaw_view f1 ++ fs → ((ts : List Ty) → Keeps (table_of a.env) ts → map (expr_view ts) c1 ≡ map (expr_view ts) c0 ++ cs) → Puts n at u a b o0 o1 g0 g1
    → Names n u fs cs a b f0 f2 o0 o1 g0 g1 c0 c1
names_of_puts n at u fs cs a b f0 f1 f2 o0 o1 g0 g1 c0 c1 there t1 t2 v h = record {
  told = λ ts. told_both fs (redeclared n at) f0 f1 f2 t1 t2 ∙ ap (λ (x : Option Place). map flaw_view f0 ++ (redeclared n x ++ fs)) (there ts);
  core = λ ts l. h.core ts l ∙ ap (λ (x : Option Place). map (stmt_view ts) o0 ++ declare_stmts x (walk_of ts a) u) (there ts);
  targets = λ ts l. h.targets ts l ∙ ap (λ (x : Option Place). map (target_view ts) g0 ++ declare_target x (walk_of ts a) u ∷ []) (there ts);
  values = v;
  walk = λ ts l. h.walk ts l ∙ ap (λ (x : Option Place). declare_one n x u (walk_of ts a)) (there ts);
  depth = h.depth;
  table = h.table;
}

abbrev NamesValued : SpecType → Name → Valued → Walk → Walk → List Flaw → List Flaw → List CoreStmt → List CoreStmt → List Target → List Target → List CoreExpr → List CoreExpr → Type 0
NamesValued s n v a b f0 f1 o0 o1 g0 g1 c0 c1 = Names n (spec_var_type s v.answer) v.flaws (core_of v.answer ∷ []) a b f0 f1 o0 o1 g0 g1 c0 c1

-- a name with its value
pub names_valued : (s : SpecType) (n : Name) (at : Option Place) (v w : Valued) (a b : Walk) (f0 f1 f2 : List Flaw) (o0 o1 : List CoreStmt) (g0 g1 : List Target) (c0 c1 : List CoreExpr) → ((ts : List Ty) → at ≡ is_there n (walk_of ts a)) → v ≡ w
    → map flaw_view f1 ≡ map flaw_view f0 ++ redeclared n at → map flaw_view f2 ≡ map flaw_view f1 ++ v.flaws → ((ts : List Ty) → Keeps (table_of a.env) ts → map (expr_view ts) c1 ≡ map (expr_view ts) c0 ++ core_of v.answer ∷ [])
    → Puts n at (spec_var_type s v.answer) a b o0 o1 g0 g1 → Names n (spec_var_type s w.answer) w.flaws (core_of w.answer ∷ []) a b f0 f2 o0 o1 g0 g1 c0 c1
names_valued s n at v w a b f0 f1 f2 o0 o1 g0 g1 c0 c1 there p t1 t2 values h =
    subst (λ (x : Valued). NamesValued s n x a b f0 f2 o0 o1 g0 g1 c0 c1) p
    (names_of_puts n at (spec_var_type s v.answer) v.flaws (core_of v.answer ∷ []) a b f0 f1 f2 o0 o1 g0 g1 c0 c1 there t1 t2 values h)

abbrev unless : Bool → Place → List typing.Flaw
unless b at = if b then [] else flaw at 61 ∷ []

-- a name that takes one of the several values of a call
pub names_taken : (s : SpecType) (n : Name) (v : Ty) (u : Option Ty) (well : Bool) (place : Place) (at : Option Place) (a b : Walk) (f0 f1 f2 : List Flaw) (o0 o1 : List CoreStmt) (g0 g1 : List Target) → ((ts : List Ty) → at ≡ is_there n (walk_of ts a))
    → map flaw_view f1 ≡ map flaw_view f0 ++ redeclared n at → well ≡ fits_spec s v → map flaw_view f2 ≡ map flaw_view f1 ++ unless well place → u ≡ spec_or s v → Puts n at u a b o0 o1 g0 g1
    → Names n (spec_or s v) (unfit place s v) [] a b f0 f2 o0 o1 g0 g1 [] []
names_taken s n v u well place at a b f0 f1 f2 o0 o1 g0 g1 there t1 w t2 p h =
    names_of_puts n at (spec_or s v) (unfit place s v) [] a b f0 f1 f2 o0 o1 g0 g1 [] [] there t1 (t2 ∙ ap (λ (x : Bool). map flaw_view f1 ++ unless x place) w) (λ ts l. refl) (puts_as n at u (spec_or s v) a b o0 o1 g0 g1 p h)

-- ---- names without values

-- a name alone
pub zero_done : (n : Name) (at : Option Place) (u : Option Ty) (a b : Walk) (f0 f1 : List Flaw) (o0 o1 : List CoreStmt) → ((ts : List Ty) → at ≡ is_there n (walk_of ts a)) → map flaw_view f1 ≡ map flaw_view f0 ++ redeclared n at
    → ((ts : List Ty) → Keeps (table_of a.env) ts → map (stmt_view ts) o1 ≡ map (stmt_view ts) o0 ++ declare_stmts at (walk_of ts a) u) → Moves (declare_one n at u) a b → table_of b.env ≡ table_of a.env → Does (declared_zero n u) a b f0 f1 o0 o1
zero_done n at u a b f0 f1 o0 o1 there t c m e = record {
  told = λ ts l. t ∙ ap (λ (x : Option Place). map flaw_view f0 ++ redeclared n x) (there ts);
  core = λ ts l. c ts (keeps_same (table_of a.env) (table_of b.env) e ts l) ∙ ap (λ (x : Option Place). map (stmt_view ts) o0 ++ declare_stmts x (walk_of ts a) u) (there ts);
  walk = λ ts l. m.walk ts l ∙ ap (λ (x : Option Place). declare_one n x u (walk_of ts a)) (there ts);
  depth = m.depth;
  kept = m.kept;
  counts = m.counts;
}

abbrev type_at : Option TypeId → TypeTable → Option Ty
type_at o table = option_map (tree_of (places table)) o

pub zeros_step : (s : SpecType) (names : List Name) (i : ℕ) (n : Name) (o : Option TypeId) (a b c : Walk) (f0 f1 f2 : List Flaw) (o0 o1 o2 : List CoreStmt) → option_map (tree_of (types_of a.env)) o ≡ zero_type s → table_of b.env ≡ table_of a.env → i < length names
    → n ≡ get_or names i n → DoesLeft (var_zero s names) (var_zero s (drop i names)) a b f0 f1 o0 o1 → Does (declared_zero n (option_map (tree_of (types_of b.env)) o)) b c f1 f2 o1 o2 → DoesLeft (var_zero s names) (var_zero s (drop (i + 1) names)) a c f0 f2 o0 o2
zeros_step s names i n o a b c f0 f1 f2 o0 o1 o2 p e l q h k =
    let all = var_zero s names in
    let u : option_map (tree_of (types_of b.env)) o ≡ zero_type s = ap (type_at o) e ∙ p in
    left_step all (declared_zero n (zero_type s)) (var_zero s (drop (i + 1) names)) a b c f0 f1 f2 o0 o1 o2
    (left_as all (var_zero s (drop i names)) (var_zero s (n ∷ drop (i + 1) names)) a b f0 f1 o0 o1 (ap (var_zero s) (next_at names i n l q)) h)
    (subst (λ (x : Option Ty). Does (declared_zero n x) b c f1 f2 o1 o2) u k)

pub zeros_end : (s : SpecType) (names : List Name) (i : ℕ) (a b : Walk) (f0 f1 : List Flaw) (o0 o1 : List CoreStmt) → length names ≤ i → DoesLeft (var_zero s names) (var_zero s (drop i names)) a b f0 f1 o0 o1 → Does (var_zero s names) a b f0 f1 o0 o1
zeros_end s names i a b f0 f1 o0 o1 l h = left_end (var_zero s names) a b f0 f1 o0 o1 (left_as (var_zero s names) (var_zero s (drop i names)) (did []) a b f0 f1 o0 o1 (ap (var_zero s) (past names i l)) h)

-- ---- a value for each

abbrev all_raws : TypeTable → kinds.SpecType → List Name → List Raw → go.Walk → Defined
all_raws table s names rs = var_raws (tables.names table) (spec_view (places table) s) names rs

abbrev NamesAt : kinds.SpecType → Name → code.Raw → Walk → Walk → List Flaw → List Flaw → List CoreStmt → List CoreStmt → List Target → List Target → List CoreExpr → List CoreExpr → TypeTable → Type 0
NamesAt s n r b c f1 f2 o1 o2 g1 g2 c1 c2 table = NamesValued (spec_view (places table) s) n (raw_value (tables.names table) (spec_view (places table) s) (raw_view (places table) r)) b c f1 f2 o1 o2 g1 g2 c1 c2

pub each_step : (s : kinds.SpecType) (names : List Name) (i : ℕ) (n : Name) (r : code.Raw) (rs0 rs1 rs2 : Raws) (a b c : Walk) (f0 f1 f2 : List Flaw) (o0 o1 o2 : List CoreStmt) (g1 g2 : List Target) (c1 c2 : List CoreExpr) → i < length names → n ≡ get_or names i n
    → raws_view (types_of b.env) rs1 ≡ raw_view (types_of b.env) r ∷ raws_view (types_of b.env) rs2
    → DefinesLeft (var_raws (names_of a.env) (spec_view (types_of a.env) s) names (raws_view (types_of a.env) rs0)) (var_raws (names_of a.env) (spec_view (types_of a.env) s) (drop i names) (raws_view (types_of a.env) rs1)) a b f0 f1 o0 o1 g1 c1
    → Names n (spec_var_type (spec_view (types_of b.env) s) (raw_value (names_of b.env) (spec_view (types_of b.env) s) (raw_view (types_of b.env) r)).answer) (raw_value (names_of b.env) (spec_view (types_of b.env) s) (raw_view (types_of b.env) r)).flaws
    (core_of (raw_value (names_of b.env) (spec_view (types_of b.env) s) (raw_view (types_of b.env) r)).answer ∷ []) b c f1 f2 o1 o2 g1 g2 c1 c2
    → DefinesLeft (var_raws (names_of a.env) (spec_view (types_of a.env) s) names (raws_view (types_of a.env) rs0)) (var_raws (names_of a.env) (spec_view (types_of a.env) s) (drop (i + 1) names) (raws_view (types_of a.env) rs2)) a c f0 f2 o0 o2 g2 c2
each_step s names i n r rs0 rs1 rs2 a b c f0 f1 f2 o0 o1 o2 g1 g2 c1 c2 l q v h k =
    let ta = table_of a.env in
    let all = all_raws ta s names (raws_view (places ta) rs0) in
    let there : raws_view (places ta) rs1 ≡ raw_view (places ta) r ∷ raws_view (places ta) rs2 = subst (λ (x : TypeTable). raws_view (places x) rs1 ≡ raw_view (places x) r ∷ raws_view (places x) rs2) h.table v in
    let value = raw_value (tables.names ta) (spec_view (places ta) s) (raw_view (places ta) r) in
    let others = all_raws ta s (drop (i + 1) names) (raws_view (places ta) rs2) in
    let split : all_raws ta s (drop i names) (raws_view (places ta) rs1) ≡ with_value (spec_view (places ta) s) n value others =
    ap (λ (xs : List Name). all_raws ta s xs (raws_view (places ta) rs1)) (next_at names i n l q) ∙ ap (λ (xs : List Raw). all_raws ta s (n ∷ drop (i + 1) names) xs) there in
    defines_step all others n (spec_var_type (spec_view (places ta) s) value.answer) value.flaws (core_of value.answer ∷ []) a b c f0 f1 f2 o0 o1 o2 g1 g2 c1 c2
    (defines_as all (all_raws ta s (drop i names) (raws_view (places ta) rs1)) (with_value (spec_view (places ta) s) n value others) a b f0 f1 o0 o1 g1 c1 split h)
    (subst (NamesAt s n r b c f1 f2 o1 o2 g1 g2 c1 c2) h.table k)

-- no name is left
pub each_end : (s : kinds.SpecType) (names : List Name) (i : ℕ) (rs0 rs1 : Raws) (a b : Walk) (f0 f1 : List Flaw) (o0 o1 : List CoreStmt) (gs : List Target) (cs : List CoreExpr) → length names ≤ i
    → DefinesLeft (var_raws (names_of a.env) (spec_view (types_of a.env) s) names (raws_view (types_of a.env) rs0)) (var_raws (names_of a.env) (spec_view (types_of a.env) s) (drop i names) (raws_view (types_of a.env) rs1)) a b f0 f1 o0 o1 gs cs
    → DefinesLeft (var_raws (names_of a.env) (spec_view (types_of a.env) s) names (raws_view (types_of a.env) rs0)) no_more a b f0 f1 o0 o1 gs cs
each_end s names i rs0 rs1 a b f0 f1 o0 o1 gs cs l h =
    let ta = table_of a.env in
    defines_as (all_raws ta s names (raws_view (places ta) rs0)) (all_raws ta s (drop i names) (raws_view (places ta) rs1)) no_more a b f0 f1 o0 o1 gs cs (ap (λ (xs : List Name). all_raws ta s xs (raws_view (places ta) rs1)) (past names i l)) h

no_raws : (table : TypeTable) (s : kinds.SpecType) (names : List Name) → all_raws table s names [] ≡ no_more
no_raws table s [] = refl
no_raws table s (n ∷ names) = refl

-- no value is left
pub each_stop : (s : kinds.SpecType) (names left : List Name) (rs0 rs1 : Raws) (a b : Walk) (f0 f1 : List Flaw) (o0 o1 : List CoreStmt) (gs : List Target) (cs : List CoreExpr) → raws_view (types_of b.env) rs1 ≡ []
    → DefinesLeft (var_raws (names_of a.env) (spec_view (types_of a.env) s) names (raws_view (types_of a.env) rs0)) (var_raws (names_of a.env) (spec_view (types_of a.env) s) left (raws_view (types_of a.env) rs1)) a b f0 f1 o0 o1 gs cs
    → DefinesLeft (var_raws (names_of a.env) (spec_view (types_of a.env) s) names (raws_view (types_of a.env) rs0)) no_more a b f0 f1 o0 o1 gs cs
each_stop s names left rs0 rs1 a b f0 f1 o0 o1 gs cs v h =
    let ta = table_of a.env in
    let none : raws_view (places ta) rs1 ≡ [] = subst (λ (x : TypeTable). raws_view (places x) rs1 ≡ []) h.table v in
    defines_as (all_raws ta s names (raws_view (places ta) rs0)) (all_raws ta s left (raws_view (places ta) rs1)) no_more a b f0 f1 o0 o1 gs cs (ap (all_raws ta s left) none ∙ no_raws ta s left) h

pub each_begin : (s : kinds.SpecType) (names : List Name) (rs : Raws) (a : Walk) (f : List Flaw) (o : List CoreStmt) (gs : List Target) (cs : List CoreExpr) → gs ≡ [] → cs ≡ []
    → DefinesLeft (var_raws (names_of a.env) (spec_view (types_of a.env) s) names (raws_view (types_of a.env) rs)) (var_raws (names_of a.env) (spec_view (types_of a.env) s) names (raws_view (types_of a.env) rs)) a a f f o o gs cs
each_begin s names rs a f o gs cs p q =
    let all = all_raws (table_of a.env) s names (raws_view (types_of a.env) rs) in
    record {
      told = λ ts l. refl;
      core = λ ts l. refl;
      targets = λ ts l. ap (λ (x : List Target). map (target_view ts) x ++ (all (walk_of ts a)).targets) p;
      values = λ ts l. ap (λ (x : List CoreExpr). cores_before (map (expr_view ts) x) (all (walk_of ts a)).values) q;
      walk = λ ts l. refl;
      depth = refl;
      table = refl;
    }

-- ---- the several values of a call

abbrev all_takes : Place → kinds.SpecType → List Name → List TypeId → TypeTable → go.Walk → Defined
all_takes at s names is table = var_takes at (spec_view (places table) s) names (trees_of (places table) is)

abbrev TakesAt : Place → kinds.SpecType → Name → TypeId → Walk → Walk → List Flaw → List Flaw → List CoreStmt → List CoreStmt → List Target → List Target → TypeTable → Type 0
TakesAt at s n i b c f1 f2 o1 o2 g1 g2 table = Names n (spec_or (spec_view (places table) s) (tree_of (places table) i)) (unfit at (spec_view (places table) s) (tree_of (places table) i)) [] b c f1 f2 o1 o2 g1 g2 [] []

pub takes_step : (at : Place) (s : kinds.SpecType) (names : List Name) (is : List TypeId) (i : ℕ) (n : Name) (d : TypeId) (a b c : Walk) (f0 f1 f2 : List Flaw) (o0 o1 o2 : List CoreStmt) (g1 g2 : List Target) → i < length names → i < length is → n ≡ get_or names i n
    → DefinesLeft (var_takes at (spec_view (types_of a.env) s) names (trees_of (types_of a.env) is)) (var_takes at (spec_view (types_of a.env) s) (drop i names) (trees_of (types_of a.env) (drop i is))) a b f0 f1 o0 o1 g1 []
    → Names n (spec_or (spec_view (types_of b.env) s) (tree_of (types_of b.env) (get_or is i d))) (unfit at (spec_view (types_of b.env) s) (tree_of (types_of b.env) (get_or is i d))) [] b c f1 f2 o1 o2 g1 g2 [] []
    → DefinesLeft (var_takes at (spec_view (types_of a.env) s) names (trees_of (types_of a.env) is)) (var_takes at (spec_view (types_of a.env) s) (drop (i + 1) names) (trees_of (types_of a.env) (drop (i + 1) is))) a c f0 f2 o0 o2 g2 []
takes_step at s names is i n d a b c f0 f1 f2 o0 o1 o2 g1 g2 l m q h k =
    let ta = table_of a.env in
    let all = all_takes at s names is ta in
    let t = get_or is i d in
    let u = tree_of (places ta) t in
    let others = all_takes at s (drop (i + 1) names) (drop (i + 1) is) ta in
    let one = var_takes at (spec_view (places ta) s) (n ∷ drop (i + 1) names) (more_tys u (trees_of (places ta) (drop (i + 1) is))) in
    let split : all_takes at s (drop i names) (drop i is) ta ≡ one =
    ap (λ (xs : List Name). all_takes at s xs (drop i is) ta) (next_at names i n l q) ∙ ap (λ (xs : List TypeId). all_takes at s (n ∷ drop (i + 1) names) xs ta) (next_in is i d m) in
    defines_step all others n (spec_or (spec_view (places ta) s) u) (unfit at (spec_view (places ta) s) u) [] a b c f0 f1 f2 o0 o1 o2 g1 g2 [] []
    (defines_as all (all_takes at s (drop i names) (drop i is) ta) one a b f0 f1 o0 o1 g1 [] split h)
    (subst (TakesAt at s n t b c f1 f2 o1 o2 g1 g2) h.table k)

pub takes_end : (at : Place) (s : kinds.SpecType) (names : List Name) (is left : List TypeId) (i : ℕ) (a b : Walk) (f0 f1 : List Flaw) (o0 o1 : List CoreStmt) (gs : List Target) → length names ≤ i
    → DefinesLeft (var_takes at (spec_view (types_of a.env) s) names (trees_of (types_of a.env) is)) (var_takes at (spec_view (types_of a.env) s) (drop i names) (trees_of (types_of a.env) left)) a b f0 f1 o0 o1 gs []
    → DefinesLeft (var_takes at (spec_view (types_of a.env) s) names (trees_of (types_of a.env) is)) no_more a b f0 f1 o0 o1 gs []
takes_end at s names is left i a b f0 f1 o0 o1 gs l h =
    let ta = table_of a.env in
    defines_as (all_takes at s names is ta) (all_takes at s (drop i names) left ta) no_more a b f0 f1 o0 o1 gs [] (ap (λ (xs : List Name). all_takes at s xs left ta) (past names i l)) h

pub takes_begin : (at : Place) (s : kinds.SpecType) (names : List Name) (is : List TypeId) (a : Walk) (f : List Flaw) (o : List CoreStmt) (gs : List Target) → gs ≡ []
    → DefinesLeft (var_takes at (spec_view (types_of a.env) s) names (trees_of (types_of a.env) is)) (var_takes at (spec_view (types_of a.env) s) names (trees_of (types_of a.env) is)) a a f f o o gs []
takes_begin at s names is a f o gs p =
    let all = all_takes at s names is (table_of a.env) in
    record {
      told = λ ts l. refl;
      core = λ ts l. refl;
      targets = λ ts l. ap (λ (x : List Target). map (target_view ts) x ++ (all (walk_of ts a)).targets) p;
      values = λ ts l. refl;
      walk = λ ts l. refl;
      depth = refl;
      table = refl;
    }

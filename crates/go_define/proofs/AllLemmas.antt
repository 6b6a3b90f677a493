-- Names on the left of `:=`, one after the other.
use Rattle.std.proofs.Common.{arith, ◌≡◌, ℕ, ◌<◌, ◌≤◌, ◌+◌, zero, suc, ◌∙◌, refl, sym, ap, subst, List, [], ◌∷◌, ◌++◌, append_assoc, length, map, drop, get_or, Bool, true, false, ◌&&◌, Option, Some, None}
use Rattle.std.specs.Prelude.{if◌then◌else◌}
use Rattle.std.specs.List.{AllByRecursion}
use Rattle.std.proofs.lemmas.List.{append-nil}
use Rattle.std.proofs.Math.Seq.{drop-cons}
use Rattle.gj_base.specs.declared.place.Place.{Place}
use Rattle.go_type.specs.Tree.{Ty, Tys, no_tys, more_tys}
use Rattle.go_type.specs.Levels.{tree_of, trees_of, IdsBelow}
use Rattle.go_type.specs.Named.{NamedTy}
use Rattle.go_type.specs.Table.{places, names, size}
use Rattle.go_type.specs.declared.types.TypeId.{TypeId}
use Rattle.go_type.specs.declared.table.TypeTable.{TypeTable}
use Rattle.go_core.specs.CoreTree as core
use Rattle.go_core.specs.CoreTree.{Target}
use Rattle.go_core.specs.CoreView.{expr_view, exprs_of, stmt_view, target_view}
use Rattle.go_core.specs.declared.node.CoreExpr.{CoreExpr}
use Rattle.go_core.specs.declared.statement.CoreStmt.{CoreStmt}
use Rattle.go_core.specs.declared.statement.Target as code_target
use Rattle.go_typing.specs.Answer.{Flaw, flaw}
use Rattle.go_operands.specs.EnvView.{table_of}
use Rattle.go_operands.specs.AnswerView.{flaw_view}
use Rattle.go_operands.specs.declared.answers.answer.Flaw as code
use Rattle.go_typing.specs.Walk as go
use Rattle.go_typing.specs.Walk.{Did}
use Rattle.go_typing.specs.Expressions.{core_of}
use Rattle.go_typing.specs.Assign.{where_typed}
use Rattle.go_walk.specs.WalkView.{walk_of, depth, Keeps}
use Rattle.go_walk.specs.declared.walk.walk.Walk.{Walk}
use Rattle.go_expr.specs.declared.typed.raw.Raw as code_raw
use Rattle.go_expr.specs.Raw.{Raw, raw_view, raws_after, RawBelow}
use Rattle.go_assign.specs.Outcome.{Does, Adds}
use Rattle.go_assign.specs.Settled.{all_known, all_told, several_in}
use Rattle.go_assign.specs.Moves.{Moves}
use Rattle.go_assign.proofs.WalkLemmas.{moves_in}
use Rattle.go_assign.proofs.OutcomeLemmas.{does_made, does_same}
use Rattle.go_define.specs.declared.define.fresh.Fresh as code_fresh
use Rattle.go_define.specs.FreshView.{Spot, fresh_view, fresh_after, FreshBelow, spots_typed}
use Rattle.go_define.specs.Defining.{Take, Done, done, take_flaws, Defines, spot_stmts, spot_target, spot_walk, spot_valued, valued_take, value_takes, value_cores, type_flaws, type_take, type_takes, defined, unknowns, spot_flaws, spots_flaws, parts_flaws, not_defined, as_many_values, as_many_types, defined_by}

-- ---- the table stays

pub depth_at : (f : go.Walk → go.Walk) (a b : Walk) → Moves f a b → 0 < depth a → 0 < depth b
depth_at f a b m h = let e = m.depth in omega (arith, e, h)

pub freshes_at : (a b : TypeTable) (fs : List code_fresh.Fresh) → b ≡ a → AllByRecursion (FreshBelow (size a)) fs → AllByRecursion (FreshBelow (size b)) fs
freshes_at a b fs e h = subst (λ (t : TypeTable). AllByRecursion (FreshBelow (size t)) fs) (sym e) h

pub raws_at : (a b : TypeTable) (rs : List code_raw.Raw) → b ≡ a → AllByRecursion (RawBelow (size a)) rs → AllByRecursion (RawBelow (size b)) rs
raws_at a b rs e h = subst (λ (t : TypeTable). AllByRecursion (RawBelow (size t)) rs) (sym e) h

pub ids_kept : (a b : TypeTable) (is : List TypeId) → b ≡ a → IdsBelow (size a) is → IdsBelow (size b) is
ids_kept a b is e h = subst (λ (t : TypeTable). IdsBelow (size t) is) (sym e) h

pub keeps_at : (a b : TypeTable) (ts : List Ty) → b ≡ a → Keeps b ts → Keeps a ts
keeps_at a b ts e k = subst (λ (t : TypeTable). Keeps t ts) e k

pub keeps_back : (a b : TypeTable) (ts : List Ty) → b ≡ a → Keeps a ts → Keeps b ts
keeps_back a b ts e k = subst (λ (t : TypeTable). Keeps t ts) (sym e) k

-- ---- one name more

pub one_more : {X : Type 0} (a b rest all : List X) (x : X) → b ≡ a ++ x ∷ [] → a ++ (x ∷ rest) ≡ all → b ++ rest ≡ all
one_more {X} a b rest all x p h = ap (λ (y : List X). y ++ rest) p ∙ append_assoc a (x ∷ []) rest ∙ h

some_more : {X : Type 0} (a b xs rest all : List X) → b ≡ a ++ xs → a ++ (xs ++ rest) ≡ all → b ++ rest ≡ all
some_more {X} a b xs rest all p h = ap (λ (y : List X). y ++ rest) p ∙ append_assoc a xs rest ∙ h

pub defines_first : (ks : List Take) (w : Walk) (to : List code_target.Target) (fs : List code.Flaw) (out : List CoreStmt) → Defines ks ks w w to to fs fs out out
defines_first ks w to fs out = record { stmts = λ ts l. refl; targets = λ ts l. refl; told = refl; walk = λ ts l. refl; depth = refl; table = refl }

pub defines_step : (k : Take) (rest all : List Take) (a b c : Walk) (g0 g1 g2 : List code_target.Target) (f0 f1 f2 : List code.Flaw) (o0 o1 o2 : List CoreStmt) → Defines (k ∷ rest) all a b g0 g1 f0 f1 o0 o1
    → ((ts : List Ty) → Keeps (table_of b.env) ts → map (stmt_view ts) o2 ≡ map (stmt_view ts) o1 ++ spot_stmts (walk_of ts b) k.spot k.type_)
    → ((ts : List Ty) → Keeps (table_of b.env) ts → map (target_view ts) g2 ≡ map (target_view ts) g1 ++ spot_target (walk_of ts b) k.spot k.type_ ∷ [])
    → map flaw_view f2 ≡ map flaw_view f1 ++ k.flaws → Moves (spot_walk k.spot k.type_) b c → table_of c.env ≡ table_of b.env → Defines rest all a c g0 g2 f0 f2 o0 o2
defines_step k rest all a b c g0 g1 g2 f0 f1 f2 o0 o1 o2 h s g t m e = record {
  stmts = λ ts l.
      let n = keeps_at (table_of b.env) (table_of c.env) ts e l in
      some_more (map (stmt_view ts) o1) (map (stmt_view ts) o2) (spot_stmts (walk_of ts b) k.spot k.type_) (done rest (walk_of ts c)).before (map (stmt_view ts) o0 ++ (done all (walk_of ts a)).before) (s ts n)
      (ap (λ (w : go.Walk). map (stmt_view ts) o1 ++ (spot_stmts (walk_of ts b) k.spot k.type_ ++ (done rest w).before)) (m.walk ts l) ∙ h.stmts ts n);
  targets = λ ts l.
      let n = keeps_at (table_of b.env) (table_of c.env) ts e l in
      one_more (map (target_view ts) g1) (map (target_view ts) g2) (done rest (walk_of ts c)).targets (map (target_view ts) g0 ++ (done all (walk_of ts a)).targets) (spot_target (walk_of ts b) k.spot k.type_) (g ts n)
      (ap (λ (w : go.Walk). map (target_view ts) g1 ++ (spot_target (walk_of ts b) k.spot k.type_ ∷ (done rest w).targets)) (m.walk ts l) ∙ h.targets ts n);
  told = some_more (map flaw_view f1) (map flaw_view f2) k.flaws (take_flaws rest) (map flaw_view f0 ++ take_flaws all) t h.told;
  walk = λ ts l. ap (λ (w : go.Walk). (done rest w).walk) (m.walk ts l) ∙ h.walk ts (keeps_at (table_of b.env) (table_of c.env) ts e l);
  depth = m.depth ∙ h.depth;
  table = e ∙ h.table;
}

pub defines_as : (ks ls all : List Take) (a b : Walk) (g0 g1 : List code_target.Target) (f0 f1 : List code.Flaw) (o0 o1 : List CoreStmt) → ks ≡ ls → Defines ks all a b g0 g1 f0 f1 o0 o1 → Defines ls all a b g0 g1 f0 f1 o0 o1
defines_as ks ls all a b g0 g1 f0 f1 o0 o1 p h = subst (λ (x : List Take). Defines x all a b g0 g1 f0 f1 o0 o1) p h

-- ---- each with its value

takes_more : (ns : List NamedTy) (ss ss1 : List Spot) (rs rs1 : List Raw) (s : Spot) (r : Raw) → ss ≡ s ∷ ss1 → rs ≡ r ∷ rs1 → value_takes ns ss rs ≡ valued_take s (spot_valued ns s r) ∷ value_takes ns ss1 rs1
takes_more ns ss ss1 rs rs1 s r p q = ap (λ (x : List Spot). value_takes ns x rs) p ∙ ap (λ (x : List Raw). value_takes ns (s ∷ ss1) x) q

cores_more : (ns : List NamedTy) (ss ss1 : List Spot) (rs rs1 : List Raw) (s : Spot) (r : Raw) → ss ≡ s ∷ ss1 → rs ≡ r ∷ rs1 → value_cores ns ss rs ≡ core_of (spot_valued ns s r).answer ∷ value_cores ns ss1 rs1
cores_more ns ss ss1 rs rs1 s r p q = ap (λ (x : List Spot). value_cores ns x rs) p ∙ ap (λ (x : List Raw). value_cores ns (s ∷ ss1) x) q

abbrev takes_in : TypeTable → List code_fresh.Fresh → List code_raw.Raw → List Take
takes_in t fs rs = value_takes (names t) (fresh_after (places t) fs []) (raws_after (places t) rs [])

abbrev cores_in : TypeTable → List code_fresh.Fresh → List code_raw.Raw → List core.Expr
cores_in t fs rs = value_cores (names t) (fresh_after (places t) fs []) (raws_after (places t) rs [])

pub each_step : (all : List Take) (a b c : Walk) (fs fs1 : List code_fresh.Fresh) (rs rs1 : List code_raw.Raw) (s : Spot) (r : Raw) (g0 g1 g2 : List code_target.Target) (f0 f1 f2 : List code.Flaw) (o0 o1 o2 : List CoreStmt)
    → fresh_after (places (table_of b.env)) fs [] ≡ s ∷ fresh_after (places (table_of b.env)) fs1 [] → raws_after (places (table_of b.env)) rs [] ≡ r ∷ raws_after (places (table_of b.env)) rs1 []
    → Defines (takes_in (table_of b.env) fs rs) all a b g0 g1 f0 f1 o0 o1
    → ((ts : List Ty) → Keeps (table_of b.env) ts → map (stmt_view ts) o2 ≡ map (stmt_view ts) o1 ++ spot_stmts (walk_of ts b) s (valued_take s (spot_valued (names (table_of b.env)) s r)).type_)
    → ((ts : List Ty) → Keeps (table_of b.env) ts → map (target_view ts) g2 ≡ map (target_view ts) g1 ++ spot_target (walk_of ts b) s (valued_take s (spot_valued (names (table_of b.env)) s r)).type_ ∷ [])
    → map flaw_view f2 ≡ map flaw_view f1 ++ (spot_valued (names (table_of b.env)) s r).flaws → Moves (spot_walk s (valued_take s (spot_valued (names (table_of b.env)) s r)).type_) b c → table_of c.env ≡ table_of b.env
    → Defines (takes_in (table_of c.env) fs1 rs1) all a c g0 g2 f0 f2 o0 o2
each_step all a b c fs fs1 rs rs1 s r g0 g1 g2 f0 f1 f2 o0 o1 o2 p q h x y z m e =
    let t = table_of b.env in
    let k = valued_take s (spot_valued (names t) s r) in
    let more = takes_more (names t) (fresh_after (places t) fs []) (fresh_after (places t) fs1 []) (raws_after (places t) rs []) (raws_after (places t) rs1 []) s r p q in
    defines_as (takes_in t fs1 rs1) (takes_in (table_of c.env) fs1 rs1) all a c g0 g2 f0 f2 o0 o2 (ap (λ (u : TypeTable). takes_in u fs1 rs1) (sym e))
    (defines_step k (takes_in t fs1 rs1) all a b c g0 g1 g2 f0 f1 f2 o0 o1 o2 (defines_as (takes_in t fs rs) (k ∷ takes_in t fs1 rs1) all a b g0 g1 f0 f1 o0 o1 more h) x y z m e)

pub values_step : (t u : TypeTable) (fs fs1 : List code_fresh.Fresh) (rs rs1 : List code_raw.Raw) (s : Spot) (r : Raw) (before after all : List core.Expr) → fresh_after (places t) fs [] ≡ s ∷ fresh_after (places t) fs1 [] → raws_after (places t) rs [] ≡ r ∷ raws_after (places t) rs1 []
    → u ≡ t → after ≡ before ++ core_of (spot_valued (names t) s r).answer ∷ [] → before ++ cores_in t fs rs ≡ all → after ++ cores_in u fs1 rs1 ≡ all
values_step t u fs fs1 rs rs1 s r before after all p q e x h =
    ap (λ (v : TypeTable). after ++ cores_in v fs1 rs1) e
    ∙ one_more before after (cores_in t fs1 rs1) all (core_of (spot_valued (names t) s r).answer) x
    (ap (λ (cs : List core.Expr). before ++ cs) (sym (cores_more (names t) (fresh_after (places t) fs []) (fresh_after (places t) fs1 []) (raws_after (places t) rs []) (raws_after (places t) rs1 []) s r p q)) ∙ h)

-- where one of both has ended
takes_no_name : (ns : List NamedTy) (ss : List Spot) (rs : List Raw) → ss ≡ [] → value_takes ns ss rs ≡ []
takes_no_name ns ss rs p = ap (λ (x : List Spot). value_takes ns x rs) p

takes_no_value : (ns : List NamedTy) (ss : List Spot) (rs : List Raw) → rs ≡ [] → value_takes ns ss rs ≡ []
takes_no_value ns [] rs p = refl
takes_no_value ns (s ∷ ss) rs p = ap (λ (x : List Raw). value_takes ns (s ∷ ss) x) p

cores_no_name : (ns : List NamedTy) (ss : List Spot) (rs : List Raw) → ss ≡ [] → value_cores ns ss rs ≡ []
cores_no_name ns ss rs p = ap (λ (x : List Spot). value_cores ns x rs) p

cores_no_value : (ns : List NamedTy) (ss : List Spot) (rs : List Raw) → rs ≡ [] → value_cores ns ss rs ≡ []
cores_no_value ns [] rs p = refl
cores_no_value ns (s ∷ ss) rs p = ap (λ (x : List Raw). value_cores ns (s ∷ ss) x) p

pub each_no_name : (ns : List NamedTy) (ss : List Spot) (rs : List Raw) (all : List Take) (a b : Walk) (g0 g1 : List code_target.Target) (f0 f1 : List code.Flaw) (o0 o1 : List CoreStmt) → ss ≡ [] → Defines (value_takes ns ss rs) all a b g0 g1 f0 f1 o0 o1 → Defines [] all a b g0 g1 f0 f1 o0 o1
each_no_name ns ss rs all a b g0 g1 f0 f1 o0 o1 p h = defines_as (value_takes ns ss rs) [] all a b g0 g1 f0 f1 o0 o1 (takes_no_name ns ss rs p) h

pub each_no_value : (ns : List NamedTy) (ss : List Spot) (rs : List Raw) (all : List Take) (a b : Walk) (g0 g1 : List code_target.Target) (f0 f1 : List code.Flaw) (o0 o1 : List CoreStmt) → rs ≡ [] → Defines (value_takes ns ss rs) all a b g0 g1 f0 f1 o0 o1 → Defines [] all a b g0 g1 f0 f1 o0 o1
each_no_value ns ss rs all a b g0 g1 f0 f1 o0 o1 p h = defines_as (value_takes ns ss rs) [] all a b g0 g1 f0 f1 o0 o1 (takes_no_value ns ss rs p) h

pub values_no_name : (ns : List NamedTy) (ss : List Spot) (rs : List Raw) (now all : List core.Expr) → ss ≡ [] → now ++ value_cores ns ss rs ≡ all → now ≡ all
values_no_name ns ss rs now all p h = sym (append-nil now) ∙ ap (λ (cs : List core.Expr). now ++ cs) (sym (cores_no_name ns ss rs p)) ∙ h

pub values_no_value : (ns : List NamedTy) (ss : List Spot) (rs : List Raw) (now all : List core.Expr) → rs ≡ [] → now ++ value_cores ns ss rs ≡ all → now ≡ all
values_no_value ns ss rs now all p h = sym (append-nil now) ∙ ap (λ (cs : List core.Expr). now ++ cs) (sym (cores_no_value ns ss rs p)) ∙ h

-- ---- each with a type

next_at : {X : Type 0} (xs : List X) (i : ℕ) (x : X) → i < length xs → x ≡ get_or xs i x → drop i xs ≡ x ∷ drop (i + 1) xs
next_at {X} xs i x h e =
    let one : suc i ≡ i + 1 = omega arith in
    drop-cons xs i x h ∙ ap (λ (y : X). y ∷ drop (suc i) xs) (sym e) ∙ ap (λ (n : ℕ). x ∷ drop n xs) one

past : {X : Type 0} (xs : List X) (i : ℕ) → length xs ≤ i → drop i xs ≡ []
past [] zero h = refl
past [] (suc i) h = refl
past (x ∷ xs) zero h = absurd (omega arith)
past (x ∷ xs) (suc i) h = past xs i (omega arith)

pub id_at : (n : ℕ) (is : List TypeId) (i : ℕ) (t : TypeId) → IdsBelow n is → i < length is → t ≡ get_or is i t → t.0 < n
id_at n [] i t h l e = absurd (omega arith)
id_at n (j ∷ is) zero t h l e = let p : t.0 ≡ j.0 = ap (λ (x : TypeId). x.0) e in let q = h.0 in omega (arith, p, q)
id_at n (j ∷ is) (suc i) t h l e = id_at n is i t h.1 (omega arith) e

abbrev pub no_type : TypeId
no_type = record { 0 = 0 }

pub in_range : (is : List TypeId) (i : ℕ) (t : TypeId) → i < length is → get_or is i t ≡ get_or is i (get_or is i t)
in_range [] i t h = absurd (omega arith)
in_range (j ∷ is) zero t h = refl
in_range (j ∷ is) (suc i) t h = in_range is i t (omega arith)

abbrev typed_in : Place → TypeTable → List code_fresh.Fresh → List TypeId → List Take
typed_in p t fs is = type_takes p (fresh_after (places t) fs []) (trees_of (places t) is)

pub types_step : (p : Place) (all : List Take) (a b c : Walk) (fs fs1 : List code_fresh.Fresh) (s : Spot) (is : List TypeId) (i : ℕ) (t : TypeId) (g0 g1 g2 : List code_target.Target) (f0 f1 f2 : List code.Flaw) (o0 o1 o2 : List CoreStmt)
    → i < length is → t ≡ get_or is i t → fresh_after (places (table_of b.env)) fs [] ≡ s ∷ fresh_after (places (table_of b.env)) fs1 []
    → Defines (typed_in p (table_of b.env) fs (drop i is)) all a b g0 g1 f0 f1 o0 o1
    → ((ts : List Ty) → Keeps (table_of b.env) ts → map (stmt_view ts) o2 ≡ map (stmt_view ts) o1 ++ spot_stmts (walk_of ts b) s (Some (tree_of (places (table_of b.env)) t)))
    → ((ts : List Ty) → Keeps (table_of b.env) ts → map (target_view ts) g2 ≡ map (target_view ts) g1 ++ spot_target (walk_of ts b) s (Some (tree_of (places (table_of b.env)) t)) ∷ [])
    → map flaw_view f2 ≡ map flaw_view f1 ++ type_flaws p s (tree_of (places (table_of b.env)) t) → Moves (spot_walk s (Some (tree_of (places (table_of b.env)) t))) b c → table_of c.env ≡ table_of b.env
    → Defines (typed_in p (table_of c.env) fs1 (drop (i + 1) is)) all a c g0 g2 f0 f2 o0 o2
types_step p all a b c fs fs1 s is i t g0 g1 g2 f0 f1 f2 o0 o1 o2 h q v d x y z m e =
    let tb = table_of b.env in
    let k = type_take p s (tree_of (places tb) t) in
    let rest = drop (i + 1) is in
    let more : typed_in p tb fs (drop i is) ≡ k ∷ typed_in p tb fs1 rest =
    ap (λ (w : List Spot). type_takes p w (trees_of (places tb) (drop i is))) v ∙ ap (λ (w : List TypeId). type_takes p (s ∷ fresh_after (places tb) fs1 []) (trees_of (places tb) w)) (next_at is i t h q) in
    defines_as (typed_in p tb fs1 rest) (typed_in p (table_of c.env) fs1 rest) all a c g0 g2 f0 f2 o0 o2 (ap (λ (u : TypeTable). typed_in p u fs1 rest) (sym e))
    (defines_step k (typed_in p tb fs1 rest) all a b c g0 g1 g2 f0 f1 f2 o0 o1 o2 (defines_as (typed_in p tb fs (drop i is)) (k ∷ typed_in p tb fs1 rest) all a b g0 g1 f0 f1 o0 o1 more d) x y z m e)

takes_no_type : (p : Place) (ss : List Spot) → type_takes p ss no_tys ≡ []
takes_no_type p [] = refl
takes_no_type p (s ∷ ss) = refl

pub types_no_type : (p : Place) (ss : List Spot) (ts : List Ty) (is : List TypeId) (i : ℕ) (all : List Take) (a b : Walk) (g0 g1 : List code_target.Target) (f0 f1 : List code.Flaw) (o0 o1 : List CoreStmt) → length is ≤ i
    → Defines (type_takes p ss (trees_of ts (drop i is))) all a b g0 g1 f0 f1 o0 o1 → Defines [] all a b g0 g1 f0 f1 o0 o1
types_no_type p ss ts is i all a b g0 g1 f0 f1 o0 o1 h d =
    defines_as (type_takes p ss (trees_of ts (drop i is))) [] all a b g0 g1 f0 f1 o0 o1 (ap (λ (x : List TypeId). type_takes p ss (trees_of ts x)) (past is i h) ∙ takes_no_type p ss) d

pub types_no_name : (p : Place) (ss : List Spot) (us : Tys) (all : List Take) (a b : Walk) (g0 g1 : List code_target.Target) (f0 f1 : List code.Flaw) (o0 o1 : List CoreStmt) → ss ≡ [] → Defines (type_takes p ss us) all a b g0 g1 f0 f1 o0 o1 → Defines [] all a b g0 g1 f0 f1 o0 o1
types_no_name p ss us all a b g0 g1 f0 f1 o0 o1 q d = defines_as (type_takes p ss us) [] all a b g0 g1 f0 f1 o0 o1 (ap (λ (x : List Spot). type_takes p x us) q) d

-- ---- the statement

abbrev tree_at : TypeId → TypeTable → Ty
tree_at i table = tree_of (places table) i

abbrev stored_of : core.Exprs → List Target → core.Stmt
stored_of es gs = core.store gs es

pub defines_does : (fs : List Flaw) (ks : List Take) (es : core.Exprs) (a c : Walk) (g0 gs : List code_target.Target) (f0 f1 f2 : List code.Flaw) (o0 o1 o2 : List CoreStmt) → g0 ≡ [] → Defines [] ks a c g0 gs f0 f1 o0 o1 → map flaw_view f2 ≡ map flaw_view f1 ++ fs
    → ((ts : List Ty) → Keeps (table_of c.env) ts → map (stmt_view ts) o2 ≡ map (stmt_view ts) o1 ++ core.store (map (target_view ts) gs) es ∷ []) → Does (defined fs ks es) a c f0 f2 o0 o2
defines_does fs ks es a c g0 gs f0 f1 f2 o0 o1 o2 z d t s = record {
  told = λ ts l. t ∙ ap (λ (x : List Flaw). x ++ fs) (sym (append-nil (map flaw_view f1)) ∙ d.told) ∙ append_assoc (map flaw_view f0) (take_flaws ks) fs;
  core = λ ts l.
      let w = walk_of ts a in
      s ts l
      ∙ ap (λ (x : List Target). map (stmt_view ts) o1 ++ stored_of es x ∷ []) (sym (append-nil (map (target_view ts) gs)) ∙ d.targets ts l ∙ ap (λ (x : List code_target.Target). map (target_view ts) x ++ (done ks w).targets) z)
      ∙ ap (λ (x : List core.Stmt). x ++ stored_of es (done ks w).targets ∷ []) (sym (append-nil (map (stmt_view ts) o1)) ∙ d.stmts ts l)
      ∙ append_assoc (map (stmt_view ts) o0) (done ks w).before (stored_of es (done ks w).targets ∷ []);
  walk = λ ts l. d.walk ts l;
  depth = d.depth;
  kept = λ i l. ap (tree_at i) d.table;
  counts = let e : size (table_of c.env) ≡ size (table_of a.env) = ap size d.table in omega (arith, e);
}

pub values_does : (fs : List Flaw) (ks : List Take) (cs : List core.Expr) (a c : Walk) (g0 gs : List code_target.Target) (e0 es : List CoreExpr) (f0 f1 f2 : List code.Flaw) (o0 o1 o2 : List CoreStmt) → g0 ≡ [] → e0 ≡ [] → Defines [] ks a c g0 gs f0 f1 o0 o1
    → ((ts : List Ty) → Keeps (table_of c.env) ts → map (expr_view ts) es ≡ map (expr_view ts) e0 ++ cs) → map flaw_view f2 ≡ map flaw_view f1 ++ fs
    → ((ts : List Ty) → map (stmt_view ts) o2 ≡ map (stmt_view ts) o1 ++ core.store (map (target_view ts) gs) (exprs_of (map (expr_view ts) es)) ∷ []) → Does (defined fs ks (exprs_of cs)) a c f0 f2 o0 o2
values_does fs ks cs a c g0 gs e0 es f0 f1 f2 o0 o1 o2 z y d v t s =
    defines_does fs ks (exprs_of cs) a c g0 gs f0 f1 f2 o0 o1 o2 z d t
    (λ ts l. s ts ∙ ap (λ (x : List core.Expr). map (stmt_view ts) o1 ++ core.store (map (target_view ts) gs) (exprs_of x) ∷ []) (v ts l ∙ ap (λ (x : List CoreExpr). map (expr_view ts) x ++ cs) y))

-- the call's value over the table after its names are declared
pub call_does : (fs : List Flaw) (ks : List Take) (r : code_raw.Raw) (a c : Walk) (g0 gs : List code_target.Target) (f0 f1 f2 : List code.Flaw) (o0 o1 o2 : List CoreStmt) → g0 ≡ [] → Defines [] ks a c g0 gs f0 f1 o0 o1 → map flaw_view f2 ≡ map flaw_view f1 ++ fs
    → ((ts : List Ty) → Keeps (table_of c.env) ts → map (stmt_view ts) o2 ≡ map (stmt_view ts) o1 ++ core.store (map (target_view ts) gs) (core.expr (core_of (raw_view (places (table_of c.env)) r).part.answer) core.no_exprs) ∷ [])
    → Does (defined fs ks (core.expr (core_of (raw_view (places (table_of a.env)) r).part.answer) core.no_exprs)) a c f0 f2 o0 o2
call_does fs ks r a c g0 gs f0 f1 f2 o0 o1 o2 z d t s =
    defines_does fs ks (core.expr (core_of (raw_view (places (table_of a.env)) r).part.answer) core.no_exprs) a c g0 gs f0 f1 f2 o0 o1 o2 z d t
    (λ ts l. s ts l ∙ ap (λ (x : TypeTable). map (stmt_view ts) o1 ++ core.store (map (target_view ts) gs) (core.expr (core_of (raw_view (places x) r).part.answer) core.no_exprs) ∷ []) d.table)

-- ---- a wrong count

pub parts_told : (at : Place) (number : ℕ) (rs : List Raw) (fs before after mid parts : List Flaw) (none : List code.Flaw) (typed known : Bool) → none ≡ [] → known ≡ (typed && all_known rs) → mid ≡ map flaw_view none ++ all_told rs → parts ≡ mid ++ fs
    → after ≡ before ++ where_typed known parts (flaw at number ∷ []) → after ≡ before ++ where_typed (typed && all_known rs) (all_told rs ++ fs) (flaw at number ∷ [])
parts_told at number rs fs before after mid parts none typed known z k m p h =
    h ∙ ap (λ (b : Bool). before ++ where_typed b parts (flaw at number ∷ [])) k
    ∙ ap (λ (x : List Flaw). before ++ where_typed (typed && all_known rs) x (flaw at number ∷ [])) (p ∙ ap (λ (x : List Flaw). x ++ fs) (m ∙ ap (λ (x : List code.Flaw). map flaw_view x ++ all_told rs) z))

pub unknowns_step : (b c : Walk) (fs fs1 : List code_fresh.Fresh) (s : Spot) (ts : List Ty) (u : go.Walk) → fresh_after (places (table_of b.env)) fs [] ≡ s ∷ fresh_after (places (table_of b.env)) fs1 [] → walk_of ts c ≡ spot_walk s None (walk_of ts b) → table_of c.env ≡ table_of b.env
    → unknowns (fresh_after (places (table_of b.env)) fs []) (walk_of ts b) ≡ u → unknowns (fresh_after (places (table_of c.env)) fs1 []) (walk_of ts c) ≡ u
unknowns_step b c fs fs1 s ts u p m e h =
    ap (λ (t : TypeTable). unknowns (fresh_after (places t) fs1 []) (walk_of ts c)) e
    ∙ ap (λ (w : go.Walk). unknowns (fresh_after (places (table_of b.env)) fs1 []) w) m
    ∙ sym (ap (λ (x : List Spot). unknowns x (walk_of ts b)) p)
    ∙ h

pub unknowns_end : (ss all : List Spot) (a b : Walk) → ss ≡ [] → table_of b.env ≡ table_of a.env → depth b ≡ depth a → ((ts : List Ty) → Keeps (table_of b.env) ts → unknowns ss (walk_of ts b) ≡ unknowns all (walk_of ts a)) → Moves (unknowns all) a b
unknowns_end ss all a b p t d h = moves_in (unknowns all) a b t d (λ ts l. sym (ap (λ (x : List Spot). unknowns x (walk_of ts b)) p) ∙ h ts (keeps_back (table_of a.env) (table_of b.env) ts t l))

pub olds_step : (ss ss1 : List Spot) (s : Spot) (before after all : List Flaw) → ss ≡ s ∷ ss1 → after ≡ before ++ spot_flaws s → before ++ spots_flaws ss ≡ all → after ++ spots_flaws ss1 ≡ all
olds_step ss ss1 s before after all p q h =
    ap (λ (x : List Flaw). x ++ spots_flaws ss1) q ∙ append_assoc before (spot_flaws s) (spots_flaws ss1) ∙ sym (ap (λ (x : List Spot). before ++ spots_flaws x) p) ∙ h

pub old_step : (b c : Walk) (fs fs1 : List code_fresh.Fresh) (s : Spot) (before after all : List Flaw) → fresh_after (places (table_of b.env)) fs [] ≡ s ∷ fresh_after (places (table_of b.env)) fs1 [] → table_of c.env ≡ table_of b.env → after ≡ before ++ spot_flaws s
    → before ++ spots_flaws (fresh_after (places (table_of b.env)) fs []) ≡ all → after ++ spots_flaws (fresh_after (places (table_of c.env)) fs1 []) ≡ all
old_step b c fs fs1 s before after all p e q h =
    ap (λ (t : TypeTable). after ++ spots_flaws (fresh_after (places t) fs1 [])) e ∙ olds_step (fresh_after (places (table_of b.env)) fs []) (fresh_after (places (table_of b.env)) fs1 []) s before after all p q h

pub old_end : (ss : List Spot) (now all : List Flaw) → ss ≡ [] → now ++ spots_flaws ss ≡ all → now ≡ all
old_end ss now all p h = sym (append-nil now) ∙ sym (ap (λ (x : List Spot). now ++ spots_flaws x) p) ∙ h

-- first where all are typed, and then of the names
pub sides_said : (f : Flaw) (fs : List Flaw) (ss : List Spot) (rs : List Raw) (f0 f1 f2 : List code.Flaw) (typed : Bool) → typed ≡ spots_typed ss → map flaw_view f1 ≡ map flaw_view f0 ++ where_typed (typed && all_known rs) (all_told rs ++ fs) (f ∷ [])
    → map flaw_view f2 ≡ map flaw_view f1 ++ spots_flaws ss → map flaw_view f2 ≡ map flaw_view f0 ++ parts_flaws f fs ss rs
sides_said f fs ss rs f0 f1 f2 typed k h g =
    g ∙ ap (λ (x : List Flaw). x ++ spots_flaws ss) (h ∙ ap (λ (b : Bool). map flaw_view f0 ++ where_typed (b && all_known rs) (all_told rs ++ fs) (f ∷ [])) k)
    ∙ append_assoc (map flaw_view f0) (where_typed (spots_typed ss && all_known rs) (all_told rs ++ fs) (f ∷ [])) (spots_flaws ss)

pub not_does : (at : Place) (fs : List Flaw) (ss : List Spot) (rs : List Raw) (a c : Walk) (f0 f1 f2 : List code.Flaw) (typed : Bool) (out : List CoreStmt) → Moves (unknowns ss) a c → typed ≡ spots_typed ss
    → map flaw_view f1 ≡ map flaw_view f0 ++ where_typed (typed && all_known rs) (all_told rs ++ fs) (flaw at 84 ∷ []) → map flaw_view f2 ≡ map flaw_view f1 ++ spots_flaws ss → Does (not_defined at fs ss rs) a c f0 f2 out out
not_does at fs ss rs a c f0 f1 f2 typed out m k h g =
    does_made (not_defined at fs ss rs) (unknowns ss) a c (parts_flaws (flaw at 84) fs ss rs) [] f0 f2 out out m
    (record { told = sides_said (flaw at 84) fs ss rs f0 f1 f2 typed k h g; core = λ ts l. sym (append-nil (map (stmt_view ts) out)) }) (λ ts. refl)

-- ---- how many

fresh_count : (ts : List Ty) (fs : List code_fresh.Fresh) (after : List Spot) → length (fresh_after ts fs after) ≡ length fs + length after
fresh_count ts [] after = omega arith
fresh_count ts (f ∷ fs) after = let h = fresh_count ts fs (fresh_view ts f ∷ after) in omega (arith, h)

raw_count : (ts : List Ty) (rs : List code_raw.Raw) (after : List Raw) → length (raws_after ts rs after) ≡ length rs + length after
raw_count ts [] after = omega arith
raw_count ts (r ∷ rs) after = let h = raw_count ts rs (raw_view ts r ∷ after) in omega (arith, h)

values_many : (ss : List Spot) (rs : List Raw) → length ss ≡ length rs → as_many_values ss rs ≡ true
values_many [] [] h = refl
values_many [] (r ∷ rs) h = absurd (omega (arith, h))
values_many (s ∷ ss) [] h = absurd (omega (arith, h))
values_many (s ∷ ss) (r ∷ rs) h = values_many ss rs (omega (arith, h))

values_not : (ss : List Spot) (rs : List Raw) → (length ss ≡ length rs → ⊥) → as_many_values ss rs ≡ false
values_not [] [] h = absurd (h refl)
values_not [] (r ∷ rs) h = refl
values_not (s ∷ ss) [] h = refl
values_not (s ∷ ss) (r ∷ rs) h = values_not ss rs (λ e. h (ap suc e))

types_many : (ts : List Ty) (ss : List Spot) (is : List TypeId) → length ss ≡ length is → as_many_types ss (trees_of ts is) ≡ true
types_many ts [] [] h = refl
types_many ts [] (i ∷ is) h = absurd (omega (arith, h))
types_many ts (s ∷ ss) [] h = absurd (omega (arith, h))
types_many ts (s ∷ ss) (i ∷ is) h = types_many ts ss is (omega (arith, h))

types_not : (ts : List Ty) (ss : List Spot) (is : List TypeId) → (length ss ≡ length is → ⊥) → as_many_types ss (trees_of ts is) ≡ false
types_not ts [] [] h = absurd (h refl)
types_not ts [] (i ∷ is) h = refl
types_not ts (s ∷ ss) [] h = refl
types_not ts (s ∷ ss) (i ∷ is) h = types_not ts ss is (λ e. h (ap suc e))

pick_true : (b : Bool) (g h : Did) → b ≡ true → g ≡ (if b then g else h)
pick_true b g h p = sym (ap (λ (x : Bool). if x then g else h) p)

pick_false : (b : Bool) (g h : Did) → b ≡ false → h ≡ (if b then g else h)
pick_false b g h p = sym (ap (λ (x : Bool). if x then g else h) p)

abbrev spots_in : List Ty → List code_fresh.Fresh → List Spot
spots_in ts fs = fresh_after ts fs []

abbrev raws_in : List Ty → List code_raw.Raw → List Raw
raws_in ts rs = raws_after ts rs []

pub by_values_many : (ns : List NamedTy) (at : Place) (fl : List Flaw) (ts : List Ty) (fs : List code_fresh.Fresh) (rs : List code_raw.Raw) (a c : Walk) (f0 f1 : List code.Flaw) (o0 o1 : List CoreStmt) → length fs ≡ length rs
    → Does (defined fl (value_takes ns (spots_in ts fs) (raws_in ts rs)) (exprs_of (value_cores ns (spots_in ts fs) (raws_in ts rs)))) a c f0 f1 o0 o1 → Does (defined_by ns at fl (spots_in ts fs) (raws_in ts rs) None) a c f0 f1 o0 o1
by_values_many ns at fl ts fs rs a c f0 f1 o0 o1 h d =
    let ss = spots_in ts fs in
    let r = raws_in ts rs in
    let n : length ss ≡ length r = (let x = fresh_count ts fs [] in let y = raw_count ts rs [] in omega (arith, x, y, h)) in
    does_same (defined fl (value_takes ns ss r) (exprs_of (value_cores ns ss r))) (defined_by ns at fl ss r None) a c f0 f1 o0 o1
    (λ w. pick_true (as_many_values ss r) (defined fl (value_takes ns ss r) (exprs_of (value_cores ns ss r)) w) (not_defined at fl ss r w) (values_many ss r n)) d

pub by_values_not : (ns : List NamedTy) (at : Place) (fl : List Flaw) (ts : List Ty) (fs : List code_fresh.Fresh) (rs : List code_raw.Raw) (a c : Walk) (f0 f1 : List code.Flaw) (out : List CoreStmt) → (length fs ≡ length rs → ⊥)
    → Does (not_defined at fl (spots_in ts fs) (raws_in ts rs)) a c f0 f1 out out → Does (defined_by ns at fl (spots_in ts fs) (raws_in ts rs) None) a c f0 f1 out out
by_values_not ns at fl ts fs rs a c f0 f1 out h d =
    let ss = spots_in ts fs in
    let r = raws_in ts rs in
    let n : length ss ≡ length r → ⊥ = λ e. h (let x = fresh_count ts fs [] in let y = raw_count ts rs [] in omega (arith, x, y, e)) in
    does_same (not_defined at fl ss r) (defined_by ns at fl ss r None) a c f0 f1 out out
    (λ w. pick_false (as_many_values ss r) (defined fl (value_takes ns ss r) (exprs_of (value_cores ns ss r)) w) (not_defined at fl ss r w) (values_not ss r n)) d

abbrev call_defined : List Flaw → List Spot → Raw → Tys → go.Walk → Did
call_defined fl ss r us w = defined fl (type_takes r.part.place ss us) (core.expr (core_of r.part.answer) core.no_exprs) w

abbrev by_did : List NamedTy → Place → List Flaw → List Spot → Tys → go.Walk → List Raw → Did
by_did ns at fl ss us w rs = defined_by ns at fl ss rs (Some us) w

pub by_types_many : (ns : List NamedTy) (at : Place) (fl : List Flaw) (ts : List Ty) (fs : List code_fresh.Fresh) (rs rest : List Raw) (r : Raw) (is : List TypeId) (a c : Walk) (f0 f1 : List code.Flaw) (o0 o1 : List CoreStmt) → length fs ≡ length is → rs ≡ r ∷ rest
    → Does (defined fl (type_takes r.part.place (spots_in ts fs) (trees_of ts is)) (core.expr (core_of r.part.answer) core.no_exprs)) a c f0 f1 o0 o1 → Does (defined_by ns at fl (spots_in ts fs) rs (Some (trees_of ts is))) a c f0 f1 o0 o1
by_types_many ns at fl ts fs rs rest r is a c f0 f1 o0 o1 h p d =
    let ss = spots_in ts fs in
    let us = trees_of ts is in
    let n : length ss ≡ length is = (let x = fresh_count ts fs [] in omega (arith, x, h)) in
    does_same (call_defined fl ss r us) (defined_by ns at fl ss rs (Some us)) a c f0 f1 o0 o1
    (λ w. pick_true (as_many_types ss us) (call_defined fl ss r us w) (not_defined at fl ss (r ∷ rest) w) (types_many ts ss is n) ∙ ap (by_did ns at fl ss us w) (sym p)) d

not_by : (ns : List NamedTy) (at : Place) (fl : List Flaw) (ss : List Spot) (rs : List Raw) (us : Tys) (w : go.Walk) → as_many_types ss us ≡ false → not_defined at fl ss rs w ≡ defined_by ns at fl ss rs (Some us) w
not_by ns at fl ss [] us w h = refl
not_by ns at fl ss (r ∷ rs) us w h = pick_false (as_many_types ss us) (call_defined fl ss r us w) (not_defined at fl ss (r ∷ rs) w) h

pub by_types_not : (ns : List NamedTy) (at : Place) (fl : List Flaw) (ts : List Ty) (fs : List code_fresh.Fresh) (rs : List Raw) (is : List TypeId) (a c : Walk) (f0 f1 : List code.Flaw) (out : List CoreStmt) → (length fs ≡ length is → ⊥)
    → Does (not_defined at fl (spots_in ts fs) rs) a c f0 f1 out out → Does (defined_by ns at fl (spots_in ts fs) rs (Some (trees_of ts is))) a c f0 f1 out out
by_types_not ns at fl ts fs rs is a c f0 f1 out h d =
    let ss = spots_in ts fs in
    let us = trees_of ts is in
    let n : length ss ≡ length is → ⊥ = λ e. h (let x = fresh_count ts fs [] in omega (arith, x, e)) in
    does_same (not_defined at fl ss rs) (defined_by ns at fl ss rs (Some us)) a c f0 f1 out out (λ w. not_by ns at fl ss rs us w (types_not ts ss is n)) d

-- no value at all
pub by_none : (ns : List NamedTy) (at : Place) (fl : List Flaw) (ss : List Spot) (rs : List Raw) (ts : List Ty) (os : List code_raw.Raw) (us : Tys) (a c : Walk) (f0 f1 : List code.Flaw) (out : List CoreStmt) → rs ≡ [] → os ≡ []
    → Does (not_defined at fl ss (raws_in ts os)) a c f0 f1 out out → Does (defined_by ns at fl ss rs (Some us)) a c f0 f1 out out
by_none ns at fl ss rs ts os us a c f0 f1 out p q d =
    does_same (not_defined at fl ss (raws_in ts os)) (defined_by ns at fl ss rs (Some us)) a c f0 f1 out out
    (λ w. ap (λ (x : List code_raw.Raw). not_defined at fl ss (raws_in ts x) w) q ∙ ap (by_did ns at fl ss us w) (sym p)) d

pub does_by : (ns : List NamedTy) (at : Place) (fl : List Flaw) (ss : List Spot) (rs : List Raw) (o q : Option Tys) (a c : Walk) (f0 f1 : List code.Flaw) (o0 o1 : List CoreStmt) → o ≡ q → Does (defined_by ns at fl ss rs o) a c f0 f1 o0 o1 → Does (defined_by ns at fl ss rs q) a c f0 f1 o0 o1
does_by ns at fl ss rs o q a c f0 f1 o0 o1 p d = subst (λ (x : Option Tys). Does (defined_by ns at fl ss rs x) a c f0 f1 o0 o1) p d

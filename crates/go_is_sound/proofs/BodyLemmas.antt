-- Variables of functions: those of the head, and those that are captured.
use Rattle.std.proofs.Common.{◌⊎◌, inl, inr, refl, sym, ap, ◌∙◌, subst, arith, append_assoc, append-nil}
use Rattle.std.specs.Prelude.{◌≡◌, ◌-◌, ◌+◌, ◌≤◌, ℕ, List, [], ◌∷◌, ◌++◌, Bool, true, false, Option, Result, IfOk, length, map, take, drop, Contains, All}
use Rattle.std.proofs.lemmas.List.{length-append, length-map, at_drop_all}
use Rattle.std.proofs.Math.Seq.{take-append_seam, drop-append_seam}
use Rattle.std.specs.List.{take-map}
use Rattle.go_type.specs.Tree.{Ty}
use Rattle.go_type.specs.Levels.{tree_of, trees_of}
use Rattle.go_type.specs.Table.{places}
use Rattle.go_type.specs.declared.types.TypeId.{TypeId}
use Rattle.go_core.specs.declared.node.Var as declared
use Rattle.go_core.specs.declared.node.VarId.{VarId}
use Rattle.go_core.specs.declared.node.CoreExpr.{CoreExpr}
use Rattle.go_core.specs.declared.statement.CoreStmts.{CoreStmts}
use Rattle.go_core.specs.declared.program.Func.{Func}
use Rattle.go_core.specs.declared.program.Program.{Program}
use Rattle.go_core.specs.CoreTree.{Var}
use Rattle.go_core.specs.CoreView.{expr_view, stmts_view, func_view, id_of, program_view, var_of}
use Rattle.go_core.specs.TypeOf.{listed_types}
use Rattle.go_core.specs.SoundNode.{Around, IsGoodType, IsRowOf, types_of_vars}
use Rattle.go_core.specs.Sound.{SoundExpr, SoundStmts}
use Rattle.go_core.specs.SoundProgram.{SoundFunc, Terminates, captured_vars, or_none}
use Rattle.go_sound_nodes.specs.declared.judge.Judge.{Judge}
use Rattle.go_sound_nodes.specs.declared.round.Round.{Round}
use Rattle.go_sound_nodes.specs.Around.{around, program_in, trees_in}
use Rattle.go_is_sound.specs.Bodies.{AreCaptured, CapturedSoFar, HasBody, IsCaptured, Pushes, head_around}
use Rattle.go_is_sound.proofs.ListLemmas.{onto_mapped}
use Rattle.go_is_sound.specs.Functions.{Begins, OwnFrom, AreReceivers, IsKind}

-- ---- what variables begin with

types_append : (xs ys : List Var) → types_of_vars (xs ++ ys) ≡ types_of_vars xs ++ types_of_vars ys
types_append [] ys = refl
types_append (x ∷ xs) ys = ap (λ (us : List Ty). x.type_ ∷ us) (types_append xs ys)

pub begin_none : (vs : List Var) → Begins vs vs []
begin_none vs = record { head = []; parts = refl; of_types = refl }

pub begin_one : (v : Var) (vs rest : List Var) (t : Ty) (us : List Ty) → v.type_ ≡ t → Begins vs rest us → Begins (v ∷ vs) rest (t ∷ us)
begin_one v vs rest t us e h = record {
  head = v ∷ h.head;
  parts = ap (λ (ws : List Var). v ∷ ws) h.parts;
  of_types = ap (λ (u : Ty). u ∷ types_of_vars h.head) e ∙ ap (λ (ws : List Ty). t ∷ ws) h.of_types;
}

pub begin_both : (a b c : List Var) (us ws : List Ty) → Begins a b us → Begins b c ws → Begins a c (us ++ ws)
begin_both a b c us ws h k = record {
  head = h.head ++ k.head;
  parts = h.parts ∙ ap (λ (vs : List Var). h.head ++ vs) k.parts ∙ sym (append_assoc h.head k.head c);
  of_types = types_append h.head k.head ∙ ap (λ (xs : List Ty). xs ++ types_of_vars k.head) h.of_types ∙ ap (λ (xs : List Ty). us ++ xs) k.of_types;
}

pub own_more : (m : Bool) (a b c : List Var) (us ws : List Ty) → OwnFrom m a b us → Begins b c ws → OwnFrom m a c (us ++ ws)
own_more m a b c us ws h k = record {
  receivers = h.receivers;
  fit = h.fit;
  begins = subst (λ (xs : List Ty). Begins a c xs) (append_assoc h.receivers us ws) (begin_both a b c (h.receivers ++ us) ws h.begins k);
}

same_tree : (ts : List Ty) (a b : TypeId) → a.0 ≡ b.0 → tree_of ts a ≡ tree_of ts b
same_tree ts a b e = ap (λ (n : ℕ). tree_of ts (record { 0 = n })) e

pub begin_more : (ts : List Ty) (vs : List declared.Var) (v : declared.Var) (rest own : List declared.Var) (us : List TypeId) (t : TypeId) (others : List TypeId)
    → vs ≡ v ∷ rest → us ≡ t ∷ others → v.ty.0 ≡ t.0 → Begins (map (var_of ts) rest) (map (var_of ts) own) (listed_types (trees_of ts others))
    → Begins (map (var_of ts) vs) (map (var_of ts) own) (listed_types (trees_of ts us))
begin_more ts vs v rest own us t others e f g h =
    subst (λ (xs : List declared.Var). Begins (map (var_of ts) xs) (map (var_of ts) own) (listed_types (trees_of ts us))) (sym e)
    (subst (λ (xs : List TypeId). Begins (map (var_of ts) (v ∷ rest)) (map (var_of ts) own) (listed_types (trees_of ts xs))) (sym f)
    (begin_one (var_of ts v) (map (var_of ts) rest) (map (var_of ts) own) (tree_of ts t) (listed_types (trees_of ts others)) (same_tree ts v.ty t g) h))

pub own_one : (ts : List Ty) (vs : List declared.Var) (v : declared.Var) (rest : List declared.Var) (m : Bool) → m ≡ true → vs ≡ v ∷ rest → OwnFrom m (map (var_of ts) vs) (map (var_of ts) rest) []
own_one ts vs v rest false e f = absurd (cc)
own_one ts vs v rest true e f =
    subst (λ (xs : List declared.Var). OwnFrom true (map (var_of ts) xs) (map (var_of ts) rest) []) (sym f)
    (record {
      receivers = tree_of ts v.ty ∷ [];
      fit = (tree_of ts v.ty, refl);
      begins = begin_one (var_of ts v) (map (var_of ts) rest) (map (var_of ts) rest) (tree_of ts v.ty) [] refl (begin_none (map (var_of ts) rest));
    })

pub own_all : (m : Bool) (a b c d : List Var) (us ws : List Ty) → OwnFrom m a b [] → Begins b c us → Begins c d ws → OwnFrom m a d (us ++ ws)
own_all m a b c d us ws h k l = own_more m a c d us ws (own_more m a b c [] us h k) l

-- ---- captured variables

pub captured_one : (p : Program) (v : ℕ) (x : declared.Var) (vs : List ℕ) → IsCaptured p v x
    → captured_vars (program_view p) (v ∷ vs) ≡ var_of (places p.types) x ∷ captured_vars (program_view p) vs
captured_one p v x vs h =
    ap (λ (o : Option Ty). or_none o v ++ captured_vars (program_view p) vs) h.of_type
    ∙ ap (λ (n : ℕ). (let y : Var = record { id = n; type_ = tree_of (places p.types) x.ty } in y) ∷ captured_vars (program_view p) vs) (sym h.number)

-- ---- the whole function

record Apart (vs head own : List Var) : Type 0 where
  front : take (length head) vs ≡ head
  back : drop (length head) vs ≡ own

apart : (vs head own : List Var) → vs ≡ head ++ own → Apart vs head own
apart vs head own e = record {
  front = ap (take (length head)) e ∙ take-append_seam head own;
  back = ap (drop (length head)) e ∙ drop-append_seam head own;
}

receivers_of : (p : Program) (k : ℕ) (m : Bool) (us : List Ty) → AreReceivers m us → IsKind p k m
    → (us ≡ []) × (IsRowOf (program_view p) k → ⊥) ⊎ (t : Ty) × (us ≡ t ∷ []) × IsRowOf (program_view p) k
receivers_of p k true us r h = inr (r.0, r.1, h)
receivers_of p k false us r h = inl (r, h)

pub func_sound : (p : Program) (k : ℕ) (f : Func) (m : Bool) (head own : List declared.Var) → head ≡ take (length f.vars.items.items - length own) f.vars.items.items
    → (let g = func_view (places p.types) f in OwnFrom m g.vars (map (var_of (places p.types)) own) (listed_types g.params ++ listed_types g.results))
    → IsKind p k m → All (λ (v : Var). IsGoodType (program_view p) v.type_) (func_view (places p.types) f).vars → Terminates (func_view (places p.types) f)
    → HasBody p f (map (var_of (places p.types)) head) (map (var_of (places p.types)) own) → SoundFunc (program_view p) k (func_view (places p.types) f)
func_sound p k f m head own e o n g t body =
    let ts = places p.types in
    let vs = f.vars.items.items in
    let ws = map (var_of ts) vs in
    let us = map (var_of ts) own in
    let b = o.begins in
    let a = apart ws b.head us b.parts in
    let l1 : length ws ≡ length vs = length-map vs (var_of ts) in
    let l2 : length us ≡ length own = length-map own (var_of ts) in
    let l3 : length ws ≡ length (b.head ++ us) = ap length b.parts in
    let l4 : length (b.head ++ us) ≡ length b.head + length us = length-append b.head us in
    let l5 : length vs - length own ≡ length b.head = omega (arith, l1, l2, l3, l4) in
    let h : map (var_of ts) head ≡ take (length b.head) ws =
    ap (map (var_of ts)) (e ∙ ap (λ (i : ℕ). take i vs) l5) ∙ sym (take-map (var_of ts) (length b.head) vs) in
    record {
      receiver = o.receivers;
      is_method = receivers_of p k m o.receivers o.fit n;
      header = length b.head;
      begins = ap types_of_vars a.front ∙ b.of_types ∙ sym (append_assoc o.receivers (listed_types (func_view ts f).params) (listed_types (func_view ts f).results));
      captured_known = body.captured_known;
      sound_types = g;
      sound_body =
          subst (λ (xs : List Var). SoundStmts (program_view p) (record { vars = take (length b.head) ws ++ captured_vars (program_view p) (func_view ts f).captured; declarable = xs; results = (func_view ts f).results; breaks = []; continues = [] }) (func_view ts f).body) (sym a.back)
          (subst (λ (xs : List Var). SoundStmts (program_view p) (record { vars = xs ++ captured_vars (program_view p) (func_view ts f).captured; declarable = us; results = (func_view ts f).results; breaks = []; continues = [] }) (func_view ts f).body) h body.sound_body);
      terminates = t;
    }

-- ---- captured variables, one after another

pub captured_more : (p : Program) (old new : List declared.Var) (v : ℕ) (rest ids : List ℕ) → Pushes p v old new → CapturedSoFar p old (v ∷ rest) ids → CapturedSoFar p new rest ids
captured_more p old new v rest ids h k = record {
  known =
      ap (λ (xs : List declared.Var). map (var_of (places p.types)) xs ++ captured_vars (program_view p) rest) h.pushed
      ∙ onto_mapped (var_of (places p.types)) old (h.var ∷ []) (captured_vars (program_view p) rest)
      ∙ ap (λ (us : List Var). map (var_of (places p.types)) old ++ us) (sym (captured_one p v h.var rest h.is_captured))
      ∙ k.known;
  counted = let e = ap length h.pushed in let l = length-append old (h.var ∷ []) in let m = k.counted in omega (arith, e, l, m);
}

pub captured_step : (p : Program) (old new : List declared.Var) (vs : List VarId) (i : ℕ) (v : VarId) → drop i vs ≡ v ∷ drop (i + 1) vs → Pushes p v.0 old new
    → CapturedSoFar p old (map id_of (drop i vs)) (map id_of vs) → CapturedSoFar p new (map id_of (drop (i + 1) vs)) (map id_of vs)
captured_step p old new vs i v e h k =
    captured_more p old new v.0 (map id_of (drop (i + 1) vs)) (map id_of vs) h (subst (λ (xs : List VarId). CapturedSoFar p old (map id_of xs) (map id_of vs)) e k)

pub captured_all : (p : Program) (vars : List declared.Var) (ids : List ℕ) → CapturedSoFar p vars [] ids → AreCaptured p ids vars
captured_all p vars ids h = record {
  known = sym (append-nil (map (var_of (places p.types)) vars)) ∙ h.known;
  all_known = let e = ap length (sym (append-nil (map (var_of (places p.types)) vars)) ∙ h.known) in let l = length-map vars (var_of (places p.types)) in let m = h.counted in omega (arith, e, l, m);
}

pub body_of : (p : Program) (f : Func) (head own captured : List declared.Var) → AreCaptured p (func_view (places p.types) f).captured captured
    → (let ts = places p.types in let g = func_view ts f in
    SoundStmts (program_view p) (record { vars = map (var_of ts) head ++ map (var_of ts) captured; declarable = map (var_of ts) own; results = g.results; breaks = []; continues = [] }) g.body)
    → HasBody p f (map (var_of (places p.types)) head) (map (var_of (places p.types)) own)
body_of p f head own captured h s = record {
  captured_known = h.all_known;
  sound_body =
      let ts = places p.types in
      let g = func_view ts f in
      subst (λ (us : List Var). SoundStmts (program_view p) (record { vars = map (var_of ts) head ++ us; declarable = map (var_of ts) own; results = g.results; breaks = []; continues = [] }) g.body) h.known s;
}

pub captured_end : (p : Program) (vars : List declared.Var) (vs all : List VarId) (i : ℕ) → vs ≡ all → length vs ≤ i → CapturedSoFar p vars (map id_of (drop i vs)) (map id_of vs) → AreCaptured p (map id_of all) vars
captured_end p vars vs all i e l h =
    captured_all p vars (map id_of all)
    (subst (λ (xs : List VarId). CapturedSoFar p vars [] (map id_of xs)) e (subst (λ (ns : List ℕ). CapturedSoFar p vars ns (map id_of vs)) (at_drop_all (map id_of) vs i l) h))

-- ---- what a judge says of a body

module _ {E : Type 0} (r : Result Bool E) (b : CoreStmts) (head captured : List declared.Var) where
  abbrev BodySound : Program → List declared.Var → List TypeId → Type 0
  BodySound p own ids = IfOk r (λ x. x ≡ true → SoundStmts (program_view p) (head_around (places p.types) head captured own ids) (stmts_view (places p.types) b))

  pub body_judged : (j : Judge) (round : Round) (p : Program) (own : List declared.Var) (ids : List TypeId)
      → around j round ≡ head_around (trees_in j) head captured j.declarable.now j.results.now → j.program.now ≡ p → j.declarable.now ≡ own → j.results.now ≡ ids
      → IfOk r (λ x. x ≡ true → SoundStmts (program_in j) (around j round) (stmts_view (trees_in j) b)) → BodySound p own ids
  body_judged j round p own ids e k d n h =
      subst (λ (us : List TypeId). BodySound p own us) n
      (subst (λ (vs : List declared.Var). BodySound p vs j.results.now) d
      (subst (λ (q : Program). BodySound q j.declarable.now j.results.now) k
      (subst (λ (a : Around). IfOk r (λ x. x ≡ true → SoundStmts (program_in j) a (stmts_view (trees_in j) b))) e h)))

module _ (e : CoreExpr) where
  abbrev ExprSound : Program → List declared.Var → List TypeId → Type 0
  ExprSound p own ids = SoundExpr (program_view p) (head_around (places p.types) [] [] own ids) (expr_view (places p.types) e)

  pub expr_judged : (j : Judge) (round : Round) (p : Program) (own : List declared.Var) (ids : List TypeId)
      → around j round ≡ head_around (trees_in j) [] [] j.declarable.now j.results.now → j.program.now ≡ p → j.declarable.now ≡ own → j.results.now ≡ ids
      → SoundExpr (program_in j) (around j round) (expr_view (trees_in j) e) → ExprSound p own ids
  expr_judged j round p own ids a k d n h =
      subst (λ (us : List TypeId). ExprSound p own us) n
      (subst (λ (vs : List declared.Var). ExprSound p vs j.results.now) d
      (subst (λ (q : Program). ExprSound q j.declarable.now j.results.now) k
      (subst (λ (x : Around). SoundExpr (program_in j) x (expr_view (trees_in j) e)) a h)))

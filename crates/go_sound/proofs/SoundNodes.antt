-- A node that is typed has a core that has a meaning.
use Rattle.std.proofs.Common.{◌≡◌, ℕ, List, [], ◌∷◌, ◌++◌, ◌&&◌, refl, subst, ap, ◌∙◌, IsTrue, Bool, true, false, Option, Some, None, if◌then◌else◌}
use Rattle.gj_base.specs.declared.place.Place.{Place}
use Rattle.gj_base.specs.declared.kind.Op.{Op}
use Rattle.gj_base.specs.declared.kind.Op.TheVariants as operator
use Rattle.go_const.specs.declared.constant.Const.{Const}
use Rattle.go_syntax.specs.Tree.{Expr, NameExpr, IntExpr, RuneExpr, StrExpr, ParenExpr, UnaryExpr, BinaryExpr, IndexExpr, SliceExpr, CallExpr, MaybeExpr, NoExpr, AnExpr, Exprs, NoExprs, MoreExprs}
use Rattle.go_syntax.specs.declared.tree.Prefix.{Prefix}
use Rattle.go_syntax.specs.declared.tree.Prefix.TheVariants as «prefix»
use Rattle.go_type.specs.Tree as ty
use Rattle.go_type.specs.Tree.{Ty, Tys}
use Rattle.go_core.specs.CoreTree as core
use Rattle.go_core.specs.CoreTree.{CoreProgram}
use Rattle.go_core.specs.SoundNode.{Around, Fits}
use Rattle.go_core.specs.Sound.{LiesAt, SoundExpr}
use Rattle.go_type.specs.Underlying.{underlying}
use Rattle.go_typing.specs.Env.{Builtin, Complex, Imag, Real, Decl, variable, global, constant, type_name, function, imported, nil_value, refused, unknown, Bind, lookup, is_blank}
use Rattle.go_typing.specs.Env as env
use Rattle.go_typing.specs.Answer.{Answer, value, pending, type_, package_, built_in, blank, does, wrong, untyped_part, is_known, Part}
use Rattle.go_typing.specs.Operand.{single, constant_at, constant_of, Settled, settled, unsettled, settled_at, passed_at, Passed, passed, refused, unassignable, Operand}
use Rattle.go_typing.specs.Binary.{OpClass, Arithmetic, Comparison, Logical, binary_row}
use Rattle.go_typing.specs.Index.{is_known_bound, bound_no_value, edge_of}
use Rattle.go_typing.specs.Wanted.{wanted, wanted_operand, wanted_alone, alone_operand, settled_answer}
use Rattle.go_typing.specs.Typing.{Callee, a_function, a_built_in, by_value, callee_of, declared_callee, declared_row, built_in_name, place_of, typing, bound_part, parts, paren_row, prefix_row, operator_row, call_row}
use Rattle.go_sound.specs.SoundTyped.{is_binary, HasOperators, BoundHasOperators, AllHaveOperators, IsScalarType, IsConstantOf, DeclIsSound, OptionIsSound, ScopesAreSound, IsSoundValue, NodesAreSound, WantedAreSound, AloneAreSound, PrintsAreSound}
use Rattle.go_sound.proofs.SoundWords.{IsValue, AnswerSound, SingleSound, IsSound, sound, sound_single, value_sound, sound_bad, sound_if, sound_known, IsSettled, settled_sound, alone_sound, passed_sound}
use Rattle.go_sound.proofs.SoundRows.{unary_sound, shift_sound, singles_sound, OfClass}
use Rattle.go_sound.proofs.SoundCalls.{BoundSound, PartsSound, CallsSound, index_sound, slice_sound, edge_sound, function_sound, built_in_sound, called_sound}

module _ (p : CoreProgram) (a : Around) where
  built_in_name_sound : (at : Place) (b : Builtin) → IsSound p a (built_in_name at b)
  built_in_name_sound at Complex = sound_bad p a _ _
  built_in_name_sound at Imag = sound_bad p a _ _
  built_in_name_sound at Real = sound_bad p a _ _
  built_in_name_sound at _ = sound p a _ tt

  read_sound : (t : Ty) (place : core.CorePlace) → IsScalarType p t → LiesAt p a.vars place t → SoundExpr p a (core.read t place) → IsSound p a (value (core.read t place) t None)
  read_sound t place s l e = value_sound p a (core.read t place) t None (record { sound = e; gives = refl; scalar = s; fits = tt })

  typed_constant : (t : Ty) (k : Const) → IsScalarType p t × Fits (underlying p.names t) (constant_of k) → IsSound p a (value (constant_at t k) t (Some k))
  typed_constant t k h = value_sound p a (constant_at t k) t (Some k) (record { sound = h.1; gives = refl; scalar = h.0; fits = h.1 })

  constant_sound : (t : Ty) (k : Const) → IsConstantOf p t k → IsSound p a (value (constant_at t k) t (Some k))
  constant_sound (ty.untyped b) k h = sound p a _ tt
  constant_sound ty.bool k h = typed_constant ty.bool k h
  constant_sound ty.str k h = typed_constant ty.str k h
  constant_sound ty.nil k h = typed_constant ty.nil k h
  constant_sound (ty.int name) k h = typed_constant (ty.int name) k h
  constant_sound (ty.array n t) k h = typed_constant (ty.array n t) k h
  constant_sound (ty.slice t) k h = typed_constant (ty.slice t) k h
  constant_sound (ty.struct fs) k h = typed_constant (ty.struct fs) k h
  constant_sound (ty.pointer t) k h = typed_constant (ty.pointer t) k h
  constant_sound (ty.func ps rs v) k h = typed_constant (ty.func ps rs v) k h
  constant_sound (ty.interface ms) k h = typed_constant (ty.interface ms) k h
  constant_sound (ty.mapping l v) k h = typed_constant (ty.mapping l v) k h
  constant_sound (ty.chan d t) k h = typed_constant (ty.chan d t) k h
  constant_sound (ty.named id) k h = typed_constant (ty.named id) k h
  constant_sound (ty.tuple ts) k h = typed_constant (ty.tuple ts) k h

  declared_sound : (at : Place) (x : List ℕ) (o : Option Decl) → OptionIsSound p a o → IsSound p a (declared_row at x o)
  declared_sound at x None h = sound p a _ tt
  declared_sound at x (Some (variable id t)) h = read_sound t (core.local_ id) h.0 h.1 ((t, h.1), h.1)
  declared_sound at x (Some (global number t)) h = read_sound t (core.global number) h.0 h.1 ((t, h.1), h.1)
  declared_sound at x (Some (constant k t)) h = constant_sound t k h
  declared_sound at x (Some (type_name t)) h = sound p a _ h
  declared_sound at x (Some (function id ps rs v)) h = sound_bad p a _ _
  declared_sound at x (Some (imported path)) h = sound p a _ tt
  declared_sound at x (Some (env.built_in b)) h = built_in_name_sound at b
  declared_sound at x (Some nil_value) h = sound p a _ refl
  declared_sound at x (Some (refused code)) h = sound_bad p a _ _
  declared_sound at x (Some unknown) h = sound p a _ tt

  paren_sound : (x : Answer) → IsSound p a x → IsSound p a (paren_row x)
  paren_sound (wrong f fs) h = sound p a _ tt
  paren_sound (value c t v) h = h
  paren_sound (pending q b) h = h
  paren_sound (type_ t) h = h
  paren_sound (package_ q) h = h
  paren_sound (built_in b) h = h
  paren_sound blank h = h
  paren_sound (does s) h = h
  paren_sound untyped_part h = h

  prefix_sound : (at : Place) (op : Prefix) (x : Part) → IsSound p a x.answer → IsSound p a (prefix_row p.names at op x)
  prefix_sound at «prefix».Plus x h = sound_known p a (is_known x.answer) _ (unary_sound p a at operator.Plus x.place (single x.answer) tt (sound_single p a x.answer h))
  prefix_sound at «prefix».Neg x h = sound_known p a (is_known x.answer) _ (unary_sound p a at operator.Neg x.place (single x.answer) tt (sound_single p a x.answer h))
  prefix_sound at «prefix».Not x h = sound_known p a (is_known x.answer) _ (unary_sound p a at operator.Not x.place (single x.answer) tt (sound_single p a x.answer h))
  prefix_sound at «prefix».Compl x h = sound_known p a (is_known x.answer) _ (unary_sound p a at operator.Compl x.place (single x.answer) tt (sound_single p a x.answer h))
  prefix_sound at _ x h = sound_bad p a _ _

  binary_sound : (class : OpClass) (at : Place) (op : Op) (x y : Part) → OfClass p a class op → IsSound p a x.answer → IsSound p a y.answer → IsSound p a (binary_row p.names class at op x y)
  binary_sound class at op x y i h k =
      sound_known p a (is_known x.answer && is_known y.answer) _
      (singles_sound p a class at op x.place (single x.answer) y.place (single y.answer) i (sound_single p a x.answer h) (sound_single p a y.answer k))

  pub operator_sound : (at : Place) (op : Op) (x y : Part) → IsTrue (is_binary op) → IsSound p a x.answer → IsSound p a y.answer → IsSound p a (operator_row p.names at op x y)
  operator_sound at operator.Shl x y i h k =
      sound_known p a (is_known x.answer && is_known y.answer) _ (shift_sound p a at operator.Shl x.place (single x.answer) y.place (single y.answer) tt (sound_single p a x.answer h) (sound_single p a y.answer k))
  operator_sound at operator.Shr x y i h k =
      sound_known p a (is_known x.answer && is_known y.answer) _ (shift_sound p a at operator.Shr x.place (single x.answer) y.place (single y.answer) tt (sound_single p a x.answer h) (sound_single p a y.answer k))
  operator_sound at operator.Eq x y i h k = binary_sound Comparison at operator.Eq x y tt h k
  operator_sound at operator.Ne x y i h k = binary_sound Comparison at operator.Ne x y tt h k
  operator_sound at operator.Lt x y i h k = binary_sound Comparison at operator.Lt x y tt h k
  operator_sound at operator.Le x y i h k = binary_sound Comparison at operator.Le x y tt h k
  operator_sound at operator.Gt x y i h k = binary_sound Comparison at operator.Gt x y tt h k
  operator_sound at operator.Ge x y i h k = binary_sound Comparison at operator.Ge x y tt h k
  operator_sound at operator.AndThen x y i h k = binary_sound Logical at operator.AndThen x y tt h k
  operator_sound at operator.OrElse x y i h k = binary_sound Logical at operator.OrElse x y tt h k
  operator_sound at operator.Add x y i h k = binary_sound Arithmetic at operator.Add x y tt h k
  operator_sound at operator.Sub x y i h k = binary_sound Arithmetic at operator.Sub x y tt h k
  operator_sound at operator.Mul x y i h k = binary_sound Arithmetic at operator.Mul x y tt h k
  operator_sound at operator.Div x y i h k = binary_sound Arithmetic at operator.Div x y tt h k
  operator_sound at operator.Rem x y i h k = binary_sound Arithmetic at operator.Rem x y tt h k
  operator_sound at operator.And x y i h k = binary_sound Arithmetic at operator.And x y tt h k
  operator_sound at operator.Or x y i h k = binary_sound Arithmetic at operator.Or x y tt h k
  operator_sound at operator.Xor x y i h k = binary_sound Arithmetic at operator.Xor x y tt h k
  operator_sound at operator.AndNot x y i h k = binary_sound Arithmetic at operator.AndNot x y tt h k
  operator_sound at _ x y i h k = let e : false ≡ true = i in cc

  abbrev pub CalleeSound : Callee → Type 0
  CalleeSound (a_function id ps rs v) = CallsSound p a id ps rs v
  CalleeSound _ = Unit {0}

  function_callable : (id : ℕ) (ps rs : Tys) (v : Bool) → DeclIsSound p a (function id ps rs v) → CallsSound p a id ps rs v
  function_callable id ps rs true h = tt
  function_callable id ps rs false h = record { calls_it = h.0; no_row = h.1; params_scalar = h.2; results_scalar = h.3 }

  declared_callee_sound : (o : Option Decl) → OptionIsSound p a o → CalleeSound (declared_callee o)
  declared_callee_sound (Some (function id ps rs v)) h = function_callable id ps rs v h
  declared_callee_sound (Some (env.built_in b)) h = tt
  declared_callee_sound _ h = tt

  callee_if : (b : Bool) (c : Callee) → CalleeSound c → CalleeSound (if b then by_value else c)
  callee_if true c h = tt
  callee_if false c h = h

  pub callee_sound : (ss : List (List Bind)) → ScopesAreSound p a ss → (f : Expr) → CalleeSound (callee_of ss f)
  callee_sound ss h (NameExpr at x) = callee_if (is_blank x) (declared_callee (lookup x ss)) (declared_callee_sound (lookup x ss) (h x))
  callee_sound ss h (ParenExpr at x) = callee_sound ss h x
  callee_sound ss h _ = tt

  call_sound : (at : Place) (c : Callee) (f : Part) (spread : Bool) (xs : List Part) → CalleeSound c → IsSound p a f.answer → PartsSound p a xs → IsSound p a (call_row p.names at c f spread xs)
  call_sound at (a_function id ps rs v) f spread xs h k l = function_sound p a at id ps rs v spread xs h l
  call_sound at (a_built_in b) f spread xs h k l = built_in_sound p a at b spread xs l
  call_sound at by_value f spread xs h k l = called_sound p a at f.place f.answer spread xs k l

  module _ (ss : List (List Bind)) (scopes : ScopesAreSound p a ss) where
    mutual
      pub nodes : (e : Expr) → HasOperators e → IsSound p a (typing p.names ss e)
      nodes (NameExpr at x) o = sound_if p a (is_blank x) blank (declared_row at x (lookup x ss)) (sound p a _ tt) (declared_sound at x (lookup x ss) (scopes x))
      nodes (IntExpr at x) o = sound p a _ tt
      nodes (RuneExpr at x) o = sound p a _ tt
      nodes (StrExpr at x) o = sound p a _ tt
      nodes (ParenExpr at x) o = paren_sound (typing p.names ss x) (nodes x o)
      nodes (UnaryExpr at op x) o = prefix_sound at op (record { place = place_of x; answer = typing p.names ss x }) (nodes x o)
      nodes (BinaryExpr at x op y) o = operator_sound at op (record { place = place_of x; answer = typing p.names ss x }) (record { place = place_of y; answer = typing p.names ss y }) o.0 (nodes x o.1) (nodes y o.2)
      nodes (IndexExpr at x i) o =
          sound_known p a (is_known (typing p.names ss x) && is_known (typing p.names ss i)) _
          (index_sound p a at (place_of x) (single (typing p.names ss x)) (place_of i) (single (typing p.names ss i)) (sound_single p a (typing p.names ss x) (nodes x o.0)) (sound_single p a (typing p.names ss i) (nodes i o.1)))
      nodes (SliceExpr at x l h m) o =
          sound_known p a (is_known (typing p.names ss x) && is_known_bound (bound_part p.names ss l) && is_known_bound (bound_part p.names ss h) && is_known_bound (bound_part p.names ss m)) _
          (slice_sound p a at (place_of x) (single (typing p.names ss x)) (bound_no_value (bound_part p.names ss l) ++ bound_no_value (bound_part p.names ss h) ++ bound_no_value (bound_part p.names ss m))
          (edge_of p.names (bound_part p.names ss l)) (edge_of p.names (bound_part p.names ss h)) (edge_of p.names (bound_part p.names ss m))
          (sound_single p a (typing p.names ss x) (nodes x o.0)) (edge_sound p a (bound_part p.names ss l) (bounds l o.1)) (edge_sound p a (bound_part p.names ss h) (bounds h o.2)))
      nodes (CallExpr at f xs spread) o =
          call_sound at (callee_of ss f) (record { place = place_of f; answer = typing p.names ss f }) spread (parts p.names ss xs) (callee_sound ss scopes f) (nodes f o.0) (all_nodes xs o.1)
      nodes _ o = sound_bad p a _ _

      bounds : (b : MaybeExpr) → BoundHasOperators b → BoundSound p a (bound_part p.names ss b)
      bounds NoExpr o = tt
      bounds (AnExpr x) o = nodes x o

      all_nodes : (es : Exprs) → AllHaveOperators es → PartsSound p a (parts p.names ss es)
      all_nodes NoExprs o = tt
      all_nodes (MoreExprs x xs) o = (nodes x o.0, all_nodes xs o.1)

  -- ---- as the laws say it

  of_value : (c : core.Expr) (t : Ty) (v : Option Const) → AnswerSound p a (value c t v) → IsSoundValue p a c t v
  of_value c (ty.untyped b) (Some k) h = tt
  of_value c (ty.untyped b) None h = (h.sound, h.gives)
  of_value c ty.nil v h = tt
  of_value c (ty.tuple ts) v h = (h.0, h.1)
  of_value c ty.bool v h = (h.sound, h.gives)
  of_value c ty.str v h = (h.sound, h.gives)
  of_value c (ty.int name) v h = (h.sound, h.gives)
  of_value c (ty.array n t) v h = (h.sound, h.gives)
  of_value c (ty.slice t) v h = (h.sound, h.gives)
  of_value c (ty.struct fs) v h = (h.sound, h.gives)
  of_value c (ty.pointer t) v h = (h.sound, h.gives)
  of_value c (ty.func ps rs w) v h = (h.sound, h.gives)
  of_value c (ty.interface ms) v h = (h.sound, h.gives)
  of_value c (ty.mapping l w) v h = (h.sound, h.gives)
  of_value c (ty.chan d t) v h = (h.sound, h.gives)
  of_value c (ty.named id) v h = (h.sound, h.gives)

  -- a value that was settled
  abbrev pub AnswerValue : Answer → Type 0
  AnswerValue (value c t v) = IsValue p a c t v
  AnswerValue _ = Unit {0}

  pub record IsAnswerValue (x : Answer) : Type 0 where
    pub is_value : AnswerValue x

  settled_value : (x : Settled) → IsSettled p a x → IsAnswerValue (settled_answer x)
  settled_value (settled c t v) h = record { is_value = h.is_settled }
  settled_value (unsettled f fs) h = record { is_value = tt }

  wanted_operand_value : (at : Place) (t : Ty) (x : Option Operand) → IsScalarType p t → SingleSound p a x → IsAnswerValue (wanted_operand p.names at t x)
  wanted_operand_value at t None s h = record { is_value = tt }
  wanted_operand_value at t (Some x) s h = settled_value _ (settled_sound p a at t (passed_at p.names at t x) (passed_sound p a at t x s h))

  pub wanted_value : (at : Place) (t : Ty) (x : Answer) → IsScalarType p t → IsSound p a x → IsAnswerValue (wanted p.names at t x)
  wanted_value at t (wrong f fs) s h = record { is_value = tt }
  wanted_value at t untyped_part s h = record { is_value = tt }
  wanted_value at t (value c u v) s h = wanted_operand_value at t (single (value c u v)) s (sound_single p a (value c u v) h)
  wanted_value at t (pending q b) s h = wanted_operand_value at t (single (pending q b)) s (sound_single p a (pending q b) h)
  wanted_value at t (type_ u) s h = record { is_value = tt }
  wanted_value at t (package_ q) s h = record { is_value = tt }
  wanted_value at t (built_in b) s h = record { is_value = tt }
  wanted_value at t blank s h = record { is_value = tt }
  wanted_value at t (does st) s h = record { is_value = tt }

  alone_operand_value : (at : Place) (x : Option Operand) → SingleSound p a x → IsAnswerValue (alone_operand p.names at x)
  alone_operand_value at None h = record { is_value = tt }
  alone_operand_value at (Some x) h = settled_value _ (alone_sound p a at x h)

  alone_value : (at : Place) (x : Answer) → IsSound p a x → IsAnswerValue (wanted_alone p.names at x)
  alone_value at (wrong f fs) h = record { is_value = tt }
  alone_value at untyped_part h = record { is_value = tt }
  alone_value at (value c u v) h = alone_operand_value at (single (value c u v)) (sound_single p a (value c u v) h)
  alone_value at (pending q b) h = alone_operand_value at (single (pending q b)) (sound_single p a (pending q b) h)
  alone_value at (type_ u) h = record { is_value = tt }
  alone_value at (package_ q) h = record { is_value = tt }
  alone_value at (built_in b) h = record { is_value = tt }
  alone_value at blank h = record { is_value = tt }
  alone_value at (does st) h = record { is_value = tt }

  -- a wanted value has the type that is wanted
  abbrev pub HasTheType : Ty → Answer → Type 0
  HasTheType u (value c t v) = t ≡ u
  HasTheType u _ = Unit {0}

  at_the_type : (at : Place) (u : Ty) (x : Passed) → HasTheType u (settled_answer (settled_at at u x))
  at_the_type at u (passed c v) = refl
  at_the_type at u (refused f fs) = tt
  at_the_type at u unassignable = tt

  operand_type : (at : Place) (u : Ty) (x : Option Operand) → HasTheType u (wanted_operand p.names at u x)
  operand_type at u None = tt
  operand_type at u (Some x) = at_the_type at u (passed_at p.names at u x)

  pub wanted_type_is : (at : Place) (u : Ty) (x : Answer) → HasTheType u (wanted p.names at u x)
  wanted_type_is at u (wrong f fs) = tt
  wanted_type_is at u untyped_part = tt
  wanted_type_is at u (value c t v) = operand_type at u (single (value c t v))
  wanted_type_is at u (pending q b) = operand_type at u (single (pending q b))
  wanted_type_is at u (type_ t) = tt
  wanted_type_is at u (package_ q) = tt
  wanted_type_is at u (built_in b) = tt
  wanted_type_is at u blank = tt
  wanted_type_is at u (does st) = tt

pub nodes_are_sound : NodesAreSound
nodes_are_sound p a ss scopes e o c t v h = let r : IsSound p a (value c t v) = subst (IsSound p a) h (nodes p a ss scopes e o) in of_value p a c t v r.is_sound

pub wanted_are_sound : WantedAreSound
wanted_are_sound p a ss scopes e o u s c t v h =
    let r : IsAnswerValue p a (value c t v) = subst (IsAnswerValue p a) h (wanted_value p a (place_of e) u (typing p.names ss e) s (nodes p a ss scopes e o)) in
    let i : t ≡ u = subst (HasTheType p a u) h (wanted_type_is p a (place_of e) u (typing p.names ss e)) in
    let w = r.is_value in (w.sound, w.gives ∙ ap (λ (x : Ty). x ∷ []) i)

pub alone_are_sound : AloneAreSound
alone_are_sound p a ss scopes e o c t v h =
    let r : IsAnswerValue p a (value c t v) = subst (IsAnswerValue p a) h (alone_value p a (place_of e) (typing p.names ss e) (nodes p a ss scopes e o)) in
    let w = r.is_value in (w.sound, w.gives, w.scalar)

pub prints_are_sound : PrintsAreSound
prints_are_sound p a ss scopes e o s h = let r : IsSound p a (does s) = subst (IsSound p a) h (nodes p a ss scopes e o) in let s = r.is_sound in s.0

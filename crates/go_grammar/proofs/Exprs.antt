-- Types, signatures, expressions and literals are read, where the lists of statements in their blocks are.
use Rattle.std.proofs.Common.{◌≡◌, ℕ, Bool, true, false, List, ◌∷◌, Option, ap}
use Rattle.go_syntax.specs.Tree as t
use Rattle.go_syntax.specs.Token.{Token}
use Rattle.go_syntax.specs.declared.tree.Name.{Name}
use Rattle.go_grammar.specs.Classes.{place_of}
use Rattle.go_grammar.specs.Grammar.{without_op, with_op, IsExpr, binary, tighter, unary, IsUnary, operator_before, receive_channel, primary, IsPrimary, operand, select, assert, index, slice, full_slice, call_of_none, call, literal, IsOperand, int, rune, string, name, parens, function, function_type_operand, type_operand, PerhapsExpr, without_expr, with_expr, AreExprs, one_expr, more_exprs, literal_braces, AreElems, no_elems, last_elem, more_elems, IsElem, plain_elem, keyed_elem, IsValue, expr_value, literal_value}
use Rattle.go_grammar.specs.Grammar.{IsType, type_name, type_parens, pointer_type, receive_type, function_type, begun_type, IsBegunType, slice_type, array_type, counted_array_type, map_type, chan_type, send_type, struct_type, interface_type, AreFields, no_fields, last_named, more_named, last_embedded, more_embedded, AreMembers, no_members, last_method, more_methods, last_interface, more_interfaces, IsSig, without_results, with_result, with_results, params_in_parens, AreParamsInside, no_params, last_param, more_params, IsParam, param_type, named_param}
use Rattle.go_grammar.specs.Nodes.{begins_expr}
use Rattle.go_grammar.proofs.Starting.{first_is, first_of_more, is_paren}
use Rattle.go_grammar.proofs.Readings.{TypeReads, SigReads, ParamsRead, ParamReads, FieldsRead, MembersRead}
use Rattle.go_grammar.proofs.Begins as begin
use Rattle.go_grammar.proofs.TypeRules as ty
use Rattle.go_grammar.proofs.SigRules as sig
use Rattle.go_grammar.proofs.FieldRules as field
use Rattle.go_grammar.proofs.ChainRules as chain
use Rattle.go_grammar.proofs.ChainRules.{UnaryReads, LevelReads}
use Rattle.go_grammar.proofs.PartRules as part
use Rattle.go_grammar.proofs.PartRules.{OperandReads, PrimaryReads, LowReads, HighReads}
use Rattle.go_grammar.proofs.ListRules as list
use Rattle.go_grammar.proofs.ListRules.{ExprsRead, ElemsRead, ElemReads, ValueReads}
use Rattle.go_grammar.proofs.OperandRules as operands
use Rattle.go_grammar.proofs.OperandRules.{Inside}

pub sig_first : {ts : List Token} {x : t.Sig} → IsSig ts x → first_is is_paren ts ≡ true
sig_first (without_results (params_in_parens h d h')) = ap is_paren h.op
sig_first (with_result (params_in_parens h d h') s ty) = ap is_paren h.op
sig_first (with_results (params_in_parens h d h') ds) = ap is_paren h.op

pub exprs_first : {h : Bool} {ts : List Token} {es : t.Exprs} → AreExprs h ts es → first_is begins_expr ts ≡ true
exprs_first (one_expr d) = (begin.expr_begun d).begins
exprs_first (more_exprs {ts} {us} {u} d x ds) = first_of_more begins_expr ts (u ∷ us) (begin.expr_begun d).begins

mutual
  pub type_reads : (b : ℕ) → Inside b → {ts : List Token} {e : t.Expr} → IsType ts e → TypeReads b ts e
  type_reads b i (type_name {ts} {e} n) = ty.type_name_reads b ts e n
  type_reads b i (type_parens {ts} {e} {u} {v} h d h') = ty.type_parens_reads b ts e u v h h' (type_reads b i d)
  type_reads b i (pointer_type {ts} {e} {u} h d) = ty.pointer_type_reads b ts e u h (type_reads b i d)
  type_reads b i (receive_type {ts} {e} {u} {v} h h' d) = ty.receive_type_reads b ts e u v h h' (type_reads b i d)
  type_reads b i (function_type {ts} {sig = x} {u} h d) = ty.function_type_reads b ts x u h (sig_reads b i d)
  type_reads b i (begun_type d) = begun_reads b i d

  pub begun_reads : (b : ℕ) → Inside b → {ts : List Token} {e : t.Expr} → IsBegunType ts e → TypeReads b ts e
  begun_reads b i (slice_type {ts} {e} {u} {v} h h' d) = ty.slice_type_reads b ts e u v h h' (type_reads b i d)
  begun_reads b i (array_type {ts} {us} {n} {e} {u} {v} h dn h' d) = ty.array_type_reads b ts us n e u v h (begin.expr_begun dn).begins (chain.expr_reads b false ts n (level_reads b i dn)) h' (type_reads b i d)
  begun_reads b i (counted_array_type {ts} {e} {u} {v} {w} h h' h'' d) = ty.counted_array_reads b ts e u v w h h' h'' (type_reads b i d)
  begun_reads b i (map_type {ts} {us} {k} {e} {u} {v} {w} h h' dk h'' d) = ty.map_type_reads b ts us k e u v w h h' (type_reads b i dk) h'' (type_reads b i d)
  begun_reads b i (chan_type {ts} {e} {u} h n d) = ty.chan_type_reads b ts e u h n (begin.type_begins d) (type_reads b i d)
  begun_reads b i (send_type {ts} {e} {u} {v} h h' d) = ty.send_type_reads b ts e u v h h' (type_reads b i d)
  begun_reads b i (struct_type {ts} {fields} {u} {v} {w} h h' d h'') = ty.struct_type_reads b ts fields u v w h h' (fields_read b i d) h''
  begun_reads b i (interface_type {ts} {members} {u} {v} {w} h h' d h'') = ty.interface_type_reads b ts members u v w h h' (members_read b i d) h''

  pub fields_read : (b : ℕ) → Inside b → {ts : List Token} {xs : t.Fields} → AreFields ts xs → FieldsRead b ts xs
  fields_read b i no_fields = field.no_fields_read b
  fields_read b i (last_named {ts} {us} {vs} {names} {e} {tag} n d tg) = field.last_named_reads b ts us vs names e tag n (begin.type_begins d) (type_reads b i d) tg
  fields_read b i (more_named {ts} {us} {vs} {ws} {names} {e} {tag} {u} {rest} n d tg h ds) = field.more_named_read b ts us vs ws names e tag u rest n (begin.type_begins d) (type_reads b i d) tg h (fields_read b i ds)
  fields_read b i (last_embedded {ss} {ts} {vs} {star} {e} {tag} st n tg) = field.last_embedded_reads b ss ts vs star e tag st n tg
  fields_read b i (more_embedded {ss} {ts} {vs} {ws} {star} {e} {tag} {u} {rest} st n tg h ds) = field.more_embedded_read b ss ts vs ws star e tag u rest st n tg h (fields_read b i ds)

  pub members_read : (b : ℕ) → Inside b → {ts : List Token} {xs : t.Members} → AreMembers ts xs → MembersRead b ts xs
  members_read b i no_members = field.no_members_read b
  members_read b i (last_method {ts} {sig = x} {u} n d) = field.last_method_reads b ts x u n (sig_first d) (sig_reads b i d)
  members_read b i (more_methods {ts} {us} {sig = x} {u} {v} {rest} n d h ds) = field.more_methods_read b ts us x u v rest n (sig_first d) (sig_reads b i d) h (members_read b i ds)
  members_read b i (last_interface {ts} {e} n) = field.last_interface_reads b ts e n
  members_read b i (more_interfaces {ts} {us} {e} {v} {rest} n h ds) = field.more_interfaces_read b ts us e v rest n h (members_read b i ds)

  pub sig_reads : (b : ℕ) → Inside b → {ts : List Token} {x : t.Sig} → IsSig ts x → SigReads b ts x
  sig_reads b i (without_results (params_in_parens {ts} {params} {u} {v} h d h')) = sig.without_results_reads b ts params u v h (params_read b i d) h'
  sig_reads b i (with_result {us} {e} (params_in_parens {ts} {params} {u} {v} h d h') apart dt) = sig.with_result_reads b ts us params e u v h (params_read b i d) h' apart (begin.type_begins dt) (type_reads b i dt)
  sig_reads b i (with_results (params_in_parens {ts} {params} {u} {v} h d h') (params_in_parens {ts = ts'} {params = params'} {u = u'} {v = v'} k d' k')) = sig.with_results_reads b ts ts' params params' u v u' v' h (params_read b i d) h' k (params_read b i d') k'

  pub params_read : (b : ℕ) → Inside b → {ts : List Token} {xs : t.Params} → AreParamsInside ts xs → ParamsRead b ts xs
  params_read b i no_params = sig.no_params_read b
  params_read b i (last_param {ts} {x} {variadic} {e} d) = sig.last_param_reads b ts (place_of ts) x variadic e (param_reads b i d)
  params_read b i (more_params {ts} {us} {x} {variadic} {e} {u} {rest} d h ds) = sig.more_params_read b ts us (place_of ts) x variadic e u rest (param_reads b i d) h (params_read b i ds)

  pub param_reads : (b : ℕ) → Inside b → {ts : List Token} {x : Option Name} {variadic : Bool} {e : t.Expr} → IsParam ts x variadic e → ParamReads b ts (place_of ts) x variadic e
  param_reads b i (param_type {ts} {e} without_op d) = sig.type_param b ts e (begin.type_first d) (type_reads b i d)
  param_reads b i (param_type {ts} {e} (with_op {u = v} h) d) = sig.variadic_type_param b ts e v h (type_reads b i d)
  param_reads b i (named_param {ts} {e} {u} n without_op d) = sig.named_param_reads b ts e u n (begin.type_begins d) (type_reads b i d)
  param_reads b i (named_param {ts} {e} {u} n (with_op {u = v} h) d) = sig.named_variadic_reads b ts e u v n h (type_reads b i d)

  pub level_reads : (b : ℕ) → Inside b → {k : ℕ} {h : Bool} {ts : List Token} {e : t.Expr} → IsExpr k h ts e → LevelReads b k h ts e
  level_reads b i (binary {h} {ts} {us} {a = x} {b = y} {u} op x' m d d') = chain.binary_level b h ts us x y u op x' m (begin.expr_begun d).place (level_reads b i d) (level_reads b i d')
  level_reads b i (tighter {k} {h} {ts} {e} lt d) = chain.tighter_level b k h ts e (level_reads b i d)
  level_reads b i (unary {h} {ts} {e} d) = chain.unary_level b h ts e (begin.unary_operators d) (unary_reads b i d)

  pub unary_reads : (b : ℕ) → Inside b → {h : Bool} {ts : List Token} {e : t.Expr} → IsUnary h ts e → UnaryReads b h ts e
  unary_reads b i (operator_before {h} {u} {ts} {e} p x apart d) = chain.before_reads b h ts e u p x apart (unary_reads b i d)
  unary_reads b i (receive_channel {h} {u} {ts} {at} {e} x d) = chain.receive_channel_reads b h ts at e u x (unary_reads b i d)
  unary_reads b i (primary {h} {ts} {e} d) = part.primary_unary b h ts e (primary_reads b i d)

  pub primary_reads : (b : ℕ) → Inside b → {h : Bool} {ts : List Token} {e : t.Expr} → IsPrimary h ts e → PrimaryReads b h ts e
  primary_reads b i (operand {h} {ts} {e} d) = part.operand_primary b h ts e (begin.operand_parts d) (operand_reads b i d)
  primary_reads b i (select {h} {ts} {e} {u} {v} d w x y) = part.select_reads b h ts e u v (begin.primary_begun d).place (primary_reads b i d) w x y
  primary_reads b i (assert {h} {ts} {us} {e} {ty = x} {u} {v} {w} d wants y z dt k) = part.assert_reads b h ts us e x u v w (begin.primary_begun d).place (primary_reads b i d) wants y z (begin.type_begins dt) (type_reads b i dt) k
  primary_reads b i (index {h} {ts} {us} {e} {i = n} {u} {v} d m x dn y) = part.index_reads b h ts us e n u v (begin.primary_begun d).place (primary_reads b i d) m x (begin.expr_begun dn).begins (chain.expr_reads b false us n (level_reads b i dn)) y
  primary_reads b i (slice {h} {ts} {low} {high} {e} {i = l} {j} {u} {v} {w} d m x dl y dj z) = part.slice_reads b h ts low high e l j u v w (begin.primary_begun d).place (primary_reads b i d) m x (low_reads b i dl) y (high_reads b i dj) z
  primary_reads b i (full_slice {h} {ts} {low} {high} {most} {e} {j} {k} {i = l} {u} {v} {w} {x = x'} d m x dl y dj z dk a) = part.full_slice_reads b h ts low high most e j k l u v w x' (begin.primary_begun d).place (primary_reads b i d) m x (low_reads b i dl) y (begin.expr_begun dj).begins (chain.expr_reads b false high j (level_reads b i dj)) z (chain.expr_reads b false most k (level_reads b i dk)) a
  primary_reads b i (call_of_none {h} {ts} {e} {u} {v} d m x y) = list.call_of_none_reads b h ts e u v (begin.primary_begun d).place (primary_reads b i d) m x y
  primary_reads b i (call {h} {spread} {comma} {ts} {args} {ss} {cs} {e} {es} {u} {v} d m x ds hs hc y) = list.call_reads b h ts args ss cs e es spread comma u v (begin.primary_begun d).place (primary_reads b i d) m x (exprs_first ds) (list.exprs_whole ds) (exprs_read b i ds) hs hc y
  primary_reads b i (literal {h} {ts} {e} {xs} d takes (literal_braces {ts = us} {u} {v} x ds y)) = list.literal_reads b h ts us e xs u v (begin.primary_begun d).place (primary_reads b i d) takes x (elems_read b i ds) y

  pub operand_reads : (b : ℕ) → Inside b → {ts : List Token} {e : t.Expr} → IsOperand ts e → OperandReads b ts e
  operand_reads b i (int {u} h) = operands.int_reads b u h
  operand_reads b i (rune {u} h) = operands.rune_reads b u h
  operand_reads b i (string {u} h) = operands.string_reads b u h
  operand_reads b i (name {u} h) = operands.name_reads b u h
  operand_reads b i (parens {ts} {e} {u} {v} h d h') = operands.parens_reads b ts e u v h (chain.expr_reads b false ts e (level_reads b i d)) h'
  operand_reads b i (function {ts} {us} {sig = x} {b = y} {u} h d bl) = operands.function_reads b ts us x y u i h (sig_reads b i d) bl
  operand_reads b i (function_type_operand {ts} {sig = x} {u} h d) = operands.function_operand_reads b ts x u h (sig_reads b i d)
  operand_reads b i (type_operand {ts} {e} d) = operands.type_operand_reads b ts e d (begun_reads b i d)

  pub low_reads : (b : ℕ) → Inside b → {ts : List Token} {n : t.MaybeExpr} → PerhapsExpr ts n → LowReads b ts n
  low_reads b i without_expr = part.no_low_reads b
  low_reads b i (with_expr {ts} {e} d) = part.low_reads b ts e (begin.expr_begun d).begins (chain.expr_reads b false ts e (level_reads b i d))

  pub high_reads : (b : ℕ) → Inside b → {ts : List Token} {n : t.MaybeExpr} → PerhapsExpr ts n → HighReads b ts n
  high_reads b i without_expr = part.no_high_reads b
  high_reads b i (with_expr {ts} {e} d) = part.high_reads b ts e (begin.expr_begun d).begins (chain.expr_reads b false ts e (level_reads b i d))

  pub exprs_read : (b : ℕ) → Inside b → {h : Bool} {ts : List Token} {es : t.Exprs} → AreExprs h ts es → ExprsRead b h ts es
  exprs_read b i (one_expr {h} {ts} {e} d) = list.one_expr_reads b h ts e (chain.expr_reads b h ts e (level_reads b i d))
  exprs_read b i (more_exprs {h} {ts} {us} {e} {es} {u} d x ds) = list.more_exprs_read b h ts us e es u (chain.expr_reads b h ts e (level_reads b i d)) x ds (exprs_first ds) (exprs_read b i ds)

  pub elems_read : (b : ℕ) → Inside b → {ts : List Token} {xs : t.Elems} → AreElems ts xs → ElemsRead b ts xs
  elems_read b i no_elems = list.no_elems_read b
  elems_read b i (last_elem {ts} {key} {e} d) = list.last_elem_reads b ts key e (elem_reads b i d)
  elems_read b i (more_elems {ts} {us} {key} {e} {xs} {u} d x ds) = list.more_elems_read b ts us key e u xs (elem_reads b i d) x (elems_read b i ds)

  pub elem_reads : (b : ℕ) → Inside b → {ts : List Token} {key : t.MaybeExpr} {e : t.Expr} → IsElem ts key e → ElemReads b ts key e
  elem_reads b i (plain_elem {ts} {e} d) = list.plain_elem_reads b ts e (value_reads b i d)
  elem_reads b i (keyed_elem {ts} {us} {key} {e} {u} dk x d) = list.keyed_elem_reads b ts us key e u (value_reads b i dk) x (value_reads b i d)

  pub value_reads : (b : ℕ) → Inside b → {ts : List Token} {e : t.Expr} → IsValue ts e → ValueReads b ts e
  value_reads b i (expr_value {ts} {e} d) = list.expr_value_reads b ts e (begin.expr_begun d).begins (chain.expr_reads b false ts e (level_reads b i d))
  value_reads b i (literal_value {xs} (literal_braces {ts} {u} {v} x ds y)) = list.literal_value_reads b ts xs u v x (elems_read b i ds) y

-- Lemmas for fresh variables.
use Rattle.std.proofs.Common.{◌≡◌, ℕ, zero, suc, List, false, Option, Some, None, refl, ap, ◌∙◌}
use Rattle.std.specs.List.{slice_get}
use Rattle.js_tree.specs.Script as script
use Rattle.js_tree.specs.Script.{Expr}
use Rattle.js_pool.specs.Tree as tree
use Rattle.go_core.specs.declared.node.VarId.{VarId}
use Rattle.js_facts.specs.declared.facts.Facts.{Facts}
use Rattle.js_body.specs.State.{State, with_line, declares, assigns, says, var_word, frame_tree, mentioned, slot_set, slot_begun, fresh_tree, home_of, zero_of}
use Rattle.js_plain.specs.Fresh.{declared_by, declared_upto, block_var, ScalarVars}
use Rattle.js_plain.proofs.Returns.{if_facts}

set_facts : (n : ℕ) (t : Expr) (s : State) → (slot_set n t s).around.facts ≡ s.around.facts
set_facts n t s = if_facts s.around.plain (with_line (assigns (var_word n) t) (mentioned n s)) (with_line (says (script.store 0 frame_tree (tree.number n) t)) s) s.around.facts refl refl

begun_facts : (n : ℕ) (t : Expr) (s : State) → (slot_begun n t s).around.facts ≡ s.around.facts
begun_facts n t s = if_facts s.around.plain (with_line (declares (var_word n) t) s) (slot_set n t s) s.around.facts refl (set_facts n t s)

declared_facts : (o : Option VarId) (s : State) → (declared_by o s).around.facts ≡ s.around.facts
declared_facts None s = refl
declared_facts (Some v) s = begun_facts (home_of v s).slot (fresh_tree (home_of v s).boxed (zero_of (home_of v s).ty s)) s

upto_facts : (n : ℕ) (vs : List VarId) (s : State) → (declared_upto n vs s).around.facts ≡ s.around.facts
upto_facts zero vs s = refl
upto_facts (suc n) vs s = declared_facts (slice_get vs n) (declared_upto n vs s) ∙ upto_facts n vs s

pub upto_scalar : (vs : List VarId) (s : State) → ScalarVars vs s → (n : ℕ) → block_var (slice_get vs n) (declared_upto n vs s).around.facts ≡ false
upto_scalar vs s h n = ap (λ (f : Facts). block_var (slice_get vs n) f) (upto_facts n vs s) ∙ h n

-- Lemmas for the end of a function.
use Rattle.std.proofs.Common.{◌≡◌, ◌≤◌, ℕ, arith, List, length, subst}
use Rattle.std.proofs.lemmas.List.{length-append}
use Rattle.js_tree.specs.Script as script
use Rattle.js_tree.specs.Script.{Stmts}
use Rattle.js_pool.specs.Names.{name_bytes}
use Rattle.js_pool.specs.Stands.{Later}
use Rattle.js_pool.specs.Says as say
use Rattle.js_pool.specs.Says.{NamesAre, SaysIn, Tops}
use Rattle.js_pool.specs.declared.name.Name.{Name}
use Rattle.js_pool.specs.declared.node.Block.{Block}
use Rattle.js_pool.specs.declared.node.Names.{Names}
use Rattle.js_pool.specs.declared.node.Item.TheVariants as item
use Rattle.js_pool.specs.declared.pool.Pool.{Pool}
use Rattle.js_body.specs.State.{State, Line}
use Rattle.js_body.specs.Later.{grown, held_later}
use Rattle.js_plain.specs.Whole.{func_bytes, included}

pub names_later : {p q : Pool} → Later p q → {l : Names} {xs : List (List ℕ)} → NamesAre p l xs → NamesAre q l xs
names_later {p} {q} g (say.names_are h) = say.names_are (held_later _ _ _ _ _ (grown p q g).names h)

pub top_named : (f : Name) (n : ℕ) → name_bytes f ≡ func_bytes n → (p : Pool) (l : Names) (b : Block) (xs : List (List ℕ)) (ss : Stmts) → NamesAre p l xs → SaysIn p b ss
    → Tops p (item.Function f l b) (script.function_item (record { name = func_bytes n; params = xs; body = ss; at = 0 }))
top_named f n e p l b xs ss h k = subst (λ (z : List ℕ). Tops p (item.Function f l b) (script.function_item (record { name = z; params = xs; body = ss; at = 0 }))) e (say.function h k)

pub included_longer : (mark : ℕ) (ls : List Line) (s : State) → mark ≤ length s.lines → mark ≤ length (included ls s).lines
included_longer mark ls s h = omega (arith, length-append ls s.lines, h)

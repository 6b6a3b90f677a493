-- What is read is the one tree of the bytes, and what was printed to them.
use Rattle.std.proofs.Common.{◌≡◌, ◌∙◌, sym, subst, ap, ℕ, List}
use Rattle.std.specs.Prelude.{Result, Ok, Err, MatchResult, IfOk}
use Rattle.js_tree.specs.Script.{ScriptTree}
use Rattle.js_tree.specs.Scripts.{IsScript}
use Rattle.js_tree.specs.Printed.{plain}
use Rattle.js_tree.specs.Printable.{IsPrintable}
use Rattle.js_tree.specs.Erase.{erase}
use Rattle.js_tree.specs.View.{script_view}
use Rattle.js_tree.specs.declared.tree.Script.{Script}
use Rattle.js_grammar.specs.declared.refusal.ReadRefusal.{ReadRefusal}
use Rattle.js_grammar.specs.declared.refusal.ReadRefusal.TheVariants.{NoMemory}
use Rattle.js_grammar.specs.Laws.{HasOneTree}
use Rattle.js_grammar.specs.ReadBack.{ReadsBack, IsReadBack}
use Rattle.js_read.specs.Unread.{Unread, out_of_memory, no_script}
use Rattle.js_read.specs.Back.{HasNoOtherTree, GivesBack}

pub no_other : HasOneTree → (bytes : List ℕ) (r : Result Script ReadRefusal) → MatchResult r (λ s. IsScript bytes (script_view s)) (λ e. Unread bytes e) → IfOk r (λ s. HasNoOtherTree bytes (script_view s))
no_other one bytes (Ok s) h = λ t k. one bytes t (script_view s) k h
no_other one bytes (Err e) h = tt

-- bytes that are a script are refused only where memory ran out
refused_so : (bytes : List ℕ) (t : ScriptTree) (e : ReadRefusal) → IsScript bytes t → Unread bytes e → e ≡ NoMemory
refused_so bytes t e k (out_of_memory q) = q
refused_so bytes t e k (no_script q h) = absurd (h t k)

read_so : HasOneTree → (bytes : List ℕ) (r : Result Script ReadRefusal) → MatchResult r (λ s. IsScript bytes (script_view s)) (λ e. Unread bytes e) → (s : ScriptTree) → (b : IsReadBack s) → bytes ≡ plain s
    → MatchResult r (λ t. erase (script_view t) ≡ erase s) (λ e. e ≡ NoMemory)
read_so one bytes (Ok t) h s b q = ap erase (one bytes (script_view t) b.tree h (subst (λ z. IsScript z b.tree) (sym q) b.is_script)) ∙ b.same
read_so one bytes (Err e) h s b q = refused_so bytes b.tree e (subst (λ z. IsScript z b.tree) (sym q) b.is_script) h

pub given_back : HasOneTree → ReadsBack → (bytes : List ℕ) (r : Result Script ReadRefusal) → MatchResult r (λ s. IsScript bytes (script_view s)) (λ e. Unread bytes e) → GivesBack bytes r
given_back one back bytes r h = λ s p q. read_so one bytes r h s (back s p) q

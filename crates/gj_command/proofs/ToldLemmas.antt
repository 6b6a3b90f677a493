-- A line that is written in pieces.
use Rattle.std.proofs.Common.{◌≡◌, ◌++◌, ◌<◌, List, [], ◌∷◌, ℕ, suc, true, length, take, drop, get_or, refl, sym, ap, subst, ◌∙◌, append_assoc}
use Rattle.std.specs.Prelude.{Result, Ok, Err, is_err, flat_map, Option, Some, None, option_map}
use Rattle.std.proofs.Common.{inl, inr}
use Rattle.gj_base.specs.Sink.{SinkState, appended, Writes}
use Rattle.gj_base.specs.declared.sink.SinkError.{SinkError}
use Rattle.gj_base.specs.declared.sink.SinkError.TheVariants.{Failed, NoMemory}
use denote.Ref.{Bor}
use Rattle.std.proofs.lemmas.List.{take-append-drop}
use Rattle.std.proofs.Math.Seq.{drop-cons}
use Rattle.std.proofs.lemmas.Grind.{flat_map-append}
use Rattle.gj_command.specs.Told.{CutShort, Told}
use Rattle.gj_command.specs.FaultText.{line_of}

-- a piece after a piece
pub appended_twice : (bytes : Option (List ℕ)) (a b : List ℕ) → option_map (λ bs. bs ++ b) (option_map (λ bs. bs ++ a) bytes) ≡ option_map (λ bs. bs ++ (a ++ b)) bytes
appended_twice None a b = refl
appended_twice (Some bs) a b = ap (λ (cs : List ℕ). Some cs) (append_assoc bs a b)

-- a write that was refused cuts the line short
pub cut : (r : Result (Unit {0}) SinkError) (before piece rest : List ℕ) (old new : SinkState) → is_err r ≡ true → Writes r piece (appended old before) new → CutShort (before ++ (piece ++ rest)) old new
cut (Ok u) before piece rest old new e w = absurd (cc)
cut (Err Failed) before piece rest old new e w = record {
  part = before ++ w.part;
  begins = (w.begins.0 ++ rest, ap (λ (p : List ℕ). before ++ (p ++ rest)) w.begins.1 ∙ simp append_assoc);
  written = w.written ∙ appended_twice old.bytes before w.part;
  cause = inl w.rose;
}
cut (Err NoMemory) before piece rest old new e w = record {
  part = before;
  begins = (piece ++ rest, refl);
  written = w.kept;
  cause = inr w.rose;
}

-- the pieces before a place, the piece there, and those after it
split_at : (pieces : List (Bor (List ℕ))) (i : ℕ) (d : Bor (List ℕ)) → i < length pieces
    → flat_map (λ (p : Bor (List ℕ)). p.now) pieces ≡ flat_map (λ (p : Bor (List ℕ)). p.now) (take i pieces) ++ ((get_or pieces i d).now ++ flat_map (λ (p : Bor (List ℕ)). p.now) (drop (suc i) pieces))
split_at pieces i d h =
    ap (λ (ps : List (Bor (List ℕ))). flat_map (λ (p : Bor (List ℕ)). p.now) ps) (sym (take-append-drop i pieces) ∙ ap (λ (ps : List (Bor (List ℕ))). take i pieces ++ ps) (drop-cons pieces i d h))
    ∙ flat_map-append (λ (p : Bor (List ℕ)). p.now) (take i pieces) (get_or pieces i d ∷ drop (suc i) pieces)

-- the write of the piece at a place was refused
pub cut_at : (pieces : List (Bor (List ℕ))) (i : ℕ) (d : Bor (List ℕ)) → i < length pieces → (r : Result (Unit {0}) SinkError) (old mid new : SinkState) → is_err r ≡ true
    → mid ≡ appended old (flat_map (λ (p : Bor (List ℕ)). p.now) (take i pieces)) → Writes r (get_or pieces i d).now mid new → Told (flat_map (λ (p : Bor (List ℕ)). p.now) pieces) old new
cut_at pieces i d h r old mid new e is w =
    let there = subst (λ (m : SinkState). Writes r (get_or pieces i d).now m new) is w in
    inr (subst (λ (line : List ℕ). CutShort line old new) (sym (split_at pieces i d h)) (cut r _ _ _ old new e there))

-- the pieces of a line that tells of a place
pub line_of_pieces : (name line column text : List ℕ) → name ++ (58 ∷ line ++ (58 ∷ column ++ (58 ∷ 32 ∷ text ++ (10 ∷ [])))) ≡ line_of name line column text
line_of_pieces name line column text = simp append_assoc

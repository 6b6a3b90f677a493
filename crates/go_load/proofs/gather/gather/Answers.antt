use Rattle.std.proofs.Common.{◌≡◌, ◌+◌, ◌++◌, ◌∷◌, [], ◌<◌, ◌≤◌, ℕ, List, length, refl, sym, ap, subst, ◌∙◌, arith}
use Rattle.std.specs.Prelude.{Option, IfSome, IsSome, true, false, ◌||◌, nat_lt}
use Rattle.std.specs.List.{sum_by}
use Rattle.std.proofs.lemmas.List.Elements.{All-head}
use Rattle.gj_base.specs.Tree.{Tree, IsName, bytes_at, path_in}
use Rattle.gj_base.specs.Files.{FilesState}
use Rattle.go_load.specs.Gather.{IsFileRead}
use Rattle.go_load.specs.Root.{program_limit, count_limit, is_too_large, IsRead}
use Rattle.go_load.specs.declared.sources.FileEntry.{FileEntry}
use Rattle.go_load.proofs.GatherLemmas.{Progress, start, read_more, read_last, passed_over, read_all, is_there, within, file_of, none_of, grown, past_is, none_left}
use Rattle.go_load.proofs.gather.gather.Goals as goal

pub loop-name-init : goal.loop-name-init
loop-name-init g c = record {
  same = refl;
  progress = subst (λ (es : List FileEntry). Progress (g.F.Files.state c.args.files.now).tree c.args.root.now es c.args.names.keys) (sym c.new-sources.ensures) (start _ c.args.root.now c.args.names.keys c.requires.named c.requires.root);
  size = sym (ap (sum_by (λ (e : FileEntry). length e.bytes)) c.new-sources.ensures);
}

pub read_file-requires-clause-text : goal.read_file-requires-clause-text
read_file-requires-clause-text g c =
    let p = subst (λ (names : List (List ℕ)). Progress (g.F.Files.state c.args.files.now).tree c.args.root.now c.loop-name.sources names) c.in-Some.ensures.removal c.loop-name.invariant.progress in
    (All-head IsName c.in-Some.name c.pop_first.new.self.keys p.named).text

pub read_file-requires-clause-there : goal.read_file-requires-clause-there
read_file-requires-clause-there g c =
    let p = subst (λ (names : List (List ℕ)). Progress (g.F.Files.state c.args.files.now).tree c.args.root.now c.loop-name.sources names) c.in-Some.ensures.removal c.loop-name.invariant.progress in
    subst (λ (s : FilesState). IfSome s.tree (λ tree. IsSome (bytes_at tree (path_in c.args.root.now c.in-Some.name)))) (sym c.loop-name.invariant.same) (is_there _ c.args.root.now c.loop-name.sources c.in-Some.name c.pop_first.new.self.keys p)

pub returns-then-is_past : goal.returns-then-is_past
returns-then-is_past g c =
    let told = (g.F.Files.state c.args.files.now).tree in
    let all = c.in_ok-push.ensures.value in
    let p = subst (λ (names : List (List ℕ)). Progress told c.args.root.now c.loop-name.sources names) c.in-Some.ensures.removal c.loop-name.invariant.progress in
    let file = file_of (g.F.Files.state c.args.files.now) (g.F.Files.state c.loop-name.files) (g.F.Files.state c.read_file.new.files) c.args.root.now c.in-Some.name c.in_ok-entry.field-0 c.in-Some-2.entry c.loop-name.invariant.same c.in-Some-2.is c.in_ok-entry.ensures in
    let size = grown c.loop-name.sources c.push.new.self c.in-Some-2.entry c.loop-name.size c.as_bytes.result.now c.loop-name.invariant.size c.as_bytes.ensures all in
    let large : true ≡ is_too_large c.push.new.self = past_is c.push.new.self (c.loop-name.size + length c.as_bytes.result.now) c.len.result true size c.len.ensures c.if-is_past.ensures in (
      file.0,
      subst (λ (es : List FileEntry). IsRead told c.args.root.now es) (sym all)
          (read_last told c.args.root.now c.loop-name.sources c.in-Some-2.entry c.in-Some.name c.pop_first.new.self.keys p file.1 (sym (ap is_too_large all) ∙ sym large)),
      large,
    )

pub loop-name-preserved-else-is_past : goal.loop-name-preserved-else-is_past
loop-name-preserved-else-is_past g c =
    let told = (g.F.Files.state c.args.files.now).tree in
    let all = c.in_ok-push.ensures.value in
    let p = subst (λ (names : List (List ℕ)). Progress told c.args.root.now c.loop-name.sources names) c.in-Some.ensures.removal c.loop-name.invariant.progress in
    let file = file_of (g.F.Files.state c.args.files.now) (g.F.Files.state c.loop-name.files) (g.F.Files.state c.read_file.new.files) c.args.root.now c.in-Some.name c.in_ok-entry.field-0 c.in-Some-2.entry c.loop-name.invariant.same c.in-Some-2.is c.in_ok-entry.ensures in
    let size = grown c.loop-name.sources c.push.new.self c.in-Some-2.entry c.loop-name.size c.as_bytes.result.now c.loop-name.invariant.size c.as_bytes.ensures all in
    let small : false ≡ is_too_large c.push.new.self = past_is c.push.new.self (c.loop-name.size + length c.as_bytes.result.now) c.len.result false size c.len.ensures c.if-is_past.ensures in
    record {
      same = file.0;
      progress = subst (λ (es : List FileEntry). Progress told c.args.root.now es c.pop_first.new.self.keys) (sym all)
          (read_more told c.args.root.now c.loop-name.sources c.in-Some-2.entry c.in-Some.name c.pop_first.new.self.keys p file.1 (sym (ap is_too_large all) ∙ sym small));
      size = size;
    }

pub loop-name-preserved : goal.loop-name-preserved
loop-name-preserved g c =
    let told = (g.F.Files.state c.args.files.now).tree in
    let p = subst (λ (names : List (List ℕ)). Progress told c.args.root.now c.loop-name.sources names) c.in-Some.ensures.removal c.loop-name.invariant.progress in
    let missing = none_of (g.F.Files.state c.args.files.now) (g.F.Files.state c.loop-name.files) (g.F.Files.state c.read_file.new.files) c.args.root.now c.in-Some.name c.in_ok-entry.field-0 c.loop-name.invariant.same c.in_default-2.is c.in_ok-entry.ensures in
    record { same = missing.0; progress = passed_over told c.args.root.now c.loop-name.sources c.in-Some.name c.pop_first.new.self.keys p missing.1; size = c.loop-name.invariant.size }

pub returns : goal.returns
returns g c =
    let told = (g.F.Files.state c.args.files.now).tree in
    let none = none_left c.loop-name.names.keys c.in_default.ensures.variant.1 in (
      c.loop-name.invariant.same,
      read_all told c.args.root.now c.loop-name.sources c.loop-name.names.keys none c.loop-name.invariant.progress,
      sym (within told c.args.root.now c.loop-name.sources c.loop-name.names.keys c.loop-name.invariant.progress),
    )

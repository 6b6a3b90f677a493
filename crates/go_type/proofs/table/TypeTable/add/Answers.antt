use Rattle.std.proofs.Common.{length, sym}
use Rattle.go_type.specs.Levels.{trees}
use Rattle.go_type.proofs.Growth.{GrownBy, grown, rises_grown, agree_grown, longer, added, tree_stored, names_more, names_kept}
use Rattle.go_type.proofs.table.TypeTable.add.Goals as goal

pub invariant_of-self : goal.invariant_of-self
invariant_of-self c =
    let s = c.args.self.now in
    let gs = s.levels.keys in
    let hs = c.insert_full.new.self.keys in
    let grew : GrownBy gs hs c.args.t = grown gs hs c.args.t c.insert_full.result c.insert_full.ensures.keys c.insert_full.ensures.err in
    record {
      distinct = c.insert_full.ensures.unique;
      rises = rises_grown (length s.names.items) gs c.args.t s.rises c.requires hs grew;
      names_below = names_more (length gs) (length hs) (longer gs hs c.args.t grew) s.names.items s.names_below;
    }

pub returns-clause-tree : goal.returns-clause-tree
returns-clause-tree c =
    let s = c.args.self.now in
    let gs = s.levels.keys in
    let hs = c.insert_full.new.self.keys in
    let grew : GrownBy gs hs c.args.t = grown gs hs c.args.t c.insert_full.result c.insert_full.ensures.keys c.insert_full.ensures.err in
    let stored = c.in_ok-index.ensures.stored in
    tree_stored (length s.names.items) gs hs c.args.t c.in_ok-index.index s.rises c.requires grew stored.0 stored.1 stored.2

pub returns-clause-places : goal.returns-clause-places
returns-clause-places c =
    let gs = c.args.self.now.levels.keys in
    let hs = c.insert_full.new.self.keys in
    added gs hs c.args.t (grown gs hs c.args.t c.insert_full.result c.insert_full.ensures.keys c.insert_full.ensures.err)

pub returns-clause-names : goal.returns-clause-names
returns-clause-names c =
    let s = c.args.self.now in
    let gs = s.levels.keys in
    let hs = c.insert_full.new.self.keys in
    let grew : GrownBy gs hs c.args.t = grown gs hs c.args.t c.insert_full.result c.insert_full.ensures.keys c.insert_full.ensures.err in
    names_kept (length gs) (trees gs) (trees hs) (agree_grown gs hs c.args.t grew) s.names.items s.names_below

pub returns-clause-kept : goal.returns-clause-kept
returns-clause-kept c t l =
    let gs = c.args.self.now.levels.keys in
    let hs = c.insert_full.new.self.keys in
    let grew : GrownBy gs hs c.args.t = grown gs hs c.args.t c.insert_full.result c.insert_full.ensures.keys c.insert_full.ensures.err in
    sym ((agree_grown gs hs c.args.t grew).at t.0 l)

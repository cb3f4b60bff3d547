use Rattle.std.proofs.Common.{◌≡◌, ◌++◌, ◌+◌, ◌<◌, ◌≤◌, Bool, Option, length, arith, ap, subst, sym, refl, ◌∙◌}
use Rattle.std.specs.Prelude.{IsSome, IfSome}
use Rattle.std.proofs.lemmas.List.{length-append}
use Rattle.og_directory.specs.Table.{Row, row_of, is_counted, NamesNodes}
use Rattle.og_home.specs.Home.{serve_row, table_row}
use Rattle.og_home.specs.Kept.{IsHome, home_of}
use Rattle.og_home.proofs.Blocks.{home_written, kept-written}
use Rattle.og_home.proofs.Rows.{found_row, found_named, room_entry, room_line, nodes_now, row_home, row_letters, row_counts, few_letters, counted_kind, request_sender, when_true}
use Rattle.og_home.proofs.Home.serve_row.Goals as goal

pub home_step-requires-clause-row : goal.home_step-requires-clause-row
home_step-requires-clause-row c =
    subst (λ (o : Option Row). IsSome o) (sym (found_row c.self.view_is (subst IsHome c.self.view_is c.self.invariant) c.args.block.frame.index c.args.block.number c.place-place.result c.rules.result.now.nodes c.index_mut.result.now c.index_mut-2.result.now c.place-place.ensures c.requires.row.number c.requires.row.frame.inside (ap (λ r. r.nodes) c.rules.ensures.rules) c.index_mut.ensures.value c.args.msg.now c.index_mut-2.ensures.value)) c.requires.row.row

pub home_step-requires-clause-named : goal.home_step-requires-clause-named
home_step-requires-clause-named c = found_named c.self.view_is (subst IsHome c.self.view_is c.self.invariant) c.args.block.frame.index c.args.block.number c.place-place.result c.rules.result.now.nodes c.index_mut.result.now c.index_mut-2.result.now c.place-place.ensures c.requires.row.number c.requires.row.frame.inside (ap (λ r. r.nodes) c.rules.ensures.rules) c.index_mut.ensures.value

row_is : (c : goal.After-self-2-1) → row_of c.rules.result.now.nodes c.index_mut-2.result.now c.args.msg.now c.index_mut.result.now ≡ table_row (home_of c.args.self.now) c.args.block c.args.msg.now
row_is c = found_row c.self.view_is (subst IsHome c.self.view_is c.self.invariant) c.args.block.frame.index c.args.block.number c.place-place.result c.rules.result.now.nodes c.index_mut.result.now c.index_mut-2.result.now c.place-place.ensures c.requires.row.number c.requires.row.frame.inside (ap (λ r. r.nodes) c.rules.ensures.rules) c.index_mut.ensures.value c.args.msg.now c.index_mut-2.ensures.value

inside : (c : goal.After-self-2-1) → c.place-place.result < length c.args.self.now.entries
inside c = room_entry c.self.view_is (subst IsHome c.self.view_is c.self.invariant) c.args.block.frame.index c.args.block.number c.place-place.result c.rules.result.now.nodes c.index_mut.result.now c.index_mut-2.result.now c.place-place.ensures c.requires.row.number c.requires.row.frame.inside (ap (λ r. r.nodes) c.rules.ensures.rules) c.index_mut.ensures.value

also_inside : (c : goal.After-self-2-1) → c.place-place.result < length c.args.self.now.lines
also_inside c = room_line c.self.view_is (subst IsHome c.self.view_is c.self.invariant) c.args.block.frame.index c.args.block.number c.place-place.result c.rules.result.now.nodes c.index_mut.result.now c.index_mut-2.result.now c.place-place.ensures c.requires.row.number c.requires.row.frame.inside (ap (λ r. r.nodes) c.rules.ensures.rules) c.index_mut.ensures.value

pub invariant_of-self : goal.invariant_of-self
invariant_of-self c =
    kept-written c.self.view_is (subst IsHome c.self.view_is c.self.invariant) _ c.args.block.frame.index c.args.block.number c.place-place.result c.place-place.result c.home_step.new.entry c.home_step.new.line
    refl refl refl c.place-place.ensures c.requires.row.number (inside c)
    (subst (λ n. NamesNodes n c.home_step.new.entry) (nodes_now c.self.view_is (subst IsHome c.self.view_is c.self.invariant) c.args.block.frame.index c.args.block.number c.place-place.result c.rules.result.now.nodes c.index_mut.result.now c.index_mut-2.result.now c.place-place.ensures c.requires.row.number c.requires.row.frame.inside (ap (λ r. r.nodes) c.rules.ensures.rules) c.index_mut.ensures.value) c.home_step.ensures.named)

pub returns-clause-home : goal.returns-clause-home
unfolding serve_row
returns-clause-home c =
    home_written c.self.view_is _ c.args.block.frame.index c.args.block.number c.place-place.result c.place-place.result c.home_step.new.entry c.home_step.new.line
    refl refl refl c.place-place.ensures c.place-place.ensures c.requires.row.number (inside c) (also_inside c)
    ∙ row_home (home_of c.args.self.now) c.args.block (table_row (home_of c.args.self.now) c.args.block c.args.msg.now) c.home_step.new.entry c.home_step.new.line c.requires.row.row
    (subst (λ (o : Option Row). IfSome o (λ r. c.home_step.new.entry ≡ r.entry)) (row_is c) c.home_step.ensures.entry)
    (subst (λ (o : Option Row). IfSome o (λ r. c.home_step.new.line ≡ r.line)) (row_is c) c.home_step.ensures.line)

pub returns-clause-letters : goal.returns-clause-letters
unfolding serve_row
returns-clause-letters c =
    row_letters (home_of c.args.self.now) c.args.block (table_row (home_of c.args.self.now) c.args.block c.args.msg.now) c.args.out.now c.home_step.new.out c.requires.row.row
    (subst (λ (o : Option Row). IfSome o (λ r. c.home_step.new.out ≡ c.args.out.now ++ r.letters)) (row_is c) c.home_step.ensures.letters)

pub returns-clause-counts : goal.returns-clause-counts
unfolding serve_row
returns-clause-counts c =
    row_counts (home_of c.args.self.now) c.args.block (table_row (home_of c.args.self.now) c.args.block c.args.msg.now) c.args.msg.now.kind c.home_step.result c.requires.row.row
    (subst (λ (o : Option Row). IfSome o (λ r. c.home_step.result ≡ is_counted c.args.msg.now.kind r.letters)) (row_is c) c.home_step.ensures.counts)

pub returns-clause-rules : goal.returns-clause-rules
returns-clause-rules c = ap (λ d. d.counters.rules) c.self.view_is

pub returns-clause-node : goal.returns-clause-node
returns-clause-node c =
    when_true c.home_step.result (λ counts.
    request_sender c.args.self.now.counters.rules.nodes c.args.msg.now.id.sender c.args.msg.now.kind
    (counted_kind c.args.msg.now.kind (serve_row (home_of c.args.self.now) c.args.block c.args.msg.now).letters (sym (returns-clause-counts c) ∙ counts)) c.requires.row.sender)

pub returns-clause-room : goal.returns-clause-room
returns-clause-room c =
    when_true c.home_step.result (λ counts.
    let few : length (serve_row (home_of c.args.self.now) c.args.block c.args.msg.now).letters ≤ c.args.self.now.counters.rules.nodes + 2 = few_letters (home_of c.args.self.now) c.args.block c.args.msg.now (sym (returns-clause-counts c) ∙ counts) in
    let long : length c.home_step.new.out ≡ length c.args.out.now + length (serve_row (home_of c.args.self.now) c.args.block c.args.msg.now).letters = ap length (returns-clause-letters c) ∙ length-append c.args.out.now (serve_row (home_of c.args.self.now) c.args.block c.args.msg.now).letters in
    let room : length c.args.out.now + c.args.self.now.counters.rules.nodes + 3 ≤ 132 = c.requires.room in
    omega arith)

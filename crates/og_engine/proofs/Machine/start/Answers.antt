use Rattle.std.proofs.Common.{◌∙◌, ◌≤◌, ◌*◌, ℕ, List, length, ap, sym, subst}
use Rattle.og_runs.specs.declared.Seat.{Seat}
use Rattle.og_msg.specs.declared.Kind.{Kind}
use Rattle.og_choices.specs.Choices.{Offer}
use Rattle.og_image.specs.Layout.{LayoutState, pages_of}
use Rattle.og_pager.specs.PageTable.{Suits}
use Rattle.og_node.specs.Kept.{KeptNode}
use Rattle.og_engine.specs.Marks.{AreMarked}
use Rattle.og_engine.proofs.Starts.{AreSettings, is_start, first_is, first_is_made}
use Rattle.og_engine.proofs.Machine.start.Goals as goal

pub make-requires : goal.make-requires
make-requires c =
    let enough : length (pages_of c.args.image.now) ≤ c.args.image.now.nodes * c.args.settings.now.frames = subst (λ (n : ℕ). length (pages_of c.args.image.now) ≤ n * c.args.settings.now.frames) c.requires.nodes c.requires.frames in
    subst (λ (n : ℕ). Suits c.args.layout.now n c.args.settings.now.frames) (sym c.requires.nodes)
    (subst (λ (l : LayoutState). Suits l c.args.image.now.nodes c.args.settings.now.frames) (sym c.requires.layout) (c.layout_suits.ensures.suits c.args.image.now c.args.settings.now.frames enough))

pub returns-clause-start : goal.returns-clause-start
returns-clause-start c =
    let first = first_is c.args.image.now c.args.layout.now c.args.settings.now c.in_ok-nodes.nodes.items c.in_ok-make.field-0 c.first_marks-running.new.choices.flight c.room.result c.first_marks-running.new.choices.ready c.first_marks-running.result c.first_marks-running.new.choices.last
    c.requires.layout c.in_ok-nodes.ensures.seats c.in_ok-make.ensures (ap (λ (o : Offer Kind). o.flight) c.first_marks-running.ensures.same ∙ ap (λ (o : Offer Kind). o.flight) c.in_ok-choices.ensures) c.room.ensures.value
    (ap (λ (o : Offer Kind). o.last) c.first_marks-running.ensures.same ∙ ap (λ (o : Offer Kind). o.last) c.in_ok-choices.ensures) in
    is_start c.args.image.now c.args.settings.now _ first

pub returns-clause-made : goal.returns-clause-made
returns-clause-made c =
    let first = first_is c.args.image.now c.args.layout.now c.args.settings.now c.in_ok-nodes.nodes.items c.in_ok-make.field-0 c.first_marks-running.new.choices.flight c.room.result c.first_marks-running.new.choices.ready c.first_marks-running.result c.first_marks-running.new.choices.last
    c.requires.layout c.in_ok-nodes.ensures.seats c.in_ok-make.ensures (ap (λ (o : Offer Kind). o.flight) c.first_marks-running.ensures.same ∙ ap (λ (o : Offer Kind). o.flight) c.in_ok-choices.ensures) c.room.ensures.value
    (ap (λ (o : Offer Kind). o.last) c.first_marks-running.ensures.same ∙ ap (λ (o : Offer Kind). o.last) c.in_ok-choices.ensures) in
    let s = c.args.settings.now in
    let ok : AreSettings c.args.image.now c.args.settings.now = record {
      loadable = c.stays_loadable.ensures.program;
      nodes = c.requires.nodes;
      frames = c.requires.frames;
      some_nodes = s.nodes_in_range.0;
      few_nodes = s.nodes_in_range.1;
      some_frames = s.frames_in_range.0;
      few_frames = s.frames_in_range.1;
      some_sets = s.sets_in_range.0;
      some_ways = s.ways_in_range.0;
      some_entries = s.tlb_in_range.0;
    } in
    first_is_made c.args.image.now c.args.settings.now _ ok first (subst (λ (xs : List (Seat KeptNode)). AreMarked c.args.image.now xs c.first_marks-running.new.choices.ready c.first_marks-running.result) c.deref.ensures.value c.first_marks-running.ensures.marks)

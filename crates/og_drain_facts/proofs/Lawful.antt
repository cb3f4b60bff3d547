-- The laws of messages in flight, from what each stopped machine that a run leads to shows.
use Rattle.std.proofs.Common.{◌≡◌, ◌∙◌, ℕ, ◌<◌, inl, inr, Bool, true, false, arith, refl, sym, ap, subst, None, Some, List, slice_get}
use Rattle.std.specs.Prelude.{option_map}
use Rattle.std.proofs.lemmas.Bool.Decides.{nat_tests}
use Rattle.og_base.specs.declared.Block.{Block}
use Rattle.og_line.specs.declared.Line.{Line}
use Rattle.og_runs.specs.declared.Choice.{Choice}
use Rattle.og_runs.specs.declared.Choice.TheVariants.{Take}
use Rattle.og_runs.specs.declared.Event.{Event}
use Rattle.og_runs.specs.declared.Msg.{Msg}
use Rattle.og_runs.specs.declared.MsgId.{MsgId}
use Rattle.og_runs.specs.declared.Seat.{Seat}
use Rattle.og_runs.specs.World.{find}
use Rattle.og_msg.specs.declared.Kind.{Kind}
use Rattle.og_msg.specs.declared.Kind.TheVariants.{PoisonRead}
use Rattle.og_msg.specs.declared.Note.{Note}
use Rattle.og_node.specs.Node.{NodeState}
use Rattle.og_machine.specs.Machine.{Setup, ActorState, Node, Machine, is_stopped}
use Rattle.og_machine.specs.Choices.{is_poison_read}
use Rattle.og_machine.specs.FlatRun.{flat_begin}
use Rattle.og_relate.specs.Data.{Cpu}
use Rattle.og_relate.specs.Places.{Placed}
use Rattle.og_seen.specs.Numbers.{Sizes, setup_seen, is_there}
use Rattle.og_seen.specs.Messages.{kind_seen}
use Rattle.og_seen.specs.Harts.{Hart}
use Rattle.og_seen.specs.Processors.{request_seen}
use Rattle.og_seen.specs.Homes.{home_seen}
use Rattle.og_seen.specs.Sound.{IsHomeOf}
use Rattle.og_seen.proofs.Numbers.{there_below, at_number}
use Rattle.og_refine.specs.Machines.{IsRunnable, sizes_of, cpus, homes, cpu_in, cpu_of, home_in, home_of}
use Rattle.og_refine.specs.Laws.{RunsTo}
use Rattle.og_refine.proofs.Runs.{Followed}
use Rattle.og_refine.proofs.Moved.{found_own}
use Rattle.og_refine.proofs.Unnamed.{node_is, same_actor}
use Rattle.og_refine_home.proofs.Places.{IsAt}
use Rattle.og_drain.specs.Laws.{is_between}
use Rattle.og_drain_facts.specs.Laws.{is_revision, NoRequestFlies, BusyBlocksHaveRevisions, DrainMeetsNoBusyBlock}
use Rattle.og_drain_facts.proofs.Choices.{IsIn, found_in, mover_acts, drained}
use Rattle.og_drain_facts.proofs.Stopped.{reached}
use Rattle.og_drain_facts.proofs.Running.{nothing_is_asked}
use Rattle.og_drain_facts.proofs.Flown.{placed, no_request, busy_told}

-- no node asks, seen
pub silent : (setup : Setup) (choices : List Choice) (w : Machine) (events : List (Event Note)) → IsRunnable setup → RunsTo setup choices w events → is_stopped w ≡ true → (p : ℕ) → p < (sizes_of setup).nodes → (cpus (sizes_of setup) w p).request ≡ None
silent setup choices w events ok run stopped p lt =
    let r = reached setup choices w events ok run in
    let n = r.follows.actors.nodes p lt in
    let a = nothing_is_asked setup choices w events p n.1.0 n.0 ok run stopped n.1.1 n.1.2 in
    ap (λ (c : Cpu Line Hart). c.request) (ap (cpu_in (sizes_of setup)) n.1.1 ∙ ap (cpu_of (sizes_of setup)) n.1.2) ∙ ap (option_map (request_seen (sizes_of setup))) a.0

own_found : (id : MsgId) (message : Msg Kind) (ms : List (Msg Kind)) → find id ms ≡ Some message → find message.id ms ≡ Some message
own_found id message ms found = subst (λ (i : MsgId). find i ms ≡ Some message) (found_own id message ms found) found

pub no_request_flies : NoRequestFlies
no_request_flies setup choices w events id message ok run stopped found =
    let r = reached setup choices w events ok run in
    no_request setup (sizes_of setup) w r.end _ r.world r.follows (silent setup choices w events ok run stopped) message r.distinct (own_found id message w.flight found)

-- a node's home, and who sits there
home_at : (setup : Setup) (choices : List Choice) (w : Machine) (events : List (Event Note)) (q : ℕ) (seat : Seat ActorState) (x : NodeState) → IsRunnable setup → RunsTo setup choices w events → slice_get w.seats q ≡ Some seat → seat.local ≡ Node x →
    (q < (sizes_of setup).nodes) × (q ≡ x.home.rules.home) × (homes (sizes_of setup) w x.home.rules.home ≡ home_seen (sizes_of setup) x.home)
home_at setup choices w events q seat x ok run there is =
    let r = reached setup choices w events ok run in
    let n = node_is setup.image (sizes_of setup) w q seat x r.follows.actors there is in
    let m = r.follows.actors.nodes q n.0 in
    let same : m.0 ≡ x = same_node m.0 x (sym m.1.2 ∙ (same_actor w q m.1.0 seat m.1.1 there ∙ is)) in
    let home : IsHomeOf (sizes_of setup) q x.home = subst (λ (y : NodeState). IsHomeOf (sizes_of setup) q y.home) same m.1.4 in
    (n.0, sym home.number, ap (homes (sizes_of setup) w) home.number ∙ (ap (home_in (sizes_of setup)) there ∙ ap (home_of (sizes_of setup)) is))
  where
    same_node : (a b : NodeState) → Node a ≡ Node b → a ≡ b
    same_node a b e = cc

is_frame_there : (s : Sizes) (b : Block) → b.frame.home < s.nodes → b.frame.index < s.frames → is_there s b.frame ≡ true
is_frame_there s b low index = grind (arith, nat_tests)

pub busy_blocks_have_revisions : BusyBlocksHaveRevisions
busy_blocks_have_revisions setup choices w events q seat x block ok run stopped there is at index number busy =
    let r = reached setup choices w events ok run in
    let h = home_at setup choices w events q seat x ok run there is in
    let low : block.frame.home < (sizes_of setup).nodes = subst (λ (n : ℕ). n < (sizes_of setup).nodes) (sym at) h.0 in
    let own : IsAt (sizes_of setup) x.home block.frame = record { there = is_frame_there (sizes_of setup) block low index; home = at ∙ h.1 } in
    let m = busy_told setup (sizes_of setup) w r.end _ r.world r.follows (silent setup choices w events ok run stopped) x.home block own h.2 number busy in
    (m.0.id, m.0, found_in m.0 w.flight r.distinct m.1, m.2, m.3)

-- a revision is no request of the mover
told_apart : (k : Kind) → is_revision k ≡ true → is_poison_read k ≡ true → ⊥
told_apart (PoisonRead b) e f = absurd (cc)
told_apart k e f = absurd (cc)

taken_is : (a b : ℕ) (i j : MsgId) → Take a i ≡ Take b j → (a ≡ b) × (i ≡ j)
taken_is a b i j e = (cc, cc)

pub drain_meets_no_busy_block : DrainMeetsNoBusyBlock
drain_meets_no_busy_block setup choices w events q seat x id message block ok run stopped is found kind there local = by (is_between (x.home.entry block.frame.index block.number)) refl
  where
    r : Followed setup (flat_begin setup.image setup.settings).harts (flat_begin setup.image setup.settings).flat w events
    r = reached setup choices w events ok run

    s : Sizes
    s = sizes_of setup

    -- the message goes to the home of its block
    sent : Placed (setup_seen s) r.world (record { from = message.id.sender; to = message.to; kind = kind_seen s (PoisonRead block) })
    sent = subst (λ (k : Kind). Placed (setup_seen s) r.world (record { from = message.id.sender; to = message.to; kind = kind_seen s k })) kind
        (placed setup s w r.end _ r.world r.follows (silent setup choices w events ok run stopped) message r.distinct (own_found id message w.flight found))

    -- nothing but such requests is in flight, and this one is taken
    taken : (q ≡ message.to) × ((m : Msg Kind) → IsIn m w.flight → is_poison_read m.kind ≡ true)
    taken = elim (drained setup w (Take q id) is) [
      | inl t ↦ (let e = taken_is q t.0.to id t.0.id t.2 in
          let mine = found_in t.0 w.flight r.distinct t.1 in
          let again : find t.0.id w.flight ≡ Some message = subst (λ (i : MsgId). find i w.flight ≡ Some message) e.1 found in
          let same : t.0 ≡ message = cc in
          (e.0 ∙ ap (λ (m : Msg Kind). m.to) same, t.3 (ap (λ (m : Msg Kind). is_poison_read m.kind) same ∙ ap is_poison_read kind)))
      | inr a ↦ (let m = mover_acts setup 0 w.seats (Take q id) a.1 in let e = m.6 in absurd (cc))
    ]

    h : (q < s.nodes) × (q ≡ x.home.rules.home) × (homes s w x.home.rules.home ≡ home_seen s x.home)
    h = home_at setup choices w events q seat x ok run there local

    exists : is_there s block.frame ≡ true
    exists = there_below s block.frame sent.0.0

    own : IsAt s x.home block.frame
    own = record { there = exists; home = ap (λ f. f.home) (sym (at_number s block.frame exists)) ∙ (sym sent.1.1 ∙ (sym taken.0 ∙ h.1)) }

    by : (t : Bool) → is_between (x.home.entry block.frame.index block.number) ≡ t → is_between (x.home.entry block.frame.index block.number) ≡ false
    by false e = e
    by true e = absurd (
        let m = busy_told setup s w r.end _ r.world r.follows (silent setup choices w events ok run stopped) x.home block own h.2 sent.0.1 e in
        told_apart m.0.kind m.2 (taken.1 m.0 m.1))

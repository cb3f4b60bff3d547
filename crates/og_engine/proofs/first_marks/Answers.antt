use Rattle.std.proofs.Common.{◌≡◌, ◌∙◌, ℕ, ◌<◌, Bool, cond, nat_eq, Some, arith, refl, ap, sym, subst, length}
use Rattle.std.specs.Prelude.{slice_get}
use Rattle.og_runs.specs.declared.Seat.{Seat}
use Rattle.og_msg.specs.declared.Kind.{Kind}
use Rattle.og_choices.specs.Marks.{is_marked}
use Rattle.og_choices.specs.Choices.{Offer}
use Rattle.og_processor.specs.Act.{may_act}
use Rattle.og_node.specs.Kept.{KeptNode}
use Rattle.og_engine.proofs.Acts.{seat_read}
use Rattle.og_engine.proofs.Bits.{MarkedTo, none_marked_yet, marked_more, all_marked}
use Rattle.og_engine.proofs.first_marks.Goals as goal

pub loop-at-init : goal.loop-at-init
loop-at-init c = record {
  marked = subst (λ (word : ℕ). MarkedTo c.args.image.now c.args.nodes.now 0 word 0) (sym c.requires.none) (none_marked_yet c.args.image.now c.args.nodes.now);
  same = refl;
}

pub mark-requires : goal.mark-requires
mark-requires c =
    let nodes : c.loop-at.choices.nodes ≡ c.args.choices.now.nodes = ap (λ (o : Offer Kind). o.nodes) c.loop-at.invariant.same in
    let all : c.args.choices.now.nodes ≡ length c.args.nodes.now = c.requires.nodes in
    let inside : c.loop-at.at < length c.args.nodes.now = c.loop-at-test.true in
    omega arith

pub loop-at-preserved : goal.loop-at-preserved
loop-at-preserved c =
    let there : slice_get c.args.nodes.now c.loop-at.at ≡ Some c.index-nodes-at.result = seat_read c.args.nodes.now c.loop-at.at c.index-nodes-at.result c.loop-at-test.true c.index-nodes-at.is in
    record {
      marked =
          marked_more c.args.image.now c.args.nodes.now c.loop-at.at c.index-nodes-at.result c.can_act-may.result c.loop-at.choices.ready c.loop-at.running c.mark.new.self.ready c.with_mark-running.result
          c.loop-at.invariant.marked there (c.can_act-may.ensures ∙ ap (λ (x : Seat KeptNode). may_act c.args.image.now x.local.processor) (sym c.index-nodes-at.is))
          (λ k. c.mark.ensures.marks k ∙ ap (λ (t : Bool). cond (nat_eq k c.loop-at.at) t (is_marked c.loop-at.choices.ready k)) c.is_ok.ensures.value)
          (λ k. c.with_mark-running.ensures k ∙ ap (λ (t : Bool). cond (nat_eq k c.loop-at.at) t (is_marked c.loop-at.running k)) c.runs.ensures);
      same = c.mark.ensures.same ∙ ap (λ (o : Offer Kind). record o { ready = c.mark.new.self.ready }) c.loop-at.invariant.same;
    }

pub returns-clause-marks : goal.returns-clause-marks
returns-clause-marks c = all_marked c.args.image.now c.args.nodes.now c.loop-at.at c.loop-at.choices.ready c.loop-at.running c.loop-at-test.false c.loop-at.invariant.marked

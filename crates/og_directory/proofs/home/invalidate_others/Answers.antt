use Rattle.std.proofs.Common.{◌≡◌, ℕ, ◌+◌, ◌<◌, ◌≤◌, ◌∙◌, List, length, true, sym, subst, arith}
use Rattle.og_runs.specs.declared.Letter.{Letter}
use Rattle.og_msg.specs.declared.Kind.{Kind}
use Rattle.og_msg.specs.declared.Kind.TheVariants.{Invalidate}
use Rattle.og_sharers.specs.Sets.{is_other}
use Rattle.og_directory.specs.declared.home.Case.{Case}
use Rattle.og_directory.specs.Table.{to, sharers_but}
use Rattle.og_directory.proofs.Rising.{Sent, Sent-start, Sent-next, Sent-all, length-Sent, other_low}
use Rattle.og_directory.proofs.home.invalidate_others.Goals as goal

abbrev sent_to : Case → ℕ → Letter Kind
sent_to case q = to q (Invalidate case.block case.sender)

pub loop-node-init : goal.loop-node-init
loop-node-init c = record { within = omega arith; sent = Sent-start (sent_to c.args.case) (is_other c.args.sharers.now c.args.case.sender c.args.case.nodes) c.args.out.now }

pub add-requires : goal.add-requires
add-requires c =
    let is : is_other c.args.sharers.now c.args.case.sender c.args.case.nodes c.in-Some.node ≡ true = sym (c.others-others.ensures c.in-Some.node) ∙ c.in-Some.ensures.member in
    let low : c.in-Some.node < c.args.case.nodes = other_low c.args.sharers.now c.args.case.sender c.args.case.nodes c.in-Some.node is in
    let from : c.loop-node.from ≤ c.in-Some.node = c.in-Some.ensures.from in
    let few : length c.loop-node.out ≤ length c.args.out.now + c.loop-node.from =
    length-Sent (sent_to c.args.case) (is_other c.args.sharers.now c.args.case.sender c.args.case.nodes) c.args.out.now c.loop-node.out c.loop-node.from c.loop-node.count c.loop-node.invariant.sent in
    let room : length c.args.out.now + c.args.case.nodes ≤ 132 = c.requires.room in
    omega arith

pub loop-node-preserved : goal.loop-node-preserved
loop-node-preserved c =
    let is : is_other c.args.sharers.now c.args.case.sender c.args.case.nodes c.in-Some.node ≡ true = sym (c.others-others.ensures c.in-Some.node) ∙ c.in-Some.ensures.member in
    let low : c.in-Some.node < c.args.case.nodes = other_low c.args.sharers.now c.args.case.sender c.args.case.nodes c.in-Some.node is in
    record {
      within = omega arith;
      sent = subst
          (λ (xs : List (Letter Kind)). Sent (sent_to c.args.case) (is_other c.args.sharers.now c.args.case.sender c.args.case.nodes) c.args.out.now xs (c.in-Some.node + 1) (c.loop-node.count + 1))
          (sym c.add.ensures)
          (Sent-next (sent_to c.args.case) (is_other c.args.sharers.now c.args.case.sender c.args.case.nodes) c.args.out.now c.loop-node.out c.loop-node.from c.loop-node.count c.in-Some.node
          c.loop-node.invariant.sent c.in-Some.ensures.from (λ k a b. sym (c.others-others.ensures k) ∙ c.in-Some.ensures.first k a b) is);
    }

all_sent : (c : goal.In_default) → Sent (sent_to c.args.case) (is_other c.args.sharers.now c.args.case.sender c.args.case.nodes) c.args.out.now c.loop-node.out c.args.case.nodes c.loop-node.count
all_sent c =
    Sent-all (sent_to c.args.case) (is_other c.args.sharers.now c.args.case.sender c.args.case.nodes) c.args.out.now c.loop-node.out c.loop-node.from c.loop-node.count c.args.case.nodes
    c.loop-node.invariant.sent c.loop-node.invariant.within (λ k le. sym (c.others-others.ensures k) ∙ c.in_default.ensures.none k le)

pub returns-clause-sent : goal.returns-clause-sent
unfolding sharers_but
returns-clause-sent c = (all_sent c).sent

pub returns-clause-count : goal.returns-clause-count
unfolding sharers_but
returns-clause-count c = (all_sent c).counted

pub returns-clause-few : goal.returns-clause-few
returns-clause-few c =
    length-Sent (sent_to c.args.case) (is_other c.args.sharers.now c.args.case.sender c.args.case.nodes) c.args.out.now c.loop-node.out c.args.case.nodes c.loop-node.count (all_sent c)

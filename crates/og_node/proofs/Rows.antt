-- What the test for a row comes to, part by part.
use Rattle.std.proofs.Common.{◌≡◌, ℕ, ◌<◌, ◌≤◌, Bool, true, false, ◌&&◌, Option, None, Some, refl, subst, sym}
use Rattle.std.specs.Prelude.{MatchBool, nat_eq, nat_lt, nat_le, is_some, if◌then◌else◌}
use Rattle.std.proofs.lemmas.Bool.{false≢true, and_parts, and_from, ltb-true, lt-ltb, leb-true, le-leb, eqb-true, eq-eqb}
use Rattle.og_base.specs.declared.Block.{Block}
use Rattle.og_base.specs.declared.Frame.{Frame}
use Rattle.og_runs.specs.declared.Msg.{Msg}
use Rattle.og_msg.specs.Kinds.{block_of, is_from_mover}
use Rattle.og_msg.specs.declared.Kind.{Kind}
use Rattle.og_msg.specs.declared.Kind.TheVariants.{CleanFrame, Rearm, InterveneShared, InterveneEx, Invalidate, Walked, DropFrame}
use Rattle.og_directory.specs.Table.{IsFromItsSender}
use Rattle.og_directory.specs.declared.entry.State.TheVariants.{Poison}
use Rattle.og_home.specs.Home.{HomeState, HasRow as HasHomeRow, HasKindRow, HasNamedRow, IsOwnFrame, table_row, are_poisoned}
use Rattle.og_home.proofs.Rows.{poisoned_all, all_poisoned}
use Rattle.og_processor.specs.Rows.{has_row_for}
use Rattle.og_node.specs.Node.{NodeState, is_for_home, IsFrame, IsBlock, NamesKnown, HasProcessorRow, HasRow}
use Rattle.og_node.specs.Rows.{is_from_its_sender, is_own_frame, has_block_row, has_home_row, is_frame, is_block, names_known, has_processor_row, has_row}

-- the test tells whether this holds
abbrev pub Tells : Bool → Type 0 → Type 0
Tells test P = (test ≡ true → P) × (P → test ≡ true)

both : {s t : Bool} {P Q : Type 0} → Tells s P → Tells t Q → Tells (s && t) (P × Q)
both {s} {t} p q = ((λ yes. (p.0 (and_parts s t yes).0, q.0 (and_parts s t yes).1)), (λ holds. and_from s t (p.1 holds.0) (q.1 holds.1)))

less : (a b : ℕ) → Tells (nat_lt a b) (a < b)
less a b = (ltb-true a b, lt-ltb a b)

at_most : (a b : ℕ) → Tells (nat_le a b) (a ≤ b)
at_most a b = (leb-true a b, le-leb a b)

same : (a b : ℕ) → Tells (nat_eq a b) (a ≡ b)
same a b = (eqb-true a b, eq-eqb a b)

holds : (test : Bool) → Tells test (test ≡ true)
holds test = ((λ yes. yes), (λ yes. yes))

either : (by : Bool) {s t : Bool} {P Q : Type 0} → Tells s P → Tells t Q → Tells (if by then s else t) (MatchBool by P Q)
either true p q = p
either false p q = q

never : Tells false ⊥
never = ((λ yes. absurd (false≢true yes)), (λ none. absurd none))

from_sender : (n : ℕ) (msg : Msg Kind) → Tells (is_from_its_sender n msg) (IsFromItsSender n msg)
from_sender n msg = either (is_from_mover msg.kind) (same msg.id.sender n) (less msg.id.sender n)

-- ---- at the home

own_frame : (home : HomeState) (f : Frame) → Tells (is_own_frame home f) (IsOwnFrame home f)
own_frame home f =
    let parts = both (same f.home home.rules.home) (less f.index home.rules.frames) in
    ((λ yes. record { home_is = (parts.0 yes).0; inside = (parts.0 yes).1 }), (λ own. parts.1 (own.home_is, own.inside)))

block_row : (home : HomeState) (msg : Msg Kind) (b : Option Block) → Tells (has_block_row home msg b) (HasNamedRow home msg b)
block_row home msg None = never
block_row home msg (Some b) =
    let parts = both (own_frame home b.frame) (both (less b.number 32) (both (from_sender home.rules.nodes msg) (holds (is_some (table_row home b msg))))) in (
      (λ yes. let all = parts.0 yes in record { frame = all.0; number = all.1.0; sender = all.1.1.0; row = all.1.1.1 }),
      (λ has. parts.1 (has.frame, (has.number, (has.sender, has.row)))),
    )

poisoned : (home : HomeState) (f : Frame) → Tells (are_poisoned (home.entry f.index) 32) ((number : ℕ) → number < 32 → home.entry f.index number ≡ Poison)
poisoned home f = (poisoned_all (home.entry f.index) 32, all_poisoned (home.entry f.index) 32)

home_row : (home : HomeState) (msg : Msg Kind) (kind : Kind) → Tells (has_home_row home msg kind) (HasKindRow home msg kind)
home_row home msg (CleanFrame f) =
    let parts = both (own_frame home f) (both (same msg.id.sender home.rules.nodes) (poisoned home f)) in (
      (λ yes. let all = parts.0 yes in record { frame = all.0; sender = all.1.0; poisoned = all.1.1 }),
      (λ has. parts.1 (has.frame, (has.sender, has.poisoned))),
    )
home_row home msg (Rearm f) =
    let parts = both (own_frame home f) (same msg.id.sender home.rules.nodes) in
    ((λ yes. record { frame = (parts.0 yes).0; sender = (parts.0 yes).1 }), (λ has. parts.1 (has.frame, has.sender)))
home_row home msg kind = block_row home msg (block_of kind)

-- ---- at the processor

frame_there : (home : HomeState) (f : Frame) → Tells (is_frame home f) (IsFrame home f)
frame_there home f = both (less f.home home.rules.nodes) (less f.index home.rules.frames)

block_there : (home : HomeState) (b : Option Block) → Tells (is_block home b) (IsBlock home b)
block_there home None = ((λ yes. tt), (λ holds. refl))
block_there home (Some b) = both (frame_there home b.frame) (less b.number 32)

names_there : (home : HomeState) (kind : Kind) → Tells (names_known home kind) (NamesKnown home kind)
names_there home (InterveneShared b requester) = less requester home.rules.nodes
names_there home (InterveneEx b requester) = less requester home.rules.nodes
names_there home (Invalidate b requester) = at_most requester home.rules.nodes
names_there home (Walked page frame) = frame_there home frame
names_there home (DropFrame frame) = frame_there home frame
names_there home _ = ((λ yes. tt), (λ holds. refl))

processor_row : (x : NodeState) (msg : Msg Kind) → Tells (has_processor_row x msg) (HasProcessorRow x msg)
processor_row x msg =
    let parts = both (from_sender x.home.rules.nodes msg) (both (block_there x.home (block_of msg.kind)) (both (names_there x.home msg.kind) (holds (has_row_for x.processor msg.kind)))) in (
      (λ yes. let all = parts.0 yes in record { sender = all.0; block = all.1.0; names = all.1.1.0; row = all.1.1.1 }),
      (λ has. parts.1 (has.sender, (has.block, (has.names, has.row)))),
    )

pub row_told : (x : NodeState) (msg : Msg Kind) → Tells (has_row x msg) (HasRow x msg)
unfolding has_row HasHomeRow
row_told x msg = either (is_for_home msg.kind) (home_row x.home msg msg.kind) (processor_row x msg)

-- ---- the node's own test

-- two tests that tell the same are the same
pub told_same : (s t : Bool) {P : Type 0} → Tells s P → Tells t P → s ≡ t
told_same true true p q = refl
told_same true false p q = absurd (false≢true (q.1 (p.0 refl)))
told_same false true p q = absurd (false≢true (p.1 (q.0 refl)))
told_same false false p q = refl

pub sender_told : (n : ℕ) (msg : Msg Kind) (test : Bool) → Tells test (IsFromItsSender n msg) → test ≡ is_from_its_sender n msg
sender_told n msg test tells = told_same test (is_from_its_sender n msg) tells (from_sender n msg)

pub by_home : (x : NodeState) (msg : Msg Kind) (test : Bool) → is_for_home msg.kind ≡ true → Tells test (HasHomeRow x.home msg) → Tells test (HasRow x msg)
by_home x msg test is tells = subst (λ by. Tells test (MatchBool by (HasHomeRow x.home msg) (HasProcessorRow x msg))) (sym is) tells

pub by_processor : (x : NodeState) (msg : Msg Kind) (test : Bool) → is_for_home msg.kind ≡ false → test ≡ has_processor_row x msg → Tells test (HasRow x msg)
by_processor x msg test is same =
    subst (λ by. Tells test (MatchBool by (HasHomeRow x.home msg) (HasProcessorRow x msg))) (sym is)
    (subst (λ t. Tells t (HasProcessorRow x msg)) (sym same) (processor_row x msg))

-- The enabled choices of a machine are those that the index offers.
use Rattle.std.proofs.Common.{◌≡◌, ◌∙◌, ℕ, suc, ◌+◌, ◌<◌, ◌≤◌, Bool, true, false, cond, nat_eq, nat_lt, arith, refl, sym, ap, subst, None, Some, Ok, Err, Result, List, [], ◌∷◌, ◌++◌, length, append_assoc}
use Rattle.std.specs.Prelude.{slice_get, if◌then◌else◌, ◌&&◌}
use Rattle.std.specs.Result.{is_ok}
use Rattle.std.proofs.lemmas.Bool.Decides.{nat_tests}
use Rattle.og_base.specs.declared.NotEnabled.{NotEnabled}
use Rattle.og_runs.specs.declared.Choice.{Choice}
use Rattle.og_runs.specs.declared.Choice.TheVariants.{Act}
use Rattle.og_runs.specs.declared.Msg.{Msg}
use Rattle.og_runs.specs.declared.MsgId.{MsgId}
use Rattle.og_runs.specs.declared.Seat.{Seat}
use Rattle.og_runs.specs.Runs.{same_id}
use Rattle.og_runs.specs.World.{find, Distinct}
use Rattle.og_runs.proofs.Placed.{same_self, same_id_equal}
use Rattle.og_runs.proofs.Seats.{length_seats}
use Rattle.og_runs.proofs.Shown.{slice_get_below, slice_get_some}
use Rattle.og_flight.specs.Flight.{messages_below}
use Rattle.og_choices.specs.Marks.{is_marked, marks_below}
use Rattle.og_choices.specs.Choices.{Offer, may_act_at, choices_at, choices_to, choices_below, acts_below, count_of}
use Rattle.og_choices.proofs.Shown.{choices_length}
use Rattle.og_msg.specs.declared.Kind.{Kind}
use Rattle.og_image.specs.Image.{ImageState}
use Rattle.og_mover.specs.Table.{has_act}
use Rattle.og_machine.specs.Machine.{Setup, ActorState, can_act, mover_may}
use Rattle.og_machine.specs.Choices.{act_by, takes_of, enabled_from, enabled_of}
use Rattle.og_refine.proofs.Lawful.{messages_rows}
use Rattle.og_engine.specs.Marks.{is_ready}
use Rattle.og_engine.specs.Kept.{KeptMachine, IsMade, machine_of, setup_in, offer_of, node_seat, mover_seat}
use Rattle.og_engine.proofs.Moved.{names}
use Rattle.og_engine.proofs.Acts.{node_sits, mover_sits}
use Rattle.og_engine.proofs.Counts.{nodes_count}

-- ---- messages

-- where each message is to an actor below n, all are
pub all_below : (n : ℕ) (ms : List (Msg Kind)) → Distinct ms → ((id : MsgId) (m : Msg Kind) → find id ms ≡ Some m → m.to < n) → length (messages_below n ms) ≡ length ms
all_below n [] distinct low = refl
all_below n (m ∷ ms) distinct low =
    let here : m.to < n = low m.id m (ap (λ (t : Bool). cond t (Some m) (find m.id ms)) (same_self m.id)) in
    let yes : nat_lt m.to n ≡ true = grind (arith, nat_tests) in
    let rest : length (messages_below n ms) ≡ length ms = all_below n ms distinct.1 (λ id k found. low id k (later id k (same_id id m.id) refl found)) in
    ap (λ (t : Bool). length (cond t (m ∷ messages_below n ms) (messages_below n ms))) yes ∙ (omega arith)
  where
    later : (id : MsgId) (k : Msg Kind) (t : Bool) → same_id id m.id ≡ t → find id ms ≡ Some k → cond (same_id id m.id) (Some m) (find id ms) ≡ Some k
    later id k true is found =
        let same : id ≡ m.id = same_id_equal id m.id is in
        let none : find id ms ≡ None = ap (λ (i : MsgId). find i ms) same ∙ distinct.0 in
        absurd (cc)
    later id k false is found = ap (λ (t : Bool). cond t (Some m) (find id ms)) is ∙ found

-- each message in flight is to a node or the mover
pub message_inside : (image : ImageState) (kept : KeptMachine) (id : MsgId) (m : Msg Kind) → IsMade image kept → find id kept.flight.messages ≡ Some m → m.to < length kept.nodes + 1
unfolding machine_of
message_inside image kept id m made found =
    let r = messages_rows (setup_in image kept) made.0 (machine_of kept) made.1 id m made.2.runnable made.2.run found in
    let low : m.to < length (machine_of kept).seats = slice_get_below (machine_of kept).seats m.to r.0 r.1 in
    let seats : length (machine_of kept).seats ≡ length kept.nodes + 1 = length_seats node_seat kept.nodes (mover_seat kept.mover) in
    omega arith

all_messages : (image : ImageState) (kept : KeptMachine) → IsMade image kept → length (messages_below (suc (length kept.nodes)) kept.flight.messages) ≡ length kept.flight.messages
unfolding machine_of
all_messages image kept made = all_below (suc (length kept.nodes)) kept.flight.messages (names image kept made).distinct (λ id m found. let low : m.to < length kept.nodes + 1 = message_inside image kept id m made found in omega arith)

-- ---- acts

act_is : (a : ℕ) (may : Result (Unit {0}) NotEnabled) → act_by a may ≡ (if is_ok may then Act a ∷ [] else [])
act_is a (Ok u) = refl
act_is a (Err why) = refl

is_ok_mover : (t : Bool) → is_ok (mover_may t) ≡ t
is_ok_mover true = refl
is_ok_mover false = refl

-- an actor's act, as its seat has it
pub seat_at : (image : ImageState) (kept : KeptMachine) (a : ℕ) → IsMade image kept → a ≤ length kept.nodes → (x : Seat ActorState) × (slice_get (machine_of kept).seats a ≡ Some x) × (is_ok (can_act (setup_in image kept) x.local) ≡ may_act_at (offer_of kept) a)
seat_at image kept a made le = at (nat_lt a kept.settings.nodes) refl
  where
    count : length kept.nodes ≡ kept.settings.nodes
    count = nodes_count image kept made

    at : (t : Bool) → nat_lt a kept.settings.nodes ≡ t → (x : Seat ActorState) × (slice_get (machine_of kept).seats a ≡ Some x) × (is_ok (can_act (setup_in image kept) x.local) ≡ (if t then is_marked kept.ready a else (nat_eq a kept.settings.nodes && kept.mover_ready)))
    at true lt =
        let here : a < kept.settings.nodes = grind (arith, nat_tests) in
        let c : length kept.nodes ≡ kept.settings.nodes = count in
        let inside : a < length kept.nodes = omega arith in
        let x = slice_get_some kept.nodes a inside in
        (node_seat x.0, node_sits kept a x.0 x.1, sym (made.2.marks.ready_is a ∙ ap (is_ready image) x.1))
    at false lt =
        let there : kept.settings.nodes ≤ a = grind (arith, nat_tests) in
        let c : length kept.nodes ≡ kept.settings.nodes = count in
        let same : a ≡ length kept.nodes = omega arith in
        let last : nat_eq a kept.settings.nodes ≡ true = grind (arith, nat_tests) in
        (mover_seat kept.mover, mover_sits kept a same, is_ok_mover (has_act kept.mover.local.job) ∙ sym made.2.mover_mark ∙ sym (ap (λ (t : Bool). t && kept.mover_ready) last))

-- ---- choices

-- the choices of the seats from one on follow on those of the actors below
from_here : (setup : Setup) (o : Offer Kind) (xs : List (Seat ActorState)) (b : ℕ) → ((k : ℕ) (x : Seat ActorState) → slice_get xs k ≡ Some x → is_ok (can_act setup x.local) ≡ may_act_at o (b + k)) →
    choices_to o b ++ enabled_from setup b xs o.flight.messages ≡ choices_to o (b + length xs)
from_here setup o [] b acts =
    let none : b + 0 ≡ b = omega arith in
    no_more (choices_to o b) ∙ sym (ap (choices_to o) none)
  where
    no_more : (ys : List Choice) → ys ++ [] ≡ ys
    no_more [] = refl
    no_more (y ∷ ys) = ap (λ (zs : List Choice). y ∷ zs) (no_more ys)
from_here setup o (x ∷ xs) b acts =
    let here : b + 0 ≡ b = omega arith in
    let may : is_ok (can_act setup x.local) ≡ may_act_at o b = acts 0 x refl ∙ ap (may_act_at o) here in
    let act : act_by b (can_act setup x.local) ≡ (if may_act_at o b then Act b ∷ [] else []) = act_is b (can_act setup x.local) ∙ ap (λ (t : Bool). if t then Act b ∷ [] else []) may in
    let rest : List Choice = enabled_from setup (suc b) xs o.flight.messages in
    let own : act_by b (can_act setup x.local) ++ (takes_of b o.flight.messages ++ rest) ≡ choices_at o b ++ rest =
    ap (λ (ys : List Choice). ys ++ (takes_of b o.flight.messages ++ rest)) act ∙ sym (append_assoc (if may_act_at o b then Act b ∷ [] else []) (takes_of b o.flight.messages) rest) in
    let next : (k : ℕ) (y : Seat ActorState) → slice_get xs k ≡ Some y → is_ok (can_act setup y.local) ≡ may_act_at o (suc b + k) =
    (λ k y there. let at : b + suc k ≡ suc b + k = omega arith in acts (suc k) y there ∙ ap (may_act_at o) at) in
    let count : suc b + length xs ≡ b + length (x ∷ xs) = omega arith in
    ap (λ (ys : List Choice). choices_to o b ++ ys) own
    ∙ sym (append_assoc (choices_to o b) (choices_at o b) rest)
    ∙ from_here setup o xs (suc b) next
    ∙ ap (choices_to o) count

-- all actors' choices are enabled, and no others
pub choices_are : (image : ImageState) (kept : KeptMachine) → IsMade image kept → enabled_of (setup_in image kept) (machine_of kept) ≡ choices_to (offer_of kept) (suc (length kept.nodes))
unfolding enabled_of machine_of
choices_are image kept made =
    let seats : length (machine_of kept).seats ≡ length kept.nodes + 1 = count in
    let all : 0 + length (machine_of kept).seats ≡ suc (length kept.nodes) = omega arith in
    from_zero ∙ ap (choices_to (offer_of kept)) all
  where
    count : length (machine_of kept).seats ≡ length kept.nodes + 1
    count = length_seats node_seat kept.nodes (mover_seat kept.mover)

    may : (k : ℕ) (x : Seat ActorState) → slice_get (machine_of kept).seats k ≡ Some x → is_ok (can_act (setup_in image kept) x.local) ≡ may_act_at (offer_of kept) (0 + k)
    may k x there =
        let few : k < length (machine_of kept).seats = slice_get_below (machine_of kept).seats k x there in
        let seats : length (machine_of kept).seats ≡ length kept.nodes + 1 = count in
        let s = seat_at image kept k made (omega arith) in
        let same : s.0 ≡ x = one_seat s.0 s.1 in
        let here : k ≡ 0 + k = omega arith in
        ap (λ (y : Seat ActorState). is_ok (can_act (setup_in image kept) y.local)) (sym same) ∙ s.2 ∙ ap (may_act_at (offer_of kept)) here
      where
        one_seat : (y : Seat ActorState) → slice_get (machine_of kept).seats k ≡ Some y → y ≡ x
        one_seat y e = cc

    from_zero : enabled_from (setup_in image kept) 0 (machine_of kept).seats (machine_of kept).flight ≡ choices_to (offer_of kept) (0 + length (machine_of kept).seats)
    from_zero = from_here (setup_in image kept) (offer_of kept) (machine_of kept).seats 0 may

-- and as many
pub count_is : (image : ImageState) (kept : KeptMachine) → IsMade image kept → count_of (offer_of kept) ≡ length (enabled_of (setup_in image kept) (machine_of kept))
count_is image kept made =
    let n : ℕ = length kept.nodes in
    let nodes : length kept.nodes ≡ kept.settings.nodes = nodes_count image kept made in
    let all : length (messages_below (suc n) kept.flight.messages) ≡ length kept.flight.messages = all_messages image kept made in
    let past : nat_lt kept.settings.nodes (suc n) ≡ true = grind (arith, nat_tests) in
    let acts : acts_below (offer_of kept) (suc n) ≡ marks_below kept.ready kept.settings.nodes + (if kept.mover_ready then 1 else 0) =
    ap (λ (t : Bool). if t then marks_below kept.ready kept.settings.nodes + (if kept.mover_ready then 1 else 0) else marks_below kept.ready (suc n)) past in
    let count : length (choices_to (offer_of kept) (suc n)) ≡ choices_below (offer_of kept) (suc n) = choices_length (offer_of kept) (suc n) in
    let same : length (enabled_of (setup_in image kept) (machine_of kept)) ≡ length (choices_to (offer_of kept) (suc n)) = ap (λ (cs : List Choice). length cs) (choices_are image kept made) in
    omega arith

-- ---- in the code's own terms

-- an index that offers what a machine does
pub count_as : (image : ImageState) (kept : KeptMachine) (o : Offer Kind) (count : ℕ) → IsMade image kept → o ≡ offer_of kept → count ≡ count_of o → count ≡ length (enabled_of (setup_in image kept) (machine_of kept))
count_as image kept o count made is count_is_so = count_is_so ∙ ap (λ (p : Offer Kind). count_of p) is ∙ count_is image kept made

pub inside_as : (image : ImageState) (kept : KeptMachine) (o : Offer Kind) (at : ℕ) → IsMade image kept → o ≡ offer_of kept → at < length (enabled_of (setup_in image kept) (machine_of kept)) → at < count_of o
inside_as image kept o at made is lt = subst (λ (n : ℕ). at < n) (sym (ap (λ (p : Offer Kind). count_of p) is ∙ count_is image kept made)) lt

pub choice_as : (image : ImageState) (kept : KeptMachine) (o : Offer Kind) (at : ℕ) (choice : Choice) → IsMade image kept → o ≡ offer_of kept → at < length (enabled_of (setup_in image kept) (machine_of kept)) →
    ((n : ℕ) → at < length (choices_to o n) → slice_get (choices_to o n) at ≡ Some choice) → slice_get (enabled_of (setup_in image kept) (machine_of kept)) at ≡ Some choice
choice_as image kept o at choice made is lt shown =
    let n : ℕ = suc (length kept.nodes) in
    let same : choices_to o n ≡ enabled_of (setup_in image kept) (machine_of kept) = ap (λ (p : Offer Kind). choices_to p n) is ∙ sym (choices_are image kept made) in
    let inside : at < length (choices_to o n) = subst (λ (cs : List Choice). at < length cs) (sym same) lt in
    ap (λ (cs : List Choice). slice_get cs at) (sym same) ∙ shown n inside

-- Each step keeps the rule.
use Rattle.std.proofs.Common.{◌≡◌, ◌≢◌, ℕ, suc, ◌+◌, ◌<◌, Bool, true, false, cond, nat_eq, arith, ◌⊎◌, inl, inr, refl, sym, subst, List, [], ◌∷◌, ◌++◌, length, slice_get, set, Option, None, Some, ap}
use Rattle.std.proofs.Math.Path.{◌∙◌}
use Rattle.std.proofs.lemmas.Bool.Decides.{nat_tests}
use mathlib.Core.Option.{some}
use lib.ListN.{get_elem?}
use Rattle.crossbeam_queue.proofs.Lists.{at_set}
use Rattle.og_runs.specs.declared.MsgId.{MsgId}
use Rattle.og_runs.specs.declared.Msg.{Msg}
use Rattle.og_runs.specs.Runs.{Rules, same_id, put}
use Rattle.og_runs.proofs.Placed.{same_id_equal, same_self}
use Rattle.og_fabric.specs.declared.rule.Side.{Side}
use Rattle.og_fabric.specs.declared.rule.Sight.{Sight}
use Rattle.og_fabric.specs.Sides.{Each, times, Place, in_queue, in_hand, in_taken, is_somewhere, is_there, Sides, sent_in, Fits, IsNamed, IsSide, IsKept, sight, OwnsRest, Knows, Holds, sent_more, taken_more, carried_more, with_hand}
use Rattle.og_fabric.specs.Sides.Place.{Nowhere, Queue, Hand, Taken}
use Rattle.og_fabric.proofs.Lists.{each_map, each_snoc, times_append, get_snoc, get_end, get_at_end, none_at_end, moved, unseen, eq_self, put_here, put_there, put_all, sent_same, sent_grows}

-- where a pass knows one side, a change of that side leaves what the others know
knows_others : {K : Type 0} → (s : Sides K) (owner : ℕ → ℕ) (a : ℕ) (h : Side K) (port : ℕ) (v : Sight K) → owner a ≢ port → Knows s owner port v → Knows (put s a h) owner port v
knows_others {K} s owner a h port v apart k = (each_map (λ (g : Side K). (owner g.actor ≡ port) × (s g.actor ≡ g)) (λ g. (owner g.actor ≡ port) × (put s a h g.actor ≡ g)) (λ g e. (e.0, stays g.actor e.0 ∙ e.1)) v.sides k.0, rest v.rest k.1)
  where
    stays : (b : ℕ) → owner b ≡ port → put s a h b ≡ s b
    stays b e = at (nat_eq a b) refl
      where
        at : (w : Bool) → nat_eq a b ≡ w → cond w h (s b) ≡ s b
        at true is = let same : a ≡ b = grind (arith, nat_tests) in absurd (apart (ap owner same ∙ e))
        at false is = refl

    rest : (o : Option ℕ) → OwnsRest s owner port o → OwnsRest (put s a h) owner port o
    rest None e = tt
    rest (Some n) e = λ b le. ((e b le).0, stays b (e b le).0 ∙ (e b le).1)

-- a step of a pass: its first side becomes h', and the queue's content items'
pub steps_among : {A K N : Type 0} → (r : Rules A K N) (f : ℕ → A) (actors most : ℕ) (items items' : List (Msg K)) (views : List (Sight K)) (port : ℕ) (h h' : Side K) (hs : List (Side K)) →
    Each (λ g. nat_eq h.actor g.actor ≡ false) hs → h'.actor ≡ h.actor →
    get_elem? views port ≡ some (record { rest = None; sides = h ∷ hs }) → (k : Holds r f actors most items views) → ((k.0 h.actor ≡ h) → IsKept r f actors most items' (put k.0 h.actor h')) →
    Holds r f actors most items' (set views port (record { rest = None; sides = h' ∷ hs }))
steps_among {A} {K} {N} r f actors most items items' views port h h' hs apart same at k step = (put k.0 h.actor h', k.1, step mine.0.0.1, knows)
  where
    mine : Knows k.0 k.1 port (record { rest = None; sides = h ∷ hs })
    mine = k.3 port (record { rest = None; sides = h ∷ hs }) at

    stay : (gs : List (Side K)) → Each (λ g. nat_eq h.actor g.actor ≡ false) gs → Each (λ g. (k.1 g.actor ≡ port) × (k.0 g.actor ≡ g)) gs → Each (λ g. (k.1 g.actor ≡ port) × (put k.0 h.actor h' g.actor ≡ g)) gs
    stay [] ne e = tt
    stay (g ∷ gs) ne e = ((e.0.0, put_there k.0 h.actor h' g.actor ne.0 ∙ e.0.1), stay gs ne.1 e.1)

    knows : (j : ℕ) (u : Sight K) → get_elem? (set views port (record { rest = None; sides = h' ∷ hs })) j ≡ some u → Knows (put k.0 h.actor h') k.1 j u
    knows j u e = go (at_set views port j (record { rest = None; sides = h' ∷ hs }) u e)
      where
        own : k.1 h'.actor ≡ port
        own = ap k.1 same ∙ mine.0.0.0

        is : put k.0 h.actor h' h'.actor ≡ h'
        is = ap (λ (b : ℕ). put k.0 h.actor h' b) same ∙ put_here k.0 h.actor h'

        go : ((j ≡ port) × (record { rest = None; sides = h' ∷ hs } ≡ u)) ⊎ ((j ≢ port) × (get_elem? views j ≡ some u)) → Knows (put k.0 h.actor h') k.1 j u
        go (inl x) = subst (λ (w : Sight K). Knows (put k.0 h.actor h') k.1 j w) x.1
            (subst (λ (i : ℕ). Knows (put k.0 h.actor h') k.1 i (record { rest = None; sides = h' ∷ hs })) (sym x.0) (((own, is), stay hs apart mine.0.1), tt))
        go (inr x) = knows_others k.0 k.1 h.actor h' j u (λ owns. x.0 (sym owns ∙ mine.0.0.0)) (k.3 j u x.1)

-- so of a seat, which knows one side
pub steps : {A K N : Type 0} → (r : Rules A K N) (f : ℕ → A) (actors most : ℕ) (items items' : List (Msg K)) (views : List (Sight K)) (port : ℕ) (h h' : Side K) →
    h'.actor ≡ h.actor →
    get_elem? views port ≡ some (sight h) → (k : Holds r f actors most items views) → ((k.0 h.actor ≡ h) → IsKept r f actors most items' (put k.0 h.actor h')) → Holds r f actors most items' (set views port (sight h'))
steps r f actors most items items' views port h h' same at k step = steps_among r f actors most items items' views port h h' [] tt same at k step

-- a side that isn't changed, where another one is and a message moves
other_side : {K : Type 0} → (s s' : Sides K) (place : MsgId → Place) (i : MsgId) (p : Place) (b : ℕ) (g : Side K) → ((j : MsgId) (m : Msg K) → sent_in s j ≡ Some m → sent_in s' j ≡ Some m) →
    in_hand b (place i) ≡ in_hand b p → in_taken b (place i) ≡ in_taken b p → IsSide s place b g → IsSide s' (moved i p place) b g
other_side {K} s s' place i p b g grow hand taken k = record {
  actor = k.actor;
  named = k.named;
  hand = λ j. k.hand j ∙ unseen (in_hand b) i p place hand j;
  taken = λ j. k.taken j ∙ unseen (in_taken b) i p place taken j;
  hand_sent = each_map (λ (m : Msg K). sent_in s m.id ≡ Some m) (λ m. sent_in s' m.id ≡ Some m) (λ m e. grow m.id m e) g.hand k.hand_sent;
  taken_sent = each_map (λ (m : Msg K). (sent_in s m.id ≡ Some m) × (m.to ≡ b)) (λ m. (sent_in s' m.id ≡ Some m) × (m.to ≡ b)) (λ m e. (grow m.id m e.0, e.1)) g.taken k.taken_sent;
}

nowhere : (p : Place) → is_somewhere p ≡ false → p ≡ Nowhere
nowhere Nowhere e = refl
nowhere Queue e = absurd (cc)
nowhere (Hand b) e = absurd (cc)
nowhere (Taken b) e = absurd (cc)

queued : (p : Place) (n : ℕ) → suc n ≡ in_queue p → (p ≡ Queue) × (n ≡ 0)
queued Nowhere n e = absurd (omega arith)
queued Queue n e = (refl, omega arith)
queued (Hand b) n e = absurd (omega arith)
queued (Taken b) n e = absurd (omega arith)

times_here : {K : Type 0} → (x : Msg K) (ms : List (Msg K)) → times x.id (x ∷ ms) ≡ suc (times x.id ms)
times_here {K} x ms = ap (λ (w : Bool). cond w (suc (times x.id ms)) (times x.id ms)) (same_self x.id)

same_comm : (i j : MsgId) → same_id i j ≡ same_id j i
same_comm i j = grind (arith, nat_tests)

-- how often each message stands in a list that x joined, where it wasn't before
joins : {K : Type 0} → (g : Place → ℕ) (place : MsgId → Place) (p : Place) (x : Msg K) (ms : List (Msg K)) → g p ≡ 1 → g (place x.id) ≡ 0 → ((j : MsgId) → times j ms ≡ g (place j)) → (j : MsgId) → times j (ms ++ x ∷ []) ≡ g (moved x.id p place j)
joins {K} g place p x ms one zero' k j = times_append j ms (x ∷ []) ∙ at (same_id x.id j) refl
  where
    at : (w : Bool) → same_id x.id j ≡ w → times j ms + cond (same_id j x.id) 1 0 ≡ g (cond w p (place j))
    at true is =
        let there : same_id j x.id ≡ true = same_comm j x.id ∙ is in
        let none : times j ms ≡ 0 = k j ∙ (ap (λ (i : MsgId). g (place i)) (sym (same_id_equal x.id j is)) ∙ zero') in
        rw there (omega (arith, none, one))
    at false is =
        let there : same_id j x.id ≡ false = same_comm j x.id ∙ is in
        rw there (omega (arith, k j))

-- and in a list that it left from the front
leaves : {K : Type 0} → (g : Place → ℕ) (place : MsgId → Place) (p : Place) (x : Msg K) (ms : List (Msg K)) → g p ≡ 0 → g (place x.id) ≡ 1 → ((j : MsgId) → times j (x ∷ ms) ≡ g (place j)) → (j : MsgId) → times j ms ≡ g (moved x.id p place j)
leaves {K} g place p x ms none one k j = at (same_id x.id j) refl
  where
    at : (w : Bool) → same_id x.id j ≡ w → times j ms ≡ g (cond w p (place j))
    at true is =
        let there : same_id j x.id ≡ true = same_comm j x.id ∙ is in
        let here : suc (times j ms) ≡ times j (x ∷ ms) = sym (ap (λ (w : Bool). cond w (suc (times j ms)) (times j ms)) there) in
        let is1 : times j (x ∷ ms) ≡ 1 = k j ∙ (ap (λ (i : MsgId). g (place i)) (sym (same_id_equal x.id j is)) ∙ one) in
        omega (arith, here, is1, none)
    at false is =
        let there : same_id j x.id ≡ false = same_comm j x.id ∙ is in
        let here : times j ms ≡ times j (x ∷ ms) = sym (ap (λ (w : Bool). cond w (suc (times j ms)) (times j ms)) there) in
        here ∙ k j

same_flip : (a b : ℕ) → nat_eq a b ≡ false → nat_eq b a ≡ false
same_flip a b e = grind (arith, nat_tests)

-- a step that sends nothing new: the message with id i, which was somewhere, moves to p
goes_on : {A K N : Type 0} → (r : Rules A K N) (f : ℕ → A) (actors most : ℕ) (items items' : List (Msg K)) (s : Sides K) (h h' : Side K) (i : MsgId) (p : Place) (k : IsKept r f actors most items s) → s h.actor ≡ h → h.actor < actors → h'.sent ≡ h.sent →
    is_somewhere (k.place i) ≡ true → is_somewhere p ≡ true → ((b : ℕ) → nat_eq h.actor b ≡ false → (in_hand b (k.place i) ≡ in_hand b p) × (in_taken b (k.place i) ≡ in_taken b p)) →
    IsSide s (moved i p k.place) h.actor h' → ((j : MsgId) → times j items' ≡ in_queue (moved i p k.place j)) → Each (λ m. sent_in s m.id ≡ Some m) items' → Fits r f most h.actor h'.sent h'.taken →
    IsKept r f actors most items' (put s h.actor h')
goes_on {A} {K} {N} r f actors most items items' s h h' i p k is lt sent before after others mine queue queue_sent fits = record {
  place = place';
  side = put_all (λ (b : ℕ) (g : Side K). IsSide s' place' b g) s h.actor h' (like h.actor h' mine) (λ b ne. other_side s s' k.place i p b (s b) grow (others b ne).0 (others b ne).1 (k.side b));
  queue = queue;
  queue_sent = each_map (λ (m : Msg K). sent_in s m.id ≡ Some m) (λ m. sent_in s' m.id ≡ Some m) (λ m e. grow m.id m e) items' queue_sent;
  sent = λ j. ap (λ (o : Option (Msg K)). is_there o) (same j) ∙ (k.sent j ∙ unseen is_somewhere i p k.place (before ∙ sym after) j);
  fits = put_all (λ (b : ℕ) (g : Side K). Fits r f most b g.sent g.taken) s h.actor h' fits (λ b ne. k.fits b);
  past = λ b le. let ne : nat_eq h.actor b ≡ false = grind (arith, nat_tests) in put_there s h.actor h' b ne ∙ k.past b le;
}
  where
    s' : Sides K
    s' = put s h.actor h'

    place' : MsgId → Place
    place' = moved i p k.place

    same : (j : MsgId) → sent_in (put s h.actor h') j ≡ sent_in s j
    same j = sent_same s h.actor h' (sent ∙ ap (λ (g : Side K). g.sent) (sym is)) j

    grow : (j : MsgId) (m : Msg K) → sent_in s j ≡ Some m → sent_in (put s h.actor h') j ≡ Some m
    grow j m e = same j ∙ e

    like : (b : ℕ) (g : Side K) → IsSide s (moved i p k.place) b g → IsSide (put s h.actor h') (moved i p k.place) b g
    like b g x = record {
      actor = x.actor;
      named = x.named;
      hand = x.hand;
      taken = x.taken;
      hand_sent = each_map (λ (m : Msg K). sent_in s m.id ≡ Some m) (λ m. sent_in (put s h.actor h') m.id ≡ Some m) (λ m e. grow m.id m e) g.hand x.hand_sent;
      taken_sent = each_map (λ (m : Msg K). (sent_in s m.id ≡ Some m) × (m.to ≡ b)) (λ m. (sent_in (put s h.actor h') m.id ≡ Some m) × (m.to ≡ b)) (λ m e. (grow m.id m e.0, e.1)) g.taken x.taken_sent;
    }

first_queued : {A K N : Type 0} → (r : Rules A K N) (f : ℕ → A) (actors most : ℕ) (x : Msg K) (items : List (Msg K)) (s : Sides K) (k : IsKept r f actors most (x ∷ items) s) → k.place x.id ≡ Queue
first_queued {A} {K} {N} r f actors most x items s k = (queued (k.place x.id) (times x.id items) (sym (times_here x items) ∙ k.queue x.id)).0

-- a seat takes a message that is for it
pub take_kept : {A K N : Type 0} → (r : Rules A K N) (f : ℕ → A) (actors most : ℕ) (x : Msg K) (items : List (Msg K)) (s : Sides K) (h : Side K) → IsKept r f actors most (x ∷ items) s → s h.actor ≡ h → h.actor < actors → x.to ≡ h.actor →
    Fits r f most h.actor h.sent (h.taken ++ x ∷ []) → IsKept r f actors most items (put s h.actor (taken_more h x))
take_kept {A} {K} {N} r f actors most x items s h k is lt to fits =
    goes_on r f actors most (x ∷ items) items s h (taken_more h x) x.id p k is lt refl (ap is_somewhere old) refl
    (λ b ne. (ap (in_hand b) old, let ne' : nat_eq b h.actor ≡ false = same_flip h.actor b ne in ap (in_taken b) old ∙ sym (ap (λ (w : Bool). cond w 1 0) ne')))
    (record {
      actor = refl;
      named = mine.named;
      hand = λ j. mine.hand j ∙ unseen (in_hand h.actor) x.id p k.place (ap (in_hand h.actor) old) j;
      taken = joins (in_taken h.actor) k.place p x h.taken (ap (λ (w : Bool). cond w 1 0) (eq_self h.actor)) (ap (in_taken h.actor) old) mine.taken;
      hand_sent = mine.hand_sent;
      taken_sent = each_snoc (λ (m : Msg K). (sent_in s m.id ≡ Some m) × (m.to ≡ h.actor)) h.taken x mine.taken_sent (k.queue_sent.0, to);
    })
    (leaves in_queue k.place p x items refl (ap in_queue old) k.queue)
    k.queue_sent.1
    fits
  where
    p : Place
    p = Taken h.actor

    old : k.place x.id ≡ Queue
    old = first_queued r f actors most x items s k

    mine : IsSide s k.place h.actor h
    mine = subst (λ (g : Side K). IsSide s k.place h.actor g) is (k.side h.actor)

-- a message is carried
pub carry_kept : {A K N : Type 0} → (r : Rules A K N) (f : ℕ → A) (actors most : ℕ) (x : Msg K) (items : List (Msg K)) (s : Sides K) (h : Side K) → IsKept r f actors most (x ∷ items) s → s h.actor ≡ h → h.actor < actors →
    IsKept r f actors most items (put s h.actor (carried_more h x))
carry_kept {A} {K} {N} r f actors most x items s h k is lt =
    goes_on r f actors most (x ∷ items) items s h (carried_more h x) x.id p k is lt refl (ap is_somewhere old) refl
    (λ b ne. (let ne' : nat_eq b h.actor ≡ false = same_flip h.actor b ne in ap (in_hand b) old ∙ sym (ap (λ (w : Bool). cond w 1 0) ne'), ap (in_taken b) old))
    (record {
      actor = refl;
      named = mine.named;
      hand = joins (in_hand h.actor) k.place p x h.hand (ap (λ (w : Bool). cond w 1 0) (eq_self h.actor)) (ap (in_hand h.actor) old) mine.hand;
      taken = λ j. mine.taken j ∙ unseen (in_taken h.actor) x.id p k.place (ap (in_taken h.actor) old) j;
      hand_sent = each_snoc (λ (m : Msg K). sent_in s m.id ≡ Some m) h.hand x mine.hand_sent k.queue_sent.0;
      taken_sent = mine.taken_sent;
    })
    (leaves in_queue k.place p x items refl (ap in_queue old) k.queue)
    k.queue_sent.1
    (subst (λ (g : Side K). Fits r f most h.actor g.sent g.taken) is (k.fits h.actor))
  where
    p : Place
    p = Hand h.actor

    old : k.place x.id ≡ Queue
    old = first_queued r f actors most x items s k

    mine : IsSide s k.place h.actor h
    mine = subst (λ (g : Side K). IsSide s k.place h.actor g) is (k.side h.actor)

in_hand_of : (a : ℕ) (p : Place) → in_hand a p ≡ 1 → p ≡ Hand a
in_hand_of a Nowhere e = absurd (omega (arith, e))
in_hand_of a Queue e = absurd (omega (arith, e))
in_hand_of a (Hand b) e = at (nat_eq a b) refl e
  where
    at : (w : Bool) → nat_eq a b ≡ w → ◌≡◌ {A = ℕ} (cond w 1 0) 1 → Hand b ≡ Hand a
    at true is e = let same : b ≡ a = grind (arith, nat_tests) in ap (λ (c : ℕ). Hand c) same
    at false is e = absurd (omega (arith, e))
in_hand_of a (Taken b) e = absurd (omega (arith, e))

-- a seat puts back what it carries
pub put_back_kept : {A K N : Type 0} → (r : Rules A K N) (f : ℕ → A) (actors most : ℕ) (x : Msg K) (items : List (Msg K)) (s : Sides K) (h : Side K) → IsKept r f actors most items s → s h.actor ≡ h → h.actor < actors → h.hand ≡ x ∷ [] →
    IsKept r f actors most (items ++ x ∷ []) (put s h.actor (with_hand h []))
put_back_kept {A} {K} {N} r f actors most x items s h k is lt full =
    goes_on r f actors most items (items ++ x ∷ []) s h (with_hand h []) x.id Queue k is lt refl (ap is_somewhere old) refl
    (λ b ne. (let ne' : nat_eq b h.actor ≡ false = same_flip h.actor b ne in ap (in_hand b) old ∙ ap (λ (w : Bool). cond w 1 0) ne', ap (in_taken b) old))
    (record {
      actor = refl;
      named = mine.named;
      hand = leaves (in_hand h.actor) k.place Queue x [] refl (ap (in_hand h.actor) old ∙ ap (λ (w : Bool). cond w 1 0) (eq_self h.actor)) hand;
      taken = λ j. mine.taken j ∙ unseen (in_taken h.actor) x.id Queue k.place (ap (in_taken h.actor) old) j;
      hand_sent = tt;
      taken_sent = mine.taken_sent;
    })
    (joins in_queue k.place Queue x items refl (ap in_queue old) k.queue)
    (each_snoc (λ (m : Msg K). sent_in s m.id ≡ Some m) items x k.queue_sent (subst (λ (ms : List (Msg K)). Each (λ m. sent_in s m.id ≡ Some m) ms) full mine.hand_sent).0)
    (subst (λ (g : Side K). Fits r f most h.actor g.sent g.taken) is (k.fits h.actor))
  where
    mine : IsSide s k.place h.actor h
    mine = subst (λ (g : Side K). IsSide s k.place h.actor g) is (k.side h.actor)

    hand : (j : MsgId) → times j (x ∷ []) ≡ in_hand h.actor (k.place j)
    hand j = sym (ap (λ (ms : List (Msg K)). times j ms) full) ∙ mine.hand j

    old : k.place x.id ≡ Hand h.actor
    old = in_hand_of h.actor (k.place x.id) (sym (hand x.id) ∙ times_here x [])

-- a seat sends a message of its next number
pub send_kept : {A K N : Type 0} → (r : Rules A K N) (f : ℕ → A) (actors most : ℕ) (x : Msg K) (items : List (Msg K)) (s : Sides K) (h : Side K) → IsKept r f actors most items s → s h.actor ≡ h → h.actor < actors →
    x.id ≡ record { sender = h.actor; seq = length h.sent } → x.stamp.actor ≡ h.actor → Fits r f most h.actor (h.sent ++ x ∷ []) h.taken → IsKept r f actors most (items ++ x ∷ []) (put s h.actor (sent_more h x))
send_kept {A} {K} {N} r f actors most x items s h k is lt name stamp fits = record {
  place = moved x.id Queue k.place;
  side = put_all (λ (b : ℕ) (g : Side K). IsSide s' (moved x.id Queue k.place) b g) s h.actor h'
      (record { actor = refl; named = named; hand = base.hand; taken = base.taken; hand_sent = base.hand_sent; taken_sent = base.taken_sent })
      (λ b ne. other_side s s' k.place x.id Queue b (s b) grow (ap (in_hand b) old) (ap (in_taken b) old) (k.side b));
  queue = joins in_queue k.place Queue x items refl (ap in_queue old) k.queue;
  queue_sent = each_snoc (λ (m : Msg K). sent_in s' m.id ≡ Some m) items x (each_map (λ (m : Msg K). sent_in s m.id ≡ Some m) (λ m. sent_in s' m.id ≡ Some m) (λ m e. grow m.id m e) items k.queue_sent) there;
  sent = λ j. sent j (same_id x.id j) refl;
  fits = put_all (λ (b : ℕ) (g : Side K). Fits r f most b g.sent g.taken) s h.actor h' fits (λ b ne. k.fits b);
  past = λ b le. let ne : nat_eq h.actor b ≡ false = grind (arith, nat_tests) in put_there s h.actor h' b ne ∙ k.past b le;
}
  where
    h' : Side K
    h' = sent_more h x

    s' : Sides K
    s' = put s h.actor (sent_more h x)

    sent_is : h.sent ≡ (s h.actor).sent
    sent_is = ap (λ (g : Side K). g.sent) (sym is)

    grow : (j : MsgId) (m : Msg K) → sent_in s j ≡ Some m → sent_in (put s h.actor (sent_more h x)) j ≡ Some m
    grow j m e = sent_grows s h.actor (sent_more h x) x (ap (λ (ms : List (Msg K)). ms ++ x ∷ []) sent_is) j m e

    mine : IsSide s k.place h.actor h
    mine = subst (λ (g : Side K). IsSide s k.place h.actor g) is (k.side h.actor)

    absent : sent_in s x.id ≡ None
    absent = ap (λ (i : MsgId). sent_in s i) name ∙ (ap (λ (g : Side K). slice_get g.sent (length h.sent)) is ∙ none_at_end h.sent)

    old : k.place x.id ≡ Nowhere
    old = nowhere (k.place x.id) (sym (k.sent x.id) ∙ ap (λ (o : Option (Msg K)). is_there o) absent)

    base : IsSide (put s h.actor (sent_more h x)) (moved x.id Queue k.place) h.actor h
    base = other_side s (put s h.actor (sent_more h x)) k.place x.id Queue h.actor h grow (ap (in_hand h.actor) old) (ap (in_taken h.actor) old) mine

    there : sent_in (put s h.actor (sent_more h x)) x.id ≡ Some x
    there = ap (λ (i : MsgId). sent_in (put s h.actor (sent_more h x)) i) name ∙ (ap (λ (g : Side K). slice_get g.sent (length h.sent)) (put_here s h.actor (sent_more h x)) ∙ get_at_end h.sent x)

    named : IsNamed h.actor (h.sent ++ x ∷ [])
    named j m e = go (get_end h.sent x j m e)
      where
        go : (slice_get h.sent j ≡ Some m) ⊎ ((j ≡ length h.sent) × (x ≡ m)) → (m.id ≡ record { sender = h.actor; seq = j }) × (m.stamp.actor ≡ h.actor)
        go (inl y) = mine.named j m y
        go (inr y) = (ap (λ (z : Msg K). z.id) (sym y.1) ∙ (name ∙ ap (λ (n : ℕ). record { sender = h.actor; seq = n }) (sym y.0)), ap (λ (z : Msg K). z.stamp.actor) (sym y.1) ∙ stamp)

    sent : (j : MsgId) (w : Bool) → same_id x.id j ≡ w → is_there (sent_in (put s h.actor (sent_more h x)) j) ≡ is_somewhere (cond w Queue (k.place j))
    sent j true is' = ap (λ (i : MsgId). is_there (sent_in (put s h.actor (sent_more h x)) i)) (sym (same_id_equal x.id j is')) ∙ ap (λ (o : Option (Msg K)). is_there o) there
    sent j false is' = same j.sender refl ∙ k.sent j
      where
        same : (b : ℕ) → b ≡ j.sender → is_there (slice_get (put s h.actor (sent_more h x) b).sent j.seq) ≡ is_there (slice_get (s b).sent j.seq)
        same = put_all (λ (b : ℕ) (g : Side K). b ≡ j.sender → is_there (slice_get g.sent j.seq) ≡ is_there (slice_get (s b).sent j.seq)) s h.actor (sent_more h x)
            (λ e.
            let sender : x.id.sender ≡ h.actor = ap (λ (i : MsgId). i.sender) name in
            let seq : x.id.seq ≡ length h.sent = ap (λ (i : MsgId). i.seq) name in
            let ne : nat_eq (length h.sent) j.seq ≡ false = grind (arith, nat_tests) in
            get_snoc h.sent x j.seq ∙ (ap (λ (w : Bool). cond w true (is_there (slice_get h.sent j.seq))) ne ∙ ap (λ (ms : List (Msg K)). is_there (slice_get ms j.seq)) sent_is))
            (λ b ne e. refl)

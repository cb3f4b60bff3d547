-- Clocks rise by at most one in each event.
use Rattle.std.proofs.Common.{◌≡◌, ℕ, suc, ◌+◌, ◌≤◌, Bool, true, false, cond, nat_eq, arith, sym, subst, List, [], ◌∷◌, length, slice_get, Option, None, Some, ap}
use Rattle.std.proofs.Math.Path.{◌∙◌}
use Rattle.og_runs.specs.declared.MsgId.{MsgId}
use Rattle.og_runs.specs.declared.Choice.{Choice}
use Rattle.og_runs.specs.declared.Msg.{Msg}
use Rattle.og_runs.specs.declared.Event.{Event}
use Rattle.og_runs.specs.declared.Seat.{Seat}
use Rattle.og_runs.specs.Runs.{Rules, History, Histories, step, Run, IsSound, clock_after, sent_as, in_flight}
use Rattle.og_runs.specs.World.{World, WorldRun, Shows, seat_of, find}
use Rattle.og_runs.proofs.Locals.{MoveMade, move_made}
use Rattle.og_runs.proofs.Back.{Stepped, stepped, IsTakeable, sound_step, unless_taken_is}
use Rattle.og_runs.proofs.Shown.{ShownRun, shown_run}

abbrev pub ClocksBelow : {A K : Type 0} → ℕ → Histories A K → Type 0
ClocksBelow c s = (a : ℕ) → (s a).clock ≤ c

pub clock_after_below : {A K : Type 0} → (c : ℕ) (s : Histories A K) (a : ℕ) (v : Option (Msg K)) → IsSound s → ClocksBelow c s → IsTakeable s a v → clock_after (s a).clock v ≤ suc c
clock_after_below c s a None sound low f = let l : (s a).clock ≤ c = low a in omega arith
clock_after_below {A} {K} c s a (Some m) sound low f =
    let l : (s a).clock ≤ c = low a in
    let o : (m.id ≡ record { sender = m.id.sender; seq = m.id.seq }) × (m.stamp.actor ≡ m.id.sender) × (m.stamp.clock ≤ (s m.id.sender).clock) = sound.own m.id.sender m.id.seq m f.0 in
    let k : (s m.id.sender).clock ≤ c = low m.id.sender in omega (arith, o.2)

pub clocks_below_step : {A K N : Type 0} → (r : Rules A K N) (c : ℕ) (s u : Histories A K) (d : Choice) (e : Event N) → IsSound s → ClocksBelow c s → step r s d ≡ Some (u, e) → ClocksBelow (suc c) u
clocks_below_step {A} {K} {N} r c s u d e sound low h b =
    let x : Stepped r s d u e = stepped r s d u e sound.own h in
    let m : MoveMade r x.actor (s x.actor) x.move x.history e = move_made r x.actor (s x.actor) x.move x.history e x.makes in
    let clock : clock_after (s x.actor).clock x.move ≡ x.history.clock = ap (λ (p : History A K). p.clock) m.2 in
    let le : clock_after (s x.actor).clock x.move ≤ suc c = clock_after_below c s x.actor x.move sound low x.flies in
    subst (λ (z : Histories A K). (z b).clock ≤ suc c) x.state (at x.history (nat_eq x.actor b) (omega arith))
  where
    at : (p : History A K) (w : Bool) → p.clock ≤ suc c → (cond w p (s b)).clock ≤ suc c
    at p true le = le
    at p false le = let l : (s b).clock ≤ c = low b in omega arith

pub clocks_below_run : {A K N : Type 0} → (r : Rules A K N) (cs : List Choice) (c : ℕ) (s t : Histories A K) (es : List (Event N)) → IsSound s → ClocksBelow c s → Run r s cs t es → ClocksBelow (c + length cs) t
clocks_below_run {A} {K} r [] c s t es sound low h b = let l : (s b).clock ≤ c = low b in let same : s b ≡ t b = ap (λ (z : Histories A K). z b) h.0 in let clock : (s b).clock ≡ (t b).clock = ap (λ (p : History A K). p.clock) same in omega arith
clocks_below_run r (d ∷ cs) c s t es sound low h b = let l : (t b).clock ≤ suc c + length cs = clocks_below_run r cs (suc c) h.0 t h.2 (sound_step r s d h.0 h.1 sound h.3) (clocks_below_step r c s h.0 d h.1 sound low h.3) h.5 b in omega arith

-- after so many choices no clock of a seat or a message in flight is above their number
pub clocks_below_world : {A K N : Type 0} → (r : Rules A K N) (cs : List Choice) (c : ℕ) (w u : World A K) (s : Histories A K) (es : List (Event N)) → Shows w s → IsSound s → ClocksBelow c s → WorldRun r w cs u es →
    ((a : ℕ) (x : Seat A) → slice_get u.seats a ≡ Some x → x.clock ≤ c + length cs) × ((i : MsgId) (m : Msg K) → find i u.flight ≡ Some m → m.stamp.clock ≤ c + length cs)
clocks_below_world {A} {K} {N} r cs c w u s es sh sound low h =
    let x : ShownRun r w s cs u es = shown_run r cs w s u es sh sound h in
    let l : ClocksBelow (c + length cs) x.state = clocks_below_run r cs c s x.state es sound low x.runs in (
      λ a y e. let k : seat_of (x.state a) ≡ y = x.shows.seat a y e in let clock : (x.state a).clock ≡ y.clock = ap (λ (z : Seat A). z.clock) k in let le : (x.state a).clock ≤ c + length cs = l a in omega arith,
      λ i m e. let f : in_flight x.state i ≡ Some m = sym (x.shows.flight i) ∙ e in
          let o : m.stamp.clock ≤ (x.state i.sender).clock = (x.sound.own i.sender i.seq m (unless_taken_is x.state i (sent_as x.state i) m f).0).2 in
          let le : (x.state i.sender).clock ≤ c + length cs = l i.sender in omega arith,
    )

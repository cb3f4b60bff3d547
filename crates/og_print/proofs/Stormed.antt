-- The storm's sum, block by block, and how its line ends.
use Rattle.std.proofs.Common.{◌≡◌, ◌∙◌, ℕ, suc, ◌+◌, ◌/◌, ◌%◌, ◌^◌, Bool, true, false, inl, inr, Option, None, Some, Result, Ok, Err, List, length, arith, refl, sym, ap, subst}
use Rattle.std.specs.Prelude.{⊤}
use Rattle.std.proofs.Math.Nat.{add-mod-mod, mod-add-mod}
use Rattle.og_base.specs.declared.Settings.{Settings}
use Rattle.og_base.specs.declared.VPage.{VPage}
use Rattle.og_line.specs.declared.Line.{Line}
use Rattle.og_runs.specs.declared.Event.{Event}
use Rattle.og_msg.specs.declared.Note.{Note}
use Rattle.og_image.specs.Storm.{storm_of}
use Rattle.og_io.specs.Outside.{SinkState}
use Rattle.og_io.specs.declared.SinkFault.{SinkFault}
use Rattle.og_io.specs.declared.SinkFault.TheVariants as sink
use Rattle.og_machine.specs.Machine.{Machine, is_quiet}
use Rattle.og_machine.specs.Held.{held}
use Rattle.og_headline.specs.Headline.{IsFaithful, drawn}
use Rattle.og_headline.proofs.Drawn.{simulation_holds}
use Rattle.og_refine.specs.Machines.{IsRunnable}
use Rattle.og_print.specs.declared.fault.RunFault.{RunFault}
use Rattle.og_print.specs.declared.fault.RunFault.TheVariants as fault
use Rattle.og_print.specs.Runs.{frames_fault, TextEnds}
use Rattle.og_driver.specs.Tallied.{moves_of}
use Rattle.og_print.specs.Storm.{line_sum, held_sum, blocks_sum, storm_sum, storm_line, quiet_end, limit_end, storm_end, storm_text, storm_setup, LineEnds, answer_of, StormEnds}
use Rattle.og_print.proofs.Played.{IsUnplaced}

-- the block that comes next
held_next : (w : Machine) (k : ℕ) (page : VPage) (n : ℕ) (o : Option Line) → page ≡ record { 0 = 256 + k / 32 } → n ≡ k % 32 → o ≡ held w page n → blocks_sum w (k + 1) ≡ blocks_sum w k + held_sum o
held_next w k page n o here low is =
    let next : k + 1 ≡ suc k = omega arith in
    ap (λ (m : ℕ). blocks_sum w m) next ∙ ap (λ (x : Option Line). blocks_sum w k + held_sum x) (ap (λ (p : VPage). held w p (k % 32)) (sym here) ∙ (ap (λ (m : ℕ). held w page m) (sym low) ∙ sym is))

pub block_some : (w : Machine) (k sum : ℕ) (page : VPage) (n : ℕ) (o : Option Line) (line : Line) (added : ℕ) → page ≡ record { 0 = 256 + k / 32 } → n ≡ k % 32 → o ≡ held w page n → o ≡ Some line → sum ≡ blocks_sum w k % 2 ^ 64 → added ≡ line_sum 16 line % 2 ^ 64
    → (sum + added) % 2 ^ 64 ≡ blocks_sum w (k + 1) % 2 ^ 64
block_some w k sum page n o line added here low is there so_far more =
    ap (λ (m : ℕ). (m + added) % 2 ^ 64) so_far ∙ (mod-add-mod (blocks_sum w k) (2 ^ 64) added ∙ (ap (λ (m : ℕ). (blocks_sum w k + m) % 2 ^ 64) more ∙ (add-mod-mod (blocks_sum w k) (line_sum 16 line) (2 ^ 64)
    ∙ (ap (λ (x : Option Line). (blocks_sum w k + held_sum x) % 2 ^ 64) (sym there) ∙ ap (λ (m : ℕ). m % 2 ^ 64) (sym (held_next w k page n o here low is))))))

pub block_none : (w : Machine) (k sum : ℕ) (page : VPage) (n : ℕ) (o : Option Line) → page ≡ record { 0 = 256 + k / 32 } → n ≡ k % 32 → o ≡ held w page n → o ≡ None → sum ≡ blocks_sum w k % 2 ^ 64 → sum ≡ blocks_sum w (k + 1) % 2 ^ 64
block_none w k sum page n o here low is none so_far =
    let same : blocks_sum w k + 0 ≡ blocks_sum w k = omega arith in
    so_far ∙ (ap (λ (m : ℕ). m % 2 ^ 64) (sym same) ∙ (ap (λ (x : Option Line). (blocks_sum w k + held_sum x) % 2 ^ 64) (sym none) ∙ ap (λ (m : ℕ). m % 2 ^ 64) (sym (held_next w k page n o here low is))))

pub sum_is : (w : Machine) (k sum : ℕ) → k ≡ 256 → sum ≡ blocks_sum w k % 2 ^ 64 → sum ≡ storm_sum w
unfolding storm_sum
sum_is w k sum all so_far = so_far ∙ ap (λ (m : ℕ). blocks_sum w m % 2 ^ 64) all

-- a line that was written is a text that was
pub line_text : (text : List ℕ) (quiet : Bool) (old new : SinkState) (written : Result ⊤ SinkFault) → LineEnds text old new written → TextEnds text quiet old new (answer_of written quiet)
line_text text quiet old new (Ok done) h = (refl, h)
line_text text quiet old new (Err sink.Failed) h = h
line_text text quiet old new (Err sink.Memory) h = inr h

-- the line of a quiet end, and of another
pub quiet_text : (nodes loops : ℕ) (w : Machine) (events : List (Event Note)) (old new : SinkState) (result : Result Bool RunFault) → is_quiet w ≡ true → TextEnds (storm_line nodes loops (quiet_end (storm_sum w) (moves_of events) (length events))) true old new result
    → TextEnds (storm_text nodes loops (w, events)) (is_quiet w) old new result
quiet_text nodes loops w events old new result quiet h = subst (λ (t : Bool). TextEnds (storm_line nodes loops (storm_end w events t)) t old new result) (sym quiet) h

pub limit_text : (nodes loops : ℕ) (w : Machine) (events : List (Event Note)) (old new : SinkState) (result : Result Bool RunFault) → is_quiet w ≡ false → TextEnds (storm_line nodes loops (limit_end (length events))) false old new result
    → TextEnds (storm_text nodes loops (w, events)) (is_quiet w) old new result
limit_text nodes loops w events old new result unquiet h = subst (λ (t : Bool). TextEnds (storm_line nodes loops (storm_end w events t)) t old new result) (sym unquiet) h

-- how the storm ends
pub storm_unplaced : (number loops : ℕ) (settings : Settings) (most : ℕ) (sink : SinkState) (f : RunFault) → IsUnplaced (storm_of number loops settings.nodes) settings f → StormEnds number loops settings most sink sink (Err f)
storm_unplaced number loops settings most sink f (inl m) = subst (λ (x : RunFault). StormEnds number loops settings most sink sink (Err x)) (sym m) (inl refl)
storm_unplaced number loops settings most sink f (inr g) = subst (λ (x : RunFault). StormEnds number loops settings most sink sink (Err x)) (sym g.1) (refl, g.2)

pub storm_ends : (number loops : ℕ) (settings : Settings) (most : ℕ) (old new : SinkState) (run : Machine × List (Event Note)) (result : Result Bool RunFault) → frames_fault (storm_of number loops settings.nodes) settings ≡ None
    → IsRunnable (storm_setup number loops settings) → run ≡ drawn (storm_setup number loops settings) number most → TextEnds (storm_text settings.nodes loops run) (is_quiet run.0) old new result → StormEnds number loops settings most old new result
storm_ends number loops settings most old new run result placed ok is h = by result (subst (λ (r : Machine × List (Event Note)). TextEnds (storm_text settings.nodes loops r) (is_quiet r.0) old new result) is h)
  where
    faithful : IsFaithful (storm_setup number loops settings) (drawn (storm_setup number loops settings) number most).1 (drawn (storm_setup number loops settings) number most).0
    faithful = simulation_holds (storm_setup number loops settings) number most ok

    by : (x : Result Bool RunFault) → TextEnds (storm_text settings.nodes loops (drawn (storm_setup number loops settings) number most)) (is_quiet (drawn (storm_setup number loops settings) number most).0) old new x → StormEnds number loops settings most old new x
    by (Ok answer) t = (placed, faithful, t)
    by (Err fault.Unread) t = absurd t
    by (Err fault.ChoicesUnread) t = absurd t
    by (Err (fault.Image f)) t = absurd t
    by (Err (fault.Choices f)) t = absurd t
    by (Err fault.Memory) t = inr (placed, faithful, t)
    by (Err fault.Unwritten) t = (placed, faithful, t)

-- Each change of the page table is seen in the mover as that of one value, or of three.
use Rattle.std.proofs.Common.{◌≡◌, ℕ, ◌<◌, true, false, cond, nat_eq, Some, length, get_or, sym, ap, ◌∙◌, subst}
use Rattle.std.specs.FinSet as set
use Rattle.std.proofs.Math.ListN.{set as set_at, length-set}
use Rattle.og_base.specs.declared.Frame.{Frame}
use Rattle.og_base.specs.declared.VPage.{VPage}
use Rattle.og_base.specs.declared.Settings.{Settings}
use Rattle.og_line.specs.declared.Line.{Line}
use Rattle.og_block.specs.State.{put}
use Rattle.og_pages.specs.State.{put_pair}
use Rattle.og_pager.specs.declared.Role.TheVariants.{Free, Mapped, Target, Quarantined}
use Rattle.og_pager.specs.declared.Moving.{Moving}
use Rattle.og_pager.specs.PageTable.{PageTable, frame_number as number_in, frame_in, no_frame, number_of, holders_of, walk_of, least_free, with_holder, walked, moving_into, begun, published_move, settled, dropped, reclaimed}
use Rattle.og_mover.specs.declared.Job.{Job}
use Rattle.og_mover.specs.Table.{MoverState}
use Rattle.og_relate.specs.Data.{Mover, Unused, UsedBy, ReservedFor, Left}
use Rattle.og_seen.specs.Numbers.{Sizes, is_there, frame_number}
use Rattle.og_seen.specs.Movers.{role_seen, mover_seen}
use Rattle.og_refine_mover.proofs.Tables.{IsTableOf, number_is, in_roles, in_holders, holders_at, put_seen, member_put, member_left, holders_put}

-- a mover with these parts
abbrev pub mover_of : PageTable → Job → Settings → MoverState
mover_of t j e = record { pages = t; job = j; settings = e }

module _ (s : Sizes) (t : PageTable) (is : IsTableOf s t) where
  -- a node is told the frame of the page with number y
  pub told_seen : (j : Job) (e : Settings) (page : VPage) (p y : ℕ) (frame : Frame) → walk_of t page ≡ Some frame → is_there s frame ≡ true → frame_in t y ≡ frame →
      mover_seen s (mover_of (walked t page p) j e) ≡ record (mover_seen s (mover_of t j e)) { holders = put_pair (mover_seen s (mover_of t j e)).holders (frame_number s (frame_in t y)) p true }
  unfolding walked
  told_seen j e page p y frame told there at =
      let n : number_in t frame ≡ frame_number s (frame_in t y) = sym (ap (frame_number s) at ∙ number_is s t is frame there) in
      let lt : frame_number s (frame_in t y) < length t.holders = subst (λ (f : Frame). frame_number s f < length t.holders) (sym at) (in_holders s t is frame there) in
      let own : holders_of t frame ≡ get_or t.holders (frame_number s (frame_in t y)) set.empty = sym (ap (λ f. get_or t.holders (frame_number s f) set.empty) at ∙ holders_at s t is frame there) in
      ap (λ o. mover_seen s (mover_of (with_holder t p o) j e)) told ∙
      ap (λ k. mover_seen s (mover_of (record t { holders = set_at t.holders k (set.insert (holders_of t frame) p) }) j e)) n ∙
      ap (λ (h : ℕ → ℕ → _). record (mover_seen s (mover_of t j e)) { holders = h }) (holders_put t.holders (frame_number s (frame_in t y)) p (set.insert (holders_of t frame) p) true lt (λ q. member_put (holders_of t frame) p q ∙ ap (λ h. cond (nat_eq q p) true (set.contains h q)) own))

  -- a holder has dropped a frame
  pub dropped_seen : (j : Job) (e : Settings) (frame : Frame) (p : ℕ) → is_there s frame ≡ true →
      mover_seen s (mover_of (dropped t frame p) j e) ≡ record (mover_seen s (mover_of t j e)) { holders = put_pair (mover_seen s (mover_of t j e)).holders (frame_number s frame) p false }
  unfolding dropped
  dropped_seen j e frame p there =
      ap (λ k. mover_seen s (mover_of (record t { holders = set_at t.holders k (set.remove (holders_of t frame) p) }) j e)) (sym (number_is s t is frame there)) ∙
      ap (λ (h : ℕ → ℕ → _). record (mover_seen s (mover_of t j e)) { holders = h }) (holders_put t.holders (frame_number s frame) p (set.remove (holders_of t frame) p) false (in_holders s t is frame there) (λ q. member_left (holders_of t frame) p q ∙ ap (λ h. cond (nat_eq q p) false (set.contains h q)) (sym (holders_at s t is frame there))))

  -- the page with number i is on its way into a free frame
  pub begun_seen : (j : Job) (e : Settings) (page : VPage) (node i : ℕ) (new : Frame) → number_of t page ≡ Some i → least_free t node ≡ Some new → is_there s new ≡ true →
      mover_seen s (mover_of (begun t page node) j e) ≡ record (mover_seen s (mover_of t j e)) { role = put (mover_seen s (mover_of t j e)).role (frame_number s new) (ReservedFor i) }
  unfolding begun
  begun_seen j e page node i new number least there =
      ap (λ o. mover_seen s (mover_of (moving_into t o (least_free t node)) j e)) number ∙
      ap (λ o. mover_seen s (mover_of (moving_into t (Some i) o) j e)) least ∙
      ap (λ k. record (mover_seen s (mover_of t j e)) { role = λ f. role_seen (get_or (set_at t.roles k (Target i)) f Free) }) (sym (number_is s t is new there)) ∙
      ap (λ (r : ℕ → _). record (mover_seen s (mover_of t j e)) { role = r }) (put_seen role_seen t.roles (frame_number s new) (Target i) Free (in_roles s t is new there))

  -- it is published
  pub settled_seen : (j : Job) (e : Settings) (moving : Moving) (old : Frame) → t.moving ≡ Some moving → moving.number < length t.table → frame_in t moving.number ≡ old → is_there s old ≡ true → is_there s moving.new ≡ true →
      mover_seen s (mover_of (settled t) j e) ≡ record (mover_seen s (mover_of t j e)) {
        page_table = put (mover_seen s (mover_of t j e)).page_table moving.number (frame_number s moving.new);
        role = put (put (mover_seen s (mover_of t j e)).role (frame_number s old) Left) (frame_number s moving.new) (UsedBy moving.number);
      }
  unfolding settled
  settled_seen j e moving old is_moving low at old_there new_there =
      ap (λ o. mover_seen s (mover_of (published_move t o) j e)) is_moving ∙
      ap (λ a. as_seen a (number_in t moving.new)) (ap (number_in t) at ∙ sym (number_is s t is old old_there)) ∙
      ap (as_seen (frame_number s old)) (sym (number_is s t is moving.new new_there)) ∙
      ap (λ (y : ℕ → ℕ). record (mover_seen s (mover_of t j e)) { page_table = y; role = λ f. role_seen (get_or (set_at (set_at t.roles (frame_number s old) (Quarantined t.published)) (frame_number s moving.new) (Mapped moving.number)) f Free) }) (put_seen (frame_number s) t.table moving.number moving.new no_frame low) ∙
      ap (λ (r : ℕ → _). record (mover_seen s (mover_of t j e)) { page_table = put (mover_seen s (mover_of t j e)).page_table moving.number (frame_number s moving.new); role = r }) (
      put_seen role_seen (set_at t.roles (frame_number s old) (Quarantined t.published)) (frame_number s moving.new) (Mapped moving.number) Free (subst (λ (n : ℕ). frame_number s moving.new < n) (sym (length-set t.roles (frame_number s old) (Quarantined t.published))) (in_roles s t is moving.new new_there)) ∙
      ap (λ (r : ℕ → _). put r (frame_number s moving.new) (UsedBy moving.number)) (put_seen role_seen t.roles (frame_number s old) (Quarantined t.published) Free (in_roles s t is old old_there))
      )
    where
      -- the mover with the roles changed at these places
      as_seen : (a b : ℕ) → Mover Line
      as_seen a b = record (mover_seen s (mover_of t j e)) {
        page_table = λ y. frame_number s (get_or (set_at t.table moving.number moving.new) y no_frame);
        role = λ f. role_seen (get_or (set_at (set_at t.roles a (Quarantined t.published)) b (Mapped moving.number)) f Free);
      }

  -- a frame is free again
  pub reclaimed_seen : (j : Job) (e : Settings) (frame : Frame) → is_there s frame ≡ true →
      mover_seen s (mover_of (reclaimed t frame) j e) ≡ record (mover_seen s (mover_of t j e)) { role = put (mover_seen s (mover_of t j e)).role (frame_number s frame) Unused }
  unfolding reclaimed
  reclaimed_seen j e frame there =
      ap (λ k. record (mover_seen s (mover_of t j e)) { role = λ f. role_seen (get_or (set_at t.roles k Free) f Free) }) (sym (number_is s t is frame there)) ∙
      ap (λ (r : ℕ → _). record (mover_seen s (mover_of t j e)) { role = r }) (put_seen role_seen t.roles (frame_number s frame) Free Free (in_roles s t is frame there))

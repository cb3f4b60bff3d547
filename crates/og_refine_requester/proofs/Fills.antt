-- What is seen of a cache where a block is filled and then accessed.
use Rattle.std.proofs.Common.{◌≡◌, Bool, true, false, ◌⊎◌, inl, inr, refl, ap, ◌∙◌, Option, None, Some, option_map}
use Rattle.std.specs.Prelude.{IsSome, is_some, if◌then◌else◌}
use Rattle.og_base.specs.declared.Block.{Block}
use Rattle.og_line.specs.declared.Line.{Line}
use Rattle.og_line.specs.declared.Mode.{Mode}
use Rattle.og_line.specs.declared.Mode.TheVariants.{Dirty}
use Rattle.og_line.specs.declared.Reservation.{Reservation}
use Rattle.og_line.specs.declared.Access.{Access}
use Rattle.og_line.specs.declared.Access.TheVariants.{Load, Store, Reserve, Conditional, Atomic}
use Rattle.og_line.specs.Access.{is_write, line_after}
use Rattle.og_pages.specs.State.{put_pair}
use Rattle.og_cache.specs.Cache.{Cached, IsCache, look_of, line_of, has_room, filled, with_line, with_mode}
use Rattle.og_cache.proofs.Seen.{fill_laws, mode_laws, line_laws}
use Rattle.og_processor.specs.Access.{stores, cache_after}
use Rattle.og_processor.specs.Take.{put_line}
use Rattle.og_seen.specs.Numbers.{Sizes, is_there}
use Rattle.og_seen.specs.Caches.{copy_in, cache_seen}
use Rattle.og_seen.specs.Messages.{frame_of_block}
use Rattle.og_seen.proofs.Caches.{fill_seen, mode_seen, line_seen}
use Rattle.og_refine_requester.proofs.Facts.{put_twice}

-- the block stands in the cache in this mode with this line, and that is all that is seen of the change
pub record IsPut (s : Sizes) (before after : Cached) (b : Block) (mode : Mode) (line : Line) : Type 0 where
  pub sound : IsCache after
  pub look : look_of after b ≡ Some (mode, line)
  pub seen : cache_seen s after ≡ put_pair (cache_seen s before) (frame_of_block s b) b.number (copy_in mode line)

-- a block that is there in another mode
pub put_mode : (s : Sizes) (cache : Cached) (b : Block) (old mode : Mode) (line : Line) → IsCache cache → is_there s b.frame ≡ true → look_of cache b ≡ Some (old, line) → IsPut s cache (with_mode cache b mode) b mode line
put_mode s cache b old mode line is t has = record {
  sound = mode_laws.sound cache b mode is;
  look = mode_laws.own cache b mode is ∙ ap (option_map (λ copy. (mode, copy.1))) has;
  seen = mode_seen s cache b old mode line is t has;
}

-- and with another line
pub put_other : (s : Sizes) (cache : Cached) (b : Block) (mode : Mode) (old line : Line) → IsCache cache → is_there s b.frame ≡ true → look_of cache b ≡ Some (mode, old) → IsPut s cache (with_line cache b line) b mode line
put_other s cache b mode old line is t has = record {
  sound = line_laws.sound cache b line is;
  look = line_laws.own cache b line is ∙ ap (option_map (λ copy. (copy.0, line))) has;
  seen = line_seen s cache b mode old line is t has;
}

-- one change and another one
pub put_both : (s : Sizes) (x y z : Cached) (b : Block) (mode other : Mode) (line new : Line) → IsPut s x y b mode line → IsPut s y z b other new → IsPut s x z b other new
put_both s x y z b mode other line new one two = record {
  sound = two.sound;
  look = two.look;
  seen = two.seen ∙ (ap (λ c. put_pair c (frame_of_block s b) b.number (copy_in other new)) one.seen ∙ put_twice (cache_seen s x) (frame_of_block s b) b.number (copy_in mode line) (copy_in other new));
}

-- a block is filled where it isn't there, and else changed
pub put_filled : (s : Sizes) (cache : Cached) (b : Block) (mode : Mode) (line : Line) → IsCache cache → is_there s b.frame ≡ true → IsSome (look_of cache b) ⊎ (has_room cache b ≡ true) → IsPut s cache (put_line cache b mode (Some line)) b mode line
put_filled s cache b mode line is t place = by (look_of cache b) refl place
  where
    by : (o : Option (Mode × Line)) → look_of cache b ≡ o → IsSome o ⊎ (has_room cache b ≡ true) → IsPut s cache (if is_some o then with_mode (with_line cache b line) b mode else filled cache b mode line) b mode line
    by None e (inl there) = absurd (cc)
    by None e (inr room) = record {
      sound = fill_laws.sound cache b mode line is e;
      look = fill_laws.own cache b mode line is e room;
      seen = fill_seen s cache b mode line is t e room;
    }
    by (Some copy) e place =
        let one = put_other s cache b copy.0 copy.1 line is t e in
        put_both s cache (with_line cache b line) (with_mode (with_line cache b line) b mode) b copy.0 mode line line one (put_mode s (with_line cache b line) b copy.0 mode line one.sound t one.look)

-- the line that is there afterwards
pub put_line_of : (s : Sizes) (before after : Cached) (b : Block) (mode : Mode) (line : Line) → IsPut s before after b mode line → line_of after b ≡ Some line
put_line_of s before after b mode line put = ap (option_map (λ copy. copy.1)) put.look

-- an access on the block leaves its line; and where it stores, or the copy was dirty, the copy is dirty
pub accessed : (s : Sizes) (before after : Cached) (b : Block) (line : Line) (reserved : Option Reservation) (access : Access) → is_there s b.frame ≡ true → IsPut s before after b Dirty line →
    IsPut s before (cache_after after b line reserved access) b Dirty (line_after line reserved access)
accessed s before after b line reserved access t put = by (stores line reserved access)
  where
    new : Line
    new = line_after line reserved access

    one : IsPut s after (with_line after b new) b Dirty new
    one = put_other s after b Dirty line new put.sound t put.look

    both : IsPut s before (with_line after b new) b Dirty new
    both = put_both s before after (with_line after b new) b Dirty Dirty line new put one

    by : (u : Bool) → IsPut s before (if u then with_mode (with_line after b new) b Dirty else with_line after b new) b Dirty new
    by true = put_both s before (with_line after b new) (with_mode (with_line after b new) b Dirty) b Dirty Dirty new new both (put_mode s (with_line after b new) b Dirty Dirty new both.sound t both.look)
    by false = both

-- an access that only reads stores nothing
pub reads_leave : (line : Line) (reserved : Option Reservation) (access : Access) → is_write access ≡ false → (stores line reserved access ≡ false) × (line_after line reserved access ≡ line)
reads_leave line reserved (Load addr width) e = (refl, refl)
reads_leave line reserved (Reserve addr width) e = (refl, refl)
reads_leave line reserved (Store addr width value) e = absurd (cc)
reads_leave line reserved (Conditional addr width value) e = absurd (cc)
reads_leave line reserved (Atomic op addr width value) e = absurd (cc)

-- and leaves the copy as it was
pub read_only : (s : Sizes) (before after : Cached) (b : Block) (mode : Mode) (line : Line) (reserved : Option Reservation) (access : Access) → is_there s b.frame ≡ true → is_write access ≡ false → IsPut s before after b mode line →
    IsPut s before (cache_after after b line reserved access) b mode line
read_only s before after b mode line reserved access t reads put = by (stores line reserved access) (line_after line reserved access) (reads_leave line reserved access reads).0 (reads_leave line reserved access reads).1
  where
    by : (u : Bool) (new : Line) → u ≡ false → new ≡ line → IsPut s before (if u then with_mode (with_line after b new) b Dirty else with_line after b new) b mode line
    by true new e n = absurd (cc)
    by false new e n = put_both s before after (with_line after b new) b mode mode line line put (at new n)
      where
        at : (new : Line) → new ≡ line → IsPut s after (with_line after b new) b mode line
        at new n = let one = put_other s after b mode line new put.sound t put.look in record {
          sound = one.sound;
          look = one.look ∙ ap (λ (l : Line). Some (mode, l)) n;
          seen = one.seen ∙ ap (λ (l : Line). put_pair (cache_seen s after) (frame_of_block s b) b.number (copy_in mode l)) n;
        }

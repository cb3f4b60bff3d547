-- What a cache shows of a block that was filled, or whose line and mode were changed.
use Rattle.std.proofs.Common.{◌≡◌, ◌≢◌, ℕ, ◌<◌, ◌^◌, Bool, true, false, ◌⊎◌, inl, inr, Option, None, Some, refl, sym, ap, subst}
use Rattle.std.proofs.Math.Path.{◌∙◌}
use Rattle.std.specs.Prelude.{IsSome, is_some, option_map, if◌then◌else◌}
use Rattle.og_base.specs.declared.Block.{Block}
use Rattle.og_base.specs.Names.{is_same_block}
use Rattle.og_base.proofs.SameNames.{same_block, is_same_block-self}
use Rattle.og_line.specs.declared.Line.{Line}
use Rattle.og_line.specs.declared.Mode.{Mode}
use Rattle.og_line.specs.declared.Mode.TheVariants.{Dirty}
use Rattle.og_line.specs.declared.Reservation.{Reservation}
use Rattle.og_line.specs.declared.Access.{Access}
use Rattle.og_line.specs.Access.{line_after}
use Rattle.og_cache.specs.Cache.{Cached, IsCache, look_of, mode_of, line_of, has_room, filled, with_line, with_mode}
use Rattle.og_cache.proofs.Seen.{fill_laws, mode_laws, line_laws}
use Rattle.og_processor.specs.Access.{cache_after, stores}
use Rattle.og_processor.specs.Take.{put_line}
use Rattle.og_processor.specs.Sound.{IsLow}

-- the block stands in this mode, with a line that has seen few stores
pub record Stands (cache : Cached) (block : Block) (mode : Mode) : Type 0 where
  pub line : Line
  pub look : look_of cache block ≡ Some (mode, line)
  pub low : line.stores < 2 ^ 63

abbrev pub AllLow : Cached → Type 0
AllLow cache = (block : Block) → IsLow (line_of cache block)

abbrev pub put_by : Cached → Block → Mode → Line → Option (Mode × Line) → Cached
put_by cache block mode line copy = if is_some copy then with_mode (with_line cache block line) block mode else filled cache block mode line

pub put_stands : (cache : Cached) (block : Block) (mode : Mode) (line : Option Line) → IsCache cache → AllLow cache → IsLow line → (line ≡ None → IsSome (look_of cache block)) → IsSome (look_of cache block) ⊎ (has_room cache block ≡ true) →
    Stands (put_line cache block mode line) block mode
put_stands cache block mode None sound low own there place = by (look_of cache block) refl (there refl)
  where
    by : (o : Option (Mode × Line)) → look_of cache block ≡ o → IsSome o → Stands (with_mode cache block mode) block mode
    by None e h = absurd (cc)
    by (Some copy) e h = record {
      line = copy.1;
      look = mode_laws.own cache block mode sound ∙ ap (λ (c : Option (Mode × Line)). option_map (λ copy. (mode, copy.1)) c) e;
      low = low block copy.1 (ap (λ (c : Option (Mode × Line)). option_map (λ copy. copy.1) c) e);
    }
put_stands cache block mode (Some line) sound low own there place = by (look_of cache block) refl place
  where
    by : (o : Option (Mode × Line)) → look_of cache block ≡ o → IsSome o ⊎ (has_room cache block ≡ true) → Stands (put_by cache block mode line o) block mode
    by None e (inl h) = absurd (cc)
    by None e (inr room) = record { line = line; look = fill_laws.own cache block mode line sound e room; low = own line refl }
    by (Some copy) e h = record {
      line = line;
      look = mode_laws.own (with_line cache block line) block mode (line_laws.sound cache block line sound)
          ∙ ap (λ (c : Option (Mode × Line)). option_map (λ copy. (mode, copy.1)) c) (line_laws.own cache block line sound ∙ ap (λ (c : Option (Mode × Line)). option_map (λ copy. (copy.0, line)) c) e);
      low = own line refl;
    }

pub put_others : (cache : Cached) (block other : Block) (mode : Mode) (line : Option Line) → IsCache cache → other ≢ block → look_of (put_line cache block mode line) other ≡ look_of cache other
put_others cache block other mode None sound differ = mode_laws.others cache block other mode sound differ
put_others cache block other mode (Some line) sound differ = by (look_of cache block) refl
  where
    by : (o : Option (Mode × Line)) → look_of cache block ≡ o → look_of (put_by cache block mode line o) other ≡ look_of cache other
    by None e = fill_laws.others cache block other mode line sound differ
    by (Some copy) e = mode_laws.others (with_line cache block line) block other mode (line_laws.sound cache block line sound) differ ∙ line_laws.others cache block other line sound differ

pub put_sound : (cache : Cached) (block : Block) (mode : Mode) (line : Option Line) → IsCache cache → IsCache (put_line cache block mode line)
put_sound cache block mode None sound = mode_laws.sound cache block mode sound
put_sound cache block mode (Some line) sound = by (look_of cache block) refl
  where
    by : (o : Option (Mode × Line)) → look_of cache block ≡ o → IsCache (put_by cache block mode line o)
    by None e = fill_laws.sound cache block mode line sound e
    by (Some copy) e = mode_laws.sound (with_line cache block line) block mode (line_laws.sound cache block line sound)

pub put_low : (cache : Cached) (block : Block) (mode : Mode) (line : Option Line) → IsCache cache → AllLow cache → Stands (put_line cache block mode line) block mode → AllLow (put_line cache block mode line)
put_low cache block mode line sound low stands other l e = by (is_same_block other block) refl
  where
    own : other ≡ block → l.stores < 2 ^ 63
    own same =
        let here : line_of (put_line cache block mode line) other ≡ Some stands.line = ap (λ (b : Block). line_of (put_line cache block mode line) b) same ∙ ap (λ (c : Option (Mode × Line)). option_map (λ copy. copy.1) c) stands.look in
        let one : stands.line ≡ l = cc in
        subst (λ (x : Line). x.stores < 2 ^ 63) one stands.low

    by : (t : Bool) → is_same_block other block ≡ t → l.stores < 2 ^ 63
    by true is = own (same_block other block is)
    by false is = low other l (sym (ap (λ (c : Option (Mode × Line)). option_map (λ copy. copy.1) c) (put_others cache block other mode line sound (λ same. differ same))) ∙ e)
      where
        differ : other ≢ block
        differ same = let self : is_same_block other block ≡ true = ap (λ (b : Block). is_same_block other b) (sym same) ∙ is_same_block-self other in absurd (cc)

-- after the access the block is dirty, or in the mode in which it was
pub after_access : (cache : Cached) (block : Block) (l line : Line) (reserved : Option Reservation) (access : Access) (mode : Mode) → IsCache cache → look_of cache block ≡ Some (mode, l) →
    (mode_of (cache_after cache block line reserved access) block ≡ Some mode) ⊎ (mode_of (cache_after cache block line reserved access) block ≡ Some Dirty)
after_access cache block l line reserved access mode sound look = by (stores line reserved access)
  where
    new : Line
    new = line_after line reserved access

    lined : look_of (with_line cache block new) block ≡ Some (mode, new)
    lined = line_laws.own cache block new sound ∙ ap (λ (c : Option (Mode × Line)). option_map (λ copy. (copy.0, new)) c) look

    by : (t : Bool) → (mode_of (if t then with_mode (with_line cache block new) block Dirty else with_line cache block new) block ≡ Some mode) ⊎ (mode_of (if t then with_mode (with_line cache block new) block Dirty else with_line cache block new) block ≡ Some Dirty)
    by true = inr (ap (λ (c : Option (Mode × Line)). option_map (λ copy. copy.0) c) (mode_laws.own (with_line cache block new) block Dirty (line_laws.sound cache block new sound) ∙ ap (λ (c : Option (Mode × Line)). option_map (λ copy. (Dirty, copy.1)) c) lined))
    by false = inl (ap (λ (c : Option (Mode × Line)). option_map (λ copy. copy.0) c) lined)

use Rattle.std.proofs.Common.{◌≡◌, ◌≢◌, true, ◌∙◌}
use Rattle.og_base.specs.declared.Block.{Block}
use Rattle.og_line.specs.declared.Mode.TheVariants.{Shared}
use Rattle.og_cache.specs.Cache.{Cached, IsCache, look_of, has_room}
use Rattle.og_cache.proofs.Seen.{mode_laws, take_out_laws}
use Rattle.og_request.specs.declared.Held.{Held}
use Rattle.og_request.specs.declared.Held.TheVariants.{Shared as ShareWith, Exclusive as GiveTo, Poison as GiveBack}
use Rattle.og_owner.specs.Owner.{after_intervention}
use Rattle.og_owner.proofs.intervention_is_seen.Goals as goal

others : (cache : Cached) (block other : Block) (held : Held) → IsCache cache → other ≢ block → look_of (after_intervention cache block held) other ≡ look_of cache other
unfolding after_intervention
others cache block other (ShareWith r) sound differ = mode_laws.others cache block other Shared sound differ
others cache block other (GiveTo r) sound differ = take_out_laws.others cache block other sound differ
others cache block other GiveBack sound differ = take_out_laws.others cache block other sound differ

room : (cache : Cached) (block other : Block) (held : Held) → IsCache cache → has_room cache other ≡ true → has_room (after_intervention cache block held) other ≡ true
unfolding after_intervention
room cache block other (ShareWith r) sound some = mode_laws.room cache block other Shared sound ∙ some
room cache block other (GiveTo r) sound some = take_out_laws.room cache block other sound some
room cache block other GiveBack sound some = take_out_laws.room cache block other sound some

kept : (cache : Cached) (block : Block) (held : Held) → IsCache cache → IsCache (after_intervention cache block held)
unfolding after_intervention
kept cache block (ShareWith r) sound = mode_laws.sound cache block Shared sound
kept cache block (GiveTo r) sound = take_out_laws.sound cache block sound
kept cache block GiveBack sound = take_out_laws.sound cache block sound

pub returns : goal.returns
unfolding after_intervention
returns c = record {
  shared = λ cache block r sound. mode_laws.own cache block Shared sound;
  given = λ cache block r sound. take_out_laws.own cache block sound;
  given_back = λ cache block sound. take_out_laws.own cache block sound;
  others = others;
  room = room;
  sound = kept;
}

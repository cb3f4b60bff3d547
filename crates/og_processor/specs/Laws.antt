-- What an act and a take leave: a processor that is sound again.
use Rattle.std.specs.Prelude.{◌≡◌, Ok}
use Rattle.og_msg.specs.declared.Kind.{Kind}
use Rattle.og_image.specs.Image.{ImageState}
use Rattle.og_cache.specs.Cache.{IsCache}
use Rattle.og_processor.specs.State.{ProcessorState}
use Rattle.og_processor.specs.Act.{may_act, act_of}
use Rattle.og_processor.specs.Take.{take_of}
use Rattle.og_processor.specs.Sound.{IsSound}

-- after an act that may be made, and after any take, an outstanding request is an access's, with its block there or with room
-- for it
pub record StaysSound : Type 0 where
  pub acts : (image : ImageState) (x : ProcessorState) → IsCache x.cache → may_act image x ≡ Ok tt → IsSound image (act_of image x).state
  pub takes : (image : ImageState) (x : ProcessorState) (kind : Kind) → IsCache x.cache → IsSound image x → IsSound image (take_of image x kind).state

-- What the calls do that end a request.
use Rattle.std.proofs.Common.{◌≡◌, ℕ, ◌+◌, ◌≤◌, true, ◌⊎◌, Option, None, Some, List, [], ◌∷◌, ◌++◌, length, refl, sym, ap, subst, arith}
use Rattle.std.proofs.Math.Path.{◌∙◌}
use Rattle.std.proofs.lemmas.List.{length-append}
use Rattle.std.specs.Prelude.{IsSome, is_some, option_map}
use Rattle.og_base.specs.declared.Block.{Block}
use Rattle.og_line.specs.declared.Line.{Line}
use Rattle.og_line.specs.declared.Mode.{Mode}
use Rattle.og_line.specs.declared.Access.{Access}
use Rattle.og_msg.specs.declared.Kind.{Kind}
use Rattle.og_msg.specs.declared.Note.{Note}
use Rattle.og_image.specs.Image.{ImageState}
use Rattle.og_cache.specs.Cache.{Cached, IsCache, look_of, line_of, has_room, with_line}
use Rattle.og_cache.specs.Laws.{LineIsSeen}
use Rattle.og_request.specs.declared.Held.{Held}
use Rattle.og_request.specs.declared.Outcome.{Outcome}
use Rattle.og_request.specs.declared.Outcome.TheVariants.{Filled}
use Rattle.og_request.specs.Request.{Requested, received, outcome_of}
use Rattle.og_owner.specs.Owner.{answers, answers_by, dirty_line_of}
use Rattle.rv_hart.specs.declared.hart.Need.{Need}
use Rattle.rv_hart.specs.declared.hart.Need.TheVariants as need
use Rattle.rv_hart.specs.Hart.{need_of}
use Rattle.og_processor.specs.State.{ProcessorState, Letters, Given, Did, and_then, either_note}
use Rattle.og_processor.specs.Access.{completes}
use Rattle.og_processor.specs.Take.{put_line, makes, fills, settles, answers_held, drops, ends}
use Rattle.og_processor.specs.Rows.{has_its_copy, ends_well, has_part_row}
use Rattle.og_processor.specs.Sound.{IsSound, IsWaiting, IsLow, IsLowProcessor, IsLowKind, line_brought}
use Rattle.og_processor.proofs.Rows.{did_then, did_silently}
use Rattle.og_processor.proofs.Copies.{Stands, put_stands, put_low}
use Rattle.og_processor.proofs.Parts.{copy_there, part_row, same_request, brought_low, received_replied, received_responded}

-- an intervention has at most two answers
pub answers_few : (copy : Option (Mode × Line)) (block : Block) (held : Held) → length (answers copy block held) ≤ 2
unfolding answers
answers_few copy block held = by (dirty_line_of copy) held
  where
    by : (line : Option Line) (held : Held) → length (answers_by line block held) ≤ 2
    by line held = grind arith

pub few_more : (a b c : Letters) → c ≡ a ++ b → length b ≤ 2 → length c ≤ length a + 2
few_more a b c e le = let l : length c ≡ length a + length b = ap (λ (ls : Letters). length ls) e ∙ length-append a b in omega (arith, l, le)

-- a block stays where its line is changed
pub lined_there : LineIsSeen → (cache : Cached) (block : Block) (line : Line) → IsCache cache → IsSome (look_of cache block) → IsSome (look_of (with_line cache block line) block)
lined_there laws cache block line sound there = ap (λ (o : Option (Mode × Line)). is_some o) (laws.own cache block line sound) ∙ by (look_of cache block) there
  where
    by : (o : Option (Mode × Line)) → is_some o ≡ true → is_some {T = Mode × Line} (option_map (λ (copy : Mode × Line). (copy.0, line)) o) ≡ true
    by None h = absurd (cc)
    by (Some copy) h = refl

-- ---- a fill

module _ (x y : ProcessorState) (block : Block) (mode : Mode) (line : Option Line) (is : y ≡ record x { cache = put_line x.cache block mode line }) (sound : IsCache x.cache) (low : IsLowProcessor x) (own : IsLow line)
    (copy : has_its_copy x block (Filled mode line) ≡ true) (place : IsSome (look_of x.cache block) ⊎ (has_room x.cache block ≡ true)) where
  stands : Stands (put_line x.cache block mode line) block mode
  stands = put_stands x.cache block mode line sound low.cached own (copy_there x block mode line copy) place

  pub filled_there : IsSome (look_of y.cache block)
  filled_there = ap (λ (p : ProcessorState). is_some (look_of p.cache block)) is ∙ ap (λ (o : Option (Mode × Line)). is_some o) stands.look

  pub filled_low : IsLowProcessor y
  filled_low = subst (λ (p : ProcessorState). IsLowProcessor p) (sym is) (record { cached = put_low x.cache block mode line sound low.cached stands; replied = low.replied; responded = low.responded })

  pub filled_did : (image : ImageState) (z : ProcessorState) (access : Access) (note : Note) → need_of image x.hart ≡ need.Access access → ((l : Line) → line_of y.cache block ≡ Some l → Did (completes image y block l access) z [] [] (Some note)) → Did (fills image x block mode line) z [] [] (Some note)
  filled_did image z access note needs done =
      let there : line_of (put_line x.cache block mode line) block ≡ Some stands.line = ap (λ (c : Option (Mode × Line)). option_map (λ copy. copy.1) c) stands.look in
      let at : line_of y.cache block ≡ Some stands.line = ap (λ (p : ProcessorState). line_of p.cache block) is ∙ there in
      let same : fills image x block mode line ≡ completes image (record x { cache = put_line x.cache block mode line }) block stands.line access =
      ap (λ (o : Option Line). makes image (record x { cache = put_line x.cache block mode line }) block o (need_of image x.hart)) there
      ∙ ap (λ (n : Need). makes image (record x { cache = put_line x.cache block mode line }) block (Some stands.line) n) needs in
      subst (λ (g : Given). Did g z [] [] (Some note)) (sym same) (subst (λ (p : ProcessorState). Did (completes image p block stands.line access) z [] [] (Some note)) is (done stands.line at))

-- ---- the end

either_none : (n : Option Note) → either_note n None ≡ n
either_none None = refl
either_none (Some n) = refl

pub ended : (image : ImageState) (x y z w : ProcessorState) (request : Requested) (outcome : Outcome) (out a b : Letters) (n : Option Note) → x.request ≡ None → Did (settles image x request outcome) y [] [] n →
    Did (answers_held y request.block request.held) z out a None → Did (drops image z) w a b None → Did (ends image x request outcome) w out b n
ended image x y z w request outcome out a b n none one two three =
    let same : x ≡ record x { request = None } = ap (λ (r : Option Requested). record x { request = r }) none in
    subst (λ (m : Option Note). Did (ends image x request outcome) w out b m) (either_none n)
    (subst (λ (p : ProcessorState). Did (ends image p request outcome) w out b (either_note n None)) (sym same)
    (did_then (settles image (record x { request = None }) request outcome) (λ u. and_then (answers_held u request.block request.held) (λ v. drops image v)) y w out out b n None
    (did_silently (settles image (record x { request = None }) request outcome) y out n (subst (λ (p : ProcessorState). Did (settles image p request outcome) y [] [] n) same one))
    (did_then (answers_held y request.block request.held) (λ v. drops image v) z w out a b None None two three)))

-- ---- a part that ends it

-- what the end of a request asks for
pub record Ready (image : ImageState) (x : ProcessorState) (request : Requested) (outcome : Outcome) : Type 0 where
  pub row : ends_well x request outcome ≡ true
  pub waiting : IsWaiting image x request.block
  pub low : IsLowProcessor x
  pub low_line : IsLow (line_brought outcome)

pub ready : (image : ImageState) (x : ProcessorState) (request : Requested) (kind : Kind) → x.request ≡ Some request → has_part_row x x.request kind ≡ true → IsSound image x → IsLowProcessor x → IsLowKind kind → Ready image (record x { request = None }) (received request kind) (outcome_of (received request kind))
ready image x request kind is row sound low low_kind =
    let w : IsWaiting image x request.block = sound request is in
    let there : IsWaiting image x (received request kind).block = subst (λ (b : Block). IsWaiting image x b) (sym (same_request request kind)) w in record {
      row = (part_row x x.request request kind is row).1;
      waiting = record { runs = there.runs; access = there.access; needs = there.needs; place = there.place };
      low = record { cached = low.cached; replied = λ r e. absurd (cc); responded = λ r e. absurd (cc) };
      low_line = brought_low (received request kind) (received_replied request kind (low.replied request is) low_kind) (received_responded request kind (low.responded request is) low_kind);
    }

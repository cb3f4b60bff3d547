use Rattle.std.proofs.Common.{sym, ap, subst, ◌∙◌}
use Rattle.og_victim.specs.Slot.{is_slot_of}
use Rattle.og_cache.specs.Cache.{IsCache, mode_of}
use Rattle.og_processor.proofs.Parts.{answer_ready, same_victim}
use Rattle.og_processor.proofs.Ends.{ended}
use Rattle.og_processor.proofs.Processor.end.Goals as goal

pub answer_held-requires-clause-owner : goal.answer_held-requires-clause-owner
answer_held-requires-clause-owner c = λ held is slot shared.
    answer_ready c.args.image.now c.args.self.now c.args.request.now c.args.outcome held (subst (λ p. IsCache p.cache) c.self.view_is c.stays_sound.ensures) c.requires.low.cached c.requires.low_line c.requires.row c.requires.waiting c.requires.over is
    (sym (ap (λ p. is_slot_of p.victim c.args.request.now.block) c.settle-note.ensures.state ∙ ap (λ v. is_slot_of v c.args.request.now.block) (same_victim c.args.image.now c.args.self.now c.args.request.now c.args.outcome)) ∙ slot)
    (sym (ap (λ p. mode_of p.cache c.args.request.now.block) c.settle-note.ensures.state) ∙ shared)

pub returns : goal.returns
returns c = ended c.args.image.now c.args.self.now c.settle-note.new.self c.answer_held.new.self c.answer_drop.new.self c.args.request.now c.args.outcome c.args.out.now c.answer_held.new.out c.answer_drop.new.out c.settle-note.result c.requires.none c.settle-note.ensures c.answer_held.ensures.did c.answer_drop.ensures

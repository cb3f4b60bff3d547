use Rattle.og_cache.specs.Cache.{look_of}
use Rattle.og_owner.specs.Owner.{answers}
use Rattle.og_processor.proofs.Ends.{answers_few, few_more}
use Rattle.og_processor.proofs.Processor.answer.Goals as goal

pub returns-else-holds-clause-few : goal.returns-else-holds-clause-few
returns-else-holds-clause-few c = few_more c.args.out.now (answers (look_of c.self.inside.cache c.args.block) c.args.block c.args.held) c.intervene-else-holds.new.out c.intervene-else-holds.ensures.letters (answers_few (look_of c.self.inside.cache c.args.block) c.args.block c.args.held)

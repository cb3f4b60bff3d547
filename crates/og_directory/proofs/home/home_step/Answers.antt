use Rattle.og_directory.proofs.Letters.{no_request, no_request-counts}
use Rattle.og_directory.proofs.home.home_step.Goals as goal

pub returns-in_default : goal.returns-in_default
returns-in_default c = record {
  entry = c.settle.ensures.entry;
  line = c.settle.ensures.line;
  letters = c.settle.ensures.letters;
  counts = no_request-counts c.args.msg.now.kind _ (no_request c.args.msg.now.kind c.in_default.not-Read c.in_default.not-ReadEx c.in_default.not-Upgrade);
  named = c.settle.ensures.named;
}

use Rattle.std.proofs.Common.{rules, ap}
use Rattle.og_processor.proofs.Ends.{ready}
use Rattle.og_processor.proofs.Processor.receive.Goals as goal

pub end-requires : goal.end-requires
end-requires c =
    let is = ap (λ p. p.request) c.self.view_is in
    let r = ready c.args.image.now c.args.self.now c.in-Some.request c.args.kind.now (search rules) c.requires.row c.requires.sound c.requires.low c.requires.low_message in
    search (rules, r, r.row, r.waiting, r.low, r.low_line)

use Rattle.std.proofs.Common.{[], sym, false}
use Rattle.og_elf.specs.declared.segment.Segment.{Segment}
use Rattle.og_image.proofs.Places.{high_page}
use Rattle.og_image.proofs.image.Image.is_data_page.Goals as goal

abbrev none : Segment
none = record { addr = 0; size = 0; bytes = []; writable = false; runnable = false }

pub returns-then-page-ge-FIRST_STACK_PAGE : goal.returns-then-page-ge-FIRST_STACK_PAGE
returns-then-page-ge-FIRST_STACK_PAGE c = sym (high_page c.args.page c.args.self.now.segments none c.stays_loadable.ensures.program.placed c.if-page-ge-FIRST_STACK_PAGE.true)

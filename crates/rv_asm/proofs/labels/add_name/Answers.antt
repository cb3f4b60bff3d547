use Rattle.std.proofs.Common.{sym}
use Rattle.std.specs.Prelude.{Some}
use Rattle.std.proofs.Math.Path.{◌∙◌}
use Rattle.std.proofs.lemmas.Map.Text.{btree_map_updates_str}
use Rattle.rv_asm.specs.Source.{place}
use Rattle.rv_asm.specs.Found.{places_in}
use Rattle.rv_asm.proofs.Places.{added}
use Rattle.rv_asm.proofs.labels.add_name.Goals as goal

pub returns : goal.returns
returns c q =
    btree_map_updates_str c.args.name.now c.args.labels.now c.insert.new.self (Some (place c.args.line c.args.index)) c.in_ok-insert.ensures.updates q ∙
    added (places_in c.args.labels.now) c.args.name.now q (place c.args.line c.args.index) (sym c.contains_key.ensures ∙ c.if-contains_key.false)

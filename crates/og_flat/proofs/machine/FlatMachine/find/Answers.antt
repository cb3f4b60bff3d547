-- The binary search finds the number of the block's page, since the pages rise.
use Rattle.std.proofs.Common.{◌≡◌, ℕ, ◌+◌, ◌*◌, ◌/◌, ◌%◌, Some, None, nat_eq, ap, sym, ◌∙◌, arith, List}
use Rattle.std.specs.List.{position}
use Rattle.std.specs.List.Sorted.{IsStrictlyIncreasing}
use Rattle.std.specs.Option.{option_map}
use Rattle.og_image.proofs.Pages.{searched_page, searched_none}
use Rattle.og_flat.specs.Kept.{KeptState}
use Rattle.og_flat.proofs.machine.FlatMachine.find.Goals as goal

pub returns-in-Ok-clause-place : goal.returns-in-Ok-clause-place
returns-in-Ok-clause-place c =
    let up : IsStrictlyIncreasing c.as_slice.result.now = rw c.as_slice.ensures.value c.self.invariant.rising in
    let found : position (nat_eq (c.args.block / 32)) c.as_slice.result.now ≡ Some c.in-Ok.page =
    searched_page c.as_slice.result.now (c.args.block / 32) c.in-Ok.page up c.in-Ok.ensures.position in
    let view : c.self.inside.pages.items ≡ c.args.self.now.pages = ap (λ (k : KeptState). k.pages) c.self.view_is in
    let pages : c.args.self.now.pages ≡ c.as_slice.result.now = cc (c.as_slice.ensures.value, view) in
    sym (ap (λ (xs : List ℕ). option_map (λ i. 32 * i + c.args.block % 32) (position (nat_eq (c.args.block / 32)) xs)) pages
    ∙ ap (option_map (λ i. 32 * i + c.args.block % 32)) found
    ∙ ap (λ n. Some n) (omega arith))

pub returns-in-Err-clause-place : goal.returns-in-Err-clause-place
returns-in-Err-clause-place c =
    let up : IsStrictlyIncreasing c.as_slice.result.now = rw c.as_slice.ensures.value c.self.invariant.rising in
    let found : position (nat_eq (c.args.block / 32)) c.as_slice.result.now ≡ None =
    searched_none c.as_slice.result.now (c.args.block / 32) c.in-Err.field-0 up c.in-Err.ensures.position in
    let view : c.self.inside.pages.items ≡ c.args.self.now.pages = ap (λ (k : KeptState). k.pages) c.self.view_is in
    let pages : c.args.self.now.pages ≡ c.as_slice.result.now = cc (c.as_slice.ensures.value, view) in
    sym (ap (λ (xs : List ℕ). option_map (λ i. 32 * i + c.args.block % 32) (position (nat_eq (c.args.block / 32)) xs)) pages
    ∙ ap (option_map (λ i. 32 * i + c.args.block % 32)) found)

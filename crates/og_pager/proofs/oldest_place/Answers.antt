use Rattle.std.proofs.Common.{◌≡◌, ℕ, length, subst, sym, ◌∙◌, arith}
use Rattle.og_pager.specs.declared.Role.TheVariants.{Free}
use Rattle.og_pager.specs.PageTable.{is_left_first}
use Rattle.og_pager.proofs.Eldest.{IsEldest, eldest_found, position_inside}
use Rattle.og_pager.proofs.oldest_place.Goals as goal

pub returns-clause-place : goal.returns-clause-place
returns-clause-place c =
    let last : c.loop-place.place ≡ length c.args.roles.now = omega arith in
    c.place_in.ensures ∙ sym (eldest_found c.args.roles.now c.loop-place.oldest (subst (λ (n : ℕ). IsEldest c.args.roles.now n c.loop-place.oldest) last c.loop-place.invariant))

pub returns-clause-inside : goal.returns-clause-inside
returns-clause-inside c =
    let last : c.loop-place.place ≡ length c.args.roles.now = omega arith in
    position_inside (is_left_first c.args.roles.now) c.args.roles.now Free c.place_in.result (c.place_in.ensures ∙ sym (eldest_found c.args.roles.now c.loop-place.oldest (subst (λ (n : ℕ). IsEldest c.args.roles.now n c.loop-place.oldest) last c.loop-place.invariant)))

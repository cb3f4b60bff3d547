use Rattle.std.proofs.Math.Nat.{mul-le-mul_left}
use Rattle.std.proofs.Common.{◌≡◌, ◌≤◌, ◌*◌, ◌<◌, ◌^◌, length, get_or, arith, subst, List, ℕ, sym}
use Rattle.std.specs.List.Sorted.{IsStrictlyIncreasing}
use Rattle.og_image.proofs.Pages.{pages_rise, pages_small}
use Rattle.og_image.proofs.layout.Layout.make.Goals as goal

pub invariant_of-result : goal.invariant_of-result
invariant_of-result c =
    let few : c.args.image.now.nodes ≤ 128 = let same : c.args.settings.now.nodes ≡ c.args.image.now.nodes = c.requires in let most : c.args.settings.now.nodes ≤ 128 = c.args.settings.now.nodes_in_range.1 in omega arith in
    record {
      some = c.args.settings.now.nodes_in_range.0;
      few = c.args.settings.now.nodes_in_range.1;
      rising = subst (λ (xs : List ℕ). IsStrictlyIncreasing xs) (sym (c.in-Ok.ensures)) (pages_rise c.args.image.now);
      low = λ k lt. subst (λ (xs : List ℕ). k < length xs → get_or xs k 0 < 2 ^ 20) (sym (c.in-Ok.ensures)) (pages_small c.args.image.now k (omega arith)) lt;
      room = let most : c.args.settings.now.nodes * c.args.settings.now.frames ≤ c.args.settings.now.nodes * 1024 = mul-le-mul_left c.args.settings.now.nodes c.args.settings.now.frames_in_range.1 in grind arith;
    }

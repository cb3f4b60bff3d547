-- Numbers of frames, and lists of roles after one of them has changed.
use Rattle.std.proofs.Common.{◌≡◌, ℕ, ◌+◌, ◌*◌, ◌/◌, ◌%◌, ◌<◌, ◌≤◌, Some, None, List, length, get_or, sym, ◌∙◌, ap, arith, inl, inr, ◌⊎◌}
use Rattle.std.proofs.Math.ListN.{set}
use Rattle.std.proofs.Math.Nat.{mul-le-mul_right}
use Rattle.std.proofs.lemmas.List.{get_or-set_same, get_or-set_other}
use Rattle.std.proofs.lemmas.Bool.{cases_eq}
use Rattle.std.proofs.lemmas.Nat.{div-mul-add, mod-mul-add}
use Rattle.og_base.specs.declared.Frame.{Frame}
use Rattle.og_pager.specs.declared.Role.{Role}
use Rattle.og_pager.specs.declared.Role.TheVariants.{Free, Mapped, Target, Quarantined}
use Rattle.og_pager.specs.PageTable.{PageTable, IsFrame, frame_number}

pub number_below : (home index nodes frames : ℕ) → home < nodes → index < frames → home * frames + index < nodes * frames
number_below home index nodes frames h i =
    let more : (home + 1) * frames ≤ nodes * frames = mul-le-mul_right frames (omega arith) in omega (arith, more)

-- frames with one number are one frame
pub same_number : (t : PageTable) (f g : Frame) → IsFrame t f → IsFrame t g → frame_number t f ≡ frame_number t g → f ≡ g
same_number t f g inside within e = same f g homes indices
  where
    homes : f.home ≡ g.home
    homes = sym (div-mul-add f.home t.frames f.index inside.1) ∙ ap (λ n. n / t.frames) e ∙ div-mul-add g.home t.frames g.index within.1

    indices : f.index ≡ g.index
    indices = sym (mod-mul-add f.home t.frames f.index inside.1) ∙ ap (λ n. n % t.frames) e ∙ mod-mul-add g.home t.frames g.index within.1

    same : (a b : Frame) → a.home ≡ b.home → a.index ≡ b.index → a ≡ b
    same a b p q = grind arith

-- a list of roles after one of them has changed
module _ (roles : List Role) (a : ℕ) (x : Role) (inside : a < length roles) where
  pub is_elsewhere : (k : ℕ) (r w : Role) → get_or roles a Free ≡ w → get_or roles k Free ≡ r → (r ≡ w → ⊥) → get_or (set roles a x) k Free ≡ r
  is_elsewhere k r w old here differ =
      get_or-set_other roles a k x Free (λ same. differ (sym here ∙ ap (λ j. get_or roles j Free) same ∙ old)) ∙ here

  pub was_elsewhere : (k : ℕ) (r : Role) → get_or (set roles a x) k Free ≡ r → (r ≡ x → ⊥) → get_or roles k Free ≡ r
  was_elsewhere k r here differ = by_place (cases_eq k a)
    where
      by_place : (k ≡ a) ⊎ (k ≡ a → ⊥) → get_or roles k Free ≡ r
      by_place (inl same) = absurd (differ (sym here ∙ ap (λ j. get_or (set roles a x) j Free) same ∙ get_or-set_same roles a x Free inside))
      by_place (inr other) = sym (get_or-set_other roles a k x Free other) ∙ here

  pub is_here : (k : ℕ) (r : Role) → get_or (set roles a x) k Free ≡ r → ((k ≡ a) × (x ≡ r)) ⊎ (get_or roles k Free ≡ r)
  is_here k r here = by_place (cases_eq k a)
    where
      by_place : (k ≡ a) ⊎ (k ≡ a → ⊥) → ((k ≡ a) × (x ≡ r)) ⊎ (get_or roles k Free ≡ r)
      by_place (inl same) = inl (same, sym (ap (λ j. get_or (set roles a x) j Free) same ∙ get_or-set_same roles a x Free inside) ∙ here)
      by_place (inr other) = inr (sym (get_or-set_other roles a k x Free other) ∙ here)

-- roles of different kinds differ
pub mapped_free : {n : ℕ} → Mapped n ≡ Free → ⊥
mapped_free e = cc

pub target_free : {n : ℕ} → Target n ≡ Free → ⊥
target_free e = cc

pub left_free : {n : ℕ} → Quarantined n ≡ Free → ⊥
left_free e = cc

pub mapped_target : {n m : ℕ} → Mapped n ≡ Target m → ⊥
mapped_target e = cc

pub target_mapped : {n m : ℕ} → Target n ≡ Mapped m → ⊥
target_mapped e = cc

pub mapped_left : {n m : ℕ} → Mapped n ≡ Quarantined m → ⊥
mapped_left e = cc

pub left_mapped : {n m : ℕ} → Quarantined n ≡ Mapped m → ⊥
left_mapped e = cc

pub target_left : {n m : ℕ} → Target n ≡ Quarantined m → ⊥
target_left e = cc

pub left_target : {n m : ℕ} → Quarantined n ≡ Target m → ⊥
left_target e = cc

pub same_mapped : {n m : ℕ} → Mapped n ≡ Mapped m → n ≡ m
same_mapped e = cc

pub same_target : {n m : ℕ} → Target n ≡ Target m → n ≡ m
same_target e = cc

pub same_left : {n m : ℕ} → Quarantined n ≡ Quarantined m → n ≡ m
same_left e = cc

pub none_some : {A : Type 0} {x : A} → None ≡ Some x → ⊥
none_some e = cc

pub same_some : {A : Type 0} {x y : A} → Some x ≡ Some y → x ≡ y
same_some e = cc

-- Frames by number.
use Rattle.std.proofs.Common.{◌≡◌, ℕ, zero, suc, ◌+◌, ◌*◌, ◌/◌, ◌%◌, ◌<◌, ◌≤◌, true, arith, inl, inr, refl, sym, ap, ◌∙◌, subst}
use Rattle.std.proofs.lemmas.Bool.{cases_Bool}
use Rattle.std.proofs.lemmas.Bool.Decides.{nat_tests}
use Rattle.std.proofs.lemmas.Nat.{div-mul-add, mod-mul-add, div-add-mod'}
use Rattle.std.proofs.Math.Nat.{mul-zero, mul-le-mul_right, mod-lt, div-lt_iff_lt-mul}
use Rattle.og_base.specs.declared.Frame.{Frame}
use Rattle.og_seen.specs.Numbers.{Sizes, frame_count, is_there, frame_number, frame_at}

-- home after home
below_count : (nodes frames home index : ℕ) → home < nodes → index < frames → home * frames + index < nodes * frames
below_count nodes frames home index lh li =
    let a : (home + 1) * frames ≤ nodes * frames = mul-le-mul_right frames (omega arith) in
    let b : (home + 1) * frames ≡ home * frames + frames = grind arith in
    omega arith

pub there : (s : Sizes) (frame : Frame) → is_there s frame ≡ true → (frame.home < s.nodes) × (frame.index < s.frames)
there s frame t = (grind (arith, nat_tests), grind (arith, nat_tests))

pub numbered : (s : Sizes) (frame : Frame) → is_there s frame ≡ true → frame_number s frame ≡ frame.home * s.frames + frame.index
numbered s frame t = rw t refl

pub number_below : (s : Sizes) (frame : Frame) → is_there s frame ≡ true → frame_number s frame < frame_count s
number_below s frame t =
    let h = there s frame t in
    let b = below_count s.nodes s.frames frame.home frame.index h.0 h.1 in
    subst (λ (n : ℕ). n < frame_count s) (sym (numbered s frame t)) b

pub there_below : (s : Sizes) (frame : Frame) → frame_number s frame < frame_count s → is_there s frame ≡ true
there_below s frame lt = elim (cases_Bool (is_there s frame)) [ inl t ↦ t | inr t ↦ absurd (let e : frame_number s frame ≡ frame_count s = rw t refl in omega arith) ]

same_frame : (frame : Frame) (home index : ℕ) → home ≡ frame.home → index ≡ frame.index → record { home = home; index = index } ≡ frame
same_frame frame home index a b = subst (λ (i : ℕ). record { home = home; index = i } ≡ frame) (sym b) (subst (λ (h : ℕ). record { home = h; index = frame.index } ≡ frame) (sym a) refl)

pub at_number : (s : Sizes) (frame : Frame) → is_there s frame ≡ true → frame_at s (frame_number s frame) ≡ frame
at_number s frame t =
    let h = there s frame t in
    let e = numbered s frame t in
    let a : frame_number s frame / s.frames ≡ frame.home = ap (λ n. n / s.frames) e ∙ div-mul-add frame.home s.frames frame.index h.1 in
    let b : frame_number s frame % s.frames ≡ frame.index = ap (λ n. n % s.frames) e ∙ mod-mul-add frame.home s.frames frame.index h.1 in
    same_frame frame (frame_number s frame / s.frames) (frame_number s frame % s.frames) a b

pub frame_there : (s : Sizes) (f : ℕ) → f < frame_count s → is_there s (frame_at s f) ≡ true
frame_there s f lt =
    let some : 0 < s.frames = some_frames s.nodes s.frames f lt in
    let a : f / s.frames < s.nodes = (div-lt_iff_lt-mul {k = s.frames} {x = f} {y = s.nodes} some).1 lt in
    let b : f % s.frames < s.frames = mod-lt f some in
    grind (arith, nat_tests)
  where
    some_frames : (n f k : ℕ) → k < n * f → 0 < f
    some_frames n zero k lt = absurd (let m : n * 0 ≡ 0 = mul-zero n in omega arith)
    some_frames n (suc f) k lt = omega arith

pub number_at : (s : Sizes) (f : ℕ) → f < frame_count s → frame_number s (frame_at s f) ≡ f
number_at s f lt = numbered s (frame_at s f) (frame_there s f lt) ∙ div-add-mod' f s.frames

-- What the machine uses of a hart.
use Rattle.std.proofs.Common.{◌≡◌, ◌≢◌, ℕ, ◌+◌, ◌<◌, Bool, true, false, cond, ◌==◌, Option, Some, None, arith, refl, ap, ◌∙◌}
use Rattle.std.specs.Prelude.{option_and_then}
use Rattle.og_base.specs.declared.Cause.{Cause}
use Rattle.og_base.specs.declared.Cause.TheVariants.{Spent, Fetch, Illegal}
use Rattle.og_line.specs.declared.Access.{Access}
use Rattle.og_line.specs.Access.{addr_of}
use Rattle.rv_decode.specs.declared.Instr.{Instr}
use Rattle.rv_decode.specs.Rows.{decode_of}
use Rattle.rv_hart.specs.declared.hart.Need.{Need}
use Rattle.rv_hart.specs.declared.hart.Need.TheVariants as need
use Rattle.og_image.specs.Image.{ImageState, fetch_of, is_data_of}
use Rattle.rv_hart.specs.Hart.{HartState, need_of, fetched_need, decoded_need, finish_of, finished, instr_of}
use Rattle.rv_hart.proofs.Needs.{some_left, need_reaches}

keeps : (image : ImageState) (h : HartState) (answer : ℕ) (o : Option Instr) → (finished image h answer o).cause ≡ h.cause
keeps image h answer None = refl
keeps image h answer (Some i) = refl

-- an instruction doesn't stop the hart
pub finish_keeps : (image : ImageState) (h : HartState) (answer : ℕ) → (finish_of image h answer).cause ≡ h.cause
unfolding finish_of
finish_keeps image h answer = keeps image h answer (instr_of image h)

-- a hart that doesn't need to stop has an instruction
has_instr : (image : ImageState) (h : HartState) → ((cause : Cause) → need_of image h ≢ need.Stop cause) → (i : Instr) × (instr_of image h ≡ Some i)
unfolding need_of
has_instr image h goes = word (fetch_of image h.pc) refl
  where
    late : (n : Need) (c : Cause) → fetched_need image h (fetch_of image h.pc) ≡ need.Stop c → (b : Bool) → h.left == 0 ≡ b → ⊥
    late n c e true z = goes Spent (ap (λ v. cond v (need.Stop Spent) (fetched_need image h (fetch_of image h.pc))) z)
    late n c e false z = goes c (ap (λ v. cond v (need.Stop Spent) (fetched_need image h (fetch_of image h.pc))) z ∙ e)

    decoded : (w : ℕ) (o : Option Instr) → fetch_of image h.pc ≡ Some w → decode_of w ≡ o → (i : Instr) × (instr_of image h ≡ Some i)
    decoded w None f d = absurd (late (need.Stop Illegal) Illegal (ap (λ x. fetched_need image h x) f ∙ ap (λ x. decoded_need image h x) d) (h.left == 0) refl)
    decoded w (Some i) f d = (i, ap (λ x. option_and_then decode_of x) f ∙ d)

    word : (o : Option ℕ) → fetch_of image h.pc ≡ o → (i : Instr) × (instr_of image h ≡ Some i)
    word None f = absurd (late (need.Stop Fetch) Fetch (ap (λ x. fetched_need image h x) f) (h.left == 0) refl)
    word (Some w) f = decoded w (decode_of w) f refl

-- an instruction uses one up, and there was one
pub finish_left : (image : ImageState) (h : HartState) (answer : ℕ) → ((cause : Cause) → need_of image h ≢ need.Stop cause) → (finish_of image h answer).left + 1 ≡ h.left
unfolding finish_of
finish_left image h answer goes =
    let i : (i : Instr) × (instr_of image h ≡ Some i) = has_instr image h goes in
    let some : 0 < h.left = some_left image h goes in
    rw i.1 (omega arith)

-- an access is to a data or stack page
pub need_mapped : (image : ImageState) (h : HartState) (access : Access) → need_of image h ≡ need.Access access → is_data_of image (addr_of access) ≡ true
need_mapped image h access is = (need_reaches image h access is).mapped

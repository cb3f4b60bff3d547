-- A message that is taken by its name, from a list in which each message has a key of its own.
use Rattle.std.proofs.Common.{◌≡◌, Bool, true, false, cond, ◌≢◌, List, [], ◌∷◌, Some, sym, subst, refl}
use Rattle.og_slots.specs.Flight.{Apart, Fits, first_named, without_named}

module _ {M : Type 0} {K : Type 0} (named : M → Bool) (key : M → K) where
  apart_without : (k : K) (ms : List M) → Apart key k ms → Apart key k (without_named named ms)
  apart_without k [] a = tt
  apart_without k (m ∷ ms) a = by (named m) (apart_without k ms a.1)
    where
      by : (t : Bool) → Apart key k (without_named named ms) → Apart key k (cond t (without_named named ms) (m ∷ without_named named ms))
      by true r = r
      by false r = (a.0, r)

  fits_without : (P : M → Type 0) (ms : List M) → Fits key P ms → Fits key P (without_named named ms)
  fits_without P [] fits = tt
  fits_without P (m ∷ ms) fits = by (named m) (fits_without P ms fits.2)
    where
      by : (t : Bool) → Fits key P (without_named named ms) → Fits key P (cond t (without_named named ms) (m ∷ without_named named ms))
      by true r = r
      by false r = (fits.0, apart_without (key m) ms fits.1, r)

  other : (k : K) (x : M) (ms : List M) → Apart key k ms → first_named named ms ≡ Some x → key x ≢ k
  other k x [] a e = absurd (cc)
  other k x (m ∷ ms) a e = by (named m) e (λ e. other k x ms a.1 e)
    where
      by : (t : Bool) → cond t (Some m) (first_named named ms) ≡ Some x → (first_named named ms ≡ Some x → key x ≢ k) → key x ≢ k
      by true e rest = let s : m ≡ x = cc in subst (λ (z : M). key z ≢ k) s a.0
      by false e rest = rest e

  pub fits_named : (P : M → Type 0) (x : M) (ms : List M) → Fits key P ms → first_named named ms ≡ Some x → P x × Apart key (key x) (without_named named ms) × Fits key P (without_named named ms)
  fits_named P x [] fits e = absurd (cc)
  fits_named P x (m ∷ ms) fits e = by (named m) refl e (λ e. fits_named P x ms fits.2 e)
    where
      by : (t : Bool) → named m ≡ t → cond t (Some m) (first_named named ms) ≡ Some x → (first_named named ms ≡ Some x → P x × Apart key (key x) (without_named named ms) × Fits key P (without_named named ms)) →
          P x × Apart key (key x) (cond t (without_named named ms) (m ∷ without_named named ms)) × Fits key P (cond t (without_named named ms) (m ∷ without_named named ms))
      by true n e rest = let s : m ≡ x = cc in (subst P s fits.0, subst (λ (z : M). Apart key (key z) (without_named named ms)) s (apart_without (key m) ms fits.1), fits_without P ms fits.2)
      by false n e rest = let r = rest e in (r.0, (λ same. other (key m) x ms fits.1 e (sym same), r.1), (fits.0, apart_without (key m) ms fits.1, r.2))

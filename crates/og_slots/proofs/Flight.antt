-- What a list of messages keeps when one is taken or sent.
use Rattle.std.proofs.Common.{◌≡◌, ℕ, zero, suc, ◌≢◌, List, [], ◌∷◌, ◌++◌, Some, slice_get, sym, refl, remove, subst}
use Rattle.og_slots.specs.Flight.{Apart, Fits, AllApart}

pub apart_other : {M : Type 0} → {K : Type 0} → (key : M → K) (k : K) (P : M → Type 0) → ((x : M) → P x → key x ≢ k) → (ms : List M) → Fits key P ms → Apart key k ms
apart_other key k P h [] fits = tt
apart_other key k P h (m ∷ ms) fits = (h m fits.0, apart_other key k P h ms fits.2)

-- what is said of messages with other keys may change
pub fits_frame : {M : Type 0} → {K : Type 0} → (key : M → K) (k : K) (P Q : M → Type 0) → ((x : M) → key x ≢ k → P x → Q x) → (ms : List M) → Apart key k ms → Fits key P ms → Fits key Q ms
fits_frame key k P Q h [] a fits = tt
fits_frame key k P Q h (m ∷ ms) a fits = (h m a.0 fits.0, fits.1, fits_frame key k P Q h ms a.1 fits.2)

-- the same where no key is concerned
pub fits_map : {M : Type 0} → {K : Type 0} → (key : M → K) (P Q : M → Type 0) → ((x : M) → P x → Q x) → (ms : List M) → Fits key P ms → Fits key Q ms
fits_map key P Q h [] fits = tt
fits_map key P Q h (m ∷ ms) fits = (h m fits.0, fits.1, fits_map key P Q h ms fits.2)

pub apart_push : {M : Type 0} → {K : Type 0} → (key : M → K) (k : K) (x : M) (ms : List M) → Apart key k ms → key x ≢ k → Apart key k (ms ++ x ∷ [])
apart_push key k x [] a ne = (ne, tt)
apart_push key k x (m ∷ ms) a ne = (a.0, apart_push key k x ms a.1 ne)

pub fits_push : {M : Type 0} → {K : Type 0} → (key : M → K) (P : M → Type 0) (x : M) (ms : List M) → Fits key P ms → Apart key (key x) ms → P x → Fits key P (ms ++ x ∷ [])
fits_push key P x [] fits a p = (p, tt, tt)
fits_push key P x (m ∷ ms) fits a p = (fits.0, apart_push key (key m) x ms fits.1 (λ e. a.0 (sym e)), fits_push key P x ms fits.2 a.1 p)

-- the list without its i-th message, by recursion
abbrev pub without : {M : Type 0} → List M → ℕ → List M
without [] i = []
without (m ∷ ms) zero = ms
without (m ∷ ms) (suc i) = m ∷ without ms i

pub remove_is : {M : Type 0} → (ms : List M) (i : ℕ) → remove ms i ≡ without ms i
remove_is [] zero = refl
remove_is [] (suc i) = refl
remove_is (m ∷ ms) zero = refl
remove_is (m ∷ ms) (suc i) = let e : remove ms i ≡ without ms i = remove_is ms i in cc

apart_without : {M : Type 0} → {K : Type 0} → (key : M → K) (k : K) (ms : List M) (i : ℕ) → Apart key k ms → Apart key k (without ms i)
apart_without key k [] i a = tt
apart_without key k (m ∷ ms) zero a = a.1
apart_without key k (m ∷ ms) (suc i) a = (a.0, apart_without key k ms i a.1)

pub fits_take : {M : Type 0} → {K : Type 0} → (key : M → K) (P : M → Type 0) (x : M) (ms : List M) (i : ℕ) → Fits key P ms → slice_get ms i ≡ Some x →
    P x × Apart key (key x) (without ms i) × Fits key P (without ms i)
fits_take key P x [] i fits e = absurd (cc)
fits_take key P x (m ∷ ms) zero fits e = let s : m ≡ x = cc in (subst P s fits.0, subst (λ k. Apart key (key k) ms) s fits.1, fits.2)
fits_take {M} {K} key P x (m ∷ ms) (suc i) fits e =
    let r : P x × Apart key (key x) (without ms i) × Fits key P (without ms i) = fits_take key P x ms i fits.2 e in
    (r.0, (other ms i fits.1 e, r.1), (fits.0, apart_without key (key m) ms i fits.1, r.2))
  where
    other : (ns : List M) (j : ℕ) → Apart key (key m) ns → slice_get ns j ≡ Some x → key m ≢ key x
    other [] j a e = absurd (cc)
    other (n ∷ ns) zero a e = let s : n ≡ x = cc in λ same. a.0 (cc)
    other (n ∷ ns) (suc j) a e = other ns j a.1 e

-- a key that no message has is one more fact of each: so frames of rows with several keys are chained
pub fits_and : {M : Type 0} → {K : Type 0} → (key : M → K) (k : K) (P : M → Type 0) (ms : List M) → Apart key k ms → Fits key P ms → Fits key (λ x. P x × (key x ≢ k)) ms
fits_and key k P [] a fits = tt
fits_and key k P (m ∷ ms) a fits = ((fits.0, a.0), fits.1, fits_and key k P ms a.1 fits.2)

-- distinct keys are distinct charges, where the key of a message that stands in its slot follows from its charge
pub fits_coarser : {M : Type 0} → {K : Type 0} → {C : Type 0} → (key : M → K) (charge : M → C) (P : M → Type 0) → ((x y : M) → P x → P y → charge x ≡ charge y → key x ≡ key y) → (ms : List M) → Fits key P ms → Fits charge P ms
fits_coarser key charge P h [] fits = tt
fits_coarser {M} key charge P h (m ∷ ms) fits = (fits.0, apart ms fits.1 fits.2, fits_coarser key charge P h ms fits.2)
  where
    apart : (ns : List M) → Apart key (key m) ns → Fits key P ns → Apart charge (charge m) ns
    apart [] a f = tt
    apart (x ∷ ns) a f = (λ e. a.0 (h x m f.0 fits.0 e), apart ns a.1 f.2)

pub apart_append : {M : Type 0} → {K : Type 0} → (key : M → K) (k : K) (ms xs : List M) → Apart key k ms → Apart key k xs → Apart key k (ms ++ xs)
apart_append key k [] xs a b = b
apart_append key k (m ∷ ms) xs a b = (a.0, apart_append key k ms xs a.1 b)

head_apart : {M : Type 0} → {K : Type 0} → (key : M → K) (m : M) (xs ms : List M) → AllApart key xs (m ∷ ms) → Apart key (key m) xs
head_apart key m [] ms a = tt
head_apart key m (x ∷ xs) ms a = (λ e. a.0.0 (sym e), head_apart key m xs ms a.1)

tail_apart : {M : Type 0} → {K : Type 0} → (key : M → K) (m : M) (xs ms : List M) → AllApart key xs (m ∷ ms) → AllApart key xs ms
tail_apart key m [] ms a = tt
tail_apart key m (x ∷ xs) ms a = (a.0.1, tail_apart key m xs ms a.1)

-- many letters at once
pub fits_append : {M : Type 0} → {K : Type 0} → (key : M → K) (P : M → Type 0) (ms xs : List M) → Fits key P ms → Fits key P xs → AllApart key xs ms → Fits key P (ms ++ xs)
fits_append key P [] xs f g a = g
fits_append key P (m ∷ ms) xs f g a = (f.0, apart_append key (key m) ms xs f.1 (head_apart key m xs ms a), fits_append key P ms xs f.2 g (tail_apart key m xs ms a))

-- the same as `fits_take`, of std's word for a list without its i-th element
pub fits_remove : {M : Type 0} → {K : Type 0} → (key : M → K) (P : M → Type 0) (x : M) (ms : List M) (i : ℕ) → Fits key P ms → slice_get ms i ≡ Some x →
    P x × Apart key (key x) (remove ms i) × Fits key P (remove ms i)
fits_remove {M} {K} key P x ms i fits e = subst (λ (ns : List M). P x × Apart key (key x) ns × Fits key P ns) (sym (remove_is ms i)) (fits_take key P x ms i fits e)

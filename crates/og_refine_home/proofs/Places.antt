-- A home seen at one of its blocks, and with a block changed.
use Rattle.std.proofs.Common.{◌≡◌, ℕ, ◌+◌, ◌*◌, ◌/◌, ◌%◌, Bool, true, false, cond, nat_eq, ◌&&◌, arith, refl, sym, ap, ap₂, ◌∙◌}
use Rattle.std.proofs.lemmas.Bool.{eq-eqb}
use Rattle.std.proofs.lemmas.Bool.Decides.{nat_tests}
use Rattle.std.proofs.lemmas.Nat.{div-add-mod'}
use Rattle.og_base.specs.declared.Frame.{Frame}
use Rattle.og_line.specs.declared.Line.{Line}
use Rattle.og_line.specs.Line.{zero_line}
use Rattle.og_pages.specs.State.{put, put_pair}
use Rattle.og_directory.specs.declared.entry.State.{State}
use Rattle.og_home.specs.Home.{HomeState, with_block}
use Rattle.og_relate.specs.Data.{HUnowned, HomeSide}
use Rattle.og_relate.specs.Steps.{with_entry, with_block as with_seen_block}
use Rattle.og_seen.specs.Numbers.{Sizes, is_there, frame_number}
use Rattle.og_seen.specs.Homes.{entry_seen, is_at, home_seen}
use Rattle.og_seen.proofs.Numbers.{at_number}

-- sides of a home by their parts
pub same_side : (g h : HomeSide Line) → ((f k : ℕ) → g.entry f k ≡ h.entry f k) → ((f k : ℕ) → g.line f k ≡ h.line f k) → ((f : ℕ) → g.noticed f ≡ h.noticed f) → g ≡ h
same_side g h e l n = λ i. record { entry = λ f k. e f k i; line = λ f k. l f k i; noticed = λ f. n f i }

-- a value that is put where it stands
pub put_same : {A : Type 0} (f : ℕ → A) (a : ℕ) (x : A) → f a ≡ x → (b : ℕ) → put f a x b ≡ f b
put_same {A} f a x is b = by (nat_eq b a) refl
  where
    by : (t : Bool) → nat_eq b a ≡ t → cond t x (f b) ≡ f b
    by true e = sym is ∙ ap f (let d : a ≡ b = grind (arith, nat_tests) in d)
    by false e = refl

pub pair_same : {A : Type 0} (f : ℕ → ℕ → A) (a c : ℕ) (x : A) → f a c ≡ x → (b d : ℕ) → put_pair f a c x b d ≡ f b d
pair_same {A} f a c x is b d = by (nat_eq b a) (nat_eq d c) refl refl
  where
    by : (t u : Bool) → nat_eq b a ≡ t → nat_eq d c ≡ u → cond t (cond u x (f b d)) (f b d) ≡ f b d
    by true true e g = sym is ∙ ap₂ f (let z : a ≡ b = grind (arith, nat_tests) in z) (let z : c ≡ d = grind (arith, nat_tests) in z)
    by true false e g = refl
    by false u e g = refl

-- what is seen of a value that is written, where the test of the place (b) is that of its number (d) at the home's frames (a), and no other frame has
-- the number
pub written : {A B : Type 0} (see : A → B) (none : B) (new old : A) (a b c d : Bool) → (a ≡ true → b ≡ d) → (a ≡ false → d ≡ false) → cond a (see (cond (b && c) new old)) none ≡ cond d (cond c (see new) (cond a (see old) none)) (cond a (see old) none)
written see none new old true true true true here other = refl
written see none new old true true false true here other = refl
written see none new old true false c false here other = refl
written see none new old true true c false here other = absurd (let e = here refl in cc)
written see none new old true false c true here other = absurd (let e = here refl in cc)
written see none new old false b c false here other = refl
written see none new old false b c true here other = absurd (let e = other refl in cc)

-- and of one that is written for all blocks of a frame
pub written_frame : {A B : Type 0} (see : A → B) (none : B) (new old : A) (a b d : Bool) → (a ≡ true → b ≡ d) → (a ≡ false → d ≡ false) → cond a (see (cond b new old)) none ≡ cond d (see new) (cond a (see old) none)
written_frame see none new old true true true here other = refl
written_frame see none new old true false false here other = refl
written_frame see none new old true true false here other = absurd (let e = here refl in cc)
written_frame see none new old true false true here other = absurd (let e = here refl in cc)
written_frame see none new old false b false here other = refl
written_frame see none new old false b true here other = absurd (let e = other refl in cc)

-- the machine has the frame, and it is one of this home
pub record IsAt (s : Sizes) (x : HomeState) (frame : Frame) : Type 0 where
  pub there : is_there s frame ≡ true
  pub home : frame.home ≡ x.rules.home

module _ (s : Sizes) (x : HomeState) (frame : Frame) (own : IsAt s x frame) where
  -- the home and the index are those of the number
  pub home_is : frame_number s frame / s.frames ≡ x.rules.home
  home_is = ap (λ f. f.home) (at_number s frame own.there) ∙ own.home

  pub index_is : frame_number s frame % s.frames ≡ frame.index
  index_is = ap (λ f. f.index) (at_number s frame own.there)

  -- the number is one of the home's
  at_here : is_at s x (frame_number s frame) ≡ true
  at_here = eq-eqb _ _ home_is

  -- of the home's frames it has the index just where it has the number
  pub same_number : (g : ℕ) → is_at s x g ≡ true → nat_eq (g % s.frames) frame.index ≡ nat_eq g (frame_number s frame)
  same_number g t = by (nat_eq (g % s.frames) frame.index) (nat_eq g (frame_number s frame)) refl refl
    where
      by : (a b : Bool) → nat_eq (g % s.frames) frame.index ≡ a → nat_eq g (frame_number s frame) ≡ b → a ≡ b
      by true true d e = refl
      by false false d e = refl
      by false true d e = absurd (let same : g ≡ frame_number s frame = grind (arith, nat_tests) in let index : g % s.frames ≡ frame.index = ap (λ f. f % s.frames) same ∙ index_is in grind (arith, nat_tests))
      by true false d e = absurd (
          let index : g % s.frames ≡ frame_number s frame % s.frames = (let i : g % s.frames ≡ frame.index = grind (arith, nat_tests) in i ∙ sym index_is) in
          let home : g / s.frames ≡ frame_number s frame / s.frames = (let h : g / s.frames ≡ x.rules.home = grind (arith, nat_tests) in h ∙ sym home_is) in
          let same : g ≡ frame_number s frame = sym (div-add-mod' g s.frames) ∙ ap₂ (λ a b. a * s.frames + b) home index ∙ div-add-mod' (frame_number s frame) s.frames in
          grind (arith, nat_tests)
          )

  -- a frame of another home has another number
  pub other_number : (g : ℕ) → is_at s x g ≡ false → nat_eq g (frame_number s frame) ≡ false
  other_number g t = by (nat_eq g (frame_number s frame)) refl
    where
      by : (b : Bool) → nat_eq g (frame_number s frame) ≡ b → b ≡ false
      by false e = refl
      by true e = absurd (let same : g ≡ frame_number s frame = grind (arith, nat_tests) in let yes : is_at s x g ≡ true = ap (λ f. is_at s x f) same ∙ at_here in cc)

  -- ---- what is seen at its number

  pub entry_here : (k : ℕ) → (home_seen s x).entry (frame_number s frame) k ≡ entry_seen s.nodes (x.entry frame.index k)
  entry_here k = ap (λ t. cond t (entry_seen s.nodes (x.entry (frame_number s frame % s.frames) k)) HUnowned) at_here ∙ ap (λ i. entry_seen s.nodes (x.entry i k)) index_is

  pub line_here : (k : ℕ) → (home_seen s x).line (frame_number s frame) k ≡ x.line frame.index k
  line_here k = ap (λ t. cond t (x.line (frame_number s frame % s.frames) k) zero_line) at_here ∙ ap (λ i. x.line i k) index_is

  pub noticed_here : (home_seen s x).noticed (frame_number s frame) ≡ (x.counts frame.index).noticed
  noticed_here = ap (λ t. cond t (x.counts (frame_number s frame % s.frames)).noticed false) at_here ∙ ap (λ i. (x.counts i).noticed) index_is

  -- ---- a block of it is changed

  pub block_seen : (k : ℕ) (e : State) (l : Line) → home_seen s (with_block x frame.index k e l) ≡ with_seen_block (home_seen s x) (frame_number s frame) k (entry_seen s.nodes e) l
  block_seen k e l =
      same_side (home_seen s (with_block x frame.index k e l)) (with_seen_block (home_seen s x) (frame_number s frame) k (entry_seen s.nodes e) l)
      (λ g j. written (entry_seen s.nodes) HUnowned e (x.entry (g % s.frames) j) (is_at s x g) (nat_eq (g % s.frames) frame.index) (nat_eq j k) (nat_eq g (frame_number s frame)) (same_number g) (other_number g))
      (λ g j. written (λ (m : Line). m) zero_line l (x.line (g % s.frames) j) (is_at s x g) (nat_eq (g % s.frames) frame.index) (nat_eq j k) (nat_eq g (frame_number s frame)) (same_number g) (other_number g))
      (λ g. refl)

  -- its entry alone
  pub entry_alone_seen : (k : ℕ) (e : State) → home_seen s (with_block x frame.index k e (x.line frame.index k)) ≡ with_entry (home_seen s x) (frame_number s frame) k (entry_seen s.nodes e)
  entry_alone_seen k e =
      block_seen k e (x.line frame.index k)
      ∙ same_side (with_seen_block (home_seen s x) (frame_number s frame) k (entry_seen s.nodes e) (x.line frame.index k)) (with_entry (home_seen s x) (frame_number s frame) k (entry_seen s.nodes e))
      (λ g j. refl) (pair_same (home_seen s x).line (frame_number s frame) k (x.line frame.index k) (line_here k)) (λ g. refl)

  -- nothing of it
  pub nothing_seen : (k : ℕ) (e : State) → x.entry frame.index k ≡ e → home_seen s (with_block x frame.index k e (x.line frame.index k)) ≡ home_seen s x
  nothing_seen k e is =
      entry_alone_seen k e
      ∙ same_side (with_entry (home_seen s x) (frame_number s frame) k (entry_seen s.nodes e)) (home_seen s x)
      (pair_same (home_seen s x).entry (frame_number s frame) k (entry_seen s.nodes e) (entry_here k ∙ ap (entry_seen s.nodes) is)) (λ g j. refl) (λ g. refl)

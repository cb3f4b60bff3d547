-- What a page table of these sizes has of frames and of pages, by number; and its lists, seen as functions, after a change.
use Rattle.std.proofs.Common.{◌≡◌, ℕ, ◌+◌, ◌*◌, ◌/◌, ◌<◌, ◌||◌, ◌&&◌, not, Bool, true, false, cond, nat_eq, nat_cmp, List, length, get_or, Option, None, Some, unwrap_or, refl, sym, ap, ◌∙◌, subst, arith}
use Rattle.std.specs.List.{position}
use Rattle.std.specs.FinSet as set
use Rattle.std.specs.Cmp.{nat_cmp_total, unsigned_tied}
use Rattle.std.proofs.Math.ListN.{set as set_at}
use Rattle.std.proofs.lemmas.List.{get_or-set_same, get_or-set_other}
use Rattle.std.proofs.lemmas.Bool.Decides.{nat_tests}
use Rattle.og_base.specs.declared.Frame.{Frame}
use Rattle.og_base.specs.declared.VPage.{VPage}
use Rattle.og_block.specs.State.{put}
use Rattle.og_pages.specs.State.{put_pair}
use Rattle.og_pager.specs.declared.Role.TheVariants.{Free}
use Rattle.og_pager.specs.PageTable.{PageTable, IsPageTable, IsFrame, frame_number as number_in, number_of, role_of, holders_of, dropped}
use Rattle.og_pager.proofs.Kept.{kept_dropped}
use Rattle.og_mover.specs.Table.{MoverState}
use Rattle.og_seen.specs.Numbers.{Sizes, is_there, frame_number, frame_at, page_number}
use Rattle.og_seen.specs.Sound.{IsMoverOf}
use Rattle.og_seen.proofs.Numbers.{there, numbered, number_below, at_number}

-- a page table of these sizes
pub record IsTableOf (s : Sizes) (t : PageTable) : Type 0 where
  pub sound : IsPageTable t
  pub nodes : t.nodes ≡ s.nodes
  pub frames : t.frames ≡ s.frames
  pub pages : t.pages ≡ s.pages

-- the page table of such a mover is one
pub table_of : (s : Sizes) (m : MoverState) → IsMoverOf s m → IsTableOf s m.pages
table_of s m is = record { sound = is.sound.pages; nodes = is.nodes; frames = is.frames; pages = is.pages }

-- after a drop it has these sizes still
pub dropped_table : (s : Sizes) (t : PageTable) → IsTableOf s t → (frame : Frame) (node : ℕ) → IsTableOf s (dropped t frame node)
unfolding dropped
dropped_table s t is frame node = record { sound = kept_dropped t is.sound frame node; nodes = is.nodes; frames = is.frames; pages = is.pages }

-- ------------------------------------------------------------ frames

-- the home of a frame that is there, by its number
pub home_of : (s : Sizes) (frame : Frame) → is_there s frame ≡ true → frame_number s frame / s.frames ≡ frame.home
home_of s frame h = ap (λ (f : Frame). f.home) (at_number s frame h)

-- frames that are there and have one number are one frame
pub same_frame : (s : Sizes) (f g : Frame) → is_there s f ≡ true → is_there s g ≡ true → frame_number s f ≡ frame_number s g → f ≡ g
same_frame s f g a b e = sym (at_number s f a) ∙ ap (frame_at s) e ∙ at_number s g b

module _ (s : Sizes) (t : PageTable) (is : IsTableOf s t) where
  -- a frame of the page table is there, and the other way round
  pub is_there_in : (frame : Frame) → IsFrame t frame → is_there s frame ≡ true
  is_there_in frame f = let a : frame.home < s.nodes = subst (λ (n : ℕ). frame.home < n) is.nodes f.0 in let b : frame.index < s.frames = subst (λ (n : ℕ). frame.index < n) is.frames f.1 in grind (arith, nat_tests)

  pub is_frame : (frame : Frame) → is_there s frame ≡ true → IsFrame t frame
  is_frame frame h = let a = there s frame h in (subst (λ (n : ℕ). frame.home < n) (sym is.nodes) a.0, subst (λ (n : ℕ). frame.index < n) (sym is.frames) a.1)

  -- it has one number in both
  pub number_is : (frame : Frame) → is_there s frame ≡ true → frame_number s frame ≡ number_in t frame
  number_is frame h = numbered s frame h ∙ ap (λ n. frame.home * n + frame.index) (sym is.frames)

  -- it has its place in the lists of the page table
  pub in_roles : (frame : Frame) → is_there s frame ≡ true → frame_number s frame < length t.roles
  in_roles frame h = let a : frame_number s frame < s.nodes * s.frames = number_below s frame h in let b : length t.roles ≡ t.nodes * t.frames = is.sound.sized.all_roles in let c = is.nodes in let d = is.frames in subst (λ (n : ℕ). frame_number s frame < n) (sym (b ∙ ap (λ n. n * t.frames) c ∙ ap (λ n. s.nodes * n) d)) a

  pub in_holders : (frame : Frame) → is_there s frame ≡ true → frame_number s frame < length t.holders
  in_holders frame h = subst (λ (n : ℕ). frame_number s frame < n) (is.sound.sized.all_roles ∙ sym is.sound.sized.all_holders) (in_roles frame h)

  -- what a frame is for, and who was told of it
  pub role_at : (frame : Frame) → is_there s frame ≡ true → get_or t.roles (frame_number s frame) Free ≡ role_of t frame
  role_at frame h = ap (λ k. get_or t.roles k Free) (number_is frame h)

  pub holders_at : (frame : Frame) → is_there s frame ≡ true → get_or t.holders (frame_number s frame) set.empty ≡ holders_of t frame
  unfolding holders_of
  holders_at frame h = ap (λ k. get_or t.holders k set.empty) (number_is frame h)

  -- ------------------------------------------------------------ pages

  -- a page has one number in both
  pub page_is : (page : VPage) (i : ℕ) → number_of t page ≡ Some i → page_number s page ≡ i
  page_is page i e = ap (λ o. unwrap_or o (length s.pages)) (ap (position (nat_eq page.0)) (sym is.pages) ∙ e)

  -- and a page that is placed has it
  pub page_placed : (page : VPage) → page_number s page < length s.pages → number_of t page ≡ Some (page_number s page)
  page_placed page lt = ap (position (nat_eq page.0)) is.pages ∙ by (position (nat_eq page.0) s.pages) lt
    where
      by : (o : Option ℕ) → unwrap_or o (length s.pages) < length s.pages → o ≡ Some (unwrap_or o (length s.pages))
      by None lt = absurd (omega arith)
      by (Some i) lt = refl

-- ------------------------------------------------------------ a list as a function, after a change at a place

-- functions that agree everywhere are one
pub same_functions : {A : Type 0} → (f g : ℕ → A) → ((a : ℕ) → f a ≡ g a) → f ≡ g
same_functions f g h = λ i. λ a. h a i

-- a changed place is seen as a changed value
pub put_seen : {A B : Type 0} → (F : A → B) (xs : List A) (k : ℕ) (x d : A) → k < length xs → (λ f. F (get_or (set_at xs k x) f d)) ≡ put (λ f. F (get_or xs f d)) k (F x)
put_seen F xs k x d lt = same_functions (λ f. F (get_or (set_at xs k x) f d)) (put (λ f. F (get_or xs f d)) k (F x)) (λ f. by f (nat_eq f k) refl)
  where
    by : (f : ℕ) (b : Bool) → nat_eq f k ≡ b → F (get_or (set_at xs k x) f d) ≡ cond b (F x) (F (get_or xs f d))
    by f true e = let same : f ≡ k = grind (arith, nat_tests) in ap (λ j. F (get_or (set_at xs k x) j d)) same ∙ ap F (get_or-set_same xs k x d lt)
    by f false e = ap F (get_or-set_other xs k f x d (λ same. absurd (grind (arith, nat_tests))))

-- ------------------------------------------------------------ holders

-- a set with one member more, or less
pub member_put : (h : set.FinSet nat_cmp) (p q : ℕ) → set.contains (set.insert h p) q ≡ cond (nat_eq q p) true (set.contains h q)
member_put h p q = set.contains-insert nat_cmp_total h p q ∙ ap (λ b. b || set.contains h q) (unsigned_tied q p) ∙ by (nat_eq q p)
  where
    by : (b : Bool) → (b || set.contains h q) ≡ cond b true (set.contains h q)
    by true = refl
    by false = refl

pub member_left : (h : set.FinSet nat_cmp) (p q : ℕ) → set.contains (set.remove h p) q ≡ cond (nat_eq q p) false (set.contains h q)
member_left h p q = set.contains-remove nat_cmp_total h p q ∙ ap (λ b. not b && set.contains h q) (unsigned_tied q p) ∙ by (nat_eq q p)
  where
    by : (b : Bool) → (not b && set.contains h q) ≡ cond b false (set.contains h q)
    by true = refl
    by false = refl

-- the holders of all frames, after those of one frame have changed by one node
pub holders_put : (xs : List (set.FinSet nat_cmp)) (k p : ℕ) (x : set.FinSet nat_cmp) (v : Bool) → k < length xs → ((q : ℕ) → set.contains x q ≡ cond (nat_eq q p) v (set.contains (get_or xs k set.empty) q)) →
    (λ f q. set.contains (get_or (set_at xs k x) f set.empty) q) ≡ put_pair (λ f q. set.contains (get_or xs f set.empty) q) k p v
holders_put xs k p x v lt same = put_seen (λ h q. set.contains h q) xs k x set.empty lt ∙ same_functions (put (λ f q. set.contains (get_or xs f set.empty) q) k (set.contains x)) (put_pair (λ f q. set.contains (get_or xs f set.empty) q) k p v) (λ f. λ i. λ q. by f q (nat_eq f k) refl i)
  where
    by : (f q : ℕ) (b : Bool) → nat_eq f k ≡ b → cond {A = ℕ → Bool} b (λ r. set.contains x r) (λ r. set.contains (get_or xs f set.empty) r) q ≡ cond b (cond (nat_eq q p) v (set.contains (get_or xs f set.empty) q)) (set.contains (get_or xs f set.empty) q)
    by f q true e = let here : f ≡ k = grind (arith, nat_tests) in same q ∙ ap (λ j. cond (nat_eq q p) v (set.contains (get_or xs j set.empty) q)) (sym here)
    by f q false e = refl

-- A home serves the mover's commands: a copy comes in, and a frame is cleaned.
use Rattle.std.proofs.Common.{◌≡◌, ℕ, ◌+◌, ◌<◌, Bool, true, false, cond, nat_eq, arith, ◌≢◌, inl, inr, refl, sym, subst, List, [], ◌∷◌, ◌++◌}
use Rattle.std.proofs.lemmas.Bool.{cases_Bool}
use Rattle.std.proofs.lemmas.Bool.Decides.{nat_tests}
use Rattle.og_block.specs.State.{put, Entry, Unowned}
use Rattle.og_block.specs.Rows.{Row as BlockRow, guard as block_guard, Copy_in}
use Rattle.og_pages.specs.State.{Cleaning}
use Rattle.og_pages.specs.Rows.{Clean_serve}
use Rattle.og_pages.specs.State.{State as Pages}
use Rattle.og_whole.specs.Events.{World, Event, Page, On, guard, apply}
use Rattle.og_whole.specs.HomeEntry.{home_entry_at, home_entry, is_blank_in}
use Rattle.og_whole.specs.Link.{Invariant}
use Rattle.og_whole.proofs.Runs.{reached}
use Rattle.og_whole.proofs.Served.{copy_ready}
use Rattle.og_whole.proofs.HomeEntries.{clean_leaves}
use Rattle.og_whole.proofs.Linked.{here_is}
use Rattle.og_whole.proofs.Worlds.{cleaning_keeps}
use Rattle.og_relate.specs.Data.{KCopyIn, KCopyDone, KCleanFrame, KFrameClean, Post, Setup, IsSetup, Cpu, Mover, HomeSide, HomeEntry, HUnowned, Harts}
use Rattle.og_relate.specs.Places.{Place, CommandAt}
use Rattle.og_relate.specs.Sides.{owns}
use Rattle.og_relate.specs.Sim.{Sim, HomeShows, EntryShows, IsReached}
use Rattle.og_relate.specs.Owes.{changes}
use Rattle.og_relate.specs.Goes.{Goes}
use Rattle.og_relate.specs.Steps.{cleaned, letter, with_block}
use Rattle.og_relate.proofs.Rows.{home_row_of, reached_on, node_shows, mover_shows, home_shows}
use Rattle.og_relate.proofs.Messages.{rest_one, messages_go}
use Rattle.og_relate.proofs.Home.{block_here, one, entry_shown}
use Rattle.og_relate.proofs.Parts.{self_number}

module _ {L : Type 0} where
  changed_copy : (n page old f k : ℕ) (v : L) (s : Pages L) (e : Event L) → e ≡ On page old f k (Copy_in n v) → (x : Place) → changes s e x ≡ true → x ≡ CommandAt
  changed_copy n page old f k v s e is x o = grind (arith, nat_tests)

  changed_clean : (f : ℕ) (s : Pages L) (e : Event L) → e ≡ Page (Clean_serve f) → (x : Place) → changes s e x ≡ true → x ≡ CommandAt
  changed_clean f s e is x o = grind (arith, nat_tests)

  owned_copy : (n page old f k : ℕ) (v : L) (e : Event L) → e ≡ On page old f k (Copy_in n v) → (x : Place) → owns e x ≡ true → x ≡ CommandAt
  owned_copy n page old f k v e is x o = grind (arith, nat_tests)

module _ {L : Type 0} {H : Type 0} where
  pub copy_served : (s : Setup) (harts : Harts L H) (cpu : ℕ → Cpu L H) (home : ℕ → HomeSide L) (mover : Mover L) (w : World L) (f k : ℕ) (v : L) (ms : List (Post L)) → IsSetup s →
      Sim s harts (record { cpu = cpu; home = home; mover = mover; flight = letter s.nodes (s.home f) (KCopyIn f k v) ∷ ms }) w →
      Goes s harts (record { cpu = cpu; home = put home (s.home f) (with_block (home (s.home f)) f k HUnowned v); mover = mover; flight = ms ++ letter (s.home f) s.nodes (KCopyDone f k) ∷ [] }) w
  copy_served s harts cpu home mover w f k v ms setup sim =
      let pl = sim.flight.0.0 in
      let lf : f < s.frames = pl.1.2 in
      let lk : k < s.blocks = pl.1.3 in
      let page : ℕ = pl.2.0 in
      let old : ℕ = pl.2.1 in
      let inv : Invariant L (s.nodes + 1) s.nodes s.pages s.blocks w = reached (s.nodes + 1) s.nodes s.pages s.blocks w sim.reached in
      let ln : s.nodes < s.nodes + 1 = omega arith in
      let row : BlockRow L = Copy_in s.nodes v in
      let e : Event L = On page old f k row in
      let z : World L = apply (s.nodes + 1) s.nodes e w in
      let bg : block_guard row (w.block f k) = copy_ready (s.nodes + 1) s.nodes s.pages s.blocks w page old f k v inv ln lk pl.2.2 pl.0.0 in
      let gd : guard (s.nodes + 1) s.nodes s.pages s.blocks e w = (bg, ln, lk, (refl, pl.2.2, pl.0.0)) in
      let zb = block_here (s.nodes + 1) s.nodes page old f k row w in
      let sh = sim.homes f k lf lk in
      let ze : home_entry_at z f k ≡ Unowned = (let a : home_entry_at z f k ≡ home_entry (is_blank_in z.pages f) Unowned = cc in let b = entry_shown (is_blank_in z.pages f) Unowned (λ q x. absurd (cc)) in cc) in
      let own : HomeShows s.nodes f k (with_block (home (s.home f)) f k HUnowned v) z = record {
        entry = subst (λ (u : HomeEntry). EntryShows s.nodes u (home_entry_at z f k)) (sym (here_is f k HUnowned ((home (s.home f)).entry f k))) ze;
        line = (let a = here_is f k v ((home (s.home f)).line f k) in cc);
        noticed = sh.noticed;
      } in
      one s harts _ w e refl gd (home_row_of s harts cpu home mover w page old f k row (letter s.nodes (s.home f) (KCopyIn f k v)) (with_block (home (s.home f)) f k HUnowned v) ms (letter (s.home f) s.nodes (KCopyDone f k) ∷ []) sim gd refl (inr refl) refl (owned_copy s.nodes page old f k v e refl) refl own (λ g j ne. (grind (arith, nat_tests), grind (arith, nat_tests))) (λ g. refl)
      (((((refl, λ x. absurd (cc)), (refl, refl, lf, lk), (page, old, pl.2.2)), refl), tt, tt), λ x i c st. inl (sym (changed_copy s.nodes page old f k v w.pages e refl x c))))

  pub frame_cleaned : (s : Setup) (harts : Harts L H) (cpu : ℕ → Cpu L H) (home : ℕ → HomeSide L) (mover : Mover L) (w : World L) (f : ℕ) (ms : List (Post L)) →
      Sim s harts (record { cpu = cpu; home = home; mover = mover; flight = letter s.nodes (s.home f) (KCleanFrame f) ∷ ms }) w →
      Goes s harts (record { cpu = cpu; home = put home (s.home f) (cleaned (home (s.home f)) f); mover = mover; flight = ms ++ letter (s.home f) s.nodes (KFrameClean f) ∷ [] }) w
  frame_cleaned s harts cpu home mover w f ms sim =
      let pl = sim.flight.0.0 in
      let ff = self_number f in
      let gd : guard (s.nodes + 1) s.nodes s.pages s.blocks (Page (Clean_serve f)) w = ((pl.2, pl.0.0), refl) in
      go gd pl.2
    where
      e : Event L
      e = Page (Clean_serve f)

      z : World L
      z = apply (s.nodes + 1) s.nodes e w

      go : guard (s.nodes + 1) s.nodes s.pages s.blocks (Page (Clean_serve f)) w → w.pages.job ≡ Cleaning f → Goes s harts (record { cpu = cpu; home = put home (s.home f) (cleaned (home (s.home f)) f); mover = mover; flight = ms ++ letter (s.home f) s.nodes (KFrameClean f) ∷ [] }) w
      go gd jb =
          let rz : IsReached s z = reached_on s w e sim.reached gd in
          let fl = sim.flight in
          let ms_go = messages_go s cpu cpu mover mover w e (letter s.nodes (s.home f) (KCleanFrame f) ∷ ms) ms (letter (s.home f) s.nodes (KFrameClean f) ∷ []) gd sim.reached sim.keeps sim.found
          (λ y. elim (cases_Bool (owns e y)) [ inl t ↦ inl ((let v : y ≡ CommandAt = grind arith in cc), t) | inr t ↦ inr (refl, t) ])
          (rest_one s cpu mover w e (letter s.nodes (s.home f) (KCleanFrame f)) ms fl (λ y o. grind arith) refl)
          (((((refl, λ x. absurd (cc)), (refl, refl, fl.0.0.1.2), jb), refl), tt, tt), λ x i c st. inl (sym (changed_clean f w.pages e refl x c))) in
          one s harts _ w e refl gd (record {
            reached = rz;
            nodes = λ q lq. node_shows harts q (cpu q) w z (record { copy = λ a b. refl; want = λ a b. refl; acks = λ a b. refl; victim = λ a b. refl; request = refl; slot = refl; tlb = λ y. refl; walk = refl }) (sim.nodes q lq);
            tidy = sim.tidy;
            homes = λ g j lg lj. at g j lg lj gd rz jb (nat_eq g f) refl (nat_eq (s.home g) (s.home f)) refl;
            mover = mover_shows s mover w z (record { job = refl; want = λ a b. refl; acks = λ a b. refl; page_table = λ y. refl; holders = λ a b. refl; role = refl; sharing = λ a b. refl }) sim.mover;
            bounds = sim.bounds;
            keeps = ms_go.0;
            flight = ms_go.1;
            found = ms_go.2;
          })
        where
          at : (g j : ℕ) → g < s.frames → j < s.blocks → guard (s.nodes + 1) s.nodes s.pages s.blocks e w → IsReached s z → w.pages.job ≡ Cleaning f → (t : Bool) → nat_eq g f ≡ t → (u : Bool) → nat_eq (s.home g) (s.home f) ≡ u → HomeShows s.nodes g j (cond u (cleaned (home (s.home f)) f) (home (s.home g))) z
          at g j lg lj gd rz jb true et true eu =
              let x = sim.homes g j lg lj in
              let eg : g ≡ f = grind (arith, nat_tests) in
              let c = clean_leaves (s.nodes + 1) s.nodes s.pages s.blocks z f j (reached (s.nodes + 1) s.nodes s.pages s.blocks z rz) lj jb refl in
              let cg : home_entry_at z g j ≡ Unowned = cc in
              let un : (cleaned (home (s.home f)) f).entry g j ≡ HUnowned = grind arith in
              record { entry = subst (λ (v : HomeEntry). EntryShows s.nodes v (home_entry_at z g j)) (sym un) cg; line = (let y = x.line in cc); noticed = grind (arith, nat_tests) }
          at g j lg lj gd rz jb true et false eu = absurd (let eg : g ≡ f = grind (arith, nat_tests) in let sn = self_number (s.home f) in cc)
          at g j lg lj gd rz jb false et true eu =
              let x = sim.homes g j lg lj in
              let es : s.home g ≡ s.home f = grind (arith, nat_tests) in
              let ne : g ≢ f = grind (arith, nat_tests) in
              let c = cleaning_keeps (s.nodes + 1) s.nodes s.pages s.blocks w f g j gd ne in
              let same : (home (s.home g)).entry g j ≡ (cleaned (home (s.home f)) f).entry g j = grind arith in
              record { entry = subst (λ (v : HomeEntry). EntryShows s.nodes v (home_entry_at z g j)) same (subst (λ (v : Entry). EntryShows s.nodes ((home (s.home g)).entry g j) v) (sym c) x.entry); line = (let y = x.line in cc); noticed = (let y = x.noticed in grind arith) }
          at g j lg lj gd rz jb false et false eu =
              let x = sim.homes g j lg lj in
              let ne : g ≢ f = grind (arith, nat_tests) in
              let c = cleaning_keeps (s.nodes + 1) s.nodes s.pages s.blocks w f g j gd ne in
              home_shows s.nodes g j (home (s.home g)) w z (record { entry = c; line = refl; noticed = grind arith }) x

-- What a row of the mover owes.
use Rattle.std.proofs.Common.{◌≡◌, ℕ, ◌+◌, ◌<◌, Bool, true, false, nat_eq, arith, inl, inr, refl, List, ◌++◌, None}
use Rattle.std.proofs.lemmas.Bool.Decides.{nat_tests}
use Rattle.og_pages.specs.Rows.{Row as PageRow}
use Rattle.og_whole.specs.HomeEntry.{home_entry_at, cleans}
use Rattle.og_whole.specs.Events.{World, Event, Page, guard, apply}
use Rattle.og_whole.proofs.Runs.{reached}
use Rattle.og_whole.proofs.PageRows.{page_entry}
use Rattle.og_relate.specs.Data.{Post, Setup, Cpu, Mover, HomeSide, Harts}
use Rattle.og_relate.specs.Places.{Place, AskAt, ResponseAt, InterventionAt, DropAt, kept, kept_collect}
use Rattle.og_relate.specs.Sides.{owns, HomeSame}
use Rattle.og_relate.specs.Sim.{Sim, IsReached, Nodes, MoverShows, MoverTidy}
use Rattle.og_relate.specs.Goes.{FewerAt, Fewer}
use Rattle.og_relate.specs.Owes.{Letters, Rest}
use Rattle.og_relate.proofs.Fewer.{fewer_none}
use Rattle.og_relate.proofs.Messages.{messages_go}
use Rattle.og_relate.proofs.Rows.{reached_on, home_shows}

module _ {L : Type 0} where
  -- a row of the page layer leaves the entries at the homes
  pub entry_stays : (s : Setup) (w : World L) (row : PageRow L) (f k : ℕ) → IsReached s w → guard (s.nodes + 1) s.nodes s.pages s.blocks (Page row) w → cleans row ≡ false → k < s.blocks → home_entry_at (apply (s.nodes + 1) s.nodes (Page row) w) f k ≡ home_entry_at w f k
  entry_stays s w row f k r may not_cleans lt =
      let inv = reached (s.nodes + 1) s.nodes s.pages s.blocks w r in
      let l = inv.link f k lt in
      page_entry s.pages s.blocks s.nodes w.pages f k (w.block f k) row may.0 inv.of_pages lt may.1 l.phase_is l.parts.mover.4 not_cleans

module _ {L : Type 0} {H : Type 0} where
  pub mover_event : (s : Setup) (harts : Harts L H) (cpu : ℕ → Cpu L H) (home : ℕ → HomeSide L) (mover : Mover L) (flight : List (Post L)) (w : World L) (e : Event L) (m : Mover L) (ms ls : List (Post L)) →
      Sim s harts (record { cpu = cpu; home = home; mover = mover; flight = flight }) w → guard (s.nodes + 1) s.nodes s.pages s.blocks e w →
      Nodes s harts cpu (apply (s.nodes + 1) s.nodes e w) → ((f k : ℕ) → k < s.blocks → HomeSame f k w (apply (s.nodes + 1) s.nodes e w)) → MoverShows s m (apply (s.nodes + 1) s.nodes e w) → MoverTidy s m →
      Fewer (kept s.nodes cpu m) (kept s.nodes cpu mover) (owns e) →
      Rest s cpu mover w e flight ms →
      Letters s w e ls →
      Sim s harts (record { cpu = cpu; home = home; mover = m; flight = ms ++ ls }) (apply (s.nodes + 1) s.nodes e w)
  mover_event s harts cpu home mover flight w e m ms ls sim gd ns hs mv td fewer fms fls =
      let z : World L = apply (s.nodes + 1) s.nodes e w in
      let go = messages_go s cpu cpu mover m w e flight ms ls gd sim.reached sim.keeps sim.found fewer fms fls in
      record {
        reached = reached_on s w e sim.reached gd;
        nodes = ns;
        tidy = sim.tidy;
        homes = λ f k lf lk. home_shows s.nodes f k (home (s.home f)) w z (hs f k lk) (sim.homes f k lf lk);
        mover = mv;
        bounds = td;
        keeps = go.0;
        flight = go.1;
        found = go.2;
      }

  -- what the mover keeps, where its job has no part of a reply before and after: the event takes from no place where a node keeps
  -- something
  pub keeps_none : (n : ℕ) (cpu : ℕ → Cpu L H) (mover m : Mover L) (owned : Place → Bool) → ((f k q : ℕ) → owned (ResponseAt f k q) ≡ true → q ≡ n) → ((f k q : ℕ) → owned (InterventionAt f k q) ≡ false) → ((q : ℕ) → owned (DropAt q) ≡ false) → ((f k q : ℕ) → owned (AskAt f k q) ≡ true → q ≡ n) →
      ((f k : ℕ) → kept_collect f k n mover.job ≡ None) → ((f k : ℕ) → kept_collect f k n m.job ≡ None) → Fewer (kept n cpu m) (kept n cpu mover) owned
  keeps_none n cpu mover m owned or oi od oa before after = by
    where
      ask : (f k q : ℕ) (t : Bool) → nat_eq q n ≡ t → (o : Bool) → owned (AskAt f k q) ≡ o → FewerAt (kept n cpu m (AskAt f k q)) (kept n cpu mover (AskAt f k q)) o
      ask f k q true e true w = let a = after f k in let same : q ≡ n = grind (arith, nat_tests) in inl ((cc), refl)
      ask f k q true e false w = let a = after f k in let b = before f k in let same : q ≡ n = grind (arith, nat_tests) in inr ((cc), refl)
      ask f k q false e true w = absurd (let same = oa f k q w in grind (arith, nat_tests))
      ask f k q false e false w = inr ((cc), refl)

      answer : (f k q : ℕ) (o : Bool) → owned (ResponseAt f k q) ≡ o → FewerAt (kept n cpu m (ResponseAt f k q)) (kept n cpu mover (ResponseAt f k q)) o
      answer f k q true w = let same : nat_eq q n ≡ true = (let a = or f k q w in grind (arith, nat_tests)) in inl ((cc), refl)
      answer f k q false w = inr (refl, refl)

      by : (x : Place) → FewerAt (kept n cpu m x) (kept n cpu mover x) (owned x)
      by (AskAt f k q) = ask f k q (nat_eq q n) refl (owned (AskAt f k q)) refl
      by (ResponseAt f k q) = answer f k q (owned (ResponseAt f k q)) refl
      by (InterventionAt f k q) = inr (refl, oi f k q)
      by (DropAt q) = inr (refl, od q)
      by x = fewer_none (owned x)

-- What each row of a home, and each row of a node, owes to keep the simulation: the rest is the same for all.
use Rattle.std.proofs.Common.{◌≡◌, ℕ, ◌+◌, ◌<◌, Bool, true, false, cond, nat_eq, arith, ◌⊎◌, inl, inr, refl, sym, subst, List, [], ◌∷◌, ◌++◌, None}
use Rattle.std.proofs.lemmas.Bool.{cases_Bool}
use Rattle.std.proofs.lemmas.Bool.Decides.{nat_tests}
use Rattle.og_block.specs.State.{put}
use Rattle.og_block.specs.Rows.{Row as BlockRow, actor_of}
use Rattle.og_pages.specs.State.{Walk}
use Rattle.og_whole.specs.Kind.{kind, Inner}
use Rattle.og_whole.specs.Events.{World, Event, On, guard, apply}
use Rattle.og_whole.specs.HomeEntry.{home_entry_at}
use Rattle.og_whole.proofs.Runs.{goes_on}
use Rattle.og_relate.specs.Data.{Post, Setup, Cpu, Mover, HomeSide, HomeEntry, Harts}
use Rattle.og_relate.specs.Places.{Place, slot_of, kept}
use Rattle.og_relate.specs.Sides.{here, owns, is_home, column_of, is_mover_kind, NodeSame, HomeSame, MoverSame}
use Rattle.og_relate.specs.Sim.{Sim, IsReached, NodeShows, HomeShows, MoverShows, EntryShows, WalkShows, Nodes, Tidy}
use Rattle.og_relate.specs.Goes.{Fewer}
use Rattle.og_relate.specs.Owes.{Letters, Rest}
use Rattle.og_relate.proofs.Frames.{node_same, mover_same, home_same, home_other}
use Rattle.og_relate.proofs.Messages.{rest_one, messages_go}

module _ {L : Type 0} where
  pub reached_on : (s : Setup) (w : World L) (e : Event L) → IsReached s w → guard (s.nodes + 1) s.nodes s.pages s.blocks e w → IsReached s (apply (s.nodes + 1) s.nodes e w)
  reached_on s w e re gd = goes_on (s.nodes + 1) s.nodes s.pages s.blocks w (apply (s.nodes + 1) s.nodes e w) (e ∷ []) re (gd, refl)

  pub home_shows : (n f k : ℕ) (h : HomeSide L) (w z : World L) → HomeSame f k w z → HomeShows n f k h w → HomeShows n f k h z
  home_shows n f k h w z c x = record { entry = subst (λ e. EntryShows n (h.entry f k) e) (sym c.entry) x.entry; line = (let a = c.line in let b = x.line in cc); noticed = (let a = c.noticed in let b = x.noticed in cc) }

  pub mover_shows : (s : Setup) (m : Mover L) (w z : World L) → MoverSame s.nodes w z → MoverShows s m w → MoverShows s m z
  mover_shows s m w z c x = record {
    job = (let a = c.job in let b = x.job in cc);
    want = λ f k. (let a = c.want f k in let b = x.want f k in cc);
    acks = λ f k. (let a = c.acks f k in let b = x.acks f k in cc);
    page_table = λ y lt. (let a = c.page_table y in let b = x.page_table y lt in cc);
    holders = λ f q. (let a = c.holders f q in let b = x.holders f q in cc);
    role = λ f. (let a = c.role in let b = x.role f in cc);
    sharing = λ f k. (let a = c.sharing f k in let b = x.sharing f k in cc);
    holder_is = x.holder_is;
  }

  -- the home's side with another entry and line at one block
  same_home : (n : ℕ) (f k : ℕ) (a b : HomeSide L) (w : World L) → a.entry f k ≡ b.entry f k → a.line f k ≡ b.line f k → a.noticed f ≡ b.noticed f → HomeShows n f k a w → HomeShows n f k b w
  same_home n f k a b w e l o x = record { entry = subst (λ (u : HomeEntry). EntryShows n u (home_entry_at w f k)) e x.entry; line = (let y = x.line in cc); noticed = (let y = x.noticed in cc) }

module _ {L : Type 0} {H : Type 0} where
  pub node_shows : (harts : Harts L H) (q : ℕ) (c : Cpu L H) (w z : World L) → NodeSame q w z → NodeShows harts q c w → NodeShows harts q c z
  node_shows harts q c w z d x = record {
    copy = λ f k. (let a = d.copy f k in let b = x.copy f k in cc);
    want = λ f k. (let a = d.want f k in let b = x.want f k in cc);
    acks = λ f k. (let a = d.acks f k in let b = x.acks f k in cc);
    victim = λ f k. (let a = d.victim f k in let b = x.victim f k in cc);
    request = (let a = d.request in let b = x.request in cc);
    slot = (let a = d.slot in let b = x.slot in cc);
    tlb = λ y. (let a = d.tlb y in let b = x.tlb y in cc);
    walk = subst (λ (u : Walk). WalkShows c.walk u) (sym d.walk) x.walk;
  }

  nodes_put : (s : Setup) (harts : Harts L H) (cpu : ℕ → Cpu L H) (p : ℕ) (c : Cpu L H) (w z : World L) → Nodes s harts cpu w → ((q : ℕ) → nat_eq q p ≡ false → NodeSame q w z) → NodeShows harts p c z → Nodes s harts (put cpu p c) z
  nodes_put s harts cpu p c w z nodes others own q lt = at (nat_eq q p) refl
    where
      at : (t : Bool) → nat_eq q p ≡ t → NodeShows harts q (cond t c (cpu q)) z
      at true e = let same : p ≡ q = grind (arith, nat_tests) in subst (λ (x : ℕ). NodeShows harts x c z) same own
      at false e = node_shows harts q (cpu q) w z (others q e) (nodes q lt)

  pub tidy_put : (s : Setup) (cpu : ℕ → Cpu L H) (p : ℕ) (c : Cpu L H) → ((q : ℕ) → q < s.nodes → Tidy s (cpu q)) → Tidy s c → (q : ℕ) → q < s.nodes → Tidy s (put cpu p c q)
  tidy_put s cpu p c t own q lt = at (nat_eq q p)
    where
      at : (b : Bool) → Tidy s (cond b c (cpu q))
      at true = own
      at false = t q lt

  -- ---- an event that changes one node

  pub cpu_row : (s : Setup) (harts : Harts L H) (cpu : ℕ → Cpu L H) (home : ℕ → HomeSide L) (mover : Mover L) (flight : List (Post L)) (w : World L) (e : Event L) (p : ℕ) (c : Cpu L H) (ms ls : List (Post L)) →
      Sim s harts (record { cpu = cpu; home = home; mover = mover; flight = flight }) w → guard (s.nodes + 1) s.nodes s.pages s.blocks e w →
      ((q : ℕ) → nat_eq q p ≡ false → NodeSame q w (apply (s.nodes + 1) s.nodes e w)) → ((f k : ℕ) → HomeSame f k w (apply (s.nodes + 1) s.nodes e w)) → MoverSame s.nodes w (apply (s.nodes + 1) s.nodes e w) →
      NodeShows harts p c (apply (s.nodes + 1) s.nodes e w) → Tidy s c →
      Fewer (kept s.nodes (put cpu p c) mover) (kept s.nodes cpu mover) (owns e) →
      Rest s cpu mover w e flight ms →
      Letters s w e ls →
      Sim s harts (record { cpu = put cpu p c; home = home; mover = mover; flight = ms ++ ls }) (apply (s.nodes + 1) s.nodes e w)
  cpu_row s harts cpu home mover flight w e p c ms ls sim gd ns hs mv own td fewer fms fls =
      let z : World L = apply (s.nodes + 1) s.nodes e w in
      let go = messages_go s cpu (put cpu p c) mover mover w e flight ms ls gd sim.reached sim.keeps sim.found fewer fms fls in
      record {
        reached = reached_on s w e sim.reached gd;
        nodes = nodes_put s harts cpu p c w z sim.nodes ns own;
        tidy = tidy_put s cpu p c sim.tidy td;
        homes = λ f k lf lk. home_shows s.nodes f k (home (s.home f)) w z (hs f k) (sim.homes f k lf lk);
        mover = mover_shows s mover w z mv sim.mover;
        bounds = sim.bounds;
        keeps = go.0;
        flight = go.1;
        found = go.2;
      }

  -- ---- a row of a block that is a node's

  pub node_row : (s : Setup) (harts : Harts L H) (cpu : ℕ → Cpu L H) (home : ℕ → HomeSide L) (mover : Mover L) (flight : List (Post L)) (w : World L) (page other f k : ℕ) (r : BlockRow L) (p : ℕ) (c : Cpu L H) (ms ls : List (Post L)) →
      Sim s harts (record { cpu = cpu; home = home; mover = mover; flight = flight }) w → guard (s.nodes + 1) s.nodes s.pages s.blocks (On page other f k r) w →
      is_home r ≡ false → column_of r ≡ p → p < s.nodes → (kind r ≡ Inner) ⊎ (actor_of r ≡ p) → is_mover_kind (kind r) s.nodes ≡ false →
      NodeShows harts p c (apply (s.nodes + 1) s.nodes (On page other f k r) w) → Tidy s c →
      Fewer (kept s.nodes (put cpu p c) mover) (kept s.nodes cpu mover) (owns (On page other f k r)) →
      Rest s cpu mover w (On page other f k r) flight ms →
      Letters s w (On page other f k r) ls →
      Sim s harts (record { cpu = put cpu p c; home = home; mover = mover; flight = ms ++ ls }) (apply (s.nodes + 1) s.nodes (On page other f k r) w)
  node_row s harts cpu home mover flight w page other f k r p c ms ls sim gd nh col lp act mk own td fewer fms fls =
      cpu_row s harts cpu home mover flight w (On page other f k r) p c ms ls sim gd
      (λ q ne. node_same (s.nodes + 1) s.nodes page other f k r w q (let a : nat_eq q (column_of r) ≡ false = cc in cc) (elim act [ inl i ↦ inl i | inr a ↦ inr (cc) ]))
      (λ g j. home_same (s.nodes + 1) s.nodes page other f k r w gd.3 nh g j)
      (mover_same (s.nodes + 1) s.nodes page other f k r w (let a : nat_eq s.nodes (column_of r) ≡ false = grind (arith, nat_tests) in cc) mk)
      own td fewer fms fls

  -- ---- a row of a block that is the home's, at a message that it takes

  pub home_row_of : (s : Setup) (harts : Harts L H) (cpu : ℕ → Cpu L H) (home : ℕ → HomeSide L) (mover : Mover L) (w : World L) (page other f k : ℕ) (r : BlockRow L) (x : Post L) (h : HomeSide L) (ms ls : List (Post L)) →
      Sim s harts (record { cpu = cpu; home = home; mover = mover; flight = x ∷ ms }) w → guard (s.nodes + 1) s.nodes s.pages s.blocks (On page other f k r) w →
      is_home r ≡ true → (kind r ≡ Inner) ⊎ (actor_of r ≡ s.nodes) → is_mover_kind (kind r) s.nodes ≡ false → ((p : Place) → owns (On page other f k r) p ≡ true → p ≡ slot_of s.nodes x) → owns (On page other f k r) (slot_of s.nodes x) ≡ true →
      HomeShows s.nodes f k h (apply (s.nodes + 1) s.nodes (On page other f k r) w) →
      ((g j : ℕ) → here f k g j ≡ false → ((home (s.home f)).entry g j ≡ h.entry g j) × ((home (s.home f)).line g j ≡ h.line g j)) → ((g : ℕ) → (home (s.home f)).noticed g ≡ h.noticed g) →
      Letters s w (On page other f k r) ls →
      Sim s harts (record { cpu = cpu; home = put home (s.home f) h; mover = mover; flight = ms ++ ls }) (apply (s.nodes + 1) s.nodes (On page other f k r) w)
  home_row_of s harts cpu home mover w page other f k r x h ms ls sim gd ih ki mk owned at_x own others noticed fls =
      let z : World L = apply (s.nodes + 1) s.nodes e w in
      let go = messages_go s cpu cpu mover mover w e (x ∷ ms) ms ls gd sim.reached sim.keeps sim.found fewer (rest_one s cpu mover w e x ms sim.flight owned at_x) fls in
      record {
        reached = reached_on s w e sim.reached gd;
        nodes = λ q lt. node_shows harts q (cpu q) w z (node_same (s.nodes + 1) s.nodes page other f k r w q (cc) (elim ki [ inl i ↦ inl i | inr a ↦ inr (let ne : nat_eq q s.nodes ≡ false = grind (arith, nat_tests) in cc) ])) (sim.nodes q lt);
        tidy = sim.tidy;
        homes = λ g j lf lk. at g j lf lk (nat_eq (s.home g) (s.home f)) refl;
        mover = mover_shows s mover w z (mover_same (s.nodes + 1) s.nodes page other f k r w (cc) mk) sim.mover;
        bounds = sim.bounds;
        keeps = go.0;
        flight = go.1;
        found = go.2;
      }
    where
      e : Event L
      e = On page other f k r

      fewer : Fewer (kept s.nodes cpu mover) (kept s.nodes cpu mover) (owns e)
      fewer p = elim (cases_Bool (owns e p)) [ inl t ↦ inl ((let same : p ≡ slot_of s.nodes x = owned p t in let none : kept s.nodes cpu mover (slot_of s.nodes x) ≡ None = sim.flight.0.1 in cc), t) | inr t ↦ inr (refl, t) ]

      at : (g j : ℕ) → g < s.frames → j < s.blocks → (t : Bool) → nat_eq (s.home g) (s.home f) ≡ t → HomeShows s.nodes g j (cond t h (home (s.home g))) (apply (s.nodes + 1) s.nodes e w)
      at g j lf lk false n = home_shows s.nodes g j (home (s.home g)) w (apply (s.nodes + 1) s.nodes e w) (home_other (s.nodes + 1) s.nodes page other f k r w gd.3 g j (grind (arith, nat_tests))) (sim.homes g j lf lk)
      at g j lf lk true n = elim (cases_Bool (here f k g j)) [
        | inl t ↦ (let ef : f ≡ g = grind (arith, nat_tests) in let ek : k ≡ j = grind (arith, nat_tests) in subst (λ (v : ℕ). HomeShows s.nodes g v h (apply (s.nodes + 1) s.nodes e w)) ek (subst (λ (u : ℕ). HomeShows s.nodes u k h (apply (s.nodes + 1) s.nodes e w)) ef own))
        | inr t ↦ (let eh : s.home g ≡ s.home f = grind (arith, nat_tests) in let o = others g j t in let no = noticed g in
            let b : HomeShows s.nodes g j (home (s.home f)) (apply (s.nodes + 1) s.nodes e w) = subst (λ (u : ℕ). HomeShows s.nodes g j (home u) (apply (s.nodes + 1) s.nodes e w)) eh (home_shows s.nodes g j (home (s.home g)) w (apply (s.nodes + 1) s.nodes e w) (home_other (s.nodes + 1) s.nodes page other f k r w gd.3 g j t) (sim.homes g j lf lk)) in
            same_home s.nodes g j (home (s.home f)) h (apply (s.nodes + 1) s.nodes e w) o.0 o.1 no b)
      ]

  pub home_row : (s : Setup) (harts : Harts L H) (cpu : ℕ → Cpu L H) (home : ℕ → HomeSide L) (mover : Mover L) (w : World L) (page other f k : ℕ) (r : BlockRow L) (x : Post L) (h : HomeSide L) (ms ls : List (Post L)) →
      Sim s harts (record { cpu = cpu; home = home; mover = mover; flight = x ∷ ms }) w → guard (s.nodes + 1) s.nodes s.pages s.blocks (On page other f k r) w →
      is_home r ≡ true → kind r ≡ Inner → ((p : Place) → owns (On page other f k r) p ≡ true → p ≡ slot_of s.nodes x) → owns (On page other f k r) (slot_of s.nodes x) ≡ true →
      HomeShows s.nodes f k h (apply (s.nodes + 1) s.nodes (On page other f k r) w) →
      ((g j : ℕ) → here f k g j ≡ false → ((home (s.home f)).entry g j ≡ h.entry g j) × ((home (s.home f)).line g j ≡ h.line g j)) → ((g : ℕ) → (home (s.home f)).noticed g ≡ h.noticed g) →
      Letters s w (On page other f k r) ls →
      Sim s harts (record { cpu = cpu; home = put home (s.home f) h; mover = mover; flight = ms ++ ls }) (apply (s.nodes + 1) s.nodes (On page other f k r) w)
  home_row s harts cpu home mover w page other f k r x h ms ls sim gd ih ki owned at_x own others noticed fls = home_row_of s harts cpu home mover w page other f k r x h ms ls sim gd ih (inl ki) (grind arith) owned at_x own others noticed fls

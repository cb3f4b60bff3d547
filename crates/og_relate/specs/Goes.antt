-- What an event of the machine gives: events of the theory, to a world that the machine then shows.
use Rattle.std.specs.Prelude.{◌≡◌, ℕ, ◌+◌, Bool, true, false, ◌⊎◌, List, [], ◌∷◌, ◌++◌, cond}
use Rattle.std.proofs.Common.{Option, None, Some}
use Rattle.og_block.specs.Access.{Access, Reads, Writes, access_of}
use Rattle.og_pages.specs.State.{put_pair}
use Rattle.og_whole.specs.Kind.{kind}
use Rattle.og_whole.specs.Events.{World, Event, Page, On, Runs, is_access}
use Rattle.og_whole.specs.Messages.{Message}
use Rattle.og_relate.specs.Data.{Machine, Harts, Setup}
use Rattle.og_relate.specs.Places.{Place}
use Rattle.og_relate.specs.Sim.{Sim}

-- an access of a hart: the line that it found, and what it left, if it wrote
pub record Made (L : Type 0) : Type 0 where
  pub page : ℕ
  pub number : ℕ
  pub found : L
  pub left : Option L

module _ {L : Type 0} where
  abbrev pub made_at : ℕ → ℕ → Access L → List (Made L)
  made_at page number (Reads l) = record { page = page; number = number; found = l; left = None } ∷ []
  made_at page number (Writes l v) = record { page = page; number = number; found = l; left = Some v } ∷ []
  made_at page number a = []

  abbrev pub made_of : Event L → List (Made L)
  made_of (Page row) = []
  made_of (On page other f k row) = cond (is_access (kind row)) (made_at page k (access_of row)) []

  abbrev pub all_made : List (Event L) → List (Made L)
  all_made [] = []
  all_made (e ∷ es) = made_of e ++ all_made es

  -- each finds what the memory has, after those before it
  abbrev pub memory_left : (ℕ → ℕ → L) → ℕ → ℕ → Option L → ℕ → ℕ → L
  memory_left memory page number None = memory
  memory_left memory page number (Some v) = put_pair memory page number v

  abbrev pub MadeFlat : (ℕ → ℕ → L) → List (Made L) → Type 0
  MadeFlat memory [] = Unit {0}
  MadeFlat memory (a ∷ rest) = (a.found ≡ memory a.page a.number) × MadeFlat (memory_left memory a.page a.number a.left) rest

  abbrev pub memory_made : (ℕ → ℕ → L) → List (Made L) → ℕ → ℕ → L
  memory_made memory [] = memory
  memory_made memory (a ∷ rest) = memory_made (memory_left memory a.page a.number a.left) rest

module _ {L : Type 0} {H : Type 0} where
  -- events that make these accesses
  pub record Makes (s : Setup) (harts : Harts L H) (m : Machine L H) (w : World L) (accesses : List (Made L)) : Type 0 where
    pub events : List (Event L)
    pub world : World L
    pub runs : Runs (s.nodes + 1) s.nodes s.pages s.blocks w events world
    pub made : all_made events ≡ accesses
    pub sim : Sim s harts m world

  -- and none
  abbrev pub Goes : Setup → Harts L H → Machine L H → World L → Type 0
  Goes s harts m w = Makes s harts m w []

module _ {L : Type 0} where
  -- what is kept after a row was kept before it, and is not of a place from which it takes
  abbrev pub FewerAt : Option (Message L) → Option (Message L) → Bool → Type 0
  FewerAt after before owned = ((after ≡ None) × (owned ≡ true)) ⊎ ((after ≡ before) × (owned ≡ false))

  abbrev pub Fewer : (Place → Option (Message L)) → (Place → Option (Message L)) → (Place → Bool) → Type 0
  Fewer after before owned = (p : Place) → FewerAt (after p) (before p) (owned p)

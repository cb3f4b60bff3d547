-- The mover's lists of frames, and what each frame is for. A list is read by how often a frame stands in it, so no order
-- is spoken of, and that no frame stands twice is no premise but a consequence.
use Rattle.std.specs.Prelude.{◌≡◌, ℕ, ◌+◌, ◌<◌, ◌≤◌, Bool, true, false, cond, nat_eq, List, [], ◌∷◌, ◌++◌}
use Rattle.og_pages.specs.State.{State, Role, Free, put}
use Rattle.og_pages.specs.Rows.{Row, guard, apply, Move_begin, Publish_page, Frame_free}
use Rattle.og_pages.specs.Invariant.{Invariant, is_quarantined}

abbrev pub is_free : Role → Bool
is_free Free = true
is_free role = false

-- how often the frame stands in the list
abbrev pub occurrences : ℕ → List ℕ → ℕ
occurrences frame [] = 0
occurrences frame (x ∷ xs) = cond (nat_eq x frame) 1 0 + occurrences frame xs

-- each free frame of the homes that there are stands once in its home's free list, and nothing else does; so too each frame
-- in quarantine
pub record Pools (nodes : ℕ) (home : ℕ → ℕ) (role : ℕ → Role) (free quarantine : ℕ → List ℕ) : Type 0 where
  pub free_is : (h frame : ℕ) → h < nodes → occurrences frame (free h) ≡ cond (nat_eq (home frame) h) (cond (is_free (role frame)) 1 0) 0
  pub quarantine_is : (h frame : ℕ) → h < nodes → occurrences frame (quarantine h) ≡ cond (nat_eq (home frame) h) (cond (is_quarantined (role frame)) 1 0) 0

-- the list has lost one occurrence of the frame
abbrev pub IsTaken : (frame : ℕ) → (before after : List ℕ) → Type 0
IsTaken frame before after = (g : ℕ) → occurrences g before ≡ cond (nat_eq frame g) 1 0 + occurrences g after

-- what stands in a free list is a free frame of that home, and it stands there once
abbrev pub FreeListed : Type 0
FreeListed = (nodes : ℕ) (home : ℕ → ℕ) (role : ℕ → Role) (free quarantine : ℕ → List ℕ) (h frame : ℕ) → h < nodes → Pools nodes home role free quarantine → 0 < occurrences frame (free h) → (role frame ≡ Free) × (home frame ≡ h) × (occurrences frame (free h) ≤ 1)

-- and what stands in a quarantine is a frame of that home in quarantine, and it stands there once
abbrev pub QuarantineListed : Type 0
QuarantineListed = (nodes : ℕ) (home : ℕ → ℕ) (role : ℕ → Role) (free quarantine : ℕ → List ℕ) (h frame : ℕ) → h < nodes → Pools nodes home role free quarantine → 0 < occurrences frame (quarantine h) →
    (is_quarantined (role frame) ≡ true) × (home frame ≡ h) × (occurrences frame (quarantine h) ≤ 1)

-- beginning a move takes the new frame out of its home's free list
abbrev pub BeginKeeps : (L : Type 0) → Type 0
BeginKeeps L = (pages blocks nodes : ℕ) (home : ℕ → ℕ) (s : State L) (free quarantine : ℕ → List ℕ) (frame page new : ℕ) (rest : List ℕ) → guard pages blocks (Move_begin frame page new) s → Pools nodes home s.role free quarantine → IsTaken new (free (home new)) rest →
    Pools nodes home (apply (Move_begin frame page new) s).role (put free (home new) rest) quarantine

-- publishing puts the old frame last into its home's quarantine
abbrev pub PublishKeeps : (L : Type 0) → Type 0
PublishKeeps L = (pages blocks nodes : ℕ) (home : ℕ → ℕ) (s : State L) (free quarantine : ℕ → List ℕ) (page old new : ℕ) → guard pages blocks (Publish_page page old new) s → Invariant L pages blocks s → Pools nodes home s.role free quarantine →
    Pools nodes home (apply (Publish_page page old new) s).role free (put quarantine (home old) (quarantine (home old) ++ old ∷ []))

-- a reclaimed frame goes from its home's quarantine to its free list. It stays in quarantine until then
abbrev pub ReclaimKeeps : (L : Type 0) → Type 0
ReclaimKeeps L = (pages blocks nodes : ℕ) (home : ℕ → ℕ) (s : State L) (free quarantine : ℕ → List ℕ) (frame : ℕ) (fewer more : List ℕ) → guard pages blocks (Frame_free frame) s → Invariant L pages blocks s → Pools nodes home s.role free quarantine → IsTaken frame (quarantine (home frame)) fewer → IsTaken frame more (free (home frame)) →
    Pools nodes home (apply (Frame_free frame) s).role (put free (home frame) more) (put quarantine (home frame) fewer)

abbrev pub changes_roles : {L : Type 0} → Row L → Bool
changes_roles (Move_begin frame page new) = true
changes_roles (Publish_page page old new) = true
changes_roles (Frame_free frame) = true
changes_roles row = false

-- no other row changes what a frame is for, so the lists stay as they are
abbrev pub RolesStay : (L : Type 0) → Type 0
RolesStay L = (s : State L) (row : Row L) → changes_roles row ≡ false → (apply row s).role ≡ s.role

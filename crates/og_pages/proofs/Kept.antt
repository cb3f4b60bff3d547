-- Each row keeps the invariant.
use Rattle.std.proofs.Common.{ℕ}
use Rattle.og_pages.proofs.KeptRoles.{roles_kept}
use Rattle.og_pages.proofs.KeptMappings.{mappings_kept}
use Rattle.og_pages.proofs.KeptJobs.{jobs_kept}
use Rattle.og_pages.proofs.KeptPhases.{phases_kept}
use Rattle.og_pages.proofs.KeptEntries.{entries_kept}
use Rattle.og_pages.proofs.KeptWalks.{walks_kept}
use Rattle.og_pages.proofs.KeptWalkers.{walkers_kept}
use Rattle.og_pages.proofs.KeptRequests.{requests_kept}
use Rattle.og_pages.proofs.KeptVictims.{victims_kept}
use Rattle.og_pages.proofs.KeptHolders.{holders_kept}
use Rattle.og_pages.proofs.KeptCopies.{copies_kept}
use Rattle.og_pages.proofs.KeptDrops.{drops_kept}
use Rattle.og_pages.proofs.KeptDroppedEntries.{dropped_entries_kept}
use Rattle.og_pages.proofs.KeptDroppedRest.{dropped_rest_kept}
use Rattle.og_pages.proofs.KeptGathering.{gathering_kept}
use Rattle.og_pages.proofs.KeptLines.{lines_kept}
use Rattle.og_pages.proofs.KeptHeld.{held_kept}
use Rattle.og_pages.proofs.KeptNotices.{notices_kept}
use Rattle.og_pages.specs.State.{State}
use Rattle.og_pages.specs.Rows.{Row, guard, apply}
use Rattle.og_pages.specs.Invariant.{Invariant}

pub kept : {L : Type 0} → (pages blocks : ℕ) (s : State L) (r : Row L) → guard pages blocks r s → Invariant L pages blocks s → Invariant L pages blocks (apply r s)
kept pages blocks s r g inv = record {
  roles = roles_kept pages blocks s r g inv;
  mappings = mappings_kept pages blocks s r g inv;
  jobs = jobs_kept pages blocks s r g inv;
  phases = phases_kept pages blocks s r g inv;
  entries = entries_kept pages blocks s r g inv;
  walks = walks_kept pages blocks s r g inv;
  walkers = walkers_kept pages blocks s r g inv;
  requests = requests_kept pages blocks s r g inv;
  victims = victims_kept pages blocks s r g inv;
  holders = holders_kept pages blocks s r g inv;
  copies = copies_kept pages blocks s r g inv;
  drops = drops_kept pages blocks s r g inv;
  dropped_entries = dropped_entries_kept pages blocks s r g inv;
  dropped_rest = dropped_rest_kept pages blocks s r g inv;
  gathering = gathering_kept pages blocks s r g inv;
  lines = lines_kept pages blocks s r g inv;
  held = held_kept pages blocks s r g inv;
  notices = notices_kept pages blocks s r g inv;
}

-- The laws, from what each machine that a run leads to shows.
use Rattle.og_refine.proofs.GoesOn.{no_message, rests}
use Rattle.og_refine.proofs.Charges.{charges_differ}
use Rattle.og_refine.proofs.Writers.{writers_alone}
use Rattle.og_refine.proofs.Held.{lines_held}
use Rattle.og_refine.proofs.Bytes.{low, byte_of_line}
use Rattle.og_refine.proofs.Nameless.{frame_is_nameless}
use Rattle.std.proofs.Common.{◌≡◌, ◌∙◌, ◌+◌, ◌*◌, ◌/◌, ◌%◌, Bool, cond, Some, List, ◌∷◌, ap, sym}
use Rattle.og_runs.specs.declared.Choice.{Choice}
use Rattle.og_runs.specs.declared.Event.{Event}
use Rattle.og_runs.specs.declared.Msg.{Msg}
use Rattle.og_runs.specs.World.{find}
use Rattle.og_runs.proofs.Placed.{same_self}
use Rattle.og_msg.specs.declared.Kind.{Kind}
use Rattle.og_msg.specs.declared.Note.{Note}
use Rattle.og_machine.specs.Machine.{Setup, Machine}
use Rattle.og_machine.specs.FlatRun.{flat_begin}
use Rattle.og_machine.proofs.Refusals.{step_allowed}
use Rattle.og_refine.specs.Machines.{IsRunnable, sizes_of}
use Rattle.og_flat.specs.Flat.{Flat}
use Rattle.og_refine.specs.Laws.{RunsTo, flat_of, MessagesHaveRows, RefusalsAreExact, NotesAreFlat, WritersAreAlone, LinesAreHeld, BytesAreHeld, FreeFramesAreUnnamed, ChargesDiffer, MessagesHaveRoom, UnquietMachinesGoOn}
use Rattle.og_refine.proofs.Tables.{tables}
use Rattle.og_refine.proofs.Begins.{sizes_are}
use Rattle.og_refine.proofs.Runs.{Followed, followed, notes_are_flat, flat_of_is}
use Rattle.og_refine.proofs.Rows.{found_has_row, refusals_are_exact}
use Rattle.og_refine.proofs.Unnamed.{frame_is_unnamed, flight_has_room}

-- what a run leads to
reached : (setup : Setup) (choices : List Choice) (w : Machine) (events : List (Event Note)) → IsRunnable setup → RunsTo setup choices w events → Followed setup (flat_begin setup.image setup.settings).harts (flat_begin setup.image setup.settings).flat w events
reached setup choices w events ok run = followed setup tables ok choices w events run

pub messages_rows : MessagesHaveRows
messages_rows setup choices w events id message ok run found =
    let r = reached setup choices w events ok run in
    found_has_row setup (sizes_of setup) w r.end _ r.world id message tables (sizes_are setup ok) r.follows r.distinct found

pub exact_refusals : RefusalsAreExact
exact_refusals setup choices w events choice ok run =
    let r = reached setup choices w events ok run in
    ((λ free. refusals_are_exact setup (sizes_of setup) w r.end _ r.world choice tables (sizes_are setup ok) r.follows r.distinct free), (λ some. step_allowed setup w choice some))

pub flat_notes : NotesAreFlat
flat_notes setup choices w events ok run = notes_are_flat setup tables ok choices w events run

pub lone_writers : WritersAreAlone
lone_writers setup choices w events ok run =
    let r = reached setup choices w events ok run in
    writers_alone setup.image (sizes_of setup) w r.end _ r.world (sizes_are setup ok) r.follows

pub held_lines : LinesAreHeld
held_lines setup choices w events y page number ok run placed low =
    let r = reached setup choices w events ok run in
    lines_held setup.image (sizes_of setup) w r.end _ r.world y page number (sizes_are setup ok) r.follows placed low ∙ ap (λ (f : Flat). Some (f.memory (page * 32 + number))) (sym (flat_of_is setup events))

pub held_bytes : BytesAreHeld
held_bytes setup choices w events y address ok run placed = byte_of_line w (flat_of setup events).memory address (held_lines setup choices w events y (address / 4096) (address / 128 % 32) ok run placed (low address))

pub unnamed_frames : FreeFramesAreUnnamed
unnamed_frames setup choices w events q seat m frame ok run there is inside free =
    let r = reached setup choices w events ok run in
    frame_is_unnamed setup.image (sizes_of setup) w r.end _ r.world q seat m frame r.follows there is inside free
    (frame_is_nameless setup.image (sizes_of setup) w r.end _ r.world q seat m frame (sizes_are setup ok) r.follows there is inside free)

pub enough_room : MessagesHaveRoom
enough_room setup choices w events ok run =
    let r = reached setup choices w events ok run in
    flight_has_room setup.image (sizes_of setup) w r.end _ r.world r.follows

pub distinct_charges : ChargesDiffer
distinct_charges setup choices w events id other x y ok run found too same =
    let r = reached setup choices w events ok run in
    charges_differ setup.image (sizes_of setup) w r.end _ r.world id other x y (sizes_are setup ok) r.follows r.distinct found too same

pub goes_on : UnquietMachinesGoOn
goes_on setup choices w events ok run unquiet empty =
    let r = reached setup choices w events ok run in
    let silent = no_message setup w empty (λ m ms e. (let f = found_has_row setup (sizes_of setup) w r.end _ r.world m.id m tables (sizes_are setup ok) r.follows r.distinct (first_found m ms w.flight e) in (f.0, f.1))) in
    let quiet = rests setup (sizes_of setup) w r.end _ r.world r.follows r.patient silent empty in
    absurd (cc)
  where
    first_found : (m : Msg Kind) (ms flight : List (Msg Kind)) → flight ≡ m ∷ ms → find m.id flight ≡ Some m
    first_found m ms flight e = ap (find m.id) e ∙ ap (λ (t : Bool). cond t (Some m) (find m.id ms)) (same_self m.id)

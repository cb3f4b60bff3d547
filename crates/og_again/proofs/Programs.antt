-- The machine of a file whose program was placed is one that runs.
use Rattle.std.proofs.Common.{◌≡◌, ℕ, ◌+◌, ◌*◌, ◌≤◌, Bool, true, false, not, cond, nat_eq, nat_lt, nat_le, Option, None, Some, List, [], ◌∷◌, length, drop, refl, arith}
use Rattle.std.specs.List.{AllByRecursion, find}
use Rattle.std.specs.Option.{option_or}
use Rattle.std.specs.List.Sorted.{IsPermutation}
use Rattle.std.proofs.lemmas.List.Sorted.{IsPermutation-refl, IsPermutation-sym, IsPermutation-cons, IsPermutation-trans, IsPermutation-middle}
use Rattle.std.proofs.lemmas.Bool.Decides.{nat_tests}
use Rattle.og_base.specs.declared.Settings.{Settings}
use Rattle.og_elf.specs.declared.segment.Segment.{Segment}
use Rattle.og_elf.specs.declared.header.Header.{Header}
use Rattle.og_elf.specs.declared.fault.ElfCause.{ElfCause}
use Rattle.og_elf.specs.declared.fault.ElfCause.TheVariants.{NotElf, NotClass64, NotLittle, NotExec, NotRiscv, HeaderOut, SegmentOut, Overlap, WritableText, NoEntry, TooLarge}
use Rattle.og_elf.specs.declared.fault.ElfFault.{ElfFault}
use Rattle.og_elf.specs.declared.fault.ElfFault.TheVariants.{Bad, Memory}
use Rattle.og_elf.specs.Segment.{IsLoadable}
use Rattle.og_elf.specs.Raw.{is_raw_out, text_length}
use Rattle.og_elf.specs.Elf.{fault_if, headers_fault, target_fault, head_fault, at_header, loads_fault, loads_of, fault_of, segments_of, entry_of, is_out, is_writable_text, has_entry, overlapping, passing, is_no_elf, is_other_size, ends_past_file, field}
use Rattle.og_elf.proofs.Faultless.{loadable}
use Rattle.og_elf.proofs.Programs.{raw_loadable}
use Rattle.og_image.specs.Image.{put_in, in_order, ImageState}
use Rattle.og_image.specs.Layout.{pages_of}
use Rattle.og_image.proofs.Places.{loadable_permuted}
use Rattle.og_load.specs.declared.image.ImageFault.TheVariants.{Raw, NoFrames}
use Rattle.og_load.specs.Images.{program_of, program_fault, elf_fault, file_image}
use Rattle.og_refine.specs.Machines.{IsRunnable}
use Rattle.og_ranges.specs.Bytes.{AreBytes, HasBytes}
use Rattle.og_ranges.proofs.Bytes.{take_bytes, drop_bytes}
use Rattle.og_print.specs.Runs.{file_setup, frames_fault, image_fault}

-- ---- in the order of addresses

put_moves : (s : Segment) (ss : List Segment) → IsPermutation (s ∷ ss) (put_in s ss)
put_moves s [] = IsPermutation-refl (s ∷ [])
put_moves s (t ∷ ts) = by (nat_le s.addr t.addr) (put_moves s ts)
  where
    by : (w : Bool) → IsPermutation (s ∷ ts) (put_in s ts) → IsPermutation (s ∷ t ∷ ts) (cond w (s ∷ t ∷ ts) (t ∷ put_in s ts))
    by true rest = IsPermutation-refl (s ∷ t ∷ ts)
    by false rest = IsPermutation-trans (s ∷ t ∷ ts) (t ∷ s ∷ ts) (t ∷ put_in s ts) (IsPermutation-sym (t ∷ s ∷ ts) (s ∷ t ∷ ts) (IsPermutation-middle (t ∷ []) s ts)) (IsPermutation-cons t (s ∷ ts) (put_in s ts) rest)

order_moves : (ss : List Segment) → IsPermutation ss (in_order ss)
unfolding in_order
order_moves [] = IsPermutation-refl []
order_moves (s ∷ ss) = IsPermutation-trans (s ∷ ss) (s ∷ in_order ss) (put_in s (in_order ss)) (IsPermutation-cons s ss (in_order ss) (order_moves ss)) (put_moves s (in_order ss))

abbrev AllBytes : List Segment → Type 0
AllBytes ss = AllByRecursion (λ (s : Segment). AreBytes s.bytes) ss

put_bytes : (s : Segment) (ss : List Segment) → AreBytes s.bytes → AllBytes ss → AllBytes (put_in s ss)
put_bytes s [] one all = (one, tt)
put_bytes s (t ∷ ts) one all = by (nat_le s.addr t.addr) (put_bytes s ts one all.1)
  where
    by : (w : Bool) → AllBytes (put_in s ts) → AllBytes (cond w (s ∷ t ∷ ts) (t ∷ put_in s ts))
    by true rest = (one, all)
    by false rest = (all.0, rest)

order_bytes : (ss : List Segment) → AllBytes ss → AllBytes (in_order ss)
unfolding in_order
order_bytes [] all = tt
order_bytes (s ∷ ss) all = put_bytes s (in_order ss) all.0 (order_bytes ss all.1)

-- ---- the contents of a file's segments

header_bytes : (file : List ℕ) (loads : List Header) → AreBytes file → AllBytes (segments_of file loads)
header_bytes file [] bytes = tt
header_bytes file (h ∷ hs) bytes = (take_bytes h.filled (drop h.offset file) (drop_bytes h.offset file bytes), header_bytes file hs bytes)

program_bytes : (raw : Bool) (file : List ℕ) → AreBytes file → AllBytes (program_of raw file).segments
program_bytes true file bytes = (take_bytes (text_length file) (drop 4 file) (drop_bytes 4 file bytes), (drop_bytes (4 + text_length file) file bytes, tt))
program_bytes false file bytes = header_bytes file (loads_of file) bytes

pub file_bytes : (raw : Bool) (file : List ℕ) (settings : Settings) → AreBytes file → HasBytes (file_setup raw file settings).image
file_bytes raw file settings bytes = order_bytes (program_of raw file).segments (program_bytes raw file bytes)

-- ---- a file without a fault

none_both : {X : Type 0} → (a b : Option X) → option_or a b ≡ None → (a ≡ None) × (b ≡ None)
none_both None b e = (refl, e)
none_both (Some x) b e = absurd (cc)

-- the fault of a file is never want of memory
abbrev IsBad : Option ElfFault → Type 0
IsBad None = Unit {0}
IsBad (Some (Bad cause at)) = Unit {0}
IsBad (Some Memory) = ⊥

or_bad : (a b : Option ElfFault) → IsBad a → IsBad b → IsBad (option_or a b)
or_bad None b x y = y
or_bad (Some f) b x y = x

if_bad : (t : Bool) (cause : ElfCause) (at : ℕ) (rest : Option ElfFault) → IsBad rest → IsBad (fault_if t cause at rest)
if_bad true cause at rest bad = tt
if_bad false cause at rest bad = bad

header_bad : (cause : ElfCause) (o : Option Header) → IsBad (at_header cause o)
header_bad cause None = tt
header_bad cause (Some h) = tt

headers_bad : (file : List ℕ) → IsBad (headers_fault file)
headers_bad file = if_bad (is_other_size file) HeaderOut 54 (fault_if (ends_past_file file) HeaderOut 32 None) (if_bad (ends_past_file file) HeaderOut 32 None tt)

target_bad : (file : List ℕ) → IsBad (target_fault file)
target_bad file =
    if_bad (not (nat_eq (field file 16 2) 2)) NotExec 16 (fault_if (not (nat_eq (field file 18 2) 243)) NotRiscv 18 (headers_fault file))
    (if_bad (not (nat_eq (field file 18 2) 243)) NotRiscv 18 (headers_fault file) (headers_bad file))

head_bad : (file : List ℕ) → IsBad (head_fault file)
head_bad file =
    if_bad (is_no_elf file) NotElf 0 (fault_if (not (nat_eq (field file 4 1) 2)) NotClass64 4 (fault_if (not (nat_eq (field file 5 1) 1)) NotLittle 5 (target_fault file)))
    (if_bad (not (nat_eq (field file 4 1) 2)) NotClass64 4 (fault_if (not (nat_eq (field file 5 1) 1)) NotLittle 5 (target_fault file))
    (if_bad (not (nat_eq (field file 5 1) 1)) NotLittle 5 (target_fault file) (target_bad file)))

loads_bad : (file : List ℕ) (hs : List Header) → IsBad (loads_fault file hs)
loads_bad file hs =
    or_bad (at_header SegmentOut (find (is_out (length file)) hs)) (option_or (at_header Overlap (overlapping [] hs)) (option_or (at_header WritableText (find is_writable_text hs)) (fault_if (not (has_entry (entry_of file) hs)) NoEntry 24 (at_header TooLarge (passing 0 hs))))) (header_bad SegmentOut (find (is_out (length file)) hs))
    (or_bad (at_header Overlap (overlapping [] hs)) (option_or (at_header WritableText (find is_writable_text hs)) (fault_if (not (has_entry (entry_of file) hs)) NoEntry 24 (at_header TooLarge (passing 0 hs)))) (header_bad Overlap (overlapping [] hs))
    (or_bad (at_header WritableText (find is_writable_text hs)) (fault_if (not (has_entry (entry_of file) hs)) NoEntry 24 (at_header TooLarge (passing 0 hs))) (header_bad WritableText (find is_writable_text hs))
    (if_bad (not (has_entry (entry_of file) hs)) NoEntry 24 (at_header TooLarge (passing 0 hs)) (header_bad TooLarge (passing 0 hs)))))

fault_bad : (file : List ℕ) → IsBad (fault_of file)
fault_bad file = or_bad (head_fault file) (loads_fault file (loads_of file)) (head_bad file) (loads_bad file (loads_of file))

no_fault : (o : Option ElfFault) → IsBad o → elf_fault o ≡ None → o ≡ None
no_fault None bad e = refl
no_fault (Some (Bad cause at)) bad e = absurd (cc)
no_fault (Some Memory) bad e = absurd bad

program_loadable : (raw : Bool) (file : List ℕ) → program_fault raw file ≡ None → IsLoadable (program_of raw file).entry (program_of raw file).segments
program_loadable true file none = raw_loadable file (by (is_raw_out file) none)
  where
    by : (t : Bool) → cond t (Some Raw) None ≡ None → t ≡ false
    by true e = absurd (cc)
    by false e = refl
program_loadable false file none = loadable file (none_both (head_fault file) (loads_fault file (loads_of file)) (no_fault (fault_of file) (fault_bad file) none)).1

-- ---- the machine

enough : (image : ImageState) (settings : Settings) → frames_fault image settings ≡ None → length (pages_of image) ≤ settings.nodes * settings.frames
enough image settings none = by (nat_lt (settings.nodes * settings.frames) (length (pages_of image))) refl none
  where
    by : (t : Bool) → nat_lt (settings.nodes * settings.frames) (length (pages_of image)) ≡ t → cond t (Some (NoFrames (length (pages_of image)) (settings.nodes * settings.frames))) None ≡ None → length (pages_of image) ≤ settings.nodes * settings.frames
    by true is e = absurd (cc)
    by false is e = grind (arith, nat_tests)

pub program_known : (raw : Bool) (file : List ℕ) (settings : Settings) → image_fault raw file settings ≡ None → program_fault raw file ≡ None
program_known raw file settings none = (none_both (program_fault raw file) (frames_fault (file_image raw file settings.nodes) settings) none).0

pub frames_known : (raw : Bool) (file : List ℕ) (settings : Settings) → image_fault raw file settings ≡ None → frames_fault (file_image raw file settings.nodes) settings ≡ None
frames_known raw file settings none = (none_both (program_fault raw file) (frames_fault (file_image raw file settings.nodes) settings) none).1

pub file_runs : (raw : Bool) (file : List ℕ) (settings : Settings) → image_fault raw file settings ≡ None → IsRunnable (file_setup raw file settings)
file_runs raw file settings none = record {
  loadable = loadable_permuted (program_of raw file).entry (program_of raw file).segments (in_order (program_of raw file).segments) (order_moves (program_of raw file).segments) (program_loadable raw file (program_known raw file settings none));
  layout = refl;
  nodes = refl;
  some_nodes = settings.nodes_in_range.0;
  few_nodes = settings.nodes_in_range.1;
  some_frames = let two : 2 ≤ settings.frames = settings.frames_in_range.0 in omega arith;
  few_frames = settings.frames_in_range.1;
  some_sets = settings.sets_in_range.0;
  some_ways = settings.ways_in_range.0;
  some_entries = settings.tlb_in_range.0;
  room = enough (file_image raw file settings.nodes) settings (frames_known raw file settings none);
}

-- A file without a fault can be loaded.
use Rattle.std.proofs.Common.{◌≡◌, ℕ, zero, suc, ◌+◌, ◌%◌, ◌<◌, ◌≤◌, ◌&&◌, ◌||◌, length, List, [], ◌∷◌, arith, refl, cond, true, false, Bool, not, get_or, nat_lt, nat_eq, take, drop, map, Option, None, Some, ap}
use Rattle.std.specs.List.{list_any, find, filter, All}
use Rattle.std.specs.Option.{option_or}
use Rattle.std.proofs.Math.Path.{◌∙◌}
use Rattle.std.proofs.lemmas.Bool.Decides.{nat_tests}
use Rattle.std.proofs.lemmas.Grind.{common_steps}
use Rattle.std.proofs.lemmas.List.Elements.{All-map}
use Rattle.og_elf.specs.declared.segment.Segment.{Segment}
use Rattle.og_elf.specs.declared.segment.Span.{Span}
use Rattle.og_elf.specs.declared.header.Header.{Header}
use Rattle.og_elf.specs.declared.fault.ElfCause.{ElfCause}
use Rattle.og_elf.specs.declared.fault.ElfCause.TheVariants.{SegmentOut, Overlap, WritableText, NoEntry, TooLarge}
use Rattle.og_elf.specs.declared.fault.ElfFault.{ElfFault}
use Rattle.og_elf.specs.Span.{IsWithin}
use Rattle.og_elf.specs.Segment.{IsPlaced, IsLoadable, are_apart, span_of, is_text, is_entry}
use Rattle.og_elf.specs.Elf.{loads_of, loads_fault, headers_from, headers_at, header_count, is_loadable, is_out, is_writable_text, is_text_header, has_entry, entry_of, segment_of, segments_of, overlapping, passing, span_of_header, at_header, fault_if}
use Rattle.og_elf.proofs.Order.{apart_all}

pub none_passes : (p : Header → Bool) (xs : List Header) → find p xs ≡ None → All (λ x. p x ≡ false) xs
none_passes p [] h k d lt = absurd (omega arith)
none_passes p (x ∷ xs) h k d lt = go (p x) refl h (none_passes p xs) k lt
  where
    go : (b : Bool) → p x ≡ b → cond b (Some x) (find p xs) ≡ None → (find p xs ≡ None → All (λ x. p x ≡ false) xs) → (k : ℕ) → k < length (x ∷ xs) → p (get_or (x ∷ xs) k d) ≡ false
    go true is h later k lt = absurd (cc)
    go false is h later zero lt = is
    go false is h later (suc k) lt = later h k d (omega arith)

all_pass : (p : Header → Bool) (xs : List Header) → All (λ x. p x ≡ true) (filter p xs)
all_pass p [] k d lt = absurd (omega arith)
all_pass p (x ∷ xs) k d lt = go (p x) refl (all_pass p xs) k lt
  where
    go : (b : Bool) → p x ≡ b → All (λ x. p x ≡ true) (filter p xs) → (k : ℕ) → k < length (cond b (x ∷ filter p xs) (filter p xs)) → p (get_or (cond b (x ∷ filter p xs) (filter p xs)) k d) ≡ true
    go true is later zero lt = is
    go true is later (suc k) lt = later k d (omega arith)
    go false is later k lt = later k d lt

sized : (kind : Bool) (size : ℕ) → (kind && not (nat_eq size 0)) ≡ true → 0 < size
sized kind size h = grind (arith, nat_tests)

-- what a header that isn't out says
record Inside (n : ℕ) (h : Header) : Type 0 where
  filled : h.filled ≤ h.size
  above : 0x1000 ≤ h.addr
  below : h.addr + h.size ≤ 0x70000000

inside : (n : ℕ) (h : Header) → is_out n h ≡ false → Inside n h
inside n h out = go (nat_lt h.size h.filled) (not (nat_eq h.filled 0) && nat_lt n (h.offset + h.filled)) (nat_lt h.addr 0x1000) (nat_lt 0x70000000 (h.addr + h.size)) refl refl refl out
  where
    go : (a b c d : Bool) → nat_lt h.size h.filled ≡ a → nat_lt h.addr 0x1000 ≡ c → nat_lt 0x70000000 (h.addr + h.size) ≡ d → (a || b || c || d) ≡ false → Inside n h
    go false false false false is js ks out = record { filled = grind (arith, nat_tests); above = grind (arith, nat_tests); below = grind (arith, nat_tests) }
    go true b c d is js ks out = absurd (grind (arith, nat_tests))
    go false true c d is js ks out = absurd (grind (arith, nat_tests))
    go false false true d is js ks out = absurd (grind (arith, nat_tests))
    go false false false true is js ks out = absurd (grind (arith, nat_tests))

loads_sized : (file : List ℕ) → All (λ h. 0 < h.size) (loads_of file)
unfolding loads_of
loads_sized file k d lt =
    let h : is_loadable (get_or (filter is_loadable (headers_from file (headers_at file) (header_count file))) k d) ≡ true = all_pass is_loadable (headers_from file (headers_at file) (header_count file)) k d lt in
    sized (nat_eq (get_or (filter is_loadable (headers_from file (headers_at file) (header_count file))) k d).kind 1) (get_or (filter is_loadable (headers_from file (headers_at file) (header_count file))) k d).size h

-- the loadable headers lie where programs may
pub all_within : (file : List ℕ) (loads : List Header) → loads ≡ loads_of file → find (is_out (length file)) loads ≡ None → All (λ h. IsWithin (span_of_header h)) loads
all_within file loads is none k d lt =
    let i : Inside (length file) (get_or loads k d) = inside (length file) (get_or loads k d) (none_passes (is_out (length file)) loads none k d lt) in
    let some : 0 < (get_or (loads_of file) k d).size = loads_sized file k d (rw (← is) lt) in
    record { sized = rw is some; below = i.below }

-- ------------------------------------------------------------ the parts of a fault

first_none : (a b : Option ElfFault) → option_or a b ≡ None → a ≡ None
first_none None b h = refl
first_none (Some x) b h = absurd (cc)

second_none : (a b : Option ElfFault) → option_or a b ≡ None → b ≡ None
second_none None b h = h
second_none (Some x) b h = absurd (cc)

header_none : (cause : ElfCause) (o : Option Header) → at_header cause o ≡ None → o ≡ None
header_none cause None h = refl
header_none cause (Some x) h = absurd (cc)

test_false : (b : Bool) (cause : ElfCause) (at : ℕ) (rest : Option ElfFault) → fault_if b cause at rest ≡ None → b ≡ false
test_false false cause at rest h = refl
test_false true cause at rest h = absurd (cc)

of_not : (b : Bool) → not b ≡ false → b ≡ true
of_not true h = refl
of_not false h = absurd (cc)

-- ------------------------------------------------------------ the segments

same_spans : (file : List ℕ) (hs : List Header) → map span_of (map (segment_of file) hs) ≡ map span_of_header hs
same_spans file [] = refl
same_spans file (h ∷ hs) = ap (λ (ss : List Span). span_of_header h ∷ ss) (same_spans file hs)

same_text : (file : List ℕ) (addr : ℕ) (hs : List Header) → list_any (is_text addr) (map (segment_of file) hs) ≡ list_any (is_text_header addr) hs
same_text file addr [] = refl
same_text file addr (h ∷ hs) = ap (λ (b : Bool). is_text_header addr h || b) (same_text file addr hs)

entered_of : (file : List ℕ) (loads : List Header) → has_entry (entry_of file) loads ≡ true → is_entry (entry_of file) (segments_of file loads) ≡ true
entered_of file loads h = ap (λ (b : Bool). nat_eq (entry_of file % 4) 0 && b) (same_text file (entry_of file) loads) ∙ h

short : (n at : ℕ) (file : List ℕ) (size : ℕ) → n ≤ size → length (take n (drop at file)) ≤ size
short n at file size le = grind (arith, common_steps)

pub loadable : (file : List ℕ) → loads_fault file (loads_of file) ≡ None → IsLoadable (entry_of file) (segments_of file (loads_of file))
loadable file h = parts (loads_of file) (loads_sized file) h
  where
    parts : (loads : List Header) → All (λ h. 0 < h.size) loads → loads_fault file loads ≡ None → IsLoadable (entry_of file) (segments_of file loads)
    parts loads some h =
        let out : at_header SegmentOut (find (is_out (length file)) loads) ≡ None = first_none _ _ h in
        let more : option_or (at_header Overlap (overlapping [] loads)) (option_or (at_header WritableText (find is_writable_text loads)) (fault_if (not (has_entry (entry_of file) loads)) NoEntry 24 (at_header TooLarge (passing 0 loads)))) ≡ None = second_none (at_header SegmentOut (find (is_out (length file)) loads)) _ h in
        let over : at_header Overlap (overlapping [] loads) ≡ None = first_none _ _ more in
        let rest : option_or (at_header WritableText (find is_writable_text loads)) (fault_if (not (has_entry (entry_of file) loads)) NoEntry 24 (at_header TooLarge (passing 0 loads))) ≡ None = second_none (at_header Overlap (overlapping [] loads)) _ more in
        let text : at_header WritableText (find is_writable_text loads) ≡ None = first_none _ _ rest in
        let last : fault_if (not (has_entry (entry_of file) loads)) NoEntry 24 (at_header TooLarge (passing 0 loads)) ≡ None = second_none (at_header WritableText (find is_writable_text loads)) _ rest in
        let entry : has_entry (entry_of file) loads ≡ true = of_not _ (test_false _ NoEntry 24 (at_header TooLarge (passing 0 loads)) last) in
        record {
          placed = All-map IsPlaced (segment_of file) loads (λ k d lt.
              let i : Inside (length file) (get_or loads k d) = inside (length file) (get_or loads k d) (none_passes (is_out (length file)) loads (header_none SegmentOut _ out) k d lt) in
              record { sized = some k d lt; filled = short (get_or loads k d).filled (get_or loads k d).offset file (get_or loads k d).size i.filled; above = i.above; below = i.below });
          apart = ap are_apart (same_spans file loads) ∙ apart_all loads (header_none Overlap _ over);
          guarded = All-map (λ (s : Segment). (s.writable && s.runnable) ≡ false) (segment_of file) loads (none_passes is_writable_text loads (header_none WritableText _ text));
          entered = entered_of file loads entry;
        }

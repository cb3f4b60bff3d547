-- What a home is at the start.
use Rattle.std.proofs.Common.{◌≡◌, ℕ, ◌+◌, ◌*◌, ◌/◌, ◌%◌, ◌<◌, ◌≤◌, Bool, true, false, cond, ◌&&◌, List, length, map, get_or, replicate, refl, sym, ◌∙◌, ap, subst, arith, inl, inr}
use Rattle.std.specs.Prelude.{nat_lt}
use Rattle.std.proofs.lemmas.List.{get_or-map, get_or-replicate, get_or_past, length-map, length-replicate}
use Rattle.std.proofs.lemmas.Bool.{cases_lt, lt-ltb, le-ltb}
use Rattle.og_base.specs.declared.Settings.{Settings}
use Rattle.og_base.specs.Numbers.{below}
use Rattle.og_image.specs.Image.{ImageState}
use Rattle.og_image.specs.Layout.{LayoutState}
use Rattle.og_image.proofs.Pages.{below_length, below_at}
use Rattle.og_line.specs.declared.Line.{Line}
use Rattle.og_line.specs.Line.{zero_line}
use Rattle.og_directory.specs.declared.entry.State.{State}
use Rattle.og_directory.specs.declared.entry.State.TheVariants.{Unowned}
use Rattle.og_directory.specs.Table.{NamesNodes}
use Rattle.og_counters.specs.Counts.{new_counters}
use Rattle.og_counters.specs.Kept.{KeptCounts, counters_of}
use Rattle.og_home.specs.Kept.{KeptHome, IsHome, block_in, home_of}
use Rattle.og_home.specs.Start.{first_line, start_home}
use Rattle.og_home.proofs.Blocks.{block_in-inside, block_in-past, same_home}

module _ (counters : KeptCounts) (image : ImageState) (layout : LayoutState) (settings : Settings) (node : ℕ) (made : counters_of counters ≡ new_counters node settings) where
  abbrev pub line_at : ℕ → Line
  line_at j = first_line image layout node (j / 32) (j % 32)

  abbrev pub kept : KeptHome
  kept = record { counters = counters; entries = replicate (settings.frames * 32) Unowned; lines = map line_at (below (settings.frames * 32)) }

  blank_entry : (n k : ℕ) → get_or (replicate n Unowned) k Unowned ≡ Unowned
  blank_entry n k = elim (cases_lt k n) [ inl inside ↦ get_or-replicate n k Unowned Unowned inside | inr past ↦ get_or_past (replicate n Unowned) k Unowned (rw length-replicate past) ]

  entries_are : (j l : ℕ) → block_in kept.entries Unowned j l ≡ Unowned
  entries_are j l = elim (cases_lt l 32) [
    | inl low ↦ block_in-inside Unowned kept.entries j l low ∙ blank_entry (settings.frames * 32) (j * 32 + l)
    | inr past ↦ block_in-past Unowned kept.entries j l past
  ]

  all_lines : length kept.lines ≡ settings.frames * 32
  all_lines = length-map (below (settings.frames * 32)) line_at ∙ below_length (settings.frames * 32)

  wanted : ℕ → ℕ → Line
  wanted j l = cond (nat_lt j settings.frames && nat_lt l 32) (first_line image layout node j l) zero_line

  never : (a : Bool) → (a && false) ≡ false
  never true = refl
  never false = refl

  line_there : (j l : ℕ) → l < 32 → j < settings.frames → block_in kept.lines zero_line j l ≡ first_line image layout node j l
  line_there j l low inside =
      let room : j * 32 + l < settings.frames * 32 = omega arith in
      let room_below : j * 32 + l < length (below (settings.frames * 32)) = rw (below_length (settings.frames * 32)) room in
      let index : (j * 32 + l) / 32 ≡ j = omega arith in
      let number : (j * 32 + l) % 32 ≡ l = omega arith in
      block_in-inside zero_line kept.lines j l low ∙ get_or-map line_at (below (settings.frames * 32)) (j * 32 + l) 0 zero_line room_below ∙ ap line_at (below_at (settings.frames * 32) (j * 32 + l) room) ∙ ap (λ i. first_line image layout node i ((j * 32 + l) % 32)) index ∙ ap (λ n. first_line image layout node j n) number

  lines_are : (j l : ℕ) → block_in kept.lines zero_line j l ≡ cond (nat_lt j settings.frames && nat_lt l 32) (first_line image layout node j l) zero_line
  lines_are j l = elim (cases_lt l 32) [
    | inl low ↦ (elim (cases_lt j settings.frames) [
      | inl inside ↦ line_there j l low inside ∙ sym (ap (λ test. cond test (first_line image layout node j l) zero_line) (ap (λ a. a && nat_lt l 32) (lt-ltb j settings.frames inside) ∙ lt-ltb l 32 low))
      | inr past ↦ block_in-inside zero_line kept.lines j l low ∙ get_or_past kept.lines (j * 32 + l) zero_line (rw all_lines (omega arith)) ∙ sym (ap (λ test. cond (test && nat_lt l 32) (first_line image layout node j l) zero_line) (le-ltb j settings.frames past))
    ])
    | inr past ↦ block_in-past zero_line kept.lines j l past ∙ sym (ap (λ test. cond test (first_line image layout node j l) zero_line) (ap (λ b. nat_lt j settings.frames && b) (le-ltb l 32 past) ∙ never (nat_lt j settings.frames)))
  ]

  pub start-sound : settings.nodes ≤ 128 → IsHome kept
  start-sound few = record {
    few_nodes = rw (ap (λ s. s.rules) made) few;
    all_entries = rw (ap (λ s. s.rules) made) (length-replicate (settings.frames * 32) Unowned);
    all_lines = rw (ap (λ s. s.rules) made) all_lines;
    names = λ j l. subst (λ e. NamesNodes counters.rules.nodes e) (sym (entries_are j l)) tt;
  }

  pub start_is : home_of kept ≡ start_home image layout settings node
  unfolding start_home
  start_is = same_home kept (start_home image layout settings node) (ap (λ s. s.rules) made) entries_are lines_are (ap (λ s. s.frame) made)

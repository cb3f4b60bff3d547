-- What a home is at the start.
use Rattle.std.specs.Prelude.{ℕ, ◌+◌, ◌*◌, ◌&&◌, nat_lt, Option, None, Some, slice_get, if◌then◌else◌}
use Rattle.og_base.specs.declared.Settings.{Settings}
use Rattle.og_line.specs.declared.Line.{Line}
use Rattle.og_line.specs.Line.{zero_line}
use Rattle.og_flat.specs.Flat.{start_line}
use Rattle.og_image.specs.Image.{ImageState, start_byte}
use Rattle.og_image.specs.Layout.{LayoutState}
use Rattle.og_directory.specs.declared.entry.State.TheVariants.{Unowned}
use Rattle.og_counters.specs.Counts.{no_counts, rules_of}
use Rattle.og_home.specs.Home.{HomeState}

-- a block of a placed page has the program's bytes, and a block of a free frame is zero. No block has seen a store
abbrev pub placed_line : ImageState → (number : ℕ) → Option ℕ → Line
placed_line image number None = zero_line
placed_line image number (Some page) = start_line (start_byte image) (page * 32 + number)

-- the line of a block of a node's frame: pages are dealt out to the nodes in turn, so the frame has the page whose number is
-- its turn
abbrev pub first_line : ImageState → LayoutState → (node : ℕ) → (index number : ℕ) → Line
first_line image layout node index number = placed_line image number (slice_get layout.pages (index * layout.nodes + node))

-- all blocks unowned, lines as the program says, no counts
unfoldable pub start_home : ImageState → LayoutState → Settings → ℕ → HomeState
start_home image layout settings node = record {
  rules = rules_of node settings;
  entry = λ index number. Unowned;
  line = λ index number. if nat_lt index settings.frames && nat_lt number 32 then first_line image layout node index number else zero_line;
  counts = λ index. no_counts;
}

-- What stores leave behind, for every line of 128 bytes.
use Rattle.std.specs.Prelude.{◌≡◌, ℕ, ◌+◌, ◌<◌, ◌≤◌, ◌⊎◌, length, slice_index}
use Rattle.og_line.specs.declared.Line.{Line}
use Rattle.og_line.specs.Line.{IsPlace, load_of, store_of, low_bytes_of}

-- what was stored at a place is what a load of it gives
abbrev pub StoredIsLoaded : Type 0
StoredIsLoaded =
    (line : Line) (at width value : ℕ) → length line.bytes ≡ 128 → IsPlace at width
    → load_of (store_of line at width value) at width ≡ low_bytes_of width value

-- a store changes no byte outside its place
abbrev pub OtherBytesStay : Type 0
OtherBytesStay =
    (line : Line) (at width value byte : ℕ) → length line.bytes ≡ 128 → IsPlace at width
    → (byte < at) ⊎ (at + width ≤ byte)
    → slice_index (store_of line at width value).bytes byte ≡ slice_index line.bytes byte

-- a store leaves a line of 128 bytes and counts itself
abbrev pub StoresAreCounted : Type 0
StoresAreCounted =
    (line : Line) (at width value : ℕ) → length line.bytes ≡ 128 → IsPlace at width
    → (length (store_of line at width value).bytes ≡ 128)
    × ((store_of line at width value).stores ≡ line.stores + 1)

-- A source that is assembled and an image that is printed are written, where nothing hinders, or memory wants.
use Rattle.std.proofs.Common.{◌≡◌, ℕ, ◌+◌, ◌^◌, ◌-◌, ◌<◌, ◌≤◌, false, List, [], ◌∷◌, ◌++◌, length, Option, Some, None, Ok, Err, ◌⊎◌, inl, inr, arith, refl, ap, subst, length-append}
use Rattle.std.specs.Prelude.{IsSomeAnd, ⊤}
use Rattle.og_elf.specs.Raw.{is_raw_out}
use Rattle.og_io.specs.Outside.{ShelfState, SinkState, Files, file_of, HasFile, HasLongFile, AddsName, Rises, IsAsBefore}
use Rattle.rv_asm.specs.Source.{assembled}
use Rattle.og_tools.specs.declared.source.AssembleFault.TheVariants as assemble
use Rattle.og_tools.specs.declared.image.DisassembleFault.TheVariants as disassemble
use Rattle.og_tools.specs.Tools.{IsSource}
use Rattle.og_cli.specs.declared.exit.Exit.{Exit}
use Rattle.og_cli.specs.declared.exit.Exit.TheVariants as exit
use Rattle.og_cli.specs.Tools.{Assembles, Disassembles, HasSource, HasRawImage}

-- a count that rose isn't as before
pub no_rise : {A : Type 0} → (old new : ℕ) → IsAsBefore old new → Rises old new → A
no_rise old new as_before rises = let same : new ≡ old = as_before.0 in let low : new < 2 ^ 64 - 1 = as_before.1 in absurd (omega arith)

-- a name that was added makes other names
pub no_name : {A : Type 0} → (name : List ℕ) (old new : List (List ℕ)) → new ≡ old → AddsName name old new → A
no_name name old new same adds =
    let size : length new ≡ length (old ++ name ∷ []) = ap (λ (xs : List (List ℕ)). length xs) adds in
    let more : length (old ++ name ∷ []) ≡ length old + 1 = rw length-append refl in
    let equal : length new ≡ length old = ap (λ (xs : List (List ℕ)). length xs) same in
    absurd (omega arith)

-- where the files are told, what is known of a file of this name is known of these bytes
pub told : (P : List ℕ → Type 0) (files : Option Files) (name bytes : List ℕ) → IsSomeAnd files (λ fs. IsSomeAnd (file_of fs name) P) → HasFile files name bytes → P bytes
told P None name bytes fine file = elim fine [ ]
told P (Some fs) name bytes fine file = at (file_of fs name) file fine
  where
    at : (o : Option (List ℕ)) → o ≡ Some bytes → IsSomeAnd o P → P bytes
    at None is fine = elim fine [ ]
    at (Some b) is fine = let same : b ≡ bytes = cc in subst P same fine

-- a file of few bytes isn't too long
pub no_long : {A : Type 0} → (P : List ℕ → Type 0) (limit : ℕ) (files : Option Files) (name : List ℕ) → ((b : List ℕ) → P b → length b ≤ limit) → IsSomeAnd files (λ fs. IsSomeAnd (file_of fs name) P) → HasLongFile files name limit → A
no_long P limit None name short fine long = elim fine [ ]
no_long P limit (Some fs) name short fine long = at (file_of fs name) fine long
  where
    at : {A : Type 0} → (o : Option (List ℕ)) → IsSomeAnd o P → IsSomeAnd o (λ b. limit < length b) → A
    at None fine more = elim fine [ ]
    at (Some b) fine more = let few : length b ≤ limit = short b fine in absurd (omega arith)

abbrev IsGoodSource : List ℕ → Type 0
IsGoodSource text = (length text ≤ 16777216) × ((words : List ℕ) × IsSource text words)

abbrev IsGoodImage : List ℕ → Type 0
IsGoodImage file = (length file ≤ 67108864) × (is_raw_out file ≡ false)

pub source_done : (name : List ℕ) (shelf after : ShelfState) (old new : SinkState) (answer : Exit) → Assembles name shelf after old new answer → HasSource name shelf.files → after.failed ≡ shelf.failed → IsAsBefore old.faults new.faults
    → (answer ≡ exit.Done) ⊎ (answer ≡ exit.Memory)
source_done name shelf after old new answer (Ok done, ends, is) fine read written = inl is
source_done name shelf after old new answer (Err assemble.Unread, ends, is) fine read written = no_name name shelf.failed after.failed read (ap (λ (s : ShelfState). s.failed) ends.0)
source_done name shelf after old new answer (Err assemble.TooLong, ends, is) fine read written = no_long IsGoodSource 16777216 shelf.files name (λ b good. good.0) fine ends.1
source_done name shelf after old new answer (Err (assemble.Line number cause), (same, (text, file, short, (refused, kept))), is) fine read written =
    let good : IsGoodSource text = told IsGoodSource shelf.files name text fine file in
    let taken : assembled text ≡ Ok good.1.0 = good.1.1 in
    absurd (cc (taken, refused))
source_done name shelf after old new answer (Err assemble.Memory, ends, is) fine read written = inr is
source_done name shelf after old new answer (Err assemble.Unwritten, (same, (text, file, short, (words, taken, cut))), is) fine read written = no_rise old.faults new.faults written cut.1

pub image_done : (name : List ℕ) (shelf after : ShelfState) (old new : SinkState) (answer : Exit) → Disassembles name shelf after old new answer → HasRawImage name shelf.files → after.failed ≡ shelf.failed → IsAsBefore old.faults new.faults
    → (answer ≡ exit.Done) ⊎ (answer ≡ exit.Memory)
image_done name shelf after old new answer (Ok done, ends, is) fine read written = inl is
image_done name shelf after old new answer (Err disassemble.Unread, ends, is) fine read written = no_name name shelf.failed after.failed read (ap (λ (s : ShelfState). s.failed) ends.0)
image_done name shelf after old new answer (Err disassemble.TooLong, ends, is) fine read written = no_long IsGoodImage 67108864 shelf.files name (λ b good. good.0) fine ends.1
image_done name shelf after old new answer (Err disassemble.RawOut, (same, (bytes, file, short, (out, kept))), is) fine read written =
    let good : IsGoodImage bytes = told IsGoodImage shelf.files name bytes fine file in
    let raw : is_raw_out bytes ≡ false = good.1 in
    absurd (cc (raw, out))
image_done name shelf after old new answer (Err disassemble.Memory, ends, is) fine read written = inr is
image_done name shelf after old new answer (Err disassemble.Unwritten, (same, (bytes, file, short, (fits, cut))), is) fine read written = no_rise old.faults new.faults written cut.1

use Rattle.std.proofs.Common.{rules, ◌≡◌, [], List, false, arith, ap, subst, sym, nat_le, None, Some}
use Rattle.std.specs.List.Sorted.{IsNonDecreasingBy}
use Rattle.std.proofs.Math.Path.{◌∙◌}
use Rattle.std.proofs.lemmas.List.Sorted.{IsPartitionPoint-from_clause, IsPartitionedBy-leb}
use Rattle.og_elf.specs.declared.segment.Segment.{Segment}
use Rattle.og_image.specs.Image.{ImageState, Finds, FindsPages}
use Rattle.og_image.proofs.Places.{At, Kept, kept_of, finds_last, finds_none, pages_last, pages_none}
use Rattle.og_image.proofs.image.Image.last_to.Goals as goal

abbrev none : Segment
none = record { addr = 0; size = 0; bytes = []; writable = false; runnable = false }

pub returns-then-count-eq0-clause-found : goal.returns-then-count-eq0-clause-found
returns-then-count-eq0-clause-found c =
    let same : c.as_slice-segments.result.now ≡ c.args.self.now.segments = c.as_slice-segments.ensures ∙ ap (λ (i : ImageState). i.segments) c.self.view_is in
    let up : IsNonDecreasingBy (λ (s : Segment). s.addr) c.as_slice-segments.result.now = subst (λ (l : List Segment). IsNonDecreasingBy (λ (s : Segment). s.addr) l) (sym c.as_slice-segments.ensures) c.self.invariant.rising in
    let at : At c.args.addr c.as_slice-segments.result.now c.partition_point-count.result = IsPartitionPoint-from_clause (λ (s : Segment). nat_le s.addr c.args.addr) c.as_slice-segments.result.now c.partition_point-count.result c.partition_point-count.ensures.partitioned (IsPartitionedBy-leb (λ (s : Segment). s.addr) c.as_slice-segments.result.now c.args.addr up) (λ a r q k. search rules) in
    subst (λ (l : List Segment). Finds c.args.addr l None) same (finds_none c.args.addr c.as_slice-segments.result.now c.partition_point-count.result none at c.if-count-eq0.true)

pub returns-then-count-eq0-clause-pages : goal.returns-then-count-eq0-clause-pages
returns-then-count-eq0-clause-pages c =
    let same : c.as_slice-segments.result.now ≡ c.args.self.now.segments = c.as_slice-segments.ensures ∙ ap (λ (i : ImageState). i.segments) c.self.view_is in
    let up : IsNonDecreasingBy (λ (s : Segment). s.addr) c.as_slice-segments.result.now = subst (λ (l : List Segment). IsNonDecreasingBy (λ (s : Segment). s.addr) l) (sym c.as_slice-segments.ensures) c.self.invariant.rising in
    let at : At c.args.addr c.as_slice-segments.result.now c.partition_point-count.result = IsPartitionPoint-from_clause (λ (s : Segment). nat_le s.addr c.args.addr) c.as_slice-segments.result.now c.partition_point-count.result c.partition_point-count.ensures.partitioned (IsPartitionedBy-leb (λ (s : Segment). s.addr) c.as_slice-segments.result.now c.args.addr up) (λ a r q k. search rules) in
    subst (λ (l : List Segment). FindsPages c.args.addr l None) same (pages_none c.args.addr c.as_slice-segments.result.now c.partition_point-count.result none at c.if-count-eq0.true)

pub returns-else-count-eq0-clause-found : goal.returns-else-count-eq0-clause-found
returns-else-count-eq0-clause-found c =
    let same : c.as_slice-segments.result.now ≡ c.args.self.now.segments = c.as_slice-segments.ensures ∙ ap (λ (i : ImageState). i.segments) c.self.view_is in
    let up : IsNonDecreasingBy (λ (s : Segment). s.addr) c.as_slice-segments.result.now = subst (λ (l : List Segment). IsNonDecreasingBy (λ (s : Segment). s.addr) l) (sym c.as_slice-segments.ensures) c.self.invariant.rising in
    let at : At c.args.addr c.as_slice-segments.result.now c.partition_point-count.result = IsPartitionPoint-from_clause (λ (s : Segment). nat_le s.addr c.args.addr) c.as_slice-segments.result.now c.partition_point-count.result c.partition_point-count.ensures.partitioned (IsPartitionedBy-leb (λ (s : Segment). s.addr) c.as_slice-segments.result.now c.args.addr up) (λ a r q k. search rules) in
    let kept : Kept c.as_slice-segments.result.now = subst (λ (l : List Segment). Kept l) (sym c.as_slice-segments.ensures) (kept_of c.self.inside.entry c.self.inside.segments c.self.invariant.loadable c.self.invariant.rising) in
    subst (λ (l : List Segment). Finds c.args.addr l (Some c.index-segments-count.result)) same
    (finds_last c.args.addr c.as_slice-segments.result.now c.partition_point-count.result c.index-segments-count.result kept at (omega arith) c.partition_point-count.ensures.bound c.index-segments-count.is)

pub returns-else-count-eq0-clause-pages : goal.returns-else-count-eq0-clause-pages
returns-else-count-eq0-clause-pages c =
    let same : c.as_slice-segments.result.now ≡ c.args.self.now.segments = c.as_slice-segments.ensures ∙ ap (λ (i : ImageState). i.segments) c.self.view_is in
    let up : IsNonDecreasingBy (λ (s : Segment). s.addr) c.as_slice-segments.result.now = subst (λ (l : List Segment). IsNonDecreasingBy (λ (s : Segment). s.addr) l) (sym c.as_slice-segments.ensures) c.self.invariant.rising in
    let at : At c.args.addr c.as_slice-segments.result.now c.partition_point-count.result = IsPartitionPoint-from_clause (λ (s : Segment). nat_le s.addr c.args.addr) c.as_slice-segments.result.now c.partition_point-count.result c.partition_point-count.ensures.partitioned (IsPartitionedBy-leb (λ (s : Segment). s.addr) c.as_slice-segments.result.now c.args.addr up) (λ a r q k. search rules) in
    let kept : Kept c.as_slice-segments.result.now = subst (λ (l : List Segment). Kept l) (sym c.as_slice-segments.ensures) (kept_of c.self.inside.entry c.self.inside.segments c.self.invariant.loadable c.self.invariant.rising) in
    subst (λ (l : List Segment). FindsPages c.args.addr l (Some c.index-segments-count.result)) same
    (pages_last c.args.addr c.as_slice-segments.result.now c.partition_point-count.result c.index-segments-count.result kept at (omega arith) c.partition_point-count.ensures.bound c.index-segments-count.is)

use Rattle.og_seen.proofs.Pages.{is_numbered, one_page, pages_differ, needed_placed}
use Rattle.og_seen.proofs.pages_are_seen.Goals as goal

pub returns : goal.returns
returns c = record {
  number = λ s page there. is_numbered s page there;
  one = λ s page other there too same. one_page s page other there too same;
  differ = λ s sizes. pages_differ s sizes;
  needed = λ image s x access is needs. needed_placed image s x access is needs;
}

use Rattle.std.proofs.Common.{◌≡◌, ◌∙◌, ap, Some}
use Rattle.og_sharers.specs.Sets.{word_of}
use Rattle.og_directory.specs.Words.{head_of, set_of, state_of}
use Rattle.og_directory.proofs.Packing.{read_back}
use Rattle.og_directory.proofs.entry.Entry.of_words.Goals.{else-same_head-head-via-then-same_head-head+else-same_set-set, else-same_head-head-via-else-same_head-head}
use Rattle.og_directory.proofs.entry.Entry.of_words.Goals as goal

pub returns-then-same_set-set-clause-read_back : goal.returns-then-same_set-set-clause-read_back
returns-then-same_set-set-clause-read_back c = λ e kept h w.
    ap Some (c.of-entry.ensures ∙ c.unpack.ensures ∙ ap (λ s. state_of c.args.head s) c.of_word.ensures ∙ read_back e c.args.head c.args.set kept h w)

pub returns-else-same_head-head-clause-read_back : goal.returns-else-same_head-head-clause-read_back
returns-else-same_head-head-clause-read_back c = λ e kept h w.
    let same : c.of-entry.result ≡ e = c.of-entry.ensures ∙ c.unpack.ensures ∙ ap (λ s. state_of c.args.head s) c.of_word.ensures ∙ read_back e c.args.head c.args.set kept h w in
    let head : c.words-same_head.result.0 ≡ c.args.head = c.words-same_head.ensures.head ∙ ap (λ s. head_of s) same ∙ h in
    let groups : c.words-same_head.result.1 ≡ c.args.set = c.words-same_head.ensures.set ∙ ap (λ s. word_of 64 (set_of s)) same ∙ w in
    absurd (elim c.else-same_head-head.branch [ else-same_head-head-via-then-same_head-head+else-same_set-set w ↦ w.if-same_set-set.false groups | else-same_head-head-via-else-same_head-head w ↦ w.if-same_head-head.false head ])

-- What the code keeps of the words, as the definitions see it.
use Rattle.std.specs.Prelude.{◌≡◌, true, Result, MatchResult, Option, option_map, is_some}
use Rattle.std.specs.Borrow.{Bor}
use Rattle.og_words.specs.declared.reading.Chosen.{Chosen}
use Rattle.og_words.specs.declared.reading.Reading.{Reading}
use Rattle.og_words.specs.declared.job.Job.{Job}
use Rattle.og_words.specs.Words.{Text, ChosenState, ReadingState, JobState, job_seen}

-- the text of a word
abbrev pub word_seen : Option (Bor Text) → Option Text
word_seen = option_map (λ w. w.now)

abbrev pub chosen_seen : Chosen → ChosenState
chosen_seen c = record {
  nodes = word_seen c.nodes;
  frames = word_seen c.frames;
  sets = word_seen c.sets;
  ways = word_seen c.ways;
  tlb = word_seen c.tlb;
  instructions = word_seen c.instructions;
  trigger = word_seen c.trigger;
  sharing = word_seen c.sharing;
  moves = word_seen c.moves;
  reset = word_seen c.reset;
  draw = word_seen c.draw;
  events = word_seen c.events;
  loops = word_seen c.loops;
  rounds = word_seen c.rounds;
  turns = word_seen c.turns;
}

abbrev pub reading_seen : Reading → ReadingState
reading_seen r = record {
  raw = r.raw;
  chosen = chosen_seen r.chosen;
  first = word_seen r.first;
  second = word_seen r.second;
  waiting = r.waiting;
}

-- the job is this one, or the words are refused; words that are refused are never answered by want of memory
abbrev pub IsJob : {E : Type 0} → Option JobState → Result (Option Job) E → Type 0
IsJob expected result = MatchResult result (λ job. option_map job_seen job ≡ expected) (λ _. is_some expected ≡ true)

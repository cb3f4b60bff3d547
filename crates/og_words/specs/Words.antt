-- The words of the command line, without the program's name, and what they ask for.
--
--   simulate IMAGE     run IMAGE     replay IMAGE CHOICES     storm NUMBER     assemble SOURCE     disassemble IMAGE
--
-- The first word is the command. A word that begins with "--" is an option: `--name=value` in one word, or `--name`
-- and its value in the next word, which doesn't begin with '-'. `--raw` has no value. Options stand anywhere after the
-- command, each at most once. Every other word is one of the command's own, as many as shown; it doesn't begin with '-'.
--
-- `assemble` and `disassemble` have no option: "all" are the other four.
--
--   option           default   range                 commands
--   --raw            off                             simulate, run, replay
--   --nodes          1         1 to 128              all
--   --frames         64        2 to 1,024            all; nodes times frames is at most 16,384
--   --sets           64        1 to 1,024            all
--   --ways           2         1 to 8                all
--   --tlb            8         1 to 64               all
--   --instructions   1000000   0 to 1,000,000        all
--   --trigger        64        1 to 1,000,000        all
--   --sharing        32        1 to 1,000,000        all
--   --moves          4         0 to 1,000,000        all
--   --reset          1024      1 to 1,000,000        all
--   --draw           1         0 to 2^64 - 1         simulate
--   --events         1000000   0 to 4,000,000        simulate, storm
--   --loops          200       1 to 2,047            storm
--   --rounds         see below 0 to 10,000           run; rounds times turns times (nodes + 1) is at most 4,000,000
--   --turns          64        1 to 1,000            run
--
-- The default of `--rounds` is 2,000, or 4,000,000 div (turns times (nodes + 1)) where that is less. NUMBER is 0 to
-- 2^64 - 1. A number is `0` or decimal digits without a leading zero.
use Rattle.std.specs.Prelude.{ℕ, ◌+◌, ◌-◌, ◌*◌, ◌/◌, ◌^◌, ◌≤◌, Bool, true, false, not, ◌&&◌, ◌==◌, nat_le, min, if◌then◌else◌, List, [], ◌∷◌, codes, decimal, Option, None, Some, option_and_then, option_map, is_some, unwrap_or, string_bytes}
use Rattle.std.specs.List.{list_any, before_first, after_first}
use Rattle.std.specs.Str.{bytes_eq}
use Rattle.std.specs.Str.Parse.{digits_value}
use Rattle.og_base.specs.Settings.{SettingsState, settings_seen}
use Rattle.og_words.specs.declared.command.Command.{Command}
use Rattle.og_words.specs.declared.command.Command.TheVariants.{Simulate, Run, Replay, Storm, Assemble, Disassemble}
use Rattle.og_words.specs.declared.command.Named.{Named}
use Rattle.og_words.specs.declared.command.Named.TheVariants.{Nodes, Frames, Sets, Ways, Tlb, Instructions, Trigger, Sharing, Moves, Reset, Draw, Events, Loops, Rounds, Turns}
use Rattle.og_words.specs.declared.job.Given.{Given}
use Rattle.og_words.specs.declared.job.Job.{Job}
use Rattle.og_words.specs.declared.job.Job.TheVariants as job

abbrev pub Text : Type 0
Text = List ℕ

-- ------------------------------------------------------------------------------ the command

abbrev pub command_of : Text → Option Command
command_of word =
    if bytes_eq word (codes "simulate") then Some Simulate
    else if bytes_eq word (codes "run") then Some Run
    else if bytes_eq word (codes "replay") then Some Replay
    else if bytes_eq word (codes "storm") then Some Storm
    else if bytes_eq word (codes "assemble") then Some Assemble
    else if bytes_eq word (codes "disassemble") then Some Disassemble
    else None

-- ------------------------------------------------------------------------------ options

-- the option that takes a value and has this name
abbrev pub option_of : Text → Option Named
option_of word =
    if bytes_eq word (codes "--nodes") then Some Nodes else
    if bytes_eq word (codes "--frames") then Some Frames else
    if bytes_eq word (codes "--sets") then Some Sets else
    if bytes_eq word (codes "--ways") then Some Ways else
    if bytes_eq word (codes "--tlb") then Some Tlb else
    if bytes_eq word (codes "--instructions") then Some Instructions else
    if bytes_eq word (codes "--trigger") then Some Trigger else
    if bytes_eq word (codes "--sharing") then Some Sharing else
    if bytes_eq word (codes "--moves") then Some Moves else
    if bytes_eq word (codes "--reset") then Some Reset else
    if bytes_eq word (codes "--draw") then Some Draw else
    if bytes_eq word (codes "--events") then Some Events else
    if bytes_eq word (codes "--loops") then Some Loops else
    if bytes_eq word (codes "--rounds") then Some Rounds else
    if bytes_eq word (codes "--turns") then Some Turns else None

-- which commands have an option
abbrev pub has_option : Command → Named → Bool
has_option Assemble option = false
has_option Disassemble option = false
has_option Simulate Draw = true
has_option other Draw = false
has_option Simulate Events = true
has_option Storm Events = true
has_option other Events = false
has_option Storm Loops = true
has_option other Loops = false
has_option Run Rounds = true
has_option other Rounds = false
has_option Run Turns = true
has_option other Turns = false
has_option command setting = true

abbrev pub has_raw : Command → Bool
has_raw Simulate = true
has_raw Run = true
has_raw Replay = true
has_raw other = false

-- the values of the options, each None where the option isn't chosen
pub record ChosenState : Type 0 where
  pub nodes : Option Text
  pub frames : Option Text
  pub sets : Option Text
  pub ways : Option Text
  pub tlb : Option Text
  pub instructions : Option Text
  pub trigger : Option Text
  pub sharing : Option Text
  pub moves : Option Text
  pub reset : Option Text
  pub draw : Option Text
  pub events : Option Text
  pub loops : Option Text
  pub rounds : Option Text
  pub turns : Option Text

abbrev pub nothing_chosen : ChosenState
nothing_chosen = record { nodes = None; frames = None; sets = None; ways = None; tlb = None; instructions = None; trigger = None; sharing = None; moves = None; reset = None; draw = None; events = None; loops = None; rounds = None; turns = None }

-- the value of an option
abbrev pub value_of : Named → ChosenState → Option Text
value_of Nodes c = c.nodes
value_of Frames c = c.frames
value_of Sets c = c.sets
value_of Ways c = c.ways
value_of Tlb c = c.tlb
value_of Instructions c = c.instructions
value_of Trigger c = c.trigger
value_of Sharing c = c.sharing
value_of Moves c = c.moves
value_of Reset c = c.reset
value_of Draw c = c.draw
value_of Events c = c.events
value_of Loops c = c.loops
value_of Rounds c = c.rounds
value_of Turns c = c.turns

abbrev pub with_value : Named → Text → ChosenState → ChosenState
with_value Nodes v c = record c { nodes = Some v }
with_value Frames v c = record c { frames = Some v }
with_value Sets v c = record c { sets = Some v }
with_value Ways v c = record c { ways = Some v }
with_value Tlb v c = record c { tlb = Some v }
with_value Instructions v c = record c { instructions = Some v }
with_value Trigger v c = record c { trigger = Some v }
with_value Sharing v c = record c { sharing = Some v }
with_value Moves v c = record c { moves = Some v }
with_value Reset v c = record c { reset = Some v }
with_value Draw v c = record c { draw = Some v }
with_value Events v c = record c { events = Some v }
with_value Loops v c = record c { loops = Some v }
with_value Rounds v c = record c { rounds = Some v }
with_value Turns v c = record c { turns = Some v }

-- ------------------------------------------------------------------------------ from word to word

-- what the words so far gave: whether `--raw` stood there, the values of the options, the command's own words, of which
-- there are two at most, and the option that waits for its value
pub record ReadingState : Type 0 where
  pub raw : Bool
  pub chosen : ChosenState
  pub first : Option Text
  pub second : Option Text
  pub waiting : Option Named

abbrev pub nothing_read : ReadingState
nothing_read = record { raw = false; chosen = nothing_chosen; first = None; second = None; waiting = None }

abbrev pub begins_with_dash : Text → Bool
begins_with_dash [] = false
begins_with_dash (b ∷ bs) = b == 45

abbrev pub begins_with_dashes : Text → Bool
begins_with_dashes [] = false
begins_with_dashes (b ∷ bs) = b == 45 && begins_with_dash bs

abbrev pub is_equals : ℕ → Bool
is_equals b = b == 61

-- the option of this name, which the command has and which wasn't chosen before
abbrev pub new_option : Command → Text → ChosenState → Option Named
new_option command name c = option_and_then (λ option. if has_option command option && not (is_some (value_of option c)) then Some option else None) (option_of name)

abbrev pub with_option : Named → Text → ReadingState → ReadingState
with_option option value r = record r { chosen = with_value option value r.chosen; waiting = None }

-- `--name=value`
abbrev pub take_pair : Command → Text → Text → ReadingState → Option ReadingState
take_pair command name value r = option_map (λ option. with_option option value r) (new_option command name r.chosen)

-- `--raw`
abbrev pub take_raw : Command → ReadingState → Option ReadingState
take_raw command r = if has_raw command && not r.raw then Some (record r { raw = true }) else None

-- `--name`, whose value comes next
abbrev pub take_name : Command → Text → ReadingState → Option ReadingState
take_name command name r = option_map (λ option. record r { waiting = Some option }) (new_option command name r.chosen)

-- a word that begins with "--"; the word "--" itself names no option
abbrev pub take_option : Command → Text → ReadingState → Option ReadingState
take_option command word r =
    if list_any is_equals word then take_pair command (before_first is_equals word) (after_first is_equals word) r
    else if bytes_eq word (codes "--raw") then take_raw command r
    else take_name command word r

-- the value of the option that waits
abbrev pub take_value : Named → Text → ReadingState → Option ReadingState
take_value option word r = if begins_with_dash word then None else Some (with_option option word r)

-- one of the command's own words
abbrev pub take_own : Text → ReadingState → Option ReadingState
take_own word r =
    if not (is_some r.first) then Some (record r { first = Some word })
    else if not (is_some r.second) then Some (record r { second = Some word })
    else None

-- a word where no option waits
abbrev pub take_free : Command → Text → ReadingState → Option ReadingState
take_free command word r =
    if begins_with_dashes word then take_option command word r
    else if begins_with_dash word then None
    else take_own word r

abbrev pub take_at : Option Named → Command → Text → ReadingState → Option ReadingState
take_at None command word r = take_free command word r
take_at (Some option) command word r = take_value option word r

abbrev pub take_word : Command → Text → ReadingState → Option ReadingState
take_word command word r = take_at r.waiting command word r

abbrev pub read_from : Command → List Text → ReadingState → Option ReadingState
read_from command [] r = Some r
read_from command (w ∷ ws) r = option_and_then (λ s. read_from command ws s) (take_word command w r)

-- ------------------------------------------------------------------------------ numbers

-- the number that the word writes, if that is its decimal text and it is in this range
abbrev pub number_in : ℕ → ℕ → Text → Option ℕ
number_in low high word =
    let n = digits_value 10 word in
    if bytes_eq (decimal n) word && (nat_le low n && nat_le n high) then Some n else None

abbrev pub number_at : ℕ → ℕ → Option Text → Option (Option ℕ)
number_at low high None = Some None
number_at low high (Some value) = option_map (λ n. Some n) (number_in low high value)

-- the number of an option: Some None where the option isn't chosen, None where its value is no number of this range
abbrev pub number_of : Named → ℕ → ℕ → ChosenState → Option (Option ℕ)
number_of option low high c = number_at low high (value_of option c)

-- ------------------------------------------------------------------------------ settings

-- the settings that the words give, each None where its option isn't chosen
pub record GivenState : Type 0 where
  pub nodes : Option ℕ
  pub frames : Option ℕ
  pub sets : Option ℕ
  pub ways : Option ℕ
  pub tlb : Option ℕ
  pub instructions : Option ℕ
  pub trigger : Option ℕ
  pub sharing : Option ℕ
  pub moves : Option ℕ
  pub reset : Option ℕ

abbrev pub given_seen : Given → GivenState
given_seen g = record {
  nodes = g.nodes;
  frames = g.frames;
  sets = g.sets;
  ways = g.ways;
  tlb = g.tlb;
  instructions = g.instructions;
  trigger = g.trigger;
  sharing = g.sharing;
  moves = g.moves;
  reset = g.reset;
}

-- each option's number, None where one is out of its range
abbrev pub given_of : ChosenState → Option GivenState
given_of c =
    option_and_then (λ nodes.
    option_and_then (λ frames.
    option_and_then (λ sets.
    option_and_then (λ ways.
    option_and_then (λ tlb.
    option_and_then (λ instructions.
    option_and_then (λ trigger.
    option_and_then (λ sharing.
    option_and_then (λ moves.
    option_and_then (λ reset. Some (record { nodes = nodes; frames = frames; sets = sets; ways = ways; tlb = tlb; instructions = instructions; trigger = trigger; sharing = sharing; moves = moves; reset = reset }))
    (number_of Reset 1 1000000 c))
    (number_of Moves 0 1000000 c))
    (number_of Sharing 1 1000000 c))
    (number_of Trigger 1 1000000 c))
    (number_of Instructions 0 1000000 c))
    (number_of Tlb 1 64 c))
    (number_of Ways 1 8 c))
    (number_of Sets 1 1024 c))
    (number_of Frames 2 1024 c))
    (number_of Nodes 1 128 c)

-- what isn't given has its default
abbrev pub defaulted : GivenState → SettingsState
defaulted g = record {
  nodes = unwrap_or g.nodes 1;
  frames = unwrap_or g.frames 64;
  sets = unwrap_or g.sets 64;
  ways = unwrap_or g.ways 2;
  tlb = unwrap_or g.tlb 8;
  instructions = unwrap_or g.instructions 1000000;
  trigger = unwrap_or g.trigger 64;
  sharing = unwrap_or g.sharing 32;
  moves = unwrap_or g.moves 4;
  reset = unwrap_or g.reset 1024;
}

abbrev pub settings_of : GivenState → Option SettingsState
settings_of g = let s = defaulted g in if nat_le (s.nodes * s.frames) 16384 then Some s else None

-- ------------------------------------------------------------------------------ the job

pub data JobState : Type 0 where
  simulate : (image : Text) → (raw : Bool) → SettingsState → (draw events : ℕ) → JobState
  run : (image : Text) → (raw : Bool) → SettingsState → (rounds turns : ℕ) → JobState
  replay : (image choices : Text) → (raw : Bool) → SettingsState → GivenState → JobState
  storm : (number : ℕ) → SettingsState → (loops events : ℕ) → JobState
  assemble : (source : Text) → JobState
  disassemble : (image : Text) → JobState

abbrev pub job_seen : Job → JobState
job_seen (job.Simulate image raw settings draw events) = simulate (string_bytes image) raw (settings_seen settings) draw events
job_seen (job.Run image raw settings rounds turns) = run (string_bytes image) raw (settings_seen settings) rounds turns
job_seen (job.Replay image choices raw settings given) = replay (string_bytes image) (string_bytes choices) raw (settings_seen settings) (given_seen given)
job_seen (job.Storm number settings loops events) = storm number (settings_seen settings) loops events
job_seen (job.Assemble source) = assemble (string_bytes source)
job_seen (job.Disassemble image) = disassemble (string_bytes image)

-- the command's own words, where there is just one, or two
abbrev pub one_of : Option Text → Option Text → Option Text
one_of (Some w) None = Some w
one_of first second = None

abbrev pub two_of : Option Text → Option Text → Option (Text × Text)
two_of (Some w) (Some v) = Some (w, v)
two_of first second = None

abbrev pub simulate_job : ReadingState → SettingsState → Option JobState
simulate_job r s =
    option_and_then (λ image.
    option_and_then (λ draw.
    option_and_then (λ events. Some (simulate image r.raw s (unwrap_or draw 1) (unwrap_or events 1000000)))
    (number_of Events 0 4000000 r.chosen))
    (number_of Draw 0 (2 ^ 64 - 1) r.chosen))
    (one_of r.first r.second)

-- how many turns of all actors a round has
abbrev pub turns_of_round : (nodes turns : ℕ) → ℕ
turns_of_round nodes turns = turns * (nodes + 1)

abbrev pub default_rounds : (nodes turns : ℕ) → ℕ
default_rounds nodes turns = min 2000 (4000000 / turns_of_round nodes turns)

abbrev pub run_with : Text → ReadingState → SettingsState → (rounds turns : ℕ) → Option JobState
run_with image r s rounds turns = if nat_le (rounds * turns_of_round s.nodes turns) 4000000 then Some (run image r.raw s rounds turns) else None

abbrev pub run_job : ReadingState → SettingsState → Option JobState
run_job r s =
    option_and_then (λ image.
    option_and_then (λ chosen.
    option_and_then (λ rounds. let turns = unwrap_or chosen 64 in run_with image r s (unwrap_or rounds (default_rounds s.nodes turns)) turns)
    (number_of Rounds 0 10000 r.chosen))
    (number_of Turns 1 1000 r.chosen))
    (one_of r.first r.second)

abbrev pub replay_job : ReadingState → GivenState → SettingsState → Option JobState
replay_job r g s = option_map (λ p. replay p.0 p.1 r.raw s g) (two_of r.first r.second)

abbrev pub storm_job : ReadingState → SettingsState → Option JobState
storm_job r s =
    option_and_then (λ word.
    option_and_then (λ number.
    option_and_then (λ loops.
    option_and_then (λ events. Some (storm number s (unwrap_or loops 200) (unwrap_or events 1000000)))
    (number_of Events 0 4000000 r.chosen))
    (number_of Loops 1 2047 r.chosen))
    (number_in 0 (2 ^ 64 - 1) word))
    (one_of r.first r.second)

abbrev pub assemble_job : ReadingState → Option JobState
assemble_job r = option_map (λ source. assemble source) (one_of r.first r.second)

abbrev pub disassemble_job : ReadingState → Option JobState
disassemble_job r = option_map (λ image. disassemble image) (one_of r.first r.second)

abbrev pub command_job : Command → ReadingState → GivenState → SettingsState → Option JobState
command_job Simulate r g s = simulate_job r s
command_job Run r g s = run_job r s
command_job Replay r g s = replay_job r g s
command_job Storm r g s = storm_job r s
command_job Assemble r g s = assemble_job r
command_job Disassemble r g s = disassemble_job r

-- none where an option still waits for its value
abbrev pub job_in : Command → ReadingState → Option JobState
job_in command r =
    if is_some r.waiting then None else option_and_then (λ g. option_and_then (λ s. command_job command r g s) (settings_of g)) (given_of r.chosen)

-- the job that the words ask for; None where they are refused
abbrev pub job_of : List Text → Option JobState
job_of [] = None
job_of (first ∷ words) = option_and_then (λ command. option_and_then (λ r. job_in command r) (read_from command words nothing_read)) (command_of first)

-- the numbers of a job on which what it asks for may rest: the loops of a storm, and the turns of a run in threads
abbrev pub IsWithin : JobState → Type 0
IsWithin (storm number settings loops events) = (1 ≤ loops) × (loops ≤ 2047)
IsWithin (run image raw settings rounds turns) = rounds * turns_of_round settings.nodes turns ≤ 4000000
IsWithin other = Unit {0}

-- A choice is refused exactly where it has no step, but for a take whose message has no row.
use Rattle.std.proofs.Common.{◌≡◌, ℕ, Bool, true, false, cond, nat_eq, Option, Some, None, Result, Ok, Err, refl, subst, sym}
use Rattle.std.specs.Prelude.{slice_get, IsSome, if◌then◌else◌}
use Rattle.std.proofs.lemmas.Bool.{false≢true}
use Rattle.og_base.specs.declared.NotEnabled.{NotEnabled}
use Rattle.og_base.specs.declared.NotEnabled.TheVariants.{NoMessage}
use Rattle.og_runs.specs.declared.Choice.{Choice}
use Rattle.og_runs.specs.declared.Choice.TheVariants.{Act, Take}
use Rattle.og_runs.specs.declared.Msg.{Msg}
use Rattle.og_runs.specs.declared.MsgId.{MsgId}
use Rattle.og_runs.specs.declared.Seat.{Seat}
use Rattle.og_runs.specs.Runs.{Outcome}
use Rattle.og_runs.specs.World.{world_step, world_move, world_move_with, world_take, find}
use Rattle.og_msg.specs.declared.Kind.{Kind}
use Rattle.og_msg.specs.declared.Note.{Note}
use Rattle.og_machine.specs.Machine.{Setup, ActorState, Machine, rules, can_act, acting, where_enabled, act_of, has_row, taking, take_of, refusal_by, act_refusal, take_refusal, refusal_of}

module _ (setup : Setup) (w : Machine) where
  -- ---- acts

  enabled : (a : ℕ) (x : Seat ActorState) (may : Result (Unit {0}) NotEnabled) (made : Outcome ActorState Kind Note) → refusal_by may ≡ None → IsSome (world_move_with w a x None (where_enabled may made))
  enabled a x (Ok u) made is = refl
  enabled a x (Err why) made is = absurd (cc)

  allowed : (a : ℕ) (x : Seat ActorState) (may : Result (Unit {0}) NotEnabled) (made : Outcome ActorState Kind Note) → IsSome (world_move_with w a x None (where_enabled may made)) → refusal_by may ≡ None
  allowed a x (Ok u) made some = refl
  allowed a x (Err why) made some = absurd (false≢true some)

  pub act_step : (a : ℕ) (o : Option (Seat ActorState)) → act_refusal setup o ≡ None → IsSome (world_move (rules setup) w a None o)
  unfolding act_of
  act_step a None is = absurd (cc)
  act_step a (Some x) is = enabled a x (can_act setup x.local) (acting setup x.local) is

  pub act_allowed : (a : ℕ) (o : Option (Seat ActorState)) → IsSome (world_move (rules setup) w a None o) → act_refusal setup o ≡ None
  unfolding act_of
  act_allowed a None some = absurd (false≢true some)
  act_allowed a (Some x) some = allowed a x (can_act setup x.local) (acting setup x.local) some

  -- ---- takes

  seated : (a : ℕ) (m : Msg Kind) (o : Option (Seat ActorState)) → nat_eq m.to a ≡ true → IsSome (world_move (rules setup) w a (Some m) o) → take_refusal a o (Some m) ≡ None
  seated a m None to some = absurd (false≢true some)
  seated a m (Some x) to some = rw to refl

  addressed : (a : ℕ) (m : Msg Kind) (is_mine : Bool) → nat_eq m.to a ≡ is_mine → IsSome (cond is_mine (world_move (rules setup) w a (Some m) (slice_get w.seats a)) None) → take_refusal a (slice_get w.seats a) (Some m) ≡ None
  addressed a m true to some = seated a m (slice_get w.seats a) to some
  addressed a m false to some = absurd (false≢true some)

  pub take_allowed : (a : ℕ) (found : Option (Msg Kind)) → IsSome (world_take (rules setup) w a found) → take_refusal a (slice_get w.seats a) found ≡ None
  take_allowed a None some = absurd (false≢true some)
  take_allowed a (Some m) some = addressed a m (nat_eq m.to a) refl some

  with_row : (a : ℕ) (x : Seat ActorState) (m : Msg Kind) (row : Bool) (made : Outcome ActorState Kind Note) → row ≡ true → IsSome (world_move_with w a x (Some m) (if row then Some made else None))
  with_row a x m true made is = refl
  with_row a x m false made is = absurd (false≢true is)

  moved : (a : ℕ) (x : Seat ActorState) (m : Msg Kind) → has_row x.local m ≡ true → IsSome (world_move (rules setup) w a (Some m) (Some x))
  unfolding take_of
  moved a x m row = with_row a x m (has_row x.local m) (taking setup x.local m) row

  taken : (a : ℕ) (x : Seat ActorState) (m : Msg Kind) (is_mine : Bool) → slice_get w.seats a ≡ Some x → has_row x.local m ≡ true → (if is_mine then None else Some NoMessage) ≡ None → IsSome (cond is_mine (world_move (rules setup) w a (Some m) (slice_get w.seats a)) None)
  taken a x m true there row is = subst (λ o. IsSome (world_move (rules setup) w a (Some m) o)) (sym there) (moved a x m row)
  taken a x m false there row is = absurd (cc)

  pub take_step : (a : ℕ) (id : MsgId) (x : Seat ActorState) (m : Msg Kind) → refusal_of setup w (Take a id) ≡ None → slice_get w.seats a ≡ Some x → find id w.flight ≡ Some m → has_row x.local m ≡ true → IsSome (world_step (rules setup) w (Take a id))
  unfolding refusal_of
  take_step a id x m is there found row =
      subst (λ o. IsSome (world_take (rules setup) w a o)) (sym found)
      (taken a x m (nat_eq m.to a) there row (subst (λ o. take_refusal a o (Some m) ≡ None) there (subst (λ o. take_refusal a (slice_get w.seats a) o ≡ None) found is)))

  pub step_allowed : (choice : Choice) → IsSome (world_step (rules setup) w choice) → refusal_of setup w choice ≡ None
  unfolding refusal_of
  step_allowed (Act a) some = act_allowed a (slice_get w.seats a) some
  step_allowed (Take a id) some = take_allowed a (find id w.flight) some

  pub act_exact : (a : ℕ) → (refusal_of setup w (Act a) ≡ None → IsSome (world_step (rules setup) w (Act a))) × (IsSome (world_step (rules setup) w (Act a)) → refusal_of setup w (Act a) ≡ None)
  unfolding refusal_of
  act_exact a = (act_step a (slice_get w.seats a), act_allowed a (slice_get w.seats a))

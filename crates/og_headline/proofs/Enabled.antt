-- An enabled choice isn't refused.
use Rattle.std.proofs.Common.{◌≡◌, ◌∙◌, ℕ, zero, suc, ◌+◌, Bool, true, false, nat_eq, cond, ◌⊎◌, inl, inr, arith, refl, sym, ap, subst, Option, None, Some, Result, Ok, Err, List, [], ◌∷◌, ◌++◌, map}
use Rattle.std.specs.Prelude.{slice_get, if◌then◌else◌}
use Rattle.og_base.specs.declared.NotEnabled.{NotEnabled}
use Rattle.og_base.specs.declared.NotEnabled.TheVariants.{NoMessage}
use Rattle.og_runs.specs.declared.Choice.{Choice}
use Rattle.og_runs.specs.declared.Choice.TheVariants.{Act, Take}
use Rattle.og_runs.specs.declared.Msg.{Msg}
use Rattle.og_runs.specs.declared.Seat.{Seat}
use Rattle.og_runs.specs.World.{find, Distinct}
use Rattle.og_flight.specs.Flight.{messages_to}
use Rattle.og_msg.specs.declared.Kind.{Kind}
use Rattle.og_machine.specs.Machine.{Setup, ActorState, Machine, can_act, refusal_of, refusal_by, act_refusal, take_refusal, message_refusal}
use Rattle.og_drain_facts.proofs.Choices.{IsIn, found_in}
use Rattle.og_machine.specs.Choices.{act_by, takes_of, enabled_from, enabled_of}

-- ---- what stands in two lists, one behind the other

abbrev Either : {X : Type 0} → List X → List X → X → Type 0
Either {X} xs ys x = ((i : ℕ) × (slice_get xs i ≡ Some x)) ⊎ ((i : ℕ) × (slice_get ys i ≡ Some x))

in_either : {X : Type 0} → (xs ys : List X) (i : ℕ) (x : X) → slice_get (xs ++ ys) i ≡ Some x → Either xs ys x
in_either [] ys i x e = inr (i, e)
in_either (y ∷ xs) ys zero x e = inl (zero, e)
in_either (y ∷ xs) ys (suc i) x e = elim (in_either xs ys i x e) [
  | inl a ↦ inl (suc a.0, a.1)
  | inr b ↦ inr b
]

-- ---- the takes of an actor

abbrev TakeOf : ℕ → List (Msg Kind) → Choice → Type 0
TakeOf actor ms choice = (m : Msg Kind) × IsIn m ms × (nat_eq m.to actor ≡ true) × (choice ≡ Take actor m.id)

take_of_list : (actor : ℕ) (ms : List (Msg Kind)) (i : ℕ) (choice : Choice) → slice_get (takes_of actor ms) i ≡ Some choice → TakeOf actor ms choice
take_of_list actor [] i choice e = absurd (cc)
take_of_list actor (m ∷ ms) i choice e = by (λ k f. take_of_list actor ms k choice f) (nat_eq m.to actor) refl i e
  where
    later : TakeOf actor ms choice → TakeOf actor (m ∷ ms) choice
    later t = (t.0, inr t.1, t.2, t.3)

    by : ((k : ℕ) → slice_get (takes_of actor ms) k ≡ Some choice → TakeOf actor ms choice) → (t : Bool) → nat_eq m.to actor ≡ t → (k : ℕ) → slice_get (map (λ (n : Msg Kind). Take actor n.id) (cond t (m ∷ messages_to actor ms) (messages_to actor ms))) k ≡ Some choice → TakeOf actor (m ∷ ms) choice
    by rest true u zero f = let same : Take actor m.id ≡ choice = cc in (m, inl refl, u, sym same)
    by rest true u (suc k) f = later (rest k f)
    by rest false u k f = later (rest k f)

-- ---- which choice an enabled one is

abbrev ActOf : Setup → List (Seat ActorState) → ℕ → Choice → Type 0
ActOf setup xs k choice = (a : ℕ) × (x : Seat ActorState) × (slice_get xs a ≡ Some x) × (can_act setup x.local ≡ Ok tt) × (choice ≡ Act (k + a))

abbrev TakeBy : List (Seat ActorState) → List (Msg Kind) → ℕ → Choice → Type 0
TakeBy xs ms k choice = (a : ℕ) × (x : Seat ActorState) × (slice_get xs a ≡ Some x) × TakeOf (k + a) ms choice

act_is : (k : ℕ) (may : Result (Unit {0}) NotEnabled) (i : ℕ) (choice : Choice) → slice_get (act_by k may) i ≡ Some choice → (may ≡ Ok tt) × (choice ≡ Act k)
act_is k (Ok u) zero choice e = let same : Act k ≡ choice = cc in (refl, sym same)
act_is k (Ok u) (suc i) choice e = absurd (cc)
act_is k (Err why) i choice e = absurd (cc)

enabled_is : (setup : Setup) (k : ℕ) (xs : List (Seat ActorState)) (ms : List (Msg Kind)) (i : ℕ) (choice : Choice) → slice_get (enabled_from setup k xs ms) i ≡ Some choice → ActOf setup xs k choice ⊎ TakeBy xs ms k choice
enabled_is setup k [] ms i choice e = absurd (cc)
enabled_is setup k (x ∷ xs) ms i choice e = elim (in_either (act_by k (can_act setup x.local)) (takes_of k ms ++ enabled_from setup (suc k) xs ms) i choice e) [
  | inl a ↦ (let act = act_is k (can_act setup x.local) a.0 choice a.1 in inl (zero, x, refl, act.0, act.1 ∙ ap (λ (n : ℕ). Act n) (here k)))
  | inr b ↦ elim (in_either (takes_of k ms) (enabled_from setup (suc k) xs ms) b.0 choice b.1) [
    | inl c ↦ inr (zero, x, refl, subst (λ (n : ℕ). TakeOf n ms choice) (here k) (take_of_list k ms c.0 choice c.1))
    | inr d ↦ elim (enabled_is setup (suc k) xs ms d.0 choice d.1) [
      | inl f ↦ inl (suc f.0, f.1, f.2, f.3, f.4 ∙ ap (λ (n : ℕ). Act n) (next k f.0))
      | inr g ↦ inr (suc g.0, g.1, g.2, subst (λ (n : ℕ). TakeOf n ms choice) (next k g.0) g.3)
    ]
  ]
]
  where
    here : (n : ℕ) → n ≡ n + 0
    here n = omega arith

    next : (n a : ℕ) → suc n + a ≡ n + suc a
    next n a = omega arith

-- ---- none of them is refused

act_free : (setup : Setup) (w : Machine) (a : ℕ) (x : Seat ActorState) → slice_get w.seats a ≡ Some x → can_act setup x.local ≡ Ok tt → refusal_of setup w (Act a) ≡ None
unfolding refusal_of
act_free setup w a x there may = ap (act_refusal setup) there ∙ ap refusal_by may

take_free : (setup : Setup) (w : Machine) (a : ℕ) (x : Seat ActorState) (m : Msg Kind) → slice_get w.seats a ≡ Some x → find m.id w.flight ≡ Some m → nat_eq m.to a ≡ true → refusal_of setup w (Take a m.id) ≡ None
unfolding refusal_of
take_free setup w a x m there found mine =
    ap (λ (o : Option (Seat ActorState)). take_refusal a o (find m.id w.flight)) there ∙ (ap (message_refusal a) found ∙ ap (λ (t : Bool). if t then None else Some NoMessage) mine)

pub enabled_free : (setup : Setup) (w : Machine) (i : ℕ) (choice : Choice) → Distinct w.flight → slice_get (enabled_of setup w) i ≡ Some choice → refusal_of setup w choice ≡ None
unfolding enabled_of
enabled_free setup w i choice distinct e = elim (enabled_is setup 0 w.seats w.flight i choice e) [
  | inl f ↦ subst (λ (c : Choice). refusal_of setup w c ≡ None) (sym (f.4 ∙ ap (λ (n : ℕ). Act n) (plain f.0))) (act_free setup w f.0 f.1 f.2 f.3)
  | inr g ↦ (let mine : nat_eq g.3.0.to g.0 ≡ true = subst (λ (n : ℕ). nat_eq g.3.0.to n ≡ true) (plain g.0) g.3.2 in
      subst (λ (c : Choice). refusal_of setup w c ≡ None) (sym (g.3.3 ∙ ap (λ (n : ℕ). Take n g.3.0.id) (plain g.0))) (take_free setup w g.0 g.1 g.3.0 g.2 (found_in g.3.0 w.flight distinct g.3.1) mine))
]
  where
    plain : (a : ℕ) → 0 + a ≡ a
    plain a = omega arith

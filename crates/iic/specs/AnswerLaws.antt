-- Laws: a step that follows another one. Assumes nothing.
use Rattle.domain.specs.declared.Domain.{Domain}
use Rattle.iic.specs.Answers.{Stepped, and_then, fine, go_on}
use Rattle.iic.specs.Inside.{went_on}
use Rattle.iic.specs.Kick.{kick_of}
use Rattle.iic.specs.Settled.{settled}
use Rattle.iic.specs.SettledLaws.{settled_kick}
use Rattle.iic.specs.Waiting.{schedule_filter_of, start_filter_of, wants_filter}
use Rattle.iic.specs.declared.Iic.{Iic}
use Rattle.time.specs.Truths.{unnot}
use Rattle.time.specs.declared.Time.{Time}
use Rattle.std.specs.Prelude.{Bool, ◌&&◌, cond, false, not, true, ◌≡◌, refl, Err, Ok, Result, ⊤}
use Rattle.std.proofs.lemmas.Bool.{false≢true}
use Rattle.std.proofs.Common.{true≢false, ◌∙◌}
use Rattle.std.proofs.Math.Path.{sym}
use Rattle.refusals.specs.declared.Refusal.{Refusal}

pub finished : (e : Result ⊤ Refusal) → went_on e ≡ true → e ≡ (Ok tt)
finished (Ok u) h = refl
finished (Err n) h = absurd (false≢true h)

module _ (f : Iic → Stepped) where
  went_in : (e : Result ⊤ Refusal) (o : Stepped) → went_on e ≡ true → go_on e o f ≡ f o.state
  went_in (Ok u) o h = refl
  went_in (Err n) o h = absurd (false≢true h)

  stopped_in : (e : Result ⊤ Refusal) (o : Stepped) → went_on e ≡ false → go_on e o f ≡ o
  stopped_in (Ok u) o h = absurd (true≢false h)
  stopped_in (Err n) o h = refl

  rests_in_lem : (e : Result ⊤ Refusal) (s : Iic) → f s ≡ fine s → go_on e (record { answer = e; state = s }) f ≡ record { answer = e; state = s }
  rests_in_lem (Ok u) s h = h
  rests_in_lem (Err n) s h = refl

  both_in : (e : Result ⊤ Refusal) (o : Stepped) (b : Bool) → (went_on e && b) ≡ true → (go_on e o f ≡ f o.state) × (b ≡ true)
  both_in (Ok u) o b h = (refl, h)
  both_in (Err n) o b h = absurd (false≢true h)

  kept_in : (e : Result ⊤ Refusal) (s : Iic) (b : Bool) → (went_on e && b) ≡ false → (b ≡ false → f s ≡ fine s) →
      go_on e (record { answer = e; state = s }) f ≡ record { answer = e; state = s }
  kept_in (Ok u) s b h k = k h
  kept_in (Err n) s b h k = refl

  alike_in : (g : Iic → Stepped) (e : Result ⊤ Refusal) (o : Stepped) → f o.state ≡ g o.state → go_on e o f ≡ go_on e o g
  alike_in g (Ok u) o h = h
  alike_in g (Err n) o h = refl

module _ (o : Stepped) (f : Iic → Stepped) where
  -- the step before went through
  pub went : went_on o.answer ≡ true → and_then o f ≡ f o.state
  went h = went_in f o.answer o h

  -- it was refused
  pub stopped : went_on o.answer ≡ false → and_then o f ≡ o
  stopped h = stopped_in f o.answer o h

  -- the step changes nothing
  pub rests : f o.state ≡ fine o.state → and_then o f ≡ o
  rests h = rests_in_lem f o.answer o.state h

  -- the step before went through, and b holds
  pub both : (b : Bool) → (went_on o.answer && b) ≡ true → (and_then o f ≡ f o.state) × (b ≡ true)
  both b h = both_in f o.answer o b h

  -- it was refused, or the step changes nothing where b doesn't hold
  pub kept : (b : Bool) → (went_on o.answer && b) ≡ false → (b ≡ false → f o.state ≡ fine o.state) → and_then o f ≡ o
  kept b h k = kept_in f o.answer o.state b h k

  -- two steps that are one from here
  pub alike : (g : Iic → Stepped) → f o.state ≡ g o.state → and_then o f ≡ and_then o g
  alike g h = alike_in f g o.answer o h

pub either : (b : Bool) (o : Stepped) → cond b o o ≡ o
either true o = refl
either false o = refl

-- the side of a test that was taken
pub held_by : (b : Bool) → b ≡ true → (x y : Stepped) → x ≡ cond b x y
held_by true h x y = refl
held_by false h x y = absurd (false≢true h)

pub failed_by : (b : Bool) → b ≡ false → (x y : Stepped) → y ≡ cond b x y
failed_by true h x y = absurd (true≢false h)
failed_by false h x y = refl

-- ## The filter's wait and the kick, tested before they are called

module _ (now : Time) (system : Domain) (o : Stepped) where
  pub scheduled : (went_on o.answer && wants_filter o.state) ≡ true → start_filter_of now system o.state ≡ and_then o (schedule_filter_of now system)
  unfolding schedule_filter_of
  scheduled h = let b = both o (schedule_filter_of now system) (wants_filter o.state) h in sym (b.0 ∙ rw b.1 refl)

  pub unscheduled : (went_on o.answer && wants_filter o.state) ≡ false → o ≡ and_then o (schedule_filter_of now system)
  unfolding schedule_filter_of
  unscheduled h = sym (kept o (schedule_filter_of now system) (wants_filter o.state) h (λ e. rw e refl))

  pub kicked : (went_on o.answer && not (settled o.state)) ≡ true → kick_of now system o.state ≡ and_then o (kick_of now system)
  kicked h = sym (both o (kick_of now system) (not (settled o.state)) h).0

  pub unkicked : (went_on o.answer && not (settled o.state)) ≡ false → o ≡ and_then o (kick_of now system)
  unkicked h =
      sym (kept o (kick_of now system) (not (settled o.state)) h (λ e. settled_kick now system o.state (unnot (settled o.state) e)))

  pub due_unsettled : (went_on o.answer && not (settled o.state)) ≡ true → settled o.state ≡ false
  due_unsettled h = unnot (settled o.state) (both o (kick_of now system) (not (settled o.state)) h).1

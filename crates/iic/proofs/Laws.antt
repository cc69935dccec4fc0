-- Laws of a step that follows another one, and of what registers show. Assumes nothing.
use Rattle.std.specs.Prelude.{Bool, Err, Ok, Result, false, true, ⊤}
use Rattle.frames.specs.Parts.{shown_count}
use Rattle.iic.specs.Answers.{Stepped, and_then, fine, go_on}
use Rattle.iic.specs.Clocking.{firing}
use Rattle.iic.specs.Inside.{due_after}
use Rattle.iic.specs.Reading.{peek_at}
use Rattle.iic.specs.declared.Iic.{Iic}
use Rattle.refusals.specs.declared.Refusal.{Refusal}
use Rattle.registers.specs.Registers.{shown}
use Rattle.registers.specs.declared.Register.TheVariants.{ICCR1, ICCR2, ICDRR, ICDRT, ICIER, ICMR, ICSR, SAR}
use Rattle.registers.specs.declared.Register.{Register}
use Rattle.waits.specs.Ends.{acts}
use mathlib.Core.Bool.{false≢true, true≢false}
use mathlib.Core.Path.{◌≡◌, ◌∙◌, ap, refl, sym}

-- ## Firing

idle : (d : Result Bool Refusal) (s : Iic) (x : Stepped) → acts d ≡ false → firing d s x ≡ fine s
idle (Ok true) s x h = absurd (true≢false h)
idle (Ok false) s x h = refl
idle (Err n) s x h = absurd (true≢false h)

-- a step f that is x where d is due, looked at as z after the step before
module _ (f : Iic → Stepped) (d z : Result Bool Refusal) (x : Stepped) where
  acted_in : (e : Result ⊤ Refusal) (o : Stepped) → f o.state ≡ firing d o.state x → z ≡ due_after e d → acts z ≡ true → firing z o.state x ≡ go_on e o f
  acted_in (Ok u) o i h a = ap (λ (y : Result Bool Refusal). firing y o.state x) h ∙ sym i
  acted_in (Err n) o i h a = absurd (false≢true (ap acts (sym h) ∙ a))

  idled_in : (e : Result ⊤ Refusal) (s : Iic) → f s ≡ firing d s x → z ≡ due_after e d → acts z ≡ false →
      record { answer = e; state = s } ≡ go_on e (record { answer = e; state = s }) f
  idled_in (Ok u) s i h a = sym (i ∙ idle d s x (ap acts (sym h) ∙ a))
  idled_in (Err n) s i h a = refl

  module _ (o : Stepped) (i : f o.state ≡ firing d o.state x) (h : z ≡ due_after o.answer d) where
    pub acted : acts z ≡ true → firing z o.state x ≡ and_then o f
    acted a = acted_in o.answer o i h a

    pub idled : acts z ≡ false → o ≡ and_then o f
    idled a = idled_in o.answer o.state i h a

-- ## Registers

-- what the registers' own definition shows, of the peripheral
pub shown_is : (x : Register) (s : Iic) →
    shown x s.lines.drive s.flags.busy s.flags.reset (shown_count s.frame s.registers.count) s.registers ≡ peek_at x s
unfolding peek_at
shown_is ICCR1 s = refl
shown_is ICCR2 s = refl
shown_is ICMR s = refl
shown_is ICIER s = refl
shown_is ICSR s = refl
shown_is SAR s = refl
shown_is ICDRT s = refl
shown_is ICDRR s = refl

-- Laws: a unit that keeps the rules keeps them with other waits that they allow, and the steps that ask no clock keep them. Assumes nothing.
use Rattle.std.specs.Prelude.{Bool, true, false, ◌≡◌, refl, None, Option, Some}
use Rattle.std.proofs.Common.{true≢false, sym, ◌∙◌, subst}
use Rattle.domain.specs.declared.Domain.{Domain}
use Rattle.iic.specs.State.{is_condition, is_hold}
use Rattle.iic.specs.declared.Condition.{Condition}
use Rattle.iic.specs.declared.Hold.{Hold}
use Rattle.time.specs.declared.Time.{Time}
use Rattle.waits.specs.Ends.{is_half}
use Rattle.rates.specs.Rates.{rates_hold}
use Rattle.rates.specs.declared.Rates.{Rates}
use Rattle.wires.specs.Rules.{Held, Lawful, Monitored, Rules}
use Rattle.iic.specs.Timing.{Dropping, Timing, halved, moved, prepared, switched}
use Rattle.wires.specs.Views.{View}
use Rattle.clocks.specs.declared.wait.ClockWait.{ClockWait}
use Rattle.waits.specs.declared.HalfWait.{HalfWait}

module _ {R : Rules} {r : Rates} {v : View} {t : Timing} (k : Held R r v t) where
  pub halve : (c m : Option HalfWait) (x : Condition) (h : Hold) → R.Clock c → Monitored R m c x h → Held R r v (halved c m x h t)
  halve c m x h f g = record { on = k.on; raw = k.raw; latch = k.latch; filtered = k.filtered; filter = k.filter; clock = f; monitor = g; setup = k.setup; rates = k.rates }

  pub switch : (b : Bool) → R.On b → Held R r v (switched b t)
  switch b f = record { on = f; raw = k.raw; latch = k.latch; filtered = k.filtered; filter = k.filter; clock = k.clock; monitor = k.monitor; setup = k.setup; rates = k.rates }

  pub prepare : (w : Option ClockWait) → R.Setup w → Held R r v (prepared w t)
  prepare w f = record { on = k.on; raw = k.raw; latch = k.latch; filtered = k.filtered; filter = k.filter; clock = k.clock; monitor = k.monitor; setup = f; rates = k.rates }

pub unmonitored : (R : Rules) (m c : Option HalfWait) (x : Condition) (h : Hold) → m ≡ None → Monitored R m c x h
unmonitored R m c x h e = subst (λ (y : Option HalfWait). Monitored R y c x h) (sym e) tt

pub no_monitor : Dropping (λ t. t.monitor ≡ None)
no_monitor = record { monitor = λ x h t e. refl; both = λ x h t e. refl }

module _ {now : Time} {system : Domain} {R : Rules} {r : Rates} (L : Lawful now system R r) where
  -- the steps that ask no clock
  pub dropping : (v : View) → Dropping (Held R r v)
  dropping v = record {
    monitor = λ x h t k. halve k t.clock None x h k.clock tt;
    both = λ x h t k. halve k None None x h L.no_clock tt;
  }

  -- where the monitor doesn't wait the condition may be any
  pub any_condition : {v : View} {t : Timing} → t.monitor ≡ None → Held R r v t → (x : Condition) → Held R r v (moved x t)
  any_condition {v} {t} e k x = halve k t.clock t.monitor x t.hold k.clock (unmonitored R t.monitor t.clock x t.hold e)

  -- the unit's rate set isn't refused
  pub accepted : {v : View} {t : Timing} → Held R r v t → rates_hold t.rates ≡ true
  accepted k = subst (λ (x : Rates). rates_hold x ≡ true) (sym k.rates) L.accepted

  -- ## Where the monitor doesn't wait

  pub beside_no_clock : (m c : Option HalfWait) (x : Condition) (h : Hold) → is_half c ≡ false → Monitored R m c x h → m ≡ None
  beside_no_clock None c x h e g = refl
  beside_no_clock (Some w) None x h e g = absurd (L.clocked w x h g)
  beside_no_clock (Some w) (Some u) x h e g = absurd (true≢false e)

  pub in_condition : (m c : Option HalfWait) (x : Condition) (h : Hold) → is_condition x ≡ true → Monitored R m c x h → m ≡ None
  in_condition None c x h e g = refl
  in_condition (Some w) c x h e g = absurd (true≢false (sym e ∙ (L.uncalled w c x h g).0))

  pub in_hold : (m c : Option HalfWait) (x : Condition) (h : Hold) → is_hold h ≡ true → Monitored R m c x h → m ≡ None
  in_hold None c x h e g = refl
  in_hold (Some w) c x h e g = absurd (true≢false (sym e ∙ (L.uncalled w c x h g).1))

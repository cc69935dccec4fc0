-- Definitions: the part of a state that waits and levels make up, for facts on it that the steps without a clock keep. No definition of a call cites it.
use Rattle.std.specs.Prelude.{Bool, None, Option}
use Rattle.bus.specs.declared.Levels.{Levels}
use Rattle.iic.specs.State.{awake}
use Rattle.iic.specs.declared.Condition.{Condition}
use Rattle.iic.specs.declared.Hold.{Hold}
use Rattle.iic.specs.declared.Iic.{Iic}
use Rattle.rates.specs.declared.Rates.{Rates}
use Rattle.clocks.specs.declared.wait.ClockWait.{ClockWait}
use Rattle.waits.specs.declared.HalfWait.{HalfWait}

-- whether it is enabled with its gate on, the levels that the filter holds, the four waits, the condition and the hold under way, the rate set
pub record Timing : Type 0 where
  pub on : Bool
  pub raw : Levels
  pub latch : Levels
  pub filtered : Levels
  pub clock : Option HalfWait
  pub monitor : Option HalfWait
  pub condition : Condition
  pub hold : Hold
  pub filter : Option ClockWait
  pub setup : Option ClockWait
  pub rates : Rates

abbrev pub timing_of : Iic → Timing
timing_of s = record {
  on = awake s;
  raw = s.lines.raw;
  latch = s.lines.latch;
  filtered = s.lines.filtered;
  clock = s.clock_wait;
  monitor = s.monitor_wait;
  condition = s.condition;
  hold = s.hold;
  filter = s.filter_wait;
  setup = s.setup_wait;
  rates = s.rates;
}

-- ## With some of it set anew

abbrev pub switched : Bool → Timing → Timing
switched b t = record { on = b; raw = t.raw; latch = t.latch; filtered = t.filtered; clock = t.clock; monitor = t.monitor; condition = t.condition; hold = t.hold; filter = t.filter; setup = t.setup; rates = t.rates }

abbrev pub halved : Option HalfWait → Option HalfWait → Condition → Hold → Timing → Timing
halved c m x h t = record { on = t.on; raw = t.raw; latch = t.latch; filtered = t.filtered; clock = c; monitor = m; condition = x; hold = h; filter = t.filter; setup = t.setup; rates = t.rates }

-- the condition goes on
abbrev pub moved : Condition → Timing → Timing
moved x t = halved t.clock t.monitor x t.hold t

-- another setup wait
abbrev pub prepared : Option ClockWait → Timing → Timing
prepared w t = record { on = t.on; raw = t.raw; latch = t.latch; filtered = t.filtered; clock = t.clock; monitor = t.monitor; condition = t.condition; hold = t.hold; filter = t.filter; setup = w; rates = t.rates }

-- ## Facts that a step without a clock keeps: they allow the monitor's wait, or both half waits, to be dropped, whatever condition and hold come then

pub record Dropping (P : Timing → Type 0) : Type 0 where
  pub monitor : (x : Condition) (h : Hold) (t : Timing) → P t → P (halved t.clock None x h t)
  pub both : (x : Condition) (h : Hold) (t : Timing) → P t → P (halved None None x h t)

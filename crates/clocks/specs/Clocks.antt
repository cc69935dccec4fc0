-- Definitions: the clock set (document 01, module 4; `Clocks` of clocks.rs). Refusal 1, a zero in any of its clocks, comes first.
use Rattle.std.specs.Prelude.{ℕ, ◌+◌, ◌*◌, ◌/◌, ◌%◌, Bool, true, ◌&&◌, ◌||◌, cond, eqb, ltb, Result, Ok, Err}
use Rattle.time.specs.declared.Time.{Time}
use Rattle.time.specs.declared.Clock.{Clock}
use Rattle.refusals.specs.declared.Refusal.{Refusal}
use Rattle.refusals.specs.declared.Refusal.TheVariants.{ZeroFrequency, ZeroDivider}
use Rattle.refusals.specs.Refusals.{and_then}
use Rattle.time.specs.Clock.{zero_in, after_of}
use Rattle.clocks.specs.declared.Frequencies.{Frequencies}
use Rattle.clocks.specs.declared.Clocks.{Clocks}
use Rattle.clocks.specs.declared.NewClocks.{NewClocks}
use Rattle.domain.specs.declared.Domain.{Domain}
use Rattle.clocks.specs.declared.tap.Source.{Source}
use Rattle.clocks.specs.declared.tap.Source.TheVariants.{System, Cpu, Watch, OnChip, Oscillator, Subclock}
use Rattle.clocks.specs.declared.tap.Tap.{Tap}
use Rattle.clocks.specs.declared.tap.Route.{Route}
use Rattle.clocks.specs.declared.tap.Route.TheVariants.{ThroughS, ThroughW, Direct}
use Rattle.counts.specs.Counts.{fits}
use Rattle.prescaler.specs.Prescaler.{fresh_s, fresh_w, stage_ticks, stage_high, stage_edge}
use Rattle.domain.specs.Domain.{running_from, domain_ticks, level_high}
use Rattle.clocks.specs.Tap.{within, route_of}

-- `Frequencies::default`
abbrev pub default_frequencies : Frequencies
default_frequencies = record { main_hz = 3686400; watch_hz = 32768; on_chip_hz = 1310720 }

-- a domain that runs from now on at hz / divide Hz
abbrev pub domain_at : Time → ℕ → ℕ → Domain
domain_at now hz divide = running_from now (record { start = now; numerator = hz; denominator = divide; ordinal = 0; fraction = 0 })

-- the system, the CPU and the oscillator at the main frequency, the subclock at an eighth of the watch's
unfoldable pub clock_set : Time → Frequencies → Clocks
clock_set now f = record {
  system = domain_at now f.main_hz 1;
  cpu = domain_at now f.main_hz 1;
  watch = domain_at now f.watch_hz 1;
  on_chip = domain_at now f.on_chip_hz 1;
  oscillator = domain_at now f.main_hz 1;
  subclock = domain_at now f.watch_hz 8;
  prescaler_s = fresh_s;
  prescaler_w = fresh_w;
}

-- a clock of the set holds a zero frequency or denominator, or a fraction that isn't below its numerator
unfoldable pub has_zero : Clocks → Bool
has_zero k =
    zero_in k.system.clock || zero_in k.cpu.clock || zero_in k.watch.clock || zero_in k.on_chip.clock
    || zero_in k.oscillator.clock || zero_in k.subclock.clock

-- `Clocks::new`: refusal 1 for a frequency of zero, which the set then holds
unfoldable pub new_clocks : Time → Frequencies → NewClocks
new_clocks now f = record { ended = cond (has_zero (clock_set now f)) (Err ZeroFrequency) (Ok tt); clocks = clock_set now f }

-- the domain that a source names
abbrev pub source_by : Clocks → Source → Domain
source_by k System = k.system
source_by k Cpu = k.cpu
source_by k Watch = k.watch
source_by k OnChip = k.on_chip
source_by k Oscillator = k.oscillator
source_by k Subclock = k.subclock

unfoldable pub source_of : Clocks → Source → Domain
source_of k s = source_by k s

-- the edges of a tap where n of its source were counted: 2 for the divider 0
unfoldable pub routed_ticks : Clocks → ℕ → ℕ → Route → Result ℕ Refusal
routed_ticks k d n (ThroughS s) = stage_ticks 13 k.prescaler_s.divider k.prescaler_s.emitted n s
routed_ticks k d n (ThroughW s) = stage_ticks 8 k.prescaler_w.divider k.prescaler_w.emitted (n / 4) s
routed_ticks k d n Direct = cond (eqb d 0) (Err ZeroDivider) (Ok (n / d))

-- `Clocks::ticks`
unfoldable pub tap_ticks : Clocks → Time → Tap → Result ℕ Refusal
tap_ticks k now t =
    cond (has_zero k) (Err ZeroFrequency)
    (and_then (domain_ticks (source_of k t.source) now) (λ n. routed_ticks k t.divide n (route_of t)))

-- the source's edge that is the tap's edge of that number
unfoldable pub routed_edge : Clocks → ℕ → ℕ → Route → Result ℕ Refusal
routed_edge k d n (ThroughS s) = stage_edge 13 k.prescaler_s.divider k.prescaler_s.emitted n s
routed_edge k d n (ThroughW s) =
    and_then (stage_edge 8 k.prescaler_w.divider k.prescaler_w.emitted n s) (λ m. fits (m * 4))
routed_edge k d n Direct = fits (n * d)

-- the time of a tap's edge, by its source's clock
abbrev pub edge_by : Clocks → Clock → ℕ → Tap → Result Time Refusal
edge_by k c n t = and_then (routed_edge k t.divide n (route_of t)) (after_of c)

-- `Clocks::edge`: the divider 0 is no refusal here
unfoldable pub tap_edge : Clocks → ℕ → Tap → Result Time Refusal
tap_edge k n t = cond (has_zero k) (Err ZeroFrequency) (edge_by k (source_of k t.source).clock n t)

-- `Clocks::after`
unfoldable pub tap_after : Clocks → Time → ℕ → Tap → Result Time Refusal
tap_after k now n t =
    and_then (tap_ticks k now t) (λ m. and_then (fits (m + n)) (λ target. tap_edge k target t))

-- the prescaler that a divider needs runs, a power of two or not
unfoldable pub fed_by : Clocks → Source → ℕ → Bool
fed_by k System d = cond (within 2 8192 d) k.prescaler_s.divider.running true
fed_by k Watch d = cond (within 8 1024 d) k.prescaler_w.divider.running true
fed_by k Cpu d = true
fed_by k OnChip d = true
fed_by k Oscillator d = true
fed_by k Subclock d = true

-- `Clocks::available`
unfoldable pub available_of : Clocks → Tap → Result Bool Refusal
available_of k t =
    cond (has_zero k) (Err ZeroFrequency) (Ok ((source_of k t.source).running && fed_by k t.source t.divide))

-- the level of a tap, high in the first half of its cycle; the dividers 0 and 1 show the source's own level
unfoldable pub routed_high : Clocks → Tap → Time → ℕ → Route → Result Bool Refusal
routed_high k t now n (ThroughS s) = stage_high 13 k.prescaler_s.divider n s
routed_high k t now n (ThroughW s) = stage_high 8 k.prescaler_w.divider (n / 4) s
routed_high k t now n Direct =
    cond (ltb t.divide 2) (level_high (source_of k t.source) now n) (Ok (ltb (n % t.divide) (t.divide / 2)))

-- `Clocks::high`
unfoldable pub tap_high : Clocks → Time → Tap → Result Bool Refusal
tap_high k now t =
    cond (has_zero k) (Err ZeroFrequency)
    (and_then (domain_ticks (source_of k t.source) now) (λ n. routed_high k t now n (route_of t)))

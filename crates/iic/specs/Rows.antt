-- Laws: the starred rows of document 01, as one table with one fact. Those on registers begin at the default.
use Rattle.std.specs.Prelude.{◌+◌, ◌^◌, ℕ, Bool, false, true, List, [], ◌∷◌, map, ◌≡◌, refl, Err, None, Ok, Option, Result, Some}
use Rattle.bus.specs.Bits.{flag}
use Rattle.clocks.specs.Clocks.{has_zero}
use Rattle.domain.specs.Domain.{domain_ticks, running_from}
use Rattle.clocks.specs.declared.Clocks.{Clocks}
use Rattle.frames.specs.Mirror.{mirror_of, ordered}
use Rattle.iic.specs.Reading.{read_at}
use Rattle.iic.specs.Writing.{send_on_of, write_at, write_control_of, write_data_of}
use Rattle.iic.specs.Answers.{guarded}
use Rattle.iic.specs.Calls.{guard_by, peek_of, pins_of, read_of, write_of}
use Rattle.iic.specs.Kick.{kick_of}
use Rattle.iic.specs.State.{default_iic, initial, stop_shifter_of}
use Rattle.iic.specs.declared.Iic.{Iic}
use Rattle.iic.specs.Reading.{peek_at}
use Rattle.registers.specs.Registers.{register_at}
use Rattle.iic.specs.Writing.{control_set, give_data_of, redirected, take_control_of, write_enable_of, write_mode_of, write_status_of}
use Rattle.iic.specs.Setters.{set_address}
use Rattle.iic.specs.Shift.{addressed_of, begin_frame_of, last_bit_of, load_transmit_of, matched_of, rising_data_of, rising_of, select_of, when_lost_of}
use Rattle.time.specs.Clock.{after_of, edge_of, edges_before_of, zero_in}
use Rattle.time.proofs.Laws.{edges_before_is}
use Rattle.time.specs.Time.{moment_of, next_time, time_of}
use Rattle.time.specs.declared.Clock.{Clock}
use Rattle.time.specs.declared.Time.{Time}
use Rattle.rates.specs.Rates.{default_rates, lengths_hold, monitor_below, monitor_halves, period_of, rate, rates_hold}
use Rattle.std.proofs.Common.{lit<, sym}
use Rattle.std.proofs.Math.Path.{subst}
use Rattle.bus.specs.declared.Levels.{Levels}
use Rattle.refusals.specs.Refusals.{number_of}
use Rattle.refusals.specs.declared.Refusal.{Refusal}

-- what a row shows, and what document 01 has
pub record Row : Type 0 where
  pub shown : ℕ
  pub expected : ℕ

abbrev row : ℕ → ℕ → Row
row n m = record { shown = n; expected = m }

-- 0 where `pins` is none
abbrev drives : Option Levels → ℕ
drives None = 0
drives (Some l) = 1

-- a time in units of 2^-64 s, and what no time is for a refusal
abbrev units : Result Time Refusal → ℕ
units (Ok t) = time_of t
units (Err n) = 2 ^ 128 + number_of n

-- a count, and what no count is for a refusal
abbrev number : Result ℕ Refusal → ℕ
number (Ok n) = n
number (Err n) = 2 ^ 64 + number_of n

abbrev at : ℕ → Time
at f = record { seconds = 0; fraction = f }

-- frequency 3, start 0
abbrev third : Clock
third = record { start = at 0; numerator = 3; denominator = 1; ordinal = 0; fraction = 0 }

-- the count of a running domain
abbrev ticks_at : ℕ → Result ℕ Refusal
ticks_at f = domain_ticks (running_from (at 0) third) (at f)

-- the bits of the byte a1 on SDA at eight rising edges of SCL, from a frame as `begin_frame` makes it, with SAR a0
abbrev addressed : Iic
addressed =
    rising_of true (rising_of false (rising_of false (rising_of false (rising_of false (rising_of true (rising_of false (rising_of true
    (begin_frame_of true (set_address 0xa0 default_iic)))))))))

-- the rows, by what a write of a byte and a read leave
unfoldable pub rows_of : (ℕ → ℕ → Iic → Iic) → (ℕ → Iic → Iic) → List Row
rows_of wrote saw =
    -- default registers 0 to 7
    row (peek_of default_iic 0) 0x00 ∷ row (peek_of default_iic 1) 0x7d ∷ row (peek_of default_iic 2) 0x38 ∷ row (peek_of default_iic 3) 0x00
    ∷ row (peek_of default_iic 4) 0x00 ∷ row (peek_of default_iic 5) 0x00 ∷ row (peek_of default_iic 6) 0xff ∷ row (peek_of default_iic 7) 0xff
    -- write 0 ← 10: status 80, pins none; then write 4 ← 00: 80; then read 4, write 4 ← 00: 00
    ∷ row (peek_of (wrote 0 0x10 default_iic) 4) 0x80
    ∷ row (drives (pins_of (wrote 0 0x10 default_iic))) 0
    ∷ row (peek_of (wrote 4 0 (wrote 0 0x10 default_iic)) 4) 0x80
    ∷ row (peek_of (wrote 4 0 (saw 4 (wrote 4 0 (wrote 0 0x10 default_iic)))) 4) 0x00
    -- write 3 ← ff reads fd; write 2 ← ff reads f8; write 2 ← 07 reads 3f; write 2 ← 80, write 6 ← 01: 6 reads 80
    ∷ row (peek_of (wrote 3 0xff default_iic) 3) 0xfd
    ∷ row (peek_of (wrote 2 0xff default_iic) 2) 0xf8
    ∷ row (peek_of (wrote 2 0x07 default_iic) 2) 0x3f
    ∷ row (peek_of (wrote 6 0x01 (wrote 2 0x80 default_iic)) 6) 0x80
    -- half clock: 0 gives 28, 7 128, 8 56, f 256
    ∷ row (period_of default_rates 0x0) 28 ∷ row (period_of default_rates 0x7) 128 ∷ row (period_of default_rates 0x8) 56 ∷ row (period_of default_rates 0xf) 256
    -- frequency 3, start 0: edge 1 at fraction 5555555555555555, edge 3 at 1 s
    ∷ row (units (after_of third 1)) 0x5555555555555555 ∷ row (units (after_of third 3)) (2 ^ 64)
    -- a running domain's count at 5555555555555554 is 0, one later 1
    ∷ row (number (ticks_at 0x5555555555555554)) 0 ∷ row (number (ticks_at 0x5555555555555555)) 1
    -- SAR a0, address byte a1: selected, ICCR1 bit 4 set
    ∷ row (flag addressed.flags.selected 1) 1
    ∷ row addressed.registers.control 0x10
    ∷ []

abbrev pub AllHold : List Row → Type 0
AllHold l = map (λ (r : Row). r.shown) l ≡ map (λ (r : Row). r.expected) l

module _ (now : Time) (k : Clocks) where
  abbrev pub rows : List Row
  rows = rows_of (λ a v s. (write_of s a v now k).state) (λ a s. (read_of s a now k).state)

  -- the same with the test for a zero clock open
  abbrev rows_by : Bool → List Row
  rows_by z =
      rows_of (λ a v s. (guarded (guard_by z s) s (write_at (register_at a) v now k.system s)).state)
      (λ a s. (guarded (guard_by z s) s (read_at (register_at a) now k.system s)).state)

  -- every row shows what document 01 has, over any clock set without a zero, at any time
  pub rows_hold : has_zero k ≡ false → AllHold rows
  unfolding rows_of begin_frame_of load_transmit_of register_at peek_at read_at write_at control_set redirected take_control_of write_control_of write_mode_of write_enable_of write_status_of give_data_of send_on_of write_data_of peek_of read_of write_of kick_of mirror_of ordered rising_of rising_data_of when_lost_of last_bit_of addressed_of matched_of select_of initial stop_shifter_of rate period_of rates_hold lengths_hold monitor_below monitor_halves after_of edge_of moment_of zero_in domain_ticks next_time edges_before_of
  rows_hold free =
      subst (λ (z : Bool). AllHold (rows_by z)) (sym free)
      (rw (edges_before_is third 0x5555555555555555 (lit< tt) (lit< tt), edges_before_is third 0x5555555555555556 (lit< tt) (lit< tt)) refl)

-- Definitions: what a status write can do to the flags, and what every reached state meets: the statements of request (j) of document 02. Their
-- proofs are `status_writes_lem`, `before_any_read_lem` and `reached_states_lem` in proofs/Runs.antt.
use Rattle.std.specs.Prelude.{ℕ, ◌≤◌, Bool, true, false, not, cond, List, [], ◌∷◌, ◌≡◌, eqb, Err, None, Ok, Option, Some}
use Rattle.std.specs.Int.Bits.{bit_and}
use Rattle.bus.specs.Bits.{has}
use Rattle.time.specs.declared.Time.{Time}
use Rattle.clocks.specs.declared.Clocks.{Clocks}
use Rattle.clocks.specs.Clocks.{has_zero}
use Rattle.frames.specs.declared.Phase.{Phase}
use Rattle.frames.specs.declared.Phase.TheVariants.{Ack, Data, Done}
use Rattle.registers.specs.Bits.{AAS, ADZ, AL, NACKF, RDRF, STOP, TDRE, TEND}
use Rattle.iic.specs.Calls.{guard_by, validate_of, waits_refusal}
use Rattle.iic.specs.Checks.{fell_by}
use Rattle.iic.specs.State.{initial}
use Rattle.rates.specs.Rates.{rates_hold}
use Rattle.rates.specs.declared.Rates.{Rates}
use Rattle.iic.specs.declared.Iic.{Iic}
use Rattle.hosts.specs.Calls.{Call, peek, read, write, input_pins, set_gate, deadline, advance, pins, interrupt, interrupt_with_enable, validate, Made, call_of, outcome_of}
use Rattle.iic.specs.Told.{Answer, refusal, nothing, byte, bit, no_levels, the_levels, no_moment, moment}
use Rattle.frames.specs.declared.Frame.{Frame}
use Rattle.refusals.specs.declared.Refusal.TheVariants.{ZeroFrequency, Rates as WrongRates, Ranges as WrongRanges}

-- ## Flags

-- the flags of ICSR, high to low (document 01, Registers and steps)
pub data Flag : Type 0 where
  tdre : Flag
  tend : Flag
  rdrf : Flag
  nackf : Flag
  stop : Flag
  al : Flag
  aas : Flag
  adz : Flag

-- their bits, by the manual's names: each of the eight bits of a byte is one of them
abbrev pub mask_of : Flag → ℕ
mask_of tdre = TDRE
mask_of tend = TEND
mask_of rdrf = RDRF
mask_of nackf = NACKF
mask_of stop = STOP
mask_of al = AL
mask_of aas = AAS
mask_of adz = ADZ

-- whether a byte has the flag as 1
abbrev pub is_set : Flag → ℕ → Bool
is_set f b = has b (mask_of f)

-- ICSR of a state
abbrev pub status_of : Iic → ℕ
status_of s = s.registers.status

-- ## Reads of ICSR

-- document 01: address bits 0 to 2 choose ICSR by 4
abbrev pub is_status : ℕ → Bool
is_status a = eqb (bit_and a 7) 4

-- the byte of the latest answered read of ICSR, if there was one
abbrev pub Latest : Type 0
Latest = Option ℕ

-- which flags it showed: none before any read
abbrev pub shown : Latest → ℕ
shown None = 0x00
shown (Some b) = b

-- an answered read shows its byte, a refused one nothing; a read answers nothing else
abbrev pub showing : Answer → Latest → Latest
showing (byte b) was = Some b
showing (refusal n) was = was
showing nothing was = was
showing (bit b) was = was
showing no_levels was = was
showing (the_levels l) was = was
showing no_moment was = was
showing (moment t) was = was

-- document 02: `peek` isn't such a read; of the eleven calls `read` alone is
abbrev pub latest_after : Call → Answer → Latest → Latest
latest_after (read a now) v was = cond (is_status a) (showing v was) was
latest_after (peek a) v was = was
latest_after (write a value now) v was = was
latest_after (input_pins scl sda now) v was = was
latest_after (set_gate gate now) v was = was
latest_after deadline v was = was
latest_after (advance now) v was = was
latest_after pins v was = was
latest_after interrupt v was = was
latest_after (interrupt_with_enable retained) v was = was
latest_after (validate now) v was = was

-- ## Any calls from the default with any one rate set, refused ones included

-- the state that the latest call returned or left, refused or not, and what the latest read showed
pub record Past : Type 0 where
  pub state : Iic
  pub latest : Latest

unfoldable pub begin : Rates → Past
begin rates = record { state = initial rates; latest = None }

-- one more call, whatever it answers
unfoldable pub next : Clocks → Call → Past → Past
next clocks x p = record {
  state = (outcome_of clocks x p.state).state;
  latest = latest_after x (outcome_of clocks x p.state).answer p.latest;
}

-- a lent `read` or `write` counts as the call of its name, as for two hosts
unfoldable pub past : Clocks → Past → List Made → Past
past clocks p [] = p
past clocks p (m ∷ l) = past clocks (next clocks (call_of m) p) l

-- after these calls, from the default
abbrev pub reached : Rates → Clocks → List Made → Past
reached rates clocks l = past clocks (begin rates) l

-- ICSR before one more call
abbrev pub before : Rates → Clocks → List Made → ℕ
before rates clocks l = status_of (reached rates clocks l).state

-- ICSR after it, a write, answered or refused
abbrev pub written : Rates → Clocks → List Made → ℕ → ℕ → Time → ℕ
written rates clocks l a value now = status_of (outcome_of clocks (write a value now) (reached rates clocks l).state).state

-- ## What a status write can do

-- what is cleared, set before and not after, was shown set and is written 0
abbrev pub ClearsOnlyShown : (told value was is : ℕ) → Type 0
ClearsOnlyShown told value was is =
    (f : Flag) → is_set f was ≡ true → is_set f is ≡ false → (is_set f told ≡ true) × (is_set f value ≡ false)

-- what is raised, set after and not before, is TDRE
abbrev pub RaisesOnlyTdre : (was is : ℕ) → Type 0
RaisesOnlyTdre was is = (f : Flag) → is_set f was ≡ false → is_set f is ≡ true → mask_of f ≡ TDRE

-- nothing is cleared
abbrev pub ClearsNothing : (was is : ℕ) → Type 0
ClearsNothing was is = (f : Flag) → is_set f was ≡ true → is_set f is ≡ true

-- Over any calls from the default, with any rate set and any clock set, refused ones included: a status write, answered or refused, clears only flags that the
-- latest answered read of ICSR showed set and that the write gave as 0, and raises none but TDRE.
abbrev pub StatusWrites : Type 0
StatusWrites =
    (rates : Rates) (clocks : Clocks) (l : List Made) (a value : ℕ) (now : Time) → is_status a ≡ true
    → ClearsOnlyShown (shown (reached rates clocks l).latest) value (before rates clocks l) (written rates clocks l a value now)
    × RaisesOnlyTdre (before rates clocks l) (written rates clocks l a value now)

-- Before any read it clears nothing.
abbrev pub BeforeAnyRead : Type 0
BeforeAnyRead =
    (rates : Rates) (clocks : Clocks) (l : List Made) (a value : ℕ) (now : Time) → is_status a ≡ true
    → (reached rates clocks l).latest ≡ None
    → ClearsNothing (before rates clocks l) (written rates clocks l a value now)

-- ## What every reached state meets

-- a frame in its data phase has 1 to 8 bits to go, and in any other phase none
abbrev pub ToGo : Phase → ℕ → Type 0
ToGo Data n = (1 ≤ n) × (n ≤ 8)
ToGo Ack n = n ≡ 0
ToGo Done n = n ≡ 0

abbrev pub FrameToGo : Option Frame → Type 0
FrameToGo None = Unit {0}
FrameToGo (Some f) = ToGo f.phase f.remaining

-- document 01, what 9 asks of the registers: a count of at most 7, and no mode bits outside c0
abbrev pub Ranges : Iic → Type 0
Ranges s = (s.registers.count ≤ 7) × (bit_and s.registers.mode 0xc0 ≡ s.registers.mode)

-- Both, and the rate set that was given; so 9 and 10 are drawn by no such state: of the refusals that stand before a call there are only 1, for a
-- clock set with a zero, and 14, for the rate set; and `validate` is left with 14, with 9 for an eighth fall later than now, and with what the waits
-- draw, 11 or 12.
pub record Met (rates : Rates) (clocks : Clocks) (s : Iic) : Type 0 where
  pub given : s.rates ≡ rates
  pub ranges : Ranges s
  pub frame : FrameToGo s.frame
  pub guard : guard_by (has_zero clocks) s ≡ cond (has_zero clocks) (Err ZeroFrequency) (cond (not (rates_hold rates)) (Err WrongRates) (Ok tt))
  pub valid : (now : Time)
      → validate_of s now ≡ cond (not (rates_hold rates)) (Err WrongRates) (cond (not (fell_by s.eighth_fall now)) (Err WrongRanges) (waits_refusal s))

abbrev pub ReachedStates : Type 0
ReachedStates = (rates : Rates) (clocks : Clocks) (l : List Made) → Met rates clocks (reached rates clocks l).state

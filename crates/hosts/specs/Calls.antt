-- Definitions: the eleven calls as a host makes them, what they answer and leave, and which of them are idle (document 01, "*Idle* calls").
use Rattle.std.specs.Prelude.{ℕ, Bool, true, false, not, ◌&&◌, ◌||◌, List, [], ◌∷◌, Err, Ok, Result}
use Rattle.std.specs.Bool.{beq}
use Rattle.bus.specs.Bus.{same_levels, levels}
use Rattle.time.specs.declared.Time.{Time}
use Rattle.clocks.specs.declared.Clocks.{Clocks}
use Rattle.clocks.specs.Clocks.{has_zero}
use Rattle.iic.specs.declared.Iic.{Iic}
use Rattle.registers.specs.declared.Register.{Register}
use Rattle.registers.specs.declared.Register.TheVariants.{ICCR1, ICCR2, ICMR, ICIER, ICSR, SAR, ICDRT, ICDRR}
use Rattle.iic.specs.Told.{Answer, byte, bit, of_end, of_byte, of_truth, of_deadline, of_pins}
use Rattle.registers.specs.Registers.{register_at}
use Rattle.iic.specs.Calls.{peek_of, read_of, write_of, input_pins_of, set_gate_of, deadline_of, advance_of, pins_of, interrupt_with_enable_of, validate_of}
use Rattle.iic.specs.State.{framed, initial}
use Rattle.rates.specs.declared.Rates.{Rates}
use Rattle.waits.specs.Ends.{wait_end, half_end, due_of}
use Rattle.refusals.specs.declared.Refusal.{Refusal}

-- ## Calls

-- a call: its name, its operands and, where it takes one, its time. Two calls are the same when these are
pub data Call : Type 0 where
  peek : ℕ → Call
  read : ℕ → Time → Call
  write : ℕ → ℕ → Time → Call
  input_pins : Bool → Bool → Time → Call
  set_gate : Bool → Time → Call
  deadline : Call
  advance : Time → Call
  pins : Call
  interrupt : Call
  interrupt_with_enable : ℕ → Call
  validate : Time → Call

-- how a host makes a call: each with the state by value, `read` and `write` also with the peripheral lent
pub data Made : Type 0 where
  by_value : Call → Made
  lent_read : ℕ → Time → Made
  lent_write : ℕ → ℕ → Time → Made

-- document 01: a lent `read` or `write` counts as the call of its name
abbrev pub call_of : Made → Call
call_of (by_value x) = x
call_of (lent_read a now) = read a now
call_of (lent_write a value now) = write a value now

-- ## What a call does

pub record Outcome : Type 0 where
  pub answer : Answer
  pub state : Iic

abbrev pub outcome : Answer → Iic → Outcome
outcome a s = record { answer = a; state = s }

-- the answer, and the state that the call returned or left, refused or not: demand 2's definitions, which the calls' contracts cite
unfoldable pub outcome_of : Clocks → Call → Iic → Outcome
outcome_of k (peek a) s = outcome (byte (peek_of s a)) s
outcome_of k (read a now) s = outcome (of_byte (read_of s a now k).answer) (read_of s a now k).state
outcome_of k (write a value now) s = outcome (of_end (write_of s a value now k).answer) (write_of s a value now k).state
outcome_of k (input_pins scl sda now) s =
    outcome (of_truth (input_pins_of s scl sda now k).answer) (input_pins_of s scl sda now k).state
outcome_of k (set_gate gate now) s = outcome (of_end (set_gate_of s gate now k).answer) (set_gate_of s gate now k).state
outcome_of k deadline s = outcome (of_deadline (deadline_of s k)) s
outcome_of k (advance now) s = outcome (of_end (advance_of s now k).answer) (advance_of s now k).state
outcome_of k pins s = outcome (of_pins (pins_of s)) s
outcome_of k interrupt s = outcome (bit (interrupt_with_enable_of s 0)) s
outcome_of k (interrupt_with_enable retained) s = outcome (bit (interrupt_with_enable_of s retained)) s
outcome_of k (validate now) s = outcome (of_end (validate_of s now)) s

-- ## Hosts

-- a host: the state that it holds, and whether a write has lifted the reset with no visit since
pub record Host : Type 0 where
  pub state : Iic
  pub lifted : Bool

-- each host starts from the default
unfoldable pub start : Rates → Host
start rates = record { state = initial rates; lifted = false }

-- document 01: IICRST in ICCR2 is 1 before the write and 0 after it
abbrev pub lifts : Iic → Iic → Bool
lifts before after = before.flags.reset && not after.flags.reset

-- the one bit of history: a write that lifts the reset sets it, a visit clears it, answered or refused
abbrev pub lifted_after : Call → Bool → Iic → Iic → Bool
lifted_after (write a value now) was before after = was || lifts before after
lifted_after (advance now) was before after = false
lifted_after (peek a) was before after = was
lifted_after (read a now) was before after = was
lifted_after (input_pins scl sda now) was before after = was
lifted_after (set_gate gate now) was before after = was
lifted_after deadline was before after = was
lifted_after pins was before after = was
lifted_after interrupt was before after = was
lifted_after (interrupt_with_enable retained) was before after = was
lifted_after (validate now) was before after = was

-- the host after a call
abbrev pub host_with : Call → Host → Iic → Host
host_with x h s = record { state = s; lifted = lifted_after x h.lifted h.state s }

unfoldable pub after : Clocks → Call → Host → Host
after k x h = host_with x h (outcome_of k x h.state).state

-- the host after some calls
abbrev pub after_all : Clocks → Host → List Call → Host
after_all k h [] = h
after_all k h (x ∷ l) = after_all k (after k x h) l

-- ## Idle calls

-- a wait whose time is refused isn't due
abbrev pub is_now : Result Bool Refusal → Bool
is_now (Ok true) = true
is_now (Ok false) = false
is_now (Err n) = false

-- one of the four waits is due: filter, setup, monitor, clock
abbrev pub waits_due : Clocks → Time → Iic → Bool
waits_due k now s =
    is_now (due_of (wait_end s.filter_wait k) now)
    || is_now (due_of (wait_end s.setup_wait k) now)
    || is_now (due_of (half_end s.monitor_wait k.system) now)
    || is_now (due_of (half_end s.clock_wait k.system) now)

-- where a clock of the set holds a zero every time is refused (1), so none is due
unfoldable pub any_due : Clocks → Time → Iic → Bool
any_due k now s = not (has_zero k) && waits_due k now s

-- a frame is left that the state before didn't hold
abbrev pub starts_frame : Iic → Iic → Bool
starts_frame before after = not (framed before) && framed after

-- a read of addresses 0 to 3, 5 or 6
abbrev pub idle_read : Register → Bool
idle_read ICCR1 = true
idle_read ICCR2 = true
idle_read ICMR = true
idle_read ICIER = true
idle_read ICSR = false
idle_read SAR = true
idle_read ICDRT = true
idle_read ICDRR = false

-- a visit at which no wait of the state before it is due; never the first one after a write that lifts the reset, nor one that starts a frame
abbrev pub idle_visit : Clocks → Time → Host → Bool
idle_visit k now h =
    not h.lifted && not (any_due k now h.state)
    && not (starts_frame h.state (outcome_of k (advance now) h.state).state)

-- whether a call that a host makes is idle, judged on the host's own state before it
unfoldable pub idle : Clocks → Call → Host → Bool
idle k (advance now) h = idle_visit k now h
idle k (input_pins scl sda now) h = same_levels h.state.lines.raw (levels scl sda)
idle k (set_gate gate now) h = beq h.state.flags.gate gate
idle k (peek a) h = true
idle k pins h = true
idle k interrupt h = true
idle k (interrupt_with_enable retained) h = true
idle k deadline h = true
idle k (validate now) h = true
idle k (read a now) h = idle_read (register_at a)
idle k (write a value now) h = false

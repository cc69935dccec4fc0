-- Definitions: what functions inside the peripheral promise each other; no definition of a call cites them.
use Rattle.std.specs.Prelude.{Bool, false, true, ℕ, Err, Ok, Result, ⊤}
use Rattle.iic.specs.Writing.{write_address_of, write_enable_of, write_mode_of, write_status_of}
use Rattle.iic.specs.declared.Iic.{Iic}
use Rattle.registers.specs.declared.Register.{Register}
use Rattle.registers.specs.declared.Register.TheVariants.{ICCR1, ICCR2, ICDRR, ICDRT, ICIER, ICMR, ICSR, SAR}
use Rattle.refusals.specs.declared.Refusal.{Refusal}

-- whether a step went through
abbrev pub went_on : Result ⊤ Refusal → Bool
went_on (Ok u) = true
went_on (Err n) = false

-- whether a wait is due after a step: nothing is after a refusal
abbrev pub due_after : Result ⊤ Refusal → Result Bool Refusal → Result Bool Refusal
due_after (Ok u) d = d
due_after (Err n) d = (Ok false)

-- what a write of ICMR, ICIER, ICSR or SAR sets; nothing for the other registers
abbrev pub write_plain : Register → ℕ → Iic → Iic
write_plain ICCR1 value s = s
write_plain ICCR2 value s = s
write_plain ICMR value s = write_mode_of value s
write_plain ICIER value s = write_enable_of value s
write_plain ICSR value s = write_status_of value s
write_plain SAR value s = write_address_of value s
write_plain ICDRT value s = s
write_plain ICDRR value s = s

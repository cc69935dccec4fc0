-- Definitions: what the words of the comparison mean. No paper has them.
use Rattle.std.specs.Prelude.{cond, List, [], ◌∷◌, ℕ, zero, suc, ◌+◌, ◌*◌, ◌/◌, ◌%◌, eqb, get_or, ⊤, Option, None, Some, Result, Ok, Err}
use Rattle.time.specs.declared.Time.{Time}
use Rattle.iic.specs.declared.Iic.{Iic}
use Rattle.iic.specs.State.{default_iic}
use Rattle.iic.specs.Calls.{peek_of}
use Rattle.map.specs.declared.Range.{Range}
use Rattle.map.specs.declared.Map.{Map}
use Rattle.through.specs.declared.Refused.{Refused}
use Rattle.through.specs.declared.Through.{Through}
use Rattle.through.specs.Through.{refusal_of, refusal_place}
use Rattle.refusals.specs.Refusals.{number_of}

-- ## A map

abbrev pub unit_of_word : ℕ → Option ℕ
unit_of_word n = cond (eqb n 255) None (Some n)

unfoldable pub range_of_word : ℕ → Range
range_of_word w = record { first = w % 65536; last = w / 65536 % 65536; unit = unit_of_word (w / 4294967296 % 256) }

-- so many ranges, from a word on
unfoldable pub made_from : List ℕ → ℕ → ℕ → List Range
made_from words i zero = []
made_from words i (suc n) = range_of_word (get_or words i 0) ∷ made_from words (suc i) n

unfoldable pub made_map : List ℕ → ℕ → Map
made_map words count = record { ranges = made_from words 0 64; count = count }

-- ## Calls

-- at its default but for SAR
unfoldable pub unit_with : ℕ → Iic
unit_with sar = record {
  registers = record { control = default_iic.registers.control; mode = default_iic.registers.mode; count = default_iic.registers.count; enable = default_iic.registers.enable; status = default_iic.registers.status; seen = default_iic.registers.seen; address = sar; tdr = default_iic.registers.tdr; rdr = default_iic.registers.rdr };
  lines = default_iic.lines;
  flags = default_iic.flags;
  frame = default_iic.frame;
  condition = default_iic.condition;
  command = default_iic.command;
  hold = default_iic.hold;
  eighth_fall = default_iic.eighth_fall;
  clock_wait = default_iic.clock_wait;
  monitor_wait = default_iic.monitor_wait;
  filter_wait = default_iic.filter_wait;
  setup_wait = default_iic.setup_wait;
  rates = default_iic.rates;
}

unfoldable pub four_units : List Iic
four_units = unit_with 16 ∷ unit_with 32 ∷ unit_with 48 ∷ unit_with 64 ∷ []

abbrev pub moment : Time
moment = record { seconds = 1; fraction = 0 }

abbrev pub in_one_number : Refused → ℕ
in_one_number r = number_of (refusal_of r) * 65536 + refusal_place r

abbrev pub byte_or : Result ℕ Refused → ℕ
byte_or (Ok b) = b
byte_or (Err r) = in_one_number r

abbrev pub read_number : Through ℕ → ℕ
read_number r = byte_or r.answer

unfoldable pub shown_of : List Iic → ℕ → ℕ → ℕ
shown_of states u a = peek_of (get_or states u default_iic) a

abbrev pub shown_or : ℕ → Result ⊤ Refused → ℕ
shown_or shows (Ok _) = shows
shown_or shows (Err r) = in_one_number r

abbrev pub write_number : ℕ → ℕ → Through ⊤ → ℕ
write_number u a r = shown_or (shown_of r.states u a) r.answer

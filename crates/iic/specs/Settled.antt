-- Definitions: a state on which `kick` would start nothing. No paper has it: it is the conditions of `kick` in iic.rs, turned round. No definition of
-- a call cites it.
use Rattle.bus.specs.Bits.{has}
use Rattle.frames.specs.Parts.{is_done, starved}
use Rattle.registers.specs.Bits.{TDRE}
use Rattle.iic.specs.Ready.{clock_due, command_ready, frame_due, ready}
use Rattle.iic.specs.State.{synchronous}
use Rattle.iic.specs.declared.Iic.{Iic}
use Rattle.std.specs.Prelude.{Bool, ◌&&◌, ◌||◌, false, not, true, None, Option, Some}
use Rattle.frames.specs.declared.Frame.{Frame}

-- the frame waits for a byte, and ICDRT has one, TDRE being 0
abbrev pub loads_in : Option Frame → Bool → Bool
loads_in None empty = false
loads_in (Some f) empty = starved f && not empty

abbrev pub loads : Iic → Bool
loads s = loads_in s.frame (has s.registers.status TDRE)

-- no clock is started for the frame: there is none, it is through, or it waits for its byte in synchronous mode
abbrev pub rests_in : Option Frame → Bool → Bool
rests_in None sync = true
rests_in (Some f) sync = is_done f.phase || starved f && sync

abbrev pub rests : Iic → Bool
rests s = rests_in s.frame (synchronous s)

-- no frame is due, none can be loaded, and no clock is due for one
abbrev pub at_rest : Iic → Bool
at_rest s = not (frame_due s) && (not (loads s) && (not (clock_due s) || rests s))

-- A state on which `kick` would start nothing, at any time: the peripheral is off, gated off, in reset or in the middle of a start or stop,
-- or else no command can begin, no frame, no load of ICDRT and no clock.
unfoldable pub settled : Iic → Bool
settled s = not (ready s) || (not (command_ready s) && at_rest s)

-- Definitions: the window, empty, after one line more, and after a list of lines (document 02, requests (d) and (l)).
use Rattle.std.specs.Prelude.{ℕ, ◌+◌, ◌*◌, ◌%◌, ◌^◌, List}
use mathlib.Core.List.{foldl}
use Rattle.std.specs.Int.Count.{ones}
use Rattle.window.specs.declared.Window.{Window}
use Rattle.window.specs.Lines.{Line, rise_of}

-- "a value that starts empty"
abbrev pub empty_window : Window
empty_window = record { bits = 0 }

-- "takes each line's status before and after": its bit comes in below those of the 63 lines before it
unfoldable pub take_of : Window → ℕ → ℕ → Window
take_of w before after = record { bits = w.bits % 2 ^ 63 * 2 + rise_of before after }

-- "after each line it reports": how many of the bits are 1
abbrev pub report_of : Window → ℕ
report_of w = ones w.bits

-- the window that has taken the lines of a list, one after the other
abbrev pub window_of : List Line → Window
window_of lines = foldl (λ (w : Window) (l : Line). take_of w l.before l.after) empty_window lines

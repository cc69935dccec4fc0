-- Laws: the reports on a trace count its lines.
-- Assumes nothing.
use Rattle.std.specs.Prelude.{◌≡◌, ℕ, ◌-◌, length, Ok}
use Rattle.std.proofs.Common.{sym, ap, ◌∙◌, ⊎_elim}
use mathlib.Core.List.{List, [], ◌∷◌, foldl}
use Rattle.refusals.proofs.Laws.{err_not_ok}
use Rattle.clocks.specs.declared.Clocks.{Clocks}
use Rattle.window.specs.declared.Window.{Window}
use Rattle.window.specs.Lines.{Line}
use Rattle.window.specs.Window.{take_of, report_of}
use Rattle.window.proofs.ReportLaws.{counts_latest_lem}
use Rattle.answers.specs.declared.Output.{Output}
use Rattle.player.specs.declared.Player.{Player}
use Rattle.player.specs.Trace.{Run, run, run_of, line_text, next_player, fresh_player}
use Rattle.player.specs.TraceLaws.{run_no_lines, run_no_room, run_one_more}
use Rattle.lines.specs.NumberLaws.{below_or_not}
use Rattle.player.specs.Reports.{statuses, statuses_in, ReportsCount}

abbrev taking : Window → Line → Window
taking w l = take_of w l.before l.after

-- the window after lines that had room has taken them one after the other
window_is : (o : Output) (k : Clocks) (p : Player) (ls : List (List ℕ)) (free : ℕ) → (run o k p ls free).ended ≡ Ok tt
    → (run o k p ls free).player.seen.window ≡ foldl taking p.seen.window (statuses k p.host ls)
unfolding statuses
window_is o k p [] free e = ap (λ (r : Run). r.player.seen.window) (run_no_lines o k p free)
window_is o k p (l ∷ ls) free e =
    ⊎_elim
    (λ h. absurd (err_not_ok (sym (ap (λ (r : Run). r.ended) (run_no_room o k p l ls free h)) ∙ e)))
    (λ h.
    ap (λ (r : Run). r.player.seen.window) (run_one_more o k p l ls free h)
    ∙ window_is o k (next_player o k p l) ls (free - length (line_text o k p l)) (sym (ap (λ (r : Run). r.ended) (run_one_more o k p l ls free h)) ∙ e))
    (below_or_not free 80)

pub reports_count_lem : ReportsCount
unfolding run_of fresh_player
reports_count_lem o trace free e = ap report_of (window_is o _ _ _ free e) ∙ counts_latest_lem (statuses_in trace)

use Rattle.std.proofs.Common.{sym, ap, ◌∙◌}
use Rattle.std.specs.Prelude.{◌≡◌, ◌||◌, Bool, List, Option, [], cond, eqb, ℕ}
use Rattle.time.specs.declared.Time.{Time}
use Rattle.answers.specs.Wave.{placed, moment_text, wave_text}
use Rattle.answers.proofs.Puts.{put_none, put_as}
use Rattle.answers.proofs.Answer.write_wave.Goals as goal

judged : (text : List ℕ) {n m : ℕ} → n ≡ m → cond (eqb m 4 || eqb m 5) [] text ≡ cond (eqb n 4 || eqb n 5) [] text
judged text e = sym (ap (λ (k : ℕ). cond (eqb k 4 || eqb k 5) [] text) e)

pub returns-then-refusal : goal.returns-then-refusal
unfolding wave_text
returns-then-refusal c =
    let a = c.args in
    let s = a.self.host.state in
    let l = a.self.host.last in
    put_as (sym (judged (placed a.began l s) c.number_ended-refusal.ensures ∙ ap (λ (t : Bool). cond t [] (placed a.began l s)) c.if-refusal.true)) (put_none a.out.now 0)

pub returns-in-None : goal.returns-in-None
unfolding wave_text
returns-in-None c =
    let a = c.args in
    let s = a.self.host.state in
    let l = a.self.host.last in
    put_as (sym (judged (placed a.began l s) c.number_ended-refusal.ensures ∙ ap (λ (t : Bool). cond t [] (placed a.began l s)) c.if-refusal.false ∙ ap (λ (x : Option Time). placed a.began x s) c.in-None.is)) (put_none a.out.now 0)

pub returns-in-Some : goal.returns-in-Some
unfolding wave_text
returns-in-Some c =
    let a = c.args in
    let s = a.self.host.state in
    let l = a.self.host.last in
    put_as
    (ap (λ (n : ℕ). moment_text n s) c.since.ensures
    ∙ sym (judged (placed a.began l s) c.number_ended-refusal.ensures ∙ ap (λ (t : Bool). cond t [] (placed a.began l s)) c.if-refusal.false ∙ ap (λ (x : Option Time). placed a.began x s) c.in-Some.is))
    c.write_moment.ensures

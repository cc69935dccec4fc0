use Rattle.std.proofs.Common.{ap₂, ◌∙◌, Bool, ◌&&◌, arith}
use Rattle.rates.specs.RateLaws.{each_all}
use Rattle.rates.specs.Rates.{length_in, lengths_hold}
use Rattle.rates.proofs.Rates.lengths_hold.Goals as goal

pub returns : goal.returns
unfolding lengths_hold
returns c =
    let r = c.args.self in
    ap₂ (λ (x y : Bool). x && y)
    (ap₂ (λ (x y : Bool). x && y)
    (c.each_in.ensures ∙ each_all (length_in 15) r.half_clocks 8 (omega arith))
    (c.each_in-2.ensures ∙ each_all (length_in 15) r.monitors 4 (omega arith)))
    (c.each_in-3.ensures ∙ each_all (length_in 1) r.setups 2 (omega arith))

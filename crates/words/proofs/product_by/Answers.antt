-- `words::product_by` meets its contract: `three` of Numbers.antt adds the products of the two words.
-- Assumes nothing.
use Rattle.words.proofs.Numbers.{tops_fit, three}
use Rattle.words.proofs.product_by.Goals as goal

pub overflow_add-result : goal.overflow_add-result
overflow_add-result c =
    let a = c.args in
    record { fits = tops_fit a.n.high a.n.low a.by c.product-upper.result.high c.product-upper.result.low c.product-lower.result.high c.product-lower.result.low c.sum-middle.result.high c.sum-middle.result.low c.product-upper.ensures c.product-lower.ensures c.sum-middle.ensures c.well_formed.0.1.1.0.1 c.ranges.by.fits c.well_formed.0.1.1.1.0.1 }

pub returns : goal.returns
returns c =
    let a = c.args in
    three a.n.high a.n.low a.by c.product-upper.result.high c.product-upper.result.low c.product-lower.result.high c.product-lower.result.low c.sum-middle.result.high c.sum-middle.result.low c.product-upper.ensures c.product-lower.ensures c.sum-middle.ensures

-- `time::capped_sum` meets its contract: the sum's high word tells which case it is.
-- Assumes nothing.
use Rattle.std.proofs.Common.{◌≡◌, ℕ, ◌+◌, ◌-◌, ◌*◌, ◌^◌, ◌<◌, min, arith}
use Rattle.time.proofs.capped_sum.Goals as goal

full : (h l x : ℕ) → h * 2 ^ 64 + l ≡ x → (h ≡ 0 → ⊥) → 2 ^ 64 - 1 ≡ min x (2 ^ 64 - 1)
full h l x e some = omega arith

part : (h l x : ℕ) → h * 2 ^ 64 + l ≡ x → h ≡ 0 → l < 2 ^ 64 → l ≡ min x (2 ^ 64 - 1)
part h l x e none word = omega arith

pub returns-then-total-ne0 : goal.returns-then-total-ne0
returns-then-total-ne0 c =
    full c.sum-total.result.high c.sum-total.result.low _ c.sum-total.ensures c.if-total-ne0.true

pub returns : goal.returns
returns c =
    part c.sum-total.result.high c.sum-total.result.low _ c.sum-total.ensures c.if-total-ne0.false (omega arith)

-- Definitions: the values of numbers of two and three words, and what a division gives (document 01, "What takes another form":
-- products of `widening_mul` in words).
use Rattle.std.specs.Prelude.{◌≡◌, ℕ, ◌+◌, ◌*◌, ◌/◌, ◌%◌, ◌^◌, ◌<◌, cond, ◌==◌}
use Rattle.words.specs.declared.Wide.{Wide}
use Rattle.words.specs.declared.Triple.{Triple}
use Rattle.words.specs.declared.Divided.{Divided}

-- the number that two words make: each number below 2 ^ 128 is that of one pair of words
abbrev pub value_of : Wide → ℕ
value_of w = w.high * 2 ^ 64 + w.low

-- the number that three words make, each below 2 ^ 192 that of one triple
abbrev pub triple_of : Triple → ℕ
triple_of t = (t.high * 2 ^ 64 + t.middle) * 2 ^ 64 + t.low

-- the two words of a number of at most 128 bits
abbrev pub wide_of : ℕ → Wide
wide_of n = record { high = n / 2 ^ 64; low = n % 2 ^ 64 }

-- the quotient and the remainder of n by m, both 0 where m is 0
unfoldable pub divided_of : ℕ → ℕ → Divided Wide
divided_of n m = cond (m == 0) (record { quotient = wide_of 0; remainder = 0 }) (record { quotient = wide_of (n / m); remainder = n % m })

-- q and r are the quotient and the remainder of n by m, which is not 0
pub record Divides (n m q r : ℕ) : Type 0 where
  pub whole : q * m + r ≡ n
  pub less : r < m

-- Definitions: demand 3 of document 01, the statement on two hosts. Its proof is `two_hosts_agree_lem` in proofs/Agree.antt.
use Rattle.std.specs.Prelude.{ℕ, zero, suc, Bool, false, ◌||◌, cond, List, [], ◌∷◌, map, ◌≡◌, take}
use Rattle.clocks.specs.declared.Clocks.{Clocks}
use Rattle.iic.specs.declared.Iic.{Iic}
use Rattle.rates.specs.declared.Rates.{Rates}
use Rattle.hosts.specs.Calls.{Call, Made, call_of, outcome_of, Host, start, after, idle}
use Rattle.iic.specs.Told.{Answer, is_refusal}

-- ## The calls left

-- a call that was left, its answer, and the state after it
pub record Left : Type 0 where
  pub call : Call
  pub answer : Answer
  pub state : Iic

abbrev pub played : Clocks → Call → Host → Left
played clocks x h = record { call = x; answer = (outcome_of clocks x h.state).answer; state = (outcome_of clocks x h.state).state }

-- With the idle calls struck out of a list, as the host plays it: each call, idle or not, gets the clock set, and the state that the one
-- before it returned or left, refused or not, and is judged on that state.
unfoldable pub left : Clocks → Host → List Made → List Left
left clocks h [] = []
left clocks h (m ∷ l) =
    cond (idle clocks (call_of m) h) (left clocks (after clocks (call_of m) h) l)
    (played clocks (call_of m) h ∷ left clocks (after clocks (call_of m) h) l)

-- of a list that starts from the default, with a rate set
abbrev pub left_of : Rates → Clocks → List Made → List Left
left_of rates clocks l = left clocks (start rates) l

-- the names, times and operands of the calls left
abbrev pub calls : List Left → List Call
calls l = map (λ (p : Left). p.call) l

-- p is the k-th of the list, counted from 1
abbrev pub IsKth : {A : Type 0} → ℕ → List A → A → Type 0
IsKth zero l p = ⊥
IsKth (suc k) [] p = ⊥
IsKth (suc zero) (q ∷ l) p = q ≡ p
IsKth (suc (suc k)) (q ∷ l) p = IsKth (suc k) l p

-- those before the k-th
abbrev pub before : ℕ → List Left → List Left
before zero l = []
before (suc k) l = take k l

abbrev pub any_refused : List Left → Bool
any_refused [] = false
any_refused (p ∷ l) = is_refusal p.answer || any_refused l

-- ## Demand 3

-- Any two lists of calls, each from the default, with one rate set and over one clock set, whatever they hold. With the idle calls struck out of each list, the
-- k-th call left has the same answer in both, value or refusal number, and every field of the state is equal after it, if the first k
-- calls left are the same and none before the k-th was refused.
abbrev pub TwoHostsAgree : Type 0
TwoHostsAgree =
    (rates : Rates) (clocks : Clocks) (one other : List Made) (k : ℕ) (p q : Left)
    → IsKth k (left_of rates clocks one) p
    → IsKth k (left_of rates clocks other) q
    → take k (calls (left_of rates clocks one)) ≡ take k (calls (left_of rates clocks other))
    → any_refused (before k (left_of rates clocks one)) ≡ false
    → (p.answer ≡ q.answer) × (p.state ≡ q.state)

-- Laws: what a step leaves unless it is refused. Assumes nothing.
use Rattle.std.specs.Prelude.{ℕ, Bool, false, ◌≡◌, refl, Err, Ok, Option, Result, Some, ⊤}
use Rattle.std.proofs.Common.{true≢false}
use Rattle.hosts.specs.Invariant.{Leaves, leaves_at}
use Rattle.iic.specs.Answers.{Stepped, and_then, go_on, guarded, value_of}
use Rattle.iic.specs.Told.{is_refusal, of_byte, of_end, of_truth}
use Rattle.iic.specs.Waiting.{wait_from}
use Rattle.iic.specs.declared.Iic.{Iic}
use Rattle.refusals.specs.declared.Refusal.{Refusal}

-- the Rust's `?`
pub then_leaves : (P Q : Iic → Type 0) (o : Stepped) (f : Iic → Stepped) → Leaves P o → ((s : Iic) → P s → Leaves Q (f s)) → Leaves Q (and_then o f)
then_leaves P Q o f h g = go o.answer refl h
  where
    go : (e : Result ⊤ Refusal) → o.answer ≡ e → leaves_at P e o.state → Leaves Q (go_on e o f)
    go (Ok v) e h = g o.state h
    go (Err n) e h = rw e tt

pub leaves_more : (P Q : Iic → Type 0) (o : Stepped) → Leaves P o → ((s : Iic) → P s → Q s) → Leaves Q o
leaves_more P Q o h f = go o.answer h
  where
    go : (e : Result ⊤ Refusal) → leaves_at P e o.state → leaves_at Q e o.state
    go (Ok v) h = f o.state h
    go (Err n) h = tt

-- a wait that was made is the state's
pub wait_leaves : {W : Type 0} (P : Iic → Type 0) (set : Option W → Iic → Iic) (w : Result W Refusal) (s : Iic) → ((v : W) → w ≡ Ok v → P (set (Some v) s)) → Leaves P (wait_from set w s)
wait_leaves P set (Ok v) s h = h v refl
wait_leaves P set (Err n) s h = tt

-- a step whose state has it, refused or not
pub left : (P : Iic → Type 0) (o : Stepped) → P o.state → Leaves P o
left P o h = go o.answer
  where
    go : (e : Result ⊤ Refusal) → leaves_at P e o.state
    go (Ok v) = h
    go (Err n) = tt

-- two facts
pub both_left : (P Q : Iic → Type 0) (o : Stepped) → Leaves P o → Leaves Q o → Leaves (λ s. P s × Q s) o
both_left P Q o = go o.answer
  where
    go : (e : Result ⊤ Refusal) → leaves_at P e o.state → leaves_at Q e o.state → leaves_at (λ s. P s × Q s) e o.state
    go (Ok v) p q = (p, q)
    go (Err n) p q = tt

-- what doesn't speak of the state holds after further steps
pub then_left : (F : Type 0) (o : Stepped) (f : Iic → Stepped) → Leaves (λ s. F) o → Leaves (λ s. F) (and_then o f)
then_left F o f h = then_leaves (λ s. F) (λ s. F) o f h (λ s x. left (λ t. F) (f s) x)

-- what a step leaves unless it is refused holds where it isn't
unrefused : (e : Result ⊤ Refusal) (P : Iic → Type 0) (s : Iic) → leaves_at P e s → is_refusal (of_end e) ≡ false → P s
unrefused (Ok v) P s h a = h
unrefused (Err n) P s h a = absurd (true≢false a)

-- behind the refusals that stand first
pub guarded_left : (P : Iic → Type 0) (g : Result ⊤ Refusal) (s : Iic) (o : Stepped) → Leaves P o → is_refusal (of_end (guarded g s o).answer) ≡ false → P (guarded g s o).state
guarded_left P (Ok v) s o h a = unrefused o.answer P o.state h a
guarded_left P (Err n) s o h a = absurd (true≢false a)

-- answers that hold a value are refused as the steps are
pub byte_refused : (e : Result ⊤ Refusal) (n : ℕ) → is_refusal (of_byte (value_of e n)) ≡ is_refusal (of_end e)
byte_refused (Ok v) n = refl
byte_refused (Err m) n = refl

pub truth_refused : (e : Result ⊤ Refusal) (b : Bool) → is_refusal (of_truth (value_of e b)) ≡ is_refusal (of_end e)
truth_refused (Ok v) b = refl
truth_refused (Err m) b = refl

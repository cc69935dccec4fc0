-- Laws: eight bits sampled high first are the byte, and so are eight bits sent high first.
use Rattle.std.specs.Prelude.{◌≡◌, ℕ, zero, suc, ◌+◌, ◌/◌, ◌<◌, Bool, true, false, cond, not, List, [], ◌∷◌, ◌==◌, nat_eq, refl}
use Rattle.std.proofs.Common.{ap, ap₂, ◌∙◌, arith, eqb-true}
use Rattle.std.proofs.lemmas.Bool.{agree_below, agree_below_at}
use Rattle.bus.specs.Bus.{first_bit, is_acknowledge, shift_in}
use Rattle.sensor.specs.Below.{all, all_below}
use Rattle.sensor.specs.Bytes.{BytesComeIn, BytesGoOut, OwnAddressOnly, fall, gather, pointed, ready, spell}
use Rattle.sensor.specs.Edge.{clocked_of, edge_of}
use Rattle.sensor.specs.Falling.{acknowledge_of, falling_of, follow_of, heard_of, launch_of, send_of}
use Rattle.sensor.specs.Rising.{addressed_of, asked_by, counted_of, own_address, read_on_of, rising_of, sampled_of, whole_of}
use Rattle.sensor.specs.State.{acknowledging, sent_bit}
use Rattle.sensor.specs.declared.Edge.{Edge}
use Rattle.sensor.specs.declared.Following.TheVariants as following
use Rattle.sensor.specs.declared.Receive.TheVariants as receive
use Rattle.sensor.specs.declared.State.{State}

-- the bits of a byte, shifted in, are the byte
pub gather_spell : (byte : ℕ) → byte < 256 → gather 0 (spell 8 byte) ≡ byte
gather_spell byte h = eqb-true (gather 0 (spell 8 byte)) byte (all_below (λ (b : ℕ). nat_eq (gather 0 (spell 8 b)) b) 256 refl byte h)

pub bytes_come_in_lem : BytesComeIn
unfolding edge_of clocked_of rising_of falling_of sampled_of
bytes_come_in_lem k p byte z w t prepared h = ap (λ (b : ℕ). whole_of k b (ready w prepared t) (pointed p)) (gather_spell byte h)

-- ## The acknowledge of an address

-- the two bytes that i2c.rs compares an address byte with (181, 182)
pub own_bytes : (s : State) → (addressed_of 0x70 s ≡ acknowledging following.Control s) × (addressed_of 0x71 s ≡ acknowledging following.Read s)
unfolding addressed_of
own_bytes s = (refl, refl)

pub own_address_only_lem : OwnAddressOnly
unfolding edge_of clocked_of falling_of acknowledge_of whole_of addressed_of
own_address_only_lem p byte z a b w t prepared h =
    ap (λ (e : Edge). is_acknowledge (not (fall a b (ready w prepared t) e.state).state.low)) (bytes_come_in_lem receive.Address p byte z w t prepared h)
    ∙ by (byte / 2 == own_address)
  where
    by : (own : Bool) → is_acknowledge (not (fall a b (ready w prepared t) (cond own (acknowledging (asked_by byte) (pointed p)) (pointed p))).state.low) ≡ own
    by true = refl
    by false = refl

-- ## A byte goes out

-- n values of a function from k on
abbrev listed : (ℕ → Bool) → ℕ → ℕ → List Bool
listed f k zero = []
listed f k (suc n) = f k ∷ listed f (suc k) n

-- bit n of a byte, counted from the first that goes over the line
abbrev bit_at : ℕ → ℕ → Bool
bit_at zero byte = first_bit byte
bit_at (suc n) byte = bit_at n (shift_in byte false)

-- what the sensor shows of it
abbrev shows : ℕ → ℕ → Bool
shows byte zero = not (not (first_bit byte))
shows byte (suc n) = not (not (sent_bit (suc n) byte))

-- the bits that are shown are those of the byte, in each of 256
abbrev right : ℕ → Bool
unfolding sent_bit
right byte = agree_below (shows byte) (λ (n : ℕ). bit_at n byte) 8

right_each : all right 256 ≡ true
unfolding sent_bit
right_each = refl

listed_alike : (f g : ℕ → Bool) (m : ℕ) → ((j : ℕ) → j < m → f j ≡ g j) → (k n : ℕ) → k + n ≡ m → listed f k n ≡ listed g k n
listed_alike f g m e k zero h = refl
listed_alike f g m e k (suc n) h =
    ap₂ (λ (b : Bool) (l : List Bool). b ∷ l) (e k (omega (arith, h))) (listed_alike f g m e (suc k) n (omega (arith, h)))

-- so the bits that are shown are the byte's
bits_shown : (byte : ℕ) → byte < 256 → listed (shows byte) 0 8 ≡ spell 8 byte
unfolding sent_bit
bits_shown byte h =
    listed_alike (shows byte) (λ (n : ℕ). bit_at n byte) 8
    (λ n l. agree_below_at (shows byte) (λ (m : ℕ). bit_at m byte) 8 n (all_below right 256 right_each byte h) l)
    0 8 refl

pub bytes_go_out_lem : BytesGoOut
unfolding edge_of clocked_of rising_of falling_of read_on_of counted_of acknowledge_of follow_of launch_of heard_of send_of
bytes_go_out_lem p byte z w t h =
    let shown_alike = bits_shown byte h in
    let gathered = ap (gather 0) shown_alike ∙ gather_spell byte h in
    ((refl, (refl, (shown_alike, (gathered, refl)))), (refl, (refl, (shown_alike, (gathered, refl)))))

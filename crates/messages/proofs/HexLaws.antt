-- Hexadecimal digits: `hex` computes what `Hexed` asks, and the digits as they are written. Assumes nothing.
use Prim.Native.Nat.{ℕ, zero, suc, ◌+◌, ◌*◌, ◌/◌, ◌%◌, ◌^◌, ◌≤◌, ◌<◌}
use mathlib.Core.Path.{◌≡◌, refl}
use mathlib.Core.Bool.{Bool, true, false}
use mathlib.Core.List.{List, [], ◌∷◌, ◌++◌}
use native.Mathlib.Omega.{arith}
use native.Mathlib.Nat.{pow-suc}
use lib.Dec.{ltb}
use lib.ListN.{length, set, length-append}
use borrow.Author.Tests.{ltb-true, ltb-false}
use Rattle.messages.specs.Messages.{figure, Hexed}
use Rattle.messages.proofs.OneMessage.{hexed_one}
use Rattle.messages.specs.Spelled.{hex_by, hex}
use Rattle.buffers.specs.Writing.{Added}
use Rattle.buffers.proofs.AddedLaws.{added_length, added_one, added_byte}

more_of : (n : ℕ) {s : List ℕ} → 16 ≤ n → Hexed (n / 16) s → Hexed n (s ++ (figure (n % 16) ∷ []))
more_of n {s} h r =
    let z : n / 16 * 16 + n % 16 ≡ n = omega arith in
    let p : 0 < n / 16 = omega arith in
    let m : n % 16 < 16 = omega arith in
    let k : Hexed (n / 16 * 16 + n % 16) (s ++ (figure (n % 16) ∷ [])) = Hexed.more p r m in
    rw z at k

hexed_by : (k n : ℕ) → n ≤ k → Hexed n (hex_by k n)
unfolding hex_by
hexed_by zero n h = Hexed.one {d = n} (omega arith)
hexed_by (suc k) n h = go (ltb n 16) refl (hexed_by k (n / 16))
  where
    go : (b : Bool) → ltb n 16 ≡ b → (n / 16 ≤ k → Hexed (n / 16) (hex_by k (n / 16))) → Hexed n (hex_by (suc k) n)
    go true e ih = rw (e, hex_by) (Hexed.one (ltb-true n 16 e))
    go false e ih = let l = ltb-false n 16 e in rw (e, hex_by) (more_of n l (ih (omega arith)))

pub hexed : (n : ℕ) → Hexed n (hex n)
unfolding hex
hexed n = hexed_by n n (omega arith)

hex_small : (n : ℕ) → n < 16 → hex n ≡ figure n ∷ []
hex_small n h = hexed_one (hexed n) (Hexed.one h)

hex_more : (n : ℕ) → 16 ≤ n → hex n ≡ hex (n / 16) ++ (figure (n % 16) ∷ [])
hex_more n h = hexed_one (hexed n) (more_of n h (hexed (n / 16)))

pub hexed_fits : {n : ℕ} {s : List ℕ} → Hexed n s → (k : ℕ) → n < 16 ^ suc k → length s ≤ suc k
hexed_fits (Hexed.one h) k l = omega arith
hexed_fits (Hexed.more p r h) zero l = absurd (omega arith)
hexed_fits (Hexed.more {d = d} {s = s} p r h) (suc k) l = let i = hexed_fits r k (omega (arith, pow-suc 16 (suc k))) in
    omega (arith, length-append s (figure d ∷ []))

-- so many digits hold it
pub hex_fits : (n k : ℕ) → n < 16 ^ suc k → length (hex n) ≤ suc k
hex_fits n k h = hexed_fits (hexed n) k h

-- one digit, and one digit more, written
pub put_digit : (old : List ℕ) (at n b : ℕ) → n < 16 → b ≡ figure n → at < length old
    → Added old (set old at b) at (hex n) (at + 1)
put_digit old at n b h e l = rw (hex_small n h, ← e) (added_one old at b l)

pub put_digits : {old new : List ℕ} {at end : ℕ} (n b : ℕ) → 16 ≤ n → b ≡ figure (n % 16) → end < length new
    → Added old new at (hex (n / 16)) end → Added old (set new end b) at (hex n) (end + 1)
put_digits n b h e l p = rw (hex_more n h, ← e) (added_byte b p (omega (arith, added_length p)))

-- of 32 bits
pub hex_7 : (n : ℕ) → n < 2 ^ 32 → length (hex (n / 16)) ≤ 7
hex_7 n h = hex_fits (n / 16) 6 (omega arith)

pub hex_8 : (n : ℕ) → n < 2 ^ 32 → length (hex n) ≤ 8
hex_8 n h = hex_fits n 7 (omega arith)

pub ruleset digits = (added_length, hex_7)

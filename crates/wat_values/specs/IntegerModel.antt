-- The number that digits are, by a walk over them.
use Rattle.std.specs.Prelude.{ℕ, ◌+◌, ◌*◌, ◌/◌, ◌%◌, true, false, List, [], ◌∷◌, eqb}
use Rattle.wat.specs.{Bytes.byte}

-- the value of a digit of either radix: its low four bits, and 9 for a letter
unfoldable pub digit_value : ℕ → ℕ
digit_value b = b % 16 + 9 * (b / 64)

-- the number of digits to the radix r, underscores passed over, that follow others whose number is n
unfoldable pub amount : ℕ → ℕ → List ℕ → ℕ
amount r n [] = n
amount r n (b ∷ t) = elim (eqb b (byte "_")) [ true ↦ amount r n t | false ↦ amount r (n * r + digit_value b) t ]

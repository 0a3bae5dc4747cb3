-- Laws for the code that writes the bytes of a scalar value: one case for each number of bytes. Assumes nothing.
use Prim.Native.Nat.{ℕ, ◌+◌, ◌/◌, ◌%◌, ◌≤◌, ◌<◌}
use mathlib.Core.Path.{◌≡◌}
use mathlib.Core.List.{List, [], ◌∷◌}
use native.Mathlib.Omega.{arith}
use native.Mathlib.Numerals.{add-one, add-two, add-three}
use lib.ListN.{length, set, length-set}
use lib.Seq.{sets}
use borrow.Author.Tests.{lt-ltb, le-ltb}
use Rattle.wat.specs.StringModel.{encode}
use Rattle.buffers.specs.Writing.{Put}
use Rattle.buffers.proofs.PutLaws.{put_stores}

module _ (v : ℕ) where
  code_1 : v < 0x80 → encode v ≡ v ∷ []
  unfolding encode
  code_1 h = rw (lt-ltb v 0x80 h)

  code_2 : 0x80 ≤ v → v < 0x800 → encode v ≡ (0xC0 + v / 0x40) ∷ (0x80 + v % 0x40) ∷ []
  unfolding encode
  code_2 h k = rw (le-ltb v 0x80 h, lt-ltb v 0x800 k)

  code_3 : 0x800 ≤ v → v < 0x10000 → encode v ≡ (0xE0 + v / 0x1000) ∷ (0x80 + v / 0x40 % 0x40) ∷ (0x80 + v % 0x40) ∷ []
  unfolding encode
  code_3 h k = rw (le-ltb v 0x80 (omega arith), le-ltb v 0x800 h, lt-ltb v 0x10000 k)

  code_4 : 0x10000 ≤ v → encode v
      ≡ (0xF0 + v / 0x40000) ∷ (0x80 + v / 0x1000 % 0x40) ∷ (0x80 + v / 0x40 % 0x40) ∷ (0x80 + v % 0x40) ∷ []
  unfolding encode
  code_4 h = rw (le-ltb v 0x80 (omega arith), le-ltb v 0x800 (omega arith), le-ltb v 0x10000 h)

  pub long_1 : v < 0x80 → 1 ≡ length (encode v)
  long_1 h = rw (code_1 h)

  pub long_2 : 0x80 ≤ v → v < 0x800 → 2 ≡ length (encode v)
  long_2 h k = rw (code_2 h k)

  pub long_3 : 0x800 ≤ v → v < 0x10000 → 3 ≡ length (encode v)
  long_3 h k = rw (code_3 h k)

  pub long_4 : 0x10000 ≤ v → 4 ≡ length (encode v)
  long_4 h = rw (code_4 h)

-- what the stores leave is the bytes at their place

module _ (d : List ℕ) (to v : ℕ) where
  stored : (w : List ℕ) → encode v ≡ w → to + length w ≤ length d → Put d (sets d to w) to (encode v)
  stored w e h = rw e (put_stores d to w h)

  pub put_code_1 : (a : ℕ) → to + 1 ≤ length d → v < 0x80 → a ≡ v → Put d (set d to a) to (encode v)
  put_code_1 a room h p = stored (a ∷ []) (rw p (code_1 v h)) room

  pub put_code_2 :
      (a b : ℕ) → to + 2 ≤ length d → 0x80 ≤ v → v < 0x800 → a ≡ 0xC0 + v / 0x40 → b ≡ 0x80 + v % 0x40
      → Put d (set (set d to a) (to + 1) b) to (encode v)
  put_code_2 a b room h k p q = rw (add-one to) (stored (a ∷ b ∷ []) (rw (p, q) (code_2 v h k)) room)

  pub put_code_3 :
      (a b c : ℕ) → to + 3 ≤ length d → 0x800 ≤ v → v < 0x10000 → a ≡ 0xE0 + v / 0x1000
      → b ≡ 0x80 + v / 0x40 % 0x40 → c ≡ 0x80 + v % 0x40
      → Put d (set (set (set d to a) (to + 1) b) (to + 2) c) to (encode v)
  put_code_3 a b c room h k p q r = rw (add-one to, add-two to) (stored (a ∷ b ∷ c ∷ []) (rw (p, q, r) (code_3 v h k)) room)

  pub put_code_4 :
      (a b c e : ℕ) → to + 4 ≤ length d → 0x10000 ≤ v → a ≡ 0xF0 + v / 0x40000 → b ≡ 0x80 + v / 0x1000 % 0x40
      → c ≡ 0x80 + v / 0x40 % 0x40 → e ≡ 0x80 + v % 0x40
      → Put d (set (set (set (set d to a) (to + 1) b) (to + 2) c) (to + 3) e) to (encode v)
  put_code_4 a b c e room h p q r x =
      rw (add-one to, add-two to, add-three to) (stored (a ∷ b ∷ c ∷ e ∷ []) (rw (p, q, r, x) (code_4 v h)) room)

-- how many bytes, and what their stores leave
pub ruleset codes =
    (length-set, long_1, long_2, long_3, long_4, put_code_1, put_code_2, put_code_3, put_code_4)

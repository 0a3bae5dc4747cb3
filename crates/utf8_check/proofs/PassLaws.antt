-- The check passes over a character of two, three or four bytes. Assumes nothing.
use Rattle.std.proofs.Common.{◌≡◌, ℕ, suc, ◌+◌, ◌<◌, ◌≤◌, List, [], ◌∷◌, ◌++◌, length, get_or, drop, sym, ap, ◌∙◌}
use Rattle.std.proofs.Common.{add-one, arith, drop-cons}
use native.Mathlib.Numerals.{add-two, add-three, add-four}
use Rattle.wat.specs.Utf8.{Char}
use Rattle.wat.specs.Utf8Model.{front, scan}
use Rattle.wat.proofs.Utf8Laws.{char_front}
use Rattle.utf8_check.proofs.ScanLaws.{scan_whole}

module _ (s : List ℕ) (i : ℕ) where
  passes :
      (c : List ℕ) → Char c → i + length c ≤ length s → 0 < length c → drop i s ≡ c ++ drop (i + length c) s
      → scan (i + length c) 0 (drop (i + length c) s) ≡ scan i 0 (drop i s)
  passes c ch h l e = sym (scan_whole s i (omega arith) (length c) (ap front e ∙ char_front c (drop (i + length c) s) ch))

  pub pass_2 : i + 2 ≤ length s → Char (get_or s i 0 ∷ get_or s (i + 1) 0 ∷ [])
      → scan (i + 2) 0 (drop (i + 2) s) ≡ scan i 0 (drop i s)
  pass_2 h ch =
      passes (get_or s i 0 ∷ get_or s (i + 1) 0 ∷ []) ch h (omega arith)
      (rw (drop-cons s i 0 (omega arith), drop-cons s (suc i) 0 (omega arith), add-one i, add-two i))

  pub pass_3 :
      i + 3 ≤ length s → Char (get_or s i 0 ∷ get_or s (i + 1) 0 ∷ get_or s (i + 2) 0 ∷ [])
      → scan (i + 3) 0 (drop (i + 3) s) ≡ scan i 0 (drop i s)
  pass_3 h ch =
      passes (get_or s i 0 ∷ get_or s (i + 1) 0 ∷ get_or s (i + 2) 0 ∷ []) ch h (omega arith)
      (rw (
        drop-cons s i 0 (omega arith),
        drop-cons s (suc i) 0 (omega arith),
        drop-cons s (suc (suc i)) 0 (omega arith),
        add-one i,
        add-two i,
        add-three i,
      ))

  pub pass_4 :
      i + 4 ≤ length s → Char (get_or s i 0 ∷ get_or s (i + 1) 0 ∷ get_or s (i + 2) 0 ∷ get_or s (i + 3) 0 ∷ [])
      → scan (i + 4) 0 (drop (i + 4) s) ≡ scan i 0 (drop i s)
  pass_4 h ch =
      passes (get_or s i 0 ∷ get_or s (i + 1) 0 ∷ get_or s (i + 2) 0 ∷ get_or s (i + 3) 0 ∷ []) ch h (omega arith)
      (rw (
        drop-cons s i 0 (omega arith),
        drop-cons s (suc i) 0 (omega arith),
        drop-cons s (suc (suc i)) 0 (omega arith),
        drop-cons s (suc (suc (suc i))) 0 (omega arith),
        add-one i,
        add-two i,
        add-three i,
        add-four i,
      ))

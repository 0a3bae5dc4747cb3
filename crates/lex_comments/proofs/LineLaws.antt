-- A line comment without the byte 0xE2: it ends where the line ends, and hides no character. Assumes nothing.
use Prim.Native.Nat.{ℕ, suc, ◌+◌, ◌≤◌, ◌<◌}
use mathlib.Core.Path.{◌≡◌, sym}
use mathlib.Core.Logic.{◌⊎◌, ⊎_elim, ⊎_map}
use mathlib.Core.Bool.{true, false}
use mathlib.Core.List.{List}
use native.Mathlib.Omega.{arith}
use lib.Dec.{eqb}
use lib.ListN.{length, get_or, drop}
use borrow.Author.Tests.{eqb-true, eqb-false}
use Rattle.wat.specs.Utf8.{WellFormed}
use Rattle.wat.specs.Chars.{newline}
use Rattle.wat.specs.LexModel.{hidden}
use Rattle.wat.specs.declared.Hidden.TheVariants.{Clear}
use Rattle.wat.proofs.Basics.{or_split, or_no, below}
use Rattle.lex_classes.specs.Scan as scan
use Rattle.lex_classes.specs.Scan.{Scanned, Passed, First}
use Rattle.lex_classes.proofs.ScanLaws.{scanned_at, scanned_next, scanned_then, passed_stop, passed_end}
use Rattle.lex_classes.proofs.SearchLaws.{none_passed, sought_block, earliest_scanned}
use Rattle.lex_comments.specs.Find.{byte_at}
use Rattle.lex_comments.specs.Ends.{line_stop}
use Rattle.lex_comments.specs.Confusing.{confusing_at, hidden_in}
use Rattle.lex_comments.proofs.FindLaws.{clear_also}
use Rattle.lex_comments.proofs.HiddenChars.{not_lead, unled_hides}
use Rattle.lex_comments.proofs.HiddenLaws.{seen_start, seen_plain, seen_clear}

module _ (b : ℕ) where
  stop_either : line_stop b ≡ true → (newline b ≡ true) ⊎ (b ≡ 0xE2)
  unfolding line_stop
  stop_either e = ⊎_map (λ p. p) (λ p. sym (eqb-true 0xE2 b p)) (or_split (newline b) (eqb 0xE2 b) e)

  no_stop : line_stop b ≡ false → (newline b ≡ false) × (b ≡ 0xE2 → ⊥)
  unfolding line_stop
  no_stop e = let p = or_no (newline b) (eqb 0xE2 b) e in (p.0, λ q. eqb-false 0xE2 b p.1 (sym q))

module _ (s : List ℕ) (at k : ℕ) (p : Scanned line_stop false s at k) where
  on : at ≤ k
  on = omega (arith, p.end)

  no_stops : scan.Clear (byte_at line_stop s) at k
  no_stops = record { none = scanned_at line_stop false s at k p }

  no_newlines : Passed newline false s at k
  no_newlines =
      none_passed newline s at k on p.within (clear_also (byte_at newline s) (λ j e. (no_stop (get_or s j 0) e).0) no_stops)

  -- the line goes on behind k
  pub line_goes_on : (r : ℕ) → Scanned newline false s k r → Scanned newline false s at r
  line_goes_on r q = scanned_then newline false s at k r no_newlines q

  -- the line ends at k, where that byte is not 0xE2
  pub line_ends_lem : (k < length s → get_or s k 0 ≡ 0xE2 → ⊥) → Scanned newline false s at k
  line_ends_lem n =
      ⊎_elim (λ h.
      passed_stop newline false s at k no_newlines h
      (⊎_elim (λ e. e) (λ e. absurd (n h e)) (stop_either (get_or s k 0) (scanned_next line_stop false s at k p h))))
      (λ h. passed_end newline false s at k no_newlines h) (below k (length s))

  none_confusing : scan.Clear (confusing_at s) at k
  none_confusing =
      clear_also (confusing_at s)
      (λ j e. unled_hides (get_or s j 0) (get_or s (j + 1) 0) (get_or s (j + 2) 0) (not_lead (get_or s j 0) (no_stop (get_or s j 0) e).1))
      no_stops

  -- nothing before k is confusing
  pub line_hides_nothing : WellFormed (drop at s) → hidden_in at k (hidden (suc (length (drop at s))) (drop at s)) ≡ Clear
  line_hides_nothing w =
      sym (seen_clear s at k k (seen_plain s at k at k w (seen_start s at k (omega (arith, on, p.within)) w) on p.within none_confusing)
      (omega arith))

-- a line that stops in a block of 64 bytes
pub line_block : (s : List ℕ) (at i r : ℕ) → First (byte_at line_stop s) i 64 r → r < 64 → at ≤ i
    → scan.Clear (byte_at line_stop s) at i → i + 64 ≤ length s → Scanned line_stop false s at (i + r)
line_block s at i r q h a p l =
    earliest_scanned line_stop false s at (i + 64) (i + r) l (sought_block (byte_at line_stop s) at i 64 r a p q h)

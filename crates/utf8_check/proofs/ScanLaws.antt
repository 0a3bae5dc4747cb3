-- Laws for the code that checks a text from a place on. Assumes nothing.
use Rattle.std.proofs.Common.{◌≡◌, ℕ, suc, pred, ◌+◌, ◌<◌, ◌≤◌, List, [], ◌∷◌, length, get_or, drop, ap, ◌∙◌, arith}
use Rattle.std.proofs.Common.{drop_of_length-le, drop-cons, drop-drop, Ok}
use Rattle.wat.specs.Utf8.{Says}
use Rattle.wat.specs.declared.Front.TheVariants.{Whole, Wrong, Cut}
use Rattle.wat.specs.Utf8Model.{front, verdict, scan, checked}
use Rattle.wat.specs.Checked.{Checked, Bad}
use Rattle.wat.proofs.Utf8Laws.{char_front, scan_skip, checked_says}
use Rattle.wat.proofs.Scalars.{ascii}
use Rattle.utf8_chars.proofs.DecodeLaws.{front_char}

scan_here : (s : List ℕ) (i : ℕ) → i < length s
    → scan i 0 (drop i s) ≡ verdict i (front (drop i s)) (λ k. scan (suc i) k (drop (suc i) s))
unfolding scan
scan_here s i h = rw (drop-cons s i 0 h)

module _ (s : List ℕ) (i : ℕ) (h : i < length s) where
  pub scan_whole : (n : ℕ) → front (drop i s) ≡ Whole n → scan i 0 (drop i s) ≡ scan (i + n) 0 (drop (i + n) s)
  scan_whole n e =
      let z = front_char (drop i s) n e in
      let q : suc i + pred n ≡ i + n = omega arith in
      scan_here s i h ∙ rw e (scan_skip (suc i) (pred n) (drop (suc i) s) ∙ rw (drop-drop (pred n) (suc i) s, q))

  pub scan_ascii : get_or s i 0 < 0x80 → scan i 0 (drop i s) ≡ scan (i + 1) 0 (drop (i + 1) s)
  scan_ascii l = scan_whole 1 (ap front (drop-cons s i 0 h) ∙ char_front (get_or s i 0 ∷ []) (drop (suc i) s) (ascii (get_or s i 0) l))

  pub scan_wrong : (k : ℕ) → front (drop i s) ≡ Wrong k → scan i 0 (drop i s) ≡ Bad i k
  scan_wrong k e = scan_here s i h ∙ rw e

  pub scan_cut : front (drop i s) ≡ Cut → scan i 0 (drop i s) ≡ Bad i 0
  scan_cut e = scan_here s i h ∙ rw e

pub scan_end : (s : List ℕ) (i : ℕ) → length s ≤ i → scan i 0 (drop i s) ≡ Ok tt
unfolding scan
scan_end s i h = rw (drop_of_length-le s h)

-- whoever has the model's answer knows what it says
pub says_of_model : (s : List ℕ) (r : Checked) → r ≡ checked s → Says s r
says_of_model s r e = rw e (checked_says s)

-- Words whose kind the front tells: with `$` no number begins, with a letter those alone that begin as `inf` and `nan` do, and
-- decimal digits are an integer. Assumes nothing.
use Prim.Native.Nat.{ℕ, zero, suc, ◌+◌, ◌-◌, ◌≤◌, ◌<◌}
use mathlib.Core.Path.{◌≡◌, refl, sym, ap, ◌∙◌}
use mathlib.Core.Bool.{Bool, true, false, ◌&&◌, and-false}
use mathlib.Core.List.{List, [], ◌∷◌}
use mathlib.Core.Option.{none}
use native.Mathlib.Omega.{arith}
use lib.Dec.{eqb}
use lib.ListN.{length, get_or}
use lib.Seq.{slice}
use Rattle.wat.specs.declared.Sign.TheVariants.{Unsigned}
use Rattle.wat.specs.declared.Number.{Number}
use Rattle.wat.specs.declared.Number.TheVariants.{Integer, Neither}
use Rattle.wat.specs.declared.TokenKind.{TokenKind}
use Rattle.wat.specs.declared.TokenKind.TheVariants as kind
use Rattle.wat.specs.Bytes.{byte, between, has, Each}
use Rattle.wat.specs.Chars.{letter}
use Rattle.wat.specs.Numbers.{digit, Digits, Signed, IsInteger, KindOf}
use Rattle.wat.specs.NumberModel.{strip, is, nothing_left, classify}
use Rattle.wat.specs.LexModel.{next, word_kind}
use Rattle.wat.specs.Tokens.{number_kind}
use Rattle.wat.proofs.Basics.{never, or_no, between_true, between_over}
use Rattle.wat.proofs.Numbers.Digits.{apart}
use Rattle.wat.proofs.Numbers.Parts.{plain, sign_passed, after_passed}
use Rattle.wat.proofs.Numbers.Decides.{complete_integer}
use Rattle.lex_classes.specs.Scan.{Scanned}
use Rattle.lex_classes.proofs.ScanLaws.{scanned_at}
use Rattle.lex_numbers.proofs.SliceLaws.{at_byte, at_end_empty}
use Rattle.lex_numbers.proofs.KindLaws.{is_none, classified}
use Rattle.lex_token.specs.Fronts.{lettered}
use Rattle.lex_token.proofs.SliceLaws.{slice_one, slice_two}
use Rattle.lex_token.proofs.KindLaws.{plain_id, plain_letter}

-- ---- no number begins so

module _ (p q : ℕ) (ps : List ℕ) (x : ℕ) (t : List ℕ) (e : eqb x p && next q t ≡ false) where
  -- the bytes do not begin with p and q
  strip_two : strip (p ∷ q ∷ ps) (x ∷ t) ≡ none
  unfolding strip
  strip_two = go t (eqb x p) refl e
    where
      go : (t : List ℕ) (b : Bool) → eqb x p ≡ b → b && next q t ≡ false → strip (p ∷ q ∷ ps) (x ∷ t) ≡ none
      go t false i f = rw (i, strip)
      go [] true i f = rw (i, strip)
      go (y ∷ t) true i f = rw (i, f, strip)

  is_two : is (p ∷ q ∷ ps) (x ∷ t) ≡ false
  unfolding is nothing_left
  is_two = rw strip_two

module _ (x : ℕ) (t : List ℕ) where
  neither : eqb x (byte "+") ≡ false → eqb x (byte "-") ≡ false → digit false x ≡ false → lettered (x ∷ t) ≡ false
      → classify (x ∷ t) ≡ Neither
  unfolding classify
  neither p m d e =
      let sg = plain {x = x} {xs = t} p m in
      let f = or_no (eqb x (byte "i") && next (byte "n") t) _ e in
      rw (sign_passed Signed.unsigned sg, after_passed Signed.unsigned sg)
      (sym (is_none Unsigned (x ∷ t) (is_two (byte "i") (byte "n") _ x t f.0) (is_two (byte "n") (byte "a") _ x t f.1) x refl
      (strip_two (byte "n") (byte "a") _ x t f.1) d))

  dollar : x ≡ byte "$" → classify (x ∷ t) ≡ Neither
  unfolding digit between
  dollar e = neither (rw e) (rw e) (rw e) (rw e)

  letter_no_digit : letter x ≡ true → digit false x ≡ false
  unfolding letter digit
  letter_no_digit l =
      let r = between_true (byte "a") (byte "z") x l in rw (between_over (byte "0") (byte "9") x (omega arith))

  letters : letter x ≡ true → lettered (x ∷ t) ≡ false → classify (x ∷ t) ≡ Neither
  unfolding letter between
  letters l e = neither (apart letter x (byte "+") l refl) (apart letter x (byte "-") l refl) (letter_no_digit l) e

-- ---- decimal digits

digits_each : (x : ℕ) (t : List ℕ) → digit false x ≡ true → Each (digit false) true t → Digits false (x ∷ t)
digits_each x [] d r = Digits.last d
digits_each x (y ∷ t) d (Each.next e r) = Digits.next d (digits_each y t e r)

no_underscore : {t : List ℕ} → Each (digit false) true t → has (byte "_") t ≡ false
unfolding has digit between
no_underscore Each.none = refl
no_underscore (Each.next {x = x} e r) = rw (apart (digit false) x (byte "_") e refl, no_underscore r)

digits_alone : (x : ℕ) (t : List ℕ) → digit false x ≡ true → Each (digit false) true t
    → classify (x ∷ t) ≡ Integer Unsigned false false
digits_alone x t d r =
    complete_integer (IsInteger.integer Signed.unsigned (digits_each x t d r))
    ∙ ap (Integer Unsigned false) (no_underscore (Each.next d r))

-- n bytes from i to the end are digits where each is one
digits_slice :
    (s : List ℕ) (end : ℕ) → end ≤ length s → (n i : ℕ) → end ≡ i + n
    → ((k : ℕ) → i ≤ k → k < end → digit false (get_or s k 0) ≡ true) → Each (digit false) true (slice i end s)
digits_slice s end l zero i e p = rw (at_end_empty s i end (omega arith)) Each.none
digits_slice s end l (suc n) i e p =
    let rest = digits_slice s end l n (i + 1) (omega arith) (λ k g m. p k (omega (arith, g)) m) in
    rw (at_byte s i end (omega arith) l) (Each.next (p i (omega arith) (omega arith)) rest)

-- ---- the kind of a word at a place

module _ (s : List ℕ) (at end : ℕ) where
  abbrev pub kind_of : Number → TokenKind
  kind_of n = word_kind n (get_or s at 0)

  abbrev pub kind_here : TokenKind
  kind_here = kind_of (classify (slice at end s))

  module _ (h : at < end) (l : end ≤ length s) where
    by_front : {n : Number} → classify (get_or s at 0 ∷ slice (at + 1) end s) ≡ n → kind_here ≡ kind_of n
    by_front e = ap kind_of (ap classify (at_byte s at end h l) ∙ e)

    pub front_id : get_or s at 0 ≡ byte "$" → kind_here ≡ kind.Id
    front_id e = by_front (dollar _ _ e) ∙ plain_id _ e

    module _ (a : letter (get_or s at 0) ≡ true) where
      keyword : lettered (slice at end s) ≡ false → kind_here ≡ kind.Keyword
      unfolding letter between
      keyword e =
          by_front (letters _ _ a (rw (at_byte s at end h l) at e))
          ∙ plain_letter (get_or s at 0) (λ q. never a (ap letter q)) (λ q. never a (ap letter q)) a

      pub front_letter : end ≤ at + 1 → kind_here ≡ kind.Keyword
      front_letter m = keyword (ap lettered (slice_one s at end l (omega arith)) ∙ rw (and-false, and-false))

      pub front_two : at + 1 < end → lettered (get_or s at 0 ∷ get_or s (at + 1) 0 ∷ []) ≡ false → kind_here ≡ kind.Keyword
      front_two m e = keyword (ap lettered (slice_two s at end l m) ∙ e)

    digits : {r : ℕ} → digit false (get_or s at 0) ≡ true → Scanned (digit false) true s (at + 1) r → end ≤ r
        → kind_here ≡ number_kind (Integer Unsigned false false)
    digits {r} d c n =
        let all = scanned_at (digit false) true s (at + 1) r c in
        by_front (digits_alone _ _ d (digits_slice s end l (end - (at + 1)) (at + 1) (omega arith)
        (λ k g m. all k g (omega (arith, m)))))

  pub front_digits : (r : ℕ) (b : Bool) (k : TokenKind) → Scanned (digit false) true s (at + 1) r → end ≤ r
      → b ≡ digit false (get_or s at 0) → b ≡ true → at < end → end ≤ length s
      → k ≡ number_kind (Integer Unsigned false false) → k ≡ kind_here
  front_digits r b k c n e d h l z = z ∙ sym (digits h l (sym e ∙ d) c n)

  -- the number that the whole word is tells it
  pub front_told : (n : Number) (k : TokenKind) → KindOf (slice at end s) n → k ≡ kind_of n → k ≡ kind_here
  front_told n k c e = e ∙ ap kind_of (classified c)

pub ruleset fronts = (front_id, front_letter, front_two)

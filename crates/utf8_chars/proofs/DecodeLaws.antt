-- Laws for the code that decodes the character at a place. Assumes nothing.
use Rattle.std.proofs.Common.{◌≡◌, ℕ, ◌<◌, ◌≤◌, List, [], ◌∷◌, length, take, drop, ap, ⊎_elim, arith, length-append}
use Rattle.std.proofs.Common.{length-drop, drop_of_length-le, length-take-le, drop-drop}
use lib.Seq.{take-append_seam}
use Rattle.wat.specs.Utf8.{Char, scalar}
use Rattle.wat.specs.declared.Front.{Front}
use Rattle.wat.specs.declared.Front.TheVariants.{Whole, Wrong, Cut}
use Rattle.wat.specs.Utf8Model.{front}
use Rattle.wat.specs.StringModel.{nothing, peek}
use Rattle.wat.proofs.Utf8Rows.{char_full}
use Rattle.wat.proofs.Utf8Laws.{View, whole, cut, wrong, viewed}
use Rattle.wat.proofs.ScalarValues.{char_short, char_right}
use Rattle.wat.proofs.Scalars.{scalar_split}
use Rattle.wat.proofs.Basics.{differ}
use Rattle.utf8_chars.specs.Decoding.{Character}

char_some : (c : List ℕ) → Char c → 1 ≤ length c
char_some [] ch = absurd (char_full ch)
char_some (x ∷ c) ch = omega arith

pub char_small : (c : List ℕ) → Char c → scalar c < 0x110000
char_small c ch = ⊎_elim (λ h. omega arith) (λ h. omega arith) (scalar_split (scalar c) (char_right c ch).1)

-- a character at the front
pub record FrontChar (t : List ℕ) (n : ℕ) : Type 0 where
  pub is : Char (take n t)
  pub some : 1 ≤ n
  pub few : n ≤ 4
  pub fits : n ≤ length t

pub front_char : (t : List ℕ) (n : ℕ) → front t ≡ Whole n → FrontChar t n
unfolding front
front_char [] n h = differ (cc)
front_char (b ∷ t) n h = go h (viewed b t)
  where
    go : {f : Front} → f ≡ Whole n → View (b ∷ t) f → FrontChar (b ∷ t) n
    go h (whole c u e ch x) =
        let l : n ≡ length c = cc in
        record {
          is = rw (l, e, take-append_seam c u) ch;
          some = omega (arith, char_some c ch);
          few = omega (arith, char_short ch);
          fits = omega (arith, length-append c u, ap length e);
        }
    go h (cut i nc x) = differ (cc)
    go h (wrong j r nc x) = differ (cc)

-- what the front says of `peek`

pub decoded_char :
    (s : List ℕ) (at v n : ℕ) → at ≤ length s → front (drop at s) ≡ Whole n → v ≡ scalar (take n (drop at s))
    → Character s at v n
unfolding peek
decoded_char s at v n h e q =
    let f = front_char (drop at s) n e in
    record {
      peeked = rw (e, drop-drop n at s);
      is = f.is;
      value = q;
      long = length-take-le n (drop at s) f.fits;
      some = f.some;
      few = f.few;
      fits = omega (arith, f.fits, length-drop at s);
      small = omega (arith, char_small (take n (drop at s)) f.is);
    }

pub decoded_wrong : (t : List ℕ) (k : ℕ) → front t ≡ Wrong k → peek t ≡ nothing
unfolding peek
decoded_wrong t k e = rw e

pub decoded_cut : (t : List ℕ) → front t ≡ Cut → peek t ≡ nothing
unfolding peek
decoded_cut t e = rw e

pub decoded_end : (s : List ℕ) (at : ℕ) → length s ≤ at → peek (drop at s) ≡ nothing
unfolding peek front
decoded_end s at h = rw (drop_of_length-le s h)

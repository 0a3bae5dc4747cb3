-- Laws of one character: at a place, as a digit, and as a letter after `\`. Assumes nothing.
use Prim.Native.Nat.{ℕ, zero, suc, ◌≤◌, ◌<◌}
use mathlib.Core.Path.{◌≡◌, refl, sym, ap, ◌∙◌}
use mathlib.Core.Logic.{⊎_elim}
use mathlib.Core.List.{List, [], ◌∷◌}
use mathlib.Core.Option.{Option, none, some}
use mathlib.Core.Bool.{true}
use native.Mathlib.Omega.{arith}
use native.Mathlib.Nat.{add-zero}
use lib.ListN.{length, get_or, take, drop}
use lib.Seq.{drop-cons, get_or-take, get_or-drop}
use borrow.Author.Tests.{lt-ltb, le-ltb}
use Rattle.wat.specs.Utf8.{scalar}
use Rattle.wat.specs.declared.Front.TheVariants.{Whole}
use Rattle.wat.specs.Utf8Model.{front}
use Rattle.wat.specs.Chars.{is_scalar}
use Rattle.wat.specs.StringModel.{hex_of, encode}
use Rattle.wat.proofs.Utf8Laws.{char_front}
use Rattle.wat.proofs.ScalarValues.{char_right}
use Rattle.wat.proofs.Scalars.{ascii, alone_at, scalar_split}
use Rattle.wat.proofs.Basics.{below}
use Rattle.wat.proofs.HexDigits.{of_hex, hex_ascii}
use Rattle.utf8_chars.specs.Decoding.{Character}
use Rattle.utf8_chars.proofs.DecodeLaws.{decoded_char}
use Rattle.utf8_chars.proofs.CharBytes.{wide_scalar}
use Rattle.buffers.proofs.EncodeLaws.{long_1, long_2, long_3, long_4}

-- an ASCII byte is a character by itself
pub ascii_character : (s : List ℕ) (at v : ℕ) → at < length s → get_or s at 0 < 0x80 → v ≡ get_or s at 0 → Character s at v 1
unfolding scalar
ascii_character s at v h l e =
    let d : drop at s ≡ get_or s at 0 ∷ drop (suc at) s = drop-cons s at 0 h in
    let f : front (drop at s) ≡ Whole 1 = rw d (char_front (get_or s at 0 ∷ []) (drop (suc at) s) (ascii (get_or s at 0) l)) in
    decoded_char s at v 1 (omega arith) f (rw d e)

module _ (s : List ℕ) (at v n : ℕ) (ch : Character s at v n) where
  -- and no longer character has such a scalar value
  pub alone : v < 0x80 → n ≡ 1
  alone h =
      let e : take n (drop at s) ≡ v ∷ [] = alone_at (take n (drop at s)) v ch.is (sym ch.value) h in
      sym ch.long ∙ ap length e

  pub alone_hex : (d : ℕ) → hex_of v ≡ some d → n ≡ 1
  alone_hex d e = alone (hex_ascii (of_hex v d e))

  -- nor does one that starts with another byte
  pub high : 0x80 ≤ get_or s at 0 → 0x80 ≤ v
  high h =
      let first : get_or (take n (drop at s)) 0 0 ≡ get_or s at 0 =
      rw (get_or-take n (drop at s) 0 0 ch.some, get_or-drop at s 0 0, add-zero at) in
      omega (arith, ch.value, wide_scalar (take n (drop at s)) ch.is (omega arith))

  pub encoded : encode v ≡ take n (drop at s)
  encoded = ap encode ch.value ∙ (char_right (take n (drop at s)) ch.is).0

pub encode_short : (v : ℕ) → length (encode v) ≤ 4
encode_short v =
    ⊎_elim (λ h. omega (arith, long_1 v h)) (λ h.
    ⊎_elim (λ k. omega (arith, long_2 v h k)) (λ k.
    ⊎_elim (λ l. omega (arith, long_3 v k l)) (λ l. omega (arith, long_4 v l))
    (below v 0x10000)) (below v 0x800)) (below v 0x80)

pub scalar_small : (n : ℕ) → is_scalar n ≡ true → n < 0x110000
scalar_small n e = ⊎_elim (λ h. omega arith) (λ h. omega arith) (scalar_split n e)

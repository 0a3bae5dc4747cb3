-- The bytes of a character are those of its scalar value, and at most four. Assumes nothing.
use Prim.Native.Nat.{ℕ, ◌+◌, ◌*◌, ◌/◌, ◌%◌, ◌≤◌, ◌<◌}
use mathlib.Core.Path.{◌≡◌}
use mathlib.Core.Logic.{⊎_elim}
use mathlib.Core.List.Memᴰ
use mathlib.Core.List.{List, [], ◌∷◌, Memᴰ}
use mathlib.Core.Bool.{true}
use native.Mathlib.Omega.{arith}
use lib.ListN.{length, drop}
use borrow.Author.Tests.{le-ltb, lt-ltb}
use Rattle.wat.specs.Utf8.{Range, ◌‥◌, table, Fits, Char, scalar}
use Rattle.wat.specs.Chars.{is_scalar}
use Rattle.wat.specs.StringModel.{encode}
use Rattle.wat.proofs.Basics.{between_in}
use Rattle.wat.proofs.Utf8Rows.{fits_length}

-- scalar values: the bytes of a character are those of its scalar value

abbrev pub All : (List Range → Type 0) → List (List Range) → Type 0
All P [] = Unit {0}
All P (r ∷ t) = P r × All P t

pub all_listed : (P : List Range → Type 0) (t : List (List Range)) {r : List Range} → All P t → Memᴰ r t → P r
all_listed P [] a m = absurd (Memᴰ.not-nil m)
all_listed P (r ∷ t) a m = ⊎_elim (λ e. rw e a.0) (λ m'. all_listed P t a.1 m') (Memᴰ.cases_cons m)

rows_short : All (λ row. length row ≤ 4) table
unfolding table
rows_short =
    let last : All (λ row. length row ≤ 4) (drop 5 table) = (omega arith, (omega arith, (omega arith, (omega arith, tt)))) in
    (omega arith, (omega arith, (omega arith, (omega arith, (omega arith, last)))))

pub char_short : {c : List ℕ} → Char c → length c ≤ 4
char_short ch = omega (arith, fits_length ch.fits, all_listed (λ row. length row ≤ 4) table rows_short ch.listed)

abbrev Right : List ℕ → Type 0
Right c = (encode (scalar c) ≡ c) × (is_scalar (scalar c) ≡ true)

right_1 : (a : ℕ) → a ≤ 0x7F → Right (a ∷ [])
unfolding scalar encode is_scalar
right_1 a h = (rw (lt-ltb a 0x80 (omega arith)), rw (lt-ltb a 0xD800 (omega arith)))

right_2 : (a b : ℕ) → 0xC2 ≤ a → a ≤ 0xDF → 0x80 ≤ b → b ≤ 0xBF → Right (a ∷ b ∷ [])
unfolding scalar encode is_scalar
right_2 a b h₁ h₂ h₃ h₄ =
    let n = a % 0x20 * 0x40 + b % 0x40 in
    let p : 0xC0 + n / 0x40 ≡ a = omega arith in
    let q : 0x80 + n % 0x40 ≡ b = omega arith in
    (rw (le-ltb n 0x80 (omega arith), lt-ltb n 0x800 (omega arith), p, q), rw (lt-ltb n 0xD800 (omega arith)))

module _ (a b c : ℕ) (h₁ : 0xE0 ≤ a) (h₂ : a ≤ 0xEF) (h₃ : 0x80 ≤ b) (h₄ : b ≤ 0xBF) (h₅ : 0x80 ≤ c)
    (h₆ : c ≤ 0xBF) where
  right_3 :
      0x800 ≤ a % 0x10 * 0x1000 + b % 0x40 * 0x40 + c % 0x40
      → is_scalar (a % 0x10 * 0x1000 + b % 0x40 * 0x40 + c % 0x40) ≡ true → Right (a ∷ b ∷ c ∷ [])
  unfolding scalar encode
  right_3 l i =
      let n = a % 0x10 * 0x1000 + b % 0x40 * 0x40 + c % 0x40 in
      let p : 0xE0 + n / 0x1000 ≡ a = omega arith in
      let q : 0x80 + n / 0x40 % 0x40 ≡ b = omega arith in
      let r : 0x80 + n % 0x40 ≡ c = omega arith in
      (rw (le-ltb n 0x80 (omega arith), le-ltb n 0x800 l, lt-ltb n 0x10000 (omega arith), p, q, r), i)

module _ (a b c d : ℕ) (h₁ : 0xF0 ≤ a) (h₂ : a ≤ 0xF4) (h₃ : 0x80 ≤ b) (h₄ : b ≤ 0xBF) (h₅ : 0x80 ≤ c)
    (h₆ : c ≤ 0xBF) (h₇ : 0x80 ≤ d) (h₈ : d ≤ 0xBF) where
  right_4 :
      0x10000 ≤ a % 0x08 * 0x40000 + b % 0x40 * 0x1000 + c % 0x40 * 0x40 + d % 0x40
      → is_scalar (a % 0x08 * 0x40000 + b % 0x40 * 0x1000 + c % 0x40 * 0x40 + d % 0x40) ≡ true → Right (a ∷ b ∷ c ∷ d ∷ [])
  unfolding scalar encode
  right_4 l i =
      let n = a % 0x08 * 0x40000 + b % 0x40 * 0x1000 + c % 0x40 * 0x40 + d % 0x40 in
      let p : 0xF0 + n / 0x40000 ≡ a = omega arith in
      let q : 0x80 + n / 0x1000 % 0x40 ≡ b = omega arith in
      let r : 0x80 + n / 0x40 % 0x40 ≡ c = omega arith in
      let t : 0x80 + n % 0x40 ≡ d = omega arith in
      (rw (le-ltb n 0x80 (omega arith), le-ltb n 0x800 (omega arith), le-ltb n 0x10000 l, p, q, r, t), i)

pub scalar_low : (n : ℕ) → n < 0xD800 → is_scalar n ≡ true
unfolding is_scalar
scalar_low n h = rw (lt-ltb n 0xD800 h)

pub scalar_high : (n : ℕ) → 0xE000 ≤ n → n ≤ 0x10FFFF → is_scalar n ≡ true
unfolding is_scalar
scalar_high n h k = rw (le-ltb n 0xD800 (omega arith), between_in 0xE000 0x10FFFF n h k)

open_1 : {l₁ u₁ : ℕ} (P : List ℕ → Type 0) → ((a : ℕ) → l₁ ≤ a → a ≤ u₁ → P (a ∷ [])) → {s : List ℕ}
    → Fits (l₁ ‥ u₁ ∷ []) s → P s
open_1 P f (Fits.next h k Fits.done) = f _ h k

open_2 :
    {l₁ u₁ l₂ u₂ : ℕ} (P : List ℕ → Type 0)
    → ((a b : ℕ) → l₁ ≤ a → a ≤ u₁ → l₂ ≤ b → b ≤ u₂ → P (a ∷ b ∷ []))
    → {s : List ℕ} → Fits (l₁ ‥ u₁ ∷ l₂ ‥ u₂ ∷ []) s → P s
open_2 P f (Fits.next h k (Fits.next h' k' Fits.done)) = f _ _ h k h' k'

open_3 :
    {l₁ u₁ l₂ u₂ l₃ u₃ : ℕ} (P : List ℕ → Type 0)
    → ((a b c : ℕ) → l₁ ≤ a → a ≤ u₁ → l₂ ≤ b → b ≤ u₂ → l₃ ≤ c → c ≤ u₃
    → P (a ∷ b ∷ c ∷ []))
    → {s : List ℕ} → Fits (l₁ ‥ u₁ ∷ l₂ ‥ u₂ ∷ l₃ ‥ u₃ ∷ []) s → P s
open_3 P f (Fits.next h k (Fits.next h' k' (Fits.next h'' k'' Fits.done))) = f _ _ _ h k h' k' h'' k''

open_4 :
    {l₁ u₁ l₂ u₂ l₃ u₃ l₄ u₄ : ℕ} (P : List ℕ → Type 0)
    → ((a b c d : ℕ) → l₁ ≤ a → a ≤ u₁ → l₂ ≤ b → b ≤ u₂ → l₃ ≤ c → c ≤ u₃ → l₄ ≤ d
    → d ≤ u₄ → P (a ∷ b ∷ c ∷ d ∷ []))
    → {s : List ℕ} → Fits (l₁ ‥ u₁ ∷ l₂ ‥ u₂ ∷ l₃ ‥ u₃ ∷ l₄ ‥ u₄ ∷ []) s → P s
open_4 P f (Fits.next h k (Fits.next h' k' (Fits.next h'' k'' (Fits.next h''' k''' Fits.done)))) =
    f _ _ _ _ h k h' k' h'' k'' h''' k'''

rows_right : All (λ row. (s : List ℕ) → Fits row s → Right s) table
unfolding table
rows_right = (
  λ s. open_1 Right (λ a h k. right_1 a k),
  (
    λ s. open_2 Right (λ a b h k h' k'. right_2 a b h k h' k'),
    (
      λ s. open_3 Right (λ a b c h k h' k' h'' k''. right_3 a b c (omega arith) (omega arith) (omega arith)
          (omega arith) h'' k'' (omega arith) (scalar_low _ (omega arith))),
      (
        λ s. open_3 Right (λ a b c h k h' k' h'' k''. right_3 a b c (omega arith) (omega arith) h' k' h'' k''
            (omega arith) (scalar_low _ (omega arith))),
        (
          λ s. open_3 Right (λ a b c h k h' k' h'' k''. right_3 a b c (omega arith) (omega arith) (omega arith)
              (omega arith) h'' k'' (omega arith) (scalar_low _ (omega arith))),
          (
            λ s. open_3 Right (λ a b c h k h' k' h'' k''. right_3 a b c (omega arith) (omega arith) h' k' h'' k''
                (omega arith) (scalar_high _ (omega arith) (omega arith))),
            (
              λ s. open_4 Right (λ a b c d h k h' k' h'' k'' h''' k'''. right_4 a b c d (omega arith) (omega arith)
                  (omega arith) (omega arith) h'' k'' h''' k''' (omega arith) (scalar_high _ (omega arith) (omega arith))),
              (
                λ s. open_4 Right (λ a b c d h k h' k' h'' k'' h''' k'''. right_4 a b c d (omega arith)
                    (omega arith) h' k' h'' k'' h''' k''' (omega arith) (scalar_high _ (omega arith) (omega arith))),
                (
                  λ s. open_4 Right (λ a b c d h k h' k' h'' k'' h''' k'''. right_4 a b c d (omega arith) (omega arith)
                      (omega arith) (omega arith) h'' k'' h''' k''' (omega arith) (scalar_high _ (omega arith) (omega arith))),
                  tt,
                ),
              ),
            ),
          ),
        ),
      ),
    ),
  ),
)

pub char_right : (c : List ℕ) → Char c → Right c
char_right c ch = all_listed (λ row. (s : List ℕ) → Fits row s → Right s) table rows_right ch.listed c ch.fits

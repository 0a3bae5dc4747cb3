-- A string at a place, from what its functions answer: between the quotes, copied, or longer than the buffer. Assumes nothing.
use Prim.Native.Nat.{ℕ, ◌+◌, ◌-◌, ◌≤◌, ◌<◌}
use mathlib.Core.Path.{◌≡◌, refl, sym, ap, ◌∙◌}
use mathlib.Core.Bool.{Bool, true, false}
use mathlib.Core.List.{List, ◌∷◌, ◌++◌}
use native.Mathlib.Omega.{arith}
use native.Mathlib.Numerals.{add-one}
use native.Mathlib.Nat.{add-zero, zero-add}
use lib.ListN.{length, get_or, take, drop, length-drop, take-append-drop}
use lib.Seq.{slice, get_or-take, get_or-drop, drop-cons, drop_at, length-take-le, take-add}
use Rattle.wat.specs.declared.Refusal.TheVariants.{BufferTooShort}
use Rattle.wat_values.specs.Answered.{Refused, Text, Buffer}
use Rattle.wat.specs.Bytes.{byte, has}
use Rattle.wat.specs.declared.Settings.{Settings}
use Rattle.wat.specs.Settings.{lenient}
use Rattle.wat.specs.Strings.{Str}
use Rattle.wat_values.specs.Reading.{no_place}
use Rattle.wat_values.proofs.ValueLengths.{str_short}
use Rattle.lex_strings.specs.Parsing.{string, Closes, value_of, Copied}
use Rattle.lex_strings.proofs.DefinitionLaws.{str_whole}
use Rattle.read_names.specs.Names.{Quoted, Quotes}
use Rattle.read_names.proofs.PlainLaws.{str_plain}

pub first_byte : (text : List ℕ) (at len : ℕ) → 1 ≤ len → get_or (take len (drop at text)) 0 0 ≡ get_or text at 0
first_byte text at len h =
    get_or-take len (drop at text) 0 0 (omega arith) ∙ get_or-drop at text 0 0 ∙ ap (λ (n : ℕ). get_or text n 0) (add-zero at)

pub str_quote : {σ : Settings} {w v : List ℕ} → Str σ w v → get_or w 0 0 ≡ byte "\""
str_quote (Str.quoted r) = refl

module _ {text : List ℕ} {at len : ℕ} (q : Quoted text at len) where
  long : length (take len (drop at text)) ≡ len
  long = length-take-le len (drop at text) (omega (arith, q.fits, length-drop at text))

  pub quoted_long : 2 ≤ len
  quoted_long = omega (arith, str_short q.is, long)

  -- the opening quote, and what stands behind it
  opened : byte "\"" ∷ drop (at + 1) text ≡ take len (drop at text) ++ drop len (drop at text)
  opened =
      let l = quoted_long in
      let b : byte "\"" ≡ get_or text at 0 = sym (str_quote q.is) ∙ first_byte text at len (omega arith) in
      ap (λ (x : ℕ). x ∷ drop (at + 1) text) b
      ∙ ap (λ (n : ℕ). get_or text at 0 ∷ drop n text) (add-one at)
      ∙ sym (drop-cons text at 0 (omega (arith, q.fits)))
      ∙ sym (take-append-drop len (drop at text))

  whole : Closes (string lenient (drop (at + 1) text)) × (value_of (string lenient (drop (at + 1) text)) ≡ q.value)
  whole = str_whole (drop (at + 1) text) (drop len (drop at text)) q.is opened

  pub quoted_whole : (at + 1 ≤ length text) × Closes (string lenient (drop (at + 1) text))
  quoted_whole = let l = quoted_long in (omega (arith, q.fits), whole.0)

  between : slice at (at + len) text ≡ take len (drop at text)
  between =
      ap (drop at) (take-add at len text)
      ∙ drop_at (take at text) (take len (drop at text)) at (length-take-le at text (omega (arith, q.fits)))

  module _ {b : Bool} (e : b ≡ has (byte "\\") (slice at (at + len) text)) (buffer : List ℕ) where
    escape : has (byte "\\") (take len (drop at text)) ≡ b
    escape = ap (has (byte "\\")) (sym between) ∙ sym e

    pub quoted_plain : b ≡ false → Quotes (take len (drop at text)) at buffer (Text (at + 1) (len - 2)) buffer
    quoted_plain f =
        let n : len - 2 ≡ length q.value = omega (arith, (str_plain q.is (escape ∙ f)).0, long) in
        rw n (Quotes.plain q.is (escape ∙ f))

    module _ (f : b ≡ true) {n : ℕ} (l : n ≡ length (value_of (string lenient (drop (at + 1) text)))) where
      measured : n ≡ length q.value
      measured = l ∙ ap length whole.1

      pub quoted_short : length buffer < n → Quotes (take len (drop at text)) at buffer (Refused BufferTooShort no_place) buffer
      quoted_short h = Quotes.too_short q.is (escape ∙ f) (omega (arith, measured))

      pub quoted_copied : {after : List ℕ} {m : ℕ} → n ≤ length buffer
          → Copied buffer after (value_of (string lenient (drop (at + 1) text))) m
          → Quotes (take len (drop at text)) at buffer (Buffer 0 n) after
      quoted_copied {after} h c =
          let d : after ≡ q.value ++ drop (length q.value) buffer = rw (whole.1, zero-add (length q.value)) at c.put.is in
          rw (d, measured) (Quotes.copied q.is (escape ∙ f) (omega (arith, measured)))

pub ruleset quotes = (quoted_long, quoted_whole, quoted_plain, quoted_short, quoted_copied)

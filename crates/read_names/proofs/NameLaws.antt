-- A name after a token's first byte, from what its functions answer: a word, a string, or neither. Assumes nothing.
use Prim.Native.Nat.{ℕ, ◌+◌, ◌-◌, ◌≤◌, ◌<◌}
use mathlib.Core.Path.{◌≡◌, refl, sym, ap, ◌∙◌}
use mathlib.Core.List.{List, [], ◌∷◌}
use native.Mathlib.Omega.{arith}
use lib.ListN.{length, get_or, take, drop, length-append, length-drop}
use lib.Seq.{take-append_seam, length-take-le}
use Rattle.wat.specs.declared.LexError.{LexError}
use Rattle.wat.specs.declared.LexError.TheVariants.{InvalidUtf8Id}
use Rattle.wat.specs.declared.Refusal.{Refusal}
use Rattle.wat.specs.declared.Refusal.TheVariants.{Lexical, BufferTooShort}
use Rattle.wat_values.specs.declared.NameKind.{NameKind}
use Rattle.wat_values.specs.{Answered.Reading, Named.NameReading}
use Rattle.wat_values.specs.Answered as reading
use Rattle.wat_values.specs.Named.{Refused, Text, Buffer}
use Rattle.std.specs.Prelude.{Ok, Err}
use Rattle.wat.specs.Checked.{Checked, Bad}
use Rattle.wat.specs.Bytes.{byte, has, Each}
use Rattle.wat.specs.Settings.{lenient}
use Rattle.wat.specs.Utf8.{Says}
use Rattle.wat.specs.Utf8Model.{checked}
use Rattle.wat.specs.Strings.{Str}
use Rattle.wat_values.specs.Values.{empty_name, Value, part, refused, copy_or_part, copied, Name}
use Rattle.wat_values.specs.Reading.{no_place, Handed, reading_of, Whose}
use Rattle.wat.proofs.Basics.{differ, never}
use Rattle.wat.proofs.Utf8Laws.{checked_says}
use Rattle.wat.proofs.Runs.{quote_no_idchar}
use Rattle.read_names.specs.Names.{Quoted, Quotes, tail, Sigiled, NameHanded}
use Rattle.read_names.proofs.HandLaws.{handed_part, handed_error, handed_left, handed_short, handed_copy, wrong_short, wrong_copy}
use Rattle.read_names.proofs.PlainLaws.{str_plain, str_escaped}
use Rattle.read_names.proofs.QuotedLaws.{first_byte, str_quote}

-- ---- before the name is looked at as a string

module _ {k : NameKind} {text : List ℕ} {offset len : ℕ} (s : Sigiled k text offset len) where
  long : length (take len (drop offset text)) ≡ len
  long = length-take-le len (drop offset text) (omega (arith, s.fits, length-drop offset text))

  pub name_some : 1 ≤ len
  name_some = omega (arith, long, ap length s.is)

  tail_long : length (tail text offset len) ≡ len - 1
  tail_long = omega (arith, long, ap length s.is)

  pub name_empty : (buffer : List ℕ) {e : LexError} → e ≡ empty_name k → len - 1 ≡ 0
      → NameHanded k (tail text offset len) offset buffer (Refused (Lexical e) offset) buffer
  name_empty buffer q z = rw q (go (tail text offset len) (tail_long ∙ z))
    where
      go : (w : List ℕ) → length w ≡ 0 → NameHanded k w offset buffer (Refused (Lexical (empty_name k)) offset) buffer
      go [] h =
          record { value = refused [] (empty_name k); is = Name.nothing; handed = handed_error offset buffer; whose = Whose.no_name }
      go (x ∷ w) h = absurd (omega arith)

  module _ (z : len - 1 ≡ 0 → ⊥) where
    pub name_within : offset + 1 < length text
    name_within = omega (arith, s.fits)

    head : get_or (tail text offset len) 0 0 ≡ get_or text (offset + 1) 0
    head = first_byte text (offset + 1) (len - 1) (omega arith)

    pub name_word_lem : (buffer : List ℕ) → (get_or text (offset + 1) 0 ≡ byte "\"" → ⊥)
        → NameHanded k (tail text offset len) offset buffer (Text k (offset + 1) (len - 1)) buffer
    name_word_lem buffer n = go s.named tail_long (λ q. n (sym head ∙ q))
      where
        go : {w : List ℕ} {v : Value} → Name k w v → length w ≡ len - 1 → (get_or w 0 0 ≡ byte "\"" → ⊥)
            → NameHanded k w offset buffer (Text k (offset + 1) (len - 1)) buffer
        go (Name.word {x = x} {w = w} h) l n =
            record { value = part 1 (x ∷ w); is = Name.word h; handed = handed_part offset buffer refl (sym l); whose = Whose.in_text }
        go Name.nothing l n = absurd (z (sym l))
        go (Name.quoted p u) l n = absurd (n (str_quote p))
        go (Name.quoted_nothing p) l n = absurd (n (str_quote p))
        go (Name.quoted_wrong p u) l n = absurd (n (str_quote p))

    pub name_quoted : get_or text (offset + 1) 0 ≡ byte "\"" → Quoted text (offset + 1) (len - 1)
    name_quoted q =
        let y = go s.named tail_long (head ∙ q) in
        record { fits = omega (arith, s.fits, name_some); value = y.0; is = y.1 }
      where
        go : {w : List ℕ} {v : Value} → Name k w v → length w ≡ len - 1 → get_or w 0 0 ≡ byte "\""
            → (v : List ℕ) × Str lenient w v
        go (Name.word (Each.next h r)) l q = absurd (never (rw q at h) quote_no_idchar)
        go Name.nothing l q = absurd (z (sym l))
        go (Name.quoted p u) l q = (_, p)
        go (Name.quoted_nothing p) l q = (_, p)
        go (Name.quoted_wrong p u) l q = (_, p)

-- ---- after its string is read

-- a copy lies in the buffer
pub names_room : {w buffer after : List ℕ} {at start n : ℕ} {r : Reading} → Quotes w at buffer r after
    → r ≡ reading.Buffer start n
    → n ≤ length after
names_room (Quotes.plain p h) q = differ (cc)
names_room (Quotes.too_short p h f) q = differ (cc)
names_room {buffer = buffer} {n = n} (Quotes.copied {v = v} p h f) q =
    let l : n ≡ length v = cc in
    omega (arith, length-append v (drop (length v) buffer))

module _ (k : NameKind) {w : List ℕ} (offset : ℕ) {buffer : List ℕ} where
  -- the name v is UTF-8 and not empty; or it is not UTF-8
  names_right : {r : NameReading} {after : List ℕ} (v : List ℕ) → Str lenient w v → 1 ≤ length v → Says v (Ok tt)
      → Handed offset (copy_or_part (has (byte "\\") w) 2 v) buffer (reading_of r) after → Whose k r
      → NameHanded k w offset buffer r after
  names_right [] p l u h o = absurd (omega arith)
  names_right (x ∷ v) p l u h o =
      record { value = copy_or_part (has (byte "\\") w) 2 (x ∷ v); is = Name.quoted p u; handed = h; whose = o }

  names_not : {x : Refusal} {at : ℕ} {after : List ℕ} {a b : ℕ} (v : List ℕ) → Str lenient w v → Says v (Bad a b)
      → Handed offset (refused (copied (has (byte "\\") w) v) (InvalidUtf8Id a b)) buffer (reading.Refused x at) after
      → NameHanded k w offset buffer (Refused x at) after
  names_not {a = a} {b = b} v p u h =
      record {
        value = refused (copied (has (byte "\\") w) v) (InvalidUtf8Id a b);
        is = Name.quoted_wrong p u;
        handed = h;
        whose = Whose.no_name;
      }

  pub names_empty : {r : Reading} {after : List ℕ} {start n : ℕ} {e : LexError} → Quotes w (offset + 1) buffer r after
      → r ≡ reading.Text start n → n ≡ 0 → e ≡ empty_name k
      → NameHanded k w offset buffer (Refused (Lexical e) offset) after
  names_empty (Quotes.plain {v = v} p h) q z y = rw y (go v p (cc))
    where
      go : (v : List ℕ) → Str lenient w v → length v ≡ 0
          → NameHanded k w offset buffer (Refused (Lexical (empty_name k)) offset) buffer
      go [] p l =
          record {
            value = refused [] (empty_name k);
            is = Name.quoted_nothing p;
            handed = handed_error offset buffer;
            whose = Whose.no_name;
          }
      go (x ∷ v) p l = absurd (omega arith)
  names_empty (Quotes.too_short p h f) q z y = differ (cc)
  names_empty (Quotes.copied p h f) q z y = differ (cc)

  -- a string that is not copied is UTF-8, because it is made of characters
  pub names_text : {r : Reading} {after : List ℕ} {start n : ℕ} → Quotes w (offset + 1) buffer r after
      → r ≡ reading.Text start n → (n ≡ 0 → ⊥)
      → NameHanded k w offset buffer (Text k start n) after
  names_text {start = start} {n = n} (Quotes.plain {v = v} p h) q z =
      let a : start ≡ offset + 1 + 1 = cc in
      let l : n ≡ length v = cc in
      names_right v p (omega arith) (str_plain p h).1 (handed_left offset buffer v 2 h (omega arith) l) Whose.in_text
  names_text (Quotes.too_short p h f) q z = differ (cc)
  names_text (Quotes.copied p h f) q z = differ (cc)

  -- the check of the buffer's part from 0 to n is that of the name, and a copy is not empty
  pub names_copied : {r : Reading} {after : List ℕ} {start n : ℕ} → Quotes w (offset + 1) buffer r after
      → r ≡ reading.Buffer start n → Says (take (n - 0) after) (Ok tt)
      → NameHanded k w offset buffer (Buffer k 0 n) after
  names_copied (Quotes.plain p h) q u = differ (cc)
  names_copied (Quotes.too_short p h f) q u = differ (cc)
  names_copied {n = n} (Quotes.copied {v = v} p h f) q u =
      let l : n ≡ length v = cc in
      let o : n - 0 ≡ length v = omega arith in
      names_right v p (str_escaped p h) (rw (o, take-append_seam v (drop (length v) buffer)) at u) (handed_copy offset buffer v 2 h f l)
      Whose.in_buffer

  pub names_wrong : {r : Reading} {after : List ℕ} {start n a b : ℕ} → Quotes w (offset + 1) buffer r after
      → r ≡ reading.Buffer start n → Says (take (n - 0) after) (Bad a b)
      → NameHanded k w offset buffer (Refused (Lexical (InvalidUtf8Id a b)) offset) after
  names_wrong (Quotes.plain p h) q u = differ (cc)
  names_wrong (Quotes.too_short p h f) q u = differ (cc)
  names_wrong {n = n} (Quotes.copied {v = v} p h f) q u =
      let l : n ≡ length v = cc in
      let o : n - 0 ≡ length v = omega arith in
      names_not v p (rw (o, take-append_seam v (drop (length v) buffer)) at u) (wrong_copy offset buffer v h f)

  -- a string that is neither left nor copied has no room; 32 comes before 22
  pub names_short : {r : Reading} {after : List ℕ} → Quotes w (offset + 1) buffer r after
      → ((a n : ℕ) → r ≡ reading.Text a n → ⊥) → ((a n : ℕ) → r ≡ reading.Buffer a n → ⊥)
      → NameHanded k w offset buffer (Refused BufferTooShort no_place) after
  names_short (Quotes.plain p h) n m = absurd (n _ _ refl)
  names_short (Quotes.too_short {v = v} p h f) n m = go (checked v) (checked_says v)
    where
      go : (c : Checked) → Says v c → NameHanded k w offset buffer (Refused BufferTooShort no_place) buffer
      go (Ok _) u = names_right v p (str_escaped p h) u (handed_short offset buffer v 2 h f) Whose.no_name
      go (Err e) u = names_not v p u (wrong_short offset buffer v h f)
  names_short (Quotes.copied p h f) n m = absurd (m _ _ refl)

pub ruleset begun = (name_some, name_empty, name_within, name_word_lem, name_quoted)

pub ruleset named = (begun, names_room, names_empty, names_text, names_copied, names_wrong, names_short)

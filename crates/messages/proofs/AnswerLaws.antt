-- What the code decides and leaves in the buffers is what the model answers. Assumes nothing.
use Prim.Native.Nat.{ℕ, ◌≤◌, ◌<◌}
use mathlib.Core.Path.{◌≡◌, sym, ap, ◌∙◌}
use mathlib.Core.Bool.{true, false, ◌&&◌, not}
use mathlib.Core.List.{List, [], ◌++◌}
use native.Mathlib.Omega.{arith}
use native.Mathlib.Nat.{zero-add}
use lib.Dec.{eqb}
use lib.ListN.{length, take, drop}
use borrow.Author.Tests.{lt-ltb, le-ltb, ne_eqb}
use Rattle.wat.specs.declared.Refusal.TheVariants.{BufferTooShort, NoMessage}
use Rattle.std.specs.Prelude.{Ok, Err}
use Rattle.wat.specs.{Bytes.bytes, Bytes.between, Chars.is_scalar, Chars.confusing}
use Rattle.wat.proofs.Basics.{between_in, between_under, between_over, between_true}
use Rattle.buffers.specs.Writing.{Added}
use Rattle.buffers.proofs.PutLaws.{put_none}
use Rattle.buffers.proofs.AddedLaws.{added_front, added_same}
use Rattle.messages.specs.Spelled.{hex, shown}
use Rattle.messages.specs.MessageModel.{known, showable, tellable, rest, message, fitted, answer}
use Rattle.messages.proofs.MessageLaws.{and_left}

-- ---- what the rest of a message is, by the number

pub rest_character : (n a b : ℕ) → 11 ≤ n → n ≤ 14 → rest n a b ≡ shown a ++ bytes "'"
unfolding rest
rest_character n a b h k = rw (between_in 11 14 n h k, rest)

pub rest_confusing : (n a b : ℕ) → n ≡ 21 → rest n a b ≡ shown a ++ bytes "'"
unfolding between rest
rest_confusing n a b q = rw q

pub rest_expected : (n a b : ℕ) → n ≡ 16 → rest n a b ≡ shown a ++ (bytes "' but found '" ++ (shown b ++ bytes "'"))
unfolding between rest
rest_expected n a b q = rw q

pub rest_hex : (n a b : ℕ) → n ≡ 19 → rest n a b ≡ hex a
unfolding between rest
rest_hex n a b q = rw q

pub no_rest :
    (n a b : ℕ) → between 11 14 n ≡ false → (n ≡ 21 → ⊥) → (n ≡ 16 → ⊥) → (n ≡ 19 → ⊥) → rest n a b ≡ []
unfolding rest
no_rest n a b range not21 not16 not19 = rw (range, ne_eqb n 21 not21, ne_eqb n 16 not16, ne_eqb n 19 not19, rest)

pub nothing_written : {d v : List ℕ} {at : ℕ} → v ≡ [] → at ≤ length d → Added d d at v at
nothing_written {d} {at = at} q h = added_same (sym q) (record { put = put_none d at h; ends = omega arith })

-- ---- whether there is a message, by the number

pub unknown : (n a b : ℕ) → known n ≡ false → false ≡ tellable n a b
unfolding tellable
unknown n a b k = rw k

pub tellable_character : (n a b : ℕ) → known n ≡ true → between 11 14 n ≡ true → is_scalar a ≡ tellable n a b
unfolding tellable showable
tellable_character n a b k range = rw (k, range, showable)

pub tellable_expected : (n a b : ℕ) → n ≡ 16 → is_scalar a && is_scalar b ≡ tellable n a b
unfolding between known showable tellable
tellable_expected n a b q = rw q

pub tellable_confusing : (n a b : ℕ) → n ≡ 21 → confusing a ≡ tellable n a b
unfolding between known showable tellable
tellable_confusing n a b q = rw q

pub tellable_other : (n a b : ℕ) → known n ≡ true → between 11 14 n ≡ false → (n ≡ 16 → ⊥) → (n ≡ 21 → ⊥)
    → true ≡ tellable n a b
unfolding tellable showable
tellable_other n a b k range not16 not21 = rw (k, range, ne_eqb n 16 not16, ne_eqb n 21 not21, showable)

pub tellable_known : (n a b : ℕ) → tellable n a b ≡ true → (10 ≤ n) × (n ≤ 24)
unfolding known tellable
tellable_known n a b t = between_true 10 24 n (and_left (between 10 24 n) (not (eqb n 15)) (and_left (known n) (showable n a b) t))

-- ---- the answer

pub untold : (n a b : ℕ) (buffer : List ℕ) → tellable n a b ≡ false → (Err NoMessage, buffer) ≡ answer n a b buffer
unfolding answer
untold n a b buffer t = rw (t, answer)

-- the message's own length
pub message_length : {text new m : List ℕ} {k : ℕ} → Added text new 0 m k → k ≡ length (take k new)
message_length {m = m} w = w.ends ∙ zero-add (length m) ∙ sym (ap length (added_front w))

-- a message put into the caller's buffer
pub fit : (n a b : ℕ) (buffer : List ℕ) → tellable n a b ≡ true → fitted (message n a b) buffer ≡ answer n a b buffer
unfolding answer
fit n a b buffer t = rw (t, answer)

pub cut :
    {text new buffer m : List ℕ} {k : ℕ} → Added text new 0 m k → length buffer < k
    → (Err BufferTooShort, buffer) ≡ fitted m buffer
unfolding fitted
cut {buffer = buffer} {m = m} w h = rw (lt-ltb (length buffer) (length m) (omega (arith, w.ends)), fitted)

pub delivered :
    {text new buffer left m : List ℕ} {k end : ℕ} → Added text new 0 m k → k ≤ length buffer
    → Added buffer left 0 (take k new) end
    → (Ok k, left) ≡ fitted m buffer
unfolding fitted
delivered {buffer = buffer} {left = left} {m = m} {k = k} w h p =
    let q = added_same (added_front w) p in
    let l : k ≡ length m = omega (arith, w.ends) in
    let z : left ≡ m ++ drop (length m) buffer = q.put.is ∙ ap (λ i. m ++ drop i buffer) (zero-add (length m)) in
    rw (le-ltb (length buffer) (length m) (omega arith), z, l, fitted)

-- for the tactics

pub ruleset asked =
    (unknown, tellable_character, tellable_expected, tellable_confusing, tellable_other, between_in, between_under, between_over)

pub ruleset rests =
    (rest_character, rest_confusing, rest_expected, rest_hex, no_rest, nothing_written, added_same, between_under, between_over)

pub ruleset answers = (tellable_known, untold, message_length)

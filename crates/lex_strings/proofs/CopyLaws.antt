-- Laws for the loops that measure and write what a whole string stands for. Assumes nothing.
use Prim.Native.Nat.{ℕ, ◌+◌, ◌-◌, ◌≤◌, ◌<◌}
use mathlib.Core.Path.{◌≡◌, refl, sym, ap, ◌∙◌}
use mathlib.Core.List.{List, [], ◌∷◌, ◌++◌}
use native.Mathlib.Omega.{arith}
use native.Mathlib.Nat.{zero-add}
use lib.ListN.{length, take, drop, set, length-append, length-drop, take-append-drop}
use lib.Seq.{length-take-le, drop-drop}
use Rattle.wat.specs.declared.Fault.{Fault}
use Rattle.wat.specs.Settings.{lenient}
use Rattle.wat.specs.StringModel.{quote, read}
use Rattle.buffers.specs.Writing.{Put}
use Rattle.buffers.proofs.PutLaws.{put_one, put_front, put_back, put_length}
use Rattle.lex_escapes.specs.Elements.{Element, Refuses}
use Rattle.std.specs.Prelude.{Bool, true, Option, is_some, IfSome}
use Rattle.lex_strings.specs.Raw.{Raws, Pairs}
use Rattle.lex_strings.specs.Parsing.{string, Closes, value_of, Copied}
use Rattle.lex_strings.proofs.PassLaws.{Passed, Onward, paired, raws_onward, element_onward}
use Rattle.lex_strings.proofs.PassLaws.{passed_none, passed_quote, passed_refused, passed_value}

-- raw characters stand for as many bytes as they are
pub raws_long : {s : List ℕ} {i j : ℕ} → Raws s i j → j - i ≡ length (take (j - i) (drop i s))
raws_long {s} {i} {j} r = sym (length-take-le (j - i) (drop i s) (omega (arith, length-drop i s, r.fits)))

-- a whole string is nowhere refused
pub never_refused :
    {s : List ℕ} {at i : ℕ} {w : List ℕ} {f : Fault} → Passed lenient s at i w → Refuses (drop i s) (read lenient (drop i s)) f
    → Closes (string lenient (drop at s)) → ⊥
never_refused {s} {at} {i} {w} {f} p x h = rw (passed_refused lenient s at i w p f x.is) at h

-- n bytes are what stands from `at` to i
pub record Measured (s : List ℕ) (at i n : ℕ) : Type 0 where
  pub value : List ℕ
  pub passed : Passed lenient s at i value
  pub long : n ≡ length value

pub measured_none : (s : List ℕ) (at : ℕ) → at ≤ length s → Measured s at at 0
measured_none s at h = record { value = []; passed = passed_none lenient s at h; long = refl }

module _ {s : List ℕ} {at i n : ℕ} (x : Measured s at i n) where
  pub measured_on : {j m : ℕ} {v : List ℕ} → Onward lenient s i j v → m ≡ length v → Measured s at j (n + m)
  measured_on {j} {m} {v} o q = record {
    value = x.value ++ v;
    passed = o.on at x.value x.passed;
    long = omega (arith, length-append x.value v, x.long);
  }

  -- past raw characters, and past an element
  pub measured_raws : {j : ℕ} → Raws s i j → Measured s at j (n + (j - i))
  measured_raws r = measured_on (raws_onward lenient s r) (raws_long r)

  pub measured_element :
      {k m : ℕ} {v : List ℕ} → Element (drop i s) (read lenient (drop i s)) k v → m ≡ length v
      → Measured s at (i + k) (n + m)
  measured_element r q = measured_on (element_onward lenient s r) q

  pub measured_pair :
      {b : Bool} (o : Option ℕ) → IfSome o (Pairs (drop i s)) → b ≡ is_some o → b ≡ true → Measured s at (i + 3) (n + 1)
  measured_pair o p q e = measured_element ((paired o p q e).1 lenient) refl

  pub measured_below : n ≤ length s
  measured_below = omega (arith, x.long, x.passed.short, x.passed.within)

  pub measured_quote : read lenient (drop i s) ≡ quote → n ≡ length (value_of (string lenient (drop at s)))
  measured_quote e = rw (passed_quote lenient s at i x.value x.passed e) x.long

-- the buffer was d and is e: its first n bytes are what stands from `at` to i, and what stood after them stays
pub record Written (s : List ℕ) (at i n : ℕ) (d e : List ℕ) : Type 0 where
  pub passed : Passed lenient s at i (take n e)
  pub room : n ≤ length e
  pub same : length e ≡ length d
  pub stays : drop n e ≡ drop n d

pub written_none : (s : List ℕ) (at : ℕ) (d : List ℕ) → at ≤ length s → Written s at at 0 d d
written_none s at d h = record { passed = passed_none lenient s at h; room = omega arith; same = refl; stays = refl }

module _ {s : List ℕ} {at i n : ℕ} {d e : List ℕ} (x : Written s at i n d e) where
  -- what stands next has room
  pub room_on :
      {j : ℕ} {v : List ℕ} → Onward lenient s i j v → Closes (string lenient (drop at s))
      → length (value_of (string lenient (drop at s))) ≤ length d → n + length v ≤ length e
  room_on {j} {v} o whole room =
      let w = take n e ++ v in
      let p = passed_value lenient s at j w (o.on at (take n e) x.passed) whole in
      omega (arith, p, length-append (take n e) v, length-take-le n e x.room, x.same)

  -- and once it is written there, the buffer begins with it too
  pub written_on :
      {j m : ℕ} {f v : List ℕ} → Onward lenient s i j v → m ≡ length v → Put e f n v → Written s at j (n + m) d f
  written_on {j} {m} {f} {v} o q p =
      let l = put_length e f n v p in
      let a : take (n + m) f ≡ take n e ++ v = rw q (put_front e f n v p) in
      record {
        passed = rw a (o.on at (take n e) x.passed);
        room = omega (arith, p.fits);
        same = omega (arith, x.same);
        stays =
            rw q
            (put_back e f n v p ∙ sym (drop-drop (length v) n e) ∙ ap (drop (length v)) x.stays ∙ drop-drop (length v) n d);
      }

  -- past raw characters, and past an element
  pub written_raws : {j : ℕ} {f : List ℕ} → Raws s i j → Put e f n (take (j - i) (drop i s)) → Written s at j (n + (j - i)) d f
  written_raws r p = written_on (raws_onward lenient s r) (raws_long r) p

  pub written_element :
      {k m : ℕ} {f v : List ℕ} → Element (drop i s) (read lenient (drop i s)) k v → m ≡ length v → Put e f n v
      → Written s at (i + k) (n + m) d f
  written_element r q p = written_on (element_onward lenient s r) q p

  module _ (whole : Closes (string lenient (drop at s))) (room : length (value_of (string lenient (drop at s))) ≤ length d) where
    pub room_raws : {j : ℕ} → Raws s i j → n + (j - i) ≤ length e
    room_raws r = omega (arith, room_on (raws_onward lenient s r) whole room, raws_long r)

    pub room_element : {k : ℕ} {v : List ℕ} → Element (drop i s) (read lenient (drop i s)) k v → n + length v ≤ length e
    room_element r = room_on (element_onward lenient s r) whole room

    -- for one byte
    pub room_byte : {k b : ℕ} → Element (drop i s) (read lenient (drop i s)) k (b ∷ []) → n < length e
    room_byte r = omega (arith, room_element r)

    pub written_byte :
        {k b : ℕ} → Element (drop i s) (read lenient (drop i s)) k (b ∷ []) → Written s at (i + k) (n + 1) d (set e n b)
    written_byte {k} {b} r = written_element r refl (put_one e n b (room_byte r))

  pub written_quote : read lenient (drop i s) ≡ quote → Copied d e (value_of (string lenient (drop at s))) n
  written_quote q =
      let l = length-take-le n e x.room in
      let c : take n e ++ drop (0 + length (take n e)) d ≡ e =
      rw (zero-add (length (take n e)), l, ← x.stays) (take-append-drop n e) in
      rw (passed_quote lenient s at i (take n e) x.passed q)
      (record { put = record { fits = omega (arith, x.same, x.room); is = sym c }; long = sym l })

-- what the two loops keep, and their answers
pub ruleset measures = (measured_none, measured_raws, measured_element, measured_below)

pub ruleset writes = (written_none, written_raws, written_element)

-- Each hidden character of a part of a text is found at the bytes 0xE2. Assumes nothing.
use Prim.Native.Nat.{ℕ, zero, suc, ◌+◌, ◌-◌, ◌*◌, ◌%◌, ◌≤◌, ◌<◌}
use mathlib.Core.Path.{◌≡◌, refl, sym, ap, subst, ◌∙◌}
use mathlib.Core.Logic.{⊎_elim}
use mathlib.Core.Bool.{Bool, true, false}
use mathlib.Core.List.{List, [], ◌∷◌, ◌++◌}
use native.Mathlib.Omega.{arith}
use native.Mathlib.Nat.{add_assoc, add-zero}
use native.Mathlib.Numerals.{add-one}
use lib.ListN.{length, get_or, take, drop, length-append, length-drop, get_or-append, get_or-eq_default}
use lib.Seq.{drop-cons, drop-drop, drop-append-add, get_or-append-add}
use borrow.Author.Tests.{le-ltb, lt-ltb}
use Rattle.wat.specs.Bytes.{Each, none, next}
use Rattle.wat.specs.Utf8.{Char, scalar, WellFormed, empty, more}
use Rattle.wat.specs.Chars.{confusing}
use Rattle.wat.specs.declared.Hidden.{Hidden}
use Rattle.wat.specs.declared.Hidden.TheVariants.{Clear as clear, Found as found}
use Rattle.wat.specs.LexModel.{beyond, hidden}
use Rattle.wat.proofs.Utf8Rows.{char_full}
use Rattle.wat.proofs.Basics.{below}
use Rattle.lex_classes.proofs.SearchLaws.{clear_carries}
use Rattle.std.specs.Prelude.{Option, Some, None}
use Rattle.lex_classes.specs.Scan as scan
use Rattle.lex_comments.specs.Find.{byte_at}
use Rattle.lex_classes.specs.Ask.{confusing_bytes}
use Rattle.lex_comments.specs.Confusing.{lead, confusing_at, before, hidden_in, Begins}
use Rattle.wat.specs.declared.Hidden.TheVariants.{Clear, Found}
use Rattle.lex_comments.proofs.HiddenChars.{lead_is, lead_not, char_tail_low, char_led, glance, glance_led, glance_plain}
use Rattle.lex_comments.proofs.HiddenChars.{glance_next, glanced, unled_hides, hides_led, led_plain, led_confusing, led_front}
use Rattle.lex_comments.proofs.FindLaws.{front, byte_behind, clear_also}
use Rattle.lex_classes.proofs.ConfusingLaws.{spread}

each_at : {w : List ℕ} (k : ℕ) → Each lead false w → k < length w → lead (get_or w k 0) ≡ false
each_at k none h = absurd (omega arith)
each_at zero (next e r) h = e
each_at (suc k) (next e r) h = each_at k r (omega arith)

-- what 0xE2 begins in a well-formed text is a character of three bytes
led_at : (c u : List ℕ) (k : ℕ) → Char c → k < length c → get_or c k 0 ≡ 0xE2 → Char (take 3 (drop k (c ++ u)))
led_at [] u k ch h e = absurd (char_full ch)
led_at (x ∷ c) u zero ch h e = rw (led_front x c u ch e) ch
led_at (x ∷ c) u (suc k) ch h e = absurd (lead_not _ (each_at k (char_tail_low ch) (omega arith)) e)

led_char : {t : List ℕ} (k : ℕ) → WellFormed t → k < length t → get_or t k 0 ≡ 0xE2 → Char (take 3 (drop k t))
led_char k empty h e = absurd (omega arith)
led_char k (more {c = c} {t = u} ch w) h e =
    ⊎_elim (λ l. led_at c u k ch l (sym (get_or-append c u 0 k l) ∙ e)) (λ l.
    let n = k - length c in
    let q : length c + n ≡ k = omega arith in
    let f : get_or u n 0 ≡ 0xE2 = sym (get_or-append-add c u n 0) ∙ ap (λ (m : ℕ). get_or (c ++ u) m 0) q ∙ e in
    let g : drop k (c ++ u) ≡ drop n u = ap (λ (m : ℕ). drop m (c ++ u)) (sym q) ∙ drop-append-add c u n in
    rw g (led_char n w (omega (arith, length-append c u)) f))
    (below k (length c))

-- ---- a part of the text

pub three_bytes : (s : List ℕ) (i : ℕ) → i + 3 ≤ length s
    → scalar (take 3 (drop i s)) ≡ get_or s i 0 % 0x10 * 0x1000 + get_or s (i + 1) 0 % 0x40 * 0x40 + get_or s (i + 2) 0 % 0x40
unfolding scalar
three_bytes s i h =
    let e : i + 2 ≡ suc (suc i) = omega arith in
    rw (add-one, e, drop-cons s i 0 (omega arith), drop-cons s (suc i) 0 (omega arith), drop-cons s (suc (suc i)) 0 (omega arith))

in_beyond : (i to n : ℕ) (h : Hidden) → hidden_in i to (beyond n h) ≡ hidden_in (i + n) to h
in_beyond i to n clear = refl
in_beyond i to n (found p c) = ap (λ (m : ℕ). before to m c) (sym (add_assoc i n p))

in_past : (i to : ℕ) (h : Hidden) → to ≤ i → hidden_in i to h ≡ Clear
in_past i to clear l = refl
in_past i to (found p c) l = rw (le-ltb (i + p) to (omega arith), before)

in_here : (i to c : ℕ) → i < to → hidden_in i to (found 0 c) ≡ Found i c
in_here i to c l = ap (λ (m : ℕ). before to m c) (add-zero i) ∙ rw (lt-ltb i to l, before)

-- a search for 0xE2 passes what may hide a character
unled_at : (s : List ℕ) (k : ℕ) → byte_at lead s k ≡ false → confusing_at s k ≡ false
unled_at s k = unled_hides (get_or s k 0) (get_or s (k + 1) 0) (get_or s (k + 2) 0)

pub led_begins : (s : List ℕ) (from to : ℕ) (o : Option ℕ) → scan.Finds (byte_at lead s) from to o → Begins s from to o
led_begins s from to None q = clear_also (confusing_at s) (unled_at s) q
led_begins s from to (Some k) q = (q.on, clear_also (confusing_at s) (unled_at s) q.clear)

-- a confusing character has three bytes
confusing_whole : (s : List ℕ) (k : ℕ) → confusing_at s k ≡ true → k + 3 ≤ length s
confusing_whole s k e =
    ⊎_elim (λ h. omega (arith, h)) (λ h.
    let z : get_or s (k + 2) 0 ≡ 0 = get_or-eq_default s 0 h in
    let w = spread (get_or s k 0) (get_or s (k + 1) 0) (get_or s (k + 2) 0) e in
    absurd (omega (arith, z, w.2)))
    (below (k + 2) (length s))

pub unhidden : (s : List ℕ) (k : ℕ) → length s < k + 3 → confusing_at s k ≡ false
unhidden s k h = go (confusing_at s k) refl
  where
    go : (b : Bool) → confusing_at s k ≡ b → confusing_at s k ≡ false
    go true e = absurd (omega (arith, h, confusing_whole s k e))
    go false e = e

-- nothing is found before the place i
pub record Seen (s : List ℕ) (from to i : ℕ) : Type 0 where
  pub on : from ≤ i
  pub within : i ≤ length s
  pub same : hidden_in i to (glance (drop i s)) ≡ hidden_in from to (hidden (suc (length (drop from s))) (drop from s))

module _ (s : List ℕ) (from to : ℕ) where
  pub seen_start : from ≤ length s → WellFormed (drop from s) → Seen s from to from
  seen_start h w =
      record { on = omega arith; within = h; same = ap (hidden_in from to) (sym (glanced (suc (length (drop from s))) (omega arith) w)) }

  seen_more : {i : ℕ} (n : ℕ) → Seen s from to i → i + n ≤ length s
      → glance (drop i s) ≡ beyond n (glance (drop (i + n) s)) → Seen s from to (i + n)
  seen_more {i} n p h e =
      record {
        on = omega (arith, p.on);
        within = h;
        same =
            sym (in_beyond i to n (glance (drop (i + n) s))) ∙ ap (hidden_in i to) (sym e) ∙ p.same;
      }

  pub seen_clear : (i : ℕ) → Seen s from to i → to ≤ i
      → Clear ≡ hidden_in from to (hidden (suc (length (drop from s))) (drop from s))
  seen_clear i p l = sym (in_past i to (glance (drop i s)) l) ∙ p.same

  module _ (k : ℕ) (p : Seen s from to k) (h : k < length s) where
    pub seen_next : confusing (scalar (take 3 (drop k s))) ≡ false → Seen s from to (k + 1)
    seen_next e =
        seen_more 1 p (omega arith)
        (ap glance (front s k h) ∙ glance_plain (get_or s k 0) (drop (k + 1) s)
        (ap (λ (l : List ℕ). confusing (scalar (take 3 l))) (sym (front s k h)) ∙ e))

    pub seen_found :
        lead (get_or s k 0) ≡ true → confusing (scalar (take 3 (drop k s))) ≡ true → k < to
        → Found k (scalar (take 3 (drop k s))) ≡ hidden_in from to (hidden (suc (length (drop from s))) (drop from s))
    seen_found l e b =
        let f : confusing (scalar (take 3 (get_or s k 0 ∷ drop (k + 1) s))) ≡ true =
        ap (λ (z : List ℕ). confusing (scalar (take 3 z))) (sym (front s k h)) ∙ e in
        let g : glance (drop k s) ≡ found 0 (scalar (take 3 (drop k s))) =
        ap glance (front s k h) ∙ glance_led (get_or s k 0) (drop (k + 1) s) l f
        ∙ ap (λ (z : List ℕ). found 0 (scalar (take 3 z))) (sym (front s k h)) in
        sym (in_here k to (scalar (take 3 (drop k s))) b) ∙ ap (hidden_in k to) (sym g) ∙ p.same

    module _ (w : WellFormed (drop from s)) where
      led_drop : lead (get_or s k 0) ≡ true → drop k s ≡ 0xE2 ∷ drop (k + 1) s
      led_drop l = front s k h ∙ ap (λ (y : ℕ). y ∷ drop (k + 1) s) (lead_is (get_or s k 0) l)

      -- the character that 0xE2 begins
      led : lead (get_or s k 0) ≡ true → Char (0xE2 ∷ take 2 (drop (k + 1) s))
      led l =
          let n = k - from in
          let q : from + n ≡ k = omega (arith, p.on) in
          let d : drop n (drop from s) ≡ 0xE2 ∷ drop (k + 1) s = drop-drop n from s ∙ ap (λ (m : ℕ). drop m s) q ∙ led_drop l in
          subst (λ (z : List ℕ). Char (take 3 z)) d
          (led_char n w (omega (arith, length-drop from s, p.on)) (byte_behind s from n k q ∙ lead_is (get_or s k 0) l))

      seen_one : confusing_at s k ≡ false → Seen s from to (k + 1)
      seen_one e = go (lead (get_or s k 0)) refl
        where
          go : (b : Bool) → lead (get_or s k 0) ≡ b → Seen s from to (k + 1)
          go true l =
              let c = byte_behind s (k + 1) 0 (k + 1) (omega arith) in
              let d = byte_behind s (k + 1) 1 (k + 2) (omega arith) in
              let f : confusing_bytes 0xE2 (get_or s (k + 1) 0) (get_or s (k + 2) 0) ≡ false = rw (lead_is (get_or s k 0) l) at e in
              let plain = led_plain (drop (k + 1) s) (led l) (rw (c, d) f) in
              seen_next (ap (λ (z : List ℕ). confusing (scalar (take 3 z))) (led_drop l) ∙ plain)
          go false l = seen_more 1 p (omega arith) (ap glance (front s k h) ∙ glance_next (get_or s k 0) (drop (k + 1) s) l)

  -- nothing before k is confusing
  pub seen_plain : (i k : ℕ) → WellFormed (drop from s) → Seen s from to i → i ≤ k → k ≤ length s
      → scan.Clear (confusing_at s) i k → Seen s from to k
  seen_plain i k w p on m q =
      clear_carries (λ j. Seen s from to j) (confusing_at s) i k on q p
      (λ j h r e. seen_one j r (omega (arith, h, m)) w e)

-- what the search finds is what is hidden
module _ (s : List ℕ) (from to : ℕ) (w : WellFormed (drop from s)) (h : from ≤ to) (l : to ≤ length s) where
  reached : (k : ℕ) → from ≤ k → k ≤ to → scan.Clear (confusing_at s) from k → Seen s from to k
  reached k a b q = seen_plain s from to from k w (seen_start s from to (omega arith) w) a (omega arith) q

  pub hidden_none : scan.Clear (confusing_at s) from to → Clear ≡ hidden_in from to (hidden (suc (length (drop from s))) (drop from s))
  hidden_none q = seen_clear s from to to (reached to h (omega arith) q) (omega arith)

  module _ (k : ℕ) (q : scan.Earliest (confusing_at s) from to k) where
    pub hidden_whole : k + 3 ≤ length s
    hidden_whole = confusing_whole s k q.passes

    pub hidden_some : (c : ℕ) → c ≡ scalar (take 3 (drop k s))
        → Found k c ≡ hidden_in from to (hidden (suc (length (drop from s))) (drop from s))
    hidden_some c e =
        let i : k < length s = omega (arith, q.before) in
        let u : lead (get_or s k 0) ≡ true = hides_led (get_or s k 0) (get_or s (k + 1) 0) (get_or s (k + 2) 0) q.passes in
        let d : drop k s ≡ 0xE2 ∷ drop (k + 1) s =
        front s k i ∙ ap (λ (y : ℕ). y ∷ drop (k + 1) s) (lead_is (get_or s k 0) u) in
        let a = byte_behind s (k + 1) 0 (k + 1) (omega arith) in
        let b = byte_behind s (k + 1) 1 (k + 2) (omega arith) in
        let f : confusing_bytes 0xE2 (get_or s (k + 1) 0) (get_or s (k + 2) 0) ≡ true = rw (lead_is (get_or s k 0) u) at q.passes in
        let g : confusing (scalar (take 3 (drop k s))) ≡ true =
        ap (λ (z : List ℕ). confusing (scalar (take 3 z))) d ∙ led_confusing (drop (k + 1) s) (rw (a, b) f) in
        rw e (seen_found s from to k (reached k q.on (omega (arith, q.before)) q.clear) i u g q.before)

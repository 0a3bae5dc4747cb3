-- The standard's comments, by characters, where ours go by bytes: the two say the same. Assumes nothing.
use Prim.Native.Nat.{ℕ, zero, suc, ◌≤◌, ◌<◌}
use mathlib.Core.Path.{◌≡◌, refl, sym, ap, ◌∙◌, subst}
use mathlib.Core.Logic.{⊎_elim}
use mathlib.Core.Bool.{Bool, true, false, ◌||◌}
use mathlib.Core.List.{List, [], ◌∷◌, ◌++◌, append-nil, append_assoc}
use native.Mathlib.Omega.{arith}
use lib.Dec.{eqb}
use lib.ListN.{length, drop, get_or, length-append}
use borrow.Author.Tests.{ne_eqb}
use Rattle.wat.specs.Bytes.{bytes, byte, has, Each}
use Rattle.wat.specs.Utf8.{Char, scalar, WellFormed}
use Rattle.wat.specs.Chars.{newline}
use Rattle.wat.specs.Comments.{LineComment, Block}
use Rattle.wat.proofs.Basics.{differ, never, below, cut_off}
use Rattle.wat.proofs.Utf8Rows.{char_full}
use Rattle.wat.proofs.Utf8Laws.{chars_meet}
use Rattle.wat.proofs.Scalars.{alone_at, ascii, after_ascii}
use Rattle.wat.proofs.Shapes.{each_append}
use Rattle.wat.proofs.Boundaries.{High, char_high, cut, last_block}
use Rattle.wat.proofs.Blocks.{block_some}

-- a character that begins with an ASCII byte is that byte
begins_ascii : (x : ℕ) (c : List ℕ) → x < 0x80 → Char (x ∷ c) → c ≡ []
begins_ascii x c h ch = sym (chars_meet (x ∷ c) (x ∷ []) [] c ch (ascii x h) (append-nil (x ∷ c))).1

-- a test for ASCII bytes that fails at the scalar value fails at each byte
each_byte : (f : ℕ → Bool) → ((x : ℕ) → 0x80 ≤ x → f x ≡ false) → (c : List ℕ) → Char c
    → f (scalar c) ≡ false → Each f false c
unfolding scalar
each_byte f high [] ch e = Each.none
each_byte f high (x ∷ c) ch e = ⊎_elim low (λ h. Each.next (high x h) (all (char_high ch))) (below x 0x80)
  where
    all : {t : List ℕ} → High t → Each f false t
    all High.none = Each.none
    all (High.next {x = y} k r) = Each.next (high y k) (all r)

    low : x < 0x80 → Each f false (x ∷ c)
    low h = let q : c ≡ [] = begins_ascii x c h ch in rw q (Each.next (rw q at e) Each.none)

split : {f : ℕ → Bool} {b : Bool} (s t : List ℕ) → Each f b (s ++ t) → Each f b s × Each f b t
split [] t e = (Each.none, e)
split (x ∷ s) t (Each.next p r) = let j = split s t r in (Each.next p j.0, j.1)

-- ---- line comments

-- linechar*: characters, each neither line feed nor carriage return
pub data Linechars : List ℕ → Type 0 where
  none : Linechars []
  next : {c t : List ℕ} → Char c → (scalar c ≡ 0x0A → ⊥) → (scalar c ≡ 0x0D → ⊥) → Linechars t → Linechars (c ++ t)

newline_not : (n : ℕ) → (n ≡ 0x0A → ⊥) → (n ≡ 0x0D → ⊥) → newline n ≡ false
unfolding newline has
newline_not n p q = simp (ne_eqb 0x0A n (λ e. p (sym e)), ne_eqb 0x0D n (λ e. q (sym e)))

no_newline : (b : ℕ) → b < 0x80 → newline b ≡ true → {c : List ℕ} → Char c → Each newline false c → scalar c ≡ b → ⊥
no_newline b h n {c} ch e q = go e (alone_at c b ch q h)
  where
    go : {l : List ℕ} → Each newline false l → l ≡ b ∷ [] → ⊥
    go Each.none r = differ (cc)
    go (Each.next {x = x} p i) r = let z : x ≡ b = cc in never n (rw z at p)

pub line_standard : {t : List ℕ} → WellFormed t → LineComment (bytes ";;" ++ t) → Linechars t
unfolding newline has
line_standard {t} w l = go w (inside l refl)
  where
    inside : {s : List ℕ} → LineComment s → s ≡ bytes ";;" ++ t → Each newline false t
    inside (LineComment.line {t = u} e) q = let z : u ≡ t = cc in rw z at e

    go : {t : List ℕ} → WellFormed t → Each newline false t → Linechars t
    go WellFormed.empty e = Linechars.none
    go (WellFormed.more {c = c} {t = r} ch g) e =
        let s = split c r e in
        Linechars.next ch (no_newline 0x0A (omega arith) refl ch s.0) (no_newline 0x0D (omega arith) refl ch s.0) (go g s.1)

pub standard_line : {t : List ℕ} → Linechars t → LineComment (bytes ";;" ++ t)
standard_line l = LineComment.line (go l)
  where
    high : (x : ℕ) → 0x80 ≤ x → newline x ≡ false
    high x h = newline_not x (omega arith) (omega arith)

    go : {t : List ℕ} → Linechars t → Each newline false t
    go Linechars.none = Each.none
    go (Linechars.next {c = c} ch p q r) = each_append (each_byte newline high c ch (newline_not (scalar c) p q)) (go r)

-- ---- block comments

-- blockchar* `;)`: characters, where `;` and `(` look ahead
pub data Blockchars : List ℕ → Type 0 where
  close : Blockchars (bytes ";)")
  char : {c t : List ℕ} → Char c → (scalar c ≡ byte ";" → ⊥) → (scalar c ≡ byte "(" → ⊥) → Blockchars t
      → Blockchars (c ++ t)
  semicolon : {t : List ℕ} → ((v : List ℕ) → t ≡ byte ")" ∷ v → ⊥) → Blockchars t → Blockchars (byte ";" ∷ t)
  paren : {t : List ℕ} → ((v : List ℕ) → t ≡ byte ";" ∷ v → ⊥) → Blockchars t → Blockchars (byte "(" ∷ t)
  nested : {u t : List ℕ} → Blockchars u → Blockchars t → Blockchars (bytes "(;" ++ (u ++ t))

marks : ℕ → Bool
marks x = eqb x 0x3B || eqb x 0x28

marks_not : (n : ℕ) → (n ≡ 0x3B → ⊥) → (n ≡ 0x28 → ⊥) → marks n ≡ false
unfolding marks
marks_not n p q = rw (ne_eqb n 0x3B p, ne_eqb n 0x28 q)

others : {c t : List ℕ} → Each marks false c → Block t → Block (c ++ t)
unfolding marks
others Each.none b = b
others (Each.next {x = x} e r) b =
    Block.other (λ (q : x ≡ 0x3B). never {x = marks 0x3B} refl (rw q at e))
    (λ (q : x ≡ 0x28). never {x = marks 0x28} refl (rw q at e)) (others r b)

-- what follows a look-ahead
ahead : (t : List ℕ) (b x : ℕ) → ((v : List ℕ) → t ≡ b ∷ v → ⊥)
    → ((y : ℕ) (u : List ℕ) → (y ≡ b → ⊥) → Block (y ∷ u) → Block (x ∷ y ∷ u)) → Block t → Block (x ∷ t)
ahead [] b x n f r = absurd (block_some r refl)
ahead (y ∷ u) b x n f r = f y u (λ e. n u (ap (λ (z : ℕ). z ∷ u) e)) r

pub standard_block : {t : List ℕ} → Blockchars t → Block t
standard_block Blockchars.close = Block.close
standard_block (Blockchars.char {c = c} ch p q r) =
    others (each_byte marks (λ x h. marks_not x (omega arith) (omega arith)) c ch (marks_not (scalar c) p q)) (standard_block r)
standard_block (Blockchars.semicolon n r) = ahead _ 0x29 0x3B n (λ y u p b. Block.semicolon p b) (standard_block r)
standard_block (Blockchars.paren n r) = ahead _ 0x3B 0x28 n (λ y u p b. Block.paren p b) (standard_block r)
standard_block (Blockchars.nested a b) = Block.nested (standard_block a) (standard_block b)

-- the bytes of a character's rest go on in the comment
onward : {c t : List ℕ} (y r : List ℕ) → High c → Block t → t ++ r ≡ c ++ y → (v : List ℕ) × (t ≡ c ++ v) × Block v
onward {t = t} y r High.none b e = (t, refl, b)
onward y r (High.next k h) Block.close e = absurd (omega (arith, ap (λ (l : List ℕ). get_or l 0 0) e))
onward y r (High.next k h) (Block.other {x = x} {t = t} p q b) e =
    let i = onward {t = t} y r h b (ap (drop 1) e) in
    (i.0, cc (i.1, ap (λ (l : List ℕ). get_or l 0 0) e), i.2)
onward y r (High.next k h) (Block.semicolon n b) e = absurd (omega (arith, ap (λ (l : List ℕ). get_or l 0 0) e))
onward y r (High.next k h) (Block.paren n b) e = absurd (omega (arith, ap (λ (l : List ℕ). get_or l 0 0) e))
onward y r (High.next k h) (Block.nested a b) e = absurd (omega (arith, ap (λ (l : List ℕ). get_or l 0 0) e))

-- what is left after a comment is well formed
after_block : {u : List ℕ} (r : List ℕ) → Block u → WellFormed (u ++ r) → WellFormed r
after_block {u} r b w =
    let l = last_block b in
    let e : u ++ r ≡ l.front ++ (l.byte ∷ r) =
    ap (λ (z : List ℕ). z ++ r) l.seam ∙ append_assoc l.front (l.byte ∷ []) r in
    after_ascii l.byte r l.low (cut w l.front l.byte r e l.low).1

-- in at most n bytes
blockchars : (n : ℕ) {u : List ℕ} (r : List ℕ) → length u < n → WellFormed (u ++ r) → Block u → Blockchars u
blockchars zero r h w b = absurd (omega arith)
blockchars (suc n) r h w Block.close = Blockchars.close
blockchars (suc n) r h w (Block.other {x = x} {t = t} p q b) = go w refl (λ v i g k. blockchars n r i g k)
  where
    Next : Type 0
    Next = (v : List ℕ) → length v < n → WellFormed (v ++ r) → Block v → Blockchars v

    char : (c y : List ℕ) → Char c → WellFormed y → c ++ y ≡ x ∷ (t ++ r) → Next → Blockchars (x ∷ t)
    char [] y ch g e ih = absurd (char_full ch)
    char (z ∷ c) y ch g e ih =
        let i : z ≡ x = ap (λ (l : List ℕ). get_or l 0 0) e in
        let o = onward y r (char_high ch) b (sym (ap (drop 1) e)) in
        let j : y ≡ o.0 ++ r = cut_off c (ap (drop 1) e ∙ ap (λ (l : List ℕ). l ++ r) o.1 ∙ append_assoc c o.0 r) in
        let is : (d : ℕ) → scalar (z ∷ c) ≡ d → d < 0x80 → x ≡ d =
        λ d k l. sym i ∙ ap (λ (l : List ℕ). get_or l 0 0) (alone_at (z ∷ c) d ch k l) in
        let m : length o.0 < n = omega (arith, ap length o.1, length-append c o.0) in
        let f : Blockchars ((z ∷ c) ++ o.0) =
        Blockchars.char ch (λ k. p (is 0x3B k (omega arith))) (λ k. q (is 0x28 k (omega arith))) (ih o.0 m (rw j at g) o.2) in
        subst Blockchars (cc (i, o.1)) f

    go : {s : List ℕ} → WellFormed s → s ≡ x ∷ (t ++ r) → Next → Blockchars (x ∷ t)
    go WellFormed.empty e ih = differ (cc)
    go (WellFormed.more {c = c} {t = y} ch g) e ih = char c y ch g e ih
blockchars (suc n) r h w (Block.semicolon {x = x} {t = t} k b) =
    Blockchars.semicolon (λ v e. k (ap (λ (l : List ℕ). get_or l 0 0) e))
    (blockchars n r (omega arith) (after_ascii 0x3B (x ∷ (t ++ r)) (omega arith) w) b)
blockchars (suc n) r h w (Block.paren {x = x} {t = t} k b) =
    Blockchars.paren (λ v e. k (ap (λ (l : List ℕ). get_or l 0 0) e))
    (blockchars n r (omega arith) (after_ascii 0x28 (x ∷ (t ++ r)) (omega arith) w) b)
blockchars (suc n) r h w (Block.nested {u = u} {t = t} a b) =
    let g : WellFormed (u ++ (t ++ r)) =
    rw append_assoc at (after_ascii 0x3B ((u ++ t) ++ r) (omega arith) (after_ascii 0x28 (0x3B ∷ ((u ++ t) ++ r)) (omega arith) w)) in
    Blockchars.nested (blockchars n (t ++ r) (omega (arith, length-append u t)) g a)
    (blockchars n r (omega (arith, length-append u t)) (after_block (t ++ r) a g) b)

pub block_standard : {u : List ℕ} (r : List ℕ) → WellFormed (u ++ r) → Block u → Blockchars u
block_standard {u} r w b = blockchars (suc (length u)) r (omega arith) w b

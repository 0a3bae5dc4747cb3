-- A number written into a buffer, a line of its parts, and lines one behind the other. Assumes nothing.
use Prim.Native.Nat.{ℕ, ◌+◌, ◌*◌, ◌≤◌, ◌<◌}
use mathlib.Core.Path.{◌≡◌, sym, ap, ◌∙◌}
use mathlib.Core.List.{List, [], ◌∷◌, ◌++◌, append_assoc, append-nil}
use native.Mathlib.Omega.{arith}
use lib.ListN.{length, take, set, length-append}
use lib.Seq.{length-take-le}
use Rattle.wat.specs.declared.TokenKind.{TokenKind}
use Rattle.wat.specs.Bytes.{bytes}
use Rattle.wat.specs.Division.{Piece, lengths}
use Rattle.io.specs.Counts.{IsPrefixLen}
use Rattle.io.specs.Digits.{last_digits, IsDigitCount}
use Rattle.buffers.specs.Writing.{Added}
use Rattle.buffers.proofs.AddedLaws.{added_length, added_same, added_byte}
use Rattle.tokens_spelt.specs.Details.{name, detail}
use Rattle.tokens_spelt.proofs.LengthLaws.{name_short, detail_short}
use Rattle.tokens_lines.specs.Lines.{decimal, line, lines, last_line}
use Rattle.tokens_lines.specs.Room.{small, longest_small, longest_line}
use Rattle.tokens_lines.proofs.DecimalLaws.{decimal_digits, decimal_short}

-- as many bytes as were written are there
pub added_counts : {d e v : List ℕ} {to end : ℕ} → Added d e to v end → IsPrefixLen end e
added_counts {e = e} {end = end} a =
    let h : end ≤ length e = omega (arith, a.put.fits, a.ends, added_length a) in
    (h, sym (length-take-le end e h))

-- the figures of a number, and a byte after them
pub number_added : {d e : List ℕ} {to end : ℕ} (figures : List ℕ) (k n b : ℕ) → IsDigitCount 10 1 n k
    → take k figures ≡ last_digits 10 k n
    → Added d e to (take k figures) end → end < length d
    → Added d (set e end b) to (decimal n ++ (b ∷ [])) (end + 1) × (n < small → end + 1 ≤ to + longest_small)
number_added figures k n b f q a l =
    let x = added_same (q ∙ decimal_digits k n f) a in
    (added_byte b x l, λ h. omega (arith, decimal_short n h, x.ends))

-- ---- one line

pub line_short : (k : TokenKind) (offset len : ℕ) → offset < small → len < small → length (line k offset len) ≤ longest_line
unfolding line
line_short k offset len h i =
    simp length-append (omega (arith, name_short k, decimal_short offset h, decimal_short len i, detail_short k))

regroup : (n a b d sp nl : List ℕ)
    → (n ++ sp) ++ ((a ++ sp) ++ ((b ++ sp) ++ (d ++ nl))) ≡ n ++ (sp ++ (a ++ (sp ++ (b ++ (sp ++ (d ++ nl))))))
regroup n a b d sp nl = simp append_assoc

pub line_joined : (k : TokenKind) (offset len : ℕ)
    → (name k ++ bytes " ") ++ ((decimal offset ++ bytes " ") ++ ((decimal len ++ bytes " ") ++ (detail k ++ bytes "\n")))
    ≡ line k offset len
unfolding line
line_joined k offset len = regroup (name k) (decimal offset) (decimal len) (detail k) (bytes " ") (bytes "\n")

pub last_joined : (word : List ℕ) (a b : ℕ) → word ++ ((decimal a ++ bytes " ") ++ (decimal b ++ bytes "\n")) ≡ last_line word a b
unfolding last_line
last_joined word a b = ap (λ (x : List ℕ). word ++ x) (append_assoc (decimal a) (bytes " ") (decimal b ++ bytes "\n"))

-- ---- the lines of tokens one behind the other

-- one token more
pub lines_more : (at : ℕ) (us : List Piece) (t : Piece)
    → lines at (us ++ (t ∷ [])) ≡ lines at us ++ line t.kind (at + lengths us) t.len
unfolding lines
lines_more at [] t = let z : at + 0 ≡ at = omega arith in rw z (append-nil (line t.kind at t.len))
lines_more at (u ∷ us) t =
    let z : at + (u.len + lengths us) ≡ at + u.len + lengths us = omega arith in
    let l = line u.kind at u.len in
    let m = line t.kind (at + u.len + lengths us) t.len in
    rw (z, append_assoc l (lines (at + u.len) us) m, lines_more (at + u.len) us t)

pub lines_short : (at : ℕ) (ts : List Piece) → at + lengths ts < small → length (lines at ts) ≤ longest_line * length ts
unfolding lines
lines_short at [] h = omega arith
lines_short at (t ∷ ts) h =
    let i = lines_short (at + t.len) ts (omega arith) in
    let l = line_short t.kind at t.len (omega arith) (omega arith) in
    omega (arith, length-append (line t.kind at t.len) (lines (at + t.len) ts))
